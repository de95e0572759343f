-- Members and sets can be told apart, and whether two sets share a member of a third.
use Rattle.std.proofs.Common.{◌≡◌, ◌⊎◌, ℕ, List, [], ◌∷◌, refl, ap, ap₂, inl, inr, ⊎_elim}
use Rattle.std.proofs.lemmas.Bool.Decides.{eqb_tells}
use Rattle.run_theory.specs.Lists.{IsIn}
use Rattle.sig_core.specs.declared.member.Member.{Member}
use Rattle.sig_core.specs.declared.view.View.{View}
use Rattle.view_laws.specs.Sets.{all_of}

abbrev pub IsDecided : Type 0 → Type 0
IsDecided P = P ⊎ (P → ⊥)

pub decide_number : (m n : ℕ) → IsDecided (m ≡ n)
decide_number m n = ⊎_elim (λ h. inl h.1) (λ h. inr h.1) (eqb_tells m n)

pub decide_both : {P Q : Type 0} → IsDecided P → IsDecided Q → IsDecided (P × Q)
decide_both (inl p) (inl q) = inl (p, q)
decide_both (inl p) (inr isnt) = inr (λ h. isnt h.1)
decide_both (inr isnt) q = inr (λ h. isnt h.0)

-- what is decided of one is decided of all that comes to the same
pub decide_as : {P Q : Type 0} → (P → Q) → (Q → P) → IsDecided P → IsDecided Q
decide_as to from (inl p) = inl (to p)
decide_as to from (inr isnt) = inr (λ q. isnt (from q))

pub decide_member : (one other : Member) → IsDecided (one ≡ other)
decide_member one other =
    decide_as (λ e. ap₂ (λ (node start : ℕ). record { node = node; start = start }) e.0 e.1)
    (λ e. (ap (λ (m : Member). m.node) e, ap (λ (m : Member). m.start) e))
    (decide_both (decide_number one.node other.node) (decide_number one.start other.start))

pub decide_members : (xs ys : List Member) → IsDecided (xs ≡ ys)
decide_members [] [] = inl refl
decide_members [] (y ∷ ys) = inr (λ e. cc)
decide_members (x ∷ xs) [] = inr (λ e. cc)
decide_members (x ∷ xs) (y ∷ ys) =
    decide_as (λ e. ap₂ (λ m ms. m ∷ ms) e.0 e.1) (λ e. (cc, cc))
    (decide_both (decide_member x y) (decide_members xs ys))

pub decide_view : (one other : View) → IsDecided (one ≡ other)
decide_view one other =
    decide_as (λ e. same e.0 e.1.0 e.1.1)
    (λ e. (ap (λ (v : View). v.number) e, (ap (λ (v : View). v.full) e, ap (λ (v : View). v.starting) e)))
    (decide_both (decide_number one.number other.number)
    (decide_both (decide_members one.full other.full) (decide_members one.starting other.starting)))
  where
    same : one.number ≡ other.number → one.full ≡ other.full → one.starting ≡ other.starting → one ≡ other
    same number full starting =
        ap₂ (λ (n : ℕ) (ms : List Member × List Member). record { number = n; full = ms.0; starting = ms.1 }) number
        (ap₂ (λ (f s : List Member). (f, s)) full starting)

-- two views that can't differ are the same
pub stable_view : (one other : View) → ((one ≡ other → ⊥) → ⊥) → one ≡ other
stable_view one other k = ⊎_elim (λ e. e) (λ isnt. absurd (k isnt)) (decide_view one other)

pub decide_in : (x : Member) (xs : List Member) → IsDecided (IsIn x xs)
decide_in x [] = inr (λ i. i)
decide_in x (y ∷ ys) = go (decide_member x y) (decide_in x ys)
  where
    go : IsDecided (x ≡ y) → IsDecided (IsIn x ys) → IsDecided (IsIn x (y ∷ ys))
    go (inl e) i = inl (inl e)
    go (inr isnt) (inl i) = inl (inr i)
    go (inr isnt) (inr none) = inr (⊎_elim isnt none)

-- two sets share a member that is of a third too
pub record Meets (base one other : View) : Type 0 where
  pub member : Member
  pub in_base : IsIn member (all_of base)
  pub in_one : IsIn member (all_of one)
  pub in_other : IsIn member (all_of other)

-- one of these members is of both sets
abbrev Shares : View → View → List Member → Type 0
Shares base other xs = (x : Member) × IsIn x xs × IsIn x (all_of base) × IsIn x (all_of other)

share_next : (base other : View) (x : Member) (xs : List Member)
    → IsDecided (IsIn x (all_of base) × IsIn x (all_of other)) → IsDecided (Shares base other xs)
    → IsDecided (Shares base other (x ∷ xs))
share_next base other x xs (inl h) d = inl (x, inl refl, h.0, h.1)
share_next base other x xs (inr isnt) (inl h) = inl (h.0, inr h.1, h.2, h.3)
share_next base other x xs (inr isnt) (inr none) =
    inr (λ h. none (h.0, ⊎_elim (λ e. absurd (isnt (rw e at h.2, rw e at h.3))) (λ i. i) h.1, h.2, h.3))

decide_shares : (base other : View) (xs : List Member) → IsDecided (Shares base other xs)
decide_shares base other [] = inr (λ h. h.1)
decide_shares base other (x ∷ xs) =
    share_next base other x xs (decide_both (decide_in x (all_of base)) (decide_in x (all_of other)))
    (decide_shares base other xs)

pub decide_meets : (base one other : View) → IsDecided (Meets base one other)
decide_meets base one other =
    decide_as (λ h. record { member = h.0; in_base = h.2; in_one = h.1; in_other = h.3 })
    (λ m. (m.member, m.in_one, m.in_base, m.in_other)) (decide_shares base other (all_of one))
