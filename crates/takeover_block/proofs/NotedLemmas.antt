-- Where a record goes among what is gathered.
use Rattle.std.proofs.Common.{◌≡◌, ◌∙◌, ◌⊎◌, inl, inr, ℕ, suc, Bool, true, false, List}
use Rattle.std.proofs.Common.{[], ◌∷◌, ◌++◌, take, drop, refl, ap, sym, subst}
use Rattle.std.proofs.lemmas.List.{take-append-drop}
use Rattle.std.specs.Prelude.{Option, None, Some, insert, position, slice_get, slice_set}
use Rattle.run_theory.specs.Lists.{Each}
use Rattle.run_theory.proofs.Pasts.{each_after, each_append, each_before}
use Rattle.sig_core.specs.declared.member.TxId.{TxId}
use Rattle.sig_core.specs.Same.{same_tx}
use Rattle.sig_core.proofs.Firsts.{behind, nothing_behind, place_by, position-cons}
use Rattle.sig_core.proofs.Keys.{same_tx-self}
use Rattle.sig_core.proofs.TxLemmas.{same_tx-is}
use Rattle.takeover_block.specs.declared.gathered.Gathered.{Gathered}
use Rattle.takeover_block.specs.Gathered.{is_of, noted, noted_at, noted_by, place_for, told_first, told_more}

-- none of these is the transaction
abbrev pub Apart : TxId → List Gathered → Type 0
Apart tx gs = Each (λ g. g.tx ≡ tx → ⊥) gs

-- each transaction stands once
abbrev pub Distinct : List Gathered → Type 0
Distinct [] = Unit {0}
Distinct (g ∷ gs) = Apart g.tx gs × Distinct gs

-- the record is of a transaction that is new
pub record IsNew (tx : TxId) (key : List ℕ) (epoch : Option ℕ) (gs now : List Gathered) : Type 0 where
  pub front : List Gathered
  pub back : List Gathered
  pub is : gs ≡ front ++ back
  pub after : now ≡ front ++ told_first tx key epoch ∷ back
  pub apart : Apart tx gs

-- the record is of one that was told of before
pub record IsMore (tx : TxId) (key : List ℕ) (epoch : Option ℕ) (gs now : List Gathered) : Type 0 where
  pub front : List Gathered
  pub back : List Gathered
  pub own : Gathered
  pub same : own.tx ≡ tx
  pub is : gs ≡ front ++ own ∷ back
  pub after : now ≡ front ++ told_more own key epoch ∷ back

pub other : (tx u : TxId) → same_tx u tx ≡ false → u ≡ tx → ⊥
other tx u differs same =
    let yes : same_tx u tx ≡ true = ap (λ t. same_tx t tx) same ∙ same_tx-self tx in
    let wrong : true ≡ false = sym yes ∙ differs in
    absurd cc

none_apart : (tx : TxId) (gs : List Gathered) → position (is_of tx) gs ≡ None → Apart tx gs
none_apart tx [] is = tt
none_apart tx (g ∷ gs) is =
    by (same_tx g.tx tx) refl (sym (position-cons (is_of tx) g gs) ∙ is) (none_apart tx gs)
  where
    by : (b : Bool) → same_tx g.tx tx ≡ b → place_by b (position (is_of tx) gs) ≡ None
        → (position (is_of tx) gs ≡ None → Apart tx gs) → Apart tx (g ∷ gs)
    by true own e rest = absurd cc
    by false differs e rest = (other tx g.tx differs, rest (nothing_behind (position (is_of tx) gs) e))

-- the transaction stands at this place
record Split (tx : TxId) (gs : List Gathered) (at : ℕ) : Type 0 where
  front : List Gathered
  back : List Gathered
  own : Gathered
  same : own.tx ≡ tx
  is : gs ≡ front ++ own ∷ back
  get : slice_get gs at ≡ Some own
  put : (w : Gathered) → slice_set gs at w ≡ front ++ w ∷ back

split_at : (tx : TxId) (gs : List Gathered) (at : ℕ) → position (is_of tx) gs ≡ Some at → Split tx gs at
split_at tx [] at is = absurd cc
split_at tx (g ∷ gs) at is =
    by (same_tx g.tx tx) refl (sym (position-cons (is_of tx) g gs) ∙ is) (split_at tx gs)
  where
    further : (m : ℕ) → Split tx gs m → Split tx (g ∷ gs) (suc m)
    further m split = record {
      front = g ∷ split.front;
      back = split.back;
      own = split.own;
      same = split.same;
      is = ap (λ xs. g ∷ xs) split.is;
      get = split.get;
      put = λ w. ap (λ xs. g ∷ xs) (split.put w);
    }

    by : (b : Bool) → same_tx g.tx tx ≡ b → place_by b (position (is_of tx) gs) ≡ Some at
        → ((m : ℕ) → position (is_of tx) gs ≡ Some m → Split tx gs m) → Split tx (g ∷ gs) at
    by true own e rest =
        let zero_is : 0 ≡ at = cc in
        subst (Split tx (g ∷ gs)) zero_is (record {
          front = [];
          back = gs;
          own = g;
          same = same_tx-is g.tx tx own;
          is = refl;
          get = refl;
          put = λ w. refl;
        })
    by false differs e rest =
        let b = behind (position (is_of tx) gs) at e in
        subst (Split tx (g ∷ gs)) b.next (further b.place (rest b.place b.found))

-- it is put at its place as a new one, or belongs to one that was told of before
abbrev pub NotedAs : TxId → List ℕ → Option ℕ → List Gathered → List Gathered → Type 0
NotedAs tx key epoch gs now =
    (Apart tx gs × (now ≡ insert gs (place_for gs tx) (told_first tx key epoch))) ⊎ IsMore tx key epoch gs now

pub noted_as : (gs : List Gathered) (tx : TxId) (key : List ℕ) (epoch : Option ℕ)
    → NotedAs tx key epoch gs (noted gs tx key epoch)
unfolding noted
noted_as gs tx key epoch = by (position (is_of tx) gs) refl
  where
    by : (at : Option ℕ) → position (is_of tx) gs ≡ at → NotedAs tx key epoch gs (noted_by gs tx key epoch at)
    by None is = inl (none_apart tx gs is, refl)
    by (Some at) is =
        let split = split_at tx gs at is in
        inr (record {
          front = split.front;
          back = split.back;
          own = split.own;
          same = split.same;
          is = split.is;
          after = ap (noted_at gs key epoch at) split.get ∙ split.put (told_more split.own key epoch);
        })

-- either of both, as parts of a list
pub noted_is : (gs : List Gathered) (tx : TxId) (key : List ℕ) (epoch : Option ℕ)
    → IsNew tx key epoch gs (noted gs tx key epoch) ⊎ IsMore tx key epoch gs (noted gs tx key epoch)
noted_is gs tx key epoch = by (noted_as gs tx key epoch)
  where
    by : NotedAs tx key epoch gs (noted gs tx key epoch)
        → IsNew tx key epoch gs (noted gs tx key epoch) ⊎ IsMore tx key epoch gs (noted gs tx key epoch)
    by (inl new) = inl (record {
      front = take (place_for gs tx) gs;
      back = drop (place_for gs tx) gs;
      is = sym (take-append-drop (place_for gs tx) gs);
      after = new.1;
      apart = new.0;
    })
    by (inr more) = inr more

-- one that is none of the others may stand among them
pub distinct_with : (front back : List Gathered) (w : Gathered) → Distinct (front ++ back) → Apart w.tx (front ++ back)
    → Distinct (front ++ w ∷ back)
distinct_with [] back w d apart = (apart, d)
distinct_with (f ∷ fs) back w d apart = (
  each_append (λ g. g.tx ≡ f.tx → ⊥) fs (w ∷ back) (each_before (λ g. g.tx ≡ f.tx → ⊥) fs back d.0)
      ((λ same. apart.0 (sym same)), each_after (λ g. g.tx ≡ f.tx → ⊥) fs back d.0),
  distinct_with fs back w d.1 apart.1,
)

-- the others without one
pub record AreOthers (g : Gathered) (front back : List Gathered) : Type 0 where
  pub distinct : Distinct (front ++ back)
  pub apart : Apart g.tx (front ++ back)

pub others : (front back : List Gathered) (g : Gathered) → Distinct (front ++ g ∷ back) → AreOthers g front back
others [] back g d = record { distinct = d.1; apart = d.0 }
others (f ∷ fs) back g d =
    let rest = others fs back g d.1 in
    let behind = each_after (λ g. g.tx ≡ f.tx → ⊥) fs (g ∷ back) d.0 in
    record {
      distinct = (
        each_append (λ g. g.tx ≡ f.tx → ⊥) fs back (each_before (λ g. g.tx ≡ f.tx → ⊥) fs (g ∷ back) d.0) behind.1,
        rest.distinct,
      );
      apart = ((λ same. behind.0 (sym same)), rest.apart);
    }
