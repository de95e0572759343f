-- Chains stay as they are where a view loses members of which none is a replica, and so do the routes of a transaction
-- that keeps to the members which are left.
use Rattle.std.proofs.Common.{◌≡◌, ◌⊎◌, ℕ, zero, suc, Bool, true, false, cond, List, [], ◌∷◌, ◌++◌, inl, inr, refl, sym}
use Rattle.std.proofs.Common.{ap, ◌∙◌, subst, take}
use Rattle.std.specs.Prelude.{◌&&◌, ◌||◌, not, filter, None}
use Rattle.std.specs.List.{list_any}
use Rattle.std.proofs.lemmas.Bool.{true≢false}
use Rattle.std.proofs.lemmas.List.{append-nil}
use Rattle.std.proofs.lemmas.List.Elements.{filter-append}
use Rattle.run_theory.specs.Lists.{Each, IsIn}
use Rattle.run_theory.proofs.Pasts.{each_append, each_in}
use Rattle.sig_core.specs.declared.member.Member.{Member}
use Rattle.sig_core.specs.declared.view.Shape.{Shape}
use Rattle.sig_core.specs.declared.view.View.{View}
use Rattle.sig_core.specs.Chain.{primary_of}
use Rattle.frag_map.specs.Fragment.{frag_of, group_of_fragment}
use Rattle.frag_map.specs.Layout.{Layout, chain_of, first_view, in_view, members}
use Rattle.frag_map.specs.Replicas.{first_start, in_turn, is_later_of_group, is_member, is_of_group, node_in_turn}
use Rattle.frag_map.specs.Replicas.{replicas_of}
use Rattle.tc_block.specs.declared.touched.Touched.{Touched}
use Rattle.tc_block.specs.declared.transaction.Transaction.{Transaction}
use Rattle.tc_block.specs.Doom.{is_outside, strays}
use Rattle.view_laws.specs.Sets.{IsPart}
use Rattle.request_laws.specs.Routes.{HasRoutes, IsAskedRouted, IsTouchedRouted, touched_chain}
use Rattle.request_laws.specs.Strays.{KeepsTo}

-- all members of the view began with the life, and none is starting
pub record NobodyLater (view : View) : Type 0 where
  pub full : Each (λ (m : Member). m.start ≡ 0) view.full
  pub starting : view.starting ≡ []

-- the member is full in the view
abbrev pub is_full : View → Member → Bool
is_full view m = list_any (is_member m) view.full

-- of the first view it is so
first_members : (n : ℕ) → Each (λ (m : Member). m.start ≡ 0) (members n)
first_members zero = tt
first_members (suc n) = each_append (λ (m : Member). m.start ≡ 0) (members n) _ (first_members n) (refl, tt)

pub nobody_later_first : (nodes : ℕ) → NobodyLater (first_view nodes)
nobody_later_first nodes = record { full = first_members nodes; starting = refl }

-- and of a part of one of which it is so
each_part : (P : Member → Type 0) (xs ys : List Member) → Each (λ (m : Member). IsIn m ys ⊎ ⊥) xs → Each P ys
    → Each P xs
each_part P [] ys within all = tt
each_part P (x ∷ xs) ys within all = (by within.0, each_part P xs ys within.1 all)
  where
    by : IsIn x ys ⊎ ⊥ → P x
    by (inl inside) = each_in P x ys all inside
    by (inr nowhere) = absurd nowhere

none_part : (xs : List Member) → Each (λ (m : Member). IsIn m [] ⊎ ⊥) xs → xs ≡ []
none_part [] within = refl
none_part (x ∷ xs) within = by within.0
  where
    by : IsIn x [] ⊎ ⊥ → x ∷ xs ≡ []
    by (inl inside) = absurd inside
    by (inr nowhere) = absurd nowhere

pub nobody_later_part : (before set : View) → IsPart before set → NobodyLater before → NobodyLater set
nobody_later_part before set part first = record {
  full = each_part (λ (m : Member). m.start ≡ 0) set.full before.full part.full first.full;
  starting =
      none_part set.starting
      (subst (λ (ys : List Member). Each (λ (m : Member). IsIn m ys ⊎ ⊥) set.starting) first.starting part.starting);
}

-- who is full in a part is so in the whole
pub any_in : {A : Type 0} (test : A → Bool) (x : A) (ys : List A) → IsIn x ys → test x ≡ true → list_any test ys ≡ true
any_in test x [] inside passes = absurd inside
any_in test x (y ∷ ys) (inl same) passes = ap (λ b. b || list_any test ys) (ap test (sym same) ∙ passes)
any_in test x (y ∷ ys) (inr inside) passes = by (test y) (any_in test x ys inside passes)
  where
    by : (b : Bool) → list_any test ys ≡ true → (b || list_any test ys) ≡ true
    by true rest = refl
    by false rest = rest

any_part : (test : Member → Bool) (xs ys : List Member) → Each (λ (m : Member). IsIn m ys ⊎ ⊥) xs
    → list_any test xs ≡ true → list_any test ys ≡ true
any_part test [] ys within some = absurd (true≢false (sym some))
any_part test (x ∷ xs) ys within some =
    by (test x) refl some within.0 (λ rest. any_part test xs ys within.1 rest)
  where
    by : (b : Bool) → test x ≡ b → (b || list_any test xs) ≡ true → IsIn x ys ⊎ ⊥
        → (list_any test xs ≡ true → list_any test ys ≡ true) → list_any test ys ≡ true
    by true passes some (inl inside) more = any_in test x ys inside passes
    by true passes some (inr nowhere) more = absurd nowhere
    by false passes some own more = more some

-- where nobody came later, the replicas are those in turn
none_later : (shape : Shape) (group : ℕ) (full : List Member) → Each (λ (m : Member). m.start ≡ 0) full
    → filter (is_later_of_group shape group) full ≡ []
none_later shape group [] all = refl
none_later shape group (m ∷ full) all =
    ap (λ b. cond b (m ∷ filter (is_later_of_group shape group) full) (filter (is_later_of_group shape group) full))
    (is_false m all.0)
    ∙ none_later shape group full all.1
  where
    and_false : (b : Bool) → (b && false) ≡ false
    and_false true = refl
    and_false false = refl

    is_false : (m : Member) → m.start ≡ 0 → is_later_of_group shape group m ≡ false
    is_false m at = rw at (and_false (is_of_group shape group m))

module _ (layout : Layout) (key : List ℕ) where
  abbrev pub turns : View → List Member
  turns view = in_turn layout.shape view (frag_of layout.shape key) layout.shape.replicas

  pub chain_is : (view : View) → NobodyLater view → chain_of (in_view layout view) key ≡ take 8 (turns view)
  unfolding chain_of replicas_of
  chain_is view first =
      let group = group_of_fragment layout.shape (frag_of layout.shape key) in
      let later = filter (is_later_of_group layout.shape group) view.full in
      ap (λ (ms : List Member). take 8 ((turns view ++ later) ++ filter (is_of_group layout.shape group) ms))
      first.starting
      ∙ ap (take 8) (append-nil (turns view ++ later))
      ∙ ap (λ (ms : List Member). take 8 (turns view ++ ms)) (none_later layout.shape group view.full first.full)
      ∙ ap (take 8) (append-nil (turns view))

-- of those in turn, those that are full in a part are left
module _ (shape : Shape) (view set : View)
    (within : (m : Member) → is_full set m ≡ true → is_full view m ≡ true) (fragment : ℕ) where
  left : (turn : ℕ)
      → in_turn shape set fragment turn ≡ filter (is_full set) (in_turn shape view fragment turn)
  left zero = refl
  left (suc turn) =
      ap (λ xs. xs ++ cond (is_full set m) (m ∷ []) []) (left turn)
      ∙ ap (λ ys. filter (is_full set) (in_turn shape view fragment turn) ++ ys) (own (is_full view m) refl)
      ∙ sym (filter-append (is_full set) (in_turn shape view fragment turn) (cond (is_full view m) (m ∷ []) []))
    where
      m : Member
      m = first_start (node_in_turn shape fragment turn)

      own : (b : Bool) → is_full view m ≡ b
          → cond (is_full set m) (m ∷ []) [] ≡ filter (is_full set) (cond b (m ∷ []) [])
      own true there = refl
      own false missing = by (is_full set m) refl
        where
          by : (b : Bool) → is_full set m ≡ b → cond b (m ∷ []) [] ≡ []
          by true there = absurd (true≢false (sym (within m there) ∙ missing))
          by false gone = refl

-- what all pass stays as it is
take_filtered : (p : Member → Bool) (n : ℕ) (xs : List Member) → Each (λ (m : Member). p m ≡ true) (take n xs)
    → take n (filter p xs) ≡ take n xs
take_filtered p zero xs all = refl
take_filtered p (suc n) [] all = refl
take_filtered p (suc n) (x ∷ xs) all =
    ap (λ b. take (suc n) (cond b (x ∷ filter p xs) (filter p xs))) all.0
    ∙ ap (λ ys. x ∷ ys) (take_filtered p n xs all.1)

first_filtered : (p : Member → Bool) (n : ℕ) (xs : List Member)
    → Each (λ (m : Member). p m ≡ true) (primary_of (take (suc n) xs))
    → primary_of (take (suc n) (filter p xs)) ≡ primary_of (take (suc n) xs)
first_filtered p n [] all = refl
first_filtered p n (x ∷ xs) all =
    ap (λ b. primary_of (take (suc n) (cond b (x ∷ filter p xs) (filter p xs)))) all.0

-- who isn't outside is full
all_full : (view : View) (chain : List Member) → view.starting ≡ [] → list_any (is_outside view) chain ≡ false
    → Each (λ (m : Member). is_full view m ≡ true) chain
all_full view [] none inside = tt
all_full view (m ∷ chain) none inside =
    let parts = both (is_outside view m) (list_any (is_outside view) chain) inside in (
      is_in (is_full view m)
          (subst (λ (ms : List Member). not (is_full view m || list_any (is_member m) ms) ≡ false) none parts.0),
      all_full view chain none parts.1,
    )
  where
    both : (a b : Bool) → (a || b) ≡ false → (a ≡ false) × (b ≡ false)
    both true b is = absurd (true≢false is)
    both false b is = (refl, is)

    is_in : (b : Bool) → not (b || false) ≡ false → b ≡ true
    is_in true is = refl
    is_in false is = absurd (true≢false is)

module _ (layout : Layout) (set : View) (first : NobodyLater layout.view) (part : IsPart layout.view set) where
  first_set : NobodyLater set
  first_set = nobody_later_part layout.view set part first

  within : (m : Member) → is_full set m ≡ true → is_full layout.view m ≡ true
  within m there = any_part (is_member m) set.full layout.view.full part.full there

  pub turns_left : (key : List ℕ) → turns layout key set ≡ filter (is_full set) (turns layout key layout.view)
  turns_left key = left layout.shape layout.view set within (frag_of layout.shape key) layout.shape.replicas

  -- a chain none of which is outside the set is the chain in it
  pub chain_stays : (key : List ℕ) → list_any (is_outside set) (chain_of layout key) ≡ false
      → chain_of (in_view layout set) key ≡ chain_of layout key
  chain_stays key inside =
      let was = chain_is layout key layout.view first in
      chain_is layout key set first_set ∙ ap (take 8) (turns_left key)
      ∙ take_filtered (is_full set) 8 (turns layout key layout.view)
      (all_full set (take 8 (turns layout key layout.view)) first_set.starting
      (subst (λ (chain : List Member). list_any (is_outside set) chain ≡ false) was inside))
      ∙ sym was

  -- and so with its primary
  pub primary_stays : (key : List ℕ) → list_any (is_outside set) (primary_of (chain_of layout key)) ≡ false
      → primary_of (chain_of (in_view layout set) key) ≡ primary_of (chain_of layout key)
  primary_stays key inside =
      let was = chain_is layout key layout.view first in
      ap primary_of (chain_is layout key set first_set ∙ ap (take 8) (turns_left key))
      ∙ first_filtered (is_full set) 7 (turns layout key layout.view)
      (all_full set (primary_of (take 8 (turns layout key layout.view))) first_set.starting
      (subst (λ (chain : List Member). list_any (is_outside set) (primary_of chain) ≡ false) was inside))
      ∙ sym (ap primary_of was)

  touched_stays : (t : Touched) → strays set t ≡ false → (b : Bool) → t.chain ≡ touched_chain layout t b
      → t.chain ≡ touched_chain (in_view layout set) t b
  touched_stays t inside true is =
      is ∙ sym (chain_stays t.key (subst (λ (c : List Member). list_any (is_outside set) c ≡ false) is inside))
  touched_stays t inside false is =
      is ∙ sym (primary_stays t.key (subst (λ (c : List Member). list_any (is_outside set) c ≡ false) is inside))

  all_touched_stay : (keys : List Touched) → list_any (strays set) keys ≡ false
      → Each (IsTouchedRouted layout) keys → Each (IsTouchedRouted (in_view layout set)) keys
  all_touched_stay [] keep all = tt
  all_touched_stay (t ∷ keys) keep all =
      let parts = both (strays set t) (list_any (strays set) keys) keep in
      (touched_stays t parts.0 t.written all.0, all_touched_stay keys parts.1 all.1)
    where
      both : (a b : Bool) → (a || b) ≡ false → (a ≡ false) × (b ≡ false)
      both true b is = absurd (true≢false is)
      both false b is = (refl, is)

  -- the routes of a transaction that keeps to the set, and has no operation unanswered, are those in it
  pub routes_stay : (t : Transaction) → t.asked ≡ None → KeepsTo set t → HasRoutes layout t
      → HasRoutes (in_view layout set) t
  routes_stay t answered keeps has = record {
    touched = all_touched_stay t.touched keeps has.touched;
    asked = subst (IsAskedRouted (in_view layout set)) (sym answered) tt;
  }
