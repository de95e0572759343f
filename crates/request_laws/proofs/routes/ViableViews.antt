-- In a viable view of which nobody came later each key has a replica.
use Rattle.std.proofs.Common.{◌≡◌, ◌⊎◌, ◌≤◌, ◌<◌, ◌==◌, ◌+◌, ℕ, zero, suc, Bool, true, false, cond, List, [], ◌∷◌}
use Rattle.std.proofs.Common.{get_or, inl, inr, length, refl, sym, ap, ◌∙◌, subst, arith, take}
use Rattle.std.proofs.lemmas.Bool.{eq-eqb, true≢false}
use Rattle.std.proofs.lemmas.Nat.{div-add-mod', mod_below}
use Rattle.std.proofs.lemmas.Option.{slice_get-get_or}
use Rattle.std.specs.Prelude.{◌&&◌, ◌||◌, ◌*◌, ◌%◌, filter, if◌then◌else◌, is_some, not, slice_get, Some}
use Rattle.std.specs.List.{list_any}
use Rattle.run_theory.specs.Lists.{Each, IsIn}
use Rattle.run_theory.proofs.EachSent.{each_take}
use Rattle.run_theory.proofs.Pasts.{each_append, each_in, each_map}
use Rattle.sig_core.specs.declared.member.Member.{Member}
use Rattle.sig_core.specs.declared.view.Shape.{Shape}
use Rattle.sig_core.specs.declared.view.View.{View}
use Rattle.sig_core.specs.Chain.{node_of}
use Rattle.sig_core.specs.Members.{nobody}
use Rattle.frag_map.proofs.FirstReplicas.{first_all}
use Rattle.frag_map.specs.Fragment.{frag_of, group_of_key}
use Rattle.frag_map.specs.Groups.{is_manned, is_viable, lost_from, lost_group}
use Rattle.frag_map.specs.Laws.{first_chain}
use Rattle.frag_map.specs.Layout.{Layout, chain_of, first_layout, first_view, members}
use Rattle.frag_map.specs.Replicas.{first_start, in_turn, is_member, is_of_group, node_in_turn}
use Rattle.frag_map.specs.Shape.{IsShape, groups}
use Rattle.view_laws.specs.Sets.{IsPart}
use Rattle.request_laws.proofs.routes.ChainsStay.{NobodyLater, any_in, chain_is, is_full, nobody_later_first}
use Rattle.request_laws.proofs.routes.ChainsStay.{nobody_later_part, turns, turns_left}
use Rattle.request_laws.proofs.routes.Takeovers.{ChainsAreSome}

-- one that passes
record Passing (p : Member → Bool) (xs : List Member) : Type 0 where
  one : Member
  inside : IsIn one xs
  passes : p one ≡ true

passing : (p : Member → Bool) (xs : List Member) → list_any p xs ≡ true → Passing p xs
passing p [] some = absurd (true≢false (sym some))
passing p (x ∷ xs) some = by (p x) refl some (λ more. passing p xs more)
  where
    by : (b : Bool) → p x ≡ b → (b || list_any p xs) ≡ true → (list_any p xs ≡ true → Passing p xs)
        → Passing p (x ∷ xs)
    by true own some more = record { one = x; inside = inl refl; passes = own }
    by false own some more =
        let rest = more some in
        record { one = rest.one; inside = inr rest.inside; passes = rest.passes }

filter_some : (p : Member → Bool) (xs : List Member) (x : Member) → IsIn x xs → p x ≡ true → 0 < length (filter p xs)
filter_some p [] x inside passes = absurd inside
filter_some p (y ∷ ys) x (inl same) passes =
    subst (λ b. 0 < length (cond b (y ∷ filter p ys) (filter p ys))) (sym (ap p (sym same) ∙ passes)) (omega arith)
filter_some p (y ∷ ys) x (inr inside) passes = by (p y) (filter_some p ys x inside passes)
  where
    by : (b : Bool) → 0 < length (filter p ys) → 0 < length (cond b (y ∷ filter p ys) (filter p ys))
    by true some = omega arith
    by false some = some

take_some : (n : ℕ) (xs : List Member) → 0 < length xs → 0 < length (take (suc n) xs)
take_some n [] some = absurd (omega (arith, some))
take_some n (x ∷ xs) some = omega arith

-- who is in a part of a list is in it
pub in_take : (n : ℕ) (xs : List Member) (x : Member) → IsIn x (take n xs) → IsIn x xs
in_take zero xs x inside = absurd inside
in_take (suc n) [] x inside = absurd inside
in_take (suc n) (y ∷ ys) x (inl same) = inl same
in_take (suc n) (y ∷ ys) x (inr inside) = inr (in_take n ys x inside)

in_at : (xs : List Member) (at : ℕ) (x : Member) → slice_get xs at ≡ Some x → IsIn x xs
in_at [] at x there = absurd cc
in_at (y ∷ ys) zero x there = inl cc
in_at (y ∷ ys) (suc at) x there = inr (in_at ys at x there)

-- the members of the first view are nodes
record IsNode (n : ℕ) (m : Member) : Type 0 where
  from : 1 ≤ m.node
  to : m.node ≤ n
  start : m.start ≡ 0

are_nodes : (n : ℕ) → Each (λ (m : Member). IsNode n m) (members n)
are_nodes zero = tt
are_nodes (suc n) =
    each_append (λ (m : Member). IsNode (suc n) m) (members n) _
    (each_map (λ (m : Member). IsNode n m) (λ (m : Member). IsNode (suc n) m) (members n)
    (λ m is. record { from = is.from; to = omega (arith, is.to); start = is.start }) (are_nodes n))
    (record { from = omega arith; to = omega arith; start = refl }, tt)

-- and so are the nodes in turn
turns_first : (shape : Shape) (view : View) (fragment n : ℕ)
    → Each (λ (m : Member). m.start ≡ 0) (in_turn shape view fragment n)
turns_first shape view fragment zero = tt
turns_first shape view fragment (suc n) =
    each_append (λ (m : Member). m.start ≡ 0) (in_turn shape view fragment n) _ (turns_first shape view fragment n)
    (by (list_any (is_member (first_start (node_in_turn shape fragment n))) view.full))
  where
    by : (b : Bool)
        → Each (λ (m : Member). m.start ≡ 0) (cond b (first_start (node_in_turn shape fragment n) ∷ []) [])
    by true = (refl, tt)
    by false = tt

some_groups : (shape : Shape) → IsShape shape → 1 ≤ groups shape
some_groups shape is = by (groups shape) refl
  where
    by : (n : ℕ) → groups shape ≡ n → 1 ≤ n
    by zero none =
        let parts = div-add-mod' shape.nodes shape.replicas in
        let whole : 0 * shape.replicas + shape.nodes % shape.replicas ≡ shape.nodes =
        ap (λ q. q * shape.replicas + shape.nodes % shape.replicas) (sym none) ∙ parts in
        absurd (omega (arith, whole, is.even, is.nodes_some))
    by (suc n) some = omega arith

same_member : (a b : Member) → a.node ≡ b.node → a.start ≡ 0 → b.start ≡ 0 → is_member a b ≡ true
same_member a b nodes one other =
    ap (λ c. c && (a.start == b.start)) (eq-eqb a.node b.node nodes) ∙ eq-eqb a.start b.start (one ∙ sym other)

-- no group of a viable view is lost
manned_at : (shape : Shape) (view : View) (n from beyond : ℕ) → beyond < n
    → not (is_some (lost_from shape view from n)) ≡ true → is_manned shape view (from + beyond) ≡ true
manned_at shape view zero from beyond below none = absurd (omega (arith, below))
manned_at shape view (suc n) from beyond below none =
    by (is_manned shape view from) refl none beyond below (λ at low rest. manned_at shape view n (from + 1) at low rest)
  where
    Lost : ℕ → Bool
    Lost at = not (is_some (lost_from shape view at n))

    by : (b : Bool) → is_manned shape view from ≡ b
        → not (is_some (if b then lost_from shape view (from + 1) n else Some from)) ≡ true → (at : ℕ) → at < suc n
        → ((at : ℕ) → at < n → Lost (from + 1) ≡ true → is_manned shape view (from + 1 + at) ≡ true)
        → is_manned shape view (from + at) ≡ true
    by false gone none at low rest = absurd (true≢false (sym none))
    by true own none zero low rest = subst (λ at. is_manned shape view at ≡ true) (omega arith) own
    by true own none (suc at) low rest =
        subst (λ at. is_manned shape view at ≡ true) (omega arith) (rest at (omega (arith, low)) none)

viable_manned : (shape : Shape) (view : View) → is_viable shape view ≡ true → (group : ℕ) → group < groups shape
    → is_manned shape view group ≡ true
unfolding lost_group
viable_manned shape view viable group below =
    subst (λ at. is_manned shape view at ≡ true) (omega arith)
    (manned_at shape view (groups shape) 0 group below viable)

module _ (shape : Shape) (is : IsShape shape) (view : View) (part : IsPart (first_view shape.nodes) view)
    (viable : is_viable shape view ≡ true) where
  abbrev whole : Layout
  whole = first_layout shape

  first : NobodyLater (first_view shape.nodes)
  first = nobody_later_first shape.nodes

  pub chains_some : ChainsAreSome (record { shape = shape; view = view })
  chains_some key = by (passing (is_of_group shape (group_of_key shape key)) view.full manned)
    where
      manned : list_any (is_of_group shape (group_of_key shape key)) view.full ≡ true
      manned =
          viable_manned shape view viable (group_of_key shape key)
          (mod_below (frag_of shape key) (groups shape) (some_groups shape is))

      chain : List Member
      chain = take 8 (turns whole key (first_view shape.nodes))

      -- its replica in the first view, which is full in this one
      by_replica : (x : Member) → IsIn x chain → is_full view x ≡ true
          → 0 < length (chain_of (record { shape = shape; view = view }) key)
      by_replica x inside full =
          subst (λ (c : List Member). 0 < length c)
          (sym (chain_is whole key view (nobody_later_part (first_view shape.nodes) view part first)
          ∙ ap (take 8) (turns_left whole view first part key)))
          (take_some 7 (filter (is_full view) (turns whole key (first_view shape.nodes)))
          (filter_some (is_full view) (turns whole key (first_view shape.nodes)) x
          (in_take 8 (turns whole key (first_view shape.nodes)) x inside) full))

      by : Passing (is_of_group shape (group_of_key shape key)) view.full
          → 0 < length (chain_of (record { shape = shape; view = view }) key)
      by found =
          let m = found.one in
          let node = within_first m (each_in (λ (m : Member). IsIn m (members shape.nodes) ⊎ ⊥) m view.full part.full
          found.inside) in
          let has = first_all shape is key m.node node.from node.to found.passes in
          let x = get_or (first_chain shape key) has.at nobody in
          let there = slice_get-get_or (first_chain shape key) has.at nobody has.inside in
          let was = chain_is whole key (first_view shape.nodes) first in
          let inside = subst (IsIn x) was (in_at (first_chain shape key) has.at x there) in
          let nodes : x.node ≡ m.node = sym (ap node_of there) ∙ has.is in
          let start : x.start ≡ 0 = each_in (λ (m : Member). m.start ≡ 0) x chain
          (each_take (λ (m : Member). m.start ≡ 0) 8 (turns whole key (first_view shape.nodes))
          (turns_first shape (first_view shape.nodes) (frag_of shape key) shape.replicas)) inside in
          by_replica x inside
          (any_in (is_member x) m view.full found.inside (same_member x m nodes start node.start))
        where
          within_first : (m : Member) → IsIn m (members shape.nodes) ⊎ ⊥ → IsNode shape.nodes m
          within_first m (inl inside) = each_in (λ (m : Member). IsNode shape.nodes m) m (members shape.nodes)
              (are_nodes shape.nodes) inside
          within_first m (inr nowhere) = absurd nowhere
