-- The replicas of a key are full members of the current view; and each of them, and each member of the view, was one
-- before an event.
use Rattle.std.proofs.Common.{◌≡◌, ◌≤◌, ◌⊎◌, ◌==◌, ◌&&◌, ◌||◌, ◌++◌, ◌+◌, ◌∙◌, ℕ, zero, suc, Bool, true, false, cond}
use Rattle.std.proofs.Common.{length, take, List, [], ◌∷◌, refl, sym, ap, subst, arith, inl, inr}
use Rattle.std.proofs.lemmas.Bool.{and_parts, eq-eqb, eqb-true, true≢false}
use Rattle.std.specs.List.{list_any}
use Rattle.run_theory.specs.Lists.{IsIn}
use Rattle.sig_core.specs.declared.member.Member.{Member}
use Rattle.sig_core.specs.declared.view.Shape.{Shape}
use Rattle.sig_core.specs.declared.view.View.{View}
use Rattle.frag_map.specs.Fragment.{frag_of}
use Rattle.frag_map.specs.Layout.{chain_of, first_layout}
use Rattle.frag_map.specs.Replicas.{first_start, in_turn, is_member, node_in_turn}
use Rattle.frag_map.specs.Shape.{IsShape}
use Rattle.world_core.specs.Start.{Start, made}
use Rattle.world_core.specs.Steps.{HostStep}
use Rattle.view_laws.proofs.ballots.MadeSets.{in_either, in_front}
use Rattle.moment_laws.specs.Moments.{IsMoment, current, logs_of}
use Rattle.moment_laws.proofs.MomentMembers.{all_full, current_made, full_less}
use Rattle.moment_laws.proofs.MomentTurns.{Turn, keeps, raises, turn}
use Rattle.moment_laws.proofs.MomentViews.{moment_installed, moment_less}
use Rattle.request_laws.specs.Routed.{layout_in}
use Rattle.request_laws.proofs.routes.ChainsStay.{NobodyLater, any_in, chain_is, is_full}
use Rattle.request_laws.proofs.routes.PartsOfTheFirst.{nobody_later}
use Rattle.request_laws.proofs.routes.ViableViews.{in_take}
use Rattle.commit_laws.specs.Traces.{IsReplicaOf, members_now}

in_behind : (x : Member) (xs ys : List Member) → IsIn x ys → IsIn x (xs ++ ys)
in_behind x [] ys there = there
in_behind x (y ∷ xs) ys there = inr (in_behind x xs ys there)

in_all : (k : ℕ) (xs : List Member) (x : Member) → length xs ≤ k → IsIn x xs → IsIn x (take k xs)
in_all zero [] x few there = there
in_all zero (y ∷ xs) x few there = absurd (omega (arith, few))
in_all (suc k) [] x few there = there
in_all (suc k) (y ∷ xs) x few (inl same) = inl same
in_all (suc k) (y ∷ xs) x few (inr there) = inr (in_all k xs x (omega (arith, few)) there)

length_both : (xs ys : List Member) → length (xs ++ ys) ≡ length xs + length ys
length_both [] ys = omega arith
length_both (x ∷ xs) ys = omega (arith, length_both xs ys)

member_is : (a b : Member) → is_member a b ≡ true → a ≡ b
member_is a b is =
    let parts = and_parts (a.node == b.node) (a.start == b.start) is in
    λ i. record { node = eqb-true a.node b.node parts.0 i; start = eqb-true a.start b.start parts.1 i }

pub self : (m : Member) → is_member m m ≡ true
self m = λ i. eq-eqb m.node m.node refl i && eq-eqb m.start m.start refl i

pub full_in : (xs : List Member) (m : Member) → list_any (is_member m) xs ≡ true → IsIn m xs
full_in [] m is = absurd (true≢false (sym is))
full_in (x ∷ xs) m is = by (is_member m x) refl is (full_in xs m)
  where
    by : (b : Bool) → is_member m x ≡ b → (b || list_any (is_member m) xs) ≡ true
        → (list_any (is_member m) xs ≡ true → IsIn m xs) → IsIn m (x ∷ xs)
    by true e is more = inl (member_is m x e)
    by false e is more = inr (more is)

module _ (shape : Shape) (fragment : ℕ) where
  turn_few : (view : View) (n : ℕ) → length (in_turn shape view fragment n) ≤ n
  turn_few view zero = omega arith
  turn_few view (suc n) = by (is_full view (first_start (node_in_turn shape fragment n))) (turn_few view n)
    where
      by : (b : Bool) → length (in_turn shape view fragment n) ≤ n
          → length (in_turn shape view fragment n
          ++ cond b (first_start (node_in_turn shape fragment n) ∷ []) []) ≤ suc n
      by true few =
          omega (
            arith,
            few,
            length_both (in_turn shape view fragment n)
                (first_start (node_in_turn shape fragment n) ∷ []),
          )
      by false few = omega (arith, few, length_both (in_turn shape view fragment n) [])

  turn_full : (view : View) (n : ℕ) (m : Member) → IsIn m (in_turn shape view fragment n) → is_full view m ≡ true
  turn_full view zero m there = absurd there
  turn_full view (suc n) m there =
      by (is_full view one) refl there (turn_full view n m)
    where
      one : Member
      one = first_start (node_in_turn shape fragment n)

      last : (b : Bool) → is_full view one ≡ b → IsIn m (cond b (one ∷ []) []) → is_full view m ≡ true
      last true e (inl same) = ap (is_full view) same ∙ e
      last true e (inr none) = absurd none
      last false e none = absurd none

      by : (b : Bool) → is_full view one ≡ b → IsIn m (in_turn shape view fragment n ++ cond b (one ∷ []) [])
          → (IsIn m (in_turn shape view fragment n) → is_full view m ≡ true) → is_full view m ≡ true
      by b e there more = either (in_either m (in_turn shape view fragment n) (cond b (one ∷ []) []) there)
        where
          either : IsIn m (in_turn shape view fragment n) ⊎ IsIn m (cond b (one ∷ []) []) → is_full view m ≡ true
          either (inl front) = more front
          either (inr back) = last b e back

  -- who is in turn in a view, and full in another, is so in that
  pub turn_in : (view other : View) (n : ℕ) (m : Member) → IsIn m (in_turn shape view fragment n)
      → is_full other m ≡ true → IsIn m (in_turn shape other fragment n)
  turn_in view other zero m there full = absurd there
  turn_in view other (suc n) m there full =
      by (is_full view one) there (λ front. turn_in view other n m front full)
    where
      one : Member
      one = first_start (node_in_turn shape fragment n)

      own : (c : Bool) → is_full other one ≡ c → m ≡ one
          → IsIn m (in_turn shape other fragment n ++ cond c (one ∷ []) [])
      own true e same = in_behind m (in_turn shape other fragment n) (one ∷ []) (inl same)
      own false e same = absurd (true≢false (sym full ∙ (ap (is_full other) same ∙ e)))

      last : (b : Bool) → IsIn m (cond b (one ∷ []) []) → IsIn m (in_turn shape other fragment (suc n))
      last true (inl same) = own (is_full other one) refl same
      last true (inr none) = absurd none
      last false none = absurd none

      by : (b : Bool) → IsIn m (in_turn shape view fragment n ++ cond b (one ∷ []) [])
          → (IsIn m (in_turn shape view fragment n) → IsIn m (in_turn shape other fragment n))
          → IsIn m (in_turn shape other fragment (suc n))
      by b there more = either (in_either m (in_turn shape view fragment n) (cond b (one ∷ []) []) there)
        where
          either : IsIn m (in_turn shape view fragment n) ⊎ IsIn m (cond b (one ∷ []) [])
              → IsIn m (in_turn shape other fragment (suc n))
          either (inl front) = in_front m (in_turn shape other fragment n) _ (more front)
          either (inr back) = last b back

module _ (start : Start) (key : List ℕ) where
  abbrev replicas : View → List Member
  replicas view = in_turn start.shape view (frag_of start.shape key) start.shape.replicas

  -- a chain is of replicas, which are full
  module _ (is : IsShape start.shape) (view : View) (first : NobodyLater view) where
    chain_turns : chain_of (layout_in start view) key ≡ take 8 (replicas view)
    chain_turns = chain_is (first_layout start.shape) key view first

    pub chained : (m : Member) → IsIn m (replicas view) → IsIn m (chain_of (layout_in start view) key)
    chained m there =
        subst (IsIn m) (sym chain_turns)
        (in_all 8 (replicas view) m
        (omega (arith, turn_few start.shape (frag_of start.shape key) view start.shape.replicas, is.replicas_few))
        there)

    pub in_turns : (m : Member) → IsIn m (chain_of (layout_in start view) key) → IsIn m (replicas view)
    in_turns m there = in_take 8 (replicas view) m (subst (IsIn m) chain_turns there)

    pub chain_full : (m : Member) → IsIn m (chain_of (layout_in start view) key) → IsIn m view.full
    chain_full m there =
        full_in view.full m
        (turn_full start.shape (frag_of start.shape key) view start.shape.replicas m (in_turns m there))

module _ (start : Start) (all : ℕ → List HostStep) (es : List HostStep) (moment : IsMoment start all es) where
  abbrev view : View
  view = current start (logs_of start es)

  now_later : NobodyLater (current start (logs_of start es))
  now_later = nobody_later start all moment.cluster (current start (logs_of start es))
      (moment_installed start all es moment)

  -- who is in the chain of a key is a replica of it
  pub chain_replica : (key : List ℕ) (m : Member)
      → IsIn m (chain_of (layout_in start (current start (logs_of start es))) key)
      → IsReplicaOf start (logs_of start es) key m
  chain_replica key m there =
      record { full = chain_full start key moment.cluster.shape view now_later m there; chained = there }

  pub replica_made : (key : List ℕ) (m : Member) → IsReplicaOf start (logs_of start es) key m → IsIn m (made start)
  replica_made key m is = current_made start all es moment m is.full

  -- nobody is starting
  pub members_full : members_now start (logs_of start es) ≡ view.full
  members_full = all_full start all moment.cluster view (moment_installed start all es moment)

  pub member_made : (m : Member) → IsIn m (members_now start (logs_of start es)) → IsIn m (made start)
  member_made m there = current_made start all es moment m (subst (IsIn m) members_full there)

module _ (start : Start) (all : ℕ → List HostStep) (e : HostStep) (es : List HostStep)
    (moment : IsMoment start all (e ∷ es))
  where
    abbrev before : IsMoment start all es
    before = moment_less start all e es moment

    pub full_before : (m : Member) → IsIn m (current start (logs_of start (e ∷ es))).full
        → IsIn m (current start (logs_of start es)).full
    full_before m there = by (turn start all e es moment)
      where
        by : Turn start all e es moment → IsIn m (current start (logs_of start es)).full
        by (keeps same stands) = subst (λ (v : View). IsIn m v.full) same there
        by (raises above stands) = full_less start all e es moment above m there

    pub member_before : (m : Member) → IsIn m (members_now start (logs_of start (e ∷ es)))
        → IsIn m (members_now start (logs_of start es))
    member_before m there =
        subst (IsIn m) (sym (members_full start all es before))
        (full_before m (subst (IsIn m) (members_full start all (e ∷ es) moment) there))

    pub replica_before : (key : List ℕ) (m : Member) → IsReplicaOf start (logs_of start (e ∷ es)) key m
        → IsReplicaOf start (logs_of start es) key m
    replica_before key m is = record {
      full = full_before m is.full;
      chained =
          chained start key before.cluster.shape (current start (logs_of start es)) (now_later start all es before) m
          (turn_in start.shape (frag_of start.shape key) (current start (logs_of start (e ∷ es)))
          (current start (logs_of start es)) start.shape.replicas m
          (in_turns start key moment.cluster.shape (current start (logs_of start (e ∷ es)))
          (now_later start all (e ∷ es) moment) m is.chained)
          (any_in (is_member m) m (current start (logs_of start es)).full (full_before m is.full) (self m)));
    }
