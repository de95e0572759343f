-- What the arbitrator grants at one signal, and along a list of them.
use Rattle.std.proofs.Common.{◌≡◌, ◌⊎◌, ◌∙◌, ℕ, ◌≤◌, ◌<◌, ◌==◌, ◌&&◌, Bool, true, false, nat_lt, not, List, [], ◌∷◌}
use Rattle.std.proofs.Common.{◌++◌, refl, ap, sym, subst, arith, inl, inr}
use Rattle.std.proofs.lemmas.Bool.{and_parts, and_from, eqb-true, eq-eqb, le-ltb, ltb-true}
use Rattle.std.proofs.lemmas.List.Elements.{All-filter, All-contains_itself}
use Rattle.std.specs.List.{All, Contains}
use Rattle.std.specs.Prelude.{Option, if◌then◌else◌}
use Rattle.sig_core.specs.declared.member.Member.{Member}
use Rattle.sig_core.specs.declared.signal.Body.{Body}
use Rattle.sig_core.specs.declared.signal.Body.TheVariants.{Membership}
use Rattle.sig_core.specs.declared.signal.Signal.{Signal}
use Rattle.sig_core.specs.declared.signal.membership.MembershipSignal.TheVariants.{ArbitReq}
use Rattle.arbiter_block.specs.Arbiter.{ArbiterState, arbit_if, arbit_row, arbiter_row, arbiter_table, is_granted}
use Rattle.arbiter_block.specs.Laws.{Grant, after_all, granted_along, granted_at, keeping, others_of}
use Rattle.arbiter_block.specs.Sets.{is_joining, is_same_set, lie_in, without_joining}
use Rattle.arbiter_block.proofs.SetLemmas.{lying, same_set-is, same_set-self}

-- what may be granted, by what is kept
pub record Given (s : ArbiterState) (grant : Grant) : Type 0 where
  pub number : s.number ≤ grant.number
  pub members : All (Contains s.members) (others_of grant)
  pub same : s.number ≡ grant.number → s.members ≡ grant.members

-- what a request asks for
abbrev asked_for : ℕ → List Member → Option Member → Grant
asked_for number members joining = record { number = number; members = members; joining = joining }

-- of a set that lies in itself
itself : (set members : List Member) (joining : Option Member) → members ≡ set
    → All (Contains set) (without_joining joining members)
itself set members joining e =
    subst (λ (set : List Member). All (Contains set) (without_joining joining members)) e
    (All-filter (λ member. not (is_joining joining member)) (Contains members) members (All-contains_itself members))

given_if : (s : ArbiterState) (number : ℕ) (members : List Member) (joining : Option Member) (greater : Bool)
    → nat_lt s.number number ≡ greater
    → (if greater then lie_in s.members members joining else number == s.number && is_same_set members s.members) ≡ true
    → Given s (asked_for number members joining)
given_if s number members joining true greater e =
    let above : s.number < number = ltb-true s.number number greater in
    record {
      number = omega arith;
      members = lying s.members members joining e;
      same = λ equal. absurd (omega arith);
    }
given_if s number members joining false greater e =
    let parts = and_parts (number == s.number) (is_same_set members s.members) e in
    let equal : number ≡ s.number = eqb-true number s.number parts.0 in
    let same = same_set-is members s.members parts.1 in
    record {
      number = omega arith;
      members = itself s.members members joining same;
      same = λ _. sym same;
    }

-- what is granted may be
given : (s : ArbiterState) (number : ℕ) (members : List Member) (joining : Option Member)
    → is_granted s number members joining ≡ true → Given s (asked_for number members joining)
given s number members joining e = given_if s number members joining (nat_lt s.number number) refl e

-- what an answer to a signal leaves: nothing is granted and what was kept is kept, or one set is granted and kept
abbrev IsTurn : ArbiterState → ArbiterState → List Grant → Type 0
IsTurn s state grants =
    ((grants ≡ []) × (state ≡ s))
    ⊎ ((grant : Grant) × ((grants ≡ grant ∷ []) × ((state ≡ keeping grant) × Given s grant)))

-- a request, as a signal says it
abbrev request : ℕ → List Member → Option Member → Body
request number members joining = Membership (ArbitReq number members joining)

turn_if : (s : ArbiterState) (node number : ℕ) (members : List Member) (joining : Option Member) (granted : Bool)
    → is_granted s number members joining ≡ granted
    → IsTurn s (arbit_if s node number members granted).state
    (granted_at (request number members joining) (arbit_if s node number members granted).effects.sends)
turn_if s node number members joining true e =
    inr (asked_for number members joining, (refl, (refl, given s number members joining e)))
turn_if s node number members joining false e = inl (refl, refl)

turn : (s : ArbiterState) (node : ℕ) (body : Body)
    → IsTurn s (arbiter_table s node body).state (granted_at body (arbiter_table s node body).effects.sends)
unfolding arbit_row
turn s node (Membership (ArbitReq number members joining)) =
    turn_if s node number members joining (is_granted s number members joining) refl
turn s node _ = inl (refl, refl)

-- grants that stand behind one another, from what was kept before them to what is kept after them
abbrev pub Chain : ArbiterState → List Grant → ArbiterState → Type 0
Chain s [] end = end ≡ s
Chain s (grant ∷ later) end = Given s grant × Chain (keeping grant) later end

-- what is granted along a list of signals is such a chain
pub chain : (s : ArbiterState) (signals : List Signal) → Chain s (granted_along s signals) (after_all s signals)
chain s [] = refl
chain s (x ∷ xs) = by (arbiter_row s x).state _ (turn s x.member.node x.body) (λ state. chain state xs)
  where
    ends_with : (grant : Grant) (state : ArbiterState) → keeping grant ≡ state
        → Chain (keeping grant) (granted_along (keeping grant) xs) (after_all (keeping grant) xs)
        → Chain (keeping grant) (granted_along state xs) (after_all state xs)
    ends_with grant state same rest =
        subst (λ (state : ArbiterState). Chain (keeping grant) (granted_along state xs) (after_all state xs)) same rest

    by : (state : ArbiterState) (grants : List Grant) → IsTurn s state grants
        → ((state : ArbiterState) → Chain state (granted_along state xs) (after_all state xs))
        → Chain s (grants ++ granted_along state xs) (after_all state xs)
    by state grants (inl (none, stays)) later =
        subst (λ (grants : List Grant). Chain s (grants ++ granted_along state xs) (after_all state xs)) (sym none)
        (subst (λ (state : ArbiterState). Chain s (granted_along state xs) (after_all state xs)) (sym stays) (later s))
    by state grants (inr (grant, (one, (kept, may)))) later =
        subst (λ (grants : List Grant). Chain s (grants ++ granted_along state xs) (after_all state xs)) (sym one)
        (may, ends_with grant state (sym kept) (later (keeping grant)))

-- a set that is kept is granted again
again_granted : (number : ℕ) (members : List Member) (joining : Option Member)
    → is_granted (record { number = number; members = members }) number members joining ≡ true
again_granted number members joining =
    ap granted_if (le-ltb number number (omega arith))
    ∙ and_from _ _ (eq-eqb number number refl) (same_set-self members)
  where
    granted_if : Bool → Bool
    granted_if greater =
        if greater then lie_in members members joining else number == number && is_same_set members members

again_if : (s : ArbiterState) (node number : ℕ) (members : List Member) (joining : Option Member) (granted : Bool)
    → is_granted s number members joining ≡ granted
    → arbit_row (arbit_if s node number members granted).state node number members joining
    ≡ arbit_if s node number members granted
unfolding arbit_row
again_if s node number members joining true e =
    ap (arbit_if (keeping (asked_for number members joining)) node number members)
    (again_granted number members joining)
again_if s node number members joining false e = ap (arbit_if s node number members) e

-- a signal that comes once more at once is answered as before
pub again : (s : ArbiterState) (node : ℕ) (body : Body)
    → arbiter_table (arbiter_table s node body).state node body ≡ arbiter_table s node body
unfolding arbit_row
again s node (Membership (ArbitReq number members joining)) =
    again_if s node number members joining (is_granted s number members joining) refl
again s node _ = refl
