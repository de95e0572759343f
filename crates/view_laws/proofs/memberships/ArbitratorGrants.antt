-- The rows of the arbitrator: what it grants stands rightly behind what it granted before.
use Rattle.std.proofs.Common.{◌≡◌, ◌&&◌, ◌==◌, ◌⊎◌, ℕ, Bool, true, false, nat_lt, List, [], ◌∷◌, ◌++◌, map, refl, ap}
use Rattle.std.proofs.Common.{sym, subst, inl, inr}
use Rattle.std.proofs.lemmas.Bool.{and_parts, eqb-true, false≢true, ltb-true, or_cases}
use Rattle.std.specs.List.{list_all}
use Rattle.std.specs.Prelude.{if◌then◌else◌, Option, None, Some}
use Rattle.run_theory.specs.Lists.{Each}
use Rattle.sig_core.specs.declared.member.Member.{Member}
use Rattle.sig_core.specs.declared.signal.Body.{Body}
use Rattle.sig_core.specs.declared.signal.Body.TheVariants.{Membership}
use Rattle.sig_core.specs.declared.signal.Signal.{Signal}
use Rattle.sig_core.specs.declared.signal.membership.MembershipSignal.TheVariants.{ArbitReq}
use Rattle.arbiter_block.specs.Arbiter.{ArbiterState, arbit_if, arbit_row, arbiter_table, is_granted}
use Rattle.arbiter_block.specs.Laws.{granted_at}
use Rattle.arbiter_block.specs.Sets.{is_among, is_joining, is_same_set, joins_or_is_among, lie_in}
use Rattle.view_laws.specs.Ballots.{Ballots, Granted}
use Rattle.view_laws.specs.Grants.{GrantsStandBehindOneAnother, StandBehind, arbiter_of, as_granted, grants_of}
use Rattle.view_laws.specs.Orderly.{IsAmong, IsNextGrant}
use Rattle.view_laws.specs.Sets.{all_of}
use Rattle.view_laws.proofs.memberships.SetTests.{any_is, same_is, set_is}

-- members that lie in a set, but for who joins
among : (set : List Member) (joining : Option Member) (member : Member)
    → (is_joining joining member ≡ true) ⊎ (is_among set member ≡ true) → IsAmong set joining member
among set None member (inl e) = absurd (false≢true e)
among set (Some one) member (inl e) = inr (ap Some (sym (same_is one member e)))
among set joining member (inr e) = inl (any_is set member e)

all_among : (set : List Member) (joining : Option Member) (members : List Member)
    → list_all (joins_or_is_among set joining) members ≡ true → Each (IsAmong set joining) members
all_among set joining [] e = tt
all_among set joining (member ∷ members) e =
    let parts =
    and_parts (joins_or_is_among set joining member) (list_all (joins_or_is_among set joining) members) e in (
      among set joining member (or_cases (is_joining joining member) (is_among set member) parts.0),
      all_among set joining members parts.1,
    )

-- what is asked for
abbrev asked_for : ℕ → List Member → Option Member → Granted
asked_for number members joining = record { number = number; members = members; joining = joining }

-- what an arbitrator keeps that granted this last
abbrev keeping : Granted → ArbiterState
keeping grant = record { number = grant.number; members = grant.members }

next_if : (last : Granted) (number : ℕ) (members : List Member) (joining : Option Member) (greater : Bool)
    → nat_lt last.number number ≡ greater
    → (if greater then lie_in last.members members joining
    else number == last.number && is_same_set members last.members)
    ≡ true
    → IsNextGrant last (asked_for number members joining)
unfolding lie_in is_same_set
next_if last number members joining true greater e =
    inl (ltb-true last.number number greater, all_among last.members joining members e)
next_if last number members joining false greater e =
    let parts = and_parts (number == last.number) (is_same_set members last.members) e in
    inr (eqb-true number last.number parts.0, set_is members last.members parts.1)

-- all grants stand rightly, and the newest is kept
abbrev IsKept : ArbiterState → List Granted → Type 0
IsKept s [] = ⊥
IsKept s (grant ∷ older) = s ≡ keeping grant

record AreRight (b : Ballots) (s : ArbiterState) (grants : List Granted) : Type 0 where
  behind : StandBehind b grants
  kept : IsKept s grants

more : (b : Ballots) (s : ArbiterState) (number : ℕ) (members : List Member) (joining : Option Member)
    (grants : List Granted) → is_granted s number members joining ≡ true → AreRight b s grants
    → StandBehind b (asked_for number members joining ∷ grants)
more b s number members joining [] e right = absurd right.kept
more b s number members joining (last ∷ older) e right =
    let granted : is_granted (keeping last) number members joining ≡ true =
    subst (λ (s : ArbiterState). is_granted s number members joining ≡ true) right.kept e in
    (next_if last number members joining (nat_lt last.number number) refl granted, right.behind)

turn_if : (b : Ballots) (s : ArbiterState) (node number : ℕ) (members : List Member) (joining : Option Member)
    (grants : List Granted) (granted : Bool) → is_granted s number members joining ≡ granted → AreRight b s grants
    → AreRight b (arbit_if s node number members granted).state
    (map as_granted (granted_at (Membership (ArbitReq number members joining))
    (arbit_if s node number members granted).effects.sends) ++ grants)
turn_if b s node number members joining grants true e right =
    record { behind = more b s number members joining grants e right; kept = refl }
turn_if b s node number members joining grants false e right = right

turn : (b : Ballots) (s : ArbiterState) (node : ℕ) (body : Body) (grants : List Granted) → AreRight b s grants
    → AreRight b (arbiter_table s node body).state
    (map as_granted (granted_at body (arbiter_table s node body).effects.sends) ++ grants)
unfolding arbit_row
turn b s node (Membership (ArbitReq number members joining)) grants right =
    turn_if b s node number members joining grants (is_granted s number members joining) refl right
turn b s node _ grants right = right

all_right : (b : Ballots) (signals : List Signal) → b.first.number ≡ 1
    → AreRight b (arbiter_of (all_of b.first) signals) (grants_of (all_of b.first) signals)
all_right b [] one = record { behind = (sym one, refl); kept = refl }
all_right b (x ∷ signals) one =
    turn b (arbiter_of (all_of b.first) signals) x.member.node x.body (grants_of (all_of b.first) signals)
    (all_right b signals one)

pub grants_stand : GrantsStandBehindOneAnother
grants_stand b signals one = (all_right b signals one).behind
