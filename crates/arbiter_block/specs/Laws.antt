-- What the arbitrator grants, along a list of signals.
use Rattle.std.specs.Prelude.{◌≡◌, ◌≤◌, ℕ, List, [], ◌∷◌, ◌++◌, All, Contains, Option, None}
use Rattle.std.specs.List.{AllPairs, flat_map}
use Rattle.sig_core.specs.declared.member.Member.{Member}
use Rattle.sig_core.specs.declared.outs.Outgoing.{Outgoing}
use Rattle.sig_core.specs.declared.signal.Body.{Body}
use Rattle.sig_core.specs.declared.signal.Body.TheVariants.{Membership}
use Rattle.sig_core.specs.declared.signal.Signal.{Signal}
use Rattle.sig_core.specs.declared.signal.membership.MembershipSignal.TheVariants.{ArbitReq, ArbitConf}
use Rattle.arbiter_block.specs.Arbiter.{ArbiterState, arbiter_row, fresh_arbiter}
use Rattle.arbiter_block.specs.Sets.{without_joining}

-- a number that was granted, the set that was granted for it, and the member that joined with it
pub record Grant : Type 0 where
  pub number : ℕ
  pub members : List Member
  pub joining : Option Member

-- what an answer to a signal grants: the number that it confirms, and the set that was asked for
abbrev pub granted_by : Body → Body → List Grant
granted_by (Membership (ArbitReq number members joining)) (Membership (ArbitConf confirmed)) =
    record { number = confirmed; members = members; joining = joining } ∷ []
granted_by asked answer = []

-- what is granted at a signal, by what is sent
abbrev pub granted_at : Body → List Outgoing → List Grant
granted_at asked sends = flat_map (λ send. granted_by asked send.body) sends

-- the arbitrator after these signals
abbrev pub after_all : ArbiterState → List Signal → ArbiterState
after_all s [] = s
after_all s (x ∷ xs) = after_all (arbiter_row s x).state xs

-- what it grants at them, in order
abbrev pub granted_along : ArbiterState → List Signal → List Grant
granted_along s [] = []
granted_along s (x ∷ xs) = granted_at x.body (arbiter_row s x).effects.sends ++ granted_along (arbiter_row s x).state xs

-- the first view counts as granted
abbrev pub first_grant : List Member → Grant
first_grant members = record { number = 1; members = members; joining = None }

-- all that is granted in a cluster that begins with these members
abbrev pub all_granted : List Member → List Signal → List Grant
all_granted members signals = first_grant members ∷ granted_along (fresh_arbiter members) signals

-- the set without the member that joined with it
abbrev pub others_of : Grant → List Member
others_of grant = without_joining grant.joining grant.members

-- if the two have one number, they have one set
abbrev pub HaveOneSet : Grant → Grant → Type 0
HaveOneSet one other = one.number ≡ other.number → one.members ≡ other.members

-- no number is granted with two sets
abbrev pub OneSetForEachNumber : Type 0
OneSetForEachNumber =
    (members : List Member) (signals : List Signal) → AllPairs HaveOneSet (all_granted members signals)

-- a grant may stand behind another: its number isn't less, and its set lies in the other's, but for who joins
pub record Succeeds (before grant : Grant) : Type 0 where
  pub number : before.number ≤ grant.number
  pub members : All (Contains before.members) (others_of grant)

-- each of the grants stands so behind the one before, the first of them behind this one
abbrev pub SucceedOneAnother : Grant → List Grant → Type 0
SucceedOneAnother before [] = Unit {0}
SucceedOneAnother before (grant ∷ later) = Succeeds before grant × SucceedOneAnother grant later

-- each set lies in the one before, but for the member that joins, and numbers never fall
abbrev pub EachSetLiesInTheOneBefore : Type 0
EachSetLiesInTheOneBefore =
    (members : List Member) (signals : List Signal)
    → SucceedOneAnother (first_grant members) (granted_along (fresh_arbiter members) signals)

-- every granted number is at least 1
abbrev pub ZeroIsNeverGranted : Type 0
ZeroIsNeverGranted =
    (members : List Member) (signals : List Signal) → All (λ grant. 1 ≤ grant.number) (all_granted members signals)

-- the last of the grants, which are this one and those
abbrev pub last_of : Grant → List Grant → Grant
last_of grant [] = grant
last_of grant (next ∷ later) = last_of next later

-- what an arbitrator keeps that granted this last
abbrev pub keeping : Grant → ArbiterState
keeping grant = record { number = grant.number; members = grant.members }

-- what the arbitrator keeps, and names when it refuses, is what it granted last
abbrev pub LastGrantIsKept : Type 0
LastGrantIsKept =
    (members : List Member) (signals : List Signal)
    → after_all (fresh_arbiter members) signals
    ≡ keeping (last_of (first_grant members) (granted_along (fresh_arbiter members) signals))

-- a signal that comes once more at once is answered as before, and changes nothing more
abbrev pub AskedAgainIsAnsweredAlike : Type 0
AskedAgainIsAnsweredAlike =
    (s : ArbiterState) (x : Signal) → arbiter_row (arbiter_row s x).state x ≡ arbiter_row s x
