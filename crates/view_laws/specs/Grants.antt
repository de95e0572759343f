-- What the arbitrator grants, along a list of signals, the newest first.
use Rattle.std.specs.Prelude.{◌≡◌, List, [], ◌∷◌, ◌++◌, map, None}
use Rattle.sig_core.specs.declared.member.Member.{Member}
use Rattle.sig_core.specs.declared.signal.Signal.{Signal}
use Rattle.arbiter_block.specs.Arbiter.{ArbiterState, arbiter_row, fresh_arbiter}
use Rattle.arbiter_block.specs.Laws.{Grant, granted_at}
use Rattle.view_laws.specs.Ballots.{Ballots, Granted}
use Rattle.view_laws.specs.Orderly.{IsFirstGrant, IsNextGrant}
use Rattle.view_laws.specs.Sets.{all_of}

-- the arbitrator of a cluster that begins with these members, after these signals
abbrev pub arbiter_of : List Member → List Signal → ArbiterState
arbiter_of members [] = fresh_arbiter members
arbiter_of members (x ∷ signals) = (arbiter_row (arbiter_of members signals) x).state

-- a grant, as ballots have it
abbrev pub as_granted : Grant → Granted
as_granted grant = record { number = grant.number; members = grant.members; joining = grant.joining }

-- the first view counts as granted
abbrev pub first_granted : List Member → Granted
first_granted members = record { number = 1; members = members; joining = None }

-- all that it grants, behind the first view
abbrev pub grants_of : List Member → List Signal → List Granted
grants_of members [] = first_granted members ∷ []
grants_of members (x ∷ signals) =
    map as_granted (granted_at x.body (arbiter_row (arbiter_of members signals) x).effects.sends)
    ++ grants_of members signals

-- each grant stands rightly behind the one before, and the first is that of the first view
abbrev pub StandBehind : Ballots → List Granted → Type 0
StandBehind b [] = ⊥
StandBehind b (grant ∷ []) = IsFirstGrant b grant
StandBehind b (grant ∷ last ∷ older) = IsNextGrant last grant × StandBehind b (last ∷ older)

-- so it is where a cluster begins in a view of the number 1
abbrev pub GrantsStandBehindOneAnother : Type 0
GrantsStandBehindOneAnother =
    (b : Ballots) (signals : List Signal) → b.first.number ≡ 1 → StandBehind b (grants_of (all_of b.first) signals)
