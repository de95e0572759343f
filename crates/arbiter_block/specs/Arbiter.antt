-- What the arbitrator does, signal by signal.
use Rattle.std.specs.Prelude.{ℕ, ◌==◌, ◌&&◌, Bool, true, false, nat_lt, if◌then◌else◌, List, Option}
use Rattle.sig_core.specs.declared.member.Member.{Member}
use Rattle.sig_core.specs.declared.place.BlockId.TheVariants.{Qmgr}
use Rattle.sig_core.specs.declared.place.Place.{Place}
use Rattle.sig_core.specs.declared.signal.Body.{Body}
use Rattle.sig_core.specs.declared.signal.Body.TheVariants.{Membership}
use Rattle.sig_core.specs.declared.signal.Signal.{Signal}
use Rattle.sig_core.specs.declared.signal.membership.MembershipSignal.TheVariants.{ArbitReq, ArbitConf, ArbitRef}
use Rattle.sig_core.specs.Step.{Step, stay, sending}
use Rattle.arbiter_block.specs.Sets.{is_same_set, lie_in}

-- what the arbitrator keeps: the number that it granted last, and the set that it granted for it
pub record ArbiterState : Type 0 where
  pub number : ℕ
  pub members : List Member

-- a cluster begins in view 1, with these members
abbrev pub fresh_arbiter : List Member → ArbiterState
fresh_arbiter members = record { number = 1; members = members }

-- the block of a node that asks for grants
abbrev pub asker : ℕ → Place
asker node = record { node = node; block = Qmgr }

-- a greater number is granted if the members, without the one that joins, lie in the kept set, and the kept number if
-- they are the kept set
abbrev pub is_granted : ArbiterState → ℕ → List Member → Option Member → Bool
is_granted s number members joining =
    if nat_lt s.number number
    then lie_in s.members members joining
    else number == s.number && is_same_set members s.members

abbrev pub arbit_if : ArbiterState → ℕ → ℕ → List Member → Bool → Step ArbiterState
arbit_if s node number members true =
    sending (record { number = number; members = members }) (asker node) (Membership (ArbitConf number))
arbit_if s node number members false = sending s (asker node) (Membership (ArbitRef s.number s.members))

-- a node asks for a set: it is granted, or refused with what is kept
unfoldable pub arbit_row : ArbiterState → ℕ → ℕ → List Member → Option Member → Step ArbiterState
arbit_row s node number members joining = arbit_if s node number members (is_granted s number members joining)

-- what the arbitrator does, by the node that a signal comes from and what it says. It leaves the others alone
abbrev pub arbiter_table : ArbiterState → ℕ → Body → Step ArbiterState
arbiter_table s node (Membership (ArbitReq number members joining)) = arbit_row s node number members joining
arbiter_table s node _ = stay s

-- what the arbitrator does at each signal
abbrev pub arbiter_row : ArbiterState → Signal → Step ArbiterState
arbiter_row s x = arbiter_table s x.member.node x.body
