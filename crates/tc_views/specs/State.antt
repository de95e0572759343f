-- The state of a coordinator under views.
use Rattle.std.specs.Prelude.{ℕ, Bool, true, false, nat_lt, List, [], ◌∷◌, filter, length}
use Rattle.sig_core.specs.declared.member.TxId.{TxId}
use Rattle.sig_core.specs.declared.outs.Outgoing.{Outgoing}
use Rattle.sig_core.specs.declared.signal.host.Work.TheVariants.{Installation}
use Rattle.sig_core.specs.Place.{coordinator}
use Rattle.sig_core.specs.Portion.{go_on_at}
use Rattle.sig_core.specs.Step.{Step, joined, sends_only}
use Rattle.tc_block.specs.declared.task.Task.{Task}
use Rattle.tc_block.specs.Live.{is_live}
use Rattle.tc_block.specs.State.{TcState}

-- A coordinator within its view; the number of that view, and that below which it is fenced off; which of its
-- transactions
-- are doomed; and what the installation of the view left to do, in the order in which the transactions began.
pub record CoordinatorState : Type 0 where
  pub tc : TcState
  pub number : ℕ
  pub fence : ℕ
  pub doomed : List TxId
  pub left : List Task

-- of these transactions those that aren't forgotten
abbrev pub still_live : TcState → List TxId → List TxId
still_live tc txs = filter (is_live tc) txs

-- the coordinator steps within its view. Who is forgotten isn't doomed any more
unfoldable pub within : CoordinatorState → Step TcState → Step CoordinatorState
within s step =
    record {
      state = record s { tc = step.state; doomed = still_live step.state s.doomed };
      effects = step.effects;
    }

-- the signal by which it goes on with what the installation left to do, if something is left
abbrev pub go_on_if : ℕ → Bool → List Outgoing
go_on_if node true = go_on_at (coordinator node) Installation 0 ∷ []
go_on_if node false = []

abbrev pub go_on_with : ℕ → List Task → List Outgoing
go_on_with node left = go_on_if node (nat_lt 0 (length left))
