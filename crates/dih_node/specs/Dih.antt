-- What a node's epochs do, signal by signal.
use Rattle.std.specs.Prelude.{ℕ, [], None}
use Rattle.sig_core.specs.declared.signal.Body.{Body}
use Rattle.sig_core.specs.declared.signal.Body.TheVariants.{Host, Membership, Epoch}
use Rattle.sig_core.specs.declared.signal.Signal.{Signal}
use Rattle.sig_core.specs.declared.signal.epoch.EpochSignal.{EpochSignal}
use Rattle.sig_core.specs.declared.signal.epoch.EpochSignal.TheVariants.{DiVerifyReq, DiVerifyEnd, GcpPrepare}
use Rattle.sig_core.specs.declared.signal.epoch.EpochSignal.TheVariants.{GcpCommit, GcpClosed, CopyGciReq, GcpDone}
use Rattle.sig_core.specs.declared.signal.epoch.EpochSignal.TheVariants.{GcpStateReq}
use Rattle.sig_core.specs.declared.signal.host.HostSignal.TheVariants.{Continue}
use Rattle.sig_core.specs.declared.signal.host.Work.TheVariants.{Held}
use Rattle.sig_core.specs.declared.signal.membership.MembershipSignal.TheVariants.{FenceReq}
use Rattle.sig_core.specs.Step.{Step, stay}
use Rattle.dih_node.specs.Orders.{close_row, commit_row, copy_row, done_row, fence_row, prepare_row, state_row}
use Rattle.dih_node.specs.State.{DihState}
use Rattle.dih_node.specs.Verify.{end_row, serve_row, verify_row}

-- A node that begins in a view of this number, with this current epoch, in a life that starts from that one. A later
-- start begins with current epoch 0, and gives none before it has committed one.
abbrev pub fresh_dih : ℕ → ℕ → ℕ → ℕ → DihState
fresh_dih node number current start =
    record {
      node = node;
      number = number;
      fence = number;
      current = current;
      prepared = start;
      next = current;
      closed = start;
      durable = start;
      counted = [];
      held = [];
      order = None;
    }

-- what it does at a signal of epochs, by the node that it comes from
abbrev pub epoch_table : DihState → ℕ → EpochSignal → Step DihState
epoch_table s from (DiVerifyReq tx ops) = verify_row s tx
epoch_table s from (DiVerifyEnd tx) = end_row s tx
epoch_table s from (GcpPrepare epoch next) = prepare_row s from epoch next
epoch_table s from (GcpCommit epoch next) = commit_row s from epoch next
epoch_table s from (GcpClosed epoch) = close_row s from epoch
epoch_table s from (CopyGciReq epoch mask) = copy_row s from epoch
epoch_table s from (GcpDone epoch) = done_row s epoch
epoch_table s from GcpStateReq = state_row s from
epoch_table s from _ = stay s

-- what it does, by the node that a signal comes from, the number of the sender's view, and what the signal says. It
-- leaves the others alone
abbrev pub dih_table : DihState → ℕ → ℕ → Body → Step DihState
dih_table s from number (Host (Continue Held at)) = serve_row s number
dih_table s from number (Membership (FenceReq proposal)) = fence_row s proposal.number
dih_table s from number (Epoch signal) = epoch_table s from signal
dih_table s from number _ = stay s

-- what it does at each signal
abbrev pub dih_row : DihState → Signal → Step DihState
dih_row s x = dih_table s x.member.node x.view.number x.body
