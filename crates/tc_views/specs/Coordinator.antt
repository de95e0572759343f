-- What a coordinator under views does, signal by signal.
use Rattle.std.specs.Prelude.{ℕ, ◌&&◌, Bool, true, false, nat_lt, List, []}
use Rattle.std.specs.List.{list_any}
use Rattle.frag_map.specs.Layout.{Layout}
use Rattle.sig_core.specs.declared.member.TxId.{TxId}
use Rattle.sig_core.specs.declared.signal.Body.{Body}
use Rattle.sig_core.specs.declared.signal.Body.TheVariants.{Client, Epoch, Host, Membership}
use Rattle.sig_core.specs.declared.signal.Signal.{Signal}
use Rattle.sig_core.specs.declared.signal.client.ClientSignal.TheVariants.{TcKeyReq, TcRollbackReq}
use Rattle.sig_core.specs.declared.signal.epoch.EpochSignal.TheVariants.{DiVerifyConf}
use Rattle.sig_core.specs.declared.signal.host.HostSignal.TheVariants.{Continue}
use Rattle.sig_core.specs.declared.signal.host.Work.TheVariants.{Installation, Transaction}
use Rattle.sig_core.specs.declared.signal.membership.MembershipSignal.TheVariants.{FenceReq}
use Rattle.sig_core.specs.Same.{same_tx}
use Rattle.sig_core.specs.Step.{Step, stay}
use Rattle.tc_block.specs.declared.task.Task.{Task}
use Rattle.tc_block.specs.declared.task.Verdict.{Verdict}
use Rattle.tc_block.specs.declared.task.Verdict.TheVariants.{Fail}
use Rattle.tc_block.specs.Doom.{is_among}
use Rattle.tc_block.specs.Tc.{idle, tc_table}
use Rattle.tc_views.specs.State.{CoordinatorState, within}
use Rattle.tc_views.specs.Views.{fence_row, resume_row}

-- a coordinator that has begun no transaction, in the view of its layout
abbrev pub fresh_coordinator : ℕ → ℕ → Layout → CoordinatorState
fresh_coordinator node start layout =
    record {
      tc = idle node start layout;
      number = layout.view.number;
      fence = layout.view.number;
      doomed = [];
      left = [];
    }

-- what it does within its view
abbrev pub calm_row : CoordinatorState → Body → Step CoordinatorState
calm_row s body = within s (tc_table s.tc body)

-- and that unless something stands against it
abbrev pub calm_unless : CoordinatorState → Body → Bool → Step CoordinatorState
calm_unless s body true = stay s
calm_unless s body false = calm_row s body

abbrev pub is_failing : Verdict → Bool
is_failing Fail = true
is_failing verdict = false

abbrev pub fails : TxId → Task → Bool
fails tx task = same_tx tx task.tx && is_failing task.verdict

-- the installation left the transaction to be aborted
abbrev pub is_to_fail : List Task → TxId → Bool
is_to_fail left tx = list_any (fails tx) left

-- What it does, by the number of the sender's view and what the signal says. A doomed transaction takes no epoch. A
-- list of
-- sends that was begun in an older view has ended. Who is left to be aborted does nothing more: an abort could overtake
-- an
-- operation on its way to a replica, which would keep the record.
abbrev pub coordinator_table : CoordinatorState → ℕ → Body → Step CoordinatorState
coordinator_table s number (Membership (FenceReq proposal)) = fence_row s proposal
coordinator_table s number (Host (Continue Installation at)) = resume_row s number
coordinator_table s number (Host (Continue (Transaction tx) at)) =
    calm_unless s (Host (Continue (Transaction tx) at)) (nat_lt number s.number)
coordinator_table s number (Epoch (DiVerifyConf tx epoch)) =
    calm_unless s (Epoch (DiVerifyConf tx epoch)) (is_among s.doomed tx)
coordinator_table s number (Client (TcKeyReq tx op)) =
    calm_unless s (Client (TcKeyReq tx op)) (is_to_fail s.left tx)
coordinator_table s number (Client (TcRollbackReq tx)) =
    calm_unless s (Client (TcRollbackReq tx)) (is_to_fail s.left tx)
coordinator_table s number body = calm_row s body

-- what it does at each signal
abbrev pub coordinator_row : CoordinatorState → Signal → Step CoordinatorState
coordinator_row s x = coordinator_table s x.view.number x.body
