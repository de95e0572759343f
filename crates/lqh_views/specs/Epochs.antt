-- Fences, and the orders of the master of checkpoints.
use Rattle.std.specs.Prelude.{ℕ, if◌then◌else◌, nat_lt}
use Rattle.sig_core.specs.declared.signal.Body.TheVariants.{Epoch, Membership}
use Rattle.sig_core.specs.declared.signal.epoch.EpochSignal.{EpochSignal}
use Rattle.sig_core.specs.declared.signal.epoch.EpochSignal.TheVariants.{GcpClosed, GcpClosedConf, GcpSaveReq}
use Rattle.sig_core.specs.declared.signal.epoch.EpochSignal.TheVariants.{GcpSaveConf, GcpStateReq, GcpStateConf}
use Rattle.sig_core.specs.declared.signal.membership.MembershipSignal.TheVariants.{FenceConf}
use Rattle.sig_core.specs.Place.{checkpoints, membership}
use Rattle.sig_core.specs.Step.{Step, sending, stay}
use Rattle.lqh_views.specs.State.{ReplicaState}

-- the greater of two
abbrev pub greater : ℕ → ℕ → ℕ
greater one other = if nat_lt one other then other else one

-- a view is promised: that is confirmed to the membership of the node
abbrev pub fence_row : ReplicaState → Step ReplicaState
fence_row s = sending s (membership s.lqh.node) (Membership FenceConf)

-- it notes that an epoch is closed
abbrev pub close_row : ReplicaState → ℕ → ℕ → Step ReplicaState
close_row s from epoch =
    sending (record { lqh = s.lqh; closed = greater s.closed epoch; saved = s.saved; report = s.report })
    (checkpoints from) (Epoch (GcpClosedConf epoch))

-- and that one is saved; without a disk there is nothing to write
abbrev pub save_row : ReplicaState → ℕ → ℕ → Step ReplicaState
save_row s from epoch =
    sending (record { lqh = s.lqh; closed = s.closed; saved = greater s.saved epoch; report = s.report })
    (checkpoints from) (Epoch (GcpSaveConf epoch))

-- it tells how far it is; the rest it doesn't know
abbrev pub state_row : ReplicaState → ℕ → Step ReplicaState
state_row s from = sending s (checkpoints from) (Epoch (GcpStateConf 0 0 0 s.closed s.saved 0))

-- what it does at a signal of epochs, by the node that it comes from. It leaves the others alone
abbrev pub epoch_table : ReplicaState → ℕ → EpochSignal → Step ReplicaState
epoch_table s from (GcpClosed epoch) = close_row s from epoch
epoch_table s from (GcpSaveReq epoch) = save_row s from epoch
epoch_table s from GcpStateReq = state_row s from
epoch_table s from _ = stay s
