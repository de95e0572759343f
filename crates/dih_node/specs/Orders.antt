-- The orders of the master of checkpoints, fences, and views.
use Rattle.std.specs.Prelude.{ℕ, if◌then◌else◌, Bool, true, false, nat_le, nat_lt, Some}
use Rattle.sig_core.specs.declared.signal.Body.TheVariants.{Epoch, Membership}
use Rattle.sig_core.specs.declared.signal.epoch.EpochSignal.TheVariants.{GcpPrepareConf, GcpClosedConf, CopyGciConf}
use Rattle.sig_core.specs.declared.signal.epoch.EpochSignal.TheVariants.{GcpStateConf}
use Rattle.sig_core.specs.declared.signal.membership.MembershipSignal.TheVariants.{FenceConf}
use Rattle.sig_core.specs.Place.{checkpoints, membership}
use Rattle.sig_core.specs.Step.{Step, joined, sends_only, sending, stay}
use Rattle.dih_node.specs.State.{DihState, can_serve, go_on_if}
use Rattle.dih_node.specs.Verify.{reported}

-- the greater of two
abbrev pub greater : ℕ → ℕ → ℕ
greater one other = if nat_lt one other then other else one

-- an epoch is prepared, unless the current one is beyond it
abbrev pub prepared_if : DihState → ℕ → ℕ → Bool → DihState
prepared_if s epoch next true = record s { prepared = epoch; next = next }
prepared_if s epoch next false = s

-- no epoch is given from now on. An order that was carried out before is confirmed again
unfoldable pub prepare_row : DihState → ℕ → ℕ → ℕ → Step DihState
prepare_row s from epoch next =
    sending (prepared_if s epoch next (nat_le s.current epoch)) (checkpoints from) (Epoch (GcpPrepareConf epoch))

-- the end of an order is reported to who sent it last
abbrev pub noting : DihState → ℕ → ℕ → Step DihState
noting s from epoch = reported (record s { order = Some (record { epoch = epoch; to = from }) })

-- the requests that are held are served then
abbrev pub serving : Step DihState → Step DihState
serving step =
    record {
      state = step.state;
      effects = joined step.effects (sends_only (go_on_if step.state.node (can_serve step.state)));
    }

-- the epoch that follows is given from now on
abbrev pub committed : DihState → ℕ → ℕ → DihState
committed s epoch next = record s { current = next; prepared = epoch; next = next }

abbrev pub commit_if : DihState → ℕ → ℕ → ℕ → Bool → Step DihState
commit_if s from epoch next true = serving (noting (committed s epoch next) from epoch)
commit_if s from epoch next false = noting s from epoch

-- the epoch is committed, unless it was before
unfoldable pub commit_row : DihState → ℕ → ℕ → ℕ → Step DihState
commit_row s from epoch next = commit_if s from epoch next (nat_le s.current epoch)

-- it notes that an epoch is closed
unfoldable pub close_row : DihState → ℕ → ℕ → Step DihState
close_row s from epoch =
    sending (record s { closed = greater s.closed epoch }) (checkpoints from) (Epoch (GcpClosedConf epoch))

-- without a disk there is no system file to write
unfoldable pub copy_row : DihState → ℕ → ℕ → Step DihState
copy_row s from epoch = sending s (checkpoints from) (Epoch (CopyGciConf epoch))

-- it notes that an epoch is durable
unfoldable pub done_row : DihState → ℕ → Step DihState
done_row s epoch = stay (record s { durable = greater s.durable epoch })

-- it tells how far it is; what is saved it doesn't know
unfoldable pub state_row : DihState → ℕ → Step DihState
state_row s from = sending s (checkpoints from) (Epoch (GcpStateConf s.current s.prepared s.next s.closed 0 s.durable))

-- a view of this number is promised: no epoch is given until it, or a later one, is installed
unfoldable pub fence_row : DihState → ℕ → Step DihState
fence_row s number = sending (record s { fence = greater s.fence number }) (membership s.node) (Membership FenceConf)

-- a view of this number is installed: the requests that are held are served
unfoldable pub install_row : DihState → ℕ → Step DihState
install_row s number = serving (stay (record s { number = number; fence = greater s.fence number }))
