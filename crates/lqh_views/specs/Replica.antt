-- What the rows of a node do under views, signal by signal.
use Rattle.std.specs.Prelude.{ℕ, Bool, true, false, nat_lt, map, None}
use Rattle.frag_map.specs.Layout.{Layout}
use Rattle.sig_core.specs.declared.signal.Body.{Body}
use Rattle.sig_core.specs.declared.signal.Body.TheVariants.{Host, Membership, Takeover, Epoch}
use Rattle.sig_core.specs.declared.signal.Signal.{Signal}
use Rattle.sig_core.specs.declared.signal.host.HostSignal.TheVariants.{Continue}
use Rattle.sig_core.specs.declared.signal.host.Work.TheVariants.{Granted, Expired, Report}
use Rattle.sig_core.specs.declared.signal.membership.MembershipSignal.TheVariants.{FenceReq}
use Rattle.sig_core.specs.declared.signal.takeover.TakeoverSignal.TheVariants.{LqhTransReq}
use Rattle.sig_core.specs.declared.view.View.{View}
use Rattle.sig_core.specs.Journal.{JournalState, OutletState}
use Rattle.sig_core.specs.Rows.{RowsState}
use Rattle.sig_core.specs.Step.{Step, stay}
use Rattle.lqh_block.specs.Lqh.{lqh_row, unasked_yet}
use Rattle.lqh_block.specs.State.{LqhState}
use Rattle.lqh_block.specs.Views.{entered}
use Rattle.lqh_views.specs.Address.{addressed}
use Rattle.lqh_views.specs.Epochs.{epoch_table, fence_row}
use Rattle.lqh_views.specs.Report.{go_on_row, report_row}
use Rattle.lqh_views.specs.State.{ReplicaState, with_lqh}

-- a node's rows before the first signal, in a life that starts from an epoch
abbrev pub fresh_replica : ℕ → Layout → RowsState → JournalState → OutletState → ℕ → ReplicaState
fresh_replica node layout rows journal outlet start =
    record { lqh = unasked_yet node layout rows journal outlet; closed = start; saved = start; report = None }

-- a step of the rows, whose signals are addressed in the view
abbrev pub in_rows : ReplicaState → Step LqhState → Step ReplicaState
in_rows s step =
    record {
      state = with_lqh s step.state;
      effects = record { sends = map (addressed s.lqh.layout.view) step.effects.sends; marks = step.effects.marks };
    }

-- a signal goes on to the rows
abbrev pub passed : ReplicaState → Signal → Step ReplicaState
passed s x = in_rows s (lqh_row s.lqh x)

-- the signal comes from an older view
abbrev pub is_stale : ReplicaState → Signal → Bool
is_stale s x = nat_lt x.view.number s.lqh.layout.view.number

-- waits were granted, or have stood too long; such a signal of an older view is of waits that are gone
abbrev pub serve_if : ReplicaState → Signal → Bool → Step ReplicaState
serve_if s x true = stay s
serve_if s x false = passed s x

-- what the block does, by what a signal says
abbrev pub replica_by : ReplicaState → Signal → Body → Step ReplicaState
replica_by s x (Membership (FenceReq proposal)) = fence_row s
replica_by s x (Takeover LqhTransReq) = report_row s x.member.node
replica_by s x (Host (Continue Report at)) = go_on_row s x.view.number
replica_by s x (Host (Continue Granted at)) = serve_if s x (is_stale s x)
replica_by s x (Host (Continue Expired at)) = serve_if s x (is_stale s x)
replica_by s x (Epoch signal) = epoch_table s x.member.node signal
replica_by s x _ = passed s x

-- what the block does at each signal
abbrev pub replica_row : ReplicaState → Signal → Step ReplicaState
replica_row s x = replica_by s x x.body

-- a view is installed: waits end, and so does a report that is under way
abbrev pub installed : ReplicaState → View → ReplicaState
installed s view = record { lqh = entered s.lqh view; closed = s.closed; saved = s.saved; report = None }
