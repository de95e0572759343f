-- The laws, along a list of events.
use Rattle.std.proofs.Common.{List, [], ◌∷◌, arith}
use Rattle.qmgr_block.specs.Laws.{Event, LastPromiseIsNotBelowTheView, NumbersNeverFall, ProposalsAreNew}
use Rattle.qmgr_block.specs.Laws.{StartsAreNotForgotten, after, after_all, installs, takes}
use Rattle.qmgr_block.specs.State.{QmgrState, fresh_qmgr}
use Rattle.qmgr_block.proofs.KeptLemmas.{Kept, kept_on, kept_self}
use Rattle.qmgr_block.proofs.NewLemmas.{table_new}
use Rattle.qmgr_block.proofs.RowLemmas.{installed_kept, table_kept}

event_kept : (s : QmgrState) (event : Event) → Kept s.known (after s event).known
event_kept s (takes x) = table_kept s x.from.0 x.member x.view.number x.body
event_kept s (installs view) = installed_kept s.known view

all_kept : (s : QmgrState) (events : List Event) → Kept s.known (after_all s events).known
all_kept s [] = kept_self s.known
all_kept s (event ∷ events) =
    kept_on s.known (after s event).known (after_all (after s event) events).known
    (event_kept s event) (all_kept (after s event) events)

pub never_fall : NumbersNeverFall
never_fall s events =
    let kept = all_kept s events in
    record { promised = kept.promised; proposed = kept.proposed }

pub not_forgotten : StartsAreNotForgotten
not_forgotten s events member =
    let kept = all_kept s events in
    record { closed = kept.closed member; seen = kept.seen member }

pub not_below : LastPromiseIsNotBelowTheView
not_below me layout events = (all_kept (fresh_qmgr me layout) events).above (omega arith)

pub are_new : ProposalsAreNew
are_new s x = table_new s x.from.0 x.member x.view.number x.body
