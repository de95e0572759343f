-- What is reported is true: nothing up to the epoch is counted, and a greater one is given.
use Rattle.std.proofs.Common.{◌≡◌, ℕ, ◌+◌, ◌<◌, Bool, true, false, nat_le, nat_lt, List, [], ◌∷◌, refl, sym, subst}
use Rattle.std.proofs.Common.{length}
use Rattle.std.proofs.lemmas.Bool.{leb-false}
use Rattle.std.proofs.lemmas.List.Elements.{All-nil, All-cons}
use Rattle.std.specs.List.{All}
use Rattle.std.specs.Prelude.{Option, None, Some, ◌==◌, position, remove, slice_get}
use Rattle.sig_core.specs.declared.member.TxId.{TxId}
use Rattle.sig_core.specs.declared.signal.Body.{Body}
use Rattle.sig_core.specs.declared.signal.Body.TheVariants.{Host, Membership, Epoch}
use Rattle.sig_core.specs.declared.signal.epoch.EpochSignal.{EpochSignal}
use Rattle.sig_core.specs.declared.signal.epoch.EpochSignal.TheVariants.{DiVerifyReq, DiVerifyEnd, GcpPrepare}
use Rattle.sig_core.specs.declared.signal.epoch.EpochSignal.TheVariants.{GcpCommit, GcpClosed, CopyGciReq, GcpDone}
use Rattle.sig_core.specs.declared.signal.epoch.EpochSignal.TheVariants.{GcpPrepareConf, GcpStateReq}
use Rattle.sig_core.specs.declared.signal.host.HostSignal.TheVariants.{Continue}
use Rattle.sig_core.specs.declared.signal.host.Work.TheVariants.{Held}
use Rattle.sig_core.specs.declared.signal.membership.MembershipSignal.TheVariants.{FenceReq}
use Rattle.sig_core.specs.Place.{checkpoints}
use Rattle.sig_core.specs.Same.{same_tx}
use Rattle.sig_core.specs.Step.{Step, joined, sending, sends_only, stay}
use Rattle.dih_node.specs.declared.dih.Report.{Report}
use Rattle.dih_node.specs.declared.dih.TheConstants.{TRANSACTIONS}
use Rattle.dih_node.specs.Dih.{dih_table, epoch_table, fresh_dih}
use Rattle.dih_node.specs.Laws.{AllNameGreater, Event, Installs, IsTrueOf, NamesGreater, ReportsAreTrue, ReportsHold}
use Rattle.dih_node.specs.Laws.{Takes, reports_at, step_at}
use Rattle.dih_node.specs.Orders.{close_row, commit_if, commit_row, committed, copy_row, done_row, fence_row, greater}
use Rattle.dih_node.specs.Orders.{install_row, prepare_row, prepared_if, state_row}
use Rattle.dih_node.specs.State.{DihState, can_serve, gives, go_on_if, is_unfinished}
use Rattle.dih_node.specs.Verify.{end_row, ended, ended_by, given, held_by, is_of, report_by, report_if, reported}
use Rattle.dih_node.specs.Verify.{serve_by, serve_if, serve_row, take_if, verify_if, verify_row}

-- an order whose end is to be reported is of an epoch below the current one
abbrev IsBelow : Option Report → ℕ → Type 0
IsBelow None current = Unit {0}
IsBelow (Some order) current = order.epoch < current

abbrev IsSound : DihState → Type 0
IsSound s = IsBelow s.order s.current

-- a step that leaves it so, and tells the truth
record Told (step : Step DihState) : Type 0 where
  sound : IsSound step.state
  told : All (IsTrueOf step.state) (reports_at step)

-- nothing is reported
silent : (step : Step DihState) → IsSound step.state → reports_at step ≡ [] → Told step
silent step sound none =
    record {
      sound = sound;
      told = subst (λ (epochs : List ℕ). All (IsTrueOf step.state) epochs) (sym none) (All-nil _);
    }

one : (s : DihState) (epoch : ℕ) → epoch < s.current → is_unfinished s.counted epoch ≡ false
    → All (IsTrueOf s) (epoch ∷ [])
one s epoch below finished =
    All-cons (IsTrueOf s) epoch [] (record { current = below; finished = finished }) (All-nil (IsTrueOf s))

report_told : (now : DihState) → IsSound now → Told (reported now)
unfolding reported
report_told now sound = by now.order sound
  where
    by_if : (order : Report) → order.epoch < now.current → (left : Bool) → is_unfinished now.counted order.epoch ≡ left
        → Told (report_if now order left)
    by_if order below true e = silent (report_if now order true) sound refl
    by_if order below false e = record { sound = tt; told = one (record now { order = None }) order.epoch below e }

    by : (order : Option Report) → IsBelow order now.current → Told (report_by now order)
    by None below = silent (report_by now None) sound refl
    by (Some order) below = by_if order below (is_unfinished now.counted order.epoch) refl

-- the same, with the signal that goes on with what is held
abbrev going : Step DihState → Bool → Step DihState
going step more =
    record { state = step.state; effects = joined step.effects (sends_only (go_on_if step.state.node more)) }

going_told : (now : DihState) → IsSound now → (more : Bool) → Told (going (reported now) more)
unfolding reported
going_told now sound more = by now.order sound
  where
    told : (order : Report) → order.epoch < now.current → is_unfinished now.counted order.epoch ≡ false
        → (more : Bool) → Told (going (report_if now order false) more)
    told order below e true = record { sound = tt; told = one (record now { order = None }) order.epoch below e }
    told order below e false = record { sound = tt; told = one (record now { order = None }) order.epoch below e }

    quiet : (more : Bool) → Told (going (stay now) more)
    quiet true = silent (going (stay now) true) sound refl
    quiet false = silent (going (stay now) false) sound refl

    by_if : (order : Report) → order.epoch < now.current → (left : Bool) → is_unfinished now.counted order.epoch ≡ left
        → Told (going (report_if now order left) more)
    by_if order below true e = quiet more
    by_if order below false e = told order below e more

    by : (order : Option Report) → IsBelow order now.current → Told (going (report_by now order) more)
    by None below = quiet more
    by (Some order) below = by_if order below (is_unfinished now.counted order.epoch) refl

verify_told : (s : DihState) (tx : TxId) → IsSound s → Told (verify_row s tx)
unfolding verify_row given
verify_told s tx sound = by (nat_lt (length s.counted + length s.held) TRANSACTIONS)
  where
    by_if : (free : Bool) → Told (verify_if s tx free)
    by_if true = silent (verify_if s tx true) sound refl
    by_if false = silent (verify_if s tx false) sound refl

    by : (room : Bool) → Told (take_if s tx room)
    by true = by_if (gives s)
    by false = silent (take_if s tx false) sound refl

serve_told : (s : DihState) (number : ℕ) → IsSound s → Told (serve_row s number)
unfolding serve_row given
serve_told s number sound = by (number == s.number) (gives s)
  where
    by_more : (s : DihState) (tx : TxId) → IsSound s → (more : Bool) → reports_at (going (given s tx) more) ≡ []
    by_more s tx sound true = refl
    by_more s tx sound false = refl

    by_first : (first : Option TxId) → Told (serve_by s first)
    by_first None = silent (serve_by s None) sound refl
    by_first (Some tx) =
        silent (serve_by s (Some tx)) sound
        (by_more (record s { held = remove s.held 0 }) tx sound (nat_lt 0 (length (remove s.held 0))))

    by : (own free : Bool) → Told (serve_if s own free)
    by true true = by_first (slice_get s.held 0)
    by true false = silent (serve_if s true false) sound refl
    by false true = silent (serve_if s false true) sound refl
    by false false = silent (serve_if s false false) sound refl

ended_sound : (s : DihState) (tx : TxId) → IsSound s → IsSound (ended s tx)
unfolding ended
ended_sound s tx sound = by (position (is_of tx) s.counted)
  where
    by_held : (at : Option ℕ) → IsSound (held_by s at)
    by_held None = sound
    by_held (Some at) = sound

    by : (at : Option ℕ) → IsSound (ended_by s tx at)
    by None = by_held (position (same_tx tx) s.held)
    by (Some at) = sound

end_told : (s : DihState) (tx : TxId) → IsSound s → Told (end_row s tx)
unfolding end_row
end_told s tx sound = report_told (ended s tx) (ended_sound s tx sound)

prepare_told : (s : DihState) (from epoch next : ℕ) → IsSound s → Told (prepare_row s from epoch next)
unfolding prepare_row
prepare_told s from epoch next sound = by (nat_le s.current epoch)
  where
    by : (ahead : Bool)
        → Told (sending (prepared_if s epoch next ahead) (checkpoints from) (Epoch (GcpPrepareConf epoch)))
    by true = silent _ sound refl
    by false = silent _ sound refl

commit_told : (s : DihState) (from epoch next : ℕ) → epoch < next → Told (commit_row s from epoch next)
unfolding commit_row
commit_told s from epoch next below = by (nat_le s.current epoch) refl
  where
    by : (ahead : Bool) → nat_le s.current epoch ≡ ahead → Told (commit_if s from epoch next ahead)
    by true e =
        let now = record (committed s epoch next) { order = Some (record { epoch = epoch; to = from }) } in
        going_told now below (can_serve (reported now).state)
    by false e =
        let passed = leb-false s.current epoch e in
        report_told (record s { order = Some (record { epoch = epoch; to = from }) }) passed

epoch_told : (s : DihState) (from : ℕ) (signal : EpochSignal) → IsSound s → NamesGreater (Epoch signal)
    → Told (epoch_table s from signal)
unfolding close_row copy_row done_row state_row
epoch_told s from (DiVerifyReq tx ops) sound _ = verify_told s tx sound
epoch_told s from (DiVerifyEnd tx) sound _ = end_told s tx sound
epoch_told s from (GcpPrepare epoch next) sound _ = prepare_told s from epoch next sound
epoch_told s from (GcpCommit epoch next) sound below = commit_told s from epoch next below
epoch_told s from (GcpClosed epoch) sound _ = silent _ sound refl
epoch_told s from (CopyGciReq epoch mask) sound _ = silent _ sound refl
epoch_told s from (GcpDone epoch) sound _ = silent _ sound refl
epoch_told s from GcpStateReq sound _ = silent _ sound refl
epoch_told s from _ sound _ = silent _ sound refl

body_told : (s : DihState) (from number : ℕ) (body : Body) → IsSound s → NamesGreater body
    → Told (dih_table s from number body)
unfolding fence_row
body_told s from number (Host (Continue Held at)) sound _ = serve_told s number sound
body_told s from number (Membership (FenceReq proposal)) sound _ = silent _ sound refl
body_told s from number (Epoch signal) sound below = epoch_told s from signal sound below
body_told s from number _ sound _ = silent _ sound refl

install_told : (s : DihState) (number : ℕ) → IsSound s → Told (install_row s number)
unfolding install_row
install_told s number sound = by (can_serve (record s { number = number; fence = greater s.fence number }))
  where
    by : (more : Bool) → Told (going (stay (record s { number = number; fence = greater s.fence number })) more)
    by true = silent _ sound refl
    by false = silent _ sound refl

hold : (s : DihState) (events : List Event) → IsSound s → AllNameGreater events → ReportsHold s events
hold s [] sound all = tt
hold s (Takes x ∷ events) sound all =
    let step = body_told s x.member.node x.view.number x.body sound all.0 in
    (step.told, hold (step_at s (Takes x)).state events step.sound all.1)
hold s (Installs number ∷ events) sound all =
    let step = install_told s number sound in
    (step.told, hold (step_at s (Installs number)).state events step.sound all)

pub reports_are_true : ReportsAreTrue
reports_are_true node number current start events all = hold (fresh_dih node number current start) events tt all
