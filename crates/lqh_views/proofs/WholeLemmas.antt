-- A report that ends has left nothing out.
use Rattle.std.proofs.Common.{◌≡◌, ◌⊎◌, inl, inr, ◌∙◌, ◌++◌, ℕ, Bool, true, false, List, [], ◌∷◌, refl, ap, sym, subst}
use Rattle.std.specs.Prelude.{Option, None, Some}
use Rattle.run_theory.specs.Lists.{Each, IsIn}
use Rattle.run_theory.proofs.Pasts.{each_append}
use Rattle.sig_core.specs.declared.member.TxId.{TxId}
use Rattle.sig_core.specs.declared.outs.Outgoing.{Outgoing}
use Rattle.sig_core.specs.declared.signal.Body.TheVariants.{Takeover}
use Rattle.sig_core.specs.declared.signal.Signal.{Signal}
use Rattle.sig_core.specs.declared.signal.takeover.RecordState.TheVariants as state
use Rattle.sig_core.specs.declared.signal.takeover.TakeoverSignal.TheVariants.{LqhTransReq}
use Rattle.sig_core.specs.Rows.{is_of}
use Rattle.sig_core.specs.Step.{Step}
use Rattle.lqh_block.specs.Commit.{is_marker}
use Rattle.lqh_views.specs.declared.report.Report.{Report}
use Rattle.lqh_views.specs.Replica.{replica_by, replica_row}
use Rattle.lqh_views.specs.Report.{is_orphaned, reporting, told}
use Rattle.lqh_views.specs.State.{ReplicaState}
use Rattle.lqh_views.specs.WholeReports.{Event, IsMarkerTold, IsRecordTold, ReportsLeaveNothingOut, Stands, asks_at}
use Rattle.lqh_views.specs.WholeReports.{before_end, before_if, ends, has_marker, has_record, sent_since, since}
use Rattle.lqh_views.specs.WholeReports.{step_at, the_end, whole}
use Rattle.lqh_views.specs.WholeReports.Event.{Takes, Installs}
use Rattle.lqh_views.proofs.Below.{none_past}
use Rattle.lqh_views.proofs.ReportSteps.{GoesOn, IsLeft, IsNoEnd, MarkerLeft, NoEnd, RecordLeft, Rests, not_in}
use Rattle.lqh_views.proofs.ReportSteps.{step_kind, tells_marker, tells_record}

none_some : {X : Type 0} (o : Option X) (x : X) → o ≡ None → o ≡ Some x → ⊥
none_some None x none some = cc
none_some (Some y) x none some = cc

-- what stands in front of the end still does with more signals behind, and with some that are no end in front
in_front : (o : Outgoing) (sends more : List Outgoing) → IsIn o (before_end sends) → IsIn o (before_end (sends ++ more))
in_front o [] more there = absurd there
in_front o (send ∷ sends) more there = by (ends send.body) (in_front o sends more) there
  where
    by : (b : Bool) → (IsIn o (before_end sends) → IsIn o (before_end (sends ++ more)))
        → IsIn o (before_if send (before_end sends) b) → IsIn o (before_if send (before_end (sends ++ more)) b)
    by true rest is = absurd is
    by false rest (inl is) = inl is
    by false rest (inr is) = inr (rest is)

in_behind : (o : Outgoing) (sends more : List Outgoing) → NoEnd sends → IsIn o (before_end more)
    → IsIn o (before_end (sends ++ more))
in_behind o [] more none there = there
in_behind o (send ∷ sends) more none there =
    subst (λ b. IsIn o (before_if send (before_end (sends ++ more)) b)) (sym none.0)
    (inr (in_behind o sends more none.1 there))

-- An entry of a transaction: whether a state has it, whether a report hasn't gone past it, and whether a takeover was
-- told of it
record IsEntry (tx : TxId) (key : List ℕ) (Has : ReplicaState → Bool) (Left : ReplicaState → Report → Type 0)
    (IsTold : ℕ → List Outgoing → Type 0) : Type 0 where
  told_in_front : (to : ℕ) (sends more : List Outgoing) → IsTold to sends → IsTold to (sends ++ more)
  told_behind : (to : ℕ) (sends more : List Outgoing) → NoEnd sends → IsTold to more → IsTold to (sends ++ more)
  begins : (s : ReplicaState) (to : ℕ) → Left s (whole s to)
  rests : (s : ReplicaState) (step : Step ReplicaState) (r : Report) → Rests tx key s step → Has s ≡ true → Left s r
      → Left step.state r
  tells : (s : ReplicaState) (r : Report) → is_orphaned s.lqh.layout.view.full tx ≡ true → Has s ≡ true → Left s r
      → IsTold r.to (reporting s r).effects.sends ⊎ IsLeft tx key Left s r.to (reporting s r)

module _ (tx : TxId) (key : List ℕ) (Has : ReplicaState → Bool) (Left : ReplicaState → Report → Type 0)
    (IsTold : ℕ → List Outgoing → Type 0) (entry : IsEntry tx key Has Left IsTold) (to : ℕ) where
  -- the report is under way, and hasn't gone past the entry
  record IsUnderWay (s : ReplicaState) : Type 0 where
    report : Report
    is : s.report ≡ Some report
    same : report.to ≡ to
    left : Left s report
    orphaned : is_orphaned s.lqh.layout.view.full tx ≡ true

  abbrev IsOpen : ReplicaState → Type 0
  IsOpen s = (s.report ≡ None) ⊎ IsUnderWay s

  -- a step tells the takeover of the entry, or tells no end and leaves it open
  abbrev TellsOrLeaves : Step ReplicaState → Type 0
  TellsOrLeaves step = IsTold to step.effects.sends ⊎ (NoEnd step.effects.sends × IsOpen step.state)

  of_left : (s : ReplicaState) (r : Report) (step : Step ReplicaState) → r.to ≡ to
      → is_orphaned s.lqh.layout.view.full tx ≡ true
      → IsTold r.to step.effects.sends ⊎ IsLeft tx key Left s r.to step → TellsOrLeaves step
  of_left s r step same orphaned (inl is) = inl (subst (λ n. IsTold n step.effects.sends) same is)
  of_left s r step same orphaned (inr left) = inr (
    left.unended,
    inr (record {
      report = left.report;
      is = left.is;
      same = left.same ∙ same;
      left = left.left;
      orphaned = ap (λ lqh. is_orphaned lqh.layout.view.full tx) left.lqh ∙ orphaned;
    }),
  )

  reports : (s : ReplicaState) (r : Report) (step : Step ReplicaState) → step ≡ reporting s r → r.to ≡ to
      → is_orphaned s.lqh.layout.view.full tx ≡ true → Has s ≡ true → Left s r → TellsOrLeaves step
  reports s r step is same orphaned has left =
      of_left s r step same orphaned
      (subst (λ one. IsTold r.to one.effects.sends ⊎ IsLeft tx key Left s r.to one) (sym is)
      (entry.tells s r orphaned has left))

  rests_open : (s : ReplicaState) (step : Step ReplicaState) → Rests tx key s step → Has s ≡ true → IsOpen s
      → IsOpen step.state
  rests_open s step rests has (inl none) = inl (rests.1 ∙ none)
  rests_open s step rests has (inr way) = inr (record {
    report = way.report;
    is = rests.1 ∙ way.is;
    same = way.same;
    left = entry.rests s step way.report rests has way.left;
    orphaned = ap (λ layout. is_orphaned layout.view.full tx) rests.0.2 ∙ way.orphaned;
  })

  goes_on : (s : ReplicaState) (step : Step ReplicaState) → GoesOn tx key s step → Has s ≡ true → IsOpen s
      → TellsOrLeaves step
  goes_on s step goes has (inl none) = absurd (none_some s.report goes.report none goes.is)
  goes_on s step goes has (inr way) =
      let both_are : Some goes.report ≡ Some way.report = sym goes.is ∙ way.is in
      let one : goes.report ≡ way.report = cc in
      reports s way.report step (goes.same ∙ ap (reporting s) one) way.same way.orphaned has way.left

  step_tells : (s : ReplicaState) (x : Signal) → Rests tx key s (replica_row s x) ⊎ GoesOn tx key s (replica_row s x)
      → Has s ≡ true → IsOpen s → TellsOrLeaves (replica_row s x)
  step_tells s x (inl rests) has open_yet = inr (rests.2, rests_open s (replica_row s x) rests has open_yet)
  step_tells s x (inr goes) has open_yet = goes_on s (replica_row s x) goes has open_yet

  event_tells : (s : ReplicaState) (e : Event) → asks_at e ≡ false → Has s ≡ true → IsOpen s
      → TellsOrLeaves (step_at s e)
  event_tells s (Takes x) other has open_yet = step_tells s x (step_kind tx key s x x.body other) has open_yet
  event_tells s (Installs view) other has open_yet = inr (tt, inl refl)

  module _ (s : ReplicaState) (ask : Signal) (asked : ask.body ≡ Takeover LqhTransReq) (same : ask.member.node ≡ to)
      (orphaned : is_orphaned s.lqh.layout.view.full tx ≡ true) where
    abbrev IsToldOrOpen : List Event → Type 0
    IsToldOrOpen events =
        IsTold to (sent_since s ask events) ⊎ (NoEnd (sent_since s ask events) × IsOpen (since s ask events))

    abbrev sent_at : List Event → Event → List Outgoing
    sent_at earlier e = (step_at (since s ask earlier) e).effects.sends

    behind : (earlier : List Event) (e : Event) → NoEnd (sent_since s ask earlier)
        → TellsOrLeaves (step_at (since s ask earlier) e) → IsToldOrOpen (e ∷ earlier)
    behind earlier e none (inl is) = inl (entry.told_behind to (sent_since s ask earlier) (sent_at earlier e) none is)
    behind earlier e none (inr leaves) = inr (
      each_append (λ send. IsNoEnd send.body) (sent_since s ask earlier) (sent_at earlier e) none leaves.0,
      leaves.1,
    )

    along : (events : List Event) → Each (λ e. asks_at e ≡ false) events → Stands Has s ask events → IsToldOrOpen events
    along [] once stands =
        reports s (whole s ask.member.node) (replica_row s ask) (ap (replica_by s ask) asked) same orphaned stands
        (entry.begins s ask.member.node)
    along (e ∷ earlier) once stands = by (along earlier once.1 stands.1)
      where
        by : IsToldOrOpen earlier → IsToldOrOpen (e ∷ earlier)
        by (inl is) = inl (entry.told_in_front to (sent_since s ask earlier) (sent_at earlier e) is)
        by (inr leaves) = behind earlier e leaves.0 (event_tells (since s ask earlier) e once.0 stands.0 leaves.1)

    whole_told : (events : List Event) → Each (λ e. asks_at e ≡ false) events
        → IsIn (the_end to) (sent_since s ask events) → Stands Has s ask events → IsTold to (sent_since s ask events)
    whole_told events once over stands = by (along events once stands)
      where
        by : IsToldOrOpen events → IsTold to (sent_since s ask events)
        by (inl is) = is
        by (inr leaves) = absurd (not_in to (sent_since s ask events) leaves.0 over)

-- a record, and a marker, as a takeover is told of it before the end
abbrev RecordIsTold : TxId → List ℕ → ℕ → List Outgoing → Type 0
RecordIsTold tx key to sends = IsRecordTold to tx key (before_end sends)

abbrev MarkerIsTold : TxId → List ℕ → ℕ → List Outgoing → Type 0
MarkerIsTold tx key to sends = IsMarkerTold to tx key (before_end sends)

record_entry : (tx : TxId) (key : List ℕ)
    → IsEntry tx key (has_record tx key) (RecordLeft tx key) (RecordIsTold tx key)
record_entry tx key = record {
  told_in_front = in_front_of;
  told_behind = behind_of;
  begins = λ s to. none_past (is_of tx key) s.lqh.rows.pending;
  rests = λ s step r rests has left. rests.0.0 has r.records left;
  tells = λ s r orphaned has left. tells_record tx key s r orphaned has left;
}
  where
    in_front_of : (to : ℕ) (sends more : List Outgoing) → RecordIsTold tx key to sends
        → RecordIsTold tx key to (sends ++ more)
    in_front_of to sends more (inl is) = inl (in_front (told to tx key state.Prepared 0) sends more is)
    in_front_of to sends more (inr is) =
        inr (is.0, in_front (told to tx key state.Committed is.0) sends more is.1)

    behind_of : (to : ℕ) (sends more : List Outgoing) → NoEnd sends → RecordIsTold tx key to more
        → RecordIsTold tx key to (sends ++ more)
    behind_of to sends more none (inl is) = inl (in_behind (told to tx key state.Prepared 0) sends more none is)
    behind_of to sends more none (inr is) =
        inr (is.0, in_behind (told to tx key state.Committed is.0) sends more none is.1)

marker_entry : (tx : TxId) (key : List ℕ)
    → IsEntry tx key (has_marker tx key) (MarkerLeft tx key) (MarkerIsTold tx key)
marker_entry tx key = record {
  told_in_front = λ to sends more is. (is.0, in_front (told to tx key state.Marker is.0) sends more is.1);
  told_behind = λ to sends more none is. (is.0, in_behind (told to tx key state.Marker is.0) sends more none is.1);
  begins = λ s to. none_past (is_marker tx key) s.lqh.markers;
  rests = λ s step r rests has left. rests.0.1 has r.markers left;
  tells = λ s r orphaned has left. tells_marker tx key s r orphaned has left;
}

pub reports_leave_nothing_out : ReportsLeaveNothingOut
reports_leave_nothing_out s ask events reported tx key orphaned = record {
  records = λ stands.
      whole_told tx key (has_record tx key) (RecordLeft tx key) (RecordIsTold tx key) (record_entry tx key)
      ask.member.node s ask reported.asked refl orphaned events reported.once reported.over stands;
  markers = λ stands.
      whole_told tx key (has_marker tx key) (MarkerLeft tx key) (MarkerIsTold tx key) (marker_entry tx key)
      ask.member.node s ask reported.asked refl orphaned events reported.once reported.over stands;
}
