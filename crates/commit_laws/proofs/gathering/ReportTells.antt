-- A report tells of an entry that rows have before it ends, step by step, and whatever comes between.
use Rattle.std.proofs.Common.{◌≡◌, ◌⊎◌, ◌∙◌, ℕ, Bool, true, false, List, [], ◌∷◌, inl, inr, refl, sym, ap, subst}
use Rattle.std.proofs.lemmas.Bool.{true≢false}
use Rattle.std.specs.Prelude.{Option, None, Some}
use Rattle.run_theory.specs.Lists.{IsIn}
use Rattle.sig_core.specs.declared.member.TxId.{TxId}
use Rattle.sig_core.specs.declared.outs.Outgoing.{Outgoing}
use Rattle.sig_core.specs.declared.rows.PendingRecord.{PendingRecord}
use Rattle.sig_core.specs.declared.signal.Body.{Body}
use Rattle.sig_core.specs.declared.signal.Body.TheVariants.{Takeover}
use Rattle.sig_core.specs.declared.signal.Signal.{Signal}
use Rattle.sig_core.specs.declared.signal.takeover.RecordState.{RecordState}
use Rattle.sig_core.specs.declared.signal.takeover.RecordState.TheVariants as state
use Rattle.sig_core.specs.declared.signal.takeover.TakeoverSignal.TheVariants.{LqhTransConf, LqhTransEnd, LqhTransReq}
use Rattle.sig_core.specs.declared.view.View.{View}
use Rattle.sig_core.specs.Rows.{is_of}
use Rattle.sig_core.specs.Step.{Step}
use Rattle.takeover_block.specs.Gathered.{told_epoch}
use Rattle.lqh_block.specs.Commit.{is_marker}
use Rattle.lqh_block.specs.declared.request.Marker.{Marker}
use Rattle.lqh_views.specs.declared.report.Report.{Report}
use Rattle.lqh_views.specs.Replica.{installed, replica_by, replica_row}
use Rattle.lqh_views.specs.Report.{is_orphaned, is_orphaned_marker, is_orphaned_record, last_before, marker_by}
use Rattle.lqh_views.specs.Report.{record_by, reporting, told, told_record_if}
use Rattle.lqh_views.specs.State.{ReplicaState}
use Rattle.lqh_views.specs.WholeReports.{IsMarkerTold, IsRecordTold, asks, before_end, before_if, ends, has_marker}
use Rattle.lqh_views.specs.WholeReports.{has_record, the_end, whole}
use Rattle.lqh_views.proofs.Below.{none_past}
use Rattle.lqh_views.proofs.ReportSteps.{GoesOn, IsLeft, IsNoEnd, MarkerLeft, NoEnd, RecordLeft, Rests, step_kind}
use Rattle.lqh_views.proofs.ReportSteps.{tells_marker, tells_record}
use Rattle.commit_laws.proofs.hosts.SaverGoes.{AreAlike}

-- a step of a report goes on with one for the same takeover, or ends it
pub record GoesBeyond (r : Report) (step : Step ReplicaState) : Type 0 where
  pub report : Report
  pub is : step.state.report ≡ Some report
  pub same : report.to ≡ r.to
  pub unended : NoEnd step.effects.sends

pub record IsOver (r : Report) (step : Step ReplicaState) : Type 0 where
  pub is : step.state.report ≡ None
  pub sends : step.effects.sends ≡ the_end r.to ∷ []

no_end : (to : ℕ) (r : PendingRecord) (b : Bool) → IsNoEnd (told_record_if to r b).body
no_end to r true = refl
no_end to r false = refl

pub report_by : (s : ReplicaState) (r : Report) → GoesBeyond r (reporting s r) ⊎ IsOver r (reporting s r)
unfolding reporting
report_by s r = by (last_before (is_orphaned_record s.lqh.layout.view.full) s.lqh.rows.pending r.records)
  where
    by_marker : (o : Option (ℕ × Marker)) → GoesBeyond r (marker_by s r o) ⊎ IsOver r (marker_by s r o)
    by_marker None = inr (record { is = refl; sends = refl })
    by_marker (Some found) =
        inl (record {
          report = record { to = r.to; records = 0; markers = found.0 };
          is = refl;
          same = refl;
          unended = (refl, (refl, tt));
        })

    by : (o : Option (ℕ × PendingRecord)) → GoesBeyond r (record_by s r o) ⊎ IsOver r (record_by s r o)
    by None = by_marker (last_before (is_orphaned_marker s.lqh.layout.view.full) s.lqh.markers r.markers)
    by (Some found) =
        inl (record {
          report = record { to = r.to; records = found.0; markers = r.markers };
          is = refl;
          same = refl;
          unended = (no_end r.to found.1 found.1.committed, (refl, tt));
        })

-- the report that is under way hasn't gone past the entry, or its takeover was told of it
module _ (Left : ReplicaState → Report → Type 0) (IsTold : ℕ → Type 0) (s : ReplicaState) where
  pub record IsUnderWay : Type 0 where
    pub report : Report
    pub is : s.report ≡ Some report
    pub left : Left s report ⊎ IsTold report.to

  abbrev pub IsOpen : Type 0
  IsOpen = (s.report ≡ None) ⊎ IsUnderWay

-- so it is of rows that are the same but for their journal
pub open_alike : (Left : ReplicaState → Report → Type 0) (IsTold : ℕ → Type 0) (s t : ReplicaState) → AreAlike t s
    → ((r : Report) → Left s r → Left t r) → IsOpen Left IsTold s → IsOpen Left IsTold t
open_alike Left IsTold s t alike same (inl none) = inl (ap (λ (r : ReplicaState). r.report) alike ∙ none)
open_alike Left IsTold s t alike same (inr way) =
    inr (record {
      report = way.report;
      is = ap (λ (r : ReplicaState). r.report) alike ∙ way.is;
      left = by way.left;
    })
  where
    by : Left s way.report ⊎ IsTold way.report.to → Left t way.report ⊎ IsTold way.report.to
    by (inl left) = inl (same way.report left)
    by (inr told) = inr told

-- so it stays where more takeovers were told
pub open_more : (Left : ReplicaState → Report → Type 0) (One Other : ℕ → Type 0) (s : ReplicaState)
    → ((to : ℕ) → One to → Other to) → IsOpen Left One s → IsOpen Left Other s
open_more Left One Other s more (inl none) = inl none
open_more Left One Other s more (inr way) = inr (record { report = way.report; is = way.is; left = by way.left })
  where
    by : Left s way.report ⊎ One way.report.to → Left s way.report ⊎ Other way.report.to
    by (inl left) = inl left
    by (inr told) = inr (more way.report.to told)

module _ (tx : TxId) (key : List ℕ) (Marked : Type 0) where
  -- it tells a takeover of the transaction on the key; and, where this is so, that it is committed
  pub record IsTelling (to : ℕ) (o : Outgoing) : Type 0 where
    pub state : RecordState
    pub epoch : ℕ
    pub is : o ≡ told to tx key state epoch
    pub committed : Marked → told_epoch state epoch ≡ None → ⊥

  pub record Tells (to : ℕ) (sends : List Outgoing) : Type 0 where
    pub one : Outgoing
    pub there : IsIn one sends
    pub telling : IsTelling to one

  -- an entry of the transaction on the key: whether rows have it, and whether a report hasn't gone past it
  pub record IsEntry (Has : ReplicaState → Bool) (Left : ReplicaState → Report → Type 0) : Type 0 where
    pub begins : (s : ReplicaState) (to : ℕ) → Left s (whole s to)
    pub rests : (s : ReplicaState) (step : Step ReplicaState) (r : Report) → Rests tx key s step → Has s ≡ true
        → Left s r → Left step.state r
    pub tells : (s : ReplicaState) (r : Report) → is_orphaned s.lqh.layout.view.full tx ≡ true → Has s ≡ true
        → Left s r → Tells r.to (reporting s r).effects.sends ⊎ IsLeft tx key Left s r.to (reporting s r)
    pub installs : (s : ReplicaState) (view : View) → Has s ≡ true → Has (installed s view) ≡ true
    pub alike : (s t : ReplicaState) → AreAlike t s → (r : Report) → Left s r → Left t r

  module _ (Has : ReplicaState → Bool) (Left : ReplicaState → Report → Type 0) (entry : IsEntry Has Left)
      (IsTold : ℕ → Type 0) (s : ReplicaState)
    where
      -- a step tells no end, or that of a report whose takeover was told of the entry before
      pub data Reports (step : Step ReplicaState) : Type 0 where
        reports_on : NoEnd step.effects.sends
            → IsOpen Left (λ to. IsTold to ⊎ Tells to step.effects.sends) step.state → Reports step
        reports_end : (to : ℕ) → IsTold to → step.effects.sends ≡ the_end to ∷ [] → step.state.report ≡ None
            → Reports step

      goes_beyond : (r : Report) (step : Step ReplicaState) → GoesBeyond r step
          → IsTold r.to ⊎ Tells r.to step.effects.sends → Reports step
      goes_beyond r step beyond told_of =
          reports_on beyond.unended (inr (record {
            report = beyond.report;
            is = beyond.is;
            left = inr (subst (λ to. IsTold to ⊎ Tells to step.effects.sends) (sym beyond.same) told_of);
          }))

      not_over : (r : Report) (step : Step ReplicaState) → IsOver r step → Tells r.to step.effects.sends → ⊥
      not_over r step over tells = by (subst (IsIn tells.one) over.sends tells.there)
        where
          by : IsIn tells.one (the_end r.to ∷ []) → ⊥
          by (inl same) =
              let differ :
              Takeover (LqhTransConf tx key tells.telling.state tells.telling.epoch) ≡ Takeover LqhTransEnd =
              ap (λ (o : Outgoing). o.body) (sym tells.telling.is ∙ same) in
              absurd cc
          by (inr none) = none

      module _ (orphaned : is_orphaned s.lqh.layout.view.full tx ≡ true) (has : Has s ≡ true) where
        reports_left : (r : Report) → GoesBeyond r (reporting s r) ⊎ IsOver r (reporting s r)
            → Tells r.to (reporting s r).effects.sends ⊎ IsLeft tx key Left s r.to (reporting s r)
            → Reports (reporting s r)
        reports_left r (inl beyond) (inl tells) = goes_beyond r (reporting s r) beyond (inr tells)
        reports_left r (inr over) (inl tells) = absurd (not_over r (reporting s r) over tells)
        reports_left r how (inr left) =
            reports_on left.unended (inr (record { report = left.report; is = left.is; left = inl left.left }))

        reports_told : (r : Report) → GoesBeyond r (reporting s r) ⊎ IsOver r (reporting s r) → IsTold r.to
            → Reports (reporting s r)
        reports_told r (inl beyond) told_of = goes_beyond r (reporting s r) beyond (inl told_of)
        reports_told r (inr over) told_of = reports_end r.to told_of over.sends over.is

        reports_one : (r : Report) → Left s r ⊎ IsTold r.to → Reports (reporting s r)
        reports_one r (inl left) = reports_left r (report_by s r) (entry.tells s r orphaned has left)
        reports_one r (inr told_of) = reports_told r (report_by s r) told_of

        rests_on : (step : Step ReplicaState) → Rests tx key s step → IsOpen Left IsTold s → Reports step
        rests_on step rests (inl none) = reports_on rests.2 (inl (rests.1 ∙ none))
        rests_on step rests (inr way) =
            reports_on rests.2 (inr (record {
              report = way.report;
              is = rests.1 ∙ way.is;
              left = by way.left;
            }))
          where
            by : Left s way.report ⊎ IsTold way.report.to
                → Left step.state way.report ⊎ (IsTold way.report.to ⊎ Tells way.report.to step.effects.sends)
            by (inl left) = inl (entry.rests s step way.report rests has left)
            by (inr told_of) = inr (inl told_of)

        goes_on : (step : Step ReplicaState) → GoesOn tx key s step → IsOpen Left IsTold s → Reports step
        goes_on step goes (inl none) =
            let differ : Some goes.report ≡ None = sym goes.is ∙ none in absurd cc
        goes_on step goes (inr way) =
            let both_are : Some goes.report ≡ Some way.report = sym goes.is ∙ way.is in
            let one : goes.report ≡ way.report = cc in
            subst Reports (sym (goes.same ∙ ap (reporting s) one)) (reports_one way.report way.left)

        -- whatever signal rows take
        pub row_reports : (x : Signal) → IsOpen Left IsTold s → Reports (replica_row s x)
        row_reports x open_yet = by (asks x.body) refl
          where
            asked : (body : Body) → asks body ≡ true → body ≡ Takeover LqhTransReq
            asked (Takeover LqhTransReq) is = refl
            asked body is = absurd (true≢false (sym is))

            kind : Rests tx key s (replica_row s x) ⊎ GoesOn tx key s (replica_row s x) → Reports (replica_row s x)
            kind (inl rests) = rests_on (replica_row s x) rests open_yet
            kind (inr goes) = goes_on (replica_row s x) goes open_yet

            by : (b : Bool) → asks x.body ≡ b → Reports (replica_row s x)
            by true is =
                subst Reports (sym (ap (replica_by s x) (asked x.body is)))
                (reports_one (whole s x.member.node) (inl (entry.begins s x.member.node)))
            by false is = kind (step_kind tx key s x x.body is)

-- what stands in front of the end is sent
in_sends : (o : Outgoing) (sends : List Outgoing) → IsIn o (before_end sends) → IsIn o sends
in_sends o [] there = absurd there
in_sends o (send ∷ sends) there = by (ends send.body) there (in_sends o sends)
  where
    by : (b : Bool) → IsIn o (before_if send (before_end sends) b) → (IsIn o (before_end sends) → IsIn o sends)
        → IsIn o (send ∷ sends)
    by true is rest = absurd is
    by false (inl is) rest = inl is
    by false (inr is) rest = inr (rest is)

-- a record, and a marker
pub record_entry : (tx : TxId) (key : List ℕ) → IsEntry tx key ⊥ (has_record tx key) (RecordLeft tx key)
record_entry tx key = record {
  begins = λ s to. none_past (is_of tx key) s.lqh.rows.pending;
  rests = λ s step r rests has left. rests.0.0 has r.records left;
  tells = λ s r orphaned has left. by s r (tells_record tx key s r orphaned has left);
  installs = λ s view has. has;
  alike = λ s t same r left. subst (λ (q : ReplicaState). RecordLeft tx key q r) (sym same) left;
}
  where
    told_of : (to : ℕ) (sends : List Outgoing) → IsRecordTold to tx key (before_end sends) → Tells tx key ⊥ to sends
    told_of to sends (inl is) = record {
      one = told to tx key state.Prepared 0;
      there = in_sends (told to tx key state.Prepared 0) sends is;
      telling = record { state = state.Prepared; epoch = 0; is = refl; committed = λ none same. none };
    }
    told_of to sends (inr is) = record {
      one = told to tx key state.Committed is.0;
      there = in_sends (told to tx key state.Committed is.0) sends is.1;
      telling = record { state = state.Committed; epoch = is.0; is = refl; committed = λ none same. none };
    }

    by : (s : ReplicaState) (r : Report)
        → IsRecordTold r.to tx key (before_end (reporting s r).effects.sends)
        ⊎ IsLeft tx key (RecordLeft tx key) s r.to (reporting s r)
        → Tells tx key ⊥ r.to (reporting s r).effects.sends ⊎ IsLeft tx key (RecordLeft tx key) s r.to (reporting s r)
    by s r (inl is) = inl (told_of r.to (reporting s r).effects.sends is)
    by s r (inr left) = inr left

pub marker_entry : (tx : TxId) (key : List ℕ) → IsEntry tx key (Unit {0}) (has_marker tx key) (MarkerLeft tx key)
marker_entry tx key = record {
  begins = λ s to. none_past (is_marker tx key) s.lqh.markers;
  rests = λ s step r rests has left. rests.0.1 has r.markers left;
  tells = λ s r orphaned has left. by s r (tells_marker tx key s r orphaned has left);
  installs = λ s view has. has;
  alike = λ s t same r left. subst (λ (q : ReplicaState). MarkerLeft tx key q r) (sym same) left;
}
  where
    told_of : (to : ℕ) (sends : List Outgoing) → IsMarkerTold to tx key (before_end sends)
        → Tells tx key (Unit {0}) to sends
    told_of to sends is = record {
      one = told to tx key state.Marker is.0;
      there = in_sends (told to tx key state.Marker is.0) sends is.1;
      telling = record {
        state = state.Marker;
        epoch = is.0;
        is = refl;
        committed = λ marked same. let differ : Some is.0 ≡ None = same in absurd cc;
      };
    }

    by : (s : ReplicaState) (r : Report)
        → IsMarkerTold r.to tx key (before_end (reporting s r).effects.sends)
        ⊎ IsLeft tx key (MarkerLeft tx key) s r.to (reporting s r)
        → Tells tx key (Unit {0}) r.to (reporting s r).effects.sends
        ⊎ IsLeft tx key (MarkerLeft tx key) s r.to (reporting s r)
    by s r (inl is) = inl (told_of r.to (reporting s r).effects.sends is)
    by s r (inr left) = inr left
