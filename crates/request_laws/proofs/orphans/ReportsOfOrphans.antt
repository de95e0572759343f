-- Rows tell a takeover only of transactions whose coordinator isn't a full member of their view.
use Rattle.std.proofs.Common.{◌≡◌, ◌==◌, ◌&&◌, ◌∙◌, ℕ, Bool, true, false, List, [], ◌∷◌, ap, map, refl, sym, subst}
use Rattle.std.proofs.lemmas.Bool.{eq-eqb}
use Rattle.std.specs.Prelude.{IfSome, not, Option, None, Some}
use Rattle.run_theory.specs.Lists.{Each, IsIn}
use Rattle.sig_core.specs.declared.member.Member.{Member}
use Rattle.sig_core.specs.declared.member.TxId.{TxId}
use Rattle.sig_core.specs.declared.outs.Outgoing.{Outgoing}
use Rattle.sig_core.specs.declared.rows.PendingRecord.{PendingRecord}
use Rattle.sig_core.specs.declared.signal.Body.{Body}
use Rattle.sig_core.specs.declared.signal.Body.TheVariants.{Epoch, Host, Membership, Takeover}
use Rattle.sig_core.specs.declared.signal.Signal.{Signal}
use Rattle.sig_core.specs.declared.signal.epoch.EpochSignal.{EpochSignal}
use Rattle.sig_core.specs.declared.signal.epoch.EpochSignal.TheVariants.{GcpClosed, GcpSaveReq, GcpStateReq}
use Rattle.sig_core.specs.declared.signal.host.HostSignal.TheVariants.{Continue}
use Rattle.sig_core.specs.declared.signal.host.Work.TheVariants.{Granted, Expired, Report}
use Rattle.sig_core.specs.declared.signal.membership.MembershipSignal.TheVariants.{FenceReq}
use Rattle.sig_core.specs.declared.signal.takeover.TakeoverSignal.TheVariants.{LqhTransReq}
use Rattle.sig_core.specs.declared.view.View.{View}
use Rattle.sig_core.specs.Step.{Step}
use Rattle.lqh_block.specs.declared.request.Marker.{Marker}
use Rattle.lqh_block.specs.declared.request.Request.{Request}
use Rattle.lqh_block.specs.Lqh.{lqh_row, lqh_table}
use Rattle.lqh_block.specs.State.{LqhState}
use Rattle.lqh_block.specs.Views.{is_coordinated, was_begun_by}
use Rattle.lqh_block.proofs.EachLqh.{RequestSends, lqh_sends_each}
use Rattle.lqh_views.specs.Address.{addressed}
use Rattle.lqh_views.specs.declared.report.Report as reports
use Rattle.lqh_views.specs.Epochs.{epoch_table}
use Rattle.lqh_views.specs.Replica.{is_stale, passed, replica_by, replica_row, serve_if}
use Rattle.lqh_views.specs.Report.{go_on_by, is_orphaned_marker, is_orphaned_record, last_before, marker_by, record_by}
use Rattle.lqh_views.specs.Report.{reporting, told_record_if}
use Rattle.lqh_views.specs.State.{ReplicaState}
use Rattle.lqh_views.proofs.AddressLemmas.{same-body}
use Rattle.lqh_views.proofs.LastLemmas.{IsThere, last-there}
use Rattle.outcome_laws.specs.Counts.{coordinator_member}
use Rattle.request_laws.specs.Orphans.{IsOrphan, TellsOf}
use Rattle.request_laws.proofs.routes.ChainsStay.{any_in}

-- a takeover is told only of such
abbrev pub TellsOrphans : View → Outgoing → Type 0
TellsOrphans view sent = TellsOf (IsOrphan view) sent.body

abbrev pub AreOrphans : View → List Outgoing → Type 0
AreOrphans view sends = Each (TellsOrphans view) sends

-- so it isn't one of a full member
pub coordinated : (full : List Member) (tx : TxId) → IsIn (coordinator_member tx) full → is_coordinated full tx ≡ true
coordinated full tx inside =
    any_in (was_begun_by tx) (coordinator_member tx) full inside
    (ap (λ b. b && (tx.start == tx.start)) (eq-eqb tx.tc tx.tc refl) ∙ eq-eqb tx.start tx.start refl)

none_is : (b : Bool) → not b ≡ true → b ≡ false
none_is true is = sym is
none_is false is = refl

module _ (view : View) where
  request_tells : (r : Request) → RequestSends (TellsOrphans view) r
  request_tells r = record {
    log_full = λ used reserved need. tt;
    table_full = λ rows. tt;
    answers = λ a. tt;
    passes = λ image next is. tt;
  }

  table_tells : (s : LqhState) (body : Body) → AreOrphans view (lqh_table s body).effects.sends
  table_tells s body =
      lqh_sends_each (TellsOrphans view) s body (record {
        asked = λ r is. request_tells r;
        waited = λ at r is. request_tells r;
        grants_more = tt;
        expires_more = tt;
        commits_on = λ tx key epoch chain at is behind. tt;
        committed = λ tx key epoch chain at is first. tt;
        completes_on = λ tx key chain at is behind. tt;
        completed = λ tx key chain at is first. tt;
        aborted = λ tx key is. tt;
        gives_up = λ tx key is. tt;
        times_out = λ tx key. tt;
        waits = λ tx key ahead is there. tt;
        dumps = λ at rows next is. tt;
      })

  -- what is addressed elsewhere says the same
  addressed_tells : (to : View) (sends : List Outgoing) → AreOrphans view sends
      → AreOrphans view (map (addressed to) sends)
  addressed_tells to [] all = tt
  addressed_tells to (send ∷ sends) all =
      (subst (TellsOf (IsOrphan view)) (sym (same-body to send)) all.0, addressed_tells to sends all.1)

module _ (s : ReplicaState) where
  abbrev view : View
  view = s.lqh.layout.view

  abbrev AreTold : Step ReplicaState → Type 0
  AreTold step = AreOrphans s.lqh.layout.view step.effects.sends

  record_tells : (to : ℕ) (r : PendingRecord) (b : Bool) → is_orphaned_record view.full r ≡ true
      → TellsOrphans view (told_record_if to r b)
  record_tells to r true is = none_is (is_coordinated view.full r.tx) is
  record_tells to r false is = none_is (is_coordinated view.full r.tx) is

  -- a report
  marker_tells : (r : reports.Report) (found : Option (ℕ × Marker))
      → IfSome found (IsThere (is_orphaned_marker view.full) s.lqh.markers) → AreTold (marker_by s r found)
  marker_tells r None is = (tt, tt)
  marker_tells r (Some (at, m)) is = (none_is (is_coordinated view.full m.tx) is.passes, (tt, tt))

  report_by_tells : (r : reports.Report) (found : Option (ℕ × PendingRecord))
      → IfSome found (IsThere (is_orphaned_record view.full) s.lqh.rows.pending) → AreTold (record_by s r found)
  report_by_tells r None is =
      marker_tells r (last_before (is_orphaned_marker view.full) s.lqh.markers r.markers)
      (last-there (is_orphaned_marker view.full) s.lqh.markers r.markers)
  report_by_tells r (Some (at, one)) is = (record_tells r.to one one.committed is.passes, (tt, tt))

  report_tells : (r : reports.Report) → AreTold (reporting s r)
  unfolding reporting
  report_tells r =
      report_by_tells r (last_before (is_orphaned_record view.full) s.lqh.rows.pending r.records)
      (last-there (is_orphaned_record view.full) s.lqh.rows.pending r.records)

  goes_on_tells : (b : Bool) (o : Option reports.Report) → AreTold (go_on_by s b o)
  goes_on_tells true (Some r) = report_tells r
  goes_on_tells true None = tt
  goes_on_tells false o = tt

  epochs_tell : (from : ℕ) (signal : EpochSignal) → AreTold (epoch_table s from signal)
  epochs_tell from (GcpClosed epoch) = (tt, tt)
  epochs_tell from (GcpSaveReq epoch) = (tt, tt)
  epochs_tell from GcpStateReq = (tt, tt)
  epochs_tell from _ = tt

  module _ (x : Signal) where
    passed_tells : AreTold (passed s x)
    passed_tells =
        addressed_tells view view (lqh_row s.lqh x).effects.sends (table_tells view s.lqh x.body)

    serve_tells : (b : Bool) → AreTold (serve_if s x b)
    serve_tells true = tt
    serve_tells false = passed_tells

    by_tells : (body : Body) → AreTold (replica_by s x body)
    by_tells (Membership (FenceReq proposal)) = (tt, tt)
    by_tells (Takeover LqhTransReq) = report_tells _
    by_tells (Host (Continue Report at)) = goes_on_tells (x.view.number == s.lqh.layout.view.number) s.report
    by_tells (Host (Continue Granted at)) = serve_tells (is_stale s x)
    by_tells (Host (Continue Expired at)) = serve_tells (is_stale s x)
    by_tells (Epoch signal) = epochs_tell x.member.node signal
    by_tells _ = passed_tells

    -- whatever they take
    pub rows_tell_orphans : AreOrphans s.lqh.layout.view (replica_row s x).effects.sends
    rows_tell_orphans = by_tells x.body
