-- An event leaves a key tidy at a replica, and led to what it was led to.
use Rattle.std.proofs.Common.{◌≡◌, ◌∙◌, ◌||◌, ℕ, Bool, true, List, ◌∷◌, refl, sym, ap, subst}
use Rattle.std.proofs.lemmas.Bool.{true≢false}
use Rattle.std.specs.Prelude.{is_some, Option, None, Some}
use Rattle.run_theory.specs.Lists.{IsIn}
use Rattle.sig_core.specs.declared.member.Member.{Member}
use Rattle.sig_core.specs.declared.member.TxId.{TxId}
use Rattle.sig_core.specs.declared.rows.PendingRecord.{PendingRecord}
use Rattle.sig_core.specs.declared.view.View.{View}
use Rattle.sig_core.specs.Rows.{state_by}
use Rattle.lqh_block.specs.Views.{goes_on_holding, is_coordinated}
use Rattle.lqh_views.specs.Replica.{installed}
use Rattle.lqh_views.specs.State.{ReplicaState}
use Rattle.host_laws.specs.ReplicaLaws.{IsWell}
use Rattle.key_laws.specs.BackupEvents.{backup_of}
use Rattle.key_laws.specs.Records.{found}
use Rattle.key_laws.specs.Replica.{at_key, key_after}
use Rattle.key_laws.proofs.EpochLemmas.{state_found}
use Rattle.world_core.specs.Start.{Start, made}
use Rattle.world_core.specs.Steps.{HostStep}
use Rattle.moment_laws.specs.Moments.{IsMoment, logs_of}
use Rattle.moment_laws.specs.Places.{ldm_of}
use Rattle.request_laws.specs.Replicas.{event_under}
use Rattle.request_laws.specs.Waiting.{AreAttended}
use Rattle.request_laws.proofs.replicas.KeyEvents.{installations_are_events, signals_are_events}
use Rattle.request_laws.proofs.replicas.Waits.{installed_are_attended}
use Rattle.commit_laws.specs.Forth.{ForthIsKnownAlways}
use Rattle.commit_laws.specs.Led.{IsTidy, Leads}
use Rattle.commit_laws.specs.Owed.{AbortedAreNotFinal, AppliedAreFinal, EventsLead, FinalsGoForward, IsAlong}
use Rattle.commit_laws.specs.Together.{AllStandAlways}
use Rattle.commit_laws.specs.Traces.{IsReplicaOf, replica_at, rows_at}
use Rattle.commit_laws.specs.Values.{decided_at, is_final}
use Rattle.commit_laws.proofs.commits.Places.{well}
use Rattle.commit_laws.proofs.led.Events.{both_lead, fair_lead, installation_leads, itself}
use Rattle.commit_laws.proofs.led.FairEvents.{fair_now}
use Rattle.commit_laws.proofs.led.Replicas.{moment_at}
use Rattle.commit_laws.proofs.records.Once.{rows_well}
use Rattle.commit_laws.proofs.records.Replicas.{replica_before, replica_made}
use Rattle.commit_laws.proofs.records.Attended.{rows_attended}
use Rattle.commit_laws.proofs.hosts.RowsTurn.{IsBetween, IsTakenAt, RowsGo, as_was, enter, entered, rest, rows_go, take}
use Rattle.moment_laws.proofs.MomentViews.{moment_less}

-- whoever has a record on a key goes on holding its lock
record_holds : (s : ReplicaState) (view : View) (key : List ℕ) (v : TxId)
    → is_some (found v (at_key key s.lqh).cell.pending) ≡ true → goes_on_holding s.lqh.rows view.full key v ≡ true
record_holds s view key v is =
    ap (λ o. is_some o || is_coordinated view.full v) (state_found s.lqh.rows v key)
    ∙ by (found v (at_key key s.lqh).cell.pending) is
  where
    by : (o : Option PendingRecord) → is_some o ≡ true → (is_some (state_by o) || is_coordinated view.full v) ≡ true
    by None is = absurd (true≢false (sym is))
    by (Some r) is = refl

-- so a view that is installed leads
installed_leads : (decided final : TxId → Bool) (s : ReplicaState) (view : View) (key : List ℕ) → IsWell s.lqh
    → IsTidy decided (backup_of (at_key key s.lqh))
    → Leads decided final (backup_of (at_key key s.lqh)) (backup_of (at_key key (installed s view).lqh))
installed_leads decided final s view key well tidy =
    subst (λ r. Leads decided final (backup_of (at_key key s.lqh)) (backup_of r))
    (sym (installations_are_events s view key well))
    (installation_leads decided final (goes_on_holding s.lqh.rows view.full key) (at_key key s.lqh)
    (well.orderly.each key)
    (record_holds s view key) tidy)

module _ (forth : ForthIsKnownAlways) (stand : AllStandAlways) (forward : FinalsGoForward) (applied : AppliedAreFinal)
    (aborted : AbortedAreNotFinal) (start : Start) (all : ℕ → List HostStep) (end : List HostStep) (e : HostStep)
    (es : List HostStep) (along : IsAlong start all end (e ∷ es)) (key : List ℕ) (member : Member)
    (is : IsReplicaOf start (logs_of start (e ∷ es)) key member) where
  abbrev old : ℕ → List HostStep
  old = logs_of start es

  abbrev new : ℕ → List HostStep
  new = logs_of start (e ∷ es)

  abbrev decided : TxId → Bool
  decided = decided_at start end (e ∷ es)

  abbrev final : TxId → Bool
  final = is_final start end

  abbrev now : IsMoment start all (e ∷ es)
  now = moment_at start all end (e ∷ es) along

  replica : IsReplicaOf start (logs_of start es) key member
  replica = replica_before start all e es now key member is

  there : IsIn member (made start)
  there = replica_made start all es (moment_less start all e es now) key member replica

  module _ (inside : IsIn member (made start))
      (tidy : IsTidy decided (backup_of (replica_at start (logs_of start es) member key)))
    where
      well_was : IsWell (rows_at start old member).lqh
      well_was = rows_well start along.moment.cluster.nobody member inside (old (ldm_of start member))

      attended_was : AreAttended (replica_at start old member key)
      attended_was = rows_attended forth start all es (moment_less start all e es now) member inside key

      abbrev LeadsTo : ReplicaState → Type 0
      LeadsTo s = Leads decided final (backup_of (replica_at start old member key)) (backup_of (at_key key s.lqh))

      taken_leads : (s : ReplicaState) → IsBetween start all e es now member inside s
          → IsTakenAt start all e es now member inside s → LeadsTo (rows_at start new member)
      taken_leads s between taken =
          subst LeadsTo (sym taken.rows_are)
          (subst (λ r. Leads decided final (backup_of (replica_at start old member key)) (backup_of r))
          (sym (signals_are_events s e.step.taken key well_s))
          (both_lead decided final (backup_of (replica_at start old member key)) (backup_of (at_key key s.lqh))
          (backup_of (key_after (event_under key s e.step.taken) (at_key key s.lqh))) first
          (fair_lead decided final (event_under key s e.step.taken) (at_key key s.lqh)
          (record { orderly = well_s.orderly.each key; attended = attended_s.attended }) first.tidy
          (fair_now forth stand forward applied aborted start all end e es along member inside key replica s between
          taken))))
        where
          well_s : IsWell s.lqh
          well_s =
              well start all e es now member inside
              (record { rows = s; between = between; taken = taken; at = taken.at; now = taken.now })

          first : LeadsTo s
          first = by between
            where
              by : IsBetween start all e es now member inside s → LeadsTo s
              by (as_was same stays) =
                  subst LeadsTo (sym same) (itself decided final (backup_of (replica_at start old member key)) tidy)
              by (entered view same) =
                  subst LeadsTo (sym same)
                  (installed_leads decided final (rows_at start old member) view key well_was tidy)

          attended_s : AreAttended (at_key key s.lqh)
          attended_s = by between
            where
              by : IsBetween start all e es now member inside s → AreAttended (at_key key s.lqh)
              by (as_was same stays) =
                  subst (λ (s : ReplicaState). AreAttended (at_key key s.lqh)) (sym same) attended_was
              by (entered view same) =
                  subst (λ (s : ReplicaState). AreAttended (at_key key s.lqh)) (sym same)
                  (installed_are_attended (rows_at start old member) view key)

      leads_now : LeadsTo (rows_at start new member)
      leads_now = by (rows_go start all e es now member inside)
        where
          by : RowsGo start all e es now member inside → LeadsTo (rows_at start new member)
          by (rest same quiet) =
              subst LeadsTo (sym same) (itself decided final (backup_of (replica_at start old member key)) tidy)
          by (enter view same quiet) =
              subst LeadsTo (sym same) (installed_leads decided final (rows_at start old member) view key well_was tidy)
          by (take s between taken) = taken_leads s between taken

pub events_lead : ForthIsKnownAlways → AllStandAlways → FinalsGoForward → AppliedAreFinal → AbortedAreNotFinal
    → EventsLead
events_lead forth stand forward applied aborted start all end e es along key member is tidy =
    leads_now forth stand forward applied aborted start all end e es along key member is
    (there forth stand forward applied aborted start all end e es along key member is) tidy
