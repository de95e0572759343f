-- Rows pass commits on and answer them, and tell takeovers of committed records and markers.
use Rattle.std.proofs.Common.{◌≡◌, Bool, true, false, refl, sym, subst}
use Rattle.run_theory.proofs.EachSent.{each_get}
use Rattle.sig_core.specs.declared.member.TxId.{TxId}
use Rattle.sig_core.specs.declared.outs.Outgoing.{Outgoing}
use Rattle.sig_core.specs.declared.rows.PendingRecord.{PendingRecord}
use Rattle.sig_core.specs.declared.signal.Body.{Body}
use Rattle.sig_core.specs.declared.signal.Body.TheVariants.{Epoch}
use Rattle.sig_core.specs.declared.signal.Signal.{Signal}
use Rattle.sig_core.specs.declared.signal.epoch.EpochSignal.TheVariants.{DiVerifyConf}
use Rattle.lqh_block.specs.declared.request.Request.{Request}
use Rattle.lqh_block.proofs.EachLqh.{RequestSends}
use Rattle.lqh_views.specs.Replica.{replica_by, replica_row}
use Rattle.lqh_views.specs.State.{ReplicaState}
use Rattle.lqh_views.proofs.Walk.{replica_says_each}
use Rattle.lqh_saver.specs.Saver.{saver_row}
use Rattle.lqh_saver.specs.State.{SavingState}
use Rattle.lqh_saver.proofs.StepLemmas.{saver_rows}
use Rattle.outcome_laws.specs.Known.{IsDecidedIf, RowsKnow}
use Rattle.outcome_laws.proofs.rows.KnowDecided.{rows_know}
use Rattle.outcome_laws.proofs.rows.RecordsAndMarkers.{IsKnownMarker, IsKnownRecord}
use Rattle.commit_laws.proofs.forth.Speaks.{Anyone, AreSpoken, Of, Speaks, gives_epoch, hears}
use Rattle.commit_laws.proofs.hosts.SaverGoes.{saver_says}

module _ (F A : TxId → Type 0) where
  abbrev Fits : Outgoing → Type 0
  Fits sent = Speaks F A sent.body

  -- a request that is performed
  request_speaks : (r : Request) → RequestSends Fits r
  request_speaks r = record {
    log_full = λ used reserved need. tt;
    table_full = λ rows. tt;
    answers = λ a. tt;
    passes = λ image next is. tt;
  }

  -- of a record, as it is
  record_speaks : (one : PendingRecord) (b : Bool) → one.committed ≡ b → IsKnownRecord (Of F) Anyone one
      → IsDecidedIf (Of F) Anyone one b
  record_speaks one b is known = subst (IsDecidedIf (Of F) Anyone one) is known

  -- whatever they take
  rows_speak : (s : ReplicaState) (x : Signal) → RowsKnow (Of F) Anyone s → Speaks F A x.body
      → AreSpoken F A (replica_row s x).effects.sends
  rows_speak s x known spoken =
      replica_says_each s x (Speaks F A) (λ of_rows. record {
        asked = λ r is. request_speaks r;
        waited = λ at r is. request_speaks r;
        grants_more = tt;
        expires_more = tt;
        commits_on = λ tx key epoch chain at is behind. subst (Speaks F A) is spoken;
        committed = λ tx key epoch chain at is first. subst (Speaks F A) is spoken;
        completes_on = λ tx key chain at is behind. subst (Speaks F A) is spoken;
        completed = λ tx key chain at is first. subst (Speaks F A) is spoken;
        aborted = λ tx key is. tt;
        gives_up = λ tx key is. tt;
        times_out = λ tx key. tt;
        waits = λ tx key ahead is there. tt;
        dumps = λ at rows next is. tt;
      }) (record {
        promises = λ proposal is. tt;
        closes = λ epoch is. tt;
        saves = λ epoch is. tt;
        states = λ is. tt;
        tells_committed = λ r under_way at one there is.
            record_speaks one true is
            (each_get (IsKnownRecord (Of F) Anyone) s.lqh.rows.pending at one known.records there.there);
        tells_prepared = λ r under_way at one there is. tt;
        tells_marker = λ r under_way at m there.
            each_get (IsKnownMarker (Of F) Anyone) s.lqh.markers at m known.markers there.there;
        reports_on = λ r under_way. tt;
        ends = λ r under_way. tt;
      })

  -- an epoch that is given is nothing to them
  rows_learn : (s : ReplicaState) (x : Signal) → RowsKnow (Of F) Anyone s → Speaks F A x.body
      → RowsKnow (Of F) Anyone (replica_row s x).state
  rows_learn s x known spoken = by (gives_epoch x.body) refl
    where
      given : (body : Body) → x.body ≡ body → gives_epoch body ≡ true
          → RowsKnow (Of F) Anyone (replica_row s x).state
      given (Epoch (DiVerifyConf tx epoch)) at is =
          subst (λ b. RowsKnow (Of F) Anyone (replica_by s x b).state) (sym at) known
      given body at is = absurd cc

      by : (b : Bool) → gives_epoch x.body ≡ b → RowsKnow (Of F) Anyone (replica_row s x).state
      by true is = given x.body refl is
      by false is = rows_know (Of F) Anyone s x known (hears F A x.body is spoken)

  -- with their saver, which tells of no commit, and gives up redo alone
  pub saving_speak : (s : SavingState) (x : Signal) → RowsKnow (Of F) Anyone s.replica → Speaks F A x.body
      → AreSpoken F A (saver_row s x).effects.sends
  saving_speak s x known spoken =
      saver_says s x (Speaks F A) (record { reports = λ epoch. tt; confirms = tt; goes_on = λ at. tt })
      (rows_speak s.replica x known spoken)

  pub saving_learn : (s : SavingState) (x : Signal) → RowsKnow (Of F) Anyone s.replica → Speaks F A x.body
      → RowsKnow (Of F) Anyone (saver_row s x).state.replica
  saving_learn s x known spoken =
      saver_rows s x (RowsKnow (Of F) Anyone) known (rows_learn s.replica x known spoken)
      (λ at has. record { records = known.records; markers = known.markers })
