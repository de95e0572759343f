-- Rows pass commits and aborts on, and answer them, and speak of no others.
use Rattle.std.proofs.Common.{subst}
use Rattle.sig_core.specs.declared.member.TxId.{TxId}
use Rattle.sig_core.specs.declared.signal.Body.{Body}
use Rattle.sig_core.specs.declared.signal.Body.TheVariants.{Chain}
use Rattle.sig_core.specs.declared.signal.Signal.{Signal}
use Rattle.lqh_block.specs.declared.request.Request.{Request}
use Rattle.lqh_block.proofs.EachLqh.{RequestSends}
use Rattle.lqh_views.specs.Replica.{replica_row}
use Rattle.lqh_views.specs.State.{ReplicaState}
use Rattle.lqh_views.proofs.Walk.{replica_says_each}
use Rattle.lqh_saver.specs.Saver.{saver_row}
use Rattle.lqh_saver.specs.State.{SavingState}
use Rattle.commit_laws.proofs.fates.SpokenWords.{AreSpoken, IsSpoken, Speaks}
use Rattle.commit_laws.proofs.hosts.SaverGoes.{saver_says}

module _ (A C : TxId → Type 0) where
  -- a request that is performed
  request_speaks : (r : Request) → RequestSends (IsSpoken A C) r
  request_speaks r = record {
    log_full = λ used reserved need. tt;
    table_full = λ rows. tt;
    answers = λ a. tt;
    passes = λ image next is. tt;
  }

  -- what a signal of chains says
  abbrev pub Hears : Body → Type 0
  Hears (Chain signal) = Speaks A C (Chain signal)
  Hears body = Unit {0}

  -- whatever they take
  rows_speak : (s : ReplicaState) (x : Signal) → Hears x.body → AreSpoken A C (replica_row s x).effects.sends
  rows_speak s x spoken =
      replica_says_each s x (Speaks A C) (λ of_rows. record {
        asked = λ r is. request_speaks r;
        waited = λ at r is. request_speaks r;
        grants_more = tt;
        expires_more = tt;
        commits_on = λ tx key epoch chain at is behind. subst Hears is spoken;
        committed = λ tx key epoch chain at is first. subst Hears is spoken;
        completes_on = λ tx key chain at is behind. subst Hears is spoken;
        completed = λ tx key chain at is first. subst Hears is spoken;
        aborted = λ tx key is. subst Hears is spoken;
        gives_up = λ tx key is. tt;
        times_out = λ tx key. tt;
        waits = λ tx key ahead is there. tt;
        dumps = λ at rows next is. tt;
      }) (record {
        promises = λ proposal is. tt;
        closes = λ epoch is. tt;
        saves = λ epoch is. tt;
        states = λ is. tt;
        tells_committed = λ r under_way at one there is. tt;
        tells_prepared = λ r under_way at one there is. tt;
        tells_marker = λ r under_way at m there. tt;
        reports_on = λ r under_way. tt;
        ends = λ r under_way. tt;
      })

  -- with their saver, which speaks of none
  pub saving_speak : (s : SavingState) (x : Signal) → Hears x.body → AreSpoken A C (saver_row s x).effects.sends
  saving_speak s x spoken =
      saver_says s x (Speaks A C) (record { reports = λ epoch. tt; confirms = tt; goes_on = λ at. tt })
      (rows_speak s.replica x spoken)
