-- The rows of a node and their saver send nothing that counts, whatever they take: they refuse an operation for want of
-- room, after its time, or where it is given up.
use Rattle.std.proofs.Common.{◌≡◌, false, refl}
use Rattle.run_theory.specs.Lists.{Each}
use Rattle.sig_core.specs.declared.signal.Signal.{Signal}
use Rattle.lqh_block.specs.declared.request.Request.{Request}
use Rattle.lqh_block.proofs.EachLqh.{RequestSends}
use Rattle.lqh_views.specs.Replica.{replica_row}
use Rattle.lqh_views.specs.State.{ReplicaState}
use Rattle.lqh_views.proofs.Walk.{replica_says_each}
use Rattle.lqh_saver.specs.Saver.{saver_row}
use Rattle.lqh_saver.specs.State.{SavingState}
use Rattle.lqh_saver.proofs.StepLemmas.{saver_sends}
use Rattle.outcome_laws.proofs.once.Counted.{IsUncounted, SendsUncounted, is_counted}

-- a request that is performed
request_none : (r : Request) → RequestSends IsUncounted r
request_none r = record {
  log_full = λ used reserved need. refl;
  table_full = λ rows. refl;
  answers = λ a. refl;
  passes = λ image next is. refl;
}

replica_none : (s : ReplicaState) (x : Signal) → SendsUncounted (replica_row s x)
replica_none s x =
    replica_says_each s x (λ body. is_counted body ≡ false)
    (λ of_rows. record {
      asked = λ r is. request_none r;
      waited = λ at r is. request_none r;
      grants_more = refl;
      expires_more = refl;
      commits_on = λ tx key epoch chain at is behind. refl;
      committed = λ tx key epoch chain at is first. refl;
      completes_on = λ tx key chain at is behind. refl;
      completed = λ tx key chain at is first. refl;
      aborted = λ tx key is. refl;
      gives_up = λ tx key is. refl;
      times_out = λ tx key. refl;
      waits = λ tx key ahead is there. refl;
      dumps = λ at rows next is. refl;
    })
    (record {
      promises = λ proposal is. refl;
      closes = λ epoch is. refl;
      saves = λ epoch is. refl;
      states = λ is. refl;
      tells_committed = λ r under_way at one there is. refl;
      tells_prepared = λ r under_way at one there is. refl;
      tells_marker = λ r under_way at m there. refl;
      reports_on = λ r under_way. refl;
      ends = λ r under_way. refl;
    })

pub rows_none : (s : SavingState) (x : Signal) → SendsUncounted (saver_row s x)
rows_none s x =
    saver_sends s x (Each IsUncounted) (replica_none s.replica x) tt (record {
      goes_on = λ own. (refl, tt);
      reports = λ walk to own walking. (refl, tt);
      confirms = λ finished end ordered walked usable. (refl, tt);
    })
