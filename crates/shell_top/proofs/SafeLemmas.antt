-- Every closed cut is safe.
use Rattle.std.proofs.Common.{◌<◌, ℕ, List, subst}
use Rattle.frag_map.specs.Shape.{IsShape}
use Rattle.run_theory.proofs.Cuts.{logs_of_closed}
use Rattle.run_theory.proofs.Pasts.{past_trans}
use Rattle.run_theory.specs.Cuts.{IsClosed, IsCut}
use Rattle.run_theory.specs.Lists.{IsPast}
use Rattle.run_theory.specs.Runs.{AreLogs, IsWithin}
use Rattle.world_core.specs.Hosts.{hosts}
use Rattle.world_core.specs.Start.{NobodyStarts, Start}
use Rattle.world_core.specs.Steps.{HostStep}
use Rattle.world_views.proofs.SentFacts.{is_stamped}
use Rattle.world_views.specs.Machine.{machine}
use Rattle.view_laws.specs.Runs.{AreOfCluster}
use Rattle.view_laws.proofs.eras.Entries.{stand_in_order}
use Rattle.view_laws.proofs.runs.AllSound.{have_orderly}
use Rattle.view_laws.proofs.runs.ChosenViews.{one_view, past_none, viable}
use Rattle.epoch_laws.proofs.FallAll.{epochs_of_histories}
use Rattle.outcome_laws.proofs.once.DecidedOnce.{decided_once}
use Rattle.outcome_laws.proofs.downfall.NeverDecided.{none_down_decided}
use Rattle.outcome_laws.proofs.once.ReportedOnce.{reported_once}
use Rattle.outcome_laws.proofs.order.ReportsBeforeAsks.{histories_in_strict_order}
use Rattle.talk_laws.proofs.Told.{decided_as_told}
use Rattle.closing_laws.proofs.settled.ClosedStayClosed.{closed_stay_closed}
use Rattle.closing_laws.proofs.durable.All.{durable_were_closed}
use Rattle.commit_laws.proofs.led.CutLaws.{aborts_effectless, commits_effective, histories_legal, records_alike}
use Rattle.commit_laws.proofs.led.CutLaws.{resting_rows}
use Rattle.commit_laws.proofs.views.Greatest.{greatest_viable}
use Rattle.shell_top.specs.Safe.{AreSafe, IsSafe}
use Rattle.shell_top.proofs.DownLemmas.{never_down}

module _ (start : Start) (logs : ℕ → List HostStep) (begins : start.start_epoch < start.epoch)
    (shape : IsShape start.shape) (nobody : NobodyStarts start)
    (within : IsWithin (hosts start) logs) (right : AreLogs (machine start) logs)
  where
    of_cluster : (inside : ℕ → List HostStep) → IsCut inside logs → IsClosed (machine start) inside
        → AreOfCluster start inside
    of_cluster inside cut closed =
        record {
          shape = shape;
          nobody = nobody;
          right = logs_of_closed (machine start) (is_stamped start) inside logs right cut closed;
          within = λ h out. past_none (inside h) (subst (λ log. IsPast (inside h) log) (within h out) (cut h));
        }

    pub cuts_are_safe : (inside : ℕ → List HostStep) → IsCut inside logs → IsClosed (machine start) inside
        → IsSafe start inside
    cuts_are_safe inside cut closed =
        record {
          one_view = one_view have_orderly start inside of;
          viable = viable have_orderly start inside of;
          serial = record {
            legal = histories_legal start inside of;
            strict = histories_in_strict_order start inside of;
            epochs = epochs_of_histories stand_in_order start inside begins of;
            viable = greatest_viable start inside of;
            rows = resting_rows start inside of;
          };
          decided_once = decided_once start inside of;
          reported_once = reported_once start inside of;
          answered = decided_as_told start inside of;
          committed = commits_effective start inside of;
          aborted = aborts_effectless start inside of;
          down = none_down_decided start inside of;
          durable = durable_were_closed start inside begins of;
          up = never_down start inside of;
        }
      where
        of : AreOfCluster start inside
        of = of_cluster inside cut closed

    pub between_cuts : (small large : ℕ → List HostStep) → IsCut small large → IsCut large logs
        → IsClosed (machine start) small → IsClosed (machine start) large → AreSafe start small large
    between_cuts small large inside cut closed closed_too =
        record {
          closed =
              closed_stay_closed start small large begins (of_cluster small (λ h. past_trans (inside h) (cut h)) closed)
              (of_cluster large cut closed_too) inside;
          agreed = λ tx key answered entry there own one other made_one made_other r q at at_other.
              records_alike start small large (of_cluster small (λ h. past_trans (inside h) (cut h)) closed)
              (of_cluster large cut closed_too) inside tx key answered entry there own one other made_one made_other r q
              at at_other;
        }
