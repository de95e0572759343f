-- All stands at each moment of a run in the order of views.
use Rattle.std.proofs.Common.{ℕ, List, [], ◌∷◌}
use Rattle.world_core.specs.Start.{Start}
use Rattle.world_core.specs.Steps.{HostStep}
use Rattle.moment_laws.specs.Moments.{IsMoment, logs_of}
use Rattle.epoch_laws.specs.Stand.{AllStand, EpochsStand}
use Rattle.epoch_laws.specs.Told.{IsTrue}
use Rattle.moment_laws.proofs.MomentSignals.{sent_next}
use Rattle.moment_laws.proofs.MomentViews.{moment_less}
use Rattle.epoch_laws.proofs.StandMarks.{alike_next}
use Rattle.epoch_laws.proofs.StandMasters.{others_next, president_next}
use Rattle.epoch_laws.proofs.StandOn.{old_true}
use Rattle.epoch_laws.proofs.StandSends.{new_true}
use Rattle.epoch_laws.proofs.StandStart.{stands_first}
use Rattle.epoch_laws.proofs.StandTakes.{sound_next}

pub stand_next : (start : Start) (all : ℕ → List HostStep) (e : HostStep) (es : List HostStep)
    → IsMoment start all (e ∷ es) → AllStand start (logs_of start es) → AllStand start (logs_of start (e ∷ es))
stand_next start all e es moment stand = record {
  sound = sound_next start all e es moment stand;
  alike = alike_next start all e es moment stand;
  president = president_next start all e es moment stand;
  others = others_next start all e es moment stand;
  signals =
      sent_next start (IsTrue start (logs_of start (e ∷ es))) all e es moment (old_true start all e es moment stand)
      (new_true start all e es moment stand);
}

pub epochs_stand : EpochsStand
epochs_stand start all [] some moment = stands_first start all some moment
epochs_stand start all (e ∷ es) some moment =
    stand_next start all e es moment (epochs_stand start all es some (moment_less start all e es moment))
