-- All of it stands at each moment, if answers are kept and gatherings are whole.
use Rattle.std.proofs.Common.{ℕ, List, [], ◌∷◌}
use Rattle.sig_core.specs.declared.member.TxId.{TxId}
use Rattle.world_core.specs.Start.{Start}
use Rattle.world_core.specs.Steps.{HostStep}
use Rattle.moment_laws.specs.Moments.{IsMoment}
use Rattle.moment_laws.proofs.MomentViews.{moment_less}
use Rattle.commit_laws.specs.Gathering.{GatheringsAreWhole}
use Rattle.commit_laws.specs.Together.{AllStand, AllStandAlways, EventsKeepAnswered, EventsKeepParts, FatesMove}
use Rattle.commit_laws.specs.Together.{Follows}
use Rattle.commit_laws.proofs.commits.Kept.{events_keep_commits}
use Rattle.commit_laws.proofs.fates.Moves.{fates_move}
use Rattle.commit_laws.proofs.forth.KnownComes.{known_commit}
use Rattle.commit_laws.proofs.takeover.Events.{events_keep_spoken, events_keep_takeovers}
use Rattle.commit_laws.proofs.links.Transit.{moments_have_transit}
use Rattle.commit_laws.proofs.commits.WholeAll.{commits_go_whole}

abbrev pub FirstStands : Type 0
FirstStands = (start : Start) (all : ℕ → List HostStep) → IsMoment start all [] → AllStand start []

module _ (first : FirstStands) (answers : EventsKeepAnswered) (parts : EventsKeepParts) (whole : GatheringsAreWhole)
  where
    stands_next : (start : Start) (all : ℕ → List HostStep) (e : HostStep) (es : List HostStep) → Follows start all e es
        → AllStand start (e ∷ es)
    stands_next start all e es follows = record {
      spoken = events_keep_spoken whole start all e es follows moves;
      answered = answers start all e es follows moves;
      takeovers = events_keep_takeovers whole start all e es follows moves;
      commits =
          events_keep_commits commits_go_whole moments_have_transit start all e es follows moves
          (answers start all e es follows moves);
      parts = parts start all e es follows moves;
    }
      where
        moves : (tx : TxId) → FatesMove start e es tx
        moves = fates_move known_commit start all e es follows

    pub stand_always : AllStandAlways
    stand_always start all [] moment = first start all moment
    stand_always start all (e ∷ es) moment =
        stands_next start all e es
        (record { moment = moment; stood = stand_always start all es (moment_less start all e es moment) })
