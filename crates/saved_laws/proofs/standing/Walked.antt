-- So it is at each moment at which a member's walk has passed all rows.
use Rattle.std.proofs.Common.{List, subst}
use Rattle.local_ckpt.specs.Events.{Event}
use Rattle.local_ckpt.specs.Laws.{PiecesLieInOrder}
use Rattle.world_core.specs.Steps.{HostStep}
use Rattle.moment_laws.specs.Moments.{logs_of}
use Rattle.moment_laws.specs.Places.{ldm_of}
use Rattle.journal_laws.specs.Checkpoints.{LocalCheckpointsStand, until_end}
use Rattle.journal_laws.specs.Journal.{HasRecords}
use Rattle.journal_laws.specs.Laws.{JournalsHaveRecords}
use Rattle.journal_laws.specs.Walks.{HasComeTo, HasEnded, WalksAreFollowed}
use Rattle.saved_laws.specs.Checkpoints.{WalkedCheckpointsStand}
use Rattle.saved_laws.specs.Locks.{MembersKeepLocks}
use Rattle.saved_laws.proofs.standing.Checkpoint.{is_checkpoint}
use Rattle.saved_laws.proofs.standing.Floors.{walked_from}
use Rattle.saved_laws.proofs.standing.Locks.{part_keeps}

pub walked_stand : LocalCheckpointsStand → PiecesLieInOrder → JournalsHaveRecords → WalksAreFollowed → MembersKeepLocks
    → WalkedCheckpointsStand
walked_stand stands lie journals follow keep start all es low moment asked member there before words finished end
    walked =
    is_checkpoint stands lie start moment.cluster.nobody member there before words log events has finished end ended
    (part_keeps keep start all es moment member there ended.portions.later (until_end ended.portions)
    (subst (HasRecords start member log) ended.is has) finished.epoch ended.epoch)
    (walked_from start moment.cluster.nobody member there log events has.events_of finished end walked)
  where
    log : List HostStep
    log = logs_of start es (ldm_of start member)

    found : (events : List Event) × HasRecords start member log events
    found = journals start all es low moment asked member there

    events : List Event
    events = found.0

    has : HasRecords start member log events
    has = found.1

    ended : HasEnded start member log events finished end
    ended =
        subst (HasComeTo start member log events) walked
        (follow start all es moment member there events has).walk
