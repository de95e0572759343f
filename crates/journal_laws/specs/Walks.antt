-- How far the local checkpoint of a member's rows has come, told by the events of its log.
use Rattle.std.specs.Prelude.{◌≡◌, ◌==◌, ℕ, List, [], ◌++◌, length, if◌then◌else◌}
use Rattle.run_theory.specs.Lists.{IsIn}
use Rattle.sig_core.specs.declared.member.Member.{Member}
use Rattle.sig_core.specs.declared.piece.Piece.{Piece}
use Rattle.sig_core.specs.declared.walk.Finished.{Finished}
use Rattle.sig_core.specs.Rows.{RowsState}
use Rattle.sig_core.specs.Walk.{WalkState}
use Rattle.local_ckpt.specs.Events.{Event, Moment}
use Rattle.local_ckpt.specs.Laws.{HasPrepares}
use Rattle.lqh_saver.specs.declared.stage.Stage.{Stage}
use Rattle.lqh_saver.specs.declared.stage.Stage.TheVariants.{Resting, Walked, Walking}
use Rattle.moment_laws.specs.Moments.{IsMoment, logs_of}
use Rattle.moment_laws.specs.Places.{ldm_of}
use Rattle.redo_log.specs.Replaying.{log_bytes}
use Rattle.world_core.specs.Start.{Start, made}
use Rattle.world_core.specs.Steps.{HostStep}
use Rattle.journal_laws.specs.Checkpoints.{HasPassed, Portions, end_of_walk, records_at_walk, rows_at_walk, until_end}
use Rattle.journal_laws.specs.Checkpoints.{whole}
use Rattle.journal_laws.specs.Events.{AreUpTo, records_behind, rows_behind}
use Rattle.journal_laws.specs.Journal.{HasRecords, first_rows, lqh_after}
use Rattle.journal_laws.specs.Saver.{IsToldDone, written}
use Rattle.request_laws.specs.Blocks.{saver_after}

-- a walk stands as at this moment, but for the epoch that it notes
abbrev pub IsWalkAt : WalkState → Moment → Type 0
IsWalkAt walk m = walk ≡ record m.walk { epoch = walk.epoch }

-- the pieces of a checkpoint that has so many bytes by now
abbrev pub pieces_if : ℕ → List Piece → List Piece
pieces_if size pieces = if size == 0 then [] else pieces

module _ (start : Start) (member : Member) where
  abbrev first : RowsState
  first = first_rows start member

  -- the position behind the records of events from the first rows on
  abbrev pub position_behind : List Event → ℕ
  position_behind events = length (log_bytes (records_behind first events))

  -- The journal gave up the records of some events, none of which committed anything later than is noted of them; of
  -- whatever is prepared it still has the record.
  pub record HasGivenUp (log : List HostStep) (events : List Event) : Type 0 where
    pub since : List Event
    pub gone : List Event
    pub split : events ≡ since ++ gone
    pub position : (lqh_after start member log).outlet.flushed ≡ position_behind gone
    pub floor : AreUpTo (saver_after start member log).floor gone
    pub prepares : HasPrepares (lqh_after start member log).rows (records_behind (rows_behind first gone) since)

  -- A walk began at the position behind what it leaves out, from which on the journal had whatever was prepared.
  pub record BeganAt (position : ℕ) (p : Portions) : Type 0 where
    pub from : position ≡ position_behind p.gone
    pub prepares : HasPrepares (rows_at_walk first p) (records_at_walk first p)

  -- one is on its way behind these events
  pub record IsOnItsWay (log : List HostStep) (events : List Event) (walk : WalkState) : Type 0 where
    pub portions : Portions
    pub none_later : portions.later ≡ []
    pub is : events ≡ whole portions
    pub began : BeganAt walk.from portions
    pub walk_is : IsWalkAt walk (end_of_walk first portions 0 walk.from walk.epoch)
    pub pieces :
        (end_of_walk first portions 0 walk.from walk.epoch).pieces ≡ pieces_if walk.size (written start member log)

  -- one has passed all rows, and this is what it came to; the journal ended there
  pub record HasEnded (log : List HostStep) (events : List Event) (finished : Finished) (end : ℕ) : Type 0 where
    pub portions : Portions
    pub is : events ≡ whole portions
    pub began : BeganAt finished.from portions
    pub passed : HasPassed (end_of_walk first portions 0 finished.from finished.epoch)
    pub size : finished.size ≡ (end_of_walk first portions 0 finished.from finished.epoch).walk.size
    pub pieces :
        (end_of_walk first portions 0 finished.from finished.epoch).pieces
        ≡ pieces_if finished.size (written start member log)
    -- it commits nothing later than it noted
    pub epoch : AreUpTo finished.epoch (until_end portions)
    pub end_is : end ≡ position_behind (until_end portions)

  abbrev pub HasComeTo : List HostStep → List Event → Stage → Type 0
  HasComeTo log events Resting = Unit {0}
  HasComeTo log events (Walking walk to) = IsOnItsWay log events walk
  HasComeTo log events (Walked finished end) = HasEnded log events finished end

  -- what the saver of a member knows is so
  pub record IsFollowed (log : List HostStep) (events : List Event) : Type 0 where
    pub given_up : HasGivenUp log events
    pub walk : HasComeTo log events (saver_after start member log).stage
    pub durable : IsToldDone start member log (saver_after start member log).durable

-- At each moment the events of which the journal of a member's rows has the records tell how far a local checkpoint has
-- come.
abbrev pub WalksAreFollowed : Type 0
WalksAreFollowed =
    (start : Start) (all : ℕ → List HostStep) (es : List HostStep) → IsMoment start all es → (member : Member)
    → IsIn member (made start) → (events : List Event)
    → HasRecords start member (logs_of start es (ldm_of start member)) events
    → IsFollowed start member (logs_of start es (ldm_of start member)) events
