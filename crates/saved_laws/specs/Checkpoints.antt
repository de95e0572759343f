-- What a member has written of its rows once a walk has passed all of them.
use Rattle.std.specs.Prelude.{◌≡◌, ◌⊎◌, ◌≤◌, ◌<◌, ◌^◌, ℕ, List, drop, length, Ok}
use Rattle.std.specs.FinMap as map
use Rattle.run_theory.specs.Lists.{IsIn, IsPast}
use Rattle.lcp_store.specs.Reading.{rows_in}
use Rattle.local_ckpt.specs.Events.{Event}
use Rattle.local_ckpt.specs.Laws.{pieces_bytes}
use Rattle.lqh_saver.specs.declared.stage.Stage.TheVariants.{Walked}
use Rattle.redo_log.specs.Replaying.{AreRecords, log_bytes}
use Rattle.sig_core.specs.declared.member.Member.{Member}
use Rattle.sig_core.specs.declared.redo.Redo.{Redo}
use Rattle.sig_core.specs.declared.walk.Finished.{Finished}
use Rattle.sig_core.specs.Journal.{end_of}
use Rattle.sig_core.specs.Rows.{row_of}
use Rattle.sig_core.specs.Table.{Rows}
use Rattle.sys_restart.specs.Prepared.{AreStorable}
use Rattle.world_core.specs.Start.{Start, made}
use Rattle.world_core.specs.Steps.{HostStep}
use Rattle.moment_laws.specs.Moments.{IsMoment, logs_of}
use Rattle.moment_laws.specs.Places.{ldm_of}
use Rattle.commit_laws.specs.Traces.{rows_at}
use Rattle.journal_laws.specs.Asked.{AreOfWords}
use Rattle.journal_laws.specs.Checkpoints.{ComeToTheSame}
use Rattle.journal_laws.specs.Events.{records_behind}
use Rattle.journal_laws.specs.Journal.{AreEventsOf, first_rows, lqh_after}
use Rattle.journal_laws.specs.Saver.{written}
use Rattle.request_laws.specs.Blocks.{saver_after}
use Rattle.journal_laws.specs.Walks.{pieces_if}

-- bytes are read as these rows, in whichever file they stand and however late rows may be, from the noted epoch on
abbrev pub AreReadFrom : ℕ → List ℕ → Rows → Type 0
AreReadFrom noted bytes rows =
    (file latest : ℕ) → noted ≤ latest → latest < 2 ^ 64 → rows_in file latest bytes ≡ Ok rows

module _ (start : Start) (member : Member) (before : Rows) where
  -- These rows, with records whose bytes are those that the journal had from a position on, come to what all records of
  -- the events make of the rows before, up to each epoch from the noted one on.
  pub record StandFor (rows : Rows) (noted position : ℕ) (events : List Event) (kept : List Redo) : Type 0 where
    pub are : AreRecords kept
    pub bytes : log_bytes kept ≡ drop position (log_bytes (records_behind (first_rows start member) events))
    pub most : position ≤ length (log_bytes (records_behind (first_rows start member) events))
    pub same : ComeToTheSame noted rows kept before (records_behind (first_rows start member) events)

  -- so it is of these rows and each part of a log at which the journal had the end of the walk already
  abbrev pub StandForAll : List HostStep → Rows → Finished → ℕ → Type 0
  StandForAll log rows finished end =
      (older : List HostStep) → IsPast older log → end ≤ end_of (lqh_after start member older).outlet
      → (events : List Event) → AreEventsOf start member older events
      → (kept : List Redo) × StandFor rows finished.epoch finished.from events kept

-- the first rows of a member can be written
pub record AreWords (start : Start) (member : Member) (before : Rows) : Type 0 where
  pub storable : AreStorable before
  pub table : (key : List ℕ) → map.get before key ≡ row_of (first_rows start member) key

-- What was written along a log is a checkpoint of the size that its walk came to, and stands for all that was before.
pub record IsCheckpoint (start : Start) (member : Member) (before : Rows) (log : List HostStep) (finished : Finished)
    (end : ℕ) : Type 0 where
  pub rows : Rows
  pub size : finished.size ≡ length (pieces_bytes (pieces_if finished.size (written start member log)))
  pub read : AreReadFrom finished.epoch (pieces_bytes (pieces_if finished.size (written start member log))) rows
  pub stand : StandForAll start member before log rows finished end

-- so it is at each moment where a member's walk has passed all rows
abbrev pub WalkedCheckpointsStand : Type 0
WalkedCheckpointsStand =
    (start : Start) (all : ℕ → List HostStep) (es : List HostStep) → start.epoch < 2 ^ 64 → IsMoment start all es
    → AreOfWords (all 0) → (member : Member) → IsIn member (made start) → (before : Rows)
    → AreWords start member before → (finished : Finished) (end : ℕ)
    → (saver_after start member (logs_of start es (ldm_of start member))).stage ≡ Walked finished end
    → IsCheckpoint start member before (logs_of start es (ldm_of start member)) finished end

-- what a member's rows have noted as saved, beyond the epoch from which the life started, is of the life
abbrev pub SavedAreOfLife : Type 0
SavedAreOfLife =
    (start : Start) (all : ℕ → List HostStep) (es : List HostStep) → start.start_epoch < start.epoch
    → IsMoment start all es → (member : Member) → IsIn member (made start)
    → ((rows_at start (logs_of start es) member).saved ≡ start.start_epoch)
    ⊎ (start.epoch ≤ (rows_at start (logs_of start es) member).saved)
