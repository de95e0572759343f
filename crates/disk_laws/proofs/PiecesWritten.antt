-- What was written of a local checkpoint stands at the front of its file.
use Rattle.std.proofs.Common.{◌≡◌, ◌∙◌, ◌≤◌, ◌<◌, ℕ, ◌+◌, ◌-◌, ◌==◌, Bool, true, false, List, [], ◌∷◌, ◌++◌}
use Rattle.std.proofs.Common.{length, take, drop, refl, ap, sym, subst, arith, append-nil, take_at}
use Rattle.std.proofs.Common.{if◌then◌else◌}
use Rattle.std.specs.Prelude.{Some, replicate}
use Rattle.std.proofs.lemmas.Bool.{eqb-false, eqb-true, ne_eqb}
use Rattle.std.proofs.lemmas.List.{length-take, take-append-le}
use Rattle.host_io.specs.Call.{Call}
use Rattle.host_io.specs.DiskState.{FileState, filled_up, laid, settled, state_of, written}
use Rattle.host_io.proofs.StateLemmas.{same_number}
use Rattle.redo_log.specs.Stored.{files_of}
use Rattle.sig_core.specs.declared.member.Member.{Member}
use Rattle.sig_core.specs.declared.piece.Piece.{Piece}
use Rattle.sig_core.specs.declared.slots.SystemSlot.{SystemSlot}
use Rattle.sig_core.specs.Rows.{RowsState}
use Rattle.sig_core.specs.Table.{Rows}
use Rattle.sig_core.specs.Walk.{WalkState, next_bytes, next_piece, stepped}
use Rattle.sysfile_core.specs.Runs.{Runs}
use Rattle.sysfile_core.proofs.RunLemmas.{all_done}
use Rattle.node_disk.specs.Laws.{IsSettledAt}
use Rattle.node_disk.specs.Saving.{free_file, settle_calls, walk_calls}
use Rattle.node_disk.specs.Slots.{SlotsInUse}
use Rattle.local_ckpt.specs.Events.{Event, Moment}
use Rattle.local_ckpt.specs.Laws.{at_first, pieces_bytes}
use Rattle.local_ckpt.proofs.LawLemmas.{pieces_are}
use Rattle.local_ckpt.proofs.StepLemmas.{pieces_more}
use Rattle.lqh_saver.specs.declared.stage.Stage.{Stage}
use Rattle.lqh_saver.specs.declared.stage.Stage.TheVariants.{Resting, Walked, Walking}
use Rattle.lqh_saver.specs.declared.stage.Todo.TheVariants as todo
use Rattle.world_core.specs.Start.{Start}
use Rattle.world_core.specs.Steps.{HostStep}
use Rattle.journal_laws.specs.Checkpoints.{end_of_walk, records_at_walk, rows_at_walk}
use Rattle.journal_laws.specs.Journal.{first_rows}
use Rattle.journal_laws.specs.Saver as saver
use Rattle.journal_laws.specs.Walks.{IsOnItsWay, pieces_if}
use Rattle.journal_laws.proofs.walks.Appending.{after_order, in_order}
use Rattle.disk_laws.specs.OnDisk.{HasWalked, HasWritten}

-- bytes stand at the front of others
abbrev pub StandsInFront : List ℕ → List ℕ → Type 0
StandsInFront front bytes = take (length front) bytes ≡ front

-- a piece that is laid behind it comes behind it
laid_behind : (front piece bytes : List ℕ) → StandsInFront front bytes
    → StandsInFront (front ++ piece) (laid (length front) piece bytes)
laid_behind front [] bytes is = subst (λ all. StandsInFront all bytes) (sym (append-nil front)) is
laid_behind front (byte ∷ piece) bytes is =
    ap (λ begun. take (length (front ++ all)) (begun ++ all ++ rest)) front_is
    ∙ take_at (front ++ all) rest (length (front ++ all)) refl
  where
    all : List ℕ
    all = byte ∷ piece

    filled : List ℕ
    filled = filled_up (length front + length all) bytes

    rest : List ℕ
    rest = drop (length front + length all) filled

    few : length front ≤ length bytes
    few =
        let size : length (take (length front) bytes) ≡ length front = ap length is in
        omega (arith, size, length-take (length front) bytes)

    front_is : take (length front) filled ≡ front
    front_is =
        take-append-le (length front) bytes (replicate (length front + length all - length bytes) 0) few ∙ is

-- the pieces that were written, and one more
module _ (rows : RowsState) (walk : WalkState) (old : List Piece) where
  abbrev piece : Piece
  piece = next_piece rows walk

  abbrev both : List Piece
  both = if walk.size == 0 then piece ∷ [] else old ++ piece ∷ []

  some_bytes : walk.size ≡ 0 → 0 < length (next_bytes rows walk)
  some_bytes none =
      subst (λ (size : ℕ). 0 < length (next_bytes rows (record walk { size = size }))) (sym none) (omega arith)

  pub piece_behind : pieces_bytes (pieces_if (stepped rows walk).size both)
      ≡ pieces_bytes (pieces_if walk.size old) ++ piece.bytes
  piece_behind = by (walk.size == 0) refl
    where
      by : (none : Bool) → (walk.size == 0) ≡ none
          → pieces_bytes (pieces_if (stepped rows walk).size (if none then piece ∷ [] else old ++ piece ∷ []))
          ≡ pieces_bytes (if none then [] else old) ++ piece.bytes
      by true e =
          ap (λ (b : Bool). pieces_bytes (if b then [] else piece ∷ []))
          (ne_eqb (stepped rows walk).size 0
          (λ same. absurd (omega (arith, same, some_bytes (eqb-true walk.size 0 e)))))
          ∙ append-nil piece.bytes
      by false e =
          ap (λ (b : Bool). pieces_bytes (if b then [] else old ++ piece ∷ []))
          (ne_eqb (stepped rows walk).size 0 (λ same. eqb-false walk.size 0 e (omega (arith, same))))
          ∙ pieces_more old piece

-- as many bytes were written as the walk says
pub walk_size : (start : Start) (member : Member) (log : List HostStep) (events : List Event) (walk : WalkState)
    → IsOnItsWay start member log events walk
    → length (pieces_bytes (pieces_if walk.size (saver.written start member log))) ≡ walk.size
walk_size start member log events walk way =
    ap (λ pieces. length (pieces_bytes pieces)) (sym way.pieces)
    ∙ sym size
    ∙ sym (ap (λ (w : WalkState). w.size) way.walk_is)
  where
    first : RowsState
    first = first_rows start member

    m : Moment
    m = end_of_walk first way.portions 0 walk.from walk.epoch

    size : m.walk.size ≡ length (pieces_bytes m.pieces)
    size =
        subst (λ (n : Moment). n.walk.size ≡ length (pieces_bytes n.pieces))
        (after_order
        (at_first (rows_at_walk first way.portions) (records_at_walk first way.portions) 0 walk.from walk.epoch)
        way.portions.meanwhile [])
        (pieces_are (rows_at_walk first way.portions) (records_at_walk first way.portions) 0 walk.from walk.epoch
        (in_order way.portions.meanwhile [])).1

-- the calls that write a piece, and that sync the file, all succeeded
module _ (s : SlotsInUse) (calls after : List Call) where
  abbrev file : ℕ
  file = free_file s

  pub write_done : (piece : Piece) → Runs (walk_calls s piece) calls (Some after) true
      → files_of after file ≡ laid piece.at piece.bytes (files_of calls file)
  write_done piece runs =
      ap (λ made. files_of made file) (all_done (walk_calls s piece) calls after runs)
      ∙ ap
      (λ (b : Bool). (if b then written (state_of calls file) piece.at (length piece.bytes) piece.bytes
      else state_of calls file).bytes)
      (same_number file)

  sync_state : Runs (settle_calls s) calls (Some after) true → state_of after file ≡ settled (files_of calls file)
  sync_state runs =
      ap (λ made. state_of made file) (all_done (settle_calls s) calls after runs)
      ∙ ap (λ (b : Bool). if b then settled (files_of calls file) else state_of calls file) (same_number file)

  pub sync_reads : Runs (settle_calls s) calls (Some after) true → files_of after file ≡ files_of calls file
  sync_reads runs = ap (λ (f : FileState). f.bytes) (sync_state runs)

  pub sync_settles : Runs (settle_calls s) calls (Some after) true → IsSettledAt after file
  sync_settles runs = sync_state runs ∙ ap settled (sym (sync_reads runs))

-- it stays so where a step has nothing written
pub walked_on : (start : Start) (member : Member) (before : Rows) (first : SystemSlot) (log new : List HostStep)
    (s : SlotsInUse) (calls : List Call) (stage : Stage)
    → saver.written start member new ≡ saver.written start member log
    → HasWalked start member before first stage log s calls → HasWalked start member before first stage new s calls
walked_on start member before first log new s calls Resting same has = tt
walked_on start member before first log new s calls (Walking walk to) same has =
    subst (λ pieces. StandsInFront (pieces_bytes (pieces_if walk.size pieces)) (files_of calls (free_file s)))
    (sym same)
    has
walked_on start member before first log new s calls (Walked finished end) same has = (
  subst (λ pieces. StandsInFront (pieces_bytes (pieces_if finished.size pieces)) (files_of calls (free_file s)))
      (sym same) has.0,
  has.1,
)

-- nor does it matter which slots are in use, as long as they leave the same file free
pub walked_at : (start : Start) (member : Member) (before : Rows) (first : SystemSlot) (log : List HostStep)
    (s t : SlotsInUse) (calls : List Call) (stage : Stage) → free_file t ≡ free_file s
    → HasWalked start member before first stage log s calls → HasWalked start member before first stage log t calls
walked_at start member before first log s t calls Resting same has = tt
walked_at start member before first log s t calls (Walking walk to) same has =
    subst
    (λ (file : ℕ). StandsInFront (pieces_bytes (pieces_if walk.size (saver.written start member log)))
    (files_of calls file)) (sym same) has
walked_at start member before first log s t calls (Walked finished end) same has = (
  subst
      (λ (file : ℕ). StandsInFront (pieces_bytes (pieces_if finished.size (saver.written start member log)))
      (files_of calls file)) (sym same) has.0,
  subst (IsSettledAt calls) (sym same) has.1,
)

module _ (start : Start) (member : Member) (before : Rows) (first : SystemSlot) (log : List HostStep) (s : SlotsInUse)
    (calls after : List Call) where
  -- what was written stays where the file is as it was
  pub written_still : (size : ℕ) → files_of after (free_file s) ≡ files_of calls (free_file s)
      → HasWritten start member before first size log s calls → HasWritten start member before first size log s after
  written_still size same is =
      subst (StandsInFront (pieces_bytes (pieces_if size (saver.written start member log)))) (sym same) is

  pub walked_still : (stage : Stage) → state_of after (free_file s) ≡ state_of calls (free_file s)
      → HasWalked start member before first stage log s calls → HasWalked start member before first stage log s after
  walked_still Resting same has = tt
  walked_still (Walking walk to) same has =
      written_still walk.size (ap (λ (f : FileState). f.bytes) same) has
  walked_still (Walked finished end) same has = (
    written_still finished.size (ap (λ (f : FileState). f.bytes) same) has.0,
    subst (λ (f : FileState). f ≡ settled f.bytes) (sym same) has.1,
  )

  -- what was written of a walk, with a piece that the walk gives behind the others
  module _ (rows : RowsState) (walk : WalkState) (old : List Piece)
      (all : saver.written start member log ≡ saver.written_by (todo.Write (next_piece rows walk)) old) where
    abbrev front : List ℕ
    front = pieces_bytes (pieces_if walk.size old)

    abbrev more : List ℕ
    more = next_bytes rows walk

    all_bytes : pieces_bytes (pieces_if (stepped rows walk).size (saver.written start member log)) ≡ front ++ more
    all_bytes =
        ap (λ pieces. pieces_bytes (pieces_if (stepped rows walk).size pieces)) all ∙ piece_behind rows walk old

    -- it is written there
    pub piece_written : length front ≡ walk.size → Runs (walk_calls s (next_piece rows walk)) calls (Some after) true
        → StandsInFront front (files_of calls (free_file s))
        → HasWritten start member before first (stepped rows walk).size log s after
    piece_written size runs is =
        subst (λ bytes. StandsInFront bytes (files_of after (free_file s))) (sym all_bytes)
        (subst (StandsInFront (front ++ more))
        (ap (λ (at : ℕ). laid at more (files_of calls (free_file s))) size
        ∙ sym (write_done s calls after (next_piece rows walk) runs))
        (laid_behind front more (files_of calls (free_file s)) is))
