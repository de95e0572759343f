-- Redo that was kept is kept at each moment at which more is written behind it.
use Rattle.std.proofs.Common.{◌≡◌, ◌⊎◌, ◌≤◌, ◌<◌, ℕ, zero, suc, ◌+◌, ◌==◌, Bool, List, [], ◌∷◌, length, map}
use Rattle.std.proofs.Common.{ap, sym, subst, inl, inr, if◌then◌else◌, ◌∙◌, arith}
use Rattle.std.specs.List.{flat_map}
use Rattle.std.specs.Prelude.{replicate, slice_index}
use Rattle.std.proofs.lemmas.Bool.{cases_lt}
use Rattle.std.proofs.lemmas.List.{length-append}
use Rattle.host_io.specs.Call.{Call, Lost, Synced, Tore, Wrote}
use Rattle.host_io.specs.DiskState.{FileState, state_of, written}
use Rattle.host_io.proofs.LaidLemmas.{laid_elsewhere}
use Rattle.host_io.proofs.StateLemmas.{laid_grows}
use Rattle.redo_log.specs.Laws.{AreLaidFrom, GiveOut, bytes_in}
use Rattle.redo_log.specs.StoredLaws.{IsSynced}
use Rattle.redo_log.proofs.LawLemmas.{placed}
use Rattle.sig_core.specs.declared.journal.TheConstants.{JOURNAL_BYTES}
use Rattle.sig_core.specs.declared.piece.Piece.{Piece}
use Rattle.sig_core.specs.Ring.{file_of, place_of}
use Rattle.sysfile_core.proofs.FileLemmas.{clean_written}
use Rattle.sysfile_core.proofs.RunLemmas.{HoldsThrough, done}
use Rattle.sys_restart.proofs.MomentLemmas.{through_then}
use Rattle.node_disk.specs.RedoLaws.{IsKept}
use Rattle.node_disk.specs.Saving.{file_end, log_with, piece_calls, pieces_with, redo_calls, sync_calls, write_of}
use Rattle.node_disk.proofs.RedoLemmas.{first_sync, no_syncs, none_synced, written_as}
use Rattle.node_disk.proofs.SyncedLemmas.{IsClear, clear_of, in_either, kept_synced, kept_written, pieces_are}

-- a byte stands at a place of a file, synced
abbrev StandsSynced : ℕ → ℕ → FileState → Type 0
StandsSynced place byte s = ((place < length s.bytes) × (byte ≡ slice_index s.bytes place)) × IsSynced s place

-- also after a failed write elsewhere
stands_torn : (place byte at asked : ℕ) (laid : List ℕ) (s : FileState) → length laid ≤ asked
    → (place < at) ⊎ (at + asked ≤ place) → StandsSynced place byte s
    → StandsSynced place byte (written s at asked laid)
stands_torn place byte at asked laid s few apart is = (
  (
    omega (arith, is.0.0, laid_grows at laid s.bytes),
    is.0.1 ∙ sym (laid_elsewhere at laid s.bytes place is.0.0 (clear apart)),
  ),
  record { below = is.1.below; clean = clean_written s at asked laid place is.0.0 apart is.1.clean },
)
  where
    clear : (place < at) ⊎ (at + asked ≤ place) → (place < at) ⊎ (at + length laid ≤ place)
    clear (inl before) = inl before
    clear (inr behind) = inr (omega (arith, few, behind))

-- a write of a piece failed that is clear of a position
kept_torn : (parity p byte : ℕ) (piece : Piece) (laid : List ℕ) (calls : List Call)
    → length laid ≤ length piece.bytes → IsClear parity p piece → IsKept calls parity p byte
    → IsKept (Tore piece.file piece.at piece.bytes laid ∷ calls) parity p byte
kept_torn parity p byte piece laid calls few clear is = record {
  stored = record { there = torn.0.0; same = torn.0.1 };
  synced = torn.1;
}
  where
    old : FileState
    old = state_of calls (file_of parity p)

    before : StandsSynced (place_of p) byte old
    before = ((is.stored.there, is.stored.same), is.synced)

    by : IsClear parity p piece
        → StandsSynced (place_of p) byte
        (if piece.file == file_of parity p then written old piece.at (length piece.bytes) laid else old)
    by (inl apart) =
        subst
        (λ (b : Bool). StandsSynced (place_of p) byte (if b then written old piece.at (length piece.bytes) laid else
        old))
        (sym apart) before
    by (inr apart) =
        in_either (StandsSynced (place_of p) byte) (piece.file == file_of parity p)
        (written old piece.at (length piece.bytes) laid) old
        (stands_torn (place_of p) byte piece.at (length piece.bytes) laid old few apart before) before

    torn : StandsSynced (place_of p) byte
        (state_of (Tore piece.file piece.at piece.bytes laid ∷ calls) (file_of parity p))
    torn = by clear

-- what holds through calls holds behind them
through_ends : (Holds : List Call → Type 0) (asks calls : List Call) → HoldsThrough Holds asks calls
    → Holds (done asks calls)
through_ends Holds [] calls holds = holds
through_ends Holds (Wrote file at bytes ∷ asks) calls holds =
    through_ends Holds asks (Wrote file at bytes ∷ calls) holds.1.1
through_ends Holds (Synced file ∷ asks) calls holds = through_ends Holds asks (Synced file ∷ calls) holds.1
through_ends Holds (Tore file at asked piece ∷ asks) calls holds = absurd holds
through_ends Holds (Lost files ∷ asks) calls holds = absurd holds

module _ (parity p byte : ℕ) where
  abbrev Keeps : List Call → Type 0
  Keeps moment = IsKept moment parity p byte

  through_pieces : (position : ℕ) (pieces : List Piece) (calls : List Call) → AreLaidFrom parity position pieces
      → p < position → position + length (flat_map bytes_in pieces) ≤ p + JOURNAL_BYTES → Keeps calls
      → HoldsThrough Keeps (map write_of pieces) calls
  through_pieces position [] calls lie before near is = is
  through_pieces position (piece ∷ pieces) calls lie before near is =
      let size = length-append piece.bytes (flat_map bytes_in pieces) in
      let clear = clear_of parity position p piece lie.0 before (omega (arith, size, near)) in (
        is,
        (
          λ laid few. kept_torn parity p byte piece laid calls few clear is,
          through_pieces (position + length piece.bytes) pieces (write_of piece ∷ calls) lie.1 (omega (arith, before))
              (omega (arith, size, near)) (kept_written parity p byte piece calls clear is),
        ),
      )

  through_syncs : (count at end : ℕ) (calls : List Call) → Keeps calls
      → HoldsThrough Keeps (sync_calls count parity at end) calls
  through_syncs zero at end calls is =
      subst (λ asks. HoldsThrough Keeps asks calls) (sym (none_synced parity at end)) is
  through_syncs (suc count) at end calls is =
      elim (cases_lt at end) [
        | inl some ↦
            subst (λ asks. HoldsThrough Keeps asks calls) (sym (first_sync count parity at end some)) (
              is,
              through_syncs count (file_end at end) end (Synced (file_of parity at) ∷ calls)
                  (kept_synced (file_of parity at) parity p byte calls is),
            )
        | inr all ↦
            subst (λ asks. HoldsThrough Keeps asks calls) (sym (no_syncs (suc count) parity at end all)) is
      ]

  pub through_redo : (from : ℕ) (bytes : List ℕ) (calls : List Call) → p < from
      → from + length bytes ≤ p + JOURNAL_BYTES → Keeps calls → HoldsThrough Keeps (redo_calls parity from bytes) calls
  through_redo from bytes calls before near is =
      through_then Keeps asks (sync_calls (length bytes) parity from (from + length bytes)) calls first
      (through_syncs (length bytes) from (from + length bytes) (done asks calls) (through_ends Keeps asks calls first))
    where
      asks : List Call
      asks = piece_calls (length bytes) parity from bytes

      pieces : List Piece
      pieces = pieces_with (length bytes) (log_with parity from bytes)

      size : length (flat_map bytes_in pieces) ≡ length bytes
      size = ap length (pieces_are parity from bytes)

      first : HoldsThrough Keeps asks calls
      first =
          subst (λ calls_of. HoldsThrough Keeps calls_of calls) (sym (written_as (length bytes) parity from bytes))
          (through_pieces from pieces calls (placed (replicate (length bytes) GiveOut) (log_with parity from bytes))
          before (omega (arith, size, near)) is)
