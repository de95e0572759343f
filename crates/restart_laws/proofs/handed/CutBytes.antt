-- The files of a record have bytes.
use Rattle.std.proofs.Common.{◌≡◌, ◌≤◌, ◌<◌, ◌==◌, ◌∙◌, ℕ, Bool, List, [], ◌∷◌, refl, ap, sym, subst, arith, inl, inr}
use Rattle.std.proofs.Common.{length, if◌then◌else◌}
use Rattle.std.proofs.lemmas.Bool.{cases_lt, ne_eqb}
use Rattle.std.proofs.lemmas.List.{get_or_past}
use Rattle.std.proofs.lemmas.List.Elements.{All-nil}
use Rattle.host_io.specs.declared.limits.TheConstants.{FILES}
use Rattle.host_io.specs.Call.{Call, Wrote, Tore, Synced, Lost}
use Rattle.host_io.specs.DiskState.{FileState, settled, state_of, written}
use Rattle.host_io.specs.Image.{AreBytes, IsRecord}
use Rattle.host_io.proofs.StateLemmas.{sound_of}
use Rattle.redo_log.specs.Stored.{files_of}

module _ (file : ℕ) (past : FILES ≤ file) where
  other : (to : ℕ) (changed old : FileState) → to < FILES → (if to == file then changed else old).bytes ≡ old.bytes
  other to changed old below =
      ap (λ (b : Bool). (if b then changed else old).bytes)
      (ne_eqb to file (λ same. absurd (omega (arith, same, below, past))))

  -- there is nothing in files that a disk doesn't have
  none_past : (calls : List Call) → IsRecord calls → files_of calls file ≡ []
  none_past [] kept = refl
  none_past (Wrote to at bytes ∷ calls) kept =
      other to (written (state_of calls file) at (length bytes) bytes) (state_of calls file) kept.0.0.0
      ∙ none_past calls kept.1
  none_past (Tore to at asked piece ∷ calls) kept =
      other to (written (state_of calls file) at (length asked) piece) (state_of calls file) kept.0.0.0
      ∙ none_past calls kept.1
  none_past (Synced to ∷ calls) kept =
      other to (settled (files_of calls file)) (state_of calls file) kept.0 ∙ none_past calls kept.1
  none_past (Lost files ∷ calls) kept = get_or_past files file [] (omega (arith, past, kept.0.0))

pub files_have_bytes : (calls : List Call) (file : ℕ) → IsRecord calls → AreBytes (files_of calls file)
files_have_bytes calls file kept =
    elim (cases_lt file FILES) [
      | inl here ↦ (sound_of calls file kept here).are_bytes
      | inr past ↦
          subst AreBytes (sym (none_past file past calls kept)) (All-nil (λ (byte : ℕ). byte < 256))
    ]
