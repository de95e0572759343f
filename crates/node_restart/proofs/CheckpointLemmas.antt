-- A checkpoint that is read where its rows may be of no later epoch than one is read as the same rows under a later
-- one.
use Rattle.std.proofs.Common.{◌≡◌, ◌∙◌, ◌≤◌, ℕ, zero, suc, nat_lt, Bool, true, false, List, [], ◌∷◌, length, take, drop}
use Rattle.std.proofs.Common.{refl, ap, arith}
use Rattle.std.specs.Prelude.{Option, Some, Result, Ok, Err, if◌then◌else◌}
use Rattle.std.specs.FinMap as map
use Rattle.std.specs.Int.{w64, from_be_bytes}
use Rattle.std.proofs.lemmas.Bool.{le-ltb, ltb-false}
use Rattle.lcp_store.specs.Reading.{damage, epoch_in, or_damage, put_in, read_on, row_in, rows_behind, rows_from}
use Rattle.lcp_store.specs.Reading.{rows_in, version_in, with_epoch, with_key, word_in}
use Rattle.lcp_store.specs.declared.row.Version.{Version}
use Rattle.lcp_store.specs.declared.row.Version.TheVariants.{First, Second}
use Rattle.sig_core.specs.Table.{Rows}
use Rattle.sig_core.specs.declared.fault.ReadFault.{ReadFault}
use Rattle.sig_core.specs.declared.key.TheConstants.{KEY_BYTES}
use Rattle.sig_core.specs.declared.stored_row.StoredRow.{StoredRow}
use Rattle.sys_restart.specs.Checkpoint.{rows_of_file, unless_cut}
use Rattle.sys_restart.proofs.AlikeLemmas.{no_answer}

module _ (least later : ℕ) (up : least ≤ later) where
  epoch_later : (version : Version) (bytes : List ℕ) (found : Option ℕ × ℕ) → epoch_in version least bytes ≡ Ok found
      → epoch_in version later bytes ≡ Ok found
  unfolding epoch_in
  epoch_later First bytes found is = is
  epoch_later Second bytes found is = by (nat_lt (length bytes) 8) (nat_lt least epoch) refl is
    where
      epoch : ℕ
      epoch = from_be_bytes w64 (take 8 bytes)

      told : Bool → Bool → Result (Option ℕ × ℕ) ℕ
      told short above =
          if short then Err 0 else if above then Err (length bytes) else Ok (Some (from_be_bytes w64 (take 8 bytes)), 8)

      by : (short above : Bool) → nat_lt least epoch ≡ above → told short above ≡ Ok found
          → told short (nat_lt later epoch) ≡ Ok found
      by true above e so = so
      by false true e so = absurd (no_answer (length bytes) found _ refl so)
      by false false e so = ap (told false) (le-ltb later epoch (omega (arith, ltb-false least epoch e, up))) ∙ so

  row_later : (version : Version) (bytes : List ℕ) (found : StoredRow × ℕ) → row_in version least bytes ≡ Ok found
      → row_in version later bytes ≡ Ok found
  unfolding row_in
  row_later version bytes found is = by (word_in 1 KEY_BYTES bytes) is
    where
      behind : (key : List ℕ) (taken : ℕ) (rest : List ℕ) (epoch : Result (Option ℕ × ℕ) ℕ)
          → epoch_in version least rest ≡ epoch → with_epoch key taken rest epoch ≡ Ok found
          → with_epoch key taken rest (epoch_in version later rest) ≡ Ok found
      behind key taken rest (Err left) e so = absurd (no_answer left found _ refl so)
      behind key taken rest (Ok epoch) e so =
          ap (with_epoch key taken rest) (epoch_later version rest epoch e) ∙ so

      by : (key : Result (List ℕ × ℕ) ℕ) → with_key version least bytes key ≡ Ok found
          → with_key version later bytes key ≡ Ok found
      by (Err left) so = so
      by (Ok key) so =
          behind key.0 key.1 (drop key.1 bytes) (epoch_in version least (drop key.1 bytes)) refl so

  from_later : (more : ℕ) (version : Version) (before : Rows) (bytes : List ℕ) (rows : Rows)
      → rows_from more version least before bytes ≡ Ok rows → rows_from more version later before bytes ≡ Ok rows
  from_later zero version before bytes rows is = is
  from_later (suc more) version before [] rows is = is
  from_later (suc more) version before (byte ∷ bytes) rows is =
      by (λ found. from_later more version (put_in before found.0) (drop found.1 (byte ∷ bytes)) rows)
      (row_in version least (byte ∷ bytes)) refl is
    where
      by : ((found : StoredRow × ℕ)
          → rows_from more version least (put_in before found.0) (drop found.1 (byte ∷ bytes)) ≡ Ok rows
          → rows_from more version later (put_in before found.0) (drop found.1 (byte ∷ bytes)) ≡ Ok rows)
          → (read : Result (StoredRow × ℕ) ℕ) → row_in version least (byte ∷ bytes) ≡ read
          → read_on (rows_from more version least) before (byte ∷ bytes) read ≡ Ok rows
          → read_on (rows_from more version later) before (byte ∷ bytes) (row_in version later (byte ∷ bytes)) ≡ Ok rows
      by further (Err left) e so = absurd (no_answer left rows _ refl so)
      by further (Ok found) e so =
          ap (read_on (rows_from more version later) before (byte ∷ bytes)) (row_later version (byte ∷ bytes) found e)
          ∙ further found so

  behind_later : (bytes : List ℕ) (version : Result (Version × ℕ) ℕ) (rows : Rows)
      → rows_behind least bytes version ≡ Ok rows → rows_behind later bytes version ≡ Ok rows
  behind_later bytes (Err left) rows is = is
  behind_later bytes (Ok version) rows is =
      from_later (length bytes) version.0 map.empty (drop version.1 bytes) rows is

  rows_later : (file : ℕ) (bytes : List ℕ) (rows : Rows) → rows_in file least bytes ≡ Ok rows
      → rows_in file later bytes ≡ Ok rows
  unfolding rows_in
  rows_later file bytes rows is = by (rows_behind least bytes (version_in bytes)) refl is
    where
      by : (read : Result Rows ℕ) → rows_behind least bytes (version_in bytes) ≡ read
          → or_damage file bytes read ≡ Ok rows
          → or_damage file bytes (rows_behind later bytes (version_in bytes)) ≡ Ok rows
      by (Err left) e so = absurd (no_answer (damage file bytes left) rows _ refl so)
      by (Ok found) e so = ap (or_damage file bytes) (behind_later bytes (version_in bytes) found e) ∙ so

  pub file_later : (file size : ℕ) (bytes : List ℕ) (rows : Rows) → rows_of_file file size least bytes ≡ Ok rows
      → rows_of_file file size later bytes ≡ Ok rows
  file_later file size bytes rows is =
      by (rows_in file least (take size bytes)) (nat_lt (length (take size bytes)) size) refl is
    where
      by : (read : Result Rows ReadFault) (cut : Bool) → rows_in file least (take size bytes) ≡ read
          → unless_cut file (take size bytes) cut read ≡ Ok rows
          → unless_cut file (take size bytes) cut (rows_in file later (take size bytes)) ≡ Ok rows
      by (Err fault) cut e so = absurd (no_answer fault rows _ refl so)
      by (Ok found) cut e so =
          ap (unless_cut file (take size bytes) cut) (rows_later file (take size bytes) found e) ∙ so
