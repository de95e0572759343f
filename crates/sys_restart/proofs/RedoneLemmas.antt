-- Replaying a log gives what is defined of its bytes.
use Rattle.std.proofs.Common.{◌≡◌, ◌∙◌, ℕ, zero, suc, ◌+◌, ◌-◌, ◌≤◌, ◌<◌, Bool, false, nat_lt, List, [], ◌∷◌, ◌++◌, length, refl, ap, sym, subst, arith, append_assoc, append-nil, length-append, inl, inr, if◌then◌else◌}
use Rattle.std.specs.Prelude.{Result, Ok, Err, slice_index}
use Rattle.std.proofs.lemmas.Bool.{le-ltb, lt-ltb, true≢false}
use Rattle.std.proofs.lemmas.List.{drop_at}
use Rattle.sig_core.specs.declared.fault.ReadFault.{ReadFault}
use Rattle.sig_core.specs.declared.fault.ReadFault.TheVariants.{Damaged, DiskFault, NoMemory}
use Rattle.sig_core.specs.declared.redo.Redo.{Redo}
use Rattle.sig_core.specs.Redo.{bytes_of}
use Rattle.sig_core.specs.Ring.{file_of, place_of}
use Rattle.sig_core.specs.Table.{Rows}
use Rattle.redo_format.specs.declared.fault.FormatFault.{FormatFault}
use Rattle.redo_format.specs.declared.fault.FormatFault.TheVariants.{NotRecord}
use Rattle.redo_format.specs.Decoding.{decoded}
use Rattle.redo_format.specs.Reading.{record_at}
use Rattle.redo_format.specs.Records.{IsRecord}
use Rattle.redo_format.proofs.RecordLaws.{decodes}
use Rattle.redo_log.specs.Replaying.{AreRecords, IsDamaged, IsReplayed, damage, log_bytes, replayed}
use Rattle.redo_log.specs.Stored.{AreStored, IsStored, ReplaysStored}
use Rattle.redo_log.proofs.ReplayLemmas.{some_bytes}
use Rattle.sys_restart.specs.Answers.{is_outer}
use Rattle.sys_restart.specs.Files.{Files}
use Rattle.sys_restart.specs.Redone.{byte_if, decode_on, fault_in, log_of, records_in, redone, redone_by, redone_in}

-- behind the first byte
behind_first : (files : Files) (parity from count byte : ℕ) (bytes : List ℕ)
    → AreStored files parity from (suc count) (byte ∷ bytes) → AreStored files parity (from + 1) count bytes
behind_first files parity from count byte bytes stored = record {
  each = λ k below.
      let at : from + suc k ≡ from + 1 + k = omega arith in
      subst (λ (p : ℕ). IsStored files parity p (slice_index bytes k)) at
      (stored.each (suc k) (omega (arith, below)));
  most = omega (arith, stored.most);
  all = λ few.
      let at : from + suc (length bytes) ≡ from + 1 + length bytes = omega arith in
      subst (λ (p : ℕ). length (files (file_of parity p)) ≤ place_of p) at (stored.all (omega (arith, few)));
}

-- the bytes of a log that files have are those that are defined
pub log_is : (files : Files) (parity from count : ℕ) (bytes : List ℕ) → AreStored files parity from count bytes
    → log_of files parity from count ≡ bytes
unfolding log_of
log_is files parity from zero [] stored = refl
log_is files parity from zero (byte ∷ bytes) stored = absurd (omega (arith, stored.most))
log_is files parity from (suc count) [] stored =
    let here : from + 0 ≡ from = omega arith in
    let short : length (files (file_of parity from)) ≤ place_of from =
    subst (λ (p : ℕ). length (files (file_of parity p)) ≤ place_of p) here (stored.all (omega arith)) in
    ap (λ there. byte_if there (slice_index (files (file_of parity from)) (place_of from))
    (log_of files parity (from + 1) count))
    (le-ltb (place_of from) (length (files (file_of parity from))) short)
log_is files parity from (suc count) (byte ∷ bytes) stored =
    let here : from + 0 ≡ from = omega arith in
    let first : IsStored files parity from byte =
    subst (λ (p : ℕ). IsStored files parity p byte) here (stored.each 0 (omega arith)) in
    ap (λ there. byte_if there (slice_index (files (file_of parity from)) (place_of from))
    (log_of files parity (from + 1) count))
    (lt-ltb (place_of from) (length (files (file_of parity from))) first.there)
    ∙ ap (λ one. one ∷ log_of files parity (from + 1) count) (sym first.same)
    ∙ ap (λ rest. byte ∷ rest)
    (log_is files parity (from + 1) count bytes (behind_first files parity from count byte bytes stored))

-- one record
decode_one : (redo : Redo) (before : List Redo) (rest : List ℕ) (more : ℕ) → IsRecord redo
    → records_in (suc more) before (bytes_of redo ++ rest) ≡ records_in more (redo ∷ before) rest
unfolding records_in
decode_one redo before rest more is =
    ap (decode_on (records_in more) before (bytes_of redo ++ rest)) (decodes redo rest is)
    ∙ ap (records_in more (redo ∷ before)) (drop_at (bytes_of redo) rest (length (bytes_of redo)) refl)

-- many records
decode_all : (newest before : List Redo) (rest : List ℕ) (count more : ℕ) → AreRecords newest
    → count ≡ length newest + more
    → records_in count before (log_bytes newest ++ rest) ≡ records_in more (newest ++ before) rest
decode_all [] before rest count more are is =
    let same : count ≡ more = omega (arith, is) in ap (λ n. records_in n before rest) same
decode_all (redo ∷ older) before rest count more are is =
    ap (records_in count before) (append_assoc (log_bytes older) (bytes_of redo) rest)
    ∙ decode_all older before (bytes_of redo ++ rest) count (suc more) are.1 (omega (arith, is))
    ∙ decode_one redo (older ++ before) rest more are.0

-- there are no more records than bytes
few_records : (newest : List Redo) → length newest ≤ length (log_bytes newest)
few_records [] = omega arith
few_records (redo ∷ older) =
    omega (arith, few_records older, length-append (log_bytes older) (bytes_of redo), some_bytes redo)

-- where no record follows the reading ends
pub ends : (more : ℕ) (newest : List Redo) (rest : List ℕ) (fault : FormatFault) → decoded rest ≡ Err fault
    → records_in more newest rest ≡ record { newest = newest; rest = rest }
unfolding records_in
ends zero newest rest fault none = refl
ends (suc more) newest rest fault none = ap (decode_on (records_in more) newest rest) none

pub none_in_none : decoded [] ≡ Err (NotRecord 0)
unfolding record_at
none_in_none = refl

-- what bytes are read as, of which some records are in front
pub read_as : (epoch : ℕ) (before rows : Rows) (bytes : List ℕ) (newest : List Redo)
    (rest : List ℕ) (fault : FormatFault)
    → IsReplayed epoch before bytes rows newest rest → decoded rest ≡ Err fault
    → records_in (length bytes) [] bytes ≡ record { newest = newest; rest = rest }
read_as epoch before rows bytes newest rest fault is none =
    let size : length bytes ≡ length (log_bytes newest) + length rest =
    ap length is.split ∙ length-append (log_bytes newest) rest in
    let count : length bytes ≡ length newest + (length bytes - length newest) =
    omega (arith, size, few_records newest) in
    ap (records_in (length bytes) []) is.split
    ∙ decode_all newest [] rest (length bytes) (length bytes - length newest) is.are count
    ∙ ap (λ all. records_in (length bytes - length newest) all rest) (append-nil newest)
    ∙ ends (length bytes - length newest) newest rest fault none

-- all bytes are there, and are records
whole_by : (epoch : ℕ) (before rows : Rows) (parity from count : ℕ) (bytes : List ℕ) (newest : List Redo)
    → IsReplayed epoch before bytes rows newest [] → length bytes ≡ count
    → redone_in epoch before parity from count bytes ≡ Ok rows
whole_by epoch before rows parity from count bytes newest is whole =
    ap (redone_by epoch before parity from count bytes)
    (read_as epoch before rows bytes newest [] (NotRecord 0) is none_in_none)
    ∙ ap (λ (cut : Bool). if cut then Err (damage parity from bytes (length bytes)) else Ok
    (replayed epoch before newest))
    (le-ltb (length bytes) count (omega (arith, whole)))
    ∙ ap Ok (sym is.made)

-- some bytes are there, which are records
short_by : (epoch : ℕ) (before rows : Rows) (parity from count : ℕ) (bytes : List ℕ) (newest : List Redo)
    → IsReplayed epoch before bytes rows newest [] → length bytes < count
    → redone_in epoch before parity from count bytes ≡ Err (damage parity from bytes (length bytes))
short_by epoch before rows parity from count bytes newest is short =
    ap (redone_by epoch before parity from count bytes)
    (read_as epoch before rows bytes newest [] (NotRecord 0) is none_in_none)
    ∙ ap (λ (cut : Bool). if cut then Err (damage parity from bytes (length bytes)) else Ok
    (replayed epoch before newest))
    (lt-ltb (length bytes) count short)

-- something that is no record stands behind some
damaged_by : (epoch : ℕ) (before rows : Rows) (parity from count : ℕ) (bytes : List ℕ) (newest : List Redo)
    (rest : List ℕ) (at : ℕ) (fault : ReadFault)
    → IsReplayed epoch before bytes rows newest rest → IsDamaged parity from bytes rest at fault
    → redone_in epoch before parity from count bytes ≡ Err fault
damaged_by epoch before rows parity from count bytes newest rest at fault is damaged =
    let behind = length bytes - length rest in
    ap (redone_by epoch before parity from count bytes)
    (read_as epoch before rows bytes newest rest (NotRecord at) is damaged.none)
    ∙ ap
    (λ (some : Bool). if some then Err (damage parity from bytes (behind + fault_in (decoded rest)))
    else if nat_lt (length bytes) count then Err (damage parity from bytes (length bytes))
    else Ok (replayed epoch before newest))
    (lt-ltb 0 (length rest) damaged.some)
    ∙ ap (λ found. Err (damage parity from bytes (behind + fault_in found))) damaged.none
    ∙ ap Err (sym damaged.named)

-- rows after a replay, and its answer, are what is defined
abbrev pub IsRedone : Result Rows ReadFault → Rows → Result (Unit {0}) ReadFault → Type 0
IsRedone found rows (Ok done) = found ≡ Ok rows
IsRedone found rows (Err fault) = is_outer fault ≡ false → found ≡ Err fault

pub redone_reads : (epoch : ℕ) (before : Rows) (files : Files) (parity from count : ℕ) (rows : Rows)
    (result : Result (Unit {0}) ReadFault) → ReplaysStored epoch before files parity from count rows result
    → IsRedone (redone epoch before files parity from count) rows result
unfolding redone
redone_reads epoch before files parity from count rows (Ok done) (bytes, (stored, whole, (newest, is))) =
    ap (redone_in epoch before parity from count) (log_is files parity from count bytes stored)
    ∙ whole_by epoch before rows parity from count bytes newest is whole
redone_reads epoch before files parity from count rows (Err NoMemory) is = λ inner. absurd (true≢false inner)
redone_reads epoch before files parity from count rows (Err (DiskFault faults)) is = λ inner. absurd (true≢false inner)
redone_reads epoch before files parity from count rows (Err (Damaged file at byte))
    (bytes, (stored, inl (newest, (rest, (place, (is, damaged)))))) =
    λ inner.
    ap (redone_in epoch before parity from count) (log_is files parity from count bytes stored)
    ∙ damaged_by epoch before rows parity from count bytes newest rest place (Damaged file at byte) is damaged
redone_reads epoch before files parity from count rows (Err (Damaged file at byte))
    (bytes, (stored, inr (short, named, (newest, is)))) =
    λ inner.
    ap (redone_in epoch before parity from count) (log_is files parity from count bytes stored)
    ∙ short_by epoch before rows parity from count bytes newest is short
    ∙ ap Err (sym named)
