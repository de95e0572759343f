-- Bytes are those of records in one way alone.
use Rattle.std.proofs.Common.{◌≡◌, ◌<◌, ℕ, List, [], ◌∷◌, ◌++◌, length, sym, ap, ◌∙◌, refl, append_assoc, append-nil}
use Rattle.std.proofs.Common.{arith}
use Rattle.std.specs.Prelude.{Ok, Err}
use Rattle.std.specs.List.{flat_map}
use Rattle.std.proofs.lemmas.List.{append_cancel_left, length-append}
use Rattle.sig_core.specs.declared.redo.Redo.{Redo}
use Rattle.sig_core.specs.Table.{Rows}
use Rattle.redo_format.specs.declared.fault.FormatFault.TheVariants.{NotRecord}
use Rattle.sig_core.specs.Redo.{bytes_of}
use Rattle.redo_format.specs.Decoding.{decoded}
use Rattle.redo_format.proofs.RecordLaws.{decodes, differ}
use Rattle.sig_core.specs.declared.fault.ReadFault.TheVariants.{Damaged}
use Rattle.redo_log.specs.Replaying.{AreRecords, Replays, log_bytes}
use Rattle.redo_log.proofs.ReplayLemmas.{some_bytes}

-- the records, the oldest first, in front of others
pub oldest : List Redo → List Redo → List Redo
oldest [] later = later
oldest (redo ∷ older) later = oldest older (redo ∷ later)

pub bytes_oldest : (newest later : List Redo)
    → log_bytes newest ++ flat_map bytes_of later ≡ flat_map bytes_of (oldest newest later)
unfolding oldest
bytes_oldest [] later = refl
bytes_oldest (redo ∷ older) later =
    append_assoc (log_bytes older) (bytes_of redo) (flat_map bytes_of later) ∙ bytes_oldest older (redo ∷ later)

pub are_oldest : (newest later : List Redo) → AreRecords newest → AreRecords later → AreRecords (oldest newest later)
unfolding oldest
are_oldest [] later are more = more
are_oldest (redo ∷ older) later are more = are_oldest older (redo ∷ later) are.1 (are.0, more)

apart : (one other : List Redo) (rest : List ℕ) (at : ℕ) → AreRecords one → AreRecords other → 0 < length rest
    → decoded rest ≡ Err (NotRecord at) → flat_map bytes_of other ≡ flat_map bytes_of one ++ rest → ⊥
apart [] [] rest at a b some none e = omega (arith, some, ap length e)
apart [] (redo ∷ other) rest at a b some none e =
    let read : decoded rest ≡ Ok (redo, length (bytes_of redo)) =
    ap decoded (sym e) ∙ decodes redo (flat_map bytes_of other) b.0 in cc
apart (redo ∷ one) [] rest at a b some none e =
    omega (
      arith,
      ap length e,
      length-append (bytes_of redo ++ flat_map bytes_of one) rest,
      length-append (bytes_of redo) (flat_map bytes_of one),
      some_bytes redo,
    )
apart (redo ∷ one) (first ∷ other) rest at a b some none e =
    let same : bytes_of first ++ flat_map bytes_of other ≡ bytes_of redo ++ (flat_map bytes_of one ++ rest) =
    e ∙ append_assoc (bytes_of redo) (flat_map bytes_of one) rest in
    let is : first ≡ redo = differ first redo (flat_map bytes_of other) (flat_map bytes_of one ++ rest) b.0 a.0 same in
    let further : flat_map bytes_of other ≡ flat_map bytes_of one ++ rest =
    append_cancel_left (bytes_of redo) (flat_map bytes_of other) (flat_map bytes_of one ++ rest)
    (ap (λ (w : Redo). bytes_of w ++ flat_map bytes_of other) (sym is) ∙ same) in
    apart one other rest at a.1 b.1 some none further

pub undamaged : (epoch parity from : ℕ) (before rows : Rows) (bytes : List ℕ) (newest : List Redo) (file at byte : ℕ)
    → AreRecords newest → bytes ≡ log_bytes newest
    → Replays epoch before parity from bytes rows (Err (Damaged file at byte)) → ⊥
undamaged epoch parity from before rows bytes newest file at byte are is (one, (rest, (place, (done, damaged)))) =
    apart (oldest one []) (oldest newest []) rest place (are_oldest one [] done.are tt) (are_oldest newest [] are tt)
    damaged.some damaged.none
    (sym (bytes_oldest newest []) ∙ append-nil (log_bytes newest) ∙ sym is ∙ done.split
    ∙ ap (λ (w : List ℕ). w ++ rest) (sym (append-nil (log_bytes one)) ∙ bytes_oldest one []))

-- turned twice, records stand as they stood
turned : (newest later : List Redo) → oldest (oldest newest later) [] ≡ oldest later newest
unfolding oldest
turned [] later = refl
turned (redo ∷ older) later = turned older (redo ∷ later)

-- bytes are those of one list of records alone, the oldest first
one_list : (one other : List Redo) → AreRecords one → AreRecords other → flat_map bytes_of one ≡ flat_map bytes_of other
    → one ≡ other
one_list [] [] a b e = refl
one_list [] (redo ∷ other) a b e =
    absurd (omega (arith, ap length e, length-append (bytes_of redo) (flat_map bytes_of other), some_bytes redo))
one_list (redo ∷ one) [] a b e =
    absurd (omega (arith, ap length e, length-append (bytes_of redo) (flat_map bytes_of one), some_bytes redo))
one_list (redo ∷ one) (first ∷ other) a b e =
    let same : redo ≡ first = differ redo first (flat_map bytes_of one) (flat_map bytes_of other) a.0 b.0 e in
    let further : flat_map bytes_of one ≡ flat_map bytes_of other =
    append_cancel_left (bytes_of redo) (flat_map bytes_of one) (flat_map bytes_of other)
    (e ∙ ap (λ (w : Redo). bytes_of w ++ flat_map bytes_of other) (sym same)) in
    ap (λ (w : Redo). w ∷ one) same ∙ ap (λ (w : List Redo). first ∷ w) (one_list one other a.1 b.1 further)

-- and the newest first
pub one_newest : (one other : List Redo) → AreRecords one → AreRecords other → log_bytes one ≡ log_bytes other
    → one ≡ other
unfolding oldest
one_newest one other a b e =
    let bytes : flat_map bytes_of (oldest one []) ≡ flat_map bytes_of (oldest other []) =
    sym (bytes_oldest one []) ∙ ap (λ (w : List ℕ). w ++ []) e ∙ bytes_oldest other [] in
    let same : oldest one [] ≡ oldest other [] =
    one_list (oldest one []) (oldest other []) (are_oldest one [] a tt) (are_oldest other [] b tt) bytes in
    sym (turned one []) ∙ ap (λ (w : List Redo). oldest w []) same ∙ turned other []
