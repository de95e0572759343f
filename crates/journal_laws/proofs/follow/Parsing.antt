-- The bytes of records are read as these records, the oldest first.
use Rattle.std.proofs.Common.{◌≡◌, ◌≤◌, ◌∙◌, ◌++◌, ℕ, zero, suc, List, [], ◌∷◌, drop, length, refl, sym, ap, subst}
use Rattle.std.proofs.Common.{append-nil, append_assoc, arith}
use Rattle.std.proofs.lemmas.List.{drop_at, length-append}
use Rattle.std.specs.Prelude.{Result}
use Rattle.sig_core.specs.declared.redo.Redo.{Redo}
use Rattle.sig_core.specs.Redo.{bytes_of}
use Rattle.redo_format.specs.declared.fault.FormatFault.{FormatFault}
use Rattle.redo_format.specs.Reading.{record_at}
use Rattle.redo_format.specs.Records.{IsRecord}
use Rattle.redo_format.proofs.RecordLaws.{decodes}
use Rattle.redo_log.specs.Replaying.{AreRecords, log_bytes}
use Rattle.redo_log.proofs.ReplayLemmas.{some_bytes}
use Rattle.lqh_saver.specs.Redo.{records_by, records_of}

-- a record, and how many bytes it takes
abbrev pub sized : Redo → Redo × ℕ
sized r = (r, length (bytes_of r))

-- records, of which the newest comes first, in their order
abbrev pub in_turn : List Redo → List (Redo × ℕ)
in_turn [] = []
in_turn (r ∷ older) = in_turn older ++ sized r ∷ []

pub turn_append : (newer older : List Redo) → in_turn (newer ++ older) ≡ in_turn older ++ in_turn newer
turn_append [] older = sym (append-nil (in_turn older))
turn_append (r ∷ newer) older =
    ap (λ (w : List (Redo × ℕ)). w ++ sized r ∷ []) (turn_append newer older)
    ∙ append_assoc (in_turn older) (in_turn newer) (sized r ∷ [])

-- bytes are read as these records, however many are looked for that may be there
abbrev IsReadAs : List ℕ → List (Redo × ℕ) → Type 0
IsReadAs bytes records = (more : ℕ) → length bytes ≤ more → records_of more bytes ≡ records

nothing_read : IsReadAs [] []
unfolding records_of record_at
nothing_read zero few = refl
nothing_read (suc more) few = refl

-- one more record stands in front
in_front : (r : Redo) (rest : List ℕ) (records : List (Redo × ℕ)) → IsRecord r → IsReadAs rest records
    → IsReadAs (bytes_of r ++ rest) (sized r ∷ records)
unfolding records_of
in_front r rest records is read zero few =
    absurd (omega (arith, few, some_bytes r, length-append (bytes_of r) rest))
in_front r rest records is read (suc more) few =
    ap (λ (found : Result (Redo × ℕ) FormatFault). records_by found
    (λ len. records_of more (drop len (bytes_of r ++ rest)))) (decodes r rest is)
    ∙ ap (λ (left : List ℕ). sized r ∷ records_of more left) (drop_at (bytes_of r) rest (length (bytes_of r)) refl)
    ∙ ap (λ (w : List (Redo × ℕ)). sized r ∷ w)
    (read more (omega (arith, few, some_bytes r, length-append (bytes_of r) rest)))

read_behind : (log : List Redo) (rest : List ℕ) (records : List (Redo × ℕ)) → AreRecords log → IsReadAs rest records
    → IsReadAs (log_bytes log ++ rest) (in_turn log ++ records)
read_behind [] rest records are read = read
read_behind (r ∷ older) rest records are read =
    subst (λ (w : List (Redo × ℕ)). IsReadAs (log_bytes (r ∷ older) ++ rest) w)
    (sym (append_assoc (in_turn older) (sized r ∷ []) records))
    (subst (λ (w : List ℕ). IsReadAs w (in_turn older ++ sized r ∷ records))
    (sym (append_assoc (log_bytes older) (bytes_of r) rest))
    (read_behind older (bytes_of r ++ rest) (sized r ∷ records) are.1
    (in_front r rest records are.0 read)))

pub all_read : (log : List Redo) → AreRecords log
    → records_of (length (log_bytes log)) (log_bytes log) ≡ in_turn log
all_read log are =
    let read : IsReadAs (log_bytes log) (in_turn log) =
    subst (λ (w : List ℕ). IsReadAs w (in_turn log)) (append-nil (log_bytes log))
    (subst (λ (w : List (Redo × ℕ)). IsReadAs (log_bytes log ++ []) w) (append-nil (in_turn log))
    (read_behind log [] [] are nothing_read)) in
    read (length (log_bytes log)) (omega arith)
