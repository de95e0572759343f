-- One start row, one operation and one entry more.
use Rattle.std.proofs.Common.{◌≡◌, ℕ, ◌+◌, ◌<◌, List, [], ◌∷◌, ◌++◌, length, get_or, take, drop, arith, refl, ap, sym}
use Rattle.std.proofs.Common.{◌∙◌, subst}
use Rattle.std.specs.FinMap as map
use Rattle.std.proofs.lemmas.List.{length-take-le}
use Rattle.sig_core.specs.declared.op.Answer.{Answer}
use Rattle.sig_core.specs.declared.op.Op.{Op}
use Rattle.sig_core.specs.declared.entry.Entry.{Entry}
use Rattle.sig_core.specs.Table.{Rows}
use Rattle.serial_model.specs.Serial.{perform}
use Rattle.serial_model.specs.Legal.{rows_over, AreAnswered, after_ops, IsLegal, fold, IsFirstWrong, IsFirstDifference}
use Rattle.serial_model.specs.Legal.{IsOpsFault, IsReplayFault, fault_at}
use Rattle.serial_model.specs.declared.legal.OpsFault.{OpsFault}
use Rattle.serial_model.specs.declared.legal.OpsFault.TheVariants.{Differs, NoMemory}
use Rattle.serial_model.proofs.Prefixes.{take_more, cut_at}

-- what goes along a list goes along its two parts, one after the other
rows_over-append : (rows : Rows) (xs ys : List (List ℕ × List ℕ))
    → rows_over rows (xs ++ ys) ≡ rows_over (rows_over rows xs) ys
rows_over-append rows [] ys = refl
rows_over-append rows (x ∷ xs) ys = rows_over-append (map.insert rows x.0 x.1) xs ys

-- one start row more
pub rows_more : (rows : Rows) (xs : List (List ℕ × List ℕ)) (i : ℕ) (x : List ℕ × List ℕ) → i < length xs
    → x ≡ get_or xs i x
    → rows_over rows (take (i + 1) xs) ≡ map.insert (rows_over rows (take i xs)) x.0 x.1
rows_more rows xs i x lt is = ap (rows_over rows) (take_more xs i x lt is) ∙ rows_over-append rows (take i xs) (x ∷ [])

after_ops-append : (rows : Rows) (xs ys : List (Op × Answer))
    → after_ops rows (xs ++ ys) ≡ after_ops (after_ops rows xs) ys
after_ops-append rows [] ys = refl
after_ops-append rows (x ∷ xs) ys = after_ops-append (perform x.0 rows).rows xs ys

AreAnswered-append : (rows : Rows) (xs ys : List (Op × Answer)) → AreAnswered rows xs
    → AreAnswered (after_ops rows xs) ys → AreAnswered rows (xs ++ ys)
AreAnswered-append rows [] ys a b = b
AreAnswered-append rows (x ∷ xs) ys a b = (a.0, AreAnswered-append (perform x.0 rows).rows xs ys a.1 b)

fold-append : (rows : Rows) (xs ys : List Entry) → fold rows (xs ++ ys) ≡ fold (fold rows xs) ys
fold-append rows [] ys = refl
fold-append rows (x ∷ xs) ys = fold-append (after_ops rows x.ops) xs ys

IsLegal-append : (rows : Rows) (xs ys : List Entry) → IsLegal rows xs → IsLegal (fold rows xs) ys
    → IsLegal rows (xs ++ ys)
IsLegal-append rows [] ys a b = b
IsLegal-append rows (x ∷ xs) ys a b = (a.0, IsLegal-append (after_ops rows x.ops) xs ys a.1 b)

-- the operations before this place get their answers, and these are the rows after them
pub record IsReplayed (rows now : Rows) (ops : List (Op × Answer)) : Type 0 where
  pub answered : AreAnswered rows ops
  pub rows_now : now ≡ after_ops rows ops

-- the entries before this place are legal, and these are the rows after them
pub record AreReplayed (rows now : Rows) (entries : List Entry) : Type 0 where
  pub legal : IsLegal rows entries
  pub rows_now : now ≡ fold rows entries

-- one operation more, that gets its answer
pub replayed_more : (rows now next : Rows) (ops : List (Op × Answer)) (i : ℕ) (x : Op × Answer) → i < length ops
    → x ≡ get_or ops i x
    → IsReplayed rows now (take i ops) → x.1 ≡ (perform x.0 now).answer → next ≡ (perform x.0 now).rows
    → IsReplayed rows next (take (i + 1) ops)
replayed_more rows now next ops i x lt is done same moved =
    subst (λ xs. IsReplayed rows next xs) (sym (take_more ops i x lt is))
    (record {
      answered = AreAnswered-append rows (take i ops) (x ∷ []) done.answered
          (same ∙ ap (λ r. (perform x.0 r).answer) done.rows_now, tt);
      rows_now =
          moved ∙ ap (λ r. (perform x.0 r).rows) done.rows_now ∙ sym (after_ops-append rows (take i ops) (x ∷ []));
    })

-- one operation more, that doesn't
pub first_wrong : (rows now : Rows) (ops : List (Op × Answer)) (i : ℕ) (x : Op × Answer) (found : Answer)
    → i < length ops → x ≡ get_or ops i x
    → IsReplayed rows now (take i ops) → found ≡ (perform x.0 now).answer → (x.1 ≡ found → ⊥)
    → IsFirstWrong rows ops i x.1 found
first_wrong rows now ops i x found lt is done gets differs = record {
  first = take i ops;
  asked = x.0;
  rest = drop (i + 1) ops;
  whole = cut_at ops i x lt is;
  place = length-take-le i ops (omega arith);
  answered = done.answered;
  gets = gets ∙ ap (λ r. (perform x.0 r).answer) done.rows_now;
  differs = differs;
}

-- one entry more, whose operations get their answers
pub entries_more : (rows now next : Rows) (entries : List Entry) (i : ℕ) (x : Entry) → i < length entries
    → x ≡ get_or entries i x
    → AreReplayed rows now (take i entries) → AreAnswered now x.ops → next ≡ after_ops now x.ops
    → AreReplayed rows next (take (i + 1) entries)
entries_more rows now next entries i x lt is done answered moved =
    subst (λ xs. AreReplayed rows next xs) (sym (take_more entries i x lt is))
    (record {
      legal = IsLegal-append rows (take i entries) (x ∷ []) done.legal
          (subst (λ r. AreAnswered r x.ops) done.rows_now answered, tt);
      rows_now = moved ∙ ap (λ r. after_ops r x.ops) done.rows_now ∙ sym (fold-append rows (take i entries) (x ∷ []));
    })

-- one entry more, with an operation that doesn't
pub first_difference : (rows now : Rows) (entries : List Entry) (i : ℕ) (x : Entry) (op : ℕ) (stored found : Answer)
    → i < length entries → x ≡ get_or entries i x
    → AreReplayed rows now (take i entries) → IsFirstWrong now x.ops op stored found
    → IsFirstDifference rows entries i op stored found
first_difference rows now entries i x op stored found lt is done wrong = record {
  before = take i entries;
  at = x;
  behind = drop (i + 1) entries;
  whole = cut_at entries i x lt is;
  place = length-take-le i entries (omega arith);
  legal = done.legal;
  wrong = subst (λ r. IsFirstWrong r x.ops op stored found) done.rows_now wrong;
}

-- the same, whatever kept its operations from being replayed
pub fault_here : (rows now : Rows) (entries : List Entry) (i : ℕ) (x : Entry) (fault : OpsFault) → i < length entries
    → x ≡ get_or entries i x
    → AreReplayed rows now (take i entries) → IsOpsFault now x.ops fault → IsReplayFault rows entries (fault_at i fault)
fault_here rows now entries i x (Differs op stored found) lt is done wrong =
    first_difference rows now entries i x op stored found lt is done wrong
fault_here rows now entries i x NoMemory lt is done wrong = tt
