-- Where a list of entries first differs, by the walk along its entries and along the operations of one.
use Rattle.std.proofs.Common.{◌≡◌, ℕ, List, length, ap, sym, ◌∙◌, subst}
use Rattle.sig_core.specs.declared.op.Answer.{Answer}
use Rattle.sig_core.specs.declared.op.Op.{Op}
use Rattle.sig_core.specs.Table.{Rows}
use Rattle.serial_model.specs.Serial.{perform}
use Rattle.serial_model.specs.Legal.{AreAnswered, after_ops, IsLegal, fold, IsFirstWrong}
use Rattle.serial_model.specs.LegalLaws.{LegalListsHaveNoDifference, FirstDifferencesAreOne}
use Rattle.serial_model.proofs.Walks.{fine_there, first_is_one}

-- the rows after an operation
abbrev rows_after : Rows → Op × Answer → Rows
rows_after rows op = (perform op.0 rows).rows

-- the stored answer is the one that the operation gets
abbrev IsAnswered : Rows → Op × Answer → Type 0
IsAnswered rows op = op.1 ≡ (perform op.0 rows).answer

-- what is answered isn't wrong
not_wrong : (rows : Rows) (ops : List (Op × Answer)) (op : ℕ) (stored found : Answer) → AreAnswered rows ops
    → IsFirstWrong rows ops op stored found → ⊥
not_wrong rows ops op stored found answered wrong =
    wrong.differs (fine_there rows_after IsAnswered rows wrong.first (wrong.asked, stored) wrong.rest
    (subst (λ xs. AreAnswered rows xs) wrong.whole answered) ∙ sym wrong.gets)

-- the entry that a difference is in would be answered, and so not wrong
pub no_difference : LegalListsHaveNoDifference
no_difference rows entries entry op stored found legal is =
    not_wrong (fold rows is.before) is.at.ops op stored found
    (fine_there (λ r e. after_ops r e.ops) (λ r e. AreAnswered r e.ops) rows is.before is.at is.behind
    (subst (λ xs. IsLegal rows xs) is.whole legal))
    is.wrong

-- one operation at most is the first that is wrong
one_wrong : (rows : Rows) (ops : List (Op × Answer)) (op1 op2 : ℕ) (stored1 stored2 found1 found2 : Answer)
    → IsFirstWrong rows ops op1 stored1 found1 → IsFirstWrong rows ops op2 stored2 found2
    → (op1 ≡ op2) × (stored1 ≡ stored2) × (found1 ≡ found2)
one_wrong rows ops op1 op2 stored1 stored2 found1 found2 a b =
    let same : (a.first ≡ b.first) × ((a.asked, stored1) ≡ (b.asked, stored2)) =
    first_is_one rows_after IsAnswered rows a.first b.first (a.asked, stored1) (b.asked, stored2) a.rest b.rest
    (sym a.whole ∙ b.whole) a.answered b.answered
    (λ is. a.differs (is ∙ sym a.gets)) (λ is. b.differs (is ∙ sym b.gets)) in (
      sym a.place ∙ ap length same.0 ∙ b.place,
      ap (λ x. x.1) same.1,
      a.gets ∙ ap (λ xs. (perform a.asked (after_ops rows xs)).answer) same.0
          ∙ ap (λ x. (perform x.0 (after_ops rows b.first)).answer) same.1 ∙ sym b.gets,
    )

-- and so one entry at most, and one operation of it
pub one_difference : FirstDifferencesAreOne
one_difference rows entries entry1 entry2 op1 op2 stored1 stored2 found1 found2 a b =
    let same : (a.before ≡ b.before) × (a.at ≡ b.at) =
    first_is_one (λ r e. after_ops r e.ops) (λ r e. AreAnswered r e.ops) rows a.before b.before a.at b.at a.behind
    b.behind
    (sym a.whole ∙ b.whole) a.legal b.legal
    (λ is. not_wrong (fold rows a.before) a.at.ops op1 stored1 found1 is a.wrong)
    (λ is. not_wrong (fold rows b.before) b.at.ops op2 stored2 found2 is b.wrong) in
    let here : IsFirstWrong (fold rows b.before) b.at.ops op1 stored1 found1 =
    subst (λ xs. IsFirstWrong (fold rows xs) b.at.ops op1 stored1 found1) same.0
    (subst (λ e. IsFirstWrong (fold rows a.before) e.ops op1 stored1 found1) same.1 a.wrong) in
    let wrong : (op1 ≡ op2) × (stored1 ≡ stored2) × (found1 ≡ found2) =
    one_wrong (fold rows b.before) b.at.ops op1 op2 stored1 stored2 found1 found2 here b.wrong in
    (sym a.place ∙ ap length same.0 ∙ b.place, wrong.0, wrong.1, wrong.2)
