-- The image that operations leave on a key which one of them wrote is the row after them, where their answers are
-- right.
use Rattle.std.proofs.Common.{◌≡◌, ◌∙◌, ℕ, true, List, [], ◌∷◌, refl, sym, ap}
use Rattle.std.proofs.lemmas.Bool.{true≢false}
use Rattle.std.specs.Prelude.{Option, None}
use Rattle.std.specs.List.{list_any}
use Rattle.sig_core.specs.declared.op.Answer.{Answer}
use Rattle.sig_core.specs.declared.op.Answer.TheVariants.{Done, Found, Missing, E626, E630}
use Rattle.sig_core.specs.declared.op.Op.{Op}
use Rattle.world_core.specs.History.{is_done}
use Rattle.key_laws.specs.OneKey.{AreRight, row_after, row_after_all, row_by}
use Rattle.commit_laws.specs.Going.{image_left}

-- one step: the row after an operation with its answer, and the image left
left_by : (op : Op) (answer : Answer) (row : Option (List ℕ)) (rest : List (Op × Answer))
    → image_left (row_by answer op row) rest ≡ image_left row ((op, answer) ∷ rest)
left_by op Done row rest = refl
left_by op (Found value) row rest = refl
left_by op Missing row rest = refl
left_by op E626 row rest = refl
left_by op E630 row rest = refl

row_left : (row : Option (List ℕ)) (ops : List (Op × Answer)) → AreRight row ops
    → row_after_all row ops ≡ image_left row ops
row_left row [] right = refl
row_left row (op ∷ rest) right =
    row_left (row_after op.0 row) rest right.1
    ∙ (ap (λ a. image_left (row_by a op.0 row) rest) (sym right.0) ∙ left_by op.0 op.1 row rest)

-- once an operation took effect it doesn't matter what was there
left_same : (one other : Option (List ℕ)) (ops : List (Op × Answer))
    → list_any (λ (op : Op × Answer). is_done op.1) ops ≡ true → image_left one ops ≡ image_left other ops
left_same one other [] is = absurd (true≢false (sym is))
left_same one other ((op, Done) ∷ rest) is = refl
left_same one other ((op, Found value) ∷ rest) is = left_same one other rest is
left_same one other ((op, Missing) ∷ rest) is = left_same one other rest is
left_same one other ((op, E626) ∷ rest) is = left_same one other rest is
left_same one other ((op, E630) ∷ rest) is = left_same one other rest is

pub image_is : (row : Option (List ℕ)) (ops : List (Op × Answer)) → AreRight row ops
    → list_any (λ (op : Op × Answer). is_done op.1) ops ≡ true → row_after_all row ops ≡ image_left None ops
image_is row ops right is = row_left row ops right ∙ left_same row None ops is
