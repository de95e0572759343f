use Rattle.std.proofs.Common.{◌∙◌, ℕ, Bool, Bor, List, get_or, take, ap, sym}
use Rattle.std.specs.List.{list_all}
use Rattle.std.specs.Map.Iter.{deref_pair}
use Rattle.std.proofs.lemmas.Bool.{and_from}
use Rattle.std.proofs.lemmas.List.{take_all}
use Rattle.std.proofs.lemmas.List.Folds.{list_all-map, list_all_at, list_all_more}
use Rattle.sys_restart.specs.Held.{is_held}
use Rattle.sys_restart.proofs.held.all_held.Goals as goal

pub loop-key-preserved : goal.loop-key-preserved
loop-key-preserved c =
    let rows = c.args.rows.now in
    let at = c.loop-key.key-index in
    let item = c.loop-key-item.result in
    let test : Bor (List ℕ) × Bor (List ℕ) → Bool = λ row. is_held c.args.shape.now c.args.node (deref_pair row) in
    list_all_more test rows at item c.loop-key-test.true
    ∙ and_from (list_all test (take at rows)) (test (get_or rows at item)) c.loop-key.invariant
    (ap test (sym c.loop-key-item.is) ∙ sym c.holds.ensures ∙ c.if-not-holds.false)

-- one isn't held
pub returns-then-not-holds : goal.returns-then-not-holds
returns-then-not-holds c =
    let rows = c.args.rows.now in
    let at = c.loop-key.key-index in
    let item = c.loop-key-item.result in
    let test : Bor (List ℕ) × Bor (List ℕ) → Bool = λ row. is_held c.args.shape.now c.args.node (deref_pair row) in
    sym (list_all-map (is_held c.args.shape.now c.args.node) deref_pair rows
    ∙ list_all_at test rows at item c.loop-key-test.true
    (ap test (sym c.loop-key-item.is) ∙ sym c.holds.ensures ∙ c.if-not-holds.true))

-- all are
pub returns : goal.returns
returns c =
    let rows = c.args.rows.now in
    let at = c.loop-key.key-index in
    let test : Bor (List ℕ) × Bor (List ℕ) → Bool = λ row. is_held c.args.shape.now c.args.node (deref_pair row) in
    sym (list_all-map (is_held c.args.shape.now c.args.node) deref_pair rows
    ∙ ap (list_all test) (sym (take_all at rows c.loop-key-test.false))
    ∙ c.loop-key.invariant)
