use Rattle.std.proofs.Common.{rules, ◌≤◌, ◌<◌, ◌+◌, ◌∙◌, ℕ, List, length, subst, sym}
use Rattle.redo_log.specs.LogState.{outlet_in}
use Rattle.lqh_saver.proofs.RedoLemmas.{IsSeeking, fewer_behind, seeking_begins, seeking_ends, seeking_finds}
use Rattle.lqh_saver.proofs.RedoLemmas.{seeking_goes_on, seeking_stops}
use Rattle.lqh_saver.proofs.redo.oldest.Goals as goal

pub records-init : goal.records-init
records-init g c =
    seeking_begins (g.R.Rows.state_of c.args.rows.now) c.args.log.now.log c.flushed-at.result
    c.bytes_from-rest.result.now c.flushed-at.ensures c.bytes_from-rest.ensures

pub records-smaller : goal.records-smaller
records-smaller g c =
    let some : 0 < length c.records.rest.now = search rules in
    subst (λ (w : List ℕ). length w < length c.records.rest.now) (sym c.split_at.ensures.back)
    (fewer_behind c.records.rest.now (c.in-Ok.redo, c.in-Ok.len) some c.in-Ok.ensures.found)

-- one more record was finished
pub records-preserved : goal.records-preserved
records-preserved g c =
    let some : 0 < length c.records.rest.now = search rules in
    subst (λ (w : List ℕ). IsSeeking (g.R.Rows.state_of c.args.rows.now) (outlet_in c.args.log.now.log)
    (c.records.at + c.in-Ok.len) w) (sym c.split_at.ensures.back)
    (seeking_goes_on (g.R.Rows.state_of c.args.rows.now) (outlet_in c.args.log.now.log) c.records.at
    c.records.rest.now
    c.records.invariant (c.in-Ok.redo, c.in-Ok.len) some (sym c.in-Ok.ensures.exact) c.in-Ok.ensures.found
    (sym c.is_unfinished.ensures ∙ c.if-is_unfinished.false))

-- one isn't
pub returns-then-is_unfinished-clause-value : goal.returns-then-is_unfinished-clause-value
returns-then-is_unfinished-clause-value g c =
    let some : 0 < length c.records.rest.now = search rules in
    seeking_finds (g.R.Rows.state_of c.args.rows.now) (outlet_in c.args.log.now.log) c.records.at c.records.rest.now
    c.records.invariant (c.in-Ok.redo, c.in-Ok.len) some (sym c.in-Ok.ensures.exact) c.in-Ok.ensures.found
    (sym c.is_unfinished.ensures ∙ c.if-is_unfinished.true)

-- no record begins what is left
pub returns-in-Err-clause-value : goal.returns-in-Err-clause-value
returns-in-Err-clause-value g c =
    seeking_stops (g.R.Rows.state_of c.args.rows.now) (outlet_in c.args.log.now.log) c.records.at c.records.rest.now
    c.records.invariant c.in-Err.field-0 (sym c.in-Err.ensures.exact)

-- nothing is left
pub returns-clause-value : goal.returns-clause-value
returns-clause-value g c =
    let none : length c.records.rest.now ≤ 0 = search rules in
    seeking_ends (g.R.Rows.state_of c.args.rows.now) (outlet_in c.args.log.now.log) c.records.at c.records.rest.now
    c.records.invariant none
