use Rattle.std.proofs.Common.{rules, ◌≤◌, ◌<◌, ◌∙◌, ℕ, List, drop, length, ap, subst, sym}
use Rattle.redo_log.specs.LogState.{bytes_from, outlet_in}
use Rattle.lqh_saver.proofs.RedoLemmas.{IsNoting, fewer_behind, noting_begins, noting_ends, noting_goes_on}
use Rattle.lqh_saver.proofs.RedoLemmas.{noting_stops}
use Rattle.lqh_saver.proofs.redo.noted.Goals as goal

pub records-init : goal.records-init
records-init c =
    noting_begins c.args.floor c.args.log.now.log c.bytes_from-rest.result.now
    (c.bytes_from-rest.ensures ∙ ap (bytes_from c.args.log.now.log) c.flushed.ensures)

pub records-smaller : goal.records-smaller
records-smaller c =
    let some : 0 < length c.records.rest.now = search rules in
    subst (λ (w : List ℕ). length w < length c.records.rest.now) (sym c.split_at.ensures.back)
    (fewer_behind c.records.rest.now (c.in-Ok.redo, c.in-Ok.len) some c.in-Ok.ensures.found)

-- one more record was noted
pub records-preserved : goal.records-preserved
records-preserved c =
    let some : 0 < length c.records.rest.now = search rules in
    subst (λ (w : List ℕ). IsNoting c.args.floor (outlet_in c.args.log.now.log) c.noting-epoch.result w)
    (sym c.split_at.ensures.back)
    (subst (λ (epoch : ℕ). IsNoting c.args.floor (outlet_in c.args.log.now.log) epoch
    (drop c.in-Ok.len c.records.rest.now)) (sym c.noting-epoch.ensures)
    (noting_goes_on c.args.floor (outlet_in c.args.log.now.log) c.records.epoch c.records.rest.now
    c.records.invariant (c.in-Ok.redo, c.in-Ok.len) some (sym c.in-Ok.ensures.exact) c.in-Ok.ensures.found))

-- no record begins what is left
pub returns-in-Err : goal.returns-in-Err
returns-in-Err c =
    noting_stops c.args.floor (outlet_in c.args.log.now.log) c.records.epoch c.records.rest.now c.records.invariant
    c.in-Err.field-0 (sym c.in-Err.ensures.exact)

-- nothing is left
pub returns : goal.returns
returns c =
    let none : length c.records.rest.now ≤ 0 = search rules in
    noting_ends c.args.floor (outlet_in c.args.log.now.log) c.records.epoch c.records.rest.now c.records.invariant
    none
