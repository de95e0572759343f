use Rattle.std.proofs.Common.{rules, ◌∙◌, ap, refl, sym}
use Rattle.frag_map.specs.Layout.{holds}
use Rattle.redo_log.proofs.ReplayLemmas.{front_fewer}
use Rattle.sys_restart.specs.Held.{holds_record}
use Rattle.sys_restart.proofs.LogHeld.{all_looked_at, all_passed, begins, goes_on, stops}
use Rattle.sys_restart.proofs.held.are_records_held.Goals as goal

pub records-init : goal.records-init
records-init c = begins (holds_record c.args.shape.now c.args.node) c.args.bytes.now

-- one isn't held
pub returns-then-not-holds : goal.returns-then-not-holds
returns-then-not-holds c =
    sym
    (stops (holds_record c.args.shape.now c.args.node) c.args.bytes.now c.records.rest.now c.records.invariant
    (c.in-Ok.redo, c.in-Ok.taken) c.in-Ok.ensures.found (sym c.in-Ok.ensures.exact) _ refl
    (ap (holds c.args.shape.now c.args.node) (sym c.key_of.ensures) ∙ sym c.holds.ensures ∙ c.if-not-holds.true))

pub records-smaller : goal.records-smaller
records-smaller c =
    front_fewer c.records.rest.now (c.in-Ok.redo, c.in-Ok.taken) c.in-Ok.ensures.found _ refl

-- one more is held
pub records-preserved : goal.records-preserved
records-preserved c =
    goes_on (holds_record c.args.shape.now c.args.node) c.args.bytes.now c.records.rest.now c.records.invariant
    (c.in-Ok.redo, c.in-Ok.taken) c.in-Ok.ensures.found (sym c.in-Ok.ensures.exact) _ refl
    (ap (holds c.args.shape.now c.args.node) (sym c.key_of.ensures) ∙ sym c.holds.ensures ∙ c.if-not-holds.false)

-- no record follows
pub returns-in-Err : goal.returns-in-Err
returns-in-Err c =
    sym
    (all_passed (holds_record c.args.shape.now c.args.node) c.args.bytes.now c.records.rest.now c.records.invariant
    c.in-Err.field-0 (sym c.in-Err.ensures.exact))

-- nothing follows
pub returns : goal.returns
returns c =
    sym
    (all_looked_at (holds_record c.args.shape.now c.args.node) c.args.bytes.now c.records.rest.now c.records.invariant
    (search rules))
