use Rattle.std.proofs.Common.{◌≡◌, ◌∙◌, ◌+◌, ◌-◌, ℕ, ap, sym, arith}
use Rattle.sys_restart.specs.Groups.{first_listed}
use Rattle.sys_restart.proofs.GroupsLemmas.{listed_behind, listed_ends, listed_here, none_left, one_less}
use Rattle.sys_restart.proofs.groups.first_listed.Goals as goal

-- a node is listed
pub returns-then-is_listed-clause-value : goal.returns-then-is_listed-clause-value
returns-then-is_listed-clause-value c =
    let done = c.loop-more.more in
    let all = c.args.count in
    sym (listed_here c.args.mask c.args.first (c.args.first + done) (all - done) (all - (done + 1))
    (one_less all done c.loop-more-test.true) (sym c.is_listed.ensures ∙ c.if-is_listed.true))
    ∙ c.loop-more.invariant

-- it isn't
pub loop-more-preserved : goal.loop-more-preserved
loop-more-preserved c =
    let done = c.loop-more.more in
    let all = c.args.count in
    let next : c.args.first + (done + 1) ≡ c.args.first + done + 1 = omega arith in
    ap (λ (n : ℕ). first_listed c.args.mask c.args.first n (all - (done + 1))) next
    ∙ listed_behind c.args.mask c.args.first (c.args.first + done) (all - done) (all - (done + 1))
    (one_less all done c.loop-more-test.true) (sym c.is_listed.ensures ∙ c.if-is_listed.false)
    ∙ c.loop-more.invariant

-- none is
pub returns-clause-value : goal.returns-clause-value
returns-clause-value c =
    let done = c.loop-more.more in
    let all = c.args.count in
    sym (listed_ends c.args.mask c.args.first (c.args.first + done) (all - done)
    (none_left all done c.loop-more-test.false))
    ∙ c.loop-more.invariant
