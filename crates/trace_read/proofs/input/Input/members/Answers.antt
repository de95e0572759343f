use Rattle.std.proofs.Common.{◌≡◌, ◌+◌, ◌∷◌, [], ◌++◌, length, ap, ◌∙◌, arith}
use Rattle.std.proofs.lemmas.List.{length-append}
use Rattle.std.proofs.lemmas.Result.{err_from_is_err_and}
use Rattle.trace_bytes.specs.Words.{member_at, members_at}
use Rattle.trace_read.proofs.ListLoops.{all_read, left_unread, one_read, short_list_begins}
use Rattle.trace_read.proofs.input.Input.members.Goals as goal

pub members-init : goal.members-init
unfolding members_at
members-init c = (
  rw c.new-members.ensures
      (short_list_begins 8 member_at c.args.self.now c.few.new.self c.in_ok-count.count c.in_ok-count.ensures.read),
  ap length c.new-members.ensures,
)

pub push-requires : goal.push-requires
push-requires c = omega (arith, c.members.invariant.1, c.members-test.true, c.in_ok-count.ensures.most)

pub members-preserved : goal.members-preserved
members-preserved c = (
  one_read member_at c.members.members _ c.in_ok-count.count c.members.counter c.members.self _ c.in_ok-member.member _
      c.members.invariant.0 c.members-test.true c.in_ok-member.ensures c.push.ensures,
  ap length c.push.ensures ∙ simp length-append (omega (arith, c.members.invariant.1)),
)

pub returns-in_err-member : goal.returns-in_err-member
returns-in_err-member c =
    let p = err_from_is_err_and c.from_residual-in_err-member.result c.from_residual-in_err-member.ensures.1 in
    rw (p.1, p.2)
    (left_unread member_at c.members.members c.in_ok-count.count c.members.counter c.members.self _ _
    c.members.invariant.0 c.members-test.true c.in_err-member.ensures)

pub returns : goal.returns
returns c =
    all_read member_at c.members.members c.in_ok-count.count c.members.counter c.members.self _ c.members.invariant.0
    c.members-test.false
