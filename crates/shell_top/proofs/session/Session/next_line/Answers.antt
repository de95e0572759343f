use Rattle.shell_top.proofs.SessionLemmas.{read_on, past_end, not_past_end, line_past, part_too_long, part_unread}
use Rattle.shell_top.proofs.SessionLemmas.{ends_unremembered}
use Rattle.shell_top.proofs.session.Session.next_line.Goals as goal

pub returns-then-is_past_end-clause-done : goal.returns-then-is_past_end-clause-done
returns-then-is_past_end-clause-done g c left written given u =
    let past = past_end c.args.self.now.line c.fill-filled.new.self c.is_past_end.result c.is_past_end.ensures
    c.if-is_past_end.true in
    line_past c.args.self.now.lives.shape c.requires.kept.shape left written given _ _ _ c.args.self.now.line
    c.fill-filled.new.self _ _
    (read_on c.args.self.now.lives.shape c.requires.kept.shape left written given _ _ _ _ c.args.self.now.line _ _ _ _ u
    c.fill-filled.ensures.reads
    (c.fill-filled.ensures.most u.held_short)) past.0 past.1

pub returns-in-Line-clause-done : goal.returns-in-Line-clause-done
returns-in-Line-clause-done g c left written given u =
    c.whole_line.ensures.done _ left written given
    (read_on c.args.self.now.lives.shape c.requires.kept.shape left written given _ _ _ _ c.args.self.now.line _ _ _ _ u
    c.fill-filled.ensures.reads
    (c.fill-filled.ensures.most u.held_short))

pub returns-in-Ended-clause-done : goal.returns-in-Ended-clause-done
returns-in-Ended-clause-done g c left written given u =
    c.last_line.ensures.done _ c.in-Ended.ensures.filled.1 left written given
    (read_on c.args.self.now.lives.shape c.requires.kept.shape left written given _ _ _ _ c.args.self.now.line _ _ _ _ u
    c.fill-filled.ensures.reads
    (c.fill-filled.ensures.most u.held_short))

pub returns-in-Overlong-clause-done : goal.returns-in-Overlong-clause-done
returns-in-Overlong-clause-done g c left written given u =
    part_too_long c.args.self.now.lives.shape c.requires.kept.shape left written given _ _ _ c.args.self.now.line
    c.fill-filled.new.self _ _
    (read_on c.args.self.now.lives.shape c.requires.kept.shape left written given _ _ _ _ c.args.self.now.line _ _ _ _ u
    c.fill-filled.ensures.reads
    (c.fill-filled.ensures.most u.held_short))
    c.in-Overlong.ensures.filled.0 c.in-Overlong.ensures.filled.1

pub returns-in-Failed-clause-done : goal.returns-in-Failed-clause-done
returns-in-Failed-clause-done g c left written given u =
    part_unread c.args.self.now.lives.shape c.requires.kept.shape left written given _ _ _ c.args.self.now.line
    c.fill-filled.new.self _ _
    (read_on c.args.self.now.lives.shape c.requires.kept.shape left written given _ _ _ _ c.args.self.now.line _ _ _ _ u
    c.fill-filled.ensures.reads
    (c.fill-filled.ensures.most u.held_short))
    c.in-Failed.ensures.filled
    (not_past_end c.args.self.now.line c.fill-filled.new.self c.is_past_end.result c.is_past_end.ensures
    c.if-is_past_end.false)

pub returns-in-NoMemory-clause-done : goal.returns-in-NoMemory-clause-done
returns-in-NoMemory-clause-done g c left written given u =
    ends_unremembered c.args.self.now.lives.shape c.requires.kept.shape left written given _ _ _ c.args.self.now.line
    c.fill-filled.new.self _ _
    (read_on c.args.self.now.lives.shape c.requires.kept.shape left written given _ _ _ _ c.args.self.now.line _ _ _ _ u
    c.fill-filled.ensures.reads
    (c.fill-filled.ensures.most u.held_short))
