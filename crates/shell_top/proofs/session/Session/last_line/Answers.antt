use Rattle.std.specs.Prelude.{None, Some}
use Rattle.shell_top.specs.declared.script.Parsed.TheVariants as parsed
use Rattle.shell_top.proofs.ScriptLemmas.{command_served, command_words, line_means}
use Rattle.shell_top.proofs.SessionLemmas.{none_held, some_held, last_none, last_nothing, last_command}
use Rattle.shell_top.proofs.SessionLemmas.{last_quit, last_fault}
use Rattle.shell_top.proofs.session.Session.last_line.Goals as goal

pub returns-then-is_empty-clause-done : goal.returns-then-is_empty-clause-done
returns-then-is_empty-clause-done g c left_now at_end left written given u =
    last_none c.args.self.now.lives.shape c.requires.kept.shape left written given left_now _ _ c.args.self.now.line
    c.args.self.now.reader _ _ u
    c.requires.partial c.requires.low at_end
    (none_held c.args.self.now.reader c.held-held.result.now c.is_empty.result c.held-held.ensures c.is_empty.ensures
    c.if-is_empty.true)

pub returns-in-Nothing-clause-done : goal.returns-in-Nothing-clause-done
returns-in-Nothing-clause-done g c left_now at_end left written given u =
    let means = line_means c.args.self.now.lives.shape.nodes _ c.args.self.now.reader _ _ parsed.Nothing
    c.nodes.ensures c.held-held.ensures c.parse-parsed.ensures c.in-Nothing.is in
    last_nothing c.args.self.now.lives.shape c.requires.kept.shape left written given left_now _ _ c.args.self.now.line
    c.args.self.now.reader _ _ u
    c.requires.partial c.requires.low at_end
    (some_held _ c.held-held.result.now c.is_empty.result c.held-held.ensures c.is_empty.ensures c.if-is_empty.false)
    means

pub returns-in-None-clause-done : goal.returns-in-None-clause-done
returns-in-None-clause-done g c left_now at_end left written given u =
    let means = line_means c.args.self.now.lives.shape.nodes _ c.args.self.now.reader _ _ (parsed.Ask c.in-Ask.command)
    c.nodes.ensures c.held-held.ensures c.parse-parsed.ensures c.in-Ask.is in
    last_command c.args.self.now.lives.shape c.requires.kept.shape left written given left_now _ _ c.args.self.now.line
    c.args.self.now.reader _ _ u
    c.requires.partial c.requires.low at_end _ _ _ _ c.in-Ask.command None
    (some_held _ c.held-held.result.now c.is_empty.result c.held-held.ensures c.is_empty.ensures c.if-is_empty.false)
    means c.in-None.ensures.obeyed

pub returns-in-Some-clause-done : goal.returns-in-Some-clause-done
returns-in-Some-clause-done g c left_now at_end left written given u =
    let means = line_means c.args.self.now.lives.shape.nodes _ c.args.self.now.reader _ _ (parsed.Ask c.in-Ask.command)
    c.nodes.ensures c.held-held.ensures c.parse-parsed.ensures c.in-Ask.is in
    last_command c.args.self.now.lives.shape c.requires.kept.shape left written given left_now _ _ c.args.self.now.line
    c.args.self.now.reader _ _ u
    c.requires.partial c.requires.low at_end _ _ _ _ c.in-Ask.command (Some c.in-Some.ending)
    (some_held _ c.held-held.result.now c.is_empty.result c.held-held.ensures c.is_empty.ensures c.if-is_empty.false)
    means c.in-Some.ensures.obeyed

pub returns-in-Fault-clause-done : goal.returns-in-Fault-clause-done
returns-in-Fault-clause-done g c left_now at_end left written given u =
    let means = line_means c.args.self.now.lives.shape.nodes _ c.args.self.now.reader _ _
    (parsed.Fault c.in-Fault.fault) c.nodes.ensures c.held-held.ensures c.parse-parsed.ensures c.in-Fault.is in
    last_fault c.args.self.now.lives.shape c.requires.kept.shape left written given left_now _ _ c.args.self.now.line
    c.args.self.now.reader _ _ u
    c.requires.partial c.requires.low at_end c.in-Fault.fault
    (some_held _ c.held-held.result.now c.is_empty.result c.held-held.ensures c.is_empty.ensures c.if-is_empty.false)
    means

pub returns-in-Quit-clause-done : goal.returns-in-Quit-clause-done
returns-in-Quit-clause-done g c left_now at_end left written given u =
    let means = line_means c.args.self.now.lives.shape.nodes _ c.args.self.now.reader _ _ parsed.Quit
    c.nodes.ensures c.held-held.ensures c.parse-parsed.ensures c.in-Quit.is in
    last_quit c.args.self.now.lives.shape c.requires.kept.shape left written given left_now _ _ c.args.self.now.line
    c.args.self.now.reader _ _ u
    c.requires.partial c.requires.low at_end
    (some_held _ c.held-held.result.now c.is_empty.result c.held-held.ensures c.is_empty.ensures c.if-is_empty.false)
    means

pub obey-requires : goal.obey-requires
obey-requires g c =
    record {
      kept = c.requires.kept;
      going = c.requires.going;
      asked = command_served c.args.self.now.lives.shape.nodes c.args.self.now.reader c.in-Ask.command
          (line_means c.args.self.now.lives.shape.nodes _ c.args.self.now.reader _ _ (parsed.Ask c.in-Ask.command)
          c.nodes.ensures c.held-held.ensures c.parse-parsed.ensures c.in-Ask.is);
      words = command_words c.args.self.now.lives.shape.nodes c.args.self.now.reader c.in-Ask.command
          c.requires.kept.shape.nodes_few
          (line_means c.args.self.now.lives.shape.nodes _ c.args.self.now.reader _ _ (parsed.Ask c.in-Ask.command)
          c.nodes.ensures c.held-held.ensures c.parse-parsed.ensures c.in-Ask.is);
    }
