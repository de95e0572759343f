use Rattle.std.proofs.Common.{take, refl, ap}
use Rattle.shell_top.specs.declared.script.Parsed.TheVariants as parsed
use Rattle.shell_top.proofs.ScriptLemmas.{command_served, command_words, line_means}
use Rattle.shell_top.proofs.SessionLemmas.{line_too_long, goes_on, line_asked, line_quit, line_fault}
use Rattle.shell_top.proofs.session.Session.whole_line.Goals as goal

pub returns-then-at-gt-LINE_BYTES-clause-done : goal.returns-then-at-gt-LINE_BYTES-clause-done
returns-then-at-gt-LINE_BYTES-clause-done g c left_now left written given u =
    line_too_long c.args.self.now.lives.shape c.requires.kept.shape left written given left_now _ _ c.args.self.now.line
    c.args.self.now.reader _ _ u
    c.args.at c.requires.found c.if-at-gt-LINE_BYTES.true

pub returns-in-Nothing-clause-done : goal.returns-in-Nothing-clause-done
returns-in-Nothing-clause-done g c left_now left written given u =
    let means = line_means c.args.self.now.lives.shape.nodes _ (take c.args.at c.args.self.now.reader) _ _
    parsed.Nothing c.nodes.ensures (ap (take c.args.at) c.held.ensures) c.parse-parsed.ensures c.in-Nothing.is in
    rw c.drop_front.ensures (
      refl,
      goes_on c.args.self.now.lives.shape c.requires.kept.shape left written given left_now _ _ c.args.self.now.line
          c.args.self.now.reader _ _ u
          c.args.at c.requires.found c.requires.low c.if-at-gt-LINE_BYTES.false means,
    )

pub returns-in-Ask-clause-done : goal.returns-in-Ask-clause-done
returns-in-Ask-clause-done g c left_now left written given u =
    let means = line_means c.args.self.now.lives.shape.nodes _ (take c.args.at c.args.self.now.reader) _ _
    (parsed.Ask c.in-Ask.command) c.nodes.ensures (ap (take c.args.at) c.held.ensures) c.parse-parsed.ensures
    c.in-Ask.is in
    rw c.drop_front.ensures
    (line_asked c.args.self.now.lives.shape c.requires.kept.shape left written given left_now _ _ c.args.self.now.line
    c.args.self.now.reader _ _ u c.args.at
    c.requires.found c.requires.low c.if-at-gt-LINE_BYTES.false _ _ _ _ _
    c.in-Ask.command c.obey.result c.obey.ensures.shape means c.obey.ensures.obeyed)

pub returns-in-Fault-clause-done : goal.returns-in-Fault-clause-done
returns-in-Fault-clause-done g c left_now left written given u =
    let means = line_means c.args.self.now.lives.shape.nodes _ (take c.args.at c.args.self.now.reader) _ _
    (parsed.Fault c.in-Fault.fault) c.nodes.ensures (ap (take c.args.at) c.held.ensures) c.parse-parsed.ensures
    c.in-Fault.is in
    line_fault c.args.self.now.lives.shape c.requires.kept.shape left written given left_now _ _ c.args.self.now.line
    c.args.self.now.reader _ _ u c.args.at
    c.requires.found c.requires.low c.if-at-gt-LINE_BYTES.false c.in-Fault.fault means

pub returns-in-Quit-clause-done : goal.returns-in-Quit-clause-done
returns-in-Quit-clause-done g c left_now left written given u =
    let means = line_means c.args.self.now.lives.shape.nodes _ (take c.args.at c.args.self.now.reader) _ _
    parsed.Quit c.nodes.ensures (ap (take c.args.at) c.held.ensures) c.parse-parsed.ensures c.in-Quit.is in
    line_quit c.args.self.now.lives.shape c.requires.kept.shape left written given left_now _ _ c.args.self.now.line
    c.args.self.now.reader _ _ u c.args.at
    c.requires.found c.requires.low c.if-at-gt-LINE_BYTES.false means

pub obey-requires : goal.obey-requires
obey-requires g c =
    record {
      kept = c.requires.kept;
      going = c.requires.going;
      asked = command_served c.args.self.now.lives.shape.nodes (take c.args.at c.args.self.now.reader) c.in-Ask.command
          (line_means c.args.self.now.lives.shape.nodes _ (take c.args.at c.args.self.now.reader) _ _
          (parsed.Ask c.in-Ask.command) c.nodes.ensures (ap (take c.args.at) c.held.ensures) c.parse-parsed.ensures
          c.in-Ask.is);
      words = command_words c.args.self.now.lives.shape.nodes (take c.args.at c.args.self.now.reader) c.in-Ask.command
          c.requires.kept.shape.nodes_few
          (line_means c.args.self.now.lives.shape.nodes _ (take c.args.at c.args.self.now.reader) _ _
          (parsed.Ask c.in-Ask.command) c.nodes.ensures (ap (take c.args.at) c.held.ensures) c.parse-parsed.ensures
          c.in-Ask.is);
    }
