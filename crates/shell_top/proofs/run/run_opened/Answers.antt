use Rattle.std.proofs.Common.{◌≡◌, ap, ◌∙◌}
use Rattle.shell_top.specs.Lives.{disks_of, now_of}
use Rattle.shell_top.specs.Seen.{seen_on}
use Rattle.shell_top.specs.Session.{lives_in}
use Rattle.shell_top.proofs.EndLemmas.{lines_named, rose_still, session_done, starts}
use Rattle.shell_top.proofs.run.run_opened.Goals as goal

pub returns-clause-session : goal.returns-clause-session
returns-clause-session g c given begun grown =
    let lives : c.end.result.lives.items ≡ lives_in c.run-meant.new.self =
    ap (λ v. v.items) c.end.ensures.lives ∙ c.into_parts.ensures.lives in
    let disks : c.end.result.disks.items ≡ disks_of c.run-meant.new.self.lives =
    ap (λ v. v.items) c.end.ensures.disks ∙ c.into_parts.ensures.disks in
    session_done c.args.session.lives.shape _ _ (g.K.Sink.written c.args.sink.now) _ _ _ _ given _
    c.run-meant.result c.end.result.ending c.end.result.lives.items
    (lines_named _ _ _ _ _ _ _ _ _ _ _ (ap (seen_on g.D.Disk.told g.D.Disk.faults) disks) lives
    (c.run-meant.ensures.done (g.S.Source.left c.args.source.now) (g.K.Sink.written c.args.sink.now) given
    (starts _ _ c.args.session.lives.shape c.requires.kept.shape given _ c.args.session.line c.args.session.reader
    c.args.session.lives.ended.items (now_of c.args.session.lives) c.requires.reader c.requires.line c.requires.none
    begun grown)))
    c.run-meant.ensures.read_cause
    (λ is. rose_still (g.K.Sink.faults c.args.sink.now) (g.K.Sink.faults c.run-meant.new.sink)
    (g.K.Sink.faults c.end.new.sink) (c.run-meant.ensures.write_cause is) c.end.ensures.steady)
    c.end.ensures.cut_short c.end.ensures.printed
