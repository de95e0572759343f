use Rattle.std.proofs.Common.{ap, subst, sym, take}
use Rattle.std.specs.Prelude.{Some}
use Rattle.host_io.specs.Fault.{Rose}
use Rattle.shell_top.specs.Run.{HasRun}
use Rattle.shell_top.specs.Seen.{seen_on}
use Rattle.shell_top.specs.Session.{nodes_of}
use Rattle.shell_top.specs.Words.{session_shape}
use Rattle.shell_top.proofs.RunLemmas.{session_run}
use Rattle.shell_top.proofs.run.run_asked.Goals as goal

pub returns-in-Replies-clause-run : goal.returns-in-Replies-clause-run
returns-in-Replies-clause-run g c =
    subst (λ asked. HasRun (Some asked) (g.S.Source.left c.args.source.now) (g.S.Source.left c.run_shape.new.source)
    (g.K.Sink.written c.args.sink.now) (g.K.Sink.written c.run_shape.new.sink)
    (Rose (g.S.Source.faults c.args.source.now) (g.S.Source.faults c.run_shape.new.source))
    (Rose (g.K.Sink.faults c.args.sink.now) (g.K.Sink.faults c.run_shape.new.sink))
    (seen_on g.D.Disk.told g.D.Disk.faults (take (nodes_of (session_shape (Some asked))) c.args.disks.items))
    (seen_on g.D.Disk.told g.D.Disk.faults (take (nodes_of (session_shape (Some asked))) c.left_by.result.disks.items))
    c.left_by.result.status c.left_by.result.lives.items) (sym c.in-Replies.is)
    (session_run c.in-Replies.shape _ _ _ _ _ _ _ _ _ c.run_shape.result.ending c.left_by.result.status _ _
    (ap (λ v. v.items) c.left_by.ensures.lives)
    (ap (λ disks. seen_on g.D.Disk.told g.D.Disk.faults (take c.in-Replies.shape.nodes disks.items))
    c.left_by.ensures.disks)
    c.left_by.ensures.status c.run_shape.ensures.session)
