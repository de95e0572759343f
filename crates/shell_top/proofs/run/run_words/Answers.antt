use Rattle.std.proofs.Common.{◌≡◌, ap, drop, map, refl, sym, subst, take, ◌∙◌}
use Rattle.std.specs.Prelude.{IfOk, None, Some, string_bytes}
use Rattle.host_io.specs.Fault.{Rose}
use Rattle.shell_top.specs.Run.{HasRun}
use Rattle.shell_top.specs.Seen.{seen_on}
use Rattle.shell_top.specs.Session.{nodes_of}
use Rattle.shell_top.specs.Text.{status_after}
use Rattle.shell_top.specs.Words.{asked_of, asked_shape, session_shape}
use Rattle.shell_top.proofs.EndLemmas.{session_refused}
use Rattle.shell_top.proofs.RunLemmas.{unrun}
use Rattle.shell_top.proofs.run.run_words.Goals as goal

pub returns-in-Ok-Some-clause-run : goal.returns-in-Ok-Some-clause-run
returns-in-Ok-Some-clause-run g c =
    let told : Some c.in-Ok-Some.asked ≡ asked_of (map string_bytes c.args.words.now) =
    sym c.in-Ok-Some.field-0-is
    ∙ subst (λ result. IfOk result (λ asked. asked ≡ asked_of (map string_bytes c.args.words.now))) c.in-Ok-Some.is
    c.asked_of.ensures.told in
    subst (λ asked. HasRun asked (g.S.Source.left c.args.source.now) (g.S.Source.left c.run_asked.new.source)
    (g.K.Sink.written c.args.sink.now)
    (g.K.Sink.written c.run_asked.new.sink)
    (Rose (g.S.Source.faults c.args.source.now) (g.S.Source.faults c.run_asked.new.source))
    (Rose (g.K.Sink.faults c.args.sink.now) (g.K.Sink.faults c.run_asked.new.sink))
    (seen_on g.D.Disk.told g.D.Disk.faults (take (nodes_of (session_shape asked)) c.args.disks.items))
    (seen_on g.D.Disk.told g.D.Disk.faults (take (nodes_of (session_shape asked)) c.run_asked.result.disks.items))
    c.run_asked.result.status c.run_asked.result.lives.items) told c.run_asked.ensures.run

pub returns-in-Ok-Some-clause-unused : goal.returns-in-Ok-Some-clause-unused
returns-in-Ok-Some-clause-unused g c =
    let told : Some c.in-Ok-Some.asked ≡ asked_of (map string_bytes c.args.words.now) =
    sym c.in-Ok-Some.field-0-is
    ∙ subst (λ result. IfOk result (λ asked. asked ≡ asked_of (map string_bytes c.args.words.now))) c.in-Ok-Some.is
    c.asked_of.ensures.told in
    subst (λ asked. drop (nodes_of (session_shape asked)) c.run_asked.result.disks.items
    ≡ drop (nodes_of (session_shape asked)) c.args.disks.items)
    told c.run_asked.ensures.unused

pub returns-in-Ok-None-clause-run : goal.returns-in-Ok-None-clause-run
returns-in-Ok-None-clause-run g c =
    let told : None ≡ asked_of (map string_bytes c.args.words.now) =
    sym c.in-Ok-None.field-0-is
    ∙ subst (λ result. IfOk result (λ asked. asked ≡ asked_of (map string_bytes c.args.words.now))) c.in-Ok-None.is
    c.asked_of.ensures.told in
    let none = ap (λ v. v.items) c.left_by.ensures.lives ∙ c.new.ensures.items in
    subst (λ asked. HasRun asked (g.S.Source.left c.args.source.now) (g.S.Source.left c.args.source.now)
    (g.K.Sink.written c.args.sink.now)
    (g.K.Sink.written c.finish.new.sink)
    (Rose (g.S.Source.faults c.args.source.now) (g.S.Source.faults c.args.source.now))
    (Rose (g.K.Sink.faults c.args.sink.now) (g.K.Sink.faults c.finish.new.sink))
    (seen_on g.D.Disk.told g.D.Disk.faults (take (nodes_of (session_shape asked)) c.args.disks.items))
    (seen_on g.D.Disk.told g.D.Disk.faults (take (nodes_of (session_shape asked)) c.left_by.result.disks.items))
    c.left_by.result.status c.left_by.result.lives.items) told
    (record {
      ending = c.finish.result;
      session = session_refused None _ _ _ _ _ _ _ c.finish.result c.left_by.result.lives.items none refl
          (ap (λ disks. seen_on g.D.Disk.told g.D.Disk.faults (take 0 disks.items)) c.left_by.ensures.disks)
          c.finish.ensures.printed;
      told = subst (λ lives. c.left_by.result.status ≡ status_after c.finish.result lives.items)
          (sym c.left_by.ensures.lives) c.left_by.ensures.status;
    })

pub returns-in-Err-clause-run : goal.returns-in-Err-clause-run
returns-in-Err-clause-run g c =
    unrun _ _ _ _ _ _
    (ap (λ disks. seen_on g.D.Disk.told g.D.Disk.faults
    (take (nodes_of (asked_shape (map string_bytes c.args.words.now))) disks.items))
    (c.left_by-in-Err.ensures.disks ∙ c.unstarted.ensures.disks))
    (asked_of (map string_bytes c.args.words.now)) c.unstarted.result.ending c.left_by-in-Err.result.status
    c.left_by-in-Err.result.lives.items
    (subst (λ lives. c.left_by-in-Err.result.status ≡ status_after c.unstarted.result.ending lives.items)
    (sym c.left_by-in-Err.ensures.lives) c.left_by-in-Err.ensures.status) c.unstarted.ensures.ending
    (ap (λ v. v.items) c.left_by-in-Err.ensures.lives ∙ c.unstarted.ensures.lives)
