use Rattle.std.proofs.Common.{◌≡◌, ap, length, sym, take, ◌∙◌}
use Rattle.shell_top.specs.Lives.{disks_of}
use Rattle.shell_top.specs.Seen.{seen_on}
use Rattle.shell_top.proofs.DisksLemmas.{disks_alone, used_back}
use Rattle.shell_top.proofs.EndLemmas.{session_named, session_unstarted}
use Rattle.shell_top.proofs.run.run_shape.Goals as goal

pub returns-in-Ok-clause-session : goal.returns-in-Ok-clause-session
returns-in-Ok-clause-session g c =
    let given : disks_of c.new.result ≡ take c.args.shape.nodes c.args.disks.items =
    disks_alone c.new.result c.new.ensures.unopened ∙ ap (λ v. v.items) c.new.ensures.disks ∙ c.in-Ok.ensures.used
    ∙ ap (λ n. take n c.args.disks.items) c.from.ensures in
    let many : length c.run_lives-outcome.result.disks.items ≡ c.args.shape.nodes =
    c.run_lives-outcome.ensures.disks ∙ ap (λ s. s.nodes) c.new.ensures.shape in
    let back : take c.args.shape.nodes c.put_back.result.items ≡ c.run_lives-outcome.result.disks.items =
    used_back c.args.shape.nodes c.run_lives-outcome.result.disks.items c.in-Ok.aside.unused.items
    c.put_back.result.items many c.put_back.ensures in
    session_named c.new.result.shape c.args.shape _ _ _ _ _ _ _ _ _ _ c.run_lives-outcome.result.ending
    c.run_lives-outcome.result.lives.items c.new.ensures.shape (ap (seen_on g.D.Disk.told g.D.Disk.faults) given)
    (sym (ap (seen_on g.D.Disk.told g.D.Disk.faults) back)) c.run_lives-outcome.ensures.session

pub returns-in-Err-clause-session : goal.returns-in-Err-clause-session
returns-in-Err-clause-session g c =
    session_unstarted _ _ _ _ _ _ _ c.unstarted.result.ending c.unstarted.result.lives.items c.unstarted.ensures.ending
    c.unstarted.ensures.lives
    (ap (λ disks. seen_on g.D.Disk.told g.D.Disk.faults (take c.args.shape.nodes disks.items))
    c.unstarted.ensures.disks ∙ ap (λ ds. seen_on g.D.Disk.told g.D.Disk.faults (take c.args.shape.nodes ds))
    c.in-Err.ensures.same)
