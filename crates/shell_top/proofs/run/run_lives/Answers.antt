use Rattle.std.proofs.Common.{◌≡◌, [], ap, refl, sym, subst, ◌∙◌}
use Rattle.shell_top.specs.Chapters.{IsUnborn}
use Rattle.shell_top.specs.declared.ended.Ending.TheVariants as ending
use Rattle.shell_top.specs.Lives.{HasBegun, disks_of, now_of}
use Rattle.shell_top.specs.Seen.{HasGrown, Seen, seen_on}
use Rattle.shell_top.proofs.DisksLemmas.{no_lives, none_now}
use Rattle.shell_top.proofs.EndLemmas.{session_named, session_unopened, unremembered}
use Rattle.shell_top.proofs.SeenLemmas.{grown_itself}
use Rattle.shell_top.proofs.run.run_lives.Goals as goal

pub returns-in_default-clause-session : goal.returns-in_default-clause-session
returns-in_default-clause-session g c =
    let given : Seen = seen_on g.D.Disk.told g.D.Disk.faults (disks_of c.args.lives) in
    let none : c.end.result.lives.items ≡ [] =
    ap (λ v. v.items) c.end.ensures.lives ∙ c.into_parts.ensures.lives
    ∙ no_lives c.args.lives c.requires.none (none_now c.args.lives c.requires.unopened) in
    let disks : c.end.result.disks.items ≡ disks_of c.args.lives =
    ap (λ v. v.items) c.end.ensures.disks ∙ c.into_parts.ensures.disks in
    session_unopened c.args.lives.shape _ _ _ _ _ given _ ending.NoMemory c.end.result.ending c.end.result.lives.items
    none (subst (HasGrown given) (sym (ap (seen_on g.D.Disk.told g.D.Disk.faults) disks)) (grown_itself given))
    (unremembered c.args.lives.shape given _) c.end.ensures.cut_short c.end.ensures.printed

pub returns-in-None-clause-session : goal.returns-in-None-clause-session
returns-in-None-clause-session g c =
    let given : Seen = seen_on g.D.Disk.told g.D.Disk.faults (disks_of c.args.lives) in
    let same : c.new-in-None.result.lives ≡ c.open.new.self = ap (λ s. s.lives) c.new-in-None.ensures in
    let begun : HasBegun c.new-in-None.result.lives.shape given
    (seen_on g.D.Disk.told g.D.Disk.faults (disks_of c.new-in-None.result.lives))
    (now_of c.new-in-None.result.lives) =
    subst (λ ls. HasBegun ls.shape given (seen_on g.D.Disk.told g.D.Disk.faults (disks_of ls)) (now_of ls)) (sym same)
    (subst
    (λ shape.
    HasBegun shape given (seen_on g.D.Disk.told g.D.Disk.faults (disks_of c.open.new.self)) (now_of c.open.new.self))
    (sym c.in-None.ensures.shape) c.in-None.ensures.begun) in
    let grown : HasGrown given (seen_on g.D.Disk.told g.D.Disk.faults (disks_of c.new-in-None.result.lives)) =
    subst (λ ls. HasGrown given (seen_on g.D.Disk.told g.D.Disk.faults (disks_of ls))) (sym same)
    c.in-None.ensures.grown in
    session_named c.new-in-None.result.lives.shape c.args.lives.shape _ _ _ _ _ _ given given _ _
    c.run_opened.result.ending c.run_opened.result.lives.items (ap (λ ls. ls.shape) same ∙ c.in-None.ensures.shape) refl
    refl (c.run_opened.ensures.session given begun grown)

pub returns-in-Some-clause-session : goal.returns-in-Some-clause-session
returns-in-Some-clause-session g c =
    let given : Seen = seen_on g.D.Disk.told g.D.Disk.faults (disks_of c.args.lives) in
    let none : c.end-in-Some.result.lives.items ≡ [] =
    ap (λ v. v.items) c.end-in-Some.ensures.lives ∙ c.into_parts-in-Some.ensures.lives
    ∙ no_lives c.open.new.self (c.in-Some.ensures.ended ∙ c.requires.none) c.in-Some.ensures.refused.none in
    let disks : c.end-in-Some.result.disks.items ≡ disks_of c.open.new.self =
    ap (λ v. v.items) c.end-in-Some.ensures.disks ∙ c.into_parts-in-Some.ensures.disks in
    let seen = ap (seen_on g.D.Disk.told g.D.Disk.faults) disks in
    session_unopened c.args.lives.shape _ _ _ _ _ given _ c.in-Some.refused c.end-in-Some.result.ending
    c.end-in-Some.result.lives.items none (subst (HasGrown given) (sym seen) c.in-Some.ensures.grown)
    (subst (λ s. IsUnborn c.args.lives.shape c.in-Some.refused given s) (sym seen) c.in-Some.ensures.refused.unborn)
    c.end-in-Some.ensures.cut_short c.end-in-Some.ensures.printed
