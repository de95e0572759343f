use Rattle.std.proofs.Common.{◌≡◌, ◌∙◌, List, ◌++◌, length, take, drop, ap, sym, subst}
use Rattle.std.proofs.lemmas.List.{take_at}
use Rattle.host_io.specs.DiskState.{FileState}
use Rattle.host_io.specs.Memory.{AreTold, Memory}
use Rattle.host_io.proofs.MemoryLemmas.{crash_added, crash_kept}
use Rattle.host_io.proofs.mem_disk.MemDisk.crash.Goals as goal

pub invariant_of-self : goal.invariant_of-self
invariant_of-self c =
    let files = c.crash.new.files in
    let whole : take c.self.inside.files.len (files ++ drop (length files) c.self.inside.files.items) ≡ files
    = take_at
    files
    (drop (length files) c.self.inside.files.items)
    c.self.inside.files.len
    (c.crash.auto.files ∙ c.deref_mut.ensures.len) in
    subst
    (λ (now : List FileState). AreTold now c.crash.new.self.told c.crash.new.self.spare)
    (sym whole)
    (crash_kept
    c.self.inside.journal.told
    c.crash.new.self.told
    c.self.inside.journal.picks
    files
    c.crash.new.self.spare
    c.self.invariant.2
    c.crash.ensures.bytes
    c.crash.ensures.files
    c.crash.ensures.told)

pub returns-clause-cut : goal.returns-clause-cut
returns-clause-cut c =
    crash_added
    c.self.inside.journal.told
    c.args.self.now.told
    c.crash.new.self.told
    c.self.inside.journal.picks
    (ap (λ (s : Memory). s.told) c.self.view_is)
    c.self.invariant.2
    c.crash.ensures.bytes
    c.crash.ensures.told
