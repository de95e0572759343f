use Rattle.std.proofs.Common.{◌≡◌, ◌∙◌, ℕ, ap, arith, replicate}
use Rattle.host_io.specs.declared.limits.TheConstants.{FILES}
use Rattle.host_io.specs.DiskState.{fresh_file}
use Rattle.host_io.proofs.MemoryLemmas.{no_files}
use Rattle.host_io.proofs.mem_disk.fresh_files.Goals as goal

pub returns-clause-fresh : goal.returns-clause-fresh
returns-clause-fresh c =
    let all : c.loop.counter ≡ FILES = omega (arith, c.loop-test.false, c.loop.auto.counter-end) in
    no_files
    c.loop.files.items
    (c.loop.invariant.fresh
    ∙ ap (λ (n : ℕ). replicate n fresh_file) all)
