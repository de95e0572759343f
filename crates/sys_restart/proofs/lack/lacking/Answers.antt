use Rattle.std.proofs.Common.{ℕ, ap, refl}
use Rattle.std.proofs.lemmas.Bool.{true≢false}
use Rattle.redo_log.specs.Stored.{files_of}
use Rattle.sig_core.specs.declared.fault.RestartFault.TheVariants.{Damaged}
use Rattle.sys_restart.proofs.FileLemmas.{gate_read}
use Rattle.sys_restart.proofs.lack.lacking.Goals as goal

pub returns-in-Ok-clause-read : goal.returns-in-Ok-clause-read
returns-in-Ok-clause-read g c = λ calls told inside.
    ap (λ (byte : ℕ). Damaged c.args.node c.args.file 0 byte)
    (gate_read (files_of calls c.args.file) c.read.new.buf c.in-Ok.field-0 (c.in-Ok.ensures.bytes calls told))

pub returns-in-Err-clause-read : goal.returns-in-Err-clause-read
returns-in-Err-clause-read g c = λ calls told inside. absurd (true≢false inside)

pub returns-in-Err-clause-cause : goal.returns-in-Err-clause-cause
returns-in-Err-clause-cause g c = (refl, c.in-Err.ensures.cause, c.faults.ensures)
