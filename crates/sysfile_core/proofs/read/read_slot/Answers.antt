use Rattle.std.proofs.Common.{◌≡◌, length, rules, Bool, true, false, ap, sym, ◌∙◌, if◌then◌else◌}
use Rattle.std.specs.Prelude.{None, Some}
use Rattle.std.proofs.lemmas.Bool.{eq-eqb, ne_eqb}
use Rattle.host_io.specs.DiskState.{state_of}
use Rattle.sysfile_core.proofs.DiskLemmas.{slot_read}
use Rattle.sysfile_core.proofs.read.read_slot.Goals as goal

-- the slot was read whole
pub returns-then-count-bytes-clause-slot : goal.returns-then-count-bytes-clause-slot
returns-then-count-bytes-clause-slot g c =
    let size : length c.read.new.buf ≡ length c.args.bytes.now = search rules in
    let whole = eq-eqb c.in_ok-count.count (length c.read.new.buf) c.if-count-bytes.true in
    λ calls told.
    slot_read (state_of calls c.args.file).bytes c.args.bytes.now c.read.new.buf c.args.at c.in_ok-count.count true
    (c.in_ok-count.ensures.bytes calls told) c.requires size whole

-- the file ends before the slot does
pub returns-else-count-bytes-clause-slot : goal.returns-else-count-bytes-clause-slot
returns-else-count-bytes-clause-slot g c =
    let size : length c.read.new.buf ≡ length c.args.bytes.now = search rules in
    let cut = ne_eqb c.in_ok-count.count (length c.read.new.buf) c.if-count-bytes.false in
    λ calls told.
    slot_read (state_of calls c.args.file).bytes c.args.bytes.now c.read.new.buf c.args.at c.in_ok-count.count false
    (c.in_ok-count.ensures.bytes calls told) c.requires size cut
    ∙ ap (λ (b : Bool). if b then Some c.read.new.buf else None) (sym cut)
