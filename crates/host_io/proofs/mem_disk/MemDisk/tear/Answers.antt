use Rattle.std.proofs.Common.{◌∙◌, ◌∷◌, ℕ, List, length, take, ap, arith}
use Rattle.host_io.specs.Call.{Tore}
use Rattle.host_io.specs.DiskState.{FileState, written}
use Rattle.host_io.proofs.MemoryLemmas.{call_kept, fitting_bytes, tear_follows, torn_states}
use Rattle.host_io.proofs.mem_disk.MemDisk.tear.Goals as goal

pub invariant_of-self-2 : goal.invariant_of-self-2
invariant_of-self-2 c =
    let calls = c.self.inside.journal.told in
    let asked = c.args.asked.now in
    let laid = c.share_of-laid.result in
    call_kept
    calls
    c.reserve.new.self.told
    c.tear.new.self.told
    (Tore c.args.file c.args.at asked (take laid asked))
    c.self.inside.files.items
    c.args.file
    c.self.inside.journal.spare
    c.tear.new.self.spare
    (λ (s : FileState). written s c.args.at (length asked) (take laid asked))
    c.index_mut.result.now
    c.lay.new.self
    c.self.invariant
    c.requires.0
    (tear_follows calls c.args.file c.args.at laid asked c.requires (fitting_bytes asked c.type_inv.asked))
    (torn_states calls c.args.file c.args.at asked (take laid asked) c.requires.0)
    c.index_mut.ensures.value
    c.in_ok-lay.ensures.ok
    c.reserve.ensures.told
    (c.tear.ensures.told
    ∙ ap
    (λ (copied : List ℕ). Tore c.args.file c.args.at copied (take laid copied) ∷ c.reserve.new.self.told)
    (c.in_ok-copy.ensures.items_if_clones_equal (λ x y same. same)))
    (omega (arith, c.in_ok-reserve.ensures.room, c.tear.ensures.spare))

pub returns-clause-may : goal.returns-clause-may
returns-clause-may c =
    tear_follows
    c.args.self.now.told
    c.args.file
    c.args.at
    _
    c.args.asked.now
    c.requires
    (fitting_bytes c.args.asked.now c.type_inv.asked)
