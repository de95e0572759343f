use Rattle.row_map.proofs.StoredLemmas.{remove_stored}
use Rattle.row_map.proofs.rows.RowMap.remove.Goals as goal

pub invariant_of-self : goal.invariant_of-self
invariant_of-self c =
    remove_stored c.self.inside.bytes.items c.self.inside.places c.swap_remove.new.self c.args.key.now c.self.invariant
    c.swap_remove.ensures.updates
