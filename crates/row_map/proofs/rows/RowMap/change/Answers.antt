use Rattle.std.proofs.Common.{rules, sym, subst}
use Rattle.row_map.specs.Stored.{AreStored, IsValue}
use Rattle.row_map.proofs.StoredLemmas.{change_stored}
use Rattle.row_map.proofs.rows.RowMap.change.Goals as goal

pub write_over-requires-clause-there : goal.write_over-requires-clause-there
write_over-requires-clause-there c = c.self.invariant.stored c.args.key c.in-Some.stored (search rules)

pub invariant_of-self : goal.invariant_of-self
invariant_of-self c =
    let is : IsValue c.args.value.now = record { most = c.requires.most; printable = c.requires.printable } in
    subst (λ now. AreStored now c.self.inside.places.entries) (sym c.write_over.ensures)
    (change_stored c.self.inside.bytes.items c.args.value.now c.self.inside.places.entries c.args.key c.in-Some.stored
    c.self.invariant is (search rules) (search rules))
