use Rattle.std.proofs.Common.{rules, subst, sym}
use Rattle.row_map.specs.Stored.{IsStored}
use Rattle.row_map.proofs.rows.RowMap.get.Goals as goal

pub bytes_at-requires : goal.bytes_at-requires
bytes_at-requires c =
    subst (λ bytes. IsStored bytes c.in-Some.stored.now) (sym c.deref.ensures.value)
    (c.self.invariant.stored c.args.key.now c.in-Some.stored.now (search rules))
