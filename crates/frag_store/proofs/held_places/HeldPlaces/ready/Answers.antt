use Rattle.std.proofs.Common.{ap, arith}
use Rattle.tuple_pages.specs.Free.{first_free}
use Rattle.frag_store.proofs.HeldLemmas.{first_within}
use Rattle.frag_store.proofs.held_places.HeldPlaces.ready.Goals as goal

pub widen-requires : goal.widen-requires
widen-requires c =
    omega (
      arith,
      first_within c.self.inside.places.slots c.self.inside.held.items c.self.invariant,
      c.next-next.ensures,
      ap first_free
          c.in_ok-ready.ensures.same,
    )
