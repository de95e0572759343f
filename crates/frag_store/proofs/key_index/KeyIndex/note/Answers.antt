use Rattle.std.proofs.Common.{refl, sym}
use Rattle.frag_store.proofs.key_index.KeyIndex.note.Goals as goal

-- the index is as it was
pub invariant_of-self : goal.invariant_of-self
invariant_of-self c =
    let index = c.self.inside.index in
    c.push.ensures index.at index.at c.self.invariant (λ q differ. refl) (sym c.find-at.ensures)
