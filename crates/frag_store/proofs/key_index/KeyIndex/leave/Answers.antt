use Rattle.std.proofs.Common.{subst, sym}
use Rattle.linear_hash.specs.Places.{Places}
use Rattle.frag_store.specs.Leads.{IsElsewhereAs}
use Rattle.frag_store.proofs.LeadLemmas.{elsewhere-removed}
use Rattle.frag_store.proofs.key_index.KeyIndex.leave.Goals as goal

-- others are where they were
pub invariant_of-self : goal.invariant_of-self
invariant_of-self c =
    let before = c.self.inside.index in
    let key = c.hashed-key.result.key in
    c.forget.ensures before.at c.remove.new.self.at c.self.invariant
    (subst (λ (places : Places). IsElsewhereAs key before.at places.at) (sym c.remove.ensures.rest)
    (elsewhere-removed before key))
