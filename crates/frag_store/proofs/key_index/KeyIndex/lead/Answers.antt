use Rattle.std.proofs.Common.{◌≡◌, ap, subst, sym, ◌∙◌}
use Rattle.std.specs.FinMap as map
use Rattle.linear_hash.specs.Places.{Places, inserted}
use Rattle.frag_store.specs.Leads.{AreLed, IsElsewhereAs}
use Rattle.frag_store.proofs.LeadLemmas.{elsewhere-inserted, led-inserted}
use Rattle.frag_store.proofs.key_index.KeyIndex.lead.Goals as goal

-- the index is as it was
pub invariant_of-self : goal.invariant_of-self
invariant_of-self c =
    subst (λ (places : Places). AreLed places.at c.self.inside.leads) (sym c.in_err-insert.ensures.err) c.self.invariant

-- the key is where it was led, and others are where they were
pub invariant_of-self-2 : goal.invariant_of-self-2
invariant_of-self-2 c =
    let before = c.self.inside.index in
    let key = c.hashed-key.result.key in
    let is : inserted before key c.args.at ≡ c.insert.new.self = sym c.in_ok-insert.ensures.ok in
    c.push.ensures before.at c.insert.new.self.at c.self.invariant
    (subst (λ (places : Places). IsElsewhereAs key before.at places.at) is (elsewhere-inserted before key c.args.at))
    (ap (λ (places : Places). map.get places.at key) (sym is) ∙ led-inserted before key c.args.at)
