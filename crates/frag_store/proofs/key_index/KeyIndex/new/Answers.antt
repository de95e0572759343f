use Rattle.frag_store.proofs.key_index.KeyIndex.new.Goals as goal

-- nothing is remembered
pub invariant_of-result : goal.invariant_of-result
invariant_of-result c = c.new-leads.ensures c.in_ok-index.index.at
