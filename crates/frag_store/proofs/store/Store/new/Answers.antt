use Rattle.std.proofs.Common.{◌∙◌, ap, sym}
use Rattle.std.specs.List.{count_by}
use Rattle.sig_core.specs.Rows.{is_on}
use Rattle.frag_store.proofs.HeldLemmas.{none_on}
use Rattle.frag_store.proofs.store.Store.new.Goals as goal

pub invariant_of-result : goal.invariant_of-result
invariant_of-result c = λ q.
    none_on c.in_ok-places.places q c.in_ok-places.ensures ∙ sym (ap (count_by (is_on q)) c.new-2.ensures)
