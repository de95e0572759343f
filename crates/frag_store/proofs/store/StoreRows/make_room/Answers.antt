use Rattle.std.proofs.Common.{◌∙◌, ap, sym}
use Rattle.std.specs.List.{count_by}
use Rattle.sig_core.specs.Rows.{is_on}
use Rattle.frag_store.specs.HeldPlaces.{records_on}
use Rattle.frag_store.proofs.store.StoreRows.make_room.Goals as goal

pub invariant_of-self : goal.invariant_of-self
invariant_of-self c = λ q.
    c.reserve.ensures.held q ∙ ap (λ places. records_on places q) c.note.ensures.same
    ∙ c.self.invariant q ∙ sym (ap (count_by (is_on q)) c.reserve.ensures.pending)
