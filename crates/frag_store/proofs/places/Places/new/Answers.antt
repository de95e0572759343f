use Rattle.std.proofs.Common.{[], None, ap, sym, subst}
use Rattle.std.specs.Prelude.{List, Option}
use Rattle.linear_hash.specs.Places as linear_hash
use Rattle.sig_core.specs.declared.rows.Slot.{Slot}
use Rattle.frag_store.specs.Places.{IsIndexed}
use Rattle.frag_store.proofs.PlaceLemmas.{none_indexed}
use Rattle.frag_store.proofs.places.Places.new.Goals as goal

pub invariant_of-result : goal.invariant_of-result
invariant_of-result c =
    let P : List (Option Slot) → Type 0 = λ slots. IsIndexed slots c.in_ok-index.index.at None in
    let Q : linear_hash.PlaceMap → Type 0 = λ index. IsIndexed [] index None in
    subst P (sym c.new-2.ensures) (subst Q (sym (ap (λ i. i.at) c.in_ok-index.ensures)) none_indexed)
