use Rattle.std.proofs.Common.{◌≡◌, ◌∙◌, ◌+◌, ◌<◌, ap, arith, cond, get_or, length, sym, subst}
use Rattle.std.specs.Prelude.{List, Option, Some, ℕ}
use Rattle.sig_core.specs.declared.rows.Slot.{Slot}
use Rattle.sig_core.specs.Rows.{place_of, with_place}
use Rattle.sig_core.specs.Same.{same_key}
use Rattle.tuple_pages.specs.Free.{first_free}
use Rattle.frag_store.specs.HeldPlaces.{AreHeld, HeldState, held_at, records_on}
use Rattle.frag_store.proofs.HeldLemmas.{claimed_held, claimed_records, claimed_within, more_held, written_held}
use Rattle.frag_store.proofs.held_places.HeldPlaces.hold.Goals as goal

pub number_at-before-requires : goal.number_at-before-requires
number_at-before-requires c =
    let slots = c.self.inside.places.slots in
    let held = c.self.inside.held.items in
    let key = c.args.key.now in
    let at = c.claim-at.result in
    let W : HeldState → Type 0 = λ h. first_free h.places.slots < length h.held in
    let wide : first_free slots < length held = subst W (sym c.self.view_is) c.requires.room.wide in
    let is : place_of (with_place slots key) key ≡ Some at =
    sym (ap (λ ps. place_of ps key) c.claim-at.ensures.slots) ∙ c.claim-at.ensures.place in
    claimed_within slots held c.self.invariant key at wide is

pub overflow_add-count : goal.overflow_add-count
overflow_add-count c =
    let slots = c.self.inside.places.slots in
    let held = c.self.inside.held.items in
    let key = c.args.key.now in
    let is : place_of (with_place slots key) key ≡ Some c.claim-at.result =
    sym (ap (λ ps. place_of ps key) c.claim-at.ensures.slots) ∙ c.claim-at.ensures.place in
    let was : get_or held c.claim-at.result 0 ≡ records_on c.args.self.now key =
    sym (ap (held_at held) is) ∙ claimed_records slots held c.self.invariant key key
    ∙ ap (λ (h : HeldState). records_on h key) c.self.view_is in
    omega (arith, c.requires.few, c.number_at-before.ensures, was)

pub write-requires : goal.write-requires
write-requires c =
    let slots = c.self.inside.places.slots in
    let held = c.self.inside.held.items in
    let key = c.args.key.now in
    let at = c.claim-at.result in
    let W : HeldState → Type 0 = λ h. first_free h.places.slots < length h.held in
    let wide : first_free slots < length held = subst W (sym c.self.view_is) c.requires.room.wide in
    let is : place_of (with_place slots key) key ≡ Some at =
    sym (ap (λ ps. place_of ps key) c.claim-at.ensures.slots) ∙ c.claim-at.ensures.place in
    claimed_within slots held c.self.invariant key at wide is

pub invariant_of-self : goal.invariant_of-self
invariant_of-self c =
    let slots = c.self.inside.places.slots in
    let held = c.self.inside.held.items in
    let key = c.args.key.now in
    let at = c.claim-at.result in
    let W : HeldState → Type 0 = λ h. first_free h.places.slots < length h.held in
    let wide : first_free slots < length held = subst W (sym c.self.view_is) c.requires.room.wide in
    let is : place_of (with_place slots key) key ≡ Some at =
    sym (ap (λ ps. place_of ps key) c.claim-at.ensures.slots) ∙ c.claim-at.ensures.place in
    let within = claimed_within slots held c.self.invariant key at wide is in
    let P : List (Option Slot) → Type 0 = λ ps. AreHeld ps c.write.new.held.items in
    let Q : List ℕ → Type 0 = λ hs. AreHeld (with_place slots key) hs in
    subst P (sym c.claim-at.ensures.slots) (subst Q (sym c.write.ensures)
    (written_held (with_place slots key) held key at is within (c.number_at-before.result + 1)
    (claimed_held slots held c.self.invariant key wide)))

pub returns-clause-records : goal.returns-clause-records
returns-clause-records c = λ q.
    let slots = c.self.inside.places.slots in
    let held = c.self.inside.held.items in
    let key = c.args.key.now in
    let at = c.claim-at.result in
    let W : HeldState → Type 0 = λ h. first_free h.places.slots < length h.held in
    let wide : first_free slots < length held = subst W (sym c.self.view_is) c.requires.room.wide in
    let is : place_of (with_place slots key) key ≡ Some at =
    sym (ap (λ ps. place_of ps key) c.claim-at.ensures.slots) ∙ c.claim-at.ensures.place in
    let within = claimed_within slots held c.self.invariant key at wide is in
    ap (λ ps. held_at c.write.new.held.items (place_of ps q)) c.claim-at.ensures.slots
    ∙ ap (λ hs. held_at hs (place_of (with_place slots key) q)) c.write.ensures
    ∙ more_held (with_place slots key) held key at is within (c.number_at-before.result + 1)
    (ap (λ n. n + 1) (sym c.number_at-before.ensures)) q
    ∙ ap (λ n. n + cond (same_key key q) 1 0)
    (claimed_records slots held c.self.invariant key q ∙ ap (λ (h : HeldState). records_on h q) c.self.view_is)
