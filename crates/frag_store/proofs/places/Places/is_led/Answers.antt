use Rattle.std.proofs.Common.{◌∙◌, ap, sym, subst}
use Rattle.sig_core.specs.Rows.{place_of}
use Rattle.frag_store.specs.Places.{IsAhead, PlacesState}
use Rattle.frag_store.proofs.AheadLemmas.{nowhere_new, nowhere_told, right_new, right_sound, right_told}
use Rattle.frag_store.proofs.places.Places.is_led.Goals as goal

pub returns-in-Some-clause-sound : goal.returns-in-Some-clause-sound
returns-in-Some-clause-sound c right none =
    let key = c.args.key.now in
    let P : PlacesState → Type 0 = λ p. IsAhead p key in
    subst P c.self.view_is
    (right_sound c.self.inside.pages c.self.inside.index.at c.self.inside.spare c.self.invariant key c.in-Some.at
    (sym c.in-Some.ensures.place) (sym c.is_right.ensures ∙ right)
    (ap (λ (p : PlacesState). place_of p.slots key) c.self.view_is ∙ none))

pub returns-in-Some-clause-told : goal.returns-in-Some-clause-told
returns-in-Some-clause-told c ahead =
    let key = c.args.key.now in
    let P : PlacesState → Type 0 = λ p. IsAhead p key in
    c.is_right.ensures
    ∙ right_told c.self.inside.pages c.self.inside.index.at c.self.inside.spare c.self.invariant key c.in-Some.at
    (sym c.in-Some.ensures.place) (subst P (sym c.self.view_is) ahead)

pub returns-in-Some-clause-new : goal.returns-in-Some-clause-new
returns-in-Some-clause-new c wrong =
    let key = c.args.key.now in
    sym (ap (λ (p : PlacesState). place_of p.slots key) c.self.view_is)
    ∙ right_new c.self.inside.pages c.self.inside.index.at c.self.inside.spare c.self.invariant key c.in-Some.at
    (sym c.in-Some.ensures.place) (sym c.is_right.ensures ∙ wrong)

pub returns-in-None-clause-sound : goal.returns-in-None-clause-sound
returns-in-None-clause-sound c right none = cc

pub returns-in-None-clause-told : goal.returns-in-None-clause-told
returns-in-None-clause-told c ahead =
    let key = c.args.key.now in
    let P : PlacesState → Type 0 = λ p. IsAhead p key in
    absurd (nowhere_told c.self.inside.pages c.self.inside.index.at c.self.inside.spare c.self.invariant key
    (sym c.in-None.ensures.place) (subst P (sym c.self.view_is) ahead))

pub returns-in-None-clause-new : goal.returns-in-None-clause-new
returns-in-None-clause-new c wrong =
    let key = c.args.key.now in
    sym (ap (λ (p : PlacesState). place_of p.slots key) c.self.view_is)
    ∙ nowhere_new c.self.inside.pages c.self.inside.index.at c.self.inside.spare c.self.invariant key
    (sym c.in-None.ensures.place)
