use Rattle.std.proofs.Common.{◌≡◌, ◌∙◌, ap, arith, nat_eq, sym, true}
use Rattle.sig_core.specs.Rows.{freed_by, place_of}
use Rattle.frag_store.specs.HeldPlaces.{HeldState, held_at, records_on}
use Rattle.frag_store.proofs.held_places.HeldPlaces.let_go.Goals as goal

pub unreachable-requires : goal.unreachable-requires
unreachable-requires c =
    let key = c.args.key.now in
    let none : records_on c.args.self.now key ≡ 0 =
    sym (ap (λ (h : HeldState). records_on h key) c.self.view_is)
    ∙ ap (held_at c.self.inside.held.items) (sym c.in_default.ensures) in
    omega (arith, c.requires, none)

pub returns-then-left-eq0-clause-slots : goal.returns-then-left-eq0-clause-slots
returns-then-left-eq0-clause-slots c =
    let key = c.args.key.now in
    let slots = c.args.self.now.places.slots in
    let none : records_on c.free_idle.new.self key ≡ 0 =
    c.free_idle.ensures.records key ∙ c.release-left.ensures.left ∙ c.if-left-eq0.true in
    c.free_idle.ensures.slots ∙ ap (λ ps. freed_by ps true (place_of ps key)) c.release-left.ensures.slots
    ∙ ap (λ b. freed_by slots b (place_of slots key)) (sym (ap (λ n. nat_eq n 0) none))
