use Rattle.std.proofs.Common.{◌≡◌, ◌+◌, ◌<◌, [], None, Some, drop, length, position, sym, ap, ◌∙◌, arith}
use Rattle.std.proofs.lemmas.List.{take_rest}
use Rattle.std.proofs.lemmas.List.Quantifiers.{position-Some}
use Rattle.world_views.specs.Links.{has_signal}
use Rattle.world_views.proofs.FrontLemmas.{before_first, found_behind, further}
use Rattle.world_views.proofs.network.Network.first_busy.Goals as goal

pub returns-in_err-more-clause-value : goal.returns-in_err-more-clause-value
returns-in_err-more-clause-value c =
    let none : position has_signal c.self.inside.inboxes.items ≡ None =
    found_behind has_signal c.self.inside.idle c.self.inside.inboxes.items c.self.invariant.2
    ∙ ap (further c.self.inside.idle)
    (
    sym
    (
    c.first_busy.ensures.value
    ∙ ap (position has_signal)
    (take_rest c.deref.result.now c.self.inside.idle ∙ ap (drop c.self.inside.idle) c.deref.ensures.value)
    )
    ∙ c.in_err-more.was
    ) in
    c.from_residual.ensures ∙ sym none ∙ ap (position has_signal) c.self.view_is

some : (c : goal.After-self-1)
    → position has_signal c.self.inside.inboxes.items ≡ Some (c.self.inside.idle + c.in_ok-more.more)
some c =
    found_behind has_signal c.self.inside.idle c.self.inside.inboxes.items c.self.invariant.2
    ∙ ap (further c.self.inside.idle)
    (
    sym
    (
    c.first_busy.ensures.value
    ∙ ap (position has_signal)
    (take_rest c.deref.result.now c.self.inside.idle ∙ ap (drop c.self.inside.idle) c.deref.ensures.value)
    )
    ∙ c.in_ok-more.was
    )

pub invariant_of-self : goal.invariant_of-self
invariant_of-self c =
    let there : c.self.inside.idle + c.in_ok-more.more < length c.self.inside.inboxes.items =
    (position-Some has_signal c.self.inside.inboxes.items (c.self.inside.idle + c.in_ok-more.more) [] (some c)).0 in (
      c.self.invariant.0,
      omega (arith, there),
      before_first has_signal c.self.inside.inboxes.items (c.self.inside.idle + c.in_ok-more.more) (some c),
    )

pub returns-clause-value : goal.returns-clause-value
returns-clause-value c = sym (some c) ∙ ap (position has_signal) c.self.view_is
