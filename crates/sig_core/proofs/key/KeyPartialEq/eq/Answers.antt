use Rattle.std.proofs.Common.{ap₂, ◌∙◌, sym, take, arith}
use Rattle.std.proofs.lemmas.List.{get_or-take}
use Rattle.sig_core.specs.Same.{same_key}
use Rattle.sig_core.proofs.Keys.{same_key-other}
use Rattle.sig_core.proofs.key.KeyPartialEq.eq.Goals as goal

pub returns-then-self-at : goal.returns-then-self-at
returns-then-self-at c =
    let at = c.loop-at.at in
    let one = c.self.inside in
    let other = c.other.inside in
    let inside = c.loop-at-test.true in
    let here = get_or-take one.len one.bytes at 0 inside in
    let there = get_or-take other.len other.bytes at 0 (omega (arith, inside, c.if-self-other.false)) in
    sym (same_key-other (take one.len one.bytes) (take other.len other.bytes) at
    (λ same. c.if-self-at.true (sym here ∙ same ∙ there)))
    ∙ ap₂ same_key c.self.view_is c.other.view_is
