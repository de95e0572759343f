use Rattle.std.proofs.Common.{rules, ◌≡◌, ◌∙◌, true, ap, sym}
use Rattle.lqh_views.specs.Address.{goes_straight}
use Rattle.lqh_views.proofs.StraightLemmas.{passed_straight}
use Rattle.lqh_views.proofs.replica.Replica.pass.Goals as goal

pub returns-then-goes_straight-clause-ok : goal.returns-then-goes_straight-clause-ok
returns-then-goes_straight-clause-ok g c =
    let s = c.args.self.now in
    let x = c.args.signal.now in
    let in_view : c.view.result.now ≡ s.lqh.layout.view = search rules in
    let straight : goes_straight s.lqh.layout.view x.body ≡ true =
    ap (λ view. goes_straight view x.body) (sym in_view) ∙ (sym c.goes_straight.ensures ∙ c.if-goes_straight.true) in
    let told = passed_straight s x straight in
    rw told (search rules)
