use Rattle.std.proofs.Common.{◌≡◌, true, refl, ap, sym, ◌∙◌, subst}
use Rattle.world_views.specs.declared.schedule.Pick.{Pick}
use Rattle.world_views.specs.declared.schedule.Pick.TheVariants.{Take}
use Rattle.world_views.specs.Links.{arrival}
use Rattle.world_views.specs.Schedule.{IsEmpty, may_be}
use Rattle.world_views.specs.WorldOf.{whole_of}
use Rattle.world_views.proofs.DropRight.{with_links}
use Rattle.world_views.proofs.ScheduleLemmas.{pick_can_take, pick_given, pick_runs}
use Rattle.world_views.proofs.TakeFacts.{none_between}
use Rattle.world_views.proofs.world.World.pick.Goals as goal

pub returns-in_default : goal.returns-in_default
returns-in_default c =
    let w = whole_of c.args.self.now in
    let pick : Pick = Take c.in-Take.host c.in-Take.from in
    let may = subst (λ (p : Pick). may_be w p ≡ true) c.in-Take.is (sym c.may_be.ensures ∙ c.if-not-may_be.false) in
    let empty : IsEmpty w pick =
    (pick_runs w pick may, none_between w.links c.in-Take.from.0 c.in-Take.host.0 c.in_default.ensures.none) in
    (refl, (ap (with_links w) c.in_default.ensures.kept, subst (λ (p : Pick). IsEmpty w p) (sym c.in-Take.is) empty))

pub take-done-requires-clause-there : goal.take-done-requires-clause-there
take-done-requires-clause-there c =
    pick_can_take (whole_of c.args.self.now) c.in-Take.from.0 c.in-Take.host.0
    (arrival c.in-Some.arrived.host c.in-Some.arrived.signal c.take_between.new.self) c.requires c.in-Some.ensures.taken

pub take-done-requires-clause-given : goal.take-done-requires-clause-given
take-done-requires-clause-given c =
    pick_given (whole_of c.args.self.now) c.in-Take.from.0 c.in-Take.host.0
    (arrival c.in-Some.arrived.host c.in-Some.arrived.signal c.take_between.new.self) c.requires c.in-Some.ensures.taken
