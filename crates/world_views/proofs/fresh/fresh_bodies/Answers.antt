use Rattle.std.proofs.Common.{◌+◌, ◌∷◌, ◌++◌, [], length, refl, ap, sym, ◌∙◌, arith}
use Rattle.std.proofs.lemmas.List.{length_push}
use Rattle.world_core.specs.Start.{Start}
use Rattle.world_core.specs.World.{for_each}
use Rattle.world_core.proofs.FreshWorld.{each_more}
use Rattle.world_core.proofs.MadeFirst.{made_first}
use Rattle.world_views.specs.Hosts.{started}
use Rattle.world_views.proofs.FreshBodies.{first_put, part_begins, shell_begins}
use Rattle.world_views.proofs.fresh.fresh_bodies.Goals as goal

pub loop-before-init : goal.loop-before-init
loop-before-init c =
    let start : Start =
    record { shape = c.args.shape; epoch = c.args.epoch; start_epoch = c.args.start; rows = c.args.rows.now; late = [] }
    in
    let shell = c.in_ok-shell.field-0 in
    let begins = shell_begins start c.first-layout.result shell c.first-layout.ensures c.in_ok-shell.ensures in
    let done = first_put c.in_ok-bodies.bodies.items c.push_reserved.new.self.items shell (started start 0)
    c.push_reserved.ensures.items c.in_ok-bodies.ensures.items begins in
    record {
      done = done;
      count = ap length done;
      room = omega (arith, c.push_reserved.ensures.capacity, c.in_ok-bodies.ensures.capacity);
    }

pub loop-before-preserved : goal.loop-before-preserved
loop-before-preserved c =
    let start : Start =
    record { shape = c.args.shape; epoch = c.args.epoch; start_epoch = c.args.start; rows = c.args.rows.now; late = [] }
    in
    let k = c.loop-before.before in
    let next = c.in_ok-part_started.field-0 in
    let pushed = c.push_reserved-in-loop-before.ensures.items in
    record {
      done = pushed
          ∙ ap (λ xs. xs ++ next ∷ []) c.loop-before.invariant.done
          ∙ ap (λ host. for_each (k + 1) (started start) ++ host ∷ [])
          (part_begins start refl k c.args.there.now c.first-layout.result c.part_by-part.result
          c.member_at-member.result
          next
          (c.requires.there ∙ sym (made_first start refl)) c.first-layout.ensures c.part_by-part.ensures
          c.member_at-member.ensures
          c.in_ok-part_started.ensures)
          ∙ sym (each_more (k + 1) (started start));
      count =
          ap length pushed ∙ omega (arith, length_push c.loop-before.bodies.items next, c.loop-before.invariant.count);
      room = omega (arith, c.push_reserved-in-loop-before.ensures.capacity, c.loop-before.invariant.room);
    }
