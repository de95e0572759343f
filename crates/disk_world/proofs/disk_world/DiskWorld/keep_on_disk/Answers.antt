use Rattle.std.proofs.Common.{◌≡◌, ◌∙◌, ap, refl, ◌-◌}
use Rattle.node_views.specs.declared.host_body.HostBody.{HostBody}
use Rattle.world_views.specs.Disks.{last_taken}
use Rattle.world_views.specs.WorldOf.{whole_of}
use Rattle.disk_world.specs.Disks.{kept_in}
use Rattle.disk_world.specs.Keeping.{kept_of}
use Rattle.disk_world.proofs.KeptLemmas.{kept_as}
use Rattle.disk_world.proofs.TakenLemmas.{now_of, now_same}
use Rattle.disk_world.proofs.disk_world.DiskWorld.keep_on_disk.Goals as goal

pub returns-clause-kept : goal.returns-clause-kept
returns-clause-kept g c = λ has.
    let h = c.args.host.0 in
    let w = whole_of c.args.self.now.world in
    let same : kept_of c.body-body.result.now (now_of c.last_taken-taken.result) ≡ kept_in w h =
    ap (λ last. kept_of c.body-body.result.now last)
    (now_same c.last_taken-taken.result (last_taken w h) c.last_taken-taken.ensures.some
    c.last_taken-taken.ensures.none)
    ∙ ap (λ s. kept_of s (last_taken w h)) c.body-body.ensures in
    kept_as _ _ _ _ _ _ _ _ _ c.keep_at.ensures.kept same
    (ap (λ (s : HostBody). s.standing.member.node - 1) c.body-body.ensures) refl refl
