use Rattle.std.proofs.Common.{ℕ, List, Some, cond, ◌∙◌, ap}
use Rattle.std.specs.Prelude.{Option}
use Rattle.redo_log.specs.declared.image_id.ImageId.{ImageId}
use Rattle.redo_log.specs.Latest.{with_latest}
use Rattle.redo_log.specs.Replaying.{Images, image_at, same_id}
use Rattle.redo_log.proofs.LatestLemmas.{put_first}
use Rattle.redo_log.proofs.prepared.Prepared.put.Goals as goal

pub returns : goal.returns
returns c = λ q.
    put_first (c.args.id, c.args.image) c.self.inside.latest c.self.inside.others.entries
    c.put_behind.new.others.entries
    (λ p. c.in_ok-put_behind.ensures p
    ∙ ap (λ (l : Option (ImageId × Option (List ℕ))). image_at (with_latest l c.self.inside.others.entries) p)
    c.take.ensures.value)
    q
    ∙ ap (λ (w : Images). cond (same_id c.args.id q) (Some c.args.image) (image_at w q)) c.self.view_is
