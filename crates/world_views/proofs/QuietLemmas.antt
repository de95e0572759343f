-- Where nothing is under way, each host has taken all that its links hold.
use Rattle.std.proofs.Common.{List, ◌++◌, reverse, ap, subst}
use Rattle.std.specs.Prelude.{map}
use Rattle.run_theory.specs.Links.{taken}
use Rattle.sig_core.specs.declared.reply.ApiReply.{ApiReply}
use Rattle.world_core.specs.Right.{arriving}
use Rattle.world_core.specs.Start.{Start}
use Rattle.world_core.specs.World.{logs_at}
use Rattle.world_views.specs.Machine.{machine}
use Rattle.world_views.specs.Quiet.{IsQuiet}
use Rattle.world_views.specs.Right.{IsHeld, IsRight}
use Rattle.world_views.specs.World.{IsIdle, Whole}

pub quiet_logs : (start : Start) (given : List ApiReply) (w : Whole) → IsRight start given w → IsIdle w
    → IsQuiet start (logs_at w.logs)
quiet_logs start given w right idle i j i_low low takes =
    subst (IsHeld start i j (logs_at w.logs i))
    (ap (λ xs. map (arriving j) (reverse xs) ++ taken (machine start) i (logs_at w.logs j)) (idle i j))
    ((right.linked i j i_low low).held takes)
