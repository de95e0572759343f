-- In a right world a host of which all is kept has told what its log has, whoever takes it.
use Rattle.std.proofs.Common.{ℕ, List}
use Rattle.run_theory.specs.Links.{taken}
use Rattle.sig_core.specs.declared.reply.ApiReply.{ApiReply}
use Rattle.sig_core.specs.declared.signal.Body.{Body}
use Rattle.world_core.specs.Start.{Start}
use Rattle.world_core.specs.Steps.{HostStep}
use Rattle.world_core.specs.World.{logs_at}
use Rattle.world_views.specs.Links.{link}
use Rattle.world_views.specs.Machine.{machine}
use Rattle.world_views.specs.Right.{IsRight}
use Rattle.world_views.specs.World.{Whole}
use Rattle.world_views.proofs.GivenFacts.{held_given}
use Rattle.restart_laws.specs.Told.{IsTold}
use Rattle.restart_laws.proofs.telling.Facts.{TellsByLog, given_told}
use Rattle.restart_laws.proofs.telling.OnLinks.{on_link_each}

module _ (start : Start) (h : ℕ) (Tells : List HostStep → Body → Type 0) (tells : TellsByLog start h Tells)
    (given : List ApiReply) (w : Whole) (right : IsRight start given w) where
  abbrev log : List HostStep
  log = logs_at w.logs h

  pub all_told : IsTold start h (Tells log) w
  all_told = record {
    taken = λ j low.
        given_told start h Tells tells j log (taken (machine start) h (logs_at w.logs j))
        (right.linked h j tells.low low).given;
    in_transit = λ j low opened.
        let had = taken (machine start) h (logs_at w.logs j) in
        let l = link w.links h j in
        on_link_each (Tells log) j l had
        (given_told start h Tells tells j log _
        (held_given start h j log _ ((right.linked h j tells.low low).held opened)));
  }
