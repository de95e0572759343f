-- Whatever a step sends has the stamp of that step.
use Rattle.std.proofs.Common.{◌≡◌, ℕ, List, [], ◌∷◌, refl}
use Rattle.run_theory.specs.Lists.{Each}
use Rattle.run_theory.specs.Machine.{IsStamped}
use Rattle.sig_core.specs.declared.outs.Outgoing.{Outgoing}
use Rattle.world_core.specs.Hosts.{Membership, first_membership, receiver}
use Rattle.world_core.specs.Machine.{all_addressed, counted, machine, sent_count, step_after}
use Rattle.world_core.specs.Start.{Start}

stamped_all : (start : Start) (who : Membership) (h stamp : ℕ) (count : ℕ → ℕ) (sends : List Outgoing)
    → Each (λ x. (machine start).sent_at x ≡ stamp) (all_addressed who h stamp count sends)
stamped_all start who h stamp count [] = tt
stamped_all start who h stamp count (sent ∷ more) =
    (refl, stamped_all start who h stamp (counted (receiver who sent.to) count) more)

pub stamped : (start : Start) → IsStamped (machine start)
stamped start =
    record {
      sends = λ h log e. stamped_all start (first_membership start) h e.step.stamp (sent_count start h log)
          (step_after start h log e).effects.sends;
      closing = λ h log e j. refl;
    }
