-- Each request is served between two quiet moments.
use Rattle.frag_map.specs.Shape.{IsShape}
use Rattle.std.specs.Prelude.{◌≡◌, ◌⊎◌, ℕ, true, List, ◌∷◌, ◌++◌, Some}
use Rattle.run_theory.specs.Cuts.{IsCut}
use Rattle.run_theory.specs.Runs.{AreLogs, IsWithin}
use Rattle.world_core.specs.Steps.{HostStep}
use Rattle.sig_core.specs.declared.request.ApiReq.{ApiReq}
use Rattle.world_core.specs.Hosts.{first_hosts}
use Rattle.world_core.specs.Machine.{machine}
use Rattle.world_core.specs.Quiet.{IsQuiet}
use Rattle.world_core.specs.Requests.{AreAskedAtQuiet, request_in}
use Rattle.world_core.specs.Start.{Start}
use Rattle.command_laws.specs.Served.{IsServedBetween}

-- The request is served between two quiet moments of these logs: host 0's log is `before` at the first of them.
pub record IsServedIn (start : Start) (logs : ℕ → List HostStep) (request : ApiReq) (before : List HostStep) : Type 0
  where
    pub was : ℕ → List HostStep
    pub now : ℕ → List HostStep
    pub served : IsServedBetween start was now request
    pub at : was 0 ≡ before
    pub within : IsCut now logs

-- among these steps of host 0 is one that a request makes
pub record IsAskedAgain (start : Start) (newer : List HostStep) : Type 0 where
  pub later : List HostStep
  pub next : HostStep
  pub between : List HostStep
  pub is : newer ≡ later ++ next ∷ between
  pub asked : (machine start).asked next ≡ true

-- Where each request is asked for at quiet, one that was driven to quiet, so that nothing is under way at the end, or
-- another thing was asked for later, is served between two quiet moments.
abbrev pub RequestsAreServed : Type 0
RequestsAreServed =
    (start : Start) (logs : ℕ → List HostStep) → IsShape start.shape → AreLogs (machine start) logs
    → IsWithin (first_hosts start) logs → AreAskedAtQuiet start logs
    → (newer : List HostStep) (e : HostStep) (before : List HostStep) (request : ApiReq) → logs 0 ≡ newer ++ e ∷ before
    → request_in e.step.taken.body ≡ Some request
    → IsQuiet (machine start) (first_hosts start) logs ⊎ IsAskedAgain start newer
    → IsServedIn start logs request before
