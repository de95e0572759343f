-- Only the hosts that begin the life do anything in it, since nobody starts later.
use Rattle.std.proofs.Common.{ℕ, List, subst, sym}
use Rattle.run_theory.specs.Runs.{IsWithin}
use Rattle.sig_core.specs.declared.request.ApiReq.{ApiReq}
use Rattle.world_core.proofs.MadeFirst.{hosts_first}
use Rattle.world_core.specs.Hosts.{first_hosts, hosts}
use Rattle.world_core.specs.Start.{NobodyStarts, Start}
use Rattle.world_core.specs.Steps.{HostStep}
use Rattle.peace_laws.specs.Laws.{GoOnBy}

pub go_within : (start : Start) (nobody : NobodyStarts start) (request : ApiReq) (logs more : ℕ → List HostStep)
    → GoOnBy start request logs more
    → IsWithin (first_hosts start) more
go_within start nobody request logs more by =
    subst (λ n. IsWithin n more) (hosts_first start nobody) by.within

-- and they are all that there are
pub all_within : (start : Start) (nobody : NobodyStarts start) (logs : ℕ → List HostStep)
    → IsWithin (first_hosts start) logs
    → IsWithin (hosts start) logs
all_within start nobody logs within = subst (λ n. IsWithin n logs) (sym (hosts_first start nobody)) within
