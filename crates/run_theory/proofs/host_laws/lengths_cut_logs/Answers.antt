use Rattle.run_theory.proofs.HostFacts.{past_take}
use Rattle.run_theory.proofs.host_laws.lengths_cut_logs.Goals as goal

pub returns : goal.returns
returns g c = λ own lengths h. past_take (lengths h) (own h)
