use Rattle.std.proofs.Common.{ap, arith}
use Rattle.sig_core.specs.declared.view.Shape.{Shape}
use Rattle.world_core.proofs.MadeFirst.{hosts_first}
use Rattle.trace_check.proofs.labels.are_labelled.Goals as goal

-- there are more, or fewer
pub returns-then-logs-from : goal.returns-then-logs-from
returns-then-logs-from c = λ start same nobody is labels.
    omega (arith, labels.one_each, hosts_first start nobody, ap (λ (s : Shape). s.nodes) same)
