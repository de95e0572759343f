use Rattle.std.proofs.Common.{◌≡◌, length}
use Rattle.node_views.proofs.host_body.hush_if.Given as goal

-- the marks stay, whatever is taken back
abbrev pub invariant-loop : goal.invariant-loop
invariant-loop l = l.out.marks ≡ l.initial.out.marks

abbrev pub decreases-loop : goal.decreases-loop
decreases-loop l = length l.out.sends
