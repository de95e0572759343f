-- Where nobody starts later, all hosts begin with the life.
use Rattle.std.proofs.Common.{◌≡◌, ℕ, zero, suc, ◌/◌, ◌%◌, List, ap, subst}
use Rattle.world_core.proofs.MadeFirst.{no_late}
use Rattle.world_core.specs.Hosts.{member_at, part_by}
use Rattle.world_core.specs.Start.{NobodyStarts, Start, made}
use Rattle.world_core.specs.Steps.{HostStep}
use Rattle.world_views.specs.Hosts.{begun, part_started, started}
use Rattle.world_views.specs.Machine.{MakesHost, makes}

module _ (start : Start) (nobody : NobodyStarts start) where
  -- a host behind the shell's begins as a part of a member does
  pub started_behind : (k : ℕ)
      → started start (suc k) ≡ part_started start (part_by (k % 3)) (member_at (made start) (suc k))
  unfolding started
  started_behind k = ap (begun start (part_by (k % 3)) (member_at (made start) (suc k))) (no_late start nobody (k / 3))

  -- no step makes a host
  pub makes_none : (h : ℕ) (log : List HostStep) (e : HostStep) → MakesHost start h log e → ⊥
  makes_none zero log e made = made
  makes_none (suc h) log e made = subst (makes start log e) (no_late start nobody (h / 3)) made
