-- What a merge of logs is.
use Rattle.std.specs.Prelude.{◌≡◌, ◌==◌, ◌&&◌, ◌||◌, nat_lt, ℕ, ◌+◌, Bool, List, [], ◌∷◌, ◌++◌, map, IsPermutation}
use Rattle.std.specs.Prelude.{IsSortedBy}
use Rattle.sig_core.specs.declared.log.HostLog.{HostLog}
use Rattle.sig_core.specs.declared.log.LogStep.{LogStep}
use Rattle.sig_core.specs.declared.member.HostId.{HostId}
use Rattle.trace_merge.specs.declared.merging.Stamped.{Stamped}
use Rattle.trace_merge.specs.declared.run.RunStep.{RunStep}

-- steps of a log, numbered from n on, each with its stamp and its place
abbrev pub stamped_from : HostId → ℕ → List LogStep → List Stamped
stamped_from host n [] = []
stamped_from host n (e ∷ steps) = record { stamp = e.stamp; host = host; step = n } ∷ stamped_from host (n + 1) steps

-- all steps of a log
abbrev pub stamped_log : HostLog → List Stamped
stamped_log log = stamped_from log.host 0 log.steps

-- all steps of these logs, one log behind the other
abbrev pub all_stamped : List HostLog → List Stamped
all_stamped [] = []
all_stamped (log ∷ logs) = stamped_log log ++ all_stamped logs

-- a step comes before another by its stamp, then by its host, then by its number
abbrev pub is_before : Stamped → Stamped → Bool
is_before a b = nat_lt a.stamp b.stamp ||
    ((a.stamp == b.stamp) && (nat_lt a.host.0 b.host.0 || ((a.host.0 == b.host.0) && nat_lt a.step b.step)))

-- where a step is
abbrev pub place_of : Stamped → RunStep
place_of a = record { host = a.host; step = a.step }

-- The run has each step of the logs once, in that order.
pub record IsMerge (logs : List HostLog) (run : List RunStep) : Type 0 where
  pub stamped : List Stamped
  pub each_once : IsPermutation (all_stamped logs) stamped
  pub sorted : IsSortedBy is_before stamped
  pub is : run ≡ map place_of stamped
