-- What a disk has kept of a log is an older part of it.
use Rattle.std.proofs.Common.{◌≡◌, Bool, true, false, ℕ, List, [], ◌∷◌, ◌++◌, ap, sym, subst, inr}
use Rattle.std.specs.List.{list_any}
use Rattle.run_theory.specs.Lists.{IsPast}
use Rattle.run_theory.proofs.Pasts.{past_more, past_self}
use Rattle.world_core.specs.Start.{Start}
use Rattle.world_core.specs.Steps.{HostStep}
use Rattle.disk_laws.specs.Noted.{WasNoted, is_disk_stop, kept_if, kept_part, without_newest}

pub without_is_past : (log : List HostStep) → IsPast (without_newest log) log
without_is_past [] = past_self []
without_is_past (e ∷ log) = past_more e (past_self log)

pub kept_is_past : (log : List HostStep) → IsPast (kept_part log) log
kept_is_past [] = past_self []
kept_is_past (e ∷ log) = by (list_any is_disk_stop e.step.marks)
  where
    by : (failed : Bool) → IsPast (kept_if e log failed) (e ∷ log)
    by true = past_more e (without_is_past log)
    by false = past_self (e ∷ log)

-- a stop since the disk failed takes the step before it along
pub failed_part : (stop e : HostStep) (log : List HostStep) → list_any is_disk_stop stop.step.marks ≡ true
    → kept_part (stop ∷ e ∷ log) ≡ log
failed_part stop e log is = ap (kept_if stop (e ∷ log)) is

-- what was noted in an older part was noted
pub noted_along : (start : Start) (h : ℕ) (older log : List HostStep) (epoch mask : ℕ) → IsPast older log
    → WasNoted start h older epoch mask → WasNoted start h log epoch mask
noted_along start h older log epoch mask past was =
    subst (λ l. WasNoted start h l epoch mask) (sym past.is) (by past.newer)
  where
    by : (newer : List HostStep) → WasNoted start h (newer ++ older) epoch mask
    by [] = was
    by (e ∷ newer) = inr (by newer)
