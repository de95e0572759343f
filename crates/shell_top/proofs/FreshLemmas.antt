-- A life that has begun: nothing has happened in it.
use Rattle.std.proofs.Common.{reverse, map, ◌≡◌, ◌⊎◌, ◌≤◌, ◌<◌, ℕ, List, [], ◌∷◌, ◌++◌, Bool, true, false, refl, ap}
use Rattle.std.proofs.Common.{sym}
use Rattle.std.proofs.Common.{subst, ◌∙◌, arith, inl, inr}
use Rattle.std.proofs.lemmas.Bool.{cases_lt}
use Rattle.std.proofs.lemmas.List.{get_or_past}
use Rattle.sig_core.specs.declared.log.HostLog.{HostLog}
use Rattle.shell_top.specs.Served.{AreInPeace, IsServed}
use Rattle.shell_top.specs.Text.{down_line}
use Rattle.shell_top.specs.Told.{text_of}
use Rattle.world_core.specs.Hosts.{hosts}
use Rattle.world_core.specs.Start.{NobodyStarts, Start}
use Rattle.world_core.specs.Steps.{HostStep}
use Rattle.world_core.specs.World.{for_each, logs_at, no_steps, of_host}
use Rattle.world_core.proofs.FreshWorld.{each_at, each_length}
use Rattle.world_views.specs.Driven.{IsSound}
use Rattle.world_views.specs.Requests.{requests}
use Rattle.world_views.specs.Shell.{finds_down}
use Rattle.world_views.specs.Unscheduled.{AreUnscheduled}
use Rattle.world_views.specs.World.{Whole, new_world}
use Rattle.world_views.proofs.FreshWorld.{fresh_asked, fresh_quiet, fresh_right, fresh_sound}

-- no host has taken a step in a fresh world
no_step : (start : Start) (h : ℕ) → logs_at (new_world start).logs h ≡ []
no_step start h = go (cases_lt h (hosts start))
  where
    go : (h < hosts start) ⊎ (hosts start ≤ h) → logs_at (new_world start).logs h ≡ []
    go (inl low) =
        ap (λ (log : HostLog). map (of_host h) (reverse log.steps)) (each_at (hosts start) no_steps h (no_steps 0) low)
    go (inr past) =
        ap (λ (log : HostLog). map (of_host h) (reverse log.steps))
        (get_or_past (for_each (hosts start) no_steps) h (no_steps 0)
        (omega (arith, past, each_length (hosts start) no_steps)))

-- so nothing is told
still_as_it_was : (down : Bool) → down_line down down ≡ []
still_as_it_was true = refl
still_as_it_was false = refl

fresh_text : (start : Start) → text_of start (logs_at (new_world start).logs 0) ≡ []
fresh_text start = ap (text_of start) (no_step start 0) ∙ still_as_it_was (finds_down start [])

-- nor has a host asked anything of itself
fresh_unscheduled : (start : Start) → AreUnscheduled true start (logs_at (new_world start).logs)
fresh_unscheduled start h newer e before is = absurd (none newer (sym (no_step start h) ∙ is))
  where
    none : (newer : List HostStep) → [] ≡ newer ++ e ∷ before → ⊥
    none [] q = cc
    none (n ∷ newer) q = cc

-- and so it came about in peace
fresh_peace : (start : Start) → AreInPeace start (logs_at (new_world start).logs)
fresh_peace start = ([], λ h. no_step start h)

module _ (start : Start) (w : Whole) (is : w ≡ new_world start) where
  -- so it has served no command
  pub fresh_served : NobodyStarts start → IsServed start [] w
  fresh_served nobody = subst (IsServed start []) (sym is)
      (record {
        given = [];
        right = fresh_right start nobody;
        quiet = fresh_quiet start;
        asked = ap requests (no_step start 0);
        at_quiet = fresh_asked start;
        none_left = refl;
        unscheduled = fresh_unscheduled start;
        peace = λ peaceful none. fresh_peace start;
      })

  -- its text is empty
  pub fresh_told : text_of start (logs_at w.logs 0) ≡ []
  fresh_told = ap (λ (x : Whole). text_of start (logs_at x.logs 0)) is ∙ fresh_text start

  -- and it is sound
  pub fresh_going : NobodyStarts start → IsSound start w
  fresh_going nobody = subst (IsSound start) (sym is) (fresh_sound start nobody)
