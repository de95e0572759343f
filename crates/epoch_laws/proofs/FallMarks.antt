-- A step of a host of epochs in which something is decided takes a signal of no greater view than the host's behind it.
use Rattle.std.proofs.Common.{◌≡◌, ◌≤◌, ◌⊎◌, ◌++◌, ℕ, List, refl, inl, inr, arith}
use Rattle.std.proofs.lemmas.Bool.{ltb-false}
use Rattle.std.specs.Prelude.{Some}
use Rattle.run_theory.specs.Lists.{Each}
use Rattle.run_theory.proofs.Pasts.{each_append}
use Rattle.sig_core.specs.declared.mark.Mark.{Mark}
use Rattle.sig_core.specs.declared.signal.Signal.{Signal}
use Rattle.sig_core.specs.declared.view.View.{View}
use Rattle.sig_core.specs.Step.{Step}
use Rattle.node_views.specs.Blocks.{parts_entered, settled_at}
use Rattle.node_views.specs.declared.host_body.HostBody as hosts
use Rattle.node_views.specs.declared.parts.Parts.{Parts}
use Rattle.node_views.specs.declared.parts.Parts.TheVariants as part
use Rattle.node_views.specs.declared.tc_part.TcPart.{TcPart}
use Rattle.node_views.specs.Row.{cut_marks}
use Rattle.node_views.proofs.HostWalk.{Saying}
use Rattle.world_views.specs.Machine.{step_by}
use Rattle.world_views.proofs.StepWalk.{step_so}
use Rattle.view_laws.proofs.eras.DecisionMarks.{DecidesNone, IsUndecided}

module _ (x : Signal) where
  -- the step decides nothing, or the host stands in no lesser view than the signal's behind it
  abbrev pub DecidesLow : Step hosts.HostBody → Type 0
  DecidesLow t = DecidesNone t ⊎ (x.view.number ≤ t.state.standing.view.number)

  abbrev Low : Saying
  Low standing parts sends marks = Each IsUndecided marks ⊎ (x.view.number ≤ standing.view.number)

  -- also where the host marks something of its own
  more_low : (view : View) (marks more : List Mark) → Each IsUndecided more
      → Each IsUndecided marks ⊎ (x.view.number ≤ view.number)
      → Each IsUndecided (marks ++ more) ⊎ (x.view.number ≤ view.number)
  more_low view marks more own (inl none) = inl (each_append IsUndecided marks more none own)
  more_low view marks more own (inr low) = inr low

  -- a coordinating part settles on no view
  tc_settles : (parts : Parts) (p : TcPart) → parts ≡ part.Tc p → (view : View) → settled_at parts x ≡ Some view → ⊥
  tc_settles (part.Tc q) p is view settled = absurd cc
  tc_settles (part.Main q) p is view settled = absurd cc
  tc_settles (part.Shell q) p is view settled = absurd cc
  tc_settles (part.Ldm q) p is view settled = absurd cc

  tc_entered_settles : (parts : Parts) (p : TcPart) → parts ≡ part.Tc p → (view : View)
      → settled_at (parts_entered parts x.view).state x ≡ Some view → ⊥
  tc_entered_settles (part.Tc q) p is view settled = absurd cc
  tc_entered_settles (part.Main q) p is view settled = absurd cc
  tc_entered_settles (part.Shell q) p is view settled = absurd cc
  tc_entered_settles (part.Ldm q) p is view settled = absurd cc

  pub tc_low : (h : ℕ) (s : hosts.HostBody) (p : TcPart) → s.parts ≡ part.Tc p → DecidesLow (step_by h s x)
  tc_low h s p is =
      step_so Low x h s (record {
        own = record {
          counts = λ standing parts sends marks left so. so;
          cuts = λ standing parts sends marks first so.
              more_low standing.view marks (cut_marks first) (refl, (refl, (refl, tt))) so;
          stops = λ standing parts sends marks cause so. more_low standing.view marks _ (refl, tt) so;
          hushes = λ standing parts sends marks stops so. so;
        };
        stays = inl tt;
        goes = λ sound old barred left. record {
          row = λ none. inr (ltb-false s.standing.view.number x.view.number old);
          settles = λ view at. absurd (tc_settles s.parts p is view at);
        };
        enters = λ sound newer among left. inr (omega arith);
        behind = λ sound newer among barred left. record {
          row = λ none. inr (omega arith);
          settles = λ view at. absurd (tc_entered_settles s.parts p is view at);
        };
      })
