-- What is so of each signal that the blocks of a host send, where they take a signal and where views are installed, is
-- so of each that a step of the host sends.
use Rattle.std.proofs.Common.{◌≡◌, ℕ, true, false, nat_lt}
use Rattle.std.specs.Prelude.{Some}
use Rattle.run_theory.specs.Lists.{Each}
use Rattle.run_theory.proofs.Pasts.{each_from}
use Rattle.sig_core.specs.declared.mark.Mark.{Mark}
use Rattle.sig_core.specs.declared.outs.Outgoing.{Outgoing}
use Rattle.sig_core.specs.declared.signal.Signal.{Signal}
use Rattle.sig_core.specs.declared.view.View.{View}
use Rattle.sig_core.specs.Step.{Step}
use Rattle.step_forms.specs.Does.{Does}
use Rattle.node_views.specs.Blocks.{parts_entered, parts_row, settled_at}
use Rattle.node_views.specs.declared.host_body.HostBody as hosts
use Rattle.node_views.specs.declared.parts.Parts.{Parts}
use Rattle.node_views.specs.Row.{entered, is_barred, is_excluded}
use Rattle.node_views.proofs.HostEach.{TakesEach}
use Rattle.world_views.specs.Machine.{step_by}
use Rattle.world_views.proofs.StepEach.{step_each}

module _ (P : Outgoing → Type 0) where
  -- by these blocks at the signal, also where they settle on a view at it
  pub record IsSent (x : Signal) (parts : Parts) : Type 0 where
    pub row : Each P (parts_row parts x).effects.sends
    pub settles : (view : View) → settled_at parts x ≡ Some view
        → Each P (parts_entered (parts_row parts x).state view).effects.sends

  -- by those of the host, at the signal or where its view is installed before
  pub record IsSentBy (s : hosts.HostBody) (x : Signal) : Type 0 where
    pub goes : nat_lt s.standing.view.number x.view.number ≡ false → is_barred s x ≡ false → IsSent x s.parts
    pub enters : Each P (parts_entered s.parts x.view).effects.sends
    pub behind : nat_lt s.standing.view.number x.view.number ≡ true → is_excluded s.standing x.view ≡ false
        → is_barred (entered s x.view).state x ≡ false
        → IsSent x (parts_entered s.parts x.view).state

  -- whatever is marked
  abbrev AnyMark : Mark → Type 0
  AnyMark mark = Unit {0}

  sending : {S : Type 0} (step : Step S) → Each P step.effects.sends → Does P AnyMark step
  sending step all = (all, each_from AnyMark step.effects.marks (λ mark there. tt))

  takes : (x : Signal) (parts : Parts) → IsSent x parts → TakesEach P AnyMark x parts
  takes x parts is = record {
    row = sending (parts_row parts x) is.row;
    settles = λ view at. sending (parts_entered (parts_row parts x).state view) (is.settles view at);
  }

  pub step_sends : (h : ℕ) (s : hosts.HostBody) (x : Signal) → IsSentBy s x → Each P (step_by h s x).effects.sends
  step_sends h s x by =
      (step_each P AnyMark (record { stops = λ cause. tt; installs = λ view. tt; cuts = λ host. tt }) x h s (record {
        goes = λ sound old barred. takes x s.parts (by.goes old barred);
        enters = λ sound newer among. sending (parts_entered s.parts x.view) by.enters;
        behind = λ sound newer among barred.
            takes x (parts_entered s.parts x.view).state (by.behind newer among barred);
      })).0
