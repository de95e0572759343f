-- What is so of each mark that the blocks of a host make, where they take a signal and where views are installed, is so
-- of each mark of a step of the host, if it is so of the marks that the host makes itself.
use Rattle.std.proofs.Common.{◌≡◌, ℕ, true, false, nat_lt}
use Rattle.std.specs.Prelude.{Some}
use Rattle.run_theory.specs.Lists.{Each}
use Rattle.run_theory.proofs.Pasts.{each_from}
use Rattle.sig_core.specs.declared.mark.Mark.{Mark}
use Rattle.sig_core.specs.declared.outs.Outgoing.{Outgoing}
use Rattle.sig_core.specs.declared.signal.Signal.{Signal}
use Rattle.sig_core.specs.declared.view.View.{View}
use Rattle.step_forms.specs.Does.{Does}
use Rattle.sig_core.specs.Step.{Step}
use Rattle.node_views.specs.Blocks.{parts_entered, parts_row, settled_at}
use Rattle.node_views.specs.declared.host_body.HostBody as hosts
use Rattle.node_views.specs.declared.parts.Parts.{Parts}
use Rattle.node_views.specs.Row.{entered, is_barred, is_excluded}
use Rattle.node_views.proofs.HostEach as host
use Rattle.node_views.proofs.HostEach.{TakesEach}
use Rattle.world_views.specs.Machine.{step_by}
use Rattle.world_views.proofs.StepEach.{step_each}

module _ (P : Mark → Type 0) where
  -- of the host's own
  abbrev pub IsOfHost : Type 0
  IsOfHost = host.IsOfHost P

  -- by these blocks at the signal, also where they settle on a view at it
  pub record IsMarked (x : Signal) (parts : Parts) : Type 0 where
    pub row : Each P (parts_row parts x).effects.marks
    pub settles : (view : View) → settled_at parts x ≡ Some view
        → Each P (parts_entered (parts_row parts x).state view).effects.marks

  -- by those of the host, at the signal or where its view is installed before
  pub record IsMarkedBy (s : hosts.HostBody) (x : Signal) : Type 0 where
    pub goes : nat_lt s.standing.view.number x.view.number ≡ false → is_barred s x ≡ false → IsMarked x s.parts
    pub enters : Each P (parts_entered s.parts x.view).effects.marks
    pub behind : nat_lt s.standing.view.number x.view.number ≡ true → is_excluded s.standing x.view ≡ false
        → is_barred (entered s x.view).state x ≡ false
        → IsMarked x (parts_entered s.parts x.view).state

  -- whatever is sent
  abbrev AnySent : Outgoing → Type 0
  AnySent sent = Unit {0}

  marking : {S : Type 0} (step : Step S) → Each P step.effects.marks → Does AnySent P step
  marking step all = (each_from AnySent step.effects.sends (λ sent there. tt), all)

  module _ (own : IsOfHost) (x : Signal) where
    takes : (parts : Parts) → IsMarked x parts → TakesEach AnySent P x parts
    takes parts is = record {
      row = marking (parts_row parts x) is.row;
      settles = λ view at. marking (parts_entered (parts_row parts x).state view) (is.settles view at);
    }

    -- whatever signal it is
    pub step_marks : (h : ℕ) (s : hosts.HostBody) → IsMarkedBy s x → Each P (step_by h s x).effects.marks
    step_marks h s marked =
        (step_each AnySent P own x h s (record {
          goes = λ sound old barred. takes s.parts (marked.goes old barred);
          enters = λ sound newer among. marking (parts_entered s.parts x.view) marked.enters;
          behind = λ sound newer among barred.
              takes (parts_entered s.parts x.view).state (marked.behind newer among barred);
        })).1
