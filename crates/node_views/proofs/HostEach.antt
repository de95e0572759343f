-- What a host sends and marks at a signal: what is so of each signal and mark of its blocks, at the signal and where
-- views are installed before and behind, and of the marks that it makes itself, is so of each.
use Rattle.std.proofs.Common.{◌≡◌, ◌++◌, true, false, nat_lt, List, []}
use Rattle.std.specs.Prelude.{Some}
use Rattle.run_theory.specs.Lists.{Each}
use Rattle.run_theory.proofs.Pasts.{each_append}
use Rattle.sig_core.specs.declared.mark.Mark.{Mark}
use Rattle.sig_core.specs.declared.mark.Mark.TheVariants.{CutOff, Installed, Stopped}
use Rattle.sig_core.specs.declared.member.HostId.{HostId}
use Rattle.sig_core.specs.declared.outcome.StopCause.{StopCause}
use Rattle.sig_core.specs.declared.outs.Outgoing.{Outgoing}
use Rattle.sig_core.specs.declared.signal.Signal.{Signal}
use Rattle.sig_core.specs.declared.view.View.{View}
use Rattle.step_forms.specs.Does.{Does}
use Rattle.node_views.specs.Blocks.{parts_entered, parts_row, settled_at}
use Rattle.node_views.specs.declared.host_body.HostBody as hosts
use Rattle.node_views.specs.declared.parts.Parts.{Parts}
use Rattle.node_views.specs.declared.standing.Standing.{Standing}
use Rattle.node_views.specs.Row.{cut_marks, entered, host_row, is_barred, is_excluded}
use Rattle.node_views.specs.WellFormed.{is_well_formed}
use Rattle.node_views.proofs.HostWalk.{Saying, StaysSo, TakesSo, row_comes}

-- of the marks that a host makes itself
pub record IsOfHost (M : Mark → Type 0) : Type 0 where
  pub stops : (cause : StopCause) → M (Stopped cause)
  pub installs : (view : View) → M (Installed view)
  pub cuts : (host : HostId) → M (CutOff host)

module _ (P : Outgoing → Type 0) (M : Mark → Type 0) where
  -- of what these blocks do at the signal, also where they settle on a view at it
  pub record TakesEach (x : Signal) (parts : Parts) : Type 0 where
    pub row : Does P M (parts_row parts x)
    pub settles : (view : View) → settled_at parts x ≡ Some view
        → Does P M (parts_entered (parts_row parts x).state view)

  -- of what those of the host do, at the signal or where its view is installed before
  pub record HostEach (s : hosts.HostBody) (x : Signal) : Type 0 where
    pub goes : is_well_formed s.standing.shape x ≡ true → nat_lt s.standing.view.number x.view.number ≡ false
        → is_barred s x ≡ false → TakesEach x s.parts
    pub enters : is_well_formed s.standing.shape x ≡ true → nat_lt s.standing.view.number x.view.number ≡ true
        → is_excluded s.standing x.view ≡ false → Does P M (parts_entered s.parts x.view)
    pub behind : is_well_formed s.standing.shape x ≡ true → nat_lt s.standing.view.number x.view.number ≡ true
        → is_excluded s.standing x.view ≡ false → is_barred (entered s x.view).state x ≡ false
        → TakesEach x (parts_entered s.parts x.view).state

  -- Q is so of the blocks, and stays so, and wherever it is they do only this
  pub record KeepsEach (Q : Parts → Type 0) (x : Signal) : Type 0 where
    pub row : (parts : Parts) → Q parts → Does P M (parts_row parts x)
    pub enters : (parts : Parts) (view : View) → Q parts → Does P M (parts_entered parts view)
    pub stays : (parts : Parts) → Q parts → Q (parts_row parts x).state
    pub stays_entered : (parts : Parts) (view : View) → Q parts → Q (parts_entered parts view).state

  pub each_kept : (Q : Parts → Type 0) (x : Signal) → KeepsEach Q x → (s : hosts.HostBody) → Q s.parts → HostEach s x
  each_kept Q x keeps s so = record {
    goes = λ sound old barred. taken s.parts so;
    enters = λ sound newer among. keeps.enters s.parts x.view so;
    behind = λ sound newer among barred.
        taken (parts_entered s.parts x.view).state (keeps.stays_entered s.parts x.view so);
  }
    where
      taken : (parts : Parts) → Q parts → TakesEach x parts
      taken parts is = record {
        row = keeps.row parts is;
        settles = λ view at. keeps.enters (parts_row parts x).state view (keeps.stays parts is);
      }

  abbrev DoesEach : Saying
  DoesEach standing parts sends marks = Each P sends × Each M marks

  module _ (own : IsOfHost M) where
    own_each : StaysSo DoesEach
    own_each = record {
      counts = λ standing parts sends marks left so. so;
      cuts = λ standing parts sends marks first so.
          (so.0, each_append M marks (cut_marks first) so.1 (own.cuts _, (own.cuts _, (own.cuts _, tt))));
      stops = λ standing parts sends marks cause so. (so.0, each_append M marks _ so.1 (own.stops cause, tt));
      hushes = λ standing parts sends marks stops so. (tt, so.1);
    }

    module _ (x : Signal) where
      -- behind what was sent and marked before
      more : (standing : Standing) (parts : Parts) (sends : List Outgoing) (marks : List Mark)
          → Each P sends × Each M marks → TakesEach x parts → TakesSo DoesEach x standing parts sends marks
      more standing parts sends marks before is = record {
        row = λ none. (
          each_append P sends (parts_row parts x).effects.sends before.0 is.row.0,
          each_append M marks (parts_row parts x).effects.marks before.1 is.row.1,
        );
        settles = λ view at.
            let row = (parts_row parts x).effects in
            let later = (parts_entered (parts_row parts x).state view).effects in
            let did = is.settles view at in (
              each_append P sends (row.sends ++ later.sends) before.0
                  (each_append P row.sends later.sends is.row.0 did.0),
              each_append M marks (row.marks ++ later.marks) before.1
                  (each_append M row.marks later.marks is.row.1 did.1),
            );
      }

      pub row_each : (s : hosts.HostBody) → HostEach s x → Does P M (host_row s x)
      row_each s each =
          row_comes DoesEach x own_each s (record {
            own = own_each;
            stays = (tt, tt);
            goes = λ sound old barred left. more _ s.parts [] [] (tt, tt) (each.goes sound old barred);
            enters = λ sound newer among left.
                let did = each.enters sound newer among in (did.0, (own.installs x.view, did.1));
            behind = λ sound newer among barred left.
                let did = each.enters sound newer among in
                more _ _ _ _ (did.0, (own.installs x.view, did.1)) (each.behind sound newer among barred);
          })
