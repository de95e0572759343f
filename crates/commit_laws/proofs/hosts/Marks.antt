-- Which marks a step has of a host that settles on no view: the host's own, those of an installation, and those of its
-- blocks, which take the signal once its view is installed.
use Rattle.std.proofs.Common.{◌≡◌, ℕ, Bool, true, false, List, [], refl, sym, subst, arith, ◌∙◌}
use Rattle.std.proofs.lemmas.Bool.{ltb-true, ltb-false}
use Rattle.std.specs.Prelude.{None, Some}
use Rattle.run_theory.specs.Lists.{Each, IsIn}
use Rattle.run_theory.proofs.Pasts.{each_from}
use Rattle.moment_laws.proofs.PartSteps.{not_barred}
use Rattle.world_views.proofs.StepEach.{step_each}
use Rattle.node_views.proofs.HostEach.{TakesEach}
use Rattle.sig_core.specs.declared.mark.Mark.{Mark}
use Rattle.sig_core.specs.declared.mark.Mark.TheVariants.{CutOff, Installed, Stopped}
use Rattle.sig_core.specs.declared.outs.Outgoing.{Outgoing}
use Rattle.sig_core.specs.declared.signal.Signal.{Signal}
use Rattle.sig_core.specs.declared.view.Shape.{Shape}
use Rattle.sig_core.specs.declared.view.View.{View}
use Rattle.node_views.specs.Blocks.{parts_entered, parts_row, settled_at}
use Rattle.node_views.specs.declared.host_body.HostBody as hosts
use Rattle.node_views.specs.declared.parts.Parts.{Parts}
use Rattle.node_views.specs.Row.{entered}
use Rattle.world_core.specs.Start.{NobodyStarts, Start}
use Rattle.world_core.specs.Steps.{HostStep}
use Rattle.world_views.specs.Machine.{after, step_after, step_by}
use Rattle.view_laws.proofs.eras.Shapes.{shape_stays}
use Rattle.view_laws.specs.Runs.{view_after}
use Rattle.moment_laws.specs.Parts.{Enters, IsPassed, enters, stays}

-- the host's own marks
abbrev pub is_own_mark : Mark → Bool
is_own_mark (Stopped cause) = true
is_own_mark (Installed view) = true
is_own_mark (CutOff host) = true
is_own_mark mark = false

-- blocks that may take the signal mark it
pub record IsOfRow (shape : Shape) (parts : Parts) (view : View) (x : Signal) (mark : Mark) : Type 0 where
  pub between : Parts
  pub seen : View
  pub front : List Outgoing
  pub entering : Enters parts view x between seen front
  pub passed : IsPassed shape between seen x
  pub there : IsIn mark (parts_row between x).effects.marks

-- where a mark comes from
pub data IsFrom (shape : Shape) (parts : Parts) (view : View) (x : Signal) (mark : Mark) : Type 0 where
  of_host : is_own_mark mark ≡ true → IsFrom shape parts view x mark
  of_installation : IsIn mark (parts_entered parts x.view).effects.marks → IsFrom shape parts view x mark
  of_blocks : IsOfRow shape parts view x mark → IsFrom shape parts view x mark

-- whatever is sent
abbrev AnySend : Outgoing → Type 0
AnySend sent = Unit {0}

module _ (x : Signal) (s : hosts.HostBody) where
  abbrev Is : Mark → Type 0
  Is mark = IsFrom s.standing.shape s.parts s.standing.view x mark

  -- where these blocks take the signal, behind an installation or none
  taking : (between : Parts) (seen : View) (front : List Outgoing)
      → Enters s.parts s.standing.view x between seen front → IsPassed s.standing.shape between seen x
      → settled_at between x ≡ None → TakesEach AnySend Is x between
  taking between seen front entering passed none = record {
    row = (
      each_from AnySend (parts_row between x).effects.sends (λ sent there. tt),
      each_from Is (parts_row between x).effects.marks
          (λ mark there.
          of_blocks
          (record {
            between = between;
            seen = seen;
            front = front;
            entering = entering;
            passed = passed;
            there = there;
          })),
    );
    settles = λ view at. absurd (let both : None ≡ Some view = sym none ∙ at in cc);
  }

  step_marks : (h : ℕ) → settled_at s.parts x ≡ None → settled_at (parts_entered s.parts x.view).state x ≡ None
      → Each (IsFrom s.standing.shape s.parts s.standing.view x) (step_by h s x).effects.marks
  unfolding entered
  step_marks h unsettled then_unsettled =
      (step_each AnySend Is
      (record { stops = λ cause. of_host refl; installs = λ view. of_host refl; cuts = λ host. of_host refl }) x h s
      (record {
        goes = λ sound old barred.
            taking s.parts s.standing.view [] (stays refl refl refl)
            (record {
              sound = sound;
              low = ltb-false s.standing.view.number x.view.number old;
              fresh = not_barred s x barred;
            })
            unsettled;
        enters = λ sound newer among. (
          each_from AnySend (parts_entered s.parts x.view).effects.sends (λ sent there. tt),
          each_from Is (parts_entered s.parts x.view).effects.marks (λ mark there. of_installation there),
        );
        behind = λ sound newer among barred.
            taking (parts_entered s.parts x.view).state x.view (parts_entered s.parts x.view).effects.sends
            (enters (ltb-true s.standing.view.number x.view.number newer) refl refl refl)
            (record { sound = sound; low = omega arith; fresh = not_barred (entered s x.view).state x barred })
            then_unsettled;
      })).1

-- so it is along a log
pub host_marks : (start : Start) (nobody : NobodyStarts start) (h : ℕ) (log : List HostStep) (e : HostStep)
    → settled_at (after start h log).parts e.step.taken ≡ None
    → settled_at (parts_entered (after start h log).parts e.step.taken.view).state e.step.taken ≡ None
    → Each (IsFrom start.shape (after start h log).parts (view_after start h log) e.step.taken)
    (step_after start h log e).effects.marks
host_marks start nobody h log e unsettled then_unsettled =
    subst
    (λ shape. Each (IsFrom shape (after start h log).parts (view_after start h log) e.step.taken)
    (step_after start h log e).effects.marks)
    (shape_stays start nobody h log) (step_marks e.step.taken (after start h log) h unsettled then_unsettled)
