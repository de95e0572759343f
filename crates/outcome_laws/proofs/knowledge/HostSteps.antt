-- What the blocks of a host know, and what is so of the effects of a step: where both are kept whenever they take a
-- signal and whenever a view is installed, both are kept by a step of the host.
use Rattle.std.proofs.Common.{◌≡◌, ◌++◌, ℕ, true, List, [], ◌∷◌, subst}
use Rattle.std.proofs.lemmas.List.{append-nil}
use Rattle.sig_core.specs.declared.mark.Mark.{Mark}
use Rattle.sig_core.specs.declared.mark.Mark.TheVariants.{Installed, Stopped}
use Rattle.sig_core.specs.declared.member.HostId.{HostId}
use Rattle.sig_core.specs.declared.outcome.StopCause.{StopCause}
use Rattle.sig_core.specs.declared.outs.Outgoing.{Outgoing}
use Rattle.sig_core.specs.declared.signal.Signal.{Signal}
use Rattle.sig_core.specs.declared.view.View.{View}
use Rattle.sig_core.specs.Step.{Effects, joined, nothing}
use Rattle.node_views.specs.Blocks.{parts_entered, parts_row}
use Rattle.node_views.specs.declared.host_body.HostBody as hosts
use Rattle.node_views.specs.declared.parts.Parts.{Parts}
use Rattle.node_views.specs.declared.standing.Standing.{Standing}
use Rattle.node_views.specs.Row.{cut_marks, marks_only}
use Rattle.node_views.specs.WellFormed.{is_well_formed}
use Rattle.node_views.proofs.HostWalk.{Saying, StaysSo, TakesSo}
use Rattle.world_views.specs.Machine.{step_by}
use Rattle.world_views.proofs.StepWalk.{step_so}

-- what is so of effects is so of none, of those of the host's own marks, of more of them, and where they are hushed
pub record IsOfEffects (E : Effects → Type 0) : Type 0 where
  pub none : E nothing
  pub stops : (cause : StopCause) → E (marks_only (Stopped cause ∷ []))
  pub installs : (view : View) → E (marks_only (Installed view ∷ []))
  pub cuts : (first : HostId) → E (marks_only (cut_marks first))
  pub joins : (one other : Effects) → E one → E other → E (joined one other)
  pub hushes : (effects : Effects) → E effects → E (marks_only effects.marks)

module _ (K : Parts → Type 0) (E : Effects → Type 0) where
  -- whatever they know, at the signal and where a view is installed
  pub record AreKept (x : Signal) : Type 0 where
    pub row : (parts : Parts) → K parts → K (parts_row parts x).state × E (parts_row parts x).effects
    pub enters : (parts : Parts) (view : View) → K parts
        → K (parts_entered parts view).state × E (parts_entered parts view).effects

  abbrev Comes : Saying
  Comes standing parts sends marks = K parts × E (record { sends = sends; marks = marks })

  module _ (of : IsOfEffects E) (x : Signal) where
    -- the host marks something of its own behind it
    marked : (sends : List Outgoing) (marks more : List Mark) → E (record { sends = sends; marks = marks })
        → E (marks_only more) → E (record { sends = sends; marks = marks ++ more })
    marked sends marks more so own =
        subst (λ all. E (record { sends = all; marks = marks ++ more })) (append-nil sends)
        (of.joins (record { sends = sends; marks = marks }) (marks_only more) so own)

    stays : StaysSo Comes
    stays = record {
      counts = λ standing parts sends marks left so. so;
      cuts = λ standing parts sends marks first so. (so.0, marked sends marks _ so.1 (of.cuts first));
      stops = λ standing parts sends marks cause so. (so.0, marked sends marks _ so.1 (of.stops cause));
      hushes = λ standing parts sends marks stops so.
          (so.0, of.hushes (record { sends = sends; marks = marks }) so.1);
    }

    -- whatever signal it is, if it is so of each that is well formed
    pub step_keeps : (h : ℕ) (s : hosts.HostBody) → (is_well_formed s.standing.shape x ≡ true → AreKept x) → K s.parts
        → K (step_by h s x).state.parts × E (step_by h s x).effects
    step_keeps h s kept knows =
        step_so Comes x h s (record {
          own = stays;
          stays = (knows, of.none);
          goes = λ sound old barred left. takes (kept sound) _ s.parts nothing knows of.none;
          enters = λ sound newer among left. entering (kept sound);
          behind = λ sound newer among barred left.
              let first = entering (kept sound) in takes (kept sound) _ _ _ first.0 first.1;
        })
      where
        -- behind what was done before
        takes : AreKept x → (standing : Standing) (parts : Parts) (before : Effects) → K parts → E before
            → TakesSo Comes x standing parts before.sends before.marks
        takes kept standing parts before knows so =
            let row = kept.row parts knows in record {
              row = λ none. (row.0, of.joins before (parts_row parts x).effects so row.1);
              settles = λ view at.
                  let now = (parts_row parts x).state in
                  let then = kept.enters now view row.0 in (
                    then.0,
                    of.joins before (joined (parts_row parts x).effects (parts_entered now view).effects) so
                        (of.joins (parts_row parts x).effects (parts_entered now view).effects row.1 then.1),
                  );
            }

        entering : AreKept x
            → K (parts_entered s.parts x.view).state
            × E (joined (marks_only (Installed x.view ∷ [])) (parts_entered s.parts x.view).effects)
        entering kept =
            let first = kept.enters s.parts x.view knows in
            (first.0, of.joins (marks_only (Installed x.view ∷ [])) _ (of.installs x.view) first.1)
