-- A host that decides goes on, in the view of its last mark of one: so the view of an entry is the era of its step.
use Rattle.std.proofs.Common.{◌≡◌, ◌⊎◌, ℕ, zero, suc, Bool, true, false, List, [], ◌∷◌, refl, ap, sym, subst, ◌∙◌, inl}
use Rattle.std.proofs.Common.{inr}
use Rattle.std.specs.List.{list_any}
use Rattle.frag_map.specs.Shape.{IsShape}
use Rattle.run_theory.specs.Lists.{Each}
use Rattle.run_theory.specs.Logs.{IsLog}
use Rattle.sig_core.specs.declared.mark.Mark.{Mark}
use Rattle.sig_core.specs.declared.place.BlockId.{BlockId}
use Rattle.sig_core.specs.declared.reply.ApiReply.{ApiReply}
use Rattle.sig_core.specs.declared.view.View.{View}
use Rattle.sig_core.specs.Step.{Step}
use Rattle.node_views.specs.declared.host_body.HostBody as hosts
use Rattle.node_views.specs.declared.parts.Parts.{Parts}
use Rattle.node_views.specs.declared.parts.Parts.TheVariants.{Ldm, Main, Shell, Tc}
use Rattle.node_views.specs.Replies.{giving}
use Rattle.node_views.specs.Row.{entered, is_stop}
use Rattle.qmgr_block.specs.Laws.{Event}
use Rattle.world_core.specs.Entries.{installed_in, view_at}
use Rattle.world_core.specs.Start.{NobodyStarts, Start}
use Rattle.world_core.specs.Steps.{HostStep}
use Rattle.world_views.specs.Hosts.{started}
use Rattle.world_views.specs.Machine.{after, step_after, step_by, told}
use Rattle.view_laws.specs.HostEvents.{events_of, taking}
use Rattle.view_laws.specs.Order.{era, sound_machine}
use Rattle.view_laws.specs.Runs.{view_after}
use Rattle.view_laws.proofs.eras.Causal.{era_going}
use Rattle.view_laws.proofs.eras.DecisionMarks.{IsUndecided}
use Rattle.view_laws.proofs.eras.Parts.{entered_has, has_coordinator, still_has}
use Rattle.view_laws.proofs.eras.StepMarks.{IsMarked, step_marks, step_none}
use Rattle.view_laws.proofs.follow.Walk.{IsSeen, along, log_goes}
use Rattle.view_laws.proofs.runs.Step.{started_view}

-- whether a host has a coordinator never changes
abbrev has_seen : hosts.HostBody → Bool
has_seen s = has_coordinator s.parts

abbrev the_same : Bool → Event → Bool
the_same has event = has

no_block : BlockId → Bool
no_block block = false

along_same : (has : Bool) (events : List Event) → along the_same has events ≡ has
along_same has [] = refl
along_same has (event ∷ events) = along_same has events

entered_same : (s : hosts.HostBody) (view : View) → has_seen (entered s view).state ≡ has_seen s
unfolding entered
entered_same s view = entered_has s.parts view

tells_same : (parts : Parts) (replies : List ApiReply) → has_coordinator (giving parts replies) ≡ has_coordinator parts
tells_same (Shell p) replies = refl
tells_same (Main p) replies = refl
tells_same (Tc p) replies = refl
tells_same (Ldm p) replies = refl

has_is_seen : IsSeen no_block has_seen the_same
has_is_seen = record {
  enters = entered_same;
  takes_by = λ s x. still_has s.parts x ∙ sym (along_same (has_seen s) (taking no_block x (no_block x.to.block)));
  stands = λ s standing same. refl;
  tells = λ s replies. tells_same s.parts replies;
}

-- what is told leaves the view
pub told_view : (h : ℕ) (t : Step hosts.HostBody) → (told h t).standing.view ≡ t.state.standing.view
told_view zero t = refl
told_view (suc h) t = refl

module _ (start : Start) where
  pub still : (h : ℕ) (log : List HostStep)
      → has_coordinator (after start h log).parts ≡ has_coordinator (started start h).parts
  still h log =
      log_goes no_block has_seen the_same has_is_seen start h log
      ∙ along_same (has_seen (started start h)) (events_of no_block start h log)

  -- the marks of a log of a host with a coordinator tell the view in which it stands
  module _ (nobody : NobodyStarts start) (is_shape : IsShape start.shape) (h : ℕ)
      (has : has_coordinator (started start h).parts ≡ true) where
    marked : (log : List HostStep) (e : HostStep)
        → IsMarked (view_after start h log).number (step_by h (after start h log) e.step.taken)
    marked log e = step_marks h (after start h log) e.step.taken (still h log ∙ has)

    view_told : (log : List HostStep) → IsLog (sound_machine start) h log
        → view_at log ≡ (view_after start h log).number
    view_told [] local = sym (ap (λ (v : View). v.number) (started_view start nobody h))
    view_told (e ∷ log) local =
        let t = step_by h (after start h log) e.step.taken in
        ap (λ marks. installed_in marks (view_at log)) local.0.fits.marks
        ∙ ap (installed_in t.effects.marks) (view_told log local.1)
        ∙ (marked log e).installs ∙ sym (ap (λ (v : View). v.number) (told_view h t))

    decides_in : (log : List HostStep) (e : HostStep) → IsLog (sound_machine start) h (e ∷ log)
        → (view_at (e ∷ log) ≡ era start h (e ∷ log)) ⊎ Each IsUndecided e.step.marks
    decides_in log e local = by (marked log e).decides
      where
        marks : List Mark
        marks = (step_after start h log e).effects.marks

        by : (list_any is_stop marks ≡ false) ⊎ Each IsUndecided marks
            → (view_at (e ∷ log) ≡ era start h (e ∷ log)) ⊎ Each IsUndecided e.step.marks
        by (inl goes) =
            inl (view_told (e ∷ log) local
            ∙ sym (era_going start h log e (ap (list_any is_stop) local.0.fits.marks ∙ goes)))
        by (inr none) = inr (subst (Each IsUndecided) (sym local.0.fits.marks) none)

  -- so the view of its entries is the era of a step, or it has none
  pub decides_here : NobodyStarts start → IsShape start.shape → (h : ℕ) (log : List HostStep) (e : HostStep)
      → IsLog (sound_machine start) h (e ∷ log)
      → (view_at (e ∷ log) ≡ era start h (e ∷ log)) ⊎ Each IsUndecided e.step.marks
  decides_here nobody is_shape h log e local = by (has_coordinator (started start h).parts) refl
    where
      by : (b : Bool) → has_coordinator (started start h).parts ≡ b
          → (view_at (e ∷ log) ≡ era start h (e ∷ log)) ⊎ Each IsUndecided e.step.marks
      by true has = decides_in nobody is_shape h has log e local
      by false lacks =
          inr (subst (Each IsUndecided) (sym local.0.fits.marks)
          (step_none h (after start h log) e.step.taken (still h log ∙ lacks)))
