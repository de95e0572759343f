-- What a host that coordinates sends of the end of a takeover comes from its takeover.
use Rattle.std.proofs.Common.{◌≡◌, ◌⊎◌, ◌++◌, ◌∙◌, ℕ, Bool, false, List, [], ◌∷◌, inl, inr, refl, sym, ap, subst}
use Rattle.std.proofs.lemmas.Bool.{true≢false}
use Rattle.run_theory.specs.Lists.{Each}
use Rattle.run_theory.proofs.Pasts.{each_append, each_map}
use Rattle.sig_core.specs.declared.outs.Outgoing.{Outgoing}
use Rattle.sig_core.specs.declared.place.BlockId.{BlockId}
use Rattle.sig_core.specs.declared.place.BlockId.TheVariants as block
use Rattle.sig_core.specs.declared.signal.Body.TheVariants.{Takeover}
use Rattle.sig_core.specs.declared.signal.Signal.{Signal}
use Rattle.sig_core.specs.declared.signal.takeover.TakeoverSignal.TheVariants.{TakeoverEnd}
use Rattle.sig_core.specs.declared.view.View.{View}
use Rattle.dih_node.specs.Orders as epochs
use Rattle.tc_views.specs.Views as coordinators
use Rattle.takeover_block.specs.Takeover.{takeover_row}
use Rattle.node_views.specs.declared.parts.Parts.TheVariants as part
use Rattle.node_views.specs.declared.tc_part.TcPart.{TcPart}
use Rattle.node_views.specs.Parts.{tc_row}
use Rattle.world_core.specs.Start.{Start}
use Rattle.world_core.specs.Steps.{HostStep}
use Rattle.world_views.specs.Machine.{step_after}
use Rattle.view_laws.specs.Runs.{view_after}
use Rattle.moment_laws.specs.Parts.{IsPassed}
use Rattle.moment_laws.specs.PartSteps.{PartEnters, PartTakes, handles, ignores, installs, remains, tc_kind}
use Rattle.request_laws.proofs.routes.PartSteps.{TcStep}
use Rattle.dih_node.specs.Words.{is_dih_word}
use Rattle.dih_node.proofs.Walk.{dih_words}
use Rattle.sig_core.specs.declared.signal.Body.{Body}
use Rattle.step_forms.specs.Does.{IsWord}
use Rattle.tc_views.specs.Words.{is_coordinator_word}
use Rattle.tc_views.proofs.Walk.{coordinator_words}

module _ (start : Start) (h : ℕ) (log : List HostStep) (e : HostStep) (step : TcStep start h log e) (P : Type 0) where
  abbrev x : Signal
  x = e.step.taken

  abbrev between : TcPart
  between = step.does.between

  abbrev view : View
  view = view_after start h (e ∷ log)

  -- where a signal tells of the end, this is so
  abbrev Over : Outgoing → Type 0
  Over o = o.body ≡ Takeover TakeoverEnd → P

  module _ (takeover : IsPassed start.shape (part.Tc step.does.between) (view_after start h (e ∷ log)) e.step.taken
      → e.step.taken.to.block ≡ block.Takeover
      → Each (λ (o : Outgoing). o.body ≡ Takeover TakeoverEnd → P)
      (takeover_row step.does.between.takeover e.step.taken).effects.sends)
    where
      of_words : (words : Body → Bool) → words (Takeover TakeoverEnd) ≡ false → (sends : List Outgoing)
          → Each (IsWord words) sends → Each Over sends
      of_words words none sends all =
          each_map (IsWord words) Over sends (λ o word is. absurd (true≢false (sym word ∙ ap words is ∙ none))) all

      row_over : IsPassed start.shape (part.Tc between) view x → (b : BlockId) → x.to.block ≡ b
          → Each Over (tc_row between b x).effects.sends
      unfolding tc_row
      row_over passed block.Takeover to = takeover passed to
      row_over passed block.Tc to =
          of_words is_coordinator_word refl _ (coordinator_words.takes between.coordinator x).0
      row_over passed block.Dih to = of_words is_dih_word refl _ (dih_words.0 between.dih x).0
      row_over passed _ to = tt

      front_over : PartEnters tc_kind step.own (view_after start h log) x between view step.does.front
          → Each Over step.does.front
      front_over (remains same seen none) = subst (Each Over) (sym none) tt
      front_over (installs above same seen is) =
          subst (Each Over) (sym is)
          (each_append Over (coordinators.install_row step.own.coordinator x.view).effects.sends
          (epochs.install_row step.own.dih x.view.number).effects.sends
          (of_words is_coordinator_word refl _ (coordinator_words.installs step.own.coordinator x.view).0)
          (of_words is_dih_word refl _ (dih_words.1 step.own.dih x.view.number).0))

      rest_over : PartTakes tc_kind start.shape between view x step.does.own step.does.rest
          → Each Over step.does.rest
      rest_over (ignores same none) = subst (Each Over) (sym none) tt
      rest_over (handles passed same is) = subst (Each Over) (sym is) (row_over passed x.to.block refl)

      pub sends_over : Each (λ (o : Outgoing). o.body ≡ Takeover TakeoverEnd → P)
          (step_after start h log e).effects.sends
      sends_over = by step.does.sent
        where
          sends : List Outgoing
          sends = (step_after start h log e).effects.sends

          by : (sends ≡ step.does.front ++ step.does.rest) ⊎ (sends ≡ []) → Each Over sends
          by (inl whole) =
              subst (Each Over) (sym whole)
              (each_append Over step.does.front step.does.rest (front_over step.does.enters)
              (rest_over step.does.takes))
          by (inr nothing) = subst (Each Over) (sym nothing) tt
