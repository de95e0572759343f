-- A takeover that is at work on nobody, before a step and behind it, speaks of nobody by it.
use Rattle.std.proofs.Common.{◌≡◌, ◌∙◌, ℕ, true, false, List, map, refl, sym, ap}
use Rattle.std.proofs.lemmas.Bool.{true≢false}
use Rattle.std.specs.Prelude.{Option, None, Some, slice_get}
use Rattle.sig_core.specs.declared.member.TxId.{TxId}
use Rattle.sig_core.specs.declared.signal.Signal.{Signal}
use Rattle.sig_core.specs.Step.{Step}
use Rattle.step_forms.proofs.PortionLemmas.{portion_each}
use Rattle.run_theory.proofs.EachSent.{each_mapped}
use Rattle.run_theory.proofs.Pasts.{each_append}
use Rattle.sig_core.specs.declared.signal.host.Work.TheVariants as work
use Rattle.sig_core.specs.declared.view.View.{View}
use Rattle.sig_core.specs.Place.{takeover}
use Rattle.takeover_block.specs.Sends.{ask_effects, ask_of, asks_of}
use Rattle.frag_map.specs.Layout.{Layout}
use Rattle.takeover_block.specs.declared.gathered.Gathered.{Gathered}
use Rattle.takeover_block.specs.declared.stage.Stage.{Stage}
use Rattle.takeover_block.specs.declared.stage.Stage.TheVariants.{Aborting, Committing, Completing}
use Rattle.takeover_block.specs.Rule.{entering, is_at_work, ruling, ruling_by, way_by, way_of}
use Rattle.takeover_block.specs.State.{TakeoverState}
use Rattle.takeover_block.specs.Takeover.{takeover_row}
use Rattle.takeover_block.proofs.EachTakeover.{takeover_each}
use Rattle.commit_laws.proofs.fates.SpokenWords.{AreSpoken, IsSpoken}

module _ (A C : TxId → Type 0) where
  -- if it rests behind it
  abbrev IfRests : Step TakeoverState → Type 0
  IfRests step = is_at_work step.state.stage ≡ false → AreSpoken A C step.effects.sends

  asks_spoken : (node : ℕ) (view : View) (at : ℕ) → AreSpoken A C (ask_effects node view at).sends
  unfolding ask_effects asks_of
  asks_spoken node view at =
      portion_each (IsSpoken A C) (takeover node) work.Members (asks_of view) at (λ left. tt)
      (each_append (IsSpoken A C) (map ask_of view.full) (map ask_of view.starting)
      (each_mapped (IsSpoken A C) ask_of view.full (λ m. tt))
      (each_mapped (IsSpoken A C) ask_of view.starting (λ m. tt)))

  at_way : (layout : Layout) (keys : List (List ℕ)) (epoch : Option ℕ) → is_at_work (way_by layout keys epoch) ≡ true
  at_way layout keys None = refl
  at_way layout keys (Some epoch) = refl

  rules_rest : (s : TakeoverState) → IfRests (ruling s)
  unfolding ruling entering way_of
  rules_rest s = by (slice_get s.gathered 0)
    where
      by : (first : Option Gathered) → IfRests (ruling_by s first)
      by None = λ rests. (tt, (tt, tt))
      by (Some g) = λ rests. absurd (true≢false (sym (at_way s.layout g.keys g.epoch) ∙ rests))

  pub rests_quiet : (s : TakeoverState) (x : Signal) → is_at_work s.stage ≡ false
      → is_at_work (takeover_row s x).state.stage ≡ false → AreSpoken A C (takeover_row s x).effects.sends
  rests_quiet s x was =
      takeover_each s IfRests x.body (record {
        stays = λ off rests. tt;
        untold = λ tx key state epoch is off rests. tt;
        unended = λ is off rests. tt;
        orders = λ is some rests. asks_spoken s.node s.layout.view 0;
        orders_nobody = λ is none. rules_rest _;
        asks = λ place n is due at rests. asks_spoken s.node s.layout.view place;
        tells = λ tx key state epoch n is at rests. tt;
        ends = λ n is at more rests. tt;
        all_end = λ n is at last. rules_rest s;
        commits = λ tx key g e n is first at more rests. tt;
        all_commit = λ tx key g e n is first at last rests. absurd (works (Committing e n) at refl);
        completes = λ tx key g e n is first at more rests. tt;
        all_complete = λ tx key g e n is first at last rests. absurd (works (Completing e n) at refl);
        aborts = λ tx key g n is first at more rests. tt;
        all_abort = λ tx key g n is first at last rests. absurd (works (Aborting n) at refl);
        goes_on = λ tx place g is due at first rests. absurd (true≢false (sym at ∙ was));
      })
    where
      works : (stage : Stage) → s.stage ≡ stage → is_at_work stage ≡ true → ⊥
      works stage at work = true≢false (sym work ∙ (sym (ap is_at_work at) ∙ was))
