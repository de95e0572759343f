-- A takeover that wasn't ordered yet does nothing until it is.
use Rattle.std.proofs.Common.{◌≡◌, ◌∙◌, Bool, true, false, refl, sym, ap}
use Rattle.std.proofs.lemmas.Bool.{true≢false}
use Rattle.sig_core.specs.declared.signal.Body.TheVariants.{Takeover}
use Rattle.sig_core.specs.declared.signal.Signal.{Signal}
use Rattle.sig_core.specs.declared.signal.takeover.TakeoverSignal.TheVariants.{TakeoverOrd}
use Rattle.sig_core.specs.Step.{Step, stay}
use Rattle.takeover_block.specs.declared.stage.Stage.{Stage}
use Rattle.takeover_block.specs.declared.stage.Stage.TheVariants.{Resting}
use Rattle.takeover_block.specs.Rule.{is_at_work}
use Rattle.takeover_block.specs.State.{TakeoverState}
use Rattle.takeover_block.specs.Takeover.{takeover_row}
use Rattle.takeover_block.proofs.EachTakeover.{takeover_each}

-- it rests
abbrev pub is_resting : Stage → Bool
is_resting Resting = true
is_resting stage = false

pub idle_stays : (s : TakeoverState) (x : Signal) → s.stage ≡ Resting → (x.body ≡ Takeover TakeoverOrd → ⊥)
    → takeover_row s x ≡ stay s
idle_stays s x rests other =
    takeover_each s (λ (step : Step TakeoverState). step ≡ stay s) x.body (record {
      stays = λ off. refl;
      untold = λ tx key state epoch is idle. refl;
      unended = λ is idle. refl;
      orders = λ is some. absurd (other is);
      orders_nobody = λ is none. absurd (other is);
      asks = λ place n is due at. absurd (never _ at refl);
      tells = λ tx key state epoch n is at. absurd (never _ at refl);
      ends = λ n is at more. absurd (never _ at refl);
      all_end = λ n is at last. absurd (never _ at refl);
      commits = λ tx key g e n is first at more. absurd (never _ at refl);
      all_commit = λ tx key g e n is first at last. absurd (never _ at refl);
      completes = λ tx key g e n is first at more. absurd (never _ at refl);
      all_complete = λ tx key g e n is first at last. absurd (never _ at refl);
      aborts = λ tx key g n is first at more. absurd (never _ at refl);
      all_abort = λ tx key g n is first at last. absurd (never _ at refl);
      goes_on = λ tx place g is due work first. absurd (true≢false (sym work ∙ ap is_at_work rests));
    })
  where
    never : (stage : Stage) → s.stage ≡ stage → is_resting stage ≡ false → ⊥
    never stage at off = true≢false (sym (ap is_resting (sym at ∙ rests)) ∙ off)
