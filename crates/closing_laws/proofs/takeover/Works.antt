-- A takeover comes to its work, and ends it, only behind the last word of a member, or where there is none to ask.
use Rattle.std.proofs.Common.{◌≡◌, ◌==◌, ◌∙◌, ℕ, Bool, true, false, nat_lt, refl, sym, ap}
use Rattle.std.proofs.lemmas.Bool.{true≢false}
use Rattle.std.specs.Prelude.{map}
use Rattle.run_theory.specs.Lists.{Each}
use Rattle.run_theory.proofs.EachSent.{each_mapped}
use Rattle.run_theory.proofs.Pasts.{each_append, each_from, each_map}
use Rattle.sig_core.specs.declared.outs.Outgoing.{Outgoing}
use Rattle.sig_core.specs.declared.signal.Body.{Body}
use Rattle.sig_core.specs.declared.signal.Body.TheVariants.{Takeover}
use Rattle.sig_core.specs.declared.signal.host.Work.TheVariants as work
use Rattle.sig_core.specs.declared.signal.takeover.TakeoverSignal.TheVariants.{LqhTransEnd, TakeoverEnd, TakeoverOrd}
use Rattle.sig_core.specs.declared.view.View.{View}
use Rattle.sig_core.specs.Place.{takeover}
use Rattle.sig_core.specs.Step.{Step}
use Rattle.takeover_block.specs.declared.stage.Stage.TheVariants.{Gathering}
use Rattle.takeover_block.specs.Gather.{member_count}
use Rattle.takeover_block.specs.Rule.{is_at_work}
use Rattle.takeover_block.specs.Sends.{ask_effects, ask_of, asks_of}
use Rattle.takeover_block.specs.State.{TakeoverState}
use Rattle.takeover_block.specs.Takeover.{takeover_row}
use Rattle.takeover_block.proofs.EachTakeover.{TakeoverForms, takeover_each}
use Rattle.sig_core.specs.declared.signal.Signal.{Signal}
use Rattle.view_laws.proofs.words.Sent.{IsOf, portion_kinds}

-- it is at work, or takes the last word of a member, or has none to ask
pub data Begins (s : TakeoverState) (body : Body) : Type 0 where
  was_at_work : is_at_work s.stage ≡ true → Begins s body
  all_ended : (n : ℕ) → body ≡ Takeover LqhTransEnd → s.stage ≡ Gathering n → nat_lt 1 n ≡ false → Begins s body
  nobody : body ≡ Takeover TakeoverOrd → (member_count s.layout.view == 0) ≡ true → Begins s body

pub record Works (s : TakeoverState) (body : Body) (step : Step TakeoverState) : Type 0 where
  pub works : is_at_work step.state.stage ≡ true → Begins s body
  pub over : Each (λ (o : Outgoing). o.body ≡ Takeover TakeoverEnd → Begins s body) step.effects.sends

abbrev is_going : Body → Bool
is_going (Takeover TakeoverEnd) = false
is_going body = true

asks_go : (node : ℕ) (view : View) (at : ℕ) → Each (IsOf is_going) (ask_effects node view at).sends
unfolding ask_effects asks_of
asks_go node view at =
    portion_kinds is_going (takeover node) work.Members (asks_of view) at (λ left. refl)
    (each_append (IsOf is_going) (map ask_of view.full) (map ask_of view.starting)
    (each_mapped (IsOf is_going) ask_of view.full (λ m. refl))
    (each_mapped (IsOf is_going) ask_of view.starting (λ m. refl)))

module _ (s : TakeoverState) (body : Body) where
  begins : (step : Step TakeoverState) → Begins s body → Works s body step
  begins step so = record {
    works = λ is. so;
    over =
        each_from (λ (o : Outgoing). o.body ≡ Takeover TakeoverEnd → Begins s body) step.effects.sends
        (λ o there is. so);
  }

  -- where it doesn't, nothing says so
  rests : (step : Step TakeoverState) → is_at_work step.state.stage ≡ false → Each (IsOf is_going) step.effects.sends
      → Works s body step
  rests step off all = record {
    works = λ is. absurd (true≢false (sym is ∙ off));
    over =
        each_map (IsOf is_going) (λ (o : Outgoing). o.body ≡ Takeover TakeoverEnd → Begins s body) step.effects.sends
        (λ o on is. absurd (true≢false (sym on ∙ ap is_going is))) all;
  }

  forms : TakeoverForms s body (Works s body)
  forms = record {
    stays = λ off. record { works = λ is. was_at_work is; over = tt };
    untold = λ tx key state epoch is off. record { works = λ is. was_at_work is; over = tt };
    unended = λ is off. record { works = λ is. was_at_work is; over = tt };
    orders = λ is some. rests _ refl (asks_go s.node s.layout.view 0);
    orders_nobody = λ is none. begins _ (nobody is none);
    asks = λ place n is left at. rests _ (ap is_at_work at) (asks_go s.node s.layout.view place);
    tells = λ tx key state epoch n is at. rests _ (ap is_at_work at) tt;
    ends = λ n is at more. rests _ refl tt;
    all_end = λ n is at last. begins _ (all_ended n is at last);
    commits = λ tx key g e n is first at more. begins _ (was_at_work (ap is_at_work at));
    all_commit = λ tx key g e n is first at last. begins _ (was_at_work (ap is_at_work at));
    completes = λ tx key g e n is first at more. begins _ (was_at_work (ap is_at_work at));
    all_complete = λ tx key g e n is first at last. begins _ (was_at_work (ap is_at_work at));
    aborts = λ tx key g n is first at more. begins _ (was_at_work (ap is_at_work at));
    all_abort = λ tx key g n is first at last. begins _ (was_at_work (ap is_at_work at));
    goes_on = λ tx place g is left at first. begins _ (was_at_work at);
  }

pub takeover_works : (s : TakeoverState) (x : Signal) → Works s x.body (takeover_row s x)
takeover_works s x = takeover_each s (Works s x.body) x.body (forms s x.body)
