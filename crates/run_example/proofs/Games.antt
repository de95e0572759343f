-- The law of the game, by induction along runs with what each signal tells.
use Rattle.std.proofs.Common.{◌≡◌, ℕ, false, List, ◌∷◌, refl, sym, subst, inl}
use Rattle.run_theory.specs.Lists.{Each, IsIn, IsPast}
use Rattle.run_theory.specs.Machine.{IsStamped}
use Rattle.run_theory.specs.Runs.{log_of}
use Rattle.run_theory.specs.Along.{Comes, IsKept}
use Rattle.run_theory.proofs.Pasts.{in_past, each_map}
use Rattle.run_theory.proofs.Runs.{log_of-own, log_of-past}
use Rattle.run_theory.proofs.Orders.{each_next}
use Rattle.run_theory.proofs.Along.{along_signals_of_cuts}
use Rattle.run_example.specs.declared.game.Kind.{Kind}
use Rattle.run_example.specs.declared.game.Kind.TheVariants.{Serve, Ping, Pong}
use Rattle.run_example.specs.declared.game.Signal.{Signal}
use Rattle.run_example.specs.declared.game.Step.{Step}
use Rattle.run_example.specs.Game.{is_asked, sends, game}
use Rattle.run_example.specs.GameLaws.{HasTaken, Tells, SignalTells, AllTrue, PongsAnswerPings}

sends_stamped : (kind : Kind) (h stamp from : ℕ) → Each (λ (x : Signal). x.stamp ≡ stamp) (sends h stamp from kind)
sends_stamped (Serve host ball) h stamp from = (refl, tt)
sends_stamped (Ping ball) h stamp from = (refl, tt)
sends_stamped _ h stamp from = tt

pub game_stamped : (made : ℕ → ℕ) → IsStamped (game made)
game_stamped made = record {
  sends = λ h log e. sends_stamped e.signal.kind h e.stamp e.signal.from;
  closing = λ h log e j. refl;
}

-- a step sends what it tells of truly
sends_tell : (kind : Kind) (h stamp from : ℕ) (logs : ℕ → List Step) → HasTaken kind (logs h)
    → Each (λ x. SignalTells x logs) (sends h stamp from kind)
sends_tell (Serve host ball) h stamp from logs has = (has, tt)
sends_tell (Ping ball) h stamp from logs has = (has, tt)
sends_tell _ h stamp from logs has = tt

-- what a signal tells stays true as logs grow
tells_more : (kind : Kind) (from to : ℕ) (small large : ℕ → List Step) → ((h : ℕ) → IsPast (small h) (large h))
    → Tells kind from to small → Tells kind from to large
tells_more (Pong ball) from to small large p has = record {
  step = has.step;
  inside = in_past has.step (p from) has.inside;
  is = has.is;
}
tells_more (Ping ball) from to small large p has = record {
  step = has.step;
  inside = in_past has.step (p from) has.inside;
  is = has.is;
}
tells_more _ from to small large p has = tt

-- a signal that no link gave tells nothing
tells_asked : (kind : Kind) (from to : ℕ) (logs : ℕ → List Step) → (is_asked kind ≡ false → Tells kind from to logs)
    → Tells kind from to logs
tells_asked (Pong ball) from to logs told = told refl
tells_asked (Ping ball) from to logs told = told refl
tells_asked _ from to logs told = tt

module _ (made : ℕ → ℕ) where
  has_taken : (es : List Step) (e : Step) → HasTaken e.signal.kind (log_of (game made) (e ∷ es) e.signal.to)
  has_taken es e = record {
    step = e;
    inside = subst (IsIn e) (sym (log_of-own (game made) e es e.signal.to refl)) (inl refl);
    is = refl;
  }

  stays : (es : List Step) (e : Step) (x : Signal) → SignalTells x (log_of (game made) es)
      → SignalTells x (log_of (game made) (e ∷ es))
  stays es e x told = tells_more x.kind x.from x.to (log_of (game made) es) (log_of (game made) (e ∷ es))
      (log_of-past (game made) e es) told

  step : (es : List Step) (e : Step) → Comes (game made) SignalTells AllTrue es e
      → AllTrue (log_of (game made) (e ∷ es))
  step es e come h =
      let now : Step → Type 0 = λ f. SignalTells f.signal (log_of (game made) (e ∷ es)) in
      let before : Step → Type 0 = λ f. SignalTells f.signal (log_of (game made) es) in
      let new : before e = tells_asked e.signal.kind e.signal.from e.signal.to (log_of (game made) es) come.told in
      each_next (game made) now es e h (stays es e e.signal new)
      (each_map before now (log_of (game made) es h) (λ f. stays es e f.signal) (come.all.law h))

  kept : IsKept (game made) SignalTells AllTrue
  kept = record {
    start = λ h. tt;
    step = step;
    sends = λ es e come runs. sends_tell e.signal.kind e.signal.to e.stamp e.signal.from (log_of (game made) (e ∷ es))
        (has_taken es e);
    closing = λ es e come stop j. tt;
    stays = λ es e x come told. stays es e x told;
  }

pub pongs_answer : PongsAnswerPings
pongs_answer made n inside logs within a cut closed =
    (along_signals_of_cuts (game made) (game_stamped made) SignalTells AllTrue (kept made) n inside logs within a cut
    closed).law
