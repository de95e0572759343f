-- What signals of a kind say, of those that a host takes and sends: of what a step sends, in front of what was sent
-- before.
use Rattle.std.proofs.Common.{◌≡◌, ◌∙◌, ℕ, List, [], ◌∷◌, ◌++◌, ap, inl, refl}
use Rattle.std.specs.List.{cons_option}
use Rattle.std.specs.Prelude.{Option, None, Some}
use Rattle.run_theory.specs.Lists.{Each}
use Rattle.sig_core.specs.declared.outs.Outgoing.{Outgoing}
use Rattle.sig_core.specs.declared.signal.Body.{Body}
use Rattle.world_core.specs.Start.{Start}
use Rattle.world_core.specs.Steps.{Addressed, HostStep}
use Rattle.world_views.specs.Machine.{step_after}
use Rattle.talk_laws.proofs.Among.{AreAmong, among_more}

-- what is picked of these, each in front of those before, the newest first
abbrev pub picked : {X A : Type 0} → (X → Option A) → List X → List A → List A
picked f [] before = before
picked f (x ∷ xs) before = picked f xs (cons_option (f x) before)

abbrev pub pick_sends : {A : Type 0} → (Body → Option A) → List Outgoing → List A → List A
pick_sends f sends before = picked (λ (sent : Outgoing). f sent.body) sends before

-- of the signals that a log takes, and of those that its steps send
abbrev pub taken_of : {A : Type 0} → (Body → Option A) → List HostStep → List A
taken_of f [] = []
taken_of f (e ∷ log) = cons_option (f e.step.taken.body) (taken_of f log)

abbrev pub sent_of : {A : Type 0} → (Body → Option A) → Start → ℕ → List HostStep → List A
sent_of f start h [] = []
sent_of f start h (e ∷ log) = pick_sends f (step_after start h log e).effects.sends (sent_of f start h log)

-- of signals on their way
abbrev pub on_link : {A : Type 0} → (Body → Option A) → List Addressed → List A
on_link f [] = []
on_link f (x ∷ xs) = cons_option (f x.signal.body) (on_link f xs)

module _ {A : Type 0} where
  pub cons_both : (o : Option A) (xs ys : List A) → AreAmong xs ys → AreAmong (cons_option o xs) (cons_option o ys)
  cons_both None xs ys among = among
  cons_both (Some x) xs ys among = inl (refl, among)

  pub cons_more : (o : Option A) (xs ys : List A) → AreAmong xs ys → AreAmong xs (cons_option o ys)
  cons_more None xs ys among = among
  cons_more (Some y) xs ys among = among_more y xs ys among

module _ {X A : Type 0} (f : X → Option A) where
  pub picked_both : (xs ys : List X) (before : List A)
      → picked f (xs ++ ys) before ≡ picked f ys (picked f xs before)
  picked_both [] ys before = refl
  picked_both (x ∷ xs) ys before = picked_both xs ys (cons_option (f x) before)

  pub picked_none : (xs : List X) (before : List A) → Each (λ x. f x ≡ None) xs → picked f xs before ≡ before
  picked_none [] before none = refl
  picked_none (x ∷ xs) before none =
      ap (λ o. picked f xs (cons_option o before)) none.0 ∙ picked_none xs before none.1

  pub picked_more : (xs : List X) (few all : List A) → AreAmong few all → AreAmong few (picked f xs all)
  picked_more [] few all among = among
  picked_more (x ∷ xs) few all among =
      picked_more xs few (cons_option (f x) all) (cons_more (f x) few all among)
