-- Blocks take one signal in a step of their host at most.
use Rattle.std.proofs.Common.{◌≡◌, ◌⊎◌, ℕ, Bool, true, false, List, [], ◌∷◌, ◌++◌, refl, ap, ◌∙◌, inl, inr}
use Rattle.std.specs.Prelude.{Option, None, Some}
use Rattle.sig_core.specs.declared.place.BlockId.{BlockId}
use Rattle.sig_core.specs.declared.signal.Signal.{Signal}
use Rattle.sig_core.specs.declared.view.View.{View}
use Rattle.node_views.specs.Blocks.{settled_at}
use Rattle.node_views.specs.declared.host_body.HostBody as hosts
use Rattle.node_views.specs.declared.parts.Parts.{Parts}
use Rattle.qmgr_block.specs.Laws.{Event, installs, takes}
use Rattle.view_laws.specs.HostEvents.{events_at, installing, taken_in, taking}
use Rattle.view_laws.proofs.follow.Steps.{PassesAs, StepsAs, dropped, entering, passed, plain, steps_as}

pub taken_append : (new old : List Event) → taken_in (new ++ old) ≡ taken_in new ++ taken_in old
taken_append [] old = refl
taken_append (takes x ∷ new) old = ap (λ xs. x ∷ xs) (taken_append new old)
taken_append (installs view ∷ new) old = taken_append new old

taken_before : (events : List Event) (view : View) → taken_in (events ++ installs view ∷ []) ≡ taken_in events
taken_before [] view = refl
taken_before (takes x ∷ events) view = ap (λ xs. x ∷ xs) (taken_before events view)
taken_before (installs other ∷ events) view = taken_before events view

-- nothing is taken, or the signal, which is for one of these blocks
abbrev pub IsTakenOnce : (BlockId → Bool) → Signal → List Signal → Type 0
IsTakenOnce mine x xs = (xs ≡ []) ⊎ ((xs ≡ x ∷ []) × (mine x.to.block ≡ true))

module _ (mine : BlockId → Bool) where
  taking_once : (x : Signal) (own : Bool) → mine x.to.block ≡ own → IsTakenOnce mine x (taken_in (taking mine x own))
  taking_once x true e = inr (refl, e)
  taking_once x false e = inl refl

  block_once : (x : Signal) (settles : Option View)
      → IsTakenOnce mine x (taken_in (installing mine settles ++ taking mine x (mine x.to.block)))
  block_once x None = taking_once x (mine x.to.block) refl
  block_once x (Some view) = taking_once x (mine x.to.block) refl

  same_once : (x : Signal) (xs ys : List Signal) → xs ≡ ys → IsTakenOnce mine x ys → IsTakenOnce mine x xs
  same_once x xs ys same (inl none) = inl (same ∙ none)
  same_once x xs ys same (inr one) = inr (same ∙ one.0, one.1)

  passes_once : (parts : Parts) (x : Signal) (events : List Event) → PassesAs mine parts x events
      → IsTakenOnce mine x (taken_in events)
  passes_once parts x events (dropped is) = inl (ap taken_in is)
  passes_once parts x events (passed is) =
      same_once x (taken_in events) _ (ap taken_in is) (block_once x (settled_at parts x))

  steps_once : (parts : Parts) (view : View) (x : Signal) (events : List Event) → StepsAs mine parts view x events
      → IsTakenOnce mine x (taken_in events)
  steps_once parts view x events (plain passes) = passes_once parts x events passes
  steps_once parts view x events (entering above later is passes) =
      same_once x (taken_in events) (taken_in later) (ap taken_in is ∙ taken_before later x.view)
      (passes_once _ x later passes)

  pub taken_once : (h : ℕ) (s : hosts.HostBody) (x : Signal) → IsTakenOnce mine x (taken_in (events_at mine h s x))
  taken_once h s x = steps_once s.parts s.standing.view x (events_at mine h s x) (steps_as mine h s x)
