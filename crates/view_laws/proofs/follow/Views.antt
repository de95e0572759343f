-- Which views a step of a host installs, and in which one it stands then.
use Rattle.std.proofs.Common.{◌≡◌, ◌<◌, ◌⊎◌, ℕ, Bool, List, [], ◌∷◌, ◌++◌, refl, ap, sym, subst, ◌∙◌, inl, inr}
use Rattle.std.specs.Prelude.{Option, None, Some}
use Rattle.sig_core.specs.declared.place.BlockId.{BlockId}
use Rattle.sig_core.specs.declared.signal.Signal.{Signal}
use Rattle.sig_core.specs.declared.view.View.{View}
use Rattle.node_views.specs.Blocks.{parts_entered, settled_at}
use Rattle.node_views.specs.declared.host_body.HostBody as hosts
use Rattle.node_views.specs.declared.parts.Parts.{Parts}
use Rattle.node_views.specs.declared.parts.Parts.TheVariants.{Ldm, Main, Shell, Tc}
use Rattle.qmgr_block.specs.Laws.{Event, installs}
use Rattle.world_views.specs.Machine.{step_by, told}
use Rattle.view_laws.specs.HostEvents.{events_at, installing, is_membership, taking}
use Rattle.view_laws.specs.Votes.{membership_in}
use Rattle.view_laws.proofs.follow.Seen.{membership_enters, to_membership, to_view, view_is_seen, view_seen, view_takes}
use Rattle.view_laws.proofs.follow.Walk.{along, along_append, next_goes}
use Rattle.view_laws.proofs.follow.Steps.{PassesAs, StepsAs, dropped, entering, passed, plain, steps_as}

-- a view that is settled on at the signal, by these parts, or where the view of its header was installed in them before
pub record IsSettled (parts : Parts) (x : Signal) (view : View) : Type 0 where
  pub at : Parts
  pub from : (at ≡ parts) ⊎ (at ≡ (parts_entered parts x.view).state)
  pub is : settled_at at x ≡ Some view

-- The view that a host stands in stays as it is in a step, or is the greater one of the signal's header, or a settled
-- one.
pub data ViewMoves (parts : Parts) (view : View) (x : Signal) (now : View) : Type 0 where
  stays : now ≡ view → ViewMoves parts view x now
  enters : view.number < x.view.number → now ≡ x.view → ViewMoves parts view x now
  settles_in : IsSettled parts x now → ViewMoves parts view x now

-- behind what blocks are passed the host stands in its view, or in the one that is settled on
abbrev pub IsAfterPass : Parts → View → Signal → View → Type 0
IsAfterPass at view x now = (now ≡ view) ⊎ (settled_at at x ≡ Some now)

pass_views : (mine : BlockId → Bool) (at : Parts) (view : View) (x : Signal) (settles : Option View)
    → settled_at at x ≡ settles
    → IsAfterPass at view x (along to_view view (installing mine settles ++ taking mine x (mine x.to.block)))
pass_views mine at view x None e = inl (sym (view_takes mine view x (mine x.to.block)))
pass_views mine at view x (Some other) e = inr e

pub passes_views : (mine : BlockId → Bool) (at : Parts) (view : View) (x : Signal) (events : List Event)
    → PassesAs mine at x events → IsAfterPass at view x (along to_view view events)
passes_views mine at view x events (dropped is) = inl (ap (along to_view view) is)
passes_views mine at view x events (passed is) =
    subst (λ es. IsAfterPass at view x (along to_view view es)) (sym is)
    (pass_views mine at view x (settled_at at x) refl)

steps_views : (mine : BlockId → Bool) (parts : Parts) (view : View) (x : Signal) (events : List Event)
    → StepsAs mine parts view x events → ViewMoves parts view x (along to_view view events)
steps_views mine parts view x events (plain passes) = by (passes_views mine parts view x events passes)
  where
    by : IsAfterPass parts view x (along to_view view events) → ViewMoves parts view x (along to_view view events)
    by (inl same) = stays same
    by (inr e) = settles_in (record { at = parts; from = inl refl; is = e })
steps_views mine parts view x events (entering above later is passes) =
    subst (λ es. ViewMoves parts view x (along to_view view es)) (sym is)
    (subst (ViewMoves parts view x) (sym (along_append to_view view later (installs x.view ∷ [])))
    (by (passes_views mine (parts_entered parts x.view).state x.view x later passes)))
  where
    by : IsAfterPass (parts_entered parts x.view).state x.view x (along to_view x.view later)
        → ViewMoves parts view x (along to_view x.view later)
    by (inl same) = enters above same
    by (inr e) = settles_in (record { at = (parts_entered parts x.view).state; from = inr refl; is = e })

pub view_moves : (h : ℕ) (s : hosts.HostBody) (x : Signal)
    → ViewMoves s.parts s.standing.view x (told h (step_by h s x)).standing.view
view_moves h s x =
    subst (ViewMoves s.parts s.standing.view x)
    (sym (next_goes is_membership view_seen to_view (view_is_seen is_membership) h s x))
    (steps_views is_membership s.parts s.standing.view x (events_at is_membership h s x) (steps_as is_membership h s x))

-- a host without a membership settles on none
pub none_settle : (parts : Parts) (x : Signal) (view : View) → membership_in parts ≡ None
    → settled_at parts x ≡ Some view
    → ⊥
none_settle (Main p) x view none e = absurd cc
none_settle (Shell p) x view none e = absurd cc
none_settle (Tc p) x view none e = absurd cc
none_settle (Ldm p) x view none e = absurd cc

none_settled : (parts : Parts) (x : Signal) (view : View) → membership_in parts ≡ None → IsSettled parts x view → ⊥
none_settled parts x view none is = by is.from
  where
    by : (is.at ≡ parts) ⊎ (is.at ≡ (parts_entered parts x.view).state) → ⊥
    by (inl same) = none_settle is.at x view (ap membership_in same ∙ none) is.is
    by (inr same) =
        none_settle is.at x view
        (ap membership_in same ∙ membership_enters parts x.view ∙ ap (λ q. to_membership q (installs x.view)) none)
        is.is

-- so its view is as it was, or the greater one of the signal's header
pub others_move : (h : ℕ) (s : hosts.HostBody) (x : Signal) → membership_in s.parts ≡ None
    → ((told h (step_by h s x)).standing.view ≡ s.standing.view)
    ⊎ ((s.standing.view.number < x.view.number) × ((told h (step_by h s x)).standing.view ≡ x.view))
others_move h s x none = by (view_moves h s x)
  where
    now : View
    now = (told h (step_by h s x)).standing.view

    by : ViewMoves s.parts s.standing.view x now
        → (now ≡ s.standing.view) ⊎ ((s.standing.view.number < x.view.number) × (now ≡ x.view))
    by (stays same) = inl same
    by (enters above same) = inr (above, same)
    by (settles_in is) = absurd (none_settled s.parts x now none is)
