-- A takeover that has gathered only driven transactions sends only what is routed in its view.
use Rattle.std.proofs.Common.{◌≡◌, ◌<◌, ◌⊎◌, ◌+◌, ℕ, Bool, true, false, List, ◌∷◌, drop, inl, inr, length, map, nat_lt}
use Rattle.std.proofs.Common.{refl, subst, sym, take}
use Rattle.std.specs.List.{flat_map}
use Rattle.std.specs.Prelude.{Option, None, Some, remove, slice_get}
use Rattle.run_theory.specs.Lists.{Each}
use Rattle.run_theory.proofs.EachSent.{each_drop, each_flat, each_get, each_mapped, each_removed, each_take}
use Rattle.run_theory.proofs.Pasts.{each_after, each_append, each_before}
use Rattle.sig_core.specs.declared.member.TxId.{TxId}
use Rattle.sig_core.specs.declared.outs.Outgoing.{Outgoing}
use Rattle.sig_core.specs.declared.place.Place.{Place}
use Rattle.sig_core.specs.declared.portion.TheConstants.{PORTION}
use Rattle.sig_core.specs.declared.signal.Signal.{Signal}
use Rattle.sig_core.specs.declared.signal.host.Work.{Work}
use Rattle.sig_core.specs.declared.signal.host.Work.TheVariants as work
use Rattle.sig_core.specs.declared.view.View.{View}
use Rattle.sig_core.specs.Place.{takeover}
use Rattle.sig_core.specs.Portion.{go_on_at, portion_effects, rest_if}
use Rattle.frag_map.specs.Layout.{Layout, chain_of}
use Rattle.takeover_block.specs.declared.gathered.Gathered.{Gathered}
use Rattle.takeover_block.specs.declared.stage.Stage.{Stage}
use Rattle.takeover_block.specs.declared.stage.Stage.TheVariants.{Resting, Gathering, Committing, Completing, Aborting}
use Rattle.takeover_block.specs.Gathered.{first_of, noted, told_epoch, told_first, told_more}
use Rattle.takeover_block.specs.Rule.{entering, finishing, ruling, ruling_by, way_of}
use Rattle.takeover_block.specs.Sends.{abort_at, ask_effects, ask_of, asks_of, front_sends, key_sends, key_sends_along}
use Rattle.takeover_block.specs.Sends.{stage_effects, stage_sends}
use Rattle.takeover_block.specs.State.{TakeoverState, with_gathered}
use Rattle.takeover_block.specs.Takeover.{takeover_row}
use Rattle.takeover_block.proofs.EachTakeover.{takeover_each}
use Rattle.takeover_block.proofs.LawLemmas.{first_found}
use Rattle.takeover_block.proofs.NotedLemmas.{IsMore, IsNew, noted_is}
use Rattle.run_laws.proofs.routes.Chain.{last_inside}
use Rattle.request_laws.specs.Orphans.{GatheredAre, TellsOf}
use Rattle.request_laws.specs.Routes.{IsSentRouted}

-- each key has a replica
abbrev pub ChainsAreSome : Layout → Type 0
ChainsAreSome layout = (key : List ℕ) → 0 < length (chain_of layout key)

module _ (D : TxId → Type 0) where
  abbrev IsDriven : Gathered → Type 0
  IsDriven g = D g.tx

  abbrev AllDriven : List Gathered → Type 0
  AllDriven gathered = Each (λ (g : Gathered). D g.tx) gathered

  noted_driven : (gathered : List Gathered) (tx : TxId) (key : List ℕ) (epoch : Option ℕ) → AllDriven gathered → D tx
      → AllDriven (noted gathered tx key epoch)
  noted_driven gathered tx key epoch all own = by (noted_is gathered tx key epoch)
    where
      by : IsNew tx key epoch gathered (noted gathered tx key epoch)
          ⊎ IsMore tx key epoch gathered (noted gathered tx key epoch) → AllDriven (noted gathered tx key epoch)
      by (inl new) =
          let parts = subst AllDriven new.is all in
          subst AllDriven (sym new.after)
          (each_append IsDriven new.front (told_first tx key epoch ∷ new.back)
          (each_before IsDriven new.front new.back parts)
          (own, each_after IsDriven new.front new.back parts))
      by (inr more) =
          let parts = subst AllDriven more.is all in
          subst AllDriven (sym more.after)
          (each_append IsDriven more.front (told_more more.own key epoch ∷ more.back)
          (each_before IsDriven more.front (more.own ∷ more.back) parts)
          (each_after IsDriven more.front (more.own ∷ more.back) parts))

  rules_stay : (s : TakeoverState) → AllDriven s.gathered → GatheredAre D (ruling s).state
  unfolding ruling entering
  rules_stay s all = by (slice_get s.gathered 0)
    where
      by : (first : Option Gathered) → GatheredAre D (ruling_by s first).state
      by None = all
      by (Some g) = all

  finishes_stay : (s : TakeoverState) → AllDriven s.gathered → GatheredAre D (finishing s).state
  unfolding finishing
  finishes_stay s all =
      rules_stay (with_gathered s (remove s.gathered 0)) (each_removed IsDriven s.gathered 0 all)

  -- so it stays, whatever it takes
  pub gathered_stay : (s : TakeoverState) (x : Signal) → GatheredAre D s → TellsOf D x.body
      → GatheredAre D (takeover_row s x).state
  unfolding entering
  gathered_stay s x all told =
      takeover_each s (λ step. GatheredAre D step.state) x.body (record {
        stays = λ off. all;
        untold = λ tx key state epoch is off. all;
        unended = λ is off. all;
        orders = λ is some. tt;
        orders_nobody = λ is none. rules_stay _ tt;
        asks = λ place n is due at. all;
        tells = λ tx key state epoch n is at.
            noted_driven s.gathered tx key (told_epoch state epoch) all (subst (TellsOf D) is told);
        ends = λ n is at more. all;
        all_end = λ n is at last. rules_stay s all;
        commits = λ tx key g e n is first at more. all;
        all_commit = λ tx key g e n is first at last. all;
        completes = λ tx key g e n is first at more. all;
        all_complete = λ tx key g e n is first at last. finishes_stay s all;
        aborts = λ tx key g n is first at more. all;
        all_abort = λ tx key g n is first at last. finishes_stay s all;
        goes_on = λ tx place g is due at first. all;
      })

module _ (layout : Layout) (A D G : TxId → Type 0) (some : ChainsAreSome layout) where
  abbrev IsSent : Outgoing → Type 0
  IsSent sent = IsSentRouted layout A D G sent

  abbrev AreSent : List Outgoing → Type 0
  AreSent sends = Each (IsSentRouted layout A D G) sends

  rest_sent : (by : Place) (w : Work) (at : ℕ) (b : Bool) → IsSent (go_on_at by w (at + PORTION))
      → AreSent (rest_if by w at b)
  rest_sent by w at true own = (own, tt)
  rest_sent by w at false own = tt

  portion_sent : (by : Place) (w : Work) (sends : List Outgoing) (at : ℕ) → IsSent (go_on_at by w (at + PORTION))
      → AreSent sends → AreSent (portion_effects by w sends at).sends
  portion_sent by w sends at own all =
      each_append IsSent (take PORTION (drop at sends)) (rest_if by w at (nat_lt (at + PORTION) (length sends)))
      (each_take IsSent PORTION (drop at sends) (each_drop IsSent at sends all))
      (rest_sent by w at (nat_lt (at + PORTION) (length sends)) own)

  asks_sent : (node : ℕ) (view : View) (at : ℕ) → AreSent (ask_effects node view at).sends
  unfolding ask_effects asks_of
  asks_sent node view at =
      portion_sent (takeover node) work.Members (asks_of view) at tt
      (each_append IsSent (map ask_of view.full) (map ask_of view.starting)
      (each_mapped IsSent ask_of view.full (λ m. tt))
      (each_mapped IsSent ask_of view.starting (λ m. tt)))

  -- of one that is driven all that is sent at a stage
  along_sent : (g : Gathered) (stage : Stage) (key : List ℕ) → D g.tx
      → AreSent (key_sends_along g.tx stage key (chain_of layout key))
  along_sent g Resting key driven = tt
  along_sent g (Gathering n) key driven = tt
  along_sent g (Committing epoch n) key driven = (
    (record { along = inl refl; inside = last_inside (chain_of layout key) (some key); place = refl }, driven),
    tt,
  )
  along_sent g (Completing epoch n) key driven = (
    (record { along = refl; inside = last_inside (chain_of layout key) (some key); place = refl }, driven),
    tt,
  )
  along_sent g (Aborting n) key driven = each_mapped IsSent (abort_at g.tx key) (chain_of layout key) (λ m. refl)

  key_sent : (g : Gathered) (stage : Stage) → D g.tx → (key : List ℕ) → AreSent (key_sends layout g.tx stage key)
  unfolding key_sends
  key_sent g stage driven key = along_sent g stage key driven

  front_sent : (g : Gathered) (stage : Stage) → AreSent (front_sends g.tx stage)
  unfolding front_sends
  front_sent g Resting = tt
  front_sent g (Gathering n) = tt
  front_sent g (Committing epoch n) = tt
  front_sent g (Completing epoch n) = (tt, tt)
  front_sent g (Aborting n) = tt

  stage_sent : (node : ℕ) (stage : Stage) (g : Gathered) (at : ℕ) → D g.tx
      → AreSent (stage_effects node layout stage g at).sends
  unfolding stage_effects stage_sends
  stage_sent node stage g at driven =
      portion_sent (takeover node) (work.Transaction g.tx) (stage_sends layout stage g) at (inl driven)
      (each_append IsSent (front_sends g.tx stage) (flat_map (key_sends layout g.tx stage) g.keys)
      (front_sent g stage)
      (each_flat IsSent (key_sends layout g.tx stage) g.keys (key_sent g stage driven)))

module _ (A D G : TxId → Type 0) where
  abbrev SendsRouted : (s : TakeoverState) → List Outgoing → Type 0
  SendsRouted s sends = Each (IsSentRouted s.layout A D G) sends

  enters : (s : TakeoverState) (g : Gathered) (stage : Stage) → ChainsAreSome s.layout → D g.tx
      → SendsRouted s (entering s g stage).effects.sends
  unfolding entering
  enters s g stage some driven = stage_sent s.layout A D G some s.node stage g 0 driven

  rules : (s : TakeoverState) → ChainsAreSome s.layout → GatheredAre D s → SendsRouted s (ruling s).effects.sends
  unfolding ruling
  rules s some all = by (slice_get s.gathered 0) refl
    where
      by : (first : Option Gathered) → slice_get s.gathered 0 ≡ first → SendsRouted s (ruling_by s first).effects.sends
      by None is = (tt, (tt, tt))
      by (Some g) is =
          enters s g (way_of s.layout g) some (each_get (λ (g : Gathered). D g.tx) s.gathered 0 g all is)

  finishes : (s : TakeoverState) → ChainsAreSome s.layout → GatheredAre D s
      → SendsRouted s (finishing s).effects.sends
  unfolding finishing
  finishes s some all =
      rules (with_gathered s (remove s.gathered 0)) some
      (each_removed (λ (g : Gathered). D g.tx) s.gathered 0 all)

  -- the transaction that a signal names is the first
  first_driven : (s : TakeoverState) (tx : TxId) (g : Gathered) → first_of s.gathered tx ≡ Some g → GatheredAre D s
      → D g.tx
  first_driven s tx g first all =
      each_get (λ (g : Gathered). D g.tx) s.gathered 0 g all (first_found s.gathered tx g first).there

  own_sent : (s : TakeoverState) (x : Signal) → ChainsAreSome s.layout → GatheredAre D s
      → SendsRouted s (takeover_row s x).effects.sends
  own_sent s x some all =
      takeover_each s (λ step. SendsRouted s step.effects.sends) x.body (record {
        stays = λ off. tt;
        untold = λ tx key state epoch is off. tt;
        unended = λ is off. tt;
        orders = λ is members. asks_sent s.layout A D G some s.node s.layout.view 0;
        orders_nobody = λ is none. rules _ some tt;
        asks = λ place n is due at. asks_sent s.layout A D G some s.node s.layout.view place;
        tells = λ tx key state epoch n is at. tt;
        ends = λ n is at more. tt;
        all_end = λ n is at last. rules s some all;
        commits = λ tx key g e n is first at more. tt;
        all_commit = λ tx key g e n is first at last.
            enters s g (Completing e (length g.keys)) some (first_driven s tx g first all);
        completes = λ tx key g e n is first at more. tt;
        all_complete = λ tx key g e n is first at last. finishes s some all;
        aborts = λ tx key g n is first at more. tt;
        all_abort = λ tx key g n is first at last. (tt, finishes s some all);
        goes_on = λ tx place g is due at first.
            stage_sent s.layout A D G some s.node s.stage g place (first_driven s tx g first all);
      })

  -- whatever it takes
  pub takeover_sends_routed : (layout : Layout) (s : TakeoverState) (x : Signal) → s.layout ≡ layout
      → ChainsAreSome layout → GatheredAre D s
      → Each (IsSentRouted layout A D G) (takeover_row s x).effects.sends
  takeover_sends_routed layout s x same some all =
      subst (λ (l : Layout). Each (IsSentRouted l A D G) (takeover_row s x).effects.sends) same
      (own_sent s x (subst ChainsAreSome (sym same) some) all)
