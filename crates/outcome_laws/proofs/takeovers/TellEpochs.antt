-- A takeover tells each transaction's epoch as it knows it.
use Rattle.std.proofs.Common.{◌≡◌, ◌+◌, ℕ, Bool, true, false, List, drop, length, map, nat_lt, refl, subst, take}
use Rattle.std.specs.List.{flat_map}
use Rattle.std.specs.Prelude.{Option, None, Some, remove, slice_get}
use Rattle.run_theory.specs.Lists.{Each}
use Rattle.run_theory.proofs.EachSent.{each_drop, each_flat, each_get, each_mapped, each_removed, each_take}
use Rattle.run_theory.proofs.Pasts.{each_append}
use Rattle.sig_core.specs.declared.member.Member.{Member}
use Rattle.sig_core.specs.declared.member.TxId.{TxId}
use Rattle.sig_core.specs.declared.outs.Outgoing.{Outgoing}
use Rattle.sig_core.specs.declared.place.Place.{Place}
use Rattle.sig_core.specs.declared.portion.TheConstants.{PORTION}
use Rattle.sig_core.specs.declared.signal.Signal.{Signal}
use Rattle.sig_core.specs.declared.signal.host.Work.{Work}
use Rattle.sig_core.specs.declared.signal.host.Work.TheVariants as work
use Rattle.sig_core.specs.declared.view.View.{View}
use Rattle.sig_core.specs.Place.{takeover}
use Rattle.sig_core.specs.Portion.{portion_effects, rest_if}
use Rattle.frag_map.specs.Layout.{Layout, chain_of}
use Rattle.takeover_block.specs.declared.gathered.Gathered.{Gathered}
use Rattle.takeover_block.specs.declared.stage.Stage.{Stage}
use Rattle.takeover_block.specs.declared.stage.Stage.TheVariants.{Resting, Gathering, Committing, Completing, Aborting}
use Rattle.takeover_block.specs.Gathered.{first_of}
use Rattle.takeover_block.specs.Rule.{entering, finishing, ruling, ruling_by, way_of}
use Rattle.takeover_block.specs.Sends.{abort_at, ask_effects, ask_of, asks_of, front_sends, key_sends, key_sends_along}
use Rattle.takeover_block.specs.Sends.{stage_effects, stage_sends}
use Rattle.takeover_block.specs.State.{TakeoverState, with_gathered}
use Rattle.takeover_block.specs.Takeover.{takeover_row}
use Rattle.takeover_block.proofs.EachTakeover.{takeover_each}
use Rattle.takeover_block.proofs.LawLemmas.{first_found}
use Rattle.outcome_laws.specs.Known.{IsDecidedAt, TakeoverKnows}
use Rattle.outcome_laws.specs.Tells.{Tells}
use Rattle.outcome_laws.proofs.takeovers.KnowEpochs.{IsKnown, KnowsAll, is_completed, known_at, way_known}

module _ (D : TxId → ℕ → Type 0) (B : TxId → Type 0) where
  abbrev IsTrue : Outgoing → Type 0
  IsTrue sent = Tells D B sent.body

  abbrev AreTrue : List Outgoing → Type 0
  AreTrue sends = Each (λ (sent : Outgoing). Tells D B sent.body) sends

  rest_true : (by : Place) (w : Work) (at : ℕ) (b : Bool) → AreTrue (rest_if by w at b)
  rest_true by w at true = (tt, tt)
  rest_true by w at false = tt

  portion_true : (by : Place) (w : Work) (sends : List Outgoing) (at : ℕ) → AreTrue sends
      → AreTrue (portion_effects by w sends at).sends
  portion_true by w sends at all =
      each_append IsTrue (take PORTION (drop at sends)) (rest_if by w at (nat_lt (at + PORTION) (length sends)))
      (each_take IsTrue PORTION (drop at sends) (each_drop IsTrue at sends all))
      (rest_true by w at (nat_lt (at + PORTION) (length sends)))

  asks_true : (node : ℕ) (view : View) (at : ℕ) → AreTrue (ask_effects node view at).sends
  unfolding ask_effects asks_of
  asks_true node view at =
      portion_true (takeover node) work.Members (asks_of view) at
      (each_append IsTrue (map ask_of view.full) (map ask_of view.starting)
      (each_mapped IsTrue ask_of view.full (λ m. tt))
      (each_mapped IsTrue ask_of view.starting (λ m. tt)))

  -- where the epoch of the transaction at a stage is known, all that is sent in it is true
  along_true : (g : Gathered) (stage : Stage) (key : List ℕ) (chain : List Member) → IsDecidedAt D B stage (Some g)
      → AreTrue (key_sends_along g.tx stage key chain)
  along_true g Resting key chain known = tt
  along_true g (Gathering n) key chain known = tt
  along_true g (Committing epoch n) key chain known = (known, tt)
  along_true g (Completing epoch n) key chain known = (tt, tt)
  along_true g (Aborting n) key chain known = each_mapped IsTrue (abort_at g.tx key) chain (λ m. tt)

  key_true : (layout : Layout) (g : Gathered) (stage : Stage) → IsDecidedAt D B stage (Some g) → (key : List ℕ)
      → AreTrue (key_sends layout g.tx stage key)
  unfolding key_sends
  key_true layout g stage known key = along_true g stage key (chain_of layout key) known

  front_true : (g : Gathered) (stage : Stage) → IsDecidedAt D B stage (Some g) → AreTrue (front_sends g.tx stage)
  unfolding front_sends
  front_true g Resting known = tt
  front_true g (Gathering n) known = tt
  front_true g (Committing epoch n) known = tt
  front_true g (Completing epoch n) known = (known, tt)
  front_true g (Aborting n) known = tt

  stage_true : (node : ℕ) (layout : Layout) (stage : Stage) (g : Gathered) (at : ℕ) → IsDecidedAt D B stage (Some g)
      → AreTrue (stage_effects node layout stage g at).sends
  unfolding stage_effects stage_sends
  stage_true node layout stage g at known =
      portion_true (takeover node) (work.Transaction g.tx) (stage_sends layout stage g) at
      (each_append IsTrue (front_sends g.tx stage) (flat_map (key_sends layout g.tx stage) g.keys)
      (front_true g stage known)
      (each_flat IsTrue (key_sends layout g.tx stage) g.keys (key_true layout g stage known)))

  -- a stage begins, and the first of the transactions is ruled on
  enters : (s : TakeoverState) (g : Gathered) (stage : Stage) → IsDecidedAt D B stage (Some g)
      → AreTrue (entering s g stage).effects.sends
  unfolding entering
  enters s g stage known = stage_true s.node s.layout stage g 0 known

  rules : (s : TakeoverState) → KnowsAll D B s.gathered → AreTrue (ruling s).effects.sends
  unfolding ruling
  rules s all = by (slice_get s.gathered 0) refl
    where
      by : (first : Option Gathered) → slice_get s.gathered 0 ≡ first → AreTrue (ruling_by s first).effects.sends
      by None is = (tt, (tt, tt))
      by (Some g) is =
          enters s g (way_of s.layout g)
          (way_known D B s.layout g (each_get (IsKnown D B) s.gathered 0 g all is))

  finishes : (s : TakeoverState) → KnowsAll D B s.gathered → AreTrue (finishing s).effects.sends
  unfolding finishing
  finishes s all =
      rules (with_gathered s (remove s.gathered 0))
      (each_removed (IsKnown D B) s.gathered 0 all)

  -- the transaction that a signal names is the first
  first_known : (s : TakeoverState) (tx : TxId) (g : Gathered) (stage : Stage) → first_of s.gathered tx ≡ Some g
      → IsDecidedAt D B stage (slice_get s.gathered 0) → IsDecidedAt D B stage (Some g)
  first_known s tx g stage first known = subst (IsDecidedAt D B stage) (first_found s.gathered tx g first).there known

  -- whatever it takes
  pub takeover_tells : (s : TakeoverState) (x : Signal) → TakeoverKnows D B s
      → Each (λ (sent : Outgoing). Tells D B sent.body) (takeover_row s x).effects.sends
  takeover_tells s x known =
      takeover_each s (λ step. AreTrue step.effects.sends) x.body (record {
        stays = λ off. tt;
        untold = λ tx key state epoch is off. tt;
        unended = λ is off. tt;
        orders = λ is some. asks_true s.node s.layout.view 0;
        orders_nobody = λ is none. rules _ tt;
        asks = λ place n is due at. asks_true s.node s.layout.view place;
        tells = λ tx key state epoch n is at. tt;
        ends = λ n is at more. tt;
        all_end = λ n is at last. rules s known.gathered;
        commits = λ tx key g e n is first at more. tt;
        all_commit = λ tx key g e n is first at last.
            enters s g (Completing e (length g.keys))
            (is_completed D B e n (length g.keys) (Some g)
            (first_known s tx g (Committing e n) first (known_at D B s (Committing e n) known at)));
        completes = λ tx key g e n is first at more. tt;
        all_complete = λ tx key g e n is first at last. finishes s known.gathered;
        aborts = λ tx key g n is first at more. tt;
        all_abort = λ tx key g n is first at last. (tt, finishes s known.gathered);
        goes_on = λ tx place g is due at first.
            stage_true s.node s.layout s.stage g place (first_known s tx g s.stage first known.first);
      })
