-- A takeover tells the master of its own node that it is over, and no other; its node stays.
use Rattle.std.proofs.Common.{◌≡◌, ◌++◌, false, ℕ, List, map, refl, ap}
use Rattle.std.specs.Prelude.{Option, None, Some, remove, slice_get}
use Rattle.std.specs.List.{flat_map}
use Rattle.run_theory.specs.Lists.{Each}
use Rattle.run_theory.proofs.EachSent.{each_flat, each_mapped}
use Rattle.run_theory.proofs.Pasts.{each_append, each_map}
use Rattle.sig_core.specs.declared.member.Member.{Member}
use Rattle.sig_core.specs.declared.member.TxId.{TxId}
use Rattle.sig_core.specs.declared.outs.Outgoing.{Outgoing}
use Rattle.sig_core.specs.declared.place.Place.{Place}
use Rattle.sig_core.specs.declared.signal.Body.{Body}
use Rattle.sig_core.specs.declared.signal.Body.TheVariants.{Takeover}
use Rattle.sig_core.specs.declared.signal.Signal.{Signal}
use Rattle.sig_core.specs.declared.signal.host.Work.TheVariants as work
use Rattle.sig_core.specs.declared.signal.takeover.TakeoverSignal.TheVariants.{TakeoverEnd}
use Rattle.sig_core.specs.declared.view.View.{View}
use Rattle.sig_core.specs.Place.{checkpoints, takeover}
use Rattle.sig_core.specs.Step.{Step}
use Rattle.frag_map.specs.Layout.{Layout, chain_of}
use Rattle.takeover_block.specs.declared.gathered.Gathered.{Gathered}
use Rattle.takeover_block.specs.declared.stage.Stage.{Stage}
use Rattle.takeover_block.specs.declared.stage.Stage.TheVariants.{Resting, Gathering, Committing, Completing, Aborting}
use Rattle.takeover_block.specs.Rule.{entering, finishing, ruling, ruling_by, way_of}
use Rattle.takeover_block.specs.Sends.{abort_at, ask_effects, ask_of, asks_of, front_sends, key_sends, key_sends_along}
use Rattle.takeover_block.specs.Sends.{stage_effects, stage_sends}
use Rattle.takeover_block.specs.State.{TakeoverState, with_gathered}
use Rattle.takeover_block.specs.Takeover.{takeover_row}
use Rattle.takeover_block.proofs.EachTakeover.{takeover_each}
use Rattle.closing_laws.proofs.takeover.NoEnds.{AreUnended, IsUnended, is_over, portion_unended}

-- it is for that master
abbrev pub IsForOwn : ℕ → Place → Body → Type 0
IsForOwn node to (Takeover TakeoverEnd) = to ≡ checkpoints node
IsForOwn node to body = Unit {0}

pub unended_own : (node : ℕ) (to : Place) (body : Body) → is_over body ≡ false → IsForOwn node to body
unended_own node to (Takeover TakeoverEnd) none = absurd cc
unended_own node to body none = tt

pub asks_none : (node : ℕ) (view : View) (at : ℕ) → AreUnended (ask_effects node view at).sends
unfolding ask_effects asks_of
asks_none node view at =
    portion_unended (takeover node) work.Members (map ask_of view.full ++ map ask_of view.starting) at (λ left. refl)
    (each_append IsUnended (map ask_of view.full) (map ask_of view.starting)
    (each_mapped IsUnended ask_of view.full (λ m. refl)) (each_mapped IsUnended ask_of view.starting (λ m. refl)))

along_none : (tx : TxId) (stage : Stage) (key : List ℕ) (chain : List Member)
    → AreUnended (key_sends_along tx stage key chain)
along_none tx Resting key chain = tt
along_none tx (Gathering n) key chain = tt
along_none tx (Committing epoch n) key chain = (refl, tt)
along_none tx (Completing epoch n) key chain = (refl, tt)
along_none tx (Aborting n) key chain = each_mapped IsUnended (abort_at tx key) chain (λ m. refl)

key_none : (layout : Layout) (tx : TxId) (stage : Stage) (key : List ℕ)
    → AreUnended (key_sends layout tx stage key)
unfolding key_sends
key_none layout tx stage key = along_none tx stage key (chain_of layout key)

front_none : (tx : TxId) (stage : Stage) → AreUnended (front_sends tx stage)
unfolding front_sends
front_none tx Resting = tt
front_none tx (Gathering n) = tt
front_none tx (Committing epoch n) = tt
front_none tx (Completing epoch n) = (refl, tt)
front_none tx (Aborting n) = tt

pub stage_none : (node : ℕ) (layout : Layout) (stage : Stage) (g : Gathered) (at : ℕ)
    → AreUnended (stage_effects node layout stage g at).sends
unfolding stage_effects stage_sends
stage_none node layout stage g at =
    portion_unended (takeover node) (work.Transaction g.tx)
    (front_sends g.tx stage ++ flat_map (key_sends layout g.tx stage) g.keys) at (λ left. refl)
    (each_append IsUnended (front_sends g.tx stage) (flat_map (key_sends layout g.tx stage) g.keys)
    (front_none g.tx stage)
    (each_flat IsUnended (key_sends layout g.tx stage) g.keys (key_none layout g.tx stage)))

-- a step of a takeover of this node
pub record IsOwnStep (node : ℕ) (step : Step TakeoverState) : Type 0 where
  pub stays : step.state.node ≡ node
  pub sends : Each (λ (sent : Outgoing). IsForOwn node sent.to sent.body) step.effects.sends

module _ (node : ℕ) where
  none_own : (sends : List Outgoing) → AreUnended sends
      → Each (λ (sent : Outgoing). IsForOwn node sent.to sent.body) sends
  none_own sends none =
      each_map IsUnended (λ (sent : Outgoing). IsForOwn node sent.to sent.body) sends
      (λ sent is. unended_own node sent.to sent.body is) none

  enters : (s : TakeoverState) (g : Gathered) (stage : Stage) → s.node ≡ node → IsOwnStep node (entering s g stage)
  unfolding entering
  enters s g stage is = record {
    stays = is;
    sends = none_own (stage_effects s.node s.layout stage g 0).sends (stage_none s.node s.layout stage g 0);
  }

  rules_by : (s : TakeoverState) (g : Option Gathered) → s.node ≡ node → IsOwnStep node (ruling_by s g)
  rules_by s None is = record { stays = is; sends = (tt, (ap checkpoints is, tt)) }
  rules_by s (Some g) is = enters s g (way_of s.layout g) is

  rules : (s : TakeoverState) → s.node ≡ node → IsOwnStep node (ruling s)
  unfolding ruling
  rules s is = rules_by s (slice_get s.gathered 0) is

  finishes : (s : TakeoverState) → s.node ≡ node → IsOwnStep node (finishing s)
  unfolding finishing
  finishes s is = rules (with_gathered s (remove s.gathered 0)) is

  -- whatever it takes
  pub takeover_own : (s : TakeoverState) (x : Signal) → s.node ≡ node → IsOwnStep node (takeover_row s x)
  takeover_own s x own =
      takeover_each s (IsOwnStep node) x.body (record {
        stays = λ off. record { stays = own; sends = tt };
        untold = λ tx key state epoch is off. record { stays = own; sends = tt };
        unended = λ is off. record { stays = own; sends = tt };
        orders = λ is some. record { stays = own; sends = none_own _ (asks_none s.node s.layout.view 0) };
        orders_nobody = λ is none. rules _ own;
        asks = λ place n is due at. record { stays = own; sends = none_own _ (asks_none s.node s.layout.view place) };
        tells = λ tx key state epoch n is at. record { stays = own; sends = tt };
        ends = λ n is at more. record { stays = own; sends = tt };
        all_end = λ n is at last. rules s own;
        commits = λ tx key g e n is first at more. record { stays = own; sends = tt };
        all_commit = λ tx key g e n is first at last. enters s g _ own;
        completes = λ tx key g e n is first at more. record { stays = own; sends = tt };
        all_complete = λ tx key g e n is first at last. finishes s own;
        aborts = λ tx key g n is first at more. record { stays = own; sends = tt };
        all_abort = λ tx key g n is first at last.
            let then = finishes s own in record { stays = then.stays; sends = (tt, then.sends) };
        goes_on = λ tx place g is due at first.
            record { stays = own; sends = none_own _ (stage_none s.node s.layout s.stage g place) };
      })
