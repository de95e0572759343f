-- A takeover that tells its master that it is over tells the client's side so by the same signals.
use Rattle.std.proofs.Common.{◌≡◌, ◌∙◌, List, ◌∷◌, inl, inr, refl, sym, ap}
use Rattle.std.proofs.lemmas.Bool.{true≢false}
use Rattle.std.specs.Prelude.{Option, None, Some, remove, slice_get}
use Rattle.run_theory.specs.Lists.{Each, IsIn}
use Rattle.run_theory.proofs.Pasts.{each_map}
use Rattle.sig_core.specs.declared.outs.Outgoing.{Outgoing}
use Rattle.sig_core.specs.declared.signal.Body.TheVariants.{Client, Takeover}
use Rattle.sig_core.specs.declared.signal.Signal.{Signal}
use Rattle.sig_core.specs.declared.signal.client.ClientSignal.TheVariants.{NfCompleteRep}
use Rattle.sig_core.specs.declared.signal.takeover.TakeoverSignal.TheVariants.{TakeoverEnd}
use Rattle.sig_core.specs.Place.{client}
use Rattle.sig_core.specs.Step.{to_place}
use Rattle.takeover_block.specs.declared.gathered.Gathered.{Gathered}
use Rattle.takeover_block.specs.declared.stage.Stage.{Stage}
use Rattle.takeover_block.specs.Rule.{entering, finishing, ruling, ruling_by, way_of}
use Rattle.takeover_block.specs.Sends.{told_aborted}
use Rattle.takeover_block.specs.State.{TakeoverState, with_gathered}
use Rattle.takeover_block.specs.Takeover.{takeover_row}
use Rattle.takeover_block.proofs.EachTakeover.{takeover_each}
use Rattle.closing_laws.proofs.takeover.NoEnds.{AreUnended, IsUnended, is_over}
use Rattle.closing_laws.proofs.takeover.Steps.{asks_none, stage_none}

-- the client's side is told that a takeover is complete
abbrev pub told_complete : Outgoing
told_complete = to_place client (Client NfCompleteRep)

-- where one of these tells the master of the end, one tells the client's side
abbrev pub IsBeside : List Outgoing → Outgoing → Type 0
IsBeside sends o = o.body ≡ Takeover TakeoverEnd → IsIn told_complete sends

abbrev pub AreTogether : List Outgoing → Type 0
AreTogether sends = Each (IsBeside sends) sends

beside_none : (sends : List Outgoing) (o : Outgoing) → IsUnended o → IsBeside sends o
beside_none sends o off is = absurd (true≢false (sym (ap is_over is) ∙ off))

none_together : (sends : List Outgoing) → AreUnended sends → AreTogether sends
none_together sends none =
    each_map IsUnended (IsBeside sends) sends (λ o off. beside_none sends o off) none

enters_together : (s : TakeoverState) (g : Gathered) (stage : Stage)
    → AreTogether (entering s g stage).effects.sends
unfolding entering
enters_together s g stage = none_together _ (stage_none s.node s.layout stage g 0)

rules_together : (s : TakeoverState) → AreTogether (ruling s).effects.sends
unfolding ruling
rules_together s = by (slice_get s.gathered 0)
  where
    by : (first : Option Gathered) → AreTogether (ruling_by s first).effects.sends
    by None = ((λ is. absurd cc), ((λ is. inl refl), tt))
    by (Some g) = enters_together s g (way_of s.layout g)

finishes_together : (s : TakeoverState) → AreTogether (finishing s).effects.sends
unfolding finishing
finishes_together s = rules_together (with_gathered s (remove s.gathered 0))

-- whatever it takes
pub takeover_together : (s : TakeoverState) (x : Signal) → AreTogether (takeover_row s x).effects.sends
takeover_together s x =
    takeover_each s (λ step. AreTogether step.effects.sends) x.body (record {
      stays = λ off. tt;
      untold = λ tx key state epoch is off. tt;
      unended = λ is off. tt;
      orders = λ is some. none_together _ (asks_none s.node s.layout.view 0);
      orders_nobody = λ is none. rules_together _;
      asks = λ place n is due at. none_together _ (asks_none s.node s.layout.view place);
      tells = λ tx key state epoch n is at. tt;
      ends = λ n is at more. tt;
      all_end = λ n is at last. rules_together s;
      commits = λ tx key g e n is first at more. tt;
      all_commit = λ tx key g e n is first at last. enters_together s g _;
      completes = λ tx key g e n is first at more. tt;
      all_complete = λ tx key g e n is first at last. finishes_together s;
      aborts = λ tx key g n is first at more. tt;
      all_abort = λ tx key g n is first at last.
          let sends = (finishing s).effects.sends in (
            beside_none (told_aborted tx ∷ sends) (told_aborted tx) refl,
            each_map (IsBeside sends) (IsBeside (told_aborted tx ∷ sends)) sends (λ o beside is. inr (beside is))
                (finishes_together s),
          );
      goes_on = λ tx place g is due at first. none_together _ (stage_none s.node s.layout s.stage g place);
    })
