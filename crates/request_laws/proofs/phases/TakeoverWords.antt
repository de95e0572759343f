-- Signals that tell of an end of a transaction, ask for its epoch, or give it: a takeover sends none of them.
use Rattle.std.proofs.Common.{◌≡◌, ◌+◌, ℕ, Bool, true, false, List, drop, length, map, nat_lt, refl, take}
use Rattle.std.specs.List.{flat_map}
use Rattle.std.specs.Prelude.{Option, None, Some, remove, slice_get}
use Rattle.run_theory.specs.Lists.{Each}
use Rattle.run_theory.proofs.EachSent.{each_drop, each_flat, each_mapped, each_take}
use Rattle.run_theory.proofs.Pasts.{each_append}
use Rattle.sig_core.specs.declared.member.Member.{Member}
use Rattle.sig_core.specs.declared.member.TxId.{TxId}
use Rattle.sig_core.specs.declared.outs.Outgoing.{Outgoing}
use Rattle.sig_core.specs.declared.place.Place.{Place}
use Rattle.sig_core.specs.declared.portion.TheConstants.{PORTION}
use Rattle.sig_core.specs.declared.signal.Body.{Body}
use Rattle.sig_core.specs.declared.signal.Body.TheVariants.{Client, Epoch}
use Rattle.sig_core.specs.declared.signal.Signal.{Signal}
use Rattle.sig_core.specs.declared.signal.client.ClientSignal.TheVariants.{TcCommitConf, TcRollbackRep}
use Rattle.sig_core.specs.declared.signal.epoch.EpochSignal.TheVariants.{DiVerifyConf, DiVerifyReq}
use Rattle.sig_core.specs.declared.signal.host.Work.{Work}
use Rattle.sig_core.specs.declared.signal.host.Work.TheVariants as work
use Rattle.sig_core.specs.declared.view.View.{View}
use Rattle.sig_core.specs.Place.{takeover}
use Rattle.sig_core.specs.Portion.{portion_effects, rest_if}
use Rattle.sig_core.specs.Step.{Step}
use Rattle.frag_map.specs.Layout.{Layout, chain_of}
use Rattle.takeover_block.specs.declared.gathered.Gathered.{Gathered}
use Rattle.takeover_block.specs.declared.stage.Stage.{Stage}
use Rattle.takeover_block.specs.declared.stage.Stage.TheVariants.{Resting, Gathering, Committing, Completing, Aborting}
use Rattle.takeover_block.specs.Rule.{entering, finishing, ruling, ruling_by, way_of}
use Rattle.takeover_block.specs.Sends.{abort_at, ask_effects, ask_of, asks_of, front_sends, key_sends, key_sends_along}
use Rattle.takeover_block.specs.Sends.{stage_effects, stage_sends}
use Rattle.takeover_block.specs.State.{TakeoverState, with_gathered}
use Rattle.takeover_block.specs.Takeover.{takeover_row}
use Rattle.takeover_block.proofs.EachTakeover.{takeover_each}

abbrev pub is_word : Body → Bool
is_word (Client (TcCommitConf tx epoch)) = true
is_word (Client (TcRollbackRep tx cause)) = true
is_word (Epoch (DiVerifyReq tx ops)) = true
is_word (Epoch (DiVerifyConf tx epoch)) = true
is_word body = false

abbrev pub IsWordless : Outgoing → Type 0
IsWordless sent = is_word sent.body ≡ false

abbrev pub AreWordless : List Outgoing → Type 0
AreWordless sends = Each IsWordless sends

abbrev Wordless : Step TakeoverState → Type 0
Wordless step = AreWordless step.effects.sends

rest_wordless : (by : Place) (work : Work) (at : ℕ) (b : Bool) → AreWordless (rest_if by work at b)
rest_wordless by work at true = (refl, tt)
rest_wordless by work at false = tt

portion_wordless : (by : Place) (work : Work) (sends : List Outgoing) (at : ℕ) → AreWordless sends
    → AreWordless (portion_effects by work sends at).sends
portion_wordless by work sends at all =
    each_append IsWordless (take PORTION (drop at sends)) (rest_if by work at (nat_lt (at + PORTION) (length sends)))
    (each_take IsWordless PORTION (drop at sends) (each_drop IsWordless at sends all))
    (rest_wordless by work at (nat_lt (at + PORTION) (length sends)))

asks_wordless : (node : ℕ) (view : View) (at : ℕ) → AreWordless (ask_effects node view at).sends
unfolding ask_effects asks_of
asks_wordless node view at =
    portion_wordless (takeover node) work.Members (asks_of view) at
    (each_append IsWordless (map ask_of view.full) (map ask_of view.starting)
    (each_mapped IsWordless ask_of view.full (λ m. refl))
    (each_mapped IsWordless ask_of view.starting (λ m. refl)))

along_wordless : (tx : TxId) (stage : Stage) (key : List ℕ) (chain : List Member)
    → AreWordless (key_sends_along tx stage key chain)
along_wordless tx Resting key chain = tt
along_wordless tx (Gathering n) key chain = tt
along_wordless tx (Committing epoch n) key chain = (refl, tt)
along_wordless tx (Completing epoch n) key chain = (refl, tt)
along_wordless tx (Aborting n) key chain = each_mapped IsWordless (abort_at tx key) chain (λ m. refl)

key_wordless : (layout : Layout) (tx : TxId) (stage : Stage) (key : List ℕ)
    → AreWordless (key_sends layout tx stage key)
unfolding key_sends
key_wordless layout tx stage key = along_wordless tx stage key (chain_of layout key)

front_wordless : (tx : TxId) (stage : Stage) → AreWordless (front_sends tx stage)
unfolding front_sends
front_wordless tx Resting = tt
front_wordless tx (Gathering n) = tt
front_wordless tx (Committing epoch n) = tt
front_wordless tx (Completing epoch n) = (refl, tt)
front_wordless tx (Aborting n) = tt

stage_wordless : (node : ℕ) (layout : Layout) (stage : Stage) (g : Gathered) (at : ℕ)
    → AreWordless (stage_effects node layout stage g at).sends
unfolding stage_effects stage_sends
stage_wordless node layout stage g at =
    portion_wordless (takeover node) (work.Transaction g.tx) (stage_sends layout stage g) at
    (each_append IsWordless (front_sends g.tx stage) (flat_map (key_sends layout g.tx stage) g.keys)
    (front_wordless g.tx stage)
    (each_flat IsWordless (key_sends layout g.tx stage) g.keys (key_wordless layout g.tx stage)))

enters : (s : TakeoverState) (g : Gathered) (stage : Stage) → Wordless (entering s g stage)
unfolding entering
enters s g stage = stage_wordless s.node s.layout stage g 0

rules_by : (s : TakeoverState) (g : Option Gathered) → Wordless (ruling_by s g)
rules_by s None = (refl, (refl, tt))
rules_by s (Some g) = enters s g (way_of s.layout g)

rules : (s : TakeoverState) → Wordless (ruling s)
unfolding ruling
rules s = rules_by s (slice_get s.gathered 0)

finishes : (s : TakeoverState) → Wordless (finishing s)
unfolding finishing
finishes s = rules (with_gathered s (remove s.gathered 0))

pub takeover_wordless : (s : TakeoverState) (x : Signal) → AreWordless (takeover_row s x).effects.sends
takeover_wordless s x =
    takeover_each s (λ step. Wordless step) x.body (record {
      stays = λ off. tt;
      untold = λ tx key state epoch is off. tt;
      unended = λ is off. tt;
      orders = λ is some. asks_wordless s.node s.layout.view 0;
      orders_nobody = λ is none. rules _;
      asks = λ place n is due at. asks_wordless s.node s.layout.view place;
      tells = λ tx key state epoch n is at. tt;
      ends = λ n is at more. tt;
      all_end = λ n is at last. rules s;
      commits = λ tx key g e n is first at more. tt;
      all_commit = λ tx key g e n is first at last. enters s g _;
      completes = λ tx key g e n is first at more. tt;
      all_complete = λ tx key g e n is first at last. finishes s;
      aborts = λ tx key g n is first at more. tt;
      all_abort = λ tx key g n is first at last. (refl, finishes s);
      goes_on = λ tx place g is due at first. stage_wordless s.node s.layout s.stage g place;
    })
