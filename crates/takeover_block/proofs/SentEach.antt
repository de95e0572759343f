-- What holds of all that is sent at a stage, where it does of what goes to the client.
use Rattle.std.proofs.Common.{◌≡◌, ◌+◌, ℕ, zero, suc, Bool, true, false, List, []}
use Rattle.std.proofs.Common.{◌∷◌, take, drop, length, map, nat_lt, refl}
use Rattle.std.specs.List.{flat_map}
use Rattle.run_theory.specs.Lists.{Each}
use Rattle.run_theory.proofs.Pasts.{each_append}
use Rattle.sig_core.specs.declared.member.Member.{Member}
use Rattle.sig_core.specs.declared.member.TxId.{TxId}
use Rattle.sig_core.specs.declared.outs.Outgoing.{Outgoing}
use Rattle.sig_core.specs.declared.place.Place.{Place}
use Rattle.sig_core.specs.declared.signal.Body.{Body}
use Rattle.sig_core.specs.declared.signal.Body.TheVariants.{Client}
use Rattle.sig_core.specs.declared.signal.host.Work.{Work}
use Rattle.sig_core.specs.declared.signal.host.Work.TheVariants as work
use Rattle.sig_core.specs.declared.view.View.{View}
use Rattle.sig_core.specs.Place.{takeover}
use Rattle.sig_core.specs.Portion.{portion_effects, rest_if}
use Rattle.frag_map.specs.Layout.{Layout, chain_of}
use Rattle.takeover_block.specs.declared.gathered.Gathered.{Gathered}
use Rattle.takeover_block.specs.declared.stage.Stage.{Stage}
use Rattle.takeover_block.specs.declared.stage.Stage.TheVariants.{Resting, Gathering, Committing, Completing, Aborting}
use Rattle.takeover_block.specs.Sends.{abort_at, ask_effects, ask_of, asks_of, front_sends, key_sends, key_sends_along}
use Rattle.takeover_block.specs.Sends.{stage_effects, stage_sends}

-- it goes to no client
abbrev pub is_plain : Body → Bool
is_plain (Client signal) = false
is_plain _ = true

module _ (Q : Outgoing → Type 0) (plain : (o : Outgoing) → is_plain o.body ≡ true → Q o) where
  some_take : (n : ℕ) (sends : List Outgoing) → Each Q sends → Each Q (take n sends)
  some_take zero sends each = tt
  some_take (suc n) [] each = tt
  some_take (suc n) (x ∷ xs) each = (each.0, some_take n xs each.1)

  some_drop : (n : ℕ) (sends : List Outgoing) → Each Q sends → Each Q (drop n sends)
  some_drop zero sends each = each
  some_drop (suc n) [] each = tt
  some_drop (suc n) (x ∷ xs) each = some_drop n xs each.1

  onward : (by : Place) (w : Work) (at : ℕ) (b : Bool) → Each Q (rest_if by w at b)
  onward by w at true = (plain _ refl, tt)
  onward by w at false = tt

  some_portion : (by : Place) (w : Work) (sends : List Outgoing) (at : ℕ) → Each Q sends
      → Each Q (portion_effects by w sends at).sends
  some_portion by w sends at each =
      each_append Q (take 8 (drop at sends)) (rest_if by w at (nat_lt (at + 8) (length sends)))
      (some_take 8 (drop at sends) (some_drop at sends each)) (onward by w at (nat_lt (at + 8) (length sends)))

  some_asks : (members : List Member) → Each Q (map ask_of members)
  some_asks [] = tt
  some_asks (m ∷ ms) = (plain _ refl, some_asks ms)

  pub asks_each : (node : ℕ) (view : View) (at : ℕ) → Each Q (ask_effects node view at).sends
  unfolding ask_effects asks_of
  asks_each node view at =
      some_portion (takeover node) work.Members (asks_of view) at
      (each_append Q (map ask_of view.full) (map ask_of view.starting) (some_asks view.full) (some_asks view.starting))

  some_aborts : (tx : TxId) (key : List ℕ) (chain : List Member) → Each Q (map (abort_at tx key) chain)
  some_aborts tx key [] = tt
  some_aborts tx key (m ∷ ms) = (plain _ refl, some_aborts tx key ms)

  some_along : (tx : TxId) (stage : Stage) (key : List ℕ) (chain : List Member)
      → Each Q (key_sends_along tx stage key chain)
  some_along tx Resting key chain = tt
  some_along tx (Gathering n) key chain = tt
  some_along tx (Committing epoch n) key chain = (plain _ refl, tt)
  some_along tx (Completing epoch n) key chain = (plain _ refl, tt)
  some_along tx (Aborting n) key chain = some_aborts tx key chain

  some_keys : (layout : Layout) (tx : TxId) (stage : Stage) (keys : List (List ℕ))
      → Each Q (flat_map (key_sends layout tx stage) keys)
  unfolding key_sends
  some_keys layout tx stage [] = tt
  some_keys layout tx stage (key ∷ keys) =
      each_append Q (key_sends layout tx stage key) (flat_map (key_sends layout tx stage) keys)
      (some_along tx stage key (chain_of layout key)) (some_keys layout tx stage keys)

  -- what goes to the client decides
  pub stage_each : (node : ℕ) (layout : Layout) (stage : Stage) (g : Gathered) (at : ℕ)
      → Each Q (front_sends g.tx stage)
      → Each Q (stage_effects node layout stage g at).sends
  unfolding stage_effects stage_sends
  stage_each node layout stage g at front =
      some_portion (takeover node) (work.Transaction g.tx) (stage_sends layout stage g) at
      (each_append Q (front_sends g.tx stage) (flat_map (key_sends layout g.tx stage) g.keys) front
      (some_keys layout g.tx stage g.keys))
