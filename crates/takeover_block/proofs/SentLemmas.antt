-- What is sent at a stage is right, by what was heard.
use Rattle.std.proofs.Common.{◌≡◌, ℕ, zero, suc, Bool, true, false, List, [], ◌∷◌, take, drop, length, map, nat_lt, ◌+◌}
use Rattle.std.specs.List.{flat_map}
use Rattle.run_theory.specs.Lists.{Each}
use Rattle.run_theory.proofs.Pasts.{each_append}
use Rattle.sig_core.specs.declared.member.Member.{Member}
use Rattle.sig_core.specs.declared.member.TxId.{TxId}
use Rattle.sig_core.specs.declared.outs.Outgoing.{Outgoing}
use Rattle.sig_core.specs.declared.place.Place.{Place}
use Rattle.sig_core.specs.declared.signal.Body.{Body}
use Rattle.sig_core.specs.declared.signal.host.Work.{Work}
use Rattle.sig_core.specs.declared.signal.host.Work.TheVariants as work
use Rattle.sig_core.specs.declared.view.View.{View}
use Rattle.sig_core.specs.Place.{takeover}
use Rattle.sig_core.specs.Portion.{portion_effects, rest_if}
use Rattle.frag_map.specs.Layout.{Layout, chain_of}
use Rattle.takeover_block.specs.declared.gathered.Gathered.{Gathered}
use Rattle.takeover_block.specs.declared.stage.Stage.{Stage}
use Rattle.takeover_block.specs.declared.stage.Stage.TheVariants.{Resting, Gathering, Committing, Completing, Aborting}
use Rattle.takeover_block.specs.Laws.{AbortIsUntold, AllHaveEnded, CommitIsTold, Heard, IsTold, IsUntold}
use Rattle.takeover_block.specs.Sends.{abort_at, ask_effects, ask_of, asks_of, front_sends}
use Rattle.takeover_block.specs.Sends.{key_sends, key_sends_along, stage_effects, stage_sends}

-- all that the laws say of what is sent
pub record IsRight (h : Heard) (body : Body) : Type 0 where
  pub commit : CommitIsTold h body
  pub abort : AbortIsUntold h body
  pub ended : AllHaveEnded h body

abbrev pub AreRight : Heard → List Outgoing → Type 0
AreRight h sends = Each (λ send. IsRight h send.body) sends

-- the stage fits what was told of its transaction
abbrev pub FitsTold : Heard → TxId → Stage → Type 0
FitsTold h tx Resting = Unit {0}
FitsTold h tx (Gathering n) = Unit {0}
FitsTold h tx (Committing epoch n) = IsTold h.told tx epoch
FitsTold h tx (Completing epoch n) = IsTold h.told tx epoch
FitsTold h tx (Aborting n) = IsUntold h.told tx

right_take : (h : Heard) (n : ℕ) (sends : List Outgoing) → AreRight h sends → AreRight h (take n sends)
right_take h zero sends r = tt
right_take h (suc n) [] r = tt
right_take h (suc n) (x ∷ xs) r = (r.0, right_take h n xs r.1)

right_drop : (h : Heard) (n : ℕ) (sends : List Outgoing) → AreRight h sends → AreRight h (drop n sends)
right_drop h zero sends r = r
right_drop h (suc n) [] r = tt
right_drop h (suc n) (x ∷ xs) r = right_drop h n xs r.1

module _ (h : Heard) where
  onward : (by : Place) (w : Work) (at : ℕ) (b : Bool) → AreRight h (rest_if by w at b)
  onward by w at true = (record { commit = tt; abort = tt; ended = tt }, tt)
  onward by w at false = tt

  -- a portion of a list that is right
  portion_right : (by : Place) (w : Work) (sends : List Outgoing) (at : ℕ) → AreRight h sends
      → AreRight h (portion_effects by w sends at).sends
  portion_right by w sends at r =
      each_append (λ send. IsRight h send.body) (take 8 (drop at sends))
      (rest_if by w at (nat_lt (at + 8) (length sends)))
      (right_take h 8 (drop at sends) (right_drop h at sends r)) (onward by w at (nat_lt (at + 8) (length sends)))

  asks_right : (members : List Member) → AreRight h (map ask_of members)
  asks_right [] = tt
  asks_right (m ∷ ms) = (record { commit = tt; abort = tt; ended = tt }, asks_right ms)

  pub ask_right : (node : ℕ) (view : View) (at : ℕ) → AreRight h (ask_effects node view at).sends
  unfolding ask_effects asks_of
  ask_right node view at =
      portion_right (takeover node) work.Members (asks_of view) at
      (each_append (λ send. IsRight h send.body) (map ask_of view.full) (map ask_of view.starting)
      (asks_right view.full) (asks_right view.starting))

  module _ (none : h.awaited ≡ 0) where
    aborts_right : (tx : TxId) (key : List ℕ) (chain : List Member) → IsUntold h.told tx
        → AreRight h (map (abort_at tx key) chain)
    aborts_right tx key [] untold = tt
    aborts_right tx key (m ∷ ms) untold =
        (record { commit = tt; abort = untold; ended = none }, aborts_right tx key ms untold)

    along_right : (tx : TxId) (stage : Stage) (key : List ℕ) (chain : List Member) → FitsTold h tx stage
        → AreRight h (key_sends_along tx stage key chain)
    along_right tx Resting key chain fits = tt
    along_right tx (Gathering n) key chain fits = tt
    along_right tx (Committing epoch n) key chain fits = (record { commit = fits; abort = tt; ended = none }, tt)
    along_right tx (Completing epoch n) key chain fits = (record { commit = tt; abort = tt; ended = none }, tt)
    along_right tx (Aborting n) key chain fits = aborts_right tx key chain fits

    keys_right : (layout : Layout) (tx : TxId) (stage : Stage) (keys : List (List ℕ)) → FitsTold h tx stage
        → AreRight h (flat_map (key_sends layout tx stage) keys)
    unfolding key_sends
    keys_right layout tx stage [] fits = tt
    keys_right layout tx stage (key ∷ keys) fits =
        each_append (λ send. IsRight h send.body) (key_sends layout tx stage key)
        (flat_map (key_sends layout tx stage) keys)
        (along_right tx stage key (chain_of layout key) fits) (keys_right layout tx stage keys fits)

    front_right : (tx : TxId) (stage : Stage) → FitsTold h tx stage → AreRight h (front_sends tx stage)
    unfolding front_sends
    front_right tx Resting fits = tt
    front_right tx (Gathering n) fits = tt
    front_right tx (Committing epoch n) fits = tt
    front_right tx (Completing epoch n) fits = (record { commit = fits; abort = tt; ended = none }, tt)
    front_right tx (Aborting n) fits = tt

    pub stage_right : (node : ℕ) (layout : Layout) (stage : Stage) (g : Gathered) (at : ℕ) → FitsTold h g.tx stage
        → AreRight h (stage_effects node layout stage g at).sends
    unfolding stage_effects stage_sends
    stage_right node layout stage g at fits =
        portion_right (takeover node) (work.Transaction g.tx) (stage_sends layout stage g) at
        (each_append (λ send. IsRight h send.body) (front_sends g.tx stage)
        (flat_map (key_sends layout g.tx stage) g.keys)
        (front_right g.tx stage fits) (keys_right layout g.tx stage g.keys fits))
