-- What a transaction sends in a phase doesn't hang on the epoch, but for the epoch that it tells.
use Rattle.std.proofs.Common.{◌≡◌, ◌∙◌, ◌+◌, ℕ, Bool, true, false, List, [], ◌++◌, map, take, drop, length, refl, sym}
use Rattle.std.proofs.Common.{ap}
use Rattle.std.specs.Prelude.{nat_lt}
use Rattle.std.specs.List.{flat_map}
use Rattle.std.proofs.lemmas.List.{drop-map, length-map, map-append, take-map}
use Rattle.frag_map.specs.Layout.{Layout, chain_of}
use Rattle.sig_core.specs.declared.member.Member.{Member}
use Rattle.sig_core.specs.declared.member.TxId.{TxId}
use Rattle.sig_core.specs.declared.outs.Outgoing.{Outgoing}
use Rattle.sig_core.specs.declared.portion.TheConstants.{PORTION}
use Rattle.sig_core.specs.Step.{Effects}
use Rattle.tc_block.specs.Part.{part_effects, rest_if}
use Rattle.tc_block.specs.Sends.{abort_of, complete_if, entering, front_sends, go_on_if, go_on_row, key_sends}
use Rattle.tc_block.specs.Sends.{phase_sends, wait_of}
use Rattle.tc_block.specs.declared.phase.Phase.{Phase}
use Rattle.tc_block.specs.declared.phase.Phase.TheVariants.{Open, Verifying, Committing, Completing, Aborting}
use Rattle.tc_block.specs.declared.sends.TheConstants.{SENDS}
use Rattle.tc_block.specs.declared.touched.Touched.{Touched}
use Rattle.tc_block.specs.declared.transaction.Transaction.{Transaction}
use Rattle.level_laws.specs.Levels.{effects_at, phase_at, send_at, step_at, transaction_at}
use Rattle.level_laws.proofs.LevelLists.{flat_level, mapped_level}

module _ (epoch : ℕ) (tx : TxId) where
  abbrev sends_at : List Outgoing → List Outgoing
  sends_at sends = map (send_at epoch) sends

  -- what is sent to replicas tells no epoch
  pub aborts_level : (key : List ℕ) (replicas : List Member)
      → map (abort_of tx key) replicas ≡ sends_at (map (abort_of tx key) replicas)
  aborts_level key replicas = mapped_level (send_at epoch) (abort_of tx key) (λ replica. refl) replicas

  pub waits_level : (key : List ℕ) (replicas : List Member)
      → map (wait_of tx key) replicas ≡ sends_at (map (wait_of tx key) replicas)
  waits_level key replicas = mapped_level (send_at epoch) (wait_of tx key) (λ replica. refl) replicas

  front_level : (phase : Phase) → front_sends tx (phase_at epoch phase) ≡ sends_at (front_sends tx phase)
  unfolding front_sends
  front_level Open = refl
  front_level Verifying = refl
  front_level (Committing other awaited) = refl
  front_level (Completing other awaited) = refl
  front_level (Aborting cause verifying awaited) = refl

  complete_level : (t : Touched) (b : Bool) → complete_if tx t b ≡ sends_at (complete_if tx t b)
  complete_level t true = refl
  complete_level t false = refl

  module _ (layout : Layout) where
    key_level : (phase : Phase) (t : Touched)
        → key_sends layout tx (phase_at epoch phase) t ≡ sends_at (key_sends layout tx phase t)
    unfolding key_sends
    key_level Open t = refl
    key_level Verifying t = refl
    key_level (Committing other awaited) t = refl
    key_level (Completing other awaited) t = complete_level t t.written
    key_level (Aborting cause verifying awaited) t = aborts_level t.key (chain_of layout t.key)

    phase_level : (phase : Phase) (touched : List Touched)
        → phase_sends layout tx (phase_at epoch phase) touched ≡ sends_at (phase_sends layout tx phase touched)
    unfolding phase_sends
    phase_level phase touched =
        ap (λ front. front ++ flat_map (key_sends layout tx (phase_at epoch phase)) touched) (front_level phase)
        ∙ (ap (λ rest. sends_at (front_sends tx phase) ++ rest)
        (flat_level (send_at epoch) (key_sends layout tx phase) (key_sends layout tx (phase_at epoch phase))
        (key_level phase) touched)
        ∙ sym (map-append (send_at epoch) (front_sends tx phase) (flat_map (key_sends layout tx phase) touched)))

  -- a part of a list
  module _ (node : ℕ) where
    rest_level : (at : ℕ) (b : Bool) → rest_if node tx at b ≡ sends_at (rest_if node tx at b)
    rest_level at true = refl
    rest_level at false = refl

    part_level : (sends : List Outgoing) (at : ℕ)
        → part_effects node tx (sends_at sends) at ≡ effects_at epoch (part_effects node tx sends at)
    unfolding part_effects
    part_level sends at =
        ap (λ (all : List Outgoing). record { sends = all; marks = [] })
        (ap (λ part. part ++ rest_if node tx at (nat_lt (at + PORTION) (length (sends_at sends)))) part
        ∙ (ap (λ rest. sends_at (take PORTION (drop at sends)) ++ rest) rest
        ∙ sym (map-append (send_at epoch) (take PORTION (drop at sends))
        (rest_if node tx at (nat_lt (at + PORTION) (length sends))))))
      where
        part : take PORTION (drop at (sends_at sends)) ≡ sends_at (take PORTION (drop at sends))
        part = ap (take PORTION) (drop-map (send_at epoch) at sends) ∙ take-map (send_at epoch) PORTION (drop at sends)

        rest : rest_if node tx at (nat_lt (at + PORTION) (length (sends_at sends)))
            ≡ sends_at (rest_if node tx at (nat_lt (at + PORTION) (length sends)))
        rest =
            ap (λ many. rest_if node tx at (nat_lt (at + PORTION) many)) (length-map sends (send_at epoch))
            ∙ rest_level at (nat_lt (at + PORTION) (length sends))

    sent_level : (layout : Layout) (phase : Phase) (touched : List Touched) (at : ℕ)
        → part_effects node tx (phase_sends layout tx (phase_at epoch phase) touched) at
        ≡ effects_at epoch (part_effects node tx (phase_sends layout tx phase touched) at)
    sent_level layout phase touched at =
        ap (λ sends. part_effects node tx sends at) (phase_level layout phase touched)
        ∙ part_level (phase_sends layout tx phase touched) at

    pub entering_level : (layout : Layout) (t : Transaction) (phase : Phase)
        → entering node layout tx (transaction_at epoch t) (phase_at epoch phase)
        ≡ step_at (transaction_at epoch) epoch (entering node layout tx t phase)
    unfolding entering
    entering_level layout t phase =
        ap (λ (effects : Effects). record {
          state = record t { phase = phase_at epoch phase };
          effects = effects;
        })
        (sent_level layout phase t.touched 0)

    go_on_if_level : (layout : Layout) (t : Transaction) (at : ℕ) (b : Bool)
        → go_on_if node layout tx (transaction_at epoch t) at b
        ≡ step_at (transaction_at epoch) epoch (go_on_if node layout tx t at b)
    go_on_if_level layout t at true =
        ap (λ (effects : Effects). record { state = transaction_at epoch t; effects = effects })
        (sent_level layout t.phase t.touched at)
    go_on_if_level layout t at false = refl

    pub go_on_level : (layout : Layout) (t : Transaction) (at : ℕ)
        → go_on_row node layout tx (transaction_at epoch t) at
        ≡ step_at (transaction_at epoch) epoch (go_on_row node layout tx t at)
    unfolding go_on_row
    go_on_level layout t at = go_on_if_level layout t at (nat_lt at SENDS)
