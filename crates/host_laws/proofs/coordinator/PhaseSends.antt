-- What a transaction sends as it comes to a phase, or goes on with that.
use Rattle.std.proofs.Common.{◌≡◌, ℕ, Bool, true, false, List, refl}
use Rattle.std.specs.List.{flat_map}
use Rattle.std.specs.Prelude.{drop, length, map, nat_lt, take}
use Rattle.sig_core.specs.declared.member.Member.{Member}
use Rattle.sig_core.specs.declared.member.TxId.{TxId}
use Rattle.sig_core.specs.declared.outs.Outgoing.{Outgoing}
use Rattle.sig_core.specs.declared.signal.Body.{Body}
use Rattle.sig_core.specs.declared.signal.Body.TheVariants.{Chain, Host}
use Rattle.sig_core.specs.declared.signal.chain.ChainSignal.TheVariants.{Commit, Complete, Abort}
use Rattle.sig_core.specs.declared.signal.host.HostSignal.TheVariants.{Continue}
use Rattle.sig_core.specs.declared.signal.host.Work.TheVariants as work
use Rattle.frag_map.specs.Layout.{Layout}
use Rattle.tc_block.specs.declared.phase.Phase.{Phase}
use Rattle.tc_block.specs.declared.phase.Phase.TheVariants.{Open, Verifying, Committing, Completing, Aborting}
use Rattle.tc_block.specs.declared.touched.Touched.{Touched}
use Rattle.tc_block.specs.declared.transaction.Transaction.{Transaction}
use Rattle.frag_map.specs.Layout.{chain_of}
use Rattle.tc_block.specs.Part.{part_effects, rest_if}
use Rattle.tc_block.specs.Sends.{abort_of, complete_if, entering, front_sends, go_on_if, key_sends, phase_sends}
use Rattle.host_laws.proofs.hosts.SendKinds.{are_of, of_append, of_drop, of_flat, of_map, of_take, one_kind}
use Rattle.sig_core.specs.declared.portion.TheConstants.{PORTION}

-- a kind of signal that has what is sent to replicas, and what goes on with a list
pub record HasChains (tx : TxId) (kind : Body → Bool) : Type 0 where
  pub commits : (key : List ℕ) (epoch : ℕ) (chain : List Member) (at : ℕ)
      → kind (Chain (Commit tx key epoch chain at)) ≡ true
  pub completes : (key : List ℕ) (chain : List Member) (at : ℕ) → kind (Chain (Complete tx key chain at)) ≡ true
  pub aborts : (key : List ℕ) → kind (Chain (Abort tx key)) ≡ true
  pub goes_on : (at : ℕ) → kind (Host (Continue (work.Transaction tx) at)) ≡ true

-- a part of a list is of the kind that the list is of, and the signal to go on
pub part_of : (kind : Body → Bool) (tx : TxId) → ((at : ℕ) → kind (Host (Continue (work.Transaction tx) at)) ≡ true)
    → (node : ℕ) (sends : List Outgoing) (at : ℕ) → are_of kind sends ≡ true
    → are_of kind (part_effects node tx sends at).sends ≡ true
unfolding part_effects
part_of kind tx goes_on node sends at all =
    of_append kind (take PORTION (drop at sends)) _ (of_take kind PORTION (drop at sends) (of_drop kind at sends all))
    (by (nat_lt _ (length sends)))
  where
    by : (b : Bool) → are_of kind (rest_if node tx at b) ≡ true
    by true = one_kind _ (goes_on _)
    by false = refl

module _ (kind : Body → Bool) (layout : Layout) (tx : TxId) (has : HasChains tx kind) where
  pub aborts_of_kind : (key : List ℕ) (members : List Member) → are_of kind (map (abort_of tx key) members) ≡ true
  aborts_of_kind key members = of_map kind (abort_of tx key) members (λ m. has.aborts key)

  keys_of_kind : (phase : Phase) (t : Touched) → are_of kind (key_sends layout tx phase t) ≡ true
  unfolding key_sends
  keys_of_kind (Committing epoch awaited) t = one_kind _ (has.commits t.key epoch t.chain _)
  keys_of_kind (Completing epoch awaited) t = by t.written
    where
      by : (b : Bool) → are_of kind (complete_if tx t b) ≡ true
      by true = one_kind _ (has.completes t.key t.chain _)
      by false = refl
  keys_of_kind (Aborting why verifying awaited) t = aborts_of_kind t.key (chain_of layout t.key)
  keys_of_kind Open t = refl
  keys_of_kind Verifying t = refl

  pub phase_of_kind : (phase : Phase) (touched : List Touched) → are_of kind (front_sends tx phase) ≡ true
      → are_of kind (phase_sends layout tx phase touched) ≡ true
  unfolding phase_sends
  phase_of_kind phase touched front =
      of_append kind (front_sends tx phase) (flat_map (key_sends layout tx phase) touched) front
      (of_flat kind (key_sends layout tx phase) touched (keys_of_kind phase))

  part_of_kind : (node : ℕ) (sends : List Outgoing) (at : ℕ) → are_of kind sends ≡ true
      → are_of kind (part_effects node tx sends at).sends ≡ true
  part_of_kind node sends at all = part_of kind tx has.goes_on node sends at all

  pub entering_of_kind : (node : ℕ) (t : Transaction) (phase : Phase) → are_of kind (front_sends tx phase) ≡ true
      → are_of kind (entering node layout tx t phase).effects.sends ≡ true
  unfolding entering
  entering_of_kind node t phase front =
      part_of_kind node (phase_sends layout tx phase t.touched) 0 (phase_of_kind phase t.touched front)

  pub parts_of_kind : (node : ℕ) (phase : Phase) (touched : List Touched) (at : ℕ)
      → are_of kind (front_sends tx phase) ≡ true
      → are_of kind (part_effects node tx (phase_sends layout tx phase touched) at).sends ≡ true
  parts_of_kind node phase touched at front =
      part_of_kind node (phase_sends layout tx phase touched) at (phase_of_kind phase touched front)

  pub rest_of_kind : (node : ℕ) (t : Transaction) (at : ℕ) → are_of kind (front_sends tx t.phase) ≡ true
      → are_of kind (go_on_if node layout tx t at true).effects.sends ≡ true
  rest_of_kind node t at front = parts_of_kind node t.phase t.touched at front
