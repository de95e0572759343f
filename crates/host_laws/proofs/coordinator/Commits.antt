-- What a transaction that commits waits for was sent, or is left to be sent.
use Rattle.std.proofs.Common.{◌≡◌, ℕ, zero, suc, ◌-◌, ◌<◌, List, [], ◌∷◌, length, Bool, true, false, refl, subst, arith}
use Rattle.std.specs.Prelude.{◌==◌, ◌&&◌, nat_lt}
use Rattle.std.specs.List.{flat_map}
use Rattle.std.proofs.lemmas.Bool.Decides.{nat_tests}
use Rattle.run_theory.specs.Lists.{Each}
use Rattle.sig_core.specs.declared.member.Member.{Member}
use Rattle.sig_core.specs.declared.member.TxId.{TxId}
use Rattle.sig_core.specs.declared.outs.Outgoing.{Outgoing}
use Rattle.sig_core.specs.declared.place.Place.{Place}
use Rattle.sig_core.specs.declared.signal.Body.{Body}
use Rattle.sig_core.specs.declared.signal.Body.TheVariants.{Chain}
use Rattle.sig_core.specs.declared.signal.chain.ChainSignal.TheVariants.{Commit, Committed}
use Rattle.frag_map.specs.Layout.{Layout}
use Rattle.sig_core.specs.Chain.{last_place, node_at}
use Rattle.sig_core.specs.Same.{same_tx}
use Rattle.tc_block.specs.declared.phase.Phase.TheVariants.{Committing}
use Rattle.tc_block.specs.declared.touched.Touched.{Touched}
use Rattle.tc_block.specs.Part.{part_effects}
use Rattle.tc_block.specs.Sends.{commit_of, front_sends, key_sends, phase_sends}
use Rattle.sig_core.proofs.Keys.{same_tx-self}
use Rattle.host_laws.proofs.rows.Operations.{is_good, is_lqh, is_node, left_of, right_of, true_and}
use Rattle.host_laws.proofs.hosts.PartCounts.{IsPart, part_is}
use Rattle.host_laws.proofs.api.Wishes.{is_tc}

-- a chain of nodes, of which there are some
abbrev pub is_chain : ℕ → List Member → Bool
is_chain n chain = is_good n chain && nat_lt 0 (length chain)

-- a commit of the transaction on its way along a chain, or its answer
abbrev pub is_commit : ℕ → TxId → Place → Body → Bool
is_commit n tx to (Chain (Commit other key epoch chain at)) =
    (is_lqh to.block && is_node n to.node) && (same_tx other tx && (is_good n chain && nat_lt at (length chain)))
is_commit n tx to (Chain (Committed other key)) = (is_tc to.block && (to.node == tx.tc)) && same_tx other tx
is_commit n tx to _ = false

pub chain_at : (n : ℕ) (chain : List Member) (at : ℕ) → is_good n chain ≡ true → at < length chain
    → is_node n (node_at chain at) ≡ true
chain_at n [] at good low = absurd (omega (arith, low))
chain_at n (m ∷ chain) zero good low = left_of (is_node n m.node) (is_good n chain) good
chain_at n (m ∷ chain) (suc at) good low =
    chain_at n chain at (right_of (is_node n m.node) (is_good n chain) good) (omega (arith, low))

module _ (n : ℕ) (tx : TxId) where
  abbrev passes : Outgoing → Bool
  passes x = is_commit n tx x.to x.body

  commit_passes : (epoch : ℕ) (t : Touched) → is_chain n t.chain ≡ true → passes (commit_of tx epoch t) ≡ true
  commit_passes epoch t good =
      let some : 0 < length t.chain =
      grind (arith, nat_tests, right_of (is_good n t.chain) (nat_lt 0 (length t.chain)) good) in
      let low : length t.chain - 1 < length t.chain = omega (arith, some) in
      let chain = left_of (is_good n t.chain) (nat_lt 0 (length t.chain)) good in
      true_and (is_node n (node_at t.chain (last_place t.chain)))
      (same_tx tx tx && (is_good n t.chain && nat_lt (last_place t.chain) (length t.chain)))
      (chain_at n t.chain (last_place t.chain) chain low)
      (true_and (same_tx tx tx) (is_good n t.chain && nat_lt (last_place t.chain) (length t.chain)) (same_tx-self tx)
      (true_and (is_good n t.chain) (nat_lt (last_place t.chain) (length t.chain)) chain
      (grind (arith, nat_tests, low))))

  all_commits : (layout : Layout) (epoch awaited : ℕ) (touched : List Touched)
      → Each (λ (t : Touched). is_chain n t.chain ≡ true) touched
      → (Each (λ x. passes x ≡ true) (flat_map (key_sends layout tx (Committing epoch awaited)) touched))
      × (length (flat_map (key_sends layout tx (Committing epoch awaited)) touched) ≡ length touched)
  unfolding key_sends
  all_commits layout epoch awaited [] good = (tt, refl)
  all_commits layout epoch awaited (t ∷ touched) good =
      let rest = all_commits layout epoch awaited touched good.1 in
      ((commit_passes epoch t good.0, rest.0), omega (arith, rest.1))

  -- a part of what it sends: eight and the signal to go on, or all that is left
  pub part_law : (node : ℕ) (layout : Layout) (epoch awaited at : ℕ) (touched : List Touched) → node ≡ tx.tc
      → Each (λ (t : Touched). is_chain n t.chain ≡ true) touched
      → IsPart (is_commit n tx) tx (length touched) at
      (part_effects node tx (phase_sends layout tx (Committing epoch awaited) touched) at).sends
  unfolding phase_sends front_sends
  part_law node layout epoch awaited at touched home good =
      let all = all_commits layout epoch awaited touched good in
      subst (λ l. IsPart (is_commit n tx) tx l at (part_effects node tx
      (flat_map (key_sends layout tx (Committing epoch awaited)) touched) at).sends) all.1
      (part_is (is_commit n tx) node tx (flat_map (key_sends layout tx (Committing epoch awaited)) touched) at home
      all.0)
