-- Hosts of the plain machine send nothing to main parts of nodes.
use Rattle.std.proofs.Common.{◌≡◌, ◌⊎◌, ◌<◌, ◌≤◌, ◌+◌, ◌-◌, ◌*◌, inl, inr, ℕ, zero, suc, List, [], ◌∷◌, true, false}
use Rattle.std.proofs.Common.{refl, ap, sym, ◌∙◌, arith, eq-eqb, ne_eqb}
use Rattle.std.specs.Prelude.{if◌then◌else◌}
use Rattle.std.proofs.lemmas.Bool.{cases_lt, false≢true, true≢false}
use Rattle.std.proofs.lemmas.Nat.{mod-mul-add}
use Rattle.frag_map.specs.Layout.{first_view}
use Rattle.run_theory.specs.Links.{put, sent}
use Rattle.run_theory.specs.Lists.{Each}
use Rattle.sig_core.specs.declared.outs.Outgoing.{Outgoing}
use Rattle.sig_core.specs.declared.place.BlockId.{BlockId}
use Rattle.sig_core.specs.declared.place.BlockId.TheVariants as block
use Rattle.sig_core.specs.declared.place.Part.{Part}
use Rattle.sig_core.specs.declared.place.Part.TheVariants.{Main, Tc, Ldm}
use Rattle.sig_core.specs.declared.place.Place.{Place}
use Rattle.sig_core.specs.Part.{part_of}
use Rattle.sig_core.specs.Place.{client}
use Rattle.world_core.proofs.HostNumbers.{beyond_first, client_host, node_host}
use Rattle.world_core.specs.Hosts.{first_membership, host_by, host_for, first_hosts, member_of, number_of, part_by}
use Rattle.world_core.specs.Hosts.{receiver}
use Rattle.world_core.specs.Machine.{addressed, all_addressed, counted, machine, sent_count, step_after}
use Rattle.world_core.specs.Start.{Start, made}
use Rattle.world_core.specs.Steps.{Addressed, HostStep}
use Rattle.calm_laws.specs.Plain.{is_beating, is_main}
use Rattle.calm_laws.specs.Steps.{IsPlainPlace, IsPlainSend, is_of_parts}

-- the host of a part that is no main one isn't beating
part_rests : (a : ℕ) (of : Part) → is_main of ≡ false → is_beating (a * 3 + number_of of) ≡ false
part_rests a Main other = absurd (true≢false other)
part_rests a Tc other =
    let behind : a * 3 + 2 ≡ suc (a * 3 + 1) = omega arith in
    ap is_beating behind ∙ ap (λ left. is_main (part_by left)) (mod-mul-add a 3 1 (omega arith))
part_rests a Ldm other =
    let behind : a * 3 + 3 ≡ suc (a * 3 + 2) = omega arith in
    ap is_beating behind ∙ ap (λ left. is_main (part_by left)) (mod-mul-add a 3 2 (omega arith))

other_part : (of : BlockId) → is_of_parts of ≡ true → is_main (part_of of) ≡ false
other_part block.Tc parts = refl
other_part block.Dih parts = refl
other_part block.Lqh parts = refl
other_part of parts = absurd cc

module _ (start : Start) where
  -- what is for node 0 goes to the shell's host
  shell_host : (to : Place) → to.node ≡ 0 → host_for start to ≡ 0
  unfolding receiver
  shell_host to shell =
      ap
      (λ b.
      if b then 0 else host_by (made start) (part_of to.block) (member_of (first_view start.shape.nodes) to.node))
      (eq-eqb to.node 0 shell)

  -- what is for the transactions or the rows of a node that is there, or for the client, goes to no main part
  parts_rest : (to : Place) → is_of_parts to.block ≡ true → to.node ≤ start.shape.nodes
      → is_beating (host_for start to) ≡ false
  parts_rest to parts low = go (cases_lt 0 to.node)
    where
      go : (0 < to.node) ⊎ (to.node ≤ 0) → is_beating (host_for start to) ≡ false
      go (inl some) =
          ap is_beating (node_host start to (omega (arith, some)) low)
          ∙ part_rests (to.node - 1) (part_of to.block) (other_part to.block parts)
      go (inr none) = ap is_beating (shell_host to (omega (arith, none)))

  client_rests : (to : Place) → to ≡ client → is_beating (host_for start to) ≡ false
  client_rests to is = ap is_beating (ap (host_for start) is ∙ client_host start)

  -- and what is for a node that isn't there to none of the hosts
  module _ (j : ℕ) (low : j < first_hosts start) (beats : is_beating j ≡ true) where
    rests_apart : (to : Place) → is_beating (host_for start to) ≡ false → host_for start to ≡ j → ⊥
    rests_apart to rests same = false≢true (sym rests ∙ ap is_beating same ∙ beats)

    parts_apart : (to : Place) → is_of_parts to.block ≡ true → host_for start to ≡ j → ⊥
    parts_apart to parts same = go (cases_lt start.shape.nodes to.node)
      where
        go : (start.shape.nodes < to.node) ⊎ (to.node ≤ start.shape.nodes) → ⊥
        go (inl above) = absurd (omega (arith, beyond_first start to above, same, low))
        go (inr there) = rests_apart to (parts_rest to parts there) same

    place_apart : (h : ℕ) (to : Place) → IsPlainPlace h to → host_for start to ≡ j → ⊥
    place_apart zero to parts same = parts_apart to parts same
    place_apart (suc h) to (inl parts) same = parts_apart to parts same
    place_apart (suc h) to (inr is) same = rests_apart to (client_rests to is) same

    put_none : (h stamp : ℕ) (count : ℕ → ℕ) (sends : List Outgoing) (before : List Addressed)
        → Each (IsPlainSend h) sends
        → put (machine start) j (all_addressed (first_membership start) h stamp count sends) before ≡ before
    put_none h stamp count [] before all = refl
    put_none h stamp count (one ∷ more) before all =
        let to : ℕ = host_for start one.to in
        ap (λ b.
        put (machine start) j (all_addressed (first_membership start) h stamp (counted to count) more)
        (if b then addressed (first_membership start) h stamp (count to) one ∷ before else before))
        (ne_eqb to j (place_apart h one.to all.0.place))
        ∙ put_none h stamp (counted to count) more before all.1

    -- so a link to a main part stays as it was
    pub none_next : (h : ℕ) (log : List HostStep) (e : HostStep)
        → Each (IsPlainSend h) (step_after start h log e).effects.sends
        → sent (machine start) h j log ≡ [] → sent (machine start) h j (e ∷ log) ≡ []
    none_next h log e all before =
        put_none h e.step.stamp (sent_count start h log) (step_after start h log e).effects.sends
        (sent (machine start) h j log) all
        ∙ before
