-- Places that take a signal in calm: what is for such a place, of a node that is there, its host takes.
use Rattle.std.proofs.Common.{◌≡◌, ◌⊎◌, ◌<◌, ◌≤◌, ◌+◌, ℕ, suc, Bool, true, refl, ap, ◌∙◌, arith, inl, inr}
use Rattle.std.specs.Prelude.{◌&&◌, ◌*◌, ◌-◌, ◌==◌, nat_le}
use Rattle.std.proofs.lemmas.Bool.{and_from, cases_lt, eqb-true, false≢true, le-leb, leb-true}
use Rattle.std.proofs.lemmas.Nat.{mod-mul-add}
use Rattle.sig_core.specs.declared.place.BlockId.{BlockId}
use Rattle.sig_core.specs.declared.place.BlockId.TheVariants as block
use Rattle.sig_core.specs.declared.place.Place.{Place}
use Rattle.sig_core.specs.declared.signal.Body.{Body}
use Rattle.sig_core.specs.Part.{part_of}
use Rattle.sig_core.specs.Place.{client}
use Rattle.world_core.proofs.HostNumbers.{beyond_first, node_host}
use Rattle.world_core.specs.Hosts.{host_for, first_hosts, number_of, part_by}
use Rattle.world_core.specs.Start.{Start}
use Rattle.host_laws.proofs.hosts.LinkCounts.{at_shell}
use Rattle.calm_laws.specs.Calm.{has_block, is_for, is_for_client, is_for_coordinator, is_for_epochs, is_for_rows}
use Rattle.calm_laws.specs.Calm.{is_in}

-- the client's side is of no node, and each other block of one
abbrev pub is_place : BlockId → ℕ → Bool
is_place block.Api node = node == 0
is_place at node = nat_le 1 node

-- the place takes it
pub record IsFit (to : Place) (body : Body) : Type 0 where
  pub takes : is_for to.block body ≡ true
  pub node : is_place to.block to.node ≡ true

-- the client's, and those of a node
pub client_fits : (body : Body) → is_for_client body ≡ true → IsFit client body
client_fits body takes = record { takes = takes; node = refl }

pub coordinator_fits : (to : Place) (body : Body) → to.block ≡ block.Tc → 1 ≤ to.node → is_for_coordinator body ≡ true
    → IsFit to body
coordinator_fits to body at some takes = record {
  takes = ap (λ b. is_for b body) at ∙ takes;
  node = ap (λ b. is_place b to.node) at ∙ le-leb 1 to.node some;
}

pub epochs_fit : (to : Place) (body : Body) → to.block ≡ block.Dih → 1 ≤ to.node → is_for_epochs body ≡ true
    → IsFit to body
epochs_fit to body at some takes = record {
  takes = ap (λ b. is_for b body) at ∙ takes;
  node = ap (λ b. is_place b to.node) at ∙ le-leb 1 to.node some;
}

pub rows_fit : (to : Place) (body : Body) → to.block ≡ block.Lqh → 1 ≤ to.node → is_for_rows body ≡ true → IsFit to body
rows_fit to body at some takes = record {
  takes = ap (λ b. is_for b body) at ∙ takes;
  node = ap (λ b. is_place b to.node) at ∙ le-leb 1 to.node some;
}

module _ (start : Start) where
  -- a node that is there has the block at its host
  node_has : (to : Place) (at : BlockId) (left : ℕ) → to.block ≡ at → number_of (part_of at) ≡ left + 1 → left < 3
      → is_in (part_by left) at ≡ true → 1 ≤ to.node → to.node ≤ start.shape.nodes
      → has_block (host_for start to) at ≡ true
  node_has to at left is number few inside some low =
      let part : number_of (part_of to.block) ≡ left + 1 = ap (λ b. number_of (part_of b)) is ∙ number in
      let own : host_for start to ≡ suc ((to.node - 1) * 3 + left) = omega (arith, node_host start to some low, part) in
      ap (λ h. has_block h at) own ∙ ap (λ r. is_in (part_by r) at) (mod-mul-add (to.node - 1) 3 left few) ∙ inside

  -- a node whose host is there is one
  node_low : (to : Place) → host_for start to < first_hosts start → to.node ≤ start.shape.nodes
  node_low to low = by (cases_lt start.shape.nodes to.node)
    where
      by : (start.shape.nodes < to.node) ⊎ (to.node ≤ start.shape.nodes) → to.node ≤ start.shape.nodes
      by (inl above) = absurd (omega (arith, beyond_first start to above, low))
      by (inr few) = few

  place_has : (to : Place) (body : Body) (at : BlockId) → to.block ≡ at → is_for at body ≡ true
      → is_place at to.node ≡ true → host_for start to < first_hosts start → has_block (host_for start to) at ≡ true
  place_has to body block.Api is takes there low =
      ap (λ h. has_block h block.Api) (eqb-true (host_for start to) 0 (at_shell start to ∙ there))
  place_has to body block.Qmgr is takes there low =
      node_has to block.Qmgr 0 is refl (omega arith) refl (leb-true 1 to.node there) (node_low to low)
  place_has to body block.Tc is takes there low =
      node_has to block.Tc 1 is refl (omega arith) refl (leb-true 1 to.node there) (node_low to low)
  place_has to body block.Dih is takes there low =
      node_has to block.Dih 1 is refl (omega arith) refl (leb-true 1 to.node there) (node_low to low)
  place_has to body block.Lqh is takes there low =
      node_has to block.Lqh 2 is refl (omega arith) refl (leb-true 1 to.node there) (node_low to low)
  place_has to body at is takes there low = absurd (false≢true takes)

  -- so the host of a place that is there takes it in calm
  pub fit_calm : (to : Place) (body : Body) → IsFit to body → host_for start to < first_hosts start
      → (has_block (host_for start to) to.block && is_for to.block body) ≡ true
  fit_calm to body fits low =
      and_from (has_block (host_for start to) to.block) (is_for to.block body)
      (place_has to body to.block refl fits.takes fits.node low) fits.takes
