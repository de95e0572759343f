-- The system slot from which a life is restarted: the latest of those that its disks have. It is the first one, or its
-- epoch was saved at each node that it lists, and it lists a node of each group.
use Rattle.std.proofs.Common.{◌≡◌, ◌≤◌, ◌<◌, ◌+◌, ◌*◌, ◌==◌, ◌∙◌, ℕ, true, List, refl, sym, ap, subst, inl, inr}
use Rattle.std.proofs.Common.{arith}
use Rattle.std.proofs.lemmas.Bool.{eqb-true}
use Rattle.std.specs.Prelude.{None}
use Rattle.run_theory.proofs.Pasts.{each_in, past_self}
use Rattle.run_theory.specs.Lists.{IsIn}
use Rattle.frag_map.specs.Replicas.{first_start}
use Rattle.frag_map.specs.Shape.{groups}
use Rattle.gcp_master.specs.Orders.{has_node}
use Rattle.sig_core.specs.declared.member.Member.{Member}
use Rattle.sig_core.specs.declared.slots.SystemSlot.{SystemSlot}
use Rattle.sys_restart.proofs.ListedLemmas.{listed_all}
use Rattle.sys_restart.specs.declared.restored.Restored.{Restored}
use Rattle.sys_restart.specs.Calls.{next_system}
use Rattle.sys_restart.specs.Files.{Disks}
use Rattle.sys_restart.specs.Groups.{is_listed}
use Rattle.world_core.proofs.MadeFirst.{begins_made}
use Rattle.world_core.specs.Start.{Start, made}
use Rattle.world_core.specs.Steps.{HostStep}
use Rattle.view_laws.proofs.ballots.Found.{found}
use Rattle.view_laws.proofs.runs.AllSound.{have_orderly}
use Rattle.view_laws.proofs.runs.ChosenViews.{viable}
use Rattle.view_laws.proofs.runs.FirstMembers.{first_in, made_same, node_low, node_some}
use Rattle.moment_laws.proofs.MomentMembers.{full_made}
use Rattle.moment_laws.specs.Places.{ldm_of, tc_of}
use Rattle.disk_laws.specs.Noted.{IsFirstOrNoted}
use Rattle.saved_laws.specs.Copied.{CopiedWereSaved, IsOfSaved, TellsSaved, WasTold}
use Rattle.restart_laws.specs.Restart.{AreLeft}
use Rattle.restart_laws.proofs.groups.Bits.{mask_lists}
use Rattle.restart_laws.proofs.groups.Copied.{noted_saved}
use Rattle.restart_laws.proofs.groups.Latest.{HasSlot, IsLatest, latest_of_each}
use Rattle.restart_laws.proofs.groups.Left.{begins, saved_low, told_saved}
use Rattle.restart_laws.proofs.groups.Nodes.{IsOfGroup, group_below, group_from, group_low, has_full, node_in}
use Rattle.restart_laws.proofs.groups.Sources.{IsManned}

module _ (start : Start) (r : Restored) (logs : ℕ → List HostStep) (images : Disks)
    (left : AreLeft start r logs images) where
  -- the slot is in use on the disk of a member
  pub record IsInUse (slot : SystemSlot) : Type 0 where
    pub member : Member
    pub there : IsIn member (made start)
    pub is : slot ≡ (left.each member there).noted.slot

  abbrev first : SystemSlot
  first = next_system start.shape r

  pub of_generation : (slot : SystemSlot) → IsInUse slot → slot.generation ≡ r.generation + 1
  of_generation slot used =
      ap (λ (s : SystemSlot). s.generation) used.is
      ∙ by (left.each used.member used.there).noted.slot (left.each used.member used.there).noted.is
    where
      by : (s : SystemSlot) → IsFirstOrNoted start (tc_of start used.member) (logs (tc_of start used.member)) first s
          → s.generation ≡ r.generation + 1
      by s (inl is) = ap (λ (other : SystemSlot). other.generation) is
      by s (inr (was, is)) = ap (λ (other : SystemSlot). other.generation) is

  has_slot : (n : ℕ) → 1 ≤ n → n ≤ start.shape.nodes
      → HasSlot start.shape images (r.generation + 1) IsInUse of_generation n
  has_slot n some low =
      let there = begins_made start _ (first_in start.shape.nodes n some low) in
      let of = left.each (first_start n) there in
      record {
        slot = of.noted.slot;
        found = of.latest;
        so = record { member = first_start n; there = there; is = refl };
      }

  pub latest : IsLatest start.shape images (r.generation + 1) IsInUse of_generation 1 start.shape.nodes None 0
  latest =
      latest_of_each start.shape images (r.generation + 1) IsInUse of_generation left.cluster.shape.nodes_some has_slot

  pub system_generation : latest.slot.generation ≡ r.generation + 1
  system_generation = of_generation latest.slot latest.so

  pub system_least : r.epoch ≤ latest.slot.epoch
  system_least =
      let used = latest.so in
      let least : r.epoch ≤ (left.each used.member used.there).noted.slot.epoch =
      (left.each used.member used.there).noted.least in
      let is : latest.slot.epoch ≡ (left.each used.member used.there).noted.slot.epoch =
      ap (λ (s : SystemSlot). s.epoch) used.is in
      omega (arith, least, is)

  pub system_up : (member : Member) (there : IsIn member (made start))
      → (left.each member there).noted.slot.epoch ≤ latest.slot.epoch
  system_up member there =
      let low = node_low start left.cluster.nobody member there in
      latest.greatest member.node (left.each member there).noted.slot (node_some start left.cluster.nobody member there)
      (omega (arith, low)) (left.each member there).latest

  module _ (copied : CopiedWereSaved) where
    -- it is the first, or its epoch was saved
    pub data SystemIs : Type 0 where
      is_first : latest.slot ≡ first → SystemIs
      was_noted : IsOfSaved start logs latest.slot.epoch latest.slot.mask → SystemIs

    pub system_is : SystemIs
    system_is = by (left.each latest.so.member latest.so.there).noted.is
      where
        own : latest.slot ≡ (left.each latest.so.member latest.so.there).noted.slot
        own = latest.so.is

        h : ℕ
        h = tc_of start latest.so.member

        by : IsFirstOrNoted start (tc_of start latest.so.member) (logs (tc_of start latest.so.member)) first
            (left.each latest.so.member latest.so.there).noted.slot → SystemIs
        by (inl is) = is_first (own ∙ is)
        by (inr (was, is)) =
            was_noted (subst (λ (s : SystemSlot). IsOfSaved start logs s.epoch s.mask) (sym own)
            (noted_saved copied start logs left.cluster (begins start r logs images left) (tc_of start latest.so.member)
            (logs (tc_of start latest.so.member)) (past_self (logs (tc_of start latest.so.member)))
            (left.each latest.so.member latest.so.there).noted.slot.epoch
            (left.each latest.so.member latest.so.there).noted.slot.mask was))

    -- what it lists, where its epoch was saved
    listed_as : (of : IsOfSaved start logs latest.slot.epoch latest.slot.mask) (node : ℕ) → 1 ≤ node
        → node ≤ start.shape.nodes → is_listed latest.slot.mask node ≡ has_node node of.view.full
    listed_as of node some low =
        let few = left.cluster.shape.nodes_few in
        ap (λ mask. is_listed mask node) of.mask_is ∙ mask_lists of.view.full node some (omega (arith, low, few))

    -- each node that it lists has saved its epoch
    pub listed_saved : (member : Member) (there : IsIn member (made start))
        → is_listed latest.slot.mask member.node ≡ true
        → latest.slot.epoch ≤ (left.each member there).saved.slot.saved
    listed_saved member there listed = by system_is
      where
        by : SystemIs → latest.slot.epoch ≤ (left.each member there).saved.slot.saved
        by (is_first is) =
            let epoch : latest.slot.epoch ≡ r.epoch = ap (λ (s : SystemSlot). s.epoch) is in
            let low = saved_low start r logs images left member there in
            omega (arith, epoch, low)
        by (was_noted of) =
            let one =
            found (λ (m : Member). m.node == member.node) of.view.full
            (sym (listed_as of member.node (node_some start left.cluster.nobody member there)
            (node_low start left.cluster.nobody member there)) ∙ listed) in
            let same : one.member ≡ member =
            made_same start left.cluster.nobody one.member member
            (full_made start logs left.cluster of.view of.installed one.member one.there) there
            (eqb-true one.member.node member.node one.passes) in
            told_saved start r logs images left member there latest.slot.epoch
            (subst (λ (m : Member). WasTold start logs (TellsSaved latest.slot.epoch) (ldm_of start m)) same
            (each_in (λ (m : Member). WasTold start logs (TellsSaved latest.slot.epoch) (ldm_of start m)) one.member
            of.view.full of.told one.there))

    -- and it lists one of each group
    pub manned : (group : ℕ) → group < groups start.shape
        → IsManned latest.slot (group * start.shape.replicas + 1) start.shape.replicas
    manned group below = by system_is
      where
        from_first : latest.slot ≡ first
            → IsManned latest.slot (group * start.shape.replicas + 1) start.shape.replicas
        from_first is =
            let whole = group_low start.shape left.cluster.shape group below in
            let replicas = left.cluster.shape.replicas_some in
            record {
              node = group * start.shape.replicas + 1;
              from = omega arith;
              below = omega (arith, replicas);
              listed =
                  ap (λ (s : SystemSlot). is_listed s.mask (group * start.shape.replicas + 1)) is
                  ∙ listed_all start.shape.nodes (group * start.shape.replicas + 1) (omega arith)
                  (omega (arith, whole, replicas)) left.cluster.shape.nodes_few;
            }

        from_saved : (of : IsOfSaved start logs latest.slot.epoch latest.slot.mask)
            → IsOfGroup start.shape left.cluster.shape group of.view
            → IsManned latest.slot (group * start.shape.replicas + 1) start.shape.replicas
        from_saved of one =
            let there = full_made start logs left.cluster of.view of.installed one.member one.full in
            let some = node_some start left.cluster.nobody one.member there in
            record {
              node = one.member.node;
              from = group_from start.shape group one.member.node some one.group_is;
              below =
                  group_below start.shape group one.member.node left.cluster.shape.replicas_some some one.group_is;
              listed =
                  listed_as of one.member.node some (node_low start left.cluster.nobody one.member there)
                  ∙ node_in one.member of.view.full one.full;
            }

        by : SystemIs → IsManned latest.slot (group * start.shape.replicas + 1) start.shape.replicas
        by (is_first is) = from_first is
        by (was_noted of) =
            from_saved of (has_full start.shape left.cluster.shape of.view
            (viable have_orderly start logs left.cluster of.view of.installed) group below)
