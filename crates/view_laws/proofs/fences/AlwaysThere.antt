-- The host of a fenced block of a member always has its fence.
use Rattle.std.proofs.Common.{◌≡◌, ◌<◌, ◌+◌, ◌-◌, ◌*◌, ℕ, suc, List, [], ◌∷◌, sym, subst, arith}
use Rattle.std.proofs.lemmas.Nat.{mod-mul-add}
use Rattle.std.specs.Prelude.{Option, None, Some}
use Rattle.run_theory.specs.Lists.{IsIn}
use Rattle.sig_core.specs.declared.member.Member.{Member}
use Rattle.sig_core.specs.declared.place.BlockId.{BlockId}
use Rattle.sig_core.specs.declared.place.BlockId.TheVariants as block
use Rattle.sig_core.specs.Part.{part_of}
use Rattle.node_views.specs.declared.host_body.HostBody as node
use Rattle.qmgr_block.specs.Laws.{Event, installs, takes}
use Rattle.world_core.specs.Hosts.{host_of, member_at, part_by}
use Rattle.world_core.specs.Start.{NobodyStarts, Start, made}
use Rattle.world_views.specs.Hosts.{part_started, started}
use Rattle.view_laws.specs.Fences.{IsFenced}
use Rattle.view_laws.specs.HostEvents.{events_of}
use Rattle.view_laws.proofs.fences.WhatLinksOwe.{FencesAreThere, IsThere}
use Rattle.view_laws.proofs.fences.Hosts.{block_host}
use Rattle.view_laws.proofs.fences.Seen.{fence_is_seen, fence_seen, is_block, to_fence}
use Rattle.world_views.proofs.AllBegin.{started_behind}
use Rattle.view_laws.proofs.follow.Walk.{along, log_goes}

event_there : (fence : Option ℕ) (event : Event) → IsThere fence → IsThere (to_fence fence event)
event_there None event there = absurd there
event_there (Some fence) (takes x) there = tt
event_there (Some fence) (installs view) there = tt

along_there : (fence : Option ℕ) (events : List Event) → IsThere fence → IsThere (along to_fence fence events)
along_there fence [] there = there
along_there fence (event ∷ events) there =
    event_there (along to_fence fence events) event (along_there fence events there)

module _ (start : Start) (nobody : NobodyStarts start) (me : Member) (made_me : IsIn me (made start)) where
  begins_there : (at : BlockId) (left h : ℕ) → left < 2
      → ((m : Member) → IsThere (fence_seen at (part_started start (part_by (suc left)) m)))
      → h ≡ suc ((me.node - 1) * 3 + suc left) → IsThere (fence_seen at (started start h))
  begins_there at left h few begins is =
      let k = (me.node - 1) * 3 + suc left in
      subst (λ h. IsThere (fence_seen at (started start h))) (sym is)
      (subst (λ (s : node.HostBody). IsThere (fence_seen at s)) (sym (started_behind start nobody k))
      (subst (λ r. IsThere (fence_seen at (part_started start (part_by r) (member_at (made start) (suc k)))))
      (sym (mod-mul-add (me.node - 1) 3 (suc left) (omega (arith, few)))) (begins (member_at (made start) (suc k)))))

  begin : (at : BlockId) → IsFenced at
      → IsThere (fence_seen at (started start (host_of (made start) (part_of at) me)))
  begin block.Tc fenced =
      begins_there block.Tc 0 (host_of (made start) (part_of block.Tc) me) (omega arith) (λ m. tt)
      (omega (arith, block_host start nobody me made_me block.Tc))
  begin block.Dih fenced =
      begins_there block.Dih 0 (host_of (made start) (part_of block.Dih) me) (omega arith) (λ m. tt)
      (omega (arith, block_host start nobody me made_me block.Dih))
  begin block.Lqh fenced =
      begins_there block.Lqh 1 (host_of (made start) (part_of block.Lqh) me) (omega arith) (λ m. tt)
      (omega (arith, block_host start nobody me made_me block.Lqh))
  begin other fenced = absurd fenced

pub fences_are_there : FencesAreThere
fences_are_there start nobody me there at fenced log =
    let h = host_of (made start) (part_of at) me in
    subst IsThere (sym (log_goes (is_block at) (fence_seen at) to_fence (fence_is_seen at) start h log))
    (along_there (fence_seen at (started start h)) (events_of (is_block at) start h log)
    (begin start nobody me there at fenced))
