-- Hosts that never run a membership, and those that never run the arbitrator.
use Rattle.std.proofs.Common.{◌≡◌, ◌%◌, ◌≤◌, ℕ, zero, suc, List, [], ◌∷◌, refl, ap, ◌∙◌, arith}
use Rattle.std.specs.Prelude.{None}
use Rattle.sig_core.specs.declared.member.Member.{Member}
use Rattle.sig_core.specs.declared.place.Part.{Part}
use Rattle.sig_core.specs.declared.place.Part.TheVariants.{Ldm, Main, Tc}
use Rattle.node_views.specs.declared.host_body.HostBody as node
use Rattle.qmgr_block.specs.Laws.{Event}
use Rattle.world_core.specs.Hosts.{member_at, part_by}
use Rattle.world_core.specs.Start.{NobodyStarts, Start, made}
use Rattle.world_core.specs.Steps.{HostStep}
use Rattle.world_views.specs.Hosts.{part_started, started}
use Rattle.world_views.specs.Machine.{after}
use Rattle.view_laws.specs.HostEvents.{events_of, is_arbiter, is_membership}
use Rattle.view_laws.specs.Votes.{arbiter_in, membership_in}
use Rattle.world_views.proofs.AllBegin.{started_behind}
use Rattle.view_laws.proofs.follow.Seen.{arbiter_is_seen, arbiter_seen, membership_is_seen, membership_seen, to_arbiter}
use Rattle.view_laws.proofs.follow.Seen.{to_membership}
use Rattle.view_laws.proofs.follow.Walk.{along, log_goes}

-- what isn't there at the start never is
none_along : (events : List Event) → along to_membership None events ≡ None
none_along [] = refl
none_along (event ∷ events) = ap (λ q. to_membership q event) (none_along events)

no_arbiter_along : (events : List Event) → along to_arbiter None events ≡ None
no_arbiter_along [] = refl
no_arbiter_along (event ∷ events) = ap (λ a. to_arbiter a event) (no_arbiter_along events)

-- none but the shell's host runs the arbitrator, and none but a main part's a membership
part_arbiter : (start : Start) (part : Part) (member : Member)
    → arbiter_in (part_started start part member).parts ≡ None
part_arbiter start Main member = refl
part_arbiter start Tc member = refl
part_arbiter start Ldm member = refl

module _ (start : Start) where
  shell_started : membership_in (started start 0).parts ≡ None
  unfolding started
  shell_started = refl

  no_member_part : (left : ℕ) (member : Member)
      → membership_in (part_started start (part_by (suc left)) member).parts ≡ None
  no_member_part zero member = refl
  no_member_part (suc left) member = refl

  pub never_joins : (h : ℕ) (log : List HostStep) → membership_in (started start h).parts ≡ None
      → membership_in (after start h log).parts ≡ None
  never_joins h log none =
      log_goes is_membership membership_seen to_membership membership_is_seen start h log
      ∙ ap (λ q. along to_membership q (events_of is_membership start h log)) none
      ∙ none_along (events_of is_membership start h log)

  never_arbitrates : (h : ℕ) (log : List HostStep) → arbiter_in (started start h).parts ≡ None
      → arbiter_in (after start h log).parts ≡ None
  never_arbitrates h log none =
      log_goes is_arbiter arbiter_seen to_arbiter arbiter_is_seen start h log
      ∙ ap (λ a. along to_arbiter a (events_of is_arbiter start h log)) none
      ∙ no_arbiter_along (events_of is_arbiter start h log)

  pub no_membership_in_shell : (log : List HostStep) → membership_in (after start 0 log).parts ≡ None
  no_membership_in_shell log = never_joins 0 log shell_started

  pub no_arbiter_behind : NobodyStarts start → (h : ℕ) (log : List HostStep) → 1 ≤ h
      → arbiter_in (after start h log).parts ≡ None
  no_arbiter_behind nobody zero log some = absurd (omega (arith, some))
  no_arbiter_behind nobody (suc k) log some =
      never_arbitrates (suc k) log
      (ap (λ (s : node.HostBody). arbiter_in s.parts) (started_behind start nobody k)
      ∙ part_arbiter start (part_by (k % 3)) (member_at (made start) (suc k)))

  pub no_membership_beside : NobodyStarts start → (k left : ℕ) (log : List HostStep) → k % 3 ≡ suc left
      → membership_in (after start (suc k) log).parts ≡ None
  no_membership_beside nobody k left log e =
      never_joins (suc k) log
      (ap (λ (s : node.HostBody). membership_in s.parts) (started_behind start nobody k)
      ∙ ap (λ n. membership_in (part_started start (part_by n) (member_at (made start) (suc k))).parts) e
      ∙ no_member_part left (member_at (made start) (suc k)))
