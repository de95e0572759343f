-- The membership of a node, at rounds and heartbeats: it tells members, and who grants views, and marks nothing.
use Rattle.std.proofs.Common.{◌≡◌, ℕ, Bool, true, false, [], refl}
use Rattle.std.specs.Prelude.{Option, None, Some}
use Rattle.std.proofs.lemmas.Bool.{false≢true}
use Rattle.frag_map.specs.Groups.{lost_group}
use Rattle.qmgr_block.specs.declared.known.Known.{Known}
use Rattle.qmgr_block.specs.Propose.{has_number, propose, proposed_by, proposed_if, proposed_view, remaining_view}
use Rattle.qmgr_block.specs.Propose.{request_of}
use Rattle.qmgr_block.specs.Qmgr.{qmgr_row, qmgr_table}
use Rattle.qmgr_block.specs.Ring.{heartbeat_row, round_by, round_row, sides, with_missing, with_round}
use Rattle.qmgr_block.specs.Sets.{members_of}
use Rattle.qmgr_block.specs.State.{QmgrState}
use Rattle.qmgr_block.specs.Suspects.{has_more, president, presides, told, told_after, told_by, told_if}
use Rattle.run_theory.specs.Lists.{Each}
use Rattle.run_theory.proofs.EachSent.{each_mapped}
use Rattle.sig_core.specs.declared.member.Member.{Member}
use Rattle.sig_core.specs.declared.signal.Body.{Body}
use Rattle.sig_core.specs.declared.signal.Body.TheVariants.{Host, Membership}
use Rattle.sig_core.specs.declared.signal.Signal.{Signal}
use Rattle.sig_core.specs.declared.signal.host.HostSignal.TheVariants.{Round}
use Rattle.sig_core.specs.declared.signal.membership.MembershipSignal.TheVariants.{Heartbeat}
use Rattle.sig_core.specs.declared.view.View.{View}
use Rattle.sig_core.specs.Step.{Step, stay}
use Rattle.calm_laws.specs.Calm.{is_for_membership}
use Rattle.calm_laws.specs.Steps.{IsForViews}

-- a step that sends to memberships and to who grants views alone, and marks nothing
pub record IsAside {S : Type 0} (step : Step S) : Type 0 where
  pub marks : step.effects.marks ≡ []
  pub sends : Each IsForViews step.effects.sends

stays : {S : Type 0} (s : S) → IsAside (stay s)
stays s = record { marks = refl; sends = tt }

-- a proposal
proposes_by : (k : Known) (view : View) (joining : Option Member) (lost : Option ℕ)
    → IsAside (proposed_by k view joining lost)
proposes_by k view joining None =
    record { marks = refl; sends = each_mapped IsForViews (request_of view) (members_of view) (λ member. refl) }
proposes_by k view joining (Some group) = record { marks = refl; sends = (refl, tt) }

proposes_view : (k : Known) (view : View) (joining : Option Member) → IsAside (proposed_view k view joining)
unfolding proposed_view
proposes_view k view joining = proposes_by k view joining (lost_group k.layout.shape view)

proposes_if : (k : Known) (view : View) (joining : Option Member) (may : Bool)
    → IsAside (proposed_if k view joining may)
proposes_if k view joining true = proposes_view k view joining
proposes_if k view joining false = stays k

proposes : (k : Known) → IsAside (propose k)
unfolding propose
proposes k = proposes_if k (remaining_view k) None (has_number k)

-- the president is told, or proposes
tells_by : (k : Known) (joined own : Bool) (of : Option Member) → IsAside (told_by k joined own of)
tells_by k false own of = stays k
tells_by k true true of = proposes k
tells_by k true false None = stays k
tells_by k true false (Some member) = record { marks = refl; sends = (refl, tt) }

tells : (k : Known) → IsAside (told k)
unfolding told
tells k = tells_by k k.has_joined (presides k) (president k)

tells_if : (k : Known) (more : Bool) → IsAside (told_if k more)
tells_if k true = tells k
tells_if k false = stays k

-- a round, and a heartbeat
rounds_by : (k : Known) (next before : Option Member) → IsAside (round_by k next before)
rounds_by k (Some next) (Some before) =
    let rest : IsAside (told_after k (with_missing (with_round k) before)) =
    tells_if (with_missing (with_round k) before) (has_more k (with_missing (with_round k) before)) in
    record { marks = rest.marks; sends = (refl, rest.sends) }
rounds_by k (Some next) None = stays k
rounds_by k None before = stays k

rounds : (k : Known) → IsAside (round_row k)
unfolding round_row
rounds k = rounds_by k (sides k).next (sides k).before

beats : (k : Known) (member : Member) → IsAside (heartbeat_row k member)
unfolding heartbeat_row
beats k member = stays _

by_body : (s : QmgrState) (host : ℕ) (member : Member) (number : ℕ) (body : Body) → is_for_membership body ≡ true
    → IsAside (qmgr_table s host member number body)
by_body s host member number (Host Round) is =
    let step : IsAside (round_row s.known) = rounds s.known in
    record { marks = step.marks; sends = step.sends }
by_body s host member number (Membership Heartbeat) is =
    let step : IsAside (heartbeat_row s.known member) = beats s.known member in
    record { marks = step.marks; sends = step.sends }
by_body s host member number body is = absurd (false≢true is)

-- whatever it takes in calm
pub membership_step : (s : QmgrState) (x : Signal) → is_for_membership x.body ≡ true → IsAside (qmgr_row s x)
membership_step s x is = by_body s x.from.0 x.member x.view.number x.body is
