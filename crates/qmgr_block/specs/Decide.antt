-- What becomes of a proposal.
use Rattle.std.specs.Prelude.{ℕ, ◌==◌, ◌&&◌, Bool, true, false, is_some, not, List, [], ◌∷◌, Option, None, Some}
use Rattle.frag_map.specs.Groups.{whole_group}
use Rattle.sig_core.specs.declared.mark.Mark.TheVariants.{Down, Installed, Stopped}
use Rattle.sig_core.specs.declared.member.Member.{Member}
use Rattle.sig_core.specs.declared.outcome.StopCause.{StopCause}
use Rattle.sig_core.specs.declared.outcome.StopCause.TheVariants.{Clock, Disk, Excluded, Killed, Memory, NoGroup}
use Rattle.sig_core.specs.declared.outcome.StopCause.TheVariants.{Sibling}
use Rattle.sig_core.specs.declared.view.View.{View}
use Rattle.sig_core.specs.Step.{Step, stay}
use Rattle.qmgr_block.specs.declared.known.Known.{Known}
use Rattle.qmgr_block.specs.declared.known.Proposal.{Proposal}
use Rattle.qmgr_block.specs.Propose.{question, stop_sends}
use Rattle.qmgr_block.specs.Sets.{is_among, is_in, members_of, without}
use Rattle.qmgr_block.specs.State.{marking, proposing, sending_all}
use Rattle.qmgr_block.specs.Suspects.{told, with_suspects}

-- the proposal awaits this member
abbrev pub awaits : Proposal → ℕ → Member → Bool
awaits p number member = (p.view.number == number) && is_among p.awaited member

-- without one more that it awaits
abbrev pub heard : Proposal → Member → Proposal
heard p member = record p { awaited = without p.awaited (member ∷ []) }

-- the set has all nodes of a group and joins nobody, so that no other half can go on: it is installed at once
abbrev pub needs_no_grant : Known → Proposal → Bool
needs_no_grant k p = not (is_some p.joining) && whole_group k.layout.shape p.view

abbrev pub confirmed_all : Known → Proposal → Bool → Step Known
confirmed_all k p true = marking (proposing k (Some p)) (Installed p.view)
confirmed_all k p false =
    sending_all (proposing k (Some p)) (question p.view.number (members_of p.view) p.joining ∷ [])

abbrev pub confirmed_one : Known → Proposal → List Member → Step Known
confirmed_one k p [] = confirmed_all k p (needs_no_grant k p)
confirmed_one k p (member ∷ members) = stay (proposing k (Some p))

abbrev pub confirm_if : Known → Proposal → Member → Bool → Step Known
confirm_if k p member true = confirmed_one k (heard p member) (heard p member).awaited
confirm_if k p member false = stay k

abbrev pub confirm_by : Known → Option Proposal → ℕ → Member → Step Known
confirm_by k None number member = stay k
confirm_by k (Some p) number member = confirm_if k p member (awaits p number member)

-- A member has promised. When all have, the set is installed or the arbitrator asked. The host installs the view that
-- the mark names, in the same event
unfoldable pub confirm_row : Known → ℕ → Member → Step Known
confirm_row k number member = confirm_by k k.outstanding number member

-- the arbitrator was asked for the proposal
abbrev pub is_asked_by : List Member → Bool
is_asked_by [] = true
is_asked_by (member ∷ members) = false

abbrev pub is_asked : Proposal → Bool
is_asked p = is_asked_by p.awaited

abbrev pub granted_if : Known → Proposal → Bool → Step Known
granted_if k p true = marking k (Installed p.view)
granted_if k p false = stay k

abbrev pub granted_by : Known → Option Proposal → ℕ → Step Known
granted_by k None number = stay k
granted_by k (Some p) number =
    granted_if k p ((p.view.number == number) && is_asked p && not (is_some p.lost))

-- the arbitrator has granted the outstanding proposal: it is installed
unfoldable pub granted_row : Known → ℕ → Step Known
granted_row k number = granted_by k k.outstanding number

-- the node and its set stop
abbrev pub stopping : Known → Proposal → StopCause → Step Known
stopping k p cause = sending_all k (stop_sends k.me p.view cause)

-- a set that is refused was excluded, but one that lost a group whose sender wasn't
abbrev pub refused_cause : Bool → Option ℕ → ℕ → StopCause
refused_cause among None number = Excluded number
refused_cause true (Some group) number = NoGroup group
refused_cause false (Some group) number = Excluded number

abbrev pub refused_if : Known → Proposal → StopCause → Bool → Step Known
refused_if k p cause true = stopping k p cause
refused_if k p cause false = stay k

abbrev pub refused_by : Known → Option Proposal → ℕ → List Member → Step Known
refused_by k None number members = stay k
refused_by k (Some p) number members =
    refused_if k p (refused_cause (is_among members k.me) p.lost number) (is_asked p)

-- the arbitrator has refused the outstanding proposal, and says what it keeps
unfoldable pub refused_row : Known → ℕ → List Member → Step Known
refused_row k number members = refused_by k k.outstanding number members

-- the members of the set that don't stand in the same part of the other
unfoldable pub with_unlike : Known → View → View → Known
with_unlike k set other =
    with_suspects
    (with_suspects k (without set.full other.full))
    (without set.starting other.starting)

abbrev pub unpromised_if : Known → Proposal → View → Bool → Step Known
unpromised_if k p promised true = told (with_unlike k p.view promised)
unpromised_if k p promised false = stopping k p (Excluded promised.number)

abbrev pub unpromised_by : Known → Option Proposal → View → Step Known
unpromised_by k None promised = stay k
unpromised_by k (Some p) promised = unpromised_if k p promised (is_in promised k.me)

-- A member has promised another set. If that has the node, it proposes anew those that stand in the same part of both;
-- else it stops with its set
unfoldable pub unpromised_row : Known → View → Step Known
unpromised_row k promised = unpromised_by k k.outstanding promised

abbrev pub stop_by : Known → StopCause → Step Known
stop_by k (NoGroup group) = record {
  state = k;
  effects = record { sends = []; marks = Down group ∷ Stopped (NoGroup group) ∷ [] };
}
stop_by k (Excluded number) = marking k (Stopped (Excluded number))
stop_by k Killed = marking k (Stopped Killed)
stop_by k Memory = marking k (Stopped Memory)
stop_by k Clock = marking k (Stopped Clock)
stop_by k (Disk count) = marking k (Stopped (Disk count))
stop_by k (Sibling host) = marking k (Stopped (Sibling host))

-- the node is ordered to stop
unfoldable pub stop_row : Known → StopCause → Step Known
stop_row k cause = stop_by k cause
