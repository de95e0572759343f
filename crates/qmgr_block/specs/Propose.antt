-- Proposals of views.
use Rattle.std.specs.Prelude.{ℕ, ◌+◌, ◌-◌, ◌^◌, Bool, true, false, if◌then◌else◌, nat_lt, List, [], ◌∷◌, ◌++◌, map}
use Rattle.std.specs.Prelude.{Option, None, Some}
use Rattle.frag_map.specs.Groups.{lost_group}
use Rattle.sig_core.specs.declared.member.Member.{Member}
use Rattle.sig_core.specs.declared.outcome.StopCause.{StopCause}
use Rattle.sig_core.specs.declared.outs.Outgoing.{Outgoing}
use Rattle.sig_core.specs.declared.signal.Body.TheVariants.{Membership}
use Rattle.sig_core.specs.declared.signal.membership.MembershipSignal.TheVariants.{ArbitReq, PrepFailReq, StopSet}
use Rattle.sig_core.specs.declared.view.View.{View}
use Rattle.sig_core.specs.Place.{arbiter, membership}
use Rattle.sig_core.specs.Step.{Step, stay, to_place}
use Rattle.qmgr_block.specs.declared.known.Known.{Known}
use Rattle.qmgr_block.specs.declared.known.Proposal.{Proposal}
use Rattle.qmgr_block.specs.Sets.{members_of, without}
use Rattle.qmgr_block.specs.State.{proposing, sending_all}

-- the greater of the numbers of the last promise and of all proposals
abbrev pub greatest_number : Known → ℕ
greatest_number k = if nat_lt k.promised.number k.proposed then k.proposed else k.promised.number

-- there is a number above that, which has to be below 2^64 - 1
abbrev pub has_number : Known → Bool
has_number k = nat_lt (greatest_number k) (2 ^ 64 - 2)

-- the least number of a further proposal
abbrev pub next_number : Known → ℕ
next_number k = greatest_number k + 1

-- it, if there is one
abbrev pub number_for : Known → Bool → Option ℕ
number_for k true = Some (next_number k)
number_for k false = None

-- the members of the installed view without the suspects
abbrev pub remaining_view : Known → View
remaining_view k = record {
  number = next_number k;
  full = without k.layout.view.full k.suspects;
  starting = without k.layout.view.starting k.suspects;
}

-- a member is asked to promise the view
abbrev pub request_of : View → Member → Outgoing
request_of view member = to_place (membership member.node) (Membership (PrepFailReq view))

-- the arbitrator is asked to grant a set
abbrev pub question : ℕ → List Member → Option Member → Outgoing
question number members joining = to_place arbiter (Membership (ArbitReq number members joining))

-- the members of a viable set are asked; of one that lost a group the arbitrator alone, with a number that it never
-- grants
abbrev pub proposal_sends : View → Option ℕ → List Outgoing
proposal_sends view None = map (request_of view) (members_of view)
proposal_sends view (Some group) = question 0 (members_of view) None ∷ []

-- who is to confirm a proposal
abbrev pub awaited_at_first : View → Option ℕ → List Member
awaited_at_first view None = members_of view
awaited_at_first view (Some group) = []

abbrev pub proposal_by : View → Option Member → Option ℕ → Proposal
proposal_by view joining lost =
    record { view = view; joining = joining; lost = lost; awaited = awaited_at_first view lost }

abbrev pub proposed_by : Known → View → Option Member → Option ℕ → Step Known
proposed_by k view joining lost =
    sending_all
    (proposing (record k { proposed = view.number }) (Some (proposal_by view joining lost)))
    (proposal_sends view lost)

-- a view is proposed, with the member that it joins
unfoldable pub proposed_view : Known → View → Option Member → Step Known
proposed_view k view joining = proposed_by k view joining (lost_group k.layout.shape view)

abbrev pub proposed_if : Known → View → Option Member → Bool → Step Known
proposed_if k view joining true = proposed_view k view joining
proposed_if k view joining false = stay k

-- the president proposes the view without the suspects, if there is a number
unfoldable pub propose : Known → Step Known
propose k = proposed_if k (remaining_view k) None (has_number k)

-- a member is ordered to stop
abbrev pub stop_of : StopCause → Member → Outgoing
stop_of cause member = to_place (membership member.node) (Membership (StopSet cause))

-- all members of a set are, the sender itself last
unfoldable pub stop_sends : Member → View → StopCause → List Outgoing
stop_sends me view cause = map (stop_of cause) (without (members_of view) (me ∷ [])) ++ stop_of cause me ∷ []
