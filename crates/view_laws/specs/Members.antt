-- What the membership of one node has installed, promised, confirmed and proposed, along what it takes and installs.
use Rattle.std.specs.Prelude.{ℕ, ◌==◌, ◌&&◌, Bool, true, false, if◌then◌else◌, is_some, nat_lt, not, List, [], ◌∷◌}
use Rattle.std.specs.Prelude.{◌++◌, Option, None, Some}
use Rattle.frag_map.specs.Layout.{Layout}
use Rattle.sig_core.specs.declared.mark.Mark.{Mark}
use Rattle.sig_core.specs.declared.mark.Mark.TheVariants as marks
use Rattle.sig_core.specs.declared.member.Member.{Member}
use Rattle.sig_core.specs.declared.view.View.{View}
use Rattle.sig_core.specs.Step.{Effects}
use Rattle.qmgr_block.specs.declared.known.Known.{Known}
use Rattle.qmgr_block.specs.declared.known.Proposal.{Proposal}
use Rattle.qmgr_block.specs.Laws.{Event, after, installs, takes}
use Rattle.qmgr_block.specs.Qmgr.{qmgr_installed, qmgr_row}
use Rattle.qmgr_block.specs.Sets as sets
use Rattle.qmgr_block.specs.State.{QmgrState, fresh_qmgr}
use Rattle.view_laws.specs.Ballots.{Promised, Proposed}
use Rattle.view_laws.specs.Sets.{Change, joins, promotes, shrinks}

-- the membership of a start after these events, the newest first
abbrev pub state_of : Member → Layout → List Event → QmgrState
state_of me layout [] = fresh_qmgr me layout
state_of me layout (event ∷ events) = after (state_of me layout events) event

-- what it knows
abbrev pub known_of : Member → Layout → List Event → Known
known_of me layout events = (state_of me layout events).known

-- what an event sends and marks
abbrev pub effects_at : QmgrState → Event → Effects
effects_at s (takes x) = (qmgr_row s x).effects
effects_at s (installs view) = (qmgr_installed s view).effects

-- the views that were installed, behind the first one
abbrev pub installed_of : Layout → List Event → List View
installed_of layout [] = layout.view ∷ []
installed_of layout (takes x ∷ events) = installed_of layout events
installed_of layout (installs view ∷ events) = view ∷ installed_of layout events

-- a set that is promised as a view is installed was adopted, one that is promised at a signal was asked for
abbrev pub is_adopted : Event → Bool
is_adopted (takes x) = false
is_adopted (installs view) = true

-- the last promise, where it has another number than before
abbrev pub promised_at : Event → View → View → List Promised
promised_at event before now =
    if before.number == now.number then [] else record { set = now; adopted = is_adopted event } ∷ []

-- all last promises, behind the first view
abbrev pub promises_of : Member → Layout → List Event → List Promised
promises_of me layout [] = record { set = layout.view; adopted = true } ∷ []
promises_of me layout (event ∷ events) =
    promised_at event (known_of me layout events).promised (known_of me layout (event ∷ events)).promised
    ++ promises_of me layout events

-- the numbers whose promises are confirmed by these marks
abbrev pub confirmed_by : List Mark → List ℕ
confirmed_by [] = []
confirmed_by (marks.Promised number ∷ marks) = number ∷ confirmed_by marks
confirmed_by (mark ∷ marks) = confirmed_by marks

-- all numbers that were confirmed
abbrev pub confirmed_of : Member → Layout → List Event → List ℕ
confirmed_of me layout [] = []
confirmed_of me layout (event ∷ events) =
    confirmed_by (effects_at (state_of me layout events) event).marks ++ confirmed_of me layout events

-- the first of these full members that the set promotes
abbrev pub promotion_among : View → View → List Member → Change
promotion_among base set [] = shrinks
promotion_among base set (member ∷ members) =
    if sets.promotes base set member then promotes member else promotion_among base set members

-- how a proposal is made of the installed view: the member joins that it names, or it is a promotion, or a part
abbrev pub change_by : View → View → Option Member → Change
change_by base set (Some member) = joins member
change_by base set None = promotion_among base set set.full

-- a proposal is new if its number is above all that were proposed before, and its members are asked unless it has lost
-- a group
abbrev pub is_new : ℕ → Proposal → Bool
is_new proposed p = nat_lt proposed p.view.number && not (is_some p.lost)

abbrev pub proposed_if : View → Proposal → Bool → List Proposed
proposed_if base p true = record { set = p.view; change = change_by base p.view p.joining; base = base } ∷ []
proposed_if base p false = []

-- the outstanding proposal, where it is a new one
abbrev pub proposed_at : Known → Option Proposal → List Proposed
proposed_at before None = []
proposed_at before (Some p) = proposed_if before.layout.view p (is_new before.proposed p)

-- all that was proposed
abbrev pub proposed_of : Member → Layout → List Event → List Proposed
proposed_of me layout [] = []
proposed_of me layout (event ∷ events) =
    proposed_at (known_of me layout events) (known_of me layout (event ∷ events)).outstanding
    ++ proposed_of me layout events
