-- What a membership has heard when it asks the arbitrator and when it settles on a view, and what it answers to.
use Rattle.std.specs.Prelude.{◌≡◌, ◌≤◌, ◌⊎◌, ℕ, false, List, [], ◌∷◌, Option, None, Some}
use Rattle.frag_map.specs.Layout.{Layout}
use Rattle.run_theory.specs.Lists.{Each, IsIn}
use Rattle.sig_core.specs.declared.mark.Mark.TheVariants.{Installed}
use Rattle.sig_core.specs.declared.member.Member.{Member}
use Rattle.sig_core.specs.declared.outs.Outgoing.{Outgoing}
use Rattle.sig_core.specs.declared.signal.Body.{Body}
use Rattle.sig_core.specs.declared.signal.Body.TheVariants.{Joining, Membership}
use Rattle.sig_core.specs.declared.signal.joining.JoiningSignal.TheVariants.{PromoteReq, StartReq}
use Rattle.sig_core.specs.declared.signal.membership.MembershipSignal.TheVariants.{ArbitConf, ArbitReq, PrepFailConf}
use Rattle.sig_core.specs.declared.signal.membership.MembershipSignal.TheVariants.{PrepFailReq}
use Rattle.sig_core.specs.declared.signal.Signal.{Signal}
use Rattle.sig_core.specs.declared.view.View.{View}
use Rattle.sig_core.specs.Place.{membership}
use Rattle.qmgr_block.specs.declared.known.Proposal.{Proposal}
use Rattle.qmgr_block.specs.Laws.{Event, takes}
use Rattle.view_laws.specs.Ballots.{NeedsNoGrant, Proposed}
use Rattle.view_laws.specs.Events.{AreOrderlyEvents}
use Rattle.view_laws.specs.HostEvents.{taken_in}
use Rattle.view_laws.specs.Members.{confirmed_of, effects_at, known_of, promises_of, proposed_of, state_of}
use Rattle.view_laws.specs.Sets.{all_of, joining}

-- the member has said to these signals' taker that it has confirmed the number
pub record HasConfirmed (taken : List Signal) (number : ℕ) (member : Member) : Type 0 where
  pub signal : Signal
  pub there : IsIn signal taken
  pub says : signal.body ≡ Membership (PrepFailConf number)
  pub by : signal.member ≡ member

-- one of these proposals is of the set, and each member of it has confirmed it unless it is among those awaited
pub record IsHeardOf (proposals : List Proposed) (taken : List Signal) (awaited : List Member) (set : View)
    (joins : Option Member) : Type 0 where
  pub proposal : Proposed
  pub there : IsIn proposal proposals
  pub is : proposal.set ≡ set
  pub joining_is : joining proposal.change ≡ joins
  pub heard : Each (λ member. IsIn member awaited ⊎ HasConfirmed taken set.number member) (all_of set)

-- the outstanding proposal, unless it has lost a group
abbrev pub IsOpen : List Proposed → List Signal → Option Proposal → Type 0
IsOpen proposals taken None = Unit {0}
IsOpen proposals taken (Some p) = p.lost ≡ None → IsHeardOf proposals taken p.awaited p.view p.joining

-- a question to the arbitrator with a number is of a proposal that all members have confirmed
pub record IsQuestionOf (proposals : List Proposed) (taken : List Signal) (number : ℕ) (members : List Member)
    (joins : Option Member) : Type 0 where
  pub set : View
  pub number_is : set.number ≡ number
  pub members_are : all_of set ≡ members
  pub of : IsHeardOf proposals taken [] set joins

abbrev pub IsRightlyAsked : List Proposed → List Signal → Body → Type 0
IsRightlyAsked proposals taken (Membership (ArbitReq number members joins)) =
    1 ≤ number → IsQuestionOf proposals taken number members joins
IsRightlyAsked proposals taken body = Unit {0}

-- a view that is settled on at a signal was proposed and confirmed by all, and was granted unless it needs no grant
pub record IsRightlySettled (layout : Layout) (proposals : List Proposed) (taken : List Signal) (x : Signal)
    (view : View)
    : Type 0 where
  pub joins : Option Member
  pub of : IsHeardOf proposals taken [] view joins
  pub free : NeedsNoGrant layout.shape of.proposal.change view ⊎ (x.body ≡ Membership (ArbitConf view.number))

-- all of that
pub record AskRightly (me : Member) (layout : Layout) (events : List Event) : Type 0 where
  pub outstanding :
      IsOpen (proposed_of me layout events) (taken_in events) (known_of me layout events).outstanding
  pub asked :
      (x : Signal) (sent : Outgoing) → IsIn sent (effects_at (state_of me layout events) (takes x)).sends
      → IsRightlyAsked (proposed_of me layout (takes x ∷ events)) (x ∷ taken_in events) sent.body
  pub settled :
      (x : Signal) (view : View) → IsIn (Installed view) (effects_at (state_of me layout events) (takes x)).marks
      → IsRightlySettled layout (proposed_of me layout events) (x ∷ taken_in events) x view

abbrev pub MembershipsAskRightly : Type 0
MembershipsAskRightly =
    (me : Member) (layout : Layout) (events : List Event) → AreOrderlyEvents me layout events
    → AskRightly me layout events

-- a promise that is confirmed to a node was asked for by that node
pub record IsAnswerTo (me : Member) (layout : Layout) (events : List Event) (node number : ℕ) : Type 0 where
  pub set : View
  pub number_is : set.number ≡ number
  pub promised : IsIn (record { set = set; adopted = false }) (promises_of me layout events)
  pub confirmed : IsIn number (confirmed_of me layout events)
  pub request : Signal
  pub taken : IsIn request (taken_in events)
  pub asks : request.body ≡ Membership (PrepFailReq set)
  pub by : request.member.node ≡ node

-- a request is of a proposal, and is for the node of one of its members
pub record IsRequestOf (proposals : List Proposed) (node : ℕ) (set : View) : Type 0 where
  pub proposal : Proposed
  pub there : IsIn proposal proposals
  pub is : proposal.set ≡ set
  pub member : Member
  pub of : IsIn member (all_of set)
  pub node_is : member.node ≡ node

abbrev pub IsRightlySent : Member → Layout → List Event → Outgoing → Body → Type 0
IsRightlySent me layout events sent (Membership (PrepFailConf number)) =
    (sent.to ≡ membership sent.to.node) × IsAnswerTo me layout events sent.to.node number
IsRightlySent me layout events sent (Membership (PrepFailReq set)) =
    (sent.to ≡ membership sent.to.node) × IsRequestOf (proposed_of me layout events) sent.to.node set
IsRightlySent me layout events sent (Joining (StartReq member own)) = ⊥
IsRightlySent me layout events sent (Joining (PromoteReq member)) = ⊥
IsRightlySent me layout events sent body = Unit {0}

abbrev pub MembershipsAnswerRightly : Type 0
MembershipsAnswerRightly =
    (me : Member) (layout : Layout) (events : List Event) (x : Signal) → AreOrderlyEvents me layout (takes x ∷ events)
    → Each (λ sent. IsRightlySent me layout (takes x ∷ events) sent sent.body)
    (effects_at (state_of me layout events) (takes x)).sends
