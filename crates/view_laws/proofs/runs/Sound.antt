-- What is kept along a run: each host stands in a chosen view, and each signal by which views are chosen is true.
use Rattle.std.specs.Prelude.{◌≡◌, ◌≤◌, ◌<◌, ℕ, List, [], Option}
use Rattle.frag_map.specs.Layout.{first_layout}
use Rattle.run_theory.specs.Lists.{Each, IsIn}
use Rattle.sig_core.specs.declared.member.Member.{Member}
use Rattle.sig_core.specs.declared.signal.Body.{Body}
use Rattle.sig_core.specs.declared.signal.Body.TheVariants.{Joining, Membership}
use Rattle.sig_core.specs.declared.signal.joining.JoiningSignal.TheVariants.{StartReq}
use Rattle.sig_core.specs.declared.signal.membership.MembershipSignal.TheVariants.{ArbitConf, ArbitReq, PrepFailConf}
use Rattle.sig_core.specs.declared.signal.membership.MembershipSignal.TheVariants.{PrepFailReq}
use Rattle.sig_core.specs.declared.signal.Signal.{Signal}
use Rattle.sig_core.specs.declared.view.View.{View}
use Rattle.qmgr_block.specs.Laws.{Event}
use Rattle.world_core.specs.Hosts.{hosts}
use Rattle.world_core.specs.Start.{Start, made}
use Rattle.world_core.specs.Steps.{Addressed, HostStep}
use Rattle.view_laws.specs.Ballots.{Granted, HasPromised, IsBacked, IsChosen, Proposed}
use Rattle.view_laws.specs.Events.{IsSet}
use Rattle.view_laws.specs.HostEvents.{events_of, is_arbiter, taken_in}
use Rattle.view_laws.specs.Members.{installed_of, proposed_of}
use Rattle.view_laws.specs.Runs.{ballots_of, events_in, view_after}
use Rattle.view_laws.specs.Sets.{all_of, joining}
use Rattle.view_laws.specs.Votes.{main_of}

-- a set of members that were made, of which none is starting
pub record IsOfMade (start : Start) (view : View) : Type 0 where
  pub set : IsSet view
  pub none : view.starting ≡ []
  pub made : Each (λ member. IsIn member (made start)) view.full

module _ (start : Start) (logs : ℕ → List HostStep) where
  -- what a member has proposed
  abbrev pub proposed_in : Member → List Proposed
  proposed_in member = proposed_of member (first_layout start.shape) (events_in start logs member)

  -- the view is chosen
  pub record IsGood (view : View) : Type 0 where
    pub chosen : IsChosen start.shape (ballots_of start logs) view
    pub of : IsOfMade start view

  -- the member has promised the set of a proposal of this one with the number, and confirmed it
  pub record IsHeard (me member : Member) (number : ℕ) : Type 0 where
    pub proposal : Proposed
    pub there : IsIn proposal (proposed_in me)
    pub number_is : proposal.set.number ≡ number
    pub promised : HasPromised (ballots_of start logs) proposal.set member

  -- the member was made, and has proposed the set
  pub record IsProposedBy (member : Member) (set : View) : Type 0 where
    pub made : IsIn member (made start)
    pub proposal : Proposed
    pub there : IsIn proposal (proposed_in member)
    pub is : proposal.set ≡ set

  -- the number was granted with the members of a proposal of this one
  pub record IsGrantedTo (me : Member) (number : ℕ) : Type 0 where
    pub grant : Granted
    pub granted : IsIn grant (ballots_of start logs).grants
    pub is : grant.number ≡ number
    pub proposal : Proposed
    pub there : IsIn proposal (proposed_in me)
    pub number_is : proposal.set.number ≡ number
    pub members : all_of proposal.set ≡ grant.members

  -- the member asks for the set of a proposal that all its members have promised
  pub record IsQuestion (member : Member) (number : ℕ) (members : List Member) (joins : Option Member) : Type 0 where
    pub made : IsIn member (made start)
    pub proposal : Proposed
    pub there : IsIn proposal (proposed_in member)
    pub number_is : proposal.set.number ≡ number
    pub members_are : all_of proposal.set ≡ members
    pub joins_is : joining proposal.change ≡ joins
    pub backed : IsBacked (ballots_of start logs) proposal.set

  -- what a signal says to the membership of a member: nobody asks to join
  abbrev pub Says : Member → Signal → Body → Type 0
  Says me x (Membership (PrepFailReq set)) = IsSet set × IsIn me (all_of set) × IsProposedBy x.member set
  Says me x (Membership (PrepFailConf number)) = IsHeard me x.member number
  Says me x (Membership (ArbitConf number)) = IsGrantedTo me number
  Says me x (Joining (StartReq member own)) = ⊥
  Says me x body = Unit {0}

  -- and to the arbitrator
  abbrev pub Asks : Signal → Body → Type 0
  Asks x (Membership (ArbitReq number members joining)) = 1 ≤ number → IsQuestion x.member number members joining
  Asks x body = Unit {0}

  -- what a membership has taken is true, and what its host has installed is chosen
  pub record IsSoundMember (me : Member) (events : List Event) : Type 0 where
    pub taken : Each (λ x. Says me x x.body) (taken_in events)
    pub installed : Each IsGood (installed_of (first_layout start.shape) events)

  -- so it is with each membership, and each host stands in a chosen view
  pub record AreSoundLogs : Type 0 where
    pub views : (h : ℕ) → h < hosts start → IsGood (view_after start h (logs h))
    pub members : (me : Member) → IsIn me (made start) → IsSoundMember me (events_in start logs me)
    pub asked : Each (λ x. Asks x x.body) (taken_in (events_of is_arbiter start 0 (logs 0)))

  -- and so is each signal that is on its way
  pub record IsSoundSignal (x : Addressed) : Type 0 where
    pub view : IsGood x.signal.view
    pub says : (me : Member) → IsIn me (made start) → x.to ≡ main_of start me → Says me x.signal x.signal.body
    pub asks : x.to ≡ 0 → Asks x.signal x.signal.body
