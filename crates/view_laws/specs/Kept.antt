-- What the membership of one node keeps by itself of what ballots owe, along what it takes and installs.
use Rattle.std.specs.Prelude.{◌≡◌, ◌<◌, ◌≤◌, ◌⊎◌, ℕ, Bool, true, false, List, [], ◌∷◌, map, Option, None, Some}
use Rattle.frag_map.specs.Groups.{is_viable}
use Rattle.frag_map.specs.Layout.{Layout}
use Rattle.run_theory.specs.Lists.{Each, IsIn}
use Rattle.sig_core.specs.declared.member.Member.{Member}
use Rattle.sig_core.specs.declared.signal.Signal.{Signal}
use Rattle.sig_core.specs.declared.view.Shape.{Shape}
use Rattle.sig_core.specs.declared.view.View.{View}
use Rattle.qmgr_block.specs.Laws.{Event, takes}
use Rattle.view_laws.specs.Ballots.{Promised, Proposed}
use Rattle.view_laws.specs.Events.{AreOrderlyEvents, IsSet}
use Rattle.view_laws.specs.Members.{confirmed_of, installed_of, known_of, promises_of, proposed_of, state_of}
use Rattle.view_laws.specs.Sets.{Change, IsMadeOf, IsPart, all_of, joins, promotes, shrinks}

-- numbers, the newest first, rise
abbrev pub AreRising : List ℕ → Type 0
AreRising [] = Unit {0}
AreRising (number ∷ []) = Unit {0}
AreRising (number ∷ last ∷ older) = (last < number) × AreRising (last ∷ older)

-- the newest promise is the set
abbrev pub IsLast : View → List Promised → Type 0
IsLast set [] = ⊥
IsLast set (promise ∷ older) = set ≡ promise.set

-- the newest view is the one that is installed
abbrev pub IsInstalled : View → List View → Type 0
IsInstalled view [] = ⊥
IsInstalled view (newest ∷ older) = view ≡ newest

-- promises rise, the newest is the last promise, and the installed view has no greater number
pub record HaveRisen (me : Member) (layout : Layout) (events : List Event) : Type 0 where
  pub rising : AreRising (map (λ promise. promise.set.number) (promises_of me layout events))
  pub last : IsLast (known_of me layout events).promised (promises_of me layout events)
  pub installed : IsInstalled (known_of me layout events).layout.view (installed_of layout events)
  pub below : (known_of me layout events).layout.view.number ≤ (known_of me layout events).promised.number

abbrev pub PromisesRise : Type 0
PromisesRise = (me : Member) (layout : Layout) (events : List Event) → HaveRisen me layout events

-- a change by which a set has somebody more, or somebody more that is full
abbrev pub IsGrowing : Change → Type 0
IsGrowing shrinks = ⊥
IsGrowing (joins member) = Unit {0}
IsGrowing (promotes member) = Unit {0}

-- the set is a join or a promotion of the view, whose number is that of the last promise
pub record IsGrown (view last set : View) : Type 0 where
  pub number : view.number ≡ last.number
  pub change : Change
  pub grows : IsGrowing change
  pub made : IsMadeOf view change set

-- a set that is promised at a signal: the member is of it, and it is a part of the last promise, or has grown from the
-- installed view
pub record IsAsked (me : Member) (view last set : View) : Type 0 where
  pub member_in : IsIn me (all_of set)
  pub from : IsPart last set ⊎ IsGrown view last set

-- a signal changes nothing of the last promise, or the new one was rightly asked for
abbrev pub EachPromiseIsAskedFor : Type 0
EachPromiseIsAskedFor =
    (me : Member) (layout : Layout) (events : List Event) (x : Signal) → AreOrderlyEvents me layout (takes x ∷ events)
    → ((known_of me layout (takes x ∷ events)).promised ≡ (known_of me layout events).promised)
    ⊎ IsAsked me (known_of me layout events).layout.view (known_of me layout events).promised
    (known_of me layout (takes x ∷ events)).promised

-- the set has grown from one of the views that were installed
pub record IsGrownOfSome (views : List View) (last set : View) : Type 0 where
  pub base : View
  pub installed : IsIn base views
  pub grown : IsGrown base last set

-- a promise behind the last one: it was installed, or asked for
pub record IsAskedBehind (me : Member) (installed : List View) (last set : View) : Type 0 where
  pub member_in : IsIn me (all_of set)
  pub from : IsPart last set ⊎ IsGrownOfSome installed last set

abbrev pub IsBehind : Member → List View → View → View → Bool → Type 0
IsBehind me installed last set true = IsIn set installed
IsBehind me installed last set false = IsAskedBehind me installed last set

-- each of the promises stands so behind the one before
abbrev pub AreBehind : Member → List View → List Promised → Type 0
AreBehind me installed [] = Unit {0}
AreBehind me installed (promise ∷ []) = IsIn promise.set installed
AreBehind me installed (promise ∷ last ∷ older) =
    IsBehind me installed last.set promise.set promise.adopted × AreBehind me installed (last ∷ older)

abbrev pub PromisesStandBehindOneAnother : Type 0
PromisesStandBehindOneAnother =
    (me : Member) (layout : Layout) (events : List Event) → AreOrderlyEvents me layout events
    → AreBehind me (installed_of layout events) (promises_of me layout events)

-- the oldest of these members
abbrev pub oldest : List Member → Option Member
oldest [] = None
oldest (member ∷ members) = Some member

-- a set is proposed by its oldest full member, where it has lost members; where one joins, or is promoted, if the
-- oldest full member of the base proposes it
abbrev pub IsOwn : Member → View → View → Change → Type 0
IsOwn me base set shrinks = oldest set.full ≡ Some me
IsOwn me base set (joins member) = oldest base.full ≡ Some me → oldest set.full ≡ Some me
IsOwn me base set (promotes member) = oldest base.full ≡ Some me → oldest set.full ≡ Some me

-- a proposal of the member: each group has a full member, no node has two, and it is made of an installed view that has
-- a lesser number
pub record IsRight (shape : Shape) (me : Member) (views : List View) (p : Proposed) : Type 0 where
  pub viable : is_viable shape p.set ≡ true
  pub set : IsSet p.set
  pub later : p.base.number < p.set.number
  pub own : IsOwn me p.base p.set p.change
  pub installed : IsIn p.base views
  pub made : IsMadeOf p.base p.change p.set

abbrev pub EachProposalIsRight : Type 0
EachProposalIsRight =
    (me : Member) (layout : Layout) (events : List Event) → AreOrderlyEvents me layout events
    → Each (IsRight layout.shape me (installed_of layout events)) (proposed_of me layout events)

-- numbers of proposals rise
abbrev pub ProposalsRise : Type 0
ProposalsRise =
    (me : Member) (layout : Layout) (events : List Event)
    → AreRising (map (λ p. p.set.number) (proposed_of me layout events))

-- a promise of that number was asked for
pub record IsNumberAsked (promises : List Promised) (number : ℕ) : Type 0 where
  pub set : View
  pub there : IsIn (record { set = set; adopted = false }) promises
  pub has : set.number ≡ number

-- each number that is confirmed, or waits for fences, is that of such a promise
pub record AreOfPromises (me : Member) (layout : Layout) (events : List Event) : Type 0 where
  pub confirmed : Each (IsNumberAsked (promises_of me layout events)) (confirmed_of me layout events)
  pub waiting :
      Each (λ promise. IsNumberAsked (promises_of me layout events) promise.number) (state_of me layout events).promises

abbrev pub WhatIsConfirmedWasPromised : Type 0
WhatIsConfirmedWasPromised = (me : Member) (layout : Layout) (events : List Event) → AreOfPromises me layout events
