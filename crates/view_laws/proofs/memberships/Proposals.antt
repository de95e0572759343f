-- The proposals of one membership: their numbers rise, and each set is rightly made of the installed view.
use Rattle.std.proofs.Common.{◌≡◌, ◌≤◌, ◌<◌, ◌&&◌, ◌⊎◌, ℕ, Bool, true, false, not, List, [], ◌∷◌, ◌++◌, map, refl, ap}
use Rattle.std.proofs.Common.{sym, subst, ◌∙◌, arith, inl, inr}
use Rattle.std.proofs.lemmas.Bool.{le-ltb, lt-ltb}
use Rattle.std.specs.Prelude.{is_some, Option, None, Some}
use Rattle.frag_map.specs.Groups.{lost_group}
use Rattle.frag_map.specs.Layout.{Layout}
use Rattle.run_theory.specs.Lists.{Each, IsIn}
use Rattle.run_theory.proofs.Pasts.{each_append, each_map}
use Rattle.sig_core.specs.declared.member.Member.{Member}
use Rattle.sig_core.specs.declared.view.Shape.{Shape}
use Rattle.sig_core.specs.declared.view.View.{View}
use Rattle.qmgr_block.specs.declared.known.Known.{Known}
use Rattle.qmgr_block.specs.declared.known.Proposal.{Proposal}
use Rattle.qmgr_block.specs.Laws.{Event, after, installs, takes}
use Rattle.qmgr_block.specs.Propose.{proposal_by}
use Rattle.qmgr_block.specs.State.{QmgrState}
use Rattle.view_laws.specs.Ballots.{Proposed}
use Rattle.view_laws.specs.Events.{AreOrderlyEvents, IsOrderly, IsSet}
use Rattle.view_laws.specs.Kept.{AreRising, EachProposalIsRight, IsRight, ProposalsRise}
use Rattle.view_laws.specs.Members.{installed_of, known_of, proposed_at, proposed_if, proposed_of, state_of}
use Rattle.view_laws.proofs.ballots.NewProposals.{entry_of}
use Rattle.view_laws.proofs.memberships.AlongEvents.{have_risen, steps}
use Rattle.view_laws.proofs.memberships.ProposedSets.{made}
use Rattle.view_laws.proofs.memberships.Promises.{in_installed, view_set, views_more}
use Rattle.view_laws.proofs.memberships.Steps.{row_installs}
use Rattle.view_laws.proofs.memberships.RowChanges.{Brings, IsNotAbove, Keeps}

-- no proposal is new, or one is of which members are asked
data Adds (A : Type 0) (k l : Known) (added : List Proposed) : Type 0 where
  adds_none : added ≡ [] → Adds A k l added
  adds_one : (brings : Brings A k l) → lost_group k.layout.shape brings.set ≡ None
      → added ≡ entry_of k.layout.view brings.set brings.joining ∷ [] → Adds A k l added

old_none : (k : Known) (outstanding : Option Proposal) → IsNotAbove k.proposed outstanding
    → proposed_at k outstanding ≡ []
old_none k None low = refl
old_none k (Some p) low =
    ap (λ (b : Bool). proposed_if k.layout.view p (b && not (is_some p.lost)))
    (le-ltb k.proposed p.view.number low)

brought_if : (A : Type 0) (k l : Known) (brings : Brings A k l) (lost : Option ℕ)
    → lost_group k.layout.shape brings.set ≡ lost
    → Adds A k l (proposed_at k (Some (proposal_by brings.set brings.joining lost)))
brought_if A k l brings None e =
    adds_one brings e
    (ap (λ (b : Bool). proposed_if k.layout.view (proposal_by brings.set brings.joining None) (b && true))
    (lt-ltb k.proposed brings.set.number brings.above))
brought_if A k l brings (Some group) e =
    adds_none
    (ap (λ (b : Bool). proposed_if k.layout.view (proposal_by brings.set brings.joining (Some group)) (b && false))
    (lt-ltb k.proposed brings.set.number brings.above))

adds : (A : Type 0) (k l : Known) → IsNotAbove k.proposed k.outstanding → Keeps k l ⊎ Brings A k l
    → Adds A k l (proposed_at k l.outstanding)
adds A k l low (inl keeps) = adds_none (old_none k l.outstanding (keeps.low k.proposed low))
adds A k l low (inr brings) =
    subst (λ (o : Option Proposal). Adds A k l (proposed_at k o)) (sym brings.outstanding)
    (brought_if A k l brings (lost_group k.layout.shape brings.set) refl)

-- what an event does to proposals
proposals : (s : QmgrState) (event : Event)
    → Keeps s.known (after s event).known ⊎ Brings (IsOrderly s.known.me event) s.known (after s event).known
proposals s (takes x) = (steps s x).proposals
proposals s (installs view) =
    let row = row_installs s.known view in
    inl (record { proposed = row.proposed; low = row.low })

-- no number is above
abbrev pub IsLow : ℕ → List Proposed → Type 0
IsLow number [] = Unit {0}
IsLow number (p ∷ proposed) = p.set.number ≤ number

pub record AreLow (k : Known) (proposed : List Proposed) : Type 0 where
  pub rising : AreRising (map (λ p. p.set.number) proposed)
  pub low : IsLow k.proposed proposed
  pub outstanding : IsNotAbove k.proposed k.outstanding

grows : (A : Type 0) (k l : Known) → Keeps k l ⊎ Brings A k l → k.proposed ≤ l.proposed
grows A k l (inl keeps) =
    let same : l.proposed ≡ k.proposed = keeps.proposed in
    omega arith
grows A k l (inr brings) =
    let same : l.proposed ≡ brings.set.number = brings.proposed in
    let above : k.proposed < brings.set.number = brings.above in
    omega arith

outstanding_low : (A : Type 0) (k l : Known) → IsNotAbove k.proposed k.outstanding → Keeps k l ⊎ Brings A k l
    → IsNotAbove l.proposed l.outstanding
outstanding_low A k l low (inl keeps) =
    subst (λ (n : ℕ). IsNotAbove n l.outstanding) (sym keeps.proposed) (keeps.low k.proposed low)
outstanding_low A k l low (inr brings) =
    let same : l.proposed ≡ brings.set.number = brings.proposed in
    subst (IsNotAbove l.proposed) (sym brings.outstanding) (omega arith)

low_up : (number more : ℕ) (proposed : List Proposed) → number ≤ more → IsLow number proposed → IsLow more proposed
low_up number more [] up low = tt
low_up number more (p ∷ proposed) up low = omega arith

rising_one : (number : ℕ) (proposed : List Proposed) (low : ℕ) → low < number → IsLow low proposed
    → AreRising (map (λ p. p.set.number) proposed) → AreRising (number ∷ map (λ p. p.set.number) proposed)
rising_one number [] low above are rising = tt
rising_one number (p ∷ proposed) low above are rising = (omega arith, rising)

low_on : (A : Type 0) (k l : Known) (older added : List Proposed) → AreLow k older → Keeps k l ⊎ Brings A k l
    → Adds A k l added → AreLow l (added ++ older)
low_on A k l older added are goes (adds_none e) =
    subst (λ (added : List Proposed). AreLow l (added ++ older)) (sym e)
    (record {
      rising = are.rising;
      low = low_up k.proposed l.proposed older (grows A k l goes) are.low;
      outstanding = outstanding_low A k l are.outstanding goes;
    })
low_on A k l older added are goes (adds_one brings lost e) =
    let same : l.proposed ≡ brings.set.number = brings.proposed in
    subst (λ (added : List Proposed). AreLow l (added ++ older)) (sym e)
    (record {
      rising = rising_one brings.set.number older k.proposed brings.above are.low are.rising;
      low = omega arith;
      outstanding = outstanding_low A k l are.outstanding goes;
    })

pub are_low : (me : Member) (layout : Layout) (events : List Event)
    → AreLow (known_of me layout events) (proposed_of me layout events)
are_low me layout [] = record { rising = tt; low = tt; outstanding = tt }
are_low me layout (event ∷ events) =
    let s = state_of me layout events in
    let before = are_low me layout events in
    let goes = proposals s event in
    low_on (IsOrderly s.known.me event) s.known (after s event).known (proposed_of me layout events) _ before goes
    (adds (IsOrderly s.known.me event) s.known (after s event).known before.outstanding goes)

pub rise : ProposalsRise
rise me layout events = (are_low me layout events).rising

-- who the membership is of, and what shape its cluster has, never changes
stays_me : (s : QmgrState) (event : Event) → (after s event).known.me ≡ s.known.me
stays_me s (takes x) = (steps s x).me
stays_me s (installs view) = (row_installs s.known view).me

pub me_is : (me : Member) (layout : Layout) (events : List Event) → (known_of me layout events).me ≡ me
me_is me layout [] = refl
me_is me layout (event ∷ events) = stays_me (state_of me layout events) event ∙ me_is me layout events

stays_shape : (s : QmgrState) (event : Event) → (after s event).known.layout.shape ≡ s.known.layout.shape
stays_shape s (takes x) = ap (λ (y : Layout). y.shape) (steps s x).layout
stays_shape s (installs view) = ap (λ (y : Layout). y.shape) (row_installs s.known view).layout

pub shape_is : (me : Member) (layout : Layout) (events : List Event)
    → (known_of me layout events).layout.shape ≡ layout.shape
shape_is me layout [] = refl
shape_is me layout (event ∷ events) = stays_shape (state_of me layout events) event ∙ shape_is me layout events

-- a new proposal is right
right_one : (A : Type 0) (k l : Known) (views : List View) (brings : Brings A k l) → A → IsSet k.layout.view
    → k.layout.view.number ≤ k.promised.number → IsIn k.layout.view views
    → lost_group k.layout.shape brings.set ≡ None
    → IsRight k.layout.shape k.me views (entry_of k.layout.view brings.set brings.joining)
right_one A k l views brings a is below there lost =
    let one = made A k.me k.layout.view brings.set brings.joining a is brings.form in
    let higher : k.promised.number < brings.set.number = brings.higher in
    record {
      viable = ap (λ (o : Option ℕ). not (is_some o)) lost;
      set = one.right;
      later = omega arith;
      own = one.own;
      installed = there;
      made = one.made;
    }

right_more : (shape : Shape) (me : Member) (views more : List View) (p : Proposed)
    → ((view : View) → IsIn view views → IsIn view more) → IsRight shape me views p → IsRight shape me more p
right_more shape me views more p in_more right = record {
  viable = right.viable;
  set = right.set;
  later = right.later;
  own = right.own;
  installed = in_more p.base right.installed;
  made = right.made;
}

added_right : (A : Type 0) (k l : Known) (views : List View) (added : List Proposed) → A → IsSet k.layout.view
    → k.layout.view.number ≤ k.promised.number → IsIn k.layout.view views → Adds A k l added
    → Each (IsRight k.layout.shape k.me views) added
added_right A k l views added a is below there (adds_none e) =
    subst (Each (IsRight k.layout.shape k.me views)) (sym e) tt
added_right A k l views added a is below there (adds_one brings lost e) =
    subst (Each (IsRight k.layout.shape k.me views)) (sym e)
    (right_one A k l views brings a is below there lost, tt)

pub each_right : EachProposalIsRight
each_right me layout [] orderly = tt
each_right me layout (event ∷ events) orderly =
    let s = state_of me layout events in
    let k = s.known in
    let before : AreOrderlyEvents me layout events = record { first = orderly.first; each = orderly.each.1 } in
    let views = installed_of layout (event ∷ events) in
    let risen = have_risen me layout events in
    let sound : IsOrderly k.me event =
    subst (λ (me : Member). IsOrderly me event) (sym (me_is me layout events)) orderly.each.0 in
    let added =
    added_right (IsOrderly k.me event) k (after s event).known views _ sound
    (view_set me layout events before) risen.below
    (views_more layout event events k.layout.view (in_installed _ _ risen.installed))
    (adds (IsOrderly k.me event) k (after s event).known (are_low me layout events).outstanding (proposals s event)) in
    each_append _ _ (proposed_of me layout events)
    (subst (λ (me : Member). Each (IsRight layout.shape me views)
    (proposed_at k (after s event).known.outstanding)) (me_is me layout events)
    (subst (λ (shape : Shape). Each (IsRight shape k.me views) (proposed_at k (after s event).known.outstanding))
    (shape_is me layout events) added))
    (each_map _ _ (proposed_of me layout events)
    (λ p right. right_more layout.shape me (installed_of layout events) views p (views_more layout event events) right)
    (each_right me layout events before))
