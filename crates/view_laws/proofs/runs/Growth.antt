-- What members did in logs they did in longer ones: what is chosen stays chosen, and what was true stays true.
use Rattle.std.proofs.Common.{◌≡◌, ◌⊎◌, ℕ, Bool, true, false, List, [], ◌∷◌, ◌++◌, refl, sym, subst, ◌∙◌, inl, inr}
use Rattle.std.specs.List.{flat_map, list_any}
use Rattle.std.specs.Prelude.{if◌then◌else◌, Option}
use Rattle.frag_map.specs.Layout.{Layout, first_layout, members}
use Rattle.frag_map.specs.Replicas.{is_member}
use Rattle.run_theory.specs.Lists.{IsIn, IsPast}
use Rattle.run_theory.proofs.Pasts.{each_map, in_append, in_past, past_self, past_trans}
use Rattle.sig_core.specs.declared.member.Member.{Member}
use Rattle.sig_core.specs.declared.place.BlockId.{BlockId}
use Rattle.sig_core.specs.declared.signal.Body.{Body}
use Rattle.sig_core.specs.declared.signal.Body.TheVariants.{Joining, Membership}
use Rattle.sig_core.specs.declared.signal.joining.JoiningSignal.TheVariants.{StartReq}
use Rattle.sig_core.specs.declared.signal.membership.MembershipSignal.TheVariants.{ArbitConf, ArbitReq, PrepFailConf}
use Rattle.sig_core.specs.declared.signal.membership.MembershipSignal.TheVariants.{PrepFailReq}
use Rattle.sig_core.specs.declared.signal.Signal.{Signal}
use Rattle.sig_core.specs.declared.view.Shape.{Shape}
use Rattle.sig_core.specs.declared.view.View.{View}
use Rattle.qmgr_block.specs.Laws.{Event, installs, takes}
use Rattle.world_core.specs.Start.{Start, made}
use Rattle.world_core.specs.Steps.{Addressed, HostStep}
use Rattle.view_laws.specs.Ballots.{Ballots, HasPromised, IsBacked, IsChosen, IsGranted, NeedsNoGrant, Promised}
use Rattle.view_laws.specs.Ballots.{Proposed}
use Rattle.view_laws.specs.Grants.{grants_of}
use Rattle.view_laws.specs.HostEvents.{events_of, is_arbiter, is_membership, taken_in}
use Rattle.view_laws.specs.Members.{confirmed_of, installed_of, promises_of, proposed_of}
use Rattle.view_laws.specs.Runs.{ballots_of, events_in, if_made}
use Rattle.view_laws.specs.Sets.{all_of}
use Rattle.view_laws.specs.Votes.{main_of}
use Rattle.view_laws.proofs.ballots.MadeSets.{in_either, in_front}
use Rattle.view_laws.proofs.runs.FirstMembers.{made_test}
use Rattle.view_laws.proofs.runs.Sound.{Asks, IsGood, IsGrantedTo, IsHeard, IsProposedBy, IsQuestion, IsSoundMember}
use Rattle.view_laws.proofs.runs.Sound.{IsSoundSignal, Says, proposed_in}

-- a front before a list
pub past_front : {A : Type 0} (front xs : List A) → IsPast xs (front ++ xs)
past_front front xs = record { newer = front; is = refl }

-- a list that is read off another, and only grows with it
pub past_read : {A B : Type 0} (f : List A → List B) → ((x : A) (xs : List A) → IsPast (f xs) (f (x ∷ xs)))
    → {xs ys : List A} → IsPast xs ys → IsPast (f xs) (f ys)
past_read {A} {B} f more {xs} {ys} past = subst (λ zs. IsPast (f xs) (f zs)) (sym past.is) (go past.newer)
  where
    go : (newer : List A) → IsPast (f xs) (f (newer ++ xs))
    go [] = past_self (f xs)
    go (x ∷ newer) = past_trans (go newer) (more x (newer ++ xs))

-- what a membership did
module _ (me : Member) (layout : Layout) where
  pub promises_past : {old new : List Event} → IsPast old new
      → IsPast (promises_of me layout old) (promises_of me layout new)
  promises_past past =
      past_read (promises_of me layout) (λ event events. past_front _ (promises_of me layout events)) past

  pub confirmed_past : {old new : List Event} → IsPast old new
      → IsPast (confirmed_of me layout old) (confirmed_of me layout new)
  confirmed_past past =
      past_read (confirmed_of me layout) (λ event events. past_front _ (confirmed_of me layout events)) past

  pub proposed_past : {old new : List Event} → IsPast old new
      → IsPast (proposed_of me layout old) (proposed_of me layout new)
  proposed_past past =
      past_read (proposed_of me layout) (λ event events. past_front _ (proposed_of me layout events)) past

installed_one : (layout : Layout) (event : Event) (events : List Event)
    → IsPast (installed_of layout events) (installed_of layout (event ∷ events))
installed_one layout (takes x) events = past_self (installed_of layout events)
installed_one layout (installs view) events = past_front (view ∷ []) (installed_of layout events)

pub installed_past : (layout : Layout) {old new : List Event} → IsPast old new
    → IsPast (installed_of layout old) (installed_of layout new)
installed_past layout past = past_read (installed_of layout) (installed_one layout) past

taken_one : (event : Event) (events : List Event) → IsPast (taken_in events) (taken_in (event ∷ events))
taken_one (takes x) events = past_front (x ∷ []) (taken_in events)
taken_one (installs view) events = past_self (taken_in events)

pub taken_past : {old new : List Event} → IsPast old new → IsPast (taken_in old) (taken_in new)
taken_past past = past_read taken_in taken_one past

pub grants_past : (members : List Member) {old new : List Signal} → IsPast old new
    → IsPast (grants_of members old) (grants_of members new)
grants_past members past = past_read (grants_of members) (λ x signals. past_front _ (grants_of members signals)) past

pub events_past : (mine : BlockId → Bool) (start : Start) (h : ℕ) {old new : List HostStep} → IsPast old new
    → IsPast (events_of mine start h old) (events_of mine start h new)
events_past mine start h past =
    past_read (events_of mine start h) (λ e log. past_front _ (events_of mine start h log)) past

-- items of a list made of lists
pub in_flat : {A B : Type 0} (f : A → List B) (xs : List A) (x : A) (y : B) → IsIn x xs → IsIn y (f x)
    → IsIn y (flat_map f xs)
in_flat f [] x y there is = absurd there
in_flat f (z ∷ xs) x y (inl same) is = in_front y (f z) (flat_map f xs) (subst (λ w. IsIn y (f w)) same is)
in_flat f (z ∷ xs) x y (inr there) is = in_append y (f z) (flat_map f xs) (in_flat f xs x y there is)

pub record IsInSome {A B : Type 0} (f : A → List B) (xs : List A) (y : B) : Type 0 where
  pub of : A
  pub there : IsIn of xs
  pub is : IsIn y (f of)

pub from_flat : {A B : Type 0} (f : A → List B) (xs : List A) (y : B) → IsIn y (flat_map f xs) → IsInSome f xs y
from_flat f [] y is = absurd is
from_flat {A} {B} f (x ∷ xs) y is = by (in_either y (f x) (flat_map f xs) is) (from_flat f xs y)
  where
    by : IsIn y (f x) ⊎ IsIn y (flat_map f xs) → (IsIn y (flat_map f xs) → IsInSome f xs y) → IsInSome f (x ∷ xs) y
    by (inl here) later = record { of = x; there = inl refl; is = here }
    by (inr behind) later = let one = later behind in record { of = one.of; there = inr one.there; is = one.is }

-- what is of a member that was made
pub in_made : {A : Type 0} (start : Start) (me : Member) (x : A) (xs : List A) → IsIn me (made start) → IsIn x xs
    → IsIn x (if_made start me xs)
in_made start me x xs there is =
    subst (λ (b : Bool). IsIn x (if b then xs else [])) (sym (made_test start me there)) is

-- ballots with more in them
pub record HaveGrown (b c : Ballots) : Type 0 where
  pub first : b.first ≡ c.first
  pub promises : (member : Member) (p : Promised) → IsIn p (b.promises member) → IsIn p (c.promises member)
  pub confirmed : (member : Member) (number : ℕ) → IsIn number (b.confirmed member) → IsIn number (c.confirmed member)
  pub proposed : (p : Proposed) → IsIn p b.proposed → IsIn p c.proposed
  pub grants : IsPast b.grants c.grants

module _ {b c : Ballots} (grown : HaveGrown b c) where
  pub promised_more : (set : View) (member : Member) → HasPromised b set member → HasPromised c set member
  promised_more set member has = record {
    promised = grown.promises member _ has.promised;
    confirmed = grown.confirmed member set.number has.confirmed;
  }

  pub backed_more : (set : View) → IsBacked b set → IsBacked c set
  backed_more set backed = each_map _ _ (all_of set) (λ member. promised_more set member) backed

  pub granted_more : (set : View) → IsGranted b set → IsGranted c set
  granted_more set granted = record {
    grant = granted.grant;
    there = in_past granted.grant grown.grants granted.there;
    number = granted.number;
    members = granted.members;
  }

  pub chosen_more : (shape : Shape) (set : View) → IsChosen shape b set → IsChosen shape c set
  chosen_more shape set (inl is) = inl (is ∙ grown.first)
  chosen_more shape set (inr won) = inr (record {
    proposal = won.proposal;
    there = grown.proposed won.proposal won.there;
    is = won.is;
    backed = backed_more set won.backed;
    free = free won.free;
  })
    where
      free : NeedsNoGrant shape won.proposal.change set ⊎ IsGranted b set
          → NeedsNoGrant shape won.proposal.change set ⊎ IsGranted c set
      free (inl none) = inl none
      free (inr granted) = inr (granted_more set granted)

-- logs that go on
module _ (start : Start) (old new : ℕ → List HostStep) (more : (h : ℕ) → IsPast (old h) (new h)) where
  pub events_more : (me : Member) → IsPast (events_in start old me) (events_in start new me)
  events_more me = events_past is_membership start (main_of start me) (more (main_of start me))

  if_more : {A : Type 0} (me : Member) (x : A) (xs ys : List A) → IsPast xs ys → IsIn x (if_made start me xs)
      → IsIn x (if_made start me ys)
  if_more {A} me x xs ys past is = by (list_any (is_member me) (made start)) is
    where
      by : (b : Bool) → IsIn x (if b then xs else []) → IsIn x (if b then ys else [])
      by true is = in_past x past is
      by false is = absurd is

  pub ballots_grow : HaveGrown (ballots_of start old) (ballots_of start new)
  ballots_grow =
      let layout = first_layout start.shape in
      record {
        first = refl;
        promises = λ me p. if_more me p _ _ (promises_past me layout (events_more me));
        confirmed = λ me n. if_more me n _ _ (confirmed_past me layout (events_more me));
        proposed = λ p is. let one = from_flat (λ me. proposed_in start old me) (made start) p is in
            in_flat (λ me. proposed_in start new me) (made start) one.of p one.there
            (in_past p (proposed_past one.of layout (events_more one.of)) one.is);
        grants =
            grants_past (members start.shape.nodes)
            (taken_past (events_past is_arbiter start 0 (more 0)));
      }

  in_proposed : (me : Member) (p : Proposed) → IsIn p (proposed_in start old me) → IsIn p (proposed_in start new me)
  in_proposed me p is = in_past p (proposed_past me (first_layout start.shape) (events_more me)) is

  pub good_more : (view : View) → IsGood start old view → IsGood start new view
  good_more view good = record { chosen = chosen_more ballots_grow start.shape view good.chosen; of = good.of }

  heard_more : (me member : Member) (number : ℕ) → IsHeard start old me member number
      → IsHeard start new me member number
  heard_more me member number heard = record {
    proposal = heard.proposal;
    there = in_proposed me heard.proposal heard.there;
    number_is = heard.number_is;
    promised = promised_more ballots_grow heard.proposal.set member heard.promised;
  }

  proposed_more : (member : Member) (set : View) → IsProposedBy start old member set → IsProposedBy start new member set
  proposed_more member set one = record {
    made = one.made;
    proposal = one.proposal;
    there = in_proposed member one.proposal one.there;
    is = one.is;
  }

  granted_to_more : (me : Member) (number : ℕ) → IsGrantedTo start old me number → IsGrantedTo start new me number
  granted_to_more me number one = record {
    grant = one.grant;
    granted = in_past one.grant ballots_grow.grants one.granted;
    is = one.is;
    proposal = one.proposal;
    there = in_proposed me one.proposal one.there;
    number_is = one.number_is;
    members = one.members;
  }

  question_more : (member : Member) (number : ℕ) (members : List Member) (joins : Option Member)
      → IsQuestion start old member number members joins → IsQuestion start new member number members joins
  question_more member number members joins one = record {
    made = one.made;
    proposal = one.proposal;
    there = in_proposed member one.proposal one.there;
    number_is = one.number_is;
    members_are = one.members_are;
    joins_is = one.joins_is;
    backed = backed_more ballots_grow one.proposal.set one.backed;
  }

  pub says_more : (me : Member) (x : Signal) (body : Body) → Says start old me x body → Says start new me x body
  says_more me x (Membership (PrepFailReq set)) (set_is, me_in, by) = (set_is, me_in, proposed_more x.member set by)
  says_more me x (Membership (PrepFailConf number)) heard = heard_more me x.member number heard
  says_more me x (Membership (ArbitConf number)) granted = granted_to_more me number granted
  says_more me x (Membership other) says = tt
  says_more me x (Joining (StartReq member own)) says = says
  says_more me x (Joining other) says = tt
  says_more me x body says = tt

  pub asks_more : (x : Signal) (body : Body) → Asks start old x body → Asks start new x body
  asks_more x (Membership (ArbitReq number members joining)) asks =
      λ some. question_more x.member number members joining (asks some)
  asks_more x (Membership other) asks = tt
  asks_more x body asks = tt

  pub member_more : (me : Member) (events : List Event) → IsSoundMember start old me events
      → IsSoundMember start new me events
  member_more me events sound = record {
    taken = each_map _ _ (taken_in events) (λ x. says_more me x x.body) sound.taken;
    installed = each_map _ _ (installed_of (first_layout start.shape) events) good_more sound.installed;
  }

  pub signal_more : (x : Addressed) → IsSoundSignal start old x → IsSoundSignal start new x
  signal_more x sound = record {
    view = good_more x.signal.view sound.view;
    says = λ me there at. says_more me x.signal x.signal.body (sound.says me there at);
    asks = λ at. asks_more x.signal x.signal.body (sound.asks at);
  }
