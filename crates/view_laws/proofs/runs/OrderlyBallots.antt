-- Ballots of logs in which all is sound are orderly.
use Rattle.std.proofs.Common.{◌≡◌, ◌≤◌, ◌<◌, ◌⊎◌, ◌==◌, ◌&&◌, ℕ, Bool, true, false, nat_lt, List, [], ◌∷◌, ◌++◌}
use Rattle.std.proofs.Common.{append-nil, map, refl, ap, sym, subst, ◌∙◌, arith, inl, inr}
use Rattle.std.proofs.lemmas.Bool.{and_parts, eqb-true, false≢true, ltb-true}
use Rattle.std.specs.List.{list_any}
use Rattle.std.specs.Prelude.{if◌then◌else◌, Option, None, Some}
use Rattle.frag_map.specs.Layout.{Layout, first_layout, first_view, members}
use Rattle.frag_map.specs.Replicas.{is_member}
use Rattle.frag_map.specs.Shape.{IsShape}
use Rattle.run_theory.specs.Lists.{Each, IsIn}
use Rattle.run_theory.proofs.Pasts.{each_from, each_in, each_map}
use Rattle.sig_core.specs.declared.member.Member.{Member}
use Rattle.sig_core.specs.declared.signal.Body.{Body}
use Rattle.sig_core.specs.declared.signal.Body.TheVariants.{Joining, Membership}
use Rattle.sig_core.specs.declared.signal.joining.JoiningSignal.TheVariants.{StartReq}
use Rattle.sig_core.specs.declared.signal.membership.MembershipSignal.TheVariants.{ArbitReq, PrepFailReq}
use Rattle.sig_core.specs.declared.signal.Signal.{Signal}
use Rattle.sig_core.specs.declared.view.View.{View}
use Rattle.arbiter_block.specs.Arbiter.{ArbiterState, arbit_if, arbit_row, arbiter_table, is_granted}
use Rattle.arbiter_block.specs.Laws.{granted_at}
use Rattle.arbiter_block.specs.Sets.{is_same_set, lie_in}
use Rattle.qmgr_block.specs.Laws.{Event, installs, takes}
use Rattle.world_core.proofs.MadeFirst.{made_begins}
use Rattle.world_core.specs.Start.{NobodyStarts, Start, made}
use Rattle.world_core.specs.Steps.{HostStep}
use Rattle.view_laws.specs.Ballots.{Ballots, Granted, HasPromised, IsChosen, Promised, Proposed}
use Rattle.view_laws.specs.Events.{AreOrderlyEvents, IsOrderly, IsSound}
use Rattle.view_laws.specs.Grants.{StandBehind, arbiter_of, as_granted, grants_of}
use Rattle.view_laws.specs.HostEvents.{events_of, is_arbiter, taken_in}
use Rattle.view_laws.specs.Kept as kept
use Rattle.view_laws.specs.Kept.{AreBehind, AreRising, IsBehind, IsGrownOfSome, IsOwn, IsRight}
use Rattle.view_laws.specs.Members.{installed_of, is_adopted, known_of, promised_at, promises_of, proposed_of}
use Rattle.view_laws.specs.Orderly as orderly
use Rattle.view_laws.specs.Orderly.{AreGrants, AreOrderly, ArePromises, IsOfProposal, IsOut, IsProposal, IsSpecial}
use Rattle.view_laws.specs.Runs.{ballots_of, events_in}
use Rattle.view_laws.specs.Sets.{Change, IsJoining, IsMadeOf, IsPart, IsPromoted, all_of, joining, joins, promotes}
use Rattle.view_laws.specs.Sets.{shrinks}
use Rattle.view_laws.proofs.memberships.AlongEvents.{have_risen, promise_number}
use Rattle.view_laws.proofs.memberships.ArbitratorGrants.{grants_stand}
use Rattle.view_laws.proofs.memberships.Promises.{stand_behind}
use Rattle.view_laws.proofs.memberships.Proposals.{each_right, rise}
use Rattle.view_laws.proofs.runs.Growth.{from_flat, in_flat, in_made}
use Rattle.view_laws.proofs.runs.NobodyJoins.{IsNoStart, no_joins}
use Rattle.view_laws.proofs.runs.FirstMembers.{first_set, made_test, made_tested}
use Rattle.view_laws.proofs.runs.Sound.{AreSoundLogs, Asks, IsGood, IsOfMade, IsQuestion, IsSoundMember, Says}
use Rattle.view_laws.proofs.runs.Sound.{proposed_in}

-- rising numbers tell their items apart
module _ {A : Type 0} (number : A → ℕ) where
  rising_below : (newest : A) (older : List A) → AreRising (map number (newest ∷ older)) → (x : A) → IsIn x older
      → number x < number newest
  rising_below newest [] rising x there = absurd there
  rising_below newest (last ∷ older) rising x (inl same) = omega (arith, rising.0, ap number same)
  rising_below newest (last ∷ older) rising x (inr there) =
      omega (arith, rising.0, rising_below last older rising.1 x there)

  rising_less : (newest : A) (older : List A) → AreRising (map number (newest ∷ older)) → AreRising (map number older)
  rising_less newest [] rising = tt
  rising_less newest (last ∷ older) rising = rising.1

  pub rising_same : (all : List A) → AreRising (map number all) → (one other : A) → IsIn one all → IsIn other all
      → number one ≡ number other → one ≡ other
  rising_same [] rising one other i j same = absurd i
  rising_same (newest ∷ older) rising one other (inl is) (inl like) same = is ∙ sym like
  rising_same (newest ∷ older) rising one other (inl is) (inr j) same =
      absurd (omega (arith, rising_below newest older rising other j, ap number is, same))
  rising_same (newest ∷ older) rising one other (inr i) (inl like) same =
      absurd (omega (arith, rising_below newest older rising one i, ap number like, same))
  rising_same (newest ∷ older) rising one other (inr i) (inr j) same =
      rising_same older (rising_less newest older rising) one other i j same

-- the oldest promise is the first view
abbrev IsOldest : View → List Promised → Type 0
IsOldest first [] = ⊥
IsOldest first (promise ∷ []) = promise.set ≡ first
IsOldest first (promise ∷ last ∷ older) = IsOldest first (last ∷ older)

oldest_more : (first : View) (promise : Promised) (older : List Promised) → IsOldest first older
    → IsOldest first (promise ∷ older)
oldest_more first promise [] is = absurd is
oldest_more first promise (last ∷ older) is = is

oldest : (me : Member) (layout : Layout) (events : List Event) → IsOldest layout.view (promises_of me layout events)
oldest me layout [] = refl
oldest me layout (event ∷ events) =
    by event (known_of me layout events).promised (known_of me layout (event ∷ events)).promised
    (oldest me layout events)
  where
    by : (event : Event) (before now : View) → IsOldest layout.view (promises_of me layout events)
        → IsOldest layout.view (promised_at event before now ++ promises_of me layout events)
    by event before now is = go (before.number == now.number)
      where
        go : (same : Bool) → IsOldest layout.view
            ((if same then [] else record { set = now; adopted = is_adopted event } ∷ [])
            ++ promises_of me layout events)
        go true = is
        go false = oldest_more layout.view (record { set = now; adopted = is_adopted event })
            (promises_of me layout events) is

not_below : (first : View) (all : List Promised) → AreRising (map promise_number all) → IsOldest first all
    → (p : Promised)
    → IsIn p all → first.number ≤ p.set.number
not_below first [] rising is p there = absurd there
not_below first (promise ∷ []) rising is p (inl same) =
    omega (arith, ap promise_number same, ap (λ (v : View). v.number) is)
not_below first (promise ∷ []) rising is p (inr there) = absurd there
not_below first (promise ∷ last ∷ older) rising is p (inl same) =
    omega (arith, ap promise_number same, rising.0, not_below first (last ∷ older) rising.1 is last (inl refl))
not_below first (promise ∷ last ∷ older) rising is p (inr there) =
    not_below first (last ∷ older) rising.1 is p there

-- a set that is made of members that were made, where nobody joins
none_there : (xs : List Member) → Each (λ x. ⊥) xs → xs ≡ []
none_there [] none = refl
none_there (x ∷ xs) none = absurd none.0

-- a change by which nobody joins
abbrev JoinsNobody : Change → Type 0
JoinsNobody change = joining change ≡ None

not_joining : (change : Change) (x : Member) → JoinsNobody change → IsJoining change x → ⊥
not_joining shrinks x plain is = is
not_joining (joins member) x plain is = cc
not_joining (promotes member) x plain is = is

not_promoted : (base set : View) (change : Change) (x : Member) → base.starting ≡ [] → IsMadeOf base change set
    → IsPromoted change x → ⊥
not_promoted base set shrinks x none made is = is
not_promoted base set (joins member) x none made is = is
not_promoted base set (promotes member) x none made is = subst (IsIn member) none made.allowed

oldest_in : (me : Member) (members : List Member) → kept.oldest members ≡ Some me → IsIn me members
oldest_in me [] is = absurd cc
oldest_in me (member ∷ members) is = inl cc

own_is : (me : Member) (base set : View) (change : Change) → base.starting ≡ [] → JoinsNobody change
    → IsMadeOf base change set
    → IsOwn me base set change → IsIn me set.full
own_is me base set shrinks none plain made own = oldest_in me set.full own
own_is me base set (joins member) none plain made own = absurd cc
own_is me base set (promotes member) none plain made own = absurd (subst (IsIn member) none made.allowed)

module _ (start : Start) (logs : ℕ → List HostStep) (is_shape : IsShape start.shape) where
  abbrev layout : Layout
  layout = first_layout start.shape

  abbrev ballots : Ballots
  ballots = ballots_of start logs

  -- what is sound is orderly, and true, and nobody asks to join
  sound_body : (me : Member) (x : Signal) (body : Body) → Says start logs me x body → IsSound me body
  sound_body me x (Membership (PrepFailReq set)) says = (says.0, says.1)
  sound_body me x (Membership other) says = tt
  sound_body me x (Joining (StartReq member own)) says = absurd says
  sound_body me x (Joining other) says = tt
  sound_body me x body says = tt

  sound_each : (me : Member) (events : List Event) → IsSoundMember start logs me events → Each (IsOrderly me) events
  sound_each me [] sound = tt
  sound_each me (takes x ∷ events) sound = (
    sound_body me x x.body sound.taken.0,
    sound_each me events (record { taken = sound.taken.1; installed = sound.installed }),
  )
  sound_each me (installs view ∷ events) sound = (
    sound.installed.0.of.set,
    sound_each me events (record { taken = sound.taken; installed = sound.installed.1 }),
  )

  pub orderly_events : (me : Member) (events : List Event) → IsSoundMember start logs me events
      → AreOrderlyEvents me layout events
  orderly_events me events sound = record {
    first = first_set start.shape.nodes is_shape.nodes_few;
    each = sound_each me events sound;
  }

  no_start : (me : Member) (x : Signal) (body : Body) → Says start logs me x body → IsNoStart body
  no_start me x (Joining (StartReq member own)) says = says
  no_start me x (Joining other) says = tt
  no_start me x body says = tt

  -- what is so of each proposal of a membership that is sound
  pub record IsOwnProposal (me : Member) (events : List Event) (p : Proposed) : Type 0 where
    pub right : IsRight start.shape me (installed_of layout events) p
    pub plain : JoinsNobody p.change
    pub base : IsGood start logs p.base
    pub of : IsOfMade start p.set
    pub by_full : IsIn me p.set.full

  pub own_proposal : (me : Member) (events : List Event) → IsSoundMember start logs me events → (p : Proposed)
      → IsIn p (proposed_of me layout events) → IsOwnProposal me events p
  own_proposal me events sound p there =
      let right : IsRight start.shape me (installed_of layout events) p =
      each_in _ p (proposed_of me layout events) (each_right me layout events (orderly_events me events sound)) there in
      let plain : JoinsNobody p.change =
      each_in (λ (p : Proposed). JoinsNobody p.change) p (proposed_of me layout events)
      (no_joins me layout events (each_map _ _ (taken_in events) (λ x. no_start me x x.body) sound.taken)) there in
      let base : IsGood start logs p.base =
      each_in (IsGood start logs) p.base (installed_of layout events) sound.installed right.installed in
      record {
        right = right;
        plain = plain;
        base = base;
        of = record {
          set = right.set;
          none = none_there p.set.starting
              (each_map _ _ p.set.starting (λ x. old x plain base.of.none) right.made.starting);
          made = each_map _ _ p.set.full (λ x. full x base.of right.made) right.made.full;
        };
        by_full = own_is me p.base p.set p.change base.of.none plain right.made right.own;
      }
    where
      old : (x : Member) → JoinsNobody p.change → p.base.starting ≡ []
          → IsIn x p.base.starting ⊎ IsJoining p.change x → ⊥
      old x plain none (inl is) = subst (IsIn x) none is
      old x plain none (inr is) = not_joining p.change x plain is

      full : (x : Member) → IsOfMade start p.base → IsMadeOf p.base p.change p.set
          → IsIn x p.base.full ⊎ IsPromoted p.change x → IsIn x (made start)
      full x of made_so (inl is) = each_in _ x p.base.full of.made is
      full x of made_so (inr is) = absurd (not_promoted p.base p.set p.change x of.none made_so is)

  -- two proposals of one number
  pub proposal_same : (me : Member) (events : List Event) (one other : Proposed)
      → IsIn one (proposed_of me layout events)
      → IsIn other (proposed_of me layout events) → one.set.number ≡ other.set.number → one ≡ other
  proposal_same me events =
      rising_same (λ (p : Proposed). p.set.number) (proposed_of me layout events) (rise me layout events)

  module _ (sound : AreSoundLogs start logs) where
    abbrev events : Member → List Event
    events me = events_in start logs me

    -- an adopted set lacks the member: else that had promised it when it was asked, with the same number
    adopted_out : (me : Member) → IsIn me (made start) → (set : View) → IsGood start logs set
        → IsIn (record { set = set; adopted = true }) (promises_of me layout (events me))
        → (first_view start.shape.nodes).number < set.number → IsOut set me
    adopted_out me there set good is later me_in = by good.chosen
      where
        both : IsIn (record { set = set; adopted = false }) (promises_of me layout (events me)) → ⊥
        both asked =
            false≢true (ap (λ (p : Promised). p.adopted)
            (rising_same promise_number (promises_of me layout (events me)) (have_risen me layout (events me)).rising
            (record { set = set; adopted = false }) (record { set = set; adopted = true }) asked is refl))

        by : IsChosen start.shape ballots set → ⊥
        by (inl first) = omega (arith, later, ap (λ (v : View). v.number) first)
        by (inr won) =
            let has : HasPromised ballots set me =
            each_in (HasPromised ballots set) me (all_of set) won.backed me_in in
            both (subst (λ (b : Bool). IsIn (record { set = set; adopted = false })
            (if b then promises_of me layout (events me) else [])) (made_test start me there) has.promised)

    special : (me : Member) → IsIn me (made start) → (last set : View)
        → IsPart last set ⊎ IsGrownOfSome (installed_of layout (events me)) last set
        → IsPart last set ⊎ IsSpecial ballots me last set
    special me there last set (inl part) = inl part
    special me there last set (inr grown) = inr (record {
      base = grown.base;
      installed = in_made start me grown.base _ there grown.installed;
      number = grown.grown.number;
      change = grown.grown.change;
      made = grown.grown.made;
    })

    next_promise : (me : Member) → IsIn me (made start) → (last set : View) (adopted : Bool)
        → IsIn (record { set = set; adopted = adopted }) (promises_of me layout (events me))
        → (first_view start.shape.nodes).number < set.number
        → IsBehind me (installed_of layout (events me)) last set adopted
        → orderly.IsBehind ballots me last set adopted
    next_promise me there last set true is later behind = record {
      installed = in_made start me set _ there behind;
      out =
          adopted_out me there set
          (each_in (IsGood start logs) set _ (sound.members me there).installed behind) is later;
    }
    next_promise me there last set false is later behind =
        record { member_in = behind.member_in; from = special me there last set behind.from }

    -- all promises of a member, from an older one on
    promises_from : NobodyStarts start → (me : Member) → IsIn me (made start) → (all : List Promised)
        → ((p : Promised) → IsIn p all → IsIn p (promises_of me layout (events me)))
        → AreRising (map promise_number all) → IsOldest layout.view all
        → AreBehind me (installed_of layout (events me)) all
        → ArePromises ballots me all
    promises_from nobody me there [] are rising old behind = tt
    promises_from nobody me there (promise ∷ []) are rising old behind =
        inl (
          subst (IsIn me) (sym (append-nil (members start.shape.nodes)))
              (made_begins start nobody me there),
          old,
        )
    promises_from nobody me there (promise ∷ last ∷ older) are rising old behind = (
      rising.0,
      next_promise me there last.set promise.set promise.adopted (are promise (inl refl))
          (omega (arith, rising.0, not_below layout.view (last ∷ older) rising.1 old last (inl refl))) behind.0,
      promises_from nobody me there (last ∷ older) (λ p i. are p (inr i)) rising.1 old behind.1,
    )

    promises_are : NobodyStarts start → (me : Member) → ArePromises ballots me (ballots.promises me)
    promises_are nobody me = by (list_any (is_member me) (made start)) refl
      where
        by : (b : Bool) → list_any (is_member me) (made start) ≡ b
            → ArePromises ballots me (if b then promises_of me layout (events me) else [])
        by true e =
            let there = made_tested start me e in
            promises_from nobody me there (promises_of me layout (events me)) (λ p i. i)
            (have_risen me layout (events me)).rising (oldest me layout (events me))
            (stand_behind me layout (events me) (orderly_events me (events me) (sound.members me there)))
        by false e = tt

    -- proposals
    proposal_is : (p : Proposed) → IsIn p ballots.proposed → IsProposal start.shape ballots p
    proposal_is p is =
        let one = from_flat (λ me. proposed_in start logs me) (made start) p is in
        let own = own_proposal one.of (events one.of) (sound.members one.of one.there) p one.is in
        record {
          viable = own.right.viable;
          apart = own.right.set.apart;
          later = own.right.later;
          by = one.of;
          of = own.by_full;
          installed = in_made start one.of p.base _ one.there own.right.installed;
          made = own.right.made;
        }

    -- grants
    abbrev AreNewOf : List Granted → Type 0
    AreNewOf [] = Unit {0}
    AreNewOf (grant ∷ []) = Unit {0}
    AreNewOf (grant ∷ last ∷ older) = IsOfProposal ballots grant × AreNewOf (last ∷ older)

    new_front : (front grants : List Granted) → Each (IsOfProposal ballots) front → AreNewOf grants
        → AreNewOf (front ++ grants)
    new_front [] grants of new = new
    new_front (grant ∷ front) grants of new = by (front ++ grants) (new_front front grants of.1 new)
      where
        by : (older : List Granted) → AreNewOf older → AreNewOf (grant ∷ older)
        by [] new = tt
        by (last ∷ older) new = (of.0, new)

    asked_of : (member : Member) (number : ℕ) (group : List Member) (who : Option Member)
        → IsQuestion start logs member number group who
        → IsOfProposal ballots (record { number = number; members = group; joining = who })
    asked_of member number group who one = record {
      proposal = one.proposal;
      there = in_flat (λ me. proposed_in start logs me) (made start) member one.proposal one.made one.there;
      number = one.number_is;
      members = one.members_are;
      joining = one.joins_is;
      backed = one.backed;
    }

    pub granted_some : (s : ArbiterState) (number : ℕ) (group : List Member) (who : Option Member) → 1 ≤ s.number
        → is_granted s number group who ≡ true → 1 ≤ number
    granted_some s number group who some e = by (nat_lt s.number number) refl e
      where
        by : (greater : Bool) → nat_lt s.number number ≡ greater
            → (if greater then lie_in s.members group who else number == s.number && is_same_set group s.members) ≡ true
            → 1 ≤ number
        by true greater e = omega (arith, ltb-true s.number number greater)
        by false greater e =
            let parts = and_parts (number == s.number) (is_same_set group s.members) e in
            omega (arith, some, eqb-true number s.number parts.0)

    -- what the arbitrator grants is of a proposal, and what it keeps has a number
    record Grants (s : ArbiterState) (granted : List Granted) : Type 0 where
      some : 1 ≤ s.number
      of : Each (IsOfProposal ballots) granted

    grants_if : (s : ArbiterState) (x : Signal) (number : ℕ) (group : List Member) (who : Option Member)
        (granted : Bool)
        → is_granted s number group who ≡ granted → 1 ≤ s.number
        → (1 ≤ number → IsQuestion start logs x.member number group who)
        → Grants (arbit_if s x.member.node number group granted).state
        (map as_granted (granted_at (Membership (ArbitReq number group who))
        (arbit_if s x.member.node number group granted).effects.sends))
    grants_if s x number group who true e some asks =
        let above = granted_some s number group who some e in
        record { some = above; of = (asked_of x.member number group who (asks above), tt) }
    grants_if s x number group who false e some asks = record { some = some; of = tt }

    grants_at : (s : ArbiterState) (x : Signal) (body : Body) → 1 ≤ s.number → Asks start logs x body
        → Grants (arbiter_table s x.member.node body).state
        (map as_granted (granted_at body (arbiter_table s x.member.node body).effects.sends))
    unfolding arbit_row
    grants_at s x (Membership (ArbitReq number group who)) some asks =
        grants_if s x number group who (is_granted s number group who) refl some asks
    grants_at s x (Membership other) some asks = record { some = some; of = tt }
    grants_at s x body some asks = record { some = some; of = tt }

    pub arbiter_some : (signals : List Signal) → Each (λ x. Asks start logs x x.body) signals
        → 1 ≤ (arbiter_of (members start.shape.nodes) signals).number
    arbiter_some [] asks = omega arith
    arbiter_some (x ∷ signals) asks =
        (grants_at (arbiter_of (members start.shape.nodes) signals) x x.body (arbiter_some signals asks.1) asks.0).some

    new_grants : (signals : List Signal) → Each (λ x. Asks start logs x x.body) signals
        → AreNewOf (grants_of (members start.shape.nodes) signals)
    new_grants [] asks = tt
    new_grants (x ∷ signals) asks =
        let s = arbiter_of (members start.shape.nodes) signals in
        new_front (map as_granted (granted_at x.body (arbiter_table s x.member.node x.body).effects.sends))
        (grants_of (members start.shape.nodes) signals)
        (grants_at s x x.body (arbiter_some signals asks.1) asks.0).of (new_grants signals asks.1)

    grants_from : (grants : List Granted) → StandBehind ballots grants → AreNewOf grants → AreGrants ballots grants
    grants_from [] behind new = absurd behind
    grants_from (grant ∷ []) behind new = behind
    grants_from (grant ∷ last ∷ older) behind new = (new.0, behind.0, grants_from (last ∷ older) behind.1 new.1)

    grants_are : AreGrants ballots ballots.grants
    grants_are =
        let signals = taken_in (events_of is_arbiter start 0 (logs 0)) in
        grants_from (grants_of (members start.shape.nodes) signals)
        (subst (λ (group : List Member). StandBehind ballots (grants_of group signals))
        (append-nil (members start.shape.nodes))
        (grants_stand ballots signals refl))
        (new_grants signals sound.asked)

    installed_are : (me : Member) → Each (IsChosen start.shape ballots) (ballots.installed me)
    installed_are me = by (list_any (is_member me) (made start)) refl
      where
        by : (b : Bool) → list_any (is_member me) (made start) ≡ b
            → Each (IsChosen start.shape ballots) (if b then installed_of layout (events me) else [])
        by true e =
            each_map _ _ (installed_of layout (events me)) (λ view good. good.chosen)
            (sound.members me (made_tested start me e)).installed
        by false e = tt

    pub sound_orderly : NobodyStarts start → AreOrderly start.shape ballots
    sound_orderly nobody = record {
      first_apart = (first_set start.shape.nodes is_shape.nodes_few).apart;
      promises = promises_are nobody;
      proposed = each_from _ ballots.proposed proposal_is;
      grants = grants_are;
      installed = installed_are;
    }
