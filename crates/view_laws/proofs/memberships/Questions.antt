-- What a membership has heard when it asks the arbitrator for a set, and when it settles on one.
use Rattle.std.proofs.Common.{◌≡◌, ◌&&◌, ◌==◌, ◌⊎◌, ℕ, Bool, true, false, cond, nat_lt, not, List, [], ◌∷◌, ◌++◌}
use Rattle.std.proofs.Common.{filter, refl, ap, sym, subst, ◌∙◌, arith, inl, inr}
use Rattle.std.proofs.lemmas.Bool.{and_parts, eqb-true, false≢true, true≢false}
use Rattle.std.specs.Prelude.{if◌then◌else◌, is_some, Option, None, Some}
use Rattle.frag_map.specs.Groups.{whole_group}
use Rattle.frag_map.specs.Layout.{Layout}
use Rattle.run_theory.specs.Lists.{Each, IsIn}
use Rattle.run_theory.proofs.EachSent.{each_mapped}
use Rattle.run_theory.proofs.Pasts.{each_from, each_in, each_map, in_append}
use Rattle.sig_core.specs.declared.mark.Mark.{Mark}
use Rattle.sig_core.specs.declared.mark.Mark.TheVariants.{Installed, Promised}
use Rattle.sig_core.specs.declared.member.Member.{Member}
use Rattle.sig_core.specs.declared.outs.Outgoing.{Outgoing}
use Rattle.sig_core.specs.declared.signal.Body.{Body}
use Rattle.sig_core.specs.declared.signal.Body.TheVariants.{Membership}
use Rattle.sig_core.specs.declared.signal.Signal.{Signal}
use Rattle.sig_core.specs.declared.signal.membership.MembershipSignal.TheVariants.{ArbitConf, ArbitReq, PrepFailConf}
use Rattle.sig_core.specs.declared.view.Shape.{Shape}
use Rattle.sig_core.specs.declared.view.View.{View}
use Rattle.sig_core.specs.Step.{Effects}
use Rattle.qmgr_block.specs.declared.known.Known.{Known}
use Rattle.qmgr_block.specs.declared.known.Proposal.{Proposal}
use Rattle.qmgr_block.specs.Decide.{awaits, confirmed_all, confirmed_one, heard, is_asked, is_asked_by, needs_no_grant}
use Rattle.qmgr_block.specs.Install.{installed_row, installing, left_open}
use Rattle.qmgr_block.specs.Laws.{Event, installs, takes}
use Rattle.qmgr_block.specs.Propose.{proposal_by, proposal_sends, request_of}
use Rattle.qmgr_block.specs.Qmgr.{qmgr_row}
use Rattle.qmgr_block.specs.Sets.{is_among, members_of, without}
use Rattle.qmgr_block.specs.State.{QmgrState}
use Rattle.view_laws.specs.Ballots.{NeedsNoGrant, Proposed}
use Rattle.view_laws.specs.Events.{AreOrderlyEvents, IsSet}
use Rattle.view_laws.specs.Heard.{HasConfirmed, IsHeardOf, IsOpen, IsRightlyAsked, IsRightlySettled}
use Rattle.view_laws.specs.Heard.{MembershipsAskRightly}
use Rattle.view_laws.specs.HostEvents.{taken_in}
use Rattle.view_laws.specs.Members.{known_of, proposed_at, proposed_of, state_of}
use Rattle.view_laws.specs.Sets.{Change, all_of, joining, joins, promotes, shrinks}
use Rattle.view_laws.specs.Votes.{is_vote}
use Rattle.view_laws.proofs.ballots.ApartNodes.{all_members}
use Rattle.view_laws.proofs.ballots.NewProposals.{change_joins, entry_of, new_there}
use Rattle.view_laws.proofs.memberships.Outstanding.{Does, Hears, IsPlain, Settles, does_answer, does_hear}
use Rattle.view_laws.proofs.memberships.Outstanding.{does_propose, does_rest, does_settle, is_settling, row_does}
use Rattle.view_laws.proofs.memberships.Proposals.{each_right, shape_is}
use Rattle.view_laws.proofs.memberships.SetTests.{among_is}
use Rattle.view_laws.proofs.memberships.RowChanges.{closed_like}

-- who was awaited is it still, or is the one that has confirmed
kept_if : (p : Member → Bool) (y x : Member) (rest xs : List Member) (b : Bool) → p x ≡ b → p y ≡ true
    → IsIn y (x ∷ xs) → (IsIn y xs → IsIn y rest) → IsIn y (cond b (x ∷ rest) rest)
kept_if p y x rest xs true e passes (inl same) later = inl same
kept_if p y x rest xs true e passes (inr is) later = inr (later is)
kept_if p y x rest xs false e passes (inl same) later = absurd (true≢false (sym passes ∙ ap p same ∙ e))
kept_if p y x rest xs false e passes (inr is) later = later is

filter_keeps : (p : Member → Bool) (xs : List Member) (y : Member) → p y ≡ true → IsIn y xs → IsIn y (filter p xs)
filter_keeps p [] y passes is = absurd is
filter_keeps p (x ∷ xs) y passes is =
    kept_if p y x (filter p xs) xs (p x) refl passes is (λ later. filter_keeps p xs y passes later)

in_one : (x y : Member) → IsIn x (y ∷ []) → x ≡ y
in_one x y (inl same) = same
in_one x y (inr none) = absurd none

still : (awaited : List Member) (member one : Member) → IsIn one awaited
    → IsIn one (without awaited (member ∷ [])) ⊎ (one ≡ member)
unfolding without
still awaited member one is = by (is_among (member ∷ []) one) refl
  where
    by : (b : Bool) → is_among (member ∷ []) one ≡ b
        → IsIn one (filter (λ x. not (is_among (member ∷ []) x)) awaited) ⊎ (one ≡ member)
    by true e = inr (in_one one member (among_is (member ∷ []) one e))
    by false e = inl (filter_keeps (λ x. not (is_among (member ∷ []) x)) awaited one (ap not e) is)

-- what the tests of a proposal tell
asked_all : (awaited : List Member) → is_asked_by awaited ≡ true → awaited ≡ []
asked_all [] e = refl
asked_all (member ∷ members) e = absurd (false≢true e)

none_of : {A : Type 0} (o : Option A) → not (is_some o) ≡ true → o ≡ None
none_of None e = refl
none_of (Some x) e = absurd (false≢true e)

not_both : {A : Type 0} (o : Option A) → is_some o ≡ true → o ≡ None → ⊥
not_both o some none = true≢false (sym some ∙ ap is_some none)

three : (a b c : Bool) → (a && b && c) ≡ true → (a ≡ true) × (b ≡ true) × (c ≡ true)
three true true true e = (refl, refl, refl)
three true true false e = absurd (false≢true e)
three true false c e = absurd (false≢true e)
three false b c e = absurd (false≢true e)

no_grant : (shape : Shape) (change : Change) (set : View) → joining change ≡ None → whole_group shape set ≡ true
    → NeedsNoGrant shape change set
no_grant shape shrinks set e whole = whole
no_grant shape (promotes member) set e whole = whole
no_grant shape (joins member) set e whole = absurd cc

-- an installation leaves the outstanding proposal, or has none
pub left_outstanding : (k : Known) (view : View)
    → (installed_row k view).state.outstanding ≡ left_open view k.outstanding
unfolding installed_row installing
left_outstanding k view = (closed_like _).outstanding

-- a set that is proposed has all its members among eight
proposed_set : (me : Member) (layout : Layout) (events : List Event) (p : Proposed) → AreOrderlyEvents me layout events
    → IsIn p (proposed_of me layout events) → IsSet p.set
proposed_set me layout events p orderly there =
    (each_in _ p (proposed_of me layout events) (each_right me layout events orderly) there).set

-- how far a proposal has come: all its members but the awaited ones have confirmed it, or it has lost a group and
-- awaits nobody
abbrev IsStanding : List Proposed → List Signal → Proposal → Type 0
IsStanding proposals taken p =
    ((p.lost ≡ None) × IsHeardOf proposals taken p.awaited p.view p.joining)
    ⊎ ((is_some p.lost ≡ true) × (p.awaited ≡ []))

abbrev StandsIf : List Proposed → List Signal → Option Proposal → Type 0
StandsIf proposals taken None = Unit {0}
StandsIf proposals taken (Some p) = IsStanding proposals taken p

open_of : (proposals : List Proposed) (taken : List Signal) (outstanding : Option Proposal)
    → StandsIf proposals taken outstanding → IsOpen proposals taken outstanding
open_of proposals taken None stands = tt
open_of proposals taken (Some p) (inl parts) = λ none. parts.1
open_of proposals taken (Some p) (inr lost) = λ none. absurd (not_both p.lost lost.0 none)

-- beside newer proposals, and after more signals
abbrev AreMore : List Signal → List Signal → Type 0
AreMore taken more = (x : Signal) → IsIn x taken → IsIn x more

confirmed_more : (taken more : List Signal) (awaited : List Member) (number : ℕ) (member : Member) → AreMore taken more
    → IsIn member awaited ⊎ HasConfirmed taken number member → IsIn member awaited ⊎ HasConfirmed more number member
confirmed_more taken more awaited number member are (inl is) = inl is
confirmed_more taken more awaited number member are (inr one) =
    inr (record { signal = one.signal; there = are one.signal one.there; says = one.says; by = one.by })

heard_more : (new older : List Proposed) (taken more : List Signal) (awaited : List Member) (set : View)
    (who : Option Member) → AreMore taken more → IsHeardOf older taken awaited set who
    → IsHeardOf (new ++ older) more awaited set who
heard_more new older taken more awaited set who are of = record {
  proposal = of.proposal;
  there = in_append of.proposal new older of.there;
  is = of.is;
  joining_is = of.joining_is;
  heard =
      each_map _ _ (all_of set) (λ member one. confirmed_more taken more awaited set.number member are one) of.heard;
}

stands_more : (new older : List Proposed) (taken more : List Signal) (outstanding : Option Proposal)
    → AreMore taken more → StandsIf older taken outstanding → StandsIf (new ++ older) more outstanding
stands_more new older taken more None are stands = tt
stands_more new older taken more (Some p) are (inl parts) =
    inl (parts.0, heard_more new older taken more p.awaited p.view p.joining are parts.1)
stands_more new older taken more (Some p) are (inr lost) = inr lost

-- a new one awaits all its members
new_stands : (proposals : List Proposed) (taken : List Signal) (base set : View) (who : Option Member) (lost : Option ℕ)
    → (lost ≡ None → IsIn (entry_of base set who) proposals × IsSet set)
    → IsStanding proposals taken (proposal_by set who lost)
new_stands proposals taken base set who None there =
    inl (
      refl,
      record {
        proposal = entry_of base set who;
        there = (there refl).0;
        is = refl;
        joining_is = change_joins base set who;
        heard =
            each_from _ (all_of set)
            (λ member is. inl (subst (IsIn member) (sym (all_members set (there refl).1)) is));
      },
    )
new_stands proposals taken base set who (Some group) there = inr (refl, refl)

-- one that a member has confirmed, whom it awaited
heard_still : (taken : List Signal) (p : Proposal) (x : Signal) (one : Member)
    → x.body ≡ Membership (PrepFailConf p.view.number)
    → IsIn one p.awaited ⊎ HasConfirmed taken p.view.number one
    → IsIn one (heard p x.member).awaited ⊎ HasConfirmed (x ∷ taken) p.view.number one
heard_still taken p x one says (inr before) =
    inr (record { signal = before.signal; there = inr before.there; says = before.says; by = before.by })
heard_still taken p x one says (inl awaited) = by (still p.awaited x.member one awaited)
  where
    by : IsIn one (without p.awaited (x.member ∷ [])) ⊎ (one ≡ x.member)
        → IsIn one (without p.awaited (x.member ∷ [])) ⊎ HasConfirmed (x ∷ taken) p.view.number one
    by (inl is) = inl is
    by (inr is) = inr (record { signal = x; there = inl refl; says = says; by = sym is })

heard_one : (proposals : List Proposed) (taken : List Signal) (p : Proposal) (number : ℕ) (x : Signal)
    → IsStanding proposals taken p → awaits p number x.member ≡ true → x.body ≡ Membership (PrepFailConf number)
    → (p.lost ≡ None) × IsHeardOf proposals (x ∷ taken) (heard p x.member).awaited p.view p.joining
heard_one proposals taken p number x (inl parts) e says =
    let tests = and_parts (p.view.number == number) (is_among p.awaited x.member) e in
    let of = parts.1 in
    let same : p.view.number ≡ number = eqb-true p.view.number number tests.0 in (
      parts.0,
      record {
        proposal = of.proposal;
        there = of.there;
        is = of.is;
        joining_is = of.joining_is;
        heard =
            each_map _ _ (all_of p.view)
            (λ one before.
            heard_still taken p x one (says ∙ ap (λ (n : ℕ). Membership (PrepFailConf n)) (sym same)) before)
            of.heard;
      },
    )
heard_one proposals taken p number x (inr lost) e says =
    let tests = and_parts (p.view.number == number) (is_among p.awaited x.member) e in
    absurd (among_is [] x.member (subst (λ (xs : List Member). is_among xs x.member ≡ true) lost.1 tests.1))

-- one that an installation leaves
left_if : (proposals : List Proposed) (taken : List Signal) (p : Proposal) (above : Bool) → IsStanding proposals taken p
    → StandsIf proposals taken (if above then Some p else None)
left_if proposals taken p true stands = stands
left_if proposals taken p false stands = tt

left_stands : (proposals : List Proposed) (taken : List Signal) (view : View) (outstanding : Option Proposal)
    → StandsIf proposals taken outstanding → StandsIf proposals taken (left_open view outstanding)
left_stands proposals taken view None stands = tt
left_stands proposals taken view (Some p) stands =
    left_if proposals taken p (nat_lt view.number p.view.number) stands

-- at a signal, where the outstanding proposal stands
module _ (me : Member) (layout : Layout) (events : List Event) (x : Signal) where
  abbrev s : QmgrState
  s = state_of me layout events

  abbrev l : Known
  l = (qmgr_row s x).state.known

  abbrev effects : Effects
  effects = (qmgr_row s x).effects

  abbrev older : List Proposed
  older = proposed_of me layout events

  abbrev taken : List Signal
  taken = taken_in events

  abbrev new : List Proposed
  new = proposed_at s.known l.outstanding

  abbrev Stands : Type 0
  Stands = StandsIf older taken s.known.outstanding

  abbrev StandsAfter : Option Proposal → Type 0
  StandsAfter outstanding = StandsIf (new ++ older) (x ∷ taken) outstanding

  -- what the row does
  abbrev Done : Type 0
  Done = Does s x.member x.body l effects

  done : Done
  done = row_does s x

  heard_of : Stands → (h : Hears s.known l x.member x.body effects)
      → (h.p.lost ≡ None) × IsHeardOf older (x ∷ taken) (heard h.p x.member).awaited h.p.view h.p.joining
  heard_of stands h =
      heard_one older taken h.p h.number x (subst (StandsIf older taken) h.is stands) h.awaited h.says

  stands_same : Stands → l.outstanding ≡ s.known.outstanding → StandsAfter l.outstanding
  stands_same stands same =
      subst StandsAfter (sym same) (stands_more new older taken (x ∷ taken) s.known.outstanding (λ y is. inr is) stands)

  takes_stands : AreOrderlyEvents me layout (takes x ∷ events) → Stands → Done → StandsAfter l.outstanding
  takes_stands orderly stands (does_rest rests) = stands_same stands rests.outstanding
  takes_stands orderly stands (does_propose one) =
      subst StandsAfter (sym one.outstanding)
      (new_stands (new ++ older) (x ∷ taken) s.known.layout.view one.set one.joining one.lost there)
    where
      there : one.lost ≡ None → IsIn (entry_of s.known.layout.view one.set one.joining) (new ++ older) × IsSet one.set
      there e =
          let is =
          new_there s.known older l.outstanding one.set one.joining
          (one.outstanding ∙ ap (λ (lost : Option ℕ). Some (proposal_by one.set one.joining lost)) e) one.above in
          (is, proposed_set me layout (takes x ∷ events) (entry_of s.known.layout.view one.set one.joining) orderly is)
  takes_stands orderly stands (does_hear h) =
      let of = heard_of stands h in
      subst StandsAfter (sym h.outstanding)
      (inl (
        of.0,
        heard_more new older (x ∷ taken) (x ∷ taken) (heard h.p x.member).awaited h.p.view h.p.joining
            (λ y is. is) of.1,
      ))
  takes_stands orderly stands (does_settle settles) = stands_same stands settles.outstanding
  takes_stands orderly stands (does_answer answers) = stands_same stands answers.outstanding

  -- questions
  abbrev AreAsked : List Outgoing → Type 0
  AreAsked sends = Each (λ sent. IsRightlyAsked (new ++ older) (x ∷ taken) sent.body) sends

  plain_asked : (body : Body) → is_vote body ≡ false → IsRightlyAsked (new ++ older) (x ∷ taken) body
  plain_asked (Membership (ArbitReq number members who)) e = absurd (true≢false e)
  plain_asked body e = tt

  proposal_asked : (set : View) (lost : Option ℕ) → AreAsked (proposal_sends set lost)
  proposal_asked set None =
      each_mapped (λ sent. IsRightlyAsked (new ++ older) (x ∷ taken) sent.body) (request_of set) (members_of set)
      (λ member. tt)
  proposal_asked set (Some group) = ((λ some. absurd (omega arith)), tt)

  all_asked : (p : Proposal) (free : Bool) → IsSet p.view → IsHeardOf (new ++ older) (x ∷ taken) [] p.view p.joining
      → AreAsked (confirmed_all s.known p free).effects.sends
  all_asked p true is of = tt
  all_asked p false is of =
      ((λ some. record { set = p.view; number_is = refl; members_are = sym (all_members p.view is); of = of }), tt)

  one_asked : (p : Proposal) (awaited : List Member) → IsSet p.view
      → IsHeardOf (new ++ older) (x ∷ taken) awaited p.view p.joining
      → AreAsked (confirmed_one s.known p awaited).effects.sends
  one_asked p [] is of = all_asked p (needs_no_grant s.known p) is of
  one_asked p (member ∷ members) is of = tt

  asked : AreOrderlyEvents me layout events → Stands → Done → AreAsked effects.sends
  asked orderly stands (does_rest rests) =
      each_map _ _ effects.sends (λ sent plain. plain_asked sent.body plain) rests.sends
  asked orderly stands (does_propose one) = each_map _ _ effects.sends by one.sends
    where
      by : (sent : Outgoing) → IsPlain sent ⊎ IsIn sent (proposal_sends one.set one.lost)
          → IsRightlyAsked (new ++ older) (x ∷ taken) sent.body
      by sent (inl plain) = plain_asked sent.body plain
      by sent (inr is) =
          each_in (λ (y : Outgoing). IsRightlyAsked (new ++ older) (x ∷ taken) y.body) sent
          (proposal_sends one.set one.lost) (proposal_asked one.set one.lost) is
  asked orderly stands (does_hear h) =
      let of = (heard_of stands h).1 in
      let p = heard h.p x.member in
      subst (λ (y : Effects). AreAsked y.sends) (sym h.effects_are)
      (one_asked p p.awaited
      (subst IsSet of.is (proposed_set me layout events of.proposal orderly of.there))
      (heard_more new older (x ∷ taken) (x ∷ taken) p.awaited p.view p.joining (λ y is. is) of))
  asked orderly stands (does_settle settles) =
      subst (λ (y : Effects). AreAsked y.sends) (sym settles.effects_are) tt
  asked orderly stands (does_answer answers) =
      subst (λ (y : Effects). AreAsked y.sends) (sym answers.effects_are) (tt, tt)

  -- views that are settled on
  abbrev IsSettled : View → Type 0
  IsSettled view = IsRightlySettled layout older (x ∷ taken) x view

  abbrev AreSettled : List Mark → Type 0
  AreSettled marks = (view : View) → IsIn (Installed view) marks → IsSettled view

  none_settled : (marks : List Mark) → Each (λ mark. is_settling mark ≡ false) marks → AreSettled marks
  none_settled marks none view is =
      absurd (true≢false (each_in (λ (mark : Mark). is_settling mark ≡ false) (Installed view) marks none is))

  one_settled : (set : View) → IsSettled set → AreSettled (Installed set ∷ [])
  one_settled set right view (inl same) =
      let is : view ≡ set = cc in
      subst IsSettled (sym is) right
  one_settled set right view (inr none) = absurd none

  free_of : (p : Proposal) → needs_no_grant s.known p ≡ true
      → (of : IsHeardOf older (x ∷ taken) [] p.view p.joining)
      → NeedsNoGrant layout.shape of.proposal.change p.view
  free_of p e of =
      let tests = and_parts (not (is_some p.joining)) (whole_group s.known.layout.shape p.view) e in
      no_grant layout.shape of.proposal.change p.view (of.joining_is ∙ none_of p.joining tests.0)
      (subst (λ (shape : Shape). whole_group shape p.view ≡ true) (shape_is me layout events) tests.1)

  all_settled : (p : Proposal) (free : Bool) → needs_no_grant s.known p ≡ free
      → IsHeardOf older (x ∷ taken) [] p.view p.joining → AreSettled (confirmed_all s.known p free).effects.marks
  all_settled p true e of = one_settled p.view (record { joins = p.joining; of = of; free = inl (free_of p e of) })
  all_settled p false e of = λ view is. absurd is

  last_settled : (p : Proposal) (awaited : List Member) → IsHeardOf older (x ∷ taken) awaited p.view p.joining
      → AreSettled (confirmed_one s.known p awaited).effects.marks
  last_settled p [] of = all_settled p (needs_no_grant s.known p) refl of
  last_settled p (member ∷ members) of = λ view is. absurd is

  granted_of : (p : Proposal) → IsStanding older taken p → is_asked p ≡ true → not (is_some p.lost) ≡ true
      → IsHeardOf older (x ∷ taken) [] p.view p.joining
  granted_of p (inl parts) all none =
      subst (λ (xs : List Member). IsHeardOf older (x ∷ taken) xs p.view p.joining) (asked_all p.awaited all)
      (heard_more [] older taken (x ∷ taken) p.awaited p.view p.joining (λ y is. inr is) parts.1)
  granted_of p (inr lost) all none = absurd (not_both p.lost lost.0 (none_of p.lost none))

  settled_of : Stands → (g : Settles s.known l x.body effects) → IsSettled g.p.view
  settled_of stands g =
      let tests = three (g.p.view.number == g.number) (is_asked g.p) (not (is_some g.p.lost)) g.may in
      let same : g.p.view.number ≡ g.number = eqb-true g.p.view.number g.number tests.0 in
      record {
        joins = g.p.joining;
        of = granted_of g.p (subst (StandsIf older taken) g.is stands) tests.1 tests.2;
        free = inr (g.says ∙ ap (λ (n : ℕ). Membership (ArbitConf n)) (sym same));
      }

  settled : Stands → Done → AreSettled effects.marks
  settled stands (does_rest rests) = none_settled effects.marks rests.marks
  settled stands (does_propose one) = none_settled effects.marks one.marks
  settled stands (does_hear h) =
      let p = heard h.p x.member in
      subst (λ (y : Effects). AreSettled y.marks) (sym h.effects_are)
      (last_settled p p.awaited (heard_of stands h).1)
  settled stands (does_settle g) =
      subst (λ (y : Effects). AreSettled y.marks) (sym g.effects_are) (one_settled g.p.view (settled_of stands g))
  settled stands (does_answer answers) =
      subst (λ (y : Effects). AreSettled y.marks) (sym answers.effects_are)
      (none_settled (Promised answers.number ∷ []) (refl, tt))

-- along the events
outstanding_stands : (me : Member) (layout : Layout) (events : List Event) → AreOrderlyEvents me layout events
    → StandsIf (proposed_of me layout events) (taken_in events) (known_of me layout events).outstanding
outstanding_stands me layout [] orderly = tt
outstanding_stands me layout (takes x ∷ events) orderly =
    takes_stands me layout events x orderly
    (outstanding_stands me layout events (record { first = orderly.first; each = orderly.each.1 }))
    (done me layout events x)
outstanding_stands me layout (installs view ∷ events) orderly =
    let k = known_of me layout events in
    let older = proposed_of me layout events in
    let new = proposed_at k (installed_row k view).state.outstanding in
    let before = outstanding_stands me layout events (record { first = orderly.first; each = orderly.each.1 }) in
    subst (StandsIf (new ++ older) (taken_in events)) (sym (left_outstanding k view))
    (left_stands (new ++ older) (taken_in events) view k.outstanding
    (stands_more new older (taken_in events) (taken_in events) k.outstanding (λ y is. is) before))

pub ask_rightly : MembershipsAskRightly
ask_rightly me layout events orderly =
    let stands = outstanding_stands me layout events orderly in
    record {
      outstanding =
          open_of (proposed_of me layout events) (taken_in events) (known_of me layout events).outstanding stands;
      asked =
          λ x sent is.
          each_in
          (λ (y : Outgoing). IsRightlyAsked (proposed_of me layout (takes x ∷ events)) (x ∷ taken_in events) y.body)
          sent
          (qmgr_row (state_of me layout events) x).effects.sends
          (asked me layout events x orderly stands (done me layout events x)) is;
      settled = λ x view is. settled me layout events x stands (done me layout events x) view is;
    }
