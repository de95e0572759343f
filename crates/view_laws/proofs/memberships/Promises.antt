-- The promises of one membership, along its rows: each stands rightly behind the one before.
use Rattle.std.proofs.Common.{◌≡◌, ◌&&◌, ◌==◌, ◌⊎◌, Bool, true, false, not, nat_lt, List, [], ◌∷◌, ◌++◌, refl, ap, sym}
use Rattle.std.proofs.Common.{subst, ◌∙◌, inl, inr, append_assoc}
use Rattle.std.proofs.lemmas.Bool.{and_parts, eq-eqb, eqb-true, not-true, or_cases, true≢false}
use Rattle.std.specs.Prelude.{if◌then◌else◌}
use Rattle.frag_map.specs.Layout.{Layout}
use Rattle.run_theory.specs.Lists.{Each, IsIn}
use Rattle.run_theory.proofs.Pasts.{each_from, each_in, in_append}
use Rattle.sig_core.specs.declared.member.Member.{Member}
use Rattle.sig_core.specs.declared.signal.Signal.{Signal}
use Rattle.sig_core.specs.declared.view.View.{View}
use Rattle.qmgr_block.specs.declared.known.Known.{Known}
use Rattle.qmgr_block.specs.Laws.{Event, installs, takes}
use Rattle.qmgr_block.specs.Promise.{may_promise}
use Rattle.qmgr_block.specs.Qmgr.{qmgr_row}
use Rattle.qmgr_block.specs.Sets as sets
use Rattle.qmgr_block.specs.Sets.{are_same_parts, is_in, is_join, is_part, is_promotion, is_special, joined_view}
use Rattle.qmgr_block.specs.Sets.{members_of, with_member}
use Rattle.qmgr_block.specs.State.{QmgrState}
use Rattle.view_laws.specs.Ballots.{Promised}
use Rattle.view_laws.specs.Events.{AreOrderlyEvents, IsSet, IsSound}
use Rattle.view_laws.specs.Kept.{AreBehind, EachPromiseIsAskedFor, IsAsked, IsAskedBehind, IsBehind, IsGrown}
use Rattle.view_laws.specs.Kept.{IsGrownOfSome, IsInstalled, IsLast, PromisesStandBehindOneAnother}
use Rattle.view_laws.specs.Members.{installed_of, is_adopted, known_of, promises_of, state_of}
use Rattle.view_laws.specs.Sets.{AreApart, IsApart, IsMadeOf, IsPart, all_of, joins, promotes}
use Rattle.view_laws.proofs.ballots.ApartNodes.{all_members, parts_apart}
use Rattle.view_laws.proofs.memberships.AlongEvents.{have_risen, steps}
use Rattle.view_laws.proofs.ballots.Found.{found}
use Rattle.view_laws.proofs.memberships.SetTests.{HasParts, among_in, cut, part_is, parts_are, promoted_made, with_in}
use Rattle.view_laws.proofs.memberships.Steps.{Asks, Stays, row_installs}

-- who isn't in a view is of none of its members
outside : (view : View) (member : Member) → IsSet view → not (is_in view member) ≡ true → IsIn member (all_of view) → ⊥
outside view member is out there =
    let among = among_in (members_of view) member (subst (IsIn member) (sym (all_members view is)) there) in
    true≢false (sym among ∙ not-true (is_in view member) out)

-- who joins a set that is apart is of another node than its members
last_apart : (xs : List Member) (y : Member) → AreApart (xs ++ y ∷ []) → Each (IsApart y) xs
last_apart xs y apart =
    let parts = parts_apart xs (y ∷ []) apart in
    each_from _ xs (λ x is same. (each_in _ x xs parts.both is).0 (sym same))

joined_parts : (view set : View) (member : Member) → sets.joins view set member ≡ true
    → (not (is_in view member) ≡ true) × HasParts set view.full (with_member view.starting member)
unfolding joined_view
joined_parts view set member e =
    let parts =
    and_parts (not (is_in view member)) (are_same_parts set (joined_view view set.number member)) e in
    (parts.0, parts_are set (joined_view view set.number member) parts.1)

joined_allowed : (view set : View) (member : Member) → IsSet view → IsSet set → IsIn member set.starting
    → not (is_in view member) ≡ true → HasParts set view.full (with_member view.starting member)
    → (with_member view.starting member ≡ view.starting ++ member ∷ [])
    ⊎ ((z : Member) → IsIn z (with_member view.starting member) → IsIn z view.starting)
    → Each (IsApart member) (all_of view)
joined_allowed view set member is right there out parts (inl whole) =
    last_apart (all_of view) member
    (subst AreApart
    (ap (λ (xs : List Member). xs ++ set.starting) parts.full_is
    ∙ ap (λ (xs : List Member). view.full ++ xs) (parts.starting_is ∙ whole)
    ∙ sym (append_assoc view.full view.starting (member ∷ [])))
    right.apart)
joined_allowed view set member is right there out parts (inr less) =
    absurd (outside view member is out
    (in_append member view.full view.starting (less member (subst (IsIn member) parts.starting_is there))))

joined_made : (view set : View) (member : Member) → IsSet view → IsSet set → IsIn member set.starting
    → sets.joins view set member ≡ true → IsMadeOf view (joins member) set
joined_made view set member is right there e =
    let parts = joined_parts view set member e in
    record {
      allowed = joined_allowed view set member is right there parts.0 parts.1 (cut 8 view.starting member);
      full = each_from _ set.full (λ one there. inl (subst (IsIn one) parts.1.full_is there));
      starting =
          each_from _ set.starting
          (λ one there. with_in view.starting member one (subst (IsIn one) parts.1.starting_is there));
    }

-- a join or a promotion of the view has grown from it
grown_if : (view last set : View) → IsSet view → IsSet set → view.number ≡ last.number
    → (is_join view set ≡ true) ⊎ (is_promotion view set ≡ true) → IsGrown view last set
unfolding is_join is_promotion
grown_if view last set is right number (inl e) =
    let one = found (sets.joins view set) set.starting e in
    record {
      number = number;
      change = joins one.member;
      grows = tt;
      made = joined_made view set one.member is right one.there one.passes;
    }
grown_if view last set is right number (inr e) =
    let one = found (sets.promotes view set) set.full e in
    record {
      number = number;
      change = promotes one.member;
      grows = tt;
      made = promoted_made view set one.member one.passes;
    }

asked_if : (k : Known) (set : View) → IsSet k.layout.view → IsSet set
    → (is_part k.promised set ≡ true)
    ⊎ ((is_special k.layout.view set && (k.promised.number == k.layout.view.number)) ≡ true)
    → IsPart k.promised set ⊎ IsGrown k.layout.view k.promised set
unfolding is_special
asked_if k set is right (inl e) = inl (part_is k.promised set e)
asked_if k set is right (inr e) =
    let parts = and_parts (is_special k.layout.view set) (k.promised.number == k.layout.view.number) e in
    inr (grown_if k.layout.view k.promised set is right
    (sym (eqb-true k.promised.number k.layout.view.number parts.1))
    (or_cases (is_join k.layout.view set) (is_promotion k.layout.view set) parts.0))

asked : (k : Known) (set : View) → IsSet k.layout.view → IsSet set → may_promise k set ≡ true
    → IsPart k.promised set ⊎ IsGrown k.layout.view k.promised set
unfolding may_promise
asked k set is right e =
    asked_if k set is right (or_cases _ _ (and_parts (nat_lt k.promised.number set.number) _ e).1)

-- the installed view is a set of members that are apart
pub view_set : (me : Member) (layout : Layout) (events : List Event) → AreOrderlyEvents me layout events
    → IsSet (known_of me layout events).layout.view
view_set me layout [] orderly = orderly.first
view_set me layout (takes x ∷ events) orderly =
    subst (λ (y : Layout). IsSet y.view) (sym (steps (state_of me layout events) x).layout)
    (view_set me layout events (record { first = orderly.first; each = orderly.each.1 }))
view_set me layout (installs view ∷ events) orderly =
    subst (λ (y : Layout). IsSet y.view) (sym (row_installs (known_of me layout events) view).layout) orderly.each.0

asks_rightly : (me : Member) (s : QmgrState) (x : Signal) → IsSet s.known.layout.view → IsSound me x.body
    → Stays s (qmgr_row s x).state ⊎ Asks s (qmgr_row s x).state x.body
    → ((qmgr_row s x).state.known.promised ≡ s.known.promised)
    ⊎ IsAsked me s.known.layout.view s.known.promised (qmgr_row s x).state.known.promised
asks_rightly me s x is sound (inl stays) = inl stays.promised
asks_rightly me s x is sound (inr asks) =
    let right : IsSet asks.set × IsIn me (all_of asks.set) = subst (IsSound me) asks.is sound in
    inr (subst (IsAsked me s.known.layout.view s.known.promised) (sym asks.promised)
    (record { member_in = right.1; from = asked s.known asks.set is right.0 asks.may }))

pub each_asked : EachPromiseIsAskedFor
each_asked me layout events x orderly =
    let s = state_of me layout events in
    asks_rightly me s x
    (view_set me layout events (record { first = orderly.first; each = orderly.each.1 })) orderly.each.0
    (steps s x).promise

-- more views that were installed
grown_more : (views more : List View) (last set : View) → ((view : View) → IsIn view views → IsIn view more)
    → IsPart last set ⊎ IsGrownOfSome views last set → IsPart last set ⊎ IsGrownOfSome more last set
grown_more views more last set in_more (inl part) = inl part
grown_more views more last set in_more (inr grown) =
    inr (record { base = grown.base; installed = in_more grown.base grown.installed; grown = grown.grown })

one_more : (me : Member) (views more : List View) (last set : View) (adopted : Bool)
    → ((view : View) → IsIn view views → IsIn view more) → IsBehind me views last set adopted
    → IsBehind me more last set adopted
one_more me views more last set true in_more behind = in_more set behind
one_more me views more last set false in_more behind =
    record { member_in = behind.member_in; from = grown_more views more last set in_more behind.from }

behind_more : (me : Member) (views more : List View) (promises : List Promised)
    → ((view : View) → IsIn view views → IsIn view more) → AreBehind me views promises → AreBehind me more promises
behind_more me views more [] in_more behind = tt
behind_more me views more (promise ∷ []) in_more behind = in_more promise.set behind
behind_more me views more (promise ∷ last ∷ older) in_more behind = (
  one_more me views more last.set promise.set promise.adopted in_more behind.0,
  behind_more me views more (last ∷ older) in_more behind.1,
)

pub views_more : (layout : Layout) (event : Event) (events : List Event) (view : View)
    → IsIn view (installed_of layout events) → IsIn view (installed_of layout (event ∷ events))
views_more layout (takes x) events view is = is
views_more layout (installs one) events view is = inr is

-- one promise more, where the last one has another number
behind_one : (me : Member) (views : List View) (event : Event) (before now : View) (older : List Promised)
    → IsLast before older → IsBehind me views before now (is_adopted event) → AreBehind me views older
    → AreBehind me views (record { set = now; adopted = is_adopted event } ∷ older)
behind_one me views event before now [] last behind others = absurd last
behind_one me views event before now (promise ∷ older) last behind others =
    (subst (λ (set : View). IsBehind me views set now (is_adopted event)) last behind, others)

behind_if : (me : Member) (views : List View) (event : Event) (before now : View) (older : List Promised) (same : Bool)
    → (before.number == now.number) ≡ same → (now ≡ before) ⊎ IsBehind me views before now (is_adopted event)
    → IsLast before older → AreBehind me views older
    → AreBehind me views ((if same then [] else record { set = now; adopted = is_adopted event } ∷ []) ++ older)
behind_if me views event before now older true e stands last others = others
behind_if me views event before now older false e (inl is) last others =
    absurd (true≢false (sym (eq-eqb before.number now.number (ap (λ (v : View). v.number) (sym is))) ∙ e))
behind_if me views event before now older false e (inr behind) last others =
    behind_one me views event before now older last behind others

pub in_installed : (view : View) (views : List View) → IsInstalled view views → IsIn view views
in_installed view [] is = absurd is
in_installed view (newest ∷ older) is = inl is

behind_of : (me : Member) (views : List View) (view last now : View) → IsIn view views → IsAsked me view last now
    → IsAskedBehind me views last now
behind_of me views view last now is one = record { member_in = one.member_in; from = by one.from }
  where
    by : IsPart last now ⊎ IsGrown view last now → IsPart last now ⊎ IsGrownOfSome views last now
    by (inl part) = inl part
    by (inr grown) = inr (record { base = view; installed = is; grown = grown })

stands_asked : (me : Member) (views : List View) (view last now : View) → IsIn view views
    → (now ≡ last) ⊎ IsAsked me view last now → (now ≡ last) ⊎ IsBehind me views last now false
stands_asked me views view last now is (inl same) = inl same
stands_asked me views view last now is (inr one) = inr (behind_of me views view last now is one)

adopted_stands : (promised view : View) (views : List View) (less : Bool)
    → ((if less then view else promised) ≡ promised) ⊎ IsIn (if less then view else promised) (view ∷ views)
adopted_stands promised view views true = inr (inl refl)
adopted_stands promised view views false = inl refl

stands : (me : Member) (layout : Layout) (event : Event) (events : List Event)
    → AreOrderlyEvents me layout (event ∷ events)
    → ((known_of me layout (event ∷ events)).promised ≡ (known_of me layout events).promised)
    ⊎ IsBehind me (installed_of layout (event ∷ events)) (known_of me layout events).promised
    (known_of me layout (event ∷ events)).promised (is_adopted event)
stands me layout (takes x) events orderly =
    stands_asked me (installed_of layout events) (known_of me layout events).layout.view _ _
    (in_installed _ _ (have_risen me layout events).installed) (each_asked me layout events x orderly)
stands me layout (installs view) events orderly =
    let k = known_of me layout events in
    subst (λ (now : View). (now ≡ k.promised) ⊎ IsIn now (view ∷ installed_of layout events))
    (sym (row_installs k view).promised)
    (adopted_stands k.promised view (installed_of layout events) (nat_lt k.promised.number view.number))

pub stand_behind : PromisesStandBehindOneAnother
stand_behind me layout [] orderly = inl refl
stand_behind me layout (event ∷ events) orderly =
    let before = known_of me layout events in
    let now = known_of me layout (event ∷ events) in
    behind_if me (installed_of layout (event ∷ events)) event before.promised now.promised
    (promises_of me layout events) (before.promised.number == now.promised.number) refl
    (stands me layout event events orderly) (have_risen me layout events).last
    (behind_more me (installed_of layout events) (installed_of layout (event ∷ events)) (promises_of me layout events)
    (views_more layout event events)
    (stand_behind me layout events (record { first = orderly.first; each = orderly.each.1 })))
