-- One membership along its events: the numbers of its promises rise, and what it confirms it had promised.
use Rattle.std.proofs.Common.{◌≡◌, ◌≤◌, ◌<◌, ◌==◌, ◌⊎◌, ℕ, Bool, true, false, nat_lt, List, [], ◌∷◌, ◌++◌, map, refl}
use Rattle.std.proofs.Common.{ap, sym, subst, ◌∙◌, arith, inl, inr}
use Rattle.std.proofs.lemmas.Bool.{eq-eqb, eqb-true, ltb-true, ltb-false, true≢false}
use Rattle.std.specs.Prelude.{if◌then◌else◌}
use Rattle.frag_map.specs.Layout.{Layout}
use Rattle.run_theory.specs.Lists.{Each, IsIn}
use Rattle.run_theory.proofs.Pasts.{each_append, each_map, in_append}
use Rattle.sig_core.specs.declared.signal.Signal.{Signal}
use Rattle.sig_core.specs.declared.view.View.{View}
use Rattle.qmgr_block.specs.declared.promise.Promise.{Promise}
use Rattle.qmgr_block.specs.Install.{adopted, installed_row}
use Rattle.qmgr_block.specs.Laws.{Event, after, installs, takes}
use Rattle.qmgr_block.specs.Qmgr.{qmgr_row}
use Rattle.qmgr_block.specs.State.{QmgrState}
use Rattle.view_laws.specs.Ballots.{Promised}
use Rattle.view_laws.specs.Kept.{AreOfPromises, AreRising, HaveRisen, IsInstalled, IsLast, IsNumberAsked, PromisesRise}
use Rattle.view_laws.specs.Kept.{WhatIsConfirmedWasPromised}
use Rattle.view_laws.specs.Members.{confirmed_by, confirmed_of, effects_at, installed_of, is_adopted, promised_at}
use Rattle.view_laws.specs.Members.{promises_of, state_of}
use Rattle.view_laws.proofs.memberships.Steps.{Asks, HasNumber, Stays, Steps, higher, row_installs, row_steps}

-- what a signal does
pub steps : (s : QmgrState) (x : Signal) → Steps s x.body (qmgr_row s x)
steps s x = row_steps s x

-- the last promise is as before, or has a greater number
abbrev pub Rises : View → View → Type 0
Rises before now = (now ≡ before) ⊎ (before.number < now.number)

adopted_rises : (promised view : View) (less : Bool) → nat_lt promised.number view.number ≡ less
    → Rises promised (if less then view else promised)
adopted_rises promised view true e = inr (ltb-true promised.number view.number e)
adopted_rises promised view false e = inl refl

asks_rises : (s : QmgrState) (x : Signal) (asks : Asks s (qmgr_row s x).state x.body)
    → s.known.promised.number < (qmgr_row s x).state.known.promised.number
asks_rises s x asks =
    subst (λ (now : View). s.known.promised.number < now.number) (sym asks.promised) (higher s.known asks.set asks.may)

event_rises : (s : QmgrState) (event : Event) → Rises s.known.promised (after s event).known.promised
event_rises s (takes x) = by (steps s x).promise
  where
    by : Stays s (qmgr_row s x).state ⊎ Asks s (qmgr_row s x).state x.body
        → Rises s.known.promised (qmgr_row s x).state.known.promised
    by (inl stays) = inl stays.promised
    by (inr asks) = inr (asks_rises s x asks)
event_rises s (installs view) =
    subst (Rises s.known.promised) (sym (row_installs s.known view).promised)
    (adopted_rises s.known.promised view (nat_lt s.known.promised.number view.number) refl)

-- the numbers of promises
abbrev pub promise_number : Promised → ℕ
promise_number promise = promise.set.number

rising_more : (number : ℕ) (before : View) (older : List Promised) → before.number < number → IsLast before older
    → AreRising (map promise_number older) → AreRising (number ∷ map promise_number older)
rising_more number before [] above last rising = absurd last
rising_more number before (promise ∷ older) above last rising =
    (subst (λ (set : View). set.number < number) last above, rising)

last_of : (before now : View) (older : List Promised) → now ≡ before → IsLast before older → IsLast now older
last_of before now [] same last = last
last_of before now (promise ∷ older) same last = same ∙ last

-- promises with those of one more event
record Risen (now : View) (promises : List Promised) : Type 0 where
  rising : AreRising (map promise_number promises)
  last : IsLast now promises

risen_if : (event : Event) (before now : View) (older : List Promised) (same : Bool)
    → (before.number == now.number) ≡ same → Rises before now → Risen before older
    → Risen now ((if same then [] else record { set = now; adopted = is_adopted event } ∷ []) ++ older)
risen_if event before now older true e (inl is) risen =
    record { rising = risen.rising; last = last_of before now older is risen.last }
risen_if event before now older true e (inr above) risen =
    let equal : before.number ≡ now.number = eqb-true before.number now.number e in
    absurd (omega arith)
risen_if event before now older false e (inl is) risen =
    absurd (true≢false (sym (eq-eqb before.number now.number (ap (λ (v : View). v.number) (sym is))) ∙ e))
risen_if event before now older false e (inr above) risen =
    record { rising = rising_more now.number before older above risen.last risen.rising; last = refl }

-- the installed view
installed_on : (view now : View) (views : List View) → now ≡ view → IsInstalled view views → IsInstalled now views
installed_on view now [] same is = is
installed_on view now (newest ∷ older) same is = same ∙ is

event_installed : (s : QmgrState) (layout : Layout) (event : Event) (events : List Event)
    → IsInstalled s.known.layout.view (installed_of layout events)
    → IsInstalled (after s event).known.layout.view (installed_of layout (event ∷ events))
event_installed s layout (takes x) events is =
    installed_on s.known.layout.view _ (installed_of layout events) (ap (λ (y : Layout). y.view) (steps s x).layout) is
event_installed s layout (installs view) events is = ap (λ (y : Layout). y.view) (row_installs s.known view).layout

rises_up : (before now : View) → Rises before now → before.number ≤ now.number
rises_up before now (inl same) =
    let equal : now.number ≡ before.number = ap (λ (v : View). v.number) same in
    omega arith
rises_up before now (inr above) = omega arith

adopted_high : (promised view : View) (less : Bool) → nat_lt promised.number view.number ≡ less
    → view.number ≤ (if less then view else promised).number
adopted_high promised view true e = omega arith
adopted_high promised view false e = ltb-false promised.number view.number e

event_below : (s : QmgrState) (event : Event) → s.known.layout.view.number ≤ s.known.promised.number
    → (after s event).known.layout.view.number ≤ (after s event).known.promised.number
event_below s (takes x) below =
    let up : s.known.promised.number ≤ (after s (takes x)).known.promised.number =
    rises_up s.known.promised _ (event_rises s (takes x)) in
    let same : (after s (takes x)).known.layout.view.number ≡ s.known.layout.view.number =
    ap (λ (y : Layout). y.view.number) (steps s x).layout in
    omega arith
event_below s (installs view) below =
    let row = row_installs s.known view in
    let high : view.number ≤ (adopted s.known.promised view).number =
    adopted_high s.known.promised view (nat_lt s.known.promised.number view.number) refl in
    let promised : (after s (installs view)).known.promised.number ≡ (adopted s.known.promised view).number =
    ap (λ (v : View). v.number) row.promised in
    let installed : (after s (installs view)).known.layout.view.number ≡ view.number =
    ap (λ (y : Layout). y.view.number) row.layout in
    omega arith

pub have_risen : PromisesRise
have_risen me layout [] = record { rising = tt; last = refl; installed = refl; below = omega arith }
have_risen me layout (event ∷ events) = by (have_risen me layout events)
  where
    s : QmgrState
    s = state_of me layout events

    by : HaveRisen me layout events → HaveRisen me layout (event ∷ events)
    by before =
        let now = (after s event).known.promised in
        let risen =
        risen_if event s.known.promised now (promises_of me layout events) (s.known.promised.number == now.number) refl
        (event_rises s event) (record { rising = before.rising; last = before.last }) in
        record {
          rising = risen.rising;
          last = risen.last;
          installed = event_installed s layout event events before.installed;
          below = event_below s event before.below;
        }

-- a promise of a greater number stands among all promises
promised_if : (event : Event) (before now : View) (older : List Promised) (same : Bool)
    → (before.number == now.number) ≡ same → before.number < now.number
    → IsIn (record { set = now; adopted = is_adopted event })
    ((if same then [] else record { set = now; adopted = is_adopted event } ∷ []) ++ older)
promised_if event before now older true e above =
    let equal : before.number ≡ now.number = eqb-true before.number now.number e in
    absurd (omega arith)
promised_if event before now older false e above = inl refl

-- numbers that were asked for
asked_more : (new older : List Promised) (number : ℕ) → IsNumberAsked older number → IsNumberAsked (new ++ older) number
asked_more new older number asked =
    record { set = asked.set; there = in_append _ new older asked.there; has = asked.has }

asked_of : (promises : List Promised) (waiting : List Promise) (number : ℕ) → HasNumber waiting number
    → Each (λ promise. IsNumberAsked promises promise.number) waiting → IsNumberAsked promises number
asked_of promises [] number has all = absurd has
asked_of promises (promise ∷ waiting) number (inl same) all = subst (IsNumberAsked promises) (sym same) all.0
asked_of promises (promise ∷ waiting) number (inr has) all = asked_of promises waiting number has all.1

waiting_stays : (new older : List Promised) (before now : List Promise)
    → Each (λ promise. HasNumber before promise.number) now
    → Each (λ promise. IsNumberAsked older promise.number) before
    → Each (λ promise. IsNumberAsked (new ++ older) promise.number) now
waiting_stays new older before now has all =
    each_map _ _ now
    (λ promise one. asked_more new older promise.number (asked_of older before promise.number one all)) has

event_confirmed : (s : QmgrState) (event : Event) (new older : List Promised)
    → Each (λ promise. IsNumberAsked older promise.number) s.promises
    → Each (IsNumberAsked (new ++ older)) (confirmed_by (effects_at s event).marks)
unfolding installed_row
event_confirmed s (takes x) new older all =
    each_map _ _ (confirmed_by (qmgr_row s x).effects.marks)
    (λ number has. asked_more new older number (asked_of older s.promises number has all))
    (steps s x).confirmed
event_confirmed s (installs view) new older all = tt

event_waiting : (s : QmgrState) (event : Event) (older : List Promised)
    → Each (λ promise. IsNumberAsked older promise.number) s.promises
    → Each (λ promise. IsNumberAsked
    (promised_at event s.known.promised (after s event).known.promised ++ older) promise.number)
    (after s event).promises
event_waiting s (takes x) older all = by (steps s x).promise
  where
    new : List Promised
    new = promised_at (takes x) s.known.promised (qmgr_row s x).state.known.promised

    by : Stays s (qmgr_row s x).state ⊎ Asks s (qmgr_row s x).state x.body
        → Each (λ promise. IsNumberAsked (new ++ older) promise.number) (qmgr_row s x).state.promises
    by (inl stays) = waiting_stays new older s.promises _ stays.waiting all
    by (inr asks) =
        let now = (qmgr_row s x).state.known.promised in
        subst (Each (λ (promise : Promise). IsNumberAsked (new ++ older) promise.number)) (sym asks.waiting)
        (each_append _ s.promises _
        (each_map _ _ s.promises (λ promise one. asked_more new older promise.number one) all) (
          record {
            set = now;
            there =
                promised_if (takes x) s.known.promised now older (s.known.promised.number == now.number) refl
                (asks_rises s x asks);
            has = ap (λ (v : View). v.number) asks.promised;
          },
          tt,
        ))
event_waiting s (installs view) older all =
    each_map _ _ s.promises (λ promise one. asked_more _ older promise.number one) all

pub are_of_promises : WhatIsConfirmedWasPromised
are_of_promises me layout [] = record { confirmed = tt; waiting = tt }
are_of_promises me layout (event ∷ events) = by (are_of_promises me layout events)
  where
    s : QmgrState
    s = state_of me layout events

    by : AreOfPromises me layout events → AreOfPromises me layout (event ∷ events)
    by before =
        let older = promises_of me layout events in
        let new = promised_at event s.known.promised (after s event).known.promised in
        record {
          confirmed =
              each_append _ (confirmed_by (effects_at s event).marks) (confirmed_of me layout events)
              (event_confirmed s event new older before.waiting)
              (each_map _ _ (confirmed_of me layout events) (λ number one. asked_more new older number one)
              before.confirmed);
          waiting = event_waiting s event older before.waiting;
        }
