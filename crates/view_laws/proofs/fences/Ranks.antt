-- A promise that so many were asked for before isn't above the last one after as many.
use Rattle.std.proofs.Common.{◌≡◌, ◌⊎◌, ◌≤◌, ◌++◌, ℕ, Bool, true, false, nat_lt, List, [], ◌∷◌, refl, ap, sym, subst}
use Rattle.std.proofs.Common.{◌∙◌, arith, inl, inr}
use Rattle.std.proofs.lemmas.Bool.{ltb-true}
use Rattle.std.specs.Prelude.{if◌then◌else◌}
use Rattle.frag_map.specs.Layout.{Layout}
use Rattle.run_theory.specs.Lists.{IsPast}
use Rattle.run_theory.proofs.Pasts.{past_cases}
use Rattle.sig_core.specs.declared.member.Member.{Member}
use Rattle.sig_core.specs.declared.signal.Signal.{Signal}
use Rattle.sig_core.specs.declared.view.View.{View}
use Rattle.qmgr_block.specs.Laws.{Event, installs, takes}
use Rattle.qmgr_block.specs.Qmgr.{qmgr_row}
use Rattle.qmgr_block.specs.State.{QmgrState}
use Rattle.view_laws.specs.Members.{known_of, state_of}
use Rattle.view_laws.proofs.memberships.AlongEvents.{steps}
use Rattle.view_laws.proofs.fences.AskedAndConfirmed.{IsAskedAs, asked_of}
use Rattle.view_laws.proofs.memberships.Steps.{Asks, Stays, higher, row_installs}

-- of two older parts of a list one is an older part of the other
pub pasts_compare : {A : Type 0} (xs ys all : List A) → IsPast xs all → IsPast ys all → IsPast xs ys ⊎ IsPast ys xs
pasts_compare {A} xs ys all past other = by past.newer other.newer (sym past.is ∙ other.is)
  where
    by : (front back : List A) → front ++ xs ≡ back ++ ys → IsPast xs ys ⊎ IsPast ys xs
    by [] back same = inr (record { newer = back; is = same })
    by (x ∷ front) [] same = inl (record { newer = x ∷ front; is = sym same })
    by (x ∷ front) (y ∷ back) same = by front back (let rest : front ++ xs ≡ back ++ ys = cc in rest)

module _ (me : Member) (layout : Layout) where
  adopted_rises : (promised view : View) → promised.number
      ≤ (if nat_lt promised.number view.number then view else promised).number
  adopted_rises promised view = by (nat_lt promised.number view.number) refl
    where
      by : (b : Bool) → nat_lt promised.number view.number ≡ b → promised.number ≤ (if b then view else promised).number
      by true e = omega (arith, ltb-true promised.number view.number e)
      by false e = omega arith

  takes_rises : (s : QmgrState) (x : Signal) → s.known.promised.number ≤ (qmgr_row s x).state.known.promised.number
  takes_rises s x = by (steps s x).promise
    where
      by : Stays s (qmgr_row s x).state ⊎ Asks s (qmgr_row s x).state x.body
          → s.known.promised.number ≤ (qmgr_row s x).state.known.promised.number
      by (inl stays) = omega (arith, ap (λ (v : View). v.number) stays.promised)
      by (inr asks) =
          omega (arith, ap (λ (v : View). v.number) asks.promised, higher s.known asks.set asks.may)

  event_rises : (event : Event) (events : List Event)
      → (known_of me layout events).promised.number ≤ (known_of me layout (event ∷ events)).promised.number
  event_rises (takes x) events = takes_rises (state_of me layout events) x
  event_rises (installs view) events =
      subst (λ (v : View). (known_of me layout events).promised.number ≤ v.number)
      (sym (row_installs (known_of me layout events) view).promised)
      (adopted_rises (known_of me layout events).promised view)

  pub promises_rise : (newer events : List Event)
      → (known_of me layout events).promised.number ≤ (known_of me layout (newer ++ events)).promised.number
  promises_rise [] events = omega arith
  promises_rise (event ∷ newer) events = omega (arith, promises_rise newer events, event_rises event (newer ++ events))

  pub asked_more : (newer events : List Event) → asked_of me layout events ≤ asked_of me layout (newer ++ events)
  asked_more [] events = omega arith
  asked_more (event ∷ newer) events = omega (arith, asked_more newer events)

  pub rank_below : (events some : List Event) (number rank : ℕ) → IsAskedAs me layout events number rank
      → IsPast some events → rank ≤ asked_of me layout some → number ≤ (known_of me layout some).promised.number
  rank_below events some number rank one past many =
      by (pasts_compare (takes one.x ∷ one.older) some events one.past past)
    where
      number_at : (all : List Event) → IsPast (takes one.x ∷ one.older) all
          → number ≤ (known_of me layout all).promised.number
      number_at all before =
          subst (λ (es : List Event). number ≤ (known_of me layout es).promised.number) (sym before.is)
          (omega (arith, one.number_is, promises_rise before.newer (takes one.x ∷ one.older)))

      few_at : IsPast some one.older → ⊥
      few_at before =
          omega (arith, many, one.now, one.rank_is, asked_more before.newer some, ap (asked_of me layout) before.is)

      or : (takes one.x ∷ one.older ≡ some) ⊎ IsPast some one.older
          → number ≤ (known_of me layout some).promised.number
      or (inl is) = number_at some (record { newer = []; is = sym is })
      or (inr before) = absurd (few_at before)

      by : IsPast (takes one.x ∷ one.older) some ⊎ IsPast some (takes one.x ∷ one.older)
          → number ≤ (known_of me layout some).promised.number
      by (inl before) = number_at some before
      by (inr behind) = or (past_cases (takes one.x) behind)
