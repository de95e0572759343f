-- What a confirmation of a fence does to the promises that wait, and how many were asked for up to each of them.
use Rattle.std.proofs.Common.{◌≡◌, ◌≤◌, ◌+◌, ◌∙◌, ℕ, suc, Bool, true, false, List, [], ◌∷◌, length, refl, ap, sym}
use Rattle.std.proofs.Common.{subst, arith}
use Rattle.std.specs.Prelude.{if◌then◌else◌, Option, None, Some, position, slice_get}
use Rattle.sig_core.proofs.Firsts.{first-drop, first-get, first-set, drop_by, get_by, set_by, set_first}
use Rattle.sig_core.specs.declared.mark.Mark.{Mark}
use Rattle.sig_core.specs.Firsts.{drop_first, first}
use Rattle.sig_core.specs.Step.{Step}
use Rattle.qmgr_block.specs.declared.promise.Promise.{Promise}
use Rattle.qmgr_block.specs.Promise.{confirmed_at, confirmed_if, confirmed_place, fence_row, is_fenced, is_ldm, less}
use Rattle.qmgr_block.specs.Promise.{waits_for}
use Rattle.qmgr_block.specs.State.{QmgrState}
use Rattle.view_laws.specs.Members.{confirmed_by}
use Rattle.view_laws.proofs.fences.WaitInOrder.{behind}
use Rattle.view_laws.proofs.memberships.Steps.{less_number}

-- what a confirmation of a fence does to the promises that wait
pub data Confirms (b : Bool) (before now : List Promise) (marks : List Mark) : Type 0 where
  stays : now ≡ before → confirmed_by marks ≡ [] → Confirms b before now marks
  lessens : (p : Promise) → first (waits_for b) before ≡ Some p
      → now ≡ set_first (waits_for b) (less b p) before → confirmed_by marks ≡ [] → Confirms b before now marks
  confirms : (p : Promise) → first (waits_for b) before ≡ Some p → is_fenced (less b p) ≡ true
      → now ≡ drop_first (waits_for b) before → confirmed_by marks ≡ p.number ∷ [] → Confirms b before now marks

module _ (s : QmgrState) (b : Bool) where
  abbrev ConfirmsAt : Step QmgrState → Type 0
  ConfirmsAt step = Confirms b s.promises step.state.promises step.effects.marks

  if_confirms : (at : ℕ) (p : Promise) (all : Bool) → is_fenced (less b p) ≡ all
      → position (waits_for b) s.promises ≡ Some at → first (waits_for b) s.promises ≡ Some p
      → ConfirmsAt (confirmed_if s at (less b p) all)
  if_confirms at p true e place is =
      confirms p is e
      (sym (ap (drop_by s.promises) place) ∙ first-drop (waits_for b) s.promises)
      (ap (λ n. n ∷ []) (less_number b p))
  if_confirms at p false e place is =
      lessens p is
      (sym (ap (set_by (less b p) s.promises) place) ∙ first-set (waits_for b) (less b p) s.promises) refl

  at_confirms : (at : ℕ) (o : Option Promise) → slice_get s.promises at ≡ o
      → position (waits_for b) s.promises ≡ Some at → ConfirmsAt (confirmed_at s b at o)
  at_confirms at None e place = stays refl refl
  at_confirms at (Some p) e place =
      if_confirms at p (is_fenced (less b p)) refl place
      (sym (first-get (waits_for b) s.promises) ∙ ap (get_by s.promises) place ∙ e)

  place_confirms : (o : Option ℕ) → position (waits_for b) s.promises ≡ o → ConfirmsAt (confirmed_place s b o)
  place_confirms None place = stays refl refl
  place_confirms (Some at) place = at_confirms at (slice_get s.promises at) refl place

pub row_confirms : (s : QmgrState) (host : ℕ) → ConfirmsAt s (is_ldm host) (fence_row s host)
unfolding fence_row
row_confirms s host = place_confirms s (is_ldm host) (position (waits_for (is_ldm host)) s.promises) refl

-- a promise of this number has a rank, with which so many stand behind it
pub record HasRank (IsOfRank : ℕ → ℕ → Type 0) (asked number later : ℕ) : Type 0 where
  pub rank : ℕ
  pub is : IsOfRank number rank
  pub low : rank + later ≤ asked

-- each of these promises has one: how many were asked for up to it
abbrev pub AreRanked : (ℕ → ℕ → Type 0) → ℕ → List Promise → Type 0
AreRanked R asked [] = Unit {0}
AreRanked R asked (p ∷ ps) = HasRank R asked p.number (length ps) × AreRanked R asked ps

module _ (R : ℕ → ℕ → Type 0) (asked : ℕ) where
  fewer_rank : (number one other : ℕ) → other ≤ one → HasRank R asked number one → HasRank R asked number other
  fewer_rank number one other few has =
      record { rank = has.rank; is = has.is; low = omega (arith, has.low, few) }

  set_length : (b : Bool) (p : Promise) (ps : List Promise) → length (set_first (waits_for b) p ps) ≡ length ps
  set_length b p [] = refl
  set_length b p (q ∷ ps) = by (waits_for b q) (set_length b p ps)
    where
      by : (w : Bool) → length (set_first (waits_for b) p ps) ≡ length ps
          → length (if w then p ∷ ps else q ∷ set_first (waits_for b) p ps) ≡ suc (length ps)
      by true later = refl
      by false later = ap suc later

  drop_length : (b : Bool) (ps : List Promise) → length (drop_first (waits_for b) ps) ≤ length ps
  drop_length b [] = omega arith
  drop_length b (q ∷ ps) = by (waits_for b q) (drop_length b ps)
    where
      by : (w : Bool) → length (drop_first (waits_for b) ps) ≤ length ps
          → length (if w then ps else q ∷ drop_first (waits_for b) ps) ≤ suc (length ps)
      by true later = omega arith
      by false later = omega (arith, later)

  pub set_ranked : (b : Bool) (p : Promise) (ps : List Promise) → first (waits_for b) ps ≡ Some p
      → AreRanked R asked ps → AreRanked R asked (set_first (waits_for b) (less b p) ps)
  set_ranked b p [] is ranked = tt
  set_ranked b p (q ∷ ps) is ranked = by (waits_for b q) is (set_ranked b p ps)
    where
      by : (w : Bool) → (if w then Some q else first (waits_for b) ps) ≡ Some p
          → (first (waits_for b) ps ≡ Some p → AreRanked R asked ps
          → AreRanked R asked (set_first (waits_for b) (less b p) ps))
          → AreRanked R asked (if w then less b p ∷ ps else q ∷ set_first (waits_for b) (less b p) ps)
      by true is later =
          let one : q ≡ p = cc in (
            subst (λ number. HasRank R asked number (length ps))
                (ap (λ (r : Promise). r.number) one ∙ sym (less_number b p)) ranked.0,
            ranked.1,
          )
      by false is later = (
        fewer_rank q.number (length ps) (length (set_first (waits_for b) (less b p) ps))
            (omega (arith, set_length b (less b p) ps)) ranked.0,
        later is ranked.1,
      )

  pub drop_ranked : (b : Bool) (ps : List Promise) → AreRanked R asked ps
      → AreRanked R asked (drop_first (waits_for b) ps)
  drop_ranked b [] ranked = tt
  drop_ranked b (q ∷ ps) ranked = by (waits_for b q) (drop_ranked b ps ranked.1)
    where
      by : (w : Bool) → AreRanked R asked (drop_first (waits_for b) ps)
          → AreRanked R asked (if w then ps else q ∷ drop_first (waits_for b) ps)
      by true later = ranked.1
      by false later =
          (fewer_rank q.number (length ps) (length (drop_first (waits_for b) ps)) (drop_length b ps) ranked.0, later)

  -- that of the first that waits
  pub first_rank : (b : Bool) (p : Promise) (ps : List Promise) → first (waits_for b) ps ≡ Some p
      → AreRanked R asked ps → HasRank R asked p.number (behind b ps)
  first_rank b p [] is ranked = absurd cc
  first_rank b p (q ∷ ps) is ranked = by (waits_for b q) is (first_rank b p ps)
    where
      by : (w : Bool) → (if w then Some q else first (waits_for b) ps) ≡ Some p
          → (first (waits_for b) ps ≡ Some p → AreRanked R asked ps → HasRank R asked p.number (behind b ps))
          → HasRank R asked p.number (if w then length ps else behind b ps)
      by true is later =
          let one : q ≡ p = cc in
          subst (λ (r : Promise). HasRank R asked r.number (length ps)) one ranked.0
      by false is later = later is ranked.1
