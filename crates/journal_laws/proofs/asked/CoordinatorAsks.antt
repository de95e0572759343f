-- A coordinator asks well for operations where it was asked well for them: its transactions have numbers that can be
-- written.
use Rattle.std.proofs.Common.{◌≡◌, ◌≤◌, ◌<◌, ◌-◌, ◌^◌, ◌==◌, ◌||◌, ℕ, Bool, true, false, ◌∷◌, refl, sym, ap}
use Rattle.std.proofs.Common.{◌∙◌, subst, arith}
use Rattle.std.proofs.lemmas.Bool.{leb-true, true≢false}
use Rattle.std.specs.Prelude.{nat_le, length}
use Rattle.run_theory.specs.Lists.{Each}
use Rattle.run_theory.proofs.Pasts.{each_after}
use Rattle.sig_core.specs.declared.mark.Mark.{Mark}
use Rattle.sig_core.specs.declared.member.Member.{Member}
use Rattle.sig_core.specs.declared.member.TxId.{TxId}
use Rattle.sig_core.specs.declared.signal.Signal.{Signal}
use Rattle.sig_core.specs.declared.view.View.{View}
use Rattle.sig_core.specs.Step.{Step}
use Rattle.tc_block.specs.declared.tc.TheConstants.{TRANSACTIONS}
use Rattle.tc_block.specs.declared.transaction.Transaction.{Transaction}
use Rattle.tc_block.specs.Tc.{is_full, next_tx}
use Rattle.tc_block.proofs.LiveSplit.{Split}
use Rattle.tc_block.proofs.TurnSends.{DriveSends, TurnSends}
use Rattle.tc_views.specs.Coordinator.{coordinator_row}
use Rattle.tc_views.specs.State.{CoordinatorState}
use Rattle.tc_views.specs.Views.{install_row}
use Rattle.tc_views.proofs.Walk.{coordinator_each, coordinator_installed_each}
use Rattle.outcome_laws.specs.Counts.{IsCoordinatorOf, coordinator_member, is_unborn}
use Rattle.outcome_laws.proofs.coordinators.BeginsAndAsks.{coordinator_of_installed, coordinator_of_stays}
use Rattle.request_laws.proofs.phases.Steps.{Walks, begins, coordinator_walks, passes, resumes, stays, turns}
use Rattle.journal_laws.proofs.asked.WellAsked.{AsksWell, FitsTx, IsWellAsked}

-- the last transaction that a member may ever begin, and one more
abbrev pub last_of : Member → TxId
last_of member = record { tc = member.node; start = member.start; seq = 2 ^ 64 - 1 }

-- The coordinator of a member whose start can be written, and which hasn't come to the end of its numbers.
pub record CoordinatorFits (s : CoordinatorState) : Type 0 where
  pub member : Member
  pub of : IsCoordinatorOf member s
  pub start : member.start < 2 ^ 32
  pub next : is_unborn s (last_of member) ≡ true

module _ (s : CoordinatorState) (fits : CoordinatorFits s) where
  fits_seq : (q n : ℕ) → q < n → n ≤ 2 ^ 64 - 1 → q < 2 ^ 64
  fits_seq q n below low = omega (arith, below, low)

  -- each of its transactions has such a number
  fits_tx : (tx : TxId) (t : Transaction) (at : ℕ) → Split tx t s.tc.live at → FitsTx tx
  fits_tx tx t at split =
      let is : coordinator_member tx ≡ fits.member =
      (each_after (λ (e : TxId × Transaction). coordinator_member e.0 ≡ fits.member) split.front
      ((tx, t) ∷ split.back)
      (subst (Each (λ (e : TxId × Transaction). coordinator_member e.0 ≡ fits.member)) split.is fits.of.own)).0 in
      let low : tx.seq < s.tc.next_seq =
      (each_after (λ (e : TxId × Transaction). e.0.seq < s.tc.next_seq) split.front ((tx, t) ∷ split.back)
      (subst (Each (λ (e : TxId × Transaction). e.0.seq < s.tc.next_seq)) split.is fits.of.begun)).0 in (
        subst (λ (m : Member). m.start < 2 ^ 32) (sym is) fits.start,
        fits_seq tx.seq s.tc.next_seq low (leb-true s.tc.next_seq (2 ^ 64 - 1) fits.next),
      )

  -- what it sends
  module _ (x : Signal) (asked : IsWellAsked x.body) where
    drives : (tx : TxId) (t : Transaction)
        → DriveSends s.tc.node s.tc.layout tx t x.body (λ turn sent. AsksWell sent)
    drives tx t = record {
      goes_on = λ turn left. tt;
      commits = λ turn epoch awaited has in_phase u there. tt;
      confirms = λ turn epoch has how. tt;
      completes = λ turn epoch awaited has in_phase u there written. tt;
      aborts = λ turn why verifying awaited is in_phase key r there. tt;
      leaves = λ turn over. tt;
      rolls_back = λ turn why is over. tt;
    }

    turns_ask : (tx : TxId) (t : Transaction) (at : ℕ) → Split tx t s.tc.live at
        → TurnSends s.tc.node s.tc.layout tx t x.body (λ turn sent. AsksWell sent)
    turns_ask tx t at split = record {
      drives = drives tx t;
      operates = λ op is can. (fits_tx tx t at split, subst IsWellAsked is asked);
      answers = λ key answer one is answers on. tt;
      waits = λ one is on r. tt;
      decides = λ is ready. tt;
    }

    sends_well : Each AsksWell (coordinator_row s x).effects.sends
    sends_well =
        (coordinator_each s x AsksWell (λ (mark : Mark). Unit {0}) (record {
          turns = turns_ask;
          resumes = λ tx t at split. drives tx t;
          full = λ name. tt;
          begins = λ name. tt;
          passes = λ tx ahead. tt;
          promises = tt;
          goes_on = λ node. tt;
        })).0

  -- it never comes to that transaction
  never_last : is_full s.tc ≡ false → next_tx s.tc ≡ last_of fits.member → ⊥
  never_last room same =
      let parts = or_none (nat_le TRANSACTIONS (length s.tc.live)) (s.tc.next_seq == 2 ^ 64 - 1) room in
      true≢false (sym (ap (λ (tx : TxId). tx.seq == 2 ^ 64 - 1) same ∙ refl) ∙ parts)
    where
      or_none : (a b : Bool) → (a || b) ≡ false → b ≡ false
      or_none true b is = absurd cc
      or_none false b is = is

  stays_unborn : (x : Signal) → is_unborn (coordinator_row s x).state (last_of fits.member) ≡ true
  stays_unborn x = by (coordinator_walks fits.member s fits.of (last_of fits.member) x)
    where
      same_next : (step : Step CoordinatorState) → step.state.tc.next_seq ≡ s.tc.next_seq
          → is_unborn step.state (last_of fits.member) ≡ true
      same_next step same = ap (λ n. nat_le n (2 ^ 64 - 1)) same ∙ fits.next

      by : Walks fits.member s x.view.number x.body (last_of fits.member) (coordinator_row s x)
          → is_unborn (coordinator_row s x).state (last_of fits.member) ≡ true
      by (stays entry unborn away) = unborn refl ∙ fits.next
      by (passes ahead about entry next sends) = same_next (coordinator_row s x) next
      by (begins name about room same none some next sends) = absurd (never_last room same)
      by (turns t entry takes about free then next sends) = same_next (coordinator_row s x) next
      by (resumes t verdict left at node entry about newer is_left then next sends) =
          same_next (coordinator_row s x) next

-- whatever it takes
pub coordinator_asks : (s : CoordinatorState) (x : Signal) → CoordinatorFits s → IsWellAsked x.body
    → CoordinatorFits (coordinator_row s x).state × Each AsksWell (coordinator_row s x).effects.sends
coordinator_asks s x fits asked = (
  record {
    member = fits.member;
    of = coordinator_of_stays fits.member s x fits.of;
    start = fits.start;
    next = stays_unborn s fits x;
  },
  sends_well s fits x asked,
)

-- and where a view is installed
installs_unborn : (s : CoordinatorState) (view : View) (tx : TxId)
    → is_unborn (install_row s view).state tx ≡ is_unborn s tx
unfolding install_row
installs_unborn s view tx = refl

pub coordinator_installs : (s : CoordinatorState) (view : View) → CoordinatorFits s
    → CoordinatorFits (install_row s view).state × Each AsksWell (install_row s view).effects.sends
coordinator_installs s view fits = (
  record {
    member = fits.member;
    of = coordinator_of_installed fits.member s view fits.of;
    start = fits.start;
    next = installs_unborn s view (last_of fits.member) ∙ fits.next;
  },
  (coordinator_installed_each s view AsksWell (λ (mark : Mark). Unit {0}) tt).0,
)
