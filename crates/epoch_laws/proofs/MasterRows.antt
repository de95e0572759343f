-- What each signal makes of a master.
use Rattle.std.proofs.Common.{◌≡◌, ◌<◌, ◌+◌, ◌*◌, ◌/◌, ◌%◌, ℕ, Bool, true, false, not, nat_lt, [], length, refl, sym}
use Rattle.std.proofs.Common.{subst, arith}
use Rattle.std.proofs.lemmas.Bool.{and_parts, not-true}
use Rattle.std.specs.Prelude.{if◌then◌else◌, None, Some, is_some}
use Rattle.sig_core.specs.declared.signal.Signal.{Signal}
use Rattle.sig_core.specs.Step.{Step}
use Rattle.gcp_master.specs.declared.known.Known.{Known}
use Rattle.gcp_master.specs.declared.numbers.TheConstants.{MICROS}
use Rattle.gcp_master.specs.declared.orders.Ended.TheVariants.{Micro}
use Rattle.gcp_master.specs.declared.phase.Asked.{Asked}
use Rattle.gcp_master.specs.declared.phase.Phase.{Phase}
use Rattle.gcp_master.specs.declared.phase.Phase.TheVariants.{Gathering, Resting, Committing, Closing, Saving, Copying}
use Rattle.gcp_master.specs.declared.phase.Run.{Run}
use Rattle.gcp_master.specs.declared.voices.TheConstants.{VOICES}
use Rattle.gcp_master.specs.declared.voices.Voice.{Voice}
use Rattle.gcp_master.specs.Known.{nothing_known}
use Rattle.gcp_master.specs.Master.{master_row}
use Rattle.gcp_master.specs.Numbers.{next_global, next_micro}
use Rattle.gcp_master.specs.Resume.{knowing}
use Rattle.gcp_master.specs.Sends.{entering, listing}
use Rattle.gcp_master.specs.State.{MasterState, at_phase, counts}
use Rattle.gcp_master.specs.Voices.{is_heard, is_in}
use Rattle.gcp_master.proofs.Outcomes.{BeginOutcomes, Begins, Resumes, a_global, a_micro, at_durable, at_end, beginning}
use Rattle.gcp_master.proofs.Outcomes.{have_walked, heard_one, master_outcomes, not_owing, nothing_asked, to_commit}
use Rattle.gcp_master.proofs.Outcomes.{to_copy, to_prepare, voice_of}
use Rattle.gcp_master.proofs.Walk.{all_heard, listing_state}
use Rattle.epoch_laws.proofs.MasterMoves.{BeginsFrom, GoesOn, Goes, IsLate, IsNew, Moved, known_with}
use Rattle.epoch_laws.proofs.MasterMoves.{from_commit, from_copy, from_prepare, with_none}
use Rattle.epoch_laws.proofs.MasterMoves.{closes, closes_owed, commits, ends, goes_late, hears_finished, hears_prepared}
use Rattle.epoch_laws.proofs.MasterMoves.{is_ordered, learns, resumes, stays, takes_up}

-- a confirmation that counts is new
new_voice : (s : MasterState) (v : Voice) → counts s v ≡ true → IsNew s v
unfolding counts
new_voice s v e =
    let parts = and_parts (is_in s.view v.member) _ e in
    let unheard = and_parts (not (is_heard s.voices v)) (nat_lt (length s.voices) VOICES) parts.1 in
    record { inside = parts.0; new = not-true _ unheard.0 }

-- each epoch that follows is greater
pub micro_rises : (epoch next : ℕ) → next_micro epoch ≡ Some next → epoch < next
micro_rises epoch next is = by (nat_lt (epoch % MICROS + 1) MICROS) is
  where
    by : (b : Bool) → (if b then Some (epoch + 1) else None) ≡ Some next → epoch < next
    by true e = let one : epoch + 1 ≡ next = cc in omega (arith, one)
    by false e = absurd cc

pub global_rises : (epoch next : ℕ) → next_global epoch ≡ Some next → epoch < next
global_rises epoch next is = by (nat_lt (epoch / MICROS + 1) MICROS) is
  where
    above : epoch < (epoch / MICROS + 1) * MICROS
    above = omega arith

    by : (b : Bool) → (if b then Some ((epoch / MICROS + 1) * MICROS) else None) ≡ Some next → epoch < next
    by true e = let one : (epoch / MICROS + 1) * MICROS ≡ next = cc in subst (λ n. epoch < n) one above
    by false e = absurd cc

begins_from : (s : MasterState) (current : ℕ) (phase : Phase) (asked : Asked) → Begins s current phase asked
    → BeginsFrom current phase
begins_from s current _ _ (a_global next for is) = (refl, global_rises current next is)
begins_from s current _ _ (a_micro next none for is) = (refl, micro_rises current next is)
begins_from s current _ _ (nothing_asked none micro) = refl

went_on : (known : Known) (phase : Phase) → Resumes known phase → GoesOn known phase
went_on known _ (to_prepare less) = from_prepare less refl
went_on known _ (to_commit more) = from_commit more refl
went_on known _ (to_copy more all) = from_copy more all refl

module _ (s : MasterState) (x : Signal) where
  abbrev IsSo : Step MasterState → Type 0
  IsSo step = Goes s (voice_of x) x.body step.state

  abbrev MovedTo : Phase → Type 0
  MovedTo phase = Moved s (voice_of x) x.body phase []

  -- the state of a step is that one, but for whom is left to tell
  listed : (t : MasterState) (at : ℕ) → Goes s (voice_of x) x.body t → IsSo (listing t at)
  listed t at goes =
      listing_state t at (Goes s (voice_of x) x.body) goes
      (record { member = goes.member; view = goes.view; moved = goes.moved })

  enters : (t : MasterState) (phase : Phase) → t.member ≡ s.member → t.view ≡ s.view → MovedTo phase
      → IsSo (entering t phase)
  enters t phase member view moved =
      listed (at_phase t phase) 0 (record { member = member; view = view; moved = moved })

  -- it begins what is asked for, or the numbers of epochs are used up
  begins : (t : MasterState) (current : ℕ) (behind : Bool) → t.member ≡ s.member → t.view ≡ s.view
      → Moved s (voice_of x) x.body t.phase t.voices
      → ((phase : Phase) → BeginsFrom current phase → MovedTo phase) → BeginOutcomes t current behind IsSo
  begins t current behind member view spent moves = record {
    stops = λ used. record { member = member; view = view; moved = spent };
    follows = λ phase asked is front.
        record { member = member; view = view; moved = moves phase (begins_from t current phase asked is) };
    begins = λ phase asked is front.
        listed (beginning t phase asked) 0
        (record { member = member; view = view; moved = moves phase (begins_from t current phase asked is) });
  }

  -- a late phase goes on
  is_late : (run : Run) (phase : Phase) → s.phase ≡ phase → IsLate run phase → IsLate run s.phase
  is_late run phase at late = subst (IsLate run) (sym at) late

  goes_so : IsSo (master_row s x)
  goes_so =
      master_outcomes s x IsSo (record {
        stays = record { member = refl; view = refl; moved = stays refl refl };
        goes_on = λ at is own low. listed s at (record { member = refl; view = refl; moved = stays refl refl });
        asks = λ asked is. record { member = refl; view = refl; moved = stays refl refl };
        asks_resting = λ asked current is at.
            begins (record s { asked = asked }) current (is_some s.front) refl refl (stays refl refl)
            (λ phase begun. takes_up current at begun refl);
        is_ordered = λ is at. enters s (Gathering nothing_known) refl refl (is_ordered is at refl refl);
        learns = λ known t is at on some. record {
          member = refl;
          view = refl;
          moved = learns known t is at (new_voice s (voice_of x) on) refl refl;
        };
        resumes = λ known t phase is at on all same to.
            enters (knowing (heard_one s x) (known_with s (voice_of x) known t)) phase refl refl
            (resumes known t is at (new_voice s (voice_of x) on) (all_heard 2 (heard_one s x) all)
            (went_on (known_with s (voice_of x) known t) phase to) refl);
        resumes_resting = λ known t is at on all most least.
            begins (knowing (heard_one s x) (known_with s (voice_of x) known t))
            (known_with s (voice_of x) known t).next false refl refl
            (learns known t is at (new_voice s (voice_of x) on) refl refl)
            (λ phase begun. resumes known t is at (new_voice s (voice_of x) on) (all_heard 2 (heard_one s x) all)
            (with_none most least begun) refl);
        prepares = λ run is at on some. record {
          member = refl;
          view = refl;
          moved = hears_prepared run is at (new_voice s (voice_of x) on) at refl;
        };
        commits = λ run is at on all.
            enters (heard_one s x) (Committing run) refl refl
            (commits run is at (new_voice s (voice_of x) on) (all_heard 1 (heard_one s x) all) refl refl);
        finishes = λ run is at on some. record {
          member = refl;
          view = refl;
          moved = hears_finished run is at (new_voice s (voice_of x) on) at refl;
        };
        closes = λ run is at on none all.
            enters (heard_one s x) (Closing run) refl refl
            (closes run is at (new_voice s (voice_of x) on) (all_heard 1 (heard_one s x) all) refl refl);
        is_over = λ is. record { member = refl; view = refl; moved = stays refl refl };
        closes_over = λ run is at all.
            enters (not_owing s) (Closing run) refl refl (closes_owed run at (all_heard 1 (not_owing s) all) refl refl);
        notes = λ run is at on some. late run (Closing run) at refl;
        goes_saving = λ run is at on all first.
            enters (heard_one s x) (Saving run) refl refl (goes_late run (is_late run (Closing run) at refl) refl);
        ends_micro = λ run is at on all other.
            ended run (Closing run) at refl (at_end (heard_one s x) run (Micro run.epoch)) refl refl refl refl;
        saves = λ run is at on some. late run (Saving run) at refl;
        goes_copying = λ run is at on all.
            enters (heard_one s x) (Copying run) refl refl (goes_late run (is_late run (Saving run) at refl) refl);
        copies = λ run is at on some. late run (Copying run) at refl;
        ends_global = λ run is at on all.
            ended run (Copying run) at refl (at_durable (heard_one s x) run) refl refl refl refl;
        walks = λ is at first. record { member = refl; view = refl; moved = stays refl refl };
        hears_walk = λ epoch is at on some. record { member = refl; view = refl; moved = stays refl refl };
        asks_walked = λ epoch is at on all. record { member = refl; view = refl; moved = stays refl refl };
        asks_walked_resting = λ epoch current is at on all rests.
            begins (have_walked s) current (is_some s.front) refl refl (stays refl refl)
            (λ phase begun. takes_up current rests begun refl);
        hears_switch = λ epoch is at on some. record { member = refl; view = refl; moved = stays refl refl };
        ends_local = λ epoch is at on all. record { member = refl; view = refl; moved = stays refl refl };
      })
    where
      late : (run : Run) (phase : Phase) → s.phase ≡ phase → IsLate run phase
          → Goes s (voice_of x) x.body (heard_one s x)
      late run phase at is = record {
        member = refl;
        view = refl;
        moved = goes_late run (is_late run phase at is) (is_late run phase at is);
      }

      ended : (run : Run) (phase : Phase) → s.phase ≡ phase → IsLate run phase → (t : MasterState)
          → t.member ≡ s.member → t.view ≡ s.view → t.phase ≡ Resting run.next → t.voices ≡ []
          → BeginOutcomes t run.next false IsSo
      ended run phase at is t member view rests heard =
          begins t run.next false member view
          (subst (λ p. Moved s (voice_of x) x.body p t.voices) (sym rests)
          (ends run (is_late run phase at is) refl heard))
          (λ p begun. ends run (is_late run phase at is) begun refl)

-- whatever a master takes
pub master_goes : (s : MasterState) (x : Signal) → Goes s (voice_of x) x.body (master_row s x).state
master_goes s x = goes_so s x
