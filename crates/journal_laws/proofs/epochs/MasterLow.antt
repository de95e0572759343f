-- A master of checkpoints that knows only epochs that can be written orders only such.
use Rattle.std.proofs.Common.{ℕ, Bool, true, false, subst}
use Rattle.std.specs.Prelude.{◌==◌, if◌then◌else◌, nat_lt, is_some}
use Rattle.run_theory.specs.Lists.{Each}
use Rattle.sig_core.specs.declared.mark.Mark.{Mark}
use Rattle.sig_core.specs.declared.signal.Signal.{Signal}
use Rattle.sig_core.specs.Step.{Step}
use Rattle.gcp_master.specs.declared.known.Known.{Known}
use Rattle.gcp_master.specs.declared.known.Told.{Told}
use Rattle.gcp_master.specs.declared.orders.Ended.TheVariants.{Micro}
use Rattle.gcp_master.specs.declared.phase.Asked.{Asked}
use Rattle.gcp_master.specs.declared.phase.Phase.{Phase}
use Rattle.gcp_master.specs.declared.phase.Phase.TheVariants.{Unordered, Gathering, Resting, Preparing, Committing}
use Rattle.gcp_master.specs.declared.phase.Phase.TheVariants.{Closing, Saving, Copying}
use Rattle.gcp_master.specs.Known.{greater, learned_of_epochs, learned_of_rows, nothing_known}
use Rattle.gcp_master.specs.Master.{master_row}
use Rattle.gcp_master.specs.Resume.{knowing, learned_if}
use Rattle.gcp_master.specs.Sends.{listing}
use Rattle.gcp_master.specs.State.{MasterState, at_phase}
use Rattle.gcp_master.specs.Voices.{is_among}
use Rattle.gcp_master.proofs.Outcomes.{BeginOutcomes, Begins, Resumes, a_global, a_micro, at_end, beginning}
use Rattle.gcp_master.proofs.Outcomes.{have_walked, heard_one, known_with, master_outcomes, not_owing, nothing_asked}
use Rattle.gcp_master.proofs.Outcomes.{to_commit, to_copy, to_prepare, voice_of}
use Rattle.gcp_master.proofs.Walk.{listing_does, listing_state, walking_does}
use Rattle.journal_laws.proofs.epochs.Low.{IsLow, IsLowTold, TellsLow, next_global_low, next_micro_low, zero_low}

-- the epoch in which it rests, or that is to follow
abbrev pub PhaseLow : Phase → Type 0
PhaseLow Unordered = Unit {0}
PhaseLow (Gathering known) = IsLow known.next
PhaseLow (Resting current) = IsLow current
PhaseLow (Preparing run) = IsLow run.next
PhaseLow (Committing run) = IsLow run.next
PhaseLow (Closing run) = IsLow run.next
PhaseLow (Saving run) = IsLow run.next
PhaseLow (Copying run) = IsLow run.next

-- it stays so behind a step, which tells only such
abbrev GoesLow : Step MasterState → Type 0
GoesLow step = PhaseLow step.state.phase × Each TellsLow step.effects.sends

lists : (s : MasterState) (at : ℕ) → PhaseLow s.phase → GoesLow (listing s at)
lists s at low = (
  listing_state s at (λ t. PhaseLow t.phase) low low,
  (listing_does s at TellsLow (λ (mark : Mark). Unit {0}) (record {
    asks = λ known to member is one there. tt;
    prepares = λ run member is there. subst PhaseLow is low;
    commits = λ run member is there. subst PhaseLow is low;
    closes = λ run to member is one there. tt;
    saves = λ run member is there. tt;
    copies = λ run member is there. tt;
    tells_micro = λ epoch is. tt;
    tells_global = λ epoch copy local is. tt;
    tells_members = λ epoch copy local to member is one there. tt;
    tells_copying = λ epoch local is. tt;
    switches = λ epoch copy member is there. tt;
    goes_on = λ left. tt;
  })).0,
)

-- what begins behind an epoch
begins_low : (s : MasterState) (current : ℕ) → IsLow current → (phase : Phase) (asked : Asked)
    → Begins s current phase asked → PhaseLow phase
begins_low s current low _ _ (a_global next wanted is) = next_global_low current next is
begins_low s current low _ _ (a_micro next other wanted is) = next_micro_low current next low is
begins_low s current low _ _ (nothing_asked none nor) = low

begins : (s : MasterState) (current : ℕ) (behind : Bool) → PhaseLow s.phase → IsLow current
    → BeginOutcomes s current behind (λ step. GoesLow step)
begins s current behind own low = record {
  stops = λ spent. (own, tt);
  follows = λ phase asked is front. (begins_low s current low phase asked is, tt);
  begins = λ phase asked is front.
      lists (beginning s phase asked) 0 (begins_low s current low phase asked is);
}

-- what is known with what is told
greater_low : (one other : ℕ) → IsLow one → IsLow other → IsLow (greater one other)
greater_low one other low more = by (nat_lt one other)
  where
    by : (b : Bool) → IsLow (if b then other else one)
    by true = more
    by false = low

known_low : (known : Known) (told : Told) → IsLow known.next → IsLow told.next → (b : Bool)
    → IsLow (learned_if known told b).next
known_low known told low more false = low
known_low known told low more true = by (told.current == 0)
  where
    by : (b : Bool) → IsLow (if b then learned_of_rows known told else learned_of_epochs known told).next
    by true = low
    by false = greater_low known.next told.next low more

resumes_low : (known : Known) → IsLow known.next → (phase : Phase) → Resumes known phase → PhaseLow phase
resumes_low known low _ (to_prepare above) = low
resumes_low known low _ (to_commit most) = low
resumes_low known low _ (to_copy most least) = low

-- whatever it takes that tells only such
pub master_low : (s : MasterState) (x : Signal) → PhaseLow s.phase → IsLowTold x.body → GoesLow (master_row s x)
master_low s x low told =
    master_outcomes s x (λ step. GoesLow step) (record {
      stays = (low, tt);
      goes_on = λ at is own few. lists s at low;
      asks = λ asked is. (low, tt);
      asks_resting = λ asked current is at.
          begins (record s { asked = asked }) current (is_some s.front) low (subst PhaseLow at low);
      is_ordered = λ is at. lists (at_phase s (Gathering nothing_known)) 0 zero_low;
      learns = λ known t is at on some. (knows known t (subst PhaseLow at low) (subst IsLowTold is told), tt);
      resumes = λ known t phase is at on all same to.
          lists (at_phase (knowing (heard_one s x) (known_with s (voice_of x) known t)) phase) 0
          (resumes_low (known_with s (voice_of x) known t)
          (knows known t (subst PhaseLow at low) (subst IsLowTold is told)) phase to);
      resumes_resting = λ known t is at on all most least.
          let now = knows known t (subst PhaseLow at low) (subst IsLowTold is told) in
          begins (knowing (heard_one s x) (known_with s (voice_of x) known t))
          (known_with s (voice_of x) known t).next false now now;
      prepares = λ run is at on some. (low, tt);
      commits = λ run is at on all. lists (at_phase (heard_one s x) (Committing run)) 0 (subst PhaseLow at low);
      finishes = λ run is at on some. (low, tt);
      closes = λ run is at on none all. lists (at_phase (heard_one s x) (Closing run)) 0 (subst PhaseLow at low);
      is_over = λ is. (low, tt);
      closes_over = λ run is at all. lists (at_phase (not_owing s) (Closing run)) 0 (subst PhaseLow at low);
      notes = λ run is at on some. (low, tt);
      goes_saving = λ run is at on all first.
          lists (at_phase (heard_one s x) (Saving run)) 0 (subst PhaseLow at low);
      ends_micro = λ run is at on all other.
          begins (at_end (heard_one s x) run (Micro run.epoch)) run.next false (subst PhaseLow at low)
          (subst PhaseLow at low);
      saves = λ run is at on some. (low, tt);
      goes_copying = λ run is at on all. lists (at_phase (heard_one s x) (Copying run)) 0 (subst PhaseLow at low);
      copies = λ run is at on some. (low, tt);
      ends_global = λ run is at on all.
          let own : IsLow run.next = subst PhaseLow at low in
          record {
            stops = λ spent. (own, tt);
            follows = λ phase asked is front. (begins_low _ run.next own phase asked is, tt);
            begins = λ phase asked is front. lists _ 0 (begins_low _ run.next own phase asked is);
          };
      walks = λ is at first.
          (low, (walking_does s TellsLow (λ (mark : Mark). Unit {0}) (λ member there. tt)).0);
      hears_walk = λ epoch is at on some. (low, tt);
      asks_walked = λ epoch is at on all. (low, tt);
      asks_walked_resting = λ epoch current is at on all rests.
          begins (have_walked s) current (is_some s.front) low (subst PhaseLow rests low);
      hears_switch = λ epoch is at on some. (low, tt);
      ends_local = λ epoch is at on all. (low, (tt, tt));
    })
  where
    knows : (known : Known) (t : Told) → IsLow known.next → IsLow t.next
        → IsLow (known_with s (voice_of x) known t).next
    knows known t own more = known_low known t own more (is_among s.view.full (voice_of x).member)
