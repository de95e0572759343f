-- Each epoch that follows has a number of 64 bits; so whatever a master takes it leads to no epoch beyond.
use Rattle.std.proofs.Common.{◌≡◌, ◌≤◌, ◌-◌, ◌^◌, ◌+◌, ◌*◌, ◌/◌, ◌%◌, ℕ, Bool, true, false, nat_lt, refl}
use Rattle.std.proofs.Common.{subst, arith}
use Rattle.std.proofs.lemmas.Bool.{ltb-true}
use Rattle.std.specs.Prelude.{if◌then◌else◌, None, Some, is_some}
use Rattle.sig_core.specs.declared.signal.Signal.{Signal}
use Rattle.sig_core.specs.Step.{Step}
use Rattle.gcp_master.specs.declared.known.Known.{Known}
use Rattle.gcp_master.specs.declared.known.Told.{Told}
use Rattle.gcp_master.specs.declared.numbers.TheConstants.{MICROS}
use Rattle.gcp_master.specs.declared.orders.Ended.TheVariants.{Micro}
use Rattle.gcp_master.specs.declared.phase.Asked.{Asked}
use Rattle.gcp_master.specs.declared.phase.Phase.{Phase}
use Rattle.gcp_master.specs.declared.phase.Phase.TheVariants.{Unordered, Gathering, Resting, Preparing, Committing}
use Rattle.gcp_master.specs.declared.phase.Phase.TheVariants.{Closing, Saving, Copying}
use Rattle.gcp_master.specs.Known.{nothing_known}
use Rattle.gcp_master.specs.Master.{master_row}
use Rattle.gcp_master.specs.Numbers.{next_global, next_micro}
use Rattle.gcp_master.specs.Resume.{knowing}
use Rattle.gcp_master.specs.Sends.{listing}
use Rattle.gcp_master.specs.State.{MasterState, at_phase}
use Rattle.gcp_master.proofs.Outcomes.{BeginOutcomes, Begins, Resumes, a_global, a_micro, at_durable, at_end, beginning}
use Rattle.gcp_master.proofs.Outcomes.{have_walked, heard_one, known_with, master_outcomes, not_owing, nothing_asked}
use Rattle.gcp_master.proofs.Outcomes.{state_body, to_commit, to_copy, to_prepare, voice_of}
use Rattle.gcp_master.proofs.Walk.{listing_state}

-- the greatest number of an epoch
abbrev pub top : ℕ
top = 2 ^ 64 - 1

micro_low : (epoch next : ℕ) → epoch ≤ top → next_micro epoch ≡ Some next → next ≤ top
micro_low epoch next low is = by (nat_lt (epoch % MICROS + 1) MICROS) refl is
  where
    by : (b : Bool) → nat_lt (epoch % MICROS + 1) MICROS ≡ b → (if b then Some (epoch + 1) else None) ≡ Some next
        → next ≤ top
    by true e f =
        let room = ltb-true (epoch % MICROS + 1) MICROS e in
        let one : epoch + 1 ≡ next = cc in
        omega (arith, one, low, room)
    by false e f = absurd cc

global_low : (epoch next : ℕ) → next_global epoch ≡ Some next → next ≤ top
global_low epoch next is = by (nat_lt (epoch / MICROS + 1) MICROS) refl is
  where
    by : (b : Bool) → nat_lt (epoch / MICROS + 1) MICROS ≡ b
        → (if b then Some ((epoch / MICROS + 1) * MICROS) else None) ≡ Some next → next ≤ top
    by true e f =
        let room = ltb-true (epoch / MICROS + 1) MICROS e in
        let one : (epoch / MICROS + 1) * MICROS ≡ next = cc in
        omega (arith, one, room)
    by false e f = absurd cc

-- the epoch to which a master leads has such a number
abbrev pub IsLow : Phase → Type 0
IsLow Unordered = Unit {0}
IsLow (Gathering known) = known.next ≤ top
IsLow (Resting epoch) = epoch ≤ top
IsLow (Preparing run) = run.next ≤ top
IsLow (Committing run) = run.next ≤ top
IsLow (Closing run) = run.next ≤ top
IsLow (Saving run) = run.next ≤ top
IsLow (Copying run) = run.next ≤ top

abbrev LeadsLow : Step MasterState → Type 0
LeadsLow step = IsLow step.state.phase

lists : (t : MasterState) (at : ℕ) → IsLow t.phase → LeadsLow (listing t at)
lists t at low = listing_state t at (λ (u : MasterState). IsLow u.phase) low low

begun : (s : MasterState) (current : ℕ) (phase : Phase) (asked : Asked) → current ≤ top
    → Begins s current phase asked → IsLow phase
begun s current _ _ low (a_global next for is) = global_low current next is
begun s current _ _ low (a_micro next none for is) = micro_low current next low is
begun s current _ _ low (nothing_asked none micro) = low

begins : (s : MasterState) (current : ℕ) (behind : Bool) → IsLow s.phase → current ≤ top
    → BeginOutcomes s current behind LeadsLow
begins s current behind was low = record {
  stops = λ spent. was;
  follows = λ phase asked is front. begun s current phase asked low is;
  begins = λ phase asked is front. lists (beginning s phase asked) 0 (begun s current phase asked low is);
}

resumes_low : (known : Known) (phase : Phase) → known.next ≤ top → Resumes known phase → IsLow phase
resumes_low known _ low (to_prepare less) = low
resumes_low known _ low (to_commit more) = low
resumes_low known _ low (to_copy more each) = low

-- what a master knows to follow is so when one more block has told
abbrev pub LearnsLow : MasterState → Signal → Type 0
LearnsLow s x =
    (known : Known) (t : Told) → x.body ≡ state_body t → s.phase ≡ Gathering known → known.next ≤ top
    → (known_with s (voice_of x) known t).next ≤ top

module _ (s : MasterState) (was : IsLow s.phase) (x : Signal) (learns : LearnsLow s x) where
  at_it : (phase : Phase) → s.phase ≡ phase → IsLow phase
  at_it phase at = subst IsLow at was

  knows : (known : Known) (t : Told) → x.body ≡ state_body t → s.phase ≡ Gathering known
      → (known_with s (voice_of x) known t).next ≤ top
  knows known t is at = learns known t is at (at_it (Gathering known) at)

  pub master_low : IsLow (master_row s x).state.phase
  master_low =
      master_outcomes s x LeadsLow (record {
        stays = was;
        goes_on = λ at is own low. lists s at was;
        asks = λ asked is. was;
        asks_resting = λ asked current is at.
            begins (record s { asked = asked }) current (is_some s.front) was (at_it (Resting current) at);
        is_ordered = λ is at. lists (at_phase s (Gathering nothing_known)) 0 (omega arith);
        learns = λ known t is at on some. knows known t is at;
        resumes = λ known t phase is at on all same to.
            lists (at_phase (knowing (heard_one s x) (known_with s (voice_of x) known t)) phase) 0
            (resumes_low (known_with s (voice_of x) known t) phase (knows known t is at) to);
        resumes_resting = λ known t is at on all most least.
            begins (knowing (heard_one s x) (known_with s (voice_of x) known t))
            (known_with s (voice_of x) known t).next false (knows known t is at) (knows known t is at);
        prepares = λ run is at on some. was;
        commits = λ run is at on all. lists (at_phase (heard_one s x) (Committing run)) 0 (at_it (Preparing run) at);
        finishes = λ run is at on some. was;
        closes = λ run is at on none all.
            lists (at_phase (heard_one s x) (Closing run)) 0 (at_it (Committing run) at);
        is_over = λ is. was;
        closes_over = λ run is at all. lists (at_phase (not_owing s) (Closing run)) 0 (at_it (Committing run) at);
        notes = λ run is at on some. was;
        goes_saving = λ run is at on all first.
            lists (at_phase (heard_one s x) (Saving run)) 0 (at_it (Closing run) at);
        ends_micro = λ run is at on all other.
            begins (at_end (heard_one s x) run (Micro run.epoch)) run.next false (at_it (Closing run) at)
            (at_it (Closing run) at);
        saves = λ run is at on some. was;
        goes_copying = λ run is at on all.
            lists (at_phase (heard_one s x) (Copying run)) 0 (at_it (Saving run) at);
        copies = λ run is at on some. was;
        ends_global = λ run is at on all.
            begins (at_durable (heard_one s x) run) run.next false (at_it (Copying run) at) (at_it (Copying run) at);
        walks = λ is at first. was;
        hears_walk = λ epoch is at on some. was;
        asks_walked = λ epoch is at on all. was;
        asks_walked_resting = λ epoch current is at on all rests.
            begins (have_walked s) current (is_some s.front) was (at_it (Resting current) rests);
        hears_switch = λ epoch is at on some. was;
        ends_local = λ epoch is at on all. was;
      })
