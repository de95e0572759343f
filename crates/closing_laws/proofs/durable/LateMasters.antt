-- A master that has the end of an epoch noted, saves it, or writes the system file, has marked it closed, or knew it
-- when it resumed.
use Rattle.std.proofs.Common.{◌≡◌, ◌⊎◌, ℕ, Bool, true, false, List, refl, subst, inl, inr}
use Rattle.std.specs.Prelude.{is_some}
use Rattle.run_theory.specs.Lists.{IsIn}
use Rattle.sig_core.specs.declared.mark.Mark.{Mark}
use Rattle.sig_core.specs.declared.mark.Mark.TheVariants.{Closed, Durable}
use Rattle.sig_core.specs.declared.signal.Signal.{Signal}
use Rattle.sig_core.specs.Step.{Step, stay}
use Rattle.gcp_master.specs.declared.known.Known.{Known}
use Rattle.gcp_master.specs.declared.known.Told.{Told}
use Rattle.gcp_master.specs.declared.orders.Ended.TheVariants.{Micro}
use Rattle.gcp_master.specs.declared.phase.Asked.{Asked}
use Rattle.gcp_master.specs.declared.phase.Phase.{Phase}
use Rattle.gcp_master.specs.declared.phase.Phase.TheVariants.{Gathering, Committing, Closing, Saving, Copying}
use Rattle.gcp_master.specs.declared.phase.Run.{Run}
use Rattle.gcp_master.specs.Known.{last_run, learned, nothing_known, resumed}
use Rattle.gcp_master.specs.Master.{master_row}
use Rattle.gcp_master.specs.Resume.{knowing, learned_if}
use Rattle.gcp_master.specs.Sends.{listing, marking}
use Rattle.gcp_master.specs.State.{MasterState, at_phase}
use Rattle.gcp_master.specs.Voices.{is_among}
use Rattle.gcp_master.proofs.Outcomes.{BeginOutcomes, Begins, Resumes, a_global, a_micro, at_durable, at_end, beginning}
use Rattle.gcp_master.proofs.Outcomes.{have_walked, heard_local, heard_one, known_with, master_outcomes, not_owing}
use Rattle.gcp_master.proofs.Outcomes.{nothing_asked, stopping, telling_local, to_commit, to_copy, to_prepare, walking}
use Rattle.gcp_master.proofs.Outcomes.{voice_of}
use Rattle.gcp_master.proofs.Walk.{listing_state}
use Rattle.epoch_laws.proofs.MasterMoves.{state_body}

-- what is so of the epoch of a run that is closed, and of what a master knows that asks
abbrev pub IsGood : (ℕ → Type 0) → (Known → Type 0) → Phase → Type 0
IsGood Late Knows (Gathering known) = Knows known
IsGood Late Knows (Closing run) = Late run.epoch
IsGood Late Knows (Saving run) = Late run.epoch
IsGood Late Knows (Copying run) = Late run.epoch
IsGood Late Knows phase = Unit {0}

module _ (Late : ℕ → Type 0) (Knows : Known → Type 0) where
  abbrev Good : Phase → Type 0
  Good phase = IsGood Late Knows phase

  -- or it is marked
  abbrev pub LateOrMarked : List Mark → ℕ → Type 0
  LateOrMarked marks epoch = Late epoch ⊎ IsIn (Closed epoch) marks

  abbrev Now : Step MasterState → Type 0
  Now step = IsGood (LateOrMarked step.effects.marks) Knows step.state.phase

  unmarked : (step : Step MasterState) → Good step.state.phase → Now step
  unmarked step good = by step.state.phase good
    where
      by : (phase : Phase) → Good phase → IsGood (LateOrMarked step.effects.marks) Knows phase
      by (Gathering known) good = good
      by (Closing run) good = inl good
      by (Saving run) good = inl good
      by (Copying run) good = inl good
      by _ good = tt

  listed : (s : MasterState) (at : ℕ) → Good s.phase → Good (listing s at).state.phase
  listed s at good = listing_state s at (λ t. Good t.phase) good good

  lists : (s : MasterState) (at : ℕ) → Good s.phase → Now (listing s at)
  lists s at good = unmarked (listing s at) (listed s at good)

  begun_good : (s : MasterState) (current : ℕ) (phase : Phase) (asked : Asked) → Begins s current phase asked
      → Good phase
  begun_good s current _ _ (a_global next for is) = tt
  begun_good s current _ _ (a_micro next none for is) = tt
  begun_good s current _ _ (nothing_asked none micro) = tt

  begins : (s : MasterState) (current : ℕ) (behind : Bool) → Good s.phase → BeginOutcomes s current behind Now
  begins s current behind good = record {
    stops = λ spent. unmarked (stopping s) good;
    follows = λ phase asked is front.
        unmarked (stay (beginning s phase asked)) (begun_good s current phase asked is);
    begins = λ phase asked is front. lists (beginning s phase asked) 0 (begun_good s current phase asked is);
  }

  -- a run that is closed is marked so
  marked : (run : Run) (s : MasterState) → Now (marking (Closed run.epoch) (listing (at_phase s (Closing run)) 0))
  marked run s =
      listing_state (at_phase s (Closing run)) 0
      (λ t. IsGood (LateOrMarked (marking (Closed run.epoch) (listing (at_phase s (Closing run)) 0)).effects.marks)
      Knows t.phase)
      (inr (inl refl)) (inr (inl refl))

  ends_durable : (run : Run) (s : MasterState) → Good s.phase
      → BeginOutcomes s run.next false (λ step. Now (marking (Durable run.epoch) step))
  ends_durable run s good = record {
    stops = λ spent. unmarked (marking (Durable run.epoch) (stopping s)) good;
    follows = λ phase asked is front.
        unmarked (marking (Durable run.epoch) (stay (beginning s phase asked)))
        (begun_good s run.next phase asked is);
    begins = λ phase asked is front.
        unmarked (marking (Durable run.epoch) (listing (beginning s phase asked) 0))
        (listed (beginning s phase asked) 0 (begun_good s run.next phase asked is));
  }

  -- what is known at first, what is learned, and where a master goes on with the system file
  module _ (nothing : Knows nothing_known)
      (copies : (known : Known) (run : Run) → Knows known → resumed known ≡ Copying run → Late run.epoch)
      (s : MasterState) (was : Good s.phase) (x : Signal)
      (learns : (t : Told) → x.body ≡ state_body t → (known : Known) → Knows known → Knows (learned known t))
    where
      knows : (known : Known) (t : Told) → x.body ≡ state_body t → s.phase ≡ Gathering known
          → Knows (known_with s (voice_of x) known t)
      knows known t is at = by (is_among s.view.full x.member)
        where
          here : Knows known
          here = subst Good at was

          by : (b : Bool) → Knows (learned_if known t b)
          by true = learns t is known here
          by false = here

      went_good : (known : Known) (phase : Phase) → Knows known → resumed known ≡ phase → Resumes known phase
          → Good phase
      went_good known _ knows same (to_prepare less) = tt
      went_good known _ knows same (to_commit more) = tt
      went_good known _ knows same (to_copy more all) = copies known (last_run known) knows same

      late : (phase : Phase) → s.phase ≡ phase → Good phase
      late phase at = subst Good at was

      goes : Now (master_row s x)
      goes =
          master_outcomes s x Now (record {
            stays = unmarked (stay s) was;
            goes_on = λ at is own low. lists s at was;
            asks = λ asked is. unmarked (stay (record s { asked = asked })) was;
            asks_resting = λ asked current is at. begins (record s { asked = asked }) current (is_some s.front) was;
            is_ordered = λ is at. lists (at_phase s (Gathering nothing_known)) 0 nothing;
            learns = λ known t is at on some.
                unmarked (stay (knowing (heard_one s x) (known_with s (voice_of x) known t))) (knows known t is at);
            resumes = λ known t phase is at on all same to.
                lists (at_phase (knowing (heard_one s x) (known_with s (voice_of x) known t)) phase) 0
                (went_good (known_with s (voice_of x) known t) phase (knows known t is at) same to);
            resumes_resting = λ known t is at on all most least.
                begins (knowing (heard_one s x) (known_with s (voice_of x) known t))
                (known_with s (voice_of x) known t).next false (knows known t is at);
            prepares = λ run is at on some. unmarked (stay (heard_one s x)) was;
            commits = λ run is at on all. lists (at_phase (heard_one s x) (Committing run)) 0 tt;
            finishes = λ run is at on some. unmarked (stay (heard_one s x)) was;
            closes = λ run is at on none all. marked run (heard_one s x);
            is_over = λ is. unmarked (stay (not_owing s)) was;
            closes_over = λ run is at all. marked run (not_owing s);
            notes = λ run is at on some. unmarked (stay (heard_one s x)) was;
            goes_saving = λ run is at on all first.
                lists (at_phase (heard_one s x) (Saving run)) 0 (late (Closing run) at);
            ends_micro = λ run is at on all other.
                begins (at_end (heard_one s x) run (Micro run.epoch)) run.next false tt;
            saves = λ run is at on some. unmarked (stay (heard_one s x)) was;
            goes_copying = λ run is at on all.
                lists (at_phase (heard_one s x) (Copying run)) 0 (late (Saving run) at);
            copies = λ run is at on some. unmarked (stay (heard_one s x)) was;
            ends_global = λ run is at on all.
                ends_durable run (at_durable (heard_one s x) run) tt;
            walks = λ is at first. unmarked (walking s) was;
            hears_walk = λ epoch is at on some. unmarked (stay (heard_local s x)) was;
            asks_walked = λ epoch is at on all. unmarked (stay (have_walked s)) was;
            asks_walked_resting = λ epoch current is at on all rests.
                begins (have_walked s) current (is_some s.front) was;
            hears_switch = λ epoch is at on some. unmarked (stay (heard_local s x)) was;
            ends_local = λ epoch is at on all. unmarked (telling_local s epoch) was;
          })

-- whatever it takes
pub master_lates : (Late : ℕ → Type 0) (Knows : Known → Type 0) → Knows nothing_known
    → ((known : Known) (run : Run) → Knows known → resumed known ≡ Copying run → Late run.epoch) → (s : MasterState)
    → IsGood Late Knows s.phase → (x : Signal)
    → ((t : Told) → x.body ≡ state_body t → (known : Known) → Knows known → Knows (learned known t))
    → IsGood (LateOrMarked Late Knows (master_row s x).effects.marks) Knows (master_row s x).state.phase
master_lates Late Knows nothing copies s was x learns = goes Late Knows nothing copies s was x learns
