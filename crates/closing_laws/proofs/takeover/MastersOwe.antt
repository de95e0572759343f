-- A master owes a takeover until it takes the end of one.
use Rattle.std.proofs.Common.{◌≡◌, ◌⊎◌, ℕ, Bool, true, false, refl, inl, inr}
use Rattle.std.specs.Prelude.{is_some}
use Rattle.sig_core.specs.declared.signal.Body.TheVariants.{Takeover}
use Rattle.sig_core.specs.declared.signal.Signal.{Signal}
use Rattle.sig_core.specs.declared.signal.takeover.TakeoverSignal.TheVariants.{TakeoverEnd}
use Rattle.sig_core.specs.declared.view.View.{View}
use Rattle.sig_core.specs.Step.{Step}
use Rattle.gcp_master.specs.Master.{master_row}
use Rattle.gcp_master.specs.Resume.{in_view}
use Rattle.gcp_master.specs.Sends.{listing}
use Rattle.gcp_master.specs.State.{MasterState}
use Rattle.gcp_master.proofs.Outcomes.{BeginOutcomes, have_walked, master_outcomes}
use Rattle.gcp_master.proofs.Walk.{listing_state}

module _ (s : MasterState) (x : Signal) where
  -- it takes an end, or owes as before
  abbrev Owes : Step MasterState → Type 0
  Owes step = (x.body ≡ Takeover TakeoverEnd) ⊎ (step.state.owed ≡ s.owed)

  lists : (t : MasterState) (at : ℕ) → t.owed ≡ s.owed → Owes (listing t at)
  lists t at is = inr (listing_state t at (λ now. now.owed ≡ s.owed) is is)

  begins : (t : MasterState) (current : ℕ) (behind : Bool) → t.owed ≡ s.owed → BeginOutcomes t current behind Owes
  begins t current behind is = record {
    stops = λ spent. inr is;
    follows = λ phase asked begun front. inr is;
    begins = λ phase asked begun front. lists _ 0 is;
  }

  -- whatever a master takes but an end
  pub master_owes : (x.body ≡ Takeover TakeoverEnd) ⊎ ((master_row s x).state.owed ≡ s.owed)
  master_owes =
      master_outcomes s x Owes (record {
        stays = inr refl;
        goes_on = λ at is own low. lists s at refl;
        asks = λ asked is. inr refl;
        asks_resting = λ asked current is at. begins (record s { asked = asked }) current (is_some s.front) refl;
        is_ordered = λ is at. lists _ 0 refl;
        learns = λ known t is at on some. inr refl;
        resumes = λ known t phase is at on all same to. lists _ 0 refl;
        resumes_resting = λ known t is at on all most least. begins _ _ false refl;
        prepares = λ run is at on some. inr refl;
        commits = λ run is at on all. lists _ 0 refl;
        finishes = λ run is at on some. inr refl;
        closes = λ run is at on none all. lists _ 0 refl;
        is_over = λ is. inl is;
        closes_over = λ run is at all. inl is;
        notes = λ run is at on some. inr refl;
        goes_saving = λ run is at on all first. lists _ 0 refl;
        ends_micro = λ run is at on all other. begins _ run.next false refl;
        saves = λ run is at on some. inr refl;
        goes_copying = λ run is at on all. lists _ 0 refl;
        copies = λ run is at on some. inr refl;
        ends_global = λ run is at on all. begins _ run.next false refl;
        walks = λ is at first. inr refl;
        hears_walk = λ epoch is at on some. inr refl;
        asks_walked = λ epoch is at on all. inr refl;
        asks_walked_resting = λ epoch current is at on all rests.
            begins (have_walked s) current (is_some s.front) refl;
        hears_switch = λ epoch is at on some. inr refl;
        ends_local = λ epoch is at on all. inr refl;
      })

-- and where a view is installed it owes one
pub installed_owes : (s : MasterState) (view : View) → (in_view s view).owed ≡ true
unfolding in_view
installed_owes s view = refl
