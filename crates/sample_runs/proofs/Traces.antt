-- Logs of which is written out what each step does: what a host comes to with one, and what it sends.
use Rattle.std.proofs.Common.{◌≡◌, ℕ, ◌+◌, List, [], ◌∷◌, refl, ap, sym, ◌∙◌, arith}
use Rattle.std.specs.Prelude.{max}
use Rattle.run_theory.specs.Links.{put, sent}
use Rattle.run_theory.specs.Logs.{IsLog, IsRunning, last}
use Rattle.sig_core.specs.Step.{Step}
use Rattle.node_core.specs.declared.host.Host.{Host}
use Rattle.node_core.specs.Requests.{is_request}
use Rattle.node_core.specs.Row.{row}
use Rattle.world_core.specs.Hosts.{first_membership, started}
use Rattle.world_core.specs.Machine.{after, all_addressed, asked_rightly, count_sends, last_stamp, machine, sent_count}
use Rattle.world_core.specs.Machine.{signals_of, step_after}
use Rattle.world_core.specs.Start.{Start}
use Rattle.world_core.specs.Steps.{Addressed, HostStep}

module _ (start : Start) (h : ℕ) where
  -- the host after these steps
  abbrev pub come_to : List (Step Host) → Host
  come_to [] = started start h
  come_to (t ∷ steps) = t.state

  -- behind a log and what its steps do the step e does t
  pub record Does (log : List HostStep) (steps : List (Step Host)) (e : HostStep) (t : Step Host) : Type 0 where
    pub at : e.host ≡ h
    pub stamped : e.step.stamp ≡ max (last (machine start) h log) e.step.taken.stamp + 1
    pub does : row (come_to steps) e.step.taken ≡ t
    pub marks : e.step.marks ≡ t.effects.marks
    pub asked : asked_rightly (first_membership start) (is_request e.step.taken.body) h (last_stamp log) e.step.taken

  -- each step of the log does what stands at its place
  abbrev pub Do : List HostStep → List (Step Host) → Type 0
  Do [] [] = Unit {0}
  Do (e ∷ log) (t ∷ steps) = Does log steps e t × Do log steps
  Do _ _ = ⊥

  pub after_is : (log : List HostStep) (steps : List (Step Host)) → Do log steps → after start h log ≡ come_to steps
  after_is [] [] all = refl
  after_is [] (t ∷ steps) all = absurd all
  after_is (e ∷ log) [] all = absurd all
  after_is (e ∷ log) (t ∷ steps) all =
      ap (λ host. (row host e.step.taken).state) (after_is log steps all.1)
      ∙ ap (λ (step : Step Host). step.state) all.0.does

  step_is : (log : List HostStep) (steps : List (Step Host)) (e : HostStep) (t : Step Host) → Does log steps e t
      → Do log steps
      → step_after start h log e ≡ t
  step_is log steps e t does all = ap (λ host. row host e.step.taken) (after_is log steps all) ∙ does.does

  runs : (log : List HostStep) → IsRunning (machine start) log
  runs [] = tt
  runs (e ∷ log) = refl

  pub is_log : (log : List HostStep) (steps : List (Step Host)) → Do log steps → IsLog (machine start) h log
  is_log [] steps all = tt
  is_log (e ∷ log) [] all = absurd all
  is_log (e ∷ log) (t ∷ steps) all = (
    record {
      at = all.0.at;
      stamped = omega (arith, all.0.stamped);
      runs = runs log;
      fits = record {
        marks = all.0.marks ∙ sym (ap (λ (step : Step Host). step.effects.marks) (step_is log steps e t all.0 all.1));
        asked_at = last_stamp log;
        asked = all.0.asked;
      };
    },
    is_log log steps all.1,
  )

  -- how many signals were sent to each host
  abbrev count : List (Step Host) → ℕ → ℕ
  count [] = λ j. 0
  count (t ∷ steps) = count_sends (first_membership start) t.effects.sends (count steps)

  count_is : (log : List HostStep) (steps : List (Step Host)) → Do log steps → sent_count start h log ≡ count steps
  count_is [] [] all = refl
  count_is [] (t ∷ steps) all = absurd all
  count_is (e ∷ log) [] all = absurd all
  count_is (e ∷ log) (t ∷ steps) all =
      ap (λ (step : Step Host). count_sends (first_membership start) step.effects.sends (sent_count start h log))
      (step_is log steps e t all.0 all.1)
      ∙ ap (count_sends (first_membership start) t.effects.sends) (count_is log steps all.1)

  -- the signals of a step
  abbrev signals : List (Step Host) → HostStep → Step Host → List Addressed
  signals steps e t = all_addressed (first_membership start) h e.step.stamp (count steps) t.effects.sends

  signals_is : (log : List HostStep) (steps : List (Step Host)) (e : HostStep) (t : Step Host) → Does log steps e t
      → Do log steps
      → signals_of start h log e ≡ signals steps e t
  signals_is log steps e t does all =
      ap (λ (step : Step Host). all_addressed (first_membership start) h e.step.stamp (sent_count start h log)
      step.effects.sends)
      (step_is log steps e t does all)
      ∙ ap (λ counts. all_addressed (first_membership start) h e.step.stamp counts t.effects.sends)
      (count_is log steps all)

  -- all signals to a host
  abbrev pub told : ℕ → List HostStep → List (Step Host) → List Addressed
  told j (e ∷ log) (t ∷ steps) = put (machine start) j (signals steps e t) (told j log steps)
  told j _ _ = []

  pub told_is : (j : ℕ) (log : List HostStep) (steps : List (Step Host)) → Do log steps
      → sent (machine start) h j log ≡ told j log steps
  told_is j [] [] all = refl
  told_is j [] (t ∷ steps) all = absurd all
  told_is j (e ∷ log) [] all = absurd all
  told_is j (e ∷ log) (t ∷ steps) all =
      ap (λ xs. put (machine start) j xs (sent (machine start) h j log)) (signals_is log steps e t all.0 all.1)
      ∙ ap (put (machine start) j (signals steps e t)) (told_is j log steps all.1)
