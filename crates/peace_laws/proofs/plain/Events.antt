-- The events of a run without the steps of main parts of nodes and without closings, with all epochs made one.
use Rattle.std.proofs.Common.{◌≡◌, ◌≢◌, ℕ, List, [], ◌∷◌, Bool, true, false, refl, ap, sym, ◌∙◌, subst}
use Rattle.std.specs.Prelude.{if◌then◌else◌, ◌||◌, not, filter, map}
use Rattle.run_theory.proofs.Runs.{if_false, if_true, log_of-other, log_of-own}
use Rattle.run_theory.specs.Runs.{IsWithin, log_of}
use Rattle.run_theory.proofs.EventCases.{event_cases}
use Rattle.world_core.specs.Machine as plain
use Rattle.world_core.specs.Start.{Start}
use Rattle.world_core.specs.Steps.{HostStep}
use Rattle.world_views.specs.Machine.{machine}
use Rattle.view_laws.proofs.memberships.SetTests.{or_true}
use Rattle.view_laws.proofs.fences.WhatLinksOwe.{running_if}
use Rattle.calm_laws.specs.Plain.{is_beating}
use Rattle.peace_laws.specs.Parts.{is_beside, levelled, plain_part}
use Rattle.peace_laws.specs.Peace.{is_closing}

-- a step that the plain machine doesn't make
abbrev pub is_left : HostStep → Bool
is_left e = is_beating e.host || is_closing e.host e.step.taken

-- the events without such steps
abbrev pub plain_events : Start → List HostStep → List HostStep
plain_events start [] = []
plain_events start (e ∷ es) = running_if (is_left e) (levelled start.epoch e) (plain_events start es)

pub left_beating : (e : HostStep) → is_beating e.host ≡ true → is_left e ≡ true
left_beating e beats = ap (λ b. b || is_closing e.host e.step.taken) beats

pub left_closing : (e : HostStep) → is_closing e.host e.step.taken ≡ true → is_left e ≡ true
left_closing e closing = ap (λ b. is_beating e.host || b) closing ∙ or_true (is_beating e.host)

pub left_none : (e : HostStep) → is_beating e.host ≡ false → is_closing e.host e.step.taken ≡ false → is_left e ≡ false
left_none e takes beside = ap (λ b. b || is_closing e.host e.step.taken) takes ∙ beside

module _ (start : Start) where
  -- the plain part of a main part's log is nothing
  pub none_part : (h : ℕ) (log : List HostStep) → is_beating h ≡ true → plain_part start h log ≡ []
  none_part h log beats = if_true [] (map (levelled start.epoch) (filter (is_beside h) log)) beats

  all_part : (h : ℕ) (log : List HostStep) → is_beating h ≡ false
      → plain_part start h log ≡ map (levelled start.epoch) (filter (is_beside h) log)
  all_part h log takes = if_false [] (map (levelled start.epoch) (filter (is_beside h) log)) takes

  pub no_part : (h : ℕ) → plain_part start h [] ≡ []
  no_part h = go (is_beating h)
    where
      go : (b : Bool) → ◌≡◌ {A = List HostStep} (if b then [] else []) []
      go true = refl
      go false = refl

  -- a step of a closing is left out, and another stays
  pub part_same : (h : ℕ) (log : List HostStep) (e : HostStep) → is_closing h e.step.taken ≡ true
      → plain_part start h (e ∷ log) ≡ plain_part start h log
  part_same h log e closing =
      ap (λ b.
      if is_beating h
      then []
      else map (levelled start.epoch) (if not b then e ∷ filter (is_beside h) log else filter (is_beside h) log))
      closing

  pub part_next : (h : ℕ) (log : List HostStep) (e : HostStep) → is_beating h ≡ false
      → is_closing h e.step.taken ≡ false
      → plain_part start h (e ∷ log) ≡ levelled start.epoch e ∷ plain_part start h log
  part_next h log e takes beside =
      all_part h (e ∷ log) takes
      ∙ ap (λ b.
      map (levelled start.epoch) (if not b then e ∷ filter (is_beside h) log else filter (is_beside h) log))
      beside
      ∙ ap (λ rest. levelled start.epoch e ∷ rest) (sym (all_part h log takes))

  -- the logs of the plain events are the plain parts of the logs
  pub events_are : (es : List HostStep) (h : ℕ)
      → log_of (plain.machine start) (plain_events start es) h ≡ plain_part start h (log_of (machine start) es h)
  events_are [] h = sym (no_part h)
  events_are (e ∷ es) h =
      let before = events_are es h in
      event_cases (machine start) e es h
      (λ after. log_of (plain.machine start) (plain_events start (e ∷ es)) h ≡ plain_part start h after)
      (λ at. own at (is_beating e.host) (is_closing e.host e.step.taken) refl refl before)
      (λ apart. other apart (is_beating e.host) (is_closing e.host e.step.taken) before)
    where
      log : List HostStep
      log = log_of (machine start) es h

      own : e.host ≡ h → (a b : Bool) → is_beating e.host ≡ a → is_closing e.host e.step.taken ≡ b
          → log_of (plain.machine start) (plain_events start es) h ≡ plain_part start h log
          → log_of (plain.machine start) (running_if (a || b) (levelled start.epoch e) (plain_events start es)) h
          ≡ plain_part start h (e ∷ log)
      own at true b beats closing before =
          let there : is_beating h ≡ true = subst (λ k. is_beating k ≡ true) at beats in
          before ∙ none_part h log there ∙ sym (none_part h (e ∷ log) there)
      own at false true takes closing before =
          before ∙ sym (part_same h log e (subst (λ k. is_closing k e.step.taken ≡ true) at closing))
      own at false false takes beside before =
          log_of-own (plain.machine start) (levelled start.epoch e) (plain_events start es) h at
          ∙ ap (λ rest. levelled start.epoch e ∷ rest) before
          ∙ sym
          (part_next h log e (subst (λ k. is_beating k ≡ false) at takes)
          (subst (λ k. is_closing k e.step.taken ≡ false) at beside))

      other : e.host ≢ h → (a b : Bool)
          → log_of (plain.machine start) (plain_events start es) h ≡ plain_part start h log
          → log_of (plain.machine start) (running_if (a || b) (levelled start.epoch e) (plain_events start es)) h
          ≡ plain_part start h log
      other apart true b before = before
      other apart false true before = before
      other apart false false before =
          log_of-other (plain.machine start) (levelled start.epoch e) (plain_events start es) h apart ∙ before

  -- and within the hosts that there are
  pub plain_within : (n : ℕ) (es : List HostStep) → IsWithin n (log_of (machine start) es)
      → IsWithin n (log_of (plain.machine start) (plain_events start es))
  plain_within n es within h above = events_are es h ∙ ap (plain_part start h) (within h above) ∙ no_part h
