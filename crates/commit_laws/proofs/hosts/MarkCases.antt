-- A mark that a host has behind an event is one of the event, or was there before; and so it is of a commit that the
-- client's side knows of.
use Rattle.std.proofs.Common.{◌≡◌, ◌⊎◌, ◌||◌, ℕ, Bool, true, List, ◌∷◌, inl, inr}
use Rattle.std.proofs.lemmas.Bool.{or_cases}
use Rattle.std.specs.List.{list_any}
use Rattle.run_theory.specs.Lists.{IsIn}
use Rattle.run_theory.proofs.EventCases.{event_cases}
use Rattle.sig_core.specs.declared.mark.Mark.{Mark}
use Rattle.sig_core.specs.declared.member.TxId.{TxId}
use Rattle.world_core.specs.Marks.{has_mark}
use Rattle.world_core.specs.Start.{Start}
use Rattle.world_core.specs.Steps.{HostStep}
use Rattle.world_views.specs.Machine.{machine, step_after}
use Rattle.moment_laws.specs.Moments.{logs_of}
use Rattle.outcome_laws.specs.Decided.{IsMarked}
use Rattle.request_laws.specs.Ways.{is_sent}
use Rattle.commit_laws.specs.Traces.{has_sent, is_acknowledgement, is_known}

module _ (start : Start) (e : HostStep) (es : List HostStep) {Q : Type 0} where
  either : (a b : Bool) → (a ≡ true → Q) → (b ≡ true → Q) → (a || b) ≡ true → Q
  either a b now before is = by (or_cases a b is)
    where
      by : (a ≡ true) ⊎ (b ≡ true) → Q
      by (inl now_is) = now now_is
      by (inr was) = before was

  module _ (h : ℕ) where
    -- some mark that passes the test
    pub mark_cases : (test : Mark → Bool) → (e.host ≡ h → list_any test e.step.marks ≡ true → Q)
        → (has_mark test (logs_of start es h) ≡ true → Q) → has_mark test (logs_of start (e ∷ es) h) ≡ true → Q
    mark_cases test now before =
        event_cases (machine start) e es h (λ log. has_mark test log ≡ true → Q)
        (λ at. either (list_any test e.step.marks) (has_mark test (logs_of start es h)) (now at) before)
        (λ off. before)

    -- just this mark
    pub marked_cases : (mark : Mark) → (e.host ≡ h → IsIn mark e.step.marks → Q)
        → (IsMarked mark (logs_of start es h) → Q) → IsMarked mark (logs_of start (e ∷ es) h) → Q
    marked_cases mark now before = event_cases (machine start) e es h (λ log. IsMarked mark log → Q) by (λ off. before)
      where
        by : e.host ≡ h → IsIn mark e.step.marks ⊎ IsMarked mark (logs_of start es h) → Q
        by at (inl is) = now at is
        by at (inr was) = before was

  -- the client's side tells now that it knows of the commit, or did so before
  pub known_cases : (tx : TxId)
      → (e.host ≡ 0 → is_sent (is_acknowledgement tx) (step_after start 0 (logs_of start es 0) e).effects.sends ≡ true
      → Q)
      → (is_known start (logs_of start es) tx ≡ true → Q) → is_known start (logs_of start (e ∷ es)) tx ≡ true → Q
  known_cases tx now before =
      event_cases (machine start) e es 0 (λ log. has_sent start (is_acknowledgement tx) 0 log ≡ true → Q)
      (λ at.
      either (is_sent (is_acknowledgement tx) (step_after start 0 (logs_of start es 0) e).effects.sends)
      (is_known start (logs_of start es) tx) (now at) before)
      (λ off. before)
