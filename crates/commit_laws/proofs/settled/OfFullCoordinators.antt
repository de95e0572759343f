-- Whoever is decided by a full coordinator, and isn't lost, is settled for each key.
use Rattle.std.proofs.Common.{◌≡◌, ℕ, true, List, [], ◌∷◌, arith}
use Rattle.std.proofs.lemmas.Bool.{or_left}
use Rattle.std.specs.List.{list_any}
use Rattle.run_theory.proofs.EventCases.{event_cases}
use Rattle.commit_laws.proofs.forth.DecidedStay.{decided_mark}
use Rattle.sig_core.specs.declared.member.TxId.{TxId}
use Rattle.world_core.specs.Marks.{has_mark}
use Rattle.world_core.specs.Start.{Start}
use Rattle.world_core.specs.Steps.{HostStep}
use Rattle.world_views.specs.Machine.{machine}
use Rattle.moment_laws.proofs.MomentViews.{moment_less}
use Rattle.moment_laws.specs.Moments.{IsMoment, logs_of}
use Rattle.moment_laws.specs.Places.{tc_of}
use Rattle.outcome_laws.specs.Counts.{coordinator_member, is_decision}
use Rattle.commit_laws.specs.Forth.{ForthIsKnownAlways}
use Rattle.commit_laws.specs.Going.{is_decided}
use Rattle.commit_laws.specs.Settled.{DecisionsAreSettled}
use Rattle.commit_laws.specs.Together.{AllStandAlways}
use Rattle.commit_laws.specs.Transit.{MomentsHaveTransit}
use Rattle.commit_laws.proofs.led.Entries.{any_counts, new_there, step_elsewhere}
use Rattle.commit_laws.proofs.settled.Decisions.{settled_then}

-- its coordinator's host decides it
pub decided_now : (start : Start) (all : ℕ → List HostStep) (e : HostStep) (es : List HostStep)
    → IsMoment start all (e ∷ es) → (tx : TxId) → list_any (is_decision tx) e.step.marks ≡ true
    → is_decided start (logs_of start (e ∷ es)) tx ≡ true
decided_now start all e es moment tx any =
    event_cases (machine start) e es (tc_of start (coordinator_member tx)) (λ log. has_mark (is_decision tx) log ≡ true)
    (λ at.
    or_left (list_any (is_decision tx) e.step.marks)
    (has_mark (is_decision tx) (logs_of start es (tc_of start (coordinator_member tx)))) any)
    (λ off.
    absurd (omega (
      arith,
      step_elsewhere start all e es moment tx off,
      any_counts (is_decision tx) e.step.marks any,
    )))

pub decisions_are_settled : ForthIsKnownAlways → MomentsHaveTransit → AllStandAlways → DecisionsAreSettled
decisions_are_settled forth transit stand start all e es moment tx now key =
    let any = decided_mark tx now.epoch e.step.marks now.marked in
    settled_then forth transit start all e es
    (record { moment = moment; stood = stand start all es (moment_less start all e es moment) }) tx
    (decided_now start all e es moment tx any) now (new_there start all e es moment tx [] any) key
