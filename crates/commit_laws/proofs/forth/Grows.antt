-- Whoever has gone forth at its coordinator, or is acknowledged by the client's side, is so for ever.
use Rattle.std.proofs.Common.{◌≡◌, ℕ, true, List, ◌∷◌}
use Rattle.std.proofs.lemmas.Bool.{or_right}
use Rattle.run_theory.proofs.EventCases.{event_cases}
use Rattle.sig_core.specs.declared.member.TxId.{TxId}
use Rattle.tc_block.specs.Phases.{is_decided}
use Rattle.world_core.specs.Start.{Start}
use Rattle.world_core.specs.Steps.{HostStep}
use Rattle.world_views.specs.Machine.{machine}
use Rattle.moment_laws.specs.Moments.{logs_of}
use Rattle.moment_laws.specs.Places.{tc_of}
use Rattle.outcome_laws.specs.Counts.{coordinator_member}
use Rattle.request_laws.specs.Ways.{has_gone_forth, tells_commit}
use Rattle.request_laws.proofs.phases.GoneWays.{gone_stays}
use Rattle.commit_laws.specs.Forth.{IsForth}
use Rattle.commit_laws.specs.Traces.{has_sent, is_acknowledgement, is_known}

module _ (start : Start) (e : HostStep) (es : List HostStep) where
  abbrev old : ℕ → List HostStep
  old = logs_of start es

  abbrev new : ℕ → List HostStep
  new = logs_of start (e ∷ es)

  -- what is so of a log also with a step more
  pub grows : (P : List HostStep → Type 0) (h : ℕ) → ((log : List HostStep) → P log → P (e ∷ log)) → P (old h)
      → P (new h)
  grows P h more was = event_cases (machine start) e es h P (λ at. more (old h) was) (λ off. was)

  pub forth_grows : (tx : TxId) → IsForth start old tx → IsForth start new tx
  forth_grows tx =
      grows (λ log. has_gone_forth start (coordinator_member tx) tx log ≡ true) (tc_of start (coordinator_member tx))
      (λ log is. gone_stays start (coordinator_member tx) tx is_decided (tells_commit tx) log e is)

  pub known_grows : (tx : TxId) → is_known start old tx ≡ true → is_known start new tx ≡ true
  known_grows tx = grows (λ log. has_sent start (is_acknowledgement tx) 0 log ≡ true) 0 (λ log was. or_right _ _ was)
