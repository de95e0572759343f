-- Who has let go of a key at a host is given up, or carried out.
use Rattle.std.proofs.Common.{◌≡◌, ◌⊎◌, ℕ, true, List, [], ◌∷◌, sym, ap, ◌∙◌, inl, inr}
use Rattle.run_theory.proofs.EventCases.{event_cases}
use Rattle.run_theory.proofs.Runs.{log_of-past}
use Rattle.sig_core.specs.declared.member.TxId.{TxId}
use Rattle.sig_core.specs.declared.signal.Body.{Body}
use Rattle.sig_core.specs.declared.signal.Body.TheVariants.{Chain}
use Rattle.sig_core.specs.declared.signal.chain.ChainSignal.TheVariants.{Commit, Complete, Abort}
use Rattle.node_core.specs.Blocks.{lqh_of}
use Rattle.node_core.specs.Row.{row}
use Rattle.world_core.specs.Machine.{after, machine}
use Rattle.world_core.specs.Start.{Start}
use Rattle.world_core.specs.Steps.{HostStep}
use Rattle.key_laws.specs.PrimaryEvents.{AtPrimary, ended_after}
use Rattle.host_laws.specs.Ways.{way_of}
use Rattle.run_laws.specs.Circle.{primary_along}
use Rattle.run_laws.specs.GivenUp.{is_carried_out, is_given_up}
use Rattle.run_laws.specs.Transit.{Comes, IsRun, logs_of}
use Rattle.run_laws.proofs.circle.RowsEvents.{EventCase, event_case, no_event, of_rows}
use Rattle.run_laws.proofs.transit.Transit.{comes, earlier}
use Rattle.run_laws.proofs.transit.Runs.{taking}
use Rattle.run_laws.proofs.ways.Ways.{IsTold, carried_more, given_more, taken_told}
use Rattle.order_laws.proofs.Ends.{Ends, Told, body_ends}
use Rattle.order_laws.specs.LetGo.{WhoLetsGoIsOver}

module _ (start : Start) (key : List ℕ) where
  -- the transaction is given up by these logs, or carried out
  abbrev IsOver : (ℕ → List HostStep) → TxId → Type 0
  IsOver logs tx = (is_given_up start logs tx ≡ true) ⊎ (is_carried_out start logs tx ≡ true)

  -- which each signal that lets go of the key tells
  told_ends : (logs : ℕ → List HostStep) (body : Body) → IsTold start logs (way_of body)
      → Ends key (IsOver logs) body
  told_ends logs (Chain (Commit tx own epoch chain at)) told = λ same last. inr told
  told_ends logs (Chain (Complete tx own chain at)) told = λ same. inr told
  told_ends logs (Chain (Abort tx own)) told = λ same. inl told
  told_ends logs _ told = tt

  let_go : (logs : ℕ → List HostStep) (h : ℕ) (log : List HostStep) (e : HostStep) (u : TxId)
      → IsTold start logs (way_of e.step.taken.body) → (primary_along start h key (e ∷ log)).ended u ≡ true
      → Told key (IsOver logs) (primary_along start h key log) u
  let_go logs h log e u told is = by (event_case key (after start h log) e.step.taken)
    where
      p : AtPrimary
      p = primary_along start h key log

      by : EventCase key (after start h log) e.step.taken (row (after start h log) e.step.taken)
          → Told key (IsOver logs) p u
      by (of_rows step at) =
          body_ends key (IsOver logs) p u (lqh_of (after start h log)) e.step.taken.body
          (told_ends logs e.step.taken.body told)
          (ap (λ event. ended_after event p u) (sym at) ∙ is)
      by (no_event at) = inl (ap (λ event. ended_after event p u) (sym at) ∙ is)

  over_more : (es : List HostStep) (e : HostStep) (u : TxId) → IsOver (logs_of start es) u
      → IsOver (logs_of start (e ∷ es)) u
  over_more es e u (inl is) =
      inl (given_more start (logs_of start es) (logs_of start (e ∷ es)) u
      (λ h. log_of-past (machine start) e es h) is)
  over_more es e u (inr is) =
      inr (carried_more start (logs_of start es) (logs_of start (e ∷ es)) u
      (λ h. log_of-past (machine start) e es h) is)

  over_along : (h : ℕ) (u : TxId) (es : List HostStep) → IsRun start es
      → (primary_along start h key (logs_of start es h)).ended u ≡ true → IsOver (logs_of start es) u
  over_along h u [] run is = absurd cc
  over_along h u (e ∷ es) run is =
      let before = over_along h u es (earlier start es e run) in
      over_more es e u
      (event_cases (machine start) e es h
      (λ log. (primary_along start h key log).ended u ≡ true → IsOver (logs_of start es) u)
      (λ at now. after_all before (let_go (logs_of start es) h (logs_of start es h) e u told now)) (λ off. before) is)
    where
      told : IsTold start (logs_of start es) (way_of e.step.taken.body)
      told =
          let come : Comes start es e = comes start es e run in
          let t = taking start es e come in
          taken_told start es e t.before t.between come t.transit t.takes

      after_all : ((primary_along start h key (logs_of start es h)).ended u ≡ true → IsOver (logs_of start es) u)
          → Told key (IsOver (logs_of start es)) (primary_along start h key (logs_of start es h)) u
          → IsOver (logs_of start es) u
      after_all before (inl was) = before was
      after_all before (inr over) = over

pub who_lets_go_is_over : WhoLetsGoIsOver
who_lets_go_is_over start es key h tx run is = over_along start key h tx es run is
