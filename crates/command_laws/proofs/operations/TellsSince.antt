-- Along a log of its host, an operation of a transaction is answered or its abort is reported, and not both. Other
-- hosts tell nothing of it.
use Rattle.std.proofs.Common.{◌≡◌, ◌≢◌, ◌<◌, ◌≤◌, ◌+◌, ℕ, false, List, [], ◌∷◌, ◌++◌, refl, sym, subst, arith}
use Rattle.run_theory.specs.Lists.{Each}
use Rattle.sig_core.specs.declared.member.TxId.{TxId}
use Rattle.sig_core.specs.Step.{Step}
use Rattle.node_core.specs.Blocks.{tc_of}
use Rattle.node_core.specs.declared.host.Host.{Host}
use Rattle.tc_block.specs.State.{TcState}
use Rattle.world_core.specs.Hosts.{home, first_hosts}
use Rattle.world_core.specs.Machine.{after, step_after}
use Rattle.world_core.specs.Start.{Start}
use Rattle.world_core.specs.Steps.{HostStep}
use Rattle.run_theory.specs.Counts.{one_if}
use Rattle.host_laws.proofs.hosts.LinkCounts.{steps}
use Rattle.host_laws.proofs.coordinator.Keys.{is_key}
use Rattle.host_laws.proofs.api.Wishes.{sends_of}
use Rattle.command_laws.proofs.ends.FirmHosts.{is_back}
use Rattle.command_laws.proofs.quiet.Homes.{lives_home, sound_at}
use Rattle.command_laws.proofs.hosts.HostSends.{not_of_api, shell_silent}
use Rattle.command_laws.proofs.hosts.BlockSteps.{tc_host}
use Rattle.command_laws.proofs.quiet.Since.{sent_since}
use Rattle.command_laws.proofs.hosts.TcPath.{TcGoes, aside, begins, is_told, takes, tc_goes, told_tc}
use Rattle.command_laws.proofs.operations.TellsOnce.{HasTold, host_tells, is_wish_back_to, none_told}
use Rattle.command_laws.proofs.operations.TurnTells.{is_reply}

-- what holds of a host's coordinator
abbrev pub OnTc : (TcState → Type 0) → Host → Type 0
OnTc P g = P (tc_of g)

module _ (start : Start) (tx : TxId) where
  -- along steps without a wish for an abort, where at most one operation is unanswered or comes
  pub tells_since : (h : ℕ) (newer log : List HostStep) (asked : ℕ)
      → Each (λ (e : HostStep). is_wish_back_to tx e.step.taken.to e.step.taken.body ≡ false) newer
      → asked + steps (is_key tx) newer ≤ 1
      → OnTc (HasTold tx asked 0 0 0) (after start h log)
      → OnTc (HasTold tx asked (steps (is_key tx) newer) (sent_since start (is_reply tx) h newer log)
      (sent_since start (is_back tx) h newer log)) (after start h (newer ++ log))
  tells_since h [] log asked wish once has = has
  tells_since h (e ∷ newer) log asked wish once has =
      next (tells_since h newer log asked wish.1 (omega (arith, once)) has)
    where
      turned : one_if (is_key tx e.step.taken.to e.step.taken.body) + steps (is_key tx) newer
          ≡ steps (is_key tx) newer + one_if (is_key tx e.step.taken.to e.step.taken.body)
      turned = omega arith

      next : OnTc (HasTold tx asked (steps (is_key tx) newer) (sent_since start (is_reply tx) h newer log)
          (sent_since start (is_back tx) h newer log)) (after start h (newer ++ log))
          → OnTc (HasTold tx asked (steps (is_key tx) (e ∷ newer)) (sent_since start (is_reply tx) h (e ∷ newer) log)
          (sent_since start (is_back tx) h (e ∷ newer) log)) (after start h (e ∷ (newer ++ log)))
      next before =
          subst (λ k. OnTc (HasTold tx asked k (sent_since start (is_reply tx) h (e ∷ newer) log)
          (sent_since start (is_back tx) h (e ∷ newer) log)) (after start h (e ∷ (newer ++ log)))) (sym turned)
          (host_tells tx (after start h (newer ++ log)) e.step.taken (sound_at start tx h (newer ++ log)) wish.0 asked
          (steps (is_key tx) newer)
          (sent_since start (is_reply tx) h newer log) (sent_since start (is_back tx) h newer log) (omega (arith, once))
          before)

  -- another host than its home tells nothing of it
  pub away_since : (h : ℕ) → h < first_hosts start → home start tx ≢ h → (newer log : List HostStep)
      → sent_since start (is_told tx) h newer log ≡ 0
  away_since h low away [] log = refl
  away_since h low away (e ∷ newer) log = omega (arith, away_since h low away newer log, here)
    where
      goes : {step : Step TcState} → TcGoes tx (tc_of (after start h (newer ++ log))) e.step.taken.body step
          → sends_of (is_told tx) step.effects.sends ≡ 0
      goes (aside same none more absent) = none
      goes (begins number now none more) = none
      goes (takes t same was sends left more) = absurd (away (lives_home start tx h (newer ++ log) low t was))

      here : sends_of (is_told tx) (step_after start h (newer ++ log) e).effects.sends ≡ 0
      here =
          tc_host (λ (step : Step TcState). sends_of (is_told tx) step.effects.sends ≡ 0)
          (after start h (newer ++ log)) e.step.taken
          (λ runs at. goes (tc_goes tx (tc_of (after start h (newer ++ log))) e.step.taken.body
          (sound_at start tx h (newer ++ log))))
          (λ effects none off. none (is_told tx) (told_tc tx))

  pub shell_since : (newer log : List HostStep) → sent_since start (is_told tx) 0 newer log ≡ 0
  shell_since newer log = shell_silent (is_told tx) (not_of_api (is_told tx) (told_tc tx)) start newer log

  -- what isn't told isn't answered, nor is the abort reported
  pub since_none : (h : ℕ) (newer log : List HostStep) → sent_since start (is_told tx) h newer log ≡ 0
      → (sent_since start (is_reply tx) h newer log ≡ 0) × (sent_since start (is_back tx) h newer log ≡ 0)
  since_none h [] log none = (refl, refl)
  since_none h (e ∷ newer) log none =
      let rest = since_none h newer log (omega (arith, none)) in
      let here = none_told tx (step_after start h (newer ++ log) e).effects.sends (omega (arith, none)) in
      (omega (arith, rest.0, here.0), omega (arith, rest.1, here.1))
