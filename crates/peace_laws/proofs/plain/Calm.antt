-- What hosts of the plain machine sent each other is taken in calm.
use Rattle.std.proofs.Common.{◌≡◌, ◌<◌, ℕ, true, List, [], ◌∷◌, sym, subst}
use Rattle.run_laws.proofs.transit.Transit.{comes, earlier}
use Rattle.run_laws.specs.Transit.{IsRun, logs_of}
use Rattle.run_theory.proofs.Links.{put_each}
use Rattle.run_theory.proofs.Pasts.{each_in}
use Rattle.run_theory.proofs.Runs.{logs_of_run}
use Rattle.run_theory.specs.Links.{sent}
use Rattle.run_theory.specs.Lists.{Each, IsIn}
use Rattle.run_theory.proofs.EventCases.{event_each}
use Rattle.world_core.proofs.SentFacts.{IsBetween, sent_between}
use Rattle.world_core.specs.Hosts.{first_hosts}
use Rattle.world_core.specs.Machine.{last_stamp, machine, signals_of}
use Rattle.world_core.specs.Start.{Start}
use Rattle.world_core.specs.Steps.{Addressed, HostStep}
use Rattle.calm_laws.specs.Calm.{is_calm}
use Rattle.calm_laws.proofs.places.PlainSends.{plain_sends_calm}

-- whoever is to take it takes it in calm
abbrev pub IsTakenCalmly : Start → Addressed → Type 0
IsTakenCalmly start x = x.to < first_hosts start → is_calm x.to x.signal ≡ true

module _ (start : Start) where
  all_calm : (es : List HostStep) → IsRun start es → (i j : ℕ)
      → Each (IsTakenCalmly start) (sent (machine start) i j (logs_of start es i))
  all_calm [] run = λ i j. tt
  all_calm (e ∷ es) run =
      let before = all_calm es (earlier start es e run) in
      event_each (machine start) e es (λ i log. (j : ℕ) → Each (IsTakenCalmly start) (sent (machine start) i j log))
      (λ j.
      put_each (machine start) (IsTakenCalmly start) j (signals_of start e.host (logs_of start es e.host) e)
      (sent (machine start) e.host j (logs_of start es e.host))
      (plain_sends_calm start es e (comes start es e run)) (before e.host j))
      (λ i apart. before i)

  -- what was sent to host j
  pub sent_calm : (es : List HostStep) → IsRun start es → (i j : ℕ) → j < first_hosts start → (x : Addressed)
      → IsIn x (sent (machine start) i j (logs_of start es i)) → is_calm j x.signal ≡ true
  sent_calm es run i j low x there =
      let log : List HostStep = logs_of start es i in
      let between : IsBetween i j (last_stamp log) x =
      each_in (IsBetween i j (last_stamp log)) x (sent (machine start) i j log)
      (sent_between start i j log ((logs_of_run (machine start) es run.run).local i)) there in
      subst (λ k. is_calm k x.signal ≡ true) between.to
      (each_in (IsTakenCalmly start) x (sent (machine start) i j log) (all_calm es run i j) there
      (subst (λ k. k < first_hosts start) (sym between.to) low))
