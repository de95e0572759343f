-- An epoch that a log was told is durable is one from which the life started, or was marked as durable.
use Rattle.std.proofs.Common.{◌≡◌, ◌≤◌, ◌<◌, ◌⊎◌, inl, inr, ℕ, List, [], ◌∷◌, refl, subst}
use Rattle.std.proofs.lemmas.Bool.{cases_lt}
use Rattle.run_theory.proofs.Pasts.{past_less}
use Rattle.run_theory.specs.Links.{sent}
use Rattle.run_theory.specs.Lists.{Each, IsPast}
use Rattle.sig_core.specs.declared.mark.Mark.TheVariants.{Durable}
use Rattle.sig_core.specs.declared.member.Member.{Member}
use Rattle.sig_core.specs.declared.signal.Body.{Body}
use Rattle.sig_core.specs.declared.signal.Body.TheVariants.{Epoch}
use Rattle.sig_core.specs.declared.signal.epoch.EpochSignal.TheVariants.{GcpDone}
use Rattle.world_core.specs.Hosts.{hosts}
use Rattle.world_core.specs.Start.{Start}
use Rattle.world_core.specs.Steps.{Addressed, HostStep}
use Rattle.view_laws.specs.Order.{sound_machine}
use Rattle.view_laws.specs.Runs.{AreOfCluster}
use Rattle.moment_laws.proofs.MomentRuns.{are_moments}
use Rattle.outcome_laws.specs.Decided.{IsMarked}
use Rattle.closing_laws.proofs.settled.Cuts.{events_of, logs_are}
use Rattle.journal_laws.specs.Saver.{IsToldDone, TellsDone}
use Rattle.saved_laws.specs.Behind.{IsDurable, WasMadeDurable}
use Rattle.saved_laws.specs.Copied.{DoneWereMarked}
use Rattle.restart_laws.proofs.groups.Taken.{taken_so}

-- what says that an epoch is durable, or a later one
record SaysDone (epoch : ℕ) (body : Body) : Type 0 where
  at : ℕ
  is : body ≡ Epoch (GcpDone at)
  least : epoch ≤ at

says_done : (body : Body) (epoch : ℕ) → TellsDone epoch body → SaysDone epoch body
says_done (Epoch (GcpDone at)) epoch least = record { at = at; is = refl; least = least }
says_done (Epoch _) epoch tells = absurd tells
says_done _ epoch tells = absurd tells

module _ (done : DoneWereMarked) (start : Start) (logs : ℕ → List HostStep) (are : AreOfCluster start logs)
    (begins : start.start_epoch < start.epoch) where
  abbrev SaysMarked : ℕ → Addressed → Type 0
  SaysMarked i y = (epoch : ℕ) → y.signal.body ≡ Epoch (GcpDone epoch) → IsMarked (Durable epoch) (logs i)

  all_marked : (i j : ℕ) → Each (SaysMarked i) (sent (sound_machine start) i j (logs i))
  all_marked i j =
      subst
      (λ (ls : ℕ → List HostStep). Each (λ (y : Addressed). (epoch : ℕ) → y.signal.body ≡ Epoch (GcpDone epoch)
      → IsMarked (Durable epoch) (ls i)) (sent (sound_machine start) i j (ls i)))
      (logs_are start logs are)
      (done start logs (events_of start logs) begins (are_moments start logs are) i j)

  was_marked : (i epoch at : ℕ) → epoch ≤ at → IsMarked (Durable at) (logs i) → WasMadeDurable start logs epoch
  was_marked i epoch at least marked = by (cases_lt i (hosts start))
    where
      by : (i < hosts start) ⊎ (hosts start ≤ i) → WasMadeDurable start logs epoch
      by (inl below) = record { host = i; below = below; at = at; marked = marked; least = least }
      by (inr high) = absurd (subst (IsMarked (Durable at)) (are.within i high) marked)

  pub told_done : (member : Member) (h : ℕ) (log : List HostStep) → IsPast log (logs h) → (epoch : ℕ)
      → IsToldDone start member log epoch → IsDurable start logs epoch
  told_done member h [] past epoch first = inl first
  told_done member h (e ∷ log) past epoch (inr before) = told_done member h log (past_less e past) epoch before
  told_done member h (e ∷ log) past epoch (inl (sound, tells)) = of_says (says_done e.step.taken.body epoch tells)
    where
      of_says : SaysDone epoch e.step.taken.body → IsDurable start logs epoch
      of_says says =
          inr (was_marked e.step.taken.from.0 epoch says.at says.least
          (taken_so start logs are SaysMarked all_marked h log e past (GcpDone says.at) says.is sound says.at says.is))
