-- In all right logs nobody is told that a transaction was aborted since the cluster is down.
use Rattle.std.proofs.Common.{◌≡◌, ◌==◌, ◌&&◌, ℕ, zero, suc, ◌%◌, Bool, true, false, List, [], ◌∷◌, refl, sym, subst}
use Rattle.run_theory.proofs.Along.{along_signals_of_logs}
use Rattle.run_theory.proofs.Orders.{each_next}
use Rattle.run_theory.proofs.Pasts.{each_in, each_map}
use Rattle.run_theory.specs.Along.{Comes, IsKept}
use Rattle.run_theory.specs.Lists.{Each}
use Rattle.run_theory.specs.Runs.{log_of}
use Rattle.sig_core.specs.declared.place.Part.{Part}
use Rattle.sig_core.specs.declared.place.Part.TheVariants.{Main, Tc, Ldm}
use Rattle.sig_core.specs.declared.signal.Body.{Body}
use Rattle.sig_core.specs.declared.signal.Body.TheVariants.{Host}
use Rattle.sig_core.specs.declared.signal.Signal.{Signal}
use Rattle.sig_core.specs.Step.{Step}
use Rattle.node_views.specs.declared.host_body.HostBody as node
use Rattle.node_views.specs.declared.parts.Parts.{Parts}
use Rattle.node_views.specs.declared.parts.Parts.TheVariants as part
use Rattle.node_views.specs.Replies.{giving}
use Rattle.world_core.specs.Hosts.{hosts, member_at, part_by}
use Rattle.world_core.specs.Start.{NobodyStarts, Start, made}
use Rattle.world_core.specs.Steps.{Addressed, HostStep}
use Rattle.world_views.proofs.SentFacts.{is_stamped}
use Rattle.world_views.specs.Hosts.{part_started, started}
use Rattle.world_views.specs.Machine.{after, machine, signals_of, step_after, told}
use Rattle.world_views.specs.Sending.{is_asked, is_own_work}
use Rattle.world_views.proofs.AllBegin.{started_behind}
use Rattle.view_laws.proofs.follow.Senders.{each_from}
use Rattle.outcome_laws.specs.Down.{NoDownIsTold, PartsHaveNoDown, TakesNoDown, TellsNoDown}
use Rattle.outcome_laws.proofs.downfall.Parts.{step_down_none}
use Rattle.outcome_laws.proofs.downfall.Sends.{SendsNoDown}

-- a host as it begins
part_begins : (start : Start) (part : Part) (k : ℕ)
    → PartsHaveNoDown (part_started start part (member_at (made start) (suc k))).parts
part_begins start Main k = tt
part_begins start Tc k = tt
part_begins start Ldm k = tt

host_begins : (start : Start) (nobody : NobodyStarts start) (h : ℕ) → PartsHaveNoDown (started start h).parts
unfolding started
host_begins start nobody zero = tt
host_begins start nobody (suc h) =
    subst (λ s. PartsHaveNoDown s.parts) (sym (started_behind start nobody h)) (part_begins start (part_by (h % 3)) h)

-- the replies that are told change nothing of it
told_up : (h : ℕ) (step : Step node.HostBody) → PartsHaveNoDown step.state.parts → PartsHaveNoDown (told h step).parts
told_up zero step up = by step.state.parts up
  where
    by : (parts : Parts) → PartsHaveNoDown parts → PartsHaveNoDown (giving parts [])
    by (part.Shell p) up = tt
    by (part.Main p) up = tt
    by (part.Tc p) up = up
    by (part.Ldm p) up = tt
told_up (suc h) step up = up

-- what a host asks of itself doesn't tell so
own_none : (body : Body) → is_own_work body ≡ true → TellsNoDown body
own_none (Host signal) own = tt
own_none body own = absurd cc

asked_none : (h : ℕ) (x : Signal) → is_asked h x ≡ true → TellsNoDown x.body
asked_none h x asked = by (x.from.0 == h) asked
  where
    by : (b : Bool) → (b && is_own_work x.body) ≡ true → TellsNoDown x.body
    by true own = own_none x.body own
    by false own = absurd cc

-- the signal doesn't tell so
abbrev pub Says : Addressed → Type 0
Says x = TellsNoDown x.signal.body

module _ (start : Start) (nobody : NobodyStarts start) where
  -- what a host does that was never told so
  stepped : (h : ℕ) (log : List HostStep) (e : HostStep) → PartsHaveNoDown (after start h log).parts → TakesNoDown e
      → PartsHaveNoDown (step_after start h log e).state.parts × SendsNoDown (step_after start h log e)
  stepped h log e up takes = step_down_none h (after start h log) e.step.taken up takes

  host_up : (h : ℕ) (log : List HostStep) → Each TakesNoDown log → PartsHaveNoDown (after start h log).parts
  host_up h [] takes = host_begins start nobody h
  host_up h (e ∷ log) takes =
      told_up h (step_after start h log e) (stepped h log e (host_up h log takes.1) takes.0).0

  signals_none : (h : ℕ) (log : List HostStep) (e : HostStep) → Each TakesNoDown (e ∷ log)
      → Each Says (signals_of start h log e)
  signals_none h log e takes =
      each_map _ Says (signals_of start h log e)
      (λ x one.
      subst TellsNoDown (sym one.body)
      (each_in _ one.sent (step_after start h log e).effects.sends (stepped h log e (host_up h log takes.1) takes.0).1
      one.there))
      (each_from start h log e)

  abbrev HaveNone : (ℕ → List HostStep) → Type 0
  HaveNone logs = (h : ℕ) → Each TakesNoDown (logs h)

  -- what a link gives was told by others, and what a host asks itself doesn't tell so
  taken_none : (es : List HostStep) (e : HostStep) → Comes (machine start) (λ x logs. Says x) HaveNone es e
      → TakesNoDown e
  taken_none es e come = by (is_asked e.host e.step.taken) refl
    where
      by : (b : Bool) → is_asked e.host e.step.taken ≡ b → TakesNoDown e
      by true asked = asked_none e.host e.step.taken asked
      by false given = come.told given

  kept : IsKept (machine start) (λ x logs. Says x) HaveNone
  kept = record {
    start = λ h. tt;
    step = λ es e come h. each_next (machine start) TakesNoDown es e h (taken_none es e come) (come.all.law h);
    sends = λ es e come runs.
        signals_none e.host (log_of (machine start) es e.host) e (taken_none es e come, come.all.law e.host);
    closing = λ es e come stops j. tt;
    stays = λ es e x come says. says;
  }

pub no_down_is_told : NoDownIsTold
no_down_is_told start logs are =
    (along_signals_of_logs (machine start) (is_stamped start) (λ x logs. Says x) (HaveNone start are.nobody)
    (kept start are.nobody)
    (hosts start) logs are.within are.right).law
