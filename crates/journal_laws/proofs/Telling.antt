-- What is so of each signal that hosts take, where it is so of what they are asked, and where hosts that take only such
-- send only such.
use Rattle.std.proofs.Common.{◌≡◌, ℕ, zero, suc, true, false, Bool, List, [], ◌∷◌, refl, sym, subst}
use Rattle.run_theory.proofs.Along.{along_signals_of_logs}
use Rattle.run_theory.proofs.Orders.{each_next}
use Rattle.run_theory.proofs.Pasts.{each_in, each_map}
use Rattle.run_theory.specs.Along.{Comes, IsKept}
use Rattle.run_theory.specs.Lists.{Each}
use Rattle.run_theory.specs.Runs.{log_of}
use Rattle.sig_core.specs.declared.outcome.StopCause.{StopCause}
use Rattle.sig_core.specs.declared.outs.Outgoing.{Outgoing}
use Rattle.sig_core.specs.declared.signal.Body.{Body}
use Rattle.sig_core.specs.declared.signal.Body.TheVariants.{Host}
use Rattle.sig_core.specs.declared.signal.Signal.{Signal}
use Rattle.sig_core.specs.declared.signal.host.HostSignal.TheVariants.{Closed}
use Rattle.sig_core.specs.Step.{Step}
use Rattle.node_views.specs.declared.host_body.HostBody as hosts
use Rattle.node_views.specs.declared.parts.Parts.{Parts}
use Rattle.node_views.specs.Replies.{giving}
use Rattle.world_core.specs.Hosts as places
use Rattle.world_core.specs.Start.{Start}
use Rattle.world_core.specs.Steps.{Addressed, HostStep}
use Rattle.world_views.proofs.SentFacts.{is_stamped}
use Rattle.world_views.specs.Hosts.{started}
use Rattle.world_views.specs.Machine.{IsOwn, after, comes_rightly, machine, signals_of, step_after, step_by, told}
use Rattle.world_views.specs.Sending.{is_asked}
use Rattle.view_laws.proofs.follow.Senders.{each_from}
use Rattle.view_laws.specs.Runs.{AreOfCluster}

-- what is so of each where something else is so
each_given : {A : Type 0} (G : Type 0) (P : A → Type 0) (xs : List A) → (G → Each P xs) → Each (λ x. G → P x) xs
each_given G P [] all = tt
each_given G P (x ∷ xs) all = (λ given. (all given).0, each_given G P xs (λ given. (all given).1))

module _ (start : Start) (G : (ℕ → List HostStep) → Type 0) (IsWell : Body → Type 0) (PartsWell : Parts → Type 0)
  where
    abbrev pub IsWellSent : Outgoing → Type 0
    IsWellSent sent = IsWell sent.body

    abbrev pub TakesWell : HostStep → Type 0
    TakesWell e = IsWell e.step.taken.body

    -- So it is of hosts as they begin, and where they have told their replies. In a step they stay so and send only
    -- such signals. So it is of closings, and of what a host asks itself, where this is so of the logs, which it is of
    -- shorter ones as well.
    pub record TellWell : Type 0 where
      pub begins : (h : ℕ) → PartsWell (started start h).parts
      pub gives : (parts : Parts) → PartsWell parts → PartsWell (giving parts [])
      pub steps : (h : ℕ) (s : hosts.HostBody) (x : Signal) → PartsWell s.parts → IsWell x.body
          → PartsWell (step_by h s x).state.parts × Each IsWellSent (step_by h s x).effects.sends
      pub closes : (cause : StopCause) → IsWell (Host (Closed cause))
      pub asks : (es : List HostStep) (e : HostStep) → G (log_of (machine start) (e ∷ es))
          → IsOwn start e.host (log_of (machine start) es e.host) e.step.taken → TakesWell e
      pub shorter : (es : List HostStep) (e : HostStep) → G (log_of (machine start) (e ∷ es))
          → G (log_of (machine start) es)

    module _ (tell : TellWell) where
      told_well : (h : ℕ) (step : Step hosts.HostBody) → PartsWell step.state.parts → PartsWell (told h step).parts
      told_well zero step well = tell.gives step.state.parts well
      told_well (suc h) step well = well

      stepped : (h : ℕ) (log : List HostStep) (e : HostStep) → PartsWell (after start h log).parts → TakesWell e
          → PartsWell (step_after start h log e).state.parts
          × Each IsWellSent (step_after start h log e).effects.sends
      stepped h log e well takes = tell.steps h (after start h log) e.step.taken well takes

      pub host_well : (h : ℕ) (log : List HostStep) → Each TakesWell log → PartsWell (after start h log).parts
      host_well h [] takes = tell.begins h
      host_well h (e ∷ log) takes =
          told_well h (step_after start h log e) (stepped h log e (host_well h log takes.1) takes.0).0

      abbrev Says : Addressed → Type 0
      Says x = IsWell x.signal.body

      sends_well : (h : ℕ) (log : List HostStep) (e : HostStep) → Each TakesWell (e ∷ log)
          → Each Says (signals_of start h log e)
      sends_well h log e takes =
          each_map _ Says (signals_of start h log e)
          (λ x one.
          subst IsWell (sym one.body)
          (each_in IsWellSent one.sent (step_after start h log e).effects.sends
          (stepped h log e (host_well h log takes.1) takes.0).1 one.there))
          (each_from start h log e)

      abbrev AllTake : (ℕ → List HostStep) → Type 0
      AllTake logs = G logs → (h : ℕ) → Each TakesWell (logs h)

      abbrev SaysWell : Addressed → (ℕ → List HostStep) → Type 0
      SaysWell x logs = G logs → Says x

      takes_well : (es : List HostStep) (e : HostStep) → Comes (machine start) SaysWell AllTake es e
          → G (log_of (machine start) (e ∷ es)) → TakesWell e
      takes_well es e come given = by (is_asked e.host e.step.taken) refl
        where
          by : (b : Bool) → is_asked e.host e.step.taken ≡ b → TakesWell e
          by true asked =
              tell.asks es e given
              (subst (λ b. comes_rightly b start e.host (log_of (machine start) es e.host) e.step.taken) asked
              come.happens.step.fits.comes)
          by false linked = come.told linked (tell.shorter es e given)

      kept : IsKept (machine start) SaysWell AllTake
      kept = record {
        start = λ given h. tt;
        step = λ es e come given h.
            each_next (machine start) TakesWell es e h (takes_well es e come given)
            (come.all.law (tell.shorter es e given) h);
        sends = λ es e come runs.
            each_given (G (log_of (machine start) (e ∷ es))) Says
            (signals_of start e.host (log_of (machine start) es e.host) e)
            (λ given. sends_well e.host (log_of (machine start) es e.host) e
            (takes_well es e come given, come.all.law (tell.shorter es e given) e.host));
        closing = λ es e come stops j given. tell.closes _;
        stays = λ es e x come says given. says (tell.shorter es e given);
      }

      -- so it is in all right logs
      pub all_take : (logs : ℕ → List HostStep) → AreOfCluster start logs → G logs → (h : ℕ) → Each TakesWell (logs h)
      all_take logs are =
          (along_signals_of_logs (machine start) (is_stamped start) SaysWell AllTake kept (places.hosts start) logs
          are.within are.right).law
