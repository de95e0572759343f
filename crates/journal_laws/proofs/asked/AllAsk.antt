-- In all right logs hosts take only signals that ask well for operations, where the shell was asked for words.
use Rattle.std.proofs.Common.{◌≡◌, ◌==◌, ◌&&◌, ◌∙◌, ℕ, List, [], true, ap, subst}
use Rattle.std.proofs.lemmas.Bool.{eq-eqb}
use Rattle.std.specs.Prelude.{IfSome, None, if◌then◌else◌}
use Rattle.run_theory.proofs.Pasts.{each_past}
use Rattle.run_theory.proofs.Runs.{log_of-own, log_of-past}
use Rattle.run_theory.specs.Runs.{log_of}
use Rattle.run_theory.specs.Lists.{Each}
use Rattle.sig_core.specs.declared.request.ApiReq.TheVariants.{Operate}
use Rattle.sig_core.specs.declared.signal.Body.{Body}
use Rattle.sig_core.specs.declared.signal.Body.TheVariants.{Chain, Client, Host}
use Rattle.sig_core.specs.declared.signal.chain.ChainSignal.TheVariants.{LqhKeyReq}
use Rattle.sig_core.specs.declared.signal.client.ClientSignal.TheVariants.{TcKeyReq}
use Rattle.sig_core.specs.declared.signal.host.HostSignal.TheVariants.{Continue}
use Rattle.sig_core.specs.declared.signal.host.Work.TheVariants.{Request}
use Rattle.sig_core.specs.declared.signal.Signal.{Signal}
use Rattle.node_views.specs.declared.parts.Parts.{Parts}
use Rattle.node_views.specs.declared.parts.Parts.TheVariants.{Shell, Main, Tc, Ldm}
use Rattle.node_views.specs.Replies.{giving}
use Rattle.world_core.specs.Requests.{request_in}
use Rattle.world_core.specs.Start.{NobodyStarts, Start}
use Rattle.world_core.specs.Steps.{HostStep}
use Rattle.world_views.specs.Machine.{IsOwn, IsOwnWork, machine}
use Rattle.world_views.specs.Requests.{request_of}
use Rattle.world_views.specs.Sending.{is_own_work}
use Rattle.world_views.proofs.OwnReady.{own_is_asked}
use Rattle.view_laws.specs.Runs.{AreOfCluster}
use Rattle.journal_laws.specs.Asked.{AreOfWords, IsOfRequest}
use Rattle.journal_laws.proofs.Telling.{TellWell, all_take}
use Rattle.journal_laws.proofs.asked.Parts.{PartsWell, host_begins, step_well}
use Rattle.journal_laws.proofs.asked.WellAsked.{IsWellAsked, operation_work}

-- replies that are told change nothing
gives : (parts : Parts) → PartsWell parts → PartsWell (giving parts [])
gives (Shell p) well = well
gives (Main p) well = well
gives (Tc p) well = well
gives (Ldm p) well = well

-- what a host asks itself is a request of the shell, or asks for nothing
own_well : (start : Start) (h : ℕ) (body : Body) → IsOwnWork start h body
    → (h ≡ 0 → IfSome (request_in body) IsOfRequest) → IsWellAsked body
own_well start h (Host (Continue (Request (Operate name op)) at)) own words = operation_work op (words own.0)
own_well start h (Host (Continue (Request r) at)) own words = tt
own_well start h (Client (TcKeyReq tx op)) own words = absurd own
own_well start h (Chain (LqhKeyReq tx work members at)) own words = absurd own
own_well start h body own words = tt

-- so a host that asks itself for a request makes one
own_request : (start : Start) (e : HostStep) (es : List HostStep)
    → IsOwn start e.host (log_of (machine start) es e.host) e.step.taken
    → request_of e ≡ request_in e.step.taken.body
own_request start e es own =
    ap (λ b. if b then request_in e.step.taken.body else None)
    (ap (λ b. b && is_own_work e.step.taken.body) from ∙ own_is_asked start e.host e.step.taken.body own.work)
  where
    from : (e.step.taken.from.0 == e.host) ≡ true
    from = eq-eqb e.step.taken.from.0 e.host (ap (λ (x : Signal). x.from.0) own.is)

module _ (start : Start) where
  abbrev OfWords : (ℕ → List HostStep) → Type 0
  OfWords logs = AreOfWords (logs 0)

  tell : NobodyStarts start → TellWell start OfWords IsWellAsked PartsWell
  tell nobody = record {
    begins = host_begins start nobody;
    gives = gives;
    steps = step_well;
    closes = λ cause. tt;
    asks = λ es e words own.
        own_well start e.host e.step.taken.body own.work
        (λ at.
        subst (λ o. IfSome o IsOfRequest) (own_request start e es own)
        (subst AreOfWords (log_of-own (machine start) e es 0 at) words).0);
    shorter = λ es e words.
        each_past (λ (e : HostStep). IfSome (request_of e) IsOfRequest) (log_of-past (machine start) e es 0) words;
  }

  pub all_ask : (logs : ℕ → List HostStep) → AreOfCluster start logs → AreOfWords (logs 0) → (h : ℕ)
      → Each (λ (e : HostStep). IsWellAsked e.step.taken.body) (logs h)
  all_ask logs are words = all_take start OfWords IsWellAsked PartsWell (tell are.nobody) logs are words
