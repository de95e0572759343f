-- No commit or abort is wished for until an operation alone is answered.
use Rattle.std.proofs.Common.{◌≡◌, sym, ap, ◌∙◌, ◌⊎◌, false, List, [], ◌∷◌, ◌++◌, refl, ap, inl, inr, arith, true}
use Rattle.std.specs.Prelude.{None}
use Rattle.run_theory.specs.Lists.{Each}
use Rattle.sig_core.specs.declared.member.TxId.{TxId}
use Rattle.sig_core.specs.declared.op.Answer.{Answer}
use Rattle.sig_core.specs.declared.outs.Outgoing.{Outgoing}
use Rattle.sig_core.specs.declared.reply.ApiReply.TheVariants.{Answered}
use Rattle.sig_core.specs.declared.signal.Body.{Body}
use Rattle.sig_core.specs.declared.signal.Signal.{Signal}
use Rattle.sig_core.specs.Step.{Step}
use Rattle.api_block.specs.Api.{api_row}
use Rattle.api_block.specs.declared.opened.OpenTransaction.{OpenTransaction}
use Rattle.api_block.specs.State.{ApiState}
use Rattle.node_core.specs.Blocks.{api_of, has_api}
use Rattle.node_core.specs.declared.host.Host as host
use Rattle.node_core.specs.Requests.{is_request}
use Rattle.node_core.specs.Row.{row}
use Rattle.world_core.proofs.HostNumbers.{api_runs}
use Rattle.world_core.specs.Machine.{after, step_after}
use Rattle.world_core.specs.Start.{Start}
use Rattle.world_core.specs.Steps.{HostStep}
use Rattle.host_laws.proofs.hosts.SendKinds.{none_of}
use Rattle.host_laws.proofs.api.Wishes.{sends_of}
use Rattle.command_laws.proofs.hosts.ApiChanges.{ApiChange, GoesOnAs, alone, answers, api_changes, commits, ends, idle}
use Rattle.command_laws.proofs.hosts.ApiChanges.{is_news_kind, refuses, rests, starts, told, waits}
use Rattle.command_laws.proofs.operations.EarlySteps.{is_wish_to}
use Rattle.command_laws.proofs.hosts.EntryGoes.{HasAnswered, IsAnswering}
use Rattle.host_laws.proofs.hosts.BlocksAlong.{replies_are}
use Rattle.command_laws.proofs.hosts.BlockSteps.{api_host, api_seen}
use Rattle.command_laws.proofs.operations.Asks.{no_wish_news}
use Rattle.command_laws.proofs.quiet.Since.{sent_since}

-- neither is wished for of any transaction
abbrev WishNone : List Outgoing → Type 0
WishNone sends = (tx : TxId) → sends_of (is_wish_to tx) sends ≡ 0

record TellsLone (s : ApiState) (step : Step ApiState) : Type 0 where
  answer : Answer
  told : step.state.replies ≡ s.replies ++ Answered None answer ∷ []

goes_none : (s : ApiState) (one : TxId) (t u : OpenTransaction) (step : Step ApiState) → GoesOnAs s one t u step
    → WishNone step.effects.sends
goes_none s one t u step (told name called is replies sends) tx = ap (sends_of (is_wish_to tx)) sends
goes_none s one t u step (alone op called does is replies sends) tx = ap (sends_of (is_wish_to tx)) sends
goes_none s one t u step (idle is replies sends) tx = ap (sends_of (is_wish_to tx)) sends

change_none : (s : ApiState) (body : Body) (step : Step ApiState) → ApiChange s body step
    → TellsLone s step ⊎ WishNone step.effects.sends
change_none s body step (rests is adds kind) =
    inr (λ tx. none_of is_news_kind (is_wish_to tx) (no_wish_news tx) step.effects.sends kind)
change_none s body step (waits one ahead at about is replies sends) = inr (λ tx. ap (sends_of (is_wish_to tx)) sends)
change_none s body step (answers one answer called at about passes does named is replies sends) =
    inr (λ tx. ap (sends_of (is_wish_to tx)) sends)
change_none s body step (commits one answer at about passes does named is replies sends) = inl (record {
  answer = answer;
  told = replies;
})
change_none s body step (ends one end at about passes is replies marks sends) =
    inr (λ tx. none_of is_news_kind (is_wish_to tx) (no_wish_news tx) step.effects.sends sends)
change_none s body step (starts called one at u about passes is goes) = inr (goes_none s one at.t u step goes)
change_none s body step (refuses called at about passes is replies sends) =
    inr (λ tx. ap (sends_of (is_wish_to tx)) sends)

host_none : (g : host.Host) (x : Signal) → has_api g ≡ true → is_request x.body ≡ false → IsAnswering None g (row g x)
    ⊎ WishNone (row g x).effects.sends
host_none g x has plain =
    by (api_host (λ (step : Step ApiState). TellsLone (api_of g) step ⊎ WishNone step.effects.sends) g x has
    (λ at. change_none (api_of g) x.body (api_row (api_of g) x) (api_changes (api_of g) x.body plain))
    (λ off. inr (λ tx. refl)))
  where
    by : TellsLone (api_of g) (api_seen (row g x)) ⊎ WishNone (row g x).effects.sends → IsAnswering None g (row g x)
        ⊎ WishNone (row g x).effects.sends
    by (inl tells) = inl (record {
      answer = tells.answer;
      told = replies_are (row g x).state ∙ tells.told ∙ ap (λ rs. rs ++ Answered None tells.answer ∷ [])
          (sym (replies_are g));
    })
    by (inr none) = inr none

-- along steps of the shell's host that aren't requests
pub wishes_since : (start : Start) (later log : List HostStep)
    → Each (λ (e : HostStep). is_request e.step.taken.body ≡ false) later
    → HasAnswered None start later log ⊎ ((tx : TxId) → sent_since start (is_wish_to tx) 0 later log ≡ 0)
wishes_since start [] log plain = inr (λ tx. refl)
wishes_since start (e ∷ later) log plain = by (wishes_since start later log plain.1)
  where
    next : ((tx : TxId) → sent_since start (is_wish_to tx) 0 later log ≡ 0)
        → IsAnswering None (after start 0 (later ++ log)) (step_after start 0 (later ++ log) e)
        ⊎ WishNone (step_after start 0 (later ++ log) e).effects.sends
        → HasAnswered None start (e ∷ later) log
        ⊎ ((tx : TxId) → sent_since start (is_wish_to tx) 0 (e ∷ later) log ≡ 0)
    next before (inl answering) = inl (record { newer = []; step = e; older = later; is = refl; answering = answering })
    next before (inr none) = inr (λ tx. omega (arith, before tx, none tx))

    by : HasAnswered None start later log ⊎ ((tx : TxId) → sent_since start (is_wish_to tx) 0 later log ≡ 0)
        → HasAnswered None start (e ∷ later) log
        ⊎ ((tx : TxId) → sent_since start (is_wish_to tx) 0 (e ∷ later) log ≡ 0)
    by (inl a) = inl (record {
      newer = e ∷ a.newer;
      step = a.step;
      older = a.older;
      is = ap (λ w. e ∷ w) a.is;
      answering = a.answering;
    })
    by (inr before) =
        next before (host_none (after start 0 (later ++ log)) e.step.taken (api_runs start (later ++ log)) plain.0)
