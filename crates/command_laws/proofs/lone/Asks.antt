-- What the shell's host asks coordinators for in steps that aren't requests, and which of its replies answer operations
-- alone.
use Rattle.std.proofs.Common.{◌≡◌, ◌⊎◌, ◌≤◌, ℕ, Bool, true, false, List, [], ◌∷◌, ◌++◌, refl, sym, ap, ◌∙◌, subst, inl}
use Rattle.std.proofs.Common.{inr, arith}
use Rattle.std.specs.Prelude.{◌&&◌, Option, None, Some}
use Rattle.run_theory.proofs.Pasts.{each_map}
use Rattle.run_theory.specs.Lists.{Each, IsIn}
use Rattle.sig_core.specs.declared.member.TxId.{TxId}
use Rattle.sig_core.specs.declared.op.Answer.{Answer}
use Rattle.sig_core.specs.declared.op.Op.{Op}
use Rattle.sig_core.specs.declared.outs.Outgoing.{Outgoing}
use Rattle.sig_core.specs.declared.place.BlockId.TheVariants as block
use Rattle.sig_core.specs.declared.place.Place.{Place}
use Rattle.sig_core.specs.declared.reply.ApiReply.{ApiReply}
use Rattle.sig_core.specs.declared.reply.ApiReply.TheVariants.{Answered, Begun, Ended, Refused}
use Rattle.sig_core.specs.declared.reply.Refusal.TheVariants.{NoMember, TooManyOpen}
use Rattle.sig_core.specs.declared.request.ApiReq.TheVariants as request
use Rattle.sig_core.specs.declared.signal.Body.{Body}
use Rattle.sig_core.specs.declared.signal.Body.TheVariants.{Client}
use Rattle.sig_core.specs.declared.signal.client.ClientSignal.TheVariants.{TcBeginConf, TcKeyConf, TcKeyReq}
use Rattle.sig_core.specs.declared.signal.client.ClientSignal.TheVariants.{TcRollbackReq}
use Rattle.sig_core.specs.declared.signal.Signal.{Signal}
use Rattle.sig_core.specs.Step.{Step}
use Rattle.api_block.specs.Api.{api_row, request_row}
use Rattle.api_block.specs.declared.opened.Doing.TheVariants.{Committing}
use Rattle.api_block.specs.declared.opened.OpenTransaction.{OpenTransaction}
use Rattle.api_block.specs.Members.{least_node}
use Rattle.api_block.specs.Opened.{answered, has_tx, is_tx}
use Rattle.api_block.specs.Operate.{lone_by, lone_row}
use Rattle.api_block.specs.State.{ApiState}
use Rattle.node_core.specs.Blocks.{api_of, has_api}
use Rattle.node_core.specs.declared.host.Host as host
use Rattle.node_core.specs.Replies.{replies_of}
use Rattle.node_core.specs.Requests.{is_request}
use Rattle.node_core.specs.Row.{row}
use Rattle.world_core.proofs.HostNumbers.{api_runs}
use Rattle.world_core.specs.Machine.{after}
use Rattle.world_core.specs.Start.{Start}
use Rattle.world_core.specs.Steps.{HostStep}
use Rattle.run_theory.proofs.Tally.{tally_append, tally_none}
use Rattle.run_theory.specs.Counts.{one_if, tally}
use Rattle.host_laws.proofs.api.Begins.{in_middle}
use Rattle.host_laws.proofs.hosts.LinkCounts.{steps}
use Rattle.host_laws.proofs.hosts.SendKinds.{are_of, none_of}
use Rattle.host_laws.proofs.coordinator.Keys.{is_key, key_of_tx}
use Rattle.host_laws.proofs.coordinator.Lives.{is_start, start_of}
use Rattle.host_laws.proofs.coordinator.Moves.{same_tx-is}
use Rattle.host_laws.proofs.api.Wishes.{is_api, is_tc, second_fails, sends_of}
use Rattle.host_laws.specs.OpenedAfter.{opened_in}
use Rattle.command_laws.proofs.hosts.ApiChanges.{ApiChange, GoesOnAs, alone, answers, api_changes, commits, ends, idle}
use Rattle.command_laws.proofs.hosts.ApiChanges.{is_news_kind, is_row_reply, refuses, rests, starts, told, waits}
use Rattle.command_laws.proofs.hosts.Entries.{HasOne}
use Rattle.host_laws.proofs.hosts.BlocksAlong.{replies_are}
use Rattle.command_laws.proofs.hosts.BlockSteps.{api_host}
use Rattle.command_laws.proofs.quiet.Since.{sent_since}
use Rattle.command_laws.proofs.operations.TellsOnce.{is_wish_back_to, wish_back_of}

-- the answer of an operation alone
abbrev pub is_lone : ApiReply → Bool
is_lone (Answered None answer) = true
is_lone reply = false

-- the transaction of this number is held
pub has_number : (tx : TxId) (t : OpenTransaction) → has_tx tx t ≡ true → t.tx ≡ Some tx
has_number tx t = by t.tx
  where
    by : (o : Option TxId) → is_tx tx o ≡ true → o ≡ Some tx
    by None is = cc
    by (Some one) is = ap (λ v. Some v) (same_tx-is one tx is)

-- the step answers an operation alone, whose commit is asked for then
pub record AnswersLone (tx : TxId) (body : Body) (opened : List OpenTransaction) : Type 0 where
  pub answer : Answer
  pub about : body ≡ Client (TcKeyConf tx answer)
  pub has : HasOne tx None Committing opened

abbrev pub IsLoneStep : Body → List OpenTransaction → Type 0
IsLoneStep body opened = (tx : TxId) × AnswersLone tx body opened

not_lone : (r : ApiReply) → is_row_reply r ≡ true → is_lone r ≡ false
not_lone (Answered None answer) e = cc
not_lone _ e = refl

module _ (s : ApiState) (body : Body) where
  -- replies that stand behind others
  none_more : (step : Step ApiState) (more : List ApiReply) → step.state.replies ≡ s.replies ++ more
      → tally is_lone more ≡ 0 → tally is_lone step.state.replies ≡ tally is_lone s.replies
  none_more step more is none = omega (arith, ap (tally is_lone) is, tally_append is_lone s.replies more, none)

  goes_lone : (tx : TxId) (t u : OpenTransaction) (step : Step ApiState) → GoesOnAs s tx t u step
      → tally is_lone step.state.replies ≡ tally is_lone s.replies
  goes_lone tx t u step (told name called is replies sends) = none_more step (Begun name tx.tc ∷ []) replies refl
  goes_lone tx t u step (alone op called does is replies sends) = ap (tally is_lone) replies
  goes_lone tx t u step (idle is replies sends) = ap (tally is_lone) replies

  change_lone : (step : Step ApiState) → ApiChange s body step
      → IsLoneStep body step.state.opened ⊎ (tally is_lone step.state.replies ≡ tally is_lone s.replies)
  change_lone step (rests is adds kind) =
      inr (none_more step adds.more adds.is (tally_none is_lone adds.more
      (each_map (λ (r : ApiReply). is_row_reply r ≡ true) (λ (r : ApiReply). is_lone r ≡ false) adds.more not_lone
      adds.rows)))
  change_lone step (waits one ahead at about is replies sends) = inr (ap (tally is_lone) replies)
  change_lone step (answers one answer called at about passes does named is replies sends) =
      inr (none_more step (Answered (Some called) answer ∷ []) replies refl)
  change_lone step (commits one answer at about passes does named is replies sends) = inl (
    one,
    record {
      answer = answer;
      about = about;
      has = record {
        item = answered at.t Committing;
        inside =
            subst (IsIn (answered at.t Committing)) (sym is) (in_middle at.front (answered at.t Committing) at.back);
        own = has_number one at.t passes;
        called = named;
        does = refl;
      };
    },
  )
  change_lone step (ends one end at about passes is replies marks sends) =
      inr (none_more step (Ended at.t.name end ∷ []) replies refl)
  change_lone step (starts called one at u about passes is goes) = inr (goes_lone one at.t u step goes)
  change_lone step (refuses called at about passes is replies sends) =
      inr (none_more step (Refused called TooManyOpen ∷ []) replies refl)

host_lone : (g : host.Host) (x : Signal) → has_api g ≡ true → is_request x.body ≡ false
    → ((is_api x.to.block ≡ true) × IsLoneStep x.body (opened_in (row g x).state))
    ⊎ (tally is_lone (replies_of (row g x).state) ≡ tally is_lone (replies_of g))
host_lone g x has plain =
    by (api_host (λ (step : Step ApiState). ((is_api x.to.block ≡ true) × IsLoneStep x.body step.state.opened)
    ⊎ (tally is_lone step.state.replies ≡ tally is_lone (api_of g).replies)) g x has
    (λ at. step_goes (api_row (api_of g) x).state at (change_lone (api_of g) x.body (api_row (api_of g) x)
    (api_changes (api_of g) x.body plain))) (λ off. inr refl))
  where
    step_goes : (s : ApiState) → x.to.block ≡ block.Api → IsLoneStep x.body s.opened
        ⊎ (tally is_lone s.replies ≡ tally is_lone (api_of g).replies)
        → ((is_api x.to.block ≡ true) × IsLoneStep x.body s.opened)
        ⊎ (tally is_lone s.replies ≡ tally is_lone (api_of g).replies)
    step_goes s at (inl lone) = inl (ap is_api at, lone)
    step_goes s at (inr same) = inr same

    by : ((is_api x.to.block ≡ true) × IsLoneStep x.body (api_of (row g x).state).opened)
        ⊎ (tally is_lone (api_of (row g x).state).replies ≡ tally is_lone (api_of g).replies)
        → ((is_api x.to.block ≡ true) × IsLoneStep x.body (opened_in (row g x).state))
        ⊎ (tally is_lone (replies_of (row g x).state) ≡ tally is_lone (replies_of g))
    by (inl lone) = inl lone
    by (inr same) = inr (ap (tally is_lone) (replies_are (row g x).state) ∙ same
        ∙ ap (tally is_lone) (sym (replies_are g)))

-- one of these steps behind a log answers an operation alone
pub record HasLone (start : Start) (later log : List HostStep) : Type 0 where
  pub newer : List HostStep
  pub step : HostStep
  pub older : List HostStep
  pub is : later ≡ newer ++ step ∷ older
  pub tx : TxId
  pub block : is_api step.step.taken.to.block ≡ true
  pub lone : AnswersLone tx step.step.taken.body (opened_in (after start 0 (step ∷ (older ++ log))))

pub lone_since : (start : Start) (later log : List HostStep)
    → Each (λ (e : HostStep). is_request e.step.taken.body ≡ false) later
    → HasLone start later log ⊎ (tally is_lone (replies_of (after start 0 (later ++ log))) ≡ tally is_lone
    (replies_of (after start 0 log)))
lone_since start [] log plain = inr refl
lone_since start (e ∷ later) log plain = by (lone_since start later log plain.1)
  where
    next : tally is_lone (replies_of (after start 0 (later ++ log))) ≡ tally is_lone (replies_of (after start 0 log))
        → ((is_api e.step.taken.to.block ≡ true) × IsLoneStep e.step.taken.body
        (opened_in (after start 0 (e ∷ (later ++ log)))))
        ⊎ (tally is_lone (replies_of (after start 0 (e ∷ (later ++ log)))) ≡ tally is_lone
        (replies_of (after start 0 (later ++ log))))
        → HasLone start (e ∷ later) log ⊎
        (tally is_lone (replies_of (after start 0 (e ∷ (later ++ log))))
        ≡ tally is_lone (replies_of (after start 0 log)))
    next before (inl lone) = inl (record {
      newer = [];
      step = e;
      older = later;
      is = refl;
      tx = lone.1.0;
      block = lone.0;
      lone = lone.1.1;
    })
    next before (inr same) = inr (same ∙ before)

    by : HasLone start later log ⊎ (tally is_lone (replies_of (after start 0 (later ++ log))) ≡ tally is_lone
        (replies_of (after start 0 log)))
        → HasLone start (e ∷ later) log ⊎
        (tally is_lone (replies_of (after start 0 (e ∷ (later ++ log))))
        ≡ tally is_lone (replies_of (after start 0 log)))
    by (inl h) = inl (record {
      newer = e ∷ h.newer;
      step = h.step;
      older = h.older;
      is = ap (λ w. e ∷ w) h.is;
      tx = h.tx;
      block = h.block;
      lone = h.lone;
    })
    by (inr before) =
        next before (host_lone (after start 0 (later ++ log)) e.step.taken (api_runs start (later ++ log)) plain.0)

module _ (tx : TxId) where
  none_news : (to : Place) (body : Body) → is_news_kind body ≡ true
      → (is_wish_back_to tx to body ≡ false) × (is_key tx to body ≡ false)
  none_news to body e = (second_fails (is_tc to.block) (wish body e), second_fails (is_tc to.block) (key body e))
    where
      wish : (b : Body) → is_news_kind b ≡ true → wish_back_of tx b ≡ false
      wish (Client (TcRollbackReq one)) k = cc
      wish _ k = refl

      key : (b : Body) → is_news_kind b ≡ true → key_of_tx tx b ≡ false
      key (Client (TcKeyReq one op)) k = cc
      key _ k = refl

  -- no abort is wished for, and an operation is asked for only where the transaction has begun
  pub record AsksOnce (body : Body) (sends : List Outgoing) : Type 0 where
    pub wishes : sends_of (is_wish_back_to tx) sends ≡ 0
    pub keys : sends_of (is_key tx) sends ≤ one_if (start_of tx body)

  module _ (s : ApiState) (body : Body) where
    no_asks : (sends : List Outgoing) → sends ≡ [] → AsksOnce body sends
    no_asks sends none = record {
      wishes = ap (sends_of (is_wish_back_to tx)) none;
      keys = omega (arith, ap (sends_of (is_key tx)) none);
    }

    news_asks : (sends : List Outgoing) → are_of is_news_kind sends ≡ true → AsksOnce body sends
    news_asks sends kind = record {
      wishes = none_of is_news_kind (is_wish_back_to tx) (λ to b k. (none_news to b k).0) sends kind;
      keys = omega (arith, none_of is_news_kind (is_key tx) (λ to b k. (none_news to b k).1) sends kind);
    }

    goes_asks : (name : Option ℕ) (one : TxId) (t u : OpenTransaction) (step : Step ApiState)
        → body ≡ Client (TcBeginConf name one) → GoesOnAs s one t u step → AsksOnce body step.effects.sends
    goes_asks name one t u step about (told called named is replies sends) = no_asks step.effects.sends sends
    goes_asks name one t u step about (alone op named does is replies sends) = record {
      wishes = ap (sends_of (is_wish_back_to tx)) sends;
      keys = omega (arith, ap (sends_of (is_key tx)) sends, ap (λ b. one_if (start_of tx b)) about);
    }
    goes_asks name one t u step about (idle is replies sends) = no_asks step.effects.sends sends

    change_asks : (step : Step ApiState) → ApiChange s body step → AsksOnce body step.effects.sends
    change_asks step (rests is adds kind) = news_asks step.effects.sends kind
    change_asks step (waits one ahead at about is replies sends) = no_asks step.effects.sends sends
    change_asks step (answers one answer called at about passes does named is replies sends) =
        no_asks step.effects.sends sends
    change_asks step (commits one answer at about passes does named is replies sends) = record {
      wishes = ap (sends_of (is_wish_back_to tx)) sends;
      keys = omega (arith, ap (sends_of (is_key tx)) sends);
    }
    change_asks step (ends one end at about passes is replies marks sends) = news_asks step.effects.sends sends
    change_asks step (starts called one at u about passes is goes) = goes_asks called one at.t u step about goes
    change_asks step (refuses called at about passes is replies sends) = no_asks step.effects.sends sends

  host_asks : (g : host.Host) (x : Signal) → has_api g ≡ true → is_request x.body ≡ false
      → (sends_of (is_wish_back_to tx) (row g x).effects.sends ≡ 0)
      × (sends_of (is_key tx) (row g x).effects.sends ≤ one_if (is_start tx x.to x.body))
  host_asks g x has plain =
      api_host (λ (step : Step ApiState). (sends_of (is_wish_back_to tx) step.effects.sends ≡ 0)
      × (sends_of (is_key tx) step.effects.sends ≤ one_if (is_start tx x.to x.body))) g x has
      (λ at. at_step at (change_asks (api_of g) x.body (api_row (api_of g) x) (api_changes (api_of g) x.body plain)))
      (λ off. (refl, omega arith))
    where
      at_step : {sends : List Outgoing} → x.to.block ≡ block.Api → AsksOnce x.body sends
          → (sends_of (is_wish_back_to tx) sends ≡ 0) × (sends_of (is_key tx) sends ≤ one_if (is_start tx x.to x.body))
      at_step at asks = (asks.wishes, omega (arith, asks.keys, ap (λ of. one_if (is_api of && start_of tx x.body)) at))

  pub asks_since : (start : Start) (later log : List HostStep)
      → Each (λ (e : HostStep). is_request e.step.taken.body ≡ false) later
      → (sent_since start (is_wish_back_to tx) 0 later log ≡ 0)
      × (sent_since start (is_key tx) 0 later log ≤ steps (is_start tx) later)
  asks_since start [] log plain = (refl, omega arith)
  asks_since start (e ∷ later) log plain =
      let rest = asks_since start later log plain.1 in
      let here = host_asks (after start 0 (later ++ log)) e.step.taken (api_runs start (later ++ log)) plain.0 in
      (omega (arith, rest.0, here.0), omega (arith, rest.1, here.1))

-- the request of an operation alone asks for a transaction alone, and answers none
pub record LoneFirst (tx : TxId) (s : ApiState) (step : Step ApiState) : Type 0 where
  pub wishes : sends_of (is_wish_back_to tx) step.effects.sends ≡ 0
  pub keys : sends_of (is_key tx) step.effects.sends ≡ 0
  pub lone : tally is_lone step.state.replies ≡ tally is_lone s.replies

pub lone_first : (tx : TxId) (s : ApiState) (op : Op) → LoneFirst tx s (request_row s (request.Operate None op))
unfolding request_row lone_row
lone_first tx s op = by (least_node s.view.full)
  where
    by : (o : Option ℕ) → LoneFirst tx s (lone_by s op o)
    by None = record {
      wishes =
          refl;
      keys = refl;
      lone = omega (arith, tally_append is_lone s.replies (Refused None (NoMember 0) ∷ []));
    }
    by (Some node) = record { wishes = refl; keys = refl; lone = refl }
