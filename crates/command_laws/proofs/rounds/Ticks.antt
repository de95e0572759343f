-- Rounds of time: the rows of each node have one at a command's request, and the last one is replied.
use Rattle.std.proofs.Common.{◌≡◌, ◌≢◌, ◌⊎◌, ◌+◌, ◌-◌, ◌<◌, ◌≤◌, ◌==◌, ◌&&◌, ℕ, zero, suc, Bool, true, false, List, []}
use Rattle.std.proofs.Common.{◌∷◌, ◌++◌, take, filter, length, refl, sym, ap, ◌∙◌, inl, inr, eq-eqb, ne_eqb, arith}
use Rattle.std.proofs.lemmas.Bool.{cases_eq}
use Rattle.std.proofs.lemmas.List.{append-nil}
use Rattle.std.proofs.lemmas.List.Elements.{filter-append}
use Rattle.std.proofs.Math.Seq.{drop-append_seam}
use Rattle.std.specs.Prelude.{drop}
use Rattle.run_theory.specs.Cuts.{IsCut}
use Rattle.run_theory.specs.Links.{sent, taken}
use Rattle.run_theory.specs.Lists.{Each}
use Rattle.sig_core.specs.declared.member.Member.{Member}
use Rattle.sig_core.specs.declared.member.TxId.{TxId}
use Rattle.sig_core.specs.declared.place.Place.{Place}
use Rattle.sig_core.specs.declared.reply.ApiReply.{ApiReply}
use Rattle.sig_core.specs.declared.reply.ApiReply.TheVariants.{Digest, Row, Rows, Ticked}
use Rattle.sig_core.specs.declared.request.ApiReq.TheVariants.{Tick}
use Rattle.sig_core.specs.declared.signal.Body.{Body}
use Rattle.sig_core.specs.declared.signal.Body.TheVariants.{Host}
use Rattle.sig_core.specs.declared.signal.host.HostSignal.TheVariants.{Round}
use Rattle.sig_core.specs.declared.view.View.{View}
use Rattle.sig_core.specs.Place.{rows_of}
use Rattle.sig_core.specs.Step.{Step}
use Rattle.frag_map.specs.Layout.{first_view, members}
use Rattle.frag_map.specs.Replicas.{first_start}
use Rattle.api_block.specs.declared.members.TheConstants.{TOLD}
use Rattle.api_block.specs.Api.{api_table, request_row}
use Rattle.api_block.specs.Commands.{tick_row, ticked_if}
use Rattle.api_block.specs.declared.members.News.{News}
use Rattle.api_block.specs.declared.members.News.TheVariants as news
use Rattle.api_block.specs.Members.{everyone, telling_all}
use Rattle.api_block.specs.State.{ApiState}
use Rattle.node_core.proofs.HostLemmas.{IsFront}
use Rattle.node_core.specs.Blocks.{api_of}
use Rattle.node_core.specs.Replies.{replies_of}
use Rattle.node_core.specs.Requests.{is_request}
use Rattle.world_core.proofs.HostNumbers.{api_runs, host_below, rows_host_apart}
use Rattle.world_core.proofs.Replies.{replies_grow}
use Rattle.world_core.specs.Hosts.{first_hosts, rows_host}
use Rattle.world_core.specs.Machine.{after, machine, step_after}
use Rattle.world_core.specs.Start.{Start}
use Rattle.world_core.specs.Steps.{HostStep}
use Rattle.host_laws.proofs.hosts.BlocksAlong.{replies_are}
use Rattle.api_block.proofs.ApiTurns.{signal_turns}
use Rattle.host_laws.proofs.hosts.LinkCounts.{few_sends, signals, steps, steps_from, to_host}
use Rattle.run_theory.proofs.Tally.{tally_append}
use Rattle.host_laws.proofs.api.Wishes.{sends_of}
use Rattle.run_theory.specs.Counts.{one_if}
use Rattle.command_laws.proofs.hosts.ApiChanges.{ApiChange, alone, answers, api_changes, commits, ends, idle}
use Rattle.command_laws.proofs.hosts.ApiChanges.{is_row_reply}
use Rattle.command_laws.proofs.hosts.ApiChanges.{refuses, rests, starts, told, waits}
use Rattle.command_laws.proofs.hosts.BlockSteps.{api_host, api_seen}
use Rattle.command_laws.proofs.ends.Committed.{cut_at_first}
use Rattle.command_laws.proofs.quiet.First.{IsFirst, first_step, request_first}
use Rattle.command_laws.proofs.waits.HoldersTold.{sent_to_append}
use Rattle.command_laws.proofs.lone.Answered.{shell_view}
use Rattle.command_laws.proofs.rounds.RowAsks.{is_no_ask, none_asked}
use Rattle.command_laws.proofs.quiet.Since.{few_taken, link_sent_to, link_taken, sent_since_to, taken_few, taken_is}
use Rattle.command_laws.proofs.quiet.Since.{taken_since}
use Rattle.command_laws.specs.Served.{IsServedBetween, replies_since}
use Rattle.command_laws.specs.Ticked.{IsTicked, is_lqh, is_round, is_round_to, is_ticked, rounds_of, ticked_at}

-- a list of signals that are told to members
told_append : (test : Place → Body → Bool) (what : News) (xs ys : List Member)
    → sends_of test (telling_all what (xs ++ ys))
    ≡ sends_of test (telling_all what xs) + sends_of test (telling_all what ys)
told_append test what [] ys = omega arith
told_append test what (x ∷ xs) ys = omega (arith, told_append test what xs ys)

abbrev nobody : List Member
nobody = []

take_none : (n : ℕ) → take n nobody ≡ nobody
take_none zero = refl
take_none (suc n) = refl

-- no signal makes the API send a round
no_news : (tx : TxId) (xs : List Member) → sends_of is_round_to (telling_all (news.Committed tx) xs) ≡ 0
no_news tx [] = refl
no_news tx (x ∷ xs) = omega (arith, no_news tx xs)

no_round : (s : ApiState) (body : Body) → is_request body ≡ false
    → sends_of is_round_to (api_table s body).effects.sends ≡ 0
no_round s body = signal_turns s body (λ step. sends_of is_round_to step.effects.sends ≡ 0) (record {
  begins_named = λ name tx at f called is e. refl;
  begins_alone = λ name tx at f op is e d. refl;
  begins_idle = λ name tx at f is. refl;
  refuses = λ name at f is. refl;
  answers = λ tx answer at f name is d e. refl;
  answers_last = λ tx answer at f is d e. refl;
  answers_none = λ tx answer at f is other. refl;
  commits = λ tx epoch at f is. no_news tx (everyone s.view);
  acknowledges = λ tx epoch is none. no_news tx (everyone s.view);
  aborts = λ tx cause at f is. refl;
  waits = λ tx ahead at f is. refl;
  dumps = λ d rows next at is. refl;
  dumped = λ d rows next is. refl;
  rests = λ void stray. refl;
})

-- nor reply that one has passed
none_ticked : (more : List ApiReply) → Each (λ (r : ApiReply). is_row_reply r ≡ true) more → filter is_ticked more ≡ []
none_ticked [] rows = refl
none_ticked (Ticked rounds ∷ more) rows = cc
none_ticked (Row key value ∷ more) rows = none_ticked more rows.1
none_ticked (Rows node count ∷ more) rows = none_ticked more rows.1
none_ticked (Digest node digest ∷ more) rows = none_ticked more rows.1
none_ticked (_ ∷ more) rows = cc

abbrev TicksNone : ApiState → Step ApiState → Type 0
TicksNone s step = filter is_ticked step.state.replies ≡ filter is_ticked s.replies

adds_none : (s : ApiState) (step : Step ApiState) (more : List ApiReply) → step.state.replies ≡ s.replies ++ more
    → filter is_ticked more ≡ [] → TicksNone s step
adds_none s step more is none =
    ap (filter is_ticked) is ∙ filter-append is_ticked s.replies more ∙ ap (λ xs. filter is_ticked s.replies ++ xs) none
    ∙ append-nil (filter is_ticked s.replies)

no_tick : (s : ApiState) (body : Body) (step : Step ApiState) → ApiChange s body step → TicksNone s step
no_tick s body step (rests is adds kind) = adds_none s step adds.more adds.is (none_ticked adds.more adds.rows)
no_tick s body step (waits tx ahead one about is replies sends) = ap (filter is_ticked) replies
no_tick s body step (answers tx answer name one about passes does named is replies sends) =
    adds_none s step _ replies refl
no_tick s body step (commits tx answer one about passes does named is replies sends) = adds_none s step _ replies refl
no_tick s body step (ends tx end one about passes is replies marks sends) = adds_none s step _ replies refl
no_tick s body step (starts name tx one u about passes is (told called named same replies sends)) =
    adds_none s step _ replies refl
no_tick s body step (starts name tx one u about passes is (alone op named does same replies sends)) =
    ap (filter is_ticked) replies
no_tick s body step (starts name tx one u about passes is (idle same replies sends)) = ap (filter is_ticked) replies
no_tick s body step (refuses name one about passes is replies sends) = adds_none s step _ replies refl

module _ (start : Start) where
  -- the shell's host sends no round at what isn't a request
  no_round_later : (r : ℕ) (later log : List HostStep)
      → Each (λ (e : HostStep). is_request e.step.taken.body ≡ false) later
      → sent_since_to start is_round_to 0 r later log ≡ 0
  no_round_later r [] log plain = refl
  no_round_later r (e ∷ later) log plain =
      omega (
        arith,
        no_round_later r later log plain.1,
        few_sends start r is_round_to (step_after start 0 (later ++ log) e).effects.sends,
        here,
      )
    where
      here : sends_of is_round_to (step_after start 0 (later ++ log) e).effects.sends ≡ 0
      here = api_host (λ (step : Step ApiState). sends_of is_round_to step.effects.sends ≡ 0)
          (after start 0 (later ++ log))
          e.step.taken (api_runs start (later ++ log))
          (λ at. no_round (api_of (after start 0 (later ++ log))) e.step.taken.body plain.0) (λ off. refl)

  no_tick_later : (later log : List HostStep) → Each (λ (e : HostStep). is_request e.step.taken.body ≡ false) later
      → filter is_ticked (replies_of (after start 0 (later ++ log))) ≡ filter is_ticked (replies_of (after start 0 log))
  no_tick_later [] log plain = refl
  no_tick_later (e ∷ later) log plain =
      ap (filter is_ticked) (replies_are (after start 0 (e ∷ (later ++ log)))) ∙ here
      ∙ sym (ap (filter is_ticked) (replies_are (after start 0 (later ++ log)))) ∙ no_tick_later later log plain.1
    where
      g : ApiState
      g = api_of (after start 0 (later ++ log))

      here : TicksNone g (api_seen (step_after start 0 (later ++ log) e))
      here = api_host (TicksNone g) (after start 0 (later ++ log)) e.step.taken (api_runs start (later ++ log))
          (λ at. no_tick g e.step.taken.body (api_table g e.step.taken.body) (api_changes g e.step.taken.body plain.0))
          (λ off. refl)

  -- of the rounds that are sent to all nodes up to k one is for this node, if it is one of them
  module _ (node : ℕ) (some : 1 ≤ node) (low : node ≤ start.shape.nodes) where
    abbrev for_node : Place → Body → Bool
    for_node = to_host start (rows_host start node) is_round_to

    at_other : (k : ℕ) → suc k ≤ start.shape.nodes → k + 1 ≢ node
        → sends_of for_node (telling_all news.Round (first_start (k + 1) ∷ [])) ≡ 0
    at_other k few apart = ap (λ b. one_if (b && true) + 0)
        (ne_eqb (rows_host start (k + 1)) (rows_host start node)
        (λ same. apart (rows_host_apart start (k + 1) node (omega arith) (omega (arith, few)) some low same)))

    at_own : (k : ℕ) → k + 1 ≡ node → sends_of for_node (telling_all news.Round (first_start (k + 1) ∷ [])) ≡ 1
    at_own k same = ap (λ b. one_if (b && true) + 0)
        (eq-eqb (rows_host start (k + 1)) (rows_host start node) (ap (rows_host start) same))

    none_for : (k : ℕ) → k < node → k ≤ start.shape.nodes → sends_of for_node (telling_all news.Round (members k)) ≡ 0
    none_for zero above few = refl
    none_for (suc k) above few =
        omega (
          arith,
          told_append for_node news.Round (members k) (first_start (k + 1) ∷ []),
          none_for k (omega (arith, above)) (omega (arith, few)),
          at_other k few (λ same. omega (arith, same, above)),
        )

    one_for : (k : ℕ) → node ≤ k → k ≤ start.shape.nodes → sends_of for_node (telling_all news.Round (members k)) ≡ 1
    one_for zero below few = absurd (omega (arith, below, some))
    one_for (suc k) below few = by (cases_eq (k + 1) node) (one_for k)
      where
        by : (k + 1 ≡ node) ⊎ (k + 1 ≢ node)
            → (node ≤ k → k ≤ start.shape.nodes → sends_of for_node (telling_all news.Round (members k)) ≡ 1)
            → sends_of for_node (telling_all news.Round (members (suc k))) ≡ 1
        by (inl same) before =
            omega (
              arith,
              told_append for_node news.Round (members k) (first_start (k + 1) ∷ []),
              none_for k (omega (arith, same)) (omega (arith, few)),
              at_own k same,
            )
        by (inr apart) before =
            omega (
              arith,
              told_append for_node news.Round (members k) (first_start (k + 1) ∷ []),
              before (omega (arith, apart, below)) (omega (arith, few)),
              at_other k few apart,
            )

    sent_all : sends_of for_node (telling_all news.Round (everyone (first_view start.shape.nodes))) ≡ 1
    unfolding everyone
    sent_all =
        ap (λ (xs : List Member). sends_of for_node (telling_all news.Round (members start.shape.nodes ++ xs)))
        (take_none (TOLD - length (members start.shape.nodes)))
        ∙ ap (λ (xs : List Member). sends_of for_node (telling_all news.Round xs))
        (append-nil (members start.shape.nodes))
        ∙ one_for start.shape.nodes low (omega arith)

plain_round : (to : Place) (body : Body) → is_round_to to body ≡ true → is_request body ≡ false
plain_round to (Host Round) e = refl
plain_round to body e = by body (is_lqh to.block) e
  where
    by : (b : Body) (at : Bool) → (at && is_round b) ≡ true → is_request b ≡ false
    by (Host Round) at e = refl
    by _ true e = cc
    by _ false e = cc

not_asked : (to : Place) (body : Body) → is_no_ask body ≡ true → is_round_to to body ≡ false
not_asked to (Host Round) e = cc
not_asked to body e = by body (is_lqh to.block) e
  where
    by : (b : Body) (at : Bool) → is_no_ask b ≡ true → (at && is_round b) ≡ false
    by (Host Round) at e = cc
    by _ true e = refl
    by _ false e = refl

module _ (start : Start) (was now : ℕ → List HostStep) (round of : ℕ)
    (served : IsServedBetween start was now (Tick round of)) where
  f : IsFirst start was now (Tick round of)
  f = request_first start was now (Tick round of) served

  abbrev cut : IsCut was now
  cut = cut_at_first was now f.later f.first f.is served.cut

  abbrev s : ApiState
  s = api_of (after start 0 (was 0))

  first_is : api_seen (step_after start 0 (was 0) f.first) ≡ tick_row s round of
  unfolding request_row
  first_is = first_step start was now (Tick round of) f

  -- what is replied at the request
  first_replies : replies_of (after start 0 (f.first ∷ was 0)) ≡ replies_of (after start 0 (was 0))
      ++ ticked_at of (round == of)
  unfolding tick_row
  first_replies =
      replies_are (after start 0 (f.first ∷ was 0)) ∙ ap (λ (step : Step ApiState). step.state.replies) first_is
      ∙ by (round == of) ∙ ap (λ rs. rs ++ ticked_at of (round == of)) (sym (replies_are (after start 0 (was 0))))
    where
      by : (b : Bool) → (ticked_if s of b).replies ≡ s.replies ++ ticked_at of b
      by true = refl
      by false = sym (append-nil s.replies)

  before_all : IsFront (replies_of (after start 0 (was 0))) (replies_of (after start 0 (now 0)))
  before_all = replies_grow start (was 0) (now 0) (served.cut 0)

  since_is : replies_since start was now ≡ before_all.more
  since_is = ap (drop (length (replies_of (after start 0 (was 0))))) before_all.is
      ∙ drop-append_seam (replies_of (after start 0 (was 0))) before_all.more

  cancel : (xs ys zs : List ApiReply) → xs ++ ys ≡ xs ++ zs → ys ≡ zs
  cancel [] ys zs is = is
  cancel (x ∷ xs) ys zs is = let rest : xs ++ ys ≡ xs ++ zs = cc in cancel xs ys zs rest

  ticked_self : (b : Bool) → filter is_ticked (ticked_at of b) ≡ ticked_at of b
  ticked_self true = refl
  ticked_self false = refl

  told_once : filter is_ticked (replies_since start was now) ≡ ticked_at of (round == of)
  told_once =
      ap (filter is_ticked) since_is
      ∙ cancel (filter is_ticked (replies_of (after start 0 (was 0)))) _ _
      (sym (filter-append is_ticked (replies_of (after start 0 (was 0))) before_all.more)
      ∙ ap (filter is_ticked) (sym before_all.is)
      ∙ ap (λ log. filter is_ticked (replies_of (after start 0 log))) f.is
      ∙ no_tick_later start f.later (f.first ∷ was 0) f.plain
      ∙ ap (filter is_ticked) first_replies
      ∙ filter-append is_ticked (replies_of (after start 0 (was 0))) (ticked_at of (round == of))
      ∙ ap (λ xs. filter is_ticked (replies_of (after start 0 (was 0))) ++ xs) (ticked_self (round == of)))

  module _ (node : ℕ) (some : 1 ≤ node) (low : node ≤ start.shape.nodes) where
    abbrev r : ℕ
    r = rows_host start node

    there : r < first_hosts start
    there = host_below start (rows_of node) some low

    first_sends : sends_of (to_host start r is_round_to) (step_after start 0 (was 0) f.first).effects.sends ≡ 1
    unfolding tick_row
    first_sends =
        ap (λ (step : Step ApiState). sends_of (to_host start r is_round_to) step.effects.sends) first_is
        ∙ ap (λ (v : View). sends_of (to_host start r is_round_to) (telling_all news.Round (everyone v)))
        (shell_view start (was 0))
        ∙ sent_all start node some low

    sent_one : sent_since_to start is_round_to 0 r (cut 0).newer (was 0) ≡ 1
    sent_one =
        omega (
          arith,
          sent_to_append start is_round_to 0 r f.later (f.first ∷ []) (was 0),
          no_round_later start r f.later (f.first ∷ was 0) f.plain,
          first_sends,
        )

    taken_one : taken_since start is_round_to 0 (cut r).newer ≡ 1
    taken_one =
        omega (
          arith,
          sent_one,
          ap (signals is_round_to) (served.since.quiet 0 r (omega arith) there),
          ap (signals is_round_to) (served.before.quiet 0 r (omega arith) there),
          ap (λ log. signals is_round_to (sent (machine start) 0 r log)) (cut 0).is,
          ap (λ log. signals is_round_to (taken (machine start) 0 log)) (cut r).is,
          link_sent_to start is_round_to 0 r (cut 0).newer (was 0),
          link_taken start is_round_to 0 (cut r).newer (was r),
        )

    from_none : (k : ℕ) → k ≢ 0 → signals is_round_to (taken (machine start) k (cut r).newer) ≡ 0
    from_none zero other = absurd (other refl)
    from_none (suc k) other =
        omega (
          arith,
          taken_is start is_round_to (suc k) (cut r).newer,
          few_taken start was now served.before served.since cut is_round_to (suc k) r,
          none_asked start is_round_to not_asked k (cut (suc k)).newer (was (suc k)),
        )

    steps_one : steps is_round_to (cut r).newer ≡ 1
    steps_one =
        omega (
          arith,
          taken_one,
          taken_few start is_round_to 0 (cut r).newer,
          taken_is start is_round_to 0 (cut r).newer,
          steps_from start is_round_to 0 plain_round (cut r).newer from_none,
        )

    passed : rounds_of start now node ≡ rounds_of start was node + 1
    passed =
        omega (
          arith,
          steps_one,
          ap (steps is_round_to) (cut r).is,
          tally_append (λ (e : HostStep). is_round_to e.step.taken.to e.step.taken.body) (cut r).newer (was r),
        )

  pub ticks : IsTicked start was now round of
  ticks = record { told = told_once; passed = passed }
