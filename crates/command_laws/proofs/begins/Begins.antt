-- A wish for a transaction with a name: it begins where its coordinator isn't full, and else is refused.
use Rattle.std.proofs.Common.{◌≡◌, ◌⊎◌, ◌≤◌, ℕ, zero, suc, Bool, true, false, List, [], ◌∷◌, ◌++◌, length, refl, sym}
use Rattle.std.proofs.Common.{ap, ◌∙◌, subst, inl, inr, arith}
use Rattle.std.proofs.Math.Seq.{drop-append_seam}
use Rattle.std.specs.Prelude.{drop, Option, None, Some}
use Rattle.std.specs.List.{list_any}
use Rattle.sig_core.specs.declared.place.Place.{Place}
use Rattle.sig_core.specs.declared.reply.ApiReply.{ApiReply}
use Rattle.sig_core.specs.declared.reply.ApiReply.TheVariants as reply
use Rattle.sig_core.specs.declared.reply.Refusal.TheVariants.{TooManyOpen}
use Rattle.sig_core.specs.declared.request.ApiReq.TheVariants.{Begin}
use Rattle.sig_core.specs.declared.signal.Body.{Body}
use Rattle.sig_core.specs.declared.signal.Body.TheVariants.{Client}
use Rattle.sig_core.specs.declared.signal.client.ClientSignal.TheVariants.{TcBeginConf, TcBeginRef, TcBeginReq}
use Rattle.sig_core.specs.declared.signal.Signal.{Signal}
use Rattle.sig_core.specs.declared.view.View.{View}
use Rattle.sig_core.specs.Place.{client, coordinator}
use Rattle.sig_core.specs.Step.{Step, to_place}
use Rattle.api_block.specs.Api.{api_table}
use Rattle.api_block.specs.Commands.{beginning, node_for}
use Rattle.api_block.specs.declared.opened.OpenTransaction.{OpenTransaction}
use Rattle.api_block.specs.Members as members
use Rattle.api_block.specs.Opened.{begun}
use Rattle.api_block.specs.State.{ApiState}
use Rattle.tc_block.specs.State.{TcState}
use Rattle.tc_block.specs.Tc.{begin_if, begin_row, is_full, next_tx, tc_table}
use Rattle.node_core.specs.Blocks.{api_of, has_tc, tc_of}
use Rattle.node_core.specs.Replies.{replies_of}
use Rattle.world_core.proofs.HostNumbers.{api_runs, client_host, host_below, host_some, tc_runs}
use Rattle.world_core.specs.Hosts.{tc_host}
use Rattle.world_core.specs.Machine.{after, step_after}
use Rattle.world_core.specs.Start.{Start}
use Rattle.world_core.specs.Steps.{Addressed, HostStep}
use Rattle.host_laws.proofs.hosts.BlocksAlong.{replies_are, tc_number}
use Rattle.answer_laws.proofs.Begins.{within}
use Rattle.host_laws.specs.OpenedAfter.{opened_after}
use Rattle.command_laws.proofs.begins.Rows.{IsFree, asking, begin_is, begun_named, begun_opened, begun_replies}
use Rattle.command_laws.proofs.begins.Rows.{begun_sends, entry, is_free, refused_is, refused_left}
use Rattle.command_laws.proofs.hosts.BlocksTake.{api_takes_it, tc_takes_it}
use Rattle.command_laws.proofs.hosts.BlockSteps.{api_seen, tc_seen}
use Rattle.command_laws.proofs.ends.Committed.{calm_at}
use Rattle.command_laws.proofs.hosts.Entries.{NoneBegins}
use Rattle.command_laws.proofs.quiet.First.{IsFirst, first_step, request_first, with_first}
use Rattle.command_laws.proofs.lone.Answered.{shell_view}
use Rattle.command_laws.proofs.quiet.OneAtATime.{IsNext, Leads, is_done}
use Rattle.command_laws.specs.Begun.{BeginComesTo, BeginsAt, BeginsBy, coordinator_at}
use Rattle.command_laws.specs.Served.{IsServedBetween, named_in, replies_since}
use Rattle.command_laws.specs.TurnedDown.{turned_down_for}

module _ (start : Start) (was now : ℕ → List HostStep) (name : ℕ) (at : Option ℕ)
    (served : IsServedBetween start was now (Begin name at))
    (taken : turned_down_for (api_of (after start 0 (was 0))) (Begin name at) ≡ None) where
  f : IsFirst start was now (Begin name at)
  f = request_first start was now (Begin name at) served

  abbrev s : ApiState
  s = api_of (after start 0 (was 0))

  abbrev node : ℕ
  node = node_for s.view at

  free : IsFree s name node
  free = is_free s name at taken

  calm : NoneBegins s.opened
  calm = calm_at start was served.before

  place : (1 ≤ node) × (node ≤ start.shape.nodes)
  place = within start.shape.nodes node
      (subst (λ (v : View). list_any (members.is_at node) v.full ≡ true) (shell_view start (was 0)) free.full)

  abbrev c : ℕ
  c = tc_host start node

  c_some : 1 ≤ c
  c_some = host_some start (coordinator node) place.0 place.1

  -- the coordinator, as it is at the request
  abbrev tc : TcState
  tc = coordinator_at start was node

  home : (next_tx tc).tc ≡ node
  home = tc_number start node (was c) place.0 place.1

  abbrev answer_by : Bool → Body
  answer_by true = Client (TcBeginRef (Some name))
  answer_by false = Client (TcBeginConf (Some name) (next_tx tc))

  abbrev answer : Body
  answer = answer_by (is_full tc)

  -- the wish is under way
  record IsAsked (x : Addressed) (logs : ℕ → List HostStep) : Type 0 where
    to : x.to ≡ c
    place : x.signal.to ≡ coordinator node
    body : x.signal.body ≡ Client (TcBeginReq (Some name))
    shell : logs 0 ≡ f.first ∷ was 0
    same : logs c ≡ was c

  -- its answer is
  record IsAnswered (x : Addressed) (logs : ℕ → List HostStep) : Type 0 where
    to : x.to ≡ 0
    place : x.signal.to ≡ client
    body : x.signal.body ≡ answer
    shell : logs 0 ≡ f.first ∷ was 0

  abbrev P : Addressed → (ℕ → List HostStep) → Type 0
  P x logs = IsAsked x logs ⊎ IsAnswered x logs

  -- what is replied, and what is open then
  abbrev reply_by : Bool → ApiReply
  reply_by true = reply.Refused (Some name) TooManyOpen
  reply_by false = reply.Begun name node

  abbrev opened_by : Bool → List OpenTransaction
  opened_by true = s.opened
  opened_by false = s.opened ++ begun (entry s name node free calm) (next_tx tc) ∷ []

  record IsDone (logs : ℕ → List HostStep) : Type 0 where
    replies : (api_of (after start 0 (logs 0))).replies ≡ s.replies ++ reply_by (is_full tc) ∷ []
    opened : opened_after start logs ≡ opened_by (is_full tc)

  at_shell : f.first.host ≡ 0
  at_shell = (f.right.local 0).0.at

  first_is : api_seen (step_after start 0 (was 0) f.first) ≡ beginning s (Some name) node None
  first_is = first_step start was now (Begin name at) f ∙ begin_is s name node free calm at refl

  not_first : (h : ℕ) → 1 ≤ h → with_first was f.first h ≡ was h
  not_first zero some = absurd (omega (arith, some))
  not_first (suc h) some = refl

  begins : Leads start P IsDone was (with_first was f.first) f.first
  begins = inr (record {
    out = to_place (coordinator node) (Client (TcBeginReq (Some name)));
    is = by f.first.host at_shell;
    there = host_below start (coordinator node) place.0 place.1;
    holds = λ y to at body. inl (record { to = to; place = at; body = body; shell = refl; same = not_first c c_some });
  })
    where
      by : (h : ℕ) → h ≡ 0
          → (step_after start h (was h) f.first).effects.sends
          ≡ to_place (coordinator node) (Client (TcBeginReq (Some name))) ∷ []
      by zero is = ap (λ (step : Step ApiState). step.effects.sends) first_is
      by (suc h) is = absurd (omega (arith, is))

  module _ (before later : ℕ → List HostStep) (e : HostStep) (x : Addressed) (next : IsNext before later e)
      (taken_is : e.step.taken ≡ x.signal) (at_host : e.host ≡ x.to) where
    -- the coordinator takes the wish
    module _ (asked : IsAsked x before) where
      at_tc : e.host ≡ c
      at_tc = at_host ∙ asked.to

      tc_before : after start e.host (before e.host) ≡ after start c (was c)
      tc_before = ap (λ h. after start h (before h)) at_tc ∙ ap (after start c) asked.same

      tc_is : tc_seen (step_after start e.host (before e.host) e) ≡ begin_if tc (Some name) (is_full tc)
      unfolding begin_row
      tc_is =
          tc_takes_it (after start e.host (before e.host)) e.step.taken
          (ap has_tc tc_before ∙ tc_runs start node (was c) place.0 place.1)
          (ap (λ (y : Signal). y.to.block) taken_is ∙ ap (λ (p : Place). p.block) asked.place)
          ∙ ap (λ g. tc_table (tc_of g) e.step.taken.body) tc_before
          ∙ ap (tc_table tc) (ap (λ (y : Signal). y.body) taken_is ∙ asked.body)

      answer_sent : (b : Bool) → (begin_if tc (Some name) b).effects.sends ≡ to_place client (answer_by b) ∷ []
      answer_sent true = refl
      answer_sent false = refl

      answers : Leads start P IsDone before later e
      answers = inr (record {
        out = to_place client answer;
        is = ap (λ (step : Step TcState). step.effects.sends) tc_is ∙ answer_sent (is_full tc);
        there = omega (arith, client_host start);
        holds = λ y to at body. inr (record {
          to = to ∙ client_host start;
          place = at;
          body = body;
          shell = next.others 0 (λ same. omega (arith, same, at_tc, c_some)) ∙ asked.shell;
        });
      })

    -- the API takes the answer
    module _ (answered : IsAnswered x before) where
      at_api : e.host ≡ 0
      at_api = at_host ∙ answered.to

      api_before : api_of (after start 0 (before 0)) ≡ asking s name node free calm
      api_before = ap (λ log. api_of (after start 0 log)) answered.shell
          ∙ ap (λ (step : Step ApiState). step.state) first_is

      api_is : api_seen (step_after start 0 (before 0) e) ≡ api_table (asking s name node free calm) answer
      api_is =
          api_takes_it (after start 0 (before 0)) e.step.taken (api_runs start (before 0))
          (ap (λ (y : Signal). y.to.block) taken_is ∙ ap (λ (p : Place). p.block) answered.place)
          ∙ ap (λ (t : ApiState). api_table t e.step.taken.body) api_before
          ∙ ap (api_table (asking s name node free calm)) (ap (λ (y : Signal). y.body) taken_is ∙ answered.body)

      sent_none : (b : Bool) → (api_table (asking s name node free calm) (answer_by b)).effects.sends ≡ []
      sent_none true = refl
      sent_none false = begun_sends s name node free calm (next_tx tc) home

      replied : (b : Bool)
          → (api_table (asking s name node free calm) (answer_by b)).state.replies ≡ s.replies ++ reply_by b ∷ []
      replied true = refused_is s name node free calm
      replied false = begun_replies s name node free calm (next_tx tc) home

      left : (b : Bool) → (api_table (asking s name node free calm) (answer_by b)).state.opened ≡ opened_by b
      left true = refused_left s name node free calm
      left false = begun_opened s name node free calm (next_tx tc) home

      state_is : api_of (after start 0 (later 0)) ≡ (api_table (asking s name node free calm) answer).state
      state_is = ap (λ log. api_of (after start 0 log)) (subst (λ h. later h ≡ e ∷ before h) at_api next.own)
          ∙ ap (λ (step : Step ApiState). step.state) api_is

      done : Leads start P IsDone before later e
      done = inl (
        subst (λ h. (step_after start h (before h) e).effects.sends ≡ []) (sym at_api)
            (ap (λ (step : Step ApiState). step.effects.sends) api_is ∙ sent_none (is_full tc)),
        record {
          replies = ap (λ (t : ApiState). t.replies) state_is ∙ replied (is_full tc);
          opened = ap (λ (t : ApiState). t.opened) state_is ∙ left (is_full tc);
        },
      )

    goes : P x before → Leads start P IsDone before later e
    goes (inl asked) = answers asked
    goes (inr answered) = done answered

  done_now : IsDone now
  done_now = is_done start P IsDone was now (Begin name at) served f at_shell (record {
    begins = begins;
    goes = λ before later e x next taken_is at_host holds. goes before later e x next taken_is at_host holds;
  })

  told : replies_since start was now ≡ reply_by (is_full tc) ∷ []
  told =
      ap (drop (length (replies_of (after start 0 (was 0)))))
      (replies_are (after start 0 (now 0)) ∙ done_now.replies
      ∙ ap (λ rs. rs ++ reply_by (is_full tc) ∷ []) (sym (replies_are (after start 0 (was 0)))))
      ∙ drop-append_seam (replies_of (after start 0 (was 0))) (reply_by (is_full tc) ∷ [])

  begins_by : (b : Bool) → is_full tc ≡ b → BeginsBy start was now name node b
  begins_by true is = record { told = told ∙ ap (λ c. reply_by c ∷ []) is; same = done_now.opened ∙ ap opened_by is }
  begins_by false is = record {
    told = told ∙ ap (λ c. reply_by c ∷ []) is;
    takes = record {
      item = begun (entry s name node free calm) (next_tx tc);
      named = ap (λ opened. named_in opened name) opened ∙ begun_named s name node free calm (next_tx tc) home;
      ready = refl;
      own = refl;
    };
    home = home;
    behind = opened;
  }
    where
      opened : opened_after start now ≡ s.opened ++ begun (entry s name node free calm) (next_tx tc) ∷ []
      opened = done_now.opened ∙ ap opened_by is

  begins_at : BeginsAt start was now name node
  begins_at = begins_by (is_full tc) refl

pub begin_comes_to : (start : Start) (was now : ℕ → List HostStep) (name : ℕ) (at : Option ℕ)
    → IsServedBetween start was now (Begin name at) → BeginComesTo start was now name at
begin_comes_to start was now name at served taken = begins_at start was now name at served taken
