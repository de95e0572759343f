-- A request for the rows of a node, where no dump is under way: the rows that it had are told, and then none is.
use Rattle.std.proofs.Common.{◌≡◌, ◌⊎◌, ◌≤◌, ℕ, zero, suc, Bool, true, false, List, [], ◌∷◌, ◌++◌, length, refl, sym}
use Rattle.std.proofs.Common.{ap, ◌∙◌, subst, inl, inr, append_assoc, arith}
use Rattle.std.proofs.lemmas.List.{append-nil}
use Rattle.std.proofs.Math.Seq.{drop-append_seam}
use Rattle.std.specs.Prelude.{drop, is_some, Option, None, Some}
use Rattle.std.specs.List.{list_any}
use Rattle.run_theory.specs.Lists.{IsIn}
use Rattle.sig_core.specs.declared.place.Place.{Place}
use Rattle.sig_core.specs.declared.request.ApiReq.{ApiReq}
use Rattle.sig_core.specs.declared.request.ApiReq.TheVariants as request
use Rattle.sig_core.specs.declared.signal.Body.TheVariants.{Client}
use Rattle.sig_core.specs.declared.signal.client.ClientSignal.TheVariants.{DumpConf, DumpReq}
use Rattle.sig_core.specs.declared.signal.Signal.{Signal}
use Rattle.sig_core.specs.declared.view.View.{View}
use Rattle.sig_core.specs.Place.{client, rows_of}
use Rattle.sig_core.specs.Step.{Step, sending, to_place}
use Rattle.api_block.proofs.GatheredLemmas.{gathered-append}
use Rattle.api_block.specs.Api.{api_table, request_row}
use Rattle.api_block.specs.Commands.{dump_if, dump_row}
use Rattle.api_block.specs.declared.dump.Dump.{Dump}
use Rattle.api_block.specs.Dump.{dump_replies, dumped_next, dumped_row}
use Rattle.api_block.specs.Gathered.{gathered}
use Rattle.api_block.specs.Members as members
use Rattle.api_block.specs.State.{ApiState, about, replied, with_dump}
use Rattle.lqh_block.specs.Dump as lqh
use Rattle.lqh_block.specs.Lqh.{lqh_table}
use Rattle.lqh_block.specs.State.{LqhState}
use Rattle.row_records.proofs.PlaceLemmas.{row_at, row_of-at}
use Rattle.row_records.specs.Places.{AreApart}
use Rattle.node_core.specs.Blocks.{api_of, lqh_of}
use Rattle.node_core.specs.Committed as committed
use Rattle.node_core.specs.Replies.{replies_of}
use Rattle.world_core.proofs.HostNumbers.{api_runs, client_host, host_below, host_some, rows_run}
use Rattle.world_core.specs.At.{row_in}
use Rattle.world_core.specs.Hosts.{rows_host}
use Rattle.world_core.specs.Machine.{after, step_after}
use Rattle.world_core.specs.Start.{Start}
use Rattle.world_core.specs.Steps.{Addressed, HostStep}
use Rattle.host_laws.proofs.hosts.BlocksAlong.{replies_are}
use Rattle.host_laws.proofs.rows.Replicas.{logs_keep_well}
use Rattle.answer_laws.proofs.Begins.{within}
use Rattle.command_laws.proofs.hosts.BlocksTake.{api_takes_it, lqh_seen, lqh_takes_it}
use Rattle.command_laws.proofs.hosts.BlockSteps.{api_seen}
use Rattle.command_laws.proofs.quiet.First.{IsFirst, first_step, request_first, with_first}
use Rattle.command_laws.proofs.dumps.GatheredRows.{KeyedRow, gathered_from, gathered_rising, gathered_there}
use Rattle.command_laws.proofs.lone.Answered.{shell_view}
use Rattle.command_laws.proofs.quiet.OneAtATime.{IsNext, Leads, is_done}
use Rattle.command_laws.proofs.dumps.PlacedRows.{listed_distinct, listed_row, part_listed, row_listed, rows_at}
use Rattle.command_laws.proofs.dumps.PlacedRows.{rows_from}
use Rattle.command_laws.specs.Dumped.{DumpComesTo, IsDumped}
use Rattle.command_laws.specs.TurnedDown.{no_member_at}
use Rattle.command_laws.specs.Served.{IsServedBetween}

module _ (start : Start) (was now : ℕ → List HostStep) (r : ApiReq) (node : ℕ) (digest : Bool)
    (served : IsServedBetween start was now r)
    (asks : request_row (api_of (after start 0 (was 0))) r ≡ dump_row (api_of (after start 0 (was 0))) node digest)
    (full : members.is_full (api_of (after start 0 (was 0))).view node ≡ true)
    (none : (api_of (after start 0 (was 0))).dump ≡ None) where
  f : IsFirst start was now r
  f = request_first start was now r served

  abbrev s : ApiState
  s = api_of (after start 0 (was 0))

  place : (1 ≤ node) × (node ≤ start.shape.nodes)
  place = within start.shape.nodes node
      (subst (λ (v : View). list_any (members.is_at node) v.full ≡ true) (shell_view start (was 0)) full)

  abbrev h : ℕ
  h = rows_host start node

  h_some : 1 ≤ h
  h_some = host_some start (rows_of node) place.0 place.1

  -- the rows, as they are at the request
  abbrev l : LqhState
  l = lqh_of (after start h (was h))

  abbrev all : List KeyedRow
  all = rows_at l.rows.places

  -- the API, once it has had these rows
  abbrev with_rows : List KeyedRow → ApiState
  with_rows rows = with_dump (about s None) (Some (record { node = node; digest = digest; rows = rows }))

  -- rows from a place on were asked for
  record IsAsked (x : Addressed) (logs : ℕ → List HostStep) : Type 0 where
    to : x.to ≡ h
    place : x.signal.to ≡ rows_of node
    at : ℕ
    body : x.signal.body ≡ Client (DumpReq at)
    had : List KeyedRow
    shell : api_of (after start 0 (logs 0)) ≡ with_rows (gathered [] had)
    rest : had ++ rows_at (drop at l.rows.places) ≡ all
    same : lqh_of (after start h (logs h)) ≡ l

  -- some are told
  record IsTold (x : Addressed) (logs : ℕ → List HostStep) : Type 0 where
    to : x.to ≡ 0
    place : x.signal.to ≡ client
    part : List KeyedRow
    next : Option ℕ
    body : x.signal.body ≡ Client (DumpConf part next)
    had : List KeyedRow
    shell : api_of (after start 0 (logs 0)) ≡ with_rows (gathered [] had)
    rest : had ++ (part ++ rows_from l.rows next) ≡ all
    same : lqh_of (after start h (logs h)) ≡ l

  abbrev P : Addressed → (ℕ → List HostStep) → Type 0
  P x logs = IsAsked x logs ⊎ IsTold x logs

  abbrev ended : ApiState
  ended = replied (with_dump (about s None) None) (dump_replies node digest (gathered [] all))

  record IsDone (logs : ℕ → List HostStep) : Type 0 where
    state : api_of (after start 0 (logs 0)) ≡ ended

  at_shell : f.first.host ≡ 0
  at_shell = (f.right.local 0).0.at

  first_is : api_seen (step_after start 0 (was 0) f.first) ≡ sending (with_rows []) (rows_of node) (Client (DumpReq 0))
  unfolding dump_row
  first_is = first_step start was now r f ∙ asks
      ∙ ap (λ (o : Option Dump). dump_if s node digest (members.is_full s.view node) (is_some o)) none
      ∙ ap (λ b. dump_if s node digest b false) full

  not_first : (k : ℕ) → 1 ≤ k → with_first was f.first k ≡ was k
  not_first zero some = absurd (omega (arith, some))
  not_first (suc k) some = refl

  begins : Leads start P IsDone was (with_first was f.first) f.first
  begins = inr (record {
    out = to_place (rows_of node) (Client (DumpReq 0));
    is = by f.first.host at_shell;
    there = host_below start (rows_of node) place.0 place.1;
    holds = λ y to at body. inl (record {
      to = to;
      place = at;
      at = 0;
      body = body;
      had = [];
      shell = ap (λ (step : Step ApiState). step.state) first_is;
      rest = refl;
      same = ap (λ log. lqh_of (after start h log)) (not_first h h_some);
    });
  })
    where
      by : (k : ℕ) → k ≡ 0
          → (step_after start k (was k) f.first).effects.sends ≡ to_place (rows_of node) (Client (DumpReq 0)) ∷ []
      by zero is = ap (λ (step : Step ApiState). step.effects.sends) first_is
      by (suc k) is = absurd (omega (arith, is))

  module _ (before later : ℕ → List HostStep) (e : HostStep) (x : Addressed) (next : IsNext before later e)
      (taken_is : e.step.taken ≡ x.signal) (at_host : e.host ≡ x.to) where
    -- the rows take the question
    module _ (asked : IsAsked x before) where
      at_rows : e.host ≡ h
      at_rows = at_host ∙ asked.to

      abbrev part : List KeyedRow
      part = (lqh.dumped_from l.rows asked.at).rows

      abbrev more : Option ℕ
      more = (lqh.dumped_from l.rows asked.at).next

      rows_are : lqh_seen (step_after start h (before h) e) ≡ sending l client (Client (DumpConf part more))
      unfolding lqh.dump_row
      rows_are =
          lqh_takes_it (after start h (before h)) e.step.taken (rows_run start node (before h) place.0 place.1)
          (ap (λ (y : Signal). y.to.block) taken_is ∙ ap (λ (p : Place). p.block) asked.place)
          ∙ ap (λ (t : LqhState). lqh_table t e.step.taken.body) asked.same
          ∙ ap (lqh_table l) (ap (λ (y : Signal). y.body) taken_is ∙ asked.body)

      tells : Leads start P IsDone before later e
      tells = inr (record {
        out = to_place client (Client (DumpConf part more));
        is = subst (λ k. (step_after start k (before k) e).effects.sends
            ≡ to_place client (Client (DumpConf part more)) ∷ []) (sym at_rows)
            (ap (λ (step : Step LqhState). step.effects.sends) rows_are);
        there = omega (arith, client_host start);
        holds = λ y to at body. inr (record {
          to = to ∙ client_host start;
          place = at;
          part = part;
          next = more;
          body = body;
          had = asked.had;
          shell = ap (λ log. api_of (after start 0 log)) (next.others 0 (λ same. omega (arith, same, at_rows, h_some)))
              ∙ asked.shell;
          rest = ap (λ rows. asked.had ++ rows) (part_listed l.rows asked.at) ∙ asked.rest;
          same = ap (λ log. lqh_of (after start h log)) (subst (λ k. later k ≡ e ∷ before k) at_rows next.own)
              ∙ ap (λ (step : Step LqhState). step.state) rows_are;
        });
      })

    -- the API takes rows
    module _ (told : IsTold x before) where
      at_api : e.host ≡ 0
      at_api = at_host ∙ told.to

      abbrev had : List KeyedRow
      had = told.had ++ told.part

      abbrev turn : Option ℕ → Step ApiState
      turn more = dumped_next (with_rows (gathered [] told.had))
          (record { node = node; digest = digest; rows = gathered [] told.had }) told.part more

      api_is : api_seen (step_after start 0 (before 0) e) ≡ turn told.next
      unfolding dumped_row
      api_is =
          api_takes_it (after start 0 (before 0)) e.step.taken (api_runs start (before 0))
          (ap (λ (y : Signal). y.to.block) taken_is ∙ ap (λ (p : Place). p.block) told.place)
          ∙ ap (λ (t : ApiState). api_table t e.step.taken.body) told.shell
          ∙ ap (api_table (with_rows (gathered [] told.had))) (ap (λ (y : Signal). y.body) taken_is ∙ told.body)

      joined : gathered (gathered [] told.had) told.part ≡ gathered [] had
      joined = sym (gathered-append [] told.had told.part)

      own : later 0 ≡ e ∷ before 0
      own = subst (λ k. later k ≡ e ∷ before k) at_api next.own

      sent_as : (sends : _) → (api_seen (step_after start 0 (before 0) e)).effects.sends ≡ sends
          → (step_after start e.host (before e.host) e).effects.sends ≡ sends
      sent_as sends is = subst (λ k. (step_after start k (before k) e).effects.sends ≡ sends) (sym at_api) is

      further : (more : Option ℕ) → told.next ≡ more → Leads start P IsDone before later e
      further (Some at) is = inr (record {
        out = to_place (rows_of node) (Client (DumpReq at));
        is = sent_as _ (ap (λ (step : Step ApiState). step.effects.sends) (api_is ∙ ap turn is));
        there = host_below start (rows_of node) place.0 place.1;
        holds = λ y to where_to body. inl (record {
          to = to;
          place = where_to;
          at = at;
          body = body;
          had = had;
          shell = ap (λ log. api_of (after start 0 log)) own
              ∙ ap (λ (step : Step ApiState). step.state) (api_is ∙ ap turn is)
              ∙ ap with_rows joined;
          rest = append_assoc told.had told.part (rows_at (drop at l.rows.places))
              ∙ ap (λ o. told.had ++ (told.part ++ rows_from l.rows o)) (sym is) ∙ told.rest;
          same = ap (λ log. lqh_of (after start h log)) (next.others h (λ same. omega (arith, same, at_api, h_some)))
              ∙ told.same;
        });
      })
      further None is = inl (
        sent_as [] (ap (λ (step : Step ApiState). step.effects.sends) (api_is ∙ ap turn is)),
        record {
          state = ap (λ log. api_of (after start 0 log)) own
              ∙ ap (λ (step : Step ApiState). step.state) (api_is ∙ ap turn is)
              ∙ ap (λ rows. replied (with_dump (about s None) None) (dump_replies node digest rows))
              (joined ∙ ap (gathered []) whole);
        },
      )
        where
          whole : had ≡ all
          whole = ap (λ rows. told.had ++ rows) (sym (append-nil told.part))
              ∙ ap (λ o. told.had ++ (told.part ++ rows_from l.rows o)) (sym is) ∙ told.rest

    goes : P x before → Leads start P IsDone before later e
    goes (inl asked) = tells asked
    goes (inr told) = further told told.next refl

  done_now : IsDone now
  done_now = is_done start P IsDone was now r served f at_shell (record {
    begins = begins;
    goes = λ before later e x next taken_is at_host holds. goes before later e x next taken_is at_host holds;
  })

  pub dump_over : (api_of (after start 0 (now 0))).dump ≡ None
  dump_over = ap (λ (t : ApiState). t.dump) done_now.state

  apart : AreApart l.rows.places
  apart = (logs_keep_well start h (was h)).placed.apart

  row_is : (key : List ℕ) → row_in start was node key ≡ row_at l.rows.places key
  unfolding committed.row_at
  row_is key = row_of-at l.rows key

  pub is_dumped : IsDumped start was now node digest
  is_dumped = record {
    rows = gathered [] all;
    told =
        ap (drop (length (replies_of (after start 0 (was 0)))))
        (replies_are (after start 0 (now 0)) ∙ ap (λ (t : ApiState). t.replies) done_now.state
        ∙ ap (λ rs. rs ++ dump_replies node digest (gathered [] all)) (sym (replies_are (after start 0 (was 0)))))
        ∙ drop-append_seam (replies_of (after start 0 (was 0))) (dump_replies node digest (gathered [] all));
    rising = gathered_rising [] all tt;
    committed = λ key value inside. row_is key
        ∙ listed_row l.rows.places key value apart (of_all (key, value) (gathered_from (key, value) [] all inside));
    all = λ key value is. gathered_there (key, value) [] all (listed_distinct l.rows.places apart)
        (row_listed l.rows.places key value (sym (row_is key) ∙ is));
  }
    where
      of_all : (q : KeyedRow) → IsIn q [] ⊎ IsIn q all → IsIn q all
      of_all q (inl never) = absurd never
      of_all q (inr inside) = inside

-- so it is of a request that isn't turned down
module _ (start : Start) (was now : ℕ → List HostStep) (idle : (api_of (after start 0 (was 0))).dump ≡ None) where
  full_of : (node : ℕ) (full : Bool) → no_member_at node full ≡ None → full ≡ true
  full_of node true free = refl
  full_of node false free = absurd cc

  pub rows_come_to : (node : ℕ) → IsServedBetween start was now (request.Rows node)
      → DumpComesTo start was now (request.Rows node) node false
  unfolding request_row
  rows_come_to node served free =
      is_dumped start was now (request.Rows node) node false served refl
      (full_of node (members.is_full (api_of (after start 0 (was 0))).view node) free) idle

  pub digest_comes_to : (node : ℕ) → IsServedBetween start was now (request.Digest node)
      → DumpComesTo start was now (request.Digest node) node true
  unfolding request_row
  digest_comes_to node served free =
      is_dumped start was now (request.Digest node) node true served refl
      (full_of node (members.is_full (api_of (after start 0 (was 0))).view node) free) idle
