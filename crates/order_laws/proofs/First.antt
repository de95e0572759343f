-- Who is given up is away from the first place of each chain, where nothing is under way: on the link to it the abort
-- comes behind the last request.
use Rattle.std.proofs.Common.{◌≡◌, ◌≢◌, ◌≤◌, ◌<◌, ◌+◌, ℕ, zero, suc, Bool, true, false, List, [], ◌∷◌, drop, length}
use Rattle.std.proofs.Common.{refl, sym}
use Rattle.std.proofs.Common.{ap, ◌∙◌, subst, arith, inl}
use Rattle.std.proofs.lemmas.Bool.{eqb-true, false≢true, true≢false}
use Rattle.std.specs.List.{list_any}
use Rattle.std.specs.Prelude.{◌==◌, ◌&&◌, if◌then◌else◌, Option, None, Some}
use Rattle.run_theory.proofs.EventCases.{event_cases}
use Rattle.run_theory.proofs.Runs.{log_of-other, log_of-own}
use Rattle.run_theory.specs.Counts.{one_if}
use Rattle.run_theory.specs.Links.{sent, taken}
use Rattle.run_theory.proofs.Pasts.{each_map}
use Rattle.sig_core.specs.declared.member.TxId.{TxId}
use Rattle.sig_core.specs.declared.outs.Outgoing.{Outgoing}
use Rattle.sig_core.specs.declared.place.BlockId.TheVariants as block
use Rattle.sig_core.specs.declared.place.Place.{Place}
use Rattle.sig_core.specs.declared.signal.Body.{Body}
use Rattle.sig_core.specs.declared.signal.Body.TheVariants.{Chain, Client, Epoch, Host}
use Rattle.sig_core.specs.declared.signal.client.ClientSignal.TheVariants.{TcRollbackRep}
use Rattle.sig_core.specs.declared.signal.host.HostSignal.TheVariants.{Continue, Round}
use Rattle.sig_core.specs.declared.signal.host.Work.TheVariants as work
use Rattle.sig_core.specs.Chain.{node_at}
use Rattle.sig_core.specs.Place.{coordinator_of, rows_of}
use Rattle.sig_core.specs.Same.{same_tx}
use Rattle.sig_core.specs.Step.{Effects, Step}
use Rattle.frag_map.specs.Layout.{Layout, first_layout}
use Rattle.tc_block.proofs.TurnRows.{turn_for}
use Rattle.tc_block.specs.declared.transaction.Transaction.{Transaction}
use Rattle.tc_block.specs.Phases.{is_aborting}
use Rattle.tc_block.specs.State.{TcState}
use Rattle.tc_block.specs.Tc.{tc_row}
use Rattle.tc_block.specs.Turn.{Turn}
use Rattle.node_core.proofs.HostCases.{BlockCase, IsTcStep, api_takes, block_case, dih_takes, none_takes, rows_take}
use Rattle.node_core.proofs.HostCases.{tc_takes}
use Rattle.node_core.specs.Blocks.{api_of, dih_of, has_lqh, has_tc, lqh_of, tc_of}
use Rattle.node_core.specs.declared.host.Host as host
use Rattle.node_core.specs.declared.host.Host.TheVariants.{Ldm, Main, Shell, Tc}
use Rattle.node_core.specs.Requests.{is_request}
use Rattle.node_core.specs.Row.{row}
use Rattle.world_core.proofs.HostNumbers.{host_below, tc_runs}
use Rattle.world_core.specs.Hosts.{home, host_for, first_hosts, tc_host}
use Rattle.world_core.specs.Machine.{after, machine, signals_of, step_after}
use Rattle.world_core.specs.Start.{Start}
use Rattle.world_core.specs.Steps.{Addressed, HostStep}
use Rattle.host_laws.proofs.api.Moves.{is_api_kind}
use Rattle.host_laws.proofs.hosts.BlocksAlong.{tc_layout}
use Rattle.host_laws.proofs.hosts.DihSends.{dih_kinds}
use Rattle.host_laws.proofs.coordinator.OfLive.{each_found}
use Rattle.host_laws.proofs.hosts.SendKinds.{each_of, is_dih_kind}
use Rattle.host_laws.proofs.coordinator.Lives.{IsOwn}
use Rattle.host_laws.proofs.coordinator.Operations.{is_right}
use Rattle.host_laws.proofs.coordinator.Steps.{left_of_turn}
use Rattle.host_laws.proofs.api.Wishes.{is_tc}
use Rattle.host_laws.specs.Live.{of_live}
use Rattle.host_laws.specs.Ways.{back_by, sent_ways}
use Rattle.run_laws.specs.GivenUp.{is_given_up}
use Rattle.run_laws.specs.Live.{live_at, of_host}
use Rattle.run_laws.specs.Routes.{replica_host, replicas}
use Rattle.run_laws.specs.Transit.{AreInTransit, Comes, IsRun, Takes, joined, logs_of}
use Rattle.run_laws.proofs.routes.Addressed.{tc_addressed}
use Rattle.run_laws.proofs.hosts.HomeSteps.{IsHome, all_home, away, here_now, here_was, live_leaves}
use Rattle.run_laws.proofs.hosts.LiveOf.{of_each}
use Rattle.run_laws.proofs.routes.Chain.{replicas_are_nodes, replicas_some}
use Rattle.run_laws.proofs.hosts.TcSaid.{idle_silent, tc_silent, tc_speaks}
use Rattle.run_laws.proofs.hosts.TcSound.{log_sound}
use Rattle.run_laws.proofs.tokens.Coordinator.{IsOwned}
use Rattle.run_laws.proofs.transit.Transit.{along_transit}
use Rattle.run_laws.proofs.hosts.TxSteps.{next_number, none_of}
use Rattle.run_laws.proofs.hosts.TxTurns as turn
use Rattle.run_laws.proofs.hosts.TxTurns.{TcTurn, is_for as is_for_tx, tc_turn}
use Rattle.run_laws.proofs.ways.Passed.{api_each}
use Rattle.run_laws.proofs.transit.Weighing.{in_sends, in_transit, joins_weigh, takes_weigh, weigh_less}
use Rattle.order_laws.specs.Awaited.{IsAwaited, list_length}
use Rattle.order_laws.specs.First.{GivenUpAreOutAtFirst}
use Rattle.order_laws.specs.Standing.{is_away}
use Rattle.order_laws.specs.Still.{IsStill}
use Rattle.order_laws.proofs.AbortingSteps.{fewer, list_at, part_asked, short}
use Rattle.order_laws.proofs.AbortingTurns as back
use Rattle.order_laws.proofs.AbortingTurns.{Aborts, is_abort_to, place_there, turn_aborts}
use Rattle.order_laws.proofs.Awaited as awaited
use Rattle.order_laws.proofs.Awaited.{all_is_awaited}
use Rattle.order_laws.proofs.FirstSends as at_first
use Rattle.order_laws.proofs.FirstSends.{AreMute, IsMute, beside_mute, last_in, mute_in, off_each, onward_few}
use Rattle.order_laws.proofs.FirstSends.{others_mute, sent_known, sent_step, still_asks}
use Rattle.order_laws.proofs.FirstTaken.{asks_last, taken_asks}
use Rattle.order_laws.proofs.GivenUp.{aborting_given, given_aborting, given_quiet, given_same}
use Rattle.order_laws.proofs.Leads.{any_sent, tc_block_is}
use Rattle.order_laws.proofs.Standing.{who_is_away_is_out}
use Rattle.order_laws.proofs.Still.{IsZero, home_for, home_low, none_weigh, still_at_quiet}
use Rattle.order_laws.proofs.Unanswered as part
use Rattle.order_laws.proofs.UnansweredTurns as parts
use Rattle.order_laws.proofs.UnansweredTurns.{AreUnbacked, Parts, is_backing, parts_out, turn_parts}

module _ (start : Start) (tx : TxId) (key : List ℕ) (some : 1 ≤ tx.tc) (low : tx.tc ≤ start.shape.nodes) where
  abbrev wanted : List Outgoing → Place → Body → ℕ
  wanted list to body = at_first.wanted start tx key list to body

  abbrev onward : List Outgoing → Place → Body → ℕ
  onward list to body = at_first.onward start tx key list to body

  -- where a request is the newest that was sent there, an abort is still to be sent
  abbrev Holds : List HostStep → List Addressed → Type 0
  Holds es xs =
      is_given_up start (logs_of start es) tx ≡ true
      → asks_last tx key (sent (machine start) (home start tx) (replica_host start key 0)
      (logs_of start es (home start tx))) ≡ true
      → 1 ≤ in_transit (onward (list_at start tx (live_at start (logs_of start es) tx))) xs

  no_request : (list : List Outgoing) (to : Place) (body : Body) → is_request body ≡ true → onward list to body ≡ 0
  no_request list to (Chain c) is = absurd (false≢true is)
  no_request list to (Host (Continue (work.Transaction other) place)) is = absurd (false≢true is)
  no_request list to _ is = refl

  module _ (es : List HostStep) (e : HostStep) (come : Comes start es e) (before between : List Addressed)
      (transit : AreInTransit start es before) (takes : Takes e before between) (was : Holds es before) where
    abbrev g : host.Host
    g = after start e.host (logs_of start es e.host)

    abbrev next : Step host.Host
    next = row g e.step.taken

    abbrev sends : List Outgoing
    sends = (step_after start e.host (logs_of start es e.host) e).effects.sends

    abbrev later : List Addressed
    later = joined (signals_of start e.host (logs_of start es e.host) e) between

    abbrev came : List Outgoing → ℕ
    came list = onward list e.step.taken.to e.step.taken.body

    out : (list : List Outgoing) → in_transit (onward list) before ≡ came list + in_transit (onward list) between
    out list = takes_weigh (onward list) e before between (no_request list e.step.taken.to e.step.taken.body) takes

    into : (list : List Outgoing)
        → in_transit (onward list) later ≡ in_sends (onward list) sends + in_transit (onward list) between
    into list = joins_weigh (onward list) start e.host (logs_of start es e.host) e between

    inside : 0 < length (replicas start key)
    inside = replicas_some start come.before.shape key

    facts : IsHome tx (tc_of g)
    facts = all_home start tx e.host (logs_of start es e.host)

    abbrev Now : Option Transaction → Type 0
    Now o = 1 ≤ in_transit (onward (list_at start tx o)) later

    -- nothing goes on by what comes elsewhere, or where it isn't
    goes_none : (o : Option Transaction)
        → (is_tc e.step.taken.to.block ≡ true → (e.step.taken.to.node == tx.tc) ≡ true
        → is_for_tx tx e.step.taken.body ≡ true → list_at start tx o ≡ []) → came (list_at start tx o) ≡ 0
    goes_none o none = by e.step.taken.body refl
      where
        nothing : (n : ℕ) → any_sent (is_abort_to tx key (node_at (replicas start key) 0)) (drop n []) ≡ false
        nothing zero = refl
        nothing (suc n) = refl

        at_place : (other : TxId) (place : ℕ) → e.step.taken.body ≡ Host (Continue (work.Transaction other) place)
            → (a b c : Bool) → is_tc e.step.taken.to.block ≡ a → (e.step.taken.to.node == tx.tc) ≡ b
            → same_tx other tx ≡ c
            → one_if ((a && b) && (c && any_sent (is_abort_to tx key (node_at (replicas start key) 0))
            (drop place (list_at start tx o)))) ≡ 0
        at_place other place is true true true p q r =
            ap (λ list. one_if (any_sent (is_abort_to tx key (node_at (replicas start key) 0)) (drop place list)))
            (none p q (ap (is_for_tx tx) is ∙ r)) ∙ ap one_if (nothing place)
        at_place other place is true true false p q r = refl
        at_place other place is true false c p q r = refl
        at_place other place is false b c p q r = refl

        by : (body : Body) → e.step.taken.body ≡ body → onward (list_at start tx o) e.step.taken.to body ≡ 0
        by (Host (Continue (work.Transaction other) place)) is =
            at_place other place is (is_tc e.step.taken.to.block) (e.step.taken.to.node == tx.tc) (same_tx other tx)
            refl refl refl
        by _ is = refl

    passes : (o : Option Transaction) → came (list_at start tx o) ≡ 0
        → 1 ≤ in_transit (onward (list_at start tx o)) before → Now o
    passes o none one = omega (arith, one, none, out (list_at start tx o), into (list_at start tx o))

    -- a step elsewhere
    far : e.host ≢ home start tx → Holds (e ∷ es) later
    far differs given asks =
        subst Now (sym same_live)
        (passes (live_at start (logs_of start es) tx)
        (goes_none (live_at start (logs_of start es) tx)
        (λ tc node its. absurd (differs (tc_addressed start es e come (tc_block_is e.step.taken.to.block tc)
        ∙ ap (tc_host start) (eqb-true e.step.taken.to.node tx.tc node)))))
        (was (sym same_given ∙ given) (sym same_asks ∙ asks)))
      where
        same_log : logs_of start (e ∷ es) (home start tx) ≡ logs_of start es (home start tx)
        same_log = log_of-other (machine start) e es (home start tx) differs

        same_live : live_at start (logs_of start (e ∷ es)) tx ≡ live_at start (logs_of start es) tx
        same_live = ap (of_host tx) (away start es e come tx differs)

        same_given : is_given_up start (logs_of start (e ∷ es)) tx ≡ is_given_up start (logs_of start es) tx
        same_given = ap (λ log. list_any (same_tx tx) (sent_ways start back_by (home start tx) log)) same_log

        same_asks : asks_last tx key (sent (machine start) (home start tx) (replica_host start key 0)
            (logs_of start (e ∷ es) (home start tx)))
            ≡ asks_last tx key (sent (machine start) (home start tx) (replica_host start key 0)
            (logs_of start es (home start tx)))
        same_asks =
            ap (λ log. asks_last tx key (sent (machine start) (home start tx) (replica_host start key 0) log)) same_log

    -- a step at the host of its coordinator
    module _ (here : e.host ≡ home start tx) where
      abbrev asked_before : Bool
      asked_before =
          asks_last tx key (sent (machine start) (home start tx) (replica_host start key 0)
          (logs_of start es (home start tx)))

      now_asks : asks_last tx key (sent (machine start) (home start tx) (replica_host start key 0)
          (logs_of start (e ∷ es) (home start tx))) ≡ last_in start tx key sends asked_before
      now_asks =
          ap (λ l. asks_last tx key (sent (machine start) (home start tx) (replica_host start key 0) l))
          (log_of-own (machine start) e es (home start tx) here)
          ∙ sent_step start tx key (home start tx) e (logs_of start es (home start tx))
          ∙ ap (λ k. last_in start tx key (step_after start k (logs_of start es k) e).effects.sends asked_before)
          (sym here)

      aside : AreMute tx key sends
          → is_given_up start (logs_of start (e ∷ es)) tx ≡ is_given_up start (logs_of start es) tx
          → of_host tx next.state ≡ of_host tx g
          → (is_tc e.step.taken.to.block ≡ true → is_for_tx tx e.step.taken.body ≡ true → of_host tx g ≡ None)
          → Holds (e ∷ es) later
      aside mute same alike missed given asks =
          subst Now (sym same_live)
          (passes (live_at start (logs_of start es) tx)
          (goes_none (live_at start (logs_of start es) tx)
          (λ tc node its. ap (list_at start tx) (ap (of_host tx) (here_was start es e come tx here) ∙ missed tc its)))
          (was (sym same ∙ given) (sym (now_asks ∙ mute_in start tx key sends asked_before mute) ∙ asks)))
        where
          same_live : live_at start (logs_of start (e ∷ es)) tx ≡ live_at start (logs_of start es) tx
          same_live = live_leaves start es e come tx alike

      -- a turn of the transaction
      module _ (number : ℕ) (home_is : number ≡ tx.tc) (u : Transaction)
          (live_was : live_at start (logs_of start es) tx ≡ Some u) (own_body : is_for_tx tx e.step.taken.body ≡ true)
          (rows : lqh_of next.state ≡ lqh_of g) (right : is_right u.asked u.phase ≡ true)
          (same : AreUnbacked tx sends
          → is_given_up start (logs_of start (e ∷ es)) tx ≡ is_given_up start (logs_of start es) tx)
          (given : is_given_up start (logs_of start (e ∷ es)) tx ≡ true)
          (asks : last_in start tx key sends asked_before ≡ true) where
        abbrev layout : Layout
        layout = first_layout start.shape

        abbrev its_turn : Turn
        its_turn = turn_for number layout tx e.step.taken.body u

        aborting : is_given_up start (logs_of start es) tx ≡ true → is_aborting u.phase ≡ true
        aborting =
            given_aborting start es tx u live_was

        given_is : is_aborting u.phase ≡ true → is_given_up start (logs_of start es) tx ≡ true
        given_is =
            aborting_given start es tx u live_was

        -- what it leaves, where a request was the newest before
        turned : (turn : Turn) → sends ≡ turn.step.effects.sends → asked_before ≡ true
            → Aborts number layout tx key (node_at (replicas start key) 0) home_is
            (place_there (replicas start key) 0 inside) u e.step.taken.to e.step.taken.body turn
            → Now (left_of_turn turn)
        turned turn sent_is asked (back.unbacked off none) =
            absurd (true≢false (sym (aborting (sym (same (subst (AreUnbacked tx) (sym sent_is) none)) ∙ given))
            ∙ off))
        turned turn sent_is asked (back.begins off over one still) =
            subst (λ b. Now (if b then None else Some turn.step.state)) (sym over)
            (omega (
              arith,
              one,
              into (list_at start tx (Some turn.step.state)),
              (still_asks start tx key (list_at start tx (Some turn.step.state)) sends asked_before
                  (off_each start tx key sends (ap (parts_out tx key) sent_is ∙ still)) asks).less,
              ap (in_sends (wanted (list_at start tx (Some turn.step.state)))) sent_is,
            ))
        turned turn sent_is asked (back.late on over one still) =
            subst (λ b. Now (if b then None else Some turn.step.state)) (sym over)
            (omega (
              arith,
              one,
              into (list_at start tx (Some turn.step.state)),
              (still_asks start tx key (list_at start tx (Some turn.step.state)) sends asked_before
                  (off_each start tx key sends (ap (parts_out tx key) sent_is ∙ still)) asks).less,
              ap (in_sends (wanted (list_at start tx (Some turn.step.state)))) sent_is,
            ))
        turned turn sent_is asked (back.keeps on over alike less off still) =
            subst (λ b. Now (if b then None else Some turn.step.state)) (sym over)
            (subst (λ list. 1 ≤ in_transit (onward list) later) (sym alike)
            (omega (
              arith,
              subst (λ o. 1 ≤ in_transit (onward (list_at start tx o)) before) live_was (was (given_is on) asked),
              less,
              onward_few start tx key (list_at start tx (Some u)) e.step.taken.to e.step.taken.body,
              out (list_at start tx (Some u)),
              into (list_at start tx (Some u)),
              (still_asks start tx key (list_at start tx (Some u)) sends asked_before
                  (off_each start tx key sends (ap (parts_out tx key) sent_is ∙ still)) asks).less,
              ap (in_sends (wanted (list_at start tx (Some u)))) sent_is,
            )))
        turned turn sent_is asked (back.ends on over last none off still) =
            absurd (omega (
              arith,
              subst (λ o. 1 ≤ in_transit (onward (list_at start tx o)) before) live_was (was (given_is on) asked),
              none,
              onward_few start tx key (list_at start tx (Some u)) e.step.taken.to e.step.taken.body,
              out (list_at start tx (Some u)),
              last,
              subst (IsAwaited layout tx before) live_was (all_is_awaited start es before tx come.before transit),
              awaited.out tx start es e come before between takes (list_length layout u.phase u.touched),
              weigh_less (λ (x : Addressed). onward (list_at start tx (Some u)) x.signal.to x.signal.body)
                  (λ (x : Addressed). wanted (list_at start tx (Some u)) x.signal.to x.signal.body) between
                  (λ x. onward_few start tx key (list_at start tx (Some u)) x.signal.to x.signal.body),
              fewer start tx key 0 inside (list_at start tx (Some u)) (list_length layout u.phase u.touched) between,
            ))

        silent : (turn : Turn) → sends ≡ turn.step.effects.sends → asked_before ≡ false
            → parts_out tx key turn.step.effects.sends ≡ 0 → ⊥
        silent turn sent_is none zero_out =
            false≢true (sym none
            ∙ (still_asks start tx key [] sends asked_before
            (off_each start tx key sends (ap (parts_out tx key) sent_is ∙ zero_out)) asks).was_so)

        -- an operation is asked for by no abort
        unasked : (turn : Turn) → sends ≡ turn.step.effects.sends → asked_before ≡ false
            → Parts tx key number layout u e.step.taken.body turn → Now (left_of_turn turn)
        unasked turn sent_is none (parts.asks over nothing less unaborted unbacked) =
            absurd (true≢false (sym (aborting (sym (same (subst (AreUnbacked tx) (sym sent_is) unbacked)) ∙ given))
            ∙ unaborted))
        unasked turn sent_is none (parts.same over alike zero_out) = absurd (silent turn sent_is none zero_out)
        unasked turn sent_is none (parts.answered less zero_out) = absurd (silent turn sent_is none zero_out)
        unasked turn sent_is none (parts.free nothing zero_out) = absurd (silent turn sent_is none zero_out)
        unasked turn sent_is none (parts.aborted on last zero_out) = absurd (silent turn sent_is none zero_out)

        pub turn_holds : sends ≡ its_turn.step.effects.sends → Now (left_of_turn its_turn)
        turn_holds sent_is = by asked_before refl
          where
            by : (b : Bool) → asked_before ≡ b → Now (left_of_turn its_turn)
            by false none =
                unasked its_turn sent_is none
                (turn_parts tx key number layout (λ own. replicas_some start come.before.shape own) u
                e.step.taken.body right own_body)
            by true asked =
                turned its_turn sent_is asked
                (turn_aborts number layout tx key (node_at (replicas start key) 0) home_is
                (place_there (replicas start key) 0 inside) u e.step.taken.to e.step.taken.body own_body
                (λ off. (sent_known start tx key es come.before asked).touched u live_was)
                (part_asked start tx key 0 inside es e come before between transit takes u live_was)
                (short start tx key 0 inside es u live_was))

      both_no : (s : host.Host) → has_tc s ≡ true → has_lqh s ≡ true → ⊥
      both_no (Tc p) tc rows = false≢true rows
      both_no (Ldm l) tc rows = false≢true tc
      both_no (Shell a) tc rows = false≢true tc
      both_no (Main m) tc rows = false≢true tc

      here_runs : has_tc g ≡ true
      here_runs =
          subst (λ k. has_tc (after start k (logs_of start es k)) ≡ true) (sym here)
          (tc_runs start tx.tc (logs_of start es (home start tx)) some low)

      live_of : {a b : TcState} → a ≡ b → of_live tx a.live ≡ of_live tx b.live
      live_of alike = ap (λ (c : TcState). of_live tx c.live) alike

      mute_by : (f : Effects) → next.effects ≡ f → AreMute tx key f.sends → AreMute tx key sends
      mute_by f is all = subst (λ (f : Effects). AreMute tx key f.sends) (sym is) all

      api_mute : (body : Body) → is_api_kind body ≡ true → is_backing tx body ≡ false
      api_mute (Client (TcRollbackRep other cause)) is = absurd cc
      api_mute (Client c) is = refl
      api_mute (Host Round) is = refl
      api_mute _ is = absurd cc

      dih_mute : (body : Body) → is_dih_kind body ≡ true → is_backing tx body ≡ false
      dih_mute (Epoch x) is = refl
      dih_mute _ is = absurd cc

      takes_turn : IsTcStep g e.step.taken next → Holds (e ∷ es) later
      takes_turn step =
          which
          (tc_turn (IsMute tx key) tx (tc_of g) (beside_mute tx key (tc_of g)) facts.own facts.once e.step.taken.body
          (others_mute tx key (tc_of g) e.step.taken.body))
        where
          live_is : of_host tx next.state ≡ of_live tx (tc_row (tc_of g) e.step.taken).state.live
          live_is = live_of step.state

          same_by : AreUnbacked tx (tc_row (tc_of g) e.step.taken).effects.sends
              → is_given_up start (logs_of start (e ∷ es)) tx ≡ is_given_up start (logs_of start es) tx
          same_by none =
              given_same start es e come tx
              (subst (AreUnbacked tx) (sym (tc_speaks g e.step.taken step.runs step.at)) none)

          unbacked_of : (os : List Outgoing) → AreMute tx key os → AreUnbacked tx os
          unbacked_of os all =
              each_map (IsMute tx key) (λ (o : Outgoing). is_backing tx o.body ≡ false) os (λ o is. is.0) all

          which : TcTurn (IsMute tx key) tx (tc_of g) e.step.taken.body (tc_row (tc_of g) e.step.taken)
              → Holds (e ∷ es) later
          which (turn.idle alike mute deaf) =
              aside (mute_by _ step.effects mute) (same_by (unbacked_of _ mute)) (live_is ∙ alike)
              (λ tc its. deaf its)
          which (turn.begins is left mute none) = λ given asks.
              let asked : asked_before ≡ true =
              sym (now_asks ∙ mute_in start tx key sends asked_before (mute_by _ step.effects mute)) ∙ asks in
              absurd (omega (
                arith,
                subst (λ x. tx.seq < next_number x) (here_was start es e come tx here)
                    (sent_known start tx key es come.before asked).old,
                ap (λ (v : TxId). v.seq) is,
              ))
          which (turn.turns u there own_body sent_is left) = λ given asks.
              subst Now
              (sym (ap (of_host tx) (here_now start es e come tx here) ∙ live_is ∙ left
              ∙ ap (λ l. left_of_turn (turn_for (tc_of g).node l tx e.step.taken.body u)) same_layout))
              (turn_holds (tc_of g).node (sym number) u
              (ap (of_host tx) (here_was start es e come tx here) ∙ there) own_body step.rows owned.right
              (λ none. same_by (subst (AreUnbacked tx) (ap (λ (f : Effects). f.sends) step.effects) none)) given
              (sym now_asks ∙ asks)
              (ap (λ (f : Effects). f.sends) step.effects ∙ sent_is
              ∙ ap (λ l. (turn_for (tc_of g).node l tx e.step.taken.body u).step.effects.sends) same_layout))
            where
              number : tx.tc ≡ (tc_of g).node
              number =
                  (of_each (λ one t. IsOwn (tc_of g).node (tc_of g).next_seq one) tx (tc_of g).live u facts.own
                  there).home

              same_layout : (tc_of g).layout ≡ first_layout start.shape
              same_layout = tc_layout start e.host (logs_of start es e.host) step.runs

              owned : IsOwned (tc_of g).node (tc_of g).next_seq
                  (sent_ways start back_by e.host (logs_of start es e.host)) (tx, u)
              owned =
                  each_found
                  (IsOwned (tc_of g).node (tc_of g).next_seq
                  (sent_ways start back_by e.host (logs_of start es e.host)))
                  (tc_of g).live tx u (log_sound start e.host (logs_of start es e.host)).tc.live there

      pub near : Holds (e ∷ es) later
      near = by (block_case g e.step.taken)
        where
          by : BlockCase g e.step.taken next → Holds (e ∷ es) later
          by (api_takes step) =
              aside
              (mute_by _ step.effects
              (api_each (IsMute tx key) (λ o is. (api_mute o.body is, part.api_apart tx key o.body is))
              (λ name node. (refl, refl))
              (api_of g) e.step.taken.body))
              (given_quiet start es e come tx
              (tc_silent g e.step.taken (λ at. let both : block.Api ≡ block.Tc = sym step.at ∙ at in cc)))
              (live_of step.tc) (λ is its. absurd (false≢true (sym (ap is_tc step.at) ∙ is)))
          by (tc_takes step) = takes_turn step
          by (dih_takes step) =
              aside
              (mute_by _ step.effects
              (each_of is_dih_kind (IsMute tx key) (λ o is. (dih_mute o.body is, part.dih_apart tx key o.body is)) _
              (dih_kinds (dih_of g) e.step.taken.body)))
              (given_quiet start es e come tx
              (tc_silent g e.step.taken (λ at. let both : block.Dih ≡ block.Tc = sym step.at ∙ at in cc)))
              (live_of step.tc) (λ is its. absurd (false≢true (sym (ap is_tc step.at) ∙ is)))
          by (rows_take step) = absurd (both_no g here_runs step.runs)
          by (none_takes step) =
              aside (mute_by _ (ap (λ (v : Step host.Host). v.effects) step.is) tt)
              (given_quiet start es e come tx (idle_silent g e.step.taken step.runs))
              (live_of (ap (λ (v : Step host.Host). tc_of v.state) step.is))
              (λ is its. none_of tx g e.step.taken.to.block is step.runs)

    holds_next : Holds (e ∷ es) later
    holds_next = event_cases (machine start) e es (home start tx) (λ log. Holds (e ∷ es) later) near far

  holds_along : (es : List HostStep) (xs : List Addressed) → IsRun start es → AreInTransit start es xs → Holds es xs
  holds_along =
      along_transit start Holds (λ given asks. absurd (false≢true asks))
      (λ es e before between come transit was takes. holds_next es e come before between transit takes was)

pub given_up_are_out_at_first : GivenUpAreOutAtFirst
given_up_are_out_at_first start es key tx run quiet some low given =
    who_is_away_is_out start es key 0 tx run inside (by (is_away start key tx first (logs_of start es first)) refl)
  where
    inside : 0 < length (replicas start key)
    inside = replicas_some start run.shape key

    first : ℕ
    first = replica_host start key 0

    all_taken : taken (machine start) (home start tx) (logs_of start es first)
        ≡ sent (machine start) (home start tx) first (logs_of start es (home start tx))
    all_taken =
        let node = replicas_are_nodes start key 0 run.shape inside in
        quiet (home start tx) first (host_below start (coordinator_of tx) some low)
        (host_below start (rows_of (node_at (replicas start key) 0)) node.from node.to)

    still : (xs : List Addressed) × IsStill start es xs
    still = still_at_quiet start es run quiet

    none_onward : in_transit
        (at_first.onward start tx key (list_at start tx (live_at start (logs_of start es) tx))) still.0 ≡ 0
    none_onward =
        none_weigh start es still.0 run still.1
        (at_first.onward start tx key (list_at start tx (live_at start (logs_of start es) tx))) at_place
      where
        list : List Outgoing
        list = list_at start tx (live_at start (logs_of start es) tx)

        by_home : (other : TxId) (place : ℕ) (to : Place) → first_hosts start ≤ host_for start to → (b : Bool)
            → (is_tc to.block && (to.node == tx.tc)) ≡ b
            → one_if (b && (same_tx other tx
            && any_sent (is_abort_to tx key (node_at (replicas start key) 0)) (drop place
            (list_at start tx (live_at start (logs_of start es) tx))))) ≡ 0
        by_home other place to high false is = refl
        by_home other place to high true is =
            absurd (omega (arith, high, home_for start tx (home_low start es tx run (inl given)) to is))

        at_place : IsZero start es still.0 run still.1
            (at_first.onward start tx key (list_at start tx (live_at start (logs_of start es) tx)))
        at_place to (Host (Continue (work.Transaction other) place)) routed home high =
            by_home other place to high (is_tc to.block && (to.node == tx.tc)) refl
        at_place to _ routed home high = refl

    by : (b : Bool) → is_away start key tx first (logs_of start es first) ≡ b
        → is_away start key tx first (logs_of start es first) ≡ true
    by true is = is
    by false is =
        absurd (omega (
          arith,
          none_onward,
          holds_along start tx key some low es still.0 run still.1.transit given
              (ap (asks_last tx key) (sym all_taken) ∙ taken_asks start tx key some low es run is),
        ))
