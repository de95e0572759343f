-- Of who is given up and hasn't let go of a key at a place of its chain: what leads to an abort there, what of its
-- operation has come further, and that each step but a turn of its own at its coordinator leaves one of the two.
use Rattle.std.proofs.Common.{◌≡◌, ◌≢◌, ◌⊎◌, ◌≤◌, ◌<◌, ◌+◌, ◌*◌, ℕ, zero, suc, Bool, true, false, List, [], ◌∷◌, drop}
use Rattle.std.proofs.Common.{length, refl, sym}
use Rattle.std.proofs.Common.{ap, ◌∙◌, subst, arith, inl, inr}
use Rattle.std.proofs.lemmas.Bool.{and_parts, eqb-true, false≢true, true≢false}
use Rattle.std.proofs.lemmas.Bool.Decides.{nat_tests}
use Rattle.std.specs.Prelude.{◌-◌, ◌==◌, ◌&&◌, ◌||◌, if◌then◌else◌, nat_le, nat_lt, Option, None, Some}
use Rattle.run_theory.proofs.EventCases.{event_cases, event_moves, event_own}
use Rattle.run_theory.proofs.Runs.{log_of-other, log_of-own}
use Rattle.run_theory.specs.Counts.{one_if, tally, total}
use Rattle.sig_core.proofs.Keys.{same_tx-self}
use Rattle.sig_core.proofs.TxLemmas.{same_tx-is}
use Rattle.sig_core.specs.declared.member.Member.{Member}
use Rattle.sig_core.specs.declared.member.TxId.{TxId}
use Rattle.sig_core.specs.declared.outs.Outgoing.{Outgoing}
use Rattle.sig_core.specs.declared.place.BlockId.TheVariants as block
use Rattle.sig_core.specs.declared.place.Place.{Place}
use Rattle.sig_core.specs.declared.signal.Body.{Body}
use Rattle.sig_core.specs.declared.signal.Body.TheVariants.{Chain, Host}
use Rattle.sig_core.specs.declared.signal.chain.ChainSignal.TheVariants.{Abort, LqhKeyConf, LqhKeyRef, LqhKeyReq}
use Rattle.sig_core.specs.declared.signal.chain.RowWork.{RowWork}
use Rattle.sig_core.specs.declared.signal.host.HostSignal.TheVariants.{Continue}
use Rattle.sig_core.specs.declared.signal.host.Work.TheVariants as work
use Rattle.sig_core.specs.Chain.{node_at}
use Rattle.sig_core.specs.Place.{coordinator_of}
use Rattle.sig_core.specs.Same.{same_key, same_tx}
use Rattle.sig_core.specs.Step.{Effects, Step}
use Rattle.sig_core.specs.Work.{work_key}
use Rattle.frag_map.proofs.FirstReplicas.{few_replicas}
use Rattle.frag_map.specs.Layout.{Layout, first_layout}
use Rattle.row_records.proofs.KeyLemmas as keys
use Rattle.lqh_block.specs.State.{LqhState}
use Rattle.tc_block.specs.Abort.{replica_count}
use Rattle.tc_block.specs.declared.phase.Phase.{Phase}
use Rattle.tc_block.specs.declared.phase.Phase.TheVariants.{Open, Verifying, Committing, Completing, Aborting}
use Rattle.tc_block.specs.declared.sends.TheConstants.{SENDS}
use Rattle.tc_block.specs.declared.touched.Touched.{Touched}
use Rattle.tc_block.specs.declared.transaction.Transaction.{Transaction}
use Rattle.tc_block.specs.Phases.{is_aborting}
use Rattle.tc_block.specs.Sends.{phase_sends}
use Rattle.tc_block.specs.State.{TcState}
use Rattle.node_core.proofs.HostCases.{IsRowsStep}
use Rattle.node_core.specs.Blocks.{has_lqh, lqh_of, tc_of}
use Rattle.node_core.specs.declared.host.Host as host
use Rattle.node_core.specs.Requests.{is_request}
use Rattle.node_core.specs.Row.{row}
use Rattle.world_core.specs.Hosts.{home, first_hosts, rows_host, tc_host}
use Rattle.world_core.specs.Machine.{after, machine, signals_of, step_after}
use Rattle.world_core.specs.Start.{Start}
use Rattle.world_core.specs.Steps.{Addressed, HostStep}
use Rattle.key_laws.specs.Replica.{aborts, event_at, rests}
use Rattle.host_laws.proofs.rows.Operations.{is_lqh, true_and}
use Rattle.host_laws.proofs.rows.RequestCounts.{asked_by}
use Rattle.host_laws.proofs.hosts.Sums.{one_most, total_one}
use Rattle.host_laws.proofs.api.Wishes.{is_tc}
use Rattle.host_laws.specs.Live.{of_live}
use Rattle.host_laws.specs.ReplicaLaws.{event_in}
use Rattle.run_laws.specs.GivenUp.{is_given_up}
use Rattle.run_laws.specs.Live.{live_at, of_host}
use Rattle.run_laws.specs.Routes.{IsForBlock, IsRequestRouted, IsRouted, replica_host, replicas}
use Rattle.run_laws.specs.Transit.{AreInTransit, Comes, Takes, joined, logs_of}
use Rattle.run_laws.proofs.routes.Addressed.{comes_below, rows_addressed, tc_addressed}
use Rattle.run_laws.proofs.hosts.Always.{few_touched}
use Rattle.run_laws.proofs.hosts.HomeSteps.{IsHome, all_home, here_was, live_leaves}
use Rattle.run_laws.proofs.routes.Events.{IsPlaced, coming_are_routed, placed, placed_runs}
use Rattle.run_laws.proofs.routes.Chain.{hosts_are_apart}
use Rattle.run_laws.proofs.circle.RowsEvents.{event_rows}
use Rattle.run_laws.proofs.hosts.TcSaid.{tc_silent}
use Rattle.run_laws.proofs.hosts.TxTurns.{is_for as is_for_tx}
use Rattle.run_laws.proofs.transit.Weighing.{each_taken, in_sends, in_transit, joins_weigh, none_passes, takes_weigh}
use Rattle.run_laws.proofs.transit.Weighing.{weigh}
use Rattle.order_laws.specs.Awaited.{due, due_in, list_length}
use Rattle.order_laws.specs.Gone.{gone_by}
use Rattle.order_laws.specs.Standing.{is_away}
use Rattle.order_laws.specs.Unanswered.{asks_on, is_on_key, is_part_on}
use Rattle.order_laws.proofs.AbortingTurns.{is_abort_to}
use Rattle.order_laws.proofs.AwaitedSends.{phase_long}
use Rattle.order_laws.proofs.Further.{further_out, is_from, is_further, lqh_further}
use Rattle.order_laws.proofs.GivenUp.{given_same}
use Rattle.order_laws.proofs.Leads.{any_sent, lead, lqh_block_is, tc_block_is}
use Rattle.order_laws.proofs.Standing.{came_back}
use Rattle.order_laws.proofs.Unanswered.{parts_are_unanswered}
use Rattle.order_laws.proofs.UnansweredTurns.{AreUnbacked}

-- the list that its coordinator sends of it eight at a time, if it has it
abbrev pub list_at : Start → TxId → Option Transaction → List Outgoing
list_at start tx None = []
list_at start tx (Some t) = phase_sends (first_layout start.shape) tx t.phase t.touched

module _ (start : Start) (tx : TxId) (key : List ℕ) (at : ℕ) (inside : at < length (replicas start key)) where
  abbrev pub node : ℕ
  node = node_at (replicas start key) at

  abbrev pub wanted : List Outgoing → Place → Body → ℕ
  wanted list to body = lead tx (is_abort_to tx key (node_at (replicas start key) at)) list to body

  abbrev pub waiting_from : host.Host → ℕ
  waiting_from s = tally (is_from tx key at) (lqh_of s).waiting

  -- its request for the place or one behind it that waits or is under way, or is answered
  abbrev pub further : (ℕ → List HostStep) → List Addressed → ℕ
  further logs xs =
      tally (λ (x : Addressed). is_further tx key at x.signal.body) xs
      + total (first_hosts start) (λ k. tally (is_from tx key at) (lqh_of (after start k (logs k))).waiting)

  abbrev pub IsEnding : (ℕ → List HostStep) → List Addressed → Option Transaction → Type 0
  IsEnding logs xs o = (1 ≤ in_transit (wanted (list_at start tx o)) xs) ⊎ (1 ≤ further logs xs)

  abbrev pub Stands : (ℕ → List HostStep) → Type 0
  Stands logs = is_away start key tx (replica_host start key at) (logs (replica_host start key at)) ≡ false

  abbrev pub Holds : List HostStep → List Addressed → Type 0
  Holds es xs =
      is_given_up start (logs_of start es) tx ≡ true → Stands (logs_of start es)
      → IsEnding (logs_of start es) xs (live_at start (logs_of start es) tx)

  pub tally_is : (xs : List Addressed) → tally (λ (x : Addressed). is_further tx key at x.signal.body) xs
      ≡ in_transit (λ to body. one_if (is_further tx key at body)) xs
  tally_is [] = refl
  tally_is (x ∷ xs) = ap (λ n. one_if (is_further tx key at x.signal.body) + n) (tally_is xs)

  sends_is : (sends : List Outgoing)
      → further_out tx key at sends ≡ weigh (λ (o : Outgoing). one_if (is_further tx key at o.body)) sends
  sends_is [] = refl
  sends_is (o ∷ sends) = ap (λ n. one_if (is_further tx key at o.body) + n) (sends_is sends)

  no_request : (body : Body) → is_request body ≡ true → one_if (is_further tx key at body) ≡ 0
  no_request (Chain c) is = absurd (false≢true is)
  no_request _ is = refl

  wants_none : (list : List Outgoing) (to : Place) (body : Body) → is_request body ≡ true → wanted list to body ≡ 0
  wants_none list to (Chain c) is = absurd (false≢true is)
  wants_none list to (Host (Continue (work.Transaction other) place)) is = absurd (false≢true is)
  wants_none list to _ is = refl

  -- a signal leads to an abort no more than it stands for something that is awaited
  wanted_due : (list : List Outgoing) (count : ℕ) (to : Place) (body : Body) → wanted list to body ≤ due tx count body
  wanted_due list count to (Chain (Abort other own)) =
      by (is_lqh to.block && (to.node == node)) (same_tx other tx) (same_key own key)
    where
      by : (a b c : Bool) → one_if (a && (b && c)) ≤ one_if b
      by true true c = one_most c
      by true false c = omega arith
      by false b c = omega arith
  wanted_due list count to (Host (Continue (work.Transaction other) place)) =
      by (is_tc to.block && (to.node == tx.tc)) (same_tx other tx)
      (any_sent (is_abort_to tx key (node_at (replicas start key) at)) (drop place list))
    where
      by : (a b c : Bool) → one_if (a && (b && c)) ≤ (if b then suc (count - suc place) else 0)
      by true true c = omega (arith, one_most c)
      by true false c = omega arith
      by false true c = omega arith
      by false false c = omega arith
  wanted_due list count to _ = omega arith

  pub fewer : (list : List Outgoing) (count : ℕ) (xs : List Addressed)
      → in_transit (wanted list) xs ≤ due_in tx count xs
  fewer list count [] = omega arith
  fewer list count (x ∷ xs) = omega (arith, wanted_due list count x.signal.to x.signal.body, fewer list count xs)

  -- a list of aborts is one that its coordinator goes through to the end
  module _ (es : List HostStep) (u : Transaction) (live_was : live_at start (logs_of start es) tx ≡ Some u) where
    abbrev layout : Layout
    layout = first_layout start.shape

    pub short : is_aborting u.phase ≡ true → length (list_at start tx (Some u)) ≤ SENDS
    short on =
        omega (
          arith,
          phase_long tx layout u.phase u.touched,
          by u.phase on,
          each_few u.touched,
          few_touched start tx (home start tx) (logs_of start es (home start tx)) u live_was,
        )
      where
        each_few : (xs : List Touched) → replica_count (first_layout start.shape) xs ≤ 8 * length xs
        each_few [] = omega arith
        each_few (x ∷ xs) = omega (arith, each_few xs, few_replicas (first_layout start.shape) x.key)

        by : (phase : Phase) → is_aborting phase ≡ true
            → list_length layout phase u.touched ≡ replica_count layout u.touched
        by (Aborting why verifying awaited) is = refl
        by Open is = absurd (false≢true is)
        by Verifying is = absurd (false≢true is)
        by (Committing epoch awaited) is = absurd (false≢true is)
        by (Completing epoch awaited) is = absurd (false≢true is)

  module _ (es : List HostStep) (e : HostStep) (come : Comes start es e) (before between : List Addressed)
      (transit : AreInTransit start es before) (takes : Takes e before between) where
    abbrev g : host.Host
    g = after start e.host (logs_of start es e.host)

    abbrev next : Step host.Host
    next = row g e.step.taken

    abbrev sends : List Outgoing
    sends = (step_after start e.host (logs_of start es e.host) e).effects.sends

    abbrev later : List Addressed
    later = joined (signals_of start e.host (logs_of start es e.host) e) between

    abbrev taken : List Outgoing → ℕ
    taken list = wanted list e.step.taken.to e.step.taken.body

    abbrev came : ℕ
    came = one_if (is_further tx key at e.step.taken.body)

    pub out : (list : List Outgoing) → in_transit (wanted list) before ≡ taken list + in_transit (wanted list) between
    out list = takes_weigh (wanted list) e before between (wants_none list e.step.taken.to e.step.taken.body) takes

    pub into : (list : List Outgoing)
        → in_transit (wanted list) later ≡ in_sends (wanted list) sends + in_transit (wanted list) between
    into list = joins_weigh (wanted list) start e.host (logs_of start es e.host) e between

    pub balance : further (logs_of start (e ∷ es)) later + came + waiting_from g
        ≡ further (logs_of start es) before + further_out tx key at sends + waiting_from next.state
    balance =
        omega (
          arith,
          tally_is before,
          tally_is between,
          tally_is later,
          sends_is sends,
          takes_weigh (λ to body. one_if (is_further tx key at body)) e before between
              (no_request e.step.taken.body) takes,
          joins_weigh (λ to body. one_if (is_further tx key at body)) start e.host (logs_of start es e.host) e between,
          total_one (first_hosts start) (λ k. waiting_from (after start k (logs_of start es k)))
              (λ k. waiting_from (after start k (logs_of start (e ∷ es) k))) e.host (comes_below start es e come)
              (λ k off. ap (λ log. waiting_from (after start k log))
              (log_of-other (machine start) e es k (λ same. off (sym same)))),
          ap (λ log. waiting_from (after start e.host log)) (log_of-own (machine start) e es e.host refl),
        )

    abbrev Now : Option Transaction → Type 0
    Now o = IsEnding (logs_of start (e ∷ es)) later o

    pub waits_as : lqh_of next.state ≡ lqh_of g → waiting_from next.state ≡ waiting_from g
    waits_as rows = ap (λ (l : LqhState). tally (is_from tx key at) l.waiting) rows

    -- where nothing of it comes that leads further
    passes : (o : Option Transaction) → lqh_of next.state ≡ lqh_of g → taken (list_at start tx o) ≡ 0 → came ≡ 0
        → IsEnding (logs_of start es) before o → Now o
    passes o rows none nothing (inl some) =
        inl (omega (arith, some, none, out (list_at start tx o), into (list_at start tx o)))
    passes o rows none nothing (inr some) = inr (omega (arith, some, nothing, balance, waits_as rows))

    -- a step at which nothing happens to the key leaves it as it was
    pub stood : event_in key g e.step.taken ≡ rests → Stands (logs_of start (e ∷ es)) → Stands (logs_of start es)
    stood none =
        event_moves (machine start) e es
        (λ h was log. is_away start key tx h log ≡ false → is_away start key tx h was ≡ false)
        (λ is. sym (ap (λ event. gone_by tx event (is_away start key tx e.host (logs_of start es e.host))) none) ∙ is)
        (λ h log is. is) (replica_host start key at)

    -- a request of it comes to the host of its place, which runs rows
    pub record ComesAt (place : ℕ) : Type 0 where
      pub home : e.step.taken.to.block ≡ block.Lqh
      pub here : IsPlaced start e.host key place
      pub runs : has_lqh g ≡ true

    request_comes : (work : RowWork) (chain : List Member) (place : ℕ)
        → e.step.taken.body ≡ Chain (LqhKeyReq tx work chain place) → work_key work ≡ key → ComesAt place
    request_comes work chain place is on = record { home = at_rows; here = there; runs = running }
      where
        at_rows : e.step.taken.to.block ≡ block.Lqh
        at_rows = subst (IsForBlock e.step.taken.to) is (coming_are_routed start es e come).block

        routed : IsRequestRouted start e.step.taken.to.node
            (record { tx = tx; work = work; chain = chain; at = place })
        routed = subst (IsRouted start e.step.taken.to.node) is (coming_are_routed start es e come).routed

        there : IsPlaced start e.host key place
        there =
            placed start e.host e.step.taken.to.node key chain place (rows_addressed start es e come at_rows)
            (routed.chain ∙ ap (replicas start) on) routed.sent

        running : has_lqh g ≡ true
        running = placed_runs start e.host key place (logs_of start es e.host) come.before.shape there

    -- an abort comes to the host of this place
    abort_comes : (other : TxId) (own : List ℕ) → e.step.taken.body ≡ Chain (Abort other own)
        → e.step.taken.to.block ≡ block.Lqh → (e.step.taken.to.node == node) ≡ true
        → IsPlaced start e.host key at
    abort_comes other own is at_rows same = record {
      inside = inside;
      host_is =
          rows_addressed start es e come at_rows ∙ ap (rows_host start) (eqb-true e.step.taken.to.node node same);
    }

    -- an answer comes to the host of its coordinator
    answer_comes : e.step.taken.to ≡ coordinator_of tx → (e.host ≡ home start tx) × (e.step.taken.to.block ≡ block.Tc)
    answer_comes is = (
      tc_addressed start es e come (ap (λ (p : Place). p.block) is)
          ∙ ap (tc_host start) (ap (λ (p : Place). p.node) is),
      ap (λ (p : Place). p.block) is,
    )

    -- where its coordinator hasn't it no part of an operation of it comes
    none_parts : live_at start (logs_of start es) tx ≡ None → is_part_on tx key e.step.taken.body ≡ false
    none_parts gone = by (is_request e.step.taken.body) refl
      where
        plain : (body : Body) → is_request body ≡ true → is_part_on tx key body ≡ false
        plain (Chain c) is = absurd (false≢true is)
        plain _ is = refl

        by : (b : Bool) → is_request e.step.taken.body ≡ b → is_part_on tx key e.step.taken.body ≡ false
        by true is = plain e.step.taken.body is
        by false is =
            each_taken (λ (x : Addressed). is_part_on tx key x.signal.body ≡ false) e before between is takes
            (none_passes (λ (x : Addressed). is_part_on tx key x.signal.body) before
            (omega (
              arith,
              parts_are_unanswered start es before tx key come.before transit,
              ap (λ o. one_if (asks_on key o)) gone,
            )))

    pub part_asked : (t : Transaction) → live_at start (logs_of start es) tx ≡ Some t
        → is_part_on tx key e.step.taken.body ≡ true → is_on_key key t.asked ≡ true
    part_asked t there part = by (is_on_key key t.asked) refl
      where
        plain : (body : Body) → is_part_on tx key body ≡ true → is_request body ≡ false
        plain (Chain c) is = refl
        plain _ is = absurd cc

        by : (b : Bool) → is_on_key key t.asked ≡ b → is_on_key key t.asked ≡ true
        by true is = is
        by false is =
            absurd (true≢false (sym part
            ∙ each_taken (λ (x : Addressed). is_part_on tx key x.signal.body ≡ false) e before between
            (plain e.step.taken.body part) takes
            (none_passes (λ (x : Addressed). is_part_on tx key x.signal.body) before
            (omega (
              arith,
              parts_are_unanswered start es before tx key come.before transit,
              ap (λ o. one_if (asks_on key o)) there,
              ap one_if is,
            )))))

    -- nothing of it comes to rows that aren't there, nor to a coordinator that hasn't it
    module _ (was : Holds es before) (apart : is_lqh e.step.taken.to.block ≡ true → has_lqh g ≡ false)
        (missed : is_tc e.step.taken.to.block ≡ true → is_for_tx tx e.step.taken.body ≡ true
        → of_host tx g ≡ None) where
      gone : e.host ≡ home start tx → is_tc e.step.taken.to.block ≡ true → is_for_tx tx e.step.taken.body ≡ true
          → live_at start (logs_of start es) tx ≡ None
      gone here tc its = ap (of_host tx) (here_was start es e come tx here) ∙ missed tc its

      none_abort : (other : TxId) (own : List ℕ) → e.step.taken.body ≡ Chain (Abort other own) → (a b c : Bool)
          → is_lqh e.step.taken.to.block ≡ a → (e.step.taken.to.node == node) ≡ b → one_if ((a && b) && c) ≡ 0
      none_abort other own is true true c p q =
          let here = abort_comes other own is (lqh_block_is e.step.taken.to.block p) q in
          absurd (false≢true (sym (apart p)
          ∙ placed_runs start e.host key at (logs_of start es e.host) come.before.shape here))
      none_abort other own is true false c p q = refl
      none_abort other own is false b c p q = refl

      onward_from : (o : Option Transaction) → live_at start (logs_of start es) tx ≡ o → (other : TxId) (place : ℕ)
          → e.step.taken.body ≡ Host (Continue (work.Transaction other) place) → (a b c : Bool)
          → is_tc e.step.taken.to.block ≡ a → (e.step.taken.to.node == tx.tc) ≡ b → same_tx other tx ≡ c
          → one_if ((a && b) && (c && any_sent (is_abort_to tx key (node_at (replicas start key) at))
          (drop place (list_at start tx o)))) ≡ 0
      onward_from o live other place is true true true p q r =
          ap (λ o. one_if (any_sent (is_abort_to tx key (node_at (replicas start key) at))
          (drop place (list_at start tx o))))
          (sym live ∙ gone (tc_addressed start es e come (tc_block_is e.step.taken.to.block p)
          ∙ ap (tc_host start) (eqb-true e.step.taken.to.node tx.tc q)) p (ap (is_for_tx tx) is ∙ r))
          ∙ ap one_if (nothing place)
        where
          nothing : (n : ℕ) → any_sent (is_abort_to tx key (node_at (replicas start key) at)) (drop n []) ≡ false
          nothing zero = refl
          nothing (suc n) = refl
      onward_from o live other place is true true false p q r = refl
      onward_from o live other place is true false c p q r = refl
      onward_from o live other place is false b c p q r = refl

      pub none_leads : (o : Option Transaction) → live_at start (logs_of start es) tx ≡ o
          → taken (list_at start tx o) ≡ 0
      none_leads o live = by e.step.taken.body refl
        where
          by : (body : Body) → e.step.taken.body ≡ body → wanted (list_at start tx o) e.step.taken.to body ≡ 0
          by (Chain (Abort other own)) is =
              none_abort other own is (is_lqh e.step.taken.to.block) (e.step.taken.to.node == node)
              (same_tx other tx && same_key own key) refl refl
          by (Host (Continue (work.Transaction other) place)) is =
              onward_from o live other place is (is_tc e.step.taken.to.block) (e.step.taken.to.node == tx.tc)
              (same_tx other tx) refl refl refl
          by _ is = refl

      answered : (v : TxId) (own : List ℕ) → e.step.taken.to ≡ coordinator_of v
          → is_for_tx tx e.step.taken.body ≡ same_tx v tx
          → is_part_on tx key e.step.taken.body ≡ (same_tx v tx && same_key own key)
          → (same_tx v tx && same_key own key) ≡ false
      answered v own to its part = by (same_tx v tx && same_key own key) refl
        where
          by : (b : Bool) → (same_tx v tx && same_key own key) ≡ b → b ≡ false
          by false is = refl
          by true is =
              let both = and_parts (same_tx v tx) (same_key own key) is in
              let home_is = answer_comes (to ∙ ap coordinator_of (same_tx-is v tx both.0)) in
              absurd (true≢false (sym (part ∙ is)
              ∙ none_parts (gone home_is.0 (ap is_tc home_is.1) (its ∙ both.0))))

      requested : (v : TxId) (work : RowWork) (chain : List Member) (place : ℕ)
          → e.step.taken.body ≡ Chain (LqhKeyReq v work chain place)
          → ((same_tx v tx && same_key (work_key work) key) && nat_lt at place) ≡ false
      requested v work chain place is = by ((same_tx v tx && same_key (work_key work) key) && nat_lt at place) refl
        where
          by : (b : Bool) → ((same_tx v tx && same_key (work_key work) key) && nat_lt at place) ≡ b → b ≡ false
          by false off = refl
          by true on =
              let front = (and_parts (same_tx v tx && same_key (work_key work) key) (nat_lt at place) on).0 in
              let both = and_parts (same_tx v tx) (same_key (work_key work) key) front in
              let comes = request_comes work chain place
              (is ∙ ap (λ u. Chain (LqhKeyReq u work chain place)) (same_tx-is v tx both.0))
              (keys.same (work_key work) key both.1) in
              absurd (false≢true (sym (apart (ap is_lqh comes.home)) ∙ comes.runs))

      pub none_further : came ≡ 0
      none_further = by e.step.taken.body refl (coming_are_routed start es e come).block
        where
          by : (body : Body) → e.step.taken.body ≡ body → IsForBlock e.step.taken.to e.step.taken.body
              → one_if (is_further tx key at body) ≡ 0
          by (Chain (LqhKeyReq v work chain place)) is to = ap one_if (requested v work chain place is)
          by (Chain (LqhKeyConf v own answer)) is to =
              ap one_if (answered v own (subst (IsForBlock e.step.taken.to) is to) (ap (is_for_tx tx) is)
              (ap (is_part_on tx key) is))
          by (Chain (LqhKeyRef v own cause)) is to =
              ap one_if (answered v own (subst (IsForBlock e.step.taken.to) is to) (ap (is_for_tx tx) is)
              (ap (is_part_on tx key) is))
          by _ is to = refl

      -- so the step leaves the claim as it was
      pub aside_goes : of_host tx next.state ≡ of_host tx g → lqh_of next.state ≡ lqh_of g
          → event_in key g e.step.taken ≡ rests
          → is_given_up start (logs_of start (e ∷ es)) tx ≡ is_given_up start (logs_of start es) tx
          → Holds (e ∷ es) later
      aside_goes alike rows none same given stands =
          subst Now (sym (live_leaves start es e come tx alike))
          (passes (live_at start (logs_of start es) tx) rows (none_leads (live_at start (logs_of start es) tx) refl)
          none_further (was (sym same ∙ given) (stood none stands)))

    -- a step of the rows of a node
    module _ (was : Holds es before) (step : IsRowsStep g e.step.taken next) where
      rows_same : is_given_up start (logs_of start (e ∷ es)) tx ≡ is_given_up start (logs_of start es) tx
      rows_same =
          given_same start es e come tx
          (subst (AreUnbacked tx)
          (sym (tc_silent g e.step.taken (λ at. let both : block.Lqh ≡ block.Tc = sym step.at ∙ at in cc))) tt)

      -- no answer comes to rows
      rows_further : came ≤ asked_by (is_from tx key at) e.step.taken.body
      rows_further = by e.step.taken.body refl (coming_are_routed start es e come).block
        where
          behind : (place : ℕ) (a : Bool) → one_if (a && nat_lt at place) ≤ one_if (a && nat_le at place)
          behind place true = which (nat_lt at place) refl
            where
              which : (b : Bool) → nat_lt at place ≡ b → one_if b ≤ one_if (nat_le at place)
              which false is = omega arith
              which true is =
                  let low : at < place = grind (arith, nat_tests, is) in
                  let le : at ≤ place = omega (arith, low) in
                  let on : nat_le at place ≡ true = grind (arith, nat_tests, le) in
                  omega (arith, ap one_if on)
          behind place false = omega arith

          not_tc : (v : TxId) → e.step.taken.to ≡ coordinator_of v → ⊥
          not_tc v to = let both : block.Lqh ≡ block.Tc = sym step.at ∙ ap (λ (p : Place). p.block) to in cc

          by : (body : Body) → e.step.taken.body ≡ body → IsForBlock e.step.taken.to e.step.taken.body
              → one_if (is_further tx key at body) ≤ asked_by (is_from tx key at) body
          by (Chain (LqhKeyReq v work chain place)) is to =
              behind place (same_tx v tx && same_key (work_key work) key)
          by (Chain (LqhKeyConf v own answer)) is to = absurd (not_tc v (subst (IsForBlock e.step.taken.to) is to))
          by (Chain (LqhKeyRef v own cause)) is to = absurd (not_tc v (subst (IsForBlock e.step.taken.to) is to))
          by _ is to = omega arith

      rows_keep : further (logs_of start es) before + asked_by (is_from tx key at) e.step.taken.body
          ≤ further (logs_of start (e ∷ es)) later + came
      rows_keep =
          omega (
            arith,
            balance,
            lqh_further tx key at (lqh_of g) e.step.taken.body,
            ap (λ (f : Effects). further_out tx key at f.sends) step.effects,
            ap (λ (l : LqhState). tally (is_from tx key at) l.waiting) step.state,
          )

      -- where it still stands no abort of it came here
      rows_abort : Stands (logs_of start (e ∷ es)) → (list : List Outgoing) → taken list ≡ 0
      rows_abort stands list = by e.step.taken.body refl
        where
          hp : ℕ
          hp = replica_host start key at

          abort : (other : TxId) (own : List ℕ) → e.step.taken.body ≡ Chain (Abort other own)
              → (a b c d : Bool) → is_lqh e.step.taken.to.block ≡ a → (e.step.taken.to.node == node) ≡ b
              → same_tx other tx ≡ c → same_key own key ≡ d → one_if ((a && b) && (c && d)) ≡ 0
          abort other own is true true true true p q r s = absurd (true≢false (sym gone ∙ stands))
            where
              here : e.host ≡ hp
              here = (abort_comes other own is step.at q).host_is

              event_is : event_in key g e.step.taken ≡ aborts tx
              event_is =
                  event_rows key g e.step.taken step.runs step.at
                  ∙ ap (event_at key (lqh_of g)) is
                  ∙ ap (λ b. if b then aborts other else rests) s
                  ∙ ap (λ v. aborts v) (same_tx-is other tx r)

              gone : is_away start key tx hp (logs_of start (e ∷ es) hp) ≡ true
              gone =
                  let was : Bool = is_away start key tx e.host (logs_of start es e.host) in
                  event_own (machine start) e es (λ h log. is_away start key tx h log ≡ true) hp here
                  (ap (λ event. gone_by tx event was) event_is ∙ ap (λ b. b || was) (same_tx-self tx))
          abort other own is true true true false p q r s = refl
          abort other own is true true false d p q r s = refl
          abort other own is true false c d p q r s = refl
          abort other own is false b c d p q r s = refl

          by : (body : Body) → e.step.taken.body ≡ body → wanted list e.step.taken.to body ≡ 0
          by (Chain (Abort other own)) is =
              abort other own is (is_lqh e.step.taken.to.block) (e.step.taken.to.node == node) (same_tx other tx)
              (same_key own key) refl refl refl refl
          by (Host (Continue (work.Transaction other) place)) is =
              ap (λ b. one_if ((is_tc b && (e.step.taken.to.node == tx.tc)) && (same_tx other tx
              && any_sent (is_abort_to tx key (node_at (replicas start key) at)) (drop place list)))) step.at
          by _ is = refl

      -- it comes to this place, and isn't further on yet
      rows_ask : e.host ≡ replica_host start key at → is_part_on tx key e.step.taken.body ≡ true
          → came + 1 ≤ asked_by (is_from tx key at) e.step.taken.body
      rows_ask here part = by e.step.taken.body refl (coming_are_routed start es e come).block part
        where
          not_tc : (v : TxId) → e.step.taken.to ≡ coordinator_of v → ⊥
          not_tc v to = let both : block.Lqh ≡ block.Tc = sym step.at ∙ ap (λ (p : Place). p.block) to in cc

          none : (a b : Bool) → b ≡ false → one_if (a && b) ≡ 0
          none true b off = ap one_if off
          none false b off = refl

          by : (body : Body) → e.step.taken.body ≡ body → IsForBlock e.step.taken.to e.step.taken.body
              → is_part_on tx key body ≡ true
              → one_if (is_further tx key at body) + 1 ≤ asked_by (is_from tx key at) body
          by (Chain (LqhKeyReq v work chain place)) is to its =
              let both = and_parts (same_tx v tx) (same_key (work_key work) key) its in
              let comes = request_comes work chain place
              (is ∙ ap (λ u. Chain (LqhKeyReq u work chain place)) (same_tx-is v tx both.0))
              (keys.same (work_key work) key both.1) in
              let same : place ≡ at =
              hosts_are_apart start key place at come.before.shape comes.here.inside inside
              (sym comes.here.host_is ∙ here) in
              let le : at ≤ place = omega (arith, same) in
              let on : nat_le at place ≡ true = grind (arith, nat_tests, le) in
              let few : place ≤ at = omega (arith, same) in
              let off : nat_lt at place ≡ false = grind (arith, nat_tests, few) in
              omega (
                arith,
                ap one_if (true_and (same_tx v tx && same_key (work_key work) key) (nat_le at place) its on),
                none (same_tx v tx && same_key (work_key work) key) (nat_lt at place) off,
              )
          by (Chain (LqhKeyConf v own answer)) is to its = absurd (not_tc v (subst (IsForBlock e.step.taken.to) is to))
          by (Chain (LqhKeyRef v own cause)) is to its = absurd (not_tc v (subst (IsForBlock e.step.taken.to) is to))
          by _ is to its = absurd (false≢true its)

      pub rows_goes : Holds (e ∷ es) later
      rows_goes given stands =
          subst Now (sym (live_leaves start es e come tx (ap (λ (c : TcState). of_live tx c.live) step.tc)))
          (event_cases (machine start) e es hp (λ log. is_away start key tx hp log ≡ false → Now o)
          (λ here now. which here (came_back tx key start hp (logs_of start es hp) e now))
          (λ off now. stood_before now) stands)
        where
          hp : ℕ
          hp = replica_host start key at

          o : Option Transaction
          o = live_at start (logs_of start es) tx

          on : IsEnding (logs_of start es) before o → Now o
          on (inl some) =
              inl (omega (
                arith,
                some,
                rows_abort stands (list_at start tx o),
                out (list_at start tx o),
                into (list_at start tx o),
              ))
          on (inr some) = inr (omega (arith, some, rows_keep, rows_further))

          stood_before : Stands (logs_of start es) → Now o
          stood_before before_is = on (was (sym rows_same ∙ given) before_is)

          which : e.host ≡ hp → (is_away start key tx hp (logs_of start es hp) ≡ false)
              ⊎ (is_part_on tx key e.step.taken.body ≡ true) → Now o
          which here (inl before_is) = stood_before before_is
          which here (inr part) = inr (omega (arith, rows_keep, rows_ask here part))
