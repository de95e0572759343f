-- Along every run what is under way of operations is of those that coordinators have unanswered.
use Rattle.std.proofs.Common.{◌≡◌, ◌≢◌, ◌≤◌, ◌+◌, ℕ, zero, suc, Bool, true, false, List, [], ◌∷◌, refl, sym, ap, ◌∙◌}
use Rattle.std.proofs.Common.{subst}
use Rattle.std.proofs.Common.{arith}
use Rattle.std.proofs.lemmas.Bool.{false≢true}
use Rattle.std.specs.Prelude.{◌&&◌, if◌then◌else◌, Option, None, Some}
use Rattle.run_theory.proofs.Runs.{log_of-other, log_of-own}
use Rattle.run_theory.specs.Counts.{one_if, tally, total}
use Rattle.sig_core.proofs.Keys.{same_tx-self}
use Rattle.sig_core.specs.declared.member.TxId.{TxId}
use Rattle.sig_core.specs.declared.outs.Outgoing.{Outgoing}
use Rattle.sig_core.specs.declared.signal.Body.{Body}
use Rattle.sig_core.specs.declared.signal.Body.TheVariants.{Chain, Client, Epoch, Host}
use Rattle.sig_core.specs.declared.signal.chain.ChainSignal.TheVariants.{LqhKeyConf, LqhKeyRef, LqhKeyReq}
use Rattle.sig_core.specs.declared.signal.host.HostSignal.TheVariants.{Round}
use Rattle.sig_core.specs.Op.{key_of}
use Rattle.sig_core.specs.Same.{same_key, same_tx}
use Rattle.sig_core.specs.Step.{Effects, Step}
use Rattle.sig_core.specs.Work.{work_key}
use Rattle.frag_map.specs.Layout.{Layout, first_layout}
use Rattle.lqh_block.specs.State.{LqhState}
use Rattle.lqh_block.specs.Work.{is_for}
use Rattle.tc_block.proofs.LiveKeeps.{SendsBeside}
use Rattle.tc_block.proofs.TurnRows.{turn_for}
use Rattle.tc_block.specs.Abort.{asked_count}
use Rattle.tc_block.specs.declared.phase.Asked.{Asked}
use Rattle.tc_block.specs.declared.phase.Phase.{Phase}
use Rattle.tc_block.specs.declared.phase.Phase.TheVariants.{Open, Verifying, Committing, Completing, Aborting}
use Rattle.tc_block.specs.declared.transaction.Transaction.{Transaction}
use Rattle.tc_block.specs.Phases.{is_aborting}
use Rattle.tc_block.specs.State.{TcState}
use Rattle.tc_block.specs.Tc.{tc_row}
use Rattle.tc_block.specs.Turn.{Turn}
use Rattle.node_core.proofs.HostCases.{BlockCase, IsTcStep, api_takes, block_case, dih_takes, none_takes, rows_take}
use Rattle.node_core.proofs.HostCases.{tc_takes}
use Rattle.node_core.specs.Blocks.{api_of, dih_of, lqh_of, tc_of}
use Rattle.node_core.specs.declared.host.Host as host
use Rattle.node_core.specs.Requests.{is_request}
use Rattle.node_core.specs.Row.{row}
use Rattle.world_core.specs.Hosts.{home, first_hosts}
use Rattle.world_core.specs.Machine.{after, machine, signals_of, step_after}
use Rattle.world_core.specs.Start.{Start}
use Rattle.world_core.specs.Steps.{Addressed, HostStep}
use Rattle.host_laws.proofs.api.Moves.{is_api_kind}
use Rattle.host_laws.proofs.hosts.BlocksAlong.{first_waiting, tc_layout}
use Rattle.host_laws.proofs.hosts.DihSends.{dih_kinds}
use Rattle.host_laws.proofs.coordinator.OfLive.{each_found}
use Rattle.host_laws.proofs.hosts.SendKinds.{each_of, is_dih_kind}
use Rattle.host_laws.proofs.hosts.Sums.{total_one}
use Rattle.host_laws.proofs.coordinator.Lives.{IsOwn, apart}
use Rattle.host_laws.proofs.coordinator.Steps.{left_of_turn}
use Rattle.host_laws.proofs.coordinator.TurnKinds.{OwnKinds, TurnOnly, own_kinds}
use Rattle.host_laws.specs.Live.{of_live}
use Rattle.host_laws.specs.Ways.{back_by, sent_ways}
use Rattle.run_laws.specs.Live.{live_at, of_host}
use Rattle.run_laws.specs.Transit.{AreInTransit, Comes, Takes, joined, logs_of}
use Rattle.run_laws.proofs.routes.Addressed.{comes_below}
use Rattle.run_laws.proofs.hosts.HomeSteps.{IsHome, all_home, here_now, here_was, own_home, unborn_absent, live_leaves}
use Rattle.run_laws.proofs.hosts.LiveOf.{of_each}
use Rattle.run_laws.proofs.routes.Chain.{replicas_some}
use Rattle.run_laws.proofs.hosts.TcSound.{log_sound}
use Rattle.run_laws.proofs.tokens.Coordinator.{IsOwned}
use Rattle.run_laws.proofs.transit.Transit.{along_transit}
use Rattle.run_laws.proofs.hosts.TxTurns as turn
use Rattle.run_laws.proofs.hosts.TxTurns.{OthersSend, TcTurn, is_for as is_for_tx, tc_turn, turn_each}
use Rattle.run_laws.proofs.ways.Passed.{api_each}
use Rattle.run_laws.proofs.transit.Weighing.{in_transit, joins_weigh, takes_weigh, weigh}
use Rattle.order_laws.specs.Awaited.{IsAwaited, list_length, owed_in}
use Rattle.order_laws.specs.Unanswered.{PartsAreUnanswered, asks_on, is_on_key, is_part_on, parts_on, waiting_on}
use Rattle.order_laws.proofs.Awaited as awaited
use Rattle.order_laws.proofs.Awaited.{all_is_awaited}
use Rattle.order_laws.proofs.UnansweredTurns.{AreApart, Parts, aborted, answered, apart_out, asks, free, lqh_parts}
use Rattle.order_laws.proofs.UnansweredTurns.{parts_out, same, turn_parts}

-- an operation of this transaction, or no part of one
abbrev is_own : TxId → Body → Bool
is_own one (Chain (LqhKeyReq tx work chain at)) = same_tx tx one
is_own one (Chain (LqhKeyConf tx own answer)) = false
is_own one (Chain (LqhKeyRef tx own cause)) = false
is_own one _ = true

own_apart : (one tx : TxId) (key : List ℕ) → same_tx one tx ≡ false → (body : Body) → is_own one body ≡ true
    → is_part_on tx key body ≡ false
own_apart one tx key differs (Chain (LqhKeyReq v work chain at)) e =
    ap (λ b. b && same_key (work_key work) key) (apart tx one v differs e)
own_apart one tx key differs (Chain (LqhKeyConf v own answer)) e = absurd (false≢true e)
own_apart one tx key differs (Chain (LqhKeyRef v own cause)) e = absurd (false≢true e)
own_apart one tx key differs _ e = refl

own : (tx : TxId) (body : Body) → OwnKinds tx (is_own tx) body
own tx body = record {
  chains = record {
    commits = λ key epoch chain at. refl;
    completes = λ key chain at. refl;
    aborts = λ key. refl;
    goes_on = λ at. refl;
  };
  operates = λ op chain. same_tx-self tx;
  answers = λ key answer is. refl;
  waits = λ key. refl;
  verifies = λ ops. refl;
  verified = refl;
  committed = λ epoch. refl;
  rolled_back = λ why. refl;
}

pub others_apart : (tx : TxId) (key : List ℕ) (s : TcState) (body : Body)
    → OthersSend (λ (o : Outgoing). is_part_on tx key o.body ≡ false) tx s body
others_apart tx key s body one off its t =
    each_of (is_own one) (λ o. is_part_on tx key o.body ≡ false) (λ o e. own_apart one tx key off o.body e)
    (turn_for s.node s.layout one body t).step.effects.sends
    (turn_each s.node s.layout one body t (TurnOnly (is_own one))
    (own_kinds (is_own one) one body (own one body) s.node s.layout t) its)

pub beside_apart : (tx : TxId) (key : List ℕ) (s : TcState)
    → SendsBeside (λ (o : Outgoing). is_part_on tx key o.body ≡ false) s
beside_apart tx key s =
    record { full = λ name. (refl, tt); begins = λ name. (refl, tt); passes = λ one ahead. (refl, tt) }

pub api_apart : (tx : TxId) (key : List ℕ) (body : Body) → is_api_kind body ≡ true → is_part_on tx key body ≡ false
api_apart tx key (Client c) is = refl
api_apart tx key (Host Round) is = refl
api_apart tx key _ is = absurd cc

pub dih_apart : (tx : TxId) (key : List ℕ) (body : Body) → is_dih_kind body ≡ true → is_part_on tx key body ≡ false
dih_apart tx key (Epoch x) is = refl
dih_apart tx key _ is = absurd cc

module _ (start : Start) (tx : TxId) (key : List ℕ) where
  abbrev parts_in : List Addressed → ℕ
  parts_in xs = tally (λ (x : Addressed). is_part_on tx key x.signal.body) xs

  abbrev Few : List HostStep → List Addressed → Type 0
  Few es xs = parts_on start (logs_of start es) xs tx key ≤ one_if (asks_on key (live_at start (logs_of start es) tx))

  pub tally_is : (xs : List Addressed) → parts_in xs ≡ in_transit (λ to body. one_if (is_part_on tx key body)) xs
  tally_is [] = refl
  tally_is (x ∷ xs) = ap (λ n. one_if (is_part_on tx key x.signal.body) + n) (tally_is xs)

  pub sends_is : (sends : List Outgoing)
      → parts_out tx key sends ≡ weigh (λ (o : Outgoing). one_if (is_part_on tx key o.body)) sends
  sends_is [] = refl
  sends_is (o ∷ sends) = ap (λ n. one_if (is_part_on tx key o.body) + n) (sends_is sends)

  free_of : (body : Body) → is_request body ≡ true → one_if (is_part_on tx key body) ≡ 0
  free_of (Chain c) is = absurd (false≢true is)
  free_of _ is = refl

  module _ (es : List HostStep) (e : HostStep) (come : Comes start es e) (before between : List Addressed)
      (transit : AreInTransit start es before) (takes : Takes e before between) (was : Few es before) where
    abbrev g : host.Host
    g = after start e.host (logs_of start es e.host)

    abbrev next : Step host.Host
    next = row g e.step.taken

    abbrev sends : List Outgoing
    sends = (step_after start e.host (logs_of start es e.host) e).effects.sends

    abbrev later : List Addressed
    later = joined (signals_of start e.host (logs_of start es e.host) e) between

    abbrev came : ℕ
    came = one_if (is_part_on tx key e.step.taken.body)

    -- what is under way behind the step
    balance : parts_on start (logs_of start (e ∷ es)) later tx key + came + waiting_on tx key g
        ≡ parts_on start (logs_of start es) before tx key + parts_out tx key sends + waiting_on tx key next.state
    balance =
        omega (
          arith,
          tally_is before,
          tally_is between,
          tally_is later,
          sends_is sends,
          takes_weigh (λ to body. one_if (is_part_on tx key body)) e before between (free_of e.step.taken.body) takes,
          joins_weigh (λ to body. one_if (is_part_on tx key body)) start e.host (logs_of start es e.host) e between,
          total_one (first_hosts start) (λ k. waiting_on tx key (after start k (logs_of start es k)))
              (λ k. waiting_on tx key (after start k (logs_of start (e ∷ es) k))) e.host (comes_below start es e come)
              (λ k off. ap (λ log. waiting_on tx key (after start k log))
              (log_of-other (machine start) e es k (λ same. off (sym same)))),
          ap (λ log. waiting_on tx key (after start e.host log)) (log_of-own (machine start) e es e.host refl),
        )

    abbrev Now : ℕ
    Now = parts_on start (logs_of start (e ∷ es)) later tx key

    abbrev Goal : Option Transaction → Type 0
    Goal o = Now ≤ one_if (asks_on key o)

    -- where the transaction stays as it is, and no more is sent and waits than came and waited
    stays : of_host tx next.state ≡ of_host tx g
        → parts_out tx key sends + waiting_on tx key next.state ≤ waiting_on tx key g + came
        → Goal (live_at start (logs_of start (e ∷ es)) tx)
    stays alike less =
        omega (arith, was, balance, less, ap (λ o. one_if (asks_on key o)) (live_leaves start es e come tx alike))

    waits_as : lqh_of next.state ≡ lqh_of g → waiting_on tx key next.state ≡ waiting_on tx key g
    waits_as rows = ap (λ (l : LqhState). tally (is_for tx key) l.waiting) rows

    silent : of_host tx next.state ≡ of_host tx g → lqh_of next.state ≡ lqh_of g → AreApart tx key sends
        → Goal (live_at start (logs_of start (e ∷ es)) tx)
    silent alike rows none = stays alike (omega (arith, waits_as rows, apart_out tx key sends none))

    facts : IsHome tx (tc_of g)
    facts = all_home start tx e.host (logs_of start es e.host)

    -- a turn of the transaction
    turned : (node : ℕ) (t : Transaction) (turn : Turn) → live_at start (logs_of start es) tx ≡ Some t
        → lqh_of next.state ≡ lqh_of g → sends ≡ turn.step.effects.sends
        → Parts tx key node (first_layout start.shape) t e.step.taken.body turn → Goal (left_of_turn turn)
    turned node t turn there rows sent (same over alike none) =
        subst (λ b. Goal (if b then None else Some turn.step.state)) (sym over)
        (omega (
          arith,
          was,
          balance,
          waits_as rows,
          none,
          ap (parts_out tx key) sent,
          ap (λ o. one_if (asks_on key o)) there,
          ap (λ o. one_if (is_on_key key o)) alike,
        ))
    turned node t turn there rows sent (asks over nothing less unaborted unbacked) =
        subst (λ b. Goal (if b then None else Some turn.step.state)) (sym over)
        (omega (
          arith,
          was,
          balance,
          waits_as rows,
          less,
          ap (parts_out tx key) sent,
          ap (λ o. one_if (asks_on key o)) there,
          ap (λ o. one_if (is_on_key key o)) nothing,
        ))
    turned node t turn there rows sent (answered less none) =
        omega (
          arith,
          was,
          balance,
          waits_as rows,
          less,
          none,
          ap (parts_out tx key) sent,
          ap (λ o. one_if (asks_on key o)) there,
        )
    turned node t turn there rows sent (free nothing none) =
        omega (
          arith,
          was,
          balance,
          waits_as rows,
          none,
          ap (parts_out tx key) sent,
          ap (λ o. one_if (asks_on key o)) there,
          ap (λ o. one_if (is_on_key key o)) nothing,
        )
    turned node t turn there rows sent (aborted on last none) =
        omega (
          arith,
          was,
          balance,
          waits_as rows,
          none,
          ap (parts_out tx key) sent,
          ap (λ o. one_if (asks_on key o)) there,
          ap (λ o. one_if (is_on_key key o)) (uncounted t.asked owed),
        )
      where
        layout : Layout
        layout = first_layout start.shape

        bound : IsAwaited layout tx before (Some t)
        bound = subst (IsAwaited layout tx before) there (all_is_awaited start es before tx come.before transit)

        counted : (phase : Phase) → is_aborting phase ≡ true → owed_in layout phase t.asked ≡ asked_count layout t.asked
        counted (Aborting why verifying awaited) is = refl
        counted Open is = absurd (false≢true is)
        counted Verifying is = absurd (false≢true is)
        counted (Committing epoch awaited) is = absurd (false≢true is)
        counted (Completing epoch awaited) is = absurd (false≢true is)

        owed : asked_count layout t.asked ≡ 0
        owed =
            omega (
              arith,
              bound,
              last,
              counted t.phase on,
              awaited.out tx start es e come before between takes (list_length layout t.phase t.touched),
            )

        uncounted : (asked : Option Asked) → asked_count layout asked ≡ 0 → asked ≡ None
        uncounted None nothing = refl
        uncounted (Some asked) nothing =
            absurd (omega (arith, nothing, replicas_some start come.before.shape (key_of asked.op)))

    few_next : Goal (live_at start (logs_of start (e ∷ es)) tx)
    few_next = by (block_case g e.step.taken)
      where
        live_of : {a b : TcState} → a ≡ b → of_live tx a.live ≡ of_live tx b.live
        live_of alike = ap (λ (c : TcState). of_live tx c.live) alike

        apart_by : (f : Effects) → next.effects ≡ f → AreApart tx key f.sends → AreApart tx key sends
        apart_by f is none = subst (λ (f : Effects). AreApart tx key f.sends) (sym is) none

        takes_turn : IsTcStep g e.step.taken next → Goal (live_at start (logs_of start (e ∷ es)) tx)
        takes_turn step =
            which
            (tc_turn (λ (o : Outgoing). is_part_on tx key o.body ≡ false) tx (tc_of g) (beside_apart tx key (tc_of g))
            facts.own facts.once e.step.taken.body (others_apart tx key (tc_of g) e.step.taken.body))
          where
            live_is : of_host tx next.state ≡ of_live tx (tc_row (tc_of g) e.step.taken).state.live
            live_is = live_of step.state

            which : TcTurn (λ (o : Outgoing). is_part_on tx key o.body ≡ false) tx (tc_of g) e.step.taken.body
                (tc_row (tc_of g) e.step.taken) → Goal (live_at start (logs_of start (e ∷ es)) tx)
            which (turn.idle alike none deaf) =
                silent (live_is ∙ alike) step.rows (apart_by _ step.effects none)
            which (turn.begins is left none other) =
                omega (
                  arith,
                  was,
                  balance,
                  waits_as step.rows,
                  apart_out tx key sends (apart_by _ step.effects none),
                  ap (λ o. one_if (asks_on key o)) unborn,
                )
              where
                here : e.host ≡ home start tx
                here = own_home start es e come tx step.runs (sym (ap (λ (v : TxId). v.tc) is))

                unborn : live_at start (logs_of start es) tx ≡ None
                unborn =
                    ap (of_host tx) (here_was start es e come tx here)
                    ∙ unborn_absent start tx e.host (logs_of start es e.host)
                    (omega (arith, ap (λ (v : TxId). v.seq) is))
            which (turn.turns t there own_body sent left) =
                subst Goal
                (sym (ap (of_host tx) (here_now start es e come tx here) ∙ live_is ∙ left
                ∙ ap (λ l. left_of_turn (turn_for (tc_of g).node l tx e.step.taken.body t)) same_layout))
                (turned (tc_of g).node t
                (turn_for (tc_of g).node (first_layout start.shape) tx e.step.taken.body t)
                (ap (of_host tx) (here_was start es e come tx here) ∙ there) step.rows
                (ap (λ (f : Effects). f.sends) step.effects ∙ sent
                ∙ ap (λ l. (turn_for (tc_of g).node l tx e.step.taken.body t).step.effects.sends) same_layout)
                (turn_parts tx key (tc_of g).node (first_layout start.shape)
                (λ own. replicas_some start come.before.shape own) t e.step.taken.body owned.right own_body))
              where
                here : e.host ≡ home start tx
                here =
                    own_home start es e come tx step.runs
                    (of_each (λ one u. IsOwn (tc_of g).node (tc_of g).next_seq one) tx (tc_of g).live t facts.own
                    there).home

                same_layout : (tc_of g).layout ≡ first_layout start.shape
                same_layout = tc_layout start e.host (logs_of start es e.host) step.runs

                owned : IsOwned (tc_of g).node (tc_of g).next_seq
                    (sent_ways start back_by e.host (logs_of start es e.host)) (tx, t)
                owned =
                    each_found
                    (IsOwned (tc_of g).node (tc_of g).next_seq
                    (sent_ways start back_by e.host (logs_of start es e.host)))
                    (tc_of g).live tx t (log_sound start e.host (logs_of start es e.host)).tc.live there

        by : BlockCase g e.step.taken next → Goal (live_at start (logs_of start (e ∷ es)) tx)
        by (api_takes step) =
            silent (live_of step.tc) step.rows
            (apart_by _ step.effects
            (api_each (λ (o : Outgoing). is_part_on tx key o.body ≡ false) (λ o is. api_apart tx key o.body is)
            (λ name node. refl) (api_of g) e.step.taken.body))
        by (tc_takes step) = takes_turn step
        by (dih_takes step) =
            silent (live_of step.tc) step.rows
            (apart_by _ step.effects
            (each_of is_dih_kind (λ (o : Outgoing). is_part_on tx key o.body ≡ false)
            (λ o is. dih_apart tx key o.body is) _ (dih_kinds (dih_of g) e.step.taken.body)))
        by (rows_take step) =
            stays (live_of step.tc)
            (omega (
              arith,
              lqh_parts tx key (lqh_of g) e.step.taken.body (log_sound start e.host (logs_of start es e.host)).asks,
              waits_as_row step.state,
              ap (λ (f : Effects). parts_out tx key f.sends) step.effects,
            ))
          where
            waits_as_row : {l : LqhState} → lqh_of next.state ≡ l
                → waiting_on tx key next.state ≡ tally (is_for tx key) l.waiting
            waits_as_row is = ap (λ (l : LqhState). tally (is_for tx key) l.waiting) is
        by (none_takes step) =
            silent (live_of (ap (λ (u : Step host.Host). tc_of u.state) step.is))
            (ap (λ (u : Step host.Host). lqh_of u.state) step.is)
            (apart_by _ (ap (λ (u : Step host.Host). u.effects) step.is) tt)

  first_few : Few [] []
  first_few = omega (arith, none (first_hosts start))
    where
      none : (n : ℕ) → total n (λ h. waiting_on tx key (after start h [])) ≡ 0
      none zero = refl
      none (suc n) = omega (arith, ap (tally (is_for tx key)) (first_waiting start n), none n)

pub parts_are_unanswered : PartsAreUnanswered
parts_are_unanswered start es xs tx key =
    along_transit start (Few start tx key) (first_few start tx key)
    (λ es e before between come transit was takes. few_next start tx key es e come before between transit takes was)
    es xs
