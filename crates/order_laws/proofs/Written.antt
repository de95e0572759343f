-- A transaction whose commit was asked for has written each key whose lock it holds at a backup.
use Rattle.std.proofs.Common.{◌≡◌, ◌≢◌, ◌⊎◌, ◌<◌, ◌+◌, ℕ, Bool, true, false, ◌||◌, List, [], ◌∷◌, length, refl, sym, ap}
use Rattle.std.proofs.Common.{◌∙◌, cond, subst, arith, inl, inr}
use Rattle.std.proofs.lemmas.Bool.{and_parts, false≢true, or_cases, or_left, or_right, true≢false}
use Rattle.std.specs.List.{list_any}
use Rattle.std.specs.Prelude.{◌&&◌, if◌then◌else◌, is_some, Option, None, Some}
use Rattle.run_theory.proofs.EventCases.{event_cases}
use Rattle.run_theory.proofs.Pasts.{each_map}
use Rattle.run_theory.proofs.Runs.{log_of-past}
use Rattle.run_theory.specs.Counts.{one_if}
use Rattle.run_theory.specs.Lists.{Each}
use Rattle.sig_core.proofs.Keys.{same_tx-self}
use Rattle.sig_core.proofs.TxLemmas.{same_tx-is}
use Rattle.sig_core.specs.declared.member.TxId.{TxId}
use Rattle.sig_core.specs.declared.op.Answer.{Answer}
use Rattle.sig_core.specs.declared.op.Op.{Op}
use Rattle.sig_core.specs.declared.outcome.AbortCause.{AbortCause}
use Rattle.sig_core.specs.declared.outs.Outgoing.{Outgoing}
use Rattle.sig_core.specs.declared.place.Place.{Place}
use Rattle.sig_core.specs.declared.rows.PendingRecord.{PendingRecord}
use Rattle.sig_core.specs.declared.signal.Body.{Body}
use Rattle.sig_core.specs.declared.signal.Body.TheVariants.{Chain}
use Rattle.sig_core.specs.declared.signal.chain.ChainSignal.TheVariants.{LqhKeyReq}
use Rattle.sig_core.specs.Op.{key_of}
use Rattle.sig_core.specs.Same.{same_key, same_tx}
use Rattle.sig_core.specs.Work.{work_key}
use Rattle.frag_map.specs.Layout.{Layout}
use Rattle.tc_block.specs.Abort.{is_verifying}
use Rattle.tc_block.specs.declared.phase.Phase.{Phase}
use Rattle.tc_block.specs.declared.phase.Phase.TheVariants.{Open, Verifying, Committing, Completing, Aborting}
use Rattle.tc_block.specs.declared.touched.Touched.{Touched}
use Rattle.tc_block.specs.declared.transaction.Transaction.{Transaction}
use Rattle.tc_block.specs.Operate.{fresh, is_ready}
use Rattle.tc_block.specs.Phases.{is_aborting, is_decided}
use Rattle.tc_block.specs.Sends.{entering}
use Rattle.tc_block.specs.State.{TcState}
use Rattle.tc_block.specs.Tc.{tc_row}
use Rattle.tc_block.specs.Touched.{fits, is_on}
use Rattle.tc_block.specs.Turn.{Turn, asking}
use Rattle.tc_block.proofs.EachTurn.{AbortForms, TurnForms, may_ask, ready_is, rows_of}
use Rattle.tc_block.proofs.TurnRows.{turn_for}
use Rattle.row_records.proofs.KeyLemmas as keys
use Rattle.node_core.proofs.HostCases.{IsTcStep, tc_step}
use Rattle.node_core.specs.Blocks.{tc_of}
use Rattle.node_core.specs.declared.host.Host.{Host}
use Rattle.node_core.specs.Row.{row}
use Rattle.world_core.specs.History.{is_done}
use Rattle.world_core.specs.Hosts.{home}
use Rattle.world_core.specs.Machine.{after, machine, step_after}
use Rattle.world_core.specs.Start.{Start}
use Rattle.world_core.specs.Steps.{Addressed, HostStep}
use Rattle.key_laws.specs.OneKey.{ops_on}
use Rattle.key_laws.specs.Records.{found}
use Rattle.host_laws.proofs.coordinator.OfLive.{each_found}
use Rattle.host_laws.proofs.coordinator.Steps.{left_of_turn}
use Rattle.host_laws.specs.Live.{of_live}
use Rattle.host_laws.specs.Ways.{back_by, sent_ways}
use Rattle.run_laws.specs.Circle.{Agree, IsSettledFor, at_host, at_primary}
use Rattle.run_laws.specs.GivenUp.{is_given_up}
use Rattle.run_laws.specs.Keyed.{HasTouched, IsTouchedRightly, IsWrittenRightly}
use Rattle.run_laws.specs.Live.{live_at, of_host}
use Rattle.run_laws.specs.Routes.{replica_host, replicas}
use Rattle.run_laws.specs.Tokens.{budget_by, is_token, tokens_in}
use Rattle.run_laws.specs.Transit.{AreInTransit, Comes, IsRun, Passes, logs_of}
use Rattle.run_laws.proofs.hosts.HomeSteps.{IsHome, all_home, away, here_now, here_was, live_leaves}
use Rattle.run_laws.proofs.hosts.Keyed.{transactions_are_keyed}
use Rattle.run_laws.proofs.tokens.OneAtATime.{one_at_a_time}
use Rattle.run_laws.proofs.hosts.TcOwn.{beside_silent, others_silent}
use Rattle.run_laws.proofs.hosts.TcSound.{log_sound}
use Rattle.run_laws.proofs.tokens.Coordinator.{IsOwned}
use Rattle.run_laws.proofs.tokens.Turns.{idle}
use Rattle.run_laws.proofs.transit.Transit.{comes, earlier}
use Rattle.run_laws.proofs.transit.Runs.{runs_have_transit}
use Rattle.run_laws.proofs.fades.Signals.{is_sign}
use Rattle.run_laws.proofs.hosts.TxTurns as turn
use Rattle.run_laws.proofs.hosts.TxTurns.{TcTurn, is_for, tc_turn, turn_each}
use Rattle.run_laws.proofs.circle.VerifiedSettled.{verified_settled}
use Rattle.run_laws.proofs.ways.Ways.{given_more}
use Rattle.run_laws.proofs.transit.Weighing.{in_transit, joins_weigh, none_passes, none_weighs, weigh_none}
use Rattle.run_laws.proofs.tokens.TouchedLists.{any_done}
use Rattle.order_laws.specs.LetGo.{has_let_go}
use Rattle.order_laws.specs.Records.{HasWritten, WhoCommitsHasWritten, has_record}
use Rattle.order_laws.proofs.Askers.{asker}
use Rattle.order_laws.proofs.Behind.{is_among}
use Rattle.order_laws.proofs.Ending.{ending}
use Rattle.order_laws.proofs.Over.{who_lets_go_is_over}
use Rattle.order_laws.proofs.Passed.{passed, passed_all, passed_step}
use Rattle.order_laws.proofs.Records.{holders_passed, passed_known}

-- where one replica has a record the other one has it
agree_some : (a b : Option PendingRecord) → Agree a b → is_some b ≡ true → is_some a ≡ true
agree_some (Some a) b agree is = refl
agree_some None None agree is = is
agree_some None (Some b) agree is = absurd agree

verifying_is : (phase : Phase) → is_verifying phase ≡ true → phase ≡ Verifying
verifying_is Verifying is = refl
verifying_is Open is = absurd (false≢true is)
verifying_is (Committing epoch awaited) is = absurd (false≢true is)
verifying_is (Completing epoch awaited) is = absurd (false≢true is)
verifying_is (Aborting why verifying awaited) is = absurd (false≢true is)

decided_not_asking : (phase : Phase) → is_decided phase ≡ true → may_ask phase ≡ false
decided_not_asking Open is = absurd (false≢true is)
decided_not_asking Verifying is = refl
decided_not_asking (Committing epoch awaited) is = refl
decided_not_asking (Completing epoch awaited) is = refl
decided_not_asking (Aborting why verifying awaited) is = absurd (false≢true is)

-- what asks for something on the key is a part of an operation
asker_token : (key : List ℕ) (tx : TxId) (body : Body) → asker key body ≡ Some tx → is_token tx body ≡ true
asker_token key tx (Chain (LqhKeyReq v work chain at)) is = by (same_key (work_key work) key) is
  where
    by : (b : Bool) → (if b then Some v else None) ≡ Some tx → same_tx v tx ≡ true
    by true is = let same : v ≡ tx = cc in ap (λ u. same_tx u tx) same ∙ same_tx-self tx
    by false is = absurd cc
asker_token key tx _ is = absurd cc

-- A turn decides a transaction that waits for its epoch, or that was decided, and leaves its answers.
record IsFrom (u t : Transaction) : Type 0 where
  ops : t.ops ≡ u.ops
  was : (is_verifying u.phase || is_decided u.phase) ≡ true

abbrev Decides : Transaction → Turn → Type 0
Decides u turn = turn.over ≡ false → is_decided turn.step.state.phase ≡ true → IsFrom u turn.step.state

still : (u : Transaction) → is_decided u.phase ≡ true → IsFrom u u
still u is = record { ops = refl; was = or_right (is_verifying u.phase) (is_decided u.phase) is }

unless : {A : Type 0} (u : Transaction) (phase : Phase) → u.phase ≡ phase → is_decided phase ≡ false
    → is_decided u.phase ≡ true → A
unless u phase at off is = absurd (false≢true (sym off ∙ (sym (ap is_decided at) ∙ is)))

module _ (node : ℕ) (layout : Layout) (tx : TxId) (u : Transaction) where
  aborts_decide : (v : Transaction) (why : AbortCause) → AbortForms node layout tx v why (Decides u)
  unfolding entering
  aborts_decide v why = record {
    enters = λ some over is. absurd (false≢true is);
    ends = λ none over is. absurd (true≢false over);
  }

  decides_forms : (body : Body) → TurnForms node layout tx u body (Decides u)
  unfolding entering
  decides_forms body = record {
    stays = λ over is. still u is;
    goes_on = λ at over is. still u is;
    operates = λ op same can over is.
        unless u Open (ready_is u.phase u.asked (and_parts (is_ready u.phase u.asked) (fits u.touched (key_of op))
        can).0).0 refl is;
    answers = λ key answer asked same on at over is. unless u Open at refl is;
    late = λ key asked why verifying awaited on at over is. unless u (Aborting why verifying awaited) at refl is;
    waits = λ asked on over is. still u is;
    decides = λ same ready over is. absurd (false≢true is);
    commits = λ epoch same at some over is.
        record { ops = refl; was = or_left (is_verifying u.phase) (is_decided u.phase) (ap is_verifying at) };
    commits_none = λ epoch same at. record {
      enters = λ some over is.
          record { ops = refl; was = or_left (is_verifying u.phase) (is_decided u.phase) (ap is_verifying at) };
      ends = λ none over is. absurd (true≢false over);
    };
    committed = λ epoch awaited at more over is.
        record { ops = refl; was = or_right (is_verifying u.phase) (is_decided u.phase) (ap is_decided at) };
    committed_all = λ epoch awaited at. record {
      enters = λ some over is.
          record { ops = refl; was = or_right (is_verifying u.phase) (is_decided u.phase) (ap is_decided at) };
      ends = λ none over is. absurd (true≢false over);
    };
    completed = λ epoch awaited at more over is.
        record { ops = refl; was = or_right (is_verifying u.phase) (is_decided u.phase) (ap is_decided at) };
    completed_all = λ epoch awaited at last over is. absurd (true≢false over);
    rolls_back = λ same undecided unaborted. aborts_decide u _;
    refuses = λ key why asked same on at. aborts_decide (asking u None) why;
    aborted = λ why verifying awaited at more over is. absurd (false≢true is);
    aborted_all = λ why verifying awaited at last over is. absurd (true≢false over);
  }

  turn_decides : (body : Body) → is_for tx body ≡ true → (t : Transaction)
      → left_of_turn (turn_for node layout tx body u) ≡ Some t → is_decided t.phase ≡ true → IsFrom u t
  turn_decides body own t left is =
      by own_turn.over refl left
    where
      own_turn : Turn
      own_turn = turn_for node layout tx body u

      decides : Decides u own_turn
      decides =
          turn_each node layout tx body u (Decides u) (rows_of node layout tx u body (Decides u) (decides_forms body))
          own

      by : (b : Bool) → own_turn.over ≡ b → (if b then None else Some own_turn.step.state) ≡ Some t → IsFrom u t
      by true over gone = absurd cc
      by false over left =
          let same : own_turn.step.state ≡ t = cc in
          subst (IsFrom u) same (decides over (ap (λ (v : Transaction). is_decided v.phase) same ∙ is))

off_token : (b : Bool) → one_if b ≡ 0 → b ≡ false
off_token true none = absurd (omega (arith, none))
off_token false none = refl

module _ (start : Start) (tx : TxId) where
  -- it was decided before the step too, or waited for its epoch then
  record WasBefore (es : List HostStep) (t : Transaction) : Type 0 where
    before : Transaction
    live : live_at start (logs_of start es) tx ≡ Some before
    from : IsFrom before t

  -- where no part of an operation of it is in transit the step sent none
  pub none_sent_where : (es : List HostStep) (e : HostStep) → Comes start es e
      → ((xs : List Addressed) → AreInTransit start (e ∷ es) xs → tokens_in tx xs ≡ 0)
      → Each (λ (o : Outgoing). is_token tx o.body ≡ false)
      (step_after start e.host (logs_of start es e.host) e).effects.sends
  none_sent_where es e come none_in =
      each_map (λ (o : Outgoing). one_if (is_token tx o.body) ≡ 0) (λ (o : Outgoing). is_token tx o.body ≡ false)
      sends (λ o none. off_token (is_token tx o.body) none)
      (none_weighs (λ (o : Outgoing). one_if (is_token tx o.body)) sends
      (omega (arith, light, ap (in_transit w) p.is, joins_weigh w start e.host (logs_of start es e.host) e p.between)))
    where
      sends : List Outgoing
      sends = (step_after start e.host (logs_of start es e.host) e).effects.sends

      w : Place → Body → ℕ
      w to body = one_if (is_token tx body)

      transit : (xs : List Addressed) × AreInTransit start (e ∷ es) xs
      transit = runs_have_transit start (e ∷ es) come.now

      xs : List Addressed
      xs = transit.0

      p : Passes start es e transit.1.0 xs
      p = transit.1.1.1

      light : in_transit w xs ≡ 0
      light =
          weigh_none (λ (x : Addressed). one_if (is_token tx x.signal.body)) xs
          (each_map (λ (x : Addressed). is_token tx x.signal.body ≡ false)
          (λ (x : Addressed). one_if (is_token tx x.signal.body) ≡ 0) xs (λ x off. ap one_if off)
          (none_passes (λ (x : Addressed). is_token tx x.signal.body) xs (none_in xs transit.1)))

  module _ (es : List HostStep) (e : HostStep) (come : Comes start es e) (t : Transaction)
      (now : live_at start (logs_of start (e ∷ es)) tx ≡ Some t) (decided : is_decided t.phase ≡ true) where
    abbrev g : Host
    g = after start e.host (logs_of start es e.host)

    same_was : live_at start (logs_of start (e ∷ es)) tx ≡ live_at start (logs_of start es) tx → WasBefore es t
    same_was same = record { before = t; live = sym same ∙ now; from = still t decided }

    by_turn : live_at start (logs_of start es) tx ≡ of_live tx (tc_of g).live
        → of_live tx (tc_row (tc_of g) e.step.taken).state.live ≡ Some t
        → TcTurn (λ (o : Outgoing). is_sign tx o.body ≡ false) tx (tc_of g) e.step.taken.body
        (tc_row (tc_of g) e.step.taken) → WasBefore es t
    by_turn was is (turn.idle same sent missed) =
        record { before = t; live = was ∙ (sym same ∙ is); from = still t decided }
    by_turn was is (turn.begins first begun sent off) =
        let same : fresh ≡ t = some_same (sym begun ∙ is) in
        absurd (false≢true (ap (λ (v : Transaction). is_decided v.phase) same ∙ decided))
      where
        some_same : Some fresh ≡ Some t → fresh ≡ t
        some_same both = cc
    by_turn was is (turn.turns u before own sent left) = record {
      before = u;
      live = was ∙ before;
      from = turn_decides (tc_of g).node (tc_of g).layout tx u e.step.taken.body own t (sym left ∙ is) decided;
    }

    was_before : WasBefore es t
    was_before =
        event_cases (machine start) e es (home start tx) (λ log. WasBefore es t)
        (λ own. which own (tc_step g e.step.taken))
        (λ differs. same_was (ap (of_host tx) (away start es e come tx differs)))
      where
        facts : IsHome tx (tc_of g)
        facts = all_home start tx e.host (logs_of start es e.host)

        which : e.host ≡ home start tx
            → IsTcStep g e.step.taken (row g e.step.taken) ⊎ (tc_of (row g e.step.taken).state ≡ tc_of g)
            → WasBefore es t
        which own (inl step) =
            by_turn (ap (of_host tx) (here_was start es e come tx own))
            (sym (ap (λ (c : TcState). of_live tx c.live) step.state)
            ∙ (sym (ap (of_host tx) (here_now start es e come tx own)) ∙ now))
            (tc_turn (λ (o : Outgoing). is_sign tx o.body ≡ false) tx (tc_of g) (beside_silent tx (tc_of g)) facts.own
            facts.once e.step.taken.body (others_silent tx (tc_of g) e.step.taken.body))
        which own (inr same) =
            same_was (live_leaves start es e come tx (ap (λ (c : TcState). of_live tx c.live) same))

    -- the step sends no part of an operation of it
    pub none_sent : Each (λ (o : Outgoing). is_token tx o.body ≡ false)
        (step_after start e.host (logs_of start es e.host) e).effects.sends
    none_sent = none_sent_where es e come none_in
      where
        at_home : ℕ
        at_home = home start tx

        s : TcState
        s = tc_of (after start at_home (logs_of start (e ∷ es) at_home))

        owned : IsOwned s.node s.next_seq (sent_ways start back_by at_home (logs_of start (e ∷ es) at_home)) (tx, t)
        owned =
            each_found
            (IsOwned s.node s.next_seq (sent_ways start back_by at_home (logs_of start (e ∷ es) at_home)))
            s.live tx t (log_sound start at_home (logs_of start (e ∷ es) at_home)).tc.live now

        none_in : (xs : List Addressed) → AreInTransit start (e ∷ es) xs → tokens_in tx xs ≡ 0
        none_in xs transit = omega (
          arith,
          one_at_a_time start (e ∷ es) xs tx come.now transit,
          ap (budget_by (is_given_up start (logs_of start (e ∷ es)) tx)) now,
          idle t.phase t.asked owned.right (decided_not_asking t.phase decided),
        )

  module _ (key : List ℕ) (at : ℕ) (inside : at + 1 < length (replicas start key)) where
    abbrev front : ℕ
    front = replica_host start key at

    abbrev passed_on : List HostStep → List TxId
    passed_on log = passed start key (replica_host start key (at + 1)) (replica_host start key at) log

    abbrev IsWritten : Transaction → Type 0
    IsWritten t = list_any (λ (op : Op × Answer). is_done op.1) (ops_on key t.ops) ≡ true

    -- so nobody passes anything of it on
    pub passed_before : (es : List HostStep) (e : HostStep)
        → Each (λ (o : Outgoing). is_token tx o.body ≡ false)
        (step_after start e.host (logs_of start es e.host) e).effects.sends
        → is_among tx (passed_on (logs_of start (e ∷ es) (replica_host start key at))) ≡ true
        → is_among tx (passed_on (logs_of start es (replica_host start key at))) ≡ true
    passed_before es e none =
        event_cases (machine start) e es front (λ l. is_among tx (passed_on l) ≡ true → Before) here (λ off is. is)
      where
        log : List HostStep
        log = logs_of start es (replica_host start key at)

        Before : Type 0
        Before = is_among tx (passed_on log) ≡ true

        sends : List Outgoing
        sends = (step_after start front log e).effects.sends

        here : e.host ≡ front → is_among tx (passed_on (e ∷ log)) ≡ true → Before
        here own is =
            passed_all start key (replica_host start key (at + 1)) (λ u. u ≡ tx → ⊥)
            (λ us. is_among tx us ≡ true → Before) more sends (λ u. others u) (passed_on log) (λ before. before)
            (subst (λ us. is_among tx us ≡ true)
            (passed_step start key (replica_host start key (at + 1)) front e log) is)
          where
            others : (u : TxId) → Each (λ (o : Outgoing). asker key o.body ≡ Some u → u ≡ tx → ⊥) sends
            others u =
                each_map (λ (o : Outgoing). is_token tx o.body ≡ false)
                (λ (o : Outgoing). asker key o.body ≡ Some u → u ≡ tx → ⊥) sends
                (λ o off asks same. true≢false
                (sym (asker_token key tx o.body (asks ∙ ap (λ v. Some v) same)) ∙ off))
                (subst (λ h. Each (λ (o : Outgoing). is_token tx o.body ≡ false)
                (step_after start h (logs_of start es h) e).effects.sends) own none)

            more : (u : TxId) (us : List TxId) → (u ≡ tx → ⊥) → (is_among tx us ≡ true → Before)
                → is_among tx (u ∷ us) ≡ true → Before
            more u us differs was is = which (or_cases (same_tx u tx) (is_among tx us) is)
              where
                which : (same_tx u tx ≡ true) ⊎ (is_among tx us ≡ true) → Before
                which (inl same) = absurd (differs (same_tx-is u tx same))
                which (inr rest) = was rest

    verified_written : (es : List HostStep) (t : Transaction) → IsRun start es
        → is_given_up start (logs_of start es) tx ≡ false → live_at start (logs_of start es) tx ≡ Some t
        → t.phase ≡ Verifying → is_among tx (passed_on (logs_of start es (replica_host start key at))) ≡ true
        → IsWritten t
    verified_written es t run kept live verifying is = by (passed_known start es key at tx run inside is)
      where
        settled : IsSettledFor start (logs_of start es) tx t.ops key
        settled =
            let transit = runs_have_transit start es run in
            (verified_settled start es transit.0 tx t run transit.1 kept live verifying).settled key

        undecided : (is_decided t.phase || is_aborting t.phase) ≡ false
        undecided = ap (λ p. is_decided p || is_aborting p) verifying

        by : (has_record start (logs_of start es) key (replica_host start key at) tx ≡ true)
            ⊎ (has_let_go start (logs_of start es) key (replica_host start key at) tx ≡ true) → IsWritten t
        by (inl there) =
            sym settled.written
            ∙ agree_some (found tx (at_primary start (logs_of start es) key).replica.cell.pending)
            (found tx (at_host start (logs_of start es) key (replica_host start key at)).cell.pending)
            (settled.agreed (replica_host start key at)
            (record { at = at; inside = omega (arith, inside); host_is = refl })) there
        by (inr gone) =
            absurd (true≢false (sym (ending start (logs_of start es) tx t live
            (who_lets_go_is_over start es key (replica_host start key at) tx run gone)) ∙ undecided))

    kept_before : (es : List HostStep) (e : HostStep) → is_given_up start (logs_of start (e ∷ es)) tx ≡ false
        → is_given_up start (logs_of start es) tx ≡ false
    kept_before es e kept = by (is_given_up start (logs_of start es) tx) refl
      where
        by : (b : Bool) → is_given_up start (logs_of start es) tx ≡ b → b ≡ false
        by false was = refl
        by true was =
            absurd (true≢false (sym (given_more start (logs_of start es) (logs_of start (e ∷ es)) tx
            (log_of-past (machine start) e es) was) ∙ kept))

    decided_written : (es : List HostStep) (t : Transaction) → IsRun start es
        → is_given_up start (logs_of start es) tx ≡ false → live_at start (logs_of start es) tx ≡ Some t
        → is_decided t.phase ≡ true
        → is_among tx (passed_on (logs_of start es (replica_host start key at))) ≡ true → IsWritten t
    decided_written [] t run kept live decided is = absurd cc
    decided_written (e ∷ es) t run kept live decided is =
        subst (λ ops. list_any (λ (op : Op × Answer). is_done op.1) (ops_on key ops) ≡ true) (sym was.from.ops)
        (by (decided_written es was.before before_run kept_then was.live)
        (or_cases (is_verifying was.before.phase) (is_decided was.before.phase) was.from.was))
      where
        come : Comes start es e
        come = comes start es e run

        before_run : IsRun start es
        before_run = earlier start es e run

        kept_then : is_given_up start (logs_of start es) tx ≡ false
        kept_then = kept_before es e kept

        was : WasBefore es t
        was = was_before es e come t live decided

        passed_then : is_among tx (passed_on (logs_of start es (replica_host start key at))) ≡ true
        passed_then = passed_before es e (none_sent es e come t live decided) is

        by : (is_decided was.before.phase ≡ true
            → is_among tx (passed_on (logs_of start es (replica_host start key at))) ≡ true → IsWritten was.before)
            → (is_verifying was.before.phase ≡ true) ⊎ (is_decided was.before.phase ≡ true) → IsWritten was.before
        by more (inl waits) =
            verified_written es was.before before_run kept_then was.live (verifying_is was.before.phase waits)
            passed_then
        by more (inr is_so) = more is_so passed_then

done_touched : (key : List ℕ) (touched : List Touched) (ops : List (Op × Answer))
    → Each (λ (op : Op × Answer). HasTouched touched (key_of op.0)) ops → any_done key ops ≡ true
    → HasTouched touched key
done_touched key touched [] all is = absurd (false≢true is)
done_touched key touched (o ∷ ops) all is =
    by (same_key (key_of o.0) key) refl is (done_touched key touched ops all.1)
  where
    by : (b : Bool) → same_key (key_of o.0) key ≡ b
        → list_any (λ (op : Op × Answer). is_done op.1) (cond b (o ∷ ops_on key ops) (ops_on key ops)) ≡ true
        → (any_done key ops ≡ true → HasTouched touched key) → HasTouched touched key
    by true e is more = subst (HasTouched touched) (keys.same (key_of o.0) key e) all.0
    by false e is more = more is

touched_written : (key : List ℕ) (ops : List (Op × Answer)) (touched : List Touched)
    → Each (IsWrittenRightly ops) touched → any_done key ops ≡ true → HasTouched touched key
    → list_any (λ (u : Touched). is_on key u && u.written) touched ≡ true
touched_written key ops [] all done is = absurd (false≢true is)
touched_written key ops (u ∷ rest) all done is =
    by (same_key u.key key) refl is (touched_written key ops rest all.1 done)
  where
    by : (b : Bool) → same_key u.key key ≡ b → (b || list_any (is_on key) rest) ≡ true
        → (HasTouched rest key → list_any (λ (u : Touched). is_on key u && u.written) rest ≡ true)
        → ((b && u.written) || list_any (λ (u : Touched). is_on key u && u.written) rest) ≡ true
    by true e here more =
        or_left u.written (list_any (λ (u : Touched). is_on key u && u.written) rest)
        (all.0 ∙ (ap (λ k. any_done k ops) (keys.same u.key key e) ∙ done))
    by false e here more = more here

-- one that was passed on, and whose commit was asked for, has written the key
pub passed_has_written : (start : Start) (es : List HostStep) (key : List ℕ) (at : ℕ) (tx : TxId) (t : Transaction)
    → IsRun start es → is_given_up start (logs_of start es) tx ≡ false → live_at start (logs_of start es) tx ≡ Some t
    → (is_verifying t.phase || is_decided t.phase) ≡ true → at + 1 < length (replicas start key)
    → is_among tx (passed start key (replica_host start key (at + 1)) (replica_host start key at)
    (logs_of start es (replica_host start key at))) ≡ true
    → HasWritten key t
passed_has_written start es key at tx t run kept live asked inside there =
    let answered : any_done key t.ops ≡ true = by (or_cases (is_verifying t.phase) (is_decided t.phase) asked) in
    record {
      answered = answered;
      touched = touched_written key t.ops t.touched keyed.written answered
          (done_touched key t.touched t.ops keyed.answered answered);
    }
  where
    keyed : IsTouchedRightly t
    keyed =
        each_found (λ (x : TxId × Transaction). IsTouchedRightly x.1)
        (tc_of (after start (home start tx) (logs_of start es (home start tx)))).live tx t
        (transactions_are_keyed start es (home start tx) run) live

    by : (is_verifying t.phase ≡ true) ⊎ (is_decided t.phase ≡ true)
        → any_done key t.ops ≡ true
    by (inl waits) =
        verified_written start tx key at inside es t run kept live (verifying_is t.phase waits) there
    by (inr decided) = decided_written start tx key at inside es t run kept live decided there

pub who_commits_has_written : WhoCommitsHasWritten
who_commits_has_written start es key at tx t run kept live asked is =
    passed_has_written start es key at tx t run kept live asked is.inside
    (holders_passed start es key at tx run is.inside is.holding)
