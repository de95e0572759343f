-- A coordinator tells of each of its transactions once that it has begun, and asks once for its epoch: of the epochs of
-- its own node.
use Rattle.std.proofs.Common.{◌≡◌, ◌∙◌, ◌+◌, ◌≤◌, ◌<◌, ◌&&◌, ℕ, Bool, true, false, List, [], ◌∷◌, ◌++◌, arith, length}
use Rattle.std.proofs.Common.{nat_lt, refl, sym, ap, subst}
use Rattle.std.specs.Prelude.{nat_le, Option}
use Rattle.std.specs.List.{count_by}
use Rattle.run_theory.specs.Lists.{Each}
use Rattle.run_theory.proofs.Pasts.{each_after, each_append, each_before, each_map}
use Rattle.sig_core.specs.declared.member.Member.{Member}
use Rattle.sig_core.specs.declared.member.TxId.{TxId}
use Rattle.sig_core.specs.declared.outs.Outgoing.{Outgoing}
use Rattle.sig_core.specs.declared.place.Place.{Place}
use Rattle.sig_core.specs.declared.signal.Body.{Body}
use Rattle.sig_core.specs.declared.signal.Body.TheVariants.{Client, Epoch}
use Rattle.sig_core.specs.declared.signal.Signal.{Signal}
use Rattle.sig_core.specs.declared.signal.client.ClientSignal.TheVariants.{TcBeginConf, TcCommitReq}
use Rattle.sig_core.specs.declared.signal.epoch.EpochSignal.TheVariants.{DiVerifyReq}
use Rattle.sig_core.specs.declared.view.View.{View}
use Rattle.sig_core.specs.Place.{client, epochs}
use Rattle.sig_core.specs.Same.{same_tx}
use Rattle.sig_core.specs.Step.{Step, joined, sends_only, to_place}
use Rattle.sig_core.proofs.TxLemmas.{same_tx-is}
use Rattle.frag_map.specs.Layout.{Layout}
use Rattle.tc_block.specs.Live.{turned, turned_if, without}
use Rattle.tc_block.specs.Operate.{fresh}
use Rattle.tc_block.specs.Phases.{is_open}
use Rattle.tc_block.specs.State.{TcState}
use Rattle.tc_block.specs.Tc.{begin_if, begun, next_tx}
use Rattle.tc_block.specs.Turn.{Turn}
use Rattle.tc_block.specs.declared.transaction.Transaction.{Transaction}
use Rattle.tc_block.proofs.EachTurn.{rows_of}
use Rattle.tc_block.proofs.LiveSplit.{AreOthers, Split, once_gone, once_inserted, once_set}
use Rattle.tc_block.specs.Complete.{one_if}
use Rattle.tc_views.proofs.Walk.{coordinator_outcomes, inner}
use Rattle.tc_views.specs.Coordinator.{coordinator_row, fresh_coordinator}
use Rattle.tc_views.specs.Laws.{AreOnce}
use Rattle.tc_views.specs.State.{CoordinatorState, go_on_if}
use Rattle.tc_views.specs.Views.{install_row, tasks_at}
use Rattle.outcome_laws.specs.Counts.{IsCoordinatorOf, coordinator_member, count_sent, is_asking, is_begin, is_open_of}
use Rattle.outcome_laws.specs.Counts.{is_unborn, may_ask}
use Rattle.outcome_laws.specs.Own.{IsOwnAt, IsOwnSend}
use Rattle.outcome_laws.proofs.coordinators.Claims.{AreQuiet, Claims, IsQuiet, asks, is_claim, more_quiet, quiet}
use Rattle.outcome_laws.proofs.coordinators.Claims.{resume_claims}
use Rattle.outcome_laws.proofs.coordinators.Claims.{turn_claims}
use Rattle.outcome_laws.proofs.coordinators.Lists.{are_once, come_to, comes_to, count_between, count_both, count_more}
use Rattle.outcome_laws.proofs.coordinators.Lists.{keys_once}
use Rattle.outcome_laws.proofs.coordinators.Lists.{next_is_other, none_counted, put_last}

-- the same of the coordinator within its view as of the one under views
record IsOf (member : Member) (s : TcState) : Type 0 where
  node_is : s.node ≡ member.node
  start_is : s.start ≡ member.start
  own : Each (λ (e : TxId × Transaction). coordinator_member e.0 ≡ member) s.live
  begun : Each (λ (e : TxId × Transaction). e.0.seq < s.next_seq) s.live
  once : AreOnce s.live

-- how often it may still begin the transaction, and ask for its epoch
abbrev may_begin : TcState → TxId → ℕ
may_begin s tx = one_if (nat_le s.next_seq tx.seq)

abbrev may_still_ask : TcState → TxId → ℕ
may_still_ask s tx = may_begin s tx + count_by (is_open_of tx) s.live

-- what is sent uses up what it may still do
record Uses (s : TcState) (step : Step TcState) (tx : TxId) : Type 0 where
  begins : count_sent (is_begin tx) step.effects.sends + may_begin step.state tx ≤ may_begin s tx
  asks : count_sent (is_asking tx) step.effects.sends + may_still_ask step.state tx ≤ may_still_ask s tx

-- a step that leaves it the coordinator of its member
record Leaves (member : Member) (s : TcState) (step : Step TcState) : Type 0 where
  of : IsOf member step.state
  uses : (tx : TxId) → Uses s step tx
  sends : Each (IsOwnSend member) step.effects.sends

no_begin : (tx : TxId) (body : Body) → is_claim body ≡ false → is_begin tx body ≡ false
no_begin tx (Client (TcBeginConf name other)) is = absurd cc
no_begin tx _ is = refl

no_asking : (tx : TxId) (body : Body) → is_claim body ≡ false → is_asking tx body ≡ false
no_asking tx (Epoch (DiVerifyReq other ops)) is = absurd cc
no_asking tx _ is = refl

no_claim : (member : Member) (to : Place) (body : Body) → is_claim body ≡ false → IsOwnAt member to body
no_claim member to (Client (TcBeginConf name tx)) is = absurd cc
no_claim member to (Client (TcCommitReq tx)) is = absurd cc
no_claim member to (Epoch (DiVerifyReq tx ops)) is = absurd cc
no_claim member to _ is = tt

quiet_begins : (tx : TxId) (sends : List Outgoing) → AreQuiet sends → count_sent (is_begin tx) sends ≡ 0
quiet_begins tx sends all =
    none_counted (is_begin tx) sends
    (each_map IsQuiet (λ (sent : Outgoing). is_begin tx sent.body ≡ false) sends (λ sent is. no_begin tx sent.body is)
    all)

quiet_asks : (tx : TxId) (sends : List Outgoing) → AreQuiet sends → count_sent (is_asking tx) sends ≡ 0
quiet_asks tx sends all =
    none_counted (is_asking tx) sends
    (each_map IsQuiet (λ (sent : Outgoing). is_asking tx sent.body ≡ false) sends (λ sent is. no_asking tx sent.body is)
    all)

quiet_own : (member : Member) (sends : List Outgoing) → AreQuiet sends → Each (IsOwnSend member) sends
quiet_own member sends all =
    each_map IsQuiet (IsOwnSend member) sends (λ sent is. no_claim member sent.to sent.body is) all

-- a step that claims nothing, with the same transactions
quiet_leaves : (member : Member) (s : TcState) (sends : List Outgoing) → IsOf member s → AreQuiet sends
    → Leaves member s (record { state = s; effects = sends_only sends })
quiet_leaves member s sends of all = record {
  of = of;
  uses = λ tx. record {
    begins = omega (arith, quiet_begins tx sends all);
    asks = omega (arith, quiet_asks tx sends all);
  };
  sends = quiet_own member sends all;
}

-- what a turn of a transaction does of that
record TurnUses (member : Member) (tx : TxId) (t : Transaction) (turn : Turn) : Type 0 where
  begins : (one : TxId) → count_sent (is_begin one) turn.step.effects.sends ≡ 0
  asks : (one : TxId) → count_sent (is_asking one) turn.step.effects.sends
      + one_if (is_open_of one (tx, turn.step.state)) ≤ one_if (is_open_of one (tx, t))
  sends : Each (IsOwnSend member) turn.step.effects.sends

still_open : (same now before : Bool) → (now ≡ true → before ≡ true) → one_if (same && now) ≤ one_if (same && before)
still_open false now before is = omega arith
still_open true false before is = omega arith
still_open true true false is = absurd (let both : false ≡ true = is refl in cc)
still_open true true true is = omega arith

shut_now : (same now before : Bool) → now ≡ false → before ≡ true
    → one_if same + one_if (same && now) ≤ one_if (same && before)
shut_now false now before off on = omega arith
shut_now true true before off on = absurd cc
shut_now true false false off on = absurd cc
shut_now true false true off on = omega arith

turn_uses : (member : Member) (node : ℕ) (tx : TxId) (t : Transaction) (turn : Turn) → node ≡ member.node
    → coordinator_member tx ≡ member → Claims node tx t turn → TurnUses member tx t turn
turn_uses member node tx t turn node_is own (quiet all open_is) = record {
  begins = λ one. quiet_begins one turn.step.effects.sends all;
  asks = λ one.
      omega (
        arith,
        quiet_asks one turn.step.effects.sends all,
        still_open (same_tx tx one) (is_open turn.step.state.phase) (is_open t.phase) open_is,
      );
  sends = quiet_own member turn.step.effects.sends all;
}
turn_uses member node tx t turn node_is own (asks ops open_is shut sends_are) = record {
  begins = λ one. ap (count_sent (is_begin one)) sends_are;
  asks = λ one.
      let asking = to_place (epochs node) (Epoch (DiVerifyReq tx ops)) in
      omega (
        arith,
        ap (count_sent (is_asking one)) sends_are,
        count_more (λ (sent : Outgoing). is_asking one sent.body) asking [],
        shut_now (same_tx tx one) (is_open turn.step.state.phase) (is_open t.phase) shut open_is,
      );
  sends = subst (Each (IsOwnSend member)) (sym sends_are) ((own, ap epochs node_is), tt);
}

module _ (member : Member) (s : TcState) (of : IsOf member s) where
  abbrev Own : TxId × Transaction → Type 0
  Own e = coordinator_member e.0 ≡ member

  abbrev Begun : TxId × Transaction → Type 0
  Begun e = e.0.seq < s.next_seq

  -- the transaction whose turn it is
  own_member : (tx : TxId) (t : Transaction) (at : ℕ) → Split tx t s.live at → coordinator_member tx ≡ member
  own_member tx t at split =
      (each_after Own split.front ((tx, t) ∷ split.back) (subst (Each Own) split.is of.own)).0

  module _ (tx : TxId) (t : Transaction) (at : ℕ) (split : Split tx t s.live at) where
    -- what holds of each entry, whatever becomes of the transaction
    stays_in : (P : TxId × Transaction → Type 0) → ((w : Transaction) → P (tx, t) → P (tx, w)) → Each P s.live
        → (w : Transaction) → Each P (split.front ++ (tx, w) ∷ split.back) × Each P (split.front ++ split.back)
    stays_in P keeps all w =
        let whole = subst (Each P) split.is all in
        let front = each_before P split.front ((tx, t) ∷ split.back) whole in
        let rest = each_after P split.front ((tx, t) ∷ split.back) whole in (
          each_append P split.front ((tx, w) ∷ split.back) front (keeps w rest.0, rest.1),
          each_append P split.front split.back front rest.1,
        )

    turned_of : (turn : Turn) → IsOf member (turned s at turn).state
    unfolding without
    turned_of turn = by turn.over
      where
        own : Each Own (split.front ++ (tx, turn.step.state) ∷ split.back) × Each Own (split.front ++ split.back)
        own = stays_in Own (λ w is. is) of.own turn.step.state

        begun_are : Each Begun (split.front ++ (tx, turn.step.state) ∷ split.back)
            × Each Begun (split.front ++ split.back)
        begun_are = stays_in Begun (λ w is. is) of.begun turn.step.state

        by : (b : Bool) → IsOf member (turned_if s at turn b).state
        by true = record {
          node_is = of.node_is;
          start_is = of.start_is;
          own = subst (Each Own) (sym split.gone) own.1;
          begun = subst (Each Begun) (sym split.gone) begun_are.1;
          once = subst AreOnce (sym split.gone)
              (are_once (split.front ++ split.back)
              (once_gone split.front split.back tx t
              (keys_once (split.front ++ (tx, t) ∷ split.back) (subst AreOnce split.is of.once))));
        }
        by false = record {
          node_is = of.node_is;
          start_is = of.start_is;
          own = subst (Each Own) (sym (split.set turn.step.state)) own.0;
          begun = subst (Each Begun) (sym (split.set turn.step.state)) begun_are.0;
          once = subst AreOnce (sym (split.set turn.step.state))
              (are_once (split.front ++ (tx, turn.step.state) ∷ split.back)
              (once_set split.front split.back tx t turn.step.state
              (keys_once (split.front ++ (tx, t) ∷ split.back) (subst AreOnce split.is of.once))));
        }

    -- how many entries of a transaction are open, before and behind the turn
    turned_uses : (turn : Turn) → TurnUses member tx t turn → (one : TxId) → Uses s (turned s at turn) one
    unfolding without
    turned_uses turn used one = by turn.over
      where
        before : count_by (is_open_of one) s.live
            ≡ count_by (is_open_of one) split.front
            + (one_if (is_open_of one (tx, t)) + count_by (is_open_of one) split.back)
        before = ap (count_by (is_open_of one)) split.is ∙ count_between (is_open_of one) split.front (tx, t) split.back

        by : (b : Bool) → Uses s (turned_if s at turn b) one
        by true = record {
          begins = omega (arith, used.begins one);
          asks =
              omega (
                arith,
                used.asks one,
                before,
                ap (count_by (is_open_of one)) split.gone,
                count_both (is_open_of one) split.front split.back,
              );
        }
        by false = record {
          begins = omega (arith, used.begins one);
          asks =
              omega (
                arith,
                used.asks one,
                before,
                ap (count_by (is_open_of one)) (split.set turn.step.state),
                count_between (is_open_of one) split.front (tx, turn.step.state) split.back,
              );
        }

    turned_leaves : (turn : Turn) → Claims s.node tx t turn → Leaves member s (turned s at turn)
    turned_leaves turn claims =
        let used = turn_uses member s.node tx t turn of.node_is (own_member tx t at split) claims in
        record { of = turned_of turn; uses = turned_uses turn used; sends = sent turn used.sends turn.over }
      where
        sent : (turn : Turn) → Each (IsOwnSend member) turn.step.effects.sends → (b : Bool)
            → Each (IsOwnSend member) (turned_if s at turn b).effects.sends
        sent turn all true = all
        sent turn all false = all

  next_member : coordinator_member (next_tx s) ≡ member
  next_member = λ i. record { node = of.node_is i; start = of.start_is i }

  others : AreOthers (next_tx s) s.live
  others = next_is_other s.live (next_tx s) of.begun

  last : (begun s).live ≡ s.live ++ (next_tx s, fresh) ∷ []
  last = put_last s.live (next_tx s) fresh others

  begun_of : IsOf member (begun s)
  begun_of = record {
    node_is = of.node_is;
    start_is = of.start_is;
    own = subst (Each Own) (sym last) (each_append Own s.live ((next_tx s, fresh) ∷ []) of.own (next_member, tt));
    begun =
        subst (Each Now) (sym last)
        (each_append Now s.live ((next_tx s, fresh) ∷ [])
        (each_map Begun Now s.live (λ e lower. omega (arith, lower)) of.begun) (omega arith, tt));
    once = are_once (begun s).live (once_inserted s.live (next_tx s) fresh others (keys_once s.live of.once));
  }
    where
      Now : TxId × Transaction → Type 0
      Now e = e.0.seq < s.next_seq + 1

  begun_uses : (name : Option ℕ) (one : TxId) → Uses s (begin_if s name false) one
  begun_uses name one = by (same_tx (next_tx s) one) refl
    where
      sent : count_sent (is_begin one) (begin_if s name false).effects.sends ≡ one_if (same_tx (next_tx s) one)
      sent = omega (
        arith,
        count_more (λ (o : Outgoing). is_begin one o.body) (to_place client (Client (TcBeginConf name (next_tx s)))) [],
      )

      now : count_by (is_open_of one) (begun s).live
          ≡ count_by (is_open_of one) s.live + one_if (same_tx (next_tx s) one && true)
      now =
          omega (
            arith,
            ap (count_by (is_open_of one)) last,
            count_between (is_open_of one) s.live (next_tx s, fresh) [],
          )

      by : (b : Bool) → same_tx (next_tx s) one ≡ b → Uses s (begin_if s name false) one
      by true same =
          let used : 1 + one_if (nat_le (s.next_seq + 1) one.seq) ≤ one_if (nat_le s.next_seq one.seq) =
          subst (λ (n : ℕ). 1 + one_if (nat_le (s.next_seq + 1) n) ≤ one_if (nat_le s.next_seq n))
          (ap (λ (x : TxId). x.seq) (same_tx-is (next_tx s) one same)) (comes_to s.next_seq) in
          record {
            begins = omega (arith, used, sent, ap one_if same);
            asks = omega (arith, used, now, ap (λ b. one_if (b && true)) same);
          }
      by false off =
          let used = come_to s.next_seq one.seq in
          record {
            begins = omega (arith, used, sent, ap one_if off);
            asks = omega (arith, used, now, ap (λ b. one_if (b && true)) off);
          }

  begun_leaves : (name : Option ℕ) → Leaves member s (begin_if s name false)
  begun_leaves name = record { of = begun_of; uses = begun_uses name; sends = (next_member, tt) }

goes_on_leaves : (member : Member) (s : TcState) (step : Step TcState) (node : ℕ) (b : Bool) → Leaves member s step
    → Leaves member s (record { state = step.state; effects = joined step.effects (sends_only (go_on_if node b)) })
goes_on_leaves member s step node b leaves = record {
  of = leaves.of;
  uses = λ tx. record {
    begins =
        omega (
          arith,
          (leaves.uses tx).begins,
          count_both (λ (o : Outgoing). is_begin tx o.body) step.effects.sends (go_on_if node b),
          quiet_begins tx (go_on_if node b) (more_quiet node b),
        );
    asks =
        omega (
          arith,
          (leaves.uses tx).asks,
          count_both (λ (o : Outgoing). is_asking tx o.body) step.effects.sends (go_on_if node b),
          quiet_asks tx (go_on_if node b) (more_quiet node b),
        );
  };
  sends =
      each_append (IsOwnSend member) step.effects.sends (go_on_if node b) leaves.sends
      (quiet_own member (go_on_if node b) (more_quiet node b));
}

within_view : (member : Member) (s : CoordinatorState) → IsCoordinatorOf member s → IsOf member s.tc
within_view member s of = record {
  node_is = of.node_is;
  start_is = of.start_is;
  own = of.own;
  begun = of.begun;
  once = of.once;
}

under_views : (member : Member) (s : CoordinatorState) → IsOf member s.tc → IsCoordinatorOf member s
under_views member s of = record {
  node_is = of.node_is;
  start_is = of.start_is;
  own = of.own;
  begun = of.begun;
  once = of.once;
}

module _ (member : Member) where
  coordinator_leaves : (s : CoordinatorState) (x : Signal) → IsCoordinatorOf member s
      → Leaves member s.tc (inner (coordinator_row s x))
  coordinator_leaves s x of =
      let own = within_view member s of in
      coordinator_outcomes (λ tx t turn. Claims s.tc.node tx t turn) (λ step. Leaves member s.tc step) s x (record {
        calm = record {
          turns = λ tx t at split.
              rows_of s.tc.node s.tc.layout tx t x.body (λ turn. Claims s.tc.node tx t turn)
              (turn_claims s.tc.node s.tc.layout tx t x.body);
          turned = λ tx t at split turn claims. turned_leaves member s.tc own tx t at split turn claims;
          stays = quiet_leaves member s.tc [] own tt;
          full = λ name. quiet_leaves member s.tc _ own (refl, tt);
          begins = λ name. begun_leaves member s.tc own name;
          passes = λ tx ahead. quiet_leaves member s.tc _ own (refl, tt);
        };
        resumes = λ tx t at split. resume_claims s.tc.node s.tc.layout tx t;
        promises = quiet_leaves member s.tc _ own (refl, tt);
        goes_on = λ step node b leaves. goes_on_leaves member s.tc step node b leaves;
      })

  pub coordinator_of_stays : (s : CoordinatorState) (x : Signal) → IsCoordinatorOf member s
      → IsCoordinatorOf member (coordinator_row s x).state
  coordinator_of_stays s x of =
      under_views member (coordinator_row s x).state (coordinator_leaves s x of).of

  pub begins_once : (tx : TxId) (s : CoordinatorState) (x : Signal) → IsCoordinatorOf member s
      → count_sent (is_begin tx) (coordinator_row s x).effects.sends
      + one_if (is_unborn (coordinator_row s x).state tx) ≤ one_if (is_unborn s tx)
  begins_once tx s x of = ((coordinator_leaves s x of).uses tx).begins

  pub asks_once : (tx : TxId) (s : CoordinatorState) (x : Signal) → IsCoordinatorOf member s
      → count_sent (is_asking tx) (coordinator_row s x).effects.sends + may_ask (coordinator_row s x).state tx
      ≤ may_ask s tx
  asks_once tx s x of = ((coordinator_leaves s x of).uses tx).asks

  pub coordinator_own : (s : CoordinatorState) (x : Signal) → IsCoordinatorOf member s
      → Each (IsOwnSend member) (coordinator_row s x).effects.sends
  coordinator_own s x of = (coordinator_leaves s x of).sends

  -- and where a view is installed
  pub coordinator_of_installed : (s : CoordinatorState) (view : View) → IsCoordinatorOf member s
      → IsCoordinatorOf member (install_row s view).state
  unfolding install_row
  coordinator_of_installed s view of = record {
    node_is = of.node_is;
    start_is = of.start_is;
    own = of.own;
    begun = of.begun;
    once = of.once;
  }

  pub coordinator_installs_own : (s : CoordinatorState) (view : View)
      → Each (IsOwnSend member) (install_row s view).effects.sends
  unfolding install_row
  coordinator_installs_own s view =
      let b = nat_lt 0 (length (tasks_at s view.number)) in
      quiet_own member (go_on_if s.tc.node b) (more_quiet s.tc.node b)

  -- as its life begins
  pub coordinator_of_fresh : (layout : Layout)
      → IsCoordinatorOf member (fresh_coordinator member.node member.start layout)
  coordinator_of_fresh layout = record { node_is = refl; start_is = refl; own = tt; begun = tt; once = tt }

module _ (tx : TxId) (s : CoordinatorState) (view : View) where
  abbrev more : Bool
  more = nat_lt 0 (length (tasks_at s view.number))

  pub begins_once_installed : count_sent (is_begin tx) (install_row s view).effects.sends
      + one_if (is_unborn (install_row s view).state tx) ≤ one_if (is_unborn s tx)
  unfolding install_row
  begins_once_installed = omega (arith, quiet_begins tx (go_on_if s.tc.node more) (more_quiet s.tc.node more))

  pub asks_once_installed : count_sent (is_asking tx) (install_row s view).effects.sends
      + may_ask (install_row s view).state tx ≤ may_ask s tx
  unfolding install_row
  asks_once_installed = omega (arith, quiet_asks tx (go_on_if s.tc.node more) (more_quiet s.tc.node more))
