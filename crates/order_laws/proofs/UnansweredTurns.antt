-- Turn by turn and row by row: parts of an operation on a key, and the operation that is unanswered.
use Rattle.std.proofs.Common.{◌≡◌, ◌≤◌, ◌+◌, ℕ, Bool, true, false, List, [], ◌∷◌, length, refl, sym, ap, ◌∙◌, arith}
use Rattle.std.proofs.lemmas.Bool.{and_parts, eqb-true, false≢true}
use Rattle.std.specs.Prelude.{◌&&◌, Option, None, Some}
use Rattle.run_theory.specs.Counts.{one_if, tally}
use Rattle.run_theory.specs.Lists.{Each}
use Rattle.run_theory.proofs.Tally.{tally_none}
use Rattle.sig_core.proofs.Keys.{same_tx-self}
use Rattle.sig_core.proofs.TxLemmas.{same_tx-is}
use Rattle.sig_core.specs.declared.member.TxId.{TxId}
use Rattle.sig_core.specs.declared.outcome.AbortCause.{AbortCause}
use Rattle.sig_core.specs.declared.outs.Outgoing.{Outgoing}
use Rattle.sig_core.specs.declared.signal.Body.{Body}
use Rattle.sig_core.specs.declared.signal.Body.TheVariants.{Chain, Client}
use Rattle.sig_core.specs.declared.signal.chain.ChainSignal.TheVariants.{Abort, LqhKeyConf, LqhKeyRef, LqhKeyReq}
use Rattle.sig_core.specs.declared.signal.client.ClientSignal.TheVariants.{TcRollbackRep}
use Rattle.sig_core.specs.Op.{key_of}
use Rattle.sig_core.specs.Same.{same_key, same_tx}
use Rattle.sig_core.specs.Work.{work_key}
use Rattle.frag_map.specs.Layout.{Layout, chain_of}
use Rattle.row_records.proofs.KeyLemmas as keys
use Rattle.lqh_block.proofs.LqhForms.{perform_forms}
use Rattle.lqh_block.specs.declared.request.Request.{Request}
use Rattle.lqh_block.specs.Lqh.{lqh_table}
use Rattle.lqh_block.specs.State.{LqhState}
use Rattle.lqh_block.specs.Storage as storage
use Rattle.lqh_block.specs.Storage.{StorageState}
use Rattle.lqh_block.specs.Work.{is_for}
use Rattle.tc_block.specs.Abort as abort
use Rattle.tc_block.specs.Complete as complete
use Rattle.tc_block.specs.declared.phase.Asked.{Asked}
use Rattle.tc_block.specs.declared.phase.Phase.{Phase}
use Rattle.tc_block.specs.declared.phase.Phase.TheVariants.{Open, Verifying, Committing, Completing, Aborting}
use Rattle.tc_block.specs.declared.transaction.Transaction.{Transaction}
use Rattle.tc_block.specs.Operate.{is_ready}
use Rattle.tc_block.specs.Phases.{is_aborting}
use Rattle.tc_block.specs.Sends.{aborts_of, entering, front_sends, go_on_if, wait_of, waits_of}
use Rattle.tc_block.specs.Touched.{fits}
use Rattle.tc_block.specs.Turn.{Turn, asking}
use Rattle.tc_block.proofs.EachTurn.{CommittedForms, IsAnswered, IsRowAnswer, TurnFormsAt, by_conf, by_ref, may_ask}
use Rattle.tc_block.proofs.EachTurn.{ready_is, rows_at}
use Rattle.tc_block.proofs.TurnRows.{turn_for}
use Rattle.host_laws.proofs.coordinator.PhaseSends.{HasChains, aborts_of_kind, entering_of_kind, rest_of_kind}
use Rattle.host_laws.proofs.rows.RequestCounts.{CountStep, asked_by, count_step, ends, is_work, performs, refuses}
use Rattle.host_laws.proofs.rows.RequestCounts.{rests}
use Rattle.host_laws.proofs.hosts.SendKinds.{are_of, each_of, of_map}
use Rattle.host_laws.proofs.coordinator.Operations.{is_right}
use Rattle.run_laws.proofs.tokens.Waiting.{WaitersAsk}
use Rattle.run_laws.proofs.hosts.TxTurns.{is_for as is_for_tx, turn_each}
use Rattle.order_laws.specs.Awaited.{awaited_in, due, list_length}
use Rattle.order_laws.specs.Unanswered.{is_on_key, is_part_on}
use Rattle.order_laws.proofs.AwaitedTurns.{last_is}
use Rattle.run_theory.proofs.Focus.{none_placed}

-- the signal takes the transaction back
abbrev pub is_backing : TxId → Body → Bool
is_backing tx (Chain (Abort other own)) = same_tx other tx
is_backing tx (Client (TcRollbackRep other cause)) = same_tx other tx
is_backing tx body = false

abbrev pub AreUnbacked : TxId → List Outgoing → Type 0
AreUnbacked tx sends = Each (λ (o : Outgoing). is_backing tx o.body ≡ false) sends

module _ (tx : TxId) (key : List ℕ) where
  -- how many of these signals are parts of an operation on the key
  abbrev pub parts_out : List Outgoing → ℕ
  parts_out sends = tally (λ (o : Outgoing). is_part_on tx key o.body) sends

  abbrev pub AreApart : List Outgoing → Type 0
  AreApart sends = Each (λ (o : Outgoing). is_part_on tx key o.body ≡ false) sends

  pub apart_out : (sends : List Outgoing) → AreApart sends → parts_out sends ≡ 0
  apart_out sends all = tally_none (λ (o : Outgoing). is_part_on tx key o.body) sends all

  -- no part of an operation
  abbrev pub is_plain : Body → Bool
  is_plain (Chain (LqhKeyReq other work chain at)) = false
  is_plain (Chain (LqhKeyConf other own answer)) = false
  is_plain (Chain (LqhKeyRef other own cause)) = false
  is_plain body = true

  plain_apart : (body : Body) → is_plain body ≡ true → is_part_on tx key body ≡ false
  plain_apart (Chain (LqhKeyReq other work chain at)) is = absurd (false≢true is)
  plain_apart (Chain (LqhKeyConf other own answer)) is = absurd (false≢true is)
  plain_apart (Chain (LqhKeyRef other own cause)) is = absurd (false≢true is)
  plain_apart _ is = refl

  pub plain_out : (sends : List Outgoing) → are_of is_plain sends ≡ true → parts_out sends ≡ 0
  plain_out sends all =
      apart_out sends
      (each_of is_plain (λ (o : Outgoing). is_part_on tx key o.body ≡ false) (λ o is. plain_apart o.body is) sends all)

  pub plain_chains : HasChains tx is_plain
  plain_chains = record {
    commits = λ own epoch chain at. refl;
    completes = λ own chain at. refl;
    aborts = λ own. refl;
    goes_on = λ at. refl;
  }

  -- the rows of a node
  perform_parts : (s : StorageState) (r : Request)
      → parts_out (storage.perform s r).effects.sends ≤ one_if (is_for tx key r)
  perform_parts s r =
      perform_forms (λ step. parts_out step.effects.sends ≤ one_if (is_for tx key r)) s r (record {
        log_full = λ used reserved need. omega arith;
        table_full = λ rows. omega arith;
        answers = λ a. omega arith;
        passes = λ image next is. omega arith;
        ends = λ image is. omega arith;
      })

  refused_parts : (other : TxId) (own : List ℕ) (why : AbortCause) (r : Request) → is_for other own r ≡ true
      → parts_out (storage.refusal other own why ∷ []) ≤ one_if (is_for tx key r)
  refused_parts other own why r passes =
      let parts = and_parts (same_tx r.tx other) (same_key (work_key r.work) own) passes in
      let one : r.tx ≡ other = same_tx-is r.tx other parts.0 in
      let its : work_key r.work ≡ own = keys.same (work_key r.work) own parts.1 in
      omega (
        arith,
        ap (λ t. one_if (same_tx t tx && same_key (work_key r.work) key)) one,
        ap (λ k. one_if (same_tx other tx && same_key k key)) its,
      )

  only_work : (body : Body) → is_work body ≡ false → is_part_on tx key body ≡ false
  only_work (Chain (LqhKeyReq other what chain at)) e = absurd (false≢true (sym e))
  only_work (Chain (LqhKeyConf other own answer)) e = absurd (false≢true (sym e))
  only_work (Chain (LqhKeyRef other own cause)) e = absurd (false≢true (sym e))
  only_work _ e = refl

  few_asked : (body : Body) → asked_by (is_for tx key) body ≤ one_if (is_part_on tx key body)
  few_asked (Chain (LqhKeyReq other what chain at)) = omega arith
  few_asked _ = omega arith

  -- no more is sent and waits than came and waited
  pub lqh_parts : (s : LqhState) (body : Body) → WaitersAsk s
      → parts_out (lqh_table s body).effects.sends + tally (is_for tx key) (lqh_table s body).state.waiting
      ≤ tally (is_for tx key) s.waiting + one_if (is_part_on tx key body)
  lqh_parts s body all =
      by (count_step (is_for tx key) (λ (o : Outgoing). is_part_on tx key o.body) (λ o e. only_work o.body e) s body)
    where
      by : CountStep (is_for tx key) (λ (o : Outgoing). is_part_on tx key o.body) s (asked_by (is_for tx key) body)
          (lqh_table s body)
          → parts_out (lqh_table s body).effects.sends + tally (is_for tx key) (lqh_table s body).state.waiting
          ≤ tally (is_for tx key) s.waiting + one_if (is_part_on tx key body)
      by (performs st r waits sends) = omega (arith, waits, sends, perform_parts st r, few_asked body)
      by (refuses other own why r passes waits sends) =
          omega (arith, waits, sends, refused_parts other own why r passes, few_asked body)
      by (ends other own queued none waits sends) =
          absurd (omega (arith, all.asks own other queued, none_placed (is_for other own) s.waiting none))
      by (rests waits sends) = omega (arith, waits, sends, few_asked body)

  -- the transaction's turns
  module _ (node : ℕ) (layout : Layout) where
    -- A turn sends no part and leaves what is unanswered; an operation is asked for; it is answered; nothing was
    -- unanswered; or the last answer of an abort comes.
    pub data Parts (t : Transaction) (body : Body) (turn : Turn) : Type 0 where
      same : turn.over ≡ false → turn.step.state.asked ≡ t.asked → parts_out turn.step.effects.sends ≡ 0
          → Parts t body turn
      asks : turn.over ≡ false → t.asked ≡ None
          → parts_out turn.step.effects.sends ≤ one_if (is_on_key key turn.step.state.asked)
          → is_aborting t.phase ≡ false → AreUnbacked tx turn.step.effects.sends → Parts t body turn
      answered : one_if (is_on_key key t.asked) ≤ one_if (is_part_on tx key body)
          → parts_out turn.step.effects.sends ≡ 0 → Parts t body turn
      free : t.asked ≡ None → parts_out turn.step.effects.sends ≡ 0 → Parts t body turn
      aborted : is_aborting t.phase ≡ true → awaited_in t.phase ≤ due tx (list_length layout t.phase t.touched) body
          → parts_out turn.step.effects.sends ≡ 0 → Parts t body turn

    shut_none : (asked : Option Asked) (phase : Phase) → is_right asked phase ≡ true → may_ask phase ≡ false
        → asked ≡ None
    shut_none None phase right shut = refl
    shut_none (Some asked) phase right shut = absurd (false≢true (sym shut ∙ right))

    pub end_none : (why : AbortCause) (b : Bool) → parts_out (abort.abort_end node tx why b) ≡ 0
    end_none why true = refl
    end_none why false = refl

    pub front_plain : (phase : Phase) → are_of is_plain (front_sends tx phase) ≡ true
    unfolding front_sends
    front_plain (Completing epoch awaited) = refl
    front_plain (Committing epoch awaited) = refl
    front_plain (Aborting why verifying awaited) = refl
    front_plain Open = refl
    front_plain Verifying = refl

    pub enters_none : (t : Transaction) (phase : Phase)
        → parts_out (entering node layout tx t phase).effects.sends ≡ 0
    enters_none t phase =
        plain_out (entering node layout tx t phase).effects.sends
        (entering_of_kind is_plain layout tx plain_chains node t phase (front_plain phase))

    module _ (chains : (own : List ℕ) → 1 ≤ length (chain_of layout own)) (t : Transaction) (body : Body)
        (right : is_right t.asked t.phase ≡ true) where
      abbrev R : Turn → Type 0
      R turn = Parts t body turn

      uncounted : (asked : Option Asked) → abort.asked_count layout asked ≡ 0 → asked ≡ None
      uncounted None none = refl
      uncounted (Some asked) none = absurd (omega (arith, chains (key_of asked.op), none))

      -- the answer of the operation on its key
      own_answer : (own : List ℕ) (asked : Asked) → IsAnswered t own asked
          → is_part_on tx key body ≡ (same_tx tx tx && same_key own key)
          → one_if (is_on_key key t.asked) ≤ one_if (is_part_on tx key body)
      own_answer own asked on is =
          omega (
            arith,
            ap (λ o. one_if (is_on_key key o)) on.is,
            ap (λ k. one_if (same_key k key)) (keys.same (key_of asked.op) own on.on),
            ap one_if is,
            ap (λ b. one_if (b && same_key own key)) (same_tx-self tx),
          )

      row_answer : (own : List ℕ) → IsRowAnswer tx own body
          → is_part_on tx key body ≡ (same_tx tx tx && same_key own key)
      row_answer own (by_conf answer is) = ap (is_part_on tx key) is
      row_answer own (by_ref why is) = ap (is_part_on tx key) is

      undecided_forms : (epoch : ℕ) → may_ask t.phase ≡ false → CommittedForms node layout tx t epoch R
      unfolding entering
      undecided_forms epoch shut = record {
        enters = λ some. same refl refl (enters_none t (Completing epoch (complete.written_count t.touched)));
        ends = λ none. free (shut_none t.asked t.phase right shut) refl;
      }

      parts_forms : TurnFormsAt node layout tx t body R
      unfolding entering
      parts_forms = record {
        stays = λ off missed. same refl refl refl;
        stops = λ at is high. same refl refl refl;
        goes_on = λ at is low.
            same refl refl
            (plain_out (go_on_if node layout tx t at true).effects.sends
            (rest_of_kind is_plain layout tx plain_chains node t at (front_plain t.phase)));
        operates = λ op is can.
            let opened =
            ready_is t.phase t.asked (and_parts (is_ready t.phase t.asked) (fits t.touched (key_of op)) can).0
            in
            asks refl opened.1 (omega (arith, ap (λ b. one_if (b && same_key (key_of op) key)) (same_tx-self tx)))
            (ap is_aborting opened.0) (refl, tt);
        answers = λ own answer asked is on at. answered (own_answer own asked on (ap (is_part_on tx key) is)) refl;
        late = λ own asked why verifying awaited is on at.
            answered (own_answer own asked on (row_answer own is))
            (plain_out (aborts_of tx own (chain_of layout own))
            (aborts_of_kind is_plain layout tx plain_chains own (chain_of layout own)));
        waits = λ asked is on.
            same refl refl
            (plain_out (waits_of tx (key_of asked.op) asked.chain)
            (of_map is_plain (wait_of tx (key_of asked.op)) asked.chain (λ r. refl)));
        decides = λ is ready. free (ready_is t.phase t.asked ready).1 refl;
        commits = λ epoch is at some. same refl refl (enters_none t (Committing epoch (length t.touched)));
        commits_none = λ epoch is at none. undecided_forms epoch (ap may_ask at);
        committed = λ own epoch awaited is at more. same refl refl refl;
        committed_all = λ own epoch awaited is at last. undecided_forms epoch (ap may_ask at);
        completed = λ own epoch awaited is at more. same refl refl refl;
        completed_all = λ own epoch awaited is at last. free (shut_none t.asked t.phase right (ap may_ask at)) refl;
        rolls_back = λ is undecided unaborted. record {
          enters = λ some. same refl refl (enters_none t _);
          ends = λ none.
              free
              (uncounted t.asked
              (omega (arith, eqb-true (abort.aborts_awaited layout t) 0 none)))
              (end_none _ (abort.is_verifying t.phase));
        };
        refuses = λ own why asked is on at. record {
          enters =
              λ some. answered (own_answer own asked on (ap (is_part_on tx key) is)) (enters_none (asking t None) _);
          ends = λ none.
              answered (own_answer own asked on (ap (is_part_on tx key) is))
              (end_none why (abort.is_verifying t.phase));
        };
        aborted = λ own why verifying awaited is at more. same refl refl refl;
        aborted_all = λ own why verifying awaited is at last.
            aborted (ap is_aborting at)
            (omega (
              arith,
              ap awaited_in at,
              last_is node layout tx awaited last,
              ap (due tx (list_length layout t.phase t.touched)) is,
              ap one_if (same_tx-self tx),
            ))
            (end_none why verifying);
      }

      pub turn_parts : is_for_tx tx body ≡ true → Parts t body (turn_for node layout tx body t)
      turn_parts own = turn_each node layout tx body t R (rows_at node layout tx t body R parts_forms) own
