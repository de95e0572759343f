-- Turn by turn: a completion of each key that a transaction has written is sent, or still to be sent.
use Rattle.std.proofs.Common.{◌≡◌, ◌⊎◌, ◌≤◌, ◌-◌, ℕ, Bool, true, false, List, [], ◌∷◌, ◌++◌, length, refl}
use Rattle.std.proofs.Common.{sym, ap, ◌∙◌, arith, inl, inr}
use Rattle.std.proofs.lemmas.Bool.{and_parts, eqb-true, false≢true, or_cases, or_left, or_right, true≢false}
use Rattle.std.proofs.lemmas.List.Folds.{list_any-append}
use Rattle.std.specs.List.{flat_map, list_any}
use Rattle.std.specs.Prelude.{◌&&◌, ◌||◌, None, Some}
use Rattle.run_theory.specs.Counts.{one_if}
use Rattle.sig_core.proofs.Keys.{same_tx-self}
use Rattle.sig_core.specs.declared.member.TxId.{TxId}
use Rattle.sig_core.specs.declared.outcome.AbortCause.{AbortCause}
use Rattle.sig_core.specs.declared.outs.Outgoing.{Outgoing}
use Rattle.sig_core.specs.declared.place.Place.{Place}
use Rattle.sig_core.specs.declared.signal.Body.{Body}
use Rattle.sig_core.specs.declared.signal.Body.TheVariants.{Chain, Host}
use Rattle.sig_core.specs.declared.signal.chain.ChainSignal.TheVariants.{Complete}
use Rattle.sig_core.specs.declared.signal.host.HostSignal.TheVariants.{Continue}
use Rattle.sig_core.specs.declared.signal.host.Work.TheVariants as work
use Rattle.sig_core.specs.Same.{same_key, same_tx}
use Rattle.sig_core.specs.Step.{stay}
use Rattle.frag_map.specs.Layout.{Layout}
use Rattle.tc_block.specs.Abort as abort
use Rattle.tc_block.specs.Abort.{is_verifying}
use Rattle.tc_block.specs.Complete as complete
use Rattle.tc_block.specs.declared.phase.Phase.TheVariants.{Completing}
use Rattle.tc_block.specs.declared.sends.TheConstants.{SENDS}
use Rattle.tc_block.specs.declared.touched.Touched.{Touched}
use Rattle.tc_block.specs.declared.transaction.Transaction.{Transaction}
use Rattle.tc_block.specs.Operate.{is_ready, wait_by}
use Rattle.tc_block.specs.Phases.{is_completing, is_decided}
use Rattle.tc_block.specs.Sends.{complete_if, entering, front_sends, go_on_if, key_sends, phase_sends}
use Rattle.tc_block.specs.Touched.{fits, is_on}
use Rattle.tc_block.specs.Turn.{Turn, asking, going}
use Rattle.tc_block.proofs.EachTurn.{AbortForms, CommittedForms, TurnFormsAt, is_onward, ready_is, rows_at}
use Rattle.tc_block.proofs.TurnRows.{is_turn, tx_in, turn_for}
use Rattle.host_laws.proofs.rows.Operations.{true_and}
use Rattle.run_laws.proofs.carried.CommitBegins.{end_silent}
use Rattle.run_laws.proofs.hosts.TcOwn.{AreSilent}
use Rattle.run_laws.proofs.hosts.TxTurns.{is_for, turn_each}
use Rattle.run_laws.proofs.transit.Weighing.{in_sends}
use Rattle.order_laws.specs.Awaited.{awaited_in, due, list_length}
use Rattle.order_laws.proofs.AwaitedTurns.{last_is}
use Rattle.order_laws.proofs.Leads.{any_sent, late_leads, lead, next_leads, part_leads}
use Rattle.sig_core.specs.Op.{key_of}

-- the signal has the transaction's row completed
abbrev pub is_completion : TxId → List ℕ → Place → Body → Bool
is_completion tx key to (Chain (Complete other own chain at)) = same_tx other tx && same_key own key
is_completion tx key to body = false

pub onward_none : (tx : TxId) (key : List ℕ) (to : Place) (body : Body) → is_onward body ≡ true
    → is_completion tx key to body ≡ false
onward_none tx key to (Chain c) is = absurd (false≢true is)
onward_none tx key to _ is = refl

-- the key is one of those that the transaction knows to be written
abbrev pub has_written : List ℕ → List Touched → Bool
has_written key touched = list_any (λ (u : Touched). is_on key u && u.written) touched

pub written_few : (us : List Touched) → complete.written_count us ≤ length us
written_few [] = omega arith
written_few (u ∷ us) = omega (arith, few_one u.written, written_few us)
  where
    few_one : (b : Bool) → complete.one_if b ≤ 1
    few_one true = omega arith
    few_one false = omega arith

written_some : (key : List ℕ) (us : List Touched) → has_written key us ≡ true → 1 ≤ complete.written_count us
written_some key [] is = absurd (false≢true is)
written_some key (u ∷ us) is =
    by (or_cases (is_on key u && u.written) (has_written key us) is) (written_some key us)
  where
    by : ((is_on key u && u.written) ≡ true) ⊎ (has_written key us ≡ true)
        → (has_written key us ≡ true → 1 ≤ complete.written_count us) → 1 ≤ complete.written_count (u ∷ us)
    by (inl here) more =
        omega (arith, ap complete.one_if (and_parts (is_on key u) u.written here).1)
    by (inr rest) more = omega (arith, more rest)

touched_some : (key : List ℕ) (us : List Touched) → has_written key us ≡ true → 1 ≤ length us
touched_some key [] is = absurd (false≢true is)
touched_some key (u ∷ us) is = omega arith

module _ (layout : Layout) (tx : TxId) where
  -- what it sends in a phase doesn't depend on what it awaits then
  pub completions_same : (epoch n m : ℕ) (us : List Touched)
      → phase_sends layout tx (Completing epoch n) us ≡ phase_sends layout tx (Completing epoch m) us
  unfolding phase_sends front_sends key_sends
  completions_same epoch n m us = ap (λ os. front_sends tx (Completing epoch n) ++ os) (all us)
    where
      all : (us : List Touched) → flat_map (key_sends layout tx (Completing epoch n)) us
          ≡ flat_map (key_sends layout tx (Completing epoch m)) us
      all [] = refl
      all (u ∷ us) = ap (λ os. complete_if tx u u.written ++ os) (all us)

  any_one : (key : List ℕ) (u : Touched) (b : Bool) → same_key u.key key ≡ true → b ≡ true
      → any_sent (is_completion tx key) (complete_if tx u b) ≡ true
  any_one key u true own is =
      or_left (same_tx tx tx && same_key u.key key) false
      (true_and (same_tx tx tx) (same_key u.key key) (same_tx-self tx) own)
  any_one key u false own is = absurd (false≢true is)

  -- a key that was written is among those that are completed
  pub any_completed : (key : List ℕ) (epoch n : ℕ) (us : List Touched) → has_written key us ≡ true
      → any_sent (is_completion tx key) (phase_sends layout tx (Completing epoch n) us) ≡ true
  unfolding phase_sends front_sends key_sends
  any_completed key epoch n us is = all us is
    where
      all : (us : List Touched) → has_written key us ≡ true
          → any_sent (is_completion tx key) (flat_map (key_sends layout tx (Completing epoch n)) us) ≡ true
      all [] is = absurd (false≢true is)
      all (u ∷ us) is =
          list_any-append (λ (o : Outgoing). is_completion tx key o.to o.body) (complete_if tx u u.written)
          (flat_map (key_sends layout tx (Completing epoch n)) us)
          ∙ by (or_cases (is_on key u && u.written) (has_written key us) is) (all us)
        where
          rest : List Outgoing
          rest = flat_map (key_sends layout tx (Completing epoch n)) us

          by : ((is_on key u && u.written) ≡ true) ⊎ (has_written key us ≡ true)
              → (has_written key us ≡ true → any_sent (is_completion tx key) rest ≡ true)
              → (any_sent (is_completion tx key) (complete_if tx u u.written)
              || any_sent (is_completion tx key) rest) ≡ true
          by (inl here) more =
              let parts = and_parts (is_on key u) u.written here in
              or_left (any_sent (is_completion tx key) (complete_if tx u u.written))
              (any_sent (is_completion tx key) rest) (any_one key u u.written parts.0 parts.1)
          by (inr later) more =
              or_right (any_sent (is_completion tx key) (complete_if tx u u.written))
              (any_sent (is_completion tx key) rest) (more later)

module _ (node : ℕ) (layout : Layout) (tx : TxId) (key : List ℕ) (home : node ≡ tx.tc) where
  abbrev pub list_of : Transaction → List Outgoing
  list_of t = phase_sends layout tx t.phase t.touched

  abbrev pub completes : List Outgoing → Place → Body → ℕ
  completes list to body = lead tx (is_completion tx key) list to body

  -- A turn leaves the transaction in another phase; it begins to complete what it has written, or goes on with that;
  -- the last answer comes; or it is over before it was decided.
  pub data Completes (t : Transaction) (to : Place) (body : Body) (turn : Turn) : Type 0 where
    elsewhere : turn.over ≡ false → is_completing turn.step.state.phase ≡ false → Completes t to body turn
    begins : turn.over ≡ false → 1 ≤ in_sends (completes (list_of turn.step.state)) turn.step.effects.sends
        → Completes t to body turn
    goes : turn.over ≡ false → is_completing t.phase ≡ true → list_of turn.step.state ≡ list_of t
        → completes (list_of t) to body ≤ in_sends (completes (list_of t)) turn.step.effects.sends
        → Completes t to body turn
    ends : turn.over ≡ true → is_completing t.phase ≡ true
        → awaited_in t.phase ≤ due tx (list_length layout t.phase t.touched) body
        → completes (list_of t) to body ≡ 0 → Completes t to body turn
    undecided : turn.over ≡ true → is_decided t.phase ≡ false → AreSilent tx turn.step.effects.sends
        → Completes t to body turn

  -- no turn but that to go on is led to a completion
  turn_none : (list : List Outgoing) (to : Place) (body : Body) → is_turn body ≡ true → is_onward body ≡ false
      → completes list to body ≡ 0
  turn_none list to (Host (Continue (work.Transaction one) at)) is off = absurd (true≢false off)
  turn_none list to (Chain (Complete one own chain at)) is off = absurd (false≢true is)
  turn_none list to _ is off = refl

  module _ (t : Transaction) (to : Place) (body : Body) (own : is_for tx body ≡ true)
      (written : (is_verifying t.phase || is_decided t.phase) ≡ true → has_written key t.touched ≡ true)
      (few : is_completing t.phase ≡ true → length (list_of t) ≤ SENDS) where
    abbrev R : Turn → Type 0
    R turn = Completes t to body turn

    a_turn : is_turn body ≡ true
    a_turn = (and_parts (is_turn body) (same_tx (tx_in body) tx) own).0

    -- where it stays as it is
    same_state : (turn : Turn) → turn.over ≡ false → turn.step.state ≡ t
        → (is_completing t.phase ≡ true
        → completes (list_of t) to body ≤ in_sends (completes (list_of t)) turn.step.effects.sends) → R turn
    same_state turn over is less = by (is_completing t.phase) refl
      where
        by : (b : Bool) → is_completing t.phase ≡ b → R turn
        by true on = goes over on (ap list_of is) (less on)
        by false off = elsewhere over (ap (λ (u : Transaction). is_completing u.phase) is ∙ off)

    stops : (at : ℕ) → body ≡ Host (Continue (work.Transaction tx) at) → SENDS ≤ at → R (going (stay t))
    stops at is high =
        same_state (going (stay t)) refl refl
        (λ on. omega (
          arith,
          ap (completes (list_of t) to) is,
          late_leads tx (is_completion tx key) (onward_none tx key) (list_of t) at to tx
              (omega (arith, few on, high)),
        ))

    goes_on : (at : ℕ) → body ≡ Host (Continue (work.Transaction tx) at) → R (going (go_on_if node layout tx t at true))
    goes_on at is =
        same_state (going (go_on_if node layout tx t at true)) refl refl
        (λ on. omega (
          arith,
          ap (completes (list_of t) to) is,
          next_leads tx (is_completion tx key) (onward_none tx key) node (list_of t) at to home,
        ))

    aborts : (u : Transaction) (why : AbortCause) → is_decided t.phase ≡ false → AbortForms node layout tx u why R
    unfolding entering
    aborts u why off = record {
      enters = λ some. elsewhere refl refl;
      ends = λ none. undecided refl off (end_silent node layout tx why (abort.is_verifying u.phase));
    }

    -- a key that was written is completed
    all_committed : (epoch : ℕ) → has_written key t.touched ≡ true → CommittedForms node layout tx t epoch R
    unfolding entering
    all_committed epoch is = record {
      enters = λ some.
          begins refl
          (part_leads tx (is_completion tx key) (onward_none tx key) node
          (phase_sends layout tx (Completing epoch (complete.written_count t.touched)) t.touched) 0 home
          (any_completed layout tx key epoch (complete.written_count t.touched) t.touched is));
      ends = λ none.
          absurd (omega (arith, eqb-true (complete.written_count t.touched) 0 none, written_some key t.touched is));
    }

    completes_forms : TurnFormsAt node layout tx t body R
    unfolding entering
    completes_forms = record {
      stays = λ off missed.
          same_state (going (stay t)) refl refl
          (λ on. omega (arith, turn_none (list_of t) to body a_turn off));
      stops = λ at is high. stops at is high;
      goes_on = λ at is low. goes_on at is;
      operates = λ op is can.
          elsewhere refl
          (ap is_completing (ready_is t.phase t.asked (and_parts (is_ready t.phase t.asked)
          (fits t.touched (key_of op)) can).0).0);
      answers = λ key answer asked is on at. elsewhere refl (ap is_completing at);
      late = λ key asked why verifying awaited is on at. elsewhere refl (ap is_completing at);
      waits = λ asked is on.
          same_state (going (wait_by tx t (Some asked))) refl refl
          (λ on. omega (arith, turn_none (list_of t) to body a_turn (ap is_onward is)));
      decides = λ is ready. elsewhere refl refl;
      commits = λ epoch is at some. elsewhere refl refl;
      commits_none = λ epoch is at none.
          absurd (omega (
            arith,
            eqb-true (length t.touched) 0 none,
            touched_some key t.touched (written (ap (λ p. is_verifying p || is_decided p) at)),
          ));
      committed = λ key epoch awaited is at more. elsewhere refl refl;
      committed_all = λ key epoch awaited is at last.
          all_committed epoch (written (ap (λ p. is_verifying p || is_decided p) at));
      completed = λ key epoch awaited is at more.
          goes refl (ap is_completing at)
          (completions_same layout tx epoch (awaited - 1) awaited t.touched
          ∙ sym (ap (λ p. phase_sends layout tx p t.touched) at))
          (omega (arith, ap (completes (list_of t) to) is));
      completed_all = λ key epoch awaited is at last.
          ends refl (ap is_completing at)
          (omega (
            arith,
            ap awaited_in at,
            last_is node layout tx awaited last,
            ap (due tx (list_length layout t.phase t.touched)) is,
            ap one_if (same_tx-self tx),
          ))
          (ap (completes (list_of t) to) is);
      rolls_back = λ is off unaborted. aborts t _ off;
      refuses = λ key why asked is on at. aborts (asking t None) why (ap is_decided at);
      aborted = λ key why verifying awaited is at more. elsewhere refl refl;
      aborted_all = λ key why verifying awaited is at last.
          undecided refl (ap is_decided at) (end_silent node layout tx why verifying);
    }

    pub turn_completes : Completes t to body (turn_for node layout tx body t)
    turn_completes = turn_each node layout tx body t R (rows_at node layout tx t body R completes_forms) own
