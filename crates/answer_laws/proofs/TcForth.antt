-- What a turn of a transaction sends to replicas: operations where it is open, commits and completions where it is
-- decided.
use Rattle.std.proofs.Common.{◌≡◌, ◌⊎◌, ℕ, ◌+◌, ◌≤◌, List, ◌++◌, Bool, true, false, refl, ap, sym, ◌∙◌, arith, inl, inr}
use Rattle.std.specs.Prelude.{◌&&◌, Option, Some}
use Rattle.std.specs.List.{flat_map}
use Rattle.std.proofs.lemmas.Bool.{false≢true}
use Rattle.row_records.proofs.KeyLemmas.{same as same_key-is}
use Rattle.sig_core.specs.declared.member.TxId.{TxId}
use Rattle.sig_core.specs.declared.outcome.AbortCause.{AbortCause}
use Rattle.sig_core.specs.declared.outs.Outgoing.{Outgoing}
use Rattle.sig_core.specs.declared.place.Place.{Place}
use Rattle.sig_core.specs.declared.signal.Body.{Body}
use Rattle.sig_core.specs.declared.signal.Body.TheVariants.{Chain}
use Rattle.sig_core.specs.declared.signal.chain.ChainSignal.TheVariants.{LqhKeyReq, LqhKeyConf, LqhKeyRef, Commit}
use Rattle.sig_core.specs.declared.signal.chain.ChainSignal.TheVariants.{Complete}
use Rattle.frag_map.specs.Layout.{Layout}
use Rattle.sig_core.specs.Op.{key_of}
use Rattle.sig_core.specs.Same.{same_key, same_tx}
use Rattle.tc_block.specs.declared.phase.Asked.{Asked}
use Rattle.tc_block.specs.declared.phase.Phase.{Phase}
use Rattle.tc_block.specs.declared.phase.Phase.TheVariants.{Open, Verifying, Committing, Completing, Aborting}
use Rattle.tc_block.specs.declared.touched.Touched.{Touched}
use Rattle.tc_block.specs.declared.transaction.Transaction.{Transaction}
use Rattle.tc_block.specs.Abort as abort
use Rattle.frag_map.specs.Layout.{chain_of}
use Rattle.tc_block.specs.Part.{part_effects}
use Rattle.tc_block.specs.Sends.{abort_of, entering, front_sends, key_sends, phase_sends}
use Rattle.tc_block.specs.State.{TcState}
use Rattle.tc_block.specs.Turn.{Turn}
use Rattle.tc_block.specs.Phases.{is_decided}
use Rattle.sig_core.proofs.Keys.{same_tx-self}
use Rattle.answer_laws.proofs.LqhForth.{is_back}
use Rattle.host_laws.proofs.hosts.Sums.{one_most}
use Rattle.host_laws.proofs.rows.Waits.{hops, is_hop}
use Rattle.host_laws.proofs.hosts.PartKinds.{IsPartKind, entering_of, parts_of}
use Rattle.host_laws.proofs.coordinator.PhaseSends.{part_of}
use Rattle.host_laws.proofs.hosts.SendKinds.{are_of, none_of, of_append, of_flat, of_kind, of_map}
use Rattle.run_theory.proofs.Tally.{and_few}
use Rattle.run_theory.specs.Counts.{one_if}
use Rattle.host_laws.proofs.coordinator.Operations.{answers_of, asks_key}
use Rattle.host_laws.proofs.coordinator.Turns.{abort_ends, aborted, aborts, all_completed, answers, asked_to, asks}
use Rattle.host_laws.proofs.coordinator.Turns.{commits, committed, completed, completes, decides, ends, entered_phase}
use Rattle.host_laws.proofs.coordinator.Turns.{gives_up, GivesUp, goes_on, is_wait_kind, keeps, late, over_not, refused}
use Rattle.host_laws.proofs.coordinator.Turns.{TurnMove}
use Rattle.host_laws.proofs.coordinator.Ways.{aborting_apart}
use Rattle.tc_block.specs.Phases.{is_aborting}

-- neither a request for an operation nor an answer to one
abbrev pub is_hopless : Body → Bool
is_hopless (Chain (LqhKeyReq other what chain at)) = false
is_hopless (Chain (LqhKeyConf other at answer)) = false
is_hopless (Chain (LqhKeyRef other at why)) = false
is_hopless _ = true

pub hopless_none : (tx : TxId) (key : List ℕ) (sends : List Outgoing) → are_of is_hopless sends ≡ true
    → hops tx key sends ≡ 0
hopless_none tx key sends kind = none_of is_hopless (is_hop tx key) fails sends kind
  where
    fails : (to : Place) (b : Body) → is_hopless b ≡ true → is_hop tx key to b ≡ false
    fails to (Chain (LqhKeyReq other what chain at)) e = absurd (false≢true e)
    fails to (Chain (LqhKeyConf other at answer)) e = absurd (false≢true e)
    fails to (Chain (LqhKeyRef other at why)) e = absurd (false≢true e)
    fails to _ e = refl

hopless_part : (tx : TxId) → IsPartKind is_hopless tx
hopless_part tx = record {
  commit = λ key epoch chain at. refl;
  complete = λ key chain at. refl;
  abort = λ key. refl;
  cont = λ at. refl;
  report = λ epoch. refl;
}

wait_hopless : (b : Body) → is_wait_kind b ≡ true → is_hopless b ≡ true
wait_hopless (Chain (LqhKeyReq other what chain at)) e = absurd (false≢true e)
wait_hopless (Chain (LqhKeyConf other at answer)) e = absurd (false≢true e)
wait_hopless (Chain (LqhKeyRef other at why)) e = absurd (false≢true e)
wait_hopless _ e = refl

wait_back : (tx : TxId) (b : Body) → is_wait_kind b ≡ true → is_back tx b ≡ true
wait_back tx (Chain (Commit other key epoch chain at)) e = absurd (false≢true e)
wait_back tx (Chain (Complete other key chain at)) e = absurd (false≢true e)
wait_back tx _ e = refl

-- a transaction that isn't decided sends no commit, and no completion
module _ (node : ℕ) (layout : Layout) (tx : TxId) where
  back_key : (phase : Phase) (t : Touched) → is_decided phase ≡ false
      → are_of (is_back tx) (key_sends layout tx phase t) ≡ true
  unfolding key_sends
  back_key Open t off = refl
  back_key Verifying t off = refl
  back_key (Aborting why v k) t off = of_map (is_back tx) (abort_of tx t.key) (chain_of layout t.key) (λ r. refl)
  back_key (Committing epoch k) t off = absurd (false≢true (sym off))
  back_key (Completing epoch k) t off = absurd (false≢true (sym off))

  back_front : (phase : Phase) → is_decided phase ≡ false → are_of (is_back tx) (front_sends tx phase) ≡ true
  unfolding front_sends
  back_front Open off = refl
  back_front Verifying off = refl
  back_front (Aborting why v k) off = refl
  back_front (Committing epoch k) off = absurd (false≢true (sym off))
  back_front (Completing epoch k) off = absurd (false≢true (sym off))

  back_parts : (phase : Phase) (touched : List Touched) (at : ℕ) → is_decided phase ≡ false
      → are_of (is_back tx) (part_effects node tx (phase_sends layout tx phase touched) at).sends ≡ true
  unfolding phase_sends
  back_parts phase touched at off =
      part_of (is_back tx) tx (λ a. refl) node (front_sends tx phase ++ flat_map (key_sends layout tx phase) touched) at
      (of_append (is_back tx) (front_sends tx phase) (flat_map (key_sends layout tx phase) touched)
      (back_front phase off) (of_flat (is_back tx) (key_sends layout tx phase) touched (λ t. back_key phase t off)))

  back_entering : (t : Transaction) (phase : Phase) → is_decided phase ≡ false
      → are_of (is_back tx) (entering node layout tx t phase).effects.sends ≡ true
  unfolding entering
  back_entering t phase off = back_parts phase t.touched 0 off

module _ (s : TcState) (tx : TxId) (key : List ℕ) (t : Transaction) (body : Body) (turn : Turn) where
  -- what a turn sends for operations on the key
  pub record HopTurn : Type 0 where
    pub opened : turn.over ≡ false → turn.step.state.phase ≡ Open
        → (t.phase ≡ Open) × (one_if (asks_key key t.asked) + hops tx key turn.step.effects.sends ≤ one_if
        (asks_key key turn.step.state.asked) + answers_of tx key body)
    pub few : (hops tx key turn.step.effects.sends ≡ 0)
        ⊎ ((t.phase ≡ Open) × ((asks_key key t.asked ≡ false) × (hops tx key turn.step.effects.sends ≤ 1)))

  -- and for commits
  pub record BackTurn : Type 0 where
    pub undecided : turn.over ≡ false → is_decided turn.step.state.phase ≡ false
        → (is_decided t.phase ≡ false) × (are_of (is_back tx) turn.step.effects.sends ≡ true)

  phase_is : (other : Turn) → turn ≡ other → turn.step.state.phase ≡ other.step.state.phase
  phase_is other is = ap (λ (x : Turn). x.step.state.phase) is

  -- it stays as it is, or closes, and sends nothing of the kind
  quiet_hops : (other : Turn) → turn ≡ other → are_of is_hopless other.step.effects.sends ≡ true
      → ((other.over ≡ true) ⊎ ((other.step.state.phase ≡ Open → ⊥) ⊎
      ((other.step.state.phase ≡ t.phase) × (other.step.state.asked ≡ t.asked)))) → HopTurn
  quiet_hops other is kind why = record { opened = λ over p. by why over p; few = inl none }
    where
      none : hops tx key turn.step.effects.sends ≡ 0
      none = ap (λ (x : Turn). hops tx key x.step.effects.sends) is ∙ hopless_none tx key other.step.effects.sends kind

      by : ((other.over ≡ true) ⊎ ((other.step.state.phase ≡ Open → ⊥) ⊎
          ((other.step.state.phase ≡ t.phase) × (other.step.state.asked ≡ t.asked)))) → turn.over ≡ false
          → turn.step.state.phase ≡ Open
          → (t.phase ≡ Open) × (one_if (asks_key key t.asked) + hops tx key turn.step.effects.sends ≤ one_if
          (asks_key key turn.step.state.asked) + answers_of tx key body)
      by (inl o) over p = over_not turn other is o over
      by (inr (inl closed)) over p = absurd (closed (sym (phase_is other is) ∙ p))
      by (inr (inr same)) over p = (
        sym same.0 ∙ (sym (phase_is other is) ∙ p),
        omega (
          arith,
          none,
          ap (λ (x : Turn). one_if (asks_key key x.step.state.asked)) is,
          ap (λ a. one_if (asks_key key a)) same.1,
        ),
      )

  aborting_no : (why : AbortCause) (v : Bool) (k : ℕ) → Aborting why v k ≡ Open → ⊥
  aborting_no why v k e = cc

  committing_no : (epoch k : ℕ) → Committing epoch k ≡ Open → ⊥
  committing_no epoch k e = cc

  completing_no : (epoch k : ℕ) → Completing epoch k ≡ Open → ⊥
  completing_no epoch k e = cc

  verifying_no : Verifying ≡ Open → ⊥
  verifying_no e = cc

  entered_closed : (w : Transaction) (phase : Phase) → (phase ≡ Open → ⊥)
      → (entering s.node s.layout tx w phase).state.phase ≡ Open → ⊥
  entered_closed w phase closed e = closed (sym (entered_phase s.node s.layout tx w phase) ∙ e)

  end_hopless : (why : AbortCause) (b : Bool) → are_of is_hopless (abort.abort_end s.node tx why b) ≡ true
  end_hopless why true = refl
  end_hopless why false = refl

  asked_key : (o : Option Asked) (a : Asked) → o ≡ Some a → asks_key key o ≡ same_key (key_of a.op) key
  asked_key o a e = ap (asks_key key) e

  pub hop_turn : TurnMove s tx t body turn → HopTurn
  hop_turn (keeps sends is kind missed) =
      quiet_hops _ is (of_kind is_wait_kind is_hopless wait_hopless sends kind) (inr (inr (refl, refl)))
  hop_turn (goes_on at about low is) = quiet_hops _ is
      (parts_of is_hopless tx (hopless_part tx) s.node s.layout t.phase t.touched at) (inr (inr (refl, refl)))
  hop_turn (asks op about p q fit is) = record {
    opened = λ over e. (p, omega (arith, none, sent, now));
    few = inr (p, (ap (asks_key key) q, omega (arith, sent, one_most (same_key (key_of op) key))));
  }
    where
      sent : hops tx key turn.step.effects.sends ≤ one_if (same_key (key_of op) key)
      sent = omega (
        arith,
        ap (λ (x : Turn). hops tx key x.step.effects.sends) is,
        and_few (same_tx tx tx)
            (same_key (key_of op) key),
      )

      now : one_if (asks_key key turn.step.state.asked) ≡ one_if (same_key (key_of op) key)
      now = ap (λ (x : Turn). one_if (asks_key key x.step.state.asked)) is

      none : one_if (asks_key key t.asked) ≡ 0
      none = ap (λ a. one_if (asks_key key a)) q
  hop_turn (answers at a asked about p q is) =
      record {
        opened = λ over e. (
          p,
          omega (
            arith,
            ap (λ (x : Turn). hops tx key x.step.effects.sends) is,
            ap one_if
                (asked_key t.asked asked q.is),
            came,
          ),
        );
        few = inl (ap (λ (x : Turn). hops tx key x.step.effects.sends) is);
      }
    where
      came : one_if (same_key (key_of asked.op) key) ≤ answers_of tx key body
      came = omega (
        arith,
        ap (answers_of tx key) about,
        ap (λ b. one_if (b && same_key at key)) (same_tx-self tx),
        ap
            (λ k. one_if (same_key k key)) (same_key-is (key_of asked.op) at q.on),
      )
  hop_turn (late at asked about p q is) =
      quiet_hops _ is (of_map is_hopless (abort_of tx at) (chain_of s.layout at) (λ r. refl)) (inr (inl closed))
    where
      closed : t.phase ≡ Open → ⊥
      closed e = false≢true (sym (ap is_aborting e) ∙ p)
  hop_turn (decides about p q is) = quiet_hops _ is refl (inr (inl verifying_no))
  hop_turn (aborts w why gives some is) = quiet_hops _ is
      (entering_of is_hopless tx (hopless_part tx) s.node s.layout w _)
      (inr (inl (entered_closed w _ (aborting_no why _ _))))
  hop_turn (gives_up w why gives is none) = quiet_hops _ is (end_hopless why (abort.is_verifying w.phase)) (inl refl)
  hop_turn (aborted at why v k about p low is) = quiet_hops _ is refl (inr (inl (aborting_no why v _)))
  hop_turn (abort_ends at why v k about p low is) = quiet_hops _ is (end_hopless why v) (inl refl)
  hop_turn (commits epoch about p is) = quiet_hops _ is
      (entering_of is_hopless tx (hopless_part tx) s.node s.layout t _)
      (inr (inl (entered_closed t _ (committing_no _ _))))
  hop_turn (committed epoch k p is) = quiet_hops _ is refl (inr (inl (committing_no _ _)))
  hop_turn (completes epoch p is) = quiet_hops _ is (entering_of is_hopless tx (hopless_part tx) s.node s.layout t _)
      (inr (inl (entered_closed t _ (completing_no _ _))))
  hop_turn (ends epoch p is) = quiet_hops _ is refl (inl refl)
  hop_turn (completed epoch k p is) = quiet_hops _ is refl (inr (inl (completing_no _ _)))
  hop_turn (all_completed epoch k p is) = quiet_hops _ is refl (inl refl)

  -- one that is decided stays so
  back_same : (other : Turn) → turn ≡ other → other.step.state.phase ≡ t.phase
      → (is_decided t.phase ≡ false → are_of (is_back tx) other.step.effects.sends ≡ true) → BackTurn
  back_same other is same kind = record {
    undecided = λ over off. let was = ap is_decided (sym same) ∙ (sym (ap is_decided (phase_is other is)) ∙ off) in
        (was, ap (λ (x : Turn). are_of (is_back tx) x.step.effects.sends) is ∙ kind was);
  }

  back_from : (other : Turn) → turn ≡ other → is_decided t.phase ≡ false
      → are_of (is_back tx) other.step.effects.sends ≡ true → BackTurn
  back_from other is was kind = record {
    undecided = λ over off. (was, ap (λ (x : Turn). are_of (is_back tx) x.step.effects.sends) is ∙ kind);
  }

  back_never : (other : Turn) → turn ≡ other → (is_decided other.step.state.phase ≡ true) ⊎ (other.over ≡ true)
      → BackTurn
  back_never other is (inl on) = record {
    undecided = λ over off. absurd (false≢true (sym off ∙ (ap is_decided (phase_is other is) ∙ on)));
  }
  back_never other is (inr o) = record { undecided = λ over off. over_not turn other is o over }

  given_undecided : (w : Transaction) → GivesUp t body w → is_decided t.phase ≡ false
  given_undecided w (asked_to (inl p) other about is) = ap is_decided p
  given_undecided w (asked_to (inr p) other about is) = ap is_decided p
  given_undecided w (refused other at why asked p about on is) = ap is_decided p

  pub back_turn : TurnMove s tx t body turn → BackTurn
  back_turn (keeps sends is kind missed) =
      back_same _ is refl (λ off. of_kind is_wait_kind (is_back tx) (wait_back tx) sends kind)
  back_turn (goes_on at about low is) =
      back_same _ is refl (λ off. back_parts s.node s.layout tx t.phase t.touched at off)
  back_turn (asks op about p q fit is) = back_same _ is refl (λ off. refl)
  back_turn (answers at a asked about p q is) = back_same _ is refl (λ off. refl)
  back_turn (late at asked about p q is) = back_from _ is (aborting_apart t.phase p)
      (of_map (is_back tx) (abort_of tx at) (chain_of s.layout at) (λ r. refl))
  back_turn (decides about p q is) = back_from _ is (ap is_decided p) refl
  back_turn (aborts w why gives some is) =
      back_from _ is (given_undecided w gives) (back_entering s.node s.layout tx w _ refl)
  back_turn (gives_up w why gives is none) = back_never _ is (inr refl)
  back_turn (aborted at why v k about p low is) = back_from _ is (ap is_decided p) refl
  back_turn (abort_ends at why v k about p low is) = back_never _ is (inr refl)
  back_turn (commits epoch about p is) = back_never _ is (inl (ap is_decided (entered_phase s.node s.layout tx t _)))
  back_turn (committed epoch k p is) = back_never _ is (inl refl)
  back_turn (completes epoch p is) = back_never _ is (inl (ap is_decided (entered_phase s.node s.layout tx t _)))
  back_turn (ends epoch p is) = back_never _ is (inr refl)
  back_turn (completed epoch k p is) = back_never _ is (inl refl)
  back_turn (all_completed epoch k p is) = back_never _ is (inr refl)
