-- A turn after which a transaction is open: it is asked for an operation, or that is answered, or all is as before.
use Rattle.std.proofs.Common.{◌≡◌, ◌⊎◌, ℕ, ◌+◌, ◌-◌, List, length, Bool, true, false, refl, ap, sym, ◌∙◌, arith, inl}
use Rattle.std.proofs.Common.{inr}
use Rattle.std.specs.Prelude.{◌==◌, ◌&&◌, is_some, None}
use Rattle.std.proofs.lemmas.Bool.{false≢true}
use Rattle.sig_core.specs.declared.member.TxId.{TxId}
use Rattle.sig_core.specs.declared.outs.Outgoing.{Outgoing}
use Rattle.sig_core.specs.declared.signal.Body.{Body}
use Rattle.sig_core.specs.declared.signal.Body.TheVariants.{Client}
use Rattle.sig_core.specs.declared.signal.client.ClientSignal.TheVariants.{TcKeyConf, TcCommitReq}
use Rattle.sig_core.specs.Chain.{node_at}
use Rattle.sig_core.specs.Op.{key_of}
use Rattle.sig_core.specs.Same.{same_tx}
use Rattle.tc_block.specs.declared.phase.Phase.{Phase}
use Rattle.tc_block.specs.declared.phase.Phase.TheVariants.{Open, Verifying, Committing, Completing, Aborting}
use Rattle.tc_block.specs.declared.transaction.Transaction.{Transaction}
use Rattle.tc_block.specs.Abort.{aborts_awaited, is_verifying}
use Rattle.frag_map.specs.Layout.{chain_of}
use Rattle.tc_block.specs.Complete.{written_count}
use Rattle.tc_block.specs.State.{TcState}
use Rattle.tc_block.specs.Turn.{Turn}
use Rattle.sig_core.proofs.Keys.{same_tx-self}
use Rattle.host_laws.proofs.hosts.PartKinds.{IsPartKind, parts_of}
use Rattle.host_laws.proofs.hosts.SendKinds.{is_keyless, of_kind}
use Rattle.run_theory.specs.Counts.{one_if}
use Rattle.host_laws.proofs.coordinator.Keys.{answers_in, key_of_tx, no_answers}
use Rattle.tc_block.proofs.EachTurn.{IsMissed}
use Rattle.host_laws.proofs.coordinator.Turns.{abort_ends, aborted, aborts, all_completed, answers, asks, commits}
use Rattle.host_laws.proofs.coordinator.Turns.{committed, completed, completes, decides, ends, entered_phase, gives_up}
use Rattle.host_laws.proofs.coordinator.Turns.{goes_on, is_wait_kind, keeps, late, over_not, TurnMove}
use Rattle.tc_block.specs.Phases.{is_aborting}

abbrev pub commit_body : TxId → Body → Bool
commit_body tx (Client (TcCommitReq other)) = same_tx other tx
commit_body tx _ = false

-- Its operation and the answers that it sends: as before, and why; it was asked for one; or its answer was passed on.
pub data OpenTurn (tx : TxId) (t : Transaction) (body : Body) (u : Transaction) (sends : List Outgoing) : Type 0 where
  stays_open : u.asked ≡ t.asked → answers_in tx sends ≡ 0
      → IsMissed t body ⊎ ((key_of_tx tx body ≡ false) × (commit_body tx body ≡ false)) → OpenTurn tx t body u sends
  is_asked : key_of_tx tx body ≡ true → commit_body tx body ≡ false → t.asked ≡ None → is_some u.asked ≡ true
      → answers_in tx sends ≡ 0 → OpenTurn tx t body u sends
  is_told : key_of_tx tx body ≡ false → commit_body tx body ≡ false → is_some t.asked ≡ true → u.asked ≡ None
      → answers_in tx sends ≡ 1 → OpenTurn tx t body u sends

wait_keyless : (b : Body) → is_wait_kind b ≡ true → is_keyless b ≡ true
wait_keyless (Client (TcKeyConf other answer)) e = absurd (false≢true e)
wait_keyless _ e = refl

part_keyless : (tx : TxId) → IsPartKind is_keyless tx
part_keyless tx = record {
  commit = λ key epoch chain at. refl;
  complete = λ key chain at. refl;
  abort = λ key. refl;
  cont = λ at. refl;
  report = λ epoch. refl;
}

module _ (s : TcState) (tx : TxId) (t : Transaction) (body : Body) (turn : Turn) where
  other_phase : {A : Type 0} (other : Turn) (phase : Phase) → turn ≡ other → other.step.state.phase ≡ phase
      → (phase ≡ Open → ⊥) → turn.step.state.phase ≡ Open → A
  other_phase other phase is p differs e =
      absurd (differs (sym p ∙ (sym (ap (λ (x : Turn). x.step.state.phase) is) ∙ e)))

  aborting_no : (other : Phase) → is_aborting other ≡ true → other ≡ Open → ⊥
  aborting_no other a e = false≢true (sym (ap is_aborting e) ∙ a)

  committing_no : (epoch k : ℕ) → Committing epoch k ≡ Open → ⊥
  committing_no epoch k e = cc

  completing_no : (epoch k : ℕ) → Completing epoch k ≡ Open → ⊥
  completing_no epoch k e = cc

  verifying_no : Verifying ≡ Open → ⊥
  verifying_no e = cc

  pub open_turn : TurnMove s tx t body turn → turn.over ≡ false → turn.step.state.phase ≡ Open
      → (t.phase ≡ Open) × OpenTurn tx t body turn.step.state turn.step.effects.sends
  open_turn move over is_open = go move
    where
      asked_of : (other : Turn) → turn ≡ other → turn.step.state.asked ≡ other.step.state.asked
      asked_of other is = ap (λ (x : Turn). x.step.state.asked) is

      answers_of : (other : Turn) → turn ≡ other
          → answers_in tx turn.step.effects.sends ≡ answers_in tx other.step.effects.sends
      answers_of other is = ap (λ (x : Turn). answers_in tx x.step.effects.sends) is

      phase_of : (other : Turn) → turn ≡ other → other.step.state.phase ≡ Open
      phase_of other is = sym (ap (λ (x : Turn). x.step.state.phase) is) ∙ is_open

      go : TurnMove s tx t body turn → (t.phase ≡ Open) × OpenTurn tx t body turn.step.state turn.step.effects.sends
      go (keeps sends is kind missed) = (
        phase_of _ is,
        stays_open (asked_of _ is)
            (answers_of _ is ∙ no_answers tx sends (of_kind is_wait_kind is_keyless wait_keyless sends kind))
            (inl missed),
      )
      go (goes_on at about low is) = (
        phase_of _ is,
        stays_open (asked_of _ is)
            (answers_of _ is ∙ no_answers tx _
            (parts_of is_keyless tx (part_keyless tx) s.node s.layout t.phase t.touched at))
            (inr (ap (key_of_tx tx) about, ap (commit_body tx) about)),
      )
      go (asks op about p q fit is) = (
        p,
        is_asked (ap (key_of_tx tx) about ∙ same_tx-self tx) (ap (commit_body tx) about) q
            (ap is_some (asked_of _ is)) (answers_of _ is ∙ none (node_at (chain_of s.layout (key_of op)) 0 == 0)),
      )
        where
          none : (b : Bool) → one_if (b && false) + 0 ≡ 0
          none true = refl
          none false = refl
      go (answers key a asked about p q is) = (
        p,
        is_told (ap (key_of_tx tx) about) (ap (commit_body tx) about) (ap is_some q.is) (asked_of _ is)
            (omega (arith, answers_of _ is, ap one_if (ap (λ b. true && (true && b)) (same_tx-self tx)))),
      )
      go (late key asked about p q is) = absurd (aborting_no t.phase p (phase_of _ is))
      go (decides about p q is) = other_phase _ Verifying is refl verifying_no is_open
      go (aborts w why gives some is) = other_phase _ (Aborting why (is_verifying w.phase) (aborts_awaited s.layout w))
          is (entered_phase s.node s.layout tx w _) (aborting_no _ refl) is_open
      go (gives_up w why gives is none) = over_not turn _ is refl over
      go (aborted key why v k about p low is) =
          other_phase _ (Aborting why v (k - 1)) is refl (aborting_no _ refl) is_open
      go (abort_ends key why v k about p low is) = over_not turn _ is refl over
      go (commits epoch about p is) = other_phase _ (Committing epoch (length t.touched)) is
          (entered_phase s.node s.layout tx t _) (committing_no _ _) is_open
      go (committed epoch k p is) = other_phase _ (Committing epoch (k - 1)) is refl (committing_no _ _) is_open
      go (completes epoch p is) = other_phase _ (Completing epoch (written_count t.touched)) is
          (entered_phase s.node s.layout tx t _) (completing_no _ _) is_open
      go (ends epoch p is) = over_not turn _ is refl over
      go (completed epoch k p is) = other_phase _ (Completing epoch (k - 1)) is refl (completing_no _ _) is_open
      go (all_completed epoch k p is) = over_not turn _ is refl over
