-- A transaction that is open with no operation unanswered, and that is asked for neither one nor a commit, stays so
-- until it is
-- aborted at the client's request.
use Rattle.std.proofs.Common.{◌≡◌, ℕ, Bool, true, false, refl, sym, ap, ◌∙◌}
use Rattle.sig_core.specs.declared.member.TxId.{TxId}
use Rattle.sig_core.specs.declared.outcome.AbortCause.{AbortCause}
use Rattle.sig_core.specs.declared.outcome.AbortCause.TheVariants.{Request}
use Rattle.sig_core.specs.declared.signal.Body.{Body}
use Rattle.sig_core.specs.declared.signal.Body.TheVariants.{Client}
use Rattle.sig_core.specs.declared.signal.client.ClientSignal.TheVariants.{TcCommitConf, TcKeyReq, TcCommitReq}
use Rattle.sig_core.specs.declared.signal.client.ClientSignal.TheVariants.{TcRollbackReq, TcRollbackRep}
use Rattle.frag_map.specs.Layout.{Layout}
use Rattle.tc_block.specs.Abort as abort
use Rattle.tc_block.specs.declared.phase.Asked.{Asked}
use Rattle.tc_block.specs.declared.phase.Phase.{Phase}
use Rattle.tc_block.specs.declared.phase.Phase.TheVariants.{Open, Verifying, Committing, Completing, Aborting}
use Rattle.tc_block.specs.declared.transaction.Transaction.{Transaction}
use Rattle.tc_block.specs.Sends.{entering, front_sends}
use Rattle.tc_block.specs.State.{TcState}
use Rattle.tc_block.specs.Turn.{Turn}
use Rattle.host_laws.proofs.hosts.SendKinds.{are_of, one_kind}
use Rattle.host_laws.proofs.coordinator.PhaseSends.{HasChains, entering_of_kind, rest_of_kind}
use Rattle.std.specs.Prelude.{◌||◌, if◌then◌else◌, not, None, Some}
use Rattle.std.proofs.lemmas.Bool.{false≢true}
use Rattle.tc_block.specs.Phases.{is_aborting, is_decided}
use Rattle.tc_block.proofs.EachTurn.{IsMissed, TurnFormsAt, rows_at}
use Rattle.tc_block.proofs.TurnRows.{is_turn, turn_by, turn_row, tx_in}

-- the client asked for it
abbrev pub is_requested : AbortCause → Bool
is_requested Request = true
is_requested _ = false

-- all but reports of a commit, or of an abort for another cause
abbrev pub is_mild : Body → Bool
is_mild (Client (TcCommitConf tx epoch)) = false
is_mild (Client (TcRollbackRep tx why)) = is_requested why
is_mild _ = true

-- it is aborted at the client's request, or it is open, unless the abort was asked for already
abbrev pub is_loose : Bool → Phase → Bool
is_loose asked Open = not asked
is_loose asked (Aborting why verifying awaited) = is_requested why
is_loose asked _ = false

-- what may lead elsewhere
abbrev pub is_more : Body → Bool
is_more (Client (TcKeyReq tx op)) = true
is_more (Client (TcCommitReq tx)) = true
is_more _ = false

abbrev pub is_roll : Body → Bool
is_roll (Client (TcRollbackReq tx)) = true
is_roll _ = false

-- after the turn it is so, and no other end of it was reported
pub record StaysLoose (asked : Bool) (turn : Turn) : Type 0 where
  pub phase : turn.over ≡ false → is_loose asked turn.step.state.phase ≡ true
  pub none : turn.step.state.asked ≡ None
  pub sends : are_of is_mild turn.step.effects.sends ≡ true

chains : (tx : TxId) → HasChains tx is_mild
chains tx = record {
  commits = λ key epoch chain at. refl;
  completes = λ key chain at. refl;
  aborts =
      λ key. refl;
  goes_on = λ at. refl;
}

fronts : (c : Bool) (tx : TxId) (phase : Phase) → is_loose c phase ≡ true → are_of is_mild (front_sends tx phase) ≡ true
unfolding front_sends
fronts c tx (Completing epoch awaited) e = cc
fronts c tx (Committing epoch awaited) e = refl
fronts c tx (Aborting why verifying awaited) e = refl
fronts c tx Open e = refl
fronts c tx Verifying e = refl

module _ (c : Bool) (node : ℕ) (layout : Layout) (tx : TxId) (t : Transaction) (fine : is_loose c t.phase ≡ true)
    (none : t.asked ≡ None) where
  not_at : (phase : Phase) → t.phase ≡ phase → is_loose c phase ≡ false → ⊥
  not_at phase is off = let both : false ≡ true = sym off ∙ (ap (is_loose c) (sym is) ∙ fine) in cc

  not_asked : (asked : Asked) → t.asked ≡ Some asked → ⊥
  not_asked asked is = let both : None ≡ Some asked = sym none ∙ is in cc

  not_of : (kind : Body → Bool) (body other : Body) → kind body ≡ false → body ≡ other → kind other ≡ true → ⊥
  not_of kind body other plain is on = let both : true ≡ false = sym on ∙ (ap kind (sym is) ∙ plain) in cc

  ends : (why : AbortCause) (verifying : Bool) → is_requested why ≡ true
      → are_of is_mild (abort.abort_end node tx why verifying) ≡ true
  ends why true e = one_kind (is_requested why) e
  ends why false e = one_kind (is_requested why) e

  -- so it is where nothing changes, unless the abort could begin
  still_loose : (roll : Bool) → (roll ≡ true → (is_decided t.phase || is_aborting t.phase) ≡ true)
      → is_loose (if roll then true else c) t.phase ≡ true
  still_loose false late = fine
  still_loose true late = by t.phase refl (late refl)
    where
      by : (phase : Phase) → t.phase ≡ phase → (is_decided phase || is_aborting phase) ≡ true
          → is_loose true t.phase ≡ true
      by Open is e = absurd cc
      by Verifying is e = absurd cc
      by (Committing epoch awaited) is e = absurd (not_at (Committing epoch awaited) is refl)
      by (Completing epoch awaited) is e = absurd (not_at (Completing epoch awaited) is refl)
      by (Aborting why verifying awaited) is e = ap (is_loose true) is ∙ (ap (is_loose c) (sym is) ∙ fine)

  roll_missed : (body : Body) → IsMissed t body → is_roll body ≡ true
      → (is_decided t.phase || is_aborting t.phase) ≡ true
  roll_missed (Client (TcRollbackReq one)) missed e = missed
  roll_missed _ missed e = absurd cc

  loose_forms : (body : Body) → is_more body ≡ false
      → TurnFormsAt node layout tx t body (StaysLoose (if is_roll body then true else c))
  unfolding entering
  loose_forms body plain = record {
    stays = λ other missed. record {
      phase = λ on. still_loose (is_roll body) (roll_missed body missed);
      none =
          none;
      sends = refl;
    };
    stops = λ at is high. record { phase = λ on. unrolled is refl; none = none; sends = refl };
    goes_on = λ at is low. record {
      phase = λ on. unrolled is refl;
      none = none;
      sends =
          rest_of_kind is_mild layout tx (chains tx) node t at (fronts c tx t.phase fine);
    };
    operates = λ op is can. absurd (not_of is_more body (Client (TcKeyReq tx op)) plain is refl);
    answers = λ key answer asked is own at. absurd (not_asked asked own.is);
    late = λ key asked why verifying awaited is own at. absurd (not_asked asked own.is);
    waits = λ asked is on. absurd (not_asked asked on);
    decides = λ is ready. absurd (not_of is_more body (Client (TcCommitReq tx)) plain is refl);
    commits = λ epoch is at some. absurd (not_at Verifying at refl);
    commits_none = λ epoch is at zero. absurd (not_at Verifying at refl);
    committed = λ key epoch awaited is at more. absurd (not_at (Committing epoch awaited) at refl);
    committed_all = λ key epoch awaited is at last. absurd (not_at (Committing epoch awaited) at refl);
    completed = λ key epoch awaited is at more. absurd (not_at (Completing epoch awaited) at refl);
    completed_all = λ key epoch awaited is at last. absurd (not_at (Completing epoch awaited) at refl);
    rolls_back = λ is undecided unaborted. record {
      enters = λ some. record {
        phase = λ on. refl;
        none = none;
        sends =
            entering_of_kind is_mild layout tx (chains tx) node t
            (Aborting Request (abort.is_verifying t.phase) (abort.aborts_awaited layout t))
            (fronts true tx (Aborting Request (abort.is_verifying t.phase) (abort.aborts_awaited layout t)) refl);
      };
      ends = λ zero. record { phase = λ on. cc; none = none; sends = ends Request (abort.is_verifying t.phase) refl };
    };
    refuses = λ key why asked is own at. absurd (not_asked asked own.is);
    aborted = λ key why verifying awaited is at more.
        record { phase = λ on. ap (is_loose c) (sym at) ∙ fine; none = none; sends = refl };
    aborted_all = λ key why verifying awaited is at last.
        record { phase = λ on. cc; none = none; sends = ends why verifying (ap (is_loose c) (sym at) ∙ fine) };
  }
    where
      unrolled : {b : Body} → body ≡ b → is_roll b ≡ false → is_loose (if is_roll body then true else c) t.phase ≡ true
      unrolled is off = still_loose (is_roll body) (λ on. absurd (false≢true (sym (ap is_roll is ∙ off) ∙ on)))

pub loose_turn : (c : Bool) (s : TcState) (tx : TxId) (body : Body) (t : Transaction) → tx_in body ≡ tx
    → is_more body ≡ false
    → is_loose c t.phase ≡ true → t.asked ≡ None → StaysLoose (if is_roll body then true else c) (turn_row s body t)
loose_turn c s tx body t same plain fine none =
    turn_by s t (StaysLoose (if is_roll body then true else c)) body
    (rows_at s.node s.layout (tx_in body) t body (StaysLoose (if is_roll body then true else c))
    (loose_forms c s.node s.layout (tx_in body) t fine none body plain))
    (λ off. record { phase = λ on. still body off; none = none; sends = refl })
  where
    still : (b : Body) → is_turn b ≡ false → is_loose (if is_roll b then true else c) t.phase ≡ true
    still (Client (TcRollbackReq one)) off = absurd cc
    still _ off = fine
