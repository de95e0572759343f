-- A transaction whose abort the client asked for stays so at its coordinator, whatever comes, and no other end and no
-- answer is told. One that has an operation unanswered is open, or its abort was asked for.
use Rattle.std.proofs.Common.{◌≡◌, ◌-◌, ℕ, Bool, true, false, refl, sym, ap, ◌∙◌}
use Rattle.std.specs.Prelude.{◌||◌, not, Option, None, Some}
use Rattle.std.proofs.lemmas.Bool.{false≢true}
use Rattle.sig_core.specs.declared.member.Member.{Member}
use Rattle.sig_core.specs.declared.member.TxId.{TxId}
use Rattle.sig_core.specs.declared.outcome.AbortCause.{AbortCause}
use Rattle.sig_core.specs.declared.outcome.AbortCause.TheVariants.{Request}
use Rattle.sig_core.specs.declared.signal.Body.{Body}
use Rattle.sig_core.specs.declared.signal.Body.TheVariants.{Chain, Client}
use Rattle.sig_core.specs.declared.signal.chain.ChainSignal.TheVariants.{LqhKeyConf, LqhKeyRef}
use Rattle.sig_core.specs.declared.signal.client.ClientSignal.TheVariants.{TcCommitConf, TcKeyConf, TcKeyReq}
use Rattle.sig_core.specs.declared.signal.client.ClientSignal.TheVariants.{TcCommitReq, TcRollbackReq, TcRollbackRep}
use Rattle.sig_core.specs.declared.signal.client.ClientSignal.TheVariants.{TcWaitReq}
use Rattle.sig_core.specs.Op.{key_of}
use Rattle.frag_map.specs.Layout.{Layout, chain_of}
use Rattle.tc_block.specs.Abort as abort
use Rattle.tc_block.specs.declared.phase.Asked.{Asked}
use Rattle.tc_block.specs.declared.phase.Phase.{Phase}
use Rattle.tc_block.specs.declared.phase.Phase.TheVariants.{Open, Verifying, Committing, Completing, Aborting}
use Rattle.tc_block.specs.declared.transaction.Transaction.{Transaction}
use Rattle.tc_block.specs.Operate.{is_ready}
use Rattle.tc_block.specs.Phases.{is_aborting, is_decided}
use Rattle.tc_block.specs.Sends.{entering, front_sends, wait_of}
use Rattle.tc_block.specs.State.{TcState}
use Rattle.tc_block.specs.Turn.{Turn}
use Rattle.tc_block.proofs.EachTurn.{IsMissed, TurnFormsAt, ready_is, rows_at}
use Rattle.tc_block.proofs.TurnRows.{is_turn, turn_by, turn_row, tx_in}
use Rattle.host_laws.proofs.rows.Operations.{left_of}
use Rattle.host_laws.proofs.coordinator.PhaseSends.{HasChains, aborts_of_kind, entering_of_kind, rest_of_kind}
use Rattle.host_laws.proofs.hosts.SendKinds.{are_of, of_map, one_kind}
use Rattle.command_laws.proofs.ends.AbortTurns.{is_loose, is_requested, is_roll}

-- all but answers, and reports of a commit, or of an abort for another cause
abbrev pub is_meek : Body → Bool
is_meek (Client (TcKeyConf tx answer)) = false
is_meek (Client (TcCommitConf tx epoch)) = false
is_meek (Client (TcRollbackRep tx why)) = is_requested why
is_meek _ = true

-- after the turn it is aborted at the client's request, and nothing else was told of it
pub record StaysRolled (turn : Turn) : Type 0 where
  pub phase : turn.over ≡ false → is_loose true turn.step.state.phase ≡ true
  pub sends : are_of is_meek turn.step.effects.sends ≡ true

chains : (tx : TxId) → HasChains tx is_meek
chains tx = record {
  commits = λ key epoch chain at. refl;
  completes = λ key chain at. refl;
  aborts = λ key. refl;
  goes_on = λ at. refl;
}

fronts : (c : Bool) (tx : TxId) (phase : Phase) → is_loose c phase ≡ true → are_of is_meek (front_sends tx phase) ≡ true
unfolding front_sends
fronts c tx (Completing epoch awaited) e = cc
fronts c tx (Committing epoch awaited) e = refl
fronts c tx (Aborting why verifying awaited) e = refl
fronts c tx Open e = refl
fronts c tx Verifying e = refl

-- At the wish for the abort it is open, or aborted at the client's request; at any other signal the latter.
module _ (node : ℕ) (layout : Layout) (tx : TxId) (t : Transaction) (body : Body)
    (fine : is_loose (not (is_roll body)) t.phase ≡ true) where
  not_at : (phase : Phase) → t.phase ≡ phase → is_loose (not (is_roll body)) phase ≡ false → ⊥
  not_at phase is off =
      false≢true (sym off ∙ (ap (is_loose (not (is_roll body))) (sym is) ∙ fine))

  not_open : (b : Body) → body ≡ b → is_roll b ≡ false → t.phase ≡ Open → ⊥
  not_open b is off at = not_at Open at (ap (λ r. not (not r)) (ap is_roll is ∙ off))

  requested : (why : AbortCause) (verifying : Bool) (awaited : ℕ) → t.phase ≡ Aborting why verifying awaited
      → is_requested why ≡ true
  requested why verifying awaited at = ap (is_loose (not (is_roll body))) (sym at) ∙ fine

  ends : (why : AbortCause) (verifying : Bool) → is_requested why ≡ true
      → are_of is_meek (abort.abort_end node tx why verifying) ≡ true
  ends why true e = one_kind (is_requested why) e
  ends why false e = one_kind (is_requested why) e

  -- where it isn't open, or the abort would have begun
  still : (is_roll body ≡ true → (is_decided t.phase || is_aborting t.phase) ≡ true)
      → is_loose true t.phase ≡ true
  still late = by t.phase refl
    where
      at_open : t.phase ≡ Open → (b : Bool) → is_roll body ≡ b → ⊥
      at_open is true on =
          false≢true (ap (λ p. is_decided p || is_aborting p) (sym is) ∙ late on)
      at_open is false off = not_at Open is (ap (λ r. not (not r)) off)

      by : (phase : Phase) → t.phase ≡ phase → is_loose true t.phase ≡ true
      by Open is = absurd (at_open is (is_roll body) refl)
      by Verifying is = absurd (not_at Verifying is refl)
      by (Committing epoch awaited) is = absurd (not_at (Committing epoch awaited) is refl)
      by (Completing epoch awaited) is = absurd (not_at (Completing epoch awaited) is refl)
      by (Aborting why verifying awaited) is = ap (is_loose true) is ∙ requested why verifying awaited is

  missed_late : (b : Body) → IsMissed t b → is_roll b ≡ true → (is_decided t.phase || is_aborting t.phase) ≡ true
  missed_late (Client (TcRollbackReq one)) missed e = missed
  missed_late _ missed e = absurd (false≢true e)

  unrolled : (b : Body) → body ≡ b → is_roll b ≡ false → is_loose true t.phase ≡ true
  unrolled b is off = still (λ on. absurd (false≢true (sym (ap is_roll is ∙ off) ∙ on)))

  rolled_forms : TurnFormsAt node layout tx t body StaysRolled
  unfolding entering
  rolled_forms = record {
    stays = λ other missed. record { phase = λ on. still (missed_late body missed); sends = refl };
    stops = λ at is high. record { phase = λ on. unrolled _ is refl; sends = refl };
    goes_on = λ at is low. record {
      phase = λ on. unrolled _ is refl;
      sends = rest_of_kind is_meek layout tx (chains tx) node t at
          (fronts (not (is_roll body)) tx t.phase fine);
    };
    operates = λ op is can.
        absurd (not_open (Client (TcKeyReq tx op)) is refl (ready_is t.phase t.asked
        (left_of (is_ready t.phase t.asked) _ can)).0);
    answers = λ key answer asked is own at. absurd (not_open (Chain (LqhKeyConf tx key answer)) is refl at);
    late = λ key asked why verifying awaited is own at. record {
      phase = λ on. ap (is_loose true) at ∙ requested why verifying awaited at;
      sends = aborts_of_kind is_meek layout tx (chains tx) key (chain_of layout key);
    };
    waits = λ asked is on. record {
      phase = λ on_it. unrolled (Client (TcWaitReq tx)) is refl;
      sends = of_map is_meek (wait_of tx (key_of asked.op)) asked.chain (λ (m : Member). refl);
    };
    decides = λ is ready. absurd (not_open (Client (TcCommitReq tx)) is refl (ready_is t.phase t.asked ready).0);
    commits = λ epoch is at some. absurd (not_at Verifying at refl);
    commits_none = λ epoch is at zero. absurd (not_at Verifying at refl);
    committed = λ key epoch awaited is at more. absurd (not_at (Committing epoch awaited) at refl);
    committed_all = λ key epoch awaited is at last. absurd (not_at (Committing epoch awaited) at refl);
    completed = λ key epoch awaited is at more. absurd (not_at (Completing epoch awaited) at refl);
    completed_all = λ key epoch awaited is at last. absurd (not_at (Completing epoch awaited) at refl);
    rolls_back = λ is undecided unaborted. record {
      enters = λ some. record {
        phase = λ on. refl;
        sends =
            entering_of_kind is_meek layout tx (chains tx) node t
            (Aborting Request (abort.is_verifying t.phase) (abort.aborts_awaited layout t))
            (fronts true tx (Aborting Request (abort.is_verifying t.phase) (abort.aborts_awaited layout t)) refl);
      };
      ends = λ zero. record { phase = λ on. cc; sends = ends Request (abort.is_verifying t.phase) refl };
    };
    refuses = λ key why asked is own at. absurd (not_open (Chain (LqhKeyRef tx key why)) is refl at);
    aborted = λ key why verifying awaited is at more.
        record { phase = λ on. requested why verifying awaited at; sends = refl };
    aborted_all = λ key why verifying awaited is at last.
        record { phase = λ on. cc; sends = ends why verifying (requested why verifying awaited at) };
  }

roll_is_turn : (body : Body) → is_roll body ≡ true → is_turn body ≡ true
roll_is_turn (Client (TcRollbackReq tx)) e = refl
roll_is_turn _ e = cc

pub rolled_turn : (s : TcState) (body : Body) (t : Transaction) → is_loose (not (is_roll body)) t.phase ≡ true
    → StaysRolled (turn_row s body t)
rolled_turn s body t fine =
    turn_by s t StaysRolled body
    (rows_at s.node s.layout (tx_in body) t body StaysRolled (rolled_forms s.node s.layout (tx_in body) t body fine))
    (λ off. record {
      phase = λ on. still s.node s.layout (tx_in body) t body fine
          (λ roll. absurd (false≢true (sym off ∙ roll_is_turn body roll)));
      sends = refl;
    })

-- one that has an operation unanswered is open, or aborted at the client's request
abbrev pub is_wished : Option Asked → Phase → Bool
is_wished None phase = true
is_wished (Some asked) phase = is_loose false phase

abbrev pub IsWished : Transaction → Type 0
IsWished t = is_wished t.asked t.phase ≡ true

abbrev StaysWished : Turn → Type 0
StaysWished turn = turn.over ≡ false → IsWished turn.step.state

at_request : (o : Option Asked) (verifying : Bool) (awaited : ℕ)
    → is_wished o (Aborting Request verifying awaited) ≡ true
at_request None verifying awaited = refl
at_request (Some asked) verifying awaited = refl

-- in a phase in which none is unanswered
shut : (o : Option Asked) (phase other : Phase) → is_loose false phase ≡ false → is_wished o phase ≡ true
    → is_wished o other ≡ true
shut None phase other off e = refl
shut (Some asked) phase other off e = absurd (false≢true (sym off ∙ e))

fewer : (o : Option Asked) (why : AbortCause) (verifying : Bool) (more less : ℕ)
    → is_wished o (Aborting why verifying more) ≡ true → is_wished o (Aborting why verifying less) ≡ true
fewer None why verifying more less e = refl
fewer (Some asked) why verifying more less e = e

module _ (node : ℕ) (layout : Layout) (tx : TxId) (t : Transaction) (body : Body) (was : IsWished t) where
  wished_at : (phase : Phase) → t.phase ≡ phase → is_wished t.asked phase ≡ true
  wished_at phase at = ap (is_wished t.asked) (sym at) ∙ was

  shut_at : (phase other : Phase) → t.phase ≡ phase → is_loose false phase ≡ false → is_wished t.asked other ≡ true
  shut_at phase other at off = shut t.asked phase other off (wished_at phase at)

  wished_forms : TurnFormsAt node layout tx t body StaysWished
  unfolding entering
  wished_forms = record {
    stays = λ other missed on. was;
    stops = λ at is high on. was;
    goes_on = λ at is low on. was;
    operates =
        λ op is can on. ap (is_loose false) (ready_is t.phase t.asked (left_of (is_ready t.phase t.asked) _ can)).0;
    answers = λ key answer asked is own at on. refl;
    late = λ key asked why verifying awaited is own at on. refl;
    waits = λ asked is on over. was;
    decides = λ is ready on. ap (λ o. is_wished o Verifying) (ready_is t.phase t.asked ready).1;
    commits = λ epoch is at some on. shut_at Verifying _ at refl;
    commits_none = λ epoch is at zero.
        record { enters = λ some on. shut_at Verifying _ at refl; ends = λ none on. cc };
    committed = λ key epoch awaited is at more on. shut_at (Committing epoch awaited) _ at refl;
    committed_all = λ key epoch awaited is at last.
        record { enters = λ some on. shut_at (Committing epoch awaited) _ at refl; ends = λ none on. cc };
    completed = λ key epoch awaited is at more on. shut_at (Completing epoch awaited) _ at refl;
    completed_all = λ key epoch awaited is at last on. cc;
    rolls_back = λ is undecided unaborted. record {
      enters = λ some on. at_request t.asked (abort.is_verifying t.phase) (abort.aborts_awaited layout t);
      ends = λ zero on. cc;
    };
    refuses = λ key why asked is own at. record { enters = λ some on. refl; ends = λ zero on. cc };
    aborted = λ key why verifying awaited is at more on.
        fewer t.asked why verifying awaited (awaited - 1) (wished_at (Aborting why verifying awaited) at);
    aborted_all = λ key why verifying awaited is at last on. cc;
  }

pub wished_turn : (s : TcState) (body : Body) (t : Transaction) → IsWished t → StaysWished (turn_row s body t)
wished_turn s body t was =
    turn_by s t StaysWished body
    (rows_at s.node s.layout (tx_in body) t body StaysWished (wished_forms s.node s.layout (tx_in body) t body was))
    (λ off on. was)
