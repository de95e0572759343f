-- A transaction that has no operation unanswered isn't aborted, unless that is asked for or another operation.
use Rattle.std.proofs.Common.{◌≡◌, ℕ, Bool, true, false, refl, sym, ap, ◌∙◌}
use Rattle.std.specs.Prelude.{Option, None, Some}
use Rattle.sig_core.specs.declared.member.TxId.{TxId}
use Rattle.sig_core.specs.declared.outcome.AbortCause.{AbortCause}
use Rattle.sig_core.specs.declared.signal.Body.{Body}
use Rattle.sig_core.specs.declared.signal.Body.TheVariants.{Client}
use Rattle.sig_core.specs.declared.signal.client.ClientSignal.TheVariants.{TcKeyReq, TcRollbackRep, TcRollbackReq}
use Rattle.frag_map.specs.Layout.{Layout}
use Rattle.sig_core.specs.Op.{key_of}
use Rattle.tc_block.specs.declared.phase.Asked.{Asked}
use Rattle.tc_block.specs.declared.phase.Phase.{Phase}
use Rattle.tc_block.specs.declared.phase.Phase.TheVariants.{Open, Verifying, Committing, Completing, Aborting}
use Rattle.tc_block.specs.declared.transaction.Transaction.{Transaction}
use Rattle.tc_block.specs.Sends.{entering, front_sends, wait_of}
use Rattle.tc_block.specs.State.{TcState}
use Rattle.tc_block.specs.Turn.{Turn, going}
use Rattle.tc_block.proofs.EachTurn.{CommittedForms, TurnForms}
use Rattle.host_laws.proofs.hosts.SendKinds.{are_of, of_map}
use Rattle.host_laws.proofs.coordinator.PhaseSends.{HasChains, entering_of_kind, rest_of_kind}
use Rattle.tc_block.proofs.TurnRows.{tx_in, turn_row}
use Rattle.host_laws.proofs.coordinator.Turns.{turn_at}

-- it isn't aborted, and has no operation unanswered while it takes them
abbrev pub is_firm : Phase → Option Asked → Bool
is_firm Open None = true
is_firm Open (Some asked) = false
is_firm (Aborting cause verifying awaited) asked = false
is_firm phase asked = true

-- all but the report of an abort
abbrev pub is_no_abort : Body → Bool
is_no_abort (Client (TcRollbackRep tx cause)) = false
is_no_abort _ = true

-- what may end that: an operation, or the wish for an abort
abbrev pub is_push : Body → Bool
is_push (Client (TcKeyReq tx op)) = true
is_push (Client (TcRollbackReq tx)) = true
is_push _ = false

pub has_chains : (tx : TxId) → HasChains tx is_no_abort
has_chains tx =
    record {
      commits =
          λ key epoch chain at. refl;
      completes = λ key chain at. refl;
      aborts = λ key. refl;
      goes_on = λ at. refl;
    }

pub fronts : (tx : TxId) (phase : Phase) → are_of is_no_abort (front_sends tx phase) ≡ true
unfolding front_sends
fronts tx (Completing epoch awaited) = refl
fronts tx (Committing epoch awaited) = refl
fronts tx (Aborting cause verifying awaited) = refl
fronts tx Open = refl
fronts tx Verifying = refl

-- after the turn it still isn't, and no abort is reported
pub record StaysFirm (turn : Turn) : Type 0 where
  pub firm : is_firm turn.step.state.phase turn.step.state.asked ≡ true
  pub sends : are_of is_no_abort turn.step.effects.sends ≡ true

module _ (node : ℕ) (layout : Layout) (tx : TxId) (t : Transaction) (firm : is_firm t.phase t.asked ≡ true) where
  enters : (phase : Phase) → is_firm phase t.asked ≡ true → StaysFirm (going (entering node layout tx t phase))
  unfolding entering
  enters phase is = record {
    firm = is;
    sends = entering_of_kind is_no_abort layout tx (has_chains tx) node t phase (fronts tx phase);
  }

  commits : (epoch : ℕ) → CommittedForms node layout tx t epoch StaysFirm
  commits epoch = record { enters = λ some. enters _ refl; ends = λ none. record { firm = firm; sends = refl } }

  not_open : (asked : Asked) → t.asked ≡ Some asked → t.phase ≡ Open → ⊥
  not_open asked on at =
      let off : false ≡ true = sym (ap (λ p. is_firm p (Some asked)) at) ∙ (ap (is_firm t.phase) (sym on) ∙ firm) in cc

  not_aborting : (why : AbortCause) (verifying : Bool) (awaited : ℕ) → t.phase ≡ Aborting why verifying awaited → ⊥
  not_aborting why verifying awaited at = let off : false ≡ true = sym (ap (λ p. is_firm p t.asked) at) ∙ firm in cc

  not_pushed : (body push : Body) → is_push body ≡ false → body ≡ push → is_push push ≡ true → ⊥
  not_pushed body push plain is on = let both : true ≡ false = sym on ∙ (ap is_push (sym is) ∙ plain) in cc

  turns_firm : (body : Body) → is_push body ≡ false → TurnForms node layout tx t body StaysFirm
  turns_firm body plain = record {
    stays = record { firm = firm; sends = refl };
    goes_on = λ at. record {
      firm = firm;
      sends = rest_of_kind is_no_abort layout tx (has_chains tx) node t at (fronts tx t.phase);
    };
    operates = λ op is can. absurd (not_pushed body (Client (TcKeyReq tx op)) plain is refl);
    answers = λ key answer asked is on at. absurd (not_open asked on at);
    late = λ key asked why verifying awaited on at. absurd (not_aborting why verifying awaited at);
    waits = λ asked on. record {
      firm = firm;
      sends = of_map is_no_abort (wait_of tx (key_of asked.op)) asked.chain (λ m. refl);
    };
    decides = λ is ready. record { firm = refl; sends = refl };
    commits = λ epoch is at some. enters _ refl;
    commits_none = λ epoch is at. commits epoch;
    committed = λ epoch awaited at more. record { firm = refl; sends = refl };
    committed_all = λ epoch awaited at. commits epoch;
    completed = λ epoch awaited at more. record { firm = refl; sends = refl };
    completed_all = λ epoch awaited at last. record { firm = firm; sends = refl };
    rolls_back = λ is undecided unaborted. absurd (not_pushed body (Client (TcRollbackReq tx)) plain is refl);
    refuses = λ key why asked is on at. absurd (not_open asked on at);
    aborted = λ why verifying awaited at more. absurd (not_aborting why verifying awaited at);
    aborted_all = λ why verifying awaited at last. absurd (not_aborting why verifying awaited at);
  }

pub firm_turn : (s : TcState) (tx : TxId) (body : Body) (t : Transaction) → tx_in body ≡ tx → is_push body ≡ false
    → is_firm t.phase t.asked ≡ true → StaysFirm (turn_row s body t)
firm_turn s tx body t same plain firm =
    turn_at s tx body t StaysFirm same (turns_firm s.node s.layout tx t firm body plain)
