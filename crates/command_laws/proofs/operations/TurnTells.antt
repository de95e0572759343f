-- In one turn a transaction answers an operation and is firm then, or reports its abort and is over.
use Rattle.std.proofs.Common.{◌≡◌, ◌⊎◌, ℕ, Bool, true, false, [], refl, ap, inl, inr}
use Rattle.std.specs.Prelude.{◌==◌, None, Some}
use Rattle.sig_core.specs.declared.member.TxId.{TxId}
use Rattle.sig_core.specs.declared.outcome.AbortCause.{AbortCause}
use Rattle.sig_core.specs.declared.place.Place.{Place}
use Rattle.sig_core.specs.declared.signal.Body.{Body}
use Rattle.sig_core.specs.declared.signal.Body.TheVariants.{Client}
use Rattle.sig_core.specs.declared.signal.client.ClientSignal.TheVariants.{TcKeyConf}
use Rattle.frag_map.specs.Layout.{Layout}
use Rattle.sig_core.specs.Op.{key_of}
use Rattle.tc_block.specs.declared.phase.Phase.{Phase}
use Rattle.tc_block.specs.declared.phase.Phase.TheVariants.{Open, Verifying, Committing, Completing, Aborting}
use Rattle.tc_block.specs.declared.transaction.Transaction.{Transaction}
use Rattle.tc_block.specs.Abort as abort
use Rattle.frag_map.specs.Layout.{chain_of}
use Rattle.tc_block.specs.Operate as operate
use Rattle.tc_block.specs.Sends.{entering, front_sends, go_on_if, wait_of}
use Rattle.tc_block.specs.State.{TcState}
use Rattle.tc_block.specs.Turn.{Turn, asking, going}
use Rattle.tc_block.proofs.EachTurn.{AbortForms, CommittedForms, TurnForms}
use Rattle.host_laws.proofs.hosts.SendKinds.{are_of, is_keyless, none_of, of_map}
use Rattle.host_laws.proofs.coordinator.Keyless as keyless
use Rattle.host_laws.proofs.coordinator.Keys.{answer_of, is_answer}
use Rattle.host_laws.proofs.api.Wishes.{and_false, is_api, sends_of, to_node}
use Rattle.command_laws.proofs.ends.Firm.{fronts, has_chains, is_firm, is_no_abort}
use Rattle.command_laws.proofs.ends.FirmHosts.{is_back, no_back_firm}
use Rattle.host_laws.proofs.coordinator.PhaseSends.{HasChains, aborts_of_kind, entering_of_kind, rest_of_kind}
use Rattle.tc_block.proofs.TurnRows.{tx_in, turn_row}
use Rattle.host_laws.proofs.coordinator.Turns.{turn_at}

-- an operation of the transaction is answered to the client
abbrev pub is_reply : TxId → Place → Body → Bool
is_reply tx = to_node 0 (is_answer tx)

-- it is firm then, and goes on
pub record IsFirmThen (turn : Turn) : Type 0 where
  pub goes : turn.over ≡ false
  pub firm : is_firm turn.step.state.phase turn.step.state.asked ≡ true

-- nothing is told by the turn, or no abort and it is firm then, or no answer and it is over
abbrev pub TurnTells : TxId → Turn → Type 0
TurnTells tx turn =
    ((sends_of (is_reply tx) turn.step.effects.sends ≡ 0) × (sends_of (is_back tx) turn.step.effects.sends ≡ 0))
    ⊎ ((sends_of (is_back tx) turn.step.effects.sends ≡ 0) × IsFirmThen turn)
    ⊎ ((sends_of (is_reply tx) turn.step.effects.sends ≡ 0) × (turn.over ≡ true))

module _ (tx : TxId) where
  no_reply_keyless : (to : Place) (body : Body) → is_keyless body ≡ true → is_reply tx to body ≡ false
  no_reply_keyless to body e = and_false (to.node == 0) (is_api to.block) (by body e)
    where
      by : (b : Body) → is_keyless b ≡ true → answer_of tx b ≡ false
      by (Client (TcKeyConf other answer)) k = cc
      by _ k = refl

  -- a turn that sends neither kind
  silent : (turn : Turn) → are_of is_keyless turn.step.effects.sends ≡ true
      → are_of is_no_abort turn.step.effects.sends ≡ true → TurnTells tx turn
  silent turn keys aborts = inl (
    none_of is_keyless (is_reply tx) no_reply_keyless turn.step.effects.sends keys,
    none_of
        is_no_abort (is_back tx) (no_back_firm tx) turn.step.effects.sends aborts,
  )

  keyless_chains : HasChains tx is_keyless
  keyless_chains = record {
    commits =
        λ key epoch chain at. refl;
    completes = λ key chain at. refl;
    aborts = λ key. refl;
    goes_on = λ at. refl;
  }

  front_keyless : (phase : Phase) → are_of is_keyless (front_sends tx phase) ≡ true
  unfolding front_sends
  front_keyless (Completing epoch awaited) = refl
  front_keyless (Committing epoch awaited) = refl
  front_keyless (Aborting cause verifying awaited) = refl
  front_keyless Open = refl
  front_keyless Verifying = refl

  module _ (node : ℕ) (layout : Layout) (t : Transaction) where
    enters : (u : Transaction) (phase : Phase) → TurnTells tx (going (entering node layout tx u phase))
    enters u phase =
        silent (going (entering node layout tx u phase))
        (entering_of_kind is_keyless layout tx keyless_chains node u phase (front_keyless phase))
        (entering_of_kind is_no_abort layout tx (has_chains tx) node u phase (fronts tx phase))

    end_keyless : (why : AbortCause) (verifying : Bool)
        → are_of is_keyless (abort.abort_end node tx why verifying) ≡ true
    end_keyless why true = refl
    end_keyless why false = refl

    over_by : (u : Transaction) (why : AbortCause) (verifying : Bool) → TurnTells tx (record {
      step = record { state = u; effects = record { sends = abort.abort_end node tx why verifying; marks = [] } };
      over = true;
    })
    over_by u why verifying = inr (inr (
      none_of is_keyless (is_reply tx) no_reply_keyless
          (abort.abort_end node tx why verifying) (end_keyless why verifying),
      refl,
    ))

    aborts : (u : Transaction) (why : AbortCause) → AbortForms node layout tx u why (TurnTells tx)
    aborts u why = record { enters = λ some. enters u _; ends = λ none. over_by u why (abort.is_verifying u.phase) }

    commits : (epoch : ℕ) → CommittedForms node layout tx t epoch (TurnTells tx)
    commits epoch = record { enters = λ some. enters t _; ends = λ none. silent _ refl refl }

    turns_tell : (body : Body) → TurnForms node layout tx t body (TurnTells tx)
    turns_tell body = record {
      stays = silent _ refl refl;
      goes_on = λ at.
          silent (going (go_on_if node layout tx t at true))
          (rest_of_kind is_keyless layout tx keyless_chains node t at (front_keyless t.phase))
          (rest_of_kind is_no_abort layout tx (has_chains tx) node t at (fronts tx t.phase));
      operates = λ op is can. silent _ refl refl;
      answers = λ key answer asked is on at. inr (inl (
        refl,
        record {
          goes = refl;
          firm = ap (λ p. is_firm p None) at;
        },
      ));
      late = λ key asked why verifying awaited on at.
          silent (going (operate.late_answer layout tx t key)) (keyless.late_keyless layout tx t key)
          (aborts_of_kind is_no_abort layout tx (has_chains tx) key (chain_of layout key));
      waits = λ asked on.
          silent (going (operate.wait_by tx t (Some asked)))
          (of_map is_keyless (wait_of tx (key_of asked.op)) asked.chain (λ m. refl))
          (of_map is_no_abort (wait_of tx (key_of asked.op)) asked.chain (λ m. refl));
      decides = λ is ready. silent _ refl refl;
      commits = λ epoch is at some. enters t _;
      commits_none = λ epoch is at. commits epoch;
      committed = λ epoch awaited at more. silent _ refl refl;
      committed_all = λ epoch awaited at. commits epoch;
      completed = λ epoch awaited at more. silent _ refl refl;
      completed_all = λ epoch awaited at last. silent _ refl refl;
      rolls_back = λ is undecided unaborted. aborts t _;
      refuses = λ key why asked is on at. aborts (asking t None) why;
      aborted = λ why verifying awaited at more. silent _ refl refl;
      aborted_all = λ why verifying awaited at last. over_by t why verifying;
    }

pub turn_tells : (s : TcState) (tx : TxId) (body : Body) (t : Transaction) → tx_in body ≡ tx
    → TurnTells tx (turn_row s body t)
turn_tells s tx body t same = turn_at s tx body t (TurnTells tx) same (turns_tell tx s.node s.layout t body)
