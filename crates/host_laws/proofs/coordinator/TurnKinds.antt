-- What a turn of a transaction sends is of a kind that has each form of signal of the transaction.
use Rattle.std.proofs.Common.{◌≡◌, ℕ, Bool, true, false, List, [], ◌∷◌, refl}
use Rattle.std.specs.Prelude.{None}
use Rattle.sig_core.specs.declared.member.Member.{Member}
use Rattle.sig_core.specs.declared.member.TxId.{TxId}
use Rattle.sig_core.specs.declared.op.Answer.{Answer}
use Rattle.sig_core.specs.declared.op.Op.{Op}
use Rattle.sig_core.specs.declared.outcome.AbortCause.{AbortCause}
use Rattle.sig_core.specs.declared.signal.Body.{Body}
use Rattle.sig_core.specs.declared.signal.Body.TheVariants.{Client, Chain, Epoch}
use Rattle.sig_core.specs.declared.signal.chain.ChainSignal.TheVariants.{LqhKeyReq, LqhKeyConf}
use Rattle.sig_core.specs.declared.signal.chain.RowWork.TheVariants.{Operate}
use Rattle.sig_core.specs.declared.signal.client.ClientSignal.TheVariants.{LqhWaitReq, TcCommitConf, TcKeyConf}
use Rattle.sig_core.specs.declared.signal.client.ClientSignal.TheVariants.{TcRollbackRep}
use Rattle.sig_core.specs.declared.signal.epoch.EpochSignal.TheVariants.{DiVerifyEnd, DiVerifyReq}
use Rattle.frag_map.specs.Layout.{Layout}
use Rattle.sig_core.specs.Op.{key_of}
use Rattle.tc_block.specs.Abort as abort
use Rattle.frag_map.specs.Layout.{chain_of}
use Rattle.tc_block.specs.declared.phase.Phase.{Phase}
use Rattle.tc_block.specs.declared.phase.Phase.TheVariants.{Open, Verifying, Committing, Completing, Aborting}
use Rattle.tc_block.specs.declared.transaction.Transaction.{Transaction}
use Rattle.tc_block.specs.Sends.{entering, front_sends, reported, verify_end, wait_of}
use Rattle.tc_block.specs.Turn.{Turn, asking}
use Rattle.tc_block.proofs.EachTurn.{AbortForms, CommittedForms, RowsAre, TurnForms, rows_of}
use Rattle.host_laws.proofs.coordinator.PhaseSends.{HasChains, aborts_of_kind, entering_of_kind, rest_of_kind}
use Rattle.host_laws.proofs.hosts.SendKinds.{SendsOnly, are_of, of_each, of_map, one_kind}

-- the kind has what a coordinator sends of the transaction at this signal
pub record OwnKinds (tx : TxId) (kind : Body → Bool) (body : Body) : Type 0 where
  pub chains : HasChains tx kind
  pub operates : (op : Op) (chain : List Member) → kind (Chain (LqhKeyReq tx (Operate op) chain 0)) ≡ true
  pub answers : (key : List ℕ) (answer : Answer) → body ≡ Chain (LqhKeyConf tx key answer)
      → kind (Client (TcKeyConf tx answer)) ≡ true
  pub waits : (key : List ℕ) → kind (Client (LqhWaitReq tx key)) ≡ true
  pub verifies : (ops : List (Op × Answer)) → kind (Epoch (DiVerifyReq tx ops)) ≡ true
  pub verified : kind (Epoch (DiVerifyEnd tx)) ≡ true
  pub committed : (epoch : ℕ) → kind (Client (TcCommitConf tx epoch)) ≡ true
  pub rolled_back : (why : AbortCause) → kind (Client (TcRollbackRep tx why)) ≡ true

-- a turn that sends no others
abbrev pub TurnOnly : (Body → Bool) → Turn → Type 0
TurnOnly kind turn = SendsOnly kind turn.step

module _ (kind : Body → Bool) (tx : TxId) (body : Body) (own : OwnKinds tx kind body) (node : ℕ) (layout : Layout) where
  fronts : (phase : Phase) → are_of kind (front_sends tx phase) ≡ true
  unfolding front_sends
  fronts (Completing epoch awaited) = one_kind (kind (Client (TcCommitConf tx epoch))) (own.committed epoch)
  fronts (Committing epoch awaited) = refl
  fronts (Aborting why verifying awaited) = refl
  fronts Open = refl
  fronts Verifying = refl

  enters : (t : Transaction) (phase : Phase) → SendsOnly kind (entering node layout tx t phase)
  enters t phase = entering_of_kind kind layout tx own.chains node t phase (fronts phase)

  abort_ends : (why : AbortCause) (verifying : Bool) → are_of kind (abort.abort_end node tx why verifying) ≡ true
  abort_ends why true = of_each kind (abort.abort_end node tx why true) (own.verified, (own.rolled_back why, tt))
  abort_ends why false = one_kind (kind (Client (TcRollbackRep tx why))) (own.rolled_back why)

  aborts : (t : Transaction) (why : AbortCause) → AbortForms node layout tx t why (TurnOnly kind)
  aborts t why = record { enters = λ some. enters t _; ends = λ none. abort_ends why (abort.is_verifying t.phase) }

  commits : (t : Transaction) (epoch : ℕ) → CommittedForms node layout tx t epoch (TurnOnly kind)
  commits t epoch = record {
    enters = λ some. enters t _;
    ends = λ none. of_each kind (reported tx epoch ∷ verify_end node tx ∷ [])
        (own.committed epoch, (own.verified, tt));
  }

  -- so is each form of turn
  pub own_forms : (t : Transaction) → TurnForms node layout tx t body (TurnOnly kind)
  own_forms t = record {
    stays = refl;
    goes_on = λ at. rest_of_kind kind layout tx own.chains node t at (fronts t.phase);
    operates = λ op is can. one_kind (kind (Chain (LqhKeyReq tx (Operate op) (chain_of layout (key_of op)) 0)))
        (own.operates op (chain_of layout (key_of op)));
    answers = λ key answer asked is on at. one_kind (kind (Client (TcKeyConf tx answer))) (own.answers key answer is);
    late = λ key asked why verifying awaited on at. aborts_of_kind kind layout tx own.chains key (chain_of layout key);
    waits = λ asked on. of_map kind (wait_of tx (key_of asked.op)) asked.chain (λ r. own.waits (key_of asked.op));
    decides = λ is ready. one_kind (kind (Epoch (DiVerifyReq tx t.ops))) (own.verifies t.ops);
    commits = λ epoch is at some. enters t _;
    commits_none = λ epoch is at. commits t epoch;
    committed = λ epoch awaited at more. refl;
    committed_all = λ epoch awaited at. commits t epoch;
    completed = λ epoch awaited at more. refl;
    completed_all = λ epoch awaited at last. one_kind (kind (Epoch (DiVerifyEnd tx))) own.verified;
    rolls_back = λ is undecided unaborted. aborts t _;
    refuses = λ key why asked is on at. aborts (asking t None) why;
    aborted = λ why verifying awaited at more. refl;
    aborted_all = λ why verifying awaited at last. abort_ends why verifying;
  }

  -- and what the transaction does by the row of the signal
  pub own_kinds : (t : Transaction) → RowsAre node layout tx t body (TurnOnly kind)
  own_kinds t = rows_of node layout tx t body (TurnOnly kind) (own_forms t)
