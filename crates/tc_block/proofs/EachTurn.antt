-- What holds of each form of turn that a transaction takes at its coordinator holds of what each row makes it do.
use Rattle.std.proofs.Common.{◌≡◌, ◌⊎◌, ◌==◌, ◌≤◌, ◌∙◌, ℕ, Bool, true, false, List, length, refl, ap, arith, subst, sym}
use Rattle.std.proofs.Common.{inl, inr}
use Rattle.std.specs.Prelude.{◌-◌, ◌||◌, nat_lt, Option, None, Some}
use Rattle.std.proofs.lemmas.Bool.Decides.{nat_tests}
use Rattle.sig_core.specs.declared.member.TxId.{TxId}
use Rattle.sig_core.specs.declared.op.Answer.{Answer}
use Rattle.sig_core.specs.declared.op.Op.{Op}
use Rattle.sig_core.specs.declared.outcome.AbortCause.{AbortCause}
use Rattle.sig_core.specs.declared.outcome.AbortCause.TheVariants as cause
use Rattle.sig_core.specs.declared.signal.Body.{Body}
use Rattle.sig_core.specs.declared.signal.Body.TheVariants.{Host, Client, Chain, Epoch}
use Rattle.sig_core.specs.declared.signal.chain.ChainSignal.TheVariants.{LqhKeyConf, LqhKeyRef, Committed, Completed}
use Rattle.sig_core.specs.declared.signal.chain.ChainSignal.TheVariants.{Aborted}
use Rattle.sig_core.specs.declared.signal.client.ClientSignal.TheVariants.{TcKeyReq, TcKeyConf, TcCommitReq}
use Rattle.sig_core.specs.declared.signal.client.ClientSignal.TheVariants.{TcRollbackReq, TcWaitReq}
use Rattle.sig_core.specs.declared.signal.epoch.EpochSignal.TheVariants.{DiVerifyConf}
use Rattle.sig_core.specs.declared.signal.host.HostSignal.TheVariants.{Continue}
use Rattle.sig_core.specs.declared.signal.host.Work.TheVariants as work
use Rattle.sig_core.specs.Op.{key_of}
use Rattle.sig_core.specs.Place.{client}
use Rattle.sig_core.specs.Same.{same_key}
use Rattle.sig_core.specs.Step.{sending, stay}
use Rattle.frag_map.specs.Layout.{Layout, chain_of}
use Rattle.tc_block.specs.Abort as abort
use Rattle.tc_block.specs.Commit as commit
use Rattle.tc_block.specs.Complete as complete
use Rattle.tc_block.specs.declared.phase.Asked.{Asked}
use Rattle.tc_block.specs.declared.phase.Phase.{Phase}
use Rattle.tc_block.specs.declared.phase.Phase.TheVariants.{Open, Verifying, Committing, Completing, Aborting}
use Rattle.tc_block.specs.declared.transaction.Transaction.{Transaction}
use Rattle.tc_block.specs.Operate as operate
use Rattle.tc_block.specs.declared.sends.TheConstants.{SENDS}
use Rattle.tc_block.specs.Sends.{entering, go_on_if, go_on_row}
use Rattle.tc_block.specs.Turn.{Turn, asking, at_phase, going}
use Rattle.tc_block.specs.Phases.{is_aborting, is_committing, is_completing, is_decided}

-- only a transaction that takes operations, or is aborted, has one unanswered
abbrev pub may_ask : Phase → Bool
may_ask Open = true
may_ask (Aborting why verifying awaited) = true
may_ask _ = false

-- why a signal leaves the transaction alone: the end of its list is passed, it can't do what it is asked for now, it
-- has no such operation unanswered, or it is in another phase
abbrev pub IsMissed : Transaction → Body → Type 0
IsMissed t (Host (Continue (work.Transaction tx) at)) = SENDS ≤ at
IsMissed t (Client (TcKeyReq tx op)) = operate.can_operate t op ≡ false
IsMissed t (Client (TcCommitReq tx)) = operate.is_ready t.phase t.asked ≡ false
IsMissed t (Client (TcRollbackReq tx)) = (is_decided t.phase || is_aborting t.phase) ≡ true
IsMissed t (Chain (LqhKeyConf tx key answer)) = (operate.asked_on t.asked key ≡ None) ⊎ (may_ask t.phase ≡ false)
IsMissed t (Chain (LqhKeyRef tx key why)) = (operate.asked_on t.asked key ≡ None) ⊎ (may_ask t.phase ≡ false)
IsMissed t (Chain (Committed tx key)) = is_committing t.phase ≡ false
IsMissed t (Chain (Completed tx key)) = is_completing t.phase ≡ false
IsMissed t (Chain (Aborted tx key)) = is_aborting t.phase ≡ false
IsMissed t (Epoch (DiVerifyConf tx epoch)) = abort.is_verifying t.phase ≡ false
IsMissed t _ = Unit {0}

-- the transaction has this operation unanswered, and it is on the key that a signal answers
pub record IsAnswered (t : Transaction) (key : List ℕ) (asked : Asked) : Type 0 where
  pub is : t.asked ≡ Some asked
  pub on : same_key (key_of asked.op) key ≡ true
  pub found : operate.asked_on t.asked key ≡ Some asked

-- replicas answer an operation on the key
pub data IsRowAnswer (tx : TxId) (key : List ℕ) (body : Body) : Type 0 where
  by_conf : (answer : Answer) → body ≡ Chain (LqhKeyConf tx key answer) → IsRowAnswer tx key body
  by_ref : (why : AbortCause) → body ≡ Chain (LqhKeyRef tx key why) → IsRowAnswer tx key body

-- a transaction that can do more is open, with nothing unanswered
pub ready_is : (phase : Phase) (asked : Option Asked) → operate.is_ready phase asked ≡ true
    → (phase ≡ Open) × (asked ≡ None)
ready_is Open None is = (refl, refl)
ready_is Open (Some asked) is = absurd cc
ready_is Verifying asked is = absurd cc
ready_is (Committing epoch awaited) asked is = absurd cc
ready_is (Completing epoch awaited) asked is = absurd cc
ready_is (Aborting why verifying awaited) asked is = absurd cc

-- an abort begins, or has nothing to wait for
pub record AbortForms (node : ℕ) (layout : Layout) (tx : TxId) (t : Transaction) (why : AbortCause)
    (R : Turn → Type 0) : Type 0 where
  pub enters : (abort.aborts_awaited layout t == 0) ≡ false
      → R (going (entering node layout tx t
      (Aborting why (abort.is_verifying t.phase) (abort.aborts_awaited layout t))))
  pub ends : (abort.aborts_awaited layout t == 0) ≡ true → R (abort.abort_if node layout tx t why true)

-- all keys are committed: what was written is completed, or nothing was
pub record CommittedForms (node : ℕ) (layout : Layout) (tx : TxId) (t : Transaction) (epoch : ℕ)
    (R : Turn → Type 0) : Type 0 where
  pub enters : (complete.written_count t.touched == 0) ≡ false
      → R (going (entering node layout tx t (Completing epoch (complete.written_count t.touched))))
  pub ends : (complete.written_count t.touched == 0) ≡ true → R (complete.all_committed_if node layout tx t epoch true)

-- the turns that the transaction may take at this signal
pub record TurnForms (node : ℕ) (layout : Layout) (tx : TxId) (t : Transaction) (body : Body)
    (R : Turn → Type 0) : Type 0 where
  -- it does nothing, or sends more of what it sends in its phase
  pub stays : R (going (stay t))
  pub goes_on : (at : ℕ) → R (going (go_on_if node layout tx t at true))
  -- an operation goes to its primary, is answered, or is answered when the transaction is aborted already
  pub operates : (op : Op) → body ≡ Client (TcKeyReq tx op) → operate.can_operate t op ≡ true
      → R (going (operate.operating tx t op (chain_of layout (key_of op))))
  pub answers : (key : List ℕ) (answer : Answer) (asked : Asked) → body ≡ Chain (LqhKeyConf tx key answer)
      → t.asked ≡ Some asked → t.phase ≡ Open
      → R (going (sending (operate.answered t asked answer) client (Client (TcKeyConf tx answer))))
  pub late : (key : List ℕ) (asked : Asked) (why : AbortCause) (verifying : Bool) (awaited : ℕ) → t.asked ≡ Some asked
      → t.phase ≡ Aborting why verifying awaited → R (going (operate.late_answer layout tx t key))
  -- the replicas are asked what it waits for
  pub waits : (asked : Asked) → t.asked ≡ Some asked → R (going (operate.wait_by tx t (Some asked)))
  -- it asks for an epoch, and has one
  pub decides : body ≡ Client (TcCommitReq tx) → operate.is_ready t.phase t.asked ≡ true
      → R (going (commit.verify_if node tx t true))
  pub commits : (epoch : ℕ) → body ≡ Epoch (DiVerifyConf tx epoch) → t.phase ≡ Verifying
      → (length t.touched == 0) ≡ false → R (going (entering node layout tx t (Committing epoch (length t.touched))))
  pub commits_none : (epoch : ℕ) → body ≡ Epoch (DiVerifyConf tx epoch) → t.phase ≡ Verifying
      → CommittedForms node layout tx t epoch R
  -- a key is committed, the last one or not, and so with completions
  pub committed : (epoch awaited : ℕ) → t.phase ≡ Committing epoch awaited → nat_lt 1 awaited ≡ true
      → R (going (stay (at_phase t (Committing epoch (awaited - 1)))))
  pub committed_all : (epoch awaited : ℕ) → t.phase ≡ Committing epoch awaited → CommittedForms node layout tx t epoch R
  pub completed : (epoch awaited : ℕ) → t.phase ≡ Completing epoch awaited → nat_lt 1 awaited ≡ true
      → R (going (stay (at_phase t (Completing epoch (awaited - 1)))))
  pub completed_all : (epoch awaited : ℕ) → t.phase ≡ Completing epoch awaited → nat_lt 1 awaited ≡ false
      → R (complete.completed_if node tx t epoch awaited false)
  -- it is given up: the client wishes it, or an operation is refused
  pub rolls_back : body ≡ Client (TcRollbackReq tx) → is_decided t.phase ≡ false → is_aborting t.phase ≡ false
      → AbortForms node layout tx t cause.Request R
  pub refuses : (key : List ℕ) (why : AbortCause) (asked : Asked) → body ≡ Chain (LqhKeyRef tx key why)
      → t.asked ≡ Some asked → t.phase ≡ Open → AbortForms node layout tx (asking t None) why R
  -- a replica has aborted a key, the last one or not
  pub aborted : (why : AbortCause) (verifying : Bool) (awaited : ℕ) → t.phase ≡ Aborting why verifying awaited
      → nat_lt 1 awaited ≡ true
      → R (going (stay (at_phase t (Aborting why verifying (awaited - 1)))))
  pub aborted_all : (why : AbortCause) (verifying : Bool) (awaited : ℕ) → t.phase ≡ Aborting why verifying awaited
      → nat_lt 1 awaited ≡ false
      → R (abort.aborted_if node tx t why verifying awaited false)

-- the coordinator goes on with what a transaction sends
abbrev pub is_onward : Body → Bool
is_onward (Host (Continue (work.Transaction tx) at)) = true
is_onward _ = false

-- the same, each turn with the signal at which it is taken; and why the transaction is left alone
pub record TurnFormsAt (node : ℕ) (layout : Layout) (tx : TxId) (t : Transaction) (body : Body)
    (R : Turn → Type 0) : Type 0 where
  pub stays : is_onward body ≡ false → IsMissed t body → R (going (stay t))
  pub stops : (at : ℕ) → body ≡ Host (Continue (work.Transaction tx) at) → SENDS ≤ at → R (going (stay t))
  -- it sends more of what it sends in its phase
  pub goes_on : (at : ℕ) → body ≡ Host (Continue (work.Transaction tx) at) → nat_lt at SENDS ≡ true
      → R (going (go_on_if node layout tx t at true))
  -- an operation goes to its primary, is answered, or is answered when the transaction is aborted already
  pub operates : (op : Op) → body ≡ Client (TcKeyReq tx op) → operate.can_operate t op ≡ true
      → R (going (operate.operating tx t op (chain_of layout (key_of op))))
  pub answers : (key : List ℕ) (answer : Answer) (asked : Asked) → body ≡ Chain (LqhKeyConf tx key answer)
      → IsAnswered t key asked → t.phase ≡ Open
      → R (going (sending (operate.answered t asked answer) client (Client (TcKeyConf tx answer))))
  pub late : (key : List ℕ) (asked : Asked) (why : AbortCause) (verifying : Bool) (awaited : ℕ)
      → IsRowAnswer tx key body → IsAnswered t key asked → t.phase ≡ Aborting why verifying awaited
      → R (going (operate.late_answer layout tx t key))
  -- the replicas are asked what it waits for
  pub waits : (asked : Asked) → body ≡ Client (TcWaitReq tx) → t.asked ≡ Some asked
      → R (going (operate.wait_by tx t (Some asked)))
  -- it asks for an epoch, and has one
  pub decides : body ≡ Client (TcCommitReq tx) → operate.is_ready t.phase t.asked ≡ true
      → R (going (commit.verify_if node tx t true))
  pub commits : (epoch : ℕ) → body ≡ Epoch (DiVerifyConf tx epoch) → t.phase ≡ Verifying
      → (length t.touched == 0) ≡ false
      → R (going (entering node layout tx t (Committing epoch (length t.touched))))
  pub commits_none : (epoch : ℕ) → body ≡ Epoch (DiVerifyConf tx epoch) → t.phase ≡ Verifying
      → (length t.touched == 0) ≡ true
      → CommittedForms node layout tx t epoch R
  -- a key is committed, the last one or not, and so with completions
  pub committed : (key : List ℕ) (epoch awaited : ℕ) → body ≡ Chain (Committed tx key)
      → t.phase ≡ Committing epoch awaited → nat_lt 1 awaited ≡ true
      → R (going (stay (at_phase t (Committing epoch (awaited - 1)))))
  pub committed_all : (key : List ℕ) (epoch awaited : ℕ) → body ≡ Chain (Committed tx key)
      → t.phase ≡ Committing epoch awaited
      → nat_lt 1 awaited ≡ false → CommittedForms node layout tx t epoch R
  pub completed : (key : List ℕ) (epoch awaited : ℕ) → body ≡ Chain (Completed tx key)
      → t.phase ≡ Completing epoch awaited → nat_lt 1 awaited ≡ true
      → R (going (stay (at_phase t (Completing epoch (awaited - 1)))))
  pub completed_all : (key : List ℕ) (epoch awaited : ℕ) → body ≡ Chain (Completed tx key)
      → t.phase ≡ Completing epoch awaited
      → nat_lt 1 awaited ≡ false → R (complete.completed_if node tx t epoch awaited false)
  -- it is given up: the client wishes it, or an operation is refused
  pub rolls_back : body ≡ Client (TcRollbackReq tx) → is_decided t.phase ≡ false → is_aborting t.phase ≡ false
      → AbortForms node layout tx t cause.Request R
  pub refuses : (key : List ℕ) (why : AbortCause) (asked : Asked) → body ≡ Chain (LqhKeyRef tx key why)
      → IsAnswered t key asked → t.phase ≡ Open
      → AbortForms node layout tx (asking t None) why R
  -- a replica has aborted a key, the last one or not
  pub aborted : (key : List ℕ) (why : AbortCause) (verifying : Bool) (awaited : ℕ) → body ≡ Chain (Aborted tx key)
      → t.phase ≡ Aborting why verifying awaited → nat_lt 1 awaited ≡ true
      → R (going (stay (at_phase t (Aborting why verifying (awaited - 1)))))
  pub aborted_all : (key : List ℕ) (why : AbortCause) (verifying : Bool) (awaited : ℕ) → body ≡ Chain (Aborted tx key)
      → t.phase ≡ Aborting why verifying awaited → nat_lt 1 awaited ≡ false
      → R (abort.aborted_if node tx t why verifying awaited false)

-- whatever the signal
told : (node : ℕ) (layout : Layout) (tx : TxId) (t : Transaction) (body : Body) (R : Turn → Type 0)
    → TurnForms node layout tx t body R
    → TurnFormsAt node layout tx t body R
told node layout tx t body R forms = record {
  stays = λ other missed. forms.stays;
  stops = λ at is high. forms.stays;
  goes_on = λ at is low. forms.goes_on at;
  operates = forms.operates;
  answers = λ key answer asked is own. forms.answers key answer asked is own.is;
  late = λ key asked why verifying awaited is own. forms.late key asked why verifying awaited own.is;
  waits = λ asked is on. forms.waits asked on;
  decides = forms.decides;
  commits = forms.commits;
  commits_none = λ epoch is at none. forms.commits_none epoch is at;
  committed = λ key epoch awaited is at more. forms.committed epoch awaited at more;
  committed_all = λ key epoch awaited is at last. forms.committed_all epoch awaited at;
  completed = λ key epoch awaited is at more. forms.completed epoch awaited at more;
  completed_all = λ key epoch awaited is at last. forms.completed_all epoch awaited at last;
  rolls_back = forms.rolls_back;
  refuses = λ key why asked is own. forms.refuses key why asked is own.is;
  aborted = λ key why verifying awaited is at more. forms.aborted why verifying awaited at more;
  aborted_all = λ key why verifying awaited is at last. forms.aborted_all why verifying awaited at last;
}

-- the unanswered operation on a key is the unanswered one
answered_by : (t : Transaction) (key : List ℕ) (asked : Asked) → operate.asked_on t.asked key ≡ Some asked
    → IsAnswered t key asked
answered_by t key asked found = by t.asked refl found
  where
    by : (o : Option Asked) → t.asked ≡ o → operate.asked_on o key ≡ Some asked → IsAnswered t key asked
    by None here is = absurd cc
    by (Some a) here is = which (same_key (key_of a.op) key) refl is
      where
        which : (b : Bool) → same_key (key_of a.op) key ≡ b → operate.asked_if a b ≡ Some asked → IsAnswered t key asked
        which true on e =
            let same : a ≡ asked = cc in
            record {
              is = here ∙ ap (λ x. Some x) same;
              on = ap (λ (x : Asked). same_key (key_of x.op) key) (sym same) ∙ on;
              found = found;
            }
        which false on e = absurd cc

module _ (node : ℕ) (layout : Layout) (tx : TxId) (t : Transaction) (body : Body) (R : Turn → Type 0)
    (forms : TurnFormsAt node layout tx t body R) where
  goes_on : (at : ℕ) → body ≡ Host (Continue (work.Transaction tx) at) → R (going (go_on_row node layout tx t at))
  unfolding go_on_row
  goes_on at is = by (nat_lt at SENDS) refl
    where
      by : (b : Bool) → nat_lt at SENDS ≡ b → R (going (go_on_if node layout tx t at b))
      by true low = forms.goes_on at is low
      by false high = forms.stops at is (grind (arith, nat_tests, high))

  -- nothing comes of a signal that is missed
  miss : (b : Body) → body ≡ b → is_onward b ≡ false → IsMissed t b → R (going (stay t))
  miss b is off missed = forms.stays (ap is_onward is ∙ off) (subst (IsMissed t) (sym is) missed)

  operates : (op : Op) → body ≡ Client (TcKeyReq tx op) → R (going (operate.operate_row layout tx t op))
  unfolding operate.operate_row
  operates op is = by (operate.can_operate t op) refl
    where
      by : (b : Bool) → operate.can_operate t op ≡ b → R (going (operate.operate_if layout tx t op b))
      by true can = forms.operates op is can
      by false can = miss (Client (TcKeyReq tx op)) is refl can

  decides : body ≡ Client (TcCommitReq tx) → R (going (commit.verify_row node tx t))
  unfolding commit.verify_row
  decides is = by (operate.is_ready t.phase t.asked) refl
    where
      by : (b : Bool) → operate.is_ready t.phase t.asked ≡ b → R (going (commit.verify_if node tx t b))
      by true ready = forms.decides is ready
      by false ready = miss (Client (TcCommitReq tx)) is refl ready

  waits : body ≡ Client (TcWaitReq tx) → R (going (operate.wait_row tx t))
  unfolding operate.wait_row
  waits is = by t.asked refl
    where
      by : (o : Option Asked) → t.asked ≡ o → R (going (operate.wait_by tx t o))
      by None on = miss (Client (TcWaitReq tx)) is refl tt
      by (Some asked) on = forms.waits asked is on

  answers : (key : List ℕ) (answer : Answer) → body ≡ Chain (LqhKeyConf tx key answer)
      → R (going (operate.answer_row layout tx t key answer))
  unfolding operate.answer_row
  answers key answer is = by (operate.asked_on t.asked key) refl t.phase refl
    where
      by : (o : Option Asked) → operate.asked_on t.asked key ≡ o → (phase : Phase) → t.phase ≡ phase
          → R (going (operate.answer_by layout tx t key answer o phase))
      by (Some asked) on Open at = forms.answers key answer asked is (answered_by t key asked on) at
      by (Some asked) on (Aborting why verifying awaited) at =
          forms.late key asked why verifying awaited (by_conf answer is) (answered_by t key asked on) at
      by (Some asked) on Verifying at = miss (Chain (LqhKeyConf tx key answer)) is refl (inr (ap may_ask at))
      by (Some asked) on (Committing epoch awaited) at =
          miss (Chain (LqhKeyConf tx key answer)) is refl (inr (ap may_ask at))
      by (Some asked) on (Completing epoch awaited) at =
          miss (Chain (LqhKeyConf tx key answer)) is refl (inr (ap may_ask at))
      by None on phase at = miss (Chain (LqhKeyConf tx key answer)) is refl (inl on)

  all_committed : (epoch : ℕ) → CommittedForms node layout tx t epoch R
      → R (complete.all_committed node layout tx t epoch)
  unfolding complete.all_committed
  all_committed epoch own = by (complete.written_count t.touched == 0) refl
    where
      by : (b : Bool) → (complete.written_count t.touched == 0) ≡ b
          → R (complete.all_committed_if node layout tx t epoch b)
      by true none = own.ends none
      by false none = own.enters none

  commits : (epoch : ℕ) → body ≡ Epoch (DiVerifyConf tx epoch) → R (commit.commit_row node layout tx t epoch)
  unfolding commit.commit_row
  commits epoch is = by t.phase refl
    where
      which : t.phase ≡ Verifying → (b : Bool) → (length t.touched == 0) ≡ b
          → R (commit.commit_if node layout tx t epoch b)
      which at true none = all_committed epoch (forms.commits_none epoch is at none)
      which at false none = forms.commits epoch is at none

      by : (phase : Phase) → t.phase ≡ phase → R (commit.commit_by node layout tx t epoch phase)
      by Verifying at = which at (length t.touched == 0) refl
      by Open at = miss (Epoch (DiVerifyConf tx epoch)) is refl (ap abort.is_verifying at)
      by (Committing other awaited) at = miss (Epoch (DiVerifyConf tx epoch)) is refl (ap abort.is_verifying at)
      by (Completing other awaited) at = miss (Epoch (DiVerifyConf tx epoch)) is refl (ap abort.is_verifying at)
      by (Aborting why verifying awaited) at = miss (Epoch (DiVerifyConf tx epoch)) is refl (ap abort.is_verifying at)

  committed : (key : List ℕ) → body ≡ Chain (Committed tx key) → R (commit.committed_row node layout tx t)
  unfolding commit.committed_row
  committed key is = by t.phase refl
    where
      which : (epoch awaited : ℕ) → t.phase ≡ Committing epoch awaited → (b : Bool) → nat_lt 1 awaited ≡ b
          → R (commit.committed_if node layout tx t epoch awaited b)
      which epoch awaited at true more = forms.committed key epoch awaited is at more
      which epoch awaited at false more = all_committed epoch (forms.committed_all key epoch awaited is at more)

      by : (phase : Phase) → t.phase ≡ phase → R (commit.committed_by node layout tx t phase)
      by (Committing epoch awaited) at = which epoch awaited at (nat_lt 1 awaited) refl
      by Open at = miss (Chain (Committed tx key)) is refl (ap is_committing at)
      by Verifying at = miss (Chain (Committed tx key)) is refl (ap is_committing at)
      by (Completing epoch awaited) at = miss (Chain (Committed tx key)) is refl (ap is_committing at)
      by (Aborting why verifying awaited) at = miss (Chain (Committed tx key)) is refl (ap is_committing at)

  completed : (key : List ℕ) → body ≡ Chain (Completed tx key) → R (complete.completed_row node tx t)
  unfolding complete.completed_row
  completed key is = by t.phase refl
    where
      which : (epoch awaited : ℕ) → t.phase ≡ Completing epoch awaited → (b : Bool) → nat_lt 1 awaited ≡ b
          → R (complete.completed_if node tx t epoch awaited b)
      which epoch awaited at true more = forms.completed key epoch awaited is at more
      which epoch awaited at false more = forms.completed_all key epoch awaited is at more

      by : (phase : Phase) → t.phase ≡ phase → R (complete.completed_by node tx t phase)
      by (Completing epoch awaited) at = which epoch awaited at (nat_lt 1 awaited) refl
      by Open at = miss (Chain (Completed tx key)) is refl (ap is_completing at)
      by Verifying at = miss (Chain (Completed tx key)) is refl (ap is_completing at)
      by (Committing epoch awaited) at = miss (Chain (Completed tx key)) is refl (ap is_completing at)
      by (Aborting why verifying awaited) at = miss (Chain (Completed tx key)) is refl (ap is_completing at)

  aborts : (u : Transaction) (why : AbortCause) → AbortForms node layout tx u why R
      → R (abort.aborted_for node layout tx u why)
  unfolding abort.aborted_for
  aborts u why own = by (abort.aborts_awaited layout u == 0) refl
    where
      by : (b : Bool) → (abort.aborts_awaited layout u == 0) ≡ b → R (abort.abort_if node layout tx u why b)
      by true none = own.ends none
      by false none = own.enters none

  refuses : (key : List ℕ) (why : AbortCause) → body ≡ Chain (LqhKeyRef tx key why)
      → R (abort.refuse_row node layout tx t key why)
  unfolding abort.refuse_row
  refuses key why is = by (operate.asked_on t.asked key) refl t.phase refl
    where
      by : (o : Option Asked) → operate.asked_on t.asked key ≡ o → (phase : Phase) → t.phase ≡ phase
          → R (abort.refuse_by node layout tx t key why o phase)
      by (Some asked) on Open at =
          aborts (asking t None) why (forms.refuses key why asked is (answered_by t key asked on) at)
      by (Some asked) on (Aborting other verifying awaited) at =
          forms.late key asked other verifying awaited (by_ref why is) (answered_by t key asked on) at
      by (Some asked) on Verifying at = miss (Chain (LqhKeyRef tx key why)) is refl (inr (ap may_ask at))
      by (Some asked) on (Committing epoch awaited) at =
          miss (Chain (LqhKeyRef tx key why)) is refl (inr (ap may_ask at))
      by (Some asked) on (Completing epoch awaited) at =
          miss (Chain (LqhKeyRef tx key why)) is refl (inr (ap may_ask at))
      by None on phase at = miss (Chain (LqhKeyRef tx key why)) is refl (inl on)

  rolls_back : body ≡ Client (TcRollbackReq tx) → R (abort.rollback_row node layout tx t)
  unfolding abort.rollback_row
  rolls_back is = by t.phase refl
    where
      by : (phase : Phase) → t.phase ≡ phase → R (abort.rollback_by node layout tx t phase)
      by Open at = aborts t cause.Request (forms.rolls_back is (ap is_decided at) (ap is_aborting at))
      by Verifying at = aborts t cause.Request (forms.rolls_back is (ap is_decided at) (ap is_aborting at))
      by (Committing epoch awaited) at =
          miss (Client (TcRollbackReq tx)) is refl (ap (λ phase. is_decided phase || is_aborting phase) at)
      by (Completing epoch awaited) at =
          miss (Client (TcRollbackReq tx)) is refl (ap (λ phase. is_decided phase || is_aborting phase) at)
      by (Aborting why verifying awaited) at =
          miss (Client (TcRollbackReq tx)) is refl (ap (λ phase. is_decided phase || is_aborting phase) at)

  aborted : (key : List ℕ) → body ≡ Chain (Aborted tx key) → R (abort.aborted_row node tx t)
  unfolding abort.aborted_row
  aborted key is = by t.phase refl
    where
      which : (why : AbortCause) (verifying : Bool) (awaited : ℕ) → t.phase ≡ Aborting why verifying awaited
          → (b : Bool) → nat_lt 1 awaited ≡ b
          → R (abort.aborted_if node tx t why verifying awaited b)
      which why verifying awaited at true more = forms.aborted key why verifying awaited is at more
      which why verifying awaited at false more = forms.aborted_all key why verifying awaited is at more

      by : (phase : Phase) → t.phase ≡ phase → R (abort.aborted_by node tx t phase)
      by (Aborting why verifying awaited) at = which why verifying awaited at (nat_lt 1 awaited) refl
      by Open at = miss (Chain (Aborted tx key)) is refl (ap is_aborting at)
      by Verifying at = miss (Chain (Aborted tx key)) is refl (ap is_aborting at)
      by (Committing epoch awaited) at = miss (Chain (Aborted tx key)) is refl (ap is_aborting at)
      by (Completing epoch awaited) at = miss (Chain (Aborted tx key)) is refl (ap is_aborting at)

-- what the transaction does by the row of this signal
pub record RowsAre (node : ℕ) (layout : Layout) (tx : TxId) (t : Transaction) (body : Body)
    (R : Turn → Type 0) : Type 0 where
  pub goes_on : (at : ℕ) → body ≡ Host (Continue (work.Transaction tx) at) → R (going (go_on_row node layout tx t at))
  pub operates : (op : Op) → body ≡ Client (TcKeyReq tx op) → R (going (operate.operate_row layout tx t op))
  pub decides : body ≡ Client (TcCommitReq tx) → R (going (commit.verify_row node tx t))
  pub rolls_back : body ≡ Client (TcRollbackReq tx) → R (abort.rollback_row node layout tx t)
  pub waits : body ≡ Client (TcWaitReq tx) → R (going (operate.wait_row tx t))
  pub answers : (key : List ℕ) (answer : Answer) → body ≡ Chain (LqhKeyConf tx key answer)
      → R (going (operate.answer_row layout tx t key answer))
  pub refuses : (key : List ℕ) (why : AbortCause) → body ≡ Chain (LqhKeyRef tx key why)
      → R (abort.refuse_row node layout tx t key why)
  pub committed : (key : List ℕ) → body ≡ Chain (Committed tx key) → R (commit.committed_row node layout tx t)
  pub completed : (key : List ℕ) → body ≡ Chain (Completed tx key) → R (complete.completed_row node tx t)
  pub aborted : (key : List ℕ) → body ≡ Chain (Aborted tx key) → R (abort.aborted_row node tx t)
  pub commits : (epoch : ℕ) → body ≡ Epoch (DiVerifyConf tx epoch) → R (commit.commit_row node layout tx t epoch)

pub rows_at : (node : ℕ) (layout : Layout) (tx : TxId) (t : Transaction) (body : Body) (R : Turn → Type 0)
    → TurnFormsAt node layout tx t body R
    → RowsAre node layout tx t body R
rows_at node layout tx t body R forms = record {
  goes_on = goes_on node layout tx t body R forms;
  operates = operates node layout tx t body R forms;
  decides = decides node layout tx t body R forms;
  rolls_back = rolls_back node layout tx t body R forms;
  waits = waits node layout tx t body R forms;
  answers = answers node layout tx t body R forms;
  refuses = refuses node layout tx t body R forms;
  committed = committed node layout tx t body R forms;
  completed = completed node layout tx t body R forms;
  aborted = aborted node layout tx t body R forms;
  commits = commits node layout tx t body R forms;
}

pub rows_of : (node : ℕ) (layout : Layout) (tx : TxId) (t : Transaction) (body : Body) (R : Turn → Type 0)
    → TurnForms node layout tx t body R
    → RowsAre node layout tx t body R
rows_of node layout tx t body R forms = rows_at node layout tx t body R (told node layout tx t body R forms)

-- two predicates together
pub rows_both : (node : ℕ) (layout : Layout) (tx : TxId) (t : Transaction) (body : Body) (P Q : Turn → Type 0)
    → RowsAre node layout tx t body P → RowsAre node layout tx t body Q
    → RowsAre node layout tx t body (λ turn. P turn × Q turn)
rows_both node layout tx t body P Q p q = record {
  goes_on = λ at is. (p.goes_on at is, q.goes_on at is);
  operates = λ op is. (p.operates op is, q.operates op is);
  decides = λ is. (p.decides is, q.decides is);
  rolls_back = λ is. (p.rolls_back is, q.rolls_back is);
  waits = λ is. (p.waits is, q.waits is);
  answers = λ key answer is. (p.answers key answer is, q.answers key answer is);
  refuses = λ key why is. (p.refuses key why is, q.refuses key why is);
  committed = λ key is. (p.committed key is, q.committed key is);
  completed = λ key is. (p.completed key is, q.completed key is);
  aborted = λ key is. (p.aborted key is, q.aborted key is);
  commits = λ epoch is. (p.commits epoch is, q.commits epoch is);
}
