-- The operations of a transaction, signal by signal.
use Rattle.std.specs.Prelude.{ℕ, Bool, true, false, ◌&&◌, List, [], ◌∷◌, ◌++◌, Option, None, Some}
use Rattle.sig_core.specs.declared.member.Member.{Member}
use Rattle.sig_core.specs.declared.member.TxId.{TxId}
use Rattle.sig_core.specs.declared.op.Answer.{Answer}
use Rattle.sig_core.specs.declared.op.Answer.TheVariants.{Done}
use Rattle.sig_core.specs.declared.op.Op.{Op}
use Rattle.sig_core.specs.declared.signal.Body.TheVariants.{Client, Chain}
use Rattle.sig_core.specs.declared.signal.chain.ChainSignal.TheVariants.{LqhKeyReq}
use Rattle.sig_core.specs.declared.signal.chain.RowWork.TheVariants.{Operate}
use Rattle.sig_core.specs.declared.signal.client.ClientSignal.TheVariants.{TcKeyConf}
use Rattle.frag_map.specs.Layout.{Layout}
use Rattle.sig_core.specs.Op.{key_of}
use Rattle.sig_core.specs.Same.{same_key}
use Rattle.sig_core.specs.Step.{Step, stay, sending, sends_only}
use Rattle.tc_block.specs.declared.phase.Asked.{Asked}
use Rattle.tc_block.specs.declared.phase.Phase.{Phase}
use Rattle.tc_block.specs.declared.phase.Phase.TheVariants.{Open, Aborting}
use Rattle.tc_block.specs.declared.touched.Touched.{Touched}
use Rattle.tc_block.specs.declared.transaction.Transaction.{Transaction}
use Rattle.sig_core.specs.Chain.{node_at}
use Rattle.frag_map.specs.Layout.{chain_of}
use Rattle.sig_core.specs.Place.{client, rows_of}
use Rattle.tc_block.specs.Sends.{aborts_of, waits_of}
use Rattle.tc_block.specs.Touched.{fits, touch, write}
use Rattle.tc_block.specs.Turn.{asking}

-- a transaction that has begun
abbrev pub fresh : Transaction
fresh = record { ops = []; touched = []; asked = None; phase = Open }

-- it takes operations, and none is unanswered
abbrev pub is_ready : Phase → Option Asked → Bool
is_ready Open None = true
is_ready _ _ = false

-- an operation may go to the replicas
abbrev pub can_operate : Transaction → Op → Bool
can_operate t op = is_ready t.phase t.asked && fits t.touched (key_of op)

-- an operation goes to the primary of its key
abbrev pub operating : TxId → Transaction → Op → List Member → Step Transaction
operating tx t op chain =
    sending
    (record {
      ops = t.ops;
      touched = touch t.touched (key_of op) chain;
      asked = Some (record { op = op; chain = chain });
      phase = t.phase;
    })
    (rows_of (node_at chain 0)) (Chain (LqhKeyReq tx (Operate op) chain 0))

abbrev pub operate_if : Layout → TxId → Transaction → Op → Bool → Step Transaction
operate_if layout tx t op true = operating tx t op (chain_of layout (key_of op))
operate_if layout tx t op false = stay t

-- an operation is asked for
unfoldable pub operate_row : Layout → TxId → Transaction → Op → Step Transaction
operate_row layout tx t op = operate_if layout tx t op (can_operate t op)

-- the unanswered operation, if it is on this key
abbrev pub asked_if : Asked → Bool → Option Asked
asked_if asked true = Some asked
asked_if asked false = None

abbrev pub asked_on : Option Asked → List ℕ → Option Asked
asked_on None key = None
asked_on (Some asked) key = asked_if asked (same_key (key_of asked.op) key)

-- the touched keys, after an operation was answered: only an answer `Done` is of a write that took effect
abbrev pub touched_after : Answer → List Touched → Op → List Member → List Touched
touched_after Done touched op chain = write touched (key_of op) chain
touched_after _ touched op chain = touched

-- the answer of an operation is noted
abbrev pub answered : Transaction → Asked → Answer → Transaction
answered t asked answer =
    record {
      ops = t.ops ++ (asked.op, answer) ∷ [];
      touched = touched_after answer t.touched asked.op asked.chain;
      asked = None;
      phase = t.phase;
    }

-- an answer comes while the transaction is aborted: the operation may have come to a replica behind its `Abort`
abbrev pub late_answer : Layout → TxId → Transaction → List ℕ → Step Transaction
late_answer layout tx t key =
    record { state = asking t None; effects = sends_only (aborts_of tx key (chain_of layout key)) }

-- an operation is answered
abbrev pub answer_by : Layout → TxId → Transaction → List ℕ → Answer → Option Asked → Phase → Step Transaction
answer_by layout tx t key answer (Some asked) Open =
    sending (answered t asked answer) client (Client (TcKeyConf tx answer))
answer_by layout tx t key answer (Some asked) (Aborting cause verifying awaited) = late_answer layout tx t key
answer_by layout tx t key answer _ _ = stay t

unfoldable pub answer_row : Layout → TxId → Transaction → List ℕ → Answer → Step Transaction
answer_row layout tx t key answer = answer_by layout tx t key answer (asked_on t.asked key) t.phase

-- the replicas are asked what the unanswered operation waits for
abbrev pub wait_by : TxId → Transaction → Option Asked → Step Transaction
wait_by tx t None = stay t
wait_by tx t (Some asked) = record { state = t; effects = sends_only (waits_of tx (key_of asked.op) asked.chain) }

unfoldable pub wait_row : TxId → Transaction → Step Transaction
wait_row tx t = wait_by tx t t.asked
