-- A put that goes through two replicas: the logs of a life of two nodes that both have every row.
use Rattle.std.specs.Prelude.{◌≡◌, ◌==◌, ◌&&◌, ℕ, Bool, zero, suc, true, false, List, [], ◌∷◌, None, Some}
use Rattle.sig_core.specs.declared.entry.Entry.{Entry}
use Rattle.sig_core.specs.declared.mark.Mark.{Mark}
use Rattle.sig_core.specs.declared.mark.Mark.TheVariants.{Applied, Decided, Done as Completed, Prepared, Reported}
use Rattle.sig_core.specs.declared.member.Member.{Member}
use Rattle.sig_core.specs.declared.member.TxId.{TxId}
use Rattle.sig_core.specs.declared.op.Answer.TheVariants.{Done}
use Rattle.sig_core.specs.declared.op.Op.{Op}
use Rattle.sig_core.specs.declared.op.Op.TheVariants.{Put}
use Rattle.sig_core.specs.declared.outcome.Outcome.TheVariants.{Committed}
use Rattle.sig_core.specs.declared.reply.ApiReply.TheVariants.{Answered, Ended}
use Rattle.sig_core.specs.declared.request.ApiReq.TheVariants as request
use Rattle.sig_core.specs.declared.signal.Body.TheVariants.{Chain, Client, Epoch}
use Rattle.sig_core.specs.declared.signal.Signal.{Signal}
use Rattle.sig_core.specs.declared.signal.chain.ChainSignal.TheVariants as rows
use Rattle.sig_core.specs.declared.signal.chain.RowWork.TheVariants.{Operate, Store}
use Rattle.sig_core.specs.declared.signal.client.ClientSignal.TheVariants.{TcBeginConf, TcBeginReq, TcCommitAck}
use Rattle.sig_core.specs.declared.signal.client.ClientSignal.TheVariants.{TcCommitConf, TcCommitReq, TcKeyConf}
use Rattle.sig_core.specs.declared.signal.client.ClientSignal.TheVariants.{TcKeyReq}
use Rattle.sig_core.specs.declared.signal.epoch.EpochSignal.TheVariants.{DiVerifyConf, DiVerifyEnd, DiVerifyReq}
use Rattle.sig_core.specs.Place.{client, coordinator, epochs, rows_of}
use Rattle.sig_core.specs.Same.{same_tx}
use Rattle.sig_core.specs.Step.{to_place}
use Rattle.frag_map.specs.Replicas.{first_start}
use Rattle.node_core.specs.Replies.{replies_of}
use Rattle.world_core.specs.At.{row_in}
use Rattle.world_core.specs.History.{history}
use Rattle.world_core.specs.Hosts.{Membership, first_membership, first_hosts}
use Rattle.world_core.specs.Machine.{after, headed, request_signal}
use Rattle.world_core.specs.Marks.{have_mark}
use Rattle.world_core.specs.Rest.{IsAtRest, IsLiveReplica}
use Rattle.world_core.specs.Start.{Start, fresh}
use Rattle.world_core.specs.Steps.{HostStep}
use Rattle.answer_laws.specs.Answered.{AreQuiet}
use Rattle.answer_laws.specs.Sample.{first_tx, takes}

-- the transaction was reported committed in this epoch
abbrev pub is_committed_in : TxId → ℕ → Mark → Bool
is_committed_in tx epoch (Reported other (Committed at)) = same_tx other tx && (at == epoch)
is_committed_in tx epoch mark = false

-- a cluster of two nodes with two replicas of each row, in one fragment
abbrev pub two : Start
two = fresh (record { nodes = 2; replicas = 2; fragments = 1 })

abbrev pub both : Membership
both = first_membership two

-- the replicas of a row, the primary first
abbrev pub replicas : List Member
replicas = first_start 1 ∷ first_start 2 ∷ []

-- the row that is put
abbrev pub key : List ℕ
key = 97 ∷ []

abbrev pub value : List ℕ
value = 118 ∷ []

abbrev pub write : Op
write = Put key value

-- a step of a host with this stamp and these marks, and the signal that it took
abbrev pub marked : ℕ → ℕ → List Mark → Signal → HostStep
marked h stamp marks x = record { host = h; step = record { stamp = stamp; taken = x; marks = marks } }

-- the shell's host: the client asks for the put alone, at node 1, is told that its transaction has begun and what the
-- put
-- answers, and that all is committed
abbrev pub shell : List HostStep
shell =
    marked 0 15 (Reported first_tx (Committed 1) ∷ [])
    (headed both 2 14 2 (to_place client (Client (TcCommitConf first_tx 1))))
    ∷ takes 0 8 (headed both 2 7 1 (to_place client (Client (TcKeyConf first_tx Done))))
    ∷ takes 0 3 (headed both 2 2 0 (to_place client (Client (TcBeginConf None first_tx))))
    ∷ takes 0 1 (request_signal both 0 (request.Operate None write))
    ∷ []

-- the coordinator and epochs of node 1: the transaction begins, performs its operation and is told of the answer, gets
-- an
-- epoch, is committed, and is completed
abbrev pub coordination : List HostStep
coordination =
    takes 2 20 (headed both 2 19 2 (to_place (epochs 1) (Epoch (DiVerifyEnd first_tx))))
    ∷ takes 2 19 (headed both 3 18 1 (to_place (coordinator 1) (Chain (rows.Completed first_tx key))))
    ∷ takes 2 14 (headed both 3 13 0 (to_place (coordinator 1) (Chain (rows.Committed first_tx key))))
    ∷ takes 2 11 (headed both 2 10 1 (to_place (coordinator 1) (Epoch (DiVerifyConf first_tx 1))))
    ∷ marked 2 10 (Decided first_tx 1 ∷ [])
    (headed both 2 9 0 (to_place (epochs 1) (Epoch (DiVerifyReq first_tx ((write, Done) ∷ [])))))
    ∷ takes 2 9 (headed both 0 8 2 (to_place (coordinator 1) (Client (TcCommitReq first_tx))))
    ∷ takes 2 7 (headed both 6 6 0 (to_place (coordinator 1) (Chain (rows.LqhKeyConf first_tx key Done))))
    ∷ takes 2 4 (headed both 0 3 1 (to_place (coordinator 1) (Client (TcKeyReq first_tx write))))
    ∷ takes 2 2 (headed both 0 1 0 (to_place (coordinator 1) (Client (TcBeginReq None))))
    ∷ []

-- the rows of node 1, the primary: the put is prepared, committed and completed
abbrev pub primary : List HostStep
primary =
    marked 3 18 (Completed first_tx key ∷ [])
    (headed both 6 17 1 (to_place (rows_of 1) (Chain (rows.Complete first_tx key replicas 0))))
    ∷ takes 3 16 (headed both 0 15 0 (to_place (rows_of 1) (Client (TcCommitAck first_tx))))
    ∷ marked 3 13 (Applied first_tx key ∷ [])
    (headed both 6 12 0 (to_place (rows_of 1) (Chain (rows.Commit first_tx key 1 replicas 0))))
    ∷ marked 3 5 (Prepared first_tx key ∷ [])
    (headed both 2 4 0 (to_place (rows_of 1) (Chain (rows.LqhKeyReq first_tx (Operate write) replicas 0))))
    ∷ []

-- the rows of node 2, the backup: its image is prepared behind the primary's, and committed and completed in front of
-- it
abbrev pub backup : List HostStep
backup =
    marked 6 17 (Completed first_tx key ∷ [])
    (headed both 2 14 1 (to_place (rows_of 2) (Chain (rows.Complete first_tx key replicas 1))))
    ∷ takes 6 16 (headed both 0 15 0 (to_place (rows_of 2) (Client (TcCommitAck first_tx))))
    ∷ takes 6 12 (headed both 2 11 0 (to_place (rows_of 2) (Chain (rows.Commit first_tx key 1 replicas 1))))
    ∷ marked 6 6 (Prepared first_tx key ∷ [])
    (headed both 3 5 0 (to_place (rows_of 2) (Chain (rows.LqhKeyReq first_tx (Store key (Some value)) replicas 1))))
    ∷ []

-- the logs of all hosts
abbrev pub put : ℕ → List HostStep
put zero = shell
put (suc (suc zero)) = coordination
put (suc (suc (suc zero))) = primary
put (suc (suc (suc (suc (suc (suc zero)))))) = backup
put h = []

-- the put as an entry
abbrev pub entry : Entry
entry = record { tx = first_tx; view = 1; stamp = 10; host = record { 0 = 2 }; epoch = 1; ops = (write, Done) ∷ [] }

-- These are quiet logs. Their history is the entry of the put, which was reported with its epoch, and its answer was
-- told; the key is at rest, and both nodes have it with the value that was put.
pub record SampleIsPut : Type 0 where
  pub quiet : AreQuiet two put
  pub history_is : history (first_hosts two) put ≡ entry ∷ []
  pub reported : have_mark (is_committed_in first_tx entry.epoch) (first_hosts two) put ≡ true
  pub replies : replies_of (after two 0 (put 0)) ≡ Answered None Done ∷ Ended None (Committed entry.epoch) ∷ []
  pub rest : IsAtRest two put key
  pub at_primary : IsLiveReplica two put key (first_start 1)
  pub at_backup : IsLiveReplica two put key (first_start 2)
  pub rows : (member : Member) → IsLiveReplica two put key member → row_in two put member.node key ≡ Some value
