-- A wait that is granted: two transactions put the same key of a lone node, and the second waits until the first is
-- committed.
use Rattle.std.specs.Prelude.{◌≡◌, ℕ, zero, suc, List, [], ◌∷◌, drop, None, Some}
use Rattle.std.specs.FinMap as map
use Rattle.sig_core.specs.declared.entry.Entry.{Entry}
use Rattle.sig_core.specs.declared.mark.Mark.TheVariants.{Applied, Decided, Done as Completed, Prepared, Reported}
use Rattle.sig_core.specs.declared.member.Member.{Member}
use Rattle.sig_core.specs.declared.member.TxId.{TxId}
use Rattle.sig_core.specs.declared.op.Answer.TheVariants.{Done}
use Rattle.sig_core.specs.declared.op.Op.{Op}
use Rattle.sig_core.specs.declared.op.Op.TheVariants.{Put}
use Rattle.sig_core.specs.declared.outcome.Outcome.TheVariants.{Committed}
use Rattle.sig_core.specs.declared.request.ApiReq.TheVariants as request
use Rattle.sig_core.specs.declared.signal.Body.TheVariants.{Chain, Client, Epoch, Host}
use Rattle.sig_core.specs.declared.signal.chain.ChainSignal.TheVariants as rows
use Rattle.sig_core.specs.declared.signal.chain.RowWork.TheVariants.{Operate}
use Rattle.sig_core.specs.declared.signal.client.ClientSignal.TheVariants.{TcBeginConf, TcBeginReq, TcCommitAck}
use Rattle.sig_core.specs.declared.signal.client.ClientSignal.TheVariants.{TcCommitConf, TcCommitReq, TcKeyConf}
use Rattle.sig_core.specs.declared.signal.client.ClientSignal.TheVariants.{TcKeyReq}
use Rattle.sig_core.specs.declared.signal.epoch.EpochSignal.TheVariants.{DiVerifyConf, DiVerifyEnd, DiVerifyReq}
use Rattle.sig_core.specs.declared.signal.host.HostSignal.TheVariants.{Continue}
use Rattle.sig_core.specs.declared.signal.host.Work.TheVariants.{Granted}
use Rattle.sig_core.specs.Place.{client, coordinator, epochs, rows_of}
use Rattle.sig_core.specs.Step.{to_place}
use Rattle.frag_map.specs.Replicas.{first_start}
use Rattle.lqh_block.specs.declared.request.Request.{Request}
use Rattle.node_core.specs.Blocks.{lqh_of}
use Rattle.world_core.specs.At.{row_in}
use Rattle.world_core.specs.History.{history}
use Rattle.world_core.specs.Hosts.{first_hosts}
use Rattle.world_core.specs.Machine.{after, headed, request_signal}
use Rattle.world_core.specs.Steps.{HostStep}
use Rattle.answer_laws.specs.Answered.{AreQuiet}
use Rattle.answer_laws.specs.Sample.{first_tx, lone, one, takes}
use Rattle.sample_runs.specs.Put.{key, marked}

abbrev pub second_tx : TxId
second_tx = record { tc = 1; start = 0; seq = 2 }

-- the only replica of a row
abbrev pub alone : List Member
alone = first_start 1 ∷ []

abbrev pub first_value : List ℕ
first_value = 118 ∷ []

abbrev pub second_value : List ℕ
second_value = 119 ∷ []

abbrev pub first_write : Op
first_write = Put key first_value

abbrev pub second_write : Op
second_write = Put key second_value

-- the shell's host: transaction 1 begins and puts the key, another put comes alone, and transaction 1 is to commit;
-- then both
-- are reported
abbrev pub asking : List HostStep
asking =
    marked 0 26 (Reported second_tx (Committed 1) ∷ [])
    (headed one 2 25 5 (to_place client (Client (TcCommitConf second_tx 1))))
    ∷ takes 0 19 (headed one 2 18 4 (to_place client (Client (TcKeyConf second_tx Done))))
    ∷ marked 0 18 (Reported first_tx (Committed 1) ∷ [])
    (headed one 2 17 3 (to_place client (Client (TcCommitConf first_tx 1))))
    ∷ takes 0 12 (request_signal one 11 (request.Commit 1))
    ∷ takes 0 11 (headed one 2 10 2 (to_place client (Client (TcBeginConf None second_tx))))
    ∷ takes 0 9 (request_signal one 8 (request.Operate None second_write))
    ∷ takes 0 8 (headed one 2 7 1 (to_place client (Client (TcKeyConf first_tx Done))))
    ∷ takes 0 4 (request_signal one 3 (request.Operate (Some 1) first_write))
    ∷ takes 0 3 (headed one 2 2 0 (to_place client (Client (TcBeginConf (Some 1) first_tx))))
    ∷ takes 0 1 (request_signal one 0 (request.Begin 1 (Some 1)))
    ∷ []

-- the coordinator and epochs of the node
abbrev pub ordering : List HostStep
ordering =
    takes 2 28 (headed one 2 27 5 (to_place (epochs 1) (Epoch (DiVerifyEnd second_tx))))
    ∷ takes 2 27 (headed one 3 26 5 (to_place (coordinator 1) (Chain (rows.Completed second_tx key))))
    ∷ takes 2 25 (headed one 3 24 4 (to_place (coordinator 1) (Chain (rows.Committed second_tx key))))
    ∷ takes 2 23 (headed one 2 22 4 (to_place (coordinator 1) (Epoch (DiVerifyConf second_tx 1))))
    ∷ marked 2 22 (Decided second_tx 1 ∷ [])
    (headed one 2 21 3 (to_place (epochs 1) (Epoch (DiVerifyReq second_tx ((second_write, Done) ∷ [])))))
    ∷ takes 2 21 (headed one 0 19 5 (to_place (coordinator 1) (Client (TcCommitReq second_tx))))
    ∷ takes 2 20 (headed one 2 19 2 (to_place (epochs 1) (Epoch (DiVerifyEnd first_tx))))
    ∷ takes 2 19 (headed one 3 18 3 (to_place (coordinator 1) (Chain (rows.Completed first_tx key))))
    ∷ takes 2 18 (headed one 3 17 2 (to_place (coordinator 1) (Chain (rows.LqhKeyConf second_tx key Done))))
    ∷ takes 2 17 (headed one 3 16 1 (to_place (coordinator 1) (Chain (rows.Committed first_tx key))))
    ∷ takes 2 15 (headed one 2 14 1 (to_place (coordinator 1) (Epoch (DiVerifyConf first_tx 1))))
    ∷ marked 2 14 (Decided first_tx 1 ∷ [])
    (headed one 2 13 0 (to_place (epochs 1) (Epoch (DiVerifyReq first_tx ((first_write, Done) ∷ [])))))
    ∷ takes 2 13 (headed one 0 12 4 (to_place (coordinator 1) (Client (TcCommitReq first_tx))))
    ∷ takes 2 12 (headed one 0 11 3 (to_place (coordinator 1) (Client (TcKeyReq second_tx second_write))))
    ∷ takes 2 10 (headed one 0 9 2 (to_place (coordinator 1) (Client (TcBeginReq None))))
    ∷ takes 2 7 (headed one 3 6 0 (to_place (coordinator 1) (Chain (rows.LqhKeyConf first_tx key Done))))
    ∷ takes 2 5 (headed one 0 4 1 (to_place (coordinator 1) (Client (TcKeyReq first_tx first_write))))
    ∷ takes 2 2 (headed one 0 1 0 (to_place (coordinator 1) (Client (TcBeginReq (Some 1)))))
    ∷ []

-- the rows of the node: the second put waits, and goes on when the first is committed
abbrev pub serving : List HostStep
serving =
    takes 3 27 (headed one 0 26 1 (to_place (rows_of 1) (Client (TcCommitAck second_tx))))
    ∷ marked 3 26 (Completed second_tx key ∷ [])
    (headed one 2 25 5 (to_place (rows_of 1) (Chain (rows.Complete second_tx key alone 0))))
    ∷ marked 3 24 (Applied second_tx key ∷ [])
    (headed one 2 23 4 (to_place (rows_of 1) (Chain (rows.Commit second_tx key 1 alone 0))))
    ∷ takes 3 19 (headed one 0 18 0 (to_place (rows_of 1) (Client (TcCommitAck first_tx))))
    ∷ marked 3 18 (Completed first_tx key ∷ [])
    (headed one 2 17 3 (to_place (rows_of 1) (Chain (rows.Complete first_tx key alone 0))))
    ∷ marked 3 17 (Prepared second_tx key ∷ []) (headed one 3 16 0 (to_place (rows_of 1) (Host (Continue Granted 0))))
    ∷ marked 3 16 (Applied first_tx key ∷ [])
    (headed one 2 15 2 (to_place (rows_of 1) (Chain (rows.Commit first_tx key 1 alone 0))))
    ∷ takes 3 13 (headed one 2 12 1 (to_place (rows_of 1) (Chain
    (rows.LqhKeyReq second_tx (Operate second_write) alone 0))))
    ∷ marked 3 6 (Prepared first_tx key ∷ [])
    (headed one 2 5 0 (to_place (rows_of 1) (Chain (rows.LqhKeyReq first_tx (Operate first_write) alone 0))))
    ∷ []

-- the logs of all hosts
abbrev pub waited : ℕ → List HostStep
waited zero = asking
waited (suc (suc zero)) = ordering
waited (suc (suc (suc zero))) = serving
waited h = []

-- the two puts as entries
abbrev pub first_entry : Entry
first_entry = record {
  tx = first_tx;
  view = 1;
  stamp = 14;
  host = record { 0 = 2 };
  epoch = 1;
  ops = (first_write, Done) ∷ [];
}

abbrev pub second_entry : Entry
second_entry = record {
  tx = second_tx;
  view = 1;
  stamp = 22;
  host = record { 0 = 2 };
  epoch = 1;
  ops = (second_write, Done) ∷ [];
}

-- the second put, as it waits
abbrev pub waiter : Request
waiter = record { tx = second_tx; work = Operate second_write; chain = alone; at = 0 }

-- These are quiet logs. Behind its second step the node has the second put among those that wait, and in the end nobody
-- waits
-- or holds a lock; the history has both puts in order, and the node the value of the second.
pub record SampleIsGranted : Type 0 where
  pub quiet : AreQuiet lone waited
  pub waits : (lqh_of (after lone 3 (drop 7 (waited 3)))).waiting ≡ waiter ∷ []
  pub none_waits : (lqh_of (after lone 3 (waited 3))).waiting ≡ []
  pub none_holds : (lqh_of (after lone 3 (waited 3))).locks ≡ map.empty
  pub history_is : history (first_hosts lone) waited ≡ first_entry ∷ second_entry ∷ []
  pub row : row_in lone waited 1 key ≡ Some second_value
