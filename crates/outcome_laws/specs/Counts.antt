-- How often a transaction may still begin, ask for an epoch, be decided and be reported.
use Rattle.std.specs.Prelude.{◌≡◌, ◌<◌, ◌+◌, ◌&&◌, not, nat_le, ℕ, Bool, true, false, List}
use Rattle.std.specs.List.{count_by}
use Rattle.run_theory.specs.Lists.{Each}
use Rattle.sig_core.specs.declared.mark.Mark.{Mark}
use Rattle.sig_core.specs.declared.mark.Mark.TheVariants.{Decided, Reported}
use Rattle.sig_core.specs.declared.member.Member.{Member}
use Rattle.sig_core.specs.declared.member.TxId.{TxId}
use Rattle.sig_core.specs.declared.outs.Outgoing.{Outgoing}
use Rattle.sig_core.specs.declared.signal.Body.{Body}
use Rattle.sig_core.specs.declared.signal.Body.TheVariants.{Client, Epoch}
use Rattle.sig_core.specs.declared.signal.client.ClientSignal.TheVariants.{TcBeginConf, TcCommitReq}
use Rattle.sig_core.specs.declared.signal.epoch.EpochSignal.TheVariants.{DiVerifyReq}
use Rattle.sig_core.specs.Same.{same_tx}
use Rattle.api_block.specs.declared.opened.Doing.{Doing}
use Rattle.api_block.specs.declared.opened.Doing.TheVariants as doing
use Rattle.api_block.specs.declared.opened.OpenTransaction.{OpenTransaction}
use Rattle.api_block.specs.Opened.{has_tx}
use Rattle.api_views.specs.State.{ClientState}
use Rattle.tc_block.specs.declared.transaction.Transaction.{Transaction}
use Rattle.tc_block.specs.Phases.{is_open}
use Rattle.tc_block.specs.Complete.{one_if}
use Rattle.tc_views.specs.State.{CoordinatorState}
use Rattle.tc_views.specs.Laws.{AreOnce}
use Rattle.dih_node.specs.State.{DihState}

-- the member whose coordinator began a transaction
abbrev pub coordinator_member : TxId → Member
coordinator_member tx = record { node = tx.tc; start = tx.start }

-- the signal tells the client that the transaction has begun
abbrev pub is_begin : TxId → Body → Bool
is_begin tx (Client (TcBeginConf name other)) = same_tx other tx
is_begin tx body = false

-- it asks the coordinator for the commit
abbrev pub is_wish : TxId → Body → Bool
is_wish tx (Client (TcCommitReq other)) = same_tx other tx
is_wish tx body = false

-- it asks for an epoch
abbrev pub is_asking : TxId → Body → Bool
is_asking tx (Epoch (DiVerifyReq other ops)) = same_tx other tx
is_asking tx body = false

-- the mark decides the transaction, or reports its outcome
abbrev pub is_decision : TxId → Mark → Bool
is_decision tx (Decided other epoch) = same_tx other tx
is_decision tx mark = false

abbrev pub is_report : TxId → Mark → Bool
is_report tx (Reported other outcome) = same_tx other tx
is_report tx mark = false

-- how many of these signals pass a test
abbrev pub count_sent : (Body → Bool) → List Outgoing → ℕ
count_sent p sends = count_by (λ (sent : Outgoing). p sent.body) sends

-- the coordinator hasn't come to the number of the transaction
abbrev pub is_unborn : CoordinatorState → TxId → Bool
is_unborn s tx = nat_le s.tc.next_seq tx.seq

-- the transaction takes operations
abbrev pub is_open_of : TxId → TxId × Transaction → Bool
is_open_of tx e = same_tx e.0 tx && is_open e.1.phase

-- it may still ask for an epoch
abbrev pub may_ask : CoordinatorState → TxId → ℕ
may_ask s tx = one_if (is_unborn s tx) + count_by (is_open_of tx) s.tc.live

-- the coordinator of a member: all its transactions are its own, each with a number that it has come to, and none twice
pub record IsCoordinatorOf (member : Member) (s : CoordinatorState) : Type 0 where
  pub node_is : s.tc.node ≡ member.node
  pub start_is : s.tc.start ≡ member.start
  pub own : Each (λ (e : TxId × Transaction). coordinator_member e.0 ≡ member) s.tc.live
  pub begun : Each (λ (e : TxId × Transaction). e.0.seq < s.tc.next_seq) s.tc.live
  pub once : AreOnce s.tc.live

-- requests of the transaction that the epochs of a node hold
abbrev pub count_held : TxId → DihState → ℕ
count_held tx s = count_by (same_tx tx) s.held

-- transactions of this number that are open for the client, and of them those whose commit it hasn't asked for
abbrev pub count_open : TxId → ClientState → ℕ
count_open tx s = count_by (has_tx tx) s.api.opened

abbrev pub is_committing : Doing → Bool
is_committing doing.Committing = true
is_committing other = false

abbrev pub is_unwished : TxId → OpenTransaction → Bool
is_unwished tx t = has_tx tx t && not (is_committing t.doing)

abbrev pub count_unwished : TxId → ClientState → ℕ
count_unwished tx s = count_by (is_unwished tx) s.api.opened
