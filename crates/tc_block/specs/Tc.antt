-- What the coordinator does, signal by signal.
use Rattle.std.specs.Prelude.{ℕ, ◌+◌, ◌-◌, ◌^◌, ◌==◌, Bool, true, false, ◌||◌, nat_le, is_some, [], length, Option}
use Rattle.indexmap.specs.IndexMap.{insert_entry}
use Rattle.sig_core.specs.declared.member.TxId.{TxId}
use Rattle.sig_core.specs.declared.signal.Body.{Body}
use Rattle.sig_core.specs.declared.signal.Body.TheVariants.{Host, Client, Chain, Epoch}
use Rattle.sig_core.specs.declared.signal.Signal.{Signal}
use Rattle.sig_core.specs.declared.signal.chain.ChainSignal.TheVariants.{LqhKeyConf, LqhKeyRef, Committed, Completed}
use Rattle.sig_core.specs.declared.signal.chain.ChainSignal.TheVariants.{Aborted}
use Rattle.sig_core.specs.declared.signal.client.ClientSignal.TheVariants.{TcBeginReq, TcBeginConf, TcBeginRef}
use Rattle.sig_core.specs.declared.signal.client.ClientSignal.TheVariants.{TcKeyReq, TcCommitReq, TcRollbackReq}
use Rattle.sig_core.specs.declared.signal.client.ClientSignal.TheVariants.{TcWaitReq, TcWaitConf, LqhWaitConf}
use Rattle.sig_core.specs.declared.signal.epoch.EpochSignal.TheVariants.{DiVerifyConf}
use Rattle.sig_core.specs.declared.signal.host.HostSignal.TheVariants.{Continue}
use Rattle.sig_core.specs.declared.signal.host.Work.TheVariants.{Transaction}
use Rattle.sig_core.specs.declared.view.View.{View}
use Rattle.frag_map.specs.Layout.{Layout}
use Rattle.tc_block.specs.declared.tc.TheConstants.{TRANSACTIONS}
use Rattle.frag_map.specs.Layout as layouts
use Rattle.sig_core.specs.Same.{same_tx}
use Rattle.sig_core.specs.Step.{Step, stay, sending}
use Rattle.tc_block.specs.Abort.{aborted_row, refuse_row, rollback_row}
use Rattle.tc_block.specs.Commit.{commit_row, committed_row, verify_row}
use Rattle.tc_block.specs.Complete.{completed_row}
use Rattle.tc_block.specs.Live.{place_in, step_of, turn_of}
use Rattle.tc_block.specs.Operate.{answer_row, fresh, operate_row, wait_row}
use Rattle.sig_core.specs.Place.{client}
use Rattle.tc_block.specs.Sends.{go_on_row}
use Rattle.tc_block.specs.State.{TcState}

-- a coordinator that has begun no transaction
abbrev pub idle : ℕ → ℕ → Layout → TcState
idle node start layout = record { node = node; start = start; next_seq = 1; layout = layout; live = [] }

-- the transaction with the next number
abbrev pub next_tx : TcState → TxId
next_tx s = record { tc = s.node; start = s.start; seq = s.next_seq }

-- as many transactions as a coordinator keeps aren't forgotten, or the numbers are used up
abbrev pub is_full : TcState → Bool
is_full s = nat_le TRANSACTIONS (length s.live) || s.next_seq == 2 ^ 64 - 1

-- a transaction begins, as the last of those that aren't forgotten
abbrev pub begun : TcState → TcState
begun s =
    record {
      node = s.node;
      start = s.start;
      next_seq = s.next_seq + 1;
      layout = s.layout;
      live = insert_entry same_tx s.live (next_tx s) fresh;
    }

abbrev pub begin_if : TcState → Option ℕ → Bool → Step TcState
begin_if s name true = sending s client (Client (TcBeginRef name))
begin_if s name false = sending (begun s) client (Client (TcBeginConf name (next_tx s)))

-- a transaction is to begin
unfoldable pub begin_row : TcState → Option ℕ → Step TcState
begin_row s name = begin_if s name (is_full s)

abbrev pub pass_if : TcState → TxId → TxId → Bool → Step TcState
pass_if s tx ahead true = sending s client (Client (TcWaitConf tx ahead))
pass_if s tx ahead false = stay s

-- who holds the lock that a transaction waits for is passed on, unless the transaction is forgotten
unfoldable pub pass_row : TcState → TxId → TxId → Step TcState
pass_row s tx ahead = pass_if s tx ahead (is_some (place_in s tx))

-- another view is installed
abbrev pub in_view : TcState → View → TcState
in_view s view = record {
  node = s.node;
  start = s.start;
  next_seq = s.next_seq;
  layout = layouts.in_view s.layout view;
  live = s.live;
}

-- what the coordinator does, by what a signal says. It leaves the others alone
abbrev pub tc_table : TcState → Body → Step TcState
tc_table s (Host (Continue (Transaction tx) at)) = step_of s tx (λ t. go_on_row s.node s.layout tx t at)
tc_table s (Client (TcBeginReq name)) = begin_row s name
tc_table s (Client (TcKeyReq tx op)) = step_of s tx (λ t. operate_row s.layout tx t op)
tc_table s (Client (TcCommitReq tx)) = step_of s tx (λ t. verify_row s.node tx t)
tc_table s (Client (TcRollbackReq tx)) = turn_of s tx (λ t. rollback_row s.node s.layout tx t)
tc_table s (Client (TcWaitReq tx)) = step_of s tx (λ t. wait_row tx t)
tc_table s (Client (LqhWaitConf tx ahead)) = pass_row s tx ahead
tc_table s (Chain (LqhKeyConf tx key answer)) = step_of s tx (λ t. answer_row s.layout tx t key answer)
tc_table s (Chain (LqhKeyRef tx key cause)) = turn_of s tx (λ t. refuse_row s.node s.layout tx t key cause)
tc_table s (Chain (Committed tx key)) = turn_of s tx (λ t. committed_row s.node s.layout tx t)
tc_table s (Chain (Completed tx key)) = turn_of s tx (λ t. completed_row s.node tx t)
tc_table s (Chain (Aborted tx key)) = turn_of s tx (λ t. aborted_row s.node tx t)
tc_table s (Epoch (DiVerifyConf tx epoch)) = turn_of s tx (λ t. commit_row s.node s.layout tx t epoch)
tc_table s _ = stay s

-- what the coordinator does at each signal
abbrev pub tc_row : TcState → Signal → Step TcState
tc_row s x = tc_table s x.body
