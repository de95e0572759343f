-- What the rows of a node do, signal by signal.
use Rattle.std.specs.Prelude.{ℕ, []}
use Rattle.std.specs.FinMap as map
use Rattle.sig_core.specs.declared.signal.Body.{Body}
use Rattle.sig_core.specs.declared.signal.Body.TheVariants.{Host, Client, Chain}
use Rattle.sig_core.specs.declared.signal.Signal.{Signal}
use Rattle.sig_core.specs.declared.signal.chain.ChainSignal.TheVariants.{LqhKeyReq, Commit, Complete, Abort}
use Rattle.sig_core.specs.declared.signal.client.ClientSignal.TheVariants.{TcCommitAck, LqhWaitReq, DumpReq}
use Rattle.sig_core.specs.declared.signal.host.HostSignal.TheVariants.{Round, Continue}
use Rattle.sig_core.specs.declared.signal.host.Work.TheVariants.{Granted, Expired}
use Rattle.sig_core.specs.declared.view.View.{View}
use Rattle.frag_map.specs.Layout.{Layout}
use Rattle.frag_map.specs.Layout as layouts
use Rattle.sig_core.specs.Journal.{JournalState, OutletState}
use Rattle.sig_core.specs.Rows.{RowsState}
use Rattle.sig_core.specs.Step.{Step, stay}
use Rattle.lqh_block.specs.Abort.{abort_row}
use Rattle.lqh_block.specs.Commit.{commit_row}
use Rattle.lqh_block.specs.Complete.{complete_row}
use Rattle.lqh_block.specs.Dump.{dump_row}
use Rattle.lqh_block.specs.Expire.{expire_row, round_row}
use Rattle.lqh_block.specs.Operate.{granted_row, request_row}
use Rattle.lqh_block.specs.State.{LqhState}
use Rattle.lqh_block.specs.Wait.{acknowledged, wait_row}

-- a node's rows before the first signal
abbrev pub unasked_yet : ℕ → Layout → RowsState → JournalState → OutletState → LqhState
unasked_yet node layout rows journal outlet =
    record {
      node = node;
      layout = layout;
      rows = rows;
      journal = journal;
      outlet = outlet;
      locks = map.empty;
      waiting = [];
      markers = [];
    }

-- another view is installed
abbrev pub in_view : LqhState → View → LqhState
in_view s view = record {
  node = s.node;
  layout = layouts.in_view s.layout view;
  rows = s.rows;
  journal = s.journal;
  outlet = s.outlet;
  locks = s.locks;
  waiting = s.waiting;
  markers = s.markers;
}

-- what the block does, by what a signal says. It leaves the others alone
abbrev pub lqh_table : LqhState → Body → Step LqhState
lqh_table s (Chain (LqhKeyReq tx work chain at)) = request_row s (record {
  tx = tx;
  work = work;
  chain = chain;
  at = at;
})
lqh_table s (Host (Continue Granted at)) = granted_row s
lqh_table s (Chain (Commit tx key epoch chain at)) = commit_row s tx key epoch chain at
lqh_table s (Chain (Complete tx key chain at)) = complete_row s tx key chain at
lqh_table s (Chain (Abort tx key)) = abort_row s tx key
lqh_table s (Client (TcCommitAck tx)) = stay (acknowledged s tx)
lqh_table s (Client (LqhWaitReq tx key)) = wait_row s tx key
lqh_table s (Client (DumpReq at)) = dump_row s at
lqh_table s (Host Round) = round_row s
lqh_table s (Host (Continue Expired at)) = expire_row s
lqh_table s _ = stay s

-- what the block does at each signal
abbrev pub lqh_row : LqhState → Signal → Step LqhState
lqh_row s x = lqh_table s x.body
