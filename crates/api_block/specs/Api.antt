-- What the API does, request by request and signal by signal.
use Rattle.std.specs.Prelude.{true, false, None, Some}
use Rattle.sig_core.specs.declared.request.ApiReq.{ApiReq}
use Rattle.sig_core.specs.declared.request.ApiReq.TheVariants.{Begin, Operate, Commit, Abort, Tick, Rows, Digest, Waits}
use Rattle.sig_core.specs.declared.request.ApiReq.TheVariants.{Pending}
use Rattle.sig_core.specs.declared.signal.Body.{Body}
use Rattle.sig_core.specs.declared.signal.Body.TheVariants.{Host, Client}
use Rattle.sig_core.specs.declared.signal.Signal.{Signal}
use Rattle.sig_core.specs.declared.signal.client.ClientSignal.TheVariants.{TcBeginConf, TcBeginRef, TcKeyConf}
use Rattle.sig_core.specs.declared.signal.client.ClientSignal.TheVariants.{TcCommitConf, TcRollbackRep, TcWaitConf}
use Rattle.sig_core.specs.declared.signal.client.ClientSignal.TheVariants.{DumpConf}
use Rattle.sig_core.specs.declared.signal.host.HostSignal.TheVariants.{Continue}
use Rattle.sig_core.specs.declared.signal.host.Work.TheVariants.{Request}
use Rattle.sig_core.specs.Step.{Step, stay}
use Rattle.api_block.specs.Dump.{dumped_row}
use Rattle.api_block.specs.Operate.{answer_row, begun_row, lone_row, operate_row}
use Rattle.api_block.specs.Outcome.{abort_report_row, commit_report_row, refuse_row}
use Rattle.api_block.specs.Commands.{abort_row, begin_row, commit_row, dump_row, tick_row}
use Rattle.api_block.specs.State.{ApiState, about}
use Rattle.api_block.specs.Wait.{behind_row, pending_row, waits_row}

-- what the API does at each request. The others are about no transaction, and it does nothing else at them
unfoldable pub request_row : ApiState → ApiReq → Step ApiState
request_row s (Begin name node) = begin_row s name node
request_row s (Operate None op) = lone_row s op
request_row s (Operate (Some name) op) = operate_row s name op
request_row s (Commit name) = commit_row s name
request_row s (Abort name) = abort_row s name
request_row s (Tick round of) = tick_row s round of
request_row s (Rows node) = dump_row s node false
request_row s (Digest node) = dump_row s node true
request_row s Waits = waits_row s
request_row s Pending = pending_row s
request_row s _ = stay (about s None)

-- what the API does at each signal. It leaves the others alone
abbrev pub api_table : ApiState → Body → Step ApiState
api_table s (Host (Continue (Request request) at)) = request_row s request
api_table s (Client (TcBeginConf name tx)) = begun_row s name tx
api_table s (Client (TcBeginRef name)) = stay (refuse_row s name)
api_table s (Client (TcKeyConf tx answer)) = answer_row s tx answer
api_table s (Client (TcCommitConf tx epoch)) = commit_report_row s tx epoch
api_table s (Client (TcRollbackRep tx cause)) = abort_report_row s tx cause
api_table s (Client (TcWaitConf tx ahead)) = stay (behind_row s tx ahead)
api_table s (Client (DumpConf rows next)) = dumped_row s rows next
api_table s _ = stay s

-- what the block does at each signal
abbrev pub api_row : ApiState → Signal → Step ApiState
api_row s x = api_table s x.body
