-- What the crates above use of the API: replies that were given change nothing, and it sends no request of the shell.
use Rattle.std.proofs.Common.{◌≡◌, true, false, List, refl, ap}
use Rattle.std.specs.Prelude.{None, Some}
use Rattle.sig_core.specs.declared.mark.Mark.{Mark}
use Rattle.sig_core.specs.declared.reply.ApiReply.{ApiReply}
use Rattle.sig_core.specs.declared.request.ApiReq.{ApiReq}
use Rattle.sig_core.specs.declared.request.ApiReq.TheVariants.{Begin, Operate, Commit, Abort, Tick, Rows, Digest, Waits}
use Rattle.sig_core.specs.declared.request.ApiReq.TheVariants.{Pending}
use Rattle.sig_core.specs.declared.signal.Body.{Body}
use Rattle.sig_core.specs.declared.signal.Body.TheVariants.{Host, Client}
use Rattle.sig_core.specs.declared.signal.client.ClientSignal.TheVariants.{TcBeginConf, TcBeginRef, TcKeyConf}
use Rattle.sig_core.specs.declared.signal.client.ClientSignal.TheVariants.{TcCommitConf, TcRollbackRep, TcWaitConf}
use Rattle.sig_core.specs.declared.signal.client.ClientSignal.TheVariants.{DumpConf}
use Rattle.sig_core.specs.declared.signal.host.HostSignal.TheVariants.{Continue}
use Rattle.sig_core.specs.declared.signal.host.Work.TheVariants.{Request}
use Rattle.sig_core.specs.Step.{stay}
use Rattle.api_block.specs.Api.{api_table, request_row}
use Rattle.api_block.specs.declared.opened.OpenTransaction.{OpenTransaction}
use Rattle.api_block.specs.Given.{in_given, step_in_given}
use Rattle.api_block.specs.State.{ApiState}
use Rattle.api_block.proofs.EachApi.{api_each, opened_any}
use Rattle.api_block.proofs.Quiet.{AsksNone, AsksNothing, each_asks_none}
use Rattle.api_block.proofs.ApiGiven.{abort_given, abort_report_given, answer_given, begin_given, begun_given}
use Rattle.api_block.proofs.ApiGiven.{behind_given, commit_given, commit_report_given, dump_given, dumped_given}
use Rattle.api_block.proofs.ApiGiven.{lone_given, operate_given, pending_given, refuse_given, tick_given, waits_given}

-- at a request
pub given_request : (given : List ApiReply) (s : ApiState) (request : ApiReq)
    → request_row (in_given given s) request ≡ step_in_given given (request_row s request)
unfolding request_row
given_request given s (Begin name node) = begin_given given s name node
given_request given s (Operate None op) = lone_given given s op
given_request given s (Operate (Some name) op) = operate_given given s name op
given_request given s (Commit name) = commit_given given s name
given_request given s (Abort name) = abort_given given s name
given_request given s (Tick round of) = tick_given given s round of
given_request given s (Rows node) = dump_given given s node false
given_request given s (Digest node) = dump_given given s node true
given_request given s Waits = waits_given given s
given_request given s Pending = pending_given given s
given_request given s _ = refl

-- what the API does at a signal doesn't depend on the replies that it gave
pub given_row : (given : List ApiReply) (s : ApiState) (body : Body)
    → api_table (in_given given s) body ≡ record {
      state = in_given given (api_table s body).state;
      effects = (api_table s body).effects;
    }
given_row given s (Host (Continue (Request request) at)) = given_request given s request
given_row given s (Client (TcBeginConf name tx)) = begun_given given s name tx
given_row given s (Client (TcBeginRef name)) = ap (λ (state : ApiState). stay state) (refuse_given given s name)
given_row given s (Client (TcKeyConf tx answer)) = answer_given given s tx answer
given_row given s (Client (TcCommitConf tx epoch)) = commit_report_given given s tx epoch
given_row given s (Client (TcRollbackRep tx cause)) = abort_report_given given s tx cause
given_row given s (Client (TcWaitConf tx ahead)) = ap (λ (state : ApiState). stay state) (behind_given given s tx ahead)
given_row given s (Client (DumpConf rows next)) = dumped_given given s rows next
given_row given s _ = refl

-- the API sends no request of the shell
pub api_asks : (s : ApiState) (body : Body) → AsksNothing (api_table s body)
api_asks s body =
    each_asks_none (api_table s body).effects.sends
    (api_each (λ (t : OpenTransaction). Unit {0}) AsksNone (λ (m : Mark). Unit {0}) s body
    (record {
      asked = λ name node op. tt;
      changed = λ t u same own. tt;
      begun = λ name tx u is own. tt;
      begins = λ name node. refl;
      operates = λ t tx op own is. refl;
      commits = λ t tx own is. refl;
      rolls_back = λ t tx own is. refl;
      waits = λ t tx own is. refl;
      ticks = λ node. refl;
      acknowledges = λ tx epoch node is. refl;
      dumps = λ node at. refl;
      committed = λ tx epoch is. tt;
      aborted = λ tx why is. tt;
    })
    (opened_any s.opened)).sends
