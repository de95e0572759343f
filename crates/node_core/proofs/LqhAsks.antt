-- The rows of a node send no request of the shell.
use Rattle.std.proofs.Common.{refl}
use Rattle.sig_core.specs.declared.signal.Body.{Body}
use Rattle.lqh_block.specs.declared.request.Request.{Request}
use Rattle.lqh_block.specs.Lqh.{lqh_table}
use Rattle.lqh_block.specs.State.{LqhState}
use Rattle.lqh_block.proofs.EachLqh.{RequestSends, lqh_sends_each}
use Rattle.api_block.proofs.Quiet.{AsksNone, AsksNothing, each_asks_none}

request_asks : (r : Request) → RequestSends AsksNone r
request_asks r = record {
  log_full = λ used reserved need. refl;
  table_full = λ rows. refl;
  answers = λ a. refl;
  passes = λ image next is. refl;
}

pub lqh_asks : (s : LqhState) (body : Body) → AsksNothing (lqh_table s body)
lqh_asks s body =
    each_asks_none (lqh_table s body).effects.sends
    (lqh_sends_each AsksNone s body
    (record {
      asked = λ r is. request_asks r;
      waited = λ at r is. request_asks r;
      grants_more = refl;
      expires_more = refl;
      commits_on = λ tx key epoch chain at is behind. refl;
      committed = λ tx key epoch chain at sent first. refl;
      completes_on = λ tx key chain at is behind. refl;
      completed = λ tx key chain at sent first. refl;
      aborted = λ tx key sent. refl;
      gives_up = λ tx key is. refl;
      times_out = λ tx key. refl;
      waits = λ tx key ahead sent there. refl;
      dumps = λ at rows next sent. refl;
    }))
