-- What the rows of a node send.
use Rattle.std.proofs.Common.{◌≡◌, true, refl}
use Rattle.sig_core.specs.declared.outs.Outgoing.{Outgoing}
use Rattle.sig_core.specs.declared.signal.Body.{Body}
use Rattle.lqh_block.specs.declared.request.Request.{Request}
use Rattle.lqh_block.specs.Lqh.{lqh_table}
use Rattle.lqh_block.specs.State.{LqhState}
use Rattle.lqh_block.proofs.EachLqh.{RequestSends, lqh_sends_each}
use Rattle.host_laws.proofs.hosts.SendKinds.{SendsOnly, is_lqh_kind, of_each}

pub lqh_kinds : (s : LqhState) (body : Body) → SendsOnly is_lqh_kind (lqh_table s body)
lqh_kinds s body =
    of_each is_lqh_kind (lqh_table s body).effects.sends
    (lqh_sends_each (λ (o : Outgoing). is_lqh_kind o.body ≡ true) s body (record {
      asked = λ r is. request r;
      waited = λ at r is. request r;
      grants_more = refl;
      expires_more = refl;
      commits_on = λ tx key epoch chain at is behind. refl;
      committed = λ tx key epoch chain at sent first. refl;
      completes_on = λ tx key chain at is behind. refl;
      completed = λ tx key chain at sent first. refl;
      aborted = λ tx key sent. refl;
      gives_up = λ tx key is. refl;
      times_out = λ tx key. refl;
      waits = λ tx key ahead sent there. refl;
      dumps = λ at rows next sent. refl;
    }))
  where
    request : (r : Request) → RequestSends (λ (o : Outgoing). is_lqh_kind o.body ≡ true) r
    request r = record {
      log_full = λ used reserved need. refl;
      table_full = λ rows. refl;
      answers = λ a. refl;
      passes =
          λ image next is. refl;
    }
