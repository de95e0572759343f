-- What the rows and the epochs of a node send is set.
use Rattle.std.proofs.Common.{◌≡◌, ◌≤◌, [], ◌∷◌, refl}
use Rattle.sig_core.specs.declared.outs.Outgoing.{Outgoing}
use Rattle.sig_core.specs.declared.signal.Body.{Body}
use Rattle.lqh_block.specs.declared.request.Request.{Request}
use Rattle.lqh_block.specs.Lqh.{lqh_table}
use Rattle.lqh_block.specs.State.{LqhState}
use Rattle.lqh_block.proofs.EachLqh.{RequestSends, lqh_sends_each}
use Rattle.node_core.specs.Dih.{DihState, dih_table}
use Rattle.node_core.proofs.DihForms.{dih_forms}
use Rattle.calm_laws.proofs.places.Sent.{AreSet, IsSet, client_set, coordinator_set, goes_along, home_set, rows_set}

-- a request that is performed
request_set : (r : Request) → RequestSends (λ (o : Outgoing). IsSet o.to o.body) r
request_set r = record {
  log_full = λ used reserved need. goes_along refl;
  table_full = λ rows. goes_along refl;
  answers = λ a. goes_along refl;
  passes = λ image next is. goes_along refl;
}

-- whatever the rows take
pub rows_send : (s : LqhState) (body : Body) → 1 ≤ s.node → AreSet (lqh_table s body).effects.sends
rows_send s body some =
    lqh_sends_each (λ (o : Outgoing). IsSet o.to o.body) s body (record {
      asked = λ r is. request_set r;
      waited = λ at r is. request_set r;
      grants_more = rows_set s.node _ some refl;
      expires_more = rows_set s.node _ some refl;
      commits_on = λ tx key epoch chain at is behind. goes_along refl;
      committed = λ tx key epoch chain at is first. goes_along refl;
      completes_on = λ tx key chain at is behind. goes_along refl;
      completed = λ tx key chain at is first. goes_along refl;
      aborted = λ tx key is. goes_along refl;
      gives_up = λ tx key is. goes_along refl;
      times_out = λ tx key. goes_along refl;
      waits = λ tx key ahead is there. home_set tx _ (ahead ∷ []) refl refl;
      dumps = λ at rows next is. client_set _ refl;
    })

-- whatever the epochs take
pub epochs_send : (s : DihState) (body : Body) → 1 ≤ s.node → AreSet (dih_table s body).effects.sends
epochs_send s body some =
    dih_forms (λ taken step. AreSet step.effects.sends) s (record {
      decides = λ tx ops low. (coordinator_set s.node _ some refl, tt);
      is_full = λ tx ops high. tt;
      ends = λ tx at there. tt;
      misses = λ tx none. tt;
      rests = λ taken off. tt;
    }) body

-- the epochs stay those of their node
pub dih_node : (s : DihState) (body : Body) → (dih_table s body).state.node ≡ s.node
dih_node s =
    dih_forms (λ taken step. step.state.node ≡ s.node) s (record {
      decides = λ tx ops low. refl;
      is_full = λ tx ops high. refl;
      ends = λ tx at there. refl;
      misses = λ tx none. refl;
      rests = λ taken off. refl;
    })
