-- Where the coordinator that may be told of an end is a full member, all goes where the rows send it.
use Rattle.std.proofs.Common.{◌≡◌, true, subst}
use Rattle.sig_core.specs.declared.signal.Body.{Body}
use Rattle.sig_core.specs.declared.signal.Signal.{Signal}
use Rattle.sig_core.specs.declared.view.View.{View}
use Rattle.lqh_block.specs.declared.request.Request.{Request}
use Rattle.lqh_block.specs.Lqh.{lqh_row}
use Rattle.lqh_block.specs.State.{LqhState}
use Rattle.lqh_block.proofs.EachLqh.{RequestSends, RowsSend, lqh_sends_each}
use Rattle.lqh_views.specs.Address.{ended, goes_straight, is_owner}
use Rattle.lqh_views.specs.Laws.{IsCalm, beside}
use Rattle.lqh_views.specs.Replica.{passed}
use Rattle.lqh_views.specs.State.{ReplicaState}
use Rattle.lqh_views.proofs.LawLemmas.{passed_beside}

request_calm : (view : View) (r : Request) → RequestSends (IsCalm view) r
request_calm view r = record {
  log_full = λ used reserved need. tt;
  table_full = λ rows. tt;
  answers = λ a. tt;
  passes = λ image next is. tt;
}

rows_calm : (view : View) (s : LqhState) (body : Body) → goes_straight view body ≡ true → RowsSend (IsCalm view) s body
rows_calm view s body straight = record {
  asked = λ r is. request_calm view r;
  waited = λ at r is. request_calm view r;
  grants_more = tt;
  expires_more = tt;
  commits_on = λ tx key epoch chain at is behind. tt;
  committed = λ tx key epoch chain at is first. subst owns is straight;
  completes_on = λ tx key chain at is behind. tt;
  completed = λ tx key chain at is first. subst owns is straight;
  aborted = λ tx key is. subst owns is straight;
  gives_up = λ tx key is. tt;
  times_out = λ tx key. tt;
  waits = λ tx key ahead is there. tt;
  dumps = λ at rows next is. tt;
}
  where
    owns : Body → Type 0
    owns b = is_owner view.full (ended b) ≡ true

pub passed_straight : (s : ReplicaState) (x : Signal) → goes_straight s.lqh.layout.view x.body ≡ true
    → passed s x ≡ beside s (lqh_row s.lqh x)
passed_straight s x straight =
    passed_beside s x (lqh_sends_each (IsCalm s.lqh.layout.view) s.lqh x.body
    (rows_calm s.lqh.layout.view s.lqh x.body straight))
