-- What is known of each transaction at quiet, put together.
use Rattle.world_core.specs.Hosts.{home}
use Rattle.answer_laws.proofs.Asks.{each_asks_where_operating}
use Rattle.answer_laws.proofs.Commits.{no_commit}
use Rattle.answer_laws.proofs.Lives.{each_lives, live_low}
use Rattle.answer_laws.proofs.Ops.{operations_wait}
use Rattle.answer_laws.specs.Answered.{EachIsKeptByCoordinator}

pub each_served : EachIsKeptByCoordinator
each_served start logs t quiet inside tx is =
    let l = each_lives start logs t quiet inside tx is in
    let low = live_low start logs tx l.transaction quiet (home start tx) l.live in
    record {
      transaction = l.transaction;
      live = l.live;
      unreported = l.unreported;
      uncommitted = no_commit start logs (home start tx) tx l.transaction quiet low l.live;
      operating =
          λ asked asks. each_asks_where_operating start logs t quiet inside tx l.transaction asked is l.live asks;
      waiting = λ asked asks. operations_wait start logs (home start tx) tx l.transaction asked quiet low l.live asks;
    }
