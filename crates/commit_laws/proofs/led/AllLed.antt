-- Where all stands at each moment, each key is led to what the history makes of it; so the history of each cut is
-- legal, and rows follow it.
use Rattle.commit_laws.specs.Cuts.{HistoriesAreLegal, RowsFollowHistories}
use Rattle.commit_laws.specs.Owed.{AbortedAreNotFinal}
use Rattle.commit_laws.specs.Together.{AllStandAlways}
use Rattle.commit_laws.specs.Values.{KeysAreLed}
use Rattle.commit_laws.proofs.fates.AbortedFinals.{aborted_are_not_final}
use Rattle.commit_laws.proofs.led.CutsLegal.{histories_are_legal, rows_follow_histories}
use Rattle.commit_laws.proofs.hosts.DecidersGo.{deciders_go_on}
use Rattle.commit_laws.proofs.fates.Moves.{fates_move}
use Rattle.commit_laws.proofs.fates.FinalsForth.{finals_are_forth}
use Rattle.commit_laws.proofs.forth.KnownComes.{known_commit}
use Rattle.commit_laws.proofs.led.Owed.{keys_are_led}
use Rattle.commit_laws.proofs.links.Transit.{moments_have_transit}

aborted_never : AllStandAlways → AbortedAreNotFinal
aborted_never stand = aborted_are_not_final stand (fates_move known_commit) moments_have_transit deciders_go_on

pub keys_stay_led : AllStandAlways → KeysAreLed
keys_stay_led stand =
    keys_are_led stand moments_have_transit deciders_go_on finals_are_forth (aborted_never stand)

pub legal_histories : AllStandAlways → HistoriesAreLegal
legal_histories stand = histories_are_legal (keys_stay_led stand)

pub followed_histories : AllStandAlways → RowsFollowHistories
followed_histories stand = rows_follow_histories (keys_stay_led stand)
