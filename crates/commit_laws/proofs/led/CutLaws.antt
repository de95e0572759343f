-- What right logs have of transactions.
use Rattle.commit_laws.specs.Cuts.{AbortsTakeNone, CommitsTakeEffect, HistoriesAreLegal, RecordsAgree}
use Rattle.commit_laws.specs.Cuts.{RestingRowsFollow}
use Rattle.commit_laws.specs.Reported.{GatheringsList}
use Rattle.commit_laws.proofs.reported.AbortsEffectless.{aborts_take_none}
use Rattle.commit_laws.proofs.settled.All.{all_stand}
use Rattle.commit_laws.proofs.markers.AppliedCommits.{applied_commit}
use Rattle.commit_laws.proofs.reported.CommitsEffective.{commits_take_effect}
use Rattle.commit_laws.proofs.gathering.EndedAll.{all_have_ended}
use Rattle.commit_laws.proofs.gathering.EndsBehind.{ends_come_behind}
use Rattle.commit_laws.proofs.gathering.Listed.{gatherings_list}
use Rattle.commit_laws.proofs.led.AllLed.{legal_histories}
use Rattle.commit_laws.proofs.orders.First.{orders_come_first}
use Rattle.commit_laws.proofs.records.AgreedCuts.{records_agree}
use Rattle.commit_laws.proofs.reported.Aborts.{reported_abort}
use Rattle.commit_laws.proofs.led.RestingRows as RestingRows
use Rattle.commit_laws.proofs.gathering.TellingsWhole.{tellings_gathered}

pub histories_legal : HistoriesAreLegal
histories_legal = legal_histories all_stand

pub resting_rows : RestingRowsFollow
resting_rows = RestingRows.resting_rows all_stand

pub commits_effective : CommitsTakeEffect
commits_effective = commits_take_effect all_stand

pub aborts_effectless : AbortsTakeNone
aborts_effectless = aborts_take_none (reported_abort all_stand listed) (applied_commit all_stand)
  where
    listed : GatheringsList
    listed =
        gatherings_list ends_come_behind all_have_ended (tellings_gathered orders_come_first) orders_come_first

pub records_alike : RecordsAgree
records_alike = records_agree
