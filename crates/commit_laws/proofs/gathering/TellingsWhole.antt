-- When the last member ends, a takeover has gathered what it was told, and what it was told is so.
use Rattle.commit_laws.specs.Telling.{OrdersComeFirst, TellingsAreGathered}
use Rattle.commit_laws.proofs.gathering.EntriesPrepared.{entries_prepared}
use Rattle.commit_laws.proofs.gathering.TellingsGathered.{gathered_noted}

pub tellings_gathered : OrdersComeFirst → TellingsAreGathered
tellings_gathered first start all e es moment member closing = record {
  noted = gathered_noted first start all e es moment member closing;
  prepared = entries_prepared start all e es moment member closing;
}
