-- When all members have ended, a takeover was told of all that they have.
use Rattle.commit_laws.specs.Gathering.{GatheringsAreWhole}
use Rattle.commit_laws.proofs.gathering.EndedAll.{all_have_ended}
use Rattle.commit_laws.proofs.gathering.EndsBehind.{ends_come_behind}
use Rattle.commit_laws.proofs.gathering.Whole.{gatherings_are_whole}
use Rattle.commit_laws.proofs.orders.First.{orders_come_first}
use Rattle.commit_laws.proofs.gathering.TellingsWhole.{tellings_gathered}

pub all_is_told : GatheringsAreWhole
all_is_told = gatherings_are_whole ends_come_behind all_have_ended (tellings_gathered orders_come_first)
