-- All of it stands at each moment.
use Rattle.commit_laws.specs.Together.{AllStandAlways, EventsKeepAnswered}
use Rattle.commit_laws.proofs.answered.Events.{CoordinatorAnswers, events_keep_answered}
use Rattle.commit_laws.proofs.answered.Answered.{host_answered}
use Rattle.commit_laws.proofs.settled.First.{first_all}
use Rattle.commit_laws.proofs.gathering.All.{all_is_told}
use Rattle.commit_laws.proofs.parts.Always.{parts_kept}
use Rattle.commit_laws.proofs.settled.Stand.{stand_always}

coordinators_answer : CoordinatorAnswers
coordinators_answer start all e es follows moves member there at takeover =
    host_answered start all e es follows.moment member there at takeover

answers_kept : EventsKeepAnswered
answers_kept = events_keep_answered coordinators_answer

pub all_stand : AllStandAlways
all_stand = stand_always first_all answers_kept parts_kept all_is_told
