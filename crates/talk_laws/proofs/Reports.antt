-- What the client is told: the laws of reports, put together.
use Rattle.talk_laws.specs.Reports.{ReportsAreMarked}
use Rattle.talk_laws.proofs.ReportsAsked.{asked_of_its_transaction}
use Rattle.talk_laws.proofs.ReportsNames.{named_once}
use Rattle.talk_laws.proofs.ReportsRequested.{asked_as_requested}
use Rattle.talk_laws.proofs.ReportsSingle.{told_few}
use Rattle.talk_laws.proofs.ReportsTold.{answers_are_heard, ends_are_marked, told_under_names}

pub reported : ReportsAreMarked
reported start nobody logs right = record {
  told = ends_are_marked start nobody logs right;
  heard = answers_are_heard start nobody logs right;
  told_own = told_under_names start nobody logs right;
  single = λ tx. told_few tx start nobody (logs 0);
  requested = λ newer e before is. asked_as_requested start nobody e before;
  of_one = λ newer before is. named_once start nobody before;
  asks_own = λ newer e before is. asked_of_its_transaction start nobody e before;
}
