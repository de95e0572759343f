-- How the locks of a node are told apart from others as data.
use Rattle.std.specs.Coded.{Coded, coded_list, coded_ℕ}
use Rattle.std.specs.FinMap as map
use Rattle.row_locks.specs.Codes.{lock_code}
use Rattle.row_locks.specs.Tables.{Locks}

abbrev pub locks_code : Coded Locks
locks_code = map.code (coded_list coded_ℕ) lock_code
