-- No plain host looks at epochs.
use Rattle.level_laws.specs.Laws.{HostsAreLevel}
use Rattle.level_laws.proofs.HostLevels.{hosts_level}
use Rattle.level_laws.proofs.LqhLevels.{rows_level}
use Rattle.level_laws.proofs.TcLevels.{coordinators_level}

pub all_level : HostsAreLevel
all_level = hosts_level coordinators_level rows_level
