use Rattle.key_laws.proofs.KeysJoin as join
use Rattle.key_laws.proofs.join_laws.keys_join.Goals as goal

pub returns-clause-legal : goal.returns-clause-legal
returns-clause-legal c = join.keys_join

pub returns-clause-rows : goal.returns-clause-rows
returns-clause-rows c = join.rows_join
