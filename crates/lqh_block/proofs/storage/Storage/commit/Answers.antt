use Rattle.lqh_block.proofs.DueLemmas.{commit_fits}
use Rattle.lqh_block.proofs.storage.Storage.commit.Goals as goal

pub append-requires : goal.append-requires
append-requires g c =
    commit_fits (g.R.Rows.state_of c.args.self.now.rows) (g.J.Journal.used_of c.args.self.now.journal)
    c.args.tx c.args.key.now c.args.epoch c.args.self.now.covered c.requires
