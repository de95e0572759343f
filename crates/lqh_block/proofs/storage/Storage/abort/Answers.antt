use Rattle.std.proofs.Common.{arith}
use Rattle.lqh_block.proofs.DueLemmas.{abort_fits}
use Rattle.lqh_block.proofs.storage.Storage.abort.Goals as goal

pub append-requires : goal.append-requires
append-requires g c =
    let fits = abort_fits (g.R.Rows.state_of c.args.self.now.rows) (g.J.Journal.used_of c.args.self.now.journal)
    c.args.tx c.args.key.now c.args.self.now.covered c.requires in
    omega (arith, fits)

pub unreserve-requires : goal.unreserve-requires
unreserve-requires g c =
    let fits = abort_fits (g.R.Rows.state_of c.args.self.now.rows) (g.J.Journal.used_of c.args.self.now.journal)
    c.args.tx c.args.key.now c.args.self.now.covered c.requires in
    rw c.append.ensures.used (omega (arith, fits))
