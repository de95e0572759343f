use Rattle.lqh_block.proofs.DueLemmas.{covered_complete}
use Rattle.lqh_block.proofs.storage.Storage.complete.Goals as goal

pub invariant_of-self : goal.invariant_of-self
invariant_of-self g c =
    record {
      covered = rw c.complete.ensures
          (covered_complete (g.R.Rows.state_of c.args.self.now.rows) (g.J.Journal.used_of c.args.self.now.journal)
          c.args.tx c.args.key.now c.args.self.now.covered);
    }
