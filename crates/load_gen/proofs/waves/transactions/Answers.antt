use Rattle.load_gen.proofs.Draws.{none_yet, one_more}
use Rattle.load_gen.proofs.waves.transactions.Goals as goal

pub transactions-init : goal.transactions-init
transactions-init c = (c.new-commands.ensures, none_yet c.args.x)

pub transactions-preserved : goal.transactions-preserved
transactions-preserved c =
    one_more c.transactions.t c.args.x c.transactions.at _ _ _ c.transactions.invariant.0 c.transactions.invariant.1
    c.in_ok-at.ensures.commands c.in_ok-at.ensures.ring
