use Rattle.std.proofs.Common.{ap, subst, sym, length, ◌<◌, ◌-◌, ◌^◌}
use Rattle.link_queue.specs.declared.rule.PassView.{PassView}
use Rattle.link_queue.specs.End.{End, IsSentBy}
use Rattle.link_queue.proofs.Steps.{sends, newest}
use Rattle.link_queue.proofs.sender.LinkTx.offer.Goals as goal

pub push_as-requires-clause-rule : goal.push_as-requires-clause-rule
push_as-requires-clause-rule g c =
    let may = ap (λ (v : PassView). v.sends) c.self.invariant.1 in (
      sends _ _ _ _ may (subst (λ (e : End). length e.signals < 2 ^ 64 - 1) (sym c.self.view_is) c.requires.room)
          (subst (λ (e : End). IsSentBy e.from c.args.signal) (sym c.self.view_is) c.requires.route),
      newest _ _ may,
    )
