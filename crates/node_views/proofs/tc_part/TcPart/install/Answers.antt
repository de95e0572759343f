use Rattle.std.proofs.Common.{ap, ◌∙◌}
use Rattle.sig_core.specs.Step.{joined, nothing}
use Rattle.dih_node.specs.Orders as dih
use Rattle.tc_views.specs.Views as coordinator
use Rattle.node_views.proofs.InstallLemmas.{joined_thrice}
use Rattle.node_views.proofs.tc_part.TcPart.install.Goals as goal

pub returns-clause-taken : goal.returns-clause-taken
returns-clause-taken c =
    let one = c.install.ensures.taken.state in
    let two = c.install-2.ensures.taken.state in
    let three = c.install-3.ensures.taken.state in
    record {
      state = cc;
      effects =
          c.install-3.ensures.taken.effects
          ∙ ap (λ e. joined e (dih.install_row c.args.self.now.dih c.args.view.now.number).effects)
          (c.install-2.ensures.taken.effects ∙ ap (λ e. joined e nothing) c.install.ensures.taken.effects)
          ∙ joined_thrice c.args.out.now (coordinator.install_row c.args.self.now.coordinator c.args.view.now).effects
          (dih.install_row c.args.self.now.dih c.args.view.now.number).effects;
    }
