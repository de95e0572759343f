-- Blocks that know only true things of transactions, and are told only true ones, know, tell and mark only true ones.
use Rattle.std.proofs.Common.{ℕ, Bool, true, false, List, sym, subst, refl}
use Rattle.std.specs.Prelude.{Option}
use Rattle.run_theory.specs.Lists.{Each}
use Rattle.run_theory.proofs.Pasts.{each_after, each_append, each_before, each_map}
use Rattle.sig_core.specs.declared.member.Member.{Member}
use Rattle.sig_core.specs.declared.member.TxId.{TxId}
use Rattle.sig_core.specs.declared.outs.Outgoing.{Outgoing}
use Rattle.sig_core.specs.declared.place.BlockId.{BlockId}
use Rattle.sig_core.specs.declared.place.BlockId.TheVariants as block
use Rattle.sig_core.specs.declared.signal.Body.{Body}
use Rattle.sig_core.specs.declared.signal.Body.TheVariants.{Membership}
use Rattle.sig_core.specs.declared.signal.Signal.{Signal}
use Rattle.sig_core.specs.declared.signal.membership.MembershipSignal.TheVariants.{ArbitReq}
use Rattle.sig_core.specs.declared.view.View.{View}
use Rattle.sig_core.specs.Step.{Effects, Step}
use Rattle.arbiter_block.specs.Arbiter.{ArbiterState, arbit_if, arbit_row, arbiter_row, arbiter_table, is_granted}
use Rattle.dih_node.specs.Orders as dih
use Rattle.gcp_master.specs.Master.{master_row}
use Rattle.qmgr_block.specs.Qmgr.{qmgr_installed, qmgr_row}
use Rattle.tc_views.specs.Views as coordinator
use Rattle.node_views.specs.Blocks.{parts_entered, parts_row}
use Rattle.node_views.specs.declared.ldm_part.LdmPart.{LdmPart}
use Rattle.node_views.specs.declared.main_part.MainPart.{MainPart}
use Rattle.node_views.specs.declared.parts.Parts.{Parts}
use Rattle.node_views.specs.declared.parts.Parts.TheVariants.{Shell, Main, Tc, Ldm}
use Rattle.node_views.specs.declared.shell_part.ShellPart.{ShellPart}
use Rattle.node_views.specs.declared.tc_part.TcPart.{TcPart}
use Rattle.lqh_saver.specs.Saver.{saver_row}
use Rattle.lqh_saver.specs.State.{saving}
use Rattle.node_views.specs.Parts.{ldm_row, main_row, shell_row, tc_row}
use Rattle.outcome_laws.specs.Known.{PartsKnow}
use Rattle.outcome_laws.specs.Tells.{Decides, IsRightMark, Teaches, Tells}
use Rattle.outcome_laws.proofs.client.KnowsTrue.{client_knows, client_marks, client_tells, noted_knows}
use Rattle.outcome_laws.proofs.epochs.KnowBegun.{epochs_install_know, epochs_install_tell, epochs_know, epochs_mark}
use Rattle.outcome_laws.proofs.epochs.KnowBegun.{epochs_tell}
use Rattle.outcome_laws.proofs.epochs.Silent.{silent_tell}
use Rattle.outcome_laws.proofs.epochs.Steps.{dih_installs_quiet}
use Rattle.outcome_laws.proofs.knowledge.MasterTellsNothing.{master_tells_nothing}
use Rattle.outcome_laws.proofs.knowledge.MembershipTellsNothing.{membership_installs_nothing, membership_tells_nothing}
use Rattle.outcome_laws.proofs.knowledge.TellsNothing.{TellsNothing, untold_silent}
use Rattle.outcome_laws.proofs.knowledge.HostSteps.{AreKept, IsOfEffects}
use Rattle.outcome_laws.proofs.rows.KnowDecided.{rows_know_installed, saving_know}
use Rattle.outcome_laws.proofs.rows.MarkNoOutcome.{rows_mark_none}
use Rattle.outcome_laws.proofs.knowledge.MarksOfNoOutcome.{IsNoOutcome, none_right}
use Rattle.outcome_laws.proofs.rows.TellTrue.{saving_tell}
use Rattle.outcome_laws.proofs.takeovers.KnowEpochs.{takeover_install_knows, takeover_knows}
use Rattle.outcome_laws.proofs.takeovers.NoMarks.{takeover_marks_nothing}
use Rattle.outcome_laws.proofs.takeovers.TellEpochs.{takeover_tells}
use Rattle.outcome_laws.proofs.coordinators.NoMarks.{coordinator_installs_mark, coordinator_marks}
use Rattle.outcome_laws.proofs.coordinators.TellsTrue.{coordinator_installs_know, coordinator_installs_tell}
use Rattle.outcome_laws.proofs.coordinators.TellsTrue.{coordinator_knows}
use Rattle.outcome_laws.proofs.coordinators.TellsTrue.{coordinator_tells}

-- the arbitrator tells nothing
pub arbiter_tells_nothing : (s : ArbiterState) (x : Signal) → TellsNothing (arbiter_row s x)
unfolding arbit_row
arbiter_tells_nothing s x = by x.body
  where
    asked : (number : ℕ) (members : List Member) (joining : Option Member) (b : Bool)
        → TellsNothing (arbit_if s x.member.node number members b)
    asked number members joining true = ((refl, tt), tt)
    asked number members joining false = ((refl, tt), tt)

    by : (body : Body) → TellsNothing (arbiter_table s x.member.node body)
    by (Membership (ArbitReq number members joining)) =
        asked number members joining (is_granted s number members joining)
    by _ = (tt, tt)

module _ (D : TxId → ℕ → Type 0) (B : TxId → Type 0) where
  abbrev pub AllTell : List Outgoing → Type 0
  AllTell sends = Each (λ (sent : Outgoing). Tells D B sent.body) sends

  -- the marks are right, and once what they decide is decided the signals tell true things
  pub record AreTrue (effects : Effects) : Type 0 where
    pub right : Each (IsRightMark D B) effects.marks
    pub tell : Each (Decides D B) effects.marks → AllTell effects.sends

  pub true_effects : IsOfEffects AreTrue
  true_effects = record {
    none = record { right = tt; tell = λ decided. tt };
    stops = λ cause. record { right = (tt, tt); tell = λ decided. tt };
    installs = λ view. record { right = (tt, tt); tell = λ decided. tt };
    cuts = λ first. record { right = (tt, (tt, (tt, tt))); tell = λ decided. tt };
    joins = λ one other first then. record {
      right = each_append (IsRightMark D B) one.marks other.marks first.right then.right;
      tell = λ decided.
          each_append (λ (sent : Outgoing). Tells D B sent.body) one.sends other.sends
          (first.tell (each_before (Decides D B) one.marks other.marks decided))
          (then.tell (each_after (Decides D B) one.marks other.marks decided));
    };
    hushes = λ effects are. record { right = are.right; tell = λ decided. tt };
  }

  nothing_true : {S : Type 0} (step : Step S) → TellsNothing step → AreTrue step.effects
  nothing_true step nothing = record {
    right = each_map IsNoOutcome (IsRightMark D B) step.effects.marks (none_right D B) nothing.1;
    tell = λ decided. silent_tell D B step.effects.sends (untold_silent step.effects.sends nothing.0);
  }

  -- a client's side learns who has begun by the signal
  abbrev IsTaught : Body → Parts → Type 0
  IsTaught body (Shell p) = Teaches D B body
  IsTaught body parts = Unit {0}

  abbrev pub AreTold : Body → Parts → Type 0
  AreTold body parts = PartsKnow D B parts × IsTaught body parts

  module _ (x : Signal) (told : Tells D B x.body) where
    -- they know so, and what they do is true
    abbrev Are : Step Parts → Type 0
    Are step = AreTold x.body step.state × AreTrue step.effects

    shell_true : (p : ShellPart) → AreTold x.body (Shell p) → Are (parts_row (Shell p) x)
    unfolding shell_row
    shell_true p knows = by x.to.block
      where
        by : (b : BlockId)
            → AreTold x.body (Shell (shell_row p b x).state) × AreTrue (shell_row p b x).effects
        by block.Api = (
          (client_knows D B p.client x knows.0 told knows.1, knows.1),
          record {
            right = client_marks D B p.client x knows.0 told knows.1;
            tell = λ decided. client_tells D B p.client x knows.0 told knows.1;
          },
        )
        by block.Arbiter = (knows, nothing_true (arbiter_row p.arbiter x) (arbiter_tells_nothing p.arbiter x))
        by _ = (knows, true_effects.none)

    main_true : (p : MainPart) → Are (parts_row (Main p) x)
    unfolding main_row
    main_true p = by x.to.block
      where
        by : (b : BlockId) → AreTold x.body (Main (main_row p b x).state) × AreTrue (main_row p b x).effects
        by block.Qmgr = ((tt, tt), nothing_true (qmgr_row p.qmgr x) (membership_tells_nothing p.qmgr x))
        by block.GcpMaster = ((tt, tt), nothing_true (master_row p.master x) (master_tells_nothing p.master x))
        by _ = ((tt, tt), true_effects.none)

    tc_true : (p : TcPart) → PartsKnow D B (Tc p) → Are (parts_row (Tc p) x)
    unfolding tc_row
    tc_true p (knows, (takeover, held)) = by x.to.block
      where
        by : (b : BlockId) → AreTold x.body (Tc (tc_row p b x).state) × AreTrue (tc_row p b x).effects
        by block.Tc = (
          ((coordinator_knows D B p.coordinator x knows told, (takeover, held)), tt),
          record {
            right = coordinator_marks (IsRightMark D B) p.coordinator x;
            tell = λ decided. coordinator_tells D B p.coordinator x knows told;
          },
        )
        by block.Takeover = (
          ((knows, (takeover_knows D B p.takeover x takeover told, held)), tt),
          record {
            right = subst (Each (IsRightMark D B)) (sym (takeover_marks_nothing p.takeover x)) tt;
            tell = λ decided. takeover_tells D B p.takeover x takeover;
          },
        )
        by block.Dih = (
          ((knows, (takeover, epochs_know D B p.dih x held told)), tt),
          record {
            right = epochs_mark D B p.dih x held told;
            tell = λ decided. epochs_tell D B p.dih x decided;
          },
        )
        by _ = (((knows, (takeover, held)), tt), true_effects.none)

    ldm_true : (p : LdmPart) → PartsKnow D B (Ldm p) → Are (parts_row (Ldm p) x)
    unfolding ldm_row
    ldm_true p knows = by x.to.block
      where
        by : (b : BlockId) → AreTold x.body (Ldm (ldm_row p b x).state) × AreTrue (ldm_row p b x).effects
        by block.Lqh = (
          (saving_know D B (saving p.replica p.saver) x knows told, tt),
          record {
            right =
                each_map IsNoOutcome (IsRightMark D B) (saver_row (saving p.replica p.saver) x).effects.marks
                (none_right D B) (rows_mark_none (saving p.replica p.saver) x);
            tell = λ decided. saving_tell D B (saving p.replica p.saver) x knows told;
          },
        )
        by _ = ((knows, tt), true_effects.none)

    row_true : (parts : Parts) → AreTold x.body parts → Are (parts_row parts x)
    row_true (Shell p) knows = shell_true p knows
    row_true (Main p) knows = main_true p
    row_true (Tc p) knows = tc_true p knows.0
    row_true (Ldm p) knows = ldm_true p knows.0

    entered_true : (parts : Parts) (view : View) → AreTold x.body parts → Are (parts_entered parts view)
    entered_true (Shell p) view knows = ((noted_knows D B p.client view knows.0, knows.1), true_effects.none)
    entered_true (Main p) view knows =
        ((tt, tt), nothing_true (qmgr_installed p.qmgr view) (membership_installs_nothing p.qmgr view))
    entered_true (Tc p) view ((knows, (takeover, held)), taught) = (
      (
        (
          coordinator_installs_know D B p.coordinator view knows,
          (takeover_install_knows D B p.takeover view, epochs_install_know D B p.dih view.number held),
        ),
        tt,
      ),
      true_effects.joins (coordinator.install_row p.coordinator view).effects
          (dih.install_row p.dih view.number).effects
          (record {
            right = coordinator_installs_mark (IsRightMark D B) p.coordinator view;
            tell = λ decided. coordinator_installs_tell D B p.coordinator view;
          })
          (record {
            right = subst (Each (IsRightMark D B)) (sym (dih_installs_quiet p.dih view.number).marks) tt;
            tell = λ decided. epochs_install_tell D B p.dih view.number;
          }),
    )
    entered_true (Ldm p) view knows = ((rows_know_installed D B p.replica view knows.0, tt), true_effects.none)

    -- so it is at the signal and wherever a view is installed
    pub true_kept : AreKept (AreTold x.body) AreTrue x
    true_kept = record { row = row_true; enters = entered_true }
