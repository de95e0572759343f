-- Whatever the blocks of a host take that tells only of epochs that can be written, they tell and mark only such.
use Rattle.std.proofs.Common.{◌≡◌, ℕ, zero, suc, ◌%◌, Bool, true, false, subst, sym}
use Rattle.run_theory.specs.Lists.{Each}
use Rattle.run_theory.proofs.Pasts.{each_append, each_map}
use Rattle.sig_core.specs.declared.mark.Mark.{Mark}
use Rattle.sig_core.specs.declared.mark.Mark.TheVariants.{Decided}
use Rattle.sig_core.specs.declared.place.BlockId.{BlockId}
use Rattle.sig_core.specs.declared.place.BlockId.TheVariants as block
use Rattle.sig_core.specs.declared.place.Part.{Part}
use Rattle.sig_core.specs.declared.place.Part.TheVariants as kind
use Rattle.sig_core.specs.declared.signal.Body.{Body}
use Rattle.sig_core.specs.declared.signal.Body.TheVariants.{Epoch}
use Rattle.sig_core.specs.declared.signal.Signal.{Signal}
use Rattle.sig_core.specs.declared.signal.epoch.EpochSignal.TheVariants.{GcpCommit, GcpPrepare, GcpStateConf}
use Rattle.sig_core.specs.declared.view.View.{View}
use Rattle.sig_core.specs.Step.{Effects, Step}
use Rattle.step_forms.specs.Does.{IsAmong, IsWord, Speaks}
use Rattle.api_views.specs.Client.{client_row}
use Rattle.api_views.specs.Words.{is_client_mark, is_client_word}
use Rattle.api_views.proofs.Walk.{client_words}
use Rattle.arbiter_block.specs.Arbiter.{arbiter_row}
use Rattle.arbiter_block.specs.Words.{is_arbiter_mark, is_arbiter_word}
use Rattle.arbiter_block.proofs.Walk.{arbiter_words}
use Rattle.dih_node.specs.Orders as dih
use Rattle.gcp_master.specs.Master.{first_phase, master_row}
use Rattle.gcp_master.specs.Resume as master
use Rattle.gcp_master.specs.Words.{is_master_mark, is_master_word}
use Rattle.gcp_master.proofs.Walk.{master_words}
use Rattle.lqh_views.specs.Replica.{replica_row}
use Rattle.lqh_views.specs.State.{ReplicaState}
use Rattle.lqh_views.specs.Words.{is_replica_mark, is_replica_word, is_row_word}
use Rattle.lqh_views.proofs.Walk.{replica_tells_each, replica_words}
use Rattle.lqh_saver.specs.State.{saving}
use Rattle.lqh_saver.proofs.Walk.{saver_each}
use Rattle.qmgr_block.specs.Qmgr.{qmgr_installed, qmgr_row}
use Rattle.qmgr_block.specs.Words.{is_qmgr_mark, is_qmgr_word}
use Rattle.qmgr_block.proofs.Walk.{qmgr_words}
use Rattle.takeover_block.specs.Takeover.{takeover_row}
use Rattle.takeover_block.specs.Words.{is_takeover_mark, is_takeover_word}
use Rattle.takeover_block.proofs.Walk.{takeover_words}
use Rattle.tc_views.specs.Coordinator.{coordinator_row}
use Rattle.tc_views.specs.Views as coordinator
use Rattle.tc_views.specs.Words.{is_coordinator_mark, is_coordinator_word}
use Rattle.tc_views.proofs.Walk.{coordinator_words}
use Rattle.node_views.specs.Blocks.{parts_entered, parts_row}
use Rattle.node_views.specs.declared.host_body.HostBody as hosts
use Rattle.node_views.specs.declared.ldm_part.LdmPart.{LdmPart}
use Rattle.node_views.specs.declared.main_part.MainPart.{MainPart}
use Rattle.node_views.specs.declared.parts.Parts.{Parts}
use Rattle.node_views.specs.declared.parts.Parts.TheVariants.{Shell, Main, Tc, Ldm}
use Rattle.node_views.specs.declared.shell_part.ShellPart.{ShellPart}
use Rattle.node_views.specs.declared.tc_part.TcPart.{TcPart}
use Rattle.node_views.specs.Parts.{ldm_row, main_row, shell_row, tc_row}
use Rattle.world_core.specs.Hosts.{member_at, part_by}
use Rattle.world_core.specs.Start.{NobodyStarts, Start, made}
use Rattle.world_views.specs.Hosts.{part_started, started}
use Rattle.world_views.specs.Machine.{step_by}
use Rattle.world_views.proofs.AllBegin.{started_behind}
use Rattle.outcome_laws.proofs.knowledge.HostSteps.{IsOfEffects, step_keeps}
use Rattle.journal_laws.proofs.epochs.DihLow.{DihLow, dih_installs_low, dih_installs_tell, dih_low}
use Rattle.journal_laws.proofs.epochs.Low.{IsLow, IsLowTold, MarksLow, TellsLow, zero_low}
use Rattle.journal_laws.proofs.epochs.MasterLow.{PhaseLow, master_low}

abbrev pub PartsLow : Parts → Type 0
PartsLow (Shell p) = Unit {0}
PartsLow (Main p) = PhaseLow p.master.phase
PartsLow (Tc p) = DihLow p.dih
PartsLow (Ldm p) = Unit {0}

abbrev pub AllLow : Effects → Type 0
AllLow effects = Each TellsLow effects.sends × Each MarksLow effects.marks

effects_low : IsOfEffects AllLow
effects_low = record {
  none = (tt, tt);
  stops = λ cause. (tt, (tt, tt));
  installs = λ view. (tt, (tt, tt));
  cuts = λ first. (tt, (tt, (tt, (tt, tt))));
  joins = λ one other first then. (
    each_append TellsLow one.sends other.sends first.0 then.0,
    each_append MarksLow one.marks other.marks first.1 then.1,
  );
  hushes = λ effects all. (tt, all.1);
}

-- who keeps to these words and marks tells and marks no epoch
module _ {S : Type 0} (is_word : Body → Bool) (is_mark : Mark → Bool) (step : Step S)
    (speaks : Speaks is_word is_mark step) where
  marks_low : ((mark : Mark) → is_mark mark ≡ true → MarksLow mark) → Each MarksLow step.effects.marks
  marks_low low = each_map (IsAmong is_mark) MarksLow step.effects.marks low speaks.1

  spoken : ((body : Body) → is_word body ≡ true → IsLowTold body)
      → ((mark : Mark) → is_mark mark ≡ true → MarksLow mark)
      → AllLow step.effects
  spoken low marks = (
    each_map (IsWord is_word) TellsLow step.effects.sends (λ sent is. low sent.body is) speaks.0,
    marks_low marks,
  )

of_client : (body : Body) → is_client_word body ≡ true → IsLowTold body
of_client (Epoch (GcpPrepare epoch next)) is = absurd cc
of_client (Epoch (GcpCommit epoch next)) is = absurd cc
of_client (Epoch (GcpStateConf current prepared next closed saved durable)) is = absurd cc
of_client body is = tt

of_arbiter : (body : Body) → is_arbiter_word body ≡ true → IsLowTold body
of_arbiter (Epoch (GcpPrepare epoch next)) is = absurd cc
of_arbiter (Epoch (GcpCommit epoch next)) is = absurd cc
of_arbiter (Epoch (GcpStateConf current prepared next closed saved durable)) is = absurd cc
of_arbiter body is = tt

of_qmgr : (body : Body) → is_qmgr_word body ≡ true → IsLowTold body
of_qmgr (Epoch (GcpPrepare epoch next)) is = absurd cc
of_qmgr (Epoch (GcpCommit epoch next)) is = absurd cc
of_qmgr (Epoch (GcpStateConf current prepared next closed saved durable)) is = absurd cc
of_qmgr body is = tt

of_coordinator : (body : Body) → is_coordinator_word body ≡ true → IsLowTold body
of_coordinator (Epoch (GcpPrepare epoch next)) is = absurd cc
of_coordinator (Epoch (GcpCommit epoch next)) is = absurd cc
of_coordinator (Epoch (GcpStateConf current prepared next closed saved durable)) is = absurd cc
of_coordinator body is = tt

of_takeover : (body : Body) → is_takeover_word body ≡ true → IsLowTold body
of_takeover (Epoch (GcpPrepare epoch next)) is = absurd cc
of_takeover (Epoch (GcpCommit epoch next)) is = absurd cc
of_takeover (Epoch (GcpStateConf current prepared next closed saved durable)) is = absurd cc
of_takeover body is = tt

of_rows : (body : Body) → is_row_word body ≡ true → IsLowTold body
of_rows (Epoch (GcpPrepare epoch next)) is = absurd cc
of_rows (Epoch (GcpCommit epoch next)) is = absurd cc
of_rows (Epoch (GcpStateConf current prepared next closed saved durable)) is = absurd cc
of_rows body is = tt

marks_of_client : (mark : Mark) → is_client_mark mark ≡ true → MarksLow mark
marks_of_client (Decided tx epoch) is = absurd cc
marks_of_client mark is = tt

marks_of_arbiter : (mark : Mark) → is_arbiter_mark mark ≡ true → MarksLow mark
marks_of_arbiter (Decided tx epoch) is = absurd cc
marks_of_arbiter mark is = tt

marks_of_qmgr : (mark : Mark) → is_qmgr_mark mark ≡ true → MarksLow mark
marks_of_qmgr (Decided tx epoch) is = absurd cc
marks_of_qmgr mark is = tt

marks_of_master : (mark : Mark) → is_master_mark mark ≡ true → MarksLow mark
marks_of_master (Decided tx epoch) is = absurd cc
marks_of_master mark is = tt

marks_of_coordinator : (mark : Mark) → is_coordinator_mark mark ≡ true → MarksLow mark
marks_of_coordinator (Decided tx epoch) is = absurd cc
marks_of_coordinator mark is = tt

marks_of_takeover : (mark : Mark) → is_takeover_mark mark ≡ true → MarksLow mark
marks_of_takeover (Decided tx epoch) is = absurd cc
marks_of_takeover mark is = tt

marks_of_replica : (mark : Mark) → is_replica_mark mark ≡ true → MarksLow mark
marks_of_replica (Decided tx epoch) is = absurd cc
marks_of_replica mark is = tt

-- rows tell no current epoch
replica_low : (s : ReplicaState) (x : Signal) → AllLow (replica_row s x).effects
replica_low s x = (
  replica_tells_each s x IsLowTold of_rows (record {
    promises = λ proposal is. tt;
    closes = λ epoch is. tt;
    saves = λ epoch is. tt;
    states = λ is. zero_low;
    tells_committed = λ r under_way at one there is. tt;
    tells_prepared = λ r under_way at one there is. tt;
    tells_marker = λ r under_way at m there. tt;
    reports_on = λ r under_way. tt;
    ends = λ r under_way. tt;
  }),
  marks_low is_replica_word is_replica_mark (replica_row s x) (replica_words.takes s x) marks_of_replica,
)

-- they stay so
abbrev StayLow : Step Parts → Type 0
StayLow step = PartsLow step.state × AllLow step.effects

module _ (x : Signal) (told : IsLowTold x.body) where
  shell_low : (p : ShellPart) → StayLow (parts_row (Shell p) x)
  unfolding shell_row
  shell_low p = by x.to.block
    where
      by : (b : BlockId) → PartsLow (Shell (shell_row p b x).state) × AllLow (shell_row p b x).effects
      by block.Api = (
        tt,
        spoken is_client_word is_client_mark (client_row p.client x) (client_words p.client x) of_client
            marks_of_client,
      )
      by block.Arbiter = (
        tt,
        spoken is_arbiter_word is_arbiter_mark (arbiter_row p.arbiter x) (arbiter_words p.arbiter x) of_arbiter
            marks_of_arbiter,
      )
      by _ = (tt, (tt, tt))

  main_low : (p : MainPart) → PhaseLow p.master.phase → StayLow (parts_row (Main p) x)
  unfolding main_row
  main_low p low = by x.to.block
    where
      by : (b : BlockId) → PartsLow (Main (main_row p b x).state) × AllLow (main_row p b x).effects
      by block.Qmgr = (
        low,
        spoken is_qmgr_word is_qmgr_mark (qmgr_row p.qmgr x) (qmgr_words.at_signals p.qmgr x) of_qmgr marks_of_qmgr,
      )
      by block.GcpMaster =
          let goes = master_low p.master x low told in (
            goes.0,
            (
              goes.1,
              marks_low is_master_word is_master_mark (master_row p.master x) (master_words p.master x) marks_of_master,
            ),
          )
      by _ = (low, (tt, tt))

  tc_low : (p : TcPart) → DihLow p.dih → StayLow (parts_row (Tc p) x)
  unfolding tc_row
  tc_low p low = by x.to.block
    where
      by : (b : BlockId) → PartsLow (Tc (tc_row p b x).state) × AllLow (tc_row p b x).effects
      by block.Tc = (
        low,
        spoken is_coordinator_word is_coordinator_mark (coordinator_row p.coordinator x)
            (coordinator_words.takes p.coordinator x) of_coordinator marks_of_coordinator,
      )
      by block.Takeover = (
        low,
        spoken is_takeover_word is_takeover_mark (takeover_row p.takeover x) (takeover_words.takes p.takeover x)
            of_takeover marks_of_takeover,
      )
      by block.Dih = dih_low p.dih x low told
      by _ = (low, (tt, tt))

  ldm_low : (p : LdmPart) → StayLow (parts_row (Ldm p) x)
  unfolding ldm_row
  ldm_low p = by x.to.block
    where
      by : (b : BlockId) → PartsLow (Ldm (ldm_row p b x).state) × AllLow (ldm_row p b x).effects
      by block.Lqh = (
        tt,
        saver_each (saving p.replica p.saver) x TellsLow MarksLow (replica_low p.replica x) (record {
          goes_on = λ is. tt;
          reports = λ walk to is walking. tt;
          confirms = λ finished end is walked usable. tt;
        }),
      )
      by _ = (tt, (tt, tt))

  row_low : (parts : Parts) → PartsLow parts → StayLow (parts_row parts x)
  row_low (Shell p) low = shell_low p
  row_low (Main p) low = main_low p low
  row_low (Tc p) low = tc_low p low
  row_low (Ldm p) low = ldm_low p

-- where a view is installed
entered_low : (parts : Parts) (view : View) → PartsLow parts → StayLow (parts_entered parts view)
unfolding master.in_view
entered_low (Shell p) view low = (tt, (tt, tt))
entered_low (Main p) view low = (
  tt,
  spoken is_qmgr_word is_qmgr_mark (qmgr_installed p.qmgr view) (qmgr_words.at_installations p.qmgr view) of_qmgr
      marks_of_qmgr,
)
entered_low (Tc p) view low =
    let first =
    spoken is_coordinator_word is_coordinator_mark (coordinator.install_row p.coordinator view)
    (coordinator_words.installs p.coordinator view) of_coordinator marks_of_coordinator in
    let then = dih_installs_tell p.dih view.number in (
      dih_installs_low p.dih view.number low,
      (
        each_append TellsLow (coordinator.install_row p.coordinator view).effects.sends
            (dih.install_row p.dih view.number).effects.sends first.0 then.0,
        each_append MarksLow (coordinator.install_row p.coordinator view).effects.marks
            (dih.install_row p.dih view.number).effects.marks first.1 then.1,
      ),
    )
entered_low (Ldm p) view low = (tt, (tt, tt))

-- so it is of a step of a host
pub step_low : (h : ℕ) (s : hosts.HostBody) (x : Signal) → PartsLow s.parts → IsLowTold x.body
    → PartsLow (step_by h s x).state.parts × AllLow (step_by h s x).effects
step_low h s x low told =
    step_keeps PartsLow AllLow effects_low x h s (λ sound. record { row = row_low x told; enters = entered_low }) low

-- and of a host as it begins, in a life whose first epoch is such
phase_begins : (epoch : ℕ) → IsLow epoch → (first : Bool) → PhaseLow (first_phase epoch first)
phase_begins epoch low true = low
phase_begins epoch low false = tt

part_begins : (start : Start) → IsLow start.epoch → (part : Part) (k : ℕ)
    → PartsLow (part_started start part (member_at (made start) (suc k))).parts
part_begins start low kind.Main k = phase_begins start.epoch low _
part_begins start low kind.Tc k = (low, low)
part_begins start low kind.Ldm k = tt

pub host_begins : (start : Start) → NobodyStarts start → IsLow start.epoch → (h : ℕ) → PartsLow (started start h).parts
unfolding started
host_begins start nobody low zero = tt
host_begins start nobody low (suc h) =
    subst (λ s. PartsLow s.parts) (sym (started_behind start nobody h)) (part_begins start low (part_by (h % 3)) h)
