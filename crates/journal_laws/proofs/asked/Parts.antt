-- Whatever the blocks of a host take that asks well for operations, they ask well for operations themselves.
use Rattle.std.proofs.Common.{◌≡◌, ◌<◌, ◌+◌, ◌%◌, ◌/◌, ◌^◌, ℕ, zero, suc, Bool, true, List, [], ◌∷◌, refl, sym, subst}
use Rattle.std.proofs.Common.{arith}
use Rattle.std.specs.Prelude.{slice_index_or}
use Rattle.run_theory.specs.Lists.{Each}
use Rattle.run_theory.proofs.Pasts.{each_append, each_map}
use Rattle.sig_core.specs.declared.mark.Mark.{Mark}
use Rattle.sig_core.specs.declared.member.Member.{Member}
use Rattle.sig_core.specs.declared.place.BlockId.{BlockId}
use Rattle.sig_core.specs.declared.place.BlockId.TheVariants as block
use Rattle.sig_core.specs.declared.place.Part.{Part}
use Rattle.sig_core.specs.declared.place.Part.TheVariants as kind
use Rattle.sig_core.specs.declared.signal.Body.{Body}
use Rattle.sig_core.specs.declared.signal.Body.TheVariants.{Chain, Client, Host}
use Rattle.sig_core.specs.declared.signal.Signal.{Signal}
use Rattle.sig_core.specs.declared.signal.chain.ChainSignal.TheVariants.{LqhKeyReq}
use Rattle.sig_core.specs.declared.signal.client.ClientSignal.TheVariants.{TcKeyReq}
use Rattle.sig_core.specs.declared.signal.host.HostSignal.TheVariants.{Continue}
use Rattle.sig_core.specs.declared.signal.host.Work.TheVariants.{Request}
use Rattle.sig_core.specs.declared.view.View.{View}
use Rattle.sig_core.specs.Members.{nobody}
use Rattle.sig_core.specs.Step.{Effects, Step}
use Rattle.step_forms.specs.Does.{IsWord, Speaks}
use Rattle.frag_map.specs.Layout.{members}
use Rattle.api_views.specs.Members.{noted}
use Rattle.arbiter_block.specs.Arbiter.{arbiter_row}
use Rattle.arbiter_block.specs.Words.{is_arbiter_mark, is_arbiter_word}
use Rattle.arbiter_block.proofs.Walk.{arbiter_words}
use Rattle.dih_node.specs.Dih.{dih_row}
use Rattle.dih_node.specs.Orders as dih
use Rattle.dih_node.specs.Words.{is_dih_mark, is_dih_word}
use Rattle.dih_node.proofs.Walk.{dih_words}
use Rattle.gcp_master.specs.Master.{master_row}
use Rattle.gcp_master.specs.Words.{is_master_mark, is_master_word}
use Rattle.gcp_master.proofs.Walk.{master_words}
use Rattle.lqh_views.specs.State.{ReplicaState}
use Rattle.lqh_saver.specs.State.{SavingState, saving}
use Rattle.lqh_saver.proofs.StepLemmas.{saver_rows, saver_sends}
use Rattle.qmgr_block.specs.Qmgr.{qmgr_installed, qmgr_row}
use Rattle.qmgr_block.specs.Words.{is_qmgr_mark, is_qmgr_word}
use Rattle.qmgr_block.proofs.Walk.{qmgr_words}
use Rattle.takeover_block.specs.Takeover.{takeover_row}
use Rattle.takeover_block.specs.Words.{is_takeover_mark, is_takeover_word}
use Rattle.takeover_block.proofs.Walk.{takeover_words}
use Rattle.tc_views.specs.Views as coordinator
use Rattle.node_views.specs.Blocks.{parts_entered, parts_row}
use Rattle.node_views.specs.declared.host_body.HostBody as hosts
use Rattle.node_views.specs.declared.ldm_part.LdmPart.{LdmPart}
use Rattle.node_views.specs.declared.main_part.MainPart.{MainPart}
use Rattle.node_views.specs.declared.parts.Parts.{Parts}
use Rattle.node_views.specs.declared.parts.Parts.TheVariants.{Shell, Main, Tc, Ldm}
use Rattle.node_views.specs.declared.shell_part.ShellPart.{ShellPart}
use Rattle.node_views.specs.declared.tc_part.TcPart.{TcPart}
use Rattle.node_views.specs.Parts.{ldm_row, main_row, shell_row, tc_row}
use Rattle.world_core.proofs.MadeFirst.{made_first}
use Rattle.world_core.specs.Hosts.{member_at, part_by}
use Rattle.world_core.specs.Start.{NobodyStarts, Start, made}
use Rattle.world_views.specs.Hosts.{part_started, started}
use Rattle.world_views.specs.Machine.{step_by}
use Rattle.world_views.proofs.AllBegin.{started_behind}
use Rattle.outcome_laws.proofs.knowledge.HostSteps.{IsOfEffects, step_keeps}
use Rattle.journal_laws.proofs.asked.ClientAsks.{ClientWell, client_asks}
use Rattle.journal_laws.proofs.asked.CoordinatorAsks.{CoordinatorFits, coordinator_asks, coordinator_installs}
use Rattle.journal_laws.proofs.asked.RowsAsk.{RowsWell, rows_ask}
use Rattle.journal_laws.proofs.asked.WellAsked.{AsksWell, IsWellAsked}

abbrev pub PartsWell : Parts → Type 0
PartsWell (Shell p) = ClientWell p.client
PartsWell (Main p) = Unit {0}
PartsWell (Tc p) = CoordinatorFits p.coordinator
PartsWell (Ldm p) = RowsWell p.replica.lqh

-- who says only these words asks for no operation
spoken : {S : Type 0} (is_word : Body → Bool) (is_mark : Mark → Bool) (step : Step S)
    → ((body : Body) → is_word body ≡ true → IsWellAsked body) → Speaks is_word is_mark step
    → Each AsksWell step.effects.sends
spoken is_word is_mark step well speaks =
    each_map (IsWord is_word) AsksWell step.effects.sends (λ sent is. well sent.body is) speaks.0

of_arbiter : (body : Body) → is_arbiter_word body ≡ true → IsWellAsked body
of_arbiter (Host (Continue (Request r) at)) is = absurd cc
of_arbiter (Client (TcKeyReq tx op)) is = absurd cc
of_arbiter (Chain (LqhKeyReq tx work members at)) is = absurd cc
of_arbiter body is = tt

of_qmgr : (body : Body) → is_qmgr_word body ≡ true → IsWellAsked body
of_qmgr (Host (Continue (Request r) at)) is = absurd cc
of_qmgr (Client (TcKeyReq tx op)) is = absurd cc
of_qmgr (Chain (LqhKeyReq tx work members at)) is = absurd cc
of_qmgr body is = tt

of_master : (body : Body) → is_master_word body ≡ true → IsWellAsked body
of_master (Host (Continue (Request r) at)) is = absurd cc
of_master (Client (TcKeyReq tx op)) is = absurd cc
of_master (Chain (LqhKeyReq tx work members at)) is = absurd cc
of_master body is = tt

of_takeover : (body : Body) → is_takeover_word body ≡ true → IsWellAsked body
of_takeover (Host (Continue (Request r) at)) is = absurd cc
of_takeover (Client (TcKeyReq tx op)) is = absurd cc
of_takeover (Chain (LqhKeyReq tx work members at)) is = absurd cc
of_takeover body is = tt

of_dih : (body : Body) → is_dih_word body ≡ true → IsWellAsked body
of_dih (Host (Continue (Request r) at)) is = absurd cc
of_dih (Client (TcKeyReq tx op)) is = absurd cc
of_dih (Chain (LqhKeyReq tx work members at)) is = absurd cc
of_dih body is = tt

abbrev AllAsk : Effects → Type 0
AllAsk effects = Each AsksWell effects.sends

effects_ask : IsOfEffects AllAsk
effects_ask = record {
  none = tt;
  stops = λ cause. tt;
  installs = λ view. tt;
  cuts = λ first. tt;
  joins = λ one other first then. each_append AsksWell one.sends other.sends first then;
  hushes = λ effects all. tt;
}

-- they stay so, and ask well
abbrev StayWell : Step Parts → Type 0
StayWell step = PartsWell step.state × AllAsk step.effects

module _ (x : Signal) (asked : IsWellAsked x.body) where
  shell_well : (p : ShellPart) → ClientWell p.client → StayWell (parts_row (Shell p) x)
  unfolding shell_row
  shell_well p well = by x.to.block
    where
      by : (b : BlockId) → PartsWell (Shell (shell_row p b x).state) × AllAsk (shell_row p b x).effects
      by block.Api = client_asks p.client x well asked
      by block.Arbiter = (
        well,
        spoken is_arbiter_word is_arbiter_mark (arbiter_row p.arbiter x) of_arbiter
            (arbiter_words p.arbiter x),
      )
      by _ = (well, tt)

  main_well : (p : MainPart) → StayWell (parts_row (Main p) x)
  unfolding main_row
  main_well p = by x.to.block
    where
      by : (b : BlockId) → PartsWell (Main (main_row p b x).state) × AllAsk (main_row p b x).effects
      by block.Qmgr =
          (tt, spoken is_qmgr_word is_qmgr_mark (qmgr_row p.qmgr x) of_qmgr (qmgr_words.at_signals p.qmgr x))
      by block.GcpMaster =
          (tt, spoken is_master_word is_master_mark (master_row p.master x) of_master (master_words p.master x))
      by _ = (tt, tt)

  tc_well : (p : TcPart) → CoordinatorFits p.coordinator → StayWell (parts_row (Tc p) x)
  unfolding tc_row
  tc_well p well = by x.to.block
    where
      by : (b : BlockId) → PartsWell (Tc (tc_row p b x).state) × AllAsk (tc_row p b x).effects
      by block.Tc = coordinator_asks p.coordinator x well asked
      by block.Takeover = (
        well,
        spoken is_takeover_word is_takeover_mark (takeover_row p.takeover x) of_takeover
            (takeover_words.takes p.takeover x),
      )
      by block.Dih = (well, spoken is_dih_word is_dih_mark (dih_row p.dih x) of_dih (dih_words.0 p.dih x))
      by _ = (well, tt)

  ldm_well : (p : LdmPart) → RowsWell p.replica.lqh → StayWell (parts_row (Ldm p) x)
  unfolding ldm_row
  ldm_well p well = by x.to.block
    where
      by : (b : BlockId) → PartsWell (Ldm (ldm_row p b x).state) × AllAsk (ldm_row p b x).effects
      by block.Lqh =
          let s : SavingState = saving p.replica p.saver in
          let own = rows_ask p.replica x well asked in (
            saver_rows s x (λ (r : ReplicaState). RowsWell r.lqh) well own.0 (λ at has. well),
            saver_sends s x (Each AsksWell) own.1 tt (record {
              goes_on = λ is. (tt, tt);
              reports = λ walk to is walking. (tt, tt);
              confirms = λ finished end is walked usable. (tt, tt);
            }),
          )
      by _ = (well, tt)

  row_well : (parts : Parts) → PartsWell parts → StayWell (parts_row parts x)
  row_well (Shell p) well = shell_well p well
  row_well (Main p) well = main_well p
  row_well (Tc p) well = tc_well p well
  row_well (Ldm p) well = ldm_well p well

-- where a view is installed
entered_well : (parts : Parts) (view : View) → PartsWell parts → StayWell (parts_entered parts view)
unfolding noted
entered_well (Shell p) view well = (well, tt)
entered_well (Main p) view well = (
  tt,
  spoken is_qmgr_word is_qmgr_mark (qmgr_installed p.qmgr view) of_qmgr
      (qmgr_words.at_installations p.qmgr view),
)
entered_well (Tc p) view well =
    let then = coordinator_installs p.coordinator view well in (
      then.0,
      each_append AsksWell (coordinator.install_row p.coordinator view).effects.sends
          (dih.install_row p.dih view.number).effects.sends then.1
          (spoken is_dih_word is_dih_mark (dih.install_row p.dih view.number) of_dih (dih_words.1 p.dih view.number)),
    )
entered_well (Ldm p) view well = (tt, tt)

-- so it is of a step of a host
pub step_well : (h : ℕ) (s : hosts.HostBody) (x : Signal) → PartsWell s.parts → IsWellAsked x.body
    → PartsWell (step_by h s x).state.parts × Each AsksWell (step_by h s x).effects.sends
step_well h s x well asked =
    step_keeps PartsWell AllAsk effects_ask x h s
    (λ sound. record { row = row_well x asked; enters = entered_well }) well

-- and of a host as it begins: every member is in its first start
members_first : (n : ℕ) → Each (λ (member : Member). member.start ≡ 0) (members n)
members_first zero = tt
members_first (suc n) =
    each_append (λ (member : Member). member.start ≡ 0) (members n) (record { node = n + 1; start = 0 } ∷ [])
    (members_first n) (refl, tt)

index_first : (all : List Member) → Each (λ (member : Member). member.start ≡ 0) all → (i : ℕ)
    → (slice_index_or all i nobody).start ≡ 0
index_first [] first zero = refl
index_first [] first (suc i) = refl
index_first (member ∷ all) first zero = first.0
index_first (member ∷ all) first (suc i) = index_first all first.1 i

coordinator_begins : (member : Member) → member.start < 2 ^ 32 → (start : Start)
    → PartsWell (part_started start kind.Tc member).parts
coordinator_begins member few start = record {
  member = member;
  of = record { node_is = refl; start_is = refl; own = tt; begun = tt; once = tt };
  start = few;
  next = refl;
}

part_begins : (start : Start) (none_starts : NobodyStarts start) (part : Part) (k : ℕ)
    → PartsWell (part_started start part (member_at (made start) (suc k))).parts
part_begins start none_starts kind.Main k = tt
part_begins start none_starts kind.Tc k =
    let all = subst (Each (λ (member : Member). member.start ≡ 0)) (sym (made_first start none_starts))
    (members_first start.shape.nodes) in
    let first = index_first (made start) all (k / 3) in
    coordinator_begins (member_at (made start) (suc k)) (omega (arith, first)) start
part_begins start none_starts kind.Ldm k = tt

pub host_begins : (start : Start) (none_starts : NobodyStarts start) (h : ℕ) → PartsWell (started start h).parts
unfolding started
host_begins start none_starts zero = tt
host_begins start none_starts (suc h) =
    subst (λ s. PartsWell s.parts) (sym (started_behind start none_starts h))
    (part_begins start none_starts (part_by (h % 3)) h)
