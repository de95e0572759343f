-- Only the coordinator that began a transaction asks for its epoch, and asks the epochs of its own node; so these
-- decide only its transactions.
use Rattle.std.proofs.Common.{◌≡◌, ◌∷◌, true, false, List, [], sym, subst, inl, inr}
use Rattle.run_theory.specs.Lists.{Each}
use Rattle.run_theory.proofs.EachSent.{each_get, each_removed}
use Rattle.run_theory.proofs.Pasts.{each_append, each_map}
use Rattle.sig_core.specs.declared.mark.Mark.{Mark}
use Rattle.sig_core.specs.declared.mark.Mark.TheVariants.{Decided}
use Rattle.sig_core.specs.declared.member.Member.{Member}
use Rattle.sig_core.specs.declared.member.TxId.{TxId}
use Rattle.sig_core.specs.declared.op.Answer.{Answer}
use Rattle.sig_core.specs.declared.op.Op.{Op}
use Rattle.sig_core.specs.declared.outs.Outgoing.{Outgoing}
use Rattle.sig_core.specs.declared.place.BlockId.{BlockId}
use Rattle.sig_core.specs.declared.place.BlockId.TheVariants as block
use Rattle.sig_core.specs.declared.place.Place.{Place}
use Rattle.sig_core.specs.declared.signal.Body.{Body}
use Rattle.sig_core.specs.declared.signal.Body.TheVariants.{Client, Epoch}
use Rattle.sig_core.specs.declared.signal.Signal.{Signal}
use Rattle.sig_core.specs.declared.signal.client.ClientSignal.TheVariants.{TcBeginConf}
use Rattle.sig_core.specs.declared.signal.epoch.EpochSignal.TheVariants.{DiVerifyReq}
use Rattle.sig_core.specs.declared.view.View.{View}
use Rattle.sig_core.specs.Place.{epochs}
use Rattle.sig_core.specs.Step.{Effects, Step}
use Rattle.step_forms.specs.Does.{IsAmong, IsWord}
use Rattle.api_views.specs.Client.{client_row}
use Rattle.api_views.specs.State.{ClientState}
use Rattle.api_views.specs.Words.{is_client_mark, is_client_word}
use Rattle.api_views.proofs.Walk.{client_words}
use Rattle.arbiter_block.specs.Arbiter.{arbiter_row}
use Rattle.dih_node.specs.Dih.{dih_row}
use Rattle.dih_node.specs.Orders as dih
use Rattle.dih_node.specs.State.{DihState, go_on_if}
use Rattle.dih_node.specs.Verify.{given}
use Rattle.gcp_master.specs.Master.{master_row}
use Rattle.qmgr_block.specs.Qmgr.{qmgr_installed, qmgr_row}
use Rattle.takeover_block.specs.Takeover.{takeover_row}
use Rattle.tc_views.specs.Coordinator.{coordinator_row}
use Rattle.tc_views.specs.Views as coordinator
use Rattle.node_views.specs.Blocks.{parts_entered, parts_row}
use Rattle.node_views.specs.declared.ldm_part.LdmPart.{LdmPart}
use Rattle.node_views.specs.declared.main_part.MainPart.{MainPart}
use Rattle.node_views.specs.declared.parts.Parts.{Parts}
use Rattle.node_views.specs.declared.parts.Parts.TheVariants.{Shell, Main, Tc, Ldm}
use Rattle.node_views.specs.declared.shell_part.ShellPart.{ShellPart}
use Rattle.node_views.specs.declared.tc_part.TcPart.{TcPart}
use Rattle.lqh_saver.specs.Saver.{saver_row}
use Rattle.lqh_saver.specs.State.{saving}
use Rattle.node_views.specs.Parts.{ldm_row, main_row, shell_row, tc_row}
use Rattle.moment_laws.proofs.MomentHosts.{HasNoTc}
use Rattle.outcome_laws.specs.Counts.{IsCoordinatorOf, coordinator_member}
use Rattle.outcome_laws.specs.Own.{IsOwnAt, IsOwnSend}
use Rattle.outcome_laws.proofs.epochs.Silent.{AreSilent, IsSilent, is_telling}
use Rattle.outcome_laws.proofs.epochs.Steps.{HoldsNoMore, dih_each, dih_installs_hold, dih_installs_quiet}
use Rattle.outcome_laws.proofs.epochs.Steps.{goes_on_silent}
use Rattle.outcome_laws.proofs.knowledge.MasterTellsNothing.{master_tells_nothing}
use Rattle.outcome_laws.proofs.knowledge.MembershipTellsNothing.{membership_installs_nothing, membership_tells_nothing}
use Rattle.outcome_laws.proofs.knowledge.TellsNothing.{TellsNothing, untold_uncounted}
use Rattle.outcome_laws.proofs.knowledge.Parts.{arbiter_tells_nothing}
use Rattle.outcome_laws.proofs.knowledge.HostSteps.{AreKept, IsOfEffects}
use Rattle.outcome_laws.proofs.once.Counted.{AreUncounted, IsUncounted, is_counted}
use Rattle.outcome_laws.proofs.rows.SendUncounted.{rows_none}
use Rattle.outcome_laws.proofs.takeovers.SendUncounted.{takeover_none}
use Rattle.outcome_laws.proofs.rows.MarkNoOutcome.{rows_mark_none}
use Rattle.outcome_laws.proofs.knowledge.MarksOfNoOutcome.{IsNoOutcome}
use Rattle.outcome_laws.proofs.takeovers.NoMarks.{takeover_marks_nothing}
use Rattle.outcome_laws.proofs.coordinators.BeginsAndAsks.{coordinator_installs_own, coordinator_of_installed}
use Rattle.outcome_laws.proofs.coordinators.BeginsAndAsks.{coordinator_of_stays}
use Rattle.outcome_laws.proofs.coordinators.BeginsAndAsks.{coordinator_own}
use Rattle.outcome_laws.proofs.coordinators.NoMarks.{coordinator_installs_mark, coordinator_marks}

-- whoever is asked for is so, at the place that is asked; and whoever is decided is so
module _ (P : TxId → Place → Type 0) (Q : TxId → Type 0) where
  abbrev pub IsAskedSo : Place → Body → Type 0
  IsAskedSo to (Epoch (DiVerifyReq tx ops)) = P tx to
  IsAskedSo to body = Unit {0}

  abbrev pub AskSo : List Outgoing → Type 0
  AskSo sends = Each (λ (sent : Outgoing). IsAskedSo sent.to sent.body) sends

  abbrev pub IsDecidedSo : Mark → Type 0
  IsDecidedSo (Decided tx epoch) = Q tx
  IsDecidedSo mark = Unit {0}

  pub record AreSo (effects : Effects) : Type 0 where
    pub ask : AskSo effects.sends
    pub decide : Each IsDecidedSo effects.marks

  pub so_effects : IsOfEffects AreSo
  so_effects = record {
    none = record { ask = tt; decide = tt };
    stops = λ cause. record { ask = tt; decide = (tt, tt) };
    installs = λ view. record { ask = tt; decide = (tt, tt) };
    cuts = λ first. record { ask = tt; decide = (tt, (tt, (tt, tt))) };
    joins = λ one other first then. record {
      ask = each_append (λ (sent : Outgoing). IsAskedSo sent.to sent.body) one.sends other.sends first.ask then.ask;
      decide = each_append IsDecidedSo one.marks other.marks first.decide then.decide;
    };
    hushes = λ effects are. record { ask = tt; decide = are.decide };
  }

  -- what doesn't count asks for none, and a mark of no outcome decides none
  body_so : (to : Place) (body : Body) → is_counted body ≡ false → IsAskedSo to body
  body_so to (Epoch (DiVerifyReq tx ops)) none = absurd cc
  body_so to body none = tt

  mark_so : (mark : Mark) → IsNoOutcome mark → IsDecidedSo mark
  mark_so (Decided tx epoch) none = absurd cc
  mark_so mark none = tt

  uncounted_so : (sends : List Outgoing) → AreUncounted sends → AskSo sends
  uncounted_so sends none =
      each_map IsUncounted (λ (sent : Outgoing). IsAskedSo sent.to sent.body) sends
      (λ sent is. body_so sent.to sent.body is) none

  marks_so : (marks : List Mark) → Each IsNoOutcome marks → Each IsDecidedSo marks
  marks_so marks none = each_map IsNoOutcome IsDecidedSo marks mark_so none

  silent_so : (sends : List Outgoing) → AreSilent sends → AskSo sends
  silent_so sends none =
      each_map IsSilent (λ (sent : Outgoing). IsAskedSo sent.to sent.body) sends
      (λ sent is. by sent.to sent.body is) none
    where
      by : (to : Place) (body : Body) → is_telling body ≡ false → IsAskedSo to body
      by to (Epoch (DiVerifyReq tx ops)) none = absurd cc
      by to body none = tt

  nothing_so : {S : Type 0} (step : Step S) → TellsNothing step → AreSo step.effects
  nothing_so step nothing = record {
    ask = uncounted_so step.effects.sends (untold_uncounted step.effects.sends nothing.0);
    decide = marks_so step.effects.marks nothing.1;
  }

  -- a client's side asks for none and decides none
  client_so : (s : ClientState) (x : Signal) → AreSo (client_row s x).effects
  client_so s x =
      let own = client_words s x in record {
        ask = each_map (IsWord is_client_word) (λ (sent : Outgoing). IsAskedSo sent.to sent.body)
            (client_row s x).effects.sends (λ sent is. word sent.to sent.body is) own.0;
        decide = each_map (IsAmong is_client_mark) IsDecidedSo (client_row s x).effects.marks mark own.1;
      }
    where
      word : (to : Place) (body : Body) → is_client_word body ≡ true → IsAskedSo to body
      word to (Epoch (DiVerifyReq tx ops)) is = absurd cc
      word to body is = tt

      mark : (made : Mark) → is_client_mark made ≡ true → IsDecidedSo made
      mark (Decided tx epoch) is = absurd cc
      mark made is = tt

  -- hosts without a coordinator ask for none and decide none
  shell_so : (p : ShellPart) (b : BlockId) (x : Signal) → AreSo (shell_row p b x).effects
  unfolding shell_row
  shell_so p block.Api x = client_so p.client x
  shell_so p block.Arbiter x = nothing_so (arbiter_row p.arbiter x) (arbiter_tells_nothing p.arbiter x)
  shell_so p _ x = so_effects.none

  main_so : (p : MainPart) (b : BlockId) (x : Signal) → AreSo (main_row p b x).effects
  unfolding main_row
  main_so p block.Qmgr x = nothing_so (qmgr_row p.qmgr x) (membership_tells_nothing p.qmgr x)
  main_so p block.GcpMaster x = nothing_so (master_row p.master x) (master_tells_nothing p.master x)
  main_so p _ x = so_effects.none

  ldm_so : (p : LdmPart) (b : BlockId) (x : Signal) → AreSo (ldm_row p b x).effects
  unfolding ldm_row
  ldm_so p block.Lqh x = record {
    ask = uncounted_so (saver_row (saving p.replica p.saver) x).effects.sends (rows_none (saving p.replica p.saver) x);
    decide =
        marks_so (saver_row (saving p.replica p.saver) x).effects.marks (rows_mark_none (saving p.replica p.saver) x);
  }
  ldm_so p _ x = so_effects.none

  row_so : (parts : Parts) (x : Signal) → HasNoTc parts
      → HasNoTc (parts_row parts x).state × AreSo (parts_row parts x).effects
  row_so (Shell p) x none = (tt, shell_so p x.to.block x)
  row_so (Main p) x none = (tt, main_so p x.to.block x)
  row_so (Ldm p) x none = (tt, ldm_so p x.to.block x)
  row_so (Tc p) x none = absurd none

  entered_so : (parts : Parts) (view : View) → HasNoTc parts
      → HasNoTc (parts_entered parts view).state × AreSo (parts_entered parts view).effects
  entered_so (Shell p) view none = (tt, so_effects.none)
  entered_so (Main p) view none =
      (tt, nothing_so (qmgr_installed p.qmgr view) (membership_installs_nothing p.qmgr view))
  entered_so (Ldm p) view none = (tt, so_effects.none)
  entered_so (Tc p) view none = absurd none

  pub others_so : (x : Signal) → AreKept HasNoTc AreSo x
  others_so x = record { row = λ parts none. row_so parts x none; enters = entered_so }

-- the host of the coordinator of a member
module _ (me : Member) where
  -- the member's coordinator began the transaction, and the member's own epochs are asked
  abbrev pub IsOf : TxId → Type 0
  IsOf tx = coordinator_member tx ≡ me

  abbrev pub IsOfOwn : TxId → Place → Type 0
  IsOfOwn tx to = (coordinator_member tx ≡ me) × (to ≡ epochs me.node)

  abbrev pub AreOwn : Effects → Type 0
  AreOwn effects = AreSo IsOfOwn IsOf effects

  abbrev pub OwnParts : Parts → Type 0
  OwnParts (Tc p) = IsCoordinatorOf me p.coordinator × Each IsOf p.dih.held
  OwnParts parts = ⊥

  own_asks : (sends : List Outgoing) → Each (IsOwnSend me) sends → AskSo IsOfOwn IsOf sends
  own_asks sends own =
      each_map (IsOwnSend me) (λ (sent : Outgoing). IsAskedSo IsOfOwn IsOf sent.to sent.body) sends
      (λ sent is. by sent.to sent.body is) own
    where
      by : (to : Place) (body : Body) → IsOwnAt me to body → IsAskedSo IsOfOwn IsOf to body
      by to (Client (TcBeginConf name tx)) own = tt
      by to (Epoch (DiVerifyReq tx ops)) own = own
      by to body own = tt

  module _ (x : Signal) (hears : (tx : TxId) (ops : List (Op × Answer)) → x.body ≡ Epoch (DiVerifyReq tx ops) → IsOf tx)
    where
      -- what the epochs hold and decide is its own
      record HoldOwn (step : Step DihState) : Type 0 where
        held : Each IsOf step.state.held
        effects : AreOwn step.effects

      fewer : (now held : List TxId) → HoldsNoMore now held → Each IsOf held → Each IsOf now
      fewer now held (inl same) all = subst (Each IsOf) (sym same) all
      fewer now held (inr less) all = subst (Each IsOf) (sym less.is) (each_removed IsOf held less.place all)

      epochs_own : (s : DihState) → Each IsOf s.held → HoldOwn (dih_row s x)
      unfolding given
      epochs_own s own =
          dih_each s HoldOwn x (record {
            quiet = λ step is. record {
              held = fewer step.state.held s.held is.holds own;
              effects = record {
                ask = silent_so IsOfOwn IsOf step.effects.sends is.sends;
                decide = subst (Each (IsDecidedSo IsOfOwn IsOf)) (sym is.marks) tt;
              };
            };
            gives_it = λ tx ops is. record {
              held = own;
              effects = record { ask = (tt, tt); decide = (hears tx ops is, tt) };
            };
            holds_it = λ tx ops is. record {
              held = each_append IsOf s.held (tx ∷ []) own (hears tx ops is, tt);
              effects = record { ask = tt; decide = tt };
            };
            serves_it = λ tx first. record {
              held = each_removed IsOf s.held 0 own;
              effects = record {
                ask = (tt, silent_so IsOfOwn IsOf (go_on_if _ _) (goes_on_silent _ _));
                decide = (each_get IsOf s.held 0 tx own first, tt);
              };
            };
          })

      tc_own : (p : TcPart) (b : BlockId) → OwnParts (Tc p)
          → OwnParts (Tc (tc_row p b x).state) × AreOwn (tc_row p b x).effects
      unfolding tc_row
      tc_own p block.Tc own = (
        (coordinator_of_stays me p.coordinator x own.0, own.1),
        record {
          ask = own_asks (coordinator_row p.coordinator x).effects.sends (coordinator_own me p.coordinator x own.0);
          decide = coordinator_marks (IsDecidedSo IsOfOwn IsOf) p.coordinator x;
        },
      )
      tc_own p block.Takeover own = (
        own,
        record {
          ask = uncounted_so IsOfOwn IsOf (takeover_row p.takeover x).effects.sends (takeover_none p.takeover x);
          decide = subst (Each (IsDecidedSo IsOfOwn IsOf)) (sym (takeover_marks_nothing p.takeover x)) tt;
        },
      )
      tc_own p block.Dih own = let is = epochs_own p.dih own.1 in ((own.0, is.held), is.effects)
      tc_own p _ own = (own, (so_effects IsOfOwn IsOf).none)

      tc_entered_own : (p : TcPart) (view : View) → OwnParts (Tc p)
          → OwnParts (parts_entered (Tc p) view).state × AreOwn (parts_entered (Tc p) view).effects
      tc_entered_own p view own = (
        (
          coordinator_of_installed me p.coordinator view own.0,
          subst (Each IsOf) (sym (dih_installs_hold p.dih view.number)) own.1,
        ),
        (so_effects IsOfOwn IsOf).joins (coordinator.install_row p.coordinator view).effects
            (dih.install_row p.dih view.number).effects
            (record {
              ask = own_asks (coordinator.install_row p.coordinator view).effects.sends
                  (coordinator_installs_own me p.coordinator view);
              decide = coordinator_installs_mark (IsDecidedSo IsOfOwn IsOf) p.coordinator view;
            })
            (record {
              ask = silent_so IsOfOwn IsOf (dih.install_row p.dih view.number).effects.sends
                  (dih_installs_quiet p.dih view.number).sends;
              decide = subst (Each (IsDecidedSo IsOfOwn IsOf)) (sym (dih_installs_quiet p.dih view.number).marks) tt;
            }),
      )

      pub own_kept : AreKept OwnParts AreOwn x
      own_kept = record { row = row; enters = enters }
        where
          row : (parts : Parts) → OwnParts parts
              → OwnParts (parts_row parts x).state × AreOwn (parts_row parts x).effects
          row (Tc p) own = tc_own p x.to.block own
          row (Shell p) own = absurd own
          row (Main p) own = absurd own
          row (Ldm p) own = absurd own

          enters : (parts : Parts) (view : View) → OwnParts parts
              → OwnParts (parts_entered parts view).state × AreOwn (parts_entered parts view).effects
          enters (Tc p) view own = tc_entered_own p view own
          enters (Shell p) view own = absurd own
          enters (Main p) view own = absurd own
          enters (Ldm p) view own = absurd own
