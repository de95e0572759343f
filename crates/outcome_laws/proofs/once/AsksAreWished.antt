-- A coordinator asks for an epoch only where it is asked for the commit.
use Rattle.std.proofs.Common.{◌≡◌, ◌≤◌, ℕ, Bool, true, false, List, [], ◌∷◌, arith, nat_lt, refl, subst, sym}
use Rattle.run_theory.specs.Lists.{Each, IsIn}
use Rattle.run_theory.proofs.Pasts.{each_append, each_map}
use Rattle.sig_core.specs.declared.member.TxId.{TxId}
use Rattle.sig_core.specs.declared.outs.Outgoing.{Outgoing}
use Rattle.sig_core.specs.declared.signal.Body.{Body}
use Rattle.sig_core.specs.declared.signal.Body.TheVariants.{Chain, Client, Epoch, Takeover}
use Rattle.sig_core.specs.declared.signal.chain.ChainSignal.TheVariants.{Commit}
use Rattle.sig_core.specs.declared.signal.client.ClientSignal.TheVariants.{TcCommitConf, TcCommitReq, TcKeyFailConf}
use Rattle.sig_core.specs.declared.signal.epoch.EpochSignal.TheVariants.{DiVerifyConf, DiVerifyReq}
use Rattle.sig_core.specs.declared.signal.takeover.RecordState.{RecordState}
use Rattle.sig_core.specs.declared.signal.takeover.RecordState.TheVariants as state
use Rattle.sig_core.specs.declared.signal.takeover.TakeoverSignal.TheVariants.{LqhTransConf}
use Rattle.sig_core.specs.declared.signal.Signal.{Signal}
use Rattle.sig_core.specs.Same.{same_tx}
use Rattle.tc_block.specs.declared.phase.Phase.{Phase}
use Rattle.tc_block.specs.declared.phase.Phase.TheVariants as phase
use Rattle.tc_block.specs.declared.transaction.Transaction.{Transaction}
use Rattle.tc_block.specs.Complete.{one_if}
use Rattle.tc_views.specs.Coordinator.{coordinator_row, coordinator_table}
use Rattle.tc_views.specs.State.{CoordinatorState, go_on_if, within}
use Rattle.outcome_laws.specs.Counts.{is_asking, is_wish, may_ask}
use Rattle.outcome_laws.specs.Known.{IsDecidedIn}
use Rattle.outcome_laws.specs.Tells.{Tells, TellsOfRecord}
use Rattle.std.specs.Prelude.{length}
use Rattle.run_theory.specs.Logs.{IsLog}
use Rattle.sig_core.specs.declared.member.Member.{Member}
use Rattle.sig_core.specs.declared.place.BlockId.{BlockId}
use Rattle.sig_core.specs.declared.place.BlockId.TheVariants as block
use Rattle.sig_core.specs.declared.view.View.{View}
use Rattle.sig_core.specs.Step.{Effects}
use Rattle.dih_node.specs.Orders as dih
use Rattle.node_views.specs.Blocks.{parts_entered, parts_row}
use Rattle.node_views.specs.Parts.{tc_entered, tc_row}
use Rattle.node_views.specs.declared.host_body.HostBody as hosts
use Rattle.node_views.specs.declared.parts.Parts.{Parts}
use Rattle.node_views.specs.declared.parts.Parts.TheVariants.{Ldm, Main, Shell, Tc}
use Rattle.node_views.specs.declared.tc_part.TcPart.{TcPart}
use Rattle.tc_views.specs.Views as coordinator
use Rattle.world_core.specs.Start.{NobodyStarts, Start, made}
use Rattle.world_core.specs.Steps.{HostStep}
use Rattle.world_views.specs.Machine.{after, machine, step_after, step_by}
use Rattle.moment_laws.specs.Places.{tc_of}
use Rattle.outcome_laws.specs.Once.{takes_in}
use Rattle.outcome_laws.proofs.knowledge.HostSteps.{AreKept, IsOfEffects, step_keeps}
use Rattle.outcome_laws.proofs.once.Begins.{ask_light, tc_begins}
use Rattle.outcome_laws.proofs.once.AlongLogs.{log_light, sends_in, sent_by_count}
use Rattle.outcome_laws.proofs.once.Counted.{AreUncounted, IsUncounted, count_none, uncounted_asking}
use Rattle.outcome_laws.proofs.once.CoordinatorScale.{IsTcOf, dih_installs_none, dih_none, of_coordinator}
use Rattle.outcome_laws.proofs.takeovers.SendUncounted.{takeover_none}
use Rattle.outcome_laws.proofs.coordinators.TellsTrue.{coordinator_tells}

module _ (tx : TxId) where
  -- whatever was decided, and of every other transaction
  abbrev Decided : TxId → ℕ → Type 0
  Decided u epoch = Unit {0}

  abbrev IsOther : TxId → Type 0
  IsOther u = same_tx u tx ≡ false

  knows : (live : List (TxId × Transaction)) → Each (λ e. IsDecidedIn Decided IsOther e.0 e.1.phase) live
  knows [] = tt
  knows (e ∷ live) = (by e.1.phase, knows live)
    where
      by : (p : Phase) → IsDecidedIn Decided IsOther e.0 p
      by (phase.Committing epoch awaited) = tt
      by (phase.Completing epoch awaited) = tt
      by _ = tt

  asks_other : (body : Body) → Tells Decided IsOther body → is_asking tx body ≡ false
  asks_other (Epoch (DiVerifyReq u ops)) told = told
  asks_other body told = refl

  abbrev AskNone : List Outgoing → Type 0
  AskNone sends = Each (λ (sent : Outgoing). is_asking tx sent.body ≡ false) sends

  told_none : (s : CoordinatorState) (x : Signal) → Tells Decided IsOther x.body
      → AskNone (coordinator_row s x).effects.sends
  told_none s x told =
      each_map (λ (sent : Outgoing). Tells Decided IsOther sent.body)
      (λ (sent : Outgoing). is_asking tx sent.body ≡ false) (coordinator_row s x).effects.sends
      (λ sent is. asks_other sent.body is) (coordinator_tells Decided IsOther s x (knows s.tc.live) told)

  -- a signal that asks for no commit of the transaction, nor for an epoch
  abbrev asks : Body → Bool
  asks (Epoch (DiVerifyReq u ops)) = true
  asks body = false

  record_told : (u : TxId) (told : RecordState) (epoch : ℕ) → TellsOfRecord Decided IsOther u told epoch
  record_told u state.Prepared epoch = tt
  record_told u state.Committed epoch = tt
  record_told u state.Marker epoch = tt

  told_other : (body : Body) → is_wish tx body ≡ false → asks body ≡ false → Tells Decided IsOther body
  told_other (Client (TcCommitReq u)) other none = other
  told_other (Epoch (DiVerifyReq u ops)) other none = absurd cc
  told_other (Epoch (DiVerifyConf u epoch)) other none = tt
  told_other (Chain (Commit u key epoch chain at)) other none = tt
  told_other (Client (TcCommitConf u epoch)) other none = tt
  told_other (Client (TcKeyFailConf u epoch)) other none = tt
  told_other (Takeover (LqhTransConf u key told epoch)) other none = record_told u told epoch
  told_other body other none = tt

  pub unwished_none : (s : CoordinatorState) (x : Signal) → is_wish tx x.body ≡ false
      → Each (λ (sent : Outgoing). is_asking tx sent.body ≡ false) (coordinator_row s x).effects.sends
  unfolding within
  unwished_none s x unwished = by x.body refl unwished
    where
      by : (body : Body) → x.body ≡ body → is_wish tx body ≡ false → AskNone (coordinator_row s x).effects.sends
      by (Epoch (DiVerifyReq u ops)) is other =
          subst (λ (b : Body). AskNone (coordinator_table s x.view.number b).effects.sends) (sym is) tt
      by body is other = told_none s x (subst (Tells Decided IsOther) (sym is) (told_other body other refl))

  -- and so it is with all blocks of its host
  abbrev EffectsAskNone : Effects → Type 0
  EffectsAskNone effects = Each (λ (sent : Outgoing). is_asking tx sent.body ≡ false) effects.sends

  of_effects : IsOfEffects EffectsAskNone
  of_effects = record {
    none = tt;
    stops = λ cause. tt;
    installs = λ view. tt;
    cuts = λ first. tt;
    joins = λ one other first then.
        each_append (λ (sent : Outgoing). is_asking tx sent.body ≡ false) one.sends other.sends first then;
    hushes = λ effects none. tt;
  }

  uncounted_ask : (sends : List Outgoing) → AreUncounted sends → AskNone sends
  uncounted_ask sends none =
      each_map IsUncounted (λ (sent : Outgoing). is_asking tx sent.body ≡ false) sends
      (λ sent is. uncounted_asking tx sent.body is) none

  -- a part with a coordinator
  abbrev HasTc : Parts → Type 0
  HasTc (Tc p) = Unit {0}
  HasTc parts = ⊥

  module _ (x : Signal) (unwished : is_wish tx x.body ≡ false) where
    tc_asks : (q : TcPart) (b : BlockId) → AskNone (tc_row q b x).effects.sends
    unfolding tc_row
    tc_asks q block.Tc = unwished_none q.coordinator x unwished
    tc_asks q block.Takeover = uncounted_ask _ (takeover_none q.takeover x)
    tc_asks q block.Dih = uncounted_ask _ (dih_none q.dih x)
    tc_asks q _ = tt

    go_on_asks : (node : ℕ) (b : Bool) → AskNone (go_on_if node b)
    go_on_asks node true = (refl, tt)
    go_on_asks node false = tt

    tc_enters : (q : TcPart) (view : View) → AskNone (tc_entered q view).effects.sends
    unfolding coordinator.install_row
    tc_enters q view =
        each_append (λ (sent : Outgoing). is_asking tx sent.body ≡ false)
        (coordinator.install_row q.coordinator view).effects.sends (dih.install_row q.dih view.number).effects.sends
        (go_on_asks q.coordinator.tc.node (nat_lt 0 (length (coordinator.tasks_at q.coordinator view.number))))
        (uncounted_ask _ (dih_installs_none q.dih view.number))

    kept : AreKept HasTc EffectsAskNone x
    kept = record { row = row; enters = enters }
      where
        row : (parts : Parts) → HasTc parts
            → HasTc (parts_row parts x).state × EffectsAskNone (parts_row parts x).effects
        row (Tc q) has = (tt, tc_asks q x.to.block)
        row (Shell q) has = absurd has
        row (Main q) has = absurd has
        row (Ldm q) has = absurd has

        enters : (parts : Parts) (view : View) → HasTc parts
            → HasTc (parts_entered parts view).state × EffectsAskNone (parts_entered parts view).effects
        enters (Tc q) view has = (tt, tc_enters q view)
        enters (Shell q) view has = absurd has
        enters (Main q) view has = absurd has
        enters (Ldm q) view has = absurd has

    step_asks : (h : ℕ) (s : hosts.HostBody) → HasTc s.parts → AskNone (step_by h s x).effects.sends
    step_asks h s has = (step_keeps HasTc EffectsAskNone of_effects x h s (λ sound. kept) has).1

  -- along a log in which it isn't asked for the commit it asks for no epoch
  has_tc : (me : Member) (parts : Parts) → IsTcOf me parts → HasTc parts
  has_tc me (Tc q) of = tt
  has_tc me (Shell q) of = absurd of
  has_tc me (Main q) of = absurd of
  has_tc me (Ldm q) of = absurd of

  pub asks_wished : (start : Start) (nobody : NobodyStarts start) (me : Member) → IsIn me (made start)
      → (log : List HostStep)
      → IsLog (machine start) (tc_of start me) log → takes_in (is_wish tx) log ≤ 0
      → sends_in (is_asking tx) start (tc_of start me) log ≡ 0
  asks_wished start nobody me there [] is none = refl
  asks_wished start nobody me there (e ∷ log) is none =
      let h = tc_of start me in
      let old =
      log_light (of_coordinator (is_asking tx) (λ s. may_ask s tx)) (IsTcOf me) (ask_light tx me) start h
      (tc_begins start nobody me there) log is.1 in
      omega (
        arith,
        asks_wished start nobody me there log is.1 (omega (arith, none)),
        sent_by_count (is_asking tx) start h log e,
        count_none (λ (sent : Outgoing). is_asking tx sent.body) (step_after start h log e).effects.sends
            (step_asks e.step.taken (wished_not (is_wish tx e.step.taken.body) (omega (arith, none))) h
            (after start h log) (has_tc me (after start h log).parts old.keeps)),
      )
    where
      wished_not : (b : Bool) → one_if b ≤ 0 → b ≡ false
      wished_not true few = absurd (omega (arith, few))
      wished_not false few = refl
