-- Hosts that run no coordinator say of commits what they know, and what they are told.
use Rattle.std.proofs.Common.{◌≡◌, ℕ, zero, suc, true, List, [], subst}
use Rattle.run_theory.proofs.Pasts.{each_append, each_from, each_in}
use Rattle.sig_core.specs.declared.member.TxId.{TxId}
use Rattle.sig_core.specs.declared.outs.Outgoing.{Outgoing}
use Rattle.sig_core.specs.declared.place.BlockId.{BlockId}
use Rattle.sig_core.specs.declared.place.BlockId.TheVariants as block
use Rattle.sig_core.specs.declared.signal.Body.{Body}
use Rattle.sig_core.specs.declared.signal.Body.TheVariants.{Chain, Client, Takeover}
use Rattle.sig_core.specs.declared.signal.Signal.{Signal}
use Rattle.sig_core.specs.declared.signal.client.ClientSignal.TheVariants.{TcCommitAck, TcCommitConf, TcKeyFailConf}
use Rattle.sig_core.specs.declared.view.View.{View}
use Rattle.sig_core.specs.Step.{Effects, Step}
use Rattle.api_views.specs.Client.{client_row}
use Rattle.api_views.specs.State.{ClientState}
use Rattle.arbiter_block.specs.Arbiter.{arbiter_row}
use Rattle.gcp_master.specs.Master.{master_row}
use Rattle.qmgr_block.specs.Qmgr.{qmgr_installed, qmgr_row}
use Rattle.lqh_saver.specs.State.{saving}
use Rattle.node_views.specs.Blocks.{parts_entered, parts_row}
use Rattle.node_views.specs.declared.host_body.HostBody as hosts
use Rattle.node_views.specs.declared.ldm_part.LdmPart.{LdmPart}
use Rattle.node_views.specs.declared.main_part.MainPart.{MainPart}
use Rattle.node_views.specs.declared.parts.Parts.{Parts}
use Rattle.node_views.specs.declared.parts.Parts.TheVariants.{Ldm, Main, Shell, Tc}
use Rattle.node_views.specs.declared.shell_part.ShellPart.{ShellPart}
use Rattle.node_views.specs.Parts.{ldm_row, main_row, shell_row}
use Rattle.node_views.specs.Replies.{giving}
use Rattle.node_views.specs.WellFormed.{is_well_formed}
use Rattle.world_views.specs.Machine.{step_by, told}
use Rattle.view_laws.proofs.words.ClientKinds.{is_of_client}
use Rattle.view_laws.proofs.words.Client.{client_kinds}
use Rattle.view_laws.proofs.words.Sent.{IsOf}
use Rattle.outcome_laws.specs.Known.{RowsKnow}
use Rattle.outcome_laws.proofs.knowledge.MasterTellsNothing.{master_tells_nothing}
use Rattle.outcome_laws.proofs.knowledge.MembershipTellsNothing.{membership_installs_nothing, membership_tells_nothing}
use Rattle.outcome_laws.proofs.knowledge.Parts.{arbiter_tells_nothing}
use Rattle.outcome_laws.proofs.knowledge.HostSteps.{AreKept, IsOfEffects, step_keeps}
use Rattle.outcome_laws.proofs.rows.KnowDecided.{rows_know_installed}
use Rattle.commit_laws.proofs.forth.Client.{Answers, IsToldOf, by_coordinator, by_takeover, client_acknowledges}
use Rattle.commit_laws.proofs.forth.Rows.{saving_learn, saving_speak}
use Rattle.commit_laws.proofs.forth.Speaks.{Anyone, AreSpoken, Of, Speaks, untold_speak}

module _ (F A : TxId → Type 0) where
  -- effects that say so
  abbrev pub SpeakIn : Effects → Type 0
  SpeakIn effects = AreSpoken F A effects.sends

  pub of_effects : IsOfEffects SpeakIn
  of_effects = record {
    none = tt;
    stops = λ cause. tt;
    installs = λ view. tt;
    cuts = λ first. tt;
    joins = λ one other first then.
        each_append (λ (sent : Outgoing). Speaks F A sent.body) one.sends other.sends first then;
    hushes = λ effects are. tt;
  }

  -- rows know so, and what is known to be committed may be acknowledged
  abbrev pub Fits : Parts → Type 0
  Fits (Shell p) = (tx : TxId) → F tx → A tx
  Fits (Main p) = Unit {0}
  Fits (Tc p) = ⊥
  Fits (Ldm p) = RowsKnow (Of F) Anyone p.replica

  module _ (x : Signal) (spoken : Speaks F A x.body) where
    module _ (may : (tx : TxId) → F tx → A tx) where
      acknowledged : (tx : TxId) → IsToldOf tx x.body → A tx
      acknowledged tx (by_coordinator epoch is) = may tx (subst (Speaks F A) is spoken)
      acknowledged tx (by_takeover epoch is) = may tx (subst (Speaks F A) is spoken)

      answers_speak : (body : Body) → is_of_client body ≡ true → Answers x.body body → Speaks F A body
      answers_speak (Client (TcCommitAck tx)) kind answers = acknowledged tx answers
      answers_speak (Client (TcCommitConf tx epoch)) kind answers = absurd cc
      answers_speak (Client (TcKeyFailConf tx epoch)) kind answers = absurd cc
      answers_speak (Chain signal) kind answers = absurd answers
      answers_speak (Takeover signal) kind answers = absurd answers
      answers_speak body kind answers = tt

      client_speaks : (s : ClientState) → AreSpoken F A (client_row s x).effects.sends
      client_speaks s =
          each_from _ sends (λ o there.
          answers_speak o.body (each_in (IsOf is_of_client) o sends (client_kinds s x) there)
          (each_in (λ (y : Outgoing). Answers x.body y.body) o sends (client_acknowledges x s) there))
        where
          sends : List Outgoing
          sends = (client_row s x).effects.sends

      shell_speaks : (p : ShellPart) (b : BlockId) → AreSpoken F A (shell_row p b x).effects.sends
      unfolding shell_row
      shell_speaks p block.Api = client_speaks p.client
      shell_speaks p block.Arbiter =
          untold_speak F A (arbiter_row p.arbiter x).effects.sends (arbiter_tells_nothing p.arbiter x).0
      shell_speaks p _ = tt

    main_speaks : (p : MainPart) (b : BlockId) → AreSpoken F A (main_row p b x).effects.sends
    unfolding main_row
    main_speaks p block.Qmgr =
        untold_speak F A (qmgr_row p.qmgr x).effects.sends (membership_tells_nothing p.qmgr x).0
    main_speaks p block.GcpMaster =
        untold_speak F A (master_row p.master x).effects.sends (master_tells_nothing p.master x).0
    main_speaks p _ = tt

    ldm_speaks : (p : LdmPart) (b : BlockId) → RowsKnow (Of F) Anyone p.replica
        → Fits (Ldm (ldm_row p b x).state) × SpeakIn (ldm_row p b x).effects
    unfolding ldm_row
    ldm_speaks p block.Lqh knows = (
      saving_learn F A (saving p.replica p.saver) x knows spoken,
      saving_speak F A (saving p.replica p.saver) x knows spoken,
    )
    ldm_speaks p _ knows = (knows, tt)

    row_speaks : (parts : Parts) → Fits parts → Fits (parts_row parts x).state × SpeakIn (parts_row parts x).effects
    row_speaks (Shell p) fits = (fits, shell_speaks fits p x.to.block)
    row_speaks (Main p) fits = (tt, main_speaks p x.to.block)
    row_speaks (Ldm p) fits = ldm_speaks p x.to.block fits
    row_speaks (Tc p) fits = absurd fits

    entered_speaks : (parts : Parts) (view : View) → Fits parts
        → Fits (parts_entered parts view).state × SpeakIn (parts_entered parts view).effects
    entered_speaks (Shell p) view fits = (fits, tt)
    entered_speaks (Main p) view fits =
        (tt, untold_speak F A (qmgr_installed p.qmgr view).effects.sends (membership_installs_nothing p.qmgr view).0)
    entered_speaks (Ldm p) view fits = (rows_know_installed (Of F) Anyone p.replica view fits, tt)
    entered_speaks (Tc p) view fits = absurd fits

    kept : AreKept Fits SpeakIn x
    kept = record { row = row_speaks; enters = entered_speaks }

  -- so it is of a step of such a host
  pub step_speaks : (h : ℕ) (s : hosts.HostBody) (x : Signal)
      → (is_well_formed s.standing.shape x ≡ true → Speaks F A x.body) → Fits s.parts
      → Fits (step_by h s x).state.parts × SpeakIn (step_by h s x).effects
  step_speaks h s x spoken fits = step_keeps Fits SpeakIn of_effects x h s (λ sound. kept x (spoken sound)) fits

  -- and where replies are told behind it
  given_fit : (parts : Parts) → Fits parts → Fits (giving parts [])
  given_fit (Shell p) fits = fits
  given_fit (Main p) fits = tt
  given_fit (Tc p) fits = absurd fits
  given_fit (Ldm p) fits = fits

  pub told_fit : (h : ℕ) (t : Step hosts.HostBody) → Fits t.state.parts → Fits (told h t).parts
  told_fit zero t fits = given_fit t.state.parts fits
  told_fit (suc h) t fits = fits
