-- The client's side knows only of commits that it was told of.
use Rattle.std.proofs.Common.{◌≡◌, ◌∙◌, ℕ, true, false, List, [], ◌∷◌, sym, ap, subst}
use Rattle.std.proofs.lemmas.Bool.{true≢false}
use Rattle.run_theory.specs.Links.{sent, sent_by}
use Rattle.run_theory.specs.Lists.{Each, IsIn}
use Rattle.run_theory.proofs.Links.{put_past}
use Rattle.run_theory.proofs.Pasts.{each_append, each_from, each_in, each_map, in_past}
use Rattle.run_theory.proofs.EventCases.{event_cases}
use Rattle.commit_laws.proofs.hosts.MarkCases.{known_cases}
use Rattle.sig_core.specs.declared.member.TxId.{TxId}
use Rattle.sig_core.specs.declared.outs.Outgoing.{Outgoing}
use Rattle.sig_core.specs.declared.place.BlockId.{BlockId}
use Rattle.sig_core.specs.declared.place.BlockId.TheVariants as block
use Rattle.sig_core.specs.declared.signal.Body.{Body}
use Rattle.sig_core.specs.declared.signal.Body.TheVariants.{Client}
use Rattle.sig_core.specs.declared.signal.client.ClientSignal.TheVariants.{TcCommitAck, ViewRep}
use Rattle.sig_core.specs.declared.signal.Signal.{Signal}
use Rattle.sig_core.specs.declared.view.View.{View}
use Rattle.sig_core.specs.Step.{Effects, Step}
use Rattle.sig_core.proofs.TxLemmas.{same_tx-is}
use Rattle.api_views.specs.Client.{client_row}
use Rattle.arbiter_block.specs.Arbiter.{arbiter_row}
use Rattle.node_views.specs.Blocks.{parts_entered, parts_row}
use Rattle.node_views.specs.declared.host_body.HostBody as hosts
use Rattle.node_views.specs.declared.parts.Parts.{Parts}
use Rattle.node_views.specs.declared.parts.Parts.TheVariants.{Ldm, Main, Shell, Tc}
use Rattle.node_views.specs.Parts.{shell_row}
use Rattle.node_views.specs.Replies.{giving}
use Rattle.node_views.specs.WellFormed.{is_well_formed}
use Rattle.world_core.specs.Start.{NobodyStarts, Start}
use Rattle.world_core.specs.Steps.{Addressed, HostStep}
use Rattle.world_views.specs.Hosts.{started}
use Rattle.world_views.specs.Machine.{IsOwnWork, after, machine, step_after, step_by, told}
use Rattle.view_laws.specs.Order.{sound_machine}
use Rattle.view_laws.proofs.eras.Shapes.{shape_stays}
use Rattle.moment_laws.specs.Moments.{IsMoment, logs_of}
use Rattle.moment_laws.proofs.MomentSignals.{IsClosed, taken_told}
use Rattle.moment_laws.proofs.MomentViews.{moment_less}
use Rattle.outcome_laws.proofs.knowledge.TellsNothing.{AreUntold, IsUntold, is_tale}
use Rattle.outcome_laws.proofs.knowledge.Parts.{arbiter_tells_nothing}
use Rattle.outcome_laws.proofs.knowledge.HostSteps.{IsOfEffects, step_keeps}
use Rattle.outcome_laws.proofs.once.DecidesAndReports.{IsShell}
use Rattle.request_laws.specs.Ways.{is_sent}
use Rattle.commit_laws.specs.Traces.{is_acknowledgement, is_known}
use Rattle.commit_laws.proofs.forth.Client.{Answers, IsToldOf, by_coordinator, by_takeover, client_acknowledges}
use Rattle.commit_laws.proofs.hosts.SomePasses.{passing}

module _ (x : Signal) (Well : Type 0) where
  abbrev pub Owes : Body → Type 0
  Owes (Client (TcCommitAck tx)) = IsToldOf tx x.body × Well
  Owes body = Unit {0}

  abbrev Owe : Outgoing → Type 0
  Owe sent = Owes sent.body

  abbrev pub AreOwed : Effects → Type 0
  AreOwed effects = Each (λ (sent : Outgoing). Owes sent.body) effects.sends

  owed_effects : IsOfEffects AreOwed
  owed_effects = record {
    none = tt;
    stops = λ cause. tt;
    installs = λ view. tt;
    cuts = λ first. tt;
    joins = λ one other first then. each_append Owe one.sends other.sends first then;
    hushes = λ effects are. tt;
  }

  answered : (well : Well) (body : Body) → Answers x.body body → Owes body
  answered well (Client (TcCommitAck tx)) told = (told, well)
  answered well body told = tt

  untold : (body : Body) → is_tale body ≡ false → Owes body
  untold (Client ViewRep) none = tt
  untold (Client signal) none = absurd cc
  untold body none = tt

  untold_owed : (sends : List Outgoing) → AreUntold sends → Each Owe sends
  untold_owed sends none = each_map IsUntold Owe sends (λ sent is. untold sent.body is) none

  row_owed : Well → (parts : Parts) → IsShell parts
      → IsShell (parts_row parts x).state × AreOwed (parts_row parts x).effects
  unfolding shell_row
  row_owed well (Shell p) shell = (tt, by x.to.block)
    where
      by : (b : BlockId) → AreOwed (shell_row p b x).effects
      by block.Api =
          each_map (λ (sent : Outgoing). Answers x.body sent.body) Owe (client_row p.client x).effects.sends
          (λ sent told. answered well sent.body told) (client_acknowledges x p.client)
      by block.Arbiter = untold_owed (arbiter_row p.arbiter x).effects.sends (arbiter_tells_nothing p.arbiter x).0
      by _ = tt
  row_owed well (Main p) shell = absurd shell
  row_owed well (Tc p) shell = absurd shell
  row_owed well (Ldm p) shell = absurd shell

  entered_owed : (parts : Parts) (view : View) → IsShell parts
      → IsShell (parts_entered parts view).state × AreOwed (parts_entered parts view).effects
  entered_owed (Shell p) view shell = (tt, tt)
  entered_owed (Main p) view shell = absurd shell
  entered_owed (Tc p) view shell = absurd shell
  entered_owed (Ldm p) view shell = absurd shell

  pub shell_steps : (s : hosts.HostBody) → (is_well_formed s.standing.shape x ≡ true → Well) → IsShell s.parts
      → IsShell (step_by 0 s x).state.parts × AreOwed (step_by 0 s x).effects
  shell_steps s well shell =
      step_keeps IsShell AreOwed owed_effects x 0 s
      (λ sound. record { row = row_owed (well sound); enters = entered_owed }) shell

module _ (start : Start) where
  given_shell : (t : Step hosts.HostBody) → IsShell t.state.parts → IsShell (told 0 t).parts
  given_shell t = by t.state.parts
    where
      by : (parts : Parts) → IsShell parts → IsShell (giving parts [])
      by (Shell p) shell = tt
      by (Main p) shell = absurd shell
      by (Tc p) shell = absurd shell
      by (Ldm p) shell = absurd shell

  -- it runs the client's side along each log
  pub runs_shell : (log : List HostStep) → IsShell (after start 0 log).parts
  unfolding started
  runs_shell [] = tt
  runs_shell (e ∷ log) =
      given_shell (step_by 0 (after start 0 log) e.step.taken)
      (shell_steps e.step.taken Unit (after start 0 log) (λ sound. tt) (runs_shell log)).0

  owed : NobodyStarts start → (log : List HostStep) (e : HostStep)
      → AreOwed e.step.taken (is_well_formed start.shape e.step.taken ≡ true) (step_after start 0 log e).effects
  owed nobody log e =
      (shell_steps e.step.taken (is_well_formed start.shape e.step.taken ≡ true) (after start 0 log)
      (λ sound. ap (λ shape. is_well_formed shape e.step.taken) (sym (shape_stays start nobody 0 log)) ∙ sound)
      (runs_shell log)).1

-- a signal was sent that tells the client's side of the commit
pub record WasTold (start : Start) (logs : ℕ → List HostStep) (tx : TxId) : Type 0 where
  pub from : ℕ
  pub to : ℕ
  pub signal : Addressed
  pub there : IsIn signal (sent (sound_machine start) from to (logs from))
  pub tells : IsToldOf tx signal.signal.body

module _ (start : Start) (all : ℕ → List HostStep) (e : HostStep) (es : List HostStep)
    (moment : IsMoment start all (e ∷ es))
  where
    abbrev old : ℕ → List HostStep
    old = logs_of start es

    abbrev new : ℕ → List HostStep
    new = logs_of start (e ∷ es)

    abbrev x : Signal
    x = e.step.taken

    -- what was sent before was so behind the event
    pub still_sent : (y : Addressed) (i j : ℕ) → IsIn y (sent (sound_machine start) i j (old i))
        → IsIn y (sent (sound_machine start) i j (new i))
    still_sent y i j there =
        event_cases (machine start) e es i (λ log. IsIn y (sent (sound_machine start) i j log))
        (λ at.
        in_past y
        (put_past (sound_machine start) j (sent_by (sound_machine start) i (old i) e)
        (sent (sound_machine start) i j (old i))) there)
        (λ off. there)

    told_still : (tx : TxId) → WasTold start old tx → WasTold start new tx
    told_still tx was = record {
      from = was.from;
      to = was.to;
      signal = was.signal;
      there = still_sent was.signal was.from was.to was.there;
      tells = was.tells;
    }

    -- what tells of a commit and is taken was sent
    record WasSent (y : Addressed) : Type 0 where
      from : ℕ
      to : ℕ
      there : IsIn y (sent (sound_machine start) from to (old from))

    taken_was : (tx : TxId) → IsToldOf tx x.body → is_well_formed start.shape x ≡ true → WasTold start old tx
    taken_was tx tells sound =
        let was = taken_told start WasSent all e es moment
        (λ i j. each_from WasSent (sent (sound_machine start) i j (old i))
        (λ y there. record { from = i; to = j; there = there }))
        sound (not_own tells) (not_closing tells) in
        record { from = was.from; to = was.to; signal = _; there = was.there; tells = tells }
      where
        not_own : IsToldOf tx x.body → IsOwnWork start e.host x.body → ⊥
        not_own (by_coordinator epoch is) work = subst (IsOwnWork start e.host) is work
        not_own (by_takeover epoch is) work = subst (IsOwnWork start e.host) is work

        not_closing : IsToldOf tx x.body → IsClosed x.body → ⊥
        not_closing (by_coordinator epoch is) closes = absurd (cc (is, closes.is))
        not_closing (by_takeover epoch is) closes = absurd (cc (is, closes.is))

    sent_told : (tx : TxId) → e.host ≡ 0
        → is_sent (is_acknowledgement tx) (step_after start 0 (old 0) e).effects.sends ≡ true → WasTold start old tx
    sent_told tx at is =
        let one =
        passing (λ (o : Outgoing). is_acknowledgement tx o.body) (step_after start 0 (old 0) e).effects.sends is in
        by one.item.body one.is
        (each_in (λ (o : Outgoing). Owes x (is_well_formed start.shape x ≡ true) o.body) one.item
        (step_after start 0 (old 0) e).effects.sends (owed start moment.cluster.nobody (old 0) e) one.there)
      where
        by : (body : Body) → is_acknowledgement tx body ≡ true → Owes x (is_well_formed start.shape x ≡ true) body
            → WasTold start old tx
        by (Client (TcCommitAck other)) same owes =
            subst (WasTold start old) (same_tx-is other tx same) (taken_was other owes.0 owes.1)
        by body same owes = absurd cc

    pub told_next : (tx : TxId) → (is_known start old tx ≡ true → WasTold start old tx) → is_known start new tx ≡ true
        → WasTold start new tx
    told_next tx before is = told_still tx (known_cases start e es tx (λ at here. sent_told tx at here) before is)

-- so it is at each moment
pub known_told : (start : Start) (all : ℕ → List HostStep) (es : List HostStep) → IsMoment start all es → (tx : TxId)
    → is_known start (logs_of start es) tx ≡ true → WasTold start (logs_of start es) tx
known_told start all [] moment tx is = absurd (true≢false (sym is))
known_told start all (e ∷ es) moment tx is =
    told_next start all e es moment tx (known_told start all es (moment_less start all e es moment) tx) is
