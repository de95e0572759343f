-- Whoever is reported aborted aborts: the client's side is told so by who speaks truly, or a takeover is complete in a
-- view without the coordinator, and has told before of each commit that members know.
use Rattle.std.proofs.Common.{◌≡◌, ◌≢◌, ◌⊎◌, ◌∙◌, ℕ, true, List, [], ◌∷◌, ◌++◌, inl, inr, refl, sym, ap, subst, arith}
use Rattle.std.proofs.lemmas.Bool.{true≢false}
use Rattle.std.specs.Prelude.{Option, None, Some}
use Rattle.run_theory.specs.Lists.{IsIn}
use Rattle.run_theory.specs.Logs.{IsRunning}
use Rattle.run_theory.specs.Runs.{Happens}
use Rattle.run_theory.proofs.Pasts.{each_in}
use Rattle.run_theory.proofs.EventCases.{event_cases}
use Rattle.commit_laws.proofs.hosts.MarkCases.{marked_cases}
use Rattle.sig_core.proofs.Keys.{same_tx-self}
use Rattle.sig_core.specs.declared.mark.Mark.{Mark}
use Rattle.sig_core.specs.declared.mark.Mark.TheVariants.{Reported}
use Rattle.sig_core.specs.declared.member.Member.{Member}
use Rattle.sig_core.specs.declared.member.TxId.{TxId}
use Rattle.sig_core.specs.declared.outcome.AbortCause.{AbortCause}
use Rattle.sig_core.specs.declared.outcome.AbortCause.TheVariants as cause
use Rattle.sig_core.specs.declared.outcome.Outcome.TheVariants.{Aborted}
use Rattle.sig_core.specs.declared.place.BlockId.{BlockId}
use Rattle.sig_core.specs.declared.place.BlockId.TheVariants as block
use Rattle.sig_core.specs.declared.signal.Body.TheVariants.{Client, Host}
use Rattle.sig_core.specs.declared.signal.Signal.{Signal}
use Rattle.sig_core.specs.declared.signal.client.ClientSignal.{ClientSignal}
use Rattle.sig_core.specs.declared.signal.client.ClientSignal.TheVariants.{TcKeyFailRef, TcRollbackRep}
use Rattle.sig_core.specs.declared.signal.host.HostSignal.TheVariants.{Closed}
use Rattle.sig_core.specs.declared.view.View.{View}
use Rattle.frag_map.specs.Layout.{first_layout}
use Rattle.api_block.specs.declared.opened.OpenTransaction.{OpenTransaction}
use Rattle.api_block.specs.Opened.{has_tx, is_tx}
use Rattle.api_views.specs.Client.{client_row}
use Rattle.api_views.specs.Members.{noted}
use Rattle.arbiter_block.specs.Arbiter.{arbiter_row}
use Rattle.takeover_block.specs.State.{resting}
use Rattle.node_views.specs.declared.host_body.HostBody as hosts_of
use Rattle.node_views.specs.declared.parts.Parts.{Parts}
use Rattle.node_views.specs.declared.parts.Parts.TheVariants.{Shell}
use Rattle.node_views.specs.declared.shell_part.ShellPart.{ShellPart}
use Rattle.node_views.specs.Parts.{shell_row}
use Rattle.node_views.specs.WellFormed.{is_well_formed}
use Rattle.world_core.specs.Start.{NobodyStarts, Start, made}
use Rattle.world_core.specs.Steps.{Addressed, HostStep}
use Rattle.world_views.specs.Hosts.{started}
use Rattle.world_views.specs.Machine.{IsOwnWork, after, machine, step_after}
use Rattle.view_laws.specs.Order.{sound_machine}
use Rattle.moment_laws.specs.Moments.{IsMoment, logs_of}
use Rattle.moment_laws.proofs.MomentHosts.{tc_started}
use Rattle.moment_laws.proofs.MomentSignals.{taken_told}
use Rattle.moment_laws.proofs.MomentViews.{moment_less}
use Rattle.outcome_laws.proofs.knowledge.Parts.{arbiter_tells_nothing}
use Rattle.outcome_laws.proofs.once.DecidesAndReports.{in_client}
use Rattle.outcome_laws.proofs.knowledge.MarksOfNoOutcome.{IsNoOutcome}
use Rattle.outcome_laws.specs.Counts.{count_open}
use Rattle.outcome_laws.specs.Decided.{IsMarked}
use Rattle.request_laws.specs.Blocks.{takeover_in}
use Rattle.request_laws.proofs.routes.ChainsStay.{any_in}
use Rattle.commit_laws.specs.Fates.{aborts, fate}
use Rattle.commit_laws.specs.Reported.{CompletesLast, GatheringsList}
use Rattle.commit_laws.specs.Speaks.{ReportedAbort, SaysAbort}
use Rattle.commit_laws.specs.Together.{AllStandAlways, FatesMove, Follows}
use Rattle.commit_laws.specs.Traces.{is_known}
use Rattle.commit_laws.proofs.fates.Moves.{fates_move}
use Rattle.commit_laws.proofs.forth.KnownComes.{known_commit}
use Rattle.commit_laws.proofs.led.Entries.{any_counts}
use Rattle.commit_laws.proofs.reported.Client.{AbortReason, HasAbortReason, by_down, by_failing, by_rollback, by_view}
use Rattle.commit_laws.proofs.reported.Client.{client_is_good, noted_opened, noted_taken}
use Rattle.commit_laws.proofs.reported.Rulings.{TellsAll}
use Rattle.commit_laws.proofs.reported.Takeovers.{TakeoverTells, completes_next, tells_next}
use Rattle.commit_laws.proofs.reported.Told.{ClientStands, client_next}
use Rattle.commit_laws.proofs.hosts.ShellGoes.{IsOfShell, IsSameBut, shell_marks}
use Rattle.commit_laws.proofs.hosts.ShellSees.{seeing}

-- what stands together of takeovers and the client's side
pub record AreSaid (start : Start) (nobody : NobodyStarts start) (es : List HostStep) : Type 0 where
  pub tells : (member : Member) → IsIn member (made start) → TakeoverTells start (logs_of start es) member
  pub last : CompletesLast start (logs_of start es)
  pub client : IsRunning (sound_machine start) (logs_of start es 0) → ClientStands start nobody (logs_of start es)

-- nothing was said at first
said_first : (start : Start) (nobody : NobodyStarts start) → AreSaid start nobody []
unfolding started
said_first start nobody = record {
  tells = λ member there stands runs can.
      subst (TellsAll _ _)
      (sym (ap (λ (s : hosts_of.HostBody). takeover_in (resting member.node (first_layout start.shape)) s.parts)
      (tc_started start nobody member there)))
      (record { attended = tt; first = tt });
  last = λ i y newer older is body tx orphan. absurd (none y newer older is);
  client = λ runs.
      record {
        heard = λ i z there place tx epoch body. absurd there;
        closed = λ tx is. absurd (true≢false (sym is));
        over = λ view is tx out.
            let first : None ≡ Some view = ap taken_of (seeing start nobody []).runs ∙ is in
            absurd cc;
      };
}
  where
    taken_of : Parts → Option View
    taken_of (Shell p) = p.client.taken_over
    taken_of parts = None

    none : (y : Addressed) (newer older : List Addressed) → [] ≡ newer ++ y ∷ older → ⊥
    none y [] older is = absurd cc
    none y (z ∷ newer) older is = absurd cc

module _ (stand : AllStandAlways) (list : GatheringsList) (start : Start) (nobody : NobodyStarts start)
    (all : ℕ → List HostStep) where
  follows : (e : HostStep) (es : List HostStep) → IsMoment start all (e ∷ es) → Follows start all e es
  follows e es moment = record { moment = moment; stood = stand start all es (moment_less start all e es moment) }

  moves : (e : HostStep) (es : List HostStep) → IsMoment start all (e ∷ es) → (tx : TxId) → FatesMove start e es tx
  moves e es moment tx = fates_move known_commit start all e es (follows e es moment) tx

  are_said : (es : List HostStep) → IsMoment start all es → AreSaid start nobody es
  are_said [] moment = said_first start nobody
  are_said (e ∷ es) moment = by (are_said es (moment_less start all e es moment))
    where
      on : Follows start all e es
      on = follows e es moment

      happens : Happens (sound_machine start) es e
      happens = moment.run.1

      by : AreSaid start nobody es → AreSaid start nobody (e ∷ es)
      by was = record {
        tells = λ member there.
            tells_next list start all e es on (moves e es moment) member there (was.tells member there);
        last = completes_next list start all e es on (moves e es moment) was.tells was.last;
        client = λ runs.
            client_next start nobody all e es on (moves e es moment) was.last (was.client (ran runs)) runs;
      }
        where
          ran : IsRunning (sound_machine start) (logs_of start (e ∷ es) 0)
              → IsRunning (sound_machine start) (logs_of start es 0)
          ran =
              event_cases (machine start) e es 0
              (λ log. IsRunning (sound_machine start) log → IsRunning (sound_machine start) (logs_of start es 0))
              (λ at runs. subst (λ k. IsRunning (sound_machine start) (logs_of start es k)) at happens.step.runs)
              (λ off runs. runs)

  module _ (e : HostStep) (es : List HostStep) (moment : IsMoment start all (e ∷ es)) (at : e.host ≡ 0) (tx : TxId)
      (why : AbortCause) (not_down : why ≢ cause.Down)
    where
      abbrev old : ℕ → List HostStep
      old = logs_of start es

      abbrev log : List HostStep
      log = logs_of start es 0

      abbrev x : Signal
      x = e.step.taken

      abbrev own : ShellPart
      own = (seeing start nobody log).part

      less : IsMoment start all es
      less = moment_less start all e es moment

      happens : Happens (sound_machine start) es e
      happens = moment.run.1

      client : ClientStands start nobody old
      client =
          (are_said es less).client (subst (λ k. IsRunning (sound_machine start) (old k)) at happens.step.runs)

      -- whoever tells it of an abort speaks truly
      client_told : (signal : ClientSignal) → x.body ≡ Client signal → is_well_formed start.shape x ≡ true
          → SaysAbort (fate start old) (Client signal)
      client_told signal is sound =
          subst (SaysAbort (fate start old)) is
          (taken_told start (λ (y : Addressed). SaysAbort (fate start old) y.signal.body) all e es moment
          (stand start all es less).spoken.aborts_said sound
          (λ work. absurd (subst (IsOwnWork start e.host) is work))
          (λ closes. let differ : Client signal ≡ Host (Closed closes.cause) = sym is ∙ closes.is in absurd cc))

      -- a transaction that is open isn't known to be committed
      not_known : (t : OpenTransaction) → IsIn t own.client.api.opened → t.tx ≡ Some tx → is_known start old tx ≡ true
          → ⊥
      not_known t there is knows =
          let some = any_counts (has_tx tx) own.client.api.opened
          (any_in (has_tx tx) t own.client.api.opened there (ap (is_tx tx) is ∙ same_tx-self tx)) in
          let none = client.closed tx knows in
          let same : in_client (count_open tx) (after start 0 log).parts ≡ count_open tx own.client =
          ap (in_client (count_open tx)) (seeing start nobody log).runs in
          omega (arith, some, none, same)

      reason : (q : ShellPart) → IsSameBut own q → is_well_formed start.shape x ≡ true
          → AbortReason (noted q.client x.view).taken_over (noted q.client x.view).api.opened x.body tx why
          → fate start old tx ≡ aborts
      reason q same sound (by_rollback is) = client_told (TcRollbackRep tx why) is sound
      reason q same sound (by_failing is) = client_told (TcKeyFailRef tx) is sound
      reason q same sound (by_down is) = absurd (not_down is)
      reason q same sound (by_view view taken out t there is) =
          which (client.over view (sym same.taken ∙ (sym (noted_taken q.client x.view) ∙ taken)) tx out)
        where
          which : (fate start old tx ≡ aborts) ⊎ (is_known start old tx ≡ true) → fate start old tx ≡ aborts
          which (inl aborting) = aborting
          which (inr knows) =
              absurd (not_known t (subst (IsIn t) (noted_opened q.client x.view ∙ same.opened) there) is knows)

      now_aborts : IsIn (Reported tx (Aborted why)) e.step.marks → fate start old tx ≡ aborts
      unfolding shell_row
      now_aborts there =
          by (shell_marks start nobody log e mark (subst (IsIn mark) marks there) refl)
        where
          mark : Mark
          mark = Reported tx (Aborted why)

          marks : e.step.marks ≡ (step_after start 0 log e).effects.marks
          marks = subst (λ k. e.step.marks ≡ (step_after start k (old k) e).effects.marks) at happens.step.fits.marks

          row : (q : ShellPart) → IsSameBut own q → is_well_formed start.shape x ≡ true → (b : BlockId)
              → IsIn (Reported tx (Aborted why)) (shell_row q b x).effects.marks → fate start old tx ≡ aborts
          row q same sound block.Api inside =
              reason q same sound
              (each_in (HasAbortReason x (noted q.client x.view)) (Reported tx (Aborted why))
              (client_row q.client x).effects.marks (client_is_good x q.client).0 inside)
          row q same sound block.Arbiter inside =
              absurd (true≢false (each_in IsNoOutcome (Reported tx (Aborted why))
              (arbiter_row q.arbiter x).effects.marks
              (arbiter_tells_nothing q.arbiter x).1 inside))
          row q same sound _ inside = absurd inside

          by : IsOfShell start nobody log e mark → fate start old tx ≡ aborts
          by one = row one.q one.same one.sound x.to.block one.there

  reported : (es : List HostStep) → IsMoment start all es → (tx : TxId) (why : AbortCause) → why ≢ cause.Down
      → IsMarked (Reported tx (Aborted why)) (logs_of start es 0) → fate start (logs_of start es) tx ≡ aborts
  reported [] moment tx why not_down marked = absurd marked
  reported (e ∷ es) moment tx why not_down marked =
      (moves e es moment tx).aborting
      (marked_cases start e es 0 (Reported tx (Aborted why)) (λ at now. now_aborts e es moment at tx why not_down now)
      (reported es (moment_less start all e es moment) tx why not_down) marked)

pub reported_abort : AllStandAlways → GatheringsList → ReportedAbort
reported_abort stand list start all es moment tx why not_down marked =
    reported stand list start moment.cluster.nobody all es moment tx why not_down marked
