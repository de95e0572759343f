-- Whom a master has heard to have ended the epoch of its run has ended it.
use Rattle.std.proofs.Common.{◌<◌, ◌≡◌, ◌≤◌, ℕ, List, [], ◌∷◌, sym, ap, subst}
use Rattle.frag_map.specs.Layout.{first_layout}
use Rattle.run_theory.proofs.Pasts.{each_append, each_map}
use Rattle.run_theory.specs.Lists.{IsIn}
use Rattle.sig_core.specs.declared.member.Member.{Member}
use Rattle.sig_core.specs.declared.place.BlockId.{BlockId}
use Rattle.sig_core.specs.declared.place.BlockId.TheVariants as block
use Rattle.sig_core.specs.declared.signal.Body.TheVariants.{Epoch}
use Rattle.sig_core.specs.declared.signal.epoch.EpochSignal.TheVariants.{GcpNodeFinish}
use Rattle.sig_core.specs.declared.signal.Signal.{Signal}
use Rattle.sig_core.specs.declared.view.View.{View}
use Rattle.gcp_master.specs.declared.phase.Phase.{Phase}
use Rattle.gcp_master.specs.declared.phase.Phase.TheVariants.{Committing}
use Rattle.gcp_master.specs.declared.phase.Run.{Run}
use Rattle.gcp_master.specs.declared.voices.Voice.{Voice}
use Rattle.gcp_master.specs.Master.{fresh_master, master_row}
use Rattle.gcp_master.specs.Resume.{in_view}
use Rattle.gcp_master.specs.State.{MasterState}
use Rattle.gcp_master.proofs.Outcomes.{voice_of}
use Rattle.node_views.specs.declared.host_body.HostBody as node
use Rattle.world_core.specs.Start.{NobodyStarts, Start, made}
use Rattle.world_core.specs.Steps.{HostStep}
use Rattle.view_laws.proofs.follow.Hosts.{main_started}
use Rattle.moment_laws.specs.Moments.{IsMoment, logs_of}
use Rattle.moment_laws.proofs.MomentSignals.{EachSent, epoch_told}
use Rattle.moment_laws.proofs.MomentViews.{moment_less}
use Rattle.moment_laws.proofs.PartTaken.{IsTakenNow}
use Rattle.epoch_laws.specs.Masters.{EachHeard}
use Rattle.epoch_laws.specs.Members.{epochs_of, master_in, master_of}
use Rattle.epoch_laws.specs.Stand.{AllStand}
use Rattle.epoch_laws.proofs.MasterMoves.{BeginsFrom, IsLate, Moved}
use Rattle.epoch_laws.proofs.MasterMoves.{closes, closes_owed, commits, ends, goes_late, hears_finished, hears_prepared}
use Rattle.epoch_laws.proofs.MasterMoves.{is_ordered, learns, resumes, stays, takes_up}
use Rattle.epoch_laws.proofs.MasterRows.{master_goes}
use Rattle.epoch_laws.proofs.MasterSpeaks.{installed}
use Rattle.epoch_laws.proofs.MomentEvents.{MasterDoes, enters, enters_takes, installs, master_does, takes, unmoved}
use Rattle.epoch_laws.proofs.StandAll.{epochs_stand}
use Rattle.closing_laws.specs.Closed.{HasEnded}
use Rattle.closing_laws.proofs.closers.EndedStays.{TellsEnd}
use Rattle.closing_laws.proofs.closers.ToldByMembers.{IsEndTrue, ends_next, keeps_ended}

module _ (start : Start) (logs : ℕ → List HostStep) where
  -- while a run is committed
  abbrev pub AreEnded : List Voice → Phase → Type 0
  AreEnded voices (Committing run) = EachHeard start logs (HasEnded run.epoch) voices
  AreEnded voices phase = Unit {0}

  pub record AllHeard : Type 0 where
    pub told : EachSent start (IsEndTrue start logs) logs
    pub masters : (member : Member) → IsIn member (made start)
        → AreEnded (master_of start logs member).voices (master_of start logs member).phase

  none_heard : (voices : List Voice) (phase : Phase) → voices ≡ [] → AreEnded voices phase
  none_heard voices (Committing run) none =
      subst (EachHeard start logs (HasEnded run.epoch)) (sym none) tt
  none_heard voices phase none = tt

  none_late : (voices : List Voice) (run : Run) (phase : Phase) → IsLate run phase → AreEnded voices phase
  none_late voices run (Committing other) late = absurd late
  none_late voices run phase late = tt

  none_begins : (voices : List Voice) (epoch : ℕ) (phase : Phase) → BeginsFrom epoch phase → AreEnded voices phase
  none_begins voices epoch (Committing other) begins = absurd begins
  none_begins voices epoch phase begins = tt

  -- a signal that tells the truth
  module _ (s : MasterState) (x : Signal)
      (told : (epoch : ℕ) → x.body ≡ Epoch (GcpNodeFinish epoch) → HasEnded epoch (epochs_of start logs x.member))
    where
      moved_heard : (phase : Phase) (voices : List Voice) → Moved s (voice_of x) x.body phase voices
          → AreEnded s.voices s.phase → AreEnded voices phase
      moved_heard phase voices (stays same heard) was =
          subst (AreEnded voices) (sym same) (subst (λ vs. AreEnded vs s.phase) (sym heard) was)
      moved_heard phase voices (is_ordered body is now none) was = none_heard voices phase none
      moved_heard phase voices (learns known about body is new now more) was = subst (AreEnded voices) (sym now) tt
      moved_heard phase voices (resumes known about body is new all goes none) was = none_heard voices phase none
      moved_heard phase voices (hears_prepared run body is new now more) was = subst (AreEnded voices) (sym now) tt
      moved_heard phase voices (commits run body is new all now none) was = none_heard voices phase none
      moved_heard phase voices (hears_finished run body is new now more) was =
          let before : EachHeard start logs (HasEnded run.epoch) s.voices = subst (AreEnded s.voices) is was in
          subst (AreEnded voices) (sym now)
          (subst (EachHeard start logs (HasEnded run.epoch)) (sym more)
          (each_append (λ (voice : Voice). HasEnded run.epoch (epochs_of start logs voice.member)) s.voices
          (voice_of x ∷ []) before (told run.epoch body, tt)))
      moved_heard phase voices (closes run body is new all now none) was = none_heard voices phase none
      moved_heard phase voices (closes_owed run is all now none) was = none_heard voices phase none
      moved_heard phase voices (goes_late run late now) was = none_late voices run phase now
      moved_heard phase voices (ends run late begins none) was = none_begins voices run.next phase begins
      moved_heard phase voices (takes_up epoch is begins none) was = none_begins voices epoch phase begins

      pub row_heard : AreEnded s.voices s.phase → AreEnded (master_row s x).state.voices (master_row s x).state.phase
      row_heard was =
          moved_heard (master_row s x).state.phase (master_row s x).state.voices (master_goes s x).moved was

  pub installed_heard : (s : MasterState) (view : View) → AreEnded (in_view s view).voices (in_view s view).phase
  installed_heard s view = subst (AreEnded (in_view s view).voices) (sym (installed s view).phase) tt

module _ (start : Start) (all : ℕ → List HostStep) (e : HostStep) (es : List HostStep)
    (moment : IsMoment start all (e ∷ es)) (stand : AllStand start (logs_of start es))
    (heard : AllHeard start (logs_of start es))
  where
    abbrev old : ℕ → List HostStep
    old = logs_of start es

    abbrev new : ℕ → List HostStep
    new = logs_of start (e ∷ es)

    abbrev x : Signal
    x = e.step.taken

    -- a report that is taken is true
    pub report_true : (at : BlockId) → IsTakenNow start all e es moment at → (epoch : ℕ)
        → x.body ≡ Epoch (GcpNodeFinish epoch) → HasEnded epoch (epochs_of start old x.member)
    report_true at taken epoch is =
        subst (TellsEnd (epochs_of start old x.member)) is
        (epoch_told start (IsEndTrue start old) all e es moment heard.told taken.sound (GcpNodeFinish epoch) is)

    still : (voices : List Voice) (phase : Phase) → AreEnded start old voices phase → AreEnded start new voices phase
    still voices (Committing run) was =
        each_map (λ (voice : Voice). HasEnded run.epoch (epochs_of start old voice.member))
        (λ (voice : Voice). HasEnded run.epoch (epochs_of start new voice.member)) voices
        (λ voice is. keeps_ended start all e es moment stand run.epoch voice.member is) was
    still voices phase was = tt

    abbrev AreOf : MasterState → Type 0
    AreOf s = AreEnded start new s.voices s.phase

    masters_next : (member : Member) → IsIn member (made start) → AreOf (master_of start new member)
    masters_next member there = by (master_does start all e es moment member)
      where
        was : MasterState
        was = master_of start old member

        by : MasterDoes start all e es moment member → AreOf (master_of start new member)
        by (unmoved is) = subst AreOf (sym is) (still was.voices was.phase (heard.masters member there))
        by (installs at up between is) = subst AreOf (sym is) (installed_heard start new between _)
        by (enters at up is) = subst AreOf (sym is) (installed_heard start new was x.view)
        by (takes at taken is) =
            let now = (master_row was x).state in
            subst AreOf (sym is)
            (still now.voices now.phase
            (row_heard start old was x (report_true block.GcpMaster taken) (heard.masters member there)))
        by (enters_takes at up taken is) =
            let between = in_view was x.view in
            let now = (master_row between x).state in
            subst AreOf (sym is)
            (still now.voices now.phase
            (row_heard start old between x (report_true block.GcpMaster taken) (installed_heard start old was x.view)))

    pub heard_next : AllHeard start new
    heard_next = record {
      told = ends_next start all e es moment stand heard.told;
      masters = masters_next;
    }

heard_first : (start : Start) → NobodyStarts start → AllHeard start (logs_of start [])
heard_first start nobody = record { told = λ i j. tt; masters = first }
  where
    none : (voices : List Voice) (phase : Phase) → voices ≡ [] → AreEnded start (logs_of start []) voices phase
    none voices phase is = none_heard start (logs_of start []) voices phase is

    first : (member : Member) → IsIn member (made start)
        → AreEnded start (logs_of start []) (master_of start (logs_of start []) member).voices
        (master_of start (logs_of start []) member).phase
    first member there =
        none (master_of start (logs_of start []) member).voices (master_of start (logs_of start []) member).phase
        (ap (λ (s : node.HostBody).
        (master_in (fresh_master member (first_layout start.shape).view 0) s.parts).voices)
        (main_started start nobody member there))

-- so it is at each moment
pub all_heard : (start : Start) (all : ℕ → List HostStep) (es : List HostStep) → start.start_epoch < start.epoch
    → IsMoment start all es → AllHeard start (logs_of start es)
all_heard start all [] some moment = heard_first start moment.cluster.nobody
all_heard start all (e ∷ es) some moment =
    let less = moment_less start all e es moment in
    heard_next start all e es moment (epochs_stand start all es some less) (all_heard start all es some less)
