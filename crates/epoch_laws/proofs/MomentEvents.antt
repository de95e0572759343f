-- What an event comes to for the epochs and the master of each member that was made.
use Rattle.std.proofs.Common.{◌≡◌, ◌≢◌, ◌≤◌, ◌<◌, ◌⊎◌, ℕ, true, List, ◌∷◌, sym, ap, subst, ◌∙◌, inl, inr, arith}
use Rattle.std.proofs.lemmas.Bool.{cases_eq}
use Rattle.frag_map.specs.Layout.{first_layout}
use Rattle.sig_core.specs.declared.member.Member.{Member}
use Rattle.sig_core.specs.declared.place.BlockId.{BlockId}
use Rattle.sig_core.specs.declared.place.BlockId.TheVariants as block
use Rattle.sig_core.specs.declared.place.Part.TheVariants.{Main, Tc}
use Rattle.sig_core.specs.declared.signal.Body.TheVariants.{Epoch}
use Rattle.sig_core.specs.declared.signal.Signal.{Signal}
use Rattle.sig_core.specs.declared.signal.epoch.EpochSignal.{EpochSignal}
use Rattle.sig_core.specs.declared.view.View.{View}
use Rattle.dih_node.specs.Dih.{dih_row, fresh_dih}
use Rattle.dih_node.specs.Orders as dih
use Rattle.dih_node.specs.State.{DihState}
use Rattle.gcp_master.specs.Master.{fresh_master, master_row}
use Rattle.gcp_master.specs.Resume.{in_view}
use Rattle.gcp_master.specs.State.{MasterState}
use Rattle.node_views.specs.Fence.{is_body_fenced, is_epoch_fenced, is_fenced}
use Rattle.world_core.specs.Start.{NobodyStarts, Start}
use Rattle.world_core.specs.Steps.{Addressed, HostStep}
use Rattle.world_views.specs.Machine.{after}
use Rattle.view_laws.specs.Runs.{view_after}
use Rattle.view_laws.specs.Votes.{main_of}
use Rattle.view_laws.proofs.eras.Rises.{host_follows}
use Rattle.view_laws.proofs.fences.AboveViews.{fences_are_not_below}
use Rattle.epoch_laws.specs.Alike.{IsSound}
use Rattle.epoch_laws.specs.Members.{dih_in, epochs_of, master_in, master_of}
use Rattle.moment_laws.specs.Places.{tc_of}
use Rattle.moment_laws.specs.Moments.{IsMoment, current, logs_of}
use Rattle.epoch_laws.specs.Told.{IsTrue, IsTrueOf}
use Rattle.epoch_laws.proofs.DihMoves.{Moves, Stays, dih_installs_stay, dih_moves, rests}
use Rattle.epoch_laws.proofs.DihRows.{Rises, dih_installs_sound, dih_sound}
use Rattle.moment_laws.proofs.MomentHosts.{part_some}
use Rattle.moment_laws.proofs.MomentSignals.{EachSent, epoch_told, sent_below}
use Rattle.epoch_laws.proofs.MomentSteps.{EpochsMove, EpochsTake, MasterMoves, epochs_move, master_moves}
use Rattle.moment_laws.proofs.MomentTurns.{current_rises, old_current, other_log, own_log}
use Rattle.moment_laws.proofs.MomentViews.{current_number, moment_less, number_in}
use Rattle.moment_laws.proofs.MomentWalk.{after_moves}
use Rattle.moment_laws.proofs.PartTaken.{IsTaken, IsTakenNow, entered_fence, taken_now}
use Rattle.epoch_laws.proofs.StepTc.{moves_from}

-- a host of a node, and the signal of its step
module _ (start : Start) (nobody : NobodyStarts start) where
  pub host_epochs : (other : DihState) (h : ℕ) → 1 ≤ h → (log : List HostStep) (e : HostStep)
      → EpochsMove start.shape (dih_in other (after start h log).parts) e.step.taken (view_after start h (e ∷ log))
      (dih_in other (after start h (e ∷ log)).parts)
  host_epochs other h some log e =
      epochs_move other start.shape e.step.taken (after start h log).parts (view_after start h log)
      (after start h (e ∷ log)).parts (view_after start h (e ∷ log)) (fences_are_not_below start nobody h log block.Dih)
      (entered_fence (after start h log).parts e.step.taken.view block.Dih) (after_moves start nobody h some log e)

  pub host_master : (other : MasterState) (h : ℕ) → 1 ≤ h → (log : List HostStep) (e : HostStep)
      → MasterMoves start.shape (master_in other (after start h log).parts) (view_after start h log) e.step.taken
      (view_after start h (e ∷ log)) (master_in other (after start h (e ∷ log)).parts)
  host_master other h some log e =
      master_moves other start.shape e.step.taken (view_after start h (e ∷ log)) (first_layout start.shape)
      (after start h log).parts (view_after start h log) (after start h (e ∷ log)).parts
      (host_follows start nobody h log)
      (after_moves start nobody h some log e)

module _ (start : Start) (all : ℕ → List HostStep) (e : HostStep) (es : List HostStep)
    (moment : IsMoment start all (e ∷ es))
  where
    abbrev old : ℕ → List HostStep
    old = logs_of start es

    abbrev new : ℕ → List HostStep
    new = logs_of start (e ∷ es)

    abbrev x : Signal
    x = e.step.taken

    -- epochs stay where they are, or carry out what the signal says
    pub data EpochsDo (member : Member) : Type 0 where
      leave : Stays (epochs_of start old member) (epochs_of start new member)
          → (IsSound (epochs_of start old member) → IsSound (epochs_of start new member)) → EpochsDo member
      take : e.host ≡ tc_of start member → IsTakenNow start all e es moment block.Dih
          → Moves (epochs_of start old member) x.body (epochs_of start new member)
          → (Rises x.body → IsSound (epochs_of start old member) → IsSound (epochs_of start new member))
          → EpochsDo member

    record IsEntered (s between : DihState) : Type 0 where
      stays : Stays s between
      sound : IsSound s → IsSound between

    entered_is : (s between : DihState) → (between ≡ s) ⊎ (between ≡ (dih.install_row s x.view.number).state)
        → IsEntered s between
    entered_is s between (inl same) =
        subst (IsEntered s) (sym same) (record { stays = rests s; sound = λ sound. sound })
    entered_is s between (inr is) =
        subst (IsEntered s) (sym is)
        (record { stays = dih_installs_stay s x.view.number; sound = dih_installs_sound s x.view.number })

    module _ (member : Member) where
      abbrev before_it : DihState
      before_it = epochs_of start old member

      abbrev behind_it : DihState
      behind_it = epochs_of start new member

      did : e.host ≡ tc_of start member → (between : DihState) → IsEntered before_it between
          → EpochsTake start.shape between x (view_after start e.host (e ∷ old e.host)) behind_it → EpochsDo member
      did at between entered (inl same) =
          leave (subst (Stays before_it) (sym same) entered.stays)
          (λ sound. subst IsSound (sym same) (entered.sound sound))
      did at between entered (inr (taken, is)) =
          take at (taken_now start all e es moment block.Dih taken)
          (subst (Moves before_it x.body) (sym is)
          (moves_from before_it between (dih_row between x).state x.body entered.stays (dih_moves between x)))
          (λ rises sound. subst IsSound (sym is) (dih_sound between x rises (entered.sound sound)))

      abbrev fresh_epochs : DihState
      fresh_epochs = fresh_dih 0 0 0 0

      pub epochs_do : EpochsDo member
      epochs_do = by (cases_eq e.host (tc_of start member))
        where
          h : ℕ
          h = tc_of start member

          own : (k : ℕ) → k ≡ h
              → EpochsMove start.shape before_it x (view_after start k (e ∷ old k))
              (dih_in fresh_epochs (after start h (e ∷ old h)).parts)
          own k at =
              subst (λ k. EpochsMove start.shape before_it x (view_after start k (e ∷ old k))
              (dih_in fresh_epochs (after start h (e ∷ old h)).parts)) (sym at)
              (host_epochs start moment.cluster.nobody fresh_epochs h (part_some start Tc member) (old h) e)

          by : (e.host ≡ h) ⊎ (e.host ≢ h) → EpochsDo member
          by (inl at) =
              let log : new h ≡ e ∷ old h =
              subst (λ k. new k ≡ e ∷ old k) at (own_log start all e es moment) in
              let moves : EpochsMove start.shape before_it x (view_after start e.host (e ∷ old e.host)) behind_it =
              subst (λ log. EpochsMove start.shape before_it x (view_after start e.host (e ∷ old e.host))
              (dih_in fresh_epochs (after start h log).parts)) (sym log) (own e.host at) in
              did at moves.between (entered_is before_it moves.between moves.entered) moves.comes
          by (inr other) =
              let same : behind_it ≡ before_it =
              ap (λ log. dih_in fresh_epochs (after start h log).parts) (other_log start all e es moment h other) in
              leave (subst (Stays before_it) (sym same) (rests before_it)) (λ sound. subst IsSound (sym same) sound)

    -- a master stays, a greater view is installed with its host, or it takes the signal
    pub data MasterDoes (member : Member) : Type 0 where
      unmoved : master_of start new member ≡ master_of start old member → MasterDoes member
      installs : e.host ≡ main_of start member
          → number_in start old (main_of start member) < number_in start new (main_of start member)
          → (between : MasterState)
          → master_of start new member ≡ in_view between (view_after start e.host (e ∷ old e.host))
          → MasterDoes member
      enters : e.host ≡ main_of start member
          → number_in start old (main_of start member) < number_in start new (main_of start member)
          → master_of start new member ≡ in_view (master_of start old member) x.view → MasterDoes member
      takes : e.host ≡ main_of start member → IsTakenNow start all e es moment block.GcpMaster
          → master_of start new member ≡ (master_row (master_of start old member) x).state → MasterDoes member
      enters_takes : e.host ≡ main_of start member
          → number_in start old (main_of start member) < number_in start new (main_of start member)
          → IsTakenNow start all e es moment block.GcpMaster
          → master_of start new member ≡ (master_row (in_view (master_of start old member) x.view) x).state
          → MasterDoes member

    module _ (member : Member) where
      abbrev h : ℕ
      h = main_of start member

      abbrev master_before : MasterState
      master_before = master_of start old member

      abbrev master_behind : MasterState
      master_behind = master_of start new member

      abbrev stood : View
      stood = view_after start e.host (e ∷ old e.host)

      abbrev Rose : Type 0
      Rose = number_in start old (main_of start member) < number_in start new (main_of start member)

      master_did : e.host ≡ main_of start member
          → ((view_after start (main_of start member) (old (main_of start member))).number < stood.number → Rose)
          → MasterMoves start.shape master_before (view_after start (main_of start member) (old (main_of start member)))
          x
          stood master_behind → MasterDoes member
      master_did at rose moves = by moves.entered moves.comes
        where
          by : (moves.between ≡ master_before)
              ⊎ ((moves.between ≡ in_view master_before x.view)
              × ((view_after start (main_of start member) (old (main_of start member))).number < stood.number))
              → (master_behind ≡ moves.between)
              ⊎ (((master_behind ≡ in_view moves.between stood)
              × ((view_after start (main_of start member) (old (main_of start member))).number < stood.number))
              ⊎ (IsTaken start.shape block.GcpMaster x stood × (master_behind ≡ (master_row moves.between x).state)))
              → MasterDoes member
          by (inl same) (inl is) = unmoved (is ∙ same)
          by (inr (entered, above)) (inl is) = enters at (rose above) (is ∙ entered)
          by entered (inr (inl (is, above))) = installs at (rose above) moves.between is
          by (inl same) (inr (inr (taken, is))) =
              takes at (taken_now start all e es moment block.GcpMaster taken)
              (is ∙ ap (λ (s : MasterState). (master_row s x).state) same)
          by (inr (entered, above)) (inr (inr (taken, is))) =
              enters_takes at (rose above) (taken_now start all e es moment block.GcpMaster taken)
              (is ∙ ap (λ (s : MasterState). (master_row s x).state) entered)

      abbrev fresh : MasterState
      fresh = fresh_master member (first_layout start.shape).view 0

      pub master_does : MasterDoes member
      master_does = by (cases_eq e.host (main_of start member))
        where
          k : ℕ
          k = main_of start member

          Comes : ℕ → List HostStep → Type 0
          Comes host log =
              MasterMoves start.shape master_before (view_after start k (old k)) x
              (view_after start host (e ∷ old host))
              (master_in fresh (after start k log).parts)

          by : (e.host ≡ k) ⊎ (e.host ≢ k) → MasterDoes member
          by (inl at) =
              let log : new k ≡ e ∷ old k = subst (λ k. new k ≡ e ∷ old k) at (own_log start all e es moment) in
              let number : number_in start new k ≡ stood.number =
              ap (λ log. (view_after start k log).number) log
              ∙ ap (λ (k : ℕ). (view_after start k (e ∷ old k)).number) (sym at) in
              master_did at (λ above. omega (arith, above, number))
              (subst (Comes e.host) (sym log)
              (subst (λ host. Comes host (e ∷ old k)) (sym at)
              (host_master start moment.cluster.nobody fresh k (part_some start Main member) (old k) e)))
          by (inr other) =
              unmoved (ap (λ log. master_in fresh (after start k log).parts) (other_log start all e es moment k other))

    -- an order that is taken was sent in the current view, which hasn't risen then
    pub record IsTold (signal : EpochSignal) : Type 0 where
      pub is_true : IsTrueOf start old (record { to = e.host; signal = x }) (Epoch signal)
      pub view : current start new ≡ current start old

    pub order_told : (at : BlockId) → IsTakenNow start all e es moment at → (signal : EpochSignal)
        → x.body ≡ Epoch signal → is_fenced x ≡ true → EachSent start (IsTrue start old) old → IsTold signal
    order_told at taken signal is fenced each =
        let low : x.view.number ≤ current_number start old =
        epoch_told start (λ (y : Addressed). y.signal.view.number ≤ current_number start old) all e es moment
        (sent_below start all es (moment_less start all e es moment)) taken.sound signal is in
        let header = taken.fresh fenced in
        let rises = current_rises start all e es moment in
        let same : current_number start new ≡ current_number start old = omega (arith, low, header, rises) in
        let true_now : IsTrue start old (record { to = e.host; signal = x }) =
        epoch_told start (IsTrue start old) all e es moment each taken.sound signal is in
        record {
          is_true = subst (IsTrueOf start old (record { to = e.host; signal = x })) is (true_now (header ∙ same));
          view = old_current start all e es moment same;
        }

    pub fenced_is : (signal : EpochSignal) → x.body ≡ Epoch signal
        → is_epoch_fenced x.member.node x.to.node signal ≡ true → is_fenced x ≡ true
    unfolding is_fenced
    fenced_is signal is fenced = subst (λ body. is_body_fenced x body ≡ true) (sym is) fenced
