-- Whomever a member counts it has decided, in the epoch with which it is counted.
use Rattle.std.proofs.Common.{◌≡◌, ◌==◌, ◌∙◌, ◌+◌, ℕ, Bool, true, false, List, [], ◌∷◌, length, nat_le, nat_lt, refl}
use Rattle.std.proofs.Common.{sym, ap, subst, inl, inr}
use Rattle.std.specs.Prelude.{Option, None, Some, position, remove, slice_get}
use Rattle.run_theory.proofs.EachSent.{each_removed}
use Rattle.run_theory.proofs.Pasts.{each_append, each_map, in_append}
use Rattle.run_theory.specs.Lists.{Each, IsIn}
use Rattle.run_theory.specs.Runs.{Happens}
use Rattle.run_theory.proofs.EventCases.{event_cases}
use Rattle.dih_node.specs.declared.dih.Counted.{Counted}
use Rattle.dih_node.specs.declared.dih.Report.{Report}
use Rattle.dih_node.specs.declared.dih.TheConstants.{TRANSACTIONS}
use Rattle.dih_node.specs.Dih.{dih_row, dih_table, epoch_table, fresh_dih}
use Rattle.dih_node.specs.Orders.{close_row, commit_if, commit_row, committed, copy_row, done_row, fence_row}
use Rattle.dih_node.specs.Orders.{install_row, prepare_row, prepared_if, state_row}
use Rattle.dih_node.specs.State.{DihState, gives, is_unfinished}
use Rattle.dih_node.specs.Verify.{end_row, ended, ended_by, given, held_by, is_of, report_by, report_if, reported}
use Rattle.dih_node.specs.Verify.{serve_by, serve_if, serve_row, take_if, verify_if, verify_row}
use Rattle.sig_core.specs.declared.mark.Mark.{Mark}
use Rattle.sig_core.specs.declared.mark.Mark.TheVariants.{Decided}
use Rattle.sig_core.specs.declared.member.Member.{Member}
use Rattle.sig_core.specs.declared.member.TxId.{TxId}
use Rattle.sig_core.specs.declared.place.BlockId.{BlockId}
use Rattle.sig_core.specs.declared.place.BlockId.TheVariants as block
use Rattle.sig_core.specs.declared.place.Part.TheVariants.{Tc}
use Rattle.sig_core.specs.declared.signal.Body.{Body}
use Rattle.sig_core.specs.declared.signal.Body.TheVariants.{Epoch, Host, Membership}
use Rattle.sig_core.specs.declared.signal.Signal.{Signal}
use Rattle.sig_core.specs.declared.signal.epoch.EpochSignal.{EpochSignal}
use Rattle.sig_core.specs.declared.signal.epoch.EpochSignal.TheVariants.{CopyGciReq, DiVerifyEnd, DiVerifyReq}
use Rattle.sig_core.specs.declared.signal.epoch.EpochSignal.TheVariants.{GcpClosed, GcpCommit, GcpDone, GcpPrepare}
use Rattle.sig_core.specs.declared.signal.epoch.EpochSignal.TheVariants.{GcpStateReq}
use Rattle.sig_core.specs.declared.signal.host.HostSignal.TheVariants.{Continue}
use Rattle.sig_core.specs.declared.signal.host.Work.TheVariants.{Held}
use Rattle.sig_core.specs.declared.signal.membership.MembershipSignal.TheVariants.{FenceReq}
use Rattle.sig_core.specs.Same.{same_tx}
use Rattle.sig_core.specs.Step.{Effects, Step}
use Rattle.node_views.specs.declared.host_body.HostBody as node
use Rattle.node_views.specs.declared.parts.Parts.{Parts}
use Rattle.node_views.specs.declared.tc_part.TcPart.{TcPart}
use Rattle.node_views.specs.Parts.{tc_row}
use Rattle.world_core.specs.Start.{NobodyStarts, Start, made}
use Rattle.world_core.specs.Steps.{HostStep}
use Rattle.world_views.specs.Machine.{after, machine, step_after}
use Rattle.view_laws.specs.Order.{sound_machine}
use Rattle.moment_laws.proofs.MomentHosts.{part_some, tc_started}
use Rattle.moment_laws.proofs.MomentViews.{moment_less}
use Rattle.moment_laws.specs.Moments.{IsMoment, logs_of}
use Rattle.moment_laws.specs.Places.{tc_of}
use Rattle.outcome_laws.specs.Decided.{IsMarked}
use Rattle.request_laws.proofs.phases.AlongLogs.{IsRun, runs_tc, told_some}
use Rattle.request_laws.proofs.phases.HostSteps.{Goes, IsEntered, leaves, takes, tc_goes}
use Rattle.epoch_laws.specs.Members.{dih_in, epochs_of}

-- what is so of all that are counted, and of whom a step decides, is so of all that are counted then
module _ (P : Counted → Type 0) where
  abbrev AreNew : List Mark → Type 0
  AreNew marks = (c : Counted) → IsIn (Decided c.tx c.epoch) marks → P c

  abbrev Counts : Step DihState → Type 0
  Counts step = AreNew step.effects.marks → Each P step.state.counted

  reported_counts : (t : DihState) → Each P t.counted → Each P (reported t).state.counted
  unfolding reported
  reported_counts t all = by t.order
    where
      whether : (order : Report) (left : Bool) → Each P (report_if t order left).state.counted
      whether order true = all
      whether order false = all

      by : (order : Option Report) → Each P (report_by t order).state.counted
      by None = all
      by (Some order) = whether order (is_unfinished t.counted order.epoch)

  module _ (s : DihState) (all : Each P s.counted) where
    given_counts : (t : DihState) → t.counted ≡ s.counted → (tx : TxId) → Counts (given t tx)
    unfolding given
    given_counts t same tx new =
        each_append P t.counted (record { tx = tx; epoch = t.current } ∷ []) (subst (Each P) (sym same) all)
        (new (record { tx = tx; epoch = t.current }) (inl refl), tt)

    verify_counts : (tx : TxId) → Counts (verify_row s tx)
    unfolding verify_row
    verify_counts tx = by (nat_lt (length s.counted + length s.held) TRANSACTIONS)
      where
        free : (b : Bool) → Counts (verify_if s tx b)
        free true = given_counts s refl tx
        free false = λ new. all

        by : (b : Bool) → Counts (take_if s tx b)
        by true = free (gives s)
        by false = λ new. all

    serve_counts : (number : ℕ) → Counts (serve_row s number)
    unfolding serve_row given
    serve_counts number = by (number == s.number) (gives s)
      where
        first : (o : Option TxId) → Counts (serve_by s o)
        first None = λ new. all
        first (Some tx) = λ new.
            given_counts (record s { held = remove s.held 0 }) refl tx (λ c inside. new c (front c inside))
          where
            front : (c : Counted)
                → IsIn (Decided c.tx c.epoch) (given (record s { held = remove s.held 0 }) tx).effects.marks
                → IsIn (Decided c.tx c.epoch) (serve_by s (Some tx)).effects.marks
            front c (inl same) = inl same
            front c (inr none) = absurd none

        by : (b c : Bool) → Counts (serve_if s b c)
        by true true = first (slice_get s.held 0)
        by true false = λ new. all
        by false c = λ new. all

    ended_counts : (tx : TxId) → Each P (ended s tx).counted
    unfolding ended
    ended_counts tx = by (position (is_of tx) s.counted)
      where
        among : (at : Option ℕ) → Each P (held_by s at).counted
        among None = all
        among (Some at) = all

        by : (at : Option ℕ) → Each P (ended_by s tx at).counted
        by None = among (position (same_tx tx) s.held)
        by (Some at) = each_removed P s.counted at all

    prepare_counts : (from epoch next : ℕ) → Counts (prepare_row s from epoch next)
    unfolding prepare_row
    prepare_counts from epoch next new = by (nat_le s.current epoch)
      where
        by : (b : Bool) → Each P (prepared_if s epoch next b).counted
        by true = all
        by false = all

    commit_counts : (from epoch next : ℕ) → Counts (commit_row s from epoch next)
    unfolding commit_row
    commit_counts from epoch next new = by (nat_le s.current epoch)
      where
        by : (b : Bool) → Each P (commit_if s from epoch next b).state.counted
        by true =
            reported_counts (record (committed s epoch next) { order = Some (record { epoch = epoch; to = from }) }) all
        by false = reported_counts (record s { order = Some (record { epoch = epoch; to = from }) }) all

    epochs_count : (from : ℕ) (signal : EpochSignal) → Counts (epoch_table s from signal)
    unfolding close_row copy_row done_row state_row end_row
    epochs_count from (DiVerifyReq tx ops) = verify_counts tx
    epochs_count from (DiVerifyEnd tx) = λ new. reported_counts (ended s tx) (ended_counts tx)
    epochs_count from (GcpPrepare epoch next) = prepare_counts from epoch next
    epochs_count from (GcpCommit epoch next) = commit_counts from epoch next
    epochs_count from (GcpClosed epoch) = λ new. all
    epochs_count from (CopyGciReq epoch mask) = λ new. all
    epochs_count from (GcpDone epoch) = λ new. all
    epochs_count from GcpStateReq = λ new. all
    epochs_count from _ = λ new. all

    table_counts : (from number : ℕ) (body : Body) → Counts (dih_table s from number body)
    unfolding fence_row
    table_counts from number (Host (Continue Held at)) = serve_counts number
    table_counts from number (Membership (FenceReq proposal)) = λ new. all
    table_counts from number (Epoch signal) = epochs_count from signal
    table_counts from number _ = λ new. all

    dih_counts : (x : Signal) → Counts (dih_row s x)
    dih_counts x = table_counts x.member.node x.view.number x.body

  -- where the part takes a signal, or a view is installed in it
  row_counts : (p : TcPart) → Each P p.dih.counted → (b : BlockId) (x : Signal) → AreNew (tc_row p b x).effects.marks
      → Each P (tc_row p b x).state.dih.counted
  unfolding tc_row
  row_counts p all block.Dih x new = dih_counts p.dih all x new
  row_counts p all block.Tc x new = all
  row_counts p all block.Takeover x new = all
  row_counts p all _ x new = all

  entered_counts : (p between : TcPart) → Each P p.dih.counted → IsEntered p between → Each P between.dih.counted
  unfolding install_row
  entered_counts p between all (inl same) = subst (λ (q : TcPart). Each P q.dih.counted) (sym same) all
  entered_counts p between all (inr (view, same)) = subst (λ (q : TcPart). Each P q.dih.counted) (sym same) all

module _ (start : Start) (all : ℕ → List HostStep) (me : Member) (there : IsIn me (made start)) where
  abbrev h : ℕ
  h = tc_of start me

  abbrev fresh : DihState
  fresh = fresh_dih 0 0 0 0

  -- what a log has marked
  abbrev IsDecidedIn : List HostStep → Counted → Type 0
  IsDecidedIn log c = IsMarked (Decided c.tx c.epoch) log

  abbrev AreDecided : List HostStep → Type 0
  AreDecided log = Each (IsDecidedIn log) (dih_in fresh (after start h log).parts).counted

  step_counts : NobodyStarts start → (log : List HostStep) (e : HostStep)
      → e.step.marks ≡ (step_after start h log e).effects.marks
      → AreDecided log → AreDecided (e ∷ log)
  step_counts nobody log e marks_are decided =
      subst (λ (parts : Parts). Each (IsDecidedIn (e ∷ log)) (dih_in fresh parts).counted)
      (sym (ap (λ (s : node.HostBody). s.parts) (told_some h (part_some start Tc me) (step_after start h log e))))
      (by (tc_goes start nobody h log e run.own run.runs))
    where
      run : IsRun start me there log
      run = runs_tc start me there nobody log

      old : Each (IsDecidedIn (e ∷ log)) run.own.dih.counted
      old =
          each_map (IsDecidedIn log) (IsDecidedIn (e ∷ log)) run.own.dih.counted (λ c was. inr was)
          (subst (λ (parts : Parts). Each (IsDecidedIn log) (dih_in fresh parts).counted) run.runs decided)

      by : Goes start.shape run.own e.step.taken (step_after start h log e)
          → Each (IsDecidedIn (e ∷ log)) (dih_in fresh (step_after start h log e).state.parts).counted
      by (leaves between entered parts words none) =
          subst (λ (q : Parts). Each (IsDecidedIn (e ∷ log)) (dih_in fresh q).counted) (sym parts)
          (entered_counts (IsDecidedIn (e ∷ log)) run.own between old entered)
      by (takes between entered sound front words none going parts effects) =
          subst (λ (q : Parts). Each (IsDecidedIn (e ∷ log)) (dih_in fresh q).counted) (sym parts)
          (row_counts (IsDecidedIn (e ∷ log)) between
          (entered_counts (IsDecidedIn (e ∷ log)) run.own between old entered) e.step.taken.to.block e.step.taken
          (λ c inside.
          inl (subst (IsIn (Decided c.tx c.epoch)) (sym (marks_are ∙ ap (λ (f : Effects). f.marks) effects))
          (in_append (Decided c.tx c.epoch) front.marks _ inside))))

  pub counted_are_decided : (es : List HostStep) → IsMoment start all es
      → Each (λ (c : Counted). IsMarked (Decided c.tx c.epoch) (logs_of start es (tc_of start me)))
      (epochs_of start (logs_of start es) me).counted
  counted_are_decided [] moment =
      subst (λ (s : node.HostBody). Each (IsDecidedIn []) (dih_in fresh s.parts).counted)
      (sym (tc_started start moment.cluster.nobody me there)) tt
  counted_are_decided (e ∷ es) moment =
      let log = logs_of start es h in
      let decided = counted_are_decided es (moment_less start all e es moment) in
      event_cases (machine start) e es h AreDecided
      (λ at.
      let happens : Happens (sound_machine start) es e = moment.run.1 in
      step_counts moment.cluster.nobody log e
      (subst (λ k. e.step.marks ≡ (step_after start k (logs_of start es k) e).effects.marks) at
      happens.step.fits.marks) decided)
      (λ other. decided)
