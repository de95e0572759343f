-- What a member's rows have noted as saved they were ordered to save, and that was closed when the member was full.
use Rattle.std.proofs.Common.{◌≡◌, ◌≢◌, ◌<◌, ◌≤◌, ◌⊎◌, ◌∙◌, ◌++◌, ℕ, List, [], ◌∷◌, refl, sym, ap, subst, inl, inr}
use Rattle.std.proofs.lemmas.Bool.{cases_eq}
use Rattle.run_theory.specs.Lists.{IsIn}
use Rattle.sig_core.specs.declared.mark.Mark.TheVariants.{Closed}
use Rattle.sig_core.specs.declared.member.Member.{Member}
use Rattle.sig_core.specs.declared.place.BlockId.{BlockId}
use Rattle.sig_core.specs.declared.place.BlockId.TheVariants as block
use Rattle.sig_core.specs.declared.place.Part.TheVariants.{Ldm}
use Rattle.sig_core.specs.declared.signal.Body.TheVariants.{Epoch}
use Rattle.sig_core.specs.declared.signal.Signal.{Signal}
use Rattle.sig_core.specs.declared.signal.epoch.EpochSignal.TheVariants.{GcpSaveReq}
use Rattle.sig_core.specs.declared.view.View.{View}
use Rattle.lqh_views.specs.Replica.{replica_row}
use Rattle.lqh_views.specs.State.{ReplicaState}
use Rattle.lqh_views.proofs.Walk.{replica_outcomes}
use Rattle.lqh_saver.specs.State.{saving}
use Rattle.lqh_saver.proofs.StepLemmas.{saver_rows}
use Rattle.node_views.specs.declared.host_body.HostBody as node
use Rattle.node_views.specs.declared.ldm_part.LdmPart.{LdmPart}
use Rattle.node_views.specs.declared.parts.Parts.{Parts}
use Rattle.node_views.specs.Parts.{ldm_row}
use Rattle.world_core.specs.Hosts.{member_at}
use Rattle.world_core.specs.Start.{Start, made}
use Rattle.world_core.specs.Steps.{HostStep}
use Rattle.world_views.specs.Machine.{after, step_after}
use Rattle.view_laws.specs.Runs.{view_after}
use Rattle.moment_laws.specs.Moments.{IsMoment, current, logs_of}
use Rattle.moment_laws.specs.Parts.{IsPassed}
use Rattle.moment_laws.specs.PartSteps.{LdmDoes, PartEnters, PartTakes, handles, ignores, installs, ldm_kind, remains}
use Rattle.moment_laws.specs.Places.{ldm_of}
use Rattle.moment_laws.proofs.MomentHosts.{ldm_member, ldm_started, part_some}
use Rattle.moment_laws.proofs.MomentMembers.{current_host}
use Rattle.moment_laws.proofs.MomentSignals.{epoch_told}
use Rattle.moment_laws.proofs.MomentTurns.{host_low, other_log, own_behind, own_log}
use Rattle.moment_laws.proofs.MomentViews.{moment_less}
use Rattle.moment_laws.proofs.PartKinds.{ldm_after, ldm_is}
use Rattle.moment_laws.proofs.PartTaken.{IsTakenNow, handled_now}
use Rattle.request_laws.specs.Blocks.{no_replica, rows_in}
use Rattle.commit_laws.specs.Traces.{rows_at}
use Rattle.commit_laws.proofs.records.Replicas.{full_before}
use Rattle.epoch_laws.proofs.StandKinds.{RunsRows, runs_rows}
use Rattle.epoch_laws.proofs.MasterKnows.{greater_is}
use Rattle.closing_laws.specs.Closed.{WasClosed}
use Rattle.closing_laws.proofs.settled.Cuts.{MarksAt, goes_back, marks_at}
use Rattle.saved_laws.specs.Closings.{SavedWereClosed, WasFullAtClosing}
use Rattle.saved_laws.proofs.masters.All.{all_ordered}
use Rattle.saved_laws.proofs.masters.Statement.{IsOrderedRightly, IsRightOrder}

-- what is so of what rows have noted as saved, and of what they are ordered to save, is so whatever they take
pub rows_keep : (P : ℕ → Type 0) (s : ReplicaState) (x : Signal) → P s.saved
    → ((epoch : ℕ) → x.body ≡ Epoch (GcpSaveReq epoch) → P epoch) → P (replica_row s x).state.saved
rows_keep P s x was ordered =
    replica_outcomes s x (λ step. P step.state.saved) (record {
      passes = λ own. was;
      stales = λ waits stale. was;
      unasked = λ at is none. was;
      ignores = λ signal is. was;
      promises = λ proposal is. was;
      closes = λ epoch is. was;
      saves = λ epoch is. greater_is P s.saved epoch was (ordered epoch is);
      states = λ is. was;
      tells_record = λ r under_way at one last there. was;
      tells_marker = λ r under_way at m none last there. was;
      ends = λ r under_way none no_more. was;
    })

-- an epoch that was closed before, where the member is full by now, was so when it was full
module _ (start : Start) (all : ℕ → List HostStep) (member : Member) where
  abbrev IsFullAt : List HostStep → Type 0
  IsFullAt es = IsIn member (current start (logs_of start es)).full

  full_at : (es : List HostStep) → IsMoment start all es → IsFullAt es → (epoch : ℕ)
      → WasClosed start (logs_of start es) epoch → WasFullAtClosing start es epoch member
  full_at es moment full epoch was = record {
    newer = m.newer;
    closing = m.event;
    older = m.older;
    is = m.is;
    marked = m.there;
    full =
        full_before start all m.event m.older
        (goes_back start all (λ es. IsMoment start all es) (λ e es at is. moment_less start all e es is) m.newer
        (m.event ∷ m.older) moment_is moment_is)
        member
        (goes_back start all IsFullAt (λ e es at. full_before start all e es at member) m.newer (m.event ∷ m.older)
        moment_is (subst IsFullAt m.is full));
  }
    where
      m : MarksAt start was.host (Closed epoch) es
      m = marks_at start was.host (Closed epoch) es was.marked

      moment_is : IsMoment start all (m.newer ++ m.event ∷ m.older)
      moment_is = subst (IsMoment start all) m.is moment

-- it was so before one more event
closed_more : (start : Start) (e : HostStep) (es : List HostStep) (epoch : ℕ) (member : Member)
    → WasFullAtClosing start es epoch member → WasFullAtClosing start (e ∷ es) epoch member
closed_more start e es epoch member was = record {
  newer = e ∷ was.newer;
  closing = was.closing;
  older = was.older;
  is = ap (λ xs. e ∷ xs) was.is;
  marked = was.marked;
  full = was.full;
}

abbrev IsClosedAt : Start → List HostStep → Member → ℕ → Type 0
IsClosedAt start es member epoch = (epoch ≡ start.start_epoch) ⊎ WasFullAtClosing start es epoch member

module _ (start : Start) (all : ℕ → List HostStep) (e : HostStep) (es : List HostStep)
    (some : start.start_epoch < start.epoch) (moment : IsMoment start all (e ∷ es)) (member : Member)
    (there : IsIn member (made start))
  where
    abbrev old : ℕ → List HostStep
    old = logs_of start es

    abbrev new : ℕ → List HostStep
    new = logs_of start (e ∷ es)

    abbrev x : Signal
    x = e.step.taken

    abbrev IsNow : ℕ → Type 0
    IsNow epoch = IsClosedAt start (e ∷ es) member epoch

    still : (epoch : ℕ) → IsClosedAt start es member epoch → IsNow epoch
    still epoch (inl first) = inl first
    still epoch (inr was) = inr (closed_more start e es epoch member was)

    less : IsMoment start all es
    less = moment_less start all e es moment

    module _ (at : e.host ≡ ldm_of start member) (was : IsClosedAt start es member (rows_at start old member).saved)
      where
        abbrev stood : View
        stood = view_after start e.host (e ∷ old e.host)

        above : 1 ≤ e.host
        above = subst (λ h. 1 ≤ h) (sym at) (part_some start Ldm member)

        runs : RunsRows start (after start e.host (old e.host)).parts
        runs =
            subst (λ h. RunsRows start (after start h (old h)).parts) (sym at)
            (runs_rows start moment.cluster.nobody member there (old (ldm_of start member)))

        did : LdmDoes start.shape runs.rows (view_after start e.host (old e.host)) x
            (after start e.host (e ∷ old e.host)).parts stood (step_after start e.host (old e.host) e).effects.sends
        did = ldm_after start moment.cluster.nobody e.host (old e.host) e above runs.rows runs.is

        abbrev replica_in : Parts → ReplicaState
        replica_in parts = rows_in (no_replica start member) parts

        rows_old : rows_at start old member ≡ runs.rows.replica
        rows_old = ap (λ h. replica_in (after start h (old h)).parts) (sym at) ∙ ap replica_in runs.is

        rows_new : rows_at start new member ≡ did.own.replica
        rows_new =
            ap (λ h. replica_in (after start h (new h)).parts) (sym at)
            ∙ ap (λ log. replica_in (after start e.host log).parts) (own_log start all e es moment)
            ∙ ap replica_in did.is

        before : IsNow runs.rows.replica.saved
        before =
            still runs.rows.replica.saved
            (subst (λ (s : ReplicaState). IsClosedAt start es member s.saved) rows_old was)

        abbrev Enters : Type 0
        Enters = PartEnters ldm_kind runs.rows (view_after start e.host (old e.host)) x did.between stood did.front

        between : Enters → IsNow did.between.replica.saved
        between (remains same stands none) = subst (λ (p : LdmPart). IsNow p.replica.saved) (sym same) before
        between (installs higher same stands none) = subst (λ (p : LdmPart). IsNow p.replica.saved) (sym same) before

        -- who takes an order is a full member
        module _ (passed : IsPassed start.shape (ldm_kind.within did.between) stood x) where
          full_now : x.to.block ≡ block.Lqh → IsIn member (current start new).full
          full_now to =
              let taken : IsTakenNow start all e es moment block.Lqh =
              handled_now start all e es moment ldm_kind ldm_is runs.rows runs.is did.between did.front did.enters
              passed block.Lqh to
              in
              subst (λ m. IsIn m (current start new).full)
              (ap (member_at (made start)) at ∙ ldm_member start moment.cluster.nobody member there)
              (current_host start all (e ∷ es) moment e.host above (host_low start all e es moment)
              (own_behind start all e es moment ∙ taken.stands))

          ordered : x.to.block ≡ block.Lqh → (epoch : ℕ) → x.body ≡ Epoch (GcpSaveReq epoch) → IsNow epoch
          ordered to epoch is =
              inr
              (closed_more start e es epoch member
              (full_at start all member es less (full_before start all e es moment member (full_now to)) epoch
              (subst (IsOrderedRightly start old) is
              (epoch_told start (IsRightOrder start old) all e es moment (all_ordered start all es some less).orders
              passed.sound (GcpSaveReq epoch) is))))

          row_now : (b : BlockId) → x.to.block ≡ b → IsNow (ldm_row did.between b x).state.replica.saved
          unfolding ldm_row
          row_now block.Lqh to =
              saver_rows (saving did.between.replica did.between.saver) x (λ (s : ReplicaState). IsNow s.saved)
              (between did.enters) (rows_keep IsNow did.between.replica x (between did.enters) (ordered to))
              (λ at has. between did.enters)
          row_now _ to = between did.enters

        own : PartTakes ldm_kind start.shape did.between stood x did.own did.rest → IsNow did.own.replica.saved
        own (ignores same none) = subst (λ (p : LdmPart). IsNow p.replica.saved) (sym same) (between did.enters)
        own (handles passed same is) =
            subst (λ (p : LdmPart). IsNow p.replica.saved) (sym same) (row_now passed x.to.block refl)

        own_next : IsNow (rows_at start new member).saved
        own_next = subst (λ (s : ReplicaState). IsNow s.saved) (sym rows_new) (own did.takes)

    saved_next : IsClosedAt start es member (rows_at start old member).saved
        → IsNow (rows_at start new member).saved
    saved_next was = by (cases_eq e.host (ldm_of start member))
      where
        by : (e.host ≡ ldm_of start member) ⊎ (e.host ≢ ldm_of start member)
            → IsNow (rows_at start new member).saved
        by (inl at) = own_next at was
        by (inr other) =
            subst
            (λ log. IsNow (rows_in (no_replica start member) (after start (ldm_of start member) log).parts).saved)
            (sym (other_log start all e es moment (ldm_of start member) other))
            (still (rows_at start old member).saved was)

-- so it is at each moment
pub saved_were_closed : SavedWereClosed
saved_were_closed start all [] some moment member there =
    inl (ap (λ (s : node.HostBody). (rows_in (no_replica start member) s.parts).saved)
    (ldm_started start moment.cluster.nobody member there))
saved_were_closed start all (e ∷ es) some moment member there =
    saved_next start all e es some moment member there
    (saved_were_closed start all es some (moment_less start all e es moment) member there)
