-- What takeovers are told stays true behind each event, and what they are told by it is true.
use Rattle.std.proofs.Common.{◌≡◌, ◌⊎◌, ◌∙◌, ℕ, Bool, true, false, List, [], ◌∷◌, filter, inl, inr, map, refl, sym, ap}
use Rattle.std.proofs.Common.{subst, arith}
use Rattle.std.specs.List.{list_any}
use Rattle.std.specs.Prelude.{if◌then◌else◌, cond, Option, None, Some}
use Rattle.run_theory.specs.Links.{sent}
use Rattle.run_theory.specs.Lists.{Each, IsIn}
use Rattle.run_theory.proofs.Pasts.{each_from, each_in, each_map}
use Rattle.std.proofs.lemmas.Bool.{and_from, or_cases, or_left, or_right}
use Rattle.commit_laws.proofs.commits.Places.{in_at}
use Rattle.commit_laws.proofs.hosts.PartEach.{part_each}
use Rattle.sig_core.specs.declared.member.Member.{Member}
use Rattle.sig_core.specs.declared.member.TxId.{TxId}
use Rattle.sig_core.specs.declared.outs.Outgoing.{Outgoing}
use Rattle.sig_core.specs.declared.place.Part.TheVariants.{Ldm}
use Rattle.sig_core.specs.declared.place.Place.{Place}
use Rattle.sig_core.specs.declared.rows.PendingRecord.{PendingRecord}
use Rattle.sig_core.specs.declared.signal.Body.{Body}
use Rattle.sig_core.specs.declared.signal.Body.TheVariants.{Takeover}
use Rattle.sig_core.specs.declared.signal.Signal.{Signal}
use Rattle.sig_core.specs.declared.signal.takeover.TakeoverSignal.TheVariants.{LqhTransConf}
use Rattle.sig_core.specs.declared.view.View.{View}
use Rattle.sig_core.specs.Same.{same_key, same_tx}
use Rattle.sig_core.proofs.Keys.{same_key-self, same_tx-self}
use Rattle.sig_core.proofs.TxLemmas.{same_tx-is}
use Rattle.lqh_block.specs.Commit.{is_marker}
use Rattle.sig_core.specs.Rows.{is_on}
use Rattle.lqh_views.specs.Replica.{installed, replica_row}
use Rattle.lqh_views.specs.State.{ReplicaState}
use Rattle.key_laws.specs.Records.{AreOnce, found, without_epoch}
use Rattle.takeover_block.specs.Gathered.{told_epoch}
use Rattle.world_core.specs.Start.{Start, made}
use Rattle.world_core.specs.Steps.{Addressed, HostStep}
use Rattle.world_views.specs.Machine.{step_after}
use Rattle.view_laws.specs.Order.{sound_machine}
use Rattle.view_laws.specs.Runs.{view_after}
use Rattle.moment_laws.specs.Moments.{IsMoment, current, logs_of}
use Rattle.moment_laws.specs.PartSteps.{tc_kind}
use Rattle.moment_laws.specs.Places.{ldm_of}
use Rattle.moment_laws.proofs.MomentHosts.{ldm_member, part_some}
use Rattle.moment_laws.proofs.MomentMembers.{current_host}
use Rattle.moment_laws.proofs.MomentSignals.{EachSent, sent_below, sent_next}
use Rattle.moment_laws.proofs.MomentTurns.{Turn, host_low, keeps, own_behind, raises, turn}
use Rattle.moment_laws.proofs.MomentViews.{current_number, moment_less, stands_in_current}
use Rattle.request_laws.proofs.routes.Headers.{sent_so}
use Rattle.request_laws.proofs.routes.Hosts.{PartHost, beside_sends, coordinates, is_beside, keeps_rows, part_host}
use Rattle.request_laws.proofs.orphans.TakeoversOfOrphans.{takeovers_are_of_orphans}
use Rattle.request_laws.proofs.routes.PartSteps.{TcStep, tc_step}
use Rattle.request_laws.proofs.tokens.HostsApart.{ldm_low}
use Rattle.request_laws.specs.Orphans.{IsOrphan, TellsOf}
use Rattle.request_laws.proofs.routes.ChainsStay.{any_in}
use Rattle.commit_laws.specs.Commits.{HasWritten, LeavesTraceOn, committed_there, marked_there}
use Rattle.commit_laws.specs.Fates.{commits, fate, is_led_by_full}
use Rattle.commit_laws.specs.Going.{is_decided, is_forth, is_lost}
use Rattle.commit_laws.specs.Takeovers.{IsTrueReport, TellsFate}
use Rattle.commit_laws.specs.Together.{FatesMove, Follows}
use Rattle.commit_laws.specs.Traces.{has_trace, is_committed_of, is_known, is_marker_of, leave_trace, members_now}
use Rattle.commit_laws.specs.Traces.{record_at, rows_at}
use Rattle.commit_laws.proofs.forth.DecidedStay.{forth_decided, written_more}
use Rattle.commit_laws.proofs.fates.Cases.{known_commits, trace_commits}
use Rattle.commit_laws.proofs.fates.Forth.{commits_more, left_forth}
use Rattle.commit_laws.proofs.markers.All.{traces_stay}
use Rattle.commit_laws.proofs.records.Once.{rows_once}
use Rattle.commit_laws.proofs.records.Replicas.{members_full}
use Rattle.commit_laws.proofs.hosts.RowsTurn.{IsBetween, IsTakenAt, as_was, entered, rows_each}
use Rattle.commit_laws.proofs.hosts.SaverGoes.{of_saver}
use Rattle.commit_laws.proofs.takeover.Reports.{AreFated, Fated, HasTrace, IsFated, TracesIf, all_aside_fated}
use Rattle.commit_laws.proofs.takeover.Reports.{by_marker, by_record, rows_trace, tc_enters_fated, tc_fated}
use Rattle.commit_laws.proofs.takeover.Words.{Commits}

-- a record on a key is in its cell
pub in_cell : (key : List ℕ) (r : PendingRecord) (xs : List PendingRecord) → IsIn r xs → is_on key r ≡ true
    → IsIn (without_epoch r) (map without_epoch (filter (is_on key) xs))
in_cell key r [] there on = absurd there
in_cell key r (x ∷ xs) (inl same) on =
    subst (λ (b : Bool). IsIn (without_epoch r) (map without_epoch
    (cond b (x ∷ filter (is_on key) xs) (filter (is_on key) xs))))
    (sym (ap (is_on key) (sym same) ∙ on)) (inl (ap without_epoch same))
in_cell key r (x ∷ xs) (inr there) on = by (is_on key x) (in_cell key r xs there on)
  where
    by : (b : Bool) → IsIn (without_epoch r) (map without_epoch (filter (is_on key) xs))
        → IsIn (without_epoch r) (map without_epoch (cond b (x ∷ filter (is_on key) xs) (filter (is_on key) xs)))
    by true more = inr more
    by false more = more

-- where no transaction has two, it is the one that is found
pub once_found : (xs : List PendingRecord) → AreOnce xs → (r : PendingRecord) → IsIn r xs → found r.tx xs ≡ Some r
once_found [] once r there = absurd there
once_found (x ∷ xs) once r (inl same) =
    ap (λ b. if b then Some x else found r.tx xs)
    (ap (λ (y : PendingRecord). same_tx y.tx r.tx) (sym same) ∙ same_tx-self r.tx)
    ∙ ap (λ (y : PendingRecord). Some y) (sym same)
once_found (x ∷ xs) once r (inr there) = by (same_tx x.tx r.tx) refl (once_found xs once.1 r there)
  where
    by : (b : Bool) → same_tx x.tx r.tx ≡ b → found r.tx xs ≡ Some r
        → (if b then Some x else found r.tx xs) ≡ Some r
    by true own more =
        absurd (let none : Some r ≡ None = sym more ∙ (ap (λ v. found v xs) (sym (same_tx-is x.tx r.tx own)) ∙ once.0)
        in cc)
    by false off more = more

module _ (start : Start) (all : ℕ → List HostStep) (e : HostStep) (es : List HostStep)
    (follows : Follows start all e es)
    (moves : (tx : TxId) → FatesMove start e es tx)
  where
    abbrev old : ℕ → List HostStep
    old = logs_of start es

    abbrev new : ℕ → List HostStep
    new = logs_of start (e ∷ es)

    abbrev moment : IsMoment start all (e ∷ es)
    moment = follows.moment

    less : IsMoment start all es
    less = moment_less start all e es follows.moment

    abbrev x : Signal
    x = e.step.taken

    abbrev view : View
    view = view_after start e.host (e ∷ old e.host)

    abbrev sends : List Outgoing
    sends = (step_after start e.host (old e.host) e).effects.sends

    -- what is told, if the transaction has no coordinator in the current view
    abbrev If : TxId → Option ℕ → Type 0
    If tx epoch =
        IsOrphan (current start (logs_of start (e ∷ es))) tx → TellsFate start (logs_of start (e ∷ es)) tx epoch

    module _ (member : Member) (there : IsIn member (made start)) where
      abbrev rows : ReplicaState
      rows = rows_at start (logs_of start es) member

      module _ (tx : TxId) where
        trace_left : HasTrace tx rows → leave_trace tx rows ≡ true
        trace_left (by_record at r is own committed) =
            or_left (list_any (is_committed_of tx) rows.lqh.rows.pending) (list_any (is_marker_of tx) rows.lqh.markers)
            (any_in (is_committed_of tx) r rows.lqh.rows.pending (in_at rows.lqh.rows.pending at r is)
            (and_from (same_tx r.tx tx) r.committed (ap (λ v. same_tx v tx) own ∙ same_tx-self tx) committed))
        trace_left (by_marker at m is own) =
            or_right (list_any (is_committed_of tx) rows.lqh.rows.pending) (list_any (is_marker_of tx) rows.lqh.markers)
            (any_in (is_marker_of tx) m rows.lqh.markers (in_at rows.lqh.markers at m is)
            (ap (λ v. same_tx v tx) own ∙ same_tx-self tx))

        record TraceOn : Type 0 where
          key : List ℕ
          leaves : LeavesTraceOn start (logs_of start es) member key tx

        trace_on : HasTrace tx rows → TraceOn
        trace_on (by_record at r is own committed) = record {
          key = r.key;
          leaves =
              committed_there (without_epoch r)
              (ap (λ v. record_at start old member r.key v) (sym own)
              ∙ once_found (map without_epoch (filter (is_on r.key) rows.lqh.rows.pending))
              (rows_once start follows.moment.cluster.nobody member there (old (ldm_of start member)) r.key)
              (without_epoch r)
              (in_cell r.key r rows.lqh.rows.pending (in_at rows.lqh.rows.pending at r is) (same_key-self r.key)))
              committed;
        }
        trace_on (by_marker at m is own) = record {
          key = m.key;
          leaves =
              marked_there
              (any_in (is_marker tx m.key) m rows.lqh.markers (in_at rows.lqh.markers at m is)
              (and_from (same_tx m.tx tx) (same_key m.key m.key) (ap (λ v. same_tx v tx) own ∙ same_tx-self tx)
              (same_key-self m.key)));
        }

        -- who has a trace before the event commits behind it, and wrote something
        traced : IsIn member (members_now start new) → IsOrphan (current start new) tx → HasTrace tx rows
            → Commits start new tx
        traced inside orphan has = (
          by (or_cases (leave_trace tx (rows_at start new member)) (is_known start new tx)
              (traces_stay start all e es moment member there tx (trace_left has))),
          record { key = on.key; written = written_more start all e es moment tx on.key decided written },
        )
          where
            on : TraceOn
            on = trace_on has

            decided : is_decided start old tx ≡ true
            decided =
                forth_decided start all es less tx (left_forth start all es less member there tx (trace_left has))

            written : HasWritten start old tx on.key
            written = follows.stood.commits.written tx member there on.key on.leaves

            by : (leave_trace tx (rows_at start new member) ≡ true) ⊎ (is_known start new tx ≡ true)
                → fate start new tx ≡ commits
            by (inl left) =
                trace_commits (is_known start new tx) (is_led_by_full start new tx) (is_forth start new tx)
                (is_lost start new tx) (has_trace start new tx) orphan
                (any_in (λ (m : Member). leave_trace tx (rows_at start new m)) member (members_now start new) inside
                left)
            by (inr known) =
                known_commits (is_known start new tx) (is_led_by_full start new tx) (is_forth start new tx)
                (is_lost start new tx) (has_trace start new tx) known

      -- its host stands in the current view, as one of the members
      inside_now : e.host ≡ ldm_of start member → view ≡ current start new → IsIn member (members_now start new)
      inside_now at stands =
          subst (IsIn member) (sym (members_full start all (e ∷ es) moment))
          (subst (λ m. IsIn m (current start new).full) (ldm_member start follows.moment.cluster.nobody member there)
          (current_host start all (e ∷ es) moment (ldm_of start member) (part_some start Ldm member)
          (ldm_low start follows.moment.cluster.nobody member there)
          here))
        where
          here : view_after start (ldm_of start member) (new (ldm_of start member)) ≡ current start new
          here =
              subst (λ k. view_after start k (new k) ≡ current start new) at (own_behind start all e es moment ∙ stands)

      -- what its rows tell is true
      rows_fated : e.host ≡ ldm_of start member → AreFated If sends
      rows_fated at =
          subst (AreFated If) (sym (ap (λ k. (step_after start k (old k) e).effects.sends) at))
          (rows_each start all e es moment member there (IsFated If)
          (λ o own.
          of_saver (Fated If) (record { reports = λ epoch. tt; confirms = tt; goes_on = λ at. tt }) o.body own)
          (λ s between taken.
          each_map (IsFated (TracesIf s)) (IsFated If) (replica_row s x).effects.sends
          (λ o fated. told s between taken o.body fated) (rows_trace s x)) at)
        where
          has_was : (s : ReplicaState) → IsBetween start all e es moment member there s → (tx : TxId) → HasTrace tx s
              → HasTrace tx rows
          has_was s (as_was is still) tx has = subst (HasTrace tx) is has
          has_was s (entered set is) tx has = moved (subst (HasTrace tx) is has)
            where
              moved : HasTrace tx (installed rows set) → HasTrace tx rows
              moved (by_record place r there_r mine committed) = by_record place r there_r mine committed
              moved (by_marker place m there_m mine) = by_marker place m there_m mine

          told : (s : ReplicaState) → IsBetween start all e es moment member there s
              → IsTakenAt start all e es moment member there s → (body : Body) → Fated (TracesIf s) body → Fated If body
          told s between taken (Takeover (LqhTransConf tx key heard epoch)) fated = which (told_epoch heard epoch) fated
            where
              which : (o : Option ℕ) → TracesIf s tx o → If tx o
              which None traces = λ orphan. tt
              which (Some epoch) traces = λ orphan.
                  traced tx (inside_now at taken.now.stands) orphan (has_was s between tx traces)
          told s between taken body fated = tt

    tc_tells : TcStep start e.host (old e.host) e → AreFated If sends
    tc_tells step =
        part_each tc_kind (IsFated If) start.shape step.own (view_after start e.host (old e.host)) x _ view sends
        step.does (λ above. tc_enters_fated If step.own x.view)
        (λ any_in. tc_fated If step.does.between x x.to.block)

    sends_fated : AreFated If sends
    sends_fated = by (part_host start follows.moment.cluster.nobody e.host (host_low start all e es moment))
      where
        by : PartHost start e.host → AreFated If sends
        by (coordinates me there at) =
            tc_tells (tc_step start follows.moment.cluster.nobody me there e.host at (old e.host) e)
        by (keeps_rows me there at) = rows_fated me there at
        by (is_beside first) = all_aside_fated If sends (beside_sends start e.host first (old e.host) e)

    -- with a header of the current view
    abbrev Told : View → Body → Type 0
    Told v (Takeover (LqhTransConf tx key told epoch)) = IsOrphan v tx → TellsFate start new tx (told_epoch told epoch)
    Told v body = Unit {0}

    abbrev NowTold : Addressed → Type 0
    NowTold y = y.signal.view.number ≡ current_number start new → Told y.signal.view y.signal.body

    of_view : view ≡ current start new → (body : Body) → Fated If body → Told view body
    of_view stands (Takeover (LqhTransConf tx key told epoch)) fated =
        λ orphan. fated (subst (λ (v : View). IsOrphan v tx) stands orphan)
    of_view stands body fated = tt

    own_told : (body : Body) → Fated If body → view.number ≡ current_number start new → Told view body
    own_told body fated number = of_view stands body fated
      where
        behind : view_after start e.host (new e.host) ≡ view
        behind = own_behind start all e es moment

        stands : view ≡ current start new
        stands =
            sym behind
            ∙ stands_in_current start all (e ∷ es) moment e.host (host_low start all e es moment)
            (ap (λ (v : View). v.number) behind ∙ number)

    abbrev Reports : Addressed → Type 0
    Reports y = y.signal.view.number ≡ current_number start old → IsTrueReport start old y.signal.view y.signal.body

    still_told : current start new ≡ current start old → (v : View) (body : Body) → IsTrueReport start old v body
        → Told v body
    still_told same v (Takeover (LqhTransConf tx key told epoch)) report =
        λ orphan. grows (told_epoch told epoch) report.1
      where
        grows : (o : Option ℕ) → TellsFate start old tx o → TellsFate start new tx o
        grows None was = tt
        grows (Some epoch) was = commits_more start all e es moment moves same tx was
    still_told same v body report = tt

    old_told : EachSent start NowTold old
    old_told i j = by (turn start all e es moment)
      where
        by : Turn start all e es moment → Each NowTold (sent (sound_machine start) i j (old i))
        by (keeps same stands) =
            each_map Reports NowTold (sent (sound_machine start) i j (old i))
            (λ y report header.
            still_told same y.signal.view y.signal.body (report (header ∙ ap (λ (v : View). v.number) same)))
            (follows.stood.takeovers.reports i j)
        by (raises above stands) =
            each_map _ NowTold (sent (sound_machine start) i j (old i))
            (λ y low header. absurd (omega (arith, low, header, above))) (sent_below start all es less i j)

    all_told : EachSent start NowTold new
    all_told =
        sent_next start NowTold all e es moment old_told
        (λ goes.
        sent_so start e.host (old e.host) e
        (λ (v : View) (to : Place) (body : Body). v.number ≡ current_number start new → Told v body)
        (each_map (IsFated If) (λ (o : Outgoing). view.number ≡ current_number start new → Told view o.body) sends
        (λ o fated number. own_told o.body fated number) sends_fated))

    -- so what was told stands behind the event
    pub reports_next : (i j : ℕ)
        → Each (λ (y : Addressed). y.signal.view.number ≡ (current start (logs_of start (e ∷ es))).number
        → IsTrueReport start (logs_of start (e ∷ es)) y.signal.view y.signal.body)
        (sent (sound_machine start) i j (logs_of start (e ∷ es) i))
    reports_next i j =
        each_from _ (sent (sound_machine start) i j (new i))
        (λ y there.
        joins y.signal.view y.signal.body
        (each_in (λ (y : Addressed). TellsOf (IsOrphan y.signal.view) y.signal.body) y
        (sent (sound_machine start) i j (new i))
        ((takeovers_are_of_orphans start all (e ∷ es) moment).signals i j) there)
        (each_in NowTold y (sent (sound_machine start) i j (new i)) (all_told i j) there))
      where
        joins : (v : View) (body : Body) → TellsOf (IsOrphan v) body
            → (v.number ≡ current_number start new → Told v body) → v.number ≡ current_number start new
            → IsTrueReport start new v body
        joins v (Takeover (LqhTransConf tx key told epoch)) orphan tells number = (orphan, tells number orphan)
        joins v body orphan tells number = tt
