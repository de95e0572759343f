-- Nobody has a record of a transaction that hasn't begun.
use Rattle.std.proofs.Common.{◌≡◌, ◌∙◌, ℕ, Bool, true, false, filter, map, List, [], ◌∷◌, refl, sym, ap, subst}
use Rattle.std.proofs.lemmas.Bool.{true≢false}
use Rattle.std.specs.Prelude.{Option, None, Some, is_some}
use Rattle.run_theory.specs.Lists.{IsIn}
use Rattle.run_theory.proofs.Runs.{log_of-other}
use Rattle.run_theory.proofs.EventCases.{event_cases}
use Rattle.sig_core.specs.declared.member.Member.{Member}
use Rattle.sig_core.specs.declared.member.TxId.{TxId}
use Rattle.sig_core.specs.declared.rows.PendingRecord.{PendingRecord}
use Rattle.sig_core.specs.declared.view.View.{View}
use Rattle.sig_core.specs.Rows.{is_on, no_rows}
use Rattle.sig_core.specs.Same.{same_tx}
use Rattle.sig_core.proofs.TxLemmas.{same_tx-is}
use Rattle.tc_block.specs.Operate.{fresh}
use Rattle.node_core.specs.Fresh.{own_rows}
use Rattle.node_views.specs.declared.host_body.HostBody as node
use Rattle.key_laws.specs.Records.{found, without_epoch}
use Rattle.key_laws.specs.Replica.{at_key}
use Rattle.world_core.specs.Start.{NobodyStarts, Start, made}
use Rattle.world_core.specs.Steps.{HostStep}
use Rattle.world_views.specs.Machine.{machine}
use Rattle.moment_laws.specs.Moments.{IsMoment, logs_of}
use Rattle.moment_laws.specs.Places.{ldm_of, tc_of}
use Rattle.moment_laws.proofs.MomentHosts.{ldm_started}
use Rattle.moment_laws.proofs.MomentViews.{moment_less}
use Rattle.outcome_laws.specs.Counts.{coordinator_member}
use Rattle.request_laws.specs.Blocks.{coordinator_after, no_replica, rows_after, rows_in}
use Rattle.request_laws.specs.Routed.{WasAskedIn}
use Rattle.request_laws.specs.Ways.{entry_of}
use Rattle.request_laws.proofs.replicas.AlongLogs.{first_rows}
use Rattle.request_laws.proofs.tokens.HostsApart.{ldm_no_tc}
use Rattle.commit_laws.specs.Traces.{record_at}
use Rattle.commit_laws.proofs.parts.Home.{BegunHaveNone}
use Rattle.world_views.proofs.FreshBodies.{none_pending}
use Rattle.commit_laws.proofs.fates.RowsUnasked.{record_was}
use Rattle.commit_laws.proofs.fates.CoordinatorUnasked.{IsUnborn, begun_unborn, never_asked, unborn_before}

-- rows begin without records
pub first_none : (start : Start) (member : Member) (key : List ℕ) (tx : TxId)
    → found tx (at_key key (first_rows start member).lqh).cell.pending ≡ None
first_none start member key tx =
    ap (λ (xs : List PendingRecord). found tx (map without_epoch (filter (is_on key) xs)))
    (none_pending no_rows (own_rows start.shape member.node start.rows) start.start_epoch)

module _ (start : Start) (all : ℕ → List HostStep) (tx : TxId) (there : IsIn (coordinator_member tx) (made start))
  where
    abbrev h : ℕ
    h = tc_of start (coordinator_member tx)

    unborn_less : NobodyStarts start → (e : HostStep) (es : List HostStep)
        → IsUnborn start tx there (logs_of start (e ∷ es) h)
        → IsUnborn start tx there (logs_of start es h)
    unborn_less nobody e es =
        event_cases (machine start) e es h
        (λ log. IsUnborn start tx there log → IsUnborn start tx there (logs_of start es h))
        (λ at. unborn_before start tx there nobody (logs_of start es h) e) (λ off now. now)

    -- in no view was anything asked for it
    unasked : NobodyStarts start → (es : List HostStep) → IsUnborn start tx there (logs_of start es h)
        → (view : View) (other : TxId)
        → WasAskedIn start (logs_of start es) view other → same_tx other tx ≡ false
    unasked nobody es unborn view other was = by (same_tx other tx) refl
      where
        by : (b : Bool) → same_tx other tx ≡ b → b ≡ false
        by false off = refl
        by true own =
            let asked : WasAskedIn start (logs_of start es) view tx =
            subst (WasAskedIn start (logs_of start es) view) (same_tx-is other tx own) was in
            absurd (true≢false (sym asked.asked ∙ never_asked start tx there nobody view.number (logs_of start es h)
            unborn))

    pub unborn_none : (es : List HostStep) → IsMoment start all es → IsUnborn start tx there (logs_of start es h)
        → (m : Member) → IsIn m (made start) → (key : List ℕ) → record_at start (logs_of start es) m key tx ≡ None
    unborn_none [] moment unborn m among key =
        ap (λ (s : node.HostBody). found tx (at_key key (rows_in (no_replica start m) s.parts).lqh).cell.pending)
        (ldm_started start moment.cluster.nobody m among) ∙ first_none start m key tx
    unborn_none (e ∷ es) moment unborn m among key =
        by (unborn_none es (moment_less start all e es moment) before m among key)
        (record_at start (logs_of start (e ∷ es)) m key tx) refl
      where
        before : IsUnborn start tx there (logs_of start es h)
        before = unborn_less moment.cluster.nobody e es unborn

        was : is_some (record_at start (logs_of start (e ∷ es)) m key tx) ≡ true
            → is_some (record_at start (logs_of start es) m key tx) ≡ true
        was is =
            record_was start all e es moment m among tx
            (λ view other same asked. unasked moment.cluster.nobody es before view other asked)
            key is

        by : record_at start (logs_of start es) m key tx ≡ None → (o : Option PendingRecord)
            → record_at start (logs_of start (e ∷ es)) m key tx ≡ o → o ≡ None
        by none None is = refl
        by none (Some r) is = absurd (true≢false (sym (was (ap is_some is)) ∙ ap is_some none))

-- so whoever begins has none
pub begun_have_none : BegunHaveNone
begun_have_none start all e es moment tx there none some m among key =
    event_cases (machine start) e es h
    (λ log. entry_of (coordinator_after start (coordinator_member tx) log) tx ≡ Some fresh
    → record_at start (logs_of start (e ∷ es)) m key tx ≡ None)
    (λ at begun.
    ap (λ log. found tx (at_key key (rows_after start m log).lqh).cell.pending)
    (log_of-other (machine start) e es (ldm_of start m)
    (λ is. ldm_no_tc start moment.cluster.nobody m (coordinator_member tx) among there (sym is ∙ at)))
    ∙ unborn_none start all tx there es (moment_less start all e es moment)
    (begun_unborn start tx there moment.cluster.nobody (logs_of start es h) e none begun) m among key)
    (λ off begun. absurd (let nothing : Some fresh ≡ None = sym begun ∙ none in cc)) some
  where
    h : ℕ
    h = tc_of start (coordinator_member tx)
