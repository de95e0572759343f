-- Where a transaction aborts, and has no full coordinator, no full member had a trace of it on the way there.
use Rattle.std.proofs.Common.{◌≡◌, ◌⊎◌, ◌||◌, ◌&&◌, ◌∙◌, ◌++◌, ℕ, Bool, true, false, List, ◌∷◌, refl, sym, ap}
use Rattle.std.proofs.Common.{subst, inl, inr}
use Rattle.std.proofs.lemmas.Bool.{and_parts, or_cases, or_left, or_right, true≢false}
use Rattle.std.specs.List.{list_any}
use Rattle.std.specs.Prelude.{Option, None, Some}
use Rattle.run_theory.specs.Lists.{IsIn, IsPast}
use Rattle.sig_core.proofs.Keys.{same_tx-self}
use Rattle.sig_core.specs.declared.member.Member.{Member}
use Rattle.sig_core.specs.declared.member.TxId.{TxId}
use Rattle.sig_core.specs.declared.rows.PendingRecord.{PendingRecord}
use Rattle.sig_core.specs.Same.{same_key, same_tx}
use Rattle.lqh_block.specs.Commit.{is_marker}
use Rattle.world_core.specs.Start.{Start, made}
use Rattle.world_core.specs.Steps.{HostStep}
use Rattle.moment_laws.proofs.MomentMembers.{current_made}
use Rattle.moment_laws.specs.Moments.{IsMoment, current, logs_of}
use Rattle.moment_laws.specs.Places.{ldm_of}
use Rattle.request_laws.specs.Blocks.{rows_after}
use Rattle.request_laws.proofs.routes.ChainsStay.{any_in}
use Rattle.commit_laws.proofs.markers.Traces.{each_fails}
use Rattle.commit_laws.specs.Fates.{aborts, fate, is_led_by_full}
use Rattle.commit_laws.specs.Going.{is_forth, is_lost}
use Rattle.commit_laws.specs.Traces.{has_marker_at, has_trace, is_committed_at, is_committed_by, is_committed_of}
use Rattle.commit_laws.specs.Traces.{is_known, is_marker_of, leave_trace, members_now, record_at, rows_at}
use Rattle.commit_laws.proofs.commits.Remain.{record_there}
use Rattle.commit_laws.proofs.fates.Cases.{known_commits, not_both, trace_commits}
use Rattle.commit_laws.proofs.forth.Grows.{known_grows}
use Rattle.commit_laws.proofs.markers.All.{traces_stay}
use Rattle.commit_laws.proofs.hosts.SomePasses.{passing}
use Rattle.commit_laws.proofs.records.Replicas.{members_full}
use Rattle.closing_laws.proofs.settled.Cuts.{goes_on, has_log}

-- a trace of a transaction stays at a member, or the client's side comes to know of its commit
pub trace_stays : (start : Start) (all : ℕ → List HostStep) (member : Member) → IsIn member (made start) → (tx : TxId)
    (newer es : List HostStep) → IsMoment start all (newer ++ es)
    → leave_trace tx (rows_at start (logs_of start es) member) ≡ true
    → (leave_trace tx (rows_at start (logs_of start (newer ++ es)) member)
    || is_known start (logs_of start (newer ++ es)) tx) ≡ true
trace_stays start all member there tx newer es moment left =
    goes_on start all P step newer es moment
    (or_left (leave_trace tx (rows_at start (logs_of start es) member)) (is_known start (logs_of start es) tx) left)
  where
    P : List HostStep → Type 0
    P xs = (leave_trace tx (rows_at start (logs_of start xs) member) || is_known start (logs_of start xs) tx) ≡ true

    step : (e : HostStep) (xs : List HostStep) → IsMoment start all (e ∷ xs) → P xs → P (e ∷ xs)
    step e xs at is =
        by
        (or_cases (leave_trace tx (rows_at start (logs_of start xs) member)) (is_known start (logs_of start xs) tx)
        is)
      where
        by : (leave_trace tx (rows_at start (logs_of start xs) member) ≡ true)
            ⊎ (is_known start (logs_of start xs) tx ≡ true) → P (e ∷ xs)
        by (inl trace) = traces_stay start all e xs at member there tx trace
        by (inr known) =
            or_right (leave_trace tx (rows_at start (logs_of start (e ∷ xs)) member))
            (is_known start (logs_of start (e ∷ xs)) tx) (known_grows start e xs tx known)

module _ (start : Start) (all : ℕ → List HostStep) (es : List HostStep) (moment : IsMoment start all es) (tx : TxId)
    (gone : is_led_by_full start (logs_of start es) tx ≡ false) (aborting : fate start (logs_of start es) tx ≡ aborts)
  where
    abbrev logs : ℕ → List HostStep
    logs = logs_of start es

    -- it isn't known, and has no trace
    unknown : is_known start logs tx ≡ true → ⊥
    unknown is =
        not_both (sym (known_commits (is_known start logs tx) (is_led_by_full start logs tx) (is_forth start logs tx)
        (is_lost start logs tx) (has_trace start logs tx) is) ∙ aborting)

    untraced : (member : Member) → IsIn member (current start logs).full
        → leave_trace tx (rows_at start logs member) ≡ true → ⊥
    untraced member full left =
        not_both (sym (trace_commits (is_known start logs tx) (is_led_by_full start logs tx) (is_forth start logs tx)
        (is_lost start logs tx) (has_trace start logs tx) gone
        (any_in (λ (m : Member). leave_trace tx (rows_at start logs m)) member (members_now start logs)
        (subst (IsIn member) (sym (members_full start all es moment)) full) left)) ∙ aborting)

    -- nor had it one at a part of the member's log
    pub no_trace : (member : Member) → IsIn member (current start (logs_of start es)).full → (log : List HostStep)
        → IsPast log (logs_of start es (ldm_of start member))
        → leave_trace tx (rows_after start member log) ≡ true → ⊥
    no_trace member full log past left =
        let has = has_log start (ldm_of start member) log es past in
        by (or_cases (leave_trace tx (rows_at start logs member)) (is_known start logs tx)
        (subst (λ xs. (leave_trace tx (rows_at start (logs_of start xs) member)
        || is_known start (logs_of start xs) tx) ≡ true) (sym has.is)
        (trace_stays start all member (current_made start all es moment member full) tx has.newer has.older
        (subst (IsMoment start all) has.is moment)
        (subst (λ l. leave_trace tx (rows_after start member l) ≡ true) (sym has.log_is) left))))
      where
        by : (leave_trace tx (rows_at start logs member) ≡ true) ⊎ (is_known start logs tx ≡ true) → ⊥
        by (inl trace) = untraced member full trace
        by (inr known) = unknown known

-- whoever is committed at a member, and isn't known, has left a trace there
module _ (start : Start) (logs : ℕ → List HostStep) (member : Member) (key : List ℕ) (tx : TxId)
    (off : is_known start logs tx ≡ false)
  where
    by_marker : has_marker_at start logs member key tx ≡ true → leave_trace tx (rows_at start logs member) ≡ true
    by_marker on =
        let markers = (rows_at start logs member).lqh.markers in
        let one = passing (is_marker tx key) markers on in
        or_right (list_any (is_committed_of tx) (rows_at start logs member).lqh.rows.pending)
        (list_any (is_marker_of tx) markers)
        (any_in (is_marker_of tx) one.item markers one.there
        (and_parts (same_tx one.item.tx tx) (same_key one.item.key key) one.is).0)

    by_record : (r : PendingRecord) → record_at start logs member key tx ≡ Some r → r.committed ≡ true
        → leave_trace tx (rows_at start logs member) ≡ true
    by_record r is done =
        or_left (list_any (is_committed_of tx) (rows_at start logs member).lqh.rows.pending)
        (list_any (is_marker_of tx) (rows_at start logs member).lqh.markers)
        (by (list_any (is_committed_of tx) (rows_at start logs member).lqh.rows.pending) refl)
      where
        by : (b : Bool) → list_any (is_committed_of tx) (rows_at start logs member).lqh.rows.pending ≡ b → b ≡ true
        by true some = refl
        by false none =
            let one =
            record_there (λ (x : PendingRecord). is_committed_of tx x ≡ false) (rows_at start logs member).lqh.rows
            tx key r
            (each_fails (is_committed_of tx) (rows_at start logs member).lqh.rows.pending none) is in
            absurd (true≢false
            (sym (ap (λ t. same_tx t tx && one.own.committed) one.tx_is
            ∙ (ap (λ b. b && one.own.committed) (same_tx-self tx)
            ∙ (ap (λ (x : PendingRecord). x.committed) (sym one.is) ∙ done)))
            ∙ one.so))

    pub leaves_one : is_committed_at start logs member key tx ≡ true → leave_trace tx (rows_at start logs member) ≡ true
    leaves_one committed = by (record_at start logs member key tx) refl committed
      where
        remembered : (has_marker_at start logs member key tx ≡ true) ⊎ (is_known start logs tx ≡ true)
            → leave_trace tx (rows_at start logs member) ≡ true
        remembered (inl on) = by_marker on
        remembered (inr known) = absurd (true≢false (sym known ∙ off))

        by : (o : Option PendingRecord) → record_at start logs member key tx ≡ o
            → is_committed_by (has_marker_at start logs member key tx || is_known start logs tx) o ≡ true
            → leave_trace tx (rows_at start logs member) ≡ true
        by None none is =
            remembered (or_cases (has_marker_at start logs member key tx) (is_known start logs tx) is)
        by (Some r) there is = by_record r there is
