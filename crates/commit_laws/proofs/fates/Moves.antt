-- How an event moves what becomes of a transaction.
use Rattle.std.proofs.Common.{◌≡◌, ◌⊎◌, ◌∙◌, ◌||◌, ◌&&◌, ◌≤◌, ◌++◌, ℕ, Bool, true, false, not, List, ◌∷◌, refl, sym, ap}
use Rattle.std.proofs.Common.{subst, inl, inr, arith}
use Rattle.std.proofs.lemmas.Bool.{and_parts, eqb-true, true≢false, or_cases}
use Rattle.std.specs.List.{list_any}
use Rattle.std.specs.Prelude.{nat_eq}
use Rattle.run_theory.specs.Lists.{IsIn}
use Rattle.run_theory.proofs.Pasts.{each_in}
use Rattle.sig_core.specs.declared.member.Member.{Member}
use Rattle.sig_core.specs.declared.member.TxId.{TxId}
use Rattle.sig_core.specs.declared.rows.PendingRecord.{PendingRecord}
use Rattle.sig_core.specs.Same.{same_tx}
use Rattle.sig_core.proofs.TxLemmas.{same_tx-is}
use Rattle.lqh_block.specs.declared.request.Marker.{Marker}
use Rattle.sig_core.specs.declared.view.View.{View}
use Rattle.lqh_block.specs.Views.{is_coordinated, was_begun_by}
use Rattle.node_views.specs.Fence.{is_fenced}
use Rattle.lqh_views.specs.State.{ReplicaState}
use Rattle.outcome_laws.specs.Known.{IsDecidedIf, RowsKnow}
use Rattle.world_core.specs.Start.{Start, made}
use Rattle.world_core.specs.Steps.{HostStep}
use Rattle.moment_laws.specs.Moments.{IsMoment, current, logs_of}
use Rattle.moment_laws.proofs.MomentMembers.{current_made}
use Rattle.moment_laws.proofs.MomentSignals.{sent_below}
use Rattle.moment_laws.proofs.MomentTurns.{current_rises}
use Rattle.moment_laws.proofs.MomentViews.{current_number, moment_less}
use Rattle.outcome_laws.specs.Counts.{coordinator_member}
use Rattle.request_laws.proofs.routes.BesideRows.{is_of_rows}
use Rattle.request_laws.proofs.routes.Headers.{chain_fenced, told_of}
use Rattle.request_laws.proofs.routes.ChainsStay.{any_in}
use Rattle.commit_laws.specs.Fates.{aborts, commits, fate, fate_if, is_led_by_full}
use Rattle.commit_laws.specs.Forth.{IsForth}
use Rattle.commit_laws.specs.Going.{is_forth, is_lost}
use Rattle.commit_laws.specs.Speaks.{SaysCommit}
use Rattle.commit_laws.specs.Together.{EventsMoveFates, Follows, KnownCommit}
use Rattle.commit_laws.specs.Traces.{has_trace, is_committed_of, is_known, is_marker_of, leave_trace, members_now}
use Rattle.commit_laws.specs.Traces.{rows_at}
use Rattle.commit_laws.proofs.fates.Cases.{forth_commits, known_commits, lost_aborts, none_aborts, not_both}
use Rattle.commit_laws.proofs.fates.Cases.{trace_commits}
use Rattle.commit_laws.proofs.fates.Rows.{TakesCommit, trace_comes}
use Rattle.commit_laws.proofs.views.AtEvents.{led_was}
use Rattle.commit_laws.proofs.forth.All.{forth_is_known}
use Rattle.commit_laws.proofs.forth.Grows.{forth_grows, known_grows}
use Rattle.commit_laws.proofs.fates.LostStays.{lost_stay}
use Rattle.commit_laws.proofs.markers.All.{traces_stay}
use Rattle.commit_laws.proofs.hosts.SomePasses.{Passes, passing}
use Rattle.commit_laws.proofs.records.Replicas.{member_before, member_made}

-- who aborts isn't known; and it is lost where its coordinator is full, and else has no trace
data Aborts (full lost trace : Bool) : Type 0 where
  led : full ≡ true → lost ≡ true → Aborts full lost trace
  gone : full ≡ false → trace ≡ false → Aborts full lost trace

record IsAborting (known full forth lost trace : Bool) : Type 0 where
  unknown : known ≡ false
  why : Aborts full lost trace

aborting_is : (known full forth lost trace : Bool) → fate_if known full forth lost trace ≡ aborts
    → IsAborting known full forth lost trace
aborting_is true full forth lost trace is = absurd cc
aborting_is false true true lost trace is = absurd cc
aborting_is false true false true trace is = record { unknown = refl; why = led refl refl }
aborting_is false true false false trace is = absurd cc
aborting_is false false forth lost true is = absurd cc
aborting_is false false forth lost false is = record { unknown = refl; why = gone refl refl }

-- and who commits is known, or has gone forth at a full coordinator, or has a trace
data Commits (known full forth trace : Bool) : Type 0 where
  by_word : known ≡ true → Commits known full forth trace
  by_coordinator : full ≡ true → forth ≡ true → Commits known full forth trace
  by_trace : full ≡ false → trace ≡ true → Commits known full forth trace

committing_is : (known full forth lost trace : Bool) → fate_if known full forth lost trace ≡ commits
    → Commits known full forth trace
committing_is true full forth lost trace is = by_word refl
committing_is false true true lost trace is = by_coordinator refl refl
committing_is false true false true trace is = absurd cc
committing_is false true false false trace is = absurd cc
committing_is false false forth lost true is = by_trace refl refl
committing_is false false forth lost false is = absurd cc

-- a lost one hasn't gone forth
lost_off : (forth rest : Bool) → (not forth && rest) ≡ true → forth ≡ false
lost_off true rest lost = absurd (true≢false (sym lost))
lost_off false rest lost = refl

-- whoever leaves a trace is known to be so
traced_known : (F : TxId → Type 0) (tx : TxId) (s : ReplicaState) → RowsKnow (λ one epoch. F one) F s
    → leave_trace tx s ≡ true
    → F tx
traced_known F tx s known traced = by (list_any (is_committed_of tx) s.lqh.rows.pending) refl traced
  where
    by : (b : Bool) → list_any (is_committed_of tx) s.lqh.rows.pending ≡ b
        → (b || list_any (is_marker_of tx) s.lqh.markers) ≡ true
        → F tx
    by true some is =
        let one = passing (is_committed_of tx) s.lqh.rows.pending some in
        let parts = and_parts (same_tx one.item.tx tx) one.item.committed one.is in
        let all = each_in (λ (r : PendingRecord). IsDecidedIf (λ one epoch. F one) F r r.committed) one.item
        s.lqh.rows.pending known.records one.there in
        subst F (same_tx-is one.item.tx tx parts.0)
        (subst (IsDecidedIf (λ one epoch. F one) F one.item) parts.1 all)
    by false none is =
        let one = passing (is_marker_of tx) s.lqh.markers is in
        subst F (same_tx-is one.item.tx tx one.is)
        (each_in (λ (m : Marker). F m.tx) one.item s.lqh.markers known.markers one.there)

-- the member whose coordinator began it
pub begun_by : (tx : TxId) (m : Member) → was_begun_by tx m ≡ true → m ≡ coordinator_member tx
begun_by tx m is =
    let parts = and_parts (nat_eq m.node tx.tc) (nat_eq m.start tx.start) is in
    λ i. record { node = eqb-true m.node tx.tc parts.0 i; start = eqb-true m.start tx.start parts.1 i }

-- none of a list passes a test that it fails
none_of : {A : Type 0} (test : A → Bool) (xs : List A) → list_any test xs ≡ false → (x : A) → IsIn x xs → test x ≡ false
none_of test xs none x there = by (test x) refl
  where
    by : (b : Bool) → test x ≡ b → b ≡ false
    by false is = refl
    by true is = absurd (true≢false (sym (any_in test x xs there is) ∙ none))

module _ (start : Start) (all : ℕ → List HostStep) (e : HostStep) (es : List HostStep)
    (follows : Follows start all e es)
    (tx : TxId) where
  abbrev old : ℕ → List HostStep
  old = logs_of start es

  abbrev new : ℕ → List HostStep
  new = logs_of start (e ∷ es)

  moment : IsMoment start all (e ∷ es)
  moment = follows.moment

  before : IsMoment start all es
  before = moment_less start all e es follows.moment

  -- whoever has a trace has gone forth
  traced_forth : (some : List HostStep) → IsMoment start all some → has_trace start (logs_of start some) tx ≡ true
      → is_forth start (logs_of start some) tx ≡ true
  traced_forth some at traced =
      let one = passing (λ (member : Member). leave_trace tx (rows_at start (logs_of start some) member))
      (members_now start (logs_of start some)) traced in
      traced_known (IsForth start (logs_of start some)) tx (rows_at start (logs_of start some) one.item)
      ((forth_is_known start all some at).rows one.item (member_made start all some at one.item one.there)) one.is

  -- and whoever hasn't has none
  no_trace : is_forth start new tx ≡ false → has_trace start new tx ≡ false
  no_trace off = by (has_trace start new tx) refl
    where
      by : (b : Bool) → has_trace start new tx ≡ b → b ≡ false
      by false is = refl
      by true is = absurd (true≢false (sym (traced_forth (e ∷ es) moment is) ∙ off))

  -- a coordinator that is full was made
  coordinator_made : is_led_by_full start old tx ≡ true → IsIn (coordinator_member tx) (made start)
  coordinator_made full =
      let one = passing (was_begun_by tx) (current start old).full full in
      subst (λ (m : Member). IsIn m (made start)) (begun_by tx one.item one.is)
      (current_made start all es before one.item one.there)

  -- at an event at which a transaction aborts no member comes to have a trace of it
  module _ (aborting : fate start old tx ≡ aborts) where
    no_commit : (member : Member) (there : IsIn member (made start)) → TakesCommit start all e es moment member there tx
        → ⊥
    no_commit member there takes = not_both (sym (said same) ∙ aborting)
      where
        fenced : is_fenced e.step.taken ≡ true
        fenced = chain_fenced e.step.taken _ takes.commit.is

        of_rows : is_of_rows e.step.taken.body ≡ true
        of_rows = ap is_of_rows takes.commit.is

        low : e.step.taken.view.number ≤ current_number start old
        low =
            told_of start all e es moment (λ y. y.signal.view.number ≤ current_number start old)
            (sent_below start all es before) takes.taken.sound of_rows

        same : e.step.taken.view.number ≡ current_number start old
        same =
            let is = takes.taken.fresh fenced in
            let up = current_rises start all e es moment in
            omega (arith, low, is, up)

        said : e.step.taken.view.number ≡ current_number start old → fate start old tx ≡ commits
        said number =
            subst (SaysCommit (fate start old)) takes.commit.is
            (told_of start all e es moment
            (λ y. y.signal.view.number ≡ current_number start old → SaysCommit (fate start old) y.signal.body)
            follows.stood.spoken.commits_said takes.taken.sound of_rows number)

    trace_off : has_trace start old tx ≡ false → has_trace start new tx ≡ false
    trace_off none = by (has_trace start new tx) refl
      where
        by : (b : Bool) → has_trace start new tx ≡ b → b ≡ false
        by false is = refl
        by true is =
            let one =
            passing (λ (member : Member). leave_trace tx (rows_at start new member)) (members_now start new) is in
            absurd (true≢false (sym one.is ∙ gone one.item one.there))
          where
            gone : (member : Member) → IsIn member (members_now start new)
                → leave_trace tx (rows_at start new member) ≡ false
            gone member there =
                let was = member_before start all e es moment member there in
                let is_made = member_made start all es before member was in
                trace_comes start all e es moment member is_made tx
                (none_of (λ (m : Member). leave_trace tx (rows_at start old m)) (members_now start old) none member was)
                (no_commit member is_made)

  -- it isn't known by the event, unless it commits
  module _ (comes : KnownCommit) where
    unknown_on : fate start old tx ≡ aborts → is_known start old tx ≡ false → is_known start new tx ≡ false
    unknown_on aborting unknown = by (is_known start new tx) refl
      where
        by : (b : Bool) → is_known start new tx ≡ b → b ≡ false
        by false is = refl
        by true is = absurd (not_both (sym (comes start all e es follows tx is unknown) ∙ aborting))

    lost_on : IsIn (coordinator_member tx) (made start) → is_lost start old tx ≡ true → is_lost start new tx ≡ true
    lost_on there = lost_stay start all e es moment tx there

    -- whoever aborts does so for ever
    aborts_on : fate start old tx ≡ aborts → fate start new tx ≡ aborts
    aborts_on aborting =
        by (aborting_is (is_known start old tx) (is_led_by_full start old tx) (is_forth start old tx)
        (is_lost start old tx)
        (has_trace start old tx) aborting)
      where
        by : IsAborting (is_known start old tx) (is_led_by_full start old tx) (is_forth start old tx)
            (is_lost start old tx)
            (has_trace start old tx) → fate start new tx ≡ aborts
        by is = which is.why (is_led_by_full start new tx) refl
          where
            unknown : is_known start new tx ≡ false
            unknown = unknown_on aborting is.unknown

            which : Aborts (is_led_by_full start old tx) (is_lost start old tx) (has_trace start old tx)
                → (full : Bool) → is_led_by_full start new tx ≡ full → fate start new tx ≡ aborts
            which (led full lost) true now =
                let lost_now = lost_on (coordinator_made full) lost in
                lost_aborts (is_known start new tx) (is_led_by_full start new tx) (is_forth start new tx)
                (is_lost start new tx)
                (has_trace start new tx) unknown now (lost_off (is_forth start new tx) _ lost_now) lost_now
            which (led full lost) false now =
                let lost_now = lost_on (coordinator_made full) lost in
                none_aborts (is_known start new tx) (is_led_by_full start new tx) (is_forth start new tx)
                (is_lost start new tx)
                (has_trace start new tx) unknown now (no_trace (lost_off (is_forth start new tx) _ lost_now))
            which (gone full none) true now =
                absurd (true≢false (sym (led_was start all e es moment tx now) ∙ full))
            which (gone full none) false now =
                none_aborts (is_known start new tx) (is_led_by_full start new tx) (is_forth start new tx)
                (is_lost start new tx)
                (has_trace start new tx) unknown now (trace_off aborting none)

  -- and whoever commits does so in the current view
  module _ (same : current start new ≡ current start old) where
    led_same : is_led_by_full start new tx ≡ is_led_by_full start old tx
    led_same = ap (λ (v : View). is_coordinated v.full tx) same

    commits_on : fate start old tx ≡ commits → fate start new tx ≡ commits
    commits_on committing =
        by (committing_is (is_known start old tx) (is_led_by_full start old tx) (is_forth start old tx)
        (is_lost start old tx)
        (has_trace start old tx) committing)
      where
        by : Commits (is_known start old tx) (is_led_by_full start old tx) (is_forth start old tx)
            (has_trace start old tx)
            → fate start new tx ≡ commits
        by (by_word known) =
            known_commits (is_known start new tx) (is_led_by_full start new tx) (is_forth start new tx)
            (is_lost start new tx)
            (has_trace start new tx) (known_grows start e es tx known)
        by (by_coordinator full forth) =
            forth_commits (is_known start new tx) (is_led_by_full start new tx) (is_forth start new tx)
            (is_lost start new tx)
            (has_trace start new tx) (led_same ∙ full) (forth_grows start e es tx forth)
        by (by_trace full trace) =
            traced (passing (λ (m : Member). leave_trace tx (rows_at start old m)) (members_now start old) trace)
          where
            traced : Passes (λ (m : Member). leave_trace tx (rows_at start old m)) (members_now start old)
                → fate start new tx ≡ commits
            traced one =
                which
                (or_cases (leave_trace tx (rows_at start new one.item)) (is_known start new tx)
                (traces_stay start all e es moment one.item (member_made start all es before one.item one.there) tx
                one.is))
              where
                which : (leave_trace tx (rows_at start new one.item) ≡ true) ⊎ (is_known start new tx ≡ true)
                    → fate start new tx ≡ commits
                which (inl is) =
                    trace_commits (is_known start new tx) (is_led_by_full start new tx) (is_forth start new tx)
                    (is_lost start new tx) (has_trace start new tx) (led_same ∙ full)
                    (any_in (λ (m : Member). leave_trace tx (rows_at start new m)) one.item (members_now start new)
                    (subst (IsIn one.item) (ap (λ (v : View). v.full ++ v.starting) (sym same)) one.there) is)
                which (inr known) =
                    known_commits (is_known start new tx) (is_led_by_full start new tx) (is_forth start new tx)
                    (is_lost start new tx) (has_trace start new tx) known

-- If whoever comes to be known commits, so fates move.
pub fates_move : KnownCommit → EventsMoveFates
fates_move comes start all e es follows tx =
    record { aborting = aborts_on start all e es follows tx comes; committing = commits_on start all e es follows tx }
