-- Whoever was applied commits: the key's primary in the current view has its commit, unless the client's side knows of
-- it.
use Rattle.std.proofs.Common.{◌≡◌, ◌||◌, ◌∙◌, ℕ, Bool, true, false, List, refl, sym, ap, subst}
use Rattle.std.proofs.lemmas.Bool.{true≢false}
use Rattle.std.specs.Prelude.{Option, None, Some}
use Rattle.run_theory.specs.Lists.{IsIn}
use Rattle.sig_core.specs.declared.member.Member.{Member}
use Rattle.sig_core.specs.declared.member.TxId.{TxId}
use Rattle.sig_core.specs.declared.rows.PendingRecord.{PendingRecord}
use Rattle.world_core.specs.Start.{Start}
use Rattle.world_core.specs.Steps.{HostStep}
use Rattle.moment_laws.specs.Moments.{IsMoment, logs_of}
use Rattle.commit_laws.specs.Ends.{AppliedCommit}
use Rattle.commit_laws.specs.Fates.{commits, fate, is_led_by_full}
use Rattle.commit_laws.specs.Going.{is_forth, is_lost}
use Rattle.commit_laws.specs.Owed.{HasPrimary}
use Rattle.commit_laws.specs.Together.{AllStandAlways}
use Rattle.commit_laws.specs.Traces.{IsApplied, has_marker_at, has_trace, is_committed_at, is_committed_by, is_known}
use Rattle.commit_laws.specs.Traces.{members_now, record_at}
use Rattle.commit_laws.proofs.fates.Cases.{known_commits}
use Rattle.commit_laws.proofs.forth.All.{forth_is_known}
use Rattle.commit_laws.proofs.led.Replicas.{keys_have_primaries}
use Rattle.commit_laws.proofs.markers.Traces.{marker_commits, record_commits}
use Rattle.commit_laws.proofs.records.Replicas.{members_full}

module _ (stand : AllStandAlways) (start : Start) (all : ℕ → List HostStep) (es : List HostStep)
    (moment : IsMoment start all es) (tx : TxId) (key : List ℕ) (applied : IsApplied start (logs_of start es) tx key)
  where
    abbrev logs : ℕ → List HostStep
    logs = logs_of start es

    primary : HasPrimary start logs key
    primary = keys_have_primaries start all es moment key

    abbrev member : Member
    member = primary.primary

    among : IsIn member (members_now start logs)
    among = subst (IsIn member) (sym (members_full start all es moment)) primary.replica.full

    committed : is_committed_at start logs member key tx ≡ true
    committed = (stand start all es moment).commits.applied tx key applied member primary.replica

    or_left_of : (a b : Bool) → b ≡ false → (a || b) ≡ true → a ≡ true
    or_left_of true b off is = refl
    or_left_of false b off is = absurd (true≢false (sym is ∙ off))

    unless_known : is_known start logs tx ≡ false → (o : Option PendingRecord) → record_at start logs member key tx ≡ o
        → fate start logs tx ≡ commits
    unless_known off None none =
        marker_commits forth_is_known start all es moment member among key tx
        (or_left_of (has_marker_at start logs member key tx) (is_known start logs tx) off
        (sym (ap (is_committed_by (has_marker_at start logs member key tx || is_known start logs tx)) none)
        ∙ committed))
    unless_known off (Some r) is =
        record_commits forth_is_known start all es moment member among key tx r is
        (sym (ap (is_committed_by (has_marker_at start logs member key tx || is_known start logs tx)) is) ∙ committed)

    commits_so : (b : Bool) → is_known start logs tx ≡ b → fate start logs tx ≡ commits
    commits_so true is =
        known_commits (is_known start logs tx) (is_led_by_full start logs tx) (is_forth start logs tx)
        (is_lost start logs tx) (has_trace start logs tx) is
    commits_so false off = unless_known off (record_at start logs member key tx) refl

pub applied_commit : AllStandAlways → AppliedCommit
applied_commit stand start all es moment tx key applied =
    commits_so stand start all es moment tx key applied (is_known start (logs_of start es) tx) refl
