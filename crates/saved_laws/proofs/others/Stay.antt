-- A member commits nothing of a key that its node doesn't hold: it is full when its rows take a commit, and then it has
-- records of keys alone of which it is a replica.
use Rattle.std.proofs.Common.{◌≡◌, ◌≤◌, ◌∙◌, ℕ, true, false, List, [], ◌∷◌, sym, ap, subst, arith}
use Rattle.std.proofs.lemmas.Bool.{true≢false}
use Rattle.std.specs.FinMap as map
use Rattle.std.specs.Prelude.{Option, Some}
use Rattle.run_theory.specs.Lists.{IsIn, IsPast}
use Rattle.frag_map.specs.Layout.{holds}
use Rattle.sig_core.specs.Rows.{state_by}
use Rattle.sig_core.specs.Table.{Rows}
use Rattle.sig_core.specs.declared.member.Member.{Member}
use Rattle.sig_core.specs.declared.member.TxId.{TxId}
use Rattle.sig_core.specs.declared.rows.PendingRecord.{PendingRecord}
use Rattle.local_ckpt.specs.Events.{Event}
use Rattle.lqh_views.specs.State.{ReplicaState}
use Rattle.key_laws.specs.Records.{found}
use Rattle.key_laws.specs.Replica.{at_key}
use Rattle.world_core.specs.Start.{Start, made}
use Rattle.world_core.specs.Steps.{HostStep}
use Rattle.view_laws.specs.Runs.{view_after}
use Rattle.moment_laws.proofs.MomentHosts.{ldm_member, ldm_number}
use Rattle.moment_laws.proofs.MomentMembers.{current_host}
use Rattle.moment_laws.proofs.MomentRuns.{are_moments}
use Rattle.moment_laws.proofs.MomentTurns.{own_behind}
use Rattle.moment_laws.proofs.MomentViews.{moment_less}
use Rattle.moment_laws.specs.Moments.{IsMoment, current, logs_of}
use Rattle.moment_laws.specs.Places.{ldm_of}
use Rattle.outcome_laws.proofs.order.EventsBefore.{moment_before}
use Rattle.request_laws.proofs.tokens.HostsApart.{ldm_low}
use Rattle.commit_laws.proofs.hosts.RowsTurn.{RowsGo, enter, rest, rows_go, take}
use Rattle.commit_laws.proofs.records.Placed.{records_are_at_replicas}
use Rattle.commit_laws.proofs.records.Replicas.{full_before}
use Rattle.commit_laws.specs.Traces.{rows_at}
use Rattle.closing_laws.proofs.settled.Cuts.{HasLogAt, events_of, has_log, logs_are}
use Rattle.journal_laws.specs.Events.{own_behind as own_rows_behind}
use Rattle.journal_laws.specs.Journal.{AreEventsOf, first_rows}
use Rattle.saved_laws.specs.Closings.{Commits}
use Rattle.saved_laws.specs.Keys.{OtherKeysStay}
use Rattle.saved_laws.proofs.others.Held.{replica_holds}
use Rattle.saved_laws.proofs.rows.Own.{MomentGoes, OneMore, one_more, own_row, rests, takes}

module _ (start : Start) (all : ℕ → List HostStep) (member : Member) (there : IsIn member (made start)) (key : List ℕ)
  where
    -- a member whose rows take a commit is full then
    commits_full : (e : HostStep) (es : List HostStep) (moment : IsMoment start all (e ∷ es)) (tx : TxId) (at : ℕ)
        → Commits start e es member tx key at → IsIn member (current start (logs_of start (e ∷ es))).full
    commits_full e es moment tx at c = by (rows_go start all e es moment member there)
      where
        record_of : ReplicaState → Option PendingRecord
        record_of s = found tx (at_key key s.lqh).cell.pending

        -- the record wasn't committed before
        moved : record_of (rows_at start (logs_of start (e ∷ es)) member)
            ≡ record_of (rows_at start (logs_of start es) member) → ⊥
        moved same =
            let both : Some true ≡ Some false =
            ap (λ b. Some b) (sym c.committed) ∙ ap state_by (sym c.is_now ∙ same ∙ c.there)
            ∙ ap (λ b. Some b) c.prepared in
            absurd cc

        by : RowsGo start all e es moment member there
            → IsIn member (current start (logs_of start (e ∷ es))).full
        by (rest is quiet) = absurd (moved (ap record_of is))
        by (enter view is quiet) = absurd (moved (ap record_of is))
        by (take s between taken) =
            subst (λ (m : Member). IsIn m (current start (logs_of start (e ∷ es))).full)
            (ldm_member start moment.cluster.nobody member there)
            (current_host start all (e ∷ es) moment (ldm_of start member) some
            (ldm_low start moment.cluster.nobody member there) stands)
          where
            some : 1 ≤ ldm_of start member
            some = let is = ldm_number start moment.cluster.nobody member there in omega (arith, is)

            stands : view_after start (ldm_of start member) (logs_of start (e ∷ es) (ldm_of start member))
                ≡ current start (logs_of start (e ∷ es))
            stands =
                subst (λ h. view_after start h (logs_of start (e ∷ es) h) ≡ current start (logs_of start (e ∷ es)))
                taken.at (own_behind start all e es moment ∙ taken.now.stands)

    -- so none is of a key that its node doesn't hold
    nothing_comes : holds start.shape member.node key ≡ false → (e : HostStep) (es : List HostStep)
        → IsMoment start all (e ∷ es) → (tx : TxId) (at : ℕ) → Commits start e es member tx key at → ⊥
    nothing_comes off e es moment tx at c =
        true≢false
        (sym (replica_holds start all es (moment_less start all e es moment) key member
        (records_are_at_replicas start all es (moment_less start all e es moment) member
        (full_before start all e es moment member (commits_full e es moment tx at c)) key tx c.r c.there)) ∙ off)

    module _ (off : holds start.shape member.node key ≡ false) (epoch : ℕ) (before : Rows) where
      abbrev own : List Event → Option (List ℕ)
      own events = own_row start member there epoch before key events

      stays : (es : List HostStep) → IsMoment start all es → (events : List Event)
          → AreEventsOf start member (logs_of start es (ldm_of start member)) events
          → map.get (own_rows_behind epoch (first_rows start member) before events) key ≡ map.get before key
      stays [] moment events are = ap own are
      stays (e ∷ es) moment events are =
          by one.goes ∙ stays es (moment_less start all e es moment) one.older one.are
        where
          one : OneMore start member there epoch before key e es events
          one = one_more start member there epoch before key moment.cluster.nobody e es events are

          by : MomentGoes start member there epoch before key e es one.older events → own events ≡ own one.older
          by (rests own_is row new) = own_is
          by (takes tx at c r is begun cell own_is) = absurd (nothing_comes off e es moment tx at c)

pub other_keys_stay : OtherKeysStay
other_keys_stay start logs are member there log past events is before epoch key off =
    stays start logs member there key off epoch before has.older
    (moment_before start logs has.newer has.older (subst (IsMoment start logs) has.is (are_moments start logs are)))
    events
    (subst (λ list. AreEventsOf start member list events) (sym has.log_is) is)
  where
    has : HasLogAt start (ldm_of start member) log (events_of start logs)
    has =
        has_log start (ldm_of start member) log (events_of start logs)
        (subst (λ (ls : ℕ → List HostStep). IsPast log (ls (ldm_of start member))) (sym (logs_are start logs are)) past)
