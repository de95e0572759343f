-- Behind a commit that rows take, the key is committed at their place of its chain and at those behind; at the first
-- place it is so at all replicas, and was applied.
use Rattle.std.proofs.Common.{◌≡◌, ◌<◌, ◌≤◌, ◌⊎◌, ◌||◌, ◌∙◌, ℕ, Bool, true, false, List, ◌∷◌, eq-or-lt_of_le, refl, sym}
use Rattle.std.proofs.Common.{ap, subst, arith, inl, inr}
use Rattle.std.proofs.lemmas.Bool.{or_left, or_right}
use Rattle.std.specs.Prelude.{Option, None, Some}
use Rattle.std.specs.List.{slice_get}
use Rattle.run_theory.specs.Lists.{IsIn}
use Rattle.run_theory.proofs.Runs.{log_of-own}
use Rattle.run_theory.proofs.EventCases.{event_cases}
use Rattle.frag_map.specs.Layout.{chain_of}
use Rattle.sig_core.specs.declared.mark.Mark.TheVariants.{Applied}
use Rattle.sig_core.specs.declared.member.Member.{Member}
use Rattle.sig_core.specs.declared.member.TxId.{TxId}
use Rattle.sig_core.specs.declared.rows.PendingRecord.{PendingRecord}
use Rattle.sig_core.specs.declared.signal.Body.TheVariants.{Chain}
use Rattle.sig_core.specs.declared.signal.chain.ChainSignal.TheVariants.{Commit}
use Rattle.key_laws.specs.Records.{as_committed}
use Rattle.world_core.specs.Start.{Start, made}
use Rattle.world_core.specs.Steps.{Addressed, HostStep}
use Rattle.world_views.specs.Machine.{machine}
use Rattle.view_laws.proofs.ballots.MadeSets.{in_front}
use Rattle.moment_laws.specs.Moments.{IsMoment, current, logs_of}
use Rattle.moment_laws.specs.Places.{ldm_of}
use Rattle.moment_laws.proofs.MomentViews.{current_number, moment_less}
use Rattle.outcome_laws.specs.Decided.{IsMarked}
use Rattle.request_laws.specs.Routed.{layout_in}
use Rattle.commit_laws.specs.Commits.{ComesFromTheEnd, HasWritten, HoldsImage, IsDone, by_marker, by_record}
use Rattle.commit_laws.specs.Forth.{ForthIsKnownAlways}
use Rattle.commit_laws.specs.Markers.{CommitsAreRemembered}
use Rattle.commit_laws.specs.Together.{AllStand}
use Rattle.commit_laws.specs.Traces.{AreCommitted, IsApplied, IsCommittedAtAll, IsReplicaOf, has_marker_at}
use Rattle.commit_laws.specs.Traces.{is_committed_at, is_committed_by, is_known, record_at}
use Rattle.commit_laws.specs.Whole.{CommitsGoWhole}
use Rattle.commit_laws.proofs.markers.AppliedMarks.{applied_marked, marks_of_commit}
use Rattle.commit_laws.proofs.commits.Places.{commit_place, commit_record, in_at, place_of}
use Rattle.commit_laws.proofs.commits.Remain.{AcknowledgedAreKnown, all_stay, committed_stays}
use Rattle.commit_laws.proofs.forth.DecidedStay.{applied_more}
use Rattle.commit_laws.proofs.records.KeyGoes.{TakesNow}
use Rattle.commit_laws.proofs.records.Moves.{now_by}
use Rattle.commit_laws.proofs.records.Replicas.{chain_replica, replica_before, replica_made}
use Rattle.commit_laws.proofs.links.TakenChains.{IsKeptForth, chain_number, chain_told, commit_kept}
use Rattle.commit_laws.proofs.markers.Traces.{commit_written}

module _ (forth : ForthIsKnownAlways) (remembered : CommitsAreRemembered) (acknowledged : AcknowledgedAreKnown)
    (whole : CommitsGoWhole) (start : Start) (all : ℕ → List HostStep) (e : HostStep) (es : List HostStep)
    (moment : IsMoment start all (e ∷ es)) (stood : AllStand start es)
  where
    abbrev old : ℕ → List HostStep
    old = logs_of start es

    abbrev new : ℕ → List HostStep
    new = logs_of start (e ∷ es)

    abbrev before : IsMoment start all es
    before = moment_less start all e es moment

    abbrev chain_now : List ℕ → List Member
    chain_now key = chain_of (layout_in start (current start old)) key

    module _ (member : Member) (there : IsIn member (made start)) (takes : TakesNow start all e es moment member there)
        (tx : TxId) (key : List ℕ) (epoch : ℕ) (chain : List Member) (at : ℕ)
        (about : e.step.taken.body ≡ Chain (Commit tx key epoch chain at)) (written : HasWritten start old tx key)
      where
        abbrev kept : IsKeptForth start all e es moment takes.now (Commit tx key epoch chain at) about forth
            stood.spoken tx
        kept =
            commit_kept start all e es moment takes.now (Commit tx key epoch chain at) about forth stood.spoken tx key
            epoch
            chain at refl

        place : slice_get (chain_now key) at ≡ Some member
        place = (commit_place start all e es moment member there takes whole tx key epoch chain at about written).1

        replica : IsReplicaOf start old key member
        replica = chain_replica start all es before key member (in_at (chain_now key) at member place)

        stays : (m : Member) → IsIn m (made start) → is_committed_at start old m key tx ≡ true
            → is_committed_at start new m key tx ≡ true
        stays m made_m is = committed_stays forth remembered acknowledged start all e es moment m made_m key tx is

        -- where it has no record it is remembered
        none_here : record_at start old member key tx ≡ None
            → (has_marker_at start old member key tx ≡ true) ⊎ (is_known start old tx ≡ true)
        none_here none = by (is_known start old tx) refl
          where
            holds : HoldsImage start old member key tx → has_marker_at start old member key tx ≡ true
            holds (by_record r is image) = absurd (let both : None ≡ Some r = sym none ∙ is in cc)
            holds (by_marker on) = on

            by : (b : Bool) → is_known start old tx ≡ b
                → (has_marker_at start old member key tx ≡ true) ⊎ (is_known start old tx ≡ true)
            by true known = inr known
            by false unknown = inl (holds (stood.commits.held tx kept.kept unknown key written member replica))

        here : is_committed_at start new member key tx ≡ true
        here = by (record_at start old member key tx) refl
          where
            some : (has_marker_at start old member key tx ≡ true) ⊎ (is_known start old tx ≡ true)
                → (has_marker_at start old member key tx || is_known start old tx) ≡ true
            some (inl on) = or_left (has_marker_at start old member key tx) (is_known start old tx) on
            some (inr known) = or_right (has_marker_at start old member key tx) (is_known start old tx) known

            by : (o : Option PendingRecord) → record_at start old member key tx ≡ o
                → is_committed_at start new member key tx ≡ true
            by None none =
                stays member there
                (ap (is_committed_by (has_marker_at start old member key tx || is_known start old tx)) none
                ∙ some (none_here none))
            by (Some r) is =
                ap (is_committed_by (has_marker_at start new member key tx || is_known start new tx))
                (commit_record start all e es moment member there takes tx key epoch chain at about
                ∙ ap (now_by as_committed) is)

        pub from_here : (at_place : ℕ) (m : Member) → at ≤ at_place → slice_get (chain_now key) at_place ≡ Some m
            → is_committed_at start new m key tx ≡ true
        from_here at_place m low is = by (eq-or-lt_of_le low)
          where
            some_is : (a b : Member) → Some a ≡ Some b → a ≡ b
            some_is a b same = cc

            by : (at ≡ at_place) ⊎ (at < at_place) → is_committed_at start new m key tx ≡ true
            by (inl same) =
                subst (λ (k : Member). is_committed_at start new k key tx ≡ true)
                (some_is member m (sym place ∙ (ap (slice_get (chain_now key)) same ∙ is))) here
            by (inr less) =
                let m_replica = chain_replica start all es before key m (in_at (chain_now key) at_place m is) in
                stays m (replica_made start all es before key m m_replica)
                (subst (ComesFromTheEnd start old) about
                (chain_told start all e es moment takes.now (Commit tx key epoch chain at) about
                (λ (y : Addressed). y.signal.view.number ≡ current_number start old
                → ComesFromTheEnd start old y.signal.body)
                stood.commits.commits
                (chain_number start all e es moment takes.now (Commit tx key epoch chain at) about))
                written at_place m less
                (subst (λ ms. slice_get ms at_place ≡ Some m)
                (sym (commit_place start all e es moment member there takes whole tx key epoch chain at about
                written).0) is))

        pub all_at_first : at ≡ 0 → AreCommitted start new tx key
        all_at_first first m is =
            let was = replica_before start all e es moment key m is in
            let one = place_of (chain_now key) m was.chained in
            from_here one.at m (omega (arith, first)) one.is

        -- it was applied
        applied_first : at ≡ 0 → IsApplied start new tx key
        applied_first first = by (record_at start old member key tx) refl
          where
            done : IsDone start old tx → IsApplied start new tx key
            done is = applied_more start all e es moment tx key (is key written).applied

            none : record_at start old member key tx ≡ None
                → (has_marker_at start old member key tx ≡ true) ⊎ (is_known start old tx ≡ true)
                → IsApplied start new tx key
            none is (inl on) =
                done (stood.commits.alone member
                (in_front member (current start old).full (current start old).starting replica.full)
                key tx on is)
            none is (inr known) = done (stood.commits.known tx known)

            by : (o : Option PendingRecord) → record_at start old member key tx ≡ o → IsApplied start new tx key
            by None is = none is (none_here is)
            by (Some r) is = record {
              member = member;
              is_made = there;
              marked =
                  subst (IsMarked (Applied tx key))
                  (sym (log_of-own (machine start) e es (ldm_of start member) takes.at))
                  (inl (applied_marked start all e es moment member there tx key takes epoch chain
                  (about ∙ ap (λ n. Chain (Commit tx key epoch chain n)) first) r is));
            }

        pub at_all_first : at ≡ 0 → IsCommittedAtAll start new tx key
        at_all_first first = record { applied = applied_first first; committed = all_at_first first }

    -- what was applied is committed
    pub applied_now : (tx : TxId) (key : List ℕ) → IsApplied start (logs_of start (e ∷ es)) tx key
        → AreCommitted start (logs_of start (e ∷ es)) tx key
    applied_now tx key applied =
        event_cases (machine start) e es (ldm_of start applied.member)
        (λ log. IsMarked (Applied tx key) log → AreCommitted start new tx key) either (λ off. was) applied.marked
      where
        was : IsMarked (Applied tx key) (old (ldm_of start applied.member)) → AreCommitted start new tx key
        was marked =
            all_stay forth remembered acknowledged start all e es moment tx key
            (stood.commits.applied tx key (record
            { member = applied.member; is_made = applied.is_made; marked = marked }))

        now : e.host ≡ ldm_of start applied.member → IsIn (Applied tx key) e.step.marks → AreCommitted start new tx key
        now at marked =
            let one = marks_of_commit start all e es moment applied.member applied.is_made tx key at marked in
            all_at_first applied.member applied.is_made one.takes tx key one.epoch one.chain 0 one.body_is
            (commit_written forth start all e es moment remembered acknowledged stood applied.member applied.is_made
            key tx
            one.takes one.epoch one.chain 0 one.body_is one.own one.record_is) refl

        either : e.host ≡ ldm_of start applied.member
            → IsIn (Applied tx key) e.step.marks ⊎ IsMarked (Applied tx key) (old (ldm_of start applied.member))
            → AreCommitted start new tx key
        either at (inl marked) = now at marked
        either at (inr marked) = was marked
