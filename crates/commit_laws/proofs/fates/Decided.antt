-- Transactions that are decided and don't abort: nothing more is asked for them; they were so before, unless they are
-- decided by the event, and then each key is settled.
use Rattle.std.proofs.Common.{◌≡◌, ◌≢◌, ◌≤◌, ◌⊎◌, ◌||◌, ◌&&◌, ◌∙◌, ℕ, Bool, true, false, List, ◌∷◌, refl, sym, ap}
use Rattle.std.proofs.Common.{subst, arith, inl, inr}
use Rattle.std.proofs.lemmas.Bool.{and_parts, or_cases, true≢false}
use Rattle.std.specs.Prelude.{not}
use Rattle.std.specs.List.{list_any}
use Rattle.run_theory.specs.Lists.{IsIn}
use Rattle.run_theory.proofs.Pasts.{each_in}
use Rattle.run_theory.proofs.Runs.{log_of-other}
use Rattle.commit_laws.proofs.fates.Cases.{commits_by}
use Rattle.commit_laws.proofs.hosts.MarkCases.{mark_cases}
use Rattle.sig_core.specs.declared.mark.Mark.TheVariants.{Decided}
use Rattle.sig_core.specs.declared.member.Member.{Member}
use Rattle.sig_core.specs.declared.member.TxId.{TxId}
use Rattle.sig_core.specs.declared.rows.PendingRecord.{PendingRecord}
use Rattle.sig_core.specs.declared.place.Part.TheVariants.{Tc}
use Rattle.sig_core.specs.Same.{same_tx}
use Rattle.sig_core.proofs.TxLemmas.{same_tx-is}
use Rattle.tc_block.specs.Doom.{is_among}
use Rattle.lqh_block.specs.declared.request.Marker.{Marker}
use Rattle.lqh_block.specs.Views.{was_begun_by}
use Rattle.lqh_views.specs.State.{ReplicaState}
use Rattle.world_core.specs.Start.{Start, made}
use Rattle.world_core.specs.Steps.{HostStep}
use Rattle.world_views.specs.Machine.{machine}
use Rattle.moment_laws.specs.Moments.{IsMoment, current, logs_of}
use Rattle.moment_laws.specs.Places.{ldm_of, tc_of}
use Rattle.moment_laws.proofs.MomentHosts.{part_some}
use Rattle.moment_laws.proofs.MomentViews.{moment_less}
use Rattle.outcome_laws.specs.Counts.{coordinator_member, is_decision}
use Rattle.outcome_laws.specs.Known.{IsDecidedIf}
use Rattle.request_laws.specs.Blocks.{rows_after}
use Rattle.request_laws.proofs.tokens.HostsApart.{ldm_no_tc}
use Rattle.request_laws.proofs.routes.ChainsStay.{any_in}
use Rattle.commit_laws.specs.Commits.{IsKept}
use Rattle.commit_laws.specs.Fates.{aborts, commits, fate, fate_if, is_led_by_full}
use Rattle.commit_laws.specs.Forth.{ForthIsKnownAlways, IsForth}
use Rattle.commit_laws.specs.Going.{is_back, is_decided, is_forth, is_lost, own_coordinator}
use Rattle.commit_laws.specs.Settled.{IsDecidedNow}
use Rattle.commit_laws.specs.Together.{FatesMove}
use Rattle.commit_laws.specs.Traces.{has_sent, has_trace, is_acknowledgement, is_committed_of, is_known, is_marker_of}
use Rattle.commit_laws.specs.Traces.{leave_trace, members_now, rows_at}
use Rattle.commit_laws.proofs.fates.Committed.{IsCalm, decided_calm, decided_made, decision_in, forth_calm}
use Rattle.commit_laws.proofs.forth.DecidedStay.{forth_decided}
use Rattle.commit_laws.proofs.fates.LostStays.{lost_stay}
use Rattle.commit_laws.proofs.hosts.SomePasses.{passing}
use Rattle.commit_laws.proofs.records.Replicas.{full_before, member_made}

-- which is told of a transaction that doesn't abort
not_aborting : (known full forth lost trace : Bool) → fate_if known full forth lost trace ≢ aborts
    → (known ≡ true) ⊎ ((full ≡ true) × ((forth ≡ true) ⊎ (lost ≡ false))) ⊎ ((full ≡ false) × (trace ≡ true))
not_aborting true full forth lost trace isnt = inl refl
not_aborting false true true lost trace isnt = inr (inl (refl, inl refl))
not_aborting false true false true trace isnt = absurd (isnt refl)
not_aborting false true false false trace isnt = inr (inl (refl, inr refl))
not_aborting false false forth lost true isnt = inr (inr (refl, refl))
not_aborting false false forth lost false isnt = absurd (isnt refl)

module _ (forth : ForthIsKnownAlways) where
  module _ (start : Start) (all : ℕ → List HostStep) (es : List HostStep) (moment : IsMoment start all es) (tx : TxId)
    where
      abbrev logs : ℕ → List HostStep
      logs = logs_of start es

      -- rows that have a trace of it tell that it was committed
      pub trace_forth : (member : Member) → IsIn member (made start)
          → leave_trace tx (rows_at start (logs_of start es) member) ≡ true
          → is_forth start (logs_of start es) tx ≡ true
      trace_forth member there is =
          by (or_cases (list_any (is_committed_of tx) rows.lqh.rows.pending)
          (list_any (is_marker_of tx) rows.lqh.markers) is)
        where
          rows : ReplicaState
          rows = rows_at start logs member

          by : (list_any (is_committed_of tx) rows.lqh.rows.pending ≡ true)
              ⊎ (list_any (is_marker_of tx) rows.lqh.markers ≡ true) → is_forth start logs tx ≡ true
          by (inl some) =
              let one = passing (is_committed_of tx) rows.lqh.rows.pending some in
              let own = and_parts (same_tx one.item.tx tx) one.item.committed one.is in
              let told =
              each_in (λ (r : PendingRecord). IsDecidedIf (λ u epoch. IsForth start logs u) (IsForth start logs) r
              r.committed)
              one.item rows.lqh.rows.pending ((forth start all es moment).rows member there).records one.there in
              subst (IsForth start logs) (same_tx-is one.item.tx tx own.0)
              (subst (λ b. IsDecidedIf (λ u epoch. IsForth start logs u) (IsForth start logs) one.item b) own.1 told)
          by (inr some) =
              let one = passing (is_marker_of tx) rows.lqh.markers some in
              subst (IsForth start logs) (same_tx-is one.item.tx tx one.is)
              (each_in (λ (m : Marker). IsForth start logs m.tx) one.item rows.lqh.markers
              ((forth start all es moment).rows member there).markers one.there)

      -- whoever commits has gone forth
      pub commits_forth : fate start (logs_of start es) tx ≡ commits → is_forth start (logs_of start es) tx ≡ true
      commits_forth is =
          by (commits_by (is_known start logs tx) (is_led_by_full start logs tx) (is_forth start logs tx)
          (is_lost start logs tx) (has_trace start logs tx) is)
        where
          by : (is_known start logs tx ≡ true) ⊎ ((is_forth start logs tx ≡ true) ⊎ (has_trace start logs tx ≡ true))
              → is_forth start logs tx ≡ true
          by (inl known) = (forth start all es moment).known tx known
          by (inr (inl gone)) = gone
          by (inr (inr trace)) =
              let one = passing (λ (member : Member). leave_trace tx (rows_at start logs member))
              (members_now start logs) trace in
              trace_forth one.item (member_made start all es moment one.item one.there) one.is

      -- of who is decided and doesn't abort nothing is asked any more
      pub kept_calm : IsKept start (logs_of start es) tx → IsCalm start (logs_of start es) tx
      kept_calm kept =
          by (not_aborting (is_known start logs tx) (is_led_by_full start logs tx) (is_forth start logs tx)
          (is_lost start logs tx) (has_trace start logs tx) kept.fate_is)
        where
          gone : is_forth start logs tx ≡ true → IsCalm start logs tx
          gone is = forth_calm start all es moment tx is

          spared : (f b d : Bool) → (not f && (b || d)) ≡ false → (f ≡ true) ⊎ (b ≡ false)
          spared true b d is = inl refl
          spared false true d is = absurd (true≢false is)
          spared false false d is = inr refl

          either : (is_forth start logs tx ≡ true) ⊎ (is_back start logs tx ≡ false) → IsCalm start logs tx
          either (inl is) = gone is
          either (inr off) = decided_calm start all es moment tx kept.decided off

          by : (is_known start logs tx ≡ true)
              ⊎ ((is_led_by_full start logs tx ≡ true)
              × ((is_forth start logs tx ≡ true) ⊎ (is_lost start logs tx ≡ false)))
              ⊎ ((is_led_by_full start logs tx ≡ false) × (has_trace start logs tx ≡ true))
              → IsCalm start logs tx
          by (inl known) = gone ((forth start all es moment).known tx known)
          by (inr (inl (full, inl is))) = gone is
          by (inr (inl (full, inr off))) = either (spared (is_forth start logs tx) (is_back start logs tx) _ off)
          by (inr (inr (full, trace))) =
              let one = passing (λ (member : Member). leave_trace tx (rows_at start logs member))
              (members_now start logs) trace in
              gone (trace_forth one.item (member_made start all es moment one.item one.there) one.is)

  module _ (start : Start) (all : ℕ → List HostStep) (e : HostStep) (es : List HostStep)
      (moment : IsMoment start all (e ∷ es)) (tx : TxId)
    where
      abbrev old : ℕ → List HostStep
      old = logs_of start es

      abbrev new : ℕ → List HostStep
      new = logs_of start (e ∷ es)

      abbrev before : IsMoment start all es
      before = moment_less start all e es moment

      -- whoever was decided before was kept
      pub kept_before : FatesMove start e es tx → is_decided start old tx ≡ true → IsKept start new tx
          → IsKept start old tx
      kept_before moves decided kept =
          record { decided = decided; fate_is = λ is. kept.fate_is (moves.aborting is) }

      -- its coordinator's host takes the event, and decides it
      pub record DecidesNow : Type 0 where
        pub at : e.host ≡ tc_of start (coordinator_member tx)
        pub made : IsIn (coordinator_member tx) (made start)
        pub epoch : ℕ
        pub marked : IsIn (Decided tx epoch) e.step.marks

      pub decides_now : is_decided start new tx ≡ true → is_decided start old tx ≡ false → DecidesNow
      decides_now is isnt =
          mark_cases start e es (tc_of start (coordinator_member tx)) (is_decision tx)
          (λ at some.
          let one = decision_in tx e.step.marks some in
          record {
            at = at;
            made = decided_made start all (e ∷ es) moment tx is;
            epoch = one.epoch;
            marked = one.inside;
          })
          (λ was. absurd (true≢false (sym was ∙ isnt))) is

      module _ (decides : DecidesNow) where
        -- rows, and what the client's side knows, are as before
        pub rows_same : (member : Member) → IsIn member (made start)
            → rows_at start new member ≡ rows_at start old member
        rows_same member there =
            ap (rows_after start member)
            (log_of-other (machine start) e es (ldm_of start member)
            (λ same. ldm_no_tc start moment.cluster.nobody member (coordinator_member tx) there decides.made
            (sym same ∙ decides.at)))

        known_same : is_known start new tx ≡ is_known start old tx
        known_same =
            ap (has_sent start (is_acknowledgement tx) 0)
            (log_of-other (machine start) e es 0
            (λ same.
            let some : 1 ≤ tc_of start (coordinator_member tx) = part_some start Tc (coordinator_member tx) in
            let at = decides.at in
            absurd (omega (arith, some, at, same))))

        -- its coordinator is a full member, and it isn't lost
        pub is_now : is_decided start old tx ≡ false → IsKept start new tx → IsDecidedNow start e es tx
        is_now isnt kept = record {
          epoch = decides.epoch;
          marked = decides.marked;
          full = full_was (by_fate (not_aborting (is_known start new tx) (is_led_by_full start new tx)
              (is_forth start new tx)
              (is_lost start new tx) (has_trace start new tx) kept.fate_is));
          spared = spared (is_lost start old tx) refl
              (not_aborting (is_known start new tx) (is_led_by_full start new tx) (is_forth start new tx)
              (is_lost start new tx) (has_trace start new tx) kept.fate_is);
        }
          where
            not_forth : is_forth start old tx ≡ true → ⊥
            not_forth is = true≢false (sym (forth_decided start all es before tx is) ∙ isnt)

            unknown : is_known start new tx ≡ true → ⊥
            unknown is = not_forth ((forth start all es before).known tx (sym known_same ∙ is))

            untraced : has_trace start new tx ≡ true → ⊥
            untraced is =
                let one =
                passing (λ (member : Member). leave_trace tx (rows_at start new member)) (members_now start new) is in
                let there = member_made start all (e ∷ es) moment one.item one.there in
                not_forth (trace_forth start all es before tx one.item there
                (ap (leave_trace tx) (sym (rows_same one.item there)) ∙ one.is))

            Fates : Type 0
            Fates =
                (is_known start new tx ≡ true)
                ⊎ ((is_led_by_full start new tx ≡ true)
                × ((is_forth start new tx ≡ true) ⊎ (is_lost start new tx ≡ false)))
                ⊎ ((is_led_by_full start new tx ≡ false) × (has_trace start new tx ≡ true))

            by_fate : Fates → is_led_by_full start new tx ≡ true
            by_fate (inl known) = absurd (unknown known)
            by_fate (inr (inl (full, rest))) = full
            by_fate (inr (inr (full, trace))) = absurd (untraced trace)

            full_was : is_led_by_full start new tx ≡ true → is_led_by_full start old tx ≡ true
            full_was is =
                let one = passing (was_begun_by tx) (current start new).full is in
                any_in (was_begun_by tx) one.item (current start old).full
                (full_before start all e es moment one.item one.there) one.is

            lost_not_forth : is_lost start new tx ≡ true → is_forth start new tx ≡ false
            lost_not_forth is =
                by (is_forth start new tx)
                (and_parts (not (is_forth start new tx)) (is_back start new tx
                || is_among (own_coordinator start new tx).doomed tx) is).0
              where
                by : (b : Bool) → not b ≡ true → b ≡ false
                by true is = absurd (true≢false (sym is))
                by false is = refl

            spared : (b : Bool) → is_lost start old tx ≡ b → Fates → b ≡ false
            spared false is fates = refl
            spared true is fates = absurd (clash fates)
              where
                lost : is_lost start new tx ≡ true
                lost = lost_stay start all e es moment tx decides.made is

                clash : Fates → ⊥
                clash (inl known) = unknown known
                clash (inr (inl (full, inl is_forth_now))) = true≢false (sym is_forth_now ∙ lost_not_forth lost)
                clash (inr (inl (full, inr off))) = true≢false (sym lost ∙ off)
                clash (inr (inr (full, trace))) = untraced trace
