-- When all members have ended, whoever none of them told to be committed aborts, and of each that commits all keys are
-- gathered.
use Rattle.std.proofs.Common.{◌≡◌, ◌⊎◌, ◌∙◌, ◌||◌, ◌&&◌, ◌<◌, ℕ, true, false, List, [], ◌∷◌, inl, inr, length, refl}
use Rattle.std.proofs.Common.{sym, ap, subst, arith}
use Rattle.std.proofs.lemmas.Bool.{and_parts, true≢false, or_cases, false_from_ne_true}
use Rattle.std.specs.List.{list_any}
use Rattle.std.specs.Prelude.{None, is_some}
use Rattle.run_theory.specs.Links.{sent}
use Rattle.run_theory.specs.Lists.{Each, IsIn}
use Rattle.run_theory.proofs.Pasts.{each_from, each_in}
use Rattle.frag_map.specs.Layout.{chain_of}
use Rattle.sig_core.specs.declared.member.Member.{Member}
use Rattle.sig_core.specs.declared.member.TxId.{TxId}
use Rattle.sig_core.specs.declared.rows.PendingRecord.{PendingRecord}
use Rattle.sig_core.specs.Same.{same_key}
use Rattle.sig_core.proofs.Keys.{same_key-self}
use Rattle.sig_core.proofs.TxLemmas.{same_tx-is}
use Rattle.lqh_block.specs.Commit.{is_marker}
use Rattle.takeover_block.specs.declared.gathered.Gathered.{Gathered}
use Rattle.takeover_block.specs.Keys.{has_key}
use Rattle.world_core.specs.Start.{Start}
use Rattle.world_core.specs.Steps.{Addressed, HostStep}
use Rattle.view_laws.specs.Order.{sound_machine}
use Rattle.moment_laws.specs.Moments.{IsMoment, current, logs_of}
use Rattle.moment_laws.proofs.MomentViews.{moment_installed}
use Rattle.request_laws.specs.Routed.{layout_in}
use Rattle.request_laws.proofs.routes.PartsOfTheFirst.{chains_in}
use Rattle.request_laws.specs.Orphans.{IsOrphan}
use Rattle.request_laws.proofs.routes.ChainsStay.{any_in}
use Rattle.commit_laws.specs.Commits.{ComesWhenDone, CommitsStand, HoldsImage, IsDone, IsKept, by_marker, by_record}
use Rattle.commit_laws.specs.Fates.{aborts, commits, fate, is_led_by_full}
use Rattle.commit_laws.specs.Gathering.{AllIsTold, IsPreparedSomewhere}
use Rattle.commit_laws.specs.Going.{is_forth, is_lost}
use Rattle.commit_laws.specs.Takeovers.{HasAllKeys, takeover_at}
use Rattle.commit_laws.specs.Traces.{IsReplicaOf, has_marker_at, has_trace, is_committed_by, is_committed_of, is_known}
use Rattle.commit_laws.specs.Traces.{is_marker_of, leave_trace, members_now, rows_at}
use Rattle.commit_laws.proofs.fates.Cases.{known_commits, none_aborts, not_both}
use Rattle.commit_laws.proofs.fates.Forth.{fate_decided}
use Rattle.commit_laws.proofs.forth.Client.{IsToldOf, by_coordinator, by_takeover}
use Rattle.commit_laws.proofs.forth.KnownTold.{WasTold, known_told}
use Rattle.commit_laws.proofs.markers.All.{commits_are_remembered}
use Rattle.commit_laws.proofs.hosts.SomePasses.{passing}
use Rattle.commit_laws.proofs.records.Replicas.{chain_replica, member_made, members_full, replica_made}
use Rattle.commit_laws.proofs.takeover.Words.{IsRight}

-- a list that isn't empty has an entry
record HasOne (xs : List Member) : Type 0 where
  one : Member
  there : IsIn one xs

has_one : (xs : List Member) → 0 < length xs → HasOne xs
has_one [] some = absurd (omega (arith, some))
has_one (x ∷ xs) some = record { one = x; there = inl refl }

module _ (start : Start) (all : ℕ → List HostStep) (es : List HostStep) (moment : IsMoment start all es)
    (stood : CommitsStand start (logs_of start es))
  where
    abbrev logs : ℕ → List HostStep
    logs = logs_of start es

    -- whoever is known is done
    pub known_done : (tx : TxId) → is_known start (logs_of start es) tx ≡ true → IsDone start (logs_of start es) tx
    known_done tx is = by (known_told start all es moment tx is)
      where
        by : WasTold start logs tx → IsDone start logs tx
        by was = tells was.tells
          where
            done : ComesWhenDone start logs was.signal.signal.body
            done =
                each_in (λ (x : Addressed). ComesWhenDone start logs x.signal.body) was.signal
                (sent (sound_machine start) was.from was.to (logs was.from)) (stood.done was.from was.to) was.there

            tells : IsToldOf tx was.signal.signal.body → IsDone start logs tx
            tells (by_coordinator epoch is) = subst (ComesWhenDone start logs) is done
            tells (by_takeover epoch is) = let both = subst (ComesWhenDone start logs) is done in both.0

    known_fate : (tx : TxId) → is_known start logs tx ≡ true → fate start logs tx ≡ commits
    known_fate tx is =
        known_commits (is_known start logs tx) (is_led_by_full start logs tx) (is_forth start logs tx)
        (is_lost start logs tx) (has_trace start logs tx) is

    -- so none of its records at a replica is only prepared
    pub prepared_unknown : (tx : TxId) → IsPreparedSomewhere start (logs_of start es) tx
        → is_known start (logs_of start es) tx ≡ false
    prepared_unknown tx p =
        false_from_ne_true (is_known start logs tx) (λ is. true≢false (sym (committed is) ∙ p.prepared))
      where
        kept : is_known start logs tx ≡ true → IsKept start logs tx
        kept is = record {
          decided = fate_decided start all es moment tx (known_fate tx is);
          fate_is = λ aborting. not_both (sym (known_fate tx is) ∙ aborting);
        }

        committed : is_known start logs tx ≡ true → p.own.committed ≡ true
        committed is =
            let written =
            (stood.records tx (kept is) p.member (replica_made start all es moment p.key p.member p.replica)
            p.key p.own p.there).0 in
            sym (ap (is_committed_by (has_marker_at start logs p.member p.key tx || is_known start logs tx)) p.there)
            ∙ (known_done tx is p.key written).committed p.member p.replica

    module _ (member : Member) (told : AllIsTold start (logs_of start es) member)
        (orphans : Each (λ (g : Gathered). IsOrphan (current start (logs_of start es)) g.tx)
        (takeover_at start (logs_of start es) member).gathered) where
      abbrev gathered : List Gathered
      gathered = (takeover_at start (logs_of start es) member).gathered

      module _ (g : Gathered) (there : IsIn g (takeover_at start (logs_of start es) member).gathered) where
        orphan : IsOrphan (current start logs) g.tx
        orphan = each_in (λ (g : Gathered). IsOrphan (current start logs) g.tx) g gathered orphans there

        unknown : g.epoch ≡ None → is_known start logs g.tx ≡ false
        unknown none =
            prepared_unknown g.tx
            (each_in (λ (g : Gathered). g.epoch ≡ None → IsPreparedSomewhere start logs g.tx) g gathered told.prepared
            there none)

        -- no marker of it is anywhere
        unmarked : g.epoch ≡ None → (one : Member) → IsIn one (current start logs).full → (key : List ℕ)
            → has_marker_at start logs one key g.tx ≡ true → ⊥
        unmarked none one full key marked =
            (each_in (λ (u : Gathered). u.tx ≡ g.tx → (has_key u.keys key ≡ true) × (u.epoch ≡ None → ⊥)) g gathered
            (told.markers one full g.tx orphan key marked) there refl).1 none

        -- so there is no trace
        traceless : g.epoch ≡ None → has_trace start logs g.tx ≡ false
        traceless none = false_from_ne_true (has_trace start logs g.tx) found
          where
            left : (one : Member) → IsIn one (members_now start logs) → leave_trace g.tx (rows_at start logs one) ≡ true
                → ⊥
            left one there_one is =
                by (or_cases (list_any (is_committed_of g.tx) (rows_at start logs one).lqh.rows.pending)
                (list_any (is_marker_of g.tx) (rows_at start logs one).lqh.markers) is)
              where
                full : IsIn one (current start logs).full
                full = subst (IsIn one) (members_full start all es moment) there_one

                of_record : (r : PendingRecord) → r.tx ≡ g.tx
                    → (has_marker_at start logs one r.key r.tx || is_known start logs r.tx) ≡ true → ⊥
                of_record r own marked =
                    which (or_cases (has_marker_at start logs one r.key r.tx) (is_known start logs r.tx) marked)
                  where
                    which : (has_marker_at start logs one r.key r.tx ≡ true) ⊎ (is_known start logs r.tx ≡ true) → ⊥
                    which (inl there_marker) =
                        unmarked none one full r.key
                        (subst (λ v. has_marker_at start logs one r.key v ≡ true) own there_marker)
                    which (inr knows) =
                        true≢false (sym (subst (λ v. is_known start logs v ≡ true) own knows) ∙ unknown none)

                by : (list_any (is_committed_of g.tx) (rows_at start logs one).lqh.rows.pending ≡ true)
                    ⊎ (list_any (is_marker_of g.tx) (rows_at start logs one).lqh.markers ≡ true) → ⊥
                by (inl records) =
                    let r = passing (is_committed_of g.tx) (rows_at start logs one).lqh.rows.pending records in
                    let parts = and_parts _ _ r.is in
                    of_record r.item (same_tx-is r.item.tx g.tx parts.0)
                    (each_in (λ (r : PendingRecord).
                    r.committed ≡ true → (has_marker_at start logs one r.key r.tx || is_known start logs r.tx) ≡ true)
                    r.item
                    (rows_at start logs one).lqh.rows.pending
                    (commits_are_remembered start all es moment one (member_made start all es moment one there_one))
                    r.there
                    parts.1)
                by (inr markers) =
                    let m = passing (is_marker_of g.tx) (rows_at start logs one).lqh.markers markers in
                    unmarked none one full m.item.key
                    (any_in (is_marker g.tx m.item.key) m.item (rows_at start logs one).lqh.markers m.there
                    (ap (λ b. b && same_key m.item.key m.item.key) m.is ∙ same_key-self m.item.key))

            found : has_trace start logs g.tx ≡ true → ⊥
            found is =
                let one =
                passing (λ (m : Member). leave_trace g.tx (rows_at start logs m)) (members_now start logs) is in
                left one.item one.there one.is

        left_is : g.epoch ≡ None → fate start logs g.tx ≡ aborts
        left_is none =
            none_aborts (is_known start logs g.tx) (is_led_by_full start logs g.tx) (is_forth start logs g.tx)
            (is_lost start logs g.tx) (has_trace start logs g.tx) (unknown none) orphan (traceless none)

        whole_is : HasAllKeys start logs g
        whole_is kept unheard key written = by (stood.held g.tx kept unheard key written chosen.one replica)
          where
            chosen : HasOne (chain_of (layout_in start (current start logs)) key)
            chosen =
                has_one (chain_of (layout_in start (current start logs)) key)
                (chains_in start all moment.cluster (current start logs) (moment_installed start all es moment) key)

            replica : IsReplicaOf start logs key chosen.one
            replica = chain_replica start all es moment key chosen.one chosen.there

            by : HoldsImage start logs chosen.one key g.tx → has_key g.keys key ≡ true
            by (by_record r there_record image) =
                each_in (λ (u : Gathered). u.tx ≡ g.tx → has_key u.keys key ≡ true) g gathered
                (told.records chosen.one replica.full g.tx orphan key (ap is_some there_record)) there refl
            by (by_marker marked) =
                (each_in (λ (u : Gathered). u.tx ≡ g.tx → (has_key u.keys key ≡ true) × (u.epoch ≡ None → ⊥)) g gathered
                (told.markers chosen.one replica.full g.tx orphan key marked) there refl).0

      pub all_right : Each (IsRight start (logs_of start es)) (takeover_at start (logs_of start es) member).gathered
      all_right =
          each_from (IsRight start logs) gathered (λ g there. (left_is g there, whole_is g there))
