-- When the last member ends, a takeover was told of each commit of which any member knows.
use Rattle.std.proofs.Common.{◌≡◌, ◌⊎◌, ◌∙◌, ◌||◌, ◌&&◌, ℕ, Bool, true, false, List, [], ◌∷◌, inl, inr, refl, ap, subst}
use Rattle.std.proofs.lemmas.Bool.{and_parts, or_cases}
use Rattle.std.specs.List.{list_any}
use Rattle.run_theory.specs.Lists.{IsIn}
use Rattle.run_theory.proofs.Pasts.{each_in}
use Rattle.sig_core.specs.declared.member.Member.{Member}
use Rattle.sig_core.specs.declared.member.TxId.{TxId}
use Rattle.sig_core.specs.declared.rows.PendingRecord.{PendingRecord}
use Rattle.sig_core.specs.declared.view.View.{View}
use Rattle.sig_core.specs.Same.{same_key}
use Rattle.sig_core.proofs.Keys.{same_key-self}
use Rattle.sig_core.proofs.TxLemmas.{same_tx-is}
use Rattle.lqh_block.specs.Commit.{is_marker}
use Rattle.takeover_block.specs.declared.gathered.Gathered.{Gathered}
use Rattle.takeover_block.proofs.EachTakeover.{is_gathering}
use Rattle.world_core.specs.Start.{Start}
use Rattle.world_core.specs.Steps.{HostStep}
use Rattle.moment_laws.specs.Moments.{IsMoment, current, logs_of}
use Rattle.moment_laws.specs.Places.{ldm_of}
use Rattle.moment_laws.proofs.MomentViews.{moment_less}
use Rattle.request_laws.specs.Orphans.{IsOrphan}
use Rattle.request_laws.proofs.routes.ChainsStay.{any_in}
use Rattle.commit_laws.proofs.gathering.TellingsGathered.{closing_runs}
use Rattle.commit_laws.specs.Fates.{is_led_by_full}
use Rattle.commit_laws.specs.Gathering.{EndsGathering}
use Rattle.commit_laws.specs.Going.{is_forth, is_lost}
use Rattle.commit_laws.specs.Reported.{GatheringsList, IsListed, IsSaid, aborted, known}
use Rattle.commit_laws.specs.Takeovers.{takeover_at}
use Rattle.commit_laws.specs.Telling.{AllHaveEnded, EndsComeBehind, OrdersComeFirst, TellingsAreGathered}
use Rattle.commit_laws.specs.Traces.{has_marker_at, has_trace, is_committed_of, is_known, is_marker_of, leave_trace}
use Rattle.commit_laws.specs.Traces.{members_now, rows_at}
use Rattle.commit_laws.proofs.fates.Cases.{none_aborts}
use Rattle.commit_laws.proofs.gathering.Whole.{fronted, tells}
use Rattle.commit_laws.proofs.markers.All.{commits_are_remembered}
use Rattle.commit_laws.proofs.hosts.SomePasses.{passing}
use Rattle.commit_laws.proofs.records.Replicas.{member_made, members_full}
use Rattle.commit_laws.proofs.gathering.TellingsNoted.{tellings_noted}
use Rattle.commit_laws.proofs.gathering.TellingsPlaced.{tellings_are_for_takeovers}

module _ (behind : EndsComeBehind) (ended : AllHaveEnded) (told : TellingsAreGathered) (first : OrdersComeFirst)
    (start : Start) (all : ℕ → List HostStep) (e : HostStep) (es : List HostStep) (moment : IsMoment start all (e ∷ es))
    (member : Member) (closing : EndsGathering start e es member) (tx : TxId)
    (orphan : IsOrphan (current start (logs_of start es)) tx)
  where
    abbrev old : ℕ → List HostStep
    old = logs_of start es

    abbrev gathered : List Gathered
    gathered = (takeover_at start (logs_of start es) member).gathered

    less : IsMoment start all es
    less = moment_less start all e es moment

    -- whoever has a marker at a full member is listed
    marked : (one : Member) → IsIn one (current start old).full → (key : List ℕ)
        → has_marker_at start old one key tx ≡ true
        → IsListed tx gathered
    marked one full key is =
        let front = fronted behind ended told start all e es moment member closing one full in
        let among = (tells behind ended told start all e es moment member closing one full tx orphan key).1 is in
        let noted =
        tellings_noted first tellings_are_for_takeovers start all es less member closing.made_is
        (ap (λ (v : View). v.number) closing.stands) (closing_runs start all e es moment member closing)
        (ldm_of start one) among.signal
        (front.before among.signal among.there) tx key among.telling (ap is_gathering closing.gathers) in
        record {
          entry = noted.entry;
          there = noted.there;
          own = noted.same;
          committed = noted.committed (among.committed tt);
        }

    -- and so is whoever left a trace, unless it is known
    traced : (one : Member) → IsIn one (members_now start old) → leave_trace tx (rows_at start old one) ≡ true
        → IsSaid start old tx [] ⊎ IsListed tx gathered
    traced one there is =
        by (or_cases (list_any (is_committed_of tx) (rows_at start old one).lqh.rows.pending)
        (list_any (is_marker_of tx) (rows_at start old one).lqh.markers) is)
      where
        full : IsIn one (current start old).full
        full = subst (IsIn one) (members_full start all es less) there

        of_record : (r : PendingRecord) → r.tx ≡ tx
            → (has_marker_at start old one r.key r.tx || is_known start old r.tx) ≡ true
            → IsSaid start old tx [] ⊎ IsListed tx gathered
        of_record r own remembered =
            which (or_cases (has_marker_at start old one r.key r.tx) (is_known start old r.tx) remembered)
          where
            which : (has_marker_at start old one r.key r.tx ≡ true) ⊎ (is_known start old r.tx ≡ true)
                → IsSaid start old tx [] ⊎ IsListed tx gathered
            which (inl marker) =
                inr (marked one full r.key (subst (λ v. has_marker_at start old one r.key v ≡ true) own marker))
            which (inr knows) = inl (known (subst (λ v. is_known start old v ≡ true) own knows))

        by : (list_any (is_committed_of tx) (rows_at start old one).lqh.rows.pending ≡ true)
            ⊎ (list_any (is_marker_of tx) (rows_at start old one).lqh.markers ≡ true)
            → IsSaid start old tx [] ⊎ IsListed tx gathered
        by (inl records) =
            let r = passing (is_committed_of tx) (rows_at start old one).lqh.rows.pending records in
            let parts = and_parts _ _ r.is in
            of_record r.item (same_tx-is r.item.tx tx parts.0)
            (each_in (λ (q : PendingRecord).
            q.committed ≡ true → (has_marker_at start old one q.key q.tx || is_known start old q.tx) ≡ true) r.item
            (rows_at start old one).lqh.rows.pending
            (commits_are_remembered start all es less one (member_made start all es less one there)) r.there parts.1)
        by (inr markers) =
            let m = passing (is_marker_of tx) (rows_at start old one).lqh.markers markers in
            inr (marked one full m.item.key
            (any_in (is_marker tx m.item.key) m.item (rows_at start old one).lqh.markers m.there
            (ap (λ b. b && same_key m.item.key m.item.key) m.is ∙ same_key-self m.item.key)))

    listed : IsSaid start (logs_of start es) tx [] ⊎ IsListed tx (takeover_at start (logs_of start es) member).gathered
    listed = by (is_known start old tx) refl (has_trace start old tx) refl
      where
        by : (k : Bool) → is_known start old tx ≡ k → (t : Bool) → has_trace start old tx ≡ t
            → IsSaid start old tx [] ⊎ IsListed tx gathered
        by true knows t is = inl (known knows)
        by false unknown true is =
            let one = passing (λ (m : Member). leave_trace tx (rows_at start old m)) (members_now start old) is in
            traced one.item one.there one.is
        by false unknown false is =
            inl (aborted (none_aborts (is_known start old tx) (is_led_by_full start old tx) (is_forth start old tx)
            (is_lost start old tx) (has_trace start old tx) unknown orphan is))

pub gatherings_list : EndsComeBehind → AllHaveEnded → TellingsAreGathered → OrdersComeFirst → GatheringsList
gatherings_list behind ended told first start all e es moment member closing tx orphan =
    listed behind ended told first start all e es moment member closing tx orphan
