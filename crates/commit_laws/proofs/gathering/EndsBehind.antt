-- In front of each end that the rows of a full member sent to a takeover they told of each record and marker of orphans
-- that they have when the last member ends: these neither came nor changed since the report began, so it told of each.
use Rattle.std.proofs.Common.{◌≡◌, ◌∙◌, ◌&&◌, ◌||◌, ◌++◌, ℕ, Bool, true, false, cond, filter, map, List, [], ◌∷◌, refl}
use Rattle.std.proofs.Common.{sym, ap, subst}
use Rattle.std.specs.Prelude.{if◌then◌else◌, is_some, Some}
use Rattle.std.specs.List.{list_any}
use Rattle.run_theory.specs.Links.{sent}
use Rattle.run_theory.specs.Lists.{IsIn}
use Rattle.sig_core.specs.declared.member.Member.{Member}
use Rattle.sig_core.specs.declared.member.TxId.{TxId}
use Rattle.sig_core.specs.declared.rows.PendingRecord.{PendingRecord}
use Rattle.sig_core.specs.declared.view.View.{View}
use Rattle.sig_core.specs.Rows.{is_of, is_on}
use Rattle.sig_core.specs.Same.{same_key, same_tx}
use Rattle.takeover_block.proofs.EachTakeover.{is_gathering}
use Rattle.lqh_views.specs.WholeReports.{has_marker, has_record}
use Rattle.lqh_views.proofs.ReportSteps.{MarkerLeft, RecordLeft}
use Rattle.key_laws.specs.Records.{found, without_epoch}
use Rattle.world_core.specs.Start.{Start, made}
use Rattle.world_core.specs.Steps.{Addressed, HostStep}
use Rattle.view_laws.specs.Order.{sound_machine}
use Rattle.moment_laws.specs.Moments.{IsMoment, current, logs_of}
use Rattle.moment_laws.specs.Places.{ldm_of, tc_of}
use Rattle.moment_laws.proofs.MomentMembers.{current_made}
use Rattle.moment_laws.proofs.MomentViews.{moment_less}
use Rattle.request_laws.specs.Orphans.{IsOrphan}
use Rattle.commit_laws.specs.Ruling.{NoneRuled}
use Rattle.commit_laws.specs.Telling.{EndsComeBehind, IsAmong, IsEnd}
use Rattle.commit_laws.specs.Traces.{has_marker_at, record_at, rows_at}
use Rattle.commit_laws.proofs.gathering.Alone.{none_ruled}
use Rattle.commit_laws.proofs.links.TakeoverTold.{AreBehind, HasTold}
use Rattle.commit_laws.proofs.gathering.OrphanStays.{marker_was, record_same}
use Rattle.commit_laws.proofs.gathering.ReportsBehind.{behind}
use Rattle.commit_laws.proofs.gathering.ReportTells.{marker_entry, record_entry}
use Rattle.commit_laws.proofs.orders.Together.{orders_once}
use Rattle.commit_laws.proofs.views.TxNodes.{of_marker, of_record}

-- a transaction has a record on a key, as the key shows it, where one stands among all records
pub record_stands : (tx : TxId) (key : List ℕ) (rs : List PendingRecord)
    → is_some (found tx (map without_epoch (filter (is_on key) rs))) ≡ list_any (is_of tx key) rs
record_stands tx key [] = refl
record_stands tx key (r ∷ rs) = by_key (same_key r.key key) (record_stands tx key rs)
  where
    others : List PendingRecord
    others = filter (is_on key) rs

    Rest : Type 0
    Rest = is_some (found tx (map without_epoch (filter (is_on key) rs))) ≡ list_any (is_of tx key) rs

    own : (b : Bool) → Rest
        → is_some (if b then Some (without_epoch r) else found tx (map without_epoch others))
        ≡ ((b && true) || list_any (is_of tx key) rs)
    own true rest = refl
    own false rest = rest

    off : (b : Bool) → Rest
        → is_some (found tx (map without_epoch others)) ≡ ((b && false) || list_any (is_of tx key) rs)
    off true rest = rest
    off false rest = rest

    by_key : (b : Bool) → Rest
        → is_some (found tx (map without_epoch (cond b (r ∷ others) others)))
        ≡ ((same_tx r.tx tx && b) || list_any (is_of tx key) rs)
    by_key true rest = own (same_tx r.tx tx) rest
    by_key false rest = off (same_tx r.tx tx) rest

-- what is older than an end was told before it
fronted : (tx : TxId) (key : List ℕ) (Marked : Type 0) (number : ℕ) (y : Addressed) (newer older : List Addressed)
    → AreBehind tx key Marked number (newer ++ y ∷ older)
    → AreBehind tx key Marked number (y ∷ older)
fronted tx key Marked number y [] older are = are
fronted tx key Marked number y (z ∷ newer) older are = fronted tx key Marked number y newer older are.1

module _ (start : Start) (all : ℕ → List HostStep) (es : List HostStep) (moment : IsMoment start all es)
    (none : NoneRuled start es) (one : Member) (there : IsIn one (made start)) (tx : TxId)
    (orphan : IsOrphan (current start (logs_of start es)) tx) (key : List ℕ)
  where
    abbrev view : View
    view = current start (logs_of start es)

    -- it had the record before, and the marker
    had_record : (e : HostStep) (older : List HostStep) → IsMoment start all (e ∷ older) → NoneRuled start (e ∷ older)
        → current start (logs_of start (e ∷ older)) ≡ current start (logs_of start es)
        → has_record tx key (rows_at start (logs_of start (e ∷ older)) one) ≡ true
        → has_record tx key (rows_at start (logs_of start older) one) ≡ true
    had_record e older at_then rests same has =
        sym (record_stands tx key (rows_at start (logs_of start older) one).lqh.rows.pending)
        ∙ (ap is_some (sym (record_same start all e older at_then rests one there tx
        (subst (λ (v : View). IsOrphan v tx) (sym same) orphan) key))
        ∙ (record_stands tx key (rows_at start (logs_of start (e ∷ older)) one).lqh.rows.pending ∙ has))

    had_marker : (e : HostStep) (older : List HostStep) → IsMoment start all (e ∷ older) → NoneRuled start (e ∷ older)
        → current start (logs_of start (e ∷ older)) ≡ current start (logs_of start es)
        → has_marker tx key (rows_at start (logs_of start (e ∷ older)) one) ≡ true
        → has_marker tx key (rows_at start (logs_of start older) one) ≡ true
    had_marker e older at_then rests same has =
        marker_was start all e older at_then rests one there tx (subst (λ (v : View). IsOrphan v tx) (sym same) orphan)
        key
        has

    module _ (j : ℕ) (y : Addressed) (newer older : List Addressed)
        (is : sent (sound_machine start) (ldm_of start one) j (logs_of start es (ldm_of start one))
        ≡ newer ++ y ∷ older)
        (ends : IsEnd start (logs_of start es) y)
      where
        among : (Marked : Type 0)
            → AreBehind tx key Marked (current start (logs_of start es)).number
            (sent (sound_machine start) (ldm_of start one) j (logs_of start es (ldm_of start one)))
            → IsAmong start (logs_of start es) tx key Marked older
        among Marked are =
            let own = fronted tx key Marked view.number y newer older
            (subst (AreBehind tx key Marked view.number) is are) in
            let told : HasTold tx key Marked view.number older = own.0 ends.body ends.number in
            record {
              signal = told.signal;
              there = told.there;
              telling = record {
                told = told.is.state;
                epoch = told.is.epoch;
                body = told.is.body;
                number = told.is.number_is;
              };
              committed = told.is.committed;
            }

        pub record_told : is_some (record_at start (logs_of start es) one key tx) ≡ true
            → IsAmong start (logs_of start es) tx key ⊥ older
        record_told has =
            among ⊥
            ((behind start all one there view tx orphan (of_record start all es moment one there tx key has) key ⊥
            (has_record tx key) (RecordLeft tx key) (record_entry tx key) had_record es moment none refl
            (sym (record_stands tx key (rows_at start (logs_of start es) one).lqh.rows.pending) ∙ has)).ends_behind j)

        pub marker_told : has_marker_at start (logs_of start es) one key tx ≡ true
            → IsAmong start (logs_of start es) tx key (Unit {0}) older
        marker_told has =
            among (Unit {0})
            ((behind start all one there view tx orphan (of_marker start all es moment one there tx key has) key
            (Unit {0}) (has_marker tx key) (MarkerLeft tx key) (marker_entry tx key) had_marker es moment none refl
            has).ends_behind j)

pub ends_come_behind : EndsComeBehind
ends_come_behind start all e es moment member closing one full y newer older is ends tx orphan key = (
  record_told start all es less none one there tx orphan key (tc_of start member) y newer older is ends,
  marker_told start all es less none one there tx orphan key (tc_of start member) y newer older is ends,
)
  where
    less : IsMoment start all es
    less = moment_less start all e es moment

    there : IsIn one (made start)
    there = current_made start all es less one full

    none : NoneRuled start es
    none =
        none_ruled orders_once start all es less member closing.made_is (ap (λ (v : View). v.number) closing.stands)
        (ap is_gathering closing.gathers) tx orphan
