-- Members have records and markers of transactions alone whose coordinators are of nodes of the cluster, since nobody
-- asks for others.
use Rattle.std.proofs.Common.{◌≡◌, ◌⊎◌, ◌∙◌, ℕ, Bool, true, false, filter, map, List, [], ◌∷◌, inl, inr, refl, sym, ap}
use Rattle.std.proofs.Common.{subst}
use Rattle.std.proofs.lemmas.Bool.{and_from, le-leb, true≢false}
use Rattle.std.specs.Prelude.{is_some, nat_le, Option, None, Some}
use Rattle.std.specs.List.{list_any}
use Rattle.run_theory.specs.Lists.{IsIn}
use Rattle.sig_core.specs.declared.member.Member.{Member}
use Rattle.sig_core.specs.declared.member.TxId.{TxId}
use Rattle.sig_core.specs.declared.rows.PendingRecord.{PendingRecord}
use Rattle.sig_core.specs.declared.view.View.{View}
use Rattle.sig_core.specs.Rows.{is_on, no_rows}
use Rattle.sig_core.specs.Same.{same_tx}
use Rattle.sig_core.proofs.TxLemmas.{same_tx-is}
use Rattle.lqh_block.specs.Commit.{is_marker}
use Rattle.key_laws.specs.Records.{as_committed, found, if_committed, unless_committed, without_epoch}
use Rattle.key_laws.specs.Replica.{at_key}
use Rattle.node_core.specs.Fresh.{own_rows}
use Rattle.node_views.specs.declared.host_body.HostBody as node
use Rattle.node_views.specs.WellFormed.{is_tx}
use Rattle.world_core.specs.Start.{NobodyStarts, Start, made}
use Rattle.world_core.specs.Steps.{HostStep}
use Rattle.world_views.proofs.FreshBodies.{none_pending}
use Rattle.view_laws.proofs.runs.FirstMembers.{node_low, node_some}
use Rattle.moment_laws.specs.Moments.{IsMoment, current, logs_of}
use Rattle.moment_laws.proofs.MomentHosts.{ldm_started}
use Rattle.moment_laws.proofs.MomentMembers.{current_made}
use Rattle.moment_laws.proofs.MomentViews.{moment_less}
use Rattle.outcome_laws.specs.Counts.{coordinator_member}
use Rattle.request_laws.specs.Blocks.{no_replica, rows_in}
use Rattle.request_laws.specs.Routed.{WasAskedIn}
use Rattle.commit_laws.specs.Traces.{has_marker_at, record_at}
use Rattle.commit_laws.proofs.records.KeyGoes.{IsMarkedNow, KeyGoes, RecordGoes, is_aborted, is_committed, is_completed}
use Rattle.commit_laws.proofs.records.KeyGoes.{record_stays}
use Rattle.commit_laws.proofs.records.Moves.{now_by}
use Rattle.commit_laws.proofs.fates.RowsUnasked.{unasked_goes}

module _ (start : Start) (member : Member) (there : IsIn member (made start)) (tx : TxId)
    (off : is_tx start.shape tx ≡ false) (key : List ℕ)
  where
    -- there is nothing of it
    pub record IsUnknown (logs : ℕ → List HostStep) : Type 0 where
      pub record_none : record_at start logs member key tx ≡ None
      pub marker_none : has_marker_at start logs member key tx ≡ false

    first_unknown : NobodyStarts start → IsUnknown (logs_of start [])
    first_unknown nobody = record {
      record_none =
          subst
          (λ (s : node.HostBody). found tx (at_key key (rows_in (no_replica start member) s.parts).lqh).cell.pending
          ≡ None)
          (sym (ldm_started start nobody member there))
          (ap (λ (xs : List PendingRecord). found tx (map without_epoch (filter (is_on key) xs)))
          (none_pending no_rows (own_rows start.shape member.node start.rows) start.start_epoch));
      marker_none =
          ap (λ (s : node.HostBody). list_any (is_marker tx key)
          (rows_in (no_replica start member) s.parts).lqh.markers)
          (ldm_started start nobody member there);
    }

    module _ (all : ℕ → List HostStep) (e : HostStep) (es : List HostStep) (moment : IsMoment start all (e ∷ es)) where
      abbrev old : ℕ → List HostStep
      old = logs_of start es

      abbrev new : ℕ → List HostStep
      new = logs_of start (e ∷ es)

      -- who was asked for has a coordinator of a node of the cluster
      unasked : (view : View) (other : TxId) → view ≡ current start (logs_of start (e ∷ es))
          → WasAskedIn start (logs_of start es) view other → same_tx other tx ≡ false
      unasked view other same was = by (same_tx other tx) refl
        where
          by : (b : Bool) → same_tx other tx ≡ b → b ≡ false
          by false is = refl
          by true own =
              let is_made = current_made start all (e ∷ es) moment (coordinator_member tx)
              (subst (λ v. IsIn (coordinator_member v) (current start new).full) (same_tx-is other tx own)
              (subst (λ (v : View). IsIn (coordinator_member other) v.full) same was.full)) in
              let is : is_tx start.shape tx ≡ true =
              and_from (nat_le 1 tx.tc) (nat_le tx.tc start.shape.nodes)
              (le-leb 1 tx.tc (node_some start moment.cluster.nobody (coordinator_member tx) is_made))
              (le-leb tx.tc start.shape.nodes (node_low start moment.cluster.nobody (coordinator_member tx) is_made)) in
              absurd (true≢false (sym is ∙ off))

      goes : KeyGoes start all e es moment member there key tx
      goes = unasked_goes start all e es moment member there tx unasked key

      unknown_on : IsUnknown (logs_of start es) → IsUnknown (logs_of start (e ∷ es))
      unknown_on was = record {
        record_none = by goes.record_goes;
        marker_none = marked (has_marker_at start new member key tx) refl;
      }
        where
          none_by : (f : PendingRecord → Option PendingRecord)
              → record_at start new member key tx ≡ now_by f (record_at start old member key tx)
              → record_at start new member key tx ≡ None
          none_by f is = is ∙ ap (now_by f) was.record_none

          by : RecordGoes start all e es moment member there key tx → record_at start new member key tx ≡ None
          by (record_stays is) = is ∙ was.record_none
          by (is_committed takes epoch chain at about is) = none_by as_committed is
          by (is_completed takes chain at about is) = none_by unless_committed is
          by (is_aborted takes about is) = none_by if_committed is

          new_marker : (has_marker_at start old member key tx ≡ true)
              ⊎ IsMarkedNow start all e es moment member there key tx → ⊥
          new_marker (inl had) = true≢false (sym had ∙ was.marker_none)
          new_marker (inr marked) =
              let differ : Some marked.commits.prepared ≡ None = sym marked.commits.there ∙ was.record_none in absurd cc

          marked : (b : Bool) → has_marker_at start new member key tx ≡ b → b ≡ false
          marked false is = refl
          marked true is = absurd (new_marker (goes.marker_gives is))

    pub unknown : (all : ℕ → List HostStep) (es : List HostStep) → IsMoment start all es → IsUnknown (logs_of start es)
    unknown all [] moment = first_unknown moment.cluster.nobody
    unknown all (e ∷ es) moment = unknown_on all e es moment (unknown all es (moment_less start all e es moment))

module _ (start : Start) (all : ℕ → List HostStep) (es : List HostStep) (moment : IsMoment start all es)
    (member : Member) (there : IsIn member (made start)) (tx : TxId) (key : List ℕ)
  where
    -- so it is of whom there is a record, and of whom there is a marker
    pub of_record : is_some (record_at start (logs_of start es) member key tx) ≡ true → is_tx start.shape tx ≡ true
    of_record has = by (is_tx start.shape tx) refl
      where
        by : (b : Bool) → is_tx start.shape tx ≡ b → b ≡ true
        by true is = refl
        by false off =
            absurd (true≢false (sym has ∙ ap is_some (unknown start member there tx off key all es moment).record_none))

    pub of_marker : has_marker_at start (logs_of start es) member key tx ≡ true → is_tx start.shape tx ≡ true
    of_marker has = by (is_tx start.shape tx) refl
      where
        by : (b : Bool) → is_tx start.shape tx ≡ b → b ≡ true
        by true is = refl
        by false off =
            absurd (true≢false (sym has ∙ (unknown start member there tx off key all es moment).marker_none))
