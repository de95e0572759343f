-- What stands of commits before the first event: there are none.
use Rattle.std.proofs.Common.{◌≡◌, ◌∙◌, ℕ, false, filter, map, List, [], sym, ap}
use Rattle.std.proofs.lemmas.Bool.{true≢false}
use Rattle.std.specs.Prelude.{None, Some}
use Rattle.std.specs.List.{list_any}
use Rattle.run_theory.specs.Lists.{IsIn}
use Rattle.sig_core.specs.declared.member.Member.{Member}
use Rattle.sig_core.specs.declared.member.TxId.{TxId}
use Rattle.sig_core.specs.declared.rows.PendingRecord.{PendingRecord}
use Rattle.sig_core.specs.Rows.{is_on, no_rows}
use Rattle.lqh_block.specs.Commit.{is_marker}
use Rattle.node_core.specs.Fresh.{own_rows}
use Rattle.node_views.specs.declared.host_body.HostBody as node
use Rattle.key_laws.specs.Records.{found, without_epoch}
use Rattle.key_laws.specs.Replica.{at_key}
use Rattle.world_core.specs.Start.{NobodyStarts, Start, made}
use Rattle.world_core.specs.Steps.{HostStep}
use Rattle.moment_laws.specs.Moments.{IsMoment, logs_of}
use Rattle.moment_laws.proofs.MomentHosts.{ldm_started}
use Rattle.request_laws.specs.Blocks.{no_replica, rows_in}
use Rattle.commit_laws.specs.Commits.{CommitsStand, LeavesTraceOn, committed_there, marked_there}
use Rattle.commit_laws.specs.Traces.{has_marker_at, record_at}
use Rattle.world_views.proofs.FreshBodies.{none_pending}
use Rattle.commit_laws.proofs.records.Replicas.{member_made}

module _ (start : Start) where
  abbrev none : ℕ → List HostStep
  none = logs_of start []

  module _ (nobody : NobodyStarts start) (member : Member) (there : IsIn member (made start)) (key : List ℕ) (tx : TxId)
    where
      no_record : record_at start none member key tx ≡ None
      no_record =
          ap (λ (s : node.HostBody). found tx (at_key key (rows_in (no_replica start member) s.parts).lqh).cell.pending)
          (ldm_started start nobody member there)
          ∙ ap (λ (xs : List PendingRecord). found tx (map without_epoch (filter (is_on key) xs)))
          (none_pending no_rows (own_rows start.shape member.node start.rows) start.start_epoch)

      no_marker : has_marker_at start none member key tx ≡ false
      no_marker =
          ap (λ (s : node.HostBody). list_any (is_marker tx key)
          (rows_in (no_replica start member) s.parts).lqh.markers) (ldm_started start nobody member there)

      not_there : (r : PendingRecord) → record_at start none member key tx ≡ Some r → ⊥
      not_there r is = let both : None ≡ Some r = sym no_record ∙ is in cc

      no_trace : LeavesTraceOn start none member key tx → ⊥
      no_trace (committed_there r is done) = not_there r is
      no_trace (marked_there on) = true≢false (sym on ∙ no_marker)

  pub first_commits : (all : ℕ → List HostStep) → IsMoment start all [] → CommitsStand start (logs_of start [])
  first_commits all moment = record {
    held = λ tx kept unknown key written member replica. absurd (true≢false (sym kept.decided));
    records = λ tx kept member there key r is. absurd (true≢false (sym kept.decided));
    written = λ tx member there key trace. absurd (no_trace moment.cluster.nobody member there key tx trace);
    commits = λ i j. tt;
    done = λ i j. tt;
    applied = λ tx key is. absurd is.marked;
    alone = λ member among key tx on record_none.
        absurd (no_trace moment.cluster.nobody member (member_made start all [] moment member among) key tx
        (marked_there on));
    let_go = λ member among key tx r is done off.
        absurd (not_there moment.cluster.nobody member (member_made start all [] moment member among) key tx r is);
    prepared = λ member among key tx r is still.
        absurd (not_there moment.cluster.nobody member (member_made start all [] moment member among) key tx r is);
    known = λ tx is. absurd (true≢false (sym is));
  }
