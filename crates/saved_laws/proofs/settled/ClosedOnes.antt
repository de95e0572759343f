-- Where an epoch is closed, whoever was decided up to it and takes effect is committed at each replica that has a
-- record of it: while its record is only prepared it doesn't abort, so it is done.
use Rattle.std.proofs.Common.{◌≡◌, ◌≢◌, ◌≤◌, ◌<◌, ◌||◌, ◌∙◌, ℕ, Bool, true, false, List, ◌∷◌, refl, sym, ap, subst}
use Rattle.std.proofs.lemmas.Bool.{true≢false}
use Rattle.std.specs.Prelude.{Some}
use Rattle.run_theory.proofs.Pasts.{past_less}
use Rattle.run_theory.specs.Lists.{IsIn, IsPast}
use Rattle.key_laws.specs.Records.{found}
use Rattle.key_laws.specs.Replica.{at_key}
use Rattle.frag_map.specs.Layout.{chain_of}
use Rattle.sig_core.specs.declared.mark.Mark.TheVariants.{Closed}
use Rattle.sig_core.specs.declared.member.Member.{Member}
use Rattle.sig_core.specs.declared.member.TxId.{TxId}
use Rattle.sig_core.specs.declared.rows.PendingRecord.{PendingRecord}
use Rattle.sig_core.specs.declared.view.View.{View}
use Rattle.world_core.specs.Start.{Start, made}
use Rattle.world_core.specs.Steps.{HostStep}
use Rattle.moment_laws.proofs.MomentMembers.{current_made}
use Rattle.moment_laws.specs.Moments.{IsMoment, current, logs_of}
use Rattle.outcome_laws.proofs.order.EventsBefore.{moment_before}
use Rattle.outcome_laws.specs.Decided.{IsDecided}
use Rattle.request_laws.specs.Blocks.{rows_after}
use Rattle.request_laws.specs.Routed.{layout_in}
use Rattle.commit_laws.specs.Commits.{HasWritten}
use Rattle.commit_laws.specs.Fates.{aborts, fate}
use Rattle.commit_laws.specs.Traces.{IsReplicaOf, has_marker_at, is_committed_by, is_known, record_at}
use Rattle.commit_laws.specs.Values.{is_final}
use Rattle.commit_laws.proofs.fates.AbortedFinals.{aborted_are_not_final}
use Rattle.commit_laws.proofs.fates.FinalsForth.{finals_are_forth}
use Rattle.commit_laws.proofs.fates.Moves.{fates_move}
use Rattle.commit_laws.proofs.forth.KnownComes.{known_commit}
use Rattle.commit_laws.proofs.hosts.DecidersGo.{deciders_go_on}
use Rattle.commit_laws.proofs.links.Transit.{moments_have_transit}
use Rattle.commit_laws.proofs.settled.All.{all_stand}
use Rattle.closing_laws.proofs.settled.Led.{IsDecidedAndDone}
use Rattle.saved_laws.specs.Closings.{ClosedOnesAreCommitted}
use Rattle.saved_laws.proofs.settled.ClosingViews.{rows_kept, view_kept}
use Rattle.saved_laws.proofs.settled.DoneAtClosings.{decided_past, done_there}

module _ (start : Start) (all : ℕ → List HostStep) (end older : List HostStep) (closing : HostStep) (epoch : ℕ)
    (begins : start.start_epoch < start.epoch) (last : IsMoment start all end) (past : IsPast (closing ∷ older) end)
    (marked : IsIn (Closed epoch) closing.step.marks) (tx : TxId) (at : ℕ)
    (decided : IsDecided start (logs_of start older) tx at) (low : at ≤ epoch)
    (final : is_final start end tx ≡ true) (key : List ℕ) (member : Member)
    (replica : IsReplicaOf start (logs_of start older) key member) (r : PendingRecord)
    (has : record_at start (logs_of start older) member key tx ≡ Some r) (prepared : r.committed ≡ false)
  where
    abbrev here : ℕ → List HostStep
    here = logs_of start (closing ∷ older)

    moment : IsMoment start all (closing ∷ older)
    moment = moment_before start all past.newer (closing ∷ older) (subst (IsMoment start all) past.is last)

    kept_view : current start (logs_of start (closing ∷ older)) ≡ current start (logs_of start older)
    kept_view = view_kept start all closing older begins moment epoch marked

    replica_here : IsReplicaOf start (logs_of start (closing ∷ older)) key member
    replica_here = record {
      full = subst (λ (v : View). IsIn member v.full) (sym kept_view) replica.full;
      chained = subst (λ (v : View). IsIn member (chain_of (layout_in start v) key)) (sym kept_view) replica.chained;
    }

    member_made : IsIn member (made start)
    member_made = current_made start all (closing ∷ older) moment member replica_here.full

    has_here : record_at start (logs_of start (closing ∷ older)) member key tx ≡ Some r
    has_here =
        ap (λ log. found tx (at_key key (rows_after start member log).lqh).cell.pending)
        (rows_kept start all closing older begins moment epoch marked member member_made)
        ∙ has

    -- it doesn't abort
    stays : fate start (logs_of start (closing ∷ older)) tx ≢ aborts
    stays aborting =
        true≢false (sym final
        ∙ aborted_are_not_final all_stand (fates_move known_commit) moments_have_transit deciders_go_on start all end
        (closing ∷ older) (record { moment = last; past = past }) key member replica_here tx aborting
        (record { record_is = r; there = has_here; prepared = prepared }))

    done : IsDecidedAndDone start (logs_of start (closing ∷ older)) tx
    done =
        done_there start all closing older begins moment epoch marked end last past tx at
        (decided_past start tx at older end (past_less closing past) decided) low
        (finals_are_forth start all end last tx final) stays

    written : HasWritten start (logs_of start (closing ∷ older)) tx key
    written =
        ((all_stand start all (closing ∷ older) moment).commits.records tx
        (record { decided = done.decided; fate_is = stays }) member member_made key r has_here).0

    committed_there : r.committed ≡ true
    committed_there =
        subst (λ o. is_committed_by (has_marker_at start here member key tx || is_known start here tx) o ≡ true)
        has_here ((done.done key written).committed member replica_here)

pub closed_ones_are_committed : ClosedOnesAreCommitted
closed_ones_are_committed start all end older closing epoch begins last past marked tx at decided low final key member
    replica r has =
    by r.committed refl
  where
    by : (b : Bool) → r.committed ≡ b → r.committed ≡ true
    by true is = is
    by false is =
        committed_there start all end older closing epoch begins last past marked tx at decided low final key member
        replica r has is
