-- Whoever is decided up to a closed epoch, and is committed by a member that was full at the closing, takes effect. If
-- it was committed before the closing the member has a trace of it there, so it doesn't abort there; nor does it if it
-- is committed behind the closing, since whoever aborts does so for ever. So it is done at the closing, and was
-- applied.
use Rattle.std.proofs.Common.{◌≡◌, ◌≢◌, ◌≤◌, ◌<◌, ◌⊎◌, ◌||◌, ◌∙◌, ◌++◌, ℕ, Bool, true, false, List, ◌∷◌, refl, sym}
use Rattle.std.proofs.Common.{ap, subst, inl, inr}
use Rattle.std.proofs.lemmas.Bool.{or_cases, or_right}
use Rattle.run_theory.proofs.Pasts.{past_cases, past_less, past_self, past_trans}
use Rattle.run_theory.specs.Lists.{IsIn, IsPast}
use Rattle.sig_core.specs.declared.member.Member.{Member}
use Rattle.sig_core.specs.declared.member.TxId.{TxId}
use Rattle.sig_core.specs.declared.op.Answer.{Answer}
use Rattle.sig_core.specs.declared.op.Op.{Op}
use Rattle.sig_core.specs.declared.view.View.{View}
use Rattle.view_laws.proofs.fences.Ranks.{pasts_compare}
use Rattle.world_core.specs.Start.{Start, made}
use Rattle.world_core.specs.Steps.{HostStep}
use Rattle.moment_laws.proofs.MomentViews.{moment_less}
use Rattle.moment_laws.specs.Moments.{IsMoment, current, logs_of}
use Rattle.outcome_laws.proofs.order.EventsBefore.{moment_before}
use Rattle.outcome_laws.specs.Decided.{IsDecided}
use Rattle.request_laws.proofs.routes.ChainsStay.{any_in}
use Rattle.commit_laws.specs.Commits.{HasWritten, IsKept}
use Rattle.commit_laws.specs.Fates.{aborts, commits, fate, is_led_by_full}
use Rattle.commit_laws.specs.Going.{decided_ops, is_forth, is_lost, is_written_by}
use Rattle.commit_laws.specs.Traces.{has_marker_at, has_trace, is_committed_at, is_committed_by, is_known, leave_trace}
use Rattle.commit_laws.specs.Traces.{members_now, rows_at}
use Rattle.commit_laws.specs.Values.{is_final}
use Rattle.commit_laws.proofs.fates.Cases.{forth_commits, known_commits, not_both, trace_commits}
use Rattle.commit_laws.proofs.fates.Stay.{aborts_stay}
use Rattle.commit_laws.proofs.forth.All.{forth_is_known}
use Rattle.commit_laws.proofs.forth.Grows.{forth_grows, known_grows}
use Rattle.commit_laws.proofs.led.Applied.{applied_are_final}
use Rattle.commit_laws.proofs.settled.All.{all_stand}
use Rattle.commit_laws.proofs.records.Replicas.{members_full}
use Rattle.closing_laws.proofs.settled.Cuts.{goes_on}
use Rattle.closing_laws.proofs.settled.GoneAbort.{StaysDecided, stays_decided}
use Rattle.closing_laws.proofs.settled.Led.{IsDecidedAndDone}
use Rattle.closing_laws.proofs.settled.NoTraces.{leaves_one, trace_stays}
use Rattle.saved_laws.specs.Closings.{Commits, CommittedOnesAreFinal, WasFullAtClosing}
use Rattle.saved_laws.proofs.settled.ClosingViews.{view_kept}
use Rattle.saved_laws.proofs.settled.DoneAtClosings.{decided_past, done_there}
use Rattle.saved_laws.proofs.settled.TakenCommits.{taken_decided, taken_forth, taken_kept, taken_written}

module _ (start : Start) (all : ℕ → List HostStep) (end es newer : List HostStep) (e : HostStep) (epoch : ℕ)
    (member : Member) (begins : start.start_epoch < start.epoch) (last : IsMoment start all end) (past : IsPast es end)
    (there : IsIn member (made start)) (was : WasFullAtClosing start es epoch member) (earlier : IsPast (e ∷ newer) es)
    (tx : TxId) (key : List ℕ) (at : ℕ) (commit : Commits start e newer member tx key at) (low : at ≤ epoch)
  where
    abbrev behind : List HostStep
    behind = was.closing ∷ was.older

    abbrev here : ℕ → List HostStep
    here = logs_of start behind

    -- the moments of the closing and of the commit
    closed : IsPast (was.closing ∷ was.older) es
    closed = record { newer = was.newer; is = was.is }

    moment_es : IsMoment start all es
    moment_es = moment_before start all past.newer es (subst (IsMoment start all) past.is last)

    moment : IsMoment start all (was.closing ∷ was.older)
    moment = moment_before start all was.newer behind (subst (IsMoment start all) was.is moment_es)

    moment_commit : IsMoment start all (e ∷ newer)
    moment_commit = moment_before start all earlier.newer (e ∷ newer) (subst (IsMoment start all) earlier.is moment_es)

    decided : IsDecided start (logs_of start newer) tx at
    decided = taken_decided start all e newer moment_commit member there tx key at commit

    kept : IsKept start (logs_of start newer) tx
    kept = taken_kept start all e newer moment_commit member there tx key at commit

    forth : is_forth start (logs_of start newer) tx ≡ true
    forth = taken_forth start all e newer moment_commit member there tx key at commit

    written : HasWritten start (logs_of start newer) tx key
    written = taken_written start all e newer moment_commit member there tx key at commit

    full : IsIn member (current start (logs_of start (was.closing ∷ was.older))).full
    full =
        subst (λ (v : View). IsIn member v.full)
        (sym (view_kept start all was.closing was.older begins moment epoch was.marked)) was.full

    -- it is applied once it is done, and wrote the key
    applied_final : IsDecidedAndDone start (logs_of start (was.closing ∷ was.older)) tx
        → HasWritten start (logs_of start (was.closing ∷ was.older)) tx key → is_final start end tx ≡ true
    applied_final done wrote =
        applied_are_final forth_is_known all_stand start all end behind
        (record { moment = last; past = past_trans closed past }) tx key (done.done key wrote).applied

    -- the commit comes before the closing
    module _ (before : IsPast (e ∷ newer) (was.closing ∷ was.older)) where
      whole : IsMoment start all (before.newer ++ e ∷ newer)
      whole = subst (IsMoment start all) before.is moment

      part : IsPast newer (was.closing ∷ was.older)
      part = past_less e before

      whole_part : IsMoment start all (part.newer ++ newer)
      whole_part = subst (IsMoment start all) part.is moment

      forth_here : is_forth start (logs_of start (was.closing ∷ was.older)) tx ≡ true
      forth_here =
          subst (λ xs. is_forth start (logs_of start xs) tx ≡ true) (sym part.is)
          (goes_on start all (λ xs. is_forth start (logs_of start xs) tx ≡ true)
          (λ f xs m is. forth_grows start f xs tx is) part.newer newer whole_part forth)

      stays : StaysDecided start tx newer (part.newer ++ newer)
      stays = stays_decided start all part.newer newer whole_part tx kept.decided

      written_here : HasWritten start (logs_of start (was.closing ∷ was.older)) tx key
      written_here =
          subst (λ (ops : List (Op × Answer)). is_written_by ops key ≡ true)
          (sym (ap (λ xs. decided_ops start (logs_of start xs) tx) part.is ∙ stays.ops)) written

      -- the member has a trace of it then, or the client's side knows of it
      left : (leave_trace tx (rows_at start (logs_of start (was.closing ∷ was.older)) member)
          || is_known start (logs_of start (was.closing ∷ was.older)) tx) ≡ true
      left = by (is_known start (logs_of start (e ∷ newer)) tx) refl
        where
          T : List HostStep → Type 0
          T xs = (leave_trace tx (rows_at start (logs_of start xs) member) || is_known start (logs_of start xs) tx)
              ≡ true

          committed : is_committed_at start (logs_of start (e ∷ newer)) member key tx ≡ true
          committed =
              ap (is_committed_by (has_marker_at start (logs_of start (e ∷ newer)) member key tx
              || is_known start (logs_of start (e ∷ newer)) tx)) commit.is_now
              ∙ commit.committed

          by : (b : Bool) → is_known start (logs_of start (e ∷ newer)) tx ≡ b
              → (leave_trace tx (rows_at start (logs_of start (was.closing ∷ was.older)) member)
              || is_known start (logs_of start (was.closing ∷ was.older)) tx) ≡ true
          by true known =
              or_right (leave_trace tx (rows_at start here member)) (is_known start here tx)
              (subst (λ xs. is_known start (logs_of start xs) tx ≡ true) (sym before.is)
              (goes_on start all (λ xs. is_known start (logs_of start xs) tx ≡ true)
              (λ f xs m is. known_grows start f xs tx is) before.newer (e ∷ newer) whole known))
          by false off =
              subst T (sym before.is)
              (trace_stays start all member there tx before.newer (e ∷ newer) whole
              (leaves_one start (logs_of start (e ∷ newer)) member key tx off committed))

      by_trace : leave_trace tx (rows_at start (logs_of start (was.closing ∷ was.older)) member) ≡ true
          → (b : Bool) → is_led_by_full start (logs_of start (was.closing ∷ was.older)) tx ≡ b
          → fate start (logs_of start (was.closing ∷ was.older)) tx ≡ commits
      by_trace trace true led =
          forth_commits (is_known start here tx) (is_led_by_full start here tx) (is_forth start here tx)
          (is_lost start here tx) (has_trace start here tx) led forth_here
      by_trace trace false gone =
          trace_commits (is_known start here tx) (is_led_by_full start here tx) (is_forth start here tx)
          (is_lost start here tx) (has_trace start here tx) gone
          (any_in (λ (m : Member). leave_trace tx (rows_at start here m)) member (members_now start here)
          (subst (IsIn member) (sym (members_full start all behind moment)) full) trace)

      commits_here : fate start (logs_of start (was.closing ∷ was.older)) tx ≡ commits
      commits_here = by (or_cases (leave_trace tx (rows_at start here member)) (is_known start here tx) left)
        where
          by : (leave_trace tx (rows_at start (logs_of start (was.closing ∷ was.older)) member) ≡ true)
              ⊎ (is_known start (logs_of start (was.closing ∷ was.older)) tx ≡ true)
              → fate start (logs_of start (was.closing ∷ was.older)) tx ≡ commits
          by (inl trace) = by_trace trace (is_led_by_full start here tx) refl
          by (inr known) =
              known_commits (is_known start here tx) (is_led_by_full start here tx) (is_forth start here tx)
              (is_lost start here tx) (has_trace start here tx) known

      done_before : IsDecidedAndDone start (logs_of start (was.closing ∷ was.older)) tx
      done_before =
          done_there start all was.closing was.older begins moment epoch was.marked behind moment (past_self behind) tx
          at (decided_past start tx at newer behind part decided) low forth_here
          (λ aborting. not_both (sym commits_here ∙ aborting))

      final_before : is_final start end tx ≡ true
      final_before = applied_final done_before written_here

    -- it comes behind the closing
    module _ (after : IsPast (was.closing ∷ was.older) newer) where
      moment_newer : IsMoment start all newer
      moment_newer = moment_less start all e newer moment_commit

      later : IsMoment start all (after.newer ++ was.closing ∷ was.older)
      later = subst (IsMoment start all) after.is moment_newer

      never_aborts : fate start (logs_of start (was.closing ∷ was.older)) tx ≢ aborts
      never_aborts aborting =
          kept.fate_is
          (subst (λ xs. fate start (logs_of start xs) tx ≡ aborts) (sym after.is)
          (goes_on start all (λ xs. fate start (logs_of start xs) tx ≡ aborts)
          (λ f xs m is. aborts_stay start all f xs m tx is) after.newer behind later aborting))

      done_after : IsDecidedAndDone start (logs_of start (was.closing ∷ was.older)) tx
      done_after =
          done_there start all was.closing was.older begins moment epoch was.marked newer moment_newer after tx at
          decided low forth never_aborts

      remains : StaysDecided start tx (was.closing ∷ was.older) (after.newer ++ was.closing ∷ was.older)
      remains = stays_decided start all after.newer behind later tx done_after.decided

      final_after : is_final start end tx ≡ true
      final_after =
          applied_final done_after
          (subst (λ (ops : List (Op × Answer)). is_written_by ops key ≡ true)
          (ap (λ xs. decided_ops start (logs_of start xs) tx) after.is ∙ remains.ops) written)

    final : is_final start end tx ≡ true
    final = by (pasts_compare behind (e ∷ newer) es closed earlier)
      where
        by_later : (e ∷ newer ≡ was.closing ∷ was.older) ⊎ IsPast (was.closing ∷ was.older) newer
            → is_final start end tx ≡ true
        by_later (inl same) =
            final_before (subst (IsPast (e ∷ newer)) same (past_self (e ∷ newer)))
        by_later (inr after) = final_after after

        by : IsPast (was.closing ∷ was.older) (e ∷ newer) ⊎ IsPast (e ∷ newer) (was.closing ∷ was.older)
            → is_final start end tx ≡ true
        by (inl past) = by_later (past_cases e past)
        by (inr before) = final_before before

pub committed_ones_are_final : CommittedOnesAreFinal
committed_ones_are_final start all end es newer e epoch member begins last past there was earlier tx key at commit low =
    final start all end es newer e epoch member begins last past there was earlier tx key at commit low
