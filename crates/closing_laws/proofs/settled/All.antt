-- Closed epochs stay closed: where an epoch is closed, whoever has it, or one before it, and takes effect in a later
-- cut, is decided and done, or aborts for ever.
use Rattle.std.proofs.Common.{◌≡◌, ◌≤◌, ◌<◌, ◌⊎◌, ◌&&◌, ◌∙◌, ◌++◌, ℕ, Bool, true, false, List, [], ◌∷◌, eq-eqb, refl}
use Rattle.std.proofs.Common.{sym, ap, subst, inl, inr, arith}
use Rattle.std.proofs.lemmas.Bool.{cases_lt, true≢false}
use Rattle.std.specs.List.{list_any}
use Rattle.run_theory.proofs.Pasts.{past_nil, past_self}
use Rattle.run_theory.specs.Cuts.{IsCut}
use Rattle.run_theory.specs.Lists.{IsIn, IsPast}
use Rattle.frag_map.specs.Layout.{first_layout, members}
use Rattle.lqh_block.specs.Views.{was_begun_by}
use Rattle.sig_core.proofs.Keys.{same_tx-self}
use Rattle.sig_core.specs.declared.entry.Entry.{Entry}
use Rattle.sig_core.specs.declared.mark.Mark.TheVariants.{Closed, Decided, Durable}
use Rattle.sig_core.specs.declared.member.Member.{Member}
use Rattle.sig_core.specs.declared.member.TxId.{TxId}
use Rattle.sig_core.specs.declared.op.Answer.{Answer}
use Rattle.sig_core.specs.declared.op.Op.{Op}
use Rattle.sig_core.specs.declared.view.View.{View}
use Rattle.sig_core.specs.Same.{same_tx}
use Rattle.world_core.proofs.MadeFirst.{made_begins}
use Rattle.world_core.specs.Entries.{entries}
use Rattle.world_core.specs.History.{history, is_done, is_kept, writes}
use Rattle.world_core.specs.Hosts.{hosts}
use Rattle.world_core.specs.Start.{Start, made}
use Rattle.world_core.specs.Steps.{HostStep}
use Rattle.view_laws.proofs.runs.AllSound.{have_orderly}
use Rattle.view_laws.proofs.runs.Step.{started_view}
use Rattle.view_laws.proofs.runs.ChosenViews.{one_view}
use Rattle.view_laws.specs.Runs.{AreOfCluster}
use Rattle.moment_laws.proofs.MomentMembers.{current_made}
use Rattle.moment_laws.proofs.MomentRuns.{are_moments}
use Rattle.moment_laws.proofs.MomentViews.{IsSome, current_installed, current_is, first_below, moment_installed}
use Rattle.moment_laws.specs.Moments.{IsMoment, current, logs_of}
use Rattle.moment_laws.specs.Places.{tc_of}
use Rattle.outcome_laws.proofs.knowledge.CommitsWereDecided.{decided_entry}
use Rattle.outcome_laws.proofs.once.DecidedOnce.{decided_once}
use Rattle.outcome_laws.proofs.order.EventsBefore.{moment_before}
use Rattle.outcome_laws.proofs.order.BeforeInLists.{kept_in}
use Rattle.outcome_laws.specs.Counts.{coordinator_member}
use Rattle.outcome_laws.specs.Decided.{IsMarked}
use Rattle.epoch_laws.specs.Members.{IsFirst, IsPresident}
use Rattle.request_laws.proofs.routes.ChainsStay.{any_in}
use Rattle.commit_laws.proofs.led.Entries.{one_entry}
use Rattle.commit_laws.specs.Commits.{HasWritten}
use Rattle.commit_laws.specs.Fates.{Fate, aborts, commits, fate, fate_if, is_led_by_full, undetermined}
use Rattle.commit_laws.specs.Going.{decided_ops, is_decided, is_forth, is_lost, is_written_by}
use Rattle.commit_laws.specs.Traces.{IsApplied, has_trace, is_known}
use Rattle.commit_laws.proofs.fates.Committed.{IsDecidedAt, decided_at, forth_made}
use Rattle.commit_laws.proofs.forth.DecidedStay.{applied_more, forth_decided}
use Rattle.commit_laws.proofs.fates.Forth.{fate_decided}
use Rattle.commit_laws.proofs.fates.FinalsForth.{HasFinalEntry, IsFinalBy, applied_forth, by_report, by_write, final_by}
use Rattle.closing_laws.specs.Closed.{ClosersHaveHeardAll, DurableWereClosed, IsClosedBy, IsOver, WasClosed}
use Rattle.closing_laws.specs.Ended.{ForgottenAreDone, UncountedAreForgotten}
use Rattle.closing_laws.specs.Over.{LeavesNone, OverLeavesNone}
use Rattle.closing_laws.specs.Stays.{ClosedStayClosed}
use Rattle.closing_laws.proofs.settled.Cuts.{cut_moment, events_of, goes_on, logs_are, marks_at}
use Rattle.closing_laws.proofs.settled.GoneAbort.{StaysDecided, never_applied, stays_decided}
use Rattle.closing_laws.proofs.settled.Histories.{WritesOne, in_entries, own_ops, stays_in, writes_one}
use Rattle.closing_laws.proofs.settled.Led.{IsDecidedAndDone, done_where_led}
use Rattle.closing_laws.proofs.settled.TwoRuns.{comes_also}

-- whoever has no full coordinator commits or aborts
determined : (known full forth lost trace : Bool) → full ≡ false → fate_if known full forth lost trace ≡ undetermined
    → ⊥
determined true full forth lost trace gone is = absurd cc
determined false true forth lost trace gone is = true≢false gone
determined false false forth lost true gone is = absurd cc
determined false false forth lost false gone is = absurd cc

-- the president of the current view was made
president_made : (start : Start) (all : ℕ → List HostStep) (es : List HostStep) → IsMoment start all es
    → (member : Member) → IsPresident start (logs_of start es) member → IsIn member (made start)
president_made start all es moment member is =
    current_made start all es moment member (by (current start (logs_of start es)).full is)
  where
    by : (members : List Member) → IsFirst member members → IsIn member members
    by [] is = absurd is
    by (first ∷ members) is = inl is

-- a greater cut, and who takes effect in it
module _ (start : Start) (large : ℕ → List HostStep) (more : AreOfCluster start large) (z : Entry)
    (there : IsIn z (history (hosts start) large)) (wrote : writes z ≡ true)
  where
    abbrev end : List HostStep
    end = events_of start large

    last : IsMoment start large (events_of start large)
    last = are_moments start large more

    last_logs : logs_of start end ≡ large
    last_logs = logs_are start large more

    among : IsIn z (entries (hosts start) large)
    among = (kept_in (is_kept (hosts start) large) z (entries (hosts start) large) there).there

    final : HasFinalEntry start (events_of start large) z.tx
    final = record {
      entry = z;
      tx_is = refl;
      kept =
          subst (λ (logs : ℕ → List HostStep). is_kept (hosts start) logs z ≡ true) (sym last_logs)
          (kept_in (is_kept (hosts start) large) z (entries (hosts start) large) there).passes;
    }

    -- it was applied
    record IsAppliedThere : Type 0 where
      key : List ℕ
      applied : IsApplied start (logs_of start (events_of start large)) z.tx key

    applied_there : IsAppliedThere
    unfolding final
    applied_there = by (final_by start large end last z.tx final)
      where
        by : IsFinalBy start (events_of start large) z.tx z → IsAppliedThere
        by (by_write is key applied) = record { key = key; applied = applied }
        by (by_report none h has) = absurd (true≢false (sym wrote ∙ none))

    forth : is_forth start (logs_of start (events_of start large)) z.tx ≡ true
    forth = applied_forth start large end last z.tx applied_there.key applied_there.applied

    decided : is_decided start (logs_of start (events_of start large)) z.tx ≡ true
    decided = forth_decided start large end last z.tx forth

    coordinator_made : IsIn (coordinator_member z.tx) (made start)
    coordinator_made = forth_made start large end last z.tx forth

    -- with some key that it wrote
    wrote_one : WritesOne (decided_ops start (logs_of start (events_of start large)) z.tx)
    wrote_one =
        writes_one (decided_ops start (logs_of start end) z.tx)
        (subst (λ (ops : List (Op × Answer)). list_any (λ (op : Op × Answer). is_done op.1) ops ≡ true)
        (own_ops start large large more more (λ h. past_self (large h)) z among decided) wrote)

    -- in its own epoch, once
    at_epoch : (epoch : ℕ)
        → IsMarked (Decided z.tx epoch) (logs_of start (events_of start large) (tc_of start (coordinator_member z.tx)))
        → epoch ≡ z.epoch
    at_epoch epoch marked =
        let has = decided_entry start z.tx epoch (tc_of start (coordinator_member z.tx)) end marked in
        let same =
        one_entry (entries (hosts start) large) has.entry z (decided_once start large more)
        (in_entries start large large more more (λ h. past_self (large h)) has.entry has.there) among
        (ap (λ (t : TxId). same_tx t z.tx) has.tx_is ∙ same_tx-self z.tx) in
        sym has.epoch_is ∙ ap (λ (b : Entry). b.epoch) same

    own : IsDecidedAt (logs_of start (events_of start large) (tc_of start (coordinator_member z.tx))) z.tx
    own = decided_at (logs_of start end (tc_of start (coordinator_member z.tx))) z.tx decided

    -- a lesser cut, with the event that closes the epoch
    module _ (uncounted : UncountedAreForgotten) (forgotten : ForgottenAreDone) (leaves : OverLeavesNone)
        (small : ℕ → List HostStep) (begins : start.start_epoch < start.epoch) (less : AreOfCluster start small)
        (cut : IsCut small large)
        (epoch : ℕ) (low : z.epoch ≤ epoch) (newer : List HostStep) (e : HostStep) (older : List HostStep)
        (is : events_of start small ≡ newer ++ e ∷ older) (member : Member)
        (closed : IsClosedBy start e (logs_of start (e ∷ older)) epoch member)
        (member_made : IsIn member (made start))
      where
        abbrev es : List HostStep
        es = e ∷ older

        at : IsMoment start large (e ∷ older)
        at =
            moment_before start large newer (e ∷ older)
            (subst (IsMoment start large) is (cut_moment start small large less more cut))

        part : (h : ℕ) → IsPast (logs_of start (e ∷ older) h) (logs_of start (events_of start large) h)
        part h =
            subst (λ (logs : ℕ → List HostStep). IsPast (logs_of start (e ∷ older) h) (logs h)) (sym last_logs)
            (at.inside h)

        -- whoever is decided and done there is in the history of the lesser cut
        from_done : IsDecidedAndDone start (logs_of start (e ∷ older)) z.tx → IsIn z (history (hosts start) small)
        from_done has =
            stays_in start small large less more cut z among decided_small one.key
            (subst (λ xs. IsApplied start (logs_of start xs) z.tx one.key) (sym is)
            (goes_on start large (λ xs. IsApplied start (logs_of start xs) z.tx one.key)
            (λ f xs moment was. applied_more start large f xs moment z.tx one.key was) newer es whole
            (has.done one.key written).applied))
          where
            whole : IsMoment start large (newer ++ e ∷ older)
            whole = subst (IsMoment start large) is (cut_moment start small large less more cut)

            stays : StaysDecided start z.tx (e ∷ older) (newer ++ e ∷ older)
            stays = stays_decided start large newer es whole z.tx has.decided

            decided_small : is_decided start (logs_of start (events_of start small)) z.tx ≡ true
            decided_small = subst (λ xs. is_decided start (logs_of start xs) z.tx ≡ true) (sym is) stays.decided

            one : WritesOne (decided_ops start (logs_of start (events_of start small)) z.tx)
            one =
                writes_one (decided_ops start (logs_of start (events_of start small)) z.tx)
                (subst (λ (ops : List (Op × Answer)). list_any (λ (op : Op × Answer). is_done op.1) ops ≡ true)
                (own_ops start small large less more cut z among decided_small) wrote)

            written : HasWritten start (logs_of start (e ∷ older)) z.tx one.key
            written =
                subst (λ (ops : List (Op × Answer)). is_written_by ops one.key ≡ true)
                (ap (λ xs. decided_ops start (logs_of start xs) z.tx) is ∙ stays.ops) one.written

        by_led : is_led_by_full start (logs_of start (e ∷ older)) z.tx ≡ true → IsIn z (history (hosts start) small)
        by_led led =
            from_done
            (done_where_led uncounted forgotten start large begins es end at last part epoch closed.ended z.tx led
            own.epoch own.marked (λ a b one other. at_epoch a one ∙ sym (at_epoch b other))
            (let same = at_epoch own.epoch own.marked in omega (arith, same, low)) forth)

        module _ (gone : is_led_by_full start (logs_of start (e ∷ older)) z.tx ≡ false) where
          -- in the first view all are full
          not_first : current start (logs_of start (e ∷ older)) ≡ (first_layout start.shape).view → ⊥
          not_first same =
              true≢false (sym (ap (λ (v : View). list_any (was_begun_by z.tx) v.full) same
              ∙ any_in (was_begun_by z.tx) (coordinator_member z.tx) (members start.shape.nodes)
              (made_begins start less.nobody (coordinator_member z.tx) coordinator_made)
              (λ i. eq-eqb z.tx.tc z.tx.tc refl i && eq-eqb z.tx.start z.tx.start refl i)) ∙ gone)

          first_is : current start (logs_of start []) ≡ (first_layout start.shape).view
          first_is = by (current start (logs_of start [])) (current_is start (logs_of start []) less.nobody)
            where
              by : (view : View) → IsSome start (logs_of start []) (hosts start) view
                  → view ≡ (first_layout start.shape).view
              by view (inl first) = first
              by view (inr one) = one.is ∙ started_view start less.nobody one.host

          above : (current start (logs_of start [])).number < (current start (logs_of start (e ∷ older))).number
          above =
              by
              (cases_lt (current start (logs_of start [])).number (current start (logs_of start es)).number)
            where
              by : ((current start (logs_of start [])).number < (current start (logs_of start (e ∷ older))).number)
                  ⊎ ((current start (logs_of start (e ∷ older))).number ≤ (current start (logs_of start [])).number)
                  → (current start (logs_of start [])).number < (current start (logs_of start (e ∷ older))).number
              by (inl up) = up
              by (inr no_more) =
                  let first = first_below start (logs_of start es) less.nobody in
                  let number = ap (λ (v : View). v.number) first_is in
                  absurd (not_first
                  (one_view have_orderly start large more (current start (logs_of start es))
                  (current start (logs_of start [])) (moment_installed start large es at)
                  (current_installed start (logs_of start []) less.nobody more.shape large (λ h. past_nil (large h)))
                  (omega (arith, first, number, no_more))
                  ∙ first_is))

          none : LeavesNone start (logs_of start (e ∷ older))
          none = by closed.over
            where
              by : (current start (logs_of start (e ∷ older)) ≡ (first_layout start.shape).view)
                  ⊎ IsOver start (logs_of start (e ∷ older)) member → LeavesNone start (logs_of start (e ∷ older))
              by (inl first) = absurd (not_first first)
              by (inr over) = leaves start large es at member member_made over

          by_fate : (f : Fate) → fate start (logs_of start (e ∷ older)) z.tx ≡ f → IsIn z (history (hosts start) small)
          by_fate undetermined fate_is =
              let logs = logs_of start es in
              absurd (determined (is_known start logs z.tx) (is_led_by_full start logs z.tx) (is_forth start logs z.tx)
              (is_lost start logs z.tx) (has_trace start logs z.tx) gone fate_is)
          by_fate commits fate_is =
              from_done (record {
                decided = fate_decided start large es at z.tx fate_is;
                done = none.done z.tx gone fate_is;
              })
          by_fate aborts fate_is =
              absurd (never_applied start large es end at last
              (comes_also start large es end at last part above none.stand) z.tx gone fate_is wrote_one.key
              wrote_one.written applied_there.key applied_there.applied)

          by_gone : IsIn z (history (hosts start) small)
          by_gone = by_fate (fate start (logs_of start es) z.tx) refl

        stays_there : IsIn z (history (hosts start) small)
        stays_there = by (is_led_by_full start (logs_of start es) z.tx) refl
          where
            by : (b : Bool) → is_led_by_full start (logs_of start (e ∷ older)) z.tx ≡ b
                → IsIn z (history (hosts start) small)
            by true led = by_led led
            by false gone = by_gone gone

module _ (closers : ClosersHaveHeardAll) (durable : DurableWereClosed) (uncounted : UncountedAreForgotten)
    (forgotten : ForgottenAreDone) (leaves : OverLeavesNone)
  where
    -- where an epoch was closed
    closed_stay : (start : Start) (small large : ℕ → List HostStep) → start.start_epoch < start.epoch
        → AreOfCluster start small
        → AreOfCluster start large → IsCut small large → (epoch : ℕ) → WasClosed start small epoch → (z : Entry)
        → IsIn z (history (hosts start) large) → writes z ≡ true → z.epoch ≤ epoch
        → IsIn z (history (hosts start) small)
    closed_stay start small large begins less more cut epoch was z there wrote low =
        let found =
        marks_at start was.host (Closed epoch) (events_of start small)
        (subst (λ (logs : ℕ → List HostStep). IsMarked (Closed epoch) (logs was.host))
        (sym (logs_are start small less)) was.marked) in
        let moment =
        moment_before start large found.newer (found.event ∷ found.older)
        (subst (IsMoment start large) found.is (cut_moment start small large less more cut)) in
        let closing = closers start large found.event found.older begins moment epoch found.there in
        stays_there start large more z there wrote uncounted forgotten leaves small begins less cut epoch low
        found.newer
        found.event found.older found.is closing.member closing.is
        (president_made start large (found.event ∷ found.older) moment closing.member closing.is.president)

    pub closed_stay_closed : ClosedStayClosed
    closed_stay_closed start small large begins less more cut h epoch below marked z there wrote low = by marked
      where
        by : (IsMarked (Closed epoch) (small h)) ⊎ (IsMarked (Durable epoch) (small h))
            → IsIn z (history (hosts start) small)
        by (inl closed) =
            closed_stay start small large begins less more cut epoch
            (record { host = h; below = below; marked = closed }) z there wrote low
        by (inr saved) =
            closed_stay start small large begins less more cut epoch
            (durable start small begins less h epoch below saved) z
            there wrote low
