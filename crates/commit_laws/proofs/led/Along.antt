-- Along a run whose end is fixed each key is led to what the history makes of it.
use Rattle.std.proofs.Common.{◌≡◌, ◌≢◌, ◌||◌, ℕ, Bool, true, false, List, [], ◌∷◌, ◌++◌, filter, reverse, refl, sym, ap}
use Rattle.std.proofs.Common.{◌∙◌, subst, inl, inr}
use Rattle.std.proofs.lemmas.List.{reverse-append}
use Rattle.std.proofs.Math.Path.{fun_ext}
use Rattle.std.specs.List.{list_any}
use Rattle.std.specs.Prelude.{if◌then◌else◌, None, Some}
use Rattle.run_theory.specs.Lists.{Each, IsIn, IsPast}
use Rattle.run_theory.proofs.Pasts.{past_less}
use Rattle.run_theory.proofs.Runs.{log_of-own}
use Rattle.run_theory.proofs.EventCases.{event_cases}
use Rattle.row_locks.specs.declared.mode.Mode.TheVariants.{Exclusive}
use Rattle.row_locks.specs.Holders.{holds_enough}
use Rattle.sig_core.specs.declared.entry.Entry.{Entry}
use Rattle.sig_core.specs.declared.mark.Mark.{Mark}
use Rattle.sig_core.specs.declared.mark.Mark.TheVariants.{Decided}
use Rattle.sig_core.specs.declared.member.Member.{Member}
use Rattle.sig_core.specs.declared.member.TxId.{TxId}
use Rattle.sig_core.specs.declared.rows.PendingRecord.{PendingRecord}
use Rattle.sig_core.specs.Same.{same_tx}
use Rattle.sig_core.proofs.Keys.{same_tx-self}
use Rattle.sig_core.proofs.TxLemmas.{same_tx-is}
use Rattle.world_core.specs.Entries.{entries_in, entry_of, ops_of}
use Rattle.world_core.specs.Marks.{has_mark}
use Rattle.world_core.specs.Start.{Start}
use Rattle.world_core.specs.Steps.{HostStep}
use Rattle.world_views.specs.Machine.{machine}
use Rattle.view_laws.specs.Order.{decisions}
use Rattle.moment_laws.specs.Moments.{IsMoment, logs_of}
use Rattle.moment_laws.specs.Places.{tc_of}
use Rattle.outcome_laws.specs.Counts.{coordinator_member, is_decision}
use Rattle.outcome_laws.proofs.knowledge.DecidedAtOwnHost.{AreDecidedHere, IsDecidedHere, all_own}
use Rattle.outcome_laws.proofs.order.EventsBefore.{moment_before}
use Rattle.outcome_laws.proofs.knowledge.CommitsWereDecided.{in_before}
use Rattle.moment_laws.proofs.MomentViews.{moment_less}
use Rattle.key_laws.specs.Backup.{IsLedUnlessSpoilt}
use Rattle.key_laws.specs.BackupEvents.{backup_of}
use Rattle.key_laws.specs.Primary.{ended_too}
use Rattle.key_laws.specs.Records.{AreOnce, found}
use Rattle.commit_laws.specs.Going.{decided_ops}
use Rattle.commit_laws.specs.Led.{IsTidy, Leads}
use Rattle.commit_laws.specs.Owed.{AreFresh, AreOwed, HasPrimary, IsAlong}
use Rattle.commit_laws.specs.Traces.{IsReplicaOf, replica_at}
use Rattle.commit_laws.specs.Values.{KeysAreLed, decided_at, first_row, history_at, is_final, is_final_entry}
use Rattle.commit_laws.proofs.led.Decisions.{AreKeptWhoLetGo}
use Rattle.commit_laws.proofs.led.Histories.{filter_last, filter_not_last}
use Rattle.commit_laws.proofs.led.Keys.{IsGood, kept_good, unkept_good}

-- what holds of whatever record a transaction is found to have holds of each
each_by_found : (P : PendingRecord → Type 0) (xs : List PendingRecord) → AreOnce xs
    → ((v : TxId) (r : PendingRecord) → found v xs ≡ Some r → r.tx ≡ v → P r) → Each P xs
each_by_found P [] once told = tt
each_by_found P (r ∷ rest) once told = (
  told r.tx r (ap (λ b. if b then Some r else found r.tx rest) (same_tx-self r.tx)) refl,
  each_by_found P rest once.1 (λ v x is own. told v x (behind v x is own (same_tx r.tx v) refl) own),
)
  where
    behind : (v : TxId) (x : PendingRecord) → found v rest ≡ Some x → x.tx ≡ v → (b : Bool) → same_tx r.tx v ≡ b
        → found v (r ∷ rest) ≡ Some x
    behind v x is own true e =
        absurd (let both : None ≡ Some x = sym once.0 ∙ ap (λ t. found t rest) (same_tx-is r.tx v e) ∙ is in cc)
    behind v x is own false e = ap (λ b. if b then Some r else found v rest) e ∙ is

-- what is decided behind these marks
abbrev decided_with : List Mark → (TxId → Bool) → TxId → Bool
decided_with [] decided = decided
decided_with (Decided tx epoch ∷ marks) decided = decided_with marks (ended_too decided tx)
decided_with (mark ∷ marks) decided = decided_with marks decided

decided_among : (marks : List Mark) (decided : TxId → Bool) (v : TxId)
    → decided_with marks decided v ≡ (list_any (is_decision v) marks || decided v)
decided_among [] decided v = refl
decided_among (Decided tx epoch ∷ marks) decided v =
    decided_among marks (ended_too decided tx) v ∙ turned (list_any (is_decision v) marks) (same_tx tx v) (decided v)
  where
    turned : (a b c : Bool) → (a || (b || c)) ≡ ((b || a) || c)
    turned true true c = refl
    turned true false c = refl
    turned false true c = refl
    turned false false c = refl
decided_among (mark ∷ marks) decided v = decided_among marks decided v

module _ (owed : AreOwed) (start : Start) (all : ℕ → List HostStep) (end : List HostStep)
    (moment : IsMoment start all end)
    (key : List ℕ) where
  abbrev Good : (ℕ → List HostStep) → (TxId → Bool) → List Entry → Type 0
  Good logs decided history = IsGood start (is_final start end) (first_row start end key) key logs decided history

  abbrev kept_among : List Entry → List Entry
  kept_among list = filter (is_final_entry start end) (reverse list)

  -- the decisions of one event
  module _ (e : HostStep) (es : List HostStep) (past : IsPast (e ∷ es) end) where
    abbrev log : List HostStep
    log = e ∷ logs_of start es e.host

    abbrev entry : TxId → ℕ → Entry
    entry tx epoch = entry_of e.host e.step.stamp log tx epoch

    abbrev along : IsAlong start all end (e ∷ es)
    along = record { moment = moment; past = past }

    less : IsMoment start all (e ∷ es)
    less = moment_before start all past.newer (e ∷ es) (subst (IsMoment start all) past.is moment)

    decides_here : AreDecidedHere start e.host e
    decides_here =
        (subst (Each (AreDecidedHere start e.host)) (log_of-own (machine start) e es e.host refl)
        ((all_own start all (e ∷ es) less).decided e.host)).0

    host_is : (tx : TxId) (epoch : ℕ) (marks : List Mark) → Each (IsDecidedHere start e.host) marks
        → IsIn (Decided tx epoch) marks → e.host ≡ tc_of start (coordinator_member tx)
    host_is tx epoch [] here there = absurd there
    host_is tx epoch (mark ∷ marks) here (inl is) = subst (IsDecidedHere start e.host) (sym is) here.0
    host_is tx epoch (mark ∷ marks) here (inr there) = host_is tx epoch marks here.1 there

    ops_are : (tx : TxId) (epoch : ℕ) → IsIn (Decided tx epoch) e.step.marks
        → (entry tx epoch).ops ≡ decided_ops start (logs_of start (e ∷ es)) tx
    ops_are tx epoch there =
        let at = host_is tx epoch e.step.marks decides_here there in
        ap (λ k. ops_of tx (e ∷ logs_of start es k)) at
        ∙ sym (ap (ops_of tx) (log_of-own (machine start) e es (tc_of start (coordinator_member tx)) at))

    -- nobody is decided elsewhere
    none_of : (v : TxId) → e.host ≢ tc_of start (coordinator_member v) → (marks : List Mark)
        → Each (IsDecidedHere start e.host) marks → list_any (is_decision v) marks ≡ false
    none_of v off [] here = refl
    none_of v off (Decided tx epoch ∷ marks) here = by (same_tx tx v) refl (none_of v off marks here.1)
      where
        by : (b : Bool) → same_tx tx v ≡ b → list_any (is_decision v) marks ≡ false
            → (same_tx tx v || list_any (is_decision v) marks) ≡ false
        by true same rest =
            absurd (off (here.0 ∙ ap (λ (u : TxId). tc_of start (coordinator_member u)) (same_tx-is tx v same)))
        by false apart rest = ap (λ b. b || list_any (is_decision v) marks) apart ∙ rest
    none_of v off (mark ∷ marks) here = none_of v off marks here.1

    decided_next : decided_at start end (e ∷ es) ≡ decided_with e.step.marks (decided_at start end es)
    decided_next =
        fun_ext (λ v.
        event_cases (machine start) e es (tc_of start (coordinator_member v))
        (λ log. has_mark (is_decision v) log ≡ (list_any (is_decision v) e.step.marks || decided_at start end es v))
        (λ at. refl) (λ off. sym (ap (λ b. b || decided_at start end es v) (none_of v off e.step.marks decides_here)))
        ∙ sym (decided_among e.step.marks (decided_at start end es) v))

    -- one decision
    module _ (decided : TxId → Bool) (list : List Entry) (good : Good (logs_of start es) decided (kept_among list))
        (tx : TxId) (epoch : ℕ) (there : IsIn (Decided tx epoch) e.step.marks)
        (inside : IsIn (entry tx epoch) (decisions start (e ∷ es))) (new : decided tx ≡ false) where
      abbrev z : Entry
      z = entry tx epoch

      final_is : is_final_entry start end z ≡ is_final start end tx
      final_is = owed.entries start all end (e ∷ es) along z inside

      turned : reverse (z ∷ list) ≡ reverse list ++ z ∷ []
      turned = reverse-append (z ∷ []) list

      old_moment : IsMoment start all es
      old_moment = moment_less start all e es less

      p : HasPrimary start (logs_of start es) key
      p = owed.primaries start all es old_moment key

      let_go : AreKeptWhoLetGo decided (is_final start end)
          (backup_of (replica_at start (logs_of start es) p.primary key)) tx
          (good.tidy p.primary p.replica)
      let_go =
          each_by_found _ (replica_at start (logs_of start es) p.primary key).cell.pending
          (good.tidy p.primary p.replica).once
          (λ v r is own committed off.
          ap (is_final start end) own
          ∙ owed.let_go start all end es
          (record { moment = moment; past = past_less e past }) key p.primary p.replica v r
          is committed
          (ap (λ t. holds_enough t Exclusive (replica_at start (logs_of start es) p.primary key).lock.holders)
          (sym own)
          ∙ off))

      one_good : Good (logs_of start es) (ended_too decided tx) (kept_among (z ∷ list))
      one_good = by (is_final_entry start end z) refl
        where
          by : (b : Bool) → is_final_entry start end z ≡ b
              → Good (logs_of start es) (ended_too decided tx) (kept_among (z ∷ list))
          by true is =
              subst (Good (logs_of start es) (ended_too decided tx))
              (sym (ap (filter (is_final_entry start end)) turned ∙ filter_last (is_final_entry start end)
              (reverse list) z is))
              (kept_good start (is_final start end) (first_row start end key) key (logs_of start es) decided
              (kept_among list)
              good tx (sym final_is ∙ is) new (decided_ops start (logs_of start (e ∷ es)) tx)
              (owed.settled start all e es less tx
              (owed.finals start all end e es along tx epoch there (sym final_is ∙ is)) key)
              p let_go z (ops_are tx epoch there))
          by false is =
              subst (Good (logs_of start es) (ended_too decided tx))
              (sym (ap (filter (is_final_entry start end)) turned
              ∙ filter_not_last (is_final_entry start end) (reverse list) z is))
              (unkept_good start (is_final start end) (first_row start end key) key (logs_of start es) decided
              (kept_among list) good tx (sym final_is ∙ is))

    -- all of them
    all_good : (marks : List Mark) (decided : TxId → Bool) (list : List Entry)
        → ((tx : TxId) (epoch : ℕ) → IsIn (Decided tx epoch) marks → IsIn (Decided tx epoch) e.step.marks)
        → ((z : Entry) → IsIn z (entries_in e.host e.step.stamp log marks list) → IsIn z (decisions start (e ∷ es)))
        → AreFresh decided marks → Good (logs_of start es) decided (kept_among list)
        → Good (logs_of start es) (decided_with marks decided)
        (kept_among (entries_in e.host e.step.stamp log marks list))
    all_good [] decided list among inside fresh good = good
    all_good (Decided tx epoch ∷ marks) decided list among inside fresh good =
        all_good marks (ended_too decided tx) (entry tx epoch ∷ list)
        (λ v k there. among v k (inr there)) inside fresh.1
        (one_good decided list good tx epoch (among tx epoch (inl refl))
        (inside (entry tx epoch)
        (in_before e.host e.step.stamp log (entry tx epoch) marks (entry tx epoch ∷ list) (inl refl))) fresh.0)
    all_good (mark ∷ marks) decided list among inside fresh good =
        all_good marks decided list (λ v k there. among v k (inr there)) inside fresh good

    next_good : Good (logs_of start es) (decided_at start end es) (history_at start end es)
        → Good (logs_of start (e ∷ es)) (decided_at start end (e ∷ es)) (history_at start end (e ∷ es))
    next_good good = record {
      right = behind.right;
      tidy = λ member is. (leads member is).tidy;
      led = λ member is.
          (leads member is).led _ (behind.led member (owed.replicas start all e es less key member is));
    }
      where
        behind : Good (logs_of start es) (decided_at start end (e ∷ es)) (history_at start end (e ∷ es))
        behind =
            subst (λ d. Good (logs_of start es) d (history_at start end (e ∷ es))) (sym decided_next)
            (all_good e.step.marks (decided_at start end es) (decisions start es) (λ tx epoch there. there)
            (λ z there. there) (owed.fresh start all e es less end) good)

        leads : (member : Member) → IsReplicaOf start (logs_of start (e ∷ es)) key member
            → Leads (decided_at start end (e ∷ es)) (is_final start end)
            (backup_of (replica_at start (logs_of start es) member key))
            (backup_of (replica_at start (logs_of start (e ∷ es)) member key))
        leads member is =
            owed.events start all end e es along key member is
            (behind.tidy member (owed.replicas start all e es less key member is))

  first_good : IsMoment start all [] → Good (logs_of start []) (decided_at start end []) (history_at start end [])
  first_good empty = record {
    right = tt;
    tidy = λ member is.
        subst (IsTidy (decided_at start end [])) (sym (rests member is))
        (record { once = tt; owned = tt; agreed = refl; done = tt });
    led = λ member is.
        subst
        (λ b. IsLedUnlessSpoilt (decided_at start end []) (is_final start end) (first_row start end key) b)
        (sym (rests member is)) (λ clean. refl);
  }
    where
      rests : (member : Member) → IsReplicaOf start (logs_of start []) key member
          → backup_of (replica_at start (logs_of start []) member key)
          ≡ (record { row = first_row start end key; pending = []; holders = [] })
      rests member is =
          let rest = owed.begin start all empty key member is in
          λ i. record { row = rest.row i; pending = rest.pending i; holders = rest.holders i }

  good_at : (es : List HostStep) → IsPast es end
      → Good (logs_of start es) (decided_at start end es) (history_at start end es)
  good_at [] past =
      first_good (moment_before start all past.newer [] (subst (IsMoment start all) past.is moment))
  good_at (e ∷ es) past = next_good e es past (good_at es (past_less e past))

pub keys_led : AreOwed → KeysAreLed
keys_led owed start all end es moment past key =
    let good = good_at owed start all end moment key es past in record { right = good.right; led = good.led }
