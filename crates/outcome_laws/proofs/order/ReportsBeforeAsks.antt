-- What was reported before another transaction was asked for was decided before it, and so stands before it in the
-- history.
use Rattle.std.proofs.Common.{◌≡◌, ◌⊎◌, ◌≤◌, ◌∙◌, ◌++◌, ◌||◌, ℕ, Bool, true, false, List, [], ◌∷◌, reverse}
use Rattle.std.proofs.Common.{append_assoc, refl, sym, ap, subst, inl, inr, arith}
use Rattle.std.proofs.lemmas.Bool.{true≢false}
use Rattle.std.proofs.lemmas.List.{reverse-append, reverse-reverse}
use Rattle.std.specs.List.{list_any}
use Rattle.run_theory.proofs.Pasts.{each_in, in_append}
use Rattle.run_theory.specs.Lists.{IsIn, IsPast}
use Rattle.run_theory.specs.Ranks.{in_order}
use Rattle.sig_core.proofs.Keys.{same_tx-self}
use Rattle.sig_core.proofs.TxLemmas.{same_tx-is}
use Rattle.sig_core.specs.declared.entry.Entry.{Entry}
use Rattle.sig_core.specs.declared.mark.Mark.{Mark}
use Rattle.sig_core.specs.declared.mark.Mark.TheVariants.{Decided, Reported}
use Rattle.sig_core.specs.declared.member.TxId.{TxId}
use Rattle.sig_core.specs.declared.outcome.Outcome.TheVariants as outcome
use Rattle.sig_core.specs.declared.signal.Body.{Body}
use Rattle.sig_core.specs.Same.{same_tx}
use Rattle.tc_block.specs.Complete.{one_if}
use Rattle.world_core.specs.Entries.{entries}
use Rattle.world_core.specs.History.{is_kept, is_reported}
use Rattle.world_core.specs.Hosts.{hosts}
use Rattle.world_core.specs.Marks.{has_mark}
use Rattle.world_core.specs.Start.{Start}
use Rattle.world_core.specs.Steps.{HostStep}
use Rattle.world_core.specs.Strict.{StandsBefore}
use Rattle.world_views.specs.Strict.{IsAskedFor}
use Rattle.view_laws.specs.Order.{by_views, decisions}
use Rattle.view_laws.specs.Runs.{AreOfCluster}
use Rattle.view_laws.proofs.eras.Entries.{stand_in_order}
use Rattle.view_laws.proofs.eras.Order.{run_in_views}
use Rattle.view_laws.proofs.ballots.MadeSets.{in_either}
use Rattle.moment_laws.specs.Moments.{IsMoment, logs_of}
use Rattle.moment_laws.proofs.MomentRuns.{are_moments}
use Rattle.outcome_laws.specs.Counts.{is_begin}
use Rattle.outcome_laws.specs.Decided.{HasToldOfBegin, IsBegun, IsDecided, IsMarked, TellsOfBegin}
use Rattle.outcome_laws.specs.Once.{takes_in}
use Rattle.outcome_laws.specs.Outcomes.{AreOnce, DecisionsKeepStrictOrder, HasEntry, HistoriesKeepStrictOrder}
use Rattle.outcome_laws.specs.Tells.{IsRightMark}
use Rattle.outcome_laws.proofs.knowledge.Moments.{moments_know}
use Rattle.outcome_laws.proofs.knowledge.CommitsWereDecided.{in_turned, marked_so, reported_entry}
use Rattle.outcome_laws.proofs.once.Begins.{begin_once}
use Rattle.outcome_laws.proofs.once.DecidedOnce.{decided_once}
use Rattle.outcome_laws.proofs.order.EventsBefore.{IsUpTo, decisions_past, entry_decided, events_up_to, moment_before}
use Rattle.outcome_laws.proofs.order.BeforeInLists.{kept_in, stands_by, stands_kept}

-- the mark by which a transaction was reported committed
record IsReport (tx : TxId) (mark : Mark) : Type 0 where
  epoch : ℕ
  is : mark ≡ Reported tx (outcome.Committed epoch)

report_is : (tx : TxId) (mark : Mark) → is_reported tx mark ≡ true → IsReport tx mark
report_is tx (Reported other (outcome.Committed epoch)) same = record {
  epoch = epoch;
  is = ap (λ one. Reported one (outcome.Committed epoch)) (same_tx-is other tx same);
}
report_is tx mark same = absurd cc

record IsReportedAmong (tx : TxId) (marks : List Mark) : Type 0 where
  epoch : ℕ
  there : IsIn (Reported tx (outcome.Committed epoch)) marks

report_among : (tx : TxId) (marks : List Mark) → list_any (is_reported tx) marks ≡ true → IsReportedAmong tx marks
report_among tx [] any = absurd cc
report_among tx (mark ∷ marks) any = by (is_reported tx mark) refl any (report_among tx marks)
  where
    by : (b : Bool) → is_reported tx mark ≡ b → (b || list_any (is_reported tx) marks) ≡ true
        → (list_any (is_reported tx) marks ≡ true → IsReportedAmong tx marks) → IsReportedAmong tx (mark ∷ marks)
    by true own any rest =
        let report = report_is tx mark own in record { epoch = report.epoch; there = inl (sym report.is) }
    by false own any rest = let older = rest any in record { epoch = older.epoch; there = inr older.there }

record IsReportedIn (tx : TxId) (log : List HostStep) : Type 0 where
  epoch : ℕ
  is : IsMarked (Reported tx (outcome.Committed epoch)) log

reported_in : (tx : TxId) (log : List HostStep) → has_mark (is_reported tx) log ≡ true → IsReportedIn tx log
reported_in tx [] has = absurd cc
reported_in tx (e ∷ log) has = by (list_any (is_reported tx) e.step.marks) refl has (reported_in tx log)
  where
    by : (b : Bool) → list_any (is_reported tx) e.step.marks ≡ b → (b || has_mark (is_reported tx) log) ≡ true
        → (has_mark (is_reported tx) log ≡ true → IsReportedIn tx log) → IsReportedIn tx (e ∷ log)
    by true own has rest =
        let one = report_among tx e.step.marks own in record { epoch = one.epoch; is = inl one.there }
    by false own has rest = let older = rest has in record { epoch = older.epoch; is = inr older.is }

-- a mark of an older log is one of a longer
pub marked_behind : (mark : Mark) (newer log : List HostStep) → IsMarked mark log → IsMarked mark (newer ++ log)
marked_behind mark [] log is = is
marked_behind mark (e ∷ newer) log is = inr (marked_behind mark newer log is)

-- how often a transaction was told to have begun
begin_counts : (tx : TxId) (e : HostStep) → TellsOfBegin tx e → one_if (is_begin tx e.step.taken.body) ≡ 1
begin_counts tx e tells =
    ap (λ (body : Body). one_if (is_begin tx body)) tells.is ∙ ap (λ b. one_if b) (same_tx-self tx)

-- who was told to have begun is counted
pub begun_counts : (tx : TxId) (log : List HostStep) → HasToldOfBegin tx log → 1 ≤ takes_in (is_begin tx) log
begun_counts tx [] told = absurd told
begun_counts tx (e ∷ log) (inl tells) = let one = begin_counts tx e tells in omega (arith, one)
begun_counts tx (e ∷ log) (inr older) = let some = begun_counts tx log older in omega (arith, some)

-- what an older log took, a longer one took
pub older_counts : (p : Body → Bool) (newer log : List HostStep) → takes_in p log ≤ takes_in p (newer ++ log)
older_counts p [] log = omega arith
older_counts p (e ∷ newer) log = let less = older_counts p newer log in omega (arith, less)

-- who stands in the back has no number of one in the front
once_apart : (e a : Entry) (xs ys : List Entry) → AreOnce (xs ++ ys) → IsIn e xs → IsIn a ys
    → same_tx a.tx e.tx ≡ false
once_apart e a [] ys once there_e there_a = absurd there_e
once_apart e a (x ∷ xs) ys once (inl same) there_a =
    subst (λ (one : Entry). same_tx a.tx one.tx ≡ false) (sym same)
    (each_in (λ (b : Entry). same_tx b.tx x.tx ≡ false) a (xs ++ ys) once.0 (in_append a xs ys there_a))
once_apart e a (x ∷ xs) ys once (inr there_e) there_a = once_apart e a xs ys once.1 there_e there_a

module _ (start : Start) (logs : ℕ → List HostStep) (are : AreOfCluster start logs) (a b : Entry)
    (before : List HostStep) (asked : IsAskedFor start b.tx (logs 0) before)
    (reported : has_mark (is_reported a.tx) before ≡ true)
  where
    moment : IsMoment start logs (in_order (by_views start logs))
    moment = are_moments start logs are

    -- the log up to where the other is told to have begun
    whole : logs 0 ≡ asked.newer ++ asked.told ∷ (asked.between ++ asked.asking ∷ before)
    whole = asked.is ∙ append_assoc asked.newer (asked.told ∷ asked.between) (asked.asking ∷ before)

    up_to : IsUpTo start 0 asked.told (asked.between ++ asked.asking ∷ before) (in_order (by_views start logs))
    up_to =
        events_up_to start 0 asked.told (asked.between ++ asked.asking ∷ before) asked.newer
        (in_order (by_views start logs)) ((run_in_views start logs are).has 0 ∙ whole)

    older_moment : IsMoment start logs up_to.before
    older_moment =
        moment_before start logs (up_to.newer ++ asked.told ∷ []) up_to.before
        (subst (IsMoment start logs) (up_to.is ∙ sym (append_assoc up_to.newer (asked.told ∷ []) up_to.before)) moment)

    past : IsPast (decisions start up_to.before) (decisions start (in_order (by_views start logs)))
    past =
        subst (λ es. IsPast (decisions start up_to.before) (decisions start es))
        (sym (up_to.is ∙ sym (append_assoc up_to.newer (asked.told ∷ []) up_to.before)))
        (decisions_past start (up_to.newer ++ asked.told ∷ []) up_to.before)

    -- who was reported had an entry by then
    has : HasEntry a.tx (reported_in a.tx before reported).epoch (decisions start up_to.before)
    has =
        let one = reported_in a.tx before reported in
        let mark = Reported a.tx (outcome.Committed one.epoch) in
        reported_entry start logs up_to.before older_moment a.tx one.epoch
        (subst (IsMarked mark) (sym up_to.older)
        (marked_behind mark asked.between (asked.asking ∷ before) (inr one.is)))

    -- the other had none
    none : IsIn b (decisions start up_to.before) → ⊥
    none there =
        let decided = entry_decided start b up_to.before there in
        let known = moments_know start logs up_to.before older_moment in
        let begun : IsBegun start (logs_of start up_to.before) b.tx =
        marked_so
        (IsRightMark (IsDecided start (logs_of start up_to.before)) (IsBegun start (logs_of start up_to.before)))
        (Decided b.tx b.epoch) (logs_of start up_to.before decided.host) (known.right decided.host) decided.is in
        let first =
        begun_counts b.tx (asked.between ++ asked.asking ∷ before) (subst (HasToldOfBegin b.tx) up_to.older begun) in
        let second = begin_counts b.tx asked.told (record { name = asked.name; is = asked.begun }) in
        let all =
        older_counts (is_begin b.tx) asked.newer (asked.told ∷ (asked.between ++ asked.asking ∷ before)) in
        let once : takes_in (is_begin b.tx) (asked.newer ++ asked.told ∷ (asked.between ++ asked.asking ∷ before)) ≤ 1 =
        subst (λ log. takes_in (is_begin b.tx) log ≤ 1) whole (begin_once b.tx start logs are 0) in
        absurd (omega (arith, first, second, all, once))

    -- so the entries part there
    parted : entries (hosts start) logs ≡ reverse (decisions start up_to.before) ++ reverse past.newer
    parted =
        stand_in_order start logs are
        ∙ ap (λ (list : List Entry). reverse list) past.is
        ∙ reverse-append past.newer (decisions start up_to.before)

    turned_back : (one : Entry) → IsIn one (reverse (decisions start up_to.before))
        → IsIn one (decisions start up_to.before)
    turned_back one there =
        subst (IsIn one) (reverse-reverse (decisions start up_to.before))
        (in_turned one (reverse (decisions start up_to.before)) there)

    a_front : IsIn a (entries (hosts start) logs) → IsIn a (reverse (decisions start up_to.before))
    a_front there =
        by (in_either a (reverse (decisions start up_to.before)) (reverse past.newer) (subst (IsIn a) parted there))
      where
        once : AreOnce (reverse (decisions start up_to.before) ++ reverse past.newer)
        once = subst AreOnce parted (decided_once start logs are)

        by : IsIn a (reverse (decisions start up_to.before)) ⊎ IsIn a (reverse past.newer)
            → IsIn a (reverse (decisions start up_to.before))
        by (inl there) = there
        by (inr late) =
            let apart =
            once_apart has.entry a (reverse (decisions start up_to.before)) (reverse past.newer) once
            (in_turned has.entry (decisions start up_to.before) has.there) late in
            let same : same_tx a.tx has.entry.tx ≡ true =
            ap (λ tx. same_tx a.tx tx) has.tx_is ∙ same_tx-self a.tx in
            absurd (true≢false (sym same ∙ apart))

    b_back : IsIn b (entries (hosts start) logs) → IsIn b (reverse past.newer)
    b_back there =
        by (in_either b (reverse (decisions start up_to.before)) (reverse past.newer) (subst (IsIn b) parted there))
      where
        by : IsIn b (reverse (decisions start up_to.before)) ⊎ IsIn b (reverse past.newer) → IsIn b (reverse past.newer)
        by (inl early) = absurd (none (turned_back b early))
        by (inr there) = there

    strict : IsIn a (entries (hosts start) logs) → IsIn b (entries (hosts start) logs)
        → StandsBefore a b (entries (hosts start) logs)
    strict there_a there_b =
        subst (StandsBefore a b) (sym parted)
        (stands_by a b (reverse (decisions start up_to.before)) (reverse past.newer) (a_front there_a) (b_back there_b))

pub decisions_in_strict_order : DecisionsKeepStrictOrder
decisions_in_strict_order start logs are a b before there_a there_b asked reported =
    strict start logs are a b before asked reported there_a there_b

pub histories_in_strict_order : HistoriesKeepStrictOrder
histories_in_strict_order start logs are a b before there_a there_b asked reported =
    let kept = is_kept (hosts start) logs in
    let list = entries (hosts start) logs in
    let one = kept_in kept a list there_a in
    let other = kept_in kept b list there_b in
    stands_kept kept a b list one.passes other.passes
    (decisions_in_strict_order start logs are a b before one.there other.there asked reported)
