-- A transaction is decided once, so that its entry takes effect just where it is final.
use Rattle.std.proofs.Common.{◌≡◌, ◌≢◌, ◌≤◌, ◌+◌, ◌⊎◌, ◌||◌, ℕ, Bool, true, false, List, [], ◌∷◌, ◌++◌, reverse, refl}
use Rattle.std.proofs.Common.{sym, ap, ◌∙◌, subst, inl, inr, arith}
use Rattle.std.proofs.lemmas.Bool.{cases_eq, or_right, true≢false}
use Rattle.std.proofs.lemmas.List.{reverse-reverse}
use Rattle.std.specs.List.{count_by, list_any}
use Rattle.run_theory.proofs.Pasts.{each_in, in_append}
use Rattle.run_theory.proofs.Runs.{log_of-own}
use Rattle.run_theory.specs.Lists.{IsIn, IsPast}
use Rattle.run_theory.proofs.EventCases.{event_cases}
use Rattle.commit_laws.proofs.markers.Lists.{in_filter}
use Rattle.sig_core.proofs.Keys.{same_tx-self}
use Rattle.sig_core.proofs.TxLemmas.{same_tx-swap}
use Rattle.sig_core.specs.declared.entry.Entry.{Entry}
use Rattle.sig_core.specs.declared.mark.Mark.{Mark}
use Rattle.sig_core.specs.declared.mark.Mark.TheVariants.{Decided}
use Rattle.sig_core.specs.declared.member.TxId.{TxId}
use Rattle.sig_core.specs.Same.{same_tx}
use Rattle.tc_block.specs.Complete.{one_if}
use Rattle.world_core.specs.Marks.{has_mark}
use Rattle.world_core.specs.Start.{Start}
use Rattle.world_core.specs.Steps.{HostStep}
use Rattle.world_views.specs.Machine.{machine}
use Rattle.view_laws.specs.Order.{decisions, entries_along}
use Rattle.moment_laws.proofs.MomentViews.{moment_less}
use Rattle.moment_laws.specs.Moments.{IsMoment, logs_of}
use Rattle.moment_laws.specs.Places.{tc_of}
use Rattle.key_laws.specs.Primary.{ended_too}
use Rattle.outcome_laws.proofs.knowledge.CommitsWereDecided.{in_turned}
use Rattle.outcome_laws.proofs.once.DecidedOnce.{decided_few, none_elsewhere, once_each, step_entries}
use Rattle.outcome_laws.proofs.order.EventsBefore.{decisions_past}
use Rattle.outcome_laws.proofs.order.BeforeInLists.{kept_in}
use Rattle.outcome_laws.proofs.coordinators.Lists.{count_more}
use Rattle.outcome_laws.specs.Counts.{coordinator_member, is_decision}
use Rattle.outcome_laws.specs.Once.{marks_in}
use Rattle.outcome_laws.specs.Outcomes.{AreOnce}
use Rattle.request_laws.proofs.routes.ChainsStay.{any_in}
use Rattle.commit_laws.specs.Owed.{AreFresh, DecisionsAreFresh, EntriesAreFinal, IsAlong}
use Rattle.commit_laws.specs.Values.{decided_at, history_at, is_final, is_final_entry}
use Rattle.commit_laws.proofs.hosts.SomePasses.{passing}

pub any_counts : {A : Type 0} (p : A → Bool) (xs : List A) → list_any p xs ≡ true → 1 ≤ count_by p xs
any_counts p [] any = absurd (true≢false (sym any))
any_counts {A} p (x ∷ xs) any = by (p x) refl any (any_counts p xs)
  where
    by : (b : Bool) → p x ≡ b → (b || list_any p xs) ≡ true → (list_any p xs ≡ true → 1 ≤ count_by p xs)
        → 1 ≤ count_by p (x ∷ xs)
    by true is any rest = omega (arith, count_more p x xs, ap one_if is)
    by false is any rest = let some = rest any in omega (arith, count_more p x xs, some)

pub mark_counts : (p : Mark → Bool) (log : List HostStep) → has_mark p log ≡ true → 1 ≤ marks_in p log
mark_counts p [] has = absurd (true≢false (sym has))
mark_counts p (e ∷ log) has = by (list_any p e.step.marks) refl has (mark_counts p log)
  where
    by : (b : Bool) → list_any p e.step.marks ≡ b → (b || has_mark p log) ≡ true
        → (has_mark p log ≡ true → 1 ≤ marks_in p log) → 1 ≤ marks_in p (e ∷ log)
    by true is has rest = let some = any_counts p e.step.marks is in omega (arith, some)
    by false is has rest = let some = rest has in omega (arith, some)

older_counts : (p : Mark → Bool) (newer log : List HostStep) → marks_in p log ≤ marks_in p (newer ++ log)
older_counts p [] log = omega arith
older_counts p (e ∷ newer) log = let less = older_counts p newer log in omega (arith, less)

past_counts : (p : Mark → Bool) (log whole : List HostStep) → IsPast log whole → marks_in p log ≤ marks_in p whole
past_counts p log whole past =
    subst (λ w. marks_in p log ≤ marks_in p w) (sym past.is) (older_counts p past.newer log)

-- marks each of which decides another, and none of whom is decided
fresh_from : (decided : TxId → Bool) (marks : List Mark)
    → ((u : TxId) → list_any (is_decision u) marks ≡ true → decided u ≡ false)
    → ((u : TxId) → count_by (is_decision u) marks ≤ 1) → AreFresh decided marks
fresh_from decided [] new few = tt
fresh_from decided (Decided tx epoch ∷ marks) new few = (
  new tx (ap (λ b. b || list_any (is_decision tx) marks) (same_tx-self tx)),
  fresh_from (ended_too decided tx) marks (λ u any. by u any (same_tx tx u) refl)
      (λ u. omega (arith, few u, count_more (is_decision u) (Decided tx epoch) marks)),
)
  where
    by : (u : TxId) → list_any (is_decision u) marks ≡ true → (b : Bool) → same_tx tx u ≡ b → (b || decided u) ≡ false
    by u any true same =
        absurd (omega (
          arith,
          few u,
          count_more (is_decision u) (Decided tx epoch) marks,
          any_counts (is_decision u) marks any,
          ap one_if same,
        ))
    by u any false apart = new u (or_right (same_tx tx u) (list_any (is_decision u) marks) any)
fresh_from decided (mark ∷ marks) new few =
    fresh_from decided marks (λ u any. new u (or_right (is_decision u mark) (list_any (is_decision u) marks) any))
    (λ u. omega (arith, few u, count_more (is_decision u) mark marks))

module _ (start : Start) (all : ℕ → List HostStep) (e : HostStep) (es : List HostStep)
    (moment : IsMoment start all (e ∷ es))
    (u : TxId) where
  abbrev pub home : ℕ
  home = tc_of start (coordinator_member u)

  -- the decisions of the step, and those before
  own_counts : count_by (is_decision u) e.step.marks + marks_in (is_decision u) (logs_of start es e.host)
      ≤ marks_in (is_decision u) (all e.host)
  own_counts =
      subst (λ log. marks_in (is_decision u) log ≤ marks_in (is_decision u) (all e.host))
      (log_of-own (machine start) e es e.host refl)
      (past_counts (is_decision u) (logs_of start (e ∷ es) e.host) (all e.host) (moment.inside e.host))

  step_few : count_by (is_decision u) e.step.marks ≤ 1
  step_few = omega (arith, own_counts, decided_few start all moment.cluster u e.host)

  pub step_elsewhere : e.host ≢ home → count_by (is_decision u) e.step.marks ≤ 0
  step_elsewhere off = omega (arith, own_counts, none_elsewhere start all moment.cluster u e.host off)

  pub new_there : (end : List HostStep) → list_any (is_decision u) e.step.marks ≡ true
      → decided_at start end es u ≡ false
  new_there end any = by (decided_at start end es u) refl (cases_eq e.host home)
    where
      by : (b : Bool) → decided_at start end es u ≡ b → (e.host ≡ home) ⊎ (e.host ≢ home) → b ≡ false
      by false is at = refl
      by true is (inl at) =
          let old = mark_counts (is_decision u) (logs_of start es e.host)
          (subst (λ h. has_mark (is_decision u) (logs_of start es h) ≡ true) (sym at) is) in
          absurd (omega (
            arith,
            own_counts,
            decided_few start all moment.cluster u e.host,
            any_counts (is_decision u) e.step.marks any,
            old,
          ))
      by true is (inr off) =
          absurd (omega (arith, step_elsewhere off, any_counts (is_decision u) e.step.marks any))

pub decisions_fresh : DecisionsAreFresh
decisions_fresh start all e es moment end =
    fresh_from (decided_at start end es) e.step.marks (λ u any. new_there start all e es moment u end any)
    (λ u. step_few start all e es moment u)

decisions_count : (start : Start) (all : ℕ → List HostStep) (es : List HostStep) → IsMoment start all es → (tx : TxId)
    → count_by (λ (a : Entry). same_tx a.tx tx) (decisions start es)
    ≡ marks_in (is_decision tx) (logs_of start es (tc_of start (coordinator_member tx)))
decisions_count start all [] moment tx = refl
decisions_count start all (e ∷ es) moment tx =
    let rest = decisions_count start all es (moment_less start all e es moment) tx in
    event_cases (machine start) e es h
    (λ log. count_by (λ (a : Entry). same_tx a.tx tx) (decisions start (e ∷ es)) ≡ marks_in (is_decision tx) log)
    (λ at. omega (arith, more, rest)) (λ off. omega (arith, more, rest, step_elsewhere start all e es moment tx off))
  where
    h : ℕ
    h = tc_of start (coordinator_member tx)

    more : count_by (λ (a : Entry). same_tx a.tx tx) (decisions start (e ∷ es))
        ≡ count_by (is_decision tx) e.step.marks + count_by (λ (a : Entry). same_tx a.tx tx) (decisions start es)
    more = step_entries tx e.host e.step.stamp (e ∷ logs_of start es e.host) e.step.marks (decisions start es)

pub decisions_once : (start : Start) (all : ℕ → List HostStep) (es : List HostStep) → IsMoment start all es
    → AreOnce (decisions start es)
decisions_once start all es moment =
    once_each (decisions start es)
    (λ tx.
    let h = tc_of start (coordinator_member tx) in
    omega (
      arith,
      decisions_count start all es moment tx,
      past_counts (is_decision tx) (logs_of start es h) (all h) (moment.inside h),
      decided_few start all moment.cluster tx h,
    ))

pub one_entry : (xs : List Entry) (a b : Entry) → AreOnce xs → IsIn a xs → IsIn b xs → same_tx a.tx b.tx ≡ true → a ≡ b
one_entry [] a b once left right same = absurd left
one_entry (x ∷ xs) a b once (inl one) (inl other) same = one ∙ sym other
one_entry (x ∷ xs) a b once (inl one) (inr rest) same =
    let off = each_in (λ (c : Entry). same_tx c.tx x.tx ≡ false) b xs once.0 rest in
    absurd (true≢false (sym same ∙ (ap (λ (c : Entry). same_tx c.tx b.tx) one ∙ (same_tx-swap x.tx b.tx ∙ off))))
one_entry (x ∷ xs) a b once (inr rest) (inl other) same =
    let off = each_in (λ (c : Entry). same_tx c.tx x.tx ≡ false) a xs once.0 rest in
    absurd (true≢false (sym same ∙ (ap (λ (c : Entry). same_tx a.tx c.tx) other ∙ off)))
one_entry (x ∷ xs) a b once (inr left) (inr right) same = one_entry xs a b once.1 left right same

-- a decision up to some time is one up to the end
pub decision_stays : (start : Start) (all : ℕ → List HostStep) (end es : List HostStep) → IsAlong start all end es
    → (z : Entry) → IsIn z (decisions start es) → IsIn z (decisions start end)
decision_stays start all end es along z there =
    let past = decisions_past start along.past.newer es in
    subst (λ list. IsIn z (decisions start list)) (sym along.past.is)
    (subst (IsIn z) (sym past.is) (in_append z past.newer (decisions start es) there))

pub entries_final : EntriesAreFinal
entries_final start all end es along z there = by (is_final_entry start end z) refl (is_final start end z.tx) refl
  where
    inside : IsIn z (decisions start end)
    inside = decision_stays start all end es along z there

    back : (a : Entry) → IsIn a (entries_along start end) → IsIn a (decisions start end)
    back a at =
        subst (IsIn a) (reverse-reverse (decisions start end)) (in_turned a (reverse (decisions start end)) at)

    by : (a : Bool) → is_final_entry start end z ≡ a → (b : Bool) → is_final start end z.tx ≡ b → a ≡ b
    by true e true f = refl
    by false e false f = refl
    by true e false f =
        absurd (true≢false (sym (any_in (λ (b : Entry). same_tx b.tx z.tx) z (history_at start end end)
        (in_filter (is_final_entry start end) z (entries_along start end) (in_turned z (decisions start end) inside) e)
        (same_tx-self z.tx)) ∙ f))
    by false e true f =
        let found = passing (λ (b : Entry). same_tx b.tx z.tx) (history_at start end end) f in
        let kept = kept_in (is_final_entry start end) found.item (entries_along start end) found.there in
        let same = one_entry (decisions start end) found.item z (decisions_once start all end along.moment)
        (back found.item kept.there) inside found.is in
        sym e ∙ subst (λ w. is_final_entry start end w ≡ true) same kept.passes
