-- The entries of right logs are the decisions in the order of views.
use Rattle.std.proofs.Common.{◌≡◌, ◌≢◌, ◌⊎◌, ◌≤◌, ◌<◌, ◌==◌, ◌&&◌, ◌||◌, ℕ, zero, suc, Bool, true, false, nat_lt, cond}
use Rattle.std.proofs.Common.{List, [], ◌∷◌, reverse, refl, ap, sym, subst, ◌∙◌, inl, inr, arith}
use Rattle.std.proofs.lemmas.Bool.{cases_eq, cases_lt, eq-eqb, eqb-true, ltb-true, ne_eqb, true≢false}
use Rattle.std.proofs.lemmas.Bool.Decides.{nat_tests}
use Rattle.frag_map.specs.Shape.{IsShape}
use Rattle.run_theory.proofs.Runs.{logs_of_run}
use Rattle.run_theory.specs.Lists.{Each}
use Rattle.run_theory.specs.Logs.{IsLog}
use Rattle.run_theory.specs.Machine.{Machine}
use Rattle.run_theory.specs.Orders.{is_after}
use Rattle.run_theory.specs.Runs.{IsWithin, Run, log_of}
use Rattle.sig_core.specs.declared.entry.Entry.{Entry}
use Rattle.sig_core.specs.declared.mark.Mark.{Mark}
use Rattle.sig_core.specs.declared.mark.Mark.TheVariants.{Decided}
use Rattle.sig_core.specs.declared.member.TxId.{TxId}
use Rattle.world_core.specs.Entries.{entries, entries_in, entries_of, entry_of, view_at}
use Rattle.world_core.specs.Hosts.{hosts}
use Rattle.world_core.specs.Start.{NobodyStarts, Start}
use Rattle.world_core.specs.Steps.{Addressed, HostStep}
use Rattle.view_laws.specs.Order.{EntriesStandInOrder, by_views, decisions, entries_along, era, sound_machine}
use Rattle.run_theory.specs.Ranks.{IsByRank, in_order}
use Rattle.run_theory.proofs.EventCases.{event_cases}
use Rattle.view_laws.proofs.eras.Deciders.{decides_here}
use Rattle.view_laws.proofs.eras.DecisionMarks.{IsUndecided}
use Rattle.view_laws.proofs.eras.Order.{run_in_views}
use Rattle.view_laws.proofs.eras.Sorted.{IsFalling, IsRising, falling_of_host, insert_others, insert_owns, of_host}
use Rattle.view_laws.proofs.eras.Sorted.{rises_turned, rising_all, same_order, turned_of_host}

-- an entry isn't behind what has this view, stamp and host
abbrev IsBelow : ℕ → ℕ → ℕ → Entry → Type 0
IsBelow view stamp h b =
    (nat_lt view b.view
    || ((view == b.view) && (nat_lt stamp b.stamp || ((stamp == b.stamp) && nat_lt h b.host.0))))
    ≡ false

not_itself : (v s h : ℕ) → (nat_lt v v || ((v == v) && (nat_lt s s || ((s == s) && nat_lt h h)))) ≡ false
not_itself v s h = grind (arith, nat_tests)

-- it has no greater view, and with the same view no greater stamp and host
below_by : (v w : ℕ) (later : Bool) → w ≤ v → (w ≡ v → later ≡ false) → (nat_lt v w || ((v == w) && later)) ≡ false
below_by v w later low same = by (nat_lt v w) (v == w) refl refl
  where
    by : (a b : Bool) → nat_lt v w ≡ a → (v == w) ≡ b → (a || (b && later)) ≡ false
    by true b e f = absurd (let above : v < w = ltb-true v w e in omega (arith, above, low))
    by false true e f = same (sym (eqb-true v w f))
    by false false e f = refl

-- the entries of one step
module _ (h stamp : ℕ) (log : List HostStep) where
  -- marks that decide nothing add no entry
  pub undecided_same : (marks : List Mark) (before : List Entry) → Each IsUndecided marks
      → entries_in h stamp log marks before ≡ before
  undecided_same [] before none = refl
  undecided_same (Decided tx epoch ∷ marks) before none = absurd (true≢false none.0)
  undecided_same (mark ∷ marks) before none = undecided_same marks before none.1

  -- what holds of these, and of those before
  each_in_step : (P : Entry → Type 0) (marks : List Mark) (before : List Entry)
      → ((tx : TxId) (epoch : ℕ) → P (entry_of h stamp log tx epoch)) → Each P before
      → Each P (entries_in h stamp log marks before)
  each_in_step P [] before new old = old
  each_in_step P (Decided tx epoch ∷ marks) before new old =
      each_in_step P marks (entry_of h stamp log tx epoch ∷ before) new (new tx epoch, old)
  each_in_step P (mark ∷ marks) before new old = each_in_step P marks before new old

  step_falls : (marks : List Mark) (before : List Entry) → IsFalling before
      → Each (IsBelow (view_at log) stamp h) before → IsFalling (entries_in h stamp log marks before)
  step_falls [] before falling below = falling
  step_falls (Decided tx epoch ∷ marks) before falling below =
      step_falls marks (entry_of h stamp log tx epoch ∷ before) (below, falling)
      (not_itself (view_at log) stamp h, below)
  step_falls (mark ∷ marks) before falling below = step_falls marks before falling below

  own_step : (k : ℕ) → h ≡ k → (marks : List Mark) (before : List Entry)
      → of_host k (entries_in h stamp log marks before) ≡ entries_in h stamp log marks (of_host k before)
  own_step k same [] before = refl
  own_step k same (Decided tx epoch ∷ marks) before =
      let entry = entry_of h stamp log tx epoch in
      own_step k same marks (entry ∷ before)
      ∙ ap (λ b. entries_in h stamp log marks (cond b (entry ∷ of_host k before) (of_host k before))) (eq-eqb h k same)
  own_step k same (mark ∷ marks) before = own_step k same marks before

  other_step : (k : ℕ) → h ≢ k → (marks : List Mark) (before : List Entry)
      → of_host k (entries_in h stamp log marks before) ≡ of_host k before
  other_step k apart [] before = refl
  other_step k apart (Decided tx epoch ∷ marks) before =
      let entry = entry_of h stamp log tx epoch in
      other_step k apart marks (entry ∷ before)
      ∙ ap (λ b. cond b (entry ∷ of_host k before) (of_host k before)) (ne_eqb h k apart)
  other_step k apart (mark ∷ marks) before = other_step k apart marks before

-- all entries of a log are of its host
log_entries : (h : ℕ) (log : List HostStep) → Each (λ (a : Entry). a.host.0 ≡ h) (entries_of h log)
log_entries h [] = tt
log_entries h (e ∷ log) =
    each_in_step h e.step.stamp (e ∷ log) (λ (a : Entry). a.host.0 ≡ h) e.step.marks (entries_of h log)
    (λ tx epoch. refl) (log_entries h log)

module _ (start : Start) where
  abbrev n : Machine HostStep Addressed
  n = sound_machine start

  abbrev decided : List (ℕ × HostStep) → List Entry
  decided ps = decisions start (in_order ps)

  -- the log of the host of an event with it
  abbrev log_with : HostStep → List HostStep → List HostStep
  log_with e es = e ∷ log_of n es e.host

  -- the entries of a host are those of its log
  own_decisions : (h : ℕ) (es : List HostStep) → of_host h (decisions start es) ≡ entries_of h (log_of n es h)
  own_decisions h [] = refl
  own_decisions h (e ∷ es) =
      let rest = own_decisions h es in
      event_cases n e es h (λ log. of_host h (decisions start (e ∷ es)) ≡ entries_of h log)
      (λ same.
      own_step e.host e.step.stamp (log_with e es) h same e.step.marks (decisions start es)
      ∙ ap (entries_in e.host e.step.stamp (log_with e es) e.step.marks) rest
      ∙ ap (λ k. entries_in k e.step.stamp (e ∷ log_of n es k) e.step.marks (entries_of h (log_of n es h))) same)
      (λ apart. other_step e.host e.step.stamp (log_with e es) h apart e.step.marks (decisions start es) ∙ rest)

  -- the view of the entries of each event is its number
  abbrev AreFaithful : List (ℕ × HostStep) → Type 0
  AreFaithful [] = Unit {0}
  AreFaithful (q ∷ ps) =
      ((view_at (log_with q.1 (in_order ps)) ≡ q.0) ⊎ Each IsUndecided q.1.step.marks) × AreFaithful ps

  faithful : NobodyStarts start → IsShape start.shape → (ps : List (ℕ × HostStep)) → IsByRank n (era start) ps
      → Run n (in_order ps)
      → AreFaithful ps
  faithful nobody is_shape [] placed run = tt
  faithful nobody is_shape (q ∷ ps) placed run =
      (by (decides_here start nobody is_shape q.1.host log q.1 local), faithful nobody is_shape ps placed.1 run.0)
    where
      log : List HostStep
      log = log_of n (in_order ps) q.1.host

      local : IsLog n q.1.host (q.1 ∷ log)
      local = (run.1.step, (logs_of_run n (in_order ps) run.0).local q.1.host)

      by : (view_at (q.1 ∷ log) ≡ era start q.1.host (q.1 ∷ log)) ⊎ Each IsUndecided q.1.step.marks
          → (view_at (q.1 ∷ log) ≡ q.0) ⊎ Each IsUndecided q.1.step.marks
      by (inl same) = inl (same ∙ sym placed.0.is)
      by (inr none) = inr none

  -- what holds of whatever an event may decide holds of each decision
  module _ (P : Entry → Type 0) where
    abbrev HoldsAt : ℕ × HostStep → Type 0
    HoldsAt q = (a : Entry) → a.view ≡ q.0 → a.stamp ≡ q.1.step.stamp → a.host.0 ≡ q.1.host → P a

    each_decision : (ps : List (ℕ × HostStep)) → AreFaithful ps → Each HoldsAt ps → Each P (decided ps)
    each_decision [] faith all = tt
    each_decision (q ∷ ps) faith all = by faith.0 (each_decision ps faith.1 all.1)
      where
        by : (view_at (log_with q.1 (in_order ps)) ≡ q.0) ⊎ Each IsUndecided q.1.step.marks → Each P (decided ps)
            → Each P (decided (q ∷ ps))
        by (inl same) rest =
            each_in_step q.1.host q.1.step.stamp (log_with q.1 (in_order ps)) P q.1.step.marks (decided ps)
            (λ tx epoch. all.0 (entry_of q.1.host q.1.step.stamp (log_with q.1 (in_order ps)) tx epoch) same refl refl)
            rest
        by (inr none) rest =
            subst (Each P)
            (sym (undecided_same q.1.host q.1.step.stamp (log_with q.1 (in_order ps)) q.1.step.marks (decided ps) none))
            rest

  -- so they fall from the newest to the oldest
  module _ (q : ℕ × HostStep) where
    abbrev IsUnder : Entry → Type 0
    IsUnder b = IsBelow q.0 q.1.step.stamp q.1.host b

    under : (r : ℕ × HostStep) → r.0 ≤ q.0 → (r.0 ≡ q.0 → is_after n r.1 q.1 ≡ false) → HoldsAt IsUnder r
    under r low stamps a view stamp host =
        below_by q.0 a.view _ (omega (arith, low, view))
        (λ same.
        ap (λ s. nat_lt q.1.step.stamp s || ((q.1.step.stamp == s) && nat_lt q.1.host a.host.0)) stamp
        ∙ ap (λ h. nat_lt q.1.step.stamp r.1.step.stamp || ((q.1.step.stamp == r.1.step.stamp) && nat_lt q.1.host h))
        host
        ∙ stamps (sym view ∙ same))

    all_under : (ps : List (ℕ × HostStep)) → Each (λ r. r.0 ≤ q.0) ps
        → Each (λ r. r.0 ≡ q.0 → is_after n r.1 q.1 ≡ false) ps → Each (HoldsAt IsUnder) ps
    all_under [] low stamps = tt
    all_under (r ∷ ps) low stamps = (under r low.0 stamps.0, all_under ps low.1 stamps.1)

  decisions_fall : (ps : List (ℕ × HostStep)) → IsByRank n (era start) ps → AreFaithful ps → IsFalling (decided ps)
  decisions_fall [] placed faith = tt
  decisions_fall (q ∷ ps) placed faith = by faith.0 (decisions_fall ps placed.1 faith.1)
    where
      log : List HostStep
      log = log_with q.1 (in_order ps)

      below : Each (IsUnder q) (decided ps)
      below = each_decision (IsUnder q) ps faith.1 (all_under q ps placed.0.rises placed.0.stamps)

      by : (view_at log ≡ q.0) ⊎ Each IsUndecided q.1.step.marks → IsFalling (decided ps)
          → IsFalling (decided (q ∷ ps))
      by (inl same) rest =
          step_falls q.1.host q.1.step.stamp log q.1.step.marks (decided ps) rest
          (subst (λ v. Each (IsBelow v q.1.step.stamp q.1.host) (decided ps)) (sym same) below)
      by (inr none) rest =
          subst IsFalling (sym (undecided_same q.1.host q.1.step.stamp log q.1.step.marks (decided ps) none)) rest

-- the entries of logs, whose own entries fall
module _ (logs : ℕ → List HostStep) (fall : (h : ℕ) → IsFalling (entries_of h (logs h))) where
  entries_rise : (n : ℕ) → IsRising (entries n logs)
  entries_rise zero = tt
  entries_rise (suc n) = rising_all (entries_of n (logs n)) (entries n logs) (entries_rise n)

  none_above : (n h : ℕ) → n ≤ h → of_host h (entries n logs) ≡ []
  none_above zero h low = refl
  none_above (suc n) h low =
      insert_others h n (entries_of n (logs n)) (entries n logs) (λ same. omega (arith, low, same))
      (log_entries n (logs n))
      ∙ none_above n h (omega (arith, low))

  own_entries : (n h : ℕ) → h < n → of_host h (entries n logs) ≡ reverse (entries_of h (logs h))
  own_entries zero h low = absurd (omega (arith, low))
  own_entries (suc n) h low = by (cases_eq n h) (own_entries n h)
    where
      by : (n ≡ h) ⊎ (n ≢ h) → (h < n → of_host h (entries n logs) ≡ reverse (entries_of h (logs h)))
          → of_host h (entries (suc n) logs) ≡ reverse (entries_of h (logs h))
      by (inl same) rest =
          subst (λ k. of_host k (entries (suc n) logs) ≡ reverse (entries_of k (logs k))) same
          (insert_owns n (entries_of n (logs n)) (entries n logs) (log_entries n (logs n)) (fall n) (entries_rise n)
          (none_above n n (omega arith)))
      by (inr apart) rest =
          insert_others h n (entries_of n (logs n)) (entries n logs) apart (log_entries n (logs n))
          ∙ rest (omega (arith, low, apart))

  all_entries : (n : ℕ) → IsWithin n logs → (h : ℕ) → of_host h (entries n logs) ≡ reverse (entries_of h (logs h))
  all_entries n within h = by (cases_lt h n)
    where
      by : (h < n) ⊎ (n ≤ h) → of_host h (entries n logs) ≡ reverse (entries_of h (logs h))
      by (inl low) = own_entries n h low
      by (inr high) = none_above n h high ∙ sym (ap (λ log. reverse (entries_of h log)) (within h high))

pub stand_in_order : EntriesStandInOrder
stand_in_order start logs are =
    same_order (entries (hosts start) logs) (entries_along start es) (entries_rise logs fall (hosts start))
    (rises_turned (decisions start es) falling) same
  where
    ps : List (ℕ × HostStep)
    ps = by_views start logs

    es : List HostStep
    es = in_order ps

    falling : IsFalling (decisions start es)
    falling =
        let ran = run_in_views start logs are in
        decisions_fall start ps ran.placed (faithful start are.nobody are.shape ps ran.placed ran.run)

    own : (h : ℕ) → of_host h (decisions start es) ≡ entries_of h (logs h)
    own h = own_decisions start h es ∙ ap (entries_of h) ((run_in_views start logs are).has h)

    fall : (h : ℕ) → IsFalling (entries_of h (logs h))
    fall h = subst IsFalling (own h) (falling_of_host h (decisions start es) falling)

    same : (h : ℕ) → of_host h (entries (hosts start) logs) ≡ of_host h (entries_along start es)
    same h =
        all_entries logs fall (hosts start) are.within h ∙ sym (ap (λ xs. reverse xs) (own h))
        ∙ sym (turned_of_host h (decisions start es))
