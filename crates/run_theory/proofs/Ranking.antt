-- Right logs are a run in the order of a rank that falls neither along a log nor along a signal.
use Rattle.std.proofs.Common.{◌≡◌, ◌≢◌, ◌⊎◌, ◌==◌, ◌<◌, ◌≤◌, ◌&&◌, ◌||◌, ℕ, zero, suc, Bool, true, false, List, [], ◌∷◌}
use Rattle.std.proofs.Common.{◌++◌, if◌then◌else◌, nat_lt, refl, sym, ap, ◌∙◌, subst, inl, inr, arith}
use Rattle.std.proofs.lemmas.Bool.{cases_eq, cases_lt}
use Rattle.std.proofs.lemmas.Bool.Decides.{nat_tests}
use Rattle.run_theory.specs.Lists.{Each, IsPast}
use Rattle.run_theory.specs.Machine.{Machine, IsStamped}
use Rattle.run_theory.specs.Logs.{last, IsLog, IsThere}
use Rattle.run_theory.specs.Runs.{log_of, Happens, Run, AreLogs, IsWithin}
use Rattle.run_theory.specs.Orders.{HasLogs, MayFollow, IsCausal, is_after, insert, insert_all, merged}
use Rattle.run_theory.specs.LinkLaws.{IsSentBy}
use Rattle.run_theory.specs.Ranks.{place, in_order, IsCausalRank, by_rank, ranked, IsPlaced, IsByRank}
use Rattle.run_theory.proofs.Pasts.{past_self, past_nil, past_trans, past_cases, each_map}
use Rattle.run_theory.proofs.Links.{step_above, log_past, last_past}
use Rattle.run_theory.proofs.Runs.{log_of-own, log_of-other, log_of-past, logs_of_run, logs_more}
use Rattle.run_theory.proofs.Orders.{run_of_logs}
use Rattle.run_theory.proofs.Growth.{causal_of_run}
use Rattle.run_theory.proofs.LinkFacts.{stamps_rise}
use Rattle.run_theory.proofs.Merging.{each_insert, has_logs_merged, of_hosts, merged_run}

test_lt : (a b : ℕ) → nat_lt a b ≡ true → a < b
test_lt a b e = grind (arith, nat_tests)

test_le : (a b : ℕ) → nat_lt a b ≡ false → b ≤ a
test_le a b e = grind (arith, nat_tests)

-- the order of (stamp, host), over plain numbers
not_both : (s t h k : ℕ) → (nat_lt s t || ((s == t) && nat_lt h k)) ≡ true
    → (nat_lt t s || ((t == s) && nat_lt k h)) ≡ false
not_both s t h k e = grind (arith, nat_tests)

not_through : (s t u h k l : ℕ) → (nat_lt s t || ((s == t) && nat_lt h k)) ≡ false
    → (nat_lt t u || ((t == u) && nat_lt k l)) ≡ false
    → (nat_lt s u || ((s == u) && nat_lt h l)) ≡ false
not_through s t u h k l e f = grind (arith, nat_tests)

-- of two older parts of one list one is an older part of the other
past_of_two : {A : Type 0} {xs ys zs : List A} → IsPast xs zs → IsPast ys zs → IsPast xs ys ⊎ IsPast ys xs
past_of_two {A} {xs} {ys} p q = go p.newer q.newer (sym p.is ∙ q.is)
  where
    go : (more less : List A) → more ++ xs ≡ less ++ ys → IsPast xs ys ⊎ IsPast ys xs
    go [] less is = inr (record { newer = less; is = is })
    go (x ∷ more) [] is = inl (record { newer = x ∷ more; is = sym is })
    go (x ∷ more) (y ∷ less) is = go more less cc

each_place : {E : Type 0} (P : ℕ × E → Type 0) (k : ℕ) (e : E) (ps : List (ℕ × E)) → P (k, e) → Each P ps
    → Each P (place k e ps)
each_place {E} P k e [] new all = (new, tt)
each_place {E} P k e (p ∷ ps) new all = go (nat_lt k p.0) (each_place P k e ps new all.1)
  where
    go : (b : Bool) → Each P (place k e ps) → Each P (if b then p ∷ place k e ps else (k, e) ∷ p ∷ ps)
    go true rest = (all.0, rest)
    go false rest = (new, all)

each_in_order : {E : Type 0} (P : E → Type 0) (ps : List (ℕ × E)) → Each (λ p. P p.1) ps → Each P (in_order ps)
each_in_order P [] all = tt
each_in_order P (p ∷ ps) all = (all.0, each_in_order P ps all.1)

each_of_order : {E : Type 0} (P : E → Type 0) (ps : List (ℕ × E)) → Each P (in_order ps) → Each (λ p. P p.1) ps
each_of_order P [] all = tt
each_of_order P (p ∷ ps) all = (all.0, each_of_order P ps all.1)

module _ {E X : Type 0} (m : Machine E X) where
  -- none of these comes after e by (stamp, host)
  abbrev pub HasNoneAfter : E → List E → Type 0
  HasNoneAfter e es = Each (λ f. is_after m f e ≡ false) es

  abbrev pub IsInOrder : List E → Type 0
  IsInOrder [] = Unit {0}
  IsInOrder (e ∷ es) = HasNoneAfter e es × IsInOrder es

  none_after : (e f : E) (es : List E) → is_after m f e ≡ false → HasNoneAfter f es → HasNoneAfter e es
  none_after e f es is all =
      each_map (λ g. is_after m g f ≡ false) (λ g. is_after m g e ≡ false) es
      (λ g is'. not_through (m.stamp e) (m.stamp f) (m.stamp g) (m.host e) (m.host f) (m.host g) is is') all

  in_order_insert : (e : E) (es : List E) → IsInOrder es → IsInOrder (insert m e es)
  in_order_insert e [] o = (tt, tt)
  in_order_insert e (f ∷ es) o = go (is_after m f e) refl (in_order_insert e es o.1)
    where
      go : (t : Bool) → is_after m f e ≡ t → IsInOrder (insert m e es)
          → IsInOrder (if t then f ∷ insert m e es else e ∷ f ∷ es)
      go true is rest = (
        each_insert m (λ g. is_after m g f ≡ false) e es
            (not_both (m.stamp e) (m.stamp f) (m.host e) (m.host f) is) o.0,
        rest,
      )
      go false is rest = ((is, none_after e f es is o.0), o)

  in_order_insert_all : (log es : List E) → IsInOrder es → IsInOrder (insert_all m log es)
  in_order_insert_all [] es o = o
  in_order_insert_all (e ∷ log) es o = in_order_insert e (insert_all m log es) (in_order_insert_all log es o)

  -- the merged list is in order of (stamp, host)
  pub in_order_merged : (n : ℕ) (logs : ℕ → List E) → IsInOrder (merged m n logs)
  in_order_merged zero logs = tt
  in_order_merged (suc n) logs = in_order_insert_all (logs n) (merged m n logs) (in_order_merged n logs)

  -- an event that keeps to causes with those at either side of its place
  causal_place : (k : ℕ) (e : E) (ps : List (ℕ × E)) → Each (λ p. MayFollow m p.1 e) ps
      → Each (λ p. k < p.0 → MayFollow m e p.1) ps
      → IsCausal m (in_order ps) → IsCausal m (in_order (place k e ps))
  causal_place k e [] before after c = (tt, tt)
  causal_place k e (p ∷ ps) before after c = go (nat_lt k p.0) refl (causal_place k e ps before.1 after.1 c.1)
    where
      go : (b : Bool) → nat_lt k p.0 ≡ b → IsCausal m (in_order (place k e ps))
          → IsCausal m (in_order (if b then p ∷ place k e ps else (k, e) ∷ p ∷ ps))
      go true is rest =
          let P : E → Type 0 = λ f. MayFollow m f p.1 in (
            each_in_order P (place k e ps)
                (each_place (λ q. P q.1) k e ps (after.0 (test_lt k p.0 is)) (each_of_order P ps c.0)),
            rest,
          )
      go false is rest = (each_in_order (λ f. MayFollow m f e) (p ∷ ps) before, c)

  -- no step of the host of e has a greater rank
  abbrev pub IsTop : ℕ → E → List (ℕ × E) → Type 0
  IsTop k e ps = Each (λ p. m.host p.1 ≡ m.host e → p.0 ≤ k) ps

  -- a step behind those of greater rank is the newest of its host's log, and changes no other log
  place-own : (k : ℕ) (e : E) (ps : List (ℕ × E)) (h : ℕ) → m.host e ≡ h → IsTop k e ps
      → log_of m (in_order (place k e ps)) h ≡ e ∷ log_of m (in_order ps) h
  place-own k e [] h at top = log_of-own m e [] h at
  place-own k e (p ∷ ps) h at top = go (nat_lt k p.0) refl (place-own k e ps h at top.1)
    where
      go : (b : Bool) → nat_lt k p.0 ≡ b → log_of m (in_order (place k e ps)) h ≡ e ∷ log_of m (in_order ps) h
          → log_of m (in_order (if b then p ∷ place k e ps else (k, e) ∷ p ∷ ps)) h ≡ e ∷ log_of m (p.1 ∷ in_order ps) h
      go true is rest =
          let apart : m.host p.1 ≢ h = λ same. omega (arith, test_lt k p.0 is, top.0 (same ∙ sym at)) in
          log_of-other m p.1 (in_order (place k e ps)) h apart
          ∙ (rest ∙ ap (λ w. e ∷ w) (sym (log_of-other m p.1 (in_order ps) h apart)))
      go false is rest = log_of-own m e (p.1 ∷ in_order ps) h at

  place-other : (k : ℕ) (e : E) (ps : List (ℕ × E)) (h : ℕ) → m.host e ≢ h
      → log_of m (in_order (place k e ps)) h ≡ log_of m (in_order ps) h
  place-other k e [] h other = log_of-other m e [] h other
  place-other k e (p ∷ ps) h other = go (nat_lt k p.0) (place-other k e ps h other)
    where
      go : (b : Bool) → log_of m (in_order (place k e ps)) h ≡ log_of m (in_order ps) h
          → log_of m (in_order (if b then p ∷ place k e ps else (k, e) ∷ p ∷ ps)) h ≡ log_of m (p.1 ∷ in_order ps) h
      go true rest = ap (λ w. if m.host p.1 == h then p.1 ∷ w else w) rest
      go false rest = log_of-other m e (p.1 ∷ in_order ps) h other

  module _ (rank : ℕ → List E → ℕ) where
    -- each step stays where it is to stand, and the new one stands so too
    placed_place : (k : ℕ) (e : E) (ps : List (ℕ × E)) → k ≡ rank (m.host e) (e ∷ log_of m (in_order ps) (m.host e))
        → IsTop k e ps
        → HasNoneAfter e (in_order ps) → IsByRank m rank ps → IsByRank m rank (place k e ps)
    placed_place k e [] is top none b = (record { is = is; rises = tt; stamps = tt }, tt)
    placed_place k e (p ∷ ps) is top none b = go (nat_lt k p.0) refl (λ is'. placed_place k e ps is' top.1 none.1 b.1)
      where
        h : ℕ
        h = m.host e

        -- the step in front is of another host, whose log the new one doesn't change
        front : k < p.0 → m.host p.1 ≢ h → IsPlaced m rank p (place k e ps)
        front lt apart = record {
          is = b.0.is ∙ ap (λ w. rank (m.host p.1) (p.1 ∷ w))
              (sym (place-other k e ps (m.host p.1) (λ same. apart (sym same))));
          rises = each_place (λ q. q.0 ≤ p.0) k e ps (omega (arith, lt)) b.0.rises;
          stamps = each_place (λ q. q.0 ≡ p.0 → is_after m q.1 p.1 ≡ false) k e ps
              (λ same. absurd (omega (arith, lt, same))) b.0.stamps;
        }

        back : p.0 ≤ k → IsPlaced m rank (k, e) (p ∷ ps)
        back le = record {
          is = is;
          rises = (le, each_map (λ q. q.0 ≤ p.0) (λ q. q.0 ≤ k) ps (λ q le'. omega (arith, le, le')) b.0.rises);
          stamps =
              each_map (λ q. is_after m q.1 e ≡ false) (λ q. q.0 ≡ k → is_after m q.1 e ≡ false) (p ∷ ps) (λ q n _. n)
              (each_of_order (λ f. is_after m f e ≡ false) (p ∷ ps) none);
        }

        go : (t : Bool) → nat_lt k p.0 ≡ t
            → (k ≡ rank h (e ∷ log_of m (in_order ps) h) → IsByRank m rank (place k e ps))
            → IsByRank m rank (if t then p ∷ place k e ps else (k, e) ∷ p ∷ ps)
        go true lt rest =
            let apart : m.host p.1 ≢ h = λ same. omega (arith, test_lt k p.0 lt, top.0 same) in (
              front (test_lt k p.0 lt) apart,
              rest
                  (is ∙ ap (λ w. rank h (e ∷ w)) (log_of-other m p.1 (in_order ps) h apart)),
            )
        go false le rest = (back (test_le k p.0 le), b)

    -- each split of the order is at such a place
    pub placed_at : (newer : List (ℕ × E)) (p : ℕ × E) (older : List (ℕ × E)) → IsByRank m rank (newer ++ p ∷ older)
        → IsPlaced m rank p older
    placed_at [] p older b = b.0
    placed_at (q ∷ newer) p older b = placed_at newer p older b.1

    -- p has the rank that its host had with it, in this log or before
    pub record IsRanked (es : List E) (p : ℕ × E) : Type 0 where
      pub before : List E
      pub past : IsPast (p.1 ∷ before) (log_of m es (m.host p.1))
      pub is : p.0 ≡ rank (m.host p.1) (p.1 ∷ before)

    module _ (causal : IsCausalRank m rank) where
      -- a rank doesn't fall along a log
      rank_rises : (es : List E) (h : ℕ) (log middle : List E) → Run m es → IsPast log middle
          → IsPast middle (log_of m es h)
          → rank h log ≤ rank h middle
      rank_rises [] h log middle run p q =
          subst (λ w. rank h log ≤ rank h w) (sym (nothing middle q))
          (subst (λ w. rank h w ≤ rank h []) (sym (nothing log (past_trans p q))) (omega arith))
        where
          nothing : (xs : List E) → IsPast xs [] → xs ≡ []
          nothing xs p = go p.newer p.is
            where
              go : (newer : List E) → [] ≡ newer ++ xs → xs ≡ []
              go [] is = sym is
              go (x ∷ newer) is = absurd cc
      rank_rises (e ∷ es) h log middle run p q =
          go (λ mid p q. rank_rises es h log mid run.0 p q) (cases_eq (m.host e) h)
        where
          Older : Type 0
          Older = (mid : List E) → IsPast log mid → IsPast mid (log_of m es h) → rank h log ≤ rank h mid

          step : m.host e ≡ h → rank h (log_of m es h) ≤ rank h (e ∷ log_of m es h)
          step at = subst (λ k. rank k (log_of m es k) ≤ rank k (e ∷ log_of m es k)) at (causal.along es e run.0 run.1)

          newest : Older → m.host e ≡ h → (e ∷ log_of m es h ≡ log) ⊎ IsPast log (log_of m es h)
              → rank h log ≤ rank h (e ∷ log_of m es h)
          newest older at (inl same) = subst (λ w. rank h w ≤ rank h (e ∷ log_of m es h)) same (omega arith)
          newest older at (inr r) = omega (arith, older (log_of m es h) r (past_self (log_of m es h)), step at)

          own : Older → m.host e ≡ h → (e ∷ log_of m es h ≡ middle) ⊎ IsPast middle (log_of m es h)
              → rank h log ≤ rank h middle
          own older at (inl same) = subst (λ w. rank h log ≤ rank h w) same
              (newest older at (past_cases e (subst (IsPast log) (sym same) p)))
          own older at (inr r) = older middle p r

          go : Older → (m.host e ≡ h) ⊎ (m.host e ≢ h) → rank h log ≤ rank h middle
          go older (inl at) = own older at (past_cases e (subst (IsPast middle) (log_of-own m e es h at) q))
          go older (inr other) = older middle p (subst (IsPast middle) (log_of-other m e es h other) q)

      -- of two steps of one log the one with the greater stamp has no lesser rank
      rank_by_stamp : (es : List E) (h : ℕ) (f s : E) (before middle : List E) → Run m es
          → IsPast (f ∷ before) (log_of m es h) → IsPast (s ∷ middle) (log_of m es h) → m.stamp f ≤ m.stamp s
          → rank h (f ∷ before) ≤ rank h (s ∷ middle)
      rank_by_stamp es h f s before middle run p q le = go (past_of_two p q)
        where
          l : IsLog m h (f ∷ before)
          l = log_past m h p ((logs_of_run m es run).local h)

          below : (f ∷ before ≡ s ∷ middle) ⊎ IsPast (s ∷ middle) before → rank h (f ∷ before) ≤ rank h (s ∷ middle)
          below (inl same) = subst (λ w. rank h (f ∷ before) ≤ rank h w) same (omega arith)
          below (inr r) =
              let under : m.stamp s ≤ last m h before = last_past m h r l.1 in
              absurd (omega (arith, le, under, step_above m h before f l.0))

          go : IsPast (f ∷ before) (s ∷ middle) ⊎ IsPast (s ∷ middle) (f ∷ before)
              → rank h (f ∷ before) ≤ rank h (s ∷ middle)
          go (inl r) = rank_rises es h (f ∷ before) (s ∷ middle) run r q
          go (inr r) = below (past_cases f r)

      -- the events with their ranks
      ranked_more : (es : List E) (e : E) (p : ℕ × E) → IsRanked es p → IsRanked (e ∷ es) p
      ranked_more es e p r = record {
        before = r.before;
        past = past_trans r.past (log_of-past m e es (m.host p.1));
        is = r.is;
      }

      ranked_events : (es : List E) → Each (IsRanked es) (by_rank m rank es)
      ranked_events [] = tt
      ranked_events (e ∷ es) =
          let h = m.host e in
          let k = rank h (e ∷ log_of m es h) in
          let log = log_of m es h in
          let past : IsPast (e ∷ log) (log_of m (e ∷ es) h) =
          subst (IsPast (e ∷ log)) (sym (log_of-own m e es h refl)) (past_self (e ∷ log)) in
          each_place (IsRanked (e ∷ es)) k e (by_rank m rank es) (record { before = log; past = past; is = refl })
          (each_map (IsRanked es) (IsRanked (e ∷ es)) (by_rank m rank es) (ranked_more es e) (ranked_events es))

      each_by_rank : (P : E → Type 0) (es : List E) → Each P es → Each (λ p. P p.1) (by_rank m rank es)
      each_by_rank P [] all = tt
      each_by_rank P (e ∷ es) all =
          each_place (λ p. P p.1) (rank (m.host e) (e ∷ log_of m es (m.host e))) e (by_rank m rank es) all.0
          (each_by_rank P es all.1)

      -- none of the host of the newest event has a greater rank
      top_rank : (es : List E) (e : E) → Run m es → Happens m es e
          → IsTop (rank (m.host e) (e ∷ log_of m es (m.host e))) e (by_rank m rank es)
      top_rank es e run happens = each_map (IsRanked es) IsUnder (by_rank m rank es) go (ranked_events es)
        where
          IsUnder : ℕ × E → Type 0
          IsUnder p = m.host p.1 ≡ m.host e → p.0 ≤ rank (m.host e) (e ∷ log_of m es (m.host e))

          go : (p : ℕ × E) → IsRanked es p → m.host p.1 ≡ m.host e → p.0 ≤ rank (m.host e) (e ∷ log_of m es (m.host e))
          go p r at =
              let h = m.host e in
              let past : IsPast (p.1 ∷ r.before) (log_of m es h) =
              subst (λ k. IsPast (p.1 ∷ r.before) (log_of m es k)) at r.past in
              let is : p.0 ≡ rank h (p.1 ∷ r.before) = subst (λ k. p.0 ≡ rank k (p.1 ∷ r.before)) at r.is in
              omega (
                arith,
                is,
                rank_rises es h (p.1 ∷ r.before) (log_of m es h) run past (past_self (log_of m es h)),
                causal.along es e run happens,
              )

      -- the logs of the events in their new order
      pub has_logs_by_rank : (es : List E) → Run m es → HasLogs m (in_order (by_rank m rank es)) (log_of m es)
      has_logs_by_rank [] run h = refl
      has_logs_by_rank (e ∷ es) run h = go (has_logs_by_rank es run.0 h) (cases_eq (m.host e) h)
        where
          k : ℕ
          k = rank (m.host e) (e ∷ log_of m es (m.host e))

          go : log_of m (in_order (by_rank m rank es)) h ≡ log_of m es h → (m.host e ≡ h) ⊎ (m.host e ≢ h)
              → log_of m (in_order (place k e (by_rank m rank es))) h ≡ log_of m (e ∷ es) h
          go rest (inl at) = place-own k e (by_rank m rank es) h at (top_rank es e run.0 run.1)
              ∙ (ap (λ w. e ∷ w) rest ∙ sym (log_of-own m e es h at))
          go rest (inr other) = place-other k e (by_rank m rank es) h other ∙ (rest ∙ sym (log_of-other m e es h other))

      -- and the pairs in their new order
      pub placed_by_rank : (es : List E) → IsInOrder es → Run m es → IsByRank m rank (by_rank m rank es)
      placed_by_rank [] o run = tt
      placed_by_rank (e ∷ es) o run =
          let h = m.host e in
          let k = rank h (e ∷ log_of m es h) in
          let is : k ≡ rank h (e ∷ log_of m (in_order (by_rank m rank es)) h) =
          ap (λ w. rank h (e ∷ w)) (sym (has_logs_by_rank es run.0 h)) in
          let none : HasNoneAfter e (in_order (by_rank m rank es)) = each_in_order (λ f. is_after m f e ≡ false)
          (by_rank m rank es) (each_by_rank (λ f. is_after m f e ≡ false) es o.0) in
          placed_place k e (by_rank m rank es) is (top_rank es e run.0 run.1) none (placed_by_rank es o.1 run.0)

      module _ (stamped : IsStamped m) where
        -- a signal that the newest event took was sent by a step before it
        sender : (es : List E) (e : E) → Run m es → Happens m es e → m.asked e ≡ false
            → IsSentBy m (m.from (m.signal e)) (m.host e) (log_of m es (m.from (m.signal e))) (m.signal e)
        sender es e run happens asked = record {
          step = s.step;
          before = s.before;
          past = go (cases_eq (m.host e) i);
          at = s.at;
          sends = s.sends;
        }
          where
            i : ℕ
            i = m.from (m.signal e)

            past : IsPast (e ∷ log_of m es (m.host e)) (log_of m (e ∷ es) (m.host e))
            past = subst (IsPast (e ∷ log_of m es (m.host e))) (sym (log_of-own m e es (m.host e) refl))
                (past_self (e ∷ log_of m es (m.host e)))

            sent : (s : IsSentBy m i (m.host e) (log_of m (e ∷ es) i) (m.signal e)) × (m.stamp s.step < m.stamp e)
            sent = stamps_rise m stamped (log_of m (e ∷ es)) (logs_more m es e happens (logs_of_run m es run))
                (m.host e) e (log_of m es (m.host e)) past asked

            s : IsSentBy m i (m.host e) (log_of m (e ∷ es) i) (m.signal e)
            s = sent.0

            own : (e ∷ log_of m es i ≡ s.step ∷ s.before) ⊎ IsPast (s.step ∷ s.before) (log_of m es i)
                → IsPast (s.step ∷ s.before) (log_of m es i)
            own (inl is) =
                let same : e ≡ s.step = cc in
                absurd (omega (arith, ap m.stamp same, sent.1))
            own (inr p) = p

            go : (m.host e ≡ i) ⊎ (m.host e ≢ i) → IsPast (s.step ∷ s.before) (log_of m es i)
            go (inl at) = own (past_cases e (subst (IsPast (s.step ∷ s.before)) (log_of-own m e es i at) s.past))
            go (inr other) = subst (IsPast (s.step ∷ s.before)) (log_of-other m e es i other) s.past

        -- the newest event may stand before each that has a greater rank
        module _ (es : List E) (e : E) (run : Run m es) (happens : Happens m es e) (p : ℕ × E) (r : IsRanked es p)
            (above : rank (m.host e) (e ∷ log_of m es (m.host e)) < p.0) where
          took_nothing : m.asked e ≡ false → m.from (m.signal e) ≡ m.host p.1 → m.sent_at (m.signal e) < m.stamp p.1
          took_nothing asked from = go (cases_lt (m.sent_at (m.signal e)) (m.stamp p.1))
            where
              i : ℕ
              i = m.from (m.signal e)

              s : IsSentBy m i (m.host e) (log_of m es i) (m.signal e)
              s = sender es e run happens asked

              past : IsPast (p.1 ∷ r.before) (log_of m es i)
              past = subst (λ k. IsPast (p.1 ∷ r.before) (log_of m es k)) (sym from) r.past

              is : p.0 ≡ rank i (p.1 ∷ r.before)
              is = subst (λ k. p.0 ≡ rank k (p.1 ∷ r.before)) (sym from) r.is

              go : (m.sent_at (m.signal e) < m.stamp p.1) ⊎ (m.stamp p.1 ≤ m.sent_at (m.signal e))
                  → m.sent_at (m.signal e) < m.stamp p.1
              go (inl lt) = lt
              go (inr le) =
                  let rises =
                  rank_by_stamp es i p.1 s.step r.before s.before run past s.past (omega (arith, le, s.at)) in
                  absurd (omega (arith, is, rises, causal.signals es e run happens asked s, above))

          made_nothing : m.host p.1 ≡ 0 → m.made (m.host e) < m.stamp p.1
          made_nothing first = go happens.there (cases_lt (m.made (m.host e)) (m.stamp p.1))
            where
              past : IsPast (p.1 ∷ r.before) (log_of m es 0)
              past = subst (λ k. IsPast (p.1 ∷ r.before) (log_of m es k)) first r.past

              is : p.0 ≡ rank 0 (p.1 ∷ r.before)
              is = subst (λ k. p.0 ≡ rank k (p.1 ∷ r.before)) first r.is

              l : IsLog m 0 (p.1 ∷ r.before)
              l = log_past m 0 past ((logs_of_run m es run).local 0)

              go : IsThere m (m.host e) (log_of m es 0)
                  → (m.made (m.host e) < m.stamp p.1) ⊎ (m.stamp p.1 ≤ m.made (m.host e))
                  → m.made (m.host e) < m.stamp p.1
              go there (inl lt) = lt
              go (inl start) (inr le) = absurd (omega (arith, start, le, step_above m 0 r.before p.1 l.0))
              go (inr d) (inr le) =
                  let rises =
                  rank_by_stamp es 0 p.1 d.step r.before d.before run past d.past (omega (arith, le, d.at)) in
                  let j = m.host e in
                  let grown =
                  rank_rises es j [] (log_of m es j) run (past_nil (log_of m es j)) (past_self (log_of m es j)) in
                  absurd (omega (
                    arith,
                    is,
                    rises,
                    causal.hosts es j run d,
                    grown,
                    causal.along es e run happens,
                    above,
                  ))

          may_precede : MayFollow m e p.1
          may_precede = record { took = took_nothing; made = made_nothing }

        -- the new order keeps to causes
        pub causal_by_rank : (es : List E) → Run m es → IsCausal m (in_order (by_rank m rank es))
        causal_by_rank [] run = tt
        causal_by_rank (e ∷ es) run =
            let k = rank (m.host e) (e ∷ log_of m es (m.host e)) in
            let ps = by_rank m rank es in
            let before : Each (λ p. MayFollow m p.1 e) ps =
            each_by_rank (λ f. MayFollow m f e) es (causal_of_run m stamped (e ∷ es) run).0 in
            let after : Each (λ p. k < p.0 → MayFollow m e p.1) ps =
            each_map (IsRanked es) (λ p. k < p.0 → MayFollow m e p.1) ps (λ p r lt. may_precede es e run.0 run.1 p r lt)
            (ranked_events es) in
            causal_place k e ps before after (causal_by_rank es run.0)

        -- a run in the order of (rank, stamp, host) is a run again
        pub run_by_rank : (es : List E) → Run m es → Run m (in_order (by_rank m rank es))
        run_by_rank es run = run_of_logs m stamped (in_order (by_rank m rank es)) (log_of m es)
            (has_logs_by_rank es run) (causal_by_rank es run) (logs_of_run m es run)

        pub ranked_run : (n : ℕ) (logs : ℕ → List E) → IsWithin n logs → AreLogs m logs
            → Run m (in_order (ranked m rank n logs)) × HasLogs m (in_order (ranked m rank n logs)) logs
            × IsByRank m rank (ranked m rank n logs)
        ranked_run n logs within a =
            let es = merged m n logs in
            let run : Run m es = merged_run m stamped n logs within a in
            let has : HasLogs m (in_order (by_rank m rank es)) logs =
            λ h. has_logs_by_rank es run h ∙ has_logs_merged m n logs (of_hosts m logs a) within h in
            (run_by_rank es run, has, placed_by_rank es (in_order_merged n logs) run)
