-- Of two right logs, one inside the other, the larger are the smaller and further events.
use Rattle.std.proofs.Common.{◌≡◌, ◌<◌, ◌≤◌, ℕ, zero, suc, false, List, [], ◌∷◌, ◌++◌, refl, sym, ap, ◌∙◌, subst, arith}
use Rattle.std.proofs.Math.Path.{fun_ext}
use Rattle.run_theory.specs.Lists.{Each, HasEntry}
use Rattle.run_theory.specs.Machine.{Machine, IsStamped}
use Rattle.run_theory.specs.Links.{taken}
use Rattle.run_theory.specs.Logs.{last, IsLog}
use Rattle.run_theory.specs.Runs.{log_of, Happens, Run, AreLogs, IsWithin}
use Rattle.run_theory.specs.Orders.{HasLogs, MayFollow, IsCausal, merged}
use Rattle.run_theory.specs.Cuts.{IsCut, IsClosed}
use Rattle.run_theory.specs.Along.{Grows}
use Rattle.run_theory.proofs.Pasts.{each_map, each_append, each_before, each_past, past_self, past_more}
use Rattle.run_theory.proofs.Links.{step_above, last_after}
use Rattle.run_theory.proofs.Runs.{logs_of_run, taken-step}
use Rattle.run_theory.proofs.Cuts.{closed_of_logs, taken_past}
use Rattle.run_theory.proofs.Orders.{run_in_order, each_event, causal_by_stamp, IsLater, later_in_log}
use Rattle.run_theory.proofs.Along.{within_cut}
use Rattle.run_theory.proofs.Merging.{AreOfHosts, Rises, each_insert_all, by_stamp_merged, has_logs_merged, log_at}
use Rattle.run_theory.proofs.Merging.{log_rises, log_of-append, merged_run, logs_merged}

module _ {E X : Type 0} (m : Machine E X) where
  rises_front : (xs ys : List E) → Rises m (xs ++ ys) → Rises m xs
  rises_front [] ys r = tt
  rises_front (x ∷ xs) ys r = (each_before (λ f. m.stamp f < m.stamp x) xs ys r.0, rises_front xs ys r.1)

  newer_above : (h : ℕ) (newer log : List E) → IsLog m h (newer ++ log) → Each (λ e. last m h log < m.stamp e) newer
  newer_above h [] log l = tt
  newer_above h (e ∷ newer) log l =
      (omega (arith, last_after m h newer log l.1, step_above m h (newer ++ log) e l.0), newer_above h newer log l.1)

  each_merged : (P : E → Type 0) (n : ℕ) (logs : ℕ → List E) → ((h : ℕ) → Each P (logs h)) → Each P (merged m n logs)
  each_merged P zero logs all = tt
  each_merged P (suc n) logs all = each_insert_all m P (logs n) (merged m n logs) (all n) (each_merged P n logs all)

  -- what holds of all that was taken, from any link, holds of the signal of each step that took it
  each_taker : (P : ℕ → X → Type 0) (log : List E) → ((i : ℕ) → Each (P i) (taken m i log))
      → Each (λ e. m.asked e ≡ false → P (m.from (m.signal e)) (m.signal e)) log
  each_taker P [] all = tt
  each_taker P (e ∷ log) all = (
    λ asked. own asked,
    each_taker P log
        (λ i. each_past (P i) (taken_past m i (past_more e (past_self log))) (all i)),
  )
    where
      own : m.asked e ≡ false → P (m.from (m.signal e)) (m.signal e)
      own asked =
          let i = m.from (m.signal e) in
          let h : Each (P i) (m.signal e ∷ taken m i log) =
          subst (Each (P i)) (taken-step m i e log asked refl) (all i) in
          h.0

  -- what an event of closed logs reads lies below the last stamps
  record IsInside (logs : ℕ → List E) (f : E) : Type 0 where
    took : m.asked f ≡ false → m.sent_at (m.signal f) ≤ last m (m.from (m.signal f)) (logs (m.from (m.signal f)))
    made : m.made (m.host f) ≤ last m 0 (logs 0)

  inside_log : (logs : ℕ → List E) (h : ℕ) → AreLogs m logs → IsClosed m logs → Each (IsInside logs) (logs h)
  inside_log logs h a closed = go (logs h) (a.local h) (closed.hosts h)
      (each_taker (λ i x. m.sent_at x ≤ last m i (logs i)) (logs h) (λ i. closed.signals i h))
    where
      Took : E → Type 0
      Took = λ e. m.asked e ≡ false → m.sent_at (m.signal e) ≤ last m (m.from (m.signal e)) (logs (m.from (m.signal e)))

      go : (log : List E) → IsLog m h log → (HasEntry log → m.made h ≤ last m 0 (logs 0)) → Each Took log
          → Each (IsInside logs) log
      go [] l there took = tt
      go (e ∷ log) l there took = (
        record {
          took = took.0;
          made = subst (λ k. m.made k ≤ last m 0 (logs 0)) (sym l.0.at)
              (there tt);
        },
        go log l.1 (λ has. there tt) took.1,
      )

  -- a further event follows the events of a closed cut
  follows_inside : (logs : ℕ → List E) (es : List E) (e : E) → Each (IsInside logs) es
      → last m (m.host e) (logs (m.host e)) < m.stamp e → Each (λ before. MayFollow m before e) es
  follows_inside logs [] e all above = tt
  follows_inside logs (f ∷ es) e all above = (record { took = took; made = made }, follows_inside logs es e all.1 above)
    where
      took : m.asked f ≡ false → m.from (m.signal f) ≡ m.host e → m.sent_at (m.signal f) < m.stamp e
      took asked from =
          let below : m.sent_at (m.signal f) ≤ last m (m.host e) (logs (m.host e)) =
          subst (λ k. m.sent_at (m.signal f) ≤ last m k (logs k)) from (all.0.took asked) in
          omega (arith, below, above)

      made : m.host e ≡ 0 → m.made (m.host f) < m.stamp e
      made first =
          let over : last m 0 (logs 0) < m.stamp e = subst (λ k. last m k (logs k) < m.stamp e) first above in
          omega (arith, over, all.0.made)

  causal_append : (more es : List E) → IsCausal m more → Each (λ e. Each (λ before. MayFollow m before e) es) more
      → IsCausal m es → IsCausal m (more ++ es)
  causal_append [] es c over c' = c'
  causal_append (e ∷ more) es c over c' =
      (each_append (λ before. MayFollow m before e) more es c.0 over.0, causal_append more es c.1 over.1 c')

  module _ (stamped : IsStamped m) where
    inside_run : (es : List E) → Run m es → Each (IsInside (log_of m es)) es
    inside_run es run =
        let a = logs_of_run m es run in
        each_event m (IsInside (log_of m es)) es
        (λ h. inside_log (log_of m es) h a (closed_of_logs m stamped (log_of m es) a))

    -- a run keeps to causes
    pub causal_of_run : (es : List E) → Run m es → IsCausal m es
    causal_of_run [] run = tt
    causal_of_run (e ∷ es) run = (
      follows_inside (log_of m es) es e (inside_run es run.0)
          (step_above m (m.host e) (log_of m es (m.host e)) e run.1.step),
      causal_of_run es run.0,
    )

    -- of two right logs, one inside the other, the larger are the smaller and further events
    pub grow : (n : ℕ) (es : List E) (large : ℕ → List E) → Run m es → IsWithin n large → AreLogs m large
        → IsCut (log_of m es) large → Grows m es large
    grow n es large run within a cut = record {
      more = more;
      run = run_in_order m stamped (more ++ es) causal (subst (AreLogs m) (sym (fun_ext has)) a);
      logs = has;
    }
      where
        newer : ℕ → List E
        newer h = (cut h).newer

        parts : (h : ℕ) → IsLog m h (newer h ++ log_of m es h)
        parts h = subst (IsLog m h) (cut h).is (a.local h)

        of_hosts : AreOfHosts m newer
        of_hosts = record {
          at = λ h. each_before (λ e. m.host e ≡ h) (newer h) (log_of m es h)
              (log_at m h (newer h ++ log_of m es h) (parts h));
          rises = λ h. rises_front (newer h) (log_of m es h) (log_rises m h (newer h ++ log_of m es h) (parts h));
        }

        empty : (xs ys : List E) → [] ≡ xs ++ ys → xs ≡ []
        empty [] ys is = refl
        empty (x ∷ xs) ys is = absurd cc

        within_newer : IsWithin n newer
        within_newer h le = empty (newer h) (log_of m es h) (sym (within h le) ∙ (cut h).is)

        more : List E
        more = merged m n newer

        has : HasLogs m (more ++ es) large
        has h = log_of-append m more es h
            ∙ (ap (λ w. w ++ log_of m es h) (has_logs_merged m n newer of_hosts within_newer h) ∙ sym (cut h).is)

        later : Each (IsLater m) more
        later = each_merged (IsLater m) n newer
            (λ h. each_before (IsLater m) (newer h) (log_of m es h)
            (later_in_log m h (newer h ++ log_of m es h) (parts h)))

        Above : E → Type 0
        Above = λ e. last m (m.host e) (log_of m es (m.host e)) < m.stamp e

        above_at : (h : ℕ) (log : List E) → Each (λ e. m.host e ≡ h) log
            → Each (λ e. last m h (log_of m es h) < m.stamp e) log → Each Above log
        above_at h [] at lt = tt
        above_at h (e ∷ log) at lt =
            (subst (λ k. last m k (log_of m es k) < m.stamp e) (sym at.0) lt.0, above_at h log at.1 lt.1)

        above : Each Above more
        above = each_merged Above n newer
            (λ h. above_at h (newer h) (of_hosts.at h) (newer_above h (newer h) (log_of m es h) (parts h)))

        over : Each (λ e. Each (λ before. MayFollow m before e) es) more
        over = each_map Above (λ e. Each (λ before. MayFollow m before e) es) more
            (λ e lt. follows_inside (log_of m es) es e (inside_run es run) lt) above

        causal : IsCausal m (more ++ es)
        causal = causal_append more es (causal_by_stamp m more later (by_stamp_merged m n newer)) over
            (causal_of_run es run)

    -- what further events keep holds of a larger cut where it holds of a smaller one
    along_more : (Q : (ℕ → List E) → Type 0)
        → ((es : List E) (e : E) → Run m es → Happens m es e → Q (log_of m es) → Q (log_of m (e ∷ es)))
        → (more es : List E) → Run m (more ++ es) → Q (log_of m es) → Q (log_of m (more ++ es))
    along_more Q step [] es run q = q
    along_more Q step (e ∷ more) es run q = step (more ++ es) e run.0 run.1 (along_more Q step more es run.0 q)

    pub along_cuts : (Q : (ℕ → List E) → Type 0)
        → ((es : List E) (e : E) → Run m es → Happens m es e → Q (log_of m es) → Q (log_of m (e ∷ es)))
        → (n : ℕ) (small large : ℕ → List E) → IsWithin n large → AreLogs m large → AreLogs m small → IsCut small large
        → Q small → Q large
    along_cuts Q step n small large within a a' cut q =
        let within' = within_cut m stamped n small large within cut in
        let es = merged m n small in
        let same : log_of m es ≡ small = logs_merged m n small within' a' in
        let run = merged_run m stamped n small within' a' in
        let grown = grow n es large run within a (subst (λ w. IsCut w large) (sym same) cut) in
        subst Q (fun_ext grown.logs) (along_more Q step grown.more es grown.run (subst Q (sym same) q))
