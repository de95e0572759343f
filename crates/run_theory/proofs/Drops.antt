-- A run is admitted by the machine with channels: what it loses at a stop is what is never taken.
use Rattle.std.proofs.Common.{◌≡◌, ◌≢◌, ◌⊎◌, ◌≤◌, ℕ, true, false, List, [], ◌∷◌, ◌++◌, if◌then◌else◌, refl, sym, ap}
use Rattle.std.proofs.Common.{◌∙◌, subst, inl, inr, arith, append_assoc}
use Rattle.std.proofs.lemmas.List.{append_cancel_right}
use Rattle.std.proofs.lemmas.Bool.{cases_eq, cases_Bool}
use Rattle.run_theory.specs.Lists.{IsIn, IsPast}
use Rattle.run_theory.specs.Machine.{Machine, IsStamped}
use Rattle.run_theory.specs.Links.{put, sent, taken, IsGiven}
use Rattle.run_theory.specs.Logs.{last, IsRunning, IsLog}
use Rattle.run_theory.specs.Runs.{log_of, Happens, Run}
use Rattle.run_theory.specs.Literal.{took, Drops, Puts, Leads, Admits}
use Rattle.run_theory.proofs.Pasts.{past_self, past_more, past_trans, each_in, in_past}
use Rattle.run_theory.proofs.Links.{step_above, sent_below}
use Rattle.run_theory.proofs.Runs.{log_of-own, log_of-other, log_of-past, given_taken, logs_of_run, if_true, if_false}
use Rattle.run_theory.proofs.Cuts.{taken_past}
use Rattle.run_theory.proofs.Channels.{taken-next, put-append, sent-runs, sent-stops}

module _ {E X : Type 0} (m : Machine E X) where
  -- what a channel holds and gave, by the log of its sender, where `left` is what a stop leaves of it
  abbrev whole : ℕ → ℕ → List X → List E → List X
  whole i j left [] = []
  whole i j left (e ∷ log) = if m.stops e then m.closing i log e j ∷ left else sent m i j (e ∷ log)

  whole-runs : (i j : ℕ) (left : List X) (log : List E) → IsRunning m log → whole i j left log ≡ sent m i j log
  whole-runs i j left [] runs = refl
  whole-runs i j left (e ∷ log) runs = if_false (m.closing i log e j ∷ left) (sent m i j (e ∷ log)) runs

  whole-stops : (i j : ℕ) (left : List X) (e : E) (log : List E) → m.stops e ≡ true
      → whole i j left (e ∷ log) ≡ m.closing i log e j ∷ left
  whole-stops i j left e log stops = if_true (m.closing i log e j ∷ left) (sent m i j (e ∷ log)) stops

  -- what a stop leaves is some of what was sent, and serves for all that was taken
  pub record Serves (i j : ℕ) (left : List X) (e : E) (log : List E) (had : List X) : Type 0 where
    pub past : IsPast left (sent m i j (e ∷ log))
    pub gave : IsPast had (m.closing i log e j ∷ left)

  abbrev ServesStop : ℕ → ℕ → List X → List E → List X → Type 0
  ServesStop i j left [] had = Unit {0}
  ServesStop i j left (e ∷ log) had = m.stops e ≡ true → Serves i j left e log had

  -- what was taken is an older part of the whole
  had_whole : (i j : ℕ) (left : List X) (log : List E) (had : List X) → ServesStop i j left log had
      → IsGiven m i j log had → IsPast had (whole i j left log)
  had_whole i j left [] had serves (inl p) = p
  had_whole i j left [] had serves (inr c) = absurd c
  had_whole i j left (e ∷ log) had serves g = go (cases_Bool (m.stops e)) g
    where
      go : (m.stops e ≡ true) ⊎ (m.stops e ≡ false) → IsGiven m i j (e ∷ log) had
          → IsPast had (whole i j left (e ∷ log))
      go (inl stop) g = subst (IsPast had) (sym (whole-stops i j left e log stop)) (serves stop).gave
      go (inr run) (inl p) = subst (IsPast had) (sym (whole-runs i j left (e ∷ log) run)) p
      go (inr run) (inr c) = absurd (cc (run, c.stops))

  -- a choice of what each channel is left with
  abbrev AllServe : (ℕ → ℕ → List X) → List E → Type 0
  AllServe left es = (i j : ℕ) → ServesStop i j (left i j) (log_of m es i) (taken m i (log_of m es j))

  -- it serves one event before: a host that had stopped then made no more steps
  serves_taken : (es : List E) (e : E) (left : List X) (i j : ℕ) (had : List X) → Happens m es e
      → ServesStop i j left (log_of m (e ∷ es) i) had → ServesStop i j left (log_of m es i) had
  serves_taken es e left i j had happens serves = go (cases_eq (m.host e) i)
    where
      still : (log : List E) → IsRunning m log → ServesStop i j left log had
      still [] runs = tt
      still (f ∷ log) runs = λ stop. absurd (cc (runs, stop))

      go : (m.host e ≡ i) ⊎ (m.host e ≢ i) → ServesStop i j left (log_of m es i) had
      go (inl at) = still (log_of m es i) (subst (λ k. IsRunning m (log_of m es k)) at happens.step.runs)
      go (inr at) = subst (λ w. ServesStop i j left w had) (log_of-other m e es i at) serves

  serves_less : (i j : ℕ) (left : List X) (log : List E) {had more : List X} → IsPast had more
      → ServesStop i j left log more → ServesStop i j left log had
  serves_less i j left [] p serves = tt
  serves_less i j left (e ∷ log) p serves = λ stop. record {
    past = (serves stop).past;
    gave = past_trans p (serves stop).gave;
  }

  -- what waits in the channels after a run
  waits : (es : List E) (left : ℕ → ℕ → List X) → Run m es → AllServe left es → (i j : ℕ)
      → IsPast (taken m i (log_of m es j)) (whole i j (left i j) (log_of m es i))
  waits es left run serves i j = had_whole i j (left i j) (log_of m es i) (taken m i (log_of m es j)) (serves i j)
      ((logs_of_run m es run).linked i j)

  -- and what waits once the next event has taken its signal
  waits_between : (es : List E) (e : E) (left : ℕ → ℕ → List X) → Run m es → Happens m es e → AllServe left (e ∷ es)
      → (i j : ℕ) → IsPast (taken m i (log_of m (e ∷ es) j)) (whole i j (left i j) (log_of m es i))
  waits_between es e left run happens serves i j =
      let had = taken m i (log_of m (e ∷ es) j) in
      had_whole i j (left i j) (log_of m es i) had (serves_taken es e (left i j) i j had happens (serves i j))
      (given_taken m es e i j happens ((logs_of_run m es run).linked i j))

  all_serve_before : (es : List E) (e : E) (left : ℕ → ℕ → List X) → Happens m es e → AllServe left (e ∷ es)
      → AllServe left es
  all_serve_before es e left happens serves i j =
      let had = taken m i (log_of m (e ∷ es) j) in
      serves_less i j (left i j) (log_of m es i) (taken_past m i (log_of-past m e es j))
      (serves_taken es e (left i j) i j had happens (serves i j))

  -- two lists in front of the same one
  takes_between : (es : List E) (e : E) (left : ℕ → ℕ → List X) (i j : ℕ)
      → (p : IsPast (taken m i (log_of m es j)) (whole i j (left i j) (log_of m es i)))
      (q : IsPast (taken m i (log_of m (e ∷ es) j)) (whole i j (left i j) (log_of m es i)))
      → p.newer ≡ q.newer ++ took m i j e
  takes_between es e left i j p q =
      let had = taken m i (log_of m es j) in
      append_cancel_right p.newer (q.newer ++ took m i j e) had
      (sym p.is ∙ (q.is ∙ (ap (λ w. q.newer ++ w) (taken-next m es e i j) ∙ sym
      (append_assoc q.newer (took m i j e) had))))

  module _ (stamped : IsStamped m) where
    -- the signals of a host that stops don't hold the closing
    no_closing : (i j : ℕ) (e : E) (log : List E) (had left : List X) → IsLog m i (e ∷ log)
        → IsPast had (sent m i j log) → had ≡ m.closing i log e j ∷ left → ⊥
    no_closing i j e log had left l p is =
        let inside : IsIn (m.closing i log e j) (sent m i j log) =
        in_past (m.closing i log e j) p (subst (IsIn (m.closing i log e j)) (sym is) (inl refl)) in
        let below : m.sent_at (m.closing i log e j)
        ≤ last m i log = each_in (λ y. m.sent_at y ≤ last m i log) (m.closing i log e j) (sent m i j log)
        (sent_below m stamped i j log l.1) inside in
        omega (arith, below, stamped.closing i log e j, step_above m i log e l.0)

    -- the channel of a host that stops keeps what is left, and is closed
    drops_at : (i j : ℕ) (e : E) (log : List E) (left had between after : List X) → IsLog m i (e ∷ log)
        → m.stops e ≡ true → Serves i j left e log had
        → sent m i j log ≡ between ++ had → m.closing i log e j ∷ left ≡ after ++ had → Drops m i log e j between after
    drops_at i j e log left had between [] l stop serves is is' =
        absurd (no_closing i j e log had left l (record { newer = between; is = is }) (sym is'))
    drops_at i j e log left had between (x ∷ kept) l stop serves is is' =
        let same : x ≡ m.closing i log e j = cc (is') in
        let rest : left ≡ kept ++ had = cc (is') in
        let p = serves.past in
        let all : between ++ had ≡ (p.newer ++ kept)
        ++ had = sym is ∙ (sym (sent-stops m i j log e stop) ∙
        (p.is ∙ (ap (λ w. p.newer ++ w) rest ∙ sym (append_assoc p.newer kept had)))) in
        record {
          kept = kept;
          past = record { newer = p.newer; is = append_cancel_right between (p.newer ++ kept) had all };
          is = ap (λ y. y ∷ kept) same;
        }

    runs_at : (i j : ℕ) (e : E) (log : List E) (had between after : List X) → m.stops e ≡ false
        → sent m i j log ≡ between ++ had → sent m i j (e ∷ log) ≡ after ++ had
        → after ≡ put m j (m.sends i log e) between
    runs_at i j e log had between after run is is' =
        append_cancel_right after (put m j (m.sends i log e) between) had
        (sym is' ∙ (sent-runs m i j log e run ∙ (ap (put m j (m.sends i log e)) is ∙ put-append m j (m.sends i log e)
        between had)))

    puts_at : (es : List E) (e : E) (left : ℕ → ℕ → List X) → Run m (e ∷ es) → AllServe left (e ∷ es)
        → (q : (i j : ℕ) → IsPast (taken m i (log_of m (e ∷ es) j)) (whole i j (left i j) (log_of m es i)))
        → (r : (i j : ℕ) → IsPast (taken m i (log_of m (e ∷ es) j)) (whole i j (left i j) (log_of m (e ∷ es) i)))
        → Puts m (log_of m es (m.host e)) e (λ i j. (q i j).newer) (λ i j. (r i j).newer)
    puts_at es e left run serves q r = record { others = others; runs = runs; stops = stops }
      where
        h : ℕ
        h = m.host e

        log : List E
        log = log_of m es h

        own : log_of m (e ∷ es) h ≡ e ∷ log
        own = log_of-own m e es h refl

        l : IsLog m h (e ∷ log)
        l = subst (IsLog m h) own ((logs_of_run m (e ∷ es) run).local h)

        had : ℕ → List X
        had j = taken m h (log_of m (e ∷ es) j)

        before : (j : ℕ) → sent m h j log ≡ (q h j).newer ++ had j
        before j = sym (whole-runs h j (left h j) log l.0.runs) ∙ (q h j).is

        others : (i j : ℕ) → h ≢ i → (r i j).newer ≡ (q i j).newer
        others i j at =
            append_cancel_right (r i j).newer (q i j).newer (taken m i (log_of m (e ∷ es) j))
            (sym (r i j).is ∙ (ap (whole i j (left i j)) (log_of-other m e es i at) ∙ (q i j).is))

        runs : m.stops e ≡ false → (j : ℕ) → (r h j).newer ≡ put m j (m.sends h log e) (q h j).newer
        runs run j =
            runs_at h j e log (had j) (q h j).newer (r h j).newer run (before j)
            (sym (whole-runs h j (left h j) (e ∷ log) run) ∙ (ap (whole h j (left h j)) (sym own) ∙ (r h j).is))

        stops : m.stops e ≡ true → (j : ℕ) → Drops m h log e j (q h j).newer (r h j).newer
        stops stop j =
            let serve : Serves h j (left h j) e log (had j) =
            subst (λ w. ServesStop h j (left h j) w (had j)) own (serves h j) stop in
            drops_at h j e log (left h j) (had j) (q h j).newer (r h j).newer l stop serve (before j)
            (sym (whole-stops h j (left h j) e log stop) ∙ (ap (whole h j (left h j)) (sym own) ∙ (r h j).is))

    leads_of_run : (es : List E) (left : ℕ → ℕ → List X) (run : Run m es) (serves : AllServe left es)
        → Leads m es (λ i j. (waits es left run serves i j).newer)
    leads_of_run [] left run serves = λ i j. none (waits [] left run serves i j)
      where
        none : (p : IsPast {A = X} [] []) → p.newer ≡ []
        none p = go p.newer p.is
          where
            go : (newer : List X) → [] ≡ newer ++ [] → newer ≡ []
            go [] is = refl
            go (x ∷ newer) is = absurd cc
    leads_of_run (e ∷ es) left run serves =
        let serves' = all_serve_before es e left run.1 serves in
        let p = waits es left run.0 serves' in
        let q = waits_between es e left run.0 run.1 serves in (
          λ i j. (p i j).newer,
          leads_of_run es left run.0 serves',
          record {
            step = run.1.step;
            there = run.1.there;
            between = λ i j. (q i j).newer;
            takes = λ i j. takes_between es e left i j (p i j) (q i j);
            puts = puts_at es e left run serves q (waits (e ∷ es) left run serves);
          },
        )

    -- a stop leaves what is taken before the closing, or all where the closing is never taken
    plan : (i j : ℕ) (log : List E) (had : List X) → IsGiven m i j log had → List X
    plan i j log had (inl p) = sent m i j log
    plan i j [] had (inr c) = absurd c
    plan i j (e ∷ log) had (inr c) = c.rest

    plan_serves : (i j : ℕ) (log : List E) (had : List X) (g : IsGiven m i j log had)
        → ServesStop i j (plan i j log had g) log had
    unfolding plan
    plan_serves i j [] had g = tt
    plan_serves i j (e ∷ log) had (inl p) = λ stop. record {
      past = past_self (sent m i j (e ∷ log));
      gave = past_more (m.closing i log e j) p;
    }
    plan_serves i j (e ∷ log) had (inr c) = λ stop. record {
      past = c.past;
      gave = subst (λ w. IsPast w (m.closing i log e j ∷ c.rest)) (sym c.is)
          (past_self (m.closing i log e j ∷ c.rest));
    }

    -- the machine with channels admits every run
    pub channels_of_run : (es : List E) → Run m es → Admits m es
    channels_of_run es run =
        let a = logs_of_run m es run in
        let left : ℕ → ℕ → List X = λ i j. plan i j (log_of m es i) (taken m i (log_of m es j)) (a.linked i j) in
        let serves : AllServe left es =
        λ i j. plan_serves i j (log_of m es i) (taken m i (log_of m es j)) (a.linked i j) in
        (λ i j. (waits es left run serves i j).newer, leads_of_run es left run serves)
