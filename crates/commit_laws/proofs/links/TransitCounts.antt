-- What is in transit was sent, and of each kind of signals but closings it is what was sent and wasn't taken.
use Rattle.std.proofs.Common.{◌≡◌, ◌+◌, ◌||◌, ◌++◌, ℕ, Bool, true, false, List, [], ◌∷◌, refl, sym, ap, ◌∙◌, subst, inl}
use Rattle.std.proofs.Common.{inr, arith}
use Rattle.std.proofs.lemmas.Bool.{eq-eqb}
use Rattle.std.specs.List.{count_by}
use Rattle.std.specs.Prelude.{◌==◌, if◌then◌else◌}
use Rattle.run_theory.proofs.Links.{put_past, sent_more}
use Rattle.run_theory.proofs.Pasts.{each_after, each_append, each_before, each_from, each_in, each_past, in_past}
use Rattle.run_theory.proofs.Pasts.{past_self, past_trans}
use Rattle.run_theory.proofs.Runs.{log_of-own, log_of-past}
use Rattle.run_theory.proofs.Tally.{tally_between, tally_in}
use Rattle.run_theory.specs.Counts.{tally}
use Rattle.run_theory.specs.Links.{put, sent, sent_by}
use Rattle.run_theory.specs.Lists.{Each, IsIn, IsPast}
use Rattle.run_theory.specs.Machine.{Machine}
use Rattle.sig_core.specs.declared.signal.Signal.{Signal}
use Rattle.tc_block.specs.Complete.{one_if}
use Rattle.host_laws.proofs.hosts.Sums.{total_zero}
use Rattle.world_core.specs.Hosts.{hosts}
use Rattle.world_core.specs.Start.{Start}
use Rattle.world_core.specs.Steps.{Addressed, HostStep}
use Rattle.run_laws.specs.Transit.{taken_by}
use Rattle.run_laws.proofs.transit.Lists.{tally_joined}
use Rattle.view_laws.specs.Order.{sound_machine}
use Rattle.moment_laws.specs.Moments.{IsMoment, logs_of}
use Rattle.moment_laws.proofs.MomentViews.{moment_less}
use Rattle.outcome_laws.proofs.coordinators.Lists.{count_more}
use Rattle.request_laws.specs.Tokens.{all_sent, all_taken}
use Rattle.request_laws.proofs.tokens.Rows.{one_same}
use Rattle.request_laws.proofs.tokens.FirstInView.{all_sent_more, all_taken_more, taken_now}
use Rattle.commit_laws.specs.Transit.{AreInTransit, Takes, is_closing}

module _ (start : Start) where
  abbrev n : Machine HostStep Addressed
  n = sound_machine start

  sent_grows : (i j : ℕ) (newer log : List HostStep) → IsPast (sent n i j log) (sent n i j (newer ++ log))
  sent_grows i j [] log = past_self (sent n i j log)
  sent_grows i j (e ∷ newer) log = past_trans (sent_grows i j newer log) (sent_more n i j (newer ++ log) e)

  sent_past : (i j : ℕ) (log more : List HostStep) → IsPast log more → IsPast (sent n i j log) (sent n i j more)
  sent_past i j log more past =
      subst (λ all. IsPast (sent n i j log) (sent n i j all)) (sym past.is) (sent_grows i j past.newer log)

  -- what is put on a link is on it
  pub put_in : (x : Addressed) (sends before : List Addressed) → IsIn x sends → IsIn x (put n x.to sends before)
  put_in x [] before there = absurd there
  put_in x (y ∷ sends) before (inl is) =
      in_past x (put_past n x.to sends (if y.to == x.to then y ∷ before else before))
      (subst (λ b. IsIn x (if b then y ∷ before else before))
      (sym (eq-eqb y.to x.to (ap (λ (z : Addressed). z.to) (sym is))))
      (inl is))
  put_in x (y ∷ sends) before (inr there) = put_in x sends (if y.to == x.to then y ∷ before else before) there

  module _ (P : Addressed → Type 0) where
    abbrev pub EachSent : List HostStep → Type 0
    EachSent es = (i j : ℕ) → Each P (sent n i j (logs_of start es i))

    -- what is told of all that was sent by an event is told of what it sends
    pub event_sent : (e : HostStep) (es : List HostStep) → EachSent (e ∷ es)
        → Each P (sent_by n e.host (logs_of start es e.host) e)
    event_sent e es all =
        each_from P (sent_by n e.host (logs_of start es e.host) e)
        (λ x there.
        each_in P x (sent n e.host x.to (logs_of start (e ∷ es) e.host)) (all e.host x.to)
        (subst (λ log. IsIn x (sent n e.host x.to log)) (sym (log_of-own n e es e.host refl))
        (put_in x (sent_by n e.host (logs_of start es e.host) e) (sent n e.host x.to (logs_of start es e.host)) there)))

    -- and was told of what was sent before
    sent_before : (e : HostStep) (es : List HostStep) → EachSent (e ∷ es) → EachSent es
    sent_before e es all i j =
        each_past P (sent_past i j (logs_of start es i) (logs_of start (e ∷ es) i) (log_of-past n e es i)) (all i j)

    pub takes_less : (e : HostStep) (before between : List Addressed) → Takes start e before between → Each P before
        → Each P between
    takes_less e before between takes all = by (n.asked e || is_closing e.step.taken.body) refl
      where
        by : (b : Bool) → (n.asked e || is_closing e.step.taken.body) ≡ b → Each P between
        by true is = subst (Each P) (sym (takes.alone is)) all
        by false is =
            let t = takes.signal is in
            let parts = subst (Each P) t.is all in
            subst (Each P) (sym t.left)
            (each_append P t.front t.back (each_before P t.front (taken_by e ∷ t.back) parts)
            (each_after P t.front (taken_by e ∷ t.back) parts).1)

    -- and of the signal that an event takes from a link, but for closings
    pub each_taken : (e : HostStep) (before between : List Addressed) → Takes start e before between
        → (n.asked e || is_closing e.step.taken.body) ≡ false → Each P before → P (taken_by e)
    each_taken e before between takes is all =
        let t = takes.signal is in
        (each_after P t.front (taken_by e ∷ t.back) (subst (Each P) t.is all)).0

  module _ (p : Signal → Bool) (open_ : (x : Signal) → is_closing x.body ≡ true → p x ≡ false) where
    abbrev pub passes_by : Addressed → Bool
    passes_by x = p x.signal

    tally_is : (xs : List Addressed) → tally passes_by xs ≡ count_by passes_by xs
    tally_is [] = refl
    tally_is (x ∷ xs) = omega (arith, tally_is xs, count_more passes_by x xs, one_same (p x.signal))

    module _ (all : ℕ → List HostStep) (e : HostStep) (es : List HostStep) (moment : IsMoment start all (e ∷ es)) where
      between_counts : (before between : List Addressed) → Takes start e before between
          → tally passes_by before ≡ tally passes_by between + taken_now start all e es moment p
      between_counts before between takes = by (n.asked e) (is_closing e.step.taken.body) refl refl
        where
          by : (asked closing : Bool) → n.asked e ≡ asked → is_closing e.step.taken.body ≡ closing
              → tally passes_by before ≡ tally passes_by between + (if n.asked e then 0 else one_if (p e.step.taken))
          by true closing is also =
              let same = takes.alone (ap (λ b. b || is_closing e.step.taken.body) is) in
              let none : (if n.asked e then 0 else one_if (p e.step.taken)) ≡ 0 =
              ap (λ b. if b then 0 else one_if (p e.step.taken)) is in
              omega (arith, ap (tally passes_by) same, none)
          by false true is also =
              let same = takes.alone (ap (λ b. b || is_closing e.step.taken.body) is ∙ also) in
              let none : (if n.asked e then 0 else one_if (p e.step.taken)) ≡ 0 =
              ap (λ b. if b then 0 else one_if (p e.step.taken)) is ∙ ap one_if (open_ e.step.taken also) in
              omega (arith, ap (tally passes_by) same, none)
          by false false is also =
              let t = takes.signal (ap (λ b. b || is_closing e.step.taken.body) is ∙ also) in
              let one : (if n.asked e then 0 else one_if (p e.step.taken)) ≡ one_if (p e.step.taken) =
              ap (λ b. if b then 0 else one_if (p e.step.taken)) is in
              let count = tally_between passes_by t.front (taken_by e) t.back before t.is in
              omega (arith, count, ap (tally passes_by) t.left, one, one_same (p e.step.taken))

    -- of these signals so many are in transit as were sent less those that were taken
    pub transit_counts : (all : ℕ → List HostStep) (es : List HostStep) → IsMoment start all es → (xs : List Addressed)
        → AreInTransit start es xs
        → tally passes_by xs + all_taken start p (logs_of start es) ≡ all_sent start p (logs_of start es)
    transit_counts all [] moment xs none =
        omega (arith, ap (tally passes_by) none, nothing_taken, nothing_sent)
      where
        nothing_taken : all_taken start p (logs_of start []) ≡ 0
        nothing_taken = total_zero (hosts start) (λ h. 0) (λ h. refl)

        nothing_sent : all_sent start p (logs_of start []) ≡ 0
        nothing_sent = total_zero (hosts start) (λ h. 0) (λ h. refl)
    transit_counts all (e ∷ es) moment xs (before, (rest, passes)) =
        omega (
          arith,
          transit_counts all es (moment_less start all e es moment) before rest,
          between_counts all e es moment before passes.between passes.takes,
          ap (tally passes_by) passes.is,
          tally_joined passes_by (sent_by n e.host (logs_of start es e.host) e) passes.between,
          tally_is (sent_by n e.host (logs_of start es e.host) e),
          all_sent_more start all e es moment p,
          all_taken_more start all e es moment p,
        )

    none_counted : (ys : List Addressed) → tally passes_by ys ≡ 0 → Each (λ (y : Addressed). p y.signal ≡ false) ys
    none_counted [] none = tt
    none_counted (y ∷ ys) none = (by (p y.signal) refl, none_counted ys (omega (arith, none)))
      where
        by : (b : Bool) → p y.signal ≡ b → p y.signal ≡ false
        by false is = is
        by true is = let some = tally_in passes_by y (y ∷ ys) (inl refl) is in absurd (omega (arith, none, some))

    -- where all that were sent were taken none is in transit
    pub none_in_transit : (all : ℕ → List HostStep) (es : List HostStep) → IsMoment start all es → (xs : List Addressed)
        → AreInTransit start es xs → all_sent start p (logs_of start es) ≡ all_taken start p (logs_of start es)
        → Each (λ (x : Addressed). p x.signal ≡ false) xs
    none_in_transit all es moment xs transit same =
        none_counted xs (omega (arith, transit_counts all es moment xs transit, same))

    -- where the only one is taken none is left
    pub none_left : (all : ℕ → List HostStep) (e : HostStep) (es : List HostStep) → IsMoment start all (e ∷ es)
        → (before between : List Addressed) → AreInTransit start es before → Takes start e before between
        → all_sent start p (logs_of start es) ≡ all_taken start p (logs_of start es) + 1 → n.asked e ≡ false
        → p e.step.taken ≡ true → Each (λ (x : Addressed). p x.signal ≡ false) between
    none_left all e es moment before between transit takes alone asked is =
        let one : (if n.asked e then 0 else one_if (p e.step.taken)) ≡ 1 =
        ap (λ b. if b then 0 else one_if (p e.step.taken)) asked ∙ ap one_if is in
        none_counted between
        (omega (
          arith,
          transit_counts all es (moment_less start all e es moment) before transit,
          between_counts all e es moment before between takes,
          alone,
          one,
        ))
