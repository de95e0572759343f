-- A command at which one signal at a time is under way: what a host does at it follows from the signal before, and
-- where
-- none follows the command is done.
use Rattle.std.proofs.Common.{◌≡◌, ◌≢◌, ◌⊎◌, ◌+◌, ◌<◌, ◌≤◌, ◌==◌, ℕ, zero, suc, Bool, true, false, List, [], ◌∷◌, ◌++◌}
use Rattle.std.proofs.Common.{if◌then◌else◌, length, refl, sym, ap, ◌∙◌, subst, inl, inr, length-append, eq-eqb, ne_eqb}
use Rattle.std.proofs.Common.{arith}
use Rattle.std.proofs.lemmas.Bool.{cases_eq, cases_lt}
use Rattle.run_theory.proofs.Growth.{along_cuts}
use Rattle.run_theory.proofs.Pasts.{past_cases, past_self, past_trans}
use Rattle.run_theory.proofs.Runs.{if_false, if_true, log_of-other, log_of-own, log_of-past, taken-asked, taken-other}
use Rattle.run_theory.proofs.Runs.{taken-step}
use Rattle.run_theory.specs.Cuts.{IsCut}
use Rattle.run_theory.specs.Links.{put, sent, taken}
use Rattle.run_theory.specs.Lists.{IsPast}
use Rattle.run_theory.specs.Machine.{Machine}
use Rattle.run_theory.specs.Runs.{Happens, Run, log_of}
use Rattle.sig_core.specs.declared.outs.Outgoing.{Outgoing}
use Rattle.sig_core.specs.declared.request.ApiReq.{ApiReq}
use Rattle.node_core.specs.Requests.{is_request}
use Rattle.world_core.proofs.HostNumbers.{given_past}
use Rattle.world_core.proofs.Stamped.{stamped}
use Rattle.world_core.specs.Hosts.{first_membership, host_for, first_hosts}
use Rattle.world_core.specs.Machine.{addressed, all_addressed, machine, sent_count, step_after}
use Rattle.world_core.specs.Quiet.{IsQuiet}
use Rattle.world_core.specs.Start.{Start}
use Rattle.world_core.specs.Steps.{Addressed, HostStep}
use Rattle.run_theory.proofs.Tally.{tally_append, tally_none, tally_past}
use Rattle.run_theory.specs.Counts.{one_if, tally}
use Rattle.command_laws.proofs.quiet.First.{IsFirst, fits_asked, with_first}
use Rattle.command_laws.specs.Served.{IsServedBetween}

-- a list isn't an older part of what is shorter
pub longer : {A : Type 0} (x : A) (xs : List A) → IsPast (x ∷ xs) xs → ⊥
longer x xs past = omega (arith, ap length past.is, length-append past.newer (x ∷ xs))

first_of : {A : Type 0} (x y : A) (xs : List A) → IsPast (x ∷ xs) (y ∷ xs) → x ≡ y
first_of x y xs past = by (past_cases y past)
  where
    by : (y ∷ xs ≡ x ∷ xs) ⊎ IsPast (x ∷ xs) xs → x ≡ y
    by (inl same) = cc
    by (inr shorter) = absurd (longer x xs shorter)

-- one signal alone is under way
pub record IsUnderWay (start : Start) (logs : ℕ → List HostStep) (x : Addressed) : Type 0 where
  pub from : x.signal.from.0 < first_hosts start
  pub to : x.to < first_hosts start
  pub ahead : sent (machine start) x.signal.from.0 x.to (logs x.signal.from.0)
      ≡ x ∷ taken (machine start) x.signal.from.0 (logs x.to)
  pub others : (i j : ℕ) → i < first_hosts start → j < first_hosts start → (i ≡ x.signal.from.0 → j ≡ x.to → ⊥)
      → taken (machine start) i (logs j) ≡ sent (machine start) i j (logs i)

-- the logs with one more step
pub record IsNext (before after : ℕ → List HostStep) (e : HostStep) : Type 0 where
  pub own : after e.host ≡ e ∷ before e.host
  pub others : (h : ℕ) → e.host ≢ h → after h ≡ before h

-- the signal with which a command goes on
pub record GoesOn (start : Start) (P : Addressed → (ℕ → List HostStep) → Type 0) (sends : List Outgoing)
    (logs : ℕ → List HostStep) : Type 0 where
  pub out : Outgoing
  pub is : sends ≡ out ∷ []
  pub there : host_for start out.to < first_hosts start
  pub holds : (y : Addressed) → y.to ≡ host_for start out.to → y.signal.to ≡ out.to → y.signal.body ≡ out.body
      → P y logs

-- P is so of the signal that is under way, and the logs then; D is so of the logs when the command is done
module _ (start : Start) (P : Addressed → (ℕ → List HostStep) → Type 0) (D : (ℕ → List HostStep) → Type 0) where
  abbrev m : Machine HostStep Addressed
  m = machine start

  -- a step ends the command, or sends one signal with which it goes on
  abbrev pub Leads : (ℕ → List HostStep) → (ℕ → List HostStep) → HostStep → Type 0
  Leads before after e =
      ((step_after start e.host (before e.host) e).effects.sends ≡ []) × D after
      ⊎ GoesOn start P (step_after start e.host (before e.host) e).effects.sends after

  -- one signal is under way, or the command is done
  abbrev pub IsPhase : (ℕ → List HostStep) → Type 0
  IsPhase logs =
      ((x : Addressed) × (IsUnderWay start logs x × P x logs)) ⊎ (IsQuiet m (first_hosts start) logs × D logs)

  module _ (before after : ℕ → List HostStep) (e : HostStep) (next : IsNext before after e)
      (low : e.host < first_hosts start) where
    abbrev sends : List Outgoing
    sends = (step_after start e.host (before e.host) e).effects.sends

    -- after the step all is taken that was sent before it
    abbrev AllTaken : Type 0
    AllTaken = (i j : ℕ) → i < first_hosts start → j < first_hosts start → taken m i (after j) ≡ sent m i j (before i)

    -- what is so of the log of its host, and of the others as they were
    next_each : (Q : ℕ → List HostStep → Type 0) → Q e.host (e ∷ before e.host)
        → ((h : ℕ) → e.host ≢ h → Q h (before h)) → (h : ℕ) → Q h (after h)
    next_each Q own others h = by (cases_eq e.host h)
      where
        by : (e.host ≡ h) ⊎ (e.host ≢ h) → Q h (after h)
        by (inl at) = subst (λ k. Q k (after k)) at (subst (Q e.host) (sym next.own) own)
        by (inr off) = subst (Q h) (sym (next.others h off)) (others h off)

    -- what it sends to a host
    sent_put : (os : List Outgoing) → sends ≡ os → (j : ℕ) → sent m e.host j (e ∷ before e.host)
        ≡ put m j
        (all_addressed (first_membership start) e.host e.step.stamp (sent_count start e.host (before e.host)) os)
        (sent m e.host j (before e.host))
    sent_put os is j =
        ap (λ (os : List Outgoing). put m j
        (all_addressed (first_membership start) e.host e.step.stamp (sent_count start e.host (before e.host)) os)
        (sent m e.host j (before e.host))) is

    sent_none : sends ≡ [] → (i j : ℕ) → sent m i j (after i) ≡ sent m i j (before i)
    sent_none none i j =
        next_each (λ k log. sent m k j log ≡ sent m k j (before k)) (sent_put [] none j) (λ k off. refl) i

    ends_quiet : AllTaken → sends ≡ [] → IsQuiet m (first_hosts start) after
    ends_quiet all none i j under low = all i j under low ∙ sym (sent_none none i j)

    module _ (out : Outgoing) (one : sends ≡ out ∷ []) where
      abbrev y : Addressed
      y = addressed (first_membership start) e.host e.step.stamp
          (sent_count start e.host (before e.host) (host_for start out.to)) out

      sent_own : (j : ℕ) → sent m e.host j (after e.host)
          ≡ (if host_for start out.to == j then y ∷ sent m e.host j (before e.host) else sent m e.host j
          (before e.host))
      sent_own j = ap (sent m e.host j) next.own ∙ sent_put (out ∷ []) one j

      sent_apart : (i j : ℕ) → (i ≡ e.host → j ≡ host_for start out.to → ⊥)
          → sent m i j (after i) ≡ sent m i j (before i)
      sent_apart i j =
          next_each
          (λ k log. (k ≡ e.host → j ≡ host_for start out.to → ⊥) → sent m k j log ≡ sent m k j (before k))
          (λ apart. sent_put (out ∷ []) one j
          ∙ if_false (y ∷ sent m e.host j (before e.host)) (sent m e.host j (before e.host))
          (ne_eqb (host_for start out.to) j (λ at. apart refl (sym at))))
          (λ k off apart. refl) i

      pub goes_under_way : AllTaken → host_for start out.to < first_hosts start → IsUnderWay start after y
      goes_under_way all there = record {
        from = low;
        to = there;
        ahead = sent_own (host_for start out.to)
            ∙ if_true (y ∷ sent m e.host (host_for start out.to) (before e.host))
            (sent m e.host (host_for start out.to) (before e.host))
            (eq-eqb (host_for start out.to) (host_for start out.to) refl)
            ∙ ap (λ xs. y ∷ xs) (sym (all e.host (host_for start out.to) low there));
        others = λ i j under below apart. all i j under below ∙ sym (sent_apart i j apart);
      }

    leads_on : AllTaken → Leads before after e → IsPhase after
    leads_on all (inl (none, done)) = inr (ends_quiet all none, done)
    leads_on all (inr goes) =
        inl (
          y goes.out goes.is,
          (goes_under_way goes.out goes.is all goes.there, goes.holds (y goes.out goes.is) refl refl refl),
        )

    -- a request takes nothing from a link
    pub asked_all : is_request e.step.taken.body ≡ true → IsQuiet m (first_hosts start) before → AllTaken
    asked_all asked quiet i j under =
        next_each (λ k log. k < first_hosts start → taken m i log ≡ sent m i k (before i))
        (λ below. taken-asked m i e (before e.host) asked ∙ quiet i e.host under below)
        (λ k off below. quiet i k under below) j

    abbrev source : ℕ
    source = e.step.taken.from.0

    abbrev it : Addressed
    it = record { to = e.host; signal = e.step.taken }

    module _ (plain : is_request e.step.taken.body ≡ false) (source_low : source < first_hosts start)
        (past : IsPast (it ∷ taken m source (before e.host)) (sent m source e.host (before source))) where
      not_at_quiet : taken m source (before e.host) ≡ sent m source e.host (before source) → ⊥
      not_at_quiet even = longer it (taken m source (before e.host))
          (subst (IsPast (it ∷ taken m source (before e.host))) (sym even) past)

      module _ (x : Addressed) (way : IsUnderWay start before x) where
        -- the step takes what is under way
        same_source : source ≡ x.signal.from.0
        same_source = by (cases_eq source x.signal.from.0)
          where
            by : (source ≡ x.signal.from.0) ⊎ (source ≢ x.signal.from.0) → source ≡ x.signal.from.0
            by (inl same) = same
            by (inr apart) = absurd (not_at_quiet (way.others source e.host source_low low (λ same at. apart same)))

        same_host : e.host ≡ x.to
        same_host = by (cases_eq e.host x.to)
          where
            by : (e.host ≡ x.to) ⊎ (e.host ≢ x.to) → e.host ≡ x.to
            by (inl same) = same
            by (inr apart) = absurd (not_at_quiet (way.others source e.host source_low low (λ same at. apart at)))

        ahead_here : sent m source e.host (before source) ≡ x ∷ taken m source (before e.host)
        ahead_here =
            subst (λ h. sent m source h (before source) ≡ x ∷ taken m source (before h)) (sym same_host)
            (subst (λ i. sent m i x.to (before i) ≡ x ∷ taken m i (before x.to)) (sym same_source) way.ahead)

        pub takes_it : it ≡ x
        takes_it = first_of it x (taken m source (before e.host))
            (subst (IsPast (it ∷ taken m source (before e.host))) ahead_here past)

        taken_all : AllTaken
        taken_all i j under =
            next_each (λ k log. k < first_hosts start → taken m i log ≡ sent m i k (before i))
            (λ below. here (cases_eq source i))
            (λ k off below. way.others i k under below (λ same at. off (same_host ∙ sym at))) j
          where
            at_link : (k : ℕ) → source ≡ k → taken m k (e ∷ before e.host) ≡ sent m k e.host (before k)
            at_link k same = subst (λ n. taken m n (e ∷ before e.host) ≡ sent m n e.host (before n)) same
                (taken-step m source e (before e.host) plain refl
                ∙ ap (λ z. z ∷ taken m source (before e.host)) takes_it ∙ sym ahead_here)

            here : (source ≡ i) ⊎ (source ≢ i) → taken m i (e ∷ before e.host) ≡ sent m i e.host (before i)
            here (inl same) = at_link i same
            here (inr apart) = taken-other m i e (before e.host) apart
                ∙ way.others i e.host under low (λ same at. apart (same_source ∙ sym same))

  -- how the command goes on from the request, and from each signal
  pub record IsSteered (was : ℕ → List HostStep) (first : HostStep) : Type 0 where
    pub begins : Leads was (with_first was first) first
    pub goes : (before after : ℕ → List HostStep) (e : HostStep) (x : Addressed) → IsNext before after e
        → e.step.taken ≡ x.signal → e.host ≡ x.to
        → P x before → Leads before after e

  module _ (was now : ℕ → List HostStep) (request : ApiReq) (served : IsServedBetween start was now request)
      (f : IsFirst start was now request) (at_shell : f.first.host ≡ 0) where
    abbrev asks : HostStep → Bool
    asks e = is_request e.step.taken.body

    pub next_first : IsNext was (with_first was f.first) f.first
    next_first = record { own = by f.first.host at_shell; others = others }
      where
        by : (h : ℕ) → h ≡ 0 → with_first was f.first h ≡ f.first ∷ was h
        by zero at = refl
        by (suc h) at = absurd (omega (arith, at))

        others : (h : ℕ) → f.first.host ≢ h → with_first was f.first h ≡ was h
        others zero apart = absurd (apart at_shell)
        others (suc h) apart = refl

    -- the request is the only one
    asks_once : tally asks (now 0) ≡ 1 + tally asks (was 0)
    asks_once =
        omega (
          arith,
          ap (tally asks) f.is,
          tally_append asks f.later (f.first ∷ was 0),
          tally_none asks f.later f.plain,
          ap (λ body. one_if (is_request body)) f.body,
        )

    front_none : (xs : List HostStep) (e : HostStep) (log : List HostStep) → [] ≡ xs ++ e ∷ log → ⊥
    front_none [] e log is = cc
    front_none (x ∷ xs) e log is = cc

    module _ (es : List HostStep) (e : HostStep) (run : Run m es) (happens : Happens m es e)
        (since : IsPast (f.first ∷ was 0) (log_of m es 0))
        (cut : IsCut (log_of m (e ∷ es)) now) where
      abbrev before : ℕ → List HostStep
      before = log_of m es

      abbrev after : ℕ → List HostStep
      after = log_of m (e ∷ es)

      pub next_here : IsNext before after e
      next_here = record { own = log_of-own m e es e.host refl; others = λ h apart. log_of-other m e es h apart }

      pub cut_before : IsCut before now
      cut_before h = past_trans (log_of-past m e es h) (cut h)

      pub low_here : e.host < first_hosts start
      low_here = by (cases_lt e.host (first_hosts start))
        where
          by : (e.host < first_hosts start) ⊎ (first_hosts start ≤ e.host) → e.host < first_hosts start
          by (inl low) = low
          by (inr high) =
              let p = cut e.host in
              absurd (front_none p.newer e (before e.host)
              (sym (served.since.within e.host high) ∙ p.is ∙ ap (λ log. p.newer ++ log) next_here.own))

      pub plain_here : is_request e.step.taken.body ≡ false
      plain_here = by (is_request e.step.taken.body) refl
        where
          by : (b : Bool) → is_request e.step.taken.body ≡ b → b ≡ false
          by false is = refl
          by true is =
              let asked = fits_asked start e.host happens.step.fits.asked_at e.step.taken
              (is_request e.step.taken.body) is happens.step.fits.asked in
              absurd (omega (
                arith,
                asks_once,
                tally_past asks (cut 0),
                ap (tally asks) (log_of-own m e es 0 asked.shell),
                ap one_if is,
                tally_past asks since,
                ap (λ body. one_if (is_request body)) f.body,
              ))

      abbrev from_here : ℕ
      from_here = e.step.taken.from.0

      pub past_here : IsPast (it before after e next_here low_here ∷ taken m from_here (before e.host))
          (sent m from_here e.host (before from_here))
      past_here = given_past start from_here e.host (before from_here) _ (happens.takes plain_here)

      pub source_here : from_here < first_hosts start
      source_here = by (cases_lt from_here (first_hosts start))
        where
          empty : (xs : List HostStep) (log : List HostStep) → [] ≡ xs ++ log → log ≡ []
          empty [] log is = sym is
          empty (x ∷ xs) log is = absurd cc

          nothing : (xs : List Addressed) (x : Addressed) (ys : List Addressed) → [] ≡ xs ++ x ∷ ys → ⊥
          nothing [] x ys is = cc
          nothing (z ∷ xs) x ys is = cc

          by : (from_here < first_hosts start) ⊎ (first_hosts start ≤ from_here) → from_here < first_hosts start
          by (inl under) = under
          by (inr high) =
              let none : before from_here ≡ [] =
              empty (cut_before from_here).newer (before from_here)
              (sym (served.since.within from_here high) ∙ (cut_before from_here).is) in
              absurd (nothing past_here.newer _ _ (sym (ap (sent m from_here e.host) none) ∙ past_here.is))

    pub cut_first : IsCut (with_first was f.first) now
    cut_first zero = record { newer = f.later; is = f.is }
    cut_first (suc h) = served.cut (suc h)

    module _ (steered : IsSteered was f.first) where
      phase_first : IsPhase (with_first was f.first)
      phase_first = leads_on was (with_first was f.first) f.first next_first first_low
          (asked_all was (with_first was f.first) f.first next_first first_low
          (ap is_request f.body) served.before.quiet) steered.begins
        where
          first_low : f.first.host < first_hosts start
          first_low = omega (arith, at_shell)

      -- all along the steps since the request, as far as they are those of these logs
      record Goes (logs : ℕ → List HostStep) : Type 0 where
        since : IsPast (f.first ∷ was 0) (logs 0)
        phase : IsCut logs now → IsPhase logs

      phase_here : (es : List HostStep) (e : HostStep) (run : Run m es) (happens : Happens m es e)
          (since : IsPast (f.first ∷ was 0) (log_of m es 0)) (cut : IsCut (log_of m (e ∷ es)) now)
          → IsPhase (log_of m es)
          → IsPhase (log_of m (e ∷ es))
      phase_here es e run happens since cut = by
        where
          next : IsNext (log_of m es) (log_of m (e ∷ es)) e
          next = next_here es e run happens since cut

          low : e.host < first_hosts start
          low = low_here es e run happens since cut

          by : IsPhase (log_of m es) → IsPhase (log_of m (e ∷ es))
          by (inl (x, (way, holds))) =
              let takes = takes_it (log_of m es) (log_of m (e ∷ es)) e next low (plain_here es e run happens since cut)
              (source_here es e run happens since cut) (past_here es e run happens since cut) x way in
              leads_on (log_of m es) (log_of m (e ∷ es)) e next low
              (taken_all (log_of m es) (log_of m (e ∷ es)) e next low (plain_here es e run happens since cut)
              (source_here es e run happens since cut) (past_here es e run happens since cut) x way)
              (steered.goes (log_of m es) (log_of m (e ∷ es)) e x next (ap (λ (z : Addressed). z.signal) takes)
              (ap (λ (z : Addressed). z.to) takes) holds)
          by (inr (quiet, done)) =
              absurd (not_at_quiet (log_of m es) (log_of m (e ∷ es)) e next low (plain_here es e run happens since cut)
              (source_here es e run happens since cut) (past_here es e run happens since cut)
              (quiet e.step.taken.from.0 e.host (source_here es e run happens since cut) low))

      goes_step : (es : List HostStep) (e : HostStep) → Run m es → Happens m es e → Goes (log_of m es)
          → Goes (log_of m (e ∷ es))
      goes_step es e run happens goes = record {
        since = past_trans goes.since (log_of-past m e es 0);
        phase = λ cut. phase_here es e run happens goes.since cut
            (goes.phase (λ h. past_trans (log_of-past m e es h) (cut h)));
      }

      phase_now : IsPhase now
      phase_now =
          (along_cuts m (stamped start) Goes goes_step (first_hosts start)
          (with_first was f.first) now served.since.within served.since.right f.right cut_first
          (record { since = past_self (f.first ∷ was 0); phase = λ cut. phase_first })).phase (λ h. past_self (now h))

      -- when nothing is under way any more it is done
      pub is_done : D now
      is_done = by phase_now
        where
          by : IsPhase now → D now
          by (inl (x, (way, holds))) =
              absurd (longer x (taken m x.signal.from.0 (now x.to))
              (subst (λ xs. IsPast xs (taken m x.signal.from.0 (now x.to)))
              (served.since.quiet x.signal.from.0 x.to way.from way.to ∙ way.ahead) (past_self _)))
          by (inr (quiet, done)) = done
