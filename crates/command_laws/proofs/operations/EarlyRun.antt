-- Where no commit or abort of an open transaction is wished for, nobody reports its commit, or its abort but for want
-- of room or of time.
use Rattle.std.proofs.Common.{◌≡◌, ◌⊎◌, ◌<◌, ◌≤◌, ℕ, Bool, true, false, List, [], ◌∷◌, ◌++◌, ◌==◌, if◌then◌else◌, refl}
use Rattle.std.proofs.Common.{sym, ap, ◌∙◌, subst, inl, inr, append_assoc, arith}
use Rattle.std.proofs.lemmas.Bool.{cases_lt}
use Rattle.std.proofs.lemmas.List.{append_cancel_right}
use Rattle.std.specs.Prelude.{Some, not}
use Rattle.run_theory.proofs.EventCases.{event_cases}
use Rattle.run_theory.proofs.Along.{within_cut}
use Rattle.run_theory.proofs.Cuts.{taken_past}
use Rattle.run_theory.proofs.Growth.{along_cuts}
use Rattle.run_theory.proofs.Pasts.{each_in, past_self, past_trans}
use Rattle.run_theory.proofs.Runs.{log_of-own, log_of-past}
use Rattle.run_theory.specs.Cuts.{IsCut}
use Rattle.run_theory.specs.Links.{sent, taken}
use Rattle.run_theory.specs.Lists.{Each, IsIn, IsPast}
use Rattle.run_theory.specs.Runs.{Happens, IsWithin, Run, log_of}
use Rattle.sig_core.specs.declared.member.TxId.{TxId}
use Rattle.sig_core.specs.declared.outs.Outgoing.{Outgoing}
use Rattle.sig_core.specs.declared.place.Place.{Place}
use Rattle.sig_core.specs.declared.signal.Body.{Body}
use Rattle.sig_core.specs.declared.signal.Body.TheVariants.{Chain}
use Rattle.sig_core.specs.declared.signal.chain.ChainSignal.TheVariants.{Abort, LqhKeyRef}
use Rattle.node_core.specs.Blocks.{tc_of}
use Rattle.node_core.specs.declared.host.Host.{Host}
use Rattle.node_core.specs.Requests.{is_request}
use Rattle.node_core.specs.Row.{row}
use Rattle.tc_block.specs.declared.transaction.Transaction.{Transaction}
use Rattle.tc_block.specs.State.{TcState}
use Rattle.world_core.proofs.HostNumbers.{given_past}
use Rattle.world_core.proofs.Stamped.{stamped}
use Rattle.world_core.specs.Hosts.{home, first_hosts}
use Rattle.world_core.specs.Machine.{after, machine}
use Rattle.world_core.specs.Start.{Start}
use Rattle.world_core.specs.Steps.{Addressed, HostStep}
use Rattle.run_theory.proofs.Tally.{tally_past}
use Rattle.run_theory.specs.Counts.{one_if}
use Rattle.host_laws.proofs.api.Begins.{in_middle}
use Rattle.host_laws.proofs.hosts.LinkCounts.{signals}
use Rattle.host_laws.proofs.api.Wishes.{sends_of}
use Rattle.answer_laws.specs.Answered.{AreQuiet}
use Rattle.host_laws.specs.Live.{of_live}
use Rattle.command_laws.proofs.operations.EarlyNodes.{host_clean, host_past}
use Rattle.command_laws.proofs.operations.EarlySteps.{IsOpenNow, IsPastNow, Leaves, StaysClean, is_bad, is_loss}
use Rattle.command_laws.proofs.operations.EarlySteps.{is_wish_to}
use Rattle.command_laws.proofs.quiet.Homes.{lives_home, sound_at}
use Rattle.command_laws.proofs.ends.FairRows.{is_fair}
use Rattle.command_laws.proofs.quiet.Since.{link_sent, sent_since}
use Rattle.command_laws.proofs.hosts.TcPath.{IsSound}
use Rattle.command_laws.proofs.operations.TellsSince.{OnTc}

request_fair : (tx : TxId) (body : Body) → is_request body ≡ true → is_fair tx body ≡ true
request_fair tx (Chain (Abort other key)) e = cc
request_fair tx (Chain (LqhKeyRef other key why)) e = cc
request_fair tx _ e = refl

module _ (start : Start) (was now : ℕ → List HostStep) (before : AreQuiet start was) (since : AreQuiet start now)
    (cut : IsCut was now) (tx : TxId)
    (wishes : (h : ℕ) → Each (λ (e : HostStep). is_wish_to tx e.step.taken.to e.step.taken.body ≡ false) (cut h).newer)
    (open_was : (h : ℕ) → home start tx ≡ h → OnTc (IsOpenNow tx) (after start h (was h))) where
  -- the steps of a host among these events
  abbrev newer_in : List HostStep → ℕ → List HostStep
  newer_in more h = log_of (machine start) more h

  -- nothing of it was aborted, and it is open
  record IsClean (more : List HostStep) : Type 0 where
    fair : (h : ℕ) → sent_since start (is_loss tx) h (newer_in more h) (was h) ≡ 0
    is_open : (h : ℕ) → home start tx ≡ h → OnTc (IsOpenNow tx) (after start h (newer_in more h ++ was h))

  abbrev IsGone : List HostStep → Type 0
  IsGone more = (h : ℕ) → home start tx ≡ h → OnTc (IsPastNow tx) (after start h (newer_in more h ++ was h))

  record AllHold (logs : ℕ → List HostStep) : Type 0 where
    more : List HostStep
    is : (h : ℕ) → logs h ≡ newer_in more h ++ was h
    good : (h : ℕ) → sent_since start (is_bad tx) h (newer_in more h) (was h) ≡ 0
    stage : IsClean more ⊎ IsGone more

  -- as far as they are part of the later logs
  record Holds (logs : ℕ → List HostStep) : Type 0 where
    holds : IsCut logs now → AllHold logs

  module _ (es : List HostStep) (e : HostStep) (happens : Happens (machine start) es e)
      (inside : IsCut (log_of (machine start) (e ∷ es)) now) (all : AllHold (log_of (machine start) es)) where
    less : IsCut (log_of (machine start) es) now
    less h = past_trans (log_of-past (machine start) e es h) (inside h)

    within : IsWithin (first_hosts start) (log_of (machine start) es)
    within = within_cut (machine start) (stamped start) (first_hosts start) (log_of (machine start) es) now since.within
        less

    -- the step is one of the later logs
    is_now : now e.host ≡ (inside e.host).newer ++ e ∷ (newer_in all.more e.host ++ was e.host)
    is_now =
        (inside e.host).is ∙ ap (λ w. (inside e.host).newer ++ w) (log_of-own (machine start) e es e.host refl)
        ∙ ap (λ w. (inside e.host).newer ++ e ∷ w) (all.is e.host)

    is_newer : (cut e.host).newer ≡ (inside e.host).newer ++ e ∷ newer_in all.more e.host
    is_newer =
        append_cancel_right (cut e.host).newer ((inside e.host).newer ++ e ∷ newer_in all.more e.host) (was e.host)
        (sym (cut e.host).is ∙ is_now ∙ sym
        (append_assoc (inside e.host).newer (e ∷ newer_in all.more e.host) (was e.host)))

    no_wish : is_wish_to tx e.step.taken.to e.step.taken.body ≡ false
    no_wish =
        each_in (λ (x : HostStep). is_wish_to tx x.step.taken.to x.step.taken.body ≡ false) e (cut e.host).newer
        (wishes e.host)
        (subst (IsIn e) (sym is_newer) (in_middle (inside e.host).newer e (newer_in all.more e.host)))

    low : e.host < first_hosts start
    low = by (cases_lt e.host (first_hosts start))
      where
        none : (xs ys : List HostStep) → [] ≡ xs ++ e ∷ ys → ⊥
        none [] ys is = cc
        none (x ∷ xs) ys is = cc

        by : (e.host < first_hosts start) ⊎ (first_hosts start ≤ e.host) → e.host < first_hosts start
        by (inl under) = under
        by (inr high) = absurd (none _ _ (sym (since.within e.host high) ∙ is_now))

    past_was : (h : ℕ) → IsPast (was h) (log_of (machine start) es h)
    past_was h = record { newer = newer_in all.more h; is = all.is h }

    -- no more losses were sent than were taken before
    few_losses : IsClean all.more → (i : ℕ)
        → signals (is_loss tx) (sent (machine start) i e.host (log_of (machine start) es i))
        ≤ signals (is_loss tx) (taken (machine start) i (was e.host))
    few_losses clean i = by (cases_lt i (first_hosts start))
      where
        by : (i < first_hosts start) ⊎ (first_hosts start ≤ i)
            → signals (is_loss tx) (sent (machine start) i e.host (log_of (machine start) es i))
            ≤ signals (is_loss tx) (taken (machine start) i (was e.host))
        by (inr high) =
            omega (arith, ap (λ log. signals (is_loss tx) (sent (machine start) i e.host log)) (within i high))
        by (inl under) =
            omega (
              arith,
              ap (λ log. signals (is_loss tx) (sent (machine start) i e.host log)) (all.is i),
              link_sent start (is_loss tx) i e.host (newer_in all.more i) (was i),
              clean.fair i,
              ap (signals (is_loss tx)) (before.quiet i e.host under low),
            )

    is_true : (b : Bool) → not b ≡ false → b ≡ true
    is_true true p = refl
    is_true false p = cc

    -- so none comes
    comes_fair : IsClean all.more → is_fair tx e.step.taken.body ≡ true
    comes_fair clean = by (is_request e.step.taken.body) refl
      where
        signal : is_request e.step.taken.body ≡ false → (b : Bool) → is_loss tx e.step.taken.to e.step.taken.body ≡ b
            → b ≡ false
        signal plain false is = refl
        signal plain true is =
            absurd (omega (
              arith,
              ap one_if is,
              tally_past (λ (x : Addressed). is_loss tx x.signal.to x.signal.body)
                  (given_past start e.step.taken.from.0 e.host (log_of (machine start) es e.step.taken.from.0)
                  (record { to = e.host; signal = e.step.taken } ∷ taken (machine start) e.step.taken.from.0
                  (log_of (machine start) es e.host)) (happens.takes plain)),
              few_losses clean e.step.taken.from.0,
              tally_past (λ (x : Addressed). is_loss tx x.signal.to x.signal.body)
                  (taken_past (machine start) e.step.taken.from.0 (past_was e.host)),
            ))

        by : (b : Bool) → is_request e.step.taken.body ≡ b → is_fair tx e.step.taken.body ≡ true
        by true is = request_fair tx e.step.taken.body is
        by false is =
            is_true (is_fair tx e.step.taken.body) (signal is (is_loss tx e.step.taken.to e.step.taken.body) refl)

    log_more : (h : ℕ) → log_of (machine start) (e ∷ es) h ≡ newer_in (e ∷ all.more) h ++ was h
    log_more h = by (e.host == h)
      where
        by : (b : Bool) → (if b then e ∷ log_of (machine start) es h else log_of (machine start) es h)
            ≡ (if b then e ∷ newer_in all.more h else newer_in all.more h) ++ was h
        by true = ap (λ w. e ∷ w) (all.is h)
        by false = all.is h

    -- a claim of each host's steps that its own step keeps
    each_host : (P : (h : ℕ) → List HostStep → Type 0) → ((h : ℕ) → P h (newer_in all.more h))
        → ((h : ℕ) → e.host ≡ h → P h (newer_in all.more h) → P h (e ∷ newer_in all.more h)) → (h : ℕ)
        → P h (newer_in (e ∷ all.more) h)
    each_host P old step h =
        event_cases (machine start) e all.more h (P h) (λ at. step h at (old h)) (λ off. old h)

    -- the host of the step before it
    abbrev g : Host
    g = after start e.host (newer_in all.more e.host ++ was e.host)

    abbrev then_tc : TcState
    then_tc = tc_of (row g e.step.taken).state

    abbrev sends_now : List Outgoing
    sends_now = (row g e.step.taken).effects.sends

    abbrev Home : Type 0
    Home = home start tx ≡ e.host

    -- what is so of the transaction's home, and is kept by the step
    each_home : (Q : TcState → Type 0)
        → ((h : ℕ) → home start tx ≡ h → OnTc Q (after start h (newer_in all.more h ++ was h)))
        → (Home → Q then_tc) → (h : ℕ) → home start tx ≡ h → OnTc Q (after start h (newer_in (e ∷ all.more) h ++ was h))
    each_home Q old step =
        each_host (λ h newer. home start tx ≡ h → OnTc Q (after start h (newer ++ was h))) old
        (λ h at before own. subst (λ k. OnTc Q (after start k (e ∷ (newer_in all.more k ++ was k)))) at
        (step (own ∙ sym at)))

    -- a count of what hosts send, where the step sends none
    none_more : (test : Place → Body → Bool) → ((h : ℕ) → sent_since start test h (newer_in all.more h) (was h) ≡ 0)
        → sends_of test sends_now ≡ 0 → (h : ℕ) → sent_since start test h (newer_in (e ∷ all.more) h) (was h) ≡ 0
    none_more test old none =
        each_host (λ h newer. sent_since start test h newer (was h) ≡ 0) old
        (λ h at before. subst (λ k. sent_since start test k (e ∷ newer_in all.more k) (was k) ≡ 0) at
        (omega (arith, old e.host, none)))

    sound : IsSound tx (tc_of g)
    sound = sound_at start tx e.host (newer_in all.more e.host ++ was e.host)

    homes : (t : Transaction) → of_live tx (tc_of g).live ≡ Some t → Home
    homes = lives_home start tx e.host (newer_in all.more e.host ++ was e.host) low

    all_hold : sends_of (is_bad tx) sends_now ≡ 0 → IsClean (e ∷ all.more) ⊎ IsGone (e ∷ all.more)
        → AllHold (log_of (machine start) (e ∷ es))
    all_hold good stage = record {
      more = e ∷ all.more;
      is = log_more;
      good = none_more (is_bad tx) all.good good;
      stage = stage;
    }

    from_gone : IsGone all.more → AllHold (log_of (machine start) (e ∷ es))
    from_gone gone =
        let p = host_past tx g e.step.taken sound no_wish Home homes (gone e.host) in
        all_hold p.good (inr (each_home (IsPastNow tx) gone p.past))

    from_clean : IsClean all.more → AllHold (log_of (machine start) (e ∷ es))
    from_clean clean = by (host_clean tx g e.step.taken sound no_wish Home homes (comes_fair clean)
        (clean.is_open e.host))
      where
        by : StaysClean tx Home then_tc sends_now ⊎ Leaves tx Home then_tc sends_now
            → AllHold (log_of (machine start) (e ∷ es))
        by (inl c) =
            all_hold c.good (inl (record {
              fair = none_more (is_loss tx) clean.fair c.fair;
              is_open = each_home (IsOpenNow tx) clean.is_open c.is_open;
            }))
        by (inr l) =
            all_hold l.good (inr (λ h own.
            subst (λ k. OnTc (IsPastNow tx) (after start k (newer_in (e ∷ all.more) k ++ was k))) (sym l.home ∙ own)
            (subst (λ newer. OnTc (IsPastNow tx) (after start e.host (newer ++ was e.host)))
            (sym (log_of-own (machine start) e all.more e.host refl)) l.past)))

    next : AllHold (log_of (machine start) (e ∷ es))
    next = by all.stage
      where
        by : IsClean all.more ⊎ IsGone all.more → AllHold (log_of (machine start) (e ∷ es))
        by (inl clean) = from_clean clean
        by (inr gone) = from_gone gone

  event_holds : (es : List HostStep) (e : HostStep) → Run (machine start) es → Happens (machine start) es e
      → Holds (log_of (machine start) es) → Holds (log_of (machine start) (e ∷ es))
  event_holds es e run happens h = record {
    holds = λ inside. next es e happens inside
        (h.holds (λ k. past_trans (log_of-past (machine start) e es k) (inside k)));
  }

  -- so nothing bad is sent
  pub no_bad : (h : ℕ) → sent_since start (is_bad tx) h (cut h).newer (was h) ≡ 0
  no_bad h = subst (λ newer. sent_since start (is_bad tx) h newer (was h) ≡ 0) (sym same) (all.good h)
    where
      begin : Holds was
      begin = record {
        holds = λ inside. record {
          more = [];
          is = λ k. refl;
          good = λ k. refl;
          stage = inl (record {
            fair = λ k. refl;
            is_open = open_was;
          });
        };
      }

      all : AllHold now
      all = (along_cuts (machine start) (stamped start) Holds event_holds (first_hosts start) was now since.within
          since.right
          before.right cut begin).holds (λ k. past_self (now k))

      same : (cut h).newer ≡ newer_in all.more h
      same = append_cancel_right (cut h).newer (newer_in all.more h) (was h) (sym (cut h).is ∙ all.is h)
