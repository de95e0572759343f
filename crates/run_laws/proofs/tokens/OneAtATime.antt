-- The operations of a transaction are under way one at a time.
use Rattle.std.proofs.Common.{◌≡◌, ◌≢◌, ◌⊎◌, ℕ, zero, suc, ◌+◌, ◌-◌, ◌≤◌, Bool, true, List, [], ◌∷◌, refl, sym, ap, ◌∙◌}
use Rattle.std.proofs.Common.{arith, inl, inr}
use Rattle.std.specs.List.{list_any}
use Rattle.std.proofs.lemmas.Bool.{cases_eq}
use Rattle.run_theory.proofs.Runs.{log_of-other, log_of-own}
use Rattle.world_core.specs.Steps.{Addressed, HostStep}
use Rattle.sig_core.specs.declared.member.TxId.{TxId}
use Rattle.sig_core.specs.declared.outs.Outgoing.{Outgoing}
use Rattle.sig_core.specs.declared.place.Place.{Place}
use Rattle.sig_core.specs.declared.signal.Body.{Body}
use Rattle.sig_core.specs.declared.signal.Body.TheVariants.{Chain}
use Rattle.sig_core.specs.declared.signal.chain.ChainSignal.TheVariants.{LqhKeyReq, LqhKeyConf, LqhKeyRef}
use Rattle.sig_core.specs.Same.{same_tx}
use Rattle.lqh_block.specs.declared.request.Request.{Request}
use Rattle.node_core.specs.Requests.{is_request}
use Rattle.world_core.specs.Hosts.{home, first_hosts}
use Rattle.world_core.specs.Machine.{after, machine, signals_of, step_after}
use Rattle.world_core.specs.Start.{Start}
use Rattle.host_laws.specs.Ways.{back_by, sent_ways}
use Rattle.host_laws.proofs.hosts.BlocksAlong.{first_waiting}
use Rattle.run_theory.specs.Counts.{one_if, tally, total}
use Rattle.host_laws.proofs.hosts.Sums.{total_at, total_one}
use Rattle.run_laws.specs.Live.{of_host}
use Rattle.run_laws.specs.Tokens.{OneAtATime, budget, budget_by, is_token, tokens, tokens_in, waiting_all, waiting_in}
use Rattle.run_laws.specs.Transit.{Comes, Takes, joined, logs_of}
use Rattle.run_laws.proofs.routes.Addressed.{comes_below}
use Rattle.run_laws.proofs.hosts.HomeSteps.{own_home}
use Rattle.run_laws.proofs.tokens.Hosts.{Kept, host_kept}
use Rattle.run_laws.proofs.tokens.Rows.{tokens_out}
use Rattle.run_laws.proofs.hosts.TcSound.{log_sound}
use Rattle.run_laws.proofs.transit.Transit.{along_transit}
use Rattle.run_laws.proofs.transit.Weighing.{joins_weigh, takes_weigh, weigh}

tally_weighs : {A : Type 0} (p : A → Bool) (xs : List A) → tally p xs ≡ weigh (λ x. one_if (p x)) xs
tally_weighs p [] = refl
tally_weighs p (x ∷ xs) = ap (λ m. one_if (p x) + m) (tally_weighs p xs)

module _ (start : Start) (tx : TxId) where
  abbrev weight : Place → Body → ℕ
  weight to body = one_if (is_token tx body)

  free : (body : Body) → is_request body ≡ true → one_if (is_token tx body) ≡ 0
  free (Chain (LqhKeyReq other work chain at)) e = absurd cc
  free (Chain (LqhKeyConf other key answer)) e = absurd cc
  free (Chain (LqhKeyRef other key cause)) e = absurd cc
  free _ e = refl

  module _ (es : List HostStep) (e : HostStep) (before between : List Addressed) (come : Comes start es e)
      (takes : Takes e before between) where
    abbrev h : ℕ
    h = e.host

    abbrev was : ℕ → List HostStep
    was = logs_of start es

    abbrev now : ℕ → List HostStep
    now = logs_of start (e ∷ es)

    own_log : now h ≡ e ∷ was h
    own_log = log_of-own (machine start) e es h refl

    other_log : (k : ℕ) → k ≢ h → now k ≡ was k
    other_log k off = log_of-other (machine start) e es k (λ same. off (sym same))

    abbrev out : ℕ
    out = tokens_out tx (step_after start h (was h) e).effects.sends

    abbrev came : ℕ
    came = one_if (is_token tx e.step.taken.body)

    abbrev joined_now : List Addressed
    joined_now = joined (signals_of start h (was h) e) between

    -- in transit then are those that were left and those that are sent
    pub in_before : tokens_in tx before ≡ came + tokens_in tx between
    in_before =
        omega (
          arith,
          tally_weighs (λ (x : Addressed). is_token tx x.signal.body) before,
          tally_weighs (λ (x : Addressed). is_token tx x.signal.body) between,
          takes_weigh weight e before between (free e.step.taken.body) takes,
        )

    in_now : tokens_in tx joined_now ≡ out + tokens_in tx between
    in_now =
        omega (
          arith,
          tally_weighs (λ (x : Addressed). is_token tx x.signal.body) joined_now,
          tally_weighs (λ (x : Addressed). is_token tx x.signal.body) between,
          tally_weighs (λ (o : Outgoing). is_token tx o.body) (step_after start h (was h) e).effects.sends,
          joins_weigh weight start h (was h) e between,
        )

    abbrev waits_was : ℕ
    waits_was = waiting_in tx (after start h (was h))

    abbrev waits_now : ℕ
    waits_now = waiting_in tx (step_after start h (was h) e).state

    waiting_now : waiting_all start now tx + waits_was ≡ waiting_all start was tx + waits_now
    waiting_now =
        omega (
          arith,
          total_one (first_hosts start) (λ k. waiting_in tx (after start k (was k)))
              (λ k. waiting_in tx (after start k (now k))) h (comes_below start es e come)
              (λ k off. ap (λ log. waiting_in tx (after start k log)) (other_log k off)),
          ap (λ log. waiting_in tx (after start h log)) own_log,
        )

    waiting_some : waits_was ≤ waiting_all start was tx
    waiting_some =
        total_at (first_hosts start) (λ k. waiting_in tx (after start k (was k))) h (comes_below start es e come)

    kept : Kept tx (sent_ways start back_by h (was h)) (after start h (was h)) e.step.taken
    kept = host_kept tx (sent_ways start back_by h (was h)) (after start h (was h)) e.step.taken
        (log_sound start h (was h))

    abbrev budget_here : ℕ → List HostStep → ℕ
    budget_here k log =
        budget_by (list_any (same_tx tx) (sent_ways start back_by k log)) (of_host tx (after start k log))

    step_one : tokens start was before tx ≤ budget start was tx → tokens start now joined_now tx ≤ budget start now tx
    step_one low = by (cases_eq (home start tx) h)
      where
        by : (home start tx ≡ h) ⊎ (home start tx ≢ h) → tokens start now joined_now tx ≤ budget start now tx
        by (inr off) = omega (
          arith,
          low,
          in_before,
          in_now,
          waiting_now,
          kept.away
              (λ runs own. off (sym (own_home start es e come tx runs own))),
          ap (budget_here (home start tx)) (other_log (home start tx) off),
        )
        by (inl at) =
            let here : budget start was tx ≡ budget_here h (was h) = ap (λ k. budget_here k (was k)) at in
            let there : budget start now tx ≡ budget_here h (e ∷ was h) =
            ap (λ k. budget_here k (now k)) at ∙ ap (budget_here h) own_log in
            let rest : ℕ = tokens_in tx between + (waiting_all start was tx - waits_was) in
            omega (
              arith,
              kept.home rest (omega (arith, low, in_before, here, waiting_some)),
              in_now,
              waiting_now,
              waiting_some,
              there,
            )

  pub none_waits_first : (k : ℕ) → waiting_in tx (after start k []) ≡ 0
  none_waits_first k = ap (tally (λ (q : Request). same_tx q.tx tx)) (first_waiting start k)

  none_first : tokens start (logs_of start []) [] tx ≤ budget start (logs_of start []) tx
  none_first = omega (arith, none (first_hosts start))
    where
      none : (n : ℕ) → total n (λ k. waiting_in tx (after start k [])) ≡ 0
      none zero = refl
      none (suc n) = omega (arith, none_waits_first n, none n)

pub one_at_a_time : OneAtATime
one_at_a_time start es xs tx run is =
    along_transit start (λ es xs. tokens start (logs_of start es) xs tx ≤ budget start (logs_of start es) tx)
    (none_first start tx)
    (λ es e before between come transit low takes. step_one start tx es e before between come takes low) es xs run is
