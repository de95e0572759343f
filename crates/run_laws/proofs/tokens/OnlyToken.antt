-- Since the operations of a transaction are under way one at a time, a new part of one is the only one.
use Rattle.std.proofs.Common.{◌≡◌, ◌≤◌, ◌+◌, ℕ, Bool, true, false, cond, filter, List, [], ◌∷◌, refl, ap, ◌∙◌, subst}
use Rattle.std.proofs.Common.{arith}
use Rattle.std.proofs.lemmas.Bool.Decides.{nat_tests}
use Rattle.std.specs.Prelude.{if◌then◌else◌, nat_lt, is_some, Option, None, Some}
use Rattle.run_theory.specs.Lists.{Each}
use Rattle.world_core.specs.Steps.{Addressed, HostStep}
use Rattle.sig_core.specs.declared.member.TxId.{TxId}
use Rattle.sig_core.specs.Same.{same_tx}
use Rattle.lqh_block.specs.declared.request.Request.{Request}
use Rattle.node_core.specs.declared.host.Host.{Host}
use Rattle.node_core.specs.Blocks.{lqh_of}
use Rattle.tc_block.specs.declared.phase.Phase.{Phase}
use Rattle.tc_block.specs.declared.phase.Phase.TheVariants.{Open, Verifying, Committing, Completing, Aborting}
use Rattle.tc_block.specs.declared.transaction.Transaction.{Transaction}
use Rattle.world_core.specs.Hosts.{first_hosts}
use Rattle.world_core.specs.Machine.{after}
use Rattle.world_core.specs.Start.{Start}
use Rattle.key_laws.specs.Replica.{asks_for, is_by}
use Rattle.host_laws.specs.ReplicaLaws.{key_in}
use Rattle.tc_block.specs.Phases.{is_aborting}
use Rattle.run_theory.specs.Counts.{one_if, tally}
use Rattle.host_laws.proofs.hosts.Sums.{one_most, total_at}
use Rattle.host_laws.proofs.hosts.BlocksAlong.{first_waiting}
use Rattle.run_laws.specs.GivenUp.{is_given_up}
use Rattle.run_laws.specs.Live.{live_at}
use Rattle.run_laws.specs.Tokens.{budget, budget_by, budget_of, is_token, tokens_in, waiting_all, waiting_in}
use Rattle.run_laws.specs.Transit.{AreInTransit, IsRun, joined, logs_of}
use Rattle.run_laws.proofs.tokens.OneAtATime.{one_at_a_time}
use Rattle.run_laws.proofs.circle.OthersStay.{waits_of}
use Rattle.run_laws.proofs.circle.Turns.{is_early}
use Rattle.run_laws.proofs.transit.Lists.{tally_joined}
use Rattle.run_laws.proofs.circle.ViewOf.{view_of}
use Rattle.run_laws.proofs.transit.Weighing.{none_passes}

pub early_stays : (phase : Phase) → is_early phase ≡ true → is_aborting phase ≡ false
early_stays Open is = refl
early_stays Verifying is = refl
early_stays (Committing epoch awaited) is = absurd cc
early_stays (Completing epoch awaited) is = absurd cc
early_stays (Aborting why verifying awaited) is = absurd cc

module _ (tx : TxId) (key : List ℕ) where
  filtered_none : (xs : List Request) → tally (λ (q : Request). same_tx q.tx tx) xs ≡ 0
      → filter (is_by tx) (filter (asks_for key) xs) ≡ []
  filtered_none [] none = refl
  filtered_none (q ∷ xs) none = by (same_tx q.tx tx) refl (asks_for key q) (filtered_none xs)
    where
      by : (b : Bool) → same_tx q.tx tx ≡ b → (c : Bool)
          → (tally (λ (q : Request). same_tx q.tx tx) xs ≡ 0 → filter (is_by tx) (filter (asks_for key) xs) ≡ [])
          → filter (is_by tx) (cond c (q ∷ filter (asks_for key) xs) (filter (asks_for key) xs)) ≡ []
      by true e c more = absurd (omega (arith, none, ap one_if e))
      by false e true more = ap (λ b. cond b (q ∷ filter (is_by tx) (filter (asks_for key) xs))
          (filter (is_by tx) (filter (asks_for key) xs))) e ∙ more (omega (arith, none, ap one_if e))
      by false e false more = more (omega (arith, none, ap one_if e))

  host_none : (s : Host) → waiting_in tx s ≡ 0 → waits_of tx (key_in key s) ≡ []
  host_none s none = filtered_none (lqh_of s).waiting none

  module _ (start : Start) (es : List HostStep) (run : IsRun start es) where
    none_wait : waiting_all start (logs_of start es) tx ≡ 0 → (h : ℕ)
        → (view_of start (logs_of start es) tx key).waits h ≡ []
    none_wait none h = by (nat_lt h (first_hosts start)) refl
      where
        none_begun : (h : ℕ) → waits_of tx (key_in key (after start h [])) ≡ []
        none_begun h = ap (λ waiting. filter (is_by tx) (filter (asks_for key) waiting)) (first_waiting start h)

        by : (b : Bool) → nat_lt h (first_hosts start) ≡ b
            → waits_of tx (key_in key (after start h (logs_of start es h))) ≡ []
        by true e =
            let few : waiting_in tx (after start h (logs_of start es h)) ≤ waiting_all start (logs_of start es) tx =
            total_at (first_hosts start) (λ h. waiting_in tx (after start h (logs_of start es h))) h
            (grind (arith, nat_tests, e)) in
            host_none (after start h (logs_of start es h)) (omega (arith, few, none))
        by false e =
            let high : first_hosts start ≤ h = grind (arith, nat_tests, e) in
            ap (λ log. waits_of tx (key_in key (after start h log))) (run.within h high) ∙ none_begun h

    module _ (xs : List Addressed) (transit : AreInTransit start es xs) (t : Transaction)
        (live : live_at start (logs_of start es) tx ≡ Some t) (early : is_early t.phase ≡ true) where
      allowed : budget start (logs_of start es) tx ≡ one_if (is_some t.asked)
      allowed = ap (budget_by (is_given_up start (logs_of start es) tx)) live
          ∙ by (is_given_up start (logs_of start es) tx)
          ∙ ap (λ b. if b then 1 else one_if (is_some t.asked)) (early_stays t.phase early)
        where
          by : (b : Bool) → budget_by b (Some t) ≡ budget_of t
          by true = refl
          by false = refl

      bound : tokens_in tx xs + waiting_all start (logs_of start es) tx ≤ one_if (is_some t.asked)
      bound = subst (λ n. tokens_in tx xs + waiting_all start (logs_of start es) tx ≤ n) allowed
          (one_at_a_time start es xs tx run transit)

      -- none where nothing is asked
      pub record NoTokens : Type 0 where
        pub signals : Each (λ (x : Addressed). is_token tx x.signal.body ≡ false) xs
        pub waits : (h : ℕ) → (view_of start (logs_of start es) tx key).waits h ≡ []

      pub none_asked : t.asked ≡ None → NoTokens
      none_asked none =
          let zero_is : one_if (is_some t.asked) ≡ 0 = ap (λ (o : Option _). one_if (is_some o)) none in
          record {
            signals = none_passes (λ (x : Addressed). is_token tx x.signal.body) xs (omega (arith, bound, zero_is));
            waits = none_wait (omega (arith, bound, zero_is));
          }

      -- no other one where one was sent
      pub record IsOnly (new old : List Addressed) : Type 0 where
        pub signals : Each (λ (x : Addressed). is_token tx x.signal.body ≡ false) old
        pub waits : (h : ℕ) → (view_of start (logs_of start es) tx key).waits h ≡ []

      pub one_sent : (new old : List Addressed) → xs ≡ joined new old
          → 1 ≤ tally (λ (x : Addressed). is_token tx x.signal.body) new → IsOnly new old
      one_sent new old is some =
          let all : tokens_in tx xs
          ≡ tally (λ (x : Addressed). is_token tx x.signal.body) new + tally
          (λ (x : Addressed). is_token tx x.signal.body) old =
          ap (tokens_in tx) is ∙ tally_joined (λ (x : Addressed). is_token tx x.signal.body) new old in
          record {
            signals = none_passes (λ (x : Addressed). is_token tx x.signal.body) old
                (omega (arith, bound, one_most (is_some t.asked), all, some));
            waits = none_wait (omega (arith, bound, one_most (is_some t.asked), all, some));
          }

    -- where it isn't live, and wasn't given up, there is none at all
    pub record NoneAtAll (xs : List Addressed) : Type 0 where
      pub signals : Each (λ (x : Addressed). is_token tx x.signal.body ≡ false) xs
      pub waits : (h : ℕ) → (view_of start (logs_of start es) tx key).waits h ≡ []

    pub none_live : (xs : List Addressed) → AreInTransit start es xs → live_at start (logs_of start es) tx ≡ None
        → is_given_up start (logs_of start es) tx ≡ false → NoneAtAll xs
    none_live xs transit none kept =
        let zero_is : budget start (logs_of start es) tx ≡ 0 = λ i. budget_by (kept i) (none i) in
        let bound : tokens_in tx xs + waiting_all start (logs_of start es) tx
        ≤ 0 = subst (λ n. tokens_in tx xs + waiting_all start (logs_of start es) tx ≤ n) zero_is
        (one_at_a_time start es xs tx run transit) in
        record {
          signals = none_passes (λ (x : Addressed). is_token tx x.signal.body) xs (omega (arith, bound));
          waits = none_wait (omega (arith, bound));
        }
