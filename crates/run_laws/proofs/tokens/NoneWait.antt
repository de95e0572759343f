-- Where a part of an operation comes, or the transaction is carried out, none of its requests waits at a replica.
use Rattle.std.proofs.Common.{◌≡◌, ◌⊎◌, ◌<◌, ◌≤◌, ℕ, ◌+◌, Bool, true, false, List, [], ◌∷◌, refl, sym, ap, ◌∙◌, arith}
use Rattle.std.proofs.Common.{inl, inr}
use Rattle.std.specs.Prelude.{cond, filter, Option, None, Some}
use Rattle.std.proofs.lemmas.Bool.{cases_lt}
use Rattle.run_theory.specs.Lists.{IsIn}
use Rattle.run_theory.proofs.Pasts.{each_filter, each_from}
use Rattle.world_core.specs.Steps.{Addressed, HostStep}
use Rattle.sig_core.specs.declared.member.TxId.{TxId}
use Rattle.sig_core.specs.Same.{same_tx}
use Rattle.lqh_block.specs.declared.request.Request.{Request}
use Rattle.node_core.specs.Blocks.{lqh_of}
use Rattle.node_core.specs.declared.host.Host.{Host}
use Rattle.world_core.specs.Hosts.{first_hosts}
use Rattle.world_core.specs.Machine.{after}
use Rattle.world_core.specs.Start.{Start}
use Rattle.key_laws.specs.PrimaryEvents.{NoneOf}
use Rattle.key_laws.specs.Replica.{asks_for}
use Rattle.host_laws.specs.ReplicaLaws.{key_in}
use Rattle.sig_core.proofs.Keys.{same_tx-self}
use Rattle.run_theory.specs.Counts.{one_if, tally}
use Rattle.host_laws.proofs.hosts.Sums.{total_at}
use Rattle.run_laws.specs.Beside.{ComersAreUndecided, NoneWaitBeside, NoneWaitWhereCarriedOut}
use Rattle.run_laws.specs.Circle.{at_host}
use Rattle.run_laws.specs.GivenUp.{is_given_up}
use Rattle.run_laws.specs.Live.{live_at}
use Rattle.run_laws.specs.Owed.{IsUndecided, WaitersAreUndecided, is_decided}
use Rattle.run_laws.specs.Tokens.{budget, budget_by, is_token, tokens, tokens_in, waiting_all, waiting_in}
use Rattle.run_laws.specs.Transit.{AreInTransit, Comes, IsRun, logs_of}
use Rattle.tc_block.specs.declared.transaction.Transaction.{Transaction}
use Rattle.run_laws.proofs.tokens.OneAtATime.{in_before, none_waits_first, one_at_a_time}
use Rattle.run_laws.proofs.tokens.Turns.{few}
use Rattle.run_laws.proofs.transit.Runs.{IsTaking, runs_have_transit, taking}
use Rattle.run_laws.proofs.causes.Undecided.{carried_out_have_none, decided_have_none}
use Rattle.run_laws.proofs.transit.Weighing.{none_passes}

-- the requests that wait for a key at a host are some of those that wait there
none_in : (g : Host) (tx : TxId) (key : List ℕ) → waiting_in tx g ≡ 0 → NoneOf tx (key_in key g).waiting
none_in g tx key none =
    each_filter (λ (q : Request). same_tx q.tx tx ≡ false) (asks_for key) (lqh_of g).waiting
    (none_passes (λ (q : Request). same_tx q.tx tx) (lqh_of g).waiting none)

some_in : (g : Host) (q : Request) (key : List ℕ) → IsIn q (key_in key g).waiting → 1 ≤ waiting_in q.tx g
some_in g q key inside = by (lqh_of g).waiting inside
  where
    by : (xs : List Request) → IsIn q (filter (asks_for key) xs) → 1 ≤ tally (λ (r : Request). same_tx r.tx q.tx) xs
    by [] inside = absurd inside
    by (x ∷ xs) inside = which (asks_for key x) inside (by xs)
      where
        which : (b : Bool) → IsIn q (cond b (x ∷ filter (asks_for key) xs) (filter (asks_for key) xs))
            → (IsIn q (filter (asks_for key) xs) → 1 ≤ tally (λ (r : Request). same_tx r.tx q.tx) xs)
            → 1 ≤ one_if (same_tx x.tx q.tx) + tally (λ (r : Request). same_tx r.tx q.tx) xs
        which true (inl same) more =
            omega (arith, ap one_if (ap (λ (r : Request). same_tx r.tx q.tx) (sym same) ∙ same_tx-self q.tx))
        which true (inr rest) more = omega (arith, more rest)
        which false rest more = omega (arith, more rest)

module _ (start : Start) (es : List HostStep) (run : IsRun start es) where
  abbrev logs : ℕ → List HostStep
  logs = logs_of start es

  -- what waits at a host is part of what waits
  waits_less : (tx : TxId) (h : ℕ) → waiting_in tx (after start h (logs h)) ≤ waiting_all start logs tx
  waits_less tx h = by (cases_lt h (first_hosts start))
    where
      by : (h < first_hosts start) ⊎ (first_hosts start ≤ h)
          → waiting_in tx (after start h (logs h)) ≤ waiting_all start logs tx
      by (inl low) = total_at (first_hosts start) (λ k. waiting_in tx (after start k (logs k))) h low
      by (inr high) =
          omega (arith, ap (λ log. waiting_in tx (after start h log)) (run.within h high), none_waits_first start tx h)

  none_at : (tx : TxId) (key : List ℕ) (h : ℕ) → waiting_all start logs tx ≡ 0
      → NoneOf tx (at_host start logs key h).waiting
  none_at tx key h none = none_in (after start h (logs h)) tx key (omega (arith, none, waits_less tx h))

  few_budget : (tx : TxId) → budget start logs tx ≤ 1
  few_budget tx = by (is_given_up start logs tx) (live_at start logs tx)
    where
      by : (b : Bool) (o : Option Transaction) → budget_by b o ≤ 1
      by b (Some t) = few t.phase t.asked
      by true None = omega arith
      by false None = omega arith

  -- it isn't decided where some of it is under way, unless it is given up
  undecided_if : (tx : TxId) (xs : List Addressed) → AreInTransit start es xs → 1 ≤ tokens start logs xs tx
      → IsUndecided start logs tx
  undecided_if tx xs transit some = by (is_given_up start logs tx) (is_decided start logs tx) refl refl
    where
      by : (b c : Bool) → is_given_up start logs tx ≡ b → is_decided start logs tx ≡ c → IsUndecided start logs tx
      by true c e f = inl e
      by false false e f = inr f
      by false true e f = absurd (omega (arith, some, decided_have_none start es xs tx run transit f e))

pub none_wait_where_carried_out : NoneWaitWhereCarriedOut
none_wait_where_carried_out start es tx key h run carried =
    let (xs, transit) = runs_have_transit start es run in
    none_at start es run tx key h (omega (arith, carried_out_have_none start es xs tx run transit carried))

-- the step takes one
taken_some : (start : Start) (es : List HostStep) (e : HostStep) (tx : TxId) (come : Comes start es e)
    (t : IsTaking start es e) → is_token tx e.step.taken.body ≡ true → 1 ≤ tokens_in tx t.before
taken_some start es e tx come t is =
    omega (arith, in_before start tx es e t.before t.between come t.takes, ap one_if is)

pub none_wait_beside : NoneWaitBeside
none_wait_beside start es e tx key h come plain is =
    let t = taking start es e come in
    none_at start es come.before tx key h
    (omega (
      arith,
      taken_some start es e tx come t is,
      one_at_a_time start es t.before tx come.before t.transit,
      few_budget start es come.before tx,
    ))

pub comers_are_undecided : ComersAreUndecided
comers_are_undecided start es e tx come plain is =
    let t = taking start es e come in
    undecided_if start es come.before tx t.before t.transit (omega (arith, taken_some start es e tx come t is))

pub waiters_are_undecided : WaitersAreUndecided
waiters_are_undecided start es key h run =
    let (xs, transit) = runs_have_transit start es run in
    each_from (λ (q : Request). IsUndecided start (logs_of start es) q.tx)
    (at_host start (logs_of start es) key h).waiting
    (λ q inside. undecided_if start es run q.tx xs transit
    (omega (arith, some_in (after start h (logs_of start es h)) q key inside, waits_less start es run q.tx h)))
