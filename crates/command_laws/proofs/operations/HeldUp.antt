-- At quiet an operation that was sent is unanswered at its coordinator, and held up at one of the nodes that it is sent
-- along.
use Rattle.std.proofs.Common.{◌≡◌, ◌≢◌, ◌⊎◌, ◌<◌, ◌≤◌, ◌+◌, ℕ, zero, suc, Bool, true, false, List, [], ◌∷◌, length}
use Rattle.std.proofs.Common.{refl, sym, ap, ◌∙◌, subst, inl, inr, arith}
use Rattle.std.proofs.lemmas.Bool.{cases_eq}
use Rattle.std.specs.Prelude.{if◌then◌else◌, Option, None, Some, is_some, not}
use Rattle.run_theory.proofs.Merging.{logs_merged, merged_run}
use Rattle.run_theory.proofs.Pasts.{each_in}
use Rattle.run_theory.specs.Lists.{IsIn}
use Rattle.run_theory.specs.Orders.{merged}
use Rattle.run_theory.specs.Runs.{IsWithin}
use Rattle.sig_core.proofs.Keys.{same_tx-self}
use Rattle.sig_core.specs.Chain.{node_at}
use Rattle.sig_core.specs.declared.member.Member.{Member}
use Rattle.sig_core.specs.declared.member.TxId.{TxId}
use Rattle.sig_core.specs.Op.{key_of}
use Rattle.sig_core.specs.Place.{rows_of}
use Rattle.sig_core.specs.Same.{same_tx}
use Rattle.row_locks.specs.Tables.{ahead_at}
use Rattle.api_block.specs.declared.opened.Doing.TheVariants.{Operating}
use Rattle.api_block.specs.declared.opened.OpenTransaction.{OpenTransaction}
use Rattle.lqh_block.specs.declared.request.Request.{Request}
use Rattle.sig_core.specs.Work.{work_key}
use Rattle.node_core.specs.Blocks.{lqh_of, tc_of}
use Rattle.node_core.specs.declared.host.Host.{Host}
use Rattle.tc_block.specs.declared.phase.Asked.{Asked}
use Rattle.tc_block.specs.declared.transaction.Transaction.{Transaction}
use Rattle.tc_block.specs.Phases.{is_aborting}
use Rattle.world_core.proofs.HostNumbers.{host_below, rows_run}
use Rattle.world_core.proofs.Stamped.{stamped}
use Rattle.world_core.specs.Hosts.{home, first_hosts, rows_host}
use Rattle.world_core.specs.Machine.{after, machine}
use Rattle.world_core.specs.Start.{Start}
use Rattle.world_core.specs.Steps.{HostStep}
use Rattle.host_laws.proofs.hosts.Sums.{one_most, total_at}
use Rattle.run_theory.proofs.Tally.{only_one, tally_in}
use Rattle.run_theory.specs.Counts.{one_if, total}
use Rattle.answer_laws.proofs.Aborts.{no_abort}
use Rattle.answer_laws.proofs.Answers.{only_open}
use Rattle.answer_laws.proofs.Heeded.{asked_where_operating}
use Rattle.answer_laws.proofs.Lives.{live_low}
use Rattle.answer_laws.proofs.Ops.{operations_wait}
use Rattle.answer_laws.proofs.Queued.{operations_queue}
use Rattle.answer_laws.proofs.Serves.{each_served}
use Rattle.answer_laws.proofs.Verified.{no_epoch}
use Rattle.answer_laws.specs.Answered.{AreQuiet, IsLiveAs, IsQueuedAt, IsKeptByCoordinator, IsWaitingAt, Waits}
use Rattle.answer_laws.specs.Answered.{WaitsForLock}
use Rattle.host_laws.specs.OpenedAfter.{opened_after}
use Rattle.run_laws.proofs.tokens.OneAtATime.{one_at_a_time}
use Rattle.run_laws.proofs.routes.Routes.{signals_are_routed}
use Rattle.run_laws.proofs.hosts.RowsNodes.{IsRowsHost, rows_node}
use Rattle.run_laws.proofs.transit.Runs.{runs_have_transit}
use Rattle.run_laws.specs.GivenUp.{is_given_up}
use Rattle.run_laws.specs.Live.{live_at}
use Rattle.run_laws.specs.Routes.{IsAskedRouted, IsHostRouted, IsRequestRouted, IsTransactionRouted, replicas}
use Rattle.run_laws.specs.Tokens.{budget_by, waiting_all, waiting_in}
use Rattle.run_laws.specs.Transit.{IsRun, logs_of}
use Rattle.command_laws.specs.Served.{EachIsHeldUp, IsHeldUp, IsHeldUpAt}

-- two of them are no more than all
pub total_two : (n : ℕ) (f : ℕ → ℕ) (i j : ℕ) → i < n → j < n → i ≢ j → f i + f j ≤ total n f
total_two zero f i j low under apart = absurd (omega (arith, low))
total_two (suc n) f i j low under apart = by (cases_eq n i) (cases_eq n j) (total_two n f i j)
  where
    by : (n ≡ i) ⊎ (n ≢ i) → (n ≡ j) ⊎ (n ≢ j) → (i < n → j < n → i ≢ j → f i + f j ≤ total n f)
        → f i + f j ≤ f n + total n f
    by (inl a) (inl b) more = absurd (apart (sym a ∙ b))
    by (inl a) (inr b) more = omega (arith, ap f a, total_at n f j (omega (arith, under, b)))
    by (inr a) (inl b) more = omega (arith, ap f b, total_at n f i (omega (arith, low, a)))
    by (inr a) (inr b) more = omega (arith, more (omega (arith, low, a)) (omega (arith, under, b)) apart)

-- a member stands at each place of a chain
record IsMemberAt (chain : List Member) (at : ℕ) : Type 0 where
  member : Member
  inside : IsIn member chain
  node_is : node_at chain at ≡ member.node

member_at : (chain : List Member) (at : ℕ) → at < length chain → IsMemberAt chain at
member_at [] at low = absurd (omega (arith, low))
member_at (m ∷ chain) zero low = record { member = m; inside = inl refl; node_is = refl }
member_at (m ∷ chain) (suc at) low = let rest = member_at chain at (omega (arith, low)) in record {
  member = rest.member;
  inside = inr rest.inside;
  node_is = rest.node_is;
}

few_budget : (b : Bool) (o : Option Transaction) → budget_by b o ≤ 1
few_budget b (Some t) = by (is_aborting t.phase)
  where
    by : (c : Bool) → (if c then 1 else one_if (is_some t.asked)) ≤ 1
    by true = omega arith
    by false = one_most (is_some t.asked)
few_budget true None = omega arith
few_budget false None = omega arith

-- the run that these logs are
module _ (start : Start) (logs : ℕ → List HostStep) (quiet : AreQuiet start logs) where
  es : List HostStep
  es = merged (machine start) (first_hosts start) logs

  same : logs_of start es ≡ logs
  unfolding es
  same = logs_merged (machine start) (first_hosts start) logs quiet.within quiet.right

  run : IsRun start es
  unfolding es
  run = record {
    shape = quiet.shape;
    run = merged_run (machine start) (stamped start) (first_hosts start) logs quiet.within quiet.right;
    within = subst (IsWithin (first_hosts start))
        (sym (logs_merged (machine start) (first_hosts start) logs quiet.within quiet.right)) quiet.within;
  }

  -- at most one request of a transaction waits
  few_waiting : (tx : TxId) → waiting_all start logs tx ≤ 1
  few_waiting tx =
      let xs = runs_have_transit start es run in
      omega (
        arith,
        one_at_a_time start es xs.0 tx run xs.1,
        few_budget (is_given_up start (logs_of start es) tx) (live_at start (logs_of start es) tx),
        ap (λ w. waiting_all start w tx) same,
      )

  routed : (h : ℕ) → IsHostRouted start (after start h (logs h))
  routed h =
      let xs = runs_have_transit start es run in
      subst (λ w. IsHostRouted start (after start h (w h))) same ((signals_are_routed start es xs.0 run xs.1).hosts h)

  module _ (t : OpenTransaction) (inside : IsIn t (opened_after start logs)) (tx : TxId) (own : t.tx ≡ Some tx)
      (does : t.doing ≡ Operating) where
    served : IsKeptByCoordinator start logs t tx
    served = each_served start logs t quiet inside tx own

    low : home start tx < first_hosts start
    low = live_low start logs tx served.transaction quiet (home start tx) served.live

    -- its operation is unanswered at its coordinator
    asked_there : (o : Option Asked) → served.transaction.asked ≡ o → is_some o ≡ true
    asked_there (Some asked) e = refl
    asked_there None e =
        ap is_some (sym e)
        ∙ asked_where_operating start logs t quiet inside tx served.transaction own does served.live
        (only_open served.transaction.phase
        (no_epoch start logs (home start tx) tx served.transaction quiet low served.live) served.uncommitted
        served.unreported
        (no_abort start logs (home start tx) tx served.transaction quiet low served.live e))

    module _ (asked : Asked) (unanswered : served.transaction.asked ≡ Some asked) where
      queued : WaitsForLock start logs tx
      queued = operations_queue start logs (home start tx) tx served.transaction asked quiet low served.live unanswered

      waits : Waits start logs tx (key_of asked.op)
      waits = operations_wait start logs (home start tx) tx served.transaction asked quiet low served.live unanswered

      some_queued : (g : Host) → IsQueuedAt tx g → 1 ≤ waiting_in tx g
      some_queued g q = tally_in (λ (r : Request). same_tx r.tx tx) q.request (lqh_of g).waiting q.waits
          (ap (λ v. same_tx v tx) q.own ∙ same_tx-self tx)

      some_waiting : (g : Host) → IsWaitingAt tx (key_of asked.op) g → 1 ≤ waiting_in tx g
      some_waiting g w = tally_in (λ (r : Request). same_tx r.tx tx) w.request (lqh_of g).waiting w.waits
          (ap (λ v. same_tx v tx) w.own ∙ same_tx-self tx)

      abbrev queued_host : ℕ
      queued_host = rows_host start queued.node

      abbrev waits_host : ℕ
      waits_host = rows_host start waits.node

      queued_low : queued_host < first_hosts start
      queued_low = host_below start (rows_of queued.node) queued.from queued.to

      same_host : queued_host ≡ waits_host
      same_host = by (cases_eq queued_host waits_host)
        where
          by : (queued_host ≡ waits_host) ⊎ (queued_host ≢ waits_host) → queued_host ≡ waits_host
          by (inl is) = is
          by (inr apart) =
              absurd (omega (
                arith,
                few_waiting tx,
                total_two (first_hosts start) (λ h. waiting_in tx (after start h (logs h))) queued_host waits_host
                    queued_low
                    (host_below start (rows_of waits.node) waits.from waits.to) apart,
                some_queued (after start queued_host (logs queued_host)) queued.there,
                some_waiting (after start waits_host (logs waits_host)) waits.there,
              ))

      -- the request that is queued is for its key
      record IsFor (g : Host) : Type 0 where
        request : Request
        on : work_key request.work ≡ key_of asked.op
        routed_so : IsRequestRouted start (lqh_of g).node request
        held : IsHeldUpAt tx (key_of asked.op) g

      is_held : (b : Bool) → not b ≡ false → b ≡ true
      is_held true e = refl
      is_held false e = cc

      request_for : (g : Host) → waiting_in tx g ≤ 1 → IsHostRouted start g → IsQueuedAt tx g
          → IsWaitingAt tx (key_of asked.op) g → IsFor g
      request_for g few r q w =
          let one : q.request ≡ w.request = only_one (λ (x : Request). same_tx x.tx tx) (lqh_of g).waiting q.request
          w.request few q.waits w.waits (ap (λ v. same_tx v tx) q.own ∙ same_tx-self tx)
          (ap (λ v. same_tx v tx) w.own ∙ same_tx-self tx) in
          let key_is : work_key q.request.work ≡ key_of asked.op = ap (λ (x : Request). work_key x.work) one ∙ w.on in
          record {
            request = q.request;
            on = key_is;
            routed_so = each_in (λ (x : Request). IsRequestRouted start (lqh_of g).node x) q.request (lqh_of g).waiting
                r.waiting q.waits;
            held = ap (λ k. is_some (ahead_at (lqh_of g).locks k tx)) (sym key_is)
                ∙ ap (λ v. is_some (ahead_at (lqh_of g).locks (work_key q.request.work) v)) (sym q.own)
                ∙ is_held (is_some (ahead_at (lqh_of g).locks (work_key q.request.work) q.request.tx)) q.queued;
          }

      for : IsFor (after start queued_host (logs queued_host))
      for =
          request_for (after start queued_host (logs queued_host))
          (omega (
            arith,
            few_waiting tx,
            total_at (first_hosts start) (λ h. waiting_in tx (after start h (logs h)))
                queued_host queued_low,
          ))
          (routed queued_host) queued.there
          (subst (λ k. IsWaitingAt tx (key_of asked.op) (after start k (logs k))) (sym same_host) waits.there)

      -- the operation is sent along the replicas of its key
      sent_along : (g : Host) → IsHostRouted start g → IsLiveAs tx served.transaction g
          → asked.chain ≡ replicas start (key_of asked.op)
      sent_along g r l =
          let u = each_in (λ (e : TxId × Transaction). IsTransactionRouted start e.1) (tx, served.transaction)
          (tc_of g).live r.live l in
          by served.transaction.asked unanswered u.asked
        where
          by : (o : Option Asked) → o ≡ Some asked → IsAskedRouted start o
              → asked.chain ≡ replicas start (key_of asked.op)
          by (Some other) is so =
              let one : other ≡ asked = cc in subst (λ (a : Asked). a.chain ≡ replicas start (key_of a.op)) one so
          by None is so = cc

      at_member : IsMemberAt for.request.chain for.request.at
      at_member = member_at for.request.chain for.request.at for.routed_so.sent.inside

      rows_own : IsRowsHost start queued_host (lqh_of (after start queued_host (logs queued_host))).node
      rows_own = rows_node start queued_host (logs queued_host) queued_low
          (rows_run start queued.node (logs queued_host) queued.from queued.to)

      own_node : (lqh_of (after start queued_host (logs queued_host))).node ≡ at_member.member.node
      own_node = for.routed_so.sent.node_is ∙ at_member.node_is

      held_up : IsHeldUp start logs tx
      held_up = record {
        transaction = served.transaction;
        live = served.live;
        asked = asked;
        unanswered = unanswered;
        member = at_member.member;
        inside = subst (IsIn at_member.member)
            (for.routed_so.chain ∙ ap (replicas start) for.on
            ∙ sym (sent_along (after start (home start tx) (logs (home start tx))) (routed (home start tx))
            served.live)) at_member.inside;
        low = omega (arith, own_node, rows_own.low);
        held = subst (λ k. IsHeldUpAt tx (key_of asked.op) (after start k (logs k)))
            (rows_own.is ∙ ap (rows_host start) own_node) for.held;
      }

    held_by : (o : Option Asked) → served.transaction.asked ≡ o → is_some o ≡ true → IsHeldUp start logs tx
    held_by (Some asked) e some = held_up asked e
    held_by None e some = cc

pub each_held_up : EachIsHeldUp
each_held_up start logs t quiet inside tx own does =
    held_by start logs quiet t inside tx own does (served start logs quiet t inside tx own does).transaction.asked refl
    (asked_there start logs quiet t inside tx own does (served start logs quiet t inside tx own does).transaction.asked
    refl)
