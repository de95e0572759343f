-- At quiet no transaction that is being aborted has an operation unanswered. One that has waits in the queue of a lock,
-- at
-- a place of the key's chain; not at the first, and at a later one not behind another, since that one would be aborted
-- too and wait further on.
use Rattle.std.proofs.Common.{◌≡◌, ◌≢◌, ◌⊎◌, ◌<◌, ◌≤◌, ◌+◌, ◌-◌, ℕ, zero, suc, Bool, true, false, List, [], ◌∷◌, length}
use Rattle.std.proofs.Common.{refl, sym}
use Rattle.std.proofs.Common.{ap, ◌∙◌, subst, inl, inr, arith}
use Rattle.std.proofs.lemmas.Bool.{cases_eq, false≢true, true≢false}
use Rattle.std.specs.List.{list_any}
use Rattle.std.specs.Prelude.{not, Option, None, Some}
use Rattle.run_theory.proofs.Merging.{logs_merged, merged_run}
use Rattle.run_theory.proofs.Pasts.{each_in}
use Rattle.run_theory.specs.Lists.{IsIn}
use Rattle.run_theory.specs.Orders.{merged}
use Rattle.run_theory.specs.Counts.{one_if, total}
use Rattle.run_theory.proofs.Tally.{only_one, tally_in}
use Rattle.run_theory.specs.Runs.{IsWithin}
use Rattle.sig_core.proofs.Keys.{same_key-self, same_tx-self}
use Rattle.sig_core.specs.Chain.{node_at}
use Rattle.sig_core.specs.declared.member.TxId.{TxId}
use Rattle.sig_core.specs.Op.{key_of}
use Rattle.sig_core.specs.Same.{same_key, same_tx}
use Rattle.sig_core.specs.Work.{work_key}
use Rattle.row_locks.specs.Holders.{holds}
use Rattle.row_locks.specs.Queues.{waits}
use Rattle.row_locks.specs.Tables.{ahead_at, lock_at}
use Rattle.lqh_block.specs.declared.request.Request.{Request}
use Rattle.lqh_block.specs.State.{LqhState}
use Rattle.lqh_block.specs.Work.{is_for}
use Rattle.tc_block.specs.State.{TcState}
use Rattle.tc_block.specs.declared.phase.Asked.{Asked}
use Rattle.tc_block.specs.declared.transaction.Transaction.{Transaction}
use Rattle.tc_block.specs.Phases.{is_aborting, is_committing}
use Rattle.node_core.specs.Blocks.{lqh_of, tc_of}
use Rattle.world_core.proofs.Stamped.{stamped}
use Rattle.world_core.specs.Hosts.{home, first_hosts, rows_host}
use Rattle.world_core.specs.Machine.{after, machine}
use Rattle.world_core.specs.Quiet.{IsQuiet}
use Rattle.world_core.specs.Start.{Start}
use Rattle.world_core.specs.Steps.{Addressed, HostStep}
use Rattle.host_laws.proofs.hosts.Sums.{one_most, total_at}
use Rattle.run_laws.specs.Circle.{at_host}
use Rattle.run_laws.specs.GivenUp.{is_carried_out, is_given_up}
use Rattle.run_laws.specs.Live.{live_at}
use Rattle.run_laws.specs.Routes.{IsHostRouted, IsRequestRouted, primary_host, replica_host, replicas}
use Rattle.run_laws.specs.Transit.{IsRun, logs_of}
use Rattle.answer_laws.specs.Answered.{AreQuiet, IsLiveAs, WaitsForLock}
use Rattle.order_laws.specs.Aborting.{WaitsFrom}
use Rattle.order_laws.specs.LetGo.{IsWaitedFor, lock_at_place}
use Rattle.order_laws.specs.Still.{IsStill}
use Rattle.order_laws.proofs.Aborting.{given_up_holders_wait}
use Rattle.order_laws.proofs.Completing.{completed_let_go}
use Rattle.order_laws.proofs.First.{given_up_are_out_at_first}
use Rattle.order_laws.proofs.Later.{later_holders_are_given_up}
use Rattle.order_laws.proofs.LetGo.{holders_have_let_go}
use Rattle.order_laws.proofs.Over.{who_lets_go_is_over}
use Rattle.order_laws.proofs.Still.{home_low, still_at_quiet}
use Rattle.order_laws.proofs.Writers.{holders_behind_dont_wait}
use Rattle.command_laws.specs.Quietly.{NoAbortWaits}
use Rattle.command_laws.specs.Served.{IsBehind}
use Rattle.command_laws.proofs.rounds.ClosedWaits.{is_closed}
use Rattle.command_laws.proofs.operations.HeldUp.{total_two}
use Rattle.command_laws.proofs.rounds.NoneClosed.{none_closed}
use Rattle.command_laws.proofs.waits.Behind.{behind_locks}
use Rattle.answer_laws.proofs.Commits.{no_commit}
use Rattle.answer_laws.proofs.Queued.{operations_queue}
use Rattle.host_laws.proofs.hosts.BlocksAlong.{IsHome, first_waiting}
use Rattle.host_laws.proofs.coordinator.OfLive.{each_found}
use Rattle.host_laws.proofs.coordinator.OneWay.{back_aborting}
use Rattle.host_laws.proofs.rows.Replicas.{logs_keep_well}
use Rattle.host_laws.specs.Live.{of_live}
use Rattle.host_laws.specs.Ways.{back_by, sent_ways}
use Rattle.run_laws.proofs.hosts.AlongSteps.{at_home, live_tx}
use Rattle.run_laws.proofs.routes.Routes.{signals_are_routed}
use Rattle.run_laws.proofs.hosts.RowsNodes.{rows_node}
use Rattle.run_laws.proofs.hosts.TcSound.{log_sound}
use Rattle.run_laws.proofs.tokens.Coordinator.{IsOwned}
use Rattle.world_core.proofs.HostNumbers.{host_below, rows_run}
use Rattle.order_laws.specs.Unanswered.{asks_on, is_on_key, waiting_on}
use Rattle.order_laws.proofs.Unanswered.{parts_are_unanswered}
use Rattle.row_records.proofs.KeyLemmas as keys
use Rattle.sig_core.specs.Place.{rows_of}
use Rattle.std.proofs.lemmas.Bool.{and_parts, cases_lt}
use Rattle.std.specs.Prelude.{if◌then◌else◌, is_some}
use Rattle.sig_core.proofs.TxLemmas.{same_tx-is}
use Rattle.host_laws.proofs.rows.Operations.{true_and}

-- who is found among a coordinator's transactions is one of them
found_in : (tx : TxId) (t : Transaction) (live : List (TxId × Transaction)) → of_live tx live ≡ Some t
    → IsIn (tx, t) live
found_in tx t [] is = absurd cc
found_in tx t (e ∷ live) is = by (same_tx e.0 tx) refl is (found_in tx t live)
  where
    by : (b : Bool) → same_tx e.0 tx ≡ b → (if b then Some e.1 else of_live tx live) ≡ Some t
        → (of_live tx live ≡ Some t → IsIn (tx, t) live) → IsIn (tx, t) (e ∷ live)
    by true own is more =
        let one : e.1 ≡ t = cc in
        inl (ap (λ v. (v, t)) (sym (same_tx-is e.0 tx own)) ∙ ap (λ w. (e.0, w)) (sym one))
    by false off is more = inr (more is)

module _ (start : Start) (es : List HostStep) (run : IsRun start es) (quiet : AreQuiet start (logs_of start es)) where
  abbrev logs : ℕ → List HostStep
  logs h = logs_of start es h

  -- the transaction waits at a place of a key's chain, and another one holds the lock there
  record IsStuck (tx : TxId) (key : List ℕ) (at : ℕ) : Type 0 where
    inside : at < length (replicas start key)
    request : Request
    there : IsIn request (lqh_of (after start (replica_host start key at)
        (logs_of start es (replica_host start key at)))).waiting
    own : request.tx ≡ tx
    on : work_key request.work ≡ key
    place : request.at ≡ at
    who : TxId
    waiting : waits tx (lock_at_place start (logs_of start es) key at).queue ≡ true
    holding : holds who (lock_at_place start (logs_of start es) key at).holders ≡ true
    other : same_tx who tx ≡ false

  record IsStuckSomewhere (tx : TxId) : Type 0 where
    key : List ℕ
    at : ℕ
    stuck : IsStuck tx key at

  still : (xs : List Addressed) × IsStill start es xs
  still = still_at_quiet start es run quiet.quiet

  routed : (h : ℕ) → IsHostRouted start (after start h (logs_of start es h))
  routed h = (signals_are_routed start es still.0 run still.1.transit).hosts h

  -- so it is of each that has an operation unanswered
  stuck_at : (tx : TxId) (t : Transaction) (asked : Asked) → home start tx < first_hosts start
      → IsLiveAs tx t (after start (home start tx) (logs_of start es (home start tx))) → t.asked ≡ Some asked
      → IsStuckSomewhere tx
  stuck_at tx t asked low live is =
      found (operations_queue start (logs_of start es) (home start tx) tx t asked quiet low live is)
    where
      found : WaitsForLock start (logs_of start es) tx → IsStuckSomewhere tx
      found w = record { key = key; at = q.at; stuck = stuck }
        where
          h : ℕ
          h = rows_host start w.node

          s : LqhState
          s = lqh_of (after start h (logs_of start es h))

          q : Request
          q = w.there.request

          key : List ℕ
          key = work_key q.work

          h_low : h < first_hosts start
          h_low = host_below start (rows_of w.node) w.from w.to

          way : IsRequestRouted start s.node q
          way = each_in (λ (x : Request). IsRequestRouted start s.node x) q s.waiting (routed h).waiting w.there.waits

          here : h ≡ replica_host start key q.at
          here =
              (rows_node start h (logs_of start es h) h_low (rows_run start w.node (logs_of start es h) w.from w.to)).is
              ∙ ap (rows_host start) (way.sent.node_is ∙ ap (λ c. node_at c q.at) way.chain)

          is_held : (b : Bool) → not b ≡ false → b ≡ true
          is_held true e = refl
          is_held false e = absurd cc

          ahead : is_some (ahead_at s.locks key tx) ≡ true
          ahead =
              ap (λ v. is_some (ahead_at s.locks key v)) (sym w.there.own)
              ∙ is_held (is_some (ahead_at s.locks key q.tx)) w.there.queued

          behind : (o : Option TxId) → ahead_at s.locks key tx ≡ o → is_some o ≡ true
              → (who : TxId) × IsBehind tx who key s.locks
          behind None e some = absurd (false≢true some)
          behind (Some who) e some = (
            who,
            behind_locks s.locks key tx who (logs_keep_well start h (logs_of start es h)).orderly
                (none_closed start key w.node w.from w.to (logs_of start es) quiet) e,
          )

          b : (who : TxId) × IsBehind tx who key s.locks
          b = behind (ahead_at s.locks key tx) refl ahead

          stuck : IsStuck tx key q.at
          stuck = record {
            inside = subst (λ c. q.at < length c) way.chain way.sent.inside;
            request = q;
            there = subst (λ k. IsIn q (lqh_of (after start k (logs_of start es k))).waiting) here w.there.waits;
            own = w.there.own;
            on = refl;
            place = refl;
            who = b.0;
            waiting =
                subst (λ k. waits tx (lock_at (lqh_of (after start k (logs_of start es k))).locks key).queue ≡ true)
                here b.1.waiting;
            holding =
                subst (λ k. holds b.0 (lock_at (lqh_of (after start k (logs_of start es k))).locks key).holders ≡ true)
                here b.1.held;
            other = b.1.other;
          }

  -- a request that waits is at a host that is there
  waits_low : (h : ℕ) (q : Request) → IsIn q (lqh_of (after start h (logs_of start es h))).waiting
      → h < first_hosts start
  waits_low h q there = by (cases_lt h (first_hosts start))
    where
      by : (h < first_hosts start) ⊎ (first_hosts start ≤ h) → h < first_hosts start
      by (inl low) = low
      by (inr high) =
          absurd (nobody (ap (λ log. (lqh_of (after start h log)).waiting) (run.within h high) ∙ first_waiting start h)
          there)
        where
          nobody : {xs : List Request} → xs ≡ [] → IsIn q xs → ⊥
          nobody is inside = subst (λ xs. IsIn q xs) is inside

  counts : (tx : TxId) (key : List ℕ) (q : Request) → q.tx ≡ tx → work_key q.work ≡ key → is_for tx key q ≡ true
  counts tx key q own on =
      true_and (same_tx q.tx tx) (same_key (work_key q.work) key)
      (ap (λ v. same_tx v tx) own ∙ same_tx-self tx) (ap (λ k. same_key k key) on ∙ same_key-self key)

  -- a request that waits is the unanswered operation of its transaction, and the only one
  record IsAsked (tx : TxId) (key : List ℕ) : Type 0 where
    transaction : Transaction
    asked : Asked
    there : live_at start (logs_of start es) tx ≡ Some transaction
    is : transaction.asked ≡ Some asked
    on : key_of asked.op ≡ key

  asked_of : (tx : TxId) (key : List ℕ) (h : ℕ) (q : Request)
      → IsIn q (lqh_of (after start h (logs_of start es h))).waiting → q.tx ≡ tx → work_key q.work ≡ key
      → IsAsked tx key
  asked_of tx key h q inside own on = by (live_at start (logs_of start es) tx) refl
    where
      some : 1 ≤ one_if (asks_on key (live_at start (logs_of start es) tx))
      some = omega (
        arith,
        parts_are_unanswered start es still.0 tx key run still.1.transit,
        total_at (first_hosts start) (λ k. waiting_on tx key (after start k (logs_of start es k))) h
            (waits_low h q inside),
        tally_in (is_for tx key) q (lqh_of (after start h (logs_of start es h))).waiting inside
            (counts tx key q own on),
      )

      by : (o : Option Transaction) → live_at start (logs_of start es) tx ≡ o → IsAsked tx key
      by None none = absurd (omega (arith, some, ap (λ o. one_if (asks_on key o)) none))
      by (Some t) there = which t.asked refl
        where
          which : (a : Option Asked) → t.asked ≡ a → IsAsked tx key
          which None none =
              absurd (omega (
                arith,
                some,
                ap (λ o. one_if (asks_on key o)) there,
                ap (λ a. one_if (is_on_key key a)) none,
              ))
          which (Some a) is = on_it (same_key (key_of a.op) key) refl
            where
              on_it : (b : Bool) → same_key (key_of a.op) key ≡ b → IsAsked tx key
              on_it true same = record {
                transaction = t;
                asked = a;
                there = there;
                is = is;
                on = keys.same (key_of a.op) key same;
              }
              on_it false off =
                  absurd (omega (
                    arith,
                    some,
                    ap (λ o. one_if (asks_on key o)) there,
                    ap (λ a. one_if (is_on_key key a)) is,
                    ap one_if off,
                  ))

  -- two such requests are one
  one_request : (tx : TxId) (key : List ℕ) (h j : ℕ) (q r : Request)
      → IsIn q (lqh_of (after start h (logs_of start es h))).waiting → q.tx ≡ tx → work_key q.work ≡ key
      → IsIn r (lqh_of (after start j (logs_of start es j))).waiting → r.tx ≡ tx → work_key r.work ≡ key → q ≡ r
  one_request tx key h j q r there own on here its at = by (cases_eq h j)
    where
      f : ℕ → ℕ
      f k = waiting_on tx key (after start k (logs_of start es k))

      few : total (first_hosts start) f ≤ 1
      few = omega (
        arith,
        parts_are_unanswered start es still.0 tx key run still.1.transit,
        one_most (asks_on key (live_at start (logs_of start es) tx)),
      )

      by : (h ≡ j) ⊎ (h ≢ j) → q ≡ r
      by (inl same) =
          only_one (is_for tx key) (lqh_of (after start h (logs_of start es h))).waiting q r
          (omega (arith, few, total_at (first_hosts start) f h (waits_low h q there))) there
          (subst (λ k. IsIn r (lqh_of (after start k (logs_of start es k))).waiting) (sym same) here)
          (counts tx key q own on) (counts tx key r its at)
      by (inr apart) =
          absurd (omega (
            arith,
            few,
            total_two (first_hosts start) f h j (waits_low h q there) (waits_low j r here) apart,
            tally_in (is_for tx key) q (lqh_of (after start h (logs_of start es h))).waiting there
                (counts tx key q own on),
            tally_in (is_for tx key) r (lqh_of (after start j (logs_of start es j))).waiting here
                (counts tx key r its at),
          ))

  -- who is given up, and waits so, doesn't: from the last place of a chain on
  none_stuck : (n : ℕ) (tx : TxId) (key : List ℕ) (at : ℕ) → length (replicas start key) ≤ at + n
      → is_given_up start (logs_of start es) tx ≡ true → 1 ≤ tx.tc → tx.tc ≤ start.shape.nodes → IsStuck tx key at → ⊥
  none_stuck zero tx key at end given some low k = omega (arith, end, k.inside)
  none_stuck (suc n) tx key zero end given some low k =
      true≢false (sym k.waiting
      ∙ (given_up_are_out_at_first start es key tx run quiet.quiet some low given).unwaited)
  none_stuck (suc n) tx key (suc at) end given some low k =
      further (given_up_holders_wait start es still.0 key (suc at) k.who run still.1 k.inside over k.holding)
      (none_stuck n)
    where
      waited : IsWaitedFor start (logs_of start es) key at k.who tx
      waited = record {
        inside = omega (arith, k.inside);
        apart = k.other;
        holding = subst (λ p. holds k.who (lock_at_place start (logs_of start es) key p).holders ≡ true)
            (omega arith) k.holding;
        waiting =
            subst (λ p. waits tx (lock_at_place start (logs_of start es) key p).queue ≡ true) (omega arith) k.waiting;
      }

      uncommitted : (t : Transaction) → live_at start (logs_of start es) k.who ≡ Some t → is_committing t.phase ≡ false
      uncommitted t live =
          no_commit start (logs_of start es) (home start k.who) k.who t quiet
          (home_low start es k.who run (who_lets_go_is_over start es key (replica_host start key at) k.who run
          (holders_have_let_go start es key at k.who tx run waited)))
          (found_in k.who t (tc_of (after start (home start k.who) (logs_of start es (home start k.who)))).live live)

      first_place : is_carried_out start (logs_of start es) k.who ≡ true → at ≡ 0
          → is_given_up start (logs_of start es) k.who ≡ true
      first_place carried is =
          absurd (true≢false (sym (subst (λ p. holds k.who (lock_at_place start (logs_of start es) key p).holders ≡
          true)
          (omega (arith, is)) k.holding)
          ∙ completed_let_go start es still.0 key k.who run still.1 (omega (arith, k.inside, is)) carried uncommitted))

      -- the holder is given up
      over : is_given_up start (logs_of start es) k.who ≡ true
      over = by (who_lets_go_is_over start es key (replica_host start key at) k.who run
          (holders_have_let_go start es key at k.who tx run waited))
        where
          by : (is_given_up start (logs_of start es) k.who ≡ true)
              ⊎ (is_carried_out start (logs_of start es) k.who ≡ true)
              → is_given_up start (logs_of start es) k.who ≡ true
          by (inl given) = given
          by (inr carried) = place (cases_eq at 0)
            where
              place : (at ≡ 0) ⊎ (at ≢ 0) → is_given_up start (logs_of start es) k.who ≡ true
              place (inl is) = first_place carried is
              place (inr off) =
                  later_holders_are_given_up start es key at k.who tx run (some_at at off) waited
                where
                  some_at : (m : ℕ) → m ≢ 0 → 0 < m
                  some_at zero off = absurd (off refl)
                  some_at (suc m) off = omega arith

      -- and waits itself, further on
      further : WaitsFrom start (logs_of start es) k.who key (suc at)
          → ((tx : TxId) (key : List ℕ) (at : ℕ) → length (replicas start key) ≤ at + n
          → is_given_up start (logs_of start es) tx ≡ true → 1 ≤ tx.tc → tx.tc ≤ start.shape.nodes → IsStuck tx key at
          → ⊥) → ⊥
      further w more = at_place (cases_eq found.at (suc at))
        where
          a : IsAsked k.who key
          a = asked_of k.who key w.host w.request w.inside w.own w.on

          live : IsLiveAs k.who a.transaction
              (after start (home start k.who) (logs_of start es (home start k.who)))
          live =
              found_in k.who a.transaction
              (tc_of (after start (home start k.who) (logs_of start es (home start k.who)))).live a.there

          home_there : home start k.who < first_hosts start
          home_there = home_low start es k.who run (inl over)

          of : IsHome start k.who (home start k.who)
          of = at_home start k.who (home start k.who) (logs_of start es (home start k.who)) a.transaction home_there
              a.there

          found : IsStuckSomewhere k.who
          found = stuck_at k.who a.transaction a.asked home_there live a.is

          b : IsAsked k.who found.key
          b =
              asked_of k.who found.key (replica_host start found.key found.at) found.stuck.request found.stuck.there
              found.stuck.own found.stuck.on

          same_asked : Some a.asked ≡ Some b.asked → key_of a.asked.op ≡ key_of b.asked.op
          same_asked both = let one : a.asked ≡ b.asked = cc in ap (λ (x : Asked). key_of x.op) one

          same_live : Some a.transaction ≡ Some b.transaction → a.transaction ≡ b.transaction
          same_live both = cc

          key_is : found.key ≡ key
          key_is =
              sym b.on
              ∙ (sym (same_asked (sym a.is
              ∙ (ap (λ (t : Transaction). t.asked) (same_live (sym a.there ∙ b.there)) ∙ b.is))) ∙ a.on)

          one : found.stuck.request ≡ w.request
          one =
              one_request k.who key (replica_host start found.key found.at) w.host found.stuck.request w.request
              found.stuck.there found.stuck.own (found.stuck.on ∙ key_is) w.inside w.own w.on

          behind : suc at ≤ found.at
          behind = omega (arith, w.from, ap (λ (q : Request). q.at) one, found.stuck.place)

          moved : IsStuck k.who key found.at
          moved = subst (λ x. IsStuck k.who x found.at) key_is found.stuck

          at_place : (found.at ≡ suc at) ⊎ (found.at ≢ suc at) → ⊥
          at_place (inl here) =
              true≢false (sym (subst (λ p. waits k.who (lock_at_place start (logs_of start es) key p).queue ≡ true)
              (here ∙ omega arith) moved.waiting)
              ∙ holders_behind_dont_wait start es key at k.who run waited.inside waited.holding)
          at_place (inr off) =
              more k.who key found.at (omega (arith, end, less found.at (suc at) behind off)) over of.some of.low moved
            where
              less : (m p : ℕ) → p ≤ m → m ≢ p → p < m
              less m p le apart = by (cases_lt p m)
                where
                  by : (p < m) ⊎ (m ≤ p) → p < m
                  by (inl lt) = lt
                  by (inr ge) = absurd (apart (omega (arith, le, ge)))

  none_aborts : (tx : TxId) (t : Transaction) (asked : Asked) → home start tx < first_hosts start
      → IsLiveAs tx t (after start (home start tx) (logs_of start es (home start tx))) → t.asked ≡ Some asked
      → is_aborting t.phase ≡ true → ⊥
  none_aborts tx t asked low live is on =
      let found = stuck_at tx t asked low live is in
      none_stuck (length (replicas start found.key)) tx found.key found.at (omega arith) given of.some of.low
      found.stuck
    where
      there : live_at start (logs_of start es) tx ≡ Some t
      there = live_tx start tx (home start tx) (logs_of start es (home start tx)) t live

      of : IsHome start tx (home start tx)
      of = at_home start tx (home start tx) (logs_of start es (home start tx)) t low there

      s : TcState
      s = tc_of (after start (home start tx) (logs_of start es (home start tx)))

      given : is_given_up start (logs_of start es) tx ≡ true
      given =
          (each_found
          (IsOwned s.node s.next_seq (sent_ways start back_by (home start tx) (logs_of start es (home start tx))))
          s.live tx t (log_sound start (home start tx) (logs_of start es (home start tx))).tc.live there).given on

-- quiet logs are those of a run
pub quiet_runs : (start : Start) (logs : ℕ → List HostStep) → AreQuiet start logs
    → IsRun start (merged (machine start) (first_hosts start) logs)
quiet_runs start logs quiet = record {
  shape = quiet.shape;
  run = merged_run (machine start) (stamped start) (first_hosts start) logs quiet.within quiet.right;
  within =
      subst (IsWithin (first_hosts start))
      (sym (logs_merged (machine start) (first_hosts start) logs quiet.within quiet.right))
      quiet.within;
}

pub no_abort_waits : NoAbortWaits
no_abort_waits start logs h tx t asked quiet low live is = by (is_aborting t.phase) refl
  where
    es : List HostStep
    es = merged (machine start) (first_hosts start) logs

    same : logs_of start (merged (machine start) (first_hosts start) logs) ≡ logs
    same = logs_merged (machine start) (first_hosts start) logs quiet.within quiet.right

    at : h ≡ home start tx
    at = (at_home start tx h (logs h) t low (live_tx start tx h (logs h) t live)).is

    by : (b : Bool) → is_aborting t.phase ≡ b → b ≡ false
    by false e = refl
    by true e =
        absurd (none_aborts start (merged (machine start) (first_hosts start) logs) (quiet_runs start logs quiet)
        (subst (AreQuiet start) (sym same) quiet) tx t asked (omega (arith, low, at))
        (subst (λ (l : ℕ → List HostStep). IsLiveAs tx t (after start (home start tx) (l (home start tx)))) (sym same)
        (subst (λ k. IsLiveAs tx t (after start k (logs k))) at live)) is e)
