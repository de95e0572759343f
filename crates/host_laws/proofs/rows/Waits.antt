-- One key of one transaction at a replica: how many requests wait, whether it is in the queue, and whether the block
-- goes on.
use Rattle.std.proofs.Common.{◌≡◌, ◌⊎◌, ℕ, ◌+◌, ◌≤◌, List, [], ◌∷◌, ◌++◌, Bool, true, false, refl, ap, sym, ◌∙◌, subst}
use Rattle.std.proofs.Common.{arith, inl, inr}
use Rattle.std.specs.Prelude.{◌==◌, ◌&&◌, ◌||◌, not, is_some, position, remove, if◌then◌else◌, Option, None, Some}
use Rattle.std.proofs.lemmas.Bool.{false≢true}
use Rattle.sig_core.specs.declared.member.TxId.{TxId}
use Rattle.sig_core.specs.declared.outs.Outgoing.{Outgoing}
use Rattle.sig_core.specs.declared.place.Place.{Place}
use Rattle.sig_core.specs.declared.signal.Body.{Body}
use Rattle.sig_core.specs.declared.signal.Body.TheVariants.{Host, Chain}
use Rattle.sig_core.specs.declared.signal.chain.ChainSignal.TheVariants.{LqhKeyReq, LqhKeyConf, LqhKeyRef, Commit}
use Rattle.sig_core.specs.declared.signal.chain.ChainSignal.TheVariants.{Complete}
use Rattle.sig_core.specs.declared.signal.host.HostSignal.TheVariants.{Continue}
use Rattle.sig_core.specs.declared.signal.host.Work.TheVariants as work
use Rattle.sig_core.specs.Same.{same_key, same_tx}
use Rattle.sig_core.specs.Step.{Step}
use Rattle.sig_core.specs.Work.{work_key}
use Rattle.row_locks.specs.declared.mode.Lock.TheVariants.{Granted, Queued}
use Rattle.row_locks.specs.Holders.{first_other}
use Rattle.row_locks.specs.Queues.{waits}
use Rattle.row_locks.specs.Rows.{RowLock}
use Rattle.row_locks.specs.Tables.{ahead_at, lock_at, some_if}
use Rattle.lqh_block.specs.declared.request.Request.{Request}
use Rattle.lqh_block.specs.Lqh.{lqh_table}
use Rattle.lqh_block.specs.Operate as operate
use Rattle.lqh_block.specs.State.{LqhState, go_on_if, with_waiting}
use Rattle.lqh_block.specs.Storage as storage
use Rattle.lqh_block.specs.Storage.{StorageState}
use Rattle.lqh_block.specs.Work.{is_for, work_mode}
use Rattle.row_records.proofs.KeyLemmas.{same as same_key-is}
use Rattle.lqh_block.proofs.LqhForms.{GrantedForms, RequestForms, perform_forms}
use Rattle.key_laws.proofs.LocksAt.{lock-inserted}
use Rattle.run_theory.proofs.Focus.{IsTakenAt, none_placed, taken_at, tally_taken}
use Rattle.host_laws.proofs.rows.Operations.{is_lqh, left_of, right_of, true_and}
use Rattle.host_laws.proofs.rows.QueueWaits.{AskedWaits, asked_waits}
use Rattle.host_laws.proofs.rows.RequestCounts.{CountStep, asked_by, count_step, ends, is_work, performs, refuses}
use Rattle.host_laws.proofs.rows.RequestCounts.{rests}
use Rattle.run_theory.proofs.Tally.{Counted, counted, tally_append, tally_in}
use Rattle.run_theory.specs.Counts.{one_if, tally}
use Rattle.host_laws.proofs.coordinator.Moves.{same_tx-is}
use Rattle.host_laws.proofs.coordinator.Sends.{eqb-self}
use Rattle.host_laws.proofs.api.Wishes.{is_tc, sends_of}

-- a request of the transaction for the key, or its answer, wherever it goes
abbrev pub is_hop : TxId → List ℕ → Place → Body → Bool
is_hop tx key to (Chain (LqhKeyReq other what chain at)) = is_lqh to.block
    && (same_tx other tx && same_key (work_key what) key)
is_hop tx key to (Chain (LqhKeyConf other at answer)) = is_tc to.block && (same_tx other tx && same_key at key)
is_hop tx key to (Chain (LqhKeyRef other at cause)) = is_tc to.block && (same_tx other tx && same_key at key)
is_hop tx key to _ = false

-- the rows of a node go on with requests that are granted
abbrev pub is_more : ℕ → Place → Body → Bool
is_more node to (Host (Continue work.Granted at)) = is_lqh to.block && (to.node == node)
is_more node to _ = false

abbrev pub is_more_body : Body → Bool
is_more_body (Host (Continue work.Granted at)) = true
is_more_body _ = false

-- the transaction's rows are committed or completed
abbrev pub is_forth : TxId → Body → Bool
is_forth tx (Chain (Commit other key epoch chain at)) = same_tx other tx
is_forth tx (Chain (Complete other key chain at)) = same_tx other tx
is_forth tx _ = false

module _ (tx : TxId) (key : List ℕ) where
  abbrev pub hops : List Outgoing → ℕ
  hops sends = sends_of (is_hop tx key) sends

  abbrev pub own : Request → Bool
  own r = is_for tx key r

  -- how many requests wait, and whether the transaction is in the queue of the key
  abbrev pub waiting : LqhState → ℕ
  waiting s = tally (is_for tx key) s.waiting

  abbrev pub queued : LqhState → Bool
  queued s = waits tx (lock_at s.locks key).queue

  abbrev pub came_to : Body → ℕ
  came_to body = asked_by own body

  abbrev pub goes_on : ℕ → List Outgoing → ℕ
  goes_on node sends = sends_of (is_more node) sends

  -- a request waited outside the queue before, at another signal than the block's own, or the block goes on
  abbrev pub IsServed : LqhState → Body → List Outgoing → Type 0
  IsServed s body sends = ((1 ≤ waiting s) × ((queued s ≡ false) × (is_more_body body ≡ false)))
      ⊎ (1 ≤ goes_on s.node sends)

  -- who is in the queue waits
  abbrev pub HasAsked : LqhState → Type 0
  HasAsked s = queued s ≡ true → 1 ≤ waiting s

  -- What a step of the rows keeps: who is in the queue waits, and who waits and isn't in the queue did so before, or
  -- the block goes on.
  pub record Stays (s : LqhState) (body : Body) (step : Step LqhState) : Type 0 where
    pub there : HasAsked s → HasAsked step.state
    pub served : waiting s ≤ 1 → is_forth tx body ≡ false → 1 ≤ waiting step.state → queued step.state ≡ false
        → IsServed s body step.effects.sends

  -- a request that is performed is told of once
  perform_hops : (s : StorageState) (r : Request) → hops (storage.perform s r).effects.sends ≤ one_if (own r)
  perform_hops s r =
      perform_forms (λ step. hops step.effects.sends ≤ one_if (own r)) s r (record {
        log_full = λ used reserved need. omega arith;
        table_full = λ rows. omega arith;
        answers = λ a. omega arith;
        passes = λ image next is. omega arith;
        ends = λ image is. omega arith;
      })

  only_work : (to : Place) (body : Body) → is_work body ≡ false → is_hop tx key to body ≡ false
  only_work to (Chain (LqhKeyReq other what chain at)) e = absurd (false≢true (sym e))
  only_work to (Chain (LqhKeyConf other at answer)) e = absurd (false≢true (sym e))
  only_work to (Chain (LqhKeyRef other at why)) e = absurd (false≢true (sym e))
  only_work to _ e = refl

  -- no more waits or is told of than came or waited
  pub few_hops : (s : LqhState) (body : Body) → HasAsked s
      → waiting (lqh_table s body).state + hops (lqh_table s body).effects.sends ≤ waiting s + came_to body
  few_hops s body q = by (count_step own (λ (o : Outgoing). is_hop tx key o.to o.body)
      (λ o e. only_work o.to o.body e) s body)
    where
      -- what is refused is the request's
      refused : (other : TxId) (at_key : List ℕ) (r : Request) → is_for other at_key r ≡ true
          → one_if (same_tx other tx && same_key at_key key) ≡ one_if (own r)
      refused other at_key r passes =
          ap (λ t. one_if (same_tx t tx && same_key at_key key))
          (sym (same_tx-is r.tx other (left_of (same_tx r.tx other) (same_key (work_key r.work) at_key) passes)))
          ∙ ap (λ k. one_if (same_tx r.tx tx && same_key k key))
          (sym (same_key-is (work_key r.work) at_key
          (right_of (same_tx r.tx other) (same_key (work_key r.work) at_key) passes)))

      -- who is in the queue of the key has a request
      unasked : (other : TxId) (at_key : List ℕ) → waits other (lock_at s.locks at_key).queue ≡ true
          → position (is_for other at_key) s.waiting ≡ None
          → (b : Bool) → (same_tx other tx && same_key at_key key) ≡ b
          → one_if (same_tx other tx && same_key at_key key) ≡ 0
      unasked other at_key on none false e = ap one_if e
      unasked other at_key on none true e =
          let one : other ≡ tx = same_tx-is other tx (left_of (same_tx other tx) (same_key at_key key) e) in
          let at : at_key ≡ key = same_key-is at_key key (right_of (same_tx other tx) (same_key at_key key) e) in
          let here : queued s ≡ true =
          subst (λ k. waits tx (lock_at s.locks k).queue ≡ true) at
          (subst (λ u. waits u (lock_at s.locks at_key).queue ≡ true) one on) in
          let gone : position (is_for tx key) s.waiting ≡ None =
          subst (λ k. position (is_for tx k) s.waiting ≡ None) at
          (subst (λ u. position (is_for u at_key) s.waiting ≡ None) one none) in
          absurd (omega (arith, q here, none_placed (is_for tx key) s.waiting gone))

      by : CountStep own (λ (o : Outgoing). is_hop tx key o.to o.body) s (came_to body) (lqh_table s body)
          → waiting (lqh_table s body).state + hops (lqh_table s body).effects.sends ≤ waiting s + came_to body
      by (performs st r waited sends) = omega (arith, waited, sends, perform_hops st r)
      by (refuses other at_key why r passes waited sends) = omega (arith, waited, sends, refused other at_key r passes)
      by (ends other at_key on none waited sends) =
          omega (arith, waited, sends, unasked other at_key on none (same_tx other tx && same_key at_key key) refl)
      by (rests waited sends) = omega (arith, waited, sends)

  -- a request of the transaction for the key is granted where the transaction isn't in the queue
  pub granted_is : (s : LqhState) (r : Request) → own r ≡ true → operate.is_granted s.locks r ≡ not (queued s)
  granted_is s r mine =
      let one : r.tx ≡ tx = same_tx-is r.tx tx (left_of (same_tx r.tx tx) (same_key (work_key r.work) key) mine) in
      let on : work_key r.work ≡ key = same_key-is (work_key r.work) key
      (right_of (same_tx r.tx tx) (same_key (work_key r.work) key) mine) in
      ap (λ k. not (is_some (ahead_at s.locks k r.tx))) on
      ∙ (ap (λ t. not (is_some (ahead_at s.locks key t))) one ∙ ap not (some_is (queued s)))
    where
      some_is : (b : Bool) → is_some (some_if b (first_other tx (lock_at s.locks key).holders)) ≡ b
      some_is true = refl
      some_is false = refl

  pub request_stays : (s : LqhState) (r : Request)
      → RequestForms (Stays s (Chain (LqhKeyReq r.tx r.work r.chain r.at))) s r
  request_stays s r = record {
    granted = λ is. record {
      there = λ q on. q (sym (same is) ∙ on);
      served = λ one forth some off. inl (some, (sym (same is) ∙ off, refl));
    };
    queued = λ ahead is. record {
      there = λ q on. omega (
        arith,
        tally_append own s.waiting (r ∷ []),
        some ahead is q
            (same_key (work_key r.work) key) refl on,
      );
      served = λ one forth some off. let was = before ahead is off some in inl (was.0, (was.1, refl));
    };
  }
    where
      a : AskedWaits tx r.tx (lock_at s.locks (work_key r.work)) (operate.asking s r)
      a = asked_waits tx r.tx (lock_at s.locks (work_key r.work)) (work_mode r.work)

      -- the lock of the key, and of another
      at_lock : (b : Bool) → same_key (work_key r.work) key ≡ b
          → queued (operate.asked_for s r) ≡ waits tx
          (if b then (operate.asking s r).lock else lock_at s.locks key).queue
      at_lock b e = ap (λ (l : RowLock). waits tx l.queue)
          (lock-inserted s.locks (work_key r.work) key (operate.asking s r).lock
          ∙ ap (λ b. if b then (operate.asking s r).lock else lock_at s.locks key) e)

      own_lock : same_key (work_key r.work) key ≡ true → waits tx (lock_at s.locks (work_key r.work)).queue ≡ queued s
      own_lock e = ap (λ k. waits tx (lock_at s.locks k).queue) (same_key-is (work_key r.work) key e)

      -- a lock that is granted leaves the queue as it is
      same : (operate.asking s r).answer ≡ Granted → queued (operate.asked_for s r) ≡ queued s
      same is = by (same_key (work_key r.work) key) refl
        where
          by : (b : Bool) → same_key (work_key r.work) key ≡ b → queued (operate.asked_for s r) ≡ queued s
          by true e = at_lock true e ∙ (a.granted is ∙ own_lock e)
          by false e = at_lock false e

      some : (ahead : TxId) → (operate.asking s r).answer ≡ Queued ahead → HasAsked s → (b : Bool)
          → same_key (work_key r.work) key ≡ b → queued (operate.asked_for s r) ≡ true → 1 ≤ waiting s + one_if (own r)
      some ahead is q true e on = which (queued s) refl (same_tx r.tx tx) refl
        where
          now : (queued s || same_tx r.tx tx) ≡ true
          now = ap (λ b. b || same_tx r.tx tx) (sym (own_lock e))
              ∙ (sym (a.queued ahead is) ∙ (sym (at_lock true e) ∙ on))

          which : (c : Bool) → queued s ≡ c → (d : Bool) → same_tx r.tx tx ≡ d → 1 ≤ waiting s + one_if (own r)
          which true qs d ds = omega (arith, q qs)
          which false qs true ds = omega (
            arith,
            ap one_if
                (true_and (same_tx r.tx tx) (same_key (work_key r.work) key) ds e),
          )
          which false qs false ds = absurd (false≢true (sym (ap (λ b. b || same_tx r.tx tx) qs ∙ ds) ∙ now))
      some ahead is q false e on = omega (arith, q (sym (at_lock false e) ∙ on))

      -- this one is in the queue itself
      before : (ahead : TxId) → (operate.asking s r).answer ≡ Queued ahead → queued (operate.asked_for s r) ≡ false
          → 1 ≤ tally own (s.waiting ++ r ∷ []) → (1 ≤ waiting s) × (queued s ≡ false)
      before ahead is off some_now = by (same_key (work_key r.work) key) refl
        where
          by : (b : Bool) → same_key (work_key r.work) key ≡ b → (1 ≤ waiting s) × (queued s ≡ false)
          by false e = (
            omega (
              arith,
              some_now,
              tally_append own s.waiting (r ∷ []),
              ap
                  (λ b. one_if (same_tx r.tx tx && b)) e,
              none (same_tx r.tx tx),
            ),
            sym (at_lock false e) ∙ off,
          )
            where
              none : (b : Bool) → one_if (b && false) ≡ 0
              none true = refl
              none false = refl
          by true e = parts (queued s) refl (same_tx r.tx tx) refl
            where
              now : (queued s || same_tx r.tx tx) ≡ false
              now = ap (λ b. b || same_tx r.tx tx) (sym (own_lock e))
                  ∙ (sym (a.queued ahead is) ∙ (sym (at_lock true e) ∙ off))

              parts : (c : Bool) → queued s ≡ c → (d : Bool) → same_tx r.tx tx ≡ d
                  → (1 ≤ waiting s) × (queued s ≡ false)
              parts true qs d ds = absurd (false≢true (sym now ∙ ap (λ b. b || same_tx r.tx tx) qs))
              parts false qs true ds = absurd (false≢true (sym now ∙ (ap (λ b. b || same_tx r.tx tx) qs ∙ ds)))
              parts false qs false ds = (
                omega (
                  arith,
                  some_now,
                  tally_append own s.waiting (r ∷ []),
                  ap
                      (λ b. one_if (b && same_key (work_key r.work) key)) ds,
                ),
                qs,
              )

  -- the signal by which the block goes on
  pub more_one : (node : ℕ) → goes_on node (go_on_if node work.Granted true) ≡ 1
  more_one node = omega (arith, ap one_if (ap (λ b. true && b) (eqb-self node)))

  goes_append : (node : ℕ) (xs ys : List Outgoing) → goes_on node ys ≤ goes_on node (xs ++ ys)
  goes_append node xs ys = omega (arith, tally_append (λ (x : Outgoing). is_more node x.to x.body) xs ys)

  -- where a request waits that isn't in the queue, the first that is granted is found
  some_granted : (s : LqhState) → 1 ≤ waiting s → queued s ≡ false → 1 ≤ tally (operate.is_granted s.locks) s.waiting
  some_granted s some off =
      let c : Counted own s.waiting = counted own s.waiting some in
      tally_in (operate.is_granted s.locks) c.item s.waiting c.inside (granted_is s c.item c.passes ∙ ap not off)

  granted_found : (s : LqhState) → 1 ≤ tally (operate.is_granted s.locks) s.waiting
      → is_some (operate.first_granted s.locks s.waiting) ≡ true
  granted_found s some = by (operate.first_granted s.locks s.waiting) refl
    where
      by : (at : Option ℕ) → operate.first_granted s.locks s.waiting ≡ at → is_some at ≡ true
      by (Some at) is = refl
      by None is = absurd (omega (arith, some, none_placed (operate.is_granted s.locks) s.waiting is))

  pub granted_stays : (s : LqhState) (at : ℕ) → GrantedForms (Stays s (Host (Continue work.Granted at))) s
  granted_stays s at = record {
    none = λ is. record {
      there = λ q on. q on;
      served = λ one forth some off.
          absurd (omega (arith, some_granted s some off, none_placed (operate.is_granted s.locks) s.waiting is));
    };
    some = λ place r is here. record {
      there = λ q on. stays (taken_at (operate.is_granted s.locks) s.waiting place r is here) (q on) on (own r) refl;
      served = λ one forth some off.
          let left = with_waiting s (remove s.waiting place) in
          let found_more = granted_found left (some_granted left some off) in
          inr (omega (
            arith,
            goes_append s.node (operate.performed left r).effects.sends (operate.more_granted left),
            ap (λ b. goes_on s.node (go_on_if s.node work.Granted b)) found_more,
            more_one s.node,
          ));
    };
  }
    where
      -- who is in the queue isn't the one that is granted
      stays : {place : ℕ} {r : Request} → IsTakenAt (operate.is_granted s.locks) s.waiting place r → 1 ≤ waiting s
          → queued s ≡ true
          → (b : Bool) → own r ≡ b → 1 ≤ tally own (remove s.waiting place)
      stays {place} {r} t some on false e =
          omega (arith, some, tally_taken (operate.is_granted s.locks) own s.waiting place r t, ap one_if e)
      stays {place} {r} t some on true e = absurd (false≢true (sym (granted_is s r e ∙ ap not on) ∙ t.passes))
