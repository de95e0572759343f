-- Whom a replica passed on holds its lock exclusive, or has let go of it; and has let go before another was passed on.
use Rattle.std.proofs.Common.{◌≡◌, ◌≢◌, ◌⊎◌, ◌<◌, ℕ, Bool, true, false, List, [], ◌∷◌, filter_map, length, refl, sym}
use Rattle.std.proofs.Common.{ap, ◌∙◌, subst, inl, inr}
use Rattle.std.proofs.lemmas.Bool.{and_parts, or_cases, or_left, or_right, true≢false}
use Rattle.std.specs.List.{cons_option}
use Rattle.std.specs.Prelude.{◌==◌, ◌&&◌, if◌then◌else◌, Option, None, Some}
use Rattle.run_theory.proofs.EventCases.{event_cases}
use Rattle.run_theory.proofs.Runs.{log_of-own}
use Rattle.run_theory.specs.Links.{put, sent}
use Rattle.run_theory.specs.Lists.{Each}
use Rattle.sig_core.proofs.TxLemmas.{same_tx-is}
use Rattle.sig_core.specs.declared.member.TxId.{TxId}
use Rattle.sig_core.specs.declared.outs.Outgoing.{Outgoing}
use Rattle.sig_core.specs.Firsts.{first}
use Rattle.sig_core.specs.Same.{same_tx}
use Rattle.row_locks.specs.declared.claim.Holder.{Holder}
use Rattle.row_locks.specs.declared.mode.Lock.{Lock}
use Rattle.row_locks.specs.declared.mode.Lock.TheVariants.{Granted, Queued}
use Rattle.row_locks.specs.declared.mode.Mode.TheVariants.{Exclusive}
use Rattle.row_locks.specs.Holders.{holds_enough}
use Rattle.row_locks.specs.Orderly.{IsOrderly, are_agreed}
use Rattle.row_locks.specs.Rows.{RowLock, asked, grown_old, released, unwaited}
use Rattle.row_locks.proofs.OrderlyLemmas.{grown_old_orderly}
use Rattle.lqh_block.specs.declared.request.Request.{Request}
use Rattle.lqh_block.specs.Work.{work_mode}
use Rattle.node_core.specs.Blocks.{has_lqh}
use Rattle.world_core.specs.Hosts.{first_membership, host_for}
use Rattle.world_core.specs.Machine.{addressed, after, all_addressed, counted, machine, sent_count, step_after}
use Rattle.world_core.specs.Start.{Start}
use Rattle.world_core.specs.Steps.{Addressed, HostStep}
use Rattle.key_laws.specs.Primary.{ended_too}
use Rattle.key_laws.specs.PrimaryEvents.{AtPrimary, ended_after}
use Rattle.key_laws.specs.Replica.{Event, Replica, aborts, ages, asked_by, asks, commits, completes, expires, is_let_in}
use Rattle.key_laws.specs.Replica.{key_after, rests, served_by, serves}
use Rattle.key_laws.proofs.Holding.{holds_so, only_holder}
use Rattle.key_laws.proofs.LockHolding.{expiries_hold_on, releases_hold_on, requests_hold_on}
use Rattle.host_laws.specs.ReplicaLaws.{event_in, key_in}
use Rattle.run_laws.specs.Circle.{at_host, primary_along}
use Rattle.run_laws.specs.Routes.{replica_host, replicas}
use Rattle.run_laws.specs.Transit.{IsRun, logs_of}
use Rattle.run_laws.proofs.circle.KeyMoves.{replica_along}
use Rattle.run_laws.proofs.routes.Events.{placed_runs}
use Rattle.run_laws.proofs.transit.Transit.{earlier}
use Rattle.order_laws.proofs.Behind.{is_among, is_behind}
use Rattle.order_laws.proofs.Askers.{asker}
use Rattle.order_laws.proofs.Attended.{IsServing, serving_along}
use Rattle.order_laws.proofs.Performs.{step_holds}

-- who has let go, or holds the lock exclusive
abbrev IsDone : (TxId → Bool) → List Holder → TxId → Type 0
IsDone ended hs u = (ended u ≡ true) ⊎ (holds_enough u Exclusive hs ≡ true)

-- Of those that were passed on, the newest first, each is done, and who was passed on before another has let go.
pub record ArePassed (ended : TxId → Bool) (hs : List Holder) (xs : List TxId) : Type 0 where
  pub among : (u : TxId) → is_among u xs ≡ true → IsDone ended hs u
  pub behind : (u v : TxId) → is_behind u v xs ≡ true → same_tx u v ≡ false → ended u ≡ true

-- one more that holds the lock
passed_more : (ended : TxId → Bool) (hs : List Holder) (xs : List TxId) (tx : TxId) → are_agreed hs ≡ true
    → holds_enough tx Exclusive hs ≡ true → ArePassed ended hs xs → ArePassed ended hs (tx ∷ xs)
passed_more ended hs xs tx agreed held was = record {
  among = λ u is. one u (or_cases (same_tx tx u) (is_among u xs) is);
  behind = λ u v is apart. two u v apart (or_cases (same_tx tx v && is_among u xs) (is_behind u v xs) is);
}
  where
    one : (u : TxId) → (same_tx tx u ≡ true) ⊎ (is_among u xs ≡ true) → IsDone ended hs u
    one u (inl own) = inr (subst (λ t. holds_enough t Exclusive hs ≡ true) (same_tx-is tx u own) held)
    one u (inr rest) = was.among u rest

    both : (u v : TxId) → same_tx u v ≡ false → same_tx tx v ≡ true → IsDone ended hs u → ended u ≡ true
    both u v apart own (inl gone) = gone
    both u v apart own (inr holds) =
        let same : u ≡ tx = only_holder hs agreed tx u held (holds_so u Exclusive hs holds) in
        absurd (true≢false (sym own ∙ (ap (λ t. same_tx t v) (sym same) ∙ apart)))

    two : (u v : TxId) → same_tx u v ≡ false
        → ((same_tx tx v && is_among u xs) ≡ true) ⊎ (is_behind u v xs ≡ true) → ended u ≡ true
    two u v apart (inr rest) = was.behind u v rest apart
    two u v apart (inl newest) =
        let parts = and_parts (same_tx tx v) (is_among u xs) newest in both u v apart parts.0 (was.among u parts.1)

-- who is done stays so at each event
module _ (p : AtPrimary) (orderly : IsOrderly p.replica.lock) (u : TxId) where
  abbrev held_by : List Holder
  held_by = p.replica.lock.holders

  let_go_done : (tx : TxId) → IsDone p.ended held_by u
      → IsDone (ended_too p.ended tx) (released p.replica.lock tx).lock.holders u
  let_go_done tx (inl gone) = inl (or_right (same_tx tx u) (p.ended u) gone)
  let_go_done tx (inr holds) = by (same_tx tx u) refl
    where
      by : (b : Bool) → same_tx tx u ≡ b
          → IsDone (ended_too p.ended tx) (released p.replica.lock tx).lock.holders u
      by true e = inl (or_left (same_tx tx u) (p.ended u) e)
      by false e = inr ((releases_hold_on p.replica.lock tx orderly).exclusive u e holds)

  asked_done : (q : Request) (refused : Bool) (a : Lock) → IsDone p.ended held_by u
      → IsDone p.ended
      (asked_by p.replica (asked p.replica.lock q.tx (work_mode q.work)).lock q refused a).lock.holders u
  asked_done q refused Granted (inl gone) = inl gone
  asked_done q refused (Queued ahead) (inl gone) = inl gone
  asked_done q refused Granted (inr holds) =
      inr ((requests_hold_on p.replica.lock q.tx (work_mode q.work) orderly).exclusive u refl holds)
  asked_done q refused (Queued ahead) (inr holds) =
      inr ((requests_hold_on p.replica.lock q.tx (work_mode q.work) orderly).exclusive u refl holds)

  served_done : (refused : Bool) (o : Option Request) → IsDone p.ended held_by u
      → IsDone p.ended (served_by p.replica refused o).lock.holders u
  served_done refused None is = is
  served_done refused (Some q) is = is

  unwaited_done : (lock : RowLock) (tx : TxId) → IsOrderly lock → IsDone p.ended lock.holders u
      → IsDone p.ended (unwaited lock tx).lock.holders u
  unwaited_done lock tx fine (inl gone) = inl gone
  unwaited_done lock tx fine (inr holds) = inr ((expiries_hold_on lock tx fine).exclusive u refl holds)

  done_after : (event : Event) → IsDone p.ended held_by u
      → IsDone (ended_after event p) (key_after event p.replica).lock.holders u
  done_after rests is = is
  done_after (asks q refused) is =
      asked_done q refused (asked p.replica.lock q.tx (work_mode q.work)).answer is
  done_after (serves refused) is = served_done refused (first (is_let_in p.replica.lock) p.replica.waiting) is
  done_after (commits tx true) is = let_go_done tx is
  done_after (commits tx false) is = is
  done_after (completes tx) is = let_go_done tx is
  done_after (aborts tx) is = let_go_done tx is
  done_after (expires tx) is = unwaited_done p.replica.lock tx orderly is
  done_after (ages None) is = is
  done_after (ages (Some tx)) is =
      unwaited_done (grown_old p.replica.lock) tx (grown_old_orderly p.replica.lock orderly) is

-- and who has let go stays so
pub ended_stays : (event : Event) (p : AtPrimary) (u : TxId) → p.ended u ≡ true → ended_after event p u ≡ true
ended_stays rests p u is = is
ended_stays (asks q refused) p u is = is
ended_stays (serves refused) p u is = is
ended_stays (commits tx true) p u is = or_right (same_tx tx u) (p.ended u) is
ended_stays (commits tx false) p u is = is
ended_stays (completes tx) p u is = or_right (same_tx tx u) (p.ended u) is
ended_stays (aborts tx) p u is = or_right (same_tx tx u) (p.ended u) is
ended_stays (expires tx) p u is = is
ended_stays (ages wait) p u is = is

passed_after : (event : Event) (p : AtPrimary) (xs : List TxId) → IsOrderly p.replica.lock
    → ArePassed p.ended p.replica.lock.holders xs
    → ArePassed (ended_after event p) (key_after event p.replica).lock.holders xs
passed_after event p xs orderly was = record {
  among = λ u is. done_after p orderly u event (was.among u is);
  behind = λ u v is apart. ended_stays event p u (was.behind u v is apart);
}

module _ (start : Start) (key : List ℕ) (j : ℕ) where
  -- whom a host asked host j to do something on the key for, the newest first
  abbrev pub passed : ℕ → List HostStep → List TxId
  passed h log = filter_map (λ (x : Addressed). asker key x.signal.body) (sent (machine start) h j log)

  -- what a step adds
  abbrev pub passed_in : List Outgoing → List TxId → List TxId
  passed_in [] before = before
  passed_in (o ∷ more) before =
      passed_in more (if host_for start o.to == j then cons_option (asker key o.body) before else before)

  put_passed : (h stamp : ℕ) (count : ℕ → ℕ) (sends : List Outgoing) (before : List Addressed)
      → filter_map (λ (x : Addressed). asker key x.signal.body) (put (machine start) j
      (all_addressed (first_membership start) h stamp count sends) before)
      ≡ passed_in sends (filter_map (λ (x : Addressed). asker key x.signal.body) before)
  put_passed h stamp count [] before = refl
  put_passed h stamp count (o ∷ more) before =
      put_passed h stamp (counted (host_for start o.to) count) more
      (if host_for start o.to == j then one ∷ before else before)
      ∙ ap (passed_in more) (by (host_for start o.to == j))
    where
      one : Addressed
      one = addressed (first_membership start) h stamp (count (host_for start o.to)) o

      by : (b : Bool) → filter_map (λ (x : Addressed). asker key x.signal.body) (if b then one ∷ before else before)
          ≡ (if b then cons_option (asker key o.body)
          (filter_map (λ (x : Addressed). asker key x.signal.body) before) else
          filter_map (λ (x : Addressed). asker key x.signal.body) before)
      by true = refl
      by false = refl

  pub passed_step : (h : ℕ) (e : HostStep) (log : List HostStep)
      → passed h (e ∷ log) ≡ passed_in (step_after start h log e).effects.sends (passed h log)
  passed_step h e log =
      put_passed h e.step.stamp (sent_count start h log) (step_after start h log e).effects.sends
      (sent (machine start) h j log)

  -- what goes on with each that is so
  pub passed_all : (X : TxId → Type 0) (All : List TxId → Type 0)
      → ((tx : TxId) (xs : List TxId) → X tx → All xs → All (tx ∷ xs)) → (sends : List Outgoing)
      → ((tx : TxId) → Each (λ (o : Outgoing). asker key o.body ≡ Some tx → X tx) sends)
      → (before : List TxId) → All before → All (passed_in sends before)
  passed_all X All more [] told before was = was
  passed_all X All more (o ∷ sends) told before was =
      passed_all X All more sends (λ tx. (told tx).1) _ (by (host_for start o.to == j))
    where
      put_one : (a : Option TxId) → asker key o.body ≡ a → All (cons_option a before)
      put_one None is = was
      put_one (Some tx) is = more tx before ((told tx).0 is) was

      by : (b : Bool) → All (if b then cons_option (asker key o.body) before else before)
      by true = put_one (asker key o.body) refl
      by false = was

  -- along the log of a replica
  pub passed_along : (at : ℕ) → at < length (replicas start key) → (es : List HostStep) → IsRun start es
      → ArePassed
      (primary_along start (replica_host start key at) key (logs_of start es (replica_host start key at))).ended
      (at_host start (logs_of start es) key (replica_host start key at)).lock.holders
      (passed (replica_host start key at) (logs_of start es (replica_host start key at)))
  passed_along at inside [] run = record { among = λ u is. absurd cc; behind = λ u v is apart. absurd cc }
  passed_along at inside (e ∷ es) run =
      let was = passed_along at inside es (earlier start es e run) in
      event_cases (machine start) e es h All (λ is. here is was) (λ off. was)
    where
      h : ℕ
      h = replica_host start key at

      log : List HostStep
      log = logs_of start es h

      All : List HostStep → Type 0
      All log =
          ArePassed (primary_along start h key log).ended (key_in key (after start h log)).lock.holders (passed h log)

      p : AtPrimary
      p = primary_along start h key log

      event : Event
      event = event_in key (after start h log) e.step.taken

      r_is : p.replica ≡ key_in key (after start h log)
      r_is = replica_along start h key log

      serving : IsServing (key_in key (after start h log))
      serving = serving_along start key at inside es (earlier start es e run)

      serving_now : IsServing (at_host start (logs_of start (e ∷ es)) key h)
      serving_now = serving_along start key at inside (e ∷ es) run

      runs : has_lqh (after start h log) ≡ true
      runs = placed_runs start h key at log run.shape (record { inside = inside; host_is = refl })

      here : e.host ≡ h → All log → All (e ∷ log)
      here is was =
          subst (ArePassed (ended_after event p) (key_in key (after start h (e ∷ log))).lock.holders)
          (sym (passed_step h e log))
          (passed_all (λ tx. holds_enough tx Exclusive hs ≡ true) (ArePassed (ended_after event p) hs)
          (λ tx xs held was. passed_more (ended_after event p) hs xs tx agreed held was)
          (step_after start h log e).effects.sends (λ tx. step_holds tx key start h log e runs serving) (passed h log)
          (subst (λ (r : Replica). ArePassed (ended_after event p) r.lock.holders (passed h log))
          (replica_along start h key (e ∷ log))
          (passed_after event p (passed h log)
          (subst (λ (r : Replica). IsOrderly r.lock) (sym r_is) serving.orderly)
          (subst (λ (r : Replica). ArePassed p.ended r.lock.holders (passed h log)) (sym r_is) was))))
        where
          hs : List Holder
          hs = (key_in key (after start h (e ∷ log))).lock.holders

          agreed : are_agreed hs ≡ true
          agreed =
              subst (λ log. are_agreed (key_in key (after start h log)).lock.holders ≡ true)
              (log_of-own (machine start) e es h is) serving_now.orderly.agreed
