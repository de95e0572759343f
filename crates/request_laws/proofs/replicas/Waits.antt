-- The requests that wait for a key, and the waits in the queue of its lock, event by event.
use Rattle.std.proofs.Common.{◌≡◌, ◌∙◌, ◌||◌, ℕ, ◌+◌, Bool, true, false, not, List, [], ◌∷◌, ◌++◌, refl, sym, ap, subst}
use Rattle.std.proofs.Common.{inl, inr}
use Rattle.std.proofs.lemmas.Bool.{or_left, or_right, true≢false}
use Rattle.std.specs.Prelude.{if◌then◌else◌, Option, None, Some}
use Rattle.std.specs.FinMap as finite
use Rattle.std.specs.List.{list_any}
use Rattle.run_theory.specs.Lists.{Each, IsIn}
use Rattle.run_theory.proofs.Pasts.{each_append, each_from, each_in, each_map}
use Rattle.sig_core.specs.declared.member.TxId.{TxId}
use Rattle.sig_core.specs.declared.signal.Signal.{Signal}
use Rattle.sig_core.specs.declared.view.View.{View}
use Rattle.sig_core.specs.Firsts.{drop_first, first}
use Rattle.sig_core.specs.Same.{same_tx}
use Rattle.sig_core.proofs.Keys.{same_tx-self}
use Rattle.sig_core.proofs.TxLemmas.{same_tx-is, same_tx-swap}
use Rattle.row_locks.specs.declared.claim.Holder.{Holder}
use Rattle.row_locks.specs.declared.claim.Wait.{Wait}
use Rattle.row_locks.specs.declared.mode.Lock.{Lock}
use Rattle.row_locks.specs.declared.mode.Lock.TheVariants.{Granted, Queued}
use Rattle.row_locks.specs.declared.mode.Mode.{Mode}
use Rattle.row_locks.specs.Holders.{agrees_with, hold, holds, holds_enough, others, unless_gone}
use Rattle.row_locks.specs.Orderly.{IsOrderly}
use Rattle.row_locks.specs.Queues.{aged_all, raised, raised_if, wait_of, waits, without}
use Rattle.row_locks.specs.Rows.{RowLock, asked, asked_anew, asked_by as lock_asked_by, grown_old, is_quiet, may_hold}
use Rattle.row_locks.specs.Rows.{released, served, served_if, unwaited}
use Rattle.row_locks.proofs.OrderlyLemmas.{grown_old_orderly}
use Rattle.row_locks.specs.Tables.{or_unlocked}
use Rattle.row_locks.proofs.LocksLemmas.{key_cmp}
use Rattle.lqh_block.specs.declared.request.Request.{Request}
use Rattle.lqh_block.specs.Work.{work_mode}
use Rattle.lqh_views.specs.Replica.{installed, replica_row}
use Rattle.lqh_views.specs.State.{ReplicaState}
use Rattle.lqh_saver.specs.Switching.{given_up, has_position}
use Rattle.key_laws.specs.LockLaws.{is_attended}
use Rattle.key_laws.specs.PrimaryEvents.{NoneOf}
use Rattle.key_laws.specs.Replica.{Replica, aborts, ageing, ages, asked_by, asks, at_key, commits, completes, expires}
use Rattle.key_laws.specs.Replica.{expiring, is_by, is_let_in, key_after, letting_go, rests, served_by, serves}
use Rattle.key_laws.proofs.LockHolding.{any_last, any_longer}
use Rattle.key_laws.proofs.LockWaiting.{expiries_attend, queued_wait, releases_attend, requests_attend, rounds_attend}
use Rattle.key_laws.proofs.Waiting.{alone-drop_first, alone-end, each-drop_first, none-dropped}
use Rattle.host_laws.specs.ReplicaLaws.{IsWell}
use Rattle.request_laws.specs.Blocks.{rows_after}
use Rattle.request_laws.specs.Replicas.{event_under}
use Rattle.request_laws.proofs.replicas.KeyEvents.{installations_are_events, installations_keep_well}
use Rattle.request_laws.proofs.replicas.KeyEvents.{signals_are_events, signals_keep_well}
use Rattle.request_laws.proofs.replicas.AlongLogs.{always, first_rows, first_well, given_up_well}
use Rattle.request_laws.specs.Waiting.{AreAttended, EventsKeepAttended, EventsKeepRequests, HaveRequests}
use Rattle.request_laws.specs.Waiting.{InstalledAreAttended}
use Rattle.request_laws.specs.Waiting.{SignalsKeepAttended, WaitsHaveRequests}

-- what is so of each wait, whatever its mode and its rounds

abbrev OfEach : (TxId → Type 0) → List Wait → Type 0
OfEach P queue = Each (λ (wait : Wait). P wait.tx) queue

module _ (P : TxId → Type 0) where
  without_each : (tx : TxId) (ws : List Wait) → OfEach P ws → OfEach P (without tx ws)
  without_each tx [] all = tt
  without_each tx (w ∷ ws) all = by (same_tx w.tx tx) (without_each tx ws all.1)
    where
      by : (b : Bool) → OfEach P (without tx ws) → OfEach P (unless_gone b w (without tx ws))
      by true rest = rest
      by false rest = (all.0, rest)

  served_each : (n : ℕ) (hs : List Holder) (ws : List Wait) → OfEach P ws → OfEach P (served n hs ws).lock.queue
  served_each n hs [] all = tt
  served_each n hs (w ∷ ws) all = by (may_hold w hs) (served_each (n + 1) (hold w.tx w.mode hs) ws all.1)
    where
      by : (b : Bool) → OfEach P (served (n + 1) (hold w.tx w.mode hs) ws).lock.queue
          → OfEach P (served_if b (served (n + 1) (hold w.tx w.mode hs) ws)
          (record { lock = record { holders = hs; queue = w ∷ ws }; granted = n })).lock.queue
      by true rest = rest
      by false rest = all

  raised_each : (tx : TxId) (mode : Mode) (ws : List Wait) → OfEach P ws → OfEach P (raised tx mode ws)
  raised_each tx mode [] all = tt
  raised_each tx mode (w ∷ ws) all = (by (same_tx w.tx tx), raised_each tx mode ws all.1)
    where
      by : (b : Bool) → P (raised_if b mode w).tx
      by true = all.0
      by false = all.0

  aged_each : (ws : List Wait) → OfEach P ws → OfEach P (aged_all ws)
  aged_each [] all = tt
  aged_each (w ∷ ws) all = (all.0, aged_each ws all.1)

  -- a request that is queued is a wait more, unless its transaction waits already
  abbrev Owed : TxId → Lock → Type 0
  Owed tx Granted = Unit {0}
  Owed tx (Queued ahead) = P tx

  module _ (lock : RowLock) (tx : TxId) (mode : Mode) (all : OfEach P lock.queue) where
    last_each : P tx → OfEach P (lock.queue ++ wait_of tx mode ∷ [])
    last_each own = each_append (λ (w : Wait). P w.tx) lock.queue (wait_of tx mode ∷ []) all (own, tt)

    anew_each : (held agrees quiet : Bool) → Owed tx (asked_anew held agrees quiet lock tx mode).answer
        → OfEach P (asked_anew held agrees quiet lock tx mode).lock.queue
    anew_each true true quiet own = all
    anew_each true false quiet own = (own, all)
    anew_each false true true own = all
    anew_each false true false own = last_each own
    anew_each false false quiet own = last_each own

    asked_each : Owed tx (asked lock tx mode).answer → OfEach P (asked lock tx mode).lock.queue
    asked_each = by (holds_enough tx mode lock.holders) (waits tx lock.queue)
      where
        by : (enough waiting : Bool) → Owed tx (lock_asked_by enough waiting lock tx mode).answer
            → OfEach P (lock_asked_by enough waiting lock tx mode).lock.queue
        by true waiting own = all
        by false true own = raised_each tx mode lock.queue all
        by false false own =
            anew_each (holds tx lock.holders) (agrees_with tx mode lock.holders) (is_quiet lock.queue) own

-- requests

abbrev has_request : List Request → TxId → Bool
has_request waiting tx = list_any (is_by tx) waiting

abbrev HasRequest : List Request → TxId → Type 0
HasRequest waiting tx = has_request waiting tx ≡ true

-- a request is taken out: those of a transaction none of whose pass are there still
dropped_other : (p : Request → Bool) (tx : TxId) (qs : List Request)
    → ((q : Request) → is_by tx q ≡ true → p q ≡ false) → HasRequest qs tx → HasRequest (drop_first p qs) tx
dropped_other p tx [] apart is = is
dropped_other p tx (q ∷ qs) apart is =
    by (p q) (is_by tx q) refl refl is (dropped_other p tx qs apart)
  where
    by : (b c : Bool) → p q ≡ b → is_by tx q ≡ c → (c || has_request qs tx) ≡ true
        → (HasRequest qs tx → HasRequest (drop_first p qs) tx)
        → HasRequest (if b then qs else q ∷ drop_first p qs) tx
    by true true e own is more = absurd (true≢false (sym e ∙ apart q own))
    by true false e own is more = is
    by false c e own is more = at c own is
      where
        at : (c : Bool) → is_by tx q ≡ c → (c || has_request qs tx) ≡ true
            → (is_by tx q || has_request (drop_first p qs) tx) ≡ true
        at true own is = or_left (is_by tx q) (has_request (drop_first p qs) tx) own
        at false own is = or_right (is_by tx q) (has_request (drop_first p qs) tx) (more is)

-- who stands in the queue waits
in_waits : (w : Wait) (ws : List Wait) → IsIn w ws → waits w.tx ws ≡ true
in_waits w [] there = absurd there
in_waits w (x ∷ ws) (inl is) =
    or_left (same_tx x.tx w.tx) (waits w.tx ws) (ap (λ (y : Wait). same_tx y.tx w.tx) (sym is) ∙ same_tx-self w.tx)
in_waits w (x ∷ ws) (inr there) = or_right (same_tx x.tx w.tx) (waits w.tx ws) (in_waits w ws there)

-- the transaction's waits go with its first request
left_each : (tx : TxId) (qs : List Request) (ws : List Wait) → OfEach (HasRequest qs) ws
    → OfEach (HasRequest (drop_first (is_by tx) qs)) (without tx ws)
left_each tx qs [] all = tt
left_each tx qs (w ∷ ws) all = by (same_tx w.tx tx) refl (left_each tx qs ws all.1)
  where
    by : (b : Bool) → same_tx w.tx tx ≡ b → OfEach (HasRequest (drop_first (is_by tx) qs)) (without tx ws)
        → OfEach (HasRequest (drop_first (is_by tx) qs)) (unless_gone b w (without tx ws))
    by true is rest = rest
    by false is rest = (
      dropped_other (is_by tx) w.tx qs (λ q own. ap (λ t. same_tx t tx) (same_tx-is q.tx w.tx own) ∙ is) all.0,
      rest,
    )

module _ (r : Replica) (all : HaveRequests r) where
  request_has : (q : Request) (refused : Bool) → HaveRequests (key_after (asks q refused) r)
  request_has q refused = by (asked r.lock q.tx (work_mode q.work)).answer refl
    where
      own : HasRequest (r.waiting ++ q ∷ []) q.tx
      own = any_last (is_by q.tx) r.waiting q (same_tx-self q.tx)

      more : OfEach (HasRequest (r.waiting ++ q ∷ [])) r.lock.queue
      more =
          each_map (λ (w : Wait). HasRequest r.waiting w.tx) (λ (w : Wait). HasRequest (r.waiting ++ q ∷ []) w.tx)
          r.lock.queue (λ w is. any_longer (is_by w.tx) r.waiting q is) all

      by : (answer : Lock) → (asked r.lock q.tx (work_mode q.work)).answer ≡ answer
          → HaveRequests (asked_by r (asked r.lock q.tx (work_mode q.work)).lock q refused answer)
      by Granted e =
          asked_each (HasRequest r.waiting) r.lock q.tx (work_mode q.work) all
          (subst (Owed (HasRequest r.waiting) q.tx) (sym e) tt)
      by (Queued ahead) e =
          asked_each (HasRequest (r.waiting ++ q ∷ [])) r.lock q.tx (work_mode q.work) more
          (subst (Owed (HasRequest (r.waiting ++ q ∷ [])) q.tx) (sym e) own)

  serve_has : (refused : Bool) → HaveRequests (key_after (serves refused) r)
  serve_has refused = by (first (is_let_in r.lock) r.waiting)
    where
      -- who is let in doesn't stand in the queue
      stays : (w : Wait) → IsIn w r.lock.queue → HasRequest (drop_first (is_let_in r.lock) r.waiting) w.tx
      stays w there =
          dropped_other (is_let_in r.lock) w.tx r.waiting
          (λ q own. ap (λ t. not (waits t r.lock.queue)) (same_tx-is q.tx w.tx own)
          ∙ ap not (in_waits w r.lock.queue there))
          (each_in (λ (w : Wait). HasRequest r.waiting w.tx) w r.lock.queue all there)

      by : (o : Option Request) → HaveRequests (served_by r refused o)
      by None = all
      by (Some q) =
          each_from (λ (w : Wait). HasRequest (drop_first (is_let_in r.lock) r.waiting) w.tx) r.lock.queue stays

  release_has : (tx : TxId) → OfEach (HasRequest r.waiting) (released r.lock tx).lock.queue
  release_has tx =
      served_each (HasRequest r.waiting) 0 (others tx r.lock.holders) (without tx r.lock.queue)
      (without_each (HasRequest r.waiting) tx r.lock.queue all)

  abort_has : (tx : TxId) → HaveRequests (key_after (aborts tx) r)
  abort_has tx =
      served_each (HasRequest (drop_first (is_by tx) r.waiting)) 0 (others tx r.lock.holders) (without tx r.lock.queue)
      (left_each tx r.waiting r.lock.queue all)

  expire_has : (tx : TxId) → HaveRequests (expiring r tx)
  expire_has tx =
      served_each (HasRequest (drop_first (is_by tx) r.waiting)) 0 r.lock.holders (without tx r.lock.queue)
      (left_each tx r.waiting r.lock.queue all)

  age_has : HaveRequests (ageing r)
  age_has = aged_each (HasRequest r.waiting) r.lock.queue all

pub events_keep_requests : EventsKeepRequests
events_keep_requests rests r all = all
events_keep_requests (asks q refused) r all = request_has r all q refused
events_keep_requests (serves refused) r all = serve_has r all refused
events_keep_requests (commits tx true) r all = release_has r all tx
events_keep_requests (commits tx false) r all = all
events_keep_requests (completes tx) r all = release_has r all tx
events_keep_requests (aborts tx) r all = abort_has r all tx
events_keep_requests (expires tx) r all = expire_has r all tx
events_keep_requests (ages None) r all = age_has r all
events_keep_requests (ages (Some tx)) r all = expire_has (ageing r) (age_has r all) tx

-- one request of a transaction at a time

abbrev Attended : RowLock → List Request → Type 0
Attended lock qs = Each (λ (q : Request). is_attended lock q.tx (work_mode q.work) ≡ true) qs

module _ (r : Replica) (orderly : IsOrderly r.lock) (all : AreAttended r) where
  ask_attends : (q : Request) (refused : Bool) → NoneOf q.tx r.waiting → AreAttended (key_after (asks q refused) r)
  ask_attends q refused none = by (asked r.lock q.tx (work_mode q.work)).answer
    where
      attended : Attended (asked r.lock q.tx (work_mode q.work)).lock r.waiting
      attended =
          each_map (λ (x : Request). is_attended r.lock x.tx (work_mode x.work) ≡ true)
          (λ (x : Request). is_attended (asked r.lock q.tx (work_mode q.work)).lock x.tx (work_mode x.work) ≡ true)
          r.waiting
          (λ x was. requests_attend r.lock q.tx (work_mode q.work) x.tx (work_mode x.work) orderly was) all.attended

      by : (answer : Lock) → AreAttended (asked_by r (asked r.lock q.tx (work_mode q.work)).lock q refused answer)
      by Granted = record { attended = attended; alone = all.alone }
      by (Queued ahead) = record {
        attended =
            each_append
            (λ (x : Request). is_attended (asked r.lock q.tx (work_mode q.work)).lock x.tx (work_mode x.work) ≡ true)
            r.waiting (q ∷ []) attended (queued_wait r.lock q.tx (work_mode q.work) orderly, tt);
        alone = alone-end r.waiting q all.alone none;
      }

  serve_attends : (refused : Bool) → AreAttended (key_after (serves refused) r)
  serve_attends refused = by (first (is_let_in r.lock) r.waiting)
    where
      by : (o : Option Request) → AreAttended (served_by r refused o)
      by None = all
      by (Some q) = record {
        attended =
            each-drop_first (λ (x : Request). is_attended r.lock x.tx (work_mode x.work) ≡ true) (is_let_in r.lock)
            r.waiting all.attended;
        alone = alone-drop_first (is_let_in r.lock) r.waiting all.alone;
      }

  -- who doesn't let go, nor end its wait, is attended still
  release_attends : (tx : TxId) (qs : List Request) → NoneOf tx qs → Attended r.lock qs
      → Attended (released r.lock tx).lock qs
  release_attends tx [] none was = tt
  release_attends tx (q ∷ qs) none was = (
    releases_attend r.lock tx q.tx (work_mode q.work) orderly (same_tx-swap tx q.tx ∙ none.0) was.0,
    release_attends tx qs none.1 was.1,
  )

  unwait_attends : (tx : TxId) (qs : List Request) → NoneOf tx qs → Attended r.lock qs
      → Attended (unwaited r.lock tx).lock qs
  unwait_attends tx [] none was = tt
  unwait_attends tx (q ∷ qs) none was = (
    expiries_attend r.lock tx q.tx (work_mode q.work) orderly (same_tx-swap tx q.tx ∙ none.0) was.0,
    unwait_attends tx qs none.1 was.1,
  )

  end_attends : (tx : TxId) → NoneOf tx r.waiting → AreAttended (letting_go r r.cell tx)
  end_attends tx none = record { attended = release_attends tx r.waiting none all.attended; alone = all.alone }

  left_attended : (tx : TxId) → Attended r.lock (drop_first (is_by tx) r.waiting)
  left_attended tx =
      each-drop_first (λ (x : Request). is_attended r.lock x.tx (work_mode x.work) ≡ true) (is_by tx) r.waiting
      all.attended

  abort_attends : (tx : TxId) → AreAttended (key_after (aborts tx) r)
  abort_attends tx = record {
    attended =
        release_attends tx (drop_first (is_by tx) r.waiting) (none-dropped tx r.waiting all.alone) (left_attended tx);
    alone = alone-drop_first (is_by tx) r.waiting all.alone;
  }

  expire_attends : (tx : TxId) → AreAttended (expiring r tx)
  expire_attends tx = record {
    attended =
        unwait_attends tx (drop_first (is_by tx) r.waiting) (none-dropped tx r.waiting all.alone) (left_attended tx);
    alone = alone-drop_first (is_by tx) r.waiting all.alone;
  }

  age_attends : AreAttended (ageing r)
  age_attends = record {
    attended =
        each_map (λ (x : Request). is_attended r.lock x.tx (work_mode x.work) ≡ true)
        (λ (x : Request). is_attended (grown_old r.lock) x.tx (work_mode x.work) ≡ true) r.waiting
        (λ x was. rounds_attend r.lock x.tx (work_mode x.work) was) all.attended;
    alone = all.alone;
  }

pub events_keep_attended : EventsKeepAttended
events_keep_attended rests r orderly one all = all
events_keep_attended (asks q refused) r orderly one all = ask_attends r orderly all q refused one
events_keep_attended (serves refused) r orderly one all = serve_attends r orderly all refused
events_keep_attended (commits tx true) r orderly one all =
    let ended = end_attends r orderly all tx one in record { attended = ended.attended; alone = ended.alone }
events_keep_attended (commits tx false) r orderly one all = record { attended = all.attended; alone = all.alone }
events_keep_attended (completes tx) r orderly one all =
    let ended = end_attends r orderly all tx one in record { attended = ended.attended; alone = ended.alone }
events_keep_attended (aborts tx) r orderly one all = abort_attends r orderly all tx
events_keep_attended (expires tx) r orderly one all = expire_attends r orderly all tx
events_keep_attended (ages None) r orderly one all = age_attends r orderly all
events_keep_attended (ages (Some tx)) r orderly one all =
    expire_attends (ageing r) (grown_old_orderly r.lock orderly) (age_attends r orderly all) tx

pub signals_keep_attended : SignalsKeepAttended
signals_keep_attended s x key well one all =
    subst AreAttended (sym (signals_are_events s x key well))
    (events_keep_attended (event_under key s x) (at_key key s.lqh) (well.orderly.each key) one all)

pub installed_are_attended : InstalledAreAttended
installed_are_attended s view key = record { attended = tt; alone = tt }

-- along logs

-- the rows are well, and so is each key
record AreServed (s : ReplicaState) : Type 0 where
  well : IsWell s.lqh
  each : (key : List ℕ) → HaveRequests (at_key key s.lqh)

pub waits_have_requests : WaitsHaveRequests
waits_have_requests start nobody member there log key =
    let is : AreServed (rows_after start member log) =
    always AreServed signal install give start nobody member there
    (record { well = first_well start member; each = first }) log in
    is.each key
  where
    signal : (s : ReplicaState) (x : Signal) → AreServed s → AreServed (replica_row s x).state
    signal s x are = record {
      well = signals_keep_well s x are.well;
      each = λ key.
          subst HaveRequests (sym (signals_are_events s x key are.well))
          (events_keep_requests (event_under key s x) (at_key key s.lqh) (are.each key));
    }

    install : (s : ReplicaState) (view : View) → AreServed s → AreServed (installed s view)
    install s view are = record {
      well = installations_keep_well s view are.well;
      each = λ key. subst HaveRequests (sym (installations_are_events s view key are.well)) tt;
    }

    give : (s : ReplicaState) (at : ℕ) → has_position s.lqh.outlet at ≡ true → AreServed s → AreServed (given_up s at)
    give s at has are = record { well = given_up_well s at has are.well; each = are.each }

    first : (key : List ℕ) → HaveRequests (at_key key (first_rows start member).lqh)
    first key =
        subst (λ (lock : RowLock). OfEach (HasRequest []) lock.queue)
        (sym (ap or_unlocked (finite.get-empty key_cmp key))) tt
