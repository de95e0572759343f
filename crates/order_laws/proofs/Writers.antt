-- Behind the first place of a chain all that hold or wait for a lock do so to write; so nobody who holds it waits.
use Rattle.std.proofs.Common.{◌≡◌, ◌≢◌, ◌⊎◌, ◌<◌, ◌+◌, ℕ, Bool, true, false, List, [], ◌∷◌, ◌++◌, length, refl, sym, ap}
use Rattle.std.proofs.Common.{◌∙◌}
use Rattle.std.proofs.Common.{subst, arith, inl, inr}
use Rattle.std.proofs.lemmas.Bool.{and_parts, false≢true, or_cases, or_left, or_right}
use Rattle.std.specs.Prelude.{◌&&◌, ◌||◌, not, Option, None, Some}
use Rattle.run_theory.proofs.EventCases.{event_cases}
use Rattle.run_theory.proofs.Pasts.{each_append}
use Rattle.run_theory.specs.Lists.{Each}
use Rattle.sig_core.specs.declared.member.TxId.{TxId}
use Rattle.sig_core.specs.declared.signal.chain.RowWork.{RowWork}
use Rattle.sig_core.specs.declared.signal.chain.RowWork.TheVariants.{Operate, Store}
use Rattle.sig_core.specs.Firsts.{first}
use Rattle.sig_core.specs.Same.{same_tx}
use Rattle.row_locks.specs.declared.claim.Holder.{Holder}
use Rattle.row_locks.specs.declared.claim.Wait.{Wait}
use Rattle.row_locks.specs.declared.mode.Lock.{Lock}
use Rattle.row_locks.specs.declared.mode.Lock.TheVariants.{Granted, Queued}
use Rattle.row_locks.specs.declared.mode.Mode.{Mode}
use Rattle.row_locks.specs.declared.mode.Mode.TheVariants.{Exclusive, Shared}
use Rattle.row_locks.specs.Holders.{agrees_with, hold, holder_of, holds, holds_enough, others, unless_gone}
use Rattle.row_locks.specs.Modes.{is_enough, stronger}
use Rattle.sig_core.proofs.TxLemmas.{same_tx-is}
use Rattle.row_locks.specs.Orderly.{none_has_enough}
use Rattle.row_locks.specs.Queues.{aged_all, raised, raised_if, wait_of, waits, without}
use Rattle.row_locks.specs.Rows.{RowLock, asked, asked_anew, asked_by, grown_old, is_quiet, may_hold, released, served}
use Rattle.row_locks.specs.Rows.{served_if}
use Rattle.row_locks.specs.Rows.{unwaited}
use Rattle.lqh_block.specs.declared.request.Request.{Request}
use Rattle.lqh_block.specs.Work.{work_mode}
use Rattle.world_core.specs.Machine.{after, machine}
use Rattle.world_core.specs.Start.{Start}
use Rattle.world_core.specs.Steps.{HostStep}
use Rattle.key_laws.specs.BackupEvents.{IsOfImage}
use Rattle.key_laws.specs.Replica as replica
use Rattle.key_laws.specs.Replica.{Event, Replica, aborts, ages, asks, commits, completes, expires, is_let_in}
use Rattle.key_laws.specs.Replica.{key_after}
use Rattle.key_laws.specs.Replica.{rests, served_by, serves}
use Rattle.host_laws.proofs.rows.Replicas.{logs_follow}
use Rattle.host_laws.specs.ReplicaLaws.{event_in, key_in}
use Rattle.run_laws.specs.Circle.{at_host}
use Rattle.run_laws.specs.Owed.{IsOwed}
use Rattle.run_laws.specs.Routes.{primary_host, replica_host, replicas}
use Rattle.run_laws.specs.Transit.{Comes, IsRun, logs_of}
use Rattle.run_laws.proofs.tokens.Owing.{events_owed}
use Rattle.run_laws.proofs.routes.Chain.{hosts_are_apart, replicas_some}
use Rattle.run_laws.proofs.transit.Transit.{comes, earlier}
use Rattle.order_laws.specs.LetGo.{lock_at_place}
use Rattle.order_laws.specs.Writers.{HoldersBehindDontWait}
use Rattle.order_laws.proofs.Attended.{first_idle, serving_along}

-- all that hold the lock, and all that wait for it, do so to write
pub record AreWriters (lock : RowLock) : Type 0 where
  pub holding : Each (λ (h : Holder). h.mode ≡ Exclusive) lock.holders
  pub waiting : Each (λ (w : Wait). w.mode ≡ Exclusive) lock.queue

others_write : (tx : TxId) (hs : List Holder) → Each (λ (h : Holder). h.mode ≡ Exclusive) hs
    → Each (λ (h : Holder). h.mode ≡ Exclusive) (others tx hs)
others_write tx [] all = tt
others_write tx (h ∷ hs) all = by (same_tx h.tx tx) (others_write tx hs all.1)
  where
    by : (b : Bool) → Each (λ (h : Holder). h.mode ≡ Exclusive) (others tx hs)
        → Each (λ (h : Holder). h.mode ≡ Exclusive) (unless_gone b h (others tx hs))
    by true rest = rest
    by false rest = (all.0, rest)

without_write : (tx : TxId) (ws : List Wait) → Each (λ (w : Wait). w.mode ≡ Exclusive) ws
    → Each (λ (w : Wait). w.mode ≡ Exclusive) (without tx ws)
without_write tx [] all = tt
without_write tx (w ∷ ws) all = by (same_tx w.tx tx) (without_write tx ws all.1)
  where
    by : (b : Bool) → Each (λ (w : Wait). w.mode ≡ Exclusive) (without tx ws)
        → Each (λ (w : Wait). w.mode ≡ Exclusive) (unless_gone b w (without tx ws))
    by true rest = rest
    by false rest = (all.0, rest)

hold_write : (tx : TxId) (mode : Mode) (hs : List Holder) → mode ≡ Exclusive
    → Each (λ (h : Holder). h.mode ≡ Exclusive) hs → Each (λ (h : Holder). h.mode ≡ Exclusive) (hold tx mode hs)
hold_write tx mode hs is all =
    each_append (λ (h : Holder). h.mode ≡ Exclusive) (others tx hs) (holder_of tx mode ∷ []) (others_write tx hs all)
    (is, tt)

served_write : (n : ℕ) (hs : List Holder) (ws : List Wait) → Each (λ (h : Holder). h.mode ≡ Exclusive) hs
    → Each (λ (w : Wait). w.mode ≡ Exclusive) ws → AreWriters (served n hs ws).lock
served_write n hs [] held waited = record { holding = held; waiting = tt }
served_write n hs (w ∷ ws) held waited =
    by (may_hold w hs)
    (served_write (n + 1) (hold w.tx w.mode hs) ws (hold_write w.tx w.mode hs waited.0 held) waited.1)
  where
    by : (b : Bool) → AreWriters (served (n + 1) (hold w.tx w.mode hs) ws).lock
        → AreWriters (served_if b (served (n + 1) (hold w.tx w.mode hs) ws)
        (record { lock = record { holders = hs; queue = w ∷ ws }; granted = n })).lock
    by true more = more
    by false more = record { holding = held; waiting = waited }

released_write : (lock : RowLock) (tx : TxId) → AreWriters lock → AreWriters (released lock tx).lock
released_write lock tx was =
    served_write 0 (others tx lock.holders) (without tx lock.queue) (others_write tx lock.holders was.holding)
    (without_write tx lock.queue was.waiting)

unwaited_write : (lock : RowLock) (tx : TxId) → AreWriters lock → AreWriters (unwaited lock tx).lock
unwaited_write lock tx was =
    served_write 0 lock.holders (without tx lock.queue) was.holding (without_write tx lock.queue was.waiting)

aged_write : (lock : RowLock) → AreWriters lock → AreWriters (grown_old lock)
aged_write lock was = record { holding = was.holding; waiting = all lock.queue was.waiting }
  where
    all : (ws : List Wait) → Each (λ (w : Wait). w.mode ≡ Exclusive) ws
        → Each (λ (w : Wait). w.mode ≡ Exclusive) (aged_all ws)
    all [] each = tt
    all (w ∷ ws) each = (each.0, all ws each.1)

asked_write : (lock : RowLock) (tx : TxId) → AreWriters lock → AreWriters (asked lock tx Exclusive).lock
asked_write lock tx was = by (holds_enough tx Exclusive lock.holders) (waits tx lock.queue)
  where
    granted : AreWriters (record { holders = hold tx Exclusive lock.holders; queue = lock.queue })
    granted = record { holding = hold_write tx Exclusive lock.holders refl was.holding; waiting = was.waiting }

    last : AreWriters (record { holders = lock.holders; queue = lock.queue ++ wait_of tx Exclusive ∷ [] })
    last = record {
      holding = was.holding;
      waiting = each_append (λ (w : Wait). w.mode ≡ Exclusive) lock.queue (wait_of tx Exclusive ∷ []) was.waiting
          (refl, tt);
    }

    anew : (held agrees quiet : Bool) → AreWriters (asked_anew held agrees quiet lock tx Exclusive).lock
    anew true true quiet = granted
    anew true false quiet = record { holding = was.holding; waiting = (refl, was.waiting) }
    anew false true true = granted
    anew false true false = last
    anew false false quiet = last

    one : (w : Wait) (b : Bool) → w.mode ≡ Exclusive → (raised_if b Exclusive w).mode ≡ Exclusive
    one w true is = stronger_is w.mode
      where
        stronger_is : (m : Mode) → stronger m Exclusive ≡ Exclusive
        stronger_is Exclusive = refl
        stronger_is Shared = refl
    one w false is = is

    all : (ws : List Wait) → Each (λ (w : Wait). w.mode ≡ Exclusive) ws
        → Each (λ (w : Wait). w.mode ≡ Exclusive) (raised tx Exclusive ws)
    all [] each = tt
    all (w ∷ ws) each = (one w (same_tx w.tx tx) each.0, all ws each.1)

    by : (enough waiting : Bool) → AreWriters (asked_by enough waiting lock tx Exclusive).lock
    by true waiting = was
    by false true = record { holding = was.holding; waiting = all lock.queue was.waiting }
    by false false = anew (holds tx lock.holders) (agrees_with tx Exclusive lock.holders) (is_quiet lock.queue)

answered_write : (r : Replica) (q : Request) (refused : Bool) (now : RowLock) (answer : Lock) → AreWriters now
    → AreWriters (replica.asked_by r now q refused answer).lock
answered_write r q refused now Granted is = is
answered_write r q refused now (Queued ahead) is = is

let_in_write : (r : Replica) (refused : Bool) (o : Option Request) → AreWriters r.lock
    → AreWriters (served_by r refused o).lock
let_in_write r refused None is = is
let_in_write r refused (Some q) is = is

-- what is asked is to write
abbrev AsksToWrite : Event → Type 0
AsksToWrite (asks q refused) = work_mode q.work ≡ Exclusive
AsksToWrite event = Unit {0}

writers_after : (event : Event) (r : Replica) → AsksToWrite event → AreWriters r.lock
    → AreWriters (key_after event r).lock
writers_after rests r fine was = was
writers_after (asks q refused) r fine was =
    answered_write r q refused (asked r.lock q.tx (work_mode q.work)).lock
    (asked r.lock q.tx (work_mode q.work)).answer
    (subst (λ m. AreWriters (asked r.lock q.tx m).lock) (sym fine) (asked_write r.lock q.tx was))
writers_after (serves refused) r fine was =
    let_in_write r refused (first (is_let_in r.lock) r.waiting) was
writers_after (commits v true) r fine was = released_write r.lock v was
writers_after (commits v false) r fine was = was
writers_after (completes v) r fine was = released_write r.lock v was
writers_after (aborts v) r fine was = released_write r.lock v was
writers_after (expires v) r fine was = unwaited_write r.lock v was
writers_after (ages None) r fine was = aged_write r.lock was
writers_after (ages (Some v)) r fine was = unwaited_write (grown_old r.lock) v (aged_write r.lock was)

image_writes : (w : RowWork) → IsOfImage w → work_mode w ≡ Exclusive
image_writes (Operate op) image = absurd image
image_writes (Store key image) is = refl

module _ (start : Start) (key : List ℕ) (at : ℕ) (inside : at + 1 < length (replicas start key)) where
  abbrev h : ℕ
  h = replica_host start key (at + 1)

  owed_write : (logs : ℕ → List HostStep) (event : Event) → replica_host start key (at + 1) ≢ primary_host start key
      → IsOwed start logs key (replica_host start key (at + 1)) event → AsksToWrite event
  owed_write logs (asks q refused) behind owed = image_writes q.work (owed.0.image behind)
  owed_write logs rests behind owed = tt
  owed_write logs (serves refused) behind owed = tt
  owed_write logs (commits v last) behind owed = tt
  owed_write logs (completes v) behind owed = tt
  owed_write logs (aborts v) behind owed = tt
  owed_write logs (expires v) behind owed = tt
  owed_write logs (ages wait) behind owed = tt

  abbrev Write : (ℕ → List HostStep) → Type 0
  Write logs = AreWriters (at_host start logs key (replica_host start key (at + 1))).lock

  writers_along : (es : List HostStep) → IsRun start es → Write (logs_of start es)
  writers_along [] run =
      subst AreWriters (sym (first_idle start key (at + 1) run.shape inside)) (record { holding = tt; waiting = tt })
  writers_along (e ∷ es) run =
      let was = writers_along es (earlier start es e run) in
      event_cases (machine start) e es h (λ l. AreWriters (key_in key (after start h l)).lock) (here was) (λ off. was)
    where
      come : Comes start es e
      come = comes start es e run

      log : List HostStep
      log = logs_of start es (replica_host start key (at + 1))

      behind : replica_host start key (at + 1) ≢ primary_host start key
      behind same =
          absurd (omega (
            arith,
            hosts_are_apart start key (at + 1) 0 run.shape inside
                (replicas_some start run.shape key) same,
          ))

      here : Write (logs_of start es) → e.host ≡ h → AreWriters (key_in key (after start h (e ∷ log))).lock
      here was own =
          subst (λ (r : Replica). AreWriters r.lock) (sym (logs_follow start h log e key))
          (writers_after (event_in key (after start h log) e.step.taken) (key_in key (after start h log))
          (owed_write (logs_of start es) (event_in key (after start h log) e.step.taken) behind
          (subst (λ k. IsOwed start (logs_of start es) key k
          (event_in key (after start k (logs_of start es k)) e.step.taken)) own (events_owed start es e key come)))
          was)

-- who holds a lock to write, and waits for it to write, has enough
enough_held : (tx : TxId) (hs : List Holder) → Each (λ (h : Holder). h.mode ≡ Exclusive) hs → holds tx hs ≡ true
    → holds_enough tx Exclusive hs ≡ true
enough_held tx [] all is = absurd (false≢true is)
enough_held tx (h ∷ hs) all is = by (or_cases (same_tx h.tx tx) (holds tx hs) is) (enough_held tx hs all.1)
  where
    by : (same_tx h.tx tx ≡ true) ⊎ (holds tx hs ≡ true) → (holds tx hs ≡ true → holds_enough tx Exclusive hs ≡ true)
        → ((same_tx h.tx tx && is_enough h.mode Exclusive) || holds_enough tx Exclusive hs) ≡ true
    by (inl own) more =
        or_left (same_tx h.tx tx && is_enough h.mode Exclusive) (holds_enough tx Exclusive hs)
        (ap (λ b. b && is_enough h.mode Exclusive) own ∙ ap (λ m. is_enough m Exclusive) all.0)
    by (inr rest) more =
        or_right (same_tx h.tx tx && is_enough h.mode Exclusive) (holds_enough tx Exclusive hs) (more rest)

none_waits : (tx : TxId) (hs : List Holder) (ws : List Wait) → holds_enough tx Exclusive hs ≡ true
    → Each (λ (w : Wait). w.mode ≡ Exclusive) ws → none_has_enough hs ws ≡ true → waits tx ws ≡ true → ⊥
none_waits tx hs [] held all none is = false≢true is
none_waits tx hs (w ∷ ws) held all none is =
    by (or_cases (same_tx w.tx tx) (waits tx ws) is) (none_waits tx hs ws held all.1)
  where
    parts : (not (holds_enough w.tx w.mode hs) ≡ true) × (none_has_enough hs ws ≡ true)
    parts = and_parts (not (holds_enough w.tx w.mode hs)) (none_has_enough hs ws) none

    by : (same_tx w.tx tx ≡ true) ⊎ (waits tx ws ≡ true)
        → (none_has_enough hs ws ≡ true → waits tx ws ≡ true → ⊥) → ⊥
    by (inr rest) more = more parts.1 rest
    by (inl own) more =
        false≢true (sym (ap not (ap (λ v. holds_enough v w.mode hs) (same_tx-is w.tx tx own)
        ∙ ap (λ m. holds_enough tx m hs) all.0 ∙ held)) ∙ parts.0)

pub holders_behind_dont_wait : HoldersBehindDontWait
holders_behind_dont_wait start es key at tx run inside holding =
    by (waits tx (lock_at_place start (logs_of start es) key (at + 1)).queue) refl
  where
    write : AreWriters (lock_at_place start (logs_of start es) key (at + 1))
    write = writers_along start key at inside es run

    by : (b : Bool) → waits tx (lock_at_place start (logs_of start es) key (at + 1)).queue ≡ b → b ≡ false
    by false is = refl
    by true is =
        absurd (none_waits tx (lock_at_place start (logs_of start es) key (at + 1)).holders
        (lock_at_place start (logs_of start es) key (at + 1)).queue
        (enough_held tx (lock_at_place start (logs_of start es) key (at + 1)).holders write.holding holding)
        write.waiting (serving_along start key (at + 1) inside es run).orderly.in_need is)
