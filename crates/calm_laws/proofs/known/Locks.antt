-- What holds of each transaction that holds a lock, or waits for one, whatever is asked for and let go.
use Rattle.std.proofs.Common.{◌≡◌, ℕ, ◌+◌, Bool, true, false, List, [], ◌∷◌, ◌++◌, refl, sym, subst}
use Rattle.std.specs.FinMap as finite
use Rattle.std.specs.Prelude.{◌||◌, if◌then◌else◌, Some}
use Rattle.run_theory.specs.Lists.{Each}
use Rattle.run_theory.proofs.Pasts.{each_append}
use Rattle.sig_core.specs.declared.member.TxId.{TxId}
use Rattle.sig_core.specs.Same.{same_key, same_tx}
use Rattle.sig_core.proofs.TxLemmas.{same_tx-is}
use Rattle.row_locks.specs.declared.claim.Holder.{Holder}
use Rattle.row_locks.specs.declared.claim.Wait.{Wait}
use Rattle.row_locks.specs.declared.mode.Mode.{Mode}
use Rattle.row_locks.specs.Holders.{agrees_with, first_other, hold, holder_of, holds, holds_enough, others, tx_if}
use Rattle.row_locks.specs.Holders.{unless_gone}
use Rattle.row_locks.specs.Queues.{aged_all, raised, raised_if, wait_of, waits, without}
use Rattle.row_locks.specs.Rounds.{expired, round_later}
use Rattle.row_locks.specs.Rows.{RowLock, asked, asked_anew, asked_by, is_quiet, may_hold, released}
use Rattle.row_locks.specs.Rows.{served, served_if, unwaited}
use Rattle.row_locks.specs.Tables.{Locks, ahead_at, asked_at, kept, lock_at, or_unlocked, released_at, some_if}
use Rattle.row_locks.specs.Tables.{unwaited_at}
use Rattle.row_locks.proofs.LocksLemmas.{key_cmp}
use Rattle.key_laws.proofs.LocksAt.{lock-aged, lock-inserted, lock-kept}
use Rattle.host_laws.proofs.rows.QueueWaits.{expired_queued}

-- the list without an item
left_of : {A : Type 0} (P : A → Type 0) (b : Bool) (x : A) (xs : List A) → P x → Each P xs → Each P (unless_gone b x xs)
left_of P true x xs own all = all
left_of P false x xs own all = (own, all)

module _ (K : TxId → Type 0) where
  abbrev AreHeld : List Holder → Type 0
  AreHeld holders = Each (λ (h : Holder). K h.tx) holders

  abbrev AreAwaited : List Wait → Type 0
  AreAwaited queue = Each (λ (w : Wait). K w.tx) queue

  -- it is so of all who hold the lock, and of all who wait
  pub record IsLockOf (lock : RowLock) : Type 0 where
    pub holders : Each (λ (h : Holder). K h.tx) lock.holders
    pub queue : Each (λ (w : Wait). K w.tx) lock.queue

  pub record AreLocksOf (locks : Locks) : Type 0 where
    pub each : (key : List ℕ) → IsLockOf (lock_at locks key)

  others_of : (tx : TxId) (holders : List Holder) → AreHeld holders → AreHeld (others tx holders)
  others_of tx [] all = tt
  others_of tx (h ∷ holders) all =
      left_of (λ (h : Holder). K h.tx) (same_tx h.tx tx) h (others tx holders) all.0 (others_of tx holders all.1)

  without_of : (tx : TxId) (queue : List Wait) → AreAwaited queue → AreAwaited (without tx queue)
  without_of tx [] all = tt
  without_of tx (w ∷ queue) all =
      left_of (λ (w : Wait). K w.tx) (same_tx w.tx tx) w (without tx queue) all.0 (without_of tx queue all.1)

  hold_of : (tx : TxId) (mode : Mode) (holders : List Holder) → K tx → AreHeld holders → AreHeld (hold tx mode holders)
  hold_of tx mode holders own all =
      each_append (λ (h : Holder). K h.tx) (others tx holders) (holder_of tx mode ∷ []) (others_of tx holders all)
      (own, tt)

  raised_of : (tx : TxId) (mode : Mode) (queue : List Wait) → AreAwaited queue → AreAwaited (raised tx mode queue)
  raised_of tx mode [] all = tt
  raised_of tx mode (w ∷ queue) all = (by (same_tx w.tx tx), raised_of tx mode queue all.1)
    where
      by : (b : Bool) → K (raised_if b mode w).tx
      by true = all.0
      by false = all.0

  aged_of : (queue : List Wait) → AreAwaited queue → AreAwaited (aged_all queue)
  aged_of [] all = tt
  aged_of (w ∷ queue) all = (all.0, aged_of queue all.1)

  -- who is granted the lock waited before
  served_of : (granted : ℕ) (holders : List Holder) (queue : List Wait) → AreHeld holders → AreAwaited queue
      → IsLockOf (served granted holders queue).lock
  served_of granted holders [] held awaited = record { holders = held; queue = tt }
  served_of granted holders (w ∷ queue) held awaited =
      by (may_hold w holders)
      (served_of (granted + 1) (hold w.tx w.mode holders) queue (hold_of w.tx w.mode holders awaited.0 held) awaited.1)
    where
      by : (b : Bool) → IsLockOf (served (granted + 1) (hold w.tx w.mode holders) queue).lock
          → IsLockOf (served_if b (served (granted + 1) (hold w.tx w.mode holders) queue)
          (record { lock = record { holders = holders; queue = w ∷ queue }; granted = granted })).lock
      by true more = more
      by false more = record { holders = held; queue = awaited }

  released_of : (lock : RowLock) (tx : TxId) → IsLockOf lock → IsLockOf (released lock tx).lock
  released_of lock tx is =
      served_of 0 (others tx lock.holders) (without tx lock.queue) (others_of tx lock.holders is.holders)
      (without_of tx lock.queue is.queue)

  unwaited_of : (lock : RowLock) (tx : TxId) → IsLockOf lock → IsLockOf (unwaited lock tx).lock
  unwaited_of lock tx is =
      served_of 0 lock.holders (without tx lock.queue) is.holders (without_of tx lock.queue is.queue)

  -- who asks for it comes to hold it, or to wait
  asked_of : (lock : RowLock) (tx : TxId) (mode : Mode) → K tx → IsLockOf lock → IsLockOf (asked lock tx mode).lock
  asked_of lock tx mode own is = by (holds_enough tx mode lock.holders) (waits tx lock.queue)
    where
      held : AreHeld (hold tx mode lock.holders)
      held = hold_of tx mode lock.holders own is.holders

      last : AreAwaited (lock.queue ++ wait_of tx mode ∷ [])
      last = each_append (λ (w : Wait). K w.tx) lock.queue (wait_of tx mode ∷ []) is.queue (own, tt)

      anew : (holding agrees quiet : Bool) → IsLockOf (asked_anew holding agrees quiet lock tx mode).lock
      anew true true quiet = record { holders = held; queue = is.queue }
      anew true false quiet = record { holders = is.holders; queue = (own, is.queue) }
      anew false true true = record { holders = held; queue = is.queue }
      anew false true false = record { holders = is.holders; queue = last }
      anew false false quiet = record { holders = is.holders; queue = last }

      by : (enough waiting : Bool) → IsLockOf (asked_by enough waiting lock tx mode).lock
      by true waiting = is
      by false true = record { holders = is.holders; queue = raised_of tx mode lock.queue is.queue }
      by false false =
          anew (holds tx lock.holders) (agrees_with tx mode lock.holders) (is_quiet lock.queue)

  -- so it is of the one that is named to who waits
  first_of : (tx : TxId) (holders : List Holder) → K tx → AreHeld holders → K (first_other tx holders)
  first_of tx [] own all = own
  first_of tx (h ∷ holders) own all = by (same_tx h.tx tx) (first_of tx holders own all.1)
    where
      by : (b : Bool) → K (first_other tx holders) → K (tx_if b (first_other tx holders) h.tx)
      by true more = more
      by false more = all.0

  pub ahead_of : (locks : Locks) (key : List ℕ) (tx ahead : TxId) → K tx → AreLocksOf locks
      → ahead_at locks key tx ≡ Some ahead → K ahead
  ahead_of locks key tx ahead own all = by (waits tx (lock_at locks key).queue)
    where
      first : TxId
      first = first_other tx (lock_at locks key).holders

      by : (b : Bool) → some_if b first ≡ Some ahead → K ahead
      by true is =
          let same : first ≡ ahead = cc in
          subst K same (first_of tx (lock_at locks key).holders own (all.each key).holders)
      by false is = absurd cc

  -- and of who waits
  waiter_of : (tx : TxId) (queue : List Wait) → AreAwaited queue → waits tx queue ≡ true → K tx
  waiter_of tx [] all is = absurd cc
  waiter_of tx (w ∷ queue) all is = by (same_tx w.tx tx) refl is (waiter_of tx queue all.1)
    where
      by : (b : Bool) → same_tx w.tx tx ≡ b → (b || waits tx queue) ≡ true → (waits tx queue ≡ true → K tx) → K tx
      by true same there more = subst K (same_tx-is w.tx tx same) all.0
      by false same there more = more there

  pub expired_of : (locks : Locks) (tx : TxId) (key : List ℕ) → AreLocksOf locks → expired locks ≡ Some (tx, key) → K tx
  expired_of locks tx key all is =
      waiter_of tx (lock_at locks key).queue (all.each key).queue (expired_queued locks tx key is)

  -- the locks of all keys, as one of them changes
  chosen_of : (lock other : RowLock) → IsLockOf lock → IsLockOf other → (b : Bool)
      → IsLockOf (if b then lock else other)
  chosen_of lock other is was true = is
  chosen_of lock other is was false = was

  kept_of : (locks : Locks) (key : List ℕ) (lock : RowLock) → AreLocksOf locks → IsLockOf lock
      → AreLocksOf (kept locks key lock)
  kept_of locks key lock all is = record {
    each = λ q. subst IsLockOf (sym (lock-kept locks key q lock))
        (chosen_of lock (lock_at locks q) is (all.each q) (same_key key q));
  }

  pub asks_of : (locks : Locks) (key : List ℕ) (tx : TxId) (mode : Mode) → K tx → AreLocksOf locks
      → AreLocksOf (finite.insert locks key (asked_at locks key tx mode).lock)
  asks_of locks key tx mode own all =
      let lock = (asked_at locks key tx mode).lock in
      record {
        each = λ q. subst IsLockOf (sym (lock-inserted locks key q lock))
            (chosen_of lock (lock_at locks q) (asked_of (lock_at locks key) tx mode own (all.each key)) (all.each q)
            (same_key key q));
      }

  pub releases_of : (locks : Locks) (key : List ℕ) (tx : TxId) → AreLocksOf locks
      → AreLocksOf (kept locks key (released_at locks key tx).lock)
  releases_of locks key tx all =
      kept_of locks key (released_at locks key tx).lock all (released_of (lock_at locks key) tx (all.each key))

  pub unwaits_of : (locks : Locks) (key : List ℕ) (tx : TxId) → AreLocksOf locks
      → AreLocksOf (kept locks key (unwaited_at locks key tx).lock)
  unwaits_of locks key tx all =
      kept_of locks key (unwaited_at locks key tx).lock all (unwaited_of (lock_at locks key) tx (all.each key))

  pub ages_of : (locks : Locks) → AreLocksOf locks → AreLocksOf (round_later locks)
  ages_of locks all = record {
    each = λ q. subst IsLockOf (sym (lock-aged locks q))
        (record { holders = (all.each q).holders; queue = aged_of (lock_at locks q).queue (all.each q).queue });
  }

  -- at first nobody holds a lock
  pub none_of : AreLocksOf finite.empty
  none_of = record {
    each = λ q. subst (λ o. IsLockOf (or_unlocked o)) (sym (finite.get-empty key_cmp q))
        (record { holders = tt; queue = tt });
  }
