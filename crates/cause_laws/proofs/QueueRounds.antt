-- What calls on a lock leave of what holds of each wait in its queue, by who waits and for how many rounds.
use Rattle.std.proofs.Common.{ℕ, ◌+◌, Bool, true, false, List, [], ◌∷◌, ◌++◌}
use Rattle.run_theory.proofs.Pasts.{each_append}
use Rattle.run_theory.specs.Lists.{Each}
use Rattle.sig_core.specs.declared.member.TxId.{TxId}
use Rattle.sig_core.specs.Same.{same_tx}
use Rattle.row_locks.specs.declared.claim.Holder.{Holder}
use Rattle.row_locks.specs.declared.claim.Wait.{Wait}
use Rattle.row_locks.specs.declared.mode.Mode.{Mode}
use Rattle.row_locks.specs.Holders.{agrees_with, hold, holds, holds_enough, others, unless_gone}
use Rattle.row_locks.specs.Queues.{aged_all, ages, one_round, raised, raised_if, wait_of, waits, without}
use Rattle.row_locks.specs.Rows.{RowLock, Served, asked, asked_anew, asked_by, is_quiet, released, row_lock, served}
use Rattle.row_locks.specs.Rows.{may_hold, served_if, unwaited}

abbrev pub AreWaits : (TxId → ℕ → Type 0) → List Wait → Type 0
AreWaits P queue = Each (λ (w : Wait). P w.tx w.rounds) queue

module _ (P : TxId → ℕ → Type 0) where
  without_keeps : (tx : TxId) (queue : List Wait) → AreWaits P queue → AreWaits P (without tx queue)
  without_keeps tx [] all = tt
  without_keeps tx (w ∷ queue) all = by (same_tx w.tx tx) (without_keeps tx queue all.1)
    where
      by : (b : Bool) → AreWaits P (without tx queue) → AreWaits P (unless_gone b w (without tx queue))
      by true rest = rest
      by false rest = (all.0, rest)

  served_keeps : (granted : ℕ) (holders : List Holder) (queue : List Wait) → AreWaits P queue
      → AreWaits P (served granted holders queue).lock.queue
  served_keeps granted holders [] all = tt
  served_keeps granted holders (w ∷ queue) all =
      by (may_hold w holders) (served_keeps (granted + 1) (hold w.tx w.mode holders) queue all.1)
    where
      next : Served
      next = served (granted + 1) (hold w.tx w.mode holders) queue

      by : (b : Bool) → AreWaits P next.lock.queue
          → AreWaits P (served_if b next (record { lock = row_lock holders (w ∷ queue); granted = granted })).lock.queue
      by true rest = rest
      by false rest = all

  pub released_keeps : (lock : RowLock) (tx : TxId) → AreWaits P lock.queue → AreWaits P (released lock tx).lock.queue
  released_keeps lock tx all =
      served_keeps 0 (others tx lock.holders) (without tx lock.queue) (without_keeps tx lock.queue all)

  pub unwaited_keeps : (lock : RowLock) (tx : TxId) → AreWaits P lock.queue → AreWaits P (unwaited lock tx).lock.queue
  unwaited_keeps lock tx all = served_keeps 0 lock.holders (without tx lock.queue) (without_keeps tx lock.queue all)

  raised_keeps : (tx : TxId) (mode : Mode) (queue : List Wait) → AreWaits P queue → AreWaits P (raised tx mode queue)
  raised_keeps tx mode [] all = tt
  raised_keeps tx mode (w ∷ queue) all = (by (same_tx w.tx tx), raised_keeps tx mode queue all.1)
    where
      by : (b : Bool) → P (raised_if b mode w).tx (raised_if b mode w).rounds
      by true = all.0
      by false = all.0

  -- a request adds at most a wait of its own, of no round
  pub asked_keeps : (lock : RowLock) (tx : TxId) (mode : Mode) → P tx 0 → AreWaits P lock.queue
      → AreWaits P (asked lock tx mode).lock.queue
  asked_keeps lock tx mode own all = by (holds_enough tx mode lock.holders) (waits tx lock.queue)
    where
      last : AreWaits P (lock.queue ++ wait_of tx mode ∷ [])
      last = each_append (λ (w : Wait). P w.tx w.rounds) lock.queue (wait_of tx mode ∷ []) all (own, tt)

      anew : (holding agrees quiet : Bool) → AreWaits P (asked_anew holding agrees quiet lock tx mode).lock.queue
      anew true true quiet = all
      anew true false quiet = (own, all)
      anew false true true = all
      anew false true false = last
      anew false false quiet = last

      by : (enough waiting : Bool) → AreWaits P (asked_by enough waiting lock tx mode).lock.queue
      by true waiting = all
      by false true = raised_keeps tx mode lock.queue all
      by false false = anew (holds tx lock.holders) (agrees_with tx mode lock.holders) (is_quiet lock.queue)

-- a round adds one at most
pub aged_keeps : (P Q : TxId → ℕ → Type 0) → ((tx : TxId) (rounds : ℕ) → P tx rounds → Q tx rounds)
    → ((tx : TxId) (rounds : ℕ) → P tx rounds → Q tx (rounds + 1)) → (queue : List Wait) → AreWaits P queue
    → AreWaits Q (aged_all queue)
aged_keeps P Q stays more [] all = tt
aged_keeps P Q stays more (w ∷ queue) all = (by (ages w), aged_keeps P Q stays more queue all.1)
  where
    by : (b : Bool) → Q w.tx (one_round b w.rounds)
    by true = more w.tx w.rounds all.0
    by false = stays w.tx w.rounds all.0
