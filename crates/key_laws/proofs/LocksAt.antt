-- The locks of a replica, key by key.
use Rattle.std.proofs.Common.{◌≡◌, ℕ, Bool, true, false, cond, ◌&&◌, List, [], ◌∷◌, refl, ap, ◌∙◌}
use Rattle.std.specs.Prelude.{if◌then◌else◌, Option, None, Some, option_map}
use Rattle.std.specs.Cmp.Lexicographic.{nat_list_cmp_total}
use Rattle.std.specs.FinMap as finite
use Rattle.sig_core.specs.Same.{same_key}
use Rattle.row_locks.specs.declared.claim.Holder.{Holder}
use Rattle.row_locks.specs.declared.claim.Wait.{Wait}
use Rattle.row_locks.specs.Rounds.{round_later}
use Rattle.row_locks.specs.Rows.{RowLock, grown_old, is_quiet, unlocked}
use Rattle.row_locks.specs.Tables.{Locks, is_free, is_idle, kept, kept_if, lock_at, or_unlocked}
use Rattle.row_locks.proofs.TableLawLemmas.{get-map_locks}
use Rattle.sig_core.proofs.Keys.{same_key-swap, tied-same_key}

-- one lock has come to be another
pub lock-inserted : (locks : Locks) (key q : List ℕ) (lock : RowLock)
    → lock_at (finite.insert locks key lock) q ≡ (if same_key key q then lock else lock_at locks q)
lock-inserted locks key q lock =
    ap or_unlocked (finite.get-insert nat_list_cmp_total locks key lock q
    ∙ ap (λ b. cond b (Some lock) (finite.get locks q)) (tied-same_key q key ∙ same_key-swap q key))
    ∙ by (same_key key q)
  where
    by : (b : Bool) → or_unlocked (cond b (Some lock) (finite.get locks q)) ≡ (if b then lock else lock_at locks q)
    by true = refl
    by false = refl

idle_is : (holders : List Holder) (queue : List Wait) → (is_free holders && is_quiet queue) ≡ true
    → unlocked ≡ record { holders = holders; queue = queue }
idle_is [] [] is = refl
idle_is [] (w ∷ queue) is = absurd cc
idle_is (h ∷ holders) queue is = absurd cc

pub lock-kept : (locks : Locks) (key q : List ℕ) (lock : RowLock)
    → lock_at (kept locks key lock) q ≡ (if same_key key q then lock else lock_at locks q)
lock-kept locks key q lock = by (is_idle lock) refl
  where
    gone : (b : Bool) → is_idle lock ≡ true
        → or_unlocked (cond b None (finite.get locks q)) ≡ (if b then lock else lock_at locks q)
    gone true idle = idle_is lock.holders lock.queue idle
    gone false idle = refl

    by : (b : Bool) → is_idle lock ≡ b
        → lock_at (kept_if b locks key lock) q ≡ (if same_key key q then lock else lock_at locks q)
    by true idle =
        ap or_unlocked (finite.get-remove nat_list_cmp_total locks key q ∙ ap (λ b. cond b None (finite.get locks q))
        (tied-same_key q key ∙ same_key-swap q key))
        ∙ gone (same_key key q) idle
    by false idle = lock-inserted locks key q lock

-- a round later
pub lock-aged : (locks : Locks) (q : List ℕ) → lock_at (round_later locks) q ≡ grown_old (lock_at locks q)
lock-aged locks q = ap or_unlocked (get-map_locks grown_old locks q) ∙ by (finite.get locks q)
  where
    by : (o : Option RowLock) → or_unlocked (option_map grown_old o) ≡ grown_old (or_unlocked o)
    by None = refl
    by (Some lock) = refl
