-- Each call leaves the locks of all keys orderly.
use Rattle.std.proofs.Common.{◌≡◌, ℕ, Bool, true, false, not, ◌&&◌, cond, List, [], ◌∷◌, ◌++◌, map, refl, ap, sym, ◌∙◌}
use Rattle.std.proofs.Common.{subst}
use Rattle.std.specs.Prelude.{Option, Some, None, option_map}
use Rattle.std.specs.Ordering.{eq_by_cmp}
use Rattle.std.specs.Cmp.Lexicographic.{nat_list_cmp_total}
use Rattle.std.specs.BTreeMap.{is_at}
use Rattle.std.specs.FinMap as finite
use Rattle.std.proofs.lemmas.Bool.{true≢false, not-true}
use Rattle.std.proofs.lemmas.Map.Made.{lookup-map_values}
use Rattle.sig_core.proofs.TableLemmas.{find-lookup}
use Rattle.sig_core.specs.declared.member.TxId.{TxId}
use Rattle.row_locks.specs.declared.mode.Mode.{Mode}
use Rattle.row_locks.specs.declared.claim.Holder.{Holder}
use Rattle.row_locks.specs.declared.claim.Wait.{Wait}
use Rattle.row_locks.specs.Holders.{others, agrees_with, holds, holds_enough, holder_of}
use Rattle.row_locks.specs.Queues.{waits, raised, wait_of, aged_all, is_open}
use Rattle.row_locks.specs.Rows.{RowLock, unlocked, asked, asked_by, asked_anew, grown_old, is_quiet}
use Rattle.row_locks.specs.Orderly.{IsOrderly, is_first_held_up, is_first_open}
use Rattle.row_locks.specs.OrderlyTables.{AreOrderly}
use Rattle.row_locks.specs.Rounds.{map_locks, round_later}
use Rattle.row_locks.specs.Tables.{Locks, lock_at, or_unlocked, is_free, is_idle, kept, kept_if, asked_at, released_at}
use Rattle.row_locks.specs.Tables.{unwaited_at}
use Rattle.row_locks.proofs.LocksLemmas.{key_cmp, get-locks}
use Rattle.row_locks.proofs.OrderlyLemmas.{asked_orderly, released_orderly, unwaited_orderly, grown_old_orderly}

pub unlocked_orderly : IsOrderly unlocked
unlocked_orderly = record {
  held_once = refl;
  agreed = refl;
  waiting_once = refl;
  held_up = refl;
  raises_first = refl;
  in_need = refl;
  within_rounds = refl;
}

-- whoever is open and held up doesn't agree
pub disagreed : (fresh agrees : Bool) → fresh ≡ true → not (fresh && agrees) ≡ true → agrees ≡ false
disagreed true agrees is up = not-true agrees up
disagreed false agrees is up = absurd (true≢false (sym is))

-- whoever is open and held up is held up by someone
pub held-quiet : (hs : List Holder) (ws : List Wait) → is_first_open ws ≡ true → is_first_held_up hs ws ≡ true
    → is_quiet ws ≡ false → is_free hs ≡ false
held-quiet (h ∷ hs) ws fresh up q = refl
held-quiet [] [] fresh up q = absurd (true≢false q)
held-quiet [] (w ∷ ws) fresh up q = absurd (true≢false (disagreed (is_open w) true fresh up))

-- one lock changed

orderly_cond : (b : Bool) (v : RowLock) (o : Option RowLock) → IsOrderly v → IsOrderly (or_unlocked o)
    → IsOrderly (or_unlocked (cond b (Some v) o))
orderly_cond true v o is rest = is
orderly_cond false v o is rest = rest

orderly_without : (b : Bool) (o : Option RowLock) → IsOrderly (or_unlocked o) → IsOrderly (or_unlocked (cond b None o))
orderly_without true o rest = unlocked_orderly
orderly_without false o rest = rest

used_cond : (b : Bool) (v : RowLock) (o : Option RowLock) (l : RowLock) → is_idle v ≡ false
    → (o ≡ Some l → is_idle l ≡ false)
    → cond b (Some v) o ≡ Some l → is_idle l ≡ false
used_cond true v o l busy rest e = ap (λ x. is_idle (or_unlocked x)) (sym e) ∙ busy
used_cond false v o l busy rest e = rest e

pub some_none : (l : RowLock) → None ≡ Some l → is_idle l ≡ false
some_none l e = absurd (true≢false (ap is_absent e))
  where
    is_absent : Option RowLock → Bool
    is_absent None = true
    is_absent (Some x) = false

used_without : (b : Bool) (o : Option RowLock) (l : RowLock) → (o ≡ Some l → is_idle l ≡ false) → cond b None o ≡ Some l
    → is_idle l ≡ false
used_without true o l rest e = some_none l e
used_without false o l rest e = rest e

insert_orderly : (m : Locks) (k : List ℕ) (v : RowLock) → AreOrderly m → IsOrderly v → is_idle v ≡ false
    → AreOrderly (finite.insert m k v)
insert_orderly m k v are is busy =
    record {
      each = λ q. subst (λ o. IsOrderly (or_unlocked o)) (sym (finite.get-insert nat_list_cmp_total m k v q))
          (orderly_cond (eq_by_cmp key_cmp q k) v (finite.get m q) is (are.each q));
      used = λ q l e. used_cond (eq_by_cmp key_cmp q k) v (finite.get m q) l busy (are.used q l)
          (sym (finite.get-insert nat_list_cmp_total m k v q) ∙ e);
    }

remove_orderly : (m : Locks) (k : List ℕ) → AreOrderly m → AreOrderly (finite.remove m k)
remove_orderly m k are =
    record {
      each = λ q. subst (λ o. IsOrderly (or_unlocked o)) (sym (finite.get-remove nat_list_cmp_total m k q))
          (orderly_without (eq_by_cmp key_cmp q k) (finite.get m q) (are.each q));
      used = λ q l e. used_without (eq_by_cmp key_cmp q k) (finite.get m q) l (are.used q l)
          (sym (finite.get-remove nat_list_cmp_total m k q) ∙ e);
    }

kept_at : (m : Locks) (k : List ℕ) (v : RowLock) → AreOrderly m → IsOrderly v → (b : Bool) → is_idle v ≡ b
    → AreOrderly (kept_if b m k v)
kept_at m k v are is true idle = remove_orderly m k are
kept_at m k v are is false idle = insert_orderly m k v are is idle

kept_orderly : (m : Locks) (k : List ℕ) (v : RowLock) → AreOrderly m → IsOrderly v → AreOrderly (kept m k v)
kept_orderly m k v are is = kept_at m k v are is (is_idle v) refl

-- a request leaves a holder or a waiter

free_end : (hs : List Holder) (h : Holder) → is_free (hs ++ h ∷ []) ≡ false
free_end [] h = refl
free_end (x ∷ hs) h = refl

free_enough : (tx : TxId) (m : Mode) (hs : List Holder) → holds_enough tx m hs ≡ true → is_free hs ≡ false
free_enough tx m [] e = absurd (true≢false (sym e))
free_enough tx m (h ∷ hs) e = refl

pub free_disagreed : (tx : TxId) (m : Mode) (hs : List Holder) → agrees_with tx m hs ≡ false → is_free hs ≡ false
free_disagreed tx m [] e = absurd (true≢false e)
free_disagreed tx m (h ∷ hs) e = refl

pub quiet_waits : (tx : TxId) (ws : List Wait) → waits tx ws ≡ true → is_quiet ws ≡ false
quiet_waits tx [] e = absurd (true≢false (sym e))
quiet_waits tx (w ∷ ws) e = refl

quiet_end : (ws : List Wait) (w : Wait) → is_quiet (ws ++ w ∷ []) ≡ false
quiet_end [] w = refl
quiet_end (x ∷ ws) w = refl

quiet_raised : (tx : TxId) (m : Mode) (ws : List Wait) → is_quiet (raised tx m ws) ≡ is_quiet ws
quiet_raised tx m [] = refl
quiet_raised tx m (w ∷ ws) = refl

quiet_aged : (ws : List Wait) → is_quiet (aged_all ws) ≡ is_quiet ws
quiet_aged [] = refl
quiet_aged (w ∷ ws) = refl

-- a lock that is held isn't idle, and nor is one that somebody waits for
held_used : (l : RowLock) → is_free l.holders ≡ false → is_idle l ≡ false
held_used l e = ap (λ b. b && is_quiet l.queue) e

waited_used : (l : RowLock) → is_quiet l.queue ≡ false → is_idle l ≡ false
waited_used l e = ap (λ b. is_free l.holders && b) e ∙ none (is_free l.holders)
  where
    none : (b : Bool) → (b && false) ≡ false
    none true = refl
    none false = refl

anew_used : (lock : RowLock) (tx : TxId) (m : Mode) → (held agrees quiet : Bool)
    → is_idle (asked_anew held agrees quiet lock tx m).lock ≡ false
anew_used lock tx m true true quiet =
    held_used (asked_anew true true quiet lock tx m).lock (free_end (others tx lock.holders) (holder_of tx m))
anew_used lock tx m true false quiet = waited_used (asked_anew true false quiet lock tx m).lock refl
anew_used lock tx m false true true =
    held_used (asked_anew false true true lock tx m).lock (free_end (others tx lock.holders) (holder_of tx m))
anew_used lock tx m false true false =
    waited_used (asked_anew false true false lock tx m).lock (quiet_end lock.queue (wait_of tx m))
anew_used lock tx m false false quiet =
    waited_used (asked_anew false false quiet lock tx m).lock (quiet_end lock.queue (wait_of tx m))

asked_used_at : (lock : RowLock) (tx : TxId) (m : Mode) (enough waiting : Bool)
    → holds_enough tx m lock.holders ≡ enough → waits tx lock.queue ≡ waiting
    → is_idle (asked_by enough waiting lock tx m).lock ≡ false
asked_used_at lock tx m true waiting e w = held_used lock (free_enough tx m lock.holders e)
asked_used_at lock tx m false true e w =
    waited_used (asked_by false true lock tx m).lock (quiet_raised tx m lock.queue ∙ quiet_waits tx lock.queue w)
asked_used_at lock tx m false false e w =
    anew_used lock tx m (holds tx lock.holders) (agrees_with tx m lock.holders) (is_quiet lock.queue)

asked_used : (lock : RowLock) (tx : TxId) (m : Mode) → is_idle (asked lock tx m).lock ≡ false
asked_used lock tx m = asked_used_at lock tx m (holds_enough tx m lock.holders) (waits tx lock.queue) refl refl

-- each lock changed

pub get-map_locks : (g : RowLock → RowLock) (m : Locks) (q : List ℕ)
    → finite.get (map_locks g m) q ≡ option_map g (finite.get m q)
get-map_locks g m q =
    get-locks (map (λ e. (e.0, g e.1)) (finite.entries m)) q
    ∙ lookup-map_values g (is_at (key_cmp q)) (finite.entries m)
    ∙ ap (option_map g) (sym (finite.get-entries m q ∙ find-lookup key_cmp q (finite.entries m)))

orderly_map : (g : RowLock → RowLock) (o : Option RowLock) → ((l : RowLock) → IsOrderly l → IsOrderly (g l))
    → IsOrderly (or_unlocked o) → IsOrderly (or_unlocked (option_map g o))
orderly_map g None f is = unlocked_orderly
orderly_map g (Some l) f is = f l is

used_map : (g : RowLock → RowLock) (o : Option RowLock) (l : RowLock) → ((x : RowLock) → is_idle (g x) ≡ is_idle x)
    → ((x : RowLock) → o ≡ Some x → is_idle x ≡ false)
    → option_map g o ≡ Some l → is_idle l ≡ false
used_map g None l same rest e = some_none l e
used_map g (Some x) l same rest e = ap (λ o. is_idle (or_unlocked o)) (sym e) ∙ same x ∙ rest x refl

map_orderly : (g : RowLock → RowLock) (m : Locks) → ((l : RowLock) → IsOrderly l → IsOrderly (g l))
    → ((x : RowLock) → is_idle (g x) ≡ is_idle x) → AreOrderly m → AreOrderly (map_locks g m)
map_orderly g m f same are =
    record {
      each = λ q. subst (λ o. IsOrderly (or_unlocked o)) (sym (get-map_locks g m q))
          (orderly_map g (finite.get m q) f (are.each q));
      used = λ q l e. used_map g (finite.get m q) l same (are.used q) (sym (get-map_locks g m q) ∙ e);
    }

-- the calls

pub empty_orderly : AreOrderly finite.empty
empty_orderly =
    record {
      each = λ q. subst (λ o. IsOrderly (or_unlocked o)) (sym (finite.get-empty key_cmp q)) unlocked_orderly;
      used = λ q l e. some_none l (sym (finite.get-empty key_cmp q) ∙ e);
    }

pub request_orderly : (m : Locks) (k : List ℕ) (tx : TxId) (mode : Mode) → AreOrderly m
    → AreOrderly (finite.insert m k (asked_at m k tx mode).lock)
request_orderly m k tx mode are =
    insert_orderly m k (asked_at m k tx mode).lock are (asked_orderly (lock_at m k) tx mode (are.each k))
    (asked_used (lock_at m k) tx mode)

pub release_orderly : (m : Locks) (k : List ℕ) (tx : TxId) → AreOrderly m
    → AreOrderly (kept m k (released_at m k tx).lock)
release_orderly m k tx are =
    kept_orderly m k (released_at m k tx).lock are (released_orderly (lock_at m k) tx (are.each k))

pub unwait_orderly : (m : Locks) (k : List ℕ) (tx : TxId) → AreOrderly m
    → AreOrderly (kept m k (unwaited_at m k tx).lock)
unwait_orderly m k tx are =
    kept_orderly m k (unwaited_at m k tx).lock are (unwaited_orderly (lock_at m k) tx (are.each k))

pub age_round_orderly : (m : Locks) → AreOrderly m → AreOrderly (round_later m)
age_round_orderly m are =
    map_orderly grown_old m grown_old_orderly (λ x. ap (λ b. is_free x.holders && b) (quiet_aged x.queue)) are
