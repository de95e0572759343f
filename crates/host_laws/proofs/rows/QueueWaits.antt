-- Who waits in the queue of a lock after a call on it.
use Rattle.std.proofs.Common.{◌≡◌, ℕ, ◌+◌, ◌≤◌, Bool, true, false, cond, List, [], ◌∷◌, ◌++◌, refl, sym, ap, ◌∙◌, arith}
use Rattle.std.specs.Prelude.{◌&&◌, ◌||◌, nat_lt, T, Option, None, Some}
use Rattle.std.specs.FinMap as finite
use Rattle.std.specs.FinMap.Entries.{below_all, is_sorted}
use Rattle.std.specs.Ordering.{is_eq, is_lt, nat_cmp}
use Rattle.std.specs.Cmp.Lexicographic.{slice_cmp}
use Rattle.std.specs.declared.cmp.Ordering.{Ordering}
use Rattle.std.specs.declared.cmp.Ordering.TheVariants.{Less, Equal, Greater}
use Rattle.std.proofs.lemmas.Bool.{false≢true}
use Rattle.std.proofs.lemmas.Bool.Decides.{nat_tests}
use Rattle.sig_core.specs.declared.member.TxId.{TxId}
use Rattle.sig_core.specs.Same.{same_key, same_tx}
use Rattle.row_locks.specs.declared.claim.Holder.{Holder}
use Rattle.row_locks.specs.declared.claim.Wait.{Wait}
use Rattle.row_locks.specs.declared.mode.Mode.{Mode}
use Rattle.row_locks.specs.declared.mode.Lock.TheVariants.{Granted, Queued}
use Rattle.row_locks.specs.Holders.{agrees_with, hold, holds, holds_enough, others, unless_gone}
use Rattle.row_locks.specs.Queues.{aged_all, raised, raised_if, wait_of, waits, without}
use Rattle.row_locks.specs.Rounds.{expired, expired_in, first_expired, found_at, found_if, is_expired}
use Rattle.row_locks.specs.Rows.{Asked, RowLock, Served, asked, asked_anew, asked_by, is_quiet, may_hold, released}
use Rattle.row_locks.specs.Rows.{served, served_if, unwaited}
use Rattle.row_locks.specs.Tables.{Locks, lock_at, or_unlocked}
use Rattle.sig_core.proofs.TxLemmas.{same_tx-is}
use Rattle.row_records.proofs.KeyLemmas.{same as same_key-is}
use Rattle.sig_core.proofs.Keys.{same_key-self, tied-same_key, same_tx-self}

or_true : (a : Bool) → (a || true) ≡ true
or_true true = refl
or_true false = refl

waits_append : (u : TxId) (ws : List Wait) (w : Wait) → waits u (ws ++ w ∷ []) ≡ (waits u ws || same_tx w.tx u)
waits_append u [] w = by (same_tx w.tx u)
  where
    by : (b : Bool) → (b || false) ≡ b
    by true = refl
    by false = refl
waits_append u (x ∷ ws) w = ap (λ b. same_tx x.tx u || b) (waits_append u ws w) ∙ by (same_tx x.tx u)
  where
    by : (b : Bool) → (b || (waits u ws || same_tx w.tx u)) ≡ ((b || waits u ws) || same_tx w.tx u)
    by true = refl
    by false = refl

waits_raised : (u tx : TxId) (mode : Mode) (ws : List Wait) → waits u (raised tx mode ws) ≡ waits u ws
waits_raised u tx mode [] = refl
waits_raised u tx mode (w ∷ ws) =
    ap (λ b. same_tx (raised_if (same_tx w.tx tx) mode w).tx u || b) (waits_raised u tx mode ws) ∙ by (same_tx w.tx tx)
  where
    by : (b : Bool) → (same_tx (raised_if b mode w).tx u || waits u ws) ≡ (same_tx w.tx u || waits u ws)
    by true = refl
    by false = refl

pub waits_aged : (u : TxId) (ws : List Wait) → waits u (aged_all ws) ≡ waits u ws
waits_aged u [] = refl
waits_aged u (w ∷ ws) = ap (λ b. same_tx w.tx u || b) (waits_aged u ws)

-- a request that is granted leaves the queue as it is; one that isn't is in it then, and nobody else is who wasn't
-- before
pub record AskedWaits (u tx : TxId) (lock : RowLock) (after : Asked) : Type 0 where
  pub granted : after.answer ≡ Granted → waits u after.lock.queue ≡ waits u lock.queue
  pub queued : (ahead : TxId) → after.answer ≡ Queued ahead
      → waits u after.lock.queue ≡ (waits u lock.queue || same_tx tx u)

pub asked_waits : (u tx : TxId) (lock : RowLock) (mode : Mode) → AskedWaits u tx lock (asked lock tx mode)
asked_waits u tx lock mode = by (holds_enough tx mode lock.holders) (waits tx lock.queue) refl
  where
    as_granted : (lock_now : RowLock) → lock_now.queue ≡ lock.queue → AskedWaits u tx lock (record {
      lock = lock_now;
      answer = Granted;
    })
    as_granted lock_now is = record { granted = λ e. ap (waits u) is; queued = λ ahead e. absurd (other ahead e) }
      where
        other : (ahead : TxId) → Granted ≡ Queued ahead → ⊥
        other ahead e = cc

    as_queued : (lock_now : RowLock) (first : TxId) → waits u lock_now.queue ≡ (waits u lock.queue || same_tx tx u)
        → AskedWaits u tx lock (record { lock = lock_now; answer = Queued first })
    as_queued lock_now first is = record { granted = λ e. absurd (other e); queued = λ ahead e. is }
      where
        other : Queued first ≡ Granted → ⊥
        other e = cc

    front : (a b : Bool) → (a || b) ≡ (b || a)
    front true true = refl
    front true false = refl
    front false true = refl
    front false false = refl

    again : (held agrees quiet : Bool) → AskedWaits u tx lock (asked_anew held agrees quiet lock tx mode)
    again true true quiet = as_granted _ refl
    again true false quiet = as_queued _ _ (front (same_tx tx u) (waits u lock.queue))
    again false true true = as_granted _ refl
    again false true false = as_queued _ _ (waits_append u lock.queue (wait_of tx mode))
    again false false quiet = as_queued _ _ (waits_append u lock.queue (wait_of tx mode))

    there : waits tx lock.queue ≡ true → (m : Bool) → same_tx tx u ≡ m → waits u lock.queue ≡ (waits u lock.queue || m)
    there w true e = ap (λ v. waits v lock.queue) (sym (same_tx-is tx u e)) ∙ (w ∙ sym (or_true (waits u lock.queue)))
    there w false e = sym (none (waits u lock.queue))
      where
        none : (b : Bool) → (b || false) ≡ b
        none true = refl
        none false = refl

    by : (enough waiting : Bool) → waits tx lock.queue ≡ waiting
        → AskedWaits u tx lock (asked_by enough waiting lock tx mode)
    by true waiting w = as_granted _ refl
    by false true w = as_queued _ _ (waits_raised u tx mode lock.queue ∙ there w (same_tx tx u) refl)
    by false false w = again (holds tx lock.holders) (agrees_with tx mode lock.holders) (is_quiet lock.queue)

-- the queue without a transaction
without_own : (tx : TxId) (ws : List Wait) → waits tx (without tx ws) ≡ false
without_own tx [] = refl
without_own tx (w ∷ ws) = by (same_tx w.tx tx) refl (without_own tx ws)
  where
    by : (b : Bool) → same_tx w.tx tx ≡ b → waits tx (without tx ws) ≡ false
        → waits tx (unless_gone b w (without tx ws)) ≡ false
    by true e rest = rest
    by false e rest = ap (λ b. b || waits tx (without tx ws)) e ∙ rest

without_other : (tx u : TxId) (ws : List Wait) → same_tx tx u ≡ false → waits u (without tx ws) ≡ waits u ws
without_other tx u [] off = refl
without_other tx u (w ∷ ws) off = by (same_tx w.tx tx) refl (without_other tx u ws off)
  where
    by : (b : Bool) → same_tx w.tx tx ≡ b → waits u (without tx ws) ≡ waits u ws
        → waits u (unless_gone b w (without tx ws)) ≡ (same_tx w.tx u || waits u ws)
    by true e rest = rest ∙ ap (λ b. b || waits u ws) (sym (ap (λ v. same_tx v u) (same_tx-is w.tx tx e) ∙ off))
    by false e rest = ap (λ b. same_tx w.tx u || b) rest

without_less : (tx u : TxId) (ws : List Wait) → waits u (without tx ws) ≡ true → waits u ws ≡ true
without_less tx u ws on = by (same_tx tx u) refl
  where
    by : (b : Bool) → same_tx tx u ≡ b → waits u ws ≡ true
    by true e =
        absurd (false≢true (sym (without_own tx ws) ∙ (ap (λ v. waits v (without tx ws)) (same_tx-is tx u e) ∙ on)))
    by false e = sym (without_other tx u ws e) ∙ on

-- who waits after the queue was served waited before; where nobody was granted the queue is as it was
served_less : (n : ℕ) (hs : List Holder) (ws : List Wait) (u : TxId) → waits u (served n hs ws).lock.queue ≡ true
    → waits u ws ≡ true
served_less n hs [] u on = on
served_less n hs (w ∷ ws) u on = by (may_hold w hs) on (served_less (n + 1) (hold w.tx w.mode hs) ws u)
  where
    by : (b : Bool)
        → waits u (served_if b (served (n + 1) (hold w.tx w.mode hs) ws)
        (record { lock = record { holders = hs; queue = w ∷ ws }; granted = n })).lock.queue ≡ true
        → (waits u (served (n + 1) (hold w.tx w.mode hs) ws).lock.queue ≡ true → waits u ws ≡ true)
        → (same_tx w.tx u || waits u ws) ≡ true
    by true on rest = ap (λ b. same_tx w.tx u || b) (rest on) ∙ or_true (same_tx w.tx u)
    by false on rest = on

served_more : (n : ℕ) (hs : List Holder) (ws : List Wait) → n ≤ (served n hs ws).granted
served_more n hs [] = omega arith
served_more n hs (w ∷ ws) = by (may_hold w hs) (served_more (n + 1) (hold w.tx w.mode hs) ws)
  where
    by : (b : Bool) → n + 1 ≤ (served (n + 1) (hold w.tx w.mode hs) ws).granted
        → n ≤ (served_if b (served (n + 1) (hold w.tx w.mode hs) ws)
        (record { lock = record { holders = hs; queue = w ∷ ws }; granted = n })).granted
    by true more = omega (arith, more)
    by false more = omega arith

served_none : (n : ℕ) (hs : List Holder) (ws : List Wait) → (served n hs ws).granted ≤ n
    → (served n hs ws).lock.queue ≡ ws
served_none n hs [] few = refl
served_none n hs (w ∷ ws) few = by (may_hold w hs) few
  where
    by : (b : Bool)
        → (served_if b (served (n + 1) (hold w.tx w.mode hs) ws)
        (record { lock = record { holders = hs; queue = w ∷ ws }; granted = n })).granted ≤ n
        → (served_if b (served (n + 1) (hold w.tx w.mode hs) ws)
        (record { lock = record { holders = hs; queue = w ∷ ws }; granted = n })).lock.queue ≡ w ∷ ws
    by true few = absurd (omega (arith, few, served_more (n + 1) (hold w.tx w.mode hs) ws))
    by false few = refl

-- a transaction is taken out of the queue, and it is served
pub record LeftWaits (u tx : TxId) (lock : RowLock) (after : Served) : Type 0 where
  pub less : waits u after.lock.queue ≡ true → waits u lock.queue ≡ true
  pub own : same_tx tx u ≡ true → waits u after.lock.queue ≡ false
  pub other : same_tx tx u ≡ false → nat_lt 0 after.granted ≡ false → waits u after.lock.queue ≡ waits u lock.queue

left_waits : (u tx : TxId) (lock : RowLock) (hs : List Holder)
    → LeftWaits u tx lock (served 0 hs (without tx lock.queue))
left_waits u tx lock hs = record {
  less = λ on. without_less tx u lock.queue (served_less 0 hs (without tx lock.queue) u on);
  own = λ e. out e (waits u (served 0 hs (without tx lock.queue)).lock.queue) refl;
  other = λ off none.
      let few : (served 0 hs (without tx lock.queue)).granted ≤ 0 = grind (arith, nat_tests, none) in
      ap (waits u) (served_none 0 hs (without tx lock.queue) few) ∙ without_other tx u lock.queue off;
}
  where
    out : same_tx tx u ≡ true → (b : Bool) → waits u (served 0 hs (without tx lock.queue)).lock.queue ≡ b
        → waits u (served 0 hs (without tx lock.queue)).lock.queue ≡ false
    out e false q = q
    out e true q = absurd (false≢true (sym (without_own tx lock.queue) ∙
        (ap (λ v. waits v (without tx lock.queue)) (same_tx-is tx u e) ∙ served_less 0 hs (without tx lock.queue) u q)))

pub released_waits : (u tx : TxId) (lock : RowLock) → LeftWaits u tx lock (released lock tx)
released_waits u tx lock = left_waits u tx lock (others tx lock.holders)

pub unwaited_waits : (u tx : TxId) (lock : RowLock) → LeftWaits u tx lock (unwaited lock tx)
unwaited_waits u tx lock = left_waits u tx lock lock.holders

-- who has waited too long is in the queue
expired_waits : (u : TxId) (ws : List Wait) → first_expired ws ≡ Some u → waits u ws ≡ true
expired_waits u [] is = absurd cc
expired_waits u (w ∷ ws) is = by (is_expired w) is (expired_waits u ws)
  where
    by : (b : Bool) → found_if b w.tx (first_expired ws) ≡ Some u → (first_expired ws ≡ Some u → waits u ws ≡ true)
        → (same_tx w.tx u || waits u ws) ≡ true
    by true e rest =
        let same : w.tx ≡ u = cc in
        ap (λ v. same_tx v u || waits u ws) same ∙ ap (λ b. b || waits u ws) (same_tx-self u)
    by false e rest = ap (λ b. same_tx w.tx u || b) (rest e) ∙ or_true (same_tx w.tx u)

abbrev pub R : List ℕ → List ℕ → Ordering
R = slice_cmp nat_cmp

not_tied : (r : Ordering) → T (is_lt r) → is_eq r ≡ false
not_tied Less p = refl
not_tied Equal p = absurd p
not_tied Greater p = absurd p

pub first_T : (a b : Bool) → T (a && b) → T a
first_T true b p = tt
first_T false b p = p

pub second_T : (a b : Bool) → T (a && b) → T b
second_T true b p = p
second_T false b p = absurd p

pub below_none : (q : List ℕ) (es : List (List ℕ × RowLock)) → T (below_all R q es) → finite.find R q es ≡ None
below_none q [] h = refl
below_none q (e ∷ es) h =
    ap (λ b. cond b (Some e.1) (finite.find R q es))
    (not_tied (R q e.0) (first_T (is_lt (R q e.0)) (below_all R q es) h))
    ∙ below_none q es (second_T (is_lt (R q e.0)) (below_all R q es) h)

-- the lock in which a wait stood too long
record IsExpired (u : TxId) (key : List ℕ) (es : List (List ℕ × RowLock)) : Type 0 where
  lock : RowLock
  found : finite.find R key es ≡ Some lock
  waits_there : waits u lock.queue ≡ true

expired_found : (u : TxId) (key : List ℕ) (es : List (List ℕ × RowLock)) → T (is_sorted R es)
    → expired_in es ≡ Some (u, key) → IsExpired u key es
expired_found u key [] sorted is = absurd cc
expired_found u key (e ∷ es) sorted is = by (first_expired e.1.queue) refl is
    (expired_found u key es (second_T (below_all R e.0 es) (is_sorted R es) sorted))
  where
    pair_is : (v : TxId) → ◌≡◌ {A = Option (TxId × List ℕ)} (Some (v, e.0)) (Some (u, key)) → (v ≡ u) × (e.0 ≡ key)
    pair_is v q =
        let both : ◌≡◌ {A = TxId × List ℕ} (v, e.0) (u, key) = cc in
        (ap (λ (p : TxId × List ℕ). p.0) both, ap (λ (p : TxId × List ℕ). p.1) both)

    by : (o : Option TxId) → first_expired e.1.queue ≡ o → found_at o e.0 (expired_in es) ≡ Some (u, key)
        → (expired_in es ≡ Some (u, key) → IsExpired u key es) → IsExpired u key (e ∷ es)
    by (Some v) f q rest =
        let p = pair_is v q in
        record {
          lock = e.1;
          found = ap (λ b. cond b (Some e.1) (finite.find R key es))
              (tied-same_key key e.0 ∙ (ap (same_key key) p.1 ∙ same_key-self key));
          waits_there = expired_waits u e.1.queue (f ∙ ap (λ x. Some x) p.0);
        }
    by None f q rest = further (same_key key e.0) refl (rest q)
      where
        further : (b : Bool) → same_key key e.0 ≡ b → IsExpired u key es → IsExpired u key (e ∷ es)
        further false off x = record {
          lock = x.lock;
          found = ap (λ b. cond b (Some e.1) (finite.find R key es)) (tied-same_key key e.0 ∙ off) ∙ x.found;
          waits_there = x.waits_there;
        }
        further true on x =
            let none : finite.find R key es
            ≡ None = ap (λ k. finite.find R k es) (same_key-is key e.0 on)
            ∙ below_none e.0 es (first_T (below_all R e.0 es) (is_sorted R es) sorted) in
            absurd (no_some x.lock (sym none ∙ x.found))
          where
            no_some : (l : RowLock) → None ≡ Some l → ⊥
            no_some l q = cc

pub expired_queued : (locks : Locks) (u : TxId) (key : List ℕ) → expired locks ≡ Some (u, key)
    → waits u (lock_at locks key).queue ≡ true
expired_queued locks u key is =
    let x = expired_found u key (finite.entries locks) (finite.entries_sorted locks) is in
    ap (λ o. waits u (or_unlocked o).queue) (finite.get-entries locks key ∙ x.found) ∙ x.waits_there
