-- A queue is served at once: one exclusive request, or the shared requests that stand first.
use Rattle.std.proofs.Common.{◌≡◌, ℕ, ◌+◌, ◌<◌, suc, Bool, true, false, not, ◌&&◌, ◌||◌, cond, nat_lt, List, [], ◌∷◌}
use Rattle.std.proofs.Common.{◌++◌, length, map, take, drop, get_or, remove, refl, ap, sym, ◌∙◌, arith, append_assoc}
use Rattle.std.proofs.Common.{append-nil, add-zero, lt_irrefl}
use Rattle.std.proofs.lemmas.Bool.{true≢false, and_parts, and_from, not-true, or_from, or_right, false_from_ne_true}
use Rattle.std.proofs.lemmas.Bool.{or_parts}
use Rattle.sig_core.specs.declared.member.TxId.{TxId}
use Rattle.row_locks.specs.declared.mode.Mode.{Mode}
use Rattle.row_locks.specs.declared.mode.Mode.TheVariants.{Shared, Exclusive}
use Rattle.row_locks.specs.declared.claim.Holder.{Holder}
use Rattle.row_locks.specs.declared.claim.Wait.{Wait}
use Rattle.sig_core.specs.Same.{same_tx}
use Rattle.row_locks.specs.Modes.{agree, is_shared}
use Rattle.row_locks.specs.Holders.{unless_gone, others, agrees_with, holds, holds_enough, holder_of, hold}
use Rattle.row_locks.specs.Queues.{waits, is_open}
use Rattle.row_locks.specs.Rows.{Served, may_hold, served, served_if}
use Rattle.row_locks.specs.Orderly.{are_waiting_once, none_has_enough}
use Rattle.row_locks.specs.Serving.{granted_to, shared_run}
use Rattle.sig_core.proofs.TxLemmas.{same_tx-swap}
use Rattle.row_locks.proofs.NeedLemmas.{enough_shared, need-last}
use Rattle.row_locks.proofs.OrderlyLemmas.{agrees-last}

-- every holder holds the lock shared
abbrev all_shared : List Holder → Bool
all_shared [] = true
all_shared (h ∷ hs) = is_shared h.mode && all_shared hs

agree-shared : (m : Mode) → agree m Shared ≡ is_shared m
agree-shared Shared = refl
agree-shared Exclusive = refl

agree-exclusive : (m : Mode) → agree m Exclusive ≡ false
agree-exclusive Shared = refl
agree-exclusive Exclusive = refl

-- whoever holds nothing agrees with all holders, to share the lock, only where all share it
shared_from : (u : TxId) (hs : List Holder) → holds u hs ≡ false → agrees_with u Shared hs ≡ true → all_shared hs ≡ true
shared_from u [] n a = refl
shared_from u (h ∷ hs) n a =
    let apart = or_parts (same_tx h.tx u) (holds u hs) n in
    let agreed = and_parts (same_tx h.tx u || agree h.mode Shared) (agrees_with u Shared hs) a in
    and_from _ _ (sym (agree-shared h.mode) ∙ sym (ap (λ b. b || agree h.mode Shared) apart.0) ∙ agreed.0)
    (shared_from u hs apart.1 agreed.1)

agrees_from : (u : TxId) (hs : List Holder) → all_shared hs ≡ true → agrees_with u Shared hs ≡ true
agrees_from u [] s = refl
agrees_from u (h ∷ hs) s =
    let parts = and_parts (is_shared h.mode) (all_shared hs) s in
    and_from _ _ (or_right (same_tx h.tx u) (agree h.mode Shared) (agree-shared h.mode ∙ parts.0))
    (agrees_from u hs parts.1)

shared-end : (hs : List Holder) (h : Holder) → all_shared hs ≡ true → is_shared h.mode ≡ true
    → all_shared (hs ++ h ∷ []) ≡ true
shared-end [] h s e = and_from _ _ e refl
shared-end (x ∷ hs) h s e =
    let parts = and_parts (is_shared x.mode) (all_shared hs) s in
    and_from _ _ parts.0 (shared-end hs h parts.1 e)

others-unheld : (u : TxId) (hs : List Holder) → holds u hs ≡ false → others u hs ≡ hs
others-unheld u [] n = refl
others-unheld u (h ∷ hs) n =
    let parts = or_parts (same_tx h.tx u) (holds u hs) n in
    ap (λ b. unless_gone b h (others u hs)) parts.0 ∙ ap (λ xs. h ∷ xs) (others-unheld u hs parts.1)

-- who doesn't agree with the last holder doesn't agree with all
disagrees-last : (u : TxId) (m : Mode) (hs : List Holder) (h : Holder) → same_tx h.tx u ≡ false → agree h.mode m ≡ false
    → agrees_with u m (hs ++ h ∷ []) ≡ false
disagrees-last u m hs h apart e =
    false_from_ne_true _ (λ all. true≢false (sym (agrees-last u m hs h all) ∙ or_from (same_tx h.tx u) (agree h.mode m)
    apart e))

-- the lock after the first n in the queue were granted, none of whom held anything
abbrev pub after_front : ℕ → ℕ → List Holder → List Wait → Served
after_front n granted holders queue = record {
  lock = record { holders = holders ++ map granted_to (take n queue); queue = drop n queue };
  granted = granted + n;
}

after-none : (g : ℕ) (hs : List Holder) (ws : List Wait) → after_front 0 g hs ws ≡ record {
  lock = record { holders = hs; queue = ws };
  granted = g;
}
after-none g hs ws = λ i. record { lock = record { holders = append-nil hs i; queue = ws }; granted = add-zero g i }

after-one : (n g : ℕ) (hs : List Holder) (w : Wait) (ws : List Wait)
    → after_front n (g + 1) (hs ++ granted_to w ∷ []) ws ≡ after_front (1 + n) g hs (w ∷ ws)
after-one n g hs w ws =
    let counts : g + 1 + n ≡ g + suc n = omega arith in
    let more : suc n ≡ 1 + n = omega arith in
    (λ i. record {
      lock = record {
        holders = append_assoc hs (granted_to w ∷ []) (map granted_to (take n ws)) i;
        queue = drop n ws;
      };
      granted = counts i;
    })
    ∙ ap (λ k. after_front k g hs (w ∷ ws)) more

-- one wait, by its parts
abbrev wait_at : TxId → Mode → ℕ → Wait
wait_at t m r = record { tx = t; mode = m; rounds = r }

none_and : (b : Bool) → (b && false) ≡ false
none_and true = refl
none_and false = refl

-- the shared requests that stand first go as far as they are open
run_open : (t : TxId) (r : ℕ) (ws : List Wait) → nat_lt r 8 ≡ true
    → shared_run (wait_at t Shared r ∷ ws) ≡ 1 + shared_run ws
run_open t r ws e = ap (λ b. cond (b && true) (1 + shared_run ws) 0) e

run_closed : (t : TxId) (r : ℕ) (ws : List Wait) → nat_lt r 8 ≡ false → shared_run (wait_at t Shared r ∷ ws) ≡ 0
run_closed t r ws e = ap (λ b. cond (b && true) (1 + shared_run ws) 0) e

run_exclusive : (t : TxId) (r : ℕ) (ws : List Wait) → shared_run (wait_at t Exclusive r ∷ ws) ≡ 0
run_exclusive t r ws = ap (λ b. cond b (1 + shared_run ws) 0) (none_and (nat_lt r 8))

-- nobody is served behind who may not hold the lock
stopped : (g : ℕ) (hs : List Holder) (w : Wait) (ws : List Wait) → may_hold w hs ≡ false
    → served g hs (w ∷ ws) ≡ record { lock = record { holders = hs; queue = w ∷ ws }; granted = g }
stopped g hs w ws e = ap (λ b. served_if b (served (g + 1) (hold w.tx w.mode hs) ws)
    (record { lock = record { holders = hs; queue = w ∷ ws }; granted = g })) e

-- a shared request that is open is served, where all share the lock
shared_step : (g : ℕ) (hs : List Holder) (t : TxId) (r : ℕ) (ws : List Wait) → nat_lt r 8 ≡ true → all_shared hs ≡ true
    → holds t hs ≡ false
    → served (g + 1) (hs ++ holder_of t Shared ∷ []) ws
    ≡ after_front (shared_run ws) (g + 1) (hs ++ holder_of t Shared ∷ []) ws
    → served g hs (wait_at t Shared r ∷ ws) ≡ after_front (1 + shared_run ws) g hs (wait_at t Shared r ∷ ws)
shared_step g hs t r ws fresh s n rest =
    ap (λ b. served_if b (served (g + 1) (hold t Shared hs) ws)
    (record { lock = record { holders = hs; queue = wait_at t Shared r ∷ ws }; granted = g }))
    (and_from (nat_lt r 8) (agrees_with t Shared hs) fresh (agrees_from t hs s))
    ∙ ap (λ xs. served (g + 1) (xs ++ holder_of t Shared ∷ []) ws) (others-unheld t hs n)
    ∙ rest ∙ after-one (shared_run ws) g hs (wait_at t Shared r) ws

unheld : (t : TxId) (hs : List Holder) (rest : Bool) → (not (holds_enough t Shared hs) && rest) ≡ true
    → holds t hs ≡ false
unheld t hs rest e = sym (enough_shared t hs) ∙ not-true _ (and_parts (not (holds_enough t Shared hs)) rest e).0

-- after a shared request was granted the shared requests behind it are
run_step : (g : ℕ) (hs : List Holder) (h : Holder) (t : TxId) (m : Mode) (r : ℕ) (ws : List Wait)
    → all_shared (hs ++ h ∷ []) ≡ true → waits h.tx (wait_at t m r ∷ ws) ≡ false
    → none_has_enough (hs ++ h ∷ []) (wait_at t m r ∷ ws) ≡ true
    → (all_shared ((hs ++ h ∷ []) ++ holder_of t m ∷ []) ≡ true → served (g + 1) ((hs ++ h ∷ []) ++ holder_of t m ∷ [])
    ws ≡ after_front (shared_run ws) (g + 1) ((hs ++ h ∷ []) ++ holder_of t m ∷ []) ws)
    → served g (hs ++ h ∷ []) (wait_at t m r ∷ ws)
    ≡ after_front (shared_run (wait_at t m r ∷ ws)) g (hs ++ h ∷ []) (wait_at t m r ∷ ws)
run_step g hs h t Shared r ws s n e rest = by (nat_lt r 8) refl
  where
    by : (b : Bool) → nat_lt r 8 ≡ b
        → served g (hs ++ h ∷ []) (wait_at t Shared r ∷ ws)
        ≡ after_front (shared_run (wait_at t Shared r ∷ ws)) g (hs ++ h ∷ []) (wait_at t Shared r ∷ ws)
    by true fresh =
        shared_step g (hs ++ h ∷ []) t r ws fresh s (unheld t (hs ++ h ∷ []) (none_has_enough (hs ++ h ∷ []) ws) e)
        (rest (shared-end (hs ++ h ∷ []) (holder_of t Shared) s refl))
        ∙ ap (λ k. after_front k g (hs ++ h ∷ []) (wait_at t Shared r ∷ ws)) (sym (run_open t r ws fresh))
    by false closed =
        stopped g (hs ++ h ∷ []) (wait_at t Shared r) ws (ap (λ b. b && agrees_with t Shared (hs ++ h ∷ [])) closed)
        ∙ sym (after-none g (hs ++ h ∷ []) (wait_at t Shared r ∷ ws))
        ∙ ap (λ k. after_front k g (hs ++ h ∷ []) (wait_at t Shared r ∷ ws)) (sym (run_closed t r ws closed))
run_step g hs h t Exclusive r ws s n e rest =
    let apart : same_tx h.tx t ≡ false = same_tx-swap h.tx t ∙ (or_parts (same_tx t h.tx) (waits h.tx ws) n).0 in
    stopped g (hs ++ h ∷ []) (wait_at t Exclusive r) ws
    (ap (λ b. nat_lt r 8 && b) (disagrees-last t Exclusive hs h apart (agree-exclusive h.mode)) ∙ none_and (nat_lt r 8))
    ∙ sym (after-none g (hs ++ h ∷ []) (wait_at t Exclusive r ∷ ws))
    ∙ ap (λ k. after_front k g (hs ++ h ∷ []) (wait_at t Exclusive r ∷ ws)) (sym (run_exclusive t r ws))

served_run : (g : ℕ) (hs : List Holder) (h : Holder) (ws : List Wait) → all_shared (hs ++ h ∷ []) ≡ true
    → waits h.tx ws ≡ false → are_waiting_once ws ≡ true → none_has_enough (hs ++ h ∷ []) ws ≡ true
    → served g (hs ++ h ∷ []) ws ≡ after_front (shared_run ws) g (hs ++ h ∷ []) ws
served_run g hs h [] s n o e = sym (after-none g (hs ++ h ∷ []) [])
served_run g hs h (w ∷ ws) s n o e =
    let once = and_parts (not (waits w.tx ws)) (are_waiting_once ws) o in
    let need = and_parts (not (holds_enough w.tx w.mode (hs ++ h ∷ []))) (none_has_enough (hs ++ h ∷ []) ws) e in
    run_step g hs h w.tx w.mode w.rounds ws s n e
    (λ shared. served_run (g + 1) (hs ++ h ∷ []) (holder_of w.tx w.mode) ws shared (not-true _ once.0) once.1
    (need-last (holder_of w.tx w.mode) (hs ++ h ∷ []) ws (not-true _ once.0) ∙ need.1))

first_shared : (hs : List Holder) (t : TxId) (m : Mode) (r : ℕ) (ws : List Wait) → m ≡ Shared
    → may_hold (wait_at t m r) hs ≡ true → are_waiting_once (wait_at t m r ∷ ws) ≡ true
    → none_has_enough hs (wait_at t m r ∷ ws) ≡ true
    → served 0 hs (wait_at t m r ∷ ws) ≡ after_front (shared_run (wait_at t m r ∷ ws)) 0 hs (wait_at t m r ∷ ws)
first_shared hs t Exclusive r ws is a o e = cc
first_shared hs t Shared r ws is a o e =
    let once = and_parts (not (waits t ws)) (are_waiting_once ws) o in
    let need = and_parts (not (holds_enough t Shared hs)) (none_has_enough hs ws) e in
    let free = unheld t hs (none_has_enough hs ws) e in
    let may = and_parts (nat_lt r 8) (agrees_with t Shared hs) a in
    let shared = shared_from t hs free may.1 in
    shared_step 0 hs t r ws may.0 shared free
    (served_run (0 + 1) hs (holder_of t Shared) ws (shared-end hs (holder_of t Shared) shared refl) (not-true _ once.0)
    once.1 (need-last (holder_of t Shared) hs ws (not-true _ once.0) ∙ need.1))
    ∙ ap (λ k. after_front k 0 hs (wait_at t Shared r ∷ ws)) (sym (run_open t r ws may.0))

-- where the first waiter is to share the lock and may, the shared requests that stand first are granted
pub served-shared : (hs : List Holder) (ws : List Wait) (w : Wait) → 0 < length ws → w ≡ get_or ws 0 w → w.mode ≡ Shared
    → may_hold w hs ≡ true → are_waiting_once ws ≡ true
    → none_has_enough hs ws ≡ true → served 0 hs ws ≡ after_front (shared_run ws) 0 hs ws
served-shared hs [] w some is shared a o e = absurd (lt_irrefl 0 some)
served-shared hs (x ∷ ws) w some is shared a o e =
    first_shared hs x.tx x.mode x.rounds ws (sym (ap (λ v. v.mode) is) ∙ shared) (sym (ap (λ v. may_hold v hs) is) ∙ a)
    o e

behind_exclusive : (hs : List Holder) (t : TxId) (ws : List Wait) → waits t ws ≡ false
    → served 1 (hold t Exclusive hs) ws ≡ record {
      lock = record { holders = hold t Exclusive hs; queue = ws };
      granted = 1;
    }
behind_exclusive hs t [] n = refl
behind_exclusive hs t (w ∷ ws) n =
    let apart : same_tx t w.tx ≡ false = same_tx-swap t w.tx ∙ (or_parts (same_tx w.tx t) (waits t ws) n).0 in
    stopped 1 (hold t Exclusive hs) w ws
    (ap (λ b. is_open w && b) (disagrees-last w.tx w.mode (others t hs) (holder_of t Exclusive) apart refl)
    ∙ none_and (is_open w))

first_exclusive : (hs : List Holder) (t : TxId) (m : Mode) (r : ℕ) (ws : List Wait) → m ≡ Exclusive
    → may_hold (wait_at t m r) hs ≡ true → are_waiting_once (wait_at t m r ∷ ws) ≡ true
    → served 0 hs (wait_at t m r ∷ ws) ≡ record { lock = record { holders = hold t m hs; queue = ws }; granted = 1 }
first_exclusive hs t Shared r ws is a o = cc
first_exclusive hs t Exclusive r ws is a o =
    ap (λ b. served_if b (served (0 + 1) (hold t Exclusive hs) ws)
    (record { lock = record { holders = hs; queue = wait_at t Exclusive r ∷ ws }; granted = 0 })) a
    ∙ behind_exclusive hs t ws (not-true _ (and_parts (not (waits t ws)) (are_waiting_once ws) o).0)

-- where the first waiter is to hold the lock exclusively and may, it alone is granted
pub served-exclusive : (hs : List Holder) (ws : List Wait) (w : Wait) → 0 < length ws → w ≡ get_or ws 0 w
    → w.mode ≡ Exclusive → may_hold w hs ≡ true → are_waiting_once ws ≡ true
    → served 0 hs ws ≡ record { lock = record { holders = hold w.tx w.mode hs; queue = remove ws 0 }; granted = 1 }
served-exclusive hs [] w some is exclusive a o = absurd (lt_irrefl 0 some)
served-exclusive hs (x ∷ ws) w some is exclusive a o =
    first_exclusive hs x.tx x.mode x.rounds ws (sym (ap (λ v. v.mode) is) ∙ exclusive)
    (sym (ap (λ v. may_hold v hs) is) ∙ a) o
    ∙ ap (λ v. record { lock = record { holders = hold v.tx v.mode hs; queue = ws }; granted = 1 }) (sym is)
