-- Who is granted the lock stood first in the queue, and is among the last holders.
use Rattle.std.proofs.Common.{◌≡◌, ℕ, ◌+◌, ◌-◌, ◌≤◌, zero, suc, Bool, true, false, not, List, [], ◌∷◌, ◌++◌, length}
use Rattle.std.proofs.Common.{map, take, drop, refl, ap, sym, ◌∙◌, arith, append_assoc, append-nil, add-zero}
use Rattle.std.proofs.lemmas.Bool.{and_parts, not-true, or_parts, or_from}
use Rattle.std.proofs.lemmas.List.{length-append, length-map, length-take-le, drop_at}
use Rattle.sig_core.specs.declared.member.TxId.{TxId}
use Rattle.row_locks.specs.declared.claim.Holder.{Holder}
use Rattle.row_locks.specs.declared.claim.Wait.{Wait}
use Rattle.sig_core.specs.Same.{same_tx}
use Rattle.row_locks.specs.Holders.{unless_gone, others, hold}
use Rattle.row_locks.specs.Queues.{waits, without}
use Rattle.row_locks.specs.Rows.{Served, may_hold, served, served_if}
use Rattle.row_locks.specs.Orderly.{are_waiting_once}
use Rattle.row_locks.specs.OrderlyTables.{AreOrderly}
use Rattle.row_locks.specs.Serving.{granted_to, last, GrantsFirst}
use Rattle.row_locks.specs.Tables.{Locks, lock_at, released_at, unwaited_at}
use Rattle.sig_core.proofs.TxLemmas.{same_tx-swap}
use Rattle.row_locks.proofs.OrderlyLemmas.{waiting-without}

-- the holders that don't wait in this queue
abbrev outside : List Wait → List Holder → List Holder
outside [] hs = hs
outside (w ∷ ws) hs = outside ws (others w.tx hs)

gone_end : (b : Bool) (x h : Holder) (hs : List Holder) → unless_gone b x (hs ++ h ∷ []) ≡ unless_gone b x hs ++ h ∷ []
gone_end true x h hs = refl
gone_end false x h hs = refl

others-end : (u : TxId) (hs : List Holder) (h : Holder) → same_tx h.tx u ≡ false
    → others u (hs ++ h ∷ []) ≡ others u hs ++ h ∷ []
others-end u [] h e = ap (λ b. unless_gone b h []) e
others-end u (x ∷ hs) h e =
    ap (λ xs. unless_gone (same_tx x.tx u) x xs) (others-end u hs h e) ∙ gone_end (same_tx x.tx u) x h (others u hs)

outside-end : (ws : List Wait) (hs : List Holder) (h : Holder) → waits h.tx ws ≡ false
    → outside ws (hs ++ h ∷ []) ≡ outside ws hs ++ h ∷ []
outside-end [] hs h n = refl
outside-end (w ∷ ws) hs h n =
    let parts = or_parts (same_tx w.tx h.tx) (waits h.tx ws) n in
    ap (outside ws) (others-end w.tx hs h (same_tx-swap h.tx w.tx ∙ parts.0))
    ∙ outside-end ws (others w.tx hs) h parts.1

waits-take : (u : TxId) (n : ℕ) (ws : List Wait) → waits u ws ≡ false → waits u (take n ws) ≡ false
waits-take u zero ws e = refl
waits-take u (suc n) [] e = refl
waits-take u (suc n) (w ∷ ws) e =
    let parts = or_parts (same_tx w.tx u) (waits u ws) e in
    or_from _ _ parts.0 (waits-take u n ws parts.1)

-- the first n in the queue were granted, after `granted` others
record HasGranted (n granted : ℕ) (hs : List Holder) (ws : List Wait) (after : Served) : Type 0 where
  counted : after.granted ≡ granted + n
  within : n ≤ length ws
  held : after.lock.holders ≡ outside (take n ws) hs ++ map granted_to (take n ws)
  waiting : after.lock.queue ≡ drop n ws

nobody : (g : ℕ) (hs : List Holder) (ws : List Wait) → HasGranted 0 g hs ws (record {
  lock = record { holders = hs; queue = ws };
  granted = g;
})
nobody g hs ws = record { counted = sym (add-zero g); within = omega arith; held = sym (append-nil hs); waiting = refl }

one_more : (n g : ℕ) (hs : List Holder) (w : Wait) (ws : List Wait) (after : Served) → waits w.tx ws ≡ false
    → HasGranted n (g + 1) (hold w.tx w.mode hs) ws after → HasGranted (suc n) g hs (w ∷ ws) after
one_more n g hs w ws after apart has =
    record {
      counted = has.counted ∙ omega arith;
      within = omega (arith, has.within);
      held = has.held ∙ ap (λ xs. xs ++ map granted_to (take n ws))
          (outside-end (take n ws) (others w.tx hs) (granted_to w) (waits-take w.tx n ws apart))
          ∙ append_assoc (outside (take n ws) (others w.tx hs)) (granted_to w ∷ []) (map granted_to (take n ws));
      waiting = has.waiting;
    }

front_granted : (g : ℕ) (hs : List Holder) (ws : List Wait) → are_waiting_once ws ≡ true
    → (n : ℕ) × HasGranted n g hs ws (served g hs ws)
front_granted g hs [] once = (0, nobody g hs [])
front_granted g hs (w ∷ ws) once =
    let parts = and_parts (not (waits w.tx ws)) (are_waiting_once ws) once in
    at (may_hold w hs) (not-true _ parts.0) (front_granted (g + 1) (hold w.tx w.mode hs) ws parts.1)
  where
    at : (b : Bool) → waits w.tx ws ≡ false
        → ((n : ℕ) × HasGranted n (g + 1) (hold w.tx w.mode hs) ws (served (g + 1) (hold w.tx w.mode hs) ws))
        → (n : ℕ) × HasGranted n g hs (w ∷ ws) (served_if b (served (g + 1) (hold w.tx w.mode hs) ws) (record {
          lock = record { holders = hs; queue = w ∷ ws };
          granted = g;
        }))
    at true apart rest = (suc rest.0, one_more rest.0 g hs w ws (served (g + 1) (hold w.tx w.mode hs) ws) apart rest.1)
    at false apart rest = (0, nobody g hs (w ∷ ws))

last-append : (xs ys : List Holder) (n : ℕ) → length ys ≡ n → last n (xs ++ ys) ≡ ys
last-append xs ys n is =
    let front : length xs ≡ length (xs ++ ys) - n = omega (arith, length-append xs ys) in
    drop_at xs ys (length (xs ++ ys) - n) front

grants_first : (n : ℕ) (hs : List Holder) (ws : List Wait) (after : Served) → HasGranted n 0 hs ws after
    → GrantsFirst ws after
grants_first n hs ws after has =
    let all : after.granted ≡ n = has.counted ∙ omega arith in
    let many : length (map granted_to (take n ws)) ≡ n =
    length-map (take n ws) granted_to ∙ length-take-le n ws has.within in
    record {
      held = (λ i. last (all i) (has.held i)) ∙ last-append (outside (take n ws) hs) (map granted_to (take n ws)) n many
          ∙ ap (λ k. map granted_to (take k ws)) (sym all);
      waiting = has.waiting ∙ ap (λ k. drop k ws) (sym all);
      within = omega (arith, has.within);
    }

served_first : (hs : List Holder) (ws : List Wait) → are_waiting_once ws ≡ true → GrantsFirst ws (served 0 hs ws)
served_first hs ws once = let front = front_granted 0 hs ws once in grants_first front.0 hs ws (served 0 hs ws) front.1

pub released_first : (locks : Locks) (key : List ℕ) (tx : TxId) → AreOrderly locks
    → GrantsFirst (without tx (lock_at locks key).queue) (released_at locks key tx)
released_first locks key tx are =
    let lock = lock_at locks key in
    served_first (others tx lock.holders) (without tx lock.queue)
    (waiting-without tx lock.queue (are.each key).waiting_once)

pub unwaited_first : (locks : Locks) (key : List ℕ) (tx : TxId) → AreOrderly locks
    → GrantsFirst (without tx (lock_at locks key).queue) (unwaited_at locks key tx)
unwaited_first locks key tx are =
    let lock = lock_at locks key in
    served_first lock.holders (without tx lock.queue) (waiting-without tx lock.queue (are.each key).waiting_once)
