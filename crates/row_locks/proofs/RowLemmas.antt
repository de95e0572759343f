-- A row stays orderly, and has room, when its queue changes.
use Rattle.std.proofs.Common.{◌≡◌, ℕ, ◌+◌, ◌≤◌, true, false, List, length, ap, sym, subst, arith, ◌∙◌}
use Rattle.std.specs.Prelude.{Result, Ok, Err, OnOk, OnErr}
use Rattle.std.proofs.lemmas.List.{length-map}
use Rattle.sig_core.specs.declared.member.TxId.{TxId}
use Rattle.row_locks.specs.declared.mode.Mode.{Mode}
use Rattle.row_locks.specs.declared.claim.Holder.{Holder}
use Rattle.row_locks.specs.declared.claim.Wait.{Wait}
use Rattle.sig_core.specs.Same.{same_tx}
use Rattle.row_locks.specs.Holders.{others, holds_enough}
use Rattle.row_locks.specs.Queues.{waits, without, raised, raised_if, aged, aged_all}
use Rattle.row_locks.specs.Rows.{row_lock, anew, served}
use Rattle.row_locks.specs.Orderly.{IsOrderly, are_waiting_once, none_has_enough}
use Rattle.row_locks.proofs.NeedLemmas.{need-others, need-without}
use Rattle.row_locks.proofs.OrderlyLemmas.{waiting-without, gone-without, grown_old_orderly, asked_at-orderly}
use Rattle.row_locks.proofs.OrderlyLemmas.{anew_orderly, released_orderly, unwaited_orderly}

-- what a row keeps, where there is room for so many holders
abbrev IsRow : List Holder → List Wait → ℕ → Type 0
IsRow hs ws room = (length hs + length ws ≤ room) × IsOrderly (row_lock hs ws)

same_length : (hs : List Holder) (ws new : List Wait) (room : ℕ) → length new ≡ length ws → length hs + length ws ≤ room
    → length hs + length new ≤ room
same_length hs ws new room same fits = omega arith

pub aged_row : (hs : List Holder) (ws new : List Wait) (room : ℕ) → new ≡ aged_all ws → IsRow hs ws room
    → IsRow hs new room
aged_row hs ws new room is row = (
  same_length hs ws new room (ap length is ∙ length-map ws aged) row.0,
  subst (λ q. IsOrderly (row_lock hs q)) (sym is) (grown_old_orderly (row_lock hs ws) row.1),
)

pub raised_row : (hs : List Holder) (ws new : List Wait) (room : ℕ) (tx : TxId) (mode : Mode)
    → holds_enough tx mode hs ≡ false → waits tx ws ≡ true → new ≡ raised tx mode ws
    → IsRow hs ws room → IsRow hs new room
raised_row hs ws new room tx mode enough waiting is row = (
  same_length hs ws new room (ap length is ∙ length-map ws (λ w. raised_if (same_tx w.tx tx) mode w)) row.0,
  subst (λ q. IsOrderly (row_lock hs q)) (sym is)
      (asked_at-orderly (row_lock hs ws) tx mode row.1 false true enough waiting),
)

-- a request of a transaction that doesn't wait, whether or not memory was given
pub anew_row : {A E : Type 0} (hs now : List Holder) (ws queue : List Wait) (tx : TxId) (mode : Mode)
    (result : Result A E) → holds_enough tx mode hs ≡ false → waits tx ws ≡ false
    → OnOk result (row_lock now queue ≡ (anew (row_lock hs ws) tx mode).lock)
    → OnErr result (row_lock now queue ≡ row_lock hs ws)
    → IsOrderly (row_lock hs ws) → IsOrderly (row_lock now queue)
anew_row hs now ws queue tx mode (Ok x) enough waiting ok err is =
    subst (λ lock. IsOrderly lock) (sym ok) (anew_orderly (row_lock hs ws) tx mode is enough waiting)
anew_row hs now ws queue tx mode (Err e) enough waiting ok err is = subst (λ lock. IsOrderly lock) (sym err) is

-- the queue was served
pub served_row : (hs now : List Holder) (ws queue : List Wait) (room : ℕ) → now ≡ (served 0 hs ws).lock.holders
    → queue ≡ (served 0 hs ws).lock.queue → length now + length queue ≤ room
    → IsOrderly (served 0 hs ws).lock → IsRow now queue room
served_row hs now ws queue room held left fits is =
    (fits, subst (λ lock. IsOrderly lock) (λ i. row_lock (sym held i) (sym left i)) is)

-- a transaction let go, and left the queue
pub released_need : (tx : TxId) (hs now : List Holder) (ws queue : List Wait) → now ≡ others tx hs
    → queue ≡ without tx ws → none_has_enough hs ws ≡ true → none_has_enough now queue ≡ true
released_need tx hs now ws queue held left need =
    (λ i. none_has_enough (held i) (left i)) ∙ need-others tx hs (without tx ws) (gone-without tx ws)
    ∙ need-without hs tx ws need

pub released_lock : (tx : TxId) (hs now : List Holder) (ws queue : List Wait) → now ≡ others tx hs
    → queue ≡ without tx ws → IsOrderly (row_lock hs ws) → IsOrderly (served 0 now queue).lock
released_lock tx hs now ws queue held left is =
    subst (λ s. IsOrderly s.lock) (λ i. served 0 (sym held i) (sym left i)) (released_orderly (row_lock hs ws) tx is)

-- a transaction left the queue, whoever holds the lock
pub unwaited_once : (tx : TxId) (ws queue : List Wait) → queue ≡ without tx ws → are_waiting_once ws ≡ true
    → are_waiting_once queue ≡ true
unwaited_once tx ws queue left once = ap are_waiting_once left ∙ waiting-without tx ws once

pub unwaited_need : (tx : TxId) (hs : List Holder) (ws queue : List Wait) → queue ≡ without tx ws
    → none_has_enough hs ws ≡ true → none_has_enough hs queue ≡ true
unwaited_need tx hs ws queue left need = ap (λ q. none_has_enough hs q) left ∙ need-without hs tx ws need

pub unwaited_lock : (tx : TxId) (hs : List Holder) (ws queue : List Wait) → queue ≡ without tx ws
    → IsOrderly (row_lock hs ws) → IsOrderly (served 0 hs queue).lock
unwaited_lock tx hs ws queue left is =
    subst (λ q. IsOrderly (served 0 hs q).lock) (sym left) (unwaited_orderly (row_lock hs ws) tx is)
