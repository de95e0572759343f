-- Who waits waits for another, where the first in the queue is open: the first holder that isn't it is there.
use Rattle.std.proofs.Common.{◌≡◌, ℕ, Bool, true, false, not, ◌&&◌, ◌||◌, List, [], ◌∷◌, refl, ap, sym, ◌∙◌}
use Rattle.std.specs.Prelude.{IfSome}
use Rattle.std.proofs.lemmas.Bool.{true≢false, not-true, or_parts}
use Rattle.sig_core.specs.declared.member.TxId.{TxId}
use Rattle.row_locks.specs.declared.mode.Mode.{Mode}
use Rattle.row_locks.specs.declared.mode.Lock.{Lock}
use Rattle.row_locks.specs.declared.mode.Lock.TheVariants.{Granted, Queued}
use Rattle.row_locks.specs.declared.claim.Holder.{Holder}
use Rattle.row_locks.specs.declared.claim.Wait.{Wait}
use Rattle.sig_core.specs.Same.{same_tx}
use Rattle.row_locks.specs.Modes.{agree}
use Rattle.row_locks.specs.Holders.{agrees_with, holds, holds_enough, first_other, tx_if}
use Rattle.row_locks.specs.Queues.{waits, is_open}
use Rattle.row_locks.specs.Rows.{RowLock, asked_by, asked_anew, is_quiet}
use Rattle.row_locks.specs.Orderly.{IsOrderly, is_first_held_up, is_first_open, none_holds, are_raises_first, test_if}
use Rattle.row_locks.specs.OrderlyTables.{AreOrderly}
use Rattle.row_locks.specs.Tables.{Locks, lock_at, is_free, ahead_at, some_if, asked_at}
use Rattle.sig_core.proofs.TxLemmas.{same_tx-is, same_tx-swap, apart_too}
use Rattle.row_locks.proofs.TableLawLemmas.{disagreed, held-quiet, free_disagreed}

or_rest : (a b : Bool) → a ≡ false → (a || b) ≡ true → b ≡ true
or_rest true b p e = absurd (true≢false p)
or_rest false b p e = e

and_or : (a b c : Bool) → a ≡ true → ((a || b) && c) ≡ false → c ≡ false
and_or true b c p e = e
and_or false b c p e = absurd (true≢false (sym p))

-- the first other is the first holder, or one behind it
first_at : (u : TxId) (h : Holder) (hs : List Holder) (b : Bool) → same_tx h.tx u ≡ b
    → (same_tx h.tx u ≡ true → same_tx (first_other u hs) u ≡ false)
    → same_tx (tx_if b (first_other u hs) h.tx) u ≡ false
first_at u h hs true e f = f e
first_at u h hs false e f = e

-- where the transaction doesn't agree with all others, there is another
other_disagreed : (u : TxId) (m : Mode) (hs : List Holder) → agrees_with u m hs ≡ false
    → same_tx (first_other u hs) u ≡ false
other_disagreed u m [] e = absurd (true≢false e)
other_disagreed u m (h ∷ hs) e =
    first_at u h hs (same_tx h.tx u) refl
    (λ same. other_disagreed u m hs (and_or (same_tx h.tx u) (agree h.mode m) (agrees_with u m hs) same e))

-- where someone else holds the lock, there is another
other_held : (u f : TxId) (hs : List Holder) → holds f hs ≡ true → same_tx f u ≡ false
    → same_tx (first_other u hs) u ≡ false
other_held u f [] e apart = absurd (true≢false (sym e))
other_held u f (h ∷ hs) e apart =
    first_at u h hs (same_tx h.tx u) refl
    (λ same. other_held u f hs (or_rest (same_tx h.tx f) (holds f hs)
    (apart_too h.tx u f same (same_tx-swap u f ∙ apart)) e) apart)

-- where the lock is held, and not by the transaction, there is another
other_free : (u : TxId) (hs : List Holder) → holds u hs ≡ false → is_free hs ≡ false
    → same_tx (first_other u hs) u ≡ false
other_free u [] n free = absurd (true≢false free)
other_free u (h ∷ hs) n free =
    first_at u h hs (same_tx h.tx u) refl
    (λ same. absurd (true≢false (sym same ∙ (or_parts (same_tx h.tx u) (holds u hs) n).0)))

none_waits_at : (hs : List Holder) (w : Wait) (ws : List Wait) (u : TxId) (b : Bool) → same_tx w.tx u ≡ b
    → holds w.tx hs ≡ false → (same_tx w.tx u ≡ false → holds u hs ≡ false) → holds u hs ≡ false
none_waits_at hs w ws u true e n f = ap (λ t. holds t hs) (sym (same_tx-is w.tx u e)) ∙ n
none_waits_at hs w ws u false e n f = f e

and_first : (a b : Bool) → (a && b) ≡ true → a ≡ true
and_first true b e = refl
and_first false b e = e

and_second : (a b : Bool) → (a && b) ≡ true → b ≡ true
and_second true b e = e
and_second false b e = absurd (true≢false (sym e))

-- where nobody in a queue holds the lock, who waits doesn't
none_waits : (hs : List Holder) (ws : List Wait) (u : TxId) → none_holds hs ws ≡ true → waits u ws ≡ true
    → holds u hs ≡ false
none_waits hs [] u n e = absurd (true≢false (sym e))
none_waits hs (w ∷ ws) u n e =
    none_waits_at hs w ws u (same_tx w.tx u) refl (not-true _ (and_first (not (holds w.tx hs)) (none_holds hs ws) n))
    (λ apart. none_waits hs ws u (and_second (not (holds w.tx hs)) (none_holds hs ws) n)
    (or_rest (same_tx w.tx u) (waits u ws) apart e))

behind : (hs : List Holder) (w : Wait) (ws : List Wait) (u : TxId) → agrees_with w.tx w.mode hs ≡ false
    → same_tx w.tx u ≡ false → waits u ws ≡ true
    → (b : Bool) → holds w.tx hs ≡ b → test_if b (are_raises_first hs ws) (none_holds hs ws) ≡ true
    → same_tx (first_other u hs) u ≡ false
behind hs w ws u up apart e true h r = other_held u w.tx hs h apart
behind hs w ws u up apart e false h r = other_free u hs (none_waits hs ws u r e) (free_disagreed w.tx w.mode hs up)

ahead_at_first : (hs : List Holder) (w : Wait) (ws : List Wait) (u : TxId) → agrees_with w.tx w.mode hs ≡ false
    → are_raises_first hs (w ∷ ws) ≡ true → waits u (w ∷ ws) ≡ true
    → (b : Bool) → same_tx w.tx u ≡ b → same_tx (first_other u hs) u ≡ false
ahead_at_first hs w ws u up r e true same =
    other_disagreed u w.mode hs (ap (λ t. agrees_with t w.mode hs) (sym (same_tx-is w.tx u same)) ∙ up)
ahead_at_first hs w ws u up r e false apart =
    behind hs w ws u up apart (or_rest (same_tx w.tx u) (waits u ws) apart e) (holds w.tx hs) refl r

ahead_in : (hs : List Holder) (ws : List Wait) (u : TxId) → is_first_open ws ≡ true → is_first_held_up hs ws ≡ true
    → are_raises_first hs ws ≡ true → waits u ws ≡ true → same_tx (first_other u hs) u ≡ false
ahead_in hs [] u fresh up r e = absurd (true≢false (sym e))
ahead_in hs (w ∷ ws) u fresh up r e =
    ahead_at_first hs w ws u (disagreed (is_open w) (agrees_with w.tx w.mode hs) fresh up) r e (same_tx w.tx u) refl

some_ahead : (b : Bool) (ahead u : TxId) → (b ≡ true → same_tx ahead u ≡ false)
    → IfSome (some_if b ahead) (λ a. same_tx a u ≡ false)
some_ahead true ahead u f = f refl
some_ahead false ahead u f = tt

pub ahead_is_other : (locks : Locks) (key : List ℕ) (tx : TxId) → AreOrderly locks
    → is_first_open (lock_at locks key).queue ≡ true
    → IfSome (ahead_at locks key tx) (λ ahead. same_tx ahead tx ≡ false)
ahead_is_other locks key tx are fresh =
    let lock = lock_at locks key in
    some_ahead (waits tx lock.queue) (first_other tx lock.holders) tx
    (ahead_in lock.holders lock.queue tx fresh (are.each key).held_up (are.each key).raises_first)

-- whom an answer names
abbrev named : Lock → TxId → TxId
named Granted tx = tx
named (Queued ahead) tx = ahead

abbrev is_granted : Lock → Bool
is_granted Granted = true
is_granted (Queued ahead) = false

named_other : (first ahead u : TxId) → same_tx first u ≡ false → Queued first ≡ Queued ahead → same_tx ahead u ≡ false
named_other first ahead u apart e = ap (λ answer. same_tx (named answer u) u) (sym e) ∙ apart

not_queued : (ahead u : TxId) → Granted ≡ Queued ahead → same_tx ahead u ≡ false
not_queued ahead u e = absurd (true≢false (ap is_granted e))

anew_ahead : (lock : RowLock) (tx : TxId) (m : Mode) (ahead : TxId) → IsOrderly lock → is_first_open lock.queue ≡ true
    → (held agrees quiet : Bool) → holds tx lock.holders ≡ held → agrees_with tx m lock.holders ≡ agrees
    → is_quiet lock.queue ≡ quiet → (asked_anew held agrees quiet lock tx m).answer ≡ Queued ahead
    → same_tx ahead tx ≡ false
anew_ahead lock tx m ahead is fresh true true quiet h a q e = not_queued ahead tx e
anew_ahead lock tx m ahead is fresh true false quiet h a q e =
    named_other (first_other tx lock.holders) ahead tx (other_disagreed tx m lock.holders a) e
anew_ahead lock tx m ahead is fresh false true true h a q e = not_queued ahead tx e
anew_ahead lock tx m ahead is fresh false true false h a q e =
    named_other (first_other tx lock.holders) ahead tx
    (other_free tx lock.holders h (held-quiet lock.holders lock.queue fresh is.held_up q)) e
anew_ahead lock tx m ahead is fresh false false quiet h a q e =
    named_other (first_other tx lock.holders) ahead tx (other_disagreed tx m lock.holders a) e

asked_ahead_by : (lock : RowLock) (tx : TxId) (m : Mode) (ahead : TxId) → IsOrderly lock
    → is_first_open lock.queue ≡ true → (enough waiting : Bool) → waits tx lock.queue ≡ waiting
    → (asked_by enough waiting lock tx m).answer ≡ Queued ahead → same_tx ahead tx ≡ false
asked_ahead_by lock tx m ahead is fresh true waiting w e = not_queued ahead tx e
asked_ahead_by lock tx m ahead is fresh false true w e =
    named_other (first_other tx lock.holders) ahead tx
    (ahead_in lock.holders lock.queue tx fresh is.held_up is.raises_first w) e
asked_ahead_by lock tx m ahead is fresh false false w e =
    anew_ahead lock tx m ahead is fresh (holds tx lock.holders) (agrees_with tx m lock.holders) (is_quiet lock.queue)
    refl refl refl e

pub asked_ahead : (locks : Locks) (key : List ℕ) (tx : TxId) (mode : Mode) (ahead : TxId) → AreOrderly locks
    → is_first_open (lock_at locks key).queue ≡ true → (asked_at locks key tx mode).answer ≡ Queued ahead
    → same_tx ahead tx ≡ false
asked_ahead locks key tx mode ahead are fresh e =
    let lock = lock_at locks key in
    asked_ahead_by lock tx mode ahead (are.each key) fresh (holds_enough tx mode lock.holders) (waits tx lock.queue)
    refl e
