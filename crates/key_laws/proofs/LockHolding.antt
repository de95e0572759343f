-- Who holds a lock after a call on it.
use Rattle.std.proofs.Common.{◌≡◌, ◌⊎◌, ℕ, ◌+◌, Bool, true, false, not, ◌&&◌, ◌||◌, List, [], ◌∷◌, ◌++◌, refl, sym, ap}
use Rattle.std.proofs.Common.{◌∙◌, subst, inl, inr}
use Rattle.std.specs.List.{list_any}
use Rattle.std.proofs.lemmas.List.Folds.{list_any-append}
use Rattle.std.proofs.lemmas.Bool.{and_from, and_parts, not-true, or_cases, or_left, or_right}
use Rattle.sig_core.specs.declared.member.TxId.{TxId}
use Rattle.sig_core.specs.Same.{same_tx}
use Rattle.row_locks.specs.declared.claim.Holder.{Holder}
use Rattle.row_locks.specs.declared.claim.Wait.{Wait}
use Rattle.row_locks.specs.declared.mode.Lock.TheVariants.{Granted}
use Rattle.row_locks.specs.declared.mode.Mode.{Mode}
use Rattle.row_locks.specs.declared.mode.Mode.TheVariants.{Shared, Exclusive}
use Rattle.row_locks.specs.Holders.{agrees_with, hold, holder_of, holds, holds_enough, others, unless_gone}
use Rattle.row_locks.specs.Modes.{is_enough}
use Rattle.row_locks.specs.Orderly.{IsOrderly, are_waiting_once, none_has_enough}
use Rattle.row_locks.specs.Queues.{is_open, waits, without}
use Rattle.row_locks.specs.Rows.{RowLock, asked, asked_anew, asked_by, is_quiet, may_hold, released, served, served_if}
use Rattle.row_locks.specs.Rows.{unwaited}
use Rattle.row_locks.proofs.NeedLemmas.{enough_shared, need-hold, need-others, need-without}
use Rattle.row_locks.proofs.OrderlyLemmas.{asked_orderly, gone-without, released_orderly, unwaited_orderly}
use Rattle.row_locks.proofs.OrderlyLemmas.{waiting-without}
use Rattle.sig_core.proofs.TxLemmas.{same_tx-is}
use Rattle.key_laws.specs.LockLaws.{ExpiriesHoldOn, GrantsHold, ReleasesHoldOn, RequestsHoldOn}
use Rattle.key_laws.specs.Primary.{HoldOn}
use Rattle.sig_core.proofs.Keys.{same_tx-self}

-- the exclusive mode is enough for any
enough_any : (a m : Mode) → is_enough a Exclusive ≡ true → is_enough a m ≡ true
enough_any Exclusive m is = refl
enough_any Shared m is = absurd cc

exclusive_enough : (u : TxId) (m : Mode) (hs : List Holder) → holds_enough u Exclusive hs ≡ true
    → holds_enough u m hs ≡ true
exclusive_enough u m [] is = is
exclusive_enough u m (h ∷ hs) is = by (same_tx h.tx u) (is_enough h.mode Exclusive) refl is (exclusive_enough u m hs)
  where
    by : (b c : Bool) → is_enough h.mode Exclusive ≡ c → ((b && c) || holds_enough u Exclusive hs) ≡ true
        → (holds_enough u Exclusive hs ≡ true → holds_enough u m hs ≡ true)
        → ((b && is_enough h.mode m) || holds_enough u m hs) ≡ true
    by true true e is more = or_left (is_enough h.mode m) (holds_enough u m hs) (enough_any h.mode m e)
    by true false e is more = or_right (is_enough h.mode m) (holds_enough u m hs) (more is)
    by false c e is more = more is

pub enough_self : (m : Mode) → is_enough m m ≡ true
enough_self Shared = refl
enough_self Exclusive = refl

-- what holds of one of a list holds of one of a longer list, and of one of those that are left
module _ {A : Type 0} (p : A → Bool) where
  pub any_last : (xs : List A) (x : A) → p x ≡ true → list_any p (xs ++ x ∷ []) ≡ true
  any_last xs x is = list_any-append p xs (x ∷ []) ∙ or_right (list_any p xs) (p x || false) (or_left (p x) false is)

  pub any_longer : (xs : List A) (x : A) → list_any p xs ≡ true → list_any p (xs ++ x ∷ []) ≡ true
  any_longer xs x is = list_any-append p xs (x ∷ []) ∙ or_left (list_any p xs) (p x || false) is

  pub any_left : (x : A) (xs left : List A) (gone : Bool) → (gone ≡ true → p x ≡ false)
      → (list_any p xs ≡ true → list_any p left ≡ true)
      → (p x || list_any p xs) ≡ true → list_any p (unless_gone gone x left) ≡ true
  any_left x xs left gone apart more is = by gone apart (or_cases (p x) (list_any p xs) is)
    where
      by : (gone : Bool) → (gone ≡ true → p x ≡ false) → (p x ≡ true) ⊎ (list_any p xs ≡ true)
          → list_any p (unless_gone gone x left) ≡ true
      by true apart (inl one) = absurd (let both : true ≡ false = sym one ∙ apart refl in cc)
      by true apart (inr rest) = more rest
      by false apart (inl one) = or_left (p x) (list_any p left) one
      by false apart (inr rest) = or_right (p x) (list_any p left) (more rest)

-- a claim of one transaction is none of another
pub apart_claim : (tx u one : TxId) (b : Bool) → same_tx tx u ≡ false → same_tx one tx ≡ true
    → (same_tx one u && b) ≡ false
apart_claim tx u one b apart e = ap (λ c. c && b) (ap (λ t. same_tx t u) (same_tx-is one tx e) ∙ apart)

abbrev is_holding : TxId → Mode → Holder → Bool
is_holding u m h = same_tx h.tx u && is_enough h.mode m

any_holds : (u : TxId) (m : Mode) (hs : List Holder) → holds_enough u m hs ≡ list_any (is_holding u m) hs
any_holds u m [] = refl
any_holds u m (h ∷ hs) = ap (λ b. is_holding u m h || b) (any_holds u m hs)

-- a holder among others stays one
pub enough_others : (tx u : TxId) (m : Mode) (hs : List Holder) → same_tx tx u ≡ false → holds_enough u m hs ≡ true
    → holds_enough u m (others tx hs) ≡ true
enough_others tx u m hs apart is = any_holds u m (others tx hs) ∙ left hs (sym (any_holds u m hs) ∙ is)
  where
    left : (hs : List Holder) → list_any (is_holding u m) hs ≡ true → list_any (is_holding u m) (others tx hs) ≡ true
    left [] is = is
    left (h ∷ hs) is =
        any_left (is_holding u m) h hs (others tx hs) (same_tx h.tx tx)
        (apart_claim tx u h.tx (is_enough h.mode m) apart) (left hs) is

-- who comes to hold the lock in a mode takes it from nobody else
enough_hold : (tx u : TxId) (mode m : Mode) (hs : List Holder) → same_tx tx u ≡ false → holds_enough u m hs ≡ true
    → holds_enough u m (hold tx mode hs) ≡ true
enough_hold tx u mode m hs apart is =
    any_holds u m (hold tx mode hs)
    ∙ any_longer (is_holding u m) (others tx hs) (holder_of tx mode) (sym (any_holds u m (others tx hs))
    ∙ enough_others tx u m hs apart is)

pub enough_own : (tx : TxId) (mode m : Mode) (hs : List Holder) → is_enough mode m ≡ true
    → holds_enough tx m (hold tx mode hs) ≡ true
enough_own tx mode m hs is =
    any_holds tx m (hold tx mode hs)
    ∙ any_last (is_holding tx m) (others tx hs) (holder_of tx mode)
    (and_from (same_tx tx tx) (is_enough mode m) (same_tx-self tx) is)

shared_any : (mode : Mode) → is_enough mode Shared ≡ true
shared_any Shared = refl
shared_any Exclusive = refl

-- a transaction that doesn't hold enough and comes to hold this mode, agreeing with the others, takes it from nobody
pub hold_keeps : (tx : TxId) (mode : Mode) (hs : List Holder) → agrees_with tx mode hs ≡ true
    → holds_enough tx mode hs ≡ false → (u : TxId) (m : Mode) → holds_enough u m hs ≡ true
    → holds_enough u m (hold tx mode hs) ≡ true
hold_keeps tx mode hs agrees less u m is = by (same_tx tx u) refl m is
  where
    own : u ≡ tx → (m : Mode) → holds_enough u m hs ≡ true → holds_enough u m (hold tx mode hs) ≡ true
    own at Shared is = subst (λ t. holds_enough t Shared (hold tx mode hs) ≡ true) (sym at)
        (enough_own tx mode Shared hs (shared_any mode))
    own at Exclusive is =
        let enough : holds_enough tx mode hs ≡ true = exclusive_enough tx mode hs
        (ap (λ t. holds_enough t Exclusive hs) (sym at) ∙ is) in
        absurd (let both : true ≡ false = sym enough ∙ less in cc)

    by : (b : Bool) → same_tx tx u ≡ b → (m : Mode) → holds_enough u m hs ≡ true
        → holds_enough u m (hold tx mode hs) ≡ true
    by true e m is = own (sym (same_tx-is tx u e)) m is
    by false e m is = enough_hold tx u mode m hs e is

-- serving the queue takes the lock from nobody
pub served_keeps : (n : ℕ) (hs : List Holder) (ws : List Wait) → none_has_enough hs ws ≡ true
    → are_waiting_once ws ≡ true → (u : TxId) (m : Mode) → holds_enough u m hs ≡ true
    → holds_enough u m (served n hs ws).lock.holders ≡ true
served_keeps n hs [] need once u m is = is
served_keeps n hs (w ∷ ws) need once u m is =
    let parts = and_parts (not (holds_enough w.tx w.mode hs)) (none_has_enough hs ws) need in
    let first = and_parts (not (waits w.tx ws)) (are_waiting_once ws) once in
    by (may_hold w hs) refl (not-true _ parts.0)
    (served_keeps (n + 1) (hold w.tx w.mode hs) ws
    (need-hold w.tx w.mode hs ws (not-true _ first.0) ∙ parts.1) first.1 u m)
  where
    by : (b : Bool) → may_hold w hs ≡ b → holds_enough w.tx w.mode hs ≡ false
        → (holds_enough u m (hold w.tx w.mode hs) ≡ true
        → holds_enough u m (served (n + 1) (hold w.tx w.mode hs) ws).lock.holders ≡ true)
        → holds_enough u m (served_if b (served (n + 1) (hold w.tx w.mode hs) ws)
        (record { lock = record { holders = hs; queue = w ∷ ws }; granted = n })).lock.holders ≡ true
    by true e less more =
        more (hold_keeps w.tx w.mode hs (and_parts (is_open w) (agrees_with w.tx w.mode hs) e).1 less u m is)
    by false e less more = is

-- in both modes that makes up holding on
hold_on : (gone : TxId → Bool) (before after : RowLock) → IsOrderly after
    → ((u : TxId) (m : Mode) → gone u ≡ false → holds_enough u m before.holders ≡ true
    → holds_enough u m after.holders ≡ true)
    → HoldOn gone before.holders after.holders
hold_on gone before after orderly keeps = record {
  agreed = orderly.agreed;
  held = λ v here is. sym (enough_shared v after.holders) ∙ keeps v Shared here (enough_shared v before.holders ∙ is);
  exclusive = λ v here is. keeps v Exclusive here is;
}

pub asked_keeps : (lock : RowLock) (tx : TxId) (mode : Mode) (u : TxId) (m : Mode)
    → holds_enough u m lock.holders ≡ true → holds_enough u m (asked lock tx mode).lock.holders ≡ true
asked_keeps lock tx mode u m is = by (holds_enough tx mode lock.holders) (waits tx lock.queue) refl
  where
    again : (held agrees quiet : Bool) → agrees_with tx mode lock.holders ≡ agrees
        → holds_enough tx mode lock.holders ≡ false
        → holds_enough u m (asked_anew held agrees quiet lock tx mode).lock.holders ≡ true
    again true true quiet e less = hold_keeps tx mode lock.holders e less u m is
    again true false quiet e less = is
    again false true true e less = hold_keeps tx mode lock.holders e less u m is
    again false true false e less = is
    again false false quiet e less = is

    by : (enough waiting : Bool) → holds_enough tx mode lock.holders ≡ enough
        → holds_enough u m (asked_by enough waiting lock tx mode).lock.holders ≡ true
    by true waiting e = is
    by false true e = is
    by false false e = again (holds tx lock.holders) (agrees_with tx mode lock.holders) (is_quiet lock.queue) refl e

pub requests_hold_on : RequestsHoldOn
requests_hold_on lock tx mode orderly =
    hold_on (λ v. false) lock (asked lock tx mode).lock (asked_orderly lock tx mode orderly)
    (λ u m here is. asked_keeps lock tx mode u m is)

pub releases_hold_on : ReleasesHoldOn
releases_hold_on lock tx orderly =
    let queue : List Wait = without tx lock.queue in
    let need : none_has_enough (others tx lock.holders) queue ≡ true = need-others tx lock.holders queue
    (gone-without tx lock.queue) ∙ need-without lock.holders tx lock.queue orderly.in_need in
    hold_on (same_tx tx) lock (released lock tx).lock (released_orderly lock tx orderly)
    (λ u m here is. served_keeps 0 (others tx lock.holders) queue need
    (waiting-without tx lock.queue orderly.waiting_once) u m (enough_others tx u m lock.holders here is))

pub expiries_hold_on : ExpiriesHoldOn
expiries_hold_on lock tx orderly =
    hold_on (λ v. false) lock (unwaited lock tx).lock (unwaited_orderly lock tx orderly)
    (λ u m here is. served_keeps 0 lock.holders (without tx lock.queue)
    (need-without lock.holders tx lock.queue orderly.in_need)
    (waiting-without tx lock.queue orderly.waiting_once) u m is)

pub grants_hold : GrantsHold
grants_hold lock tx mode orderly = by (holds_enough tx mode lock.holders) (waits tx lock.queue) refl
  where
    again : (held agrees quiet : Bool) → (asked_anew held agrees quiet lock tx mode).answer ≡ Granted
        → holds_enough tx mode (asked_anew held agrees quiet lock tx mode).lock.holders ≡ true
    again true true quiet is = enough_own tx mode mode lock.holders (enough_self mode)
    again true false quiet is = absurd cc
    again false true true is = enough_own tx mode mode lock.holders (enough_self mode)
    again false true false is = absurd cc
    again false false quiet is = absurd cc

    by : (enough waiting : Bool) → holds_enough tx mode lock.holders ≡ enough
        → (asked_by enough waiting lock tx mode).answer ≡ Granted
        → holds_enough tx mode (asked_by enough waiting lock tx mode).lock.holders ≡ true
    by true waiting e is = e
    by false true e is = absurd cc
    by false false e is = again (holds tx lock.holders) (agrees_with tx mode lock.holders) (is_quiet lock.queue) is
