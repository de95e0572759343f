-- Who waits for a lock after a call on it.
use Rattle.std.proofs.Common.{◌≡◌, ◌⊎◌, ℕ, ◌+◌, Bool, true, false, not, ◌&&◌, ◌||◌, List, [], ◌∷◌, refl, sym, ap, ◌∙◌}
use Rattle.std.proofs.Common.{subst, inl, inr}
use Rattle.std.proofs.lemmas.Bool.{and_from, and_parts, not-true, or_cases, or_left, or_right}
use Rattle.sig_core.specs.declared.member.TxId.{TxId}
use Rattle.sig_core.specs.Same.{same_tx}
use Rattle.row_locks.specs.declared.claim.Holder.{Holder}
use Rattle.row_locks.specs.declared.claim.Wait.{Wait}
use Rattle.row_locks.specs.declared.mode.Mode.{Mode}
use Rattle.row_locks.specs.declared.mode.Mode.TheVariants.{Shared, Exclusive}
use Rattle.row_locks.specs.Holders.{agrees_with, hold, holds, holds_enough, others}
use Rattle.row_locks.specs.Modes.{is_enough, stronger}
use Rattle.row_locks.specs.Orderly.{are_waiting_once, none_has_enough}
use Rattle.row_locks.specs.Queues.{is_open, raised, raised_if, wait_of, waits, without, aged_all}
use Rattle.row_locks.specs.Rows.{asked, asked_anew, asked_by, is_quiet, may_hold, served, served_if}
use Rattle.row_locks.proofs.NeedLemmas.{need-hold, need-others, need-without}
use Rattle.row_locks.proofs.OrderlyLemmas.{gone-without, waiting-without}
use Rattle.sig_core.proofs.TxLemmas.{same_tx-is}
use Rattle.key_laws.specs.LockLaws.{AttendedHold, ExpiriesAttend, QueuedWait, ReleasesAttend, RequestsAttend}
use Rattle.key_laws.specs.LockLaws.{RoundsAttend, is_attended, waits_enough}
use Rattle.sig_core.proofs.Keys.{same_tx-self}
use Rattle.key_laws.proofs.LockHolding.{any_last, any_left, any_longer, apart_claim, asked_keeps, enough_others}
use Rattle.key_laws.proofs.LockHolding.{enough_own, enough_self, hold_keeps}

stronger_enough : (a b : Mode) → is_enough (stronger a b) b ≡ true
stronger_enough Exclusive b = refl
stronger_enough Shared b = enough_self b

stronger_keeps : (a b m : Mode) → is_enough a m ≡ true → is_enough (stronger a b) m ≡ true
stronger_keeps Exclusive b m is = is
stronger_keeps Shared Shared m is = is
stronger_keeps Shared Exclusive m is = refl

abbrev is_waiting : TxId → Mode → Wait → Bool
is_waiting u m w = same_tx w.tx u && is_enough w.mode m

waits_without : (tx u : TxId) (m : Mode) (ws : List Wait) → same_tx tx u ≡ false → waits_enough u m ws ≡ true
    → waits_enough u m (without tx ws) ≡ true
waits_without tx u m [] apart is = is
waits_without tx u m (w ∷ ws) apart is =
    any_left (is_waiting u m) w ws (without tx ws) (same_tx w.tx tx) (apart_claim tx u w.tx (is_enough w.mode m) apart)
    (waits_without tx u m ws apart) is

waits_raised : (tx u : TxId) (mode m : Mode) (ws : List Wait) → waits_enough u m ws ≡ true
    → waits_enough u m (raised tx mode ws) ≡ true
waits_raised tx u mode m [] is = is
waits_raised tx u mode m (w ∷ ws) is = by (same_tx w.tx tx) (or_cases (same_tx w.tx u && is_enough w.mode m)
    (waits_enough u m ws) is) (waits_raised tx u mode m ws)
  where
    own : (b : Bool) → (same_tx w.tx u && is_enough w.mode m) ≡ true
        → (same_tx (raised_if b mode w).tx u && is_enough (raised_if b mode w).mode m) ≡ true
    own true one = let parts = and_parts (same_tx w.tx u) (is_enough w.mode m) one in
        and_from (same_tx w.tx u) _ parts.0 (stronger_keeps w.mode mode m parts.1)
    own false one = one

    by : (b : Bool) → ((same_tx w.tx u && is_enough w.mode m) ≡ true) ⊎ (waits_enough u m ws ≡ true)
        → (waits_enough u m ws ≡ true → waits_enough u m (raised tx mode ws) ≡ true)
        → ((same_tx (raised_if b mode w).tx u && is_enough (raised_if b mode w).mode m) || waits_enough u m
        (raised tx mode ws)) ≡ true
    by b (inl one) more = or_left _ _ (own b one)
    by b (inr rest) more = or_right _ _ (more rest)

-- a raise waits for what it was raised to
raised_waits : (tx : TxId) (mode : Mode) (ws : List Wait) → waits tx ws ≡ true
    → waits_enough tx mode (raised tx mode ws) ≡ true
raised_waits tx mode [] is = absurd cc
raised_waits tx mode (w ∷ ws) is = by (same_tx w.tx tx) refl is (raised_waits tx mode ws)
  where
    by : (b : Bool) → same_tx w.tx tx ≡ b → (b || waits tx ws) ≡ true
        → (waits tx ws ≡ true → waits_enough tx mode (raised tx mode ws) ≡ true)
        → ((same_tx (raised_if b mode w).tx tx && is_enough (raised_if b mode w).mode mode) || waits_enough tx mode
        (raised tx mode ws)) ≡ true
    by true e is more = or_left _ _ (and_from (same_tx w.tx tx) _ e (stronger_enough w.mode mode))
    by false e is more = or_right _ _ (more is)

new_waits : (tx : TxId) (mode : Mode)
    → (same_tx (wait_of tx mode).tx tx && is_enough (wait_of tx mode).mode mode) ≡ true
new_waits tx mode = and_from (same_tx tx tx) (is_enough mode mode) (same_tx-self tx) (enough_self mode)

pub queued_wait : QueuedWait
queued_wait lock tx mode orderly = by (holds_enough tx mode lock.holders) (waits tx lock.queue) refl refl
  where
    again : (held agrees quiet : Bool) → is_attended (asked_anew held agrees quiet lock tx mode).lock tx mode ≡ true
    again true true quiet = or_left _ _ (enough_own tx mode mode lock.holders (enough_self mode))
    again true false quiet = or_right (holds_enough tx mode lock.holders) _ (or_left _ _ (new_waits tx mode))
    again false true true = or_left _ _ (enough_own tx mode mode lock.holders (enough_self mode))
    again false true false = or_right (holds_enough tx mode lock.holders) _
        (any_last (is_waiting tx mode) lock.queue (wait_of tx mode) (new_waits tx mode))
    again false false quiet = or_right (holds_enough tx mode lock.holders) _
        (any_last (is_waiting tx mode) lock.queue (wait_of tx mode) (new_waits tx mode))

    by : (enough waiting : Bool) → holds_enough tx mode lock.holders ≡ enough → waits tx lock.queue ≡ waiting
        → is_attended (asked_by enough waiting lock tx mode).lock tx mode ≡ true
    by true waiting e w = or_left _ _ e
    by false true e w = or_right (holds_enough tx mode lock.holders) _ (raised_waits tx mode lock.queue w)
    by false false e w = again (holds tx lock.holders) (agrees_with tx mode lock.holders) (is_quiet lock.queue)

pub requests_attend : RequestsAttend
requests_attend lock tx mode v other orderly is =
    by (or_cases (holds_enough v other lock.holders) (waits_enough v other lock.queue) is)
  where
    again : (held agrees quiet : Bool) → waits_enough v other lock.queue ≡ true
        → waits_enough v other (asked_anew held agrees quiet lock tx mode).lock.queue ≡ true
    again true true quiet w = w
    again true false quiet w = or_right _ _ w
    again false true true w = w
    again false true false w = any_longer (is_waiting v other) lock.queue (wait_of tx mode) w
    again false false quiet w = any_longer (is_waiting v other) lock.queue (wait_of tx mode) w

    stays : (enough waiting : Bool) → waits_enough v other lock.queue ≡ true
        → waits_enough v other (asked_by enough waiting lock tx mode).lock.queue ≡ true
    stays true waiting w = w
    stays false true w = waits_raised tx v mode other lock.queue w
    stays false false w = again (holds tx lock.holders) (agrees_with tx mode lock.holders) (is_quiet lock.queue) w

    by : (holds_enough v other lock.holders ≡ true) ⊎ (waits_enough v other lock.queue ≡ true)
        → is_attended (asked lock tx mode).lock v other ≡ true
    by (inl held) = or_left _ _ (asked_keeps lock tx mode v other held)
    by (inr waiting) = or_right (holds_enough v other (asked lock tx mode).lock.holders) _
        (stays (holds_enough tx mode lock.holders) (waits tx lock.queue) waiting)

-- serving the queue leaves nobody unattended
served_attend : (n : ℕ) (hs : List Holder) (ws : List Wait) → none_has_enough hs ws ≡ true
    → are_waiting_once ws ≡ true → (u : TxId) (m : Mode)
    → (holds_enough u m hs ≡ true) ⊎ (waits_enough u m ws ≡ true) → is_attended (served n hs ws).lock u m ≡ true
served_attend n hs [] need once u m (inl held) = or_left _ _ held
served_attend n hs [] need once u m (inr waiting) = absurd cc
served_attend n hs (w ∷ ws) need once u m is =
    let parts = and_parts (not (holds_enough w.tx w.mode hs)) (none_has_enough hs ws) need in
    let first = and_parts (not (waits w.tx ws)) (are_waiting_once ws) once in
    by (may_hold w hs) refl (not-true _ parts.0) is
    (served_attend (n + 1) (hold w.tx w.mode hs) ws
    (need-hold w.tx w.mode hs ws (not-true _ first.0) ∙ parts.1) first.1 u m)
  where
    onward : (holds_enough w.tx w.mode hs ≡ false) → agrees_with w.tx w.mode hs ≡ true → (holds_enough u m hs ≡ true)
        ⊎ (waits_enough u m (w ∷ ws) ≡ true)
        → (holds_enough u m (hold w.tx w.mode hs) ≡ true) ⊎ (waits_enough u m ws ≡ true)
    onward less e (inl held) = inl (hold_keeps w.tx w.mode hs e less u m held)
    onward less e (inr waiting) = at (or_cases (same_tx w.tx u && is_enough w.mode m) (waits_enough u m ws) waiting)
      where
        at : ((same_tx w.tx u && is_enough w.mode m) ≡ true) ⊎ (waits_enough u m ws ≡ true)
            → (holds_enough u m (hold w.tx w.mode hs) ≡ true) ⊎ (waits_enough u m ws ≡ true)
        at (inl one) =
            let own = and_parts (same_tx w.tx u) (is_enough w.mode m) one in
            inl (subst (λ t. holds_enough t m (hold w.tx w.mode hs) ≡ true) (same_tx-is w.tx u own.0)
            (enough_own w.tx w.mode m hs own.1))
        at (inr rest) = inr rest

    whole : (holds_enough u m hs ≡ true) ⊎ (waits_enough u m (w ∷ ws) ≡ true)
        → (holds_enough u m hs || waits_enough u m (w ∷ ws)) ≡ true
    whole (inl held) = or_left _ _ held
    whole (inr waiting) = or_right (holds_enough u m hs) _ waiting

    by : (b : Bool) → may_hold w hs ≡ b → holds_enough w.tx w.mode hs ≡ false
        → (holds_enough u m hs ≡ true) ⊎ (waits_enough u m (w ∷ ws) ≡ true)
        → ((holds_enough u m (hold w.tx w.mode hs) ≡ true) ⊎ (waits_enough u m ws ≡ true)
        → is_attended (served (n + 1) (hold w.tx w.mode hs) ws).lock u m ≡ true)
        → is_attended (served_if b (served (n + 1) (hold w.tx w.mode hs) ws)
        (record { lock = record { holders = hs; queue = w ∷ ws }; granted = n })).lock u m ≡ true
    by true e less is more = more (onward less (and_parts (is_open w) (agrees_with w.tx w.mode hs) e).1 is)
    by false e less is more = whole is

pub releases_attend : ReleasesAttend
releases_attend lock tx v mode orderly apart is =
    let queue : List Wait = without tx lock.queue in
    let need : none_has_enough (others tx lock.holders) queue ≡ true = need-others tx lock.holders queue
    (gone-without tx lock.queue) ∙ need-without lock.holders tx lock.queue orderly.in_need in
    served_attend 0 (others tx lock.holders) queue need (waiting-without tx lock.queue orderly.waiting_once) v mode
    (by (or_cases (holds_enough v mode lock.holders) (waits_enough v mode lock.queue) is))
  where
    by : (holds_enough v mode lock.holders ≡ true) ⊎ (waits_enough v mode lock.queue ≡ true)
        → (holds_enough v mode (others tx lock.holders) ≡ true) ⊎ (waits_enough v mode (without tx lock.queue) ≡ true)
    by (inl held) = inl (enough_others tx v mode lock.holders apart held)
    by (inr waiting) = inr (waits_without tx v mode lock.queue apart waiting)

pub expiries_attend : ExpiriesAttend
expiries_attend lock tx v mode orderly apart is =
    served_attend 0 lock.holders (without tx lock.queue) (need-without lock.holders tx lock.queue orderly.in_need)
    (waiting-without tx lock.queue orderly.waiting_once) v mode
    (by (or_cases (holds_enough v mode lock.holders) (waits_enough v mode lock.queue) is))
  where
    by : (holds_enough v mode lock.holders ≡ true) ⊎ (waits_enough v mode lock.queue ≡ true)
        → (holds_enough v mode lock.holders ≡ true) ⊎ (waits_enough v mode (without tx lock.queue) ≡ true)
    by (inl held) = inl held
    by (inr waiting) = inr (waits_without tx v mode lock.queue apart waiting)

aged_waits : (u : TxId) (m : Mode) (ws : List Wait) → waits_enough u m (aged_all ws) ≡ waits_enough u m ws
aged_waits u m [] = refl
aged_waits u m (w ∷ ws) = ap (λ b. (same_tx w.tx u && is_enough w.mode m) || b) (aged_waits u m ws)

pub rounds_attend : RoundsAttend
rounds_attend lock v mode is = ap (λ b. holds_enough v mode lock.holders || b) (aged_waits v mode lock.queue) ∙ is

waits_so : (u : TxId) (m : Mode) (ws : List Wait) → waits_enough u m ws ≡ true → waits u ws ≡ true
waits_so u m [] is = is
waits_so u m (w ∷ ws) is = by (same_tx w.tx u) (is_enough w.mode m) is (waits_so u m ws)
  where
    by : (b c : Bool) → ((b && c) || waits_enough u m ws) ≡ true → (waits_enough u m ws ≡ true → waits u ws ≡ true)
        → (b || waits u ws) ≡ true
    by true c is more = refl
    by false c is more = more is

pub attended_hold : AttendedHold
attended_hold lock v mode is idle = by (or_cases (holds_enough v mode lock.holders) (waits_enough v mode lock.queue) is)
  where
    by : (holds_enough v mode lock.holders ≡ true) ⊎ (waits_enough v mode lock.queue ≡ true)
        → holds_enough v mode lock.holders ≡ true
    by (inl held) = held
    by (inr waiting) = absurd (let both : true ≡ false = sym (waits_so v mode lock.queue waiting) ∙ idle in cc)
