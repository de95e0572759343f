-- Who holds a lock together: one exclusive, or all shared.
use Rattle.std.proofs.Common.{◌≡◌, ◌⊎◌, Bool, true, false, ◌&&◌, ◌||◌, List, [], ◌∷◌, refl, sym, ◌∙◌, inl, inr}
use Rattle.std.proofs.lemmas.Bool.{and_parts, or_cases}
use Rattle.sig_core.specs.declared.member.TxId.{TxId}
use Rattle.sig_core.specs.Same.{same_tx}
use Rattle.row_locks.specs.declared.claim.Holder.{Holder}
use Rattle.row_locks.specs.declared.mode.Mode.{Mode}
use Rattle.row_locks.specs.declared.mode.Mode.TheVariants.{Shared, Exclusive}
use Rattle.row_locks.specs.Holders.{agrees_with, holds, holds_enough}
use Rattle.row_locks.specs.Modes.{agree, is_enough}
use Rattle.row_locks.specs.Orderly.{are_agreed}
use Rattle.sig_core.proofs.TxLemmas.{same_tx-is}

-- no mode agrees with the exclusive one
none_agrees : (b : Bool) (mode : Mode) → (b || agree mode Exclusive) ≡ true → b ≡ true
none_agrees true mode is = refl
none_agrees false Shared is = absurd cc
none_agrees false Exclusive is = absurd cc

none_agrees_too : (b : Bool) (held mode : Mode) → is_enough held Exclusive ≡ true → (b || agree held mode) ≡ true
    → b ≡ true
none_agrees_too true held mode e is = refl
none_agrees_too false Exclusive mode e is = absurd cc
none_agrees_too false Shared mode e is = absurd cc

-- who agrees with others while it holds the lock exclusive is alone
agrees_exclusive : (t : TxId) (mode : Mode) (hs : List Holder) → is_enough mode Exclusive ≡ true
    → agrees_with t mode hs ≡ true → (v : TxId) → holds v hs ≡ true → v ≡ t
agrees_exclusive t mode [] e all v is = absurd cc
agrees_exclusive t mode (h ∷ hs) e all v is =
    let parts = and_parts (same_tx h.tx t || agree h.mode mode) (agrees_with t mode hs) all in
    go mode e (or_cases (same_tx h.tx v) (holds v hs) is) parts.0 (agrees_exclusive t mode hs e parts.1 v)
  where
    go : (mode : Mode) → is_enough mode Exclusive ≡ true → (same_tx h.tx v ≡ true) ⊎ (holds v hs ≡ true)
        → (same_tx h.tx t || agree h.mode mode) ≡ true → (holds v hs ≡ true → v ≡ t) → v ≡ t
    go Exclusive e (inl one) first more =
        sym (same_tx-is h.tx v one) ∙ same_tx-is h.tx t (none_agrees (same_tx h.tx t) h.mode first)
    go Shared e (inl one) first more = absurd cc
    go mode e (inr rest) first more = more rest

-- and who agrees with one that holds it exclusive is that one
pub agrees_with_exclusive : (t : TxId) (mode : Mode) (hs : List Holder) → agrees_with t mode hs ≡ true → (u : TxId)
    → holds_enough u Exclusive hs ≡ true → u ≡ t
agrees_with_exclusive t mode [] all u is = absurd cc
agrees_with_exclusive t mode (h ∷ hs) all u is =
    let parts = and_parts (same_tx h.tx t || agree h.mode mode) (agrees_with t mode hs) all in
    go (or_cases (same_tx h.tx u && is_enough h.mode Exclusive) (holds_enough u Exclusive hs) is) parts.0
    (agrees_with_exclusive t mode hs parts.1 u)
  where
    go : ((same_tx h.tx u && is_enough h.mode Exclusive) ≡ true) ⊎ (holds_enough u Exclusive hs ≡ true)
        → (same_tx h.tx t || agree h.mode mode) ≡ true → (holds_enough u Exclusive hs ≡ true → u ≡ t) → u ≡ t
    go (inl one) first more =
        let own = and_parts (same_tx h.tx u) (is_enough h.mode Exclusive) one in
        sym (same_tx-is h.tx u own.0) ∙ same_tx-is h.tx t (none_agrees_too (same_tx h.tx t) h.mode mode own.1 first)
    go (inr rest) first more = more rest

-- an exclusive holder is the only one
pub only_holder : (hs : List Holder) → are_agreed hs ≡ true → (u v : TxId) → holds_enough u Exclusive hs ≡ true
    → holds v hs ≡ true → v ≡ u
only_holder [] all u v is held = absurd cc
only_holder (h ∷ hs) all u v is held =
    let parts = and_parts (agrees_with h.tx h.mode hs) (are_agreed hs) all in
    go (or_cases (same_tx h.tx u && is_enough h.mode Exclusive) (holds_enough u Exclusive hs) is)
    (or_cases (same_tx h.tx v) (holds v hs) held) parts.0 (only_holder hs parts.1 u v)
  where
    go : ((same_tx h.tx u && is_enough h.mode Exclusive) ≡ true) ⊎ (holds_enough u Exclusive hs ≡ true)
        → (same_tx h.tx v ≡ true) ⊎ (holds v hs ≡ true) → agrees_with h.tx h.mode hs ≡ true
        → (holds_enough u Exclusive hs ≡ true → holds v hs ≡ true → v ≡ u) → v ≡ u
    go (inl one) (inl other) agrees more =
        let own = and_parts (same_tx h.tx u) (is_enough h.mode Exclusive) one in
        sym (same_tx-is h.tx v other) ∙ same_tx-is h.tx u own.0
    go (inl one) (inr other) agrees more =
        let own = and_parts (same_tx h.tx u) (is_enough h.mode Exclusive) one in
        agrees_exclusive h.tx h.mode hs own.1 agrees v other ∙ same_tx-is h.tx u own.0
    go (inr one) (inl other) agrees more =
        sym (same_tx-is h.tx v other) ∙ sym (agrees_with_exclusive h.tx h.mode hs agrees u one)
    go (inr one) (inr other) agrees more = more one other

-- who holds the lock in a mode holds it
pub holds_so : (u : TxId) (mode : Mode) (hs : List Holder) → holds_enough u mode hs ≡ true → holds u hs ≡ true
holds_so u mode [] is = is
holds_so u mode (h ∷ hs) is = go (same_tx h.tx u) (is_enough h.mode mode) is (holds_so u mode hs)
  where
    go : (b c : Bool) → ((b && c) || holds_enough u mode hs) ≡ true
        → (holds_enough u mode hs ≡ true → holds u hs ≡ true) → (b || holds u hs) ≡ true
    go true c is more = refl
    go false c is more = more is
