-- The holders of a lock, in the order in which they came to hold it as they do.
use Rattle.std.specs.Prelude.{Bool, true, false, ◌&&◌, ◌||◌, List, [], ◌∷◌, ◌++◌}
use Rattle.sig_core.specs.declared.member.TxId.{TxId}
use Rattle.row_locks.specs.declared.mode.Mode.{Mode}
use Rattle.row_locks.specs.declared.claim.Holder.{Holder}
use Rattle.sig_core.specs.Same.{same_tx}
use Rattle.row_locks.specs.Modes.{is_enough, agree}

-- the list with this item in front, unless it is to go
abbrev pub unless_gone : {A : Type 0} → Bool → A → List A → List A
unless_gone true item items = items
unless_gone false item items = item ∷ items

-- the holders but for the transaction
abbrev pub others : TxId → List Holder → List Holder
others tx [] = []
others tx (holder ∷ holders) = unless_gone (same_tx holder.tx tx) holder (others tx holders)

-- the mode agrees with that of every holder but the transaction
abbrev pub agrees_with : TxId → Mode → List Holder → Bool
agrees_with tx mode [] = true
agrees_with tx mode (holder ∷ holders) = (same_tx holder.tx tx || agree holder.mode mode) && agrees_with tx mode holders

-- the transaction holds the lock
abbrev pub holds : TxId → List Holder → Bool
holds tx [] = false
holds tx (holder ∷ holders) = same_tx holder.tx tx || holds tx holders

-- the transaction holds the lock in a mode that is enough
abbrev pub holds_enough : TxId → Mode → List Holder → Bool
holds_enough tx asked [] = false
holds_enough tx asked (holder ∷ holders) =
    (same_tx holder.tx tx && is_enough holder.mode asked) || holds_enough tx asked holders

-- one holder
abbrev pub holder_of : TxId → Mode → Holder
holder_of tx mode = record { tx = tx; mode = mode }

-- the transaction holds the lock in this mode and no other, as the last holder
abbrev pub hold : TxId → Mode → List Holder → List Holder
hold tx mode holders = others tx holders ++ holder_of tx mode ∷ []

-- the one or the other
abbrev pub tx_if : Bool → TxId → TxId → TxId
tx_if true one other = one
tx_if false one other = other

-- the first holder that isn't the transaction; where there is none, the transaction itself
abbrev pub first_other : TxId → List Holder → TxId
first_other tx [] = tx
first_other tx (holder ∷ holders) = tx_if (same_tx holder.tx tx) (first_other tx holders) holder.tx
