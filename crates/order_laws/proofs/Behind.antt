-- Who stands behind whom among transactions that came one after the other, the newest first.
use Rattle.std.specs.Prelude.{◌&&◌, ◌||◌, Bool, false, List, [], ◌∷◌}
use Rattle.sig_core.specs.declared.member.TxId.{TxId}
use Rattle.sig_core.specs.Same.{same_tx}

-- the transaction is one of them
abbrev pub is_among : TxId → List TxId → Bool
is_among tx [] = false
is_among tx (one ∷ rest) = same_tx one tx || is_among tx rest

-- the later one came once more when the first was there
abbrev pub is_behind : (first later : TxId) → List TxId → Bool
is_behind first later [] = false
is_behind first later (one ∷ rest) = (same_tx one later && is_among first rest) || is_behind first later rest
