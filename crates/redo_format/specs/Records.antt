-- What a redo record is.
use Rattle.std.specs.Prelude.{◌≡◌, ℕ, ◌≤◌, ◌<◌, ◌^◌, List, IfSome, Ok}
use Rattle.sig_core.specs.declared.key.TheConstants.{KEY_BYTES}
use Rattle.sig_core.specs.declared.value.TheConstants.{VALUE_BYTES}
use Rattle.sig_core.specs.declared.member.TxId.{TxId}
use Rattle.sig_core.specs.declared.redo.Redo.{Redo}
use Rattle.sig_core.specs.declared.redo.Redo.TheVariants.{Prepare, Commit, Abort}
use Rattle.sig_core.specs.Word.{if_word}

-- a transaction of a coordinator
pub record IsTransaction (tx : TxId) : Type 0 where
  pub least : 1 ≤ tx.tc
  pub most : tx.tc ≤ 8
  pub start : tx.start < 2 ^ 32
  pub seq : tx.seq < 2 ^ 64

-- 1 to 32 printable bytes without spaces
abbrev pub IsKey : List ℕ → Type 0
IsKey key = if_word 1 KEY_BYTES key key ≡ Ok key

-- at most 200 of them
abbrev pub IsValue : List ℕ → Type 0
IsValue value = if_word 0 VALUE_BYTES value value ≡ Ok value

-- a record that has bytes
abbrev pub IsRecord : Redo → Type 0
IsRecord (Prepare tx fragment key image) = IsTransaction tx × (fragment < 32) × IsKey key × IfSome image IsValue
IsRecord (Commit tx epoch key) = IsTransaction tx × (epoch < 2 ^ 64) × IsKey key
IsRecord (Abort tx key) = IsTransaction tx × IsKey key
