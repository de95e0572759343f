-- Transactions and keys, compared.
use Rattle.std.specs.Prelude.{ℕ, ◌&&◌, Bool, nat_eq, List}
use Rattle.std.specs.Cmp.Lexicographic.{pointwise}
use Rattle.sig_core.specs.declared.member.TxId.{TxId}

-- the two are one transaction
abbrev pub same_tx : TxId → TxId → Bool
same_tx one other = nat_eq one.tc other.tc && (nat_eq one.start other.start && nat_eq one.seq other.seq)

-- the two are one key
abbrev pub same_key : List ℕ → List ℕ → Bool
same_key one other = pointwise nat_eq one other
