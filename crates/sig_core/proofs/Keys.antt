-- Keys and transactions, compared.
use Rattle.std.proofs.Common.{◌≡◌, ◌≢◌, ◌&&◌, ℕ, Bool, true, false, List, slice_index_or, refl, ap}
use Rattle.std.specs.Cmp.{nat_eq_equiv}
use Rattle.std.specs.Cmp.Lexicographic.{bytes_decides, nat_list_eq_equiv, slice_cmp}
use Rattle.std.specs.Ordering.{eq_by_cmp, nat_cmp}
use Rattle.std.proofs.lemmas.Map.Text.{is_eq-slice_cmp}
use Rattle.sig_core.specs.declared.member.TxId.{TxId}
use Rattle.sig_core.specs.Same.{same_key, same_tx}

-- a key is itself
pub same_key-self : (key : List ℕ) → same_key key key ≡ true
same_key-self key = nat_list_eq_equiv.refl key

pub same_key-swap : (a b : List ℕ) → same_key a b ≡ same_key b a
same_key-swap a b = nat_list_eq_equiv.symm a b

-- keys that differ at a place are two
pub same_key-other : (a b : List ℕ) (at : ℕ) → (slice_index_or a at 0 ≢ slice_index_or b at 0) → same_key a b ≡ false
same_key-other a b at other = by (same_key a b) refl
  where
    by : (same : Bool) → same_key a b ≡ same → same ≡ false
    by true same = absurd (other (ap (λ key. slice_index_or key at 0) ((bytes_decides a b).0 same)))
    by false same = refl

-- the order of keys tells them apart as the test does
pub tied-same_key : (a b : List ℕ) → eq_by_cmp (slice_cmp nat_cmp) a b ≡ same_key a b
tied-same_key a b = is_eq-slice_cmp a b

-- a transaction is itself
pub same_tx-self : (tx : TxId) → same_tx tx tx ≡ true
same_tx-self tx = λ i. nat_eq_equiv.refl tx.tc i && (nat_eq_equiv.refl tx.start i && nat_eq_equiv.refl tx.seq i)
