-- Which transaction is which.
use Rattle.std.proofs.Common.{◌≡◌, ℕ, Bool, true, false, ◌&&◌, nat_eq, ap, ◌∙◌}
use Rattle.std.proofs.lemmas.Bool.{and_parts, eqb-true}
use Rattle.std.specs.Cmp.{nat_eq_equiv}
use Rattle.sig_core.specs.declared.member.TxId.{TxId}
use Rattle.sig_core.specs.Same.{same_tx}

and_swap : (a b c x y z : Bool) → a ≡ x → b ≡ y → c ≡ z → (a && (b && c)) ≡ (x && (y && z))
and_swap a b c x y z p q r = λ i. p i && (q i && r i)

nat_eq-swap : (a b : ℕ) → nat_eq a b ≡ nat_eq b a
nat_eq-swap a b = nat_eq_equiv.symm a b

pub same_tx-swap : (a b : TxId) → same_tx a b ≡ same_tx b a
same_tx-swap a b = and_swap _ _ _ _ _ _ (nat_eq-swap a.tc b.tc) (nat_eq-swap a.start b.start) (nat_eq-swap a.seq b.seq)

pub same_tx-is : (a b : TxId) → same_tx a b ≡ true → a ≡ b
same_tx-is a b e =
    let parts = and_parts (nat_eq a.tc b.tc) (nat_eq a.start b.start && nat_eq a.seq b.seq) e in
    let more = and_parts (nat_eq a.start b.start) (nat_eq a.seq b.seq) parts.1 in
    λ i. record {
      tc = eqb-true a.tc b.tc parts.0 i;
      start = eqb-true a.start b.start more.0 i;
      seq = eqb-true a.seq b.seq more.1 i;
    }

pub apart_too : (x tx u : TxId) → same_tx x tx ≡ true → same_tx tx u ≡ false → same_tx x u ≡ false
apart_too x tx u e apart = ap (λ t. same_tx t u) (same_tx-is x tx e) ∙ apart
