-- No wait stands more than eight rounds: each call keeps that.
use Rattle.std.proofs.Common.{◌≡◌, ℕ, Bool, true, false, not, ◌&&◌, nat_lt, List, [], ◌∷◌, ◌++◌, refl, arith}
use Rattle.std.proofs.lemmas.Bool.{and_parts, and_from}
use Rattle.std.proofs.lemmas.Bool.Decides.{nat_tests}
use Rattle.sig_core.specs.declared.member.TxId.{TxId}
use Rattle.row_locks.specs.declared.mode.Mode.{Mode}
use Rattle.row_locks.specs.declared.claim.Wait.{Wait}
use Rattle.sig_core.specs.Same.{same_tx}
use Rattle.row_locks.specs.Holders.{unless_gone}
use Rattle.row_locks.specs.Queues.{without, raised, raised_if, aged_all, ages, one_round}
use Rattle.row_locks.specs.Orderly.{are_within_rounds}

within_at : (w : Wait) (rest : List Wait) (b : Bool) → not (nat_lt 8 w.rounds) ≡ true → are_within_rounds rest ≡ true
    → are_within_rounds (unless_gone b w rest) ≡ true
within_at w rest true n r = r
within_at w rest false n r = and_from _ _ n r

pub within-without : (tx : TxId) (ws : List Wait) → are_within_rounds ws ≡ true
    → are_within_rounds (without tx ws) ≡ true
within-without tx [] n = refl
within-without tx (w ∷ ws) n =
    let parts = and_parts (not (nat_lt 8 w.rounds)) (are_within_rounds ws) n in
    within_at w (without tx ws) (same_tx w.tx tx) parts.0 (within-without tx ws parts.1)

-- a round is added where there are fewer than eight
round_within : (both first : Bool) (rounds : ℕ) → both ≡ (first && nat_lt rounds 8) → not (nat_lt 8 rounds) ≡ true
    → not (nat_lt 8 (one_round both rounds)) ≡ true
round_within false first rounds e n = n
round_within true true rounds e n = grind (arith, nat_tests)
round_within true false rounds e n = cc

pub within-aged : (ws : List Wait) → are_within_rounds ws ≡ true → are_within_rounds (aged_all ws) ≡ true
within-aged [] n = refl
within-aged (w ∷ ws) n =
    let parts = and_parts (not (nat_lt 8 w.rounds)) (are_within_rounds ws) n in
    and_from _ _ (round_within (ages w) (nat_lt 0 w.tx.tc) w.rounds refl parts.0) (within-aged ws parts.1)

raised_rounds : (b : Bool) (m : Mode) (w : Wait) → (raised_if b m w).rounds ≡ w.rounds
raised_rounds true m w = refl
raised_rounds false m w = refl

pub within-raised : (tx : TxId) (m : Mode) (ws : List Wait) → are_within_rounds (raised tx m ws) ≡ are_within_rounds ws
within-raised tx m [] = refl
within-raised tx m (w ∷ ws) = λ i. not (nat_lt 8 (raised_rounds (same_tx w.tx tx) m w i)) && within-raised tx m ws i

pub within-end : (ws : List Wait) (w : Wait) → not (nat_lt 8 w.rounds) ≡ true → are_within_rounds ws ≡ true
    → are_within_rounds (ws ++ w ∷ []) ≡ true
within-end [] w e n = and_from _ _ e refl
within-end (x ∷ ws) w e n =
    let parts = and_parts (not (nat_lt 8 x.rounds)) (are_within_rounds ws) n in
    and_from _ _ parts.0 (within-end ws w e parts.1)
