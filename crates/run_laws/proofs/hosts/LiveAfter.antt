-- One transaction among those of a coordinator, where one of them changes, is forgotten or begins.
use Rattle.std.proofs.Common.{◌≡◌, ℕ, ◌≤◌, List, [], ◌∷◌, ◌++◌, Bool, true, false, refl, sym, ap, ◌∙◌, arith}
use Rattle.std.specs.Prelude.{if◌then◌else◌, None, Some}
use Rattle.run_theory.specs.Lists.{Each}
use Rattle.run_theory.proofs.Pasts.{each_map}
use Rattle.sig_core.specs.declared.member.TxId.{TxId}
use Rattle.sig_core.specs.Same.{same_tx}
use Rattle.tc_block.specs.declared.transaction.Transaction.{Transaction}
use Rattle.run_theory.specs.Counts.{tally}
use Rattle.run_theory.proofs.Tally.{tally_none}
use Rattle.host_laws.proofs.coordinator.Lives.{IsOwn, is_keyed}
use Rattle.host_laws.proofs.coordinator.Moves.{same_tx-is}
use Rattle.host_laws.specs.Live.{of_live}

abbrev Live : Type 0
Live = List (TxId × Transaction)

module _ (tx : TxId) where
  -- another one behind it
  pub live_end : (v : TxId) (t : Transaction) (live : Live) → same_tx v tx ≡ false
      → of_live tx (live ++ (v, t) ∷ []) ≡ of_live tx live
  live_end v t [] off = ap (λ b. if b then Some t else None) off
  live_end v t (e ∷ live) off = ap (λ w. if same_tx e.0 tx then Some e.1 else w) (live_end v t live off)

  -- where each that stands there has to be another one
  absent : (node next : ℕ) (live : Live) → Each (λ (e : TxId × Transaction). IsOwn node next e.0) live
      → ((v : TxId) → IsOwn node next v → v ≡ tx → ⊥) → tally (is_keyed tx) live ≡ 0
  absent node next live own other =
      tally_none (is_keyed tx) live
      (each_map (λ (e : TxId × Transaction). IsOwn node next e.0)
      (λ (e : TxId × Transaction). same_tx e.0 tx ≡ false) live
      (λ e is. by e.0 is (same_tx e.0 tx) refl) own)
    where
      by : (v : TxId) → IsOwn node next v → (b : Bool) → same_tx v tx ≡ b → same_tx v tx ≡ false
      by v is true same = absurd (other v is (same_tx-is v tx same))
      by v is false off = off

  -- its number isn't given yet
  pub unborn_none : (node next : ℕ) (live : Live) → Each (λ (e : TxId × Transaction). IsOwn node next e.0) live
      → next ≤ tx.seq → tally (is_keyed tx) live ≡ 0
  unborn_none node next live own unborn =
      absent node next live own (λ v is same. omega (arith, is.early, unborn, ap (λ (v : TxId). v.seq) same))

  -- or its coordinator is another one
  pub strange_none : (node next : ℕ) (live : Live) → Each (λ (e : TxId × Transaction). IsOwn node next e.0) live
      → (tx.tc ≡ node → ⊥) → tally (is_keyed tx) live ≡ 0
  strange_none node next live own strange =
      absent node next live own (λ v is same. strange (sym (ap (λ (v : TxId). v.tc) same) ∙ is.home))
