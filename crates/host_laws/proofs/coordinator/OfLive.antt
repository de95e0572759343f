-- One transaction of those that a coordinator hasn't forgotten, where the list of them changes.
use Rattle.std.proofs.Common.{◌≡◌, Bool, true, false, [], ◌∷◌, ◌++◌, refl, ap, sym, ◌∙◌, subst, arith}
use Rattle.std.specs.Prelude.{if◌then◌else◌, Some}
use Rattle.run_theory.specs.Lists.{Each}
use Rattle.sig_core.specs.declared.member.TxId.{TxId}
use Rattle.sig_core.specs.Same.{same_tx}
use Rattle.sig_core.proofs.TxLemmas.{same_tx-is}
use Rattle.tc_block.specs.declared.transaction.Transaction.{Transaction}
use Rattle.sig_core.proofs.Keys.{same_tx-self}
use Rattle.tc_block.proofs.LiveSplit.{AreOthers, Live}
use Rattle.host_laws.specs.Live.{of_live}
use Rattle.run_theory.specs.Counts.{one_if, tally}
use Rattle.host_laws.proofs.coordinator.Lives.{is_keyed}

-- one between others
pub of_between : (front back : Live) (tx : TxId) (t : Transaction) → AreOthers tx front
    → of_live tx (front ++ (tx, t) ∷ back) ≡ Some t
of_between [] back tx t apart = ap (λ b. if b then Some t else of_live tx back) (same_tx-self tx)
of_between (e ∷ front) back tx t apart = ap (λ b. if b then Some e.1 else of_live tx (front ++ (tx, t) ∷ back)) apart.0
    ∙ of_between front back tx t apart.1

-- those of which none is counted are others
uncounted_others : (tx : TxId) (live : Live) → tally (is_keyed tx) live ≡ 0 → AreOthers tx live
uncounted_others tx [] none = tt
uncounted_others tx (e ∷ live) none = by (same_tx e.0 tx) refl (uncounted_others tx live)
  where
    by : (b : Bool) → same_tx e.0 tx ≡ b → (tally (is_keyed tx) live ≡ 0 → AreOthers tx live) → AreOthers tx (e ∷ live)
    by true own rest = absurd (omega (arith, none, ap one_if own))
    by false off rest = (off, rest (omega (arith, none)))

-- where no two are of one number
pub of_here : (tx one : TxId) (t : Transaction) (front back : Live) → tally (is_keyed tx) front ≡ 0
    → same_tx one tx ≡ true → of_live tx (front ++ (one, t) ∷ back) ≡ Some t
of_here tx one t front back none same =
    subst (λ k. of_live tx (front ++ (k, t) ∷ back) ≡ Some t) (sym (same_tx-is one tx same))
    (of_between front back tx t (uncounted_others tx front none))

-- another one between them doesn't matter
pub of_other : (front back : Live) (tx v : TxId) (t : Transaction) → same_tx tx v ≡ false
    → of_live v (front ++ (tx, t) ∷ back) ≡ of_live v (front ++ back)
of_other [] back tx v t apart = ap (λ b. if b then Some t else of_live v back) apart
of_other (e ∷ front) back tx v t apart =
    ap (λ o. if same_tx e.0 v then Some e.1 else o) (of_other front back tx v t apart)

-- what holds of each holds of the one that is found
pub each_found : (P : TxId × Transaction → Type 0) (live : Live) (tx : TxId) (t : Transaction) → Each P live
    → of_live tx live ≡ Some t → P (tx, t)
each_found P [] tx t all is = absurd cc
each_found P (e ∷ live) tx t all is = by (same_tx e.0 tx) refl is (each_found P live tx t all.1)
  where
    by : (b : Bool) → same_tx e.0 tx ≡ b → (if b then Some e.1 else of_live tx live) ≡ Some t
        → (of_live tx live ≡ Some t → P (tx, t)) → P (tx, t)
    by true own is rest =
        let value : e.1 ≡ t = cc in
        subst (λ v. P (tx, v)) value (subst (λ v. P (v, e.1)) (same_tx-is e.0 tx own) all.0)
    by false off is rest = rest is
