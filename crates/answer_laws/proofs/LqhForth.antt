-- The rows of a node commit and complete nothing of a transaction but at such a signal of it.
use Rattle.std.proofs.Common.{◌≡◌, Bool, true, false, refl, sym, ap, ◌∙◌}
use Rattle.std.specs.Prelude.{not}
use Rattle.sig_core.specs.declared.member.TxId.{TxId}
use Rattle.sig_core.specs.declared.signal.Body.{Body}
use Rattle.sig_core.specs.declared.signal.Body.TheVariants.{Chain}
use Rattle.sig_core.specs.declared.signal.chain.ChainSignal.TheVariants.{Commit, Complete}
use Rattle.sig_core.specs.Same.{same_tx}
use Rattle.lqh_block.specs.Lqh.{lqh_table}
use Rattle.lqh_block.specs.State.{LqhState}
use Rattle.host_laws.proofs.rows.Other.{is_own_kind, lqh_passes}
use Rattle.host_laws.proofs.rows.Waits.{is_forth}
use Rattle.host_laws.proofs.hosts.SendKinds.{SendsOnly, of_each}

-- all but a commit or a completion of the transaction
abbrev pub is_back : TxId → Body → Bool
is_back one (Chain (Commit other key epoch chain at)) = not (same_tx other one)
is_back one (Chain (Complete other key chain at)) = not (same_tx other one)
is_back one _ = true

pub lqh_back : (one : TxId) (s : LqhState) (body : Body) → is_forth one body ≡ false
    → SendsOnly (is_back one) (lqh_table s body)
lqh_back one s body off =
    of_each (is_back one) (lqh_table s body).effects.sends
    (lqh_passes (λ b. is_back one b ≡ true) s body owns
    (λ tx key epoch chain at is. ap not (sym (ap (is_forth one) is) ∙ off))
    (λ tx key chain at is. ap not (sym (ap (is_forth one) is) ∙ off)))
  where
    owns : (b : Body) → is_own_kind b ≡ true → is_back one b ≡ true
    owns (Chain (Commit tx key epoch chain at)) e = absurd cc
    owns (Chain (Complete tx key chain at)) e = absurd cc
    owns _ e = refl
