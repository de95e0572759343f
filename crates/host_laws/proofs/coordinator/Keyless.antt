-- But for its answer, no turn of a transaction sends the answer of an operation.
use Rattle.std.proofs.Common.{◌≡◌, ℕ, List, Bool, true, false, refl, ap, sym, ◌∙◌}
use Rattle.sig_core.specs.declared.member.TxId.{TxId}
use Rattle.sig_core.specs.declared.signal.Body.{Body}
use Rattle.sig_core.specs.declared.signal.Body.TheVariants.{Chain}
use Rattle.sig_core.specs.declared.signal.chain.ChainSignal.TheVariants.{LqhKeyConf}
use Rattle.frag_map.specs.Layout.{Layout, chain_of}
use Rattle.tc_block.specs.declared.transaction.Transaction.{Transaction}
use Rattle.tc_block.specs.Operate as operate
use Rattle.tc_block.specs.Sends.{abort_of}
use Rattle.tc_block.proofs.EachTurn.{TurnForms}
use Rattle.host_laws.proofs.hosts.SendKinds.{SendsOnly, is_keyless, of_map}
use Rattle.host_laws.proofs.coordinator.TurnKinds.{OwnKinds, TurnOnly, own_forms}

-- replicas have answered an operation
abbrev pub is_answered : Body → Bool
is_answered (Chain (LqhKeyConf tx key answer)) = true
is_answered _ = false

own : (tx : TxId) (body : Body) → is_answered body ≡ false → OwnKinds tx is_keyless body
own tx body other = record {
  chains = record {
    commits = λ key epoch chain at. refl;
    completes = λ key chain at. refl;
    aborts =
        λ key. refl;
    goes_on = λ at. refl;
  };
  operates = λ op chain. refl;
  answers = λ key answer is. absurd (let both : true ≡ false = sym (ap is_answered is) ∙ other in cc);
  waits = λ key. refl;
  verifies = λ ops. refl;
  verified = refl;
  committed = λ epoch. refl;
  rolled_back = λ why. refl;
}

-- what it does at any other signal
pub keyless_forms : (node : ℕ) (layout : Layout) (tx : TxId) (t : Transaction) (body : Body) → is_answered body ≡ false
    → TurnForms node layout tx t body (TurnOnly is_keyless)
keyless_forms node layout tx t body other = own_forms is_keyless tx body (own tx body other) node layout t

pub late_keyless : (layout : Layout) (tx : TxId) (t : Transaction) (key : List ℕ)
    → SendsOnly is_keyless (operate.late_answer layout tx t key)
late_keyless layout tx t key = of_map is_keyless (abort_of tx key) (chain_of layout key) (λ r. refl)
