-- The block of epochs gives the one that it is in, and looks at none besides.
use Rattle.std.proofs.Common.{◌≡◌, ℕ, Bool, true, false, refl, ap}
use Rattle.std.specs.Prelude.{Option, None, Some, length, nat_lt, position}
use Rattle.sig_core.specs.declared.member.TxId.{TxId}
use Rattle.sig_core.specs.declared.signal.Body.{Body}
use Rattle.sig_core.specs.declared.signal.Body.TheVariants.{Client, Chain, Epoch}
use Rattle.sig_core.specs.declared.signal.chain.ChainSignal.TheVariants.{Commit}
use Rattle.sig_core.specs.declared.signal.client.ClientSignal.TheVariants.{TcCommitConf}
use Rattle.sig_core.specs.declared.signal.epoch.EpochSignal.TheVariants.{DiVerifyReq, DiVerifyConf, DiVerifyEnd}
use Rattle.sig_core.specs.Same.{same_tx}
use Rattle.sig_core.specs.Step.{stay}
use Rattle.tc_block.specs.declared.tc.TheConstants.{TRANSACTIONS}
use Rattle.node_core.specs.Dih.{DihState, decide_if, decide_row, dih_table, end_by, end_row}
use Rattle.level_laws.specs.Laws.{EpochsAreLevel}
use Rattle.level_laws.specs.Levels.{body_at, dih_at, step_at}

decide_if_level : (epoch : ℕ) (s : DihState) (tx : TxId) (b : Bool)
    → decide_if (dih_at epoch s) tx b ≡ step_at (dih_at epoch) epoch (decide_if s tx b)
decide_if_level epoch s tx true = refl
decide_if_level epoch s tx false = refl

decide_level : (epoch : ℕ) (s : DihState) (tx : TxId)
    → decide_row (dih_at epoch s) tx ≡ step_at (dih_at epoch) epoch (decide_row s tx)
unfolding decide_row
decide_level epoch s tx = decide_if_level epoch s tx (nat_lt (length s.counted) TRANSACTIONS)

end_by_level : (epoch : ℕ) (s : DihState) (at : Option ℕ) → end_by (dih_at epoch s) at ≡ dih_at epoch (end_by s at)
end_by_level epoch s None = refl
end_by_level epoch s (Some at) = refl

end_level : (epoch : ℕ) (s : DihState) (tx : TxId) → end_row (dih_at epoch s) tx ≡ dih_at epoch (end_row s tx)
unfolding end_row
end_level epoch s tx = end_by_level epoch s (position (same_tx tx) s.counted)

-- at what a signal says
table_level : (epoch : ℕ) (s : DihState) (body : Body)
    → dih_table (dih_at epoch s) (body_at epoch body) ≡ step_at (dih_at epoch) epoch (dih_table s body)
table_level epoch s (Epoch (DiVerifyReq tx ops)) = decide_level epoch s tx
table_level epoch s (Epoch (DiVerifyEnd tx)) = ap (λ (state : DihState). stay state) (end_level epoch s tx)
table_level epoch s (Epoch (DiVerifyConf tx other)) = refl
table_level epoch s (Client (TcCommitConf tx other)) = refl
table_level epoch s (Chain (Commit tx key other chain at)) = refl
table_level epoch s _ = refl

pub epochs_level : EpochsAreLevel
epochs_level epoch s x = table_level epoch s x.body
