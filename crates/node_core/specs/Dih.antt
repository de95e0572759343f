-- Epochs, signal by signal.
use Rattle.std.specs.Prelude.{ℕ, Bool, true, false, nat_lt, List, [], ◌∷◌, ◌++◌, length, position, remove, Option, None}
use Rattle.std.specs.Prelude.{Some}
use Rattle.sig_core.specs.declared.mark.Mark.TheVariants.{Decided}
use Rattle.sig_core.specs.declared.member.TxId.{TxId}
use Rattle.sig_core.specs.declared.signal.Body.{Body}
use Rattle.sig_core.specs.declared.signal.Body.TheVariants.{Epoch}
use Rattle.sig_core.specs.declared.signal.Signal.{Signal}
use Rattle.sig_core.specs.declared.signal.epoch.EpochSignal.TheVariants.{DiVerifyReq, DiVerifyConf, DiVerifyEnd}
use Rattle.sig_core.specs.Place.{coordinator}
use Rattle.sig_core.specs.Same.{same_tx}
use Rattle.sig_core.specs.Step.{Step, nothing, and_send, and_mark, stay}
use Rattle.tc_block.specs.declared.tc.TheConstants.{TRANSACTIONS}

-- the block of a node, with the current epoch, and the transactions that have an epoch and haven't ended
pub record DihState : Type 0 where
  pub node : ℕ
  pub epoch : ℕ
  pub counted : List TxId

-- a node in this epoch, in which no transaction is decided
abbrev pub fresh_dih : ℕ → ℕ → DihState
fresh_dih node epoch = record { node = node; epoch = epoch; counted = [] }

-- a transaction is decided, in the current epoch, unless as many are counted as a coordinator keeps
abbrev pub decide_if : DihState → TxId → Bool → Step DihState
decide_if s tx true =
    record {
      state = record { node = s.node; epoch = s.epoch; counted = s.counted ++ tx ∷ [] };
      effects = and_send (and_mark nothing (Decided tx s.epoch)) (coordinator s.node) (Epoch (DiVerifyConf tx s.epoch));
    }
decide_if s tx false = stay s

unfoldable pub decide_row : DihState → TxId → Step DihState
decide_row s tx = decide_if s tx (nat_lt (length s.counted) TRANSACTIONS)

-- a decided transaction has ended
abbrev pub end_by : DihState → Option ℕ → DihState
end_by s None = s
end_by s (Some at) = record { node = s.node; epoch = s.epoch; counted = remove s.counted at }

unfoldable pub end_row : DihState → TxId → DihState
end_row s tx = end_by s (position (same_tx tx) s.counted)

-- what the block does, by what a signal says. It leaves the others alone
abbrev pub dih_table : DihState → Body → Step DihState
dih_table s (Epoch (DiVerifyReq tx ops)) = decide_row s tx
dih_table s (Epoch (DiVerifyEnd tx)) = stay (end_row s tx)
dih_table s _ = stay s

-- what the block does at each signal
abbrev pub dih_row : DihState → Signal → Step DihState
dih_row s x = dih_table s x.body
