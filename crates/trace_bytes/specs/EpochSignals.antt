-- The bytes of signals of epochs and global checkpoints.
use Rattle.std.specs.Prelude.{ℕ, ◌==◌, nat_lt, if◌then◌else◌, List, [], ◌∷◌}
use Rattle.sig_core.specs.declared.signal.Body.{Body}
use Rattle.sig_core.specs.declared.signal.epoch.EpochSignal.{EpochSignal}
use Rattle.sig_core.specs.declared.signal.epoch.EpochSignal.TheVariants.{DiVerifyReq, DiVerifyConf, DiVerifyEnd, GcpReq}
use Rattle.sig_core.specs.declared.signal.epoch.EpochSignal.TheVariants.{GcpPrepare, GcpPrepareConf, GcpCommit}
use Rattle.sig_core.specs.declared.signal.epoch.EpochSignal.TheVariants.{GcpNodeFinish, GcpSaveReq, GcpSaveConf}
use Rattle.sig_core.specs.declared.signal.epoch.EpochSignal.TheVariants.{CopyGciReq, CopyGciConf, GcpDone, GcpRep}
use Rattle.sig_core.specs.declared.signal.epoch.EpochSignal.TheVariants.{GcpOrd, GcpStateReq, GcpStateConf, MicroReq}
use Rattle.sig_core.specs.declared.signal.epoch.EpochSignal.TheVariants.{GcpClosed, MicroRep, GcpClosedConf}
use Rattle.sig_core.specs.declared.signal.Body.TheVariants.{Epoch}
use Rattle.redo_format.specs.Reading.{Reader, and_then, told, byte_at}
use Rattle.trace_bytes.specs.declared.kinds.signals.TheConstants as signals
use Rattle.trace_bytes.specs.Lists.{AreItems, list_at, list_bytes, ◌&◌}
use Rattle.trace_bytes.specs.Numbers.{IsU64, IsU8, u64_at, u64_bytes, u8_at, u8_bytes}
use Rattle.trace_bytes.specs.Operations.{IsAnswered, answered_at, answered_bytes}
use Rattle.trace_bytes.specs.Places.{IsBlock, block_at, block_bytes}
use Rattle.trace_bytes.specs.Words.{IsTx, always, tx_at, tx_bytes}

unfoldable pub epoch_signal_bytes : EpochSignal → List ℕ
epoch_signal_bytes (DiVerifyReq tx ops) = signals.DI_VERIFY_REQ ∷ tx_bytes tx & list_bytes answered_bytes ops
epoch_signal_bytes (DiVerifyConf tx epoch) = signals.DI_VERIFY_CONF ∷ tx_bytes tx & u64_bytes epoch
epoch_signal_bytes (DiVerifyEnd tx) = signals.DI_VERIFY_END ∷ tx_bytes tx
epoch_signal_bytes (GcpReq by) = signals.GCP_REQ ∷ block_bytes by
epoch_signal_bytes (GcpPrepare epoch next) = signals.GCP_PREPARE ∷ u64_bytes epoch & u64_bytes next
epoch_signal_bytes (GcpPrepareConf epoch) = signals.GCP_PREPARE_CONF ∷ u64_bytes epoch
epoch_signal_bytes (GcpCommit epoch next) = signals.GCP_COMMIT ∷ u64_bytes epoch & u64_bytes next
epoch_signal_bytes (GcpNodeFinish epoch) = signals.GCP_NODE_FINISH ∷ u64_bytes epoch
epoch_signal_bytes (GcpSaveReq epoch) = signals.GCP_SAVE_REQ ∷ u64_bytes epoch
epoch_signal_bytes (GcpSaveConf epoch) = signals.GCP_SAVE_CONF ∷ u64_bytes epoch
epoch_signal_bytes (CopyGciReq epoch mask) = signals.COPY_GCI_REQ ∷ u64_bytes epoch & u8_bytes mask
epoch_signal_bytes (CopyGciConf epoch) = signals.COPY_GCI_CONF ∷ u64_bytes epoch
epoch_signal_bytes (GcpDone epoch) = signals.GCP_DONE ∷ u64_bytes epoch
epoch_signal_bytes (GcpRep epoch) = signals.GCP_REP ∷ u64_bytes epoch
epoch_signal_bytes GcpOrd = signals.GCP_ORD ∷ []
epoch_signal_bytes GcpStateReq = signals.GCP_STATE_REQ ∷ []
epoch_signal_bytes (GcpStateConf current prepared next closed saved durable) = signals.GCP_STATE_CONF ∷ u64_bytes
    current & u64_bytes prepared & u64_bytes next & u64_bytes closed & u64_bytes saved & u64_bytes durable
epoch_signal_bytes MicroReq = signals.MICRO_REQ ∷ []
epoch_signal_bytes (GcpClosed epoch) = signals.GCP_CLOSED ∷ u64_bytes epoch
epoch_signal_bytes (MicroRep epoch) = signals.MICRO_REP ∷ u64_bytes epoch
epoch_signal_bytes (GcpClosedConf epoch) = signals.GCP_CLOSED_CONF ∷ u64_bytes epoch

abbrev pub IsEpochSignal : EpochSignal → Type 0
IsEpochSignal (DiVerifyReq tx ops) = IsTx tx × AreItems IsAnswered ops
IsEpochSignal (DiVerifyConf tx epoch) = IsTx tx × IsU64 epoch
IsEpochSignal (DiVerifyEnd tx) = IsTx tx
IsEpochSignal (GcpReq by) = IsBlock by
IsEpochSignal (GcpPrepare epoch next) = IsU64 epoch × IsU64 next
IsEpochSignal (GcpPrepareConf epoch) = IsU64 epoch
IsEpochSignal (GcpCommit epoch next) = IsU64 epoch × IsU64 next
IsEpochSignal (GcpNodeFinish epoch) = IsU64 epoch
IsEpochSignal (GcpSaveReq epoch) = IsU64 epoch
IsEpochSignal (GcpSaveConf epoch) = IsU64 epoch
IsEpochSignal (CopyGciReq epoch mask) = IsU64 epoch × IsU8 mask
IsEpochSignal (CopyGciConf epoch) = IsU64 epoch
IsEpochSignal (GcpDone epoch) = IsU64 epoch
IsEpochSignal (GcpRep epoch) = IsU64 epoch
IsEpochSignal GcpOrd = Unit {0}
IsEpochSignal GcpStateReq = Unit {0}
IsEpochSignal (GcpStateConf current prepared next closed saved durable) =
    IsU64 current × IsU64 prepared × IsU64 next × IsU64 closed × IsU64 saved × IsU64 durable
IsEpochSignal MicroReq = Unit {0}
IsEpochSignal (GcpClosed epoch) = IsU64 epoch
IsEpochSignal (MicroRep epoch) = IsU64 epoch
IsEpochSignal (GcpClosedConf epoch) = IsU64 epoch

unfoldable pub deciding_of : ℕ → Reader Body
deciding_of number =
    if number == signals.DI_VERIFY_REQ then told (λ x. Epoch (DiVerifyReq x.0 x.1))
    (and_then tx_at (λ _. list_at answered_at))
    else if number == signals.DI_VERIFY_CONF then told (λ x. Epoch (DiVerifyConf x.0 x.1))
    (and_then tx_at (λ _. u64_at))
    else if number == signals.DI_VERIFY_END then told (λ x. Epoch (DiVerifyEnd x)) tx_at
    else (told (λ x. Epoch (GcpReq x)) block_at)

unfoldable pub closing_of : ℕ → Reader Body
closing_of number =
    if number == signals.GCP_PREPARE then told (λ x. Epoch (GcpPrepare x.0 x.1)) (and_then u64_at (λ _. u64_at))
    else if number == signals.GCP_PREPARE_CONF then told (λ x. Epoch (GcpPrepareConf x)) u64_at
    else if number == signals.GCP_COMMIT then told (λ x. Epoch (GcpCommit x.0 x.1)) (and_then u64_at (λ _. u64_at))
    else if number == signals.GCP_NODE_FINISH then told (λ x. Epoch (GcpNodeFinish x)) u64_at
    else if number == signals.GCP_SAVE_REQ then told (λ x. Epoch (GcpSaveReq x)) u64_at
    else (told (λ x. Epoch (GcpSaveConf x)) u64_at)

unfoldable pub saving_of : ℕ → Reader Body
saving_of number =
    if number == signals.COPY_GCI_REQ then told (λ x. Epoch (CopyGciReq x.0 x.1)) (and_then u64_at (λ _. u8_at))
    else if number == signals.COPY_GCI_CONF then told (λ x. Epoch (CopyGciConf x)) u64_at
    else if number == signals.GCP_DONE then told (λ x. Epoch (GcpDone x)) u64_at
    else if number == signals.GCP_REP then told (λ x. Epoch (GcpRep x)) u64_at
    else if number == signals.GCP_ORD then always (Epoch GcpOrd)
    else if number == signals.GCP_STATE_REQ then always (Epoch GcpStateReq)
    else (told (λ x. Epoch (GcpStateConf x.0 x.1.0 x.1.1.0 x.1.1.1.0 x.1.1.1.1.0 x.1.1.1.1.1))
    (and_then u64_at (λ _. and_then u64_at (λ _. and_then u64_at
    (λ _. and_then u64_at (λ _. and_then u64_at (λ _. u64_at)))))))

unfoldable pub micro_of : ℕ → Reader Body
micro_of number =
    if number == signals.MICRO_REQ then always (Epoch MicroReq)
    else if number == signals.GCP_CLOSED then told (λ x. Epoch (GcpClosed x)) u64_at
    else if number == signals.MICRO_REP then told (λ x. Epoch (MicroRep x)) u64_at
    else (told (λ x. Epoch (GcpClosedConf x)) u64_at)
