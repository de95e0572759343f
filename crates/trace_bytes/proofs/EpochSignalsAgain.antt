-- What is written of these signals is read again.
use Rattle.std.proofs.Common.{◌≡◌, ℕ, List, [], ◌∷◌, ◌++◌, drop, refl, lit≤}
use Rattle.std.specs.Prelude.{Result, Ok, Err}
use Rattle.sig_core.specs.declared.signal.Body.{Body}
use Rattle.sig_core.specs.declared.signal.Body.TheVariants.{Epoch}
use Rattle.sig_core.specs.declared.signal.epoch.EpochSignal.{EpochSignal}
use Rattle.sig_core.specs.declared.signal.epoch.EpochSignal.TheVariants.{DiVerifyReq, DiVerifyConf, DiVerifyEnd, GcpReq}
use Rattle.sig_core.specs.declared.signal.epoch.EpochSignal.TheVariants.{GcpPrepare, GcpPrepareConf, GcpCommit}
use Rattle.sig_core.specs.declared.signal.epoch.EpochSignal.TheVariants.{GcpNodeFinish, GcpSaveReq, GcpSaveConf}
use Rattle.sig_core.specs.declared.signal.epoch.EpochSignal.TheVariants.{CopyGciReq, CopyGciConf, GcpDone, GcpRep}
use Rattle.sig_core.specs.declared.signal.epoch.EpochSignal.TheVariants.{GcpOrd, GcpStateReq, GcpStateConf, MicroReq}
use Rattle.sig_core.specs.declared.signal.epoch.EpochSignal.TheVariants.{GcpClosed, MicroRep, GcpClosedConf}
use Rattle.trace_bytes.specs.declared.kinds.signals.TheConstants as signals
use Rattle.trace_bytes.specs.EpochSignals.{epoch_signal_bytes, IsEpochSignal, deciding_of, closing_of, saving_of}
use Rattle.trace_bytes.specs.EpochSignals.{micro_of}
use Rattle.trace_bytes.specs.Bodies.{body_of, body_at, of_membership, of_the_rest}
use Rattle.trace_bytes.proofs.Again.{Again, again, both, known}
use Rattle.trace_bytes.proofs.ListsAgain.{again_list}
use Rattle.trace_bytes.proofs.OperationsAgain.{again_answered}
use Rattle.trace_bytes.proofs.PlacesAgain.{again_block}
use Rattle.trace_bytes.proofs.WordsAgain.{again_tx, again_u64, again_u8}

pub epoch_again : (x : EpochSignal) (rest : List ℕ) → IsEpochSignal x
    → body_at (epoch_signal_bytes x ++ rest) ≡ Ok (Epoch x, rest)
unfolding epoch_signal_bytes body_at body_of of_membership of_the_rest deciding_of closing_of saving_of micro_of
epoch_again (DiVerifyReq tx ops) rest fits =
    known 120 body_of signals.DI_VERIFY_REQ (drop 1 (epoch_signal_bytes (DiVerifyReq tx ops)) ++ rest)
    ((Epoch (DiVerifyReq tx ops)), rest) (lit≤ tt)
    (again (λ x. Epoch (DiVerifyReq x.0 x.1)) (both again_tx (again_list again_answered)) (tx, ops) rest
    (fits.0, fits.1))
epoch_again (DiVerifyConf tx epoch) rest fits =
    known 120 body_of signals.DI_VERIFY_CONF (drop 1 (epoch_signal_bytes (DiVerifyConf tx epoch)) ++ rest)
    ((Epoch (DiVerifyConf tx epoch)), rest) (lit≤ tt)
    (again (λ x. Epoch (DiVerifyConf x.0 x.1)) (both again_tx again_u64) (tx, epoch) rest (fits.0, fits.1))
epoch_again (DiVerifyEnd tx) rest fits =
    known 120 body_of signals.DI_VERIFY_END (drop 1 (epoch_signal_bytes (DiVerifyEnd tx)) ++ rest)
    ((Epoch (DiVerifyEnd tx)), rest) (lit≤ tt) (again (λ x. Epoch (DiVerifyEnd x)) again_tx tx rest fits)
epoch_again (GcpReq by) rest fits =
    known 120 body_of signals.GCP_REQ (drop 1 (epoch_signal_bytes (GcpReq by)) ++ rest) ((Epoch (GcpReq by)), rest)
    (lit≤ tt) (again (λ x. Epoch (GcpReq x)) again_block by rest fits)
epoch_again (GcpPrepare epoch next) rest fits =
    known 120 body_of signals.GCP_PREPARE (drop 1 (epoch_signal_bytes (GcpPrepare epoch next)) ++ rest)
    ((Epoch (GcpPrepare epoch next)), rest) (lit≤ tt)
    (again (λ x. Epoch (GcpPrepare x.0 x.1)) (both again_u64 again_u64) (epoch, next) rest (fits.0, fits.1))
epoch_again (GcpPrepareConf epoch) rest fits =
    known 120 body_of signals.GCP_PREPARE_CONF (drop 1 (epoch_signal_bytes (GcpPrepareConf epoch)) ++ rest)
    ((Epoch (GcpPrepareConf epoch)), rest) (lit≤ tt)
    (again (λ x. Epoch (GcpPrepareConf x)) again_u64 epoch rest fits)
epoch_again (GcpCommit epoch next) rest fits =
    known 120 body_of signals.GCP_COMMIT (drop 1 (epoch_signal_bytes (GcpCommit epoch next)) ++ rest)
    ((Epoch (GcpCommit epoch next)), rest) (lit≤ tt)
    (again (λ x. Epoch (GcpCommit x.0 x.1)) (both again_u64 again_u64) (epoch, next) rest (fits.0, fits.1))
epoch_again (GcpNodeFinish epoch) rest fits =
    known 120 body_of signals.GCP_NODE_FINISH (drop 1 (epoch_signal_bytes (GcpNodeFinish epoch)) ++ rest)
    ((Epoch (GcpNodeFinish epoch)), rest) (lit≤ tt) (again (λ x. Epoch (GcpNodeFinish x)) again_u64 epoch rest fits)
epoch_again (GcpSaveReq epoch) rest fits =
    known 120 body_of signals.GCP_SAVE_REQ (drop 1 (epoch_signal_bytes (GcpSaveReq epoch)) ++ rest)
    ((Epoch (GcpSaveReq epoch)), rest) (lit≤ tt) (again (λ x. Epoch (GcpSaveReq x)) again_u64 epoch rest fits)
epoch_again (GcpSaveConf epoch) rest fits =
    known 120 body_of signals.GCP_SAVE_CONF (drop 1 (epoch_signal_bytes (GcpSaveConf epoch)) ++ rest)
    ((Epoch (GcpSaveConf epoch)), rest) (lit≤ tt) (again (λ x. Epoch (GcpSaveConf x)) again_u64 epoch rest fits)
epoch_again (CopyGciReq epoch mask) rest fits =
    known 120 body_of signals.COPY_GCI_REQ (drop 1 (epoch_signal_bytes (CopyGciReq epoch mask)) ++ rest)
    ((Epoch (CopyGciReq epoch mask)), rest) (lit≤ tt)
    (again (λ x. Epoch (CopyGciReq x.0 x.1)) (both again_u64 again_u8) (epoch, mask) rest (fits.0, fits.1))
epoch_again (CopyGciConf epoch) rest fits =
    known 120 body_of signals.COPY_GCI_CONF (drop 1 (epoch_signal_bytes (CopyGciConf epoch)) ++ rest)
    ((Epoch (CopyGciConf epoch)), rest) (lit≤ tt) (again (λ x. Epoch (CopyGciConf x)) again_u64 epoch rest fits)
epoch_again (GcpDone epoch) rest fits =
    known 120 body_of signals.GCP_DONE (drop 1 (epoch_signal_bytes (GcpDone epoch)) ++ rest)
    ((Epoch (GcpDone epoch)), rest) (lit≤ tt) (again (λ x. Epoch (GcpDone x)) again_u64 epoch rest fits)
epoch_again (GcpRep epoch) rest fits =
    known 120 body_of signals.GCP_REP (drop 1 (epoch_signal_bytes (GcpRep epoch)) ++ rest)
    ((Epoch (GcpRep epoch)), rest) (lit≤ tt) (again (λ x. Epoch (GcpRep x)) again_u64 epoch rest fits)
epoch_again GcpOrd rest fits =
    known 120 body_of signals.GCP_ORD (drop 1 (epoch_signal_bytes GcpOrd) ++ rest) ((Epoch GcpOrd), rest) (lit≤ tt) refl
epoch_again GcpStateReq rest fits =
    known 120 body_of signals.GCP_STATE_REQ (drop 1 (epoch_signal_bytes GcpStateReq) ++ rest)
    ((Epoch GcpStateReq), rest) (lit≤ tt) refl
epoch_again (GcpStateConf current prepared next closed saved durable) rest fits =
    known 120 body_of signals.GCP_STATE_CONF
    (drop 1 (epoch_signal_bytes (GcpStateConf current prepared next closed saved durable)) ++ rest)
    ((Epoch (GcpStateConf current prepared next closed saved durable)), rest) (lit≤ tt)
    (again (λ x. Epoch (GcpStateConf x.0 x.1.0 x.1.1.0 x.1.1.1.0 x.1.1.1.1.0 x.1.1.1.1.1))
    (both again_u64 (both again_u64 (both again_u64 (both again_u64 (both again_u64 again_u64)))))
    (current, (prepared, (next, (closed, (saved, durable))))) rest
    (fits.0, (fits.1, (fits.2, (fits.3, (fits.4, fits.5))))))
epoch_again MicroReq rest fits =
    known 120 body_of signals.MICRO_REQ (drop 1 (epoch_signal_bytes MicroReq) ++ rest) ((Epoch MicroReq), rest)
    (lit≤ tt) refl
epoch_again (GcpClosed epoch) rest fits =
    known 120 body_of signals.GCP_CLOSED (drop 1 (epoch_signal_bytes (GcpClosed epoch)) ++ rest)
    ((Epoch (GcpClosed epoch)), rest) (lit≤ tt) (again (λ x. Epoch (GcpClosed x)) again_u64 epoch rest fits)
epoch_again (MicroRep epoch) rest fits =
    known 120 body_of signals.MICRO_REP (drop 1 (epoch_signal_bytes (MicroRep epoch)) ++ rest)
    ((Epoch (MicroRep epoch)), rest) (lit≤ tt) (again (λ x. Epoch (MicroRep x)) again_u64 epoch rest fits)
epoch_again (GcpClosedConf epoch) rest fits =
    known 120 body_of signals.GCP_CLOSED_CONF (drop 1 (epoch_signal_bytes (GcpClosedConf epoch)) ++ rest)
    ((Epoch (GcpClosedConf epoch)), rest) (lit≤ tt) (again (λ x. Epoch (GcpClosedConf x)) again_u64 epoch rest fits)
