-- What is written of these signals is read again.
use Rattle.std.proofs.Common.{◌≡◌, ℕ, List, [], ◌∷◌, ◌++◌, drop, refl, lit≤}
use Rattle.std.specs.Prelude.{Result, Ok, Err}
use Rattle.sig_core.specs.declared.signal.Body.{Body}
use Rattle.sig_core.specs.declared.signal.Body.TheVariants.{Checkpoint}
use Rattle.sig_core.specs.declared.signal.checkpoint.CheckpointSignal.{CheckpointSignal}
use Rattle.sig_core.specs.declared.signal.checkpoint.CheckpointSignal.TheVariants.{LcpReq, LcpFragOrd, LcpFragRep}
use Rattle.sig_core.specs.declared.signal.checkpoint.CheckpointSignal.TheVariants.{LcpSwitch, LcpSwitchConf, LcpRep}
use Rattle.trace_bytes.specs.declared.kinds.signals.TheConstants as signals
use Rattle.trace_bytes.specs.CheckpointSignals.{checkpoint_signal_bytes, IsCheckpointSignal, checkpoint_of}
use Rattle.trace_bytes.specs.Bodies.{body_of, body_at, of_disks}
use Rattle.trace_bytes.proofs.Again.{Again, again, both, known}
use Rattle.trace_bytes.proofs.WordsAgain.{again_u64}

pub checkpoint_again : (x : CheckpointSignal) (rest : List ℕ) → IsCheckpointSignal x
    → body_at (checkpoint_signal_bytes x ++ rest) ≡ Ok (Checkpoint x, rest)
unfolding checkpoint_signal_bytes body_at body_of of_disks checkpoint_of
checkpoint_again LcpReq rest fits =
    known 120 body_of signals.LCP_REQ (drop 1 (checkpoint_signal_bytes LcpReq) ++ rest) ((Checkpoint LcpReq), rest)
    (lit≤ tt) refl
checkpoint_again LcpFragOrd rest fits =
    known 120 body_of signals.LCP_FRAG_ORD (drop 1 (checkpoint_signal_bytes LcpFragOrd) ++ rest)
    ((Checkpoint LcpFragOrd), rest) (lit≤ tt) refl
checkpoint_again (LcpFragRep epoch) rest fits =
    known 120 body_of signals.LCP_FRAG_REP (drop 1 (checkpoint_signal_bytes (LcpFragRep epoch)) ++ rest)
    ((Checkpoint (LcpFragRep epoch)), rest) (lit≤ tt)
    (again (λ x. Checkpoint (LcpFragRep x)) again_u64 epoch rest fits)
checkpoint_again LcpSwitch rest fits =
    known 120 body_of signals.LCP_SWITCH (drop 1 (checkpoint_signal_bytes LcpSwitch) ++ rest)
    ((Checkpoint LcpSwitch), rest) (lit≤ tt) refl
checkpoint_again LcpSwitchConf rest fits =
    known 120 body_of signals.LCP_SWITCH_CONF (drop 1 (checkpoint_signal_bytes LcpSwitchConf) ++ rest)
    ((Checkpoint LcpSwitchConf), rest) (lit≤ tt) refl
checkpoint_again (LcpRep epoch) rest fits =
    known 120 body_of signals.LCP_REP (drop 1 (checkpoint_signal_bytes (LcpRep epoch)) ++ rest)
    ((Checkpoint (LcpRep epoch)), rest) (lit≤ tt) (again (λ x. Checkpoint (LcpRep x)) again_u64 epoch rest fits)
