-- What is written of what signals say is read again.
use Rattle.std.proofs.Common.{◌≡◌, ℕ, List, ◌++◌}
use Rattle.std.specs.Prelude.{Ok}
use Rattle.sig_core.specs.declared.signal.Body.{Body}
use Rattle.sig_core.specs.declared.signal.Body.TheVariants.{Host, Client, Chain, Membership, Takeover, Epoch}
use Rattle.sig_core.specs.declared.signal.Body.TheVariants.{Checkpoint, File, Joining, Copying, Subscription, Backup}
use Rattle.sig_core.specs.declared.signal.Body.TheVariants.{Unique}
use Rattle.trace_bytes.specs.Bodies.{body_bytes, IsBody, body_at}
use Rattle.trace_bytes.proofs.Again.{Again}
use Rattle.trace_bytes.proofs.HostSignalsAgain.{host_again}
use Rattle.trace_bytes.proofs.ClientSignalsAgain.{client_again}
use Rattle.trace_bytes.proofs.ChainSignalsAgain.{chain_again}
use Rattle.trace_bytes.proofs.MembershipSignalsAgain.{membership_again}
use Rattle.trace_bytes.proofs.TakeoverSignalsAgain.{takeover_again}
use Rattle.trace_bytes.proofs.EpochSignalsAgain.{epoch_again}
use Rattle.trace_bytes.proofs.CheckpointSignalsAgain.{checkpoint_again}
use Rattle.trace_bytes.proofs.FileSignalsAgain.{file_again}
use Rattle.trace_bytes.proofs.JoiningSignalsAgain.{joining_again}
use Rattle.trace_bytes.proofs.CopyingSignalsAgain.{copying_again}
use Rattle.trace_bytes.proofs.SubscriptionSignalsAgain.{subscription_again}
use Rattle.trace_bytes.proofs.BackupSignalsAgain.{backup_again}
use Rattle.trace_bytes.proofs.UniqueSignalsAgain.{unique_again}

body_again : (x : Body) (rest : List ℕ) → IsBody x → body_at (body_bytes x ++ rest) ≡ Ok (x, rest)
body_again (Host signal) rest fits = host_again signal rest fits
body_again (Client signal) rest fits = client_again signal rest fits
body_again (Chain signal) rest fits = chain_again signal rest fits
body_again (Membership signal) rest fits = membership_again signal rest fits
body_again (Takeover signal) rest fits = takeover_again signal rest fits
body_again (Epoch signal) rest fits = epoch_again signal rest fits
body_again (Checkpoint signal) rest fits = checkpoint_again signal rest fits
body_again (File signal) rest fits = file_again signal rest fits
body_again (Joining signal) rest fits = joining_again signal rest fits
body_again (Copying signal) rest fits = copying_again signal rest fits
body_again (Subscription signal) rest fits = subscription_again signal rest fits
body_again (Backup signal) rest fits = backup_again signal rest fits
body_again (Unique signal) rest fits = unique_again signal rest fits

pub again_body : Again IsBody body_bytes body_at
again_body = record { reads = body_again }
