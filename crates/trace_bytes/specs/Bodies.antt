-- The bytes of what signals say: a number for the kind, and then what signals of this kind tell.
use Rattle.std.specs.Prelude.{ℕ, nat_lt, if◌then◌else◌, List}
use Rattle.sig_core.specs.declared.signal.Body.{Body}
use Rattle.sig_core.specs.declared.signal.Body.TheVariants.{Host, Client, Chain, Membership, Takeover, Epoch}
use Rattle.sig_core.specs.declared.signal.Body.TheVariants.{Checkpoint, File, Joining, Copying, Subscription, Backup}
use Rattle.sig_core.specs.declared.signal.Body.TheVariants.{Unique}
use Rattle.redo_format.specs.Reading.{Reader, and_then, told, byte_at}
use Rattle.trace_bytes.specs.HostSignals.{host_signal_bytes, IsHostSignal, host_signal_of}
use Rattle.trace_bytes.specs.ClientSignals.{client_signal_bytes, IsClientSignal, opening_of, ending_of, failing_of}
use Rattle.trace_bytes.specs.ClientSignals.{asking_of}
use Rattle.trace_bytes.specs.ChainSignals.{chain_signal_bytes, IsChainSignal, preparing_of, committing_of}
use Rattle.trace_bytes.specs.MembershipSignals.{membership_signal_bytes, IsMembershipSignal, promising_of, granting_of}
use Rattle.trace_bytes.specs.TakeoverSignals.{takeover_signal_bytes, IsTakeoverSignal, takeover_of}
use Rattle.trace_bytes.specs.EpochSignals.{epoch_signal_bytes, IsEpochSignal, deciding_of, closing_of, saving_of}
use Rattle.trace_bytes.specs.EpochSignals.{micro_of}
use Rattle.trace_bytes.specs.CheckpointSignals.{checkpoint_signal_bytes, IsCheckpointSignal, checkpoint_of}
use Rattle.trace_bytes.specs.FileSignals.{file_signal_bytes, IsFileSignal, file_of}
use Rattle.trace_bytes.specs.JoiningSignals.{joining_signal_bytes, IsJoiningSignal, starting_of, draining_of, joined_of}
use Rattle.trace_bytes.specs.CopyingSignals.{copying_signal_bytes, IsCopyingSignal, copying_of, own_rows_of}
use Rattle.trace_bytes.specs.SubscriptionSignals.{subscription_signal_bytes, IsSubscriptionSignal, subscription_of}
use Rattle.trace_bytes.specs.BackupSignals.{backup_signal_bytes, IsBackupSignal, backup_of, backed_up_of}
use Rattle.trace_bytes.specs.UniqueSignals.{unique_signal_bytes, IsUniqueSignal, unique_of}

abbrev pub body_bytes : Body → List ℕ
body_bytes (Host signal) = host_signal_bytes signal
body_bytes (Client signal) = client_signal_bytes signal
body_bytes (Chain signal) = chain_signal_bytes signal
body_bytes (Membership signal) = membership_signal_bytes signal
body_bytes (Takeover signal) = takeover_signal_bytes signal
body_bytes (Epoch signal) = epoch_signal_bytes signal
body_bytes (Checkpoint signal) = checkpoint_signal_bytes signal
body_bytes (File signal) = file_signal_bytes signal
body_bytes (Joining signal) = joining_signal_bytes signal
body_bytes (Copying signal) = copying_signal_bytes signal
body_bytes (Subscription signal) = subscription_signal_bytes signal
body_bytes (Backup signal) = backup_signal_bytes signal
body_bytes (Unique signal) = unique_signal_bytes signal

abbrev pub IsBody : Body → Type 0
IsBody (Host signal) = IsHostSignal signal
IsBody (Client signal) = IsClientSignal signal
IsBody (Chain signal) = IsChainSignal signal
IsBody (Membership signal) = IsMembershipSignal signal
IsBody (Takeover signal) = IsTakeoverSignal signal
IsBody (Epoch signal) = IsEpochSignal signal
IsBody (Checkpoint signal) = IsCheckpointSignal signal
IsBody (File signal) = IsFileSignal signal
IsBody (Joining signal) = IsJoiningSignal signal
IsBody (Copying signal) = IsCopyingSignal signal
IsBody (Subscription signal) = IsSubscriptionSignal signal
IsBody (Backup signal) = IsBackupSignal signal
IsBody (Unique signal) = IsUniqueSignal signal

unfoldable pub of_a_client : ℕ → Reader Body
of_a_client number =
    if nat_lt number 5 then host_signal_of number else
    if nat_lt number 10 then opening_of number else
    if nat_lt number 15 then ending_of number else
    if nat_lt number 19 then failing_of number else
    if nat_lt number 25 then asking_of number else
    if nat_lt number 28 then preparing_of number else
    committing_of number

unfoldable pub of_membership : ℕ → Reader Body
of_membership number =
    if nat_lt number 41 then promising_of number else
    if nat_lt number 46 then granting_of number else
    if nat_lt number 51 then takeover_of number else
    if nat_lt number 55 then deciding_of number else
    if nat_lt number 61 then closing_of number else
    saving_of number

unfoldable pub of_disks : ℕ → Reader Body
of_disks number =
    if nat_lt number 74 then checkpoint_of number else
    if nat_lt number 77 then file_of number else
    if nat_lt number 81 then starting_of number else
    if nat_lt number 88 then copying_of number else
    draining_of number

unfoldable pub of_the_rest : ℕ → Reader Body
of_the_rest number =
    if nat_lt number 96 then joined_of number else
    if nat_lt number 100 then micro_of number else
    if nat_lt number 103 then own_rows_of number else
    if nat_lt number 109 then subscription_of number else
    if nat_lt number 115 then backup_of number else
    if nat_lt number 119 then backed_up_of number else
    unique_of number

unfoldable pub body_of : ℕ → Reader Body
body_of number =
    if nat_lt number 34 then of_a_client number else
    if nat_lt number 68 then of_membership number else
    if nat_lt number 91 then of_disks number else
    of_the_rest number

unfoldable pub body_at : Reader Body
body_at = told (λ x. x.1) (and_then (byte_at 0 120) body_of)
