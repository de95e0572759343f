-- What is read of what signals say is what is written.
use Rattle.trace_bytes.specs.Bodies.{IsBody, body_at, body_bytes, body_of, of_a_client, of_disks, of_membership}
use Rattle.trace_bytes.specs.Bodies.{of_the_rest}
use Rattle.trace_bytes.proofs.Taken.{Takes, TakesKind, split_kind, takes_known}
use Rattle.trace_bytes.proofs.HostSignalsTaken.{host_signal_taken}
use Rattle.trace_bytes.proofs.ClientSignalsTaken.{asking_taken, ending_taken, failing_taken, opening_taken}
use Rattle.trace_bytes.proofs.ChainSignalsTaken.{committing_taken, preparing_taken}
use Rattle.trace_bytes.proofs.MembershipSignalsTaken.{granting_taken, promising_taken}
use Rattle.trace_bytes.proofs.TakeoverSignalsTaken.{takeover_taken}
use Rattle.trace_bytes.proofs.EpochSignalsTaken.{closing_taken, deciding_taken, micro_taken, saving_taken}
use Rattle.trace_bytes.proofs.CheckpointSignalsTaken.{checkpoint_taken}
use Rattle.trace_bytes.proofs.FileSignalsTaken.{file_taken}
use Rattle.trace_bytes.proofs.JoiningSignalsTaken.{draining_taken, joined_taken, starting_taken}
use Rattle.trace_bytes.proofs.CopyingSignalsTaken.{copying_taken, own_rows_taken}
use Rattle.trace_bytes.proofs.SubscriptionSignalsTaken.{subscription_taken}
use Rattle.trace_bytes.proofs.BackupSignalsTaken.{backed_up_taken, backup_taken}
use Rattle.trace_bytes.proofs.UniqueSignalsTaken.{unique_taken}

of_a_client_taken : TakesKind IsBody body_bytes of_a_client 0 33
unfolding of_a_client
of_a_client_taken = split_kind 5 host_signal_taken
    (split_kind 10 opening_taken (split_kind 15 ending_taken (split_kind 19 failing_taken
    (split_kind 25 asking_taken (split_kind 28 preparing_taken committing_taken)))))

of_membership_taken : TakesKind IsBody body_bytes of_membership 34 67
unfolding of_membership
of_membership_taken = split_kind 41 promising_taken
    (split_kind 46 granting_taken (split_kind 51 takeover_taken
    (split_kind 55 deciding_taken (split_kind 61 closing_taken saving_taken))))

of_disks_taken : TakesKind IsBody body_bytes of_disks 68 90
unfolding of_disks
of_disks_taken = split_kind 74 checkpoint_taken
    (split_kind 77 file_taken (split_kind 81 starting_taken (split_kind 88 copying_taken draining_taken)))

of_the_rest_taken : TakesKind IsBody body_bytes of_the_rest 91 120
unfolding of_the_rest
of_the_rest_taken = split_kind 96 joined_taken
    (split_kind 100 micro_taken (split_kind 103 own_rows_taken
    (split_kind 109 subscription_taken
    (split_kind 115 backup_taken (split_kind 119 backed_up_taken unique_taken)))))

body_taken : TakesKind IsBody body_bytes body_of 0 120
unfolding body_of
body_taken = split_kind 34 of_a_client_taken
    (split_kind 68 of_membership_taken (split_kind 91 of_disks_taken of_the_rest_taken))

pub takes_body : Takes IsBody body_bytes body_at
unfolding body_at
takes_body = takes_known body_taken
