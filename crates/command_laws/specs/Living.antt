-- As no host stops, no reply tells of one that did.
use Rattle.std.specs.Prelude.{◌≡◌, ℕ, Bool, true, false, List}
use Rattle.run_theory.specs.Lists.{Each}
use Rattle.run_theory.specs.Runs.{AreLogs, IsWithin}
use Rattle.world_core.specs.Steps.{HostStep}
use Rattle.sig_core.specs.declared.outcome.AbortCause.{AbortCause}
use Rattle.sig_core.specs.declared.outcome.AbortCause.TheVariants as cause
use Rattle.sig_core.specs.declared.outcome.Outcome.TheVariants.{Aborted, Unknown}
use Rattle.sig_core.specs.declared.reply.ApiReply.{ApiReply}
use Rattle.sig_core.specs.declared.reply.ApiReply.TheVariants.{Ended, Refused, Stopped}
use Rattle.sig_core.specs.declared.reply.Refusal.TheVariants as refusal
use Rattle.node_core.specs.Replies.{replies_of}
use Rattle.world_core.specs.Hosts.{first_hosts}
use Rattle.world_core.specs.Machine.{after, machine}
use Rattle.world_core.specs.Start.{Start}

-- a transaction may be aborted so while all hosts go on
abbrev pub is_living : AbortCause → Bool
is_living (cause.NodeFail view) = false
is_living cause.Down = false
is_living why = true

-- the reply tells of no loss of a node or of the cluster
abbrev pub is_of_living : ApiReply → Bool
is_of_living (Ended name (Aborted why)) = is_living why
is_of_living (Ended name Unknown) = false
is_of_living (Refused name refusal.Down) = false
is_of_living (Stopped node why) = false
is_of_living reply = true

-- so it is of each reply of the shell's host, after any right logs
abbrev pub RepliesAreOfTheLiving : Type 0
RepliesAreOfTheLiving =
    (start : Start) (logs : ℕ → List HostStep) → IsWithin (first_hosts start) logs → AreLogs (machine start) logs
    → Each (λ (reply : ApiReply). is_of_living reply ≡ true) (replies_of (after start 0 (logs 0)))
