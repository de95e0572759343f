-- The history of a cut: the entries that took effect, in their order.
use Rattle.std.specs.List.{list_any}
use Rattle.std.specs.Prelude.{ℕ, Bool, true, false, List, filter, if◌then◌else◌}
use Rattle.sig_core.specs.declared.entry.Entry.{Entry}
use Rattle.world_core.specs.Steps.{HostStep}
use Rattle.sig_core.specs.declared.mark.Mark.{Mark}
use Rattle.sig_core.specs.declared.mark.Mark.TheVariants.{Applied, Reported}
use Rattle.sig_core.specs.declared.member.TxId.{TxId}
use Rattle.sig_core.specs.declared.op.Answer.{Answer}
use Rattle.sig_core.specs.declared.op.Answer.TheVariants.{Done}
use Rattle.sig_core.specs.declared.outcome.Outcome.TheVariants.{Committed}
use Rattle.sig_core.specs.Same.{same_tx}
use Rattle.world_core.specs.Entries.{entries}
use Rattle.world_core.specs.Marks.{have_mark}

abbrev pub is_done : Answer → Bool
is_done Done = true
is_done answer = false

-- an entry writes where one of its answers is `Done`
abbrev pub writes : Entry → Bool
writes entry = list_any (λ op. is_done op.1) entry.ops

-- the transaction was applied on some key
abbrev pub is_applied : TxId → Mark → Bool
is_applied tx (Applied other key) = same_tx other tx
is_applied tx mark = false

-- the transaction was reported committed
abbrev pub is_reported : TxId → Mark → Bool
is_reported tx (Reported other (Committed epoch)) = same_tx other tx
is_reported tx mark = false

-- an entry is kept: where it writes, if it was applied, and else if it was reported
abbrev pub is_kept : ℕ → (ℕ → List HostStep) → Entry → Bool
is_kept n logs entry =
    if writes entry then have_mark (is_applied entry.tx) n logs else have_mark (is_reported entry.tx) n logs

-- the history of a cut of the hosts below n
abbrev pub history : ℕ → (ℕ → List HostStep) → List Entry
history n logs = filter (is_kept n logs) (entries n logs)
