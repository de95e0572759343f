-- Events that keep locks do so up to any epoch that none of them is later than.
use Rattle.std.proofs.Common.{◌≤◌, ◌++◌, ℕ, List, [], ◌∷◌, max, arith}
use Rattle.run_theory.specs.Lists.{IsIn}
use Rattle.sig_core.specs.declared.member.Member.{Member}
use Rattle.sig_core.specs.Rows.{RowsState}
use Rattle.local_ckpt.specs.Events.{Abort, Commit, Complete, Event, Prepare, Step}
use Rattle.local_ckpt.specs.Locking.{KeepsLock}
use Rattle.world_core.specs.Start.{Start, made}
use Rattle.world_core.specs.Steps.{HostStep}
use Rattle.moment_laws.specs.Moments.{IsMoment, logs_of}
use Rattle.moment_laws.specs.Places.{ldm_of}
use Rattle.journal_laws.specs.Checkpoints.{HaveKeptLocks}
use Rattle.journal_laws.specs.Events.{AreUpTo, IsUpTo, rows_behind}
use Rattle.journal_laws.specs.Journal.{HasRecords, first_rows}
use Rattle.journal_laws.proofs.walks.Locks.{later_up, older_locks}
use Rattle.saved_laws.specs.Locks.{MembersKeepLocks}

-- the greatest epoch of a commit
abbrev epoch_of : Event → ℕ
epoch_of (Commit tx key at) = at
epoch_of event = 0

greatest : List Event → ℕ
greatest [] = 0
greatest (event ∷ older) = max (epoch_of event) (greatest older)

one_up : (most : ℕ) (event : Event) → epoch_of event ≤ most → IsUpTo most event
one_up most (Prepare tx fragment key image) low = tt
one_up most (Commit tx key at) low = low
one_up most (Abort tx key) low = tt
one_up most (Complete tx key) low = tt
one_up most Step low = tt

all_up : (events : List Event) → AreUpTo (greatest events) events
unfolding greatest
all_up [] = tt
all_up (event ∷ older) = (
  one_up (max (epoch_of event) (greatest older)) event (omega arith),
  later_up (greatest older) (max (epoch_of event) (greatest older)) (omega arith) older (all_up older),
)

module _ (other most : ℕ) where
  one_kept : (s : RowsState) (event : Event) → KeepsLock other s event → IsUpTo most event → KeepsLock most s event
  one_kept s (Prepare tx fragment key image) keeps up = keeps
  one_kept s (Commit tx key at) keeps up = up
  one_kept s (Abort tx key) keeps up = tt
  one_kept s (Complete tx key) keeps up = tt
  one_kept s Step keeps up = tt

  all_kept : (s : RowsState) (events : List Event) → HaveKeptLocks other s events → AreUpTo most events
      → HaveKeptLocks most s events
  all_kept s [] keep up = tt
  all_kept s (event ∷ older) keep up =
      (one_kept (rows_behind s older) event keep.0 up.0, all_kept s older keep.1 up.1)

-- a part of a member's events, up to an epoch
pub part_keeps : MembersKeepLocks → (start : Start) (all : ℕ → List HostStep) (es : List HostStep)
    → IsMoment start all es → (member : Member) → IsIn member (made start) → (newer older : List Event)
    → HasRecords start member (logs_of start es (ldm_of start member)) (newer ++ older) → (most : ℕ)
    → AreUpTo most older → HaveKeptLocks most (first_rows start member) older
part_keeps keep start all es moment member there newer older has most up =
    let other = greatest (newer ++ older) in
    all_kept other most (first_rows start member) older
    (older_locks other (first_rows start member) newer older
    (keep start all es moment member there (newer ++ older) has other (all_up (newer ++ older)))) up
