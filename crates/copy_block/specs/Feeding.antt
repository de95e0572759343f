-- A primary copies fragments, row by row and under a shared lock of each, signal by signal.
use Rattle.std.specs.Prelude.{ℕ, Bool, true, false, nat_le, List, [], ◌∷◌, ◌++◌, remove, slice_get, Option, None}
use Rattle.std.specs.Prelude.{Some}
use Rattle.sig_core.specs.declared.outs.Outgoing.{Outgoing}
use Rattle.sig_core.specs.declared.signal.Body.TheVariants.{Copying}
use Rattle.sig_core.specs.declared.signal.copying.CopyingSignal.TheVariants.{CopyFragConf, CopyKeyReq, CopyRowReq}
use Rattle.sig_core.specs.declared.signal.copying.CopyingSignal.TheVariants.{LqhScanReq, LqhUnlock}
use Rattle.sig_core.specs.Place.{copying, rows_of}
use Rattle.sig_core.specs.Step.{Effects, Step, joined, sending, sends_only, stay, to_place}
use Rattle.copy_block.specs.declared.stage.Feed.{Feed}
use Rattle.copy_block.specs.declared.stage.Feed.TheVariants.{Idle, Scanning, Naming, Sending}
use Rattle.copy_block.specs.declared.stage.Task.{Task}
use Rattle.copy_block.specs.State.{CopyState, with_feed, with_queue}

-- effects, and then those of a step
abbrev pub after : Effects → Step CopyState → Step CopyState
after first step = record { state = step.state; effects = joined first step.effects }

-- the next row of the fragment is asked for, from a place on
abbrev pub scans : CopyState → Task → ℕ → Step CopyState
scans s task at =
    sending (with_feed s (Scanning task)) (rows_of s.node) (Copying (LqhScanReq task.fragment at))

abbrev pub fragment_by : CopyState → Task → Feed → Step CopyState
fragment_by s task Idle = scans s task 0
fragment_by s task _ = stay (with_queue s (s.queue ++ task ∷ []))

-- a fragment is to be copied: at once, or behind the others
unfoldable pub fragment_row : CopyState → Task → Step CopyState
fragment_row s task = fragment_by s task s.feed

abbrev pub next_by : CopyState → Option Task → Step CopyState
next_by s None = stay (with_feed s Idle)
next_by s (Some task) = scans (with_queue s (remove s.queue 0)) task 0

-- the node that asked for the fragment is told that it is copied
abbrev pub told_copied : Task → Outgoing
told_copied task = to_place (copying task.from) (Copying CopyFragConf)

-- a fragment is copied, and the next one is begun
unfoldable pub ending : CopyState → Task → Step CopyState
ending s task = after (sends_only (told_copied task ∷ [])) (next_by s (slice_get s.queue 0))

abbrev pub going_by : CopyState → Task → Option ℕ → Step CopyState
going_by s task (Some at) = scans s task at
going_by s task None = ending s task

-- what is behind a row is gone on with; where nothing is, the fragment is copied
unfoldable pub going : CopyState → Task → Option ℕ → Step CopyState
going s task next = going_by s task next

-- the row is sent whole
abbrev pub sends_row : CopyState → Task → List ℕ × List ℕ → ℕ → Option ℕ → Step CopyState
sends_row s task row epoch next =
    sending (with_feed s (Sending task row.0 next)) (rows_of task.joiner.member.node) (Copying (CopyRowReq row epoch))

-- the member is told its key alone
abbrev pub names_row : CopyState → Task → List ℕ × List ℕ → ℕ → Option ℕ → Step CopyState
names_row s task row epoch next =
    sending (with_feed s (Naming task row epoch next)) (rows_of task.joiner.member.node)
    (Copying (CopyKeyReq row.0 epoch))

-- the member has rows of its own up to the row's epoch
unfoldable pub has_own : Option ℕ → ℕ → Bool
has_own None epoch = false
has_own (Some own) epoch = nat_le epoch own

abbrev pub hands_if : CopyState → Task → List ℕ × List ℕ → ℕ → Option ℕ → Bool → Step CopyState
hands_if s task row epoch next true = names_row s task row epoch next
hands_if s task row epoch next false = sends_row s task row epoch next

abbrev pub hands_by : CopyState → Task → Option (List ℕ × List ℕ) → ℕ → Option ℕ → Step CopyState
hands_by s task None epoch next = going s task next
hands_by s task (Some row) epoch next = hands_if s task row epoch next (has_own task.joiner.own epoch)

abbrev pub scan_by : CopyState → Option (List ℕ × List ℕ) → ℕ → Option ℕ → Feed → Step CopyState
scan_by s row epoch next (Scanning task) = hands_by s task row epoch next
scan_by s row epoch next _ = stay s

-- A row is locked. It is named where the member has rows of its own up to its epoch, and else sent whole; where there
-- is none, what is behind it is gone on with.
unfoldable pub scan_row : CopyState → Option (List ℕ × List ℕ) → ℕ → Option ℕ → Step CopyState
scan_row s row epoch next = scan_by s row epoch next s.feed

-- the lock of a row is let go of, and then what is behind the row is gone on with
unfoldable pub passing : CopyState → Task → List ℕ → Option ℕ → Step CopyState
passing s task key next =
    after (sends_only (to_place (rows_of s.node) (Copying (LqhUnlock key)) ∷ [])) (going s task next)

abbrev pub taken_by : CopyState → Feed → Step CopyState
taken_by s (Sending task key next) = passing s task key next
taken_by s _ = stay s

-- the member has taken a row that was sent
unfoldable pub taken_row : CopyState → Step CopyState
taken_row s = taken_by s s.feed

abbrev pub named_by : CopyState → Feed → Step CopyState
named_by s (Naming task row epoch next) = passing s task row.0 next
named_by s _ = stay s

-- the member has taken its own row of a key that was named
unfoldable pub named_row : CopyState → Step CopyState
named_row s = named_by s s.feed

abbrev pub refused_by : CopyState → Feed → Step CopyState
refused_by s (Naming task row epoch next) = sends_row s task row epoch next
refused_by s _ = stay s

-- the member has no row of its own of that key: the row is sent whole, under the lock that is still held
unfoldable pub refused_row : CopyState → Step CopyState
refused_row s = refused_by s s.feed
