-- The crash outcomes of a disk in memory, by the picks that it was given.
use Rattle.std.specs.Prelude.{ℕ, ◌+◌, ◌-◌, ◌*◌, ◌/◌, List, [], ◌∷◌, ◌++◌, take, drop, length, replicate, get_or}
use Rattle.host_io.specs.declared.dirty.DirtyRange.{DirtyRange}
use Rattle.host_io.specs.DiskState.{FileState}

-- the next of the picks, 0 where they are used up, and so many of them
abbrev pub next_pick : List ℕ → ℕ
next_pick picks = get_or picks 0 0

unfoldable pub next_picks : ℕ → List ℕ → List ℕ
next_picks count picks = take count picks ++ replicate (count - length picks) 0

-- the share of a length that a pick takes: nothing by 0, and all by 255
unfoldable pub share : ℕ → ℕ → ℕ
share whole pick = whole * pick / 255

-- bytes after a crash, and the picks that are left
pub record Spoiled : Type 0 where
  pub bytes : List ℕ
  pub picks : List ℕ

-- bytes of which a range has taken the next picks
unfoldable pub over_range : DirtyRange → List ℕ → List ℕ → List ℕ
over_range range bytes picks =
    take range.from bytes ++ next_picks (range.to - range.from) picks ++ drop range.to bytes

-- each dirty range takes the next picks, the oldest range first
abbrev pub spoiled : List DirtyRange → List ℕ → List ℕ → Spoiled
spoiled [] bytes picks = record { bytes = bytes; picks = picks }
spoiled (range ∷ ranges) bytes picks =
    spoiled ranges (over_range range bytes picks) (drop (range.to - range.from) picks)

-- A file after a crash: the first pick says how much of what follows the synced end stays, and then come the dirty
-- ranges.
unfoldable pub crashed : FileState → List ℕ → Spoiled
crashed s picks =
    let left = spoiled s.dirty s.bytes (drop 1 picks) in
    record left { bytes = take (s.synced + share (length s.bytes - s.synced) (next_pick picks)) left.bytes }

-- the files after a crash, in order, and the picks that are left
pub record Crash : Type 0 where
  pub files : List (List ℕ)
  pub picks : List ℕ

abbrev pub crash : List FileState → List ℕ → Crash
crash [] picks = record { files = []; picks = picks }
crash (s ∷ files) picks =
    let one = crashed s picks in
    let others = crash files one.picks in
    record others { files = one.bytes ∷ others.files }
