-- What a disk in memory is seen as.
use Rattle.std.specs.Prelude.{◌≡◌, ◌⊎◌, ℕ, ◌<◌, ◌+◌, ◌-◌, ◌^◌, ◌==◌, Bool, true, false, ◌||◌, min, nat_le, Option, Some}
use Rattle.std.specs.Prelude.{None, List, [], ◌∷◌, take, drop, length}
use Rattle.std.specs.List.{list_any}
use Rattle.host_io.specs.declared.journal.Entry.{Entry}
use Rattle.host_io.specs.declared.journal.Entry.TheVariants.{Write, Tear, Sync, Cut}
use Rattle.host_io.specs.declared.limits.TheConstants.{FILES}
use Rattle.host_io.specs.Call.{Call, Wrote, Tore, Synced, Lost}
use Rattle.host_io.specs.Disk.{ends_cut}
use Rattle.host_io.specs.DiskState.{FileState, states}
use Rattle.host_io.specs.Image.{IsRecord, MayFollow}
use Rattle.host_io.specs.Outcome.{crash, next_pick, share}

-- The record of its calls, newest first; the picks that aren't used up; the calls that fail, by their numbers, and the
-- number from which all fail until power is cut; the number of its next call; and its count of faults.
pub record Memory : Type 0 where
  pub told : List Call
  pub picks : List ℕ
  pub fails : List ℕ
  pub fuse : Option ℕ
  pub calls : ℕ
  pub faults : ℕ

-- What its journal is seen as: the record, the picks that aren't used up, and for how many calls it has room.
pub record JournalState : Type 0 where
  pub told : List Call
  pub picks : List ℕ
  pub spare : ℕ

-- the files of a disk are those of its record, and there is room for a cut of power
abbrev pub AreTold : List FileState → List Call → ℕ → Type 0
AreTold files told spare =
    (length files ≡ FILES) × (files ≡ states told) × IsRecord told × (ends_cut told ≡ false → 0 < spare)

-- the call of an entry of the journal, behind earlier calls
abbrev pub call_of : List ℕ → List Call → Entry → Call
call_of picks calls (Write file at bytes) = Wrote file at bytes.items
call_of picks calls (Tear file at asked laid) = Tore file at asked.items (take laid asked.items)
call_of picks calls (Sync file) = Synced file
call_of picks calls (Cut used) = Lost (crash (states calls) (drop used picks)).files

-- the record that a journal tells behind earlier calls
abbrev pub told_behind : List ℕ → List Call → List Entry → List Call
told_behind picks calls [] = calls
told_behind picks calls (entry ∷ entries) = told_behind picks (call_of picks calls entry ∷ calls) entries

abbrev pub is_burnt : Option ℕ → ℕ → Bool
is_burnt None call = false
is_burnt (Some pass) call = nat_le pass call

-- its next call is to fail
unfoldable pub is_planned : Memory → Bool
is_planned s = list_any (λ call. call == s.calls) s.fails || is_burnt s.fuse s.calls

abbrev pub one_more : ℕ → ℕ
one_more count = min (count + 1) (2 ^ 64 - 1)

-- it counted a call, and a fault
abbrev pub called : Memory → Memory
called s = record s { calls = one_more s.calls }

abbrev pub faulted : Memory → Memory
faulted s = record s { faults = one_more s.faults }

abbrev pub failed : Memory → Memory
failed s = faulted (called s)

-- its record has one entry more
abbrev pub recorded : Memory → Call → Memory
recorded s call = record s { told = call ∷ s.told }

-- a write that is to fail lays down the share of what is asked for that the next pick says
abbrev pub torn_call : Memory → ℕ → ℕ → List ℕ → Call
torn_call s file at asked = Tore file at asked (take (share (length asked) (next_pick s.picks)) asked)

abbrev pub torn : Memory → ℕ → ℕ → List ℕ → Memory
torn s file at asked = record s { told = torn_call s file at asked ∷ s.told; picks = drop 1 s.picks }

-- it failed at a write, and laid that down if there was memory for it
abbrev pub IsTorn : Memory → Memory → ℕ → ℕ → List ℕ → Type 0
IsTorn old new file at asked =
    (new ≡ faulted old)
    ⊎ (new ≡ faulted (torn old file at asked)) × MayFollow old.told (torn_call old file at asked)

-- what a cut of power leaves
abbrev pub lost_call : Memory → Call
lost_call s = Lost (crash (states s.told) s.picks).files

-- Power is cut: each file has what the next picks say. Right after another cut nothing changes but that the fuse is
-- gone.
abbrev pub cut_by : Memory → Bool → Memory
cut_by s true = record s { fuse = None }
cut_by s false =
    record s { told = lost_call s ∷ s.told; picks = (crash (states s.told) s.picks).picks; fuse = None }

abbrev pub cut : Memory → Memory
cut s = cut_by s (ends_cut s.told)
