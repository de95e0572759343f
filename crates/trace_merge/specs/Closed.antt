-- Whether a cut, given by how many steps of each log are inside, is closed.
use Rattle.std.specs.Prelude.{◌&&◌, ◌||◌, not, nat_lt, ℕ, ◌+◌, Bool, List, [], ◌∷◌, map, reverse, slice_index_or, take}
use Rattle.std.specs.Prelude.{if◌then◌else◌, Option, None, Some, Result, Ok, Err}
use Rattle.sig_core.specs.declared.log.HostLog.{HostLog}
use Rattle.sig_core.specs.declared.log.LogStep.{LogStep}
use Rattle.world_core.specs.Steps.{HostStep}
use Rattle.world_core.specs.World.{no_steps, of_host, steps_of}
use Rattle.world_views.specs.Sending.{is_asked}
use Rattle.trace_merge.specs.declared.closed.CutFault.{CutFault}

-- the steps of a host inside, the newest first
abbrev pub newest_inside : List HostLog → List ℕ → ℕ → List LogStep
newest_inside logs cut h = reverse (take (slice_index_or cut h 0) (steps_of logs h))

-- the part of each log inside
abbrev pub parts_at : List HostLog → List ℕ → ℕ → List HostStep
parts_at logs cut h = map (of_host h) (newest_inside logs cut h)

-- the stamp at which a host was made; 0 where it has no log
abbrev pub made_at : List HostLog → ℕ → ℕ
made_at logs h = (slice_index_or logs h (no_steps 0)).made

-- the stamp of the newest of these steps, or this one where there is none
abbrev pub newest_stamp : ℕ → List LogStep → ℕ
newest_stamp made [] = made
newest_stamp made (e ∷ log) = e.stamp

-- the stamp of a host's last step inside, or of its making where there is none inside
abbrev pub last_inside : List HostLog → List ℕ → ℕ → ℕ
last_inside logs cut h = newest_stamp (made_at logs h) (newest_inside logs cut h)

-- a link gave host h the signal of this step, and it was sent behind its sender's last step inside
abbrev pub is_sent_outside : List HostLog → List ℕ → ℕ → LogStep → Bool
is_sent_outside logs cut h e = not (is_asked h e.taken) && nat_lt (last_inside logs cut e.taken.from.0) e.taken.stamp

-- so was it, or the host of this log was made behind the last step of the shell's host inside
abbrev pub is_outside : List HostLog → List ℕ → ℕ → HostLog → LogStep → Bool
is_outside logs cut h log e = nat_lt (last_inside logs cut 0) log.made || is_sent_outside logs cut h e

-- the first of these steps of the log of host h, numbered from n on, that stands against the cut
abbrev pub fault_from : List HostLog → List ℕ → ℕ → HostLog → ℕ → List LogStep → Option CutFault
fault_from logs cut h log n [] = None
fault_from logs cut h log n (e ∷ steps) =
    if is_outside logs cut h log e then Some (record { host = log.host; step = n }) else fault_from logs cut h log
    (n + 1) steps

-- the first one of a log, of which so many steps are inside
unfoldable pub fault_in : List HostLog → List ℕ → ℕ → HostLog → ℕ → Option CutFault
fault_in logs cut h log inside = fault_from logs cut h log 0 (take inside log.steps)

-- the former, where there is one
abbrev pub or_later : Option CutFault → Option CutFault → Option CutFault
or_later None later = later
or_later (Some fault) later = Some fault

-- the first one of these logs, log after log, of which the first is that of host h
abbrev pub first_fault : List HostLog → List ℕ → List HostLog → ℕ → Option CutFault
first_fault logs cut [] h = None
first_fault logs cut (log ∷ rest) h =
    or_later (fault_in logs cut h log (slice_index_or cut h 0)) (first_fault logs cut rest (h + 1))

-- a cut is closed where nothing stands against it
abbrev pub cut_answer : Option CutFault → Result (Unit {0}) CutFault
cut_answer None = Ok tt
cut_answer (Some fault) = Err fault
