-- The calls by which the disks of a cluster are made ready for its next life.
use Rattle.std.specs.Prelude.{◌≡◌, ◌≤◌, ◌<◌, ◌⊎◌, ℕ, ◌+◌, ◌-◌, true, List, [], ◌∷◌, get_or, length, Option, None, Some, Result, Ok, Err}
use Rattle.host_io.specs.Call.{Call}
use Rattle.sig_core.specs.declared.fault.RestartFault.{RestartFault}
use Rattle.sig_core.specs.declared.fault.RestartFault.TheVariants.{UsedUp}
use Rattle.sig_core.specs.declared.view.Shape.{Shape}
use Rattle.sysfile_core.specs.Runs.{Runs}
use Rattle.sys_restart.specs.declared.restored.Restored.{Restored}
use Rattle.sys_restart.specs.Calls.{RunsOrWants, name_calls, node_calls}

-- a record after more calls, the first of them first
abbrev pub after_calls : List Call → List Call → List Call
after_calls [] calls = calls
after_calls (ask ∷ asks) calls = after_calls asks (ask ∷ calls)

-- the record of a node's disk, of those of all
abbrev pub record_of : List (List Call) → ℕ → List Call
record_of records node = get_or records (node - 1) []

-- what a node's disk tells, of what all tell
abbrev pub told_by : List (Option (List Call)) → ℕ → Option (List Call)
told_by told node = get_or told (node - 1) None

-- the last node at which calls were made, behind so many others: all were, or it is the one that failed
abbrev pub EndsAt : (ℕ → List Call) → (ℕ → List Call) → List (Option (List Call)) → ℕ → ℕ
    → Result (Unit {0}) RestartFault → Type 0
EndsAt asks records told count done (Ok all) = done ≡ count
EndsAt asks records told count done (Err fault) =
    (done < count) × RunsOrWants (asks (done + 1)) (records (done + 1)) (told_by told (done + 1)) (Err fault)

-- Calls were made on the disks of so many nodes, one node after the other, up to the first that failed. Those behind it
-- are as they were.
pub record RunInTurn (asks records : ℕ → List Call) (told : List (Option (List Call))) (count : ℕ)
    (result : Result (Unit {0}) RestartFault) (done : ℕ) : Type 0 where
  pub whole :
      (node : ℕ) → 1 ≤ node → node ≤ done
      → RunsOrWants (asks node) (records node) (told_by told node) (Ok tt)
  pub last : EndsAt asks records told count done result
  pub behind : (node : ℕ) → done + 2 ≤ node → node ≤ count → told_by told node ≡ Some (records node)

-- some disks have had their calls so
abbrev pub HasRun : (ℕ → List Call) → List (List Call) → List (Option (List Call)) → Result (Unit {0}) RestartFault
    → Type 0
HasRun asks records told result =
    (done : ℕ) × RunInTurn asks (record_of records) told (length records) result done

-- the calls that prepare each node, and those that name the life on each
abbrev pub prepare_asks : Shape → Restored → List (List Call) → ℕ → List Call
prepare_asks shape r records node = node_calls (record_of records node) shape node r

abbrev pub name_asks : Shape → Restored → List (List Call) → ℕ → List Call
name_asks shape r records node = name_calls (record_of records node) shape r

-- the record of a node's disk that is prepared
abbrev pub prepared_record : Shape → Restored → (ℕ → List Call) → ℕ → List Call
prepared_record shape r records node =
    after_calls (node_calls (records node) shape node r) (records node)

-- all are prepared, and then named
pub record AreNamed (shape : Shape) (r : Restored) (records : ℕ → List Call) (told : List (Option (List Call)))
    (count : ℕ) (result : Result (Unit {0}) RestartFault) (done : ℕ) : Type 0 where
  pub prepared :
      (node : ℕ) → 1 ≤ node → node ≤ count
      → Runs (node_calls (records node) shape node r) (records node)
      (Some (prepared_record shape r records node)) true
  pub named :
      RunInTurn (λ node. name_calls (prepared_record shape r records node) shape r)
      (prepared_record shape r records) told count result done

-- Each disk is prepared, in the order of the nodes, and then each is named, up to the first call that failed.
abbrev pub RunsAll : Shape → Restored → List (List Call) → List (Option (List Call)) → Result (Unit {0}) RestartFault
    → Type 0
RunsAll shape r records told result =
    ((done : ℕ) × (done < length records)
    × RunInTurn (λ node. node_calls (record_of records node) shape node r) (record_of records) told
    (length records) result done)
    ⊎ ((done : ℕ) × AreNamed shape r (record_of records) told (length records) result done)

abbrev pub IsUsedUp : Result (Unit {0}) RestartFault → Type 0
IsUsedUp (Err (UsedUp generation epoch)) = Unit {0}
IsUsedUp (Err fault) = ⊥
IsUsedUp (Ok done) = ⊥
