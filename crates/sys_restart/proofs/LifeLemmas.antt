-- Preparing all disks, and then naming the life on all.
use Rattle.std.proofs.Common.{◌≡◌, ◌∙◌, ℕ, zero, suc, ◌+◌, ◌-◌, ◌≤◌, ◌<◌, true, List, [], ◌∷◌, length, map, get_or, refl, ap, subst, arith, inl, inr}
use Rattle.std.specs.Prelude.{Option, None, Some, Result, Ok, Err}
use Rattle.host_io.specs.Call.{Call}
use Rattle.sig_core.specs.declared.fault.RestartFault.{RestartFault}
use Rattle.sig_core.specs.declared.view.Shape.{Shape}
use Rattle.sysfile_core.specs.Runs.{Runs}
use Rattle.sysfile_core.proofs.RunLemmas.{done}
use Rattle.sys_restart.specs.declared.restored.Restored.{Restored}
use Rattle.sys_restart.specs.Calls.{RunsOrWants, name_calls, node_calls}
use Rattle.sys_restart.specs.LifeCalls.{EndsAt, HasRun, RunInTurn, RunsAll, after_calls, name_asks, prepare_asks, prepared_record, record_of, told_by}

-- the record behind calls that were all made
same_end : (asks calls : List Call) → done asks calls ≡ after_calls asks calls
same_end [] calls = refl
same_end (ask ∷ asks) calls = same_end asks (ask ∷ calls)

pub made_record : (asks calls : List Call) (told : Option (List Call)) → Runs asks calls told true
    → told ≡ Some (after_calls asks calls)
made_record [] calls told runs = runs.0
made_record (ask ∷ asks) calls told (inl (fails, not_so)) = absurd cc
made_record (ask ∷ asks) calls told (inr (may, runs)) = made_record asks (ask ∷ calls) told runs

-- a list of what nodes have, from one on
pub listed : (ℕ → List Call) → ℕ → ℕ → List (List Call)
listed records node zero = []
listed records node (suc more) = records node ∷ listed records (node + 1) more

pub length_listed : (records : ℕ → List Call) (node more : ℕ) → length (listed records node more) ≡ more
unfolding listed
length_listed records node zero = refl
length_listed records node (suc more) = ap suc (length_listed records (node + 1) more)

listed_at : (records : ℕ → List Call) (node more k : ℕ) → k < more
    → get_or (listed records node more) k [] ≡ records (node + k)
unfolding listed
listed_at records node zero k below = absurd (omega (arith, below))
listed_at records node (suc more) zero below = ap records (omega arith)
listed_at records node (suc more) (suc k) below =
    listed_at records (node + 1) more k (omega (arith, below)) ∙ ap records (omega arith)

pub record_listed : (records : ℕ → List Call) (count node : ℕ) → 1 ≤ node → node ≤ count
    → record_of (listed records 1 count) node ≡ records node
record_listed records count node some few =
    listed_at records 1 count (node - 1) (omega (arith, some, few)) ∙ ap records (omega (arith, some))

-- what all disks tell is the list of what each tells
pub told_listed : (told : List (Option (List Call))) (records : ℕ → List Call) (node : ℕ)
    → ((k : ℕ) → k < length told → get_or told k None ≡ Some (records (node + k)))
    → told ≡ map Some (listed records node (length told))
unfolding listed
told_listed [] records node each = refl
told_listed (one ∷ told) records node each =
    ap (λ first. first ∷ told) (each 0 (omega arith) ∙ ap (λ (n : ℕ). Some (records n)) (omega arith))
    ∙ ap (λ rest. Some (records node) ∷ rest)
    (told_listed told records (node + 1)
    (λ k below. each (suc k) (omega (arith, below)) ∙ ap (λ (n : ℕ). Some (records n)) (omega arith)))

-- calls in turn, of which the nodes have these records and are asked for these calls
module _ (asks asks_too records records_too : ℕ → List Call) (told : List (Option (List Call))) (count : ℕ)
    (result : Result (Unit {0}) RestartFault) (last : ℕ)
    (same_asks : (node : ℕ) → 1 ≤ node → node ≤ count → asks node ≡ asks_too node)
    (same_records : (node : ℕ) → 1 ≤ node → node ≤ count → records node ≡ records_too node) where
  moved : (node : ℕ) (answer : Result (Unit {0}) RestartFault) → 1 ≤ node → node ≤ count
      → RunsOrWants (asks node) (records node) (told_by told node) answer
      → RunsOrWants (asks_too node) (records_too node) (told_by told node) answer
  moved node answer some few runs =
      subst (λ calls. RunsOrWants (asks_too node) calls (told_by told node) answer) (same_records node some few)
      (subst (λ calls. RunsOrWants calls (records node) (told_by told node) answer) (same_asks node some few) runs)

  pub turns_as : RunInTurn asks records told count result last → last ≤ count
      → RunInTurn asks_too records_too told count result last
  turns_as turns within = record {
    whole = λ node some few. moved node (Ok tt) some (omega (arith, few, within)) (turns.whole node some few);
    last = by result turns.last;
    behind = λ node some few.
        turns.behind node some few ∙ ap Some (same_records node (omega (arith, some)) few);
  }
    where
      by : (answer : Result (Unit {0}) RestartFault) → EndsAt asks records told count last answer
          → EndsAt asks_too records_too told count last answer
      by (Ok all) ends = ends
      by (Err fault) ends = (ends.0, moved (last + 1) (Err fault) (omega arith) (omega (arith, ends.0)) ends.1)

-- the last node lies within
pub ends_within : (asks records : ℕ → List Call) (told : List (Option (List Call))) (count last : ℕ)
    (result : Result (Unit {0}) RestartFault) → EndsAt asks records told count last result → last ≤ count
ends_within asks records told count last (Ok all) ends = omega (arith, ends)
ends_within asks records told count last (Err fault) ends = omega (arith, ends.0)

-- a node that failed while all were prepared
pub stops_preparing : (shape : Shape) (r : Restored) (records : List (List Call)) (told : List (Option (List Call)))
    (fault : RestartFault) → HasRun (prepare_asks shape r records) records told (Err fault)
    → RunsAll shape r records told (Err fault)
stops_preparing shape r records told fault (last, turns) = inl (last, turns.last.0, turns)

module _ (shape : Shape) (r : Restored) (records : List (List Call)) (mid told : List (Option (List Call)))
    (result : Result (Unit {0}) RestartFault) (many : length mid ≡ length records)
    (first : HasRun (prepare_asks shape r records) records mid (Ok tt)) where
  abbrev prepared : ℕ → List Call
  prepared = prepared_record shape r (record_of records)

  -- each node was prepared
  pub each_made : (node : ℕ) → 1 ≤ node → node ≤ length records
      → Runs (node_calls (record_of records node) shape node r) (record_of records node) (Some (prepared node)) true
  each_made node some few = by first
    where
      by : HasRun (prepare_asks shape r records) records mid (Ok tt)
          → Runs (node_calls (record_of records node) shape node r) (record_of records node) (Some (prepared node)) true
      by (last, turns) =
          let runs = turns.whole node some (omega (arith, few, turns.last)) in
          subst (λ now. Runs (node_calls (record_of records node) shape node r) (record_of records node) now true)
          (made_record (node_calls (record_of records node) shape node r) (record_of records node) (told_by mid node)
          runs) runs

  told_now : (node : ℕ) → 1 ≤ node → node ≤ length records → told_by mid node ≡ Some (prepared node)
  told_now node some few = by first
    where
      by : HasRun (prepare_asks shape r records) records mid (Ok tt) → told_by mid node ≡ Some (prepared node)
      by (last, turns) =
          made_record (node_calls (record_of records node) shape node r) (record_of records node) (told_by mid node)
          (turns.whole node some (omega (arith, few, turns.last)))

  -- so these are the records from which naming goes on
  pub mid_listed : mid ≡ map Some (listed prepared 1 (length records))
  mid_listed =
      told_listed mid prepared 1
      (λ k below.
      ap (λ (n : ℕ). get_or mid n None) (omega arith)
      ∙ told_now (1 + k) (omega arith) (omega (arith, below, many)))
      ∙ ap (λ (n : ℕ). map Some (listed prepared 1 n)) many

  pub then_named : HasRun (name_asks shape r (listed prepared 1 (length records))) (listed prepared 1 (length records))
      told result
      → RunsAll shape r records told result
  then_named (last, turns) =
      let all = listed prepared 1 (length records) in
      let size : length all ≡ length records = length_listed prepared 1 (length records) in
      let counted : RunInTurn (name_asks shape r all) (record_of all) told (length records) result last =
      subst (λ (n : ℕ). RunInTurn (name_asks shape r all) (record_of all) told n result last) size turns in
      inr (
        last,
        record {
          prepared = each_made;
          named =
              turns_as (name_asks shape r all) (λ node. name_calls (prepared node) shape r) (record_of all) prepared told
              (length records) result last
              (λ node some few.
              ap (λ calls. name_calls calls shape r) (record_listed prepared (length records) node some few))
              (record_listed prepared (length records)) counted
              (ends_within (name_asks shape r all) (record_of all) told (length records) last result counted.last);
        },
      )
