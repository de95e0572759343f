-- Making disks ready leaves records that have only grown.
use Rattle.std.proofs.Common.{◌≡◌, ◌∙◌, ◌⊎◌, inl, inr, ℕ, zero, suc, ◌+◌, ◌-◌, ◌<◌, ◌≤◌, Bool, true, false, List, []}
use Rattle.std.proofs.Common.{◌∷◌, length, map, get_or, refl, ap, sym, subst, arith}
use Rattle.std.specs.Prelude.{Option, None, Some, Result, Ok, Err}
use Rattle.std.proofs.lemmas.Bool.{cases_lt}
use Rattle.host_io.specs.Call.{Call}
use Rattle.sig_core.specs.declared.fault.RestartFault.{RestartFault}
use Rattle.sig_core.specs.declared.fault.RestartFault.TheVariants.{Damaged, DiskFault, NoMemory, OtherShape, UsedUp}
use Rattle.sig_core.specs.declared.view.Shape.{Shape}
use Rattle.sys_restart.specs.Calls.{RunsOrWants, is_used_up, node_calls}
use Rattle.sys_restart.specs.declared.restored.Restored.{Restored}
use Rattle.sys_restart.specs.LifeCalls.{EndsAt, HasRun, RunInTurn, RunsAll, prepared_record, record_of, told_by}
use Rattle.life_start.specs.Records.{AllTellMore, HaveMore, TellsMore}
use Rattle.life_start.proofs.RecordLemmas.{more_itself, runs_more, same_longer, tells_then}

-- calls on one disk
wants_more : (asks calls : List Call) (told : Option (List Call)) (result : Result (Unit {0}) RestartFault)
    → RunsOrWants asks calls told result → TellsMore (Some calls) told
wants_more asks calls told (Ok done) runs = runs_more asks calls told true runs
wants_more asks calls told (Err NoMemory) none = (calls, (none, same_longer calls))
wants_more asks calls told (Err (DiskFault node count)) runs = runs_more asks calls told false runs
wants_more asks calls told (Err (Damaged node file at byte)) runs = absurd runs
wants_more asks calls told (Err (OtherShape found asked)) runs = absurd runs
wants_more asks calls told (Err (UsedUp generation epoch)) runs = absurd runs

-- calls in turn
module _ (asks records : ℕ → List Call) (told : List (Option (List Call))) (count done : ℕ) where
  -- at the last node
  last_more : (result : Result (Unit {0}) RestartFault) → EndsAt asks records told count done result
      → done + 1 ≤ count → TellsMore (Some (records (done + 1))) (told_by told (done + 1))
  last_more (Ok all) ends within = absurd (omega (arith, ends, within))
  last_more (Err fault) ends within =
      wants_more (asks (done + 1)) (records (done + 1)) (told_by told (done + 1)) (Err fault) ends.1

  turn_more : (result : Result (Unit {0}) RestartFault) (node : ℕ) → RunInTurn asks records told count result done
      → 1 ≤ node → node ≤ count → TellsMore (Some (records node)) (told_by told node)
  turn_more result node turns some few = by (cases_lt done node)
    where
      behind : (done + 1 < node) ⊎ (node ≤ done + 1) → done < node → TellsMore (Some (records node)) (told_by told node)
      behind (inl far) more = (records node, (turns.behind node (omega (arith, far)) few, same_longer (records node)))
      behind (inr near) more =
          let at : done + 1 ≡ node = omega (arith, near, more) in
          subst (λ (n : ℕ). TellsMore (Some (records n)) (told_by told n)) at
          (last_more result turns.last (omega (arith, at, few)))

      by : (done < node) ⊎ (node ≤ done) → TellsMore (Some (records node)) (told_by told node)
      by (inl more) = behind (cases_lt (done + 1) node) more
      by (inr before) =
          wants_more (asks node) (records node) (told_by told node) (Ok tt) (turns.whole node some before)

-- all disks are prepared, and then named
run_more : (shape : Shape) (r : Restored) (records : List (List Call)) (told : List (Option (List Call)))
    (result : Result (Unit {0}) RestartFault) (node : ℕ) → RunsAll shape r records told result
    → 1 ≤ node → node ≤ length records → TellsMore (Some (record_of records node)) (told_by told node)
run_more shape r records told result node (inl (done, less, turns)) some few =
    turn_more (λ (n : ℕ). node_calls (record_of records n) shape n r) (record_of records) told (length records) done
    result node turns some few
run_more shape r records told result node (inr (done, all)) some few =
    let made = prepared_record shape r (record_of records) in
    tells_then (Some (record_of records node)) (Some (made node)) (told_by told node)
    (runs_more (node_calls (record_of records node) shape node r) (record_of records node) (Some (made node)) true
    (all.prepared node some few))
    (turn_more _ made told (length records) done result node all.named some few)

-- what stands in a list of records, and behind it
at_more : (records : List (List Call)) (k : ℕ) (told : Option (List Call))
    → (k < length records → TellsMore (Some (get_or records k [])) told)
    → TellsMore (get_or (map Some records) k None) told
at_more [] k told more = tt
at_more (calls ∷ records) zero told more = more (omega arith)
at_more (calls ∷ records) (suc k) told more = at_more records k told (λ below. more (omega (arith, below)))

all_more : (shape : Shape) (r : Restored) (records : List (List Call)) (told : List (Option (List Call)))
    (result : Result (Unit {0}) RestartFault) → length told ≡ length (map Some records)
    → RunsAll shape r records told result
    → HaveMore (map Some records) told
all_more shape r records told result many runs = record {
  many = many;
  each = λ k.
      at_more records k (get_or told k None)
      (λ below.
      let at : k + 1 - 1 ≡ k = omega arith in
      subst (λ (p : ℕ). TellsMore (Some (get_or records p [])) (get_or told p None)) at
      (run_more shape r records told result (k + 1) runs (omega arith) (omega (arith, below))));
}

-- disks that were to be made ready
pub readied_more : (shape : Shape) (r : Restored) (before told : List (Option (List Call)))
    (result : Result (Unit {0}) RestartFault) → length told ≡ length before
    → (is_used_up r ≡ true → told ≡ before)
    → ((records : List (List Call)) → before ≡ map Some records → is_used_up r ≡ false
    → RunsAll shape r records told result)
    → AllTellMore before told
readied_more shape r before told result many used runs records all = by (is_used_up r) refl
  where
    by : (is : Bool) → is_used_up r ≡ is → HaveMore before told
    by true is = subst (HaveMore before) (sym (used is)) (more_itself before)
    by false is =
        subst (λ first. HaveMore first told) (sym all)
        (all_more shape r records told result (many ∙ ap length all) (runs records all is))

-- disks of which each had its calls, up to the first that failed
pub asked_more : (asks : ℕ → List Call) (before told : List (Option (List Call)))
    (result : Result (Unit {0}) RestartFault) → length told ≡ length before
    → ((records : List (List Call)) → before ≡ map Some records → HasRun asks records told result)
    → AllTellMore before told
asked_more asks before told result many runs records all =
    let run = runs records all in
    subst (λ first. HaveMore first told) (sym all)
    (record {
      many = many ∙ ap length all;
      each = λ k.
          at_more records k (get_or told k None)
          (λ below.
          let at : k + 1 - 1 ≡ k = omega arith in
          subst (λ (p : ℕ). TellsMore (Some (get_or records p [])) (get_or told p None)) at
          (turn_more asks (record_of records) told (length records) run.0 result (k + 1) run.1 (omega arith)
          (omega (arith, below))));
    })
