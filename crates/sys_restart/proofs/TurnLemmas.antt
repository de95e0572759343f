-- Calls on several disks, one after the other.
use Rattle.std.proofs.Common.{◌≡◌, ◌∙◌, ℕ, zero, suc, ◌+◌, ◌-◌, ◌≤◌, ◌<◌, List, [], ◌∷◌, length, map, get_or, refl, ap, sym, subst, inl, inr, arith}
use Rattle.std.specs.Prelude.{Option, None, Some, Result, Ok, Err}
use Rattle.std.proofs.Math.ListN.{set}
use Rattle.std.proofs.lemmas.Bool.{cases_lt}
use Rattle.host_io.specs.Call.{Call}
use Rattle.sig_core.specs.declared.fault.RestartFault.{RestartFault}
use Rattle.sys_restart.specs.Calls.{RunsOrWants}
use Rattle.sys_restart.specs.LifeCalls.{RunInTurn, record_of, told_by}
use Rattle.sys_restart.proofs.DisksLemmas.{tails, uneven}

-- what is told at a place of which an element was put, and at the others
told_set : {A B : Type 0} (T : A → B) (xs : List A) (k : ℕ) (new : A) (none : B) → k < length xs
    → get_or (map T (set xs k new)) k none ≡ T new
told_set T [] k new none below = absurd (omega (arith, below))
told_set T (x ∷ xs) zero new none below = refl
told_set T (x ∷ xs) (suc k) new none below = told_set T xs k new none (omega (arith, below))

told_else : {A B : Type 0} (T : A → B) (xs : List A) (k j : ℕ) (new : A) (none : B) → (k ≡ j → ⊥)
    → get_or (map T (set xs k new)) j none ≡ get_or (map T xs) j none
told_else T [] k j new none apart = refl
told_else T (x ∷ xs) zero zero new none apart = absurd (apart refl)
told_else T (x ∷ xs) zero (suc j) new none apart = refl
told_else T (x ∷ xs) (suc k) zero new none apart = refl
told_else T (x ∷ xs) (suc k) (suc j) new none apart = told_else T xs k j new none (λ same. apart (ap suc same))

some_at : (records : List (List Call)) (k : ℕ) → k < length records
    → get_or (map Some records) k None ≡ Some (get_or records k [])
some_at [] k below = absurd (omega (arith, below))
some_at (calls ∷ records) zero below = refl
some_at (calls ∷ records) (suc k) below = some_at records k (omega (arith, below))

-- as many records as disks
pub same_length : {A : Type 0} (T : A → Option (List Call)) (xs : List A) (records : List (List Call))
    → map T xs ≡ map Some records → length xs ≡ length records
same_length T [] [] told = refl
same_length T [] (calls ∷ records) told = absurd (uneven (Some calls) (map Some records) (sym told))
same_length T (x ∷ xs) [] told = absurd (uneven (T x) (map T xs) told)
same_length T (x ∷ xs) (calls ∷ records) told =
    ap suc (same_length T xs records (tails (T x) (Some calls) (map T xs) (map Some records) told))

-- the first disks have had their calls, and the others are as they were
pub record Turns (asks records : ℕ → List Call) (told : List (Option (List Call))) (count done : ℕ) : Type 0 where
  pub whole :
      (node : ℕ) → 1 ≤ node → node ≤ done
      → RunsOrWants (asks node) (records node) (told_by told node) (Ok tt)
  pub behind : (node : ℕ) → done + 1 ≤ node → node ≤ count → told_by told node ≡ Some (records node)

pub turns_begin : {A : Type 0} (T : A → Option (List Call)) (xs : List A) (records : List (List Call))
    (asks : ℕ → List Call) → map T xs ≡ map Some records
    → Turns asks (record_of records) (map T xs) (length records) 0
turns_begin T xs records asks told = record {
  whole = λ node some few. absurd (omega (arith, some, few));
  behind = λ node some few.
      ap (λ all. told_by all node) told ∙ some_at records (node - 1) (omega (arith, some, few));
}

-- what was told behind the last is still told
still_told : {A : Type 0} (T : A → Option (List Call)) (xs : List A) (asks records : ℕ → List Call) (count k : ℕ)
    (new : A) → Turns asks records (map T xs) count k → (node : ℕ) → k + 2 ≤ node → node ≤ count
    → told_by (map T (set xs k new)) node ≡ Some (records node)
still_told T xs asks records count k new turns node some few =
    told_else T xs k (node - 1) new None (λ same. absurd (omega (arith, same, some)))
    ∙ turns.behind node (omega (arith, some)) few

-- those before it have had their calls
were_made : {A : Type 0} (T : A → Option (List Call)) (xs : List A) (asks records : ℕ → List Call) (count k : ℕ)
    (new : A) → Turns asks records (map T xs) count k → (node : ℕ) → 1 ≤ node → node ≤ k
    → RunsOrWants (asks node) (records node) (told_by (map T (set xs k new)) node) (Ok tt)
were_made T xs asks records count k new turns node some few =
    subst (λ told. RunsOrWants (asks node) (records node) told (Ok tt))
    (sym (told_else T xs k (node - 1) new None (λ same. absurd (omega (arith, same, some, few)))))
    (turns.whole node some few)

-- the calls on one more disk
here : {A : Type 0} (T : A → Option (List Call)) (xs : List A) (asks records : ℕ → List Call) (k : ℕ) (new : A)
    (result : Result (Unit {0}) RestartFault) → k < length xs
    → RunsOrWants (asks (k + 1)) (records (k + 1)) (T new) result
    → RunsOrWants (asks (k + 1)) (records (k + 1)) (told_by (map T (set xs k new)) (k + 1)) result
here T xs asks records k new result below runs =
    let at : k ≡ k + 1 - 1 = omega arith in
    let told : T new ≡ told_by (map T (set xs k new)) (k + 1) =
    sym (told_set T xs k new None below) ∙ ap (λ (p : ℕ). get_or (map T (set xs k new)) p None) at in
    subst (λ now. RunsOrWants (asks (k + 1)) (records (k + 1)) now result) told runs

pub turns_more : {A : Type 0} (T : A → Option (List Call)) (xs : List A) (asks records : ℕ → List Call) (count k : ℕ)
    (new : A) → Turns asks records (map T xs) count k → k < length xs
    → RunsOrWants (asks (k + 1)) (records (k + 1)) (T new) (Ok tt)
    → Turns asks records (map T (set xs k new)) count (k + 1)
turns_more T xs asks records count k new turns below runs = record {
  whole = λ node some few.
      elim (cases_lt k node) [
        | inl last ↦
            let at : k + 1 ≡ node = omega (arith, last, few) in
            subst
            (λ (n : ℕ). RunsOrWants (asks n) (records n) (told_by (map T (set xs k new)) n) (Ok tt)) at
            (here T xs asks records k new (Ok tt) below runs)
        | inr before ↦ were_made T xs asks records count k new turns node some before
      ];
  behind = λ node some few. still_told T xs asks records count k new turns node (omega (arith, some)) few;
}

pub turns_stop : {A : Type 0} (T : A → Option (List Call)) (xs : List A) (asks records : ℕ → List Call) (count k : ℕ)
    (new : A) (fault : RestartFault) → Turns asks records (map T xs) count k → k < length xs → k < count
    → RunsOrWants (asks (k + 1)) (records (k + 1)) (T new) (Err fault)
    → RunInTurn asks records (map T (set xs k new)) count (Err fault) k
turns_stop T xs asks records count k new fault turns below within runs = record {
  whole = were_made T xs asks records count k new turns;
  last = (within, here T xs asks records k new (Err fault) below runs);
  behind = still_told T xs asks records count k new turns;
}

pub turns_end : (asks records : ℕ → List Call) (told : List (Option (List Call))) (count done : ℕ)
    → Turns asks records told count done → done ≡ count → RunInTurn asks records told count (Ok tt) done
turns_end asks records told count done turns all = record {
  whole = turns.whole;
  last = all;
  behind = λ node some few. turns.behind node (omega (arith, some)) few;
}

told_of : {A : Type 0} (T : A → Option (List Call)) (xs : List A) (k : ℕ) (x : A) → k < length xs
    → get_or (map T xs) k None ≡ T (get_or xs k x)
told_of T [] k x below = absurd (omega (arith, below))
told_of T (y ∷ xs) zero x below = refl
told_of T (y ∷ xs) (suc k) x below = told_of T xs k x (omega (arith, below))

-- the record of a disk, as its own calls see it
pub own_record : {A : Type 0} (T : A → Option (List Call)) (xs : List A) (records : List (List Call))
    (asks : ℕ → List Call) (k : ℕ) (x : A) → Turns asks (record_of records) (map T xs) (length records) k
    → k < length xs → k < length records → T (get_or xs k x) ≡ Some (record_of records (k + 1))
own_record T xs records asks k x turns below within =
    let at : k + 1 - 1 ≡ k = omega arith in
    sym (told_of T xs k x below)
    ∙ ap (λ (p : ℕ). get_or (map T xs) p None) (sym at)
    ∙ turns.behind (k + 1) (omega arith) (omega (arith, within))
