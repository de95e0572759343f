-- Where an entry comes from: a step of a host's log decided its transaction, with the operations of the request for an
-- epoch that the host had taken.
use Rattle.std.proofs.Common.{◌≡◌, ◌≤◌, ◌+◌, ◌⊎◌, ◌∙◌, ℕ, zero, suc, Bool, true, false, List, [], ◌∷◌, ap, arith, inl}
use Rattle.std.proofs.Common.{inr, refl, sym}
use Rattle.std.specs.List.{cons_option}
use Rattle.std.specs.Prelude.{if◌then◌else◌, None, Some}
use Rattle.run_theory.specs.Lists.{IsIn, IsPast}
use Rattle.sig_core.specs.declared.entry.Entry.{Entry}
use Rattle.sig_core.specs.declared.mark.Mark.{Mark}
use Rattle.sig_core.specs.declared.mark.Mark.TheVariants.{Decided}
use Rattle.sig_core.specs.declared.member.TxId.{TxId}
use Rattle.sig_core.specs.declared.signal.Body.{Body}
use Rattle.sig_core.specs.declared.signal.Body.TheVariants.{Epoch}
use Rattle.sig_core.specs.declared.signal.epoch.EpochSignal.TheVariants.{DiVerifyReq}
use Rattle.sig_core.specs.Same.{same_tx}
use Rattle.tc_block.specs.Complete.{one_if}
use Rattle.world_core.specs.Entries.{else_of, entries, entries_in, entries_of, entry_of, insert, insert_all, is_before}
use Rattle.world_core.specs.Entries.{ops_of, verified_by}
use Rattle.world_core.specs.Steps.{HostStep}
use Rattle.outcome_laws.specs.Counts.{is_asking}
use Rattle.outcome_laws.specs.Once.{takes_in}
use Rattle.talk_laws.proofs.Picks.{taken_of}

in_step : (a : Entry) (h stamp : ℕ) (log : List HostStep) (marks : List Mark) (before : List Entry)
    → IsIn a (entries_in h stamp log marks before)
    → (IsIn (Decided a.tx a.epoch) marks × (a.ops ≡ ops_of a.tx log)) ⊎ IsIn a before
in_step a h stamp log [] before there = inr there
in_step a h stamp log (Decided tx epoch ∷ marks) before there =
    by (in_step a h stamp log marks (entry_of h stamp log tx epoch ∷ before) there)
  where
    by : (IsIn (Decided a.tx a.epoch) marks × (a.ops ≡ ops_of a.tx log))
        ⊎ IsIn a (entry_of h stamp log tx epoch ∷ before)
        → (IsIn (Decided a.tx a.epoch) (Decided tx epoch ∷ marks) × (a.ops ≡ ops_of a.tx log)) ⊎ IsIn a before
    by (inl found) = inl (inr found.0, found.1)
    by (inr (inl is)) =
        inl (
          inl (λ i. Decided (is i).tx (is i).epoch),
          ap (λ (b : Entry). b.ops) is ∙ ap (λ (b : Entry). ops_of b.tx log) (sym is),
        )
    by (inr (inr there)) = inr there
in_step a h stamp log (mark ∷ marks) before there = by (in_step a h stamp log marks before there)
  where
    by : (IsIn (Decided a.tx a.epoch) marks × (a.ops ≡ ops_of a.tx log)) ⊎ IsIn a before
        → (IsIn (Decided a.tx a.epoch) (mark ∷ marks) × (a.ops ≡ ops_of a.tx log)) ⊎ IsIn a before
    by (inl found) = inl (inr found.0, found.1)
    by (inr there) = inr there

-- it is of this log
pub record IsEntryOf (a : Entry) (all : List HostStep) : Type 0 where
  pub step : HostStep
  pub before : List HostStep
  pub past : IsPast (step ∷ before) all
  pub decided : IsIn (Decided a.tx a.epoch) step.step.marks
  pub ops_are : a.ops ≡ ops_of a.tx (step ∷ before)

in_log : (a : Entry) (h : ℕ) (log : List HostStep) → IsIn a (entries_of h log) → IsEntryOf a log
in_log a h [] there = absurd there
in_log a h (e ∷ log) there =
    by (in_step a h e.step.stamp (e ∷ log) e.step.marks (entries_of h log) there) (λ inside. in_log a h log inside)
  where
    by : (IsIn (Decided a.tx a.epoch) e.step.marks × (a.ops ≡ ops_of a.tx (e ∷ log))) ⊎ IsIn a (entries_of h log)
        → (IsIn a (entries_of h log) → IsEntryOf a log) → IsEntryOf a (e ∷ log)
    by (inl found) more =
        record { step = e; before = log; past = record { newer = []; is = refl }; decided = found.0; ops_are = found.1 }
    by (inr inside) more =
        let old = more inside in
        record {
          step = old.step;
          before = old.before;
          past = record { newer = e ∷ old.past.newer; is = ap (λ list. e ∷ list) old.past.is };
          decided = old.decided;
          ops_are = old.ops_are;
        }

inserted : (a b : Entry) (list : List Entry) → IsIn a (insert b list) → (a ≡ b) ⊎ IsIn a list
inserted a b [] there = there
inserted a b (c ∷ list) there = by (is_before b c) there (λ inside. inserted a b list inside)
  where
    by : (first : Bool) → IsIn a (if first then b ∷ c ∷ list else c ∷ insert b list)
        → (IsIn a (insert b list) → (a ≡ b) ⊎ IsIn a list) → (a ≡ b) ⊎ IsIn a (c ∷ list)
    by true there more = there
    by false (inl is) more = inr (inl is)
    by false (inr there) more = which (more there)
      where
        which : (a ≡ b) ⊎ IsIn a list → (a ≡ b) ⊎ IsIn a (c ∷ list)
        which (inl is) = inl is
        which (inr inside) = inr (inr inside)

all_inserted : (a : Entry) (more into : List Entry) → IsIn a (insert_all more into) → IsIn a more ⊎ IsIn a into
all_inserted a [] into there = inr there
all_inserted a (b ∷ more) into there =
    by (inserted a b (insert_all more into) there) (λ inside. all_inserted a more into inside)
  where
    by : (a ≡ b) ⊎ IsIn a (insert_all more into) → (IsIn a (insert_all more into) → IsIn a more ⊎ IsIn a into)
        → IsIn a (b ∷ more) ⊎ IsIn a into
    by (inl is) rest = inl (inl is)
    by (inr inside) rest = which (rest inside)
      where
        which : IsIn a more ⊎ IsIn a into → IsIn a (b ∷ more) ⊎ IsIn a into
        which (inl is) = inl (inr is)
        which (inr is) = inr is

-- of some host's
pub record HasLog (a : Entry) (logs : ℕ → List HostStep) : Type 0 where
  pub host : ℕ
  pub is : IsEntryOf a (logs host)

pub entry_log : (a : Entry) (n : ℕ) (logs : ℕ → List HostStep) → IsIn a (entries n logs) → HasLog a logs
entry_log a zero logs there = absurd there
entry_log a (suc n) logs there =
    by (all_inserted a (entries_of n (logs n)) (entries n logs) there) (λ inside. entry_log a n logs inside)
  where
    by : IsIn a (entries_of n (logs n)) ⊎ IsIn a (entries n logs) → (IsIn a (entries n logs) → HasLog a logs)
        → HasLog a logs
    by (inl own) more = record { host = n; is = in_log a n (logs n) own }
    by (inr inside) more = more inside

-- the operations that a host has of a request that it took are among what it took
module _ (tx : TxId) where
  pub ops_taken : (log : List HostStep) → 1 ≤ takes_in (is_asking tx) log
      → IsIn (ops_of tx log) (taken_of (verified_by tx) log)
  ops_taken [] some = absurd (omega (arith, some))
  ops_taken (e ∷ log) some = by e.step.taken.body some (λ more. ops_taken log more)
    where
      by : (body : Body) → 1 ≤ one_if (is_asking tx body) + takes_in (is_asking tx) log
          → (1 ≤ takes_in (is_asking tx) log → IsIn (ops_of tx log) (taken_of (verified_by tx) log))
          → IsIn (else_of (verified_by tx body) (ops_of tx log))
          (cons_option (verified_by tx body) (taken_of (verified_by tx) log))
      by (Epoch (DiVerifyReq other ops)) some old = which (same_tx other tx) some
        where
          which : (b : Bool) → 1 ≤ one_if b + takes_in (is_asking tx) log
              → IsIn (else_of (if b then Some ops else None) (ops_of tx log))
              (cons_option (if b then Some ops else None) (taken_of (verified_by tx) log))
          which true some = inl refl
          which false some = old (omega (arith, some))
      by body some old = old (omega (arith, some))
