-- What holds of each entry of each log holds of each entry of the history.
use Rattle.std.proofs.Common.{ℕ, zero, suc, Bool, true, false, List, [], ◌∷◌}
use Rattle.std.specs.Prelude.{if◌then◌else◌}
use Rattle.run_theory.proofs.Pasts.{each_filter}
use Rattle.run_theory.specs.Lists.{Each}
use Rattle.sig_core.specs.declared.entry.Entry.{Entry}
use Rattle.world_core.specs.Steps.{HostStep}
use Rattle.world_core.specs.Entries.{entries, entries_of, insert, insert_all, is_before}
use Rattle.world_core.specs.History.{history, is_kept}

module _ (P : Entry → Type 0) where
  pub each_insert : (a : Entry) (xs : List Entry) → P a → Each P xs → Each P (insert a xs)
  each_insert a [] holds all = (holds, tt)
  each_insert a (b ∷ rest) holds all = go (is_before a b) (each_insert a rest holds all.1)
    where
      go : (test : Bool) → Each P (insert a rest) → Each P (if test then a ∷ b ∷ rest else b ∷ insert a rest)
      go true more = (holds, all)
      go false more = (all.0, more)

  each_all : (xs into : List Entry) → Each P xs → Each P into → Each P (insert_all xs into)
  each_all [] into holds all = all
  each_all (a ∷ more) into holds all = each_insert a (insert_all more into) holds.0 (each_all more into holds.1 all)

  pub each_entry : (n : ℕ) (logs : ℕ → List HostStep) → ((h : ℕ) → Each P (entries_of h (logs h)))
      → Each P (entries n logs)
  each_entry zero logs holds = tt
  each_entry (suc n) logs holds = each_all (entries_of n (logs n)) (entries n logs) (holds n) (each_entry n logs holds)

  pub each_kept : (n : ℕ) (logs : ℕ → List HostStep) → ((h : ℕ) → Each P (entries_of h (logs h)))
      → Each P (history n logs)
  each_kept n logs holds = each_filter P (is_kept n logs) (entries n logs) (each_entry n logs holds)
