-- Histories, computed step by step.
use Rattle.std.proofs.Common.{◌≡◌, ◌⊎◌, inl, inr, ◌<◌, ◌≤◌, ◌+◌, ℕ, zero, suc, Bool, true, false, List, [], ◌∷◌, ◌++◌}
use Rattle.std.proofs.Common.{length, reverse, refl, ap, sym, ◌∙◌, arith}
use Rattle.std.specs.List.{list_any}
use Rattle.std.specs.Prelude.{◌||◌, if◌then◌else◌, drop, get_or, map, take}
use Rattle.std.proofs.lemmas.Bool.{cases_lt, true≢false}
use Rattle.std.proofs.lemmas.List.{map-append, reverse-append, take_more}
use Rattle.sig_core.specs.declared.entry.Entry.{Entry}
use Rattle.sig_core.specs.declared.log.HostLog.{HostLog}
use Rattle.sig_core.specs.declared.log.LogStep.{LogStep}
use Rattle.sig_core.specs.declared.mark.Mark.{Mark}
use Rattle.sig_core.specs.declared.mark.Mark.TheVariants.{Decided}
use Rattle.world_core.specs.Entries.{entries, entries_in, entries_of, entry_of, insert, insert_all}
use Rattle.world_core.specs.Entries.{is_before}
use Rattle.world_core.specs.History.{is_applied, is_kept, is_reported, writes}
use Rattle.world_core.specs.Marks.{has_mark, have_mark}
use Rattle.world_core.specs.Steps.{HostStep}
use Rattle.world_core.specs.World.{logs_at, of_host}
use Rattle.trace_check.specs.Histories.{any_shows, entered, first_of, is_sign, log_of, place_of}

more_is : (n : ℕ) → n + 1 ≡ suc n
more_is n = omega arith

-- ---- logs

-- the log of one step more
pub first_more : (h : ℕ) (steps : List LogStep) (at : ℕ) (x : LogStep) → at < length steps → x ≡ get_or steps at x
    → first_of h steps (at + 1) ≡ of_host h x ∷ first_of h steps at
first_more h steps at x inside is =
    ap (log_of h) (take_more steps at x inside)
    ∙ ap (map (of_host h)) (reverse-append (take at steps) (get_or steps at x ∷ []))
    ∙ ap (λ (e : LogStep). of_host h e ∷ first_of h steps at) (sym is)

-- ---- entries

-- put at their places one after the other
pub entered_is : (h stamp : ℕ) (log : List HostStep) (marks : List Mark) (before into : List Entry)
    → entered h stamp log marks (insert_all before into) ≡ insert_all (entries_in h stamp log marks before) into
entered_is h stamp log [] before into = refl
entered_is h stamp log (Decided tx epoch ∷ marks) before into =
    entered_is h stamp log marks (entry_of h stamp log tx epoch ∷ before) into
entered_is h stamp log (mark ∷ marks) before into = entered_is h stamp log marks before into

-- those of one step more
pub found_more : (h : ℕ) (steps : List LogStep) (at : ℕ) (x : LogStep) (past : List LogStep)
    (into found more : List Entry)
    → at < length steps → x ≡ get_or steps at x → past ≡ take (at + 1) steps
    → more ≡ entered h x.stamp (log_of h past) x.marks found
    → found ≡ insert_all (entries_of h (first_of h steps at)) into
    → more ≡ insert_all (entries_of h (first_of h steps (at + 1))) into
found_more h steps at x past into found more inside is same now was =
    let log : first_of h steps (at + 1) ≡ of_host h x ∷ first_of h steps at = first_more h steps at x inside is in
    now
    ∙ ap (λ es. entered h x.stamp (log_of h past) x.marks es) was
    ∙ entered_is h x.stamp (log_of h past) x.marks (entries_of h (first_of h steps at)) into
    ∙ ap (λ l. insert_all (entries_in h x.stamp l x.marks (entries_of h (first_of h steps at))) into)
    (ap (log_of h) same ∙ log)
    ∙ sym (ap (λ l. insert_all (entries_of h l) into) log)

-- an entry at its place
pub placed : (a : Entry) (xs : List Entry) → take (place_of a xs) xs ++ a ∷ drop (place_of a xs) xs ≡ insert a xs
placed a [] = refl
placed a (b ∷ rest) = go (placed a rest) (is_before a b)
  where
    go : take (place_of a rest) rest ++ a ∷ drop (place_of a rest) rest ≡ insert a rest → (c : Bool)
        → take (if c then 0 else suc (place_of a rest)) (b ∷ rest)
        ++ a ∷ drop (if c then 0 else suc (place_of a rest)) (b ∷ rest)
        ≡ (if c then a ∷ b ∷ rest else b ∷ insert a rest)
    go more true = refl
    go more false = ap (λ (es : List Entry). b ∷ es) more

-- those of one host more
pub entries_more : (logs : List HostLog) (h : ℕ) (steps : List LogStep) (found more : List Entry)
    → log_of h steps ≡ logs_at logs h
    → found ≡ entries h (logs_at logs) → more ≡ insert_all (entries_of h (log_of h steps)) found
    → more ≡ entries (h + 1) (logs_at logs)
entries_more logs h steps found more same was now =
    now
    ∙ ap (λ l. insert_all (entries_of h l) found) same
    ∙ ap (insert_all (entries_of h (logs_at logs h))) was
    ∙ sym (ap (λ n. entries n (logs_at logs)) (more_is h))

-- ---- signs

or_false : (b : Bool) → (b || false) ≡ b
or_false true = refl
or_false false = refl

pub or_true : (b : Bool) → (b || true) ≡ true
or_true true = refl
or_true false = refl

or_swapped : (a b c : Bool) → ((a || b) || c) ≡ (a || (b || c))
or_swapped true b c = refl
or_swapped false b c = refl

or_turned : (a b : Bool) → (a || b) ≡ (b || a)
or_turned true true = refl
or_turned true false = refl
or_turned false true = refl
or_turned false false = refl

module _ (test : Mark → Bool) where
  pub has_append : (log more : List HostStep) → has_mark test (log ++ more) ≡ (has_mark test log || has_mark test more)
  has_append [] more = refl
  has_append (e ∷ log) more =
      ap (λ b. list_any test e.step.marks || b) (has_append log more)
      ∙ sym (or_swapped (list_any test e.step.marks) (has_mark test log) (has_mark test more))

  -- in whichever order the steps are gone through
  pub shows_is : (h : ℕ) (steps : List LogStep) → has_mark test (log_of h steps) ≡ any_shows test steps
  shows_is h [] = refl
  shows_is h (e ∷ steps) =
      ap (λ (es : List LogStep). has_mark test (map (of_host h) es)) (reverse-append (e ∷ []) steps)
      ∙ ap (has_mark test) (map-append (of_host h) (reverse steps) (e ∷ []))
      ∙ has_append (log_of h steps) (of_host h e ∷ [])
      ∙ ap (λ b. b || (list_any test e.marks || false)) (shows_is h steps)
      ∙ or_turned (any_shows test steps) (list_any test e.marks || false)
      ∙ ap (λ b. b || any_shows test steps) (or_false (list_any test e.marks))

  -- what a part of the steps shows they show
  front_shows : (n : ℕ) (steps : List LogStep) → any_shows test (take n steps) ≡ true → any_shows test steps ≡ true
  front_shows zero steps shown = absurd (true≢false (sym shown))
  front_shows (suc n) [] shown = shown
  front_shows (suc n) (e ∷ steps) shown = go (front_shows n steps) (list_any test e.marks) shown
    where
      go : (any_shows test (take n steps) ≡ true → any_shows test steps ≡ true) → (b : Bool)
          → (b || any_shows test (take n steps)) ≡ true → (b || any_shows test steps) ≡ true
      go more true is = refl
      go more false is = more is

  back_shows : (n : ℕ) (steps : List LogStep) → any_shows test (drop n steps) ≡ true → any_shows test steps ≡ true
  back_shows zero steps shown = shown
  back_shows (suc n) [] shown = shown
  back_shows (suc n) (e ∷ steps) shown =
      ap (λ b. list_any test e.marks || b) (back_shows n steps shown) ∙ or_true (list_any test e.marks)

  pub part_shows : (steps : List LogStep) (from n : ℕ) → any_shows test (take n (drop from steps)) ≡ true
      → any_shows test steps ≡ true
  part_shows steps from n shown = back_shows from steps (front_shows n (drop from steps) shown)

  -- none of one host more has it
  pub have_more : (logs : List HostLog) (h : ℕ) (steps : List LogStep) (b : Bool) → log_of h steps ≡ logs_at logs h
      → have_mark test h (logs_at logs) ≡ false → b ≡ any_shows test steps → b ≡ false
      → have_mark test (h + 1) (logs_at logs) ≡ false
  have_more logs h steps b same none is missing =
      ap (λ n. have_mark test n (logs_at logs)) (more_is h)
      ∙ ap (λ c. c || have_mark test h (logs_at logs))
      (ap (has_mark test) (sym same) ∙ shows_is h steps ∙ sym is ∙ missing)
      ∙ none

  -- one of them has it
  pub have_found : (logs : List HostLog) (n h : ℕ) (steps : List LogStep) (b : Bool) → log_of h steps ≡ logs_at logs h
      → h < n → b ≡ any_shows test steps → b ≡ true → have_mark test n (logs_at logs) ≡ true
  have_found logs zero h steps b same low is shown = absurd (omega (arith, low))
  have_found logs (suc n) h steps b same low is shown =
      go (λ below. have_found logs n h steps b same below is shown) (cases_lt h n)
    where
      go : (h < n → have_mark test n (logs_at logs) ≡ true) → (h < n) ⊎ (n ≤ h)
          → (has_mark test (logs_at logs n) || have_mark test n (logs_at logs)) ≡ true
      go before (inl below) =
          ap (λ c. has_mark test (logs_at logs n) || c) (before below) ∙ or_true (has_mark test (logs_at logs n))
      go before (inr past) =
          let top : h ≡ n = omega (arith, low, past) in
          ap (λ c. c || have_mark test n (logs_at logs))
          (ap (λ k. has_mark test (logs_at logs k)) (sym top) ∙ ap (has_mark test) (sym same) ∙ shows_is h steps
          ∙ sym is
          ∙ shown)

-- an entry is kept by its sign
pub kept_by : (n : ℕ) (logs : List HostLog) (a : Entry) (b : Bool) → b ≡ writes a
    → have_mark (is_sign b a.tx) n (logs_at logs) ≡ is_kept n (logs_at logs) a
kept_by n logs a b is =
    ap (λ c. have_mark (is_sign c a.tx) n (logs_at logs)) is ∙ go (writes a)
  where
    go : (c : Bool) → have_mark (is_sign c a.tx) n (logs_at logs)
        ≡ (if c then have_mark (is_applied a.tx) n (logs_at logs) else have_mark (is_reported a.tx) n (logs_at logs))
    go true = refl
    go false = refl

-- of the same entry the same is told
pub kept_same : (n : ℕ) (logs : ℕ → List HostStep) (a shown : Entry) (b : Bool) → b ≡ is_kept n logs shown → shown ≡ a
    → b ≡ is_kept n logs a
kept_same n logs a shown b told same = told ∙ ap (is_kept n logs) same
