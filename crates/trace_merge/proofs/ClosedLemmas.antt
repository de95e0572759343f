-- No step stands against a cut exactly where the cut is closed.
use Rattle.std.proofs.Common.{◌≡◌, ◌↔◌, ◌≤◌, ◌==◌, ◌&&◌, ◌||◌, not, ℕ, zero, suc, ◌+◌, Bool, true, false, List, [], ◌∷◌}
use Rattle.std.proofs.Common.{◌++◌, reverse, refl, sym, ap, ◌∙◌, subst, arith, eq-eqb}
use Rattle.std.specs.Prelude.{nat_lt, map, slice_index_or, take, if◌then◌else◌, Option, None, Some}
use Rattle.std.proofs.lemmas.Bool.Decides.{nat_tests}
use Rattle.std.proofs.lemmas.List.{reverse-append, reverse-reverse}
use Rattle.run_theory.specs.Cuts.{IsClosed}
use Rattle.run_theory.specs.Lists.{Each, HasEntry}
use Rattle.run_theory.specs.Links.{taken}
use Rattle.run_theory.specs.Logs.{last}
use Rattle.run_theory.specs.Machine.{Machine}
use Rattle.sig_core.specs.declared.log.HostLog.{HostLog}
use Rattle.sig_core.specs.declared.log.LogStep.{LogStep}
use Rattle.world_core.specs.Start.{Start}
use Rattle.world_core.specs.Steps.{Addressed, HostStep}
use Rattle.world_core.specs.World.{no_steps, of_host, steps_of}
use Rattle.world_views.specs.Machine.{machine}
use Rattle.world_views.specs.Sending.{is_asked}
use Rattle.trace_merge.specs.declared.closed.CutFault.{CutFault}
use Rattle.trace_merge.specs.Closed.{fault_from, fault_in, first_fault, is_outside, is_sent_outside, last_inside}
use Rattle.trace_merge.specs.Closed.{made_at, newest_inside, newest_stamp, or_later, parts_at}
use Rattle.trace_merge.proofs.MergeLemmas.{each_reverse, from_front, from_here, from_next}

-- tests over plain numbers and truth values
not_above : (m n : ℕ) → nat_lt m n ≡ false → n ≤ m
not_above m n e = grind (arith, nat_tests)

above_not : (m n : ℕ) → n ≤ m → nat_lt m n ≡ false
above_not m n e = grind (arith, nat_tests)

from_is : (m n : ℕ) → (m == n) ≡ true → m ≡ n
from_is m n e = grind (arith, nat_tests)

abbrev IsNo : Bool → Type 0
IsNo true = ⊥
IsNo false = Unit {0}

never : false ≡ true → ⊥
never e = subst IsNo e tt

abbrev IsThere : Option CutFault → Type 0
IsThere None = ⊥
IsThere (Some fault) = Unit {0}

some_none : (fault : CutFault) → Some fault ≡ None → ⊥
some_none fault e = subst IsThere e tt

neither : (a b : Bool) → (a || b) ≡ false → (a ≡ false) × (b ≡ false)
neither false false e = (refl, refl)
neither false true e = (refl, e)
neither true b e = absurd (never (sym e))

both_false : (a b : Bool) → a ≡ false → b ≡ false → (a || b) ≡ false
both_false a b p q = ap (λ v. v || b) p ∙ q

has_last : {A : Type 0} (xs : List A) (x : A) → HasEntry (xs ++ x ∷ [])
has_last [] x = tt
has_last (y ∷ xs) x = tt

has_map : {A B : Type 0} (f : A → B) (xs : List A) → HasEntry xs → HasEntry (map f xs)
has_map f [] has = absurd has
has_map f (x ∷ xs) has = tt

map_has : {A B : Type 0} (f : A → B) (xs : List A) → HasEntry (map f xs) → HasEntry xs
map_has f [] has = absurd has
map_has f (x ∷ xs) has = tt

has_reverse : {A : Type 0} (x : A) (xs : List A) → HasEntry (reverse (x ∷ xs))
has_reverse x xs = subst HasEntry (sym (reverse-append (x ∷ []) xs)) (has_last (reverse xs) x)

each_of_one : {A : Type 0} (P : Type 0) (xs : List A) → HasEntry xs → Each (λ x. P) xs → P
each_of_one P [] has all = absurd has
each_of_one P (x ∷ xs) has all = all.0

both_each : {A : Type 0} (P Q : A → Type 0) (xs : List A) → Each (λ x. P x × Q x) xs → Each P xs × Each Q xs
both_each P Q [] all = (tt, tt)
both_each P Q (x ∷ xs) all = let rest = both_each P Q xs all.1 in ((all.0.0, rest.0), (all.0.1, rest.1))

take_none : (n : ℕ) → take {A = LogStep} n [] ≡ []
take_none zero = refl
take_none (suc n) = refl

module _ (logs : List HostLog) (cut : List ℕ) where
  -- the host of a log was made inside, and the signal of a step sent inside
  abbrev MadeInside : ℕ → Type 0
  MadeInside made = made ≤ last_inside logs cut 0

  abbrev SentInside : ℕ → LogStep → Type 0
  SentInside h e = is_sent_outside logs cut h e ≡ false

  abbrev Stands : ℕ → HostLog → LogStep → Type 0
  Stands h log e = MadeInside log.made × SentInside h e

  none_stands : (h : ℕ) (log : HostLog) (n : ℕ) (steps : List LogStep) → fault_from logs cut h log n steps ≡ None
      → Each (Stands h log) steps
  none_stands h log n [] none = tt
  none_stands h log n (e ∷ steps) none =
      go (is_outside logs cut h log e) refl none (λ is. none_stands h log (n + 1) steps is)
    where
      go : (b : Bool) → is_outside logs cut h log e ≡ b
          → (if b then Some (record { host = log.host; step = n }) else fault_from logs cut h log (n + 1) steps) ≡ None
          → (fault_from logs cut h log (n + 1) steps ≡ None → Each (Stands h log) steps)
          → Each (Stands h log) (e ∷ steps)
      go true at is later = absurd (some_none (record { host = log.host; step = n }) is)
      go false at is later =
          let parts = neither (nat_lt (last_inside logs cut 0) log.made) (is_sent_outside logs cut h e) at in
          ((not_above (last_inside logs cut 0) log.made parts.0, parts.1), later is)

  stands_none : (h : ℕ) (log : HostLog) (n : ℕ) (steps : List LogStep) → Each (Stands h log) steps
      → fault_from logs cut h log n steps ≡ None
  stands_none h log n [] all = refl
  stands_none h log n (e ∷ steps) all =
      ap (λ b. if b then Some (record { host = log.host; step = n }) else fault_from logs cut h log (n + 1) steps)
      (both_false (nat_lt (last_inside logs cut 0) log.made) (is_sent_outside logs cut h e)
      (above_not (last_inside logs cut 0) log.made all.0.0) all.0.1)
      ∙ stands_none h log (n + 1) steps all.1

  -- each of the steps of a log inside stands, where there is such a log
  abbrev AllStand : ℕ → HostLog → ℕ → Type 0
  AllStand h log inside = Each (Stands h log) (take inside log.steps)

  all_stand : (ls : List HostLog) (n : ℕ) → first_fault logs cut ls n ≡ None
      → (h : ℕ) → AllStand (n + h) (slice_index_or ls h (no_steps 0)) (slice_index_or cut (n + h) 0)
  unfolding fault_in
  all_stand [] n none h = subst (Each (Stands (n + h) (no_steps 0))) (sym (take_none (slice_index_or cut (n + h) 0))) tt
  all_stand (log ∷ ls) n none h =
      go (fault_in logs cut n log (slice_index_or cut n 0)) refl none (λ is k. all_stand ls (n + 1) is k) h
    where
      go : (o : Option CutFault) → fault_in logs cut n log (slice_index_or cut n 0) ≡ o
          → or_later o (first_fault logs cut ls (n + 1)) ≡ None
          → (first_fault logs cut ls (n + 1) ≡ None → (k : ℕ) → AllStand ((n + 1) + k)
          (slice_index_or ls k (no_steps 0)) (slice_index_or cut ((n + 1) + k) 0))
          → (h : ℕ) → AllStand (n + h) (slice_index_or (log ∷ ls) h (no_steps 0)) (slice_index_or cut (n + h) 0)
      go None at is later zero =
          subst (λ k. AllStand k log (slice_index_or cut k 0)) (from_here n)
          (none_stands n log 0 (take (slice_index_or cut n 0) log.steps) at)
      go None at is later (suc h) =
          subst (λ k. AllStand k (slice_index_or ls h (no_steps 0)) (slice_index_or cut k 0)) (sym (from_next n h))
          (later is h)
      go (Some fault) at is later h = absurd (some_none fault is)

  stand_all : (ls : List HostLog) (n : ℕ)
      → ((h : ℕ) → AllStand (n + h) (slice_index_or ls h (no_steps 0)) (slice_index_or cut (n + h) 0))
      → first_fault logs cut ls n ≡ None
  unfolding fault_in
  stand_all [] n all = refl
  stand_all (log ∷ ls) n all =
      ap (λ o. or_later o (first_fault logs cut ls (n + 1)))
      (stands_none n log 0 (take (slice_index_or cut n 0) log.steps)
      (subst (λ k. AllStand k log (slice_index_or cut k 0)) (sym (from_here n)) (all zero)))
      ∙ stand_all ls (n + 1) (λ h. subst (λ k. AllStand k (slice_index_or ls h (no_steps 0)) (slice_index_or cut k 0))
      (from_next n h) (all (suc h)))

  module _ (start : Start) (made : ℕ → ℕ) (same : (h : ℕ) → made h ≡ made_at logs h) where
    abbrev m : Machine HostStep Addressed
    m = record (machine start) { made = made }

    abbrev Below : ℕ → Addressed → Type 0
    Below i x = x.signal.stamp ≤ last_inside logs cut i

    last_is : (h : ℕ) (log : List LogStep) → last m h (map (of_host h) log) ≡ newest_stamp (made_at logs h) log
    last_is h [] = same h
    last_is h (e ∷ log) = refl

    last_at : (h : ℕ) → last m h (parts_at logs cut h) ≡ last_inside logs cut h
    last_at h = last_is h (newest_inside logs cut h)

    -- what steps took from a link was sent inside
    taken_below : (i j : ℕ) (log : List LogStep) → Each (SentInside j) log
        → Each (Below i) (taken m i (map (of_host j) log))
    taken_below i j [] all = tt
    taken_below i j (e ∷ log) all =
        go (is_asked j e.taken) (e.taken.from.0 == i) refl refl all.0 (taken_below i j log all.1)
      where
        x : Addressed
        x = record { to = j; signal = e.taken }

        go : (asked own : Bool) → is_asked j e.taken ≡ asked → (e.taken.from.0 == i) ≡ own
            → (not asked && nat_lt (last_inside logs cut e.taken.from.0) e.taken.stamp) ≡ false
            → Each (Below i) (taken m i (map (of_host j) log))
            → Each (Below i) (if not asked && own then x ∷ taken m i (map (of_host j) log) else taken m i
            (map (of_host j) log))
        go true own a o sent rest = rest
        go false false a o sent rest = rest
        go false true a o sent rest = (
          subst (λ k. e.taken.stamp ≤ last_inside logs cut k) (from_is e.taken.from.0 i o)
              (not_above (last_inside logs cut e.taken.from.0) e.taken.stamp sent),
          rest,
        )

    below_taken : (j : ℕ) (log : List LogStep) → ((i : ℕ) → Each (Below i) (taken m i (map (of_host j) log)))
        → Each (SentInside j) log
    below_taken j [] all = tt
    below_taken j (e ∷ log) all = (
      head (is_asked j e.taken) refl (all e.taken.from.0),
      below_taken j log (λ i. tail i (is_asked j e.taken) (e.taken.from.0 == i) (all i)),
    )
      where
        x : Addressed
        x = record { to = j; signal = e.taken }

        head : (asked : Bool) → is_asked j e.taken ≡ asked
            → Each (Below e.taken.from.0)
            (if not asked && (e.taken.from.0 == e.taken.from.0) then x ∷ taken m e.taken.from.0 (map (of_host j) log)
            else taken m e.taken.from.0 (map (of_host j) log))
            → (not asked && nat_lt (last_inside logs cut e.taken.from.0) e.taken.stamp) ≡ false
        head true a all = refl
        head false a all = above_not (last_inside logs cut e.taken.from.0) e.taken.stamp
            (first (subst (λ b. Each (Below e.taken.from.0) (if b then x ∷ taken m e.taken.from.0 (map (of_host j) log)
            else taken m e.taken.from.0 (map (of_host j) log))) (eq-eqb e.taken.from.0 e.taken.from.0 refl) all))
          where
            first : Each (Below e.taken.from.0) (x ∷ taken m e.taken.from.0 (map (of_host j) log))
                → e.taken.stamp ≤ last_inside logs cut e.taken.from.0
            first both = both.0

        tail : (i : ℕ) (asked own : Bool)
            → Each (Below i) (if not asked && own then x ∷ taken m i (map (of_host j) log) else taken m i
            (map (of_host j) log))
            → Each (Below i) (taken m i (map (of_host j) log))
        tail i true own all = all
        tail i false false all = all
        tail i false true all = all.1

    closed : first_fault logs cut logs 0 ≡ None → IsClosed m (parts_at logs cut)
    closed none =
        record {
          signals = λ i j. subst (λ k. Each (λ (x : Addressed). x.signal.stamp ≤ k) (taken m i (parts_at logs cut j)))
              (sym (last_at i)) (taken_below i j (newest_inside logs cut j) (newest j).1);
          hosts = λ h has. subst (λ k. made h ≤ k) (sym (last_at 0))
              (subst (λ k. k ≤ last_inside logs cut 0) (sym (same h))
              (each_of_one (MadeInside (made_at logs h)) (newest_inside logs cut h)
              (map_has (of_host h) (newest_inside logs cut h) has) (newest h).0));
        }
      where
        newest : (h : ℕ)
            → Each (λ e. MadeInside (made_at logs h)) (newest_inside logs cut h)
            × Each (SentInside h) (newest_inside logs cut h)
        newest h =
            let oldest = both_each (λ e. MadeInside (made_at logs h)) (SentInside h)
            (take (slice_index_or cut h 0) (steps_of logs h))
            (subst (λ k. AllStand k (slice_index_or logs h (no_steps 0)) (slice_index_or cut k 0))
            (sym (from_front h)) (all_stand logs 0 none h)) in (
              each_reverse (λ e. MadeInside (made_at logs h)) (take (slice_index_or cut h 0) (steps_of logs h))
                  oldest.0,
              each_reverse (SentInside h) (take (slice_index_or cut h 0) (steps_of logs h)) oldest.1,
            )

    unfaulted : IsClosed m (parts_at logs cut) → first_fault logs cut logs 0 ≡ None
    unfaulted c = stand_all logs 0 (λ h. subst (λ k. AllStand k (slice_index_or logs h (no_steps 0))
        (slice_index_or cut k 0)) (from_front h) (stands h))
      where
        sent : (h : ℕ) → Each (SentInside h) (newest_inside logs cut h)
        sent h = below_taken h (newest_inside logs cut h)
            (λ i. subst (λ k. Each (λ (x : Addressed). x.signal.stamp ≤ k) (taken m i (parts_at logs cut h)))
            (last_at i) (c.signals i h))

        join : (h : ℕ) (steps : List LogStep) → (HasEntry steps → MadeInside (made_at logs h))
            → Each (SentInside h) steps → Each (Stands h (slice_index_or logs h (no_steps 0))) steps
        join h [] is all = tt
        join h (e ∷ steps) is all = ((is tt, all.0), join h steps (λ has. is tt) all.1)

        is_made : (h : ℕ) → HasEntry (parts_at logs cut h) → MadeInside (made_at logs h)
        is_made h has =
            subst (λ k. k ≤ last_inside logs cut 0) (same h) (subst (λ k. made h ≤ k) (last_at 0) (c.hosts h has))

        entry : (h : ℕ) (steps : List LogStep) → HasEntry steps → HasEntry (map (of_host h) (reverse steps))
        entry h [] has = absurd has
        entry h (e ∷ steps) has = has_map (of_host h) (reverse (e ∷ steps)) (has_reverse e steps)

        stands : (h : ℕ)
            → Each (Stands h (slice_index_or logs h (no_steps 0))) (take (slice_index_or cut h 0) (steps_of logs h))
        stands h =
            join h (take (slice_index_or cut h 0) (steps_of logs h))
            (λ has. is_made h (entry h (take (slice_index_or cut h 0) (steps_of logs h)) has))
            (subst (Each (SentInside h)) (reverse-reverse (take (slice_index_or cut h 0) (steps_of logs h)))
            (each_reverse (SentInside h) (newest_inside logs cut h) (sent h)))

    pub where_none : first_fault logs cut logs 0 ≡ None → (true ≡ true) ↔ IsClosed m (parts_at logs cut)
    where_none is = (λ ok. closed is, λ c. refl)

    pub where_some : (fault : CutFault) → first_fault logs cut logs 0 ≡ Some fault
        → (false ≡ true) ↔ IsClosed m (parts_at logs cut)
    where_some fault is = (λ no. absurd (never no), λ c. absurd (some_none fault (sym is ∙ unfaulted c)))
