-- The merge of right logs is a run.
use Rattle.std.proofs.Common.{◌≡◌, ◌≢◌, ◌⊎◌, inl, inr, ◌≤◌, ◌<◌, ◌==◌, ◌&&◌, ◌||◌, ℕ, zero, suc, ◌+◌, false, List, []}
use Rattle.std.proofs.Common.{◌∷◌, ◌++◌, length, reverse, refl, sym, ap, ap₂, ◌∙◌, subst, arith, append-nil}
use Rattle.std.specs.Prelude.{nat_lt, map, slice_index_or, take, IsPermutation, IsSorted, IsSortedBy}
use Rattle.std.specs.Ordering.{is_lt, nat_cmp, ordering_then}
use Rattle.std.specs.List.{All}
use Rattle.std.proofs.Math.Seq.{take-suc}
use Rattle.std.proofs.lemmas.Bool.{cases_eq}
use Rattle.std.proofs.lemmas.Bool.Decides.{nat_tests}
use Rattle.std.proofs.lemmas.List.{reverse-append, map-append}
use Rattle.std.proofs.lemmas.List.Sorted.{IsPermutation-map, IsPermutation-reverse, IsPermutation-sym}
use Rattle.std.proofs.lemmas.List.Sorted.{IsPermutation-trans, All-permutation}
use Rattle.run_theory.specs.Lists.{Each}
use Rattle.run_theory.specs.Orders.{IsByStamp, joined}
use Rattle.run_theory.specs.Runs.{AreLogs}
use Rattle.run_theory.proofs.Pasts.{each_append}
use Rattle.run_theory.proofs.Sorting.{has_logs_joined, has_logs_sorted, run_sorted}
use Rattle.sig_core.specs.declared.log.HostLog.{HostLog}
use Rattle.sig_core.specs.declared.log.LogStep.{LogStep}
use Rattle.sig_core.specs.declared.member.HostId.{HostId}
use Rattle.world_core.specs.Start.{Start}
use Rattle.world_core.specs.Steps.{HostStep}
use Rattle.world_core.specs.World.{logs_at, no_steps, of_host, steps_of}
use Rattle.world_core.proofs.LogIndex.{logs_at_past}
use Rattle.world_views.specs.Machine.{machine}
use Rattle.world_views.proofs.SentFacts.{is_stamped}
use Rattle.trace_merge.specs.declared.merging.Stamped.{Stamped}
use Rattle.trace_merge.specs.declared.run.RunStep.{RunStep}
use Rattle.trace_merge.specs.Merge.{IsMerge, all_stamped, is_before, place_of, stamped_from, stamped_log}
use Rattle.trace_merge.specs.RunLaw.{AreNumbered, IsRunOf, event_at, events_of}

-- what isn't before another has no lower stamp
not_before : (s t h k i j : ℕ) → (nat_lt s t || ((s == t) && (nat_lt h k || ((h == k) && nat_lt i j)))) ≡ false → t ≤ s
not_before s t h k i j e = grind (arith, nat_tests)

-- the order of the three numbers, as a derived order has it
lt_is : (s t h k i j : ℕ) → is_lt (ordering_then (nat_cmp s t) (ordering_then (nat_cmp h k) (nat_cmp i j)))
    ≡ (nat_lt s t || ((s == t) && (nat_lt h k || ((h == k) && nat_lt i j))))
lt_is s t h k i j = grind (arith, nat_tests)

pub sorted_before : (xs : List Stamped)
    → IsSorted (λ (a b : Stamped). ordering_then (nat_cmp a.stamp b.stamp)
    (ordering_then (nat_cmp a.host.0 b.host.0) (nat_cmp a.step b.step))) xs
    → IsSortedBy is_before xs
sorted_before xs sorted k d low high =
    let a = slice_index_or xs (k + 1) d in
    let b = slice_index_or xs k d in
    sym (lt_is a.stamp b.stamp a.host.0 b.host.0 a.step b.step) ∙ sorted k d low high

-- sorted steps of all logs are a merge of them
pub merged_is : (logs : List HostLog) (xs ys : List Stamped) (places : List RunStep) → xs ≡ all_stamped logs
    → IsPermutation xs ys
    → IsSortedBy is_before ys → places ≡ map place_of ys → IsMerge logs places
merged_is logs xs ys places all once sorted is =
    record { stamped = ys; each_once = subst (λ zs. IsPermutation zs ys) all once; sorted = sorted; is = is }

le_self : (n : ℕ) → n ≤ n
le_self n = omega arith

at_front : (i : ℕ) → i ≤ 0 → i ≡ 0
at_front i le = omega (arith, le)

more_is : (n : ℕ) → n + 1 ≡ suc n
more_is n = omega arith

pub from_front : (i : ℕ) → i ≡ 0 + i
from_front i = omega arith

pub from_here : (n : ℕ) → n ≡ n + 0
from_here n = omega arith

pub from_next : (n i : ℕ) → n + suc i ≡ (n + 1) + i
from_next n i = omega arith

-- what holds at each place of a list holds of each entry, and back
each_at : {A : Type 0} (P : A → Type 0) (xs : List A) → All P xs → Each P xs
each_at P [] all = tt
each_at P (x ∷ xs) all = (all 0 x (omega arith), each_at P xs (λ k d lt. all (suc k) d (omega (arith, lt))))

at_each : {A : Type 0} (P : A → Type 0) (xs : List A) → Each P xs → All P xs
at_each P [] all k d lt = absurd (omega (arith, lt))
at_each P (x ∷ xs) all zero d lt = all.0
at_each P (x ∷ xs) all (suc k) d lt = at_each P xs all.1 k d (omega (arith, lt))

pub each_reverse : {A : Type 0} (P : A → Type 0) (xs : List A) → Each P xs → Each P (reverse xs)
each_reverse P [] all = tt
each_reverse P (x ∷ xs) all =
    subst (Each P) (sym (reverse-append (x ∷ []) xs))
    (each_append P (reverse xs) (x ∷ []) (each_reverse P xs all.1) (all.0, tt))

reverse_map : {A B : Type 0} (f : A → B) (xs : List A) → reverse (map f xs) ≡ map f (reverse xs)
reverse_map f [] = refl
reverse_map f (x ∷ xs) =
    reverse-append (f x ∷ []) (map f xs)
    ∙ (ap (λ ys. ys ++ f x ∷ []) (reverse_map f xs)
    ∙ (sym (map-append f (reverse xs) (x ∷ []))
    ∙ ap (map f) (sym (reverse-append (x ∷ []) xs))))

-- the stamps don't fall, the oldest first
abbrev pub Ascends : List Stamped → Type 0
Ascends [] = Unit {0}
Ascends (a ∷ rest) = Each (λ (b : Stamped). a.stamp ≤ b.stamp) rest × Ascends rest

ascends : (xs : List Stamped)
    → ((i j : ℕ) (d : Stamped) → i ≤ j → j < length xs → (slice_index_or xs i d).stamp ≤ (slice_index_or xs j d).stamp)
    → Ascends xs
ascends [] up = tt
ascends (a ∷ rest) up = (
  each_at (λ (b : Stamped). a.stamp ≤ b.stamp) rest (λ k d lt. up 0 (suc k) d (omega arith) (omega (arith, lt))),
  ascends rest (λ i j d le lt. up (suc i) (suc j) d (omega (arith, le)) (omega (arith, lt))),
)

-- in a list in order no stamp is lower than one before it
climbs : (xs : List Stamped) → IsSortedBy is_before xs → (i j : ℕ) (d : Stamped) → i ≤ j → j < length xs
    → (slice_index_or xs i d).stamp ≤ (slice_index_or xs j d).stamp
climbs xs sorted i zero d le lt = subst (λ k. (slice_index_or xs i d).stamp ≤ (slice_index_or xs k d).stamp)
    (at_front i le) (le_self (slice_index_or xs i d).stamp)
climbs xs sorted i (suc j) d le lt = go (cases_eq i (suc j)) (λ below. climbs xs sorted i j d below (omega (arith, lt)))
  where
    next : (slice_index_or xs j d).stamp ≤ (slice_index_or xs (suc j) d).stamp
    next =
        let a = slice_index_or xs (j + 1) d in
        let b = slice_index_or xs j d in
        subst (λ k. (slice_index_or xs j d).stamp ≤ (slice_index_or xs k d).stamp) (more_is j)
        (not_before a.stamp b.stamp a.host.0 b.host.0 a.step b.step (sorted j d (omega arith) (omega (arith, lt))))

    go : (i ≡ suc j) ⊎ (i ≢ suc j) → (i ≤ j → (slice_index_or xs i d).stamp ≤ (slice_index_or xs j d).stamp)
        → (slice_index_or xs i d).stamp ≤ (slice_index_or xs (suc j) d).stamp
    go (inl is) rest = subst (λ k. (slice_index_or xs i d).stamp ≤ (slice_index_or xs k d).stamp) is
        (le_self (slice_index_or xs i d).stamp)
    go (inr apart) rest = omega (arith, next, rest (omega (arith, le, apart)))

module _ (start : Start) (logs : List HostLog) (none : LogStep) where
  -- the event of a step that was sorted
  abbrev pub event_of : Stamped → HostStep
  event_of a = event_at logs none (place_of a)

  -- its stamp is right
  abbrev pub IsRead : Stamped → Type 0
  IsRead a = (event_of a).step.stamp ≡ a.stamp

  events_map : (xs : List Stamped) → map (event_at logs none) (map place_of xs) ≡ map event_of xs
  events_map [] = refl
  events_map (a ∷ rest) = ap (λ ys. event_of a ∷ ys) (events_map rest)

  module _ (h : ℕ) (host : HostId) (own : host ≡ record { 0 = h }) where
    -- the steps of a log from n on are read off the log again
    read_from : (n : ℕ) (steps : List LogStep)
        → ((i : ℕ) → slice_index_or steps i none ≡ slice_index_or (steps_of logs h) (n + i) none)
        → map event_of (stamped_from host n steps) ≡ map (of_host h) steps
    read_from n [] same = refl
    read_from n (e ∷ steps) same =
        ap₂ (λ v w. v ∷ w)
        (ap (λ (k : HostId). of_host k.0 (slice_index_or (steps_of logs k.0) n none)) own
        ∙ ap (of_host h) (ap (λ i. slice_index_or (steps_of logs h) i none) (from_here n) ∙ sym (same 0)))
        (read_from (n + 1) steps (λ i. same (suc i) ∙ ap (λ k. slice_index_or (steps_of logs h) k none)
        (from_next n i)))

    stamps_from : (n : ℕ) (steps : List LogStep)
        → ((i : ℕ) → slice_index_or steps i none ≡ slice_index_or (steps_of logs h) (n + i) none)
        → Each IsRead (stamped_from host n steps)
    stamps_from n [] same = tt
    stamps_from n (e ∷ steps) same = (
      ap (λ (k : HostId). (slice_index_or (steps_of logs k.0) n none).stamp) own
          ∙ ap (λ (f : LogStep). f.stamp)
          (ap (λ i. slice_index_or (steps_of logs h) i none) (from_here n) ∙ sym (same 0)),
      stamps_from (n + 1) steps (λ i. same (suc i) ∙ ap (λ k. slice_index_or (steps_of logs h) k none) (from_next n i)),
    )

  abbrev log_at : ℕ → HostLog
  log_at h = slice_index_or logs h (no_steps 0)

  all_append : (xs ys : List HostLog) → all_stamped (xs ++ ys) ≡ all_stamped xs ++ all_stamped ys
  all_append [] ys = refl
  all_append (x ∷ xs) ys =
      ap (λ zs. stamped_log x ++ zs) (all_append xs ys) ∙ assoc (stamped_log x) (all_stamped xs) (all_stamped ys)
    where
      assoc : (us vs ws : List Stamped) → us ++ (vs ++ ws) ≡ (us ++ vs) ++ ws
      assoc [] vs ws = refl
      assoc (u ∷ us) vs ws = ap (λ ts. u ∷ ts) (assoc us vs ws)

  -- the steps of one more log, behind those of the logs before it
  all_more : (k : ℕ) → k < length logs
      → all_stamped (take (suc k) logs) ≡ all_stamped (take k logs) ++ stamped_log (log_at k)
  all_more k lt =
      ap all_stamped (take-suc logs k (no_steps 0) lt)
      ∙ (all_append (take k logs) (log_at k ∷ [])
      ∙ ap (λ zs. all_stamped (take k logs) ++ zs) (append-nil (stamped_log (log_at k))))

  module _ (numbered : AreNumbered logs) where
    read_log : (k : ℕ) → k < length logs → map event_of (stamped_log (log_at k)) ≡ map (of_host k) (steps_of logs k)
    read_log k lt = read_from k (log_at k).host (numbered.hosts k lt) 0 (steps_of logs k)
        (λ i. ap (λ n. slice_index_or (steps_of logs k) n none) (from_front i))

    -- all steps, the last log and its newest step first
    read_all : (k : ℕ) → k ≤ length logs → reverse (map event_of (all_stamped (take k logs))) ≡ joined k (logs_at logs)
    read_all zero le = refl
    read_all (suc k) le =
        ap (λ zs. reverse (map event_of zs)) (all_more k (omega (arith, le)))
        ∙ (ap reverse (map-append event_of (all_stamped (take k logs)) (stamped_log (log_at k)))
        ∙ (reverse-append (map event_of (all_stamped (take k logs))) (map event_of (stamped_log (log_at k)))
        ∙ ap₂ (λ v w. v ++ w) (ap reverse (read_log k (omega (arith, le))) ∙ reverse_map (of_host k) (steps_of logs k))
        (read_all k (omega (arith, le)))))

    stamps_all : (k : ℕ) → k ≤ length logs → Each IsRead (all_stamped (take k logs))
    stamps_all zero le = tt
    stamps_all (suc k) le =
        subst (Each IsRead) (sym (all_more k (omega (arith, le))))
        (each_append IsRead (all_stamped (take k logs)) (stamped_log (log_at k)) (stamps_all k (omega (arith, le)))
        (stamps_from k (log_at k).host (numbered.hosts k (omega (arith, le))) 0 (steps_of logs k)
        (λ i. ap (λ n. slice_index_or (steps_of logs k) n none) (from_front i))))

    whole : {A : Type 0} (xs : List A) → take (length xs) xs ≡ xs
    whole [] = refl
    whole (x ∷ xs) = ap (λ ys. x ∷ ys) (whole xs)

    by_stamp_snoc : (es : List HostStep) (e : HostStep) → IsByStamp (machine start) es
        → Each (λ (f : HostStep). e.step.stamp ≤ f.step.stamp) es → IsByStamp (machine start) (es ++ e ∷ [])
    by_stamp_snoc [] e b all = (tt, tt)
    by_stamp_snoc (f ∷ es) e b all = (
      each_append (λ (g : HostStep). g.step.stamp ≤ f.step.stamp) es (e ∷ []) b.0 (all.0, tt),
      by_stamp_snoc es e b.1 all.1,
    )

    raised : (a : Stamped) (rest : List Stamped) → IsRead a → Each IsRead rest
        → Each (λ (b : Stamped). a.stamp ≤ b.stamp) rest
        → Each (λ (f : HostStep). (event_of a).step.stamp ≤ f.step.stamp) (map event_of rest)
    raised a [] read all up = tt
    raised a (b ∷ rest) read all up = (omega (arith, read, all.0, up.0), raised a rest read all.1 up.1)

    by_stamp : (xs : List Stamped) → Ascends xs → Each IsRead xs → IsByStamp (machine start) (reverse (map event_of xs))
    by_stamp [] up read = tt
    by_stamp (a ∷ rest) up read =
        subst (IsByStamp (machine start)) (sym (reverse-append (event_of a ∷ []) (map event_of rest)))
        (by_stamp_snoc (reverse (map event_of rest)) (event_of a) (by_stamp rest up.1 read.1)
        (each_reverse (λ (f : HostStep). (event_of a).step.stamp ≤ f.step.stamp) (map event_of rest)
        (raised a rest read.0 read.1 up.0)))

    module _ (xs : List Stamped) (once : IsPermutation (all_stamped logs) xs) (sorted : IsSortedBy is_before xs) where
      xs_read : Each IsRead xs
      xs_read =
          each_at IsRead xs (All-permutation IsRead (all_stamped logs) xs once
          (at_each IsRead (all_stamped logs)
          (subst (λ zs. Each IsRead (all_stamped zs)) (whole logs) (stamps_all (length logs) (omega arith)))))

      in_order : IsByStamp (machine start) (reverse (map event_of xs))
      in_order = by_stamp xs (ascends xs (climbs xs sorted)) xs_read

      same_steps : IsPermutation (joined (length logs) (logs_at logs)) (reverse (map event_of xs))
      same_steps =
          IsPermutation-trans (joined (length logs) (logs_at logs)) (map event_of (all_stamped logs))
          (reverse (map event_of xs))
          (IsPermutation-sym (map event_of (all_stamped logs)) (joined (length logs) (logs_at logs))
          (subst (IsPermutation (map event_of (all_stamped logs)))
          (subst (λ zs. reverse (map event_of (all_stamped zs)) ≡ joined (length logs) (logs_at logs)) (whole logs)
          (read_all (length logs) (omega arith)))
          (IsPermutation-reverse (map event_of (all_stamped logs)))))
          (IsPermutation-trans (map event_of (all_stamped logs)) (map event_of xs) (reverse (map event_of xs))
          (IsPermutation-map event_of (all_stamped logs) xs once) (IsPermutation-reverse (map event_of xs)))

      run_of : AreLogs (machine start) (logs_at logs) → IsRunOf start logs (reverse (map event_of xs))
      run_of a =
          let has = has_logs_joined (machine start) (length logs) (logs_at logs) a (λ h le. logs_at_past logs h le) in
          record {
            run = run_sorted (machine start) (is_stamped start) (logs_at logs) (joined (length logs) (logs_at logs))
                (reverse (map event_of xs)) a has same_steps in_order;
            leaves = has_logs_sorted (machine start) (logs_at logs) (joined (length logs) (logs_at logs))
                (reverse (map event_of xs)) a has same_steps in_order;
          }

-- the merge of right logs is a run of them
pub merge_runs : (start : Start) (logs : List HostLog) (run : List RunStep) (none : LogStep) → IsMerge logs run
    → AreNumbered logs
    → AreLogs (machine start) (logs_at logs) → IsRunOf start logs (events_of logs none run)
merge_runs start logs run none m numbered a =
    subst (IsRunOf start logs)
    (sym (ap (λ r. reverse (map (event_at logs none) r)) m.is ∙ ap reverse (events_map start logs none m.stamped)))
    (run_of start logs none numbered m.stamped m.each_once m.sorted a)
