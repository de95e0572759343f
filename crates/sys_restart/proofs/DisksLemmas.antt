-- What a call on one of several disks leaves of all.
use Rattle.std.proofs.Common.{◌≡◌, ◌∙◌, ℕ, zero, suc, ◌+◌, ◌-◌, ◌≤◌, ◌<◌, List, [], ◌∷◌, length, map, get_or, refl, ap, sym, subst, arith}
use Rattle.std.specs.Prelude.{Option, Some, Result, Ok, Err}
use Rattle.std.proofs.Math.ListN.{set}
use Rattle.host_io.specs.Call.{Call}
use Rattle.host_io.specs.Fault.{Rose}
use Rattle.sig_core.specs.declared.fault.RestartFault.{RestartFault}
use Rattle.sig_core.specs.declared.fault.RestartFault.TheVariants.{Damaged, DiskFault, NoMemory, OtherShape, UsedUp}
use Rattle.sys_restart.specs.Answers.{AreSteady, HasCauseAmong, IsCauseAmong, IsCauseOf}

-- what is told of an element that stands at a place
map_at : {A B : Type 0} (T : A → B) (xs : List A) (k : ℕ) (x : A) (none : B) → k < length xs
    → get_or (map T xs) k none ≡ T (get_or xs k x)
map_at T [] k x none below = absurd (omega (arith, below))
map_at T (y ∷ xs) zero x none below = refl
map_at T (y ∷ xs) (suc k) x none below = map_at T xs k x none (omega (arith, below))

-- an element that tells the same in place of another
pub same_told : {A B : Type 0} (T : A → B) (xs : List A) (k : ℕ) (x new : A) → k < length xs
    → T new ≡ T (get_or xs k x) → map T (set xs k new) ≡ map T xs
same_told T [] k x new below same = absurd (omega (arith, below))
same_told T (y ∷ xs) zero x new below same = ap (λ one. one ∷ map T xs) same
same_told T (y ∷ xs) (suc k) x new below same =
    ap (λ ys. T y ∷ ys) (same_told T xs k x new (omega (arith, below)) same)

-- the counts of the others stay, and that of this one doesn't fall
pub one_steady : {A : Type 0} (F : A → ℕ) (xs : List A) (k : ℕ) (x new : A) → k < length xs
    → F (get_or xs k x) ≤ F new → AreSteady (map F xs) (map F (set xs k new))
one_steady F [] k x new below more at = absurd (omega (arith, below))
one_steady F (y ∷ xs) zero x new below more zero = more
one_steady F (y ∷ xs) zero x new below more (suc at) = omega arith
one_steady F (y ∷ xs) (suc k) x new below more zero = omega arith
one_steady F (y ∷ xs) (suc k) x new below more (suc at) = one_steady F xs k x new (omega (arith, below)) more at

set_at : {A : Type 0} (F : A → ℕ) (xs : List A) (k : ℕ) (new : A) → k < length xs
    → get_or (map F (set xs k new)) k 0 ≡ F new
set_at F [] k new below = absurd (omega (arith, below))
set_at F (x ∷ xs) zero new below = refl
set_at F (x ∷ xs) (suc k) new below = set_at F xs k new (omega (arith, below))

pub steady_then : (first second third : List ℕ) → AreSteady first second → AreSteady second third
    → AreSteady first third
steady_then first second third one other at =
    let a = one at in
    let b = other at in
    omega (arith, a, b)

pub steady_itself : (counts : List ℕ) → AreSteady counts counts
steady_itself counts at = omega arith

pub mapped : {A B : Type 0} (F : A → B) (xs : List A) → length (map F xs) ≡ length xs
mapped F [] = refl
mapped F (x ∷ xs) = ap suc (mapped F xs)

-- a fault of the disk at a place is one of its node
pub one_cause : {A : Type 0} (F : A → ℕ) (first xs : List A) (k : ℕ) (x new : A) (fault : RestartFault)
    → k < length xs → length first ≡ length xs → AreSteady (map F first) (map F xs)
    → IsCauseOf (k + 1) (F (get_or xs k x)) (F new) fault → IsCauseAmong (map F first) (map F (set xs k new)) fault
one_cause F first xs k x new (DiskFault node count) below long steady (at, rose, now) =
    let place : node - 1 ≡ k = omega (arith, at) in
    let before : get_or (map F xs) k 0 ≡ F (get_or xs k x) = map_at F xs k x 0 below in
    let after : get_or (map F (set xs k new)) k 0 ≡ F new = set_at F xs k new below in
    let less = steady k in
    let many : length (map F first) ≡ length first = mapped F first in
    let here : Rose (get_or (map F first) k 0) (get_or (map F (set xs k new)) k 0) =
    omega (arith, less, before, after, rose) in (
      omega (arith, at),
      omega (arith, at, below, long, many),
      subst (λ (p : ℕ). Rose (get_or (map F first) p 0) (get_or (map F (set xs k new)) p 0)) (sym place) here,
      now ∙ sym after ∙ ap (λ (p : ℕ). get_or (map F (set xs k new)) p 0) (sym place),
    )
one_cause F first xs k x new (OtherShape found asked) below long steady cause = tt
one_cause F first xs k x new (Damaged node file at byte) below long steady cause = tt
one_cause F first xs k x new (UsedUp generation epoch) below long steady cause = tt
one_cause F first xs k x new NoMemory below long steady cause = tt

-- the cause of a call behind others
pub cause_then : (first second third : List ℕ) (fault : RestartFault) → length first ≡ length second
    → AreSteady first second → IsCauseAmong second third fault → IsCauseAmong first third fault
cause_then first second third (DiskFault node count) long steady (some, few, rose, now) =
    let less = steady (node - 1) in
    (some, omega (arith, few, long), omega (arith, less, rose), now)
cause_then first second third (OtherShape found asked) long steady cause = tt
cause_then first second third (Damaged node file at byte) long steady cause = tt
cause_then first second third (UsedUp generation epoch) long steady cause = tt
cause_then first second third NoMemory long steady cause = tt

heads : {A : Type 0} (x y : A) (xs ys : List A) → x ∷ xs ≡ y ∷ ys → x ≡ y
heads x y xs ys same = cc

pub tails : {A : Type 0} (x y : A) (xs ys : List A) → x ∷ xs ≡ y ∷ ys → xs ≡ ys
tails x y xs ys same = cc

pub uneven : {A : Type 0} (x : A) (xs : List A) → x ∷ xs ≡ [] → ⊥
uneven x xs same = cc

-- what the disk at a place tells is the record of its node
pub told_at : {A : Type 0} (T : A → Option (List Call)) (xs : List A) (records : List (List Call)) (k : ℕ) (x : A)
    → map T xs ≡ map Some records → k < length xs → T (get_or xs k x) ≡ Some (get_or records k [])
told_at T [] records k x all below = absurd (omega (arith, below))
told_at T (y ∷ xs) [] k x all below = absurd (uneven (T y) (map T xs) all)
told_at T (y ∷ xs) (calls ∷ records) zero x all below = heads (T y) (Some calls) (map T xs) (map Some records) all
told_at T (y ∷ xs) (calls ∷ records) (suc k) x all below =
    told_at T xs records k x (tails (T y) (Some calls) (map T xs) (map Some records) all) (omega (arith, below))

-- the same, as a node counts
pub told_node : {A : Type 0} (T : A → Option (List Call)) (xs : List A) (records : List (List Call)) (k : ℕ) (x : A)
    → map T xs ≡ map Some records → k < length xs → T (get_or xs k x) ≡ Some (get_or records (k + 1 - 1) [])
told_node T xs records k x all below =
    let at : k ≡ k + 1 - 1 = omega arith in
    told_at T xs records k x all below ∙ ap (λ (p : ℕ). Some (get_or records p [])) at

-- a fault of a node's disk, where its place is that of the node
pub node_cause : {A : Type 0} (F : A → ℕ) (first xs : List A) (node k : ℕ) (x new : A) (fault : RestartFault)
    → node ≡ k + 1 → k < length xs → length first ≡ length xs → AreSteady (map F first) (map F xs)
    → IsCauseOf node (F (get_or xs k x)) (F new) fault → IsCauseAmong (map F first) (map F (set xs k new)) fault
node_cause F first xs node k x new fault is below long steady cause =
    one_cause F first xs k x new fault below long steady
    (subst (λ (n : ℕ). IsCauseOf n (F (get_or xs k x)) (F new) fault) is cause)

-- as many elements tell as many things, whatever they tell
pub same_size : {A B : Type 0} (T : A → B) (xs ys : List A) → map T xs ≡ map T ys → length xs ≡ length ys
same_size T xs ys same = sym (mapped T xs) ∙ ap length same ∙ mapped T ys

pub same_many : {A B C : Type 0} (T : A → B) (F : A → C) (xs ys : List A) → map T xs ≡ map T ys
    → length (map F ys) ≡ length (map F xs)
same_many T F xs ys same = mapped F ys ∙ sym (same_size T xs ys same) ∙ sym (mapped F xs)

-- the cause of what was answered behind other calls
pub answer_then : {A : Type 0} (first second third : List ℕ) (result : Result A RestartFault)
    → length first ≡ length second → AreSteady first second → HasCauseAmong second third result
    → HasCauseAmong first third result
answer_then first second third (Ok done) long steady cause = tt
answer_then first second third (Err fault) long steady cause = cause_then first second third fault long steady cause
