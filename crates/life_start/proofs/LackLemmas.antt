-- Disks that lack slots.
use Rattle.std.proofs.Common.{◌≡◌, ◌∙◌, ℕ, zero, suc, ◌+◌, ◌<◌, List, [], ◌∷◌, length, map, get_or, refl, ap, sym}
use Rattle.std.proofs.Common.{subst, arith}
use Rattle.std.specs.Prelude.{false, Option, None, Some, Result, Ok, Err, IfErr}
use Rattle.host_io.specs.Call.{Call}
use Rattle.redo_log.specs.Stored.{files_of}
use Rattle.sig_core.specs.declared.fault.RestartFault.{RestartFault}
use Rattle.sig_core.specs.declared.view.Shape.{Shape}
use Rattle.node_disk.specs.Found.{slots_in}
use Rattle.node_disk.proofs.StartLaw.{ready_has}
use Rattle.sys_restart.specs.Answers.{is_outside}
use Rattle.sys_restart.specs.declared.restored.Restored.{Restored}
use Rattle.sys_restart.specs.LifeCalls.{told_by}
use Rattle.sys_restart.specs.ReadyDisks.{AreReady}
use Rattle.life_start.specs.Lacking.{Lacks}
use Rattle.life_start.specs.Refusals.{IsLack, IsUsedUpBy}

-- what the disk at a place tells
told_at : {A : Type 0} (T : A → Option (List Call)) (xs : List A) (k : ℕ) (x : A) → k < length xs
    → get_or (map T xs) k None ≡ T (get_or xs k x)
told_at T [] k x below = absurd (omega (arith, below))
told_at T (y ∷ xs) zero x below = refl
told_at T (y ∷ xs) (suc k) x below = told_at T xs k x (omega (arith, below))

-- the disk at a place, of those that tell the same as others, lacks slots
pub one_lacks : {A : Type 0} (T : A → Option (List Call)) (first xs : List A) (generation k : ℕ) (x : A)
    (fault : RestartFault) → k < length xs → map T xs ≡ map T first → length xs ≡ length first
    → ((calls : List Call) → T (get_or xs k x) ≡ Some calls
    → IsLack (k + 1) (slots_in generation (files_of calls)) fault)
    → Lacks generation (length first) (map T first) fault
one_lacks T first xs generation k x fault below told many lacks = record {
  node = k + 1;
  least = omega arith;
  most = omega (arith, below, many);
  lacks = λ calls is.
      lacks calls
      (sym (told_at T xs k x below)
      ∙ ap (λ (p : ℕ). get_or (map T xs) p None) (omega arith)
      ∙ ap (λ all. told_by all (k + 1)) told
      ∙ is);
}

-- a disk that is ready for a life lacks nothing
pub ready_lacks_none : (shape : Shape) (r : Restored) (told : List (Option (List Call))) (fault : RestartFault)
    → AreReady shape r told → Lacks (r.generation + 1) shape.nodes told fault → ⊥
ready_lacks_none shape r told fault ready lacks =
    let is = ready lacks.node lacks.least lacks.most in
    let slots = ready_has shape lacks.node r is.0 is.1.1 in
    subst (λ found. IsLack lacks.node found fault) slots.1.0 (lacks.lacks is.0 is.1.0)

-- so on disks that are ready a life begins, unless something outside of them keeps it
pub begins_if_ready : {B : Type 0} (shape : Shape) (r : Restored) (told : List (Option (List Call))) (count : ℕ)
    (result : Result B RestartFault) → AreReady shape r told → count ≡ shape.nodes
    → IfErr result (λ fault. is_outside fault ≡ false → Lacks (r.generation + 1) count told fault)
    → IfErr result (λ fault. is_outside fault ≡ false → IsUsedUpBy r fault)
begins_if_ready shape r told count (Ok begun) ready many lacking = tt
begins_if_ready shape r told count (Err fault) ready many lacking =
    λ inside.
    absurd (ready_lacks_none shape r told fault ready
    (subst (λ n. Lacks (r.generation + 1) n told fault) many (lacking inside)))
