-- How what was restored is what a life begins with.
use Rattle.std.proofs.Common.{◌≡◌, ℕ, ◌-◌, ◌/◌, ◌^◌, ◌<◌, false, List, arith}
use Rattle.std.specs.Prelude.{◌==◌, IfOk, OnOk, Result, Ok, Err}
use Rattle.std.proofs.lemmas.Bool.{eqb-false, or_parts}
use Rattle.std.proofs.lemmas.Nat.{div-add-mod'}
use Rattle.sig_core.specs.declared.fault.RestartFault.{RestartFault}
use Rattle.sys_restart.specs.Calls.{is_used_up}
use Rattle.sys_restart.specs.declared.restored.Restored.{Restored}
use Rattle.sys_restart.proofs.KeepsLemmas.{HasNumbers}
use Rattle.sys_restart.specs.Files.{Disks}
use Rattle.sys_restart.specs.Restored.{restored_of}
use Rattle.sig_core.specs.declared.view.Shape.{Shape}
use Rattle.life_start.specs.Begun.{HasBegun, begins_from, end_of_epochs}

-- an answer is one value
pub same_answer : (one other : Restored) (found : Result Restored RestartFault) → found ≡ Ok one → found ≡ Ok other
    → one ≡ other
same_answer one other found first second = cc

pub where_ok : {A E : Type 0} (P : Type 0) (result : Result A E) → P → OnOk result P
where_ok P (Ok a) is = is
where_ok P (Err fault) is = tt

-- what a life begins with that follows what disks say
pub has_begun : {B E : Type 0} (shape : Shape) (disks : Disks) (r : Restored) (result : Result B E)
    (generation epoch : B → ℕ) (rows : B → List (List ℕ × List ℕ)) → restored_of shape disks ≡ Ok r
    → IfOk result (λ b. begins_from r (generation b) (epoch b) (rows b)) → IfOk result (λ b. epoch b < end_of_epochs)
    → IfOk result (λ b. HasBegun shape disks (generation b) (epoch b) (rows b))
has_begun shape disks r (Ok b) generation epoch rows read begins low =
    record { restored = r; read = read; begins = begins; low = low }
has_begun shape disks r (Err fault) generation epoch rows read begins low = tt

-- an epoch whose checkpoint number isn't the last
pub below_last : (r : Restored) → r.epoch < 2 ^ 64 → is_used_up r ≡ false → r.epoch < end_of_epochs
below_last r fits unused =
    let parts = or_parts (r.generation == 2 ^ 64 - 1) (r.epoch / 2 ^ 32 == 2 ^ 32 - 1) unused in
    let other = eqb-false (r.epoch / 2 ^ 32) (2 ^ 32 - 1) parts.1 in
    let split = div-add-mod' r.epoch (2 ^ 32) in
    grind (arith, fits, other, split)

-- Where a life begins the numbers of what was restored fit their types, and that shows the rest.
pub where_begun : {B E : Type 0} (P : Type 0) (result : Result B E) (r : Restored) (generation epoch : B → ℕ)
    (rows : B → List (List ℕ × List ℕ)) → is_used_up r ≡ false → IfOk result (λ b. generation b < 2 ^ 64)
    → IfOk result (λ b. epoch b < end_of_epochs)
    → IfOk result (λ b. begins_from r (generation b) (epoch b) (rows b)) → (HasNumbers r → P) → OnOk result P
where_begun P (Ok b) r generation epoch rows unused fits more begins shows =
    shows (record {
      generation = omega (arith, fits, begins.0);
      epoch = omega (arith, more, begins.1);
      unused = unused;
    })
where_begun P (Err fault) r generation epoch rows unused fits more begins shows = tt
