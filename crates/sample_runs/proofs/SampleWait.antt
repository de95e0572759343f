-- The wait that is granted: its logs are right and quiet, and this is what comes of it.
use Rattle.std.proofs.Common.{◌≡◌, ℕ, zero, suc, ◌≤◌, [], false, refl, sym, ap, subst, ◌∙◌, inl, arith}
use Rattle.std.proofs.lemmas.Bool.Decides.{nat_tests}
use Rattle.std.specs.Prelude.{◌==◌, drop, Some}
use Rattle.run_theory.specs.Links.{sent, taken}
use Rattle.run_theory.specs.Logs.{IsLog}
use Rattle.run_theory.specs.Runs.{AreLogs}
use Rattle.sig_core.specs.Rows.{row_of}
use Rattle.node_core.specs.Blocks.{lqh_of}
use Rattle.node_core.specs.Committed.{row_at}
use Rattle.world_core.specs.At.{row_in}
use Rattle.world_core.specs.Hosts.{receiver}
use Rattle.world_core.specs.Machine.{machine}
use Rattle.frag_map.specs.Shape.{IsShape}
use Rattle.answer_laws.specs.Sample.{lone}
use Rattle.sample_runs.proofs.Traces.{after_is, is_log, told, told_is}
use Rattle.sample_runs.proofs.WaitCoordinator.{ordering_do, ordering_steps}
use Rattle.sample_runs.proofs.WaitRows.{serving_do, serving_steps}
use Rattle.sample_runs.proofs.WaitShell.{asking_do, asking_steps}
use Rattle.sample_runs.specs.Put.{key}
use Rattle.sample_runs.specs.Wait.{SampleIsGranted, asking, ordering, second_value, serving, waited}

-- a host that takes no step
record IsIdle (h : ℕ) : Type 0 where
  none : waited h ≡ []
  not_shell : (0 == h) ≡ false
  not_coordination : (2 == h) ≡ false
  not_rows : (3 == h) ≡ false

idle_above : (h : ℕ) → IsIdle (suc (suc (suc (suc h))))
idle_above h = record {
  none = refl;
  not_shell = grind (arith, nat_tests);
  not_coordination = grind (arith, nat_tests);
  not_rows = grind (arith, nat_tests);
}

-- what is so of the three hosts that take steps, and of all others, is so of each
each_host : (P : ℕ → Type 0) → P 0 → P 2 → P 3 → ((h : ℕ) → IsIdle h → P h) → (h : ℕ) → P h
each_host P p q r idle zero = p
each_host P p q r idle (suc zero) = idle 1 (record {
  none = refl;
  not_shell = refl;
  not_coordination = refl;
  not_rows = refl;
})
each_host P p q r idle (suc (suc zero)) = q
each_host P p q r idle (suc (suc (suc zero))) = r
each_host P p q r idle (suc (suc (suc (suc h)))) = idle _ (idle_above h)

local : (h : ℕ) → IsLog (machine lone) h (waited h)
local = each_host (λ h. IsLog (machine lone) h (waited h))
    (is_log lone 0 asking asking_steps asking_do)
    (is_log lone 2 ordering ordering_steps ordering_do)
    (is_log lone 3 serving serving_steps serving_do)
    (λ h idle. subst (IsLog (machine lone) h) (sym idle.none) tt)

-- what each of the three sends is taken
from_shell : (j : ℕ) → taken (machine lone) 0 (waited j) ≡ told lone 0 j asking asking_steps
unfolding receiver
from_shell = each_host (λ j. taken (machine lone) 0 (waited j) ≡ told lone 0 j asking asking_steps) refl refl refl
    (λ j idle. ap (taken (machine lone) 0) idle.none ∙ rw (idle.not_coordination, idle.not_rows) refl)

from_coordination : (j : ℕ) → taken (machine lone) 2 (waited j) ≡ told lone 2 j ordering ordering_steps
unfolding receiver
from_coordination =
    each_host (λ j. taken (machine lone) 2 (waited j) ≡ told lone 2 j ordering ordering_steps) refl refl refl
    (λ j idle. ap (taken (machine lone) 2) idle.none ∙ rw (idle.not_shell, idle.not_coordination, idle.not_rows) refl)

from_rows : (j : ℕ) → taken (machine lone) 3 (waited j) ≡ told lone 3 j serving serving_steps
unfolding receiver
from_rows = each_host (λ j. taken (machine lone) 3 (waited j) ≡ told lone 3 j serving serving_steps) refl refl refl
    (λ j idle. ap (taken (machine lone) 3) idle.none ∙ rw (idle.not_coordination, idle.not_rows) refl)

-- of an idle host nothing is taken
from_idle : (i : ℕ) → IsIdle i → (j : ℕ) → taken (machine lone) i (waited j) ≡ []
from_idle i idle = each_host (λ j. taken (machine lone) i (waited j) ≡ [])
    (rw (idle.not_coordination) refl)
    (rw (idle.not_shell, idle.not_coordination, idle.not_rows) refl)
    (rw (idle.not_shell, idle.not_coordination, idle.not_rows) refl)
    (λ j other. ap (taken (machine lone) i) other.none)

linked : (i j : ℕ) → taken (machine lone) i (waited j) ≡ sent (machine lone) i j (waited i)
linked = each_host (λ i. (j : ℕ) → taken (machine lone) i (waited j) ≡ sent (machine lone) i j (waited i))
    (λ j. from_shell j ∙ sym (told_is lone 0 j asking asking_steps asking_do))
    (λ j. from_coordination j ∙ sym (told_is lone 2 j ordering ordering_steps ordering_do))
    (λ j. from_rows j ∙ sym (told_is lone 3 j serving serving_steps serving_do))
    (λ i idle j. from_idle i idle j ∙ sym (ap (sent (machine lone) i j) idle.none))

within : (h : ℕ) → 4 ≤ h → waited h ≡ []
within zero high = absurd (omega (arith, high))
within (suc zero) high = refl
within (suc (suc zero)) high = absurd (omega (arith, high))
within (suc (suc (suc zero))) high = absurd (omega (arith, high))
within (suc (suc (suc (suc h)))) high = refl

right : AreLogs (machine lone) waited
right = record {
  local = local;
  there = λ h has. inl refl;
  linked = λ i j. inl (record { newer = []; is = sym (linked i j) });
}

shape : IsShape lone.shape
shape = record {
  nodes_some = omega arith;
  nodes_few = omega arith;
  replicas_some = omega arith;
  replicas_few = omega arith;
  even = refl;
  fragments_some = omega arith;
  fragments_few = omega arith;
}

row_is : row_in lone waited 1 key ≡ Some second_value
unfolding receiver row_at row_of
row_is = ap (λ host. row_at host key) (after_is lone 3 serving serving_steps serving_do)

pub sample_wait : SampleIsGranted
sample_wait = record {
  quiet = record { shape = shape; right = right; within = within; quiet = λ i j low under. linked i j };
  waits = ap (λ host. (lqh_of host).waiting)
      (after_is lone 3 (drop 7 serving) (drop 7 serving_steps) serving_do.1.1.1.1.1.1.1);
  none_waits = ap (λ host. (lqh_of host).waiting) (after_is lone 3 serving serving_steps serving_do);
  none_holds = ap (λ host. (lqh_of host).locks) (after_is lone 3 serving serving_steps serving_do);
  history_is = refl;
  row = row_is;
}
