-- The put through two replicas: its logs are right and quiet, and this is what comes of it.
use Rattle.std.proofs.Common.{◌≡◌, ℕ, zero, suc, ◌≤◌, [], ◌∷◌, Bool, true, false, refl, sym, ap, subst, ◌∙◌, inl, inr}
use Rattle.std.proofs.Common.{arith}
use Rattle.std.proofs.lemmas.Bool.{true≢false}
use Rattle.std.proofs.lemmas.Bool.Decides.{nat_tests}
use Rattle.std.specs.Prelude.{◌==◌, ◌||◌, None, Some}
use Rattle.frag_map.specs.Replicas.{first_start}
use Rattle.frag_map.specs.Shape.{IsShape}
use Rattle.run_theory.proofs.Cuts.{closed_of_logs}
use Rattle.run_theory.specs.Cuts.{IsClosed}
use Rattle.run_theory.specs.Links.{sent, taken}
use Rattle.run_theory.specs.Lists.{IsIn}
use Rattle.run_theory.specs.Logs.{IsLog}
use Rattle.run_theory.specs.Runs.{AreLogs}
use Rattle.sig_core.specs.declared.member.Member.{Member}
use Rattle.sig_core.specs.declared.op.Answer.TheVariants.{Done}
use Rattle.sig_core.specs.declared.outcome.Outcome.TheVariants.{Committed}
use Rattle.sig_core.specs.declared.reply.ApiReply.TheVariants.{Answered, Ended}
use Rattle.sig_core.specs.Rows.{row_of}
use Rattle.node_core.specs.Committed.{row_at}
use Rattle.node_core.specs.Replies.{replies_of}
use Rattle.world_core.proofs.Stamped.{stamped}
use Rattle.world_core.specs.At.{row_in}
use Rattle.world_core.specs.Hosts.{receiver, rows_host}
use Rattle.world_core.specs.Machine.{after, machine}
use Rattle.world_core.specs.Rest.{IsAtRest, IsSettled}
use Rattle.world_core.specs.Views.{live_nodes}
use Rattle.sample_runs.proofs.PutChain.{one_holds, two_holds}
use Rattle.sample_runs.proofs.PutCoordinator.{coordinator_do, coordinator_steps}
use Rattle.sample_runs.proofs.PutRows.{backup_do, backup_steps, primary_do, primary_steps}
use Rattle.sample_runs.proofs.PutShell.{shell_do, shell_steps}
use Rattle.sample_runs.proofs.Settled.{settled}
use Rattle.sample_runs.proofs.Traces.{after_is, is_log, told, told_is}
use Rattle.sample_runs.specs.Put.{SampleIsPut, backup, coordination, entry, key, primary, put, shell, two, value}

-- a host that takes no step
record IsIdle (h : ℕ) : Type 0 where
  none : put h ≡ []
  not_shell : (0 == h) ≡ false
  not_coordination : (2 == h) ≡ false
  not_primary : (3 == h) ≡ false
  not_backup : (6 == h) ≡ false

idle_above : (h : ℕ) → IsIdle (suc (suc (suc (suc (suc (suc (suc h)))))))
idle_above h = record {
  none = refl;
  not_shell = grind (arith, nat_tests);
  not_coordination = grind (arith, nat_tests);
  not_primary = grind (arith, nat_tests);
  not_backup = grind (arith, nat_tests);
}

-- what is so of the four hosts that take steps, and of all others, is so of each
each_host : (P : ℕ → Type 0) → P 0 → P 2 → P 3 → P 6 → ((h : ℕ) → IsIdle h → P h) → (h : ℕ) → P h
each_host P p q r s idle zero = p
each_host P p q r s idle (suc zero) =
    idle 1 (record { none = refl; not_shell = refl; not_coordination = refl; not_primary = refl; not_backup = refl })
each_host P p q r s idle (suc (suc zero)) = q
each_host P p q r s idle (suc (suc (suc zero))) = r
each_host P p q r s idle (suc (suc (suc (suc zero)))) =
    idle 4 (record { none = refl; not_shell = refl; not_coordination = refl; not_primary = refl; not_backup = refl })
each_host P p q r s idle (suc (suc (suc (suc (suc zero))))) =
    idle 5 (record { none = refl; not_shell = refl; not_coordination = refl; not_primary = refl; not_backup = refl })
each_host P p q r s idle (suc (suc (suc (suc (suc (suc zero)))))) = s
each_host P p q r s idle (suc (suc (suc (suc (suc (suc (suc h))))))) = idle _ (idle_above h)

local : (h : ℕ) → IsLog (machine two) h (put h)
local = each_host (λ h. IsLog (machine two) h (put h))
    (is_log two 0 shell shell_steps shell_do)
    (is_log two 2 coordination coordinator_steps coordinator_do)
    (is_log two 3 primary primary_steps primary_do)
    (is_log two 6 backup backup_steps backup_do)
    (λ h idle. subst (IsLog (machine two) h) (sym idle.none) tt)

-- what each of the four sends is taken
from_shell : (j : ℕ) → taken (machine two) 0 (put j) ≡ told two 0 j shell shell_steps
unfolding receiver
from_shell = each_host (λ j. taken (machine two) 0 (put j) ≡ told two 0 j shell shell_steps) refl refl refl refl
    (λ j idle. ap (taken (machine two) 0) idle.none
    ∙ rw (idle.not_coordination, idle.not_primary, idle.not_backup) refl)

from_coordination : (j : ℕ) → taken (machine two) 2 (put j) ≡ told two 2 j coordination coordinator_steps
unfolding receiver
from_coordination =
    each_host (λ j. taken (machine two) 2 (put j) ≡ told two 2 j coordination coordinator_steps) refl refl refl refl
    (λ j idle. ap (taken (machine two) 2) idle.none
    ∙ rw (idle.not_shell, idle.not_coordination, idle.not_primary, idle.not_backup) refl)

from_primary : (j : ℕ) → taken (machine two) 3 (put j) ≡ told two 3 j primary primary_steps
unfolding receiver
from_primary = each_host (λ j. taken (machine two) 3 (put j) ≡ told two 3 j primary primary_steps) refl refl refl refl
    (λ j idle. ap (taken (machine two) 3) idle.none ∙ rw (idle.not_coordination, idle.not_backup) refl)

from_backup : (j : ℕ) → taken (machine two) 6 (put j) ≡ told two 6 j backup backup_steps
unfolding receiver
from_backup = each_host (λ j. taken (machine two) 6 (put j) ≡ told two 6 j backup backup_steps) refl refl refl refl
    (λ j idle. ap (taken (machine two) 6) idle.none ∙ rw (idle.not_coordination, idle.not_primary) refl)

-- of an idle host nothing is taken
from_idle : (i : ℕ) → IsIdle i → (j : ℕ) → taken (machine two) i (put j) ≡ []
from_idle i idle = each_host (λ j. taken (machine two) i (put j) ≡ [])
    (rw (idle.not_coordination) refl)
    (rw (idle.not_shell, idle.not_coordination, idle.not_primary, idle.not_backup) refl)
    (rw (idle.not_shell, idle.not_coordination, idle.not_backup) refl)
    (rw (idle.not_shell, idle.not_coordination, idle.not_primary) refl)
    (λ j other. ap (taken (machine two) i) other.none)

linked : (i j : ℕ) → taken (machine two) i (put j) ≡ sent (machine two) i j (put i)
linked = each_host (λ i. (j : ℕ) → taken (machine two) i (put j) ≡ sent (machine two) i j (put i))
    (λ j. from_shell j ∙ sym (told_is two 0 j shell shell_steps shell_do))
    (λ j. from_coordination j ∙ sym (told_is two 2 j coordination coordinator_steps coordinator_do))
    (λ j. from_primary j ∙ sym (told_is two 3 j primary primary_steps primary_do))
    (λ j. from_backup j ∙ sym (told_is two 6 j backup backup_steps backup_do))
    (λ i idle j. from_idle i idle j ∙ sym (ap (sent (machine two) i j) idle.none))

within : (h : ℕ) → 7 ≤ h → put h ≡ []
within zero high = absurd (omega (arith, high))
within (suc zero) high = refl
within (suc (suc zero)) high = absurd (omega (arith, high))
within (suc (suc (suc zero))) high = absurd (omega (arith, high))
within (suc (suc (suc (suc zero)))) high = refl
within (suc (suc (suc (suc (suc zero))))) high = refl
within (suc (suc (suc (suc (suc (suc zero)))))) high = absurd (omega (arith, high))
within (suc (suc (suc (suc (suc (suc (suc h))))))) high = refl

right : AreLogs (machine two) put
right = record {
  local = local;
  there = λ h has. inl refl;
  linked = λ i j. inl (record { newer = []; is = sym (linked i j) });
}

shape : IsShape two.shape
shape = record {
  nodes_some = omega arith;
  nodes_few = omega arith;
  replicas_some = omega arith;
  replicas_few = omega arith;
  even = refl;
  fragments_some = omega arith;
  fragments_few = omega arith;
}

closed : IsClosed (machine two) put
closed = closed_of_logs (machine two) (stamped two) put right

-- what is so at both nodes is so at each that is live
each_live : (P : Member → Type 0) → P (first_start 1) → P (first_start 2) → (member : Member)
    → IsIn member (live_nodes two put) → P member
each_live P one other member (inl is) = subst P (sym is) one
each_live P one other member (inr (inl is)) = subst P (sym is) other
each_live P one other member (inr (inr none)) = absurd none

either : (b rest : Bool) → b ≡ true → (b || rest) ≡ true
either true rest is = refl
either false rest is = absurd (true≢false (sym is))

settled_primary : IsSettled key primary
settled_primary = settled key primary (
  λ tx is. absurd (true≢false (sym is)),
  (λ tx is. absurd (true≢false (sym is)), (λ tx is. absurd (true≢false (sym is)), (λ tx is. either _ _ is, tt))),
)

settled_backup : IsSettled key backup
settled_backup = settled key backup (
  λ tx is. absurd (true≢false (sym is)),
  (λ tx is. absurd (true≢false (sym is)), (λ tx is. absurd (true≢false (sym is)), (λ tx is. either _ _ is, tt))),
)

rest : IsAtRest two put key
unfolding receiver
rest member replica =
    each_live (λ (live : Member). IsSettled key (put (rows_host two live.node))) settled_primary settled_backup member
    replica.live

row_primary : row_in two put 1 key ≡ Some value
unfolding receiver row_at row_of
row_primary = ap (λ host. row_at host key) (after_is two 3 primary primary_steps primary_do)

row_backup : row_in two put 2 key ≡ Some value
unfolding receiver row_at row_of
row_backup = ap (λ host. row_at host key) (after_is two 6 backup backup_steps backup_do)

replies : replies_of (after two 0 (put 0)) ≡ Answered None Done ∷ Ended None (Committed entry.epoch) ∷ []
unfolding replies_of
replies = ap replies_of (after_is two 0 shell shell_steps shell_do)

pub sample_put : SampleIsPut
sample_put = record {
  quiet = record { shape = shape; right = right; within = within; quiet = λ i j low under. linked i j };
  history_is = refl;
  reported = refl;
  replies = replies;
  rest = rest;
  at_primary = record { live = inl refl; holding = one_holds };
  at_backup = record { live = inr (inl refl); holding = two_holds };
  rows = λ member replica.
      each_live (λ (live : Member). row_in two put live.node key ≡ Some value) row_primary row_backup member
      replica.live;
}
