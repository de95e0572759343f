-- The sample is quiet: each part computes.
use Rattle.std.proofs.Common.{◌≡◌, ℕ, zero, suc, ◌≤◌, [], ◌∷◌, Bool, true, false, refl, sym, inl, arith}
use Rattle.std.specs.Prelude.{◌==◌, Some, if◌then◌else◌}
use Rattle.std.proofs.lemmas.Bool.Decides.{nat_tests}
use Rattle.api_block.specs.Api.{request_row}
use Rattle.api_block.specs.Commands.{begin_row}
use Rattle.api_block.specs.Operate.{begun_row}
use Rattle.node_core.specs.Fresh.{fresh_part, fresh_shell}
use Rattle.node_core.specs.Row.{row, shell_row, tc_part_row}
use Rattle.run_theory.specs.Links.{sent, taken}
use Rattle.run_theory.specs.Logs.{IsLog}
use Rattle.sig_core.specs.declared.request.ApiReq.TheVariants.{Begin}
use Rattle.tc_block.specs.Tc as tc
use Rattle.world_core.specs.Hosts.{receiver, started}
use Rattle.world_core.specs.Machine.{machine}
use Rattle.world_core.specs.Steps.{Addressed}
use Rattle.host_laws.specs.OpenedAfter.{opened_after}
use Rattle.answer_laws.specs.Sample.{SampleIsQuiet, lone, sample, seventh}

local : (h : ℕ) → IsLog (machine lone) h (sample h)
unfolding receiver started row shell_row request_row begin_row begun_row tc_part_row tc.begin_row fresh_shell fresh_part
local zero = (
  record { at = refl; stamped = omega arith; runs = refl; fits = record { marks = refl; asked_at = 0; asked = tt } },
  (
    record {
      at = refl;
      stamped = omega arith;
      runs = tt;
      fits = record
          { marks = refl; asked_at = 0; asked = record { request = Begin 7 (Some 1); shell = refl; is = refl } };
    },
    tt,
  ),
)
local (suc zero) = tt
local (suc (suc zero)) = (
  record {
    at = refl;
    stamped = omega arith;
    runs = tt;
    fits = record
        { marks = refl; asked_at = 0; asked = tt };
  },
  tt,
)
local (suc (suc (suc h))) = tt

-- nothing passes a test that fails
none : (b : Bool) (x : Addressed) → b ≡ false → [] ≡ (if b then x ∷ [] else [])
none true x e = cc
none false x e = refl

linked : (i j : ℕ) → taken (machine lone) i (sample j) ≡ sent (machine lone) i j (sample i)
unfolding receiver started row shell_row request_row begin_row begun_row tc_part_row tc.begin_row fresh_shell fresh_part
linked zero zero = refl
linked zero (suc zero) = refl
linked zero (suc (suc zero)) = refl
linked zero (suc (suc (suc j))) = none (2 == suc (suc (suc j))) _ (grind (arith, nat_tests))
linked (suc zero) zero = refl
linked (suc zero) (suc zero) = refl
linked (suc zero) (suc (suc zero)) = refl
linked (suc zero) (suc (suc (suc j))) = refl
linked (suc (suc zero)) zero = refl
linked (suc (suc zero)) (suc zero) = refl
linked (suc (suc zero)) (suc (suc zero)) = refl
linked (suc (suc zero)) (suc (suc (suc j))) = none (0 == suc (suc (suc j))) _ (grind (arith, nat_tests))
linked (suc (suc (suc i))) zero = sym (none (2 == suc (suc (suc i))) _ (grind (arith, nat_tests)))
linked (suc (suc (suc i))) (suc zero) = refl
linked (suc (suc (suc i))) (suc (suc zero)) = sym (none (0 == suc (suc (suc i))) _ (grind (arith, nat_tests)))
linked (suc (suc (suc i))) (suc (suc (suc j))) = refl

-- the transaction that is open
opened : opened_after lone sample ≡ seventh ∷ []
unfolding receiver started row shell_row request_row begin_row begun_row tc_part_row tc.begin_row fresh_shell fresh_part
opened = refl

within : (h : ℕ) → 4 ≤ h → sample h ≡ []
within zero high = absurd (omega (arith, high))
within (suc zero) high = refl
within (suc (suc zero)) high = absurd (omega (arith, high))
within (suc (suc (suc h))) high = refl

pub sample_quiet : SampleIsQuiet
sample_quiet = record {
  quiet = record {
    shape = record {
      nodes_some = omega arith;
      nodes_few = omega arith;
      replicas_some = omega arith;
      replicas_few = omega arith;
      even = refl;
      fragments_some = omega arith;
      fragments_few = omega arith;
    };
    right = record {
      local = local;
      there = λ h has. inl refl;
      linked = λ i j. inl (record { newer = []; is = sym (linked i j) });
    };
    within = within;
    quiet = λ i j low under. linked i j;
  };
  opened = opened;
}
