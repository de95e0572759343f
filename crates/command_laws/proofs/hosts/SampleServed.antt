-- The sample is a commit that was served: each part computes.
use Rattle.std.proofs.Common.{◌≡◌, ℕ, zero, suc, ◌≤◌, [], ◌∷◌, false, refl, sym, ap, inl, arith}
use Rattle.std.proofs.lemmas.Bool.Decides.{nat_tests}
use Rattle.std.specs.Prelude.{◌==◌, Some}
use Rattle.run_theory.specs.Cuts.{IsCut}
use Rattle.run_theory.specs.Links.{sent, taken}
use Rattle.run_theory.specs.Logs.{IsLog}
use Rattle.sig_core.specs.declared.request.ApiReq.TheVariants.{Begin, Commit}
use Rattle.api_block.specs.Api.{request_row}
use Rattle.api_block.specs.Commands as api
use Rattle.api_block.specs.Members.{everyone}
use Rattle.api_block.specs.Operate.{begun_row}
use Rattle.api_block.specs.Outcome.{commit_report_row}
use Rattle.lqh_block.specs.Wait.{acknowledged}
use Rattle.node_core.specs.Dih as dih
use Rattle.node_core.specs.Fresh.{fresh_part, fresh_shell}
use Rattle.node_core.specs.Row.{ldm_row, row, shell_row, tc_part_row}
use Rattle.tc_block.specs.Commit as tc_commit
use Rattle.tc_block.specs.Complete.{all_committed}
use Rattle.tc_block.specs.Live.{without}
use Rattle.tc_block.specs.Tc as tc
use Rattle.world_core.specs.Hosts.{receiver, started}
use Rattle.world_core.specs.Machine.{machine}
use Rattle.answer_laws.proofs.SampleQuiet.{sample_quiet}
use Rattle.answer_laws.specs.Answered.{AreQuiet}
use Rattle.answer_laws.specs.Sample.{lone, sample}
use Rattle.command_laws.specs.Sample.{SampleIsServed, committed}
use Rattle.command_laws.specs.Served.{named_in}

local : (h : ℕ) → IsLog (machine lone) h (committed h)
unfolding receiver started row shell_row request_row api.begin_row api.commit_row begun_row commit_report_row everyone
    tc_part_row ldm_row tc.begin_row fresh_shell fresh_part tc_commit.verify_row tc_commit.commit_row all_committed
    without dih.decide_row dih.end_row acknowledged
local zero = (
  record { at = refl; stamped = omega arith; runs = refl; fits = record { marks = refl; asked_at = 0; asked = tt } },
  (
    record {
      at = refl;
      stamped = omega arith;
      runs = refl;
      fits = record { marks = refl; asked_at = 3; asked = record { request = Commit 7; shell = refl; is = refl } };
    },
    (
      record {
        at = refl;
        stamped = omega arith;
        runs = refl;
        fits = record { marks = refl; asked_at = 0; asked = tt };
      },
      (
        record {
          at = refl;
          stamped = omega arith;
          runs = tt;
          fits = record {
            marks = refl;
            asked_at = 0;
            asked = record { request = Begin 7 (Some 1); shell = refl; is = refl };
          };
        },
        tt,
      ),
    ),
  ),
)
local (suc zero) = tt
local (suc (suc zero)) = (
  record { at = refl; stamped = omega arith; runs = refl; fits = record { marks = refl; asked_at = 0; asked = tt } },
  (
    record { at = refl; stamped = omega arith; runs = refl; fits = record { marks = refl; asked_at = 0; asked = tt } },
    (
      record {
        at = refl;
        stamped = omega arith;
        runs = refl;
        fits = record { marks = refl; asked_at = 0; asked = tt };
      },
      (
        record {
          at = refl;
          stamped = omega arith;
          runs = refl;
          fits = record { marks = refl; asked_at = 0; asked = tt };
        },
        (
          record {
            at = refl;
            stamped = omega arith;
            runs = tt;
            fits = record { marks = refl; asked_at = 0; asked = tt };
          },
          tt,
        ),
      ),
    ),
  ),
)
local (suc (suc (suc zero))) = (
  record {
    at = refl;
    stamped = omega arith;
    runs = tt;
    fits = record
        { marks = refl; asked_at = 0; asked = tt };
  },
  tt,
)
local (suc (suc (suc (suc h)))) = tt

linked : (i j : ℕ) → taken (machine lone) i (committed j) ≡ sent (machine lone) i j (committed i)
unfolding receiver started row shell_row request_row api.begin_row api.commit_row begun_row commit_report_row everyone
    tc_part_row ldm_row tc.begin_row fresh_shell fresh_part tc_commit.verify_row tc_commit.commit_row all_committed
    without dih.decide_row dih.end_row acknowledged
linked zero zero = refl
linked zero (suc zero) = refl
linked zero (suc (suc zero)) = refl
linked zero (suc (suc (suc zero))) = refl
linked zero (suc (suc (suc (suc j)))) = let tc_off : (2 == suc (suc (suc (suc j)))) ≡ false =
    grind (arith, nat_tests) in let rows_off : (3 == suc (suc (suc (suc j)))) ≡ false = grind (arith, nat_tests) in
    rw tc_off (rw rows_off refl)
linked (suc zero) zero = refl
linked (suc zero) (suc zero) = refl
linked (suc zero) (suc (suc zero)) = refl
linked (suc zero) (suc (suc (suc zero))) = refl
linked (suc zero) (suc (suc (suc (suc j)))) = refl
linked (suc (suc zero)) zero = refl
linked (suc (suc zero)) (suc zero) = refl
linked (suc (suc zero)) (suc (suc zero)) = refl
linked (suc (suc zero)) (suc (suc (suc zero))) = refl
linked (suc (suc zero)) (suc (suc (suc (suc j)))) = let shell_off : (0 == suc (suc (suc (suc j)))) ≡ false =
    grind (arith, nat_tests) in let own_off : (2 == suc (suc (suc (suc j)))) ≡ false = grind (arith, nat_tests) in
    rw shell_off (rw own_off refl)
linked (suc (suc (suc zero))) zero = refl
linked (suc (suc (suc zero))) (suc zero) = refl
linked (suc (suc (suc zero))) (suc (suc zero)) = refl
linked (suc (suc (suc zero))) (suc (suc (suc zero))) = refl
linked (suc (suc (suc zero))) (suc (suc (suc (suc j)))) = refl
linked (suc (suc (suc (suc i)))) zero =
    let off : (2 == suc (suc (suc (suc i)))) ≡ false = grind (arith, nat_tests) in rw off refl
linked (suc (suc (suc (suc i)))) (suc zero) = refl
linked (suc (suc (suc (suc i)))) (suc (suc zero)) = let shell_off : (0 == suc (suc (suc (suc i)))) ≡ false =
    grind (arith, nat_tests) in let own_off : (2 == suc (suc (suc (suc i)))) ≡ false = grind (arith, nat_tests) in
    rw shell_off (rw own_off refl)
linked (suc (suc (suc (suc i)))) (suc (suc (suc zero))) =
    let off : (0 == suc (suc (suc (suc i)))) ≡ false = grind (arith, nat_tests) in rw off refl
linked (suc (suc (suc (suc i)))) (suc (suc (suc (suc j)))) = refl

within : (h : ℕ) → 4 ≤ h → committed h ≡ []
within zero high = absurd (omega (arith, high))
within (suc zero) high = refl
within (suc (suc zero)) high = absurd (omega (arith, high))
within (suc (suc (suc zero))) high = absurd (omega (arith, high))
within (suc (suc (suc (suc h)))) high = refl

quiet_now : AreQuiet lone committed
quiet_now = record {
  shape = sample_quiet.quiet.shape;
  right = record {
    local = local;
    there = λ h has. inl refl;
    linked = λ i j. inl (record { newer = []; is = sym (linked i j) });
  };
  within = within;
  quiet = λ i j low under. linked i j;
}

cut : IsCut sample committed
cut zero = record { newer = _ ∷ _ ∷ []; is = refl }
cut (suc zero) = record { newer = []; is = refl }
cut (suc (suc zero)) = record { newer = _ ∷ _ ∷ _ ∷ _ ∷ []; is = refl }
cut (suc (suc (suc zero))) = record { newer = _ ∷ []; is = refl }
cut (suc (suc (suc (suc h)))) = record { newer = []; is = refl }

pub sample_served : SampleIsServed
sample_served = record {
  served = record { before = sample_quiet.quiet; since = quiet_now; cut = cut; asked = refl };
  named = ap (λ opened. named_in opened 7) sample_quiet.opened;
  ready = refl;
}
