-- The sample is a closed cut with an abort that was reported: each part computes.
use Rattle.std.proofs.Common.{◌≡◌, ℕ, zero, suc, ◌≤◌, [], ◌∷◌, false, refl, sym, inl, arith}
use Rattle.std.specs.Prelude.{◌==◌, Some}
use Rattle.std.proofs.lemmas.Bool.Decides.{nat_tests}
use Rattle.run_theory.proofs.Cuts.{closed_of_logs}
use Rattle.run_theory.proofs.Pasts.{past_self}
use Rattle.run_theory.specs.Links.{sent, taken}
use Rattle.run_theory.specs.Logs.{IsLog}
use Rattle.run_theory.specs.Runs.{AreLogs}
use Rattle.sig_core.specs.declared.request.ApiReq.TheVariants as request
use Rattle.api_block.specs.Api.{request_row}
use Rattle.api_block.specs.Commands as api
use Rattle.api_block.specs.Operate.{begun_row}
use Rattle.api_block.specs.Outcome.{abort_report_row}
use Rattle.node_core.specs.Fresh.{fresh_part, fresh_shell}
use Rattle.node_core.specs.Row.{row, shell_row, tc_part_row}
use Rattle.tc_block.specs.Abort.{aborted_for, rollback_row}
use Rattle.tc_block.specs.Live.{without}
use Rattle.tc_block.specs.Tc as tc
use Rattle.world_core.proofs.Stamped.{stamped}
use Rattle.world_core.specs.Hosts.{receiver, started}
use Rattle.world_core.specs.Machine.{machine}
use Rattle.cause_laws.specs.Sample.{SampleIsAborted, aborted, before_report, lone, report}

local : (h : ℕ) → IsLog (machine lone) h (aborted h)
unfolding receiver started row shell_row request_row api.begin_row api.abort_row begun_row abort_report_row tc_part_row
    tc.begin_row rollback_row aborted_for without fresh_shell fresh_part
local zero = (
  record { at = refl; stamped = omega arith; runs = refl; fits = record { marks = refl; asked_at = 0; asked = tt } },
  (
    record {
      at = refl;
      stamped = omega arith;
      runs = refl;
      fits = record {
        marks = refl;
        asked_at = 3;
        asked = record { request = request.Abort 7; shell = refl; is = refl };
      };
    },
    (
      record {
        at = refl;
        stamped = omega arith;
        runs = refl;
        fits = record { marks = refl; asked_at = 0; asked = tt };
      },
      (
        record {
          at = refl;
          stamped = omega arith;
          runs = tt;
          fits = record {
            marks = refl;
            asked_at = 0;
            asked = record { request = request.Begin 7 (Some 1); shell = refl; is = refl };
          };
        },
        tt,
      ),
    ),
  ),
)
local (suc zero) = tt
local (suc (suc zero)) = (
  record { at = refl; stamped = omega arith; runs = refl; fits = record { marks = refl; asked_at = 0; asked = tt } },
  (
    record { at = refl; stamped = omega arith; runs = tt; fits = record { marks = refl; asked_at = 0; asked = tt } },
    tt,
  ),
)
local (suc (suc (suc h))) = tt

linked : (i j : ℕ) → taken (machine lone) i (aborted j) ≡ sent (machine lone) i j (aborted i)
unfolding receiver started row shell_row request_row api.begin_row api.abort_row begun_row abort_report_row tc_part_row
    tc.begin_row rollback_row aborted_for without fresh_shell fresh_part
linked zero zero = refl
linked zero (suc zero) = refl
linked zero (suc (suc zero)) = refl
linked zero (suc (suc (suc j))) =
    let off : (2 == suc (suc (suc j))) ≡ false = grind (arith, nat_tests) in rw off refl
linked (suc zero) zero = refl
linked (suc zero) (suc zero) = refl
linked (suc zero) (suc (suc zero)) = refl
linked (suc zero) (suc (suc (suc j))) = refl
linked (suc (suc zero)) zero = refl
linked (suc (suc zero)) (suc zero) = refl
linked (suc (suc zero)) (suc (suc zero)) = refl
linked (suc (suc zero)) (suc (suc (suc j))) =
    let off : (0 == suc (suc (suc j))) ≡ false = grind (arith, nat_tests) in rw off refl
linked (suc (suc (suc i))) zero =
    let off : (2 == suc (suc (suc i))) ≡ false = grind (arith, nat_tests) in rw off refl
linked (suc (suc (suc i))) (suc zero) = refl
linked (suc (suc (suc i))) (suc (suc zero)) =
    let off : (0 == suc (suc (suc i))) ≡ false = grind (arith, nat_tests) in rw off refl
linked (suc (suc (suc i))) (suc (suc (suc j))) = refl

within : (h : ℕ) → 4 ≤ h → aborted h ≡ []
within zero high = absurd (omega (arith, high))
within (suc zero) high = refl
within (suc (suc zero)) high = absurd (omega (arith, high))
within (suc (suc (suc h))) high = refl

right : AreLogs (machine lone) aborted
right = record {
  local = local;
  there = λ h has. inl refl;
  linked = λ i j. inl (record { newer = []; is = sym (linked i j) });
}

pub sample_aborted : SampleIsAborted
sample_aborted = record {
  shape = record {
    nodes_some = omega arith;
    nodes_few = omega arith;
    replicas_some = omega arith;
    replicas_few = omega arith;
    even = refl;
    fragments_some = omega arith;
    fragments_few = omega arith;
  };
  cut = record {
    within = within;
    right = right;
    cut = λ h. past_self (aborted h);
    closed = closed_of_logs (machine lone) (stamped lone) aborted right;
  };
  reported = past_self (report ∷ before_report);
  marked_so = inl refl;
}
