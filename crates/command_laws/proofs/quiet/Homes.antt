-- Of each host's coordinator: its transactions are sound, and it has none of another host. Where a transaction waits
-- there are rows.
use Rattle.std.proofs.Common.{◌≡◌, ◌⊎◌, ◌<◌, ◌≤◌, ℕ, Bool, true, false, List, sym, ap, ◌∙◌, inl, inr, refl, arith}
use Rattle.std.proofs.lemmas.Bool.{cases_lt}
use Rattle.std.specs.Prelude.{None, Some}
use Rattle.run_theory.specs.Links.{sent}
use Rattle.sig_core.specs.declared.member.TxId.{TxId}
use Rattle.row_locks.specs.Tables.{ahead_at}
use Rattle.node_core.specs.Blocks.{has_lqh, lqh_of, tc_of}
use Rattle.tc_block.specs.declared.transaction.Transaction.{Transaction}
use Rattle.world_core.proofs.HostNumbers.{IsNodes, rows_found}
use Rattle.world_core.specs.Hosts.{home, first_hosts, rows_host}
use Rattle.world_core.specs.Machine.{after, machine}
use Rattle.world_core.specs.Start.{Start}
use Rattle.world_core.specs.Steps.{HostStep}
use Rattle.run_theory.specs.Counts.{tally}
use Rattle.run_laws.proofs.hosts.AlongSteps.{at_home, at_tc}
use Rattle.host_laws.proofs.hosts.LinkCounts.{signals, steps, taken_steps}
use Rattle.run_laws.proofs.causes.Begun.{keeps}
use Rattle.host_laws.proofs.coordinator.Lives.{is_keyed, is_start}
use Rattle.answer_laws.specs.Answered.{AreQuiet}
use Rattle.host_laws.specs.Live.{of_live}
use Rattle.command_laws.proofs.hosts.HostKinds.{no_rows}
use Rattle.command_laws.proofs.hosts.TcPath.{IsSound}
use Rattle.host_laws.proofs.coordinator.Steps.{live_none}

module _ (start : Start) (tx : TxId) (h : ℕ) (log : List HostStep) where
  pub sound_at : IsSound tx (tc_of (after start h log))
  sound_at = let at = at_tc start tx h log in record { few = at.once; own = at.own }

  -- who has the transaction is its home
  pub lives_home : h < first_hosts start → (t : Transaction) → of_live tx (tc_of (after start h log)).live ≡ Some t
      → home start tx ≡ h
  lives_home low t live = sym (at_home start tx h log t low live).is

-- what a coordinator has at quiet the shell's host was told of
module _ (start : Start) (logs : ℕ → List HostStep) (quiet : AreQuiet start logs) (tx : TxId) (h : ℕ) where
  pub lives_begun : tally (is_keyed tx) (tc_of (after start h (logs h))).live ≤ steps (is_start tx) (logs 0)
  lives_begun = by (cases_lt h (first_hosts start))
    where
      began : tally (is_keyed tx) (tc_of (after start h (logs h))).live ≤ signals (is_start tx)
          (sent (machine start) h 0 (logs h))
      began = (keeps start tx h (logs h)).keeps.began

      by : (h < first_hosts start) ⊎ (first_hosts start ≤ h)
          → tally (is_keyed tx) (tc_of (after start h (logs h))).live ≤ steps
          (is_start tx) (logs 0)
      by (inl low) = omega (
        arith,
        began,
        ap (signals (is_start tx)) (quiet.quiet h 0 low (omega arith)),
        taken_steps start (is_start tx) h (logs 0),
      )
      by (inr high) = omega (
        arith,
        began,
        ap (λ log. signals (is_start tx) (sent (machine start) h 0 log))
            (quiet.within h high),
      )

  -- so what hasn't begun is at none
  pub unborn_there : steps (is_start tx) (logs 0) ≡ 0 → of_live tx (tc_of (after start h (logs h))).live ≡ None
  unborn_there none = live_none tx (tc_of (after start h (logs h))).live (omega (arith, lives_begun, none))

-- where a transaction waits behind another there are rows
pub ahead_rows : (start : Start) (h : ℕ) (log : List HostStep) → h < first_hosts start → (key : List ℕ) (tx who : TxId)
    → ahead_at (lqh_of (after start h log)).locks key tx ≡ Some who → IsNodes start (rows_host start) h
ahead_rows start h log low key tx who is = by (has_lqh (after start h log)) refl
  where
    by : (b : Bool) → has_lqh (after start h log) ≡ b → IsNodes start (rows_host start) h
    by true runs = rows_found start h log low runs
    by false none = absurd (let both : None ≡ Some who = sym (no_rows (after start h log) none key tx) ∙ is in cc)
