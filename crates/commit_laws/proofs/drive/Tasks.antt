-- How often a transaction is listed to be driven once more: once at most as a view is installed, if it is decided; and
-- no more often later.
use Rattle.std.proofs.Common.{◌≡◌, ◌≤◌, ◌==◌, ◌&&◌, ◌||◌, ◌++◌, ◌∙◌, ℕ, Bool, true, false, List, [], ◌∷◌, nat_lt, refl}
use Rattle.std.proofs.Common.{sym, ap, arith}
use Rattle.std.specs.List.{count_by}
use Rattle.std.specs.Prelude.{if◌then◌else◌, is_some, Option, None, Some}
use Rattle.run_theory.specs.Lists.{Each}
use Rattle.run_theory.proofs.Pasts.{each_map}
use Rattle.sig_core.specs.declared.member.TxId.{TxId}
use Rattle.sig_core.specs.declared.signal.Body.{Body}
use Rattle.sig_core.specs.declared.signal.Body.TheVariants.{Client, Epoch, Host, Membership}
use Rattle.sig_core.specs.declared.signal.client.ClientSignal.TheVariants.{TcKeyReq, TcRollbackReq}
use Rattle.sig_core.specs.declared.signal.epoch.EpochSignal.TheVariants.{DiVerifyConf}
use Rattle.sig_core.specs.declared.signal.host.HostSignal.TheVariants.{Continue}
use Rattle.sig_core.specs.declared.signal.host.Work.TheVariants as work
use Rattle.sig_core.specs.declared.signal.membership.MembershipSignal.TheVariants.{FenceReq}
use Rattle.sig_core.specs.declared.signal.Signal.{Signal}
use Rattle.sig_core.specs.declared.view.View.{View}
use Rattle.sig_core.specs.Same.{same_tx}
use Rattle.sig_core.proofs.TxLemmas.{same_tx-is}
use Rattle.host_laws.specs.Live.{of_live}
use Rattle.tc_block.specs.declared.phase.Phase.{Phase}
use Rattle.tc_block.specs.declared.phase.Phase.TheVariants.{Aborting, Committing, Completing, Open, Verifying}
use Rattle.tc_block.specs.declared.task.Task.{Task}
use Rattle.tc_block.specs.declared.task.Verdict.{Verdict}
use Rattle.tc_block.specs.declared.task.Verdict.TheVariants.{AbortAnew, Fail, Redrive}
use Rattle.tc_block.specs.declared.transaction.Transaction.{Transaction}
use Rattle.tc_block.specs.Doom.{is_among}
use Rattle.tc_block.specs.Phases.{is_decided}
use Rattle.tc_block.specs.Resume.{task_if, task_of, tasks_in, verdict_by, verdict_of}
use Rattle.tc_block.proofs.LiveSplit.{KeysOnce, Live}
use Rattle.tc_block.specs.Complete.{one_if}
use Rattle.tc_views.specs.Coordinator.{calm_unless, coordinator_row, coordinator_table, is_to_fail}
use Rattle.tc_views.specs.State.{CoordinatorState, within}
use Rattle.tc_views.specs.Views.{fence_row, install_row, resume_by, resume_if, resume_row, tasks_if}
use Rattle.outcome_laws.proofs.coordinators.Lists.{count_both, count_more}
use Rattle.commit_laws.proofs.drive.Turns.{is_redrive}

-- the transaction is to be driven once more
abbrev pub is_listed : TxId → Task → Bool
is_listed tx task = same_tx task.tx tx && is_redrive task.verdict

abbrev pub listed : TxId → CoordinatorState → ℕ
listed tx s = count_by (is_listed tx) s.left

-- one that is decided is listed once at most as a view is installed
abbrev pub decided_now : Option Transaction → Bool
decided_now None = false
decided_now (Some t) = is_decided t.phase

module _ (tx : TxId) (doomed : List TxId) where
  task_listed : (e : TxId × Transaction)
      → count_by (is_listed tx) (task_of doomed e) ≤ one_if (same_tx e.0 tx && is_decided e.1.phase)
  unfolding verdict_of
  task_listed e = by e.1.phase (is_among doomed e.0 || is_some e.1.asked)
    where
      off : (v : Verdict) (phase : Phase) → is_redrive v ≡ false
          → count_by (is_listed tx) (task_if e.0 (Some v)) ≤ one_if (same_tx e.0 tx && is_decided phase)
      off v phase is =
          omega (
            arith,
            count_more (is_listed tx) (record { tx = e.0; verdict = v }) [],
            ap (λ b. one_if (same_tx e.0 tx && b)) is,
            none (same_tx e.0 tx),
          )
        where
          none : (b : Bool) → one_if (b && false) ≡ 0
          none true = refl
          none false = refl

      by : (phase : Phase) (lost : Bool)
          → count_by (is_listed tx) (task_if e.0 (verdict_by phase lost)) ≤ one_if (same_tx e.0 tx && is_decided phase)
      by Open true = off Fail Open refl
      by Open false = omega arith
      by Verifying true = off Fail Verifying refl
      by Verifying false = omega arith
      by (Aborting why verifying awaited) lost = off AbortAnew (Aborting why verifying awaited) refl
      by (Committing epoch awaited) lost =
          omega (arith, count_more (is_listed tx) (record { tx = e.0; verdict = Redrive }) [])
      by (Completing epoch awaited) lost =
          omega (arith, count_more (is_listed tx) (record { tx = e.0; verdict = Redrive }) [])

  others_listed : (live : Live) → Each (λ (e : TxId × Transaction). same_tx e.0 tx ≡ false) live
      → count_by (is_listed tx) (tasks_in doomed live) ≡ 0
  unfolding tasks_in
  others_listed [] off = refl
  others_listed (e ∷ live) off =
      omega (
        arith,
        count_both (is_listed tx) (task_of doomed e) (tasks_in doomed live),
        task_listed e,
        ap (λ b. one_if (b && is_decided e.1.phase)) off.0,
        others_listed live off.1,
      )

  pub tasks_listed : (live : Live) → KeysOnce live
      → count_by (is_listed tx) (tasks_in doomed live) ≤ one_if (decided_now (of_live tx live))
  unfolding tasks_in
  tasks_listed [] once = omega arith
  tasks_listed (e ∷ live) once = by (same_tx e.0 tx) refl (tasks_listed live once.1)
    where
      by : (b : Bool) → same_tx e.0 tx ≡ b
          → count_by (is_listed tx) (tasks_in doomed live) ≤ one_if (decided_now (of_live tx live))
          → count_by (is_listed tx) (task_of doomed e ++ tasks_in doomed live)
          ≤ one_if (decided_now (if b then Some e.1 else of_live tx live))
      by true same rest =
          let is : e.0 ≡ tx = same_tx-is e.0 tx same in
          omega (
            arith,
            count_both (is_listed tx) (task_of doomed e) (tasks_in doomed live),
            task_listed e,
            ap (λ b. one_if (b && is_decided e.1.phase)) same,
            others_listed live
                (each_map (λ (x : TxId × Transaction). same_tx x.0 e.0 ≡ false)
                (λ (x : TxId × Transaction). same_tx x.0 tx ≡ false) live (λ x off. ap (same_tx x.0) (sym is) ∙ off)
                once.0),
          )
      by false off rest =
          omega (
            arith,
            count_both (is_listed tx) (task_of doomed e) (tasks_in doomed live),
            task_listed e,
            ap (λ b. one_if (b && is_decided e.1.phase)) off,
            rest,
          )

-- so behind an installation
pub installed_listed : (tx : TxId) (s : CoordinatorState) (view : View) → KeysOnce s.tc.live
    → listed tx (install_row s view).state ≤ one_if (decided_now (of_live tx s.tc.live))
unfolding install_row
installed_listed tx s view once = by (nat_lt view.number s.fence)
  where
    by : (b : Bool) → count_by (is_listed tx) (tasks_if s b) ≤ one_if (decided_now (of_live tx s.tc.live))
    by true = omega arith
    by false = tasks_listed tx s.doomed s.tc.live once

-- a step leaves the tasks as they are, or does the first of them
module _ (tx : TxId) (s : CoordinatorState) where
  less_listed : (now : List Task) → now ≡ s.left → count_by (is_listed tx) now ≤ listed tx s
  less_listed now is = omega (arith, ap (count_by (is_listed tx)) is)

  unless_left : (body : Body) (b : Bool) → (calm_unless s body b).state.left ≡ s.left
  unfolding within
  unless_left body true = refl
  unless_left body false = refl

  -- it does the first
  pub first_left : (task : Task) (rest : List Task) → s.left ≡ task ∷ rest → (resume_by s s.left).state.left ≡ rest
  unfolding within
  first_left task rest is = ap (λ (left : List Task). (resume_by s left).state.left) is

  by_left : (left : List Task) → s.left ≡ left → count_by (is_listed tx) (resume_by s left).state.left ≤ listed tx s
  unfolding within
  by_left [] is = omega arith
  by_left (task ∷ rest) is =
      omega (arith, count_more (is_listed tx) task rest, ap (count_by (is_listed tx)) is)

  resumes_left : (number : ℕ) → count_by (is_listed tx) (resume_row s number).state.left ≤ listed tx s
  unfolding resume_row
  resumes_left number = by (number == s.number)
    where
      by : (b : Bool) → count_by (is_listed tx) (resume_if s b).state.left ≤ listed tx s
      by true = by_left s.left refl
      by false = omega arith

  table_left : (number : ℕ) (body : Body) → listed tx (coordinator_table s number body).state ≤ listed tx s
  unfolding fence_row within
  table_left number (Membership (FenceReq proposal)) = omega arith
  table_left number (Host (Continue work.Installation at)) = resumes_left number
  table_left number (Host (Continue (work.Transaction one) at)) =
      less_listed (calm_unless s (Host (Continue (work.Transaction one) at)) (nat_lt number s.number)).state.left
      (unless_left (Host (Continue (work.Transaction one) at)) (nat_lt number s.number))
  table_left number (Epoch (DiVerifyConf one epoch)) =
      less_listed (calm_unless s (Epoch (DiVerifyConf one epoch)) (is_among s.doomed one)).state.left
      (unless_left (Epoch (DiVerifyConf one epoch)) (is_among s.doomed one))
  table_left number (Client (TcKeyReq one op)) =
      less_listed (calm_unless s (Client (TcKeyReq one op)) (is_to_fail s.left one)).state.left
      (unless_left (Client (TcKeyReq one op)) (is_to_fail s.left one))
  table_left number (Client (TcRollbackReq one)) =
      less_listed (calm_unless s (Client (TcRollbackReq one)) (is_to_fail s.left one)).state.left
      (unless_left (Client (TcRollbackReq one)) (is_to_fail s.left one))
  table_left number body = omega arith

  pub row_listed : (x : Signal) → listed tx (coordinator_row s x).state ≤ listed tx s
  row_listed x = table_left x.view.number x.body

  -- and where it does a task of the transaction
  pub resumed_listed : (x : Signal) (at : ℕ) (task : Task) (rest : List Task)
      → x.body ≡ Host (Continue work.Installation at) → (x.view.number == s.number) ≡ true → s.left ≡ task ∷ rest
      → (coordinator_row s x).state.left ≡ rest
  unfolding resume_row
  resumed_listed x at task rest is newer left =
      ap (λ (b : Body). (coordinator_table s x.view.number b).state.left) is
      ∙ (ap (λ b. (resume_if s b).state.left) newer ∙ first_left task rest left)
