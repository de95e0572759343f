-- What laws of runs say of a member's rows behind each part of their log.
use Rattle.std.proofs.Common.{◌≡◌, ◌<◌, ◌≤◌, ◌⊎◌, ◌∙◌, ◌-◌, ◌^◌, ℕ, List, length, ap, sym, subst, arith}
use Rattle.std.specs.FinMap as map
use Rattle.run_theory.specs.Lists.{IsIn, IsPast}
use Rattle.frag_map.specs.Shape.{IsShape}
use Rattle.sig_core.specs.declared.journal.TheConstants.{JOURNAL_BYTES}
use Rattle.lqh_saver.specs.declared.stage.Stage.TheVariants.{Walked}
use Rattle.sig_core.specs.declared.member.Member.{Member}
use Rattle.sig_core.specs.declared.walk.Finished.{Finished}
use Rattle.sig_core.specs.Rows.{row_of}
use Rattle.sig_core.specs.Table.{Rows}
use Rattle.sys_restart.specs.declared.restored.Restored.{Restored}
use Rattle.sys_restart.specs.Calls.{rows_of_node}
use Rattle.sys_restart.specs.Prepared.{AreStorable}
use Rattle.request_laws.specs.Blocks.{rows_after, saver_after}
use Rattle.world_core.specs.Start.{Start, made}
use Rattle.world_core.specs.Steps.{HostStep}
use Rattle.world_core.specs.World.{logs_at}
use Rattle.world_views.specs.Driven.{IsSound}
use Rattle.world_views.specs.World.{Whole}
use Rattle.world_views.proofs.StepDriven.{right_logs, within}
use Rattle.view_laws.specs.Runs.{AreOfCluster}
use Rattle.moment_laws.proofs.MomentRuns.{are_moments}
use Rattle.moment_laws.specs.Moments.{IsMoment}
use Rattle.moment_laws.specs.Places.{ldm_of}
use Rattle.outcome_laws.proofs.order.EventsBefore.{moment_before}
use Rattle.closing_laws.proofs.settled.Cuts.{HasLogAt, events_of, has_log, logs_are}
use Rattle.journal_laws.specs.Asked.{AreOfWords}
use Rattle.journal_laws.specs.Journal.{HasRecords, first_rows, lqh_after}
use Rattle.journal_laws.specs.Walks.{IsFollowed}
use Rattle.journal_laws.proofs.Journals.{journals}
use Rattle.journal_laws.proofs.follow.Follow.{walks_followed}
use Rattle.journal_laws.proofs.room.HaveRoom.{journals_have_room}
use Rattle.saved_laws.specs.Checkpoints.{AreWords, IsCheckpoint, WalkedCheckpointsStand}
use Rattle.saved_laws.proofs.others.Below.{saved_below}
use Rattle.saved_laws.proofs.others.OfLife.{saved_of_life}
use Rattle.disk_laws.specs.Laws.{AreSavable}
use Rattle.restart_laws.specs.Lived.{MayBegin, start_behind}
use Rattle.restart_laws.proofs.begun.Rows.{rows_begin}

-- a sound world has right logs
pub cluster : (start : Start) (w : Whole) → IsShape start.shape → IsSound start w
    → AreOfCluster start (logs_at w.logs)
cluster start w shape sound = record {
  shape = shape;
  nobody = sound.right.nobody;
  right = right_logs start sound.given w sound.right;
  within = within start sound.given w sound.right;
}

module _ (start : Start) (logs : ℕ → List HostStep) (are : AreOfCluster start logs)
    (begins : start.start_epoch < start.epoch) (last : start.epoch < 2 ^ 64 - 1) (member : Member)
    (there : IsIn member (made start)) (log : List HostStep) (past : IsPast log (logs (ldm_of start member))) where
  has : HasLogAt start (ldm_of start member) log (events_of start logs)
  has =
      has_log start (ldm_of start member) log (events_of start logs)
      (subst (λ (ls : ℕ → List HostStep). IsPast log (ls (ldm_of start member))) (sym (logs_are start logs are)) past)

  moment : IsMoment start logs has.older
  moment =
      moment_before start logs has.newer has.older (subst (IsMoment start logs) has.is (are_moments start logs are))

  pub saved_low : (rows_after start member log).saved < 2 ^ 64 - 1
  saved_low =
      subst (λ (l : List HostStep). (rows_after start member l).saved < 2 ^ 64 - 1) has.log_is
      (saved_below start logs has.older begins last moment member there)

  module _ (stand : WalkedCheckpointsStand) (before : Rows) (can : AreWords start member before)
      (words : AreOfWords (logs 0)) where
    -- a checkpoint that was written stands
    stands : (finished : Finished) (end : ℕ) → (saver_after start member log).stage ≡ Walked finished end
        → IsCheckpoint start member before log finished end
    stands finished end =
        subst
        (λ (l : List HostStep). (saver_after start member l).stage ≡ Walked finished end
        → IsCheckpoint start member before l finished end) has.log_is
        (stand start logs has.older (omega (arith, last)) moment words member there before can
        finished end)

    pub savable : AreSavable start member before log
    savable =
        let own = journals start logs has.older (omega (arith, last)) moment words member there in
        record {
          events = own.0;
          records = subst (λ (l : List HostStep). HasRecords start member l own.0) has.log_is own.1;
          followed =
              subst (λ (l : List HostStep). IsFollowed start member l own.0) has.log_is
              (walks_followed start logs has.older moment member there own.0 own.1);
          room =
              subst (λ (l : List HostStep). length (lqh_after start member l).outlet.left ≤ JOURNAL_BYTES) has.log_is
              (journals_have_room start logs has.older moment member there);
          saved = saved_low;
          first =
              subst
              (λ (l : List HostStep). ((rows_after start member l).saved ≡ start.start_epoch)
              ⊎ (start.epoch ≤ (rows_after start member l).saved)) has.log_is
              (saved_of_life start logs has.older begins moment member there);
          stands = stands;
        }

-- a life begins with rows that can be written, and each member with those of its group
module _ (start : Start) (r : Restored) (is : start ≡ start_behind start.shape r) (may : MayBegin start.shape r)
    (member : Member) (there : IsIn member (made start)) where
  pub table_begins : (key : List ℕ)
      → map.get (rows_of_node start.shape member.node r) key ≡ row_of (first_rows start member) key
  table_begins key =
      rows_begin start.shape r member may (subst (λ (s : Start). IsIn member (made s)) is there) key
      ∙ ap (λ (s : Start). row_of (first_rows s member) key) (sym is)

  pub can_write : AreStorable (rows_of_node start.shape member.node r)
      → AreWords start member (rows_of_node start.shape member.node r)
  can_write storable = record { storable = storable; table = table_begins }
