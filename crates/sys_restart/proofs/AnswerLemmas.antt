-- What the calls that were made on a node's disk come to.
use Rattle.std.proofs.Common.{◌≡◌, ℕ, true, false, List, length, subst, arith, inl, inr}
use Rattle.std.specs.Prelude.{Option, Some, Result, Ok, Err, OnOk}
use Rattle.frag_map.specs.Shape.{IsShape}
use Rattle.host_io.specs.Call.{Call}
use Rattle.lcp_store.specs.Laws.{CheckpointsAreRead}
use Rattle.sig_core.specs.declared.fault.RestartFault.{RestartFault}
use Rattle.sig_core.specs.declared.fault.RestartFault.TheVariants.{Damaged, DiskFault, NoMemory, OtherShape, UsedUp}
use Rattle.sig_core.specs.declared.view.Shape.{Shape}
use Rattle.sysfile_core.specs.Runs.{Runs}
use Rattle.sys_restart.specs.declared.restored.Restored.{Restored}
use Rattle.sys_restart.specs.Calls.{RunsOrWants, name_calls, node_calls}
use Rattle.sys_restart.specs.LifeCalls.{HasRun, RunsAll, prepare_asks}
use Rattle.sys_restart.specs.Prepared.{HasPrepared, IsReady, KeepsOrNames, KeepsRestart, MayName, MayPrepare}
use Rattle.sys_restart.specs.ReadyDisks.{AreReady, AreToPrepare}
use Rattle.sys_restart.proofs.AlikeLemmas.{same_some}
use Rattle.sys_restart.proofs.KeepsLemmas.{HasNumbers, keeps_restart, keeps_without_calls}
use Rattle.sys_restart.proofs.NamingLemmas.{keeps_or_names, keeps_unnamed}
use Rattle.sys_restart.proofs.PreparedLemmas.{prepares}
use Rattle.sys_restart.proofs.ReadyDisks.{all_ready}
use Rattle.sys_restart.proofs.ReadyLemmas.{is_ready}

module _ (calls now : List Call) (shape : Shape) (node : ℕ) (r : Restored) (told : Option (List Call))
    (is : told ≡ Some now)
    (numbers : HasNumbers r) where
  pub keeps_by : (result : Result (Unit {0}) RestartFault)
      → RunsOrWants (node_calls calls shape node r) calls told result
      → KeepsRestart shape node r calls now
  keeps_by (Ok done) runs =
      keeps_restart calls shape node r now true numbers
      (subst (λ (end : Option (List Call)). Runs (node_calls calls shape node r) calls end true) is runs)
  keeps_by (Err NoMemory) none =
      subst (KeepsRestart shape node r calls) (same_some calls now told none is)
      (keeps_without_calls calls shape node r)
  keeps_by (Err (DiskFault of count)) runs =
      keeps_restart calls shape node r now false numbers
      (subst (λ (end : Option (List Call)). Runs (node_calls calls shape node r) calls end false) is runs)
  keeps_by (Err (OtherShape found asked)) runs = absurd runs
  keeps_by (Err (Damaged of file at byte)) runs = absurd runs
  keeps_by (Err (UsedUp generation epoch)) runs = absurd runs

  pub prepared_by : CheckpointsAreRead → (result : Result (Unit {0}) RestartFault)
      → RunsOrWants (node_calls calls shape node r) calls told result
      → OnOk result (MayPrepare shape node r calls → HasPrepared shape node r now)
  prepared_by law (Ok done) runs =
      λ may.
      prepares calls shape node r numbers may now
      (subst (λ (end : Option (List Call)). Runs (node_calls calls shape node r) calls end true) is runs) law
  prepared_by law (Err fault) runs = tt

  pub names_by : IsShape shape → (result : Result (Unit {0}) RestartFault)
      → RunsOrWants (name_calls calls shape r) calls told result → KeepsOrNames shape node r calls now
  names_by fits (Ok done) runs =
      keeps_or_names calls now true shape node r fits numbers
      (subst (λ (end : Option (List Call)). Runs (name_calls calls shape r) calls end true) is runs)
  names_by fits (Err NoMemory) none =
      subst (KeepsOrNames shape node r calls) (same_some calls now told none is) (keeps_unnamed calls shape node r)
  names_by fits (Err (DiskFault of count)) runs =
      keeps_or_names calls now false shape node r fits numbers
      (subst (λ (end : Option (List Call)). Runs (name_calls calls shape r) calls end false) is runs)
  names_by fits (Err (OtherShape found asked)) runs = absurd runs
  names_by fits (Err (Damaged of file at byte)) runs = absurd runs
  names_by fits (Err (UsedUp generation epoch)) runs = absurd runs

  pub ready_by : IsShape shape → (result : Result (Unit {0}) RestartFault)
      → RunsOrWants (name_calls calls shape r) calls told result
      → OnOk result (MayName shape node r calls → IsReady shape node r now)
  ready_by fits (Ok done) runs =
      λ may.
      is_ready calls now shape node r fits numbers may
      (subst (λ (end : Option (List Call)). Runs (name_calls calls shape r) calls end true) is runs)
  ready_by fits (Err fault) runs = tt

-- all disks are ready, where all calls were made
pub life_ready : (shape : Shape) (r : Restored) (records : List (List Call)) (mid told : List (Option (List Call)))
    (result : Result (Unit {0}) RestartFault) → IsShape shape → HasNumbers r → CheckpointsAreRead
    → length mid ≡ length records → length records ≡ shape.nodes
    → HasRun (prepare_asks shape r records) records mid (Ok tt) → RunsAll shape r records told result
    → OnOk result (AreToPrepare shape r records → AreReady shape r told)
life_ready shape r records mid told (Err fault) fits numbers law many nodes first runs = tt
life_ready shape r records mid told (Ok done) fits numbers law many nodes first (inl (last, less, turns)) =
    λ are. absurd (omega (arith, less, turns.last))
life_ready shape r records mid told (Ok done) fits numbers law many nodes first (inr (last, all)) =
    λ are. all_ready shape r records mid told fits numbers law many nodes are first last all.named
