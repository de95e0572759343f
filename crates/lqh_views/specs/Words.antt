-- The words of a node's rows under views: all that they ever send, and all that marks their steps.
use Rattle.std.specs.Prelude.{Bool, true, false}
use Rattle.sig_core.specs.declared.mark.Mark.{Mark}
use Rattle.sig_core.specs.declared.mark.Mark.TheVariants as mark
use Rattle.sig_core.specs.declared.signal.Body.{Body}
use Rattle.sig_core.specs.declared.signal.Body.TheVariants.{Chain, Client, Epoch, Host, Membership, Takeover}
use Rattle.sig_core.specs.declared.signal.Signal.{Signal}
use Rattle.sig_core.specs.declared.signal.chain.ChainSignal.TheVariants as chain
use Rattle.sig_core.specs.declared.signal.chain.RowWork.TheVariants.{Store}
use Rattle.sig_core.specs.declared.signal.client.ClientSignal.TheVariants.{DumpConf, LqhWaitConf}
use Rattle.sig_core.specs.declared.signal.epoch.EpochSignal.TheVariants.{GcpClosedConf, GcpSaveConf, GcpStateConf}
use Rattle.sig_core.specs.declared.signal.host.HostSignal.TheVariants.{Continue}
use Rattle.sig_core.specs.declared.signal.host.Work.TheVariants.{Expired, Granted, Report}
use Rattle.sig_core.specs.declared.signal.membership.MembershipSignal.TheVariants.{FenceConf}
use Rattle.sig_core.specs.declared.signal.takeover.TakeoverSignal.TheVariants.{LqhTransConf, LqhTransEnd}
use Rattle.sig_core.specs.declared.view.View.{View}
use Rattle.sig_core.specs.Step.{stay}
use Rattle.step_forms.specs.Does.{Speaks}
use Rattle.lqh_views.specs.Replica.{installed, replica_row}
use Rattle.lqh_views.specs.State.{ReplicaState}

-- what the rows send where they take a signal: images of writes go along chains, never operations; and no abort
abbrev pub is_row_word : Body → Bool
is_row_word (Chain (chain.LqhKeyReq tx (Store key image) members at)) = true
is_row_word (Chain (chain.LqhKeyConf tx key answer)) = true
is_row_word (Chain (chain.LqhKeyRef tx key cause)) = true
is_row_word (Chain (chain.Commit tx key epoch members at)) = true
is_row_word (Chain (chain.Committed tx key)) = true
is_row_word (Chain (chain.Complete tx key members at)) = true
is_row_word (Chain (chain.Completed tx key)) = true
is_row_word (Chain (chain.Aborted tx key)) = true
is_row_word (Client (LqhWaitConf tx ahead)) = true
is_row_word (Client (DumpConf rows next)) = true
is_row_word (Host (Continue Granted at)) = true
is_row_word (Host (Continue Expired at)) = true
is_row_word _ = false

-- and all that they send under views
abbrev pub is_replica_word : Body → Bool
is_replica_word (Chain (chain.LqhKeyReq tx (Store key image) members at)) = true
is_replica_word (Chain (chain.LqhKeyConf tx key answer)) = true
is_replica_word (Chain (chain.LqhKeyRef tx key cause)) = true
is_replica_word (Chain (chain.Commit tx key epoch members at)) = true
is_replica_word (Chain (chain.Committed tx key)) = true
is_replica_word (Chain (chain.Complete tx key members at)) = true
is_replica_word (Chain (chain.Completed tx key)) = true
is_replica_word (Chain (chain.Aborted tx key)) = true
is_replica_word (Client (LqhWaitConf tx ahead)) = true
is_replica_word (Client (DumpConf rows next)) = true
is_replica_word (Epoch (GcpClosedConf epoch)) = true
is_replica_word (Epoch (GcpSaveConf epoch)) = true
is_replica_word (Epoch (GcpStateConf current prepared next closed saved durable)) = true
is_replica_word (Membership FenceConf) = true
is_replica_word (Takeover (LqhTransConf tx key state epoch)) = true
is_replica_word (Takeover LqhTransEnd) = true
is_replica_word (Host (Continue Granted at)) = true
is_replica_word (Host (Continue Expired at)) = true
is_replica_word (Host (Continue Report at)) = true
is_replica_word _ = false

-- what becomes of a transaction's part in a row, or of its wait for one
abbrev pub is_replica_mark : Mark → Bool
is_replica_mark (mark.Prepared tx key) = true
is_replica_mark (mark.Applied tx key) = true
is_replica_mark (mark.Done tx key) = true
is_replica_mark (mark.Expired tx key) = true
is_replica_mark _ = false

-- whatever the rows take, and whatever view is installed
pub record ReplicaKeepsToItsWords : Type 0 where
  pub takes : (s : ReplicaState) (x : Signal) → Speaks is_replica_word is_replica_mark (replica_row s x)
  pub installs : (s : ReplicaState) (view : View) → Speaks is_replica_word is_replica_mark (stay (installed s view))
