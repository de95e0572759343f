-- What a coordinator's transaction sends, whatever turn it takes.
use Rattle.std.proofs.Common.{ℕ, Bool, true, false, refl}
use Rattle.std.specs.Map.{values_of}
use Rattle.std.specs.Prelude.{Option, None, Some, slice_get}
use Rattle.sig_core.specs.declared.member.TxId.{TxId}
use Rattle.sig_core.specs.declared.outs.Outgoing.{Outgoing}
use Rattle.sig_core.specs.declared.signal.Body.{Body}
use Rattle.sig_core.specs.declared.signal.Body.TheVariants.{Chain, Client, Epoch, Host}
use Rattle.sig_core.specs.declared.signal.chain.ChainSignal.TheVariants.{Abort, Commit, Complete, LqhKeyReq}
use Rattle.sig_core.specs.declared.signal.client.ClientSignal.TheVariants.{LqhWaitReq, TcBeginConf, TcBeginRef}
use Rattle.sig_core.specs.declared.signal.client.ClientSignal.TheVariants.{TcCommitConf, TcKeyConf, TcRollbackRep}
use Rattle.sig_core.specs.declared.signal.client.ClientSignal.TheVariants.{TcWaitConf}
use Rattle.sig_core.specs.declared.signal.epoch.EpochSignal.TheVariants.{DiVerifyEnd, DiVerifyReq}
use Rattle.sig_core.specs.declared.signal.host.HostSignal.TheVariants.{Continue, Round}
use Rattle.frag_map.specs.Layout.{Layout}
use Rattle.tc_block.specs.declared.task.Task.{Task}
use Rattle.tc_block.specs.declared.transaction.Transaction.{Transaction}
use Rattle.tc_block.specs.Live.{place_in, turn_place, turn_value, turned_if}
use Rattle.tc_block.specs.Resume.{resume_row, resume_step}
use Rattle.tc_block.specs.State.{TcState}
use Rattle.tc_block.specs.Tc.{tc_table}
use Rattle.tc_block.specs.Turn.{Turn}
use Rattle.tc_block.proofs.EachTc.{tc_each}
use Rattle.tc_block.proofs.EachTurn.{rows_at}
use Rattle.tc_block.proofs.TurnSends.{DriveSends, SendsOnly, resume_row_sends, turn_sends}
use Rattle.view_laws.proofs.words.Sent.{AreOf, IsOf, SendsOf}

-- it answers a client, tells replicas what to do and to wait for, asks the epochs of its node for one, and goes on
abbrev pub is_of_coordinator : Body → Bool
is_of_coordinator (Client (TcBeginConf name tx)) = true
is_of_coordinator (Client (TcBeginRef name)) = true
is_of_coordinator (Client (TcKeyConf tx answer)) = true
is_of_coordinator (Client (TcCommitConf tx epoch)) = true
is_of_coordinator (Client (TcRollbackRep tx cause)) = true
is_of_coordinator (Client (TcWaitConf tx ahead)) = true
is_of_coordinator (Client (LqhWaitReq tx key)) = true
is_of_coordinator (Chain (LqhKeyReq tx doing chain at)) = true
is_of_coordinator (Chain (Commit tx key epoch chain at)) = true
is_of_coordinator (Chain (Complete tx key chain at)) = true
is_of_coordinator (Chain (Abort tx key)) = true
is_of_coordinator (Epoch (DiVerifyReq tx ops)) = true
is_of_coordinator (Epoch (DiVerifyEnd tx)) = true
is_of_coordinator (Host (Continue doing at)) = true
is_of_coordinator body = false

-- signals of these, whatever turn sends them
abbrev OfTurn : Turn → Outgoing → Type 0
OfTurn turn sent = IsOf is_of_coordinator sent

drives : (node : ℕ) (layout : Layout) (tx : TxId) (t : Transaction) (body : Body)
    → DriveSends node layout tx t body (λ turn sent. OfTurn turn sent)
drives node layout tx t body = record {
  goes_on = λ turn left. refl;
  commits = λ turn epoch awaited has in_phase u there. refl;
  confirms = λ turn epoch has how. refl;
  completes = λ turn epoch awaited has in_phase u there written. refl;
  aborts = λ turn why verifying awaited is in_phase key r there. refl;
  leaves = λ turn over. refl;
  rolls_back = λ turn why is over. refl;
}

-- the transaction at a place takes it
turned_kinds : (s : TcState) (at : ℕ) (turn : Turn) → AreOf is_of_coordinator turn.step.effects.sends → (b : Bool)
    → SendsOf is_of_coordinator (turned_if s at turn b)
turned_kinds s at turn own true = own
turned_kinds s at turn own false = own

-- whatever the coordinator takes
pub tc_kinds : (s : TcState) (body : Body) → SendsOf is_of_coordinator (tc_table s body)
tc_kinds s body =
    tc_each (λ tx t turn. SendsOnly (λ turn sent. OfTurn turn sent) turn)
    (λ step. SendsOf is_of_coordinator step) s body (record {
      turns = λ tx t at split.
          rows_at s.node s.layout tx t body (λ turn. SendsOnly (λ turn sent. OfTurn turn sent) turn)
          (turn_sends s.node s.layout tx t body (λ turn sent. OfTurn turn sent) (record {
            drives = drives s.node s.layout tx t body;
            operates = λ op is can. refl;
            answers = λ key answer asked is answers at. refl;
            waits = λ asked is on r. refl;
            decides = λ is ready. refl;
          }));
      turned = λ tx t at split turn own. turned_kinds s at turn own.sends turn.over;
      stays = tt;
      full = λ name. (refl, tt);
      begins = λ name. (refl, tt);
      passes = λ tx ahead. (refl, tt);
    })

pub resume_kinds : (s : TcState) (task : Task) (number : ℕ) → SendsOf is_of_coordinator (resume_step s task number)
unfolding resume_step
resume_kinds s task number = at_place (place_in s task.tx)
  where
    row : Transaction → Turn
    row t = resume_row s.node s.layout task.tx t task.verdict number

    at_value : (at : ℕ) (t : Option Transaction) → SendsOf is_of_coordinator (turn_value s row at t)
    at_value at None = tt
    at_value at (Some t) =
        turned_kinds s at (row t)
        (resume_row_sends s.node s.layout task.tx t (Host Round) (λ turn sent. OfTurn turn sent)
        (drives s.node s.layout task.tx t (Host Round)) task.verdict number)
        (row t).over

    at_place : (o : Option ℕ) → SendsOf is_of_coordinator (turn_place s row o)
    at_place None = tt
    at_place (Some at) = at_value at (slice_get (values_of s.live) at)
