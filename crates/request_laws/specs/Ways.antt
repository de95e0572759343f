-- Which way a transaction goes at its coordinator: it is committed, or given up.
use Rattle.std.specs.Prelude.{◌||◌, Bool, false, List, [], ◌∷◌, Option, None, Some}
use Rattle.std.specs.List.{list_any}
use Rattle.sig_core.specs.declared.member.Member.{Member}
use Rattle.sig_core.specs.declared.member.TxId.{TxId}
use Rattle.sig_core.specs.declared.outs.Outgoing.{Outgoing}
use Rattle.sig_core.specs.declared.signal.Body.{Body}
use Rattle.sig_core.specs.declared.signal.Body.TheVariants.{Client}
use Rattle.sig_core.specs.declared.signal.client.ClientSignal.TheVariants.{TcCommitConf, TcRollbackRep}
use Rattle.sig_core.specs.Same.{same_tx}
use Rattle.host_laws.specs.Live.{of_live}
use Rattle.tc_block.specs.declared.phase.Phase.{Phase}
use Rattle.tc_block.specs.declared.transaction.Transaction.{Transaction}
use Rattle.tc_block.specs.Phases.{is_aborting, is_decided}
use Rattle.tc_views.specs.State.{CoordinatorState}
use Rattle.world_core.specs.Start.{Start}
use Rattle.world_core.specs.Steps.{HostStep}
use Rattle.world_views.specs.Machine.{step_after}
use Rattle.moment_laws.specs.Places.{tc_of}
use Rattle.request_laws.specs.Blocks.{coordinator_after}

-- the transaction at a coordinator that hasn't forgotten it
abbrev pub entry_of : CoordinatorState → TxId → Option Transaction
entry_of s tx = of_live tx s.tc.live

-- it is there, in such a phase
abbrev pub is_at : (Phase → Bool) → Option Transaction → Bool
is_at p None = false
is_at p (Some t) = p t.phase

-- its client is told that it is committed, or that it is aborted
abbrev pub tells_commit : TxId → Body → Bool
tells_commit tx (Client (TcCommitConf other epoch)) = same_tx other tx
tells_commit tx body = false

abbrev pub tells_abort : TxId → Body → Bool
tells_abort tx (Client (TcRollbackRep other cause)) = same_tx other tx
tells_abort tx body = false

abbrev pub is_sent : (Body → Bool) → List Outgoing → Bool
is_sent p sends = list_any (λ (sent : Outgoing). p sent.body) sends

module _ (start : Start) (member : Member) (tx : TxId) where
  -- along a log of the coordinator's host it was once in such a phase, or its client was told this
  abbrev pub has_gone : (Phase → Bool) → (Body → Bool) → List HostStep → Bool
  has_gone p told [] = false
  has_gone p told (e ∷ log) =
      is_at p (entry_of (coordinator_after start member (e ∷ log)) tx)
      || (is_sent told (step_after start (tc_of start member) log e).effects.sends || has_gone p told log)

  -- it was committed: its rows, or none
  abbrev pub has_gone_forth : List HostStep → Bool
  has_gone_forth log = has_gone is_decided (tells_commit tx) log

  -- it was given up
  abbrev pub has_gone_back : List HostStep → Bool
  has_gone_back log = has_gone is_aborting (tells_abort tx) log
