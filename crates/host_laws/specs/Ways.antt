-- Which way a transaction goes at its coordinator: its rows are committed, or aborted, and its client is told so.
use Rattle.node_core.specs.Blocks.{tc_of}
use Rattle.sig_core.specs.declared.place.BlockId.TheVariants as block
use Rattle.sig_core.specs.declared.signal.Signal.{Signal}
use Rattle.node_core.specs.declared.tc_part.TcPart.{TcPart}
use Rattle.node_core.specs.declared.host.Host.TheVariants.{Tc}
use Rattle.std.specs.List.{list_any}
use Rattle.std.specs.Prelude.{◌≡◌, ℕ, Bool, true, false, List, [], ◌∷◌}
use Rattle.run_theory.specs.Lists.{Each}
use Rattle.world_core.specs.Steps.{HostStep}
use Rattle.sig_core.specs.declared.member.TxId.{TxId}
use Rattle.sig_core.specs.declared.outs.Outgoing.{Outgoing}
use Rattle.sig_core.specs.declared.place.BlockId.{BlockId}
use Rattle.sig_core.specs.declared.signal.Body.{Body}
use Rattle.sig_core.specs.declared.signal.Body.TheVariants.{Client, Chain}
use Rattle.sig_core.specs.declared.signal.chain.ChainSignal.TheVariants.{Commit, Complete, Abort}
use Rattle.sig_core.specs.declared.signal.client.ClientSignal.TheVariants.{TcCommitConf, TcRollbackRep}
use Rattle.sig_core.specs.Same.{same_tx}
use Rattle.tc_block.specs.Tc.{tc_row}
use Rattle.node_core.specs.declared.host.Host.{Host}
use Rattle.world_core.specs.Machine.{after}
use Rattle.world_core.specs.Start.{Start}

-- a signal commits a row of the transaction or tells its client that it is committed, aborts one or tells that it is
-- aborted,
-- completes one, or does none of these
pub data Way : Type 0 where
  forth : TxId → Way
  back : TxId → Way
  closes : TxId → Way
  neither : Way

abbrev pub way_of : Body → Way
way_of (Chain (Commit tx key epoch chain at)) = forth tx
way_of (Chain (Abort tx key)) = back tx
way_of (Chain (Complete tx key chain at)) = closes tx
way_of (Client (TcCommitConf tx epoch)) = forth tx
way_of (Client (TcRollbackRep tx cause)) = back tx
way_of body = neither

abbrev pub is_forth : TxId → Way → Bool
is_forth tx (forth other) = same_tx tx other
is_forth tx way = false

-- the transactions that signals take forth, or back, in front of those before
abbrev pub forth_by : Way → List TxId → List TxId
forth_by (forth tx) before = tx ∷ before
forth_by way before = before

abbrev pub back_by : Way → List TxId → List TxId
back_by (back tx) before = tx ∷ before
back_by way before = before

abbrev pub put_ways : (Way → List TxId → List TxId) → List Outgoing → List TxId → List TxId
put_ways f [] before = before
put_ways f (o ∷ more) before = put_ways f more (f (way_of o.body) before)

-- what the coordinator of a host sends at a signal; the other blocks send none of its own
abbrev pub sends_for : TcPart → BlockId → Signal → List Outgoing
sends_for p block.Tc x = (tc_row p.tc x).effects.sends
sends_for p _ x = []

abbrev pub tc_sends : Host → Signal → List Outgoing
tc_sends (Tc p) x = sends_for p x.to.block x
tc_sends host x = []

-- the transactions that the coordinator of host h, with this log, took forth, or back
abbrev pub sent_ways : Start → (Way → List TxId → List TxId) → ℕ → List HostStep → List TxId
sent_ways start f h [] = []
sent_ways start f h (e ∷ log) = put_ways f (tc_sends (after start h log) e.step.taken) (sent_ways start f h log)

-- no coordinator takes one transaction both forth and back, whatever its host takes
abbrev pub CoordinatorsGoOneWay : Type 0
CoordinatorsGoOneWay =
    (start : Start) (h : ℕ) (log : List HostStep)
    → Each (λ tx. Each (λ v. same_tx v tx ≡ false) (sent_ways start back_by h log)) (sent_ways start forth_by h log)

-- of what a coordinator of this node sends, each transaction is its own and is among those that it took that way
abbrev pub IsSaid : ℕ → List TxId → List TxId → Way → Type 0
IsSaid node cs bs (forth tx) = (tx.tc ≡ node) × (list_any (same_tx tx) cs ≡ true)
IsSaid node cs bs (back tx) = (tx.tc ≡ node) × (list_any (same_tx tx) bs ≡ true)
IsSaid node cs bs (closes tx) = (tx.tc ≡ node) × (list_any (same_tx tx) cs ≡ true)
IsSaid node cs bs neither = Unit {0}

abbrev pub AreSaid : Host → List TxId → List TxId → List Outgoing → Type 0
AreSaid host cs bs sends = Each (λ (o : Outgoing). IsSaid (tc_of host).node cs bs (way_of o.body)) sends

-- so it is of what each step sends; and a row is completed only of a transaction that went forth
abbrev pub CoordinatorsSay : Type 0
CoordinatorsSay =
    (start : Start) (h : ℕ) (log : List HostStep) (e : HostStep)
    → AreSaid (after start h log) (sent_ways start forth_by h (e ∷ log)) (sent_ways start back_by h (e ∷ log))
    (tc_sends (after start h log) e.step.taken)
