-- Whom a transaction waits for at a backup is decided at its coordinator, or being aborted.
use Rattle.std.proofs.Common.{◌≡◌, ◌⊎◌, ℕ, true, List, inl, inr}
use Rattle.std.proofs.lemmas.Bool.{or_left, or_right}
use Rattle.std.specs.List.{list_any}
use Rattle.std.specs.Prelude.{◌||◌, Some}
use Rattle.sig_core.specs.declared.member.TxId.{TxId}
use Rattle.sig_core.specs.Same.{same_tx}
use Rattle.tc_block.specs.declared.transaction.Transaction.{Transaction}
use Rattle.tc_block.specs.Phases.{is_aborting, is_decided}
use Rattle.node_core.specs.Blocks.{tc_of}
use Rattle.world_core.specs.Hosts.{home}
use Rattle.world_core.specs.Machine.{after}
use Rattle.world_core.specs.Start.{Start}
use Rattle.world_core.specs.Steps.{HostStep}
use Rattle.host_laws.specs.Ways.{back_by, forth_by, sent_ways}
use Rattle.host_laws.proofs.coordinator.OfLive.{each_found}
use Rattle.host_laws.proofs.coordinator.OneWay.{back_aborting, forth_decided}
use Rattle.run_laws.specs.GivenUp.{is_carried_out, is_given_up}
use Rattle.run_laws.specs.Live.{live_at}
use Rattle.run_laws.specs.Routes.{replica_host}
use Rattle.run_laws.specs.Transit.{logs_of}
use Rattle.order_laws.specs.LetGo.{HoldersAreEnding}
use Rattle.order_laws.proofs.LetGo.{holders_have_let_go}
use Rattle.order_laws.proofs.Over.{who_lets_go_is_over}

-- one that is given up or carried out, and that its coordinator has
pub ending : (start : Start) (logs : ℕ → List HostStep) (tx : TxId) (t : Transaction)
    → live_at start logs tx ≡ Some t
    → (is_given_up start logs tx ≡ true) ⊎ (is_carried_out start logs tx ≡ true)
    → (is_decided t.phase || is_aborting t.phase) ≡ true
ending start logs tx t live (inl given) =
    or_right (is_decided t.phase) (is_aborting t.phase)
    (each_found (λ (x : TxId × Transaction). list_any (same_tx x.0) (sent_ways start back_by (home start tx)
    (logs (home start tx))) ≡ true → is_aborting x.1.phase ≡ true)
    (tc_of (after start (home start tx) (logs (home start tx)))).live tx t
    (back_aborting start (home start tx) (logs (home start tx))) live given)
ending start logs tx t live (inr carried) =
    or_left (is_decided t.phase) (is_aborting t.phase)
    (each_found (λ (x : TxId × Transaction). list_any (same_tx x.0) (sent_ways start forth_by (home start tx)
    (logs (home start tx))) ≡ true → is_decided x.1.phase ≡ true)
    (tc_of (after start (home start tx) (logs (home start tx)))).live tx t
    (forth_decided start (home start tx) (logs (home start tx))) live carried)

pub holders_are_ending : HoldersAreEnding
holders_are_ending start es key at holder waiter t run is live =
    ending start (logs_of start es) holder t live
    (who_lets_go_is_over start es key (replica_host start key at) holder run
    (holders_have_let_go start es key at holder waiter run is))
