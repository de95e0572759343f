-- What the wish for a transaction with a name comes to, between two quiet moments.
use Rattle.std.specs.Prelude.{◌≡◌, ◌++◌, ℕ, Bool, true, false, List, [], ◌∷◌, Option, None, Some}
use Rattle.sig_core.specs.declared.member.TxId.{TxId}
use Rattle.sig_core.specs.declared.reply.ApiReply.TheVariants.{Begun, Refused}
use Rattle.sig_core.specs.declared.reply.Refusal.TheVariants.{TooManyOpen}
use Rattle.sig_core.specs.declared.request.ApiReq.TheVariants.{Begin}
use Rattle.api_block.specs.Commands.{node_for}
use Rattle.api_block.specs.declared.opened.Doing.TheVariants.{Ready}
use Rattle.api_block.specs.declared.opened.OpenTransaction.{OpenTransaction}
use Rattle.tc_block.specs.State.{TcState}
use Rattle.tc_block.specs.Tc.{is_full, next_tx}
use Rattle.node_core.specs.Blocks.{api_of, tc_of}
use Rattle.world_core.specs.Hosts.{tc_host}
use Rattle.world_core.specs.Machine.{after}
use Rattle.world_core.specs.Start.{Start}
use Rattle.world_core.specs.Steps.{HostStep}
use Rattle.host_laws.specs.OpenedAfter.{opened_after}
use Rattle.command_laws.specs.Served.{named_in, replies_since}
use Rattle.command_laws.specs.TurnedDown.{turned_down_for}

-- the transaction of this name takes commands
pub record TakesCommands (start : Start) (logs : ℕ → List HostStep) (name : ℕ) (tx : TxId) : Type 0 where
  pub item : OpenTransaction
  pub named : named_in (opened_after start logs) name ≡ Some item
  pub ready : item.doing ≡ Ready
  pub own : item.tx ≡ Some tx

-- the coordinator of a node, after these logs
abbrev pub coordinator_at : Start → (ℕ → List HostStep) → ℕ → TcState
coordinator_at start logs node = tc_of (after start (tc_host start node) (logs (tc_host start node)))

-- The coordinator's next transaction has begun: that is replied, and nothing else. It is behind those that were open,
-- and
-- takes commands.
pub record IsBegun (start : Start) (was now : ℕ → List HostStep) (name node : ℕ) : Type 0 where
  pub told : replies_since start was now ≡ Begun name node ∷ []
  pub takes : TakesCommands start now name (next_tx (coordinator_at start was node))
  pub home : (next_tx (coordinator_at start was node)).tc ≡ node
  pub behind : opened_after start now ≡ opened_after start was ++ takes.item ∷ []

-- none has: that is replied, and nothing else, and the same are open as before
pub record IsNotBegun (start : Start) (was now : ℕ → List HostStep) (name : ℕ) : Type 0 where
  pub told : replies_since start was now ≡ Refused (Some name) TooManyOpen ∷ []
  pub same : opened_after start now ≡ opened_after start was

-- It begins just where the coordinator wasn't full. That is full where it has as many transactions as it may have that
-- it
-- hasn't forgotten, or its numbers are used up.
abbrev pub BeginsBy : Start → (was now : ℕ → List HostStep) → (name node : ℕ) → Bool → Type 0
BeginsBy start was now name node true = IsNotBegun start was now name
BeginsBy start was now name node false = IsBegun start was now name node

abbrev pub BeginsAt : Start → (was now : ℕ → List HostStep) → (name node : ℕ) → Type 0
BeginsAt start was now name node = BeginsBy start was now name node (is_full (coordinator_at start was node))

-- a wish that the API doesn't turn down: at the node that was named, or else at the least of a full member
abbrev pub BeginComesTo : Start → (was now : ℕ → List HostStep) → ℕ → Option ℕ → Type 0
BeginComesTo start was now name at =
    turned_down_for (api_of (after start 0 (was 0))) (Begin name at) ≡ None
    → BeginsAt start was now name (node_for (api_of (after start 0 (was 0))).view at)
