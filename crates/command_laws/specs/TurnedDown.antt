-- Which requests are turned down at once, and why.
use Rattle.std.specs.Prelude.{◌≡◌, ℕ, Bool, if◌then◌else◌, nat_lt, is_some, List, Option, None, Some}
use Rattle.run_theory.specs.Lists.{IsIn}
use Rattle.sig_core.specs.declared.member.TxId.{TxId}
use Rattle.sig_core.specs.declared.reply.ApiReply.TheVariants.{Refused}
use Rattle.sig_core.specs.declared.reply.Refusal.{Refusal}
use Rattle.sig_core.specs.declared.reply.Refusal.TheVariants.{Busy, IsOpen, NoMember, NotOpen, TooManyOperations}
use Rattle.sig_core.specs.declared.request.ApiReq.{ApiReq}
use Rattle.sig_core.specs.declared.request.ApiReq.TheVariants.{Abort, Begin, Commit, Digest, Operate, Rows}
use Rattle.api_block.specs.declared.operate.TheConstants.{OPERATIONS}
use Rattle.api_block.specs.declared.opened.Doing.{Doing}
use Rattle.api_block.specs.declared.opened.Doing.TheVariants.{Ready}
use Rattle.api_block.specs.declared.opened.OpenTransaction.{OpenTransaction}
use Rattle.api_block.specs.Commands.{node_for}
use Rattle.api_block.specs.Members.{is_full, least_node}
use Rattle.api_block.specs.Opened.{if_there, place_named}
use Rattle.api_block.specs.State.{ApiState}
use Rattle.node_core.specs.Blocks.{api_of}
use Rattle.world_core.specs.Machine.{after}
use Rattle.world_core.specs.Start.{Start}
use Rattle.world_core.specs.Steps.{HostStep}
use Rattle.command_laws.specs.Served.{named_in, replies_since}

-- a transaction takes commands once it has begun, while none is unanswered
abbrev pub busy_or : Option Refusal → Doing → Option TxId → Option Refusal
busy_or other Ready (Some tx) = other
busy_or other doing tx = Some Busy

-- as many operations as it may have
abbrev pub full_at : Bool → Option Refusal
full_at few = if few then None else Some TooManyOperations

abbrev pub operation_refused : OpenTransaction → Option Refusal
operation_refused t = busy_or (full_at (nat_lt t.operations OPERATIONS)) t.doing t.tx

abbrev pub commit_refused : OpenTransaction → Option Refusal
commit_refused t = busy_or None t.doing t.tx

-- one that has begun may be aborted whatever it does
abbrev pub abort_refused : Option TxId → Option Refusal
abort_refused None = Some Busy
abort_refused (Some tx) = None

-- a node is asked that has to be a member
abbrev pub no_member_at : ℕ → Bool → Option Refusal
no_member_at node full = if full then None else Some (NoMember node)

abbrev pub none_to_serve : Option ℕ → Option Refusal
none_to_serve None = Some (NoMember 0)
none_to_serve (Some node) = None

-- Why the API, as it is before a request, turns that down: the first reason that stands. None where it takes the
-- request.
abbrev pub turned_down_for : ApiState → ApiReq → Option Refusal
turned_down_for s (Begin name at) =
    if is_some (place_named s (Some name)) then Some IsOpen
    else no_member_at (node_for s.view at) (is_full s.view (node_for s.view at))
turned_down_for s (Operate None op) = none_to_serve (least_node s.view.full)
turned_down_for s (Operate (Some name) op) = if_there (Some NotOpen) operation_refused (named_in s.opened name)
turned_down_for s (Commit name) = if_there (Some NotOpen) commit_refused (named_in s.opened name)
turned_down_for s (Abort name) = if_there (Some NotOpen) (λ t. abort_refused t.tx) (named_in s.opened name)
turned_down_for s (Rows node) = no_member_at node (is_full s.view node)
turned_down_for s (Digest node) = no_member_at node (is_full s.view node)
turned_down_for s request = None

-- the name that a request has, and its refusal too
abbrev pub name_of_request : ApiReq → Option ℕ
name_of_request (Begin name at) = Some name
name_of_request (Operate name op) = name
name_of_request (Commit name) = Some name
name_of_request (Abort name) = Some name
name_of_request request = None

-- the API refused the request as it was to, and the shell was told
pub record IsTurnedDown (start : Start) (was now : ℕ → List HostStep) (request : ApiReq) : Type 0 where
  pub refusal : Refusal
  pub due : turned_down_for (api_of (after start 0 (was 0))) request ≡ Some refusal
  pub told : IsIn (Refused (name_of_request request) refusal) (replies_since start was now)

-- and so it does where it is to
abbrev pub IsRefusedWhereDue : Start → (was now : ℕ → List HostStep) → ApiReq → Type 0
IsRefusedWhereDue start was now request =
    (refusal : Refusal) → turned_down_for (api_of (after start 0 (was 0))) request ≡ Some refusal
    → IsIn (Refused (name_of_request request) refusal) (replies_since start was now)
