-- A request is turned down at once where it is to be, or the transaction of its name takes it.
use Rattle.std.proofs.Common.{◌≡◌, ◌⊎◌, ◌<◌, ℕ, Bool, true, false, List, [], ◌∷◌, ◌++◌, refl, sym, ap, ◌∙◌, subst, inl}
use Rattle.std.proofs.Common.{inr, arith}
use Rattle.std.proofs.lemmas.Bool.Decides.{nat_tests}
use Rattle.std.specs.Prelude.{if◌then◌else◌, drop, is_some, length, nat_lt, position, slice_get, Option, None, Some}
use Rattle.run_theory.proofs.Pasts.{past_self}
use Rattle.run_theory.specs.Lists.{IsIn}
use Rattle.sig_core.specs.declared.member.TxId.{TxId}
use Rattle.sig_core.specs.declared.op.Op.{Op}
use Rattle.sig_core.specs.declared.reply.ApiReply.TheVariants.{Refused}
use Rattle.sig_core.specs.declared.reply.Refusal.{Refusal}
use Rattle.sig_core.specs.declared.reply.Refusal.TheVariants.{IsOpen, NotOpen}
use Rattle.sig_core.specs.declared.request.ApiReq.{ApiReq}
use Rattle.sig_core.specs.declared.request.ApiReq.TheVariants as request
use Rattle.sig_core.specs.Step.{Step}
use Rattle.api_block.specs.declared.operate.TheConstants.{OPERATIONS}
use Rattle.api_block.specs.Api.{request_row}
use Rattle.api_block.specs.Commands.{abort_by, abort_row, begin_at, begin_if, begin_row, commit_by, commit_row, dump_if}
use Rattle.api_block.specs.Commands.{dump_row, node_for}
use Rattle.api_block.specs.declared.opened.Doing.{Doing}
use Rattle.api_block.specs.declared.opened.Doing.TheVariants.{Beginning, Committing, Operating, Ready}
use Rattle.api_block.specs.declared.opened.OpenTransaction.{OpenTransaction}
use Rattle.api_block.specs.Members.{is_full, least_node}
use Rattle.api_block.specs.Opened.{if_there, is_named, place_named, where_at}
use Rattle.api_block.specs.Operate.{lone_by, lone_row, operate_by, operate_if, operate_row}
use Rattle.api_block.specs.State.{ApiState, refused}
use Rattle.node_core.specs.Blocks.{api_of}
use Rattle.node_core.specs.Replies.{replies_of}
use Rattle.world_core.specs.Machine.{after}
use Rattle.world_core.specs.Start.{Start}
use Rattle.world_core.specs.Steps.{HostStep}
use Rattle.host_laws.specs.OpenedAfter.{opened_in}
use Rattle.command_laws.proofs.quiet.First.{IsFirst, first_step, request_first}
use Rattle.host_laws.proofs.hosts.BlocksAlong.{replies_are}
use Rattle.command_laws.proofs.hosts.Told.{told_since}
use Rattle.command_laws.specs.Served.{IsServedBetween, named_in}
use Rattle.command_laws.specs.TurnedDown.{IsRefusedWhereDue, IsTurnedDown, abort_refused, busy_or, commit_refused}
use Rattle.command_laws.specs.TurnedDown.{full_at, name_of_request, no_member_at, none_to_serve, operation_refused}
use Rattle.command_laws.specs.TurnedDown.{turned_down_for}

-- the first transaction of the name takes commands
pub record TakesCommands (opened : List OpenTransaction) (name : ℕ) : Type 0 where
  pub item : OpenTransaction
  pub tx : TxId
  pub named : named_in opened name ≡ Some item
  pub ready : item.doing ≡ Ready
  pub own : item.tx ≡ Some tx

-- and operations
pub record TakesOperations (opened : List OpenTransaction) (name : ℕ) : Type 0 where
  pub takes : TakesCommands opened name
  pub few : takes.item.operations < OPERATIONS

module _ (s : ApiState) where
  -- the refusal is all that a step replies
  abbrev Refuses : Step ApiState → Option ℕ → Refusal → Type 0
  Refuses step name r = step.state.replies ≡ s.replies ++ Refused name r ∷ []

  -- the transaction of a name, looked up
  module _ (name : ℕ) (r : Refusal) (why : OpenTransaction → Option Refusal)
      (some : ℕ → OpenTransaction → Step ApiState) where
    named_due : ((at : ℕ) (t : OpenTransaction) → why t ≡ Some r → Refuses (some at t) (Some name) r)
        → if_there (Some NotOpen) why (named_in s.opened name) ≡ Some r
        → Refuses (where_at s.opened (refused s (Some name) NotOpen) some (place_named s (Some name))) (Some name) r
    named_due each = at_place (position (is_named (Some name)) s.opened)
      where
        at_item : (at : ℕ) (o : Option OpenTransaction)
            → if_there (Some NotOpen) why (if_there None (λ t. Some t) o) ≡ Some r
            → Refuses (if_there (refused s (Some name) NotOpen) (some at) o) (Some name) r
        at_item at None due = cc
        at_item at (Some t) due = each at t due

        at_place : (o : Option ℕ) → if_there (Some NotOpen) why (where_at s.opened None (λ at t. Some t) o) ≡ Some r
            → Refuses (where_at s.opened (refused s (Some name) NotOpen) some o) (Some name) r
        at_place None due = cc
        at_place (Some at) due = at_item at (slice_get s.opened at) due

  begin_at_due : (name node : ℕ) (r : Refusal) (full : Bool) → no_member_at node full ≡ Some r
      → Refuses (begin_at s name node full) (Some name) r
  begin_at_due name node r true due = absurd cc
  begin_at_due name node r false due = cc

  begin_due : (name : ℕ) (at : Option ℕ) (r : Refusal) → turned_down_for s (request.Begin name at) ≡ Some r
      → Refuses (begin_row s name at) (Some name) r
  unfolding begin_row
  begin_due name at r = by (is_some (place_named s (Some name)))
    where
      by : (taken : Bool)
          → (if taken then Some IsOpen else no_member_at (node_for s.view at)
          (is_full s.view (node_for s.view at))) ≡ Some r
          → Refuses (begin_if s name at taken) (Some name) r
      by true due = cc
      by false due = begin_at_due name (node_for s.view at) r (is_full s.view (node_for s.view at)) due

  operate_due : (name : ℕ) (op : Op) (r : Refusal) → turned_down_for s (request.Operate (Some name) op) ≡ Some r
      → Refuses (operate_row s name op) (Some name) r
  unfolding operate_row
  operate_due name op r =
      named_due name r operation_refused (λ at t. operate_by s name op at t t.doing t.tx) (λ at t. by at t t.doing t.tx)
    where
      few : (at : ℕ) (t : OpenTransaction) (tx : TxId) (b : Bool) → full_at b ≡ Some r
          → Refuses (operate_if s name op at t tx b) (Some name) r
      few at t tx true due = absurd cc
      few at t tx false due = cc

      by : (at : ℕ) (t : OpenTransaction) (d : Doing) (o : Option TxId)
          → busy_or (full_at (nat_lt t.operations OPERATIONS)) d o ≡ Some r
          → Refuses (operate_by s name op at t d o) (Some name) r
      by at t Ready (Some tx) due = few at t tx (nat_lt t.operations OPERATIONS) due
      by at t Ready None due = cc
      by at t (Beginning first) o due = cc
      by at t Operating o due = cc
      by at t Committing o due = cc

  commit_due : (name : ℕ) (r : Refusal) → turned_down_for s (request.Commit name) ≡ Some r
      → Refuses (commit_row s name) (Some name) r
  unfolding commit_row
  commit_due name r =
      named_due name r commit_refused (λ at t. commit_by s name at t t.doing t.tx) (λ at t. by at t t.doing t.tx)
    where
      by : (at : ℕ) (t : OpenTransaction) (d : Doing) (o : Option TxId) → busy_or None d o ≡ Some r
          → Refuses (commit_by s name at t d o) (Some name) r
      by at t Ready (Some tx) due = absurd cc
      by at t Ready None due = cc
      by at t (Beginning op) o due = cc
      by at t Operating o due = cc
      by at t Committing o due = cc

  abort_due : (name : ℕ) (r : Refusal) → turned_down_for s (request.Abort name) ≡ Some r
      → Refuses (abort_row s name) (Some name) r
  unfolding abort_row
  abort_due name r = named_due name r (λ t. abort_refused t.tx) (λ at t. abort_by s name t.tx) (λ at t. by t.tx)
    where
      by : (o : Option TxId) → abort_refused o ≡ Some r → Refuses (abort_by s name o) (Some name) r
      by None due = cc
      by (Some tx) due = absurd cc

  lone_due : (op : Op) (r : Refusal) → turned_down_for s (request.Operate None op) ≡ Some r
      → Refuses (lone_row s op) None r
  unfolding lone_row
  lone_due op r = by (least_node s.view.full)
    where
      by : (o : Option ℕ) → none_to_serve o ≡ Some r → Refuses (lone_by s op o) None r
      by None due = cc
      by (Some node) due = absurd cc

  dump_due : (node : ℕ) (digest : Bool) (r : Refusal) → no_member_at node (is_full s.view node) ≡ Some r
      → Refuses (dump_row s node digest) None r
  unfolding dump_row
  dump_due node digest r = by (is_full s.view node)
    where
      by : (full : Bool) → no_member_at node full ≡ Some r
          → Refuses (dump_if s node digest full (is_some s.dump)) None r
      by true due = absurd cc
      by false due = cc

  request_due : (q : ApiReq) (r : Refusal) → turned_down_for s q ≡ Some r
      → Refuses (request_row s q) (name_of_request q) r
  unfolding request_row
  request_due (request.Begin name at) r due = begin_due name at r due
  request_due (request.Operate None op) r due = lone_due op r due
  request_due (request.Operate (Some name) op) r due = operate_due name op r due
  request_due (request.Commit name) r due = commit_due name r due
  request_due (request.Abort name) r due = abort_due name r due
  request_due (request.Rows node) r due = dump_due node false r due
  request_due (request.Digest node) r due = dump_due node true r due
  request_due _ r due = absurd cc

  -- what isn't turned down is taken by the transaction of the name
  record IsTaken (name : ℕ) (why : OpenTransaction → Option Refusal) : Type 0 where
    item : OpenTransaction
    named : named_in s.opened name ≡ Some item
    free : why item ≡ None

  named_taken : (name : ℕ) (why : OpenTransaction → Option Refusal)
      → if_there (Some NotOpen) why (named_in s.opened name) ≡ None → IsTaken name why
  named_taken name why = by (named_in s.opened name) refl
    where
      by : (o : Option OpenTransaction) → named_in s.opened name ≡ o → if_there (Some NotOpen) why o ≡ None
          → IsTaken name why
      by None is due = absurd cc
      by (Some t) is due = record { item = t; named = is; free = due }

  taken_by : (name : ℕ) (t : OpenTransaction) (more : Option Refusal) → named_in s.opened name ≡ Some t
      → busy_or more t.doing t.tx ≡ None
      → (takes : TakesCommands s.opened name) × (takes.item ≡ t) × (more ≡ None)
  taken_by name t more named = by t.doing t.tx refl refl
    where
      by : (d : Doing) (o : Option TxId) → t.doing ≡ d → t.tx ≡ o → busy_or more d o ≡ None
          → (takes : TakesCommands s.opened name) × (takes.item ≡ t) × (more ≡ None)
      by Ready (Some tx) ready own free =
          (record { item = t; tx = tx; named = named; ready = ready; own = own }, refl, free)
      by Ready None ready own free = absurd cc
      by (Beginning op) o ready own free = absurd cc
      by Operating o ready own free = absurd cc
      by Committing o ready own free = absurd cc

  commit_takes : (name : ℕ) → turned_down_for s (request.Commit name) ≡ None → TakesCommands s.opened name
  commit_takes name free =
      let t = named_taken name commit_refused free in
      (taken_by name t.item None t.named t.free).0

  few_of : (n : ℕ) → full_at (nat_lt n OPERATIONS) ≡ None → n < OPERATIONS
  few_of n = by (nat_lt n OPERATIONS) refl
    where
      by : (b : Bool) → nat_lt n OPERATIONS ≡ b → full_at b ≡ None → n < OPERATIONS
      by true is free = grind (arith, nat_tests, is)
      by false is free = absurd cc

  operate_takes : (name : ℕ) (op : Op) → turned_down_for s (request.Operate (Some name) op) ≡ None
      → TakesOperations s.opened name
  operate_takes name op free =
      let t = named_taken name operation_refused free in
      let taken = taken_by name t.item (full_at (nat_lt t.item.operations OPERATIONS)) t.named t.free in
      record {
        takes = taken.0;
        few =
            subst (λ (u : OpenTransaction). u.operations < OPERATIONS) (sym taken.1) (few_of t.item.operations taken.2);
      }

-- what the first step replies is told since then
module _ (start : Start) (was now : ℕ → List HostStep) (q : ApiReq) (served : IsServedBetween start was now q) where
  pub refused_where_due : IsRefusedWhereDue start was now q
  refused_where_due r due =
      subst
      (λ log. IsIn (Refused (name_of_request q) r)
      (drop (length (replies_of (after start 0 (was 0)))) (replies_of (after start 0 log))))
      (sym f.is)
      (told_since start (was 0) (was 0) f.later f.first (Refused (name_of_request q) r) (past_self (was 0)) replied)
    where
      f : IsFirst start was now q
      f = request_first start was now q served

      replied : replies_of (after start 0 (f.first ∷ was 0)) ≡ replies_of (after start 0 (was 0)) ++ Refused
          (name_of_request q) r ∷ []
      replied =
          replies_are (after start 0 (f.first ∷ was 0)) ∙ ap (λ (step : Step ApiState). step.state.replies)
          (first_step start was now q f) ∙ request_due (api_of (after start 0 (was 0))) q r due
          ∙ ap (λ rs. rs ++ Refused (name_of_request q) r ∷ []) (sym (replies_are (after start 0 (was 0))))

  turned_or : {T : Type 0} → (turned_down_for (api_of (after start 0 (was 0))) q ≡ None → T)
      → IsTurnedDown start was now q ⊎ T
  turned_or {T} takes = by (turned_down_for (api_of (after start 0 (was 0))) q) refl
    where
      by : (o : Option Refusal) → turned_down_for (api_of (after start 0 (was 0))) q ≡ o
          → IsTurnedDown start was now q ⊎ T
      by None free = inr (takes free)
      by (Some r) due = inl (record { refusal = r; due = due; told = refused_where_due r due })

pub commit_taken : (start : Start) (was now : ℕ → List HostStep) (name : ℕ)
    → IsServedBetween start was now (request.Commit name)
    → IsTurnedDown start was now (request.Commit name) ⊎ TakesCommands (opened_in (after start 0 (was 0))) name
commit_taken start was now name served =
    turned_or start was now (request.Commit name) served (commit_takes (api_of (after start 0 (was 0))) name)

pub operation_taken : (start : Start) (was now : ℕ → List HostStep) (name : ℕ) (op : Op)
    → IsServedBetween start was now (request.Operate (Some name) op)
    → IsTurnedDown start was now (request.Operate (Some name) op) ⊎ TakesOperations
    (opened_in (after start 0 (was 0))) name
operation_taken start was now name op served =
    turned_or start was now (request.Operate (Some name) op) served
    (operate_takes (api_of (after start 0 (was 0))) name op)
