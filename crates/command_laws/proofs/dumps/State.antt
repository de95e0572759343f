-- Where no dump is under way, only a request for rows begins one.
use Rattle.std.proofs.Common.{◌≡◌, ◌==◌, ℕ, Bool, true, false, List, [], ◌∷◌, ◌++◌, refl, sym, ap, ◌∙◌}
use Rattle.std.specs.Prelude.{is_some, nat_lt, slice_get, Option, None, Some}
use Rattle.run_theory.specs.Lists.{Each}
use Rattle.sig_core.specs.declared.member.TxId.{TxId}
use Rattle.sig_core.specs.declared.op.Op.{Op}
use Rattle.sig_core.specs.declared.request.ApiReq.{ApiReq}
use Rattle.sig_core.specs.declared.request.ApiReq.TheVariants as request
use Rattle.sig_core.specs.declared.signal.Body.{Body}
use Rattle.sig_core.specs.declared.signal.Body.TheVariants.{Client}
use Rattle.sig_core.specs.declared.signal.client.ClientSignal.TheVariants.{DumpConf}
use Rattle.sig_core.specs.Step.{Step}
use Rattle.api_block.specs.declared.operate.TheConstants.{OPERATIONS}
use Rattle.api_block.specs.Api.{api_table, request_row}
use Rattle.api_block.specs.Commands as commands
use Rattle.api_block.specs.declared.dump.Dump.{Dump}
use Rattle.api_block.specs.declared.opened.Doing.{Doing}
use Rattle.api_block.specs.declared.opened.Doing.TheVariants.{Beginning, Committing, Operating, Ready}
use Rattle.api_block.specs.declared.opened.OpenTransaction.{OpenTransaction}
use Rattle.api_block.specs.Dump.{dumped_by, dumped_row}
use Rattle.api_block.specs.Members.{is_full, least_node}
use Rattle.api_block.specs.Opened.{if_there, is_unanswered, own_place, place_named, where_at}
use Rattle.api_block.specs.Operate as operate
use Rattle.api_block.specs.State.{ApiState}
use Rattle.api_block.specs.Wait as wait
use Rattle.node_core.specs.Blocks.{api_of}
use Rattle.node_core.specs.Fresh.{fresh_shell}
use Rattle.node_core.specs.Requests.{is_request}
use Rattle.world_core.proofs.HostNumbers.{api_runs}
use Rattle.world_core.specs.Hosts.{started}
use Rattle.world_core.specs.Machine.{after}
use Rattle.world_core.specs.Start.{Start}
use Rattle.world_core.specs.Steps.{HostStep}
use Rattle.api_block.proofs.ApiTurns.{signal_turns}
use Rattle.command_laws.proofs.hosts.BlockSteps.{api_host}

-- rows are told
abbrev is_part : Body → Bool
is_part (Client (DumpConf rows next)) = true
is_part body = false

-- rows are asked for, or their digest
abbrev pub asks_rows : ApiReq → Bool
asks_rows (request.Rows node) = true
asks_rows (request.Digest node) = true
asks_rows r = false

module _ (s : ApiState) where
  abbrev Keeps : Step ApiState → Type 0
  Keeps step = step.state.dump ≡ s.dump

  -- a transaction that is looked up, or isn't there
  at_either : (none : Step ApiState) (some : ℕ → OpenTransaction → Step ApiState) → Keeps none
      → ((at : ℕ) (t : OpenTransaction) → Keeps (some at t)) → (o : Option ℕ) → Keeps (where_at s.opened none some o)
  at_either none some missing present None = missing
  at_either none some missing present (Some at) = by (slice_get s.opened at)
    where
      by : (o : Option OpenTransaction) → Keeps (if_there none (some at) o)
      by None = missing
      by (Some t) = present at t

  begin_keeps : (name : ℕ) (at : Option ℕ) → Keeps (commands.begin_row s name at)
  unfolding commands.begin_row
  begin_keeps name at = by (is_some (place_named s (Some name)))
    where
      there : (node : ℕ) (full : Bool) → Keeps (commands.begin_at s name node full)
      there node true = refl
      there node false = refl

      by : (taken : Bool) → Keeps (commands.begin_if s name at taken)
      by true = refl
      by false = there (commands.node_for s.view at) (is_full s.view (commands.node_for s.view at))

  lone_keeps : (op : Op) → Keeps (operate.lone_row s op)
  unfolding operate.lone_row
  lone_keeps op = by (least_node s.view.full)
    where
      by : (o : Option ℕ) → Keeps (operate.lone_by s op o)
      by None = refl
      by (Some node) = refl

  operate_keeps : (name : ℕ) (op : Op) → Keeps (operate.operate_row s name op)
  unfolding operate.operate_row
  operate_keeps name op =
      at_either _ (λ at t. operate.operate_by s name op at t t.doing t.tx) refl (λ at t. by at t t.doing t.tx)
      (place_named s (Some name))
    where
      few : (at : ℕ) (t : OpenTransaction) (tx : TxId) (b : Bool) → Keeps (operate.operate_if s name op at t tx b)
      few at t tx true = refl
      few at t tx false = refl

      by : (at : ℕ) (t : OpenTransaction) (d : Doing) (o : Option TxId) → Keeps (operate.operate_by s name op at t d o)
      by at t Ready (Some tx) = few at t tx (nat_lt t.operations OPERATIONS)
      by at t Ready None = refl
      by at t (Beginning first) o = refl
      by at t Operating o = refl
      by at t Committing o = refl

  commit_keeps : (name : ℕ) → Keeps (commands.commit_row s name)
  unfolding commands.commit_row
  commit_keeps name =
      at_either _ (λ at t. commands.commit_by s name at t t.doing t.tx) refl (λ at t. by at t t.doing t.tx)
      (place_named s (Some name))
    where
      by : (at : ℕ) (t : OpenTransaction) (d : Doing) (o : Option TxId) → Keeps (commands.commit_by s name at t d o)
      by at t Ready (Some tx) = refl
      by at t Ready None = refl
      by at t (Beginning first) o = refl
      by at t Operating o = refl
      by at t Committing o = refl

  abort_keeps : (name : ℕ) → Keeps (commands.abort_row s name)
  unfolding commands.abort_row
  abort_keeps name = at_either _ (λ at t. commands.abort_by s name t.tx) refl (λ at t. by t.tx)
      (place_named s (Some name))
    where
      by : (o : Option TxId) → Keeps (commands.abort_by s name o)
      by None = refl
      by (Some tx) = refl

  tick_keeps : (round of : ℕ) → Keeps (commands.tick_row s round of)
  unfolding commands.tick_row
  tick_keeps round of = by (round == of)
    where
      by : (last : Bool) → (commands.ticked_if s of last).dump ≡ s.dump
      by true = refl
      by false = refl

  waits_keeps : Keeps (wait.waits_row s)
  unfolding wait.waits_row
  waits_keeps =
      at_either _ (λ at t. wait.waits_if s at t (is_unanswered t.doing) t.tx) refl
      (λ at t. by at t (is_unanswered t.doing) t.tx) (own_place s)
    where
      by : (at : ℕ) (t : OpenTransaction) (b : Bool) (o : Option TxId) → Keeps (wait.waits_if s at t b o)
      by at t true (Some tx) = refl
      by at t true None = refl
      by at t false o = refl

  pending_keeps : Keeps (wait.pending_row s)
  unfolding wait.pending_row
  pending_keeps =
      at_either _ (λ at t. wait.pending_if s t (is_unanswered t.doing) t.ahead) refl
      (λ at t. by t (is_unanswered t.doing) t.ahead) (own_place s)
    where
      told : (holder name : Option ℕ) (o : Option TxId) → Keeps (wait.pending_by s holder name o)
      told holder None (Some tx) = refl
      told holder None None = refl
      told holder (Some name) o = refl

      by : (t : OpenTransaction) (b : Bool) (o : Option TxId) → Keeps (wait.pending_if s t b o)
      by t true (Some ahead) = told (wait.name_of s ahead) t.name t.tx
      by t true None = refl
      by t false o = refl

  -- no other request begins or ends one
  pub request_keeps : (r : ApiReq) → asks_rows r ≡ false → Keeps (request_row s r)
  unfolding request_row
  request_keeps (request.Begin name at) other = begin_keeps name at
  request_keeps (request.Operate None op) other = lone_keeps op
  request_keeps (request.Operate (Some name) op) other = operate_keeps name op
  request_keeps (request.Commit name) other = commit_keeps name
  request_keeps (request.Abort name) other = abort_keeps name
  request_keeps (request.Tick round of) other = tick_keeps round of
  request_keeps (request.Rows node) other = cc
  request_keeps (request.Digest node) other = cc
  request_keeps request.Waits other = waits_keeps
  request_keeps request.Pending other = pending_keeps
  request_keeps _ other = refl

  -- nor does a signal but one that tells rows
  signal_keeps : (body : Body) → is_part body ≡ false → is_request body ≡ false → Keeps (api_table s body)
  signal_keeps body other plain = signal_turns s body (λ step. Keeps step) (record {
    begins_named = λ name tx at f called is e. refl;
    begins_alone = λ name tx at f op is e d. refl;
    begins_idle = λ name tx at f is. refl;
    refuses = λ name at f is. refl;
    answers = λ tx answer at f name is d e. refl;
    answers_last = λ tx answer at f is d e. refl;
    answers_none = λ tx answer at f is working. refl;
    commits = λ tx epoch at f is. refl;
    acknowledges = λ tx epoch is none. refl;
    aborts = λ tx cause at f is. refl;
    waits = λ tx ahead at f is. refl;
    dumps = λ d rows next at is. absurd (let both : false ≡ true = sym other ∙ ap is_part is in cc);
    dumped = λ d rows next is. absurd (let both : false ≡ true = sym other ∙ ap is_part is in cc);
    rests = λ void stray. refl;
  }) plain

  -- and where none is under way that doesn't either
  signal_none : (body : Body) → is_request body ≡ false → s.dump ≡ None → (api_table s body).state.dump ≡ None
  unfolding dumped_row
  signal_none (Client (DumpConf rows next)) plain none =
      ap (λ (d : Option Dump). (dumped_by s rows next d).state.dump) none ∙ none
  signal_none body plain none = signal_keeps body refl plain ∙ none

-- so along steps that aren't requests
pub none_along : (start : Start) (newer log : List HostStep)
    → Each (λ (e : HostStep). is_request e.step.taken.body ≡ false) newer
    → (api_of (after start 0 log)).dump ≡ None → (api_of (after start 0 (newer ++ log))).dump ≡ None
none_along start [] log plain none = none
none_along start (e ∷ newer) log plain none = by (none_along start newer log plain.1 none)
  where
    by : (api_of (after start 0 (newer ++ log))).dump ≡ None → (api_of (after start 0 (e ∷ (newer ++ log)))).dump ≡ None
    by before = api_host (λ (step : Step ApiState). step.state.dump ≡ None) (after start 0 (newer ++ log)) e.step.taken
        (api_runs start (newer ++ log))
        (λ at. signal_none (api_of (after start 0 (newer ++ log))) e.step.taken.body plain.0 before)
        (λ off. before)

-- at first none is
pub none_first : (start : Start) → (api_of (after start 0 [])).dump ≡ None
unfolding started fresh_shell
none_first start = refl
