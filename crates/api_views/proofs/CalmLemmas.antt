-- In a calm cluster a step of the client's side is the API's.
use Rattle.std.proofs.Common.{◌≡◌, ℕ, Bool, true, false, List, [], ◌∷◌, refl, ap}
use Rattle.std.specs.Prelude.{◌==◌, ◌||◌, is_some, Option, None, Some, slice_get}
use Rattle.sig_core.specs.declared.member.Member.{Member}
use Rattle.sig_core.specs.declared.member.TxId.{TxId}
use Rattle.sig_core.specs.declared.op.Op.{Op}
use Rattle.sig_core.specs.declared.reply.ApiReply.TheVariants as reply
use Rattle.sig_core.specs.declared.reply.Refusal.TheVariants.{NoMember}
use Rattle.sig_core.specs.declared.request.ApiReq.{ApiReq}
use Rattle.sig_core.specs.declared.request.ApiReq.TheVariants as request
use Rattle.sig_core.specs.declared.signal.Body.{Body}
use Rattle.sig_core.specs.declared.signal.Body.TheVariants.{Host, Client}
use Rattle.sig_core.specs.declared.signal.Signal.{Signal}
use Rattle.sig_core.specs.declared.signal.client.ClientSignal.TheVariants.{TcBeginConf, TcBeginRef, TcKeyConf}
use Rattle.sig_core.specs.declared.signal.client.ClientSignal.TheVariants.{TcCommitConf, TcRollbackRep, TcWaitConf}
use Rattle.sig_core.specs.declared.signal.client.ClientSignal.TheVariants.{DumpConf}
use Rattle.sig_core.specs.declared.signal.host.HostSignal.TheVariants.{Continue}
use Rattle.sig_core.specs.declared.signal.host.Work.TheVariants.{Request}
use Rattle.sig_core.specs.declared.view.View.{View}
use Rattle.sig_core.specs.Step.{Step, stay}
use Rattle.api_block.specs.declared.opened.OpenTransaction.{OpenTransaction}
use Rattle.api_block.specs.Api.{api_row, api_table, request_row}
use Rattle.api_block.specs.Commands as api
use Rattle.api_block.specs.Members.{is_full, least_from, least_node, lesser}
use Rattle.api_block.specs.Opened.{is_unanswered, own_place, place_named}
use Rattle.api_block.specs.Operate as api_operate
use Rattle.api_block.specs.State.{ApiState, about, refused}
use Rattle.api_block.specs.Wait.{pending_if, pending_row}
use Rattle.api_views.specs.Client.{asked_row, client_row, client_table, command_row, is_known}
use Rattle.api_views.specs.Commands.{begin_if, begin_row, lone_by, lone_row, lowest, lowest_from, rows_row, serves}
use Rattle.api_views.specs.Commands.{show_row}
use Rattle.api_views.specs.Laws.{IsCalmSignal, calm_state, is_calm_body, is_served, is_vouched}
use Rattle.api_views.specs.Members.{noted}
use Rattle.api_views.specs.Pending.{client_pending_row, obstacle, own_waits, waits_by}
use Rattle.api_views.specs.Rounds.{round_effects, tick_row, ticked, ticked_if}
use Rattle.api_views.specs.State.{ClientState, telling, within}
use Rattle.api_views.specs.Stops.{has_stopped, is_down}

-- the least node of those that haven't stopped is that of all
pub lowest_calm : (least : ℕ) (members : List Member)
    → lowest_from [] (Some least) members ≡ Some (least_from least members)
unfolding has_stopped
lowest_calm least [] = refl
lowest_calm least (m ∷ members) = lowest_calm (lesser least m.node) members

pub lowest_all : (members : List Member) → lowest_from [] None members ≡ least_node members
unfolding has_stopped least_node
lowest_all [] = refl
lowest_all (m ∷ members) = lowest_calm m.node members

module _ (a : ApiState) (nodes : ℕ) (over : Option View) where
  abbrev s : ClientState
  s = calm_state a nodes over

  -- an operation alone
  pub lone_alike : (op : Op) (least : Option ℕ) → lone_by s op least ≡ within s (api_operate.lone_by a op least)
  lone_alike op None = refl
  lone_alike op (Some node) = refl

  pub lone_calm : (op : Op) → lone_row s op ≡ within s (request_row a (request.Operate None op))
  unfolding lone_row api_operate.lone_row lowest request_row
  lone_calm op = rw (lowest_all a.view.full) (lone_alike op (least_node a.view.full))

  -- a named transaction, by whether the name is taken and the node has a full member
  pub api_begins : (name node : ℕ) (taken : Bool) → is_some (place_named a (Some name)) ≡ taken
      → request_row a (request.Begin name (Some node)) ≡ api.begin_if a name (Some node) taken
  unfolding api.begin_row request_row
  api_begins name node taken is = ap (λ (b : Bool). api.begin_if a name (Some node) b) is

  pub begin_by : (name : ℕ) (node : Option ℕ) (taken full : Bool) → is_some (place_named a (Some name)) ≡ taken
      → is_full a.view (api.node_for a.view node) ≡ full
      → begin_if s name (api.node_for a.view node) (taken || full) ≡ within s (api.begin_if a name node taken)
  begin_by name at true full is fits =
      ap (λ (r : Step ApiState). within s r) (api_begins name (api.node_for a.view at) true is)
  begin_by name at false true is fits =
      ap (λ (r : Step ApiState). within s r) (api_begins name (api.node_for a.view at) false is)
  begin_by name at false false is fits = rw (fits) refl

  pub begin_calm : (name : ℕ) (node : Option ℕ)
      → begin_row s name node ≡ within s (request_row a (request.Begin name node))
  unfolding begin_row serves has_stopped api.begin_row request_row lowest
  begin_calm name (Some node) =
      begin_by name (Some node) (is_some (place_named a (Some name))) (is_full a.view node) refl refl
  begin_calm name None = rw (lowest_all a.view.full)
      (begin_by name None (is_some (place_named a (Some name))) (is_full a.view (api.node_for a.view None)) refl refl)

  -- rows
  pub dump_refused : (node : ℕ) (digest : Bool) → is_full a.view node ≡ false
      → api.dump_row a node digest ≡ refused a None (NoMember node)
  unfolding api.dump_row
  dump_refused node digest fits = rw (fits) refl

  pub rows_alike : (r : ApiReq) (node : ℕ) (digest full : Bool) → is_full a.view node ≡ full
      → request_row a r ≡ api.dump_row a node digest → rows_row s r node ≡ within s (request_row a r)
  unfolding rows_row serves has_stopped
  rows_alike r node digest true fits is = rw (fits) refl
  rows_alike r node digest false fits is = rw (fits, is, dump_refused node digest fits) refl

  -- waits
  pub waits_alike : (t : OpenTransaction) (unanswered : Bool) (ahead : Option TxId)
      → pending_row a ≡ pending_if a t unanswered ahead
      → waits_by s t.name unanswered ahead ≡ within s (request_row a request.Pending)
  unfolding obstacle request_row
  waits_alike t true None is = rw (is) refl
  waits_alike t true (Some ahead) is = refl
  waits_alike t false ahead is = refl

  pub row_none : own_place a ≡ None → request_row a request.Pending ≡ stay a
  unfolding request_row pending_row
  row_none is = rw (is) refl

  pub row_nobody : (n : ℕ) → own_place a ≡ Some n → slice_get a.opened n ≡ None → request_row a request.Pending ≡ stay a
  unfolding request_row pending_row
  row_nobody n is found = rw (is, found) refl

  pub row_some : (n : ℕ) (t : OpenTransaction) → own_place a ≡ Some n → slice_get a.opened n ≡ Some t
      → pending_row a ≡ pending_if a t (is_unanswered t.doing) t.ahead
  unfolding pending_row
  row_some n t is found = rw (is, found) refl

  pub own_alike : (at : Option ℕ) (t : Option OpenTransaction) → own_place a ≡ at
      → ((n : ℕ) → at ≡ Some n → slice_get a.opened n ≡ t) → own_waits s ≡ within s (request_row a request.Pending)
  own_alike None t is found = rw (is, row_none is) refl
  own_alike (Some n) None is found = rw (is, found n refl, row_nobody n is (found n refl)) refl
  own_alike (Some n) (Some t) is found =
      rw (is, found n refl) (waits_alike t (is_unanswered t.doing) t.ahead (row_some n t is (found n refl)))

  -- the entry that stands there
  abbrev at_own : Option ℕ → Option OpenTransaction
  at_own None = None
  at_own (Some n) = slice_get a.opened n

  pub opened_rows : (node : ℕ) → request_row a (request.Rows node) ≡ api.dump_row a node false
  unfolding request_row
  opened_rows node = refl

  pub opened_digest : (node : ℕ) → request_row a (request.Digest node) ≡ api.dump_row a node true
  unfolding request_row
  opened_digest node = refl

  pub found_own : (n : ℕ) → own_place a ≡ Some n → slice_get a.opened n ≡ at_own (own_place a)
  found_own n is = rw (is) refl

  pub pending_calm : client_pending_row s ≡ within s (request_row a request.Pending)
  unfolding client_pending_row
  pending_calm = own_alike (own_place a) (at_own (own_place a)) refl found_own

  -- a command, of a cluster that isn't down
  pub up_calm : (r : ApiReq) → is_served r ≡ true → is_down s ≡ false → asked_row s r ≡ within s (request_row a r)
  unfolding asked_row command_row
  up_calm (request.Begin name node) served up = rw (up) (begin_calm name node)
  up_calm (request.Operate None op) served up = rw (up) (lone_calm op)
  up_calm (request.Operate (Some name) op) served up = rw (up) refl
  up_calm (request.Commit name) served up = rw (up) refl
  up_calm (request.Abort name) served up = rw (up) refl
  up_calm (request.Rows node) served up =
      rw (up) (rows_alike (request.Rows node) node false (is_full a.view node) refl (opened_rows node))
  up_calm (request.Digest node) served up =
      rw (up) (rows_alike (request.Digest node) node true (is_full a.view node) refl (opened_digest node))
  up_calm request.Waits served up = refl
  up_calm request.Pending served up = pending_calm
  up_calm _ served up = cc

  -- a signal that is vouched for where it has to be
  pub body_calm : (x : Signal) (body : Body) → x.body ≡ body → is_calm_body body ≡ true → is_down s ≡ false
      → (is_vouched body ≡ true → is_known s x ≡ true)
      → client_table s x body ≡ within s (api_table a body)
  body_calm x (Host (Continue (Request r) at)) is calm up known = up_calm r calm up
  body_calm x (Client (TcBeginConf name tx)) is calm up known = rw (known refl, is) refl
  body_calm x (Client (TcBeginRef name)) is calm up known = rw (is) refl
  body_calm x (Client (TcKeyConf tx answer)) is calm up known = rw (is) refl
  body_calm x (Client (TcCommitConf tx epoch)) is calm up known = rw (known refl, is) refl
  body_calm x (Client (TcRollbackRep tx cause)) is calm up known = rw (known refl, is) refl
  body_calm x (Client (TcWaitConf tx ahead)) is calm up known = rw (is) refl
  body_calm x (Client (DumpConf rows next)) is calm up known = rw (is) refl
  body_calm x _ is calm up known = cc

  pub calm : (x : Signal) → IsCalmSignal s x → is_calm_body x.body ≡ true → client_row s x ≡ within s (api_row a x)
  unfolding noted
  calm x signal body = rw (signal.view) (body_calm x x.body refl body signal.up signal.known)

  -- a round of time
  pub ticked_calm : (round of : ℕ)
      → ticked s round of ≡ calm_state (request_row a (request.Tick round of)).state nodes over
  unfolding request_row api.tick_row
  ticked_calm round of = by (round == of)
    where
      by : (last : Bool) → ticked_if s of last ≡ calm_state (about (api.ticked_if a of last) None) nodes over
      by true = refl
      by false = refl

  -- what a round of time comes to, from the state behind it
  abbrev pub ticked_to : ClientState → Step ClientState
  ticked_to now = record { state = now; effects = round_effects now }

  pub asked_tick : (round of : ℕ) → is_down s ≡ false
      → asked_row s (request.Tick round of) ≡ ticked_to (ticked s round of)
  unfolding asked_row command_row tick_row
  asked_tick round of up = rw (up) refl

  pub calm_tick : (x : Signal) (at round of : ℕ) → IsCalmSignal s x
      → x.body ≡ Host (Continue (Request (request.Tick round of)) at)
      → client_row s x ≡ ticked_to (calm_state (api_row a x).state nodes over)
  unfolding noted
  calm_tick x at round of signal is = rw (signal.view, is, asked_tick round of signal.up, ticked_calm round of) refl

  -- the view
  pub asked_view : is_down s ≡ false
      → asked_row s request.View ≡ stay (telling (calm_state (request_row a request.View).state nodes over)
      (reply.View a.view))
  unfolding asked_row command_row show_row request_row
  asked_view up = rw (up) refl

  pub calm_shows : (x : Signal) (at : ℕ) → IsCalmSignal s x → x.body ≡ Host (Continue (Request request.View) at)
      → client_row s x ≡ stay (telling (calm_state (api_row a x).state nodes over) (reply.View a.view))
  unfolding noted
  calm_shows x at signal is = rw (signal.view, is, asked_view signal.up) refl
