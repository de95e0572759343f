-- What the API does at each request and signal: what is so of each form of its steps is so of each of its steps.
use Rattle.std.proofs.Common.{◌≡◌, ℕ, List, [], ◌∷◌, Bool, true, false, ap, refl, subst, sym}
use Rattle.std.specs.Prelude.{◌==◌, Option, None, Some, is_some, nat_lt}
use Rattle.run_theory.specs.Counts.{tally}
use Rattle.run_theory.proofs.Focus.{IsFocus, none_placed}
use Rattle.sig_core.specs.declared.member.TxId.{TxId}
use Rattle.sig_core.specs.declared.op.Answer.{Answer}
use Rattle.sig_core.specs.declared.op.Op.{Op}
use Rattle.sig_core.specs.declared.outcome.AbortCause.{AbortCause}
use Rattle.sig_core.specs.declared.outcome.Outcome.TheVariants as outcome
use Rattle.sig_core.specs.declared.reply.ApiReply.TheVariants.{Answered, Begun, Pending, Refused}
use Rattle.sig_core.specs.declared.reply.Refusal.{Refusal}
use Rattle.sig_core.specs.declared.reply.Refusal.TheVariants as refusal
use Rattle.sig_core.specs.declared.reply.Waiting.TheVariants.{HeldBy}
use Rattle.sig_core.specs.declared.request.ApiReq.{ApiReq}
use Rattle.sig_core.specs.declared.request.ApiReq.TheVariants as request
use Rattle.sig_core.specs.declared.signal.Body.{Body}
use Rattle.sig_core.specs.declared.signal.Body.TheVariants.{Host, Client}
use Rattle.sig_core.specs.declared.signal.client.ClientSignal.TheVariants.{TcBeginConf, TcBeginRef, TcKeyConf}
use Rattle.sig_core.specs.declared.signal.client.ClientSignal.TheVariants.{TcCommitReq, TcCommitConf, TcRollbackReq}
use Rattle.sig_core.specs.declared.signal.client.ClientSignal.TheVariants.{TcRollbackRep, TcWaitReq, TcWaitConf}
use Rattle.sig_core.specs.declared.signal.client.ClientSignal.TheVariants.{DumpReq, DumpConf}
use Rattle.sig_core.specs.declared.signal.host.HostSignal.TheVariants.{Continue}
use Rattle.sig_core.specs.declared.signal.host.Work.TheVariants as work
use Rattle.sig_core.specs.Place.{coordinator_of, rows_of}
use Rattle.sig_core.specs.Step.{Step, sending, stay}
use Rattle.api_block.specs.declared.dump.Dump.{Dump}
use Rattle.api_block.specs.declared.members.News.TheVariants as news
use Rattle.api_block.specs.declared.opened.Doing.{Doing}
use Rattle.api_block.specs.declared.opened.Doing.TheVariants.{Beginning, Ready, Operating, Committing}
use Rattle.api_block.specs.declared.opened.OpenTransaction.{OpenTransaction}
use Rattle.api_block.specs.Api.{api_table, request_row}
use Rattle.api_block.specs.Commands.{abort_by, abort_row, begin_at, begin_if, begin_row, beginning, commit_by}
use Rattle.api_block.specs.Commands.{commit_row, dump_if, dump_row, node_for, tick_row, ticked_if}
use Rattle.api_block.specs.Dump.{begun_dump, dump_replies, dumped_by, dumped_next, dumped_row}
use Rattle.api_block.specs.Gathered.{gathered}
use Rattle.api_block.specs.Members.{everyone, is_full, least_node, telling_all}
use Rattle.api_block.specs.Opened.{answered, behind, begins, begins_at, begun, begun_operating, committing, has_tx}
use Rattle.api_block.specs.Opened.{is_named, is_unanswered, operating, own_place, place_named, where_at}
use Rattle.api_block.specs.Operate.{answer_by, answer_row, begun_by, begun_row, key_request, lone_by, lone_row}
use Rattle.api_block.specs.Operate.{operate_by, operate_if, operate_row}
use Rattle.api_block.specs.Outcome.{abort_report_row, acknowledging, commit_report_row, ending, over, refuse_row}
use Rattle.api_block.specs.Outcome.{unknown}
use Rattle.api_block.specs.Requests.{is_request}
use Rattle.api_block.specs.State.{ApiState, about, changing, refused, replied, with_dump}
use Rattle.api_block.specs.Wait.{behind_row, name_of, pending_by, pending_if, pending_row, waits_if, waits_row}
use Rattle.api_block.specs.declared.operate.TheConstants.{OPERATIONS}
use Rattle.api_block.proofs.WhereFound.{where_found, where_own}

-- nothing that was opened is what the signal tells of
abbrev pub IsVoid : List OpenTransaction → Body → Type 0
IsVoid opened (Client (TcBeginConf name tx)) = tally (begins_at name tx.tc) opened ≡ 0
IsVoid opened (Client (TcBeginRef name)) = tally (begins name) opened ≡ 0
IsVoid opened (Client (TcCommitConf tx epoch)) = tally (has_tx tx) opened ≡ 0
IsVoid opened (Client (TcRollbackRep tx cause)) = tally (has_tx tx) opened ≡ 0
IsVoid opened _ = Unit {0}

-- nor what it answers
abbrev pub IsStray : List OpenTransaction → Body → Type 0
IsStray opened (Client (TcKeyConf tx answer)) = tally (has_tx tx) opened ≡ 0
IsStray opened _ = Unit {0}

-- a transaction may be asked for with this name at this node
abbrev pub IsNew : ApiState → Option ℕ → ℕ → Type 0
IsNew s None node = least_node s.view.full ≡ Some node
IsNew s (Some name) node = (tally (is_named (Some name)) s.opened ≡ 0) × (is_full s.view node ≡ true)

-- the transaction at a place that has this name, or this number
abbrev NamedAt : ApiState → ℕ → ℕ → Type 0
NamedAt s name at = IsFocus (is_named (Some name)) s.opened at

abbrev OwnAt : ApiState → TxId → ℕ → Type 0
OwnAt s tx at = IsFocus (has_tx tx) s.opened at

-- a refusal that the API gives by itself: neither is the cluster down, nor does a coordinator have too many
-- transactions
abbrev pub is_own_refusal : Refusal → Bool
is_own_refusal refusal.Down = false
is_own_refusal refusal.TooManyOpen = false
is_own_refusal why = true

-- the name of the transaction that a request is about
abbrev pub name_asked : ApiReq → Option ℕ
name_asked (request.Begin name at) = Some name
name_asked (request.Operate name op) = name
name_asked (request.Commit name) = Some name
name_asked (request.Abort name) = Some name
name_asked _ = None

-- the request for the rows of a node, or for their digest
abbrev pub asking_rows : ℕ → Bool → ApiReq
asking_rows node false = request.Rows node
asking_rows node true = request.Digest node

-- R is of each form of a step at a request
pub record ApiRequestForms (s : ApiState) (asked : ApiReq) (R : Step ApiState → Type 0) : Type 0 where
  pub opens : (name node : ℕ) (at : Option ℕ) → asked ≡ request.Begin name at → IsNew s (Some name) node
      → R (beginning s (Some name) node None)
  pub opens_alone : (op : Op) (node : ℕ) → asked ≡ request.Operate None op → IsNew s None node
      → R (beginning s None node (Some op))
  pub refuses : (name : Option ℕ) (why : Refusal) → name_asked asked ≡ name → is_own_refusal why ≡ true
      → R (refused s name why)
  pub operates : (name : ℕ) (op : Op) (at : ℕ) (f : NamedAt s name at) (tx : TxId)
      → asked ≡ request.Operate (Some name) op → f.item.doing ≡ Ready → f.item.tx ≡ Some tx
      → nat_lt f.item.operations OPERATIONS ≡ true
      → R (key_request (about (changing s at (operating f.item)) (Some at)) tx op)
  pub commits : (name at : ℕ) (f : NamedAt s name at) (tx : TxId) → asked ≡ request.Commit name
      → f.item.doing ≡ Ready → f.item.tx ≡ Some tx
      → R (sending (about (changing s at (committing f.item)) (Some at)) (coordinator_of tx)
      (Client (TcCommitReq tx)))
  pub aborts : (name at : ℕ) (f : NamedAt s name at) (tx : TxId) → asked ≡ request.Abort name → f.item.tx ≡ Some tx
      → R (sending (about s None) (coordinator_of tx) (Client (TcRollbackReq tx)))
  pub ticks : (round of : ℕ) → asked ≡ request.Tick round of
      → R (record {
        state = about (ticked_if s of (round == of)) None;
        effects =
            record { sends = telling_all news.Round (everyone s.view); marks = [] };
      })
  pub dumps : (node : ℕ) (digest : Bool) → asked ≡ asking_rows node digest
      → R (sending (with_dump (about s None) (Some (begun_dump node digest))) (rows_of node) (Client (DumpReq 0)))
  pub waits : (p : OpenTransaction → Bool) (at : ℕ) (f : IsFocus p s.opened at) (tx : TxId) → asked ≡ request.Waits
      → f.item.tx ≡ Some tx
      → R (sending (changing s at (behind f.item None)) (coordinator_of tx) (Client (TcWaitReq tx)))
  pub pends : (name holder : Option ℕ) → asked ≡ request.Pending
      → R (stay (replied s (Pending name (HeldBy holder) ∷ [])))
  pub gives_up : (p : OpenTransaction → Bool) (at : ℕ) (f : IsFocus p s.opened at) (holder : Option ℕ) (tx : TxId)
      → asked ≡ request.Pending → f.item.name ≡ None → f.item.tx ≡ Some tx
      → R (sending (replied s (Pending None (HeldBy holder) ∷ [])) (coordinator_of tx) (Client (TcRollbackReq tx)))
  pub is_about_none : R (stay (about s None))
  pub rests : R (stay s)

-- and at a signal
pub record ApiSignalForms (s : ApiState) (body : Body) (R : Step ApiState → Type 0) : Type 0 where
  pub begins_named : (name : Option ℕ) (tx : TxId) (at : ℕ) (f : IsFocus (begins_at name tx.tc) s.opened at)
      (called : ℕ)
      → body ≡ Client (TcBeginConf name tx) → f.item.name ≡ Some called
      → R (stay (replied (changing s at (begun f.item tx)) (Begun called tx.tc ∷ [])))
  pub begins_alone : (name : Option ℕ) (tx : TxId) (at : ℕ) (f : IsFocus (begins_at name tx.tc) s.opened at) (op : Op)
      → body ≡ Client (TcBeginConf name tx) → f.item.name ≡ None → f.item.doing ≡ Beginning (Some op)
      → R (key_request (changing s at (begun_operating f.item tx)) tx op)
  pub begins_idle : (name : Option ℕ) (tx : TxId) (at : ℕ) (f : IsFocus (begins_at name tx.tc) s.opened at)
      → body ≡ Client (TcBeginConf name tx) → R (stay (changing s at (begun f.item tx)))
  pub refuses : (name : Option ℕ) (at : ℕ) (f : IsFocus (begins name) s.opened at)
      → body ≡ Client (TcBeginRef name) → R (stay (over s at (Refused name refusal.TooManyOpen)))
  pub answers : (tx : TxId) (answer : Answer) (at : ℕ) (f : OwnAt s tx at) (name : ℕ)
      → body ≡ Client (TcKeyConf tx answer)
      → f.item.doing ≡ Operating → f.item.name ≡ Some name
      → R (stay (replied (changing s at (answered f.item Ready)) (Answered (Some name) answer ∷ [])))
  pub answers_last : (tx : TxId) (answer : Answer) (at : ℕ) (f : OwnAt s tx at) → body ≡ Client (TcKeyConf tx answer)
      → f.item.doing ≡ Operating → f.item.name ≡ None
      → R (sending (replied (changing s at (answered f.item Committing)) (Answered None answer ∷ []))
      (coordinator_of tx) (Client (TcCommitReq tx)))
  pub answers_none : (tx : TxId) (answer : Answer) (at : ℕ) (f : OwnAt s tx at) → body ≡ Client (TcKeyConf tx answer)
      → (f.item.doing ≡ Operating → ⊥) → R (stay s)
  pub commits : (tx : TxId) (epoch at : ℕ) (f : OwnAt s tx at) → body ≡ Client (TcCommitConf tx epoch)
      → R (ending s tx (outcome.Committed epoch) (acknowledging s tx) at f.item.name)
  pub acknowledges : (tx : TxId) (epoch : ℕ) → body ≡ Client (TcCommitConf tx epoch) → tally (has_tx tx) s.opened ≡ 0
      → R (unknown s (acknowledging s tx))
  pub aborts : (tx : TxId) (cause : AbortCause) (at : ℕ) (f : OwnAt s tx at) → body ≡ Client (TcRollbackRep tx cause)
      → R (ending s tx (outcome.Aborted cause) [] at f.item.name)
  pub waits : (tx ahead : TxId) (at : ℕ) (f : OwnAt s tx at) → body ≡ Client (TcWaitConf tx ahead)
      → R (stay (changing s at (behind f.item (Some ahead))))
  pub dumps : (d : Dump) (rows : List (List ℕ × List ℕ)) (next : Option ℕ) (at : ℕ) → body ≡ Client (DumpConf rows next)
      → R (sending (with_dump s (Some (record { node = d.node; digest = d.digest; rows = gathered d.rows rows })))
      (rows_of d.node) (Client (DumpReq at)))
  pub dumped : (d : Dump) (rows : List (List ℕ × List ℕ)) (next : Option ℕ) → body ≡ Client (DumpConf rows next)
      → R (stay (replied (with_dump s None) (dump_replies d.node d.digest (gathered d.rows rows))))
  pub rests : IsVoid s.opened body → IsStray s.opened body → R (stay s)

module _ (s : ApiState) (asked : ApiReq) (R : Step ApiState → Type 0) (forms : ApiRequestForms s asked R) where
  begin_at_turns : (name node : ℕ) (at : Option ℕ) (b : Bool) → asked ≡ request.Begin name at
      → tally (is_named (Some name)) s.opened ≡ 0 → is_full s.view node ≡ b → R (begin_at s name node b)
  begin_at_turns name node at true is none full = forms.opens name node at is (none, full)
  begin_at_turns name node at false is none full =
      forms.refuses (Some name) (refusal.NoMember node) (ap name_asked is) refl

  begin_turns : (name : ℕ) (at : Option ℕ) → asked ≡ request.Begin name at → R (begin_row s name at)
  unfolding begin_row
  begin_turns name at is = go (place_named s (Some name)) refl
    where
      go : (o : Option ℕ) → place_named s (Some name) ≡ o → R (begin_if s name at (is_some o))
      go (Some place) e = forms.refuses (Some name) refusal.IsOpen (ap name_asked is) refl
      go None e =
          begin_at_turns name (node_for s.view at) at (is_full s.view (node_for s.view at)) is
          (none_placed (is_named (Some name)) s.opened e) refl

  -- what a command does to the transaction of its name
  named_turns : (name : ℕ) (some : ℕ → OpenTransaction → Step ApiState) → name_asked asked ≡ Some name
      → ((at : ℕ) (f : NamedAt s name at) → R (some at f.item))
      → R (where_at s.opened (refused s (Some name) refusal.NotOpen) some (place_named s (Some name)))
  named_turns name some own =
      where_found (is_named (Some name)) s.opened _ some R
      (λ none. forms.refuses (Some name) refusal.NotOpen own refl)

  commit_by_turns : (name at : ℕ) (f : NamedAt s name at) (doing : Doing) (tx : Option TxId)
      → asked ≡ request.Commit name → f.item.doing ≡ doing → f.item.tx ≡ tx → R (commit_by s name at f.item doing tx)
  commit_by_turns name at f Ready (Some tx) is e d = forms.commits name at f tx is e d
  commit_by_turns name at f _ _ is e d = forms.refuses (Some name) refusal.Busy (ap name_asked is) refl

  commit_turns : (name : ℕ) → asked ≡ request.Commit name → R (commit_row s name)
  unfolding commit_row
  commit_turns name is =
      named_turns name (λ at t. commit_by s name at t t.doing t.tx) (ap name_asked is)
      (λ at f. commit_by_turns name at f f.item.doing f.item.tx is refl refl)

  abort_by_turns : (name at : ℕ) (f : NamedAt s name at) (tx : Option TxId) → asked ≡ request.Abort name
      → f.item.tx ≡ tx
      → R (abort_by s name tx)
  abort_by_turns name at f None is d = forms.refuses (Some name) refusal.Busy (ap name_asked is) refl
  abort_by_turns name at f (Some tx) is d = forms.aborts name at f tx is d

  abort_turns : (name : ℕ) → asked ≡ request.Abort name → R (abort_row s name)
  unfolding abort_row
  abort_turns name is =
      named_turns name (λ at t. abort_by s name t.tx) (ap name_asked is)
      (λ at f. abort_by_turns name at f f.item.tx is refl)

  tick_turns : (round of : ℕ) → asked ≡ request.Tick round of → R (tick_row s round of)
  unfolding tick_row
  tick_turns round of is = forms.ticks round of is

  dump_turns : (node : ℕ) (digest : Bool) → asked ≡ asking_rows node digest → name_asked asked ≡ None
      → R (dump_row s node digest)
  unfolding dump_row
  dump_turns node digest is none = by (is_full s.view node) (is_some s.dump)
    where
      by : (full under_way : Bool) → R (dump_if s node digest full under_way)
      by false under_way = forms.refuses None (refusal.NoMember node) none refl
      by true true = forms.is_about_none
      by true false = forms.dumps node digest is

  lone_turns : (op : Op) → asked ≡ request.Operate None op → R (lone_row s op)
  unfolding lone_row
  lone_turns op is = by (least_node s.view.full) refl
    where
      by : (node : Option ℕ) → least_node s.view.full ≡ node → R (lone_by s op node)
      by None e = forms.refuses None (refusal.NoMember 0) (ap name_asked is) refl
      by (Some node) e = forms.opens_alone op node is e

  operate_if_turns : (name : ℕ) (op : Op) (at : ℕ) (f : NamedAt s name at) (tx : TxId) (b : Bool)
      → asked ≡ request.Operate (Some name) op → f.item.doing ≡ Ready → f.item.tx ≡ Some tx
      → nat_lt f.item.operations OPERATIONS ≡ b → R (operate_if s name op at f.item tx b)
  operate_if_turns name op at f tx true is e d low = forms.operates name op at f tx is e d low
  operate_if_turns name op at f tx false is e d low =
      forms.refuses (Some name) refusal.TooManyOperations (ap name_asked is) refl

  operate_by_turns : (name : ℕ) (op : Op) (at : ℕ) (f : NamedAt s name at) (doing : Doing) (tx : Option TxId)
      → asked ≡ request.Operate (Some name) op → f.item.doing ≡ doing → f.item.tx ≡ tx
      → R (operate_by s name op at f.item doing tx)
  operate_by_turns name op at f Ready (Some tx) is e d =
      operate_if_turns name op at f tx (nat_lt f.item.operations OPERATIONS) is e d refl
  operate_by_turns name op at f _ _ is e d = forms.refuses (Some name) refusal.Busy (ap name_asked is) refl

  operate_turns : (name : ℕ) (op : Op) → asked ≡ request.Operate (Some name) op → R (operate_row s name op)
  unfolding operate_row
  operate_turns name op is =
      named_turns name (λ at t. operate_by s name op at t t.doing t.tx) (ap name_asked is)
      (λ at f. operate_by_turns name op at f f.item.doing f.item.tx is refl refl)

  own_turns : (some : ℕ → OpenTransaction → Step ApiState)
      → ((p : OpenTransaction → Bool) (at : ℕ) (f : IsFocus p s.opened at) → R (some at f.item))
      → R (where_at s.opened (stay s) some (own_place s))
  own_turns some present = where_own s.opened (stay s) some s.own R forms.rests present

  waits_turns : asked ≡ request.Waits → R (waits_row s)
  unfolding waits_row
  waits_turns asks =
      own_turns (λ at t. waits_if s at t (is_unanswered t.doing) t.tx)
      (λ p at f. by p at f (is_unanswered f.item.doing) f.item.tx refl)
    where
      by : (p : OpenTransaction → Bool) (at : ℕ) (f : IsFocus p s.opened at) (b : Bool) (tx : Option TxId)
          → f.item.tx ≡ tx → R (waits_if s at f.item b tx)
      by p at f true (Some tx) is = forms.waits p at f tx asks is
      by p at f _ _ is = forms.rests

  pending_by_turns : asked ≡ request.Pending → (p : OpenTransaction → Bool) (at : ℕ) (f : IsFocus p s.opened at)
      → (holder name : Option ℕ) (tx : Option TxId) → f.item.name ≡ name → f.item.tx ≡ tx
      → R (pending_by s holder name tx)
  pending_by_turns is p at f holder None (Some tx) alone own = forms.gives_up p at f holder tx is alone own
  pending_by_turns is p at f holder None None alone own = forms.pends None holder is
  pending_by_turns is p at f holder (Some name) tx alone own = forms.pends (Some name) holder is

  pending_turns : asked ≡ request.Pending → R (pending_row s)
  unfolding pending_row
  pending_turns is =
      own_turns (λ at t. pending_if s t (is_unanswered t.doing) t.ahead)
      (λ p at f. by p at f (is_unanswered f.item.doing) f.item.ahead)
    where
      by : (p : OpenTransaction → Bool) (at : ℕ) (f : IsFocus p s.opened at) (b : Bool) (ahead : Option TxId)
          → R (pending_if s f.item b ahead)
      by p at f true (Some ahead) = pending_by_turns is p at f (name_of s ahead) f.item.name f.item.tx refl refl
      by p at f _ _ = forms.rests

  pub request_turns : R (request_row s asked)
  unfolding request_row
  request_turns = by asked refl
    where
      by : (r : ApiReq) → asked ≡ r → R (request_row s r)
      by (request.Begin name at) is = begin_turns name at is
      by (request.Operate None op) is = lone_turns op is
      by (request.Operate (Some name) op) is = operate_turns name op is
      by (request.Commit name) is = commit_turns name is
      by (request.Abort name) is = abort_turns name is
      by (request.Tick round of) is = tick_turns round of is
      by (request.Rows node) is = dump_turns node false is (ap name_asked is)
      by (request.Digest node) is = dump_turns node true is (ap name_asked is)
      by request.Waits is = waits_turns is
      by request.Pending is = pending_turns is
      by _ is = forms.is_about_none

-- what the coordinators and the rows tell
module _ (s : ApiState) (body : Body) (R : Step ApiState → Type 0) (forms : ApiSignalForms s body R) where
  -- what it tells of isn't there
  nothing : (told : Body) → body ≡ told → IsVoid s.opened told → IsStray s.opened told → R (stay s)
  nothing told is void stray =
      forms.rests (subst (IsVoid s.opened) (sym is) void) (subst (IsStray s.opened) (sym is) stray)

  begun_turns : (name : Option ℕ) (tx : TxId) → body ≡ Client (TcBeginConf name tx) → R (begun_row s name tx)
  unfolding begun_row
  begun_turns name tx is =
      where_found (begins_at name tx.tc) s.opened (stay s) (λ at t. begun_by s tx at t t.name t.doing) R
      (λ none. nothing (Client (TcBeginConf name tx)) is none tt) (λ at f. by at f f.item.name f.item.doing refl refl)
    where
      by : (at : ℕ) (f : IsFocus (begins_at name tx.tc) s.opened at) (called : Option ℕ) (doing : Doing)
          → f.item.name ≡ called → f.item.doing ≡ doing
          → R (begun_by s tx at f.item called doing)
      by at f (Some called) doing e d = forms.begins_named name tx at f called is e
      by at f None (Beginning (Some op)) e d = forms.begins_alone name tx at f op is e d
      by at f None _ e d = forms.begins_idle name tx at f is

  refuse_turns : (name : Option ℕ) → body ≡ Client (TcBeginRef name) → R (stay (refuse_row s name))
  unfolding refuse_row
  refuse_turns name is =
      where_found (begins name) s.opened s _ (λ after. R (stay after))
      (λ none. nothing (Client (TcBeginRef name)) is none tt) (λ at f. forms.refuses name at f is)

  answer_turns : (tx : TxId) (answer : Answer) → body ≡ Client (TcKeyConf tx answer) → R (answer_row s tx answer)
  unfolding answer_row
  answer_turns tx answer is =
      where_found (has_tx tx) s.opened (stay s) (λ at t. answer_by s tx answer at t t.doing t.name) R
      (λ none. nothing (Client (TcKeyConf tx answer)) is tt none) (λ at f. by at f f.item.doing f.item.name refl refl)
    where
      by : (at : ℕ) (f : OwnAt s tx at) (doing : Doing) (name : Option ℕ) → f.item.doing ≡ doing → f.item.name ≡ name
          → R (answer_by s tx answer at f.item doing name)
      by at f Operating (Some name) d e = forms.answers tx answer at f name is d e
      by at f Operating None d e = forms.answers_last tx answer at f is d e
      by at f Ready name d e = forms.answers_none tx answer at f is (λ working. cc)
      by at f Committing name d e = forms.answers_none tx answer at f is (λ working. cc)
      by at f (Beginning op) name d e = forms.answers_none tx answer at f is (λ working. cc)

  commit_report_turns : (tx : TxId) (epoch : ℕ) → body ≡ Client (TcCommitConf tx epoch)
      → R (commit_report_row s tx epoch)
  unfolding commit_report_row
  commit_report_turns tx epoch is =
      where_found (has_tx tx) s.opened _ _ R (λ none. forms.acknowledges tx epoch is none)
      (λ at f. forms.commits tx epoch at f is)

  abort_report_turns : (tx : TxId) (cause : AbortCause) → body ≡ Client (TcRollbackRep tx cause)
      → R (abort_report_row s tx cause)
  unfolding abort_report_row
  abort_report_turns tx cause is =
      where_found (has_tx tx) s.opened _ _ R (λ none. nothing (Client (TcRollbackRep tx cause)) is none tt)
      (λ at f. forms.aborts tx cause at f is)

  behind_turns : (tx ahead : TxId) → body ≡ Client (TcWaitConf tx ahead) → R (stay (behind_row s tx ahead))
  unfolding behind_row
  behind_turns tx ahead is =
      where_found (has_tx tx) s.opened s _ (λ after. R (stay after))
      (λ none. nothing (Client (TcWaitConf tx ahead)) is tt tt) (λ at f. forms.waits tx ahead at f is)

  dumped_turns : (rows : List (List ℕ × List ℕ)) (next : Option ℕ) → body ≡ Client (DumpConf rows next)
      → R (dumped_row s rows next)
  unfolding dumped_row
  dumped_turns rows next is = by s.dump
    where
      on : (d : Dump) (o : Option ℕ) → R (dumped_next s d rows o)
      on d (Some at) = forms.dumps d rows next at is
      on d None = forms.dumped d rows next is

      by : (d : Option Dump) → R (dumped_by s rows next d)
      by None = nothing (Client (DumpConf rows next)) is tt tt
      by (Some d) = on d next

  pub signal_turns : is_request body ≡ false → R (api_table s body)
  signal_turns = by body refl
    where
      by : (b : Body) → body ≡ b → is_request b ≡ false → R (api_table s b)
      by (Host (Continue (work.Request r) at)) is plain = cc
      by (Client (TcBeginConf name tx)) is plain = begun_turns name tx is
      by (Client (TcBeginRef name)) is plain = refuse_turns name is
      by (Client (TcKeyConf tx answer)) is plain = answer_turns tx answer is
      by (Client (TcCommitConf tx epoch)) is plain = commit_report_turns tx epoch is
      by (Client (TcRollbackRep tx cause)) is plain = abort_report_turns tx cause is
      by (Client (TcWaitConf tx ahead)) is plain = behind_turns tx ahead is
      by (Client (DumpConf rows next)) is plain = dumped_turns rows next is
      by other is plain = nothing other is tt tt

-- whatever the API takes
pub api_turns : (s : ApiState) (R : Body → Step ApiState → Type 0) (body : Body)
    → ((r : ApiReq) (at : ℕ) → ApiRequestForms s r (R (Host (Continue (work.Request r) at))))
    → ApiSignalForms s body (R body) → R body (api_table s body)
api_turns s R (Host (Continue (work.Request r) at)) asked told =
    request_turns s r (R (Host (Continue (work.Request r) at))) (asked r at)
api_turns s R body asked told = signal_turns s body (R body) told refl
