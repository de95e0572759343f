-- What each row of the API does to the transactions that it has opened, and what it sends.
use Rattle.std.proofs.Common.{◌≡◌, ℕ, List, [], ◌∷◌, ◌++◌, Bool, true, false, refl, ap, subst, sym}
use Rattle.std.specs.Prelude.{◌==◌, Option, None, Some}
use Rattle.sig_core.specs.declared.member.Member.{Member}
use Rattle.sig_core.specs.declared.member.TxId.{TxId}
use Rattle.sig_core.specs.declared.op.Op.{Op}
use Rattle.sig_core.specs.declared.outs.Outgoing.{Outgoing}
use Rattle.sig_core.specs.declared.request.ApiReq.{ApiReq}
use Rattle.sig_core.specs.declared.signal.Body.{Body}
use Rattle.sig_core.specs.declared.signal.Body.TheVariants.{Host, Client}
use Rattle.sig_core.specs.declared.signal.client.ClientSignal.TheVariants.{TcBeginReq, TcBeginConf, TcBeginRef}
use Rattle.sig_core.specs.declared.signal.client.ClientSignal.TheVariants.{TcKeyReq, TcCommitReq, TcCommitConf}
use Rattle.sig_core.specs.declared.signal.client.ClientSignal.TheVariants.{TcCommitAck, TcRollbackReq, TcRollbackRep}
use Rattle.sig_core.specs.declared.signal.client.ClientSignal.TheVariants.{TcWaitReq, DumpReq}
use Rattle.sig_core.specs.declared.signal.host.HostSignal.TheVariants.{Continue, Round}
use Rattle.sig_core.specs.declared.signal.host.Work.TheVariants as work
use Rattle.sig_core.specs.declared.view.View.{View}
use Rattle.sig_core.specs.Place.{coordinator}
use Rattle.sig_core.specs.Step.{Step, to_place}
use Rattle.api_block.specs.declared.members.News.{News}
use Rattle.api_block.specs.declared.members.News.TheVariants as news
use Rattle.api_block.specs.declared.opened.OpenTransaction.{OpenTransaction}
use Rattle.api_block.specs.Api.{api_table}
use Rattle.api_block.specs.Commands.{ticked_if}
use Rattle.api_block.specs.Members.{everyone, telling_all}
use Rattle.api_block.specs.Opened.{asked_for, begins, begins_at, has_tx, is_beginning}
use Rattle.api_block.specs.Requests.{is_request}
use Rattle.api_block.specs.State.{ApiState, about}
use Rattle.api_block.proofs.ApiTurns.{IsNew, IsVoid, ApiRequestForms, ApiSignalForms, api_turns}
use Rattle.host_laws.proofs.hosts.SendKinds.{are_of}

-- what the API sends, but for the wish for a transaction
abbrev pub is_api_kind : Body → Bool
is_api_kind (Client (TcKeyReq tx op)) = true
is_api_kind (Client (TcCommitReq tx)) = true
is_api_kind (Client (TcRollbackReq tx)) = true
is_api_kind (Client (TcWaitReq tx)) = true
is_api_kind (Client (TcCommitAck tx)) = true
is_api_kind (Client (DumpReq at)) = true
is_api_kind (Host Round) = true
is_api_kind _ = false

-- the transaction has begun
pub record HasBegun (tx : TxId) (t u : OpenTransaction) : Type 0 where
  pub name : u.name ≡ t.name
  pub is : u.tx ≡ Some tx
  pub begun : is_beginning u.doing ≡ false

-- the transaction goes on
pub record GoesOn (t u : OpenTransaction) : Type 0 where
  pub name : u.name ≡ t.name
  pub node : u.node ≡ t.node
  pub tx : u.tx ≡ t.tx
  pub begun : is_beginning u.doing ≡ is_beginning t.doing

-- the transaction whose end the signal reports
abbrev pub ended : Body → Option TxId
ended (Client (TcCommitConf tx epoch)) = Some tx
ended (Client (TcRollbackRep tx cause)) = Some tx
ended _ = None

-- what a step of the API from s at the signal does to its transactions, and sends
pub data ApiMove (s : ApiState) (body : Body) (after : View × List OpenTransaction) (sends : List Outgoing) : Type 0
  where
    rests : after ≡ (s.view, s.opened) → are_of is_api_kind sends ≡ true → IsVoid s.opened body
        → ApiMove s body after sends
    opens : (name : Option ℕ) (node : ℕ) (op : Option Op) → IsNew s name node → is_request body ≡ true
        → after ≡ (s.view, s.opened ++ asked_for name node op ∷ [])
        → sends ≡ to_place (coordinator node) (Client (TcBeginReq name)) ∷ [] → ApiMove s body after sends
    begun_as : (name : Option ℕ) (tx : TxId) (front : List OpenTransaction) (t u : OpenTransaction)
        (back : List OpenTransaction)
        → body ≡ Client (TcBeginConf name tx) → begins_at name tx.tc t ≡ true → HasBegun tx t u
        → s.opened ≡ front ++ t ∷ back → after ≡ (s.view, front ++ u ∷ back) → are_of is_api_kind sends ≡ true
        → ApiMove s body after sends
    goes : (front : List OpenTransaction) (t u : OpenTransaction) (back : List OpenTransaction)
        → GoesOn t u → IsVoid s.opened body
        → s.opened ≡ front ++ t ∷ back → after ≡ (s.view, front ++ u ∷ back) → are_of is_api_kind sends ≡ true
        → ApiMove s body after sends
    ends : (tx : TxId) (front : List OpenTransaction) (t : OpenTransaction) (back : List OpenTransaction)
        → ended body ≡ Some tx → has_tx tx t ≡ true
        → s.opened ≡ front ++ t ∷ back → after ≡ (s.view, front ++ back) → are_of is_api_kind sends ≡ true
        → ApiMove s body after sends
    refuses : (name : Option ℕ) (front : List OpenTransaction) (t : OpenTransaction) (back : List OpenTransaction)
        → body ≡ Client (TcBeginRef name) → begins name t ≡ true
        → s.opened ≡ front ++ t ∷ back → after ≡ (s.view, front ++ back) → are_of is_api_kind sends ≡ true
        → ApiMove s body after sends

-- a step moves so
abbrev pub Moves : ApiState → Body → Step ApiState → Type 0
Moves s body step = ApiMove s body (step.state.view, step.state.opened) step.effects.sends

-- a request
abbrev asking : ApiReq → ℕ → Body
asking r at = Host (Continue (work.Request r) at)

telling_of : (told : News) (members : List Member) → are_of is_api_kind (telling_all told members) ≡ true
telling_of told [] = refl
telling_of news.Round (member ∷ members) = telling_of news.Round members
telling_of (news.Committed tx) (member ∷ members) = telling_of (news.Committed tx) members

-- a transaction goes on with its name and number
went_on : {t u : OpenTransaction} → u.name ≡ t.name → u.node ≡ t.node → u.tx ≡ t.tx
    → is_beginning u.doing ≡ is_beginning t.doing → GoesOn t u
went_on name node tx begun = record { name = name; node = node; tx = tx; begun = begun }

at_request : (s : ApiState) (r : ApiReq) (n : ℕ) → ApiRequestForms s r (Moves s (asking r n))
at_request s r n = record {
  opens = λ name node at is new. opens (Some name) node None new refl refl refl;
  opens_alone = λ op node is new. opens None node (Some op) new refl refl refl;
  refuses = λ name why is own. rests refl refl tt;
  operates = λ name op at f tx is ready own low.
      goes f.front f.item _ f.back (went_on refl refl refl (ap is_beginning (sym ready))) tt f.is
      (ap (λ os. (s.view, os)) (f.set _)) refl;
  commits = λ name at f tx is ready own.
      goes f.front f.item _ f.back (went_on refl refl refl (ap is_beginning (sym ready))) tt f.is
      (ap (λ os. (s.view, os)) (f.set _)) refl;
  aborts = λ name at f tx is own. rests refl refl tt;
  ticks = λ number of is. round of (number == of);
  dumps = λ node digest is. rests refl refl tt;
  waits = λ p at f tx is own.
      goes f.front f.item _ f.back (went_on refl refl refl refl) tt f.is (ap (λ os. (s.view, os)) (f.set _)) refl;
  pends = λ name holder is. rests refl refl tt;
  gives_up = λ p at f holder tx is alone own. rests refl refl tt;
  is_about_none = rests refl refl tt;
  rests = rests refl refl tt;
}
  where
    round : (of : ℕ) (last : Bool)
        → Moves s (asking r n) (record {
          state = about (ticked_if s of last) None;
          effects = record {
            sends = telling_all news.Round (everyone s.view);
            marks = [];
          };
        })
    round of true = rests refl (telling_of news.Round (everyone s.view)) tt
    round of false = rests refl (telling_of news.Round (everyone s.view)) tt

at_signal : (s : ApiState) (body : Body) → ApiSignalForms s body (Moves s body)
at_signal s body = record {
  begins_named = λ name tx at f called is e.
      begun_as name tx f.front f.item _ f.back is f.passes (record { name = refl; is = refl; begun = refl }) f.is
      (ap (λ os. (s.view, os)) (f.set _)) refl;
  begins_alone = λ name tx at f op is e d.
      begun_as name tx f.front f.item _ f.back is f.passes (record { name = refl; is = refl; begun = refl }) f.is
      (ap (λ os. (s.view, os)) (f.set _)) refl;
  begins_idle = λ name tx at f is.
      begun_as name tx f.front f.item _ f.back is f.passes (record { name = refl; is = refl; begun = refl }) f.is
      (ap (λ os. (s.view, os)) (f.set _)) refl;
  refuses = λ name at f is.
      refuses name f.front f.item f.back is f.passes f.is (ap (λ os. (s.view, os)) f.removed) refl;
  answers = λ tx answer at f name is d e.
      goes f.front f.item _ f.back (went_on refl refl refl (ap is_beginning (sym d)))
      (subst (IsVoid s.opened) (sym is) tt) f.is (ap (λ os. (s.view, os)) (f.set _)) refl;
  answers_last = λ tx answer at f is d e.
      goes f.front f.item _ f.back (went_on refl refl refl (ap is_beginning (sym d)))
      (subst (IsVoid s.opened) (sym is) tt) f.is (ap (λ os. (s.view, os)) (f.set _)) refl;
  answers_none = λ tx answer at f is idle. rests refl refl (subst (IsVoid s.opened) (sym is) tt);
  commits = λ tx epoch at f is.
      ends tx f.front f.item f.back (ap ended is) f.passes f.is (ap (λ os. (s.view, os)) f.removed)
      (telling_of (news.Committed tx) (everyone s.view));
  acknowledges = λ tx epoch is none.
      rests refl (telling_of (news.Committed tx) (everyone s.view)) (subst (IsVoid s.opened) (sym is) none);
  aborts = λ tx cause at f is.
      ends tx f.front f.item f.back (ap ended is) f.passes f.is (ap (λ os. (s.view, os)) f.removed) refl;
  waits = λ tx ahead at f is.
      goes f.front f.item _ f.back (went_on refl refl refl refl) (subst (IsVoid s.opened) (sym is) tt) f.is
      (ap (λ os. (s.view, os)) (f.set _)) refl;
  dumps = λ d rows next at is. rests refl refl (subst (IsVoid s.opened) (sym is) tt);
  dumped = λ d rows next is. rests refl refl (subst (IsVoid s.opened) (sym is) tt);
  rests = λ void stray. rests refl refl void;
}

-- every step of the API is such a move
pub api_moves : (s : ApiState) (body : Body) → Moves s body (api_table s body)
api_moves s body = api_turns s (Moves s) body (at_request s) (at_signal s body)
