-- What a step of the API does to its transactions, case by case.
use Rattle.std.proofs.Common.{◌≡◌, ℕ, ◌+◌, List, [], ◌∷◌, ◌++◌, Bool, true, false, refl, sym, subst}
use Rattle.std.specs.Prelude.{◌==◌, ◌&&◌, Option, None, Some, nat_lt}
use Rattle.sig_core.specs.declared.member.Member.{Member}
use Rattle.sig_core.specs.declared.member.TxId.{TxId}
use Rattle.sig_core.specs.declared.op.Answer.{Answer}
use Rattle.sig_core.specs.declared.op.Op.{Op}
use Rattle.sig_core.specs.declared.outs.Outgoing.{Outgoing}
use Rattle.sig_core.specs.declared.request.ApiReq.{ApiReq}
use Rattle.sig_core.specs.declared.signal.Body.{Body}
use Rattle.sig_core.specs.declared.signal.Body.TheVariants.{Host, Client}
use Rattle.sig_core.specs.declared.signal.client.ClientSignal.TheVariants.{TcBeginConf, TcKeyReq, TcKeyConf}
use Rattle.sig_core.specs.declared.signal.client.ClientSignal.TheVariants.{TcCommitReq}
use Rattle.sig_core.specs.declared.signal.host.HostSignal.TheVariants.{Continue}
use Rattle.sig_core.specs.declared.signal.host.Work.TheVariants as work
use Rattle.sig_core.specs.Place.{coordinator_of}
use Rattle.sig_core.specs.Step.{Step, to_place}
use Rattle.api_block.specs.declared.operate.TheConstants.{OPERATIONS}
use Rattle.api_block.specs.declared.members.News.{News}
use Rattle.api_block.specs.declared.members.News.TheVariants as news
use Rattle.api_block.specs.declared.opened.Doing.{Doing}
use Rattle.api_block.specs.declared.opened.Doing.TheVariants.{Beginning, Ready, Operating, Committing}
use Rattle.api_block.specs.declared.opened.OpenTransaction.{OpenTransaction}
use Rattle.api_block.specs.Api.{api_table}
use Rattle.api_block.specs.Commands.{ticked_if}
use Rattle.api_block.specs.Members.{everyone, telling_all}
use Rattle.api_block.specs.Opened.{asked_for, begins_at, has_tx, is_beginning, same_name}
use Rattle.api_block.specs.State.{ApiState, about}
use Rattle.api_block.proofs.ApiTurns.{IsStray, ApiRequestForms, ApiSignalForms, api_turns}
use Rattle.host_laws.proofs.rows.Operations.{left_of}
use Rattle.run_theory.specs.Counts.{tally}
use Rattle.host_laws.proofs.hosts.SendKinds.{are_of}
use Rattle.host_laws.proofs.coordinator.Keys.{answer_of}
use Rattle.answer_laws.specs.Answered.{is_operating}

-- what asks neither for an operation nor for a commit
abbrev pub is_calm : Body → Bool
is_calm (Client (TcKeyReq tx op)) = false
is_calm (Client (TcCommitReq tx)) = false
is_calm _ = true

-- an operation's answer comes for none, or for one that didn't ask
pub data Unheard (opened : List OpenTransaction) (one : TxId) : Type 0 where
  absent : tally (has_tx one) opened ≡ 0 → Unheard opened one
  idle : (front : List OpenTransaction) (t : OpenTransaction) (back : List OpenTransaction) → opened ≡ front ++ t ∷ back
      → has_tx one t ≡ true → is_operating t.doing ≡ false → Unheard opened one

abbrev pub IsUnheard : List OpenTransaction → Body → Type 0
IsUnheard opened (Client (TcKeyConf one answer)) = Unheard opened one
IsUnheard opened _ = Unit {0}

-- the signal answers no operation
abbrev pub IsNoAnswer : Body → Type 0
IsNoAnswer body = (tx : TxId) → answer_of tx body ≡ false

-- one transaction becomes another, and these signals are sent
pub data Changes (body : Body) (t u : OpenTransaction) (sends : List Outgoing) : Type 0 where
  begins_ready : (name : Option ℕ) (one : TxId) → body ≡ Client (TcBeginConf name one) → is_beginning t.doing ≡ true
      → u.tx ≡ Some one → u.operations ≡ t.operations → u.doing ≡ Ready
      → are_of is_calm sends ≡ true → Changes body t u sends
  begins_working : (name : Option ℕ) (one : TxId) (op : Op) → body ≡ Client (TcBeginConf name one)
      → is_beginning t.doing ≡ true → u.tx ≡ Some one → u.operations ≡ 1 → u.doing ≡ Operating
      → sends ≡ to_place (coordinator_of one) (Client (TcKeyReq one op)) ∷ [] → Changes body t u sends
  works : (one : TxId) (op : Op) → IsNoAnswer body → t.tx ≡ Some one → t.doing ≡ Ready
      → nat_lt t.operations OPERATIONS ≡ true
      → u.tx ≡ t.tx → u.operations ≡ t.operations + 1 → u.doing ≡ Operating
      → sends ≡ to_place (coordinator_of one) (Client (TcKeyReq one op)) ∷ [] → Changes body t u sends
  commits : (one : TxId) → IsNoAnswer body → t.tx ≡ Some one → t.doing ≡ Ready → u.tx ≡ t.tx
      → u.operations ≡ t.operations → u.doing ≡ Committing
      → sends ≡ to_place (coordinator_of one) (Client (TcCommitReq one)) ∷ [] → Changes body t u sends
  answered_ready : (one : TxId) (answer : Answer) → body ≡ Client (TcKeyConf one answer) → has_tx one t ≡ true
      → t.doing ≡ Operating → u.tx ≡ t.tx → u.operations ≡ t.operations → u.doing ≡ Ready
      → are_of is_calm sends ≡ true → Changes body t u sends
  answered_last : (one : TxId) (answer : Answer) → body ≡ Client (TcKeyConf one answer) → has_tx one t ≡ true
      → t.doing ≡ Operating → u.tx ≡ t.tx → u.operations ≡ t.operations → u.doing ≡ Committing
      → sends ≡ to_place (coordinator_of one) (Client (TcCommitReq one)) ∷ [] → Changes body t u sends
  notes : IsNoAnswer body → u.tx ≡ t.tx → u.operations ≡ t.operations → u.doing ≡ t.doing → are_of is_calm sends ≡ true
      → Changes body t u sends

-- a step of the API from s at the signal
pub data ApiStep (s : ApiState) (body : Body) (step : Step ApiState) : Type 0 where
  rests : step.state.opened ≡ s.opened → are_of is_calm step.effects.sends ≡ true → IsUnheard s.opened body
      → ApiStep s body step
  opens : (name : Option ℕ) (node : ℕ) (op : Option Op) → step.state.opened ≡ s.opened ++ asked_for name node op ∷ []
      → are_of is_calm step.effects.sends ≡ true → IsNoAnswer body → ApiStep s body step
  changes : (front : List OpenTransaction) (t u : OpenTransaction) (back : List OpenTransaction)
      → s.opened ≡ front ++ t ∷ back → step.state.opened ≡ front ++ u ∷ back → Changes body t u step.effects.sends
      → ApiStep s body step
  drops : (front : List OpenTransaction) (t : OpenTransaction) (back : List OpenTransaction)
      → s.opened ≡ front ++ t ∷ back → step.state.opened ≡ front ++ back → are_of is_calm step.effects.sends ≡ true
      → IsNoAnswer body → ApiStep s body step

telling_calm : (told : News) (members : List Member) → are_of is_calm (telling_all told members) ≡ true
telling_calm told [] = refl
telling_calm news.Round (member ∷ members) = telling_calm news.Round members
telling_calm (news.Committed one) (member ∷ members) = telling_calm (news.Committed one) members

at_request : (s : ApiState) (r : ApiReq) (n : ℕ) → ApiRequestForms s r (ApiStep s (Host (Continue (work.Request r) n)))
at_request s r n = record {
  opens = λ name node at is new. opens (Some name) node None refl refl (λ tx. refl);
  opens_alone = λ op node is new. opens None node (Some op) refl refl (λ tx. refl);
  refuses = λ name why is own. rests refl refl tt;
  operates = λ name op at f one is ready own low.
      changes f.front f.item _ f.back f.is (f.set _) (works one op (λ tx. refl) own ready low refl refl refl refl);
  commits = λ name at f one is ready own.
      changes f.front f.item _ f.back f.is (f.set _) (commits one (λ tx. refl) own ready refl refl refl refl);
  aborts = λ name at f one is own. rests refl refl tt;
  ticks = λ number of is. round of (number == of);
  dumps = λ node digest is. rests refl refl tt;
  waits = λ p at f one is own. changes f.front f.item _ f.back f.is (f.set _) (notes (λ tx. refl) refl refl refl refl);
  pends = λ name holder is. rests refl refl tt;
  gives_up = λ p at f holder one is alone own. rests refl refl tt;
  is_about_none = rests refl refl tt;
  rests = rests refl refl tt;
}
  where
    round : (of : ℕ) (last : Bool) → ApiStep s (Host (Continue (work.Request r) n))
        (record {
          state = about (ticked_if s of last) None;
          effects =
              record { sends = telling_all news.Round (everyone s.view); marks = [] };
        })
    round of true = rests refl (telling_calm news.Round (everyone s.view)) tt
    round of false = rests refl (telling_calm news.Round (everyone s.view)) tt

beginning_of : (name : Option ℕ) (node : ℕ) (t : OpenTransaction) → begins_at name node t ≡ true
    → is_beginning t.doing ≡ true
beginning_of name node t e =
    left_of (is_beginning t.doing) _ (left_of (is_beginning t.doing && same_name t.name name) _ e)

not_operating : (d : Doing) → (d ≡ Operating → ⊥) → is_operating d ≡ false
not_operating (Beginning op) other = refl
not_operating Ready other = refl
not_operating Operating other = absurd (other refl)
not_operating Committing other = refl

-- an answer is for none where none has its number
unheard_of : (opened : List OpenTransaction) (body : Body) → IsStray opened body → IsUnheard opened body
unheard_of opened (Client (TcKeyConf one answer)) stray = absent stray
unheard_of opened _ stray = tt

at_signal : (s : ApiState) (body : Body) → ApiSignalForms s body (ApiStep s body)
at_signal s body = record {
  begins_named = λ name one at f called is e.
      changes f.front f.item _ f.back f.is (f.set _)
      (begins_ready name one is (beginning_of name one.tc f.item f.passes) refl refl refl refl);
  begins_alone = λ name one at f op is e d.
      changes f.front f.item _ f.back f.is (f.set _)
      (begins_working name one op is (beginning_of name one.tc f.item f.passes) refl refl refl refl);
  begins_idle = λ name one at f is.
      changes f.front f.item _ f.back f.is (f.set _)
      (begins_ready name one is (beginning_of name one.tc f.item f.passes) refl refl refl refl);
  refuses = λ name at f is. drops f.front f.item f.back f.is f.removed refl (subst IsNoAnswer (sym is) (λ tx. refl));
  answers = λ one answer at f name is d e.
      changes f.front f.item _ f.back f.is (f.set _) (answered_ready one answer is f.passes d refl refl refl refl);
  answers_last = λ one answer at f is d e.
      changes f.front f.item _ f.back f.is (f.set _) (answered_last one answer is f.passes d refl refl refl refl);
  answers_none = λ one answer at f is other.
      rests refl refl (subst (IsUnheard s.opened) (sym is)
      (idle f.front f.item f.back f.is f.passes (not_operating f.item.doing other)));
  commits = λ one epoch at f is.
      drops f.front f.item f.back f.is f.removed (telling_calm (news.Committed one) (everyone s.view))
      (subst IsNoAnswer (sym is) (λ tx. refl));
  acknowledges = λ one epoch is none.
      rests refl (telling_calm (news.Committed one) (everyone s.view)) (subst (IsUnheard s.opened) (sym is) tt);
  aborts = λ one cause at f is.
      drops f.front f.item f.back f.is f.removed refl (subst IsNoAnswer (sym is) (λ tx. refl));
  waits = λ one ahead at f is.
      changes f.front f.item _ f.back f.is (f.set _)
      (notes (subst IsNoAnswer (sym is) (λ tx. refl)) refl refl refl refl);
  dumps = λ d rows next at is. rests refl refl (subst (IsUnheard s.opened) (sym is) tt);
  dumped = λ d rows next is. rests refl refl (subst (IsUnheard s.opened) (sym is) tt);
  rests = λ void stray. rests refl refl (unheard_of s.opened body stray);
}

-- each step of the API is one of these
pub api_step : (s : ApiState) (body : Body) → ApiStep s body (api_table s body)
api_step s body = api_turns s (ApiStep s) body (at_request s) (at_signal s body)
