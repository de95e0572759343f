-- What a signal changes at the API, with the replies.
use Rattle.std.proofs.Common.{◌≡◌, ℕ, Bool, true, false, List, [], ◌∷◌, ◌++◌, refl, sym, ap, ◌∙◌}
use Rattle.std.proofs.lemmas.List.{append-nil}
use Rattle.run_theory.specs.Lists.{Each}
use Rattle.run_theory.proofs.EachSent.{each_mapped}
use Rattle.run_theory.proofs.Pasts.{each_append}
use Rattle.std.specs.Prelude.{map, Option, None, Some}
use Rattle.sig_core.specs.declared.mark.Mark.TheVariants.{Reported}
use Rattle.sig_core.specs.declared.member.Member.{Member}
use Rattle.sig_core.specs.declared.member.TxId.{TxId}
use Rattle.sig_core.specs.declared.op.Answer.{Answer}
use Rattle.sig_core.specs.declared.op.Op.{Op}
use Rattle.sig_core.specs.declared.outcome.Outcome.{Outcome}
use Rattle.sig_core.specs.declared.outcome.Outcome.TheVariants as outcome
use Rattle.sig_core.specs.declared.reply.ApiReply.{ApiReply}
use Rattle.sig_core.specs.declared.reply.ApiReply.TheVariants.{Answered, Begun, Digest, Ended, Refused, Row, Rows}
use Rattle.sig_core.specs.declared.reply.Refusal.TheVariants.{TooManyOpen}
use Rattle.sig_core.specs.declared.signal.Body.{Body}
use Rattle.sig_core.specs.declared.signal.Body.TheVariants.{Host, Client}
use Rattle.sig_core.specs.declared.signal.client.ClientSignal.TheVariants.{TcBeginConf, TcBeginRef, TcKeyConf, TcKeyReq}
use Rattle.sig_core.specs.declared.signal.client.ClientSignal.TheVariants.{TcCommitAck, TcCommitConf, TcCommitReq}
use Rattle.sig_core.specs.declared.signal.client.ClientSignal.TheVariants.{TcRollbackRep, TcWaitConf, DumpReq}
use Rattle.sig_core.specs.declared.signal.host.HostSignal.TheVariants.{Round}
use Rattle.sig_core.specs.Place.{coordinator_of}
use Rattle.sig_core.specs.Step.{Effects, Step, to_place}
use Rattle.api_block.specs.declared.members.News.{News}
use Rattle.api_block.specs.declared.members.News.TheVariants as news
use Rattle.api_block.specs.declared.opened.Doing.TheVariants.{Beginning, Ready, Operating, Committing}
use Rattle.api_block.specs.declared.opened.OpenTransaction.{OpenTransaction}
use Rattle.api_block.specs.Api.{api_table}
use Rattle.api_block.specs.Dump.{dump_replies, row_reply}
use Rattle.api_block.specs.Gathered.{gathered}
use Rattle.api_block.specs.Members.{everyone, telling_all}
use Rattle.api_block.specs.Opened.{answered, behind, begins, begins_at, begun, begun_operating, has_tx}
use Rattle.api_block.specs.State.{ApiState}
use Rattle.node_core.specs.Requests.{is_request}
use Rattle.api_block.proofs.ApiTurns.{ApiSignalForms, signal_turns}
use Rattle.run_theory.proofs.Focus.{IsFocus}
use Rattle.host_laws.proofs.hosts.SendKinds.{are_of}

-- what is sent with no transaction in view
abbrev pub is_news_kind : Body → Bool
is_news_kind (Client (TcCommitAck tx)) = true
is_news_kind (Client (DumpReq at)) = true
is_news_kind (Host Round) = true
is_news_kind _ = false

-- the transaction whose end a signal reports, and its outcome
abbrev pub outcome_in : Body → Option (TxId × Outcome)
outcome_in (Client (TcCommitConf tx epoch)) = Some (tx, outcome.Committed epoch)
outcome_in (Client (TcRollbackRep tx cause)) = Some (tx, outcome.Aborted cause)
outcome_in _ = None

-- one of the transactions
pub record IsOneOf (opened : List OpenTransaction) : Type 0 where
  pub t : OpenTransaction
  pub front : List OpenTransaction
  pub back : List OpenTransaction
  pub is : opened ≡ front ++ t ∷ back

-- it becomes another one
abbrev pub BecomesIn : {opened : List OpenTransaction} → IsOneOf opened → OpenTransaction → List OpenTransaction
    → Type 0
BecomesIn one u after = after ≡ one.front ++ u ∷ one.back

-- how a transaction that has begun goes on: the client is told, or it performs its operation
pub data GoesOnAs (s : ApiState) (tx : TxId) (t u : OpenTransaction) (step : Step ApiState) : Type 0 where
  told : (name : ℕ) → t.name ≡ Some name → u ≡ begun t tx → step.state.replies ≡ s.replies ++ Begun name tx.tc ∷ []
      → step.effects.sends ≡ [] → GoesOnAs s tx t u step
  alone : (op : Op) → t.name ≡ None → t.doing ≡ Beginning (Some op) → u ≡ begun_operating t tx
      → step.state.replies ≡ s.replies
      → step.effects.sends ≡ to_place (coordinator_of tx) (Client (TcKeyReq tx op)) ∷ [] → GoesOnAs s tx t u step
  idle : u ≡ begun t tx → step.state.replies ≡ s.replies → step.effects.sends ≡ [] → GoesOnAs s tx t u step

-- a reply that tells of rows
abbrev pub is_row_reply : ApiReply → Bool
is_row_reply (Row key value) = true
is_row_reply (Rows node count) = true
is_row_reply (Digest node digest) = true
is_row_reply reply = false

-- replies that tell of rows stand behind those before
pub record AddsRows (s : ApiState) (step : Step ApiState) : Type 0 where
  pub more : List ApiReply
  pub is : step.state.replies ≡ s.replies ++ more
  pub rows : Each (λ (r : ApiReply). is_row_reply r ≡ true) more

-- what a signal that isn't a request does to the transactions, with what is replied, sent and marked
pub data ApiChange (s : ApiState) (body : Body) (step : Step ApiState) : Type 0 where
  rests : step.state.opened ≡ s.opened → AddsRows s step → are_of is_news_kind step.effects.sends ≡ true
      → ApiChange s body step
  waits : (tx ahead : TxId) (one : IsOneOf s.opened) → body ≡ Client (TcWaitConf tx ahead)
      → BecomesIn one (behind one.t (Some ahead)) step.state.opened
      → step.state.replies ≡ s.replies → step.effects.sends ≡ [] → ApiChange s body step
  answers : (tx : TxId) (answer : Answer) (name : ℕ) (one : IsOneOf s.opened) → body ≡ Client (TcKeyConf tx answer)
      → has_tx tx one.t ≡ true → one.t.doing ≡ Operating → one.t.name ≡ Some name
      → BecomesIn one (answered one.t Ready) step.state.opened
      → step.state.replies ≡ s.replies ++ Answered (Some name) answer ∷ [] → step.effects.sends ≡ []
      → ApiChange s body step
  commits : (tx : TxId) (answer : Answer) (one : IsOneOf s.opened) → body ≡ Client (TcKeyConf tx answer)
      → has_tx tx one.t ≡ true → one.t.doing ≡ Operating → one.t.name ≡ None
      → BecomesIn one (answered one.t Committing) step.state.opened
      → step.state.replies ≡ s.replies ++ Answered None answer ∷ []
      → step.effects.sends ≡ to_place (coordinator_of tx) (Client (TcCommitReq tx)) ∷ [] → ApiChange s body step
  ends : (tx : TxId) (end : Outcome) (one : IsOneOf s.opened) → outcome_in body ≡ Some (tx, end)
      → has_tx tx one.t ≡ true
      → step.state.opened ≡ one.front ++ one.back → step.state.replies ≡ s.replies ++ Ended one.t.name end ∷ []
      → step.effects.marks ≡ Reported tx end ∷ []
      → are_of is_news_kind step.effects.sends ≡ true → ApiChange s body step
  starts : (name : Option ℕ) (tx : TxId) (one : IsOneOf s.opened) (u : OpenTransaction)
      → body ≡ Client (TcBeginConf name tx) → begins_at name tx.tc one.t ≡ true
      → BecomesIn one u step.state.opened → GoesOnAs s tx one.t u step → ApiChange s body step
  refuses : (name : Option ℕ) (one : IsOneOf s.opened) → body ≡ Client (TcBeginRef name) → begins name one.t ≡ true
      → step.state.opened ≡ one.front ++ one.back → step.state.replies ≡ s.replies ++ Refused name TooManyOpen ∷ []
      → step.effects.sends ≡ [] → ApiChange s body step

telling_news : (what : News) (members : List Member) → are_of is_news_kind (telling_all what members) ≡ true
telling_news what [] = refl
telling_news news.Round (member ∷ members) = telling_news news.Round members
telling_news (news.Committed tx) (member ∷ members) = telling_news (news.Committed tx) members

abbrev one_of : {p : OpenTransaction → Bool} {opened : List OpenTransaction} {at : ℕ} → IsFocus p opened at
    → IsOneOf opened
one_of f = record { t = f.item; front = f.front; back = f.back; is = f.is }

rows_told : (node : ℕ) (digest : Bool) (rows : List (List ℕ × List ℕ))
    → Each (λ (r : ApiReply). is_row_reply r ≡ true) (dump_replies node digest rows)
unfolding dump_replies
rows_told node true rows = (refl, tt)
rows_told node false rows =
    each_append (λ (r : ApiReply). is_row_reply r ≡ true) (map row_reply rows) _
    (each_mapped (λ (r : ApiReply). is_row_reply r ≡ true) row_reply rows (λ line. refl)) (refl, tt)

-- no reply is added
none_added : (s : ApiState) {t : ApiState} {effects : Effects} → t.replies ≡ s.replies
    → AddsRows s (record { state = t; effects = effects })
none_added s same = record { more = []; is = same ∙ sym (append-nil s.replies); rows = tt }

at_signal : (s : ApiState) (body : Body) → ApiSignalForms s body (ApiChange s body)
at_signal s body = record {
  begins_named = λ name tx at f called is e.
      starts name tx (one_of f) (begun f.item tx) is f.passes (f.set _) (told called e refl refl refl);
  begins_alone = λ name tx at f op is e d.
      starts name tx (one_of f) (begun_operating f.item tx) is f.passes (f.set _) (alone op e d refl refl refl);
  begins_idle = λ name tx at f is.
      starts name tx (one_of f) (begun f.item tx) is f.passes (f.set _) (idle refl refl refl);
  refuses = λ name at f is. refuses name (one_of f) is f.passes f.removed refl refl;
  answers = λ tx answer at f name is d e. answers tx answer name (one_of f) is f.passes d e (f.set _) refl refl;
  answers_last = λ tx answer at f is d e. commits tx answer (one_of f) is f.passes d e (f.set _) refl refl;
  answers_none = λ tx answer at f is other. rests refl (none_added s refl) refl;
  commits = λ tx epoch at f is.
      ends tx (outcome.Committed epoch) (one_of f) (ap outcome_in is) f.passes f.removed refl refl
      (telling_news (news.Committed tx) (everyone s.view));
  acknowledges = λ tx epoch is none.
      rests refl (none_added s refl) (telling_news (news.Committed tx) (everyone s.view));
  aborts = λ tx cause at f is.
      ends tx (outcome.Aborted cause) (one_of f) (ap outcome_in is) f.passes f.removed refl refl refl;
  waits = λ tx ahead at f is. waits tx ahead (one_of f) is (f.set _) refl refl;
  dumps = λ d rows next at is. rests refl (none_added s refl) refl;
  dumped = λ d rows next is.
      let lines = dump_replies d.node d.digest (gathered d.rows rows) in
      rests refl (record { more = lines; is = refl; rows = rows_told d.node d.digest (gathered d.rows rows) }) refl;
  rests = λ void stray. rests refl (none_added s refl) refl;
}

pub api_changes : (s : ApiState) (body : Body) → is_request body ≡ false → ApiChange s body (api_table s body)
api_changes s body = signal_turns s body (ApiChange s body) (at_signal s body)
