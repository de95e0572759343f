-- What holds of each form of signal and mark of the API holds of all that a step of it sends and marks.
use Rattle.std.proofs.Common.{◌≡◌, ℕ, ap, true, refl}
use Rattle.std.specs.Prelude.{Bool, Option, None, Some}
use Rattle.run_theory.specs.Lists.{Each}
use Rattle.run_theory.proofs.EachSent.{each_mapped}
use Rattle.run_theory.proofs.Focus.{IsFocus}
use Rattle.sig_core.specs.declared.mark.Mark.{Mark}
use Rattle.sig_core.specs.declared.mark.Mark.TheVariants.{Reported}
use Rattle.sig_core.specs.declared.member.TxId.{TxId}
use Rattle.sig_core.specs.declared.op.Op.{Op}
use Rattle.sig_core.specs.declared.outcome.AbortCause.{AbortCause}
use Rattle.sig_core.specs.declared.outcome.Outcome.TheVariants as outcome
use Rattle.sig_core.specs.declared.outs.Outgoing.{Outgoing}
use Rattle.sig_core.specs.declared.request.ApiReq.{ApiReq}
use Rattle.sig_core.specs.declared.signal.Body.{Body}
use Rattle.sig_core.specs.declared.signal.Body.TheVariants.{Host, Client}
use Rattle.sig_core.specs.declared.signal.Signal.{Signal}
use Rattle.sig_core.specs.declared.signal.client.ClientSignal.TheVariants.{DumpReq, TcBeginConf, TcBeginReq}
use Rattle.sig_core.specs.declared.signal.client.ClientSignal.TheVariants.{TcCommitAck, TcCommitConf, TcCommitReq}
use Rattle.sig_core.specs.declared.signal.client.ClientSignal.TheVariants.{TcKeyReq}
use Rattle.sig_core.specs.declared.signal.client.ClientSignal.TheVariants.{TcRollbackRep, TcRollbackReq, TcWaitReq}
use Rattle.sig_core.specs.declared.signal.host.HostSignal.TheVariants.{Round}
use Rattle.sig_core.specs.Place.{coordinator, coordinator_of, rows_of}
use Rattle.sig_core.specs.Step.{to_place}
use Rattle.sig_core.proofs.TxLemmas.{same_tx-is}
use Rattle.step_forms.specs.Does.{Does, IsAmong, IsWord}
use Rattle.api_block.specs.Api.{api_row}
use Rattle.api_block.specs.declared.members.News.TheVariants as news
use Rattle.api_block.specs.declared.opened.OpenTransaction.{OpenTransaction}
use Rattle.api_block.specs.Members.{everyone, telling, telling_all}
use Rattle.api_block.specs.Opened.{is_tx}
use Rattle.api_block.specs.State.{ApiState}
use Rattle.api_block.specs.Words.{ApiKeepsToItsWords, is_api_mark, is_api_word}
use Rattle.api_block.proofs.ApiTurns.{ApiRequestForms, ApiSignalForms, api_turns}

-- P is of each signal that is sent, M of each mark that is made. But for one that begins only just, what is asked of a
-- transaction is asked of one that is open, and so an end is reported
pub record ApiForms (s : ApiState) (body : Body) (P : Outgoing → Type 0) (M : Mark → Type 0) : Type 0 where
  pub begins : (name : Option ℕ) (node : ℕ) → P (to_place (coordinator node) (Client (TcBeginReq name)))
  pub operates : (p : OpenTransaction → Bool) (at : ℕ) (f : IsFocus p s.opened at) (tx : TxId) (op : Op)
      → f.item.tx ≡ Some tx → P (to_place (coordinator_of tx) (Client (TcKeyReq tx op)))
  pub operates_begun : (name : Option ℕ) (tx : TxId) (op : Op) → body ≡ Client (TcBeginConf name tx)
      → P (to_place (coordinator_of tx) (Client (TcKeyReq tx op)))
  pub commits : (p : OpenTransaction → Bool) (at : ℕ) (f : IsFocus p s.opened at) (tx : TxId) → f.item.tx ≡ Some tx
      → P (to_place (coordinator_of tx) (Client (TcCommitReq tx)))
  pub rolls_back : (p : OpenTransaction → Bool) (at : ℕ) (f : IsFocus p s.opened at) (tx : TxId) → f.item.tx ≡ Some tx
      → P (to_place (coordinator_of tx) (Client (TcRollbackReq tx)))
  pub waits : (p : OpenTransaction → Bool) (at : ℕ) (f : IsFocus p s.opened at) (tx : TxId) → f.item.tx ≡ Some tx
      → P (to_place (coordinator_of tx) (Client (TcWaitReq tx)))
  pub ticks : (node : ℕ) → P (to_place (rows_of node) (Host Round))
  pub acknowledges : (tx : TxId) (epoch node : ℕ) → body ≡ Client (TcCommitConf tx epoch)
      → P (to_place (rows_of node) (Client (TcCommitAck tx)))
  pub dumps : (node at : ℕ) → P (to_place (rows_of node) (Client (DumpReq at)))
  pub committed : (p : OpenTransaction → Bool) (at : ℕ) (f : IsFocus p s.opened at) (tx : TxId) (epoch : ℕ)
      → f.item.tx ≡ Some tx → body ≡ Client (TcCommitConf tx epoch) → M (Reported tx (outcome.Committed epoch))
  pub aborted : (p : OpenTransaction → Bool) (at : ℕ) (f : IsFocus p s.opened at) (tx : TxId) (why : AbortCause)
      → f.item.tx ≡ Some tx → body ≡ Client (TcRollbackRep tx why) → M (Reported tx (outcome.Aborted why))

-- a transaction that is found by its number has it
pub own_is : (tx : TxId) (own : Option TxId) → is_tx tx own ≡ true → own ≡ Some tx
own_is tx None is = absurd cc
own_is tx (Some begun) is = ap (λ (u : TxId). Some u) (same_tx-is begun tx is)

module _ (s : ApiState) (body : Body) (P : Outgoing → Type 0) (M : Mark → Type 0) (forms : ApiForms s body P M) where
  acknowledged : (tx : TxId) (epoch : ℕ) → body ≡ Client (TcCommitConf tx epoch)
      → Each P (telling_all (news.Committed tx) (everyone s.view))
  acknowledged tx epoch is =
      each_mapped P (telling (news.Committed tx)) (everyone s.view) (λ m. forms.acknowledges tx epoch m.node is)

  -- at whatever request
  pub asked_does : (r : ApiReq) → ApiRequestForms s r (Does P M)
  asked_does r = record {
    opens = λ name node at is new. ((forms.begins (Some name) node, tt), tt);
    opens_alone = λ op node is new. ((forms.begins None node, tt), tt);
    refuses = λ name why is own. (tt, tt);
    operates = λ name op at f tx is ready own low. ((forms.operates _ at f tx op own, tt), tt);
    commits = λ name at f tx is ready own. ((forms.commits _ at f tx own, tt), tt);
    aborts = λ name at f tx is own. ((forms.rolls_back _ at f tx own, tt), tt);
    ticks = λ round of is.
        (each_mapped P (telling news.Round) (everyone s.view) (λ m. forms.ticks m.node), tt);
    dumps = λ node digest is. ((forms.dumps node 0, tt), tt);
    waits = λ p at f tx is own. ((forms.waits p at f tx own, tt), tt);
    pends = λ name holder is. (tt, tt);
    gives_up = λ p at f holder tx is alone own. ((forms.rolls_back p at f tx own, tt), tt);
    is_about_none = (tt, tt);
    rests = (tt, tt);
  }

  -- and at whatever signal
  pub told_does : ApiSignalForms s body (Does P M)
  told_does = record {
    begins_named = λ name tx at f called is e. (tt, tt);
    begins_alone = λ name tx at f op is e d. ((forms.operates_begun name tx op is, tt), tt);
    begins_idle = λ name tx at f is. (tt, tt);
    refuses = λ name at f is. (tt, tt);
    answers = λ tx answer at f name is d e. (tt, tt);
    answers_last = λ tx answer at f is d e. ((forms.commits _ at f tx (own_is tx f.item.tx f.passes), tt), tt);
    answers_none = λ tx answer at f is no. (tt, tt);
    commits = λ tx epoch at f is.
        (acknowledged tx epoch is, (forms.committed _ at f tx epoch (own_is tx f.item.tx f.passes) is, tt));
    acknowledges = λ tx epoch is none. (acknowledged tx epoch is, tt);
    aborts = λ tx why at f is. (tt, (forms.aborted _ at f tx why (own_is tx f.item.tx f.passes) is, tt));
    waits = λ tx ahead at f is. (tt, tt);
    dumps = λ d rows next at is. ((forms.dumps d.node at, tt), tt);
    dumped = λ d rows next is. (tt, tt);
    rests = λ void stray. (tt, tt);
  }

-- whatever the API takes
pub api_does : (s : ApiState) (x : Signal) (P : Outgoing → Type 0) (M : Mark → Type 0) → ApiForms s x.body P M
    → Does P M (api_row s x)
api_does s x P M forms =
    api_turns s (λ _. Does P M) x.body (λ r at. asked_does s x.body P M forms r) (told_does s x.body P M forms)

pub api_words : ApiKeepsToItsWords
api_words s x =
    api_does s x (IsWord is_api_word) (IsAmong is_api_mark) (record {
      begins = λ name node. refl;
      operates = λ p at f tx op own. refl;
      operates_begun = λ name tx op is. refl;
      commits = λ p at f tx own. refl;
      rolls_back = λ p at f tx own. refl;
      waits = λ p at f tx own. refl;
      ticks = λ node. refl;
      acknowledges = λ tx epoch node is. refl;
      dumps = λ node at. refl;
      committed = λ p at f tx epoch own is. refl;
      aborted = λ p at f tx why own is. refl;
    })
