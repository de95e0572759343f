-- What holds of each form of signal and mark of the API, and of each transaction that it has opened, holds of each of
-- its steps.
use Rattle.std.proofs.Common.{◌≡◌, ℕ, List, [], ◌∷◌, Bool, true, false, refl, ap}
use Rattle.std.specs.Prelude.{◌==◌, Option, None, Some, remove, slice_set}
use Rattle.run_theory.specs.Lists.{Each}
use Rattle.run_theory.proofs.EachSent.{each_get, each_mapped, each_removed, each_set}
use Rattle.run_theory.proofs.Focus.{IsFocus}
use Rattle.run_theory.proofs.Pasts.{each_append}
use Rattle.sig_core.specs.declared.mark.Mark.{Mark}
use Rattle.sig_core.specs.declared.mark.Mark.TheVariants.{Reported}
use Rattle.sig_core.specs.declared.member.TxId.{TxId}
use Rattle.sig_core.specs.declared.op.Op.{Op}
use Rattle.sig_core.specs.declared.outcome.AbortCause.{AbortCause}
use Rattle.sig_core.specs.declared.outcome.Outcome.TheVariants as outcome
use Rattle.sig_core.specs.declared.outs.Outgoing.{Outgoing}
use Rattle.sig_core.specs.declared.request.ApiReq.{ApiReq}
use Rattle.sig_core.specs.declared.signal.Body.{Body}
use Rattle.sig_core.specs.declared.signal.Body.TheVariants.{Host, Client}
use Rattle.sig_core.specs.declared.signal.client.ClientSignal.TheVariants.{TcBeginReq, TcKeyReq, TcCommitReq}
use Rattle.sig_core.specs.declared.signal.client.ClientSignal.TheVariants.{TcRollbackReq, TcWaitReq, TcCommitAck}
use Rattle.sig_core.specs.declared.signal.client.ClientSignal.TheVariants.{DumpReq}
use Rattle.sig_core.specs.declared.signal.client.ClientSignal.TheVariants.{TcBeginConf, TcCommitConf, TcRollbackRep}
use Rattle.sig_core.specs.declared.signal.host.HostSignal.TheVariants.{Round}
use Rattle.sig_core.specs.Place.{coordinator, coordinator_of, rows_of}
use Rattle.sig_core.specs.Step.{Step, stay, to_place}
use Rattle.sig_core.proofs.TxLemmas.{same_tx-is}
use Rattle.api_block.specs.Api.{api_table}
use Rattle.api_block.specs.Commands.{beginning, ticked_if}
use Rattle.api_block.specs.declared.members.News.TheVariants as news
use Rattle.api_block.specs.declared.opened.Doing.TheVariants.{Ready, Committing}
use Rattle.api_block.specs.declared.opened.OpenTransaction.{OpenTransaction}
use Rattle.api_block.specs.Members.{everyone, telling, telling_all}
use Rattle.api_block.specs.Opened.{answered, asked_for, begun, begun_operating, behind, committing, is_tx, operating}
use Rattle.api_block.specs.State.{ApiState}
use Rattle.api_block.proofs.ApiTurns.{ApiRequestForms, ApiSignalForms, api_turns}

-- K is of each transaction that is opened, P of each signal that is sent, and M of each mark. A transaction that is
-- opened changes in all but its number, which it has once it has begun; and what is sent of one is of its number
pub record EachForms (K : OpenTransaction → Type 0) (P : Outgoing → Type 0) (M : Mark → Type 0)
    (body : Body) : Type 0 where
  pub asked : (name : Option ℕ) (node : ℕ) (op : Option Op) → K (asked_for name node op)
  pub changed : (t u : OpenTransaction) → u.tx ≡ t.tx → K t → K u
  pub begun : (name : Option ℕ) (tx : TxId) (u : OpenTransaction) → body ≡ Client (TcBeginConf name tx)
      → u.tx ≡ Some tx → K u
  pub begins : (name : Option ℕ) (node : ℕ) → P (to_place (coordinator node) (Client (TcBeginReq name)))
  pub operates : (t : OpenTransaction) (tx : TxId) (op : Op) → K t → t.tx ≡ Some tx
      → P (to_place (coordinator_of tx) (Client (TcKeyReq tx op)))
  pub commits : (t : OpenTransaction) (tx : TxId) → K t → t.tx ≡ Some tx
      → P (to_place (coordinator_of tx) (Client (TcCommitReq tx)))
  pub rolls_back : (t : OpenTransaction) (tx : TxId) → K t → t.tx ≡ Some tx
      → P (to_place (coordinator_of tx) (Client (TcRollbackReq tx)))
  pub waits : (t : OpenTransaction) (tx : TxId) → K t → t.tx ≡ Some tx
      → P (to_place (coordinator_of tx) (Client (TcWaitReq tx)))
  pub ticks : (node : ℕ) → P (to_place (rows_of node) (Host Round))
  pub acknowledges : (tx : TxId) (epoch node : ℕ) → body ≡ Client (TcCommitConf tx epoch)
      → P (to_place (rows_of node) (Client (TcCommitAck tx)))
  pub dumps : (node at : ℕ) → P (to_place (rows_of node) (Client (DumpReq at)))
  pub committed : (tx : TxId) (epoch : ℕ) → body ≡ Client (TcCommitConf tx epoch)
      → M (Reported tx (outcome.Committed epoch))
  pub aborted : (tx : TxId) (why : AbortCause) → body ≡ Client (TcRollbackRep tx why)
      → M (Reported tx (outcome.Aborted why))

pub record ApiEach (K : OpenTransaction → Type 0) (P : Outgoing → Type 0) (M : Mark → Type 0) (step : Step ApiState)
    : Type 0 where
  pub opened : Each K step.state.opened
  pub sends : Each P step.effects.sends
  pub marks : Each M step.effects.marks

module _ (K : OpenTransaction → Type 0) (P : Outgoing → Type 0) (M : Mark → Type 0) (s : ApiState) (body : Body)
    (forms : EachForms K P M body) (all : Each K s.opened) where
  abbrev Fine : Step ApiState → Type 0
  Fine step = ApiEach K P M step

  -- a transaction that is found
  own : {p : OpenTransaction → Bool} (at : ℕ) (f : IsFocus p s.opened at) → K f.item
  own at f = each_get K s.opened at f.item all f.get

  changed : {p : OpenTransaction → Bool} (at : ℕ) (f : IsFocus p s.opened at) (u : OpenTransaction) → u.tx ≡ f.item.tx
      → Each K (slice_set s.opened at u)
  changed at f u same = each_set K s.opened at u all (forms.changed f.item u same (own at f))

  begun_at : (name : Option ℕ) (tx : TxId) (at : ℕ) (u : OpenTransaction) → body ≡ Client (TcBeginConf name tx)
      → u.tx ≡ Some tx → Each K (slice_set s.opened at u)
  begun_at name tx at u is same = each_set K s.opened at u all (forms.begun name tx u is same)

  gone : (at : ℕ) → Each K (remove s.opened at)
  gone at = each_removed K s.opened at all

  plain : Fine (stay s)
  plain = record { opened = all; sends = tt; marks = tt }

  known : (tx : TxId) (o : Option TxId) → is_tx tx o ≡ true → o ≡ Some tx
  known tx None is = absurd cc
  known tx (Some begun) is = ap (λ v. Some v) (same_tx-is begun tx is)

  told : (tx : TxId) (epoch : ℕ) → body ≡ Client (TcCommitConf tx epoch)
      → Each P (telling_all (news.Committed tx) (everyone s.view))
  told tx epoch is = each_mapped P (telling (news.Committed tx)) (everyone s.view)
      (λ m. forms.acknowledges tx epoch m.node is)

  ticked : (of : ℕ) (last : Bool) → Each K (ticked_if s of last).opened
  ticked of true = all
  ticked of false = all

  opening : (name : Option ℕ) (node : ℕ) (op : Option Op) → Fine (beginning s name node op)
  opening name node op = record {
    opened = each_append K s.opened (asked_for name node op ∷ []) all (forms.asked name node op, tt);
    sends = (forms.begins name node, tt);
    marks = tt;
  }

  requested : (r : ApiReq) → ApiRequestForms s r Fine
  requested r = record {
    opens = λ name node at asked new. opening (Some name) node None;
    opens_alone = λ op node asked new. opening None node (Some op);
    refuses = λ name why asked kind. record { opened = all; sends = tt; marks = tt };
    operates = λ name op at f tx asked ready is low. record {
      opened = changed at f (operating f.item) refl;
      sends = (forms.operates f.item tx op (own at f) is, tt);
      marks = tt;
    };
    commits = λ name at f tx asked ready is. record {
      opened = changed at f (committing f.item) refl;
      sends = (forms.commits f.item tx (own at f) is, tt);
      marks = tt;
    };
    aborts = λ name at f tx asked is. record {
      opened = all;
      sends = (forms.rolls_back f.item tx (own at f) is, tt);
      marks = tt;
    };
    ticks = λ round of asked. record {
      opened = ticked of (round == of);
      sends = each_mapped P (telling news.Round) (everyone s.view) (λ m. forms.ticks m.node);
      marks = tt;
    };
    dumps = λ node digest asked. record { opened = all; sends = (forms.dumps node 0, tt); marks = tt };
    waits = λ p at f tx asked is. record {
      opened = changed at f (behind f.item None) refl;
      sends = (forms.waits f.item tx (own at f) is, tt);
      marks = tt;
    };
    pends = λ name holder asked. record { opened = all; sends = tt; marks = tt };
    gives_up = λ p at f holder tx asked alone is. record {
      opened = all;
      sends = (forms.rolls_back f.item tx (own at f) is, tt);
      marks = tt;
    };
    is_about_none = record { opened = all; sends = tt; marks = tt };
    rests = plain;
  }

  signalled : ApiSignalForms s body Fine
  signalled = record {
    begins_named = λ name tx at f called is named. record {
      opened = begun_at name tx at (begun f.item tx) is refl;
      sends = tt;
      marks = tt;
    };
    begins_alone = λ name tx at f op is alone doing. record {
      opened = begun_at name tx at (begun_operating f.item tx) is refl;
      sends = (forms.operates (begun_operating f.item tx) tx op (forms.begun name tx _ is refl) refl, tt);
      marks = tt;
    };
    begins_idle = λ name tx at f is. record {
      opened = begun_at name tx at (begun f.item tx) is refl;
      sends = tt;
      marks = tt;
    };
    refuses = λ name at f is. record { opened = gone at; sends = tt; marks = tt };
    answers = λ tx answer at f name is doing named. record {
      opened = changed at f (answered f.item Ready) refl;
      sends = tt;
      marks = tt;
    };
    answers_last = λ tx answer at f is doing alone. record {
      opened = changed at f (answered f.item Committing) refl;
      sends = (forms.commits f.item tx (own at f) (known tx f.item.tx f.passes), tt);
      marks = tt;
    };
    answers_none = λ tx answer at f is idle. plain;
    commits = λ tx epoch at f is. record {
      opened = gone at;
      sends = told tx epoch is;
      marks = (forms.committed tx epoch is, tt);
    };
    acknowledges = λ tx epoch is none. record { opened = all; sends = told tx epoch is; marks = tt };
    aborts = λ tx why at f is. record { opened = gone at; sends = tt; marks = (forms.aborted tx why is, tt) };
    waits = λ tx ahead at f is. record {
      opened = changed at f (behind f.item (Some ahead)) refl;
      sends = tt;
      marks = tt;
    };
    dumps = λ d rows next at is. record { opened = all; sends = (forms.dumps d.node at, tt); marks = tt };
    dumped = λ d rows next is. record { opened = all; sends = tt; marks = tt };
    rests = λ void stray. plain;
  }

-- whatever the API takes
pub api_each : (K : OpenTransaction → Type 0) (P : Outgoing → Type 0) (M : Mark → Type 0) (s : ApiState) (body : Body)
    → EachForms K P M body → Each K s.opened
    → ApiEach K P M (api_table s body)
api_each K P M s body forms all =
    api_turns s (λ taken step. ApiEach K P M step) body (λ r at. requested K P M s body forms all r)
    (signalled K P M s body forms all)

-- what asks nothing of a transaction holds of each that is opened
pub opened_any : (opened : List OpenTransaction) → Each (λ (t : OpenTransaction). Unit {0}) opened
opened_any [] = tt
opened_any (t ∷ more) = (tt, opened_any more)

-- what is marked, whatever is sent
pub api_marks_each : (M : Mark → Type 0) (s : ApiState) (body : Body)
    → ((tx : TxId) (epoch : ℕ) → body ≡ Client (TcCommitConf tx epoch) → M (Reported tx (outcome.Committed epoch)))
    → ((tx : TxId) (why : AbortCause) → body ≡ Client (TcRollbackRep tx why) → M (Reported tx (outcome.Aborted why)))
    → Each M (api_table s body).effects.marks
api_marks_each M s body committed aborted =
    (api_each (λ (t : OpenTransaction). Unit {0}) (λ (o : Outgoing). Unit {0}) M s body (record {
      asked = λ name node op. tt;
      changed = λ t u same own. tt;
      begun = λ name tx u is own. tt;
      begins = λ name node. tt;
      operates = λ t tx op own is. tt;
      commits = λ t tx own is. tt;
      rolls_back = λ t tx own is. tt;
      waits = λ t tx own is. tt;
      ticks = λ node. tt;
      acknowledges = λ tx epoch node is. tt;
      dumps = λ node at. tt;
      committed = committed;
      aborted = aborted;
    }) (opened_any s.opened)).marks
