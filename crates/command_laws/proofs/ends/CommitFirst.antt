-- The step that asks for the commit of a transaction that takes commands.
use Rattle.std.proofs.Common.{◌≡◌, ℕ, false, ◌∷◌, ◌++◌, refl, sym, ap, ◌∙◌, subst}
use Rattle.std.specs.Prelude.{Some}
use Rattle.run_theory.specs.Lists.{IsIn}
use Rattle.sig_core.specs.declared.member.TxId.{TxId}
use Rattle.sig_core.specs.declared.reply.Refusal.TheVariants.{NotOpen}
use Rattle.sig_core.specs.declared.request.ApiReq.TheVariants as request
use Rattle.sig_core.specs.declared.signal.Body.TheVariants.{Client}
use Rattle.sig_core.specs.declared.signal.client.ClientSignal.TheVariants.{TcCommitReq}
use Rattle.sig_core.specs.Place.{coordinator_of}
use Rattle.sig_core.specs.Step.{Step, sending}
use Rattle.api_block.specs.Api.{request_row}
use Rattle.api_block.specs.Commands.{commit_by, commit_row}
use Rattle.api_block.specs.declared.opened.Doing.{Doing}
use Rattle.api_block.specs.declared.opened.Doing.TheVariants.{Ready, Committing}
use Rattle.api_block.specs.declared.opened.OpenTransaction.{OpenTransaction}
use Rattle.api_block.specs.Opened.{committing, if_there, is_beginning, where_at}
use Rattle.api_block.specs.State.{ApiState, about, changing, refused}
use Rattle.host_laws.proofs.api.Begins.{each_changed, in_middle}
use Rattle.host_laws.proofs.api.Wishes.{sends_of}
use Rattle.command_laws.proofs.hosts.Entries.{HasOne, IsNamed, NoneBegins, named_found}
use Rattle.command_laws.proofs.ends.FirmHosts.{is_push_to}
use Rattle.command_laws.specs.Served.{named_in}

module _ (s : ApiState) (name : ℕ) (t : OpenTransaction) (tx : TxId) (ready : t.doing ≡ Ready) (own : t.tx ≡ Some tx)
  where
    -- the row where the name is found
    pub commit_found : (f : IsNamed s.opened name t)
        → commit_row s name ≡ sending (about (changing s f.at (committing t)) (Some f.at)) (coordinator_of tx)
        (Client (TcCommitReq tx))
    unfolding commit_row
    commit_found f =
        ap (where_at s.opened (refused s (Some name) NotOpen) (λ at (u : OpenTransaction). commit_by s name at u u.doing
        u.tx)) f.place
        ∙ ap (if_there (refused s (Some name) NotOpen) (λ (u : OpenTransaction). commit_by s name f.at u u.doing u.tx))
        f.get
        ∙ ap (λ (d : Doing). commit_by s name f.at t d t.tx) ready ∙ ap (commit_by s name f.at t Ready) own

-- after it the transaction is committing, none begins, and nothing else is asked for
pub record IsAsked (tx : TxId) (name : ℕ) (step : Step ApiState) : Type 0 where
  pub has : HasOne tx (Some name) Committing step.state.opened
  pub calm : NoneBegins step.state.opened
  pub pushes : sends_of (is_push_to tx) step.effects.sends ≡ 0

pub commit_first : (s : ApiState) (name : ℕ) (t : OpenTransaction) (tx : TxId) → named_in s.opened name ≡ Some t
    → t.doing ≡ Ready → t.tx ≡ Some tx → NoneBegins s.opened
    → IsAsked tx name (request_row s (request.Commit name))
unfolding request_row
commit_first s name t tx is ready own calm = record {
  has = record {
    item = committing t;
    inside = subst (IsIn (committing t)) (sym opened) (in_middle f.focus.front (committing t) f.focus.back);
    own = own;
    called = f.called;
    does = refl;
  };
  calm = subst NoneBegins (sym opened)
      (each_changed (λ (u : OpenTransaction). is_beginning u.doing ≡ false) f.focus.front f.focus.item (committing t)
      f.focus.back s.opened f.focus.is calm (λ before. refl));
  pushes = ap (λ (step : Step ApiState). sends_of (is_push_to tx) step.effects.sends)
      (commit_found s name t tx ready own f);
}
  where
    f : IsNamed s.opened name t
    f = named_found s.opened name t is

    opened : (commit_row s name).state.opened ≡ f.focus.front ++ committing t ∷ f.focus.back
    opened = ap (λ (step : Step ApiState). step.state.opened) (commit_found s name t tx ready own f)
        ∙ f.focus.set (committing t)
