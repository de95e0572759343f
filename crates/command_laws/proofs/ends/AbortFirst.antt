-- The request of an abort: the wish for it goes to the transaction's coordinator, and all that was asked for stays as
-- it is.
use Rattle.std.proofs.Common.{◌≡◌, ◌≤◌, ◌+◌, ℕ, Bool, true, false, sym, ap, ◌∙◌, subst, arith}
use Rattle.std.specs.Prelude.{◌==◌, ◌&&◌, None, Some}
use Rattle.run_theory.specs.Lists.{IsIn}
use Rattle.sig_core.proofs.Keys.{same_tx-self}
use Rattle.sig_core.specs.declared.member.TxId.{TxId}
use Rattle.sig_core.specs.declared.reply.Refusal.TheVariants.{NotOpen}
use Rattle.sig_core.specs.declared.request.ApiReq.TheVariants as request
use Rattle.sig_core.specs.declared.signal.Body.TheVariants.{Client}
use Rattle.sig_core.specs.declared.signal.client.ClientSignal.TheVariants.{TcRollbackReq}
use Rattle.sig_core.specs.Place.{coordinator_of}
use Rattle.sig_core.specs.Same.{same_tx}
use Rattle.sig_core.specs.Step.{Step, sending}
use Rattle.api_block.specs.Api.{request_row}
use Rattle.api_block.specs.Commands.{abort_by, abort_row}
use Rattle.api_block.specs.declared.opened.Doing.TheVariants.{Ready}
use Rattle.api_block.specs.declared.opened.OpenTransaction.{OpenTransaction}
use Rattle.api_block.specs.Opened.{if_there, where_at}
use Rattle.api_block.specs.State.{ApiState, about, refused}
use Rattle.world_core.specs.Hosts.{home}
use Rattle.world_core.specs.Start.{Start}
use Rattle.run_theory.specs.Counts.{one_if}
use Rattle.host_laws.proofs.api.Begins.{in_middle}
use Rattle.host_laws.proofs.hosts.LinkCounts.{to_host}
use Rattle.host_laws.proofs.coordinator.Sends.{eqb-self}
use Rattle.host_laws.proofs.api.Wishes.{sends_of}
use Rattle.command_laws.proofs.ends.AbortSteps.{is_more_to}
use Rattle.command_laws.proofs.hosts.Entries.{HasOne, IsNamed, named_found}
use Rattle.command_laws.proofs.operations.Asks.{AreNamed}
use Rattle.command_laws.specs.Served.{named_in}
use Rattle.command_laws.proofs.operations.TellsOnce.{is_wish_back_to}

-- the row where the name is found
pub abort_found : (s : ApiState) (name : ℕ) (t : OpenTransaction) (tx : TxId) → t.tx ≡ Some tx
    → (f : IsNamed s.opened name t)
    → abort_row s name ≡ sending (about s None) (coordinator_of tx) (Client (TcRollbackReq tx))
unfolding abort_row
abort_found s name t tx own f =
    ap (where_at s.opened (refused s (Some name) NotOpen) (λ at (u : OpenTransaction). abort_by s name u.tx)) f.place
    ∙ ap (if_there (refused s (Some name) NotOpen) (λ (u : OpenTransaction). abort_by s name u.tx)) f.get
    ∙ ap (abort_by s name) own

counts : (a b : Bool) → a ≡ true → b ≡ true → 1 ≤ one_if (a && b) + 0
counts true true p q = omega arith
counts true false p q = cc
counts false b p q = cc

-- after it the transaction takes commands as before, and the wish is sent
pub record IsAbortAsked (start : Start) (tx : TxId) (name : ℕ) (step : Step ApiState) : Type 0 where
  pub has : HasOne tx (Some name) Ready step.state.opened
  pub named : AreNamed tx step.state.opened
  pub more : sends_of (is_more_to tx) step.effects.sends ≡ 0
  pub rolls : 1 ≤ sends_of (to_host start (home start tx) (is_wish_back_to tx)) step.effects.sends

pub abort_first : (start : Start) (s : ApiState) (name : ℕ) (t : OpenTransaction) (tx : TxId)
    → named_in s.opened name ≡ Some t → t.doing ≡ Ready → t.tx ≡ Some tx → AreNamed tx s.opened
    → IsAbortAsked start tx name (request_row s (request.Abort name))
unfolding request_row
abort_first start s name t tx is ready own were = record {
  has = record {
    item = t;
    inside = subst (IsIn t) (sym opened) (subst (λ x. IsIn x s.opened) f.item
        (subst (IsIn f.focus.item) (sym f.focus.is) (in_middle f.focus.front f.focus.item f.focus.back)));
    own = own;
    called = f.called;
    does = ready;
  };
  named = subst (AreNamed tx) (sym opened) were;
  more = ap (λ (step : Step ApiState). sends_of (is_more_to tx) step.effects.sends) now;
  rolls = subst
      (λ (step : Step ApiState). 1 ≤ sends_of (to_host start (home start tx) (is_wish_back_to tx)) step.effects.sends)
      (sym now) (counts (home start tx == home start tx) (same_tx tx tx) (eqb-self (home start tx)) (same_tx-self tx));
}
  where
    f : IsNamed s.opened name t
    f = named_found s.opened name t is

    now : abort_row s name ≡ sending (about s None) (coordinator_of tx) (Client (TcRollbackReq tx))
    now = abort_found s name t tx own f

    opened : (abort_row s name).state.opened ≡ s.opened
    opened = ap (λ (step : Step ApiState). step.state.opened) now
