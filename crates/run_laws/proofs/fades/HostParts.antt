-- The API and the block of epochs commit and complete no rows.
use Rattle.std.proofs.Common.{◌≡◌, List, true, refl, sym, subst}
use Rattle.sig_core.specs.declared.member.TxId.{TxId}
use Rattle.sig_core.specs.declared.outs.Outgoing.{Outgoing}
use Rattle.sig_core.specs.declared.signal.Body.{Body}
use Rattle.sig_core.specs.declared.signal.Body.TheVariants.{Host, Client, Epoch}
use Rattle.sig_core.specs.declared.signal.client.ClientSignal.TheVariants.{TcKeyReq, TcCommitReq, TcRollbackReq}
use Rattle.sig_core.specs.declared.signal.client.ClientSignal.TheVariants.{TcWaitReq, TcCommitAck, DumpReq}
use Rattle.sig_core.specs.declared.signal.host.HostSignal.TheVariants.{Round}
use Rattle.sig_core.specs.declared.view.View.{View}
use Rattle.api_block.specs.declared.opened.OpenTransaction.{OpenTransaction}
use Rattle.api_block.specs.Api.{api_table}
use Rattle.api_block.specs.State.{ApiState}
use Rattle.node_core.specs.Dih.{DihState, dih_table}
use Rattle.host_laws.proofs.api.Moves.{ApiMove, api_moves, begun_as, ends, goes, is_api_kind, opens, refuses, rests}
use Rattle.host_laws.proofs.hosts.DihSends.{dih_kinds}
use Rattle.host_laws.proofs.hosts.SendKinds.{are_of, is_dih_kind, of_kind}
use Rattle.run_laws.proofs.fades.RowsPass.{is_plain, plain_silent}
use Rattle.run_laws.proofs.hosts.TcOwn.{AreSilent}

api_plain : (body : Body) → is_api_kind body ≡ true → is_plain body ≡ true
api_plain (Client (TcKeyReq tx op)) e = refl
api_plain (Client (TcCommitReq tx)) e = refl
api_plain (Client (TcRollbackReq tx)) e = refl
api_plain (Client (TcWaitReq tx)) e = refl
api_plain (Client (TcCommitAck tx)) e = refl
api_plain (Client (DumpReq at)) e = refl
api_plain (Host Round) e = refl
api_plain _ e = cc

dih_plain : (body : Body) → is_dih_kind body ≡ true → is_plain body ≡ true
dih_plain (Epoch x) e = refl
dih_plain _ e = cc

module _ (tx : TxId) where
  kind_silent : (sends : List Outgoing) → are_of is_api_kind sends ≡ true → AreSilent tx sends
  kind_silent sends kind = plain_silent tx sends (of_kind is_api_kind is_plain api_plain sends kind)

  move_silent : (s : ApiState) (body : Body) (after : View × List OpenTransaction) (sends : List Outgoing)
      → ApiMove s body after sends → AreSilent tx sends
  move_silent s body after sends (rests is kind void) = kind_silent sends kind
  move_silent s body after sends (opens other at op new request is told) = subst (AreSilent tx) (sym told) (refl, tt)
  move_silent s body after sends (begun_as other one front t u back about passes begun was is kind) =
      kind_silent sends kind
  move_silent s body after sends (goes front t u back go void was is kind) = kind_silent sends kind
  move_silent s body after sends (ends one front t back about passes was is kind) = kind_silent sends kind
  move_silent s body after sends (refuses other front t back about passes was is kind) = kind_silent sends kind

  pub api_silent : (s : ApiState) (body : Body) → AreSilent tx (api_table s body).effects.sends
  api_silent s body = move_silent s body _ _ (api_moves s body)

  pub dih_silent : (s : DihState) (body : Body) → AreSilent tx (dih_table s body).effects.sends
  dih_silent s body = plain_silent tx (dih_table s body).effects.sends
      (of_kind is_dih_kind is_plain dih_plain (dih_table s body).effects.sends (dih_kinds s body))
