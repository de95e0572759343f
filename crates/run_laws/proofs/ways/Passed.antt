-- What the other blocks say of the way of a transaction: the rows of a node pass on what they took, and the API and the
-- block
-- of epochs say nothing.
use Rattle.std.proofs.Common.{◌≡◌, ℕ, List, true, sym, ap, subst}
use Rattle.std.specs.Prelude.{Option}
use Rattle.sig_core.specs.declared.outs.Outgoing.{Outgoing}
use Rattle.sig_core.specs.declared.signal.Body.{Body}
use Rattle.sig_core.specs.declared.signal.Body.TheVariants.{Client, Chain}
use Rattle.sig_core.specs.declared.signal.chain.ChainSignal.TheVariants.{Commit, Complete, Abort}
use Rattle.sig_core.specs.declared.signal.client.ClientSignal.TheVariants.{TcBeginReq, TcCommitConf, TcRollbackRep}
use Rattle.lqh_block.specs.Lqh.{lqh_table}
use Rattle.lqh_block.specs.State.{LqhState}
use Rattle.run_theory.specs.Lists.{Each}
use Rattle.host_laws.proofs.rows.Other.{is_own_kind, lqh_passes}
use Rattle.host_laws.specs.Ways.{Way, back, closes, forth, neither, way_of}
use Rattle.host_laws.proofs.api.Moves.{ApiMove, api_moves, begun_as, ends, goes, is_api_kind, opens, refuses, rests}
use Rattle.host_laws.proofs.hosts.DihSends.{dih_kinds}
use Rattle.host_laws.proofs.hosts.SendKinds.{each_of, is_dih_kind}
use Rattle.api_block.specs.Api.{api_table}
use Rattle.api_block.specs.declared.opened.OpenTransaction.{OpenTransaction}
use Rattle.api_block.specs.State.{ApiState}
use Rattle.node_core.specs.Dih.{DihState, dih_table}
use Rattle.sig_core.specs.declared.view.View.{View}
use Rattle.sig_core.specs.Place.{coordinator}
use Rattle.sig_core.specs.Step.{to_place}

-- what is passed on goes the way of what was taken
abbrev pub IsPassed : Way → Way → Type 0
IsPassed taken (forth tx) = taken ≡ forth tx
IsPassed taken (back tx) = ⊥
IsPassed taken (closes tx) = taken ≡ closes tx
IsPassed taken neither = Unit {0}

abbrev pub ArePassed : Way → List Outgoing → Type 0
ArePassed taken sends = Each (λ (o : Outgoing). IsPassed taken (way_of o.body)) sends

pub lqh_passed : (s : LqhState) (body : Body) → ArePassed (way_of body) (lqh_table s body).effects.sends
lqh_passed s body =
    lqh_passes (λ b. IsPassed (way_of body) (way_of b)) s body owns (λ tx key epoch chain at is. ap way_of is)
    (λ tx key chain at is. ap way_of is)
  where
    owns : (b : Body) → is_own_kind b ≡ true → IsPassed (way_of body) (way_of b)
    owns (Chain (Commit tx key epoch chain at)) is = absurd cc
    owns (Chain (Complete tx key chain at)) is = absurd cc
    owns (Chain (Abort tx key)) is = absurd cc
    owns (Client (TcCommitConf tx epoch)) is = absurd cc
    owns (Client (TcRollbackRep tx cause)) is = absurd cc
    owns _ is = tt

-- what the API sends
pub api_each : (P : Outgoing → Type 0) → ((o : Outgoing) → is_api_kind o.body ≡ true → P o)
    → ((name : Option ℕ) (node : ℕ) → P (to_place (coordinator node) (Client (TcBeginReq name))))
    → (s : ApiState) (body : Body) → Each P (api_table s body).effects.sends
api_each P kinds begins s body = by (api_table s body).effects.sends (api_moves s body)
  where
    by : {after : View × List OpenTransaction} (sends : List Outgoing) → ApiMove s body after sends → Each P sends
    by sends (rests is kind void) = each_of is_api_kind P kinds sends kind
    by sends (opens name node op new asks is sent) = subst (Each P) (sym sent) (begins name node, tt)
    by sends (begun_as name tx front t u rear about passes begun was is kind) = each_of is_api_kind P kinds sends kind
    by sends (goes front t u rear go void was is kind) = each_of is_api_kind P kinds sends kind
    by sends (ends tx front t rear about passes was is kind) = each_of is_api_kind P kinds sends kind
    by sends (refuses name front t rear about passes was is kind) = each_of is_api_kind P kinds sends kind

pub api_passed : (s : ApiState) (body : Body) → ArePassed (way_of body) (api_table s body).effects.sends
api_passed s body = api_each (λ (o : Outgoing). IsPassed (way_of body) (way_of o.body)) (λ o is. plain o.body is)
    (λ name node. tt) s body
  where
    plain : (b : Body) → is_api_kind b ≡ true → IsPassed (way_of body) (way_of b)
    plain (Chain (Commit tx key epoch chain at)) is = absurd cc
    plain (Chain (Complete tx key chain at)) is = absurd cc
    plain (Chain (Abort tx key)) is = absurd cc
    plain (Client (TcCommitConf tx epoch)) is = absurd cc
    plain (Client (TcRollbackRep tx cause)) is = absurd cc
    plain _ is = tt

pub dih_passed : (s : DihState) (body : Body) → ArePassed (way_of body) (dih_table s body).effects.sends
dih_passed s body = each_of is_dih_kind (λ (o : Outgoing). IsPassed (way_of body) (way_of o.body))
    (λ o is. plain o.body is) (dih_table s body).effects.sends (dih_kinds s body)
  where
    plain : (b : Body) → is_dih_kind b ≡ true → IsPassed (way_of body) (way_of b)
    plain (Chain (Commit tx key epoch chain at)) is = absurd cc
    plain (Chain (Complete tx key chain at)) is = absurd cc
    plain (Chain (Abort tx key)) is = absurd cc
    plain (Client (TcCommitConf tx epoch)) is = absurd cc
    plain (Client (TcRollbackRep tx cause)) is = absurd cc
    plain _ is = tt
