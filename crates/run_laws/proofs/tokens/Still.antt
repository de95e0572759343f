-- Only an operation that is asked for sends a part of one: the other turns of a transaction are still.
use Rattle.std.proofs.Common.{◌≡◌, ℕ, List, Bool, true, false, refl}
use Rattle.std.specs.List.{flat_map}
use Rattle.run_theory.proofs.Pasts.{each_append}
use Rattle.run_theory.specs.Lists.{Each}
use Rattle.sig_core.specs.declared.member.TxId.{TxId}
use Rattle.sig_core.specs.declared.op.Op.{Op}
use Rattle.sig_core.specs.declared.outs.Outgoing.{Outgoing}
use Rattle.sig_core.specs.declared.signal.Body.{Body}
use Rattle.sig_core.specs.declared.signal.Body.TheVariants.{Client, Chain}
use Rattle.sig_core.specs.declared.signal.client.ClientSignal.TheVariants.{TcKeyReq}
use Rattle.frag_map.specs.Layout.{Layout, chain_of}
use Rattle.tc_block.specs.declared.phase.Phase.{Phase}
use Rattle.tc_block.specs.declared.phase.Phase.TheVariants.{Open, Verifying, Committing, Completing, Aborting}
use Rattle.tc_block.specs.declared.touched.Touched.{Touched}
use Rattle.tc_block.specs.declared.transaction.Transaction.{Transaction}
use Rattle.tc_block.specs.Sends.{abort_of, aborts_of, complete_if, front_sends, key_sends, phase_sends}
use Rattle.tc_block.specs.Turn.{Turn}
use Rattle.tc_block.specs.State.{TcState}
use Rattle.sig_core.specs.Same.{same_tx}
use Rattle.run_theory.proofs.EachSent.{each_flat, each_mapped}
use Rattle.api_block.specs.Api.{api_table}
use Rattle.api_block.specs.State.{ApiState}
use Rattle.node_core.specs.Dih.{DihState, dih_table}
use Rattle.tc_block.proofs.EachTurn.{TurnForms, rows_of}
use Rattle.tc_block.proofs.LiveKeeps.{SendsBeside, TurnKeeps, TurnsKeep, is_chain, turn_keeps}
use Rattle.run_theory.proofs.Tally.{tally_none}
use Rattle.host_laws.proofs.api.Moves.{is_api_kind}
use Rattle.host_laws.proofs.hosts.DihSends.{dih_kinds}
use Rattle.host_laws.proofs.hosts.SendKinds.{each_of, is_dih_kind}
use Rattle.run_laws.specs.Tokens.{is_token}
use Rattle.run_laws.proofs.tokens.Rows.{tokens_out}
use Rattle.run_laws.proofs.hosts.TxTurns.{OthersSend, turn_each}
use Rattle.run_laws.proofs.ways.Passed.{api_each}

-- none of these signals is a part of an operation
module _ (v : TxId) where
  abbrev pub AreStill : List Outgoing → Type 0
  AreStill sends = Each (λ (o : Outgoing). is_token v o.body ≡ false) sends

  pub still_out : (sends : List Outgoing) → AreStill sends → tokens_out v sends ≡ 0
  still_out sends all = tally_none (λ (o : Outgoing). is_token v o.body) sends all

  plain_still : (body : Body) → is_chain body ≡ false → is_token v body ≡ false
  plain_still (Chain c) is = absurd cc
  plain_still _ is = refl

  module _ (tx : TxId) where
    front_still : (phase : Phase) → AreStill (front_sends tx phase)
    unfolding front_sends
    front_still Open = tt
    front_still Verifying = tt
    front_still (Committing epoch awaited) = tt
    front_still (Completing epoch awaited) = (refl, tt)
    front_still (Aborting why verifying awaited) = tt

    complete_still : (t : Touched) (b : Bool) → AreStill (complete_if tx t b)
    complete_still t true = (refl, tt)
    complete_still t false = tt

    aborts_still : (layout : Layout) (key : List ℕ) → AreStill (aborts_of tx key (chain_of layout key))
    aborts_still layout key = each_mapped (λ (o : Outgoing). is_token v o.body ≡ false) (abort_of tx key)
        (chain_of layout key) (λ r. refl)

    key_still : (layout : Layout) (phase : Phase) (t : Touched) → AreStill (key_sends layout tx phase t)
    unfolding key_sends
    key_still layout Open t = tt
    key_still layout Verifying t = tt
    key_still layout (Committing epoch awaited) t = (refl, tt)
    key_still layout (Completing epoch awaited) t = complete_still t t.written
    key_still layout (Aborting why verifying awaited) t = aborts_still layout t.key

    phase_still : (layout : Layout) (phase : Phase) (touched : List Touched)
        → AreStill (phase_sends layout tx phase touched)
    unfolding phase_sends
    phase_still layout phase touched =
        each_append (λ (o : Outgoing). is_token v o.body ≡ false) (front_sends tx phase)
        (flat_map (key_sends layout tx phase) touched) (front_still phase)
        (each_flat (λ (o : Outgoing). is_token v o.body ≡ false) (key_sends layout tx phase) touched
        (key_still layout phase))

  abbrev pub AnyTransaction : Transaction → Type 0
  AnyTransaction t = Unit {0}

  keep_still : (layout : Layout) → TurnsKeep AnyTransaction (λ (o : Outgoing). is_token v o.body ≡ false) layout
  keep_still layout = record {
    phase = λ t phase fine. tt;
    unasked = λ t fine. tt;
    answered = λ t asked answer on fine. tt;
    sends = λ tx t phase fine. phase_still tx layout phase t.touched;
    aborts = λ tx key. aborts_still tx layout key;
    plain = λ o is. plain_still o.body is;
  }

  abbrev pub IsStill : Turn → Type 0
  IsStill turn = TurnKeeps AnyTransaction (λ (o : Outgoing). is_token v o.body ≡ false) turn

  -- only an operation that is asked for sends one
  pub turns_still : (tx : TxId) (node : ℕ) (layout : Layout) (t : Transaction) (body : Body)
      → ((op : Op) → body ≡ Client (TcKeyReq tx op) → same_tx tx v ≡ false) → TurnForms node layout tx t body IsStill
  turns_still tx node layout t body other =
      turn_keeps AnyTransaction (λ (o : Outgoing). is_token v o.body ≡ false) node layout
      (keep_still layout) tx t body tt
      (λ op is. record { state = tt; sends = (other op is, tt) })

-- the turns of other transactions send none of this one, nor does the coordinator beside them
pub others_still : (tx : TxId) (s : TcState) (body : Body)
    → OthersSend (λ (o : Outgoing). is_token tx o.body ≡ false) tx s body
others_still tx s body one off its t =
    (turn_each s.node s.layout one body t (IsStill tx)
    (rows_of s.node s.layout one t body (IsStill tx) (turns_still tx one s.node s.layout t body (λ op is. off)))
    its).sends

pub beside_still : (tx : TxId) (s : TcState) → SendsBeside (λ (o : Outgoing). is_token tx o.body ≡ false) s
beside_still tx s = record { full = λ name. (refl, tt); begins = λ name. (refl, tt); passes = λ one ahead. (refl, tt) }

dih_plain : (tx : TxId) (body : Body) → is_dih_kind body ≡ true → is_token tx body ≡ false
dih_plain tx (Chain c) is = cc
dih_plain tx _ is = refl

api_plain : (tx : TxId) (body : Body) → is_api_kind body ≡ true → is_token tx body ≡ false
api_plain tx (Chain c) is = cc
api_plain tx _ is = refl

-- the API and the block of epochs send none
pub api_still : (tx : TxId) (s : ApiState) (body : Body) → AreStill tx (api_table s body).effects.sends
api_still tx s body =
    api_each (λ (o : Outgoing). is_token tx o.body ≡ false) (λ o. api_plain tx o.body) (λ name at. refl) s body

pub dih_still : (tx : TxId) (s : DihState) (body : Body) → AreStill tx (dih_table s body).effects.sends
dih_still tx s body =
    each_of is_dih_kind (λ (o : Outgoing). is_token tx o.body ≡ false) (λ o. dih_plain tx o.body)
    (dih_table s body).effects.sends (dih_kinds s body)
