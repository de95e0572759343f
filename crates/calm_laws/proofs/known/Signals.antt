-- Signals that a host of the plain machine may send: they tell of known transactions alone. What the API and the block
-- of epochs send is so, if what they took is.
use Rattle.std.proofs.Common.{◌≡◌, Bool, true, false, List, refl, sym, subst}
use Rattle.std.specs.Prelude.{Option, None, Some}
use Rattle.run_theory.specs.Lists.{Each}
use Rattle.sig_core.specs.declared.mark.Mark.{Mark}
use Rattle.sig_core.specs.declared.member.TxId.{TxId}
use Rattle.sig_core.specs.declared.outs.Outgoing.{Outgoing}
use Rattle.sig_core.specs.declared.signal.Body.{Body}
use Rattle.sig_core.specs.declared.signal.Body.TheVariants.{Host, Client, Chain, Epoch}
use Rattle.sig_core.specs.declared.signal.client.ClientSignal.TheVariants.{TcKeyFailConf}
use Rattle.sig_core.specs.declared.signal.client.ClientSignal.TheVariants.{TcKeyFailRef}
use Rattle.sig_core.specs.declared.signal.epoch.EpochSignal.TheVariants.{DiVerifyReq, DiVerifyConf, DiVerifyEnd}
use Rattle.sig_core.specs.declared.signal.host.HostSignal.TheVariants.{Continue, Round}
use Rattle.sig_core.specs.declared.signal.host.Work.TheVariants.{Request}
use Rattle.api_block.specs.Api.{api_table}
use Rattle.api_block.specs.declared.opened.OpenTransaction.{OpenTransaction}
use Rattle.api_block.specs.State.{ApiState}
use Rattle.api_block.proofs.EachApi.{ApiEach, api_each}
use Rattle.node_core.specs.Dih.{DihState, dih_table}
use Rattle.node_core.specs.Requests.{is_request}
use Rattle.node_core.proofs.DihForms.{dih_forms}
use Rattle.world_core.specs.Start.{Start}
use Rattle.calm_laws.specs.Known.{IsOfFirst, txs_in}

-- the kinds of signals that hosts of the plain machine send
abbrev pub is_plain : Body → Bool
is_plain (Host Round) = true
is_plain (Host (Continue what at)) = true
is_plain (Client (TcKeyFailConf tx epoch)) = false
is_plain (Client (TcKeyFailRef tx)) = false
is_plain (Client signal) = true
is_plain (Chain signal) = true
is_plain (Epoch (DiVerifyReq tx ops)) = true
is_plain (Epoch (DiVerifyConf tx epoch)) = true
is_plain (Epoch (DiVerifyEnd tx)) = true
is_plain body = false

-- it is one of those, and tells of members that began the life
pub record IsKnown (start : Start) (body : Body) : Type 0 where
  pub txs : Each (IsOfFirst start) (txs_in body)
  pub plain : is_plain body ≡ true

abbrev pub AreKnown : Start → List Outgoing → Type 0
AreKnown start sends = Each (λ (o : Outgoing). IsKnown start o.body) sends

-- a transaction that the API has opened, as far as it knows its number
abbrev pub IsTold : Start → Option TxId → Type 0
IsTold start None = Unit {0}
IsTold start (Some tx) = IsOfFirst start tx

module _ (start : Start) where
  -- the shell's requests tell of none
  pub request_known : (body : Body) → is_request body ≡ true → IsKnown start body
  request_known (Host (Continue (Request request) at)) is = record { txs = tt; plain = refl }
  request_known _ is = absurd cc

  pub api_known : (s : ApiState) (body : Body) → IsKnown start body
      → Each (λ (t : OpenTransaction). IsTold start t.tx) s.opened
      → ApiEach (λ (t : OpenTransaction). IsTold start t.tx) (λ (o : Outgoing). IsKnown start o.body)
      (λ (m : Mark). Unit {0}) (api_table s body)
  api_known s body own all =
      api_each (λ (t : OpenTransaction). IsTold start t.tx) (λ (o : Outgoing). IsKnown start o.body)
      (λ (m : Mark). Unit {0}) s body (record {
        asked = λ name node op. tt;
        changed = λ t u same was. subst (IsTold start) (sym same) was;
        begun = λ name tx u is same. subst (IsTold start) (sym same) (taken is).txs.0;
        begins = λ name node. record { txs = tt; plain = refl };
        operates = λ t tx op was is. record { txs = (subst (IsTold start) is was, tt); plain = refl };
        commits = λ t tx was is. record { txs = (subst (IsTold start) is was, tt); plain = refl };
        rolls_back = λ t tx was is. record { txs = (subst (IsTold start) is was, tt); plain = refl };
        waits = λ t tx was is. record { txs = (subst (IsTold start) is was, tt); plain = refl };
        ticks = λ node. record { txs = tt; plain = refl };
        acknowledges = λ tx epoch node is. record { txs = ((taken is).txs.0, tt); plain = refl };
        dumps = λ node at. record { txs = tt; plain = refl };
        committed = λ tx epoch is. tt;
        aborted = λ tx why is. tt;
      }) all
    where
      taken : {other : Body} → body ≡ other → IsKnown start other
      taken is = subst (IsKnown start) is own

  pub dih_known : (s : DihState) (body : Body) → IsKnown start body → AreKnown start (dih_table s body).effects.sends
  dih_known s body =
      dih_forms (λ taken step. IsKnown start taken → AreKnown start step.effects.sends) s (record {
        decides = λ tx ops low own. (record { txs = (own.txs.0, tt); plain = refl }, tt);
        is_full = λ tx ops high own. tt;
        ends = λ tx at there own. tt;
        misses = λ tx none own. tt;
        rests = λ taken off own. tt;
      }) body
