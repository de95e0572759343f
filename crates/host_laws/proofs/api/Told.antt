-- What the API knows of its transactions: those that it asks to commit were told to have begun, and it reports the
-- commit of
-- those alone that it is told of.
use Rattle.std.proofs.Common.{◌≡◌, List, sym, ap, subst}
use Rattle.std.specs.Prelude.{Option, None, Some}
use Rattle.run_theory.specs.Lists.{Each}
use Rattle.sig_core.specs.declared.mark.Mark.{Mark}
use Rattle.sig_core.specs.declared.mark.Mark.TheVariants.{Applied, Reported}
use Rattle.sig_core.specs.declared.member.TxId.{TxId}
use Rattle.sig_core.specs.declared.outcome.Outcome.TheVariants as outcome
use Rattle.sig_core.specs.declared.outs.Outgoing.{Outgoing}
use Rattle.sig_core.specs.declared.signal.Body.{Body}
use Rattle.sig_core.specs.Step.{Step}
use Rattle.api_block.specs.Api.{api_table}
use Rattle.api_block.specs.declared.opened.OpenTransaction.{OpenTransaction}
use Rattle.api_block.specs.State.{ApiState}
use Rattle.host_laws.specs.Kinds.{Kind, kind_of}
use Rattle.host_laws.specs.Kinds as kind
use Rattle.api_block.proofs.EachApi.{ApiEach, api_each}

module _ (T : TxId → Type 0) where
  -- the transaction, once it is known, was told to have begun
  abbrev pub ToldOf : Option TxId → Type 0
  ToldOf None = Unit {0}
  ToldOf (Some tx) = T tx

  abbrev pub AreTold : List OpenTransaction → Type 0
  AreTold opened = Each (λ (t : OpenTransaction). ToldOf t.tx) opened

  abbrev pub ApiSays : Kind → Type 0
  ApiSays (kind.wanted tx) = T tx
  ApiSays kind.other = Unit {0}
  ApiSays _ = ⊥

-- it marks a commit as reported that it is told of, and never a row as applied
abbrev pub Reports : Kind → Mark → Type 0
Reports taken (Reported tx (outcome.Committed epoch)) = taken ≡ kind.ended tx
Reports taken (Applied tx key) = ⊥
Reports taken mark = Unit {0}

pub record ApiGoes (T : TxId → Type 0) (taken : Kind) (step : Step ApiState) : Type 0 where
  pub told : AreTold T step.state.opened
  pub says : Each (λ (o : Outgoing). ApiSays T (kind_of o.body)) step.effects.sends
  pub reports : Each (Reports taken) step.effects.marks

-- a signal that tells of a beginning tells the truth
abbrev pub TellsBegun : (TxId → Type 0) → Kind → Type 0
TellsBegun T (kind.begun tx) = T tx
TellsBegun T k = Unit {0}

pub api_goes : (T : TxId → Type 0) (s : ApiState) (body : Body) → AreTold T s.opened → TellsBegun T (kind_of body)
    → ApiGoes T (kind_of body) (api_table s body)
api_goes T s body told tells = record { told = each.opened; says = each.sends; reports = each.marks }
  where
    known : (t : OpenTransaction) (tx : TxId) → ToldOf T t.tx → t.tx ≡ Some tx → T tx
    known t tx own is = subst (ToldOf T) is own

    each : ApiEach (λ (t : OpenTransaction). ToldOf T t.tx) (λ (o : Outgoing). ApiSays T (kind_of o.body))
        (Reports (kind_of body)) (api_table s body)
    each =
        api_each (λ (t : OpenTransaction). ToldOf T t.tx) (λ (o : Outgoing). ApiSays T (kind_of o.body))
        (Reports (kind_of body)) s body (record {
          asked = λ name node op. tt;
          changed = λ t u same own. subst (ToldOf T) (sym same) own;
          begun = λ name tx u is own. subst (ToldOf T) (sym own) (subst (λ b. TellsBegun T (kind_of b)) is tells);
          begins = λ name node. tt;
          operates = λ t tx op own is. tt;
          commits = known;
          rolls_back = λ t tx own is. tt;
          waits = λ t tx own is. tt;
          ticks = λ node. tt;
          acknowledges = λ tx epoch node is. tt;
          dumps = λ node at. tt;
          committed = λ tx epoch is. ap kind_of is;
          aborted = λ tx why is. tt;
        }) told
