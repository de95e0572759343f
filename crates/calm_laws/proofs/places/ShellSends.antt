-- The API sends to the parts of nodes that have transactions and rows, and to nobody else; and it stops nobody.
use Rattle.std.proofs.Common.{◌≡◌, false, [], refl}
use Rattle.run_theory.specs.Lists.{Each}
use Rattle.sig_core.specs.declared.mark.Mark.{Mark}
use Rattle.sig_core.specs.declared.signal.Body.{Body}
use Rattle.api_block.specs.declared.opened.OpenTransaction.{OpenTransaction}
use Rattle.api_block.specs.Api.{api_table}
use Rattle.api_block.specs.State.{ApiState}
use Rattle.api_block.proofs.EachApi.{ApiEach, api_each, opened_any}
use Rattle.node_views.specs.Row.{is_stop}
use Rattle.world_views.specs.Machine.{stops_by}
use Rattle.calm_laws.specs.Steps.{IsPlainSend}
use Rattle.calm_laws.proofs.plain_steps.Rows.{none_stops}

-- a mark that tells of no stop
abbrev StopsNobody : Mark → Type 0
StopsNobody mark = is_stop mark ≡ false

module _ (s : ApiState) (body : Body) where
  each : ApiEach (λ (t : OpenTransaction). Unit {0}) (IsPlainSend 0) StopsNobody (api_table s body)
  each = api_each (λ (t : OpenTransaction). Unit {0}) (IsPlainSend 0) StopsNobody s body (record {
    asked = λ name node op. tt;
    changed = λ t u same own. tt;
    begun = λ name tx u is own. tt;
    begins = λ name node. record { place = refl; work = refl };
    operates = λ t tx op own is. record { place = refl; work = refl };
    commits = λ t tx own is. record { place = refl; work = refl };
    rolls_back = λ t tx own is. record { place = refl; work = refl };
    waits = λ t tx own is. record { place = refl; work = refl };
    ticks = λ node. record { place = refl; work = refl };
    acknowledges = λ tx epoch node is. record { place = refl; work = refl };
    dumps = λ node at. record { place = refl; work = refl };
    committed = λ tx epoch is. refl;
    aborted = λ tx why is. refl;
  }) (opened_any s.opened)

  -- whatever the API takes
  pub sends_plain : Each (IsPlainSend 0) (api_table s body).effects.sends
  sends_plain = each.sends

  pub marks_plain : stops_by (api_table s body).effects.marks ≡ false
  marks_plain = none_stops (api_table s body).effects.marks each.marks
