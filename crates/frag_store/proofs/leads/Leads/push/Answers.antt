use Rattle.frag_store.proofs.LeadLemmas.{led_some}
use Rattle.frag_store.proofs.leads.Leads.push.Goals as goal

-- what is left is of other keys
pub returns : goal.returns
returns c before after led elsewhere there =
    let others = c.shift.ensures after (c.forget.ensures before after led elsewhere) in
    record { last = led_some after c.args.lead there; second = others.second; third = others.third }
