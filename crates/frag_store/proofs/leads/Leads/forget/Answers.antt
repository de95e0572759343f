use Rattle.std.proofs.Common.{subst, sym}
use Rattle.frag_store.specs.Leads.{IsLed}
use Rattle.frag_store.proofs.LeadLemmas.{led_unless}
use Rattle.frag_store.proofs.leads.Leads.forget.Goals as goal

-- what is left is of other keys
pub returns : goal.returns
returns c before after led elsewhere =
    let old = c.args.self.now in
    let key = c.args.key.now in
    record {
      last = subst (IsLed after) (sym c.forget.ensures) (led_unless before after key old.last led.last elsewhere);
      second =
          subst (IsLed after) (sym c.forget-2.ensures)
          (led_unless before after key old.second led.second elsewhere);
      third =
          subst (IsLed after) (sym c.forget-3.ensures)
          (led_unless before after key old.third led.third elsewhere);
    }
