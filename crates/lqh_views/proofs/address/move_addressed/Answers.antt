use Rattle.std.proofs.Common.{rules, ◌≡◌, ◌-◌, ◌++◌, [], ◌∷◌, length, ap, sym, ◌∙◌, arith}
use Rattle.std.proofs.lemmas.List.{length-append}
use Rattle.lqh_views.specs.Address.{addressed_behind, next_of}
use Rattle.lqh_views.proofs.AddressLemmas.{one-moved}
use Rattle.lqh_views.proofs.address.move_addressed.Goals as goal

-- the first of those that are left is moved
pub loop-send-preserved : goal.loop-send-preserved
loop-send-preserved c =
    let view = c.args.view.now in
    let passed = c.loop-send.passed in
    let moved = c.loop-send.to.sends in
    let send = c.in-Some.send in
    let left = c.take_send.new.self.sends in
    let comes : c.loop-send.from.sends ≡ send ∷ left = search rules in
    let told : c.send.new.self.sends ≡ moved ++ (next_of view passed send ∷ []) = search rules in
    let fewer : c.saturating_sub-passed.result ≡ passed - 1 = search rules in
    let all = ap (λ sends. moved ++ addressed_behind view passed sends) (sym comes) ∙ c.loop-send.invariant.all in
    let longer = ap length told ∙ length-append moved (next_of view passed send ∷ []) in
    let first = ap length comes in
    record {
      all = rw (told, fewer) (one-moved view passed send moved left ∙ all);
      many = omega (arith, longer, first, c.loop-send.invariant.many);
      marks = search rules;
      from_marks = search rules;
    }
