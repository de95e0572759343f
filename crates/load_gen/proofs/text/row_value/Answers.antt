use Rattle.std.proofs.Common.{◌≡◌, ◌≤◌, ◌<◌, ◌%◌, length, rules, arith, subst, sym}
use Rattle.load_gen.specs.Wave.{row_value}
use Rattle.load_gen.proofs.Texts.{value_short}
use Rattle.load_gen.proofs.text.row_value.Goals as goal

pub value_of-requires-clause-most : goal.value_of-requires-clause-most
value_of-requires-clause-most c =
    let is : c.as_bytes.result.now ≡ row_value c.args.draw = search rules in
    let below : c.args.draw % 1000000000 < 1000000000 = omega arith in
    subst (λ word. length word ≤ 200) (sym is) (value_short (c.args.draw % 1000000000) below)
