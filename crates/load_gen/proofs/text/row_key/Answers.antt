use Rattle.std.proofs.Common.{◌≡◌, ◌≤◌, length, rules, arith, subst, sym}
use Rattle.std.specs.Prelude.{None, position}
use Rattle.sig_core.specs.Word.{is_unprintable}
use Rattle.load_gen.specs.Wave.{row_key}
use Rattle.load_gen.proofs.Texts.{key_plain, key_short}
use Rattle.load_gen.proofs.text.row_key.Goals as goal

pub key_of-requires-clause-most : goal.key_of-requires-clause-most
key_of-requires-clause-most c =
    let is : c.as_bytes.result.now ≡ row_key c.args.transaction c.args.draw = search rules in
    subst (λ word. length word ≤ 32) (sym is) (key_short c.args.transaction c.args.draw (omega arith) (omega arith))

pub key_of-requires-clause-printable : goal.key_of-requires-clause-printable
key_of-requires-clause-printable c =
    let is : c.as_bytes.result.now ≡ row_key c.args.transaction c.args.draw = search rules in
    subst (λ word. position is_unprintable word ≡ None) (sym is)
    (key_plain c.args.transaction c.args.draw (omega arith) (omega arith))
