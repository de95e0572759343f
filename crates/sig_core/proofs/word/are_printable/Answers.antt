use Rattle.std.proofs.Common.{◌∙◌, ℕ, Bool, ap, sym}
use Rattle.std.specs.Prelude.{not}
use Rattle.std.specs.List.{list_all}
use Rattle.std.proofs.lemmas.List.{take_all}
use Rattle.sig_core.specs.Word.{is_unprintable}
use Rattle.sig_core.proofs.Firsts.{none_passes}
use Rattle.sig_core.proofs.word.are_printable.Goals as goal

pub returns : goal.returns
returns c =
    let test : ℕ → Bool = λ byte. not (is_unprintable byte) in
    λ good. none_passes is_unprintable c.args.bytes.now
    (ap (list_all test) (sym (take_all c.loop-byte.byte-index c.args.bytes.now c.loop-byte-test.false))
    ∙ sym c.loop-byte.invariant ∙ good)
