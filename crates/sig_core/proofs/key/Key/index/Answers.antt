use Rattle.std.proofs.Common.{◌≡◌, ◌≤◌, arith, length}
use Rattle.std.specs.Prelude.{None, position}
use Rattle.std.proofs.lemmas.Bool.Decides.{nat_tests}
use Rattle.sig_core.specs.Word.{is_unprintable}
use Rattle.sig_core.proofs.KeyLemmas.{stored_index}
use Rattle.sig_core.proofs.key.Key.index.Goals as goal

-- a space, and the bytes of the value behind it
pub invariant_of-result : goal.invariant_of-result
invariant_of-result c =
    let value = c.bytes-bytes.result.now in
    let least : 1 ≤ length value = grind (arith, nat_tests, c.if-is_empty.false, c.is_empty.ensures) in
    let most : length value ≤ 31 = grind (arith, nat_tests, c.if-bytes-ge-KEY_BYTES.false) in
    let printable : position is_unprintable value ≡ None =
    rw (c.bytes-bytes.ensures.value) c.bytes-bytes.ensures.printable in
    stored_index value c.put_front.new.array printable least most c.put_front.ensures
