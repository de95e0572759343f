use Rattle.std.proofs.Common.{arith, refl, rules}
use Rattle.std.specs.Prelude.{Ok, Err}
use Rattle.sig_core.specs.declared.key.TheConstants.{KEY_BYTES}
use Rattle.sig_core.specs.declared.word.WordFault.TheVariants.{BadByte}
use Rattle.lcp_store.proofs.FieldLemmas.{cut, spoilt, whole}
use Rattle.lcp_store.proofs.field.key_in.Goals as goal

-- too few bytes are left
pub returns-then-rest-len-clause-told : goal.returns-then-rest-len-clause-told
returns-then-rest-len-clause-told c =
    cut 1 KEY_BYTES c.in_ok-len.len c.args.bytes.now c.in_ok-len.rest.now c.left_of.result c.in_ok-len.ensures.front
    c.in_ok-len.ensures.range.0 c.in_ok-len.ensures.range.1 (omega (arith, c.if-rest-len.true))
    (c.left_of.ensures.told c.in_ok-len.len (omega (arith, c.if-rest-len.true)))

-- the word is good
pub returns-in-Ok-clause-told : goal.returns-in-Ok-clause-told
returns-in-Ok-clause-told c =
    whole 1 KEY_BYTES c.in_ok-len.len c.args.bytes.now c.in_ok-len.rest.now _ (Ok c.in-Ok.key) c.in_ok-len.ensures.front
    c.in_ok-len.ensures.range.0 c.in_ok-len.ensures.range.1 (omega (arith, c.if-rest-len.false)) refl c.in-Ok.ensures

-- a byte of it is spoilt
pub returns-in-Err-BadByte-clause-told : goal.returns-in-Err-BadByte-clause-told
returns-in-Err-BadByte-clause-told c =
    whole 1 KEY_BYTES c.in_ok-len.len c.args.bytes.now c.in_ok-len.rest.now _ (Err (BadByte c.in-Err-BadByte.at))
    c.in_ok-len.ensures.front c.in_ok-len.ensures.range.0 c.in_ok-len.ensures.range.1
    (omega (arith, c.if-rest-len.false)) refl
    (spoilt c.in-Err-BadByte.field-0 c.in-Err-BadByte.at _ (search rules) c.in-Err-BadByte.ensures)
