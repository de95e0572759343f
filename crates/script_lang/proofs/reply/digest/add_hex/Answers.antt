use Rattle.std.proofs.Common.{◌≡◌, ◌∙◌, ap, subst, ◌++◌, get_or, arith}
use Rattle.std.specs.Prelude.{IfSome, string_bytes}
use Rattle.std.specs.Fmt.{styled_digits_output}
use Rattle.script_lang.proofs.TextLemmas.{moved, byte_digits, byte_digits-shown, hex_digits-next}
use Rattle.script_lang.proofs.reply.digest.add_hex.Goals as goal

pub loop-byte-preserved : goal.loop-byte-preserved
loop-byte-preserved c =
    let byte = get_or c.args.bytes.now c.loop-byte.byte-index 0 in
    let shown = string_bytes c.in_ok-format.field-0 in
    let fits = c.type_inv.bytes c.loop-byte.byte-index in
    let written = subst (λ spec. IfSome (styled_digits_output c.in_radix.result spec) (λ bytes. shown ≡ bytes))
    c.laid_out.ensures c.in_ok-format.ensures.ok in
    let digits = byte_digits-shown byte _ shown (omega (arith, fits)) c.in_radix.ensures written in
    moved c.loop-byte.line.items (byte_digits byte) _
    (c.in_ok-add.ensures ∙ ap (λ words. c.loop-byte.line.items ++ words) (c.deref.ensures ∙ digits))
    (hex_digits-next c.args.bytes.now c.loop-byte.byte-index c.loop-byte-test.true)
    c.loop-byte.invariant
