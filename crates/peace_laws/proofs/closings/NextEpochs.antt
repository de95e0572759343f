-- The epoch that follows where a checkpoint ends one is the first of its checkpoint number, and that which follows
-- where a micro closing does isn't.
use Rattle.std.proofs.Common.{◌≡◌, ◌∙◌, ℕ, ◌+◌, ◌*◌, ◌/◌, ◌%◌, ◌<◌, Bool, true, false, refl, sym, ap, arith}
use Rattle.std.proofs.Common.{if◌then◌else◌, nat_lt}
use Rattle.std.proofs.lemmas.Bool.Decides.{nat_tests}
use Rattle.std.proofs.lemmas.Bool.{eq-eqb}
use Rattle.std.specs.Prelude.{◌==◌, None, Some}
use Rattle.api_views.specs.declared.closings.Closing.{Closing}
use Rattle.api_views.specs.declared.closings.Closing.TheVariants.{Gcp, Micro, Lcp}
use Rattle.gcp_master.specs.declared.numbers.TheConstants.{MICROS}
use Rattle.gcp_master.specs.Numbers.{is_first}
use Rattle.peace_laws.specs.Closing.{next_of}
use Rattle.peace_laws.proofs.closings.MasterAnswers.{is_gcp}

first_of_checkpoint : (k : ℕ) → is_first (k * MICROS) ≡ true
first_of_checkpoint k =
    let none : k * MICROS % MICROS ≡ 0 = omega arith in
    eq-eqb (k * MICROS % MICROS) 0 none

later_epoch : (epoch : ℕ) → nat_lt (epoch % MICROS + 1) MICROS ≡ true → is_first (epoch + 1) ≡ false
later_epoch epoch more =
    let below : epoch % MICROS + 1 < MICROS = grind (arith, nat_tests, more) in
    let some : (epoch + 1) % MICROS ≡ epoch % MICROS + 1 = omega (arith, below) in
    ap (λ n. n == 0) some ∙ grind (arith, nat_tests)

pub next_is : (kind : Closing) (epoch next : ℕ) → next_of kind epoch ≡ Some next → is_first next ≡ is_gcp kind
next_is Gcp epoch next is = by (nat_lt (epoch / MICROS + 1) MICROS) is
  where
    by : (b : Bool) → (if b then Some ((epoch / MICROS + 1) * MICROS) else None) ≡ Some next → is_first next ≡ true
    by true e =
        let one : (epoch / MICROS + 1) * MICROS ≡ next = cc in
        ap is_first (sym one) ∙ first_of_checkpoint (epoch / MICROS + 1)
    by false e = absurd cc
next_is Micro epoch next is = by (nat_lt (epoch % MICROS + 1) MICROS) refl is
  where
    by : (b : Bool) → nat_lt (epoch % MICROS + 1) MICROS ≡ b → (if b then Some (epoch + 1) else None) ≡ Some next
        → is_first next ≡ false
    by true more e =
        let one : epoch + 1 ≡ next = cc in
        ap is_first (sym one) ∙ later_epoch epoch more
    by false none e = absurd cc
next_is Lcp epoch next is = absurd (cc (is))
