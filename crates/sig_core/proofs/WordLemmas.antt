-- What is stored of bytes that passed as a word.
use Rattle.std.proofs.Common.{◌≡◌, ℕ, zero, suc, ◌-◌, ◌≤◌, List, ◌++◌, length, drop, refl, ap, ◌∙◌, arith, Bool, true}
use Rattle.std.proofs.Common.{false, nat_lt}
use Rattle.std.specs.Prelude.{replicate, position, Ok, Err, Option, Some, None, ◌||◌, if◌then◌else◌}
use Rattle.std.proofs.lemmas.Bool.Decides.{nat_tests}
use Rattle.std.proofs.lemmas.List.{length-append, length-drop, length-replicate, take_at, drop_at}
use Rattle.sig_core.specs.declared.word.WordFault.{WordFault}
use Rattle.sig_core.specs.Word.{IsWord, if_word, unless_spoilt, is_unprintable}

-- what is left of a filler
pub drop-replicate : {X : Type 0} (n room : ℕ) (filler : X)
    → drop n (replicate room filler) ≡ replicate (room - n) filler
drop-replicate zero room filler = let same : room ≡ room - 0 = omega arith in ap (λ n. replicate n filler) same
drop-replicate (suc n) zero filler = let same : 0 ≡ 0 - suc n = omega arith in ap (λ n. replicate n filler) same
drop-replicate (suc n) (suc room) filler =
    let same : room - n ≡ suc room - suc n = omega arith in
    drop-replicate n room filler ∙ ap (λ n. replicate n filler) same

-- what a good answer says of the two tests of the length, and of the place of a spoilt byte
passed : (short long : Bool) (spoilt : Option ℕ) (fault : WordFault)
    → (if short || long then Err fault else unless_spoilt (tt {0}) spoilt) ≡ Ok (tt {0})
    → (short ≡ false) × (long ≡ false) × (spoilt ≡ None)
passed true long spoilt fault e = cc
passed false true spoilt fault e = cc
passed false false None fault e = (refl, refl, refl)
passed false false (Some at) fault e = cc

pub stored_word : (least room : ℕ) (bytes : List ℕ) → if_word least room bytes (tt {0}) ≡ Ok (tt {0})
    → IsWord least room (bytes ++ drop (length bytes) (replicate room 0)) (length bytes)
stored_word least room bytes good =
    let is = passed (nat_lt (length bytes) least) (nat_lt room (length bytes)) (position is_unprintable bytes) _ good in
    let short : least ≤ length bytes = grind (arith, nat_tests, is.0) in
    let long : length bytes ≤ room = grind (arith, nat_tests, is.1) in
    record {
      filled = record {
        fits = long;
        whole = simp (length-append, length-drop, length-replicate) (omega arith);
        rest = rw (drop_at bytes (drop (length bytes) (replicate room 0)) (length bytes) refl)
            (drop-replicate (length bytes) room 0);
      };
      long_enough = short;
      printable = rw (take_at bytes (drop (length bytes) (replicate room 0)) (length bytes) refl) is.2;
    }
