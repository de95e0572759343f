-- What is stored of bytes that passed as a key, and of those of a key of the index.
use Rattle.std.proofs.Common.{◌≡◌, ℕ, zero, suc, ◌+◌, ◌-◌, ◌≤◌, List, [], ◌∷◌, ◌++◌, length, drop, take, refl, ap, sym}
use Rattle.std.proofs.Common.{subst, ◌∙◌, arith, Bool, true, false}
use Rattle.std.specs.Prelude.{replicate, position, Ok, None, Some, ◌==◌, if◌then◌else◌}
use Rattle.std.proofs.lemmas.Bool.Decides.{nat_tests}
use Rattle.std.proofs.lemmas.List.{append-nil, length-append, length-drop, length-replicate, take_at, drop_at}
use Rattle.sig_core.specs.declared.key.TheConstants.{KEY_BYTES, SPACE}
use Rattle.sig_core.specs.Filled.{length-held}
use Rattle.sig_core.specs.IndexKey.{IsKeyBytes, index_of, word_in}
use Rattle.sig_core.specs.Word.{IsWord, if_word, is_unprintable}
use Rattle.sig_core.proofs.WordLemmas.{drop-replicate, stored_word}

-- a word is the word in itself: it doesn't begin with a space
word_same : (bytes : List ℕ) → position is_unprintable bytes ≡ None → word_in bytes ≡ bytes
word_same [] printable = refl
word_same (byte ∷ rest) printable = by_first (byte == SPACE) refl
  where
    by_first : (space : Bool) → byte == SPACE ≡ space → (if space then rest else (byte ∷ rest)) ≡ byte ∷ rest
    by_first false e = refl
    by_first true e = grind (arith, nat_tests, e, printable)

-- a key has a byte
pub some_bytes : (bytes : List ℕ) → 1 ≤ length (word_in bytes) → 1 ≤ length bytes
some_bytes [] some = some
some_bytes (byte ∷ rest) some = omega arith

pub stored_key : (bytes : List ℕ) → if_word 1 KEY_BYTES bytes (tt {0}) ≡ Ok (tt {0})
    → IsKeyBytes (bytes ++ drop (length bytes) (replicate KEY_BYTES 0)) (length bytes)
stored_key bytes good =
    let is = stored_word 1 KEY_BYTES bytes good in
    let all = bytes ++ drop (length bytes) (replicate KEY_BYTES 0) in
    let same : word_in (take (length bytes) all) ≡ take (length bytes) all = word_same _ is.printable in
    let held : length (take (length bytes) all) ≡ length bytes = length-held is.filled in
    record {
      filled = is.filled;
      some = rw (same, held) is.long_enough;
      printable = rw (same) is.printable;
    }

-- the bytes behind the space
behind_space : (value array : List ℕ) → array ≡ value ++ drop (length value) (replicate 31 0)
    → take (length value) array ≡ value
behind_space value array is =
    ap (take (length value)) is ∙ take_at value (drop (length value) (replicate 31 0)) (length value) refl

stored_behind : (value array : List ℕ) → position is_unprintable value ≡ None → 1 ≤ length value → length value ≤ 31
    → array ≡ value ++ drop (length value) (replicate 31 0) → IsKeyBytes (SPACE ∷ array) (suc (length value))
stored_behind value array printable least most is =
    let held : take (length value) array ≡ value = behind_space value array is in
    let whole : length array ≡ 31 =
    ap length is ∙ length-append value (drop (length value) (replicate 31 0))
    ∙ ap (λ n. length value + n) (length-drop (length value) (replicate 31 0)) ∙ omega (arith, most) in
    let count : 31 - length value ≡ KEY_BYTES - suc (length value) = omega arith in
    let rest : drop (length value) array ≡ replicate (31 - length value) 0 =
    ap (drop (length value)) is ∙ drop_at value (drop (length value) (replicate 31 0)) (length value) refl
    ∙ drop-replicate (length value) 31 0 in
    record {
      filled = record {
        fits = omega (arith, most);
        whole = ap suc whole;
        rest = rest ∙ ap (λ n. replicate n 0) count;
      };
      some = rw (held) least;
      printable = rw (held) printable;
    }

pub stored_index : (value array : List ℕ) → position is_unprintable value ≡ None → 1 ≤ length value → length value ≤ 31
    → array ≡ value ++ drop (length value) (replicate 31 0) → IsKeyBytes (SPACE ∷ (array ++ [])) (length value + 1)
stored_index value array printable least most is =
    let none : array ++ [] ≡ array = append-nil array in
    let one : length value + 1 ≡ suc (length value) = omega arith in
    rw (none, one) (stored_behind value array printable least most is)

pub index_held : (value array : List ℕ) → 1 ≤ length value → length value ≤ 31
    → array ≡ value ++ drop (length value) (replicate 31 0)
    → Some (take (suc (length value)) (SPACE ∷ array)) ≡ index_of value
index_held value array least most is =
    ap (λ bytes. Some (SPACE ∷ bytes)) (behind_space value array is) ∙ grind (arith, nat_tests, least, most)

pub ruleset indexes = (stored_index, index_held)
