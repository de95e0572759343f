-- A word behind its length: whole, spoilt or cut short.
use Rattle.std.proofs.Common.{◌≡◌, ◌≤◌, ◌<◌, ◌+◌, ◌-◌, ◌∙◌, ℕ, false, List, ◌∷◌, length, take, ap, sym, subst, refl}
use Rattle.std.proofs.Common.{arith, nat_lt}
use Rattle.std.specs.Prelude.{Option, None, Some, Result, Ok, Err, position}
use Rattle.std.proofs.lemmas.Bool.{le-ltb}
use Rattle.std.proofs.lemmas.List.{length-take-le, take_all}
use Rattle.sig_core.specs.declared.word.WordFault.{WordFault}
use Rattle.sig_core.specs.declared.word.WordFault.TheVariants.{Length, BadByte}
use Rattle.sig_core.specs.Word.{if_word, is_unprintable, unless_spoilt}
use Rattle.lcp_store.specs.Reading.{len_unless_spoilt, word_in, word_len, word_of_len}

-- behind a length that fits the bytes of the word decide
len_fits : (least most len : ℕ) (rest : List ℕ) → least ≤ len → len ≤ most
    → word_len least most (len ∷ rest) ≡ len_unless_spoilt len rest (position is_unprintable (take len rest))
unfolding word_len
len_fits least most len rest low high =
    let long : nat_lt len least ≡ false = le-ltb _ _ low in
    let short : nat_lt most len ≡ false = le-ltb _ _ high in
    rw (long, short) refl

-- a length that doesn't fit
pub unfit : (least most : ℕ) (bytes : List ℕ) (left : ℕ) → word_len least most bytes ≡ Err left
    → Err left ≡ word_in least most bytes
unfit least most bytes left is = sym (ap (word_of_len bytes) is)

-- a word that is cut short
pub cut : (least most len : ℕ) (bytes rest : List ℕ) (left : ℕ) → bytes ≡ len ∷ rest → least ≤ len → len ≤ most
    → length rest < len → len_unless_spoilt len rest (position is_unprintable rest) ≡ Err left
    → Err left ≡ word_in least most bytes
cut least most len bytes rest left front low high few is =
    let all : take len rest ≡ rest = take_all len rest (omega (arith, few)) in
    unfit least most bytes left
    (ap (word_len least most) front ∙ len_fits least most len rest low high
    ∙ ap (λ w. len_unless_spoilt len rest (position is_unprintable w)) all ∙ is)

-- what a word of this length is read as, by what judging it gave
abbrev pub IsReadBy : ℕ → List ℕ → Result (List ℕ) WordFault → Result (List ℕ × ℕ) ℕ → Type 0
IsReadBy len rest (Ok word) read = Ok (word, len + 1) ≡ read
IsReadBy len rest (Err (BadByte at)) read = Err (length rest - at) ≡ read
IsReadBy len rest (Err (Length other)) read = ⊥

-- why a word is spoilt
pub spoilt : (fault : WordFault) (at : ℕ) (judge : Result (List ℕ) WordFault) → fault ≡ BadByte at → Err fault ≡ judge
    → Err (BadByte at) ≡ judge
spoilt fault at judge is told = ap Err (sym is) ∙ told

-- a word that is whole, by its first spoilt byte
judged : (len : ℕ) (rest : List ℕ) (spoilt : Option ℕ) → len ≤ length rest
    → IsReadBy len rest (unless_spoilt (take len rest) spoilt)
    (word_of_len (len ∷ rest) (len_unless_spoilt len rest spoilt))
judged len rest (Some at) fits = refl
judged len rest None fits =
    let whole : nat_lt (length rest) len ≡ false = le-ltb _ _ fits in
    rw whole refl

-- a word that is whole
pub whole : (least most len : ℕ) (bytes rest word : List ℕ) (judge : Result (List ℕ) WordFault) → bytes ≡ len ∷ rest
    → least ≤ len → len ≤ most → len ≤ length rest → word ≡ take len rest → judge ≡ if_word least most word word
    → IsReadBy len rest judge (word_in least most bytes)
whole least most len bytes rest word judge front low high fits is told =
    let size : length (take len rest) ≡ len = length-take-le len rest fits in
    let long : nat_lt (length (take len rest)) least ≡ false = le-ltb _ _ (omega (arith, size, low)) in
    let short : nat_lt most (length (take len rest)) ≡ false = le-ltb _ _ (omega (arith, size, high)) in
    let good : judge ≡ unless_spoilt (take len rest) (position is_unprintable (take len rest)) =
    told ∙ ap (λ w. if_word least most w w) is ∙ rw (long, short) refl in
    let read : word_in least most bytes ≡ word_of_len (len ∷ rest) (len_unless_spoilt len rest
    (position is_unprintable (take len rest))) =
    ap (word_in least most) front ∙ ap (word_of_len (len ∷ rest)) (len_fits least most len rest low high) in
    subst (λ j. IsReadBy len rest j (word_in least most bytes)) (sym good)
    (subst (IsReadBy len rest (unless_spoilt (take len rest) (position is_unprintable (take len rest)))) (sym read)
    (judged len rest (position is_unprintable (take len rest)) fits))

-- a word that is whole, as a look through its bytes finds it
looked : (least most len : ℕ) (bytes rest : List ℕ) (found : Option ℕ) → bytes ≡ len ∷ rest → least ≤ len → len ≤ most
    → position is_unprintable (take len rest) ≡ found
    → word_in least most bytes ≡ word_of_len (len ∷ rest) (len_unless_spoilt len rest found)
looked least most len bytes rest found front low high is =
    ap (word_in least most) front ∙ ap (word_of_len (len ∷ rest)) (len_fits least most len rest low high)
    ∙ ap (λ f. word_of_len (len ∷ rest) (len_unless_spoilt len rest f)) is

pub looked_whole : (least most len : ℕ) (bytes rest word : List ℕ) → bytes ≡ len ∷ rest → least ≤ len → len ≤ most
    → len ≤ length rest → word ≡ take len rest → position is_unprintable word ≡ None
    → word_in least most bytes ≡ Ok (word, len + 1)
looked_whole least most len bytes rest word front low high fits is good =
    let whole : nat_lt (length rest) len ≡ false = le-ltb _ _ fits in
    looked least most len bytes rest None front low high (ap (position is_unprintable) (sym is) ∙ good)
    ∙ rw whole (ap (λ w. Ok (w, len + 1)) (sym is))

pub looked_spoilt : (least most len at : ℕ) (bytes rest word : List ℕ) → bytes ≡ len ∷ rest → least ≤ len → len ≤ most
    → word ≡ take len rest → position is_unprintable word ≡ Some at
    → word_in least most bytes ≡ Err (length rest - at)
looked_spoilt least most len at bytes rest word front low high is bad =
    looked least most len bytes rest (Some at) front low high (ap (position is_unprintable) (sym is) ∙ bad)
