-- What is encoded is decoded, and what is decoded was encoded.
use Rattle.std.proofs.Common.{◌≡◌, ℕ, zero, suc, ◌-◌, ◌+◌, ◌≤◌, Bool, true, false, List, [], ◌∷◌, ◌++◌, length, take}
use Rattle.std.proofs.Common.{refl, sym, ap, subst, ◌∙◌, arith}
use Rattle.std.specs.Prelude.{Option, None, Some, IfSome, IfOk, MatchResult, Result, Ok, Err, position, nat_lt, ◌||◌}
use Rattle.std.specs.Prelude.{if◌then◌else◌}
use Rattle.std.specs.Int.{w16, w32, w64, to_be_bytes}
use Rattle.std.proofs.lemmas.Bool.{le-ltb}
use Rattle.std.proofs.lemmas.Bool.Decides.{nat_tests}
use Rattle.std.proofs.lemmas.List.{length-append, take_at}
use Rattle.std.proofs.lemmas.Nat.{be_bytes_2}
use Rattle.sig_core.specs.declared.redo.Redo.{Redo}
use Rattle.sig_core.specs.declared.redo.Redo.TheVariants.{Prepare, Commit, Abort}
use Rattle.sig_core.specs.declared.word.WordFault.{WordFault}
use Rattle.sig_core.specs.Redo.{size_of, prepare_bytes, commit_bytes}
use Rattle.sig_core.specs.Word.{if_word, unless_spoilt, is_unprintable}
use Rattle.redo_format.specs.declared.fault.FormatFault.{FormatFault}
use Rattle.sig_core.specs.Redo.{bytes_of, word, flag, image_bytes}
use Rattle.redo_format.specs.Records.{IsRecord}
use Rattle.redo_format.specs.Reading.{record_at}
use Rattle.redo_format.specs.declared.lent.LentRedo.{LentRedo}
use Rattle.redo_format.specs.Lent.{redo_of}
use Rattle.redo_format.specs.Decoding.{IsDecoded, NoneBeginsAnother, from_read, decoded}
use Rattle.redo_format.proofs.Readers.{IsBytes, IsWord, Reads}
use Rattle.redo_format.proofs.RecordReaders.{RecordFits, kind_of, behind, flag_fits, reads_record}

worded : (short long : Bool) (spoilt : Option ℕ) (fault : WordFault) (w x : List ℕ)
    → (if short || long then Err fault else unless_spoilt w spoilt) ≡ Ok x
    → (short ≡ false) × (long ≡ false) × (spoilt ≡ None)
worded true long spoilt fault w x e = absurd cc
worded false true spoilt fault w x e = absurd cc
worded false false None fault w x e = (refl, refl, refl)
worded false false (Some at) fault w x e = absurd cc

is_word : (least most : ℕ) (w : List ℕ) → if_word least most w w ≡ Ok w → IsWord least most w
is_word least most w e =
    let is = worded (nat_lt (length w) least) (nat_lt most (length w)) (position is_unprintable w) _ w w e in
    record { long = grind (arith, nat_tests, is.0); short = grind (arith, nat_tests, is.1); plain = is.2 }

word_is : (least most : ℕ) (w : List ℕ) → IsWord least most w → if_word least most w w ≡ Ok w
word_is least most w is =
    let long : nat_lt (length w) least ≡ false = le-ltb _ _ is.long in
    let short : nat_lt most (length w) ≡ false = le-ltb _ _ is.short in
    rw (long, short, is.plain) refl

image_is : (image : Option (List ℕ)) → IfSome image (IsWord 0 200) → IfSome image (λ v. if_word 0 200 v v ≡ Ok v)
image_is None is = tt
image_is (Some v) is = word_is 0 200 v is

is_image : (image : Option (List ℕ)) → IfSome image (λ v. if_word 0 200 v v ≡ Ok v) → IfSome image (IsWord 0 200)
is_image None is = tt
is_image (Some v) is = is_word 0 200 v is

fits_of : (redo : Redo) → IsRecord redo → RecordFits redo
fits_of (Prepare tx fragment key image) is = (is.0, is.1, is_word 1 32 key is.2, is_image image is.3)
fits_of (Commit tx epoch key) is = (is.0, is.1, is_word 1 32 key is.2)
fits_of (Abort tx key) is = (is.0, is_word 1 32 key is.1)

of_fits : (redo : Redo) → RecordFits redo → IsRecord redo
of_fits (Prepare tx fragment key image) fits = (fits.0, fits.1, word_is 1 32 key fits.2, image_is image fits.3)
of_fits (Commit tx epoch key) fits = (fits.0, fits.1, word_is 1 32 key fits.2)
of_fits (Abort tx key) fits = (fits.0, word_is 1 32 key fits.1)

small : (n : ℕ) → n ≤ 252 → IsBytes (0 ∷ n ∷ [])
small n le zero = omega arith
small n le (suc zero) = omega (arith, le)
small n le (suc (suc i)) = omega arith

size_bytes : (n : ℕ) → n ≤ 252 → to_be_bytes w16 n ≡ 0 ∷ n ∷ []
size_bytes n le = be_bytes_2 (0 ∷ n ∷ []) n refl (small n le) (omega arith)

spelled : (redo : Redo) → RecordFits redo → bytes_of redo ≡ kind_of redo ∷ behind redo
unfolding bytes_of size_of
spelled (Prepare tx fragment key image) fits =
    ap (λ (w : List ℕ). (1 ∷ w) ++ tx.tc ∷ to_be_bytes w32 tx.start ++ to_be_bytes w64 tx.seq ++ fragment ∷ flag image ∷
    word key ++ image_bytes image)
    (size_bytes (prepare_bytes key image) (flag_fits key image fits.2 fits.3).1)
spelled (Commit tx epoch key) fits =
    let most = fits.2.short in
    ap (λ (w : List ℕ). (2 ∷ w) ++ tx.tc ∷ to_be_bytes w32 tx.start ++ to_be_bytes w64 tx.seq ++ to_be_bytes w64 epoch
    ++ word key)
    (size_bytes (commit_bytes key) (omega arith))
spelled (Abort tx key) fits =
    let most = fits.1.short in
    ap (λ (w : List ℕ). (3 ∷ w) ++ tx.tc ∷ to_be_bytes w32 tx.start ++ to_be_bytes w64 tx.seq ++ word key)
    (size_bytes (17 + length key) (omega arith))

pub decodes : (redo : Redo) (rest : List ℕ) → IsRecord redo
    → decoded (bytes_of redo ++ rest) ≡ Ok (redo, length (bytes_of redo))
decodes redo rest is =
    let fits = fits_of redo is in
    let same = spelled redo fits in
    let read : record_at (bytes_of redo ++ rest) ≡ Ok (redo, rest) =
    ap (λ (w : List ℕ). record_at (w ++ rest)) same ∙ reads_record.again redo rest fits in
    let len : length (bytes_of redo ++ rest) - length rest ≡ length (bytes_of redo) =
    omega (arith, length-append (bytes_of redo) rest) in
    ap (from_read (bytes_of redo ++ rest)) read ∙ ap (λ (n : ℕ). Ok (redo, n)) len

ok_is : (x y : Redo × ℕ) (fine : Result (Redo × ℕ) FormatFault) → fine ≡ Ok x → fine ≡ Ok y → x ≡ y
ok_is x y fine e f = cc

found_by : (bytes : List ℕ) (read : Result (Redo × List ℕ) ℕ) (x : Redo × ℕ) → IsBytes bytes → record_at bytes ≡ read
    → from_read bytes read ≡ Ok x → IsDecoded bytes x
found_by bytes (Err left) x are was e = absurd cc
found_by bytes (Ok y) x are was e =
    let is = reads_record.takes bytes y are was in
    let whole : bytes ≡ bytes_of y.0 ++ y.1 = is.1 ∙ ap (λ (w : List ℕ). w ++ y.1) (sym (spelled y.0 is.0)) in
    let len : length bytes - length y.1 ≡ length (bytes_of y.0) =
    ap (λ (w : List ℕ). length w - length y.1) whole ∙ omega (arith, length-append (bytes_of y.0) y.1) in
    let front : take (length (bytes_of y.0)) bytes ≡ bytes_of y.0 =
    ap (take (length (bytes_of y.0))) whole ∙ take_at (bytes_of y.0) y.1 (length (bytes_of y.0)) refl in
    let x-is : (y.0, length bytes - length y.1) ≡ x =
    ok_is (y.0, length bytes - length y.1) x (from_read bytes (Ok y)) refl e in
    subst (IsDecoded bytes) (ap (λ (n : ℕ). (y.0, n)) (sym len) ∙ x-is)
    (record { is = of_fits y.0 is.0; front = front; len = refl })

pub found : (bytes : List ℕ) (r : Result (Redo × ℕ) FormatFault) → IsBytes bytes → r ≡ decoded bytes
    → IfOk r (IsDecoded bytes)
found bytes (Err fault) are e = tt
found bytes (Ok x) are e = found_by bytes (record_at bytes) x are refl (sym e)

pub found_lent : (bytes : List ℕ) (r : Result (LentRedo × ℕ) FormatFault) → IsBytes bytes
    → MatchResult r (λ x. decoded bytes ≡ Ok (redo_of x.0, x.1)) (λ fault. decoded bytes ≡ Err fault)
    → IfOk r (λ x. IsDecoded bytes (redo_of x.0, x.1))
found_lent bytes (Err fault) are e = tt
found_lent bytes (Ok x) are e = found_by bytes (record_at bytes) (redo_of x.0, x.1) are refl e

pair_is : (x y : Redo × List ℕ) (fine : Result (Redo × List ℕ) ℕ) → fine ≡ Ok x → fine ≡ Ok y → x ≡ y
pair_is x y fine e f = cc

pub differ : NoneBeginsAnother
differ one other after more is also same =
    let fits = fits_of one is in
    let suits = fits_of other also in
    let first : record_at (bytes_of one ++ after) ≡ Ok (one, after) =
    ap (λ (w : List ℕ). record_at (w ++ after)) (spelled one fits) ∙ reads_record.again one after fits in
    let second : record_at (bytes_of one ++ after) ≡ Ok (other, more) =
    ap record_at same ∙ ap (λ (w : List ℕ). record_at (w ++ more)) (spelled other suits)
    ∙ reads_record.again other more suits in
    ap (λ (p : Redo × List ℕ). p.0) (pair_is (one, after) (other, more) (record_at (bytes_of one ++ after)) first
    second)
