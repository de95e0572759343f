-- Each part of a record is read as it is spelled.
use Rattle.std.proofs.Common.{◌≡◌, ℕ, zero, suc, ◌-◌, ◌+◌, ◌≤◌, ◌<◌, ◌^◌, Bool, true, false, List, [], ◌∷◌, ◌++◌}
use Rattle.std.proofs.Common.{length, refl, sym, ap, ◌∙◌, arith}
use Rattle.std.specs.Prelude.{Option, None, Some, IfSome, nat_lt, ◌==◌, if◌then◌else◌, max, min}
use Rattle.std.specs.Int.{w32, w64, to_be_bytes}
use Rattle.std.proofs.lemmas.Bool.{le-ltb}
use Rattle.std.proofs.lemmas.Bool.Decides.{nat_tests}
use Rattle.std.proofs.lemmas.List.{append-nil}
use Rattle.sig_core.specs.declared.member.TxId.{TxId}
use Rattle.sig_core.specs.declared.redo.Redo.{Redo}
use Rattle.sig_core.specs.declared.redo.Redo.TheVariants.{Prepare, Commit, Abort}
use Rattle.sig_core.specs.Redo.{prepare_bytes, commit_bytes, image_size}
use Rattle.sig_core.specs.Redo.{word, flag, image_bytes}
use Rattle.redo_format.specs.Records.{IsTransaction}
use Rattle.redo_format.specs.Reading.{and_then, told, byte_at, number_at, word_at, transaction_of, transaction_at}
use Rattle.redo_format.specs.Reading.{head_at, least_flag, most_flag, image_at, prepared, prepare_at, committed}
use Rattle.redo_format.specs.Reading.{commit_at, aborted, abort_at, of_kind, record_at}
use Rattle.redo_format.proofs.Readers.{Reads, reads_then, reads_told, reads_byte, reads_word, reads_number, IsWord}
use Rattle.redo_format.proofs.Readers.{four_bytes, eight_bytes}

abbrev pub transaction_bytes : TxId → List ℕ
transaction_bytes tx = (tx.tc ∷ []) ++ (to_be_bytes w32 tx.start ++ to_be_bytes w64 tx.seq)

reads_transaction : Reads IsTransaction transaction_bytes transaction_at
unfolding transaction_at
reads_transaction =
    reads_told {A = ℕ × (ℕ × ℕ)} {B = TxId} _ _ _ IsTransaction transaction_bytes transaction_of
    (λ tx. (tx.tc, (tx.start, tx.seq)))
    (reads_then {A = ℕ} {B = ℕ × ℕ} (λ b. (1 ≤ b) × (b ≤ 8)) (λ b. b ∷ []) (byte_at 1 8)
    (λ tc p. (p.0 < 2 ^ 32) × (p.1 < 2 ^ 64)) (λ tc p. to_be_bytes w32 p.0 ++ to_be_bytes w64 p.1)
    (λ tc. and_then (number_at w32) (λ start. number_at w64)) (reads_byte 1 8)
    (λ tc fits. reads_then {A = ℕ} {B = ℕ} (λ n. n < 2 ^ 32) (to_be_bytes w32) (number_at w32)
    (λ start n. n < 2 ^ 64) (λ start. to_be_bytes w64) (λ start. number_at w64)
    (reads_number w32 (2 ^ 32) four_bytes) (λ start fits. reads_number w64 (2 ^ 64) eight_bytes)))
    (λ x fits. (record { least = fits.0.0; most = fits.0.1; start = fits.1.0; seq = fits.1.1 }, refl))
    (λ tx fits. (((fits.least, fits.most), (fits.start, fits.seq)), refl))

abbrev pub HeadFits : ℕ → ℕ → ℕ × TxId → Type 0
HeadFits least most x = ((least ≤ x.0) × (x.0 ≤ most)) × IsTransaction x.1

abbrev pub head_bytes : ℕ × TxId → List ℕ
head_bytes x = 0 ∷ x.0 ∷ transaction_bytes x.1

reads_head : (least most : ℕ) → Reads (HeadFits least most) head_bytes (head_at least most)
unfolding head_at
reads_head least most =
    reads_told {A = ℕ × (ℕ × TxId)} {B = ℕ × TxId} _ _ _ (HeadFits least most) head_bytes (λ x. x.1) (λ x. (0, x))
    (reads_then {A = ℕ} {B = ℕ × TxId} (λ b. (0 ≤ b) × (b ≤ 0)) (λ b. b ∷ []) (byte_at 0 0)
    (λ high. HeadFits least most) (λ high x. (x.0 ∷ []) ++ transaction_bytes x.1)
    (λ high. and_then (byte_at least most) (λ size. transaction_at)) (reads_byte 0 0)
    (λ high fits. reads_then {A = ℕ} {B = TxId} (λ b. (least ≤ b) × (b ≤ most)) (λ b. b ∷ []) (byte_at least most)
    (λ size. IsTransaction) (λ size. transaction_bytes) (λ size. transaction_at) (reads_byte least most)
    (λ size fits. reads_transaction)))
    (λ x fits. let none : 0 ≡ x.0 = omega (arith, fits.0.1) in
    (fits.1, ap (λ (n : ℕ). n ∷ x.1.0 ∷ transaction_bytes x.1.1) none))
    (λ x fits. (((omega arith, omega arith), fits), refl))

-- ---- a commit and an abort

-- what stands behind the kind
abbrev pub behind : Redo → List ℕ
behind (Prepare tx fragment key image) =
    head_bytes (prepare_bytes key image, tx)
    ++ ((fragment ∷ []) ++ ((flag image ∷ []) ++ (word key ++ image_bytes image)))
behind (Commit tx epoch key) = head_bytes (commit_bytes key, tx) ++ (to_be_bytes w64 epoch ++ word key)
behind (Abort tx key) = head_bytes (17 + length key, tx) ++ word key

abbrev pub CommitFits : Redo → Type 0
CommitFits (Prepare tx fragment key image) = ⊥
CommitFits (Commit tx epoch key) = IsTransaction tx × (epoch < 2 ^ 64) × IsWord 1 32 key
CommitFits (Abort tx key) = ⊥

abbrev CommitParts : (ℕ × TxId) × (ℕ × List ℕ) → Type 0
CommitParts x = HeadFits 26 57 x.0 × ((x.1.0 < 2 ^ 64) × IsWord (x.0.0 - 25) (x.0.0 - 25) x.1.1)

abbrev uncommitted : Redo → (ℕ × TxId) × (ℕ × List ℕ)
uncommitted (Prepare tx fragment key image) = ((0, tx), (0, key))
uncommitted (Commit tx epoch key) = ((commit_bytes key, tx), (epoch, key))
uncommitted (Abort tx key) = ((0, tx), (0, key))

commit_parts : (redo : Redo) → CommitFits redo → CommitParts (uncommitted redo) × (committed (uncommitted redo) ≡ redo)
commit_parts (Prepare tx fragment key image) fits = absurd fits
commit_parts (Commit tx epoch key) fits =
    let least = fits.2.long in
    let most = fits.2.short in (
      (
        ((omega arith, omega arith), fits.0),
        (fits.1, record { long = omega arith; short = omega arith; plain = fits.2.plain }),
      ),
      refl,
    )
commit_parts (Abort tx key) fits = absurd fits

pub reads_commit : Reads CommitFits behind commit_at
unfolding commit_at
reads_commit =
    reads_told {A = (ℕ × TxId) × (ℕ × List ℕ)} {B = Redo} _ _ _ CommitFits behind committed uncommitted
    (reads_then {A = ℕ × TxId} {B = ℕ × List ℕ} (HeadFits 26 57) head_bytes (head_at 26 57)
    (λ head p. (p.0 < 2 ^ 64) × IsWord (head.0 - 25) (head.0 - 25) p.1) (λ head p. to_be_bytes w64 p.0 ++ word p.1)
    (λ head. and_then (number_at w64) (λ epoch. word_at (head.0 - 25) (head.0 - 25))) (reads_head 26 57)
    (λ head fits. reads_then {A = ℕ} {B = List ℕ} (λ n. n < 2 ^ 64) (to_be_bytes w64) (number_at w64)
    (λ epoch. IsWord (head.0 - 25) (head.0 - 25)) (λ epoch. word) (λ epoch. word_at (head.0 - 25) (head.0 - 25))
    (reads_number w64 (2 ^ 64) eight_bytes) (λ epoch fits. reads_word (head.0 - 25) (head.0 - 25))))
    (λ x fits.
    let long = fits.1.1.long in
    let short = fits.1.1.short in
    let size : commit_bytes x.1.1 ≡ x.0.0 = omega (arith, fits.0.0.0, fits.0.0.1, long, short) in (
      (
        fits.0.1,
        fits.1.0,
        record {
          long = omega (arith, fits.0.0.0, long);
          short = omega (arith, fits.0.0.1, short);
          plain = fits.1.1.plain;
        },
      ),
      ap (λ (n : ℕ). head_bytes (n, x.0.1) ++ (to_be_bytes w64 x.1.0 ++ word x.1.1)) size,
    ))
    commit_parts

abbrev pub AbortFits : Redo → Type 0
AbortFits (Prepare tx fragment key image) = ⊥
AbortFits (Commit tx epoch key) = ⊥
AbortFits (Abort tx key) = IsTransaction tx × IsWord 1 32 key

abbrev AbortParts : (ℕ × TxId) × List ℕ → Type 0
AbortParts x = HeadFits 18 49 x.0 × IsWord (x.0.0 - 17) (x.0.0 - 17) x.1

abbrev unaborted : Redo → (ℕ × TxId) × List ℕ
unaborted (Prepare tx fragment key image) = ((0, tx), key)
unaborted (Commit tx epoch key) = ((0, tx), key)
unaborted (Abort tx key) = ((17 + length key, tx), key)

abort_parts : (redo : Redo) → AbortFits redo → AbortParts (unaborted redo) × (aborted (unaborted redo) ≡ redo)
abort_parts (Prepare tx fragment key image) fits = absurd fits
abort_parts (Commit tx epoch key) fits = absurd fits
abort_parts (Abort tx key) fits =
    let least = fits.1.long in
    let most = fits.1.short in (
      (((omega arith, omega arith), fits.0), record { long = omega arith; short = omega arith; plain = fits.1.plain }),
      refl,
    )

pub reads_abort : Reads AbortFits behind abort_at
unfolding abort_at
reads_abort =
    reads_told {A = (ℕ × TxId) × List ℕ} {B = Redo} _ _ _ AbortFits behind aborted unaborted
    (reads_then {A = ℕ × TxId} {B = List ℕ} (HeadFits 18 49) head_bytes (head_at 18 49)
    (λ head. IsWord (head.0 - 17) (head.0 - 17)) (λ head. word) (λ head. word_at (head.0 - 17) (head.0 - 17))
    (reads_head 18 49) (λ head fits. reads_word (head.0 - 17) (head.0 - 17)))
    (λ x fits.
    let long = fits.1.long in
    let short = fits.1.short in
    let size : 17 + length x.1 ≡ x.0.0 = omega (arith, fits.0.0.0, fits.0.0.1, long, short) in (
      (
        fits.0.1,
        record {
          long = omega (arith, fits.0.0.0, long);
          short = omega (arith, fits.0.0.1, short);
          plain = fits.1.plain;
        },
      ),
      ap (λ (n : ℕ). head_bytes (n, x.0.1) ++ word x.1) size,
    ))
    abort_parts

-- ---- a prepare

abbrev pub ImageFits : ℕ → ℕ → List ℕ × Option (List ℕ) → Type 0
ImageFits size flags x =
    IsWord 1 32 x.0 × IfSome x.1 (IsWord 0 200) × (flags ≡ flag x.1) × (size ≡ prepare_bytes x.0 x.1)

abbrev image_spelled : List ℕ × Option (List ℕ) → List ℕ
image_spelled x = word x.0 ++ image_bytes x.1

not_flagged : (b : Bool) → (if b then 1 else 0) ≤ 0 → b ≡ false
not_flagged true h = absurd (omega (arith, h))
not_flagged false h = refl

flagged : (b : Bool) → 1 ≤ (if b then 0 else 1) → b ≡ false
flagged true h = absurd (omega (arith, h))
flagged false h = refl

one_at_most : (b : Bool) → (if b then 0 else 1) ≤ 1
one_at_most true = omega arith
one_at_most false = omega arith

bare : (size : ℕ) → least_flag size ≤ 0 → size ≤ 51
bare size h = let is = not_flagged (nat_lt 51 size) h in grind (arith, nat_tests, is)

imaged : (size : ℕ) → 1 ≤ most_flag size → 21 ≤ size
imaged size h = let is = flagged (nat_lt size 21) h in grind (arith, nat_tests, is)

abbrev Is : List ℕ × Option (List ℕ) → List ℕ × Option (List ℕ) → Type 0
Is one other = one ≡ other

no_image : (size : ℕ) (key : List ℕ) (image : Option (List ℕ)) → ImageFits size 0 (key, image)
    → IsWord (size - 19) (size - 19) key × Is (key, None) (key, image)
no_image size key None fits =
    (record { long = omega (arith, fits.3); short = omega (arith, fits.3); plain = fits.0.plain }, refl)
no_image size key (Some value) fits = absurd (omega (arith, fits.2))

abbrev ImageParts : ℕ → List ℕ × List ℕ → Type 0
ImageParts size x =
    IsWord (max 1 (size - 220)) (min 32 (size - 20)) x.0 × IsWord (size - 20 - length x.0) (size - 20 - length x.0) x.1

abbrev image_or : Option (List ℕ) → List ℕ
image_or None = []
image_or (Some value) = value

an_image : (size : ℕ) (key : List ℕ) (image : Option (List ℕ)) → ImageFits size 1 (key, image)
    → ImageParts size (key, image_or image) × Is (key, Some (image_or image)) (key, image)
an_image size key None fits = absurd (omega (arith, fits.2))
an_image size key (Some value) fits =
    let least = fits.0.long in
    let most = fits.0.short in
    let long = fits.1.short in
    let size-is = fits.3 in (
      (
        record { long = omega arith; short = omega arith; plain = fits.0.plain },
        record { long = omega arith; short = omega arith; plain = fits.1.plain },
      ),
      refl,
    )

reads_image : (size flags : ℕ) → 20 ≤ size → size ≤ 252 → least_flag size ≤ flags → flags ≤ most_flag size
    → Reads (ImageFits size flags) image_spelled (image_at size flags)
unfolding image_at
reads_image size zero low high least most =
    let short = bare size least in
    reads_told {A = List ℕ} {B = List ℕ × Option (List ℕ)} _ _ _ (ImageFits size 0) image_spelled (λ key. (key, None))
    (λ x. x.0)
    (reads_word (size - 19) (size - 19))
    (λ key fits. let a = fits.long in let b = fits.short in (
      (record { long = omega arith; short = omega arith; plain = fits.plain }, tt, refl, omega arith),
      append-nil (word key),
    ))
    (λ x fits. no_image size x.0 x.1 fits)
reads_image size (suc zero) low high least most =
    let long = imaged size most in
    reads_told {A = List ℕ × List ℕ} {B = List ℕ × Option (List ℕ)} _ _ _ (ImageFits size 1) image_spelled
    (λ x. (x.0, Some x.1)) (λ x. (x.0, image_or x.1))
    (reads_then {A = List ℕ} {B = List ℕ} (IsWord (max 1 (size - 220)) (min 32 (size - 20))) word
    (word_at (max 1 (size - 220)) (min 32 (size - 20)))
    (λ key. IsWord (size - 20 - length key) (size - 20 - length key)) (λ key. word)
    (λ key. word_at (size - 20 - length key) (size - 20 - length key))
    (reads_word (max 1 (size - 220)) (min 32 (size - 20)))
    (λ key fits. reads_word (size - 20 - length key) (size - 20 - length key)))
    (λ x fits. let a = fits.0.long in let b = fits.0.short in let c = fits.1.long in let d = fits.1.short in (
      (
        record { long = omega arith; short = omega arith; plain = fits.0.plain },
        record { long = omega arith; short = omega arith; plain = fits.1.plain },
        refl,
        omega arith,
      ),
      refl,
    ))
    (λ x fits. an_image size x.0 x.1 fits)
reads_image size (suc (suc more)) low high least most = absurd (omega (arith, one_at_most (nat_lt size 21), most))

abbrev pub PrepareFits : Redo → Type 0
PrepareFits (Prepare tx fragment key image) =
    IsTransaction tx × (fragment < 32) × IsWord 1 32 key × IfSome image (IsWord 0 200)
PrepareFits (Commit tx epoch key) = ⊥
PrepareFits (Abort tx key) = ⊥

abbrev FlagFits : ℕ → ℕ × (List ℕ × Option (List ℕ)) → Type 0
FlagFits size p = ((least_flag size ≤ p.0) × (p.0 ≤ most_flag size)) × ImageFits size p.0 p.1

abbrev FragmentFits : ℕ → ℕ × (ℕ × (List ℕ × Option (List ℕ))) → Type 0
FragmentFits size p = ((0 ≤ p.0) × (p.0 ≤ 31)) × FlagFits size p.1

abbrev flag_spelled : ℕ × (List ℕ × Option (List ℕ)) → List ℕ
flag_spelled p = (p.0 ∷ []) ++ image_spelled p.1

abbrev fragment_spelled : ℕ × (ℕ × (List ℕ × Option (List ℕ))) → List ℕ
fragment_spelled p = (p.0 ∷ []) ++ flag_spelled p.1

abbrev PrepareParts : (ℕ × TxId) × (ℕ × (ℕ × (List ℕ × Option (List ℕ)))) → Type 0
PrepareParts x = HeadFits 20 252 x.0 × FragmentFits x.0.0 x.1

abbrev unprepared : Redo → (ℕ × TxId) × (ℕ × (ℕ × (List ℕ × Option (List ℕ))))
unprepared (Prepare tx fragment key image) = ((prepare_bytes key image, tx), (fragment, (flag image, (key, image))))
unprepared (Commit tx epoch key) = ((0, tx), (0, (0, (key, None))))
unprepared (Abort tx key) = ((0, tx), (0, (0, (key, None))))

at_most_one : (b : Bool) → (if b then 1 else 0) ≤ 1
at_most_one true = omega arith
at_most_one false = omega arith

pub flag_fits : (key : List ℕ) (image : Option (List ℕ)) → IsWord 1 32 key → IfSome image (IsWord 0 200)
    → (20 ≤ prepare_bytes key image) × (prepare_bytes key image ≤ 252)
    × (least_flag (prepare_bytes key image) ≤ flag image) × (flag image ≤ most_flag (prepare_bytes key image))
flag_fits key None is has =
    let least = is.long in
    let most = is.short in
    let short : nat_lt 51 (19 + length key + 0) ≡ false = le-ltb _ _ (omega arith) in
    (omega arith, omega arith, rw short (omega arith), omega arith)
flag_fits key (Some value) is has =
    let least = is.long in
    let most = is.short in
    let room = has.short in
    let long : nat_lt (19 + length key + (1 + length value)) 21 ≡ false = le-ltb _ _ (omega arith) in
    (omega arith, omega arith, at_most_one (nat_lt 51 (19 + length key + (1 + length value))), rw long (omega arith))

prepare_parts : (redo : Redo) → PrepareFits redo → PrepareParts (unprepared redo) × (prepared (unprepared redo) ≡ redo)
prepare_parts (Prepare tx fragment key image) fits =
    let is = flag_fits key image fits.2 fits.3 in
    let below = fits.1 in
    ((((is.0, is.1), fits.0), ((omega arith, omega arith), ((is.2, is.3), (fits.2, fits.3, refl, refl)))), refl)
prepare_parts (Commit tx epoch key) fits = absurd fits
prepare_parts (Abort tx key) fits = absurd fits

pub reads_prepare : Reads PrepareFits behind prepare_at
unfolding prepare_at
reads_prepare =
    reads_told {A = (ℕ × TxId) × (ℕ × (ℕ × (List ℕ × Option (List ℕ))))} {B = Redo} _ _ _ PrepareFits behind prepared
    unprepared
    (reads_then {A = ℕ × TxId} {B = ℕ × (ℕ × (List ℕ × Option (List ℕ)))} (HeadFits 20 252) head_bytes (head_at 20 252)
    (λ head. FragmentFits head.0) (λ head. fragment_spelled)
    (λ head. and_then (byte_at 0 31) (λ fragment. and_then (byte_at (least_flag head.0) (most_flag head.0))
    (image_at head.0)))
    (reads_head 20 252)
    (λ head fits. reads_then {A = ℕ} {B = ℕ × (List ℕ × Option (List ℕ))} (λ b. (0 ≤ b) × (b ≤ 31)) (λ b. b ∷ [])
    (byte_at 0 31)
    (λ fragment. FlagFits head.0) (λ fragment. flag_spelled)
    (λ fragment. and_then (byte_at (least_flag head.0) (most_flag head.0)) (image_at head.0)) (reads_byte 0 31)
    (λ fragment small. reads_then {A = ℕ} {B = List ℕ × Option (List ℕ)}
    (λ b. (least_flag head.0 ≤ b) × (b ≤ most_flag head.0)) (λ b. b ∷ [])
    (byte_at (least_flag head.0) (most_flag head.0))
    (ImageFits head.0) (λ flags. image_spelled) (image_at head.0) (reads_byte (least_flag head.0) (most_flag head.0))
    (λ flags range. reads_image head.0 flags fits.0.0 fits.0.1 range.0 range.1))))
    (λ x fits.
    let below = fits.1.0.1 in
    let image = fits.1.1.1 in (
      (fits.0.1, omega (arith, below), image.0, image.1),
      ap (λ (n : ℕ). head_bytes (n, x.0.1) ++ ((x.1.0 ∷ []) ++ ((flag x.1.1.1.1 ∷ []) ++ image_spelled x.1.1.1)))
          (sym image.3)
          ∙ ap (λ (n : ℕ). head_bytes x.0 ++ ((x.1.0 ∷ []) ++ ((n ∷ []) ++ image_spelled x.1.1.1))) (sym image.2),
    ))
    prepare_parts

-- ---- a record

abbrev pub kind_of : Redo → ℕ
kind_of (Prepare tx fragment key image) = 1
kind_of (Commit tx epoch key) = 2
kind_of (Abort tx key) = 3

abbrev pub RecordFits : Redo → Type 0
RecordFits (Prepare tx fragment key image) =
    IsTransaction tx × (fragment < 32) × IsWord 1 32 key × IfSome image (IsWord 0 200)
RecordFits (Commit tx epoch key) = IsTransaction tx × (epoch < 2 ^ 64) × IsWord 1 32 key
RecordFits (Abort tx key) = IsTransaction tx × IsWord 1 32 key

abbrev KindFits : ℕ → Redo → Type 0
KindFits zero redo = ⊥
KindFits (suc zero) redo = PrepareFits redo
KindFits (suc (suc zero)) redo = CommitFits redo
KindFits (suc (suc (suc more))) redo = AbortFits redo

reads_kind : (kind : ℕ) → (1 ≤ kind) × (kind ≤ 3) → Reads (KindFits kind) behind (of_kind kind)
reads_kind zero range = absurd (omega (arith, range.0))
reads_kind (suc zero) range = reads_prepare
reads_kind (suc (suc zero)) range = reads_commit
reads_kind (suc (suc (suc zero))) range = reads_abort
reads_kind (suc (suc (suc (suc more)))) range = absurd (omega (arith, range.1))

kind_fits : (kind : ℕ) (redo : Redo) → (1 ≤ kind) × (kind ≤ 3) → KindFits kind redo
    → RecordFits redo × (kind_of redo ≡ kind)
kind_fits zero redo range fits = absurd (omega (arith, range.0))
kind_fits (suc zero) (Prepare tx fragment key image) range fits = (fits, refl)
kind_fits (suc zero) (Commit tx epoch key) range fits = absurd fits
kind_fits (suc zero) (Abort tx key) range fits = absurd fits
kind_fits (suc (suc zero)) (Prepare tx fragment key image) range fits = absurd fits
kind_fits (suc (suc zero)) (Commit tx epoch key) range fits = (fits, refl)
kind_fits (suc (suc zero)) (Abort tx key) range fits = absurd fits
kind_fits (suc (suc (suc zero))) (Prepare tx fragment key image) range fits = absurd fits
kind_fits (suc (suc (suc zero))) (Commit tx epoch key) range fits = absurd fits
kind_fits (suc (suc (suc zero))) (Abort tx key) range fits = (fits, refl)
kind_fits (suc (suc (suc (suc more)))) redo range fits = absurd (omega (arith, range.1))

fits_kind : (redo : Redo) → RecordFits redo → ((1 ≤ kind_of redo) × (kind_of redo ≤ 3)) × KindFits (kind_of redo) redo
fits_kind (Prepare tx fragment key image) fits = ((omega arith, omega arith), fits)
fits_kind (Commit tx epoch key) fits = ((omega arith, omega arith), fits)
fits_kind (Abort tx key) fits = ((omega arith, omega arith), fits)

pub reads_record : Reads RecordFits (λ redo. kind_of redo ∷ behind redo) record_at
unfolding record_at
reads_record =
    reads_told {A = ℕ × Redo} {B = Redo} _ _ _ RecordFits (λ redo. kind_of redo ∷ behind redo) (λ x. x.1)
    (λ redo. (kind_of redo, redo))
    (reads_then {A = ℕ} {B = Redo} (λ b. (1 ≤ b) × (b ≤ 3)) (λ b. b ∷ []) (byte_at 1 3) KindFits (λ kind. behind)
    of_kind (reads_byte 1 3) reads_kind)
    (λ x fits. let is = kind_fits x.0 x.1 fits.0 fits.1 in (is.0, ap (λ (n : ℕ). n ∷ behind x.1) is.1))
    (λ redo fits. (fits_kind redo fits, refl))
