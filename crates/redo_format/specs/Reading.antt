-- Reading from the front of some bytes: what stands there and the bytes behind it, or how many bytes are
-- left where the first stands that doesn't fit.
use Rattle.std.specs.Prelude.{◌≡◌, ℕ, ◌-◌, Bool, ◌||◌, ◌==◌, nat_lt, if◌then◌else◌, max, min, List, [], ◌∷◌, length}
use Rattle.std.specs.Prelude.{take, drop, position, Option, None, Some, Result, Ok, Err}
use Rattle.std.specs.Int.{Width, w32, w64, byte_len, from_be_bytes}
use Rattle.sig_core.specs.Word.{is_unprintable}
use Rattle.sig_core.specs.declared.member.TxId.{TxId}
use Rattle.sig_core.specs.declared.redo.Redo.{Redo}
use Rattle.sig_core.specs.declared.redo.Redo.TheVariants.{Prepare, Commit, Abort}

abbrev pub Reader : Type 0 → Type 0
Reader A = List ℕ → Result (A × List ℕ) ℕ

infixl 10 ◌>>=◌
abbrev pub ◌>>=◌ : {A B : Type 0} → Result A ℕ → (A → Result B ℕ) → Result B ℕ
(Ok x) >>= f = f x
(Err left) >>= f = Err left

-- first one thing, then another that may go by the first
abbrev pub and_then : {A B : Type 0} → Reader A → (A → Reader B) → Reader (A × B)
and_then first second bytes = first bytes >>= λ x. second x.0 x.1 >>= λ y. Ok ((x.0, y.0), y.1)

-- the same, told in another way
abbrev pub told : {A B : Type 0} → (A → B) → Reader A → Reader B
told f reader bytes = reader bytes >>= λ x. Ok (f x.0, x.1)

-- a byte from `least` to `most`
abbrev pub byte_at : ℕ → ℕ → Reader ℕ
byte_at least most [] = Err 0
byte_at least most (byte ∷ rest) =
    if nat_lt byte least || nat_lt most byte then Err (length (byte ∷ rest)) else Ok (byte, rest)

-- a number of this width: all bytes are some number's
abbrev pub number_at : Width → Reader ℕ
number_at w bytes =
    if nat_lt (length bytes) (byte_len w) then Err 0 else Ok
    (from_be_bytes w (take (byte_len w) bytes), drop (byte_len w) bytes)

-- what is read, where no byte is unprintable
abbrev pub unless_spoilt : List ℕ → Result (List ℕ × List ℕ) ℕ → Option ℕ → Result (List ℕ × List ℕ) ℕ
unless_spoilt bytes good None = good
unless_spoilt bytes good (Some at) = Err (length bytes - at)

-- so many printable bytes
unfoldable pub run_at : ℕ → Reader (List ℕ)
run_at len bytes =
    if nat_lt (length bytes) len
    then unless_spoilt bytes (Err 0) (position is_unprintable bytes)
    else unless_spoilt bytes (Ok (take len bytes, drop len bytes)) (position is_unprintable (take len bytes))

-- a word of `least` to `most` bytes, behind its length
unfoldable pub word_at : ℕ → ℕ → Reader (List ℕ)
word_at least most = told (λ x. x.1) (and_then (byte_at least most) run_at)

abbrev pub transaction_of : ℕ × (ℕ × ℕ) → TxId
transaction_of x = record { tc = x.0; start = x.1.0; seq = x.1.1 }

unfoldable pub transaction_at : Reader TxId
transaction_at = told transaction_of (and_then (byte_at 1 8) (λ tc. and_then (number_at w32) (λ start. number_at w64)))

-- behind the kind: the length of the whole, from `least` to `most`, and the transaction
unfoldable pub head_at : ℕ → ℕ → Reader (ℕ × TxId)
head_at least most =
    told (λ x. x.1) (and_then (byte_at 0 0) (λ high. and_then (byte_at least most) (λ size. transaction_at)))

-- only a record of up to 51 bytes may be without an image, and only one of 21 and more with one
abbrev pub least_flag : ℕ → ℕ
least_flag size = if nat_lt 51 size then 1 else 0

abbrev pub most_flag : ℕ → ℕ
most_flag size = if nat_lt size 21 then 0 else 1

-- the key and the image that a record of this length has, behind the flag
unfoldable pub image_at : ℕ → ℕ → Reader (List ℕ × Option (List ℕ))
image_at size flag =
    if flag == 0
    then told (λ key. (key, None)) (word_at (size - 19) (size - 19))
    else told (λ x. (x.0, Some x.1))
    (and_then (word_at (max 1 (size - 220)) (min 32 (size - 20)))
    (λ key. word_at (size - 20 - length key) (size - 20 - length key)))

abbrev pub prepared : (ℕ × TxId) × (ℕ × (ℕ × (List ℕ × Option (List ℕ)))) → Redo
prepared x = Prepare x.0.1 x.1.0 x.1.1.1.0 x.1.1.1.1

unfoldable pub prepare_at : Reader Redo
prepare_at =
    told prepared (and_then (head_at 20 252) (λ head. and_then (byte_at 0 31)
    (λ fragment. and_then (byte_at (least_flag head.0) (most_flag head.0)) (image_at head.0))))

abbrev pub committed : (ℕ × TxId) × (ℕ × List ℕ) → Redo
committed x = Commit x.0.1 x.1.0 x.1.1

unfoldable pub commit_at : Reader Redo
commit_at =
    told committed (and_then (head_at 26 57) (λ head. and_then (number_at w64)
    (λ epoch. word_at (head.0 - 25) (head.0 - 25))))

abbrev pub aborted : (ℕ × TxId) × List ℕ → Redo
aborted x = Abort x.0.1 x.1

unfoldable pub abort_at : Reader Redo
abort_at = told aborted (and_then (head_at 18 49) (λ head. word_at (head.0 - 17) (head.0 - 17)))

abbrev pub of_kind : ℕ → Reader Redo
of_kind kind = if kind == 1 then prepare_at else (if kind == 2 then commit_at else abort_at)

-- a record
unfoldable pub record_at : Reader Redo
record_at = told (λ x. x.1) (and_then (byte_at 1 3) of_kind)

-- what a function returned, with its value seen by `view`, is what reading gives
abbrev pub Gives : {X Y : Type 0} → (X → Y) → Result X ℕ → Result Y ℕ → Type 0
Gives view (Ok x) read = read ≡ Ok (view x)
Gives view (Err left) read = read ≡ Err left
