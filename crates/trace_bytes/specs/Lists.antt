-- The bytes of lists: how many items there are, in eight bytes, and then these.
use Rattle.std.specs.Prelude.{ℕ, zero, suc, ◌^◌, ◌<◌, List, [], ◌∷◌, ◌++◌, length, flat_map, Ok}
use Rattle.redo_format.specs.Reading.{Reader, ◌>>=◌, and_then, told, byte_at}
use Rattle.trace_bytes.specs.Numbers.{u64_bytes, u64_at}

-- bytes, and then others
infixr 3 ◌&◌
abbrev pub ◌&◌ : List ℕ → List ℕ → List ℕ
one & other = one ++ other

unfoldable pub list_bytes : {A : Type 0} → (A → List ℕ) → List A → List ℕ
list_bytes spelled items = u64_bytes (length items) & flat_map spelled items

abbrev pub All : {A : Type 0} → (A → Type 0) → List A → Type 0
All Is [] = Unit {0}
All Is (item ∷ items) = Is item × All Is items

abbrev pub AreItems : {A : Type 0} → (A → Type 0) → List A → Type 0
AreItems Is items = (length items < 2 ^ 64) × All Is items

-- so many more items behind those that are read
unfoldable pub more_at : {A : Type 0} → Reader A → List A → ℕ → Reader (List A)
more_at item read zero bytes = Ok (read, bytes)
more_at item read (suc count) bytes = item bytes >>= λ x. more_at item (read ++ x.0 ∷ []) count x.1

unfoldable pub list_at : {A : Type 0} → Reader A → Reader (List A)
list_at item = told (λ x. x.1) (and_then u64_at (more_at item []))

-- so many bytes 0
unfoldable pub zeros_at : ℕ → Reader ℕ
zeros_at zero bytes = Ok (0, bytes)
zeros_at (suc count) bytes = told (λ x. x.1) (and_then (byte_at 0 0) (λ _. zeros_at count)) bytes

-- a number of at most `most`, which is below 256, in eight bytes
unfoldable pub few_at : ℕ → Reader ℕ
few_at most = told (λ x. x.1) (and_then (zeros_at 7) (λ _. byte_at 0 most))

-- a list of at most that many items
unfoldable pub short_list_at : {A : Type 0} → ℕ → Reader A → Reader (List A)
short_list_at most item = told (λ x. x.1) (and_then (few_at most) (more_at item []))
