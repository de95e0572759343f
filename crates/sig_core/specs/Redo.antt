-- The bytes of redo records.
use Rattle.std.specs.Prelude.{ℕ, ◌+◌, List, [], ◌∷◌, ◌++◌, length, Option, None, Some}
use Rattle.std.specs.Int.{w16, w32, w64, to_be_bytes}
use Rattle.sig_core.specs.declared.member.TxId.{TxId}
use Rattle.sig_core.specs.declared.redo.Redo.{Redo}
use Rattle.sig_core.specs.declared.redo.Redo.TheVariants.{Prepare, Commit, Abort}

-- the bytes of an image, behind their length
abbrev pub image_size : Option (List ℕ) → ℕ
image_size None = 0
image_size (Some value) = 1 + length value

-- the bytes of the record of a prepared image
abbrev pub prepare_bytes : List ℕ → Option (List ℕ) → ℕ
prepare_bytes key image = 19 + length key + image_size image

-- the bytes of the record of a commit
abbrev pub commit_bytes : List ℕ → ℕ
commit_bytes key = 25 + length key

-- the bytes that a record takes in a journal
unfoldable pub size_of : Redo → ℕ
size_of (Prepare tx fragment key image) = prepare_bytes key image
size_of (Commit tx epoch key) = commit_bytes key
size_of (Abort tx key) = 17 + length key

-- a word behind its length
abbrev pub word : List ℕ → List ℕ
word bytes = length bytes ∷ bytes

-- the kind, the length of the whole, and the transaction: its coordinator, start and number
abbrev pub head : ℕ → ℕ → TxId → List ℕ
head kind size tx = kind ∷ to_be_bytes w16 size ++ tx.tc ∷ to_be_bytes w32 tx.start ++ to_be_bytes w64 tx.seq

-- says whether there is an image
abbrev pub flag : Option (List ℕ) → ℕ
flag None = 0
flag (Some value) = 1

-- the image, if there is one
abbrev pub image_bytes : Option (List ℕ) → List ℕ
image_bytes None = []
image_bytes (Some value) = word value

-- the bytes of a record
unfoldable pub bytes_of : Redo → List ℕ
bytes_of (Prepare tx fragment key image) =
    head 1 (size_of (Prepare tx fragment key image)) tx ++ fragment ∷ flag image ∷ word key ++ image_bytes image
bytes_of (Commit tx epoch key) = head 2 (size_of (Commit tx epoch key)) tx ++ to_be_bytes w64 epoch ++ word key
bytes_of (Abort tx key) = head 3 (size_of (Abort tx key)) tx ++ word key
