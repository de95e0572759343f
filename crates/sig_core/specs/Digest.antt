-- The digest of a key.
use Rattle.std.specs.Prelude.{ℕ, ◌+◌, ◌*◌, List, [], ◌∷◌, take, drop}
use Rattle.md5.specs.Md5.{md5}

-- the number that bytes are, the highest first
abbrev pub number_from : ℕ → List ℕ → ℕ
number_from above [] = above
number_from above (byte ∷ bytes) = number_from (above * 256 + byte) bytes

-- the first four bytes of the key's digest, as a number
abbrev pub digest_word : List ℕ → ℕ
digest_word key = number_from 0 (take 4 (md5 key))

-- the four bytes behind them
unfoldable pub hash_of : List ℕ → ℕ
hash_of key = number_from 0 (take 4 (drop 4 (md5 key)))
