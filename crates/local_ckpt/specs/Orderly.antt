-- What is true of the rows of a node at all times.
use Rattle.std.specs.Prelude.{◌≡◌, if◌then◌else◌, ℕ, true, List, Option, None, Some}
use Rattle.sig_core.specs.declared.member.TxId.{TxId}
use Rattle.sig_core.specs.declared.rows.PendingRecord.{PendingRecord}
use Rattle.sig_core.specs.Firsts.{drop_first, first}
use Rattle.sig_core.specs.Rows.{RowsState, is_of}
use Rattle.row_records.specs.Places.{AreApart, has_place}

-- the image of a record that isn't committed
abbrev pub prepared_in : Option PendingRecord → Option (Option (List ℕ))
prepared_in None = None
prepared_in (Some r) = if r.committed then None else Some r.image

-- the image that a transaction has prepared of a key
abbrev pub image_in : RowsState → TxId → List ℕ → Option (Option (List ℕ))
image_in s tx key = prepared_in (first (is_of tx key) s.pending)

-- the transaction has no second record on the key
abbrev pub HasOne : List PendingRecord → TxId → List ℕ → Type 0
HasOne pending tx key = first (is_of tx key) (drop_first (is_of tx key) pending) ≡ None

-- No key has two places, no transaction has two records on a key, and the key of a prepared one has a place.
pub record IsOrderly (s : RowsState) : Type 0 where
  pub apart : AreApart s.places
  pub once : (tx : TxId) (key : List ℕ) → HasOne s.pending tx key
  pub placed : (tx : TxId) (key : List ℕ) (image : Option (List ℕ)) → image_in s tx key ≡ Some image
      → has_place s.places key ≡ true
