-- The records of transactions on one key, the oldest first, and the row beside them.
use Rattle.std.specs.Prelude.{◌≡◌, ◌&&◌, not, true, if◌then◌else◌, ℕ, Bool, List, [], ◌∷◌, Option, None, Some}
use Rattle.sig_core.specs.declared.member.TxId.{TxId}
use Rattle.sig_core.specs.declared.rows.PendingRecord.{PendingRecord}
use Rattle.sig_core.specs.Same.{same_tx}

-- the transaction's record
abbrev pub found : TxId → List PendingRecord → Option PendingRecord
found tx [] = None
found tx (r ∷ rest) = if same_tx r.tx tx then Some r else found tx rest

-- the row as the transaction of this record sees it
abbrev pub seen_by : Option (List ℕ) → Option PendingRecord → Option (List ℕ)
seen_by row None = row
seen_by row (Some r) = r.image

-- no transaction has two records
abbrev pub AreOnce : List PendingRecord → Type 0
AreOnce [] = Unit {0}
AreOnce (r ∷ rest) = (found r.tx rest ≡ None) × AreOnce rest

-- a record takes the place of the one that its transaction had, or stands last
abbrev pub stored : PendingRecord → List PendingRecord → List PendingRecord
stored r [] = r ∷ []
stored r (x ∷ rest) = if same_tx x.tx r.tx then r ∷ rest else x ∷ stored r rest

abbrev pub put_back : Option PendingRecord → List PendingRecord → List PendingRecord
put_back None rest = rest
put_back (Some r) rest = r ∷ rest

-- the transaction's record becomes what f makes of it, or goes
abbrev pub edited : (PendingRecord → Option PendingRecord) → TxId → List PendingRecord → List PendingRecord
edited f tx [] = []
edited f tx (r ∷ rest) = if same_tx r.tx tx then put_back (f r) rest else r ∷ edited f tx rest

-- the record, but for its epoch
abbrev pub without_epoch : PendingRecord → PendingRecord
without_epoch r = record { tx = r.tx; key = r.key; image = r.image; committed = r.committed; epoch = 0 }

-- the record is committed, whatever its epoch is
abbrev pub committed : PendingRecord → PendingRecord
committed r = record { tx = r.tx; key = r.key; image = r.image; committed = true; epoch = r.epoch }

-- a commit makes a record committed, an abort drops one that isn't, and a completion one that is
abbrev pub as_committed : PendingRecord → Option PendingRecord
as_committed r = Some (committed r)

abbrev pub if_committed : PendingRecord → Option PendingRecord
if_committed r = if r.committed then Some r else None

abbrev pub unless_committed : PendingRecord → Option PendingRecord
unless_committed r = if r.committed then None else Some r

-- the row after the commit of the transaction that has this record
abbrev pub committed_row : Option (List ℕ) → Option PendingRecord → Option (List ℕ)
committed_row row None = row
committed_row row (Some r) = if r.committed then row else r.image

-- the record's transaction is one of those that are kept, and its image isn't the row yet
abbrev pub is_kept : (TxId → Bool) → PendingRecord → Bool
is_kept kept r = not r.committed && kept r.tx

-- the row once all that is kept is committed here
abbrev pub kept_row : (TxId → Bool) → Option (List ℕ) → List PendingRecord → Option (List ℕ)
kept_row kept row [] = row
kept_row kept row (r ∷ rest) = if is_kept kept r then r.image else kept_row kept row rest
