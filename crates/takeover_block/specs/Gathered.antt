-- What is gathered: each transaction that a member tells of, with its keys and, where one is committed, its epoch.
use Rattle.std.specs.Prelude.{ℕ, ◌==◌, ◌&&◌, ◌||◌, Bool, true, false, nat_lt, List, [], ◌∷◌, insert, length, position}
use Rattle.std.specs.Prelude.{slice_get, slice_set, Option, None, Some}
use Rattle.sig_core.specs.declared.member.TxId.{TxId}
use Rattle.sig_core.specs.declared.signal.takeover.RecordState.{RecordState}
use Rattle.sig_core.specs.declared.signal.takeover.RecordState.TheVariants.{Prepared, Committed, Marker}
use Rattle.sig_core.specs.Same.{same_tx}
use Rattle.takeover_block.specs.declared.gathered.Gathered.{Gathered}
use Rattle.takeover_block.specs.Keys.{with_key}

-- one transaction stands before another
abbrev pub is_before : TxId → TxId → Bool
is_before one other =
    nat_lt one.tc other.tc
    || (one.tc == other.tc && (nat_lt one.start other.start || (one.start == other.start && nat_lt one.seq other.seq)))

-- what a record tells of the epoch: one that is committed, or whose commit is remembered, has it
abbrev pub told_epoch : RecordState → ℕ → Option ℕ
told_epoch Prepared epoch = None
told_epoch Committed epoch = Some epoch
told_epoch Marker epoch = Some epoch

-- the first epoch that was told
abbrev pub first_epoch : Option ℕ → Option ℕ → Option ℕ
first_epoch None told = told
first_epoch (Some epoch) told = Some epoch

-- one more record of a transaction was told
abbrev pub told_more : Gathered → List ℕ → Option ℕ → Gathered
told_more g key epoch = record { tx = g.tx; keys = with_key g.keys key; epoch = first_epoch g.epoch epoch }

-- the first record of a transaction was told
abbrev pub told_first : TxId → List ℕ → Option ℕ → Gathered
told_first tx key epoch = record { tx = tx; keys = key ∷ []; epoch = epoch }

-- it is of this transaction, or of one that stands behind it
abbrev pub is_of : TxId → Gathered → Bool
is_of tx g = same_tx g.tx tx

abbrev pub is_behind : TxId → Gathered → Bool
is_behind tx g = is_before tx g.tx

-- where a transaction that is new is to stand: before the first that is behind it
abbrev pub place_or : ℕ → Option ℕ → ℕ
place_or end None = end
place_or end (Some at) = at

abbrev pub place_for : List Gathered → TxId → ℕ
place_for gathered tx = place_or (length gathered) (position (is_behind tx) gathered)

-- one more record of the transaction at a place was told
abbrev pub noted_at : List Gathered → List ℕ → Option ℕ → ℕ → Option Gathered → List Gathered
noted_at gathered key epoch at None = gathered
noted_at gathered key epoch at (Some g) = slice_set gathered at (told_more g key epoch)

abbrev pub noted_by : List Gathered → TxId → List ℕ → Option ℕ → Option ℕ → List Gathered
noted_by gathered tx key epoch None = insert gathered (place_for gathered tx) (told_first tx key epoch)
noted_by gathered tx key epoch (Some at) = noted_at gathered key epoch at (slice_get gathered at)

-- a record is among what is gathered
unfoldable pub noted : List Gathered → TxId → List ℕ → Option ℕ → List Gathered
noted gathered tx key epoch = noted_by gathered tx key epoch (position (is_of tx) gathered)

abbrev pub only : TxId → Gathered → Bool → Option Gathered
only tx g true = Some g
only tx g false = None

abbrev pub only_of : TxId → Option Gathered → Option Gathered
only_of tx None = None
only_of tx (Some g) = only tx g (same_tx g.tx tx)

-- the first of the transactions, if it is this one
unfoldable pub first_of : List Gathered → TxId → Option Gathered
first_of gathered tx = only_of tx (slice_get gathered 0)
