-- Records without their epochs: they are found, stored and edited as the records themselves are.
use Rattle.std.proofs.Common.{◌≡◌, Bool, true, false, map, List, [], ◌∷◌, refl, sym, ap, ◌∙◌}
use Rattle.std.specs.Prelude.{if◌then◌else◌, ℕ, Option, None, Some}
use Rattle.sig_core.proofs.RecordLemmas.{record_of-first}
use Rattle.sig_core.specs.declared.member.TxId.{TxId}
use Rattle.sig_core.specs.declared.rows.PendingRecord.{PendingRecord}
use Rattle.sig_core.specs.Rows.{RowsState, record_of, record_state, state_by}
use Rattle.sig_core.specs.Same.{same_tx}
use Rattle.key_laws.specs.Records.{committed_row, edited, found, put_back, stored, without_epoch}
use Rattle.key_laws.specs.Replica.{cell_at}
use Rattle.key_laws.proofs.RecordsAt.{first-found, on}

abbrev pub epochless : List PendingRecord → List PendingRecord
epochless xs = map without_epoch xs

abbrev pub without : Option PendingRecord → Option PendingRecord
without None = None
without (Some r) = Some (without_epoch r)

pub found-epochless : (tx : TxId) (xs : List PendingRecord) → found tx (epochless xs) ≡ without (found tx xs)
found-epochless tx [] = refl
found-epochless tx (x ∷ xs) = by (same_tx x.tx tx) (found-epochless tx xs)
  where
    by : (b : Bool) → found tx (epochless xs) ≡ without (found tx xs)
        → (if b then Some (without_epoch x) else found tx (epochless xs)) ≡ without (if b then Some x else found tx xs)
    by true more = refl
    by false more = more

pub stored-epochless : (r : PendingRecord) (xs : List PendingRecord)
    → epochless (stored r xs) ≡ stored (without_epoch r) (epochless xs)
stored-epochless r [] = refl
stored-epochless r (x ∷ xs) = by (same_tx x.tx r.tx) (stored-epochless r xs)
  where
    by : (b : Bool) → epochless (stored r xs) ≡ stored (without_epoch r) (epochless xs)
        → epochless (if b then r ∷ xs else x ∷ stored r xs)
        ≡ (if b then without_epoch r ∷ epochless xs else without_epoch x ∷ stored (without_epoch r) (epochless xs))
    by true more = refl
    by false more = ap (λ w. without_epoch x ∷ w) more

-- two edits come to the same but for epochs
abbrev pub AreAlike : (PendingRecord → Option PendingRecord) → (PendingRecord → Option PendingRecord) → Type 0
AreAlike f g = (r : PendingRecord) → without (f r) ≡ g (without_epoch r)

pub edited-epochless : (f g : PendingRecord → Option PendingRecord) → AreAlike f g
    → (tx : TxId) (xs : List PendingRecord)
    → epochless (edited f tx xs) ≡ edited g tx (epochless xs)
edited-epochless f g alike tx [] = refl
edited-epochless f g alike tx (x ∷ xs) = by (same_tx x.tx tx) (edited-epochless f g alike tx xs)
  where
    back : (o : Option PendingRecord) → epochless (put_back o xs) ≡ put_back (without o) (epochless xs)
    back None = refl
    back (Some y) = refl

    by : (b : Bool) → epochless (edited f tx xs) ≡ edited g tx (epochless xs)
        → epochless (if b then put_back (f x) xs else x ∷ edited f tx xs)
        ≡ (if b then put_back (g (without_epoch x)) (epochless xs) else without_epoch x ∷ edited g tx (epochless xs))
    by true more = back (f x) ∙ ap (λ o. put_back o (epochless xs)) (alike x)
    by false more = ap (λ w. without_epoch x ∷ w) more

-- the row after a commit is told by the record without its epoch
pub committed_row-without : (row : Option (List ℕ)) (o : Option PendingRecord)
    → committed_row row o ≡ committed_row row (without o)
committed_row-without row None = refl
committed_row-without row (Some r) = refl

-- the transaction's record on a key is the one that the key's cell has of it
pub record_in_cell : (s : RowsState) (tx : TxId) (key : List ℕ)
    → without (record_of s tx key) ≡ found tx (cell_at key s).pending
record_in_cell s tx key =
    ap without (record_of-first s tx key ∙ first-found tx key s.pending) ∙ sym (found-epochless tx (on key s.pending))

-- and so is its state
pub state_found : (s : RowsState) (tx : TxId) (key : List ℕ)
    → record_state s tx key ≡ state_by (found tx (cell_at key s).pending)
unfolding record_state
state_found s tx key = by (record_of s tx key) ∙ ap state_by (record_in_cell s tx key)
  where
    by : (o : Option PendingRecord) → state_by o ≡ state_by (without o)
    by None = refl
    by (Some r) = refl
