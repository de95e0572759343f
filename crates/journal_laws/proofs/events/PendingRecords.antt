-- What is so of each pending record stays so at each step of the rows.
use Rattle.std.proofs.Common.{◌≡◌, List, [], ◌∷◌, ℕ, Bool, true, false, refl, sym, ap, ◌∙◌, subst}
use Rattle.std.specs.Prelude.{Option, None, Some, if◌then◌else◌}
use Rattle.std.proofs.lemmas.Bool.{and_parts}
use Rattle.run_theory.specs.Lists.{Each}
use Rattle.run_theory.proofs.EachSent.{each_get, each_removed, each_set}
use Rattle.run_theory.proofs.Pasts.{each_append}
use Rattle.sig_core.proofs.RecordLemmas.{record_of-first}
use Rattle.sig_core.specs.declared.member.TxId.{TxId}
use Rattle.sig_core.specs.declared.rows.PendingRecord.{PendingRecord}
use Rattle.sig_core.specs.Firsts.{first}
use Rattle.sig_core.specs.Rows.{RowsState, abort_record, commit_by, commit_if, commit_record, committed}
use Rattle.sig_core.specs.Rows.{complete_record}
use Rattle.sig_core.specs.Rows.{drop_by, drop_if, get_at, is_as, is_of, prepared, record_at, record_of, record_state}
use Rattle.sig_core.specs.Rows.{recorded_by, state_by, storing}
use Rattle.sig_core.specs.Same.{same_key, same_tx}
use Rattle.sig_core.proofs.Firsts.{first_passes}
use Rattle.sig_core.proofs.TxLemmas.{same_tx-is}
use Rattle.local_ckpt.specs.Orderly.{image_in, prepared_in}
use Rattle.local_ckpt.proofs.RecordLemmas.{key_of_first}

-- the transaction has a prepared record on the key
pub record IsOpen (s : RowsState) (tx : TxId) (key : List ℕ) : Type 0 where
  pub one : PendingRecord
  pub found : first (is_of tx key) s.pending ≡ Some one
  pub begun : one.committed ≡ false

pub open_one : (s : RowsState) (tx : TxId) (key : List ℕ) → record_state s tx key ≡ Some false → IsOpen s tx key
unfolding record_state
open_one s tx key had = by (first (is_of tx key) s.pending) refl (sym (ap state_by (record_of-first s tx key)) ∙ had)
  where
    by : (o : Option PendingRecord) → first (is_of tx key) s.pending ≡ o → state_by o ≡ Some false → IsOpen s tx key
    by None found is = absurd cc
    by (Some r) found is = let begun : r.committed ≡ false = cc in record { one = r; found = found; begun = begun }

-- its image is prepared
pub open_image : (s : RowsState) (tx : TxId) (key : List ℕ) (is : IsOpen s tx key)
    → image_in s tx key ≡ Some is.one.image
open_image s tx key is = ap prepared_in is.found ∙ ap (λ b. if b then None else Some is.one.image) is.begun

-- the record is that transaction's, on that key
pub open_tx : (s : RowsState) (tx : TxId) (key : List ℕ) (is : IsOpen s tx key) → is.one.tx ≡ tx
open_tx s tx key is =
    same_tx-is is.one.tx tx
    (and_parts (same_tx is.one.tx tx) (same_key is.one.key key)
    (first_passes (is_of tx key) s.pending is.one is.found)).0

pub open_key : (s : RowsState) (tx : TxId) (key : List ℕ) (is : IsOpen s tx key) → is.one.key ≡ key
open_key s tx key is = key_of_first tx key s.pending is.one is.found

-- it is one of the records
pub each_first : (P : PendingRecord → Type 0) (p : PendingRecord → Bool) (pending : List PendingRecord)
    (r : PendingRecord) → Each P pending → first p pending ≡ Some r → P r
each_first P p [] r all found = absurd cc
each_first P p (x ∷ xs) r all found = by (p x) found (each_first P p xs r all.1)
  where
    by : (b : Bool) → (if b then Some x else first p xs) ≡ Some r → (first p xs ≡ Some r → P r) → P r
    by true found more = let one : x ≡ r = cc in subst P one all.0
    by false found more = more found

module _ (P : PendingRecord → Type 0) (keeps : (r : PendingRecord) (epoch : ℕ) → P r → P (committed r epoch)) where
  recorded : (r : PendingRecord) → P r → (pending : List PendingRecord) → Each P pending → (at : Option ℕ)
      → Each P (recorded_by pending r at)
  recorded r own pending all None = each_append P pending (r ∷ []) all (own, tt)
  recorded r own pending all (Some at) = each_set P pending at r all own

  pub each_stored : (s : RowsState) (tx : TxId) (key : List ℕ) (image : Option (List ℕ)) → P (prepared tx key image)
      → Each P s.pending → Each P (storing s tx key image).pending
  unfolding storing
  each_stored s tx key image own all =
      recorded (prepared tx key image) own s.pending all (record_at s.pending tx key)

  pub each_committed : (s : RowsState) (tx : TxId) (key : List ℕ) (epoch : ℕ) → Each P s.pending
      → Each P (commit_record s tx key epoch).pending
  unfolding commit_record record_of
  each_committed s tx key epoch all =
      by (record_at s.pending tx key) (get_at s.pending (record_at s.pending tx key)) refl
    where
      by_if : (at : ℕ) (r : PendingRecord) → P r → (done : Bool) → Each P (commit_if s at r epoch done).pending
      by_if at r own true = all
      by_if at r own false = each_set P s.pending at (committed r epoch) all (keeps r epoch own)

      by : (at : Option ℕ) (r : Option PendingRecord) → get_at s.pending at ≡ r
          → Each P (commit_by s epoch at r).pending
      by None None there = all
      by None (Some r) there = all
      by (Some at) None there = all
      by (Some at) (Some r) there = by_if at r (each_get P s.pending at r all there) r.committed

  dropped : (s : RowsState) (done : Bool) (at : Option ℕ) (r : Option PendingRecord) → Each P s.pending
      → Each P (drop_by s done at r).pending
  dropped s done None None all = all
  dropped s done None (Some r) all = all
  dropped s done (Some at) None all = all
  dropped s done (Some at) (Some r) all = by (is_as done r.committed)
    where
      by : (b : Bool) → Each P (drop_if s at r b).pending
      by true = each_removed P s.pending at all
      by false = all

  pub each_aborted : (s : RowsState) (tx : TxId) (key : List ℕ) → Each P s.pending
      → Each P (abort_record s tx key).pending
  unfolding abort_record
  each_aborted s tx key all = dropped s false (record_at s.pending tx key) (record_of s tx key) all

  pub each_completed : (s : RowsState) (tx : TxId) (key : List ℕ) → Each P s.pending
      → Each P (complete_record s tx key).pending
  unfolding complete_record
  each_completed s tx key all = dropped s true (record_at s.pending tx key) (record_of s tx key) all
