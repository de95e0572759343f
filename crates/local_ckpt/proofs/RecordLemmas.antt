-- The records of transactions and the rows: what an event makes of them.
use Rattle.std.proofs.Common.{◌≡◌, ℕ, Bool, true, false, not, ◌&&◌, ◌||◌, List, [], ◌∷◌, refl, sym, ap, ◌∙◌, subst}
use Rattle.std.proofs.lemmas.Bool.{and_parts, not-true}
use Rattle.std.specs.List.{list_any}
use Rattle.std.specs.Prelude.{if◌then◌else◌, Option, None, Some, position}
use Rattle.sig_core.proofs.RecordLemmas.{record_of-first}
use Rattle.sig_core.specs.declared.member.TxId.{TxId}
use Rattle.sig_core.specs.declared.rows.PendingRecord.{PendingRecord}
use Rattle.sig_core.specs.declared.rows.Slot.{Slot}
use Rattle.sig_core.specs.Firsts.{drop_first, first}
use Rattle.sig_core.specs.Rows as rows
use Rattle.sig_core.specs.Rows.{RowsState, commit_by, commit_if, commit_record, drop_if, freed, is_as, is_idle}
use Rattle.sig_core.specs.Rows.{is_of, is_on, record_at, record_of, recorded_by, set_row}
use Rattle.sig_core.specs.Same.{same_key, same_tx}
use Rattle.sig_core.proofs.Firsts.{drop_by, first-drop, first-get, first-set, first_passes, get_by, place_by}
use Rattle.sig_core.proofs.Firsts.{position-cons, set_by, set_first}
use Rattle.sig_core.proofs.Keys.{same_key-self, same_tx-self}
use Rattle.sig_core.proofs.TxLemmas.{same_tx-is}
use Rattle.local_ckpt.specs.Orderly.{prepared_in}
use Rattle.local_ckpt.proofs.Firsts.{Disjoint, put_first}
use Rattle.row_records.proofs.KeyLemmas.{same}

-- the two are of one transaction and one key
abbrev pub is_same : TxId → List ℕ → TxId → List ℕ → Bool
is_same tx key other key2 = same_tx tx other && same_key key key2

-- a record is its own
pub own_record : (tx : TxId) (key : List ℕ) → is_same tx key tx key ≡ true
own_record tx key = λ i. same_tx-self tx i && same_key-self key i

-- of two, no record is both's
pub two_records : (tx other : TxId) (key key2 : List ℕ) → is_same tx key other key2 ≡ false
    → Disjoint (is_of tx key) (is_of other key2)
two_records tx other key key2 off x is =
    let parts = and_parts (same_tx x.tx tx) (same_key x.key key) is in
    (λ i. same_tx (same_tx-is x.tx tx parts.0 i) other && same_key (same x.key key parts.1 i) key2) ∙ off

-- what is true of a record and of all others
pub by_record : (tx other : TxId) (key key2 : List ℕ) (P : TxId → List ℕ → Bool → Type 0) → P tx key true
    → (is_same tx key other key2 ≡ false → P other key2 false) → P other key2 (is_same tx key other key2)
by_record tx other key key2 P own apart = by (is_same tx key other key2) refl
  where
    by : (b : Bool) → is_same tx key other key2 ≡ b → P other key2 b
    by true e =
        let parts = and_parts (same_tx tx other) (same_key key key2) e in
        subst (λ t. P t key2 true) (same_tx-is tx other parts.0) (subst (λ k. P tx k true) (same key key2 parts.1) own)
    by false e = apart e

-- the key of a record that is found
pub key_of_first : (tx : TxId) (key : List ℕ) (pending : List PendingRecord) (r : PendingRecord)
    → first (is_of tx key) pending ≡ Some r → r.key ≡ key
key_of_first tx key pending r is =
    same r.key key (and_parts (same_tx r.tx tx) (same_key r.key key) (first_passes (is_of tx key) pending r is)).1

-- one is recorded
pub recorded-put : (p : PendingRecord → Bool) (r : PendingRecord) (xs : List PendingRecord)
    → recorded_by xs r (position p xs) ≡ put_first p r xs
recorded-put p r [] = refl
recorded-put p r (x ∷ xs) =
    ap (recorded_by (x ∷ xs) r) (position-cons p x xs) ∙ by (p x) (position p xs) (recorded-put p r xs)
  where
    by : (b : Bool) (at : Option ℕ) → recorded_by xs r at ≡ put_first p r xs
        → recorded_by (x ∷ xs) r (place_by b at) ≡ (if b then r ∷ xs else x ∷ put_first p r xs)
    by true at more = refl
    by false None more = ap (λ w. x ∷ w) more
    by false (Some at) more = ap (λ w. x ∷ w) more

-- a commit finds nothing that is prepared, or makes it the row
abbrev pub rows_with : List (Option Slot) → List PendingRecord → RowsState
rows_with places pending = record { places = places; pending = pending }

module _ (s : RowsState) (tx : TxId) (key : List ℕ) (epoch : ℕ) where
  commit_found : (o : Option PendingRecord) → first (is_of tx key) s.pending ≡ o → (after : RowsState)
      → ((at : ℕ) → record_at s.pending tx key ≡ Some at → commit_by s epoch (Some at) o ≡ after)
      → (o ≡ None → s ≡ after) → commit_record s tx key epoch ≡ after
  unfolding commit_record
  commit_found o is after found none = by (record_at s.pending tx key) refl
    where
      by : (at : Option ℕ) → record_at s.pending tx key ≡ at → commit_by s epoch at (record_of s tx key) ≡ after
      by None e = none (sym is ∙ sym (first-get (is_of tx key) s.pending) ∙ ap (get_by s.pending) e)
      by (Some at) e = ap (commit_by s epoch (Some at)) (record_of-first s tx key ∙ is) ∙ found at e

  pub commits_nothing : prepared_in (first (is_of tx key) s.pending) ≡ None → commit_record s tx key epoch ≡ s
  commits_nothing none = by (first (is_of tx key) s.pending) refl none
    where
      by : (o : Option PendingRecord) → first (is_of tx key) s.pending ≡ o → prepared_in o ≡ None
          → commit_record s tx key epoch ≡ s
      by None is none = commit_found None is s (λ at e. refl) (λ e. refl)
      by (Some r) is none = if_done r.committed refl none
        where
          if_done : (b : Bool) → r.committed ≡ b → (if b then None else Some r.image) ≡ None
              → commit_record s tx key epoch ≡ s
          if_done true e none = commit_found (Some r) is s (λ at f. ap (commit_if s at r epoch) e) (λ f. absurd cc)
          if_done false e none = absurd cc

  pub commits_image : (r : PendingRecord) → first (is_of tx key) s.pending ≡ Some r → r.committed ≡ false
      → commit_record s tx key epoch ≡ rows_with (set_row s.places r.key r.image epoch)
      (set_first (is_of tx key) (rows.committed r epoch) s.pending)
  commits_image r is open_one =
      commit_found (Some r) is _ (λ at e. ap (commit_if s at r epoch) open_one
      ∙ ap (rows_with (set_row s.places r.key r.image epoch))
      (ap (set_by (rows.committed r epoch) s.pending) (sym e) ∙ first-set (is_of tx key)
      (rows.committed r epoch) s.pending))
      (λ f. absurd cc)

-- a record is dropped where it is as is asked
module _ (done : Bool) (s : RowsState) (tx : TxId) (key : List ℕ) where
  abbrev pub dropped : RowsState
  dropped = rows.drop_by s done (record_at s.pending tx key) (record_of s tx key)

  drop_found : (o : Option PendingRecord) → first (is_of tx key) s.pending ≡ o → (after : RowsState)
      → ((at : ℕ) → record_at s.pending tx key ≡ Some at → rows.drop_by s done (Some at) o ≡ after)
      → (o ≡ None → s ≡ after) → dropped ≡ after
  drop_found o is after found none = by (record_at s.pending tx key) refl
    where
      by : (at : Option ℕ) → record_at s.pending tx key ≡ at → rows.drop_by s done at (record_of s tx key) ≡ after
      by None e = none (sym is ∙ sym (first-get (is_of tx key) s.pending) ∙ ap (get_by s.pending) e)
      by (Some at) e = ap (rows.drop_by s done (Some at)) (record_of-first s tx key ∙ is) ∙ found at e

  pub drops_nothing : first (is_of tx key) s.pending ≡ None → dropped ≡ s
  drops_nothing is = drop_found None is s (λ at e. refl) (λ e. refl)

  pub drops_other : (r : PendingRecord) → first (is_of tx key) s.pending ≡ Some r → is_as done r.committed ≡ false
      → dropped ≡ s
  drops_other r is other = drop_found (Some r) is s (λ at e. ap (drop_if s at r) other) (λ f. absurd cc)

  pub drops_it : (r : PendingRecord) → first (is_of tx key) s.pending ≡ Some r → is_as done r.committed ≡ true
      → dropped ≡ rows_with (freed s.places (drop_first (is_of tx key) s.pending) r.key)
      (drop_first (is_of tx key) s.pending)
  drops_it r is it =
      drop_found (Some r) is _ (λ at e. ap (drop_if s at r) it
      ∙ ap (λ w. rows_with (freed s.places w r.key) w)
      (ap (drop_by s.pending) (sym e) ∙ first-drop (is_of tx key) s.pending))
      (λ f. absurd cc)

-- a key on which nothing is at work has no record
pub idle_none : (pending : List PendingRecord) (tx : TxId) (key : List ℕ) → is_idle pending key ≡ true
    → first (is_of tx key) pending ≡ None
idle_none [] tx key idle = refl
idle_none (x ∷ xs) tx key idle =
    by (same_key x.key key) refl (list_any (is_on key) xs) refl
    (not-true (same_key x.key key || list_any (is_on key) xs) idle) (idle_none xs tx key)
  where
    by : (b : Bool) → same_key x.key key ≡ b → (c : Bool) → list_any (is_on key) xs ≡ c → (b || c) ≡ false
        → (is_idle xs key ≡ true → first (is_of tx key) xs ≡ None)
        → (if same_tx x.tx tx && same_key x.key key then Some x else first (is_of tx key) xs) ≡ None
    by true e c f none more = absurd cc
    by false e true f none more = absurd cc
    by false e false f none more =
        ap (λ b. if b then Some x else first (is_of tx key) xs)
        (ap (λ b. same_tx x.tx tx && b) e ∙ off (same_tx x.tx tx)) ∙ more (ap not f)
      where
        off : (b : Bool) → (b && false) ≡ false
        off true = refl
        off false = refl
