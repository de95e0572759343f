-- What a walk has written, and behind it the log, give the row of each key that it won't meet any more.
use Rattle.std.proofs.Common.{◌≡◌, ◌≤◌, ◌+◌, ◌⊎◌, inl, inr, ℕ, zero, suc, Bool, true, false, cond, List, [], ◌∷◌, ◌++◌}
use Rattle.std.proofs.Common.{drop, refl, sym, ap, ◌∙◌, subst, append_assoc, append-nil, arith}
use Rattle.std.specs.Prelude.{if◌then◌else◌, Option, None, Some, position, slice_index_or}
use Rattle.std.specs.Cmp.Lexicographic.{nat_list_cmp_total}
use Rattle.std.specs.List.{AllByRecursion as Each}
use Rattle.std.specs.FinMap as map
use Rattle.std.proofs.lemmas.List.{drop-drop, get_or-drop}
use Rattle.sig_core.specs.declared.redo.Redo.{Redo}
use Rattle.sig_core.specs.declared.rows.Slot.{Slot}
use Rattle.sig_core.specs.Rows.{RowsState, has_row, next_by, next_place, row_epoch}
use Rattle.sig_core.specs.Same.{same_key}
use Rattle.sig_core.specs.Table.{Rows}
use Rattle.sig_core.proofs.Keys.{same_key-swap, tied-same_key}
use Rattle.sig_core.specs.declared.stored_row.StoredRow.{StoredRow}
use Rattle.lcp_store.specs.declared.row.Version.TheVariants.{Second}
use Rattle.lcp_store.specs.Laws.{AreRowsOf, IsEpochOf, IsRowOf, all_in}
use Rattle.local_ckpt.specs.Laws.{IsReadable, IsRowIf}
use Rattle.local_ckpt.specs.Orderly.{IsOrderly}
use Rattle.sig_core.specs.Passing.{Passed, epoch_or, pass, pass_by, row_in, row_with}
use Rattle.local_ckpt.proofs.FirstRows.{IsFirstRow, each_at, epoch_fits, first_row}
use Rattle.row_records.proofs.PlaceLemmas.{apart_behind, row_at, row_behind}
use Rattle.local_ckpt.proofs.RedoLemmas.{over, redone}

-- the log makes nothing of a key's row, or what it is
abbrev pub Fits : Option (Option (List ℕ)) → Option (List ℕ) → Type 0
Fits None row = Unit {0}
Fits (Some image) row = image ≡ row

pub over_fits : (found : Option (Option (List ℕ))) (row : Option (List ℕ)) → Fits found row → over found row ≡ row
over_fits None row fits = refl
over_fits (Some image) row fits = fits

-- the key has a row that the walk will meet
abbrev pub IsAhead : RowsState → ℕ → List ℕ → Type 0
IsAhead s place q = (value : List ℕ) × (row_at (drop place s.places) q ≡ Some value)

-- what was written, and then the log, give its row
abbrev pub IsBehind : RowsState → ℕ → List Redo → List StoredRow → List ℕ → Type 0
IsBehind s epoch log written q = over (redone epoch log q) (map.get (all_in map.empty written) q) ≡ row_at s.places q

abbrev pub IsCovered : RowsState → ℕ → List Redo → ℕ → List StoredRow → List ℕ → Type 0
IsCovered s epoch log place written q = IsAhead s place q ⊎ IsBehind s epoch log written q

pub all_in-append : (rows : Rows) (xs ys : List StoredRow) → all_in rows (xs ++ ys) ≡ all_in (all_in rows xs) ys
all_in-append rows [] ys = refl
all_in-append rows (x ∷ xs) ys = all_in-append (map.insert rows x.key x.value) xs ys

pub rows_append : (saved : ℕ) (xs ys : List StoredRow) → AreRowsOf Second saved xs → AreRowsOf Second saved ys
    → AreRowsOf Second saved (xs ++ ys)
rows_append saved [] ys left right = right
rows_append saved (x ∷ xs) ys left right = (left.0, rows_append saved xs ys left.1 right)

later_epoch : (saved more : ℕ) (epoch : Option ℕ) → saved ≤ more → IsEpochOf Second saved epoch
    → IsEpochOf Second more epoch
later_epoch saved more None few is = is
later_epoch saved more (Some epoch) few is = omega (arith, few, is)

pub later_row : (saved more : ℕ) (row : StoredRow) → saved ≤ more → IsRowOf Second saved row → IsRowOf Second more row
later_row saved more row few is =
    record { key = is.key; epoch = later_epoch saved more row.epoch few is.epoch; value = is.value }

pub later_rows : (saved more : ℕ) (rows : List StoredRow) → saved ≤ more → AreRowsOf Second saved rows
    → AreRowsOf Second more rows
later_rows saved more [] few are = tt
later_rows saved more (row ∷ rows) few are = (later_row saved more row few are.0, later_rows saved more rows few are.1)

later_slot_row : (saved more : ℕ) (key : List ℕ) (epoch : ℕ) (row : Option (List ℕ)) → saved ≤ more
    → IsRowIf saved key epoch row → IsRowIf more key epoch row
later_slot_row saved more key epoch None few is = tt
later_slot_row saved more key epoch (Some value) few is =
    later_row saved more (record { key = key; epoch = Some epoch; value = value }) few is

later_slot : (saved more : ℕ) (slot : Option Slot) → saved ≤ more → IsReadable saved slot → IsReadable more slot
later_slot saved more None few is = tt
later_slot saved more (Some slot) few is = later_slot_row saved more slot.key slot.epoch slot.row few is

pub later_places : (saved more : ℕ) (places : List (Option Slot)) → saved ≤ more → Each (IsReadable saved) places
    → Each (IsReadable more) places
later_places saved more [] few all = tt
later_places saved more (slot ∷ places) few all =
    (later_slot saved more slot few all.0, later_places saved more places few all.1)

-- a row stands in place of the one that its key had
put_behind : (written : List StoredRow) (row : StoredRow) (q : List ℕ)
    → map.get (all_in map.empty (written ++ row ∷ [])) q ≡
    (if same_key row.key q then Some row.value else map.get (all_in map.empty written) q)
put_behind written row q =
    ap (λ rows. map.get rows q) (all_in-append map.empty written (row ∷ []))
    ∙ map.get-insert nat_list_cmp_total (all_in map.empty written) row.key row.value q
    ∙ ap (λ b. cond b (Some row.value) (map.get (all_in map.empty written) q))
    (tied-same_key q row.key ∙ same_key-swap q row.key)
    ∙ by (same_key row.key q)
  where
    by : (b : Bool)
        → cond b (Some row.value) (map.get (all_in map.empty written) q) ≡
        (if b then Some row.value else map.get (all_in map.empty written) q)
    by true = refl
    by false = refl

-- What a walk has come to: it has written rows that can be read, and each key that has no row ahead of it is covered.
pub record HasCome (s : RowsState) (log : List Redo) (noted place : ℕ) (written : List StoredRow) : Type 0 where
  pub rows_are : AreRowsOf Second noted written
  pub covered : (epoch : ℕ) → noted ≤ epoch → (q : List ℕ) → IsCovered s epoch log place written q

module _ (s : RowsState) (log : List Redo) (noted : ℕ) (orderly : IsOrderly s)
    (readable : Each (IsReadable noted) s.places)
    (fits : (epoch : ℕ) → noted ≤ epoch → (q : List ℕ) → Fits (redone epoch log q) (row_at s.places q)) where
  -- the row at the first place that has one is written
  module _ (place n at : ℕ) (written : List StoredRow) (come : HasCome s log noted place written)
      (first : IsFirstRow (drop place s.places) n) (at_is : place + n ≡ at) where
    passed_row : StoredRow
    passed_row =
        record { key = first.slot.key; epoch = Some (epoch_or (row_epoch s first.slot.key)); value = first.value }

    slot_is : slice_index_or s.places at None ≡ Some first.slot
    slot_is = sym (get_or-drop place s.places n None ∙ ap (λ m. slice_index_or s.places m None) at_is) ∙ first.here

    behind_is : drop (suc n) (drop place s.places) ≡ drop (at + 1) s.places
    behind_is =
        drop-drop (suc n) place s.places
        ∙ ap (λ m. drop m s.places) (let e : place + suc n ≡ at + 1 = omega (arith, at_is) in e)

    row_is : row_in s (slice_index_or s.places at None) ≡ passed_row ∷ []
    unfolding passed_row
    row_is = ap (row_in s) slot_is ∙ ap (row_with s first.slot.key) first.row

    row_fits : IsRowOf Second noted passed_row
    unfolding passed_row
    row_fits =
        let slot : IsReadable noted (Some first.slot) =
        subst (IsReadable noted) slot_is (each_at (IsReadable noted) tt s.places readable at) in
        let is : IsRowIf noted first.slot.key first.slot.epoch (Some first.value) =
        subst (IsRowIf noted first.slot.key first.slot.epoch) first.row slot in
        record { key = is.key; epoch = epoch_fits s noted first.slot.key readable; value = is.value }

    goes_on : (epoch : ℕ) → noted ≤ epoch → (q : List ℕ) → IsCovered s epoch log (at + 1) (written ++ passed_row ∷ []) q
    unfolding passed_row
    goes_on epoch few q = by (same_key first.slot.key q) refl (come.covered epoch few q)
      where
        got : (b : Bool) → same_key first.slot.key q ≡ b
            → map.get (all_in map.empty (written ++ passed_row ∷ [])) q ≡
            (if b then Some first.value else map.get (all_in map.empty written) q)
        got b e =
            put_behind written passed_row q
            ∙ ap (λ c. if c then Some first.value else map.get (all_in map.empty written) q) e

        by : (b : Bool) → same_key first.slot.key q ≡ b → IsCovered s epoch log place written q
            → IsCovered s epoch log (at + 1) (written ++ passed_row ∷ []) q
        by true e was =
            let here : row_at (drop place s.places) q ≡ Some first.value =
            first.split q ∙ ap (λ b. if b then Some first.value else row_at (drop (suc n) (drop place s.places)) q) e in
            let row : row_at s.places q ≡ Some first.value =
            row_behind place s.places q first.value orderly.apart here in
            inr (ap (over (redone epoch log q)) (got true e ∙ sym row) ∙ over_fits (redone epoch log q)
            (row_at s.places q) (fits epoch few q))
        by false e (inl (value, is)) =
            inl (
              value,
              ap (λ w. row_at w q) (sym behind_is)
                  ∙ sym (ap (λ b. if b then Some first.value else row_at (drop (suc n) (drop place s.places)) q) e)
                  ∙ sym (first.split q) ∙ is,
            )
        by false e (inr is) = inr (ap (over (redone epoch log q)) (got false e) ∙ is)

    row_passed : HasCome s log noted (at + 1) (written ++ row_in s (slice_index_or s.places at None))
    row_passed =
        subst (λ w. HasCome s log noted (at + 1) (written ++ w)) (sym row_is)
        (record {
          rows_are = rows_append noted written (passed_row ∷ []) come.rows_are
              (row_fits, tt);
          covered = goes_on;
        })

  one_passed : (place : ℕ) (written : List StoredRow) → HasCome s log noted place written → (at : ℕ)
      → next_place s place ≡ Some at
      → HasCome s log noted (at + 1) (written ++ row_in s (slice_index_or s.places at None))
  unfolding next_place
  one_passed place written come at is = by (position has_row (drop place s.places)) refl is
    where
      by : (o : Option ℕ) → position has_row (drop place s.places) ≡ o → next_by place o ≡ Some at
          → HasCome s log noted (at + 1) (written ++ row_in s (slice_index_or s.places at None))
      by None e is = absurd cc
      by (Some n) e is =
          let at_is : place + n ≡ at = cc in
          row_passed place n at written come
          (first_row (drop place s.places) (apart_behind place s.places orderly.apart) n e) at_is

  -- so many rows are passed
  pub many_passed : (more place : ℕ) (written : List StoredRow) → HasCome s log noted place written
      → let passed = pass s more (record { rows = []; place = place }) in HasCome s log noted passed.place
      (written ++ passed.rows)
  many_passed zero place written come = subst (HasCome s log noted place) (sym (append-nil written)) come
  many_passed (suc more) place written come =
      let d : Passed = pass s more (record { rows = []; place = place }) in
      by d (next_place s d.place) refl (many_passed more place written come)
    where
      by : (d : Passed) (o : Option ℕ) → next_place s d.place ≡ o → HasCome s log noted d.place (written ++ d.rows)
          → HasCome s log noted (pass_by s d o).place (written ++ (pass_by s d o).rows)
      by d None e come = come
      by d (Some at) e come =
          subst (HasCome s log noted (at + 1))
          (append_assoc written d.rows (row_in s (slice_index_or s.places at None)))
          (one_passed d.place (written ++ d.rows) come at e)
