-- The first row behind a place, and the row epochs of a node.
use Rattle.std.proofs.Common.{◌≡◌, ◌≤◌, ℕ, zero, suc, Bool, true, false, List, [], ◌∷◌, drop, refl, sym, ap, ◌∙◌, subst}
use Rattle.std.proofs.Common.{arith}
use Rattle.std.specs.List.{AllByRecursion as Each}
use Rattle.std.specs.Prelude.{if◌then◌else◌, Option, None, Some, is_some, position, slice_index_or}
use Rattle.sig_core.specs.declared.rows.Slot.{Slot}
use Rattle.sig_core.specs.Rows.{RowsState, epoch_by, epoch_if, epoch_in, has_row, place_of, row_epoch}
use Rattle.sig_core.specs.Same.{same_key}
use Rattle.sig_core.proofs.Firsts.{place_by, position-cons}
use Rattle.local_ckpt.specs.Laws.{IsReadable, IsRowIf}
use Rattle.row_records.specs.Places.{AreApart, has_place}
use Rattle.sig_core.specs.Passing.{epoch_or}
use Rattle.row_records.proofs.KeyLemmas.{same}
use Rattle.row_records.proofs.PlaceLemmas.{no_place, row_at}

-- the first place with a row: its row is that of its key, and all others stand behind it
pub record IsFirstRow (places : List (Option Slot)) (n : ℕ) : Type 0 where
  pub slot : Slot
  pub value : List ℕ
  pub here : slice_index_or places n None ≡ Some slot
  pub row : slot.row ≡ Some value
  pub split : (q : List ℕ)
      → row_at places q ≡ (if same_key slot.key q then Some value else row_at (drop (suc n) places) q)

-- a place without a row in front of it changes nothing
behind_free : (places : List (Option Slot)) (n : ℕ) → IsFirstRow places n → IsFirstRow (None ∷ places) (suc n)
behind_free places n first =
    record { slot = first.slot; value = first.value; here = first.here; row = first.row; split = first.split }

behind_rowless : (slot : Slot) (places : List (Option Slot)) (n : ℕ) → slot.row ≡ None
    → has_place places slot.key ≡ false
    → IsFirstRow places n → IsFirstRow (Some slot ∷ places) (suc n)
behind_rowless slot places n none off first =
    record {
      slot = first.slot;
      value = first.value;
      here = first.here;
      row = first.row;
      split = λ q. by q
          (same_key slot.key q) refl;
    }
  where
    by : (q : List ℕ) (b : Bool) → same_key slot.key q ≡ b
        → (if b then slot.row else row_at places q) ≡
        (if same_key first.slot.key q then Some first.value else row_at (drop (suc n) places) q)
    by q true e =
        let gone : row_at places q ≡ None =
        ap (row_at places) (sym (same slot.key q e)) ∙ no_place places slot.key off in
        none ∙ sym gone ∙ first.split q
    by q false e = first.split q

at_front : (slot : Slot) (places : List (Option Slot)) (value : List ℕ) → slot.row ≡ Some value
    → IsFirstRow (Some slot ∷ places) 0
at_front slot places value row =
    record {
      slot = slot;
      value = value;
      here = refl;
      row = row;
      split = λ q. ap
          (λ w. if same_key slot.key q then w else row_at places q) row;
    }

pub first_row : (places : List (Option Slot)) → AreApart places → (n : ℕ) → position has_row places ≡ Some n
    → IsFirstRow places n
first_row [] apart n is = absurd cc
first_row (None ∷ places) apart n is =
    by (position has_row places) refl (sym (position-cons has_row None places) ∙ is) (first_row places apart)
  where
    by : (o : Option ℕ) → position has_row places ≡ o → place_by false o ≡ Some n
        → ((k : ℕ) → position has_row places ≡ Some k → IsFirstRow places k)
        → IsFirstRow (None ∷ places) n
    by None e is more = absurd cc
    by (Some k) e is more =
        let at : suc k ≡ n = cc in subst (IsFirstRow (None ∷ places)) at (behind_free places k (more k e))
first_row (Some slot ∷ places) apart n is =
    by slot.row refl (position has_row places) refl (sym (position-cons has_row (Some slot) places) ∙ is)
    (first_row places apart.1)
  where
    by : (row : Option (List ℕ)) → slot.row ≡ row → (o : Option ℕ) → position has_row places ≡ o
        → place_by (is_some row) o ≡ Some n
        → ((k : ℕ) → position has_row places ≡ Some k → IsFirstRow places k) → IsFirstRow (Some slot ∷ places) n
    by (Some value) f o e is more =
        let at : 0 ≡ n = cc in subst (IsFirstRow (Some slot ∷ places)) at (at_front slot places value f)
    by None f None e is more = absurd cc
    by None f (Some k) e is more =
        let at : suc k ≡ n =
        cc in subst (IsFirstRow (Some slot ∷ places)) at (behind_rowless slot places k f apart.0 (more k e))

pub no_rows_left : (places : List (Option Slot)) → position has_row places ≡ None → (q : List ℕ)
    → row_at places q ≡ None
no_rows_left [] is q = refl
no_rows_left (None ∷ places) is q =
    by (position has_row places) refl (sym (position-cons has_row None places) ∙ is) (λ e. no_rows_left places e q)
  where
    by : (o : Option ℕ) → position has_row places ≡ o → place_by false o ≡ None
        → (position has_row places ≡ None → row_at places q ≡ None) → row_at places q ≡ None
    by None e is more = more e
    by (Some k) e is more = absurd cc
no_rows_left (Some slot ∷ places) is q =
    by slot.row refl (position has_row places) refl (sym (position-cons has_row (Some slot) places) ∙ is)
    (λ e. no_rows_left places e q)
  where
    either : (b : Bool) (row other : Option (List ℕ)) → row ≡ None → other ≡ None → (if b then row else other) ≡ None
    either true row other none gone = none
    either false row other none gone = gone

    by : (row : Option (List ℕ)) → slot.row ≡ row → (o : Option ℕ) → position has_row places ≡ o
        → place_by (is_some row) o ≡ None
        → (position has_row places ≡ None → row_at places q ≡ None)
        → (if same_key slot.key q then slot.row else row_at places q) ≡ None
    by (Some value) f o e is more = absurd cc
    by None f None e is more = either (same_key slot.key q) slot.row (row_at places q) f (more e)
    by None f (Some k) e is more = absurd cc

-- what holds of each place holds of one that is looked up
pub each_at : (P : Option Slot → Type 0) → P None → (places : List (Option Slot)) → Each P places → (n : ℕ)
    → P (slice_index_or places n None)
each_at P free [] all zero = free
each_at P free [] all (suc n) = free
each_at P free (slot ∷ places) all zero = all.0
each_at P free (slot ∷ places) all (suc n) = each_at P free places all.1 n

-- no row is of a later epoch than this
pub epoch_fits : (s : RowsState) (most : ℕ) (key : List ℕ) → Each (IsReadable most) s.places
    → epoch_or (row_epoch s key) ≤ most
unfolding row_epoch
epoch_fits s most key all = by (place_of s.places key)
  where
    of_row : (slot : Slot) (row : Option (List ℕ)) → IsRowIf most slot.key slot.epoch row
        → epoch_or (epoch_if row slot.epoch) ≤ most
    of_row slot None is = omega arith
    of_row slot (Some value) is = is.epoch

    of_slot : (slot : Option Slot) → IsReadable most slot → epoch_or (epoch_in slot) ≤ most
    of_slot None is = omega arith
    of_slot (Some slot) is = of_row slot slot.row is

    by : (at : Option ℕ) → epoch_or (epoch_by s.places at) ≤ most
    by None = omega arith
    by (Some at) = of_slot (slice_index_or s.places at None) (each_at (IsReadable most) tt s.places all at)
