-- The rows with which a member begins are at rest, and can be written, where those that they are can.
use Rattle.std.proofs.Common.{◌≡◌, ◌≤◌, ◌∙◌, ℕ, Bool, true, false, cond, List, [], ◌∷◌, refl, sym, ap, subst, arith}
use Rattle.std.proofs.Common.{Ordering}
use Rattle.std.proofs.lemmas.Map.Lookups.{exact_bytes}
use Rattle.std.proofs.lemmas.Map.Views.{tells_apart}
use Rattle.std.specs.Cmp.Lexicographic.{slice_cmp}
use Rattle.std.specs.FinMap as map
use Rattle.std.specs.FinMap.Entries.{find}
use Rattle.std.specs.List.{AllByRecursion as Each}
use Rattle.std.specs.Ordering.{eq_by_cmp, nat_cmp}
use Rattle.std.specs.Prelude.{if◌then◌else◌, Option, None, Some}
use Rattle.run_theory.specs.Lists.{IsIn}
use Rattle.sig_core.proofs.Firsts.{set_first}
use Rattle.sig_core.proofs.Keys.{same_key-self}
use Rattle.sig_core.specs.declared.key.TheConstants.{KEY_BYTES}
use Rattle.sig_core.specs.declared.member.Member.{Member}
use Rattle.sig_core.specs.declared.member.TxId.{TxId}
use Rattle.sig_core.specs.declared.rows.Slot.{Slot}
use Rattle.sig_core.specs.declared.value.TheConstants.{VALUE_BYTES}
use Rattle.sig_core.specs.Firsts.{first}
use Rattle.sig_core.specs.Rows.{RowsState, is_at, is_of, no_row, no_rows, placed, put_row, with_place, with_row}
use Rattle.sig_core.specs.Table.{Rows}
use Rattle.lcp_store.specs.Laws.{IsWordOf}
use Rattle.local_ckpt.specs.Laws.{IsReadable, IsRowIf}
use Rattle.local_ckpt.specs.Orderly.{image_in, prepared_in}
use Rattle.lqh_views.specs.State.{ReplicaState}
use Rattle.node_core.specs.Fresh.{own_rows, with_rows}
use Rattle.row_records.specs.Places.{AreApart}
use Rattle.row_records.proofs.PlaceLemmas.{by_place, row_at, row_behind, row_of-at, set_row-first}
use Rattle.world_core.specs.Start.{NobodyStarts, Start, made}
use Rattle.journal_laws.specs.Checkpoints.{AreAtRest}
use Rattle.journal_laws.specs.Journal.{first_rows}
use Rattle.journal_laws.proofs.events.FirstRows.{first_orderly, first_pending, first_replica}
use Rattle.saved_laws.specs.Checkpoints.{AreWords}

abbrev in_order : List ℕ → List ℕ → Ordering
in_order = slice_cmp nat_cmp

abbrev AreBoth : List ℕ → List ℕ → Type 0
AreBoth key value = IsWordOf 1 KEY_BYTES key × IsWordOf 0 VALUE_BYTES value

-- what is found among words is one
found_words : (key value : List ℕ) (rows : List (List ℕ × List ℕ)) → Each (λ row. AreBoth row.0 row.1) rows
    → find in_order key rows ≡ Some value → AreBoth key value
found_words key value [] words found = absurd cc
found_words key value (row ∷ rows) words found =
    by (eq_by_cmp in_order key row.0) refl found (found_words key value rows words.1)
  where
    by : (b : Bool) → eq_by_cmp in_order key row.0 ≡ b → cond b (Some row.1) (find in_order key rows) ≡ Some value
        → (find in_order key rows ≡ Some value → AreBoth key value) → AreBoth key value
    by true is found more = (
      subst (IsWordOf 1 KEY_BYTES) (sym (tells_apart exact_bytes key row.0 is)) words.0.0,
      (let same : row.1 ≡ value = cc in subst (IsWordOf 0 VALUE_BYTES) same words.0.1),
    )
    by false is found more = more found

module _ (most : ℕ) where
  -- the row of a place isn't of a later epoch
  abbrev IsNoLater : Option Slot → Type 0
  IsNoLater None = Unit {0}
  IsNoLater (Some slot) = slot.epoch ≤ most

  set_later : (p : Option Slot → Bool) (one : Option Slot) → IsNoLater one → (places : List (Option Slot))
      → Each IsNoLater places → Each IsNoLater (set_first p one places)
  set_later p one low [] all = tt
  set_later p one low (place ∷ places) all = by (p place) (set_later p one low places all.1)
    where
      by : (b : Bool) → Each IsNoLater (set_first p one places)
          → Each IsNoLater (if b then one ∷ places else place ∷ set_first p one places)
      by true more = (low, all.1)
      by false more = (all.0, more)

  placed_later : (key : List ℕ) (places : List (Option Slot)) → Each IsNoLater places
      → Each IsNoLater (placed (no_row key) places)
  placed_later key [] all = (omega arith, tt)
  placed_later key (None ∷ places) all = (omega arith, all.1)
  placed_later key (Some other ∷ places) all = (all.0, placed_later key places all.1)

  module _ (epoch : ℕ) (low : epoch ≤ most) where
    put_later : (s : RowsState) (key value : List ℕ) → Each IsNoLater s.places
        → Each IsNoLater (put_row s key value epoch).places
    put_later s key value all =
        subst (Each IsNoLater) (sym (set_row-first (with_place s.places key) key (Some value) epoch))
        (set_later (is_at key) (Some (with_row key (Some value) epoch)) low (with_place s.places key)
        (by_place (Each IsNoLater) s.places key all (λ off. placed_later key s.places all)))

    all_later : (s : RowsState) (rows : List (List ℕ × List ℕ)) → Each IsNoLater s.places
        → Each IsNoLater (with_rows s rows epoch).places
    all_later s [] all = all
    all_later s (row ∷ rows) all = all_later (put_row s row.0 row.1 epoch) rows (put_later s row.0 row.1 all)

  readable_if : (key : List ℕ) (epoch : ℕ) (row : Option (List ℕ)) → epoch ≤ most
      → ((value : List ℕ) → row ≡ Some value → AreBoth key value) → IsRowIf most key epoch row
  readable_if key epoch None low words = tt
  readable_if key epoch (Some value) low words =
      let both = words value refl in record { key = both.0; epoch = low; value = both.1 }

  -- rows of words, none of a later epoch, can be read
  readable : (places : List (Option Slot)) → AreApart places → Each IsNoLater places
      → ((key value : List ℕ) → row_at places key ≡ Some value → AreBoth key value)
      → Each (IsReadable most) places
  readable [] apart low words = tt
  readable (None ∷ places) apart low words = (tt, readable places apart low.1 words)
  readable (Some slot ∷ places) apart low words = (
    readable_if slot.key slot.epoch slot.row low.0
        (λ value is. words slot.key value
        (ap (λ b. if b then slot.row else row_at places slot.key) (same_key-self slot.key) ∙ is)),
    readable places apart.1 low.1
        (λ key value is. words key value (row_behind 1 (Some slot ∷ places) key value apart is)),
  )

module _ (start : Start) (nobody : NobodyStarts start) (member : Member) (there : IsIn member (made start)) where
  abbrev first_places : List (Option Slot)
  first_places = (first_rows start member).places

  pub none_prepared : (tx : TxId) (key : List ℕ) (image : Option (List ℕ))
      → image_in (first_rows start member) tx key ≡ Some image → ⊥
  none_prepared tx key image is =
      let both : None ≡ Some image =
      sym (ap (λ pending. prepared_in (first (is_of tx key) pending)) (first_pending start nobody member there)) ∙ is in
      absurd cc

  first_later : (noted : ℕ) → start.start_epoch ≤ noted → Each (IsNoLater noted) first_places
  first_later noted least =
      subst (λ (s : ReplicaState). Each (IsNoLater noted) s.lqh.rows.places)
      (sym (first_replica start nobody member there))
      (all_later noted start.start_epoch least no_rows (own_rows start.shape member.node start.rows) tt)

  module _ (before : Rows) (words : AreWords start member before) where
    row_words : (key value : List ℕ) → row_at first_places key ≡ Some value → AreBoth key value
    row_words key value is =
        found_words key value (map.entries before) words.storable
        (sym (map.get-entries before key) ∙ words.table key ∙ row_of-at (first_rows start member) key ∙ is)

    pub at_rest : (noted : ℕ) → start.start_epoch ≤ noted → AreAtRest noted (first_rows start member) before
    at_rest noted least =
        let orderly = first_orderly start nobody member there in
        record {
          kept = record {
            orderly = orderly;
            locked = λ tx key image here. absurd (none_prepared tx key image here);
            readable = readable noted first_places orderly.apart (first_later noted least) row_words;
            images = λ tx key image here. absurd (none_prepared tx key image here);
          };
          idle = first_pending start nobody member there;
          table = words.table;
        }
