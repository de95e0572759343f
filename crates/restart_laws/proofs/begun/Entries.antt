-- The entries of maps, put into one map one behind the other: at each key it has what the only map gives that has it.
use Rattle.std.proofs.Common.{◌≡◌, ◌∙◌, ◌++◌, ℕ, zero, suc, Bool, true, false, cond, T, List, [], ◌∷◌, refl, sym, ap}
use Rattle.std.proofs.Common.{get_or, arith, Ordering, Less, Equal, Greater}
use Rattle.std.specs.Cmp.Lexicographic.{nat_list_cmp_total}
use Rattle.std.specs.FinMap as map
use Rattle.std.specs.FinMap.Entries.{below_all, is_sorted}
use Rattle.std.specs.List.{flat_map}
use Rattle.std.specs.Ordering.{is_eq, is_lt}
use Rattle.std.specs.Prelude.{Option, None, Some}
use Rattle.serial_model.specs.Legal.{rows_of, rows_over}
use Rattle.sig_core.proofs.Keys.{tied-same_key}
use Rattle.sig_core.specs.Same.{same_key}
use Rattle.sig_core.specs.Table.{Rows}
use Rattle.row_records.proofs.KeyLemmas.{same}
use Rattle.host_laws.proofs.rows.QueueWaits.{R, first_T, second_T}

-- what is found, or else what was there
abbrev over : Option (List ℕ) → Option (List ℕ) → Option (List ℕ)
over None old = old
over (Some value) old = Some value

not_tied : (o : Ordering) → T (is_lt o) → is_eq o ≡ false
not_tied Less less = refl
not_tied Equal less = absurd less
not_tied Greater less = absurd less

-- a key below all isn't found
below_none : (key : List ℕ) (rows : List (List ℕ × List ℕ)) → T (below_all R key rows) → map.find R key rows ≡ None
below_none key [] below = refl
below_none key (row ∷ rows) below =
    ap (λ b. cond b (Some row.1) (map.find R key rows))
    (not_tied (R key row.0) (first_T (is_lt (R key row.0)) (below_all R key rows) below))
    ∙ below_none key rows (second_T (is_lt (R key row.0)) (below_all R key rows) below)

-- rows behind others are put over what these give
behind : (table : Rows) (first rest : List (List ℕ × List ℕ))
    → rows_over table (first ++ rest) ≡ rows_over (rows_over table first) rest
behind table [] rest = refl
behind table (row ∷ first) rest = behind (map.insert table row.0 row.1) first rest

module _ (key : List ℕ) where
  -- rows in the order of their keys, put over others
  put_over : (table : Rows) (rows : List (List ℕ × List ℕ)) → T (is_sorted R rows)
      → map.get (rows_over table rows) key ≡ over (map.find R key rows) (map.get table key)
  put_over table [] sorted = refl
  put_over table (row ∷ rows) sorted =
      put_over (map.insert table row.0 row.1) rows (second_T (below_all R row.0 rows) (is_sorted R rows) sorted)
      ∙ ap (over (map.find R key rows))
      (map.get-insert nat_list_cmp_total table row.0 row.1 key
      ∙ ap (λ b. cond b (Some row.1) (map.get table key)) (tied-same_key key row.0))
      ∙ by (same_key key row.0) refl
      ∙ ap (λ b. over (cond b (Some row.1) (map.find R key rows)) (map.get table key)) (sym (tied-same_key key row.0))
    where
      by : (b : Bool) → same_key key row.0 ≡ b
          → over (map.find R key rows) (cond b (Some row.1) (map.get table key))
          ≡ over (cond b (Some row.1) (map.find R key rows)) (map.get table key)
      by true own =
          ap (λ found. over found (Some row.1))
          (ap (λ k. map.find R k rows) (same key row.0 own)
          ∙ below_none row.0 rows (first_T (below_all R row.0 rows) (is_sorted R rows) sorted))
      by false other = refl

  -- so the entries of a map give what the map has
  map_over : (table rows : Rows)
      → map.get (rows_over table (map.entries rows)) key ≡ over (map.get rows key) (map.get table key)
  map_over table rows =
      put_over table (map.entries rows) (map.entries_sorted rows)
      ∙ ap (λ found. over found (map.get table key)) (sym (map.get-entries rows key))

  -- no map but the one at this place has the key
  abbrev pub HasAlone : List Rows → ℕ → Type 0
  HasAlone maps at = (i : ℕ) → (i ≡ at → ⊥) → map.get (get_or maps i map.empty) key ≡ None

  maps_over : (table : Rows) (maps : List Rows) (at : ℕ) → HasAlone maps at
      → map.get (rows_over table (flat_map map.entries maps)) key
      ≡ over (map.get (get_or maps at map.empty) key) (map.get table key)
  maps_over table [] at alone = ap (λ found. over found (map.get table key)) (sym (map.get-empty R key))
  maps_over table (rows ∷ maps) zero alone =
      ap (λ whole. map.get whole key) (behind table (map.entries rows) (flat_map map.entries maps))
      ∙ maps_over (rows_over table (map.entries rows)) maps 0 (λ i differs. alone (suc i) (λ is. omega (arith, is)))
      ∙ ap (λ found. over found (map.get (rows_over table (map.entries rows)) key)) (alone 1 (λ is. omega (arith, is)))
      ∙ map_over table rows
  maps_over table (rows ∷ maps) (suc at) alone =
      ap (λ whole. map.get whole key) (behind table (map.entries rows) (flat_map map.entries maps))
      ∙ maps_over (rows_over table (map.entries rows)) maps at
      (λ i differs. alone (suc i) (λ is. differs (omega (arith, is))))
      ∙ ap (over (map.get (get_or maps at map.empty) key))
      (map_over table rows ∙ ap (λ found. over found (map.get table key)) (alone 0 (λ is. omega (arith, is))))

  over_none : (old found : Option (List ℕ)) → old ≡ None → over found old ≡ found
  over_none old None none = none
  over_none old (Some value) none = refl

  pub only_one : (maps : List Rows) (at : ℕ) → HasAlone maps at
      → map.get (rows_of (flat_map map.entries maps)) key ≡ map.get (get_or maps at map.empty) key
  only_one maps at alone =
      maps_over map.empty maps at alone
      ∙ over_none (map.get map.empty key) (map.get (get_or maps at map.empty) key) (map.get-empty R key)
