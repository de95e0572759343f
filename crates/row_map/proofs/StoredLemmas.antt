-- What stands where it stood, and what the rows are then.
use Rattle.std.proofs.Common.{◌≡◌, ◌∙◌, ◌⊎◌, inl, inr, ℕ, zero, suc, ◌+◌, ◌-◌, ◌≤◌, Bool, true, false, true≢false, cond, List}
use Rattle.std.proofs.Common.{[], ◌∷◌, ◌++◌, refl, ap, sym, subst, length, take, drop, map, arith, append_assoc, length-append}
use Rattle.std.proofs.lemmas.List.{drop-drop, take-append-drop}
use Rattle.std.specs.Prelude.{Option, Some, None, option_map, slice_get}
use Rattle.std.specs.Cmp.Lexicographic.{nat_list_cmp_total, nat_list_eq_equiv}
use Rattle.std.specs.FinMap as map
use Rattle.std.proofs.lemmas.List.Elements.{All-push, All-same}
use Rattle.std.specs.List.{All, AllByRecursion, IsDistinct}
use Rattle.std.specs.Map.{keys_of, lookup}
use Rattle.std.specs.Ordering.{eq_by_cmp}
use Rattle.std.proofs.lemmas.Map.Entries.{lookup_from_place}
use borrow.Rule.Slice.PartMut.{put_mid}
use Rattle.indexmap.specs.IndexMap.{IndexMap, Updates, UpdatesBy}
use Rattle.row_map.specs.declared.rows.Stored.{Stored}
use Rattle.row_map.specs.Stored.{AreApart, AreStored, IsStored, IsValue, overwritten, place_of, row_at}
use Rattle.row_map.specs.Stored.{rows_at, same, value_at}
use Rattle.row_map.proofs.HashedLemmas.{get_hashed, in_order, same_either_way}

-- ---- parts of lists

take_front : (n : ℕ) (xs ys : List ℕ) → n ≤ length xs → take n (xs ++ ys) ≡ take n xs
take_front zero xs ys low = refl
take_front (suc n) [] ys low = absurd (omega (arith, low))
take_front (suc n) (x ∷ xs) ys low = ap (λ l. x ∷ l) (take_front n xs ys (omega (arith, low)))

-- a part of the front, whatever stands behind
front_part : (at n : ℕ) (xs ys : List ℕ) → at + n ≤ length xs → take n (drop at (xs ++ ys)) ≡ take n (drop at xs)
front_part zero n xs ys low = take_front n xs ys (omega (arith, low))
front_part (suc at) n [] ys low = absurd (omega (arith, low))
front_part (suc at) n (x ∷ xs) ys low = front_part at n xs ys (omega (arith, low))

-- what stands behind a front
drop_behind : (at : ℕ) (xs ys : List ℕ) → length xs ≤ at → drop at (xs ++ ys) ≡ drop (at - length xs) ys
drop_behind at [] ys low = ap (λ n. drop n ys) (omega arith)
drop_behind zero (x ∷ xs) ys low = absurd (omega (arith, low))
drop_behind (suc at) (x ∷ xs) ys low =
    drop_behind at xs ys (omega (arith, low)) ∙ ap (λ n. drop n ys) (omega arith)

take_whole : (xs : List ℕ) → take (length xs) xs ≡ xs
take_whole [] = refl
take_whole (x ∷ xs) = ap (λ l. x ∷ l) (take_whole xs)

length_take : (n : ℕ) (xs : List ℕ) → n ≤ length xs → length (take n xs) ≡ n
length_take zero xs low = refl
length_take (suc n) [] low = absurd (omega (arith, low))
length_take (suc n) (x ∷ xs) low = ap suc (length_take n xs (omega (arith, low)))

-- ---- more bytes behind those that there are

kept_behind : (bytes more : List ℕ) (one : Stored) → IsStored bytes one → value_at (bytes ++ more) one ≡ value_at bytes one
kept_behind bytes more one is = front_part one.at one.len bytes more is.within

stored_behind : (bytes more : List ℕ) (one : Stored) → IsStored bytes one → IsStored (bytes ++ more) one
stored_behind bytes more one is = record {
  within = omega (arith, is.within, length-append bytes more);
  value = subst IsValue (sym (kept_behind bytes more one is)) is.value;
}

-- ---- a value over another one

module _ (bytes value : List ℕ) (at : ℕ) (within : at + length value ≤ length bytes) where
  abbrev over : List ℕ
  over = overwritten at value bytes

  front_size : length (take at bytes) ≡ at
  front_size = length_take at bytes (omega (arith, within))

  here : take (length value) (drop at over) ≡ value
  here =
      ap (take (length value)) (drop_behind at (take at bytes) (value ++ drop (at + length value) bytes)
      (omega (arith, front_size)))
      ∙ ap (λ n. take (length value) (drop n (value ++ drop (at + length value) bytes)))
      (the_zero (at - length (take at bytes)) (omega (arith, front_size)))
      ∙ take_front (length value) value (drop (at + length value) bytes) (omega arith)
      ∙ take_whole value
    where
      the_zero : (n : ℕ) → n ≡ 0 → n ≡ 0
      the_zero n e = e

  size : length over ≡ length bytes
  size =
      let parts : length (take at bytes) + length (drop at bytes) ≡ length bytes =
      sym (length-append (take at bytes) (drop at bytes)) ∙ ap length (take-append-drop at bytes) in
      let rest : length (drop (at + length value) bytes) + (at + length value) ≡ length bytes = length_drop (at + length value) bytes within in
      length-append (take at bytes) (value ++ drop (at + length value) bytes)
      ∙ omega (arith, front_size, rest, length-append value (drop (at + length value) bytes))
    where
      length_drop : (n : ℕ) (xs : List ℕ) → n ≤ length xs → length (drop n xs) + n ≡ length xs
      length_drop zero xs low = omega arith
      length_drop (suc n) [] low = absurd (omega (arith, low))
      length_drop (suc n) (x ∷ xs) low = omega (arith, length_drop n xs (omega (arith, low)))

  before : (from n : ℕ) → from + n ≤ at → take n (drop from over) ≡ take n (drop from bytes)
  before from n low =
      front_part from n (take at bytes) (value ++ drop (at + length value) bytes) (omega (arith, low, front_size))
      ∙ sym (front_part from n (take at bytes) (drop at bytes) (omega (arith, low, front_size)))
      ∙ ap (λ l. take n (drop from l)) (take-append-drop at bytes)

  behind : (from n : ℕ) → at + length value ≤ from → take n (drop from over) ≡ take n (drop from bytes)
  behind from n low =
      let front : length (take at bytes ++ value) ≡ at + length value = omega (arith, front_size, length-append (take at bytes) value) in
      let end = at + length value in
      let whole : length (take end bytes) ≡ end = length_take end bytes within in
      ap (λ l. take n (drop from l)) (sym (append_assoc (take at bytes) value (drop end bytes)))
      ∙ ap (take n) (drop_behind from (take at bytes ++ value) (drop end bytes) (omega (arith, low, front)))
      ∙ ap (λ k. take n (drop k (drop end bytes))) (same_place from (length (take at bytes ++ value)) (length (take end bytes)) (front ∙ sym whole))
      ∙ ap (take n) (sym (drop_behind from (take end bytes) (drop end bytes) (omega (arith, low, whole))))
      ∙ ap (λ l. take n (drop from l)) (take-append-drop end bytes)
    where
      same_place : (from one other : ℕ) → one ≡ other → from - one ≡ from - other
      same_place from one other e = ap (λ k. from - k) e

-- what was put over the place of a slice
pub written_over : (at count : ℕ) (bytes value : List ℕ) → count ≡ length value
    → put_mid at count bytes value ≡ overwritten at value bytes
written_over at count bytes value size =
    subst (λ n. put_mid at n bytes value ≡ overwritten at value bytes) (sym size)
    (ap (λ l. take at bytes ++ (value ++ l))
    (drop-drop (length value) at bytes ∙ ap (λ n. drop n bytes) (omega arith)))

pub ruleset overwrites = (written_over)

-- ---- rows by their keys

find_rows : (bytes : List ℕ) (t : List ℕ → Bool) (es : List (List ℕ × Stored))
    → lookup t (rows_at bytes es) ≡ option_map (value_at bytes) (lookup t es)
find_rows bytes t [] = refl
find_rows bytes t (e ∷ es) = by (t e.0) (find_rows bytes t es)
  where
    by : (b : Bool) → lookup t (rows_at bytes es) ≡ option_map (value_at bytes) (lookup t es)
        → cond b (Some (value_at bytes e.1)) (lookup t (rows_at bytes es))
        ≡ option_map (value_at bytes) (cond b (Some e.1) (lookup t es))
    by true rest = refl
    by false rest = rest

pub get_rows : (bytes : List ℕ) (es : List (List ℕ × Stored)) (q : List ℕ)
    → map.get (map.from_entries {R = in_order} (rows_at bytes es)) q ≡ option_map (value_at bytes) (place_of es q)
get_rows bytes es q = get_hashed (rows_at bytes es) q ∙ find_rows bytes (same q) es

-- two lists of rows that have the same rows
alike : (one other : List (List ℕ × List ℕ))
    → ((q : List ℕ) → map.get (map.from_entries {R = in_order} one) q ≡ map.get (map.from_entries {R = in_order} other) q)
    → map.from_entries {R = in_order} one ≡ map.from_entries other
alike one other same_rows =
    map.same_map nat_list_cmp_total (map.slice_cmp-IsAntisymmetric map.nat_cmp-IsAntisymmetric) _ _ same_rows

-- places at which the same values stand
same_values : (old new : List ℕ) (place : Option Stored)
    → ((one : Stored) → place ≡ Some one → value_at new one ≡ value_at old one)
    → option_map (value_at new) place ≡ option_map (value_at old) place
same_values old new None kept = refl
same_values old new (Some one) kept = ap Some (kept one refl)

-- ---- no rows

pub nothing_stored : AreStored [] []
nothing_stored = record {
  stored = λ key one is. absurd (none one is);
  apart = λ key other one two differ is too. absurd (none one is);
}
  where
    none : (one : Stored) → None ≡ Some one → ⊥
    none one is = cc (is)

pub ruleset none = (nothing_stored)

-- ---- one row

pub got : (bytes : List ℕ) (es : List (List ℕ × Stored)) (q : List ℕ) (place : Option Stored) → place_of es q ≡ place
    → map.get (map.from_entries {R = in_order} (rows_at bytes es)) q ≡ option_map (value_at bytes) place
got bytes es q place is = get_rows bytes es q ∙ ap (option_map (value_at bytes)) is

pub ruleset gets = (got)

-- ---- more bytes

module _ (bytes more : List ℕ) (es : List (List ℕ × Stored)) (are : AreStored bytes es) where
  pub more_stored : AreStored (bytes ++ more) es
  more_stored = record {
    stored = λ key one is. stored_behind bytes more one (are.stored key one is);
    apart = are.apart;
  }

  pub more_rows : map.from_entries {R = in_order} (rows_at (bytes ++ more) es) ≡ map.from_entries (rows_at bytes es)
  more_rows =
      alike (rows_at (bytes ++ more) es) (rows_at bytes es)
      (λ q. get_rows (bytes ++ more) es q
      ∙ same_values bytes (bytes ++ more) (place_of es q)
      (λ one is. kept_behind bytes more one (are.stored q one is))
      ∙ sym (get_rows bytes es q))

-- ---- a row that is stored behind

module _ {S : Type 0} (bytes value : List ℕ) (m n : IndexMap (List ℕ) Stored S) (k : List ℕ) (new : Stored)
    (are : AreStored bytes m.entries) (is : IsValue value) (at : new.at ≡ length bytes) (len : new.len ≡ length value)
    (updates : Updates same m n k (Some new)) where
  abbrev bytes_now : List ℕ
  bytes_now = bytes ++ value

  stands : value_at bytes_now new ≡ value
  stands =
      ap (λ n. take n (drop new.at bytes_now)) len
      ∙ ap (λ n. take (length value) (drop n bytes_now)) at
      ∙ ap (take (length value)) (drop_behind (length bytes) bytes value (omega arith))
      ∙ ap (λ n. take (length value) (drop n value)) (nothing (length bytes))
      ∙ take_whole value
    where
      nothing : (n : ℕ) → n - n ≡ 0
      nothing n = omega arith

  new_stored : IsStored bytes_now new
  new_stored = record {
    within = omega (arith, at, len, length-append bytes value);
    value = subst IsValue (sym stands) is;
  }

  -- who has a place now has the new one, or had it before
  place_now : (q : List ℕ) (one : Stored) → place_of n.entries q ≡ Some one
      → ((same k q ≡ true) × (one ≡ new)) ⊎ ((same k q ≡ false) × (place_of m.entries q ≡ Some one))
  place_now q one found = by (same k q) refl
    where
      by : (b : Bool) → same k q ≡ b
          → ((same k q ≡ true) × (one ≡ new)) ⊎ ((same k q ≡ false) × (place_of m.entries q ≡ Some one))
      by true e =
          let now : Some new ≡ Some one =
          sym (updates.0 q ∙ ap (λ b. cond b (Some new) (place_of m.entries q)) e) ∙ found in
          inl (e, cc (now))
      by false e =
          inr (e, sym (updates.0 q ∙ ap (λ b. cond b (Some new) (place_of m.entries q)) e) ∙ found)

  pub insert_stored : AreStored bytes_now n.entries
  insert_stored = record {
    stored = λ q one found. each q one (place_now q one found) (λ was. are.stored q one was);
    apart = λ p q one two differ found found_too.
        pair p q one two differ (place_now p one found) (place_now q two found_too);
  }
    where
      each : {A : Type 0} (q : List ℕ) (one : Stored)
          → ((same k q ≡ true) × (one ≡ new)) ⊎ ((same k q ≡ false) × A) → (A → IsStored bytes one)
          → IsStored bytes_now one
      each q one (inl fresh) old = subst (IsStored bytes_now) (sym fresh.1) new_stored
      each q one (inr was) old = stored_behind bytes value one (old was.1)

      pair : (p q : List ℕ) (one two : Stored) → same p q ≡ false
          → ((same k p ≡ true) × (one ≡ new)) ⊎ ((same k p ≡ false) × (place_of m.entries p ≡ Some one))
          → ((same k q ≡ true) × (two ≡ new)) ⊎ ((same k q ≡ false) × (place_of m.entries q ≡ Some two))
          → AreApart one two
      pair p q one two differ (inl a) (inl b) =
          let both : same p q ≡ true = sym (nat_list_eq_equiv.congr k p q a.0) ∙ b.0 in
          absurd (true≢false (sym both ∙ differ))
      pair p q one two differ (inl a) (inr b) =
          let low = (are.stored q two b.1).within in
          inr (subst (λ (s : Stored). two.at + two.len ≤ s.at) (sym a.1) (omega (arith, at, low)))
      pair p q one two differ (inr a) (inl b) =
          let low = (are.stored p one a.1).within in
          inl (subst (λ (s : Stored). one.at + one.len ≤ s.at) (sym b.1) (omega (arith, at, low)))
      pair p q one two differ (inr a) (inr b) = are.apart p q one two differ a.1 b.1

  pub insert_rows : map.from_entries {R = in_order} (rows_at bytes_now n.entries)
      ≡ map.insert (map.from_entries (rows_at bytes m.entries)) k value
  insert_rows =
      map.same_map nat_list_cmp_total (map.slice_cmp-IsAntisymmetric map.nat_cmp-IsAntisymmetric) _ _
      (λ q. get_rows bytes_now n.entries q ∙ ap (option_map (value_at bytes_now)) (updates.0 q)
      ∙ by q (same k q)
      ∙ ap (λ b. cond b (Some value) (option_map (value_at bytes) (place_of m.entries q))) (same_either_way k q)
      ∙ ap (cond (eq_by_cmp in_order q k) (Some value)) (sym (get_rows bytes m.entries q))
      ∙ sym (map.get-insert nat_list_cmp_total (map.from_entries (rows_at bytes m.entries)) k value q))
    where
      by : (q : List ℕ) (b : Bool)
          → option_map (value_at bytes_now) (cond b (Some new) (place_of m.entries q))
          ≡ cond b (Some value) (option_map (value_at bytes) (place_of m.entries q))
      by q true = ap Some stands
      by q false =
          same_values bytes bytes_now (place_of m.entries q)
          (λ one was. kept_behind bytes value one (are.stored q one was))

pub ruleset inserts = (more_stored, more_rows, insert_stored, insert_rows)

-- ---- a row whose value is written over

module _ (bytes value : List ℕ) (es : List (List ℕ × Stored)) (k : List ℕ) (one : Stored) (are : AreStored bytes es)
    (is : IsValue value) (there : place_of es k ≡ Some one) (len : one.len ≡ length value) where
  abbrev changed : List ℕ
  changed = overwritten one.at value bytes

  inside : one.at + length value ≤ length bytes
  inside = subst (λ n. one.at + n ≤ length bytes) len (are.stored k one there).within

  new_value : value_at changed one ≡ value
  new_value = ap (λ n. take n (drop one.at changed)) len ∙ here bytes value one.at inside

  -- a key that is the same has this place
  same_place : (q : List ℕ) → same k q ≡ true → place_of es q ≡ Some one
  same_place q e = sym (alike_keys es) ∙ there
    where
      alike_keys : (es : List (List ℕ × Stored)) → place_of es k ≡ place_of es q
      alike_keys [] = refl
      alike_keys (x ∷ xs) =
          ap (λ b. cond b (Some x.1) (place_of xs k)) (nat_list_eq_equiv.congr k q x.0 e)
          ∙ ap (cond (same q x.0) (Some x.1)) (alike_keys xs)

  -- another one has another place, and its value
  other_value : (q : List ℕ) (two : Stored) → same k q ≡ false → place_of es q ≡ Some two
      → value_at changed two ≡ value_at bytes two
  other_value q two differ found = by (are.apart k q one two differ there found)
    where
      by : AreApart one two → value_at changed two ≡ value_at bytes two
      by (inl after) = behind bytes value one.at inside two.at two.len (omega (arith, after, len))
      by (inr low) = before bytes value one.at inside two.at two.len low

  value_now : (q : List ℕ) (two : Stored) → place_of es q ≡ Some two → IsStored changed two
  value_now q two found = by (same k q) refl
    where
      reach : two.at + two.len ≤ length changed
      reach =
          subst (λ n. two.at + two.len ≤ n) (sym (size bytes value one.at inside)) (are.stored q two found).within

      by : (b : Bool) → same k q ≡ b → IsStored changed two
      by true e =
          let same_one : Some one ≡ Some two = sym (same_place q e) ∙ found in
          let is_one : one ≡ two = cc (same_one) in
          record {
            within = reach;
            value = subst IsValue (sym (subst (λ (s : Stored). value_at changed s ≡ value) is_one new_value)) is;
          }
      by false e =
          record {
            within = reach;
            value = subst IsValue (sym (other_value q two e found)) (are.stored q two found).value;
          }

  pub change_stored : AreStored changed es
  change_stored = record { stored = value_now; apart = are.apart }

  pub change_rows : map.from_entries {R = in_order} (rows_at changed es)
      ≡ map.insert (map.from_entries (rows_at bytes es)) k value
  change_rows =
      map.same_map nat_list_cmp_total (map.slice_cmp-IsAntisymmetric map.nat_cmp-IsAntisymmetric) _ _
      (λ q. get_rows changed es q ∙ by q (same k q) refl
      ∙ ap (λ b. cond b (Some value) (option_map (value_at bytes) (place_of es q))) (same_either_way k q)
      ∙ ap (cond (eq_by_cmp in_order q k) (Some value)) (sym (get_rows bytes es q))
      ∙ sym (map.get-insert nat_list_cmp_total (map.from_entries (rows_at bytes es)) k value q))
    where
      by : (q : List ℕ) (b : Bool) → same k q ≡ b
          → option_map (value_at changed) (place_of es q)
          ≡ cond (same k q) (Some value) (option_map (value_at bytes) (place_of es q))
      by q true e =
          ap (option_map (value_at changed)) (same_place q e) ∙ ap Some new_value
          ∙ sym (ap (λ b. cond b (Some value) (option_map (value_at bytes) (place_of es q))) e)
      by q false e =
          same_values bytes changed (place_of es q) (λ two found. other_value q two e found)
          ∙ sym (ap (λ b. cond b (Some value) (option_map (value_at bytes) (place_of es q))) e)

pub ruleset changes = (change_stored, change_rows)

-- ---- a row that goes

module _ {S : Type 0} (bytes : List ℕ) (m n : IndexMap (List ℕ) Stored S) (k : List ℕ) (are : AreStored bytes m.entries)
    (updates : UpdatesBy same (same k) m n None) where
  was_there : (q : List ℕ) (one : Stored) → place_of n.entries q ≡ Some one → place_of m.entries q ≡ Some one
  was_there q one found = by (same k q) (sym (updates.0 q) ∙ found)
    where
      by : (b : Bool) → cond b None (place_of m.entries q) ≡ Some one → place_of m.entries q ≡ Some one
      by true e = absurd (nothing one e)
        where
          nothing : (one : Stored) → None ≡ Some one → ⊥
          nothing one e = cc (e)
      by false e = e

  pub remove_stored : AreStored bytes n.entries
  remove_stored = record {
    stored = λ q one found. are.stored q one (was_there q one found);
    apart = λ p q one two differ found found_too.
        are.apart p q one two differ (was_there p one found) (was_there q two found_too);
  }

  pub remove_rows : map.from_entries {R = in_order} (rows_at bytes n.entries)
      ≡ map.remove (map.from_entries (rows_at bytes m.entries)) k
  remove_rows =
      map.same_map nat_list_cmp_total (map.slice_cmp-IsAntisymmetric map.nat_cmp-IsAntisymmetric) _ _
      (λ q. get_rows bytes n.entries q ∙ ap (option_map (value_at bytes)) (updates.0 q) ∙ by q (same k q)
      ∙ ap (λ b. cond b None (option_map (value_at bytes) (place_of m.entries q))) (same_either_way k q)
      ∙ ap (cond (eq_by_cmp in_order q k) None) (sym (get_rows bytes m.entries q))
      ∙ sym (map.get-remove nat_list_cmp_total (map.from_entries (rows_at bytes m.entries)) k q))
    where
      by : (q : List ℕ) (b : Bool) → option_map (value_at bytes) (cond b None (place_of m.entries q))
          ≡ cond b None (option_map (value_at bytes) (place_of m.entries q))
      by q true = refl
      by q false = refl

pub ruleset removes = (remove_stored, remove_rows)

-- ---- all rows

each_by : {X : Type 0} (P : X → Type 0) (xs : List X) → ((i : ℕ) (x : X) → slice_get xs i ≡ Some x → P x)
    → AllByRecursion P xs
each_by P [] all = tt
each_by P (x ∷ xs) all = (all 0 x refl, each_by P xs (λ i y at. all (suc i) y at))

-- at each place of a key a value stands
pub all_stored : (bytes : List ℕ) (es : List (List ℕ × Stored)) → AreStored bytes es → IsDistinct same (keys_of es)
    → AllByRecursion (λ e. IsStored bytes e.1) es
all_stored bytes es are distinct =
    each_by (λ e. IsStored bytes e.1) es
    (λ i e at. are.stored e.0 e.1 (lookup_from_place nat_list_eq_equiv es i e.0 e.1 distinct at))

-- the keys of the rows are those of their places
pub same_keys : (bytes : List ℕ) (es : List (List ℕ × Stored)) → keys_of (rows_at bytes es) ≡ keys_of es
same_keys bytes [] = refl
same_keys bytes (e ∷ es) = ap (λ keys. e.0 ∷ keys) (same_keys bytes es)

-- one row more was listed, of those that were left
pub one_more : {A : Type 0} (shows : A → List ℕ × List ℕ) (bytes : List ℕ) (lent now : List A) (x : A)
    (left rest : List (List ℕ × Stored)) (e : List ℕ × Stored) (all : List (List ℕ × List ℕ))
    → now ≡ lent ++ x ∷ [] → left ≡ e ∷ rest → shows x ≡ row_at bytes e
    → map shows lent ++ rows_at bytes left ≡ all → map shows now ++ rows_at bytes rest ≡ all
one_more {A = A} shows bytes lent now x left rest e all pushed first shown was =
    ap (λ l. map shows l ++ rows_at bytes rest) pushed
    ∙ behind_all lent
    ∙ ap (λ r. map shows lent ++ r ∷ rows_at bytes rest) shown
    ∙ sym (ap (λ l. map shows lent ++ rows_at bytes l) first)
    ∙ was
  where
    behind_all : (l : List A) → map shows (l ++ x ∷ []) ++ rows_at bytes rest ≡ map shows l ++ shows x ∷ rows_at bytes rest
    behind_all [] = refl
    behind_all (y ∷ l) = ap (λ r. shows y ∷ r) (behind_all l)

-- and its value is one, as those of the rows before it
pub values_more : {A : Type 0} (shows : A → List ℕ × List ℕ) (lent now : List A) (x : A) → now ≡ lent ++ x ∷ []
    → All (λ y. IsValue (shows y).1) lent → IsValue (shows x).1 → All (λ y. IsValue (shows y).1) now
values_more shows lent now x pushed all is =
    All-same (λ y. IsValue (shows y).1) now (lent ++ x ∷ []) pushed (All-push (λ y. IsValue (shows y).1) lent x all is)
