-- Rows by their hashes as a finite map: what a hashed map does to its entries is what the finite map does.
use Rattle.std.proofs.Common.{◌≡◌, ◌∙◌, ℕ, Bool, cond, List, [], ◌∷◌, refl, ap, sym, Ordering}
use Rattle.std.specs.Prelude.{Some, None}
use Rattle.std.specs.Ordering.{nat_cmp, is_lt, eq_by_cmp}
use Rattle.std.specs.Cmp.{eq_by_cmp_equiv}
use Rattle.std.specs.Cmp.Lexicographic.{slice_cmp, nat_list_cmp_total, texts_ties}
use Rattle.std.specs.Map.{lookup}
use Rattle.indexmap.specs.IndexMap.{IndexMap, Updates, UpdatesBy, get}
use Rattle.std.specs.FinMap as map
use Rattle.row_map.specs.Stored.{same}

abbrev pub in_order : List ℕ → List ℕ → Ordering
in_order = slice_cmp nat_cmp

abbrev pub is_before : List ℕ → List ℕ → Bool
is_before one other = is_lt (in_order one other)

-- a look-up by a key is that of the finite map of the entries
find_lookup : (q : List ℕ) (es : List (List ℕ × List ℕ)) → map.find in_order q es ≡ lookup (same q) es
find_lookup q [] = refl
find_lookup q (e ∷ es) =
    ap (λ b. cond b (Some e.1) (map.find in_order q es)) (sym (texts_ties q e.0))
    ∙ ap (cond (same q e.0) (Some e.1)) (find_lookup q es)

pub get_hashed : (es : List (List ℕ × List ℕ)) (q : List ℕ)
    → map.get (map.from_entries {R = in_order} es) q ≡ lookup (same q) es
get_hashed es q = map.get-from_entries nat_list_cmp_total es q ∙ find_lookup q es

-- whichever way round two keys are compared, they are the same or not
pub same_either_way : (k q : List ℕ) → same k q ≡ eq_by_cmp in_order q k
same_either_way k q = texts_ties k q ∙ (eq_by_cmp_equiv nat_list_cmp_total).symm k q

pub insert_hashed : {S : Type 0} (m n : IndexMap (List ℕ) (List ℕ) S) (k v : List ℕ) → Updates same m n k (Some v)
    → map.from_entries {R = in_order} n.entries ≡ map.insert (map.from_entries m.entries) k v
insert_hashed m n k v updates =
    map.same_map nat_list_cmp_total (map.slice_cmp-IsAntisymmetric map.nat_cmp-IsAntisymmetric) _ _
    (λ q. get_hashed n.entries q ∙ updates.0 q
    ∙ ap (λ b. cond b (Some v) (get same m q)) (same_either_way k q)
    ∙ ap (cond (eq_by_cmp in_order q k) (Some v)) (sym (get_hashed m.entries q))
    ∙ sym (map.get-insert nat_list_cmp_total (map.from_entries m.entries) k v q))

pub remove_hashed : {S : Type 0} (m n : IndexMap (List ℕ) (List ℕ) S) (k : List ℕ) → UpdatesBy same (same k) m n None
    → map.from_entries {R = in_order} n.entries ≡ map.remove (map.from_entries m.entries) k
remove_hashed m n k updates =
    map.same_map nat_list_cmp_total (map.slice_cmp-IsAntisymmetric map.nat_cmp-IsAntisymmetric) _ _
    (λ q. get_hashed n.entries q ∙ updates.0 q
    ∙ ap (λ b. cond b None (get same m q)) (same_either_way k q)
    ∙ ap (cond (eq_by_cmp in_order q k) None) (sym (get_hashed m.entries q))
    ∙ sym (map.get-remove nat_list_cmp_total (map.from_entries m.entries) k q))

pub ruleset hashed = (get_hashed, insert_hashed, remove_hashed)
