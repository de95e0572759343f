-- A table's rows as a finite map: what an ordered map does to its entries is what the finite map does.
use Rattle.std.proofs.Common.{◌≡◌, ℕ, List, [], ◌∷◌, refl, ap, sym, ◌∙◌, cond, Ordering}
use Rattle.std.specs.Prelude.{Some, None}
use Rattle.std.specs.Ordering.{nat_cmp, eq_by_cmp}
use Rattle.std.specs.Cmp.{eq_by_cmp_equiv}
use Rattle.std.specs.Cmp.Lexicographic.{slice_cmp, nat_list_cmp_total}
use Rattle.std.specs.Map.{lookup}
use Rattle.std.specs.BTreeMap as tree
use Rattle.std.specs.BTreeMap.{BTreeMap, is_at, Updates, UpdatesBy}
use Rattle.std.specs.FinMap as map

-- a look-up by a key is that of the finite map of the entries
pub find-lookup : {K X : Type 0} (R : K → K → Ordering) (q : K) (es : List (K × X))
    → map.find R q es ≡ lookup (is_at (R q)) es
find-lookup R q [] = refl
find-lookup R q (e ∷ es) = ap (cond (eq_by_cmp R q e.0) (Some e.1)) (find-lookup R q es)

pub get-rows : (es : List (List ℕ × List ℕ)) (q : List ℕ)
    → map.get (map.from_entries {R = slice_cmp nat_cmp} es) q ≡ lookup (is_at (slice_cmp nat_cmp q)) es
get-rows es q = map.get-from_entries nat_list_cmp_total es q ∙ find-lookup (slice_cmp nat_cmp) q es

-- whichever way round two keys are compared, they are equal or not
same_either_way : (k q : List ℕ) → is_at (slice_cmp nat_cmp k) q ≡ eq_by_cmp (slice_cmp nat_cmp) q k
same_either_way k q = (eq_by_cmp_equiv nat_list_cmp_total).symm k q

pub insert-rows : (m n : BTreeMap (List ℕ) (List ℕ)) (k v : List ℕ) → Updates (slice_cmp nat_cmp) m n k (Some v)
    → map.from_entries {R = slice_cmp nat_cmp} n.entries ≡ map.insert (map.from_entries m.entries) k v
insert-rows m n k v updates =
    map.same_map nat_list_cmp_total (map.slice_cmp-IsAntisymmetric map.nat_cmp-IsAntisymmetric) _ _
    (λ q. get-rows n.entries q ∙ updates.0 q
    ∙ ap (λ b. cond b (Some v) (tree.get (slice_cmp nat_cmp) m q)) (same_either_way k q)
    ∙ ap (cond (eq_by_cmp (slice_cmp nat_cmp) q k) (Some v)) (sym (get-rows m.entries q))
    ∙ sym (map.get-insert nat_list_cmp_total (map.from_entries m.entries) k v q))

pub remove-rows : (m n : BTreeMap (List ℕ) (List ℕ)) (k : List ℕ)
    → UpdatesBy (slice_cmp nat_cmp) (slice_cmp nat_cmp k) m n None
    → map.from_entries {R = slice_cmp nat_cmp} n.entries ≡ map.remove (map.from_entries m.entries) k
remove-rows m n k updates =
    map.same_map nat_list_cmp_total (map.slice_cmp-IsAntisymmetric map.nat_cmp-IsAntisymmetric) _ _
    (λ q. get-rows n.entries q ∙ updates.0 q
    ∙ ap (λ b. cond b None (tree.get (slice_cmp nat_cmp) m q)) (same_either_way k q)
    ∙ ap (cond (eq_by_cmp (slice_cmp nat_cmp) q k) None) (sym (get-rows m.entries q))
    ∙ sym (map.get-remove nat_list_cmp_total (map.from_entries m.entries) k q))

pub ruleset tables = (get-rows, insert-rows, remove-rows)
