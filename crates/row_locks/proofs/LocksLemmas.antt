-- The locks of all keys as a finite map: what an ordered map does to its entries is what the finite map does.
use Rattle.std.proofs.Common.{◌≡◌, ℕ, List, refl, ap, sym, ◌∙◌, subst, cond, Ordering, Bool, true, false}
use Rattle.std.specs.Prelude.{Some, None, IsSome}
use Rattle.std.specs.Ordering.{nat_cmp, eq_by_cmp, is_eq}
use Rattle.std.specs.declared.cmp.Ordering.TheVariants.{Less, Equal, Greater}
use Rattle.std.specs.Cmp.{eq_by_cmp_equiv}
use Rattle.std.specs.Cmp.Lexicographic.{slice_cmp, nat_list_cmp_total}
use Rattle.std.specs.Map.{lookup}
use Rattle.std.specs.BTreeMap as tree
use Rattle.std.specs.BTreeMap.{BTreeMap, is_at, UpdatesBy, WritesThrough}
use Rattle.std.specs.FinMap as map
use Rattle.sig_core.proofs.TableLemmas.{find-lookup}
use Rattle.row_locks.specs.Rows.{RowLock}
use Rattle.row_locks.specs.Tables.{locks_of, is_idle, kept, kept_if}

-- the order of keys
abbrev pub key_cmp : List ℕ → List ℕ → Ordering
key_cmp = slice_cmp nat_cmp

pub get-locks : (es : List (List ℕ × RowLock)) (q : List ℕ)
    → map.get (map.from_entries {R = key_cmp} es) q ≡ lookup (is_at (key_cmp q)) es
get-locks es q = map.get-from_entries nat_list_cmp_total es q ∙ find-lookup key_cmp q es

-- whichever way round two keys are compared, they are equal or not
same_either_way : (k q : List ℕ) → is_at (key_cmp k) q ≡ eq_by_cmp key_cmp q k
same_either_way k q = (eq_by_cmp_equiv nat_list_cmp_total).symm k q

pub insert-locks : (m n : BTreeMap (List ℕ) RowLock) (k : List ℕ) (v : RowLock)
    → UpdatesBy key_cmp (key_cmp k) m n (Some v)
    → map.from_entries {R = key_cmp} n.entries ≡ map.insert (map.from_entries m.entries) k v
insert-locks m n k v updates =
    map.same_map nat_list_cmp_total (map.slice_cmp-IsAntisymmetric map.nat_cmp-IsAntisymmetric) _ _
    (λ q. get-locks n.entries q ∙ updates.0 q
    ∙ ap (λ b. cond b (Some v) (tree.get key_cmp m q)) (same_either_way k q)
    ∙ ap (cond (eq_by_cmp key_cmp q k) (Some v)) (sym (get-locks m.entries q))
    ∙ sym (map.get-insert nat_list_cmp_total (map.from_entries m.entries) k v q))

pub remove-locks : (m n : BTreeMap (List ℕ) RowLock) (k : List ℕ) → UpdatesBy key_cmp (key_cmp k) m n None
    → map.from_entries {R = key_cmp} n.entries ≡ map.remove (map.from_entries m.entries) k
remove-locks m n k updates =
    map.same_map nat_list_cmp_total (map.slice_cmp-IsAntisymmetric map.nat_cmp-IsAntisymmetric) _ _
    (λ q. get-locks n.entries q ∙ updates.0 q
    ∙ ap (λ b. cond b None (tree.get key_cmp m q)) (same_either_way k q)
    ∙ ap (cond (eq_by_cmp key_cmp q k) None) (sym (get-locks m.entries q))
    ∙ sym (map.get-remove nat_list_cmp_total (map.from_entries m.entries) k q))

-- what was written through what was lent for a key that is there
pub written-locks : (m n : BTreeMap (List ℕ) RowLock) (k : List ℕ) (v w : RowLock)
    → WritesThrough key_cmp (key_cmp k) m w n → tree.get_by (key_cmp k) m ≡ Some v
    → map.from_entries {R = key_cmp} n.entries ≡ map.insert (map.from_entries m.entries) k w
written-locks m n k v w writes there = insert-locks m n k w (writes.3 (subst IsSome (sym there) refl))

cond_twice : {A : Type 0} (b : Bool) (x y z : A) → cond b x (cond b y z) ≡ cond b x z
cond_twice true x y z = refl
cond_twice false x y z = refl

-- a key that is removed at last may have had any lock before
pub remove-insert : (m : map.FinMap key_cmp RowLock) (k : List ℕ) (v : RowLock)
    → map.remove (map.insert m k v) k ≡ map.remove m k
remove-insert m k v =
    map.same_map nat_list_cmp_total (map.slice_cmp-IsAntisymmetric map.nat_cmp-IsAntisymmetric) _ _
    (λ q. map.get-remove nat_list_cmp_total (map.insert m k v) k q
    ∙ ap (cond (eq_by_cmp key_cmp q k) None) (map.get-insert nat_list_cmp_total m k v q)
    ∙ cond_twice (eq_by_cmp key_cmp q k) None (Some v) (map.get m q)
    ∙ sym (map.get-remove nat_list_cmp_total m k q))

absent_at : (m : map.FinMap key_cmp RowLock) (k q : List ℕ) → map.get m k ≡ None → (r : Ordering) → key_cmp q k ≡ r
    → cond (is_eq r) None (map.get m q) ≡ map.get m q
absent_at m k q none Less e = refl
absent_at m k q none Equal e = sym none ∙ map.get_tied nat_list_cmp_total m q k e
absent_at m k q none Greater e = refl

-- to remove a key that isn't there changes nothing
pub remove-absent : (m : map.FinMap key_cmp RowLock) (k : List ℕ) → map.get m k ≡ None → map.remove m k ≡ m
remove-absent m k none =
    map.same_map nat_list_cmp_total (map.slice_cmp-IsAntisymmetric map.nat_cmp-IsAntisymmetric) _ _
    (λ q. map.get-remove nat_list_cmp_total m k q ∙ absent_at m k q none (key_cmp q k) refl)

same_at : (m : map.FinMap key_cmp RowLock) (k q : List ℕ) (v : RowLock) → map.get m k ≡ Some v → (r : Ordering)
    → key_cmp q k ≡ r → cond (is_eq r) (Some v) (map.get m q) ≡ map.get m q
same_at m k q v there Less e = refl
same_at m k q v there Equal e = sym there ∙ map.get_tied nat_list_cmp_total m q k e
same_at m k q v there Greater e = refl

-- to store the lock that a key has changes nothing
pub insert-same : (m : map.FinMap key_cmp RowLock) (k : List ℕ) (v : RowLock) → map.get m k ≡ Some v
    → map.insert m k v ≡ m
insert-same m k v there =
    map.same_map nat_list_cmp_total (map.slice_cmp-IsAntisymmetric map.nat_cmp-IsAntisymmetric) _ _
    (λ q. map.get-insert nat_list_cmp_total m k v q ∙ same_at m k q v there (key_cmp q k) refl)

-- what was lent and handed back as it was
pub unwritten-locks : (m n : BTreeMap (List ℕ) RowLock) (k : List ℕ) (w : RowLock)
    → WritesThrough key_cmp (key_cmp k) m w n → tree.get_by (key_cmp k) m ≡ Some w
    → map.from_entries {R = key_cmp} n.entries ≡ map.from_entries m.entries
unwritten-locks m n k w writes there =
    written-locks m n k w w writes there ∙ insert-same (map.from_entries m.entries) k w (get-locks m.entries k ∙ there)

-- a key whose lock became idle through what was lent, and that was removed then
pub forgotten-locks : (m n after : BTreeMap (List ℕ) RowLock) (k : List ℕ) (v w : RowLock)
    → WritesThrough key_cmp (key_cmp k) m w n → tree.get_by (key_cmp k) m ≡ Some v
    → locks_of after ≡ map.remove (locks_of n) k → is_idle w ≡ true → locks_of after ≡ kept (locks_of m) k w
forgotten-locks m n after k v w writes there removed idle =
    removed ∙ ap (λ locks. map.remove locks k) (written-locks m n k v w writes there) ∙ remove-insert (locks_of m) k w
    ∙ ap (λ b. kept_if b (locks_of m) k w) (sym idle)

pub ruleset locks =
    (get-locks, insert-locks, remove-locks, written-locks, unwritten-locks, remove-insert, remove-absent)
