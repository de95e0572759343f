-- What is written of lists is read again.
use Rattle.std.proofs.Common.{◌≡◌, ℕ, zero, suc, ◌+◌, ◌≤◌, ◌<◌, ◌^◌, false, List, [], ◌∷◌, ◌++◌, length, refl, ap, sym}
use Rattle.std.proofs.Common.{◌∙◌, append_assoc, append-nil, arith}
use Rattle.std.specs.Prelude.{Result, Ok, Err, flat_map, nat_lt}
use Rattle.std.specs.Int.{w64, to_be_bytes}
use Rattle.std.proofs.lemmas.Nat.{be_bytes_8}
use Rattle.redo_format.specs.Reading.{◌>>=◌, and_then, told, byte_at, number_at}
use Rattle.redo_format.proofs.Readers.{IsBytes, reads_number, eight_bytes}
use Rattle.std.proofs.lemmas.Bool.{le-ltb}
use Rattle.trace_bytes.specs.Numbers.{u64_bytes, u64_at}
use Rattle.trace_bytes.specs.Lists.{All, AreItems, list_bytes, more_at, list_at, zeros_at, few_at, short_list_at}
use Rattle.trace_bytes.proofs.Again.{Again}
use Rattle.trace_bytes.proofs.ListForms.{list_is, short_list_is}

more_again : {A : Type 0} {Is : A → Type 0} {spelled : A → List ℕ} {item : List ℕ → Result (A × List ℕ) ℕ}
    → Again Is spelled item → (read items : List A) (rest : List ℕ) → All Is items
    → more_at item read (length items) (flat_map spelled items ++ rest) ≡ Ok (read ++ items, rest)
unfolding more_at
more_again one read [] rest are = ap (λ xs. Ok (xs, rest)) (sym (append-nil read))
more_again {spelled = spelled} {item = item} one read (x ∷ items) rest are =
    let split : flat_map spelled (x ∷ items) ++ rest ≡ spelled x ++ (flat_map spelled items ++ rest) =
    append_assoc (spelled x) (flat_map spelled items) rest in
    ap (more_at item read (suc (length items))) split
    ∙ ap (λ found. found >>= λ y. more_at item (read ++ y.0 ∷ []) (length items) y.1)
    (one.reads x (flat_map spelled items ++ rest) are.0)
    ∙ more_again one (read ++ x ∷ []) items rest are.1
    ∙ ap (λ xs. Ok (xs, rest)) (append_assoc read (x ∷ []) items)

list_again : {A : Type 0} {Is : A → Type 0} {spelled : A → List ℕ} {item : List ℕ → Result (A × List ℕ) ℕ}
    → Again Is spelled item → (items : List A) (rest : List ℕ) → AreItems Is items
    → list_at item (list_bytes spelled items ++ rest) ≡ Ok (items, rest)
unfolding list_bytes u64_bytes
list_again {spelled = spelled} {item = item} one items rest are =
    let behind = flat_map spelled items ++ rest in
    let count : u64_at (list_bytes spelled items ++ rest) ≡ Ok (length items, behind) =
    ap u64_at (append_assoc (u64_bytes (length items)) (flat_map spelled items) rest)
    ∙ (reads_number w64 (2 ^ 64) eight_bytes).again (length items) behind are.0 in
    list_is item (list_bytes spelled items ++ rest) behind (length items) count ∙ more_again one [] items rest are.1

pub again_list : {A : Type 0} {Is : A → Type 0} {spelled : A → List ℕ} {item : List ℕ → Result (A × List ℕ) ℕ}
    → Again Is spelled item → Again (AreItems Is) (list_bytes spelled) (list_at item)
again_list one = record { reads = list_again one }

-- ---- short lists

are_bytes : (n : ℕ) → n < 256 → IsBytes (0 ∷ 0 ∷ 0 ∷ 0 ∷ 0 ∷ 0 ∷ 0 ∷ n ∷ [])
are_bytes n small zero = omega arith
are_bytes n small (suc zero) = omega arith
are_bytes n small (suc (suc zero)) = omega arith
are_bytes n small (suc (suc (suc zero))) = omega arith
are_bytes n small (suc (suc (suc (suc zero)))) = omega arith
are_bytes n small (suc (suc (suc (suc (suc zero))))) = omega arith
are_bytes n small (suc (suc (suc (suc (suc (suc zero)))))) = omega arith
are_bytes n small (suc (suc (suc (suc (suc (suc (suc zero))))))) = omega (arith, small)
are_bytes n small (suc (suc (suc (suc (suc (suc (suc (suc i)))))))) = omega arith

pub small_bytes : (n : ℕ) → n < 256 → to_be_bytes w64 n ≡ 0 ∷ 0 ∷ 0 ∷ 0 ∷ 0 ∷ 0 ∷ 0 ∷ n ∷ []
small_bytes n small = be_bytes_8 (0 ∷ 0 ∷ 0 ∷ 0 ∷ 0 ∷ 0 ∷ 0 ∷ n ∷ []) n refl (are_bytes n small) (omega arith)

few_again : (most n : ℕ) (rest : List ℕ) → most < 256 → n ≤ most → few_at most (u64_bytes n ++ rest) ≡ Ok (n, rest)
unfolding few_at zeros_at u64_bytes
few_again most n rest small le =
    let low : nat_lt n 0 ≡ false = le-ltb _ _ (omega arith) in
    let high : nat_lt most n ≡ false = le-ltb _ _ le in
    ap (λ bytes. few_at most (bytes ++ rest)) (small_bytes n (omega (arith, small, le))) ∙ rw (low, high) refl

short_list_again : {A : Type 0} {Is : A → Type 0} {spelled : A → List ℕ} {item : List ℕ → Result (A × List ℕ) ℕ}
    (most : ℕ) → most < 256
    → Again Is spelled item → (items : List A) (rest : List ℕ) → (length items ≤ most) × All Is items
    → short_list_at most item (list_bytes spelled items ++ rest) ≡ Ok (items, rest)
unfolding list_bytes
short_list_again {spelled = spelled} {item = item} most small one items rest are =
    let behind = flat_map spelled items ++ rest in
    let count : few_at most (list_bytes spelled items ++ rest) ≡ Ok (length items, behind) =
    ap (few_at most) (append_assoc (u64_bytes (length items)) (flat_map spelled items) rest)
    ∙ few_again most (length items) behind small are.0 in
    short_list_is most item (list_bytes spelled items ++ rest) behind (length items) count
    ∙ more_again one [] items rest are.1

pub again_short_list : {A : Type 0} {Is : A → Type 0} {spelled : A → List ℕ} {item : List ℕ → Result (A × List ℕ) ℕ}
    (most : ℕ) → most < 256
    → Again Is spelled item
    → Again (λ items. (length items ≤ most) × All Is items) (list_bytes spelled) (short_list_at most item)
again_short_list most small one = record { reads = short_list_again most small one }
