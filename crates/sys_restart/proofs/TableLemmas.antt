-- The rows of a map, one after the other, are those of a table.
use Rattle.std.proofs.Common.{◌≡◌, ◌∙◌, ℕ, ◌≤◌, List, [], ◌∷◌, length, get_or, refl, ap, sym, arith}
use Rattle.std.proofs.Math.ListN.{get_or-eq_default}
use Rattle.std.specs.Cmp.Lexicographic.{nat_list_cmp_total, slice_cmp}
use Rattle.std.specs.FinMap as finmap
use Rattle.std.specs.Ordering.{nat_cmp}
use Rattle.sig_core.specs.Table.{Rows}

pub entries_back : (rows : Rows) → finmap.from_entries (finmap.entries rows) ≡ rows
entries_back rows =
    finmap.same_map nat_list_cmp_total (finmap.slice_cmp-IsAntisymmetric finmap.nat_cmp-IsAntisymmetric) _ _
    (λ q. finmap.get-from_entries nat_list_cmp_total (finmap.entries rows) q ∙ sym (finmap.get-entries rows q))

-- where there are no rows none is listed
none_of : {A : Type 0} (xs : List A) → length xs ≡ 0 → xs ≡ []
none_of [] none = refl
none_of (x ∷ xs) none = absurd (omega (arith, none))

pub nothing_listed : (rows : Rows) → rows ≡ finmap.empty → finmap.entries rows ≡ []
nothing_listed rows is =
    none_of (finmap.entries rows)
    (sym (finmap.len-entries rows) ∙ ap finmap.len is ∙ finmap.len-empty (slice_cmp nat_cmp) (List ℕ))

pub none_listed : (all found : List Rows) (group at : ℕ) → found ≡ all → group ≡ at → length found ≤ group
    → finmap.entries (get_or all at finmap.empty) ≡ []
none_listed all found group at same is over =
    let many = ap length same in
    nothing_listed (get_or all at finmap.empty)
    (get_or-eq_default all finmap.empty (omega (arith, over, is, many)))

pub ruleset listed = (entries_back)
