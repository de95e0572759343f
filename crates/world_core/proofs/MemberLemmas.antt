-- Members by number.
use Rattle.std.proofs.Common.{◌≡◌, Bool, ℕ, zero, suc, ◌-◌, ◌/◌, ◌≤◌, List, [], ◌∷◌, ◌++◌, refl, ap, sym, ◌∙◌, arith}
use Rattle.std.specs.Prelude.{◌==◌, filter, slice_get, slice_index_or, None, Some}
use Rattle.std.proofs.lemmas.List.Elements.{filter-append}
use Rattle.sig_core.specs.declared.member.Member.{Member}
use Rattle.sig_core.specs.declared.view.View.{View}
use Rattle.sig_core.specs.Members.{nobody}
use Rattle.world_core.specs.Hosts.{member_at, member_of}

-- the member of a host behind the shell's
pub member_behind : (made : List Member) (h : ℕ) → 1 ≤ h → member_at made h ≡ slice_index_or made ((h - 1) / 3) nobody
member_behind made zero some = absurd (omega (arith, some))
member_behind made (suc h) some =
    let same : suc h - 1 ≡ h = omega arith in
    ap (λ k. slice_index_or made (k / 3) nobody) (sym same)

abbrev pub is_node : ℕ → Member → Bool
is_node node member = member.node == node

-- the first of two lists' members is one of the first list, where that has one
first_in : (xs ys : List Member) (m : Member) → slice_get xs 0 ≡ Some m → slice_get (xs ++ ys) 0 ≡ Some m
first_in [] ys m is = cc
first_in (x ∷ xs) ys m is = is

first_behind : (xs ys : List Member) → slice_get xs 0 ≡ None → slice_get (xs ++ ys) 0 ≡ slice_get ys 0
first_behind [] ys none = refl
first_behind (x ∷ xs) ys none = cc

pub member_in_full : (view : View) (node : ℕ) (m : Member) → slice_get (filter (is_node node) view.full) 0 ≡ Some m
    → member_of view node ≡ Some m
member_in_full view node m is =
    ap (λ ms. slice_get ms 0) (filter-append (is_node node) view.full view.starting)
    ∙ first_in (filter (is_node node) view.full) (filter (is_node node) view.starting) m is

pub member_in_starting : (view : View) (node : ℕ) → slice_get (filter (is_node node) view.full) 0 ≡ None
    → member_of view node ≡ slice_get (filter (is_node node) view.starting) 0
member_in_starting view node none =
    ap (λ ms. slice_get ms 0) (filter-append (is_node node) view.full view.starting)
    ∙ first_behind (filter (is_node node) view.full) (filter (is_node node) view.starting) none
