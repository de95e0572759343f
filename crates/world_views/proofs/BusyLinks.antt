-- How many links of an inbox have a signal.
use Rattle.std.proofs.Common.{◌≡◌, ℕ, ◌+◌, Bool, true, false, cond, List, [], ◌∷◌, refl, sym, ap, ◌∙◌, arith, zero-add}
use Rattle.std.specs.Prelude.{Option, None, Some, count_by, is_some, nat_lt, position}
use Rattle.std.proofs.lemmas.Bool.Decides.{nat_tests}
use Rattle.std.proofs.lemmas.List.Sums.{sum_by-cons}
use Rattle.sig_core.proofs.Firsts.{place_by, position-cons}
use Rattle.world_views.specs.Links.{LinkState, has_signal, is_busy}

-- some do where one is found
pub busy_found : (inbox : List LinkState) → nat_lt 0 (count_by is_busy inbox) ≡ has_signal inbox
busy_found [] = refl
busy_found (l ∷ ls) =
    ap (nat_lt 0) (sum_by-cons (λ (x : LinkState). cond (is_busy x) 1 0) l ls)
    ∙ by (is_busy l) (position is_busy ls) (count_by is_busy ls) (busy_found ls)
    ∙ sym (ap is_some (position-cons is_busy l ls))
  where
    by : (b : Bool) (at : Option ℕ) (n : ℕ) → nat_lt 0 n ≡ is_some at
        → nat_lt 0 (cond b 1 0 + n) ≡ is_some (place_by b at)
    by true at n same = grind (arith, nat_tests)
    by false None n same = ap (nat_lt 0) (zero-add n) ∙ same
    by false (Some at) n same = ap (nat_lt 0) (zero-add n) ∙ same
