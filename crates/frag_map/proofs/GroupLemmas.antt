-- A walk over the groups of a cluster goes on to the next one.
use Rattle.std.proofs.Common.{◌≡◌, ◌<◌, ℕ, suc, ◌+◌, ◌-◌, true, false, refl, arith}
use Rattle.sig_core.specs.declared.view.Shape.{Shape}
use Rattle.sig_core.specs.declared.view.View.{View}
use Rattle.frag_map.specs.Groups.{is_manned, is_whole, lost_from, whole_from}

-- of the numbers up to n one more is left before the next
pub left-suc : (n at : ℕ) → at < n → n - at ≡ suc (n - (at + 1))
left-suc n at low = omega arith

-- a group that has a full member is passed over
pub lost-next : (shape : Shape) (view : View) (n group : ℕ) → group < n → is_manned shape view group ≡ true
    → lost_from shape view (group + 1) (n - (group + 1)) ≡ lost_from shape view group (n - group)
lost-next shape view n group low is = rw (left-suc n group low) (rw is refl)

-- a group that isn't whole is passed over
pub whole-next : (shape : Shape) (view : View) (n group : ℕ) → group < n → is_whole shape view group ≡ false
    → whole_from shape view (group + 1) (n - (group + 1)) ≡ whole_from shape view group (n - group)
whole-next shape view n group low is = rw (left-suc n group low) (rw is refl)

pub ruleset left = (left-suc, lost-next, whole-next)
