-- The epochs of a life that begins behind what was restored.
use Rattle.std.proofs.Common.{◌≡◌, ◌≤◌, ◌<◌, ◌+◌, ◌-◌, ◌*◌, ◌/◌, ◌^◌, ap, arith}
use Rattle.std.proofs.lemmas.Nat.{div-add-mod'}
use Rattle.sys_restart.specs.declared.restored.Restored.{Restored}
use Rattle.world_core.specs.Start.{Start}
use Rattle.restart_laws.specs.Lived.{MayBegin, start_behind}

module _ (start : Start) (r : Restored) (is : start ≡ start_behind start.shape r) (may : MayBegin start.shape r) where
  pub starts_behind : start.start_epoch ≡ r.epoch
  starts_behind = ap (λ (s : Start). s.start_epoch) is

  first : start.epoch ≡ (r.epoch / 2 ^ 32 + 1) * 2 ^ 32
  first = ap (λ (s : Start). s.epoch) is

  pub below_first : start.start_epoch < start.epoch
  below_first = let split = div-add-mod' r.epoch (2 ^ 32) in grind (arith, first, starts_behind, split)

  pub first_high : 2 ^ 32 ≤ start.epoch
  first_high = omega (arith, first)

  pub first_low : start.epoch < 2 ^ 64 - 1
  first_low =
      let last : r.epoch < 2 ^ 64 - 2 ^ 32 = may.last in
      let split = div-add-mod' r.epoch (2 ^ 32) in
      grind (arith, first, last, split)
