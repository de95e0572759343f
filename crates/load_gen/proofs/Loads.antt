-- What a load asks for next.
use Rattle.std.proofs.Common.{◌≡◌, ℕ, zero, suc, ◌+◌, ◌-◌, ◌*◌, ◌<◌, Bool, List, [], ◌∷◌, ◌++◌, refl, ap, sym, ◌∙◌}
use Rattle.std.proofs.Common.{arith}
use Rattle.script_lang.specs.declared.command.Command.{Command}
use Rattle.load_gen.specs.declared.load.Asked.TheVariants.{Wave}
use Rattle.load_gen.specs.Random.{drawn, first}
use Rattle.load_gen.specs.Wave.{transactions}
use Rattle.load_gen.specs.Load.{checkpoint_if, closes_after, size_of, waves, waves_of}
use Rattle.load_gen.proofs.Draws.{drawn_both}

-- a wave, and what is asked for behind it
pub wave_comes : (all seed w x : ℕ) (commands : List Command) (closes : Bool)
    → w < waves_of all → x ≡ drawn (48 * w) (first seed) → commands ≡ transactions (size_of all w) x
    → closes ≡ closes_after (w + 1) (waves_of all)
    → waves all seed (waves_of all - w) w
    ≡ Wave commands ∷ (checkpoint_if closes ++ waves all seed (waves_of all - (w + 1)) (w + 1))
unfolding waves
wave_comes all seed w x commands closes some stands are is =
    let count : waves_of all - w ≡ suc (waves_of all - (w + 1)) = omega arith in
    rw (count, are, stands, is) refl

-- no waves are left
pub none_left : (all seed w : ℕ) → w ≡ waves_of all → waves all seed (waves_of all - w) w ≡ []
unfolding waves
none_left all seed w is =
    let count : waves_of all - w ≡ zero = omega (arith, is) in
    ap (λ n. waves all seed n w) count

-- where the ring stands behind a whole wave
pub ring_goes_on : (all seed w x after : ℕ) → w + 1 < waves_of all → x ≡ drawn (48 * w) (first seed)
    → after ≡ drawn (3 * size_of all w) x → after ≡ drawn (48 * (w + 1)) (first seed)
ring_goes_on all seed w x after more stands is =
    let whole : 3 * size_of all w ≡ 48 = omega arith in
    let next_wave : 48 * (w + 1) ≡ 48 + 48 * w = omega arith in
    is ∙ rw (whole, stands, next_wave) (sym (drawn_both 48 (48 * w) (first seed)))

pub ruleset steps = (wave_comes, none_left, ring_goes_on)
