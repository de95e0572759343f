-- Draws and transactions, one more after the others.
use Rattle.std.proofs.Common.{◌≡◌, ℕ, zero, suc, ◌+◌, ◌*◌, List, ◌++◌, refl, ap, sym, ◌∙◌, zero-add, add-one, arith}
use Rattle.script_lang.specs.declared.command.Command.{Command}
use Rattle.load_gen.specs.Random.{drawn, next}
use Rattle.load_gen.specs.Wave.{transaction, transactions}

-- some draws behind others are all of them
pub drawn_both : (a b x : ℕ) → drawn (a + b) x ≡ drawn a (drawn b x)
unfolding drawn
drawn_both zero b x = ap (λ n. drawn n x) (zero-add b)
drawn_both (suc a) b x =
    ap (λ n. drawn n x) (let e : suc a + b ≡ suc (a + b) = omega arith in e) ∙ ap next (drawn_both a b x)

-- where the ring stands before the first draw
pub none_yet : (x : ℕ) → x ≡ drawn 0 x
unfolding drawn
none_yet x = refl

pub one_more : (t x at after : ℕ) (commands more : List Command)
    → commands ≡ transactions t x → at ≡ drawn (3 * t) x → more ≡ commands ++ transaction t at → after ≡ drawn 3 at
    → (more ≡ transactions (t + 1) x) × (after ≡ drawn (3 * (t + 1)) x)
one_more t x at after commands more are stands is goes =
    let back : transactions (t + 1) x ≡ transactions t x ++ transaction t (drawn (3 * t) x) = rw add-one refl in
    let all : 3 * (t + 1) ≡ 3 + 3 * t = omega arith in
    (is ∙ rw (are, stands) (sym back), goes ∙ rw (stands, all) (sym (drawn_both 3 (3 * t) x)))
