-- Links that are closed one after the other.
use Rattle.std.proofs.Common.{◌≡◌, ◌≢◌, ℕ, suc, ◌+◌, Bool, true, false, refl, ap, sym, ◌∙◌, arith}
use Rattle.std.specs.Prelude.{◌==◌, ◌||◌}
use Rattle.std.proofs.lemmas.Bool.Decides.{nat_tests}
use Rattle.sig_core.specs.declared.signal.Signal.{Signal}
use Rattle.node_views.specs.declared.standing.Standing.{Standing}
use Rattle.node_views.specs.Row.{is_cut}
use Rattle.world_views.specs.Links.{Links, changed, close_below, close_one, closed_by}
use Rattle.world_views.specs.World.{is_unclosed}

-- a host closes its link to another one that it hasn't cut off, and no other link
pub is_left : (h : ℕ) (standing : Standing) (to : ℕ) → to ≡ h → is_unclosed h standing to ≡ true
is_left h standing to same = ap (λ b. b || is_cut standing (record { 0 = to })) (equal to h same)
  where
    equal : (m n : ℕ) → m ≡ n → (m == n) ≡ true
    equal m n is = grind (arith, nat_tests)

pub is_left_cut : (h : ℕ) (standing : Standing) (to : ℕ) → is_cut standing (record { 0 = to }) ≡ true
    → is_unclosed h standing to ≡ true
is_left_cut h standing to cut = either (to == h) (is_cut standing (record { 0 = to })) cut
  where
    either : (a b : Bool) → b ≡ true → (a || b) ≡ true
    either true b is = refl
    either false b is = is

pub is_closed : (h : ℕ) (standing : Standing) (to : ℕ) → to ≢ h → is_cut standing (record { 0 = to }) ≡ false
    → is_unclosed h standing to ≡ false
is_closed h standing to other uncut = ap (λ b. b || is_cut standing (record { 0 = to })) (apart to h other) ∙ uncut
  where
    apart : (m n : ℕ) → m ≢ n → (m == n) ≡ false
    apart m n is = grind (arith, nat_tests)

module _ (n : ℕ) (links before : Links) (from : ℕ) (stays : ℕ → Bool) (closing : ℕ → Signal)
    (is : before ≡ close_below n links from stays closing) where
  next : (b : Bool) → stays n ≡ b → close_below (n + 1) links from stays closing ≡ close_one b before from n (closing n)
  next b stay =
      let more : n + 1 ≡ suc n = omega arith in
      ap (λ k. close_below k links from stays closing) more
      ∙ ap (λ c. close_one c (close_below n links from stays closing) from n (closing n)) stay
      ∙ ap (λ ls. close_one b ls from n (closing n)) (sym is)

  -- one more link stays as it is
  pub one_left : stays n ≡ true → before ≡ close_below (n + 1) links from stays closing
  one_left stay = sym (next true stay)

  -- one more link is closed
  pub one_closed : (after : Links) (x : Signal) → stays n ≡ false → x ≡ closing n
      → after ≡ changed before from n (closed_by x)
      → after ≡ close_below (n + 1) links from stays closing
  one_closed after x stay is_x put =
      put ∙ ap (λ y. changed before from n (closed_by y)) is_x ∙ sym (next false stay)
