-- The bucket of a number, and where it comes when one more bucket is split.
use Rattle.std.proofs.Common.{◌≡◌, ◌≢◌, ◌≤◌, ◌<◌, ◌⊎◌, inl, inr, ℕ, ◌+◌, ◌-◌, ◌*◌, ◌/◌, ◌%◌, cond, ap, sym, ◌∙◌, arith}
use Rattle.std.proofs.lemmas.Bool.{cases_lt, cases_eq, lt-ltb, le-ltb}
use Rattle.std.proofs.lemmas.Nat.{div-add-mod', mod-mul-add, mod_below}
use Rattle.linear_hash.specs.declared.growth.Growth.{Growth}
use Rattle.linear_hash.specs.Growth.{IsGrowth, grown, home_of}

-- the lower half of twice as many
low_half : (hash size : ℕ) → hash % (2 * size) < size → hash % size ≡ hash % (2 * size)
low_half hash size low =
    let is : hash ≡ (hash / (2 * size) * 2) * size + hash % (2 * size) = omega (arith, div-add-mod' hash (2 * size)) in
    ap (λ n. n % size) is ∙ mod-mul-add (hash / (2 * size) * 2) size (hash % (2 * size)) low

-- the upper half
high_half : (hash size : ℕ) → 1 ≤ size → size ≤ hash % (2 * size) → hash % size ≡ hash % (2 * size) - size
high_half hash size some high =
    let wide : hash % (2 * size) < 2 * size = mod_below hash (2 * size) (omega (arith, some)) in
    let is : hash ≡ (hash / (2 * size) * 2 + 1) * size + (hash % (2 * size) - size) =
    omega (arith, div-add-mod' hash (2 * size), high) in
    ap (λ n. n % size) is
    ∙ mod-mul-add (hash / (2 * size) * 2 + 1) size (hash % (2 * size) - size) (omega (arith, wide, high))

-- among twice as many a number stays, or comes so much further
pub twice : (hash size : ℕ) → 1 ≤ size → (hash % (2 * size) ≡ hash % size) ⊎ (hash % (2 * size) ≡ hash % size + size)
twice hash size some = by (cases_lt (hash % (2 * size)) size)
  where
    by : (hash % (2 * size) < size) ⊎ (size ≤ hash % (2 * size))
        → (hash % (2 * size) ≡ hash % size) ⊎ (hash % (2 * size) ≡ hash % size + size)
    by (inl low) = inl (sym (low_half hash size low))
    by (inr high) = inr (omega (arith, high, high_half hash size some high))

-- of a bucket that was split the number is in that of twice as many
pub home-split : (growth : Growth) (hash : ℕ) → hash % growth.size < growth.split
    → home_of growth hash ≡ hash % (2 * growth.size)
home-split growth hash low =
    ap (λ b. cond b (hash % (2 * growth.size)) (hash % growth.size)) (lt-ltb (hash % growth.size) growth.split low)

-- of another it is in its own
pub home-whole : (growth : Growth) (hash : ℕ) → growth.split ≤ hash % growth.size
    → home_of growth hash ≡ hash % growth.size
home-whole growth hash high =
    ap (λ b. cond b (hash % (2 * growth.size)) (hash % growth.size)) (le-ltb (hash % growth.size) growth.split high)

-- each number has a bucket
pub home-below : (growth : Growth) → IsGrowth growth → (hash : ℕ) → home_of growth hash < growth.size + growth.split
home-below growth is hash = by (cases_lt (hash % growth.size) growth.split)
  where
    within : hash % growth.size < growth.size
    within = mod_below hash growth.size (omega (arith, is.some))

    further : hash % growth.size < growth.split
        → (hash % (2 * growth.size) ≡ hash % growth.size) ⊎
        (hash % (2 * growth.size) ≡ hash % growth.size + growth.size) → home_of growth hash < growth.size + growth.split
    further low (inl e) = omega (arith, within, e, home-split growth hash low)
    further low (inr e) = omega (arith, low, e, home-split growth hash low)

    by : (hash % growth.size < growth.split) ⊎ (growth.split ≤ hash % growth.size)
        → home_of growth hash < growth.size + growth.split
    by (inl low) = further low (twice hash growth.size is.some)
    by (inr high) = omega (arith, within, home-whole growth hash high)

-- where a number comes: it stays in a bucket that isn't split, or is in the one that is split, and stays or comes to
-- the new one
pub data Comes (before after split new : ℕ) : Type 0 where
  Elsewhere : after ≡ before → before ≢ split → Comes before after split new
  Stays : before ≡ split → after ≡ split → Comes before after split new
  Moves : before ≡ split → after ≡ new → Comes before after split new

-- growing within the level, and to the next one, is the same rule: numbers up to the one that is split are among
-- twice as many
after-low : (growth : Growth) → IsGrowth growth → (hash : ℕ) → hash % growth.size ≤ growth.split
    → home_of (grown growth) hash ≡ hash % (2 * growth.size)
after-low growth is hash low = by (cases_lt (growth.split + 1) growth.size)
  where
    by : (growth.split + 1 < growth.size) ⊎ (growth.size ≤ growth.split + 1)
        → home_of (grown growth) hash ≡ hash % (2 * growth.size)
    by (inl within) =
        ap (λ b. home_of
        (cond b (record { size = growth.size; split = growth.split + 1 })
        (record { size = 2 * growth.size; split = 0 })) hash) (lt-ltb (growth.split + 1) growth.size within)
        ∙ home-split (record { size = growth.size; split = growth.split + 1 }) hash (omega (arith, low))
    by (inr past) =
        ap (λ b. home_of
        (cond b (record { size = growth.size; split = growth.split + 1 })
        (record { size = 2 * growth.size; split = 0 })) hash) (le-ltb (growth.split + 1) growth.size past)
        ∙ home-whole (record { size = 2 * growth.size; split = 0 }) hash (omega arith)

after-high : (growth : Growth) → IsGrowth growth → (hash : ℕ) → growth.split < hash % growth.size
    → home_of (grown growth) hash ≡ hash % growth.size
after-high growth is hash high =
    let within : growth.split + 1 < growth.size =
    omega (arith, high, mod_below hash growth.size (omega (arith, is.some))) in
    ap (λ b. home_of
    (cond b (record { size = growth.size; split = growth.split + 1 })
    (record { size = 2 * growth.size; split = 0 })) hash) (lt-ltb (growth.split + 1) growth.size within)
    ∙ home-whole (record { size = growth.size; split = growth.split + 1 }) hash (omega (arith, high))

pub comes : (growth : Growth) → IsGrowth growth → (hash : ℕ)
    → Comes (home_of growth hash) (home_of (grown growth) hash) growth.split (growth.size + growth.split)
comes growth is hash = by (cases_lt (hash % growth.size) growth.split) (cases_eq (hash % growth.size) growth.split)
  where
    split_before : hash % growth.size < growth.split
        → (hash % (2 * growth.size) ≡ hash % growth.size) ⊎
        (hash % (2 * growth.size) ≡ hash % growth.size + growth.size) → Comes (home_of growth hash)
        (home_of (grown growth) hash) growth.split (growth.size + growth.split)
    split_before low (inl e) =
        Elsewhere (after-low growth is hash (omega (arith, low)) ∙ sym (home-split growth hash low))
        (omega (arith, low, e, home-split growth hash low))
    split_before low (inr e) =
        Elsewhere (after-low growth is hash (omega (arith, low)) ∙ sym (home-split growth hash low))
        (omega (arith, low, e, home-split growth hash low, is.below))

    split_now : hash % growth.size ≡ growth.split
        → (hash % (2 * growth.size) ≡ hash % growth.size) ⊎
        (hash % (2 * growth.size) ≡ hash % growth.size + growth.size) → Comes (home_of growth hash)
        (home_of (grown growth) hash) growth.split (growth.size + growth.split)
    split_now here (inl e) =
        Stays (home-whole growth hash (omega (arith, here)) ∙ here)
        (after-low growth is hash (omega (arith, here)) ∙ e ∙ here)
    split_now here (inr e) =
        Moves (home-whole growth hash (omega (arith, here)) ∙ here)
        (omega (arith, here, e, after-low growth is hash (omega (arith, here))))

    by : (hash % growth.size < growth.split) ⊎ (growth.split ≤ hash % growth.size)
        → (hash % growth.size ≡ growth.split) ⊎ (hash % growth.size ≢ growth.split)
        → Comes (home_of growth hash) (home_of (grown growth) hash) growth.split (growth.size + growth.split)
    by (inl low) there = split_before low (twice hash growth.size is.some)
    by (inr high) (inl here) = split_now here (twice hash growth.size is.some)
    by (inr high) (inr other) =
        let past : growth.split < hash % growth.size = omega (arith, high, other) in
        let before = home-whole growth hash high in
        Elsewhere (after-high growth is hash past ∙ sym before) (omega (arith, past, before))

pub ruleset homes = (home-split, home-whole, home-below)
