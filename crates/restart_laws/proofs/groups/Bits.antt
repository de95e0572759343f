-- The mask of members lists just their nodes.
use Rattle.std.proofs.Common.{◌≡◌, ◌≤◌, ◌+◌, ◌*◌, ◌/◌, ◌%◌, ◌^◌, ◌-◌, ◌==◌, ◌∙◌, ℕ, zero, suc, Bool, true, false, List}
use Rattle.std.proofs.Common.{ap, arith, if◌then◌else◌}
use Rattle.sig_core.specs.declared.member.Member.{Member}
use Rattle.gcp_master.specs.Orders.{bit_if, has_node, mask_of}
use Rattle.sys_restart.specs.Groups.{is_listed}

abbrev bit : Bool → ℕ
bit true = 1
bit false = 0

small : (b : Bool) → bit b ≤ 1
small true = omega arith
small false = omega arith

weight : (members : List Member) (node w : ℕ) → bit_if members node w ≡ w * bit (has_node node members)
weight members node w = by (has_node node members)
  where
    by : (b : Bool) → (if b then w else 0) ≡ w * bit b
    by true = omega arith
    by false = omega arith

is_one : (n : ℕ) (b : Bool) → n ≡ bit b → (n == 1) ≡ b
is_one n true is = ap (λ k. k == 1) is
is_one n false is = ap (λ k. k == 1) is

-- the number of these bits, and each of them
abbrev bits : (a b c d e f g h : ℕ) → ℕ
bits a b c d e f g h = 1 * a + 2 * b + 4 * c + 8 * d + 16 * e + 32 * f + 64 * g + 128 * h

module _ (a b c d e f g h : ℕ) (a1 : a ≤ 1) (b1 : b ≤ 1) (c1 : c ≤ 1) (d1 : d ≤ 1) (e1 : e ≤ 1) (f1 : f ≤ 1)
    (g1 : g ≤ 1) (h1 : h ≤ 1) where
  bit_1 : bits a b c d e f g h / 1 % 2 ≡ a
  bit_1 = omega arith

  bit_2 : bits a b c d e f g h / 2 % 2 ≡ b
  bit_2 = omega arith

  bit_3 : bits a b c d e f g h / 4 % 2 ≡ c
  bit_3 = omega arith

  bit_4 : bits a b c d e f g h / 8 % 2 ≡ d
  bit_4 = omega arith

  bit_5 : bits a b c d e f g h / 16 % 2 ≡ e
  bit_5 = omega arith

  bit_6 : bits a b c d e f g h / 32 % 2 ≡ f
  bit_6 = omega arith

  bit_7 : bits a b c d e f g h / 64 % 2 ≡ g
  bit_7 = omega arith

  bit_8 : bits a b c d e f g h / 128 % 2 ≡ h
  bit_8 = omega arith

module _ (members : List Member) where
  on : ℕ → ℕ
  on node = bit (has_node node members)

  few : (node : ℕ) → on node ≤ 1
  unfolding on
  few node = small (has_node node members)

  mask_is : mask_of members ≡ bits (on 1) (on 2) (on 3) (on 4) (on 5) (on 6) (on 7) (on 8)
  unfolding mask_of on
  mask_is =
      omega (
        arith,
        weight members 1 1,
        weight members 2 2,
        weight members 3 4,
        weight members 4 8,
        weight members 5 16,
        weight members 6 32,
        weight members 7 64,
        weight members 8 128,
      )

  abbrev Reads : ℕ → Type 0
  Reads node = bits (on 1) (on 2) (on 3) (on 4) (on 5) (on 6) (on 7) (on 8) / 2 ^ (node - 1) % 2 ≡ on node

  reads : (node : ℕ) → 1 ≤ node → node ≤ 8 → Reads node
  reads zero some low = absurd (omega (arith, some))
  reads (suc zero) some low =
      bit_1 (on 1) (on 2) (on 3) (on 4) (on 5) (on 6) (on 7) (on 8)
      (few 1) (few 2) (few 3) (few 4) (few 5) (few 6) (few 7) (few 8)
  reads (suc (suc zero)) some low =
      bit_2 (on 1) (on 2) (on 3) (on 4) (on 5) (on 6) (on 7) (on 8)
      (few 1) (few 2) (few 3) (few 4) (few 5) (few 6) (few 7) (few 8)
  reads (suc (suc (suc zero))) some low =
      bit_3 (on 1) (on 2) (on 3) (on 4) (on 5) (on 6) (on 7) (on 8)
      (few 1) (few 2) (few 3) (few 4) (few 5) (few 6) (few 7) (few 8)
  reads (suc (suc (suc (suc zero)))) some low =
      bit_4 (on 1) (on 2) (on 3) (on 4) (on 5) (on 6) (on 7) (on 8)
      (few 1) (few 2) (few 3) (few 4) (few 5) (few 6) (few 7) (few 8)
  reads (suc (suc (suc (suc (suc zero))))) some low =
      bit_5 (on 1) (on 2) (on 3) (on 4) (on 5) (on 6) (on 7) (on 8)
      (few 1) (few 2) (few 3) (few 4) (few 5) (few 6) (few 7) (few 8)
  reads (suc (suc (suc (suc (suc (suc zero)))))) some low =
      bit_6 (on 1) (on 2) (on 3) (on 4) (on 5) (on 6) (on 7) (on 8)
      (few 1) (few 2) (few 3) (few 4) (few 5) (few 6) (few 7) (few 8)
  reads (suc (suc (suc (suc (suc (suc (suc zero))))))) some low =
      bit_7 (on 1) (on 2) (on 3) (on 4) (on 5) (on 6) (on 7) (on 8)
      (few 1) (few 2) (few 3) (few 4) (few 5) (few 6) (few 7) (few 8)
  reads (suc (suc (suc (suc (suc (suc (suc (suc zero)))))))) some low =
      bit_8 (on 1) (on 2) (on 3) (on 4) (on 5) (on 6) (on 7) (on 8)
      (few 1) (few 2) (few 3) (few 4) (few 5) (few 6) (few 7) (few 8)
  reads (suc (suc (suc (suc (suc (suc (suc (suc (suc node))))))))) some low = absurd (omega (arith, low))

  -- a node is listed where it is among them
  pub mask_lists : (node : ℕ) → 1 ≤ node → node ≤ 8 → is_listed (mask_of members) node ≡ has_node node members
  unfolding on
  mask_lists node some low =
      is_one (mask_of members / 2 ^ (node - 1) % 2) (has_node node members)
      (ap (λ mask. mask / 2 ^ (node - 1) % 2) mask_is ∙ reads node some low)
