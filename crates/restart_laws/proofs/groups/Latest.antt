-- The latest system slot of all disks is that of one of them, and none has a later one.
use Rattle.std.proofs.Common.{◌≡◌, ◌≤◌, ◌<◌, ◌+◌, ◌==◌, ◌||◌, ◌&&◌, ◌∙◌, ℕ, zero, suc, Bool, true, false, refl, sym, ap}
use Rattle.std.proofs.Common.{subst, arith, if◌then◌else◌}
use Rattle.std.proofs.lemmas.Bool.Decides.{nat_tests}
use Rattle.std.specs.Prelude.{nat_lt, Option, None, Some, Ok}
use Rattle.sig_core.specs.declared.slots.SystemSlot.{SystemSlot}
use Rattle.sig_core.specs.declared.view.Shape.{Shape}
use Rattle.sysfile_core.specs.Reading.{is_earlier, later_system}
use Rattle.sys_restart.proofs.LatestLemmas.{latest_ends, latest_more}
use Rattle.sys_restart.specs.Files.{Disks}
use Rattle.sys_restart.specs.Latest.{latest_from, latest_on}

-- of one generation a slot is earlier where its epoch is less
earlier_less : (one other : SystemSlot) → one.generation ≡ other.generation → is_earlier one other ≡ true
    → one.epoch < other.epoch
earlier_less one other same is =
    by (nat_lt one.generation other.generation) refl (one.generation == other.generation)
    (nat_lt one.epoch other.epoch) refl is
  where
    by : (a : Bool) → nat_lt one.generation other.generation ≡ a → (b c : Bool) → nat_lt one.epoch other.epoch ≡ c
        → (a || (b && c)) ≡ true → one.epoch < other.epoch
    by true e b c f passes = absurd (grind (arith, nat_tests, e, same))
    by false e true c f passes = grind (arith, nat_tests, f, passes)
    by false e false c f passes = absurd cc

unless_earlier : (one other : SystemSlot) → one.generation ≡ other.generation → is_earlier one other ≡ false
    → other.epoch ≤ one.epoch
unless_earlier one other same is =
    by (nat_lt one.generation other.generation) (one.generation == other.generation) refl
    (nat_lt one.epoch other.epoch) refl is
  where
    by : (a b : Bool) → (one.generation == other.generation) ≡ b → (c : Bool) → nat_lt one.epoch other.epoch ≡ c
        → (a || (b && c)) ≡ false → other.epoch ≤ one.epoch
    by true b e c f passes = absurd cc
    by false true e true f passes = absurd cc
    by false true e false f passes = grind (arith, nat_tests, f)
    by false false e c f passes = absurd (grind (arith, nat_tests, e, same))

-- the slots that are so are all of one generation
module _ (shape : Shape) (disks : Disks) (generation : ℕ) (P : SystemSlot → Type 0)
    (same : (slot : SystemSlot) → P slot → slot.generation ≡ generation) where
  -- a node's disk has one that is so
  pub record HasSlot (node : ℕ) : Type 0 where
    pub slot : SystemSlot
    pub found : latest_on shape node (disks node) ≡ Ok (Some slot)
    pub so : P slot

  -- The latest of this one and those of so many nodes is so, and none of them is later.
  pub record IsLatest (node more : ℕ) (found : Option SystemSlot) (low : ℕ) : Type 0 where
    pub slot : SystemSlot
    pub is : latest_from shape disks node more (Ok found) ≡ Ok (Some slot)
    pub so : P slot
    pub least : low ≤ slot.epoch
    pub greatest :
        (n : ℕ) (one : SystemSlot) → node ≤ n → n < node + more → latest_on shape n (disks n) ≡ Ok (Some one)
        → one.epoch ≤ slot.epoch

  one_slot : (n : ℕ) (one other : SystemSlot) → latest_on shape n (disks n) ≡ Ok (Some one)
      → latest_on shape n (disks n) ≡ Ok (Some other) → one ≡ other
  one_slot n one other is is_too = let both : Ok (Some one) ≡ Ok (Some other) = sym is ∙ is_too in cc

  -- the one that is the later of two goes on
  goes_on : (node more : ℕ) (found : Option SystemSlot) (own next : SystemSlot) (least : ℕ)
      → latest_on shape node (disks node) ≡ Ok (Some own) → later_system found (Some own) ≡ Some next
      → own.epoch ≤ next.epoch → least ≤ next.epoch → IsLatest (node + 1) more (Some next) next.epoch
      → IsLatest node (suc more) found least
  goes_on node more found own next least is later up low rest = record {
    slot = rest.slot;
    is =
        sym (latest_more shape disks node (suc more) more found (Some own) refl is)
        ∙ ap (λ (o : Option SystemSlot). latest_from shape disks (node + 1) more (Ok o)) later
        ∙ rest.is;
    so = rest.so;
    least = let up_to = rest.least in omega (arith, low, up_to);
    greatest = λ n one from below there. by n one from below there (n == node) refl;
  }
    where
      by : (n : ℕ) (one : SystemSlot) → node ≤ n → n < node + suc more → latest_on shape n (disks n) ≡ Ok (Some one)
          → (b : Bool) → (n == node) ≡ b → one.epoch ≤ rest.slot.epoch
      by n one from below there true e =
          let at : n ≡ node = grind (arith, nat_tests, e) in
          let one_is : one ≡ own =
          one_slot node one own (subst (λ k. latest_on shape k (disks k) ≡ Ok (Some one)) at there) is in
          let same_epoch : one.epoch ≡ own.epoch = ap (λ (s : SystemSlot). s.epoch) one_is in
          let up_to = rest.least in
          omega (arith, same_epoch, up, up_to)
      by n one from below there false e =
          let above : node + 1 ≤ n = grind (arith, nat_tests, e, from) in
          rest.greatest n one above (omega (arith, below)) there

  latest_so : (node more : ℕ) (found : SystemSlot) → P found
      → ((n : ℕ) → node ≤ n → n < node + more → HasSlot n) → IsLatest node more (Some found) found.epoch
  latest_so node zero found so each = record {
    slot = found;
    is = latest_ends shape disks node 0 (Ok (Some found)) refl;
    so = so;
    least = omega arith;
    greatest = λ n one from below there. absurd (omega (arith, from, below));
  }
  latest_so node (suc more) found so each =
      by (each node (omega arith) (omega arith)) (is_earlier found (each node (omega arith) (omega arith)).slot) refl
      (λ next so_too. latest_so (node + 1) more next so_too
      (λ n from below. each n (omega (arith, from)) (omega (arith, below))))
    where
      by : (own : HasSlot node) (b : Bool) → is_earlier found own.slot ≡ b
          → ((next : SystemSlot) → P next → IsLatest (node + 1) more (Some next) next.epoch)
          → IsLatest node (suc more) (Some found) found.epoch
      by own true e rest =
          let less : found.epoch < own.slot.epoch =
          earlier_less found own.slot (same found so ∙ sym (same own.slot own.so)) e in
          goes_on node more (Some found) own.slot own.slot found.epoch own.found
          (ap (λ (b : Bool). if b then Some own.slot else Some found) e) (omega arith) (omega (arith, less))
          (rest own.slot own.so)
      by own false e rest =
          let more_or_same : own.slot.epoch ≤ found.epoch =
          unless_earlier found own.slot (same found so ∙ sym (same own.slot own.so)) e in
          goes_on node more (Some found) own.slot found found.epoch own.found
          (ap (λ (b : Bool). if b then Some own.slot else Some found) e) more_or_same (omega arith)
          (rest found so)

  -- so is the latest of all nodes, where there are some
  pub latest_of_each : 1 ≤ shape.nodes → ((n : ℕ) → 1 ≤ n → n ≤ shape.nodes → HasSlot n)
      → IsLatest 1 shape.nodes None 0
  latest_of_each some each = by shape.nodes some (λ n from below. each n from (omega (arith, below)))
    where
      by : (nodes : ℕ) → 1 ≤ nodes → ((n : ℕ) → 1 ≤ n → n < 1 + nodes → HasSlot n) → IsLatest 1 nodes None 0
      by zero few each = absurd (omega (arith, few))
      by (suc more) few each =
          let own = each 1 (omega arith) (omega arith) in
          goes_on 1 more None own.slot own.slot 0 own.found refl (omega arith) (omega arith)
          (latest_so (1 + 1) more own.slot own.so
          (λ n from below. each n (omega (arith, from)) (omega (arith, below))))
