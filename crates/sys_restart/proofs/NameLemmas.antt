-- Naming the next life on a node's disk.
use Rattle.std.proofs.Common.{◌≡◌, ◌∙◌, ℕ, zero, suc, ◌+◌, ◌-◌, ◌%◌, ◌^◌, ◌≤◌, ◌<◌, ◌==◌, Bool, true, false, nat_le, nat_lt, ◌&&◌, ◌∷◌, length, drop, refl, ap, sym, subst, arith, inl, inr, if◌then◌else◌}
use Rattle.std.specs.Prelude.{Option, None, Some, Ok, ◌||◌}
use Rattle.std.proofs.lemmas.Bool.{eq-eqb, eqb-true, le-leb, le-ltb, lt-ltb, ltb-false, ltb-true, true≢false}
use Rattle.frag_map.specs.Shape.{IsShape}
use Rattle.sig_core.specs.declared.slots.SystemSlot.{SystemSlot}
use Rattle.sig_core.specs.declared.view.Shape.{Shape}
use Rattle.sysfile_core.specs.declared.place.TheConstants.{OPEN, SYSTEM_FILE}
use Rattle.sysfile_core.specs.declared.system.TheConstants.{SYSTEM_BYTES}
use Rattle.sysfile_core.specs.Reading.{is_earlier, later_system, system_in, unless_damaged}
use Rattle.sysfile_core.specs.Slots.{IsSystemSlot, names_nodes, system_bytes, system_of}
use Rattle.sysfile_core.proofs.ReadLemmas.{system_read}
use Rattle.sys_restart.specs.declared.restored.Restored.{Restored}
use Rattle.sys_restart.specs.Calls.{next_system}
use Rattle.sys_restart.specs.Prepared.{IsBelow, IsNamedOrBelow}
use Rattle.sys_restart.proofs.KeepsLemmas.{HasNumbers}
use Rattle.sys_restart.proofs.NextLemmas.{next_generation}

-- a slot's bytes are its gate and what follows it
pub system_split : (slot : SystemSlot) → OPEN ∷ drop 1 (system_bytes slot) ≡ system_bytes slot
unfolding system_bytes
system_split slot = refl

pub system_long : (slot : SystemSlot) → length (system_bytes slot) ≡ SYSTEM_BYTES
unfolding system_bytes
system_long slot = refl

pub system_back : (place : ℕ) (slot : SystemSlot) → IsSystemSlot slot
    → system_in place (system_bytes slot) ≡ Ok (Some slot)
unfolding system_in
system_back place slot is =
    let read = system_read slot is in
    ap (unless_damaged SYSTEM_FILE place (system_bytes slot) (system_of (system_bytes slot))) read.0
    ∙ ap (λ (s : SystemSlot). Ok (Some s)) read.1

-- a mask of all nodes names them
all_named : (nodes : ℕ) → 1 ≤ nodes → nodes ≤ 8 → names_nodes (2 ^ nodes - 1) nodes ≡ true
all_named zero some few = absurd (omega (arith, some))
all_named (suc zero) some few = refl
all_named (suc (suc zero)) some few = refl
all_named (suc (suc (suc zero))) some few = refl
all_named (suc (suc (suc (suc zero)))) some few = refl
all_named (suc (suc (suc (suc (suc zero))))) some few = refl
all_named (suc (suc (suc (suc (suc (suc zero)))))) some few = refl
all_named (suc (suc (suc (suc (suc (suc (suc zero))))))) some few = refl
all_named (suc (suc (suc (suc (suc (suc (suc (suc zero)))))))) some few = refl
all_named (suc (suc (suc (suc (suc (suc (suc (suc (suc more))))))))) some few = absurd (omega (arith, few))

both_true : (a b : Bool) → a ≡ true → b ≡ true → (a && b) ≡ true
both_true true b one other = other
both_true false b one other = absurd (true≢false (sym one))

-- the slot that names the life can be read back
pub next_is_system : (shape : Shape) (r : Restored) → IsShape shape → HasNumbers r → IsSystemSlot (next_system shape r)
next_is_system shape r is numbers = record {
  nodes = both_true (nat_le 1 shape.nodes) (nat_le shape.nodes 8) (le-leb 1 shape.nodes is.nodes_some)
      (le-leb shape.nodes 8 is.nodes_few);
  replicas = both_true (nat_le 1 shape.replicas && nat_le shape.replicas 4) (shape.nodes % shape.replicas == 0)
      (both_true (nat_le 1 shape.replicas) (nat_le shape.replicas 4) (le-leb 1 shape.replicas is.replicas_some)
      (le-leb shape.replicas 4 is.replicas_few))
      (eq-eqb (shape.nodes % shape.replicas) 0 is.even);
  fragments = both_true (nat_le 1 shape.fragments) (nat_le shape.fragments 32)
      (le-leb 1 shape.fragments is.fragments_some) (le-leb shape.fragments 32 is.fragments_few);
  mask = all_named shape.nodes is.nodes_some is.nodes_few;
  generation = next_generation r numbers.generation numbers.unused;
  epoch = numbers.epoch;
}

-- Which of two slots is the later one.
either_false : (a b : Bool) → (a || b) ≡ false → a ≡ false
either_false true b is = absurd (true≢false is)
either_false false b is = refl

later_when : (one other : SystemSlot) (earlier : Bool) → is_earlier one other ≡ earlier
    → later_system (Some one) (Some other) ≡ (if earlier then Some other else Some one)
later_when one other earlier is = ap (λ (b : Bool). if b then Some other else Some one) is

-- one of a lesser generation is earlier
earlier_by : (one other : SystemSlot) → one.generation < other.generation → is_earlier one other ≡ true
earlier_by one other less =
    ap (λ (b : Bool). b || ((one.generation == other.generation) && nat_lt one.epoch other.epoch))
    (lt-ltb one.generation other.generation less)

not_earlier : (one other : SystemSlot) → other.generation < one.generation → is_earlier one other ≡ false
not_earlier one other less =
    ap (λ (b : Bool). b || ((one.generation == other.generation) && nat_lt one.epoch other.epoch))
    (le-ltb one.generation other.generation (omega (arith, less)))
    ∙ ap (λ (b : Bool). b && nat_lt one.epoch other.epoch) (apart (one.generation == other.generation) refl)
  where
    apart : (b : Bool) → (one.generation == other.generation) ≡ b → b ≡ false
    apart false e = refl
    apart true e = absurd (omega (arith, less, eqb-true one.generation other.generation e))

-- the generation of the earlier one isn't greater
same_or_less : (one other : SystemSlot) (b : Bool) → (one.generation == other.generation) ≡ b
    → (b && nat_lt one.epoch other.epoch) ≡ true → one.generation ≤ other.generation
same_or_less one other true e is = omega (arith, eqb-true one.generation other.generation e)
same_or_less one other false e is = absurd (true≢false (sym is))

earlier_least : (one other : SystemSlot) → is_earlier one other ≡ true → one.generation ≤ other.generation
earlier_least one other is = by (nat_lt one.generation other.generation) refl is
  where
    by : (b : Bool) → nat_lt one.generation other.generation ≡ b
        → (b || ((one.generation == other.generation) && nat_lt one.epoch other.epoch)) ≡ true
        → one.generation ≤ other.generation
    by true e both = omega (arith, ltb-true one.generation other.generation e)
    by false e both = same_or_less one other (one.generation == other.generation) refl both

-- and where it isn't earlier, that of the other isn't greater
not_less : (one other : SystemSlot) → is_earlier one other ≡ false → other.generation ≤ one.generation
not_less one other is = ltb-false one.generation other.generation (either_false _ _ is)

-- both are below a generation where the later one is
pub both_below : (generation : ℕ) (a b : Option SystemSlot) → IsBelow generation (later_system a b)
    → IsBelow generation a × IsBelow generation b
both_below generation None b below = (tt, below)
both_below generation (Some one) None below = (below, tt)
both_below generation (Some one) (Some other) below = by (is_earlier one other) refl
  where
    by : (earlier : Bool) → is_earlier one other ≡ earlier
        → (one.generation < generation) × (other.generation < generation)
    by true e =
        let last : other.generation < generation = subst (IsBelow generation) (later_when one other true e) below in
        (omega (arith, last, earlier_least one other e), last)
    by false e =
        let first : one.generation < generation = subst (IsBelow generation) (later_when one other false e) below in
        (first, omega (arith, first, not_less one other e))

-- the life is named by the later one where it is by one of them and the other is below
pub first_named : (shape : Shape) (r : Restored) (b : Option SystemSlot) → IsNamedOrBelow shape r b
    → later_system (Some (next_system shape r)) b ≡ Some (next_system shape r)
first_named shape r None is = refl
first_named shape r (Some other) (inl named) =
    ap (later_system (Some (next_system shape r))) named
    ∙ itself (is_earlier (next_system shape r) (next_system shape r))
  where
    itself : (b : Bool)
        → (if b then Some (next_system shape r) else Some (next_system shape r)) ≡ Some (next_system shape r)
    itself true = refl
    itself false = refl
first_named shape r (Some other) (inr below) =
    later_when (next_system shape r) other false (not_earlier (next_system shape r) other below)

pub second_named : (shape : Shape) (r : Restored) (a : Option SystemSlot) → IsNamedOrBelow shape r a
    → later_system a (Some (next_system shape r)) ≡ Some (next_system shape r)
second_named shape r None is = refl
second_named shape r (Some one) (inl named) =
    ap (λ (a : Option SystemSlot). later_system a (Some (next_system shape r))) named
    ∙ first_named shape r (Some (next_system shape r)) (inl refl)
second_named shape r (Some one) (inr below) =
    later_when one (next_system shape r) true (earlier_by one (next_system shape r) below)

later_below : (generation : ℕ) (a b : Option SystemSlot) → IsBelow generation a → IsBelow generation b
    → IsBelow generation (later_system a b)
later_below generation None b one other = other
later_below generation (Some a) None one other = one
later_below generation (Some a) (Some b) one other = by (is_earlier a b)
  where
    by : (earlier : Bool) → IsBelow generation (if earlier then Some b else Some a)
    by true = other
    by false = one

pub later_either : (shape : Shape) (r : Restored) (a b : Option SystemSlot) → IsNamedOrBelow shape r a
    → IsNamedOrBelow shape r b → IsNamedOrBelow shape r (later_system a b)
later_either shape r a b (inl named) other =
    inl (ap (λ (x : Option SystemSlot). later_system x b) named ∙ first_named shape r b other)
later_either shape r a b (inr below) (inl named) =
    inl (ap (later_system a) named ∙ second_named shape r a (inr below))
later_either shape r a b (inr below) (inr other) = inr (later_below (r.generation + 1) a b below other)
