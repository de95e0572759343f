-- What holds of a slot that was read: its numbers have 64 bits, and what is checked of it fits.
use Rattle.std.proofs.Common.{◌≡◌, ℕ, zero, suc, ◌<◌, ◌^◌, ◌/◌, ◌==◌, Bool, true, false, not}
use Rattle.std.proofs.Common.{nat_le, nat_lt, List, [], ◌∷◌, take, drop, get_or, refl, sym, subst, arith}
use Rattle.std.proofs.Common.{if◌then◌else◌}
use Rattle.std.specs.Prelude.{Option, None, Some, Ok}
use Rattle.std.proofs.lemmas.Bool.{and_from, and_parts, eq-eqb, le-leb, ltb-true}
use Rattle.std.proofs.lemmas.List.Elements.{All-drop, All-head, All-tail, All-take}
use Rattle.std.proofs.lemmas.Nat.{div_below}
use Rattle.host_io.specs.Image.{AreBytes}
use Rattle.node_disk.specs.Saving.{noted_system}
use Rattle.node_views.specs.WellFormed.{is_mask}
use Rattle.sig_core.specs.declared.slots.ControlSlot.{ControlSlot}
use Rattle.sig_core.specs.declared.slots.SystemSlot.{SystemSlot}
use Rattle.sig_core.specs.declared.view.Shape.{Shape}
use Rattle.sysfile_core.specs.declared.control.TheConstants.{CONTROL_BYTES}
use Rattle.sysfile_core.specs.declared.place.TheConstants.{CONTROL_FILE, SYSTEM_FILE}
use Rattle.sysfile_core.specs.declared.system.TheConstants.{SYSTEM_BYTES}
use Rattle.sysfile_core.specs.Places.{is_open, place_of, slot_at}
use Rattle.sysfile_core.specs.Reading.{control_at, control_by, control_in, system_at, system_by, system_in}
use Rattle.sysfile_core.specs.Reading.{unless_damaged}
use Rattle.sysfile_core.specs.Slots.{IsSystemSlot, are_fragments, are_nodes, are_replicas, control_fault, control_of}
use Rattle.sysfile_core.specs.Slots.{names_nodes, number_at, system_fault, system_of}
use Rattle.sys_restart.proofs.AlikeLemmas.{no_answer, not_none, same_answer, same_some}

byte_small : (bytes : List ℕ) → AreBytes bytes → (i : ℕ) → get_or bytes i 0 < 256
byte_small [] are i = omega arith
byte_small (byte ∷ bytes) are zero = All-head (λ b. b < 256) byte bytes are
byte_small (byte ∷ bytes) are (suc i) = byte_small bytes (All-tail (λ b. b < 256) byte bytes are) i

number_small : (at : ℕ) (bytes : List ℕ) → AreBytes bytes → number_at at bytes < 2 ^ 64
number_small at bytes are =
    let small : (i : ℕ) → get_or (take 8 (drop at bytes)) i 0 < 256 =
    byte_small (take 8 (drop at bytes))
    (All-take (λ b. b < 256) 8 (drop at bytes) (All-drop (λ b. b < 256) at bytes are)) in
    omega (arith, small 0, small 1, small 2, small 3, small 4, small 5, small 6, small 7)

-- the slot at a place is bytes of the file
slot_bytes : (place size : ℕ) (bytes found : List ℕ) → AreBytes bytes → slot_at place size bytes ≡ Some found
    → AreBytes found
unfolding slot_at
slot_bytes place size bytes found are is = by (is_open place size bytes) is
  where
    by : (opened : Bool) → (if opened then Some (take size (drop place bytes)) else None) ≡ Some found
        → AreBytes found
    by true so =
        subst AreBytes (same_some (take size (drop place bytes)) found _ refl so)
        (All-take (λ b. b < 256) size (drop place bytes) (All-drop (λ b. b < 256) place bytes are))
    by false so = absurd (not_none found _ refl so)

-- the numbers of a control slot
pub record HasNumbers (slot : ControlSlot) : Type 0 where
  pub generation : slot.generation < 2 ^ 64
  pub size : slot.ckpt_size < 2 ^ 64

control_in_is : (place : ℕ) (bytes : List ℕ) (slot : ControlSlot) → control_in place bytes ≡ Ok (Some slot)
    → control_of bytes ≡ slot
unfolding control_in
control_in_is place bytes slot is = by (control_fault bytes) is
  where
    by : (fault : Option ℕ) → unless_damaged CONTROL_FILE place bytes (control_of bytes) fault ≡ Ok (Some slot)
        → control_of bytes ≡ slot
    by (Some at) so = absurd (no_answer _ (Some slot) _ refl so)
    by None so =
        same_some (control_of bytes) slot _ refl (same_answer (Some (control_of bytes)) (Some slot) _ refl so)

pub control_numbers : (which : ℕ) (bytes : List ℕ) (slot : ControlSlot) → AreBytes bytes
    → control_at which bytes ≡ Ok (Some slot) → HasNumbers slot
control_numbers which bytes slot are is = by (slot_at (place_of which) CONTROL_BYTES bytes) refl is
  where
    by : (found : Option (List ℕ)) → slot_at (place_of which) CONTROL_BYTES bytes ≡ found
        → control_by (place_of which) found ≡ Ok (Some slot) → HasNumbers slot
    by None e so = absurd (not_none slot _ refl (same_answer None (Some slot) _ refl so))
    by (Some found) e so =
        let own = slot_bytes (place_of which) CONTROL_BYTES bytes found are e in
        subst HasNumbers (control_in_is (place_of which) found slot so)
        (record { generation = number_small 8 found own; size = number_small 48 found own })

-- what is checked of a system slot, but for its mask
pub record IsReadable (slot : SystemSlot) : Type 0 where
  pub nodes : are_nodes slot.shape.nodes ≡ true
  pub replicas : are_replicas slot.shape.replicas slot.shape.nodes ≡ true
  pub fragments : are_fragments slot.shape.fragments ≡ true
  pub generation : slot.generation < 2 ^ 64

fits_so_far : (version nodes replicas fragments : Bool) (rest : Option ℕ)
    → (if not version
    then Some 1
    else if not nodes then Some 2 else if not replicas then Some 3 else if not fragments then Some 4 else rest) ≡ None
    → (nodes ≡ true) × ((replicas ≡ true) × (fragments ≡ true))
fits_so_far false nodes replicas fragments rest is = absurd (not_none 1 _ is refl)
fits_so_far true false replicas fragments rest is = absurd (not_none 2 _ is refl)
fits_so_far true true false fragments rest is = absurd (not_none 3 _ is refl)
fits_so_far true true true false rest is = absurd (not_none 4 _ is refl)
fits_so_far true true true true rest is = (refl, (refl, refl))

system_checked : (bytes : List ℕ) → AreBytes bytes → system_fault bytes ≡ None → IsReadable (system_of bytes)
unfolding system_fault
system_checked bytes are none =
    let fits = fits_so_far _ _ _ _ _ none in
    record {
      nodes = fits.0;
      replicas = fits.1.0;
      fragments = fits.1.1;
      generation = number_small 8 bytes are;
    }

system_in_checked : (place : ℕ) (bytes : List ℕ) (slot : SystemSlot) → AreBytes bytes
    → system_in place bytes ≡ Ok (Some slot) → IsReadable slot
unfolding system_in
system_in_checked place bytes slot are is = by (system_fault bytes) refl is
  where
    by : (fault : Option ℕ) → system_fault bytes ≡ fault
        → unless_damaged SYSTEM_FILE place bytes (system_of bytes) fault ≡ Ok (Some slot) → IsReadable slot
    by (Some at) e so = absurd (no_answer _ (Some slot) _ refl so)
    by None e so =
        subst IsReadable
        (same_some (system_of bytes) slot _ refl (same_answer (Some (system_of bytes)) (Some slot) _ refl so))
        (system_checked bytes are e)

pub system_readable : (which : ℕ) (bytes : List ℕ) (slot : SystemSlot) → AreBytes bytes
    → system_at which bytes ≡ Ok (Some slot) → IsReadable slot
system_readable which bytes slot are is = by (slot_at (place_of which) SYSTEM_BYTES bytes) refl is
  where
    by : (found : Option (List ℕ)) → slot_at (place_of which) SYSTEM_BYTES bytes ≡ found
        → system_by (place_of which) found ≡ Ok (Some slot) → IsReadable slot
    by None e so = absurd (not_none slot _ refl (same_answer None (Some slot) _ refl so))
    by (Some found) e so =
        system_in_checked (place_of which) found slot
        (slot_bytes (place_of which) SYSTEM_BYTES bytes found are e) so

-- a mask of the nodes of a shape is one of a slot
mask_names : (shape : Shape) (mask : ℕ) → is_mask shape mask ≡ true → names_nodes mask shape.nodes ≡ true
mask_names shape mask is =
    let both = and_parts (nat_lt 0 mask) (nat_lt mask (2 ^ shape.nodes)) is in
    let some : 0 < mask = ltb-true 0 mask both.0 in
    let low : mask < 2 ^ shape.nodes = ltb-true mask (2 ^ shape.nodes) both.1 in
    let none : mask / 2 ^ shape.nodes < 1 =
    div_below mask (2 ^ shape.nodes) 1 (omega (arith, low)) (omega (arith, low)) in
    and_from (nat_le 1 mask) (mask / 2 ^ shape.nodes == 0) (le-leb 1 mask (omega (arith, some)))
    (eq-eqb (mask / 2 ^ shape.nodes) 0 (omega (arith, none)))

-- one that is noted can be read back
pub noted_readable : (slot : SystemSlot) (shape : Shape) (epoch mask : ℕ) → IsReadable slot → slot.shape ≡ shape
    → is_mask shape mask ≡ true → epoch < 2 ^ 64 → IsSystemSlot (noted_system slot epoch mask)
noted_readable slot shape epoch mask reads same is low = record {
  nodes = reads.nodes;
  replicas = reads.replicas;
  fragments = reads.fragments;
  mask = subst (λ (s : Shape). names_nodes mask s.nodes ≡ true) (sym same) (mask_names shape mask is);
  generation = reads.generation;
  epoch = low;
}
