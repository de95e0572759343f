-- The bytes of slots are read as those slots.
use Rattle.std.proofs.Common.{◌≡◌, ◌∙◌, ℕ, false, refl, ap, nat_lt}
use Rattle.std.proofs.lemmas.Bool.{le-ltb}
use Rattle.std.proofs.lemmas.Nat.{from_be_bytes-to_be_bytes_8}
use Rattle.sig_core.specs.declared.slots.ControlSlot.{ControlSlot}
use Rattle.sysfile_core.specs.Slots.{control_bytes, control_fault, number_at, system_bytes, system_fault}
use Rattle.sysfile_core.specs.SlotLaws.{ControlSlotsAreRead, SystemSlotsAreRead}

pub system_read : SystemSlotsAreRead
unfolding system_bytes system_fault
system_read s is =
    let generation : number_at 8 (system_bytes s) ≡ s.generation =
    from_be_bytes-to_be_bytes_8 s.generation is.generation in
    let epoch : number_at 16 (system_bytes s) ≡ s.epoch = from_be_bytes-to_be_bytes_8 s.epoch is.epoch in (
      rw (is.nodes, is.replicas, is.fragments, is.mask) refl,
      ap (λ n. record { shape = s.shape; mask = s.mask; generation = n; epoch = number_at 16 (system_bytes s) })
          generation
          ∙ ap (λ n. record { shape = s.shape; mask = s.mask; generation = s.generation; epoch = n }) epoch,
    )

-- a control slot with these numbers
abbrev with_numbers : ControlSlot → ℕ → ℕ → ℕ → ℕ → ℕ → ℕ → ControlSlot
with_numbers s generation serial saved start last size = record {
  ckpt_file = s.ckpt_file;
  parity = s.parity;
  generation = generation;
  serial = serial;
  saved = saved;
  redo_start = start;
  redo_end = last;
  ckpt_size = size;
}

same_numbers : (s : ControlSlot) (generation serial saved start last size : ℕ) → generation ≡ s.generation
    → serial ≡ s.serial
    → saved ≡ s.saved → start ≡ s.redo_start → last ≡ s.redo_end → size ≡ s.ckpt_size
    → with_numbers s generation serial saved start last size ≡ s
same_numbers s generation serial saved start last size one two three four five six =
    rw (one, two, three, four, five, six) refl

pub control_read : ControlSlotsAreRead
unfolding control_bytes control_fault
control_read s is =
    let generation : number_at 8 (control_bytes s) ≡ s.generation =
    from_be_bytes-to_be_bytes_8 s.generation is.generation in
    let serial : number_at 16 (control_bytes s) ≡ s.serial = from_be_bytes-to_be_bytes_8 s.serial is.serial in
    let saved : number_at 24 (control_bytes s) ≡ s.saved = from_be_bytes-to_be_bytes_8 s.saved is.saved in
    let start : number_at 32 (control_bytes s) ≡ s.redo_start =
    from_be_bytes-to_be_bytes_8 s.redo_start is.redo_start in
    let last : number_at 40 (control_bytes s) ≡ s.redo_end = from_be_bytes-to_be_bytes_8 s.redo_end is.redo_end in
    let size : number_at 48 (control_bytes s) ≡ s.ckpt_size = from_be_bytes-to_be_bytes_8 s.ckpt_size is.ckpt_size in
    let least : nat_lt s.ckpt_file 2 ≡ false = le-ltb s.ckpt_file 2 is.least_file in
    let most : nat_lt 3 s.ckpt_file ≡ false = le-ltb 3 s.ckpt_file is.most_file in
    let parity : nat_lt 1 s.parity ≡ false = le-ltb 1 s.parity is.parity in (
      rw (least, most, parity, start, last, is.positions) refl,
      same_numbers s (number_at 8 (control_bytes s)) (number_at 16 (control_bytes s)) (number_at 24 (control_bytes s))
          (number_at 32 (control_bytes s)) (number_at 40 (control_bytes s)) (number_at 48 (control_bytes s))
          generation serial saved start last size,
    )
