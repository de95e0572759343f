-- Naming a life keeps the epoch and the rows of a restart, and in the end the life is named.
use Rattle.std.proofs.Common.{◌≡◌, ◌∙◌, ◌⊎◌, ℕ, ◌+◌, ◌≤◌, ◌<◌, ◌==◌, Bool, true, false, ◌&&◌, List, [], length, drop, refl, ap, sym, subst, arith, inl, inr, if◌then◌else◌}
use Rattle.std.specs.Prelude.{Option, None, Some, Result, Ok, Err}
use Rattle.std.proofs.lemmas.Bool.{eqb-true, ne_eqb, true≢false}
use Rattle.frag_map.specs.Shape.{IsShape}
use Rattle.host_io.specs.Call.{Call}
use Rattle.host_io.specs.DiskState.{state_of}
use Rattle.host_io.specs.Image.{IsRecord}
use Rattle.host_io.specs.declared.limits.TheConstants.{FILES}
use Rattle.host_io.proofs.StateLemmas.{same_number}
use Rattle.redo_log.specs.Stored.{files_of}
use Rattle.sig_core.specs.Ring.{file_of}
use Rattle.sig_core.specs.declared.fault.ReadFault.{ReadFault}
use Rattle.sig_core.specs.declared.fault.RestartFault.{RestartFault}
use Rattle.sig_core.specs.declared.fault.RestartFault.TheVariants.{OtherShape}
use Rattle.sig_core.specs.declared.slots.ControlSlot.{ControlSlot}
use Rattle.sig_core.specs.declared.slots.SystemSlot.{SystemSlot}
use Rattle.sig_core.specs.declared.view.Shape.{Shape}
use Rattle.sysfile_core.specs.declared.place.TheConstants.{CONTROL_FILE, SYSTEM_FILE}
use Rattle.sysfile_core.specs.declared.system.TheConstants.{SYSTEM_BYTES}
use Rattle.sysfile_core.specs.Owner.{owner_of}
use Rattle.sysfile_core.specs.Places.{place_of, slot_at}
use Rattle.sysfile_core.specs.Reading.{control_of_file, is_earlier, later_system, system_at, system_by}
use Rattle.sysfile_core.specs.Runs.{Runs}
use Rattle.sysfile_core.specs.Slots.{system_bytes}
use Rattle.sysfile_core.specs.Writing.{stands_closed}
use Rattle.sysfile_core.proofs.RunLemmas.{moments}
use Rattle.sysfile_core.proofs.SlotLemmas.{open_or_none}
use Rattle.sys_restart.specs.declared.restored.Restored.{Restored}
use Rattle.sys_restart.specs.Calls.{name_calls, next_system}
use Rattle.sys_restart.specs.Files.{Disks, Files}
use Rattle.sys_restart.specs.Latest.{later, latest_on, of_shape, same_shape}
use Rattle.sys_restart.specs.Places.{free_of, free_system, usable}
use Rattle.sys_restart.specs.Lost.{has_saved}
use Rattle.sys_restart.specs.Outdated.{is_outdated}
use Rattle.sys_restart.specs.Owner.{is_owned}
use Rattle.sys_restart.specs.Prepared.{AreToBeNamed, HasSlot, IsBelow, IsNamedOrBelow, IsSettled, KeepsOrNames, RestartsAs, with_files}
use Rattle.sys_restart.specs.SlotRows.{rows_of_slot}
use Rattle.sys_restart.proofs.AlikeLemmas.{AreAlike, no_answer, not_none, restored_alike, same_answer}
use Rattle.sys_restart.proofs.ControlLemmas.{in_use_names}
use Rattle.sys_restart.proofs.KeepsLemmas.{HasNumbers}
use Rattle.sys_restart.proofs.MomentLemmas.{kept_through}
use Rattle.sys_restart.proofs.NameLemmas.{both_below, first_named, next_is_system, second_named, system_back, system_long, system_split}
use Rattle.sys_restart.proofs.GroupsHeld.{AreHeldFrom, restored_held}
use Rattle.sys_restart.proofs.NamedLemmas.{latest_named, restored_named}
use Rattle.sys_restart.proofs.NextLemmas.{slot_on}
use Rattle.sys_restart.proofs.SameRows.{records_same, redo_file, rows_same}
use Rattle.sys_restart.proofs.SlotWrite.{HasPlace, IsMoment, IsSlotWrite, behind_has, other_has, place_has}
use Rattle.sys_restart.proofs.StandsLemmas.{LeavesOthers, disks_alike, disks_unsaved, left_as, others_kept}

-- what is read of both slots of a disk
pub record AreRead (shape : Shape) (node : ℕ) (system : List ℕ) (slot : Option SystemSlot) : Type 0 where
  pub one : Option SystemSlot
  pub other : Option SystemSlot
  pub first : system_at 0 system ≡ Ok one
  pub second : system_at 1 system ≡ Ok other
  pub first_fits : of_shape shape node (Ok one) ≡ Ok one
  pub second_fits : of_shape shape node (Ok other) ≡ Ok other
  pub later : later_system one other ≡ slot

of_shape_when : (shape : Shape) (node : ℕ) (found : SystemSlot) (b : Bool) → same_shape found.shape shape ≡ b
    → of_shape shape node (Ok (Some found)) ≡ (if b then Ok (Some found) else Err (OtherShape found.shape shape))
of_shape_when shape node found b is =
    ap (λ (same : Bool). if same then Ok (Some found) else Err (OtherShape found.shape shape)) is

-- a shape is the same as itself
pub itself : (shape : Shape) → same_shape shape shape ≡ true
itself shape =
    ap (λ (b : Bool). b && (shape.replicas == shape.replicas) && (shape.fragments == shape.fragments))
    (same_number shape.nodes)
    ∙ ap (λ (b : Bool). b && (shape.fragments == shape.fragments)) (same_number shape.replicas)
    ∙ same_number shape.fragments

-- a slot of the shape
fits : (shape : Shape) (node : ℕ) (read : Result (Option SystemSlot) ReadFault) (slot : Option SystemSlot)
    → of_shape shape node read ≡ Ok slot → read ≡ Ok slot
fits shape node (Err fault) slot is = absurd (no_answer _ slot _ refl is)
fits shape node (Ok None) slot is = ap Ok (same_answer None slot _ refl is)
fits shape node (Ok (Some found)) slot is = by (same_shape found.shape shape) refl
  where
    by : (b : Bool) → same_shape found.shape shape ≡ b
        → ◌≡◌ {A = Result (Option SystemSlot) ReadFault} (Ok (Some found)) (Ok slot)
    by true e = ap Ok (same_answer (Some found) slot _ (of_shape_when shape node found true e) is)
    by false e = absurd (no_answer _ slot _ (of_shape_when shape node found false e) is)

pub both_read : (shape : Shape) (node : ℕ) (files : Files) (slot : Option SystemSlot)
    → latest_on shape node files ≡ Ok slot → AreRead shape node (files SYSTEM_FILE) slot
both_read shape node files slot is =
    by (of_shape shape node (system_at 0 system)) (of_shape shape node (system_at 1 system)) refl refl
  where
    system : List ℕ
    system = files SYSTEM_FILE

    by : (a b : Result (Option SystemSlot) RestartFault) → of_shape shape node (system_at 0 system) ≡ a
        → of_shape shape node (system_at 1 system) ≡ b → AreRead shape node system slot
    by (Err fault) b e f =
        absurd (no_answer fault slot _ (ap (λ read. later read (of_shape shape node (system_at 1 system))) e) is)
    by (Ok one) (Err fault) e f =
        absurd (no_answer fault slot _
        (ap (λ read. later read (of_shape shape node (system_at 1 system))) e ∙ ap (later (Ok one)) f) is)
    by (Ok one) (Ok other) e f =
        let first = fits shape node (system_at 0 system) one e in
        let second = fits shape node (system_at 1 system) other f in record {
          one = one;
          other = other;
          first = first;
          second = second;
          first_fits = sym (ap (of_shape shape node) first) ∙ e;
          second_fits = sym (ap (of_shape shape node) second) ∙ f;
          later = same_answer _ slot _
              (ap (λ read. later read (of_shape shape node (system_at 1 system))) e ∙ ap (later (Ok one)) f) is;
        }

-- the latest of two slots that are read
both_latest : (shape : Shape) (node : ℕ) (files : Files) (a b : Option SystemSlot)
    → of_shape shape node (system_at 0 (files SYSTEM_FILE)) ≡ Ok a
    → of_shape shape node (system_at 1 (files SYSTEM_FILE)) ≡ Ok b → latest_on shape node files ≡ Ok (later_system a b)
both_latest shape node files a b e f =
    ap (λ read. later read (of_shape shape node (system_at 1 (files SYSTEM_FILE)))) e ∙ ap (later (Ok a)) f

-- which place is free, and what is lost there
pub free_either : (a b : Option SystemSlot) → (free_of a b ≡ 0) ⊎ (free_of a b ≡ 1)
free_either None b = inl refl
free_either (Some one) None = inr refl
free_either (Some one) (Some other) = by (is_earlier one other)
  where
    by : (earlier : Bool) → (◌≡◌ {A = ℕ} (if earlier then 0 else 1) 0) ⊎ (◌≡◌ {A = ℕ} (if earlier then 0 else 1) 1)
    by true = inl refl
    by false = inr refl

first_lost : (a b : Option SystemSlot) → free_of a b ≡ 0 → later_system None b ≡ later_system a b
first_lost None b free = refl
first_lost (Some one) None free = absurd (omega (arith, free))
first_lost (Some one) (Some other) free = by (is_earlier one other) free
  where
    by : (earlier : Bool) → ◌≡◌ {A = ℕ} (if earlier then 0 else 1) 0
        → Some other ≡ (if earlier then Some other else Some one)
    by true free = refl
    by false free = absurd (omega (arith, free))

second_lost : (a b : Option SystemSlot) → free_of a b ≡ 1 → later_system a None ≡ later_system a b
second_lost None b free = absurd (omega (arith, free))
second_lost (Some one) None free = refl
second_lost (Some one) (Some other) free = by (is_earlier one other) free
  where
    by : (earlier : Bool) → ◌≡◌ {A = ℕ} (if earlier then 0 else 1) 1
        → Some one ≡ (if earlier then Some other else Some one)
    by true free = absurd (omega (arith, free))
    by false free = refl

pub some_first : (a b : Option SystemSlot) → free_of a b ≡ 1 → a ≡ None → ⊥
some_first None b free none = omega (arith, free)
some_first (Some one) b free none = not_none one (Some one) none refl

-- the slot that stands at a place, whose file reaches so far
pub reaches : (which : ℕ) (system : List ℕ) (slot : Option SystemSlot) → system_at which system ≡ Ok slot
    → (slot ≡ None → ⊥) → place_of which + SYSTEM_BYTES ≤ length system
reaches which system slot is some =
    elim (open_or_none (place_of which) SYSTEM_BYTES system) [
      | inl opened ↦ opened.fits
      | inr none ↦ absurd (some (sym (same_answer None slot _ (ap (system_by (place_of which)) none) is)))
    ]

-- The latest slot of a node's files is that of others, or the one that names the life.
abbrev pub IsSameOrNamed : Shape → ℕ → Restored → Files → Option SystemSlot → Type 0
IsSameOrNamed shape node r files slot =
    (latest_on shape node files ≡ Ok slot) ⊎ (latest_on shape node files ≡ Ok (Some (next_system shape r)))

module _ (before after older : List Call) (ok : Bool) (shape : Shape) (node : ℕ) (r : Restored) (is : IsShape shape)
    (numbers : HasNumbers r) (kept : IsRecord before) (settles : IsSettled before)
    (runs : Runs (name_calls before shape r) before (Some after) ok) (image : Files)
    (moment : IsMoment before after older image) where
  abbrev pub system : List ℕ
  system = files_of before SYSTEM_FILE

  abbrev pub next : SystemSlot
  next = next_system shape r

  pub write : IsSlotWrite before after ok SYSTEM_FILE system (place_of (free_system system)) (system_bytes next)
  write = record {
    kept = kept;
    there = omega arith;
    opened = system_split next;
    some = omega (arith, system_long next);
    settled_so = settles SYSTEM_FILE (omega arith);
    runs = runs;
  }

  -- the other files are as they were
  pub others_same : (file : ℕ) → file < FILES → (SYSTEM_FILE == file) ≡ false → image file ≡ files_of before file
  others_same file there apart =
      left_as older image file (files_of before file) moment.left there (stays file apart ∙ settles file there)
    where
      last : ℕ
      last = place_of (free_system system) + SYSTEM_BYTES

      stays : LeavesOthers SYSTEM_FILE (state_of before) older
      stays =
          moments (LeavesOthers SYSTEM_FILE (state_of before)) (name_calls before shape r) before after moment.newer
          older ok
          (kept_through SYSTEM_FILE last (LeavesOthers SYSTEM_FILE (state_of before)) (name_calls before shape r) before
          (others_kept SYSTEM_FILE last (state_of before))
          (slot_on (stands_closed (place_of (free_system system)) system) SYSTEM_FILE (place_of (free_system system))
          last
          (drop 1 (system_bytes next)) (omega (arith, ap length (system_split next), system_long next)))
          (λ other away. refl))
          runs moment.split moment.long

  -- what is read at a place, of what stands there
  place_read : (which : ℕ) (found : Option (List ℕ))
      → slot_at (place_of which) (length (system_bytes next)) (image SYSTEM_FILE) ≡ found
      → system_at which (image SYSTEM_FILE) ≡ system_by (place_of which) found
  place_read which found same =
      ap (λ (n : ℕ). system_by (place_of which) (slot_at (place_of which) n (image SYSTEM_FILE)))
      (sym (system_long next))
      ∙ ap (system_by (place_of which)) same

  pub place_same : (which : ℕ)
      → slot_at (place_of which) (length (system_bytes next)) (image SYSTEM_FILE)
      ≡ slot_at (place_of which) (length (system_bytes next)) system
      → system_at which (image SYSTEM_FILE) ≡ system_at which system
  place_same which same =
      place_read which (slot_at (place_of which) (length (system_bytes next)) system) same
      ∙ ap (λ (n : ℕ). system_by (place_of which) (slot_at (place_of which) n system)) (system_long next)

  next_fits : of_shape shape node (Ok (Some next)) ≡ Ok (Some next)
  next_fits = of_shape_when shape node next true (itself shape)

  -- what is read at the free place: none, the new slot, or what was read there
  at_free : (which : ℕ) (slot : Option SystemSlot) → free_system system ≡ which → system_at which system ≡ Ok slot
      → of_shape shape node (Ok slot) ≡ Ok slot
      → (of_shape shape node (system_at which (image SYSTEM_FILE)) ≡ Ok None)
      ⊎ ((of_shape shape node (system_at which (image SYSTEM_FILE)) ≡ Ok (Some next))
      ⊎ (of_shape shape node (system_at which (image SYSTEM_FILE)) ≡ Ok slot))
  at_free which slot free reads shaped =
      by (place_has before after older ok SYSTEM_FILE system (place_of which) (system_bytes next) image
      (subst (λ (w : ℕ). IsSlotWrite before after ok SYSTEM_FILE system (place_of w) (system_bytes next)) free write)
      moment)
    where
      by : HasPlace system (place_of which) (system_bytes next) (image SYSTEM_FILE)
          → (of_shape shape node (system_at which (image SYSTEM_FILE)) ≡ Ok None)
          ⊎ ((of_shape shape node (system_at which (image SYSTEM_FILE)) ≡ Ok (Some next))
          ⊎ (of_shape shape node (system_at which (image SYSTEM_FILE)) ≡ Ok slot))
      by (inl none) = inl (ap (of_shape shape node) (place_read which None none))
      by (inr (inl new)) =
          inr (inl (ap (of_shape shape node)
          (place_read which (Some (system_bytes next)) new
          ∙ system_back (place_of which) next (next_is_system shape r is numbers))
          ∙ next_fits))
      by (inr (inr old)) = inr (inr (ap (of_shape shape node) (place_same which old ∙ reads) ∙ shaped))

  -- the latest slot
  pub image_latest : (slot : Option SystemSlot) → latest_on shape node (files_of before) ≡ Ok slot
      → IsBelow (r.generation + 1) slot → IsSameOrNamed shape node r image slot
  image_latest slot latest below = by (free_either read.one read.other)
    where
      read : AreRead shape node system slot
      read = both_read shape node (files_of before) slot latest

      free_is : free_system system ≡ free_of read.one read.other
      free_is =
          ap (λ found. free_of (usable found) (usable (system_at 1 system))) read.first
          ∙ ap (λ found. free_of read.one (usable found)) read.second

      lower : IsBelow (r.generation + 1) read.one × IsBelow (r.generation + 1) read.other
      lower =
          both_below (r.generation + 1) read.one read.other (subst (IsBelow (r.generation + 1)) (sym read.later) below)

      by_first : free_of read.one read.other ≡ 0 → of_shape shape node (system_at 1 (image SYSTEM_FILE)) ≡ Ok read.other
          → (of_shape shape node (system_at 0 (image SYSTEM_FILE)) ≡ Ok None)
          ⊎ ((of_shape shape node (system_at 0 (image SYSTEM_FILE)) ≡ Ok (Some next))
          ⊎ (of_shape shape node (system_at 0 (image SYSTEM_FILE)) ≡ Ok read.one))
          → IsSameOrNamed shape node r image slot
      by_first free second (inl none) =
          inl (both_latest shape node image None read.other none second
          ∙ ap Ok (first_lost read.one read.other free ∙ read.later))
      by_first free second (inr (inl new)) =
          inr (both_latest shape node image (Some next) read.other new second
          ∙ ap Ok (first_named shape r read.other (inr lower.1)))
      by_first free second (inr (inr old)) =
          inl (both_latest shape node image read.one read.other old second ∙ ap Ok read.later)

      by_second : free_of read.one read.other ≡ 1 → of_shape shape node (system_at 0 (image SYSTEM_FILE)) ≡ Ok read.one
          → (of_shape shape node (system_at 1 (image SYSTEM_FILE)) ≡ Ok None)
          ⊎ ((of_shape shape node (system_at 1 (image SYSTEM_FILE)) ≡ Ok (Some next))
          ⊎ (of_shape shape node (system_at 1 (image SYSTEM_FILE)) ≡ Ok read.other))
          → IsSameOrNamed shape node r image slot
      by_second free first (inl none) =
          inl (both_latest shape node image read.one None first none
          ∙ ap Ok (second_lost read.one read.other free ∙ read.later))
      by_second free first (inr (inl new)) =
          inr (both_latest shape node image read.one (Some next) first new
          ∙ ap Ok (second_named shape r read.one (inr lower.0)))
      by_second free first (inr (inr old)) =
          inl (both_latest shape node image read.one read.other first old ∙ ap Ok read.later)

      by : (free_of read.one read.other ≡ 0) ⊎ (free_of read.one read.other ≡ 1) → IsSameOrNamed shape node r image slot
      by (inl free) =
          let at : free_system system ≡ 0 = free_is ∙ free in
          let first = subst (λ (w : ℕ). IsSlotWrite before after ok SYSTEM_FILE system (place_of w) (system_bytes next))
          at write in
          by_first free
          (ap (of_shape shape node)
          (place_same 1 (behind_has before after older ok SYSTEM_FILE system (place_of 0) (system_bytes next) image
          first moment
          (place_of 1) (omega (arith, system_long next)))
          ∙ read.second)
          ∙ read.second_fits)
          (at_free 0 read.one at read.first read.first_fits)
      by (inr free) =
          let at : free_system system ≡ 1 = free_is ∙ free in
          let second = subst (λ (w : ℕ). IsSlotWrite before after ok SYSTEM_FILE system (place_of w)
          (system_bytes next)) at write in
          by_second free
          (ap (of_shape shape node)
          (place_same 0 (other_has before after older ok SYSTEM_FILE system (place_of 1) (system_bytes next) image
          second moment
          (place_of 0) (inl (omega (arith, system_long next)))
          (omega (arith, system_long next, reaches 0 system read.one read.first (some_first read.one read.other free))))
          ∙ read.first)
          ∙ read.first_fits)
          (at_free 1 read.other at read.second read.second_fits)

-- the rows of a slot that is in use don't depend on the system slots
log_alike : (before : List Call) (generation : ℕ) (image : Files)
    → ((file : ℕ) → file < FILES → (SYSTEM_FILE == file) ≡ false → image file ≡ files_of before file)
    → (slot : ControlSlot) → control_of_file generation (files_of before CONTROL_FILE) ≡ Ok (Some slot)
    → (position : ℕ) → image (file_of slot.parity position) ≡ files_of before (file_of slot.parity position)
log_alike before generation image same slot is position =
    let names = in_use_names generation (files_of before CONTROL_FILE) slot is in
    let at = redo_file slot.parity position names.parity in
    same (file_of slot.parity position) at.1
    (ne_eqb SYSTEM_FILE (file_of slot.parity position) (λ zero. absurd (omega (arith, zero, at.0))))

rows_alike : (before : List Call) (generation : ℕ) (image : Files)
    → ((file : ℕ) → file < FILES → (SYSTEM_FILE == file) ≡ false → image file ≡ files_of before file)
    → (slot : ControlSlot) (epoch : ℕ) → control_of_file generation (files_of before CONTROL_FILE) ≡ Ok (Some slot)
    → rows_of_slot epoch image slot ≡ rows_of_slot epoch (files_of before) slot
rows_alike before generation image same slot epoch is =
    let names = in_use_names generation (files_of before CONTROL_FILE) slot is in
    rows_same epoch (files_of before) image slot
    (same slot.ckpt_file (omega (arith, names.most))
    (ne_eqb SYSTEM_FILE slot.ckpt_file (λ zero. absurd (omega (arith, zero, names.least)))))
    (log_alike before generation image same slot is)

-- a node's disk is as good for a restart as one whose system slots alone are others
system_alike : (before : List Call) (shape : Shape) (node generation : ℕ) (image : Files)
    → latest_on shape node image ≡ latest_on shape node (files_of before)
    → ((file : ℕ) → file < FILES → (SYSTEM_FILE == file) ≡ false → image file ≡ files_of before file)
    → AreAlike shape node generation (files_of before) image
system_alike before shape node generation image latest same = record {
  system = latest;
  slots = λ slot is. ap (control_of_file generation) (same CONTROL_FILE (omega arith) refl) ∙ is;
  rows = rows_alike before generation image same;
  redo = λ slot is.
      records_same (files_of before) image slot (log_alike before generation image same slot is);
  ahead = λ epoch is. ap (is_outdated generation epoch) (same CONTROL_FILE (omega arith) refl) ∙ is;
  owned = λ is. ap (λ bytes. is_owned node (owner_of bytes)) (same CONTROL_FILE (omega arith) refl) ∙ is;
}

-- and a node that is prepared still is
pub still_prepared : (before : List Call) (shape : Shape) (node : ℕ) (r : Restored) (image : Files)
    → ((file : ℕ) → file < FILES → (SYSTEM_FILE == file) ≡ false → image file ≡ files_of before file)
    → (slot : ControlSlot) → HasSlot shape node r (files_of before) slot → HasSlot shape node r image slot
still_prepared before shape node r image same slot has = record {
  in_use = ap (control_of_file (r.generation + 1)) (same CONTROL_FILE (omega arith) refl) ∙ has.in_use;
  serial = has.serial;
  saved = has.saved;
  start = has.start;
  end = has.end;
  has_rows = rows_alike before (r.generation + 1) image same slot r.epoch has.in_use ∙ has.has_rows;
  owner = ap owner_of (same CONTROL_FILE (omega arith) refl) ∙ has.owner;
}

-- an image of which the life isn't named restarts as before
not_named : (shape : Shape) (node : ℕ) (r : Restored) (disks : Disks) (before : List Call) (image : Files)
    → AreToBeNamed shape node r disks before
    → latest_on shape node image ≡ latest_on shape node (files_of before)
    → ((file : ℕ) → file < FILES → (SYSTEM_FILE == file) ≡ false → image file ≡ files_of before file)
    → RestartsAs shape r (with_files disks node image)
not_named shape node r disks before image are latest same = by are.same
  where
    by : RestartsAs shape r (with_files disks node (files_of before)) → RestartsAs shape r (with_files disks node image)
    by (found, (is, as_before)) = (
      found,
      (
        restored_alike shape (with_files disks node (files_of before)) (with_files disks node image) found
            (disks_alike shape found.generation node disks (files_of before) image
            (system_alike before shape node found.generation image latest same))
            (λ zero.
            disks_unsaved node disks (files_of before) image
            (λ none. ap has_saved (same CONTROL_FILE (omega arith) refl) ∙ none))
            is,
        as_before,
      ),
    )

-- one of which it is restarts as the life that is named
is_named : (shape : Shape) (node : ℕ) (r : Restored) (disks : Disks) (before : List Call) (image : Files)
    → IsShape shape → AreToBeNamed shape node r disks before
    → latest_on shape node image ≡ Ok (Some (next_system shape r))
    → ((file : ℕ) → file < FILES → (SYSTEM_FILE == file) ≡ false → image file ≡ files_of before file)
    → RestartsAs shape r (with_files disks node image)
is_named shape node r disks before image is are latest same = (
  record { generation = r.generation + 1; epoch = r.epoch; groups = r.groups },
  (
    restored_named shape r now is each_slot are.groups (held are.same)
        (latest_named shape r now 1 shape.nodes None (inr tt) each_latest
        (inr (node, (are.least, (omega (arith, are.most), here_latest))))),
    record { generation = inr refl; epoch = refl; groups = refl },
  ),
)
  where
    now : Disks
    now = with_files disks node image

    old : Disks
    old = with_files disks node (files_of before)

    -- the rows of each group are its own, since a restart gave them
    held : RestartsAs shape r old → AreHeldFrom shape 0 r.groups
    held (found, (restored, as_before)) =
        subst (AreHeldFrom shape 0) as_before.groups (restored_held shape is old found restored)

    here_is : (b : Bool) (files : Files) → (node == node) ≡ b → b ≡ true → (if b then files else disks node) ≡ files
    here_is true files e so = refl
    here_is false files e so = absurd (true≢false (sym so))

    here : (files : Files) → with_files disks node files node ≡ files
    here files = here_is (node == node) files refl (same_number node)

    else_is : (other : ℕ) (b : Bool) → (other == node) ≡ b → b ≡ false
        → (if b then image else disks other) ≡ (if b then files_of before else disks other)
    else_is other false e so = refl
    else_is other true e so = absurd (true≢false so)

    here_latest : latest_on shape node (now node) ≡ Ok (Some (next_system shape r))
    here_latest = ap (latest_on shape node) (here image) ∙ latest

    Prepared : ℕ → Files → Type 0
    Prepared other files = (slot : ControlSlot) × HasSlot shape other r files slot

    prepared_here : Prepared node (old node) → Prepared node (now node)
    prepared_here has = by (subst (Prepared node) (here (files_of before)) has)
      where
        by : Prepared node (files_of before) → Prepared node (now node)
        by (slot, it) =
            subst (Prepared node) (sym (here image)) (slot, still_prepared before shape node r image same slot it)

    each_slot : (other : ℕ) → 1 ≤ other → other ≤ shape.nodes → Prepared other (now other)
    each_slot other some few = by (other == node) refl
      where
        by : (b : Bool) → (other == node) ≡ b → Prepared other (now other)
        by true e =
            let at : node ≡ other = sym (eqb-true other node e) in
            subst (λ (n : ℕ). Prepared n (now n)) at (prepared_here (are.others node are.least are.most).0)
        by false e =
            subst (Prepared other) (sym (else_is other (other == node) refl e)) (are.others other some few).0

    Named : ℕ → Files → Type 0
    Named other files =
        (slot : Option SystemSlot) × ((latest_on shape other files ≡ Ok slot) × IsNamedOrBelow shape r slot)

    each_latest : (other : ℕ) → 1 ≤ other → other < 1 + shape.nodes → Named other (now other)
    each_latest other some few = by (other == node) refl
      where
        by : (b : Bool) → (other == node) ≡ b → Named other (now other)
        by true e =
            let at : node ≡ other = sym (eqb-true other node e) in
            subst (λ (n : ℕ). Named n (now n)) at (Some (next_system shape r), (here_latest, inl refl))
        by false e =
            subst (Named other) (sym (else_is other (other == node) refl e))
            (are.others other some (omega (arith, few))).1

pub keeps_or_names : (before after : List Call) (ok : Bool) (shape : Shape) (node : ℕ) (r : Restored) → IsShape shape
    → HasNumbers r → Runs (name_calls before shape r) before (Some after) ok
    → KeepsOrNames shape node r before after
keeps_or_names before after ok shape node r is numbers runs disks are newer older split long image left =
    by (image_latest before after older ok shape node r is numbers are.kept are.settled runs image moment are.below.0
    are.below.1.0 are.below.1.1)
  where
    moment : IsMoment before after older image
    moment = record { newer = newer; split = split; long = long; left = left }

    same : (file : ℕ) → file < FILES → (SYSTEM_FILE == file) ≡ false → image file ≡ files_of before file
    same = others_same before after older ok shape node r is numbers are.kept are.settled runs image moment

    by : IsSameOrNamed shape node r image are.below.0 → RestartsAs shape r (with_files disks node image)
    by (inl latest) = not_named shape node r disks before image are (latest ∙ sym are.below.1.0) same
    by (inr latest) = is_named shape node r disks before image is are latest same

-- where no call was made a restart is as before
pub keeps_unnamed : (before : List Call) (shape : Shape) (node : ℕ) (r : Restored)
    → KeepsOrNames shape node r before before
keeps_unnamed before shape node r disks are newer older split long image left =
    not_named shape node r disks before image are
    (ap
    (λ bytes. later (of_shape shape node (system_at 0 bytes)) (of_shape shape node (system_at 1 bytes)))
    (same SYSTEM_FILE (omega arith)))
    (λ file there away. same file there)
  where
    at : older ≡ before
    at = moments (λ moment. moment ≡ before) [] before before newer older true refl (refl, refl) split long

    same : (file : ℕ) → file < FILES → image file ≡ files_of before file
    same file there =
        left_as older image file (files_of before file) left there
        (ap (λ (calls : List Call). state_of calls file) at ∙ are.settled file there)
