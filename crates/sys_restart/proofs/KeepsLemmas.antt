-- Preparing a node keeps what a restart gives.
use Rattle.std.proofs.Common.{◌≡◌, ◌∙◌, ℕ, ◌+◌, ◌*◌, ◌^◌, ◌≤◌, ◌<◌, ◌==◌, max, Bool, true, false, nat_lt, List, [], ◌∷◌, ◌++◌, length, drop, refl, ap, sym, subst, arith, inl, inr, if◌then◌else◌}
use Rattle.std.specs.Prelude.{Option, None, Some, Result, Ok}
use Rattle.std.proofs.lemmas.Bool.{ne_eqb}
use Rattle.host_io.specs.Call.{Call, Synced}
use Rattle.host_io.specs.DiskState.{FileState, state_of}
use Rattle.host_io.specs.Image.{IsLeft, IsRecord}
use Rattle.host_io.specs.declared.limits.TheConstants.{FILES}
use Rattle.host_io.proofs.StateLemmas.{reads_as_an_image}
use Rattle.redo_log.specs.Stored.{files_of}
use Rattle.sig_core.specs.declared.fault.ReadFault.{ReadFault}
use Rattle.sig_core.specs.declared.piece.TheConstants.{PIECE_BYTES}
use Rattle.sig_core.specs.declared.slots.ControlSlot.{ControlSlot}
use Rattle.sig_core.specs.declared.view.Shape.{Shape}
use Rattle.sysfile_core.specs.declared.control.TheConstants.{CONTROL_BYTES}
use Rattle.sysfile_core.specs.declared.owner.TheConstants.{OWNER, OWNER_BYTES}
use Rattle.sysfile_core.specs.declared.place.TheConstants.{CONTROL_FILE}
use Rattle.sysfile_core.specs.Owner.{named_by}
use Rattle.sysfile_core.specs.Places.{place_of, slot_at}
use Rattle.sysfile_core.specs.Reading.{control_at, control_by, control_of_file, of_generation}
use Rattle.sysfile_core.specs.Runs.{Runs}
use Rattle.sysfile_core.specs.Slots.{IsControlSlot, control_bytes}
use Rattle.sysfile_core.specs.Writing.{slot_calls, stands_closed}
use Rattle.sysfile_core.proofs.RunLemmas.{HoldsThrough, all_done, done, moments}
use Rattle.sysfile_core.proofs.SlotLemmas.{open_or_none}
use Rattle.sys_restart.specs.declared.places.Places.{Places}
use Rattle.sys_restart.specs.declared.restored.Restored.{Restored}
use Rattle.sys_restart.specs.Calls.{checkpoint_for, is_used_up, next_file, next_slot, node_calls, own_calls, piece_calls}
use Rattle.sys_restart.specs.Files.{Files}
use Rattle.sys_restart.specs.Lost.{has_saved}
use Rattle.sys_restart.specs.Owner.{is_owned}
use Rattle.sys_restart.specs.Places.{control_places, usable}
use Rattle.sys_restart.specs.Prepared.{IsSettled, KeepsRestart, with_files}
use Rattle.sys_restart.proofs.AlikeLemmas.{not_none, restored_alike, same_answer}
use Rattle.sys_restart.proofs.ControlLemmas.{IsOtherOr, first_written, free_either, second_free, second_written}
use Rattle.sys_restart.proofs.LostLemmas.{AreWritten, IsWritten, stays_unsaved}
use Rattle.sys_restart.proofs.MomentLemmas.{AreOn, done_then, kept_in_the_end, kept_through, longer, on_then, runs_record, split_moment, through_map}
use Rattle.sys_restart.proofs.OwnerLemmas.{own_same, slot_size}
use Rattle.sys_restart.proofs.OwnerWrite.{HasSlotsOf, IsOwnWrite, in_use_same, outdated_same, own_on, saved_same, slots_stay}
use Rattle.sys_restart.proofs.NextLemmas.{control_long, control_size, control_split, next_file_is, next_is_slot, other_file, pieces_fit, pieces_on, read_back, slot_on, some_checkpoint}
use Rattle.sys_restart.proofs.OutdatedLemmas.{stays_current}
use Rattle.sys_restart.proofs.SlotWrite.{HasPlace, IsMoment, IsSlotWrite, behind_has, other_has, part_behind, place_has}
use Rattle.sys_restart.proofs.StandsLemmas.{IsNear, LeavesOthers, disks_alike, disks_unsaved, left_as, near_alike, near_file, others_kept, settled_alike}

-- the numbers of what was restored are such as a slot has, and aren't used up
pub record HasNumbers (r : Restored) : Type 0 where
  pub generation : r.generation < 2 ^ 64
  pub epoch : r.epoch < 2 ^ 64
  pub unused : is_used_up r ≡ false

-- at the place of the control slot that is written there is that slot, or what was there, or none
at_the_place : (mid after older : List Call) (ok : Bool) (control : List ℕ) (which : ℕ) (slot : ControlSlot)
    (image : Files) → IsMoment mid after older image
    → IsSlotWrite mid after ok CONTROL_FILE control (place_of which) (control_bytes slot) → IsControlSlot slot
    → IsWritten slot (control_at which control) (control_at which (image CONTROL_FILE))
at_the_place mid after older ok control which slot image moment write readable =
    by (place_has mid after older ok CONTROL_FILE control (place_of which) (control_bytes slot) image write moment)
  where
    place : ℕ
    place = place_of which

    read_as : (found : Option (List ℕ)) → slot_at place (length (control_bytes slot)) (image CONTROL_FILE) ≡ found
        → control_at which (image CONTROL_FILE) ≡ control_by place found
    read_as found is =
        ap (λ (n : ℕ). control_by place (slot_at place n (image CONTROL_FILE))) (sym (control_long slot))
        ∙ ap (control_by place) is

    by : HasPlace control place (control_bytes slot) (image CONTROL_FILE)
        → IsWritten slot (control_at which control) (control_at which (image CONTROL_FILE))
    by (inl none) = inr (inl (read_as None none))
    by (inr (inl new)) = inr (inr (read_as (Some (control_bytes slot)) new ∙ read_back place slot readable))
    by (inr (inr old)) =
        inl (read_as (slot_at place (length (control_bytes slot)) control) old
        ∙ ap (λ (n : ℕ). control_by place (slot_at place n control)) (control_long slot))

-- so it is what was there, or none of another generation than that slot's
other_or : (generation : ℕ) (slot : ControlSlot) (before after : Result (Option ControlSlot) ReadFault)
    → (slot.generation == generation) ≡ false → IsWritten slot before after → IsOtherOr generation before after
other_or generation slot before after other (inl same) = inl same
other_or generation slot before after other (inr (inl none)) = inr (None, (none, refl))
other_or generation slot before after other (inr (inr new)) =
    inr (Some slot, (new, ap (λ (b : Bool). if b then Some slot else None) other))

-- another place is as it was, where its slot is
pub same_slot : (other size : ℕ) (control image : List ℕ) → size ≡ CONTROL_BYTES
    → slot_at (place_of other) size image ≡ slot_at (place_of other) size control
    → control_at other image ≡ control_at other control
same_slot other size control image long is =
    ap (λ (n : ℕ). control_by (place_of other) (slot_at (place_of other) n image)) (sym long)
    ∙ ap (control_by (place_of other)) is
    ∙ ap (λ (n : ℕ). control_by (place_of other) (slot_at (place_of other) n control)) long

-- a slot stands at the place that isn't free, and the file reaches so far
pub reaches : (which : ℕ) (control : List ℕ) (slot : ControlSlot) → control_at which control ≡ Ok (Some slot)
    → place_of which + CONTROL_BYTES ≤ length control
reaches which control slot is =
    elim (open_or_none (place_of which) CONTROL_BYTES control) [
      | inl opened ↦ opened.fits
      | inr none ↦
          absurd (not_none slot _ refl (same_answer None (Some slot) _ (ap (control_by (place_of which)) none) is))
    ]

-- the next control slot is written at the free place, and the other place stays
places_written : (mid after older : List Call) (ok : Bool) (control : List ℕ) (generation : ℕ) (slot : ControlSlot)
    (image : Files) → IsMoment mid after older image
    → IsSlotWrite mid after ok CONTROL_FILE control (place_of (control_places generation control).free)
    (control_bytes slot)
    → IsControlSlot slot → AreWritten slot (control_places generation control).free control (image CONTROL_FILE)
places_written mid after older ok control generation slot image moment write readable =
    elim
    (free_either (of_generation generation (usable (control_at 0 control)))
    (of_generation generation (usable (control_at 1 control)))) [
      | inl free ↦
          let first = at_free 0 free in
          inl (
            free,
            (
              same_slot 1 (length (control_bytes slot)) control (image CONTROL_FILE) (control_long slot)
                  (behind_has mid after older ok CONTROL_FILE control (place_of 0) (control_bytes slot) image first
                  moment (place_of 1) (omega (arith, control_long slot))),
              at_the_place mid after older ok control 0 slot image moment first readable,
            ),
          )
      | inr free ↦
          let second = at_free 1 free in
          let there = second_free generation control free in
          inr (
            free,
            (
              same_slot 0 (length (control_bytes slot)) control (image CONTROL_FILE) (control_long slot)
                  (other_has mid after older ok CONTROL_FILE control (place_of 1) (control_bytes slot) image second
                  moment (place_of 0) (inl (omega (arith, control_long slot)))
                  (omega (arith, control_long slot, reaches 0 control there.0 there.1))),
              at_the_place mid after older ok control 1 slot image moment second readable,
            ),
          )
    ]
  where
    at_free : (which : ℕ) → (control_places generation control).free ≡ which
        → IsSlotWrite mid after ok CONTROL_FILE control (place_of which) (control_bytes slot)
    at_free which free =
        subst (λ (w : ℕ). IsSlotWrite mid after ok CONTROL_FILE control (place_of w) (control_bytes slot)) free write

-- so the control slot in use is still in use
slots_stand : (control image : List ℕ) (generation : ℕ) (slot : ControlSlot)
    → AreWritten slot (control_places generation control).free control image
    → (slot.generation == generation) ≡ false → (found : Option ControlSlot)
    → control_of_file generation control ≡ Ok found → control_of_file generation image ≡ Ok found
slots_stand control image generation slot (inl (free, (kept, written))) other found is =
    first_written generation control image found free kept
    (other_or generation slot (control_at 0 control) (control_at 0 image) other written) is
slots_stand control image generation slot (inr (free, (kept, written))) other found is =
    second_written generation control image found free kept
    (other_or generation slot (control_at 1 control) (control_at 1 image) other written) is

module _ (before : List Call) (shape : Shape) (node : ℕ) (r : Restored) where
  abbrev pub control : List ℕ
  control = files_of before CONTROL_FILE

  abbrev pub places_now : Places
  places_now = control_places r.generation control

  abbrev pub bytes : List ℕ
  bytes = checkpoint_for shape node r

  abbrev pub slot : ControlSlot
  slot = next_slot r places_now.in_use (length bytes)

  abbrev pub file : ℕ
  file = next_file places_now.in_use

  -- the calls that write the checkpoint, those that write the slot, and those that make the file the node's own
  abbrev pub first : List Call
  first = piece_calls (length bytes) file 0 bytes ++ Synced file ∷ []

  abbrev pub second : List Call
  second = slot_calls control CONTROL_FILE (place_of places_now.free) (drop 1 (control_bytes slot))

  abbrev pub third : List Call
  third = own_calls node (max (length control) (place_of places_now.free + CONTROL_BYTES)) control

  abbrev pub mid : List Call
  mid = done first before

  -- the record once the slot is written
  abbrev pub placed : List Call
  placed = done second mid

  pub apart : (file == CONTROL_FILE) ≡ false
  apart = ne_eqb file CONTROL_FILE (λ same. absurd (omega (arith, same, (next_file_is places_now.in_use).0)))

  first_on : AreOn file (0 + PIECE_BYTES * length bytes) first
  first_on = pieces_on (length bytes) file 0 (0 + PIECE_BYTES * length bytes) bytes (omega arith)

  pub free_few : places_now.free ≤ 1
  free_few =
      elim
      (free_either (of_generation r.generation (usable (control_at 0 control)))
      (of_generation r.generation (usable (control_at 1 control)))) [
        | inl none ↦ omega (arith, none)
        | inr one ↦ omega (arith, one)
      ]

  second_on : (end : ℕ) → place_of places_now.free + CONTROL_BYTES ≤ end → AreOn CONTROL_FILE end second
  second_on end fits =
      slot_on (stands_closed (place_of places_now.free) control) CONTROL_FILE (place_of places_now.free) end
      (drop 1 (control_bytes slot)) (omega (arith, control_size slot, fits))

  nothing_else : LeavesOthers file (state_of before) before
  nothing_else other away = refl

  -- once the checkpoint is written
  pub mid_leaves : LeavesOthers file (state_of before) mid
  mid_leaves =
      kept_in_the_end file (0 + PIECE_BYTES * length bytes) (LeavesOthers file (state_of before)) first before
      (others_kept file (0 + PIECE_BYTES * length bytes) (state_of before)) first_on nothing_else

  pub readable : HasNumbers r → Runs first before (Some mid) true → IsControlSlot slot
  readable numbers made =
      next_is_slot r places_now.in_use (length bytes) numbers.generation numbers.epoch numbers.unused
      (omega (
        arith,
        pieces_fit (length bytes) file 0 bytes before (Some mid) made (omega arith)
            (some_checkpoint shape node r),
      ))

  pub slot_write : (after : List Call) (ok : Bool) → IsRecord before → IsSettled before
      → Runs first before (Some mid) true → Runs second mid (Some after) ok
      → IsSlotWrite mid after ok CONTROL_FILE control (place_of places_now.free) (control_bytes slot)
  slot_write after ok kept settles made runs = record {
    kept = runs_record first before (Some mid) made kept;
    there = omega arith;
    opened = control_split slot;
    some = omega (arith, control_long slot);
    settled_so = mid_leaves CONTROL_FILE apart ∙ settles CONTROL_FILE (omega arith);
    runs = runs;
  }

  rest_on : AreOn CONTROL_FILE (place_of OWNER + OWNER_BYTES) (second ++ third)
  rest_on =
      on_then CONTROL_FILE (place_of OWNER + OWNER_BYTES) second third
      (second_on (place_of OWNER + OWNER_BYTES) (omega (arith, free_few)))
      (own_on node (max (length control) (place_of places_now.free + CONTROL_BYTES)) control)

  -- the calls behind it are on the control file alone
  pub rest_leaves : (after : List Call) → Runs (node_calls before shape node r) before (Some after) true
      → LeavesOthers CONTROL_FILE (state_of mid) after
  rest_leaves after runs =
      subst (LeavesOthers CONTROL_FILE (state_of mid))
      (sym (all_done (node_calls before shape node r) before after runs ∙ done_then first (second ++ third) before))
      (kept_in_the_end CONTROL_FILE (place_of OWNER + OWNER_BYTES) (LeavesOthers CONTROL_FILE (state_of mid))
      (second ++ third) mid (others_kept CONTROL_FILE (place_of OWNER + OWNER_BYTES) (state_of mid)) rest_on
      (λ other away. refl))

  mid_control : files_of mid CONTROL_FILE ≡ control
  mid_control = ap (λ (s : FileState). s.bytes) (mid_leaves CONTROL_FILE apart)

  -- once the slot is written the control file is made the node's own
  pub own_write : (after : List Call) (ok : Bool) → IsRecord placed → Runs third placed (Some after) ok
      → IsOwnWrite node placed after ok
  own_write after ok kept runs =
      let stands = stands_closed (place_of places_now.free) control in
      let body = drop 1 (control_bytes slot) in
      let long = slot_size places_now.free stands body mid free_few (control_size slot) in record {
        kept = kept;
        settled_so = refl;
        front = omega (arith, long);
        runs = subst (λ asks. Runs asks placed (Some after) ok)
            (sym (own_same places_now.free stands body mid free_few (control_size slot) node
            ∙ ap
            (λ bytes. own_calls node (max (length bytes) (place_of places_now.free + CONTROL_BYTES)) bytes)
            mid_control))
            runs;
      }

  -- at each moment of the slot's write an image is near
  near_slot : (after newer older : List Call) (ok : Bool) (image : Files) → IsSettled before
      → IsSlotWrite mid after ok CONTROL_FILE control (place_of places_now.free) (control_bytes slot)
      → IsControlSlot slot → after ≡ newer ++ older → length mid ≤ length older
      → IsLeft older image → IsNear before node file r.generation r.epoch image
  near_slot after newer older ok image settles write fits split long left = record {
    others = λ other there not_file not_control.
        left_as older image other (files_of before other) left there
        (stays other not_control ∙ mid_leaves other not_file ∙ settles other there);
    slots = λ found is.
        slots_stand control (image CONTROL_FILE) r.generation slot written other found is;
    ahead = λ bound is.
        stays_current r.generation bound slot places_now.free control (image CONTROL_FILE) other written is;
    unsaved = λ zero is.
        stays_unsaved slot places_now.free control (image CONTROL_FILE) (ap (λ (n : ℕ). nat_lt 0 n) zero) written is;
    owned = λ own.
        ap (λ found. is_owned node (named_by found))
        (part_behind mid after older ok CONTROL_FILE control (place_of places_now.free) (control_bytes slot) image write
        moment (place_of OWNER) OWNER_BYTES (omega arith) (omega (arith, control_long slot, free_few)))
        ∙ own;
  }
    where
      other : (slot.generation == r.generation) ≡ false
      other = ne_eqb (r.generation + 1) r.generation (λ same. absurd (omega (arith, same)))

      moment : IsMoment mid after older image
      moment = record { newer = newer; split = split; long = long; left = left }

      written : AreWritten slot places_now.free control (image CONTROL_FILE)
      written = places_written mid after older ok control r.generation slot image moment write fits

      stays : LeavesOthers CONTROL_FILE (state_of mid) older
      stays =
          moments (LeavesOthers CONTROL_FILE (state_of mid)) second mid after newer older ok
          (kept_through CONTROL_FILE (place_of places_now.free + CONTROL_BYTES)
          (LeavesOthers CONTROL_FILE (state_of mid)) second mid
          (others_kept CONTROL_FILE (place_of places_now.free + CONTROL_BYTES) (state_of mid))
          (second_on (place_of places_now.free + CONTROL_BYTES) (omega arith)) (λ other away. refl))
          write.runs split long

  -- and so it is while the file is made the node's own
  near_own : (after newer older : List Call) (ok : Bool) (image : Files) → IsSettled before
      → IsSlotWrite mid placed true CONTROL_FILE control (place_of places_now.free) (control_bytes slot)
      → IsControlSlot slot → Runs third placed (Some after) ok → after ≡ newer ++ older → length placed ≤ length older
      → IsLeft older image → IsNear before node file r.generation r.epoch image
  near_own after newer older ok image settles write fits runs split long left = record {
    others = λ other there not_file not_control.
        left_as older image other (files_of before other) left there
        (stays other not_control ∙ mid_leaves other not_file ∙ settles other there);
    slots = λ found is.
        in_use_same node (files_of placed CONTROL_FILE) (image CONTROL_FILE) same r.generation ∙ near.slots found is;
    ahead = λ bound is.
        outdated_same node (files_of placed CONTROL_FILE) (image CONTROL_FILE) same r.generation bound
        ∙ near.ahead bound is;
    unsaved = λ zero is.
        saved_same node (files_of placed CONTROL_FILE) (image CONTROL_FILE) same ∙ near.unsaved zero is;
    owned = λ own. same.owned (near.owned own);
  }
    where
      recorded : IsRecord placed
      recorded = runs_record second mid (Some placed) write.runs write.kept

      near : IsNear before node file r.generation r.epoch (files_of placed)
      near =
          near_slot placed [] placed true (files_of placed) settles write fits refl (longer second mid)
          (reads_as_an_image placed recorded)

      same : HasSlotsOf node (files_of placed CONTROL_FILE) (image CONTROL_FILE)
      same =
          slots_stay node placed after older ok image (own_write after ok recorded runs)
          (record { newer = newer; split = split; long = long; left = left })

      stays : LeavesOthers CONTROL_FILE (state_of mid) older
      stays =
          moments (LeavesOthers CONTROL_FILE (state_of mid)) third placed after newer older ok
          (kept_through CONTROL_FILE (place_of OWNER + OWNER_BYTES) (LeavesOthers CONTROL_FILE (state_of mid)) third
          placed (others_kept CONTROL_FILE (place_of OWNER + OWNER_BYTES) (state_of mid))
          (own_on node (max (length control) (place_of places_now.free + CONTROL_BYTES)) control)
          (kept_in_the_end CONTROL_FILE (place_of places_now.free + CONTROL_BYTES)
          (LeavesOthers CONTROL_FILE (state_of mid)) second mid
          (others_kept CONTROL_FILE (place_of places_now.free + CONTROL_BYTES) (state_of mid))
          (second_on (place_of places_now.free + CONTROL_BYTES) (omega arith)) (λ other away. refl)))
          runs split long

  abbrev NearIn : List Call → Type 0
  NearIn moment = (image : Files) → IsLeft moment image → IsNear before node file r.generation r.epoch image

  -- at each moment of all
  near_always : (after newer older : List Call) (ok : Bool) → HasNumbers r → IsRecord before → IsSettled before
      → Runs (node_calls before shape node r) before (Some after) ok → after ≡ newer ++ older
      → length before ≤ length older → NearIn older
  near_always after newer older ok numbers kept settles runs split long =
      elim
      (split_moment CONTROL_FILE (place_of OWNER + OWNER_BYTES) first (second ++ third) before after newer older ok
      rest_on runs split) [
        | inl among ↦
            moments NearIn first before among.after among.newer older among.ok while_file among.runs among.split long
        | inr (made, behind, late) ↦ behind_file made behind late
      ]
    where
      while_file : HoldsThrough NearIn first before
      while_file =
          through_map (LeavesOthers file (state_of before)) NearIn first before
          (λ moment leaves image left.
          near_file before moment node file r.generation r.epoch image settles leaves apart left)
          (kept_through file (0 + PIECE_BYTES * length bytes) (LeavesOthers file (state_of before)) first before
          (others_kept file (0 + PIECE_BYTES * length bytes) (state_of before)) first_on nothing_else)

      behind_file : Runs first before (Some mid) true → Runs (second ++ third) mid (Some after) ok
          → length mid ≤ length older → NearIn older
      behind_file made behind late image left =
          elim
          (split_moment CONTROL_FILE (place_of OWNER + OWNER_BYTES) second third mid after newer older ok
          (own_on node (max (length control) (place_of places_now.free + CONTROL_BYTES)) control) behind split) [
            | inl among ↦
                near_slot among.after among.newer older among.ok image settles
                (slot_write among.after among.ok kept settles made among.runs) (readable numbers made) among.split late
                left
            | inr (second_made, rest, later) ↦
                near_own after newer older ok image settles (slot_write placed true kept settles made second_made)
                (readable numbers made) rest split later left
          ]

  pub keeps_restart : (after : List Call) (ok : Bool) → HasNumbers r
      → Runs (node_calls before shape node r) before (Some after) ok → KeepsRestart shape node r before after
  keeps_restart after ok numbers runs kept settles disks is newer older split long image left =
      let range = next_file_is places_now.in_use in
      let near = near_always after newer older ok numbers kept settles runs split long image left in
      restored_alike shape (with_files disks node (files_of before)) (with_files disks node image) r
      (disks_alike shape r.generation node disks (files_of before) image
      (near_alike before shape node file r.generation r.epoch image near range.0 range.1
      (λ found here. other_file r.generation control found here)))
      (λ zero. disks_unsaved node disks (files_of before) image (near.unsaved zero)) is

-- where no call was made a restart is the same
pub keeps_without_calls : (before : List Call) (shape : Shape) (node : ℕ) (r : Restored)
    → KeepsRestart shape node r before before
keeps_without_calls before shape node r kept settles disks is newer older split long image left =
    restored_alike shape (with_files disks node (files_of before)) (with_files disks node image) r
    (disks_alike shape r.generation node disks (files_of before) image
    (settled_alike before shape node r.generation image same))
    (λ zero.
    disks_unsaved node disks (files_of before) image
    (λ none. ap has_saved (same CONTROL_FILE (omega arith)) ∙ none))
    is
  where
    at : older ≡ before
    at = moments (λ moment. moment ≡ before) [] before before newer older true refl (refl, refl) split long

    same : (file : ℕ) → file < FILES → image file ≡ files_of before file
    same file there =
        left_as older image file (files_of before file) left there
        (ap (λ (calls : List Call). state_of calls file) at ∙ settles file there)
