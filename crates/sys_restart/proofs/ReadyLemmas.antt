-- Once a life was named on a node's disk, the disk is ready for it.
use Rattle.std.proofs.Common.{◌≡◌, ◌∙◌, ◌⊎◌, ℕ, ◌+◌, ◌==◌, Bool, true, false, List, [], ◌∷◌, length, drop, refl, ap, sym, subst, arith, inl, inr}
use Rattle.std.specs.Prelude.{Option, Some, Ok}
use Rattle.std.proofs.lemmas.Bool.{eqb-true}
use Rattle.frag_map.specs.Shape.{IsShape}
use Rattle.host_io.specs.Call.{Call}
use Rattle.host_io.specs.DiskState.{FileState, settled, state_of}
use Rattle.host_io.specs.Image.{IsRecord}
use Rattle.host_io.proofs.StateLemmas.{reads_as_an_image}
use Rattle.redo_log.specs.Stored.{files_of}
use Rattle.sig_core.specs.declared.slots.SystemSlot.{SystemSlot}
use Rattle.sig_core.specs.declared.view.Shape.{Shape}
use Rattle.sysfile_core.specs.declared.place.TheConstants.{OPEN, SYSTEM_FILE}
use Rattle.sysfile_core.specs.declared.system.TheConstants.{SYSTEM_BYTES}
use Rattle.sysfile_core.specs.Places.{place_of, slot_at}
use Rattle.sysfile_core.specs.Reading.{later_of, later_system, system_at, system_by, system_of_file}
use Rattle.sysfile_core.specs.Runs.{Runs}
use Rattle.sysfile_core.specs.Slots.{system_bytes}
use Rattle.sysfile_core.specs.Writing.{stands_closed}
use Rattle.sysfile_core.proofs.RunLemmas.{all_done, done}
use Rattle.sysfile_core.proofs.WriteLemmas.{written_stays}
use Rattle.sys_restart.specs.declared.restored.Restored.{Restored}
use Rattle.sys_restart.specs.Calls.{name_calls, next_system}
use Rattle.sys_restart.specs.Places.{free_of, free_system, usable}
use Rattle.sys_restart.specs.Prepared.{HasPrepared, IsBelow, IsReady, IsSettled, MayName}
use Rattle.sys_restart.proofs.KeepsLemmas.{HasNumbers}
use Rattle.sys_restart.proofs.MomentLemmas.{kept_in_the_end, longer, runs_record}
use Rattle.sys_restart.proofs.NameLemmas.{both_below, first_named, next_is_system, second_named, system_back, system_long, system_split}
use Rattle.sys_restart.proofs.NamingLemmas.{AreRead, both_read, free_either, others_same, place_same, reaches, some_first, still_prepared, write}
use Rattle.sys_restart.proofs.NextLemmas.{slot_on}
use Rattle.sys_restart.proofs.PreparedLemmas.{slot_settles}
use Rattle.sys_restart.proofs.SlotWrite.{IsMoment, IsSlotWrite, behind_has, is_write, other_has}
use Rattle.sys_restart.proofs.StandsLemmas.{LeavesOthers, others_kept}

-- the system slot in use, of both that are read
in_use : (system : List ℕ) (a b : Option SystemSlot) → system_at 0 system ≡ Ok a → system_at 1 system ≡ Ok b
    → system_of_file system ≡ Ok (later_system a b)
in_use system a b e f = ap (λ read. later_of read (system_at 1 system)) e ∙ ap (later_of (Ok a)) f

module _ (before after : List Call) (shape : Shape) (node : ℕ) (r : Restored) (is : IsShape shape)
    (numbers : HasNumbers r)
    (may : MayName shape node r before) (runs : Runs (name_calls before shape r) before (Some after) true) where
  abbrev system : List ℕ
  system = files_of before SYSTEM_FILE

  abbrev now : List ℕ
  now = files_of after SYSTEM_FILE

  abbrev next : SystemSlot
  next = next_system shape r

  abbrev free : ℕ
  free = free_system system

  is_after : after ≡ done (name_calls before shape r) before
  is_after = all_done (name_calls before shape r) before after runs

  moment : IsMoment before after after (files_of after)
  moment = record {
    newer = [];
    split = refl;
    long = omega (arith, longer (name_calls before shape r) before, ap length is_after);
    left = reads_as_an_image after kept;
  }
    where
      kept : IsRecord after
      kept = subst IsRecord (sym is_after) (runs_record (name_calls before shape r) before (Some after) runs may.kept)

  written : IsSlotWrite before after true SYSTEM_FILE system (place_of free) (system_bytes next)
  written = write before after after true shape node r is numbers may.kept may.prepared.0 runs (files_of after) moment

  leaves : LeavesOthers SYSTEM_FILE (state_of before) after
  leaves =
      subst (LeavesOthers SYSTEM_FILE (state_of before)) (sym is_after)
      (kept_in_the_end SYSTEM_FILE (place_of free + SYSTEM_BYTES) (LeavesOthers SYSTEM_FILE (state_of before))
      (name_calls before shape r) before (others_kept SYSTEM_FILE (place_of free + SYSTEM_BYTES) (state_of before))
      (slot_on (stands_closed (place_of free) system) SYSTEM_FILE (place_of free) (place_of free + SYSTEM_BYTES)
      (drop 1 (system_bytes next)) (omega (arith, ap length (system_split next), system_long next)))
      (λ other away. refl))

  settled_now : IsSettled after
  settled_now other there = by (SYSTEM_FILE == other) refl
    where
      by : (b : Bool) → (SYSTEM_FILE == other) ≡ b → state_of after other ≡ settled (files_of after other)
      by true e =
          subst (λ (n : ℕ). state_of after n ≡ settled (files_of after n)) (eqb-true SYSTEM_FILE other e)
          (subst (λ (calls : List Call). state_of calls SYSTEM_FILE ≡ settled (files_of calls SYSTEM_FILE))
          (sym is_after)
          (slot_settles (stands_closed (place_of free) system) SYSTEM_FILE (place_of free) (drop 1 (system_bytes next))
          before))
      by false e =
          leaves other e ∙ may.prepared.0 other there ∙ ap (λ (s : FileState). settled s.bytes) (sym (leaves other e))

  prepared_now : HasPrepared shape node r after
  prepared_now = by may.prepared
    where
      by : HasPrepared shape node r before → HasPrepared shape node r after
      by (settles, (slot, has)) = (
        settled_now,
        (
          slot,
          still_prepared before shape node r (files_of after)
              (others_same before after after true shape node r is numbers may.kept may.prepared.0 runs (files_of after)
              moment)
              slot has,
        ),
      )

  at_free : system_at free now ≡ Ok (Some next)
  at_free =
      let place = place_of free in
      let body = drop 1 (system_bytes next) in
      let stands : slot_at place (1 + length body) now ≡ Some (OPEN ∷ body) =
      (written_stays before after SYSTEM_FILE place body
      (is_write before after after true SYSTEM_FILE system place (system_bytes next) (files_of after) written moment)).1
      in
      let size : 1 + length body ≡ SYSTEM_BYTES = omega (arith, ap length (system_split next), system_long next) in
      ap (λ (n : ℕ). system_by place (slot_at place n now)) (sym size)
      ∙ ap (system_by place) (stands ∙ ap Some (system_split next))
      ∙ system_back place next (next_is_system shape r is numbers)

  named_now : system_of_file now ≡ Ok (Some next)
  named_now = by (free_either read.one read.other)
    where
      read : AreRead shape node system may.below.0
      read = both_read shape node (files_of before) may.below.0 may.below.1.0

      free_is : free ≡ free_of read.one read.other
      free_is =
          ap (λ found. free_of (usable found) (usable (system_at 1 system))) read.first
          ∙ ap (λ found. free_of read.one (usable found)) read.second

      lower : IsBelow (r.generation + 1) read.one × IsBelow (r.generation + 1) read.other
      lower = both_below (r.generation + 1) read.one read.other
          (subst (IsBelow (r.generation + 1)) (sym read.later) may.below.1.1)

      same : (which : ℕ) → slot_at (place_of which) (length (system_bytes next)) now
          ≡ slot_at (place_of which) (length (system_bytes next)) system → system_at which now ≡ system_at which system
      same =
          place_same before after after true shape node r is numbers may.kept may.prepared.0 runs (files_of after)
          moment

      by : (free_of read.one read.other ≡ 0) ⊎ (free_of read.one read.other ≡ 1) → system_of_file now ≡ Ok (Some next)
      by (inl none) =
          let at : free ≡ 0 = free_is ∙ none in
          let first = subst (λ (w : ℕ). IsSlotWrite before after true SYSTEM_FILE system (place_of w)
          (system_bytes next)) at written in
          in_use now (Some next) read.other (subst (λ (w : ℕ). system_at w now ≡ Ok (Some next)) at at_free)
          (same 1 (behind_has before after after true SYSTEM_FILE system (place_of 0) (system_bytes next)
          (files_of after) first
          moment (place_of 1) (omega (arith, system_long next)))
          ∙ read.second)
          ∙ ap Ok (first_named shape r read.other (inr lower.1))
      by (inr one) =
          let at : free ≡ 1 = free_is ∙ one in
          let second = subst (λ (w : ℕ). IsSlotWrite before after true SYSTEM_FILE system (place_of w)
          (system_bytes next)) at written in
          in_use now read.one (Some next)
          (same 0 (other_has before after after true SYSTEM_FILE system (place_of 1) (system_bytes next)
          (files_of after) second
          moment (place_of 0) (inl (omega (arith, system_long next)))
          (omega (arith, system_long next, reaches 0 system read.one read.first (some_first read.one read.other one))))
          ∙ read.first)
          (subst (λ (w : ℕ). system_at w now ≡ Ok (Some next)) at at_free)
          ∙ ap Ok (second_named shape r read.one (inr lower.0))

  pub is_ready : IsReady shape node r after
  is_ready = (prepared_now, named_now)
