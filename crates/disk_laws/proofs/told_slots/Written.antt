-- Whatever a crash leaves while a control slot is written beside the one in use, which was saved at an epoch that is
-- durable: of two slots one was.
use Rattle.std.proofs.Common.{◌≡◌, ◌∙◌, ◌⊎◌, ◌+◌, ◌-◌, ◌≤◌, ◌<◌, ◌==◌, ℕ, zero, suc, Bool, true, false, nat_le, List}
use Rattle.std.proofs.Common.{[], ◌++◌, length, drop, refl, ap, sym, subst, arith, inl, inr, if◌then◌else◌}
use Rattle.std.specs.Prelude.{None, Ok, Option, Some}
use Rattle.std.proofs.lemmas.Bool.{cases_lt, eqb-true, leb-false}
use Rattle.host_io.specs.Call.{Call}
use Rattle.host_io.specs.DiskState.{FileState, state_of}
use Rattle.host_io.specs.Image.{IsImage, IsLeft, IsRecord}
use Rattle.host_io.proofs.StateLemmas.{reads_as_an_image}
use Rattle.redo_log.specs.Stored.{files_of}
use Rattle.sig_core.specs.declared.member.Member.{Member}
use Rattle.sig_core.specs.declared.slots.ControlSlot.{ControlSlot}
use Rattle.sig_core.specs.declared.walk.Finished.{Finished}
use Rattle.sysfile_core.specs.declared.control.TheConstants.{CONTROL_BYTES}
use Rattle.sysfile_core.specs.declared.place.TheConstants.{CONTROL_FILE}
use Rattle.sysfile_core.specs.Places.{place_of, slot_at}
use Rattle.sysfile_core.specs.Reading.{control_at, control_by, of_generation}
use Rattle.sysfile_core.specs.Runs.{Runs}
use Rattle.sysfile_core.specs.Slots.{IsControlSlot, control_bytes}
use Rattle.sysfile_core.specs.Writing.{slot_calls}
use Rattle.sysfile_core.proofs.RunLemmas.{done}
use Rattle.sysfile_core.proofs.SlotLemmas.{short_slot}
use Rattle.sys_restart.specs.Files.{Files}
use Rattle.sys_restart.specs.Places.{usable}
use Rattle.sys_restart.proofs.AlikeLemmas.{not_none, same_answer}
use Rattle.sys_restart.proofs.MomentLemmas.{runs_record, runs_split}
use Rattle.sys_restart.proofs.NextLemmas.{control_long, control_split, read_back}
use Rattle.sys_restart.proofs.SlotWrite.{IsMoment, IsSlotWrite, other_has, place_has}
use Rattle.node_disk.specs.Laws.{HasControl}
use Rattle.node_disk.specs.Saving.{name_calls, named_control, next_control, redo_calls, rows_calls, slot_behind}
use Rattle.node_disk.specs.Slots.{SlotsInUse}
use Rattle.node_disk.proofs.CallLemmas.{AreElsewhere, elsewhere_done, elsewhere_stays, same_record}
use Rattle.node_disk.proofs.RedoLemmas.{not_control, redo_elsewhere}
use Rattle.world_core.specs.Start.{Start}
use Rattle.world_core.specs.Steps.{HostStep}
use Rattle.moment_laws.specs.Places.{ldm_of}
use Rattle.journal_laws.specs.Saver.{IsToldDone}
use Rattle.saved_laws.specs.Behind.{IsDurable}
use Rattle.disk_laws.specs.ToldSlots.{AreTold, IsKnownDurable, LeavesTold, SlotsAreTold}
use Rattle.disk_laws.proofs.RecordLemmas.{TellsRecord, runs_tell}
use Rattle.disk_laws.proofs.told_slots.Logs.{told_swapped}

-- the control file with these bytes, the other files as they are
abbrev with_control : List ℕ → Files → Files
with_control bytes files file = if file == CONTROL_FILE then bytes else files file

control_left : (calls : List Call) (bytes : List ℕ) → IsRecord calls → IsImage (state_of calls CONTROL_FILE) bytes
    → IsLeft calls (with_control bytes (files_of calls))
control_left calls bytes kept image file there = by (file == CONTROL_FILE) refl
  where
    by : (same : Bool) → (file == CONTROL_FILE) ≡ same
        → IsImage (state_of calls file) (if same then bytes else files_of calls file)
    by true e =
        subst (λ (f : ℕ). IsImage (state_of calls f) bytes) (sym (eqb-true file CONTROL_FILE e)) image
    by false e = reads_as_an_image calls kept file there

-- slots of this size at both places lie apart
abbrev AreApart : ℕ → ℕ → Type 0
AreApart which size =
    (place_of which + size ≤ place_of (1 - which)) ⊎ (place_of (1 - which) + size ≤ place_of which)

away : (which : ℕ) → which ≤ 1 → AreApart which CONTROL_BYTES
away zero place = inl (omega arith)
away (suc zero) place = inr (omega arith)
away (suc (suc n)) place = absurd (omega (arith, place))

-- the file has all of a slot that is read
reaches : (which : ℕ) (bytes : List ℕ) (slot : ControlSlot) → control_at which bytes ≡ Ok (Some slot)
    → place_of which + CONTROL_BYTES ≤ length bytes
reaches which bytes slot stands =
    elim (cases_lt (length bytes) (place_of which + CONTROL_BYTES)) [
      | inr within ↦ within
      | inl short ↦
          absurd (not_none slot None refl
          (same_answer None (Some slot) (control_at which bytes)
          (ap (control_by (place_of which)) (short_slot (place_of which) CONTROL_BYTES bytes short)) stands))
    ]

module _ (start : Start) (member : Member) (generation : ℕ) (logs : ℕ → List HostStep) where
  abbrev Known : ℕ → Type 0
  Known epoch = IsKnownDurable start member generation logs epoch

  abbrev SlotsTell : Option ControlSlot → Option ControlSlot → Type 0
  SlotsTell one other = AreTold start member generation logs one other

  -- the slot of the generation that is read at a place
  abbrev read_at : ℕ → List ℕ → Option ControlSlot
  read_at which bytes = of_generation generation (usable (control_at which bytes))

  -- both places are told by the one in use and the other one
  both_places : (bytes : List ℕ) (which : ℕ) → which ≤ 1 → SlotsTell (read_at which bytes) (read_at (1 - which) bytes)
      → SlotsAreTold start member generation logs bytes
  both_places bytes zero place told = told
  both_places bytes (suc zero) place told =
      told_swapped start member generation logs (read_at 1 bytes) (read_at 0 bytes) told
  both_places bytes (suc (suc n)) place told = absurd (omega (arith, place))

  of_places : (bytes : List ℕ) (which : ℕ) → which ≤ 1 → SlotsAreTold start member generation logs bytes
      → SlotsTell (read_at which bytes) (read_at (1 - which) bytes)
  of_places bytes zero place told = told
  of_places bytes (suc zero) place told =
      told_swapped start member generation logs (read_at 0 bytes) (read_at 1 bytes) told
  of_places bytes (suc (suc n)) place told = absurd (omega (arith, place))

  beside_none : (one : Option ControlSlot) → SlotsTell one None
  beside_none (Some one) = tt
  beside_none None = tt

  beside_another : (one other : ControlSlot) → Known one.saved
      → SlotsTell (of_generation generation (Some one)) (of_generation generation (Some other))
  beside_another one other known = by (one.generation == generation) (other.generation == generation)
    where
      by : (own others : Bool) → SlotsTell (if own then Some one else None) (if others then Some other else None)
      by true true = inl known
      by true false = tt
      by false others = tt

  -- Calls on other files are made, and then another slot is written; or one of the calls failed.
  module _ (s : SlotsInUse) (next : ControlSlot) (asks before after : List Call) (ok : Bool)
      (has : HasControl s before) (readable : IsControlSlot next) (elsewhere : AreElsewhere CONTROL_FILE asks)
      (known : Known s.control.saved) (are : LeavesTold start member generation logs before) where
    abbrev old : List ℕ
    old = files_of before CONTROL_FILE

    abbrev at : ℕ
    at = s.control_at

    abbrev whole : List ℕ
    whole = control_bytes next

    abbrev slot_write : List Call
    slot_write = slot_calls old CONTROL_FILE (place_of (1 - at)) (drop 1 whole)

    abbrev mid : List Call
    mid = done asks before

    was : SlotsAreTold start member generation logs old
    was = are old (reads_as_an_image before has.kept CONTROL_FILE (omega arith))

    -- where none of the calls on the slot's file was made
    as_before : state_of after CONTROL_FILE ≡ state_of before CONTROL_FILE
        → LeavesTold start member generation logs after
    as_before same bytes image = are bytes (subst (λ (f : FileState). IsImage f bytes) same image)

    module _ (first : Runs asks before (Some mid) true) (second : Runs slot_write mid (Some after) ok)
        (bytes : List ℕ) (image : IsImage (state_of after CONTROL_FILE) bytes) where
      mid_kept : IsRecord mid
      mid_kept = runs_record asks before (Some mid) first has.kept

      tells : TellsRecord mid (Some after)
      tells = runs_tell slot_write mid (Some after) ok mid_kept second

      same_after : tells.calls ≡ after
      same_after = same_record tells.calls after (sym tells.is)

      abbrev files : Files
      files = with_control bytes (files_of after)

      write : IsSlotWrite mid after ok CONTROL_FILE old (place_of (1 - at)) whole
      write = record {
        kept = mid_kept;
        there = omega arith;
        opened = control_split next;
        some = omega (arith, control_long next);
        settled_so = elsewhere_done CONTROL_FILE asks before elsewhere ∙ has.clean;
        runs = second;
      }

      moment : IsMoment mid after after files
      moment = record {
        newer = [];
        split = refl;
        long = subst (λ (calls : List Call). length mid ≤ length calls) same_after tells.grows;
        left = control_left after bytes (subst IsRecord same_after tells.kept) image;
      }

      -- the one in use stands as it stood
      in_use : control_at at bytes ≡ control_at at old
      in_use =
          ap (control_by (place_of at))
          (subst (λ (n : ℕ). slot_at (place_of at) n bytes ≡ slot_at (place_of at) n old) (control_long next)
          (other_has mid after after ok CONTROL_FILE old (place_of (1 - at)) whole files write moment (place_of at)
          (subst (AreApart at) (sym (control_long next)) (away at has.place))
          (subst (λ (n : ℕ). place_of at + n ≤ length old) (sym (control_long next))
          (reaches at old s.control has.stands))))

      -- what stands at the other place: none, the new slot, or what stood there
      abbrev Comes : ℕ → Type 0
      Comes size =
          (slot_at (place_of (1 - at)) size bytes ≡ None)
          ⊎ ((slot_at (place_of (1 - at)) size bytes ≡ Some whole)
          ⊎ (slot_at (place_of (1 - at)) size bytes ≡ slot_at (place_of (1 - at)) size old))

      both : SlotsTell (read_at at bytes) (read_at (1 - at) bytes)
      both =
          by (subst Comes (control_long next)
          (place_has mid after after ok CONTROL_FILE old (place_of (1 - at)) whole files write moment))
        where
          with_other : (other : Option ControlSlot) → control_at (1 - at) bytes ≡ Ok other
              → SlotsTell (read_at at bytes) (of_generation generation other)
              → SlotsTell (read_at at bytes) (read_at (1 - at) bytes)
          with_other other is =
              subst (λ read. SlotsTell (read_at at bytes) (of_generation generation (usable read))) (sym is)

          by : Comes CONTROL_BYTES → SlotsTell (read_at at bytes) (read_at (1 - at) bytes)
          by (inl none) =
              with_other None (ap (control_by (place_of (1 - at))) none) (beside_none (read_at at bytes))
          by (inr (inl new)) =
              with_other (Some next)
              (ap (control_by (place_of (1 - at))) new ∙ read_back (place_of (1 - at)) next readable)
              (subst (λ read. SlotsTell (of_generation generation (usable read)) (of_generation generation (Some next)))
              (sym (in_use ∙ has.stands)) (beside_another s.control next known))
          by (inr (inr same)) =
              subst
              (λ read. SlotsTell (read_at at bytes) (of_generation generation (usable read)))
              (sym (ap (control_by (place_of (1 - at))) same))
              (subst (λ read. SlotsTell (of_generation generation (usable read)) (read_at (1 - at) old)) (sym in_use)
              (of_places old at has.place was))

      both_told : SlotsAreTold start member generation logs bytes
      both_told = both_places bytes at has.place both

    pub slot_told : Runs (asks ++ slot_write) before (Some after) ok → LeavesTold start member generation logs after
    slot_told runs = by (runs_split asks slot_write before (Some after) ok runs)
      where
        by : (Runs asks before (Some after) false × (ok ≡ false))
            ⊎ (Runs asks before (Some mid) true × Runs slot_write mid (Some after) ok)
            → LeavesTold start member generation logs after
        by (inl stopped) =
            as_before (elsewhere_stays CONTROL_FILE asks before after (Some after) false elsewhere stopped.0 refl)
        by (inr made) = both_told made.0 made.1

  -- a save of rows, where what they had saved is durable before they save more
  pub rows_told : (s : SlotsInUse) (epoch : ℕ) (bytes : List ℕ) (before after : List Call) (ok : Bool)
      → HasControl s before → (s.control.saved < epoch → IsControlSlot (next_control s epoch bytes))
      → (s.control.saved < epoch → IsDurable start logs s.control.saved)
      → LeavesTold start member generation logs before
      → Runs (rows_calls (files_of before CONTROL_FILE) s epoch bytes) before (Some after) ok
      → LeavesTold start member generation logs after
  rows_told s epoch bytes before after ok has readable behind are runs = by (nat_le epoch s.control.saved) refl runs
    where
      next : ControlSlot
      next = next_control s epoch bytes

      all : List Call
      all = slot_behind (files_of before CONTROL_FILE) s.control.redo_end bytes (1 - s.control_at) next

      by : (saved : Bool) → nat_le epoch s.control.saved ≡ saved
          → Runs (if saved then [] else all) before (Some after) ok → LeavesTold start member generation logs after
      by true e none =
          subst (LeavesTold start member generation logs) (sym (same_record after before none.0)) are
      by false e made =
          let up : s.control.saved < epoch = omega (arith, leb-false epoch s.control.saved e) in
          slot_told s next (redo_calls s.control.parity s.control.redo_end bytes) before after ok has (readable up)
          (redo_elsewhere CONTROL_FILE s.control.parity s.control.redo_end bytes (not_control s.control.parity))
          (inr (behind up)) are made

  -- a checkpoint comes into use, where all that was saved was told to be durable
  pub name_told : (s : SlotsInUse) (finished : Finished) (before after : List Call) (ok : Bool)
      → HasControl s before → IsControlSlot (named_control s finished)
      → IsToldDone start member (logs (ldm_of start member)) s.control.saved
      → LeavesTold start member generation logs before
      → Runs (name_calls (files_of before CONTROL_FILE) s finished) before (Some after) ok
      → LeavesTold start member generation logs after
  name_told s finished before after ok has readable told =
      slot_told s (named_control s finished) [] before after ok has readable tt (inl told)
