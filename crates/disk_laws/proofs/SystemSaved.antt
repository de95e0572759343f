-- What becomes of the system slot of a disk where a host of its node was told that an epoch is durable.
use Rattle.std.proofs.Common.{◌≡◌, ◌∙◌, ◌⊎◌, ◌≤◌, ◌<◌, ℕ, ◌-◌, ◌^◌, Bool, true, false, nat_le, List, [], ◌∷◌, length}
use Rattle.std.proofs.Common.{drop}
use Rattle.std.proofs.Common.{refl, ap, sym, subst, inl, inr, arith, if◌then◌else◌}
use Rattle.std.specs.Prelude.{Ok, Some}
use Rattle.std.proofs.lemmas.Bool.{leb-false, leb-true, true≢false}
use Rattle.host_io.specs.Call.{Call}
use Rattle.host_io.specs.DiskState.{FileState, settled, state_of}
use Rattle.host_io.specs.Image.{IsLeft, IsRecord, LeavesOnly}
use Rattle.host_io.proofs.StateLemmas.{sound_of}
use Rattle.redo_log.specs.Stored.{files_of}
use Rattle.run_theory.specs.Lists.{IsPast}
use Rattle.run_theory.proofs.Pasts.{past_more, past_self, past_trans}
use Rattle.sig_core.specs.declared.member.Member.{Member}
use Rattle.sig_core.specs.declared.slots.ControlSlot.{ControlSlot}
use Rattle.sig_core.specs.declared.slots.SystemSlot.{SystemSlot}
use Rattle.sig_core.specs.Table.{Rows}
use Rattle.sysfile_core.specs.declared.place.TheConstants.{SYSTEM_FILE}
use Rattle.sysfile_core.specs.Places.{place_of}
use Rattle.sysfile_core.specs.Reading.{system_at, system_of_file}
use Rattle.sysfile_core.specs.Runs.{Runs}
use Rattle.sysfile_core.specs.Slots.{IsSystemSlot, system_bytes}
use Rattle.sysfile_core.specs.Writing.{slot_calls}
use Rattle.sys_restart.specs.Files.{Files}
use Rattle.node_disk.specs.Laws.{HasSystem, IsEither}
use Rattle.node_disk.specs.Saving.{noted_system, system_calls, system_saved}
use Rattle.node_disk.specs.Slots.{SlotsInUse}
use Rattle.node_disk.proofs.CallLemmas.{same_record}
use Rattle.node_disk.proofs.SystemLaw.{system_stays}
use Rattle.node_views.specs.WellFormed.{is_mask}
use Rattle.world_core.specs.Start.{Start}
use Rattle.world_core.specs.Steps.{HostStep}
use Rattle.moment_laws.specs.Places.{tc_of}
use Rattle.disk_laws.specs.Found.{HasLatest}
use Rattle.disk_laws.specs.Noted.{IsFirstOrNoted, NotesNow, WasNoted, kept_part}
use Rattle.disk_laws.specs.OnDisk.{HasAllNoted}
use Rattle.disk_laws.proofs.KeptParts.{noted_along}
use Rattle.disk_laws.proofs.NotedSignals.{same_epoch}
use Rattle.disk_laws.proofs.SlotNumbers.{noted_readable, system_readable}

module _ (start : Start) (member : Member) (before : Rows) (first : SystemSlot) where
  abbrev h : ℕ
  h = tc_of start member

  -- the slot was the first or noted, also in a longer log
  pub first_along : (older log : List HostStep) (slot : SystemSlot) → IsPast older log
      → IsFirstOrNoted start h older first slot → IsFirstOrNoted start h log first slot
  first_along older log slot past (inl same) = inl same
  first_along older log slot past (inr (was, is)) =
      inr (noted_along start h older log slot.epoch slot.mask past was, is)

  -- what was noted is on a disk where the log grew by what notes nothing that is later
  pub still_noted : (older log : List HostStep) (s : SlotsInUse) (calls : List Call) → IsPast older log
      → HasAllNoted start member before first older s calls
      → ((epoch mask : ℕ) → WasNoted start h log epoch mask → epoch ≤ s.system.epoch)
      → HasAllNoted start member before first log s calls
  still_noted older log s calls past has latest = record {
    slot = has.slot;
    shape = has.shape;
    is = first_along older log s.system past has.is;
    least = has.least;
    latest = latest;
  }

  -- and where its file is as it was
  system_still : (s : SlotsInUse) (calls after : List Call) → IsRecord after
      → state_of after SYSTEM_FILE ≡ state_of calls SYSTEM_FILE → HasSystem s calls → HasSystem s after
  system_still s calls after kept same has = record {
    kept = kept;
    clean = subst (λ (f : FileState). f ≡ settled f.bytes) (sym same) has.clean;
    place = has.place;
    stands = ap (λ (f : FileState). system_at s.system_at f.bytes) same ∙ has.stands;
    other = has.other;
    beside = ap (λ (f : FileState). system_at (1 - s.system_at) f.bytes) same ∙ has.beside;
    in_use = ap (λ (f : FileState). system_of_file f.bytes) same ∙ has.in_use;
  }

  -- whatever the control slot is
  pub noted_beside : (log : List HostStep) (s : SlotsInUse) (control : ControlSlot) (at : ℕ) (saved : Bool)
      (calls after : List Call) → IsRecord after → state_of after SYSTEM_FILE ≡ state_of calls SYSTEM_FILE
      → HasAllNoted start member before first log s calls
      → HasAllNoted start member before first log
      (if saved then s else record s { control = control; control_at = at }) after
  noted_beside log s control at saved calls after kept same has = by saved
    where
      still : HasSystem s after
      still = system_still s calls after kept same has.slot

      by : (b : Bool)
          → HasAllNoted start member before first log (if b then s else record s { control = control; control_at = at })
          after
      by true =
          record { slot = still; shape = has.shape; is = has.is; least = has.least; latest = has.latest }
      by false = record {
        slot = record {
          kept = still.kept;
          clean = still.clean;
          place = still.place;
          stands = still.stands;
          other = still.other;
          beside = still.beside;
          in_use = still.in_use;
        };
        shape = has.shape;
        is = has.is;
        least = has.least;
        latest = has.latest;
      }

  -- A disk has what was noted in a log, and now its newest step noted an epoch.
  module _ (e : HostStep) (log : List HostStep) (s : SlotsInUse) (calls : List Call)
      (has : HasAllNoted start member before first log s calls) (epoch mask : ℕ)
      (notes : NotesNow start h e log epoch mask) (named : is_mask start.shape mask ≡ true) (low : epoch < 2 ^ 64) where
    abbrev next : SystemSlot
    next = noted_system s.system epoch mask

    shape_is : s.system.shape ≡ start.shape
    shape_is = by has.is
      where
        by : IsFirstOrNoted start h log first s.system → s.system.shape ≡ start.shape
        by (inl same) = ap (λ (slot : SystemSlot). slot.shape) same ∙ has.shape
        by (inr (was, is)) = ap (λ (slot : SystemSlot). slot.shape) is ∙ has.shape

    next_is : next ≡ noted_system first epoch mask
    next_is = by has.is
      where
        by : IsFirstOrNoted start h log first s.system → next ≡ noted_system first epoch mask
        by (inl same) = ap (λ (slot : SystemSlot). noted_system slot epoch mask) same
        by (inr (was, is)) = ap (λ (slot : SystemSlot). noted_system slot epoch mask) is

    readable : IsSystemSlot next
    readable =
        noted_readable s.system start.shape epoch mask
        (system_readable s.system_at (files_of calls SYSTEM_FILE) s.system
        (sound_of calls SYSTEM_FILE has.slot.kept (omega arith)).are_bytes has.slot.stands)
        shape_is named low

    -- an image has the slot of before, or the later one
    abbrev Either : Files → Type 0
    Either image =
        (system_of_file (image SYSTEM_FILE) ≡ Ok (Some s.system))
        ⊎ ((s.system.epoch < epoch) × (system_of_file (image SYSTEM_FILE) ≡ Ok (Some next)))

    -- what the calls that note it come to
    pub record AreNoted (after : List Call) (ok : Bool) : Type 0 where
      pub done : ok ≡ true
          → HasAllNoted start member before first (e ∷ log) (system_saved s epoch mask) after
      pub failed : ok ≡ false → (image : Files) → IsLeft after image → Either image
      pub later : ok ≡ false → s.system.epoch < epoch

    abbrev used : SlotsInUse
    used = record s { system = next; system_at = 1 - s.system_at }

    -- where it isn't later than the one in use
    latest_still : epoch ≤ s.system.epoch → (other others : ℕ) → WasNoted start h (e ∷ log) other others
        → other ≤ s.system.epoch
    latest_still least other others (inl now) =
        let same = same_epoch epoch mask other others (sym notes.1 ∙ now.1) in omega (arith, same, least)
    latest_still least other others (inr was) = has.latest other others was

    latest_next : s.system.epoch < epoch → (other others : ℕ) → WasNoted start h (e ∷ log) other others → other ≤ epoch
    latest_next up other others (inl now) =
        let same = same_epoch epoch mask other others (sym notes.1 ∙ now.1) in omega (arith, same)
    latest_next up other others (inr was) = let least = has.latest other others was in omega (arith, least, up)

    module _ (after : List Call) (grows : length calls ≤ length after) (ok : Bool)
        (runs : Runs (system_calls (files_of calls SYSTEM_FILE) s epoch mask) calls (Some after) ok) where
      law : LeavesOnly after (length calls)
          (λ image. IsEither (system_of_file (image SYSTEM_FILE)) s.system next)
          × (ok ≡ true → HasSystem (system_saved s epoch mask) after)
      law = system_stays s epoch mask calls after ok has.slot readable runs

      Asks : Bool → List Call
      Asks saved =
          if saved
          then []
          else
          slot_calls (files_of calls SYSTEM_FILE) SYSTEM_FILE (place_of (1 - s.system_at)) (drop 1 (system_bytes next))

      none_made : nat_le epoch s.system.epoch ≡ true → Runs [] calls (Some after) ok
      unfolding Asks
      none_made e = subst (λ (saved : Bool). Runs (Asks saved) calls (Some after) ok) e runs

      pub noted_go : AreNoted after ok
      noted_go = by (nat_le epoch s.system.epoch) refl
        where
          either : s.system.epoch < epoch → (image : Files)
              → IsEither (system_of_file (image SYSTEM_FILE)) s.system next → Either image
          either up image (inl one) = inl one
          either up image (inr other) = inr (up, other)

          by : (saved : Bool) → nat_le epoch s.system.epoch ≡ saved → AreNoted after ok
          by true is =
              let none = none_made is in record {
                done = λ so.
                    subst (λ (saved : Bool). HasAllNoted start member before first (e ∷ log) (if saved then s else used)
                    after) (sym is)
                    (subst (HasAllNoted start member before first (e ∷ log) s) (sym (same_record after calls none.0))
                    (still_noted log (e ∷ log) s calls (past_more e (past_self log)) has
                    (latest_still (leb-true epoch s.system.epoch is))));
                failed = λ not_so. absurd (true≢false (sym none.1 ∙ not_so));
                later = λ not_so. absurd (true≢false (sym none.1 ∙ not_so));
              }
          by false is =
              let up = leb-false epoch s.system.epoch is in record {
                done = λ so.
                    subst (λ (saved : Bool). HasAllNoted start member before first (e ∷ log) (if saved then s else used)
                    after) (sym is)
                    (record {
                      slot = subst (λ (saved : Bool). HasSystem (if saved then s else used) after) is (law.1 so);
                      shape = has.shape;
                      is = inr (inl notes, next_is);
                      least = omega (arith, has.least, up);
                      latest = latest_next up;
                    });
                failed = λ not_so image left. either up image (law.0 [] after refl grows image left);
                later = λ not_so. up;
              }

    -- what such an image has is what there is to be found in it behind a stop for which nothing of this step counts
    pub latest_found : (longer : List HostStep) → IsPast (e ∷ log) longer → kept_part longer ≡ log → (image : Files)
        → Either image → HasLatest start member before first longer image
    latest_found longer on part image (inl one) = record {
      slot = s.system;
      in_use = one;
      is = first_along log longer s.system (past_trans (past_more e (past_self log)) on) has.is;
      latest = λ other others was.
          has.latest other others (subst (λ l. WasNoted start h l other others) part was);
      least = has.least;
    }
    latest_found longer on part image (inr (up, other)) = record {
      slot = next;
      in_use = other;
      is = inr (noted_along start h (e ∷ log) longer epoch mask on (inl notes), next_is);
      latest = λ other others was.
          let least = has.latest other others (subst (λ l. WasNoted start h l other others) part was) in
          omega (arith, least, up);
      least = omega (arith, has.least, up);
    }
