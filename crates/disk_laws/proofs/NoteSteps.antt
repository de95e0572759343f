-- On the disk of a member's node: a step of the host that coordinates for it, of which the disk keeps the epoch that it
-- was told is durable.
use Rattle.std.proofs.Common.{◌≡◌, ◌≢◌, ◌∙◌, ℕ, ◌-◌, ◌≤◌, ◌<◌, ◌^◌, Bool, true, false, nat_le, List, [], ◌∷◌, refl}
use Rattle.std.proofs.Common.{ap, sym, subst, inl, inr, drop, if◌then◌else◌, arith}
use Rattle.std.specs.List.{list_any}
use Rattle.std.specs.Prelude.{Option, Some}
use Rattle.std.proofs.lemmas.Bool.{le-leb, true≢false}
use Rattle.host_io.specs.Call.{Call}
use Rattle.host_io.specs.DiskState.{state_of}
use Rattle.host_io.specs.Image.{IsImage}
use Rattle.redo_log.specs.Stored.{files_of}
use Rattle.run_theory.specs.Lists.{IsIn, IsPast}
use Rattle.run_theory.proofs.Pasts.{past_more, past_self}
use Rattle.sig_core.specs.declared.member.Member.{Member}
use Rattle.sig_core.specs.declared.slots.SystemSlot.{SystemSlot}
use Rattle.sig_core.specs.Table.{Rows}
use Rattle.sysfile_core.specs.declared.place.TheConstants.{SYSTEM_FILE}
use Rattle.sysfile_core.specs.Places as slots
use Rattle.sysfile_core.specs.Runs.{Runs}
use Rattle.sysfile_core.specs.Slots.{system_bytes}
use Rattle.sysfile_core.specs.Writing.{slot_calls}
use Rattle.sys_restart.specs.Files.{Files}
use Rattle.sys_restart.proofs.NextLemmas.{next_file_is}
use Rattle.node_disk.specs.Saving.{free_file, noted_system, system_calls, system_saved}
use Rattle.node_disk.specs.Slots.{SlotsInUse}
use Rattle.node_disk.proofs.LawLemmas.{system_leaves}
use Rattle.node_restart.specs.Rows.{HasRows}
use Rattle.node_restart.proofs.SystemLaw.{system_keeps}
use Rattle.world_core.specs.Start.{NobodyStarts, Start, made}
use Rattle.world_core.specs.Steps.{HostStep}
use Rattle.world_views.specs.Disks.{HasAtMostOneMore}
use Rattle.world_views.specs.Machine.{has_stopped, stops_by}
use Rattle.moment_laws.specs.Places.{tc_of}
use Rattle.disk_world.specs.Keeping.{DurableAt, Kept, NothingNew, calls_of, slots_after}
use Rattle.request_laws.specs.Blocks.{saver_after}
use Rattle.disk_laws.specs.Found.{HasLatest}
use Rattle.disk_laws.specs.Laws.{AreNotable}
use Rattle.disk_laws.specs.Noted.{WasNoted, is_disk_stop}
use Rattle.disk_laws.specs.OnDisk.{HasAllNoted, HasAllRows, IsOnDisk, KeepsNoted, KeepsRows, LeavesRows}
use Rattle.disk_laws.proofs.GoneLemmas.{HasStopped, running}
use Rattle.disk_laws.proofs.ImageLemmas.{joined, others_same, system_left}
use Rattle.disk_laws.proofs.KeptParts.{failed_part}
use Rattle.disk_laws.proofs.NotedSignals.{IsNoRows, durable, noted, noted_mask, noted_no_rows, nothing}
use Rattle.disk_laws.proofs.NotedSignals.{was_noted}
use Rattle.disk_laws.proofs.RecordLemmas.{TellsRecord, runs_tell}
use Rattle.disk_laws.proofs.PiecesWritten.{walked_at, walked_still}
use Rattle.disk_laws.proofs.RowKept.{AreOnDisk}
use Rattle.disk_laws.proofs.RowsSaved.{last_with}
use Rattle.disk_laws.proofs.SystemSaved.{AreNoted, latest_found, noted_go, still_noted}

-- an older part is all but at most the newest step
one_more_past : (log now : List HostStep) → HasAtMostOneMore log now → IsPast log now
one_more_past log now (inl same) = subst (IsPast log) (sym same) (past_self log)
one_more_past log now (inr (e, more)) = subst (IsPast log) (sym more) (past_more e (past_self log))

module _ (start : Start) (member : Member) (before : Rows) (first : SystemSlot) (there : IsIn member (made start)) where
  abbrev h : ℕ
  h = tc_of start member

  -- the host stops by a step of which the disk keeps nothing
  pub noted_stop : (log now : List HostStep) (s : SlotsInUse) (calls : List Call) → HasStopped start h log now
      → KeepsNoted start member before first log s calls → KeepsNoted start member before first now s calls
  noted_stop log now s calls stopped (inl has) =
      inl (subst (λ l. HasAllNoted start member before first l s calls) (sym stopped.is)
      (still_noted start member before first log (stopped.e ∷ log) s calls (past_more stopped.e (past_self log)) has
      latest))
    where
      latest : (epoch mask : ℕ) → WasNoted start h (stopped.e ∷ log) epoch mask → epoch ≤ s.system.epoch
      latest epoch mask (inl notes) = absurd (true≢false (sym stopped.stops ∙ notes.0))
      latest epoch mask (inr was) = has.latest epoch mask was
  noted_stop log now s calls stopped (inr leaves) =
      absurd (true≢false (sym leaves.stopped ∙ running start log stopped.step.runs))

  noted_there : (log : List HostStep) (s : SlotsInUse) (calls : List Call) → has_stopped log ≡ false
      → KeepsNoted start member before first log s calls → HasAllNoted start member before first log s calls
  noted_there log s calls ran (inl has) = has
  noted_there log s calls ran (inr leaves) = absurd (true≢false (sym leaves.stopped ∙ ran))

  -- the rows don't depend on the system slot
  rows_beside : (log : List HostStep) (s : SlotsInUse) (system : SystemSlot) (at : ℕ) (calls after : List Call)
      (has : HasAllRows start member before first log s calls)
      → HasRows (record s { system = system; system_at = at }) has.last.least has.last.base has.last.redo after
      → state_of after (free_file s) ≡ state_of calls (free_file s)
      → HasAllRows start member before first log (record s { system = system; system_at = at }) after
  rows_beside log s system at calls after has rows same =
      let stage = (saver_after start member log).stage in
      record {
        last = last_with start member before first log s calls after system at has.last rows;
        walked = λ runs.
            walked_at start member before first log s (record s { system = system; system_at = at }) after stage refl
            (walked_still start member before first log s calls after stage same (has.walked runs));
      }

  -- A host that runs has a step more, or none, and the disk is asked to keep what it was told is durable.
  module _ (rows_log log now : List HostStep) (grows : HasAtMostOneMore log now) (ran : has_stopped log ≡ false)
      (runs_on : has_stopped now ≡ false) (low : AreNotable start member now) (s : SlotsInUse) (calls : List Call)
      (on : IsOnDisk start member before first rows_log log s calls) (told : Option (List Call)) (ok : Bool) where
    has : HasAllNoted start member before first log s calls
    has = noted_there log s calls ran on.noted

    past : IsPast log now
    past = one_more_past log now grows

    -- what it comes to: the newer part is kept, or the host stops
    pub record AreKept (kept : Kept) : Type 0 where
      pub done : ok ≡ true → AreOnDisk start member before first rows_log now (slots_after s kept) told
      pub failed : ok ≡ false → (stop : HostStep) → list_any is_disk_stop stop.step.marks ≡ true
          → stops_by stop.step.marks ≡ true → AreOnDisk start member before first rows_log (stop ∷ now) s told

    -- where no call is made
    none_made : (kept : Kept) → slots_after s kept ≡ s → Runs [] calls told ok
        → ((epoch mask : ℕ) → WasNoted start h now epoch mask → epoch ≤ s.system.epoch) → AreKept kept
    none_made kept same none latest = record {
      done = λ so. record {
        calls = calls;
        is = none.0;
        on =
            subst (λ (used : SlotsInUse). IsOnDisk start member before first rows_log now used calls) (sym same)
            (record {
              rows = on.rows;
              noted = inl (still_noted start member before first log now s calls past has latest);
            });
      };
      failed = λ not_so stop failed stops. absurd (true≢false (sym none.1 ∙ not_so));
    }

    -- nothing was noted
    nothing_kept : noted start member there now ≡ NothingNew → Runs [] calls told ok → AreKept NothingNew
    nothing_kept is none = none_made NothingNew refl none (latest grows)
      where
        latest : HasAtMostOneMore log now → (epoch mask : ℕ) → WasNoted start h now epoch mask
            → epoch ≤ s.system.epoch
        latest (inl same) epoch mask was =
            has.latest epoch mask (subst (λ l. WasNoted start h l epoch mask) same was)
        latest (inr (e, more)) epoch mask was = by (subst (λ l. WasNoted start h l epoch mask) more was)
          where
            by : WasNoted start h (e ∷ log) epoch mask → epoch ≤ s.system.epoch
            by (inl notes) =
                let none_now : noted start member there (e ∷ log) ≡ NothingNew =
                subst (λ l. noted start member there l ≡ NothingNew) more is in
                let one : noted start member there (e ∷ log) ≡ DurableAt epoch mask = notes.1 in
                absurd cc
            by (inr before_it) = has.latest epoch mask before_it

    -- an epoch was
    module _ (epoch mask : ℕ) (is : noted start member there now ≡ DurableAt epoch mask)
        (runs : Runs (system_calls (files_of calls SYSTEM_FILE) s epoch mask) calls told ok) where
      abbrev next : SystemSlot
      next = noted_system s.system epoch mask

      Asks : Bool → List Call
      Asks saved =
          if saved
          then []
          else
          slot_calls (files_of calls SYSTEM_FILE) SYSTEM_FILE (slots.place_of (1 - s.system_at))
          (drop 1 (system_bytes next))

      Used : Bool → SlotsInUse
      Used saved = if saved then s else record s { system = next; system_at = 1 - s.system_at }

      -- by an earlier step
      noted_before : NobodyStarts start → now ≡ log → AreKept (DurableAt epoch mask)
      unfolding Asks Used
      noted_before nobody same =
          let was = was_noted start member there nobody log epoch mask ran
          (subst (λ l. noted start member there l ≡ DurableAt epoch mask) same is) in
          let none : nat_le epoch s.system.epoch ≡ true =
          le-leb epoch s.system.epoch (has.latest epoch mask was) in
          none_made (DurableAt epoch mask) (ap Used none)
          (subst (λ (saved : Bool). Runs (Asks saved) calls told ok) none runs)
          (λ other others noted_so.
          has.latest other others (subst (λ l. WasNoted start h l other others) same noted_so))

      -- by the newest one
      module _ (e : HostStep) (more : now ≡ e ∷ log) where
        tells : TellsRecord calls told
        tells = runs_tell (system_calls (files_of calls SYSTEM_FILE) s epoch mask) calls told ok has.slot.kept runs

        made_so : Runs (system_calls (files_of calls SYSTEM_FILE) s epoch mask) calls (Some tells.calls) ok
        made_so =
            subst (λ o. Runs (system_calls (files_of calls SYSTEM_FILE) s epoch mask) calls o ok) tells.is runs

        notes : (stops_by e.step.marks ≡ false) × (noted start member there (e ∷ log) ≡ DurableAt epoch mask)
        notes = (
          ap has_stopped (sym more) ∙ runs_on,
          subst (λ l. noted start member there l ≡ DurableAt epoch mask) more is,
        )

        fits : epoch < 2 ^ 64
        fits = low epoch mask (subst (λ l. WasNoted start h l epoch mask) (sym more) (inl notes))

        saved : (nobody : NobodyStarts start) → AreNoted start member before first e log s calls has epoch mask notes
            (noted_mask start member there nobody e log epoch mask notes.1) fits tells.calls ok
        saved nobody =
            noted_go start member before first e log s calls has epoch mask notes
            (noted_mask start member there nobody e log epoch mask notes.1) fits tells.calls tells.grows ok made_so

        others : (file : ℕ) → file ≢ SYSTEM_FILE → state_of tells.calls file ≡ state_of calls file
        others file apart = system_leaves s epoch mask calls tells.calls ok file made_so apart

        still_left : LeavesRows start member before first rows_log calls
            → LeavesRows start member before first rows_log tells.calls
        still_left leaves = record {
          kept = tells.kept;
          stopped = leaves.stopped;
          leaves = λ image left. leaves.leaves image (others_same calls tells.calls image others left);
        }

        same_free : state_of tells.calls (free_file s) ≡ state_of calls (free_file s)
        same_free =
            others (free_file s) (λ at. absurd (omega (arith, at, (next_file_is (Some s.control)).0)))

        rows_then : KeepsRows start member before first rows_log s calls
            → KeepsRows start member before first rows_log (system_saved s epoch mask) tells.calls
        rows_then (inl rows) =
            inl (by (nat_le epoch s.system.epoch)
            (system_keeps s epoch mask rows.last.least rows.last.base rows.last.redo calls tells.calls ok rows.last.rows
            made_so).1)
          where
            by : (none : Bool)
                → HasRows (if none then s else record s { system = next; system_at = 1 - s.system_at }) rows.last.least
                rows.last.base rows.last.redo tells.calls
                → HasAllRows start member before first rows_log
                (if none then s else record s { system = next; system_at = 1 - s.system_at }) tells.calls
            by true has_rows =
                rows_beside rows_log s s.system s.system_at calls tells.calls rows has_rows same_free
            by false has_rows =
                rows_beside rows_log s next (1 - s.system_at) calls tells.calls rows has_rows same_free
        rows_then (inr leaves) = inr (still_left leaves)

        rows_still : KeepsRows start member before first rows_log s calls
            → KeepsRows start member before first rows_log s tells.calls
        rows_still (inl rows) =
            inl (rows_beside rows_log s s.system s.system_at calls tells.calls rows
            ((system_keeps s epoch mask rows.last.least rows.last.base rows.last.redo calls tells.calls ok
            rows.last.rows made_so).0 []
            tells.calls refl tells.grows) same_free)
        rows_still (inr leaves) = inr (still_left leaves)

        -- it failed, and the host stops
        leaves_so : NobodyStarts start → ok ≡ false → (stop : HostStep) → list_any is_disk_stop stop.step.marks ≡ true
            → (image : Files)
            → IsImage (state_of tells.calls SYSTEM_FILE) (image SYSTEM_FILE)
            → HasLatest start member before first (stop ∷ now) image
        leaves_so nobody not_so stop failed image left =
            subst (λ l. HasLatest start member before first (stop ∷ l) image) (sym more)
            (latest_found start member before first e log s calls has epoch mask notes
            (noted_mask start member there nobody e log epoch mask notes.1) fits (stop ∷ e ∷ log)
            (past_more stop (past_self (e ∷ log))) (failed_part stop e log failed) image
            ((saved nobody).failed not_so (joined image (files_of tells.calls))
            (system_left tells.calls image tells.kept left)))

        noted_now : NobodyStarts start → AreKept (DurableAt epoch mask)
        noted_now nobody = record {
          done = λ so. record {
            calls = tells.calls;
            is = tells.is;
            on = record {
              rows = rows_then on.rows;
              noted =
                  inl (subst (λ l. HasAllNoted start member before first l (system_saved s epoch mask) tells.calls)
                  (sym more) ((saved nobody).done so));
            };
          };
          failed = λ not_so stop failed stops. record {
            calls = tells.calls;
            is = tells.is;
            on = record {
              rows = rows_still on.rows;
              noted = inr (record { kept = tells.kept; stopped = stops; leaves = leaves_so nobody not_so stop failed });
            };
          };
        }

      durable_kept : NobodyStarts start → HasAtMostOneMore log now → AreKept (DurableAt epoch mask)
      durable_kept nobody (inl same) = noted_before nobody same
      durable_kept nobody (inr (e, more)) = noted_now e more nobody

    -- whatever it is
    pub noted_kept : NobodyStarts start
        → Runs (calls_of (files_of calls) s (noted start member there now)) calls told ok
        → AreKept (noted start member there now)
    noted_kept nobody runs = by (noted_no_rows start member there nobody now)
      where
        Made : Kept → Type 0
        Made kept = Runs (calls_of (files_of calls) s kept) calls told ok

        by : IsNoRows (noted start member there now) → AreKept (noted start member there now)
        by (nothing is) = subst AreKept (sym is) (nothing_kept is (subst Made is runs))
        by (durable one) =
            subst AreKept (sym one.is) (durable_kept one.epoch one.mask one.is (subst Made one.is runs) nobody grows)
