-- Once a node's disk was prepared it has what it should.
use Rattle.std.proofs.Common.{◌≡◌, ◌∙◌, ℕ, ◌+◌, ◌^◌, ◌<◌, ◌==◌, Bool, true, false, List, [], ◌∷◌, ◌++◌, length, drop, take, refl, ap, sym, subst, arith, inl, inr, if◌then◌else◌}
use Rattle.std.specs.Prelude.{Option, None, Some, Ok}
use Rattle.std.proofs.lemmas.Bool.{eqb-true, ne_eqb, true≢false}
use Rattle.host_io.specs.Call.{Call, Synced, Wrote}
use Rattle.host_io.specs.DiskState.{FileState, settled, state_of}
use Rattle.host_io.specs.Image.{IsRecord}
use Rattle.host_io.proofs.StateLemmas.{reads_as_an_image, same_number}
use Rattle.lcp_store.specs.Laws.{CheckpointsAreRead}
use Rattle.lcp_store.specs.Reading.{rows_in}
use Rattle.redo_log.specs.Stored.{files_of}
use Rattle.sig_core.specs.Table.{Rows}
use Rattle.sig_core.specs.declared.slots.ControlSlot.{ControlSlot}
use Rattle.sig_core.specs.declared.view.Shape.{Shape}
use Rattle.sysfile_core.specs.declared.place.TheConstants.{CONTROL_FILE, OPEN, SYSTEM_FILE}
use Rattle.sysfile_core.specs.Places.{place_of, slot_at}
use Rattle.sysfile_core.specs.Reading.{control_at, control_by, control_of_file, later_control, of_generation}
use Rattle.sysfile_core.specs.Runs.{Runs}
use Rattle.sysfile_core.specs.Slots.{IsControlSlot, control_bytes}
use Rattle.sysfile_core.specs.Writing.{closing_by, opening}
use Rattle.sysfile_core.proofs.RunLemmas.{all_done, done, run_longer}
use Rattle.sysfile_core.proofs.WriteLemmas.{written_stays}
use Rattle.sys_restart.specs.declared.restored.Restored.{Restored}
use Rattle.sys_restart.specs.Calls.{checkpoint_for, node_calls, piece_calls, rows_of_node}
use Rattle.sys_restart.specs.Files.{Files}
use Rattle.sys_restart.specs.Places.{usable}
use Rattle.sys_restart.specs.Prepared.{AreStorable, HasKept, HasPrepared, IsSettled, MayPrepare}
use Rattle.sys_restart.specs.Redone.{log_of, records_in, redone}
use Rattle.sys_restart.specs.SlotRows.{rows_of_slot, with_redo}
use Rattle.sys_restart.proofs.ControlLemmas.{both_are, free_either, second_free}
use Rattle.sys_restart.proofs.FaultLemmas.{rows_whole}
use Rattle.sys_restart.proofs.KeepsLemmas.{HasNumbers, apart, bytes, control, file, first, mid, mid_leaves, own_write, placed, places_now, readable, reaches, rest_leaves, same_slot, second, slot, slot_write, third}
use Rattle.sys_restart.proofs.MomentLemmas.{done_then, longer, runs_record, runs_split}
use Rattle.sys_restart.proofs.NextLemmas.{control_long, control_size, control_split, next_file_is, read_back}
use Rattle.sys_restart.proofs.OwnerWrite.{HasSlotsOf, IsOwnWrite, in_use_same, own_ends, slots_stay}
use Rattle.sys_restart.proofs.SlotWrite.{IsMoment, IsSlotWrite, behind_has, is_write, other_has}
use Rattle.sys_restart.proofs.StandsLemmas.{LeavesOthers}
use Rattle.sys_restart.proofs.StoredLemmas.{after_synced, pieces_front, read_again}

-- right after a sync nothing of a file is dirty
pub sync_settles : (file : ℕ) (calls : List Call)
    → state_of (Synced file ∷ calls) file ≡ settled (files_of (Synced file ∷ calls) file)
sync_settles file calls =
    ap (λ (b : Bool). if b then settled (files_of calls file) else state_of calls file) (same_number file)
    ∙ ap settled (sym (after_synced file calls))

-- so it is behind the write of a slot
pub slot_settles : (stands : Bool) (file place : ℕ) (body : List ℕ) (calls : List Call)
    → state_of (done (closing_by stands file place ∷ opening file place body) calls) file
    ≡ settled (files_of (done (closing_by stands file place ∷ opening file place body) calls) file)
slot_settles stands file place body calls =
    sync_settles file
    (Wrote file place (OPEN ∷ []) ∷ Synced file ∷ Wrote file (place + 1) body ∷ Synced file ∷ closing_by stands file
    place
    ∷ calls)

-- no redo
none_redone : (epoch : ℕ) (rows : Rows) (files : Files) (parity : ℕ) → redone epoch rows files parity 0 0 ≡ Ok rows
unfolding redone log_of records_in
none_redone epoch rows files parity = refl

-- the checkpoint of a node is read as its rows
checkpoint_read : CheckpointsAreRead → (file : ℕ) (shape : Shape) (node : ℕ) (r : Restored) → r.epoch < 2 ^ 64
    → AreStorable (rows_of_node shape node r)
    → rows_in file r.epoch (checkpoint_for shape node r) ≡ Ok (rows_of_node shape node r)
unfolding checkpoint_for
checkpoint_read law file shape node r small are = read_again law file r.epoch (rows_of_node shape node r) small are

of_itself : (generation : ℕ) (one : ControlSlot) → one.generation ≡ generation
    → of_generation generation (Some one) ≡ Some one
of_itself generation one is =
    ap (λ (b : Bool). if b then Some one else None)
    (ap (λ (g : ℕ). g == generation) is ∙ same_number generation)

module _ (before : List Call) (shape : Shape) (node : ℕ) (r : Restored) (numbers : HasNumbers r)
    (may : MayPrepare shape node r before) (after : List Call)
    (runs : Runs (node_calls before shape node r) before (Some after) true) where
  abbrev the_file : ℕ
  the_file = file before shape node r

  abbrev the_slot : ControlSlot
  the_slot = slot before shape node r

  abbrev the_mid : List Call
  the_mid = mid before shape node r

  abbrev the_second : List Call
  the_second = second before shape node r

  abbrev the_placed : List Call
  the_placed = placed before shape node r

  abbrev the_third : List Call
  the_third = third before shape node r

  abbrev free : ℕ
  free = (places_now before shape node r).free

  first_runs : Runs (first before shape node r) before (Some the_mid) true
      × Runs (the_second ++ the_third) the_mid (Some after) true
  first_runs =
      elim (runs_split (first before shape node r) (the_second ++ the_third) before (Some after) true runs) [
        | inl stopped ↦ absurd (true≢false stopped.1)
        | inr made ↦ made
      ]

  both_runs : Runs the_second the_mid (Some the_placed) true × Runs the_third the_placed (Some after) true
  both_runs =
      elim (runs_split the_second the_third the_mid (Some after) true first_runs.1) [
        | inl stopped ↦ absurd (true≢false stopped.1)
        | inr made ↦ made
      ]

  write : IsSlotWrite the_mid the_placed true CONTROL_FILE (control before shape node r) (place_of free)
      (control_bytes the_slot)
  write = slot_write before shape node r the_placed true may.kept may.settled first_runs.0 both_runs.0

  placed_kept : IsRecord the_placed
  placed_kept = runs_record the_second the_mid (Some the_placed) both_runs.0 write.kept

  -- then the control file is made the node's own
  own : IsOwnWrite node the_placed after true
  own = own_write before shape node r after true placed_kept both_runs.1

  kept_now : IsRecord after
  kept_now =
      subst IsRecord (sym (all_done the_third the_placed after both_runs.1))
      (runs_record the_third the_placed (Some after) both_runs.1 placed_kept)

  -- and has the slots that it had
  same_slots : HasSlotsOf node (files_of the_placed CONTROL_FILE) (files_of after CONTROL_FILE)
  same_slots =
      slots_stay node the_placed after after true (files_of after) own
      (record {
        newer = [];
        split = refl;
        long = run_longer the_third the_placed after true both_runs.1;
        left = reads_as_an_image after kept_now;
      })

  fits : IsControlSlot the_slot
  fits = readable before shape node r numbers first_runs.0

  -- the calls on the control file leave the other files
  slot_leaves : LeavesOthers CONTROL_FILE (state_of the_mid) after
  slot_leaves = rest_leaves before shape node r after runs

  pieces : List Call
  pieces = done (piece_calls (length (bytes before shape node r)) the_file 0 (bytes before shape node r)) before

  mid_is : the_mid ≡ Synced the_file ∷ pieces
  unfolding pieces piece_calls
  mid_is = done_then (piece_calls (length (bytes before shape node r)) the_file 0 (bytes before shape node r))
      (Synced the_file ∷ []) before

  -- nothing is dirty
  settled_now : IsSettled after
  settled_now other there = by (CONTROL_FILE == other) (the_file == other) refl refl
    where
      same : state_of after other ≡ state_of the_mid other → state_of the_mid other ≡ settled (files_of the_mid other)
          → state_of after other ≡ settled (files_of after other)
      same is settles = is ∙ settles ∙ ap (λ (s : FileState). settled s.bytes) (sym is)

      by : (a b : Bool) → (CONTROL_FILE == other) ≡ a → (the_file == other) ≡ b
          → state_of after other ≡ settled (files_of after other)
      by true b e f =
          let here : CONTROL_FILE ≡ other = eqb-true CONTROL_FILE other e in
          subst (λ (n : ℕ). state_of after n ≡ settled (files_of after n)) here
          (own_ends node the_placed after own).1
      by false true e f =
          let here : the_file ≡ other = eqb-true the_file other f in
          same (slot_leaves other e)
          (subst (λ (n : ℕ). state_of the_mid n ≡ settled (files_of the_mid n)) here
          (subst (λ (calls : List Call). state_of calls the_file ≡ settled (files_of calls the_file)) (sym mid_is)
          (sync_settles the_file pieces)))
      by false false e f =
          let left : state_of the_mid other ≡ state_of before other = mid_leaves before shape node r other f in
          same (slot_leaves other e)
          (left ∙ may.settled other there ∙ ap (λ (s : FileState). settled s.bytes) (sym left))

  -- the system slots are as they were
  pub system_stays : files_of after SYSTEM_FILE ≡ files_of before SYSTEM_FILE
  system_stays =
      ap (λ (s : FileState). s.bytes)
      (slot_leaves SYSTEM_FILE refl
      ∙ mid_leaves before shape node r SYSTEM_FILE
      (ne_eqb the_file SYSTEM_FILE
      (λ same. absurd (omega (arith, same, (next_file_is (places_now before shape node r).in_use).0)))))

  -- the disk as it reads behind the slot's write is what a crash leaves then
  moment_now : IsMoment the_mid the_placed the_placed (files_of the_placed)
  moment_now = record {
    newer = [];
    split = refl;
    long = longer the_second the_mid;
    left = reads_as_an_image the_placed placed_kept;
  }

  -- the slot stands at its place
  at_free : control_at free (files_of the_placed CONTROL_FILE) ≡ Ok (Some the_slot)
  at_free =
      let place = place_of free in
      let body = drop 1 (control_bytes the_slot) in
      let stands : slot_at place (1 + length body) (files_of the_placed CONTROL_FILE) ≡ Some (OPEN ∷ body) =
      (written_stays the_mid the_placed CONTROL_FILE place body
      (is_write the_mid the_placed the_placed true CONTROL_FILE (control before shape node r) place
      (control_bytes the_slot)
      (files_of the_placed) write moment_now)).1 in
      ap (λ (n : ℕ). control_by place (slot_at place n (files_of the_placed CONTROL_FILE)))
      (sym (control_size the_slot))
      ∙ ap (control_by place) (stands ∙ ap Some (control_split the_slot))
      ∙ read_back place the_slot fits

  -- and the other one as before
  placed_in_use : control_of_file (r.generation + 1) (files_of the_placed CONTROL_FILE) ≡ Ok (Some the_slot)
  placed_in_use = by may.control
    where
      now : List ℕ
      now = files_of the_placed CONTROL_FILE

      it : of_generation (r.generation + 1) (Some the_slot) ≡ Some the_slot
      it = of_itself (r.generation + 1) the_slot refl

      at_zero : (kept : Option ControlSlot) → free ≡ 0 → control_at 1 (control before shape node r) ≡ Ok kept
          → of_generation (r.generation + 1) kept ≡ None → control_of_file (r.generation + 1) now ≡ Ok (Some the_slot)
      at_zero kept is reads none =
          let one : control_at 0 now ≡ Ok (Some the_slot) =
          subst (λ (w : ℕ). control_at w now ≡ Ok (Some the_slot)) is at_free in
          let other : control_at 1 now ≡ Ok kept =
          same_slot 1 (length (control_bytes the_slot)) (control before shape node r) now (control_long the_slot)
          (behind_has the_mid the_placed the_placed true CONTROL_FILE (control before shape node r) (place_of 0)
          (control_bytes the_slot)
          (files_of the_placed)
          (subst
          (λ (w : ℕ). IsSlotWrite the_mid the_placed true CONTROL_FILE (control before shape node r) (place_of w)
          (control_bytes the_slot))
          is write)
          moment_now (place_of 1) (omega (arith, control_long the_slot)))
          ∙ reads in
          both_are (r.generation + 1) now (Some the_slot) kept one other
          ∙ ap (λ found. Ok (later_control found (of_generation (r.generation + 1) kept))) it
          ∙ ap (λ found. Ok (later_control (Some the_slot) found)) none

      at_one : (kept : Option ControlSlot) → free ≡ 1 → control_at 0 (control before shape node r) ≡ Ok kept
          → of_generation (r.generation + 1) kept ≡ None → control_of_file (r.generation + 1) now ≡ Ok (Some the_slot)
      at_one kept is reads none =
          let other : control_at 1 now ≡ Ok (Some the_slot) =
          subst (λ (w : ℕ). control_at w now ≡ Ok (Some the_slot)) is at_free in
          let there = second_free r.generation (control before shape node r) is in
          let one : control_at 0 now ≡ Ok kept =
          same_slot 0 (length (control_bytes the_slot)) (control before shape node r) now (control_long the_slot)
          (other_has the_mid the_placed the_placed true CONTROL_FILE (control before shape node r) (place_of 1)
          (control_bytes the_slot)
          (files_of the_placed)
          (subst
          (λ (w : ℕ). IsSlotWrite the_mid the_placed true CONTROL_FILE (control before shape node r) (place_of w)
          (control_bytes the_slot))
          is write)
          moment_now (place_of 0) (inl (omega (arith, control_long the_slot)))
          (omega (arith, control_long the_slot, reaches 0 (control before shape node r) there.0 there.1)))
          ∙ reads in
          both_are (r.generation + 1) now kept (Some the_slot) one other
          ∙ ap (λ found. Ok (later_control found (of_generation (r.generation + 1) (Some the_slot)))) none
          ∙ ap Ok it

      by : HasKept r.generation (control before shape node r)
          → control_of_file (r.generation + 1) now ≡ Ok (Some the_slot)
      by (kept, (reads, none)) =
          elim
          (free_either (of_generation r.generation (usable (control_at 0 (control before shape node r))))
          (of_generation r.generation (usable (control_at 1 (control before shape node r))))) [
            | inl zero_free ↦
                at_zero kept zero_free
                (sym (ap (λ (w : ℕ). if w == 0 then control_at 1 (control before shape node r) else control_at 0
                (control before shape node r)) zero_free)
                ∙ reads)
                none
            | inr one_free ↦
                at_one kept one_free
                (sym (ap (λ (w : ℕ). if w == 0 then control_at 1 (control before shape node r) else control_at 0
                (control before shape node r)) one_free)
                ∙ reads)
                none
          ]

  in_use : control_of_file (r.generation + 1) (files_of after CONTROL_FILE) ≡ Ok (Some the_slot)
  in_use =
      in_use_same node (files_of the_placed CONTROL_FILE) (files_of after CONTROL_FILE) same_slots (r.generation + 1)
      ∙ placed_in_use

  -- the file has the checkpoint in front
  file_front : take (length (bytes before shape node r)) (files_of after the_file) ≡ bytes before shape node r
  unfolding pieces
  file_front =
      let read : files_of after the_file ≡ files_of pieces the_file =
      ap (λ (s : FileState). s.bytes) (slot_leaves the_file other_way)
      ∙ ap (λ (calls : List Call). files_of calls the_file) mid_is ∙ after_synced the_file pieces in
      ap (take (length (bytes before shape node r))) read
      ∙ ap (λ (n : ℕ). take n (files_of pieces the_file)) (omega arith)
      ∙ pieces_front (length (bytes before shape node r)) the_file 0 (bytes before shape node r) before (omega arith)
      (omega arith)
    where
      other_way : (CONTROL_FILE == the_file) ≡ false
      other_way = by (CONTROL_FILE == the_file) refl
        where
          by : (b : Bool) → (CONTROL_FILE == the_file) ≡ b → b ≡ false
          by false e = refl
          by true e =
              absurd (true≢false
              (sym (ap (λ (n : ℕ). n == CONTROL_FILE) (sym (eqb-true CONTROL_FILE the_file e)))
              ∙ apart before shape node r))

  pub prepares : CheckpointsAreRead → HasPrepared shape node r after
  prepares law = (
    settled_now,
    (
      the_slot,
      record {
        in_use = in_use;
        serial = refl;
        saved = refl;
        start = refl;
        end = refl;
        has_rows = has_rows;
        owner = (own_ends node the_placed after own).0;
      },
    ),
  )
    where
      size : ℕ
      size = length (bytes before shape node r)

      read : rows_in the_file r.epoch (bytes before shape node r) ≡ Ok (rows_of_node shape node r)
      read = checkpoint_read law the_file shape node r numbers.epoch may.rows

      has_rows : rows_of_slot r.epoch (files_of after) the_slot ≡ Ok (rows_of_node shape node r)
      has_rows =
          ap (with_redo r.epoch (files_of after) the_slot)
          (rows_whole the_file size r.epoch (take size (files_of after the_file)) (rows_of_node shape node r)
          (ap (rows_in the_file r.epoch) file_front ∙ read)
          (omega (arith, ap length file_front)))
          ∙ none_redone r.epoch (rows_of_node shape node r) (files_of after) the_slot.parity
