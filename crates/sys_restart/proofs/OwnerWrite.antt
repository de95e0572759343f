-- What a crash leaves of a control file while it is made a node's own, and that it is in the end.
use Rattle.std.proofs.Common.{◌≡◌, ◌∙◌, ◌⊎◌, ℕ, ◌+◌, ◌-◌, ◌≤◌, ◌<◌, nat_lt, Bool, true, false, List, [], ◌∷◌, ◌++◌, length, get_or, refl, ap, sym, subst, arith, inl, inr, if◌then◌else◌}
use Rattle.std.specs.Prelude.{Option, None, Some, ◌||◌}
use Rattle.std.proofs.lemmas.Bool.{eqb-true, ltb-false, ltb-true, true≢false}
use Rattle.host_io.specs.Call.{Call, Synced, Wrote}
use Rattle.host_io.specs.DiskState.{laid, settled, state_of, written}
use Rattle.host_io.specs.Image.{IsImage, IsRecord}
use Rattle.host_io.proofs.FileLemmas.{laid_ends}
use Rattle.host_io.proofs.LaidLemmas.{laid_here, laid_reaches}
use Rattle.host_io.proofs.StateLemmas.{reads_as_an_image, same_number}
use Rattle.redo_log.specs.Stored.{files_of}
use Rattle.sysfile_core.specs.declared.control.TheConstants.{CONTROL_BYTES}
use Rattle.sysfile_core.specs.declared.owner.TheConstants.{OWNER, OWNER_BYTES}
use Rattle.sysfile_core.specs.declared.place.TheConstants.{CLOSED, CONTROL_FILE, OPEN}
use Rattle.sysfile_core.specs.Owner.{is_of, named_by, owner_calls, owner_of, sync_if}
use Rattle.sysfile_core.specs.Places.{place_of, slot_at}
use Rattle.sysfile_core.specs.Reading.{control_at, control_by, control_of_file, later_by, of_generation}
use Rattle.sysfile_core.specs.Runs.{Runs}
use Rattle.sysfile_core.specs.Writing.{slot_calls, stands_closed}
use Rattle.sysfile_core.proofs.FileLemmas.{Keeps, keeps_image, keeps_settled, keeps_written, settled_keeps}
use Rattle.sysfile_core.proofs.RunLemmas.{HoldsThrough, all_done, moments}
use Rattle.sysfile_core.proofs.SlotLemmas.{closed_slot, open_or_none, short_slot, slot_is_same, whole_slot}
use Rattle.sysfile_core.proofs.WriteLemmas.{written_stays}
use Rattle.sys_restart.specs.Calls.{own_calls}
use Rattle.sys_restart.specs.Files.{Files}
use Rattle.sys_restart.specs.Lost.{has_saved, was_saved}
use Rattle.sys_restart.specs.Outdated.{are_ahead, is_outdated}
use Rattle.sys_restart.specs.Owner.{is_owned}
use Rattle.sys_restart.specs.Places.{usable}
use Rattle.sys_restart.proofs.AlikeLemmas.{not_none}
use Rattle.sys_restart.proofs.MomentLemmas.{AreOn, runs_record, runs_split, split_moment}
use Rattle.sys_restart.proofs.NextLemmas.{slot_on}
use Rattle.sys_restart.proofs.OwnerLemmas.{front_size, gate_on, owner_calls_same, same_behind}
use Rattle.sys_restart.proofs.SlotWrite.{HasPlace, IsMoment, IsSlotWrite, part_has, place_has}
use Rattle.sys_restart.proofs.StandsLemmas.{left_as}

-- a control file has the control slots of another, and is a node's own, or no other's, where that is
pub record HasSlotsOf (node : ℕ) (old image : List ℕ) : Type 0 where
  pub first : control_at 0 image ≡ control_at 0 old
  pub second : control_at 1 image ≡ control_at 1 old
  pub owned : is_owned node (owner_of old) ≡ true → is_owned node (owner_of image) ≡ true

slots_itself : (node : ℕ) (bytes : List ℕ) → HasSlotsOf node bytes bytes
slots_itself node bytes = record { first = refl; second = refl; owned = λ own. own }

slots_then : (node : ℕ) (one two three : List ℕ) → HasSlotsOf node one two → HasSlotsOf node two three
    → HasSlotsOf node one three
slots_then node one two three a b = record {
  first = b.first ∙ a.first;
  second = b.second ∙ a.second;
  owned = λ own. b.owned (a.owned own);
}

-- so the same slot is in use, the same tells of a later epoch, and rows were saved under the same
module _ (node : ℕ) (old image : List ℕ) (has : HasSlotsOf node old image) where
  pub in_use_same : (generation : ℕ) → control_of_file generation image ≡ control_of_file generation old
  in_use_same generation = λ i. later_by generation (has.first i) (has.second i)

  pub outdated_same : (generation epoch : ℕ) → is_outdated generation epoch image ≡ is_outdated generation epoch old
  outdated_same generation epoch =
      λ i.
      are_ahead epoch (of_generation generation (usable (has.first i)))
      (of_generation generation (usable (has.second i)))

  pub saved_same : has_saved image ≡ has_saved old
  saved_same = λ i. was_saved (usable (has.first i)) || was_saved (usable (has.second i))

slots_of : (node : ℕ) (old image : List ℕ)
    → slot_at (place_of 0) CONTROL_BYTES image ≡ slot_at (place_of 0) CONTROL_BYTES old
    → slot_at (place_of 1) CONTROL_BYTES image ≡ slot_at (place_of 1) CONTROL_BYTES old
    → (is_owned node (owner_of old) ≡ true → is_owned node (owner_of image) ≡ true) → HasSlotsOf node old image
slots_of node old image first second owned = record {
  first = ap (control_by (place_of 0)) first;
  second = ap (control_by (place_of 1)) second;
  owned = owned;
}

-- where no gate is open at a place no slot of any size is
none_larger : (place size : ℕ) (bytes : List ℕ) → 0 < size → slot_at place 1 bytes ≡ None
    → slot_at place size bytes ≡ None
none_larger place size bytes some none =
    elim (open_or_none place size bytes) [
      | inl opened ↦
          absurd (not_none (OPEN ∷ []) (slot_at place 1 bytes) none
          (whole_slot place [] bytes (let fits = opened.fits in omega (arith, fits, some)) opened.gate
          (λ k below. absurd (omega (arith, below)))))
      | inr not_so ↦ not_so
    ]

-- the file reaches the end of the second slot, or the gate there is closed
abbrev IsFirm : List ℕ → Type 0
IsFirm bytes = (front_size ≤ length bytes) ⊎ ((place_of 1 < length bytes) × (get_or bytes (place_of 1) 0 ≡ CLOSED))

own_is : (node : ℕ) (found : Option ℕ) → is_of node found ≡ true → found ≡ Some node
own_is node None is = absurd (true≢false (sym is))
own_is node (Some owner) is = ap Some (eqb-true owner node is)

owner_on : (node : ℕ) (bytes : List ℕ)
    → AreOn CONTROL_FILE (place_of OWNER + OWNER_BYTES) (owner_calls node bytes)
owner_on node bytes = by (is_of node (owner_of bytes))
  where
    by : (own : Bool)
        → AreOn CONTROL_FILE (place_of OWNER + OWNER_BYTES)
        (sync_if own (slot_calls bytes CONTROL_FILE (place_of OWNER) (node ∷ [])))
    by true = (refl, tt)
    by false =
        slot_on (stands_closed (place_of OWNER) bytes) CONTROL_FILE (place_of OWNER) (place_of OWNER + OWNER_BYTES)
        (node ∷ []) (omega arith)

pub own_on : (node size : ℕ) (bytes : List ℕ)
    → AreOn CONTROL_FILE (place_of OWNER + OWNER_BYTES) (own_calls node size bytes)
own_on node size bytes = by (nat_lt size front_size)
  where
    by : (short : Bool)
        → AreOn CONTROL_FILE (place_of OWNER + OWNER_BYTES)
        ((if short then Wrote CONTROL_FILE (place_of 1) (CLOSED ∷ []) ∷ Synced CONTROL_FILE ∷ [] else [])
        ++ owner_calls node bytes)
    by true = (refl, (omega arith, (refl, owner_on node bytes)))
    by false = owner_on node bytes

-- the slot that names the node is written, or the file synced
module _ (node : ℕ) (mid after : List Call) (ok : Bool) (kept : IsRecord mid)
    (settles : state_of mid CONTROL_FILE ≡ settled (files_of mid CONTROL_FILE)) where
  abbrev bytes : List ℕ
  bytes = files_of mid CONTROL_FILE

  abbrev whole : List ℕ
  whole = OPEN ∷ node ∷ []

  write : Runs (slot_calls bytes CONTROL_FILE (place_of OWNER) (node ∷ [])) mid (Some after) ok
      → IsSlotWrite mid after ok CONTROL_FILE bytes (place_of OWNER) whole
  write runs = record {
    kept = kept;
    there = omega arith;
    opened = refl;
    some = omega arith;
    settled_so = settles;
    runs = runs;
  }

  module _ (older : List Call) (image : Files) (moment : IsMoment mid after older image) where
    synced_same : Runs (Synced CONTROL_FILE ∷ []) mid (Some after) ok → HasSlotsOf node bytes (image CONTROL_FILE)
    synced_same runs =
        let same : image CONTROL_FILE ≡ bytes =
        left_as older image CONTROL_FILE bytes moment.left (omega arith)
        (moments (λ calls. state_of calls CONTROL_FILE ≡ settled bytes) (Synced CONTROL_FILE ∷ []) mid after
        moment.newer older ok (settles, refl) runs moment.split moment.long) in
        subst (HasSlotsOf node bytes) (sym same) (slots_itself node bytes)

    second_same : IsFirm bytes → IsSlotWrite mid after ok CONTROL_FILE bytes (place_of OWNER) whole
        → slot_at (place_of 1) CONTROL_BYTES (image CONTROL_FILE) ≡ slot_at (place_of 1) CONTROL_BYTES bytes
    second_same (inl long) is =
        part_has mid after older ok CONTROL_FILE bytes (place_of OWNER) whole image is moment (place_of 1)
        CONTROL_BYTES (omega arith) (inl (omega arith)) long
    second_same (inr (within, closed)) is =
        none_larger (place_of 1) CONTROL_BYTES (image CONTROL_FILE) (omega arith)
        (part_has mid after older ok CONTROL_FILE bytes (place_of OWNER) whole image is moment (place_of 1) 1
        (omega arith) (inl (omega arith)) (omega (arith, within))
        ∙ closed_slot (place_of 1) 1 bytes (λ opened. absurd (omega (arith, closed, opened))))
        ∙ sym (closed_slot (place_of 1) CONTROL_BYTES bytes (λ opened. absurd (omega (arith, closed, opened))))

    owned_by : HasPlace bytes (place_of OWNER) whole (image CONTROL_FILE) → is_owned node (owner_of bytes) ≡ true
        → is_owned node (owner_of (image CONTROL_FILE)) ≡ true
    owned_by (inl none) own = ap (λ found. is_owned node (named_by found)) none
    owned_by (inr (inl new)) own = ap (λ found. is_owned node (named_by found)) new ∙ same_number node
    owned_by (inr (inr old)) own = ap (λ found. is_owned node (named_by found)) old ∙ own

    written_same : CONTROL_BYTES ≤ length bytes → IsFirm bytes
        → Runs (slot_calls bytes CONTROL_FILE (place_of OWNER) (node ∷ [])) mid (Some after) ok
        → HasSlotsOf node bytes (image CONTROL_FILE)
    written_same front firm runs =
        let is = write runs in
        slots_of node bytes (image CONTROL_FILE)
        (part_has mid after older ok CONTROL_FILE bytes (place_of OWNER) whole image is moment (place_of 0)
        CONTROL_BYTES (omega arith) (inl (omega arith)) (omega (arith, front)))
        (second_same firm is)
        (owned_by (place_has mid after older ok CONTROL_FILE bytes (place_of OWNER) whole image is moment))

    owner_written : CONTROL_BYTES ≤ length bytes → IsFirm bytes
        → Runs (owner_calls node bytes) mid (Some after) ok → HasSlotsOf node bytes (image CONTROL_FILE)
    owner_written front firm = by (is_of node (owner_of bytes))
      where
        by : (own : Bool)
            → Runs (sync_if own (slot_calls bytes CONTROL_FILE (place_of OWNER) (node ∷ []))) mid (Some after) ok
            → HasSlotsOf node bytes (image CONTROL_FILE)
        by true runs = synced_same runs
        by false runs = written_same front firm runs

-- the file names the node, and nothing of it is dirty
abbrev pub IsOwn : ℕ → List Call → Type 0
IsOwn node calls =
    (owner_of (files_of calls CONTROL_FILE) ≡ Some node)
    × (state_of calls CONTROL_FILE ≡ settled (files_of calls CONTROL_FILE))

owner_ends : (node : ℕ) (mid after : List Call) → IsRecord mid
    → Runs (owner_calls node (files_of mid CONTROL_FILE)) mid (Some after) true → IsOwn node after
owner_ends node mid after kept = by (is_of node (owner_of (files_of mid CONTROL_FILE))) refl
  where
    by : (own : Bool) → is_of node (owner_of (files_of mid CONTROL_FILE)) ≡ own
        → Runs
        (sync_if own (slot_calls (files_of mid CONTROL_FILE) CONTROL_FILE (place_of OWNER) (node ∷ []))) mid
        (Some after) true
        → IsOwn node after
    by true e runs =
        subst (IsOwn node) (sym (all_done (Synced CONTROL_FILE ∷ []) mid after runs))
        (own_is node (owner_of (files_of mid CONTROL_FILE)) e, refl)
    by false e runs = (
      ap named_by
          (written_stays mid after CONTROL_FILE (place_of OWNER) (node ∷ [])
          (record { kept = kept; there = omega arith; some = omega arith; runs = runs })).1,
      subst (λ calls. state_of calls CONTROL_FILE ≡ settled (files_of calls CONTROL_FILE))
          (sym (all_done
          (slot_calls (files_of mid CONTROL_FILE) CONTROL_FILE (place_of OWNER) (node ∷ [])) mid after runs))
          refl,
    )

-- the gate of the second slot is closed before
module _ (node : ℕ) (mid : List Call)
    (settles : state_of mid CONTROL_FILE ≡ settled (files_of mid CONTROL_FILE))
    (front : CONTROL_BYTES ≤ length (files_of mid CONTROL_FILE))
    (short : length (files_of mid CONTROL_FILE) < front_size) where
  abbrev control : List ℕ
  control = files_of mid CONTROL_FILE

  abbrev gate : Call
  gate = Wrote CONTROL_FILE (place_of 1) (CLOSED ∷ [])

  abbrev closed : List Call
  closed = Synced CONTROL_FILE ∷ gate ∷ mid

  -- the first slot is kept, and the file ends before the second one would
  abbrev EndsEarly : List Call → Type 0
  EndsEarly calls =
      Keeps control 0 CONTROL_BYTES (state_of calls CONTROL_FILE) × (length (files_of calls CONTROL_FILE) < front_size)

  early_first : EndsEarly mid
  early_first =
      (subst (Keeps control 0 CONTROL_BYTES) (sym settles) (settled_keeps control 0 CONTROL_BYTES front), short)

  early_written : (piece : List ℕ) → length piece ≤ 1
      → Keeps control 0 CONTROL_BYTES (written (state_of mid CONTROL_FILE) (place_of 1) 1 piece)
      × (length (laid (place_of 1) piece control) < front_size)
  early_written piece few = (
    keeps_written control 0 CONTROL_BYTES (state_of mid CONTROL_FILE) (place_of 1) 1 piece early_first.0 few
        (inl (omega arith)),
    (let ends = laid_ends (place_of 1) (front_size - 1) piece control (omega (arith, short)) (omega (arith, few)) in
        omega (arith, ends)),
  )

  early_closed : EndsEarly closed
  early_closed =
      let before = early_written (CLOSED ∷ []) (omega arith) in
      (keeps_settled control 0 CONTROL_BYTES (state_of (gate ∷ mid) CONTROL_FILE) before.0, before.1)

  early_through : HoldsThrough EndsEarly (gate ∷ Synced CONTROL_FILE ∷ []) mid
  early_through = (
    early_first,
    (
      (λ piece few. early_written piece (omega (arith, few))),
      (early_written (CLOSED ∷ []) (omega arith), early_closed),
    ),
  )

  early_same : (calls : List Call) (image : List ℕ) → EndsEarly calls → IsImage (state_of calls CONTROL_FILE) image
      → HasSlotsOf node control image
  early_same calls image early one =
      let synced = early.0.synced in
      let from = one.from_synced in
      let to = one.to_end in
      let ends = early.1 in
      slots_of node control image
      (slot_is_same 0 CONTROL_BYTES image control (omega arith) (omega (arith, synced, from)) front
      (keeps_image control 0 CONTROL_BYTES (state_of calls CONTROL_FILE) image early.0 one))
      (short_slot (place_of 1) CONTROL_BYTES image (omega (arith, to, ends))
      ∙ sym (short_slot (place_of 1) CONTROL_BYTES control short))
      (λ own.
      ap (λ found. is_owned node (named_by found))
      (short_slot (place_of OWNER) OWNER_BYTES image (omega (arith, to, ends))))

  closed_long : place_of 1 < length (files_of closed CONTROL_FILE)
  closed_long =
      let reach = laid_reaches (place_of 1) (CLOSED ∷ []) control (omega arith) in
      omega (arith, reach)

  closed_gate : get_or (files_of closed CONTROL_FILE) (place_of 1) 0 ≡ CLOSED
  closed_gate = laid_here (place_of 1) (CLOSED ∷ []) control 0 (omega arith)

  closed_calls : owner_calls node (files_of closed CONTROL_FILE) ≡ owner_calls node control
  closed_calls =
      owner_calls_same node control (files_of closed CONTROL_FILE)
      (same_behind front_size (gate ∷ Synced CONTROL_FILE ∷ []) mid (gate_on front_size (omega arith)))

  closing_same : (after older : List Call) (ok : Bool) (image : Files) → IsRecord mid
      → Runs ((gate ∷ Synced CONTROL_FILE ∷ []) ++ owner_calls node control) mid (Some after) ok
      → IsMoment mid after older image → HasSlotsOf node control (image CONTROL_FILE)
  closing_same after older ok image kept runs moment =
      elim
      (split_moment CONTROL_FILE (place_of OWNER + OWNER_BYTES) (gate ∷ Synced CONTROL_FILE ∷ [])
      (owner_calls node control) mid after moment.newer older ok (owner_on node control) runs moment.split) [
        | inl among ↦
            early_same older (image CONTROL_FILE)
            (moments EndsEarly (gate ∷ Synced CONTROL_FILE ∷ []) mid among.after among.newer older among.ok
            early_through among.runs among.split moment.long)
            (moment.left CONTROL_FILE (omega arith))
        | inr (made, behind, late) ↦ later made behind late
      ]
    where
      later : Runs (gate ∷ Synced CONTROL_FILE ∷ []) mid (Some closed) true
          → Runs (owner_calls node control) closed (Some after) ok → length closed ≤ length older
          → HasSlotsOf node control (image CONTROL_FILE)
      later made behind late =
          let recorded : IsRecord closed =
          runs_record (gate ∷ Synced CONTROL_FILE ∷ []) mid (Some closed) made kept in
          slots_then node control (files_of closed CONTROL_FILE) (image CONTROL_FILE)
          (early_same closed (files_of closed CONTROL_FILE) early_closed
          (reads_as_an_image closed recorded CONTROL_FILE (omega arith)))
          (owner_written node closed after ok recorded refl older image
          (record { newer = moment.newer; split = moment.split; long = late; left = moment.left })
          (let long = closed_long in omega (arith, long)) (inr (closed_long, closed_gate))
          (subst (λ asks. Runs asks closed (Some after) ok) (sym closed_calls) behind))

  closing_ends : (after : List Call) → IsRecord mid
      → Runs ((gate ∷ Synced CONTROL_FILE ∷ []) ++ owner_calls node control) mid (Some after) true → IsOwn node after
  closing_ends after kept runs =
      elim (runs_split (gate ∷ Synced CONTROL_FILE ∷ []) (owner_calls node control) mid (Some after) true runs) [
        | inl stopped ↦ absurd (true≢false stopped.1)
        | inr both ↦
            owner_ends node closed after
            (runs_record (gate ∷ Synced CONTROL_FILE ∷ []) mid (Some closed) both.0 kept)
            (subst (λ asks. Runs asks closed (Some after) true) (sym closed_calls) both.1)
      ]

-- A control file that has a first slot, and of which nothing is dirty, is made a node's own.
pub record IsOwnWrite (node : ℕ) (mid after : List Call) (ok : Bool) : Type 0 where
  pub kept : IsRecord mid
  pub settled_so : state_of mid CONTROL_FILE ≡ settled (files_of mid CONTROL_FILE)
  pub front : CONTROL_BYTES ≤ length (files_of mid CONTROL_FILE)
  pub runs :
      Runs (own_calls node (length (files_of mid CONTROL_FILE)) (files_of mid CONTROL_FILE)) mid (Some after) ok

-- what a crash leaves of it has the same slots
pub slots_stay : (node : ℕ) (mid after older : List Call) (ok : Bool) (image : Files) → IsOwnWrite node mid after ok
    → IsMoment mid after older image → HasSlotsOf node (files_of mid CONTROL_FILE) (image CONTROL_FILE)
slots_stay node mid after older ok image is moment =
    by (nat_lt (length (files_of mid CONTROL_FILE)) front_size) refl is.runs
  where
    by : (short : Bool) → nat_lt (length (files_of mid CONTROL_FILE)) front_size ≡ short
        → Runs
        ((if short then Wrote CONTROL_FILE (place_of 1) (CLOSED ∷ []) ∷ Synced CONTROL_FILE ∷ [] else [])
        ++ owner_calls node (files_of mid CONTROL_FILE)) mid (Some after) ok
        → HasSlotsOf node (files_of mid CONTROL_FILE) (image CONTROL_FILE)
    by true e runs =
        closing_same node mid is.settled_so is.front (ltb-true (length (files_of mid CONTROL_FILE)) front_size e)
        after older ok image is.kept runs moment
    by false e runs =
        owner_written node mid after ok is.kept is.settled_so older image moment is.front
        (inl (ltb-false (length (files_of mid CONTROL_FILE)) front_size e)) runs

-- and in the end it names the node
pub own_ends : (node : ℕ) (mid after : List Call) → IsOwnWrite node mid after true → IsOwn node after
own_ends node mid after is = by (nat_lt (length (files_of mid CONTROL_FILE)) front_size) refl is.runs
  where
    by : (short : Bool) → nat_lt (length (files_of mid CONTROL_FILE)) front_size ≡ short
        → Runs
        ((if short then Wrote CONTROL_FILE (place_of 1) (CLOSED ∷ []) ∷ Synced CONTROL_FILE ∷ [] else [])
        ++ owner_calls node (files_of mid CONTROL_FILE)) mid (Some after) true
        → IsOwn node after
    by true e runs =
        closing_ends node mid is.settled_so is.front (ltb-true (length (files_of mid CONTROL_FILE)) front_size e) after
        is.kept runs
    by false e runs = owner_ends node mid after is.kept runs
