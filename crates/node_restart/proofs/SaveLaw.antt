-- The rows at each moment of a save of them.
use Rattle.std.proofs.Common.{◌≡◌, ◌∙◌, ◌⊎◌, ◌≤◌, ◌<◌, ℕ, ◌+◌, ◌-◌, ◌==◌, ◌&&◌, Bool, true, false, nat_le, List}
use Rattle.std.proofs.Common.{[], ◌∷◌, ◌++◌, length, drop, refl, ap, sym, subst, inl, inr, append_assoc}
use Rattle.std.proofs.Common.{append-nil, if◌then◌else◌, arith}
use Rattle.std.specs.Prelude.{Some, slice_index}
use Rattle.std.proofs.lemmas.Bool.{cases_lt, leb-true, ne_eqb, true≢false}
use Rattle.std.proofs.lemmas.List.{get_or-append_right, get_or_append_left, length-append}
use Rattle.host_io.specs.Call.{Call}
use Rattle.host_io.specs.DiskState.{settled, state_of}
use Rattle.host_io.specs.Image.{IsLeft, LeavesOnly}
use Rattle.redo_log.specs.Replaying.{AreRecords, log_bytes}
use Rattle.redo_log.specs.Stored.{files_of}
use Rattle.sig_core.specs.declared.journal.TheConstants.{JOURNAL_BYTES}
use Rattle.sig_core.specs.declared.redo.Redo.{Redo}
use Rattle.sig_core.specs.declared.slots.ControlSlot.{ControlSlot}
use Rattle.sig_core.specs.Redo.{bytes_of}
use Rattle.sig_core.specs.Ring.{file_of}
use Rattle.sig_core.specs.Table.{Rows}
use Rattle.sysfile_core.specs.declared.control.TheConstants.{REDO_BYTES}
use Rattle.sysfile_core.specs.declared.place.TheConstants.{CONTROL_FILE}
use Rattle.sysfile_core.specs.Places.{place_of}
use Rattle.sysfile_core.specs.Reading.{control_of_file}
use Rattle.sysfile_core.specs.Runs.{Runs}
use Rattle.sysfile_core.specs.Slots.{control_bytes}
use Rattle.sysfile_core.specs.Writing.{slot_calls, stands_closed}
use Rattle.sysfile_core.proofs.RunLemmas.{HoldsThrough, all_done, done, moments}
use Rattle.sys_restart.specs.Files.{Files}
use Rattle.sys_restart.proofs.ControlLemmas.{NamesFiles, in_use_names}
use Rattle.sys_restart.proofs.MomentLemmas.{longer, moments_then, runs_split}
use Rattle.sys_restart.proofs.NextLemmas.{slot_on}
use Rattle.sys_restart.proofs.SameRows.{redo_file}
use Rattle.sys_restart.proofs.StandsLemmas.{left_as}
use Rattle.node_disk.specs.Laws.{HasControl, IsEither, MaySaveRows}
use Rattle.node_disk.specs.RedoLaws.{IsKept}
use Rattle.node_disk.specs.Saving.{next_control, redo_calls, rows_saved, slot_behind}
use Rattle.node_disk.specs.Slots.{SlotsInUse}
use Rattle.node_disk.proofs.CallLemmas.{AreElsewhere, elsewhere_done, elsewhere_through, same_record}
use Rattle.node_disk.proofs.ControlLaw.{control_stays}
use Rattle.node_disk.proofs.LawLemmas.{slot_elsewhere}
use Rattle.node_disk.proofs.RedoLemmas.{not_control, redo_elsewhere}
use Rattle.node_disk.proofs.SyncedLemmas.{synced_first}
use Rattle.node_restart.specs.Laws.{SavesKeepRows}
use Rattle.node_restart.specs.Rows.{HasRows, NamesRows, RestoresRows}
use Rattle.node_restart.proofs.MomentLemmas.{through_redo}
use Rattle.node_restart.proofs.NamedLemmas.{kept_same, named_restored, named_still}
use Rattle.node_restart.proofs.RestoredLaw.{restored}

second_true : (a b : Bool) → (a && b) ≡ true → b ≡ true
second_true true b is = is
second_true false b is = absurd (true≢false (sym is))

-- the bytes of newer records follow those of the others
bytes_both : (newer redo : List Redo) → log_bytes (newer ++ redo) ≡ log_bytes redo ++ log_bytes newer
bytes_both [] redo = sym (append-nil (log_bytes redo))
bytes_both (newest ∷ newer) redo =
    ap (λ (w : List ℕ). w ++ bytes_of newest) (bytes_both newer redo)
    ∙ append_assoc (log_bytes redo) (log_bytes newer) (bytes_of newest)

both_records : (newer redo : List Redo) → AreRecords newer → AreRecords redo → AreRecords (newer ++ redo)
both_records [] redo one other = other
both_records (newest ∷ newer) redo one other = (one.0, both_records newer redo one.1 other)

-- A save that writes redo, and a control slot behind it.
module _ (s : SlotsInUse) (epoch least : ℕ) (start : Rows) (newer redo : List Redo) (before : List Call)
    (has : HasRows s least start redo before) (are : AreRecords newer)
    (may : MaySaveRows s epoch (log_bytes newer)) where
  abbrev bytes : List ℕ
  bytes = log_bytes newer

  abbrev next : ControlSlot
  next = next_control s epoch bytes

  abbrev control : List ℕ
  control = files_of before CONTROL_FILE

  abbrev free : ℕ
  free = place_of (1 - s.control_at)

  abbrev body : List ℕ
  body = drop 1 (control_bytes next)

  abbrev redo_asks : List Call
  redo_asks = redo_calls s.control.parity s.control.redo_end bytes

  abbrev slot_asks : List Call
  slot_asks = slot_calls control CONTROL_FILE free body

  abbrev mid : List Call
  mid = done redo_asks before

  abbrev ckpt : ℕ
  ckpt = s.control.ckpt_file

  names : NamesFiles s.control
  names = in_use_names s.control.generation control s.control has.control.in_use

  names_next : NamesFiles next
  names_next = record { least = names.least; most = names.most; parity = names.parity }

  room : s.control.redo_end + length bytes ≤ s.control.redo_start + JOURNAL_BYTES
  room =
      omega (
        arith,
        has.named.ends,
        leb-true (s.control.redo_end + length bytes - s.control.redo_start) REDO_BYTES
            (second_true (nat_le s.control.redo_start (s.control.redo_end + length bytes))
            (nat_le (s.control.redo_end + length bytes - s.control.redo_start) REDO_BYTES) may.readable.positions),
      )

  ckpt_apart : AreElsewhere ckpt redo_asks
  ckpt_apart =
      redo_elsewhere ckpt s.control.parity s.control.redo_end bytes
      (λ position.
      ne_eqb (file_of s.control.parity position) ckpt
      (λ same. absurd (omega (arith, same, (redo_file s.control.parity position names.parity).0, names.most))))

  -- while redo is written the slot names the rows of before, and is in use
  early_names : (older : List Call) → ((Holds : List Call → Type 0) → HoldsThrough Holds redo_asks before → Holds older)
      → NamesRows s.control least start redo older
  early_names older holds =
      named_still s.control least start redo before older has.named
      (holds (λ moment. state_of moment ckpt ≡ state_of before ckpt)
      (elsewhere_through ckpt redo_asks before (state_of before ckpt) ckpt_apart refl))
      (λ position byte low below is.
      holds (λ moment. IsKept moment s.control.parity position byte)
      (through_redo s.control.parity position byte s.control.redo_end bytes before below (omega (arith, room, low))
      is))

  early : (older : List Call) (image : Files)
      → ((Holds : List Call → Type 0) → HoldsThrough Holds redo_asks before → Holds older) → IsLeft older image
      → RestoresRows least image s.control start redo
  early older image holds left =
      named_restored s.control least start redo older image names (early_names older holds) left
      (ap (control_of_file s.control.generation) (left_as older image CONTROL_FILE control left (omega arith) clean)
      ∙ has.control.in_use)
    where
      clean : state_of older CONTROL_FILE ≡ settled control
      clean =
          holds (λ moment. state_of moment CONTROL_FILE ≡ state_of before CONTROL_FILE)
          (elsewhere_through CONTROL_FILE redo_asks before (state_of before CONTROL_FILE)
          (redo_elsewhere CONTROL_FILE s.control.parity s.control.redo_end bytes (not_control s.control.parity)) refl)
          ∙ has.control.clean

  -- A moment at which all redo is written.
  module _ (after newer_calls older : List Call) (ok : Bool) (first : Runs redo_asks before (Some mid) true)
      (second : Runs slot_asks mid (Some after) ok) (split : after ≡ newer_calls ++ older)
      (late : length mid ≤ length older) where
    late_same : (file : ℕ) → (CONTROL_FILE == file) ≡ false → state_of older file ≡ state_of mid file
    late_same file apart =
        moments (λ moment. state_of moment file ≡ state_of mid file) slot_asks mid after newer_calls older ok
        (elsewhere_through file slot_asks mid (state_of mid file)
        (slot_elsewhere file control CONTROL_FILE free body apart) refl)
        second split late

    late_kept : (position byte : ℕ) → IsKept mid s.control.parity position byte
        → IsKept older s.control.parity position byte
    late_kept position byte =
        kept_same mid older s.control.parity position byte
        (late_same (file_of s.control.parity position)
        (ne_eqb CONTROL_FILE (file_of s.control.parity position)
        (λ same. absurd (omega (arith, same, (redo_file s.control.parity position names.parity).0)))))

    few : length bytes ≤ JOURNAL_BYTES
    few = omega (arith, room, has.named.ends)

    late_names : NamesRows s.control least start redo older
    late_names =
        named_still s.control least start redo before older has.named
        (late_same ckpt (ne_eqb CONTROL_FILE ckpt (λ same. absurd (omega (arith, same, names.least))))
        ∙ elsewhere_done ckpt redo_asks before ckpt_apart)
        (λ position byte low below is.
        late_kept position byte
        ((synced_first s.control.parity s.control.redo_end bytes before mid few first).1 position byte below
        (omega (arith, room, low)) is))

    size : length (log_bytes (newer ++ redo)) ≡ length (log_bytes redo) + length bytes
    size = ap length (bytes_both newer redo) ∙ length-append (log_bytes redo) bytes

    -- the bytes of all records, those of before and the newer ones
    both_kept : (behind : ℕ) → behind < length (log_bytes (newer ++ redo))
        → IsKept older s.control.parity (s.control.redo_start + behind)
        (slice_index (log_bytes (newer ++ redo)) behind)
    both_kept behind below =
        subst
        (λ (w : List ℕ). IsKept older s.control.parity (s.control.redo_start + behind) (slice_index w behind))
        (sym (bytes_both newer redo))
        (elim (cases_lt behind (length (log_bytes redo))) [
          | inl before_it ↦
              subst (λ (b : ℕ). IsKept older s.control.parity (s.control.redo_start + behind) b)
              (sym (get_or_append_left (log_bytes redo) bytes 0 behind before_it)) (late_names.kept behind before_it)
          | inr behind_it ↦
              subst (λ (b : ℕ). IsKept older s.control.parity (s.control.redo_start + behind) b)
              (sym (get_or-append_right (log_bytes redo) bytes (length (log_bytes redo)) behind 0 refl behind_it))
              (subst (λ (p : ℕ). IsKept older s.control.parity p (slice_index bytes (behind - length (log_bytes redo))))
              (omega (arith, has.named.ends, behind_it))
              (late_kept (s.control.redo_end + (behind - length (log_bytes redo)))
              (slice_index bytes (behind - length (log_bytes redo)))
              ((synced_first s.control.parity s.control.redo_end bytes before mid few first).0
              (behind - length (log_bytes redo)) (omega (arith, size, below, behind_it)))))
        ])

    next_names : NamesRows next least start (newer ++ redo) older
    next_names = record {
      clean = late_names.clean;
      checkpoint = late_names.checkpoint;
      records = both_records newer redo are has.named.records;
      ends = omega (arith, has.named.ends, size);
      kept = both_kept;
    }

  abbrev Restores : Files → Type 0
  Restores image =
      RestoresRows least image s.control start redo
      ⊎ RestoresRows least image next start (newer ++ redo)

  module _ (after : List Call) (ok : Bool)
      (runs : Runs (redo_asks ++ slot_asks) before (Some after) ok) where
    saves : LeavesOnly after (length before)
        (λ image. IsEither (control_of_file s.control.generation (image CONTROL_FILE)) s.control next)
        → LeavesOnly after (length before) Restores
    saves finds newer_calls older split long image left =
        elim (runs_split redo_asks slot_asks before (Some after) ok runs) [
          | inl stopped ↦ inl (early older image
              (λ Holds through. moments Holds redo_asks before after newer_calls older false through stopped.0 split
              long) left)
          | inr both ↦
              elim (cases_lt (length older) (length mid)) [
                | inl less ↦ inl (early older image
                    (λ Holds through.
                    moments_then Holds CONTROL_FILE (free + (1 + length body)) redo_asks slot_asks before after
                    newer_calls older ok through
                    (slot_on (stands_closed free control) CONTROL_FILE free (free + (1 + length body)) body
                    (omega arith))
                    (λ one other late. absurd (omega (arith, less, late))) runs split long) left)
                | inr late ↦ behind both.0 both.1 late
              ]
        ]
      where
        behind : Runs redo_asks before (Some mid) true → Runs slot_asks mid (Some after) ok
            → length mid ≤ length older → Restores image
        behind first second late =
            elim (finds newer_calls older split long image left) [
              | inl one ↦ inl (named_restored s.control least start redo older image names
                  (late_names after newer_calls older ok first second split late) left one)
              | inr other ↦ inr (named_restored next least start (newer ++ redo) older image names_next
                  (next_names after newer_calls older ok first second split late) left other)
            ]

    saved : ok ≡ true → NamesRows next least start (newer ++ redo) after
    saved so =
        elim (runs_split redo_asks slot_asks before (Some after) ok runs) [
          | inl stopped ↦ absurd (true≢false (sym so ∙ stopped.1))
          | inr both ↦
              next_names after [] after ok both.0 both.1 refl
              (subst (λ (calls : List Call). length mid ≤ length calls)
              (sym (all_done slot_asks mid after (subst (λ (b : Bool). Runs slot_asks mid (Some after) b) so both.1)))
              (longer slot_asks mid))
        ]

pub rows_kept : SavesKeepRows
rows_kept s epoch least start newer redo before after ok has are may runs =
    by (nat_le epoch s.control.saved) runs stays.1
  where
    next : ControlSlot
    next = next_control s epoch (log_bytes newer)

    stays : LeavesOnly after (length before)
        (λ image. IsEither (control_of_file s.control.generation (image CONTROL_FILE)) s.control next)
        × (ok ≡ true → HasControl (rows_saved s epoch (log_bytes newer)) after)
    stays = control_stays s epoch (log_bytes newer) before after ok has.control may runs

    then_used : SlotsInUse
    then_used = record s { control = next_control s epoch (log_bytes newer); control_at = 1 - s.control_at }

    by : (none : Bool)
        → Runs (if none then [] else slot_behind (files_of before CONTROL_FILE) s.control.redo_end (log_bytes newer)
        (1 - s.control_at) next) before (Some after) ok
        → (ok ≡ true → HasControl (if none then s else then_used) after)
        → LeavesOnly after (length before)
        (λ image. RestoresRows least image s.control start redo ⊎ RestoresRows least image next start (newer ++ redo))
        × (ok ≡ true → HasRows (if none then s else then_used) least start (if none then redo else newer ++ redo) after)
    by true made used = (
      λ newer_calls older split long image left.
          inl (moments (λ moment. (left_image : Files) → IsLeft moment left_image
          → RestoresRows least left_image s.control start redo) [] before after newer_calls older ok
          (λ left_image left_so. restored s least start redo before left_image has left_so) made split long image left),
      λ so. subst (HasRows s least start redo) (sym (same_record after before made.0)) has,
    )
    by false made used = (
      saves s epoch least start newer redo before has are may after ok made stays.0,
      λ so.
          record {
            control = used so;
            named = saved s epoch least start newer redo before has are may after ok made so;
          },
    )
