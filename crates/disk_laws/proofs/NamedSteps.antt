-- What becomes of the rows of a disk where a local checkpoint is named.
use Rattle.std.proofs.Common.{◌≡◌, ◌∙◌, ◌⊎◌, ◌≤◌, ◌<◌, ℕ, ◌+◌, ◌-◌, ◌^◌, ◌&&◌, Bool, true, false, nat_le, nat_lt}
use Rattle.std.proofs.Common.{List, [], ◌∷◌, ◌++◌, length, drop, take, get_or, append_assoc, refl, ap, sym, subst, inl}
use Rattle.std.proofs.Common.{inr, arith}
use Rattle.std.proofs.Math.Seq.{drop-append_seam}
use Rattle.std.specs.Prelude.{Ok, Some, slice_index}
use Rattle.std.proofs.lemmas.Bool.{and_from, and_parts, le-leb, le-ltb, leb-true, ltb-true}
use Rattle.std.proofs.lemmas.List.{drop-append-le, get_or-drop, length-drop}
use Rattle.host_io.specs.Call.{Call}
use Rattle.host_io.specs.Image.{IsLeft, LeavesOnly}
use Rattle.host_io.proofs.StateLemmas.{sound_of}
use Rattle.redo_log.specs.Replaying.{AreRecords, log_bytes}
use Rattle.redo_log.specs.Stored.{files_of}
use Rattle.redo_log.proofs.OrderLemmas.{one_newest}
use Rattle.run_theory.specs.Lists.{IsIn, IsPast}
use Rattle.run_theory.proofs.Pasts.{past_more, past_self, past_trans}
use Rattle.sig_core.specs.declared.member.Member.{Member}
use Rattle.sig_core.specs.declared.redo.Redo.{Redo}
use Rattle.sig_core.specs.declared.signal.Body.{Body}
use Rattle.sig_core.specs.declared.signal.Body.TheVariants.{Epoch}
use Rattle.sig_core.specs.declared.signal.epoch.EpochSignal.TheVariants.{GcpDone}
use Rattle.sig_core.specs.declared.slots.SystemSlot.{SystemSlot}
use Rattle.sig_core.specs.declared.walk.Finished.{Finished}
use Rattle.sig_core.specs.Journal.{OutletState, end_of}
use Rattle.sig_core.specs.Table.{Rows}
use Rattle.sysfile_core.specs.declared.control.TheConstants.{REDO_BYTES}
use Rattle.sysfile_core.specs.declared.place.TheConstants.{CONTROL_FILE}
use Rattle.sysfile_core.specs.Runs.{Runs}
use Rattle.sys_restart.specs.Files.{Files}
use Rattle.sys_restart.specs.Checkpoint.{rows_of_file, unless_cut}
use Rattle.sys_restart.proofs.ControlLemmas.{NamesFiles, in_use_names}
use Rattle.sys_restart.proofs.NextLemmas.{next_file_is}
use Rattle.lcp_store.specs.Reading.{rows_in}
use Rattle.local_ckpt.specs.Events.{Event}
use Rattle.local_ckpt.specs.Laws.{pieces_bytes}
use Rattle.lqh_saver.specs.declared.stage.Stage.TheVariants.{Walked}
use Rattle.lqh_saver.specs.declared.switching.TheConstants.{CHECKPOINTS, POSITIONS}
use Rattle.lqh_saver.specs.State.{SaverState}
use Rattle.lqh_saver.specs.Switching.{has_numbers}
use Rattle.node_disk.specs.Laws.{MayName}
use Rattle.node_disk.specs.RedoLaws.{IsKept}
use Rattle.node_disk.specs.Saving.{free_file, name_calls, named_control, walk_named}
use Rattle.node_disk.specs.Slots.{SlotsInUse}
use Rattle.node_restart.specs.Rows.{HasRows, NamesRows, RestoresRows}
use Rattle.node_restart.proofs.NamingLemmas.{names_keep}
use Rattle.world_core.specs.Start.{NobodyStarts, Start, made}
use Rattle.world_core.specs.Steps.{HostStep}
use Rattle.request_laws.specs.Blocks.{rows_after, saver_after, saving_after}
use Rattle.journal_laws.specs.Events.{records_behind}
use Rattle.journal_laws.specs.Journal.{AreEventsOf, first_rows, lqh_after}
use Rattle.journal_laws.specs.Saver.{IsToldDone, NotesSaves, SwitchesTo, TellsDone, written}
use Rattle.journal_laws.specs.Walks.{pieces_if}
use Rattle.saved_laws.specs.Checkpoints.{IsCheckpoint, StandFor}
use Rattle.disk_laws.specs.Found.{HasSavedRows}
use Rattle.disk_laws.specs.Laws.{AreSavable}
use Rattle.disk_laws.specs.Noted.{kept_part}
use Rattle.disk_laws.specs.OnDisk.{HasLastRows, HasWalked, HaveSerials, StandUntilNow}
use Rattle.disk_laws.proofs.ImageLemmas.{joined, others_restore}
use Rattle.disk_laws.proofs.JournalLemmas.{both_records, same_records}
use Rattle.journal_laws.proofs.follow.Oldest.{bytes_append}
use Rattle.journal_laws.proofs.follow.GivenUp.{newer_records}
use Rattle.disk_laws.proofs.RowsSaved.{goes_nowhere, last_found, left_size, told_longer}
use Rattle.disk_laws.proofs.SlotNumbers.{HasNumbers, control_numbers}
use Rattle.disk_laws.proofs.StandLemmas.{all_kept, stand_restores, stand_same}

-- what holds of an epoch that was told to be durable holds of those before it
tells_below : (low high : ℕ) (body : Body) → low ≤ high → TellsDone high body → TellsDone low body
tells_below low high (Epoch (GcpDone at)) below told = omega (arith, below, told)
tells_below low high body below told = absurd told

pub told_below : (start : Start) (member : Member) (log : List HostStep) (low high : ℕ) → low ≤ high
    → IsToldDone start member log high → IsToldDone start member log low
told_below start member [] low high below told = omega (arith, below, told)
told_below start member (e ∷ log) low high below (inl (sound, told)) =
    inl (sound, tells_below low high e.step.taken.body below told)
told_below start member (e ∷ log) low high below (inr told) = inr (told_below start member log low high below told)

-- what makes a checkpoint usable
pub record IsUsable (v : SaverState) (saved : ℕ) (finished : Finished) (end : ℕ) : Type 0 where
  pub from : finished.from ≤ v.saved_end
  pub ends : end ≤ v.saved_end
  pub durable : saved ≤ v.durable
  pub saved_is : finished.epoch ≤ saved
  pub low : finished.from < POSITIONS
  pub small : finished.size < POSITIONS
  pub few : v.named < CHECKPOINTS

usable_is : (v : SaverState) (saved : ℕ) (finished : Finished) (end : ℕ)
    → ((nat_le finished.from v.saved_end && nat_le end v.saved_end && nat_le saved v.durable
    && nat_le finished.epoch saved && has_numbers v finished) ≡ true)
    → IsUsable v saved finished end
usable_is v saved finished end is =
    let five = and_parts _ (has_numbers v finished) is in
    let four = and_parts _ (nat_le finished.epoch saved) five.0 in
    let three = and_parts _ (nat_le saved v.durable) four.0 in
    let two = and_parts (nat_le finished.from v.saved_end) (nat_le end v.saved_end) three.0 in
    let numbers = and_parts _ (nat_lt v.named CHECKPOINTS) five.1 in
    let positions = and_parts (nat_lt finished.from POSITIONS) (nat_lt finished.size POSITIONS) numbers.0 in
    record {
      from = leb-true finished.from v.saved_end two.0;
      ends = leb-true end v.saved_end two.1;
      durable = leb-true saved v.durable three.1;
      saved_is = leb-true finished.epoch saved four.1;
      low = ltb-true finished.from POSITIONS positions.0;
      small = ltb-true finished.size POSITIONS positions.1;
      few = ltb-true v.named CHECKPOINTS numbers.1;
    }

-- The rows that a file begins with are read.
checkpoint_read : (file size latest : ℕ) (bytes all : List ℕ) (rows : Rows) → size ≡ length bytes
    → take (length bytes) all ≡ bytes → rows_in file latest bytes ≡ Ok rows
    → rows_of_file file size latest all ≡ Ok rows
checkpoint_read file size latest bytes all rows is front read =
    ap (λ (n : ℕ). rows_of_file file n latest all) is
    ∙ ap (λ own. unless_cut file own (nat_lt (length own) (length bytes)) (rows_in file latest own)) front
    ∙ ap (λ (cut : Bool). unless_cut file bytes cut (rows_in file latest bytes))
    (le-ltb (length bytes) (length bytes) (omega arith))
    ∙ ap (unless_cut file bytes false) read

-- The host of a member's rows has a step more, which names what was written.
module _ (start : Start) (member : Member) (there : IsIn member (made start)) (before : Rows) (first : SystemSlot)
    (e : HostStep) (log : List HostStep) (s : SlotsInUse) (calls : List Call)
    (has : HasLastRows start member before first log s calls) (can : AreSavable start member before log)
    (new : AreSavable start member before (e ∷ log)) (late : 2 ^ 32 ≤ start.epoch) (finished : Finished)
    (switch : SwitchesTo (saving_after start member log) (saving_after start member (e ∷ log)) finished)
    (older : List Event) (is : new.events ≡ older) (of : AreEventsOf start member log older)
    (noted : NotesSaves (saving_after start member log) (saving_after start member (e ∷ log))) where
  abbrev records : List Event → List Redo
  records = records_behind (first_rows start member)

  abbrev v : SaverState
  v = saver_after start member log

  abbrev now : List Event
  now = has.until_now.now

  abbrev newer : List Redo
  newer = has.until_now.newer

  abbrev old_bytes : List ℕ
  old_bytes = log_bytes (records has.events)

  pub usable : IsUsable v (rows_after start member log).saved finished switch.end
  usable = usable_is v (rows_after start member log).saved finished switch.end switch.usable

  pub checkpoint : IsCheckpoint start member before log finished switch.end
  checkpoint = can.stands finished switch.end switch.was

  pub old_stand : (kept : List Redo)
      × StandFor start member before checkpoint.rows finished.epoch finished.from has.events kept
  old_stand =
      checkpoint.stand has.older has.past (omega (arith, usable.ends, has.ends, has.end_is)) has.events has.events_of

  abbrev kept : List Redo
  kept = old_stand.0

  size : NobodyStarts start → length (lqh_after start member log).outlet.left
      ≡ length (log_bytes has.redo) + length (log_bytes newer)
  unfolding goes_nowhere
  size nobody =
      left_size start member there before first log log s calls has
      (goes_nowhere start member before first log s calls has) can late nobody

  now_stand : NobodyStarts start → (more : List Redo)
      × StandFor start member before checkpoint.rows finished.epoch finished.from now more
  now_stand nobody =
      checkpoint.stand log (past_self log)
      (omega (arith, usable.ends, has.ends, has.begins, has.rows.named.ends, size nobody)) now has.until_now.events_of

  newer_are : AreRecords newer
  newer_are = newer_records newer has.redo has.until_now.stand.are

  -- with the newer records what the checkpoint has stands for all until now
  same_now : (nobody : NobodyStarts start) → (now_stand nobody).0 ≡ newer ++ kept
  same_now nobody =
      one_newest (now_stand nobody).0 (newer ++ kept) (now_stand nobody).1.are
      (both_records newer kept newer_are old_stand.1.are)
      ((now_stand nobody).1.bytes
      ∙ ap (λ all. drop finished.from (log_bytes all)) has.until_now.is
      ∙ ap (drop finished.from) (bytes_append newer (records has.events))
      ∙ drop-append-le finished.from old_bytes (log_bytes newer) old_stand.1.most
      ∙ ap (λ front. front ++ log_bytes newer) (sym old_stand.1.bytes)
      ∙ sym (bytes_append newer kept))

  older_are : AreRecords (records older)
  older_are = subst (λ events. AreRecords (records events)) is new.records.records

  same_records_now : NobodyStarts start → records now ≡ records new.events
  same_records_now nobody =
      same_records start member there nobody log now older has.until_now.events_of of has.until_now.are older_are
      ∙ sym (ap records is)

  behind_it : NobodyStarts start
      → StandUntilNow start member before first (e ∷ log) checkpoint.rows finished.epoch finished.from has.events
      kept
  behind_it nobody = record {
    now = new.events;
    events_of = new.records.events_of;
    are = new.records.records;
    newer = newer;
    is = sym (same_records_now nobody) ∙ has.until_now.is;
    stand =
        stand_same start member before checkpoint.rows finished.epoch finished.from now new.events (newer ++ kept)
        (same_records_now nobody)
        (subst (StandFor start member before checkpoint.rows finished.epoch finished.from now) (same_now nobody)
        (now_stand nobody).1);
  }

  -- the records before its position are given up
  old_all : NobodyStarts start → records has.events ≡ kept ++ records new.followed.given_up.gone
  unfolding behind_it
  old_all nobody =
      sym (drop-append_seam newer (records has.events))
      ∙ ap (drop (length newer))
      (sym (behind_it nobody).is
      ∙ all_kept start member there (e ∷ log) new.events new.records new.followed.given_up (newer ++ kept)
      (behind_it nobody).stand.are
      ((behind_it nobody).stand.bytes
      ∙ ap (λ (o : OutletState). drop o.flushed (log_bytes (records new.events))) (sym switch.outlet))
      ∙ append_assoc newer kept (records new.followed.given_up.gone))
      ∙ drop-append_seam newer (kept ++ records new.followed.given_up.gone)

  names : NamesFiles s.control
  names = in_use_names s.control.generation (files_of calls CONTROL_FILE) s.control has.rows.control.in_use

  numbers : HasNumbers s.control
  numbers =
      control_numbers s.control_at (files_of calls CONTROL_FILE) s.control
      (sound_of calls CONTROL_FILE has.rows.control.kept (omega arith)).are_bytes has.rows.control.stands

  serial_low : s.control.serial < 2 ^ 64 - 1
  serial_low = by has.serial
    where
      by : HaveSerials start member before first v.named s → s.control.serial < 2 ^ 64 - 1
      by (inl few) = omega (arith, few, has.few)
      by (inr (some, few)) = omega (arith, few, has.few, has.latest, can.saved, late)

  few_bytes : NobodyStarts start → s.control.redo_end ≤ s.control.redo_start + REDO_BYTES
  few_bytes nobody = omega (arith, has.rows.named.ends, can.room, size nobody)

  from_end : finished.from ≤ s.control.redo_end
  from_end = omega (arith, usable.from, has.ends)

  has_from : s.control.redo_start ≤ finished.from
  has_from =
      let both =
      and_parts (nat_le (lqh_after start member log).outlet.flushed finished.from)
      (nat_le finished.from (end_of (lqh_after start member log).outlet)) switch.has in
      omega (
        arith,
        leb-true (lqh_after start member log).outlet.flushed finished.from both.0,
        has.begins,
      )

  pub may : NobodyStarts start → MayName s finished
  may nobody = record {
    readable = record {
      least_file = (next_file_is (Some s.control)).0;
      most_file = (next_file_is (Some s.control)).1;
      parity = names.parity;
      positions =
          and_from (nat_le finished.from s.control.redo_end)
          (nat_le (s.control.redo_end - finished.from) REDO_BYTES)
          (le-leb finished.from s.control.redo_end from_end)
          (le-leb (s.control.redo_end - finished.from) REDO_BYTES (omega (arith, few_bytes nobody, has_from)));
      generation = numbers.generation;
      serial = serial_fits;
      saved = omega (arith, can.saved, has.latest);
      redo_start = omega (arith, usable.low);
      redo_end = omega (arith, has.low, few_bytes nobody);
      ckpt_size = omega (arith, usable.small);
    };
    serial = serial_low;
  }
    where
      serial_fits : (named_control s finished).serial < 2 ^ 64
      serial_fits = omega (arith, serial_low)

  -- the bytes of the redo that it needs are among those that are saved
  its_byte : (behind : ℕ) → behind < length (log_bytes kept)
      → IsKept calls s.control.parity (finished.from + behind) (slice_index (log_bytes kept) behind)
  its_byte behind below =
      subst
      (λ (at : ℕ). IsKept calls s.control.parity at (slice_index (log_bytes kept) behind))
      (omega (arith, has_from))
      (subst
      (λ (byte : ℕ). IsKept calls s.control.parity
      (s.control.redo_start + (finished.from - s.control.redo_start + behind))
      byte)
      same_byte
      (has.rows.named.kept (finished.from - s.control.redo_start + behind)
      (omega (arith, below, its_size, redo_size, has_from))))
    where
      its_size : length (log_bytes kept) ≡ length old_bytes - finished.from
      its_size = ap length old_stand.1.bytes ∙ length-drop finished.from old_bytes

      redo_size : length (log_bytes has.redo) ≡ length old_bytes - s.control.redo_start
      redo_size = ap length has.stands.bytes ∙ length-drop s.control.redo_start old_bytes

      same_byte : slice_index (log_bytes has.redo) (finished.from - s.control.redo_start + behind)
          ≡ slice_index (log_bytes kept) behind
      same_byte =
          ap (λ bytes. get_or bytes (finished.from - s.control.redo_start + behind) 0) has.stands.bytes
          ∙ get_or-drop s.control.redo_start old_bytes (finished.from - s.control.redo_start + behind) 0
          ∙ ap (λ (at : ℕ). get_or old_bytes at 0) (omega (arith, has_from))
          ∙ sym (get_or-drop finished.from old_bytes behind 0)
          ∙ sym (ap (λ bytes. get_or bytes behind 0) old_stand.1.bytes)

  named_ends : s.control.redo_end ≡ finished.from + length (log_bytes kept)
  named_ends =
      let its_size : length (log_bytes kept) ≡ length old_bytes - finished.from =
      ap length old_stand.1.bytes ∙ length-drop finished.from old_bytes in
      let redo_size : length (log_bytes has.redo) ≡ length old_bytes - s.control.redo_start =
      ap length has.stands.bytes ∙ length-drop s.control.redo_start old_bytes in
      omega (arith, its_size, redo_size, has.rows.named.ends, has.stands.most, old_stand.1.most)

  -- an image has the rows of before, or those of the checkpoint
  abbrev pub Named : Files → Type 0
  Named image =
      RestoresRows has.least image s.control has.base has.redo
      ⊎ RestoresRows finished.epoch image (named_control s finished) checkpoint.rows kept

  pub others_named : (system image : Files) → Named (joined system image) → Named image
  others_named system image (inl one) = inl (others_restore has.least system image s.control has.base has.redo one)
  others_named system image (inr other) =
      inr (others_restore finished.epoch system image (named_control s finished) checkpoint.rows kept other)

  its_epoch : (longer : List HostStep) → IsPast log longer → IsToldDone start member longer finished.epoch
  its_epoch longer behind =
      told_longer start member log longer finished.epoch behind
      (told_below start member log finished.epoch v.durable
      (omega (arith, usable.saved_is, usable.durable)) can.followed.durable)

  -- Either way it has what is to be found.
  pub named_found : NobodyStarts start → (longer : List HostStep) → IsPast log longer
      → (rows_after start member (kept_part longer)).saved ≤ s.control.saved → (image : Files) → Named image
      → HasSavedRows start member before first.generation longer image
  named_found nobody longer behind least image (inl restores) =
      last_found start member before first log s calls has longer behind least image restores
  named_found nobody longer behind least image (inr restores) = record {
    slot = named_control s finished;
    generation_is = has.generation_is;
    older = has.older;
    past = past_trans has.past behind;
    saved = has.saved;
    events = has.events;
    events_of = has.events_of;
    least = finished.epoch;
    told = its_epoch longer behind;
    restores =
        stand_restores start member before checkpoint.rows finished.epoch finished.from has.events kept
        (records new.followed.given_up.gone) image (named_control s finished) old_stand.1 (old_all nobody) restores;
    latest = least;
  }

  module _ (nobody : NobodyStarts start) (walked : HasWalked start member before first (Walked finished switch.end) log
      s calls) where
    named : NamesRows (named_control s finished) finished.epoch checkpoint.rows kept calls
    named = record {
      clean = walked.1;
      checkpoint =
          checkpoint_read (free_file s) finished.size finished.epoch
          (pieces_bytes (pieces_if finished.size (written start member log))) (files_of calls (free_file s))
          checkpoint.rows checkpoint.size walked.0
          (checkpoint.read (free_file s) finished.epoch (omega arith) (omega (arith, can.saved, usable.saved_is)));
      records = old_stand.1.are;
      ends = named_ends;
      kept = its_byte;
    }

    module _ (after : List Call) (ok : Bool)
        (runs : Runs (name_calls (files_of calls CONTROL_FILE) s finished) calls (Some after) ok) where
      law : LeavesOnly after (length calls) Named
          × (ok ≡ true → HasRows (walk_named s finished) finished.epoch checkpoint.rows kept after)
      law =
          names_keep s finished has.least has.base checkpoint.rows has.redo kept calls after ok has.rows (may nobody)
          named runs

      -- whatever a crash leaves of its end
      pub names_leave : length calls ≤ length after → (image : Files) → IsLeft after image → Named image
      names_leave grows image left = law.0 [] after refl grows image left

      end_same : NotesSaves (saving_after start member log) (saving_after start member (e ∷ log))
          → s.control.redo_end ≡ (saver_after start member (e ∷ log)).saved_end
      end_same (inl (same, end)) = has.ends ∙ sym end
      end_same (inr (more, end)) = absurd (omega (arith, more, switch.saved))

      serials : HaveSerials start member before first v.named s
          → HaveSerials start member before first (saver_after start member (e ∷ log)).named (walk_named s finished)
      serials (inl few) = inl (omega (arith, few, switch.named))
      serials (inr (own, few)) = inr (own, omega (arith, few, switch.named))

      -- behind it the disk has the checkpoint
      pub named_last : ok ≡ true
          → HasLastRows start member before first (e ∷ log) (walk_named s finished) after
      named_last so = record {
        generation_is = has.generation_is;
        begins = ap (λ (o : OutletState). o.flushed) (sym switch.outlet);
        low = usable.low;
        ends = end_same noted;
        serial = serials has.serial;
        few = omega (arith, usable.few, switch.named);
        older = has.older;
        past = past_more e has.past;
        saved = has.saved;
        latest = switch.saved ∙ has.latest;
        events = has.events;
        events_of = has.events_of;
        end_is = has.end_is;
        base = checkpoint.rows;
        redo = kept;
        least = finished.epoch;
        stands = old_stand.1;
        gone = records new.followed.given_up.gone;
        all = old_all nobody;
        until_now = behind_it nobody;
        told = its_epoch (e ∷ log) (past_more e (past_self log));
        rows = law.1 so;
      }
