-- What becomes of the rows of a disk where their host noted a later epoch as saved.
use Rattle.std.proofs.Common.{◌≡◌, ◌∙◌, ◌⊎◌, ◌≤◌, ◌<◌, ℕ, ◌+◌, ◌-◌, ◌^◌, Bool, true, false, nat_le, List}
use Rattle.std.proofs.Common.{[], ◌∷◌, ◌++◌, length, drop, refl, ap, sym, subst, inl, inr, arith, if◌then◌else◌}
use Rattle.std.proofs.Common.{append_assoc, drop_at, length-append}
use Rattle.std.specs.Prelude.{Some}
use Rattle.std.proofs.lemmas.Bool.{and_from, le-leb, le-ltb, leb-false, leb-true, lt-leb, true≢false}
use Rattle.host_io.specs.Call.{Call}
use Rattle.host_io.specs.Image.{IsLeft, LeavesOnly}
use Rattle.host_io.proofs.StateLemmas.{sound_of}
use Rattle.redo_log.specs.Replaying.{log_bytes}
use Rattle.redo_log.specs.Stored.{files_of}
use Rattle.run_theory.specs.Lists.{IsIn, IsPast}
use Rattle.run_theory.proofs.Pasts.{past_nil, past_self, past_trans}
use Rattle.sig_core.specs.declared.member.Member.{Member}
use Rattle.sig_core.specs.declared.redo.Redo.{Redo}
use Rattle.sig_core.specs.declared.slots.ControlSlot.{ControlSlot}
use Rattle.sig_core.specs.declared.slots.SystemSlot.{SystemSlot}
use Rattle.sig_core.specs.Journal.{OutletState}
use Rattle.sig_core.specs.Table.{Rows}
use Rattle.sysfile_core.specs.declared.control.TheConstants.{REDO_BYTES}
use Rattle.sysfile_core.specs.declared.place.TheConstants.{CONTROL_FILE}
use Rattle.sysfile_core.specs.Runs.{Runs}
use Rattle.sys_restart.specs.Files.{Files}
use Rattle.sys_restart.proofs.ControlLemmas.{NamesFiles, in_use_names}
use Rattle.node_disk.specs.Laws.{MaySaveRows}
use Rattle.node_disk.specs.Saving.{next_control, rows_calls, rows_saved, slot_behind}
use Rattle.node_disk.specs.Slots.{SlotsInUse}
use Rattle.node_disk.proofs.CallLemmas.{same_record}
use Rattle.node_restart.specs.Rows.{HasRows, RestoresRows, records_saved}
use Rattle.node_restart.proofs.RestoredLaw.{restored}
use Rattle.node_restart.proofs.SaveLaw.{rows_kept}
use Rattle.world_core.specs.Start.{NobodyStarts, Start, made}
use Rattle.world_core.specs.Steps.{HostStep}
use Rattle.request_laws.specs.Blocks.{rows_after, saver_after, saving_after}
use Rattle.disk_world.specs.Keeping.{redo_from}
use Rattle.journal_laws.specs.Events.{records_behind}
use Rattle.journal_laws.specs.Journal.{first_rows, lqh_after}
use Rattle.journal_laws.specs.Saver.{IsToldDone, NotesSaves}
use Rattle.disk_laws.specs.Found.{HasSavedRows}
use Rattle.disk_laws.specs.Laws.{AreSavable}
use Rattle.disk_laws.specs.Noted.{kept_part}
use Rattle.disk_laws.specs.OnDisk.{HasLastRows, HaveSerials, StandUntilNow}
use Rattle.disk_laws.proofs.ImageLemmas.{joined, others_restore}
use Rattle.disk_laws.proofs.JournalLemmas.{same_records}
use Rattle.journal_laws.proofs.follow.Oldest.{bytes_append}
use Rattle.journal_laws.proofs.follow.GivenUp.{newer_records}
use Rattle.disk_laws.proofs.KeptParts.{kept_is_past}
use Rattle.disk_laws.proofs.SavedLemmas.{first_saved, saved_along}
use Rattle.disk_laws.proofs.SlotNumbers.{HasNumbers, control_numbers}
use Rattle.disk_laws.proofs.StandLemmas.{left_is, stand_restores}

-- what was told to be durable stays so
pub told_longer : (start : Start) (member : Member) (older log : List HostStep) (epoch : ℕ) → IsPast older log
    → IsToldDone start member older epoch → IsToldDone start member log epoch
told_longer start member older log epoch past told =
    subst (λ l. IsToldDone start member l epoch) (sym past.is) (by past.newer)
  where
    by : (newer : List HostStep) → IsToldDone start member (newer ++ older) epoch
    by [] = told
    by (e ∷ newer) = inr (by newer)

-- the rows don't depend on the system slot, nor on calls that leave them
pub last_with : (start : Start) (member : Member) (before : Rows) (first : SystemSlot) (log : List HostStep)
    (s : SlotsInUse) (calls after : List Call) (system : SystemSlot) (at : ℕ)
    (has : HasLastRows start member before first log s calls)
    → HasRows (record s { system = system; system_at = at }) has.least has.base has.redo after
    → HasLastRows start member before first log (record s { system = system; system_at = at }) after
last_with start member before first log s calls after system at has rows = record {
  generation_is = has.generation_is;
  begins = has.begins;
  low = has.low;
  ends = has.ends;
  serial = has.serial;
  few = has.few;
  older = has.older;
  past = has.past;
  saved = has.saved;
  latest = has.latest;
  events = has.events;
  events_of = has.events_of;
  end_is = has.end_is;
  base = has.base;
  redo = has.redo;
  least = has.least;
  stands = has.stands;
  gone = has.gone;
  all = has.all;
  until_now = has.until_now;
  told = has.told;
  rows = rows;
}

-- What an image has of them is what there is to be found in it.
pub last_found : (start : Start) (member : Member) (before : Rows) (first : SystemSlot) (log : List HostStep)
    (s : SlotsInUse) (calls : List Call) (has : HasLastRows start member before first log s calls)
    (longer : List HostStep) → IsPast log longer
    → (rows_after start member (kept_part longer)).saved ≤ s.control.saved → (image : Files)
    → RestoresRows has.least image s.control has.base has.redo
    → HasSavedRows start member before first.generation longer image
last_found start member before first log s calls has longer behind least image restores = record {
  slot = s.control;
  generation_is = has.generation_is;
  older = has.older;
  past = past_trans has.past behind;
  saved = has.saved;
  events = has.events;
  events_of = has.events_of;
  least = has.least;
  told = told_longer start member log longer has.least behind has.told;
  restores =
      stand_restores start member before has.base has.least s.control.redo_start has.events has.redo has.gone image
      s.control has.stands has.all restores;
  latest = least;
}

-- What a step that names no checkpoint leaves of rows that a disk has.
pub record GoesOn (start : Start) (member : Member) (before : Rows) (first : SystemSlot) (log new : List HostStep)
    (s : SlotsInUse) (calls : List Call) (has : HasLastRows start member before first log s calls) : Type 0 where
  pub past : IsPast log new
  pub begins : s.control.redo_start ≡ (lqh_after start member new).outlet.flushed
  pub named : (saver_after start member new).named ≡ (saver_after start member log).named
  pub noted : NotesSaves (saving_after start member log) (saving_after start member new)
  pub until_now : StandUntilNow start member before first new has.base has.least s.control.redo_start has.events
      has.redo

-- no step
unfoldable pub goes_nowhere : (start : Start) (member : Member) (before : Rows) (first : SystemSlot)
    (log : List HostStep)
    (s : SlotsInUse) (calls : List Call) (has : HasLastRows start member before first log s calls)
    → GoesOn start member before first log log s calls has
goes_nowhere start member before first log s calls has = record {
  past = past_self log;
  begins = has.begins;
  named = refl;
  noted = inl (refl, refl);
  until_now = has.until_now;
}

module _ (start : Start) (member : Member) (there : IsIn member (made start)) (before : Rows) (first : SystemSlot)
    (log new : List HostStep) (s : SlotsInUse) (calls : List Call)
    (has : HasLastRows start member before first log s calls)
    (on : GoesOn start member before first log new s calls has) where
  abbrev epoch : ℕ
  epoch = (rows_after start member new).saved

  abbrev outlet : OutletState
  outlet = (lqh_after start member new).outlet

  -- where no later epoch is noted they are still the last
  pub still_last : epoch ≡ s.control.saved → HasLastRows start member before first new s calls
  still_last same = record {
    generation_is = has.generation_is;
    begins = on.begins;
    low = has.low;
    ends = ends on.noted;
    serial = subst (λ (named : ℕ). HaveSerials start member before first named s) (sym on.named) has.serial;
    few = omega (arith, has.few, on.named);
    older = has.older;
    past = past_trans has.past on.past;
    saved = has.saved;
    latest = same;
    events = has.events;
    events_of = has.events_of;
    end_is = has.end_is;
    base = has.base;
    redo = has.redo;
    least = has.least;
    stands = has.stands;
    gone = has.gone;
    all = has.all;
    until_now = on.until_now;
    told = told_longer start member log new has.least on.past has.told;
    rows = has.rows;
  }
    where
      ends : NotesSaves (saving_after start member log) (saving_after start member new)
          → s.control.redo_end ≡ (saver_after start member new).saved_end
      ends (inl (none, end)) = has.ends ∙ sym end
      ends (inr (later, end)) = absurd (omega (arith, later, same, has.latest))

  module _ (can : AreSavable start member before new) (late : 2 ^ 32 ≤ start.epoch) where
    abbrev newer : List Redo
    newer = on.until_now.newer

    abbrev both : List Redo
    both = newer ++ has.redo

    -- behind what is gone
    all_now : records_behind (first_rows start member) on.until_now.now ≡ both ++ has.gone
    all_now =
        on.until_now.is ∙ ap (λ older. newer ++ older) has.all ∙ sym (append_assoc newer has.redo has.gone)

    -- the journal has what is saved, and what is still to be saved
    left_both : NobodyStarts start → outlet.left ≡ log_bytes has.redo ++ log_bytes newer
    left_both nobody =
        left_is start member there new can.events can.records
        ∙ ap (λ records. drop outlet.flushed (log_bytes records))
        (same_records start member there nobody new can.events on.until_now.now can.records.events_of
        on.until_now.events_of
        can.records.records on.until_now.are)
        ∙ ap (λ (at : ℕ). drop at (log_bytes (records_behind (first_rows start member) on.until_now.now)))
        (sym on.begins)
        ∙ sym on.until_now.stand.bytes
        ∙ bytes_append newer has.redo

    pub left_size : NobodyStarts start → length outlet.left ≡ length (log_bytes has.redo) + length (log_bytes newer)
    left_size nobody = ap length (left_both nobody) ∙ length-append (log_bytes has.redo) (log_bytes newer)

    pub rest_is : NobodyStarts start → redo_from outlet s.control.redo_end ≡ log_bytes newer
    rest_is nobody =
        ap (λ (behind : Bool). if behind then [] else drop (s.control.redo_end - outlet.flushed) outlet.left)
        (le-ltb s.control.redo_end outlet.flushed (omega (arith, has.rows.named.ends, on.begins)))
        ∙ ap (drop (s.control.redo_end - outlet.flushed)) (left_both nobody)
        ∙ drop_at (log_bytes has.redo) (log_bytes newer) (s.control.redo_end - outlet.flushed)
        (omega (arith, has.rows.named.ends, on.begins))

    abbrev next : ControlSlot
    next = next_control s epoch (log_bytes newer)

    abbrev used : SlotsInUse
    used = record s { control = next; control_at = 1 - s.control_at }

    names : NamesFiles s.control
    names = in_use_names s.control.generation (files_of calls CONTROL_FILE) s.control has.rows.control.in_use

    numbers : HasNumbers s.control
    numbers =
        control_numbers s.control_at (files_of calls CONTROL_FILE) s.control
        (sound_of calls CONTROL_FILE has.rows.control.kept (omega arith)).are_bytes has.rows.control.stands

    few_bytes : NobodyStarts start → s.control.redo_end + length (log_bytes newer) ≤ s.control.redo_start + REDO_BYTES
    few_bytes nobody = omega (arith, has.rows.named.ends, can.room, left_size nobody)

    serial_low : s.control.saved < epoch → s.control.serial < 2 ^ 64 - 1
    serial_low up = by has.serial
      where
        by : HaveSerials start member before first (saver_after start member log).named s
            → s.control.serial < 2 ^ 64 - 1
        by (inl few) = omega (arith, few, has.few)
        by (inr (some, few)) = omega (arith, few, has.few, up, can.saved, late)

    pub may : NobodyStarts start → s.control.saved < epoch → MaySaveRows s epoch (log_bytes newer)
    may nobody up = record {
      readable = record {
        least_file = names.least;
        most_file = names.most;
        parity = names.parity;
        positions =
            and_from (nat_le s.control.redo_start next.redo_end)
            (nat_le (next.redo_end - s.control.redo_start) REDO_BYTES)
            (le-leb s.control.redo_start next.redo_end (omega (arith, has.rows.named.ends)))
            (le-leb (next.redo_end - s.control.redo_start) REDO_BYTES (omega (arith, few_bytes nobody)));
        generation = numbers.generation;
        serial = serial_fits;
        saved = omega (arith, can.saved);
        redo_start = omega (arith, has.low);
        redo_end = omega (arith, has.low, few_bytes nobody);
        ckpt_size = numbers.size;
      };
      serial = serial_low up;
    }
      where
        serial_fits : next.serial < 2 ^ 64
        serial_fits = omega (arith, serial_low up)

    -- a later epoch is of the life, so its numbers suffice
    serials : NobodyStarts start → s.control.saved < epoch
        → HaveSerials start member before first (saver_after start member new).named used
    serials nobody up = inr (own, by has.serial)
      where
        of_life : (epoch ≡ start.start_epoch) ⊎ (start.epoch ≤ epoch) → start.epoch ≤ epoch
        of_life (inl none) =
            let least = saved_along start nobody member there [] has.older (past_nil has.older) in
            let begun = first_saved start nobody member there in
            absurd (omega (arith, none, least, begun, has.saved, up))
        of_life (inr later) = later

        own : start.epoch ≤ epoch
        own = of_life can.first

        by : HaveSerials start member before first (saver_after start member log).named s
            → next.serial + start.epoch ≤ 2 + epoch + (saver_after start member new).named
        by (inl few) = omega (arith, few, own, on.named)
        by (inr (some, few)) = omega (arith, few, up, on.named)

    -- an image has the rows of before, or the newer ones
    abbrev pub Restored : Files → Type 0
    Restored image =
        RestoresRows has.least image s.control has.base has.redo
        ⊎ ((s.control.saved ≤ epoch) × RestoresRows has.least image next has.base both)

    -- whatever the system slots are
    pub others_restored : (system image : Files) → Restored (joined system image) → Restored image
    others_restored system image (inl one) = inl (others_restore has.least system image s.control has.base has.redo one)
    others_restored system image (inr (up, other)) =
        inr (up, others_restore has.least system image next has.base both other)

    -- What the calls that save them come to. None is made, and so none fails, unless the epoch is a later one.
    pub record AreSaved (after : List Call) (ok : Bool) : Type 0 where
      pub done : ok ≡ true
          → HasLastRows start member before first new (rows_saved s epoch (redo_from outlet s.control.redo_end)) after
      pub failed : ok ≡ false → (image : Files) → IsLeft after image → Restored image
      pub later : ok ≡ false → s.control.saved < epoch

    -- a later epoch is saved
    module _ (nobody : NobodyStarts start) (up : s.control.saved < epoch) (after : List Call)
        (grows : length calls ≤ length after) (ok : Bool)
        (runs : Runs (rows_calls (files_of calls CONTROL_FILE) s epoch (log_bytes newer)) calls (Some after) ok) where
      not_yet : nat_le epoch s.control.saved ≡ false
      not_yet = lt-leb epoch s.control.saved up

      law : LeavesOnly after (length calls)
          (λ image. RestoresRows has.least image s.control has.base has.redo
          ⊎ RestoresRows has.least image next has.base both)
          × (ok ≡ true
          → HasRows (rows_saved s epoch (log_bytes newer)) has.least has.base (records_saved s epoch newer has.redo)
          after)
      law =
          rows_kept s epoch has.least has.base newer has.redo calls after ok has.rows
          (newer_records newer has.redo on.until_now.stand.are) (may nobody up) runs

      either : (image : Files)
          → RestoresRows has.least image s.control has.base has.redo ⊎ RestoresRows has.least image next has.base both
          → Restored image
      either image (inl one) = inl one
      either image (inr other) = inr (omega (arith, up), other)

      now_has : ok ≡ true → HasRows used has.least has.base both after
      now_has so =
          subst
          (λ (saved : Bool). HasRows (if saved then s else used) has.least has.base (if saved then has.redo else both)
          after)
          not_yet (law.1 so)

      -- all that the journal has was saved
      ends : NotesSaves (saving_after start member log) (saving_after start member new)
          → next.redo_end ≡ (saver_after start member new).saved_end
      ends (inl (same, end)) = absurd (omega (arith, same, up, has.latest))
      ends (inr (more, end)) = omega (arith, end, left_size nobody, has.rows.named.ends, on.begins)

      now_last : HasRows used has.least has.base both after → HasLastRows start member before first new used after
      now_last rows = record {
        generation_is = has.generation_is;
        begins = on.begins;
        low = has.low;
        ends = ends on.noted;
        serial = serials nobody up;
        few = omega (arith, has.few, on.named);
        older = new;
        past = past_self new;
        saved = refl;
        latest = refl;
        events = on.until_now.now;
        events_of = on.until_now.events_of;
        end_is = omega (arith, left_size nobody, has.rows.named.ends, on.begins);
        base = has.base;
        redo = both;
        least = has.least;
        stands = on.until_now.stand;
        gone = has.gone;
        all = all_now;
        until_now = record {
          now = on.until_now.now;
          events_of = on.until_now.events_of;
          are = on.until_now.are;
          newer = [];
          is = refl;
          stand = on.until_now.stand;
        };
        told = told_longer start member log new has.least on.past has.told;
        rows = rows;
      }

      later_saves : AreSaved after ok
      later_saves = record {
        done = λ so.
            subst (λ (bytes : List ℕ). HasLastRows start member before first new (rows_saved s epoch bytes) after)
            (sym (rest_is nobody))
            (subst (λ (saved : Bool). HasLastRows start member before first new (if saved then s else used) after)
            (sym not_yet) (now_last (now_has so)));
        failed = λ not_so image left. either image (law.0 [] after refl grows image left);
        later = λ not_so. up;
      }

    -- whatever epoch it is
    pub rows_go : NobodyStarts start → (after : List Call) → length calls ≤ length after → (ok : Bool)
        → Runs (rows_calls (files_of calls CONTROL_FILE) s epoch (redo_from outlet s.control.redo_end)) calls
        (Some after) ok
        → AreSaved after ok
    rows_go nobody after grows ok runs = by (nat_le epoch s.control.saved) refl
      where
        bytes : List ℕ
        bytes = redo_from outlet s.control.redo_end

        Asks : Bool → List Call
        Asks saved =
            if saved
            then []
            else
            slot_behind (files_of calls CONTROL_FILE) s.control.redo_end bytes (1 - s.control_at)
            (next_control s epoch bytes)

        by : (saved : Bool) → nat_le epoch s.control.saved ≡ saved → AreSaved after ok
        by true e =
            let rises = saved_along start nobody member there log new on.past in
            let same : epoch ≡ s.control.saved = omega (arith, leb-true epoch s.control.saved e, rises, has.latest) in
            let none : Runs [] calls (Some after) ok =
            subst (λ (saved : Bool). Runs (Asks saved) calls (Some after) ok) e runs in
            record {
              done = λ so.
                  subst (λ (saved : Bool). HasLastRows start member before first new
                  (if saved then s else record s {
                    control = next_control s epoch bytes;
                    control_at = 1 - s.control_at;
                  }) after) (sym e)
                  (subst (HasLastRows start member before first new s) (sym (same_record after calls none.0))
                  (still_last same));
              failed = λ not_so. absurd (true≢false (sym none.1 ∙ not_so));
              later = λ not_so. absurd (true≢false (sym none.1 ∙ not_so));
            }
        by false e =
            later_saves nobody (omega (arith, leb-false epoch s.control.saved e)) after grows ok
            (subst
            (λ (bytes : List ℕ). Runs (rows_calls (files_of calls CONTROL_FILE) s epoch bytes) calls (Some after) ok)
            (rest_is nobody) runs)

    -- What such an image has is what there is to be found in it, also behind a stop for which nothing of the last step
    -- counts.
    pub found : (longer : List HostStep) → IsPast new longer
        → (rows_after start member (kept_part longer)).saved ≤ s.control.saved → (image : Files) → Restored image
        → HasSavedRows start member before first.generation longer image
    found longer behind least image (inl restores) =
        last_found start member before first log s calls has longer (past_trans on.past behind) least image restores
    found longer behind least image (inr (up, restores)) = record {
      slot = next;
      generation_is = has.generation_is;
      older = new;
      past = behind;
      saved = refl;
      events = on.until_now.now;
      events_of = on.until_now.events_of;
      least = has.least;
      told =
          told_longer start member log longer has.least (past_trans on.past behind) has.told;
      restores =
          stand_restores start member before has.base has.least s.control.redo_start on.until_now.now both has.gone
          image next on.until_now.stand all_now restores;
      latest = omega (arith, least, up);
    }

-- so it is of a disk that has the rows
pub all_found : (start : Start) (nobody : NobodyStarts start) (member : Member) (before : Rows) (first : SystemSlot)
    (log : List HostStep)
    (s : SlotsInUse) (calls : List Call) (image : Files) → IsIn member (made start)
    → HasLastRows start member before first log s calls → IsLeft calls image
    → HasSavedRows start member before first.generation log image
all_found start nobody member before first log s calls image there has left =
    let least = saved_along start nobody member there (kept_part log) log (kept_is_past log) in
    last_found start member before first log s calls has log (past_self log) (omega (arith, least, has.latest)) image
    (restored s has.least has.base has.redo calls image has.rows left)
