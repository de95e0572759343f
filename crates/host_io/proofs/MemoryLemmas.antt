-- What a disk in memory keeps between its journal and its files.
use Rattle.std.proofs.Common.{◌≡◌, ◌∙◌, ◌⊎◌, Option, Some, ℕ, zero, suc, ◌+◌, ◌-◌, ◌≤◌, ◌<◌, Bool, true, false, nat_eq}
use Rattle.std.proofs.Common.{◌==◌, List, [], ◌∷◌, ◌++◌, length, take, drop, set, map, replicate, get_or, if◌then◌else◌}
use Rattle.std.proofs.Common.{Fits, w8, refl, ap, sym, subst, arith, inl, inr, append_assoc}
use Rattle.std.proofs.lemmas.Bool.{cases_eq, ne_eqb, true≢false}
use Rattle.std.proofs.lemmas.List.{drop-set-lt, drop_more, ext_get_or, get_or-map, get_or-set_other, get_or-set_same}
use Rattle.std.proofs.lemmas.List.{length-map, length-set, length-take, set-get_or, take_more_set}
use Rattle.std.proofs.lemmas.List.Elements.{All-from_get_or, All-take}
use Rattle.std.proofs.lemmas.List.FromFn.{get_or-map-range_with_len}
use Rattle.std.specs.List.{range_with_len}
use Rattle.host_io.specs.declared.journal.Entry.{Entry}
use Rattle.host_io.specs.declared.limits.TheConstants.{FILES}
use Rattle.host_io.specs.Call.{Call, Wrote, Tore, Synced, Lost}
use Rattle.host_io.specs.Disk.{IsCut, IsWritten}
use Rattle.host_io.specs.DiskState.{FileState, fresh_file, settled, state_of, states, written}
use Rattle.host_io.specs.Image.{AreBytes, IsImage, IsPlace, IsRecord, MayFollow}
use Rattle.host_io.specs.Memory.{AreTold, IsTorn, Memory, call_of, told_behind}
use Rattle.host_io.specs.Outcome.{crash, crashed, next_pick, share}
use Rattle.host_io.proofs.OutcomeLemmas.{crash_images, crash_length}
use Rattle.host_io.proofs.StateLemmas.{IsSound, same_number, sound_of}

-- one entry more is one call more
pub told_push : (picks : List ℕ) (calls : List Call) (entries : List Entry) (entry : Entry)
    → told_behind picks calls (entries ++ entry ∷ [])
    ≡ call_of picks (told_behind picks calls entries) entry ∷ told_behind picks calls entries
told_push picks calls [] entry = refl
told_push picks calls (e ∷ entries) entry = told_push picks (call_of picks calls e ∷ calls) entries entry

-- the state of a file among all of them
pub state_at : (calls : List Call) (file : ℕ) (d : FileState) → file < FILES
    → get_or (states calls) file d ≡ state_of calls file
unfolding states
state_at calls file d here = get_or-map-range_with_len (state_of calls) 0 FILES file file d here (omega arith)

-- where one file alone changes
pub one_changed : (old new : ℕ → FileState) (file : ℕ) → file < FILES
    → ((other : ℕ) → (other ≡ file → ⊥) → new other ≡ old other)
    → set (map old (range_with_len 0 FILES)) file (new file) ≡ map new (range_with_len 0 FILES)
one_changed old new file here others =
    ext_get_or
    fresh_file
    (set (map old (range_with_len 0 FILES)) file (new file))
    (map new (range_with_len 0 FILES))
    (length-set (map old (range_with_len 0 FILES)) file (new file))
    (λ i below. by i (subst (λ (n : ℕ). i < n) (length-set (map old (range_with_len 0 FILES)) file (new file)) below)
    (cases_eq i file))
  where
    known : (state : ℕ → FileState) (i : ℕ) → i < FILES
        → get_or (map state (range_with_len 0 FILES)) i fresh_file ≡ state i
    known state i below = get_or-map-range_with_len state 0 FILES i i fresh_file below (omega arith)

    by : (i : ℕ) → i < FILES → (i ≡ file) ⊎ (i ≡ file → ⊥)
        → get_or (set (map old (range_with_len 0 FILES)) file (new file)) i fresh_file
        ≡ get_or (map new (range_with_len 0 FILES)) i fresh_file
    by i below (inl same) =
        subst
        (λ (k : ℕ).
        get_or (set (map old (range_with_len 0 FILES)) file (new file)) k fresh_file
        ≡ get_or (map new (range_with_len 0 FILES)) k fresh_file)
        (sym same)
        (get_or-set_same (map old (range_with_len 0 FILES)) file (new file) fresh_file here
        ∙ sym (known new file here))
    by i below (inr other) =
        get_or-set_other (map old (range_with_len 0 FILES)) file i (new file) fresh_file other
        ∙ known old i below
        ∙ sym (others i other)
        ∙ sym (known new i below)

pub chosen : (file : ℕ) (s changed : FileState) → (if file == file then changed else s) ≡ changed
chosen file s changed = ap (λ same. if same then changed else s) (same_number file)

pub left_alone : (file other : ℕ) (s changed : FileState) → (other ≡ file → ⊥)
    → (if file == other then changed else s) ≡ s
left_alone file other s changed apart =
    ap (λ same. if same then changed else s) (ne_eqb file other (λ same. apart (sym same)))

-- the files after a write, a torn one and a sync
pub written_states : (calls : List Call) (file at : ℕ) (bytes : List ℕ) → file < FILES
    → set (states calls) file (written (state_of calls file) at (length bytes) bytes)
    ≡ states (Wrote file at bytes ∷ calls)
unfolding states
written_states calls file at bytes here =
    subst
    (λ (s : FileState). set (states calls) file s ≡ states (Wrote file at bytes ∷ calls))
    (chosen file (state_of calls file) (written (state_of calls file) at (length bytes) bytes))
    (one_changed
    (state_of calls)
    (state_of (Wrote file at bytes ∷ calls))
    file
    here
    (λ other apart.
    left_alone file other (state_of calls other) (written (state_of calls other) at (length bytes) bytes) apart))

pub torn_states : (calls : List Call) (file at : ℕ) (asked piece : List ℕ) → file < FILES
    → set (states calls) file (written (state_of calls file) at (length asked) piece)
    ≡ states (Tore file at asked piece ∷ calls)
unfolding states
torn_states calls file at asked piece here =
    subst
    (λ (s : FileState). set (states calls) file s ≡ states (Tore file at asked piece ∷ calls))
    (chosen file (state_of calls file) (written (state_of calls file) at (length asked) piece))
    (one_changed
    (state_of calls)
    (state_of (Tore file at asked piece ∷ calls))
    file
    here
    (λ other apart.
    left_alone file other (state_of calls other) (written (state_of calls other) at (length asked) piece) apart))

pub synced_states : (calls : List Call) (file : ℕ) → file < FILES
    → set (states calls) file (settled (state_of calls file).bytes) ≡ states (Synced file ∷ calls)
unfolding states
synced_states calls file here =
    subst
    (λ (s : FileState). set (states calls) file s ≡ states (Synced file ∷ calls))
    (chosen file (state_of calls file) (settled (state_of calls file).bytes))
    (one_changed
    (state_of calls)
    (state_of (Synced file ∷ calls))
    file
    here
    (λ other apart. left_alone file other (state_of calls other) (settled (state_of calls other).bytes) apart))

-- the files after a cut of power
pub lost_states : (calls : List Call) (files : List (List ℕ)) → length files ≡ FILES
    → map settled files ≡ states (Lost files ∷ calls)
unfolding states
lost_states calls files size =
    ext_get_or
    fresh_file
    (map settled files)
    (states (Lost files ∷ calls))
    (length-map files settled ∙ size)
    (λ i below.
    let here : i < length files = omega (arith, below, length-map files settled) in
    get_or-map settled files i [] fresh_file here
    ∙ sym (state_at (Lost files ∷ calls) i fresh_file (omega (arith, here, size))))

pub crash_size : (calls : List Call) (picks : List ℕ) → length (crash (states calls) picks).files ≡ FILES
unfolding states
crash_size calls picks = crash_length (states calls) picks

-- what the picks leave of a disk may follow its record
pub crash_follows : (calls : List Call) (picks : List ℕ) → IsRecord calls → AreBytes picks
    → MayFollow calls (Lost (crash (states calls) picks).files)
unfolding states
crash_follows calls picks kept from = (
  crash_size calls picks,
  λ file here.
      subst
      (λ (s : FileState). IsImage s (get_or (crash (states calls) picks).files file []))
      (state_at calls file fresh_file here)
      (crash_images
      (states calls)
      picks
      (All-from_get_or
      IsSound
      (states calls)
      fresh_file
      (λ i below. subst IsSound (sym (state_at calls i fresh_file below)) (sound_of calls i kept below)))
      from
      file
      here),
)

-- one file more has crashed
pub record CrashesOn (files : List FileState) (i : ℕ) (picks : List ℕ) (new : List FileState) (left : List ℕ) : Type 0
  where
    pub whole
        : take (i + 1) new ++ map settled (crash (drop (i + 1) new) left).files
        ≡ take i files ++ map settled (crash (drop i files) picks).files
    pub rest : (crash (drop (i + 1) new) left).picks ≡ (crash (drop i files) picks).picks

pub crash_more : (files : List FileState) (i : ℕ) (picks : List ℕ) → i < length files
    → CrashesOn
    files
    i
    picks
    (set files i (settled (crashed (get_or files i fresh_file) picks).bytes))
    (crashed (get_or files i fresh_file) picks).picks
crash_more files i picks below =
    let f = get_or files i fresh_file in
    let one = settled (crashed f picks).bytes in
    record {
      whole =
          rw (
            take_more_set files i one below,
            drop-set-lt (i + 1) files i one (omega arith),
            drop_more files i fresh_file below,
          )
          (append_assoc
          (take i files)
          (one ∷ [])
          (map settled (crash (drop (i + 1) files) (crashed f picks).picks).files));
      rest = rw (drop-set-lt (i + 1) files i one (omega arith), drop_more files i fresh_file below);
    }

pub no_files : (files : List FileState) → files ≡ replicate FILES fresh_file → files ≡ states []
unfolding states
no_files files e = e

-- a share of a piece may follow too, and what a failed write leaves
pub tear_follows : (calls : List Call) (file at n : ℕ) (asked : List ℕ) → IsPlace file (at + length asked)
    → AreBytes asked → MayFollow calls (Tore file at asked (take n asked))
tear_follows calls file at n asked place are =
    (place, omega (arith, length-take n asked), All-take (λ byte. byte < 256) n asked are)

pub torn_written : (old new : Memory) (file at : ℕ) (asked : List ℕ) → IsTorn old new file at asked
    → IsWritten old.told (Some new.told) file at asked false
torn_written old new file at asked (inl none) = inl (ap (λ (s : Memory). Some s.told) none)
torn_written old new file at asked (inr some) =
    inr (
      take (share (length asked) (next_pick old.picks)) asked,
      record { grown = ap (λ (s : Memory). Some s.told) some.0; allowed = some.1 },
    )

-- what a cut of power adds to the record, and that the files are those of the record then
pub crash_added : (calls before now : List Call) (picks : List ℕ) → calls ≡ before → IsRecord calls → AreBytes picks
    → now ≡ Lost (crash (states calls) picks).files ∷ calls → IsCut before (Some now) false
crash_added calls before now picks same kept from noted =
    subst
    (λ (earlier : List Call). IsCut earlier (Some now) false)
    same (
      (crash (states calls) picks).files,
      record {
        grown = ap (λ (told : List Call). Some told) noted;
        allowed = crash_follows calls picks kept from;
      },
    )

pub crash_kept : (calls now : List Call) (picks : List ℕ) (files : List FileState) (spare : ℕ) → IsRecord calls
    → AreBytes picks → files ≡ map settled (crash (states calls) picks).files
    → now ≡ Lost (crash (states calls) picks).files ∷ calls → AreTold files now spare
crash_kept calls now picks files spare kept from left noted =
    subst
    (λ (told : List Call). AreTold files told spare)
    (sym noted) (
      ap length left ∙ length-map (crash (states calls) picks).files settled ∙ crash_size calls picks,
      left ∙ lost_states calls (crash (states calls) picks).files (crash_size calls picks),
      (crash_follows calls picks kept from, kept),
      λ uncut. absurd (true≢false uncut),
    )

-- so are they after a call that changed one file
pub call_kept : (calls earlier now : List Call) (call : Call) (files : List FileState) (file before spare : ℕ)
    (change : FileState → FileState) (old new : FileState) → AreTold files calls before → file < FILES
    → MayFollow calls call → set (states calls) file (change (state_of calls file)) ≡ states (call ∷ calls)
    → old ≡ get_or files file old → new ≡ change old → earlier ≡ calls → now ≡ call ∷ earlier → 0 < spare
    → AreTold (set files file new) now spare
call_kept calls earlier now call files file before spare change old new kept here may changed found made same noted room
    =
    subst
    (λ (told : List Call). AreTold (set files file new) told spare)
    (sym (noted ∙ ap (λ (told : List Call). call ∷ told) same)) (
      length-set files file new ∙ kept.0,
      ap (λ (state : FileState). set files file state) (made ∙ ap change state)
          ∙ ap (λ (all : List FileState). set all file (change (state_of calls file))) kept.1
          ∙ changed,
      (may, kept.2),
      λ uncut. room,
    )
  where
    state : old ≡ state_of calls file
    state = found ∙ ap (λ (all : List FileState). get_or all file old) kept.1 ∙ state_at calls file old here

-- what fits a byte is one
pub fitting_bytes : (bytes : List ℕ) → ((i : ℕ) → Fits w8 (get_or bytes i 0)) → AreBytes bytes
fitting_bytes bytes fits = All-from_get_or (λ byte. byte < 256) bytes 0 (λ i below. omega (arith, fits i))

-- a part of bytes are bytes
pub part_are_bytes : (n : ℕ) (asked : List ℕ) → AreBytes asked → AreBytes (take n asked)
part_are_bytes n asked are = All-take (λ byte. byte < 256) n asked are

pub ruleset failing = (torn_written)

pub ruleset writing = (written_states, state_at, set-get_or)

pub ruleset tearing = (torn_states, state_at, set-get_or, part_are_bytes, length-take)

pub ruleset settling = (synced_states, state_at)

pub ruleset losing = (lost_states, crash_size)
