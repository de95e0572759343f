-- A slot of a file is in use at one of two places, and another one is written at the other place: what is so of both
-- files of slots.
use Rattle.std.proofs.Common.{◌≡◌, ◌∙◌, ◌⊎◌, ℕ, zero, suc, ◌+◌, ◌-◌, ◌≤◌, ◌<◌, Bool, true, List, [], ◌∷◌, ◌++◌}
use Rattle.std.proofs.Common.{length, drop, refl, ap, sym, subst, arith, inl, inr}
use Rattle.std.specs.Prelude.{Option, None, Some, Result, Ok, if◌then◌else◌}
use Rattle.std.proofs.lemmas.Bool.{cases_lt, true≢false}
use Rattle.host_io.specs.Call.{Call, Synced, Wrote}
use Rattle.host_io.specs.declared.limits.TheConstants.{FILES}
use Rattle.host_io.specs.DiskState.{FileState, settled, state_of}
use Rattle.host_io.specs.Image.{IsImage, IsLeft, IsRecord, LeavesOnly}
use Rattle.host_io.proofs.StateLemmas.{reads_as_an_image, same_number, settled_is_kept}
use Rattle.redo_log.specs.Stored.{files_of}
use Rattle.sig_core.specs.declared.fault.ReadFault.{ReadFault}
use Rattle.sysfile_core.specs.declared.place.TheConstants.{OPEN, SLOT_SPACE}
use Rattle.sysfile_core.specs.Laws.{IsWrite}
use Rattle.sysfile_core.specs.Places.{place_of, slot_at}
use Rattle.sysfile_core.specs.Runs.{Runs}
use Rattle.sysfile_core.specs.Writing.{closing_by, opening, slot_calls, stands_closed}
use Rattle.sysfile_core.proofs.RunLemmas.{HoldsThrough, all_done, done, moments}
use Rattle.sysfile_core.proofs.SlotLemmas.{short_slot}
use Rattle.sysfile_core.proofs.WriteLemmas.{written_stays}
use Rattle.sys_restart.specs.Files.{Files}
use Rattle.sys_restart.proofs.MomentLemmas.{longer, moments_then, runs_record, runs_split, through_map}
use Rattle.sys_restart.proofs.NextLemmas.{slot_on}
use Rattle.sys_restart.proofs.SlotWrite.{IsMoment, IsSlotWrite, is_write, other_has, place_has}
use Rattle.node_disk.specs.Laws.{IsEither, IsSettledAt}
use Rattle.node_disk.proofs.CallLemmas.{AreElsewhere, elsewhere_done, elsewhere_through, same_record}

-- how the slots of a file are read: none at a place where none is open, and of two the one that the other is before
pub record AreRead (S : Type 0) (size : ℕ) (read_by : ℕ → Option (List ℕ) → Result (Option S) ReadFault)
    (in_use : List ℕ → Result (Option S) ReadFault) (Before : S → Option S → Type 0) : Type 0 where
  pub none_read : (place : ℕ) → read_by place None ≡ Ok None
  pub none_before : (slot : S) (other : Option S) → Before slot other → Before slot None
  pub latest :
      (slot : S) (which : ℕ) (bytes : List ℕ) (other : Option S) → which ≤ 1
      → read_by (place_of which) (slot_at (place_of which) size bytes) ≡ Ok (Some slot)
      → read_by (place_of (1 - which)) (slot_at (place_of (1 - which)) size bytes) ≡ Ok other → Before slot other
      → in_use bytes ≡ Ok (Some slot)
  pub alike :
      (a b : List ℕ) (which : ℕ) → which ≤ 1
      → read_by (place_of which) (slot_at (place_of which) size a)
      ≡ read_by (place_of which) (slot_at (place_of which) size b)
      → read_by (place_of (1 - which)) (slot_at (place_of (1 - which)) size a)
      ≡ read_by (place_of (1 - which)) (slot_at (place_of (1 - which)) size b)
      → in_use a ≡ in_use b

-- a slot stands at its place, and no crash changes it or what is at the other place
pub record Has (S : Type 0) (file size : ℕ) (read_by : ℕ → Option (List ℕ) → Result (Option S) ReadFault)
    (in_use : List ℕ → Result (Option S) ReadFault) (Before : S → Option S → Type 0) (slot : S) (which : ℕ)
    (calls : List Call) : Type 0 where
  pub kept : IsRecord calls
  pub clean : IsSettledAt calls file
  pub place : which ≤ 1
  pub stands : read_by (place_of which) (slot_at (place_of which) size (files_of calls file)) ≡ Ok (Some slot)
  pub other : Option S
  pub beside : read_by (place_of (1 - which)) (slot_at (place_of (1 - which)) size (files_of calls file)) ≡ Ok other
  pub used : in_use (files_of calls file) ≡ Ok (Some slot)
  pub alone : Before slot None

not_both : (S : Type 0) (slot : S) (found : Result (Option S) ReadFault) → found ≡ Ok None → found ≡ Ok (Some slot) → ⊥
not_both S slot found one other = cc

-- the last call that writes a slot settles its file
settled_last : (file : ℕ) (calls : List Call) → IsSettledAt (Synced file ∷ calls) file
settled_last file calls =
    subst
    (λ (b : Bool). (if b then settled (state_of calls file).bytes else state_of calls file)
    ≡ settled (if b then settled (state_of calls file).bytes else state_of calls file).bytes)
    (sym (same_number file)) refl

settled_by : (file place : ℕ) (stands : Bool) (body : List ℕ) (calls : List Call)
    → IsSettledAt (done (closing_by stands file place ∷ opening file place body) calls) file
settled_by file place stands body calls =
    settled_last file
    (Wrote file place (OPEN ∷ []) ∷ Synced file ∷ Wrote file (place + 1) body ∷ Synced file
    ∷ closing_by stands file place ∷ calls)

-- of two places one is the other's other
twice : (which : ℕ) → which ≤ 1 → 1 - (1 - which) ≡ which
twice which place = omega (arith, place)

module _ (S : Type 0) (file size : ℕ) (there : file < FILES) (some : 1 < size) (small : size ≤ SLOT_SPACE)
    (read_by : ℕ → Option (List ℕ) → Result (Option S) ReadFault) (in_use : List ℕ → Result (Option S) ReadFault)
    (Before : S → Option S → Type 0) (are : AreRead S size read_by in_use Before) where
  abbrev pub read_at : ℕ → List ℕ → Result (Option S) ReadFault
  read_at which bytes = read_by (place_of which) (slot_at (place_of which) size bytes)

  abbrev pub InUse : S → ℕ → List Call → Type 0
  InUse slot which calls = Has S file size read_by in_use Before slot which calls

  -- each image of a moment at which the file is as it was has the slot in use
  abbrev pub FindsEither : S → S → List Call → Type 0
  FindsEither slot new moment = (image : Files) → IsLeft moment image → IsEither (in_use (image file)) slot new

  as_before : (slot new : S) (which : ℕ) (before : List Call) → InUse slot which before → (moment : List Call)
      → state_of moment file ≡ state_of before file → FindsEither slot new moment
  as_before slot new which before has moment same image left =
      let found : IsImage (settled (files_of before file)) (image file) =
      subst (λ (s : FileState). IsImage s (image file)) (same ∙ has.clean) (left file there) in
      let is : image file ≡ files_of before file = settled_is_kept (files_of before file) (image file) found in
      inl (ap in_use is ∙ has.used)

  -- a slot that is open reaches into the file
  reaches : (slot : S) (which : ℕ) (bytes : List ℕ) → read_at which bytes ≡ Ok (Some slot)
      → place_of which + size ≤ length bytes
  reaches slot which bytes stands =
      elim (cases_lt (length bytes) (place_of which + size)) [
        | inr within ↦ within
        | inl short ↦
            absurd (not_both S slot (read_at which bytes)
            (ap (read_by (place_of which)) (short_slot (place_of which) size bytes short)
            ∙ are.none_read (place_of which)) stands)
      ]

  apart : (which : ℕ) → which ≤ 1
      → (place_of which + size ≤ place_of (1 - which)) ⊎ (place_of (1 - which) + size ≤ place_of which)
  apart zero place = inl (omega (arith, small))
  apart (suc zero) place = inr (omega (arith, small))
  apart (suc (suc n)) place = absurd (omega (arith, place))

  -- Another slot is written.
  module _ (slot new : S) (which : ℕ) (whole : List ℕ) (before mid after : List Call) (ok : Bool)
      (has : InUse slot which before) (opened : OPEN ∷ drop 1 whole ≡ whole) (long : length whole ≡ size)
      (read : (place : ℕ) → read_by place (Some whole) ≡ Ok (Some new)) (follows : Before new (Some slot))
      (kept : IsRecord mid) (same : state_of mid file ≡ state_of before file)
      (runs :
      Runs (slot_calls (files_of before file) file (place_of (1 - which)) (drop 1 whole)) mid (Some after) ok) where
    abbrev pub old : List ℕ
    old = files_of before file

    abbrev pub free : ℕ
    free = 1 - which

    abbrev pub write_calls : List Call
    write_calls = slot_calls old file (place_of free) (drop 1 whole)

    write : IsSlotWrite mid after ok file old (place_of free) whole
    write = record {
      kept = kept;
      there = there;
      opened = opened;
      some = omega (arith, long, some);
      settled_so = same ∙ has.clean;
      runs = runs;
    }

    -- the one in use stays at each moment
    stays : (older : List Call) (image : Files) → IsMoment mid after older image
        → read_at which (image file) ≡ Ok (Some slot)
    stays older image moment =
        let within : place_of which + length whole ≤ length old =
        subst (λ (n : ℕ). place_of which + n ≤ length old) (sym long) (reaches slot which old has.stands) in
        let away =
        subst (λ (n : ℕ). (place_of which + n ≤ place_of free) ⊎ (place_of free + n ≤ place_of which)) (sym long)
        (apart which has.place) in
        ap (read_by (place_of which))
        (subst (λ (n : ℕ). slot_at (place_of which) n (image file) ≡ slot_at (place_of which) n old) long
        (other_has mid after older ok file old (place_of free) whole image write moment (place_of which) away within))
        ∙ has.stands

    stays_beside : (older : List Call) (image : Files) → IsMoment mid after older image
        → read_at (1 - free) (image file) ≡ Ok (Some slot)
    stays_beside older image moment =
        subst (λ (w : ℕ). read_at w (image file) ≡ Ok (Some slot)) (sym (twice which has.place))
        (stays older image moment)

    -- and at the other place is the new one, the one that was there, or none
    pub finds : (older : List Call) (image : Files) → IsMoment mid after older image
        → IsEither (in_use (image file)) slot new
    finds older image moment =
        by (subst (λ (n : ℕ). (slot_at (place_of free) n (image file) ≡ None)
        ⊎ ((slot_at (place_of free) n (image file) ≡ Some whole)
        ⊎ (slot_at (place_of free) n (image file) ≡ slot_at (place_of free) n old))) long
        (place_has mid after older ok file old (place_of free) whole image write moment))
      where
        stand : read_at which (image file) ≡ Ok (Some slot)
        stand = stays older image moment

        by : (slot_at (place_of free) size (image file) ≡ None)
            ⊎ ((slot_at (place_of free) size (image file) ≡ Some whole)
            ⊎ (slot_at (place_of free) size (image file) ≡ slot_at (place_of free) size old))
            → IsEither (in_use (image file)) slot new
        by (inl none) =
            inl (are.latest slot which (image file) None has.place stand
            (ap (read_by (place_of free)) none ∙ are.none_read (place_of free))
            has.alone)
        by (inr (inl one)) =
            inr (are.latest new free (image file) (Some slot) (omega arith)
            (ap (read_by (place_of free)) one ∙ read (place_of free)) (stays_beside older image moment) follows)
        by (inr (inr as_old)) =
            inl (are.alike (image file) old which has.place (stand ∙ sym has.stands)
            (ap (read_by (place_of free)) as_old)
            ∙ has.used)

    -- once it is written it is in use
    pub in_use_then : ok ≡ true → InUse new free after
    in_use_then so = record {
      kept = kept_then;
      clean = subst (λ (calls : List Call). IsSettledAt calls file) (sym is)
          (settled_by file (place_of free) (stands_closed (place_of free) old) (drop 1 whole) mid);
      place = omega arith;
      stands = stand;
      other = Some slot;
      beside = beside;
      used = are.latest new free (files_of after file) (Some slot) (omega arith) stand beside follows;
      alone = are.none_before new (Some slot) follows;
    }
      where
        all : Runs write_calls mid (Some after) true
        all = subst (λ (b : Bool). Runs write_calls mid (Some after) b) so runs

        is : after ≡ done write_calls mid
        is = all_done write_calls mid after all

        kept_then : IsRecord after
        kept_then = subst IsRecord (sym is) (runs_record write_calls mid (Some after) all kept)

        last : IsMoment mid after after (files_of after)
        last = record {
          newer = [];
          split = refl;
          long = subst (λ (calls : List Call). length mid ≤ length calls) (sym is) (longer write_calls mid);
          left = reads_as_an_image after kept_then;
        }

        written : slot_at (place_of free) size (files_of after file) ≡ Some whole
        written =
            subst (λ (n : ℕ). slot_at (place_of free) n (files_of after file) ≡ Some whole)
            (omega (arith, ap length opened, long))
            (subst (λ (w : List ℕ). slot_at (place_of free) (1 + length (drop 1 whole)) (files_of after file) ≡ Some w)
            opened
            (written_stays mid after file (place_of free) (drop 1 whole)
            (subst (λ (b : Bool). IsWrite mid after b file (place_of free) (drop 1 whole)) so
            (is_write mid after after ok file old (place_of free) whole (files_of after) write last))).1)

        stand : read_at free (files_of after file) ≡ Ok (Some new)
        stand = ap (read_by (place_of free)) written ∙ read (place_of free)

        beside : read_at (1 - free) (files_of after file) ≡ Ok (Some slot)
        beside = stays_beside after (files_of after) last

  -- Calls on other files are made, and then the slot is written.
  module _ (slot new : S) (which : ℕ) (whole : List ℕ) (asks before after : List Call) (ok : Bool)
      (has : InUse slot which before) (opened : OPEN ∷ drop 1 whole ≡ whole) (long : length whole ≡ size)
      (read : (place : ℕ) → read_by place (Some whole) ≡ Ok (Some new)) (follows : Before new (Some slot))
      (elsewhere : AreElsewhere file asks)
      (runs :
      Runs (asks ++ slot_calls (files_of before file) file (place_of (1 - which)) (drop 1 whole)) before (Some after)
      ok) where
    abbrev pub then_calls : List Call
    then_calls = slot_calls (files_of before file) file (place_of (1 - which)) (drop 1 whole)

    unmoved : HoldsThrough (λ moment. state_of moment file ≡ state_of before file) asks before
    unmoved = elsewhere_through file asks before (state_of before file) elsewhere refl

    same_then : state_of (done asks before) file ≡ state_of before file
    same_then = elsewhere_done file asks before elsewhere

    pub finds_either : LeavesOnly after (length before) (λ image. IsEither (in_use (image file)) slot new)
    finds_either newer older split longer_than =
        moments_then (FindsEither slot new) file (place_of (1 - which) + (1 + length (drop 1 whole))) asks then_calls
        before after newer older ok
        (through_map (λ moment. state_of moment file ≡ state_of before file) (FindsEither slot new) asks before
        (as_before slot new which before has) unmoved)
        (slot_on (stands_closed (place_of (1 - which)) (files_of before file)) file (place_of (1 - which))
        (place_of (1 - which) + (1 + length (drop 1 whole))) (drop 1 whole) (omega arith))
        (λ first second late image left.
        finds slot new which whole before (done asks before) after ok has opened long read follows
        (runs_record asks before (Some (done asks before)) first has.kept) same_then second older image
        (record { newer = newer; split = split; long = late; left = left }))
        runs split longer_than

    pub has_then : ok ≡ true → InUse new (1 - which) after
    has_then so =
        elim (runs_split asks then_calls before (Some after) ok runs) [
          | inl stopped ↦ absurd (true≢false (sym so ∙ stopped.1))
          | inr both ↦
              in_use_then slot new which whole before (done asks before) after ok has opened long read follows
              (runs_record asks before (Some (done asks before)) both.0 has.kept) same_then both.1 so
        ]

  -- Nothing is written.
  pub finds_none : (slot new : S) (which : ℕ) (before after : List Call) (ok : Bool) → InUse slot which before
      → Runs [] before (Some after) ok
      → LeavesOnly after (length before) (λ image. IsEither (in_use (image file)) slot new)
  finds_none slot new which before after ok has runs newer older split long =
      moments (FindsEither slot new) [] before after newer older ok (as_before slot new which before has before refl)
      runs split long

  pub has_still : (slot : S) (which : ℕ) (before after : List Call) (ok : Bool) → InUse slot which before
      → Runs [] before (Some after) ok → InUse slot which after
  has_still slot which before after ok has runs =
      subst (InUse slot which) (sym (same_record after before runs.0)) has
