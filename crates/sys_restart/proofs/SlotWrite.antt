-- Whatever a crash leaves while a slot is written to a file of which nothing is dirty.
use Rattle.std.proofs.Common.{◌≡◌, ◌∙◌, ◌⊎◌, ℕ, ◌+◌, ◌-◌, ◌≤◌, ◌<◌, Bool, List, ◌∷◌, ◌++◌, length, drop, refl, ap, sym, subst, arith, inl, inr}
use Rattle.std.specs.Prelude.{None, Some}
use Rattle.std.proofs.lemmas.Bool.{cases_lt}
use Rattle.host_io.specs.Call.{Call}
use Rattle.host_io.specs.DiskState.{FileState, settled, state_of}
use Rattle.host_io.specs.Image.{IsLeft, IsRecord}
use Rattle.host_io.specs.declared.limits.TheConstants.{FILES}
use Rattle.host_io.proofs.StateLemmas.{settled_is_kept}
use Rattle.sysfile_core.specs.declared.place.TheConstants.{OPEN}
use Rattle.sysfile_core.specs.Laws.{IsOldOrNew, IsWrite, MayBegin}
use Rattle.sysfile_core.specs.Places.{IsKept, slot_at}
use Rattle.sysfile_core.specs.Runs.{Runs}
use Rattle.sysfile_core.specs.Writing.{slot_calls, stands_closed}
use Rattle.sysfile_core.proofs.RunLemmas.{HoldsThrough, moments}
use Rattle.sysfile_core.proofs.SlotLemmas.{short_slot}
use Rattle.sysfile_core.proofs.WriteLemmas.{open_is_whole, other_stays}
use Rattle.sys_restart.specs.Files.{Files}
use Rattle.sys_restart.proofs.MomentLemmas.{AreOn, EndsWithin, end_kept, kept_through}
use Rattle.sys_restart.proofs.NextLemmas.{slot_on}

-- The bytes of an open slot are written at a place of a file, which has these bytes.
pub record IsSlotWrite (mid after : List Call) (ok : Bool) (file : ℕ) (old : List ℕ) (place : ℕ) (whole : List ℕ) : Type
    0 where
  pub kept : IsRecord mid
  pub there : file < FILES
  pub opened : OPEN ∷ drop 1 whole ≡ whole
  pub some : 1 < length whole
  pub settled_so : state_of mid file ≡ settled old
  pub runs : Runs (slot_calls old file place (drop 1 whole)) mid (Some after) ok

-- a moment of it, and what a crash leaves there
pub record IsMoment (mid after older : List Call) (image : Files) : Type 0 where
  pub newer : List Call
  pub split : after ≡ newer ++ older
  pub long : length mid ≤ length older
  pub left : IsLeft older image

-- what stands at the place: the new slot, or what stood there, or none
abbrev pub HasPlace : List ℕ → ℕ → List ℕ → List ℕ → Type 0
HasPlace old place whole image =
    (slot_at place (length whole) image ≡ None)
    ⊎ ((slot_at place (length whole) image ≡ Some whole)
    ⊎ (slot_at place (length whole) image ≡ slot_at place (length whole) old))

module _ (mid after older : List Call) (ok : Bool) (file : ℕ) (old : List ℕ) (place : ℕ) (whole : List ℕ)
    (image : Files)
    (write : IsSlotWrite mid after ok file old place whole) (moment : IsMoment mid after older image) where
  size_is : 1 + length (drop 1 whole) ≡ length whole
  size_is = omega (arith, ap length write.opened)

  pub is_write : IsWrite mid after ok file place (drop 1 whole)
  is_write = record {
    kept = write.kept;
    there = write.there;
    some = omega (arith, size_is, write.some);
    runs = subst (λ (bytes : List ℕ). Runs (slot_calls bytes file place (drop 1 whole)) mid (Some after) ok)
        (sym (ap (λ (s : FileState). s.bytes) write.settled_so)) write.runs;
  }

  may : MayBegin (state_of mid file) place (1 + length (drop 1 whole))
  may =
      subst (λ (s : FileState). MayBegin s place (1 + length (drop 1 whole))) (sym write.settled_so)
      (inr (λ at low high. (refl, cases_lt at (length old))))

  found : IsOldOrNew (settled old) place (length whole) whole (slot_at place (length whole) (image file))
  found =
      subst (λ (s : FileState). IsOldOrNew s place (length whole) whole (slot_at place (length whole) (image file)))
      write.settled_so
      (subst (λ (n : ℕ). IsOldOrNew (state_of mid file) place n whole (slot_at place n (image file))) size_is
      (subst
      (λ (bytes : List ℕ). IsOldOrNew (state_of mid file) place (1 + length (drop 1 whole)) bytes
      (slot_at place (1 + length (drop 1 whole)) (image file)))
      write.opened
      (open_is_whole mid after ok file place (drop 1 whole) is_write may moment.newer older moment.split moment.long
      image moment.left)))

  pub place_has : HasPlace old place whole (image file)
  place_has = by found
    where
      by : IsOldOrNew (settled old) place (length whole) whole (slot_at place (length whole) (image file))
          → HasPlace old place whole (image file)
      by (inl none) = inl none
      by (inr (inl new)) = inr (inl new)
      by (inr (inr (before, is, same))) =
          inr (inr (sym same ∙ ap (slot_at place (length whole)) (settled_is_kept old before is)))

  -- another place keeps what stands there, where the file reaches so far
  pub part_has : (other size : ℕ) → 0 < size → (other + size ≤ place) ⊎ (place + length whole ≤ other)
      → other + size ≤ length old → slot_at other size (image file) ≡ slot_at other size old
  part_has other size some apart within =
      let kept : IsKept (state_of mid file) other (other + size) =
      subst (λ (s : FileState). IsKept s other (other + size)) (sym write.settled_so)
      (record { synced = within; clean = λ at low high. refl }) in
      other_stays mid after ok file place (drop 1 whole) other size is_write
      (subst (λ (n : ℕ). (other + size ≤ place) ⊎ (place + n ≤ other)) (sym size_is) apart) some kept moment.newer older
      moment.split moment.long image moment.left
      ∙ ap (λ (s : FileState). slot_at other size s.bytes) write.settled_so

  -- and where it doesn't, none stands there before and after
  part_beyond : (other size : ℕ) → 0 < size → place + length whole ≤ other → length old < other + size
      → slot_at other size (image file) ≡ slot_at other size old
  part_beyond other size some apart short =
      let last = other + size - 1 in
      let calls = slot_calls old file place (drop 1 whole) in
      let are : AreOn file last calls =
      slot_on (stands_closed place old) file place last (drop 1 whole) (omega (arith, size_is, apart, some)) in
      let first : EndsWithin file last mid =
      subst (λ (s : FileState). length s.bytes ≤ last) (sym write.settled_so) (omega (arith, short)) in
      let through : HoldsThrough (EndsWithin file last) calls mid =
      kept_through file last (EndsWithin file last) calls mid (end_kept file last) are first in
      let here : EndsWithin file last older =
      moments (EndsWithin file last) calls mid after moment.newer older ok through write.runs moment.split moment.long
      in
      let ends = (moment.left file write.there).to_end in
      short_slot other size (image file) (omega (arith, here, ends, some)) ∙ sym (short_slot other size old short)

  -- so a place behind it is as it was, however long the file is
  pub part_behind : (other size : ℕ) → 0 < size → place + length whole ≤ other
      → slot_at other size (image file) ≡ slot_at other size old
  part_behind other size some apart =
      elim (cases_lt (length old) (other + size)) [
        | inl short ↦ part_beyond other size some apart short
        | inr within ↦ part_has other size some (inr apart) within
      ]

  -- the same of a slot of the same size
  pub other_has : (other : ℕ) → (other + length whole ≤ place) ⊎ (place + length whole ≤ other)
      → other + length whole ≤ length old
      → slot_at other (length whole) (image file) ≡ slot_at other (length whole) old
  other_has other apart within = part_has other (length whole) (omega (arith, write.some)) apart within

  pub behind_has : (other : ℕ) → place + length whole ≤ other
      → slot_at other (length whole) (image file) ≡ slot_at other (length whole) old
  behind_has other apart = part_behind other (length whole) (omega (arith, write.some)) apart
