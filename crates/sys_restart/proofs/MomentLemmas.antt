-- What calls on one file of a disk leave, and what holds at each moment of calls of which some come behind others.
use Rattle.std.proofs.Common.{◌≡◌, ◌∙◌, ◌⊎◌, ℕ, ◌+◌, ◌≤◌, ◌<◌, ◌==◌, Bool, true, false, List, [], ◌∷◌, ◌++◌, drop, length, length-append, suc, refl, ap, sym, subst, arith, inl, inr, if◌then◌else◌}
use Rattle.std.specs.Prelude.{Option, Some}
use Rattle.std.proofs.lemmas.Bool.{cases_lt, true≢false}
use Rattle.host_io.specs.Call.{Call, Lost, Synced, Tore, Wrote}
use Rattle.host_io.specs.DiskState.{FileState, settled, state_of, written}
use Rattle.host_io.specs.Image.{IsRecord}
use Rattle.host_io.proofs.FileLemmas.{laid_ends}
use Rattle.host_io.proofs.StateLemmas.{same_number}
use Rattle.sysfile_core.specs.Runs.{Runs}
use Rattle.sysfile_core.proofs.RunLemmas.{HoldsThrough, done, moments, run_longer}

-- calls that come behind others: either one of the others failed, or they were all made
pub runs_split : (asks more calls : List Call) (told : Option (List Call)) (ok : Bool)
    → Runs (asks ++ more) calls told ok
    → (Runs asks calls told false × (ok ≡ false))
    ⊎ (Runs asks calls (Some (done asks calls)) true × Runs more (done asks calls) told ok)
runs_split [] more calls told ok runs = inr ((refl, refl), runs)
runs_split (ask ∷ asks) more calls told ok (inl (fails, not_so)) = inl (inl (fails, refl), not_so)
runs_split (ask ∷ asks) more calls told ok (inr (may, runs)) =
    elim (runs_split asks more (ask ∷ calls) told ok runs) [
      | inl stopped ↦ inl (inr (may, stopped.0), stopped.1)
      | inr both ↦ inr (inr (may, both.0), both.1)
    ]

-- a record that keeps to the model goes on so
pub runs_record : (asks calls : List Call) (told : Option (List Call)) → Runs asks calls told true → IsRecord calls
    → IsRecord (done asks calls)
runs_record [] calls told runs kept = kept
runs_record (ask ∷ asks) calls told (inl (fails, not_so)) kept = absurd (true≢false not_so)
runs_record (ask ∷ asks) calls told (inr (may, runs)) kept = runs_record asks (ask ∷ calls) told runs (may, kept)

pub longer : (asks calls : List Call) → length calls ≤ length (done asks calls)
longer [] calls = omega arith
longer (ask ∷ asks) calls = omega (arith, longer asks (ask ∷ calls))

pub done_then : (asks more calls : List Call) → done (asks ++ more) calls ≡ done more (done asks calls)
done_then [] more calls = refl
done_then (ask ∷ asks) more calls = done_then asks more (ask ∷ calls)

pub through_then : (Holds : List Call → Type 0) (asks more calls : List Call) → HoldsThrough Holds asks calls
    → HoldsThrough Holds more (done asks calls) → HoldsThrough Holds (asks ++ more) calls
through_then Holds [] more calls first second = second
through_then Holds (Wrote file at bytes ∷ asks) more calls first second =
    (first.0, (first.1.0, through_then Holds asks more (Wrote file at bytes ∷ calls) first.1.1 second))
through_then Holds (Synced file ∷ asks) more calls first second =
    (first.0, through_then Holds asks more (Synced file ∷ calls) first.1 second)
through_then Holds (Tore file at asked piece ∷ asks) more calls first second = absurd first
through_then Holds (Lost files ∷ asks) more calls first second = absurd first

-- writes to a file and syncs of it, each write ending within it
abbrev pub AreOn : ℕ → ℕ → List Call → Type 0
AreOn file end [] = Unit {0}
AreOn file end (Wrote to at bytes ∷ asks) = (to ≡ file) × ((at + length bytes ≤ end) × AreOn file end asks)
AreOn file end (Synced to ∷ asks) = (to ≡ file) × AreOn file end asks
AreOn file end (Tore to at asked piece ∷ asks) = ⊥
AreOn file end (Lost files ∷ asks) = ⊥

pub on_then : (file end : ℕ) (asks more : List Call) → AreOn file end asks → AreOn file end more
    → AreOn file end (asks ++ more)
on_then file end [] more are behind = behind
on_then file end (Wrote to at bytes ∷ asks) more are behind =
    (are.0, (are.1.0, on_then file end asks more are.1.1 behind))
on_then file end (Synced to ∷ asks) more are behind = (are.0, on_then file end asks more are.1 behind)
on_then file end (Tore to at asked piece ∷ asks) more are behind = absurd are
on_then file end (Lost files ∷ asks) more are behind = absurd are

-- it holds through such calls where it holds of a record, and each of them keeps it
pub record IsKeptBy (file end : ℕ) (Holds : List Call → Type 0) : Type 0 where
  pub by_write :
      (calls : List Call) (at : ℕ) (bytes : List ℕ) → at + length bytes ≤ end → Holds calls
      → Holds (Wrote file at bytes ∷ calls)
  pub by_tear :
      (calls : List Call) (at : ℕ) (asked piece : List ℕ) → length piece ≤ length asked → at + length asked ≤ end
      → Holds calls → Holds (Tore file at asked piece ∷ calls)
  pub by_sync : (calls : List Call) → Holds calls → Holds (Synced file ∷ calls)

pub kept_through : (file end : ℕ) (Holds : List Call → Type 0) (asks calls : List Call) → IsKeptBy file end Holds
    → AreOn file end asks → Holds calls → HoldsThrough Holds asks calls
kept_through file end Holds [] calls by are holds = holds
kept_through file end Holds (Wrote to at bytes ∷ asks) calls by (same, (fits, are)) holds = (
  holds,
  (
    λ piece few.
        subst (λ (f : ℕ). Holds (Tore f at bytes piece ∷ calls)) (sym same)
        (by.by_tear calls at bytes piece few fits holds),
    kept_through file end Holds asks (Wrote to at bytes ∷ calls) by are
        (subst (λ (f : ℕ). Holds (Wrote f at bytes ∷ calls)) (sym same) (by.by_write calls at bytes fits holds)),
  ),
)
kept_through file end Holds (Synced to ∷ asks) calls by (same, are) holds = (
  holds,
  kept_through file end Holds asks (Synced to ∷ calls) by are
      (subst (λ (f : ℕ). Holds (Synced f ∷ calls)) (sym same) (by.by_sync calls holds)),
)
kept_through file end Holds (Tore to at asked piece ∷ asks) calls by are holds = absurd are
kept_through file end Holds (Lost files ∷ asks) calls by are holds = absurd are

-- and it holds in the end
pub kept_in_the_end : (file end : ℕ) (Holds : List Call → Type 0) (asks calls : List Call) → IsKeptBy file end Holds
    → AreOn file end asks → Holds calls → Holds (done asks calls)
kept_in_the_end file end Holds [] calls by are holds = holds
kept_in_the_end file end Holds (Wrote to at bytes ∷ asks) calls by (same, (fits, are)) holds =
    kept_in_the_end file end Holds asks (Wrote to at bytes ∷ calls) by are
    (subst (λ (f : ℕ). Holds (Wrote f at bytes ∷ calls)) (sym same) (by.by_write calls at bytes fits holds))
kept_in_the_end file end Holds (Synced to ∷ asks) calls by (same, are) holds =
    kept_in_the_end file end Holds asks (Synced to ∷ calls) by are
    (subst (λ (f : ℕ). Holds (Synced f ∷ calls)) (sym same) (by.by_sync calls holds))
kept_in_the_end file end Holds (Tore to at asked piece ∷ asks) calls by are holds = absurd are
kept_in_the_end file end Holds (Lost files ∷ asks) calls by are holds = absurd are

-- another file is as it was
abbrev pub LeavesElse : ℕ → ℕ → FileState → List Call → Type 0
LeavesElse file other s calls = (file == other) ≡ false → state_of calls other ≡ s

pub else_kept : (file other end : ℕ) (s : FileState) → IsKeptBy file end (LeavesElse file other s)
else_kept file other end s = record {
  by_write = λ calls at bytes fits holds apart.
      ap (λ (b : Bool). if b then written (state_of calls other) at (length bytes) bytes else state_of calls other)
      apart
      ∙ holds apart;
  by_tear = λ calls at asked piece few fits holds apart.
      ap (λ (b : Bool). if b then written (state_of calls other) at (length asked) piece else state_of calls other)
      apart
      ∙ holds apart;
  by_sync = λ calls holds apart.
      ap (λ (b : Bool). if b then settled (state_of calls other).bytes else state_of calls other) apart ∙ holds apart;
}

-- the file itself doesn't grow beyond an end
abbrev pub EndsWithin : ℕ → ℕ → List Call → Type 0
EndsWithin file end calls = length (state_of calls file).bytes ≤ end

pub end_kept : (file end : ℕ) → IsKeptBy file end (EndsWithin file end)
end_kept file end = record {
  by_write = λ calls at bytes fits holds.
      subst (λ (b : Bool). length (if b then written (state_of calls file) at (length bytes) bytes else state_of calls
      file).bytes ≤ end)
      (sym (same_number file))
      (laid_ends at end bytes (state_of calls file).bytes holds fits);
  by_tear = λ calls at asked piece few fits holds.
      subst (λ (b : Bool). length (if b then written (state_of calls file) at (length asked) piece else state_of calls
      file).bytes ≤ end)
      (sym (same_number file))
      (laid_ends at end piece (state_of calls file).bytes holds (omega (arith, few, fits)));
  by_sync = λ calls holds.
      subst (λ (b : Bool). length (if b then settled (state_of calls file).bytes else state_of calls file).bytes ≤ end)
      (sym (same_number file)) holds;
}

-- what holds through calls, and what follows from it
pub through_map : (Holds Follows : List Call → Type 0) (asks calls : List Call)
    → ((moment : List Call) → Holds moment → Follows moment)
    → HoldsThrough Holds asks calls → HoldsThrough Follows asks calls
through_map Holds Follows [] calls follow holds = follow calls holds
through_map Holds Follows (Wrote file at bytes ∷ asks) calls follow holds = (
  follow calls holds.0,
  (
    λ piece few. follow (Tore file at bytes piece ∷ calls) (holds.1.0 piece few),
    through_map Holds Follows asks (Wrote file at bytes ∷ calls) follow holds.1.1,
  ),
)
through_map Holds Follows (Synced file ∷ asks) calls follow holds =
    (follow calls holds.0, through_map Holds Follows asks (Synced file ∷ calls) follow holds.1)
through_map Holds Follows (Tore file at asked piece ∷ asks) calls follow holds = absurd holds
through_map Holds Follows (Lost files ∷ asks) calls follow holds = absurd holds

-- the record is as long as it was, or longer
abbrev IsLong : ℕ → List Call → Type 0
IsLong bound calls = bound ≤ length calls

long_kept : (file end bound : ℕ) → IsKeptBy file end (IsLong bound)
long_kept file end bound = record {
  by_write = λ calls at bytes fits holds. omega (arith, holds);
  by_tear = λ calls at asked piece few fits holds. omega (arith, holds);
  by_sync = λ calls holds. omega (arith, holds);
}

-- it holds of each record that is shorter
abbrev HoldsBelow : (List Call → Type 0) → ℕ → List Call → Type 0
HoldsBelow Holds bound moment = length moment < bound → Holds moment

-- It holds at each moment of calls of which some come behind others: at those of the first ones, and at those of the
-- others once the first are made.
pub moments_then : (Holds : List Call → Type 0) (file end : ℕ) (asks more calls after newer older : List Call)
    (ok : Bool)
    → HoldsThrough Holds asks calls → AreOn file end more
    → (Runs asks calls (Some (done asks calls)) true → Runs more (done asks calls) (Some after) ok
    → length (done asks calls) ≤ length older → Holds older)
    → Runs (asks ++ more) calls (Some after) ok → after ≡ newer ++ older → length calls ≤ length older → Holds older
moments_then Holds file end asks more calls after newer older ok first are behind runs split long =
    elim (runs_split asks more calls (Some after) ok runs) [
      | inl stopped ↦ moments Holds asks calls after newer older false first stopped.0 split long
      | inr both ↦
          elim (cases_lt (length older) (length (done asks calls))) [
            | inl early ↦ below early
            | inr later ↦ behind both.0 both.1 later
          ]
    ]
  where
    bound : ℕ
    bound = length (done asks calls)

    late : HoldsThrough (HoldsBelow Holds bound) more (done asks calls)
    late =
        through_map (IsLong bound) (HoldsBelow Holds bound) more (done asks calls)
        (λ moment at_least less. absurd (omega (arith, at_least, less)))
        (kept_through file end (IsLong bound) more (done asks calls) (long_kept file end bound) are (omega arith))

    all : HoldsThrough (HoldsBelow Holds bound) (asks ++ more) calls
    all =
        through_then (HoldsBelow Holds bound) asks more calls
        (through_map Holds (HoldsBelow Holds bound) asks calls (λ moment holds less. holds) first)
        late

    below : length older < bound → Holds older
    below = moments (HoldsBelow Holds bound) (asks ++ more) calls after newer older ok all runs split long

-- a moment of calls: they end at it or go on behind it
pub record IsAmong (asks calls older : List Call) : Type 0 where
  pub after : List Call
  pub ok : Bool
  pub newer : List Call
  pub runs : Runs asks calls (Some after) ok
  pub split : after ≡ newer ++ older

-- a record that came in front of another
abbrev GrewFrom : List Call → List Call → Type 0
GrewFrom first moment = (more : List Call) × (moment ≡ more ++ first)

grew_kept : (file end : ℕ) (first : List Call) → IsKeptBy file end (GrewFrom first)
grew_kept file end first = record {
  by_write = λ calls at bytes fits holds.
      (Wrote file at bytes ∷ holds.0, ap (λ rest. Wrote file at bytes ∷ rest) holds.1);
  by_tear = λ calls at asked piece few fits holds.
      (Tore file at asked piece ∷ holds.0, ap (λ rest. Tore file at asked piece ∷ rest) holds.1);
  by_sync = λ calls holds. (Synced file ∷ holds.0, ap (λ rest. Synced file ∷ rest) holds.1);
}

-- an end of a record that is no longer than another end is an end of that
shorter_end : (newer more older first : List Call) → newer ++ older ≡ more ++ first → length older ≤ length first
    → (rest : List Call) × (first ≡ rest ++ older)
shorter_end newer [] older first same few = (newer, sym same)
shorter_end [] (call ∷ more) older first same few =
    let size : length older ≡ suc (length (more ++ first)) = ap length same in
    absurd (omega (arith, size, length-append more first, few))
shorter_end (one ∷ newer) (call ∷ more) older first same few =
    shorter_end newer more older first (ap (drop 1) same) few

-- A moment of calls of which some come behind others is one of the first ones, or of the others once the first are
-- made.
pub split_moment : (file end : ℕ) (asks more calls after newer older : List Call) (ok : Bool) → AreOn file end more
    → Runs (asks ++ more) calls (Some after) ok → after ≡ newer ++ older
    → IsAmong asks calls older
    ⊎ (Runs asks calls (Some (done asks calls)) true × Runs more (done asks calls) (Some after) ok
    × (length (done asks calls) ≤ length older))
split_moment file end asks more calls after newer older ok are runs split =
    elim (runs_split asks more calls (Some after) ok runs) [
      | inl stopped ↦
          inl (record { after = after; ok = false; newer = newer; runs = stopped.0; split = split })
      | inr both ↦
          elim (cases_lt (length (done asks calls)) (length older)) [
            | inl later ↦ inr (both.0, both.1, omega (arith, later))
            | inr early ↦ inl (early_one both.0 both.1 early)
          ]
    ]
  where
    early_one : Runs asks calls (Some (done asks calls)) true → Runs more (done asks calls) (Some after) ok
        → length older ≤ length (done asks calls) → IsAmong asks calls older
    early_one made behind early =
        let (grew, is) =
        moments (GrewFrom (done asks calls)) more (done asks calls) after [] after ok
        (kept_through file end (GrewFrom (done asks calls)) more (done asks calls)
        (grew_kept file end (done asks calls)) are ([], refl))
        behind refl (run_longer more (done asks calls) after ok behind) in
        let (rest, ends) = shorter_end newer grew older (done asks calls) (sym split ∙ is) early in
        record { after = done asks calls; ok = true; newer = rest; runs = made; split = ends }
