-- What holds at every moment of calls that are made one after the other.
use Rattle.std.proofs.Common.{◌≡◌, ◌∙◌, ◌⊎◌, ℕ, suc, ◌≤◌, Bool, true, List, [], ◌∷◌, ◌++◌, length, drop, refl, ap, sym}
use Rattle.std.proofs.Common.{subst, arith, inl, inr, append_assoc, length-append}
use Rattle.std.specs.Prelude.{Some}
use Rattle.std.proofs.lemmas.Bool.{cases_lt, true≢false}
use Rattle.std.proofs.lemmas.List.{drop_at}
use Rattle.host_io.specs.Call.{Call, Wrote, Tore, Synced, Lost}
use Rattle.sysfile_core.specs.Runs.{Runs}

-- It holds of a record, and after each of the calls that are asked for, also where a write has laid down another piece.
abbrev pub HoldsThrough : (List Call → Type 0) → List Call → List Call → Type 0
HoldsThrough Holds [] calls = Holds calls
HoldsThrough Holds (Wrote file at bytes ∷ asks) calls =
    Holds calls
    × (((piece : List ℕ) → length piece ≤ length bytes → Holds (Tore file at bytes piece ∷ calls))
    × HoldsThrough Holds asks (Wrote file at bytes ∷ calls))
HoldsThrough Holds (Synced file ∷ asks) calls = Holds calls × HoldsThrough Holds asks (Synced file ∷ calls)
HoldsThrough Holds (Tore file at asked piece ∷ asks) calls = ⊥
HoldsThrough Holds (Lost files ∷ asks) calls = ⊥

-- the end of a record that is as long as the record is the record
whole_end : (calls newer older : List Call) → calls ≡ newer ++ older → length calls ≤ length older → older ≡ calls
whole_end calls [] older split long = sym split
whole_end calls (call ∷ newer) older split long =
    let size : length calls ≡ suc (length (newer ++ older)) = ap length split in
    absurd (omega (arith, size, length-append newer older, long))

-- the ends of a record with one call more
next_end : (call : Call) (calls newer older : List Call) → call ∷ calls ≡ newer ++ older → length calls ≤ length older
    → (older ≡ call ∷ calls) ⊎ (older ≡ calls)
next_end call calls [] older split long = inl (sym split)
next_end call calls (new ∷ newer) older split long = inr (whole_end calls newer older (ap (drop 1) split) long)

-- two ends of one record are the same where they are as long
same_end : (one other : List Call) (a b : List Call) → one ++ a ≡ other ++ b → length a ≡ length b → a ≡ b
same_end one other a b split size =
    let sizes : length (one ++ a) ≡ length (other ++ b) = ap length split in
    let fronts : length other ≡ length one = omega (arith, sizes, size, length-append one a, length-append other b) in
    sym (drop_at one a (length one) refl) ∙ ap (drop (length one)) split ∙ drop_at other b (length one) fronts

same_record : (one other : List Call) → Some one ≡ Some other → one ≡ other
same_record one other same = cc

-- the calls come in front of the record
grown : (asks calls after : List Call) (ok : Bool) → Runs asks calls (Some after) ok
    → (more : List Call) × (after ≡ more ++ calls)
grown [] calls after ok runs = ([], same_record after calls runs.0)
grown (Wrote file at bytes ∷ asks) calls after ok (inl (inl none, not_so)) = ([], same_record after calls none)
grown (Wrote file at bytes ∷ asks) calls after ok (inl (inr (piece, added), not_so)) =
    (Tore file at bytes piece ∷ [], same_record after (Tore file at bytes piece ∷ calls) added.grown)
grown (Wrote file at bytes ∷ asks) calls after ok (inr (may, runs)) =
    let rest = grown asks (Wrote file at bytes ∷ calls) after ok runs in
    (rest.0 ++ Wrote file at bytes ∷ [], rest.1 ∙ sym (append_assoc rest.0 (Wrote file at bytes ∷ []) calls))
grown (Synced file ∷ asks) calls after ok (inl (none, not_so)) = ([], same_record after calls none)
grown (Synced file ∷ asks) calls after ok (inr (may, runs)) =
    let rest = grown asks (Synced file ∷ calls) after ok runs in
    (rest.0 ++ Synced file ∷ [], rest.1 ∙ sym (append_assoc rest.0 (Synced file ∷ []) calls))
grown (Tore file at asked piece ∷ asks) calls after ok (inl (none, not_so)) = absurd none
grown (Tore file at asked piece ∷ asks) calls after ok (inr (may, runs)) =
    let rest = grown asks (Tore file at asked piece ∷ calls) after ok runs in
    (rest.0 ++ Tore file at asked piece ∷ [], rest.1 ∙ sym (append_assoc rest.0 (Tore file at asked piece ∷ []) calls))
grown (Lost files ∷ asks) calls after ok (inl (none, not_so)) = absurd none
grown (Lost files ∷ asks) calls after ok (inr (may, runs)) =
    let rest = grown asks (Lost files ∷ calls) after ok runs in
    (rest.0 ++ Lost files ∷ [], rest.1 ∙ sym (append_assoc rest.0 (Lost files ∷ []) calls))

-- so it gets no shorter
pub run_longer : (asks calls after : List Call) (ok : Bool) → Runs asks calls (Some after) ok
    → length calls ≤ length after
run_longer asks calls after ok runs =
    let (more, is) = grown asks calls after ok runs in
    let size : length after ≡ length (more ++ calls) = ap length is in
    omega (arith, size, length-append more calls)

-- a moment of a run is its beginning, or comes behind its first call
next_moment : (call : Call) (calls asks after newer older : List Call) (ok : Bool)
    → Runs asks (call ∷ calls) (Some after) ok
    → after ≡ newer ++ older → length calls ≤ length older → (older ≡ calls) ⊎ (length (call ∷ calls) ≤ length older)
next_moment call calls asks after newer older ok runs split long =
    elim (cases_lt (length calls) (length older)) [
      | inl longer ↦ inr (omega (arith, longer))
      | inr as_long ↦ inl (by (grown asks (call ∷ calls) after ok runs) as_long)
    ]
  where
    by : (more : List Call) × (after ≡ more ++ (call ∷ calls)) → length older ≤ length calls → older ≡ calls
    by (more, is) as_long =
        same_end newer (more ++ call ∷ []) older calls
        (sym split ∙ is ∙ sym (append_assoc more (call ∷ []) calls))
        (omega (arith, long, as_long))

-- what holds through a run holds at each of its moments
pub moments : (Holds : List Call → Type 0) (asks calls after newer older : List Call) (ok : Bool)
    → HoldsThrough Holds asks calls → Runs asks calls (Some after) ok → after ≡ newer ++ older
    → length calls ≤ length older → Holds older
moments Holds [] calls after newer older ok holds (none, all_so) split long =
    let same = same_record after calls none in
    subst Holds (sym (whole_end calls newer older (sym same ∙ split) long)) holds
moments Holds (Wrote file at bytes ∷ asks) calls after newer older ok holds (inl (inl none, not_so)) split long =
    let same = same_record after calls none in
    subst Holds (sym (whole_end calls newer older (sym same ∙ split) long)) holds.0
moments Holds (Wrote file at bytes ∷ asks) calls after newer older ok holds
    (inl (inr (piece, added), not_so)) split long =
    let same = same_record after (Tore file at bytes piece ∷ calls) added.grown in
    elim (next_end (Tore file at bytes piece) calls newer older (sym same ∙ split) long) [
      | inl torn ↦ subst Holds (sym torn) (holds.1.0 piece added.allowed.1)
      | inr begun ↦ subst Holds (sym begun) holds.0
    ]
moments Holds (Wrote file at bytes ∷ asks) calls after newer older ok holds (inr (may, runs)) split long =
    elim (next_moment (Wrote file at bytes) calls asks after newer older ok runs split long) [
      | inl begun ↦ subst Holds (sym begun) holds.0
      | inr behind ↦ moments Holds asks (Wrote file at bytes ∷ calls) after newer older ok holds.1.1 runs split behind
    ]
moments Holds (Synced file ∷ asks) calls after newer older ok holds (inl (none, not_so)) split long =
    let same = same_record after calls none in
    subst Holds (sym (whole_end calls newer older (sym same ∙ split) long)) holds.0
moments Holds (Synced file ∷ asks) calls after newer older ok holds (inr (may, runs)) split long =
    elim (next_moment (Synced file) calls asks after newer older ok runs split long) [
      | inl begun ↦ subst Holds (sym begun) holds.0
      | inr behind ↦ moments Holds asks (Synced file ∷ calls) after newer older ok holds.1 runs split behind
    ]
moments Holds (Tore file at asked piece ∷ asks) calls after newer older ok holds runs split long = absurd holds
moments Holds (Lost files ∷ asks) calls after newer older ok holds runs split long = absurd holds

-- the record after calls that all succeeded
abbrev pub done : List Call → List Call → List Call
done [] calls = calls
done (ask ∷ asks) calls = done asks (ask ∷ calls)

pub all_done : (asks calls after : List Call) → Runs asks calls (Some after) true → after ≡ done asks calls
all_done [] calls after runs = same_record after calls runs.0
all_done (ask ∷ asks) calls after (inl (fails, not_so)) = absurd (true≢false not_so)
all_done (ask ∷ asks) calls after (inr (may, runs)) = all_done asks (ask ∷ calls) after runs
