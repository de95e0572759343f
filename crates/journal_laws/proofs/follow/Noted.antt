-- No commit is later than what is noted: of those that the journal gave up, and of those whose records it has.
use Rattle.std.proofs.Common.{◌≡◌, ◌≤◌, ◌++◌, ℕ, Bool, true, false, nat_lt, List, [], ◌∷◌, refl, subst, arith}
use Rattle.std.proofs.lemmas.Bool.{ltb-false, ltb-true}
use Rattle.std.specs.Prelude.{if◌then◌else◌, Option, None, Some, is_some}
use Rattle.run_theory.specs.Lists.{Each}
use Rattle.run_theory.proofs.Pasts.{each_after, each_before}
use Rattle.sig_core.specs.declared.redo.Redo.{Redo}
use Rattle.sig_core.specs.declared.redo.Redo.TheVariants as redo
use Rattle.sig_core.specs.Rows.{RowsState}
use Rattle.local_ckpt.specs.Events.{Abort, Commit, Complete, Event, Prepare, Step, log_if, logged}
use Rattle.local_ckpt.specs.Orderly.{image_in}
use Rattle.lqh_saver.specs.Redo.{noted_from, noting}
use Rattle.lqh_saver.specs.State.{greater}
use Rattle.journal_laws.specs.Events.{AreUpTo, IsOfPrepared, IsUpTo, records_behind, rows_behind}
use Rattle.journal_laws.proofs.follow.Parsing.{in_turn, sized}
use Rattle.journal_laws.proofs.walks.Appending.{rows_append}

-- each of these commits something that was prepared
abbrev pub AreOfPrepared : RowsState → List Event → Type 0
AreOfPrepared s [] = Unit {0}
AreOfPrepared s (event ∷ older) = IsOfPrepared (Some event) (rows_behind s older) × AreOfPrepared s older

pub newer_prepared : (s : RowsState) (newer older : List Event) → AreOfPrepared s (newer ++ older)
    → AreOfPrepared (rows_behind s older) newer
newer_prepared s [] older all = tt
newer_prepared s (event ∷ newer) older all = (
  subst (IsOfPrepared (Some event)) (rows_append s newer older) all.0,
  newer_prepared s newer older all.1,
)

-- a record commits nothing later
abbrev pub CommitsUpTo : ℕ → Redo → Type 0
CommitsUpTo epoch (redo.Commit tx at key) = at ≤ epoch
CommitsUpTo epoch r = Unit {0}

greater_least : (one other : ℕ) → (one ≤ greater one other) × (other ≤ greater one other)
greater_least one other = by (nat_lt one other) refl
  where
    by : (b : Bool) → nat_lt one other ≡ b
        → (one ≤ (if b then other else one)) × (other ≤ (if b then other else one))
    by true is = (omega (arith, ltb-true one other is), omega arith)
    by false is = (omega arith, omega (arith, ltb-false one other is))

noting_least : (epoch : ℕ) (r : Redo) → (epoch ≤ noting epoch r) × CommitsUpTo (noting epoch r) r
noting_least epoch (redo.Prepare tx fragment key image) = (omega arith, tt)
noting_least epoch (redo.Commit tx at key) = greater_least epoch at
noting_least epoch (redo.Abort tx key) = (omega arith, tt)

later_commits : (one other : ℕ) (r : Redo) → one ≤ other → CommitsUpTo one r → CommitsUpTo other r
later_commits one other (redo.Prepare tx fragment key image) few up = tt
later_commits one other (redo.Commit tx at key) few up = omega (arith, few, up)
later_commits one other (redo.Abort tx key) few up = tt

pub noted_least : (epoch : ℕ) (records : List (Redo × ℕ)) → epoch ≤ noted_from epoch records
noted_least epoch [] = omega arith
noted_least epoch (found ∷ records) =
    omega (arith, (noting_least epoch found.0).0, noted_least (noting epoch found.0) records)

noted_all : (epoch : ℕ) (records : List (Redo × ℕ))
    → Each (λ (found : Redo × ℕ). CommitsUpTo (noted_from epoch records) found.0) records
noted_all epoch [] = tt
noted_all epoch (found ∷ records) = (
  later_commits (noting epoch found.0) (noted_from (noting epoch found.0) records) found.0
      (noted_least (noting epoch found.0) records) (noting_least epoch found.0).1,
  noted_all (noting epoch found.0) records,
)

in_turn_each : (P : Redo → Type 0) (log : List Redo) → Each (λ (found : Redo × ℕ). P found.0) (in_turn log)
    → Each P log
in_turn_each P [] all = tt
in_turn_each P (r ∷ older) all = (
  (each_after (λ (found : Redo × ℕ). P found.0) (in_turn older) (sized r ∷ []) all).0,
  in_turn_each P older (each_before (λ (found : Redo × ℕ). P found.0) (in_turn older) (sized r ∷ []) all),
)

module _ (epoch : ℕ) where
  one_if : (tx_record : Redo) (image : Option (Option (List ℕ))) (log : List Redo)
      → Each (CommitsUpTo epoch) (log_if tx_record image log) → Each (CommitsUpTo epoch) log
  one_if r None log all = all
  one_if r (Some image) log all = all.1

  own_if : (at : ℕ) (r : Redo) → (CommitsUpTo epoch r → at ≤ epoch) → (image : Option (Option (List ℕ)))
      → is_some image ≡ true → (log : List Redo) → Each (CommitsUpTo epoch) (log_if r image log) → at ≤ epoch
  own_if at r gives None some log all = absurd cc
  own_if at r gives (Some image) some log all = gives all.0

  one_up : (event : Event) (s : RowsState) (log : List Redo) → IsOfPrepared (Some event) s
      → Each (CommitsUpTo epoch) (logged event s log) → IsUpTo epoch event × Each (CommitsUpTo epoch) log
  one_up (Prepare tx fragment key image) s log of all = (tt, all.1)
  one_up (Commit tx key at) s log of all = (
    own_if at (redo.Commit tx at key) (λ up. up) (image_in s tx key) of log all,
    one_if (redo.Commit tx at key) (image_in s tx key) log all,
  )
  one_up (Abort tx key) s log of all = (tt, one_if (redo.Abort tx key) (image_in s tx key) log all)
  one_up (Complete tx key) s log of all = (tt, all)
  one_up Step s log of all = (tt, all)

  all_up : (s : RowsState) (events : List Event) → AreOfPrepared s events
      → Each (CommitsUpTo epoch) (records_behind s events) → AreUpTo epoch events
  all_up s [] of all = tt
  all_up s (event ∷ older) of all =
      let one = one_up event (rows_behind s older) (records_behind s older) of.0 all in
      (one.0, all_up s older of.1 one.1)

-- events of which the journal has all records commit nothing later than is noted of these
pub up_to_noted : (floor : ℕ) (s : RowsState) (events : List Event) → AreOfPrepared s events
    → AreUpTo (noted_from floor (in_turn (records_behind s events))) events
up_to_noted floor s events of =
    let log : List Redo = records_behind s events in
    let epoch : ℕ = noted_from floor (in_turn log) in
    all_up epoch s events of (in_turn_each (CommitsUpTo epoch) log (noted_all floor (in_turn log)))

-- of events and those before them
pub both_up : (epoch : ℕ) (newer older : List Event) → AreUpTo epoch newer → AreUpTo epoch older
    → AreUpTo epoch (newer ++ older)
both_up epoch [] older new old = old
both_up epoch (event ∷ newer) older new old = (new.0, both_up epoch newer older new.1 old)

pub older_up : (epoch : ℕ) (newer older : List Event) → AreUpTo epoch (newer ++ older) → AreUpTo epoch older
older_up epoch [] older up = up
older_up epoch (event ∷ newer) older up = older_up epoch newer older up.1
