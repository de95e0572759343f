-- Where nothing was committed later than an epoch, what is committed up to it are the rows.
use Rattle.std.proofs.Common.{◌≡◌, ◌≤◌, List, [], ◌∷◌, ℕ, Bool, true, false, refl, sym, ap, ◌∙◌, arith}
use Rattle.std.specs.Prelude.{if◌then◌else◌, nat_le, Option, None, Some}
use Rattle.std.specs.FinMap as map
use Rattle.std.proofs.lemmas.Bool.Decides.{nat_tests}
use Rattle.sig_core.specs.declared.member.TxId.{TxId}
use Rattle.sig_core.specs.declared.redo.Redo.TheVariants as redo
use Rattle.sig_core.specs.declared.rows.PendingRecord.{PendingRecord}
use Rattle.sig_core.specs.Firsts.{first}
use Rattle.sig_core.specs.Rows.{RowsState, commit_record, is_of}
use Rattle.sig_core.specs.Same.{same_key}
use Rattle.sig_core.specs.Table.{Rows}
use Rattle.sig_core.proofs.Keys.{same_key-swap}
use Rattle.redo_log.specs.Replaying.{applied, with_image}
use Rattle.local_ckpt.specs.Events.{Abort, Commit, Complete, Event, Prepare, Step, changed, left_by}
use Rattle.local_ckpt.specs.Orderly.{IsOrderly, prepared_in}
use Rattle.local_ckpt.proofs.EventLemmas.{Rewrites, aborts, commits_row, completes, stores_rows}
use Rattle.local_ckpt.proofs.RecordLemmas.{commits_nothing}
use Rattle.local_ckpt.proofs.RedoLemmas.{get-with_image}
use Rattle.row_records.proofs.KeyLemmas.{same}
use Rattle.row_records.proofs.PlaceLemmas.{row_at, row_of-at}
use Rattle.journal_laws.specs.Events.{AreUpTo, IsUpTo, own_behind, rows_behind}
use Rattle.journal_laws.specs.Laws.{OwnRowsAreTheRows}
use Rattle.journal_laws.proofs.replays.Replays.{orderly_behind}

-- the table has the rows of the places
abbrev AreRows : Rows → RowsState → Type 0
AreRows own s = (q : List ℕ) → map.get own q ≡ row_at s.places q

module _ (epoch : ℕ) (own : Rows) (s : RowsState) (is : IsOrderly s) (are : AreRows own s) where
  -- what was prepared is committed
  module _ (tx : TxId) (key : List ℕ) (at : ℕ) (few : at ≤ epoch) (r : PendingRecord)
      (found : first (is_of tx key) s.pending ≡ Some r) (begun : r.committed ≡ false) where
    abbrev now : RowsState
    now = commit_record s tx key at

    rewritten : Rewrites s now key r.image at
    rewritten = commits_row s tx key at is r found begun

    own_now : (q : List ℕ) (b : Bool) → same_key key q ≡ b
        → (if b then r.image else map.get own q) ≡ row_at now.places q
    own_now q true e = sym (ap (row_at now.places) (sym (same key q e)) ∙ rewritten.own)
    own_now q false e = are q ∙ sym (rewritten.other 0 q e)

    becomes_row : AreRows (applied epoch (redo.Commit tx at key) (Some r.image) own) now
    becomes_row q =
        let early : nat_le at epoch ≡ true = grind (arith, nat_tests, few) in
        ap (λ b. map.get (if b then with_image own key r.image else own) q) early ∙ get-with_image own key r.image q
        ∙ ap (λ b. if b then r.image else map.get own q) (same_key-swap q key) ∙ own_now q (same_key key q) refl

  commit_row : (tx : TxId) (key : List ℕ) (at : ℕ) → at ≤ epoch → (o : Option PendingRecord)
      → first (is_of tx key) s.pending ≡ o
      → AreRows (applied epoch (redo.Commit tx at key) (prepared_in o) own) (commit_record s tx key at)
  commit_row tx key at few o found = by o found
    where
      nothing : prepared_in (first (is_of tx key) s.pending) ≡ None → AreRows own (commit_record s tx key at)
      nothing none q = are q ∙ ap (λ t. row_at t.places q) (sym (commits_nothing s tx key at none))

      by : (o : Option PendingRecord) → first (is_of tx key) s.pending ≡ o
          → AreRows (applied epoch (redo.Commit tx at key) (prepared_in o) own) (commit_record s tx key at)
      by None found = nothing (ap prepared_in found)
      by (Some r) found = if_done r.committed refl
        where
          if_done : (b : Bool) → r.committed ≡ b
              → AreRows (applied epoch (redo.Commit tx at key) (if b then None else Some r.image) own)
              (commit_record s tx key at)
          if_done true done = nothing (ap prepared_in found ∙ ap (λ b. if b then None else Some r.image) done)
          if_done false begun = becomes_row tx key at few r found begun

  -- behind an event they are the rows still
  rows_more : (event : Event) → IsUpTo epoch event → AreRows (left_by epoch event s own) (changed event s)
  rows_more (Prepare tx fragment key image) few q = are q ∙ sym ((stores_rows s tx key image is).rows_are 0 q)
  rows_more (Commit tx key at) few q = commit_row tx key at few (first (is_of tx key) s.pending) refl q
  rows_more (Abort tx key) few q = are q ∙ sym ((aborts s tx key is).leaves.rows_are 0 q)
  rows_more (Complete tx key) few q = are q ∙ sym ((completes s tx key is).leaves.rows_are 0 q)
  rows_more Step few q = are q

module _ (s : RowsState) (before : Rows) (epoch : ℕ) (is : IsOrderly s) (are : AreRows before s) where
  rows_all : (events : List Event) → AreUpTo epoch events
      → AreRows (own_behind epoch s before events) (rows_behind s events)
  rows_all [] up = are
  rows_all (event ∷ older) up =
      rows_more epoch (own_behind epoch s before older) (rows_behind s older) (orderly_behind s older is)
      (rows_all older up.1) event up.0

pub own_rows : OwnRowsAreTheRows
own_rows s before events epoch is none table up key =
    rows_all s before epoch is (λ q. table q ∙ row_of-at s q) events up key ∙ sym (row_of-at (rows_behind s events) key)
