-- A journal that has room for what it has used and for what it keeps free has it whatever becomes of its records.
use Rattle.std.proofs.Common.{◌≡◌, ◌≤◌, ℕ, ◌+◌, Bool, true, false, List, length, refl, arith}
use Rattle.std.specs.Prelude.{Option, None, Some}
use Rattle.std.proofs.lemmas.Bool.{ltb-false}
use Rattle.sig_core.specs.declared.journal.TheConstants.{JOURNAL_BYTES}
use Rattle.sig_core.specs.declared.member.TxId.{TxId}
use Rattle.sig_core.specs.declared.redo.Redo.TheVariants as redo
use Rattle.sig_core.specs.Journal.{JournalState, OutletState}
use Rattle.sig_core.specs.Redo.{size_of}
use Rattle.sig_core.specs.Rows.{RowsState, complete_record, record_state}
use Rattle.frag_map.specs.Fragment.{frag_of}
use Rattle.lqh_block.specs.Due.{IsCovered}
use Rattle.lqh_block.specs.Storage.{StorageState, aborted_in, committed_in, end_size, is_log_full, need_of}
use Rattle.lqh_block.specs.Storage.{prepare_size, prepared_in, prepared_journal}
use Rattle.lqh_block.proofs.DueLemmas.{abort_fits, commit_fits, covered_abort, covered_commit, covered_complete}
use Rattle.lqh_block.proofs.DueLemmas.{covered_store}
use Rattle.journal_laws.proofs.room.Sizes.{left_behind}

-- All bytes that are to be given out were used; there is room for them, and for what is kept free; and that is enough
-- for the ends of all prepared records.
pub record HasRoom (rows : RowsState) (journal : JournalState) (outlet : OutletState) : Type 0 where
  pub used : length outlet.left ≤ journal.used
  pub room : journal.used + journal.reserved ≤ JOURNAL_BYTES
  pub covered : IsCovered rows journal

abbrev pub StorageHasRoom : StorageState → Type 0
StorageHasRoom s = HasRoom s.rows s.journal s.outlet

enough : (j : JournalState) (tx : TxId) (key : List ℕ) (image : Option (List ℕ))
    → is_log_full j (need_of tx key image) ≡ false
    → j.used + j.reserved + (prepare_size tx key image + end_size tx key) ≤ JOURNAL_BYTES
enough j tx key image free = ltb-false JOURNAL_BYTES (j.used + j.reserved + need_of tx key image) free

-- an image whose record and end have room takes no more than these
fits : (j : JournalState) (tx : TxId) (key : List ℕ) (image : Option (List ℕ)) (had : Option Bool)
    → j.used + j.reserved ≤ JOURNAL_BYTES → is_log_full j (need_of tx key image) ≡ false
    → (prepared_journal j tx key image had).used + (prepared_journal j tx key image had).reserved ≤ JOURNAL_BYTES
fits j tx key image None room free = omega (arith, enough j tx key image free)
fits j tx key image (Some true) room free = omega (arith, enough j tx key image free)
fits j tx key image (Some false) room free = omega (arith, enough j tx key image free)

uses : (j : JournalState) (tx : TxId) (key : List ℕ) (image : Option (List ℕ)) (had : Option Bool)
    → (prepared_journal j tx key image had).used ≡ j.used + prepare_size tx key image
uses j tx key image None = refl
uses j tx key image (Some true) = refl
uses j tx key image (Some false) = refl

-- a record's size is the same in each fragment
same_size : (tx : TxId) (fragment : ℕ) (key : List ℕ) (image : Option (List ℕ))
    → size_of (redo.Prepare tx fragment key image) ≡ prepare_size tx key image
unfolding size_of
same_size tx fragment key image = refl

module _ (s : StorageState) (tx : TxId) (key : List ℕ) (has : StorageHasRoom s) where
  pub prepared_has : (image : Option (List ℕ)) → is_log_full s.journal (need_of tx key image) ≡ false
      → StorageHasRoom (prepared_in s tx key image)
  prepared_has image free =
      let had : Option Bool = record_state s.rows tx key in
      record {
        used =
            omega (
              arith,
              has.used,
              left_behind s.outlet (redo.Prepare tx (frag_of s.shape key) key image),
              uses s.journal tx key image had,
              same_size tx (frag_of s.shape key) key image,
            );
        room = fits s.journal tx key image had has.room free;
        covered = covered_store s.rows s.journal tx key image has.covered;
      }

  pub committed_has : (epoch : ℕ) → record_state s.rows tx key ≡ Some false
      → StorageHasRoom (committed_in s tx key epoch)
  unfolding committed_in
  committed_has epoch had = record {
    used = omega (arith, has.used, left_behind s.outlet (redo.Commit tx epoch key));
    room = omega (arith, has.room, commit_fits s.rows s.journal tx key epoch has.covered had);
    covered = covered_commit s.rows s.journal tx key epoch has.covered had;
  }

  pub aborted_has : record_state s.rows tx key ≡ Some false → StorageHasRoom (aborted_in s tx key)
  unfolding aborted_in
  aborted_has had = record {
    used = omega (arith, has.used, left_behind s.outlet (redo.Abort tx key));
    room = omega (arith, has.room, abort_fits s.rows s.journal tx key has.covered had);
    covered = covered_abort s.rows s.journal tx key has.covered had;
  }

  pub completed_has : HasRoom (complete_record s.rows tx key) s.journal s.outlet
  completed_has = record {
    used = has.used;
    room = has.room;
    covered = covered_complete s.rows s.journal tx key has.covered;
  }
