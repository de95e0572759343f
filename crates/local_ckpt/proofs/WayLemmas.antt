-- A local checkpoint on its way: what is true at each moment of it.
use Rattle.std.proofs.Common.{◌≡◌, ◌≤◌, inl, inr, ℕ, Bool, true, false, cond, max, List, [], ◌∷◌, ◌++◌, length, refl}
use Rattle.std.proofs.Common.{sym, ap, ◌∙◌, subst, arith}
use Rattle.std.specs.Prelude.{nat_le, if◌then◌else◌, Option, None, Some}
use Rattle.std.specs.List.{AllByRecursion as Each, flat_map}
use Rattle.std.specs.FinMap as map
use Rattle.std.proofs.lemmas.Bool.Decides.{nat_tests}
use Rattle.sig_core.specs.declared.member.TxId.{TxId}
use Rattle.sig_core.specs.declared.redo.Redo.{Redo}
use Rattle.sig_core.specs.declared.redo.Redo.TheVariants as redo
use Rattle.sig_core.specs.declared.rows.PendingRecord.{PendingRecord}
use Rattle.sig_core.specs.Firsts.{first}
use Rattle.sig_core.specs.Rows.{RowsState, abort_record, commit_record, complete_record, is_of, storing}
use Rattle.sig_core.specs.Same.{same_key}
use Rattle.sig_core.specs.Table.{Rows}
use Rattle.sig_core.proofs.Keys.{same_key-swap}
use Rattle.sig_core.specs.declared.stored_row.StoredRow.{StoredRow}
use Rattle.sig_core.specs.Checkpoint.{head_bytes, row_bytes}
use Rattle.lcp_store.specs.Laws.{all_in}
use Rattle.redo_log.specs.Replaying.{applied, with_image}
use Rattle.local_ckpt.specs.Events.{Moment, log_if, noting_if, moment}
use Rattle.local_ckpt.specs.Laws.{HasPrepares, IsImage, IsReadable, pieces_bytes, last_image}
use Rattle.local_ckpt.specs.Orderly.{IsOrderly, image_in, prepared_in}
use Rattle.sig_core.specs.Walk.{noting}
use Rattle.local_ckpt.proofs.CoverLemmas.{Fits, HasCome, IsCovered, later_places, later_rows}
use Rattle.local_ckpt.proofs.EventLemmas.{LeavesRows, Prepared, Rewrites, aborts, commits, commits_row, completes}
use Rattle.local_ckpt.proofs.EventLemmas.{stores, stores_rows}
use Rattle.row_records.proofs.KeyLemmas.{same}
use Rattle.row_records.proofs.PlaceLemmas.{row_at}
use Rattle.local_ckpt.proofs.RecordLemmas.{by_record, commits_nothing, is_same}
use Rattle.local_ckpt.proofs.RedoLemmas.{get-with_image, over, redoing, redone}

-- the bytes of a checkpoint of these rows: of none there are none
abbrev pub checkpoint_bytes : List StoredRow → List ℕ
checkpoint_bytes [] = []
checkpoint_bytes (row ∷ rows) = head_bytes ++ flat_map row_bytes (row ∷ rows)

-- The rows are orderly and can be read, none of a later epoch than is noted; the log has what is prepared, and makes
-- nothing of the rows that they aren't. The rows up to an epoch are these, for each epoch from the noted one on. What
-- was written is where the walk has come to, and its bytes are those of the pieces.
pub record IsUnderWay (own : ℕ → Rows) (m : Moment) : Type 0 where
  pub orderly : IsOrderly m.rows
  pub readable : Each (IsReadable m.walk.epoch) m.rows.places
  pub images : (tx : TxId) (key : List ℕ) (image : Option (List ℕ)) → image_in m.rows tx key ≡ Some image
      → IsImage key image
  pub prepared : HasPrepares m.rows m.log
  pub fits : (epoch : ℕ) → m.walk.epoch ≤ epoch → (q : List ℕ) → Fits (redone epoch m.log q) (row_at m.rows.places q)
  pub up_to : (epoch : ℕ) → m.walk.epoch ≤ epoch → (q : List ℕ) → map.get (own epoch) q ≡ row_at m.rows.places q
  pub written : List StoredRow
  pub come : HasCome m.rows m.log m.walk.epoch m.walk.place written
  pub bytes_are : pieces_bytes m.pieces ≡ checkpoint_bytes written
  pub size_is : m.walk.size ≡ length (pieces_bytes m.pieces)

-- what a record makes of what the log has prepared
image_after : (b : Bool) (now old older : Option (Option (List ℕ))) (image : Option (List ℕ))
    → (old ≡ Some image → older ≡ Some image)
    → (if b then now else old) ≡ Some image → cond b now older ≡ Some image
image_after true now old older image more is = is
image_after false now old older image more is = more is

image_kept : (b : Bool) (old older : Option (Option (List ℕ))) (image : Option (List ℕ))
    → (old ≡ Some image → older ≡ Some image)
    → (if b then None else old) ≡ Some image → older ≡ Some image
image_kept true old older image more is = absurd cc
image_kept false old older image more is = more is

-- what is prepared after an event that is logged, and after one that isn't
pub has_after : (s after : RowsState) (log : List Redo) (tx : TxId) (key : List ℕ) (fragment : ℕ)
    (image : Option (List ℕ))
    → HasPrepares s log → Prepared s after tx key (Some image)
    → HasPrepares after (redo.Prepare tx fragment key image ∷ log)
has_after s after log tx key fragment image has is other key2 found there =
    image_after (is_same tx key other key2) (Some image) (image_in s other key2) (last_image log other key2) found
    (has other key2 found) (sym (is.images other key2) ∙ there)

pub has_committed : (s after : RowsState) (log : List Redo) (tx : TxId) (key : List ℕ) (epoch : ℕ)
    → HasPrepares s log → Prepared s after tx key None → HasPrepares after (redo.Commit tx epoch key ∷ log)
has_committed s after log tx key epoch has is other key2 found there =
    image_after (is_same tx key other key2) None (image_in s other key2) (last_image log other key2) found
    (has other key2 found) (sym (is.images other key2) ∙ there)

pub has_aborted : (s after : RowsState) (log : List Redo) (tx : TxId) (key : List ℕ)
    → HasPrepares s log → Prepared s after tx key None → HasPrepares after (redo.Abort tx key ∷ log)
has_aborted s after log tx key has is other key2 found there =
    image_after (is_same tx key other key2) None (image_in s other key2) (last_image log other key2) found
    (has other key2 found) (sym (is.images other key2) ∙ there)

pub has_still : (s after : RowsState) (log : List Redo) (tx : TxId) (key : List ℕ)
    → HasPrepares s log → Prepared s after tx key None → HasPrepares after log
has_still s after log tx key has is other key2 found there =
    image_kept (is_same tx key other key2) (image_in s other key2) (last_image log other key2) found
    (has other key2 found) (sym (is.images other key2) ∙ there)

module _ (own : ℕ → Rows) (m : Moment) (way : IsUnderWay own m) where
  -- the committed rows are left as they are, and the log says nothing else of them
  stays : (after : RowsState) (log : List Redo) → IsOrderly after → LeavesRows m.rows after → HasPrepares after log
      → ((tx : TxId) (key : List ℕ) (image : Option (List ℕ)) → image_in after tx key ≡ Some image → IsImage key image)
      → ((epoch : ℕ) (q : List ℕ) → redone epoch log q ≡ redone epoch m.log q)
      → IsUnderWay own (moment after log m.walk m.pieces)
  stays after log orderly leaves prepared images same = record {
    orderly = orderly;
    readable = leaves.readable m.walk.epoch way.readable;
    images = images;
    prepared = prepared;
    fits = λ epoch few q.
        subst (λ row. Fits (redone epoch log q) row) (sym (leaves.rows_are 0 q))
        (subst (λ found. Fits found (row_at m.rows.places q)) (sym (same epoch q)) (way.fits epoch few q));
    up_to = λ epoch few q. way.up_to epoch few q ∙ sym (leaves.rows_are 0 q);
    written = way.written;
    come =
        record {
          rows_are = way.come.rows_are;
          covered = λ epoch few q. covered epoch q
              (way.come.covered epoch few q);
        };
    bytes_are = way.bytes_are;
    size_is = way.size_is;
  }
    where
      covered : (epoch : ℕ) (q : List ℕ) → IsCovered m.rows epoch m.log m.walk.place way.written q
          → IsCovered after epoch log m.walk.place way.written q
      covered epoch q (inl (value, is)) = inl (value, leaves.rows_are m.walk.place q ∙ is)
      covered epoch q (inr is) =
          inr (ap (λ found. over found (map.get (all_in map.empty way.written) q)) (same epoch q) ∙ is ∙ sym
          (leaves.rows_are 0 q))

  pub prepares : (tx : TxId) (fragment : ℕ) (key : List ℕ) (image : Option (List ℕ)) → IsImage key image
      → IsUnderWay own
      (moment (storing m.rows tx key image) (redo.Prepare tx fragment key image ∷ m.log) m.walk m.pieces)
  prepares tx fragment key image good =
      let is = stores m.rows tx key image way.orderly in
      stays (storing m.rows tx key image) (redo.Prepare tx fragment key image ∷ m.log) is.orderly
      (stores_rows m.rows tx key image way.orderly)
      (has_after m.rows (storing m.rows tx key image) m.log tx key fragment image way.prepared is)
      (λ other key2 found there. good_too other key2 found (sym (is.images other key2) ∙ there))
      (λ epoch q. refl)
    where
      good_too : (other : TxId) (key2 : List ℕ) (found : Option (List ℕ))
          → (if is_same tx key other key2 then Some image else image_in m.rows other key2) ≡ Some found
          → IsImage key2 found
      good_too other key2 found =
          by_record tx other key key2
          (λ t k b. (if b then Some image else image_in m.rows t k) ≡ Some found → IsImage k found)
          (λ e. let one : image ≡ found = cc in subst (IsImage key) one good) (λ off. way.images other key2 found)

  ends : (after : RowsState) (log : List Redo) (tx : TxId) (key : List ℕ) → Prepared m.rows after tx key None
      → LeavesRows m.rows after
      → HasPrepares after log → ((epoch : ℕ) (q : List ℕ) → redone epoch log q ≡ redone epoch m.log q)
      → IsUnderWay own (moment after log m.walk m.pieces)
  ends after log tx key is leaves has same =
      stays after log is.orderly leaves has
      (λ other key2 found there. way.images other key2 found
      (image_kept (is_same tx key other key2) (image_in m.rows other key2) (image_in m.rows other key2) found (λ e. e)
      (sym (is.images other key2) ∙ there))) same

  pub gives_up : (tx : TxId) (key : List ℕ) (o : Option (Option (List ℕ))) → image_in m.rows tx key ≡ o
      → IsUnderWay own (moment (abort_record m.rows tx key) (log_if (redo.Abort tx key) o m.log) m.walk m.pieces)
  gives_up tx key None e =
      let is = aborts m.rows tx key way.orderly in
      ends (abort_record m.rows tx key) m.log tx key is.prepared is.leaves
      (has_still m.rows (abort_record m.rows tx key) m.log tx key way.prepared is.prepared) (λ epoch q. refl)
  gives_up tx key (Some image) e =
      let is = aborts m.rows tx key way.orderly in
      ends (abort_record m.rows tx key) (redo.Abort tx key ∷ m.log) tx key is.prepared is.leaves
      (has_aborted m.rows (abort_record m.rows tx key) m.log tx key way.prepared is.prepared) (λ epoch q. refl)

  pub is_done : (tx : TxId) (key : List ℕ) → IsUnderWay own
      (moment (complete_record m.rows tx key) m.log m.walk m.pieces)
  is_done tx key =
      let is = completes m.rows tx key way.orderly in
      stays (complete_record m.rows tx key) m.log is.orderly is.leaves
      (λ other key2 found there. way.prepared other key2 found (sym (is.images other key2) ∙ there))
      (λ other key2 found there. way.images other key2 found (sym (is.images other key2) ∙ there)) (λ epoch q. refl)

  -- what was prepared is committed
  module _ (tx : TxId) (key : List ℕ) (at : ℕ) (r : PendingRecord)
      (found : first (is_of tx key) m.rows.pending ≡ Some r) (begun : r.committed ≡ false) where
    image_is : image_in m.rows tx key ≡ Some r.image
    image_is = ap prepared_in found ∙ ap (λ b. if b then None else Some r.image) begun

    redone_is : (epoch : ℕ) → at ≤ epoch → (q : List ℕ) (b : Bool) → same_key key q ≡ b
        → redone epoch (redo.Commit tx at key ∷ m.log) q ≡ (if b then Some r.image else redone epoch m.log q)
    redone_is epoch few q b e =
        let now : nat_le at epoch ≡ true = grind (arith, nat_tests, few) in
        ap (λ image. redoing epoch (redo.Commit tx at key) image q (redone epoch m.log q))
        (way.prepared tx key r.image image_is)
        ∙ ap (λ c. if c then
        (if same_key q key then Some r.image else redone epoch m.log q) else redone epoch m.log q) now
        ∙ ap (λ c. if c then Some r.image else redone epoch m.log q) (same_key-swap q key ∙ e)

    up_to_is : (epoch : ℕ) → at ≤ epoch → (q : List ℕ) (b : Bool) → same_key key q ≡ b
        → map.get (applied epoch (redo.Commit tx at key) (Some r.image) (own epoch)) q ≡
        (if b then r.image else map.get (own epoch) q)
    up_to_is epoch few q b e =
        let now : nat_le at epoch ≡ true = grind (arith, nat_tests, few) in
        ap (λ c. map.get (if c then with_image (own epoch) key r.image else own epoch) q) now
        ∙ get-with_image (own epoch) key r.image q
        ∙ ap (λ c. if c then r.image else map.get (own epoch) q) (same_key-swap q key ∙ e)

    abbrev now_committed : RowsState
    now_committed = commit_record m.rows tx key at

    is_prepared : Prepared m.rows now_committed tx key None
    is_prepared = commits m.rows tx key at way.orderly r found begun

    is_rewritten : Rewrites m.rows now_committed key r.image at
    is_rewritten = commits_row m.rows tx key at way.orderly r found begun

    own_row : (q : List ℕ) → same_key key q ≡ true → row_at now_committed.places q ≡ r.image
    own_row q e = ap (row_at now_committed.places) (sym (same key q e)) ∙ is_rewritten.own

    covers : (epoch : ℕ) → at ≤ epoch → (q : List ℕ) (b : Bool) → same_key key q ≡ b
        → IsCovered m.rows epoch m.log m.walk.place way.written q
        → IsCovered now_committed epoch (redo.Commit tx at key ∷ m.log) m.walk.place way.written q
    covers epoch few q true e was =
        inr (ap (λ found. over found (map.get (all_in map.empty way.written) q)) (redone_is epoch few q true e) ∙ sym
        (own_row q e))
    covers epoch few q false e (inl (value, is)) = inl (value, is_rewritten.other m.walk.place q e ∙ is)
    covers epoch few q false e (inr is) =
        inr (ap (λ found. over found (map.get (all_in map.empty way.written) q)) (redone_is epoch few q false e) ∙ is
        ∙ sym (is_rewritten.other 0 q e))

    fits_now : (epoch : ℕ) → at ≤ epoch → (q : List ℕ) (b : Bool) → same_key key q ≡ b
        → Fits (redone epoch m.log q) (row_at m.rows.places q)
        → Fits (redone epoch (redo.Commit tx at key ∷ m.log) q) (row_at now_committed.places q)
    fits_now epoch few q true e was =
        subst (λ found. Fits found (row_at now_committed.places q)) (sym (redone_is epoch few q true e))
        (sym (own_row q e))
    fits_now epoch few q false e was =
        subst (λ found. Fits found (row_at now_committed.places q)) (sym (redone_is epoch few q false e))
        (subst (Fits (redone epoch m.log q)) (sym (is_rewritten.other 0 q e)) was)

    agrees : (epoch : ℕ) → at ≤ epoch → (q : List ℕ) (b : Bool) → same_key key q ≡ b
        → map.get (own epoch) q ≡ row_at m.rows.places q
        → map.get (applied epoch (redo.Commit tx at key) (Some r.image) (own epoch)) q ≡ row_at now_committed.places q
    agrees epoch few q true e was = up_to_is epoch few q true e ∙ sym (own_row q e)
    agrees epoch few q false e was = up_to_is epoch few q false e ∙ was ∙ sym (is_rewritten.other 0 q e)

    becomes_row : IsUnderWay (λ epoch. applied epoch (redo.Commit tx at key) (Some r.image) (own epoch))
        (moment now_committed (redo.Commit tx at key ∷ m.log) (noting m.walk at) m.pieces)
    becomes_row =
        let later : m.walk.epoch ≤ max m.walk.epoch at = omega arith in
        let noted : at ≤ max m.walk.epoch at = omega arith in
        record {
          orderly = is_prepared.orderly;
          readable = is_rewritten.readable (max m.walk.epoch at) noted (way.images tx key r.image image_is)
              (later_places m.walk.epoch (max m.walk.epoch at) m.rows.places later way.readable);
          images = λ other key2 image there. way.images other key2 image
              (image_kept (is_same tx key other key2) (image_in m.rows other key2) (image_in m.rows other key2) image
              (λ e. e) (sym (is_prepared.images other key2) ∙ there));
          prepared = has_committed m.rows now_committed m.log tx key at way.prepared is_prepared;
          fits =
              λ epoch few q. fits_now epoch (omega (arith, few)) q (same_key key q) refl
              (way.fits epoch (omega (arith, few)) q);
          up_to =
              λ epoch few q. agrees epoch (omega (arith, few)) q (same_key key q) refl
              (way.up_to epoch (omega (arith, few)) q);
          written = way.written;
          come = record {
            rows_are = later_rows m.walk.epoch (max m.walk.epoch at) way.written later way.come.rows_are;
            covered =
                λ epoch few q. covers epoch (omega (arith, few)) q (same_key key q) refl
                (way.come.covered epoch (omega (arith, few)) q);
          };
          bytes_are = way.bytes_are;
          size_is = way.size_is;
        }

  pub commit_way : (tx : TxId) (key : List ℕ) (at : ℕ) → (o : Option (Option (List ℕ))) → image_in m.rows tx key ≡ o
      → IsUnderWay (λ epoch. applied epoch (redo.Commit tx at key) o (own epoch))
      (moment (commit_record m.rows tx key at) (log_if (redo.Commit tx at key) o m.log)
      (noting_if m.walk at o) m.pieces)
  commit_way tx key at None e =
      subst (λ s. IsUnderWay own (moment s m.log m.walk m.pieces)) (sym (commits_nothing m.rows tx key at e)) way
  commit_way tx key at (Some image) e = by (first (is_of tx key) m.rows.pending) refl e
    where
      Wanted : Type 0
      Wanted = IsUnderWay (λ epoch. applied epoch (redo.Commit tx at key) (Some image) (own epoch))
          (moment (commit_record m.rows tx key at) (redo.Commit tx at key ∷ m.log) (noting m.walk at) m.pieces)

      by : (o : Option PendingRecord) → first (is_of tx key) m.rows.pending ≡ o → prepared_in o ≡ Some image → Wanted
      by None f is = absurd cc
      by (Some r) f is = open_one r.committed refl is
        where
          open_one : (b : Bool) → r.committed ≡ b → (if b then None else Some r.image) ≡ Some image → Wanted
          open_one true g is = absurd cc
          open_one false g is =
              let one : r.image ≡ image = cc in
              subst (λ w. IsUnderWay (λ epoch. applied epoch (redo.Commit tx at key) (Some w) (own epoch))
              (moment (commit_record m.rows tx key at) (redo.Commit tx at key ∷ m.log) (noting m.walk at) m.pieces)) one
              (becomes_row tx key at r f g)
