-- Requests that are performed at a replica, key by key.
use Rattle.std.proofs.Common.{◌≡◌, ℕ, Bool, true, false, ◌||◌, List, refl, ap, ◌∙◌}
use Rattle.std.specs.Prelude.{if◌then◌else◌, Option, None, Some}
use Rattle.sig_core.specs.declared.member.Member.{Member}
use Rattle.sig_core.specs.declared.member.TxId.{TxId}
use Rattle.sig_core.specs.declared.op.Answer.{Answer}
use Rattle.sig_core.specs.declared.op.Answer.TheVariants.{Done, Found, Missing, E626, E630}
use Rattle.sig_core.specs.declared.op.Op.{Op}
use Rattle.sig_core.specs.declared.rows.PendingRecord.{PendingRecord}
use Rattle.sig_core.specs.declared.signal.chain.RowWork.{RowWork}
use Rattle.sig_core.specs.declared.signal.chain.RowWork.TheVariants.{Operate, Store}
use Rattle.sig_core.specs.Op.{answer_to, image_of, key_of}
use Rattle.sig_core.specs.Rows as rows
use Rattle.sig_core.specs.Rows.{RowsState, is_full, record_of, row_of, seen}
use Rattle.sig_core.specs.Same.{same_key}
use Rattle.row_records.proofs.KeyLemmas.{same}
use Rattle.lqh_block.proofs.LqhForms.{perform_forms}
use Rattle.lqh_block.specs.declared.request.Request.{Request}
use Rattle.lqh_block.specs.Storage as storage
use Rattle.lqh_block.specs.Storage.{StorageState}
use Rattle.sig_core.specs.Work.{work_key}
use Rattle.key_laws.specs.Placed.{IsPlaced}
use Rattle.key_laws.specs.Records.{found, seen_by}
use Rattle.key_laws.specs.Replica.{cell_at, is_refused, operated, storing, worked}
use Rattle.key_laws.proofs.EpochLemmas.{record_in_cell, without}
use Rattle.key_laws.proofs.CellsAt.{cell-storing, either_cell, placed-storing}

-- the row as a transaction sees it
pub seen-cell : (s : RowsState) (tx : TxId) (key : List ℕ)
    → seen s tx key ≡ seen_by (cell_at key s).row (found tx (cell_at key s).pending)
unfolding seen
seen-cell s tx key = by (record_of s tx key)
    ∙ ap (seen_by (row_of s key)) (record_in_cell s tx key)
  where
    by : (o : Option PendingRecord) → rows.seen_by s key o ≡ seen_by (row_of s key) (without o)
    by None = refl
    by (Some r) = refl

-- a request that is performed
stored_cell : (s : StorageState) (tx : TxId) (key : List ℕ) (image : Option (List ℕ)) (chain : List Member) (at : ℕ)
    (q : List ℕ) (log full : Bool)
    → cell_at q (storage.store_if s tx key image chain at log full).state.rows
    ≡ (if same_key key q then storing (cell_at q s.rows) tx key image (log || full) else cell_at q s.rows)
stored_cell s tx key image chain at q true full = either_cell (same_key key q) (cell_at q s.rows)
stored_cell s tx key image chain at q false true = either_cell (same_key key q) (cell_at q s.rows)
stored_cell s tx key image chain at q false false = cell-storing s.rows tx key image q

store_cell : (s : StorageState) (tx : TxId) (key : List ℕ) (image : Option (List ℕ)) (chain : List Member) (at : ℕ)
    (q : List ℕ)
    → cell_at q (storage.store_row s tx key image chain at).state.rows
    ≡ (if same_key key q then storing (cell_at q s.rows) tx key image
    (storage.is_log_full s.journal (storage.need_of tx key image) || is_full s.rows key) else cell_at q s.rows)
unfolding storage.store_row
store_cell s tx key image chain at q = stored_cell s tx key image chain
    at q (storage.is_log_full s.journal (storage.need_of tx key image)) (is_full s.rows key)

operate_cell : (s : StorageState) (tx : TxId) (op : Op) (chain : List Member) (at : ℕ) (q : List ℕ) (answer : Answer)
    → cell_at q (storage.operate_by s tx op chain at answer).state.rows
    ≡ (if same_key (key_of op) q then operated (cell_at q s.rows) tx op
    (storage.is_log_full s.journal (storage.need_of tx (key_of op) (image_of op)) || is_full s.rows (key_of op)) answer
    else cell_at q s.rows)
operate_cell s tx op chain at q Done = store_cell s tx (key_of op) (image_of op) chain at q
operate_cell s tx op chain at q (Found value) = either_cell (same_key (key_of op) q) (cell_at q s.rows)
operate_cell s tx op chain at q Missing = either_cell (same_key (key_of op) q) (cell_at q s.rows)
operate_cell s tx op chain at q E626 = either_cell (same_key (key_of op) q) (cell_at q s.rows)
operate_cell s tx op chain at q E630 = either_cell (same_key (key_of op) q) (cell_at q s.rows)

work_cell : (s : StorageState) (tx : TxId) (chain : List Member) (at : ℕ) (w : RowWork) (q : List ℕ)
    → cell_at q (storage.perform_by s tx chain at w).state.rows
    ≡ (if same_key (work_key w) q then worked (cell_at q s.rows) tx
    (is_refused s (record { tx = tx; work = w; chain = chain; at = at })) w else cell_at q s.rows)
work_cell s tx chain at (Store key image) q = store_cell s tx key image chain at q
work_cell s tx chain at (Operate op) q = operate_cell s tx op chain at q (answer_to op (seen s.rows tx (key_of op)))
    ∙ by (same_key (key_of op) q) refl
  where
    by : (b : Bool) → same_key (key_of op) q ≡ b
        → (if b then operated (cell_at q s.rows) tx op
        (storage.is_log_full s.journal (storage.need_of tx (key_of op) (image_of op)) || is_full s.rows (key_of op))
        (answer_to op (seen s.rows tx (key_of op))) else cell_at q s.rows)
        ≡ (if b then operated (cell_at q s.rows) tx op
        (storage.is_log_full s.journal (storage.need_of tx (key_of op) (image_of op)) || is_full s.rows (key_of op))
        (answer_to op (seen_by (cell_at q s.rows).row (found tx (cell_at q s.rows).pending))) else cell_at q s.rows)
    by true e =
        ap (λ row. operated (cell_at q s.rows) tx op
        (storage.is_log_full s.journal (storage.need_of tx (key_of op) (image_of op)) || is_full s.rows (key_of op))
        (answer_to op row))
        (seen-cell s.rows tx (key_of op) ∙ ap
        (λ k. seen_by (cell_at k s.rows).row (found tx (cell_at k s.rows).pending)) (same (key_of op) q e))
    by false e = refl

pub cell-performed : (s : StorageState) (r : Request) (q : List ℕ)
    → cell_at q (storage.perform s r).state.rows
    ≡ (if same_key (work_key r.work) q then worked (cell_at q s.rows) r.tx (is_refused s r) r.work else
    cell_at q s.rows)
unfolding storage.perform
cell-performed s r q = work_cell s r.tx r.chain r.at r.work q

pub placed-performed : (s : StorageState) (r : Request) → IsPlaced s.rows → IsPlaced (storage.perform s r).state.rows
placed-performed s r is =
    perform_forms (λ step. IsPlaced step.state.rows) s r (record {
      log_full = λ used reserved need. is;
      table_full = λ rows. is;
      answers = λ a. is;
      passes = λ image next there. placed-storing s.rows r.tx (work_key r.work) image is;
      ends = λ image last. placed-storing s.rows r.tx (work_key r.work) image is;
    })
