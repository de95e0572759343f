-- Each form of a step of a node's rows leaves the journal its room.
use Rattle.std.proofs.Common.{◌≡◌, ℕ, Bool, true, false, List, refl, sym, subst}
use Rattle.std.specs.Prelude.{Option, None, Some, remove}
use Rattle.sig_core.specs.declared.member.TxId.{TxId}
use Rattle.sig_core.specs.declared.op.Answer.{Answer}
use Rattle.sig_core.specs.declared.op.Answer.TheVariants as answer
use Rattle.sig_core.specs.declared.op.Op.{Op}
use Rattle.sig_core.specs.declared.signal.Body.{Body}
use Rattle.sig_core.specs.declared.signal.chain.RowWork.{RowWork}
use Rattle.sig_core.specs.declared.signal.chain.RowWork.TheVariants.{Operate, Store}
use Rattle.sig_core.specs.Op.{answer_to, image_of, key_of}
use Rattle.sig_core.specs.Rows.{complete_record, is_full, record_state, seen}
use Rattle.lqh_block.specs.Abort as abort
use Rattle.lqh_block.specs.Commit as commit
use Rattle.lqh_block.specs.declared.request.Marker.{Marker}
use Rattle.lqh_block.specs.declared.request.Request.{Request}
use Rattle.lqh_block.specs.Expire as expire
use Rattle.lqh_block.specs.Lqh.{lqh_table}
use Rattle.lqh_block.specs.State.{LqhState, storage_of, unlocked, with_markers, with_rows, with_storage, with_waiting}
use Rattle.lqh_block.specs.Storage as storage
use Rattle.lqh_block.specs.Storage.{StorageState}
use Rattle.lqh_block.proofs.LqhForms.{Applies, ExpireForms, GivesUp, LqhForms, lqh_forms}
use Rattle.journal_laws.proofs.room.Room.{HasRoom, StorageHasRoom, aborted_has, committed_has, completed_has}
use Rattle.journal_laws.proofs.room.Room.{prepared_has}

abbrev pub RowsHaveRoom : LqhState → Type 0
RowsHaveRoom s = HasRoom s.rows s.journal s.outlet

-- a request that is performed
module _ (s : StorageState) (r : Request) (has : StorageHasRoom s) where
  stores : (key : List ℕ) (image : Option (List ℕ))
      → StorageHasRoom (storage.store_row s r.tx key image r.chain r.at).state
  unfolding storage.store_row
  stores key image = by (storage.is_log_full s.journal (storage.need_of r.tx key image)) refl (is_full s.rows key)
    where
      by : (log : Bool) → storage.is_log_full s.journal (storage.need_of r.tx key image) ≡ log → (full : Bool)
          → StorageHasRoom (storage.store_if s r.tx key image r.chain r.at log full).state
      by true is full = has
      by false is true = has
      by false is false = prepared_has s r.tx key has image is

  operates : (op : Op) (a : Answer) → StorageHasRoom (storage.operate_by s r.tx op r.chain r.at a).state
  operates op answer.Done = stores (key_of op) (image_of op)
  operates op (answer.Found value) = has
  operates op answer.Missing = has
  operates op answer.E626 = has
  operates op answer.E630 = has

  performs : StorageHasRoom (storage.perform s r).state
  unfolding storage.perform
  performs = by r.work
    where
      by : (w : RowWork) → StorageHasRoom (storage.perform_by s r.tx r.chain r.at w).state
      by (Operate op) = operates op (answer_to op (seen s.rows r.tx (key_of op)))
      by (Store key image) = stores key image

module _ (s : LqhState) (has : RowsHaveRoom s) where
  commits : (tx : TxId) (key : List ℕ) (epoch : ℕ) (had : Option Bool) → record_state s.rows tx key ≡ had
      → RowsHaveRoom (commit.applied s tx key epoch had)
  commits tx key epoch None is = has
  commits tx key epoch (Some true) is = has
  commits tx key epoch (Some false) is = committed_has (storage_of s) tx key has epoch is

  commits_by : (tx : TxId) (key : List ℕ) (epoch : ℕ) (had : Option Bool) (st : StorageState) (markers : List Marker)
      → Applies s tx key epoch had st markers → RowsHaveRoom (with_markers (with_storage s st) markers)
  commits_by tx key epoch had st markers applies =
      subst RowsHaveRoom (sym applies.is) (commits tx key epoch had applies.had_is)

  gives_up : (tx : TxId) (key : List ℕ) (waiting : List Request) (had : Option Bool)
      → record_state s.rows tx key ≡ had → RowsHaveRoom (abort.given_up (with_waiting s waiting) tx key had)
  gives_up tx key waiting None is = has
  gives_up tx key waiting (Some true) is = has
  gives_up tx key waiting (Some false) is = aborted_has (storage_of s) tx key has is

  aborts_by : (tx : TxId) (key : List ℕ) (waiting : List Request) (had : Option Bool) (st : StorageState)
      → GivesUp s tx key had st → RowsHaveRoom (unlocked (with_storage (with_waiting s waiting) st) tx key)
  aborts_by tx key waiting had st gives =
      subst RowsHaveRoom (sym (gives.is waiting)) (gives_up tx key waiting had gives.had_is)

  completes : (tx : TxId) (key : List ℕ)
      → RowsHaveRoom (unlocked (with_rows s (complete_record s.rows tx key)) tx key)
  completes tx key = completed_has (storage_of s) tx key has

-- a wait ends, also where the locks are a round older
expires : (s : LqhState) → RowsHaveRoom s → ExpireForms (λ step. RowsHaveRoom step.state) s
expires s has = record {
  rests = λ is. has;
  none = λ tx key is none. has;
  some = λ tx key is at r there here. has;
}

forms : (s : LqhState) → RowsHaveRoom s → LqhForms (λ body step. RowsHaveRoom step.state) s
forms s has = record {
  asks = λ r. record { granted = λ is. performs (storage_of s) r has; queued = λ ahead is. has };
  grants = λ at. record { none = λ is. has; some = λ place r is here. performs (storage_of s) r has };
  commits = λ tx key epoch members at. record {
    last = λ had st markers applies first. commits_by s has tx key epoch had st markers applies;
    passes = λ had st markers applies first. commits_by s has tx key epoch had st markers applies;
  };
  completes = λ tx key members at. record {
    last = λ first. completes s has tx key;
    passes = λ first. completes s has tx key;
  };
  aborts = λ tx key. record {
    none = λ had st gives none. aborts_by s has tx key s.waiting had st gives;
    some = λ had st gives at r there here. aborts_by s has tx key (remove s.waiting at) had st gives;
  };
  acknowledges = λ tx markers. has;
  waits = λ tx key. record { none = λ is. has; some = λ ahead is. has };
  dumps = λ at rows next. has;
  ages = expires (expire.aged s) has;
  expires = λ at. expires s has;
  rests = λ body is. has;
}

-- whatever the rows take
pub rows_keep_room : (s : LqhState) (body : Body) → RowsHaveRoom s → RowsHaveRoom (lqh_table s body).state
rows_keep_room s body has = lqh_forms (λ body step. RowsHaveRoom step.state) s (forms s has) body
