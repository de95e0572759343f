-- The rows of a node and its journal: what is prepared, committed and given up.
use Rattle.std.specs.Prelude.{ℕ, ◌+◌, Bool, true, false, nat_lt, List, [], ◌∷◌, slice_get, Option, None, Some}
use Rattle.sig_core.specs.declared.mark.Mark.TheVariants.{Prepared}
use Rattle.sig_core.specs.declared.member.Member.{Member}
use Rattle.sig_core.specs.declared.member.TxId.{TxId}
use Rattle.sig_core.specs.declared.op.Answer.{Answer}
use Rattle.sig_core.specs.declared.op.Answer.TheVariants.{Done}
use Rattle.sig_core.specs.declared.op.Op.{Op}
use Rattle.sig_core.specs.declared.outcome.AbortCause.{AbortCause}
use Rattle.sig_core.specs.declared.outcome.AbortCause.TheVariants.{LogFull, TableFull}
use Rattle.sig_core.specs.declared.outs.Outgoing.{Outgoing}
use Rattle.sig_core.specs.declared.redo.Redo.TheVariants as redo
use Rattle.sig_core.specs.declared.signal.Body.TheVariants.{Chain}
use Rattle.sig_core.specs.declared.signal.chain.ChainSignal.TheVariants.{LqhKeyReq, LqhKeyConf, LqhKeyRef}
use Rattle.sig_core.specs.declared.signal.chain.RowWork.{RowWork}
use Rattle.sig_core.specs.declared.signal.chain.RowWork.TheVariants.{Operate, Store}
use Rattle.sig_core.specs.declared.journal.TheConstants.{JOURNAL_BYTES}
use Rattle.sig_core.specs.declared.view.Shape.{Shape}
use Rattle.frag_map.specs.Fragment.{frag_of}
use Rattle.sig_core.specs.Journal.{JournalState, OutletState, appending, behind, reserving, unreserving}
use Rattle.sig_core.specs.Op.{answer_to, image_of, key_of}
use Rattle.sig_core.specs.Place.{coordinator_of, rows_of}
use Rattle.sig_core.specs.Redo.{size_of}
use Rattle.sig_core.specs.Rows.{RowsState, abort_record, commit_record, is_full, record_state, seen, storing, taken}
use Rattle.sig_core.specs.Step.{Step, to_place}
use Rattle.lqh_block.specs.declared.request.Request.{Request}

-- the rows of a node, its journal and what that has still to give out, in a cluster of this shape
pub record StorageState : Type 0 where
  pub rows : RowsState
  pub journal : JournalState
  pub outlet : OutletState
  pub shape : Shape

abbrev pub storage : RowsState → JournalState → OutletState → Shape → StorageState
storage rows journal outlet shape = record { rows = rows; journal = journal; outlet = outlet; shape = shape }

-- the bytes of the record that an image is prepared by
abbrev pub prepare_size : TxId → List ℕ → Option (List ℕ) → ℕ
prepare_size tx key image = size_of (redo.Prepare tx 0 key image)

-- the bytes that are kept free for the end of a prepared image, which are those of its `Commit`, in whatever epoch
abbrev pub end_size : TxId → List ℕ → ℕ
end_size tx key = size_of (redo.Commit tx 0 key)

-- the bytes that a journal needs for an image
abbrev pub need_of : TxId → List ℕ → Option (List ℕ) → ℕ
need_of tx key image = prepare_size tx key image + end_size tx key

-- a transaction is refused at a key
abbrev pub refusal : TxId → List ℕ → AbortCause → Outgoing
refusal tx key cause = to_place (coordinator_of tx) (Chain (LqhKeyRef tx key cause))

-- an operation is answered
abbrev pub confirmed : TxId → List ℕ → Answer → Outgoing
confirmed tx key answer = to_place (coordinator_of tx) (Chain (LqhKeyConf tx key answer))

-- work that is done here is sent on to the next place of its chain; where there is none the write is answered
abbrev pub sent_to : TxId → List ℕ → RowWork → List Member → ℕ → Option Member → Outgoing
sent_to tx key work chain at None = confirmed tx key Done
sent_to tx key work chain at (Some next) = to_place (rows_of next.node) (Chain (LqhKeyReq tx work chain (at + 1)))

abbrev pub sent_on : TxId → List ℕ → RowWork → List Member → ℕ → Outgoing
sent_on tx key work chain at = sent_to tx key work chain at (slice_get chain (at + 1))

-- an image that is prepared here goes on so
abbrev pub passed_to : TxId → List ℕ → Option (List ℕ) → List Member → ℕ → Option Member → Outgoing
passed_to tx key image chain at next = sent_to tx key (Store key image) chain at next

abbrev pub passed_on : TxId → List ℕ → Option (List ℕ) → List Member → ℕ → Outgoing
passed_on tx key image chain at = passed_to tx key image chain at (slice_get chain (at + 1))

-- the end of a record is kept free once: where the transaction had a prepared record on the key it was so already
abbrev pub kept_once : JournalState → ℕ → Option Bool → JournalState
kept_once j size (Some false) = unreserving j size
kept_once j size _ = j

abbrev pub prepared_journal : JournalState → TxId → List ℕ → Option (List ℕ) → Option Bool → JournalState
prepared_journal j tx key image had =
    kept_once (appending (reserving j (need_of tx key image)) (prepare_size tx key image)) (end_size tx key) had

-- an image is prepared
abbrev pub prepared_in : StorageState → TxId → List ℕ → Option (List ℕ) → StorageState
prepared_in s tx key image =
    storage (storing s.rows tx key image) (prepared_journal s.journal tx key image (record_state s.rows tx key))
    (behind s.outlet (redo.Prepare tx (frag_of s.shape key) key image)) s.shape

-- so many bytes more exceed the journal's room
abbrev pub is_log_full : JournalState → ℕ → Bool
is_log_full j need = nat_lt JOURNAL_BYTES (j.used + j.reserved + need)

abbrev pub store_if : StorageState → TxId → List ℕ → Option (List ℕ) → List Member → ℕ → Bool → Bool → Step StorageState
store_if s tx key image chain at true full =
    record {
      state = s;
      effects = record {
        sends = refusal tx key (LogFull s.journal.used s.journal.reserved (need_of tx key image)) ∷ [];
        marks = [];
      };
    }
store_if s tx key image chain at false true =
    record { state = s; effects = record { sends = refusal tx key (TableFull (taken s.rows.places)) ∷ []; marks = [] } }
store_if s tx key image chain at false false =
    record {
      state = prepared_in s tx key image;
      effects = record {
        sends = passed_on tx key image chain at ∷ [];
        marks = Prepared tx key ∷ [];
      };
    }

-- an image is to be prepared, at a place of its chain
unfoldable pub store_row : StorageState → TxId → List ℕ → Option (List ℕ) → List Member → ℕ → Step StorageState
store_row s tx key image chain at =
    store_if s tx key image chain at (is_log_full s.journal (need_of tx key image)) (is_full s.rows key)

-- an operation is answered; a write that takes effect is prepared first
abbrev pub operate_by : StorageState → TxId → Op → List Member → ℕ → Answer → Step StorageState
operate_by s tx op chain at Done = store_row s tx (key_of op) (image_of op) chain at
operate_by s tx op chain at answer = record {
  state = s;
  effects = record { sends = confirmed tx (key_of op) answer ∷ []; marks = [] };
}

abbrev pub perform_by : StorageState → TxId → List Member → ℕ → RowWork → Step StorageState
perform_by s tx chain at (Operate op) = operate_by s tx op chain at (answer_to op (seen s.rows tx (key_of op)))
perform_by s tx chain at (Store key image) = store_row s tx key image chain at

-- a request whose lock is granted is performed
unfoldable pub perform : StorageState → Request → Step StorageState
perform s r = perform_by s r.tx r.chain r.at r.work

-- the transaction's prepared image of the row is committed, and the journal told so in the bytes that it kept free for
-- that
unfoldable pub committed_in : StorageState → TxId → List ℕ → ℕ → StorageState
committed_in s tx key epoch =
    storage (commit_record s.rows tx key epoch) (appending s.journal (size_of (redo.Commit tx epoch key)))
    (behind s.outlet (redo.Commit tx epoch key)) s.shape

-- the transaction's prepared image of the row is given up, and the journal told so in those bytes, of which eight are
-- left over
unfoldable pub aborted_in : StorageState → TxId → List ℕ → StorageState
aborted_in s tx key =
    storage (abort_record s.rows tx key) (unreserving (appending s.journal (size_of (redo.Abort tx key))) 8)
    (behind s.outlet (redo.Abort tx key)) s.shape
