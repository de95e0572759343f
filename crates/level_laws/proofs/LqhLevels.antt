-- The rows of a node don't look at epochs.
use Rattle.std.proofs.Common.{◌≡◌, ◌∙◌, ℕ, ◌+◌, ◌==◌, Bool, true, false, zero, suc, List, [], ◌∷◌, ◌++◌, map, refl}
use Rattle.std.proofs.Common.{sym, ap}
use Rattle.std.specs.List.{list_any}
use Rattle.std.specs.Prelude.{Option, None, Some, nat_lt, remove, slice_get, slice_index_or, is_some}
use Rattle.std.proofs.lemmas.List.{map-append, map_push}
use Rattle.frag_map.specs.Fragment.{frag_of}
use Rattle.lqh_block.specs.Abort as abort
use Rattle.lqh_block.specs.Commit as commit
use Rattle.lqh_block.specs.Complete as complete
use Rattle.lqh_block.specs.Dump as dump
use Rattle.lqh_block.specs.Dump.{Dumped}
use Rattle.lqh_block.specs.declared.request.Marker.{Marker}
use Rattle.lqh_block.specs.declared.request.Request.{Request}
use Rattle.lqh_block.specs.Expire as expire
use Rattle.lqh_block.specs.Lqh.{lqh_table}
use Rattle.lqh_block.specs.Operate as operate
use Rattle.lqh_block.specs.State.{LqhState, freed_lock, go_on_if, in_storage, serve_granted, storage_of, unlocked}
use Rattle.lqh_block.specs.State.{with_lock, with_markers, with_rows, with_storage, with_waiting}
use Rattle.lqh_block.specs.Storage as storage
use Rattle.lqh_block.specs.Storage.{StorageState}
use Rattle.lqh_block.specs.Wait as wait
use Rattle.row_locks.specs.Rounds.{expired}
use Rattle.row_locks.specs.Rows.{Served}
use Rattle.row_locks.specs.Tables.{ahead_at, unwaited_at}
use Rattle.row_locks.specs.declared.mode.Lock.{Lock}
use Rattle.row_locks.specs.declared.mode.Lock.TheVariants.{Granted, Queued}
use Rattle.sig_core.specs.declared.mark.Mark.TheVariants as mark
use Rattle.sig_core.specs.declared.member.Member.{Member}
use Rattle.sig_core.specs.declared.member.TxId.{TxId}
use Rattle.sig_core.specs.declared.op.Answer.{Answer}
use Rattle.sig_core.specs.declared.op.Answer.TheVariants as answer
use Rattle.sig_core.specs.declared.op.Op.{Op}
use Rattle.sig_core.specs.declared.outcome.AbortCause.TheVariants as cause
use Rattle.sig_core.specs.declared.outs.Outgoing.{Outgoing}
use Rattle.sig_core.specs.declared.redo.Redo.TheVariants as redo
use Rattle.sig_core.specs.declared.rows.Slot.{Slot}
use Rattle.sig_core.specs.declared.signal.Body.{Body}
use Rattle.sig_core.specs.declared.signal.Body.TheVariants.{Host, Client, Chain, Epoch}
use Rattle.sig_core.specs.declared.signal.chain.ChainSignal.TheVariants.{LqhKeyReq, Commit, Complete, Abort, Aborted}
use Rattle.sig_core.specs.declared.signal.chain.ChainSignal.TheVariants.{Committed}
use Rattle.sig_core.specs.declared.signal.chain.RowWork.{RowWork}
use Rattle.sig_core.specs.declared.signal.chain.RowWork.TheVariants.{Operate, Store}
use Rattle.sig_core.specs.declared.signal.client.ClientSignal.TheVariants.{TcCommitAck, LqhWaitReq, DumpReq, DumpConf}
use Rattle.sig_core.specs.declared.signal.epoch.EpochSignal.TheVariants.{DiVerifyConf}
use Rattle.sig_core.specs.declared.signal.host.HostSignal.TheVariants.{Round, Continue}
use Rattle.sig_core.specs.declared.signal.host.Work.{Work}
use Rattle.sig_core.specs.declared.signal.host.Work.TheVariants as work
use Rattle.sig_core.specs.Journal.{appending}
use Rattle.sig_core.specs.Op.{answer_to, image_of, key_of}
use Rattle.sig_core.specs.Place.{client, coordinator_of}
use Rattle.sig_core.specs.Redo.{size_of}
use Rattle.sig_core.specs.Rows.{RowsState, is_full, next_place, record_state, seen}
use Rattle.sig_core.specs.Step.{sending, stay, to_place}
use Rattle.level_laws.specs.Laws.{RowsAreLevel}
use Rattle.level_laws.specs.Levels.{body_at, lqh_at, mark_at, marker_at, outlet_at, rows_at, send_at, slot_at, step_at}
use Rattle.level_laws.proofs.MappedLists.{any-map, filter-map}
use Rattle.level_laws.proofs.Outlets.{behind_level, commit_outlet}
use Rattle.level_laws.proofs.RowLevels.{abort_level, commit_level, complete_level, full_level, next_place_level}
use Rattle.level_laws.proofs.RowLevels.{record_state_level, seen_level, slot_level, storing_level, taken_level}

-- the bytes of the record of a commit are the same whatever its epoch
commit_size : (tx : TxId) (one other : ℕ) (key : List ℕ)
    → size_of (redo.Commit tx one key) ≡ size_of (redo.Commit tx other key)
unfolding size_of
commit_size tx one other key = refl

module _ (epoch : ℕ) where
  abbrev storage_at : StorageState → StorageState
  storage_at s = storage.storage (rows_at epoch s.rows) s.journal (outlet_at s.outlet) s.shape

  -- signals with no epoch
  abbrev AreLevel : List Outgoing → Type 0
  AreLevel sends = map (send_at epoch) sends ≡ sends

  both_level : (sends others : List Outgoing) → AreLevel sends → AreLevel others → AreLevel (sends ++ others)
  both_level sends others one two = map-append (send_at epoch) sends others ∙ (λ i. one i ++ two i)

  go_on_level : (node : ℕ) (what : Work) (more : Bool) → AreLevel (go_on_if node what more)
  go_on_level node what true = refl
  go_on_level node what false = refl

  serve_level : (node : ℕ) (served : Served) → AreLevel (serve_granted node served)
  serve_level node served = go_on_level node work.Granted (nat_lt 0 served.granted)

  sent_level : (tx : TxId) (key : List ℕ) (what : RowWork) (chain : List Member) (at : ℕ) (next : Option Member)
      → send_at epoch (storage.sent_to tx key what chain at next) ≡ storage.sent_to tx key what chain at next
  sent_level tx key what chain at None = refl
  sent_level tx key what chain at (Some next) = refl

  -- the rows and the journal
  prepared_level : (s : StorageState) (tx : TxId) (key : List ℕ) (image : Option (List ℕ))
      → storage.prepared_in (storage_at s) tx key image ≡ storage_at (storage.prepared_in s tx key image)
  prepared_level s tx key image =
      λ i. storage.storage (storing_level epoch s.rows tx key image i)
      (storage.prepared_journal s.journal tx key image (record_state_level epoch s.rows tx key i))
      (behind_level s.outlet (redo.Prepare tx (frag_of s.shape key) key image) i) s.shape

  store_level : (s : StorageState) (tx : TxId) (key : List ℕ) (image : Option (List ℕ)) (chain : List Member) (at : ℕ)
      → storage.store_row (storage_at s) tx key image chain at
      ≡ step_at storage_at epoch (storage.store_row s tx key image chain at)
  unfolding storage.store_row
  store_level s tx key image chain at =
      ap (storage.store_if (storage_at s) tx key image chain at log) (full_level epoch s.rows key)
      ∙ by log (is_full s.rows key)
    where
      log : Bool
      log = storage.is_log_full s.journal (storage.need_of tx key image)

      by : (log full : Bool) → storage.store_if (storage_at s) tx key image chain at log full
          ≡ step_at storage_at epoch (storage.store_if s tx key image chain at log full)
      by true full = refl
      by false true = λ i. record {
        state = storage_at s;
        effects = record {
          sends = storage.refusal tx key (cause.TableFull (taken_level epoch s.rows.places i)) ∷ [];
          marks = [];
        };
      }
      by false false = λ i. record {
        state = prepared_level s tx key image i;
        effects = record {
          sends = sym (sent_level tx key (Store key image) chain at (slice_get chain (at + 1))) i ∷ [];
          marks = mark.Prepared tx key ∷ [];
        };
      }

  operate_level : (s : StorageState) (tx : TxId) (op : Op) (chain : List Member) (at : ℕ) (a : Answer)
      → storage.operate_by (storage_at s) tx op chain at a
      ≡ step_at storage_at epoch (storage.operate_by s tx op chain at a)
  operate_level s tx op chain at answer.Done = store_level s tx (key_of op) (image_of op) chain at
  operate_level s tx op chain at (answer.Found value) = refl
  operate_level s tx op chain at answer.Missing = refl
  operate_level s tx op chain at answer.E626 = refl
  operate_level s tx op chain at answer.E630 = refl

  perform_level : (s : StorageState) (r : Request)
      → storage.perform (storage_at s) r ≡ step_at storage_at epoch (storage.perform s r)
  unfolding storage.perform
  perform_level s r = by r.work
    where
      by : (what : RowWork) → storage.perform_by (storage_at s) r.tx r.chain r.at what
          ≡ step_at storage_at epoch (storage.perform_by s r.tx r.chain r.at what)
      by (Operate op) =
          ap (λ row. storage.operate_by (storage_at s) r.tx op r.chain r.at (answer_to op row))
          (seen_level epoch s.rows r.tx (key_of op))
          ∙ operate_level s r.tx op r.chain r.at (answer_to op (seen s.rows r.tx (key_of op)))
      by (Store key image) = store_level s r.tx key image r.chain r.at

  committed_level : (s : StorageState) (tx : TxId) (key : List ℕ) (other : ℕ)
      → storage.committed_in (storage_at s) tx key epoch ≡ storage_at (storage.committed_in s tx key other)
  unfolding storage.committed_in
  committed_level s tx key other =
      λ i. storage.storage (commit_level epoch s.rows tx key other i)
      (appending s.journal (commit_size tx epoch other key i)) (commit_outlet s.outlet tx epoch other key i) s.shape

  aborted_level : (s : StorageState) (tx : TxId) (key : List ℕ)
      → storage.aborted_in (storage_at s) tx key ≡ storage_at (storage.aborted_in s tx key)
  unfolding storage.aborted_in
  aborted_level s tx key =
      λ i. storage.storage (abort_level epoch s.rows tx key i) (storage.aborted_in s tx key).journal
      (behind_level s.outlet (redo.Abort tx key) i) s.shape

  -- requests
  performed_level : (s : LqhState) (r : Request)
      → operate.performed (lqh_at epoch s) r ≡ step_at (lqh_at epoch) epoch (operate.performed s r)
  performed_level s r = ap (in_storage (lqh_at epoch s)) (perform_level (storage_of s) r)

  request_level : (s : LqhState) (r : Request)
      → operate.request_row (lqh_at epoch s) r ≡ step_at (lqh_at epoch) epoch (operate.request_row s r)
  unfolding operate.request_row
  request_level s r = by (operate.asking s r).answer
    where
      by : (a : Lock) → operate.asked_by (lqh_at epoch (operate.asked_for s r)) r a
          ≡ step_at (lqh_at epoch) epoch (operate.asked_by (operate.asked_for s r) r a)
      by Granted = performed_level (operate.asked_for s r) r
      by (Queued ahead) = refl

  granted_on_level : (s : LqhState) (r : Request)
      → operate.granted_on (lqh_at epoch s) r ≡ step_at (lqh_at epoch) epoch (operate.granted_on s r)
  granted_on_level s r =
      let more : AreLevel (operate.more_granted s) =
      go_on_level s.node work.Granted (is_some (operate.first_granted s.locks s.waiting)) in
      let sends : map (send_at epoch) (operate.performed s r).effects.sends ++ operate.more_granted s
      ≡ map (send_at epoch) ((operate.performed s r).effects.sends ++ operate.more_granted s) =
      ap (λ w. map (send_at epoch) (operate.performed s r).effects.sends ++ w) (sym more)
      ∙ sym (map-append (send_at epoch) (operate.performed s r).effects.sends (operate.more_granted s)) in
      (λ i. record {
        state = (performed_level s r i).state;
        effects = record {
          sends = (performed_level s r i).effects.sends ++ operate.more_granted s;
          marks = (performed_level s r i).effects.marks;
        };
      })
      ∙ (λ i. record {
        state = lqh_at epoch (operate.performed s r).state;
        effects = record { sends = sends i; marks = map (mark_at epoch) (operate.performed s r).effects.marks };
      })

  granted_level : (s : LqhState)
      → operate.granted_row (lqh_at epoch s) ≡ step_at (lqh_at epoch) epoch (operate.granted_row s)
  unfolding operate.granted_row
  granted_level s = by (operate.first_granted s.locks s.waiting)
    where
      value : (at : ℕ) (r : Option Request) → operate.granted_value (lqh_at epoch s) at r
          ≡ step_at (lqh_at epoch) epoch (operate.granted_value s at r)
      value at None = refl
      value at (Some r) = granted_on_level (with_waiting s (remove s.waiting at)) r

      by : (at : Option ℕ) → operate.granted_by (lqh_at epoch s) at
          ≡ step_at (lqh_at epoch) epoch (operate.granted_by s at)
      by None = refl
      by (Some at) = value at (slice_get s.waiting at)

  -- commits
  marked_level : (markers : List Marker) (tx : TxId) (key : List ℕ) (other : ℕ)
      → commit.marked (map (marker_at epoch) markers) tx key epoch
      ≡ map (marker_at epoch) (commit.marked markers tx key other)
  marked_level markers tx key other =
      ap (commit.marked_if (map (marker_at epoch) markers) (commit.marker_of tx key epoch))
      (any-map (marker_at epoch) (commit.is_marker tx key) (λ m. refl) markers)
      ∙ by (list_any (commit.is_marker tx key) markers)
    where
      by : (there : Bool)
          → commit.marked_if (map (marker_at epoch) markers) (commit.marker_of tx key epoch) there
          ≡ map (marker_at epoch) (commit.marked_if markers (commit.marker_of tx key other) there)
      by true = refl
      by false = sym (map_push (marker_at epoch) markers (commit.marker_of tx key other))

  applied_level : (s : LqhState) (tx : TxId) (key : List ℕ) (other : ℕ) (had : Option Bool)
      → commit.applied (lqh_at epoch s) tx key epoch had ≡ lqh_at epoch (commit.applied s tx key other had)
  applied_level s tx key other None = refl
  applied_level s tx key other (Some true) = refl
  applied_level s tx key other (Some false) =
      λ i. with_markers (with_storage (lqh_at epoch s) (committed_level (storage_of s) tx key other i))
      (marked_level s.markers tx key other i)

  marks_level : (tx : TxId) (key : List ℕ) (had : Option Bool)
      → map (mark_at epoch) (commit.applied_marks tx key had) ≡ commit.applied_marks tx key had
  marks_level tx key None = refl
  marks_level tx key (Some done) = refl

  told_level : (s : LqhState) (tx : TxId) (key : List ℕ) (other : ℕ) (chain : List Member) (at : ℕ)
      (had : Option Bool) (last : Bool)
      → commit.told_if (lqh_at epoch s) tx key epoch chain at had last
      ≡ step_at (lqh_at epoch) epoch (commit.told_if s tx key other chain at had last)
  told_level s tx key other chain at had true = λ i. record {
    state = lqh_at epoch (unlocked s tx key);
    effects = record {
      sends = to_place (coordinator_of tx) (Chain (Committed tx key))
          ∷ sym (serve_level s.node (freed_lock s tx key)) i;
      marks = sym (marks_level tx key had) i;
    };
  }
  told_level s tx key other chain at had false = refl

  commit_row_level : (s : LqhState) (tx : TxId) (key : List ℕ) (other : ℕ) (chain : List Member) (at : ℕ)
      → commit.commit_row (lqh_at epoch s) tx key epoch chain at
      ≡ step_at (lqh_at epoch) epoch (commit.commit_row s tx key other chain at)
  unfolding commit.commit_row
  commit_row_level s tx key other chain at =
      ap (λ had. commit.told (commit.applied (lqh_at epoch s) tx key epoch had) tx key epoch chain at had)
      (record_state_level epoch s.rows tx key)
      ∙ ap (λ after. commit.told after tx key epoch chain at (record_state s.rows tx key))
      (applied_level s tx key other (record_state s.rows tx key))
      ∙ told_level (commit.applied s tx key other (record_state s.rows tx key)) tx key other chain at
      (record_state s.rows tx key) (at == 0)

  -- completions
  completed_level : (tx : TxId) (key : List ℕ) (chain : List Member) (at : ℕ) (last : Bool)
      → send_at epoch (complete.completed_by tx key chain at last) ≡ complete.completed_by tx key chain at last
  completed_level tx key chain at true = refl
  completed_level tx key chain at false = refl

  complete_row_level : (s : LqhState) (tx : TxId) (key : List ℕ) (chain : List Member) (at : ℕ)
      → complete.complete_row (lqh_at epoch s) tx key chain at
      ≡ step_at (lqh_at epoch) epoch (complete.complete_row s tx key chain at)
  unfolding complete.complete_row
  complete_row_level s tx key chain at = λ i. record {
    state = unlocked (with_rows (lqh_at epoch s) (complete_level epoch s.rows tx key i)) tx key;
    effects = record {
      sends = sym (completed_level tx key chain at (at == 0)) i ∷ sym (serve_level s.node (freed_lock s tx key)) i;
      marks = mark.Done tx key ∷ [];
    };
  }

  -- aborts
  unasked_level : (s : LqhState) (at : Option ℕ)
      → abort.unasked_by (lqh_at epoch s) at ≡ lqh_at epoch (abort.unasked_by s at)
  unasked_level s None = refl
  unasked_level s (Some at) = refl

  refused_level : (tx : TxId) (key : List ℕ) (at : Option ℕ) → AreLevel (abort.refused_by tx key at)
  refused_level tx key None = refl
  refused_level tx key (Some at) = refl

  given_up_level : (s : LqhState) (tx : TxId) (key : List ℕ) (had : Option Bool)
      → abort.given_up (lqh_at epoch s) tx key had ≡ lqh_at epoch (abort.given_up s tx key had)
  given_up_level s tx key None = refl
  given_up_level s tx key (Some true) = refl
  given_up_level s tx key (Some false) = ap (with_storage (lqh_at epoch s)) (aborted_level (storage_of s) tx key)

  given_up_marks_level : (tx : TxId) (key : List ℕ) (had : Option Bool)
      → map (mark_at epoch) (abort.given_up_marks tx key had) ≡ abort.given_up_marks tx key had
  given_up_marks_level tx key None = refl
  given_up_marks_level tx key (Some true) = refl
  given_up_marks_level tx key (Some false) = refl

  abort_row_level : (s : LqhState) (tx : TxId) (key : List ℕ)
      → abort.abort_row (lqh_at epoch s) tx key ≡ step_at (lqh_at epoch) epoch (abort.abort_row s tx key)
  unfolding abort.abort_row
  abort_row_level s tx key =
      let had = record_state s.rows tx key in
      let state : abort.given_up (abort.unasked (lqh_at epoch s) tx key) tx key
      (record_state (rows_at epoch s.rows) tx key)
      ≡ lqh_at epoch (abort.given_up (abort.unasked s tx key) tx key had) =
      (λ i. abort.given_up (unasked_level s (abort.waits_at s tx key) i) tx key
      (record_state_level epoch s.rows tx key i))
      ∙ given_up_level (abort.unasked s tx key) tx key had in
      let marks : abort.given_up_marks tx key (record_state (rows_at epoch s.rows) tx key)
      ≡ map (mark_at epoch) (abort.given_up_marks tx key had) =
      ap (abort.given_up_marks tx key) (record_state_level epoch s.rows tx key)
      ∙ sym (given_up_marks_level tx key had) in
      let told = to_place (coordinator_of tx) (Chain (Aborted tx key)) ∷ serve_granted s.node (freed_lock s tx key) in
      let sends : AreLevel (abort.refused_by tx key (abort.waits_at s tx key) ++ told) =
      both_level (abort.refused_by tx key (abort.waits_at s tx key)) told
      (refused_level tx key (abort.waits_at s tx key))
      (ap (λ w. to_place (coordinator_of tx) (Chain (Aborted tx key)) ∷ w)
      (serve_level s.node (freed_lock s tx key))) in
      λ i. record {
        state = unlocked (state i) tx key;
        effects = record { sends = sym sends i; marks = marks i };
      }

  -- waits that stood too long
  expire_level : (s : LqhState)
      → expire.expire_row (lqh_at epoch s) ≡ step_at (lqh_at epoch) epoch (expire.expire_row s)
  unfolding expire.expire_row
  expire_level s = by (expired s.locks)
    where
      one : (tx : TxId) (key : List ℕ) (served : Served)
          → expire.expiring (lqh_at epoch s) tx key served
          ≡ step_at (lqh_at epoch) epoch (expire.expiring s tx key served)
      one tx key served =
          let after = with_lock s key served in
          let sends : AreLevel (serve_granted s.node served ++ expire.more_expired after) =
          both_level (serve_granted s.node served) (expire.more_expired after) (serve_level s.node served)
          (go_on_level s.node work.Expired (is_some (expired after.locks))) in
          λ i. record {
            state = unasked_level after (abort.waits_at after tx key) i;
            effects = record {
              sends = storage.refusal tx key cause.Timeout ∷ sym sends i;
              marks = mark.Expired tx key ∷ [];
            };
          }

      by : (w : Option (TxId × List ℕ)) → expire.expire_by (lqh_at epoch s) w
          ≡ step_at (lqh_at epoch) epoch (expire.expire_by s w)
      by None = refl
      by (Some w) = one w.0 w.1 (unwaited_at s.locks w.1 w.0)

  -- what a transaction waits for, and markers
  wait_level : (s : LqhState) (tx : TxId) (key : List ℕ)
      → wait.wait_row (lqh_at epoch s) tx key ≡ step_at (lqh_at epoch) epoch (wait.wait_row s tx key)
  unfolding wait.wait_row
  wait_level s tx key = by (ahead_at s.locks key tx)
    where
      by : (ahead : Option TxId) → wait.wait_by (lqh_at epoch s) tx ahead
          ≡ step_at (lqh_at epoch) epoch (wait.wait_by s tx ahead)
      by None = refl
      by (Some ahead) = refl

  acknowledged_level : (s : LqhState) (tx : TxId)
      → wait.acknowledged (lqh_at epoch s) tx ≡ lqh_at epoch (wait.acknowledged s tx)
  unfolding wait.acknowledged
  acknowledged_level s tx =
      ap (with_markers (lqh_at epoch s)) (filter-map (marker_at epoch) (wait.is_other tx) (λ m. refl) s.markers)

  -- rows are asked for
  row_of_slot_level : (slot : Option Slot) → dump.row_of_slot (slot_at epoch slot) ≡ dump.row_of_slot slot
  row_of_slot_level None = refl
  row_of_slot_level (Some slot) = refl

  one_more_level : (s : RowsState) (rows : List (List ℕ × List ℕ)) (next : Option ℕ)
      → dump.one_more_by (rows_at epoch s) rows next ≡ dump.one_more_by s rows next
  one_more_level s rows None = refl
  one_more_level s rows (Some at) =
      let row : dump.row_of_slot (slice_index_or (map (slot_at epoch) s.places) at None)
      ≡ dump.row_of_slot (slice_index_or s.places at None) =
      ap dump.row_of_slot (slot_level epoch s.places at) ∙ row_of_slot_level (slice_index_or s.places at None) in
      λ i. dump.dumped (rows ++ row i) (next_place_level epoch s (at + 1) i)

  more_level : (s : RowsState) (n : ℕ) (d : Dumped) → dump.more (rows_at epoch s) n d ≡ dump.more s n d
  more_level s zero d = refl
  more_level s (suc n) d = ap (dump.one_more (rows_at epoch s)) (more_level s n d)
      ∙ one_more_level s (dump.more s n d).rows (dump.more s n d).next

  more_from_level : (s : RowsState) (n at : ℕ)
      → dump.more (rows_at epoch s) n (dump.dumped [] (next_place (rows_at epoch s) at))
      ≡ dump.more s n (dump.dumped [] (next_place s at))
  more_from_level s n at =
      ap (λ next. dump.more (rows_at epoch s) n (dump.dumped [] next)) (next_place_level epoch s at)
      ∙ more_level s n (dump.dumped [] (next_place s at))

  -- the first eight of them are told
  dumped_level : (s : RowsState) (at : ℕ) → dump.dumped_from (rows_at epoch s) at ≡ dump.dumped_from s at
  unfolding dump.dumped_from
  dumped_level s at = more_from_level s 8 at

  dump_level : (s : LqhState) (at : ℕ)
      → dump.dump_row (lqh_at epoch s) at ≡ step_at (lqh_at epoch) epoch (dump.dump_row s at)
  unfolding dump.dump_row
  dump_level s at = ap (λ (d : Dumped). sending (lqh_at epoch s) client (Client (DumpConf d.rows d.next)))
      (dumped_level s.rows at)

  -- whatever the rows take
  table_level : (s : LqhState) (body : Body)
      → lqh_table (lqh_at epoch s) (body_at epoch body) ≡ step_at (lqh_at epoch) epoch (lqh_table s body)
  table_level s (Chain (LqhKeyReq tx what chain at)) =
      request_level s (record { tx = tx; work = what; chain = chain; at = at })
  table_level s (Host (Continue work.Granted at)) = granted_level s
  table_level s (Chain (Commit tx key other chain at)) = commit_row_level s tx key other chain at
  table_level s (Chain (Complete tx key chain at)) = complete_row_level s tx key chain at
  table_level s (Chain (Abort tx key)) = abort_row_level s tx key
  table_level s (Client (TcCommitAck tx)) = ap stay (acknowledged_level s tx)
  table_level s (Client (LqhWaitReq tx key)) = wait_level s tx key
  table_level s (Client (DumpReq at)) = dump_level s at
  table_level s (Host Round) = expire_level (expire.aged s)
  table_level s (Host (Continue work.Expired at)) = expire_level s
  -- an answer with an epoch, which isn't for the rows
  table_level s (Epoch (DiVerifyConf tx other)) = refl
  table_level s body = refl

pub rows_level : RowsAreLevel
rows_level epoch s x = table_level epoch s x.body
