-- Commits, completions, aborts and waits that end, key by key.
use Rattle.std.proofs.Common.{◌≡◌, ◌==◌, ℕ, Bool, true, false, not, ◌&&◌, List, filter, refl, sym, ap, ◌∙◌, subst}
use Rattle.std.proofs.lemmas.Bool.{and_parts}
use Rattle.std.specs.Prelude.{if◌then◌else◌, Option, None, Some, position, remove}
use Rattle.sig_core.specs.declared.member.Member.{Member}
use Rattle.sig_core.specs.declared.member.TxId.{TxId}
use Rattle.sig_core.specs.declared.rows.PendingRecord.{PendingRecord}
use Rattle.sig_core.specs.Rows as rows
use Rattle.sig_core.specs.Rows.{abort_record, commit_by, commit_record, complete_record, record_at, record_of}
use Rattle.sig_core.specs.Rows.{record_state, state_by}
use Rattle.sig_core.specs.Same.{same_key, same_tx}
use Rattle.row_locks.specs.Rounds.{expired}
use Rattle.row_locks.specs.Rows.{released, unwaited}
use Rattle.row_locks.specs.Tables.{kept, lock_at, released_at, unwaited_at}
use Rattle.row_records.proofs.KeyLemmas.{same}
use Rattle.lqh_block.proofs.LqhForms.{Applies, GivesUp, abort_forms, commit_forms, complete_forms, expire_forms}
use Rattle.lqh_block.specs.declared.request.Marker.{Marker}
use Rattle.lqh_block.specs.declared.request.Request.{Request}
use Rattle.lqh_block.specs.Abort as abort
use Rattle.lqh_block.specs.Commit as commit
use Rattle.lqh_block.specs.Complete as complete
use Rattle.lqh_block.specs.Expire as expire
use Rattle.lqh_block.specs.State.{LqhState, unlocked, with_lock, with_markers, with_rows, with_storage, with_waiting}
use Rattle.lqh_block.specs.Storage as storage
use Rattle.lqh_block.specs.Storage.{StorageState}
use Rattle.sig_core.specs.Work.{work_key}
use Rattle.lqh_block.specs.Work.{is_for}
use Rattle.sig_core.specs.Firsts.{drop_first}
use Rattle.key_laws.specs.Placed.{IsPlaced}
use Rattle.key_laws.specs.Replica.{aborting, ageing, aborts, ages, asks_for, at_key, cell_at, committing, commits}
use Rattle.key_laws.specs.Replica.{completes, completing, expired_by, expires, expires_if, if_on, is_by, key_after}
use Rattle.key_laws.specs.Replica.{rests}
use Rattle.key_laws.proofs.CellsAt.{cell-aborted, cell-committed, cell-completed}
use Rattle.sig_core.proofs.Firsts.{drop_by, filter-drop_first, filter-drop_other, first-drop}
use Rattle.key_laws.proofs.KeyAfter.{is_if, on_other, on_own, replica_is}
use Rattle.key_laws.proofs.LocksAt.{lock-aged, lock-kept}

-- the lock that is let go of
released_own : (s : LqhState) (tx : TxId) (own key : List ℕ) → own ≡ key
    → lock_at (kept s.locks own (released_at s.locks own tx).lock) key ≡ (released (lock_at s.locks key) tx).lock
released_own s tx own key at =
    lock-kept s.locks own key (released_at s.locks own tx).lock
    ∙ on_own own key (released_at s.locks own tx).lock (lock_at s.locks key) at
    ∙ ap (λ k. (released (lock_at s.locks k) tx).lock) at

released_other : (s : LqhState) (tx : TxId) (own key : List ℕ) → same_key own key ≡ false
    → lock_at (kept s.locks own (released_at s.locks own tx).lock) key ≡ lock_at s.locks key
released_other s tx own key off =
    lock-kept s.locks own key (released_at s.locks own tx).lock
    ∙ on_other own key (released_at s.locks own tx).lock (lock_at s.locks key) off

-- the rows after a commit, whatever was there
applied_rows : (s : LqhState) (tx : TxId) (key : List ℕ) (epoch : ℕ)
    → (commit.applied s tx key epoch (record_state s.rows tx key)).rows ≡ commit_record s.rows tx key epoch
unfolding record_state commit_record storage.committed_in
applied_rows s tx key epoch = by (record_at s.rows.pending tx key) refl (record_of s.rows tx key) refl
  where
    at_state : (at : Option ℕ) → record_at s.rows.pending tx key ≡ at → (r : PendingRecord)
        → record_of s.rows tx key ≡ Some r → (b : Bool) → r.committed ≡ b
        → (commit.applied s tx key epoch (Some b)).rows ≡ commit_by s.rows epoch at (Some r)
    at_state None at_is r is true e = refl
    at_state (Some at) at_is r is true e = sym (ap (rows.commit_if s.rows at r epoch) e)
    at_state at at_is r is false e = λ i. commit_by s.rows epoch (at_is i) (is i)

    by : (at : Option ℕ) → record_at s.rows.pending tx key ≡ at → (o : Option PendingRecord)
        → record_of s.rows tx key ≡ o
        → (commit.applied s tx key epoch (state_by o)).rows ≡ commit_by s.rows epoch at o
    by None at_is None is = refl
    by (Some at) at_is None is = refl
    by at at_is (Some r) is = at_state at at_is r is r.committed refl

-- what the walk calls so
pub committed_rows : {s : LqhState} {tx : TxId} {key : List ℕ} {epoch : ℕ} {had : Option Bool} {st : StorageState}
    {markers : List Marker}
    → Applies s tx key epoch had st markers → st.rows ≡ commit_record s.rows tx key epoch
committed_rows {s} {tx} {key} {epoch} applies =
    ap (λ (t : LqhState). t.rows) applies.is ∙ ap (λ o. (commit.applied s tx key epoch o).rows) (sym applies.had_is)
    ∙ applied_rows s tx key epoch

-- and after an abort
given_rows : (s : LqhState) (tx : TxId) (key : List ℕ)
    → (abort.given_up s tx key (record_state s.rows tx key)).rows ≡ abort_record s.rows tx key
unfolding record_state abort_record storage.aborted_in
given_rows s tx key = by (record_at s.rows.pending tx key) refl (record_of s.rows tx key) refl
  where
    at_state : (at : Option ℕ) → record_at s.rows.pending tx key ≡ at → (r : PendingRecord)
        → record_of s.rows tx key ≡ Some r → (b : Bool) → r.committed ≡ b
        → (abort.given_up s tx key (Some b)).rows ≡ rows.drop_by s.rows false at (Some r)
    at_state None at_is r is true e = refl
    at_state (Some at) at_is r is true e = sym (ap (λ b. rows.drop_if s.rows at r (not b)) e)
    at_state at at_is r is false e = λ i. rows.drop_by s.rows false (at_is i) (is i)

    by : (at : Option ℕ) → record_at s.rows.pending tx key ≡ at → (o : Option PendingRecord)
        → record_of s.rows tx key ≡ o
        → (abort.given_up s tx key (state_by o)).rows ≡ rows.drop_by s.rows false at o
    by None at_is None is = refl
    by (Some at) at_is None is = refl
    by at at_is (Some r) is = at_state at at_is r is r.committed refl

pub given_up_rows : {s : LqhState} {tx : TxId} {key : List ℕ} {had : Option Bool} {st : StorageState}
    → GivesUp s tx key had st → st.rows ≡ abort_record s.rows tx key
given_up_rows {s} {tx} {key} gives =
    ap (λ (t : LqhState). t.rows) (gives.is s.waiting) ∙ ap (λ o. (abort.given_up s tx key o).rows) (sym gives.had_is)
    ∙ given_rows s tx key

-- without the transaction's request, or where there is none
none_gone : (tx : TxId) (key : List ℕ) (xs : List Request) → position (is_for tx key) xs ≡ None
    → xs ≡ drop_first (is_for tx key) xs
none_gone tx key xs is = ap (drop_by xs) (sym is) ∙ first-drop (is_for tx key) xs

one_gone : (tx : TxId) (key : List ℕ) (xs : List Request) (at : ℕ) → position (is_for tx key) xs ≡ Some at
    → remove xs at ≡ drop_first (is_for tx key) xs
one_gone tx key xs at is = ap (drop_by xs) (sym is) ∙ first-drop (is_for tx key) xs

unasked_own : (tx : TxId) (own key : List ℕ) (xs : List Request) → own ≡ key
    → filter (asks_for key) (drop_first (is_for tx own) xs) ≡ drop_first (is_by tx) (filter (asks_for key) xs)
unasked_own tx own key xs at =
    ap (λ k. filter (asks_for key) (drop_first (is_for tx k) xs)) at
    ∙ filter-drop_first (asks_for key) (is_for tx key) (is_by tx) xs one both
  where
    one_if : (b c : Bool) → c ≡ true → (b && c) ≡ b
    one_if true c is = is
    one_if false c is = refl

    one : (x : Request) → asks_for key x ≡ true → is_for tx key x ≡ is_by tx x
    one x is = one_if (same_tx x.tx tx) (same_key (work_key x.work) key) is

    both : (x : Request) → is_for tx key x ≡ true → asks_for key x ≡ true
    both x is = (and_parts (same_tx x.tx tx) (same_key (work_key x.work) key) is).1

unasked_other : (tx : TxId) (own key : List ℕ) (xs : List Request) → same_key own key ≡ false
    → filter (asks_for key) (drop_first (is_for tx own) xs) ≡ filter (asks_for key) xs
unasked_other tx own key xs off =
    filter-drop_other (asks_for key) (is_for tx own) xs
    (λ x is. ap (λ k. same_key k key) (same (work_key x.work) own
    (and_parts (same_tx x.tx tx) (same_key (work_key x.work) own) is).1) ∙ off)

-- a commit
module _ (s : LqhState) (placed : IsPlaced s.rows) (tx : TxId) (own : List ℕ) (epoch : ℕ) (chain : List Member) (at : ℕ)
    (key : List ℕ) where
  done_cell : {had : Option Bool} {st : StorageState} {markers : List Marker} → Applies s tx own epoch had st markers
      → cell_at key st.rows ≡ (if same_key own key then committing (cell_at key s.rows) tx else cell_at key s.rows)
  done_cell applies = ap (cell_at key) (committed_rows applies) ∙ cell-committed s.rows placed tx own epoch key

  pub commit_event : at_key key (commit.commit_row s tx own epoch chain at).state
      ≡ key_after (if_on own key (commits tx (at == 0))) (at_key key s)
  commit_event =
      commit_forms (λ step. Comes step.state (at == 0)) s tx own epoch chain at (record {
        last = λ had st markers applies first.
            subst (Comes (unlocked (with_markers (with_storage s st) markers) tx own)) (sym first)
            (is_if own key (commits tx true) _ _
            (λ is. replica_is _ _ (done_cell applies
            ∙ on_own own key (committing (cell_at key s.rows) tx) (cell_at key s.rows) is)
            (released_own s tx own key is) refl)
            (λ off. replica_is _ _ (done_cell applies
            ∙ on_other own key (committing (cell_at key s.rows) tx) (cell_at key s.rows) off)
            (released_other s tx own key off) refl));
        passes = λ had st markers applies behind. subst (Comes (with_markers (with_storage s st) markers)) (sym behind)
            (is_if own key (commits tx false) _ _
            (λ is. replica_is _ _ (done_cell applies
            ∙ on_own own key (committing (cell_at key s.rows) tx) (cell_at key s.rows) is) refl refl)
            (λ off. replica_is _ _ (done_cell applies
            ∙ on_other own key (committing (cell_at key s.rows) tx) (cell_at key s.rows) off) refl refl));
      })
    where
      Comes : LqhState → Bool → Type 0
      Comes after last = at_key key after ≡ key_after (if_on own key (commits tx last)) (at_key key s)

-- a completion
pub complete_event : (s : LqhState) → IsPlaced s.rows
    → (tx : TxId) (own : List ℕ) (chain : List Member) (at : ℕ) (key : List ℕ)
    → at_key key (complete.complete_row s tx own chain at).state
    ≡ key_after (if_on own key (completes tx)) (at_key key s)
complete_event s placed tx own chain at key =
    complete_forms (λ step. at_key key step.state ≡ key_after (if_on own key (completes tx)) (at_key key s)) s tx own
    chain at
    (record { last = λ first. comes; passes = λ behind. comes })
  where
    comes : at_key key (unlocked (with_rows s (complete_record s.rows tx own)) tx own)
        ≡ key_after (if_on own key (completes tx)) (at_key key s)
    comes =
        is_if own key (completes tx) _ _
        (λ is. replica_is _ _ (cell-completed s.rows placed tx own key
        ∙ on_own own key (completing (cell_at key s.rows) tx) (cell_at key s.rows) is)
        (released_own s tx own key is) refl)
        (λ off. replica_is _ _ (cell-completed s.rows placed tx own key
        ∙ on_other own key (completing (cell_at key s.rows) tx) (cell_at key s.rows) off)
        (released_other s tx own key off) refl)

-- an abort
module _ (s : LqhState) (placed : IsPlaced s.rows) (tx : TxId) (own key : List ℕ) where
  -- without its request
  freed_event : {had : Option Bool} {st : StorageState} → GivesUp s tx own had st → (waiting : List Request)
      → waiting ≡ drop_first (is_for tx own) s.waiting
      → at_key key (unlocked (with_storage (with_waiting s waiting) st) tx own)
      ≡ key_after (if_on own key (aborts tx)) (at_key key s)
  freed_event {had} {st} gives waiting left =
      is_if own key (aborts tx) _ _
      (λ is. replica_is _ _ (given_cell ∙ on_own own key (aborting (cell_at key s.rows) tx) (cell_at key s.rows) is)
      (released_own s tx own key is)
      (ap (filter (asks_for key)) left ∙ unasked_own tx own key s.waiting is))
      (λ off. replica_is _ _ (given_cell ∙ on_other own key (aborting (cell_at key s.rows) tx) (cell_at key s.rows) off)
      (released_other s tx own key off)
      (ap (filter (asks_for key)) left ∙ unasked_other tx own key s.waiting off))
    where
      given_cell : cell_at key st.rows ≡ (if same_key own key then aborting (cell_at key s.rows) tx else
          cell_at key s.rows)
      given_cell = ap (cell_at key) (given_up_rows gives) ∙ cell-aborted s.rows placed tx own key

  pub abort_event : at_key key (abort.abort_row s tx own).state ≡ key_after (if_on own key (aborts tx)) (at_key key s)
  abort_event =
      abort_forms (λ step. at_key key step.state ≡ key_after (if_on own key (aborts tx)) (at_key key s)) s tx own
      (record {
        none = λ had st gives none. freed_event gives s.waiting (none_gone tx own s.waiting none);
        some = λ had st gives at r there here.
            freed_event gives (remove s.waiting at) (one_gone tx own s.waiting at there);
      })

-- a wait that ends
pub expire_event : (s : LqhState) (key : List ℕ)
    → at_key key (expire.expire_row s).state ≡ key_after (expires_if key (expired s.locks)) (at_key key s)
expire_event s key =
    expire_forms (λ step. Comes step.state (expired s.locks)) s (record {
      rests = λ is. subst (Comes s) (sym is) refl;
      none = λ tx own is none. subst (Comes (left tx own s.waiting)) (sym is)
          (ended tx own s.waiting (none_gone tx own s.waiting none));
      some = λ tx own is at r there here.
          subst (Comes (left tx own (remove s.waiting at))) (sym is)
          (ended tx own (remove s.waiting at) (one_gone tx own s.waiting at there));
    })
  where
    Comes : LqhState → Option (TxId × List ℕ) → Type 0
    Comes after wait = at_key key after ≡ key_after (expires_if key wait) (at_key key s)

    left : TxId → List ℕ → List Request → LqhState
    left tx own waiting = with_waiting (with_lock s own (unwaited_at s.locks own tx)) waiting

    ended : (tx : TxId) (own : List ℕ) (waiting : List Request) → waiting ≡ drop_first (is_for tx own) s.waiting
        → Comes (left tx own waiting) (Some (tx, own))
    ended tx own waiting gone =
        is_if own key (expires tx) _ _
        (λ is. replica_is _ _ refl
        (lock-kept s.locks own key (unwaited_at s.locks own tx).lock
        ∙ on_own own key (unwaited_at s.locks own tx).lock (lock_at s.locks key) is
        ∙ ap (λ k. (unwaited (lock_at s.locks k) tx).lock) is)
        (ap (filter (asks_for key)) gone ∙ unasked_own tx own key s.waiting is))
        (λ off. replica_is _ _ refl
        (lock-kept s.locks own key (unwaited_at s.locks own tx).lock
        ∙ on_other own key (unwaited_at s.locks own tx).lock (lock_at s.locks key) off)
        (ap (filter (asks_for key)) gone ∙ unasked_other tx own key s.waiting off))

-- a round
pub round_event : (s : LqhState) (key : List ℕ)
    → at_key key (expire.round_row s).state
    ≡ key_after (ages (expired_by key (expired (expire.aged s).locks))) (at_key key s)
round_event s key =
    expire_event (expire.aged s) key
    ∙ ap (key_after (expires_if key (expired (expire.aged s).locks))) (replica_is _ _ refl (lock-aged s.locks key) refl)
    ∙ by (expired (expire.aged s).locks)
  where
    by_if : (b : Bool) (tx : TxId) → key_after (if b then expires tx else rests) (ageing (at_key key s))
        ≡ key_after (ages (if b then Some tx else None)) (at_key key s)
    by_if true tx = refl
    by_if false tx = refl

    by : (wait : Option (TxId × List ℕ))
        → key_after (expires_if key wait) (ageing (at_key key s))
        ≡ key_after (ages (expired_by key wait)) (at_key key s)
    by None = refl
    by (Some wait) = by_if (same_key wait.1 key) wait.0
