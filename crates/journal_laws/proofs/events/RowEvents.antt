-- A step of a node's rows makes an event of them or none, whichever form it has.
use Rattle.std.proofs.Common.{◌≡◌, ◌≤◌, List, [], ◌∷◌, ℕ, Bool, true, false, refl, sym, ap, subst}
use Rattle.std.specs.Prelude.{IfSome, Option, None, Some, is_some, remove}
use Rattle.run_theory.specs.Lists.{Each}
use Rattle.run_theory.proofs.EachSent.{each_get, each_removed}
use Rattle.run_theory.proofs.Pasts.{each_append}
use Rattle.sig_core.specs.declared.member.Member.{Member}
use Rattle.sig_core.specs.declared.member.TxId.{TxId}
use Rattle.sig_core.specs.declared.op.Answer.{Answer}
use Rattle.sig_core.specs.declared.op.Answer.TheVariants as answer
use Rattle.sig_core.specs.declared.op.Op.{Op}
use Rattle.sig_core.specs.declared.redo.Redo.TheVariants as redo
use Rattle.sig_core.specs.declared.signal.Body.{Body}
use Rattle.sig_core.specs.declared.signal.Body.TheVariants.{Chain}
use Rattle.sig_core.specs.declared.signal.chain.ChainSignal.TheVariants as chain
use Rattle.sig_core.specs.declared.signal.chain.RowWork.{RowWork}
use Rattle.sig_core.specs.declared.signal.chain.RowWork.TheVariants.{Operate, Store}
use Rattle.sig_core.specs.Journal.{behind}
use Rattle.sig_core.specs.Op.{answer_to, image_of, key_of}
use Rattle.sig_core.specs.declared.rows.PendingRecord.{PendingRecord}
use Rattle.sig_core.specs.declared.view.Shape.{Shape}
use Rattle.sig_core.specs.Rows.{RowsState, committed, complete_record, is_full, is_of, record_state, seen, storing}
use Rattle.sig_core.specs.Work.{work_image, work_key}
use Rattle.frag_map.specs.Fragment.{frag_of}
use Rattle.redo_format.specs.Records.{IsKey, IsTransaction, IsValue}
use Rattle.redo_log.specs.Replaying.{AreRecords}
use Rattle.local_ckpt.specs.Events.{Abort, Commit, Complete, Event, Prepare, log_if}
use Rattle.lqh_block.specs.Abort as abort
use Rattle.lqh_block.specs.Commit as commit
use Rattle.lqh_block.specs.declared.request.Marker.{Marker}
use Rattle.lqh_block.specs.declared.request.Request.{Request}
use Rattle.lqh_block.specs.Expire as expire
use Rattle.lqh_block.specs.Lqh.{lqh_table}
use Rattle.lqh_block.specs.Operate as operate
use Rattle.lqh_block.specs.State.{LqhState, storage_of, unlocked, with_markers, with_rows, with_storage}
use Rattle.lqh_block.specs.State.{with_waiting}
use Rattle.lqh_block.specs.Storage as storage
use Rattle.lqh_block.specs.Storage.{StorageState}
use Rattle.lqh_block.proofs.LqhForms.{Applies, ExpireForms, GivesUp, LqhForms, lqh_forms}
use Rattle.journal_laws.specs.Events.{IsMadeBy, behind_all, records_if}
use Rattle.journal_laws.specs.Saver.{IsNoStep}
use Rattle.journal_laws.proofs.events.PendingRecords.{IsOpen, each_aborted, each_committed, each_completed, each_first}
use Rattle.journal_laws.proofs.events.PendingRecords.{each_stored, open_image, open_key, open_one, open_tx}
use Rattle.journal_laws.proofs.events.Writable.{AreWritable, IsOwned, IsRequest, IsWritable, fragment_few}

-- What became of the rows: an event, or none, at a signal that says this. Where the rows and the signal can be written,
-- so can its records, and the rows behind it.
pub record Makes (s t : LqhState) (body : Body) : Type 0 where
  pub event : Option Event
  pub by : IsMadeBy s t body event
  pub no_step : IsNoStep event
  pub writes : AreWritable s → IsWritable body → AreWritable t × AreRecords (records_if event s.rows)

-- only locks, markers and what waits have changed
pub record LeavesStorage (s t : LqhState) (body : Body) : Type 0 where
  pub rows : t.rows ≡ s.rows
  pub outlet : t.outlet ≡ s.outlet
  pub shape : t.layout.shape ≡ s.layout.shape
  pub waiting : AreWritable s → IsWritable body → Each IsRequest t.waiting

-- the rows can be written still, where only what waits and the records are others
still_written : (s t : LqhState) → AreWritable s → t.layout.shape ≡ s.layout.shape → Each IsRequest t.waiting
    → Each IsOwned t.rows.pending → AreWritable t
still_written s t are shape waiting pending = record {
  fragments_some = subst (λ (shape : Shape). 1 ≤ shape.fragments) (sym shape) are.fragments_some;
  fragments_few = subst (λ (shape : Shape). shape.fragments ≤ 32) (sym shape) are.fragments_few;
  waiting = waiting;
  pending = pending;
}

-- then there is no event
left_so : (s t : LqhState) (body : Body) → LeavesStorage s t body → Makes s t body
left_so s t body leaves = record {
  event = None;
  by = record { rows = leaves.rows; outlet = leaves.outlet; ordered = tt; prepared = tt };
  no_step = tt;
  writes = λ are writable. (
    still_written s t are leaves.shape (leaves.waiting are writable)
        (subst (λ (rows : RowsState). Each IsOwned rows.pending) (sym leaves.rows) are.pending),
    tt,
  );
}

-- a lock was let go of, too
unlocked_so : (s t : LqhState) (body : Body) (tx : TxId) (key : List ℕ) → Makes s t body
    → Makes s (unlocked t tx key) body
unlocked_so s t body tx key makes = record {
  event = makes.event;
  by = record {
    rows = makes.by.rows;
    outlet = makes.by.outlet;
    ordered = makes.by.ordered;
    prepared = makes.by.prepared;
  };
  no_step = makes.no_step;
  writes = λ are writable.
      let now = makes.writes are writable in (
        record {
          fragments_some = now.0.fragments_some;
          fragments_few = now.0.fragments_few;
          waiting = now.0.waiting;
          pending = now.0.pending;
        },
        now.1,
      );
}

-- a record that is committed is whose it was
owned_still : (r : PendingRecord) (epoch : ℕ) → IsOwned r → IsOwned (committed r epoch)
owned_still r epoch own = own

-- A request that is performed prepares an image, or nothing.
module _ (s t : LqhState) (body : Body) (r : Request) (leaves : LeavesStorage s t body)
    (owned : AreWritable s → IsWritable body → IsRequest r) where
  abbrev MakesBy : StorageState → Type 0
  MakesBy st = Makes s (with_storage t st) body

  nothing : MakesBy (storage_of t)
  nothing = left_so s (with_storage t (storage_of t)) body (record {
    rows = leaves.rows;
    outlet = leaves.outlet;
    shape = leaves.shape;
    waiting = leaves.waiting;
  })

  prepares : (key : List ℕ) (image : Option (List ℕ)) → work_key r.work ≡ key → work_image r.work ≡ image
      → MakesBy (storage.prepared_in (storage_of t) r.tx key image)
  prepares key image key_is image_is =
      let fragment : ℕ = frag_of t.layout.shape key in
      record {
        event = Some (Prepare r.tx fragment key image);
        by = record {
          rows = ap (λ rows. storing rows r.tx key image) leaves.rows;
          outlet = ap (λ o. behind o (redo.Prepare r.tx fragment key image)) leaves.outlet;
          ordered = tt;
          prepared = tt;
        };
        no_step = tt;
        writes = λ are writable.
            let own : IsRequest r = owned are writable in
            let own_key : IsKey key = subst IsKey key_is own.1.0 in
            let now : AreWritable (with_storage t (storage.prepared_in (storage_of t) r.tx key image)) =
            still_written s (with_storage t (storage.prepared_in (storage_of t) r.tx key image)) are leaves.shape
            (leaves.waiting are writable)
            (each_stored IsOwned owned_still t.rows r.tx key image (own.0, own_key)
            (subst (λ (rows : RowsState). Each IsOwned rows.pending) (sym leaves.rows) are.pending)) in (
              now,
              (
                (
                  own.0,
                  fragment_few t.layout.shape key now.fragments_some now.fragments_few,
                  own_key,
                  subst (λ image. IfSome image IsValue) image_is own.1.1,
                ),
                tt,
              ),
            );
      }

  stores : (key : List ℕ) (image : Option (List ℕ)) → work_key r.work ≡ key → work_image r.work ≡ image
      → MakesBy (storage.store_row (storage_of t) r.tx key image r.chain r.at).state
  unfolding storage.store_row
  stores key image key_is image_is =
      by (storage.is_log_full t.journal (storage.need_of r.tx key image)) (is_full t.rows key)
    where
      by : (log full : Bool) → MakesBy (storage.store_if (storage_of t) r.tx key image r.chain r.at log full).state
      by true full = nothing
      by false true = nothing
      by false false = prepares key image key_is image_is

  operates : (op : Op) → r.work ≡ Operate op → (a : Answer)
      → MakesBy (storage.operate_by (storage_of t) r.tx op r.chain r.at a).state
  operates op is answer.Done = stores (key_of op) (image_of op) (ap work_key is) (ap work_image is)
  operates op is (answer.Found value) = nothing
  operates op is answer.Missing = nothing
  operates op is answer.E626 = nothing
  operates op is answer.E630 = nothing

  performs : Makes s (operate.performed t r).state body
  unfolding storage.perform
  performs = by r.work refl
    where
      by : (w : RowWork) → r.work ≡ w → MakesBy (storage.perform_by (storage_of t) r.tx r.chain r.at w).state
      by (Operate op) is = operates op is (answer_to op (seen t.rows r.tx (key_of op)))
      by (Store key image) is = stores key image (ap work_key is) (ap work_image is)

module _ (s : LqhState) where
  -- nothing but locks, markers and requests that wait
  pub same_so : (body : Body) (t : LqhState) → t.rows ≡ s.rows → t.outlet ≡ s.outlet
      → t.layout.shape ≡ s.layout.shape → (Each IsRequest s.waiting → Each IsRequest t.waiting) → Makes s t body
  same_so body t rows outlet shape waiting =
      left_so s t body (record {
        rows = rows;
        outlet = outlet;
        shape = shape;
        waiting = λ are writable. waiting are.waiting;
      })

  -- a commit of what is prepared
  commits : (tx : TxId) (key : List ℕ) (epoch : ℕ) (members : List Member) (at : ℕ) (had : Option Bool)
      → record_state s.rows tx key ≡ had
      → Makes s (commit.applied s tx key epoch had) (Chain (chain.Commit tx key epoch members at))
  unfolding storage.committed_in
  commits tx key epoch members at None there = same_so _ s refl refl refl (λ all. all)
  commits tx key epoch members at (Some true) there = same_so _ s refl refl refl (λ all. all)
  commits tx key epoch members at (Some false) there =
      let open_is : IsOpen s.rows tx key = open_one s.rows tx key there in
      let image = open_image s.rows tx key open_is in
      record {
        event = Some (Commit tx key epoch);
        by = record {
          rows = refl;
          outlet = ap (λ o. behind_all (log_if (redo.Commit tx epoch key) o []) s.outlet) (sym image);
          ordered = (members, (at, refl));
          prepared = ap is_some image;
        };
        no_step = tt;
        writes = λ are writable.
            let own : IsOwned open_is.one = each_first IsOwned (is_of tx key) s.rows.pending open_is.one are.pending
            open_is.found in (
              record {
                fragments_some = are.fragments_some;
                fragments_few = are.fragments_few;
                waiting = are.waiting;
                pending = each_committed IsOwned owned_still s.rows tx key epoch are.pending;
              },
              subst (λ o. AreRecords (log_if (redo.Commit tx epoch key) o [])) (sym image) (
                (
                  subst IsTransaction (open_tx s.rows tx key open_is) own.0,
                  writable,
                  subst IsKey (open_key s.rows tx key open_is) own.1,
                ),
                tt,
              ),
            );
      }

  commits_by : (tx : TxId) (key : List ℕ) (epoch : ℕ) (members : List Member) (at : ℕ) (had : Option Bool)
      (st : StorageState) (markers : List Marker) → Applies s tx key epoch had st markers
      → Makes s (with_markers (with_storage s st) markers) (Chain (chain.Commit tx key epoch members at))
  commits_by tx key epoch members at had st markers applies =
      subst (λ t. Makes s t (Chain (chain.Commit tx key epoch members at))) (sym applies.is)
      (commits tx key epoch members at had applies.had_is)

  -- an abort of it, with the requests that still wait
  gives_up : (tx : TxId) (key : List ℕ) (waiting : List Request) → (Each IsRequest s.waiting → Each IsRequest waiting)
      → (had : Option Bool) → record_state s.rows tx key ≡ had
      → Makes s (abort.given_up (with_waiting s waiting) tx key had) (Chain (chain.Abort tx key))
  unfolding storage.aborted_in
  gives_up tx key waiting fewer None there = same_so _ (with_waiting s waiting) refl refl refl fewer
  gives_up tx key waiting fewer (Some true) there = same_so _ (with_waiting s waiting) refl refl refl fewer
  gives_up tx key waiting fewer (Some false) there =
      let open_is : IsOpen s.rows tx key = open_one s.rows tx key there in
      let image = open_image s.rows tx key open_is in
      record {
        event = Some (Abort tx key);
        by = record {
          rows = refl;
          outlet = ap (λ o. behind_all (log_if (redo.Abort tx key) o []) s.outlet) (sym image);
          ordered = tt;
          prepared = tt;
        };
        no_step = tt;
        writes = λ are writable.
            let own : IsOwned open_is.one = each_first IsOwned (is_of tx key) s.rows.pending open_is.one are.pending
            open_is.found in (
              record {
                fragments_some = are.fragments_some;
                fragments_few = are.fragments_few;
                waiting = fewer are.waiting;
                pending = each_aborted IsOwned owned_still s.rows tx key are.pending;
              },
              subst (λ o. AreRecords (log_if (redo.Abort tx key) o [])) (sym image) (
                (
                  subst IsTransaction (open_tx s.rows tx key open_is) own.0,
                  subst IsKey (open_key s.rows tx key open_is) own.1,
                ),
                tt,
              ),
            );
      }

  aborts_by : (tx : TxId) (key : List ℕ) (waiting : List Request)
      → (Each IsRequest s.waiting → Each IsRequest waiting) → (had : Option Bool) (st : StorageState)
      → GivesUp s tx key had st
      → Makes s (unlocked (with_storage (with_waiting s waiting) st) tx key) (Chain (chain.Abort tx key))
  aborts_by tx key waiting fewer had st gives =
      unlocked_so s (with_storage (with_waiting s waiting) st) (Chain (chain.Abort tx key)) tx key
      (subst (λ t. Makes s t (Chain (chain.Abort tx key))) (sym (gives.is waiting))
      (gives_up tx key waiting fewer had gives.had_is))

  -- a completion
  completes : (tx : TxId) (key : List ℕ) (body : Body)
      → Makes s (unlocked (with_rows s (complete_record s.rows tx key)) tx key) body
  completes tx key body = record {
    event = Some (Complete tx key);
    by = record { rows = refl; outlet = refl; ordered = tt; prepared = tt };
    no_step = tt;
    writes = λ are writable. (
      record {
        fragments_some = are.fragments_some;
        fragments_few = are.fragments_few;
        waiting = are.waiting;
        pending = each_completed IsOwned owned_still s.rows tx key are.pending;
      },
      tt,
    );
  }

  -- a wait ends, also where the locks are a round older
  expires : (t : LqhState) (body : Body) → t.rows ≡ s.rows → t.outlet ≡ s.outlet → t.layout.shape ≡ s.layout.shape
      → t.waiting ≡ s.waiting → ExpireForms (λ step. Makes s step.state body) t
  expires t body rows outlet shape waiting = record {
    rests = λ is. same_so body t rows outlet shape (subst (Each IsRequest) (sym waiting));
    none = λ tx key is none. same_so body _ rows outlet shape (subst (Each IsRequest) (sym waiting));
    some = λ tx key is at r there here.
        same_so body _ rows outlet shape
        (λ all. each_removed IsRequest t.waiting at (subst (Each IsRequest) (sym waiting) all));
  }

  forms : LqhForms (λ body step. Makes s step.state body) s
  forms = record {
    asks = λ r. record {
      granted = λ is.
          performs s (operate.asked_for s r) (Chain (chain.LqhKeyReq r.tx r.work r.chain r.at)) r
          (record { rows = refl; outlet = refl; shape = refl; waiting = λ are writable. are.waiting })
          (λ are writable. writable);
      queued = λ ahead is.
          left_so s _ (Chain (chain.LqhKeyReq r.tx r.work r.chain r.at)) (record {
            rows = refl;
            outlet = refl;
            shape = refl;
            waiting = λ are writable. each_append IsRequest s.waiting (r ∷ []) are.waiting (writable, tt);
          });
    };
    grants = λ at. record {
      none = λ is. same_so _ s refl refl refl (λ all. all);
      some = λ place r is here.
          performs s (with_waiting s (remove s.waiting place)) _ r
          (record {
            rows = refl;
            outlet = refl;
            shape = refl;
            waiting = λ are writable. each_removed IsRequest s.waiting place are.waiting;
          })
          (λ are writable. each_get IsRequest s.waiting place r are.waiting here);
    };
    commits = λ tx key epoch members at. record {
      last = λ had st markers applies first.
          unlocked_so s (with_markers (with_storage s st) markers) _ tx key
          (commits_by tx key epoch members at had st markers applies);
      passes = λ had st markers applies first. commits_by tx key epoch members at had st markers applies;
    };
    completes = λ tx key members at. record {
      last = λ first. completes tx key _;
      passes = λ first. completes tx key _;
    };
    aborts = λ tx key. record {
      none = λ had st gives none. aborts_by tx key s.waiting (λ all. all) had st gives;
      some = λ had st gives at r there here.
          aborts_by tx key (remove s.waiting at) (each_removed IsRequest s.waiting at) had st gives;
    };
    acknowledges = λ tx markers. same_so _ (with_markers s markers) refl refl refl (λ all. all);
    waits = λ tx key. record {
      none = λ is. same_so _ s refl refl refl (λ all. all);
      some = λ ahead is. same_so _ s refl refl refl (λ all. all);
    };
    dumps = λ at rows next. same_so _ s refl refl refl (λ all. all);
    ages = expires (expire.aged s) _ refl refl refl refl;
    expires = λ at. expires s _ refl refl refl refl;
    rests = λ body is. same_so body s refl refl refl (λ all. all);
  }

-- whatever the rows take
pub rows_make : (s : LqhState) (body : Body) → Makes s (lqh_table s body).state body
rows_make s body = lqh_forms (λ body step. Makes s step.state body) s (forms s) body
