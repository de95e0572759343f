-- What a node's rows know of their records and markers stays so at each step: a record is committed, and a marker
-- added, only where a signal tells the epoch, and a record that is prepared anew isn't committed.
use Rattle.std.proofs.Common.{◌≡◌, ◌&&◌, ℕ, Bool, true, false, cond, List, [], ◌∷◌, refl, sym, subst}
use Rattle.std.proofs.lemmas.Bool.{true≢false}
use Rattle.std.specs.Prelude.{Option, None, Some, filter, remove}
use Rattle.std.specs.List.{list_any}
use Rattle.run_theory.specs.Lists.{Each}
use Rattle.run_theory.proofs.EachSent.{each_removed, each_set}
use Rattle.run_theory.proofs.Focus.{taken_at}
use Rattle.run_theory.proofs.Pasts.{each_append}
use Rattle.sig_core.specs.declared.member.TxId.{TxId}
use Rattle.sig_core.specs.declared.rows.PendingRecord.{PendingRecord}
use Rattle.sig_core.specs.declared.signal.Body.{Body}
use Rattle.sig_core.specs.declared.signal.Body.TheVariants.{Client}
use Rattle.sig_core.specs.declared.signal.client.ClientSignal.TheVariants.{TcCommitAck}
use Rattle.sig_core.specs.Rows.{RowsState, abort_record, commit_by, commit_if, commit_record, complete_record}
use Rattle.sig_core.specs.Rows.{committed, drop_by, drop_if, get_at, is_as, is_of, prepared, record_at, record_of}
use Rattle.sig_core.specs.Rows.{recorded_by, storing}
use Rattle.sig_core.specs.Same.{same_key, same_tx}
use Rattle.sig_core.specs.Step.{Step, stay}
use Rattle.sig_core.specs.Work.{work_key}
use Rattle.sig_core.proofs.TxLemmas.{same_tx-is}
use Rattle.lqh_block.specs.declared.request.Marker.{Marker}
use Rattle.lqh_block.specs.declared.request.Request.{Request}
use Rattle.lqh_block.specs.Abort as abort
use Rattle.lqh_block.specs.Commit as commit
use Rattle.lqh_block.specs.Commit.{is_marker, marker_of}
use Rattle.lqh_block.specs.Lqh.{lqh_table}
use Rattle.lqh_block.specs.Operate as operate
use Rattle.lqh_block.specs.State.{LqhState, storage_of, with_markers, with_rows, with_storage, with_waiting}
use Rattle.lqh_block.specs.Storage as storage
use Rattle.lqh_block.specs.Storage.{StorageState}
use Rattle.lqh_block.specs.Wait.{acknowledged, is_other}
use Rattle.lqh_block.proofs.LqhForms.{Applies, GivesUp, LqhForms, lqh_forms, perform_forms}
use Rattle.outcome_laws.specs.Known.{IsDecidedIf}
use Rattle.outcome_laws.specs.Tells.{Tells}

each_filtered : {A : Type 0} (P : A → Type 0) (p : A → Bool) (xs : List A) → Each P xs → Each P (filter p xs)
each_filtered P p [] all = tt
each_filtered P p (x ∷ xs) all = by (p x) (each_filtered P p xs all.1)
  where
    by : (b : Bool) → Each P (filter p xs) → Each P (cond b (x ∷ filter p xs) (filter p xs))
    by true more = (all.0, more)
    by false more = more

first_of_both : (a b : Bool) → (a && b) ≡ true → a ≡ true
first_of_both true b is = refl
first_of_both false b is = absurd (true≢false (sym is))

module _ (D : TxId → ℕ → Type 0) (B : TxId → Type 0) where
  -- where the record is committed, its transaction was decided in its epoch, and so with a marker
  abbrev pub IsKnownRecord : PendingRecord → Type 0
  IsKnownRecord r = IsDecidedIf D B r r.committed

  abbrev pub IsKnownMarker : Marker → Type 0
  IsKnownMarker m = D m.tx m.epoch

  abbrev AreKnown : List PendingRecord → Type 0
  AreKnown pending = Each IsKnownRecord pending

  abbrev pub ListsKnow : LqhState → Type 0
  ListsKnow s = AreKnown s.rows.pending × Each IsKnownMarker s.markers

  -- a record is made, or takes the place of the one before
  recorded : (tx : TxId) (key : List ℕ) (image : Option (List ℕ)) (pending : List PendingRecord) → AreKnown pending
      → (at : Option ℕ) → AreKnown (recorded_by pending (prepared tx key image) at)
  recorded tx key image pending known None =
      each_append IsKnownRecord pending (prepared tx key image ∷ []) known (tt, tt)
  recorded tx key image pending known (Some at) =
      each_set IsKnownRecord pending at (prepared tx key image) known tt

  stored : (s : RowsState) (tx : TxId) (key : List ℕ) (image : Option (List ℕ)) → AreKnown s.pending
      → AreKnown (storing s tx key image).pending
  unfolding storing
  stored s tx key image known = recorded tx key image s.pending known (record_at s.pending tx key)

  -- one is committed in the epoch in which its transaction was decided
  committed_one : (s : RowsState) (tx : TxId) (key : List ℕ) (epoch : ℕ) → D tx epoch → AreKnown s.pending
      → AreKnown (commit_record s tx key epoch).pending
  unfolding commit_record record_of
  committed_one s tx key epoch decided known =
      by (record_at s.pending tx key) refl (get_at s.pending (record_at s.pending tx key)) refl
    where
      by_if : (at : ℕ) (r : PendingRecord) → r.tx ≡ tx → (done : Bool)
          → AreKnown (commit_if s at r epoch done).pending
      by_if at r same true = known
      by_if at r same false =
          each_set IsKnownRecord s.pending at (committed r epoch) known (subst (λ u. D u epoch) (sym same) decided)

      own : (at : ℕ) → record_at s.pending tx key ≡ Some at → (r : PendingRecord) → get_at s.pending (Some at) ≡ Some r
          → r.tx ≡ tx
      own at place r there =
          let taken = taken_at (is_of tx key) s.pending at r place there in
          same_tx-is r.tx tx (first_of_both (same_tx r.tx tx) (same_key r.key key) taken.passes)

      by : (at : Option ℕ) → record_at s.pending tx key ≡ at → (r : Option PendingRecord) → get_at s.pending at ≡ r
          → AreKnown (commit_by s epoch at r).pending
      by None place None there = known
      by None place (Some r) there = known
      by (Some at) place None there = known
      by (Some at) place (Some r) there = by_if at r (own at place r there) r.committed

  -- one is dropped
  dropped : (s : RowsState) (done : Bool) (at : Option ℕ) (r : Option PendingRecord) → AreKnown s.pending
      → AreKnown (drop_by s done at r).pending
  dropped s done None None known = known
  dropped s done None (Some r) known = known
  dropped s done (Some at) None known = known
  dropped s done (Some at) (Some r) known = by (is_as done r.committed)
    where
      by : (b : Bool) → AreKnown (drop_if s at r b).pending
      by true = each_removed IsKnownRecord s.pending at known
      by false = known

  given_up : (s : RowsState) (tx : TxId) (key : List ℕ) → AreKnown s.pending
      → AreKnown (abort_record s tx key).pending
  unfolding abort_record
  given_up s tx key known = dropped s false (record_at s.pending tx key) (record_of s tx key) known

  completed : (s : RowsState) (tx : TxId) (key : List ℕ) → AreKnown s.pending
      → AreKnown (complete_record s tx key).pending
  unfolding complete_record
  completed s tx key known = dropped s true (record_at s.pending tx key) (record_of s tx key) known

  -- a commit is marked
  marked : (tx : TxId) (key : List ℕ) (epoch : ℕ) (markers : List Marker) → D tx epoch → Each IsKnownMarker markers
      → Each IsKnownMarker (commit.marked markers tx key epoch)
  marked tx key epoch markers decided known = by (list_any (is_marker tx key) markers)
    where
      by : (b : Bool) → Each IsKnownMarker (commit.marked_if markers (marker_of tx key epoch) b)
      by true = known
      by false = each_append IsKnownMarker markers (marker_of tx key epoch ∷ []) known (decided, tt)

  -- a request that is performed
  performs : (s : StorageState) (r : Request) → AreKnown s.rows.pending
      → AreKnown (storage.perform s r).state.rows.pending
  performs s r known = perform_forms (λ step. AreKnown step.state.rows.pending) s r (record {
    log_full = λ used reserved need. known;
    table_full = λ rows. known;
    answers = λ a. known;
    passes = λ image next is. stored s.rows r.tx (work_key r.work) image known;
    ends = λ image is. stored s.rows r.tx (work_key r.work) image known;
  })

  performed : (s : LqhState) (r : Request) → ListsKnow s → ListsKnow (operate.performed s r).state
  performed s r known = (performs (storage_of s) r known.0, known.1)

  -- a commit, and an abort, whatever record there was
  applied : (s : LqhState) (tx : TxId) (key : List ℕ) (epoch : ℕ) (had : Option Bool) → D tx epoch → ListsKnow s
      → ListsKnow (commit.applied s tx key epoch had)
  unfolding storage.committed_in
  applied s tx key epoch None decided known = known
  applied s tx key epoch (Some true) decided known = known
  applied s tx key epoch (Some false) decided known =
      (committed_one s.rows tx key epoch decided known.0, marked tx key epoch s.markers decided known.1)

  commits : (s : LqhState) (tx : TxId) (key : List ℕ) (epoch : ℕ) (had : Option Bool) (st : StorageState)
      (markers : List Marker) → Applies s tx key epoch had st markers → D tx epoch → ListsKnow s
      → ListsKnow (with_markers (with_storage s st) markers)
  commits s tx key epoch had st markers applies decided known =
      subst ListsKnow (sym applies.is) (applied s tx key epoch had decided known)

  abandoned : (s : LqhState) (tx : TxId) (key : List ℕ) (waiting : List Request) (had : Option Bool) → ListsKnow s
      → ListsKnow (abort.given_up (with_waiting s waiting) tx key had)
  unfolding storage.aborted_in
  abandoned s tx key waiting None known = known
  abandoned s tx key waiting (Some true) known = known
  abandoned s tx key waiting (Some false) known = (given_up s.rows tx key known.0, known.1)

  aborts : (s : LqhState) (tx : TxId) (key : List ℕ) (had : Option Bool) (st : StorageState) (waiting : List Request)
      → GivesUp s tx key had st → ListsKnow s → ListsKnow (with_storage (with_waiting s waiting) st)
  aborts s tx key had st waiting gives known =
      subst ListsKnow (sym (gives.is waiting)) (abandoned s tx key waiting had known)

  -- at each signal but the one at which markers go
  abbrev Knows : Body → Step LqhState → Type 0
  Knows (Client (TcCommitAck tx)) step = Unit {0}
  Knows body step = Tells D B body → ListsKnow step.state

  rests : (s : LqhState) → ListsKnow s → (body : Body) → Knows body (stay s)
  rests s known (Client (TcCommitAck tx)) = tt
  rests s known body = λ told. known

  forms : (s : LqhState) → ListsKnow s → LqhForms Knows s
  forms s known = record {
    asks = λ r. record { granted = λ is told. performed s r known; queued = λ ahead is told. known };
    grants = λ at. record { none = λ is told. known; some = λ place r is here told. performed s r known };
    commits = λ tx key epoch chain at. record {
      last = λ had st markers applies first decided. commits s tx key epoch had st markers applies decided known;
      passes = λ had st markers applies first decided. commits s tx key epoch had st markers applies decided known;
    };
    completes = λ tx key chain at. record { last = λ first told. ended tx key; passes = λ first told. ended tx key };
    aborts = λ tx key. record {
      none = λ had st gives none told. aborts s tx key had st s.waiting gives known;
      some = λ had st gives at r there here told. aborts s tx key had st (remove s.waiting at) gives known;
    };
    acknowledges = λ tx markers. tt;
    waits = λ tx key. record { none = λ is told. known; some = λ ahead is told. known };
    dumps = λ at rows next told. known;
    ages = record {
      rests = λ is told. known;
      none = λ tx key is none told. known;
      some = λ tx key is at r there here told. known;
    };
    expires = λ at. record {
      rests = λ is told. known;
      none = λ tx key is none told. known;
      some = λ tx key is place r there here told. known;
    };
    rests = λ body is. rests s known body;
  }
    where
      ended : (tx : TxId) (key : List ℕ) → ListsKnow (with_rows s (complete_record s.rows tx key))
      ended tx key = (completed s.rows tx key known.0, known.1)

  -- whatever the rows take
  pub lists_know : (s : LqhState) (body : Body) → ListsKnow s → Tells D B body → ListsKnow (lqh_table s body).state
  unfolding acknowledged
  lists_know s (Client (TcCommitAck tx)) known told =
      (known.0, each_filtered IsKnownMarker (is_other tx) s.markers known.1)
  lists_know s body known told = lqh_forms Knows s (forms s known) body told
