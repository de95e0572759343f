-- What a step of the rows makes of the records and of the markers: an entry that stays moves towards the front alone.
use Rattle.std.proofs.Common.{◌≡◌, ◌∙◌, ◌&&◌, ℕ, Bool, true, false, List, refl, sym, subst}
use Rattle.std.proofs.lemmas.Bool.{true≢false}
use Rattle.std.specs.Prelude.{Option, None, Some, position, remove, slice_get, slice_set}
use Rattle.std.specs.List.{list_any}
use Rattle.run_theory.proofs.Focus.{taken_at}
use Rattle.sig_core.specs.declared.member.TxId.{TxId}
use Rattle.sig_core.specs.declared.rows.PendingRecord.{PendingRecord}
use Rattle.sig_core.specs.declared.signal.Body.{Body}
use Rattle.sig_core.specs.declared.signal.Body.TheVariants.{Client}
use Rattle.sig_core.specs.declared.signal.client.ClientSignal.TheVariants.{TcCommitAck}
use Rattle.sig_core.specs.Rows.{RowsState, abort_record, commit_by, commit_if, commit_record, complete_record}
use Rattle.sig_core.specs.Rows.{committed, drop_by, drop_if, get_at, is_as, is_of, prepared, record_at, record_of}
use Rattle.sig_core.specs.Rows.{recorded_by, storing}
use Rattle.sig_core.specs.Same.{same_key, same_tx}
use Rattle.sig_core.specs.Step.{Step, stay}
use Rattle.sig_core.specs.Work.{work_key}
use Rattle.sig_core.proofs.TxLemmas.{same_tx-is}
use Rattle.lqh_block.specs.declared.request.Marker.{Marker}
use Rattle.lqh_block.specs.declared.request.Request.{Request}
use Rattle.lqh_block.specs.Abort as abort
use Rattle.lqh_block.specs.Commit as commit
use Rattle.lqh_block.specs.Commit.{is_marker}
use Rattle.lqh_block.specs.Lqh.{lqh_table}
use Rattle.lqh_block.specs.Operate as operate
use Rattle.lqh_block.specs.State.{LqhState, storage_of, with_markers, with_rows, with_storage, with_waiting}
use Rattle.lqh_block.specs.Storage as storage
use Rattle.lqh_block.specs.Storage.{StorageState}
use Rattle.lqh_block.specs.Wait.{acknowledged, is_other}
use Rattle.row_records.proofs.KeyLemmas.{same as same_key-is}
use Rattle.lqh_block.proofs.LqhForms.{Applies, GivesUp, LqhForms, lqh_forms, perform_forms}
use Rattle.lqh_views.proofs.Below.{NoneFrom, no_place, none_behind, none_changed, none_kept, none_removed}
use Rattle.lqh_views.proofs.Below.{none_unchanged}

-- where some entry passes, none does from a place on, if none did before
abbrev pub Stays : {X : Type 0} → (X → Bool) → List X → List X → Type 0
Stays p before after = list_any p before ≡ true → (n : ℕ) → NoneFrom p before n → NoneFrom p after n

abbrev pub unmoved : {X : Type 0} (p : X → Bool) (xs : List X) → Stays p xs xs
unmoved p xs = λ some n none. none

-- two words of a transaction and a key, of which both are so
pub both : (a b : Bool) → (a && b) ≡ true → (a ≡ true) × (b ≡ true)
both true b is = (refl, is)
both false b is = absurd (true≢false (sym is))

module _ (tx : TxId) (key : List ℕ) where
  abbrev own : PendingRecord → Bool
  own = is_of tx key

  -- a record is made, or takes the place of the transaction's on the key
  apart : (u : TxId) (k : List ℕ) (image : Option (List ℕ)) (pending : List PendingRecord)
      → list_any own pending ≡ true → position (is_of u k) pending ≡ None → own (prepared u k image) ≡ false
  apart u k image pending some nowhere = by (own (prepared u k image)) refl
    where
      by : (b : Bool) → own (prepared u k image) ≡ b → b ≡ false
      by false is = refl
      by true is =
          let same = both (same_tx u tx) (same_key k key) is in
          let is_tx = same_tx-is u tx same.0 in
          let is_key = same_key-is k key same.1 in
          let none : position (is_of tx key) pending ≡ None =
          subst (λ v. position (is_of v key) pending ≡ None) is_tx
          (subst (λ l. position (is_of u l) pending ≡ None) is_key nowhere) in
          absurd (true≢false (sym some ∙ no_place own pending none))

  replaced : (u : TxId) (k : List ℕ) (image : Option (List ℕ)) (pending : List PendingRecord) (at n : ℕ)
      → record_at pending u k ≡ Some at → NoneFrom own pending n
      → NoneFrom own (slice_set pending at (prepared u k image)) n
  replaced u k image pending at n place none = by (slice_get pending at) refl
    where
      by : (o : Option PendingRecord) → slice_get pending at ≡ o
          → NoneFrom own (slice_set pending at (prepared u k image)) n
      by None there = none_unchanged own pending at n (prepared u k image) there none
      by (Some old) there =
          let taken = taken_at (is_of u k) pending at old place there in
          let same = both (same_tx old.tx u) (same_key old.key k) taken.passes in
          let is : own (prepared u k image) ≡ own old =
          λ i. same_tx (sym (same_tx-is old.tx u same.0) i) tx && same_key (sym (same_key-is old.key k same.1) i) key in
          none_changed own pending at n old (prepared u k image) there is none

  recorded : (u : TxId) (k : List ℕ) (image : Option (List ℕ)) (pending : List PendingRecord)
      → Stays own pending (recorded_by pending (prepared u k image) (record_at pending u k))
  recorded u k image pending some n none = by (record_at pending u k) refl
    where
      by : (at : Option ℕ) → record_at pending u k ≡ at
          → NoneFrom own (recorded_by pending (prepared u k image) at) n
      by None place =
          none_behind own pending n (prepared u k image) (apart u k image pending some place) none
      by (Some at) place = replaced u k image pending at n place none

  stored : (s : RowsState) (u : TxId) (k : List ℕ) (image : Option (List ℕ))
      → Stays own s.pending (storing s u k image).pending
  unfolding storing
  stored s u k image = recorded u k image s.pending

  -- one is committed
  committed_one : (s : RowsState) (u : TxId) (k : List ℕ) (epoch : ℕ)
      → Stays own s.pending (commit_record s u k epoch).pending
  unfolding commit_record record_of
  committed_one s u k epoch some n none = by (record_at s.pending u k) (get_at s.pending (record_at s.pending u k)) refl
    where
      by_if : (at : ℕ) (r : PendingRecord) → slice_get s.pending at ≡ Some r → (done : Bool)
          → NoneFrom own (commit_if s at r epoch done).pending n
      by_if at r there true = none
      by_if at r there false = none_changed own s.pending at n r (committed r epoch) there refl none

      by : (at : Option ℕ) (r : Option PendingRecord) → get_at s.pending at ≡ r
          → NoneFrom own (commit_by s epoch at r).pending n
      by None None there = none
      by None (Some r) there = none
      by (Some at) None there = none
      by (Some at) (Some r) there = by_if at r there r.committed

  -- one is dropped
  dropped : (s : RowsState) (done : Bool) (at : Option ℕ) (r : Option PendingRecord)
      → Stays own s.pending (drop_by s done at r).pending
  dropped s done None None some n none = none
  dropped s done None (Some r) some n none = none
  dropped s done (Some at) None some n none = none
  dropped s done (Some at) (Some r) some n none = by (is_as done r.committed)
    where
      by : (b : Bool) → NoneFrom own (drop_if s at r b).pending n
      by true = none_removed own s.pending at n none
      by false = none

  given_up : (s : RowsState) (u : TxId) (k : List ℕ) → Stays own s.pending (abort_record s u k).pending
  unfolding abort_record
  given_up s u k = dropped s false (record_at s.pending u k) (record_of s u k)

  completed : (s : RowsState) (u : TxId) (k : List ℕ) → Stays own s.pending (complete_record s u k).pending
  unfolding complete_record
  completed s u k = dropped s true (record_at s.pending u k) (record_of s u k)

  -- a commit is marked
  marked : (u : TxId) (k : List ℕ) (epoch : ℕ) (markers : List Marker)
      → Stays (is_marker tx key) markers (commit.marked markers u k epoch)
  marked u k epoch markers some n none = by (list_any (is_marker u k) markers) refl
    where
      marker : Marker
      marker = commit.marker_of u k epoch

      new_apart : list_any (is_marker u k) markers ≡ false → (b : Bool) → is_marker tx key marker ≡ b → b ≡ false
      new_apart nowhere false is = refl
      new_apart nowhere true is =
          let same = both (same_tx u tx) (same_key k key) is in
          let is_tx = same_tx-is u tx same.0 in
          let is_key = same_key-is k key same.1 in
          let none_there : list_any (is_marker tx key) markers ≡ false =
          subst (λ v. list_any (is_marker v key) markers ≡ false) is_tx
          (subst (λ l. list_any (is_marker u l) markers ≡ false) is_key nowhere) in
          absurd (true≢false (sym some ∙ none_there))

      by : (b : Bool) → list_any (is_marker u k) markers ≡ b
          → NoneFrom (is_marker tx key) (commit.marked_if markers marker b) n
      by true there = none
      by false there =
          none_behind (is_marker tx key) markers n marker (new_apart there (is_marker tx key marker) refl) none

  -- both lists stay so, and the layout stays
  abbrev pub AreKept : LqhState → LqhState → Type 0
  AreKept before after =
      Stays own before.rows.pending after.rows.pending
      × Stays (is_marker tx key) before.markers after.markers
      × (after.layout ≡ before.layout)

  pub same_lists : (s : LqhState) → AreKept s s
  same_lists s = (unmoved own s.rows.pending, unmoved (is_marker tx key) s.markers, refl)

  -- a request that is performed
  performs : (s : StorageState) (r : Request) → Stays own s.rows.pending (storage.perform s r).state.rows.pending
  performs s r = perform_forms (λ step. Stays own s.rows.pending step.state.rows.pending) s r (record {
    log_full = λ used reserved need. unmoved own s.rows.pending;
    table_full = λ rows. unmoved own s.rows.pending;
    answers = λ a. unmoved own s.rows.pending;
    passes = λ image next is. stored s.rows r.tx (work_key r.work) image;
    ends = λ image is. stored s.rows r.tx (work_key r.work) image;
  })

  performed_kept : (s : LqhState) (r : Request) → AreKept s (operate.performed s r).state
  performed_kept s r =
      (performs (storage_of s) r, unmoved (is_marker tx key) s.markers, refl)

  -- a commit, and an abort, whatever record there was
  applied_kept : (s : LqhState) (u : TxId) (k : List ℕ) (epoch : ℕ) (had : Option Bool)
      → AreKept s (commit.applied s u k epoch had)
  unfolding storage.committed_in
  applied_kept s u k epoch None = same_lists s
  applied_kept s u k epoch (Some true) = same_lists s
  applied_kept s u k epoch (Some false) =
      (committed_one s.rows u k epoch, marked u k epoch s.markers, refl)

  commits_kept : (s : LqhState) (u : TxId) (k : List ℕ) (epoch : ℕ) (had : Option Bool) (st : StorageState)
      (markers : List Marker) → Applies s u k epoch had st markers
      → AreKept s (with_markers (with_storage s st) markers)
  commits_kept s u k epoch had st markers applies = subst (AreKept s) (sym applies.is) (applied_kept s u k epoch had)

  given_up_kept : (s : LqhState) (u : TxId) (k : List ℕ) (waiting : List Request) (had : Option Bool)
      → AreKept s (abort.given_up (with_waiting s waiting) u k had)
  unfolding storage.aborted_in
  given_up_kept s u k waiting None = same_lists s
  given_up_kept s u k waiting (Some true) = same_lists s
  given_up_kept s u k waiting (Some false) =
      (given_up s.rows u k, unmoved (is_marker tx key) s.markers, refl)

  aborts_kept : (s : LqhState) (u : TxId) (k : List ℕ) (had : Option Bool) (st : StorageState) (waiting : List Request)
      → GivesUp s u k had st → AreKept s (with_storage (with_waiting s waiting) st)
  aborts_kept s u k had st waiting gives = subst (AreKept s) (sym (gives.is waiting)) (given_up_kept s u k waiting had)

  -- at each signal but the one at which markers go
  abbrev Keeps : LqhState → Body → Step LqhState → Type 0
  Keeps s (Client (TcCommitAck u)) step = Unit {0}
  Keeps s body step = AreKept s step.state

  rests : (s : LqhState) (body : Body) → Keeps s body (stay s)
  rests s (Client (TcCommitAck u)) = tt
  rests s body = same_lists s

  forms : (s : LqhState) → LqhForms (Keeps s) s
  forms s = record {
    asks = λ r. record { granted = λ is. performed_kept s r; queued = λ ahead is. same_lists s };
    grants = λ at. record { none = λ is. same_lists s; some = λ place r is here. performed_kept s r };
    commits = λ u k epoch chain at. record {
      last = λ had st markers applies first. commits_kept s u k epoch had st markers applies;
      passes = λ had st markers applies first. commits_kept s u k epoch had st markers applies;
    };
    completes = λ u k chain at. record { last = λ first. ended u k; passes = λ first. ended u k };
    aborts = λ u k. record {
      none = λ had st gives none. aborts_kept s u k had st s.waiting gives;
      some = λ had st gives at r there here. aborts_kept s u k had st (remove s.waiting at) gives;
    };
    acknowledges = λ u markers. tt;
    waits = λ u k. record { none = λ is. same_lists s; some = λ ahead is. same_lists s };
    dumps = λ at rows next. same_lists s;
    ages = record {
      rests = λ is. same_lists s;
      none = λ u k is none. same_lists s;
      some = λ u k is at r there here. same_lists s;
    };
    expires = λ at. record {
      rests = λ is. same_lists s;
      none = λ u k is none. same_lists s;
      some = λ u k is at r there here. same_lists s;
    };
    rests = λ body is. rests s body;
  }
    where
      ended : (u : TxId) (k : List ℕ) → AreKept s (with_rows s (complete_record s.rows u k))
      ended u k = (completed s.rows u k, unmoved (is_marker tx key) s.markers, refl)

  -- whatever the rows take
  pub lists_kept : (s : LqhState) (body : Body) → AreKept s (lqh_table s body).state
  unfolding acknowledged
  lists_kept s (Client (TcCommitAck u)) = (
    unmoved own s.rows.pending,
    λ some n none. none_kept (is_marker tx key) (is_other u) s.markers n none,
    refl,
  )
  lists_kept s body = lqh_forms (Keeps s) s (forms s) body
