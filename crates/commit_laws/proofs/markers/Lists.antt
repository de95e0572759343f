-- What a step of the rows makes of commits: each that is new is marked, and a marker stays until its commit is
-- acknowledged.
use Rattle.std.proofs.Common.{◌≡◌, ◌⊎◌, ◌∙◌, ◌&&◌, ◌||◌, ◌++◌, ℕ, Bool, true, false, cond, List, [], ◌∷◌, refl, sym, ap}
use Rattle.std.proofs.Common.{subst, inl, inr}
use Rattle.std.proofs.lemmas.Bool.{or_left, or_right, true≢false}
use Rattle.std.specs.List.{list_any}
use Rattle.std.specs.Prelude.{filter, not, remove, Option, None, Some}
use Rattle.run_theory.specs.Lists.{Each, IsIn}
use Rattle.run_theory.proofs.EachSent.{each_removed, each_set}
use Rattle.run_theory.proofs.Focus.{taken_at}
use Rattle.run_theory.proofs.Pasts.{each_append, each_map, in_append}
use Rattle.sig_core.specs.declared.member.TxId.{TxId}
use Rattle.sig_core.specs.declared.rows.PendingRecord.{PendingRecord}
use Rattle.sig_core.specs.declared.signal.Body.{Body}
use Rattle.sig_core.specs.declared.signal.Body.TheVariants.{Client}
use Rattle.sig_core.specs.declared.signal.client.ClientSignal.TheVariants.{TcCommitAck}
use Rattle.sig_core.specs.Rows.{RowsState, abort_record, commit_by, commit_if, commit_record, complete_record}
use Rattle.sig_core.specs.Rows.{committed, drop_by, drop_if, get_at, is_as, is_of, prepared, record_at, record_of}
use Rattle.sig_core.specs.Rows.{recorded_by, storing}
use Rattle.sig_core.specs.Same.{same_key, same_tx}
use Rattle.sig_core.specs.Step.{Step, stay}
use Rattle.sig_core.specs.Work.{work_key}
use Rattle.sig_core.proofs.Keys.{same_key-self, same_tx-self}
use Rattle.sig_core.proofs.TxLemmas.{same_tx-is}
use Rattle.lqh_block.specs.declared.request.Marker.{Marker}
use Rattle.lqh_block.specs.declared.request.Request.{Request}
use Rattle.lqh_block.specs.Abort as abort
use Rattle.lqh_block.specs.Commit as commit
use Rattle.lqh_block.specs.Commit.{is_marker, marker_of}
use Rattle.lqh_block.specs.Lqh.{lqh_table}
use Rattle.lqh_block.specs.Operate as operate
use Rattle.lqh_block.specs.State.{LqhState, storage_of, with_markers, with_rows, with_storage, with_waiting}
use Rattle.lqh_block.specs.Storage as storage
use Rattle.lqh_block.specs.Storage.{StorageState}
use Rattle.lqh_block.specs.Wait.{acknowledged, is_other}
use Rattle.row_records.proofs.KeyLemmas.{same as same_key-is}
use Rattle.lqh_block.proofs.LqhForms.{Applies, GivesUp, LqhForms, lqh_forms, perform_forms}
use Rattle.lqh_views.proofs.ListsKept.{both}
use Rattle.view_laws.proofs.ballots.MadeSets.{in_front}
use Rattle.request_laws.proofs.routes.ChainsStay.{any_in}
use Rattle.commit_laws.proofs.hosts.SomePasses.{passing}

pub in_filter : {A : Type 0} (p : A → Bool) (x : A) (xs : List A) → IsIn x xs → p x ≡ true → IsIn x (filter p xs)
in_filter p x [] there is = absurd there
in_filter p x (y ∷ xs) (inl same) is =
    subst (λ b. IsIn x (cond b (y ∷ filter p xs) (filter p xs))) (sym (ap p (sym same) ∙ is)) (inl same)
in_filter p x (y ∷ xs) (inr there) is = by (p y) (in_filter p x xs there is)
  where
    by : (b : Bool) → IsIn x (filter p xs) → IsIn x (cond b (y ∷ filter p xs) (filter p xs))
    by true more = inr more
    by false more = more

-- whose commits are acknowledged
module _ (K : TxId → Bool) where
  -- a marker stays, unless it is of one of them
  abbrev pub StayMarked : List Marker → List Marker → Type 0
  StayMarked before after = (m : Marker) → IsIn m before → IsIn m after ⊎ (K m.tx ≡ true)

  -- a commit is marked, unless it is of one of them
  abbrev pub Remembers : List Marker → PendingRecord → Type 0
  Remembers markers r = r.committed ≡ true → (list_any (is_marker r.tx r.key) markers || K r.tx) ≡ true

  pub all_stay : (markers : List Marker) → StayMarked markers markers
  all_stay markers m there = inl there

  -- and stays so where markers do
  remembers_more : (before after : List Marker) → StayMarked before after → (r : PendingRecord) → Remembers before r
      → Remembers after r
  remembers_more before after stay r was done = by (list_any (is_marker r.tx r.key) before) refl (was done)
    where
      found : (m : Marker) → is_marker r.tx r.key m ≡ true → IsIn m after ⊎ (K m.tx ≡ true)
          → (list_any (is_marker r.tx r.key) after || K r.tx) ≡ true
      found m is (inl there) = or_left _ (K r.tx) (any_in (is_marker r.tx r.key) m after there is)
      found m is (inr known) =
          or_right (list_any (is_marker r.tx r.key) after) (K r.tx)
          (subst (λ tx. K tx ≡ true) (same_tx-is m.tx r.tx (both (same_tx m.tx r.tx) (same_key m.key r.key) is).0)
          known)

      by : (b : Bool) → list_any (is_marker r.tx r.key) before ≡ b → (b || K r.tx) ≡ true
          → (list_any (is_marker r.tx r.key) after || K r.tx) ≡ true
      by true is any =
          let one = passing (is_marker r.tx r.key) before is in found one.item one.is (stay one.item one.there)
      by false off known = or_right (list_any (is_marker r.tx r.key) after) (K r.tx) known

  -- a commit is marked, behind the others or as it was
  marked_stay : (markers : List Marker) (tx : TxId) (key : List ℕ) (epoch : ℕ)
      → StayMarked markers (commit.marked markers tx key epoch)
  marked_stay markers tx key epoch m there = by (list_any (is_marker tx key) markers)
    where
      by : (b : Bool) → IsIn m (commit.marked_if markers (marker_of tx key epoch) b) ⊎ (K m.tx ≡ true)
      by true = inl there
      by false = inl (in_front m markers (marker_of tx key epoch ∷ []) there)

  is_marked : (markers : List Marker) (tx : TxId) (key : List ℕ) (epoch : ℕ)
      → list_any (is_marker tx key) (commit.marked markers tx key epoch) ≡ true
  is_marked markers tx key epoch = by (list_any (is_marker tx key) markers) refl
    where
      own : is_marker tx key (marker_of tx key epoch) ≡ true
      own = ap (λ b. b && same_key key key) (same_tx-self tx) ∙ same_key-self key

      by : (b : Bool) → list_any (is_marker tx key) markers ≡ b
          → list_any (is_marker tx key) (commit.marked_if markers (marker_of tx key epoch) b) ≡ true
      by true is = is
      by false off =
          any_in (is_marker tx key) (marker_of tx key epoch) (markers ++ marker_of tx key epoch ∷ [])
          (in_append (marker_of tx key epoch) markers (marker_of tx key epoch ∷ []) (inl refl)) own

  -- all commits of rows are marked
  abbrev pub Remember : LqhState → Type 0
  Remember s = Each (Remembers s.markers) s.rows.pending

  abbrev AllIn : List Marker → RowsState → Type 0
  AllIn markers rows = Each (Remembers markers) rows.pending

  -- what isn't committed needs no marker
  prepared_needs_none : (markers : List Marker) (tx : TxId) (key : List ℕ) (image : Option (List ℕ))
      → Remembers markers (prepared tx key image)
  prepared_needs_none markers tx key image done = absurd (true≢false (sym done))

  stored : (markers : List Marker) (s : RowsState) (tx : TxId) (key : List ℕ) (image : Option (List ℕ))
      → AllIn markers s → AllIn markers (storing s tx key image)
  unfolding storing
  stored markers s tx key image all = by (record_at s.pending tx key)
    where
      by : (at : Option ℕ) → Each (Remembers markers) (recorded_by s.pending (prepared tx key image) at)
      by None =
          each_append (Remembers markers) s.pending (prepared tx key image ∷ []) all
          (prepared_needs_none markers tx key image, tt)
      by (Some at) =
          each_set (Remembers markers) s.pending at (prepared tx key image) all
          (prepared_needs_none markers tx key image)

  -- one is committed, where a commit of it is marked
  committed_one : (markers : List Marker) (s : RowsState) (tx : TxId) (key : List ℕ) (epoch : ℕ)
      → list_any (is_marker tx key) markers ≡ true → AllIn markers s → AllIn markers (commit_record s tx key epoch)
  unfolding commit_record record_of
  committed_one markers s tx key epoch marked all =
      by (record_at s.pending tx key) refl (get_at s.pending (record_at s.pending tx key)) refl
    where
      own : (r : PendingRecord) → is_of tx key r ≡ true → (list_any (is_marker r.tx r.key) markers || K r.tx) ≡ true
      own r is =
          let same = both (same_tx r.tx tx) (same_key r.key key) is in
          or_left (list_any (is_marker r.tx r.key) markers) (K r.tx)
          (subst (λ v. list_any (is_marker v r.key) markers ≡ true) (sym (same_tx-is r.tx tx same.0))
          (subst (λ l. list_any (is_marker tx l) markers ≡ true) (sym (same_key-is r.key key same.1)) marked))

      by_if : (at : ℕ) (r : PendingRecord) → is_of tx key r ≡ true → (done : Bool)
          → AllIn markers (commit_if s at r epoch done)
      by_if at r is true = all
      by_if at r is false = each_set (Remembers markers) s.pending at (committed r epoch) all (λ done. own r is)

      by : (at : Option ℕ) → record_at s.pending tx key ≡ at → (r : Option PendingRecord) → get_at s.pending at ≡ r
          → AllIn markers (commit_by s epoch at r)
      by None place None there = all
      by None place (Some r) there = all
      by (Some at) place None there = all
      by (Some at) place (Some r) there =
          by_if at r (taken_at (is_of tx key) s.pending at r place there).passes r.committed

  -- one is dropped
  dropped : (markers : List Marker) (s : RowsState) (done : Bool) (at : Option ℕ) (r : Option PendingRecord)
      → AllIn markers s → AllIn markers (drop_by s done at r)
  dropped markers s done None None all = all
  dropped markers s done None (Some r) all = all
  dropped markers s done (Some at) None all = all
  dropped markers s done (Some at) (Some r) all = by (is_as done r.committed)
    where
      by : (b : Bool) → AllIn markers (drop_if s at r b)
      by true = each_removed (Remembers markers) s.pending at all
      by false = all

  given_up : (markers : List Marker) (s : RowsState) (tx : TxId) (key : List ℕ) → AllIn markers s
      → AllIn markers (abort_record s tx key)
  unfolding abort_record
  given_up markers s tx key all = dropped markers s false (record_at s.pending tx key) (record_of s tx key) all

  completed : (markers : List Marker) (s : RowsState) (tx : TxId) (key : List ℕ) → AllIn markers s
      → AllIn markers (complete_record s tx key)
  unfolding complete_record
  completed markers s tx key all = dropped markers s true (record_at s.pending tx key) (record_of s tx key) all

  performs : (markers : List Marker) (s : StorageState) (r : Request) → AllIn markers s.rows
      → AllIn markers (storage.perform s r).state.rows
  performs markers s r all = perform_forms (λ step. AllIn markers step.state.rows) s r (record {
    log_full = λ used reserved need. all;
    table_full = λ rows. all;
    answers = λ a. all;
    passes = λ image next is. stored markers s.rows r.tx (work_key r.work) image all;
    ends = λ image is. stored markers s.rows r.tx (work_key r.work) image all;
  })

  -- of a step: markers stay, and commits are marked behind it
  abbrev pub AreKept : LqhState → LqhState → Type 0
  AreKept s now = StayMarked s.markers now.markers × Remember now

  module _ (s : LqhState) (all : Remember s) where
    rests : AreKept s s
    rests = (all_stay s.markers, all)

    performed : (r : Request) → AreKept s (operate.performed s r).state
    performed r = (all_stay s.markers, performs s.markers (storage_of s) r all)

    applied : (tx : TxId) (key : List ℕ) (epoch : ℕ) (had : Option Bool) → AreKept s (commit.applied s tx key epoch had)
    unfolding storage.committed_in
    applied tx key epoch None = rests
    applied tx key epoch (Some true) = rests
    applied tx key epoch (Some false) =
        let now = commit.marked s.markers tx key epoch in
        let stay = marked_stay s.markers tx key epoch in (
          stay,
          committed_one now s.rows tx key epoch (is_marked s.markers tx key epoch)
              (each_map (Remembers s.markers) (Remembers now) s.rows.pending (remembers_more s.markers now stay) all),
        )

    commits : (tx : TxId) (key : List ℕ) (epoch : ℕ) (had : Option Bool) (st : StorageState) (markers : List Marker)
        → Applies s tx key epoch had st markers → AreKept s (with_markers (with_storage s st) markers)
    commits tx key epoch had st markers applies = subst (AreKept s) (sym applies.is) (applied tx key epoch had)

    abandoned : (tx : TxId) (key : List ℕ) (waiting : List Request) (had : Option Bool)
        → AreKept s (abort.given_up (with_waiting s waiting) tx key had)
    unfolding storage.aborted_in
    abandoned tx key waiting None = (all_stay s.markers, all)
    abandoned tx key waiting (Some true) = (all_stay s.markers, all)
    abandoned tx key waiting (Some false) =
        (all_stay s.markers, given_up s.markers s.rows tx key all)

    aborts : (tx : TxId) (key : List ℕ) (had : Option Bool) (st : StorageState) (waiting : List Request)
        → GivesUp s tx key had st → AreKept s (with_storage (with_waiting s waiting) st)
    aborts tx key had st waiting gives = subst (AreKept s) (sym (gives.is waiting)) (abandoned tx key waiting had)

    ended : (tx : TxId) (key : List ℕ) → AreKept s (with_rows s (complete_record s.rows tx key))
    ended tx key = (all_stay s.markers, completed s.markers s.rows tx key all)

    -- at each signal but the one at which markers go
    abbrev Keeps : Body → Step LqhState → Type 0
    Keeps (Client (TcCommitAck tx)) step = Unit {0}
    Keeps body step = AreKept s step.state

    rests_at : (body : Body) → Keeps body (stay s)
    rests_at (Client (TcCommitAck tx)) = tt
    rests_at body = rests

    forms : LqhForms Keeps s
    forms = record {
      asks = λ r. record { granted = λ is. performed r; queued = λ ahead is. rests };
      grants = λ at. record { none = λ is. rests; some = λ place r is here. performed r };
      commits = λ tx key epoch chain at. record {
        last = λ had st markers applies first. commits tx key epoch had st markers applies;
        passes = λ had st markers applies first. commits tx key epoch had st markers applies;
      };
      completes = λ tx key chain at. record { last = λ first. ended tx key; passes = λ first. ended tx key };
      aborts = λ tx key. record {
        none = λ had st gives none. aborts tx key had st s.waiting gives;
        some = λ had st gives at r there here. aborts tx key had st (remove s.waiting at) gives;
      };
      acknowledges = λ tx markers. tt;
      waits = λ tx key. record { none = λ is. rests; some = λ ahead is. rests };
      dumps = λ at rows next. rests;
      ages = record {
        rests = λ is. rests;
        none = λ tx key is none. rests;
        some = λ tx key is at r there here. rests;
      };
      expires = λ at. record {
        rests = λ is. rests;
        none = λ tx key is none. rests;
        some = λ tx key is place r there here. rests;
      };
      rests = λ body is. rests_at body;
    }

    -- an acknowledgement
    forgets : (tx : TxId) → K tx ≡ true → AreKept s (acknowledged s tx)
    unfolding acknowledged
    forgets tx known = (
      stay,
      each_map (Remembers s.markers) _ s.rows.pending
          (remembers_more s.markers (filter (is_other tx) s.markers) stay) all,
    )
      where
        stay : StayMarked s.markers (filter (is_other tx) s.markers)
        stay m there = by (same_tx m.tx tx) refl
          where
            by : (b : Bool) → same_tx m.tx tx ≡ b → IsIn m (filter (is_other tx) s.markers) ⊎ (K m.tx ≡ true)
            by true same = inr (subst (λ v. K v ≡ true) (sym (same_tx-is m.tx tx same)) known)
            by false off = inl (in_filter (is_other tx) m s.markers there (ap not off))

    -- whatever the rows take, where what they are told to forget is acknowledged
    pub lists_kept : (body : Body) → ((tx : TxId) → body ≡ Client (TcCommitAck tx) → K tx ≡ true)
        → AreKept s (lqh_table s body).state
    lists_kept (Client (TcCommitAck tx)) acks = forgets tx (acks tx refl)
    lists_kept body acks = lqh_forms Keeps s forms body
