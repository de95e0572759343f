-- What a signal makes of the marker of one transaction on one key: it stays until the client's side knows of the
-- commit, and comes where a prepared record is committed.
use Rattle.std.proofs.Common.{◌≡◌, ◌⊎◌, ◌||◌, ◌++◌, ◌∙◌, ℕ, Bool, true, false, cond, filter, List, [], ◌∷◌, refl, sym}
use Rattle.std.proofs.Common.{ap, subst, inl, inr}
use Rattle.std.proofs.lemmas.Bool.{and_parts, or_cases, or_left, or_right, true≢false}
use Rattle.std.specs.Prelude.{not, Option, None, Some}
use Rattle.std.specs.List.{list_any}
use Rattle.sig_core.specs.declared.member.Member.{Member}
use Rattle.sig_core.specs.declared.member.TxId.{TxId}
use Rattle.sig_core.specs.declared.rows.PendingRecord.{PendingRecord}
use Rattle.sig_core.specs.declared.signal.Body.{Body}
use Rattle.sig_core.specs.declared.signal.Body.TheVariants.{Chain, Client}
use Rattle.sig_core.specs.declared.signal.Signal.{Signal}
use Rattle.sig_core.specs.declared.signal.chain.ChainSignal.TheVariants.{Commit}
use Rattle.sig_core.specs.declared.signal.client.ClientSignal.TheVariants.{TcCommitAck}
use Rattle.sig_core.specs.Rows.{state_by}
use Rattle.sig_core.specs.Same.{same_key, same_tx}
use Rattle.sig_core.specs.Step.{Step}
use Rattle.sig_core.proofs.TxLemmas.{same_tx-is}
use Rattle.lqh_block.specs.Commit.{applied, is_marker, marked_if, marker_of}
use Rattle.lqh_block.specs.declared.request.Marker.{Marker}
use Rattle.lqh_block.specs.Lqh.{lqh_table}
use Rattle.lqh_block.specs.State.{LqhState}
use Rattle.lqh_block.specs.Storage.{StorageState}
use Rattle.lqh_block.specs.Wait.{acknowledged, is_other}
use Rattle.row_records.proofs.KeyLemmas.{same}
use Rattle.lqh_block.proofs.LqhForms.{Applies, LqhForms, lqh_forms}
use Rattle.lqh_views.specs.Replica.{replica_row}
use Rattle.lqh_views.specs.State.{ReplicaState}
use Rattle.key_laws.specs.Replica.{at_key}
use Rattle.key_laws.specs.Records.{found}
use Rattle.key_laws.proofs.EpochLemmas.{state_found}
use Rattle.request_laws.proofs.replicas.WaitersHaveRequests.{rows_within}

module _ {A : Type 0} (p : A → Bool) where
  first_or : (x : A) (more now : Bool) → (more ≡ true → now ≡ true) → (p x || more) ≡ true → (p x || now) ≡ true
  first_or x more now f is = by (or_cases (p x) more is)
    where
      by : (p x ≡ true) ⊎ (more ≡ true) → (p x || now) ≡ true
      by (inl own) = or_left (p x) now own
      by (inr rest) = or_right (p x) now (f rest)

  pub any_front : (xs ys : List A) → list_any p xs ≡ true → list_any p (xs ++ ys) ≡ true
  any_front [] ys is = absurd (true≢false (sym is))
  any_front (x ∷ xs) ys is = first_or x (list_any p xs) (list_any p (xs ++ ys)) (any_front xs ys) is

  last_of : (y : A) → (p y || false) ≡ true → (false ≡ true) ⊎ (p y ≡ true)
  last_of y is = by (or_cases (p y) false is)
    where
      by : (p y ≡ true) ⊎ (false ≡ true) → (false ≡ true) ⊎ (p y ≡ true)
      by (inl own) = inr own
      by (inr none) = inl none

  pub any_last : (xs : List A) (y : A) → list_any p (xs ++ y ∷ []) ≡ true → (list_any p xs ≡ true) ⊎ (p y ≡ true)
  any_last [] y is = last_of y is
  any_last (x ∷ xs) y is = by (or_cases (p x) (list_any p (xs ++ y ∷ [])) is) (any_last xs y)
    where
      rest : (list_any p xs ≡ true) ⊎ (p y ≡ true) → ((p x || list_any p xs) ≡ true) ⊎ (p y ≡ true)
      rest (inl more) = inl (or_right (p x) (list_any p xs) more)
      rest (inr own) = inr own

      by : (p x ≡ true) ⊎ (list_any p (xs ++ y ∷ []) ≡ true)
          → (list_any p (xs ++ y ∷ []) ≡ true → (list_any p xs ≡ true) ⊎ (p y ≡ true))
          → ((p x || list_any p xs) ≡ true) ⊎ (p y ≡ true)
      by (inl own) more = inl (or_left (p x) (list_any p xs) own)
      by (inr one) more = rest (more one)

  -- of what a filter leaves, and of what it leaves of those that pass it
  pub any_left : (q : A → Bool) (xs : List A) → list_any p (filter q xs) ≡ true → list_any p xs ≡ true
  any_left q [] is = is
  any_left q (x ∷ xs) is = by (q x) is (any_left q xs)
    where
      by : (b : Bool) → list_any p (cond b (x ∷ filter q xs) (filter q xs)) ≡ true
          → (list_any p (filter q xs) ≡ true → list_any p xs ≡ true) → (p x || list_any p xs) ≡ true
      by false is more = or_right (p x) (list_any p xs) (more is)
      by true is more = first_or x (list_any p (filter q xs)) (list_any p xs) more is

  pub any_kept : (q : A → Bool) → ((x : A) → p x ≡ true → q x ≡ true) → (xs : List A) → list_any p xs ≡ true
      → list_any p (filter q xs) ≡ true
  any_kept q both [] is = is
  any_kept q both (x ∷ xs) is = by (q x) refl (any_kept q both xs)
    where
      by : (b : Bool) → q x ≡ b → (list_any p xs ≡ true → list_any p (filter q xs) ≡ true)
          → list_any p (cond b (x ∷ filter q xs) (filter q xs)) ≡ true
      by true e more = first_or x (list_any p xs) (list_any p (filter q xs)) more is
      by false e more = gone (or_cases (p x) (list_any p xs) is)
        where
          gone : (p x ≡ true) ⊎ (list_any p xs ≡ true) → list_any p (filter q xs) ≡ true
          gone (inl here) = absurd (true≢false (sym (both x here) ∙ e))
          gone (inr rest) = more rest

module _ (tx : TxId) (key : List ℕ) where
  -- a prepared record of it is committed
  pub record CommitsPrepared (body : Body) (was : Option PendingRecord) : Type 0 where
    pub epoch : ℕ
    pub chain : List Member
    pub at : ℕ
    pub body_is : body ≡ Chain (Commit tx key epoch chain at)
    pub prepared : PendingRecord
    pub there : was ≡ Some prepared
    pub still : prepared.committed ≡ false

  -- the marker before and behind the signal, with the record before
  pub record MarkerMoves (body : Body) (record_was : Option PendingRecord) (was now : Bool) : Type 0 where
    pub keeps : was ≡ true → (now ≡ true) ⊎ (body ≡ Client (TcCommitAck tx))
    pub gives : now ≡ true → (was ≡ true) ⊎ CommitsPrepared body record_was

  abbrev marks : List Marker → Bool
  marks markers = list_any (is_marker tx key) markers

  module _ (s : LqhState) where
    abbrev had_record : Option PendingRecord
    had_record = found tx (at_key key s).cell.pending

    abbrev Moves : Body → List Marker → Type 0
    Moves body markers = MarkerMoves body had_record (marks s.markers) (marks markers)

    same_moves : (body : Body) → Moves body s.markers
    same_moves body = record { keeps = λ is. inl is; gives = λ is. inl is }

    -- the record of which it is a commit
    prepared_of : (o : Option PendingRecord) → state_by o ≡ Some false
        → (r : PendingRecord) × ((o ≡ Some r) × (r.committed ≡ false))
    prepared_of None is = absurd cc
    prepared_of (Some r) is = (r, (refl, cc))

    module _ (u : TxId) (own : List ℕ) (epoch : ℕ) (chain : List Member) (at : ℕ) where
      abbrev body : Body
      body = Chain (Commit u own epoch chain at)

      new_marker : (state_by (found u (at_key own s).cell.pending) ≡ Some false)
          → is_marker tx key (marker_of u own epoch) ≡ true → CommitsPrepared body had_record
      new_marker prepared is =
          let parts = and_parts (same_tx u tx) (same_key own key) is in
          let one = same_tx-is u tx parts.0 in
          let here = same own key parts.1 in
          let r = prepared_of had_record
          (sym (λ i. state_by (found (one i) (at_key (here i) s).cell.pending)) ∙ prepared) in
          record {
            epoch = epoch;
            chain = chain;
            at = at;
            body_is = λ i. Chain (Commit (one i) (here i) epoch chain at);
            prepared = r.0;
            there = r.1.0;
            still = r.1.1;
          }

      marked_moves : state_by (found u (at_key own s).cell.pending) ≡ Some false → (b : Bool)
          → Moves body (marked_if s.markers (marker_of u own epoch) b)
      marked_moves prepared true = same_moves body
      marked_moves prepared false = record {
        keeps = λ is. inl (any_front (is_marker tx key) s.markers (marker_of u own epoch ∷ []) is);
        gives = λ is. by (any_last (is_marker tx key) s.markers (marker_of u own epoch) is);
      }
        where
          by : (marks s.markers ≡ true) ⊎ (is_marker tx key (marker_of u own epoch) ≡ true)
              → (marks s.markers ≡ true) ⊎ CommitsPrepared body had_record
          by (inl old) = inl old
          by (inr new) = inr (new_marker prepared new)

      applied_moves : (had : Option Bool) → state_by (found u (at_key own s).cell.pending) ≡ had
          → Moves body (applied s u own epoch had).markers
      applied_moves None is = same_moves body
      applied_moves (Some true) is = same_moves body
      applied_moves (Some false) is = marked_moves is (list_any (is_marker u own) s.markers)

      commit_moves : (had : Option Bool) (st : StorageState) (markers : List Marker)
          → Applies s u own epoch had st markers → Moves body markers
      commit_moves had st markers applies =
          subst (Moves body) (sym (ap (λ (t : LqhState). t.markers) applies.is))
          (applied_moves had (sym (state_found s.rows u own) ∙ applies.had_is))

    -- an acknowledgement takes the markers of its transaction
    acknowledged_moves : (u : TxId) → Moves (Client (TcCommitAck u)) (filter (is_other u) s.markers)
    acknowledged_moves u = record {
      keeps = λ is. by (same_tx u tx) refl is;
      gives = λ is. inl (any_left (is_marker tx key) (is_other u) s.markers is);
    }
      where
        apart : same_tx u tx ≡ false → (m : Marker) → is_marker tx key m ≡ true → is_other u m ≡ true
        apart off m is = on (same_tx m.tx u) refl
          where
            on : (b : Bool) → same_tx m.tx u ≡ b → not b ≡ true
            on true e =
                let own = and_parts (same_tx m.tx tx) (same_key m.key key) is in
                absurd (true≢false (sym own.0 ∙ (ap (λ t. same_tx t tx) (same_tx-is m.tx u e) ∙ off)))
            on false e = refl

        by : (b : Bool) → same_tx u tx ≡ b → marks s.markers ≡ true
            → (marks (filter (is_other u) s.markers) ≡ true) ⊎ (Client (TcCommitAck u) ≡ Client (TcCommitAck tx))
        by true e is = inr (λ i. Client (TcCommitAck (same_tx-is u tx e i)))
        by false e is = inl (any_kept (is_marker tx key) (is_other u) (apart e) s.markers is)

    abbrev Says : Body → Step LqhState → Type 0
    Says (Client (TcCommitAck u)) step = Unit {0}
    Says body step = Moves body step.state.markers

    rests_so : (body : Body) → Says body (record { state = s; effects = record { sends = []; marks = [] } })
    rests_so (Client (TcCommitAck u)) = tt
    rests_so body = same_moves body

    forms : LqhForms Says s
    forms = record {
      asks = λ q. record { granted = λ is. same_moves _; queued = λ ahead is. same_moves _ };
      grants = λ at. record { none = λ is. same_moves _; some = λ place q is here. same_moves _ };
      commits = λ u own epoch chain at. record {
        last = λ had st markers applies first. commit_moves u own epoch chain at had st markers applies;
        passes = λ had st markers applies first. commit_moves u own epoch chain at had st markers applies;
      };
      completes = λ u own chain at. record { last = λ first. same_moves _; passes = λ first. same_moves _ };
      aborts = λ u own. record {
        none = λ had st gives none. same_moves _;
        some = λ had st gives at q there here. same_moves _;
      };
      acknowledges = λ u markers. tt;
      waits = λ u own. record { none = λ is. same_moves _; some = λ ahead is. same_moves _ };
      dumps = λ at rows next. same_moves _;
      ages = record {
        rests = λ is. same_moves _;
        none = λ u own is none. same_moves _;
        some = λ u own is at q there here. same_moves _;
      };
      expires = λ at. record {
        rests = λ is. same_moves _;
        none = λ u own is none. same_moves _;
        some = λ u own is place q there here. same_moves _;
      };
      rests = λ body is. rests_so body;
    }

    lqh_marks : (body : Body) → Moves body (lqh_table s body).state.markers
    unfolding acknowledged
    lqh_marks (Client (TcCommitAck u)) = acknowledged_moves u
    lqh_marks body = lqh_forms Says s forms body

  -- whatever the rows take
  pub marker_moves : (s : ReplicaState) (x : Signal)
      → MarkerMoves x.body (found tx (at_key key s.lqh).cell.pending) (marks s.lqh.markers)
      (marks (replica_row s x).state.lqh.markers)
  marker_moves s x = by (rows_within s x)
    where
      by : ((replica_row s x).state.lqh ≡ s.lqh) ⊎ ((replica_row s x).state.lqh ≡ (lqh_table s.lqh x.body).state)
          → Moves s.lqh x.body (replica_row s x).state.lqh.markers
      by (inl is) = subst (λ (l : LqhState). Moves s.lqh x.body l.markers) (sym is) (same_moves s.lqh x.body)
      by (inr is) = subst (λ (l : LqhState). Moves s.lqh x.body l.markers) (sym is) (lqh_marks s.lqh x.body)
