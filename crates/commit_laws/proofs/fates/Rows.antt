-- A trace of a transaction's commit comes to rows with a commit alone.
use Rattle.std.proofs.Common.{◌≡◌, ◌≢◌, ◌⊎◌, ◌∙◌, ◌||◌, ◌&&◌, ℕ, Bool, true, false, List, [], ◌∷◌, refl, sym, ap, subst}
use Rattle.std.proofs.Common.{inl, inr}
use Rattle.std.proofs.lemmas.Bool.{cases_eq, true≢false}
use Rattle.std.specs.List.{list_any}
use Rattle.run_theory.specs.Lists.{Each, IsIn}
use Rattle.run_theory.proofs.Runs.{log_of-other, log_of-own}
use Rattle.sig_core.specs.declared.member.Member.{Member}
use Rattle.sig_core.specs.declared.member.TxId.{TxId}
use Rattle.sig_core.specs.declared.place.BlockId.{BlockId}
use Rattle.sig_core.specs.declared.place.BlockId.TheVariants as block
use Rattle.sig_core.specs.declared.rows.PendingRecord.{PendingRecord}
use Rattle.sig_core.specs.declared.signal.Body.{Body}
use Rattle.sig_core.specs.declared.signal.Body.TheVariants.{Chain, Client, Epoch, Takeover}
use Rattle.sig_core.specs.declared.signal.chain.ChainSignal.TheVariants.{Commit}
use Rattle.sig_core.specs.declared.signal.client.ClientSignal.TheVariants.{TcCommitConf, TcKeyFailConf}
use Rattle.sig_core.specs.declared.signal.epoch.EpochSignal.TheVariants.{DiVerifyConf}
use Rattle.sig_core.specs.declared.signal.takeover.TakeoverSignal.TheVariants.{LqhTransConf}
use Rattle.sig_core.specs.declared.signal.Signal.{Signal}
use Rattle.sig_core.specs.declared.view.View.{View}
use Rattle.sig_core.specs.Same.{same_tx}
use Rattle.sig_core.proofs.TxLemmas.{same_tx-is}
use Rattle.lqh_block.specs.declared.request.Marker.{Marker}
use Rattle.lqh_block.specs.Lqh.{lqh_table}
use Rattle.lqh_block.specs.State.{LqhState}
use Rattle.lqh_views.specs.Replica.{passed, replica_by, replica_row}
use Rattle.lqh_views.specs.State.{ReplicaState}
use Rattle.lqh_saver.specs.State.{saving}
use Rattle.lqh_saver.proofs.StepLemmas.{saver_rows}
use Rattle.node_views.specs.declared.ldm_part.LdmPart.{LdmPart}
use Rattle.node_views.specs.Parts.{ldm_row}
use Rattle.world_core.specs.Start.{Start, made}
use Rattle.world_core.specs.Steps.{HostStep}
use Rattle.world_views.specs.Machine.{machine}
use Rattle.view_laws.specs.Runs.{view_after}
use Rattle.moment_laws.specs.Moments.{IsMoment, logs_of}
use Rattle.moment_laws.specs.PartSteps as does
use Rattle.moment_laws.specs.Places.{ldm_of}
use Rattle.moment_laws.proofs.PartKinds.{ldm_is}
use Rattle.moment_laws.proofs.PartTaken.{IsTakenNow, handled_now}
use Rattle.outcome_laws.specs.Known.{IsDecidedIf, RowsKnow}
use Rattle.outcome_laws.specs.Tells.{Tells}
use Rattle.outcome_laws.proofs.rows.KnowDecided.{rows_know}
use Rattle.request_laws.specs.Blocks.{rows_after}
use Rattle.request_laws.proofs.routes.PartSteps.{LdmStep, ldm_step, rows_are}
use Rattle.commit_laws.specs.Traces.{is_committed_of, is_marker_of, leave_trace, rows_at}

-- the signal commits a key of the transaction
pub record IsCommitOf (tx : TxId) (body : Body) : Type 0 where
  pub key : List ℕ
  pub epoch : ℕ
  pub chain : List Member
  pub at : ℕ
  pub is : body ≡ Chain (Commit tx key epoch chain at)

module _ (tx : TxId) where
  -- said of others
  abbrev Other : TxId → ℕ → Type 0
  Other one epoch = same_tx one tx ≡ false

  abbrev Anyone : TxId → Type 0
  Anyone one = Unit {0}

  -- rows without a trace know of others alone
  record_other : (r : PendingRecord) (b : Bool) → (same_tx r.tx tx && b) ≡ false → IsDecidedIf Other Anyone r b
  record_other r true none = by (same_tx r.tx tx) none
    where
      by : (same : Bool) → (same && true) ≡ false → same ≡ false
      by true is = absurd (true≢false is)
      by false is = refl
  record_other r false none = tt

  records_other : (rs : List PendingRecord) → list_any (is_committed_of tx) rs ≡ false
      → Each (λ r. IsDecidedIf Other Anyone r r.committed) rs
  records_other [] none = tt
  records_other (r ∷ rs) none =
      let parts = neither (is_committed_of tx r) (list_any (is_committed_of tx) rs) none in
      (record_other r r.committed parts.0, records_other rs parts.1)
    where
      neither : (a b : Bool) → (a || b) ≡ false → (a ≡ false) × (b ≡ false)
      neither true b is = absurd (true≢false is)
      neither false b is = (refl, is)

  markers_other : (ms : List Marker) → list_any (is_marker_of tx) ms ≡ false
      → Each (λ (m : Marker). Other m.tx m.epoch) ms
  markers_other [] none = tt
  markers_other (m ∷ ms) none =
      let parts =
      neither (is_marker_of tx m) (list_any (is_marker_of tx) ms) none in (parts.0, markers_other ms parts.1)
    where
      neither : (a b : Bool) → (a || b) ≡ false → (a ≡ false) × (b ≡ false)
      neither true b is = absurd (true≢false is)
      neither false b is = (refl, is)

  untraced_know : (s : ReplicaState) → leave_trace tx s ≡ false → RowsKnow Other Anyone s
  untraced_know s none =
      let parts =
      neither (list_any (is_committed_of tx) s.lqh.rows.pending) (list_any (is_marker_of tx) s.lqh.markers) none in
      record { records = records_other s.lqh.rows.pending parts.0; markers = markers_other s.lqh.markers parts.1 }
    where
      neither : (a b : Bool) → (a || b) ≡ false → (a ≡ false) × (b ≡ false)
      neither true b is = absurd (true≢false is)
      neither false b is = (refl, is)

  -- and the other way round
  records_untraced : (rs : List PendingRecord) → Each (λ r. IsDecidedIf Other Anyone r r.committed) rs
      → list_any (is_committed_of tx) rs ≡ false
  records_untraced [] all = refl
  records_untraced (r ∷ rs) all =
      ap (λ b. b || list_any (is_committed_of tx) rs) (by r.committed all.0) ∙ records_untraced rs all.1
    where
      by : (b : Bool) → IsDecidedIf Other Anyone r b → (same_tx r.tx tx && b) ≡ false
      by true other = ap (λ same. same && true) other
      by false other = none (same_tx r.tx tx)
        where
          none : (b : Bool) → (b && false) ≡ false
          none true = refl
          none false = refl

  markers_untraced : (ms : List Marker) → Each (λ (m : Marker). Other m.tx m.epoch) ms
      → list_any (is_marker_of tx) ms ≡ false
  markers_untraced [] all = refl
  markers_untraced (m ∷ ms) all =
      ap (λ b. b || list_any (is_marker_of tx) ms) all.0 ∙ markers_untraced ms all.1

  know_untraced : (s : ReplicaState) → RowsKnow Other Anyone s → leave_trace tx s ≡ false
  know_untraced s known =
      ap (λ b. b || list_any (is_marker_of tx) s.lqh.markers) (records_untraced s.lqh.rows.pending known.records)
      ∙ markers_untraced s.lqh.markers known.markers

  -- what is for no rows leaves them as they are
  abbrev leaves_rows : Body → Bool
  leaves_rows (Epoch (DiVerifyConf one epoch)) = true
  leaves_rows (Client (TcCommitConf one epoch)) = true
  leaves_rows (Client (TcKeyFailConf one epoch)) = true
  leaves_rows (Takeover (LqhTransConf one key told epoch)) = true
  leaves_rows body = false

  same : (s : ReplicaState) (x : Signal) → leave_trace tx s ≡ false → (body : Body) → x.body ≡ body
      → (lqh_table s.lqh body).state ≡ s.lqh → leave_trace tx (passed s x).state ≡ false
  same s x none body is rests =
      ap (λ (l : LqhState). list_any (is_committed_of tx) l.rows.pending || list_any (is_marker_of tx) l.markers)
      (ap (λ b. (lqh_table s.lqh b).state) is ∙ rests)
      ∙ none

  left_untraced : (s : ReplicaState) (x : Signal) → leave_trace tx s ≡ false → (body : Body) → x.body ≡ body
      → leaves_rows body ≡ true → leave_trace tx (replica_row s x).state ≡ false
  left_untraced s x none (Epoch (DiVerifyConf one epoch)) is leaves =
      subst (λ b. leave_trace tx (replica_by s x b).state ≡ false) (sym is) none
  left_untraced s x none (Client (TcCommitConf one epoch)) is leaves =
      subst (λ b. leave_trace tx (replica_by s x b).state ≡ false) (sym is)
      (same s x none (Client (TcCommitConf one epoch)) is refl)
  left_untraced s x none (Client (TcKeyFailConf one epoch)) is leaves =
      subst (λ b. leave_trace tx (replica_by s x b).state ≡ false) (sym is)
      (same s x none (Client (TcKeyFailConf one epoch)) is refl)
  left_untraced s x none (Takeover (LqhTransConf one key told epoch)) is leaves =
      subst (λ b. leave_trace tx (replica_by s x b).state ≡ false) (sym is)
      (same s x none (Takeover (LqhTransConf one key told epoch)) is refl)
  left_untraced s x none body is leaves = absurd cc

  -- what tells them of another commit, or of none
  tells_other : (body : Body) → leaves_rows body ≡ false → (IsCommitOf tx body → ⊥) → Tells Other Anyone body
  tells_other (Chain (Commit one key epoch chain at)) rows not_own = by (same_tx one tx) refl
    where
      by : (b : Bool) → same_tx one tx ≡ b → b ≡ false
      by true same =
          absurd (not_own (record {
            key = key;
            epoch = epoch;
            chain = chain;
            at = at;
            is = ap (λ v. Chain (Commit v key epoch chain at)) (same_tx-is one tx same);
          }))
      by false off = refl
  tells_other (Epoch (DiVerifyConf one epoch)) rows not_own = absurd cc
  tells_other (Client (TcCommitConf one epoch)) rows not_own = absurd cc
  tells_other (Client (TcKeyFailConf one epoch)) rows not_own = absurd cc
  tells_other (Takeover (LqhTransConf one key told epoch)) rows not_own = absurd cc
  tells_other body rows not_own = tt

  row_untraced : (s : ReplicaState) (x : Signal) → leave_trace tx s ≡ false → (IsCommitOf tx x.body → ⊥)
      → leave_trace tx (replica_row s x).state ≡ false
  row_untraced s x none not_own = by (leaves_rows x.body) refl
    where
      by : (b : Bool) → leaves_rows x.body ≡ b → leave_trace tx (replica_row s x).state ≡ false
      by true leaves = left_untraced s x none x.body refl leaves
      by false rows =
          know_untraced (replica_row s x).state
          (rows_know Other Anyone s x (untraced_know s none) (tells_other x.body rows not_own))

module _ (start : Start) (all : ℕ → List HostStep) (e : HostStep) (es : List HostStep)
    (moment : IsMoment start all (e ∷ es))
    (member : Member) (there : IsIn member (made start)) (tx : TxId) where
  abbrev old : ℕ → List HostStep
  old = logs_of start es

  abbrev new : ℕ → List HostStep
  new = logs_of start (e ∷ es)

  abbrev h : ℕ
  h = ldm_of start member

  -- the rows take a commit of the transaction
  pub record TakesCommit : Type 0 where
    pub host : e.host ≡ ldm_of start member
    pub commit : IsCommitOf tx e.step.taken.body
    pub taken : IsTakenNow start all e es moment e.step.taken.to.block

  abbrev Untraced : LdmPart → Type 0
  Untraced p = leave_trace tx p.replica ≡ false

  entered_untraced : (p between : LdmPart) (view seen : View) (front : _)
      → does.PartEnters does.ldm_kind p view e.step.taken between seen front → Untraced p → Untraced between
  entered_untraced p between view seen front (does.remains same stands none) untraced =
      subst Untraced (sym same) untraced
  entered_untraced p between view seen front (does.installs above same stands sent) untraced =
      subst Untraced (sym same) untraced

  row_by : (p : LdmPart) (to : BlockId) → Untraced p → (IsCommitOf tx e.step.taken.body → ⊥)
      → Untraced (ldm_row p to e.step.taken).state
  unfolding ldm_row
  row_by p block.Lqh untraced not_own =
      saver_rows (saving p.replica p.saver) e.step.taken (λ s. leave_trace tx s ≡ false) untraced
      (row_untraced tx p.replica e.step.taken untraced not_own) (λ at has. untraced)
  row_by p _ untraced not_own = untraced

  -- where it isn't such a commit, what had no trace has none
  module _ (at : e.host ≡ h) where
    did : LdmStep start e.host (old e.host) e
    did = ldm_step start moment.cluster.nobody member there e.host at (old e.host) e

    was : rows_at start old member ≡ did.own.replica
    was = ap (λ k. rows_after start member (old k)) (sym at)
        ∙ rows_are start member e.host (old e.host) at did.own did.runs

    now : rows_at start new member ≡ did.does.own.replica
    now =
        ap (rows_after start member) (log_of-own (machine start) e es h at ∙ ap (λ k. e ∷ old k) (sym at))
        ∙ rows_are start member e.host (e ∷ old e.host) at did.does.own did.does.is

    untraced_here : leave_trace tx (rows_at start old member) ≡ false → (TakesCommit → ⊥)
        → leave_trace tx (rows_at start new member) ≡ false
    untraced_here none no_commit = ap (leave_trace tx) now ∙ by did.does.takes
      where
        before : Untraced did.does.between
        before =
            entered_untraced did.own did.does.between (view_after start e.host (old e.host))
            (view_after start e.host (e ∷ old e.host)) did.does.front did.does.enters
            (ap (leave_trace tx) (sym was) ∙ none)

        by : does.PartTakes does.ldm_kind start.shape did.does.between (view_after start e.host (e ∷ old e.host))
            e.step.taken
            did.does.own did.does.rest → Untraced did.does.own
        by (does.ignores same rests) = subst Untraced (sym same) before
        by (does.handles passes same sends) =
            subst Untraced (sym same)
            (row_by did.does.between e.step.taken.to.block before
            (λ commit. no_commit (record {
              host = at;
              commit = commit;
              taken =
                  handled_now start all e es moment does.ldm_kind ldm_is did.own did.runs did.does.between
                  did.does.front
                  did.does.enters passes e.step.taken.to.block refl;
            })))

  pub trace_comes : leave_trace tx (rows_at start old member) ≡ false → (TakesCommit → ⊥)
      → leave_trace tx (rows_at start new member) ≡ false
  trace_comes none no_commit = by (cases_eq e.host h)
    where
      by : (e.host ≡ h) ⊎ (e.host ≢ h) → leave_trace tx (rows_at start new member) ≡ false
      by (inl at) = untraced_here at none no_commit
      by (inr other) =
          ap (λ log. leave_trace tx (rows_after start member log)) (log_of-other (machine start) e es h other) ∙ none
