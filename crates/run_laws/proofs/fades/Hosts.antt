-- One step: the records of a transaction of which nothing more is asked are committed and completed, and the primary
-- marks that.
use Rattle.std.proofs.Common.{◌≡◌, ◌⊎◌, ℕ, Bool, true, false, List, refl, sym, ap, ◌∙◌, subst, inl, inr}
use Rattle.std.specs.Prelude.{◌==◌, if◌then◌else◌, Option, None, Some}
use Rattle.std.specs.List.{list_any}
use Rattle.std.proofs.lemmas.Bool.{false≢true, or_left}
use Rattle.row_records.proofs.KeyLemmas as keys
use Rattle.run_theory.proofs.Pasts.{each_filter}
use Rattle.run_theory.specs.Lists.{Each}
use Rattle.sig_core.specs.declared.mark.Mark.{Mark}
use Rattle.sig_core.specs.declared.member.Member.{Member}
use Rattle.sig_core.specs.declared.member.TxId.{TxId}
use Rattle.sig_core.specs.declared.place.BlockId.TheVariants as block
use Rattle.sig_core.specs.declared.rows.PendingRecord.{PendingRecord}
use Rattle.sig_core.specs.declared.signal.Body.{Body}
use Rattle.sig_core.specs.declared.signal.Body.TheVariants.{Host, Chain}
use Rattle.sig_core.specs.declared.signal.Signal.{Signal}
use Rattle.sig_core.specs.declared.signal.chain.ChainSignal.TheVariants.{LqhKeyReq, LqhKeyConf, LqhKeyRef, Commit}
use Rattle.sig_core.specs.declared.signal.chain.ChainSignal.TheVariants.{Complete, Abort}
use Rattle.sig_core.specs.declared.signal.host.HostSignal.TheVariants.{Round, Continue}
use Rattle.sig_core.specs.declared.signal.host.Work.TheVariants as work
use Rattle.sig_core.specs.Rows.{record_state, state_by}
use Rattle.sig_core.specs.Same.{same_key, same_tx}
use Rattle.sig_core.specs.Step.{Effects}
use Rattle.sig_core.proofs.TxLemmas.{same_tx-is}
use Rattle.row_locks.specs.Rounds.{expired}
use Rattle.lqh_block.specs.Commit as commit
use Rattle.lqh_block.specs.declared.request.Request.{Request}
use Rattle.lqh_block.specs.Lqh.{lqh_table}
use Rattle.lqh_block.specs.Operate.{is_granted}
use Rattle.lqh_block.specs.State.{LqhState}
use Rattle.lqh_block.proofs.LqhForms.{commit_forms}
use Rattle.sig_core.specs.Work.{work_key}
use Rattle.node_core.specs.declared.host.Host as host
use Rattle.node_core.specs.declared.host.Host.TheVariants.{Ldm}
use Rattle.node_core.specs.Blocks.{lqh_of}
use Rattle.node_core.specs.Requests.{is_request}
use Rattle.node_core.specs.Row.{row}
use Rattle.world_core.specs.History.{is_applied}
use Rattle.sig_core.specs.Firsts.{first}
use Rattle.key_laws.specs.Primary.{HasPrepared}
use Rattle.key_laws.specs.Records.{found}
use Rattle.key_laws.specs.Replica.{Event, Replica, asks_for, at_key, cell_at, commits, event_at, expires_if, if_on}
use Rattle.key_laws.specs.Replica.{key_after, rests, serves_if}
use Rattle.host_laws.specs.ReplicaLaws.{event_in, key_in}
use Rattle.key_laws.proofs.EpochLemmas.{state_found}
use Rattle.run_laws.specs.Tokens.{is_token, waiting_in}
use Rattle.run_laws.proofs.fades.Records.{Fading, IsHarmless, commit_ends, is_committed, is_completed, stays}
use Rattle.run_laws.proofs.circle.RowsEvents.{EventCase, event_case, event_rows, no_event, of_rows}
use Rattle.run_laws.proofs.transit.Weighing.{none_passes}

module _ (tx : TxId) where
  pub request_token : (body : Body) → is_request body ≡ true → is_token tx body ≡ false
  request_token (Chain (LqhKeyReq other what chain at)) e = cc
  request_token (Chain (LqhKeyConf other key answer)) e = cc
  request_token (Chain (LqhKeyRef other key why)) e = cc
  request_token _ e = refl

  -- what comes neither asks for anything of the transaction nor aborts it
  harmless_if : (own key : List ℕ) (event : Event) (r : Replica) → (same_key own key ≡ true → IsHarmless tx r event)
      → IsHarmless tx r (if_on own key event)
  harmless_if own key event r here = by (same_key own key) refl
    where
      by : (b : Bool) → same_key own key ≡ b → IsHarmless tx r (if b then event else rests)
      by true e = here e
      by false e = tt

  harmless_at : (key : List ℕ) (s : LqhState) (body : Body) → is_token tx body ≡ false
      → Each (λ (q : Request). same_tx q.tx tx ≡ false) s.waiting
      → ((one : TxId) (own : List ℕ) → body ≡ Chain (Abort one own) → same_tx one tx ≡ false)
      → IsHarmless tx (at_key key s) (event_at key s body)
  harmless_at key s (Chain (LqhKeyReq one what chain at)) token none aborts_not =
      harmless_if (work_key what) key _ (at_key key s) (λ e. token)
  harmless_at key s (Host (Continue work.Granted at)) token none aborts_not = by (first (is_granted s.locks) s.waiting)
    where
      by : (o : Option Request) → IsHarmless tx (at_key key s) (serves_if key s o)
      by None = tt
      by (Some q) = harmless_if (work_key q.work) key _ (at_key key s)
          (λ e. each_filter (λ (x : Request). same_tx x.tx tx ≡ false) (asks_for key) s.waiting none)
  harmless_at key s (Chain (Commit one own epoch chain at)) token none aborts_not =
      harmless_if own key _ (at_key key s) (λ e. tt)
  harmless_at key s (Chain (Complete one own chain at)) token none aborts_not =
      harmless_if own key _ (at_key key s) (λ e. tt)
  harmless_at key s (Chain (Abort one own)) token none aborts_not =
      harmless_if own key _ (at_key key s) (λ e. aborts_not one own refl)
  harmless_at key s (Host Round) token none aborts_not = tt
  harmless_at key s (Host (Continue work.Expired at)) token none aborts_not = by (expired s.locks)
    where
      by : (o : Option (TxId × List ℕ)) → IsHarmless tx (at_key key s) (expires_if key o)
      by None = tt
      by (Some wait) = harmless_if wait.1 key _ (at_key key s) (λ e. tt)
  harmless_at key s _ token none aborts_not = tt

  pub harmless_in : (key : List ℕ) (g : host.Host) (x : Signal) → is_token tx x.body ≡ false → waiting_in tx g ≡ 0
      → ((one : TxId) (own : List ℕ) → x.body ≡ Chain (Abort one own) → same_tx one tx ≡ false)
      → IsHarmless tx (key_in key g) (event_in key g x)
  harmless_in key g x token none aborts_not = by (event_case key g x)
    where
      by : EventCase key g x (row g x) → IsHarmless tx (key_in key g) (event_in key g x)
      by (of_rows step is) = subst (IsHarmless tx (key_in key g)) (sym is)
          (harmless_at key (lqh_of g) x.body token
          (none_passes (λ (q : Request). same_tx q.tx tx) (lqh_of g).waiting none) aborts_not)
      by (no_event is) = subst (IsHarmless tx (key_in key g)) (sym is) tt

  -- only a commit is one
  no_if : (own key : List ℕ) (event : Event) (v : TxId) (last : Bool) → (event ≡ commits v last → ⊥)
      → if_on own key event ≡ commits v last → ⊥
  no_if own key event v last no_commit is = by (same_key own key) is
    where
      by : (b : Bool) → (if b then event else rests) ≡ commits v last → ⊥
      by true e = no_commit e
      by false e = cc

  abbrev is_commit_body : Body → Bool
  is_commit_body (Chain (Commit one own epoch chain at)) = true
  is_commit_body _ = false

  no_commits : (key : List ℕ) (s : LqhState) (body : Body) (v : TxId) (last : Bool) → is_commit_body body ≡ false
      → event_at key s body ≡ commits v last → ⊥
  no_commits key s (Chain (LqhKeyReq one what chain at)) v last e = no_if (work_key what) key _ v last (λ q. cc)
  no_commits key s (Host (Continue work.Granted at)) v last e = by (first (is_granted s.locks) s.waiting)
    where
      by : (o : Option Request) → serves_if key s o ≡ commits v last → ⊥
      by None q = cc
      by (Some x) q = no_if (work_key x.work) key _ v last (λ r. cc) q
  no_commits key s (Chain (Commit one own epoch chain at)) v last e = absurd cc
  no_commits key s (Chain (Complete one own chain at)) v last e = no_if own key _ v last (λ q. cc)
  no_commits key s (Chain (Abort one own)) v last e = no_if own key _ v last (λ q. cc)
  no_commits key s (Host Round) v last e = λ q. cc
  no_commits key s (Host (Continue work.Expired at)) v last e = by (expired s.locks)
    where
      by : (o : Option (TxId × List ℕ)) → expires_if key o ≡ commits v last → ⊥
      by None q = cc
      by (Some wait) q = no_if wait.1 key _ v last (λ r. cc) q
  no_commits key s _ v last e = λ q. cc

  state_of : (s : LqhState) (one : TxId) (own : List ℕ) → same_tx one tx ≡ true
      → (h : HasPrepared tx (cell_at own s.rows).pending)
      → record_state s.rows one own ≡ Some h.record_is.committed
  state_of s one own same h =
      state_found s.rows one own
      ∙ ap state_by (ap (λ t. found t (cell_at own s.rows).pending) (same_tx-is one tx same) ∙ h.there)

  -- the primary marks what it commits
  marked : (s : LqhState) (one : TxId) (own : List ℕ) (epoch : ℕ) (chain : List Member) (at : ℕ) → same_tx one tx ≡ true
      → (at == 0) ≡ true → HasPrepared tx (cell_at own s.rows).pending
      → list_any (is_applied tx) (commit.commit_row s one own epoch chain at).effects.marks ≡ true
  marked s one own epoch chain at same zero h =
      commit_forms (λ step. list_any (is_applied tx) step.effects.marks ≡ true) s one own epoch chain at (record {
        last = λ had st markers applies first. had_marked had (sym applies.had_is ∙ state_of s one own same h);
        passes = λ had st markers applies behind. absurd (false≢true (sym behind ∙ zero));
      })
    where
      had_marked : (had : Option Bool) → had ≡ Some h.record_is.committed
          → list_any (is_applied tx) (commit.applied_marks one own had) ≡ true
      had_marked None is = cc
      had_marked (Some committed) is = or_left (same_tx one tx) false same

  lqh_primary : (s : LqhState) (body : Body) (key : List ℕ)
      → Fading tx (event_at key s body) (at_key key s).cell.pending
      (key_after (event_at key s body) (at_key key s)).cell.pending
      → ((one : TxId) (own : List ℕ) (epoch : ℕ) (chain : List Member) (at : ℕ)
      → body ≡ Chain (Commit one own epoch chain at) → own ≡ key → (at == 0) ≡ true)
      → HasPrepared tx (at_key key s).cell.pending
      → HasPrepared tx (key_after (event_at key s body) (at_key key s)).cell.pending
      ⊎ (list_any (is_applied tx) (lqh_table s body).effects.marks ≡ true)
  lqh_primary s body key (stays is) ends h =
      inl (record { record_is = h.record_is; there = is ∙ h.there; prepared = h.prepared })
  lqh_primary s body key (is_completed is) ends h =
      inl (record {
        record_is = h.record_is;
        there = is ∙ ap now h.there
            ∙ ap (λ b. if b then None else Some h.record_is) h.prepared;
        prepared = h.prepared;
      })
    where
      now : Option PendingRecord → Option PendingRecord
      now None = None
      now (Some r) = if r.committed then None else Some r
  lqh_primary s (Chain (Commit one own epoch chain at)) key (is_committed v last event_is same is) ends h =
      by (same_key own key) refl event_is
    where
      by : (b : Bool) → same_key own key ≡ b → (if b then commits one (at == 0) else rests) ≡ commits v last
          → HasPrepared tx (key_after (event_at key s (Chain (Commit one own epoch chain at)))
          (at_key key s)).cell.pending ⊎ (list_any (is_applied tx)
          (commit.commit_row s one own epoch chain at).effects.marks ≡ true)
      by true e q =
          let one_v : one ≡ v = cc in
          let own_key = keys.same own key e in
          inr (marked s one own epoch chain at (ap (λ t. same_tx t tx) one_v ∙ same)
          (ends one own epoch chain at refl own_key)
          (subst (λ k. HasPrepared tx (cell_at k s.rows).pending) (sym own_key) h))
      by false e q = absurd (none q)
        where
          none : rests ≡ commits v last → ⊥
          none r = cc
  lqh_primary s body key (is_committed v last event_is same is) ends h =
      absurd (no_commits key s body v last refl event_is)

  -- a record that was prepared stays so, or its commit is marked
  abbrev pub StaysOrMarks : Replica → Event → List Mark → Type 0
  StaysOrMarks r event marks = HasPrepared tx (key_after event r).cell.pending ⊎ (list_any (is_applied tx) marks ≡ true)

  pub primary_step : (g : host.Host) (x : Signal) (key : List ℕ)
      → Fading tx (event_in key g x) (key_in key g).cell.pending
      (key_after (event_in key g x) (key_in key g)).cell.pending
      → ((one : TxId) (own : List ℕ) (epoch : ℕ) (chain : List Member) (at : ℕ)
      → x.body ≡ Chain (Commit one own epoch chain at) → own ≡ key → (at == 0) ≡ true)
      → HasPrepared tx (key_in key g).cell.pending
      → StaysOrMarks (key_in key g) (event_in key g x) (row g x).effects.marks
  primary_step g x key f ends h = by (event_case key g x)
    where
      by : EventCase key g x (row g x) → StaysOrMarks (key_in key g) (event_in key g x) (row g x).effects.marks
      by (of_rows step is) =
          subst (λ event. StaysOrMarks (key_in key g) event (row g x).effects.marks) (sym is)
          (subst (λ (effects : Effects). StaysOrMarks (key_in key g) (event_at key (lqh_of g) x.body) effects.marks)
          (sym step.effects)
          (lqh_primary (lqh_of g) x.body key (subst
          (λ event. Fading tx event (key_in key g).cell.pending (key_after event (key_in key g)).cell.pending) is f)
          ends h))
      by (no_event is) = subst (λ event. StaysOrMarks (key_in key g) event (row g x).effects.marks) (sym is) (inl h)

  -- where the last commit comes nothing stays prepared
  pub last_step : (g : host.Host) (x : Signal) (one : TxId) (own key : List ℕ) (epoch : ℕ) (chain : List Member)
      (at : ℕ) → x.body ≡ Chain (Commit one own epoch chain at)
      → x.to.block ≡ block.Lqh → same_tx one tx ≡ true → same_key own key ≡ true
      → HasPrepared tx (key_after (event_in key g x) (key_in key g)).cell.pending → ⊥
  last_step (Ldm s) x one own key epoch chain at is home same same_own h =
      commit_ends tx one (at == 0) (at_key key s) same
      (subst (λ (ev : Event). HasPrepared tx (key_after ev (at_key key s)).cell.pending)
      (event_rows key (Ldm s) x refl home ∙ ap (event_at key s) is
      ∙ ap (λ b. if b then commits one (at == 0) else rests) same_own) h)
  last_step _ x one own key epoch chain at is home same same_own h = let none : None ≡ Some h.record_is = h.there in cc
