-- In the current view rows ask, answer and refuse nothing of a transaction of which nothing was asked for in it: so its
-- records there change only by a commit, a completion or an abort, and none comes.
use Rattle.std.proofs.Common.{◌≡◌, ◌∙◌, ℕ, true, false, List, ◌∷◌, refl, sym, ap, subst}
use Rattle.std.specs.Prelude.{Option, None, Some, is_some}
use Rattle.run_theory.specs.Lists.{Each, IsIn}
use Rattle.run_theory.proofs.Pasts.{each_map}
use Rattle.sig_core.specs.declared.member.Member.{Member}
use Rattle.sig_core.specs.declared.member.TxId.{TxId}
use Rattle.sig_core.specs.declared.place.BlockId.TheVariants as block
use Rattle.sig_core.specs.declared.rows.PendingRecord.{PendingRecord}
use Rattle.sig_core.specs.declared.signal.Body.{Body}
use Rattle.sig_core.specs.declared.signal.Body.TheVariants.{Chain}
use Rattle.sig_core.specs.declared.signal.Signal.{Signal}
use Rattle.sig_core.specs.declared.signal.chain.ChainSignal.TheVariants.{LqhKeyConf, LqhKeyRef, LqhKeyReq}
use Rattle.sig_core.specs.declared.view.View.{View}
use Rattle.sig_core.specs.Same.{same_tx}
use Rattle.lqh_block.specs.declared.request.Request.{Request}
use Rattle.lqh_views.specs.State.{ReplicaState}
use Rattle.key_laws.specs.Records.{as_committed, if_committed, unless_committed}
use Rattle.world_core.specs.Start.{Start, made}
use Rattle.world_core.specs.Steps.{HostStep}
use Rattle.run_laws.specs.Tokens.{is_token}
use Rattle.view_laws.specs.Runs.{view_after}
use Rattle.moment_laws.specs.Moments.{IsMoment, current, logs_of}
use Rattle.moment_laws.specs.Places.{ldm_of}
use Rattle.moment_laws.proofs.MomentViews.{moment_less}
use Rattle.moment_laws.proofs.PartTaken.{IsTakenNow}
use Rattle.request_laws.specs.Routed.{AllRouted, IsGivenUp, IsRoutedSignal, WasAskedIn, WasDrivenIn, layout_in}
use Rattle.request_laws.specs.Routes.{IsRouted}
use Rattle.request_laws.proofs.routes.All.{signals_are_routed}
use Rattle.request_laws.proofs.routes.BesideRows.{is_of_rows}
use Rattle.request_laws.proofs.routes.Headers.{chain_fenced, header_is, told_of}
use Rattle.commit_laws.specs.Traces.{record_at, rows_at}
use Rattle.commit_laws.proofs.records.KeyGoes.{KeyGoes, RecordGoes, idle_goes, is_aborted, is_committed, is_completed}
use Rattle.commit_laws.proofs.records.KeyGoes.{record_stays}
use Rattle.commit_laws.proofs.records.Moves.{IsIdle, now_by}
use Rattle.commit_laws.proofs.hosts.RowsTurn.{IsBetween, IsTakenAt, as_was, entered}

module _ (start : Start) (all : ℕ → List HostStep) (e : HostStep) (es : List HostStep)
    (moment : IsMoment start all (e ∷ es)) (member : Member) (there : IsIn member (made start)) (tx : TxId)
    (unasked : (view : View) (other : TxId) → view ≡ current start (logs_of start (e ∷ es))
    → WasAskedIn start (logs_of start es) view other → same_tx other tx ≡ false)
  where
    abbrev old : ℕ → List HostStep
    old = logs_of start es

    abbrev new : ℕ → List HostStep
    new = logs_of start (e ∷ es)

    abbrev x : Signal
    x = e.step.taken

    routed : AllRouted start old
    routed = signals_are_routed start all es (moment_less start all e es moment)

    -- the signal that rows take of chains is routed in the current view
    module _ (taken : IsTakenNow start all e es moment block.Lqh) where
      of_chain : is_of_rows x.body ≡ true → x.view ≡ current start new
          → IsRoutedSignal start old (record { to = e.host; signal = x })
      of_chain of_rows same =
          told_of start all e es moment (IsRoutedSignal start old) routed.signals taken.sound of_rows

      no_token : is_token tx x.body ≡ false
      no_token = by x.body refl
        where
          view_is : (body : Body) → x.body ≡ body → (signal : _) → body ≡ Chain signal → x.view ≡ current start new
          view_is body is signal chain =
              header_is start all e es moment
              (taken.fresh (chain_fenced x signal (is ∙ chain)) ∙ sym (ap (λ (v : View). v.number) taken.stands))
              ∙ taken.stands

          by : (body : Body) → x.body ≡ body → is_token tx body ≡ false
          by (Chain (LqhKeyReq other work chain at)) is =
              let view = view_is (Chain (LqhKeyReq other work chain at)) is _ refl in
              unasked x.view other view
              ((subst
              (λ b. IsRouted (layout_in start x.view) (WasAskedIn start old x.view) (WasDrivenIn start old x.view)
              (IsGivenUp start old) x.to b) is (of_chain (ap is_of_rows is) view)).1)
          by (Chain (LqhKeyConf other key answer)) is =
              let view = view_is (Chain (LqhKeyConf other key answer)) is _ refl in
              unasked x.view other view
              ((subst
              (λ b. IsRouted (layout_in start x.view) (WasAskedIn start old x.view) (WasDrivenIn start old x.view)
              (IsGivenUp start old) x.to b) is (of_chain (ap is_of_rows is) view)).1)
          by (Chain (LqhKeyRef other key cause)) is =
              let view = view_is (Chain (LqhKeyRef other key cause)) is _ refl in
              unasked x.view other view
              ((subst
              (λ b. IsRouted (layout_in start x.view) (WasAskedIn start old x.view) (WasDrivenIn start old x.view)
              (IsGivenUp start old) x.to b) is (of_chain (ap is_of_rows is) view)).1)
          by body is = refl

    none_waits : view_after start (ldm_of start member) (e ∷ old (ldm_of start member))
        ≡ view_after start (ldm_of start member) (old (ldm_of start member)) → e.host ≡ ldm_of start member
        → IsTakenNow start all e es moment block.Lqh
        → Each (λ (q : Request). same_tx q.tx tx ≡ false) (rows_at start old member).lqh.waiting
    none_waits stays at taken =
        each_map _ (λ (q : Request). same_tx q.tx tx ≡ false) (rows_at start old member).lqh.waiting
        (λ q was. unasked (view_after start (ldm_of start member) (old (ldm_of start member))) q.tx stood was.1)
        (routed.rows member there)
      where
        stood : view_after start (ldm_of start member) (old (ldm_of start member)) ≡ current start new
        stood = sym stays ∙ (ap (λ k. view_after start k (e ∷ old k)) (sym at) ∙ taken.stands)

    -- so rows that take the signal of the event do nothing else for it
    pub unasked_idle : (key : List ℕ) (s : ReplicaState) → IsBetween start all e es moment member there s
        → IsTakenAt start all e es moment member there s → IsIdle tx key s.lqh x.body
    unasked_idle key s between taken = record { taken = no_token taken.now; waits = by between }
      where
        by : IsBetween start all e es moment member there s
            → Each (λ (q : Request). same_tx q.tx tx ≡ false) s.lqh.waiting
        by (as_was is stays) =
            subst (λ (s : ReplicaState). Each (λ (q : Request). same_tx q.tx tx ≡ false) s.lqh.waiting) (sym is)
            (none_waits stays taken.at taken.now)
        by (entered view is) =
            subst (λ (s : ReplicaState). Each (λ (q : Request). same_tx q.tx tx ≡ false) s.lqh.waiting) (sym is) tt

    -- and a record or a marker of it that a member has was there before, unless it is committed by the event
    pub unasked_goes : (key : List ℕ) → KeyGoes start all e es moment member there key tx
    unasked_goes key = idle_goes start all e es moment member there key tx (unasked_idle key)

    pub record_was : (key : List ℕ) → is_some (record_at start new member key tx) ≡ true
        → is_some (record_at start old member key tx) ≡ true
    record_was key some = by (unasked_goes key).record_goes
      where
        edited : (f : PendingRecord → Option PendingRecord) (o : Option PendingRecord) → is_some (now_by f o) ≡ true
            → is_some o ≡ true
        edited f None is = is
        edited f (Some r) is = refl

        by : RecordGoes start all e es moment member there key tx → is_some (record_at start old member key tx) ≡ true
        by (record_stays is) = sym (ap is_some is) ∙ some
        by (is_committed takes epoch chain at about is) =
            edited as_committed (record_at start old member key tx) (sym (ap is_some is) ∙ some)
        by (is_completed takes chain at about is) =
            edited unless_committed (record_at start old member key tx) (sym (ap is_some is) ∙ some)
        by (is_aborted takes about is) =
            edited if_committed (record_at start old member key tx) (sym (ap is_some is) ∙ some)
