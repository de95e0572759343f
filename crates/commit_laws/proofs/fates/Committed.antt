-- Of whoever was committed nothing is asked any more: it isn't given up, and has nothing unanswered; so rows do nothing
-- for it in the current view but what commits, completions and aborts tell.
use Rattle.std.proofs.Common.{◌≡◌, ◌≤◌, ◌<◌, ◌⊎◌, ◌==◌, ◌&&◌, ◌||◌, ◌∙◌, ℕ, Bool, true, false, List, [], ◌∷◌, eq-eqb}
use Rattle.std.proofs.Common.{refl, sym, ap, subst, arith, inl, inr}
use Rattle.std.proofs.lemmas.Bool.{cases_lt, or_cases, true≢false}
use Rattle.std.specs.Prelude.{if◌then◌else◌, is_some, not, Option, None, Some}
use Rattle.std.specs.List.{list_any}
use Rattle.run_theory.specs.Lists.{Each, IsIn}
use Rattle.sig_core.specs.declared.mark.Mark.{Mark}
use Rattle.sig_core.specs.declared.mark.Mark.TheVariants.{Decided}
use Rattle.sig_core.specs.declared.member.Member.{Member}
use Rattle.sig_core.specs.declared.member.TxId.{TxId}
use Rattle.sig_core.specs.declared.place.BlockId.TheVariants as block
use Rattle.sig_core.specs.declared.place.Part.TheVariants.{Tc}
use Rattle.sig_core.specs.declared.signal.Signal.{Signal}
use Rattle.sig_core.specs.declared.view.View.{View}
use Rattle.sig_core.specs.Same.{same_tx}
use Rattle.sig_core.proofs.TxLemmas.{same_tx-is}
use Rattle.tc_block.specs.declared.phase.Asked.{Asked}
use Rattle.tc_block.specs.declared.phase.Phase.{Phase}
use Rattle.tc_block.specs.declared.phase.Phase.TheVariants.{Aborting, Committing, Completing, Open, Verifying}
use Rattle.tc_block.specs.declared.transaction.Transaction.{Transaction}
use Rattle.lqh_block.specs.declared.request.Request.{Request}
use Rattle.lqh_views.specs.State.{ReplicaState}
use Rattle.node_views.specs.Fence.{is_fenced}
use Rattle.node_views.specs.WellFormed.{is_well_formed}
use Rattle.host_laws.proofs.coordinator.OfLive.{each_found}
use Rattle.host_laws.proofs.rows.Operations.{true_and}
use Rattle.world_core.specs.Hosts.{hosts}
use Rattle.world_core.specs.Marks.{has_mark}
use Rattle.world_core.specs.Start.{Start, made}
use Rattle.world_core.specs.Steps.{HostStep}
use Rattle.world_views.specs.Sending.{is_own_work}
use Rattle.run_laws.specs.Tokens.{is_token}
use Rattle.view_laws.specs.Runs.{view_after}
use Rattle.moment_laws.specs.Moments.{IsMoment, logs_of}
use Rattle.moment_laws.specs.Places.{ldm_of, tc_of}
use Rattle.moment_laws.proofs.MomentHosts.{host_made}
use Rattle.moment_laws.proofs.MomentTurns.{current_rises}
use Rattle.moment_laws.proofs.MomentViews.{current_above, moment_less, moment_within}
use Rattle.moment_laws.proofs.PartTaken.{IsTakenNow}
use Rattle.outcome_laws.specs.Counts.{coordinator_member, is_decision}
use Rattle.outcome_laws.specs.Decided.{IsMarked}
use Rattle.outcome_laws.proofs.coordinators.Lists.{none_passes}
use Rattle.request_laws.specs.Phases.{CoordinatorStands, HasGone, IsGivenWith, SaysIn, WaitsWith}
use Rattle.request_laws.specs.Tokens.{IsAlone, IsQuiet, count_waiting, has_asked, may_go, number_now}
use Rattle.request_laws.specs.Ways.{has_gone_forth}
use Rattle.request_laws.proofs.phases.Stands.{coordinators_stand}
use Rattle.request_laws.proofs.tokens.Alone.{quiet_unless_asked, taken_alone}
use Rattle.request_laws.proofs.tokens.RowHosts.{token_plain}
use Rattle.request_laws.proofs.tokens.HostsApart.{ldm_low}
use Rattle.commit_laws.specs.Going.{is_back, is_decided, is_forth, own_live, own_log}
use Rattle.commit_laws.specs.Traces.{rows_at}
use Rattle.commit_laws.proofs.records.Moves.{IsIdle}
use Rattle.commit_laws.proofs.hosts.RowsTurn.{IsBetween, IsTakenAt, as_was, entered}

-- a member whose coordinator's host has taken any step was made
module _ (start : Start) (all : ℕ → List HostStep) (es : List HostStep) (moment : IsMoment start all es) where
  pub log_made : (member : Member) → (logs_of start es (tc_of start member) ≡ [] → ⊥) → IsIn member (made start)
  log_made member some = by (cases_lt (tc_of start member) (hosts start))
    where
      by : (tc_of start member < hosts start) ⊎ (hosts start ≤ tc_of start member) → IsIn member (made start)
      by (inl low) = host_made start Tc member low
      by (inr high) = absurd (some (moment_within start all es moment (tc_of start member) high))

  pub forth_made : (tx : TxId) → is_forth start (logs_of start es) tx ≡ true → IsIn (coordinator_member tx) (made start)
  forth_made tx is =
      log_made (coordinator_member tx)
      (λ none. true≢false (sym is ∙ ap (has_gone_forth start (coordinator_member tx) tx) none))

  pub decided_made : (tx : TxId) → is_decided start (logs_of start es) tx ≡ true
      → IsIn (coordinator_member tx) (made start)
  decided_made tx is =
      log_made (coordinator_member tx) (λ none. true≢false (sym is ∙ ap (has_mark (is_decision tx)) none))

-- who is decided is so in an epoch
pub record IsDecidedAt (log : List HostStep) (tx : TxId) : Type 0 where
  pub epoch : ℕ
  pub marked : IsMarked (Decided tx epoch) log

-- one of these marks is a decision of it
pub record Decision (tx : TxId) (marks : List Mark) : Type 0 where
  pub epoch : ℕ
  pub inside : IsIn (Decided tx epoch) marks

pub decision_in : (tx : TxId) (marks : List Mark) → list_any (is_decision tx) marks ≡ true → Decision tx marks
decision_in tx [] is = absurd (true≢false (sym is))
decision_in tx (mark ∷ marks) is = by mark (or_cases (is_decision tx mark) (list_any (is_decision tx) marks) is)
    (decision_in tx marks)
  where
    more : (mark : Mark) → Decision tx marks → Decision tx (mark ∷ marks)
    more mark d = record { epoch = d.epoch; inside = inr d.inside }

    by : (mark : Mark) → (is_decision tx mark ≡ true) ⊎ (list_any (is_decision tx) marks ≡ true)
        → (list_any (is_decision tx) marks ≡ true → Decision tx marks) → Decision tx (mark ∷ marks)
    by (Decided other epoch) (inl is) rest =
        record { epoch = epoch; inside = inl (λ i. Decided (sym (same_tx-is other tx is) i) epoch) }
    by mark (inl is) rest = absurd (true≢false (sym is))
    by mark (inr is) rest = more mark (rest is)

pub decided_at : (log : List HostStep) (tx : TxId) → has_mark (is_decision tx) log ≡ true → IsDecidedAt log tx
decided_at [] tx is = absurd (true≢false (sym is))
decided_at (e ∷ log) tx is =
    by (or_cases (list_any (is_decision tx) e.step.marks) (has_mark (is_decision tx) log) is) (decided_at log tx)
  where
    by : (list_any (is_decision tx) e.step.marks ≡ true) ⊎ (has_mark (is_decision tx) log ≡ true)
        → (has_mark (is_decision tx) log ≡ true → IsDecidedAt log tx) → IsDecidedAt (e ∷ log) tx
    by (inl now) rest =
        let d = decision_in tx e.step.marks now in record { epoch = d.epoch; marked = inl d.inside }
    by (inr old) rest = let d = rest old in record { epoch = d.epoch; marked = inr d.marked }

-- its coordinator hasn't given it up, and has nothing of it unanswered
pub record IsCalm (start : Start) (logs : ℕ → List HostStep) (tx : TxId) : Type 0 where
  pub made : IsIn (coordinator_member tx) (made start)
  pub back : is_back start logs tx ≡ false
  pub answered : has_asked (own_live start logs tx) ≡ false

module _ (start : Start) (all : ℕ → List HostStep) (es : List HostStep) (moment : IsMoment start all es) (tx : TxId)
  where
    abbrev logs : ℕ → List HostStep
    logs = logs_of start es

    module _ (there : IsIn (coordinator_member tx) (made start)) where
      abbrev stands : CoordinatorStands start (coordinator_member tx) logs
      stands = coordinators_stand start all es moment (coordinator_member tx) there

      abbrev says : (t : Transaction) → own_live start logs tx ≡ Some t
          → SaysIn start (coordinator_member tx) (own_log start logs tx) tx t t.phase
      says t is = each_found _ _ tx t stands.says is

      -- in a phase of what was committed
      asked_none : (t : Transaction) (phase : Phase) → is_forth start logs tx ≡ true
          → SaysIn start (coordinator_member tx) (own_log start logs tx) tx t phase → t.asked ≡ None
      asked_none t Open forth said = absurd (true≢false (sym forth ∙ said.0))
      asked_none t Verifying forth said = said.0
      asked_none t (Committing epoch awaited) forth said = said.0
      asked_none t (Completing epoch awaited) forth said = said.0
      asked_none t (Aborting why verifying awaited) forth said = absurd (true≢false (sym forth ∙ said))

      none_asked : (t : Transaction) → t.asked ≡ None → has_asked (Some t) ≡ false
      none_asked t is = by t.asked is
        where
          by : (o : Option Asked) → o ≡ None → is_some o ≡ false
          by None is = refl
          by (Some a) is = absurd cc

      forth_answered : is_forth start logs tx ≡ true → (o : Option Transaction) → own_live start logs tx ≡ o
          → has_asked o ≡ false
      forth_answered forth None is = refl
      forth_answered forth (Some t) is = none_asked t (asked_none t t.phase forth (says t is))

    -- so it is of whoever was committed
    pub forth_calm : is_forth start logs tx ≡ true → IsCalm start logs tx
    forth_calm forth =
        let there = forth_made start all es moment tx forth in
        record {
          made = there;
          back = (stands there).one_way tx forth;
          answered = forth_answered there forth (own_live start logs tx) refl;
        }

    -- and of whoever is decided and isn't given up
    pub decided_calm : is_decided start logs tx ≡ true → is_back start logs tx ≡ false → IsCalm start logs tx
    decided_calm decided back = record {
      made = there;
      back = back;
      answered = by given.waits;
    }
      where
        there : IsIn (coordinator_member tx) (made start)
        there = decided_made start all es moment tx decided

        at : IsDecidedAt (own_log start logs tx) tx
        at = decided_at (own_log start logs tx) tx decided

        given : IsGivenWith start (coordinator_member tx) (own_log start logs tx) tx at.epoch
        given = (stands there).decided tx at.epoch at.marked

        by : HasGone start (coordinator_member tx) (own_log start logs tx) tx
            ⊎ WaitsWith start (coordinator_member tx) (own_log start logs tx) tx given.ops
            → has_asked (own_live start logs tx) ≡ false
        by (inl (inl forth)) = forth_answered there forth (own_live start logs tx) refl
        by (inl (inr gone)) = absurd (true≢false (sym gone ∙ back))
        by (inr waits) =
            ap has_asked waits.there
            ∙ none_asked there waits.transaction
            (subst (λ (p : Phase). SaysIn start (coordinator_member tx) (own_log start logs tx) tx waits.transaction p)
            waits.phase (says there waits.transaction waits.there)).0

    pub calm_stops : (number : ℕ) → IsCalm start logs tx → may_go start logs tx number ≡ false
    calm_stops number calm = by (is_back start logs tx) (has_asked (own_live start logs tx)) _ calm.back calm.answered
      where
        by : (a b c : Bool) → a ≡ false → b ≡ false → ((a || b) && c) ≡ false
        by true b c is none = absurd (true≢false is)
        by false true c is none = absurd (true≢false none)
        by false false c is none = refl

-- where a token is taken, none of its transaction waits at the rows that take it
module _ (start : Start) (all : ℕ → List HostStep) (e : HostStep) (es : List HostStep)
    (moment : IsMoment start all (e ∷ es)) (member : Member) (there : IsIn member (made start)) (tx : TxId)
    (own : IsIn (coordinator_member tx) (made start))
  where
    abbrev now_number : ℕ
    now_number = number_now start (logs_of start (e ∷ es))

    asked_off : (own work sound : Bool) → work ≡ false → sound ≡ true → ((own && work) || not sound) ≡ false
    asked_off true true sound e f = absurd (true≢false e)
    asked_off true false true e f = refl
    asked_off true false false e f = absurd (true≢false (sym f))
    asked_off false work true e f = refl
    asked_off false work false e f = absurd (true≢false (sym f))

    pub token_alone : IsTakenNow start all e es moment block.Lqh → is_token tx e.step.taken.body ≡ true
        → IsAlone start (logs_of start es) tx now_number
    unfolding is_fenced
    token_alone taken is =
        let x = e.step.taken in
        let plain = token_plain tx x.body is in
        taken_alone start all e es moment tx own
        (asked_off (x.from.0 == e.host) (is_own_work x.body) (is_well_formed start.shape x) plain.0 taken.sound)
        (true_and (is_token tx x.body) (x.view.number == now_number) is
        (eq-eqb x.view.number now_number (taken.fresh (plain.1 x))))

    waits_none : (number : ℕ) → number ≡ now_number
        → (if number == now_number then count_waiting tx (rows_at start (logs_of start es) member) else 0) ≡ 0
        → Each (λ (q : Request). same_tx q.tx tx ≡ false) (rows_at start (logs_of start es) member).lqh.waiting
    waits_none number same none =
        none_passes (λ (q : Request). same_tx q.tx tx) (rows_at start (logs_of start es) member).lqh.waiting
        (sym (ap (λ b. if b then count_waiting tx (rows_at start (logs_of start es) member) else 0)
        (eq-eqb number now_number same)) ∙ none)

    pub alone_waits : (s : ReplicaState) → IsBetween start all e es moment member there s
        → IsTakenAt start all e es moment member there s → is_token tx e.step.taken.body ≡ true
        → Each (λ (q : Request). same_tx q.tx tx ≡ false) s.lqh.waiting
    alone_waits s between taken is = by between
      where
        by : IsBetween start all e es moment member there s
            → Each (λ (q : Request). same_tx q.tx tx ≡ false) s.lqh.waiting
        by (as_was same stays) =
            let stood =
            sym (ap (λ (v : View). v.number) stays)
            ∙ ap (λ k. (view_after start k (e ∷ logs_of start es k)).number) (sym taken.at)
            ∙ ap (λ (v : View). v.number) taken.now.stands in
            subst (λ (s : ReplicaState). Each (λ (q : Request). same_tx q.tx tx ≡ false) s.lqh.waiting) (sym same)
            (waits_none
            (view_after start (ldm_of start member) (logs_of start es (ldm_of start member))).number stood
            ((token_alone taken.now is).waits member there))
        by (entered view same) =
            subst (λ (s : ReplicaState). Each (λ (q : Request). same_tx q.tx tx ≡ false) s.lqh.waiting) (sym same) tt

module _ (start : Start) (all : ℕ → List HostStep) (e : HostStep) (es : List HostStep)
    (moment : IsMoment start all (e ∷ es)) (member : Member) (there : IsIn member (made start)) (tx : TxId)
    (calm : IsCalm start (logs_of start es) tx)
  where
    abbrev old : ℕ → List HostStep
    old = logs_of start es

    abbrev now : ℕ
    now = number_now start (logs_of start (e ∷ es))

    abbrev x : Signal
    x = e.step.taken

    abbrev before : IsMoment start all es
    before = moment_less start all e es moment

    no_token : IsTakenNow start all e es moment block.Lqh → is_token tx x.body ≡ false
    unfolding is_fenced
    no_token taken = by (is_token tx x.body) refl
      where
        asked : (own work sound : Bool) → work ≡ false → sound ≡ true → ((own && work) || not sound) ≡ false
        asked true true sound e f = absurd (true≢false e)
        asked true false true e f = refl
        asked true false false e f = absurd (true≢false (sym f))
        asked false work true e f = refl
        asked false work false e f = absurd (true≢false (sym f))

        both : (a b : Bool) → a ≡ true → b ≡ true → (a && b) ≡ true
        both true b is other = other
        both false b is other = absurd (true≢false (sym is))

        by : (b : Bool) → is_token tx x.body ≡ b → b ≡ false
        by false is = refl
        by true is =
            let plain = token_plain tx x.body is in
            let alone : IsAlone start old tx now =
            taken_alone start all e es moment tx calm.made
            (asked (x.from.0 == e.host) (is_own_work x.body) (is_well_formed start.shape x) plain.0 taken.sound)
            (both (is_token tx x.body) (x.view.number == now) is (eq-eqb x.view.number now (taken.fresh (plain.1 x))))
            in
            absurd (true≢false (sym alone.may ∙ calm_stops start all es before tx now calm))

    none_wait : view_after start (ldm_of start member) (e ∷ old (ldm_of start member))
        ≡ view_after start (ldm_of start member) (old (ldm_of start member)) → e.host ≡ ldm_of start member
        → IsTakenNow start all e es moment block.Lqh
        → Each (λ (q : Request). same_tx q.tx tx ≡ false) (rows_at start old member).lqh.waiting
    none_wait stays at taken =
        none_passes (λ (q : Request). same_tx q.tx tx) (rows_at start old member).lqh.waiting
        (by (number == number_now start old) refl (quiet.waits member there))
      where
        number : ℕ
        number = (view_after start (ldm_of start member) (old (ldm_of start member))).number

        quiet : IsQuiet start old tx (number_now start old)
        quiet =
            quiet_unless_asked start all es before tx calm.made
            (calm_stops start all es before tx (number_now start old) calm)

        stood : number ≡ now
        stood =
            sym (ap (λ (v : View). v.number) stays)
            ∙ ap (λ k. (view_after start k (e ∷ old k)).number) (sym at)
            ∙ ap (λ (v : View). v.number) taken.stands

        same : number ≡ number_now start old
        same =
            let up = current_above start old moment.cluster.nobody (ldm_of start member)
            (ldm_low start moment.cluster.nobody member there) in
            let rises = current_rises start all e es moment in
            omega (arith, up, rises, stood)

        by : (b : Bool) → (number == number_now start old) ≡ b
            → (if b then count_waiting tx (rows_at start old member) else 0) ≡ 0
            → count_waiting tx (rows_at start old member) ≡ 0
        by true is none = none
        by false is none = absurd (true≢false (sym (eq-eqb number (number_now start old) same) ∙ is))

    -- so rows that take the signal of the event do nothing else for it
    pub calm_idle : (key : List ℕ) (s : ReplicaState) → IsBetween start all e es moment member there s
        → IsTakenAt start all e es moment member there s → IsIdle tx key s.lqh x.body
    calm_idle key s between taken = record { taken = no_token taken.now; waits = by between }
      where
        by : IsBetween start all e es moment member there s
            → Each (λ (q : Request). same_tx q.tx tx ≡ false) s.lqh.waiting
        by (as_was is stays) =
            subst (λ (s : ReplicaState). Each (λ (q : Request). same_tx q.tx tx ≡ false) s.lqh.waiting) (sym is)
            (none_wait stays taken.at taken.now)
        by (entered view is) =
            subst (λ (s : ReplicaState). Each (λ (q : Request). same_tx q.tx tx ≡ false) s.lqh.waiting) (sym is) tt
