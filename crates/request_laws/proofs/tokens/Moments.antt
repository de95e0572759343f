-- At each moment the operations of a transaction are under way one at a time.
use Rattle.std.proofs.Common.{◌≡◌, ◌≢◌, ◌≤◌, ◌<◌, ◌+◌, ◌⊎◌, ◌==◌, ◌&&◌, ◌||◌, ◌∙◌, ℕ, Bool, true, false, List, [], ◌∷◌}
use Rattle.std.proofs.Common.{refl, sym, ap, subst, arith, inl, inr}
use Rattle.std.proofs.lemmas.Bool.{cases_eq, eq-eqb, eqb-true, or_right, true≢false}
use Rattle.std.specs.Prelude.{if◌then◌else◌}
use Rattle.std.specs.List.{count_by}
use Rattle.run_theory.specs.Lists.{IsIn}
use Rattle.host_laws.proofs.hosts.Sums.{total_zero}
use Rattle.sig_core.specs.declared.member.Member.{Member}
use Rattle.sig_core.specs.declared.member.TxId.{TxId}
use Rattle.sig_core.specs.declared.outs.Outgoing.{Outgoing}
use Rattle.sig_core.specs.declared.place.BlockId.TheVariants as block
use Rattle.sig_core.specs.declared.signal.Body.{Body}
use Rattle.sig_core.specs.declared.signal.Body.TheVariants.{Chain}
use Rattle.sig_core.specs.declared.signal.Signal.{Signal}
use Rattle.sig_core.specs.declared.signal.chain.ChainSignal.TheVariants.{LqhKeyReq}
use Rattle.sig_core.specs.declared.view.View.{View}
use Rattle.tc_block.specs.Phases.{is_aborting}
use Rattle.tc_block.specs.Complete.{one_if}
use Rattle.node_views.specs.declared.host_body.HostBody as node
use Rattle.world_core.proofs.MadeFirst.{begins_made}
use Rattle.world_core.specs.Hosts.{hosts}
use Rattle.world_core.specs.Start.{NobodyStarts, Start, made}
use Rattle.world_core.specs.Steps.{Addressed, HostStep}
use Rattle.world_views.specs.Hosts.{started}
use Rattle.world_views.specs.Machine.{step_after, stops_by}
use Rattle.run_laws.specs.Tokens.{is_token}
use Rattle.view_laws.specs.Order.{sound_machine}
use Rattle.view_laws.specs.Runs.{view_after}
use Rattle.view_laws.proofs.runs.FirstMembers.{first_again, first_in, node_low, node_some}
use Rattle.moment_laws.specs.Moments.{IsMoment, logs_of}
use Rattle.moment_laws.specs.PartSteps.{tc_kind}
use Rattle.moment_laws.specs.Places.{ldm_of, tc_of}
use Rattle.moment_laws.proofs.MomentHosts.{ldm_started}
use Rattle.moment_laws.proofs.MomentTurns.{Turn, host_low, keeps, other_log, own_log, raises, stands_behind, turn}
use Rattle.moment_laws.proofs.MomentViews.{current_above, current_number, moment_less}
use Rattle.moment_laws.proofs.PartKinds.{tc_is}
use Rattle.moment_laws.proofs.PartTaken.{handled_now}
use Rattle.outcome_laws.specs.Counts.{coordinator_member, count_sent}
use Rattle.outcome_laws.proofs.coordinators.Lists.{count_more, none_counted}
use Rattle.request_laws.specs.Blocks.{coordinator_after, no_replica, rows_after, rows_in}
use Rattle.request_laws.specs.Drives.{asked_in, is_request}
use Rattle.request_laws.specs.Tokens.{OneAtATime, all_sent, all_taken, all_waiting, budget, count_waiting, has_asked}
use Rattle.request_laws.specs.Tokens.{is_token_in, may_behind, number_now, waiting_at, waits_behind}
use Rattle.request_laws.specs.Ways.{entry_of, has_gone_back, is_sent, tells_abort}
use Rattle.request_laws.proofs.phases.GoneWays.{gone_stays}
use Rattle.request_laws.proofs.routes.Hosts.{IsBeside, PartHost, beside_sends, coordinates, is_beside, keeps_rows}
use Rattle.request_laws.proofs.routes.Hosts.{part_host}
use Rattle.request_laws.proofs.tokens.CoordinatorEvents.{Hears, IsHandled, StepTokens, always_fits, foreign_none}
use Rattle.request_laws.proofs.tokens.CoordinatorEvents.{step_tokens}
use Rattle.request_laws.proofs.tokens.RowHosts.{ldm_keeps, sent_few, token_taken}
use Rattle.request_laws.proofs.tokens.OtherBlocks.{aside_none}
use Rattle.request_laws.proofs.tokens.HostsApart.{ldm_low, ldm_no_tc, ldm_same}
use Rattle.request_laws.proofs.tokens.Steps.{TokenMove, quiet, sends_one}
use Rattle.request_laws.proofs.tokens.FirstInView.{all_sent_more, all_sent_none, all_taken_more, node_of, sent_now}
use Rattle.request_laws.proofs.tokens.FirstInView.{taken_now, total_of_made, total_of_same, total_of_zero}

-- a request is a token: where none of them is sent, none was asked for
unasked : (tx : TxId) (sends : List Outgoing) → count_sent (is_token tx) sends ≡ 0
    → is_sent (is_request tx) sends ≡ false
unasked tx [] none = refl
unasked tx (o ∷ sends) none =
    let more = count_more (λ (o : Outgoing). is_token tx o.body) o sends in
    ap (λ b. b || is_sent (is_request tx) sends) (one o.body (omega (arith, none, more)))
    ∙ unasked tx sends (omega (arith, none, more))
  where
    one : (body : Body) → one_if (is_token tx body) ≡ 0 → is_request tx body ≡ false
    one (Chain (LqhKeyReq other work chain at)) is = by (is_token tx (Chain (LqhKeyReq other work chain at))) is
      where
        by : (b : Bool) → one_if b ≡ 0 → b ≡ false
        by false is = refl
        by true is = absurd (omega (arith, is))
    one body is = refl

-- what may be under way goes on so, or came by a token, or the transaction is given up
may_more : (gone asked here gone_now asked_now : Bool) (taken : ℕ) → (gone ≡ true → gone_now ≡ true)
    → (asked ≡ true → (asked_now ≡ true) ⊎ ((1 ≤ taken) ⊎ (gone_now ≡ true)))
    → one_if ((gone || asked) && here) ≤ taken + one_if ((gone_now || asked_now) && here)
may_more true asked here true asked_now taken up on = omega arith
may_more true asked here false asked_now taken up on = absurd (true≢false (sym (up refl)))
may_more false false here gone_now asked_now taken up on = omega arith
may_more false true here true asked_now taken up on = omega arith
may_more false true here false true taken up on = omega arith
may_more false true here false false taken up on = by here (on refl)
  where
    by : (here : Bool) → (false ≡ true) ⊎ ((1 ≤ taken) ⊎ (false ≡ true)) → one_if here ≤ taken + 0
    by here (inl is) = absurd (true≢false (sym is))
    by here (inr (inr is)) = absurd (true≢false (sym is))
    by true (inr (inl some)) = omega (arith, some)
    by false (inr (inl some)) = omega arith

module _ (start : Start) (all : ℕ → List HostStep) (e : HostStep) (es : List HostStep)
    (moment : IsMoment start all (e ∷ es)) (tx : TxId)
  where
    abbrev old : ℕ → List HostStep
    old = logs_of start es

    abbrev new : ℕ → List HostStep
    new = logs_of start (e ∷ es)

    abbrev now : ℕ
    now = number_now start new

    abbrev q : Signal → Bool
    q = is_token_in tx now

    abbrev s : ℕ
    s = sent_now start all e es moment q

    abbrev t : ℕ
    t = taken_now start all e es moment q

    abbrev member : Member
    member = coordinator_member tx

    abbrev home : ℕ
    home = tc_of start member

    -- no more tokens are sent than the blocks of the host send
    few : (h : ℕ) → e.host ≡ h → s ≤ count_sent (is_token tx) (step_after start h (old h) e).effects.sends
    few h at =
        subst (λ k. s ≤ count_sent (is_token tx) (step_after start k (old k) e).effects.sends) at
        (sent_few start (is_token tx) now e.host (old e.host) e)

    log_there : (h : ℕ) → e.host ≡ h → new h ≡ e ∷ old h
    log_there h at = subst (λ k. new k ≡ e ∷ old k) at (own_log start all e es moment)

    abbrev may_in : List HostStep → ℕ
    may_in log = one_if (may_behind start tx now log)

    may_elsewhere : e.host ≢ home → budget start new tx now ≡ budget start old tx now
    may_elsewhere off = ap may_in (other_log start all e es moment home off)

    -- the host of its coordinator
    module _ (there : IsIn member (made start)) (at : e.host ≡ home) where
      heard_taken : Hears start member there tx (old home) e → 1 ≤ t
      heard_taken heard =
          let handled : IsHandled start e.host (old e.host) e block.Tc =
          subst (λ k. IsHandled start k (old k) e block.Tc) (sym at) heard.1 in
          let taken =
          handled_now start all e es moment tc_kind tc_is handled.own handled.runs handled.between handled.front
          handled.enters handled.passed block.Tc handled.block_is in
          let token = token_taken start all e es moment tx block.Tc taken in
          omega (arith, ap one_if heard.0, token)

      stands_now : stops_by e.step.marks ≡ false → (view_after start home (e ∷ old home)).number ≡ now
      stands_now goes =
          subst (λ k. (view_after start k (e ∷ old k)).number ≡ now) at
          (ap (λ (v : View). v.number) (stands_behind start all e es moment goes))

      none_stopped : stops_by e.step.marks ≡ true → s ≡ 0
      none_stopped stops =
          ap (λ b. count_by (λ (x : Addressed). q x.signal)
          (if b then [] else (sound_machine start).sends e.host (old e.host) e)) stops

      asked_behind : (b : Bool)
          → is_sent (is_request tx) (step_after start home (old home) e).effects.sends ≡ b
          → asked_in start member tx (e ∷ old home)
          ≡ (if b then (view_after start home (e ∷ old home)).number else asked_in start member tx (old home))
      asked_behind b is =
          ap (λ c. if c then (view_after start home (e ∷ old home)).number else asked_in start member tx (old home)) is

      -- where it asks for an operation it may go on
      asks_may : (gone asked : Bool) (number : ℕ) → asked ≡ true → number ≡ now
          → one_if ((gone || asked) && (number == now)) ≡ 1
      asks_may gone asked number is same =
          ap (λ b. one_if (b && (number == now))) (or_right gone asked is) ∙ ap one_if (eq-eqb number now same)

      unasked_may : (gone asked here : Bool) → gone ≡ false → asked ≡ false → one_if ((gone || asked) && here) ≡ 0
      unasked_may gone asked here off none =
          ap (λ b. one_if ((b || asked) && here)) off ∙ ap (λ b. one_if (b && here)) none

      home_few : StepTokens start member there tx refl (old home) e
          → s + may_in (old home) ≤ t + may_in (e ∷ old home)
      home_few tokens = by tokens.step.moves
        where
          log : List HostStep
          log = old home

          was : Bool
          was = has_asked (entry_of (coordinator_after start member log) tx)

          is_now : Bool
          is_now = has_asked (entry_of (coordinator_after start member (e ∷ log)) tx)

          by : TokenMove tx tokens.body (has_gone_back start member tx log)
              (entry_of (coordinator_after start member log) tx)
              (entry_of (coordinator_after start member (e ∷ log)) tx) (step_after start home log e).effects.sends
              → s + may_in log ≤ t + may_in (e ∷ log)
          by (quiet none goes) =
              let same = asked_behind false (unasked tx (step_after start home log e).effects.sends none) in
              let more =
              may_more (has_gone_back start member tx log) was (asked_in start member tx log == now)
              (has_gone_back start member tx (e ∷ log)) is_now t
              (λ is. gone_stays start member tx is_aborting (tells_abort tx) log e is)
              (λ asked. heard (goes asked)) in
              let last =
              ap (λ n. one_if ((has_gone_back start member tx (e ∷ log) || is_now) && (n == now))) same in
              omega (arith, few home at, none, more, last)
            where
              heard : (is_now ≡ true)
                  ⊎ ((is_token tx tokens.body ≡ true) ⊎ (has_gone_back start member tx (e ∷ log) ≡ true))
                  → (is_now ≡ true) ⊎ ((1 ≤ t) ⊎ (has_gone_back start member tx (e ∷ log) ≡ true))
              heard (inl on) = inl on
              heard (inr (inl is)) = inr (inl (heard_taken (tokens.heard is)))
              heard (inr (inr back)) = inr (inr back)
          by (sends_one one request none asks off) =
              let before =
              unasked_may (has_gone_back start member tx log) was (asked_in start member tx log == now) off none in
              unless_stopped (stops_by e.step.marks) refl before
            where
              unless_stopped : (b : Bool) → stops_by e.step.marks ≡ b → may_in log ≡ 0
                  → s + may_in log ≤ t + may_in (e ∷ log)
              unless_stopped true stops before = omega (arith, none_stopped stops, before)
              unless_stopped false goes before =
                  let behind =
                  asks_may (has_gone_back start member tx (e ∷ log)) is_now (asked_in start member tx (e ∷ log)) asks
                  (asked_behind true request ∙ stands_now goes) in
                  omega (arith, few home at, one, before, behind)

      tc_keeps : s + budget start old tx now ≤ t + budget start new tx now
      tc_keeps =
          subst (λ log. s + may_in (old home) ≤ t + may_in log) (sym (log_there home at))
          (home_few (step_tokens start member there tx refl moment.cluster.nobody (old home) e
          (always_fits start member there tx refl moment.cluster.nobody (old home))))

    abbrev waits_in : Member → List HostStep → ℕ
    waits_in me log = waits_behind start tx now me log

    waits_elsewhere : (me : Member) → e.host ≢ ldm_of start me
        → waiting_at start new tx now me ≡ waiting_at start old tx now me
    waits_elsewhere me off = ap (waits_in me) (other_log start all e es moment (ldm_of start me) off)

    waits_same : ((me : Member) → IsIn me (made start) → e.host ≢ ldm_of start me)
        → all_waiting start new tx now ≡ all_waiting start old tx now
    waits_same apart =
        total_of_same (made start) (waiting_at start new tx now) (waiting_at start old tx now)
        (λ me there. waits_elsewhere me (apart me there))

    -- the host of rows
    module _ (me : Member) (there : IsIn me (made start)) (at : e.host ≡ ldm_of start me) where
      rows_few : s + waiting_at start new tx now me ≤ waiting_at start old tx now me + t
      rows_few =
          subst (λ log. s + waits_in me log ≤ waits_in me (old (ldm_of start me)) + t)
          (sym (log_there (ldm_of start me) at))
          (subst
          (λ k. s
          + (if (view_after start k (e ∷ old k)).number == now then count_waiting tx (rows_after start me (e ∷ old k))
          else 0)
          ≤ (if (view_after start k (old k)).number == now then count_waiting tx (rows_after start me (old k)) else 0)
          + t)
          at (ldm_keeps start all e es moment tx me there at))

      all_rows : all_waiting start new tx now + waiting_at start old tx now me
          ≡ all_waiting start old tx now + waiting_at start new tx now me
      all_rows =
          subst
          (λ one. all_waiting start new tx now + waiting_at start old tx now one
          ≡ all_waiting start old tx now + waiting_at start new tx now one)
          (first_again start moment.cluster.nobody me there)
          (total_of_made start moment.cluster.nobody (waiting_at start old tx now) (waiting_at start new tx now) me.node
          (node_some start moment.cluster.nobody me there) (node_low start moment.cluster.nobody me there)
          (λ k some low off.
          waits_elsewhere (node_of k)
          (λ same.
          off (ap (λ (m : Member). m.node)
          (ldm_same start moment.cluster.nobody (node_of k) me
          (begins_made start _ (first_in start.shape.nodes k some low)) there
          (sym same ∙ at))))))

    -- whichever host it is
    module _ (there : IsIn member (made start)) where
      abbrev Kept : Type 0
      Kept =
          s + all_waiting start new tx now + budget start old tx now
          ≤ all_waiting start old tx now + t + budget start new tx now

      no_rows : (me : Member) → IsIn me (made start) → e.host ≡ tc_of start me → (one : Member)
          → IsIn one (made start) → e.host ≢ ldm_of start one
      no_rows me there at one among same = ldm_no_tc start moment.cluster.nobody one me among there (sym same ∙ at)

      beside_rows : IsBeside (started start e.host).parts → (one : Member) → IsIn one (made start)
          → e.host ≢ ldm_of start one
      beside_rows beside one among same =
          subst (λ (host : node.HostBody). IsBeside host.parts) (ldm_started start moment.cluster.nobody one among)
          (subst (λ h. IsBeside (started start h).parts) same beside)

      -- where it sends none of them
      calm : e.host ≢ home → ((one : Member) → IsIn one (made start) → e.host ≢ ldm_of start one) → s ≡ 0 → Kept
      calm off apart none = omega (arith, none, waits_same apart, may_elsewhere off)

      kept : Kept
      kept = by (cases_eq e.host home)
        where
          of_host : e.host ≢ home → PartHost start e.host → Kept
          of_host off (coordinates me among at) =
              calm off (no_rows me among at)
              (let none =
              foreign_none start me among tx (λ is. off (at ∙ ap (tc_of start) (sym is))) moment.cluster.nobody
              (old (tc_of start me)) e in
              let under = few (tc_of start me) at in omega (arith, none, under))
          of_host off (keeps_rows me among at) =
              omega (arith, rows_few me among at, all_rows me among at, may_elsewhere off)
          of_host off (is_beside beside) =
              calm off (beside_rows beside)
              (let sends = (step_after start e.host (old e.host) e).effects.sends in
              let none =
              none_counted (is_token tx) sends
              (aside_none tx sends (beside_sends start e.host beside (old e.host) e)) in
              let under = few e.host refl in omega (arith, none, under))

          by : (e.host ≡ home) ⊎ (e.host ≢ home) → Kept
          by (inl at) =
              let same = waits_same (no_rows member there at) in
              let more = tc_keeps there at in
              omega (arith, same, more)
          by (inr off) = of_host off (part_host start moment.cluster.nobody e.host (host_low start all e es moment))

      -- the logs before the event, in the view that is current behind it
      abbrev pub Before : ℕ → Type 0
      Before number =
          all_sent start (is_token_in tx number) old + all_waiting start old tx number
          ≤ all_taken start (is_token_in tx number) old + budget start old tx number

      none_waits : current_number start old < now → (me : Member) → IsIn me (made start)
          → waiting_at start old tx now me ≡ 0
      none_waits above me among = by (number == now) refl
        where
          number : ℕ
          number = (view_after start (ldm_of start me) (old (ldm_of start me))).number

          by : (b : Bool) → (number == now) ≡ b
              → (if b then count_waiting tx (rows_after start me (old (ldm_of start me))) else 0) ≡ 0
          by false is = refl
          by true is =
              let under = current_above start old moment.cluster.nobody (ldm_of start me)
              (ldm_low start moment.cluster.nobody me among) in
              absurd (omega (arith, under, above, eqb-true number now is))

      pub before_now : Before (number_now start old) → Before now
      before_now known = by (turn start all e es moment)
        where
          by : Turn start all e es moment → Before now
          by (keeps same stands) = subst Before (sym (ap (λ (v : View). v.number) same)) known
          by (raises above stands) =
              let sent = all_sent_none start moment.cluster.nobody (is_token tx) now old above in
              let waits = total_of_zero (made start) (waiting_at start old tx now) (none_waits above) in
              omega (arith, sent, waits)

      pub behind_now : Before (number_now start old)
          → all_sent start q new + all_waiting start new tx now ≤ all_taken start q new + budget start new tx now
      behind_now known =
          omega (
            arith,
            before_now known,
            kept,
            all_sent_more start all e es moment q,
            all_taken_more start all e es moment q,
          )

-- as a life begins nothing is under way
module _ (start : Start) (nobody : NobodyStarts start) (tx : TxId) (number : ℕ) where
  abbrev none : ℕ → List HostStep
  none = logs_of start []

  first_waits : (me : Member) → IsIn me (made start) → waiting_at start none tx number me ≡ 0
  first_waits me there = by ((view_after start (ldm_of start me) []).number == number)
    where
      rows : count_waiting tx (rows_after start me []) ≡ 0
      rows =
          ap (λ (host : node.HostBody). count_waiting tx (rows_in (no_replica start me) host.parts))
          (ldm_started start nobody me there)

      by : (b : Bool) → (if b then count_waiting tx (rows_after start me []) else 0) ≡ 0
      by true = rows
      by false = refl

  first_now : all_sent start (is_token_in tx number) none + all_waiting start none tx number
      ≤ all_taken start (is_token_in tx number) none + budget start none tx number
  first_now =
      let sent : all_sent start (is_token_in tx number) none ≡ 0 =
      total_zero (hosts start) (λ h. 0) (λ h. refl) in
      let waits = total_of_zero (made start) (waiting_at start none tx number) first_waits in
      omega (arith, sent, waits)

pub have_one : OneAtATime
have_one start all [] moment tx there = first_now start moment.cluster.nobody tx (number_now start (logs_of start []))
have_one start all (e ∷ es) moment tx there =
    behind_now start all e es moment tx there (have_one start all es (moment_less start all e es moment) tx there)
