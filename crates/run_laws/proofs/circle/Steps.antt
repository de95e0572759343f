-- Each step keeps what is true of a transaction that is neither given up nor carried out, of one key.
use Rattle.std.proofs.Common.{◌≡◌, ◌⊎◌, ◌≢◌, ◌≤◌, ℕ, Bool, true, false, cond, filter, List, [], ◌∷◌, refl, sym, ap, ◌∙◌}
use Rattle.std.proofs.Common.{subst, inl, inr, arith}
use Rattle.std.proofs.lemmas.Bool.{cases_eq}
use Rattle.std.specs.Prelude.{Option, None, Some}
use Rattle.run_theory.specs.Lists.{Each}
use Rattle.sig_core.specs.declared.member.TxId.{TxId}
use Rattle.sig_core.specs.declared.outs.Outgoing.{Outgoing}
use Rattle.sig_core.specs.declared.signal.Body.{Body}
use Rattle.sig_core.specs.declared.signal.Body.TheVariants.{Chain}
use Rattle.sig_core.specs.declared.signal.chain.ChainSignal.TheVariants.{LqhKeyReq, Abort}
use Rattle.sig_core.specs.declared.signal.Signal.{Signal}
use Rattle.sig_core.specs.Firsts.{first}
use Rattle.sig_core.specs.Part.{part_of}
use Rattle.sig_core.specs.Place.{coordinator, coordinator_of, rows_of}
use Rattle.sig_core.specs.Same.{same_tx}
use Rattle.sig_core.specs.Step.{Effects, Step, nothing, stay}
use Rattle.sig_core.proofs.Keys.{same_tx-self}
use Rattle.sig_core.proofs.TxLemmas.{same_tx-is}
use Rattle.row_records.proofs.KeyLemmas as index
use Rattle.lqh_block.specs.declared.request.Request.{Request}
use Rattle.lqh_block.specs.State.{LqhState, storage_of}
use Rattle.sig_core.specs.Work.{work_key}
use Rattle.node_core.proofs.HostCases.{BlockCase, IsRowsStep, IsTcStep, api_takes, block_case, dih_takes, none_takes}
use Rattle.node_core.proofs.HostCases.{rows_take, runs, tc_takes}
use Rattle.node_core.specs.declared.host.Host.{Host}
use Rattle.node_core.specs.Blocks.{api_of, dih_of, lqh_of, tc_of}
use Rattle.node_core.specs.Requests.{is_request}
use Rattle.node_core.specs.Row.{row}
use Rattle.tc_block.specs.declared.transaction.Transaction.{Transaction}
use Rattle.tc_block.specs.Operate.{fresh}
use Rattle.tc_block.specs.State.{TcState}
use Rattle.tc_block.specs.Tc.{tc_row}
use Rattle.world_core.specs.Hosts.{first_membership, home, tc_host}
use Rattle.world_core.specs.Machine.{after, sent_count, signals_of, step_after}
use Rattle.world_core.specs.Start.{Start}
use Rattle.world_core.specs.Steps.{Addressed, HostStep}
use Rattle.key_laws.specs.Replica.{Event, Replica, ages, asks_for, event_at, expires, is_by, is_let_in, is_refused}
use Rattle.key_laws.specs.Replica.{rests}
use Rattle.key_laws.proofs.Waiting.{each-first_item}
use Rattle.host_laws.proofs.hosts.BlocksAlong.{IsAtNode, at_own_node}
use Rattle.host_laws.proofs.rows.Operations.{is_lqh}
use Rattle.host_laws.proofs.api.Wishes as wishes
use Rattle.run_laws.specs.GivenUp.{is_carried_out, is_given_up}
use Rattle.host_laws.specs.Live.{of_live}
use Rattle.run_laws.specs.Live.{live_at, of_host}
use Rattle.run_laws.specs.Routes.{IsRequestRouted, IsRouted}
use Rattle.run_laws.specs.Tokens.{is_token}
use Rattle.run_laws.specs.Transit.{AreInTransit, Comes, Takes, host_after, joined, logs_of}
use Rattle.run_laws.proofs.routes.Addressed.{comes_addressed, comes_below, for_tc, rows_addressed, tc_addressed}
use Rattle.run_laws.proofs.tokens.Bystanders.{IsBystander, IsForHome, IsRequest, bystander, token_other, token_place}
use Rattle.run_laws.proofs.circle.Kept.{IsGoing, rests_going}
use Rattle.run_laws.proofs.circle.Circle.{IsCircling, IsPristine, pristine_as}
use Rattle.run_laws.proofs.circle.View.{View}
use Rattle.run_laws.proofs.ways.GivenUp.{aborts_are_of_given_up, commits_are_of_carried_out}
use Rattle.run_laws.proofs.ways.GivenUp.{completions_are_of_carried_out}
use Rattle.run_laws.proofs.hosts.HomeSteps.{IsHome, IsUnborn, all_home, away, away_absent, here_now, here_was}
use Rattle.run_laws.proofs.hosts.HomeSteps.{unborn_absent, live_leaves, unborn_leaves}
use Rattle.run_laws.proofs.hosts.TxSteps.{none_of, number_rises, runs_rows}
use Rattle.run_laws.proofs.circle.KeyMoves.{IsLike, before_here, event_here, expired_as, host_of, others_like}
use Rattle.run_laws.proofs.circle.KeyMoves.{view_before, view_now}
use Rattle.run_laws.proofs.circle.KeySends.{is_abort, lqh_tokens}
use Rattle.run_laws.proofs.circle.KeySteps.{asked_going, each-first_by, expired_going, off_going, served_going}
use Rattle.run_laws.proofs.tokens.Signals.{Token, event_tokens, is_rows, is_tc, performs, token_of, tokens_of}
use Rattle.run_laws.proofs.circle.RowCases.{LqhCase, aborted, asked, committed, completed, expired_here, lqh_case, off}
use Rattle.run_laws.proofs.circle.RowCases.{served}
use Rattle.run_laws.proofs.tokens.OnlyToken.{NoneAtAll, none_live}
use Rattle.run_laws.proofs.circle.OthersStay.{event_of, is_of}
use Rattle.run_laws.proofs.routes.Events.{coming_are_routed, placed, placed_runs}
use Rattle.run_laws.proofs.routes.Routes.{signals_are_routed}
use Rattle.run_laws.proofs.circle.RowsEvents.{event_missed, event_off, event_rows}
use Rattle.run_laws.proofs.hosts.RowsNodes.{rows_node}
use Rattle.run_laws.proofs.circle.Turns.{Going, is_early, turn_going}
use Rattle.run_laws.proofs.circle.Going.{begin_goes, rest_goes, row_goes}
use Rattle.run_laws.proofs.tokens.Still.{AreStill, api_still, beside_still, dih_still, others_still}
use Rattle.run_laws.proofs.hosts.TxTurns.{TcTurn, is_for, tc_turn}
use Rattle.run_laws.proofs.hosts.TxTurns as turn
use Rattle.run_laws.proofs.transit.Lists.{counts, none_out, token_for}
use Rattle.run_laws.proofs.transit.Weighing.{each_taken}

each_filter : {A : Type 0} (P : A → Type 0) (p : A → Bool) (xs : List A) → Each P xs → Each P (filter p xs)
each_filter P p [] all = tt
each_filter {A} P p (x ∷ xs) all = by (p x) (each_filter P p xs all.1)
  where
    by : (b : Bool) → Each P (filter p xs) → Each P (cond b (x ∷ filter p xs) (filter p xs))
    by true more = (all.0, more)
    by false more = more

each_passes : {A : Type 0} (p : A → Bool) (xs : List A) → Each (λ x. p x ≡ true) (filter p xs)
each_passes p [] = tt
each_passes {A} p (x ∷ xs) = by (p x) refl (each_passes p xs)
  where
    by : (b : Bool) → p x ≡ b → Each (λ x. p x ≡ true) (filter p xs)
        → Each (λ x. p x ≡ true) (cond b (x ∷ filter p xs) (filter p xs))
    by true e more = (e, more)
    by false e more = more

-- what aborts a transaction's row
record IsAbortOf (tx : TxId) (body : Body) : Type 0 where
  id : TxId
  own : List ℕ
  one : id ≡ tx
  is : body ≡ Chain (Abort id own)

true_false : true ≡ false → ⊥
true_false is = cc

abort_of : (tx : TxId) (body : Body) → is_abort tx body ≡ true → IsAbortOf tx body
abort_of tx (Chain (Abort v own)) is = record { id = v; own = own; one = same_tx-is v tx is; is = refl }
abort_of tx _ is = absurd cc

module _ (start : Start) (es : List HostStep) (e : HostStep) (tx : TxId) (key : List ℕ) (come : Comes start es e)
    (before between : List Addressed) (transit : AreInTransit start es before) (takes : Takes e before between)
    (kept : is_given_up start (logs_of start es) tx ≡ false)
    (undone : is_carried_out start (logs_of start es) tx ≡ false) (circling : IsCircling start tx key es before) where
  abbrev n : ℕ
  n = host_of start es e tx key

  abbrev own_home : ℕ
  own_home = home start tx

  abbrev r : Replica
  r = before_here start es e tx key

  abbrev event : Event
  event = event_here start es e tx key

  abbrev sends : List Outgoing
  sends = (step_after start n (logs_of start es n) e).effects.sends

  abbrev sent : List Addressed
  sent = signals_of start n (logs_of start es n) e

  abbrev v : View
  v = view_before start es e tx key

  abbrev w : View
  w = view_now start es e tx key

  abbrev here : Host
  here = after start n (logs_of start es n)

  abbrev x : Signal
  x = e.step.taken

  abbrev Now : Type 0
  Now = IsCircling start tx key (e ∷ es) (joined sent between)

  -- the transaction at its coordinator
  live_same : of_host tx (row here x).state ≡ of_host tx here
      → live_at start (logs_of start (e ∷ es)) tx ≡ live_at start (logs_of start es) tx
  live_same = live_leaves start es e come tx

  unborn_same : (IsUnborn tx (row here x).state → IsUnborn tx here) → IsUnborn tx (host_after start (e ∷ es) own_home)
      → IsUnborn tx (host_after start es own_home)
  unborn_same = unborn_leaves start es e come tx

  quiet : event ≡ rests → IsLike v w
  quiet is = others_like start es e tx key (ap (λ event. is_of tx (event_of event r)) is)

  going_now : (t : Transaction) → live_at start (logs_of start (e ∷ es)) tx ≡ live_at start (logs_of start es) tx
      → live_at start (logs_of start (e ∷ es)) tx ≡ Some t → is_early t.phase ≡ true
      → IsGoing start tx key v t before
  going_now t is live early = circling.going t (sym is ∙ live) early

  -- what leaves it alone, and sends and takes no part of its operation
  rests_now : (t : Transaction) → IsGoing start tx key v t before → IsLike v w → token_of tx key x.to x.body ≡ None
      → tokens_of tx key sends ≡ []
      → IsGoing start tx key w t (joined sent between)
  rests_now t going like taken none =
      rests_going start tx key v w t e before between takes (first_membership start) n e.step.stamp
      (sent_count start n (logs_of start es n)) sends going like (inl taken) none

  -- a block that has nothing to do with it
  bystander_circles : IsBystander tx here (row here x) → event ≡ rests
      → ((t : Transaction) → live_at start (logs_of start es) tx ≡ Some t → token_of tx key x.to x.body ≡ None) → Now
  bystander_circles by event_is deaf = record {
    pristine = λ unborn. pristine_as v w (quiet event_is).likewise (circling.pristine (unborn_same by.unborn unborn));
    going = λ t live early. rests_now t (going_now t (live_same by.live) live early) (quiet event_is)
        (deaf t (sym (live_same by.live) ∙ live)) (none_out tx key sends by.sends);
  }

  -- the request that is taken is routed
  routed_request : (q : Request) → x.body ≡ Chain (LqhKeyReq q.tx q.work q.chain q.at)
      → IsRequestRouted start x.to.node q
  routed_request q is = subst (IsRouted start x.to.node) is (coming_are_routed start es e come).routed

  -- another block
  other_circles : (f : Effects) → tc_of (row here x).state ≡ tc_of here → (row here x).effects ≡ f → AreStill tx f.sends
      → is_rows x.to.block ≡ false → is_tc x.to.block ≡ false → Now
  other_circles f same is still apart away =
      bystander_circles (bystander tx here (row here x) f same is still) (event_off key here x apart)
      (λ t live. token_other tx key x.to x.body apart away)

  -- A block that the host doesn't run. No part of an operation is for it: a request comes to rows, and an answer to the
  -- coordinator.
  missed_circles : runs here x.to.block ≡ false → row here x ≡ stay here → Now
  missed_circles idle is =
      bystander_circles
      (bystander tx here (row here x) nothing (ap (λ (u : Step Host). tc_of u.state) is)
      (ap (λ (u : Step Host). u.effects) is) tt) (event_missed key here x idle)
      (λ t live. deaf t live (token_of tx key x.to x.body) refl)
    where
      far : IsRequest x.to x.body → ⊥
      far asks =
          let routed = routed_request asks.request asks.is in
          let place =
          placed start n x.to.node (work_key asks.request.work) asks.request.chain asks.request.at
          (rows_addressed start es e come asks.rows) routed.chain routed.sent in
          let running =
          placed_runs start n (work_key asks.request.work) asks.request.at
          (logs_of start es n) come.before.shape place in
          true_false (sym running ∙ sym (runs_rows here x.to.block (ap is_lqh asks.rows)) ∙ idle)

      gone : (t : Transaction) → live_at start (logs_of start es) tx ≡ Some t → IsForHome tx x.to → ⊥
      gone t live home_is =
          let at : n ≡ own_home = tc_addressed start es e come home_is.block ∙ ap (tc_host start) home_is.node in
          let none : None ≡ Some t =
          sym (ap (of_host tx) (here_was start es e come tx at)
          ∙ none_of tx here x.to.block (ap wishes.is_tc home_is.block) idle) ∙ live in cc

      deaf : (t : Transaction) → live_at start (logs_of start es) tx ≡ Some t → (o : Option Token)
          → token_of tx key x.to x.body ≡ o → o ≡ None
      deaf t live None token_is = refl
      deaf t live (Some token) token_is = absurd (by (token_place tx key x.to x.body token token_is))
        where
          by : IsRequest x.to x.body ⊎ IsForHome tx x.to → ⊥
          by (inl asks) = far asks
          by (inr at) = gone t live at

  -- a coordinator
  module _ (step : IsTcStep here x (row here x)) where
    abbrev s : TcState
    s = tc_of here

    abbrev then : Step TcState
    then = tc_row s x

    at_node : IsAtNode start n s
    at_node = at_own_node start n (logs_of start es n) (comes_below start es e come) step.runs

    known : IsHome tx s
    known = all_home start tx n (logs_of start es n)

    seen : TcTurn (λ (o : Outgoing). is_token tx o.body ≡ false) tx s x.body then
    seen =
        tc_turn (λ (o : Outgoing). is_token tx o.body ≡ false) tx s (beside_still tx s) known.own known.once x.body
        (others_still tx s x.body)

    sends_are : sends ≡ then.effects.sends
    sends_are = ap (λ (f : Effects). f.sends) step.effects

    like : IsLike v w
    like = quiet (event_off key here x (ap is_rows step.at))

    node_is : x.to.node ≡ s.node
    node_is =
        for_tc start s.node x.to at_node.some at_node.low (ap part_of step.at)
        (sym (comes_addressed start es e come) ∙ at_node.is)

    to_is : x.to ≡ coordinator s.node
    to_is = λ i. record { node = node_is i; block = step.at i }

    unborn_before : IsUnborn tx (host_after start (e ∷ es) own_home) → IsUnborn tx (host_after start es own_home)
    unborn_before =
        unborn_same (λ unborn. omega (arith, unborn, number_rises here x))

    -- of another node
    away_circles : n ≢ own_home → Now
    away_circles apart = record {
      pristine = λ unborn. pristine_as v w like.likewise (circling.pristine (unborn_before unborn));
      going = λ t live early.
          rests_now t (going_now t (ap (of_host tx) (away start es e come tx apart)) live early) like
          (deaf (token_of tx key x.to x.body) refl)
          (ap (tokens_of tx key) sends_are ∙ none seen);
    }
      where
        absent : of_live tx s.live ≡ None
        absent = away_absent start tx n (logs_of start es n) (comes_below start es e come) apart

        none : TcTurn (λ (o : Outgoing). is_token tx o.body ≡ false) tx s x.body then
            → tokens_of tx key then.effects.sends ≡ []
        none (turn.idle live_is still deaf) = none_out tx key then.effects.sends still
        none (turn.turns t was its sends_is later) = absurd (let both : None ≡ Some t = sym absent ∙ was in cc)
        none (turn.begins next_is later still _) = none_out tx key then.effects.sends still

        deaf : (o : Option Token) → token_of tx key x.to x.body ≡ o → o ≡ None
        deaf None token_is = refl
        deaf (Some token) token_is = absurd (by (token_place tx key x.to x.body token token_is))
          where
            by : IsRequest x.to x.body ⊎ IsForHome tx x.to → ⊥
            by (inl asks) = true_false (sym (ap is_rows asks.rows) ∙ ap is_rows step.at)
            by (inr at) = apart (tc_addressed start es e come at.block ∙ ap (tc_host start) at.node)

    -- its own
    home_circles : n ≡ own_home → Now
    home_circles at = record {
      pristine = λ unborn. pristine_as v w like.likewise (circling.pristine (unborn_before unborn));
      going = λ t live early. by t live early seen;
    }
      where
        own_node : tx.tc ≡ s.node
        own_node = for_tc start s.node (coordinator_of tx) at_node.some at_node.low refl (sym at ∙ at_node.is)

        to_home : x.to ≡ coordinator tx.tc
        to_home = to_is ∙ ap coordinator (sym own_node)

        live_was : live_at start (logs_of start es) tx ≡ of_live tx s.live
        live_was = ap (of_host tx) (here_was start es e come tx at)

        live_now : live_at start (logs_of start (e ∷ es)) tx ≡ of_live tx then.state.live
        live_now = ap (of_host tx) (here_now start es e come tx at) ∙ ap (λ (c : TcState). of_live tx c.live) step.state

        by : (u : Transaction) → live_at start (logs_of start (e ∷ es)) tx ≡ Some u → is_early u.phase ≡ true
            → TcTurn (λ (o : Outgoing). is_token tx o.body ≡ false) tx s x.body then
            → IsGoing start tx key w u (joined sent between)
        by u live early (turn.idle live_is still deaf) =
            let was : of_live tx s.live ≡ Some u = sym live_is ∙ (sym live_now ∙ live) in
            rest_goes start es e tx key come before between transit takes to_home like u
            (circling.going u (live_was ∙ was) early) (ap (tokens_of tx key) sends_are
            ∙ none_out tx key then.effects.sends still)
            (inl (ap (λ to. token_of tx key to x.body) to_is ∙ token_for tx key s.node x.body
            (others (is_for tx x.body) refl was)))
          where
            others : (b : Bool) → is_for tx x.body ≡ b → of_live tx s.live ≡ Some u → is_for tx x.body ≡ false
            others true its was = absurd (let both : None ≡ Some u = sym (deaf its) ∙ was in cc)
            others false its was = its
        by u live early (turn.turns t was its sends_is later) =
            row_goes start es e tx key come before between transit takes to_home like t u (live_was ∙ was) live early
            (λ still. circling.going t (live_was ∙ was) still)
            (subst (Going tx x.body t u) (sym (sends_are ∙ sends_is))
            ((turn_going tx t s.node s.layout x.body its).goes u (sym later ∙ (sym live_now ∙ live)) early))
        by u live early (turn.begins next_is later still _) =
            begin_goes start es e tx key come before between transit takes to_home like u live early
            (some fresh u (sym later ∙ (sym live_now ∙ live)))
            (circling.pristine (subst (IsUnborn tx) (sym (here_was start es e come tx at)) first_number))
          where
            first_number : s.next_seq ≤ tx.seq
            first_number = omega (arith, ap (λ (t : TxId). t.seq) next_is)

            some : (a b : Transaction) → Some a ≡ Some b → a ≡ b
            some a b same_is = cc

    tc_circles : Now
    tc_circles = by (cases_eq n own_home)
      where
        by : (n ≡ own_home) ⊎ (n ≢ own_home) → Now
        by (inl at) = home_circles at
        by (inr apart) = away_circles apart

  -- the rows of a node
  module _ (step : IsRowsStep here x (row here x)) where
    abbrev l : LqhState
    l = lqh_of here

    still_live : live_at start (logs_of start (e ∷ es)) tx ≡ live_at start (logs_of start es) tx
    still_live = live_same (ap (λ (c : TcState). of_live tx c.live) step.tc)

    still_unborn : IsUnborn tx (host_after start (e ∷ es) own_home) → IsUnborn tx (host_after start es own_home)
    still_unborn = unborn_same (λ unborn. subst (λ (c : TcState). c.next_seq ≤ tx.seq) step.tc unborn)

    event_is : event ≡ event_at key l x.body
    event_is = event_rows key here x step.runs step.at

    taken_is : (o : Option Token) → token_of tx key (rows_of x.to.node) x.body ≡ o → token_of tx key x.to x.body ≡ o
    taken_is o token_is =
        ap (λ block. token_of tx key (record { node = x.to.node; block = block }) x.body) step.at ∙ token_is

    given_up_not : (id : TxId) (own : List ℕ) → id ≡ tx → x.body ≡ Chain (Abort id own) → ⊥
    given_up_not id own one body_is =
        true_false (sym (aborts_are_of_given_up start es e id own come body_is)
        ∙ (ap (is_given_up start (logs_of start es)) one ∙ kept))

    no_abort : is_abort tx x.body ≡ false
    no_abort = by (is_abort tx x.body) refl
      where
        by : (b : Bool) → is_abort tx x.body ≡ b → b ≡ false
        by true abort = let a = abort_of tx x.body abort in absurd (given_up_not a.id a.own a.one a.is)
        by false abort = refl

    tokens_are : tokens_of tx key sends ≡ event_tokens tx event r
    tokens_are =
        ap (λ (f : Effects). tokens_of tx key f.sends) step.effects ∙ lqh_tokens tx key l x.body no_abort
        ∙ ap (λ event. event_tokens tx event r) (sym event_is)

    abbrev Case : Type 0
    Case = LqhCase tx key x.to.node l x.body (event_at key l x.body)

    off_here : is_of tx (event_of (event_at key l x.body) r) ≡ false → is_of tx (event_of event r) ≡ false
    off_here apart = ap (λ event. is_of tx (event_of event r)) event_is ∙ apart

    ends_here : (event_at key l x.body ≡ expires tx) ⊎ (event_at key l x.body ≡ ages (Some tx))
        → (event ≡ expires tx) ⊎ (event ≡ ages (Some tx))
    ends_here (inl e_is) = inl (event_is ∙ e_is)
    ends_here (inr e_is) = inr (event_is ∙ e_is)

    -- the request that is served is one for the key, and routed
    served_on : (q : Request) → first (is_let_in r.lock) r.waiting ≡ Some q → work_key q.work ≡ key
    served_on q first_is =
        index.same (work_key q.work) key
        (each-first_item (λ (q : Request). asks_for key q ≡ true) (is_let_in r.lock) r.waiting q
        (each_passes (asks_for key) l.waiting) first_is)

    served_routed : (q : Request) → first (is_let_in r.lock) r.waiting ≡ Some q → IsRequestRouted start l.node q
    served_routed q first_is =
        each-first_item (λ (q : Request). IsRequestRouted start l.node q) (is_let_in r.lock) r.waiting q
        (each_filter (λ (q : Request). IsRequestRouted start l.node q) (asks_for key) l.waiting
        ((signals_are_routed start es before come.before transit).hosts n).waiting) first_is

    rows_going : (t : Transaction) → live_at start (logs_of start (e ∷ es)) tx ≡ Some t → is_early t.phase ≡ true
        → IsGoing start tx key v t before → Case → IsGoing start tx key w t (joined sent between)
    rows_going t live early going (off apart taken) =
        off_going start es e tx key come before between transit takes t live early (off_here apart)
        (taken_is None taken) tokens_are going
    rows_going t live early going (asked q body_is q_is own at taken) =
        asked_going start es e tx key come before between transit takes t live early q
        (is_refused (storage_of l) q) x.to.node (event_is ∙ at) q_is own
        (rows_addressed start es e come step.at) (routed_request q body_is) (ap is_request body_is)
        (taken_is (Some (performs q.work q.at)) taken) tokens_are going
    rows_going t live early going (served q refused at first_is q_is taken) =
        served_going start es e tx key come before between transit takes t live early q refused l.node
        (event_is ∙ at) first_is q_is (served_on q first_is)
        (rows_node start n (logs_of start es n) (comes_below start es e come) step.runs).is
        (served_routed q first_is) tokens_are going
    rows_going t live early going (expired_here at taken) =
        expired_going start es e tx key come before between transit takes t live early (ends_here at)
        (taken_is None taken) tokens_are going
    rows_going t live early going (aborted id own one body_is) = absurd (given_up_not id own one body_is)
    rows_going t live early going (committed id own epoch chain at one body_is) =
        absurd (true_false (sym (commits_are_of_carried_out start es e id own epoch chain at come body_is)
        ∙ (ap (is_carried_out start (logs_of start es)) one ∙ undone)))
    rows_going t live early going (completed id own chain at one body_is) =
        absurd (true_false (sym (completions_are_of_carried_out start es e id own chain at come body_is)
        ∙ (ap (is_carried_out start (logs_of start es)) one ∙ undone)))

    -- before it begins no part of an operation is about
    zero : IsUnborn tx (host_after start es own_home) → NoneAtAll tx key start es come.before before
    zero unborn =
        none_live tx key start es come.before before transit
        (unborn_absent start tx own_home (logs_of start es own_home) unborn) kept

    rows_pristine : IsUnborn tx (host_after start es own_home) → Case → IsPristine w
    rows_pristine unborn (off apart taken) = pristine_as v w (others_like start es e tx key (off_here apart)).likewise
        (circling.pristine unborn)
    rows_pristine unborn (asked q body_is q_is own at taken) =
        absurd (true_false (sym (counts tx key (rows_of x.to.node) x.body (performs q.work q.at) taken)
        ∙ each_taken (λ (y : Addressed). is_token tx y.signal.body ≡ false) e before between
        (ap is_request body_is) takes (zero unborn).signals))
    rows_pristine unborn (served q refused at first_is q_is taken) =
        absurd (each-first_by (λ (q : Request). ⊥) (is_by tx) (is_let_in r.lock) r.waiting q
        (subst (Each (λ (q : Request). ⊥)) (sym ((zero unborn).waits n)) tt) first_is
        (ap (λ t. same_tx t tx) q_is ∙ same_tx-self tx))
    rows_pristine unborn (expired_here at taken) = pristine_as v w (expired_as start es e tx key (ends_here at))
        (circling.pristine unborn)
    rows_pristine unborn (aborted id own one body_is) = absurd (given_up_not id own one body_is)
    rows_pristine unborn (committed id own epoch chain at one body_is) =
        absurd (true_false (sym (commits_are_of_carried_out start es e id own epoch chain at come body_is)
        ∙ (ap (is_carried_out start (logs_of start es)) one ∙ undone)))
    rows_pristine unborn (completed id own chain at one body_is) =
        absurd (true_false (sym (completions_are_of_carried_out start es e id own chain at come body_is)
        ∙ (ap (is_carried_out start (logs_of start es)) one ∙ undone)))

    rows_circles : Now
    rows_circles = record {
      pristine = λ unborn. rows_pristine (still_unborn unborn) (lqh_case tx key x.to.node l x.body);
      going = λ t live early. rows_going t live early (going_now t still_live live early)
          (lqh_case tx key x.to.node l x.body);
    }

  pub step_circles : Now
  step_circles = by (block_case here x)
    where
      by : BlockCase here x (row here x) → Now
      by (api_takes step) =
          other_circles _ step.tc step.effects (api_still tx (api_of here) x.body) (ap is_rows step.at)
          (ap is_tc step.at)
      by (tc_takes step) = tc_circles step
      by (dih_takes step) =
          other_circles _ step.tc step.effects (dih_still tx (dih_of here) x.body) (ap is_rows step.at)
          (ap is_tc step.at)
      by (rows_take step) = rows_circles step
      by (none_takes step) = missed_circles step.runs step.is
