-- Along every run: a completion of each key that a transaction which is carried out holds at a backup is on its way,
-- or the backup has let go, where its coordinator doesn't commit it any more.
use Rattle.std.proofs.Common.{◌≡◌, ◌≢◌, ◌⊎◌, ◌≤◌, ◌<◌, ◌+◌, ℕ, zero, suc, Bool, true, false, List, [], ◌∷◌, drop}
use Rattle.std.proofs.Common.{length, refl, sym, ap}
use Rattle.std.proofs.Common.{◌∙◌, subst, arith, inl, inr}
use Rattle.std.proofs.lemmas.Bool.{eqb-true, false≢true}
use Rattle.std.specs.List.{list_any}
use Rattle.std.specs.Prelude.{◌-◌, ◌==◌, ◌&&◌, ◌||◌, if◌then◌else◌, Option, None, Some}
use Rattle.run_theory.specs.Counts.{one_if}
use Rattle.run_theory.specs.Lists.{Each}
use Rattle.sig_core.proofs.TxLemmas.{same_tx-is}
use Rattle.sig_core.specs.declared.member.Member.{Member}
use Rattle.sig_core.specs.declared.member.TxId.{TxId}
use Rattle.sig_core.specs.declared.outs.Outgoing.{Outgoing}
use Rattle.sig_core.specs.declared.place.BlockId.TheVariants as block
use Rattle.sig_core.specs.declared.place.Place.{Place}
use Rattle.sig_core.specs.declared.signal.Body.{Body}
use Rattle.sig_core.specs.declared.signal.Body.TheVariants.{Chain, Host}
use Rattle.sig_core.specs.declared.signal.chain.ChainSignal.TheVariants.{Complete}
use Rattle.sig_core.specs.declared.signal.host.HostSignal.TheVariants.{Continue}
use Rattle.sig_core.specs.declared.signal.host.Work.TheVariants as work
use Rattle.sig_core.specs.Chain.{node_at}
use Rattle.sig_core.specs.Same.{same_key, same_tx}
use Rattle.sig_core.specs.Step.{Effects}
use Rattle.frag_map.specs.Layout.{Layout, first_layout}
use Rattle.row_records.proofs.KeyLemmas as keys
use Rattle.lqh_block.proofs.LqhForms.{complete_forms}
use Rattle.lqh_block.specs.Lqh.{lqh_table}
use Rattle.lqh_block.specs.State.{LqhState}
use Rattle.tc_block.proofs.TurnRows.{turn_for}
use Rattle.tc_block.specs.Abort.{is_verifying}
use Rattle.tc_block.specs.Complete.{written_count}
use Rattle.tc_block.specs.declared.phase.Phase.{Phase}
use Rattle.tc_block.specs.declared.phase.Phase.TheVariants.{Open, Verifying, Committing, Completing, Aborting}
use Rattle.tc_block.specs.declared.sends.TheConstants.{SENDS}
use Rattle.tc_block.specs.declared.transaction.Transaction.{Transaction}
use Rattle.tc_block.specs.Phases.{is_aborting, is_committing, is_completing, is_decided}
use Rattle.tc_block.specs.Sends.{phase_sends}
use Rattle.tc_block.specs.State.{TcState}
use Rattle.tc_block.specs.Turn.{Turn}
use Rattle.row_locks.specs.Holders.{holds}
use Rattle.node_core.proofs.HostCases.{IsRowsStep}
use Rattle.node_core.specs.Blocks.{has_lqh, lqh_of, tc_of}
use Rattle.node_core.specs.declared.host.Host as host
use Rattle.node_core.specs.Requests.{is_request}
use Rattle.node_core.specs.Row.{row}
use Rattle.world_core.specs.Hosts.{home, host_for, first_hosts, rows_host, tc_host}
use Rattle.world_core.specs.Machine.{after, signals_of, step_after}
use Rattle.world_core.specs.Start.{Start}
use Rattle.world_core.specs.Steps.{Addressed, HostStep}
use Rattle.host_laws.proofs.hosts.BlocksAlong.{tc_layout}
use Rattle.host_laws.proofs.hosts.Sums.{one_most}
use Rattle.host_laws.proofs.rows.Operations.{is_lqh}
use Rattle.host_laws.proofs.coordinator.OfLive.{each_found}
use Rattle.host_laws.proofs.coordinator.OneWay.{back_aborting, forth_decided}
use Rattle.host_laws.proofs.coordinator.Lives.{IsOwn}
use Rattle.host_laws.proofs.coordinator.Steps.{left_of_turn}
use Rattle.host_laws.proofs.api.Wishes.{is_tc}
use Rattle.host_laws.specs.Live.{of_live}
use Rattle.host_laws.specs.Ways.{back_by, forth_by, sent_ways}
use Rattle.run_laws.specs.GivenUp.{is_carried_out, is_given_up}
use Rattle.run_laws.specs.Live.{live_at, of_host}
use Rattle.run_laws.specs.Routes.{IsCompletionRouted, IsForBlock, IsRouted, replica_host, replicas}
use Rattle.run_laws.specs.Tokens.{is_token}
use Rattle.run_laws.specs.Transit.{AreInTransit, Comes, IsRun, Takes, joined, logs_of}
use Rattle.run_laws.proofs.routes.Addressed.{rows_addressed, tc_addressed}
use Rattle.run_laws.proofs.hosts.Always.{few_touched}
use Rattle.run_laws.proofs.carried.Begins.{carried_silent, said_silent}
use Rattle.run_laws.proofs.hosts.HomeSteps.{IsHome, all_home, here_now, here_was, own_home, unborn_absent, live_leaves}
use Rattle.run_laws.proofs.hosts.LiveOf.{of_each}
use Rattle.run_laws.proofs.routes.Events.{coming_are_routed, placed, placed_runs}
use Rattle.run_laws.proofs.hosts.TcOwn.{AreSilent}
use Rattle.run_laws.proofs.hosts.TcSaid.{tc_silent}
use Rattle.run_laws.proofs.transit.Transit.{along_transit}
use Rattle.run_laws.proofs.fades.Signals.{is_next}
use Rattle.run_laws.proofs.hosts.TxSteps as step
use Rattle.run_laws.proofs.hosts.TxSteps.{IsMissed, TxStep, aside, rows, turns, tx_step}
use Rattle.run_laws.proofs.hosts.TxTurns.{is_for}
use Rattle.run_laws.proofs.causes.Undecided.{carried_out_have_none}
use Rattle.run_laws.proofs.transit.Weighing.{each_taken, in_sends, in_transit, joins_weigh, takes_weigh}
use Rattle.order_laws.specs.Awaited.{IsAwaited, awaited_in, due, due_in, list_length}
use Rattle.order_laws.specs.Completing.{CompletedLetGo}
use Rattle.order_laws.specs.LetGo.{has_let_go, lock_at_place}
use Rattle.order_laws.proofs.Awaited as awaited
use Rattle.order_laws.proofs.Awaited.{Fares, all_is_awaited, fares}
use Rattle.order_laws.proofs.AwaitedSends.{phase_long}
use Rattle.order_laws.proofs.Behind.{is_among}
use Rattle.order_laws.proofs.Carried.{carried_out_stay_out}
use Rattle.order_laws.proofs.Completed.{TellsBehind, let_go_more, tells_along}
use Rattle.order_laws.proofs.CompletingTurns.{Completes, begins, elsewhere, ends, goes, has_written, is_completion}
use Rattle.order_laws.proofs.CompletingTurns.{turn_completes, undecided, written_few}
use Rattle.order_laws.proofs.Leads.{any_sent, lead, tc_block_is}
use Rattle.order_laws.proofs.Passed.{passed}
use Rattle.order_laws.proofs.Records.{holders_passed}
use Rattle.order_laws.proofs.Still.{IsZero, home_for, home_low, none_weigh, replica_low}
use Rattle.order_laws.proofs.Written.{none_sent, none_sent_where, passed_before, passed_has_written}

-- the last completion of a row comes, the one at its primary
record IsLast (tx : TxId) (key : List ℕ) (body : Body) : Type 0 where
  chain : List Member
  is : body ≡ Chain (Complete tx key chain 0)

module _ (tx : TxId) (key : List ℕ) where
  abbrev wanted : List Outgoing → Place → Body → ℕ
  wanted list to body = lead tx (is_completion tx key) list to body

  -- a signal leads to a completion no more than it stands for something that is awaited
  wanted_due : (list : List Outgoing) (count : ℕ) (to : Place) (body : Body)
      → wanted list to body ≤ due tx count body
  wanted_due list count to (Chain (Complete other own chain at)) = by (same_tx other tx) (same_key own key)
    where
      by : (a b : Bool) → one_if (a && b) ≤ one_if a
      by true b = one_most b
      by false b = omega arith
  wanted_due list count to (Host (Continue (work.Transaction other) at)) =
      by (is_tc to.block && (to.node == tx.tc)) (same_tx other tx)
      (any_sent (is_completion tx key) (drop at list))
    where
      by : (a b c : Bool) → one_if (a && (b && c)) ≤ (if b then suc (count - suc at) else 0)
      by true true c = omega (arith, one_most c)
      by true false c = omega arith
      by false true c = omega arith
      by false false c = omega arith
  wanted_due list count to _ = omega arith

  -- no request is led to one
  request_none : (list : List Outgoing) (to : Place) (body : Body) → is_request body ≡ true → wanted list to body ≡ 0
  request_none list to (Chain c) is = absurd (false≢true is)
  request_none list to (Host (Continue (work.Transaction other) at)) is = absurd (false≢true is)
  request_none list to _ is = refl

  -- the rows of a node pass a completion on, unless it is the last of its row
  rows_pass : (s : LqhState) (list : List Outgoing) (to : Place) (body : Body) → to.block ≡ block.Lqh
      → (wanted list to body ≤ in_sends (wanted list) (lqh_table s body).effects.sends) ⊎ IsLast tx key body
  rows_pass s list to (Chain (Complete other own chain at)) home =
      by (at == 0) refl (same_tx other tx) refl (same_key own key) refl
    where
      Sent : ℕ
      Sent = in_sends (wanted list) (lqh_table s (Chain (Complete other own chain at))).effects.sends

      on : (at == 0) ≡ false → one_if (same_tx other tx && same_key own key) ≤ Sent
      on behind =
          complete_forms
          (λ step. one_if (same_tx other tx && same_key own key) ≤ in_sends (wanted list) step.effects.sends) s other
          own chain at (record {
            last = λ first. absurd (false≢true (sym behind ∙ first));
            passes = λ is. omega arith;
          })

      by : (b : Bool) → (at == 0) ≡ b → (x : Bool) → same_tx other tx ≡ x → (y : Bool) → same_key own key ≡ y
          → (one_if (same_tx other tx && same_key own key) ≤ Sent) ⊎ IsLast tx key (Chain (Complete other own chain at))
      by false behind x p y q = inl (on behind)
      by true first true p true q =
          let one : other ≡ tx = same_tx-is other tx p in
          let its : own ≡ key = keys.same own key q in
          inr (record {
            chain = chain;
            is =
                ap (λ v. Chain (Complete v own chain at)) one ∙ ap (λ k. Chain (Complete tx k chain at)) its
                ∙ ap (λ n. Chain (Complete tx key chain n)) (eqb-true at 0 first);
          })
      by true first true p false q = inl (omega (arith, ap one_if (ap (λ b. b && same_key own key) p ∙ q)))
      by true first false p y q = inl (omega (arith, ap (λ b. one_if (b && same_key own key)) p))
  rows_pass s list to (Host (Continue (work.Transaction other) at)) home =
      inl (omega (
        arith,
        ap (λ b. one_if ((is_tc b && (to.node == tx.tc)) && (same_tx other tx && any_sent (is_completion tx key)
            (drop at list)))) home,
      ))
  rows_pass s list to _ home = inl (omega arith)

module _ (start : Start) (tx : TxId) (key : List ℕ) (inside : 0 + 1 < length (replicas start key)) where
  -- the first two places of the key's chain
  abbrev front : ℕ
  front = replica_host start key 0

  abbrev behind : ℕ
  behind = replica_host start key (0 + 1)

  abbrev HasPassed : (ℕ → List HostStep) → Type 0
  HasPassed logs = is_among tx (passed start key (replica_host start key (0 + 1)) (replica_host start key 0)
      (logs (replica_host start key 0))) ≡ true

  abbrev pub HasLetGo : (ℕ → List HostStep) → Type 0
  HasLetGo logs = has_let_go start logs key (replica_host start key (0 + 1)) tx ≡ true

  abbrev list_at : Option Transaction → List Outgoing
  list_at None = []
  list_at (Some t) = phase_sends (first_layout start.shape) tx t.phase t.touched

  -- a completion is on its way, or the second place has let go
  abbrev pub IsOnWay : (ℕ → List HostStep) → List Addressed → Option Transaction → Type 0
  IsOnWay logs xs o = (1 ≤ in_transit (wanted tx key (list_at o)) xs) ⊎ HasLetGo logs

  -- so it is of one that completes, or is forgotten and carried out
  abbrev pub Claim : (ℕ → List HostStep) → List Addressed → Option Transaction → Type 0
  Claim logs xs None = is_carried_out start logs tx ≡ true → IsOnWay logs xs None
  Claim logs xs (Some t) = is_completing t.phase ≡ true → IsOnWay logs xs (Some t)

  abbrev Holds : List HostStep → List Addressed → Type 0
  Holds es xs = HasPassed (logs_of start es) → Claim (logs_of start es) xs (live_at start (logs_of start es) tx)

  module _ (es : List HostStep) (e : HostStep) (come : Comes start es e) (before between : List Addressed)
      (transit : AreInTransit start es before) (takes : Takes e before between) (was : Holds es before) where
    abbrev logs : ℕ → List HostStep
    logs h = logs_of start es h

    abbrev now : ℕ → List HostStep
    now h = logs_of start (e ∷ es) h

    abbrev g : host.Host
    g = after start e.host (logs_of start es e.host)

    abbrev sends : List Outgoing
    sends = (step_after start e.host (logs_of start es e.host) e).effects.sends

    abbrev later : List Addressed
    later = joined (signals_of start e.host (logs_of start es e.host) e) between

    abbrev taken : List Outgoing → ℕ
    taken list = wanted tx key list e.step.taken.to e.step.taken.body

    out : (list : List Outgoing)
        → in_transit (wanted tx key list) before ≡ taken list + in_transit (wanted tx key list) between
    out list =
        takes_weigh (wanted tx key list) e before between
        (request_none tx key list e.step.taken.to e.step.taken.body) takes

    into : (list : List Outgoing)
        → in_transit (wanted tx key list) later ≡ in_sends (wanted tx key list) sends
        + in_transit (wanted tx key list) between
    into list = joins_weigh (wanted tx key list) start e.host (logs_of start es e.host) e between

    still_gone : HasLetGo (logs_of start es) → HasLetGo (logs_of start (e ∷ es))
    still_gone gone = let_go_more start es e key (replica_host start key (0 + 1)) tx gone

    -- where the list stays as it is, and a completion that comes is passed on, or was the last one
    goes_on : (list : List Outgoing) → (taken list ≤ in_sends (wanted tx key list) sends) ⊎ HasLetGo (logs_of start es)
        → (1 ≤ in_transit (wanted tx key list) before) ⊎ HasLetGo (logs_of start es)
        → (1 ≤ in_transit (wanted tx key list) later) ⊎ HasLetGo (logs_of start (e ∷ es))
    goes_on list less (inr gone) = inr (still_gone gone)
    goes_on list (inr gone) (inl some) = inr (still_gone gone)
    goes_on list (inl less) (inl some) = inl (omega (arith, some, less, out list, into list))

    -- where the last completion of the row is taken, the second place has let go
    last_gone : IsLast tx key e.step.taken.body → HasLetGo (logs_of start es)
    last_gone last =
        let routed : IsCompletionRouted start e.step.taken.to.node key last.chain 0 =
        subst (IsRouted start e.step.taken.to.node) last.is (coming_are_routed start es e come).routed in
        let tells : TellsBehind start (logs_of start es) e.step.taken.body =
        each_taken (λ (x : Addressed). TellsBehind start (logs_of start es) x.signal.body) e before between
        (ap is_request last.is) takes (tells_along start es before come.before transit) in
        subst (λ c. has_let_go start (logs_of start es) key (rows_host start (node_at c (0 + 1))) tx ≡ true)
        routed.along
        (subst (TellsBehind start (logs_of start es)) last.is tells
        (omega (arith, inside, ap length routed.along)))

    facts : IsHome tx (tc_of g)
    facts = all_home start tx e.host (logs_of start es e.host)

    -- what goes on with the claim where the transaction stays as it is
    stays_so : live_at start (logs_of start (e ∷ es)) tx ≡ live_at start (logs_of start es) tx
        → is_carried_out start (logs_of start (e ∷ es)) tx ≡ is_carried_out start (logs_of start es) tx
        → ((o : Option Transaction) → live_at start (logs_of start es) tx ≡ o
        → (taken (list_at o) ≤ in_sends (wanted tx key (list_at o)) sends) ⊎ HasLetGo (logs_of start es))
        → Claim (logs_of start es) before (live_at start (logs_of start es) tx)
        → Claim (logs_of start (e ∷ es)) later (live_at start (logs_of start (e ∷ es)) tx)
    stays_so same carried less claim =
        subst (Claim (logs_of start (e ∷ es)) later) (sym same) (by (live_at start (logs_of start es) tx) refl claim)
      where
        by : (o : Option Transaction) → live_at start (logs_of start es) tx ≡ o → Claim (logs_of start es) before o
            → Claim (logs_of start (e ∷ es)) later o
        by None is claim = λ now. goes_on [] (less None is) (claim (sym carried ∙ now))
        by (Some t) is claim = λ on. goes_on (list_at (Some t)) (less (Some t) is) (claim on)

    -- a completion comes to a host that runs its rows
    completion_runs : (chain : List Member) (at : ℕ) → e.step.taken.body ≡ Chain (Complete tx key chain at)
        → (e.step.taken.to.block ≡ block.Lqh) × (has_lqh g ≡ true)
    completion_runs chain at is =
        let coming = coming_are_routed start es e come in
        let routed : IsCompletionRouted start e.step.taken.to.node key chain at =
        subst (IsRouted start e.step.taken.to.node) is coming.routed in
        let home : e.step.taken.to.block ≡ block.Lqh = subst (IsForBlock e.step.taken.to) is coming.block in (
          home,
          placed_runs start e.host key at (logs_of start es e.host) come.before.shape
              (placed start e.host e.step.taken.to.node key chain at (rows_addressed start es e come home) routed.along
              routed.sent),
        )

    -- a step that leaves it alone takes nothing that leads there
    aside_none : IsMissed tx g e.step.taken → (o : Option Transaction) → live_at start (logs_of start es) tx ≡ o
        → taken (list_at o) ≡ 0
    aside_none missed o live = by e.step.taken.body refl
      where
        completion : (other : TxId) (own : List ℕ) (chain : List Member) (at : ℕ)
            → e.step.taken.body ≡ Chain (Complete other own chain at) → (x y : Bool) → same_tx other tx ≡ x
            → same_key own key ≡ y → one_if (x && y) ≡ 0
        completion other own chain at is true true p q =
            let here = completion_runs chain at
            (is ∙ ap (λ v. Chain (Complete v own chain at)) (same_tx-is other tx p)
            ∙ ap (λ k. Chain (Complete tx k chain at)) (keys.same own key q)) in
            absurd (false≢true (sym (missed.rows (ap is_lqh here.0)) ∙ here.1))
        completion other own chain at is true false p q = refl
        completion other own chain at is false y p q = refl

        -- it isn't there, or its host is another one
        gone : (other : TxId) (at : ℕ) → e.step.taken.body ≡ Host (Continue (work.Transaction other) at)
            → same_tx other tx ≡ true → is_tc e.step.taken.to.block ≡ true → (e.step.taken.to.node == tx.tc) ≡ true
            → live_at start (logs_of start es) tx ≡ None
        gone other at is own tc node =
            let here : e.host ≡ home start tx =
            tc_addressed start es e come (tc_block_is e.step.taken.to.block tc)
            ∙ ap (tc_host start) (eqb-true e.step.taken.to.node tx.tc node) in
            ap (of_host tx) (here_was start es e come tx here)
            ∙ missed.next (ap (is_next tx) is ∙ own) tc

        onward : (other : TxId) (at : ℕ) → e.step.taken.body ≡ Host (Continue (work.Transaction other) at)
            → (a b c : Bool) → is_tc e.step.taken.to.block ≡ a → (e.step.taken.to.node == tx.tc) ≡ b
            → same_tx other tx ≡ c
            → one_if ((a && b) && (c && any_sent (is_completion tx key) (drop at (list_at o)))) ≡ 0
        onward other at is true true true p q r =
            ap (λ o. one_if (any_sent (is_completion tx key) (drop at (list_at o))))
            (sym live ∙ gone other at is r p q) ∙ ap one_if (none at)
          where
            none : (n : ℕ) → any_sent (is_completion tx key) (drop n []) ≡ false
            none zero = refl
            none (suc n) = refl
        onward other at is true true false p q r = refl
        onward other at is true false c p q r = refl
        onward other at is false b c p q r = refl

        by : (body : Body) → e.step.taken.body ≡ body → wanted tx key (list_at o) e.step.taken.to body ≡ 0
        by (Chain (Complete other own chain at)) is =
            completion other own chain at is (same_tx other tx) (same_key own key) refl refl
        by (Host (Continue (work.Transaction other) at)) is =
            onward other at is (is_tc e.step.taken.to.block) (e.step.taken.to.node == tx.tc) (same_tx other tx) refl
            refl
            refl
        by _ is = refl

    -- a turn of the transaction
    module _ (node : ℕ) (number : node ≡ tx.tc) (u : Transaction)
        (live_was : live_at start (logs_of start es) tx ≡ Some u) (own_body : is_for tx e.step.taken.body ≡ true)
        (had : HasPassed (logs_of start es)) where
      abbrev layout : Layout
      layout = first_layout start.shape

      -- one that is decided, or asks for that, isn't given up
      kept : (is_verifying u.phase || is_decided u.phase) ≡ true → is_given_up start (logs_of start es) tx ≡ false
      kept asked = by (is_given_up start (logs_of start es) tx) refl
        where
          off : (phase : Phase) → (is_verifying phase || is_decided phase) ≡ true → is_aborting phase ≡ false
          off Verifying is = refl
          off (Committing epoch awaited) is = refl
          off (Completing epoch awaited) is = refl
          off Open is = absurd (false≢true is)
          off (Aborting why verifying awaited) is = absurd (false≢true is)

          by : (b : Bool) → is_given_up start (logs_of start es) tx ≡ b → b ≡ false
          by false is = refl
          by true is =
              absurd (false≢true (sym (off u.phase asked)
              ∙ each_found (λ (x : TxId × Transaction). list_any (same_tx x.0) (sent_ways start back_by (home start tx)
              (logs_of start es (home start tx))) ≡ true → is_aborting x.1.phase ≡ true)
              (tc_of (after start (home start tx) (logs_of start es (home start tx)))).live tx u
              (back_aborting start (home start tx) (logs_of start es (home start tx))) live_was is))

      written : (is_verifying u.phase || is_decided u.phase) ≡ true → has_written key u.touched ≡ true
      written asked =
          (passed_has_written start es key 0 tx u come.before (kept asked) live_was asked inside had).touched

      short : is_completing u.phase ≡ true → length (list_at (Some u)) ≤ SENDS
      short on =
          omega (
            arith,
            phase_long tx layout u.phase u.touched,
            by u.phase on,
            written_few u.touched,
            few_touched start tx (home start tx) (logs_of start es (home start tx)) u live_was,
          )
        where
          by : (phase : Phase) → is_completing phase ≡ true
              → list_length layout phase u.touched ≡ suc (written_count u.touched)
          by (Completing epoch awaited) is = refl
          by Open is = absurd (false≢true is)
          by Verifying is = absurd (false≢true is)
          by (Committing epoch awaited) is = absurd (false≢true is)
          by (Aborting why verifying awaited) is = absurd (false≢true is)

      -- with the last answer no completion is on its way
      none_left : awaited_in u.phase ≤ due tx (list_length layout u.phase u.touched) e.step.taken.body
          → taken (list_at (Some u)) ≡ 0 → 1 ≤ in_transit (wanted tx key (list_at (Some u))) before → ⊥
      none_left last none some =
          omega (
            arith,
            some,
            none,
            out (list_at (Some u)),
            last,
            subst (IsAwaited layout tx before) live_was (all_is_awaited start es before tx come.before transit),
            awaited.out tx start es e come before between takes (list_length layout u.phase u.touched),
            fewer between,
          )
        where
          fewer : (xs : List Addressed) → in_transit (wanted tx key (list_at (Some u))) xs
              ≤ due_in tx (list_length layout u.phase u.touched) xs
          fewer [] = omega arith
          fewer (x ∷ xs) =
              omega (
                arith,
                wanted_due tx key (list_at (Some u)) (list_length layout u.phase u.touched) x.signal.to x.signal.body,
                fewer xs,
              )

      -- what it leaves, where nothing was carried out before it was decided
      turned : (turn : Turn) → sends ≡ turn.step.effects.sends
          → (AreSilent tx sends → is_carried_out start (logs_of start (e ∷ es)) tx ≡ true → is_decided u.phase ≡ true)
          → Claim (logs_of start es) before (Some u)
          → Completes node layout tx key number u e.step.taken.to e.step.taken.body turn
          → Claim (logs_of start (e ∷ es)) later (left_of_turn turn)
      turned turn sent carried claim (elsewhere over off) =
          subst (λ b. Claim (logs_of start (e ∷ es)) later (if b then None else Some turn.step.state)) (sym over)
          (λ on. absurd (false≢true (sym off ∙ on)))
      turned turn sent carried claim (begins over some) =
          subst (λ b. Claim (logs_of start (e ∷ es)) later (if b then None else Some turn.step.state)) (sym over)
          (λ on. inl (omega (
            arith,
            some,
            into (list_at (Some turn.step.state)),
            ap (in_sends (wanted tx key (list_at (Some turn.step.state)))) sent,
          )))
      turned turn sent carried claim (goes over on same less) =
          subst (λ b. Claim (logs_of start (e ∷ es)) later (if b then None else Some turn.step.state)) (sym over)
          (λ is. subst (λ list. (1 ≤ in_transit (wanted tx key list) later) ⊎ HasLetGo (logs_of start (e ∷ es)))
          (sym same)
          (goes_on (list_at (Some u))
          (inl (omega (arith, less, ap (in_sends (wanted tx key (list_at (Some u)))) sent))) (claim on)))
      turned turn sent carried claim (ends over on last none) =
          subst (λ b. Claim (logs_of start (e ∷ es)) later (if b then None else Some turn.step.state)) (sym over)
          (λ is. by (claim on))
        where
          by : (1 ≤ in_transit (wanted tx key (list_at (Some u))) before) ⊎ HasLetGo (logs_of start es)
              → IsOnWay (logs_of start (e ∷ es)) later None
          by (inl some) = absurd (none_left last none some)
          by (inr gone) = inr (still_gone gone)
      turned turn sent carried claim (undecided over off silent) =
          subst (λ b. Claim (logs_of start (e ∷ es)) later (if b then None else Some turn.step.state)) (sym over)
          (λ is. absurd (false≢true (sym off ∙ carried (subst (AreSilent tx) (sym sent) silent) is)))

      pub turn_claims : sends ≡ (turn_for node layout tx e.step.taken.body u).step.effects.sends
          → (AreSilent tx sends → is_carried_out start (logs_of start (e ∷ es)) tx ≡ true → is_decided u.phase ≡ true)
          → Claim (logs_of start es) before (Some u)
          → Claim (logs_of start (e ∷ es)) later (left_of_turn (turn_for node layout tx e.step.taken.body u))
      turn_claims sent carried claim =
          turned (turn_for node layout tx e.step.taken.body u) sent carried claim
          (turn_completes node layout tx key number u e.step.taken.to e.step.taken.body own_body written short)

    carried_too : AreSilent tx sends
        → is_carried_out start (logs_of start (e ∷ es)) tx ≡ is_carried_out start (logs_of start es) tx
    carried_too silent = carried_silent start es e come tx (said_silent start es e come tx silent)

    -- a step of rows carries nobody out
    rows_carry : IsRowsStep g e.step.taken (row g e.step.taken)
        → is_carried_out start (logs_of start (e ∷ es)) tx ≡ is_carried_out start (logs_of start es) tx
    rows_carry step =
        carried_silent start es e come tx
        (subst (AreSilent tx)
        (sym (tc_silent g e.step.taken (λ at. let both : block.Lqh ≡ block.Tc = sym step.at ∙ at in cc))) tt)

    claimed : HasPassed (logs_of start es)
        → Claim (logs_of start (e ∷ es)) later (live_at start (logs_of start (e ∷ es)) tx)
    claimed had = by (tx_step tx g e.step.taken facts)
      where
        by : TxStep tx g e.step.taken (row g e.step.taken)
            → Claim (logs_of start (e ∷ es)) later (live_at start (logs_of start (e ∷ es)) tx)
        by (aside same silent missed) =
            stays_so (live_leaves start es e come tx same) (carried_too silent)
            (λ o is. inl (omega (arith, aside_none missed o is))) (was had)
        by (rows step) =
            stays_so (live_leaves start es e come tx (ap (λ (c : TcState). of_live tx c.live) step.tc))
            (rows_carry step)
            (λ o is. which o (rows_pass tx key (lqh_of g) (list_at o) e.step.taken.to e.step.taken.body step.at))
            (was had)
          where
            which : (o : Option Transaction)
                → (taken (list_at o) ≤ in_sends (wanted tx key (list_at o))
                (lqh_table (lqh_of g) e.step.taken.body).effects.sends) ⊎ IsLast tx key e.step.taken.body
                → (taken (list_at o) ≤ in_sends (wanted tx key (list_at o)) sends) ⊎ HasLetGo (logs_of start es)
            which o (inl less) =
                inl (omega (
                  arith,
                  less,
                  ap (λ (f : Effects). in_sends (wanted tx key (list_at o)) f.sends) step.effects,
                ))
            which o (inr last) = inr (last_gone last)
        by (step.begins step is silent) = fresh_claims (fares tx g e.step.taken facts)
          where
            none : of_host tx g ≡ None
            none =
                unborn_absent start tx e.host (logs_of start es e.host) (omega (arith, ap (λ (v : TxId). v.seq) is))

            missed : IsMissed tx g e.step.taken
            missed = record {
              rows = λ at. absurd (false≢true (sym (ap is_lqh step.at) ∙ at));
              next = λ next tc. none;
            }

            same : of_host tx (row g e.step.taken).state ≡ of_host tx g
                → Claim (logs_of start (e ∷ es)) later (live_at start (logs_of start (e ∷ es)) tx)
            same same_host =
                stays_so (live_leaves start es e come tx same_host) (carried_too silent)
                (λ o live. inl (omega (arith, aside_none missed o live))) (was had)

            own : e.host ≡ home start tx
            own = own_home start es e come tx step.runs (sym (ap (λ (v : TxId). v.tc) is))

            fresh_claims : Fares tx g e.step.taken (row g e.step.taken)
                → Claim (logs_of start (e ∷ es)) later (live_at start (logs_of start (e ∷ es)) tx)
            fresh_claims (awaited.aside same_host off) = same same_host
            fresh_claims (awaited.rows step) = same (ap (λ (c : TcState). of_live tx c.live) step.tc)
            fresh_claims (awaited.begins step is left off) =
                subst (Claim (logs_of start (e ∷ es)) later)
                (sym (ap (of_host tx) (here_now start es e come tx own) ∙ left)) (λ on. absurd (false≢true on))
            fresh_claims (awaited.turns u step there own_body sent left) =
                absurd (let both : None ≡ Some u = sym none ∙ there in cc)
        by (turns u step there own_body sent left) =
            subst (Claim (logs_of start (e ∷ es)) later)
            (sym (ap (of_host tx) (here_now start es e come tx own) ∙ left
            ∙ ap (λ l. left_of_turn (turn_for (tc_of g).node l tx e.step.taken.body u)) same_layout))
            (turn_claims (tc_of g).node (sym number) u live_was own_body had
            (sent ∙ ap (λ l. (turn_for (tc_of g).node l tx e.step.taken.body u).step.effects.sends) same_layout)
            (λ silent carried.
            each_found (λ (x : TxId × Transaction). list_any (same_tx x.0) (sent_ways start forth_by (home start tx)
            (logs_of start es (home start tx))) ≡ true → is_decided x.1.phase ≡ true)
            (tc_of (after start (home start tx) (logs_of start es (home start tx)))).live tx u
            (forth_decided start (home start tx) (logs_of start es (home start tx))) live_was
            (sym (carried_too silent) ∙ carried))
            (subst (Claim (logs_of start es) before) live_was (was had)))
          where
            number : tx.tc ≡ (tc_of g).node
            number =
                (of_each (λ one t. IsOwn (tc_of g).node (tc_of g).next_seq one) tx (tc_of g).live u facts.own
                there).home

            own : e.host ≡ home start tx
            own = own_home start es e come tx step.runs number

            same_layout : (tc_of g).layout ≡ first_layout start.shape
            same_layout = tc_layout start e.host (logs_of start es e.host) step.runs

            live_was : live_at start (logs_of start es) tx ≡ Some u
            live_was = ap (of_host tx) (here_was start es e come tx own) ∙ there

    had_before : Each (λ (o : Outgoing). is_token tx o.body ≡ false) sends → HasPassed (logs_of start (e ∷ es))
        → HasPassed (logs_of start es)
    had_before none there = passed_before start tx key 0 inside es e none there

    -- one that is carried out, or completes, isn't passed on any more
    next : Holds (e ∷ es) later
    next there = by (live_at start (logs_of start (e ∷ es)) tx) refl
      where
        decided : (phase : Phase) → is_completing phase ≡ true → is_decided phase ≡ true
        decided (Completing epoch awaited) on = refl
        decided Open on = absurd (false≢true on)
        decided Verifying on = absurd (false≢true on)
        decided (Committing epoch awaited) on = absurd (false≢true on)
        decided (Aborting why verifying awaited) on = absurd (false≢true on)

        by : (o : Option Transaction) → live_at start (logs_of start (e ∷ es)) tx ≡ o
            → Claim (logs_of start (e ∷ es)) later o
        by None is = λ carried.
            subst (Claim (logs_of start (e ∷ es)) later) is
            (claimed (had_before (none_sent_where start tx es e come
            (λ xs t. omega (arith, carried_out_have_none start (e ∷ es) xs tx come.now t carried))) there)) carried
        by (Some t) is = λ on.
            subst (Claim (logs_of start (e ∷ es)) later) is
            (claimed (had_before (none_sent start tx es e come t is (decided t.phase on)) there)) on

  pub completing_along : (es : List HostStep) (xs : List Addressed) → IsRun start es → AreInTransit start es xs
      → Holds es xs
  completing_along =
      along_transit start Holds (λ there. absurd cc)
      (λ es e before between come transit was takes. next es e come before between transit takes was)

pub completed_let_go : CompletedLetGo
completed_let_go start es xs key tx run still inside carried uncommitted =
    by (holds tx (lock_at_place start (logs_of start es) key (0 + 1)).holders) refl
  where
    logs : ℕ → List HostStep
    logs h = logs_of start es h

    out : HasLetGo start tx key inside (logs_of start es)
        → holds tx (lock_at_place start (logs_of start es) key (0 + 1)).holders ≡ false
    out gone = (carried_out_stay_out start es key (replica_host start key (0 + 1)) tx run carried gone).unheld

    low : home start tx < first_hosts start
    low = home_low start es tx run (inr carried)

    none_wanted : (list : List Outgoing) → in_transit (wanted tx key list) xs ≡ 0
    none_wanted list = none_weigh start es xs run still (wanted tx key list) at_place
      where
        by_home : (other : TxId) (at : ℕ) (to : Place) → first_hosts start ≤ host_for start to → (b : Bool)
            → (is_tc to.block && (to.node == tx.tc)) ≡ b
            → one_if (b && (same_tx other tx && any_sent (is_completion tx key) (drop at list))) ≡ 0
        by_home other at to high false is = refl
        by_home other at to high true is = absurd (omega (arith, high, home_for start tx low to is))

        at_place : IsZero start es xs run still (wanted tx key list)
        at_place to (Chain (Complete other own chain at)) routed home high =
            absurd (omega (
              arith,
              high,
              replica_low start es xs run still own at
                  (subst (λ (c : List Member). at < length c) routed.along routed.sent.inside) to
                  (routed.sent.node_is ∙ ap (λ c. node_at c at) routed.along),
            ))
        at_place to (Host (Continue (work.Transaction other) at)) routed home high =
            by_home other at to high (is_tc to.block && (to.node == tx.tc)) refl
        at_place to _ routed home high = refl

    way : (o : Option Transaction) → IsOnWay start tx key inside (logs_of start es) xs o
        → holds tx (lock_at_place start (logs_of start es) key (0 + 1)).holders ≡ false
    way o (inl some) = absurd (omega (arith, some, none_wanted (list_at start tx key inside o)))
    way o (inr gone) = out gone

    completing : (phase : Phase) → is_decided phase ≡ true → is_committing phase ≡ false → is_completing phase ≡ true
    completing (Completing epoch awaited) is off = refl
    completing (Committing epoch awaited) is off = absurd (false≢true (sym off))
    completing Open is off = absurd (false≢true is)
    completing Verifying is off = absurd (false≢true is)
    completing (Aborting why verifying awaited) is off = absurd (false≢true is)

    claim : (o : Option Transaction) → live_at start (logs_of start es) tx ≡ o
        → Claim start tx key inside (logs_of start es) xs o
        → holds tx (lock_at_place start (logs_of start es) key (0 + 1)).holders ≡ false
    claim None is told = way None (told carried)
    claim (Some t) is told =
        way (Some t)
        (told (completing t.phase
        (each_found (λ (x : TxId × Transaction). list_any (same_tx x.0) (sent_ways start forth_by (home start tx)
        (logs_of start es (home start tx))) ≡ true → is_decided x.1.phase ≡ true)
        (tc_of (after start (home start tx) (logs_of start es (home start tx)))).live tx t
        (forth_decided start (home start tx) (logs_of start es (home start tx))) is carried)
        (uncommitted t is)))

    by : (b : Bool) → holds tx (lock_at_place start (logs_of start es) key (0 + 1)).holders ≡ b
        → holds tx (lock_at_place start (logs_of start es) key (0 + 1)).holders ≡ false
    by false is = is
    by true is =
        claim (live_at start (logs_of start es) tx) refl
        (completing_along start tx key inside es xs run still.transit (holders_passed start es key 0 tx run inside is))
