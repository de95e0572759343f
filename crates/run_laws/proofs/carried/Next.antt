-- A transaction that is carried out stays so in each step of a run.
use Rattle.std.proofs.Common.{◌≡◌, ◌≢◌, ◌⊎◌, ◌≤◌, ◌<◌, ◌+◌, ◌-◌, ℕ, Bool, true, false, length, List, ◌∷◌, refl, sym, ap}
use Rattle.std.proofs.Common.{◌∙◌, subst, arith, inl, inr}
use Rattle.std.specs.Prelude.{◌==◌, ◌&&◌, Option, None, Some}
use Rattle.std.proofs.lemmas.Bool.{cases_eq, cases_lt, eqb-true}
use Rattle.std.proofs.lemmas.Bool.Decides.{nat_tests}
use Rattle.row_records.proofs.KeyLemmas as keys
use Rattle.run_theory.proofs.EventCases.{event_keeps}
use Rattle.run_theory.specs.Lists.{Each}
use Rattle.run_theory.proofs.Pasts.{each_map}
use Rattle.world_core.specs.Steps.{Addressed, HostStep}
use Rattle.sig_core.specs.declared.member.Member.{Member}
use Rattle.sig_core.specs.declared.member.TxId.{TxId}
use Rattle.sig_core.specs.declared.outs.Outgoing.{Outgoing}
use Rattle.sig_core.specs.declared.place.BlockId.{BlockId}
use Rattle.sig_core.specs.declared.place.BlockId.TheVariants as block
use Rattle.sig_core.specs.declared.place.Place.{Place}
use Rattle.sig_core.specs.declared.signal.Body.{Body}
use Rattle.sig_core.specs.declared.signal.Body.TheVariants.{Chain}
use Rattle.sig_core.specs.declared.signal.chain.ChainSignal.TheVariants.{Commit}
use Rattle.sig_core.specs.Chain.{node_at, primary_of}
use Rattle.sig_core.specs.Same.{same_tx}
use Rattle.sig_core.specs.Step.{Effects}
use Rattle.lqh_block.specs.Lqh.{lqh_table}
use Rattle.lqh_block.specs.State.{LqhState}
use Rattle.tc_block.specs.declared.transaction.Transaction.{Transaction}
use Rattle.tc_block.specs.State.{TcState}
use Rattle.node_core.proofs.HostCases.{IsRowsStep}
use Rattle.node_core.specs.Blocks.{has_lqh, lqh_of, tc_of}
use Rattle.node_core.specs.declared.host.Host.{Host}
use Rattle.node_core.specs.Requests.{is_request}
use Rattle.node_core.specs.Row.{row}
use Rattle.world_core.proofs.HostNumbers.{rows_run}
use Rattle.world_core.specs.Hosts.{home, rows_host, tc_host}
use Rattle.world_core.specs.Machine.{after, signals_of, step_after, machine}
use Rattle.world_core.specs.Start.{Start}
use Rattle.key_laws.specs.Primary.{HasPrepared}
use Rattle.host_laws.proofs.rows.Operations.{is_lqh}
use Rattle.host_laws.proofs.coordinator.Lives.{IsOwn}
use Rattle.host_laws.proofs.coordinator.Moves.{same_tx-is}
use Rattle.host_laws.proofs.api.Wishes.{is_tc}
use Rattle.sig_core.proofs.Keys.{same_key-self}
use Rattle.run_laws.specs.Circle.{at_host}
use Rattle.run_laws.specs.Completions.{IsCommittedAtAll}
use Rattle.run_laws.specs.GivenUp.{is_carried_out, is_given_up}
use Rattle.host_laws.specs.Live.{of_live}
use Rattle.run_laws.specs.Live.{live_at, of_host}
use Rattle.run_laws.specs.Routes.{IsCommitRouted, IsForBlock, IsNodeFor, IsOnWay, IsRouted, replicas}
use Rattle.run_laws.specs.Tokens.{tokens}
use Rattle.run_laws.specs.Transit.{Comes, Takes, joined, logs_of}
use Rattle.run_laws.proofs.routes.Addressed.{rows_addressed, tc_addressed}
use Rattle.run_laws.proofs.carried.Out.{IsAhead, IsCarried, IsDone, IsLiveAhead, IsSpread, IsUpTo, TellsOf}
use Rattle.run_laws.proofs.carried.Out.{committed_stays, tells_stay, tells_too}
use Rattle.run_laws.proofs.carried.Turn.{TurnLeaves, ahead_stays, parts_tell, silent_parts, silent_stays, turn_leaves}
use Rattle.run_laws.proofs.ways.GivenUp.{aborts_are_of_given_up, none_is_both}
use Rattle.run_laws.proofs.hosts.HomeSteps.{IsHome, all_home, away, here_now, here_was, own_home, live_leaves}
use Rattle.run_laws.proofs.hosts.TxSteps.{IsMissed, TxStep, aside, aside_cover, away_cover, begins, next_number}
use Rattle.run_laws.proofs.hosts.TxSteps.{number_rises, rows, rows_cover, turns, tx_step}
use Rattle.run_laws.proofs.hosts.LiveOf.{of_each}
use Rattle.run_laws.proofs.fades.RowsPass.{IsLast, lqh_covers, lqh_tells, lqh_weighs}
use Rattle.run_laws.proofs.routes.Events.{coming_are_routed, commits_end_at_primary}
use Rattle.run_laws.proofs.routes.Chain.{primary_first, primary_length, replicas_are_nodes, replicas_some}
use Rattle.run_laws.proofs.fades.Steps.{EndsAtPrimary, NoAbort, StepFades, step_fades}
use Rattle.run_laws.proofs.fades.Signals.{cover, part_tells, request_part, weight}
use Rattle.run_laws.proofs.hosts.TcOwn.{AreSilent}
use Rattle.tc_block.proofs.TurnRows.{turn_for}
use Rattle.run_laws.proofs.transit.Weighing.{each_between, each_joins, each_taken, in_sends, in_transit, joins_weigh}
use Rattle.run_laws.proofs.transit.Weighing.{takes_weigh}

module _ (start : Start) (es : List HostStep) (e : HostStep) (come : Comes start es e) where
  -- a commit that comes is at the place of its chain that it is for, and that host runs rows
  pub record IsAtPlace (chain : List Member) (at : ℕ) : Type 0 where
    pub host_is : rows_host start (node_at chain at) ≡ e.host
    pub runs : has_lqh (after start e.host (logs_of start es e.host)) ≡ true

  pub commit_place : (one : TxId) (own : List ℕ) (epoch : ℕ) (chain : List Member) (at : ℕ)
      → e.step.taken.body ≡ Chain (Commit one own epoch chain at) → IsAtPlace chain at
  commit_place one own epoch chain at is = by (subst (IsRouted start e.step.taken.to.node) is coming.routed)
    where
      coming : IsOnWay start e.step.taken.to e.step.taken.body
      coming = coming_are_routed start es e come

      place : (node : ℕ) → e.host ≡ rows_host start node → IsNodeFor start node own → node ≡ node_at chain at
          → IsAtPlace chain at
      place node here of node_is = record {
        host_is = ap (rows_host start) (sym node_is) ∙ sym here;
        runs = subst (λ k. has_lqh (after start k (logs_of start es k)) ≡ true) (sym here)
            (rows_run start node (logs_of start es (rows_host start node)) of.from of.to);
      }

      by : IsCommitRouted start e.step.taken.to.node own chain at → IsAtPlace chain at
      by r = place e.step.taken.to.node (rows_addressed start es e come
          (subst (IsForBlock e.step.taken.to) is coming.block)) (which r.along) r.sent.node_is
        where
          which : (chain ≡ replicas start own) ⊎ (chain ≡ primary_of (replicas start own))
              → IsNodeFor start e.step.taken.to.node own
          which (inl all) =
              subst (λ node. IsNodeFor start node own) (sym (r.sent.node_is ∙ ap (λ c. node_at c at) all))
              (replicas_are_nodes start own at come.before.shape (omega (arith, r.sent.inside, ap length all)))
          which (inr alone) =
              let some = replicas_some start come.before.shape own in
              let first : at ≡ 0 =
              omega (arith, r.sent.inside, ap length alone, primary_length (replicas start own) some) in
              subst (λ node. IsNodeFor start node own)
              (sym (r.sent.node_is ∙ (ap (λ c. node_at c at) alone ∙
              (ap (node_at (primary_of (replicas start own))) first ∙ primary_first (replicas start own)))))
              (replicas_are_nodes start own 0 come.before.shape some)

  module _ (before between : List Addressed) (takes : Takes e before between) (tx : TxId)
      (carried : is_carried_out start (logs_of start es) tx ≡ true)
      (none : tokens start (logs_of start es) before tx ≡ 0) where
    abbrev h : ℕ
    h = e.host

    abbrev g : Host
    g = after start h (logs_of start es h)

    abbrev sends : List Outgoing
    sends = (step_after start h (logs_of start es h) e).effects.sends

    abbrev later : List Addressed
    later = joined (signals_of start h (logs_of start es h) e) between

    no_abort : NoAbort e tx
    no_abort one own is = by (same_tx one tx) refl
      where
        by : (b : Bool) → same_tx one tx ≡ b → same_tx one tx ≡ false
        by false q = q
        by true q =
            let given = aborts_are_of_given_up start es e one own come is in
            let too : is_given_up start (logs_of start es) tx ≡ true =
            ap (is_given_up start (logs_of start es)) (sym (same_tx-is one tx q)) ∙ given in
            absurd (let both : true ≡ false = sym too ∙ none_is_both start (logs_of start es) tx carried in cc)

    ends : EndsAtPrimary start e
    ends one own epoch chain at is = commits_end_at_primary start es e one own epoch chain at come is

    pub fades : StepFades start (logs_of start es) (logs_of start (e ∷ es)) e tx
    fades = step_fades start es e come before between takes tx none no_abort ends

    out : (w : Place → Body → ℕ) → (is_request e.step.taken.body ≡ true → w e.step.taken.to e.step.taken.body ≡ 0)
        → in_transit w before ≡ w e.step.taken.to e.step.taken.body + in_transit w between
    out w free = takes_weigh w e before between free takes

    into : (w : Place → Body → ℕ) → in_transit w later ≡ in_sends w sends + in_transit w between
    into w = joins_weigh w start h (logs_of start es h) e between

    abbrev at_home : ℕ
    at_home = home start tx

    -- the transaction at its coordinator, before and behind the step
    live_was : h ≡ at_home → live_at start (logs_of start es) tx ≡ of_host tx g
    live_was same = ap (of_host tx) (here_was start es e come tx same)

    live_now : h ≡ at_home → live_at start (logs_of start (e ∷ es)) tx ≡ of_host tx (row g e.step.taken).state
    live_now same = ap (of_host tx) (here_now start es e come tx same)

    live_far : h ≢ at_home → live_at start (logs_of start (e ∷ es)) tx ≡ live_at start (logs_of start es) tx
    live_far differs = ap (of_host tx) (away start es e come tx differs)

    -- a step elsewhere takes no signal for its coordinator
    far_test : h ≢ at_home → (is_tc e.step.taken.to.block && (e.step.taken.to.node == tx.tc)) ≡ false
    far_test differs = by e.step.taken.to.block refl
      where
        node_test : e.step.taken.to.block ≡ block.Tc → (b : Bool) → (e.step.taken.to.node == tx.tc) ≡ b → b ≡ false
        node_test at true same = absurd (differs (tc_addressed start es e come at ∙ ap (tc_host start)
            (eqb-true e.step.taken.to.node tx.tc same)))
        node_test at false same = refl

        by : (b : BlockId) → e.step.taken.to.block ≡ b → (is_tc b && (e.step.taken.to.node == tx.tc)) ≡ false
        by block.Tc at = node_test at (e.step.taken.to.node == tx.tc) refl
        by _ at = refl

    module _ (c : IsCarried start (logs_of start es) before tx) where
      told_taken : TellsOf start (logs_of start es) tx e.step.taken.body
      told_taken = by (is_request e.step.taken.body) refl
        where
          by : (b : Bool) → is_request e.step.taken.body ≡ b → TellsOf start (logs_of start es) tx e.step.taken.body
          by true is = part_tells tx (IsSpread start (logs_of start es) tx)
              (IsCommittedAtAll start (logs_of start es) tx) e.step.taken.body (request_part tx e.step.taken.body is)
          by false is = each_taken (λ (x : Addressed). TellsOf start (logs_of start es) tx x.signal.body) e before
              between is takes c.told

      old_now : tx.seq < next_number (after start at_home (logs_of start (e ∷ es) at_home))
      old_now =
          event_keeps (machine start) e es (λ k log. tx.seq < next_number (after start k log))
          (λ low. omega (arith, number_rises g e.step.taken, low)) at_home c.old

      all_told : Each (λ (o : Outgoing). TellsOf start (logs_of start (e ∷ es)) tx o.body) sends
          → Each (λ (x : Addressed). TellsOf start (logs_of start (e ∷ es)) tx x.signal.body) later
      all_told sent =
          each_joins (λ to b. TellsOf start (logs_of start (e ∷ es)) tx b) start h (logs_of start es h) e between sent
          (each_map (λ (x : Addressed). TellsOf start (logs_of start es) tx x.signal.body)
          (λ (x : Addressed). TellsOf start (logs_of start (e ∷ es)) tx x.signal.body) between
          (λ x tells. tells_stay start (logs_of start es) (logs_of start (e ∷ es)) e tx fades x.signal.body tells)
          (each_between (λ (x : Addressed). TellsOf start (logs_of start es) tx x.signal.body) e before between takes
          c.told))

      abbrev Goes : Transaction → Type 0
      Goes t = IsAhead start (logs_of start es) before tx t.touched t.phase
          → IsAhead start (logs_of start (e ∷ es)) later tx t.touched t.phase

      -- where the transaction is as it was
      same_live : live_at start (logs_of start (e ∷ es)) tx ≡ live_at start (logs_of start es) tx
          → ((t : Transaction) → live_at start (logs_of start es) tx ≡ Some t → Goes t)
          → IsLiveAhead start (logs_of start (e ∷ es)) later tx (live_at start (logs_of start (e ∷ es)) tx)
      same_live same goes = subst (IsLiveAhead start (logs_of start (e ∷ es)) later tx) (sym same)
          (by (live_at start (logs_of start es) tx) refl c.live)
        where
          by : (o : Option Transaction) → live_at start (logs_of start es) tx ≡ o
              → IsLiveAhead start (logs_of start es) before tx o → IsLiveAhead start (logs_of start (e ∷ es)) later tx o
          by None is ahead = tt
          by (Some t) is ahead = goes t is ahead

      carried_now : Each (λ (o : Outgoing). TellsOf start (logs_of start (e ∷ es)) tx o.body) sends
          → IsLiveAhead start (logs_of start (e ∷ es)) later tx (live_at start (logs_of start (e ∷ es)) tx)
          → IsCarried start (logs_of start (e ∷ es)) later tx
      carried_now sent live = record { old = old_now; told = all_told sent; live = live }

      -- where nothing of it is sent
      quiet_now : AreSilent tx sends → live_at start (logs_of start (e ∷ es)) tx ≡ live_at start (logs_of start es) tx
          → ((t : Transaction) → live_at start (logs_of start es) tx ≡ Some t → (key : List ℕ) (i : ℕ) → cover tx key i
          e.step.taken.to e.step.taken.body ≡ 0)
          → IsCarried start (logs_of start (e ∷ es)) later tx
      quiet_now silent same none_led =
          carried_now (parts_tell start (logs_of start es) (logs_of start (e ∷ es)) e before between later sends tx
          fades out into (silent_parts start (logs_of start es) (logs_of start (e ∷ es)) e before between later
          sends tx fades out into silent))
          (same_live same (λ t is. silent_stays start (logs_of start es) (logs_of start (e ∷ es)) e before between later
          sends tx fades out into t.touched t.phase silent
          (λ front u back split. none_led t is u.key (length front))))

      -- where the step leaves it alone the signal leads to no commit
      missed_cover : IsMissed tx g e.step.taken
          → (is_lqh e.step.taken.to.block ≡ false → (key : List ℕ) (i : ℕ) → cover tx key i e.step.taken.to
          e.step.taken.body ≡ 0)
          → (key : List ℕ) (i : ℕ) → cover tx key i e.step.taken.to e.step.taken.body ≡ 0
      missed_cover missed off_rows key i = by (is_lqh e.step.taken.to.block) refl
        where
          by : (b : Bool) → is_lqh e.step.taken.to.block ≡ b → cover tx key i e.step.taken.to e.step.taken.body ≡ 0
          by false off = off_rows off key i
          by true at =
              rows_cover tx key i e.step.taken.to e.step.taken.body at
              (λ one own epoch chain place is. let both : true
              ≡ false = sym (commit_place one own epoch chain place is).runs ∙ missed.rows at in cc)

      some_none : {A : Type 0} (t : Transaction) (o : Option Transaction) → o ≡ Some t → o ≡ None → A
      some_none t None is none_is = absurd cc
      some_none t (Some u) is none_is = absurd cc

      -- the last commit of a key leaves it done
      last_commit : e.step.taken.to.block ≡ block.Lqh → (key : List ℕ) → IsLast tx key e.step.taken.body
          → IsDone start (logs_of start (e ∷ es)) tx key
      last_commit home key l = record {
        none = λ k p. nobody k p (spread.within k (subst (λ q. HasPrepared tx
            (at_host start (logs_of start es) q k).cell.pending) (sym own_key) (fades.prepared key k p)));
      }
        where
          own_key : l.own ≡ key
          own_key = keys.same l.own key l.same_own

          spread : IsSpread start (logs_of start es) tx l.own l.chain l.at
          spread = subst (λ b. TellsOf start (logs_of start es) tx b) l.is told_taken l.same_one

          nobody : (k : ℕ) → HasPrepared tx (at_host start (logs_of start (e ∷ es)) key k).cell.pending
              → IsUpTo start l.chain l.at k → ⊥
          nobody k p up =
              let here : k ≡ h =
              sym up.is ∙ (ap (λ p. rows_host start (node_at l.chain p)) (omega (arith, up.low, eqb-true l.at 0 l.last))
              ∙ (commit_place l.one l.own l.epoch l.chain l.at l.is).host_is) in
              fades.committed key l.one l.own l.epoch l.chain l.at l.is home l.same_one l.same_own
              (subst (λ j. HasPrepared tx (at_host start (logs_of start (e ∷ es)) key j).cell.pending) here p)

      -- and each other one leaves it at the places in front
      commit_before : e.step.taken.to.block ≡ block.Lqh
          → (one : TxId) (own : List ℕ) (epoch : ℕ) (chain : List Member) (at : ℕ)
          → e.step.taken.body ≡ Chain (Commit one own epoch chain at) → same_tx one tx ≡ true → (at == 0) ≡ false
          → IsSpread start (logs_of start es) tx own chain at
          → IsSpread start (logs_of start (e ∷ es)) tx own chain (at - 1)
      commit_before home one own epoch chain at is same not_last spread = record {
        within = λ k p. before_it k p (spread.within k (fades.prepared own k p));
      }
        where
          some : 1 ≤ at
          some = grind (arith, nat_tests, not_last)

          before_it : (k : ℕ) → HasPrepared tx (at_host start (logs_of start (e ∷ es)) own k).cell.pending
              → IsUpTo start chain at k → IsUpTo start chain (at - 1) k
          before_it k p up = by (cases_lt up.place at)
            where
              by : (up.place < at) ⊎ (at ≤ up.place) → IsUpTo start chain (at - 1) k
              by (inl low) = record { place = up.place; low = omega (arith, low); is = up.is }
              by (inr high) =
                  let here : k ≡ h = sym up.is
                  ∙ (ap (λ p. rows_host start (node_at chain p)) (omega (arith, high, up.low)) ∙
                  (commit_place one own epoch chain at is).host_is) in
                  absurd (fades.committed own one own epoch chain at is home same (same_key-self own)
                  (subst (λ j. HasPrepared tx (at_host start (logs_of start (e ∷ es)) own j).cell.pending) here p))

      rows_now : IsRowsStep g e.step.taken (row g e.step.taken) → IsCarried start (logs_of start (e ∷ es)) later tx
      rows_now step = carried_now told (same_live (live_leaves start es e come tx same) stays_so)
        where
          s : LqhState
          s = lqh_of g

          rows_at : e.step.taken.to.block ≡ block.Lqh
          rows_at = step.at

          same : of_host tx (row g e.step.taken).state ≡ of_host tx g
          same = ap (λ (t : TcState). of_live tx t.live) step.tc

          sent : sends ≡ (lqh_table s e.step.taken.body).effects.sends
          sent = ap (λ (f : Effects). f.sends) step.effects

          told : Each (λ (o : Outgoing). TellsOf start (logs_of start (e ∷ es)) tx o.body) sends
          told =
              subst (Each (λ (o : Outgoing). TellsOf start (logs_of start (e ∷ es)) tx o.body)) (sym sent)
              (lqh_tells s tx (IsSpread start (logs_of start es) tx) (IsSpread start (logs_of start (e ∷ es)) tx)
              (IsCommittedAtAll start (logs_of start (e ∷ es)) tx) e.step.taken.body
              (tells_too tx (IsSpread start (logs_of start es) tx) (IsSpread start (logs_of start es) tx)
              (IsCommittedAtAll start (logs_of start es) tx) (IsCommittedAtAll start (logs_of start (e ∷ es)) tx)
              (λ key chain at d. d)
              (λ key d. committed_stays start (logs_of start es) (logs_of start (e ∷ es)) e tx fades key d)
              e.step.taken.body told_taken)
              (commit_before rows_at))

          leads : (key : List ℕ) (i : ℕ)
              → (cover tx key i e.step.taken.to e.step.taken.body ≤ in_sends (cover tx key i) sends)
              ⊎ IsDone start (logs_of start (e ∷ es)) tx key
          leads key i = by (lqh_covers s tx key i e.step.taken.to e.step.taken.body rows_at)
            where
              by : (cover tx key i e.step.taken.to e.step.taken.body ≤ in_sends (cover tx key i)
                  (lqh_table s e.step.taken.body).effects.sends) ⊎ IsLast tx key e.step.taken.body
                  → (cover tx key i e.step.taken.to e.step.taken.body ≤ in_sends (cover tx key i) sends)
                  ⊎ IsDone start (logs_of start (e ∷ es)) tx key
              by (inl less) = inl (omega (arith, less, ap (in_sends (cover tx key i)) sent))
              by (inr l) = inr (last_commit rows_at key l)

          stays_so : (t : Transaction) → live_at start (logs_of start es) tx ≡ Some t → Goes t
          stays_so t is =
              ahead_stays start (logs_of start es) (logs_of start (e ∷ es)) e before between later sends tx fades out
              into t.touched t.phase
              (omega (
                arith,
                lqh_weighs s tx (length t.touched) e.step.taken.to e.step.taken.body,
                ap
                    (in_sends (weight tx (length t.touched))) sent,
              )) (λ front u back split. leads u.key (length front))

      facts : IsHome tx (tc_of g)
      facts = all_home start tx h (logs_of start es h)

      next_now : TxStep tx g e.step.taken (row g e.step.taken) → IsCarried start (logs_of start (e ∷ es)) later tx
      next_now (rows step) = rows_now step
      next_now (aside same silent missed) = by (cases_eq h at_home)
        where
          by : (h ≡ at_home) ⊎ (h ≢ at_home) → IsCarried start (logs_of start (e ∷ es)) later tx
          by (inr differs) =
              quiet_now silent (live_far differs)
              (λ t there key i. missed_cover missed
              (λ off k p. away_cover tx k p e.step.taken.to e.step.taken.body off (far_test differs)) key i)
          by (inl own) =
              quiet_now silent (live_leaves start es e come tx same)
              (λ t there key i. missed_cover missed
              (λ off k p. aside_cover tx k p e.step.taken.to e.step.taken.body off
              (λ next tc. some_none t (of_host tx g) (sym (live_was own) ∙ there) (missed.next next tc))) key i)
      next_now (begins step is silent) =
          let own = own_home start es e come tx step.runs (sym (ap (λ (v : TxId). v.tc) is)) in
          absurd (omega (
            arith,
            subst (λ x. tx.seq < next_number x) (here_was start es e come tx own) c.old,
            ap
                (λ (v : TxId). v.seq) is,
          ))
      next_now (turns t step was own_body sent left) = carried_now leaves.told
          (subst (IsLiveAhead start (logs_of start (e ∷ es)) later tx) (sym (live_now own ∙ left)) leaves.live)
        where
          node_is : tx.tc ≡ (tc_of g).node
          node_is =
              (of_each (λ one u. IsOwn (tc_of g).node (tc_of g).next_seq one) tx (tc_of g).live t facts.own was).home

          own : h ≡ at_home
          own = own_home start es e come tx step.runs node_is

          ahead : IsAhead start (logs_of start es) before tx t.touched t.phase
          ahead = subst (IsLiveAhead start (logs_of start es) before tx) (live_was own ∙ was) c.live

          leaves : TurnLeaves start (logs_of start es) (logs_of start (e ∷ es)) e before between later sends tx fades
              out into (turn_for (tc_of g).node (tc_of g).layout tx e.step.taken.body t)
          leaves = turn_leaves start (logs_of start es) (logs_of start (e ∷ es)) e before between later sends tx fades
              out into (tc_of g).node (tc_of g).layout t (sym node_is) step.at own_body ahead sent

      pub carried_next : IsCarried start (logs_of start (e ∷ es)) later tx
      carried_next = next_now (tx_step tx g e.step.taken facts)
