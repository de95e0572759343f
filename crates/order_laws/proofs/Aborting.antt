-- Along every run: of who is given up and hasn't let go of a key at a place of its chain an abort is on its way there,
-- or still to be sent, or its own request waits there or has come further.
use Rattle.std.proofs.Common.{◌≡◌, ◌⊎◌, ◌≤◌, ◌<◌, ℕ, zero, suc, Bool, true, false, List, ◌∷◌, drop, length, refl}
use Rattle.std.proofs.Common.{sym}
use Rattle.std.proofs.Common.{ap, ◌∙◌, subst, arith, inl, inr}
use Rattle.std.proofs.lemmas.Bool.{and_parts, eqb-true, false≢true, true≢false}
use Rattle.std.proofs.lemmas.Bool.Decides.{nat_tests}
use Rattle.std.specs.Prelude.{◌==◌, ◌&&◌, if◌then◌else◌, nat_le, Option, None, Some}
use Rattle.run_theory.proofs.Tally.{counted}
use Rattle.run_theory.specs.Counts.{one_if, tally, total}
use Rattle.sig_core.proofs.TxLemmas.{same_tx-is}
use Rattle.sig_core.specs.declared.member.Member.{Member}
use Rattle.sig_core.specs.declared.member.TxId.{TxId}
use Rattle.sig_core.specs.declared.outs.Outgoing.{Outgoing}
use Rattle.sig_core.specs.declared.place.BlockId.TheVariants as block
use Rattle.sig_core.specs.declared.place.Place.{Place}
use Rattle.sig_core.specs.declared.signal.Body.{Body}
use Rattle.sig_core.specs.declared.signal.Body.TheVariants.{Chain, Host}
use Rattle.sig_core.specs.declared.signal.chain.ChainSignal.TheVariants.{Abort, LqhKeyConf, LqhKeyRef, LqhKeyReq}
use Rattle.sig_core.specs.declared.signal.host.HostSignal.TheVariants.{Continue}
use Rattle.sig_core.specs.declared.signal.host.Work.TheVariants as work
use Rattle.sig_core.specs.Chain.{node_at}
use Rattle.sig_core.specs.Place.{coordinator_of}
use Rattle.sig_core.specs.Same.{same_key, same_tx}
use Rattle.sig_core.specs.Step.{Effects, Step}
use Rattle.sig_core.specs.Work.{work_key}
use Rattle.frag_map.specs.Layout.{Layout, first_layout}
use Rattle.row_records.proofs.KeyLemmas as keys
use Rattle.lqh_block.specs.Work.{is_for}
use Rattle.tc_block.proofs.TurnRows.{turn_for}
use Rattle.tc_block.specs.declared.transaction.Transaction.{Transaction}
use Rattle.tc_block.specs.State.{TcState}
use Rattle.tc_block.specs.Tc.{tc_row}
use Rattle.tc_block.specs.Turn.{Turn}
use Rattle.node_core.proofs.HostCases.{BlockCase, IsTcStep, api_takes, block_case, dih_takes, none_takes, rows_take}
use Rattle.node_core.proofs.HostCases.{tc_takes}
use Rattle.node_core.specs.Blocks.{lqh_of, tc_of}
use Rattle.node_core.specs.declared.host.Host as host
use Rattle.node_core.specs.Row.{row}
use Rattle.world_core.specs.Hosts.{home, host_for, first_hosts}
use Rattle.world_core.specs.Machine.{after, signals_of, step_after}
use Rattle.world_core.specs.Start.{Start}
use Rattle.world_core.specs.Steps.{Addressed, HostStep}
use Rattle.key_laws.specs.Replica.{rests}
use Rattle.host_laws.proofs.hosts.BlocksAlong.{tc_layout}
use Rattle.run_laws.proofs.tokens.Signals.{is_rows}
use Rattle.host_laws.proofs.rows.Operations.{is_lqh}
use Rattle.host_laws.proofs.coordinator.Lives.{IsOwn}
use Rattle.host_laws.proofs.coordinator.Steps.{left_of_turn}
use Rattle.host_laws.proofs.api.Wishes.{is_tc}
use Rattle.host_laws.specs.Live.{of_live}
use Rattle.host_laws.specs.ReplicaLaws.{event_in}
use Rattle.host_laws.specs.Ways.{tc_sends}
use Rattle.run_laws.specs.GivenUp.{is_given_up}
use Rattle.run_laws.specs.Live.{live_at, of_host}
use Rattle.run_laws.specs.Routes.{replica_host, replicas}
use Rattle.run_laws.specs.Transit.{AreInTransit, Comes, IsRun, Takes, joined, logs_of}
use Rattle.run_laws.proofs.hosts.HomeSteps.{IsHome, all_home, here_now, here_was, own_home}
use Rattle.run_laws.proofs.hosts.LiveOf.{of_each}
use Rattle.run_laws.proofs.circle.RowsEvents.{event_missed, event_off}
use Rattle.run_laws.proofs.hosts.TcSaid.{idle_silent, tc_silent, tc_speaks}
use Rattle.run_laws.proofs.transit.Transit.{along_transit}
use Rattle.run_laws.proofs.hosts.TxSteps.{next_number, none_of, runs_rows}
use Rattle.run_laws.proofs.hosts.TxTurns as turn
use Rattle.run_laws.proofs.hosts.TxTurns.{TcTurn, is_for as is_for_tx, tc_turn}
use Rattle.run_laws.proofs.transit.Weighing.{in_sends, in_transit}
use Rattle.order_laws.specs.Aborting.{GivenUpHoldersWait, WaitsFrom}
use Rattle.order_laws.specs.Awaited.{IsAwaited, list_length}
use Rattle.order_laws.specs.Standing.{is_away}
use Rattle.order_laws.specs.Unanswered.{is_part_on}
use Rattle.order_laws.proofs.AbortingSteps as steps
use Rattle.order_laws.proofs.AbortingSteps.{aside_goes, balance, fewer, further, into, list_at, out, part_asked}
use Rattle.order_laws.proofs.AbortingSteps.{rows_goes, short, stood, tally_is, waits_as}
use Rattle.order_laws.proofs.AbortingTurns as back
use Rattle.order_laws.proofs.AbortingTurns.{Aborts, is_abort_to, place_there, turn_aborts}
use Rattle.order_laws.proofs.Awaited as awaited
use Rattle.order_laws.proofs.Awaited.{all_is_awaited}
use Rattle.order_laws.proofs.Further.{further_part, is_from, is_further}
use Rattle.order_laws.proofs.GivenUp.{aborting_given, beside_unbacked, given_aborting, given_quiet, given_same}
use Rattle.order_laws.proofs.GivenUp.{others_unbacked}
use Rattle.order_laws.proofs.Leads.{any_sent}
use Rattle.order_laws.proofs.Standing.{standers_known, who_is_away_is_out}
use Rattle.order_laws.proofs.Still.{IsZero, coordinator_low, home_for, home_low, none_weigh, replica_low}
use Rattle.order_laws.proofs.UnansweredTurns.{AreUnbacked, is_backing}

module _ (start : Start) (tx : TxId) (key : List ℕ) (at : ℕ) (inside : at < length (replicas start key)) where
  abbrev wanted : List Outgoing → Place → Body → ℕ
  wanted list to body = steps.wanted start tx key at inside list to body

  abbrev IsEnding : (ℕ → List HostStep) → List Addressed → Option Transaction → Type 0
  IsEnding logs xs o = steps.IsEnding start tx key at inside logs xs o

  abbrev Stands : (ℕ → List HostStep) → Type 0
  Stands logs = steps.Stands start tx key at inside logs

  abbrev Holds : List HostStep → List Addressed → Type 0
  Holds es xs = steps.Holds start tx key at inside es xs

  module _ (es : List HostStep) (e : HostStep) (come : Comes start es e) (before between : List Addressed)
      (transit : AreInTransit start es before) (takes : Takes e before between) (was : Holds es before) where
    abbrev g : host.Host
    g = after start e.host (logs_of start es e.host)

    abbrev next : Step host.Host
    next = row g e.step.taken

    abbrev sends : List Outgoing
    sends = (step_after start e.host (logs_of start es e.host) e).effects.sends

    abbrev later : List Addressed
    later = joined (signals_of start e.host (logs_of start es e.host) e) between

    abbrev Now : Option Transaction → Type 0
    Now o = IsEnding (logs_of start (e ∷ es)) later o

    facts : IsHome tx (tc_of g)
    facts = all_home start tx e.host (logs_of start es e.host)

    -- a turn of the transaction
    module _ (number : ℕ) (home_is : number ≡ tx.tc) (u : Transaction)
        (live_was : live_at start (logs_of start es) tx ≡ Some u) (own_body : is_for_tx tx e.step.taken.body ≡ true)
        (rows : lqh_of next.state ≡ lqh_of g) where
      abbrev layout : Layout
      layout = first_layout start.shape

      off_part : is_part_on tx key e.step.taken.body ≡ false → one_if (is_further tx key at e.step.taken.body) ≡ 0
      off_part off = by (is_further tx key at e.step.taken.body) refl
        where
          by : (b : Bool) → is_further tx key at e.step.taken.body ≡ b → one_if b ≡ 0
          by false is = refl
          by true is = absurd (true≢false (sym (further_part tx key at e.step.taken.body is) ∙ off))

      -- what has come further stays so where no part of its operation comes
      further_on : is_part_on tx key e.step.taken.body ≡ false
          → 1 ≤ further start tx key at inside (logs_of start es) before → (o : Option Transaction) → Now o
      further_on off some o =
          inr (omega (
            arith,
            some,
            off_part off,
            balance start tx key at inside es e come before between transit takes,
            waits_as start tx key at inside es e come before between transit takes rows,
          ))

      -- what it leaves
      turned : (turn : Turn) → sends ≡ turn.step.effects.sends
          → (AreUnbacked tx sends
          → is_given_up start (logs_of start (e ∷ es)) tx ≡ is_given_up start (logs_of start es) tx)
          → is_given_up start (logs_of start (e ∷ es)) tx ≡ true → Stands (logs_of start es)
          → Aborts number layout tx key (node_at (replicas start key) at) home_is
          (place_there (replicas start key) at inside) u e.step.taken.to e.step.taken.body turn
          → Now (left_of_turn turn)
      turned turn sent same given stands (back.unbacked off none) =
          absurd (true≢false (sym (given_aborting start es tx u live_was
          (sym (same (subst (AreUnbacked tx) (sym sent) none)) ∙ given)) ∙ off))
      turned turn sent same given stands (back.begins off over some still) =
          subst (λ b. Now (if b then None else Some turn.step.state)) (sym over)
          (inl (omega (
            arith,
            some,
            into start tx key at inside es e come before between transit takes
                (list_at start tx (Some turn.step.state)),
            ap (in_sends (wanted (list_at start tx (Some turn.step.state)))) sent,
          )))
      turned turn sent same given stands (back.late on over some still) =
          subst (λ b. Now (if b then None else Some turn.step.state)) (sym over)
          (inl (omega (
            arith,
            some,
            into start tx key at inside es e come before between transit takes
                (list_at start tx (Some turn.step.state)),
            ap (in_sends (wanted (list_at start tx (Some turn.step.state)))) sent,
          )))
      turned turn sent same given stands (back.keeps on over alike less off still) =
          subst (λ b. Now (if b then None else Some turn.step.state)) (sym over)
          (by (subst (IsEnding (logs_of start es) before) live_was
          (was (aborting_given start es tx u live_was on) stands)))
        where
          by : IsEnding (logs_of start es) before (Some u) → Now (Some turn.step.state)
          by (inl some) =
              subst (λ list. (1 ≤ in_transit (wanted list) later)
              ⊎ (1 ≤ further start tx key at inside (logs_of start (e ∷ es)) later)) (sym alike)
              (inl (omega (
                arith,
                some,
                less,
                out start tx key at inside es e come before between transit takes (list_at start tx (Some u)),
                into start tx key at inside es e come before between transit takes (list_at start tx (Some u)),
                ap (in_sends (wanted (list_at start tx (Some u)))) sent,
              )))
          by (inr some) = further_on off some (Some turn.step.state)
      turned turn sent same given stands (back.ends on over last none off still) =
          subst (λ b. Now (if b then None else Some turn.step.state)) (sym over)
          (by (subst (IsEnding (logs_of start es) before) live_was
          (was (aborting_given start es tx u live_was on) stands)))
        where
          by : IsEnding (logs_of start es) before (Some u) → Now None
          by (inl some) =
              absurd (omega (
                arith,
                some,
                none,
                out start tx key at inside es e come before between transit takes (list_at start tx (Some u)),
                last,
                subst (IsAwaited layout tx before) live_was (all_is_awaited start es before tx come.before transit),
                awaited.out tx start es e come before between takes (list_length layout u.phase u.touched),
                fewer start tx key at inside (list_at start tx (Some u)) (list_length layout u.phase u.touched) between,
              ))
          by (inr some) = further_on off some None

      pub turn_goes : sends ≡ (turn_for number layout tx e.step.taken.body u).step.effects.sends
          → (AreUnbacked tx sends
          → is_given_up start (logs_of start (e ∷ es)) tx ≡ is_given_up start (logs_of start es) tx)
          → is_given_up start (logs_of start (e ∷ es)) tx ≡ true → Stands (logs_of start es)
          → Now (left_of_turn (turn_for number layout tx e.step.taken.body u))
      turn_goes sent same given stands =
          turned (turn_for number layout tx e.step.taken.body u) sent same given stands
          (turn_aborts number layout tx key (node_at (replicas start key) at) home_is
          (place_there (replicas start key) at inside) u e.step.taken.to e.step.taken.body own_body
          (λ off. (standers_known tx key start (replica_host start key at) es come.before stands).touched u live_was)
          (part_asked start tx key at inside es e come before between transit takes u live_was)
          (short start tx key at inside es u live_was))

    goes : Holds (e ∷ es) later
    goes = by (block_case g e.step.taken)
      where
        live_of : {a b : TcState} → a ≡ b → of_live tx a.live ≡ of_live tx b.live
        live_of alike = ap (λ (c : TcState). of_live tx c.live) alike

        takes_turn : IsTcStep g e.step.taken next → Holds (e ∷ es) later
        takes_turn step =
            which
            (tc_turn (λ (o : Outgoing). is_backing tx o.body ≡ false) tx (tc_of g) (beside_unbacked tx (tc_of g))
            facts.own facts.once e.step.taken.body (others_unbacked tx (tc_of g) e.step.taken.body))
          where
            live_is : of_host tx next.state ≡ of_live tx (tc_row (tc_of g) e.step.taken).state.live
            live_is = live_of step.state

            said_is : tc_sends g e.step.taken ≡ (tc_row (tc_of g) e.step.taken).effects.sends
            said_is = tc_speaks g e.step.taken step.runs step.at

            no_event : event_in key g e.step.taken ≡ rests
            no_event = event_off key g e.step.taken (ap is_rows step.at)

            same_by : AreUnbacked tx (tc_row (tc_of g) e.step.taken).effects.sends
                → is_given_up start (logs_of start (e ∷ es)) tx ≡ is_given_up start (logs_of start es) tx
            same_by none = given_same start es e come tx (subst (AreUnbacked tx) (sym said_is) none)

            which : TcTurn (λ (o : Outgoing). is_backing tx o.body ≡ false) tx (tc_of g) e.step.taken.body
                (tc_row (tc_of g) e.step.taken) → Holds (e ∷ es) later
            which (turn.idle alike none deaf) =
                aside_goes start tx key at inside es e come before between transit takes was
                (λ is. absurd (false≢true (sym (ap is_lqh step.at) ∙ is))) (λ tc its. deaf its)
                (live_is ∙ alike) step.rows no_event (same_by none)
            which (turn.begins is left none other) = λ given stands.
                absurd (omega (
                  arith,
                  subst (λ x. tx.seq < next_number x)
                      (here_was start es e come tx
                      (own_home start es e come tx step.runs (sym (ap (λ (v : TxId). v.tc) is))))
                      (standers_known tx key start (replica_host start key at) es come.before
                      (stood start tx key at inside es e come before between transit takes no_event stands)).old,
                  ap (λ (v : TxId). v.seq) is,
                ))
            which (turn.turns u there own_body sent left) = λ given stands.
                subst Now
                (sym (ap (of_host tx) (here_now start es e come tx here) ∙ live_is ∙ left
                ∙ ap (λ l. left_of_turn (turn_for (tc_of g).node l tx e.step.taken.body u)) same_layout))
                (turn_goes (tc_of g).node (sym number) u
                (ap (of_host tx) (here_was start es e come tx here) ∙ there) own_body step.rows
                (ap (λ (f : Effects). f.sends) step.effects ∙ sent
                ∙ ap (λ l. (turn_for (tc_of g).node l tx e.step.taken.body u).step.effects.sends) same_layout)
                (λ none. same_by (subst (AreUnbacked tx) (ap (λ (f : Effects). f.sends) step.effects) none)) given
                (stood start tx key at inside es e come before between transit takes no_event stands))
              where
                number : tx.tc ≡ (tc_of g).node
                number =
                    (of_each (λ one t. IsOwn (tc_of g).node (tc_of g).next_seq one) tx (tc_of g).live u facts.own
                    there).home

                here : e.host ≡ home start tx
                here = own_home start es e come tx step.runs number

                same_layout : (tc_of g).layout ≡ first_layout start.shape
                same_layout = tc_layout start e.host (logs_of start es e.host) step.runs

        by : BlockCase g e.step.taken next → Holds (e ∷ es) later
        by (api_takes step) =
            aside_goes start tx key at inside es e come before between transit takes was
            (λ is. absurd (false≢true (sym (ap is_lqh step.at) ∙ is)))
            (λ is its. absurd (false≢true (sym (ap is_tc step.at) ∙ is))) (live_of step.tc) step.rows
            (event_off key g e.step.taken (ap is_rows step.at))
            (given_quiet start es e come tx
            (tc_silent g e.step.taken (λ at. let both : block.Api ≡ block.Tc = sym step.at ∙ at in cc)))
        by (tc_takes step) = takes_turn step
        by (dih_takes step) =
            aside_goes start tx key at inside es e come before between transit takes was
            (λ is. absurd (false≢true (sym (ap is_lqh step.at) ∙ is)))
            (λ is its. absurd (false≢true (sym (ap is_tc step.at) ∙ is))) (live_of step.tc) step.rows
            (event_off key g e.step.taken (ap is_rows step.at))
            (given_quiet start es e come tx
            (tc_silent g e.step.taken (λ at. let both : block.Dih ≡ block.Tc = sym step.at ∙ at in cc)))
        by (rows_take step) = rows_goes start tx key at inside es e come before between transit takes was step
        by (none_takes step) =
            aside_goes start tx key at inside es e come before between transit takes was
            (λ is. sym (runs_rows g e.step.taken.to.block is) ∙ step.runs)
            (λ is its. none_of tx g e.step.taken.to.block is step.runs)
            (live_of (ap (λ (v : Step host.Host). tc_of v.state) step.is))
            (ap (λ (v : Step host.Host). lqh_of v.state) step.is) (event_missed key g e.step.taken step.runs)
            (given_quiet start es e come tx (idle_silent g e.step.taken step.runs))

  pub ending_along : (es : List HostStep) (xs : List Addressed) → IsRun start es → AreInTransit start es xs
      → Holds es xs
  ending_along =
      along_transit start Holds (λ given stands. absurd (true≢false stands))
      (λ es e before between come transit was takes. goes es e come before between transit takes was)

-- a host where items are counted
record CountedAt (n : ℕ) (f : ℕ → ℕ) : Type 0 where
  at : ℕ
  some : 1 ≤ f at

some_counted : (n : ℕ) (f : ℕ → ℕ) → 1 ≤ total n f → CountedAt n f
some_counted zero f some = absurd (omega (arith, some))
some_counted (suc n) f some = by (f n) refl (some_counted n f)
  where
    by : (m : ℕ) → f n ≡ m → (1 ≤ total n f → CountedAt n f) → CountedAt (suc n) f
    by (suc m) is more = record { at = n; some = omega (arith, is) }
    by zero is more = let rest = more (omega (arith, some, is)) in record { at = rest.at; some = rest.some }

pub given_up_holders_wait : GivenUpHoldersWait
given_up_holders_wait start es xs key at tx run still inside given holding =
    by (ending_along start tx key at inside es xs run still.transit given stands)
  where
    hp : ℕ
    hp = replica_host start key at

    stands : is_away start key tx hp (logs_of start es hp) ≡ false
    stands = which (is_away start key tx hp (logs_of start es hp)) refl
      where
        which : (b : Bool) → is_away start key tx hp (logs_of start es hp) ≡ b → b ≡ false
        which false is = refl
        which true is =
            absurd (true≢false (sym holding ∙ (who_is_away_is_out start es key at tx run inside is).unheld))

    low : home start tx < first_hosts start
    low = home_low start es tx run (inl given)

    none_wanted : (list : List Outgoing) → in_transit (wanted start tx key at inside list) xs ≡ 0
    none_wanted list = none_weigh start es xs run still (wanted start tx key at inside list) at_place
      where
        by_home : (other : TxId) (place : ℕ) (to : Place) → first_hosts start ≤ host_for start to → (b : Bool)
            → (is_tc to.block && (to.node == tx.tc)) ≡ b
            → one_if (b && (same_tx other tx
            && any_sent (is_abort_to tx key (node_at (replicas start key) at)) (drop place list))) ≡ 0
        by_home other place to high false is = refl
        by_home other place to high true is = absurd (omega (arith, high, home_for start tx low to is))

        by_node : (to : Place) (c : Bool) → first_hosts start ≤ host_for start to → (a b : Bool)
            → (to.node == node_at (replicas start key) at) ≡ b → one_if ((a && b) && c) ≡ 0
        by_node to c high true true is =
            absurd (omega (
              arith,
              high,
              replica_low start es xs run still key at inside to
                  (eqb-true to.node (node_at (replicas start key) at) is),
            ))
        by_node to c high true false is = refl
        by_node to c high false b is = refl

        at_place : IsZero start es xs run still (wanted start tx key at inside list)
        at_place to (Chain (Abort other own)) routed home high =
            by_node to (same_tx other tx && same_key own key) high (is_lqh to.block)
            (to.node == node_at (replicas start key) at) refl
        at_place to (Host (Continue (work.Transaction other) place)) routed home high =
            by_home other place to high (is_tc to.block && (to.node == tx.tc)) refl
        at_place to _ routed home high = refl

    none_further_on : tally (λ (x : Addressed). is_further tx key at x.signal.body) xs ≡ 0
    none_further_on =
        tally_is start tx key at inside xs
        ∙ none_weigh start es xs run still (λ to body. one_if (is_further tx key at body)) at_place
      where
        answer : (v : TxId) (own : List ℕ) (to : Place) → first_hosts start ≤ host_for start to → to ≡ coordinator_of v
            → (b : Bool) → same_tx v tx ≡ b → one_if (b && same_key own key) ≡ 0
        answer v own to high is true same =
            absurd (omega (
              arith,
              high,
              coordinator_low start tx low to (is ∙ ap coordinator_of (same_tx-is v tx same)),
            ))
        answer v own to high is false same = refl

        at_place : IsZero start es xs run still (λ to body. one_if (is_further tx key at body))
        at_place to (Chain (LqhKeyReq v work chain place)) routed home high =
            absurd (omega (
              arith,
              high,
              replica_low start es xs run still (work_key work) place
                  (subst (λ (c : List Member). place < length c) routed.chain routed.sent.inside) to
                  (routed.sent.node_is ∙ ap (λ c. node_at c place) routed.chain),
            ))
        at_place to (Chain (LqhKeyConf v own a)) routed home high = answer v own to high home (same_tx v tx) refl
        at_place to (Chain (LqhKeyRef v own why)) routed home high = answer v own to high home (same_tx v tx) refl
        at_place to _ routed home high = refl

    by : IsEnding start tx key at inside (logs_of start es) xs (live_at start (logs_of start es) tx)
        → WaitsFrom start (logs_of start es) tx key at
    by (inl some) =
        absurd (omega (arith, some, none_wanted (list_at start tx (live_at start (logs_of start es) tx))))
    by (inr some) =
        waits (some_counted (first_hosts start)
        (λ k. tally (is_from tx key at) (lqh_of (after start k (logs_of start es k))).waiting)
        (omega (arith, some, none_further_on)))
      where
        waits : CountedAt (first_hosts start)
            (λ k. tally (is_from tx key at) (lqh_of (after start k (logs_of start es k))).waiting)
            → WaitsFrom start (logs_of start es) tx key at
        waits c =
            let w = counted (is_from tx key at) (lqh_of (after start c.at (logs_of start es c.at))).waiting c.some in
            let parts = and_parts (is_for tx key w.item) (nat_le at w.item.at) w.passes in
            let both = and_parts (same_tx w.item.tx tx) (same_key (work_key w.item.work) key) parts.0 in
            record {
              host = c.at;
              request = w.item;
              inside = w.inside;
              own = same_tx-is w.item.tx tx both.0;
              on = keys.same (work_key w.item.work) key both.1;
              from = grind (arith, nat_tests, parts.1);
            }
