-- Where nothing is under way no coordinator waits for rows of a transaction to be completed: along every run as much as
-- it awaits is on its way.
use Rattle.std.proofs.Common.{◌≡◌, ◌≢◌, ◌⊎◌, ◌≤◌, ◌<◌, ◌+◌, ℕ, suc, Bool, true, false, List, ◌∷◌, [], drop, length}
use Rattle.std.proofs.Common.{refl, sym, ap}
use Rattle.std.proofs.Common.{◌∙◌, subst, arith, inl, inr}
use Rattle.std.proofs.lemmas.Bool.{and_parts, cases_eq, eqb-true, false≢true}
use Rattle.std.specs.Prelude.{◌==◌, ◌&&◌, if◌then◌else◌, Option, None, Some}
use Rattle.run_theory.proofs.Merging.{logs_merged}
use Rattle.run_theory.specs.Counts.{one_if}
use Rattle.run_theory.specs.Orders.{merged}
use Rattle.sig_core.specs.declared.member.Member.{Member}
use Rattle.sig_core.specs.declared.member.TxId.{TxId}
use Rattle.sig_core.specs.declared.outs.Outgoing.{Outgoing}
use Rattle.sig_core.specs.declared.place.BlockId.{BlockId}
use Rattle.sig_core.specs.declared.place.BlockId.TheVariants as block
use Rattle.sig_core.specs.declared.place.Place.{Place}
use Rattle.sig_core.specs.declared.signal.Body.{Body}
use Rattle.sig_core.specs.declared.signal.Body.TheVariants.{Chain, Host}
use Rattle.sig_core.specs.declared.signal.chain.ChainSignal.TheVariants.{Complete, Completed}
use Rattle.sig_core.specs.declared.signal.host.HostSignal.TheVariants.{Continue}
use Rattle.sig_core.specs.declared.signal.host.Work.TheVariants as work
use Rattle.sig_core.specs.declared.signal.Signal.{Signal}
use Rattle.sig_core.specs.Chain.{node_at}
use Rattle.sig_core.specs.Same.{same_tx}
use Rattle.sig_core.specs.Step.{Effects, Step}
use Rattle.frag_map.specs.Layout.{Layout, first_layout}
use Rattle.tc_block.proofs.TurnRows.{turn_for}
use Rattle.tc_block.specs.Complete.{written_count}
use Rattle.tc_block.specs.declared.phase.Phase.{Phase}
use Rattle.tc_block.specs.declared.phase.Phase.TheVariants.{Open, Verifying, Committing, Completing, Aborting}
use Rattle.tc_block.specs.declared.sends.TheConstants.{SENDS}
use Rattle.tc_block.specs.declared.transaction.Transaction.{Transaction}
use Rattle.tc_block.specs.Operate.{fresh}
use Rattle.tc_block.specs.Phases.{is_completing}
use Rattle.tc_block.specs.Sends.{phase_sends}
use Rattle.tc_block.specs.State.{TcState}
use Rattle.tc_block.specs.Tc.{next_tx, tc_row}
use Rattle.tc_block.specs.Turn.{Turn}
use Rattle.node_core.proofs.HostCases.{BlockCase, IsRowsStep, IsTcStep, api_takes, block_case, dih_takes, none_takes}
use Rattle.node_core.proofs.HostCases.{rows_take, tc_takes}
use Rattle.node_core.specs.Blocks.{has_lqh, lqh_of, tc_of}
use Rattle.node_core.specs.declared.host.Host as host
use Rattle.node_core.specs.Requests.{is_request}
use Rattle.node_core.specs.Row.{row}
use Rattle.world_core.specs.Hosts.{home, host_for, first_hosts, tc_host}
use Rattle.world_core.specs.Machine.{after, machine, signals_of, step_after}
use Rattle.world_core.specs.Start.{Start}
use Rattle.world_core.specs.Steps.{Addressed, HostStep}
use Rattle.host_laws.proofs.hosts.BlocksAlong.{first_live, tc_layout}
use Rattle.host_laws.proofs.rows.Operations.{is_lqh}
use Rattle.host_laws.proofs.coordinator.Lives.{IsOwn}
use Rattle.host_laws.proofs.coordinator.Steps.{left_of_turn}
use Rattle.host_laws.proofs.api.Wishes.{is_tc}
use Rattle.host_laws.specs.Live.{of_live}
use Rattle.run_laws.specs.Live.{live_at, of_host}
use Rattle.run_laws.specs.Routes.{IsCompletionRouted, IsForBlock, IsRouted}
use Rattle.run_laws.specs.Transit.{AreInTransit, Comes, IsRun, Takes, joined, logs_of}
use Rattle.run_laws.proofs.routes.Addressed.{rows_addressed, tc_addressed}
use Rattle.run_laws.proofs.hosts.AlongSteps.{at_home, live_tx}
use Rattle.run_laws.proofs.hosts.Always.{few_touched}
use Rattle.run_laws.proofs.hosts.HomeSteps.{IsHome, all_home, away, here_now, here_was, own_home}
use Rattle.run_laws.proofs.hosts.LiveOf.{of_each}
use Rattle.run_laws.proofs.routes.Events.{coming_are_routed, placed, placed_runs}
use Rattle.run_laws.proofs.transit.Transit.{along_transit}
use Rattle.run_laws.proofs.hosts.TxSteps.{none_of, runs_rows}
use Rattle.run_laws.proofs.hosts.TxTurns as turn
use Rattle.run_laws.proofs.hosts.TxTurns.{TcTurn, is_for, tc_turn}
use Rattle.run_laws.proofs.transit.Weighing.{in_sends, in_transit, joins_weigh, takes_weigh}
use Rattle.run_laws.proofs.hosts.Keyed.{any_sends}
use Rattle.answer_laws.specs.Answered.{AreQuiet, IsLiveAs}
use Rattle.order_laws.proofs.Leads.{tc_block_is}
use Rattle.order_laws.specs.Awaited.{awaited_in, list_length}
use Rattle.order_laws.proofs.AwaitedSends.{phase_long}
use Rattle.order_laws.proofs.CompletingTurns.{written_few}
use Rattle.order_laws.proofs.Still.{IsZero, home_for, none_weigh, replica_low, still_at_quiet}
use Rattle.order_laws.specs.Still.{IsStill}
use Rattle.command_laws.proofs.quiet.NoAbortWaits.{quiet_runs}
use Rattle.peace_laws.proofs.plain.Completions.{completions, is_home, rows_stand, stands}
use Rattle.peace_laws.proofs.plain.CompletionTurns.{Completes, begins, elsewhere, ends, goes, turn_completes}

-- What a step does to one transaction: nothing, where its signal isn't for it; a step of rows; it begins, or takes a
-- turn.
data Moves (tx : TxId) (s : host.Host) (x : Signal) (t : Step host.Host) : Type 0 where
  aside : of_host tx t.state ≡ of_host tx s → (is_lqh x.to.block ≡ true → has_lqh s ≡ false)
      → (is_for tx x.body ≡ true → is_tc x.to.block ≡ true → of_host tx s ≡ None) → Moves tx s x t
  rows : IsRowsStep s x t → Moves tx s x t
  starts : IsTcStep s x t → next_tx (tc_of s) ≡ tx → of_host tx t.state ≡ Some fresh → Moves tx s x t
  turns : (u : Transaction) → IsTcStep s x t → of_host tx s ≡ Some u → is_for tx x.body ≡ true
      → t.effects.sends ≡ (turn_for (tc_of s).node (tc_of s).layout tx x.body u).step.effects.sends
      → of_host tx t.state ≡ left_of_turn (turn_for (tc_of s).node (tc_of s).layout tx x.body u) → Moves tx s x t

module _ (tx : TxId) (s : host.Host) (x : Signal) (home : IsHome tx (tc_of s)) where
  abbrev Any : Outgoing → Type 0
  Any o = Unit {0}

  -- the signal is for another block
  elsewhere_at : (b : BlockId) → x.to.block ≡ b → is_lqh b ≡ false → is_tc b ≡ false → (t : Step host.Host)
      → tc_of t.state ≡ tc_of s → Moves tx s x t
  elsewhere_at b at apart off t kept =
      aside (ap (λ (c : TcState). of_live tx c.live) kept)
      (λ is. absurd (false≢true (sym (ap is_lqh at ∙ apart) ∙ is)))
      (λ own is. absurd (false≢true (sym (ap is_tc at ∙ off) ∙ is)))

  takes_turn : (t : Step host.Host) → IsTcStep s x t → Moves tx s x t
  takes_turn t step =
      by (tc_turn Any tx (tc_of s)
      (record { full = λ name. (tt, tt); begins = λ name. (tt, tt); passes = λ one ahead. (tt, tt) }) home.own home.once
      x.body (λ one off its t. any_sends (turn_for (tc_of s).node (tc_of s).layout one x.body t).step.effects.sends))
    where
      live_is : of_host tx t.state ≡ of_live tx (tc_row (tc_of s) x).state.live
      live_is = ap (λ (c : TcState). of_live tx c.live) step.state

      by : TcTurn Any tx (tc_of s) x.body (tc_row (tc_of s) x) → Moves tx s x t
      by (turn.idle same off deaf) =
          aside (live_is ∙ same) (λ is. absurd (false≢true (sym (ap is_lqh step.at) ∙ is))) (λ own is. deaf own)
      by (turn.begins is left off none) = starts step is (live_is ∙ left)
      by (turn.turns u was same sent left) =
          turns u step was same (ap (λ (f : Effects). f.sends) step.effects ∙ sent) (live_is ∙ left)

  moves : Moves tx s x (row s x)
  moves = by (row s x) (block_case s x)
    where
      by : (t : Step host.Host) → BlockCase s x t → Moves tx s x t
      by t (api_takes step) = elsewhere_at block.Api step.at refl refl t step.tc
      by t (tc_takes step) = takes_turn t step
      by t (dih_takes step) = elsewhere_at block.Dih step.at refl refl t step.tc
      by t (rows_take step) = rows step
      by t (none_takes step) =
          aside (ap (λ (u : Step host.Host). of_host tx u.state) step.is)
          (λ is. sym (runs_rows s x.to.block is) ∙ step.runs) (λ own is. none_of tx s x.to.block is step.runs)

module _ (start : Start) (tx : TxId) where
  abbrev layout : Layout
  layout = first_layout start.shape

  abbrev list_at : Transaction → List Outgoing
  list_at t = phase_sends (first_layout start.shape) tx t.phase t.touched

  -- of one that completes something is awaited, and as much is on its way
  record IsOnWay (xs : List Addressed) (t : Transaction) : Type 0 where
    some : 1 ≤ awaited_in t.phase
    way : awaited_in t.phase ≤ in_transit (stands tx (list_at t)) xs

  abbrev Claim : List Addressed → Option Transaction → Type 0
  Claim xs None = Unit {0}
  Claim xs (Some t) = is_completing t.phase ≡ true → IsOnWay xs t

  abbrev Holds : List HostStep → List Addressed → Type 0
  Holds es xs = Claim xs (live_at start (logs_of start es) tx)

  module _ (es : List HostStep) (e : HostStep) (come : Comes start es e) (before between : List Addressed)
      (takes : Takes e before between) (was : Holds es before) where
    abbrev g : host.Host
    g = after start e.host (logs_of start es e.host)

    abbrev sends : List Outgoing
    sends = (step_after start e.host (logs_of start es e.host) e).effects.sends

    abbrev later : List Addressed
    later = joined (signals_of start e.host (logs_of start es e.host) e) between

    abbrev taken : List Outgoing → ℕ
    taken list = stands tx list e.step.taken.to e.step.taken.body

    request_none : (list : List Outgoing) (to : Place) (body : Body) → is_request body ≡ true
        → stands tx list to body ≡ 0
    request_none list to (Chain c) is = absurd (false≢true is)
    request_none list to (Host (Continue (work.Transaction other) at)) is = absurd (false≢true is)
    request_none list to _ is = refl

    out : (list : List Outgoing)
        → in_transit (stands tx list) before ≡ taken list + in_transit (stands tx list) between
    out list =
        takes_weigh (stands tx list) e before between
        (request_none list e.step.taken.to e.step.taken.body) takes

    into : (list : List Outgoing)
        → in_transit (stands tx list) later ≡ in_sends (stands tx list) sends + in_transit (stands tx list) between
    into list = joins_weigh (stands tx list) start e.host (logs_of start es e.host) e between

    same_live : of_host tx (row g e.step.taken).state ≡ of_host tx g
        → live_at start (logs_of start (e ∷ es)) tx ≡ live_at start (logs_of start es) tx
    same_live same = by (cases_eq e.host (home start tx))
      where
        by : (e.host ≡ home start tx) ⊎ (e.host ≢ home start tx)
            → live_at start (logs_of start (e ∷ es)) tx ≡ live_at start (logs_of start es) tx
        by (inl own) =
            ap (of_host tx) (here_now start es e come tx own) ∙ same
            ∙ sym (ap (of_host tx) (here_was start es e come tx own))
        by (inr differs) = ap (of_host tx) (away start es e come tx differs)

    -- where the transaction stays as it is, and as much as came is sent
    stays_so : live_at start (logs_of start (e ∷ es)) tx ≡ live_at start (logs_of start es) tx
        → ((t : Transaction) → live_at start (logs_of start es) tx ≡ Some t
        → taken (list_at t) ≤ in_sends (stands tx (list_at t)) sends)
        → Claim later (live_at start (logs_of start (e ∷ es)) tx)
    stays_so same less = subst (Claim later) (sym same) (by (live_at start (logs_of start es) tx) refl was)
      where
        by : (o : Option Transaction) → live_at start (logs_of start es) tx ≡ o → Claim before o → Claim later o
        by None is k = tt
        by (Some t) is k = λ on.
            let w = k on in
            record { some = w.some; way = omega (arith, w.way, less t is, out (list_at t), into (list_at t)) }

    -- a completion comes to a host that runs its rows
    completion_runs : (other : TxId) (key : List ℕ) (chain : List Member) (at : ℕ)
        → e.step.taken.body ≡ Chain (Complete other key chain at)
        → (e.step.taken.to.block ≡ block.Lqh) × (has_lqh g ≡ true)
    completion_runs other key chain at is =
        let coming = coming_are_routed start es e come in
        let routed : IsCompletionRouted start e.step.taken.to.node key chain at =
        subst (IsRouted start e.step.taken.to.node) is coming.routed in
        let there : e.step.taken.to.block ≡ block.Lqh = subst (IsForBlock e.step.taken.to) is coming.block in (
          there,
          placed_runs start e.host key at (logs_of start es e.host) come.before.shape
              (placed start e.host e.step.taken.to.node key chain at (rows_addressed start es e come there) routed.along
              routed.sent),
        )

    -- a step that leaves the transaction alone takes nothing that stands for something
    aside_none : (is_lqh e.step.taken.to.block ≡ true → has_lqh g ≡ false)
        → (is_for tx e.step.taken.body ≡ true → is_tc e.step.taken.to.block ≡ true → of_host tx g ≡ None)
        → (t : Transaction) → live_at start (logs_of start es) tx ≡ Some t → taken (list_at t) ≡ 0
    aside_none idle deaf t live = by e.step.taken.body refl
      where
        -- it would be there
        gone : is_for tx e.step.taken.body ≡ true → is_home tx e.step.taken.to ≡ true → ⊥
        gone own is = absurd (let found : Some t ≡ None = sym live ∙ none in cc)
          where
            both : (is_tc e.step.taken.to.block ≡ true) × ((e.step.taken.to.node == tx.tc) ≡ true)
            both = and_parts (is_tc e.step.taken.to.block) (e.step.taken.to.node == tx.tc) is

            here : e.host ≡ home start tx
            here =
                tc_addressed start es e come (tc_block_is e.step.taken.to.block both.0)
                ∙ ap (tc_host start) (eqb-true e.step.taken.to.node tx.tc both.1)

            none : live_at start (logs_of start es) tx ≡ None
            none = ap (of_host tx) (here_was start es e come tx here) ∙ deaf own both.0

        completion : (other : TxId) (key : List ℕ) (chain : List Member) (at : ℕ)
            → e.step.taken.body ≡ Chain (Complete other key chain at) → one_if (same_tx other tx) ≡ 0
        completion other key chain at is =
            let runs = completion_runs other key chain at is in
            absurd (false≢true (sym (idle (ap is_lqh runs.0)) ∙ runs.1))

        answer : (other : TxId) (key : List ℕ) → e.step.taken.body ≡ Chain (Completed other key) → (b c : Bool)
            → is_home tx e.step.taken.to ≡ b → same_tx other tx ≡ c → one_if (b && c) ≡ 0
        answer other key is true true p q = absurd (gone (ap (is_for tx) is ∙ q) p)
        answer other key is true false p q = refl
        answer other key is false c p q = refl

        onward : (other : TxId) (at : ℕ) → e.step.taken.body ≡ Host (Continue (work.Transaction other) at)
            → (b c : Bool) → is_home tx e.step.taken.to ≡ b → same_tx other tx ≡ c
            → (if b && c then completions tx (drop at (list_at t)) else 0) ≡ 0
        onward other at is true true p q = absurd (gone (ap (is_for tx) is ∙ q) p)
        onward other at is true false p q = refl
        onward other at is false c p q = refl

        by : (body : Body) → e.step.taken.body ≡ body → stands tx (list_at t) e.step.taken.to body ≡ 0
        by (Chain (Complete other key chain at)) is = completion other key chain at is
        by (Chain (Completed other key)) is =
            answer other key is (is_home tx e.step.taken.to) (same_tx other tx) refl refl
        by (Host (Continue (work.Transaction other) at)) is =
            onward other at is (is_home tx e.step.taken.to) (same_tx other tx) refl refl
        by _ is = refl

    -- a turn of the transaction
    module _ (node : ℕ) (number : node ≡ tx.tc) (u : Transaction)
        (live_was : live_at start (logs_of start es) tx ≡ Some u) (own_body : is_for tx e.step.taken.body ≡ true) where
      short : is_completing u.phase ≡ true → length (list_at u) ≤ SENDS
      short on =
          omega (
            arith,
            phase_long tx layout u.phase u.touched,
            by u.phase on,
            written_few u.touched,
            few_touched start tx (home start tx) (logs_of start es (home start tx)) u live_was,
          )
        where
          by : (phase : Phase) → is_completing phase ≡ true
              → list_length layout phase u.touched ≡ suc (written_count u.touched)
          by (Completing epoch awaited) is = refl
          by Open is = absurd (false≢true is)
          by Verifying is = absurd (false≢true is)
          by (Committing epoch awaited) is = absurd (false≢true is)
          by (Aborting why verifying awaited) is = absurd (false≢true is)

      turned : (turn : Turn) → sends ≡ turn.step.effects.sends → Claim before (Some u)
          → Completes node layout tx number u e.step.taken.to e.step.taken.body turn → Claim later (left_of_turn turn)
      turned turn sent k (ends over) =
          subst (λ b. Claim later (if b then None else Some turn.step.state)) (sym over) tt
      turned turn sent k (elsewhere over off) =
          subst (λ b. Claim later (if b then None else Some turn.step.state)) (sym over)
          (λ on. absurd (false≢true (sym off ∙ on)))
      turned turn sent k (begins over some less) =
          subst (λ b. Claim later (if b then None else Some turn.step.state)) (sym over)
          (λ on. record {
            some = some;
            way = omega (
              arith,
              less,
              into (list_at turn.step.state),
              ap (in_sends (stands tx (list_at turn.step.state))) sent,
            );
          })
      turned turn sent k (goes over on same some less) =
          subst (λ b. Claim later (if b then None else Some turn.step.state)) (sym over)
          (λ is. record {
            some = some (k on).some;
            way = omega (
              arith,
              (k on).way,
              less,
              out (list_at u),
              into (list_at u),
              ap (in_sends (stands tx (list_at u))) sent,
              ap (λ list. in_transit (stands tx list) later) same,
            );
          })

    facts : IsHome tx (tc_of g)
    facts = all_home start tx e.host (logs_of start es e.host)

    next : Holds (e ∷ es) later
    next = by (moves tx g e.step.taken facts)
      where
        by : Moves tx g e.step.taken (row g e.step.taken) → Claim later (live_at start (logs_of start (e ∷ es)) tx)
        by (aside same idle deaf) =
            stays_so (same_live same) (λ t live. omega (arith, aside_none idle deaf t live))
        by (rows step) =
            stays_so (same_live (ap (λ (c : TcState). of_live tx c.live) step.tc))
            (λ t live. omega (
              arith,
              rows_stand tx (list_at t) (lqh_of g) e.step.taken.to e.step.taken.body step.at,
              ap (λ (f : Effects). in_sends (stands tx (list_at t)) f.sends) step.effects,
            ))
        by (starts step is left) =
            subst (Claim later) (sym (ap (of_host tx) (here_now start es e come tx own) ∙ left))
            (λ on. absurd (false≢true on))
          where
            own : e.host ≡ home start tx
            own = own_home start es e come tx step.runs (sym (ap (λ (v : TxId). v.tc) is))
        by (turns u step there own_body sent left) =
            subst (Claim later)
            (sym (ap (of_host tx) (here_now start es e come tx own) ∙ left
            ∙ ap (λ l. left_of_turn (turn_for (tc_of g).node l tx e.step.taken.body u)) same_layout))
            (turned (tc_of g).node (sym number) u live_was own_body
            (turn_for (tc_of g).node layout tx e.step.taken.body u)
            (sent ∙ ap (λ l. (turn_for (tc_of g).node l tx e.step.taken.body u).step.effects.sends) same_layout)
            (subst (Claim before) live_was was)
            (turn_completes (tc_of g).node layout tx (sym number) u e.step.taken.to e.step.taken.body own_body
            (short (tc_of g).node (sym number) u live_was own_body)))
          where
            number : tx.tc ≡ (tc_of g).node
            number =
                (of_each (λ one t. IsOwn (tc_of g).node (tc_of g).next_seq one) tx (tc_of g).live u facts.own
                there).home

            own : e.host ≡ home start tx
            own = own_home start es e come tx step.runs number

            same_layout : (tc_of g).layout ≡ first_layout start.shape
            same_layout = tc_layout start e.host (logs_of start es e.host) step.runs

            live_was : live_at start (logs_of start es) tx ≡ Some u
            live_was = ap (of_host tx) (here_was start es e come tx own) ∙ there

  completions_come : (es : List HostStep) (xs : List Addressed) → IsRun start es → AreInTransit start es xs
      → Holds es xs
  completions_come =
      along_transit start Holds (subst (Claim []) (sym (ap (of_live tx) (first_live start (home start tx)))) tt)
      (λ es e before between come transit was takes. next es e come before between takes was)

  -- where nothing is under way
  none_stands : (es : List HostStep) (xs : List Addressed) (run : IsRun start es) (still : IsStill start es xs)
      → home start tx < first_hosts start → (list : List Outgoing) → in_transit (stands tx list) xs ≡ 0
  none_stands es xs run still low list = none_weigh start es xs run still (stands tx list) at_place
    where
      at_home_none : (to : Place) (n : ℕ) → first_hosts start ≤ host_for start to → (b c : Bool) → is_home tx to ≡ b
          → (if b && c then n else 0) ≡ 0
      at_home_none to n high true c is = absurd (omega (arith, high, home_for start tx low to is))
      at_home_none to n high false c is = refl

      one_none : (to : Place) → first_hosts start ≤ host_for start to → (b c : Bool) → is_home tx to ≡ b
          → one_if (b && c) ≡ 0
      one_none to high true c is = absurd (omega (arith, high, home_for start tx low to is))
      one_none to high false c is = refl

      at_place : IsZero start es xs run still (stands tx list)
      at_place to (Chain (Complete other key chain at)) routed here high =
          absurd (omega (
            arith,
            high,
            replica_low start es xs run still key at
                (subst (λ (c : List Member). at < length c) routed.along routed.sent.inside) to
                (routed.sent.node_is ∙ ap (λ c. node_at c at) routed.along),
          ))
      at_place to (Chain (Completed other key)) routed here high =
          one_none to high (is_home tx to) (same_tx other tx) refl
      at_place to (Host (Continue (work.Transaction other) at)) routed here high =
          at_home_none to (completions tx (drop at list)) high (is_home tx to) (same_tx other tx) refl
      at_place to _ routed here high = refl

-- no transaction of quiet logs is being completed
pub none_completes : (start : Start) (logs : ℕ → List HostStep) (h : ℕ) (tx : TxId) (t : Transaction)
    → AreQuiet start logs → h < first_hosts start → IsLiveAs tx t (after start h (logs h))
    → is_completing t.phase ≡ false
none_completes start logs h tx t quiet low live = by (is_completing t.phase) refl
  where
    es : List HostStep
    es = merged (machine start) (first_hosts start) logs

    same : logs_of start (merged (machine start) (first_hosts start) logs) ≡ logs
    same = logs_merged (machine start) (first_hosts start) logs quiet.within quiet.right

    there : of_host tx (after start h (logs h)) ≡ Some t
    there = live_tx start tx h (logs h) t live

    at : h ≡ home start tx
    at = (at_home start tx h (logs h) t low there).is

    here : live_at start (logs_of start (merged (machine start) (first_hosts start) logs)) tx ≡ Some t
    here =
        ap (λ (l : ℕ → List HostStep). live_at start l tx) same
        ∙ subst (λ k. of_host tx (after start k (logs k)) ≡ Some t) at there

    still : (xs : List Addressed) × IsStill start (merged (machine start) (first_hosts start) logs) xs
    still =
        still_at_quiet start (merged (machine start) (first_hosts start) logs) (quiet_runs start logs quiet)
        (subst (λ (l : ℕ → List HostStep). AreQuiet start l) (sym same) quiet).quiet

    by : (b : Bool) → is_completing t.phase ≡ b → b ≡ false
    by false e = refl
    by true e =
        let w : IsOnWay start tx still.0 t =
        subst (Claim start tx still.0) here
        (completions_come start tx (merged (machine start) (first_hosts start) logs) still.0
        (quiet_runs start logs quiet)
        still.1.transit) e in
        absurd (omega (
          arith,
          w.some,
          w.way,
          none_stands start tx (merged (machine start) (first_hosts start) logs) still.0 (quiet_runs start logs quiet)
              still.1
              (omega (arith, low, at))
              (list_at start tx t),
        ))
