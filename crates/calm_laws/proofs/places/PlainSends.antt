-- What a host of the plain machine sends in a step, whoever is to take it takes in calm.
use Rattle.std.proofs.Common.{◌≡◌, ◌⊎◌, ◌<◌, ◌≤◌, ℕ, true, List, [], ◌∷◌, refl, sym, ap, ◌∙◌, subst, inl, inr}
use Rattle.std.proofs.Common.{arith}
use Rattle.run_theory.specs.Lists.{Each}
use Rattle.sig_core.specs.declared.outs.Outgoing.{Outgoing}
use Rattle.sig_core.specs.declared.signal.Body.{Body}
use Rattle.frag_map.specs.Layout.{first_view}
use Rattle.api_block.specs.Api.{api_table}
use Rattle.api_block.specs.State.{ApiState}
use Rattle.node_core.proofs.HostCases.{IsApiStep, api_step, each_send, keeps_dih}
use Rattle.node_core.specs.Blocks.{api_of, dih_of, has_api, has_tc, lqh_of, tc_of}
use Rattle.node_core.specs.Dih.{DihState, dih_table}
use Rattle.node_core.specs.Fresh.{fresh_part, fresh_shell}
use Rattle.node_core.specs.Row.{row}
use Rattle.world_core.proofs.HostNumbers.{api_found, tc_found, tc_started}
use Rattle.world_core.specs.Hosts.{Membership, first_membership, host_for, first_hosts, receiver, started}
use Rattle.world_core.specs.Machine.{after, all_addressed, counted, sent_count, signals_of, step_after}
use Rattle.world_core.specs.Start.{Start}
use Rattle.world_core.specs.Steps.{Addressed, HostStep}
use Rattle.host_laws.proofs.hosts.BlocksAlong.{at_own_node}
use Rattle.host_laws.proofs.hosts.ShellHost.{shell_after}
use Rattle.run_laws.specs.Routes.{IsOnWay}
use Rattle.run_laws.specs.Transit.{AreInTransit, Comes, joined, logs_of}
use Rattle.run_laws.proofs.routes.Addressed.{comes_below}
use Rattle.run_laws.proofs.routes.Routes.{AllRouted, all_routed}
use Rattle.run_laws.proofs.hosts.RowsNodes.{rows_node}
use Rattle.run_laws.proofs.transit.Runs.{IsTaking, taking}
use Rattle.run_laws.proofs.transit.Weighing.{headed_each}
use Rattle.calm_laws.specs.Calm.{is_calm}
use Rattle.calm_laws.specs.Resting.{PlainSendsAreCalm}
use Rattle.calm_laws.proofs.places.Api.{IsDumpOfNode, api_sets}
use Rattle.calm_laws.proofs.known.Signals.{IsKnown}
use Rattle.calm_laws.proofs.known.Transactions.{all_known}
use Rattle.calm_laws.proofs.places.Placed.{fit_calm}
use Rattle.calm_laws.proofs.places.Rows.{dih_node, epochs_send, rows_send}
use Rattle.calm_laws.proofs.places.Sent.{AreSet, IsSet, set_fits}
use Rattle.calm_laws.proofs.places.Turns.{tc_sets}

-- what holds of each signal of two lists that are joined
each_front : (P : Addressed → Type 0) (xs ys : List Addressed) → Each P (joined xs ys) → Each P xs × Each P ys
each_front P [] ys all = (tt, all)
each_front P (x ∷ xs) ys all =
    let more = each_front P xs (x ∷ ys) all in
    ((more.1.0, more.0), more.1.1)

-- what is sent goes to the host of its place
all_to : (who : Membership) (h stamp : ℕ) (count : ℕ → ℕ) (sends : List Outgoing)
    → Each (λ (x : Addressed). x.to ≡ receiver who x.signal.to) (all_addressed who h stamp count sends)
all_to who h stamp count [] = tt
all_to who h stamp count (o ∷ more) = (refl, all_to who h stamp (counted (receiver who o.to) count) more)

module _ (start : Start) where
  -- the API asks for the rows of a node alone
  dump_along : (log : List HostStep) → IsDumpOfNode (api_of (after start 0 log)).dump
  unfolding started fresh_shell
  dump_along [] = tt
  dump_along (e ∷ log) = by (dump_along log) (api_step (after start 0 log) e.step.taken)
    where
      s : ApiState
      s = api_of (after start 0 log)

      view : s.view ≡ first_view start.shape.nodes
      view = ap (λ g. (api_of g).view) (shell_after start log).is ∙ (shell_after start log).view

      by : IsDumpOfNode s.dump
          → IsApiStep (after start 0 log) e.step.taken (row (after start 0 log) e.step.taken)
          ⊎ (api_of (row (after start 0 log) e.step.taken).state ≡ s)
          → IsDumpOfNode (api_of (row (after start 0 log) e.step.taken).state).dump
      by was (inl step) =
          subst (λ (t : ApiState). IsDumpOfNode t.dump) (sym step.state)
          (api_sets start.shape.nodes s view was e.step.taken.body).dump
      by was (inr same) = subst (λ (t : ApiState). IsDumpOfNode t.dump) (sym same) was

  -- epochs are of a node
  dih_along : (R : DihState → Type 0) (h : ℕ) → ((d : DihState) (body : Body) → R d → R (dih_table d body).state)
      → R (dih_of (started start h)) → (log : List HostStep) → R (dih_of (after start h log))
  dih_along R h kept first [] = first
  dih_along R h kept first (e ∷ log) =
      keeps_dih R (λ d x was. kept d x.body was) (after start h log) e.step.taken (dih_along R h kept first log)

  dih_some : (h : ℕ) (log : List HostStep) → h < first_hosts start → has_tc (after start h log) ≡ true
      → 1 ≤ (dih_of (after start h log)).node
  unfolding fresh_part
  dih_some h log low runs =
      let found = tc_found start h log low runs in
      let begun : (dih_of (started start h)).node ≡ found.node =
      ap (λ g. (dih_of (started start g)).node) found.is
      ∙ ap (λ s. (dih_of s).node) (tc_started start found.node found.some found.low) in
      let own = dih_along (λ d. d.node ≡ found.node) h (λ d body was. dih_node d body ∙ was) begun log in
      omega (arith, own, found.some)

  module _ (es : List HostStep) (e : HostStep) (comes : Comes start es e) where
    abbrev log : List HostStep
    log = logs_of start es e.host

    abbrev sends : List Outgoing
    sends = (step_after start e.host log e).effects.sends

    abbrev sent : List Addressed
    sent = signals_of start e.host log e

    takes : IsTaking start es e
    takes = taking start es e comes

    low : e.host < first_hosts start
    low = comes_below start es e comes

    routed : AllRouted start es takes.before
    routed = all_routed start es takes.before comes.before takes.transit

    -- the API's host is the shell's
    api_set : has_api (after start e.host log) ≡ true
        → AreSet (api_table (api_of (after start e.host log)) e.step.taken.body).effects.sends
    api_set runs = by e.host log (api_found start e.host log runs)
      where
        by : (h : ℕ) (log : List HostStep) → h ≡ 0
            → AreSet (api_table (api_of (after start h log)) e.step.taken.body).effects.sends
        by h log is =
            subst (λ k. AreSet (api_table (api_of (after start k log)) e.step.taken.body).effects.sends) (sym is)
            (api_sets start.shape.nodes (api_of (after start 0 log))
            (ap (λ g. (api_of g).view) (shell_after start log).is ∙ (shell_after start log).view) (dump_along log)
            e.step.taken.body).sends

    sends_set : AreSet sends
    sends_set =
        each_send (λ (o : Outgoing). IsSet o.to o.body) (after start e.host log) e.step.taken (record {
          api = λ runs at. api_set runs;
          tc = λ runs at.
              tc_sets start comes.before.shape (tc_of (after start e.host log))
              (at_own_node start e.host log low runs).some ((routed.hosts e.host).layout runs)
              (routed.hosts e.host).live e.step.taken.body;
          dih = λ runs at. epochs_send (dih_of (after start e.host log)) e.step.taken.body
              (dih_some e.host log low runs);
          rows = λ runs at. rows_send (lqh_of (after start e.host log)) e.step.taken.body
              (rows_node start e.host log low runs).some;
        })

    -- all that is in transit behind the step
    now : AreInTransit start (e ∷ es) (joined sent takes.between)
    now = (takes.before, (takes.transit, record { between = takes.between; takes = takes.takes; is = refl }))

    sent_known : Each (λ (x : Addressed). IsKnown start x.signal.body) sent
    sent_known =
        (each_front (λ (x : Addressed). IsKnown start x.signal.body) sent takes.between
        (all_known start (e ∷ es) (joined sent takes.between) comes.now now).signals).0

    sent_routed : Each (λ (x : Addressed). IsOnWay start x.signal.to x.signal.body) sent
    sent_routed =
        (each_front (λ (x : Addressed). IsOnWay start x.signal.to x.signal.body) sent takes.between
        (all_routed start (e ∷ es) (joined sent takes.between) comes.now now).signals).0

    sent_set : Each (λ (x : Addressed). IsSet x.signal.to x.signal.body) sent
    sent_set =
        headed_each (λ to body. IsSet to body) (first_membership start) e.host e.step.stamp
        (sent_count start e.host log) sends sends_set

    sent_to : Each (λ (x : Addressed). x.to ≡ host_for start x.signal.to) sent
    sent_to = all_to (first_membership start) e.host e.step.stamp (sent_count start e.host log) sends

    -- one of them
    record IsSent (x : Addressed) : Type 0 where
      known : IsKnown start x.signal.body
      way : IsOnWay start x.signal.to x.signal.body
      set : IsSet x.signal.to x.signal.body
      to : x.to ≡ host_for start x.signal.to

    calm : (x : Addressed) → IsSent x → x.to < first_hosts start → is_calm x.to x.signal ≡ true
    calm x is there =
        let fits = set_fits start comes.before.shape x.signal.to x.signal.body is.known is.way is.set in
        subst (λ h. is_calm h x.signal ≡ true) (sym is.to)
        (fit_calm start x.signal.to x.signal.body fits (subst (λ h. h < first_hosts start) is.to there))

    each_sent : (xs : List Addressed) → Each (λ (x : Addressed). IsKnown start x.signal.body) xs
        → Each (λ (x : Addressed). IsOnWay start x.signal.to x.signal.body) xs
        → Each (λ (x : Addressed). IsSet x.signal.to x.signal.body) xs
        → Each (λ (x : Addressed). x.to ≡ host_for start x.signal.to) xs
        → Each (λ (x : Addressed). x.to < first_hosts start → is_calm x.to x.signal ≡ true) xs
    each_sent [] known way set to = tt
    each_sent (x ∷ xs) known way set to = (
      calm x (record { known = known.0; way = way.0; set = set.0; to = to.0 }),
      each_sent xs known.1 way.1 set.1 to.1,
    )

pub plain_sends_calm : PlainSendsAreCalm
plain_sends_calm start es e comes =
    each_sent start es e comes (sent start es e comes) (sent_known start es e comes) (sent_routed start es e comes)
    (sent_set start es e comes) (sent_to start es e comes)
