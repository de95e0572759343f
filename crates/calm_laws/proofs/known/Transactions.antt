-- What comes to a host of the plain machine tells of transactions of members that began the life alone.
use Rattle.std.proofs.Common.{◌≡◌, ◌⊎◌, ◌<◌, ℕ, Bool, true, false, List, ◌∷◌, refl, sym, ap, ◌∙◌, subst, inl}
use Rattle.std.proofs.Common.{inr}
use Rattle.run_theory.specs.Lists.{Each}
use Rattle.sig_core.specs.declared.outs.Outgoing.{Outgoing}
use Rattle.sig_core.specs.declared.signal.Signal.{Signal}
use Rattle.sig_core.specs.Step.{Step}
use Rattle.api_block.specs.declared.opened.OpenTransaction.{OpenTransaction}
use Rattle.api_block.specs.State.{ApiState}
use Rattle.node_core.proofs.HostCases.{IsApiStep, IsRowsStep, api_step, each_send, rows_step}
use Rattle.node_core.specs.Blocks.{api_of, dih_of, has_tc, lqh_of, tc_of}
use Rattle.node_core.specs.declared.host.Host.{Host}
use Rattle.node_core.specs.Fresh.{fresh_part}
use Rattle.node_core.specs.Requests.{is_request}
use Rattle.node_core.specs.Row.{row}
use Rattle.world_core.proofs.HostNumbers.{tc_found, tc_started}
use Rattle.world_core.specs.Hosts.{first_hosts, started}
use Rattle.world_core.specs.Machine.{after, signals_of}
use Rattle.world_core.specs.Start.{Start}
use Rattle.world_core.specs.Steps.{Addressed, HostStep}
use Rattle.host_laws.proofs.hosts.BlocksAlong.{at_own_node, first_waiting, tc_along}
use Rattle.host_laws.proofs.hosts.StartedHosts.{none_opened}
use Rattle.run_laws.specs.Transit.{AreInTransit, Comes, IsRun, Takes, host_after, joined, logs_of}
use Rattle.run_laws.proofs.routes.Addressed.{comes_below}
use Rattle.run_laws.proofs.hosts.HostAfter.{each_host}
use Rattle.run_laws.proofs.transit.Transit.{along_transit}
use Rattle.run_laws.proofs.transit.Runs.{taking}
use Rattle.run_laws.proofs.transit.Weighing.{each_between, each_joins, each_taken}
use Rattle.calm_laws.specs.Known.{ComingAreKnown, IsOfFirst}
use Rattle.calm_laws.proofs.known.Hosts.{none_locked}
use Rattle.calm_laws.proofs.known.Rows.{AreRowsKnown, rows_known}
use Rattle.calm_laws.proofs.known.Signals.{AreKnown, IsKnown, IsTold, api_known, dih_known, request_known}
use Rattle.calm_laws.proofs.known.Turns.{IsFirst, tc_known, tc_start}

module _ (start : Start) where
  abbrev AreTold : ApiState → Type 0
  AreTold s = Each (λ (t : OpenTransaction). IsTold start t.tx) s.opened

  -- what a host has is of known transactions
  pub record IsHostKnown (s : Host) : Type 0 where
    pub opened : AreTold (api_of s)
    pub rows : AreRowsKnown start (lqh_of s)

  -- a step of a host
  record HostKnows (step : Step Host) : Type 0 where
    state : IsHostKnown step.state
    sends : AreKnown start step.effects.sends

  module _ (s : Host) (x : Signal) (own : IsKnown start x.body) (home : has_tc s ≡ true → IsFirst start (tc_of s))
      (was : IsHostKnown s) where
    opens : AreTold (api_of (row s x).state)
    opens = by (api_step s x)
      where
        by : IsApiStep s x (row s x) ⊎ (api_of (row s x).state ≡ api_of s) → AreTold (api_of (row s x).state)
        by (inl step) = subst AreTold (sym step.state) (api_known start (api_of s) x.body own was.opened).opened
        by (inr same) = subst AreTold (sym same) was.opened

    locks : AreRowsKnown start (lqh_of (row s x).state)
    locks = by (rows_step s x)
      where
        by : IsRowsStep s x (row s x) ⊎ (lqh_of (row s x).state ≡ lqh_of s)
            → AreRowsKnown start (lqh_of (row s x).state)
        by (inl step) =
            subst (AreRowsKnown start) (sym step.state) (rows_known start (lqh_of s) x.body own was.rows).state
        by (inr same) = subst (AreRowsKnown start) (sym same) was.rows

    host_knows : HostKnows (row s x)
    host_knows = record {
      state = record { opened = opens; rows = locks };
      sends = each_send (λ (o : Outgoing). IsKnown start o.body) s x (record {
        api = λ runs at. (api_known start (api_of s) x.body own was.opened).sends;
        tc = λ runs at. tc_known start (tc_of s) x.body (home runs) own;
        dih = λ runs at. dih_known start (dih_of s) x.body own;
        rows = λ runs at. (rows_known start (lqh_of s) x.body own was.rows).sends;
      });
    }

  -- a coordinator is of a member that began the life
  tc_first : (h : ℕ) (log : List HostStep) → h < first_hosts start → has_tc (after start h log) ≡ true
      → IsFirst start (tc_of (after start h log))
  unfolding fresh_part
  tc_first h log low runs =
      let of = at_own_node start h log low runs in
      let found = tc_found start h log low runs in
      let begun : (tc_of (started start h)).start ≡ 0 =
      ap (λ g. (tc_of (started start g)).start) found.is
      ∙ ap (λ s. (tc_of s).start) (tc_started start found.node found.some found.low) in
      record {
        some = of.some;
        low = of.low;
        first = tc_along start (λ t. t.start ≡ 0) (λ t x was. tc_start t x.body ∙ was) h begun log;
      }

  started_known : (h : ℕ) → IsHostKnown (started start h)
  started_known h = record {
    opened = subst (Each (λ (t : OpenTransaction). IsTold start t.tx)) (sym (none_opened start h)) tt;
    rows = record {
      locks = none_locked start (IsOfFirst start) h;
      waiting = subst (Each (λ q. IsOfFirst start q.tx)) (sym (first_waiting start h)) tt;
    };
  }

  -- all that is in transit, and all that hosts have
  pub record AllKnown (es : List HostStep) (xs : List Addressed) : Type 0 where
    pub signals : Each (λ (x : Addressed). IsKnown start x.signal.body) xs
    pub hosts : (h : ℕ) → IsHostKnown (host_after start es h)

  took_known : (es : List HostStep) (e : HostStep) (before between : List Addressed) → AllKnown es before
      → Takes e before between → IsKnown start e.step.taken.body
  took_known es e before between all takes = by (is_request e.step.taken.body) refl
    where
      by : (b : Bool) → is_request e.step.taken.body ≡ b → IsKnown start e.step.taken.body
      by true is = request_known start e.step.taken.body is
      by false is =
          each_taken (λ (x : Addressed). IsKnown start x.signal.body) e before between is takes all.signals

  next_known : (es : List HostStep) (e : HostStep) (before between : List Addressed) → Comes start es e
      → AllKnown es before → Takes e before between
      → AllKnown (e ∷ es) (joined (signals_of start e.host (logs_of start es e.host) e) between)
  next_known es e before between comes all takes =
      let log = logs_of start es e.host in
      let step =
      host_knows (after start e.host log) e.step.taken (took_known es e before between all takes)
      (tc_first e.host log (comes_below start es e comes)) (all.hosts e.host) in
      record {
        signals = each_joins (λ to body. IsKnown start body) start e.host log e between step.sends
            (each_between (λ (x : Addressed). IsKnown start x.signal.body) e before between takes all.signals);
        hosts = each_host start (λ g s. IsHostKnown s) es e step.state all.hosts;
      }

  pub all_known : (es : List HostStep) (xs : List Addressed) → IsRun start es → AreInTransit start es xs
      → AllKnown es xs
  all_known =
      along_transit start (λ es xs. AllKnown es xs) (record { signals = tt; hosts = started_known })
      (λ es e before between comes transit all takes. next_known es e before between comes all takes)

  -- so is what comes to a host
  pub comes_known : (es : List HostStep) (e : HostStep) → Comes start es e → IsKnown start e.step.taken.body
  comes_known es e comes =
      let takes = taking start es e comes in
      took_known es e takes.before takes.between (all_known es takes.before comes.before takes.transit) takes.takes

pub coming_known : ComingAreKnown
coming_known start es e comes = (comes_known start es e comes).txs
