-- What is asked at a place of a chain behind the first was sent by the host of the place in front.
use Rattle.std.proofs.Common.{◌≡◌, ◌≢◌, ◌<◌, ◌+◌, ℕ, Bool, true, false, List, [], ◌∷◌, filter_map, length, refl}
use Rattle.std.proofs.Common.{sym, ap, ◌∙◌, subst, arith, eq-eqb}
use Rattle.std.proofs.lemmas.Bool.{eqb-true, false≢true}
use Rattle.std.specs.List.{cons_option}
use Rattle.std.specs.Prelude.{◌-◌, ◌==◌, ◌&&◌, not, if◌then◌else◌, Option, None, Some}
use Rattle.run_theory.proofs.EventCases.{event_cases}
use Rattle.run_theory.proofs.EachSent.{each_get}
use Rattle.run_theory.specs.Links.{is_from, taken}
use Rattle.run_theory.specs.Lists.{Each}
use Rattle.sig_core.specs.declared.member.Member.{Member}
use Rattle.sig_core.specs.declared.member.TxId.{TxId}
use Rattle.sig_core.specs.declared.outs.Outgoing.{Outgoing}
use Rattle.sig_core.specs.declared.place.BlockId.TheVariants.{Lqh}
use Rattle.sig_core.specs.declared.signal.Body.{Body}
use Rattle.sig_core.specs.declared.signal.Body.TheVariants.{Chain}
use Rattle.sig_core.specs.declared.signal.chain.ChainSignal.TheVariants.{LqhKeyReq}
use Rattle.sig_core.specs.declared.signal.chain.RowWork.{RowWork}
use Rattle.sig_core.specs.Chain.{node_at}
use Rattle.sig_core.specs.Same.{same_key}
use Rattle.sig_core.specs.Step.{Step}
use Rattle.sig_core.specs.Work.{work_key}
use Rattle.lqh_block.proofs.EachLqh.{RequestSends, lqh_sends_each}
use Rattle.row_records.proofs.KeyLemmas.{same}
use Rattle.lqh_block.specs.declared.request.Request.{Request}
use Rattle.lqh_block.specs.Lqh.{lqh_table}
use Rattle.lqh_block.specs.State.{LqhState}
use Rattle.tc_block.proofs.LiveKeeps.{is_chain}
use Rattle.tc_block.proofs.TurnRows.{TcStep, begins, misses, passes, refuses, rests, takes, tc_step, turn_by, tx_in}
use Rattle.tc_block.specs.State.{TcState}
use Rattle.tc_block.specs.Tc.{tc_table}
use Rattle.tc_block.specs.Turn.{Turn}
use Rattle.node_core.proofs.HostCases.{each_send}
use Rattle.node_core.specs.Blocks.{api_of, dih_of, has_lqh, lqh_of, tc_of}
use Rattle.node_core.specs.Dih.{dih_table}
use Rattle.node_core.specs.Requests.{is_request}
use Rattle.world_core.specs.Hosts.{Membership, first_membership, receiver, rows_host}
use Rattle.world_core.specs.Machine.{after, all_addressed, counted, machine, sent_count, signals_of, step_after}
use Rattle.world_core.specs.Start.{Start}
use Rattle.world_core.specs.Steps.{Addressed, HostStep}
use Rattle.host_laws.proofs.hosts.DihSends.{dih_kinds}
use Rattle.host_laws.proofs.hosts.SendKinds.{SendsOnly, are_of, each_of, is_dih_kind}
use Rattle.host_laws.proofs.coordinator.TurnKinds.{OwnKinds, own_kinds}
use Rattle.run_laws.specs.Routes.{IsForBlock, IsRequestRouted, IsRouted, replica_host, replicas}
use Rattle.run_laws.specs.Transit.{AreInTransit, Comes, IsRun, logs_of}
use Rattle.run_laws.proofs.routes.Addressed.{comes_below, rows_addressed}
use Rattle.run_laws.proofs.routes.Events.{coming_are_routed, placed}
use Rattle.run_laws.proofs.routes.Routes.{all_routed, api_plain, dih_plain}
use Rattle.run_laws.proofs.routes.Chain.{hosts_are_apart}
use Rattle.run_laws.proofs.hosts.RowsNodes.{rows_come, rows_node}
use Rattle.run_laws.proofs.transit.Transit.{along_transit, comes, earlier}
use Rattle.run_laws.proofs.transit.Runs.{taking}
use Rattle.run_laws.proofs.ways.Passed.{api_each}
use Rattle.run_laws.proofs.transit.Weighing.{each_between, each_taken, joined_each}
use Rattle.order_laws.proofs.Askers.{asker, came}

module _ (start : Start) where
  -- from this host it comes from the place in front of its own
  abbrev pub IsFromFront : ℕ → Body → Type 0
  IsFromFront h (Chain (LqhKeyReq tx work chain at)) = 0 < at → h ≡ replica_host start (work_key work) (at - 1)
  IsFromFront h body = Unit {0}

  plain_front : (h : ℕ) (body : Body) → is_chain body ≡ false → IsFromFront h body
  plain_front h (Chain c) off = absurd (false≢true (sym off))
  plain_front h _ off = tt

  abbrev is_first : Body → Bool
  is_first (Chain (LqhKeyReq tx work chain at)) = at == 0
  is_first body = true

  first_front : (h : ℕ) (body : Body) → is_first body ≡ true → IsFromFront h body
  first_front h (Chain (LqhKeyReq tx work chain at)) is = λ some. absurd (omega (arith, some, eqb-true at 0 is))
  first_front h _ is = tt

  own : (tx : TxId) (body : Body) → OwnKinds tx is_first body
  own tx body = record {
    chains = record {
      commits = λ key epoch chain at. refl;
      completes = λ key chain at. refl;
      aborts = λ key. refl;
      goes_on = λ at. refl;
    };
    operates = λ op chain. refl;
    answers = λ key answer is. refl;
    waits = λ key. refl;
    verifies = λ ops. refl;
    verified = refl;
    committed = λ epoch. refl;
    rolled_back = λ why. refl;
  }

  tc_first : (s : TcState) (body : Body) → SendsOnly is_first (tc_table s body)
  tc_first s body = by (tc_table s body) (tc_step s body)
    where
      firsts : Step TcState → Bool
      firsts step = are_of is_first step.effects.sends

      by : (step : Step TcState) → TcStep s body step → firsts step ≡ true
      by step (rests off is) = ap firsts is
      by step (refuses name about is) = ap firsts is
      by step (begins name about room is) = ap firsts is
      by step (passes tx ahead about is) = ap firsts is
      by step (misses turns none is) = ap firsts is
      by step (takes turns t front back was is) =
          ap firsts is
          ∙ turn_by s t (λ (turn : Turn). SendsOnly is_first turn.step) body
          (own_kinds is_first (tx_in body) body (own (tx_in body) body) s.node s.layout t) (λ off. refl)

  -- and what rows send goes to the next place
  request_front : (h node : ℕ) → h ≡ rows_host start node → (r : Request) → IsRequestRouted start node r
      → RequestSends (λ (o : Outgoing). IsFromFront h o.body) r
  request_front h node here r is = record {
    log_full = λ used reserved need. tt;
    table_full = λ rows. tt;
    answers = λ a. tt;
    passes = λ image next there some.
        here
        ∙ ap (rows_host start) (is.sent.node_is ∙ ap (λ c. node_at c r.at) is.chain)
        ∙ ap (replica_host start (work_key r.work)) (omega arith);
  }

  rows_front : (h node : ℕ) → h ≡ rows_host start node → (s : LqhState) (body : Body) → IsRouted start node body
      → Each (λ (q : Request). IsRequestRouted start node q) s.waiting
      → Each (λ (o : Outgoing). IsFromFront h o.body) (lqh_table s body).effects.sends
  rows_front h node here s body is waiting =
      lqh_sends_each (λ (o : Outgoing). IsFromFront h o.body) s body (record {
        asked = λ r same. request_front h node here r (subst (IsRouted start node) same is);
        waited = λ at r there. request_front h node here r
            (each_get (λ (q : Request). IsRequestRouted start node q) s.waiting at r waiting there);
        grants_more = tt;
        expires_more = tt;
        commits_on = λ tx key epoch chain at same behind. tt;
        committed = λ tx key epoch chain at sent first. tt;
        completes_on = λ tx key chain at same behind. tt;
        completed = λ tx key chain at sent first. tt;
        aborted = λ tx key sent. tt;
        gives_up = λ tx key given. tt;
        times_out = λ tx key. tt;
        waits = λ tx key ahead sent there. tt;
        dumps = λ at rows next sent. tt;
      })

  -- with the header of its sender
  headed_front : (who : Membership) (h stamp : ℕ) (count : ℕ → ℕ) (sends : List Outgoing)
      → Each (λ (o : Outgoing). IsFromFront h o.body) sends
      → Each (λ (x : Addressed). IsFromFront x.signal.from.0 x.signal.body) (all_addressed who h stamp count sends)
  headed_front who h stamp count [] all = tt
  headed_front who h stamp count (o ∷ sends) all =
      (all.0, headed_front who h stamp (counted (receiver who o.to) count) sends all.1)

  abbrev AreFromFront : List Addressed → Type 0
  AreFromFront xs = Each (λ (x : Addressed). IsFromFront x.signal.from.0 x.signal.body) xs

  sends_front : (es : List HostStep) (e : HostStep) → Comes start es e
      → Each (λ (o : Outgoing). IsFromFront e.host o.body)
      (step_after start e.host (logs_of start es e.host) e).effects.sends
  sends_front es e come =
      let s = after start e.host (logs_of start es e.host) in
      let body = e.step.taken.body in
      each_send (λ (o : Outgoing). IsFromFront e.host o.body) s e.step.taken (record {
        api = λ runs at.
            api_each (λ (o : Outgoing). IsFromFront e.host o.body)
            (λ o is. plain_front e.host o.body (api_plain o.body is)) (λ name node. tt) (api_of s) body;
        tc = λ runs at.
            each_of is_first (λ (o : Outgoing). IsFromFront e.host o.body) (λ o is. first_front e.host o.body is)
            (tc_table (tc_of s) body).effects.sends (tc_first (tc_of s) body);
        dih = λ runs at.
            each_of is_dih_kind (λ (o : Outgoing). IsFromFront e.host o.body)
            (λ o is. plain_front e.host o.body (dih_plain o.body is)) (dih_table (dih_of s) body).effects.sends
            (dih_kinds (dih_of s) body);
        rows = λ runs at. here runs at;
      })
    where
      here : has_lqh (after start e.host (logs_of start es e.host)) ≡ true → e.step.taken.to.block ≡ Lqh
          → Each (λ (o : Outgoing). IsFromFront e.host o.body)
          (lqh_table (lqh_of (after start e.host (logs_of start es e.host))) e.step.taken.body).effects.sends
      here runs at =
          let s = lqh_of (after start e.host (logs_of start es e.host)) in
          let t = taking start es e come in
          let routed = coming_are_routed start es e come in
          let place = rows_node start e.host (logs_of start es e.host) (comes_below start es e come) runs in
          rows_front e.host s.node place.is s e.step.taken.body
          (subst (λ node. IsRouted start node e.step.taken.body) (rows_come start es e come runs at) routed.routed)
          ((all_routed start es t.before come.before t.transit).hosts e.host).waiting

  fronts_along : (es : List HostStep) (xs : List Addressed) → IsRun start es → AreInTransit start es xs
      → AreFromFront xs
  fronts_along =
      along_transit start (λ es xs. AreFromFront xs) tt
      (λ es e before between come transit all takes.
      joined_each (λ (x : Addressed). IsFromFront x.signal.from.0 x.signal.body)
      (signals_of start e.host (logs_of start es e.host) e) between
      (headed_front (first_membership start) e.host e.step.stamp (sent_count start e.host (logs_of start es e.host))
      (step_after start e.host (logs_of start es e.host) e).effects.sends (sends_front es e come))
      (each_between (λ (x : Addressed). IsFromFront x.signal.from.0 x.signal.body) e before between takes all))

  -- what a step at a place behind the first is asked for on the key it takes from the host of the place in front
  module _ (key : List ℕ) (at : ℕ) (inside : at + 1 < length (replicas start key)) where
    abbrev IsFromPlace : HostStep → Type 0
    IsFromPlace e = (tx : TxId) → asker key e.step.taken.body ≡ Some tx
        → is_from (machine start) (replica_host start key at) e ≡ true

    from_place : (es : List HostStep) (e : HostStep) → Comes start es e → e.host ≡ replica_host start key (at + 1)
        → IsFromPlace e
    from_place es e come here tx asks_is = by e.step.taken.body refl asks_is
      where
        front : (v : TxId) (work : RowWork) (chain : List Member) (place : ℕ)
            → e.step.taken.body ≡ Chain (LqhKeyReq v work chain place) → work_key work ≡ key
            → e.step.taken.from.0 ≡ replica_host start key at
        front v work chain place is on =
            let coming = coming_are_routed start es e come in
            let routed : IsRequestRouted start e.step.taken.to.node
            (record { tx = v; work = work; chain = chain; at = place }) =
            subst (IsRouted start e.step.taken.to.node) is coming.routed in
            let own_place = placed start e.host e.step.taken.to.node (work_key work) chain place
            (rows_addressed start es e come (subst (IsForBlock e.step.taken.to) is coming.block)) routed.chain
            routed.sent in
            let host_is : e.host ≡ replica_host start key place =
            own_place.host_is ∙ ap (λ k. replica_host start k place) on in
            let low : place < length (replicas start key) =
            subst (λ k. place < length (replicas start k)) on own_place.inside in
            let same_place : place ≡ at + 1 =
            hosts_are_apart start key place (at + 1) come.before.shape low inside (sym host_is ∙ here) in
            let t = taking start es e come in
            let plain : is_request e.step.taken.body ≡ false = ap is_request is in
            let told : IsFromFront e.step.taken.from.0 e.step.taken.body =
            each_taken (λ (x : Addressed). IsFromFront x.signal.from.0 x.signal.body) e t.before t.between plain t.takes
            (fronts_along es t.before come.before t.transit) in
            subst (IsFromFront e.step.taken.from.0) is told (omega (arith, same_place))
            ∙ ap (λ k. replica_host start k (place - 1)) on
            ∙ ap (replica_host start key) (omega (arith, same_place))

        by : (body : Body) → e.step.taken.body ≡ body → asker key body ≡ Some tx
            → is_from (machine start) (replica_host start key at) e ≡ true
        by (Chain (LqhKeyReq v work chain place)) is some = which (same_key (work_key work) key) refl some
          where
            which : (b : Bool) → same_key (work_key work) key ≡ b → (if b then Some v else None) ≡ Some tx
                → is_from (machine start) (replica_host start key at) e ≡ true
            which true on some =
                let plain : is_request e.step.taken.body ≡ false = ap is_request is in
                let here_is = eq-eqb e.step.taken.from.0 (replica_host start key at)
                (front v work chain place is (same (work_key work) key on)) in
                λ i. not (plain i) && here_is i
            which false on none = absurd cc
        by _ is none = absurd cc

    all_from : (es : List HostStep) → IsRun start es
        → Each IsFromPlace (logs_of start es (replica_host start key (at + 1)))
    all_from [] run = tt
    all_from (e ∷ es) run =
        let before = all_from es (earlier start es e run) in
        event_cases (machine start) e es (replica_host start key (at + 1)) (Each IsFromPlace)
        (λ here. (from_place es e (comes start es e run) here, before)) (λ off. before)

    -- so who came is who was taken from there
    taken_came : (log : List HostStep) → Each IsFromPlace log
        → came key log
        ≡ filter_map (λ (x : Addressed). asker key x.signal.body)
        (taken (machine start) (replica_host start key at) log)
    taken_came [] all = refl
    taken_came (e ∷ log) all = by (is_from (machine start) (replica_host start key at) e) refl (taken_came log all.1)
      where
        rest : List Addressed
        rest = taken (machine start) (replica_host start key at) log

        ask : Addressed → Option TxId
        ask x = asker key x.signal.body

        none : (o : Option TxId) → asker key e.step.taken.body ≡ o
            → is_from (machine start) (replica_host start key at) e ≡ false → o ≡ None
        none None is off = refl
        none (Some tx) is off = absurd (false≢true (sym off ∙ all.0 tx is))

        by : (b : Bool) → is_from (machine start) (replica_host start key at) e ≡ b
            → came key log ≡ filter_map ask rest
            → cons_option (asker key e.step.taken.body) (came key log)
            ≡ filter_map ask (if b then record { to = e.host; signal = e.step.taken } ∷ rest else rest)
        by true is same = ap (cons_option (asker key e.step.taken.body)) same
        by false is same =
            ap (λ o. cons_option o (came key log)) (none (asker key e.step.taken.body) refl is) ∙ same

    pub came_from : (es : List HostStep) → IsRun start es
        → came key (logs_of start es (replica_host start key (at + 1)))
        ≡ filter_map (λ (x : Addressed). asker key x.signal.body)
        (taken (machine start) (replica_host start key at) (logs_of start es (replica_host start key (at + 1))))
    came_from es run = taken_came (logs_of start es (replica_host start key (at + 1))) (all_from es run)
