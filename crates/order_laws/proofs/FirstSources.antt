-- What is asked at the first place of a chain was sent by the host of the transaction's coordinator.
use Rattle.std.proofs.Common.{◌≡◌, ℕ, Bool, true, false, List, [], ◌∷◌, refl, sym, ap, ◌∙◌, subst, arith}
use Rattle.std.proofs.lemmas.Bool.{false≢true}
use Rattle.run_theory.proofs.Pasts.{each_after}
use Rattle.run_theory.specs.Lists.{Each}
use Rattle.sig_core.proofs.Keys.{same_tx-self}
use Rattle.sig_core.proofs.TxLemmas.{same_tx-is}
use Rattle.sig_core.specs.declared.member.TxId.{TxId}
use Rattle.sig_core.specs.declared.outs.Outgoing.{Outgoing}
use Rattle.sig_core.specs.declared.signal.Body.{Body}
use Rattle.sig_core.specs.declared.signal.Body.TheVariants.{Chain}
use Rattle.sig_core.specs.declared.signal.chain.ChainSignal.TheVariants.{LqhKeyReq}
use Rattle.sig_core.specs.Same.{same_tx}
use Rattle.sig_core.specs.Step.{Step}
use Rattle.lqh_block.proofs.EachLqh.{RequestSends, lqh_sends_each}
use Rattle.lqh_block.specs.declared.request.Request.{Request}
use Rattle.lqh_block.specs.Lqh.{lqh_table}
use Rattle.lqh_block.specs.State.{LqhState}
use Rattle.tc_block.proofs.LiveKeeps.{is_chain}
use Rattle.tc_block.proofs.TurnRows.{TcStep, begins, misses, passes, refuses, rests, takes, tc_step, turn_by, tx_in}
use Rattle.tc_block.specs.declared.transaction.Transaction.{Transaction}
use Rattle.tc_block.specs.State.{TcState}
use Rattle.tc_block.specs.Tc.{tc_table}
use Rattle.tc_block.specs.Turn.{Turn}
use Rattle.node_core.proofs.HostCases.{each_send}
use Rattle.node_core.specs.Blocks.{api_of, dih_of, has_tc, lqh_of, tc_of}
use Rattle.node_core.specs.Dih.{dih_table}
use Rattle.world_core.specs.Hosts.{Membership, first_membership, home, receiver}
use Rattle.world_core.specs.Machine.{after, all_addressed, counted, sent_count, signals_of, step_after}
use Rattle.world_core.specs.Start.{Start}
use Rattle.world_core.specs.Steps.{Addressed, HostStep}
use Rattle.host_laws.proofs.hosts.DihSends.{dih_kinds}
use Rattle.host_laws.proofs.hosts.SendKinds.{SendsOnly, each_of, is_dih_kind}
use Rattle.host_laws.proofs.coordinator.Lives.{IsOwn}
use Rattle.host_laws.proofs.coordinator.TurnKinds.{OwnKinds, own_kinds}
use Rattle.run_laws.proofs.routes.Routes.{api_plain, dih_plain}
use Rattle.run_laws.specs.Transit.{AreInTransit, Comes, IsRun, logs_of}
use Rattle.run_laws.proofs.hosts.HomeSteps.{all_home, own_home}
use Rattle.run_laws.proofs.transit.Transit.{along_transit}
use Rattle.run_laws.proofs.ways.Passed.{api_each}
use Rattle.run_laws.proofs.transit.Weighing.{each_between, joined_each}

-- an operation that is sent is of this transaction
abbrev is_its : TxId → Body → Bool
is_its one (Chain (LqhKeyReq tx work chain at)) = same_tx tx one
is_its one body = true

own : (tx : TxId) (body : Body) → OwnKinds tx (is_its tx) body
own tx body = record {
  chains = record {
    commits = λ key epoch chain at. refl;
    completes = λ key chain at. refl;
    aborts = λ key. refl;
    goes_on = λ at. refl;
  };
  operates = λ op chain. same_tx-self tx;
  answers = λ key answer is. refl;
  waits = λ key. refl;
  verifies = λ ops. refl;
  verified = refl;
  committed = λ epoch. refl;
  rolled_back = λ why. refl;
}

module _ (start : Start) where
  -- from this host it comes from that of its transaction's coordinator
  abbrev pub IsFromHome : ℕ → Body → Type 0
  IsFromHome h (Chain (LqhKeyReq tx work chain at)) = at ≡ 0 → h ≡ home start tx
  IsFromHome h body = Unit {0}

  plain_home : (h : ℕ) (body : Body) → is_chain body ≡ false → IsFromHome h body
  plain_home h (Chain c) off = absurd (false≢true (sym off))
  plain_home h _ off = tt

  its_home : (h : ℕ) (one : TxId) → h ≡ home start one → (body : Body) → is_its one body ≡ true → IsFromHome h body
  its_home h one here (Chain (LqhKeyReq tx work chain at)) is =
      λ first. here ∙ ap (home start) (sym (same_tx-is tx one is))
  its_home h one here _ is = tt

  -- what a coordinator sends
  tc_home : (h : ℕ) (s : TcState) (body : Body) → Each (λ (x : TxId × Transaction). h ≡ home start x.0) s.live
      → Each (λ (o : Outgoing). IsFromHome h o.body) (tc_table s body).effects.sends
  tc_home h s body homes = by (tc_table s body) (tc_step s body)
    where
      by : (step : Step TcState) → TcStep s body step → Each (λ (o : Outgoing). IsFromHome h o.body) step.effects.sends
      by step (rests off is) =
          subst (λ (t : Step TcState). Each (λ (o : Outgoing). IsFromHome h o.body) t.effects.sends) (sym is) tt
      by step (refuses name about is) =
          subst (λ (t : Step TcState). Each (λ (o : Outgoing). IsFromHome h o.body) t.effects.sends) (sym is) (tt, tt)
      by step (begins name about room is) =
          subst (λ (t : Step TcState). Each (λ (o : Outgoing). IsFromHome h o.body) t.effects.sends) (sym is) (tt, tt)
      by step (passes tx ahead about is) =
          subst (λ (t : Step TcState). Each (λ (o : Outgoing). IsFromHome h o.body) t.effects.sends) (sym is) (tt, tt)
      by step (misses turns none is) =
          subst (λ (t : Step TcState). Each (λ (o : Outgoing). IsFromHome h o.body) t.effects.sends) (sym is) tt
      by step (takes turn t front back was is) =
          subst (λ (t : Step TcState). Each (λ (o : Outgoing). IsFromHome h o.body) t.effects.sends) (sym is)
          (each_of (is_its (tx_in body)) (λ (o : Outgoing). IsFromHome h o.body)
          (λ o e. its_home h (tx_in body)
          (each_after (λ (x : TxId × Transaction). h ≡ home start x.0) front ((tx_in body, t) ∷ back)
          (subst (Each (λ (x : TxId × Transaction). h ≡ home start x.0)) was homes)).0 o.body e) _
          (turn_by s t (λ (turn : Turn). SendsOnly (is_its (tx_in body)) turn.step) body
          (own_kinds (is_its (tx_in body)) (tx_in body) body (own (tx_in body) body) s.node s.layout t) (λ off. refl)))

  -- and what rows send is for a later place
  request_home : (h : ℕ) (r : Request) → RequestSends (λ (o : Outgoing). IsFromHome h o.body) r
  request_home h r = record {
    log_full = λ used reserved need. tt;
    table_full = λ rows. tt;
    answers = λ a. tt;
    passes = λ image next there first. absurd (omega (arith, first));
  }

  rows_home : (h : ℕ) (s : LqhState) (body : Body)
      → Each (λ (o : Outgoing). IsFromHome h o.body) (lqh_table s body).effects.sends
  rows_home h s body =
      lqh_sends_each (λ (o : Outgoing). IsFromHome h o.body) s body (record {
        asked = λ r same. request_home h r;
        waited = λ at r there. request_home h r;
        grants_more = tt;
        expires_more = tt;
        commits_on = λ tx key epoch chain at same behind. tt;
        committed = λ tx key epoch chain at sent first. tt;
        completes_on = λ tx key chain at same behind. tt;
        completed = λ tx key chain at sent first. tt;
        aborted = λ tx key sent. tt;
        gives_up = λ tx key given. tt;
        times_out = λ tx key. tt;
        waits = λ tx key ahead sent there. tt;
        dumps = λ at rows next sent. tt;
      })

  headed_home : (who : Membership) (h stamp : ℕ) (count : ℕ → ℕ) (sends : List Outgoing)
      → Each (λ (o : Outgoing). IsFromHome h o.body) sends
      → Each (λ (x : Addressed). IsFromHome x.signal.from.0 x.signal.body) (all_addressed who h stamp count sends)
  headed_home who h stamp count [] all = tt
  headed_home who h stamp count (o ∷ sends) all =
      (all.0, headed_home who h stamp (counted (receiver who o.to) count) sends all.1)

  sends_home : (es : List HostStep) (e : HostStep) → Comes start es e
      → Each (λ (o : Outgoing). IsFromHome e.host o.body)
      (step_after start e.host (logs_of start es e.host) e).effects.sends
  sends_home es e come =
      let s = after start e.host (logs_of start es e.host) in
      let body = e.step.taken.body in
      each_send (λ (o : Outgoing). IsFromHome e.host o.body) s e.step.taken (record {
        api = λ runs at.
            api_each (λ (o : Outgoing). IsFromHome e.host o.body)
            (λ o is. plain_home e.host o.body (api_plain o.body is)) (λ name node. tt) (api_of s) body;
        tc = λ runs at. tc_home e.host (tc_of s) body (homes runs);
        dih = λ runs at.
            each_of is_dih_kind (λ (o : Outgoing). IsFromHome e.host o.body)
            (λ o is. plain_home e.host o.body (dih_plain o.body is)) (dih_table (dih_of s) body).effects.sends
            (dih_kinds (dih_of s) body);
        rows = λ runs at. rows_home e.host (lqh_of s) body;
      })
    where
      homes : has_tc (after start e.host (logs_of start es e.host)) ≡ true
          → Each (λ (x : TxId × Transaction). e.host ≡ home start x.0)
          (tc_of (after start e.host (logs_of start es e.host))).live
      homes runs = go live (all_home start fresh_tx e.host (logs_of start es e.host)).own
        where
          fresh_tx : TxId
          fresh_tx = record { tc = 0; start = 0; seq = 0 }

          s : TcState
          s = tc_of (after start e.host (logs_of start es e.host))

          live : List (TxId × Transaction)
          live = s.live

          go : (xs : List (TxId × Transaction))
              → Each (λ (x : TxId × Transaction). IsOwn s.node s.next_seq x.0) xs
              → Each (λ (x : TxId × Transaction). e.host ≡ home start x.0) xs
          go [] all = tt
          go (x ∷ xs) all = (own_home start es e come x.0 runs all.0.home, go xs all.1)

  pub homes_along : (es : List HostStep) (xs : List Addressed) → IsRun start es → AreInTransit start es xs
      → Each (λ (x : Addressed). IsFromHome x.signal.from.0 x.signal.body) xs
  homes_along =
      along_transit start (λ es xs. Each (λ (x : Addressed). IsFromHome x.signal.from.0 x.signal.body) xs) tt
      (λ es e before between come transit all takes.
      joined_each (λ (x : Addressed). IsFromHome x.signal.from.0 x.signal.body)
      (signals_of start e.host (logs_of start es e.host) e) between
      (headed_home (first_membership start) e.host e.step.stamp (sent_count start e.host (logs_of start es e.host))
      (step_after start e.host (logs_of start es e.host) e).effects.sends (sends_home es e come))
      (each_between (λ (x : Addressed). IsFromHome x.signal.from.0 x.signal.body) e before between takes all))
