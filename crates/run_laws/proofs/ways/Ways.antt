-- Along every run: what is in transit, and what was marked, is of a transaction that its coordinator took that way.
use Rattle.std.proofs.Common.{◌≡◌, ℕ, Bool, true, false, List, [], ◌∷◌, ◌++◌, refl, sym, ap, ◌∙◌, subst}
use Rattle.std.specs.List.{list_any}
use Rattle.run_theory.proofs.EventCases.{event_own}
use Rattle.run_theory.specs.Lists.{Each, IsPast}
use Rattle.run_theory.proofs.Orders.{each_next}
use Rattle.run_theory.proofs.Pasts.{each_map}
use Rattle.run_theory.proofs.Runs.{log_of-past}
use Rattle.world_core.specs.Steps.{Addressed, HostStep}
use Rattle.sig_core.specs.declared.mark.Mark.{Mark}
use Rattle.sig_core.specs.declared.mark.Mark.TheVariants.{Applied, Reported}
use Rattle.sig_core.specs.declared.member.TxId.{TxId}
use Rattle.sig_core.specs.declared.outcome.Outcome.TheVariants as outcome
use Rattle.sig_core.specs.declared.outs.Outgoing.{Outgoing}
use Rattle.sig_core.specs.declared.signal.Body.{Body}
use Rattle.sig_core.specs.declared.signal.Body.TheVariants.{Client, Chain}
use Rattle.sig_core.specs.declared.signal.chain.ChainSignal.TheVariants.{Commit, Complete, Abort}
use Rattle.sig_core.specs.declared.signal.client.ClientSignal.TheVariants.{TcCommitConf, TcRollbackRep}
use Rattle.sig_core.specs.Same.{same_tx}
use Rattle.tc_block.specs.Tc.{tc_row}
use Rattle.node_core.proofs.HostCases.{each_mark, each_send}
use Rattle.node_core.specs.Blocks.{api_of, dih_of, lqh_of, tc_of}
use Rattle.node_core.specs.declared.host.Host.{Host}
use Rattle.node_core.specs.Requests.{is_request}
use Rattle.node_core.specs.Row.{row}
use Rattle.world_core.specs.Hosts.{home, tc_host}
use Rattle.world_core.specs.Machine.{after, machine, signals_of}
use Rattle.world_core.specs.Start.{Start}
use Rattle.host_laws.specs.Ways.{AreSaid, IsSaid, Way, back, back_by, closes, forth, forth_by, neither, sent_ways}
use Rattle.host_laws.specs.Ways.{tc_sends, way_of}
use Rattle.host_laws.proofs.coordinator.OneWay.{back_more, coordinators_say, forth_more}
use Rattle.host_laws.proofs.hosts.BlocksAlong.{at_own_node}
use Rattle.run_laws.specs.GivenUp.{is_carried_out, is_given_up}
use Rattle.run_laws.specs.Transit.{AreInTransit, Comes, IsRun, Takes, joined, logs_of}
use Rattle.run_laws.proofs.routes.Addressed.{comes_below}
use Rattle.run_laws.proofs.hosts.TcSaid.{tc_speaks}
use Rattle.run_laws.proofs.transit.Transit.{along_transit}
use Rattle.run_laws.proofs.ways.Marked.{IsMarked, api_marked, dih_marked, lqh_marked, tc_marked}
use Rattle.run_laws.proofs.ways.Passed.{IsPassed, api_passed, dih_passed, lqh_passed}
use Rattle.run_laws.proofs.transit.Weighing.{each_between, each_joins, each_taken}

-- a request goes no way
request_silent : (body : Body) → is_request body ≡ true → way_of body ≡ neither
request_silent (Chain (Commit tx key epoch chain at)) is = absurd cc
request_silent (Chain (Complete tx key chain at)) is = absurd cc
request_silent (Chain (Abort tx key)) is = absurd cc
request_silent (Client (TcCommitConf tx epoch)) is = absurd cc
request_silent (Client (TcRollbackRep tx why)) is = absurd cc
request_silent _ is = refl

module _ (start : Start) where
  -- who went a way by some log went it by each longer one
  newer_forth : (p : TxId → Bool) (h : ℕ) (newer log : List HostStep)
      → list_any p (sent_ways start forth_by h log) ≡ true
      → list_any p (sent_ways start forth_by h (newer ++ log)) ≡ true
  newer_forth p h [] log is = is
  newer_forth p h (e ∷ newer) log is =
      forth_more p (tc_sends (after start h (newer ++ log)) e.step.taken) (sent_ways start forth_by h (newer ++ log))
      (newer_forth p h newer log is)

  newer_back : (p : TxId → Bool) (h : ℕ) (newer log : List HostStep) → list_any p (sent_ways start back_by h log) ≡ true
      → list_any p (sent_ways start back_by h (newer ++ log)) ≡ true
  newer_back p h [] log is = is
  newer_back p h (e ∷ newer) log is =
      back_more p (tc_sends (after start h (newer ++ log)) e.step.taken) (sent_ways start back_by h (newer ++ log))
      (newer_back p h newer log is)

  pub carried_more : (small large : ℕ → List HostStep) (tx : TxId) → ((h : ℕ) → IsPast (small h) (large h))
      → is_carried_out start small tx ≡ true → is_carried_out start large tx ≡ true
  carried_more small large tx past is =
      let p = past (home start tx) in
      subst (λ log. list_any (same_tx tx) (sent_ways start forth_by (home start tx) log) ≡ true) (sym p.is)
      (newer_forth (same_tx tx) (home start tx) p.newer (small (home start tx)) is)

  pub given_more : (small large : ℕ → List HostStep) (tx : TxId) → ((h : ℕ) → IsPast (small h) (large h))
      → is_given_up start small tx ≡ true → is_given_up start large tx ≡ true
  given_more small large tx past is =
      let p = past (home start tx) in
      subst (λ log. list_any (same_tx tx) (sent_ways start back_by (home start tx) log) ≡ true) (sym p.is)
      (newer_back (same_tx tx) (home start tx) p.newer (small (home start tx)) is)

  -- what a signal of this way tells of the logs
  abbrev pub IsTold : (ℕ → List HostStep) → Way → Type 0
  IsTold logs (forth tx) = is_carried_out start logs tx ≡ true
  IsTold logs (back tx) = is_given_up start logs tx ≡ true
  IsTold logs (closes tx) = is_carried_out start logs tx ≡ true
  IsTold logs neither = Unit {0}

  -- and a mark
  abbrev pub IsMarkTold : (ℕ → List HostStep) → Mark → Type 0
  IsMarkTold logs (Applied tx key) = is_carried_out start logs tx ≡ true
  IsMarkTold logs (Reported tx (outcome.Committed epoch)) = is_carried_out start logs tx ≡ true
  IsMarkTold logs mark = Unit {0}

  pub record AllTold (logs : ℕ → List HostStep) (xs : List Addressed) : Type 0 where
    pub signals : Each (λ (x : Addressed). IsTold logs (way_of x.signal.body)) xs
    pub marks : (h : ℕ) → Each (λ (e : HostStep). Each (IsMarkTold logs) e.step.marks) (logs h)

  told_more : (small large : ℕ → List HostStep) → ((h : ℕ) → IsPast (small h) (large h)) → (w : Way) → IsTold small w
      → IsTold large w
  told_more small large past (forth tx) is = carried_more small large tx past is
  told_more small large past (back tx) is = given_more small large tx past is
  told_more small large past (closes tx) is = carried_more small large tx past is
  told_more small large past neither is = tt

  mark_more : (small large : ℕ → List HostStep) → ((h : ℕ) → IsPast (small h) (large h)) → (m : Mark)
      → IsMarkTold small m → IsMarkTold large m
  mark_more small large past (Applied tx key) is = carried_more small large tx past is
  mark_more small large past (Reported tx (outcome.Committed epoch)) is = carried_more small large tx past is
  mark_more small large past _ is = tt

  -- what is passed on, and marked, is told where what was taken is
  passed_told : (logs : ℕ → List HostStep) (taken w : Way) → IsTold logs taken → IsPassed taken w → IsTold logs w
  passed_told logs taken (forth tx) told is = subst (IsTold logs) is told
  passed_told logs taken (back tx) told is = absurd is
  passed_told logs taken (closes tx) told is = subst (IsTold logs) is told
  passed_told logs taken neither told is = tt

  all_passed : (logs : ℕ → List HostStep) (taken : Way) (sends : List Outgoing) → IsTold logs taken
      → Each (λ (o : Outgoing). IsPassed taken (way_of o.body)) sends
      → Each (λ (o : Outgoing). IsTold logs (way_of o.body)) sends
  all_passed logs taken sends told all =
      each_map (λ (o : Outgoing). IsPassed taken (way_of o.body)) (λ (o : Outgoing). IsTold logs (way_of o.body)) sends
      (λ o is. passed_told logs taken (way_of o.body) told is) all

  marked_told : (logs : ℕ → List HostStep) (taken : Way) (m : Mark) → IsTold logs taken → IsMarked taken m
      → IsMarkTold logs m
  marked_told logs taken (Applied tx key) told is = subst (IsTold logs) is told
  marked_told logs taken (Reported tx (outcome.Committed epoch)) told is = subst (IsTold logs) is told
  marked_told logs taken _ told is = tt

  all_marked : (logs : ℕ → List HostStep) (taken : Way) (marks : List Mark) → IsTold logs taken
      → Each (IsMarked taken) marks → Each (IsMarkTold logs) marks
  all_marked logs taken marks told all =
      each_map (IsMarked taken) (IsMarkTold logs) marks (λ m is. marked_told logs taken m told is) all

  module _ (es : List HostStep) (e : HostStep) (before between : List Addressed) (come : Comes start es e)
      (held : AllTold (logs_of start es) before) (takes : Takes e before between) where
    abbrev h : ℕ
    h = e.host

    abbrev old : ℕ → List HostStep
    old = logs_of start es

    abbrev now : ℕ → List HostStep
    now = logs_of start (e ∷ es)

    past : (g : ℕ) → IsPast (old g) (now g)
    past g = log_of-past (machine start) e es g

    taken_old : IsTold old (way_of e.step.taken.body)
    taken_old = by (is_request e.step.taken.body) refl
      where
        by : (b : Bool) → is_request e.step.taken.body ≡ b → IsTold old (way_of e.step.taken.body)
        by true is = subst (IsTold old) (sym (request_silent e.step.taken.body is)) tt
        by false is =
            each_taken (λ (x : Addressed). IsTold old (way_of x.signal.body)) e before between is takes held.signals

    taken_now : IsTold now (way_of e.step.taken.body)
    taken_now = told_more old now past (way_of e.step.taken.body) taken_old

    -- what a coordinator says
    said_told : (node : ℕ) → tc_host start node ≡ h → (w : Way)
        → IsSaid node (sent_ways start forth_by h (e ∷ old h)) (sent_ways start back_by h (e ∷ old h)) w → IsTold now w
    said_told node at w said = by w said
      where
        here : (f : Way → List TxId → List TxId) (tx : TxId) → tx.tc ≡ node
            → list_any (same_tx tx) (sent_ways start f h (e ∷ old h)) ≡ true
            → list_any (same_tx tx) (sent_ways start f (home start tx) (now (home start tx))) ≡ true
        here f tx own =
            event_own (machine start) e es (λ g log. list_any (same_tx tx) (sent_ways start f g log) ≡ true)
            (home start tx) (sym (ap (tc_host start) own ∙ at))

        by : (w : Way) → IsSaid node (sent_ways start forth_by h (e ∷ old h)) (sent_ways start back_by h (e ∷ old h)) w
            → IsTold now w
        by (forth tx) said = here forth_by tx said.0 said.1
        by (back tx) said = here back_by tx said.0 said.1
        by (closes tx) said = here forth_by tx said.0 said.1
        by neither said = tt

    abbrev g : Host
    g = after start h (old h)

    sends_told : Each (λ (o : Outgoing). IsTold now (way_of o.body)) (row g e.step.taken).effects.sends
    sends_told =
        each_send (λ (o : Outgoing). IsTold now (way_of o.body)) g e.step.taken (record {
          api = λ runs at. all_passed now (way_of e.step.taken.body) _ taken_now
              (api_passed (api_of g) e.step.taken.body);
          tc = λ runs at.
              each_map (λ (o : Outgoing). IsSaid (tc_of g).node (sent_ways start forth_by h (e ∷ old h))
              (sent_ways start back_by h (e ∷ old h)) (way_of o.body))
              (λ (o : Outgoing). IsTold now (way_of o.body))
              (tc_row (tc_of g) e.step.taken).effects.sends
              (λ o is. said_told (tc_of g).node
              (sym (at_own_node start h (old h) (comes_below start es e come) runs).is) (way_of o.body) is)
              (subst (λ sends. AreSaid g (sent_ways start forth_by h (e ∷ old h))
              (sent_ways start back_by h (e ∷ old h)) sends) (tc_speaks g e.step.taken runs at)
              (coordinators_say start h (old h) e));
          dih = λ runs at. all_passed now (way_of e.step.taken.body) _ taken_now
              (dih_passed (dih_of g) e.step.taken.body);
          rows = λ runs at. all_passed now (way_of e.step.taken.body) _ taken_now
              (lqh_passed (lqh_of g) e.step.taken.body);
        })

    marks_now : Each (IsMarkTold now) e.step.marks
    marks_now =
        subst (Each (IsMarkTold now)) (sym come.happens.step.fits.marks)
        (all_marked now (way_of e.step.taken.body) (row g e.step.taken).effects.marks taken_now
        (each_mark (IsMarked (way_of e.step.taken.body)) g e.step.taken (record {
          api = λ runs at. api_marked (api_of g) e.step.taken.body;
          tc = λ runs at. tc_marked (tc_of g) e.step.taken.body;
          dih = λ runs at. dih_marked (dih_of g) e.step.taken.body;
          rows = λ runs at. lqh_marked (lqh_of g) e.step.taken.body;
        })))

    told_next : AllTold now (joined (signals_of start h (old h) e) between)
    told_next = record {
      signals = each_joins (λ to body. IsTold now (way_of body)) start h (old h) e between sends_told
          (each_map (λ (x : Addressed). IsTold old (way_of x.signal.body))
          (λ (x : Addressed). IsTold now (way_of x.signal.body)) between
          (λ x is. told_more old now past (way_of x.signal.body) is)
          (each_between (λ (x : Addressed). IsTold old (way_of x.signal.body)) e before between takes held.signals));
      marks = λ g. each_next (machine start) (λ (f : HostStep). Each (IsMarkTold now) f.step.marks) es e g marks_now
          (each_map (λ (f : HostStep). Each (IsMarkTold old) f.step.marks)
          (λ (f : HostStep). Each (IsMarkTold now) f.step.marks) (old g)
          (λ f all. each_map (IsMarkTold old) (IsMarkTold now) f.step.marks (λ m is. mark_more old now past m is) all)
          (held.marks g));
    }

  pub all_told : (es : List HostStep) (xs : List Addressed) → IsRun start es → AreInTransit start es xs
      → AllTold (logs_of start es) xs
  all_told es xs run transit =
      along_transit start (λ es xs. AllTold (logs_of start es) xs) (record { signals = tt; marks = λ h. tt })
      (λ es e before between come rest held takes. told_next es e before between come held takes) es xs run transit

  -- and so of what an event takes
  pub taken_told : (es : List HostStep) (e : HostStep) (before between : List Addressed) → Comes start es e
      → AreInTransit start es before → Takes e before between → IsTold (logs_of start es) (way_of e.step.taken.body)
  taken_told es e before between come transit takes =
      taken_old es e before between come (all_told es before come.before transit) takes
