-- Along every run: a transaction is decided behind its beginning, and reported behind its decision.
use Rattle.std.proofs.Common.{◌≡◌, ◌≢◌, ◌≤◌, ℕ, ◌+◌, Bool, true, false, List, [], ◌∷◌, refl, sym, ap, ◌∙◌, subst, inl}
use Rattle.std.proofs.Common.{arith, true≢false}
use Rattle.std.specs.List.{list_any}
use Rattle.std.specs.Prelude.{Option, None, Some}
use Rattle.run_theory.proofs.EventCases.{event_cases, event_each}
use Rattle.run_theory.specs.Along.{Comes, IsKept}
use Rattle.run_theory.specs.Lists.{Each, IsIn, IsPast}
use Rattle.run_theory.specs.Runs.{log_of}
use Rattle.run_theory.proofs.Along.{along_signals_of_cuts}
use Rattle.run_theory.proofs.Links.{signal_below, step_above}
use Rattle.run_theory.proofs.Orders.{each_next}
use Rattle.run_theory.proofs.Pasts.{each_map}
use Rattle.run_theory.proofs.Runs.{log_of-own, log_of-past, logs_of_run}
use Rattle.world_core.specs.Steps.{HostStep}
use Rattle.sig_core.specs.declared.member.TxId.{TxId}
use Rattle.sig_core.specs.declared.outs.Outgoing.{Outgoing}
use Rattle.sig_core.specs.declared.signal.Body.{Body}
use Rattle.sig_core.specs.declared.signal.Body.TheVariants.{Client, Chain, Epoch}
use Rattle.sig_core.specs.declared.signal.chain.ChainSignal.TheVariants.{Commit}
use Rattle.sig_core.specs.declared.signal.client.ClientSignal.TheVariants.{TcBeginConf, TcCommitReq, TcCommitConf}
use Rattle.sig_core.specs.declared.signal.epoch.EpochSignal.TheVariants.{DiVerifyReq, DiVerifyConf}
use Rattle.node_core.specs.declared.host.Host.{Host}
use Rattle.node_core.specs.Blocks.{api_of, has_api, tc_of}
use Rattle.node_core.specs.Requests.{is_request}
use Rattle.world_core.specs.History.{is_reported}
use Rattle.world_core.specs.Hosts.{first_membership, home, host_for, first_hosts, started, tc_host}
use Rattle.world_core.specs.Machine.{addressed, after, all_addressed, counted, last_stamp, machine, sent_count}
use Rattle.world_core.specs.Machine.{signals_of, step_after}
use Rattle.world_core.specs.Start.{Start}
use Rattle.world_core.proofs.HostNumbers.{addressed_at, api_found, api_runs}
use Rattle.world_core.proofs.SentFacts.{last_is}
use Rattle.world_core.proofs.Stamped.{stamped}
use Rattle.host_laws.specs.Causes.{IsDecidedBelow, IsToldBelow, is_decision}
use Rattle.host_laws.specs.Kinds.{Kind, kind_of}
use Rattle.host_laws.specs.Kinds as kind
use Rattle.run_laws.specs.Laws.{IsClosedCut}
use Rattle.host_laws.proofs.api.Told.{AreTold, TellsBegun, ToldOf}
use Rattle.host_laws.proofs.hosts.HostGoes.{HostGoes, HostKnows, HostSays, host_goes}
use Rattle.host_laws.proofs.hosts.StartedHosts.{node_at, none_live, none_opened, one_part, tc_home}
use Rattle.tc_block.proofs.LiveSplit.{KeysOnce}
use Rattle.host_laws.proofs.coordinator.Numbers.{IsLive, IsNumbered, Tells, begun_by, put_kinds, verified_by}
use Rattle.run_laws.proofs.causes.Facts.{BeginsRightly, CommitsRightly, DecidesRightly, ReportsRightly, Says}
use Rattle.run_laws.proofs.causes.Facts.{SignalSays, decided_more, decision_of, report_of, request_other, says_more}
use Rattle.run_laws.proofs.causes.Facts.{told_more}

knows_more : (node : ℕ) (T D T' D' : TxId → Type 0) (s : Host) (bs vs : List TxId) → ((tx : TxId) → T tx → T' tx)
    → ((tx : TxId) → D tx → D' tx)
    → HostKnows node T D s bs vs → HostKnows node T' D' s bs vs
knows_more node T D T' D' s bs vs f g knows = record {
  told = each_map (λ t. ToldOf T t.tx) (λ t. ToldOf T' t.tx) (api_of s).opened (λ t. by t.tx) knows.told;
  numbered = record {
    own = is_numbered.own;
    once = is_numbered.once;
    live = each_map (IsLive node (tc_of s).next_seq D vs) (IsLive node (tc_of s).next_seq D' vs) (tc_of s).live
        (λ e is. record {
          tc = is.tc;
          below = is.below;
          decided = λ d. g e.0 (is.decided d);
          unverified = is.unverified;
        }) is_numbered.live;
    begun_below = is_numbered.begun_below;
    begun_apart = is_numbered.begun_apart;
    verified_below = is_numbered.verified_below;
    verified_apart = is_numbered.verified_apart;
  };
}
  where
    is_numbered : IsNumbered node D (tc_of s) bs vs
    is_numbered = knows.numbered

    by : (o : Option TxId) → ToldOf T o → ToldOf T' o
    by None is = tt
    by (Some tx) is = f tx is

module _ (start : Start) where
  -- all that host h, with this log, said to have begun, or asked for an epoch for
  abbrev pub sent_kinds : (Kind → List TxId → List TxId) → ℕ → List HostStep → List TxId
  sent_kinds f h [] = []
  sent_kinds f h (e ∷ log) = put_kinds f (step_after start h log e).effects.sends (sent_kinds f h log)

  abbrev pub ToldBy : (ℕ → List HostStep) → List HostStep → TxId → Type 0
  ToldBy logs log tx = IsToldBelow logs tx (last_stamp log + 1)

  abbrev pub DecidedBy : (ℕ → List HostStep) → List HostStep → TxId → Type 0
  DecidedBy logs log tx = IsDecidedBelow logs tx (last_stamp log + 1)

  abbrev pub KnowsBy : (ℕ → List HostStep) → ℕ → List HostStep → Type 0
  KnowsBy logs h log =
      HostKnows (node_at start h) (ToldBy logs log) (DecidedBy logs log) (after start h log) (sent_kinds begun_by h log)
      (sent_kinds verified_by h log)

  pub record AreCausal (logs : ℕ → List HostStep) : Type 0 where
    pub knows : (h : ℕ) → KnowsBy logs h (logs h)
    pub decisions : (h : ℕ) → Each (DecidesRightly start logs) (logs h)
    pub reports : Each (ReportsRightly logs) (logs 0)
    pub begins : Each (BeginsRightly start) (logs 0)
    pub commits : (h : ℕ) → Each (CommitsRightly logs) (logs h)

  started_knows : (h : ℕ) → KnowsBy (log_of (machine start) []) h []
  started_knows h = record {
    told = subst (λ opened. AreTold (ToldBy (log_of (machine start) []) []) opened) (sym (none_opened start h)) tt;
    numbered = record {
      own = refl;
      once = subst KeysOnce (sym (none_live start h)) tt;
      live = subst
          (Each (IsLive (node_at start h) (tc_of (started start h)).next_seq
          (DecidedBy (log_of (machine start) []) []) [])) (sym (none_live start h)) tt;
      begun_below = tt;
      begun_apart = tt;
      verified_below = tt;
      verified_apart = tt;
    };
  }

  -- one event more
  module _ (es : List HostStep) (e : HostStep) (come : Comes (machine start) (SignalSays start) AreCausal es e) where
    abbrev before : ℕ → List HostStep
    before = log_of (machine start) es

    abbrev now : ℕ → List HostStep
    now = log_of (machine start) (e ∷ es)

    abbrev h : ℕ
    h = e.host

    grown : (g : ℕ) → IsPast (before g) (now g)
    grown g = log_of-past (machine start) e es g

    own_log : now h ≡ e ∷ before h
    own_log = log_of-own (machine start) e es h refl

    here : IsIn e (now h)
    here = subst (IsIn e) (sym own_log) (inl refl)

    later : e.step.taken.stamp + 1 ≤ e.step.stamp
    later = let below = signal_below (machine start) h (before h) e come.happens.step in omega (arith, below)

    after_last : last_stamp (before h) + 1 ≤ e.step.stamp + 1
    after_last = let above = step_above (machine start) h (before h) e come.happens.step in
        omega (arith, above, last_is start h (before h))

    -- what the taken signal says
    taken_says : (k : Kind) → kind_of e.step.taken.body ≡ k → (k ≡ kind.other → ⊥)
        → Says start before (record { to = e.host; signal = e.step.taken }) k
    taken_says k is real = by (is_request e.step.taken.body) refl
      where
        by : (b : Bool) → is_request e.step.taken.body ≡ b
            → Says start before (record { to = e.host; signal = e.step.taken }) k
        by true asked = absurd (real (sym is ∙ request_other e.step.taken.body asked))
        by false asked = subst (Says start before (record { to = e.host; signal = e.step.taken })) is (come.told asked)

    tells_decided : (k : Kind) → kind_of e.step.taken.body ≡ k
        → Tells (λ tx. IsDecidedBelow now tx (e.step.stamp + 1)) k
    tells_decided (kind.decided tx) is = decided_more before now tx (e.step.taken.stamp + 1) (e.step.stamp + 1) grown
        (omega (arith, later)) (taken_says (kind.decided tx) is (λ same. absurd cc))
    tells_decided (kind.committing tx) is = decided_more before now tx (e.step.taken.stamp + 1) (e.step.stamp + 1) grown
        (omega (arith, later)) (taken_says (kind.committing tx) is (λ same. absurd cc))
    tells_decided (kind.begun tx) is = tt
    tells_decided (kind.wanted tx) is = tt
    tells_decided (kind.verified tx) is = tt
    tells_decided (kind.ended tx) is = tt
    tells_decided kind.other is = tt

    tells_begun : h ≡ 0 → (body : Body) → e.step.taken.body ≡ body
        → TellsBegun (λ tx. IsToldBelow now tx (e.step.stamp + 1)) (kind_of body)
    tells_begun at (Client (TcBeginConf name tx)) is = record {
      name = name;
      step = e;
      inside = subst (λ g. IsIn e (now g)) at here;
      told = is;
      below = omega arith;
    }
    tells_begun at (Client (TcCommitReq tx)) is = tt
    tells_begun at (Client (TcCommitConf tx epoch)) is = tt
    tells_begun at (Chain (Commit tx key epoch chain place)) is = tt
    tells_begun at (Epoch (DiVerifyReq tx ops)) is = tt
    tells_begun at (Epoch (DiVerifyConf tx epoch)) is = tt
    tells_begun at _ is = tt

    -- the signal's place is of the host
    place : host_for start e.step.taken.to ≡ h
    place = addressed_at start now (logs_of_run (machine start) (e ∷ es) (come.run, come.happens)) h e here

    abbrev Own : TxId → Type 0
    Own tx = h ≡ home start tx

    goes : HostGoes (node_at start h) Own (λ tx. IsToldBelow now tx (e.step.stamp + 1))
        (λ tx. IsDecidedBelow now tx (e.step.stamp + 1)) (after start h (before h)) (kind_of e.step.taken.body)
        (sent_kinds begun_by h (before h)) (sent_kinds verified_by h (before h)) (step_after start h (before h) e)
    goes =
        host_goes (node_at start h) Own (λ tx. IsToldBelow now tx (e.step.stamp + 1))
        (λ tx. IsDecidedBelow now tx (e.step.stamp + 1)) (after start h (before h)) e.step.taken
        (sent_kinds begun_by h (before h)) (sent_kinds verified_by h (before h))
        (knows_more (node_at start h) (ToldBy before (before h)) (DecidedBy before (before h))
        (λ tx. IsToldBelow now tx (e.step.stamp + 1)) (λ tx. IsDecidedBelow now tx (e.step.stamp + 1))
        (after start h (before h)) (sent_kinds begun_by h (before h)) (sent_kinds verified_by h (before h))
        (λ tx is. told_more before now tx (last_stamp (before h) + 1) (e.step.stamp + 1) grown after_last is)
        (λ tx is. decided_more before now tx (last_stamp (before h) + 1) (e.step.stamp + 1) grown after_last is)
        (come.all.law.knows h))
        (tells_decided (kind_of e.step.taken.body) refl)
        (λ runs. tells_begun (api_found start h (before h) runs) e.step.taken.body refl)
        (λ runs at tx of_node. tc_home start h (before h) e.step.taken.to place runs ∙ ap (tc_host start) (sym of_node))

    own_marks : e.step.marks ≡ (step_after start h (before h) e).effects.marks
    own_marks = come.happens.step.fits.marks

    knows_now : (g : ℕ) → KnowsBy now g (now g)
    knows_now =
        event_each (machine start) e es (KnowsBy now) goes.knows
        (λ g off. knows_more (node_at start g) (ToldBy before (before g)) (DecidedBy before (before g))
        (ToldBy now (before g)) (DecidedBy now (before g)) (after start g (before g))
        (sent_kinds begun_by g (before g)) (sent_kinds verified_by g (before g))
        (λ tx is. told_more before now tx (last_stamp (before g) + 1) (last_stamp (before g) + 1) grown
        (omega arith) is)
        (λ tx is. decided_more before now tx (last_stamp (before g) + 1) (last_stamp (before g) + 1) grown
        (omega arith) is) (come.all.law.knows g))

    decides_now : DecidesRightly start now e
    decides_now tx marked =
        let took : kind_of e.step.taken.body ≡ kind.verified tx =
        decision_of (kind_of e.step.taken.body) (step_after start h (before h) e).effects.marks tx goes.decides
        (ap (list_any (is_decision tx)) (sym own_marks) ∙ marked) in
        let says = taken_says (kind.verified tx) took (λ same. absurd cc) in
        record {
          told = told_more before now tx (e.step.taken.stamp + 1) e.step.stamp grown later says.0;
          from = says.1;
          to = says.2;
          took = took;
        }

    decisions_now : (g : ℕ) → Each (DecidesRightly start now) (now g)
    decisions_now g =
        each_next (machine start) (DecidesRightly start now) es e g decides_now
        (each_map (DecidesRightly start before) (DecidesRightly start now) (before g)
        (λ f rightly tx marked. let is = rightly tx marked in record {
          told = told_more before now tx f.step.stamp f.step.stamp grown (omega arith) is.told;
          from = is.from;
          to = is.to;
          took = is.took;
        })
        (come.all.law.decisions g))

    report_now : h ≡ 0 → ReportsRightly now e
    report_now at tx marked =
        let runs : has_api (after start h (before h)) ≡ true =
        subst (λ g. has_api (after start g (before g)) ≡ true) (sym at) (api_runs start (before 0)) in
        let took : kind_of e.step.taken.body ≡ kind.ended tx =
        report_of (kind_of e.step.taken.body) (step_after start h (before h) e).effects.marks tx (goes.reports runs)
        (ap (list_any (is_reported tx)) (sym own_marks) ∙ marked) in
        decided_more before now tx (e.step.taken.stamp + 1) e.step.stamp grown later
        (taken_says (kind.ended tx) took (λ same. absurd cc))

    reports_now : Each (ReportsRightly now) (now 0)
    reports_now =
        event_cases (machine start) e es 0 (Each (ReportsRightly now)) (λ at. (report_now at, old)) (λ off. old)
      where
        old : Each (ReportsRightly now) (before 0)
        old = each_map (ReportsRightly before) (ReportsRightly now) (before 0)
            (λ f rightly tx marked. decided_more before now tx f.step.stamp f.step.stamp grown (omega arith)
            (rightly tx marked)) come.all.law.reports

    begins_now : Each (BeginsRightly start) (now 0)
    begins_now =
        each_next (machine start) (BeginsRightly start) es e 0
        (λ tx is. taken_says (kind.begun tx) is (λ same. absurd cc)) come.all.law.begins

    commits_now : (g : ℕ) → Each (CommitsRightly now) (now g)
    commits_now g =
        each_next (machine start) (CommitsRightly now) es e g
        (λ tx took. decided_more before now tx (e.step.taken.stamp + 1) e.step.stamp grown later
        (taken_says (kind.committing tx) took (λ same. absurd cc)))
        (each_map (CommitsRightly before) (CommitsRightly now) (before g)
        (λ f rightly tx took. decided_more before now tx f.step.stamp f.step.stamp grown (omega arith)
        (rightly tx took)) (come.all.law.commits g))

    pub causal_step : AreCausal now
    causal_step = record {
      knows =
          knows_now;
      decisions = decisions_now;
      reports = reports_now;
      begins = begins_now;
      commits = commits_now;
    }

    -- what it sends says the truth
    one_says : (number : ℕ) (o : Outgoing) (k : Kind)
        → HostSays Own (λ tx. IsToldBelow now tx (e.step.stamp + 1)) (λ tx. IsDecidedBelow now tx (e.step.stamp + 1))
        (kind_of e.step.taken.body) (step_after start h (before h) e).effects.marks o k
        → Says start now (addressed (first_membership start) h e.step.stamp number o) k
    one_says number o (kind.begun tx) says = says
    one_says number o (kind.wanted tx) says = says
    one_says number o (kind.verified tx) says = (
      told_more before now tx (e.step.taken.stamp + 1) (e.step.stamp + 1) grown (omega (arith, later))
          (taken_says (kind.wanted tx) says.0 (λ same. absurd cc)),
      says.1,
      ap (host_for start) says.2 ∙ one_part start tx.tc,
    )
    one_says number o (kind.decided tx) says = record {
      host =
          h;
      step = e;
      inside = here;
      marked = ap (list_any (is_decision tx)) own_marks ∙ says;
      below = omega arith;
    }
    one_says number o (kind.committing tx) says = says
    one_says number o (kind.ended tx) says = says
    one_says number o kind.other says = tt

    all_say : (count : ℕ → ℕ) (sends : List Outgoing)
        → Each (λ (o : Outgoing). HostSays Own (λ tx. IsToldBelow now tx (e.step.stamp + 1))
        (λ tx. IsDecidedBelow now tx (e.step.stamp + 1)) (kind_of e.step.taken.body)
        (step_after start h (before h) e).effects.marks o (kind_of o.body)) sends
        → Each (λ x. SignalSays start x now) (all_addressed (first_membership start) h e.step.stamp count sends)
    all_say count [] all = tt
    all_say count (o ∷ more) all = (
      one_says (count (host_for start o.to)) o (kind_of o.body) all.0,
      all_say (counted (host_for start o.to) count) more all.1,
    )

    pub sends_say : Each (λ x. SignalSays start x now) (signals_of start h (before h) e)
    sends_say = all_say (sent_count start h (before h)) (step_after start h (before h) e).effects.sends goes.says

  causal_kept : IsKept (machine start) (SignalSays start) AreCausal
  causal_kept = record {
    start = record { knows = started_knows; decisions = λ h. tt; reports = tt; begins = tt; commits = λ h. tt };
    step = λ es e come. causal_step es e come;
    sends = λ es e come runs. sends_say es e come;
    closing = λ es e come stop j. absurd (true≢false (sym stop));
    stays = λ es e x come says. says_more start (log_of (machine start) es) (log_of (machine start) (e ∷ es)) x
        (kind_of x.signal.body) (log_of-past (machine start) e es) says;
  }

  -- so it is of every closed cut
  pub cuts_are_causal : (inside logs : ℕ → List HostStep) → IsClosedCut start inside logs → AreCausal inside
  cuts_are_causal inside logs is =
      (along_signals_of_cuts (machine start) (stamped start) (SignalSays start) AreCausal causal_kept
      (first_hosts start) inside logs is.within is.right is.cut is.closed).law
