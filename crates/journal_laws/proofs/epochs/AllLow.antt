-- In all right logs of a life whose first epoch can be written all that are given can.
use Rattle.std.proofs.Common.{◌≡◌, inl, inr, ℕ, true, List, [], ◌∷◌, refl, sym, ◌∙◌, subst}
use Rattle.run_theory.proofs.Orders.{each_log}
use Rattle.run_theory.proofs.Pasts.{each_in}
use Rattle.run_theory.specs.Lists.{Each, IsPast}
use Rattle.run_theory.specs.Logs.{IsLog}
use Rattle.sig_core.specs.declared.mark.Mark.{Mark}
use Rattle.sig_core.specs.declared.mark.Mark.TheVariants.{Decided}
use Rattle.sig_core.specs.declared.member.TxId.{TxId}
use Rattle.sig_core.specs.declared.signal.Body.{Body}
use Rattle.sig_core.specs.declared.signal.Body.TheVariants.{Chain, Epoch, Host}
use Rattle.sig_core.specs.declared.signal.chain.ChainSignal.TheVariants.{Commit}
use Rattle.sig_core.specs.declared.signal.host.HostSignal.TheVariants.{Closed}
use Rattle.node_views.specs.declared.parts.Parts.{Parts}
use Rattle.node_views.specs.declared.parts.Parts.TheVariants.{Shell, Main, Tc, Ldm}
use Rattle.node_views.specs.Replies.{giving}
use Rattle.node_views.specs.WellFormed.{is_well_formed}
use Rattle.world_core.specs.Start.{NobodyStarts, Start}
use Rattle.world_core.specs.Steps.{HostStep}
use Rattle.world_views.specs.Machine.{IsOwnWork, after, machine}
use Rattle.moment_laws.specs.Moments.{IsMoment, logs_of}
use Rattle.moment_laws.specs.Places.{tc_of}
use Rattle.moment_laws.proofs.MomentSignals.{taken_told}
use Rattle.moment_laws.proofs.MomentViews.{moment_less}
use Rattle.outcome_laws.specs.Counts.{coordinator_member}
use Rattle.outcome_laws.specs.Decided.{IsBegun, IsDecided, IsMarked}
use Rattle.outcome_laws.specs.Know.{TellsTruly}
use Rattle.outcome_laws.specs.Tells.{Tells}
use Rattle.outcome_laws.proofs.knowledge.Moments.{moments_know}
use Rattle.outcome_laws.proofs.order.ReportsBeforeAsks.{marked_behind}
use Rattle.journal_laws.proofs.Telling.{TellWell, all_take, host_well}
use Rattle.journal_laws.proofs.epochs.Low.{IsLow, IsLowTold, MarksLow}
use Rattle.journal_laws.proofs.epochs.Parts.{PartsLow, host_begins, step_low}

-- replies that are told change nothing
gives : (parts : Parts) → PartsLow parts → PartsLow (giving parts [])
gives (Shell p) low = low
gives (Main p) low = low
gives (Tc p) low = low
gives (Ldm p) low = low

own_low : (start : Start) (h : ℕ) (body : Body) → IsOwnWork start h body → IsLowTold body
own_low start h (Epoch signal) own = absurd own
own_low start h body own = tt

past_marked : (mark : Mark) (log more : List HostStep) → IsPast log more → IsMarked mark log → IsMarked mark more
past_marked mark log more past is = subst (IsMarked mark) (sym past.is) (marked_behind mark past.newer log is)

-- a commit is ordered in such an epoch
abbrev pub CommitsLow : Body → Type 0
CommitsLow (Chain (Commit tx key epoch members at)) = IsLow epoch
CommitsLow body = Unit {0}

module _ (start : Start) (low : IsLow start.epoch) where
  abbrev Any : (ℕ → List HostStep) → Type 0
  Any logs = Unit {0}

  tell : NobodyStarts start → TellWell start Any IsLowTold PartsLow
  tell nobody = record {
    begins = host_begins start nobody low;
    gives = gives;
    steps = λ h s x low told. let step = step_low h s x low told in (step.0, step.1.0);
    closes = λ cause. tt;
    asks = λ es e any own. own_low start e.host e.step.taken.body own.work;
    shorter = λ es e any. tt;
  }

  abbrev TakesLow : HostStep → Type 0
  TakesLow e = IsLowTold e.step.taken.body

  -- whoever is decided has such an epoch
  decided_in : NobodyStarts start → (h : ℕ) (log : List HostStep) → IsLog (machine start) h log → Each TakesLow log
      → (tx : TxId)
      (epoch : ℕ) → IsMarked (Decided tx epoch) log → IsLow epoch
  decided_in nobody h [] local takes tx epoch is = absurd is
  decided_in nobody h (e ∷ log) local takes tx epoch (inl there) =
      let before = host_well start Any IsLowTold PartsLow (tell nobody) h log takes.1 in
      let marks = (step_low h (after start h log) e.step.taken before takes.0).1.1 in
      each_in MarksLow (Decided tx epoch) e.step.marks (subst (Each MarksLow) (sym local.0.fits.marks) marks) there
  decided_in nobody h (e ∷ log) local takes tx epoch (inr older) =
      decided_in nobody h log local.1 takes.1 tx epoch older

  module _ (all : ℕ → List HostStep) where
    decided_low : (es : List HostStep) → IsMoment start all es → (tx : TxId) (epoch : ℕ)
        → IsDecided start (logs_of start es) tx epoch → IsLow epoch
    decided_low es moment tx epoch is =
        let h : ℕ = tc_of start (coordinator_member tx) in
        decided_in moment.cluster.nobody h (all h) (moment.cluster.right.local h)
        (all_take start Any IsLowTold PartsLow (tell moment.cluster.nobody) all moment.cluster tt h) tx epoch
        (past_marked (Decided tx epoch) (logs_of start es h) (all h) (moment.inside h) is)

    -- so is whoever is ordered to be committed
    abbrev pub TakesCommits : HostStep → Type 0
    TakesCommits e = is_well_formed start.shape e.step.taken ≡ true → CommitsLow e.step.taken.body

    commit_low : (e : HostStep) (es : List HostStep) → IsMoment start all (e ∷ es) → TakesCommits e
    commit_low e es moment sound = by e.step.taken.body refl
      where
        less : IsMoment start all es
        less = moment_less start all e es moment

        by : (body : Body) → e.step.taken.body ≡ body → CommitsLow body
        by (Chain (Commit tx key epoch members at)) is =
            let tells : Tells (IsDecided start (logs_of start es)) (IsBegun start (logs_of start es)) e.step.taken.body
            =
            taken_told start (TellsTruly start (logs_of start es)) all e es moment
            (moments_know start all es less).signals sound
            (λ own. absurd (subst (IsOwnWork start e.host) is own))
            (λ closed. let differ : Chain (Commit tx key epoch members at) ≡ Host (Closed closed.cause) =
            sym is ∙ closed.is in absurd cc) in
            decided_low es less tx epoch
            (subst (Tells (IsDecided start (logs_of start es)) (IsBegun start (logs_of start es))) is tells)
        by body is = tt

    events_low : (es : List HostStep) → IsMoment start all es → Each TakesCommits es
    events_low [] moment = tt
    events_low (e ∷ es) moment =
        (commit_low e es moment, events_low es (moment_less start all e es moment))

    pub commits_low : (es : List HostStep) → IsMoment start all es → (h : ℕ)
        → Each TakesCommits (logs_of start es h)
    commits_low es moment h = each_log (machine start) TakesCommits es h (events_low es moment)
