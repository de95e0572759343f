-- A transaction of whose commit the client's side knows has begun, and it begins once.
use Rattle.std.proofs.Common.{◌≡◌, ◌≤◌, ◌++◌, ℕ, true, List, [], ◌∷◌, refl, sym, subst, arith}
use Rattle.run_theory.specs.Links.{sent}
use Rattle.run_theory.specs.Lists.{IsPast}
use Rattle.run_theory.proofs.Links.{log_past}
use Rattle.run_theory.proofs.Pasts.{each_in}
use Rattle.sig_core.specs.declared.mark.Mark.TheVariants.{Decided}
use Rattle.sig_core.specs.declared.member.TxId.{TxId}
use Rattle.world_core.specs.Start.{Start}
use Rattle.world_core.specs.Steps.{HostStep}
use Rattle.world_views.specs.Hosts.{started}
use Rattle.world_views.specs.Machine.{after, machine}
use Rattle.view_laws.specs.Order.{sound_machine}
use Rattle.moment_laws.specs.Moments.{IsMoment, logs_of}
use Rattle.moment_laws.specs.Places.{tc_of}
use Rattle.outcome_laws.specs.Counts.{coordinator_member, count_open, is_begin, is_report}
use Rattle.outcome_laws.specs.Decided.{IsBegun, IsDecided}
use Rattle.outcome_laws.specs.Know.{TellsTruly}
use Rattle.outcome_laws.specs.Once.{takes_in}
use Rattle.outcome_laws.specs.Tells.{IsRightMark, Tells}
use Rattle.outcome_laws.proofs.knowledge.Moments.{moments_know}
use Rattle.outcome_laws.proofs.knowledge.CommitsWereDecided.{marked_so}
use Rattle.outcome_laws.proofs.once.Begins.{begin_once}
use Rattle.outcome_laws.proofs.once.AlongLogs.{log_light}
use Rattle.outcome_laws.proofs.once.DecidesAndReports.{IsShell, client_light, in_client, of_client, reports_client}
use Rattle.outcome_laws.proofs.once.CoordinatorScale.{no_body}
use Rattle.outcome_laws.proofs.once.ReportedOnce.{shell_begins}
use Rattle.outcome_laws.proofs.order.ReportsBeforeAsks.{begun_counts}
use Rattle.commit_laws.specs.Traces.{is_known}
use Rattle.commit_laws.proofs.forth.Client.{IsToldOf, by_coordinator, by_takeover}
use Rattle.commit_laws.proofs.forth.KnownTold.{WasTold, known_told}

takes_older : (tx : TxId) (newer log : List HostStep)
    → takes_in (is_begin tx) log ≤ takes_in (is_begin tx) (newer ++ log)
takes_older tx [] log = omega arith
takes_older tx (e ∷ newer) log = let rest = takes_older tx newer log in omega (arith, rest)

module _ (start : Start) (all : ℕ → List HostStep) (es : List HostStep) (moment : IsMoment start all es) (tx : TxId)
  where
    abbrev logs : ℕ → List HostStep
    logs = logs_of start es

    -- it has begun
    begun : is_known start (logs_of start es) tx ≡ true → IsBegun start (logs_of start es) tx
    begun is = by (known_told start all es moment tx is)
      where
        of_decided : (epoch : ℕ) → IsDecided start logs tx epoch → IsBegun start logs tx
        of_decided epoch decided =
            marked_so (IsRightMark (IsDecided start logs) (IsBegun start logs)) (Decided tx epoch)
            (logs (tc_of start (coordinator_member tx)))
            ((moments_know start all es moment).right (tc_of start (coordinator_member tx))) decided

        by : WasTold start logs tx → IsBegun start logs tx
        by was = tells was.tells
          where
            truly : TellsTruly start logs was.signal
            truly =
                each_in (TellsTruly start logs) was.signal
                (sent (sound_machine start) was.from was.to (logs was.from))
                ((moments_know start all es moment).signals was.from was.to) was.there

            tells : IsToldOf tx was.signal.signal.body → IsBegun start logs tx
            tells (by_coordinator epoch same) =
                of_decided epoch (subst (Tells (IsDecided start logs) (IsBegun start logs)) same truly)
            tells (by_takeover epoch same) =
                of_decided epoch (subst (Tells (IsDecided start logs) (IsBegun start logs)) same truly)

    pub begun_some : is_known start (logs_of start es) tx ≡ true → 1 ≤ takes_in (is_begin tx) (logs_of start es 0)
    begun_some is = begun_counts tx (logs 0) (begun is)

    pub begun_once : takes_in (is_begin tx) (logs_of start es 0) ≤ 1
    begun_once =
        let past : IsPast (logs 0) (all 0) = moment.inside 0 in
        let once = begin_once tx start all moment.cluster 0 in
        let less : takes_in (is_begin tx) (logs 0) ≤ takes_in (is_begin tx) (all 0) =
        subst (λ w. takes_in (is_begin tx) (logs 0) ≤ takes_in (is_begin tx) w) (sym past.is)
        (takes_older tx past.newer (logs 0)) in
        omega (arith, once, less)

    none_first : in_client (count_open tx) (started start 0).parts ≡ 0
    unfolding started
    none_first = refl

    -- no more of it are open than have begun
    pub open_few : in_client (count_open tx) (after start 0 (logs_of start es 0)).parts
        ≤ takes_in (is_begin tx) (logs_of start es 0)
    open_few =
        let light =
        log_light (of_client no_body (is_report tx) (count_open tx) (is_begin tx)) IsShell
        (client_light no_body (is_report tx) (count_open tx) (is_begin tx) (reports_client tx)) start 0
        (shell_begins start) (logs 0) (log_past (machine start) 0 (moment.inside 0) (moment.cluster.right.local 0)) in
        let below = light.below in
        omega (arith, below, none_first)
