-- Whoever is reported aborted since the cluster is down is never decided: no commit of it is asked for, so no epoch
-- either.
use Rattle.std.proofs.Common.{◌≡◌, ◌≢◌, ◌≤◌, ◌<◌, ◌+◌, ◌⊎◌, ◌||◌, ◌%◌, ℕ, zero, suc, Bool, true, false, List, [], ◌∷◌}
use Rattle.std.proofs.Common.{ap, arith, inl, inr, refl, subst, sym}
use Rattle.std.proofs.lemmas.Bool.{cases_lt}
use Rattle.std.specs.List.{count_by}
use Rattle.run_theory.specs.Lists.{Each, IsIn}
use Rattle.sig_core.specs.declared.mark.Mark.{Mark}
use Rattle.sig_core.specs.declared.mark.Mark.TheVariants.{Reported}
use Rattle.sig_core.specs.declared.member.Member.{Member}
use Rattle.sig_core.specs.declared.member.TxId.{TxId}
use Rattle.sig_core.specs.declared.outcome.AbortCause.TheVariants as cause
use Rattle.sig_core.specs.declared.outcome.Outcome.TheVariants as outcome
use Rattle.sig_core.specs.declared.place.Part.{Part}
use Rattle.sig_core.specs.declared.place.Part.TheVariants as kind
use Rattle.sig_core.specs.declared.signal.Body.{Body}
use Rattle.sig_core.specs.declared.signal.Body.TheVariants.{Client, Host}
use Rattle.sig_core.specs.declared.signal.client.ClientSignal.TheVariants.{TcRollbackRep}
use Rattle.sig_core.proofs.Keys.{same_tx-self}
use Rattle.tc_block.specs.Complete.{one_if}
use Rattle.world_core.specs.Entries.{entries}
use Rattle.world_core.specs.Hosts.{hosts, member_at, part_by}
use Rattle.world_core.specs.Start.{NobodyStarts, Start, made}
use Rattle.world_core.specs.Steps.{HostStep}
use Rattle.world_views.specs.Hosts.{part_started, started}
use Rattle.world_views.proofs.AllBegin.{started_behind}
use Rattle.view_laws.specs.Runs.{AreOfCluster}
use Rattle.moment_laws.proofs.MomentHosts.{HasNoTc, TcHost, of_none, of_tc, tc_host_is}
use Rattle.moment_laws.specs.Places.{tc_of}
use Rattle.outcome_laws.specs.Counts.{coordinator_member, count_unwished, is_asking, is_begin, is_wish}
use Rattle.outcome_laws.specs.Decided.{IsMarked}
use Rattle.outcome_laws.specs.Down.{TakesNoDown, TellsNoDown}
use Rattle.outcome_laws.specs.Once.{marks_in, takes_in}
use Rattle.outcome_laws.specs.Outcomes.{NoneThatWasDownWasDecided}
use Rattle.outcome_laws.proofs.client.ReportsAndWishes.{is_down_answer, is_down_report}
use Rattle.outcome_laws.proofs.once.Begins.{apart_sends, asks_elsewhere, begin_once, no_tc_sends, nowhere_sends}
use Rattle.outcome_laws.proofs.once.Begins.{none_taken, only_asks}
use Rattle.outcome_laws.proofs.once.DecidedOnce.{decides_asked, entries_are, none_has}
use Rattle.outcome_laws.proofs.downfall.NobodyIsTold.{no_down_is_told}
use Rattle.outcome_laws.proofs.once.TakenFromLinks.{AreSentOnly, takes_few}
use Rattle.outcome_laws.proofs.once.AlongLogs.{link_count, log_light, sends_in}
use Rattle.outcome_laws.proofs.once.DecidesAndReports.{IsShell, begins_or_downs, client_light, in_client, of_client}
use Rattle.outcome_laws.proofs.once.DecidesAndReports.{wishes_client}
use Rattle.outcome_laws.proofs.once.NobodyElse.{IsBeside, asking_coordinators, beside_light, of_nobody, wishes_apart}
use Rattle.outcome_laws.proofs.once.Counted.{uncounted_asking, uncounted_wish}
use Rattle.outcome_laws.proofs.once.ReportedOnce.{shell_begins}
use Rattle.outcome_laws.proofs.once.AsksAreWished.{asks_wished}
use Rattle.outcome_laws.proofs.coordinators.Lists.{count_more}

-- who is told of no such abort isn't told of one of this transaction
no_answer : (tx : TxId) (body : Body) → TellsNoDown body → is_down_answer tx body ≡ false
no_answer tx (Client (TcRollbackRep other cause.Down)) none = absurd none
no_answer tx _ none = refl

takes_none : (tx : TxId) (log : List HostStep) → Each TakesNoDown log → takes_in (is_down_answer tx) log ≡ 0
takes_none tx [] none = refl
takes_none tx (e ∷ log) none =
    omega (arith, ap one_if (no_answer tx e.step.taken.body none.0), takes_none tx log none.1)

-- a mark that passes a test counts
marked_some : (p : Mark → Bool) (mark : Mark) → p mark ≡ true → (marks : List Mark) → IsIn mark marks
    → 1 ≤ count_by p marks
marked_some p mark is [] there = absurd there
marked_some p mark is (other ∷ marks) (inl same) =
    omega (arith, count_more p other marks, ap one_if (subst (λ (m : Mark). p m ≡ true) same is))
marked_some p mark is (other ∷ marks) (inr there) =
    omega (arith, count_more p other marks, marked_some p mark is marks there)

marks_some : (p : Mark → Bool) (mark : Mark) → p mark ≡ true → (log : List HostStep) → IsMarked mark log
    → 1 ≤ marks_in p log
marks_some p mark is [] marked = absurd marked
marks_some p mark is (e ∷ log) (inl there) = omega (arith, marked_some p mark is e.step.marks there)
marks_some p mark is (e ∷ log) (inr older) = omega (arith, marks_some p mark is log older)

-- signals that pass one of two tests are no more than those that pass each
either_few : (p q : Body → Bool) (log : List HostStep)
    → takes_in (λ body. p body || q body) log ≤ takes_in p log + takes_in q log
either_few p q [] = omega arith
either_few p q (e ∷ log) = omega (arith, either_few p q log, by (p e.step.taken.body) (q e.step.taken.body))
  where
    by : (a b : Bool) → one_if (a || b) ≤ one_if a + one_if b
    by true true = omega arith
    by true false = omega arith
    by false b = omega arith

-- a host of a node without a coordinator runs its membership, or its rows
pub beside_is : (start : Start) (nobody : NobodyStarts start) (k : ℕ) → HasNoTc (started start (suc k)).parts
    → IsBeside (started start (suc k)).parts
beside_is start nobody k none =
    let same = ap (λ s. s.parts) (started_behind start nobody k) in
    subst IsBeside (sym same) (by (part_by (k % 3)) (member_at (made start) (suc k)) (subst HasNoTc same none))
  where
    by : (part : Part) (me : Member) → HasNoTc (part_started start part me).parts
        → IsBeside (part_started start part me).parts
    by kind.Main me none = tt
    by kind.Tc me none = absurd none
    by kind.Ldm me none = tt

module _ (start : Start) (logs : ℕ → List HostStep) (are : AreOfCluster start logs) (tx : TxId) where
  pub only_wishes : AreSentOnly (is_wish tx)
  only_wishes (Host signal) own = refl
  only_wishes body own = absurd cc

  -- no node asks for a commit
  pub nodes_wish : (h : ℕ) → h ≢ 0 → sends_in (is_wish tx) start h (logs h) ≡ 0
  nodes_wish zero other = absurd (other refl)
  nodes_wish (suc k) other = by (cases_lt (suc k) (hosts start))
    where
      of_host : TcHost start (suc k) → sends_in (is_wish tx) start (suc k) (logs (suc k)) ≡ 0
      of_host (of_tc me there at) =
          subst (λ (h : ℕ). sends_in (is_wish tx) start h (logs h) ≡ 0) (sym at)
          (apart_sends (is_wish tx) (uncounted_wish tx) start logs are me there (wishes_apart tx me))
      of_host (of_none none) =
          let is =
          log_light (of_nobody (is_wish tx)) IsBeside (beside_light (is_wish tx) (uncounted_wish tx)) start (suc k)
          (beside_is start are.nobody k none) (logs (suc k)) (are.right.local (suc k)) in
          omega (arith, is.below, none_taken (logs (suc k)))

      by : (suc k < hosts start) ⊎ (hosts start ≤ suc k) → sends_in (is_wish tx) start (suc k) (logs (suc k)) ≡ 0
      by (inl low) = of_host (tc_host_is start are.nobody (suc k) low)
      by (inr high) = nowhere_sends (is_wish tx) (uncounted_wish tx) start logs are (suc k) high

  module _ (down : IsMarked (Reported tx (outcome.Aborted cause.Down)) (logs 0)) where
    none_unwished : in_client (count_unwished tx) (started start 0).parts ≡ 0
    unfolding started
    none_unwished = refl

    -- nor does the client's side, which has reported it so
    client_wishes : sends_in (is_wish tx) start 0 (logs 0) ≡ 0
    client_wishes =
        let light =
        log_light (of_client (is_wish tx) (is_down_report tx) (count_unwished tx) (begins_or_downs tx)) IsShell
        (client_light (is_wish tx) (is_down_report tx) (count_unwished tx) (begins_or_downs tx) (wishes_client tx))
        start 0 (shell_begins start) (logs 0) (are.right.local 0) in
        omega (
          arith,
          light.below,
          none_unwished,
          either_few (is_begin tx) (is_down_answer tx) (logs 0),
          begin_once tx start logs are 0,
          takes_none tx (logs 0) (no_down_is_told start logs are 0),
          marks_some (is_down_report tx) (Reported tx (outcome.Aborted cause.Down)) (same_tx-self tx) (logs 0) down,
        )

    no_wishes : (j : ℕ) → takes_in (is_wish tx) (logs j) ≤ 0
    no_wishes j =
        omega (
          arith,
          takes_few (is_wish tx) only_wishes start 0 logs are.right j
              (λ i other. omega (arith, nodes_wish i other, link_count (is_wish tx) start i j (logs i))),
          link_count (is_wish tx) start 0 j (logs 0),
          client_wishes,
        )

    -- so nobody asks for an epoch
    its_asks :
        sends_in (is_asking tx) start (tc_of start (coordinator_member tx))
        (logs (tc_of start (coordinator_member tx)))
        ≡ 0
    its_asks = by (cases_lt h (hosts start))
      where
        h : ℕ
        h = tc_of start (coordinator_member tx)

        of_host : TcHost start h → sends_in (is_asking tx) start h (logs h) ≡ 0
        of_host (of_tc me there at) =
            subst (λ (k : ℕ). sends_in (is_asking tx) start k (logs k) ≡ 0) (sym at)
            (asks_wished tx start are.nobody me there (logs (tc_of start me)) (are.right.local (tc_of start me))
            (no_wishes (tc_of start me)))
        of_host (of_none none) =
            no_tc_sends (is_asking tx) (uncounted_asking tx) start logs are (asking_coordinators tx) h none

        by : (h < hosts start) ⊎ (hosts start ≤ h) → sends_in (is_asking tx) start h (logs h) ≡ 0
        by (inl low) = of_host (tc_host_is start are.nobody h low)
        by (inr high) = nowhere_sends (is_asking tx) (uncounted_asking tx) start logs are h high

    no_asks : (j : ℕ) → takes_in (is_asking tx) (logs j) ≤ 0
    no_asks j =
        let c = tc_of start (coordinator_member tx) in
        omega (
          arith,
          takes_few (is_asking tx) (only_asks tx start logs are) start c logs are.right j
              (λ i other.
              omega (arith, asks_elsewhere tx start logs are i other, link_count (is_asking tx) start i j (logs i))),
          link_count (is_asking tx) start c j (logs c),
          its_asks,
        )

pub none_down_decided : NoneThatWasDownWasDecided
none_down_decided start logs are tx down =
    let c = tc_of start (coordinator_member tx) in
    none_has tx (entries (hosts start) logs)
    (omega (
      arith,
      (entries_are start logs are tx (hosts start)).few,
      decides_asked tx start are.nobody c (logs c) (are.right.local c),
      no_asks start logs are tx down c,
    ))
