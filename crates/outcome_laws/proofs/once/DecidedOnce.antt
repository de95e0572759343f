-- A transaction is decided once at most, and stands once at most among the entries.
use Rattle.std.proofs.Common.{◌≡◌, ◌≢◌, ◌≤◌, ◌+◌, ◌⊎◌, ◌∙◌, ◌%◌, ℕ, zero, suc, Bool, true, false, List, [], ◌∷◌, ap}
use Rattle.std.proofs.Common.{arith, inl, inr, refl, subst}
use Rattle.std.proofs.lemmas.Bool.{cases_eq}
use Rattle.std.specs.List.{count_by}
use Rattle.std.specs.Prelude.{if◌then◌else◌}
use Rattle.run_theory.specs.Lists.{Each}
use Rattle.run_theory.specs.Logs.{IsLog}
use Rattle.sig_core.specs.declared.entry.Entry.{Entry}
use Rattle.sig_core.specs.declared.mark.Mark.{Mark}
use Rattle.sig_core.specs.declared.mark.Mark.TheVariants.{Decided}
use Rattle.sig_core.specs.declared.member.TxId.{TxId}
use Rattle.sig_core.specs.declared.member.Member.{Member}
use Rattle.sig_core.specs.declared.place.Part.{Part}
use Rattle.sig_core.specs.declared.place.Part.TheVariants.{Ldm, Main, Tc}
use Rattle.sig_core.specs.Same.{same_tx}
use Rattle.sig_core.proofs.Keys.{same_tx-self}
use Rattle.sig_core.proofs.TxLemmas.{same_tx-is}
use Rattle.tc_block.specs.Complete.{one_if}
use Rattle.world_core.specs.Entries.{entries, entries_in, entries_of, entry_of, insert, insert_all, is_before}
use Rattle.world_core.specs.Hosts.{hosts, member_at, part_by}
use Rattle.world_core.specs.Start.{NobodyStarts, Start, made}
use Rattle.world_core.specs.Steps.{HostStep}
use Rattle.world_views.specs.Hosts.{part_started, started}
use Rattle.world_views.specs.Machine.{machine}
use Rattle.world_views.proofs.AllBegin.{started_behind}
use Rattle.view_laws.specs.Runs.{AreOfCluster}
use Rattle.moment_laws.proofs.MomentRuns.{have_moments}
use Rattle.moment_laws.specs.Places.{tc_of}
use Rattle.outcome_laws.specs.Counts.{coordinator_member, is_asking, is_decision}
use Rattle.outcome_laws.specs.Once.{marks_in, takes_in}
use Rattle.outcome_laws.specs.Outcomes.{AreOnce, TransactionsAreDecidedOnce}
use Rattle.outcome_laws.proofs.knowledge.DecidedAtOwnHost.{AreDecidedHere, IsDecidedHere, all_own}
use Rattle.outcome_laws.proofs.once.Begins.{ask_once}
use Rattle.outcome_laws.proofs.once.AlongLogs.{log_light}
use Rattle.outcome_laws.proofs.once.DecidesAndReports.{IsAny, decisions_light, may_decide, of_decisions}
use Rattle.outcome_laws.proofs.coordinators.Lists.{count_more}

-- no host begins with requests that it holds
none_held : (tx : TxId) (start : Start) (nobody : NobodyStarts start) (h : ℕ)
    → may_decide tx (started start h).parts ≡ 0
unfolding started
none_held tx start nobody zero = refl
none_held tx start nobody (suc k) =
    ap (λ s. may_decide tx s.parts) (started_behind start nobody k)
    ∙ by (part_by (k % 3)) (member_at (made start) (suc k))
  where
    by : (part : Part) (me : Member) → may_decide tx (part_started start part me).parts ≡ 0
    by Main me = refl
    by Tc me = refl
    by Ldm me = refl

-- a host decides a transaction no more often than it is asked to
pub decides_asked : (tx : TxId) (start : Start) (nobody : NobodyStarts start) (h : ℕ) (log : List HostStep)
    → IsLog (machine start) h log
    → marks_in (is_decision tx) log ≤ takes_in (is_asking tx) log
decides_asked tx start nobody h log is =
    let light = log_light (of_decisions tx) IsAny (decisions_light tx) start h tt log is in
    omega (arith, light.below, none_held tx start nobody h)

-- a step adds an entry of a transaction for each decision of it
pub step_entries : (tx : TxId) (h stamp : ℕ) (log : List HostStep) (marks : List Mark) (before : List Entry)
    → count_by (λ (a : Entry). same_tx a.tx tx) (entries_in h stamp log marks before)
    ≡ count_by (is_decision tx) marks + count_by (λ (a : Entry). same_tx a.tx tx) before
step_entries tx h stamp log [] before = omega arith
step_entries tx h stamp log (Decided u epoch ∷ marks) before =
    let one = entry_of h stamp log u epoch in
    omega (
      arith,
      step_entries tx h stamp log marks (one ∷ before),
      count_more (λ (a : Entry). same_tx a.tx tx) one before,
      count_more (is_decision tx) (Decided u epoch) marks,
    )
step_entries tx h stamp log (mark ∷ marks) before =
    omega (arith, step_entries tx h stamp log marks before, count_more (is_decision tx) mark marks)

module _ (start : Start) (logs : ℕ → List HostStep) (are : AreOfCluster start logs) (tx : TxId) where
  -- and only the host of its coordinator does
  decided_here : (h : ℕ) → Each (AreDecidedHere start h) (logs h)
  decided_here h =
      let moments = have_moments start logs are in
      subst (λ log. Each (AreDecidedHere start h) log) (moments.whole h)
      ((all_own start logs moments.events moments.is).decided h)

  marked_elsewhere : (h : ℕ) → h ≢ tc_of start (coordinator_member tx) → (marks : List Mark)
      → Each (IsDecidedHere start h) marks → count_by (is_decision tx) marks ≡ 0
  marked_elsewhere h other [] here = refl
  marked_elsewhere h other (mark ∷ marks) here =
      omega (
        arith,
        count_more (is_decision tx) mark marks,
        ap one_if (by mark here.0),
        marked_elsewhere h other marks here.1,
      )
    where
      apart : (u : TxId) → h ≡ tc_of start (coordinator_member u) → (b : Bool) → same_tx u tx ≡ b → b ≡ false
      apart u at true is =
          absurd (other (at ∙ ap (λ (v : TxId). tc_of start (coordinator_member v)) (same_tx-is u tx is)))
      apart u at false is = refl

      by : (mark : Mark) → IsDecidedHere start h mark → is_decision tx mark ≡ false
      by (Decided u epoch) at = apart u at (same_tx u tx) refl
      by mark at = refl

  log_elsewhere : (h : ℕ) → h ≢ tc_of start (coordinator_member tx) → (log : List HostStep)
      → Each (AreDecidedHere start h) log → marks_in (is_decision tx) log ≡ 0
  log_elsewhere h other [] here = refl
  log_elsewhere h other (e ∷ log) here =
      omega (arith, marked_elsewhere h other e.step.marks here.0, log_elsewhere h other log here.1)

  pub none_elsewhere : (h : ℕ) → h ≢ tc_of start (coordinator_member tx) → marks_in (is_decision tx) (logs h) ≡ 0
  none_elsewhere h other = log_elsewhere h other (logs h) (decided_here h)

  pub decided_few : (h : ℕ) → marks_in (is_decision tx) (logs h) ≤ 1
  decided_few h =
      omega (arith, decides_asked tx start are.nobody h (logs h) (are.right.local h), ask_once tx start logs are h)

  log_entries : (h : ℕ) (log : List HostStep)
      → count_by (λ (a : Entry). same_tx a.tx tx) (entries_of h log) ≡ marks_in (is_decision tx) log
  log_entries h [] = refl
  log_entries h (e ∷ log) =
      omega (arith, step_entries tx h e.step.stamp (e ∷ log) e.step.marks (entries_of h log), log_entries h log)

  inserted : (a : Entry) (list : List Entry)
      → count_by (λ (a : Entry). same_tx a.tx tx) (insert a list)
      ≡ one_if (same_tx a.tx tx) + count_by (λ (a : Entry). same_tx a.tx tx) list
  inserted a [] = count_more (λ (a : Entry). same_tx a.tx tx) a []
  inserted a (b ∷ rest) = by (is_before a b) (inserted a rest)
    where
      by : (first : Bool)
          → count_by (λ (a : Entry). same_tx a.tx tx) (insert a rest)
          ≡ one_if (same_tx a.tx tx) + count_by (λ (a : Entry). same_tx a.tx tx) rest
          → count_by (λ (a : Entry). same_tx a.tx tx) (if first then a ∷ b ∷ rest else b ∷ insert a rest)
          ≡ one_if (same_tx a.tx tx) + count_by (λ (a : Entry). same_tx a.tx tx) (b ∷ rest)
      by true more = count_more (λ (a : Entry). same_tx a.tx tx) a (b ∷ rest)
      by false more =
          omega (
            arith,
            more,
            count_more (λ (a : Entry). same_tx a.tx tx) b (insert a rest),
            count_more (λ (a : Entry). same_tx a.tx tx) b rest,
          )

  all_inserted : (more into : List Entry)
      → count_by (λ (a : Entry). same_tx a.tx tx) (insert_all more into)
      ≡ count_by (λ (a : Entry). same_tx a.tx tx) more + count_by (λ (a : Entry). same_tx a.tx tx) into
  all_inserted [] into = omega arith
  all_inserted (a ∷ more) into =
      omega (
        arith,
        inserted a (insert_all more into),
        all_inserted more into,
        count_more (λ (a : Entry). same_tx a.tx tx) a more,
      )

  -- all are of its coordinator's host
  pub record AreOf (n count : ℕ) : Type 0 where
    pub few : count ≤ marks_in (is_decision tx) (logs (tc_of start (coordinator_member tx)))
    pub below : n ≤ tc_of start (coordinator_member tx) → count ≡ 0

  pub entries_are : (n : ℕ) → AreOf n (count_by (λ (a : Entry). same_tx a.tx tx) (entries n logs))
  entries_are zero = record { few = omega arith; below = λ low. refl }
  entries_are (suc n) = by (cases_eq n (tc_of start (coordinator_member tx))) (entries_are n)
    where
      c : ℕ
      c = tc_of start (coordinator_member tx)

      all : count_by (λ (a : Entry). same_tx a.tx tx) (entries (suc n) logs)
          ≡ marks_in (is_decision tx) (logs n) + count_by (λ (a : Entry). same_tx a.tx tx) (entries n logs)
      all = omega (arith, all_inserted (entries_of n (logs n)) (entries n logs), log_entries n (logs n))

      by : (n ≡ c) ⊎ (n ≢ c) → AreOf n (count_by (λ (a : Entry). same_tx a.tx tx) (entries n logs))
          → AreOf (suc n) (count_by (λ (a : Entry). same_tx a.tx tx) (entries (suc n) logs))
      by (inl at) old =
          let none = old.below (omega (arith, at)) in
          let same = ap (λ (h : ℕ). marks_in (is_decision tx) (logs h)) at in
          record { few = omega (arith, all, none, same); below = λ low. absurd (omega (arith, low, at)) }
      by (inr other) old =
          let none = none_elsewhere n other in
          record {
            few = omega (arith, all, none, old.few);
            below = λ low. omega (arith, all, none, old.below (omega (arith, low)));
          }

  pub entries_few : count_by (λ (a : Entry). same_tx a.tx tx) (entries (hosts start) logs) ≤ 1
  entries_few = omega (arith, (entries_are (hosts start)).few, decided_few (tc_of start (coordinator_member tx)))

-- where none has it none passes the test
pub none_has : (tx : TxId) (list : List Entry) → count_by (λ (a : Entry). same_tx a.tx tx) list ≤ 0
    → Each (λ (a : Entry). same_tx a.tx tx ≡ false) list
none_has tx [] none = tt
none_has tx (a ∷ list) none = (
  by (same_tx a.tx tx) refl,
  none_has tx list (omega (arith, none, count_more (λ (a : Entry). same_tx a.tx tx) a list)),
)
  where
    by : (b : Bool) → same_tx a.tx tx ≡ b → b ≡ false
    by false is = refl
    by true is =
        absurd (omega (arith, none, count_more (λ (a : Entry). same_tx a.tx tx) a list, ap one_if is))

pub once_each : (list : List Entry) → ((tx : TxId) → count_by (λ (a : Entry). same_tx a.tx tx) list ≤ 1) → AreOnce list
once_each [] few = tt
once_each (a ∷ list) few = (
  none_has a.tx list
      (let own = few a.tx in
      omega (arith, own, count_more (λ (b : Entry). same_tx b.tx a.tx) a list, ap one_if (same_tx-self a.tx))),
  once_each list (λ tx. omega (arith, few tx, count_more (λ (b : Entry). same_tx b.tx tx) a list)),
)

pub decided_once : TransactionsAreDecidedOnce
decided_once start logs are = once_each (entries (hosts start) logs) (λ tx. entries_few start logs are tx)
