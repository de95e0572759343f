-- Transactions that are given up, and those that are carried out.
use Rattle.std.proofs.Common.{◌≡◌, ◌⊎◌, ℕ, zero, suc, Bool, true, false, List, [], ◌∷◌, refl, sym, ap, ◌∙◌, subst, inl}
use Rattle.std.proofs.Common.{inr}
use Rattle.std.proofs.lemmas.Bool.{or_cases}
use Rattle.std.specs.List.{list_any}
use Rattle.std.specs.Prelude.{◌||◌}
use Rattle.run_theory.specs.Lists.{Each}
use Rattle.world_core.specs.Steps.{HostStep}
use Rattle.sig_core.specs.declared.mark.Mark.{Mark}
use Rattle.sig_core.specs.declared.mark.Mark.TheVariants.{Applied, Reported}
use Rattle.sig_core.specs.declared.member.TxId.{TxId}
use Rattle.sig_core.specs.declared.outcome.Outcome.TheVariants as outcome
use Rattle.sig_core.specs.Same.{same_tx}
use Rattle.sig_core.proofs.TxLemmas.{same_tx-is, same_tx-swap}
use Rattle.world_core.specs.History.{is_applied, is_reported}
use Rattle.world_core.specs.Hosts.{home, first_hosts}
use Rattle.world_core.specs.Marks.{has_mark, have_mark}
use Rattle.world_core.specs.Start.{Start}
use Rattle.host_laws.specs.Ways.{back_by, forth_by, sent_ways, way_of}
use Rattle.host_laws.proofs.coordinator.OneWay.{coordinators_one_way}
use Rattle.run_laws.specs.GivenUp.{AbortsAreOfGivenUp, CommitsAreOfCarriedOut, CompletionsAreOfCarriedOut}
use Rattle.run_laws.specs.GivenUp.{KeptAreNotGivenUp, NoneIsBoth, is_carried_out}
use Rattle.run_laws.specs.Transit.{IsRun, logs_of}
use Rattle.run_laws.proofs.transit.Runs.{runs_have_transit, taking}
use Rattle.run_laws.proofs.ways.Ways.{IsMarkTold, IsTold, all_told, taken_told}

-- what holds of all of a list holds of a transaction that is among them
each_among : (P : TxId → Type 0) (tx : TxId) (xs : List TxId) → Each P xs → list_any (same_tx tx) xs ≡ true → P tx
each_among P tx [] all among = absurd cc
each_among P tx (v ∷ xs) all among =
    by (or_cases (same_tx tx v) (list_any (same_tx tx) xs) among) (each_among P tx xs all.1)
  where
    by : (same_tx tx v ≡ true) ⊎ (list_any (same_tx tx) xs ≡ true) → (list_any (same_tx tx) xs ≡ true → P tx) → P tx
    by (inl is) rest = subst P (sym (same_tx-is tx v is)) all.0
    by (inr is) rest = rest is

none_among : (tx : TxId) (xs : List TxId) → Each (λ v. same_tx v tx ≡ false) xs → list_any (same_tx tx) xs ≡ false
none_among tx [] none = refl
none_among tx (v ∷ xs) none =
    ap (λ b. b || list_any (same_tx tx) xs) (same_tx-swap tx v ∙ none.0) ∙ none_among tx xs none.1

pub none_is_both : NoneIsBoth
none_is_both start logs tx carried =
    let forth_ones : List TxId = sent_ways start forth_by (home start tx) (logs (home start tx)) in
    let back_ones : List TxId = sent_ways start back_by (home start tx) (logs (home start tx)) in
    none_among tx back_ones (each_among (λ v. Each (λ w. same_tx w v ≡ false) back_ones) tx forth_ones
    (coordinators_one_way start (home start tx) (logs (home start tx))) carried)

pub aborts_are_of_given_up : AbortsAreOfGivenUp
aborts_are_of_given_up start es e tx key come is =
    let t = taking start es e come in
    subst (λ w. IsTold start (logs_of start es) w) (ap way_of is)
    (taken_told start es e t.before t.between come t.transit t.takes)

pub commits_are_of_carried_out : CommitsAreOfCarriedOut
commits_are_of_carried_out start es e tx key epoch chain at come is =
    let t = taking start es e come in
    subst (λ w. IsTold start (logs_of start es) w) (ap way_of is)
    (taken_told start es e t.before t.between come t.transit t.takes)

pub completions_are_of_carried_out : CompletionsAreOfCarriedOut
completions_are_of_carried_out start es e tx key chain at come is =
    let t = taking start es e come in
    subst (λ w. IsTold start (logs_of start es) w) (ap way_of is)
    (taken_told start es e t.before t.between come t.transit t.takes)

module _ (start : Start) (logs : ℕ → List HostStep) (tx : TxId) where
  -- a mark that passes a test is of a transaction that is carried out, if each such mark is
  abbrev Shows : (Mark → Bool) → Type 0
  Shows test = (m : Mark) → test m ≡ true → IsMarkTold start logs m → is_carried_out start logs tx ≡ true

  marked_carried : (test : Mark → Bool) → Shows test → (marks : List Mark) → Each (IsMarkTold start logs) marks
      → list_any test marks ≡ true → is_carried_out start logs tx ≡ true
  marked_carried test shows [] all is = absurd cc
  marked_carried test shows (m ∷ marks) all is =
      by (or_cases (test m) (list_any test marks) is) (marked_carried test shows marks all.1)
    where
      by : (test m ≡ true) ⊎ (list_any test marks ≡ true)
          → (list_any test marks ≡ true → is_carried_out start logs tx ≡ true) → is_carried_out start logs tx ≡ true
      by (inl own) rest = shows m own all.0
      by (inr more) rest = rest more

  log_carried : (test : Mark → Bool) → Shows test → (log : List HostStep)
      → Each (λ (e : HostStep). Each (IsMarkTold start logs) e.step.marks) log → has_mark test log ≡ true
      → is_carried_out start logs tx ≡ true
  log_carried test shows [] all is = absurd cc
  log_carried test shows (e ∷ log) all is =
      by (or_cases (list_any test e.step.marks) (has_mark test log) is) (log_carried test shows log all.1)
    where
      by : (list_any test e.step.marks ≡ true) ⊎ (has_mark test log ≡ true)
          → (has_mark test log ≡ true → is_carried_out start logs tx ≡ true) → is_carried_out start logs tx ≡ true
      by (inl own) rest = marked_carried test shows e.step.marks all.0 own
      by (inr more) rest = rest more

  hosts_carried : (test : Mark → Bool) → Shows test → (n : ℕ)
      → ((h : ℕ) → Each (λ (e : HostStep). Each (IsMarkTold start logs) e.step.marks) (logs h))
      → have_mark test n logs ≡ true → is_carried_out start logs tx ≡ true
  hosts_carried test shows zero all is = absurd cc
  hosts_carried test shows (suc n) all is =
      by (or_cases (has_mark test (logs n)) (have_mark test n logs) is) (hosts_carried test shows n all)
    where
      by : (has_mark test (logs n) ≡ true) ⊎ (have_mark test n logs ≡ true)
          → (have_mark test n logs ≡ true → is_carried_out start logs tx ≡ true) → is_carried_out start logs tx ≡ true
      by (inl own) rest = log_carried test shows (logs n) (all n) own
      by (inr more) rest = rest more

  applied_shows : Shows (is_applied tx)
  applied_shows (Applied other key) own told =
      subst (λ t. is_carried_out start logs t ≡ true) (same_tx-is other tx own) told
  applied_shows _ own told = absurd cc

  reported_shows : Shows (is_reported tx)
  reported_shows (Reported other (outcome.Committed epoch)) own told =
      subst (λ t. is_carried_out start logs t ≡ true) (same_tx-is other tx own) told
  reported_shows (Reported other (outcome.Aborted why)) own told = absurd cc
  reported_shows _ own told = absurd cc

  kept_carried : ((h : ℕ) → Each (λ (e : HostStep). Each (IsMarkTold start logs) e.step.marks) (logs h))
      → (have_mark (is_applied tx) (first_hosts start) logs ≡ true)
      ⊎ (have_mark (is_reported tx) (first_hosts start) logs ≡ true)
      → is_carried_out start logs tx ≡ true
  kept_carried all (inl is) = hosts_carried (is_applied tx) applied_shows (first_hosts start) all is
  kept_carried all (inr is) = hosts_carried (is_reported tx) reported_shows (first_hosts start) all is

-- what was applied or reported committed is carried out
pub kept_are_carried_out : (start : Start) (es : List HostStep) (tx : TxId) → IsRun start es
    → (have_mark (is_applied tx) (first_hosts start) (logs_of start es) || have_mark (is_reported tx)
    (first_hosts start)
    (logs_of start es)) ≡ true
    → is_carried_out start (logs_of start es) tx ≡ true
kept_are_carried_out start es tx run kept =
    let (xs, transit) = runs_have_transit start es run in
    kept_carried start (logs_of start es) tx (all_told start es xs run transit).marks
    (or_cases (have_mark (is_applied tx) (first_hosts start) (logs_of start es))
    (have_mark (is_reported tx) (first_hosts start) (logs_of start es)) kept)

pub kept_are_not_given_up : KeptAreNotGivenUp
kept_are_not_given_up start es tx run kept =
    none_is_both start (logs_of start es) tx (kept_are_carried_out start es tx run kept)
