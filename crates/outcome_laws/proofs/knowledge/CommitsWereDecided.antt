-- Whoever is reported committed was decided, in the epoch that is reported, and so has an entry.
use Rattle.std.proofs.Common.{ℕ, List, [], ◌∷◌, reverse, refl, sym, subst, inl, inr}
use Rattle.std.proofs.lemmas.List.{reverse-append}
use Rattle.run_theory.proofs.Pasts.{each_in, in_append}
use Rattle.run_theory.specs.Lists.{Each, IsIn}
use Rattle.run_theory.specs.Ranks.{in_order}
use Rattle.run_theory.proofs.EventCases.{event_cases}
use Rattle.sig_core.specs.declared.entry.Entry.{Entry}
use Rattle.sig_core.specs.declared.mark.Mark.{Mark}
use Rattle.sig_core.specs.declared.mark.Mark.TheVariants.{Decided, Reported}
use Rattle.sig_core.specs.declared.member.TxId.{TxId}
use Rattle.sig_core.specs.declared.outcome.Outcome.TheVariants as outcome
use Rattle.world_core.specs.Entries.{entries_in, entry_of}
use Rattle.world_core.specs.Start.{Start}
use Rattle.world_core.specs.Steps.{HostStep}
use Rattle.world_views.specs.Machine.{machine}
use Rattle.view_laws.specs.Order.{by_views, decisions}
use Rattle.view_laws.proofs.eras.Entries.{stand_in_order}
use Rattle.view_laws.proofs.eras.Order.{run_in_views}
use Rattle.view_laws.proofs.ballots.MadeSets.{in_front}
use Rattle.moment_laws.specs.Moments.{IsMoment, logs_of}
use Rattle.moment_laws.specs.Places.{tc_of}
use Rattle.moment_laws.proofs.MomentRuns.{are_moments}
use Rattle.outcome_laws.specs.Counts.{coordinator_member}
use Rattle.outcome_laws.specs.Decided.{IsBegun, IsDecided, IsMarked}
use Rattle.outcome_laws.specs.Outcomes.{CommitsWereDecided, HasEntry}
use Rattle.outcome_laws.specs.Tells.{IsRightMark}
use Rattle.outcome_laws.proofs.knowledge.Moments.{moments_know}

-- what is so of each mark of a log is so of one that it has
pub marked_so : (P : Mark → Type 0) (mark : Mark) (log : List HostStep)
    → Each (λ (e : HostStep). Each P e.step.marks) log → IsMarked mark log → P mark
marked_so P mark [] all is = absurd is
marked_so P mark (e ∷ log) all (inl there) = each_in P mark e.step.marks all.0 there
marked_so P mark (e ∷ log) all (inr older) = marked_so P mark log all.1 older

pub in_turned : {A : Type 0} (x : A) (xs : List A) → IsIn x xs → IsIn x (reverse xs)
in_turned x [] there = absurd there
in_turned x (y ∷ xs) (inl is) =
    subst (IsIn x) (sym (reverse-append (y ∷ []) xs)) (in_append x (reverse xs) (y ∷ []) (inl is))
in_turned x (y ∷ xs) (inr there) =
    subst (IsIn x) (sym (reverse-append (y ∷ []) xs)) (in_front x (reverse xs) (y ∷ []) (in_turned x xs there))

-- the entries of a step
module _ (h stamp : ℕ) (log : List HostStep) where
  pub in_before : (a : Entry) (marks : List Mark) (before : List Entry) → IsIn a before
      → IsIn a (entries_in h stamp log marks before)
  in_before a [] before there = there
  in_before a (Decided tx epoch ∷ marks) before there =
      in_before a marks (entry_of h stamp log tx epoch ∷ before) (inr there)
  in_before a (mark ∷ marks) before there = in_before a marks before there

  one_entry : (tx : TxId) (epoch : ℕ) (marks : List Mark) (before : List Entry) → IsIn (Decided tx epoch) marks
      → HasEntry tx epoch (entries_in h stamp log marks before)
  one_entry tx epoch [] before there = absurd there
  one_entry tx epoch (mark ∷ marks) before (inl is) =
      subst (λ mark. HasEntry tx epoch (entries_in h stamp log (mark ∷ marks) before)) is
      (record {
        entry = entry_of h stamp log tx epoch;
        there = in_before (entry_of h stamp log tx epoch) marks (entry_of h stamp log tx epoch ∷ before) (inl refl);
        tx_is = refl;
        epoch_is = refl;
      })
  one_entry tx epoch (Decided other given ∷ marks) before (inr there) =
      one_entry tx epoch marks (entry_of h stamp log other given ∷ before) there
  one_entry tx epoch (mark ∷ marks) before (inr there) = one_entry tx epoch marks before there

module _ (start : Start) where
  -- each mark of a decision has its entry among the decisions
  pub decided_entry : (tx : TxId) (epoch h : ℕ) (es : List HostStep) → IsMarked (Decided tx epoch) (logs_of start es h)
      → HasEntry tx epoch (decisions start es)
  decided_entry tx epoch h [] is = absurd is
  decided_entry tx epoch h (e ∷ es) is =
      let older = decided_entry tx epoch h es in
      event_cases (machine start) e es h
      (λ log. IsMarked (Decided tx epoch) log → HasEntry tx epoch (decisions start (e ∷ es)))
      (λ at is. own is older) (λ other is. more (older is)) is
    where
      more : HasEntry tx epoch (decisions start es) → HasEntry tx epoch (decisions start (e ∷ es))
      more has = record {
        entry = has.entry;
        there = in_before e.host e.step.stamp (e ∷ logs_of start es e.host) has.entry e.step.marks
            (decisions start es) has.there;
        tx_is = has.tx_is;
        epoch_is = has.epoch_is;
      }

      own : IsMarked (Decided tx epoch) (e ∷ logs_of start es h)
          → (IsMarked (Decided tx epoch) (logs_of start es h) → HasEntry tx epoch (decisions start es))
          → HasEntry tx epoch (decisions start (e ∷ es))
      own (inl there) older =
          one_entry e.host e.step.stamp (e ∷ logs_of start es e.host) tx epoch e.step.marks (decisions start es) there
      own (inr is) older = more (older is)

  -- at a moment who was reported committed has one
  pub reported_entry : (all : ℕ → List HostStep) (es : List HostStep) → IsMoment start all es → (tx : TxId) (epoch : ℕ)
      → IsMarked (Reported tx (outcome.Committed epoch)) (logs_of start es 0) → HasEntry tx epoch (decisions start es)
  reported_entry all es moment tx epoch marked =
      let known = moments_know start all es moment in
      let decided : IsDecided start (logs_of start es) tx epoch =
      marked_so (IsRightMark (IsDecided start (logs_of start es)) (IsBegun start (logs_of start es)))
      (Reported tx (outcome.Committed epoch)) (logs_of start es 0) (known.right 0) marked in
      decided_entry tx epoch (tc_of start (coordinator_member tx)) es decided

pub commits_were_decided : CommitsWereDecided
commits_were_decided start logs are tx epoch marked =
    subst (HasEntry tx epoch) (sym (stand_in_order start logs are)) (record {
      entry = has.entry;
      there = in_turned has.entry (decisions start es) has.there;
      tx_is = has.tx_is;
      epoch_is = has.epoch_is;
    })
  where
    es : List HostStep
    es = in_order (by_views start logs)

    has : HasEntry tx epoch (decisions start (in_order (by_views start logs)))
    has =
        reported_entry start logs (in_order (by_views start logs)) (are_moments start logs are) tx epoch
        (subst (IsMarked (Reported tx (outcome.Committed epoch))) (sym ((run_in_views start logs are).has 0)) marked)
