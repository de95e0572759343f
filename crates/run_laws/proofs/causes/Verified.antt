-- For what is decided an epoch was asked for.
use Rattle.std.proofs.Common.{◌≡◌, ◌⊎◌, ℕ, Bool, true, false, List, [], ◌∷◌, ◌++◌, refl, sym, ap, ◌∙◌, subst, inl, inr}
use Rattle.std.proofs.lemmas.Bool.{or_cases, or_left, or_right}
use Rattle.std.specs.List.{list_any}
use Rattle.run_theory.specs.LinkLaws.{IsSentBy}
use Rattle.run_theory.specs.Lists.{IsIn, IsPast}
use Rattle.run_theory.proofs.LinkFacts.{stamps_rise}
use Rattle.run_theory.proofs.Pasts.{each_past, past_more, past_self}
use Rattle.run_theory.proofs.Runs.{logs_of_run}
use Rattle.world_core.specs.Steps.{Addressed, HostStep}
use Rattle.sig_core.specs.declared.mark.Mark.{Mark}
use Rattle.sig_core.specs.declared.member.TxId.{TxId}
use Rattle.sig_core.specs.declared.outs.Outgoing.{Outgoing}
use Rattle.sig_core.specs.Same.{same_tx}
use Rattle.node_core.specs.Requests.{is_request}
use Rattle.world_core.specs.Hosts.{Membership, first_membership, home, receiver}
use Rattle.world_core.specs.Machine.{all_addressed, counted, machine, sent_count, signals_of, step_after}
use Rattle.world_core.specs.Marks.{has_mark}
use Rattle.world_core.specs.Start.{Start}
use Rattle.world_core.proofs.Stamped.{stamped}
use Rattle.host_laws.specs.Causes.{is_decision}
use Rattle.host_laws.specs.Kinds.{Kind, kind_of}
use Rattle.host_laws.specs.Kinds as kind
use Rattle.run_laws.proofs.causes.Causal.{sent_kinds}
use Rattle.run_laws.proofs.causes.Facts.{DecidesAt, DecidesRightly, request_other}
use Rattle.sig_core.proofs.Keys.{same_tx-self}
use Rattle.host_laws.proofs.coordinator.Numbers.{put_kinds, verified_by}
use Rattle.run_laws.specs.Owed.{is_decided}
use Rattle.run_laws.specs.Transit.{IsRun, logs_of, taken_by}
use Rattle.run_laws.proofs.causes.Decided.{run_is_causal}

-- for whom an epoch was asked stays so
verified_more : (p : TxId → Bool) (sends : List Outgoing) (vs : List TxId) → list_any p vs ≡ true
    → list_any p (put_kinds verified_by sends vs) ≡ true
verified_more p [] vs is = is
verified_more p (o ∷ more) vs is = verified_more p more (verified_by (kind_of o.body) vs) (by (kind_of o.body))
  where
    by : (k : Kind) → list_any p (verified_by k vs) ≡ true
    by (kind.begun tx) = is
    by (kind.wanted tx) = is
    by (kind.verified tx) = or_right (p tx) (list_any p vs) is
    by (kind.decided tx) = is
    by (kind.committing tx) = is
    by (kind.ended tx) = is
    by kind.other = is

newer_verified : (start : Start) (p : TxId → Bool) (h : ℕ) (newer log : List HostStep)
    → list_any p (sent_kinds start verified_by h log) ≡ true
    → list_any p (sent_kinds start verified_by h (newer ++ log)) ≡ true
newer_verified start p h [] log is = is
newer_verified start p h (e ∷ newer) log is =
    verified_more p (step_after start h (newer ++ log) e).effects.sends (sent_kinds start verified_by h (newer ++ log))
    (newer_verified start p h newer log is)

-- one of the signals that a step sends asks for it
sent_verified : (who : Membership) (h stamp : ℕ) (count : ℕ → ℕ) (sends : List Outgoing) (vs : List TxId)
    (x : Addressed) (tx : TxId) → IsIn x (all_addressed who h stamp count sends)
    → kind_of x.signal.body ≡ kind.verified tx
    → list_any (same_tx tx) (put_kinds verified_by sends vs) ≡ true
sent_verified who h stamp count [] vs x tx inside is = absurd inside
sent_verified who h stamp count (o ∷ more) vs x tx (inl same) is =
    verified_more (same_tx tx) more (verified_by (kind_of o.body) vs)
    (ap (λ k. list_any (same_tx tx) (verified_by k vs)) (ap (λ (y : Addressed). kind_of y.signal.body) (sym same) ∙ is)
    ∙ or_left (same_tx tx tx) (list_any (same_tx tx) vs) (same_tx-self tx))
sent_verified who h stamp count (o ∷ more) vs x tx (inr rest) is =
    sent_verified who h stamp (counted (receiver who o.to) count) more (verified_by (kind_of o.body) vs) x tx rest is

-- the step of a mark
pub record Marked (test : Mark → Bool) (log : List HostStep) : Type 0 where
  pub step : HostStep
  pub older : List HostStep
  pub past : IsPast (step ∷ older) log
  pub marked : list_any test step.step.marks ≡ true

pub marked_step : (test : Mark → Bool) (log : List HostStep) → has_mark test log ≡ true → Marked test log
marked_step test [] has = absurd cc
marked_step test (e ∷ log) has =
    by (or_cases (list_any test e.step.marks) (has_mark test log) has) (marked_step test log)
  where
    later : Marked test log → Marked test (e ∷ log)
    later m = record { step = m.step; older = m.older; past = past_more e m.past; marked = m.marked }

    by : (list_any test e.step.marks ≡ true) ⊎ (has_mark test log ≡ true) → (has_mark test log ≡ true → Marked test log)
        → Marked test (e ∷ log)
    by (inl own) more = record { step = e; older = log; past = past_self (e ∷ log); marked = own }
    by (inr rest) more = later (more rest)

module _ (start : Start) (es : List HostStep) (run : IsRun start es) (tx : TxId) where
  abbrev logs : ℕ → List HostStep
  logs = logs_of start es

  abbrev asked_of : ℕ → List HostStep → Bool
  asked_of h log = list_any (same_tx tx) (sent_kinds start verified_by h log)

  sent_asked : (x : Addressed) → kind_of x.signal.body ≡ kind.verified tx
      → IsSentBy (machine start) x.signal.from.0 (home start tx) (logs x.signal.from.0) x
      → asked_of x.signal.from.0 (logs x.signal.from.0) ≡ true
  sent_asked x is s = by s.sends
    where
      here : IsIn x (signals_of start x.signal.from.0 s.before s.step)
          → asked_of x.signal.from.0 (s.step ∷ s.before) ≡ true
      here inside =
          sent_verified (first_membership start) x.signal.from.0 s.step.step.stamp
          (sent_count start x.signal.from.0 s.before)
          (step_after start x.signal.from.0 s.before s.step).effects.sends
          (sent_kinds start verified_by x.signal.from.0 s.before) x tx inside is

      by : (IsIn x (signals_of start x.signal.from.0 s.before s.step) × (x.to ≡ home start tx))
          ⊎ ((false ≡ true) × (x ≡ (machine start).closing x.signal.from.0 s.before s.step (home start tx)))
          → asked_of x.signal.from.0 (logs x.signal.from.0) ≡ true
      by (inl sends) =
          subst (λ log. asked_of x.signal.from.0 log ≡ true) (sym s.past.is)
          (newer_verified start (same_tx tx) x.signal.from.0 s.past.newer (s.step ∷ s.before) (here sends.0))
      by (inr stops) = absurd (let never = stops.0 in cc)

  -- its coordinator has asked for it
  pub decided_asked : is_decided start logs tx ≡ true → asked_of (home start tx) (logs (home start tx)) ≡ true
  decided_asked decided =
      let m = marked_step (is_decision tx) (logs (home start tx)) decided in
      took m ((each_past (DecidesRightly start logs) m.past ((run_is_causal start es run).decisions (home start tx))).0
      tx m.marked)
    where
      took : (m : Marked (is_decision tx) (logs (home start tx))) → DecidesAt start logs m.step tx
          → asked_of (home start tx) (logs (home start tx)) ≡ true
      took m d = subst (λ k. asked_of k (logs k) ≡ true) d.from (by (is_request m.step.step.taken.body) refl)
        where
          by : (b : Bool) → is_request m.step.step.taken.body ≡ b
              → asked_of m.step.step.taken.from.0 (logs m.step.step.taken.from.0) ≡ true
          by true asked = absurd (let both : kind.verified tx ≡ kind.other = sym d.took ∙ request_other
              m.step.step.taken.body asked in cc)
          by false asked = sent_asked (taken_by m.step) d.took
              (stamps_rise (machine start) (stamped start) logs (logs_of_run (machine start) es run.run) (home start tx)
              m.step m.older m.past asked).0
