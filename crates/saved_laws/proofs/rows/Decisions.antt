-- Decisions up to an epoch, and later ones, along events and among entries.
use Rattle.std.proofs.Common.{◌≡◌, ◌≤◌, ◌<◌, ◌⊎◌, ◌++◌, ℕ, List, [], ◌∷◌, refl, ap, inl, inr}
use Rattle.std.proofs.lemmas.Bool.{cases_lt}
use Rattle.run_theory.proofs.EventCases.{event_cases}
use Rattle.run_theory.proofs.Pasts.{each_append, each_in}
use Rattle.run_theory.specs.Lists.{Each, IsIn}
use Rattle.sig_core.specs.declared.entry.Entry.{Entry}
use Rattle.sig_core.specs.declared.mark.Mark.{Mark}
use Rattle.sig_core.specs.declared.mark.Mark.TheVariants.{Decided}
use Rattle.sig_core.specs.declared.member.TxId.{TxId}
use Rattle.world_core.specs.Entries.{entries_in, entry_of}
use Rattle.world_core.specs.Start.{Start}
use Rattle.world_core.specs.Steps.{HostStep}
use Rattle.world_views.specs.Machine.{machine}
use Rattle.view_laws.specs.Order.{decisions}
use Rattle.moment_laws.specs.Moments.{logs_of}
use Rattle.moment_laws.specs.Places.{tc_of}
use Rattle.outcome_laws.specs.Counts.{coordinator_member}
use Rattle.outcome_laws.specs.Decided.{IsDecided, IsMarked}

-- if the mark is a decision, this is so of its epoch
abbrev pub IsOfEpoch : (ℕ → Type 0) → Mark → Type 0
IsOfEpoch P (Decided tx at) = P at
IsOfEpoch P mark = Unit {0}

-- so it is of all that these events decide
abbrev pub DecideWith : (ℕ → Type 0) → List HostStep → Type 0
DecideWith P es = Each (λ (e : HostStep). Each (IsOfEpoch P) e.step.marks) es

pub decide_both : (P : ℕ → Type 0) (xs ys : List HostStep) → DecideWith P xs → DecideWith P ys → DecideWith P (xs ++ ys)
decide_both P xs ys one other = each_append (λ (e : HostStep). Each (IsOfEpoch P) e.step.marks) xs ys one other

pub with_epoch : (P : ℕ → Type 0) (tx : TxId) (at : ℕ) (marks : List Mark) → Each (IsOfEpoch P) marks
    → IsIn (Decided tx at) marks → P at
with_epoch P tx at marks all there = each_in (IsOfEpoch P) (Decided tx at) marks all there

-- where each decision among marks is so, all are
pub each_decided : (P : ℕ → Type 0) (marks : List Mark)
    → ((tx : TxId) (at : ℕ) → IsIn (Decided tx at) marks → P at) → Each (IsOfEpoch P) marks
each_decided P [] told = tt
each_decided P (mark ∷ marks) told = (by mark refl, each_decided P marks (λ tx at there. told tx at (inr there)))
  where
    by : (m : Mark) → m ≡ mark → IsOfEpoch P m
    by (Decided tx at) is = told tx at (inl is)
    by m is = tt

module _ (epoch : ℕ) where
  -- some mark decides in a later epoch
  pub record HasLater (marks : List Mark) : Type 0 where
    pub tx : TxId
    pub at : ℕ
    pub there : IsIn (Decided tx at) marks
    pub later : epoch < at

  low_or_later : (marks : List Mark) → Each (IsOfEpoch (λ at. at ≤ epoch)) marks ⊎ HasLater marks
  low_or_later [] = inl tt
  low_or_later (mark ∷ marks) = by mark refl (low_or_later marks)
    where
      more : HasLater marks → HasLater (mark ∷ marks)
      more has = record { tx = has.tx; at = has.at; there = inr has.there; later = has.later }

      if_low : (tx : TxId) (at : ℕ) → Decided tx at ≡ mark → (epoch < at) ⊎ (at ≤ epoch)
          → Each (IsOfEpoch (λ at. at ≤ epoch)) marks
          → Each (IsOfEpoch (λ at. at ≤ epoch)) (Decided tx at ∷ marks) ⊎ HasLater (mark ∷ marks)
      if_low tx at is (inl up) low = inr (record { tx = tx; at = at; there = inl is; later = up })
      if_low tx at is (inr down) low = inl (down, low)

      by : (m : Mark) → m ≡ mark → Each (IsOfEpoch (λ at. at ≤ epoch)) marks ⊎ HasLater marks
          → Each (IsOfEpoch (λ at. at ≤ epoch)) (m ∷ marks) ⊎ HasLater (mark ∷ marks)
      by m is (inr has) = inr (more has)
      by (Decided tx at) is (inl low) = if_low tx at is (cases_lt epoch at) low
      by m is (inl low) = inl (tt, low)

  -- Nobody is decided in a later epoch by these events, or there is a first one who is.
  pub data Split (es : List HostStep) : Type 0 where
    whole : DecideWith (λ at. at ≤ epoch) es → Split es
    part : (newer : List HostStep) (e : HostStep) (older : List HostStep) → es ≡ newer ++ e ∷ older
        → DecideWith (λ at. at ≤ epoch) older → HasLater e.step.marks → Split es

  pub split : (es : List HostStep) → Split es
  split [] = whole tt
  split (e ∷ es) = by (split es)
    where
      if_low : DecideWith (λ at. at ≤ epoch) es → Each (IsOfEpoch (λ at. at ≤ epoch)) e.step.marks
          ⊎ HasLater e.step.marks → Split (e ∷ es)
      if_low low (inl own) = whole (own, low)
      if_low low (inr has) = part [] e es refl low has

      by : Split es → Split (e ∷ es)
      by (whole low) = if_low low (low_or_later e.step.marks)
      by (part newer d older is low has) = part (e ∷ newer) d older (ap (λ xs. e ∷ xs) is) low has

-- entries in front of others, of each of whose epochs this is so
pub record InFront (P : ℕ → Type 0) (base all : List Entry) : Type 0 where
  pub front : List Entry
  pub is : all ≡ front ++ base
  pub each : Each (λ (a : Entry). P a.epoch) front

marks_in_front : (P : ℕ → Type 0) (h stamp : ℕ) (log : List HostStep) (marks : List Mark) → Each (IsOfEpoch P) marks
    → (base list : List Entry) → InFront P base list → InFront P base (entries_in h stamp log marks list)
marks_in_front P h stamp log [] all base list has = has
marks_in_front P h stamp log (Decided tx at ∷ marks) all base list has =
    marks_in_front P h stamp log marks all.1 base (entry_of h stamp log tx at ∷ list)
    (record {
      front = entry_of h stamp log tx at ∷ has.front;
      is = ap (λ xs. entry_of h stamp log tx at ∷ xs) has.is;
      each = (all.0, has.each);
    })
marks_in_front P h stamp log (mark ∷ marks) all base list has =
    marks_in_front P h stamp log marks all.1 base list has

module _ (start : Start) where
  -- the entries of events stand in front of those before them
  pub entries_in_front : (P : ℕ → Type 0) (newer es : List HostStep) → DecideWith P newer
      → InFront P (decisions start es) (decisions start (newer ++ es))
  entries_in_front P [] es all = record { front = []; is = refl; each = tt }
  entries_in_front P (e ∷ newer) es all =
      marks_in_front P e.host e.step.stamp (e ∷ logs_of start (newer ++ es) e.host) e.step.marks all.0
      (decisions start es) (decisions start (newer ++ es)) (entries_in_front P newer es all.1)

  -- whoever is decided along events is so in an epoch of which this is so
  pub decided_with : (P : ℕ → Type 0) (es : List HostStep) → DecideWith P es → (tx : TxId) (at : ℕ)
      → IsDecided start (logs_of start es) tx at → P at
  decided_with P [] all tx at is = absurd is
  decided_with P (e ∷ es) all tx at is =
      event_cases (machine start) e es (tc_of start (coordinator_member tx))
      (λ log. IsMarked (Decided tx at) log → P at) (λ here is. by (decided_with P es all.1 tx at) is)
      (λ off is. decided_with P es all.1 tx at is) is
    where
      by : (IsDecided start (logs_of start es) tx at → P at)
          → IsIn (Decided tx at) e.step.marks ⊎ IsDecided start (logs_of start es) tx at → P at
      by rest (inl now) = with_epoch P tx at e.step.marks all.0 now
      by rest (inr old) = rest old

  -- or was decided before them
  pub decided_before : (P : ℕ → Type 0) (newer es : List HostStep) → DecideWith P newer → (tx : TxId) (at : ℕ)
      → IsDecided start (logs_of start (newer ++ es)) tx at → P at ⊎ IsDecided start (logs_of start es) tx at
  decided_before P [] es all tx at is = inr is
  decided_before P (e ∷ newer) es all tx at is =
      event_cases (machine start) e (newer ++ es) (tc_of start (coordinator_member tx))
      (λ log. IsMarked (Decided tx at) log → P at ⊎ IsDecided start (logs_of start es) tx at)
      (λ here is. by (decided_before P newer es all.1 tx at) is) (λ off is. decided_before P newer es all.1 tx at is) is
    where
      by : (IsDecided start (logs_of start (newer ++ es)) tx at → P at ⊎ IsDecided start (logs_of start es) tx at)
          → IsIn (Decided tx at) e.step.marks ⊎ IsDecided start (logs_of start (newer ++ es)) tx at
          → P at ⊎ IsDecided start (logs_of start es) tx at
      by rest (inl now) = inl (with_epoch P tx at e.step.marks all.0 now)
      by rest (inr old) = rest old
