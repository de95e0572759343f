-- The power of disks is cut, one disk after the other.
use Rattle.std.proofs.Common.{◌≡◌, ◌⊎◌, ◌≢◌, ℕ, ◌+◌, ◌≤◌, ◌<◌, List, ◌++◌, length, take, map, get_or, refl, ap, sym, subst, ◌∙◌, arith, inl, inr}
use Rattle.std.proofs.lemmas.Bool.{cases_lt}
use Rattle.std.proofs.lemmas.List.{get_or-map, get_or-set_other, get_or-set_same, get_or_past, length-set, map-set, take_at}
use Rattle.std.proofs.Math.ListN.{set}
use Rattle.std.specs.Prelude.{Option, None, Some}
use Rattle.host_io.specs.Call.{Call}
use Rattle.host_io.specs.Disk.{IsCut, ends_cut}
use Rattle.shell_top.specs.Seen.{HasLost, HaveLost, Seen, seen_on}
use Rattle.sys_restart.specs.Answers.{AreSteady}
use Rattle.sys_restart.proofs.DisksLemmas.{mapped, one_steady, steady_itself, steady_then}

-- of the first so many disks it was cut, and the others are as they were
pub record AreCut (before now : Seen) (count : ℕ) : Type 0 where
  pub many : length now.told ≡ length before.told
  pub cut : (at : ℕ) → at < count → HasLost (get_or before.told at None) (get_or now.told at None)
  pub rest : (at : ℕ) → count ≤ at → get_or now.told at None ≡ get_or before.told at None
  pub steady : AreSteady before.faults now.faults

-- of none yet
pub none_cut : (before : Seen) → AreCut before before 0
none_cut before =
    record {
      many = refl;
      cut = λ at below. absurd (omega (arith, below));
      rest = λ at past. refl;
      steady = steady_itself before.faults;
    }

-- what a cut of one disk says
has_lost : (old now : Option (List Call))
    → ((calls : List Call) → old ≡ Some calls → IsCut calls now (ends_cut calls)) → HasLost old now
has_lost None now cut = tt
has_lost (Some calls) now cut = cut calls refl

module _ {D : Type 0} (told : D → Option (List Call)) (faults : D → ℕ) where
  -- the next disk's is cut
  module _ (before : Seen) (disks : List D) (index : ℕ) (disk cut : D) (below : index < length disks)
      (lost : (calls : List Call) → told (get_or disks index disk) ≡ Some calls
      → IsCut calls (told cut) (ends_cut calls))
      (are : AreCut before (seen_on told faults disks) index) where
    long : index < length (map told disks)
    long = subst (λ many. index < many) (sym (mapped told disks)) below

    -- what the disks tell behind that
    tells : (at : ℕ)
        → get_or (map told (set disks index cut)) at None ≡ get_or (set (map told disks) index (told cut)) at None
    tells at = ap (λ all. get_or all at None) (map-set told disks index cut)

    others : (at : ℕ) → at ≢ index
        → get_or (map told (set disks index cut)) at None ≡ get_or (map told disks) at None
    others at other = tells at ∙ get_or-set_other (map told disks) index at (told cut) None other

    this : get_or (map told (set disks index cut)) index None ≡ told cut
    this = tells index ∙ get_or-set_same (map told disks) index (told cut) None long

    was : told (get_or disks index disk) ≡ get_or before.told index None
    was = sym (get_or-map told disks index disk None below) ∙ are.rest index (omega arith)

    cut_at : (at : ℕ) → at < index + 1
        → HasLost (get_or before.told at None) (get_or (map told (set disks index cut)) at None)
    cut_at at low = go (cases_lt at index)
      where
        go : (at < index) ⊎ (index ≤ at)
            → HasLost (get_or before.told at None) (get_or (map told (set disks index cut)) at None)
        go (inl earlier) =
            subst (λ now. HasLost (get_or before.told at None) now) (sym (others at (λ is. omega (arith, is, earlier))))
            (are.cut at earlier)
        go (inr later) =
            let here : index ≡ at = omega (arith, low, later) in
            subst
            (λ (p : ℕ). HasLost (get_or before.told p None) (get_or (map told (set disks index cut)) p None)) here
            (subst (λ now. HasLost (get_or before.told index None) now) (sym this)
            (has_lost (get_or before.told index None) (told cut) (λ calls some. lost calls (was ∙ some))))

    pub one_more_cut : faults (get_or disks index disk) ≤ faults cut
        → AreCut before (seen_on told faults (set disks index cut)) (index + 1)
    one_more_cut more =
        record {
          many = mapped told (set disks index cut) ∙ length-set disks index cut ∙ sym (mapped told disks) ∙ are.many;
          cut = cut_at;
          rest = λ at past. others at (λ is. omega (arith, is, past)) ∙ are.rest at (omega (arith, past));
          steady = steady_then before.faults (map faults disks) (map faults (set disks index cut)) are.steady
              (one_steady faults disks index disk cut below more);
        }

  -- that of each is
  all_cut : (before disks : List D) (count : ℕ)
      → AreCut (seen_on told faults before) (seen_on told faults disks) count
      → length before ≤ count → HaveLost (seen_on told faults before) (seen_on told faults disks)
  all_cut before disks count are all =
      record {
        many = are.many;
        each = λ at. go at (cases_lt at count);
        steady = are.steady;
      }
    where
      go : (at : ℕ) → (at < count) ⊎ (count ≤ at)
          → HasLost (get_or (map told before) at None) (get_or (map told disks) at None)
      go at (inl low) = are.cut at low
      go at (inr past) =
          let short : length (map told before) ≡ length before = mapped told before in
          subst (λ old. HasLost old (get_or (map told disks) at None))
          (sym (get_or_past (map told before) at None (omega (arith, short, all, past)))) tt

  -- the disks are back where they were
  module _ (first before disks rest : List D) (len : ℕ) (same : before ≡ first)
      (many : length disks ≡ length before) (whole : len ≡ length first) where
    back : take len (disks ++ rest) ≡ disks
    back = take_at disks rest len (many ∙ ap length same ∙ sym whole)

    pub as_many : length (take len (disks ++ rest)) ≡ length first
    as_many = ap length back ∙ many ∙ ap length same

    pub cut_back : (count : ℕ) → AreCut (seen_on told faults before) (seen_on told faults disks) count
        → length before ≤ count
        → HaveLost (seen_on told faults first) (seen_on told faults (take len (disks ++ rest)))
    cut_back count are all =
        subst (λ ds. HaveLost (seen_on told faults first) (seen_on told faults ds)) (sym back)
        (subst (λ ds. HaveLost (seen_on told faults ds) (seen_on told faults disks)) same
        (all_cut before disks count are all))
