-- What is true of grants that stand behind one another.
use Rattle.std.proofs.Common.{◌≡◌, ◌≤◌, List, [], ◌∷◌, ◌∙◌, arith}
use Rattle.std.proofs.lemmas.List.Elements.{All-nil, All-cons}
use Rattle.std.proofs.lemmas.List.Kept.{AllPairs-cons}
use Rattle.std.specs.List.{All, AllPairs}
use Rattle.arbiter_block.specs.Arbiter.{ArbiterState, fresh_arbiter}
use Rattle.arbiter_block.specs.Laws.{AskedAgainIsAnsweredAlike, EachSetLiesInTheOneBefore, Grant, HaveOneSet}
use Rattle.arbiter_block.specs.Laws.{LastGrantIsKept, OneSetForEachNumber, SucceedOneAnother, ZeroIsNeverGranted}
use Rattle.arbiter_block.specs.Laws.{first_grant, keeping, last_of}
use Rattle.arbiter_block.proofs.GrantLemmas.{Chain, Given, again, chain}

succeed : (before : Grant) (grants : List Grant) (end : ArbiterState)
    → Chain (keeping before) grants end → SucceedOneAnother before grants
succeed before [] end c = tt
succeed before (grant ∷ later) end c =
    (record { number = c.0.number; members = c.0.members }, succeed grant later end c.1)

pub each_set_lies : EachSetLiesInTheOneBefore
each_set_lies members signals = succeed (first_grant members) _ _ (chain (fresh_arbiter members) signals)

last_kept : (before : Grant) (grants : List Grant) (end : ArbiterState)
    → Chain (keeping before) grants end → end ≡ keeping (last_of before grants)
last_kept before [] end c = c
last_kept before (grant ∷ later) end c = last_kept grant later end c.1

pub last_is_kept : LastGrantIsKept
last_is_kept members signals = last_kept (first_grant members) _ _ (chain (fresh_arbiter members) signals)

above_zero : (s : ArbiterState) (grants : List Grant) (end : ArbiterState)
    → 1 ≤ s.number → Chain s grants end → All (λ grant. 1 ≤ grant.number) grants
above_zero s [] end least c = All-nil _
above_zero s (grant ∷ later) end least c =
    let below : s.number ≤ grant.number = c.0.number in
    let positive : 1 ≤ grant.number = omega arith in
    All-cons (λ grant. 1 ≤ grant.number) grant later positive (above_zero (keeping grant) later end positive c.1)

pub zero_is_never : ZeroIsNeverGranted
zero_is_never members signals =
    let positive : 1 ≤ 1 = omega arith in
    All-cons (λ grant. 1 ≤ grant.number) (first_grant members) _ positive
    (above_zero (fresh_arbiter members) _ _ positive (chain (fresh_arbiter members) signals))

-- a grant beside what was kept before: its number isn't less, and if it is the same number it is the same set
record IsAbove (s : ArbiterState) (grant : Grant) : Type 0 where
  number : s.number ≤ grant.number
  same : s.number ≡ grant.number → s.members ≡ grant.members

-- what stands above a grant stands above what the grant stands above
higher : (s : ArbiterState) (first grant : Grant) → Given s first → IsAbove (keeping first) grant → IsAbove s grant
higher s first grant may above =
    let low : s.number ≤ first.number = may.number in
    let high : first.number ≤ grant.number = above.number in
    record {
      number = omega arith;
      same = λ (equal : s.number ≡ grant.number). may.same (omega arith) ∙ above.same (omega arith);
    }

all_above : (s : ArbiterState) (grants : List Grant) (end : ArbiterState) → Chain s grants end → All (IsAbove s) grants
all_above s [] end c = All-nil _
all_above s (first ∷ later) end c =
    All-cons (IsAbove s) first later (record { number = c.0.number; same = c.0.same })
    (λ k d within. higher s first _ c.0 (all_above (keeping first) later end c.1 k d within))

pairs : (before : Grant) (grants : List Grant) (end : ArbiterState) → Chain (keeping before) grants end
    → AllPairs HaveOneSet (before ∷ grants)
pairs before [] end c = AllPairs-cons HaveOneSet before [] (All-nil _) (λ i j d less within. absurd (omega arith))
pairs before (grant ∷ later) end c =
    AllPairs-cons HaveOneSet before (grant ∷ later)
    (λ k d within. (all_above (keeping before) (grant ∷ later) end c k d within).same)
    (pairs grant later end c.1)

pub one_set : OneSetForEachNumber
one_set members signals = pairs (first_grant members) _ _ (chain (fresh_arbiter members) signals)

pub again_alike : AskedAgainIsAnsweredAlike
again_alike s x = again s x.member.node x.body
