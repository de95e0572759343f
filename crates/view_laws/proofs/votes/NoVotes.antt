-- What is neither a vote nor of a fence.
use Rattle.std.proofs.Common.{◌≡◌, ◌⊎◌, ℕ, Bool, true, false, List, [], ◌∷◌, refl, ap, ◌||◌}
use Rattle.run_theory.specs.Lists.{Each}
use Rattle.sig_core.specs.declared.outs.Outgoing.{Outgoing}
use Rattle.sig_core.specs.declared.signal.Body.{Body}
use Rattle.sig_core.specs.declared.signal.Body.TheVariants.{Membership}
use Rattle.sig_core.specs.declared.signal.membership.MembershipSignal.TheVariants.{FenceConf, FenceReq}
use Rattle.sig_core.specs.Place.{membership}
use Rattle.sig_core.specs.Step.{Step, to_place}
use Rattle.view_laws.specs.Votes.{is_vote}

-- a request for a fence
abbrev pub is_fencing : Body → Bool
is_fencing (Membership (FenceReq set)) = true
is_fencing body = false

-- a fence is confirmed
abbrev pub is_confirming : Body → Bool
is_confirming (Membership FenceConf) = true
is_confirming body = false

-- either of them
abbrev pub is_of_fence : Body → Bool
is_of_fence body = is_fencing body || is_confirming body

-- what memberships tell of views, and the arbitrator, and other blocks but to confirm a fence
abbrev pub is_told : Body → Bool
is_told body = is_vote body || is_of_fence body

pub vote_told : (body : Body) → is_vote body ≡ true → is_told body ≡ true
vote_told body vote = ap (λ b. b || is_of_fence body) vote

pub untold_vote : (body : Body) → is_told body ≡ false → is_vote body ≡ false
untold_vote body off = by (is_vote body) off
  where
    by : (b : Bool) → (b || is_of_fence body) ≡ false → b ≡ false
    by true off = off
    by false off = refl

-- it is neither
abbrev pub IsNoVote : Outgoing → Type 0
IsNoVote send = is_told send.body ≡ false

abbrev pub AreNoVotes : List Outgoing → Type 0
AreNoVotes sends = Each IsNoVote sends

-- a step sends no vote
abbrev pub SendsNoVote : {S : Type 0} → Step S → Type 0
SendsNoVote step = AreNoVotes step.effects.sends

-- the signal by which a block of a node confirms its fence
abbrev pub confirmation : ℕ → Outgoing
confirmation node = to_place (membership node) (Membership FenceConf)

-- what a block sends at a signal that is no membership of a node, nor the arbitrator: no vote, or it confirms a fence
abbrev pub AreQuiet : ℕ → Body → List Outgoing → Type 0
AreQuiet node body sends = AreNoVotes sends ⊎ ((is_fencing body ≡ true) × (sends ≡ confirmation node ∷ []))
