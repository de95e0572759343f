-- Of links this is to be shown, for blocks to be fenced at all numbers that their member has confirmed.
use Rattle.std.proofs.Common.{◌≡◌, ◌≤◌, ℕ, Bool, true, false, List, [], ◌∷◌, sym, subst, arith}
use Rattle.std.specs.Prelude.{◌&&◌, Option, None, Some}
use Rattle.frag_map.specs.Layout.{first_layout}
use Rattle.run_theory.specs.Counts.{tally}
use Rattle.run_theory.specs.Links.{taken}
use Rattle.run_theory.specs.Lists.{IsIn}
use Rattle.sig_core.specs.declared.member.Member.{Member}
use Rattle.sig_core.specs.declared.place.BlockId.{BlockId}
use Rattle.sig_core.specs.declared.place.BlockId.TheVariants as block
use Rattle.sig_core.specs.declared.signal.Body.TheVariants.{Membership}
use Rattle.sig_core.specs.declared.signal.membership.MembershipSignal.TheVariants.{FenceReq}
use Rattle.sig_core.specs.declared.signal.Signal.{Signal}
use Rattle.sig_core.specs.declared.view.View.{View}
use Rattle.sig_core.specs.Part.{part_of}
use Rattle.node_views.specs.WellFormed.{is_well_formed}
use Rattle.world_core.specs.Hosts.{host_of}
use Rattle.world_core.specs.Start.{NobodyStarts, Start, made}
use Rattle.world_core.specs.Steps.{Addressed, HostStep}
use Rattle.world_views.specs.Machine.{after, machine, stops_by}
use Rattle.view_laws.specs.Fences.{IsFenced}
use Rattle.view_laws.specs.HostEvents.{events_of, taken_in}
use Rattle.view_laws.specs.Runs.{AreOfCluster, events_in}
use Rattle.view_laws.specs.Votes.{main_of}
use Rattle.view_laws.proofs.fences.AskedAndConfirmed.{IsAskedAs, confirmed_heard, confs_of}
use Rattle.view_laws.proofs.fences.WaitInOrder.{times}
use Rattle.view_laws.proofs.fences.Raised.{IsFencedAt, taken_fenced}
use Rattle.view_laws.proofs.fences.Seen.{fence_is, fence_or, fence_seen, is_block}
use Rattle.view_laws.proofs.fences.EachViewFenced.{ConfirmedAreFenced}
use Rattle.view_laws.proofs.votes.NoVotes.{is_fencing}

-- the part of a fenced block
abbrev pub in_ldm : BlockId → Bool
in_ldm block.Lqh = true
in_ldm at = false

-- the requests for fences that are well formed, as a fenced block takes all of them until its host stops
abbrev pub asks_fence : Start → Addressed → Bool
asks_fence start y = is_fencing y.signal.body && is_well_formed start.shape y.signal

-- all steps but one by which the host stopped
abbrev pub running_if : Bool → HostStep → List HostStep → List HostStep
running_if true e log = log
running_if false e log = e ∷ log

abbrev pub running : List HostStep → List HostStep
running [] = []
running (e ∷ log) = running_if (stops_by e.step.marks) e log

-- how many of them the part has taken from the main host of its member in these steps
abbrev pub fences_taken : Start → (ℕ → List HostStep) → Member → BlockId → ℕ
fences_taken start logs me at =
    tally (asks_fence start)
    (taken (machine start) (main_of start me) (running (logs (host_of (made start) (part_of at) me))))

-- the block has taken one that isn't below the number
pub record HasTaken (start : Start) (h : ℕ) (log : List HostStep) (at : BlockId) (number : ℕ) : Type 0 where
  pub x : Signal
  pub there : IsIn x (taken_in (events_of (is_block at) start h log))
  pub set : View
  pub says : x.body ≡ Membership (FenceReq set)
  pub high : number ≤ set.number

-- a main host has taken no more confirmations of a part than that has taken requests
abbrev pub ConfirmationsAreFew : Type 0
ConfirmationsAreFew =
    (start : Start) (logs : ℕ → List HostStep) → AreOfCluster start logs → (me : Member) → IsIn me (made start)
    → (at : BlockId) → IsFenced at → confs_of (in_ldm at) (events_in start logs me) ≤ fences_taken start logs me at

-- a part that has taken as many as were sent up to a promise has taken one for each of its blocks that isn't below its
-- number
abbrev pub RequestsAreHigh : Type 0
RequestsAreHigh =
    (start : Start) (logs : ℕ → List HostStep) → AreOfCluster start logs → (me : Member) → IsIn me (made start)
    → (at : BlockId) → IsFenced at → (number rank : ℕ)
    → IsAskedAs me (first_layout start.shape) (events_in start logs me) number rank
    → times (in_ldm at) rank ≤ fences_taken start logs me at
    → (let h = host_of (made start) (part_of at) me in HasTaken start h (logs h) at number)

-- and the part has a fence for each of its blocks
abbrev pub IsThere : Option ℕ → Type 0
IsThere None = ⊥
IsThere (Some fence) = Unit {0}

abbrev pub FencesAreThere : Type 0
FencesAreThere =
    (start : Start) → NobodyStarts start → (me : Member) → IsIn me (made start) → (at : BlockId) → IsFenced at
    → (log : List HostStep)
    → IsThere (fence_seen at (after start (host_of (made start) (part_of at) me) log))

pub not_below : (number view : ℕ) (fence : Option ℕ) → IsThere fence → IsFencedAt number fence
    → number ≤ fence_or fence view
not_below number view None there low = absurd there
not_below number view (Some fence) there low = low

pub confirmed_fenced : ConfirmationsAreFew → RequestsAreHigh → FencesAreThere → ConfirmedAreFenced
confirmed_fenced few high fences start logs are me there at fenced number confirmed =
    let h = host_of (made start) (part_of at) me in
    let s = after start h (logs h) in
    let heard = confirmed_heard me (first_layout start.shape) (events_in start logs me) number confirmed in
    let has : HasTaken start h (logs h) at number =
    high start logs are me there at fenced number heard.rank heard.is
    (omega (arith, heard.counts (in_ldm at), few start logs are me there at fenced)) in
    let low : has.set.number ≤ fence_or (fence_seen at s) s.standing.view.number =
    not_below has.set.number s.standing.view.number (fence_seen at s)
    (fences start are.nobody me there at fenced (logs h))
    (taken_fenced start h (logs h) at has.x has.set has.says has.there) in
    subst (λ fence. number ≤ fence) (sym (fence_is s.parts at s.standing.view.number)) (omega (arith, has.high, low))
