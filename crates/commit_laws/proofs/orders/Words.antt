-- Orders to takeovers, and the signals by which a membership goes on with its orders.
use Rattle.std.proofs.Common.{◌≡◌, Bool, true, false, List, refl, sym}
use Rattle.run_theory.specs.Lists.{Each}
use Rattle.run_theory.proofs.Pasts.{each_map}
use Rattle.std.proofs.lemmas.Bool.{true≢false}
use Rattle.sig_core.specs.declared.outs.Outgoing.{Outgoing}
use Rattle.sig_core.specs.declared.place.BlockId.{BlockId}
use Rattle.sig_core.specs.declared.place.BlockId.TheVariants as block
use Rattle.sig_core.specs.declared.signal.Body.{Body}
use Rattle.sig_core.specs.declared.signal.Body.TheVariants.{Host, Takeover}
use Rattle.sig_core.specs.declared.signal.host.HostSignal.TheVariants.{Continue}
use Rattle.sig_core.specs.declared.signal.host.Work.TheVariants.{Members}
use Rattle.sig_core.specs.declared.signal.takeover.TakeoverSignal.TheVariants.{LqhTransReq, TakeoverOrd}
use Rattle.sig_core.specs.Step.{Step}

abbrev pub is_membership : BlockId → Bool
is_membership block.Qmgr = true
is_membership b = false

-- a takeover is ordered, or a membership goes on with its orders
abbrev pub is_ordering : BlockId → Body → Bool
is_ordering b (Takeover TakeoverOrd) = true
is_ordering b (Host (Continue Members at)) = is_membership b
is_ordering b body = false

-- it does neither
abbrev pub IsQuiet : Outgoing → Type 0
IsQuiet sent = is_ordering sent.to.block sent.body ≡ false

abbrev pub AreQuiet : List Outgoing → Type 0
AreQuiet sends = Each IsQuiet sends

-- a takeover is ordered, a membership goes on with its orders, or rows are asked for what they have
abbrev pub is_leading : BlockId → Body → Bool
is_leading b (Takeover LqhTransReq) = true
is_leading b body = is_ordering b body

-- nothing of that
abbrev pub IsStill : Outgoing → Type 0
IsStill sent = is_leading sent.to.block sent.body ≡ false

abbrev pub AreStill : List Outgoing → Type 0
AreStill sends = Each IsStill sends

still_one : (b : BlockId) (body : Body) → is_leading b body ≡ false → is_ordering b body ≡ false
still_one b (Takeover LqhTransReq) is = refl
still_one b body is = is

pub still_quiet : (sends : List Outgoing) → AreStill sends → AreQuiet sends
still_quiet sends all = each_map IsStill IsQuiet sends (λ sent is. still_one sent.to.block sent.body is) all

abbrev pub SendsQuiet : {S : Type 0} → Step S → Type 0
SendsQuiet step = AreQuiet step.effects.sends

-- what says so whichever block it is for, and doesn't ask for a report
abbrev pub is_quiet : Body → Bool
is_quiet (Takeover TakeoverOrd) = false
is_quiet (Takeover LqhTransReq) = false
is_quiet (Host (Continue Members at)) = false
is_quiet body = true

abbrev pub IsNoOrder : Outgoing → Type 0
IsNoOrder sent = is_quiet sent.body ≡ true

abbrev pub AreNoOrders : List Outgoing → Type 0
AreNoOrders sends = Each (λ (sent : Outgoing). is_quiet sent.body ≡ true) sends

quiet_one : (b : BlockId) (body : Body) → is_quiet body ≡ true → is_ordering b body ≡ false
quiet_one b (Takeover TakeoverOrd) is = absurd (true≢false (sym is))
quiet_one b (Host (Continue Members at)) is = absurd (true≢false (sym is))
quiet_one b body is = refl

pub none_quiet : (sends : List Outgoing) → AreNoOrders sends → AreQuiet sends
none_quiet sends all = each_map IsNoOrder IsQuiet sends (λ sent is. quiet_one sent.to.block sent.body is) all
