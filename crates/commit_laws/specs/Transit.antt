-- What is in transit at a moment: signals that were sent and weren't taken. What a host that stopped, or was cut off,
-- would have been sent stays among them.
use Rattle.std.specs.Prelude.{◌≡◌, ℕ, Bool, true, false, List, [], ◌∷◌, ◌||◌}
use Rattle.sig_core.specs.declared.signal.Body.{Body}
use Rattle.sig_core.specs.declared.signal.Body.TheVariants.{Host}
use Rattle.sig_core.specs.declared.signal.host.HostSignal.TheVariants.{Closed}
use Rattle.run_theory.specs.Links.{sent_by}
use Rattle.run_laws.specs.Transit.{IsTaken, joined, taken_by}
use Rattle.world_core.specs.Start.{Start}
use Rattle.world_core.specs.Steps.{Addressed, HostStep}
use Rattle.view_laws.specs.Order.{sound_machine}
use Rattle.moment_laws.specs.Moments.{IsMoment, logs_of}

-- the signal tells of the end of its link, and nobody sent it
abbrev pub is_closing : Body → Bool
is_closing (Host (Closed cause)) = true
is_closing body = false

-- a step takes its signal, unless that comes from no link
pub record Takes (start : Start) (e : HostStep) (before after : List Addressed) : Type 0 where
  pub alone : ((sound_machine start).asked e || is_closing e.step.taken.body) ≡ true → after ≡ before
  pub signal : ((sound_machine start).asked e || is_closing e.step.taken.body) ≡ false
      → IsTaken (taken_by e) before after

-- and puts what it sends among them
pub record Passes (start : Start) (es : List HostStep) (e : HostStep) (before after : List Addressed) : Type 0 where
  pub between : List Addressed
  pub takes : Takes start e before between
  pub is : after ≡ joined (sent_by (sound_machine start) e.host (logs_of start es e.host) e) between

-- after these events these signals are in transit
abbrev pub AreInTransit : Start → List HostStep → List Addressed → Type 0
AreInTransit start [] xs = xs ≡ []
AreInTransit start (e ∷ es) xs =
    (before : List Addressed) × (AreInTransit start es before × Passes start es e before xs)

abbrev pub MomentsHaveTransit : Type 0
MomentsHaveTransit =
    (start : Start) (all : ℕ → List HostStep) (es : List HostStep) → IsMoment start all es
    → (xs : List Addressed) × AreInTransit start es xs
