-- What is in transit after some events: signals that were sent and weren't taken.
use Rattle.frag_map.specs.Shape.{IsShape}
use Rattle.std.specs.Prelude.{◌≡◌, ℕ, true, false, List, [], ◌∷◌, ◌++◌}
use Rattle.run_theory.specs.Runs.{Happens, IsWithin, Run, log_of}
use Rattle.world_core.specs.Steps.{Addressed, HostStep}
use Rattle.node_core.specs.declared.host.Host.{Host}
use Rattle.node_core.specs.Requests.{is_request}
use Rattle.world_core.specs.Hosts.{first_hosts}
use Rattle.world_core.specs.Machine.{after, machine, signals_of}
use Rattle.world_core.specs.Start.{Start}

-- signals join those in transit, one after the other
abbrev pub joined : List Addressed → List Addressed → List Addressed
joined [] others = others
joined (x ∷ more) others = joined more (x ∷ others)

-- one of them is gone
pub record IsTaken (x : Addressed) (before after : List Addressed) : Type 0 where
  pub front : List Addressed
  pub back : List Addressed
  pub is : before ≡ front ++ x ∷ back
  pub left : after ≡ front ++ back

-- the signal of a step
abbrev pub taken_by : HostStep → Addressed
taken_by e = record { to = e.host; signal = e.step.taken }

-- a step takes its signal, unless it is a request of the shell
pub record Takes (e : HostStep) (before after : List Addressed) : Type 0 where
  pub request : is_request e.step.taken.body ≡ true → after ≡ before
  pub signal : is_request e.step.taken.body ≡ false → IsTaken (taken_by e) before after

-- the logs of the hosts after these events, the newest first
abbrev pub logs_of : Start → List HostStep → ℕ → List HostStep
logs_of start es = log_of (machine start) es

-- a step takes one signal of those in transit and puts what it sends among them
pub record Passes (start : Start) (es : List HostStep) (e : HostStep) (before after : List Addressed) : Type 0 where
  pub between : List Addressed
  pub takes : Takes e before between
  pub is : after ≡ joined (signals_of start e.host (logs_of start es e.host) e) between

-- after these events these signals are in transit
abbrev pub AreInTransit : Start → List HostStep → List Addressed → Type 0
AreInTransit start [] xs = xs ≡ []
AreInTransit start (e ∷ es) xs =
    (before : List Addressed) × (AreInTransit start es before × Passes start es e before xs)

-- a run of the hosts that there are
pub record IsRun (start : Start) (es : List HostStep) : Type 0 where
  pub shape : IsShape start.shape
  pub run : Run (machine start) es
  pub within : IsWithin (first_hosts start) (logs_of start es)

-- the step comes after these events
pub record Comes (start : Start) (es : List HostStep) (e : HostStep) : Type 0 where
  pub before : IsRun start es
  pub happens : Happens (machine start) es e
  pub now : IsRun start (e ∷ es)

-- after every run of the hosts some signals are in transit
abbrev pub RunsHaveTransit : Type 0
RunsHaveTransit =
    (start : Start) (es : List HostStep) → IsRun start es → (xs : List Addressed) × AreInTransit start es xs

-- the host after its part of these events
abbrev pub host_after : Start → List HostStep → ℕ → Host
host_after start es h = after start h (logs_of start es h)
