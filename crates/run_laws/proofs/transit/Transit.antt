-- What holds of the logs and of what is in transit, along every run.
use Rattle.std.proofs.Common.{◌≡◌, List, [], ◌∷◌, ◌++◌, sym, subst, ◌∙◌}
use Rattle.run_theory.proofs.Runs.{log_of-past}
use Rattle.run_theory.specs.Runs.{log_of}
use Rattle.world_core.specs.Steps.{Addressed, HostStep}
use Rattle.world_core.specs.Machine.{machine, signals_of}
use Rattle.world_core.specs.Start.{Start}
use Rattle.run_laws.specs.Transit.{AreInTransit, Comes, IsRun, Takes, joined, logs_of}

older_nil : (newer log : List HostStep) → [] ≡ newer ++ log → log ≡ []
older_nil [] log is = sym is
older_nil (e ∷ newer) log is = absurd cc

-- a run without its newest event
pub earlier : (start : Start) (es : List HostStep) (e : HostStep) → IsRun start (e ∷ es) → IsRun start es
earlier start es e now =
    record {
      shape = now.shape;
      run = now.run.0;
      within = λ h high. let past = log_of-past (machine start) e es h in
          older_nil past.newer (log_of (machine start) es h) (sym (now.within h high) ∙ past.is);
    }

-- an event comes after those before it
pub comes : (start : Start) (es : List HostStep) (e : HostStep) → IsRun start (e ∷ es) → Comes start es e
comes start es e now = record { before = earlier start es e now; happens = now.run.1; now = now }

-- what holds at first and is kept by each event holds after every run
pub along_transit : (start : Start) (P : List HostStep → List Addressed → Type 0) → P [] []
    → ((es : List HostStep) (e : HostStep) (before between : List Addressed) → Comes start es e → AreInTransit start es
    before → P es before → Takes e before between
    → P (e ∷ es) (joined (signals_of start e.host (logs_of start es e.host) e) between))
    → (es : List HostStep) (xs : List Addressed) → IsRun start es → AreInTransit start es xs → P es xs
along_transit start P none next [] xs run is = subst (P []) (sym is) none
along_transit start P none next (e ∷ es) xs run (before, (rest, passes)) =
    subst (P (e ∷ es)) (sym passes.is)
    (next es e before passes.between (comes start es e run) rest
    (along_transit start P none next es before (earlier start es e run) rest) passes.takes)
