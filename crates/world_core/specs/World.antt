-- The logs of all hosts as a world keeps them: one for each, the oldest step first.
use Rattle.std.specs.Prelude.{ℕ, zero, suc, ◌+◌, max, List, [], ◌∷◌, ◌++◌, map, reverse, slice_index_or, slice_set}
use Rattle.sig_core.specs.declared.log.HostLog.{HostLog}
use Rattle.sig_core.specs.declared.log.LogStep.{LogStep}
use Rattle.world_core.specs.Steps.{HostStep}

-- a log without steps
abbrev pub no_steps : ℕ → HostLog
no_steps h = record { host = record { 0 = h }; made = 0; steps = [] }

-- a step, with its host
abbrev pub of_host : ℕ → LogStep → HostStep
of_host h step = record { host = h; step = step }

-- the steps of a host, the oldest first, and its log, the newest first
abbrev pub steps_of : List HostLog → ℕ → List LogStep
steps_of logs h = (slice_index_or logs h (no_steps 0)).steps

abbrev pub logs_at : List HostLog → ℕ → List HostStep
logs_at logs h = map (of_host h) (reverse (steps_of logs h))

-- one more step of a host
abbrev pub with_step : List HostLog → ℕ → LogStep → List HostLog
with_step logs h e =
    slice_set logs h (record (slice_index_or logs h (no_steps 0)) { steps = steps_of logs h ++ e ∷ [] })

-- the stamp of the step in which a host takes a signal
abbrev pub next_stamp : List ℕ → ℕ → ℕ → ℕ
next_stamp stamps h sent_at = max (slice_index_or stamps h 0) sent_at + 1

-- a thing for each host below n
abbrev pub for_each : {A : Type 0} → ℕ → (ℕ → A) → List A
for_each zero thing = []
for_each (suc n) thing = for_each n thing ++ thing n ∷ []
