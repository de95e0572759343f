-- What one more step does to each log.
use Rattle.std.proofs.Common.{◌≡◌, ◌≢◌, ℕ, ◌<◌, ◌≤◌, List, [], ◌∷◌, ◌++◌, length, reverse, ap, sym, ◌∙◌, subst}
use Rattle.std.specs.Prelude.{map, slice_index_or}
use Rattle.std.proofs.lemmas.List.{get_or-set_same, get_or-set_other, get_or_past, length-set, reverse-append}
use Rattle.sig_core.specs.declared.log.HostLog.{HostLog}
use Rattle.sig_core.specs.declared.log.LogStep.{LogStep}
use Rattle.world_core.specs.Start.{Start}
use Rattle.world_core.specs.Right.{IsLabelled}
use Rattle.world_core.specs.World.{logs_at, no_steps, of_host, steps_of, with_step}

-- the log of a host with one more step
abbrev longer : List HostLog → ℕ → LogStep → HostLog
longer logs h e = record (slice_index_or logs h (no_steps 0)) { steps = steps_of logs h ++ e ∷ [] }

pub with_step_length : (logs : List HostLog) (h : ℕ) (e : LogStep) → length (with_step logs h e) ≡ length logs
with_step_length logs h e = length-set logs h (longer logs h e)

pub logs_at_own : (logs : List HostLog) (h : ℕ) (e : LogStep) → h < length logs
    → logs_at (with_step logs h e) h ≡ of_host h e ∷ logs_at logs h
logs_at_own logs h e there =
    ap (λ (log : HostLog). map (of_host h) (reverse log.steps))
    (get_or-set_same logs h (longer logs h e) (no_steps 0) there)
    ∙ ap (map (of_host h)) (reverse-append (steps_of logs h) (e ∷ []))

pub logs_at_other : (logs : List HostLog) (h k : ℕ) (e : LogStep) → k ≢ h
    → logs_at (with_step logs h e) k ≡ logs_at logs k
logs_at_other logs h k e apart = ap (λ (log : HostLog). map (of_host k) (reverse log.steps))
    (get_or-set_other logs h k (longer logs h e) (no_steps 0) apart)

-- there are no steps of a host that isn't there
pub logs_at_past : (logs : List HostLog) (h : ℕ) → length logs ≤ h → logs_at logs h ≡ []
logs_at_past logs h past =
    ap (λ (log : HostLog). map (of_host h) (reverse log.steps)) (get_or_past logs h (no_steps 0) past)

-- each log still says whose it is
pub label_own : (start : Start) (logs : List HostLog) (h : ℕ) (e : LogStep) → h < length logs
    → IsLabelled start h (slice_index_or logs h (no_steps 0))
    → IsLabelled start h (slice_index_or (with_step logs h e) h (no_steps 0))
label_own start logs h e there was =
    subst (IsLabelled start h) (sym (get_or-set_same logs h (longer logs h e) (no_steps 0) there)) (record {
      host = was.host;
      made = was.made;
    })

pub label_other : (start : Start) (logs : List HostLog) (h k : ℕ) (e : LogStep) → k ≢ h
    → IsLabelled start k (slice_index_or logs k (no_steps 0))
    → IsLabelled start k (slice_index_or (with_step logs h e) k (no_steps 0))
label_other start logs h k e apart was =
    subst (IsLabelled start k) (sym (get_or-set_other logs h k (longer logs h e) (no_steps 0) apart)) was
