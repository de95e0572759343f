-- Where no schedule picks, a host gives up only for want of memory or of stamps.
use Rattle.std.proofs.Common.{◌≡◌, ℕ, List, [], ◌∷◌, ◌++◌, Bool, true, false, refl, ap, sym, ◌∙◌}
use Rattle.std.specs.Prelude.{◌==◌, ◌&&◌, ◌||◌, if◌then◌else◌, None, Some}
use Rattle.std.specs.List.{list_any}
use Rattle.std.proofs.lemmas.Bool.{false≢true, true≢false}
use Rattle.calm_laws.specs.Resting.{NoneGivesUp}
use Rattle.node_core.specs.Requests.{is_request}
use Rattle.run_theory.proofs.Pasts.{each_map}
use Rattle.run_theory.specs.Lists.{Each}
use Rattle.run_theory.specs.Logs.{IsLog, IsStep}
use Rattle.run_theory.specs.Runs.{AreLogs}
use Rattle.peace_laws.specs.Laws.{is_spent}
use Rattle.shell_top.specs.Served.{NoneStops}
use Rattle.shell_top.specs.Stopped.{NoneWants, gives_up, gives_up_for}
use Rattle.sig_core.specs.declared.mark.Mark.{Mark}
use Rattle.sig_core.specs.declared.mark.Mark.TheVariants.{Stopped}
use Rattle.sig_core.specs.declared.outcome.StopCause.{StopCause}
use Rattle.sig_core.specs.declared.outcome.StopCause.TheVariants.{Clock, Disk, Memory}
use Rattle.sig_core.specs.declared.signal.Body.{Body}
use Rattle.sig_core.specs.declared.signal.Body.TheVariants.{Host}
use Rattle.sig_core.specs.declared.signal.Signal.{Signal}
use Rattle.sig_core.specs.declared.signal.host.HostSignal.TheVariants.{Closed, Continue}
use Rattle.sig_core.specs.declared.signal.host.Work.TheVariants.{Request}
use Rattle.world_core.specs.Start.{Start}
use Rattle.world_core.specs.Steps.{HostStep}
use Rattle.world_views.specs.Machine.{after, closes, machine, own_stop, step_if}
use Rattle.world_views.specs.Sending.{is_asked, is_own_work}
use Rattle.world_views.specs.Unscheduled.{AreUnscheduled, IsUnscheduled, IsWant}

-- a host asked itself for it
from_itself : (h : ℕ) (x : Signal) → is_asked h x ≡ true → (x.from.0 == h) ≡ true
from_itself h x asked = go (x.from.0 == h) asked
  where
    go : (b : Bool) → (b && is_own_work x.body) ≡ true → b ≡ true
    go true e = refl
    go false e = cc

-- by a closing of its own a host stops for the cause of that
own_closing : (h : ℕ) (x : Signal) (cause : StopCause) → is_asked h x ≡ true → x.body ≡ Host (Closed cause)
    → own_stop h x ≡ Some cause
own_closing h x cause asked is =
    ap (λ b. if b then closes x.body else None) (from_itself h x asked) ∙ ap closes is

-- a host stops without a schedule only where it gives up
want_gives_up : (start : Start) (logs : ℕ → List HostStep) (h : ℕ) (log : List HostStep) (cause : StopCause)
    → IsWant true start logs h log cause → gives_up_for cause ≡ true
want_gives_up start logs h log Memory is = refl
want_gives_up start logs h log Clock is = refl
want_gives_up start logs h log (Disk count) is = refl
want_gives_up start logs h log cause is = absurd is

module _ (start : Start) (logs : ℕ → List HostStep) (h : ℕ) (log : List HostStep) (e : HostStep)
    (step : IsStep (machine start) h log e) (none : list_any gives_up e.step.marks ≡ false)
    (asked : is_asked h e.step.taken ≡ true)
  where
    no_closing : (cause : StopCause) → e.step.taken.body ≡ Host (Closed cause) → gives_up_for cause ≡ true → ⊥
    no_closing cause is want =
        let marks : e.step.marks ≡ Stopped cause ∷ [] =
        step.fits.marks
        ∙ ap (λ o. (step_if (after start h log) e.step.taken o).effects.marks)
        (own_closing h e.step.taken cause asked is) in
        true≢false (sym (ap (λ b. b || false) want) ∙ sym (ap (list_any gives_up) marks) ∙ none)

    is_request_by : (body : Body) → e.step.taken.body ≡ body → IsUnscheduled true start logs h log body
        → is_request body ≡ true
    is_request_by (Host (Continue (Request request) at)) is own = refl
    is_request_by (Host (Closed cause)) is own = absurd (no_closing cause is (want_gives_up start logs h log cause own))
    is_request_by _ is own = absurd own

    -- so it is a request
    asks : IsUnscheduled true start logs h log e.step.taken.body → is_request e.step.taken.body ≡ true
    asks own = is_request_by e.step.taken.body refl own

along : (start : Start) (logs : ℕ → List HostStep) (h : ℕ) (log : List HostStep) → IsLog (machine start) h log
    → ((newer : List HostStep) (e : HostStep) (before : List HostStep) → log ≡ newer ++ e ∷ before
    → is_asked h e.step.taken ≡ true → IsUnscheduled true start logs h before e.step.taken.body)
    → Each (λ e. list_any gives_up e.step.marks ≡ false) log
    → Each (λ e. is_asked h e.step.taken ≡ true → is_request e.step.taken.body ≡ true) log
along start logs h [] steps own none = tt
along start logs h (e ∷ log) steps own none = (
  λ asked. asks start logs h log e steps.0 none.0 asked (own [] e log refl asked),
  along start logs h log steps.1 (λ newer f before is. own (e ∷ newer) f before (ap (λ more. e ∷ more) is)) none.1,
)

pub none_gives_up : (start : Start) (logs : ℕ → List HostStep) → AreLogs (machine start) logs
    → AreUnscheduled true start logs → NoneWants logs
    → NoneGivesUp logs
none_gives_up start logs right own none h = along start logs h (logs h) (right.local h) (own h) (none h)

-- and then none has used up its numbers
spent_gives_up : (m : Mark) → is_spent m ≡ true → gives_up m ≡ true
spent_gives_up (Stopped Clock) is = refl
spent_gives_up m is = absurd (false≢true is)

unspent : (marks : List Mark) → list_any gives_up marks ≡ false → list_any is_spent marks ≡ false
unspent [] none = refl
unspent (m ∷ marks) none = by (gives_up m) (is_spent m) refl refl none (unspent marks)
  where
    by : (gives spent : Bool) → gives_up m ≡ gives → is_spent m ≡ spent → (gives || list_any gives_up marks) ≡ false
        → (list_any gives_up marks ≡ false → list_any is_spent marks ≡ false)
        → (spent || list_any is_spent marks) ≡ false
    by true spent given is none rest = absurd (true≢false none)
    by false true given is none rest = absurd (true≢false (sym (spent_gives_up m is) ∙ given))
    by false false given is none rest = rest none

pub none_stops : (start : Start) (logs : ℕ → List HostStep) → AreLogs (machine start) logs
    → AreUnscheduled true start logs
    → NoneWants logs
    → NoneStops logs
none_stops start logs right own wants =
    record {
      none = none_gives_up start logs right own wants;
      unspent =
          λ h. each_map (λ e. list_any gives_up e.step.marks ≡ false) (λ e. list_any is_spent e.step.marks ≡ false)
          (logs h) (λ e none. unspent e.step.marks none) (wants h);
    }
