-- What a world that does the steps of a trace comes to, one after the other.
use Rattle.std.proofs.Common.{◌≡◌, ◌<◌, ◌+◌, ℕ, List, [], ◌∷◌, ◌++◌, length, take, refl, subst, sym}
use Rattle.std.specs.Prelude.{get_or, Option, None, Some}
use Rattle.std.proofs.lemmas.List.{take_more}
use Rattle.std.proofs.lemmas.Option.{slice_get-get_or}
use Rattle.sig_core.specs.declared.log.HostLog.{HostLog}
use Rattle.sig_core.specs.declared.log.LogStep.{LogStep}
use Rattle.trace_merge.specs.declared.run.RunStep.{RunStep}
use Rattle.world_core.specs.Start.{Start}
use Rattle.world_views.specs.Driven.{IsSound}
use Rattle.world_views.specs.World.{Whole}
use Rattle.trace_check.specs.declared.fault.StepFault.{StepFault}
use Rattle.trace_check.specs.Playing.{DidAt, Does, HasGone, HaveDone, StopsFirst, step_in}

-- one step more
further : (start : Start) (told : List HostLog) (w u v : Whole) (places : List RunStep) (place : RunStep)
    (step : LogStep)
    → HaveDone start told places w u → step_in told place ≡ Some step → HasGone start u v
    → Does start u place.host.0 step.taken v
    → HaveDone start told (places ++ place ∷ []) w v
further start told w u v [] place step same there gone does =
    record {
      step = step;
      there = there;
      then = v;
      gone = subst (λ (a : Whole). HasGone start a v) same gone;
      does = subst (λ (a : Whole). Does start a place.host.0 step.taken v) same does;
      more = refl;
    }
further start told w u v (p ∷ places) place step led there gone does =
    record {
      step = led.step;
      there = led.there;
      then = led.then;
      gone = led.gone;
      does = led.does;
      more = further start told led.then u v places place step led.more there gone does;
    }

-- Where doing them is: those so far were done.
pub record IsAt (start : Start) (told : List HostLog) (run : List RunStep) (at : ℕ) (w t : Whole) : Type 0 where
  pub sound : IsSound start t
  pub led : HaveDone start told (take at run) w t

pub goes_further : (start : Start) (told : List HostLog) (run : List RunStep) (at : ℕ) (d : RunStep) (w u v : Whole)
    → at < length run → IsAt start told run at w u → DidAt start told (get_or run at d) u v None
    → IsAt start told run (at + 1) w v
goes_further start told run at d w u v inside here done =
    record {
      sound = done.did.0.sound;
      led = subst (λ ps. HaveDone start told ps w v) (sym (take_more run at d inside))
          (further start told w u v (take at run) (get_or run at d) done.step here.led done.there done.did.0
          done.did.1);
    }

pub stops : (start : Start) (told : List HostLog) (run : List RunStep) (at : ℕ) (d : RunStep) (why : StepFault)
    (w u v : Whole)
    → at < length run → IsAt start told run at w u → DidAt start told (get_or run at d) u v (Some why)
    → IsSound start v × StopsFirst start told run w v why
stops start told run at d why w u v inside here done =
    let same : v ≡ u = done.did.0 in (
      subst (IsSound start) (sym same) here.sound,
      subst (λ t. StopsFirst start told run w t why) (sym same)
          (record {
            at = at;
            place = get_or run at d;
            is = slice_get-get_or run at d inside;
            before = here.led;
            step = done.step;
            there = done.there;
            cannot = done.did.1;
          }),
    )

-- the same, by how it came out
pub goes_so : (start : Start) (told : List HostLog) (run : List RunStep) (at : ℕ) (d : RunStep) (why : Option StepFault)
    (w u v : Whole)
    → at < length run → IsAt start told run at w u → why ≡ None → DidAt start told (get_or run at d) u v why
    → IsAt start told run (at + 1) w v
goes_so start told run at d why w u v inside here is done =
    goes_further start told run at d w u v inside here (subst (DidAt start told (get_or run at d) u v) is done)

pub stops_so : (start : Start) (told : List HostLog) (run : List RunStep) (at : ℕ) (d : RunStep)
    (why : Option StepFault) (fault : StepFault) (w u v : Whole)
    → at < length run → IsAt start told run at w u → why ≡ Some fault → DidAt start told (get_or run at d) u v why
    → IsSound start v × StopsFirst start told run w v fault
stops_so start told run at d why fault w u v inside here is done =
    stops start told run at d fault w u v inside here (subst (DidAt start told (get_or run at d) u v) is done)
