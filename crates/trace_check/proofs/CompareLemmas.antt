-- The first place at which logs differ.
use Rattle.std.proofs.Common.{◌≡◌, ◌⊎◌, inl, inr, ◌<◌, ◌≤◌, ◌+◌, ℕ, Bool, true, false, List, length, ap, sym}
use Rattle.std.proofs.Common.{◌∙◌, subst, arith}
use Rattle.std.specs.Prelude.{get_or, Option, Some, slice_get}
use Rattle.std.proofs.lemmas.Bool.{cases_lt}
use Rattle.std.proofs.lemmas.Option.{slice_get-get_or}
use Rattle.sig_core.specs.declared.log.HostLog.{HostLog}
use Rattle.trace_merge.specs.declared.run.RunStep.{RunStep}
use Rattle.trace_check.specs.declared.fault.StepFault.{StepFault}
use Rattle.trace_check.specs.declared.fault.TraceFault.TheVariants.{NotStep}
use Rattle.trace_check.specs.Answer.{IsFaultAt, IsSameAt, NoneDiffers, TellsSame, cause_of}

module _ (told made : List HostLog) (run : List RunStep) (at : ℕ) (d : RunStep) (inside : at < length run) where
  -- one place more at which they don't
  pub one_more : (same : Bool) → NoneDiffers told made run at → TellsSame told made (get_or run at d) same
      → same ≡ true → NoneDiffers told made run (at + 1)
  one_more same none tells is i place low here = go (cases_lt i at)
    where
      go : (i < at) ⊎ (at ≤ i) → IsSameAt told made place
      go (inl before) = none i place before here
      go (inr past) =
          let same_place : i ≡ at = omega (arith, low, past) in
          let some : Some place ≡ Some (get_or run at d) =
          sym here ∙ ap (slice_get run) same_place ∙ slice_get-get_or run at d inside in
          let is_place : place ≡ get_or run at d = cc in
          subst (IsSameAt told made) (sym is_place) (subst (TellsSame told made (get_or run at d)) is tells)

  -- the first at which they do
  pub found : (same : Bool) (why : Option StepFault) (cause : StepFault) → NoneDiffers told made run at
      → TellsSame told made (get_or run at d) same → same ≡ false → cause ≡ cause_of made (get_or run at d) why
      → IsFaultAt told made run why (NotStep (get_or run at d).host (get_or run at d).step cause)
  found same why cause none tells is caused = (
    record {
      at = at;
      is = slice_get-get_or run at d inside;
      before = none;
      differs = subst (TellsSame told made (get_or run at d)) is tells;
    },
    caused,
  )
