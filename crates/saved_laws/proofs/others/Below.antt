-- What was closed, and so what is saved, is below the last number.
use Rattle.std.proofs.Common.{◌≡◌, ◌<◌, ◌⊎◌, ◌-◌, ◌^◌, ℕ, List, ◌∷◌, subst, inl, inr, arith}
use Rattle.run_theory.proofs.Pasts.{each_in}
use Rattle.run_theory.specs.Lists.{IsIn}
use Rattle.sig_core.specs.declared.member.Member.{Member}
use Rattle.world_core.specs.Start.{Start, made}
use Rattle.world_core.specs.Steps.{HostStep}
use Rattle.moment_laws.proofs.MomentMembers.{current_made}
use Rattle.moment_laws.specs.Moments.{IsMoment, current, logs_of}
use Rattle.outcome_laws.proofs.order.EventsBefore.{moment_before}
use Rattle.epoch_laws.specs.Members.{epochs_of}
use Rattle.epoch_laws.proofs.StandAll.{epochs_stand}
use Rattle.epoch_laws.proofs.StandMasters.{first_inside}
use Rattle.epoch_laws.proofs.MasterResumption.{sound_next}
use Rattle.closing_laws.specs.Closed.{HasEnded, IsClosing}
use Rattle.closing_laws.proofs.closers.Hear.{closers_have_heard_all}
use Rattle.commit_laws.specs.Traces.{rows_at}
use Rattle.saved_laws.specs.Closings.{WasFullAtClosing}
use Rattle.saved_laws.specs.Keys.{SavedAreBelowLast}
use Rattle.saved_laws.proofs.masters.Closed.{saved_were_closed}
use Rattle.saved_laws.proofs.others.Low.{are_low}

-- its president gives a later epoch
closed_below : (start : Start) (all : ℕ → List HostStep) (es : List HostStep) → start.start_epoch < start.epoch
    → start.epoch < 2 ^ 64 - 1 → IsMoment start all es → (epoch : ℕ) (member : Member)
    → WasFullAtClosing start es epoch member → epoch < 2 ^ 64 - 1
closed_below start all es some low moment epoch member was =
    let later = ended.later in
    let sound = (epochs_stand start all at some at_moment).sound by.member there in
    let least = sound_next (epochs_of start then by.member) sound in
    let most = (are_low start all at some (omega (arith, low)) at_moment).members by.member there in
    omega (arith, later, least, most)
  where
    at : List HostStep
    at = was.closing ∷ was.older

    then : ℕ → List HostStep
    then = logs_of start at

    at_moment : IsMoment start all (was.closing ∷ was.older)
    at_moment = moment_before start all was.newer (was.closing ∷ was.older) (subst (IsMoment start all) was.is moment)

    by : IsClosing start was.closing (logs_of start (was.closing ∷ was.older)) epoch
    by = closers_have_heard_all start all was.closing was.older some at_moment epoch was.marked

    full : IsIn by.member (current start then).full
    full = first_inside by.member (current start then).full by.is.president

    there : IsIn by.member (made start)
    there = current_made start all at at_moment by.member full

    ended : HasEnded epoch (epochs_of start then by.member)
    ended =
        each_in (λ (m : Member). HasEnded epoch (epochs_of start then m)) by.member (current start then).full
        by.is.ended full

pub saved_below : SavedAreBelowLast
saved_below start all es some low moment member there =
    by (saved_were_closed start all es some moment member there)
  where
    saved : ℕ
    saved = (rows_at start (logs_of start es) member).saved

    by : (saved ≡ start.start_epoch) ⊎ WasFullAtClosing start es saved member → saved < 2 ^ 64 - 1
    by (inl first) = omega (arith, first, some, low)
    by (inr was) = closed_below start all es some low moment saved member was
