-- What others were told of the hosts of a member stands on the disk of its node.
use Rattle.std.proofs.Common.{◌≤◌, ◌<◌, ◌||◌, ◌&&◌, ◌==◌, ℕ, Bool, true, false, List, [], ◌∷◌, inl, inr}
use Rattle.std.proofs.Common.{arith}
use Rattle.std.specs.Prelude.{not, if◌then◌else◌}
use Rattle.run_theory.proofs.Pasts.{each_in}
use Rattle.run_theory.specs.Links.{taken}
use Rattle.run_theory.specs.Lists.{IsIn}
use Rattle.run_theory.specs.Machine.{Machine}
use Rattle.sig_core.specs.declared.member.Member.{Member}
use Rattle.sys_restart.specs.declared.restored.Restored.{Restored}
use Rattle.sys_restart.specs.Files.{Disks}
use Rattle.world_core.specs.Start.{Start, made}
use Rattle.world_core.specs.Steps.{Addressed, HostStep}
use Rattle.world_views.specs.Machine.{machine}
use Rattle.view_laws.specs.Order.{is_sound, sound_machine}
use Rattle.moment_laws.specs.Places.{ldm_of, tc_of}
use Rattle.disk_laws.specs.Noted.{kept_part}
use Rattle.saved_laws.specs.Copied.{TellsDurable, TellsSaved, WasTold}
use Rattle.restart_laws.specs.Restart.{AreLeft, IsLeftOf}
use Rattle.restart_laws.specs.Told.{IsNotedDurable, TellsNotedDurable, TellsNotedRows}
use Rattle.saved_laws.proofs.others.OfLife.{saved_above}

-- what was taken of well-formed signals was taken
module _ (start : Start) (i : ℕ) where
  abbrev m : Machine HostStep Addressed
  m = machine start

  pub sound_taken : (y : Addressed) (log : List HostStep) → IsIn y (taken (sound_machine start) i log)
      → IsIn y (taken (machine start) i log)
  sound_taken y [] there = there
  sound_taken y (e ∷ log) there =
      by (m.asked e) (is_sound start (m.signal e)) (m.from (m.signal e) == i) (m.signal e)
      (taken (sound_machine start) i log) (taken m i log) (sound_taken y log) there
    where
      by : (asked sound from : Bool) (x : Addressed) (xs ys : List Addressed) → (IsIn y xs → IsIn y ys)
          → IsIn y (if not (asked || not sound) && from then x ∷ xs else xs)
          → IsIn y (if not asked && from then x ∷ ys else ys)
      by true sound from x xs ys rest inside = rest inside
      by false true true x xs ys rest (inl same) = inl same
      by false true true x xs ys rest (inr inside) = inr (rest inside)
      by false true false x xs ys rest inside = rest inside
      by false false true x xs ys rest inside = inr (rest inside)
      by false false false x xs ys rest inside = rest inside

module _ (start : Start) (r : Restored) (logs : ℕ → List HostStep) (images : Disks)
    (left : AreLeft start r logs images) where
  pub begins : start.start_epoch < start.epoch
  begins = let is = left.epoch_is in let low = left.below in omega (arith, is, low)

  module _ (member : Member) (there : IsIn member (made start)) where
    abbrev of : IsLeftOf start r logs images member
    of = left.each member there

    -- what it saved
    pub told_saved : (epoch : ℕ) → WasTold start logs (TellsSaved epoch) (ldm_of start member)
        → epoch ≤ (left.each member there).saved.slot.saved
    told_saved epoch told =
        let kept =
        each_in (λ (y : Addressed). TellsNotedRows start member (kept_part (logs (ldm_of start member))) y.signal.body)
        told.signal
        (taken (machine start) (ldm_of start member) (logs told.host)) (of.told_saved told.host told.below)
        (sound_taken start (ldm_of start member) told.signal (logs told.host) told.there) epoch told.tells in
        let low = of.saved.latest in
        omega (arith, kept, low)

    pub saved_low : r.epoch ≤ (left.each member there).saved.slot.saved
    saved_low =
        let first = saved_above start left.cluster.nobody member there (kept_part (logs (ldm_of start member))) in
        let low = of.saved.latest in
        let is = left.epoch_is in
        omega (arith, first, low, is)

    -- and what it noted as durable
    pub told_durable : (epoch : ℕ) → WasTold start logs (TellsDurable epoch) (tc_of start member)
        → epoch ≤ (left.each member there).noted.slot.epoch
    told_durable epoch told =
        by
        (each_in (λ (y : Addressed). TellsNotedDurable start member (kept_part (logs (tc_of start member)))
        y.signal.body)
        told.signal (taken (machine start) (tc_of start member) (logs told.host)) (of.told_durable told.host told.below)
        (sound_taken start (tc_of start member) told.signal (logs told.host) told.there) epoch told.tells)
      where
        by : IsNotedDurable start member (kept_part (logs (tc_of start member))) epoch
            → epoch ≤ (left.each member there).noted.slot.epoch
        by (inl low) =
            let least : r.epoch ≤ of.noted.slot.epoch = of.noted.least in
            let is = left.epoch_is in
            omega (arith, low, least, is)
        by (inr (latest, (mask, (was, low)))) =
            let up = of.noted.latest latest mask was in omega (arith, up, low)
