-- The laws of closed cuts, from what holds along runs.
use Rattle.std.proofs.Common.{ℕ, List, [], ◌∷◌, ◌++◌, sym, subst}
use Rattle.run_theory.proofs.Along.{of_runs_at_cuts, within_cut}
use Rattle.run_theory.proofs.Pasts.{each_in}
use Rattle.run_theory.specs.Lists.{Each}
use Rattle.run_theory.specs.Runs.{IsWithin, Run, log_of}
use Rattle.sig_core.specs.declared.mark.Mark.TheVariants.{Reported}
use Rattle.sig_core.specs.declared.outcome.Outcome.TheVariants.{Aborted}
use Rattle.frag_map.specs.Shape.{IsShape}
use Rattle.world_core.proofs.Stamped.{stamped}
use Rattle.world_core.specs.Hosts.{first_hosts}
use Rattle.world_core.specs.Machine.{after, machine}
use Rattle.world_core.specs.Start.{Start}
use Rattle.world_core.specs.Steps.{HostStep}
use Rattle.host_laws.proofs.hosts.BlocksAlong.{replies_are}
use Rattle.run_laws.specs.Laws.{IsClosedCut}
use Rattle.run_laws.specs.Transit.{IsRun}
use Rattle.run_laws.proofs.transit.Runs.{runs_have_transit}
use Rattle.cause_laws.specs.Causes.{AbortsAreCaused}
use Rattle.cause_laws.specs.TurnedAway.{IsReplyCaused, RepliesAreCaused, TurnedAwayAreTooMany}
use Rattle.cause_laws.proofs.CausesAlong.{AllTell, AreMarksCaused, IsMarkCaused, Tells, all_tell}

module _ (start : Start) (shape : IsShape start.shape) where
  runs_tell : (es : List HostStep) → Run (machine start) es → IsWithin (first_hosts start) (log_of (machine start) es)
      → AllTell start (log_of (machine start) es)
  runs_tell es run within =
      let now : IsRun start es = record { shape = shape; run = run; within = within } in
      let (xs, transit) = runs_have_transit start es now in
      all_tell start es xs now transit

  cuts_tell : (inside logs : ℕ → List HostStep) → IsClosedCut start inside logs → AllTell start inside
  cuts_tell inside logs cut =
      of_runs_at_cuts (machine start) (stamped start) (λ ls. IsWithin (first_hosts start) ls → AllTell start ls)
      runs_tell
      (first_hosts start) inside logs cut.within cut.right cut.cut cut.closed
      (within_cut (machine start) (stamped start) (first_hosts start) inside logs cut.within cut.cut)

-- what is marked at a step behind a log
marks_behind : (start : Start) (logs : ℕ → List HostStep) (newer : List HostStep) (e : HostStep)
    (before : List HostStep)
    → AreMarksCaused start logs (newer ++ e ∷ before) → Each (IsMarkCaused start logs before) e.step.marks
marks_behind start logs [] e before all = all.0
marks_behind start logs (f ∷ newer) e before all = marks_behind start logs newer e before all.1

pub aborts_caused : AbortsAreCaused
aborts_caused start inside logs shape cut e before past tx why among =
    let all = cuts_tell start shape inside logs cut in
    each_in (IsMarkCaused start inside before) (Reported tx (Aborted why)) e.step.marks
    (marks_behind start inside past.newer e before (subst (AreMarksCaused start inside) past.is all.marks)) among

pub away_too_many : TurnedAwayAreTooMany
away_too_many start inside logs shape cut e name among is =
    let all = cuts_tell start shape inside logs cut in
    subst (Tells start inside) is
    (each_in (λ (f : HostStep). Tells start inside f.step.taken.body) e (inside 0) (all.taken 0) among)

pub replies_caused : RepliesAreCaused
replies_caused start inside logs shape cut =
    let all = cuts_tell start shape inside logs cut in
    subst (Each (IsReplyCaused start inside)) (sym (replies_are (after start 0 (inside 0)))) (all.replies 0)
