-- Epochs never fall along the history, and the first view is the only one.
use Rattle.std.proofs.Common.{◌≡◌, ◌≤◌, ℕ, zero, suc, List, [], ◌∷◌, refl, sym, ap, ◌∙◌, subst, arith}
use Rattle.run_theory.specs.Lists.{Each}
use Rattle.run_theory.specs.Logs.{IsLog, IsStep}
use Rattle.run_theory.specs.Runs.{AreLogs}
use Rattle.run_theory.proofs.Cuts.{logs_of_closed}
use Rattle.run_theory.proofs.Pasts.{each_map}
use Rattle.sig_core.specs.declared.entry.Entry.{Entry}
use Rattle.world_core.specs.Steps.{HostStep}
use Rattle.sig_core.specs.declared.mark.Mark.{Mark}
use Rattle.sig_core.specs.declared.mark.Mark.TheVariants as mark
use Rattle.sig_core.specs.declared.view.View.{View}
use Rattle.world_core.specs.Entries.{entries_in, entries_of}
use Rattle.world_core.specs.History.{history}
use Rattle.world_core.specs.Hosts.{first_hosts, hosts}
use Rattle.world_core.specs.Machine.{after, machine}
use Rattle.world_core.specs.SerialLaw.{AreEpochsOrdered}
use Rattle.frag_map.specs.Groups.{is_viable}
use Rattle.frag_map.specs.Layout.{first_view}
use Rattle.frag_map.proofs.FirstReplicas.{first_viable}
use Rattle.world_core.specs.Start.{Start}
use Rattle.world_core.specs.Views.{greatest_below, greatest_in, greatest_of}
use Rattle.world_core.proofs.Stamped.{stamped}
use Rattle.run_laws.specs.Laws.{EpochsNeverFall, GreatestViewIsFirst, GreatestViewIsViable, IsClosedCut}
use Rattle.run_laws.proofs.history.EachEntry.{each_kept}
use Rattle.host_laws.proofs.hosts.HostMarks.{AreMarks, IsIn, decides, plain, row_epoch, row_marks}
use Rattle.host_laws.proofs.hosts.PlainMarks.{ArePlain}
use Rattle.host_laws.proofs.hosts.StartedHosts.{started_epoch}

-- a closed cut of right logs is right logs itself
pub inside_right : (start : Start) (inside logs : ℕ → List HostStep) → IsClosedCut start inside logs
    → AreLogs (machine start) inside
inside_right start inside logs is = logs_of_closed (machine start) (stamped start) inside logs is.right is.cut is.closed

pub plain_entries : (P : Entry → Type 0) (h stamp : ℕ) (log : List HostStep) (marks : List Mark) (before : List Entry)
    → ArePlain marks → Each P before → Each P (entries_in h stamp log marks before)
plain_entries P h stamp log [] before all each = each
plain_entries P h stamp log (mark.Decided tx epoch ∷ marks) before all each = absurd cc
plain_entries P h stamp log (m ∷ marks) before all each = plain_entries P h stamp log marks before all.1 each

plain_greatest : (marks : List Mark) (view : View) → ArePlain marks → greatest_in marks view ≡ view
plain_greatest [] view all = refl
plain_greatest (mark.Installed other ∷ marks) view all = absurd cc
plain_greatest (m ∷ marks) view all = plain_greatest marks view all.1

marks_greatest : (epoch : ℕ) (marks : List Mark) (view : View) → AreMarks epoch marks → greatest_in marks view ≡ view
marks_greatest epoch marks view (plain all) = plain_greatest marks view all
marks_greatest epoch marks view (decides tx is) = ap (λ w. greatest_in w view) is

-- entries of one epoch are in order of epochs
one_epoch : (epoch : ℕ) (xs : List Entry) → Each (λ b. b.epoch ≡ epoch) xs → AreEpochsOrdered xs
one_epoch epoch [] all = tt
one_epoch epoch (a ∷ xs) all = (
  each_map (λ (b : Entry). b.epoch ≡ epoch) (λ b. a.epoch ≤ b.epoch) xs
      (λ b is. omega (arith, is, all.0)) all.1,
  one_epoch epoch xs all.1,
)

module _ (start : Start) where
  epoch_stays : (h : ℕ) (log : List HostStep) → IsIn start.epoch (after start h log)
  epoch_stays h [] = started_epoch start h
  epoch_stays h (e ∷ log) = row_epoch start.epoch (after start h log) e.step.taken (epoch_stays h log)

  -- the marks of a step are those of its row
  pub step_marks : (h : ℕ) (log : List HostStep) (e : HostStep) → IsStep (machine start) h log e
      → AreMarks start.epoch e.step.marks
  step_marks h log e is = subst (AreMarks start.epoch) (sym is.fits.marks)
      (row_marks start.epoch (after start h log) e.step.taken (epoch_stays h log))

  step_epochs : (h : ℕ) (log : List HostStep) (e : HostStep) → AreMarks start.epoch e.step.marks
      → Each (λ b. b.epoch ≡ start.epoch) (entries_of h log)
      → Each (λ b. b.epoch ≡ start.epoch) (entries_of h (e ∷ log))
  step_epochs h log e (plain all) before =
      plain_entries (λ b. b.epoch ≡ start.epoch) h e.step.stamp (e ∷ log) e.step.marks (entries_of h log) all before
  step_epochs h log e (decides tx is) before =
      subst (λ w. Each (λ b. b.epoch ≡ start.epoch) (entries_in h e.step.stamp (e ∷ log) w (entries_of h log))) (sym is)
      (refl, before)

  log_epochs : (h : ℕ) (log : List HostStep) → IsLog (machine start) h log
      → Each (λ b. b.epoch ≡ start.epoch) (entries_of h log)
  log_epochs h [] l = tt
  log_epochs h (e ∷ log) l = step_epochs h log e (step_marks h log e l.0) (log_epochs h log l.1)

  log_greatest : (h : ℕ) (log : List HostStep) (view : View) → IsLog (machine start) h log → greatest_of log view ≡ view
  log_greatest h [] view l = refl
  log_greatest h (e ∷ log) view l = marks_greatest start.epoch e.step.marks (greatest_of log view)
      (step_marks h log e l.0) ∙ log_greatest h log view l.1

  logs_greatest : (n : ℕ) (logs : ℕ → List HostStep) (view : View) → AreLogs (machine start) logs
      → greatest_below n logs view ≡ view
  logs_greatest zero logs view a = refl
  logs_greatest (suc n) logs view a =
      log_greatest n (logs n) (greatest_below n logs view) (a.local n) ∙ logs_greatest n logs view a

pub epochs_ordered : EpochsNeverFall
epochs_ordered start inside logs is =
    one_epoch start.epoch (history (first_hosts start) inside)
    (each_kept (λ b. b.epoch ≡ start.epoch) (first_hosts start) inside
    (λ h. log_epochs start h (inside h) ((inside_right start inside logs is).local h)))

pub view_first : GreatestViewIsFirst
view_first start inside logs is =
    logs_greatest start (hosts start) inside (first_view start.shape.nodes) (inside_right start inside logs is)

pub view_viable : GreatestViewIsViable
view_viable start inside logs shape is =
    ap (is_viable start.shape) (view_first start inside logs is) ∙ first_viable start.shape shape
