-- Only the shell's host reports what became of transactions.
use Rattle.std.proofs.Common.{◌≡◌, ◌||◌, ◌%◌, ℕ, suc, Bool, true, false, List, [], ◌∷◌, refl, sym, subst}
use Rattle.std.proofs.lemmas.Bool.{true≢false}
use Rattle.std.specs.List.{list_any}
use Rattle.run_theory.specs.Lists.{Each}
use Rattle.run_theory.specs.Logs.{IsLog}
use Rattle.run_theory.proofs.Pasts.{each_in}
use Rattle.sig_core.specs.declared.mark.Mark.{Mark}
use Rattle.sig_core.specs.declared.mark.Mark.TheVariants.{Reported}
use Rattle.sig_core.specs.declared.member.Member.{Member}
use Rattle.sig_core.specs.declared.member.TxId.{TxId}
use Rattle.sig_core.specs.declared.place.Part.{Part}
use Rattle.sig_core.specs.declared.place.Part.TheVariants as kind
use Rattle.sig_core.specs.Step.{Effects}
use Rattle.node_views.specs.Words.{parts_marks}
use Rattle.commit_laws.proofs.hosts.Words.{OfKind, host_marks_each}
use Rattle.commit_laws.proofs.hosts.SomePasses.{passing}
use Rattle.node_views.specs.declared.parts.Parts.{Parts}
use Rattle.node_views.specs.declared.parts.Parts.TheVariants.{Ldm, Main, Shell, Tc}
use Rattle.world_core.specs.Hosts.{member_at, part_by}
use Rattle.world_core.specs.History.{is_reported}
use Rattle.world_core.specs.Marks.{has_mark}
use Rattle.world_core.specs.Start.{NobodyStarts, Start, made}
use Rattle.world_core.specs.Steps.{HostStep}
use Rattle.world_views.specs.Hosts.{part_started, started}
use Rattle.world_views.specs.Machine.{machine, step_after}
use Rattle.world_views.proofs.AllBegin.{started_behind}

abbrev IsNoReport : Mark → Type 0
IsNoReport (Reported tx outcome) = ⊥
IsNoReport mark = Unit {0}

abbrev ReportNone : Effects → Type 0
ReportNone effects = Each IsNoReport effects.marks

-- the hosts of nodes
abbrev Away : Parts → Type 0
Away parts = OfKind ⊥ (Unit {0}) (Unit {0}) (Unit {0}) parts

-- no mark of theirs is a report
none_of : (parts : Parts) → Away parts → (mark : Mark) → parts_marks parts mark ≡ true → IsNoReport mark
none_of (Shell p) away mark is = absurd away
none_of (Main p) away (Reported tx outcome) is = absurd (true≢false (sym is))
none_of (Tc p) away (Reported tx outcome) is = absurd (true≢false (sym is))
none_of (Ldm p) away (Reported tx outcome) is = absurd (true≢false (sym is))
none_of parts away mark is = tt

module _ (start : Start) (nobody : NobodyStarts start) (k : ℕ) where
  begins_away : Away (started start (suc k)).parts
  begins_away =
      subst (λ s. Away s.parts) (sym (started_behind start nobody k))
      (by (part_by (k % 3)) (member_at (made start) (suc k)))
    where
      by : (part : Part) (me : Member) → Away (part_started start part me).parts
      by kind.Main me = tt
      by kind.Tc me = tt
      by kind.Ldm me = tt

  step_none : (log : List HostStep) (e : HostStep) → ReportNone (step_after start (suc k) log e).effects
  step_none log e =
      host_marks_each ⊥ (Unit {0}) (Unit {0}) (Unit {0}) IsNoReport
      (record { stops = λ cause. tt; installs = λ view. tt; cuts = λ host. tt }) none_of start (suc k) begins_away log e

  none_new : (v : TxId) (marks : List Mark) → Each IsNoReport marks → list_any (is_reported v) marks ≡ true → ⊥
  none_new v marks none any =
      let one = passing (is_reported v) marks any in
      by one.item one.is (each_in IsNoReport one.item marks none one.there)
    where
      by : (mark : Mark) → is_reported v mark ≡ true → IsNoReport mark → ⊥
      by (Reported other outcome) is none = none
      by mark is none = absurd cc

  -- any other host reports nothing
  pub no_reports : (v : TxId) (log : List HostStep) → IsLog (machine start) (suc k) log
      → has_mark (is_reported v) log ≡ true → ⊥
  no_reports v [] is has = true≢false (sym has)
  no_reports v (e ∷ log) is has = by (list_any (is_reported v) e.step.marks) refl has (no_reports v log is.1)
    where
      by : (b : Bool) → list_any (is_reported v) e.step.marks ≡ b → (b || has_mark (is_reported v) log) ≡ true
          → (has_mark (is_reported v) log ≡ true → ⊥) → ⊥
      by true now has rest =
          none_new v e.step.marks (subst (Each IsNoReport) (sym is.0.fits.marks) (step_none log e)) now
      by false now has rest = rest has
