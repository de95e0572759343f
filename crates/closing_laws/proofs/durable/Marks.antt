-- Epochs are marked closed, and durable, by masters alone.
use Rattle.std.proofs.Common.{◌≡◌, ◌⊎◌, ◌∙◌, true, ℕ, List, ◌∷◌, sym, ap, subst, inl, inr}
use Rattle.std.proofs.lemmas.Bool.{false≢true}
use Rattle.run_theory.proofs.Pasts.{each_in}
use Rattle.run_theory.specs.Lists.{IsIn}
use Rattle.sig_core.specs.declared.mark.Mark.{Mark}
use Rattle.sig_core.specs.declared.mark.Mark.TheVariants.{Closed, Durable}
use Rattle.sig_core.specs.declared.member.Member.{Member}
use Rattle.sig_core.specs.declared.signal.Body.{Body}
use Rattle.sig_core.specs.declared.signal.Signal.{Signal}
use Rattle.sig_core.specs.declared.view.View.{View}
use Rattle.sig_core.specs.Step.{Step}
use Rattle.gcp_master.specs.declared.phase.Phase.TheVariants.{Unordered, Committing, Copying}
use Rattle.gcp_master.specs.declared.voices.Voice.{Voice}
use Rattle.gcp_master.specs.Master.{master_row}
use Rattle.gcp_master.specs.State.{MasterState}
use Rattle.gcp_master.proofs.Outcomes.{voice_of}
use Rattle.node_views.specs.declared.host_body.HostBody as node
use Rattle.node_views.specs.declared.main_part.MainPart.{MainPart}
use Rattle.node_views.specs.declared.parts.Parts.{Parts}
use Rattle.node_views.specs.declared.parts.Parts.TheVariants as part
use Rattle.world_core.specs.Start.{Start, made}
use Rattle.world_core.specs.Steps.{HostStep}
use Rattle.world_views.specs.Machine.{after, step_after}
use Rattle.view_laws.specs.Runs.{view_after}
use Rattle.view_laws.specs.Votes.{main_of}
use Rattle.view_laws.proofs.ballots.MadeSets.{in_either}
use Rattle.moment_laws.specs.Moments.{IsMoment, logs_of}
use Rattle.moment_laws.specs.Places.{ldm_of, tc_of}
use Rattle.moment_laws.proofs.MomentTurns.{host_low}
use Rattle.epoch_laws.specs.Members.{master_of}
use Rattle.epoch_laws.specs.Stand.{AllStand}
use Rattle.epoch_laws.proofs.MasterSpeaks.{installed}
use Rattle.epoch_laws.proofs.StandKinds.{RunsMain, Whose, main_at, master_at, of_main, of_rows, of_shell, of_tc}
use Rattle.epoch_laws.proofs.StandKinds.{runs_rows, runs_shell, whose}
use Rattle.epoch_laws.proofs.StandMarks.{marks_are, runs_epochs}
use Rattle.closing_laws.proofs.closers.NoClosings.{is_closing, not_among}
use Rattle.closing_laws.proofs.closers.Others.{HasNoMaster, others_close_none}
use Rattle.closing_laws.proofs.closers.MainSteps.{Entering, Goes, enters, leaves, main_goes, remains, takes}
use Rattle.closing_laws.proofs.closers.Marks.{IsMarkOf, master_marks}

-- a master that does nothing marks none
idle_marks_none : (s : MasterState) (voice : Voice) (body : Body) → s.phase ≡ Unordered → (mark : Mark)
    → is_closing mark ≡ true → IsMarkOf s voice body mark → ⊥
idle_marks_none s voice body idle (Closed epoch) closing is =
    let differ : Unordered ≡ Committing is.run = sym idle ∙ is.phase in absurd cc
idle_marks_none s voice body idle (Durable epoch) closing is =
    let differ : Unordered ≡ Copying is.run = sym idle ∙ is.phase in absurd cc
idle_marks_none s voice body idle mark closing is = false≢true closing

module _ (start : Start) (all : ℕ → List HostStep) (e : HostStep) (es : List HostStep)
    (moment : IsMoment start all (e ∷ es)) (stand : AllStand start (logs_of start es))
  where
    abbrev old : ℕ → List HostStep
    old = logs_of start es

    abbrev x : Signal
    x = e.step.taken

    abbrev s : node.HostBody
    s = after start e.host (old e.host)

    abbrev step : Step node.HostBody
    step = step_after start e.host (old e.host) e

    -- the master of a member that was made marks this
    pub record IsMarkedBy (mark : Mark) : Type 0 where
      pub member : Member
      pub there : IsIn member (made start)
      pub is : IsMarkOf (master_of start old member) (voice_of x) x.body mark

    module _ (mark : Mark) (closing : is_closing mark ≡ true) where
      no_master : (parts : Parts) → s.parts ≡ parts → HasNoMaster parts → IsIn mark step.effects.marks → ⊥
      no_master parts is none =
          not_among mark closing step.effects.marks (others_close_none x e.host s (subst HasNoMaster (sym is) none))

      module _ (me : Member) (there : IsIn me (made start)) (at : e.host ≡ main_of start me) where
        main_runs : RunsMain start s.parts
        main_runs = main_at start moment.cluster.nobody me there e.host at (old e.host)

        abbrev p : MainPart
        p = main_runs.main

        master_is : master_of start old me ≡ p.master
        master_is = master_at start old me e.host at (part.Main p) main_runs.is

        abbrev MarksIt : MainPart → Type 0
        MarksIt q = IsMarkOf q.master (voice_of x) x.body mark

        of_row : (between : MainPart) (seen : View) → Entering p (view_after start e.host (old e.host)) x between seen
            → MarksIt between → IsMarkedBy mark
        of_row between seen (remains same stands) is = record {
          member = me;
          there = there;
          is =
              subst (λ (t : MasterState). IsMarkOf t (voice_of x) x.body mark) (sym master_is)
              (subst MarksIt same is);
        }
        of_row between seen (enters above same stands) is =
            absurd (idle_marks_none between.master (voice_of x) x.body
            (ap (λ (q : MainPart). q.master.phase) same ∙ (installed p.master x.view).phase) mark closing is)

        of_main_host : IsIn mark step.effects.marks → IsMarkedBy mark
        of_main_host marked = by (main_goes start moment.cluster.nobody e.host (old e.host) e p main_runs.is)
          where
            by : Goes start.shape p (view_after start e.host (old e.host)) x step → IsMarkedBy mark
            by (leaves now parts left none) = absurd (not_among mark closing step.effects.marks none marked)
            by (takes between seen entering passed to parts stands front none marks) =
                either (in_either mark front (master_row between.master x).effects.marks
                (subst (IsIn mark) marks marked))
              where
                either : IsIn mark front ⊎ IsIn mark (master_row between.master x).effects.marks → IsMarkedBy mark
                either (inl early) = absurd (not_among mark closing front none early)
                either (inr row) =
                    of_row between seen entering
                    (each_in (IsMarkOf between.master (voice_of x) x.body) mark
                    (master_row between.master x).effects.marks (master_marks between.master x) row)

      pub closing_marked : IsIn mark e.step.marks → IsMarkedBy mark
      closing_marked marked = by (whose start moment.cluster.nobody e.host (host_low start all e es moment))
        where
          inside : IsIn mark step.effects.marks
          inside = subst (IsIn mark) (marks_are start all e es moment stand) marked

          parts_at : (h : ℕ) (parts : Parts) → e.host ≡ h → (after start h (old h)).parts ≡ parts → s.parts ≡ parts
          parts_at h parts at is = ap (λ h. (after start h (old h)).parts) at ∙ is

          by : Whose start e.host → IsMarkedBy mark
          by (of_shell at) =
              let runs = runs_shell start (old 0) in
              let parts = part.Shell runs.shell in
              absurd (no_master parts (parts_at 0 parts at runs.is) tt inside)
          by (of_main me there at) = of_main_host me there at inside
          by (of_tc me there at) =
              let runs = runs_epochs start moment.cluster.nobody old me there in
              let parts = part.Tc runs.part in
              absurd (no_master parts (parts_at (tc_of start me) parts at runs.is) tt inside)
          by (of_rows me there at) =
              let runs = runs_rows start moment.cluster.nobody me there (old (ldm_of start me)) in
              let parts = part.Ldm runs.rows in
              absurd (no_master parts (parts_at (ldm_of start me) parts at runs.is) tt inside)
