-- The master of a main host at an event, before it and behind it: what it orders, and what it marks.
use Rattle.std.proofs.Common.{◌≡◌, ◌≤◌, ◌⊎◌, ◌∙◌, ℕ, zero, suc, true, List, ◌∷◌, refl, sym, ap, subst, inl, inr, arith}
use Rattle.run_theory.specs.Lists.{IsIn}
use Rattle.run_theory.specs.Runs.{Happens}
use Rattle.sig_core.specs.declared.mark.Mark.{Mark}
use Rattle.sig_core.specs.declared.member.Member.{Member}
use Rattle.sig_core.specs.declared.place.BlockId.TheVariants as block
use Rattle.sig_core.specs.declared.place.Part.TheVariants.{Main}
use Rattle.sig_core.specs.declared.signal.Signal.{Signal}
use Rattle.sig_core.specs.declared.view.View.{View}
use Rattle.sig_core.specs.Step.{Step}
use Rattle.gcp_master.specs.declared.phase.Phase.TheVariants.{Unordered}
use Rattle.gcp_master.specs.Master.{master_row}
use Rattle.gcp_master.specs.State.{MasterState}
use Rattle.node_views.specs.declared.host_body.HostBody as node
use Rattle.node_views.specs.declared.main_part.MainPart.{MainPart}
use Rattle.node_views.specs.declared.parts.Parts.{Parts}
use Rattle.node_views.specs.declared.parts.Parts.TheVariants as part
use Rattle.node_views.specs.Parts.{main_row}
use Rattle.node_views.specs.WellFormed.{is_well_formed}
use Rattle.world_core.specs.Start.{Start, made}
use Rattle.world_core.specs.Steps.{HostStep}
use Rattle.world_views.specs.Machine.{after, step_after}
use Rattle.view_laws.specs.Order.{sound_machine}
use Rattle.view_laws.specs.Runs.{view_after}
use Rattle.view_laws.specs.Votes.{main_of}
use Rattle.view_laws.proofs.ballots.MadeSets.{in_either}
use Rattle.moment_laws.specs.Moments.{IsMoment, logs_of}
use Rattle.moment_laws.specs.Places.{ldm_of, tc_of}
use Rattle.moment_laws.proofs.MomentHosts.{part_some}
use Rattle.moment_laws.proofs.MomentTurns.{host_low, own_log}
use Rattle.epoch_laws.specs.Members.{master_of}
use Rattle.epoch_laws.proofs.MasterSpeaks.{installed}
use Rattle.epoch_laws.proofs.StandKinds.{RunsMain, Whose, main_at, master_at, of_main, of_rows, of_shell, of_tc}
use Rattle.epoch_laws.proofs.StandKinds.{runs_rows, runs_shell, whose}
use Rattle.epoch_laws.proofs.StandMarks.{runs_epochs}
use Rattle.closing_laws.proofs.closers.MainSteps.{Entering, Goes, enters, leaves, main_goes, remains, takes}
use Rattle.closing_laws.proofs.closers.NoClosings.{is_closing, not_among}
use Rattle.closing_laws.proofs.closers.Others.{HasNoMaster, others_close_none}
use Rattle.saved_laws.proofs.masters.Orders.{AreNotLate, MayOrderAll, main_orders, others_late}

-- the parts of a host of a node are those of its step
pub node_parts : (start : Start) (h : ℕ) → 1 ≤ h → (log : List HostStep) (e : HostStep)
    → (after start h (e ∷ log)).parts ≡ (step_after start h log e).state.parts
node_parts start zero some log e = absurd (omega (arith, some))
node_parts start (suc h) some log e = refl

module _ (start : Start) (all : ℕ → List HostStep) (e : HostStep) (es : List HostStep)
    (moment : IsMoment start all (e ∷ es))
  where
    abbrev old : ℕ → List HostStep
    old = logs_of start es

    abbrev new : ℕ → List HostStep
    new = logs_of start (e ∷ es)

    abbrev x : Signal
    x = e.step.taken

    abbrev s : node.HostBody
    s = after start e.host (old e.host)

    abbrev step : Step node.HostBody
    step = step_after start e.host (old e.host) e

    -- the master of a member that was made takes the signal, as it is or behind the view of the signal, and marks this
    pub record IsMarkedBy (mark : Mark) : Type 0 where
      pub member : Member
      pub there : IsIn member (made start)
      pub sound : is_well_formed start.shape x ≡ true
      pub between : MasterState
      pub before : (between ≡ master_of start old member) ⊎ (between.phase ≡ Unordered)
      pub now : master_of start new member ≡ (master_row between x).state
      pub marked : IsIn mark (master_row between x).effects.marks

    module _ (me : Member) (there : IsIn me (made start)) (at : e.host ≡ main_of start me) where
      some : 1 ≤ e.host
      some = subst (λ h. 1 ≤ h) (sym at) (part_some start Main me)

      runs_old : RunsMain start s.parts
      runs_old = main_at start moment.cluster.nobody me there e.host at (old e.host)

      runs_new : RunsMain start (after start e.host (e ∷ old e.host)).parts
      runs_new = main_at start moment.cluster.nobody me there e.host at (e ∷ old e.host)

      master_old : master_of start old me ≡ runs_old.main.master
      master_old = master_at start old me e.host at (part.Main runs_old.main) runs_old.is

      master_new : master_of start new me ≡ runs_new.main.master
      master_new =
          master_at start new me e.host at (part.Main runs_new.main)
          (ap (λ log. (after start e.host log).parts) (own_log start all e es moment) ∙ runs_new.is)

      -- what is ordered is due in the phase behind the event
      pub orders_now : MayOrderAll (master_of start new me) step.effects.sends
      orders_now =
          subst (λ (t : MasterState). MayOrderAll t step.effects.sends) (sym master_new)
          (main_orders start moment.cluster.nobody e.host some (old e.host) e runs_old.main runs_old.is runs_new.main
          runs_new.is)

      before_it : (between : MainPart) (seen : View)
          → Entering runs_old.main (view_after start e.host (old e.host)) x between seen
          → (between.master ≡ master_of start old me) ⊎ (between.master.phase ≡ Unordered)
      before_it between seen (remains same stands) =
          inl (ap (λ (q : MainPart). q.master) same ∙ sym master_old)
      before_it between seen (enters above same stands) =
          inr (ap (λ (q : MainPart). q.master.phase) same ∙ (installed runs_old.main.master x.view).phase)

      behind_it : (between : MainPart) → step.state.parts ≡ part.Main (main_row between block.GcpMaster x).state
          → master_of start new me ≡ (master_row between.master x).state
      unfolding main_row
      behind_it between parts =
          let both : part.Main runs_new.main ≡ part.Main (main_row between block.GcpMaster x).state =
          sym runs_new.is ∙ node_parts start e.host some (old e.host) e ∙ parts in
          let same : runs_new.main ≡ (main_row between block.GcpMaster x).state = cc in
          master_new ∙ ap (λ (q : MainPart). q.master) same

      -- and what is marked of closings is marked by the master
      marks_now : (mark : Mark) → is_closing mark ≡ true → IsIn mark step.effects.marks → IsMarkedBy mark
      marks_now mark closing marked =
          by (main_goes start moment.cluster.nobody e.host (old e.host) e runs_old.main runs_old.is)
        where
          by : Goes start.shape runs_old.main (view_after start e.host (old e.host)) x step → IsMarkedBy mark
          by (leaves now parts left none) = absurd (not_among mark closing step.effects.marks none marked)
          by (takes between seen entering passed to parts stood front none marks) =
              either (in_either mark front (master_row between.master x).effects.marks
              (subst (IsIn mark) marks marked))
            where
              either : IsIn mark front ⊎ IsIn mark (master_row between.master x).effects.marks → IsMarkedBy mark
              either (inl early) = absurd (not_among mark closing front none early)
              either (inr row) = record {
                member = me;
                there = there;
                sound = passed.sound;
                between = between.master;
                before = before_it between seen entering;
                now = behind_it between parts;
                marked = row;
              }

    -- whose host it is: that of a master, or one that orders and marks none
    pub data Masters : Type 0 where
      has_one : (me : Member) → IsIn me (made start) → e.host ≡ main_of start me → Masters
      has_none : HasNoMaster s.parts → Masters

    pub masters : Masters
    masters = by (whose start moment.cluster.nobody e.host (host_low start all e es moment))
      where
        none : (h : ℕ) (parts : Parts) → e.host ≡ h → (after start h (old h)).parts ≡ parts → HasNoMaster parts
            → Masters
        none h parts at is lacks =
            has_none (subst HasNoMaster (sym (ap (λ h. (after start h (old h)).parts) at ∙ is)) lacks)

        by : Whose start e.host → Masters
        by (of_shell at) =
            let runs = runs_shell start (old 0) in none 0 (part.Shell runs.shell) at runs.is tt
        by (of_main me there at) = has_one me there at
        by (of_tc me there at) =
            let runs = runs_epochs start moment.cluster.nobody old me there in
            none (tc_of start me) (part.Tc runs.part) at runs.is tt
        by (of_rows me there at) =
            let runs = runs_rows start moment.cluster.nobody me there (old (ldm_of start me)) in
            none (ldm_of start me) (part.Ldm runs.rows) at runs.is tt

    pub none_ordered : HasNoMaster s.parts → AreNotLate step.effects.sends
    none_ordered none = others_late start e.host (old e.host) e none

    pub marked_by : (mark : Mark) → is_closing mark ≡ true → IsIn mark e.step.marks → IsMarkedBy mark
    marked_by mark closing marked = by masters
      where
        inside : IsIn mark step.effects.marks
        inside =
            let happens : Happens (sound_machine start) es e = moment.run.1 in
            subst (IsIn mark) happens.step.fits.marks marked

        by : Masters → IsMarkedBy mark
        by (has_one me there at) = marks_now me there at mark closing inside
        by (has_none none) =
            absurd (not_among mark closing step.effects.marks (others_close_none x e.host s none) inside)
