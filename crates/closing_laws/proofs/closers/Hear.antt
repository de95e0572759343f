-- An epoch is closed by the president of the current view, where each full member has ended it and takeover is over.
use Rattle.std.proofs.Common.{◌<◌, ◌≡◌, ◌≤◌, ◌⊎◌, ℕ, Bool, true, false, List, [], ◌∷◌, refl, sym, ap, subst}
use Rattle.std.proofs.Common.{◌∙◌}
use Rattle.std.proofs.Common.{inl, inr, arith}
use Rattle.std.proofs.lemmas.Bool.{true≢false}
use Rattle.frag_map.specs.Layout.{first_layout}
use Rattle.run_theory.proofs.Pasts.{each_append, each_in, each_map}
use Rattle.run_theory.specs.Lists.{Each, IsIn}
use Rattle.sig_core.specs.declared.mark.Mark.TheVariants.{Closed}
use Rattle.sig_core.specs.declared.member.Member.{Member}
use Rattle.sig_core.specs.declared.place.BlockId.TheVariants as block
use Rattle.sig_core.specs.declared.signal.Signal.{Signal}
use Rattle.sig_core.specs.declared.view.View.{View}
use Rattle.gcp_master.specs.declared.phase.Phase.TheVariants.{Unordered, Committing}
use Rattle.gcp_master.specs.declared.voices.Voice.{Voice}
use Rattle.gcp_master.specs.Master.{master_row}
use Rattle.gcp_master.specs.State.{MasterState}
use Rattle.gcp_master.proofs.Outcomes.{voice_of}
use Rattle.gcp_master.specs.Voices as gcp
use Rattle.node_views.specs.declared.host_body.HostBody as node
use Rattle.node_views.specs.declared.main_part.MainPart.{MainPart}
use Rattle.node_views.specs.declared.parts.Parts.{Parts}
use Rattle.node_views.specs.declared.parts.Parts.TheVariants as part
use Rattle.node_views.specs.Parts.{main_entered}
use Rattle.world_core.specs.Start.{Start, made}
use Rattle.world_core.specs.Steps.{HostStep}
use Rattle.world_views.specs.Machine.{after, step_after, told}
use Rattle.view_laws.specs.Runs.{view_after}
use Rattle.view_laws.specs.Votes.{main_of}
use Rattle.view_laws.proofs.ballots.MadeSets.{in_either}
use Rattle.view_laws.proofs.eras.Deciders.{told_view}
use Rattle.moment_laws.specs.Moments.{IsMoment, current, logs_of}
use Rattle.moment_laws.specs.Parts.{IsPassed}
use Rattle.moment_laws.specs.Places.{ldm_of, tc_of}
use Rattle.moment_laws.proofs.MomentHosts.{main_low}
use Rattle.moment_laws.proofs.MomentTurns.{current_rises, host_low, old_current, own_behind, taker_stands}
use Rattle.moment_laws.proofs.MomentViews.{current_above, current_number, moment_less, number_in}
use Rattle.moment_laws.proofs.PartTaken.{IsTakenNow}
use Rattle.epoch_laws.specs.Alike.{EachFull}
use Rattle.epoch_laws.specs.Masters.{EachHeard}
use Rattle.epoch_laws.specs.Members.{IsFirst, IsPresident, IsStanding, epochs_of, master_of}
use Rattle.epoch_laws.specs.Stand.{AllStand}
use Rattle.epoch_laws.proofs.MasterHears.{all_by_one, same_member-is, same_member-self}
use Rattle.epoch_laws.proofs.MasterMoves.{HaveAll, with_one}
use Rattle.epoch_laws.proofs.MasterSpeaks.{installed}
use Rattle.epoch_laws.proofs.StandAll.{epochs_stand}
use Rattle.epoch_laws.proofs.StandKinds.{RunsMain, Whose, main_at, master_at, of_main, of_rows, of_shell, of_tc}
use Rattle.epoch_laws.proofs.StandKinds.{runs_rows, runs_shell, whose}
use Rattle.epoch_laws.proofs.StandMarks.{marks_are}
use Rattle.epoch_laws.proofs.StandMasters.{master_view}
use Rattle.epoch_laws.proofs.StepKinds.{tc_at}
use Rattle.closing_laws.specs.Closed.{ClosersHaveHeardAll, HasEnded, IsClosing, IsOver}
use Rattle.closing_laws.proofs.closers.NoClosings.{not_among}
use Rattle.closing_laws.proofs.closers.Others.{HasNoMaster, others_close_none}
use Rattle.closing_laws.proofs.takeover.OwnMaster.{ends_own}
use Rattle.closing_laws.proofs.closers.HeardByMasters.{AllHeard, AreEnded, all_heard, report_true}
use Rattle.closing_laws.proofs.closers.ToldByMembers.{keeps_ended}
use Rattle.closing_laws.proofs.closers.MainSteps.{Entering, Goes, enters, leaves, main_goes, remains, takes}
use Rattle.closing_laws.proofs.closers.Marks.{ClosesRun, Heard, IsMarkOf, last, master_marks}
use Rattle.closing_laws.proofs.closers.Marks as heard
use Rattle.closing_laws.proofs.takeover.MastersAreTold.{EndsAreOwn, IsOverIn, all_over, over_now, still}

-- a member is this one or another
pub is_or : (one other : Member) → (one ≡ other) ⊎ (one ≡ other → ⊥)
is_or one other = by (gcp.same_member one other) refl
  where
    by : (b : Bool) → gcp.same_member one other ≡ b → (one ≡ other) ⊎ (one ≡ other → ⊥)
    by true is = inl (same_member-is one other is)
    by false is = inr (λ same. true≢false (sym (same_member-self one other same) ∙ is))

-- and the first of a list, or not
pub first_or : (member : Member) (members : List Member) → IsFirst member members ⊎ (IsFirst member members → ⊥)
first_or member [] = inr (λ is. is)
first_or member (oldest ∷ members) = is_or member oldest

module _ (own : EndsAreOwn) (start : Start) (all : ℕ → List HostStep) (e : HostStep) (es : List HostStep)
    (begins : start.start_epoch < start.epoch) (moment : IsMoment start all (e ∷ es))
  where
    abbrev old : ℕ → List HostStep
    old = logs_of start es

    abbrev new : ℕ → List HostStep
    new = logs_of start (e ∷ es)

    abbrev x : Signal
    x = e.step.taken

    less : IsMoment start all es
    less = moment_less start all e es moment

    stand : AllStand start (logs_of start es)
    stand = epochs_stand start all es begins less

    heard_all : AllHeard start (logs_of start es)
    heard_all = all_heard start all es begins less

    abbrev s : node.HostBody
    s = after start e.host (old e.host)

    -- hosts without a master close nothing
    module _ (epoch : ℕ) (marked : IsIn (Closed epoch) e.step.marks) where
      not_other : HasNoMaster s.parts → ⊥
      not_other none =
          not_among (Closed epoch) refl (step_after start e.host (old e.host) e).effects.marks
          (others_close_none x e.host s none)
          (subst (IsIn (Closed epoch)) (marks_are start all e es moment stand) marked)

      module _ (me : Member) (there : IsIn me (made start)) (at : e.host ≡ main_of start me) where
        main_runs : RunsMain start s.parts
        main_runs = main_at start moment.cluster.nobody me there e.host at (old e.host)

        abbrev p : MainPart
        p = main_runs.main

        master_is : master_of start old me ≡ p.master
        master_is = master_at start old me e.host at (part.Main p) main_runs.is

        -- the master takes the signal in the view in which its host stood before
        module _ (seen : View) (stands : seen ≡ view_after start e.host (old e.host))
            (passed : IsPassed start.shape (part.Main p) seen x) (to : x.to.block ≡ block.GcpMaster)
            (stood : (step_after start e.host (old e.host) e).state.standing.view ≡ seen)
            (closes : ClosesRun p.master (voice_of x) x.body epoch)
          where
            view_same : view_after start e.host (e ∷ old e.host) ≡ view_after start e.host (old e.host)
            view_same = told_view e.host (step_after start e.host (old e.host) e) ∙ stood ∙ stands

            low : x.view.number ≤ (view_after start e.host (e ∷ old e.host)).number
            low = subst (λ (v : View). x.view.number ≤ v.number) (stands ∙ sym view_same) passed.low

            taken_here : IsTakenNow start all e es moment block.GcpMaster
            taken_here = record {
              block = to;
              sound = passed.sound;
              stands = taker_stands start all e es moment low;
              fresh = λ fenced.
                  let above : (view_after start e.host (e ∷ old e.host)).number ≤ x.view.number =
                  subst (λ (v : View). v.number ≤ x.view.number) (stands ∙ sym view_same) (passed.fresh fenced) in
                  let same : (view_after start e.host (e ∷ old e.host)).number ≡ (current start new).number =
                  ap (λ (v : View). v.number) (taker_stands start all e es moment low) in
                  omega (arith, low, above, same);
            }

            -- it stood in the current view before
            view_old : view_after start e.host (old e.host) ≡ current start new
            view_old = sym view_same ∙ taken_here.stands

            number_old : (view_after start (main_of start me) (old (main_of start me))).number
                ≡ current_number start new
            number_old = ap (λ h. (view_after start h (old h)).number) (sym at) ∙ ap (λ (v : View). v.number) view_old

            same_number : current_number start new ≡ current_number start old
            same_number =
                let above : number_in start old (main_of start me) ≤ current_number start old =
                current_above start old moment.cluster.nobody (main_of start me)
                (main_low start moment.cluster.nobody me there) in
                let rises = current_rises start all e es moment in
                let here : number_in start old (main_of start me) ≡ current_number start new = number_old in
                omega (arith, above, rises, here)

            view_kept : current start new ≡ current start old
            view_kept = old_current start all e es moment same_number

            standing_old : IsStanding start old me
            standing_old = number_old ∙ same_number

            phase_old : (master_of start old me).phase ≡ Committing closes.run
            phase_old = ap (λ (s : MasterState). s.phase) master_is ∙ closes.phase

            president : IsPresident start new me
            president = by (first_or me (current start old).full)
              where
                by : IsFirst me (current start old).full ⊎ (IsFirst me (current start old).full → ⊥)
                    → IsFirst me (current start new).full
                by (inl first) = subst (λ (v : View). IsFirst me v.full) (sym view_kept) first
                by (inr other) =
                    let none : Unordered ≡ Committing closes.run =
                    sym (stand.others me there other standing_old) ∙ phase_old in
                    absurd cc

            standing : IsStanding start new me
            standing =
                ap (λ h. (view_after start h (new h)).number) (sym at)
                ∙ ap (λ (v : View). v.number) (own_behind start all e es moment ∙ taken_here.stands)

            -- whom it has heard
            voices_heard : EachHeard start old (HasEnded closes.run.epoch) p.master.voices
            voices_heard =
                subst (λ (t : MasterState). EachHeard start old (HasEnded closes.run.epoch) t.voices) master_is
                (subst (AreEnded start old (master_of start old me).voices) phase_old (heard_all.masters me there))

            master_seen : p.master.view ≡ current start new
            master_seen =
                ap (λ (t : MasterState). t.view) (sym master_is) ∙ master_view start moment.cluster.nobody me there old
                ∙ ap (λ h. view_after start h (old h)) (sym at) ∙ view_old

            each_ended : (voices : List Voice) → HaveAll 1 voices p.master.view
                → EachHeard start old (HasEnded closes.run.epoch) voices → EachFull start new (HasEnded epoch)
            each_ended voices have each =
                subst (λ epoch. EachFull start new (HasEnded epoch)) closes.epoch_is
                (each_map (λ member. HasEnded closes.run.epoch (epochs_of start old member))
                (λ member. HasEnded closes.run.epoch (epochs_of start new member)) (current start new).full
                (λ member is. keeps_ended start all e es moment stand closes.run.epoch member is)
                (subst (λ (v : View). Each (λ member. HasEnded closes.run.epoch (epochs_of start old member)) v.full)
                master_seen
                (all_by_one start old (HasEnded closes.run.epoch) voices p.master.view.full have each)))

            ended : Heard p.master (voice_of x) x.body closes.run → EachFull start new (HasEnded epoch)
            ended (last body have none) =
                each_ended (with_one p.master.voices (voice_of x)) have
                (each_append (λ (voice : Voice). HasEnded closes.run.epoch (epochs_of start old voice.member))
                p.master.voices (voice_of x ∷ []) voices_heard (
                  report_true start all e es moment stand heard_all block.GcpMaster taken_here closes.run.epoch body,
                  tt,
                ))
            ended (heard.over body have) = each_ended p.master.voices have voices_heard

            over_in : Heard p.master (voice_of x) x.body closes.run → IsOverIn start new me (current start new)
            over_in (last body have none) =
                subst (IsOverIn start new me) master_seen
                (still own start all e es begins moment (all_over own start all es begins less) me there p.master.view
                (subst (λ (t : MasterState). IsOverIn start old me t.view) master_is
                (all_over own start all es begins less me there (ap (λ (t : MasterState). t.owed) master_is ∙ none))))
            over_in (heard.over body have) =
                over_now own start all e es begins moment (all_over own start all es begins less) me there at
                taken_here body
                (current start new) refl

            over_is : IsOverIn start new me (current start new)
                → (current start new ≡ (first_layout start.shape).view) ⊎ IsOver start new me
            over_is (inl first) = inl first
            over_is (inr told) =
                inr (record { signal = told.signal; there = told.there; body = told.body; number = told.number_is })

            closing : IsClosing start e new epoch
            closing = record {
              member = me;
              is = record {
                president = president;
                stands = standing;
                host_is = at;
                ended = ended closes.heard;
                over = over_is (over_in closes.heard);
              };
            }

        -- a master that has come to a view closes nothing
        not_entered : (between : MainPart) → between ≡ (main_entered p x.view).state
            → ClosesRun between.master (voice_of x) x.body epoch → ⊥
        not_entered between is closes =
            let none : Unordered ≡ Committing closes.run =
            sym (installed p.master x.view).phase ∙ ap (λ (q : MainPart). q.master.phase) (sym is) ∙ closes.phase in
            absurd cc

        of_row : (between : MainPart) (seen : View) → Entering p (view_after start e.host (old e.host)) x between seen
            → IsPassed start.shape (part.Main between) seen x → x.to.block ≡ block.GcpMaster
            → (step_after start e.host (old e.host) e).state.standing.view ≡ seen
            → ClosesRun between.master (voice_of x) x.body epoch → IsClosing start e new epoch
        of_row between seen (remains same stands) passed to stood closes =
            closing seen stands
            (subst (λ (q : MainPart). IsPassed start.shape (part.Main q) seen x) same passed) to stood
            (subst (λ (q : MainPart). ClosesRun q.master (voice_of x) x.body epoch) same closes)
        of_row between seen (enters above same stands) passed to stood closes =
            absurd (not_entered between same closes)

        of_main_host : IsClosing start e new epoch
        of_main_host = by (main_goes start moment.cluster.nobody e.host (old e.host) e p main_runs.is)
          where
            inside : IsIn (Closed epoch) (step_after start e.host (old e.host) e).effects.marks
            inside = subst (IsIn (Closed epoch)) (marks_are start all e es moment stand) marked

            by : Goes start.shape p (view_after start e.host (old e.host)) x (step_after start e.host (old e.host) e)
                → IsClosing start e new epoch
            by (leaves now parts left none) = absurd (not_among (Closed epoch) refl _ none inside)
            by (takes between seen entering passed to parts stood front none marks) =
                either (in_either (Closed epoch) front (master_row between.master x).effects.marks
                (subst (IsIn (Closed epoch)) marks inside))
              where
                either : IsIn (Closed epoch) front ⊎ IsIn (Closed epoch) (master_row between.master x).effects.marks
                    → IsClosing start e new epoch
                either (inl early) = absurd (not_among (Closed epoch) refl front none early)
                either (inr row) =
                    of_row between seen entering passed to stood
                    (each_in (IsMarkOf between.master (voice_of x) x.body) (Closed epoch)
                    (master_row between.master x).effects.marks (master_marks between.master x) row)

      closes_rightly : IsClosing start e new epoch
      closes_rightly = by (whose start moment.cluster.nobody e.host (host_low start all e es moment))
        where
          no_master : (parts : Parts) → s.parts ≡ parts → HasNoMaster parts → ⊥
          no_master parts is none = not_other (subst HasNoMaster (sym is) none)

          by : Whose start e.host → IsClosing start e new epoch
          by (of_shell at) =
              let runs = runs_shell start (old 0) in
              absurd (no_master (part.Shell runs.shell) (ap (λ h. (after start h (old h)).parts) at ∙ runs.is) tt)
          by (of_main me there at) = of_main_host me there at
          by (of_tc me there at) =
              let runs = tc_at start (tc_of start me) moment.cluster.nobody me there refl (old (tc_of start me)) in
              absurd (no_master (part.Tc runs.part) (ap (λ h. (after start h (old h)).parts) at ∙ runs.is) tt)
          by (of_rows me there at) =
              let runs = runs_rows start moment.cluster.nobody me there (old (ldm_of start me)) in
              absurd (no_master (part.Ldm runs.rows) (ap (λ h. (after start h (old h)).parts) at ∙ runs.is) tt)

pub closers_have_heard_all : ClosersHaveHeardAll
closers_have_heard_all start all e es begins moment epoch marked =
    closes_rightly ends_own start all e es begins moment epoch marked
