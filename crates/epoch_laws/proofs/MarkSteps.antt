-- A step of a host with a coordinator gives the current epoch of its member, while that prepares for none; a step of
-- another host gives none.
use Rattle.std.proofs.Common.{◌≡◌, ◌∙◌, ◌≤◌, ℕ, Bool, true, false, List, refl, subst, sym}
use Rattle.run_theory.specs.Lists.{Each}
use Rattle.run_theory.proofs.Pasts.{each_map}
use Rattle.sig_core.specs.declared.mark.Mark.{Mark}
use Rattle.sig_core.specs.declared.mark.Mark.TheVariants.{Decided}
use Rattle.sig_core.specs.declared.place.BlockId.{BlockId}
use Rattle.sig_core.specs.declared.place.BlockId.TheVariants as block
use Rattle.sig_core.specs.declared.signal.Signal.{Signal}
use Rattle.sig_core.specs.declared.view.View.{View}
use Rattle.dih_node.specs.Dih.{dih_row}
use Rattle.dih_node.specs.State.{DihState}
use Rattle.node_views.specs.Blocks.{parts_entered}
use Rattle.node_views.specs.declared.host_body.HostBody as hosts
use Rattle.node_views.specs.declared.parts.Parts.{Parts}
use Rattle.node_views.specs.declared.parts.Parts.TheVariants.{Shell, Main, Tc, Ldm}
use Rattle.node_views.specs.declared.tc_part.TcPart.{TcPart}
use Rattle.node_views.specs.Parts.{tc_entered, tc_row}
use Rattle.world_views.specs.Machine.{step_by}
use Rattle.epoch_laws.proofs.DihMoves.{Stays, dih_installs_stay, rests}
use Rattle.epoch_laws.proofs.DihSends.{IsGivenBy, dih_gives}
use Rattle.view_laws.proofs.eras.DecisionMarks.{DecidesNone, IsUndecided}
use Rattle.moment_laws.proofs.MomentHosts.{HasNoTc}
use Rattle.world_views.proofs.MarkWalk.{IsMarked, step_marks}
use Rattle.step_forms.specs.Does.{IsAmong}
use Rattle.takeover_block.specs.Words.{is_takeover_mark}
use Rattle.takeover_block.proofs.Walk.{takeover_words}
use Rattle.tc_views.specs.Words.{is_coordinator_mark}
use Rattle.tc_views.proofs.Walk.{coordinator_words}
use Rattle.view_laws.proofs.eras.Parts.{entered_bare, has_coordinator}
use Rattle.view_laws.proofs.eras.StepMarks.{step_none}

-- what the marks of a block don't tell of decisions, none of its steps does
unmarked : (marks : Mark → Bool) → ((mark : Mark) → marks mark ≡ true → IsUndecided mark) → (made : List Mark)
    → Each (IsAmong marks) made → Each IsUndecided made
unmarked marks none made all = each_map (IsAmong marks) IsUndecided made none all

entered_none : (parts : Parts) (view : View) → DecidesNone (parts_entered parts view)
entered_none parts view = subst (Each IsUndecided) (sym (entered_bare parts view)) tt

pub others_decide_none : (h : ℕ) (s : hosts.HostBody) (x : Signal) → HasNoTc s.parts → DecidesNone (step_by h s x)
others_decide_none h s x other = step_none h s x (by s.parts other)
  where
    by : (parts : Parts) → HasNoTc parts → has_coordinator parts ≡ false
    by (Shell p) other = refl
    by (Main p) other = refl
    by (Ldm p) other = refl
    by (Tc p) other = absurd other

-- what tells of no decision gives none
none_gives : (s : DihState) (mark : Mark) → IsUndecided mark → IsGivenBy s mark
none_gives s (Decided tx epoch) none = absurd cc
none_gives s _ none = tt

gives_from : (s t : DihState) → Stays s t → (mark : Mark) → IsGivenBy t mark → IsGivenBy s mark
gives_from s t same (Decided tx epoch) (is, rest) = (
  is ∙ same.current_is,
  subst (λ n. n ≤ s.current) same.next_is (subst (λ n. t.next ≤ n) same.current_is rest),
)
gives_from s t same _ gives = tt

module _ (x : Signal) (s : DihState) where
  tc_gives : (p : TcPart) → Stays s p.dih → (b : BlockId) → Each (IsGivenBy s) (tc_row p b x).effects.marks
  unfolding tc_row
  tc_gives p same block.Tc =
      each_map IsUndecided (IsGivenBy s) _ (none_gives s)
      (unmarked is_coordinator_mark (λ mark is. absurd cc) _ (coordinator_words.takes p.coordinator x).1)
  tc_gives p same block.Takeover =
      each_map IsUndecided (IsGivenBy s) _ (none_gives s)
      (unmarked is_takeover_mark (λ mark is. absurd cc) _ (takeover_words.takes p.takeover x).1)
  tc_gives p same block.Dih =
      each_map (IsGivenBy p.dih) (IsGivenBy s) (dih_row p.dih x).effects.marks (gives_from s p.dih same)
      (dih_gives p.dih x)
  tc_gives p same _ = tt

  tc_marked : (p : TcPart) → Stays s p.dih → IsMarked (IsGivenBy s) x (Tc p)
  tc_marked p same = record { row = tc_gives p same x.to.block; settles = λ view is. absurd cc }

-- at a host with a coordinator
pub tc_steps_give : (h : ℕ) (s : hosts.HostBody) (x : Signal) (p : TcPart) → s.parts ≡ Tc p
    → Each (IsGivenBy p.dih) (step_by h s x).effects.marks
tc_steps_give h s x p is =
    step_marks (IsGivenBy p.dih) (record { stops = λ cause. tt; installs = λ view. tt; cuts = λ host. tt }) x h s
    (record {
      goes = λ newer barred. by s.parts is;
      enters =
          each_map IsUndecided (IsGivenBy p.dih) (parts_entered s.parts x.view).effects.marks (none_gives p.dih)
          (entered_none s.parts x.view);
      behind = λ newer excluded barred. behind s.parts is;
    })
  where
    by : (parts : Parts) → parts ≡ Tc p → IsMarked (IsGivenBy p.dih) x parts
    by (Tc q) is =
        let same : q ≡ p = cc in
        tc_marked x p.dih q (subst (λ (r : TcPart). Stays r.dih q.dih) same (rests q.dih))
    by (Main q) is = absurd cc
    by (Ldm q) is = absurd cc
    by (Shell q) is = absurd cc

    behind : (parts : Parts) → parts ≡ Tc p → IsMarked (IsGivenBy p.dih) x (parts_entered parts x.view).state
    behind (Tc q) is =
        let same : q ≡ p = cc in
        tc_marked x p.dih (tc_entered q x.view).state
        (subst (λ (r : TcPart). Stays r.dih (tc_entered q x.view).state.dih) same
        (dih_installs_stay q.dih x.view.number))
    behind (Main q) is = absurd cc
    behind (Ldm q) is = absurd cc
    behind (Shell q) is = absurd cc
