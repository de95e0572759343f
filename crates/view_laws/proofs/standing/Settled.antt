-- What a membership settles on is its outstanding proposal, whose number is above that of the installed view.
use Rattle.std.proofs.Common.{◌≡◌, ◌≤◌, ◌<◌, ◌⊎◌, ℕ, Bool, true, false, nat_lt, List, [], ◌∷◌, refl, sym, subst, arith}
use Rattle.std.proofs.Common.{inl, inr}
use Rattle.std.proofs.lemmas.Bool.{ltb-true, true≢false}
use Rattle.std.specs.Prelude.{if◌then◌else◌, Option, None, Some}
use Rattle.frag_map.specs.Layout.{Layout}
use Rattle.run_theory.specs.Lists.{Each, IsIn}
use Rattle.run_theory.proofs.Pasts.{each_in}
use Rattle.sig_core.specs.declared.mark.Mark.{Mark}
use Rattle.sig_core.specs.declared.mark.Mark.TheVariants.{Installed, Promised}
use Rattle.sig_core.specs.declared.member.Member.{Member}
use Rattle.sig_core.specs.declared.signal.Signal.{Signal}
use Rattle.sig_core.specs.declared.view.View.{View}
use Rattle.sig_core.specs.Step.{Effects}
use Rattle.qmgr_block.specs.declared.known.Known.{Known}
use Rattle.qmgr_block.specs.declared.known.Proposal.{Proposal}
use Rattle.qmgr_block.specs.Decide.{confirmed_all, confirmed_one, heard, needs_no_grant}
use Rattle.qmgr_block.specs.Install.{installed_row, left_open}
use Rattle.qmgr_block.specs.Laws.{Event, installs, takes}
use Rattle.qmgr_block.specs.Propose.{proposal_by}
use Rattle.qmgr_block.specs.Qmgr.{qmgr_row}
use Rattle.qmgr_block.specs.State.{QmgrState}
use Rattle.view_laws.specs.Events.{IsSound}
use Rattle.view_laws.specs.Members.{known_of, state_of}
use Rattle.view_laws.proofs.memberships.AlongEvents.{have_risen, steps}
use Rattle.view_laws.proofs.memberships.Questions.{left_outstanding}
use Rattle.view_laws.proofs.memberships.Outstanding.{Does, Proposes, does_answer, does_hear, does_propose, does_rest}
use Rattle.view_laws.proofs.memberships.Outstanding.{does_settle, is_settling, row_does}
use Rattle.view_laws.proofs.memberships.Proposals.{are_low}
use Rattle.view_laws.proofs.memberships.Steps.{row_installs}
use Rattle.view_laws.proofs.memberships.RowChanges.{Brings, IsNotAbove, Keeps}

-- the outstanding proposal has a greater number
abbrev pub IsAbove : ℕ → Option Proposal → Type 0
IsAbove number None = Unit {0}
IsAbove number (Some p) = number < p.view.number

left_above : (view : View) (outstanding : Option Proposal) → IsAbove view.number (left_open view outstanding)
left_above view None = tt
left_above view (Some p) = by (nat_lt view.number p.view.number) refl
  where
    by : (above : Bool) → nat_lt view.number p.view.number ≡ above
        → IsAbove view.number (if above then Some p else None)
    by true e = ltb-true view.number p.view.number e
    by false e = tt

-- the outstanding proposal is of the view
pub record IsOutstanding (k : Known) (view : View) : Type 0 where
  pub p : Proposal
  pub is : k.outstanding ≡ Some p
  pub set : p.view ≡ view

-- at a signal
module _ (me : Member) (layout : Layout) (events : List Event) (x : Signal) where
  abbrev s : QmgrState
  s = state_of me layout events

  abbrev k : Known
  k = s.known

  abbrev l : Known
  l = (qmgr_row s x).state.known

  abbrev effects : Effects
  effects = (qmgr_row s x).effects

  abbrev Done : Type 0
  Done = Does s x.member x.body l effects

  done : Done
  done = row_does s x

  abbrev Above : Option Proposal → Type 0
  Above outstanding = IsAbove k.layout.view.number outstanding

  proposes_above : Proposes k l effects → Keeps k l ⊎ Brings (IsSound k.me x.body) k l → Above l.outstanding
  proposes_above one (inl keeps) =
      let low : IsNotAbove k.proposed (Some (proposal_by one.set one.joining one.lost)) =
      subst (IsNotAbove k.proposed) one.outstanding (keeps.low k.proposed (are_low me layout events).outstanding) in
      let not_above : one.set.number ≤ k.proposed = low in
      let above : k.proposed < one.set.number = one.above in
      absurd (omega (arith, not_above, above))
  proposes_above one (inr brings) =
      let below : k.layout.view.number ≤ k.promised.number = (have_risen me layout events).below in
      let higher : k.promised.number < brings.set.number = brings.higher in
      subst Above (sym brings.outstanding) (omega (arith, below, higher))

  does_above : Above k.outstanding → Done → Above l.outstanding
  does_above above (does_rest rests) = subst Above (sym rests.outstanding) above
  does_above above (does_propose one) = proposes_above one (steps s x).proposals
  does_above above (does_hear h) = subst Above (sym h.outstanding) (subst Above h.is above)
  does_above above (does_settle g) = subst Above (sym g.outstanding) above
  does_above above (does_answer answers) = subst Above (sym answers.outstanding) above

  -- a mark that tells of a view that is settled on
  none_settled : (marks : List Mark) → Each (λ mark. is_settling mark ≡ false) marks → (view : View)
      → IsIn (Installed view) marks → ⊥
  none_settled marks none view is =
      true≢false (each_in (λ (mark : Mark). is_settling mark ≡ false) (Installed view) marks none is)

  one_settled : (set view : View) → IsIn (Installed view) (Installed set ∷ []) → set ≡ view
  one_settled set view (inl same) = cc (same)
  one_settled set view (inr none) = absurd none

  all_settled : (p : Proposal) (free : Bool) (view : View)
      → IsIn (Installed view) (confirmed_all k p free).effects.marks → p.view ≡ view
  all_settled p true view is = one_settled p.view view is
  all_settled p false view is = absurd is

  last_settled : (p : Proposal) (awaited : List Member) (view : View)
      → IsIn (Installed view) (confirmed_one k p awaited).effects.marks → p.view ≡ view
  last_settled p [] view is = all_settled p (needs_no_grant k p) view is
  last_settled p (member ∷ members) view is = absurd is

  does_settled : (view : View) → Done → IsIn (Installed view) effects.marks → IsOutstanding k view
  does_settled view (does_rest rests) is = absurd (none_settled effects.marks rests.marks view is)
  does_settled view (does_propose one) is = absurd (none_settled effects.marks one.marks view is)
  does_settled view (does_hear h) is =
      let p = heard h.p x.member in
      record {
        p = h.p;
        is = h.is;
        set =
            last_settled p p.awaited view
            (subst (λ (y : Effects). IsIn (Installed view) y.marks) h.effects_are is);
      }
  does_settled view (does_settle g) is = record {
    p = g.p;
    is = g.is;
    set = one_settled g.p.view view (subst (λ (y : Effects). IsIn (Installed view) y.marks) g.effects_are is);
  }
  does_settled view (does_answer answers) is =
      absurd (none_settled (Promised answers.number ∷ []) (refl, tt) view
      (subst (λ (y : Effects). IsIn (Installed view) y.marks) answers.effects_are is))

-- the installed view has a lesser number than the outstanding proposal
pub view_below : (me : Member) (layout : Layout) (events : List Event)
    → IsAbove (known_of me layout events).layout.view.number (known_of me layout events).outstanding
view_below me layout [] = tt
view_below me layout (takes x ∷ events) =
    subst (λ (y : Layout). IsAbove y.view.number (known_of me layout (takes x ∷ events)).outstanding)
    (sym (steps (state_of me layout events) x).layout)
    (does_above me layout events x (view_below me layout events) (done me layout events x))
view_below me layout (installs view ∷ events) =
    let k = known_of me layout events in
    subst (λ (y : Layout). IsAbove y.view.number (installed_row k view).state.outstanding)
    (sym (row_installs k view).layout)
    (subst (IsAbove view.number) (sym (left_outstanding k view)) (left_above view k.outstanding))

-- and than what is settled on
pub settles_above : (me : Member) (layout : Layout) (events : List Event) (x : Signal) (view : View)
    → IsIn (Installed view) (qmgr_row (state_of me layout events) x).effects.marks
    → (known_of me layout events).layout.view.number < view.number
settles_above me layout events x view is =
    let k = known_of me layout events in
    let one = does_settled me layout events x view (done me layout events x) is in
    subst (λ (v : View). k.layout.view.number < v.number) one.set
    (subst (IsAbove k.layout.view.number) one.is (view_below me layout events))
