-- Marks that tell of no closing: those of all blocks but the master of checkpoints.
use Rattle.std.proofs.Common.{◌≡◌, ◌∙◌, Bool, true, false, List, refl, sym}
use Rattle.std.proofs.lemmas.Bool.{true≢false}
use Rattle.run_theory.proofs.Pasts.{each_in, each_map}
use Rattle.run_theory.specs.Lists.{Each, IsIn}
use Rattle.sig_core.specs.declared.mark.Mark.{Mark}
use Rattle.sig_core.specs.declared.mark.Mark.TheVariants.{Closed, Durable}
use Rattle.sig_core.specs.declared.signal.Signal.{Signal}
use Rattle.sig_core.specs.declared.view.View.{View}
use Rattle.sig_core.specs.Step.{Step}
use Rattle.step_forms.specs.Does.{IsAmong}
use Rattle.qmgr_block.specs.Qmgr.{qmgr_installed, qmgr_row}
use Rattle.qmgr_block.specs.State.{QmgrState}
use Rattle.qmgr_block.specs.Words.{is_qmgr_mark}
use Rattle.qmgr_block.proofs.Walk.{qmgr_words}

abbrev pub is_closing : Mark → Bool
is_closing (Closed epoch) = true
is_closing (Durable epoch) = true
is_closing mark = false

abbrev pub IsNoClosing : Mark → Type 0
IsNoClosing mark = is_closing mark ≡ false

-- a step tells of none
abbrev pub ClosesNone : {S : Type 0} → Step S → Type 0
ClosesNone step = Each IsNoClosing step.effects.marks

-- so a mark of a closing isn't among those that tell of none
pub not_among : (mark : Mark) → is_closing mark ≡ true → (marks : List Mark) → Each IsNoClosing marks → IsIn mark marks
    → ⊥
not_among mark is marks none there = true≢false (sym is ∙ each_in IsNoClosing mark marks none there)

-- what the marks of a block don't tell, none of its steps does
of_marks : (marks : Mark → Bool) → ((mark : Mark) → marks mark ≡ true → is_closing mark ≡ false) → (made : List Mark)
    → Each (IsAmong marks) made → Each IsNoClosing made
of_marks marks none made all = each_map (IsAmong marks) IsNoClosing made none all

of_qmgr : (mark : Mark) → is_qmgr_mark mark ≡ true → is_closing mark ≡ false
of_qmgr (Closed epoch) is = absurd cc
of_qmgr (Durable epoch) is = absurd cc
of_qmgr mark is = refl

pub membership_closes_none : (s : QmgrState) (x : Signal) → ClosesNone (qmgr_row s x)
membership_closes_none s x = of_marks is_qmgr_mark of_qmgr _ (qmgr_words.at_signals s x).1

pub membership_installs_close_none : (s : QmgrState) (view : View) → ClosesNone (qmgr_installed s view)
membership_installs_close_none s view = of_marks is_qmgr_mark of_qmgr _ (qmgr_words.at_installations s view).1
