-- Only the part of a node with its coordinator decides, and it marks nothing but decisions.
use Rattle.std.proofs.Common.{◌≡◌, Bool, true, false, [], refl}
use Rattle.std.proofs.lemmas.Bool.{true≢false}
use Rattle.std.specs.Prelude.{None}
use Rattle.run_theory.proofs.Pasts.{each_map}
use Rattle.sig_core.specs.declared.mark.Mark.{Mark}
use Rattle.sig_core.specs.declared.mark.Mark.TheVariants.{Decided}
use Rattle.sig_core.specs.declared.signal.Signal.{Signal}
use Rattle.sig_core.specs.declared.view.View.{View}
use Rattle.step_forms.specs.Does.{IsAmong}
use Rattle.dih_node.specs.Orders as dih
use Rattle.node_views.specs.Blocks.{parts_entered, parts_row, settled_at}
use Rattle.node_views.specs.declared.parts.Parts.{Parts}
use Rattle.node_views.specs.declared.parts.Parts.TheVariants.{Ldm, Main, Shell, Tc}
use Rattle.node_views.specs.Words.{host_marks, parts_marks}
use Rattle.node_views.proofs.WordWalk.{parts_speak}
use Rattle.qmgr_block.specs.Install.{installed_row}
use Rattle.tc_views.specs.Views as coordinator
use Rattle.view_laws.proofs.eras.DecisionMarks.{DecidesOnly, IsDecision, IsUndecided}

-- the part with the coordinator
abbrev pub has_coordinator : Parts → Bool
has_coordinator (Tc p) = true
has_coordinator parts = false

undecided : (parts : Parts) → has_coordinator parts ≡ false → (mark : Mark) → parts_marks parts mark ≡ true
    → IsUndecided mark
undecided (Shell p) off (Decided tx epoch) is = absurd cc
undecided (Main p) off (Decided tx epoch) is = absurd cc
undecided (Tc p) off mark is = absurd (true≢false off)
undecided (Ldm p) off (Decided tx epoch) is = absurd cc
undecided parts off mark is = refl

decided : (parts : Parts) → has_coordinator parts ≡ true → (mark : Mark) → parts_marks parts mark ≡ true
    → IsDecision mark
decided (Tc p) has (Decided tx epoch) is = refl
decided (Tc p) has mark is = absurd cc
decided parts has mark is = absurd cc

-- nor does the host of such a part mark a decision of its own
pub host_undecided : (parts : Parts) → has_coordinator parts ≡ false → (mark : Mark) → host_marks parts mark ≡ true
    → IsUndecided mark
host_undecided parts off (Decided tx epoch) is = undecided parts off (Decided tx epoch) is
host_undecided parts off mark is = refl

pub coordinating : (parts : Parts) (x : Signal) → has_coordinator parts ≡ true → DecidesOnly (parts_row parts x)
coordinating parts x has =
    each_map (IsAmong (parts_marks parts)) IsDecision (parts_row parts x).effects.marks (decided parts has)
    (parts_speak parts x).1

pub none_settled : (parts : Parts) (x : Signal) → has_coordinator parts ≡ true → settled_at parts x ≡ None
none_settled (Tc p) x has = refl
none_settled _ x has = absurd cc

-- an installation marks nothing
pub entered_bare : (parts : Parts) (view : View) → (parts_entered parts view).effects.marks ≡ []
unfolding installed_row coordinator.install_row dih.install_row
entered_bare (Shell p) view = refl
entered_bare (Main p) view = refl
entered_bare (Tc p) view = refl
entered_bare (Ldm p) view = refl

-- and no step changes whether there is a coordinator
pub still_has : (parts : Parts) (x : Signal) → has_coordinator (parts_row parts x).state ≡ has_coordinator parts
still_has (Shell p) x = refl
still_has (Main p) x = refl
still_has (Tc p) x = refl
still_has (Ldm p) x = refl

pub entered_has : (parts : Parts) (view : View)
    → has_coordinator (parts_entered parts view).state ≡ has_coordinator parts
entered_has (Shell p) view = refl
entered_has (Main p) view = refl
entered_has (Tc p) view = refl
entered_has (Ldm p) view = refl
