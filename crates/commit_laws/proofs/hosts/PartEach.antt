-- What is so of all that a part sends, where it comes to a view and where it takes a signal, is so of all that its host
-- sends in a step.
use Rattle.std.proofs.Common.{◌≡◌, ◌<◌, ◌++◌, ◌⊎◌, ◌∙◌, List, [], ap, inl, inr, subst, sym}
use Rattle.run_theory.specs.Lists.{Each}
use Rattle.run_theory.proofs.Pasts.{each_append}
use Rattle.sig_core.specs.declared.outs.Outgoing.{Outgoing}
use Rattle.sig_core.specs.declared.signal.Signal.{Signal}
use Rattle.sig_core.specs.declared.view.Shape.{Shape}
use Rattle.sig_core.specs.declared.view.View.{View}
use Rattle.node_views.specs.declared.parts.Parts.{Parts}
use Rattle.moment_laws.specs.Parts.{IsPassed}
use Rattle.moment_laws.specs.PartSteps.{Kind, PartDoes, PartEnters, PartTakes, handles, ignores, installs, remains}

-- with what the part comes to, and what its host sends then
pub part_each_by : {P : Type 0} (kind : Kind P) (Q : Outgoing → Type 0) (shape : Shape) (p : P) (view : View)
    (x : Signal) (now : Parts) (seen : View) (sends : List Outgoing)
    (does : PartDoes kind shape p view x now seen sends)
    → (view.number < x.view.number → Each Q (kind.enter p x.view).effects.sends)
    → (IsPassed shape (kind.within does.between) seen x → does.own ≡ (kind.row does.between x.to.block x).state
    → sends ≡ does.front ++ (kind.row does.between x.to.block x).effects.sends
    → Each Q (kind.row does.between x.to.block x).effects.sends)
    → Each Q sends
part_each_by kind Q shape p view x now seen sends does enters takes = by does.sent
  where
    front : PartEnters kind p view x does.between seen does.front → Each Q does.front
    front (remains same stands none) = subst (Each Q) (sym none) tt
    front (installs above same stands is) = subst (Each Q) (sym is) (enters above)

    rest : sends ≡ does.front ++ does.rest → PartTakes kind shape does.between seen x does.own does.rest
        → Each Q does.rest
    rest all (ignores same none) = subst (Each Q) (sym none) tt
    rest all (handles passed same is) =
        subst (Each Q) (sym is) (takes passed same (all ∙ ap (λ more. does.front ++ more) is))

    by : (sends ≡ does.front ++ does.rest) ⊎ (sends ≡ []) → Each Q sends
    by (inl all) =
        subst (Each Q) (sym all) (each_append Q does.front does.rest (front does.enters) (rest all does.takes))
    by (inr is) = subst (Each Q) (sym is) tt

pub part_each : {P : Type 0} (kind : Kind P) (Q : Outgoing → Type 0) (shape : Shape) (p : P) (view : View) (x : Signal)
    (now : Parts) (seen : View) (sends : List Outgoing) (does : PartDoes kind shape p view x now seen sends)
    → (view.number < x.view.number → Each Q (kind.enter p x.view).effects.sends)
    → (IsPassed shape (kind.within does.between) seen x
    → Each Q (kind.row does.between x.to.block x).effects.sends)
    → Each Q sends
part_each kind Q shape p view x now seen sends does enters takes =
    part_each_by kind Q shape p view x now seen sends does enters (λ passed same all. takes passed)

-- what is so of a part, and once a view is installed in it, is so of it where it is to take the signal
pub between_so : {P : Type 0} (kind : Kind P) (Q : P → Type 0) (p : P) (view : View) (x : Signal) (between : P)
    (seen : View) (front : List Outgoing) → PartEnters kind p view x between seen front → (seen ≡ view → Q p)
    → (view.number < x.view.number → seen ≡ x.view → Q (kind.enter p x.view).state) → Q between
between_so kind Q p view x between seen front (remains same stays none) was entered = subst Q (sym same) (was stays)
between_so kind Q p view x between seen front (installs above same stays is) was entered =
    subst Q (sym same) (entered above stays)
