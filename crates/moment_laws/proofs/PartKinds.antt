-- What a step of a host comes to in words of the part that it runs.
use Rattle.std.proofs.Common.{◌≡◌, ◌≤◌, ℕ, List, ◌∷◌, refl, sym, ap, subst, ◌∙◌}
use Rattle.std.specs.Prelude.{None}
use Rattle.sig_core.specs.declared.outs.Outgoing.{Outgoing}
use Rattle.sig_core.specs.declared.signal.Signal.{Signal}
use Rattle.sig_core.specs.declared.view.Shape.{Shape}
use Rattle.sig_core.specs.declared.view.View.{View}
use Rattle.sig_core.specs.Step.{Step}
use Rattle.node_views.specs.Blocks.{parts_entered, parts_row, settled_at}
use Rattle.node_views.specs.declared.ldm_part.LdmPart.{LdmPart}
use Rattle.node_views.specs.declared.parts.Parts.{Parts}
use Rattle.node_views.specs.declared.parts.Parts.TheVariants as part
use Rattle.node_views.specs.declared.shell_part.ShellPart.{ShellPart}
use Rattle.node_views.specs.declared.tc_part.TcPart.{TcPart}
use Rattle.world_core.specs.Start.{NobodyStarts, Start}
use Rattle.world_core.specs.Steps.{HostStep}
use Rattle.world_views.specs.Machine.{after, step_after}
use Rattle.view_laws.specs.Runs.{view_after}
use Rattle.moment_laws.specs.Parts.{Enters, PartsDo, Takes, enters, leaves, settles, stays, takes}
use Rattle.moment_laws.specs.PartSteps.{Kind, LdmDoes, PartDoes, PartEnters, PartTakes, ShellDoes, TcDoes, handles}
use Rattle.moment_laws.specs.PartSteps.{ignores, installs, ldm_kind, remains, shell_kind, tc_kind}
use Rattle.moment_laws.proofs.PartSteps.{after_do, step_do}

-- a step of a part is one of its host's blocks
abbrev in_kind : {P : Type 0} → Kind P → Step P → Step Parts
in_kind kind t = record { state = kind.within t.state; effects = t.effects }

-- the blocks do so, and settle on no view
pub record IsKind {P : Type 0} (kind : Kind P) : Type 0 where
  pub enter_is : (p : P) (view : View) → parts_entered (kind.within p) view ≡ in_kind kind (kind.enter p view)
  pub row_is : (p : P) (x : Signal) → parts_row (kind.within p) x ≡ in_kind kind (kind.row p x.to.block x)
  pub unsettled : (p : P) (x : Signal) → settled_at (kind.within p) x ≡ None

pub tc_is : IsKind tc_kind
tc_is = record { enter_is = λ p view. refl; row_is = λ p x. refl; unsettled = λ p x. refl }

pub ldm_is : IsKind ldm_kind
ldm_is = record { enter_is = λ p view. refl; row_is = λ p x. refl; unsettled = λ p x. refl }

pub shell_is : IsKind shell_kind
shell_is = record { enter_is = λ p view. refl; row_is = λ p x. refl; unsettled = λ p x. refl }

module _ {P : Type 0} (kind : Kind P) (fits : IsKind kind) (shape : Shape) (x : Signal) where
  record HasEntered (p : P) (view : View) (inside : Parts) (stood : View) (front : List Outgoing) : Type 0 where
    between : P
    is : inside ≡ kind.within between
    enters : PartEnters kind p view x between stood front

  has_entered : (p : P) (view : View) (inside : Parts) (stood : View) (front : List Outgoing)
      → Enters (kind.within p) view x inside stood front → HasEntered p view inside stood front
  has_entered p view inside stood front (stays same stands none) =
      record { between = p; is = same; enters = remains refl stands none }
  has_entered p view inside stood front (enters above same stands sends) = record {
    between = (kind.enter p x.view).state;
    is = same ∙ ap (λ (t : Step Parts). t.state) (fits.enter_is p x.view);
    enters =
        installs above refl stands (sends ∙ ap (λ (t : Step Parts). t.effects.sends) (fits.enter_is p x.view));
  }

  record HasTaken (between : P) (stood : View) (now : Parts) (seen : View) (rest : List Outgoing) : Type 0 where
    own : P
    is : now ≡ kind.within own
    stands : seen ≡ stood
    takes : PartTakes kind shape between stood x own rest

  has_taken : (between : P) (stood : View) (now : Parts) (seen : View) (rest : List Outgoing)
      → Takes shape (kind.within between) stood x now seen rest → HasTaken between stood now seen rest
  has_taken between stood now seen rest (leaves same standing none) =
      record { own = between; is = same; stands = standing; takes = ignores refl none }
  has_taken between stood now seen rest (takes passed none same standing sends) = record {
    own = (kind.row between x.to.block x).state;
    is = same ∙ ap (λ (t : Step Parts). t.state) (fits.row_is between x);
    stands = standing;
    takes =
        handles passed refl (sends ∙ ap (λ (t : Step Parts). t.effects.sends) (fits.row_is between x));
  }
  has_taken between stood now seen rest (settles passed settled same sends) =
      let none = sym (fits.unsettled between x) ∙ settled in absurd cc

  pub part_does : (p : P) (view : View) (now : Parts) (seen : View) (sends : List Outgoing)
      → PartsDo shape (kind.within p) view x now seen sends → PartDoes kind shape p view x now seen sends
  part_does p view now seen sends did =
      let inside = has_entered p view did.between did.stood did.front did.enters in
      let behind = has_taken inside.between did.stood now seen did.rest
      (subst (λ parts. Takes shape parts did.stood x now seen did.rest) inside.is did.takes) in
      record {
        between = inside.between;
        front = did.front;
        enters =
            subst (λ view_then. PartEnters kind p view x inside.between view_then did.front) (sym behind.stands)
            inside.enters;
        own = behind.own;
        is = behind.is;
        rest = did.rest;
        takes =
            subst (λ view_then. PartTakes kind shape inside.between view_then x behind.own did.rest)
            (sym behind.stands) behind.takes;
        sent = did.sent;
      }

  -- where the view of the signal is installed in a part it is in the blocks
  pub parts_enter : (p : P) (view : View) (between : P) (stood : View) (front : List Outgoing)
      → PartEnters kind p view x between stood front
      → Enters (kind.within p) view x (kind.within between) stood front
  parts_enter p view between stood front (remains same stands none) = stays (ap kind.within same) stands none
  parts_enter p view between stood front (installs above same stands sends) =
      enters above (ap kind.within same ∙ sym (ap (λ (t : Step Parts). t.state) (fits.enter_is p x.view))) stands
      (sends ∙ sym (ap (λ (t : Step Parts). t.effects.sends) (fits.enter_is p x.view)))

module _ (shape : Shape) (view : View) (x : Signal) (now : Parts) (seen : View) (sends : List Outgoing) where
  pub tc_does : (p : TcPart) → PartsDo shape (part.Tc p) view x now seen sends → TcDoes shape p view x now seen sends
  tc_does p = part_does tc_kind tc_is shape x p view now seen sends

  pub ldm_does : (p : LdmPart) → PartsDo shape (part.Ldm p) view x now seen sends
      → LdmDoes shape p view x now seen sends
  ldm_does p = part_does ldm_kind ldm_is shape x p view now seen sends

  pub shell_does : (p : ShellPart) → PartsDo shape (part.Shell p) view x now seen sends
      → ShellDoes shape p view x now seen sends
  shell_does p = part_does shell_kind shell_is shape x p view now seen sends

-- a host that runs such a part after its log
module _ (start : Start) (nobody : NobodyStarts start) (h : ℕ) (log : List HostStep) (e : HostStep) where
  abbrev DoFrom : Parts → Type 0
  DoFrom parts =
      PartsDo start.shape parts (view_after start h log) e.step.taken (after start h (e ∷ log)).parts
      (view_after start h (e ∷ log)) (step_after start h log e).effects.sends

  pub tc_after : 1 ≤ h → (p : TcPart) → (after start h log).parts ≡ part.Tc p
      → TcDoes start.shape p (view_after start h log) e.step.taken (after start h (e ∷ log)).parts
      (view_after start h (e ∷ log)) (step_after start h log e).effects.sends
  tc_after some p runs =
      tc_does start.shape (view_after start h log) e.step.taken (after start h (e ∷ log)).parts
      (view_after start h (e ∷ log)) (step_after start h log e).effects.sends p
      (subst DoFrom runs (after_do start nobody h some log e))

  pub ldm_after : 1 ≤ h → (p : LdmPart) → (after start h log).parts ≡ part.Ldm p
      → LdmDoes start.shape p (view_after start h log) e.step.taken (after start h (e ∷ log)).parts
      (view_after start h (e ∷ log)) (step_after start h log e).effects.sends
  ldm_after some p runs =
      ldm_does start.shape (view_after start h log) e.step.taken (after start h (e ∷ log)).parts
      (view_after start h (e ∷ log)) (step_after start h log e).effects.sends p
      (subst DoFrom runs (after_do start nobody h some log e))

-- the shell's host, before its replies are told
module _ (start : Start) (nobody : NobodyStarts start) (log : List HostStep) (e : HostStep) where
  pub shell_after : (p : ShellPart) → (after start 0 log).parts ≡ part.Shell p
      → ShellDoes start.shape p (view_after start 0 log) e.step.taken (step_after start 0 log e).state.parts
      (view_after start 0 (e ∷ log)) (step_after start 0 log e).effects.sends
  shell_after p runs =
      shell_does start.shape (view_after start 0 log) e.step.taken (step_after start 0 log e).state.parts
      (view_after start 0 (e ∷ log)) (step_after start 0 log e).effects.sends p
      (subst
      (λ parts. PartsDo start.shape parts (view_after start 0 log) e.step.taken
      (step_after start 0 log e).state.parts (step_after start 0 log e).state.standing.view
      (step_after start 0 log e).effects.sends)
      runs (step_do start nobody 0 log e))
