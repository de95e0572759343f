-- Hosts that run no master of checkpoints mark no closing.
use Rattle.std.proofs.Common.{◌≡◌, ℕ, true, refl}
use Rattle.run_theory.specs.Lists.{Each}
use Rattle.sig_core.specs.declared.mark.Mark.{Mark}
use Rattle.sig_core.specs.declared.mark.Mark.TheVariants.{Closed, Durable}
use Rattle.sig_core.specs.declared.signal.Body.{Body}
use Rattle.sig_core.specs.declared.signal.Signal.{Signal}
use Rattle.node_views.specs.declared.host_body.HostBody as hosts
use Rattle.node_views.specs.declared.parts.Parts.{Parts}
use Rattle.node_views.specs.declared.parts.Parts.TheVariants.{Shell, Main, Tc, Ldm}
use Rattle.node_views.specs.Words.{host_marks, parts_marks}
use Rattle.world_views.specs.Machine.{step_by}
use Rattle.world_views.proofs.StepEach.{step_words}
use Rattle.closing_laws.proofs.closers.NoClosings.{IsNoClosing}

-- the parts of such a host
abbrev pub HasNoMaster : Parts → Type 0
HasNoMaster (Main p) = ⊥
HasNoMaster parts = Unit {0}

-- none of their marks is one, nor of those that the host makes of its own
parts_close_none : (parts : Parts) → HasNoMaster parts → (mark : Mark) → parts_marks parts mark ≡ true
    → IsNoClosing mark
parts_close_none (Shell p) none (Closed epoch) is = absurd cc
parts_close_none (Shell p) none (Durable epoch) is = absurd cc
parts_close_none (Tc p) none (Closed epoch) is = absurd cc
parts_close_none (Tc p) none (Durable epoch) is = absurd cc
parts_close_none (Ldm p) none (Closed epoch) is = absurd cc
parts_close_none (Ldm p) none (Durable epoch) is = absurd cc
parts_close_none (Main p) none mark is = absurd none
parts_close_none parts none mark is = refl

host_closes_none : (parts : Parts) → HasNoMaster parts → (mark : Mark) → host_marks parts mark ≡ true
    → IsNoClosing mark
host_closes_none parts none (Closed epoch) is = parts_close_none parts none (Closed epoch) is
host_closes_none parts none (Durable epoch) is = parts_close_none parts none (Durable epoch) is
host_closes_none parts none mark is = refl

pub others_close_none : (x : Signal) (h : ℕ) (s : hosts.HostBody) → HasNoMaster s.parts
    → Each IsNoClosing (step_by h s x).effects.marks
others_close_none x h s none =
    (step_words (λ (body : Body). Unit {0}) IsNoClosing h s x (λ body is. tt) (host_closes_none s.parts none)).1
