-- What a step of a host sends and marks: what is so of each signal and mark of its blocks, at the signal and where
-- views are installed before and behind, is so of each of the step, also where it stops by a signal to itself.
use Rattle.std.proofs.Common.{◌≡◌, ℕ, true, refl}
use Rattle.std.specs.Prelude.{Option, None, Some}
use Rattle.sig_core.specs.declared.mark.Mark.{Mark}
use Rattle.sig_core.specs.declared.outcome.StopCause.{StopCause}
use Rattle.sig_core.specs.declared.outs.Outgoing.{Outgoing}
use Rattle.sig_core.specs.declared.signal.Body.{Body}
use Rattle.sig_core.specs.declared.signal.Signal.{Signal}
use Rattle.step_forms.specs.Does.{Does, Speaks}
use Rattle.step_forms.proofs.DoesLemmas.{speaks_do}
use Rattle.node_views.specs.declared.host_body.HostBody as hosts
use Rattle.node_views.specs.declared.parts.Parts.{Parts}
use Rattle.node_views.specs.Words.{host_marks, parts_words}
use Rattle.node_views.proofs.HostEach.{HostEach, IsOfHost, KeepsEach, each_kept, row_each}
use Rattle.node_views.proofs.WordWalk.{host_speaks}
use Rattle.world_views.specs.Machine.{own_stop, step_by, step_if}

module _ (P : Outgoing → Type 0) (M : Mark → Type 0) (own : IsOfHost M) (x : Signal) (h : ℕ) (s : hosts.HostBody) where
  pub step_each : HostEach P M s x → Does P M (step_by h s x)
  step_each each = by (own_stop h x)
    where
      by : (o : Option StopCause) → Does P M (step_if s x o)
      by (Some cause) = (tt, (own.stops cause, tt))
      by None = row_each P M own x s each

  -- where it is so of the blocks whatever they do, as long as they are Q
  pub step_keeps_each : (Q : Parts → Type 0) → KeepsEach P M Q x → Q s.parts → Does P M (step_by h s x)
  step_keeps_each Q keeps so = step_each (each_kept P M Q x keeps s so)

-- a host keeps to the words of its part
pub step_speaks : (h : ℕ) (s : hosts.HostBody) (x : Signal)
    → Speaks (parts_words s.parts) (host_marks s.parts) (step_by h s x)
step_speaks h s x = by (own_stop h x)
  where
    by : (o : Option StopCause) → Speaks (parts_words s.parts) (host_marks s.parts) (step_if s x o)
    by (Some cause) = (tt, (refl, tt))
    by None = host_speaks s x

-- so what is so of each of these words and marks is so of all that it sends and marks
pub step_words : (Q : Body → Type 0) (N : Mark → Type 0) (h : ℕ) (s : hosts.HostBody) (x : Signal)
    → ((body : Body) → parts_words s.parts body ≡ true → Q body)
    → ((mark : Mark) → host_marks s.parts mark ≡ true → N mark)
    → Does (λ (sent : Outgoing). Q sent.body) N (step_by h s x)
step_words Q N h s x of_words of_marks =
    speaks_do (parts_words s.parts) (host_marks s.parts) Q N (step_by h s x) of_words of_marks (step_speaks h s x)
