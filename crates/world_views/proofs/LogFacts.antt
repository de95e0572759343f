-- The logs with the step that a world makes, and what they tell of the links.
use Rattle.std.proofs.Common.{◌≡◌, ◌≢◌, ℕ, List, [], ◌∷◌, Bool, true, false, refl, ap, sym, ◌∙◌, subst}
use Rattle.std.specs.Prelude.{if◌then◌else◌, ◌==◌}
use Rattle.std.proofs.lemmas.Bool.{eqb-true, eq-eqb, true≢false}
use Rattle.run_theory.specs.Links.{put, sent}
use Rattle.sig_core.specs.declared.reply.ApiReply.{ApiReply}
use Rattle.sig_core.specs.Step.{Step}
use Rattle.node_views.specs.declared.host_body.HostBody.{HostBody}
use Rattle.world_core.specs.Start.{Start}
use Rattle.world_core.specs.Steps.{Addressed, HostStep}
use Rattle.world_core.specs.World.{logs_at}
use Rattle.world_views.specs.Machine.{has_stopped, machine, signals_of, stops_by}
use Rattle.world_views.specs.Right.{IsHeld, IsOpen, holds_by}
use Rattle.world_views.specs.World.{Whole}
use Rattle.world_views.proofs.CutFacts.{uncut_before}
use Rattle.world_views.proofs.Ready.{IsReady, host_step, log_with}

-- two hosts that a test tells apart
pub apart : (h k : ℕ) → (h == k) ≡ false → k ≢ h
apart h k e same = true≢false (sym (eq-eqb h k (sym same)) ∙ e)

-- what holds of a running host's link: it holds all that was sent
pub held_running : (start : Start) (i j : ℕ) (log : List HostStep) (xs : List Addressed) → has_stopped log ≡ false
    → IsHeld start i j log xs → xs ≡ sent (machine start) i j log
held_running start i j log xs runs held = subst (λ b. holds_by b start i j log xs) runs held

pub running_held : (start : Start) (i j : ℕ) (log : List HostStep) (xs : List Addressed) → has_stopped log ≡ false
    → xs ≡ sent (machine start) i j log → IsHeld start i j log xs
running_held start i j log xs runs held = subst (λ b. holds_by b start i j log xs) (sym runs) held

-- a step that stops its host has sent nothing, and another what its row says
pub sent_stopping : (start : Start) (h j : ℕ) (log : List HostStep) (e : HostStep) → stops_by e.step.marks ≡ true
    → sent (machine start) h j (e ∷ log) ≡ sent (machine start) h j log
sent_stopping start h j log e stops =
    ap (λ (b : Bool).
    put (machine start) j (if b then [] else signals_of start h log e) (sent (machine start) h j log))
    stops

pub sent_going_on : (start : Start) (h j : ℕ) (log : List HostStep) (e : HostStep) → stops_by e.step.marks ≡ false
    → sent (machine start) h j (e ∷ log)
    ≡ put (machine start) j (signals_of start h log e) (sent (machine start) h j log)
sent_going_on start h j log e stops =
    ap (λ (b : Bool).
    put (machine start) j (if b then [] else signals_of start h log e) (sent (machine start) h j log))
    stops

module _ (start : Start) (given : List ApiReply) (w : Whole) (x : Addressed) (t : Step HostBody)
    (ready : IsReady start given w x t) where
  -- a host that takes from a link behind the step took from it before
  pub was_open : (i j : ℕ) → IsOpen start i j (log_with w x t j) → IsOpen start i j (logs_at w.logs j)
  was_open i j = go (x.to == j) refl
    where
      go : (b : Bool) → (x.to == j) ≡ b
          → IsOpen start i j (if b then host_step w x t ∷ logs_at w.logs j else logs_at w.logs j)
          → IsOpen start i j (logs_at w.logs j)
      go true e now =
          record {
            runs = subst (λ k. has_stopped (logs_at w.logs k) ≡ false) (eqb-true x.to j e) ready.runs;
            takes = uncut_before start j (logs_at w.logs j) (host_step w x t) i now.takes;
          }
      go false e now = now
