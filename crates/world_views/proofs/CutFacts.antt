-- A host that has cut another off keeps it so, and a step that stops its host sends nothing.
use Rattle.std.proofs.Common.{◌≡◌, ℕ, zero, suc, Bool, true, false, List, [], ◌∷◌, refl, sym, ◌∙◌}
use Rattle.std.specs.Prelude.{Option, None, Some}
use Rattle.std.proofs.lemmas.Bool.{true≢false}
use Rattle.sig_core.specs.declared.member.HostId.{HostId}
use Rattle.sig_core.specs.declared.outcome.StopCause.{StopCause}
use Rattle.sig_core.specs.declared.signal.Signal.{Signal}
use Rattle.sig_core.specs.Step.{Step}
use Rattle.node_views.specs.declared.host_body.HostBody as node
use Rattle.node_views.specs.Row.{is_cut}
use Rattle.node_views.proofs.CutLemmas.{cut_hosts_stay_cut}
use Rattle.node_views.proofs.LawLemmas.{stopping_hosts_are_silent}
use Rattle.world_core.specs.Start.{Start}
use Rattle.world_core.specs.Steps.{HostStep}
use Rattle.world_views.specs.Machine.{after, has_cut, own_stop, step_by, step_if, stops_by, told}

-- a step, whether the host stops by itself or does what its row says
step_cut : (s : node.HostBody) (x : Signal) (o : Option StopCause) (host : HostId) → is_cut s.standing host ≡ true
    → is_cut (step_if s x o).state.standing host ≡ true
step_cut s x (Some cause) host was = was
step_cut s x None host was = cut_hosts_stay_cut s x host was

-- telling replies cuts nobody off
told_cut : (h : ℕ) (t : Step node.HostBody) (host : HostId) → is_cut t.state.standing host ≡ true
    → is_cut (told h t).standing host ≡ true
told_cut zero t host was = was
told_cut (suc h) t host was = was

pub cut_stays : (start : Start) (h : ℕ) (log : List HostStep) (e : HostStep) (other : ℕ)
    → has_cut start h log other ≡ true → has_cut start h (e ∷ log) other ≡ true
cut_stays start h log e other was =
    let s = after start h log in
    let host : HostId = record { 0 = other } in
    told_cut h (step_by h s e.step.taken) host (step_cut s e.step.taken (own_stop h e.step.taken) host was)

pub uncut_before : (start : Start) (h : ℕ) (log : List HostStep) (e : HostStep) (other : ℕ)
    → has_cut start h (e ∷ log) other ≡ false → has_cut start h log other ≡ false
uncut_before start h log e other now = go (has_cut start h log other) refl
  where
    go : (b : Bool) → has_cut start h log other ≡ b → b ≡ false
    go true was = absurd (true≢false (sym (cut_stays start h log e other was) ∙ now))
    go false was = refl

silent_if : (s : node.HostBody) (x : Signal) (o : Option StopCause) → stops_by (step_if s x o).effects.marks ≡ true
    → (step_if s x o).effects.sends ≡ []
silent_if s x (Some cause) stops = refl
silent_if s x None stops = stopping_hosts_are_silent s x stops

pub stopping_is_silent : (h : ℕ) (s : node.HostBody) (x : Signal) → stops_by (step_by h s x).effects.marks ≡ true
    → (step_by h s x).effects.sends ≡ []
stopping_is_silent h s x stops = silent_if s x (own_stop h x) stops
