-- Where the blocks of a part do what its plain ones do, so does its host.
use Rattle.std.proofs.Common.{◌≡◌, ◌∙◌, ℕ, suc, false, [], refl, sym, ap, subst}
use Rattle.std.specs.List.{list_any}
use Rattle.std.proofs.lemmas.List.{append-nil}
use Rattle.node_core.specs.declared.host.Host as plain
use Rattle.node_core.specs.Row.{row}
use Rattle.node_views.specs.Blocks.{parts_row}
use Rattle.node_views.specs.Row.{is_stop, with_parts}
use Rattle.node_views.specs.declared.host_body.HostBody as host
use Rattle.node_views.specs.declared.parts.Parts.{Parts}
use Rattle.run_theory.specs.Lists.{Each}
use Rattle.sig_core.specs.declared.signal.Signal.{Signal}
use Rattle.sig_core.specs.Step.{Step, stay}
use Rattle.world_core.specs.Start.{Start}
use Rattle.world_views.specs.Machine.{step_by, stops_by, told}
use Rattle.calm_laws.specs.Alike.{AreAlike, ArePartsAlike}
use Rattle.calm_laws.specs.Steps.{ComesCalmly, IsForViews, IsPlainSend, StepAlike, StepAside}
use Rattle.calm_laws.proofs.plain_steps.Ease.{ease_parts}

-- the parts of a host behind the shell's do what the plain host does, which goes on and sends what such a host may send
pub record PartsAlike (start : Start) (h : ℕ) (one : Step Parts) (other : Step plain.Host) : Type 0 where
  pub marks : one.effects.marks ≡ other.effects.marks
  pub sends : one.effects.sends ≡ other.effects.sends
  pub plain : Each (IsPlainSend (suc h)) other.effects.sends
  pub goes_on : stops_by other.effects.marks ≡ false
  pub alike : ArePartsAlike start [] one.state other.state

-- so does its host
pub step_alike : (start : Start) (h : ℕ) (s : host.HostBody) (other : plain.Host) (x : Signal)
    → AreAlike start [] s other
    → ComesCalmly start (suc h) x → PartsAlike start h (parts_row s.parts x) (row other x)
    → StepAlike start (suc h) [] s other x
step_alike start h s other x alike calm parts = record {
  marks = ap (λ (step : Step host.HostBody). step.effects.marks) same ∙ parts.marks;
  sends =
      ap (λ (step : Step host.HostBody). step.effects.sends) same ∙ parts.sends
      ∙ sym (append-nil (row other x).effects.sends);
  plain = parts.plain;
  goes_on = parts.goes_on;
  alike = subst (λ (step : Step host.HostBody). AreAlike start [] (told (suc h) step) (row other x).state) (sym same)
      (record { standing = alike.standing; parts = parts.alike });
}
  where
    same : step_by (suc h) s x ≡ with_parts s (parts_row s.parts x)
    same = ease_parts start (suc h) [] s other x alike calm (ap (list_any is_stop) parts.marks ∙ parts.goes_on)

-- parts that stay as they are
pub parts_stay : (start : Start) (h : ℕ) (parts : Parts) (other : plain.Host) → ArePartsAlike start [] parts other
    → PartsAlike start h (stay parts) (stay other)
parts_stay start h parts other alike =
    record { marks = refl; sends = refl; plain = tt; goes_on = refl; alike = alike }

-- the parts do something for the membership alone, of which the plain host knows nothing
pub record PartsAside (start : Start) (one : Step Parts) (other : plain.Host) : Type 0 where
  pub marks : one.effects.marks ≡ []
  pub sends : Each IsForViews one.effects.sends
  pub alike : ArePartsAlike start [] one.state other

-- so does their host
pub step_aside : (start : Start) (h : ℕ) (s : host.HostBody) (other : plain.Host) (x : Signal)
    → AreAlike start [] s other
    → ComesCalmly start (suc h) x → PartsAside start (parts_row s.parts x) other → StepAside start (suc h) s other x
step_aside start h s other x alike calm parts = record {
  marks = ap (λ (step : Step host.HostBody). step.effects.marks) same ∙ parts.marks;
  sends = subst (λ (step : Step host.HostBody). Each IsForViews step.effects.sends) (sym same) parts.sends;
  alike = subst (λ (step : Step host.HostBody). AreAlike start [] (told (suc h) step) other) (sym same)
      (record { standing = alike.standing; parts = parts.alike });
}
  where
    same : step_by (suc h) s x ≡ with_parts s (parts_row s.parts x)
    same = ease_parts start (suc h) [] s other x alike calm (ap (list_any is_stop) parts.marks)
