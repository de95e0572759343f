-- What a host knows of transactions behind a step, what the step sends and what it marks is true, if what the host knew
-- and what the signal tells is.
use Rattle.std.proofs.Common.{◌≡◌, ℕ, zero, suc, true, List, [], ◌∷◌, ◌%◌, subst, sym}
use Rattle.sig_core.specs.declared.member.TxId.{TxId}
use Rattle.sig_core.specs.declared.signal.Signal.{Signal}
use Rattle.sig_core.specs.declared.view.View.{View}
use Rattle.sig_core.specs.Step.{Effects, Step}
use Rattle.node_views.specs.Blocks.{parts_entered, parts_row}
use Rattle.node_views.specs.declared.host_body.HostBody as hosts
use Rattle.node_views.specs.declared.parts.Parts.{Parts}
use Rattle.node_views.specs.declared.parts.Parts.TheVariants.{Shell, Main, Tc, Ldm}
use Rattle.node_views.specs.Replies.{giving}
use Rattle.node_views.specs.WellFormed.{is_well_formed}
use Rattle.world_core.specs.Hosts.{member_at, part_by}
use Rattle.world_core.specs.Start.{NobodyStarts, Start, made}
use Rattle.world_core.specs.Steps.{HostStep}
use Rattle.world_views.specs.Hosts.{part_started, started}
use Rattle.world_views.specs.Machine.{after, step_by, told}
use Rattle.world_views.proofs.AllBegin.{started_behind}
use Rattle.outcome_laws.specs.Known.{PartsKnow}
use Rattle.outcome_laws.specs.Tells.{Teaches, Tells}
use Rattle.outcome_laws.proofs.knowledge.Parts.{AreTold, AreTrue, true_effects, true_kept}
use Rattle.outcome_laws.proofs.knowledge.HostSteps.{IsOfEffects, step_keeps}

-- only the shell's host has a client's side
abbrev pub HasNoShell : Parts → Type 0
HasNoShell (Shell p) = ⊥
HasNoShell parts = Unit {0}

anything : IsOfEffects (λ (effects : Effects). Unit {0})
anything = record {
  none = tt;
  stops = λ cause. tt;
  installs = λ view. tt;
  cuts = λ first. tt;
  joins = λ one other first then. tt;
  hushes = λ effects are. tt;
}

row_apart : (parts : Parts) (x : Signal) → HasNoShell parts → HasNoShell (parts_row parts x).state
row_apart (Shell p) x apart = absurd apart
row_apart (Main p) x apart = tt
row_apart (Tc p) x apart = tt
row_apart (Ldm p) x apart = tt

entered_apart : (parts : Parts) (view : View) → HasNoShell parts → HasNoShell (parts_entered parts view).state
entered_apart (Shell p) view apart = absurd apart
entered_apart (Main p) view apart = tt
entered_apart (Tc p) view apart = tt
entered_apart (Ldm p) view apart = tt

started_apart : (start : Start) (nobody : NobodyStarts start) (k : ℕ) → HasNoShell (started start (suc k)).parts
started_apart start nobody k = subst (λ s. HasNoShell s.parts) (sym (started_behind start nobody k)) (by (k % 3))
  where
    by : (left : ℕ) → HasNoShell (part_started start (part_by left) (member_at (made start) (suc k))).parts
    by zero = tt
    by (suc zero) = tt
    by (suc (suc left)) = tt

pub never_shell : (start : Start) (nobody : NobodyStarts start) (k : ℕ) (log : List HostStep)
    → HasNoShell (after start (suc k) log).parts
never_shell start nobody k [] = started_apart start nobody k
never_shell start nobody k (e ∷ log) =
    (step_keeps HasNoShell (λ (effects : Effects). Unit {0}) anything e.step.taken (suc k) (after start (suc k) log)
    (λ sound. record {
      row = λ parts apart. (row_apart parts e.step.taken apart, tt);
      enters = λ parts view apart. (entered_apart parts view apart, tt);
    })
    (never_shell start nobody k log)).0

module _ (D : TxId → ℕ → Type 0) (B : TxId → Type 0) where
  -- replies that are told change nothing of what is known
  given_know : (parts : Parts) → PartsKnow D B parts → PartsKnow D B (giving parts [])
  given_know (Shell p) knows = knows
  given_know (Main p) knows = knows
  given_know (Tc p) knows = knows
  given_know (Ldm p) knows = knows

  told_know : (h : ℕ) (t : Step hosts.HostBody) → PartsKnow D B t.state.parts → PartsKnow D B (told h t).parts
  told_know zero t knows = given_know t.state.parts knows
  told_know (suc h) t knows = knows

  pub record IsTrueStep (h : ℕ) (s : hosts.HostBody) (x : Signal) : Type 0 where
    pub knows : PartsKnow D B (told h (step_by h s x)).parts
    pub effects : AreTrue D B (step_by h s x).effects

  module _ (h : ℕ) (s : hosts.HostBody) (x : Signal)
      (tells : is_well_formed s.standing.shape x ≡ true → Tells D B x.body)
    where
      stepped : AreTold D B x.body s.parts → IsTrueStep h s x
      stepped told =
          let comes = step_keeps (AreTold D B x.body) (AreTrue D B) (true_effects D B) x h s
          (λ sound. true_kept D B x (tells sound)) told in
          record { knows = told_know h (step_by h s x) comes.0.0; effects = comes.1 }

      -- the shell's host also learns from the signal who has begun
      pub steps_are_true : PartsKnow D B s.parts → Teaches D B x.body → IsTrueStep h s x
      steps_are_true knows teaches = stepped (by s.parts knows)
        where
          by : (parts : Parts) → PartsKnow D B parts → AreTold D B x.body parts
          by (Shell p) knows = (knows, teaches)
          by (Main p) knows = (knows, tt)
          by (Tc p) knows = (knows, tt)
          by (Ldm p) knows = (knows, tt)

      pub others_are_true : PartsKnow D B s.parts → HasNoShell s.parts → IsTrueStep h s x
      others_are_true knows apart = stepped (by s.parts knows apart)
        where
          by : (parts : Parts) → PartsKnow D B parts → HasNoShell parts → AreTold D B x.body parts
          by (Shell p) knows apart = absurd apart
          by (Main p) knows apart = (knows, tt)
          by (Tc p) knows apart = (knows, tt)
          by (Ldm p) knows apart = (knows, tt)
