-- A coordinator has the number of the view in which its host stands.
use Rattle.std.proofs.Common.{◌≡◌, ◌≤◌, ℕ, List, [], ◌∷◌, refl, sym, subst, arith}
use Rattle.sig_core.specs.declared.member.Member.{Member}
use Rattle.sig_core.specs.declared.place.BlockId.TheVariants as block
use Rattle.sig_core.specs.declared.place.Part.TheVariants.{Tc}
use Rattle.sig_core.specs.declared.view.View.{View}
use Rattle.frag_map.specs.Layout.{first_layout}
use Rattle.node_views.specs.Blocks.{fence_at}
use Rattle.node_views.specs.declared.host_body.HostBody as hosts
use Rattle.node_views.specs.declared.parts.Parts.{Parts}
use Rattle.node_views.specs.declared.parts.Parts.TheVariants as part
use Rattle.run_theory.specs.Lists.{IsIn}
use Rattle.tc_views.specs.Coordinator.{fresh_coordinator}
use Rattle.tc_views.specs.State.{CoordinatorState}
use Rattle.world_core.specs.Start.{NobodyStarts, Start, made}
use Rattle.world_core.specs.Steps.{HostStep}
use Rattle.world_views.specs.Hosts.{started}
use Rattle.world_views.specs.Machine.{after}
use Rattle.view_laws.specs.Runs.{view_after}
use Rattle.view_laws.proofs.fences.AboveViews.{fences_are_not_below}
use Rattle.moment_laws.specs.Places.{tc_of}
use Rattle.moment_laws.proofs.MomentHosts.{part_some, tc_started}
use Rattle.request_laws.specs.Blocks.{coordinator_after, coordinator_in}
use Rattle.request_laws.specs.Strays.{CoordinatorsHaveTheNumber}
use Rattle.request_laws.proofs.strays.AlongHosts.{Stands, StandsIn, step_stands}

-- it has it as it begins, and no fence above it
pub begins_standing : (Asked : View → Type 0) (start : Start) (nobody : NobodyStarts start) (me : Member)
    → IsIn me (made start)
    → StandsIn Asked (started start (tc_of start me)).standing.view (started start (tc_of start me)).parts
begins_standing Asked start nobody me there =
    subst (λ (s : hosts.HostBody). StandsIn Asked s.standing.view s.parts) (sym (tc_started start nobody me there))
    (record { number_is = refl; fenced = λ high. absurd (omega (arith, high)) })

-- the coordinator of parts that have one
pub stands_of : (Asked : View → Type 0) (other : CoordinatorState) (view : View) (parts : Parts)
    → StandsIn Asked view parts → Stands Asked view.number (coordinator_in other parts)
stands_of Asked other view (part.Tc p) stands = stands
stands_of Asked other view (part.Shell p) stands = absurd stands
stands_of Asked other view (part.Main p) stands = absurd stands
stands_of Asked other view (part.Ldm p) stands = absurd stands

-- its fence is that of its block
pub fence_is : (Asked : View → Type 0) (other : CoordinatorState) (view : View) (parts : Parts) (number : ℕ)
    → StandsIn Asked view parts → fence_at parts block.Tc number ≡ (coordinator_in other parts).fence
fence_is Asked other view (part.Tc p) number stands = refl
fence_is Asked other view (part.Shell p) number stands = absurd stands
fence_is Asked other view (part.Main p) number stands = absurd stands
fence_is Asked other view (part.Ldm p) number stands = absurd stands

-- whatever was asked of it
abbrev Any : View → Type 0
Any set = Unit {0}

module _ (start : Start) (nobody : NobodyStarts start) (me : Member) (there : IsIn me (made start)) where
  log_stands : (log : List HostStep)
      → StandsIn Any (view_after start (tc_of start me) log) (after start (tc_of start me) log).parts
  log_stands [] = begins_standing Any start nobody me there
  log_stands (e ∷ log) =
      step_stands Any start nobody (tc_of start me) (part_some start Tc me) log e (λ sound set says. tt)
      (log_stands log)

pub have_the_number : CoordinatorsHaveTheNumber
have_the_number start nobody me log there =
    (stands_of Any _ (view_after start (tc_of start me) log) (after start (tc_of start me) log).parts
    (log_stands start nobody me there log)).number_is

-- and its fence isn't below its number
pub fence_above : (start : Start) (nobody : NobodyStarts start) (me : Member) → IsIn me (made start)
    → (log : List HostStep)
    → (coordinator_after start me log).number ≤ (coordinator_after start me log).fence
fence_above start nobody me there log =
    let view = view_after start (tc_of start me) log in
    let parts = (after start (tc_of start me) log).parts in
    let fence =
    fence_is Any (fresh_coordinator me.node me.start (first_layout start.shape)) view parts view.number
    (log_stands start nobody me there log) in
    let number = have_the_number start nobody me log there in
    let above = fences_are_not_below start nobody (tc_of start me) log block.Tc in
    omega (arith, fence, number, above)
