-- What a step of a host comes to that coordinates for a member, or runs its rows, in words of the part that it runs.
use Rattle.std.proofs.Common.{◌≡◌, ℕ, List, ◌∷◌, ap, subst, sym}
use Rattle.run_theory.specs.Lists.{IsIn}
use Rattle.sig_core.specs.declared.member.Member.{Member}
use Rattle.sig_core.specs.declared.place.Part.TheVariants.{Ldm, Tc}
use Rattle.frag_map.specs.Layout.{first_layout}
use Rattle.tc_views.specs.Coordinator.{fresh_coordinator}
use Rattle.takeover_block.specs.State.{resting}
use Rattle.node_views.specs.declared.ldm_part.LdmPart.{LdmPart}
use Rattle.node_views.specs.declared.parts.Parts.TheVariants as part
use Rattle.node_views.specs.declared.tc_part.TcPart.{TcPart}
use Rattle.world_core.specs.Start.{NobodyStarts, Start, made}
use Rattle.world_core.specs.Steps.{HostStep}
use Rattle.world_views.specs.Machine.{after, step_after}
use Rattle.view_laws.specs.Runs.{view_after}
use Rattle.moment_laws.specs.PartSteps.{LdmDoes, TcDoes}
use Rattle.moment_laws.specs.Places.{ldm_of, tc_of}
use Rattle.moment_laws.proofs.MomentHosts.{part_some}
use Rattle.moment_laws.proofs.PartKinds.{ldm_after, tc_after}
use Rattle.request_laws.specs.Blocks.{coordinator_after, coordinator_in, no_replica, rows_after, rows_in}
use Rattle.request_laws.specs.Blocks.{takeover_after, takeover_in}
use Rattle.request_laws.specs.Routed.{layout_in}
use Rattle.request_laws.proofs.routes.Layouts.{AreLaid, IsLaid, runs_ldm, runs_tc}

module _ (start : Start) (h : ℕ) (log : List HostStep) (e : HostStep) where
  -- the host runs this part, whose layout is of the view in which it stands, and does this to it
  pub record TcStep : Type 0 where
    pub own : TcPart
    pub runs : (after start h log).parts ≡ part.Tc own
    pub laid : IsLaid (layout_in start (view_after start h log)) own
    pub does : TcDoes start.shape own (view_after start h log) e.step.taken (after start h (e ∷ log)).parts
        (view_after start h (e ∷ log)) (step_after start h log e).effects.sends

  pub record LdmStep : Type 0 where
    pub own : LdmPart
    pub runs : (after start h log).parts ≡ part.Ldm own
    pub laid : AreLaid (layout_in start (view_after start h log)) own
    pub does : LdmDoes start.shape own (view_after start h log) e.step.taken (after start h (e ∷ log)).parts
        (view_after start h (e ∷ log)) (step_after start h log e).effects.sends

module _ (start : Start) (nobody : NobodyStarts start) (member : Member) (there : IsIn member (made start))
    (log : List HostStep) (e : HostStep) where
  pub own_tc : TcStep start (tc_of start member) log e
  own_tc =
      let h = tc_of start member in
      let at = runs_tc start nobody member there log in
      record {
        own = at.own;
        runs = at.runs;
        laid = at.laid;
        does = tc_after start nobody h log e (part_some start Tc member) at.own at.runs;
      }

  pub own_ldm : LdmStep start (ldm_of start member) log e
  own_ldm =
      let h = ldm_of start member in
      let at = runs_ldm start nobody member there log in
      record {
        own = at.own;
        runs = at.runs;
        laid = at.laid;
        does = ldm_after start nobody h log e (part_some start Ldm member) at.own at.runs;
      }

-- so it is of any host that is one
pub tc_step : (start : Start) (nobody : NobodyStarts start) (member : Member) → IsIn member (made start) → (h : ℕ)
    → h ≡ tc_of start member
    → (log : List HostStep) (e : HostStep) → TcStep start h log e
tc_step start nobody member there h at log e =
    subst (λ k. TcStep start k log e) (sym at) (own_tc start nobody member there log e)

pub ldm_step : (start : Start) (nobody : NobodyStarts start) (member : Member) → IsIn member (made start) → (h : ℕ)
    → h ≡ ldm_of start member
    → (log : List HostStep) (e : HostStep) → LdmStep start h log e
ldm_step start nobody member there h at log e =
    subst (λ k. LdmStep start k log e) (sym at) (own_ldm start nobody member there log e)

-- the blocks of the member are those of the part
module _ (start : Start) (member : Member) (h : ℕ) (log : List HostStep) where
  module _ (at : h ≡ tc_of start member) (p : TcPart) (runs : (after start h log).parts ≡ part.Tc p) where
    own_runs : (after start (tc_of start member) log).parts ≡ part.Tc p
    own_runs = subst (λ k. (after start k log).parts ≡ part.Tc p) at runs

    pub coordinator_is : coordinator_after start member log ≡ p.coordinator
    coordinator_is =
        ap (coordinator_in (fresh_coordinator member.node member.start (first_layout start.shape))) own_runs

    pub takeover_is : takeover_after start member log ≡ p.takeover
    takeover_is = ap (takeover_in (resting member.node (first_layout start.shape))) own_runs

  module _ (at : h ≡ ldm_of start member) (p : LdmPart) (runs : (after start h log).parts ≡ part.Ldm p) where
    pub rows_are : rows_after start member log ≡ p.replica
    rows_are =
        ap (rows_in (no_replica start member)) (subst (λ k. (after start k log).parts ≡ part.Ldm p) at runs)
