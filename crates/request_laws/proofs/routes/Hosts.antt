-- Hosts by the part that they run: one that coordinates, one that runs rows, or one beside these, which sends nothing
-- about the rows of transactions.
use Rattle.std.proofs.Common.{◌≡◌, ◌<◌, ◌+◌, ◌%◌, ◌/◌, ℕ, zero, suc, List, [], ◌∷◌, refl, subst, sym, arith}
use Rattle.std.proofs.lemmas.Nat.{mod_below}
use Rattle.frag_map.specs.Replicas.{first_start}
use Rattle.run_theory.specs.Lists.{IsIn}
use Rattle.run_theory.proofs.Pasts.{each_append}
use Rattle.sig_core.specs.declared.member.Member.{Member}
use Rattle.sig_core.specs.declared.place.BlockId.{BlockId}
use Rattle.sig_core.specs.declared.place.BlockId.TheVariants as block
use Rattle.sig_core.specs.declared.signal.Signal.{Signal}
use Rattle.sig_core.specs.declared.view.View.{View}
use Rattle.sig_core.specs.Step.{Effects, Step}
use Rattle.node_views.specs.Blocks.{parts_entered, parts_row}
use Rattle.node_views.specs.declared.host_body.HostBody as hosts
use Rattle.node_views.specs.declared.main_part.MainPart.{MainPart}
use Rattle.node_views.specs.declared.parts.Parts.{Parts}
use Rattle.node_views.specs.declared.parts.Parts.TheVariants.{Shell, Main, Tc, Ldm}
use Rattle.node_views.specs.declared.shell_part.ShellPart.{ShellPart}
use Rattle.node_views.specs.Parts.{main_row, shell_row}
use Rattle.node_views.specs.Replies.{giving}
use Rattle.world_core.proofs.MadeFirst.{begins_made, hosts_first}
use Rattle.world_core.specs.Hosts.{hosts as host_count, member_at, part_by}
use Rattle.world_core.specs.Start.{NobodyStarts, Start, made}
use Rattle.world_core.specs.Steps.{HostStep}
use Rattle.world_views.specs.Hosts.{part_started, started}
use Rattle.world_views.specs.Machine.{after, step_after, step_by, told}
use Rattle.world_views.proofs.AllBegin.{started_behind}
use Rattle.view_laws.proofs.runs.FirstMembers.{first_in}
use Rattle.moment_laws.specs.Places.{ldm_of, tc_of}
use Rattle.moment_laws.proofs.MomentHosts.{ldm_number, tc_number}
use Rattle.outcome_laws.proofs.knowledge.HostSteps.{IsOfEffects, step_keeps}
use Rattle.request_laws.proofs.routes.BesideRows.{AreAside, IsAside, arbiter_aside, client_aside, master_aside}
use Rattle.request_laws.proofs.routes.BesideRows.{membership_aside, membership_installs_aside}

-- the client's side, or a membership with the master of checkpoints
abbrev pub IsBeside : Parts → Type 0
IsBeside (Shell p) = Unit {0}
IsBeside (Main p) = Unit {0}
IsBeside parts = ⊥

-- a host that coordinates, or runs rows, for a member, or one beside these
pub data PartHost (start : Start) (h : ℕ) : Type 0 where
  coordinates : (me : Member) → IsIn me (made start) → h ≡ tc_of start me → PartHost start h
  keeps_rows : (me : Member) → IsIn me (made start) → h ≡ ldm_of start me → PartHost start h
  is_beside : IsBeside (started start h).parts → PartHost start h

pub part_host : (start : Start) (nobody : NobodyStarts start) (h : ℕ) → h < host_count start → PartHost start h
unfolding started
part_host start nobody zero low = is_beside tt
part_host start nobody (suc k) low = by (k % 3) refl
  where
    there : IsIn (first_start (k / 3 + 1)) (made start)
    there = begins_made start _
        (first_in start.shape.nodes (k / 3 + 1) (omega arith)
        (omega (arith, low, hosts_first start nobody)))

    by : (left : ℕ) → k % 3 ≡ left → PartHost start (suc k)
    by zero e =
        is_beside
        (subst (λ s. IsBeside s.parts) (sym (started_behind start nobody k))
        (subst
        (λ (left : ℕ). IsBeside (part_started start (part_by left) (member_at (made start) (suc k))).parts) (sym e) tt))
    by (suc zero) e =
        let is = tc_number start nobody (first_start (k / 3 + 1)) there in
        coordinates (first_start (k / 3 + 1)) there (omega (arith, e, is))
    by (suc (suc left)) e =
        let is = ldm_number start nobody (first_start (k / 3 + 1)) there in
        let few : k % 3 < 3 = mod_below k 3 (omega arith) in
        keeps_rows (first_start (k / 3 + 1)) there (omega (arith, e, is, few))

-- what is sent
abbrev pub SendsAside : Effects → Type 0
SendsAside effects = AreAside effects.sends

aside_effects : IsOfEffects SendsAside
aside_effects = record {
  none = tt;
  stops = λ cause. tt;
  installs = λ view. tt;
  cuts = λ first. tt;
  joins = λ one other first then. each_append IsAside one.sends other.sends first then;
  hushes = λ effects are. tt;
}

shell_beside : (p : ShellPart) (x : Signal)
    → IsBeside (parts_row (Shell p) x).state × SendsAside (parts_row (Shell p) x).effects
unfolding shell_row
shell_beside p x = (tt, by x.to.block)
  where
    by : (b : BlockId) → SendsAside (shell_row p b x).effects
    by block.Api = client_aside p.client x
    by block.Arbiter = arbiter_aside p.arbiter x
    by _ = tt

main_beside : (p : MainPart) (x : Signal)
    → IsBeside (parts_row (Main p) x).state × SendsAside (parts_row (Main p) x).effects
unfolding main_row
main_beside p x = (tt, by x.to.block)
  where
    by : (b : BlockId) → SendsAside (main_row p b x).effects
    by block.Qmgr = membership_aside p.qmgr x
    by block.GcpMaster = master_aside p.master x
    by _ = tt

row_beside : (x : Signal) (parts : Parts) → IsBeside parts
    → IsBeside (parts_row parts x).state × SendsAside (parts_row parts x).effects
row_beside x (Shell p) beside = shell_beside p x
row_beside x (Main p) beside = main_beside p x
row_beside x (Tc p) beside = absurd beside
row_beside x (Ldm p) beside = absurd beside

entered_beside : (parts : Parts) (view : View) → IsBeside parts
    → IsBeside (parts_entered parts view).state × SendsAside (parts_entered parts view).effects
entered_beside (Shell p) view beside = (tt, tt)
entered_beside (Main p) view beside = (tt, membership_installs_aside p.qmgr view)
entered_beside (Tc p) view beside = absurd beside
entered_beside (Ldm p) view beside = absurd beside

given_beside : (h : ℕ) (t : Step hosts.HostBody) → IsBeside t.state.parts → IsBeside (told h t).parts
given_beside zero t beside = by t.state.parts beside
  where
    by : (parts : Parts) → IsBeside parts → IsBeside (giving parts [])
    by (Shell p) beside = tt
    by (Main p) beside = tt
    by (Tc p) beside = absurd beside
    by (Ldm p) beside = absurd beside
given_beside (suc h) t beside = beside

-- so it is along a log
module _ (start : Start) (h : ℕ) (first : IsBeside (started start h).parts) where
  step_beside : (log : List HostStep) (e : HostStep) → IsBeside (after start h log).parts
      → IsBeside (step_after start h log e).state.parts × SendsAside (step_after start h log e).effects
  step_beside log e beside =
      step_keeps IsBeside SendsAside aside_effects e.step.taken h (after start h log)
      (λ sound. record { row = row_beside e.step.taken; enters = entered_beside }) beside

  stays_beside : (log : List HostStep) → IsBeside (after start h log).parts
  stays_beside [] = first
  stays_beside (e ∷ log) =
      given_beside h (step_by h (after start h log) e.step.taken) (step_beside log e (stays_beside log)).0

  -- it sends nothing about rows
  pub beside_sends : (log : List HostStep) (e : HostStep) → AreAside (step_after start h log e).effects.sends
  beside_sends log e = (step_beside log e (stays_beside log)).1
