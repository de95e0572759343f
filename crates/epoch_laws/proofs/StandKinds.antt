-- Which part each host runs, along its whole log.
use Rattle.std.proofs.Common.{List, [], ap, arith, refl, subst, suc, sym, zero, ℕ, ◌%◌, ◌+◌, ◌/◌, ◌<◌, ◌∙◌, ◌∷◌, ◌≡◌}
use Rattle.std.specs.Prelude.{Option, None, Some}
use Rattle.frag_map.specs.Layout.{first_layout}
use Rattle.frag_map.specs.Replicas.{first_start}
use Rattle.run_theory.specs.Lists.{IsIn}
use Rattle.sig_core.specs.declared.member.Member.{Member}
use Rattle.sig_core.specs.declared.place.Part.{Part}
use Rattle.sig_core.specs.declared.place.Part.TheVariants.{Ldm, Main, Tc}
use Rattle.sig_core.specs.declared.signal.Signal.{Signal}
use Rattle.sig_core.specs.declared.view.Shape.{Shape}
use Rattle.sig_core.specs.declared.view.View.{View}
use Rattle.gcp_master.specs.Master.{fresh_master}
use Rattle.node_views.specs.Blocks.{parts_entered, parts_row}
use Rattle.node_views.specs.declared.host_body.HostBody as node
use Rattle.node_views.specs.declared.ldm_part.LdmPart.{LdmPart}
use Rattle.node_views.specs.declared.main_part.MainPart.{MainPart}
use Rattle.node_views.specs.declared.parts.Parts.{Parts}
use Rattle.node_views.specs.declared.parts.Parts.TheVariants as part
use Rattle.node_views.specs.declared.shell_part.ShellPart.{ShellPart}
use Rattle.node_views.specs.Replies.{giving}
use Rattle.world_core.proofs.MadeFirst.{begins_made, hosts_first}
use Rattle.world_core.specs.Hosts.{hosts}
use Rattle.world_core.specs.Start.{NobodyStarts, Start, made}
use Rattle.world_core.specs.Steps.{HostStep}
use Rattle.world_views.specs.Hosts.{started}
use Rattle.world_views.specs.Machine.{after, step_by, told}
use Rattle.view_laws.specs.Votes.{main_of}
use Rattle.view_laws.proofs.follow.Hosts.{main_started}
use Rattle.view_laws.proofs.runs.FirstMembers.{first_in}
use Rattle.moment_laws.specs.Places.{ldm_of, tc_of}
use Rattle.moment_laws.proofs.MomentHosts.{ldm_number, ldm_started, main_number, tc_number}
use Rattle.moment_laws.proofs.MomentWalk.{Moves, Passes, entering, leaves, plainly, settles, step_moves, takes}
use Rattle.epoch_laws.specs.Members.{master_in, master_of}

-- the part that a host runs; none is the shell
abbrev pub part_in : Parts → Option Part
part_in (part.Shell p) = None
part_in (part.Main p) = Some Main
part_in (part.Tc p) = Some Tc
part_in (part.Ldm p) = Some Ldm

row_part : (parts : Parts) (x : Signal) → part_in (parts_row parts x).state ≡ part_in parts
row_part (part.Shell p) x = refl
row_part (part.Main p) x = refl
row_part (part.Tc p) x = refl
row_part (part.Ldm p) x = refl

entered_part : (parts : Parts) (view : View) → part_in (parts_entered parts view).state ≡ part_in parts
entered_part (part.Shell p) view = refl
entered_part (part.Main p) view = refl
entered_part (part.Tc p) view = refl
entered_part (part.Ldm p) view = refl

giving_part : (parts : Parts) → part_in (giving parts []) ≡ part_in parts
giving_part (part.Shell p) = refl
giving_part (part.Main p) = refl
giving_part (part.Tc p) = refl
giving_part (part.Ldm p) = refl

module _ (shape : Shape) (x : Signal) (now : Parts) (seen : View) where
  passes_part : (parts : Parts) (view : View) → Passes shape parts view x now seen → part_in now ≡ part_in parts
  passes_part parts view (leaves is stands) = ap part_in is
  passes_part parts view (takes passed none is stands) = ap part_in is ∙ row_part parts x
  passes_part parts view (settles passed settled is) =
      ap part_in is ∙ entered_part (parts_row parts x).state seen ∙ row_part parts x

  moves_part : (parts : Parts) (view : View) → Moves shape parts view x now seen → part_in now ≡ part_in parts
  moves_part parts view (plainly passes) = passes_part parts view passes
  moves_part parts view (entering above passes) =
      passes_part (parts_entered parts x.view).state x.view passes ∙ entered_part parts x.view

step_part : (h : ℕ) (s : node.HostBody) (x : Signal) → part_in (step_by h s x).state.parts ≡ part_in s.parts
step_part h s x =
    moves_part s.standing.shape x (step_by h s x).state.parts (step_by h s x).state.standing.view s.parts
    s.standing.view
    (step_moves x h s)

next_part : (h : ℕ) (s : node.HostBody) (x : Signal) → part_in (told h (step_by h s x)).parts ≡ part_in s.parts
next_part zero s x = giving_part (step_by zero s x).state.parts ∙ step_part zero s x
next_part (suc h) s x = step_part (suc h) s x

module _ (start : Start) where
  pub part_after : (h : ℕ) (log : List HostStep) → part_in (after start h log).parts ≡ part_in (started start h).parts
  part_after h [] = refl
  part_after h (e ∷ log) = next_part h (after start h log) e.step.taken ∙ part_after h log

  shell_started : part_in (started start 0).parts ≡ None
  unfolding started
  shell_started = refl

  -- the shell's host
  pub record RunsShell (parts : Parts) : Type 0 where
    pub shell : ShellPart
    pub is : parts ≡ part.Shell shell

  shell_of : (parts : Parts) → part_in parts ≡ None → RunsShell parts
  shell_of (part.Shell p) is = record { shell = p; is = refl }
  shell_of (part.Main p) is = absurd cc
  shell_of (part.Tc p) is = absurd cc
  shell_of (part.Ldm p) is = absurd cc

  pub runs_shell : (log : List HostStep) → RunsShell (after start 0 log).parts
  runs_shell log = shell_of (after start 0 log).parts (part_after 0 log ∙ shell_started)

  -- a host of rows
  pub record RunsRows (parts : Parts) : Type 0 where
    pub rows : LdmPart
    pub is : parts ≡ part.Ldm rows

  rows_of : (parts : Parts) → part_in parts ≡ Some Ldm → RunsRows parts
  rows_of (part.Ldm p) is = record { rows = p; is = refl }
  rows_of (part.Shell p) is = absurd cc
  rows_of (part.Main p) is = absurd cc
  rows_of (part.Tc p) is = absurd cc

  pub runs_rows : NobodyStarts start → (me : Member) → IsIn me (made start) → (log : List HostStep)
      → RunsRows (after start (ldm_of start me) log).parts
  runs_rows nobody me there log =
      rows_of (after start (ldm_of start me) log).parts
      (part_after (ldm_of start me) log ∙ ap (λ (s : node.HostBody). part_in s.parts)
      (ldm_started start nobody me there))

  -- a main host
  pub record RunsMain (parts : Parts) : Type 0 where
    pub main : MainPart
    pub is : parts ≡ part.Main main

  main_part_of : (parts : Parts) → part_in parts ≡ Some Main → RunsMain parts
  main_part_of (part.Main p) is = record { main = p; is = refl }
  main_part_of (part.Shell p) is = absurd cc
  main_part_of (part.Tc p) is = absurd cc
  main_part_of (part.Ldm p) is = absurd cc

  pub runs_main : NobodyStarts start → (me : Member) → IsIn me (made start) → (log : List HostStep)
      → RunsMain (after start (main_of start me) log).parts
  runs_main nobody me there log =
      main_part_of (after start (main_of start me) log).parts
      (part_after (main_of start me) log ∙ ap (λ (s : node.HostBody). part_in s.parts)
      (main_started start nobody me there))

  pub main_at : NobodyStarts start → (me : Member) → IsIn me (made start) → (h : ℕ) → h ≡ main_of start me
      → (log : List HostStep)
      → RunsMain (after start h log).parts
  main_at nobody me there h at log =
      subst (λ k. RunsMain (after start k log).parts) (sym at) (runs_main nobody me there log)

  -- its master is that of the member
  pub master_at : (logs : ℕ → List HostStep) (me : Member) (h : ℕ) → h ≡ main_of start me → (parts : Parts)
      → (after start h (logs h)).parts ≡ parts
      → master_of start logs me ≡ master_in (fresh_master me (first_layout start.shape).view 0) parts
  master_at logs me h at parts is =
      let in_parts = master_in (fresh_master me (first_layout start.shape).view 0) in
      ap (λ k. in_parts (after start k (logs k)).parts) (sym at) ∙ ap in_parts is

  -- whose host a host is
  pub data Whose (h : ℕ) : Type 0 where
    of_shell : h ≡ 0 → Whose h
    of_main : (me : Member) → IsIn me (made start) → h ≡ main_of start me → Whose h
    of_tc : (me : Member) → IsIn me (made start) → h ≡ tc_of start me → Whose h
    of_rows : (me : Member) → IsIn me (made start) → h ≡ ldm_of start me → Whose h

  pub whose : NobodyStarts start → (h : ℕ) → h < hosts start → Whose h
  whose nobody zero low = of_shell refl
  whose nobody (suc k) low = by (k % 3) refl
    where
      there : IsIn (first_start (k / 3 + 1)) (made start)
      there = begins_made start _
          (first_in start.shape.nodes (k / 3 + 1) (omega arith)
          (omega (arith, low, hosts_first start nobody)))

      by : (left : ℕ) → k % 3 ≡ left → Whose (suc k)
      by zero e =
          let is = main_number start nobody (first_start (k / 3 + 1)) there in
          of_main (first_start (k / 3 + 1)) there (omega (arith, e, is))
      by (suc zero) e =
          let is = tc_number start nobody (first_start (k / 3 + 1)) there in
          of_tc (first_start (k / 3 + 1)) there (omega (arith, e, is))
      by (suc (suc left)) e =
          let is = ldm_number start nobody (first_start (k / 3 + 1)) there in
          of_rows (first_start (k / 3 + 1)) there (omega (arith, e, is))
