-- The parts of nodes do in calm what their plain ones do; a main part does something for the membership alone.
use Rattle.std.proofs.Common.{◌≡◌, ◌%◌, ℕ, zero, suc, true, false, [], refl, sym, ap, subst}
use Rattle.std.proofs.lemmas.Bool.{false≢true, true≢false}
use Rattle.api_block.specs.State.{ApiState}
use Rattle.frag_map.specs.Layout.{first_number}
use Rattle.lqh_block.specs.State.{LqhState}
use Rattle.node_core.specs.declared.host.Host as plain
use Rattle.node_core.specs.declared.host.Host.TheVariants as plain_host
use Rattle.node_core.specs.declared.tc_part.TcPart as plain_tc
use Rattle.node_core.specs.Row as plain_row
use Rattle.node_core.specs.Row.{row}
use Rattle.node_views.specs.Blocks.{in_ldm, in_main, in_shell, in_tc, parts_row}
use Rattle.node_views.specs.Parts.{in_qmgr, ldm_row, main_row, shell_row, tc_row}
use Rattle.node_views.specs.declared.ldm_part.LdmPart.{LdmPart}
use Rattle.node_views.specs.declared.main_part.MainPart.{MainPart}
use Rattle.node_views.specs.declared.parts.Parts.{Parts}
use Rattle.node_views.specs.declared.parts.Parts.TheVariants.{Shell, Main, Tc, Ldm}
use Rattle.node_views.specs.declared.shell_part.ShellPart.{ShellPart}
use Rattle.node_views.specs.declared.tc_part.TcPart.{TcPart}
use Rattle.qmgr_block.specs.Qmgr.{qmgr_row}
use Rattle.run_theory.specs.Lists.{Each}
use Rattle.sig_core.specs.declared.place.BlockId.{BlockId}
use Rattle.sig_core.specs.declared.place.BlockId.TheVariants as block
use Rattle.sig_core.specs.declared.place.Part.{Part}
use Rattle.sig_core.specs.declared.place.Part.TheVariants as part
use Rattle.sig_core.specs.declared.signal.Signal.{Signal}
use Rattle.sig_core.specs.declared.view.View.{View}
use Rattle.sig_core.specs.Step.{stay}
use Rattle.world_core.specs.Hosts.{part_by}
use Rattle.world_core.specs.Start.{Start}
use Rattle.calm_laws.specs.Alike.{ArePartsAlike}
use Rattle.calm_laws.specs.Calm.{is_for, is_for_membership, is_in}
use Rattle.calm_laws.specs.Known.{IsOfFirst, txs_in}
use Rattle.calm_laws.specs.Plain.{is_main}
use Rattle.calm_laws.specs.Steps.{MainPartsStepAside, PartsStepAlike, is_of_parts}
use Rattle.calm_laws.proofs.plain_steps.Ease.{has_calm_block, takes_calmly}
use Rattle.calm_laws.proofs.plain_steps.Epochs.{epoch_step}
use Rattle.calm_laws.proofs.plain_steps.SameKinds.{by_kind}
use Rattle.calm_laws.proofs.plain_steps.Main.{membership_step}
use Rattle.calm_laws.proofs.plain_steps.PartsAlike.{PartsAlike, PartsAside, parts_stay, step_alike, step_aside}
use Rattle.calm_laws.proofs.plain_steps.Rows.{row_step}
use Rattle.calm_laws.proofs.plain_steps.Coordinator.{tc_step}

-- a main part takes what is for the membership, and the other parts take what is for their blocks
main_block : (of : Part) (to : BlockId) → is_main of ≡ true → is_in of to ≡ true → block.Qmgr ≡ to
main_block part.Main block.Qmgr main there = refl
main_block part.Main to main there = absurd (false≢true there)
main_block of to main there = absurd (false≢true main)

other_block : (of : Part) (to : BlockId) → is_main of ≡ false → is_in of to ≡ true → is_of_parts to ≡ true
other_block part.Main to main there = absurd (true≢false main)
other_block part.Tc block.Tc main there = refl
other_block part.Tc block.Dih main there = refl
other_block part.Tc to main there = absurd (false≢true there)
other_block part.Ldm block.Lqh main there = refl
other_block part.Ldm to main there = absurd (false≢true there)

-- the parts of each kind at a signal for a block
module _ (start : Start) (h : ℕ) (x : Signal) (view : x.view.number ≡ first_number)
    (known : Each (IsOfFirst start) (txs_in x.body)) where
  shell_by : (p : ShellPart) (a : ApiState) → ArePartsAlike start [] (Shell p) (plain_host.Shell a) → (to : BlockId)
      → is_of_parts to ≡ true
      → PartsAlike start h (in_shell (shell_row p to x)) (plain_row.in_shell (plain_row.shell_row a to x))
  unfolding shell_row plain_row.shell_row
  shell_by p a alike block.Tc of = parts_stay start h (Shell p) (plain_host.Shell a) alike
  shell_by p a alike block.Dih of = parts_stay start h (Shell p) (plain_host.Shell a) alike
  shell_by p a alike block.Lqh of = parts_stay start h (Shell p) (plain_host.Shell a) alike
  shell_by p a alike to of = absurd (false≢true of)

  main_by : (p : MainPart) (other : plain.Host) → ArePartsAlike start [] (Main p) other → (to : BlockId)
      → is_of_parts to ≡ true → PartsAlike start h (in_main (main_row p to x)) (stay other)
  unfolding main_row
  main_by p other alike block.Tc of = parts_stay start h (Main p) other alike
  main_by p other alike block.Dih of = parts_stay start h (Main p) other alike
  main_by p other alike block.Lqh of = parts_stay start h (Main p) other alike
  main_by p other alike to of = absurd (false≢true of)

  tc_by : (p : TcPart) (q : plain_tc.TcPart) → ArePartsAlike start [] (Tc p) (plain_host.Tc q) → (to : BlockId)
      → is_of_parts to ≡ true → is_for to x.body ≡ true
      → PartsAlike start h (in_tc (tc_row p to x)) (plain_row.in_tc_part (plain_row.tc_part_row q to x))
  unfolding tc_row plain_row.tc_part_row
  tc_by p q alike block.Tc of is = tc_step start h p q x alike is view
  tc_by p q alike block.Dih of is = epoch_step start h p q x alike is
  tc_by p q alike block.Lqh of is = parts_stay start h (Tc p) (plain_host.Tc q) alike
  tc_by p q alike to of is = absurd (false≢true of)

  ldm_by : (p : LdmPart) (s : LqhState) → ArePartsAlike start [] (Ldm p) (plain_host.Ldm s) → (to : BlockId)
      → is_of_parts to ≡ true → is_for to x.body ≡ true
      → PartsAlike start h (in_ldm (ldm_row p to x)) (plain_row.in_ldm (plain_row.ldm_row s to x))
  unfolding ldm_row plain_row.ldm_row
  ldm_by p s alike block.Lqh of is = row_step start h p x s alike view known is
  ldm_by p s alike block.Tc of is = parts_stay start h (Ldm p) (plain_host.Ldm s) alike
  ldm_by p s alike block.Dih of is = parts_stay start h (Ldm p) (plain_host.Ldm s) alike
  ldm_by p s alike to of is = absurd (false≢true of)

  by_block : is_of_parts x.to.block ≡ true → is_for x.to.block x.body ≡ true → (parts : Parts) (other : plain.Host)
      → ArePartsAlike start [] parts other → PartsAlike start h (parts_row parts x) (row other x)
  unfolding row
  by_block of is =
      by_kind start [] (λ parts other. PartsAlike start h (parts_row parts x) (row other x)) (record {
        shell = λ p a alike. shell_by p a alike x.to.block of;
        main = λ p m. main_by p (plain_host.Main m) tt x.to.block of;
        tc = λ p q alike. tc_by p q alike x.to.block of is;
        ldm = λ p s alike. ldm_by p s alike x.to.block of is;
      })

pub parts_step : PartsStepAlike
parts_step start h s other x beats alike calm =
    step_alike start h s other x alike calm
    (by_block start h x (ap (λ (view : View). view.number) calm.view) calm.known
    (other_block (part_by (h % 3)) x.to.block beats (has_calm_block (suc h) x calm.calm))
    (takes_calmly (suc h) x calm.calm) s.parts other alike.parts)

-- the parts of each kind at a signal for the membership
module _ (start : Start) (x : Signal) (is : is_for_membership x.body ≡ true) where
  aside_stays : (parts : Parts) (other : plain.Host) → ArePartsAlike start [] parts other
      → PartsAside start (stay parts) other
  aside_stays parts other alike = record { marks = refl; sends = tt; alike = alike }

  aside_shell : (p : ShellPart) (a : ApiState) → ArePartsAlike start [] (Shell p) (plain_host.Shell a)
      → PartsAside start (in_shell (shell_row p block.Qmgr x)) (plain_host.Shell a)
  unfolding shell_row
  aside_shell p a alike = aside_stays (Shell p) (plain_host.Shell a) alike

  aside_main : (p : MainPart) (other : plain.Host)
      → ((now : MainPart) → ArePartsAlike start [] (Main now) other)
      → PartsAside start (in_main (main_row p block.Qmgr x)) other
  unfolding main_row
  aside_main p other alike =
      let step = membership_step p.qmgr x is in
      record { marks = step.marks; sends = step.sends; alike = alike (in_qmgr p (qmgr_row p.qmgr x)).state }

  aside_tc : (p : TcPart) (q : plain_tc.TcPart) → ArePartsAlike start [] (Tc p) (plain_host.Tc q)
      → PartsAside start (in_tc (tc_row p block.Qmgr x)) (plain_host.Tc q)
  unfolding tc_row
  aside_tc p q alike = aside_stays (Tc p) (plain_host.Tc q) alike

  aside_ldm : (p : LdmPart) (s : LqhState) → ArePartsAlike start [] (Ldm p) (plain_host.Ldm s)
      → PartsAside start (in_ldm (ldm_row p block.Qmgr x)) (plain_host.Ldm s)
  unfolding ldm_row
  aside_ldm p s alike = aside_stays (Ldm p) (plain_host.Ldm s) alike

  aside_by : block.Qmgr ≡ x.to.block → (parts : Parts) (other : plain.Host) → ArePartsAlike start [] parts other
      → PartsAside start (parts_row parts x) other
  aside_by to =
      by_kind start [] (λ parts other. PartsAside start (parts_row parts x) other) (record {
        shell = λ p a alike.
            subst (λ b. PartsAside start (in_shell (shell_row p b x)) (plain_host.Shell a)) to (aside_shell p a alike);
        main = λ p m.
            subst (λ b. PartsAside start (in_main (main_row p b x)) (plain_host.Main m)) to
            (aside_main p (plain_host.Main m) (λ now. tt));
        tc = λ p q alike.
            subst (λ b. PartsAside start (in_tc (tc_row p b x)) (plain_host.Tc q)) to (aside_tc p q alike);
        ldm = λ p s alike.
            subst (λ b. PartsAside start (in_ldm (ldm_row p b x)) (plain_host.Ldm s)) to (aside_ldm p s alike);
      })

pub main_parts_step : MainPartsStepAside
main_parts_step start zero s other x beats alike calm = absurd (false≢true beats)
main_parts_step start (suc h) s other x beats alike calm =
    step_aside start h s other x alike calm
    (aside_by start x (subst (λ to. is_for to x.body ≡ true) (sym to) (takes_calmly (suc h) x calm.calm)) to
    s.parts other alike.parts)
  where
    to : block.Qmgr ≡ x.to.block
    to = main_block (part_by (h % 3)) x.to.block beats (has_calm_block (suc h) x calm.calm)
