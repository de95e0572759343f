-- In calm a main part does nothing of closings.
use Rattle.std.proofs.Common.{◌≡◌, ℕ, suc, ◌%◌, List, [], true, false, refl, ap, sym, ◌∙◌, subst}
use Rattle.std.specs.List.{list_any}
use Rattle.std.proofs.lemmas.Bool.{false≢true}
use Rattle.node_core.specs.declared.host.Host as plain
use Rattle.node_core.specs.declared.host.Host.TheVariants as plain_host
use Rattle.node_views.specs.Blocks.{in_main, parts_row}
use Rattle.node_views.specs.declared.host_body.HostBody as host
use Rattle.node_views.specs.declared.main_part.MainPart.{MainPart}
use Rattle.node_views.specs.declared.parts.Parts.{Parts}
use Rattle.node_views.specs.declared.parts.Parts.TheVariants.{Shell, Main, Tc, Ldm}
use Rattle.node_views.specs.Parts.{in_qmgr, main_row}
use Rattle.node_views.specs.Row.{is_stop}
use Rattle.qmgr_block.specs.Qmgr.{qmgr_row}
use Rattle.sig_core.specs.declared.place.BlockId.TheVariants as block
use Rattle.sig_core.specs.declared.place.Part.TheVariants as part
use Rattle.sig_core.specs.declared.reply.ApiReply.{ApiReply}
use Rattle.sig_core.specs.declared.signal.Signal.{Signal}
use Rattle.sig_core.specs.Step.{Step}
use Rattle.world_core.specs.Hosts.{part_by}
use Rattle.world_core.specs.Start.{Start}
use Rattle.world_views.specs.Machine.{step_by}
use Rattle.calm_laws.specs.Alike.{AreAlike}
use Rattle.calm_laws.specs.Calm.{is_calm, is_for}
use Rattle.calm_laws.specs.Plain.{is_beating}
use Rattle.calm_laws.specs.Steps.{ComesCalmly}
use Rattle.calm_laws.proofs.plain_steps.Ease.{ease_parts, has_calm_block, takes_calmly}
use Rattle.calm_laws.proofs.plain_steps.Main.{membership_step}
use Rattle.calm_laws.proofs.places.FineSends.{main_has}
use Rattle.peace_laws.specs.Alike.{ArePartsNear, IsMasterNear}
use Rattle.peace_laws.proofs.near.NearHosts.{has_main}

for_membership : (h : ℕ) (x : Signal) → is_beating (suc h) ≡ true → is_calm (suc h) x ≡ true → x.to.block ≡ block.Qmgr
for_membership h x beats calm = main_has (part_by (h % 3)) x.to.block beats (has_calm_block (suc h) x calm)

-- parts that are near a main part are one, with a master that is near
pub record IsNearMain (parts : Parts) : Type 0 where
  pub part : MainPart
  pub is : parts ≡ Main part
  pub master : IsMasterNear part.master

pub near_main : (start : Start) (given : List ApiReply) (parts : Parts) (other : plain.Host)
    → ArePartsNear start given parts other → has_main other ≡ true → IsNearMain parts
near_main start given (Main p) (plain_host.Main m) near main = record { part = p; is = refl; master = near }
near_main start given (Shell p) (plain_host.Main m) near main = absurd near
near_main start given (Tc p) (plain_host.Main m) near main = absurd near
near_main start given (Ldm p) (plain_host.Main m) near main = absurd near
near_main start given parts (plain_host.Shell a) near main = absurd (false≢true main)
near_main start given parts (plain_host.Tc q) near main = absurd (false≢true main)
near_main start given parts (plain_host.Ldm s) near main = absurd (false≢true main)

membership_row : (p : MainPart) (x : Signal) → main_row p block.Qmgr x ≡ in_qmgr p (qmgr_row p.qmgr x)
unfolding main_row
membership_row p x = refl

same_main : (p q : MainPart) → Main p ≡ Main q → p ≡ q
same_main p q is = cc is

-- so is it after a calm step
module _ (start : Start) (h : ℕ) (s : host.HostBody) (other : plain.Host) (x : Signal)
    (beats : is_beating (suc h) ≡ true)
    (alike : AreAlike start [] s other) (comes : ComesCalmly start (suc h) x) (main : IsNearMain s.parts) where
  abbrev p : MainPart
  p = main.part

  row_is : parts_row s.parts x ≡ in_main (in_qmgr p (qmgr_row p.qmgr x))
  row_is =
      ap (λ parts. parts_row parts x) main.is
      ∙ ap (λ to. in_main (main_row p to x)) (for_membership h x beats comes.calm)
      ∙ ap in_main (membership_row p x)

  runs : list_any is_stop (parts_row s.parts x).effects.marks ≡ false
  runs =
      let takes : is_for block.Qmgr x.body ≡ true =
      subst (λ to. is_for to x.body ≡ true) (for_membership h x beats comes.calm) (takes_calmly (suc h) x comes.calm) in
      ap (λ (t : Step Parts). list_any is_stop t.effects.marks) row_is
      ∙ ap (list_any is_stop) (membership_step p.qmgr x takes).marks

  pub master_kept : (q : MainPart) → (step_by (suc h) s x).state.parts ≡ Main q → IsMasterNear q.master
  master_kept q is =
      let now : Main q ≡ Main (in_qmgr p (qmgr_row p.qmgr x)).state =
      sym is
      ∙ ap (λ (t : Step host.HostBody). t.state.parts) (ease_parts start (suc h) [] s other x alike comes runs)
      ∙ ap (λ (t : Step Parts). t.state) row_is in
      subst (λ (r : MainPart). IsMasterNear r.master)
      (sym (same_main q (in_qmgr p (qmgr_row p.qmgr x)).state now)) main.master
