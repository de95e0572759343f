-- Where nothing is under way in peace, no node counts a transaction: nothing is under way in the plain machine.
use Rattle.std.proofs.Common.{◌≡◌, ◌<◌, ℕ, true, List, [], ◌∷◌, refl, sym, ◌∙◌, subst}
use Rattle.std.specs.Prelude.{map}
use Rattle.frag_map.specs.Shape.{IsShape}
use Rattle.dih_node.specs.declared.dih.Counted.{Counted}
use Rattle.node_core.specs.Blocks.{dih_of, has_tc}
use Rattle.node_core.specs.declared.host.Host as plain_host
use Rattle.node_core.specs.declared.host.Host.TheVariants as kind
use Rattle.node_views.specs.declared.parts.Parts.{Parts}
use Rattle.node_views.specs.declared.parts.Parts.TheVariants.{Shell, Main, Tc, Ldm}
use Rattle.sig_core.specs.declared.reply.ApiReply.{ApiReply}
use Rattle.world_core.proofs.HostNumbers.{IsNodes, tc_found}
use Rattle.world_core.specs.Hosts.{first_hosts, tc_host}
use Rattle.world_core.specs.Machine as plain
use Rattle.world_core.specs.Start.{Start}
use Rattle.world_core.specs.Steps.{HostStep}
use Rattle.world_views.specs.Machine.{after}
use Rattle.world_views.specs.Right.{replies_in}
use Rattle.answer_laws.specs.Answered.{AreQuiet}
use Rattle.calm_laws.specs.Alike.{tx_of}
use Rattle.level_laws.specs.Levels.{host_at}
use Rattle.peace_laws.specs.Alike.{ArePartsNear}
use Rattle.peace_laws.specs.Parts.{plain_part, plain_parts, plain_replies}
use Rattle.peace_laws.proofs.near.Mirrored.{IsMirrored, level_same}
use Rattle.peace_laws.proofs.plain.NoneCounted.{none_counted}
use Rattle.peace_laws.proofs.near.Resting.{CountsNobody}
use Rattle.peace_laws.proofs.plain.Logs.{mirrored, quiet_plain, right, within}
use Rattle.peace_laws.proofs.lives.Stands.{Stands, has}
use Rattle.peace_laws.proofs.near.PartKinds.{tc_level}
use Rattle.world_views.specs.Quiet.{IsQuiet}

module _ (start : Start) (shape : IsShape start.shape) (logs : ℕ → List HostStep) (stands : Stands start logs)
    (quiet : IsQuiet start logs) where
  plainly : AreQuiet start (plain_parts start logs)
  plainly =
      record {
        shape = shape;
        right = right start stands.es logs (has start logs stands) stands.kept;
        within = within start stands.es logs (has start logs stands) stands.kept stands.within;
        quiet = quiet_plain start stands.es logs (has start logs stands) stands.kept stands.running quiet;
      }

  plain_counts_nobody : (h : ℕ) → h < first_hosts start
      → has_tc (plain.after start h (plain_part start h (logs h))) ≡ true
      → (dih_of (plain.after start h (plain_part start h (logs h)))).counted ≡ []
  plain_counts_nobody h low runs =
      let found : IsNodes start (tc_host start) h =
      tc_found start h (plain_part start h (logs h)) low runs in
      subst (λ k. (dih_of (plain.after start k (plain_part start k (logs k)))).counted ≡ []) (sym found.is)
      (none_counted start (plain_parts start logs) plainly found.node found.some found.low)

  counts_level : (epoch : ℕ) (s : plain_host.Host) → (dih_of (host_at epoch s)).counted ≡ (dih_of s).counted
  counts_level epoch (kind.Shell s) = refl
  counts_level epoch (kind.Main m) = refl
  counts_level epoch (kind.Tc p) = refl
  counts_level epoch (kind.Ldm s) = refl

  nobody : (counted : List Counted) → map tx_of counted ≡ [] → counted ≡ []
  nobody [] is = refl
  nobody (one ∷ more) is = absurd cc

  near_counts : (given : List ApiReply) (those : Parts) (other : plain_host.Host)
      → ArePartsNear start given those other → (has_tc other ≡ true → (dih_of other).counted ≡ [])
      → CountsNobody those
  near_counts given (Tc p) (kind.Tc q) near none = nobody p.dih.counted (near.1.counted ∙ none refl)
  near_counts given (Tc p) (kind.Shell a) near none = absurd near
  near_counts given (Tc p) (kind.Main m) near none = absurd near
  near_counts given (Tc p) (kind.Ldm s) near none = absurd near
  near_counts given (Shell p) other near none = tt
  near_counts given (Main p) other near none = tt
  near_counts given (Ldm p) other near none = tt

  pub counts_nobody : (h : ℕ) → h < first_hosts start → CountsNobody (after start h (logs h)).parts
  counts_nobody h low =
      let m : IsMirrored start h (logs h) = mirrored start stands.es logs (has start logs stands) stands.kept h in
      near_counts (plain_replies (replies_in start h (logs h))) (after start h (logs h)).parts m.inner m.near.parts
      (λ runs.
      sym (counts_level start.epoch m.inner)
      ∙ sym (level_same start h (logs h) m (λ s. (dih_of s).counted) (λ s. refl))
      ∙ plain_counts_nobody h low
      (level_same start h (logs h) m has_tc (λ s. refl) ∙ tc_level start.epoch m.inner ∙ runs))
