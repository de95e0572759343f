-- A host at ease sends each thing that a plain host sends to the host of its place.
use Rattle.std.proofs.Common.{◌≡◌, ℕ, List, [], ◌∷◌, ◌++◌, false, refl, ap, ap₂, ◌∙◌}
use Rattle.std.specs.Prelude.{◌==◌, ◌&&◌, ◌||◌}
use Rattle.std.specs.List.{list_any}
use Rattle.std.proofs.lemmas.Bool.{and_right}
use Rattle.node_views.specs.declared.standing.Standing.{Standing}
use Rattle.node_views.specs.Row.{is_one_of}
use Rattle.run_theory.specs.Links.{sent}
use Rattle.run_theory.specs.Lists.{Each}
use Rattle.sig_core.specs.declared.member.HostId.{HostId}
use Rattle.sig_core.specs.declared.outs.Outgoing.{Outgoing}
use Rattle.sig_core.specs.declared.place.Place.{Place}
use Rattle.world_core.specs.Hosts.{host_for}
use Rattle.world_core.specs.Start.{NobodyStarts, Start, made}
use Rattle.world_views.specs.Hosts.{reached}
use Rattle.world_views.specs.Sending.{Routed, is_kept_back, is_own_work, routed}
use Rattle.world_views.specs.Sending.{routed_all, routed_if}
use Rattle.calm_laws.specs.Alike.{IsAtEase}
use Rattle.calm_laws.specs.Steps.{IsPlainSend}
use Rattle.calm_laws.proofs.places.Reached.{reached_first}

-- things that are sent, each to the host of its place
abbrev pub plainly : Start → List Outgoing → List Routed
plainly start [] = []
plainly start (sent ∷ more) = routed (host_for start sent.to) sent ∷ plainly start more

-- A host at ease keeps back none of what a plain host sends.
module _ (start : Start) (h : ℕ) (standing : Standing) (ease : IsAtEase start standing) where
  pub here : NobodyStarts start → (to : Place) → reached (made start) h standing.view to ≡ host_for start to
  here nobody to = ap (λ view. reached (made start) h view to) ease.view ∙ reached_first start nobody h to

  pub kept : (to : ℕ) (sent : Outgoing) → is_own_work sent.body ≡ false → is_kept_back h standing to sent ≡ false
  kept to sent plain =
      ap (λ (cut : List HostId). list_any (is_one_of (record { 0 = to })) cut || ((to == h) && is_own_work sent.body))
      ease.uncut
      ∙ and_right (to == h) (is_own_work sent.body) plain

  pub routed_alike : NobodyStarts start → (sends rounds : List Outgoing) → Each (IsPlainSend h) sends
      → routed_all (made start) h standing (sends ++ rounds)
      ≡ plainly start sends ++ routed_all (made start) h standing rounds
  routed_alike nobody [] rounds all = refl
  routed_alike nobody (sent ∷ more) rounds all =
      ap (λ b.
      routed_if b (routed (reached (made start) h standing.view sent.to) sent)
      (routed_all (made start) h standing (more ++ rounds)))
      (kept (reached (made start) h standing.view sent.to) sent all.0.work)
      ∙ ap₂ (λ to rs. routed to sent ∷ rs) (here nobody sent.to) (routed_alike nobody more rounds all.1)
