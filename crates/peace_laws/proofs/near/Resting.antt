-- A host at which no closing is under way stays so at a calm step, and in its epoch: no closing is asked for, its
-- master of checkpoints does nothing, and its node gives the same epoch.
use Rattle.std.proofs.Common.{◌≡◌, ℕ, zero, suc, List, [], Bool, true, false, refl, ap, sym, ◌∙◌, subst}
use Rattle.std.specs.Prelude.{None}
use Rattle.std.proofs.lemmas.Bool.{false≢true}
use Rattle.api_views.specs.State.{ClientState}
use Rattle.dih_node.specs.State as views
use Rattle.node_core.proofs.DihForms.{dih_forms}
use Rattle.node_core.specs.declared.host.Host as plain_host
use Rattle.node_core.specs.declared.host.Host.TheVariants as plain
use Rattle.node_core.specs.declared.tc_part.TcPart as plain_part
use Rattle.node_core.specs.Dih.{DihState, dih_table}
use Rattle.node_core.specs.Row.{row, tc_part_row}
use Rattle.node_views.specs.Blocks.{in_main, parts_row}
use Rattle.node_views.specs.Parts.{main_row}
use Rattle.node_views.specs.declared.host_body.HostBody as host
use Rattle.node_views.specs.declared.parts.Parts.{Parts}
use Rattle.node_views.specs.declared.parts.Parts.TheVariants.{Shell, Main, Tc, Ldm}
use Rattle.sig_core.specs.declared.place.BlockId.{BlockId}
use Rattle.sig_core.specs.declared.place.BlockId.TheVariants as block
use Rattle.sig_core.specs.declared.reply.ApiReply.{ApiReply}
use Rattle.sig_core.specs.declared.signal.Body.{Body}
use Rattle.sig_core.specs.declared.signal.Signal.{Signal}
use Rattle.sig_core.specs.Step.{Step}
use Rattle.world_core.specs.Start.{Start}
use Rattle.world_views.specs.Machine.{step_by, told}
use Rattle.calm_laws.specs.Alike.{AreAlike, ArePartsAlike}
use Rattle.calm_laws.specs.Plain.{is_beating}
use Rattle.calm_laws.specs.Steps.{ComesCalmly}
use Rattle.calm_laws.proofs.plain_steps.Ease.{blocks_alone, ease_row, has_calm_block}
use Rattle.calm_laws.proofs.places.FineSends.{beating_block}
use Rattle.peace_laws.specs.Alike.{ArePartsNear, RestsOfClosings}
use Rattle.peace_laws.specs.Rest.{MasterRestsIn, RestsIn}
use Rattle.peace_laws.proofs.near.NearHosts.{has_main}

-- a node gives this epoch, and isn't prepared for another one
pub record GivesOn (epoch : ℕ) (s : views.DihState) : Type 0 where
  pub current : s.current ≡ epoch
  pub next : s.next ≡ epoch
  pub held : s.held ≡ []
  pub order : s.order ≡ None

-- a part of host h is at rest in this epoch, but for the transactions that are counted
abbrev pub StaysIn : Start → ℕ → ℕ → Parts → Type 0
StaysIn start h epoch (Shell p) = (p.client.closing ≡ None) × (p.client.own ≡ false)
StaysIn start h epoch (Main p) = MasterRestsIn start h epoch p.master
StaysIn start h epoch (Tc p) = GivesOn epoch p.dih
StaysIn start h epoch (Ldm p) = Unit {0}

-- so it is of a part at rest, and no closing is under way at such a part
pub rests_stays : (start : Start) (h epoch : ℕ) (parts : Parts) → RestsIn start h epoch parts
    → StaysIn start h epoch parts
rests_stays start h epoch (Shell p) rests = rests
rests_stays start h epoch (Main p) rests = rests
rests_stays start h epoch (Tc p) rests =
    record { current = rests.current; next = rests.next; held = rests.held; order = rests.order }
rests_stays start h epoch (Ldm p) rests = tt

-- and a part that counts nobody is at rest again
abbrev pub CountsNobody : Parts → Type 0
CountsNobody (Tc p) = p.dih.counted ≡ []
CountsNobody parts = Unit {0}

pub stays_rests : (start : Start) (h epoch : ℕ) (parts : Parts) → StaysIn start h epoch parts → CountsNobody parts
    → RestsIn start h epoch parts
stays_rests start h epoch (Shell p) stays none = stays
stays_rests start h epoch (Main p) stays none = stays
stays_rests start h epoch (Tc p) stays none =
    record { current = stays.current; next = stays.next; counted = none; held = stays.held; order = stays.order }
stays_rests start h epoch (Ldm p) stays none = tt

pub stays_closeless : (start : Start) (h epoch : ℕ) (parts : Parts) → StaysIn start h epoch parts
    → RestsOfClosings parts
stays_closeless start h epoch (Shell p) stays = stays
stays_closeless start h epoch (Main p) stays = tt
stays_closeless start h epoch (Tc p) stays = (stays.next ∙ sym stays.current, stays.order)
stays_closeless start h epoch (Ldm p) stays = tt

-- the parts are those of a main part of a node
abbrev pub has_main_part : Parts → Bool
has_main_part (Main p) = true
has_main_part parts = false

-- a plain host gives this epoch
abbrev pub Gives : ℕ → plain_host.Host → Type 0
Gives epoch (plain.Tc q) = q.dih.epoch ≡ epoch
Gives epoch s = Unit {0}

-- and goes on to do so
epoch_stays : (s : DihState) (body : Body) → (dih_table s body).state.epoch ≡ s.epoch
epoch_stays s =
    dih_forms (λ body step. step.state.epoch ≡ s.epoch) s (record {
      decides = λ tx ops low. refl;
      is_full = λ tx ops high. refl;
      ends = λ tx at there. refl;
      misses = λ tx none. refl;
      rests = λ body off. refl;
    })

part_gives : (epoch : ℕ) (p : plain_part.TcPart) (to : BlockId) (x : Signal) → p.dih.epoch ≡ epoch
    → (tc_part_row p to x).state.dih.epoch ≡ epoch
unfolding tc_part_row
part_gives epoch p block.Dih x gives = epoch_stays p.dih x.body ∙ gives
part_gives epoch p block.Tc x gives = gives
part_gives epoch p to x gives = gives

row_gives : (epoch : ℕ) (s : plain_host.Host) (x : Signal) → Gives epoch s → Gives epoch (row s x).state
unfolding row
row_gives epoch (plain.Tc p) x gives = part_gives epoch p x.to.block x gives
row_gives epoch (plain.Shell a) x gives = tt
row_gives epoch (plain.Main m) x gives = tt
row_gives epoch (plain.Ldm s) x gives = tt

-- a plain host near a host that stays in an epoch gives it
pub near_gives : (start : Start) (given : List ApiReply) (h epoch : ℕ) (parts : Parts) (other : plain_host.Host)
    → ArePartsNear start given parts other → StaysIn start h epoch parts → Gives epoch other
near_gives start given h epoch (Tc p) (plain.Tc q) near stays = sym near.1.current ∙ stays.current
near_gives start given h epoch parts (plain.Shell a) near stays = tt
near_gives start given h epoch parts (plain.Main m) near stays = tt
near_gives start given h epoch parts (plain.Ldm s) near stays = tt
near_gives start given h epoch (Shell p) (plain.Tc q) near stays = absurd near
near_gives start given h epoch (Main p) (plain.Tc q) near stays = absurd near
near_gives start given h epoch (Ldm p) (plain.Tc q) near stays = absurd near

-- and a host that is alike one that gives it stays in it, unless it is a main part
alike_stays : (start : Start) (given : List ApiReply) (h epoch : ℕ) (parts : Parts) (other : plain_host.Host)
    → ArePartsAlike start given parts other → has_main other ≡ false → Gives epoch other → StaysIn start h epoch parts
alike_stays start given h epoch (Shell p) (plain.Shell a) alike none gives = (
  ap (λ (c : ClientState). c.closing) alike.0,
  ap (λ (c : ClientState). c.own) alike.0,
)
alike_stays start given h epoch (Tc p) (plain.Tc q) alike none gives =
    record {
      current = alike.1.current ∙ gives;
      next = alike.1.next ∙ gives;
      held = alike.1.held;
      order = alike.1.order;
    }
alike_stays start given h epoch (Ldm p) (plain.Ldm s) alike none gives = tt
alike_stays start given h epoch parts (plain.Main m) alike none gives = absurd (false≢true (sym none))
alike_stays start given h epoch parts other alike none gives = absurd alike

module _ (start : Start) (h epoch : ℕ) where
  -- a step of a host that is no main part
  pub part_stays : (given now : List ApiReply) (s next : host.HostBody) (other : plain_host.Host) (x : Signal)
      → ArePartsNear start given s.parts other → StaysIn start h epoch s.parts
      → AreAlike start now next (row other x).state → has_main (row other x).state ≡ false
      → StaysIn start h epoch next.parts
  part_stays given now s next other x near stays alike none =
      alike_stays start now h epoch next.parts (row other x).state alike.parts none
      (row_gives epoch other x (near_gives start given h epoch s.parts other near stays))

  -- and one of a main part, which does something for its membership
  told_parts : (k : ℕ) (t : Step host.HostBody) → is_beating k ≡ true → told k t ≡ t.state
  told_parts zero t beats = absurd (false≢true beats)
  told_parts (suc k) t beats = refl

  membership_stays : (parts : Parts) (x : Signal) → x.to.block ≡ block.Qmgr → has_main_part parts ≡ true
      → StaysIn start h epoch parts → StaysIn start h epoch (parts_row parts x).state
  unfolding main_row
  membership_stays (Main p) x at main stays =
      subst (λ to. StaysIn start h epoch (in_main (main_row p to x)).state) (sym at) stays
  membership_stays (Shell p) x at main stays = absurd (false≢true main)
  membership_stays (Tc p) x at main stays = absurd (false≢true main)
  membership_stays (Ldm p) x at main stays = absurd (false≢true main)

  alike_main : (given : List ApiReply) (parts : Parts) (other : plain_host.Host)
      → ArePartsAlike start given parts other → has_main other ≡ true → has_main_part parts ≡ true
  alike_main given (Main p) (plain.Main m) alike main = refl
  alike_main given (Shell p) (plain.Main m) alike main = absurd alike
  alike_main given (Tc p) (plain.Main m) alike main = absurd alike
  alike_main given (Ldm p) (plain.Main m) alike main = absurd alike
  alike_main given parts (plain.Shell a) alike main = absurd (false≢true main)
  alike_main given parts (plain.Tc q) alike main = absurd (false≢true main)
  alike_main given parts (plain.Ldm s) alike main = absurd (false≢true main)

  pub main_stays_in : (s : host.HostBody) (other : plain_host.Host) (x : Signal) → is_beating h ≡ true
      → AreAlike start [] s other → has_main other ≡ true → ComesCalmly start h x → StaysIn start h epoch s.parts
      → StaysIn start h epoch (told h (step_by h s x)).parts
  main_stays_in s other x beats alike main calm stays =
      subst (λ (next : host.HostBody). StaysIn start h epoch next.parts) (sym (told_parts h (step_by h s x) beats))
      (subst (λ (t : Step host.HostBody). StaysIn start h epoch t.state.parts)
      (sym (ease_row start h [] s other x alike calm))
      (subst (λ (t : Step host.HostBody). StaysIn start h epoch t.state.parts) (sym (blocks_alone h s x calm.calm))
      (membership_stays s.parts x (beating_block h x.to.block beats (has_calm_block h x calm.calm))
      (alike_main [] s.parts other alike.parts main) stays)))
