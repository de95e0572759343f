-- Nothing stands between what is told of a closing and the blocks of a host in the first view.
use Rattle.std.proofs.Common.{◌≡◌, ◌==◌, ℕ, true, false, List, nat_lt, refl}
use Rattle.std.proofs.Common.{sym, ap, ◌∙◌}
use Rattle.std.specs.Prelude.{is_some}
use Rattle.std.specs.List.{list_any}
use Rattle.std.proofs.lemmas.Bool.{and_parts, false≢true}
use Rattle.frag_map.specs.Layout.{first_number}
use Rattle.node_core.specs.declared.host.Host as plain
use Rattle.node_core.specs.declared.host.Host.TheVariants as plain_host
use Rattle.node_views.specs.Blocks.{fence_at, parts_row, stop_at}
use Rattle.node_views.specs.Laws.{is_own}
use Rattle.qmgr_block.specs.Settle.{may_settle}
use Rattle.node_views.specs.Row.{blocks_row, hushed, is_stop, settle, with_parts}
use Rattle.node_views.specs.WellFormed.{is_well_formed}
use Rattle.node_views.specs.declared.host_body.HostBody as host
use Rattle.node_views.specs.declared.parts.Parts.{Parts}
use Rattle.node_views.specs.declared.parts.Parts.TheVariants.{Shell, Main, Tc, Ldm}
use Rattle.node_views.proofs.LawLemmas.{calm_hosts_leave_it_to_blocks}
use Rattle.node_views.proofs.StopWalk.{parts_stop}
use Rattle.sig_core.specs.declared.place.BlockId.{BlockId}
use Rattle.sig_core.specs.declared.place.BlockId.TheVariants as block
use Rattle.sig_core.specs.declared.reply.ApiReply.{ApiReply}
use Rattle.sig_core.specs.declared.signal.Body.{Body}
use Rattle.sig_core.specs.declared.signal.Body.TheVariants.{Host, Membership}
use Rattle.sig_core.specs.declared.signal.Signal.{Signal}
use Rattle.sig_core.specs.declared.signal.host.HostSignal.TheVariants.{Kill, Cut, Closed}
use Rattle.sig_core.specs.declared.signal.membership.MembershipSignal.TheVariants.{ArbitConf, PrepFailConf}
use Rattle.sig_core.specs.declared.view.View.{View}
use Rattle.sig_core.specs.Step.{Step}
use Rattle.tc_views.specs.State.{CoordinatorState}
use Rattle.world_core.specs.Start.{Start}
use Rattle.world_views.specs.Machine.{closes, step_by, step_if, stops_by}
use Rattle.calm_laws.specs.Alike.{first}
use Rattle.calm_laws.proofs.plain_steps.Ease.{closes_none, goes_on, if_none, ldm_fence, not_barred, off_by}
use Rattle.calm_laws.proofs.plain_steps.Ease.{settles_none, tc_fence}
use Rattle.peace_laws.specs.Alike.{AreNear, ArePartsNear}
use Rattle.peace_laws.specs.Peace.{asks_by, asks_closing, has_closer, is_closing, is_for_closing}

-- a host handles nothing of a closing itself, and its membership settles on no view
pub record IsForBlocks (body : Body) : Type 0 where
  pub theirs : is_own body ≡ false
  pub settles : may_settle body ≡ false

own_off : (to : BlockId) (body : Body) → is_own body ≡ true → is_for_closing to body ≡ false
own_off block.GcpMaster (Host (Kill after)) is = refl
own_off to (Host (Kill after)) is = refl
own_off block.GcpMaster (Host (Cut node first)) is = refl
own_off to (Host (Cut node first)) is = refl
own_off block.GcpMaster (Host (Closed cause)) is = refl
own_off to (Host (Closed cause)) is = refl
own_off to body is = absurd (false≢true is)

settling_off : (to : BlockId) (body : Body) → may_settle body ≡ true → is_for_closing to body ≡ false
settling_off block.GcpMaster (Membership (PrepFailConf number)) is = refl
settling_off to (Membership (PrepFailConf number)) is = refl
settling_off block.GcpMaster (Membership (ArbitConf number)) is = refl
settling_off to (Membership (ArbitConf number)) is = refl
settling_off to body is = absurd (false≢true is)

own_unasked : (to : BlockId) (body : Body) → is_own body ≡ true → asks_by to body ≡ false
own_unasked block.Api (Host (Kill after)) is = refl
own_unasked to (Host (Kill after)) is = refl
own_unasked block.Api (Host (Cut node first)) is = refl
own_unasked to (Host (Cut node first)) is = refl
own_unasked block.Api (Host (Closed cause)) is = refl
own_unasked to (Host (Closed cause)) is = refl
own_unasked to body is = absurd (false≢true is)

settling_unasked : (to : BlockId) (body : Body) → may_settle body ≡ true → asks_by to body ≡ false
settling_unasked block.Api (Membership (PrepFailConf number)) is = refl
settling_unasked to (Membership (PrepFailConf number)) is = refl
settling_unasked block.Api (Membership (ArbitConf number)) is = refl
settling_unasked to (Membership (ArbitConf number)) is = refl
settling_unasked to body is = absurd (false≢true is)

-- what a host takes of a closing is for a block that it has, which takes it
pub has_its_block : (h : ℕ) (x : Signal) → is_closing h x ≡ true → has_closer h x.to.block ≡ true
has_its_block h x is = (and_parts (has_closer h x.to.block) (is_for_closing x.to.block x.body) is).0

pub takes_it : (h : ℕ) (x : Signal) → is_closing h x ≡ true → is_for_closing x.to.block x.body ≡ true
takes_it h x is = (and_parts (has_closer h x.to.block) (is_for_closing x.to.block x.body) is).1

pub closings_for_blocks : (h : ℕ) (x : Signal) → is_closing h x ≡ true → IsForBlocks x.body
closings_for_blocks h x is = record {
  theirs = off_by (is_own x.body) _ (own_off x.to.block x.body) (takes_it h x is);
  settles = off_by (may_settle x.body) _ (settling_off x.to.block x.body) (takes_it h x is);
}

pub requests_for_blocks : (x : Signal) → asks_closing 0 x ≡ true → IsForBlocks x.body
requests_for_blocks x is = record {
  theirs = off_by (is_own x.body) _ (own_unasked x.to.block x.body) is;
  settles = off_by (may_settle x.body) _ (settling_unasked x.to.block x.body) is;
}

-- no block has a fence above the first view
module _ (number : ℕ) (is : number ≡ first_number) where
  fence_first : (start : Start) (given : List ApiReply) (to : BlockId) (parts : Parts) (other : plain.Host)
      → ArePartsNear start given parts other → fence_at parts to number ≡ first_number
  fence_first start given to (Shell p) (plain_host.Shell a) near = is
  fence_first start given to (Main p) (plain_host.Main m) near = is
  fence_first start given to (Tc p) (plain_host.Tc q) near =
      tc_fence number is p (ap (λ (c : CoordinatorState). c.fence) near.0) near.1.fence to
  fence_first start given to (Ldm p) (plain_host.Ldm s) near = ldm_fence number is p near.1.1 to
  fence_first start given to parts other near = absurd near

module _ (start : Start) (h : ℕ) (given : List ApiReply) (s : host.HostBody) (other : plain.Host) (x : Signal)
    (near : AreNear start given s other) (fine : is_well_formed start.shape x ≡ true) (view : x.view ≡ first start)
    (for_blocks : IsForBlocks x.body) where
  stands : s.standing.view.number ≡ first_number
  stands = ap (λ (view : View). view.number) near.standing.view

  comes : x.view.number ≡ first_number
  comes = ap (λ (view : View). view.number) view

  -- the host takes it as its blocks do,
  pub near_row : step_by h s x ≡ hushed (is_some (stop_at s.parts x)) (with_parts s (parts_row s.parts x))
  unfolding blocks_row
  near_row =
      ap (step_if s x) (if_none (x.from.0 == h) (closes x.body) (closes_none x.body for_blocks.theirs))
      ∙ calm_hosts_leave_it_to_blocks s x (record {
        fine = ap (λ shape. is_well_formed shape x) near.standing.shape ∙ fine;
        lives = near.standing.lives;
        same = ap (λ n. nat_lt n x.view.number) stands ∙ ap (λ n. nat_lt first_number n) comes;
        passes = not_barred x _ comes
            (fence_first s.standing.view.number stands start given x.to.block s.parts other near.parts);
        theirs = for_blocks.theirs;
      })
      ∙ ap (λ view. hushed (is_some (stop_at s.parts x)) (settle (with_parts s (parts_row s.parts x)) view))
      (settles_none s.parts x for_blocks.settles)

  -- and where it goes on sends all that they send
  pub near_parts : stops_by (step_by h s x).effects.marks ≡ false → step_by h s x ≡ with_parts s (parts_row s.parts x)
  near_parts goes =
      near_row
      ∙ goes_on (is_some (stop_at s.parts x)) (with_parts s (parts_row s.parts x))
      (sym (parts_stop s.parts x)
      ∙ (sym (ap (λ (step : Step host.HostBody). list_any is_stop step.effects.marks) near_row) ∙ goes))

  -- so where they don't stop it
  pub near_parts_by : list_any is_stop (parts_row s.parts x).effects.marks ≡ false
      → step_by h s x ≡ with_parts s (parts_row s.parts x)
  near_parts_by goes =
      near_row
      ∙ goes_on (is_some (stop_at s.parts x)) (with_parts s (parts_row s.parts x)) (sym (parts_stop s.parts x) ∙ goes)
