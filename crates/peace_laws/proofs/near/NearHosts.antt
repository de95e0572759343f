-- Hosts that are near are alike where no closing is under way; and those that are alike are near, and no closing is.
use Rattle.std.proofs.Common.{◌≡◌, ℕ, zero, suc, ◌%◌, List, [], ◌∷◌, Bool, true, false, refl, ap, ap₂, sym, ◌∙◌, subst}
use Rattle.std.specs.Prelude.{Option, None}
use Rattle.std.proofs.lemmas.Bool.{true≢false}
use Rattle.api_views.specs.declared.closings.Closing.{Closing}
use Rattle.api_views.specs.Laws.{calm_state}
use Rattle.api_views.specs.State.{ClientState}
use Rattle.frag_map.specs.Layout.{Layout, first_layout}
use Rattle.node_core.specs.declared.host.Host as plain
use Rattle.node_core.specs.declared.host.Host.TheVariants as plain_host
use Rattle.node_core.specs.Fresh.{fresh_part, fresh_shell}
use Rattle.node_core.specs.Row.{row}
use Rattle.node_views.specs.declared.host_body.HostBody as host
use Rattle.node_views.specs.declared.main_part.MainPart.{MainPart}
use Rattle.node_views.specs.declared.parts.Parts.{Parts}
use Rattle.node_views.specs.declared.parts.Parts.TheVariants.{Shell, Main, Tc, Ldm}
use Rattle.sig_core.specs.declared.member.Member.{Member}
use Rattle.sig_core.specs.declared.place.Part.{Part}
use Rattle.sig_core.specs.declared.place.Part.TheVariants as part
use Rattle.sig_core.specs.declared.reply.ApiReply.{ApiReply}
use Rattle.sig_core.specs.declared.signal.Signal.{Signal}
use Rattle.world_core.specs.Hosts.{member_at, part_by, started}
use Rattle.world_core.specs.Machine as plain_world
use Rattle.world_core.specs.Start.{Start, made}
use Rattle.world_core.specs.Steps.{HostStep}
use Rattle.calm_laws.specs.Alike.{AreAlike, ArePartsAlike}
use Rattle.calm_laws.specs.Plain.{is_beating, is_main}
use Rattle.level_laws.specs.Levels.{host_at, host_sized}
use Rattle.peace_laws.specs.Alike.{AreNear, ArePartsNear, IsMasterNear, RestsOfClosings}

-- a plain host that has a main part
abbrev pub has_main : plain.Host → Bool
has_main (plain_host.Main m) = true
has_main s = false

pub main_stays : (s : plain.Host) (x : Signal) → has_main (row s x).state ≡ has_main s
unfolding row
main_stays (plain_host.Shell s) x = refl
main_stays (plain_host.Main m) x = refl
main_stays (plain_host.Tc p) x = refl
main_stays (plain_host.Ldm s) x = refl

pub main_level : (epoch : ℕ) (s : plain.Host) → has_main (host_at epoch s) ≡ has_main s
main_level epoch (plain_host.Shell s) = refl
main_level epoch (plain_host.Main m) = refl
main_level epoch (plain_host.Tc p) = refl
main_level epoch (plain_host.Ldm s) = refl

main_begins : (of : Part) (member : Member) (layout : Layout) (epoch : ℕ) (rows : List (List ℕ × List ℕ))
    → has_main (fresh_part of member layout epoch rows) ≡ is_main of
unfolding fresh_part
main_begins part.Main member layout epoch rows = refl
main_begins part.Tc member layout epoch rows = refl
main_begins part.Ldm member layout epoch rows = refl

-- which are the ones whose membership beats
pub main_beats : (start : Start) (h : ℕ) (log : List HostStep) → has_main (plain_world.after start h log) ≡ is_beating h
unfolding started fresh_shell
main_beats start zero [] = refl
main_beats start (suc h) [] =
    main_begins (part_by (h % 3)) (member_at (made start) (suc h)) (first_layout start.shape) start.epoch start.rows
main_beats start h (e ∷ log) =
    main_stays (plain_world.after start h log) e.step.taken ∙ main_beats start h log

-- where no closing is under way
parts_alike : (start : Start) (given : List ApiReply) (parts : Parts) (other : plain.Host)
    → ArePartsNear start given parts other → RestsOfClosings parts → ArePartsAlike start given parts other
parts_alike start given (Shell p) (plain_host.Shell a) near rests = (
  near.0
      ∙ ap₂
      (λ (closing : Option Closing) (own : Bool).
      record (calm_state p.client.api start.shape.nodes None) { closing = closing; own = own })
      rests.0 rests.1,
  near.1,
)
parts_alike start given (Main p) (plain_host.Main m) near rests = tt
parts_alike start given (Tc p) (plain_host.Tc q) near rests = (
  near.0,
  record {
    node = near.1.node;
    number = near.1.number;
    fence = near.1.fence;
    current = near.1.current;
    next = rests.0 ∙ near.1.current;
    counted = near.1.counted;
    held = near.1.held;
    order = rests.1;
  },
)
parts_alike start given (Ldm p) (plain_host.Ldm s) near rests = near
parts_alike start given parts other near rests = absurd near

pub near_alike : (start : Start) (given : List ApiReply) (s : host.HostBody) (other : plain.Host)
    → AreNear start given s other → RestsOfClosings s.parts → AreAlike start given s other
near_alike start given s other near rests =
    record { standing = near.standing; parts = parts_alike start given s.parts other near.parts rests }

-- near, and at rest
pub record AreResting (start : Start) (given : List ApiReply) (parts : Parts) (other : plain.Host) : Type 0 where
  pub near : ArePartsNear start given parts other
  pub rests : RestsOfClosings parts

-- of hosts that are alike all but main parts are near; of those it is to be known of what is beside the membership
parts_near : (start : Start) (given : List ApiReply) (parts : Parts) (other : plain.Host)
    → ArePartsAlike start given parts other → ((p : MainPart) → parts ≡ Main p → IsMasterNear p.master)
    → AreResting start given parts other
parts_near start given (Shell p) (plain_host.Shell a) alike master =
    let closing : p.client.closing ≡ None = ap (λ (c : ClientState). c.closing) alike.0 in
    let own : p.client.own ≡ false = ap (λ (c : ClientState). c.own) alike.0 in
    record {
      near = (
        alike.0
            ∙ ap₂
            (λ (closing : Option Closing) (own : Bool).
            record (calm_state p.client.api start.shape.nodes None) { closing = closing; own = own })
            (sym closing) (sym own),
        alike.1,
      );
      rests = (closing, own);
    }
parts_near start given (Main p) (plain_host.Main m) alike master = record { near = master p refl; rests = tt }
parts_near start given (Tc p) (plain_host.Tc q) alike master = record {
  near = (
    alike.0,
    record {
      node = alike.1.node;
      number = alike.1.number;
      fence = alike.1.fence;
      current = alike.1.current;
      counted = alike.1.counted;
      held = alike.1.held;
    },
  );
  rests = (alike.1.next ∙ sym alike.1.current, alike.1.order);
}
parts_near start given (Ldm p) (plain_host.Ldm s) alike master = record { near = alike; rests = tt }
parts_near start given parts other alike master = absurd alike

-- parts beside those of a plain host with no main part are none
no_main : (start : Start) (given : List ApiReply) (parts : Parts) (other : plain.Host)
    → ArePartsAlike start given parts other → has_main other ≡ false → (p : MainPart) → parts ≡ Main p → ⊥
no_main start given parts (plain_host.Main m) alike none p is = true≢false none
no_main start given (Main q) (plain_host.Shell a) alike none p is = absurd alike
no_main start given (Main q) (plain_host.Tc t) alike none p is = absurd alike
no_main start given (Main q) (plain_host.Ldm s) alike none p is = absurd alike
no_main start given parts other alike none p is = absurd cc

pub resting_near : (start : Start) (given : List ApiReply) (s : host.HostBody) (other : plain.Host)
    → AreAlike start given s other → has_main other ≡ false
    → AreNear start given s other × RestsOfClosings s.parts
resting_near start given s other alike none =
    let both : AreResting start given s.parts other =
    parts_near start given s.parts other alike.parts
    (λ p is. absurd (no_main start given s.parts other alike.parts none p is)) in
    (record { standing = alike.standing; parts = both.near }, both.rests)

pub resting_main : (start : Start) (given : List ApiReply) (s : host.HostBody) (other : plain.Host)
    → AreAlike start given s other → ((p : MainPart) → s.parts ≡ Main p → IsMasterNear p.master)
    → AreNear start given s other × RestsOfClosings s.parts
resting_main start given s other alike master =
    let both : AreResting start given s.parts other = parts_near start given s.parts other alike.parts master in
    (record { standing = alike.standing; parts = both.near }, both.rests)

-- a life that begins without rows begins in one epoch
none_level : (of : Part) (member : Member) (layout : Layout) (epoch : ℕ)
    → host_sized (fresh_part of member layout epoch []) ≡ host_at epoch (fresh_part of member layout epoch [])
unfolding fresh_part
none_level part.Main member layout epoch = refl
none_level part.Tc member layout epoch = refl
none_level part.Ldm member layout epoch = refl

part_level : (of : Part) (member : Member) (layout : Layout) (epoch : ℕ) (rows : List (List ℕ × List ℕ)) → rows ≡ []
    → host_sized (fresh_part of member layout epoch rows) ≡ host_at epoch (fresh_part of member layout epoch rows)
part_level of member layout epoch rows none =
    subst
    (λ those. host_sized (fresh_part of member layout epoch those)
    ≡ host_at epoch (fresh_part of member layout epoch those))
    (sym none) (none_level of member layout epoch)

pub begin_level : (start : Start) (h : ℕ) → start.rows ≡ []
    → host_sized (started start h) ≡ host_at start.epoch (started start h)
unfolding started fresh_shell
begin_level start zero none = refl
begin_level start (suc h) none =
    part_level (part_by (h % 3)) (member_at (made start) (suc h)) (first_layout start.shape) start.epoch start.rows none
