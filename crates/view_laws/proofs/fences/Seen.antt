-- The fence of a block of a host follows its events: a view that is installed raises it, and so does a request for it.
use Rattle.std.proofs.Common.{◌≡◌, Bool, true, false, List, refl, ap, ℕ}
use Rattle.std.specs.Prelude.{Option, None, Some}
use Rattle.sig_core.specs.declared.place.BlockId.{BlockId}
use Rattle.sig_core.specs.declared.place.BlockId.TheVariants as block
use Rattle.sig_core.specs.declared.reply.ApiReply.{ApiReply}
use Rattle.sig_core.specs.declared.signal.Signal.{Signal}
use Rattle.sig_core.specs.declared.view.View.{View}
use Rattle.node_views.specs.Blocks.{fence_at, parts_entered, parts_row}
use Rattle.node_views.specs.declared.host_body.HostBody as hosts
use Rattle.node_views.specs.declared.ldm_part.LdmPart.{LdmPart}
use Rattle.node_views.specs.declared.parts.Parts.{Parts}
use Rattle.node_views.specs.declared.parts.Parts.TheVariants.{Ldm, Main, Shell, Tc}
use Rattle.node_views.specs.declared.tc_part.TcPart.{TcPart}
use Rattle.node_views.specs.Parts.{greater, ldm_row, raised, tc_row}
use Rattle.node_views.specs.Replies.{giving}
use Rattle.node_views.specs.Row.{entered}
use Rattle.qmgr_block.specs.Laws.{Event, installs, takes}
use Rattle.view_laws.specs.HostEvents.{taking}
use Rattle.view_laws.proofs.fences.Rows.{coordinator_enters, coordinator_fence, dih_enters, dih_fence}
use Rattle.view_laws.proofs.follow.Walk.{IsSeen, along}

-- the fence that the parts keep for a block, where they keep one
abbrev pub own_fence : Parts → BlockId → Option ℕ
own_fence (Tc p) block.Tc = Some p.coordinator.fence
own_fence (Tc p) block.Dih = Some p.dih.fence
own_fence (Ldm p) block.Lqh = Some p.fence
own_fence _ _ = None

abbrev pub fence_seen : BlockId → hosts.HostBody → Option ℕ
fence_seen at s = own_fence s.parts at

-- else it is at the view
abbrev pub fence_or : Option ℕ → ℕ → ℕ
fence_or None number = number
fence_or (Some fence) number = fence

pub fence_is : (parts : Parts) (at : BlockId) (number : ℕ)
    → fence_at parts at number ≡ fence_or (own_fence parts at) number
fence_is (Tc p) block.Tc number = refl
fence_is (Tc p) block.Dih number = refl
fence_is (Tc p) _ number = refl
fence_is (Ldm p) block.Lqh number = refl
fence_is (Ldm p) _ number = refl
fence_is (Main p) at number = refl
fence_is (Shell p) at number = refl

-- the signals that a fenced block takes
abbrev pub is_block : BlockId → BlockId → Bool
is_block block.Tc block.Tc = true
is_block block.Dih block.Dih = true
is_block block.Lqh block.Lqh = true
is_block at other = false

abbrev pub to_fence : Option ℕ → Event → Option ℕ
to_fence None event = None
to_fence (Some fence) (takes x) = Some (raised fence x.body)
to_fence (Some fence) (installs view) = Some (greater fence view.number)

no_fence : (at : BlockId) (x : Signal) (mine : Bool) → None ≡ along to_fence None (taking (is_block at) x mine)
no_fence at x true = refl
no_fence at x false = refl

tc_takes : (p : TcPart) (at to : BlockId) (x : Signal)
    → own_fence (Tc (tc_row p to x).state) at
    ≡ along to_fence (own_fence (Tc p) at) (taking (is_block at) x (is_block at to))
unfolding tc_row
tc_takes p block.Tc block.Tc x = ap Some (coordinator_fence p.coordinator x)
tc_takes p block.Tc block.Takeover x = refl
tc_takes p block.Tc block.Dih x = refl
tc_takes p block.Tc _ x = refl
tc_takes p block.Dih block.Tc x = refl
tc_takes p block.Dih block.Takeover x = refl
tc_takes p block.Dih block.Dih x = ap Some (dih_fence p.dih x)
tc_takes p block.Dih _ x = refl
tc_takes p at to x = no_fence at x (is_block at to)

ldm_takes : (p : LdmPart) (at to : BlockId) (x : Signal)
    → own_fence (Ldm (ldm_row p to x).state) at
    ≡ along to_fence (own_fence (Ldm p) at) (taking (is_block at) x (is_block at to))
unfolding ldm_row
ldm_takes p block.Lqh block.Lqh x = refl
ldm_takes p block.Lqh _ x = refl
ldm_takes p at to x = no_fence at x (is_block at to)

fence_takes : (parts : Parts) (at : BlockId) (x : Signal)
    → own_fence (parts_row parts x).state at
    ≡ along to_fence (own_fence parts at) (taking (is_block at) x (is_block at x.to.block))
fence_takes (Shell p) at x = no_fence at x (is_block at x.to.block)
fence_takes (Main p) at x = no_fence at x (is_block at x.to.block)
fence_takes (Tc p) at x = tc_takes p at x.to.block x
fence_takes (Ldm p) at x = ldm_takes p at x.to.block x

fence_enters : (parts : Parts) (at : BlockId) (view : View)
    → own_fence (parts_entered parts view).state at ≡ to_fence (own_fence parts at) (installs view)
fence_enters (Shell p) at view = refl
fence_enters (Main p) at view = refl
fence_enters (Tc p) block.Tc view = ap Some (coordinator_enters p.coordinator view)
fence_enters (Tc p) block.Dih view = ap Some (dih_enters p.dih view.number)
fence_enters (Tc p) _ view = refl
fence_enters (Ldm p) block.Lqh view = refl
fence_enters (Ldm p) _ view = refl

fence_tells : (parts : Parts) (at : BlockId) (replies : List ApiReply)
    → own_fence (giving parts replies) at ≡ own_fence parts at
fence_tells (Shell p) at replies = refl
fence_tells (Main p) at replies = refl
fence_tells (Tc p) at replies = refl
fence_tells (Ldm p) at replies = refl

fence_entered : (at : BlockId) (s : hosts.HostBody) (view : View)
    → fence_seen at (entered s view).state ≡ to_fence (fence_seen at s) (installs view)
unfolding entered
fence_entered at s view = fence_enters s.parts at view

pub fence_is_seen : (at : BlockId) → IsSeen (is_block at) (fence_seen at) to_fence
fence_is_seen at = record {
  enters = fence_entered at;
  takes_by = λ s x. fence_takes s.parts at x;
  stands = λ s standing same. refl;
  tells = λ s replies. fence_tells s.parts at replies;
}
