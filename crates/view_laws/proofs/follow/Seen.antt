-- The membership of a host, its arbitrator and the view that it stands in follow its events.
use Rattle.std.proofs.Common.{◌≡◌, Bool, true, false, List, [], ◌∷◌, refl, ap, ◌∙◌}
use Rattle.std.specs.Prelude.{Option, None, Some}
use Rattle.frag_map.specs.Layout.{Layout}
use Rattle.sig_core.specs.declared.member.Member.{Member}
use Rattle.sig_core.specs.declared.place.BlockId.{BlockId}
use Rattle.sig_core.specs.declared.place.BlockId.TheVariants as block
use Rattle.sig_core.specs.declared.reply.ApiReply.{ApiReply}
use Rattle.sig_core.specs.declared.signal.Signal.{Signal}
use Rattle.sig_core.specs.declared.view.View.{View}
use Rattle.arbiter_block.specs.Arbiter.{ArbiterState, arbiter_row}
use Rattle.node_views.specs.Blocks.{parts_entered, parts_row}
use Rattle.node_views.specs.declared.host_body.HostBody as hosts
use Rattle.node_views.specs.declared.main_part.MainPart.{MainPart}
use Rattle.node_views.specs.declared.parts.Parts.{Parts}
use Rattle.node_views.specs.declared.parts.Parts.TheVariants.{Ldm, Main, Shell, Tc}
use Rattle.node_views.specs.declared.shell_part.ShellPart.{ShellPart}
use Rattle.node_views.specs.Parts.{main_row, shell_row}
use Rattle.node_views.specs.Replies.{giving}
use Rattle.node_views.specs.Row.{entered}
use Rattle.qmgr_block.specs.Laws.{Event, after, installs, takes}
use Rattle.qmgr_block.specs.State.{QmgrState, fresh_qmgr}
use Rattle.view_laws.specs.Grants.{arbiter_of}
use Rattle.view_laws.specs.HostEvents.{is_arbiter, is_membership, taken_in, taking}
use Rattle.view_laws.specs.Members.{state_of}
use Rattle.view_laws.specs.Votes.{arbiter_in, membership_in}
use Rattle.view_laws.proofs.memberships.AlongEvents.{steps}
use Rattle.view_laws.proofs.follow.Walk.{IsSeen, along}
use Rattle.view_laws.proofs.memberships.Steps.{row_installs}

-- the membership, where there is one
abbrev pub membership_seen : hosts.HostBody → Option QmgrState
membership_seen s = membership_in s.parts

abbrev pub to_membership : Option QmgrState → Event → Option QmgrState
to_membership None event = None
to_membership (Some q) event = Some (after q event)

pub membership_enters : (parts : Parts) (view : View)
    → membership_in (parts_entered parts view).state ≡ to_membership (membership_in parts) (installs view)
membership_enters (Shell p) view = refl
membership_enters (Main p) view = refl
membership_enters (Tc p) view = refl
membership_enters (Ldm p) view = refl

no_membership : (x : Signal) (mine : Bool) → None ≡ along to_membership None (taking is_membership x mine)
no_membership x true = refl
no_membership x false = refl

main_takes : (p : MainPart) (to : BlockId) (x : Signal)
    → Some (main_row p to x).state.qmgr ≡ along to_membership (Some p.qmgr) (taking is_membership x (is_membership to))
unfolding main_row
main_takes p block.Qmgr x = refl
main_takes p block.GcpMaster x = refl
main_takes p _ x = refl

membership_takes : (parts : Parts) (x : Signal)
    → membership_in (parts_row parts x).state
    ≡ along to_membership (membership_in parts) (taking is_membership x (is_membership x.to.block))
membership_takes (Shell p) x = no_membership x (is_membership x.to.block)
membership_takes (Main p) x = main_takes p x.to.block x
membership_takes (Tc p) x = no_membership x (is_membership x.to.block)
membership_takes (Ldm p) x = no_membership x (is_membership x.to.block)

membership_tells : (parts : Parts) (replies : List ApiReply)
    → membership_in (giving parts replies) ≡ membership_in parts
membership_tells (Shell p) replies = refl
membership_tells (Main p) replies = refl
membership_tells (Tc p) replies = refl
membership_tells (Ldm p) replies = refl

membership_entered : (s : hosts.HostBody) (view : View)
    → membership_seen (entered s view).state ≡ to_membership (membership_seen s) (installs view)
unfolding entered
membership_entered s view = membership_enters s.parts view

pub membership_is_seen : IsSeen is_membership membership_seen to_membership
membership_is_seen = record {
  enters = membership_entered;
  takes_by = λ s x. membership_takes s.parts x;
  stands = λ s standing same. refl;
  tells = λ s replies. membership_tells s.parts replies;
}

pub some_membership : (me : Member) (layout : Layout) (events : List Event)
    → along to_membership (Some (fresh_qmgr me layout)) events ≡ Some (state_of me layout events)
some_membership me layout [] = refl
some_membership me layout (event ∷ events) = ap (λ q. to_membership q event) (some_membership me layout events)

-- the arbitrator, where there is one
abbrev pub arbiter_seen : hosts.HostBody → Option ArbiterState
arbiter_seen s = arbiter_in s.parts

abbrev pub to_arbiter : Option ArbiterState → Event → Option ArbiterState
to_arbiter None event = None
to_arbiter (Some a) (takes x) = Some (arbiter_row a x).state
to_arbiter (Some a) (installs view) = Some a

arbiter_enters : (parts : Parts) (view : View)
    → arbiter_in (parts_entered parts view).state ≡ to_arbiter (arbiter_in parts) (installs view)
arbiter_enters (Shell p) view = refl
arbiter_enters (Main p) view = refl
arbiter_enters (Tc p) view = refl
arbiter_enters (Ldm p) view = refl

no_arbiter : (x : Signal) (mine : Bool) → None ≡ along to_arbiter None (taking is_arbiter x mine)
no_arbiter x true = refl
no_arbiter x false = refl

shell_takes : (p : ShellPart) (to : BlockId) (x : Signal)
    → Some (shell_row p to x).state.arbiter ≡ along to_arbiter (Some p.arbiter) (taking is_arbiter x (is_arbiter to))
unfolding shell_row
shell_takes p block.Api x = refl
shell_takes p block.Arbiter x = refl
shell_takes p _ x = refl

arbiter_takes : (parts : Parts) (x : Signal)
    → arbiter_in (parts_row parts x).state
    ≡ along to_arbiter (arbiter_in parts) (taking is_arbiter x (is_arbiter x.to.block))
arbiter_takes (Shell p) x = shell_takes p x.to.block x
arbiter_takes (Main p) x = no_arbiter x (is_arbiter x.to.block)
arbiter_takes (Tc p) x = no_arbiter x (is_arbiter x.to.block)
arbiter_takes (Ldm p) x = no_arbiter x (is_arbiter x.to.block)

arbiter_tells : (parts : Parts) (replies : List ApiReply) → arbiter_in (giving parts replies) ≡ arbiter_in parts
arbiter_tells (Shell p) replies = refl
arbiter_tells (Main p) replies = refl
arbiter_tells (Tc p) replies = refl
arbiter_tells (Ldm p) replies = refl

arbiter_entered : (s : hosts.HostBody) (view : View)
    → arbiter_seen (entered s view).state ≡ to_arbiter (arbiter_seen s) (installs view)
unfolding entered
arbiter_entered s view = arbiter_enters s.parts view

pub arbiter_is_seen : IsSeen is_arbiter arbiter_seen to_arbiter
arbiter_is_seen = record {
  enters = arbiter_entered;
  takes_by = λ s x. arbiter_takes s.parts x;
  stands = λ s standing same. refl;
  tells = λ s replies. arbiter_tells s.parts replies;
}

pub some_arbiter : (members : List Member) (events : List Event)
    → along to_arbiter (Some (arbiter_of members [])) events ≡ Some (arbiter_of members (taken_in events))
some_arbiter members [] = refl
some_arbiter members (takes x ∷ events) = ap (λ a. to_arbiter a (takes x)) (some_arbiter members events)
some_arbiter members (installs view ∷ events) =
    ap (λ a. to_arbiter a (installs view)) (some_arbiter members events)

-- the view that the host stands in
abbrev pub view_seen : hosts.HostBody → View
view_seen s = s.standing.view

abbrev pub to_view : View → Event → View
to_view view (takes x) = view
to_view view (installs other) = other

pub view_takes : (mine : BlockId → Bool) (view : View) (x : Signal) (own : Bool)
    → view ≡ along to_view view (taking mine x own)
view_takes mine view x true = refl
view_takes mine view x false = refl

view_entered : (s : hosts.HostBody) (view : View) → view_seen (entered s view).state ≡ view
unfolding entered
view_entered s view = refl

pub view_is_seen : (mine : BlockId → Bool) → IsSeen mine view_seen to_view
view_is_seen mine = record {
  enters = view_entered;
  takes_by = λ s x. view_takes mine s.standing.view x (mine x.to.block);
  stands = λ s standing same. same;
  tells = λ s replies. refl;
}

-- the membership knows the view that was installed last
event_view : (q : QmgrState) (event : Event) → (after q event).known.layout.view ≡ to_view q.known.layout.view event
event_view q (takes x) = ap (λ (layout : Layout). layout.view) (steps q x).layout
event_view q (installs view) = ap (λ (layout : Layout). layout.view) (row_installs q.known view).layout

pub known_view : (me : Member) (layout : Layout) (events : List Event)
    → (state_of me layout events).known.layout.view ≡ along to_view layout.view events
known_view me layout [] = refl
known_view me layout (event ∷ events) =
    event_view (state_of me layout events) event ∙ ap (λ v. to_view v event) (known_view me layout events)
