-- The few forms of what happens to a membership in one step of its host.
use Rattle.std.proofs.Common.{◌≡◌, ◌<◌, ℕ, true, List, [], ◌∷◌, ◌++◌, refl, subst}
use Rattle.std.specs.Prelude.{Option, None, Some}
use Rattle.run_theory.specs.Lists.{IsIn}
use Rattle.sig_core.specs.declared.mark.Mark.TheVariants.{Installed}
use Rattle.sig_core.specs.declared.member.Member.{Member}
use Rattle.sig_core.specs.declared.place.BlockId.{BlockId}
use Rattle.sig_core.specs.declared.place.BlockId.TheVariants as block
use Rattle.sig_core.specs.declared.signal.Signal.{Signal}
use Rattle.sig_core.specs.declared.view.View.{View}
use Rattle.node_views.specs.declared.host_body.HostBody as hosts
use Rattle.node_views.specs.declared.main_part.MainPart.{MainPart}
use Rattle.node_views.specs.declared.parts.Parts.{Parts}
use Rattle.node_views.specs.declared.parts.Parts.TheVariants.{Main}
use Rattle.node_views.specs.Parts.{main_entered, main_settled}
use Rattle.qmgr_block.proofs.Settles.{settles_marks, settles_may}
use Rattle.qmgr_block.specs.Settle.{may_settle, qmgr_settles}
use Rattle.qmgr_block.specs.Laws.{Event, after, installs, takes}
use Rattle.qmgr_block.specs.Qmgr.{qmgr_row}
use Rattle.qmgr_block.specs.State.{QmgrState}
use Rattle.world_core.specs.Start.{NobodyStarts, Start, made}
use Rattle.world_core.specs.Steps.{HostStep}
use Rattle.world_views.specs.Machine as machine
use Rattle.view_laws.specs.HostEvents.{events_at, installing, is_membership, taking}
use Rattle.view_laws.specs.Votes.{main_of, membership_in, membership_of}
use Rattle.view_laws.proofs.follow.Hosts.{hosts_follow}
use Rattle.view_laws.proofs.follow.Steps.{PassesAs, StepsAs, dropped, entering, passed, plain, steps_as}

-- a membership settles where a member has promised, or the arbitrator has granted, and its one mark tells of the view
pub record SettlesOn (q : QmgrState) (x : Signal) (view : View) : Type 0 where
  pub may : may_settle x.body ≡ true
  pub marks : (qmgr_row q x).effects.marks ≡ Installed view ∷ []

pub settles_on : (q : QmgrState) (x : Signal) (view : View) → qmgr_settles q x ≡ Some view → SettlesOn q x view
settles_on q x view e = record { may = settles_may q x view e; marks = settles_marks q x view e }

-- what happens to a membership at a signal: nothing, or it takes it, and the view that it settles on is installed
pub data TakesAs (q : QmgrState) (x : Signal) (events : List Event) : Type 0 where
  leaves : events ≡ [] → TakesAs q x events
  takes_it : x.to.block ≡ block.Qmgr → qmgr_settles q x ≡ None → events ≡ takes x ∷ [] → TakesAs q x events
  settles : (view : View) → x.to.block ≡ block.Qmgr → qmgr_settles q x ≡ Some view
      → events ≡ installs view ∷ takes x ∷ [] → TakesAs q x events

-- and in a step, before it, the greater view of its header
pub data MembershipSteps (q : QmgrState) (view : View) (x : Signal) (events : List Event) : Type 0 where
  taken_plain : TakesAs q x events → MembershipSteps q view x events
  taken_entering : view.number < x.view.number → (later : List Event) → events ≡ later ++ installs x.view ∷ []
      → TakesAs (after q (installs x.view)) x later → MembershipSteps q view x events

main_takes_as : (p : MainPart) (x : Signal) (events : List Event) → PassesAs is_membership (Main p) x events
    → TakesAs p.qmgr x events
main_takes_as p x events (dropped is) = leaves is
main_takes_as p x events (passed is) = by x.to.block refl is
  where
    for_qmgr : (view : Option View) → x.to.block ≡ block.Qmgr → qmgr_settles p.qmgr x ≡ view
        → events ≡ installing is_membership view ++ takes x ∷ [] → TakesAs p.qmgr x events
    for_qmgr None to e is = takes_it to e is
    for_qmgr (Some view) to e is = settles view to e is

    by : (to : BlockId) → x.to.block ≡ to
        → events ≡ installing is_membership (main_settled p to x) ++ taking is_membership x (is_membership to)
        → TakesAs p.qmgr x events
    by block.Qmgr to is = for_qmgr (qmgr_settles p.qmgr x) to refl is
    by _ to is = leaves is

main_steps : (p : MainPart) (view : View) (x : Signal) (events : List Event)
    → StepsAs is_membership (Main p) view x events → MembershipSteps p.qmgr view x events
main_steps p view x events (plain passes) = taken_plain (main_takes_as p x events passes)
main_steps p view x events (entering above later is passes) =
    taken_entering above later is (main_takes_as (main_entered p x.view).state x later passes)

pub membership_steps : (h : ℕ) (s : hosts.HostBody) (q : QmgrState) (x : Signal) → membership_in s.parts ≡ Some q
    → MembershipSteps q s.standing.view x (events_at is_membership h s x)
membership_steps h s q x has = by s.parts has (steps_as is_membership h s x)
  where
    events : List Event
    events = events_at is_membership h s x

    by : (parts : Parts) → membership_in parts ≡ Some q → StepsAs is_membership parts s.standing.view x events
        → MembershipSteps q s.standing.view x events
    by (Main p) has steps =
        let same : p.qmgr ≡ q = cc (has) in
        subst (λ r. MembershipSteps r s.standing.view x events) same (main_steps p s.standing.view x events steps)
    by _ has steps = absurd cc

-- so it is in each step of the host of a member's membership
pub member_steps : (start : Start) (nobody : NobodyStarts start) (member : Member) (log : List HostStep) (x : Signal)
    → IsIn member (made start)
    → MembershipSteps (membership_of start member log) (membership_of start member log).known.layout.view x
    (events_at is_membership (main_of start member) (machine.after start (main_of start member) log) x)
member_steps start nobody member log x there =
    let h = main_of start member in
    let s = machine.after start h log in
    let follows = hosts_follow start nobody member log there in
    subst (λ (view : View). MembershipSteps (membership_of start member log) view x (events_at is_membership h s x))
    follows.view
    (membership_steps h s (membership_of start member log) x follows.state)
