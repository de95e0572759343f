-- What is so of the events of the membership of one node, in each run.
use Rattle.std.specs.Prelude.{◌≤◌, List}
use Rattle.frag_map.specs.Layout.{Layout}
use Rattle.run_theory.specs.Lists.{Each, IsIn}
use Rattle.sig_core.specs.declared.member.Member.{Member}
use Rattle.sig_core.specs.declared.signal.Body.{Body}
use Rattle.sig_core.specs.declared.signal.Body.TheVariants.{Joining, Membership}
use Rattle.sig_core.specs.declared.signal.joining.JoiningSignal.TheVariants.{StartReq}
use Rattle.sig_core.specs.declared.signal.membership.MembershipSignal.TheVariants.{PrepFailReq}
use Rattle.sig_core.specs.declared.view.View.{View}
use Rattle.qmgr_block.specs.Laws.{Event, installs, takes}
use Rattle.view_laws.specs.Sets.{AreApart, all_of}

-- a set of members of the nodes 1 to 8, no two of one node
pub record IsSet (set : View) : Type 0 where
  pub apart : AreApart (all_of set)
  pub nodes : Each (λ member. member.node ≤ 8) (all_of set)

-- a member is asked to promise such a set, of which it is, and who asks to join is of such a node
abbrev pub IsSound : Member → Body → Type 0
IsSound me (Membership (PrepFailReq set)) = IsSet set × IsIn me (all_of set)
IsSound me (Joining (StartReq member own)) = (1 ≤ member.node) × (member.node ≤ 8)
IsSound me _ = Unit {0}

-- what is installed is such a set
abbrev pub IsOrderly : Member → Event → Type 0
IsOrderly me (takes x) = IsSound me x.body
IsOrderly me (installs view) = IsSet view

-- so is the first view, and each event is orderly
pub record AreOrderlyEvents (me : Member) (layout : Layout) (events : List Event) : Type 0 where
  pub first : IsSet layout.view
  pub each : Each (IsOrderly me) events
