-- What holds of the membership of a node along whatever it takes and installs.
use Rattle.std.specs.Prelude.{◌≡◌, ◌<◌, ◌≤◌, true, List, [], ◌∷◌}
use Rattle.frag_map.specs.Layout.{Layout}
use Rattle.sig_core.specs.declared.member.Member.{Member}
use Rattle.sig_core.specs.declared.outs.Outgoing.{Outgoing}
use Rattle.sig_core.specs.declared.signal.Body.{Body}
use Rattle.sig_core.specs.declared.signal.Body.TheVariants.{Membership}
use Rattle.sig_core.specs.declared.signal.Signal.{Signal}
use Rattle.sig_core.specs.declared.signal.membership.MembershipSignal.TheVariants.{PrepFailReq}
use Rattle.sig_core.specs.declared.view.View.{View}
use Rattle.qmgr_block.specs.declared.known.Known.{Known}
use Rattle.qmgr_block.specs.Qmgr.{qmgr_installed, qmgr_row}
use Rattle.qmgr_block.specs.Starts.{covers}
use Rattle.qmgr_block.specs.State.{QmgrState, fresh_qmgr}

-- what happens to the block: it takes a signal, or its host installs a view
pub data Event : Type 0 where
  takes : Signal → Event
  installs : View → Event

-- the block after it
abbrev pub after : QmgrState → Event → QmgrState
after s (takes x) = (qmgr_row s x).state
after s (installs view) = (qmgr_installed s view).state

-- the block after all of these, in order
abbrev pub after_all : QmgrState → List Event → QmgrState
after_all s [] = s
after_all s (event ∷ events) = after_all (after s event) events

-- the number of the last promise, and the greatest number proposed, are no less than before
pub record IsNoLess (before k : Known) : Type 0 where
  pub promised : before.promised.number ≤ k.promised.number
  pub proposed : before.proposed ≤ k.proposed

-- numbers only rise
abbrev pub NumbersNeverFall : Type 0
NumbersNeverFall = (s : QmgrState) (events : List Event) → IsNoLess s.known (after_all s events).known

-- a start that has closed, or was in a promise or a view, is never forgotten
pub record IsRemembered (before k : Known) (member : Member) : Type 0 where
  pub closed : covers before.closed member ≡ true → covers k.closed member ≡ true
  pub seen : covers before.seen member ≡ true → covers k.seen member ≡ true

abbrev pub StartsAreNotForgotten : Type 0
StartsAreNotForgotten =
    (s : QmgrState) (events : List Event) (member : Member) → IsRemembered s.known (after_all s events).known member

-- the last promise has no lesser number than the installed view
abbrev pub LastPromiseIsNotBelowTheView : Type 0
LastPromiseIsNotBelowTheView =
    (me : Member) (layout : Layout) (events : List Event)
    → (after_all (fresh_qmgr me layout) events).known.layout.view.number
    ≤ (after_all (fresh_qmgr me layout) events).known.promised.number

-- What is sent, if it asks for a promise, names a number that was neither proposed nor promised before, nor was a
-- greater one; and it counts as proposed from then on
abbrev pub IsNewIn : Known → Known → Body → Type 0
IsNewIn before k (Membership (PrepFailReq set)) =
    (before.proposed < set.number) × (before.promised.number < set.number) × (set.number ≤ k.proposed)
IsNewIn before k _ = Unit {0}

-- so does all that is sent
abbrev pub AreNew : Known → Known → List Outgoing → Type 0
AreNew before k [] = Unit {0}
AreNew before k (send ∷ sends) = IsNewIn before k send.body × AreNew before k sends

-- no number is proposed at two signals
abbrev pub ProposalsAreNew : Type 0
ProposalsAreNew =
    (s : QmgrState) (x : Signal) → AreNew s.known (qmgr_row s x).state.known (qmgr_row s x).effects.sends
