-- The view that the membership settles on at a signal: its host installs it in the same event. A mark tells of it too.
use Rattle.std.specs.Prelude.{ℕ, ◌==◌, ◌&&◌, Bool, true, false, is_some, not, List, [], ◌∷◌, Option, None, Some}
use Rattle.sig_core.specs.declared.member.Member.{Member}
use Rattle.sig_core.specs.declared.signal.Body.{Body}
use Rattle.sig_core.specs.declared.signal.Body.TheVariants.{Membership}
use Rattle.sig_core.specs.declared.signal.Signal.{Signal}
use Rattle.sig_core.specs.declared.signal.membership.MembershipSignal.{MembershipSignal}
use Rattle.sig_core.specs.declared.signal.membership.MembershipSignal.TheVariants.{ArbitConf, PrepFailConf}
use Rattle.sig_core.specs.declared.view.View.{View}
use Rattle.qmgr_block.specs.declared.known.Known.{Known}
use Rattle.qmgr_block.specs.declared.known.Proposal.{Proposal}
use Rattle.qmgr_block.specs.Decide.{awaits, heard, is_asked, needs_no_grant}
use Rattle.qmgr_block.specs.State.{QmgrState}

-- it may settle on one where a member has promised, and where the arbitrator has granted
abbrev pub may_settle : Body → Bool
may_settle (Membership (PrepFailConf number)) = true
may_settle (Membership (ArbitConf number)) = true
may_settle body = false

-- the view of a proposal, if that is settled
abbrev pub view_if : Proposal → Bool → Option View
view_if p true = Some p.view
view_if p false = None

-- it is where all have promised, and no grant is needed
abbrev pub settled_by_all : Known → Proposal → List Member → Option View
settled_by_all k p [] = view_if p (needs_no_grant k p)
settled_by_all k p (member ∷ members) = None

abbrev pub settled_if : Known → Proposal → Member → Bool → Option View
settled_if k p member true = settled_by_all k (heard p member) (heard p member).awaited
settled_if k p member false = None

abbrev pub settled_with : Known → Option Proposal → ℕ → Member → Option View
settled_with k None number member = None
settled_with k (Some p) number member = settled_if k p member (awaits p number member)

-- a member has promised
unfoldable pub promise_settles : Known → ℕ → Member → Option View
promise_settles k number member = settled_with k k.outstanding number member

-- and where the arbitrator was asked, and has granted it
abbrev pub granted_with : Option Proposal → ℕ → Option View
granted_with None number = None
granted_with (Some p) number = view_if p ((p.view.number == number) && is_asked p && not (is_some p.lost))

unfoldable pub grant_settles : Known → ℕ → Option View
grant_settles k number = granted_with k.outstanding number

abbrev pub membership_settles : Known → Member → MembershipSignal → Option View
membership_settles k member (PrepFailConf number) = promise_settles k number member
membership_settles k member (ArbitConf number) = grant_settles k number
membership_settles k member signal = None

abbrev pub body_settles : Known → Member → Body → Option View
body_settles k member (Membership signal) = membership_settles k member signal
body_settles k member body = None

abbrev pub qmgr_settles : QmgrState → Signal → Option View
qmgr_settles s x = body_settles s.known x.member x.body
