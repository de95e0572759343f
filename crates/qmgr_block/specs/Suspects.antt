-- Suspects, and who is told of them.
use Rattle.std.specs.Prelude.{ℕ, ◌==◌, ◌&&◌, ◌||◌, Bool, true, false, if◌then◌else◌, nat_lt, not, List, [], ◌∷◌, filter}
use Rattle.std.specs.Prelude.{length, Option, None, Some, position, slice_get}
use Rattle.sig_core.specs.declared.member.Member.{Member}
use Rattle.sig_core.specs.declared.signal.Body.TheVariants.{Membership}
use Rattle.sig_core.specs.declared.signal.membership.MembershipSignal.TheVariants.{FailRep}
use Rattle.sig_core.specs.Place.{membership}
use Rattle.sig_core.specs.Step.{Step, sending, stay}
use Rattle.qmgr_block.specs.declared.known.Known.{Known}
use Rattle.qmgr_block.specs.declared.known.Proposal.{Proposal}
use Rattle.qmgr_block.specs.declared.starts.Starts.{Starts}
use Rattle.qmgr_block.specs.Propose.{propose}
use Rattle.qmgr_block.specs.Sets.{is_among, is_in, members_of, same_member, with_member}
use Rattle.qmgr_block.specs.Starts.{covers, noted}

-- another member of the view or of the last promise, and no suspect yet
unfoldable pub is_new : Known → Member → Bool
is_new k member =
    not (same_member k.me member)
    && (is_in k.layout.view member || is_in k.promised member)
    && not (is_among k.suspects member)

-- it is a suspect from now on
unfoldable pub with_suspect : Known → Member → Known
with_suspect k member = if is_new k member then record k { suspects = with_member k.suspects member } else k

-- all these are
unfoldable pub with_suspects : Known → List Member → Known
with_suspects k [] = k
with_suspects k (member ∷ members) = with_suspects (with_suspect k member) members

-- those of the members that have closed, as far as is known
unfoldable pub closed_of : Starts → List Member → List Member
closed_of closed members = filter (covers closed) members

-- each member of the view and of the last promise that has closed is a suspect
unfoldable pub with_closed : Known → Known
with_closed k =
    with_suspects
    (with_suspects k (closed_of k.closed (members_of k.layout.view)))
    (closed_of k.closed (members_of k.promised))

-- there are more suspects than there were
abbrev pub has_more : Known → Known → Bool
has_more before k = nat_lt (length before.suspects) (length k.suspects)

-- the member isn't suspected
abbrev pub is_trusted : List Member → Member → Bool
is_trusted suspects member = not (is_among suspects member)

-- the member at a place
abbrev pub member_at : List Member → Option ℕ → Option Member
member_at members None = None
member_at members (Some at) = slice_get members at

-- the oldest full member that isn't suspected: whom the node takes for the president
unfoldable pub president : Known → Option Member
president k = member_at k.layout.view.full (position (is_trusted k.suspects) k.layout.view.full)

-- the node takes itself for the president
abbrev pub presides_by : Member → Option Member → Bool
presides_by me None = false
presides_by me (Some member) = same_member me member

unfoldable pub presides : Known → Bool
presides k = presides_by k.me (president k)

abbrev pub told_by : Known → Bool → Bool → Option Member → Step Known
told_by k false own president = stay k
told_by k true true president = propose k
told_by k true false None = stay k
told_by k true false (Some member) = sending k (membership member.node) (Membership (FailRep k.suspects))

-- the suspects changed: the president is told, or proposes where it is the node itself. A start that hasn't had a view
-- with its member does nothing
unfoldable pub told : Known → Step Known
told k = told_by k k.has_joined (presides k) (president k)

abbrev pub told_if : Known → Bool → Step Known
told_if k true = told k
told_if k false = stay k

-- it is told if there are more suspects than before
abbrev pub told_after : Known → Known → Step Known
told_after before k = told_if k (has_more before k)

-- another node tells of suspects
unfoldable pub report_row : Known → List Member → Step Known
report_row k suspects = told_after k (with_suspects k suspects)

-- the outstanding proposal does without the member
abbrev pub is_left_out : Option Proposal → Member → Bool
is_left_out None member = false
is_left_out (Some p) member = not (is_in p.view member)

-- a suspect of the last promise that the outstanding proposal doesn't leave out
unfoldable pub is_kept_suspect : Known → Member → Bool
is_kept_suspect k member =
    is_among k.suspects member && is_in k.promised member && not (is_left_out k.outstanding member)

-- a member has closed
abbrev pub with_closing : Known → Member → Known
with_closing k member = with_closed (record k { closed = noted k.closed member })

-- A member of another node has closed: that isn't forgotten. It counts as a change of the suspects too where it was
-- one, is in the last promise, and no outstanding proposal is without it
unfoldable pub close_row : Known → Member → Step Known
close_row k member =
    if member.node == k.me.node
    then stay k
    else told_if (with_closing k member) (is_kept_suspect k member || has_more k (with_closing k member))
