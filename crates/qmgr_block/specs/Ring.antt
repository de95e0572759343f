-- Heartbeats round the ring of the members of a view.
use Rattle.std.specs.Prelude.{ℕ, ◌+◌, ◌-◌, ◌==◌, if◌then◌else◌, nat_lt, List, [], ◌∷◌, length, Option, None, Some}
use Rattle.std.specs.Prelude.{position, slice_get}
use Rattle.sig_core.specs.declared.member.Member.{Member}
use Rattle.sig_core.specs.declared.outs.Outgoing.{Outgoing}
use Rattle.sig_core.specs.declared.signal.Body.TheVariants.{Membership}
use Rattle.sig_core.specs.declared.signal.membership.MembershipSignal.TheVariants.{Heartbeat}
use Rattle.sig_core.specs.Place.{membership}
use Rattle.sig_core.specs.Step.{Step, stay, to_place}
use Rattle.qmgr_block.specs.declared.known.Known.{Known}
use Rattle.qmgr_block.specs.declared.known.TheConstants.{MISSED}
use Rattle.qmgr_block.specs.declared.ring.Sides.{Sides}
use Rattle.qmgr_block.specs.Sets.{members_of, same_member}
use Rattle.qmgr_block.specs.State.{sent_before}
use Rattle.qmgr_block.specs.Suspects.{told_after, with_suspect}

-- the place behind one, of so many in a ring
abbrev pub place_behind : ℕ → ℕ → ℕ
place_behind many at = if at + 1 == many then 0 else at + 1

-- the place in front of one
abbrev pub place_in_front : ℕ → ℕ → ℕ
place_in_front many at = if at == 0 then many - 1 else at - 1

-- who is alone has nobody on its sides
abbrev pub sides_at : List Member → Option ℕ → Sides
sides_at members None = record { next = None; before = None }
sides_at members (Some at) =
    if nat_lt 1 (length members)
    then record {
      next = slice_get members (place_behind (length members) at);
      before = slice_get members (place_in_front (length members) at);
    }
    else record { next = None; before = None }

-- the neighbours of the node in the ring of its view, the full members first, each part in order of age
unfoldable pub sides : Known → Sides
sides k = sides_at (members_of k.layout.view) (position (same_member k.me) (members_of k.layout.view))

-- one more round without a heartbeat of the member before; four are all that is counted
abbrev pub with_round : Known → Known
with_round k = if nat_lt k.missed MISSED then record k { missed = k.missed + 1 } else k

-- after the fourth it is a suspect
abbrev pub with_missing : Known → Member → Known
with_missing k before = if k.missed == MISSED then with_suspect k before else k

abbrev pub heartbeat_to : Member → Outgoing
heartbeat_to next = to_place (membership next.node) (Membership Heartbeat)

abbrev pub round_by : Known → Option Member → Option Member → Step Known
round_by k (Some next) (Some before) =
    sent_before (heartbeat_to next ∷ []) (told_after k (with_missing (with_round k) before))
round_by k (Some next) None = stay k
round_by k None before = stay k

-- a round has passed: the next member gets a heartbeat, and the one before has missed one more
unfoldable pub round_row : Known → Step Known
round_row k = round_by k (sides k).next (sides k).before

abbrev pub heartbeat_by : Known → Member → Option Member → Known
heartbeat_by k member None = k
heartbeat_by k member (Some before) = if same_member member before then record k { missed = 0 } else k

-- a heartbeat of the member before: it has missed none. Nobody else's are counted
unfoldable pub heartbeat_row : Known → Member → Step Known
heartbeat_row k member = stay (heartbeat_by k member (sides k).before)
