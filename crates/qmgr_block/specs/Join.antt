-- Joins and promotions.
use Rattle.std.specs.Prelude.{◌==◌, ◌&&◌, Bool, true, false, List, None, Some}
use Rattle.std.specs.List.{list_any}
use Rattle.sig_core.specs.declared.member.Member.{Member}
use Rattle.sig_core.specs.declared.signal.Body.TheVariants.{Joining}
use Rattle.sig_core.specs.declared.signal.joining.JoiningSignal.TheVariants.{StartEnd, StartRep}
use Rattle.sig_core.specs.Place.{client}
use Rattle.sig_core.specs.Step.{Step, sending, stay}
use Rattle.qmgr_block.specs.declared.known.Known.{Known}
use Rattle.qmgr_block.specs.Propose.{has_number, next_number, proposed_if}
use Rattle.qmgr_block.specs.Sets.{is_among, joined_view, members_of, promoted_view}
use Rattle.qmgr_block.specs.Starts.{covers}
use Rattle.qmgr_block.specs.Suspects.{presides}

-- a start of the node is among the members
abbrev pub is_of_node : Member → Member → Bool
is_of_node member other = member.node == other.node

unfoldable pub has_node : List Member → Member → Bool
has_node members member = list_any (is_of_node member) members

-- the last promise has the number of the installed view
abbrev pub is_settled : Known → Bool
is_settled k = k.promised.number == k.layout.view.number

-- the president proposes the view with the member, if there is a number
abbrev pub join : Known → Member → Step Known
join k member =
    proposed_if k (joined_view k.layout.view (next_number k) member) (Some member) (presides k && has_number k)

abbrev pub start_by : Known → Member → Bool → Bool → Bool → Bool → Step Known
start_by k member true in_view settled seen = sending k client (Joining (StartRep member))
start_by k member false true settled seen = stay k
start_by k member false false false seen = stay k
start_by k member false false true true = sending k client (Joining (StartEnd member))
start_by k member false false true false = join k member

-- The API asks for a member to join. It is told where the member is full, or where a set with it was promised or
-- installed before; a start of its node in the view, or a last promise that isn't the installed view, is waited for
unfoldable pub start_row : Known → Member → Step Known
start_row k member =
    start_by k member
    (is_among k.layout.view.full member)
    (has_node (members_of k.layout.view) member)
    (is_settled k)
    (covers k.seen member)

-- the copying asks for a starting member to be full
unfoldable pub promote_row : Known → Member → Step Known
promote_row k member =
    proposed_if k (promoted_view k.layout.view (next_number k) member) None
    (is_settled k && is_among k.layout.view.starting member && presides k && has_number k)
