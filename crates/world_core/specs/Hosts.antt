-- Hosts: which one runs what. Host 0 is the shell's. Behind it each member has three, one for each part, in the order
-- in
-- which members are made.
use Rattle.std.specs.Prelude.{ℕ, zero, suc, ◌+◌, ◌*◌, ◌/◌, ◌%◌, ◌==◌, if◌then◌else◌, List, ◌++◌, filter, length}
use Rattle.std.specs.Prelude.{position, slice_get, slice_index_or, Option, None, Some}
use Rattle.sig_core.specs.declared.member.Member.{Member}
use Rattle.sig_core.specs.declared.member.TxId.{TxId}
use Rattle.sig_core.specs.declared.place.Part.{Part}
use Rattle.sig_core.specs.declared.place.Part.TheVariants.{Main, Tc, Ldm}
use Rattle.sig_core.specs.declared.place.Place.{Place}
use Rattle.sig_core.specs.declared.view.View.{View}
use Rattle.sig_core.specs.Members.{nobody}
use Rattle.sig_core.specs.Part.{part_of}
use Rattle.sig_core.specs.Place.{coordinator, coordinator_of, rows_of}
use Rattle.frag_map.specs.Layout.{first_layout, first_view}
use Rattle.frag_map.specs.Replicas.{is_member}
use Rattle.node_core.specs.declared.host.Host.{Host}
use Rattle.node_core.specs.Fresh.{fresh_part, fresh_shell}
use Rattle.world_core.specs.Start.{Start, made}

-- who is there, as a sender knows it: the members that were made, and the view that it has installed
pub record Membership : Type 0 where
  pub made : List Member
  pub view : View

-- as a life begins; no other view is installed by now
abbrev pub first_membership : Start → Membership
first_membership start = record { made = made start; view = first_view start.shape.nodes }

-- how many hosts a life has: three of each member, and the shell's
abbrev pub hosts : Start → ℕ
hosts start = length (made start) * 3 + 1

-- how many of them there are as it begins; where nothing can fail there are no others
abbrev pub first_hosts : Start → ℕ
first_hosts start = start.shape.nodes * 3 + 1

-- the place of a part among the hosts of its member, from 1
abbrev pub number_of : Part → ℕ
number_of Main = 1
number_of Tc = 2
number_of Ldm = 3

-- the host of a part of the member at this place, from 0; of a member that isn't made, this one, which nobody is
abbrev pub host_at : ℕ → Part → Option ℕ → ℕ
host_at absent part None = absent
host_at absent part (Some place) = place * 3 + number_of part

abbrev pub host_of : List Member → Part → Member → ℕ
host_of made part member = host_at (length made * 3 + 1) part (position (is_member member) made)

-- the member of a node in a view, full or starting
abbrev pub member_of : View → ℕ → Option Member
member_of view node = slice_get (filter (λ (member : Member). member.node == node) (view.full ++ view.starting)) 0

abbrev pub host_by : List Member → Part → Option Member → ℕ
host_by made part None = length made * 3 + 1
host_by made part (Some member) = host_of made part member

-- Where a sender sends what is for a place: to the shell's host, or to that of the block's part of the node's member in
-- the
-- view; to nobody where the view has none.
unfoldable pub receiver : Membership → Place → ℕ
receiver who to = if to.node == 0 then 0 else host_by who.made (part_of to.block) (member_of who.view to.node)

abbrev pub host_for : Start → Place → ℕ
host_for start to = receiver (first_membership start) to

-- the host of a node's coordinator and epochs, and that of its rows
abbrev pub tc_host : Start → ℕ → ℕ
tc_host start node = host_for start (coordinator node)

abbrev pub rows_host : Start → ℕ → ℕ
rows_host start node = host_for start (rows_of node)

-- the host of a transaction's coordinator
abbrev pub home : Start → TxId → ℕ
home start tx = host_for start (coordinator_of tx)

-- the member of a host; the shell's counts as nobody's
abbrev pub member_at : List Member → ℕ → Member
member_at made zero = nobody
member_at made (suc h) = slice_index_or made (h / 3) nobody

-- the part of a host behind the shell's, by what is left of its number
abbrev pub part_by : ℕ → Part
part_by zero = Main
part_by (suc zero) = Tc
part_by (suc (suc left)) = Ldm

-- a host as it begins
unfoldable pub started : Start → ℕ → Host
started start zero = fresh_shell (first_view start.shape.nodes)
started start (suc h) =
    fresh_part (part_by (h % 3)) (member_at (made start) (suc h)) (first_layout start.shape) start.epoch start.rows
