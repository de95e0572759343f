-- The members of the view.
use Rattle.std.specs.Prelude.{ℕ, ◌-◌, ◌==◌, Bool, true, false, nat_lt, List, [], ◌∷◌, ◌++◌, length, take, map, Option}
use Rattle.std.specs.Prelude.{None, Some}
use Rattle.std.specs.List.{list_any}
use Rattle.sig_core.specs.declared.member.Member.{Member}
use Rattle.sig_core.specs.declared.outs.Outgoing.{Outgoing}
use Rattle.sig_core.specs.declared.signal.Body.{Body}
use Rattle.sig_core.specs.declared.signal.Body.TheVariants.{Host, Client}
use Rattle.sig_core.specs.declared.signal.client.ClientSignal.TheVariants.{TcCommitAck}
use Rattle.sig_core.specs.declared.signal.host.HostSignal.TheVariants.{Round}
use Rattle.sig_core.specs.declared.view.View.{View}
use Rattle.sig_core.specs.Place.{rows_of}
use Rattle.sig_core.specs.Step.{to_place}
use Rattle.api_block.specs.declared.members.News.{News}
use Rattle.api_block.specs.declared.members.News.TheVariants as news
use Rattle.api_block.specs.declared.members.TheConstants.{TOLD}

abbrev pub is_at : ℕ → Member → Bool
is_at node member = member.node == node

-- the node has a full member
abbrev pub is_full : View → ℕ → Bool
is_full view node = list_any (is_at node) view.full

-- the least node, of these and one more
abbrev pub lesser_if : ℕ → ℕ → Bool → ℕ
lesser_if least node true = node
lesser_if least node false = least

abbrev pub lesser : ℕ → ℕ → ℕ
lesser least node = lesser_if least node (nat_lt node least)

abbrev pub least_from : ℕ → List Member → ℕ
least_from least [] = least
least_from least (member ∷ members) = least_from (lesser least member.node) members

-- the full member with the least node
unfoldable pub least_node : List Member → Option ℕ
least_node [] = None
least_node (member ∷ members) = Some (least_from member.node members)

-- the full members and then the starting ones. A view has at most eight in all; of a longer list the first twelve count
unfoldable pub everyone : View → List Member
everyone view = view.full ++ take (TOLD - length view.full) view.starting

-- what the rows of each are told
abbrev pub news_body : News → Body
news_body news.Round = Host Round
news_body (news.Committed tx) = Client (TcCommitAck tx)

abbrev pub telling : News → Member → Outgoing
telling told member = to_place (rows_of member.node) (news_body told)

-- the rows of these members are told
abbrev pub telling_all : News → List Member → List Outgoing
telling_all told members = map (telling told) members
