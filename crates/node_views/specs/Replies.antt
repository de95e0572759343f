-- The replies of a host to the shell.
use Rattle.std.specs.Prelude.{Bool, false, List, []}
use Rattle.sig_core.specs.declared.reply.ApiReply.{ApiReply}
use Rattle.api_block.specs.State as api
use Rattle.api_views.specs.Pending.{is_open}
use Rattle.api_views.specs.State.{with_api}
use Rattle.api_views.specs.Stops as client
use Rattle.node_views.specs.declared.host_body.HostBody as hosts
use Rattle.node_views.specs.declared.parts.Parts.{Parts}
use Rattle.node_views.specs.declared.parts.Parts.TheVariants.{Shell}

abbrev pub replies_in : Parts → List ApiReply
replies_in (Shell p) = p.client.api.replies
replies_in parts = []

-- the replies that it has to give; a part of a node has none
abbrev pub replies_of : hosts.HostBody → List ApiReply
replies_of s = replies_in s.parts

abbrev pub giving : Parts → List ApiReply → Parts
giving (Shell p) replies =
    Shell (record { client = with_api p.client (api.with_replies p.client.api replies); arbiter = p.arbiter })
giving parts replies = parts

-- the host with these replies to give
abbrev pub with_replies : hosts.HostBody → List ApiReply → hosts.HostBody
with_replies s replies = record { standing = s.standing; parts = giving s.parts replies }

abbrev pub is_open_in : Parts → Bool
is_open_in (Shell p) = is_open p.client
is_open_in parts = false

-- the last command left something of its own unanswered
abbrev pub is_left_open : hosts.HostBody → Bool
is_left_open s = is_open_in s.parts

abbrev pub is_down_in : Parts → Bool
is_down_in (Shell p) = client.is_down p.client
is_down_in parts = false

-- the cluster is down, as far as the shell's host knows; a part of a node doesn't tell
abbrev pub is_down : hosts.HostBody → Bool
is_down s = is_down_in s.parts
