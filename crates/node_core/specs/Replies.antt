-- The replies of a host to the shell.
use Rattle.std.specs.Prelude.{Bool, false, List, []}
use Rattle.sig_core.specs.declared.reply.ApiReply.{ApiReply}
use Rattle.api_block.specs.Opened as opened
use Rattle.node_core.specs.declared.host.Host.{Host}
use Rattle.node_core.specs.declared.host.Host.TheVariants.{Shell}

-- the replies that it has to give; a node has none
unfoldable pub replies_of : Host → List ApiReply
replies_of (Shell s) = s.replies
replies_of host = []

-- the last command left something of its own unanswered
unfoldable pub is_left_open : Host → Bool
is_left_open (Shell s) = opened.is_left_open s
is_left_open host = false
