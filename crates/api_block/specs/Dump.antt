-- The rows of a node, as they come.
use Rattle.std.specs.Prelude.{ℕ, Bool, true, false, List, [], ◌∷◌, ◌++◌, length, map, Option, None, Some}
use Rattle.std.specs.List.{flat_map}
use Rattle.sha2.specs.Sha256.{sha256}
use Rattle.sig_core.specs.declared.reply.ApiReply.{ApiReply}
use Rattle.sig_core.specs.declared.reply.ApiReply.TheVariants.{Row, Rows, Digest}
use Rattle.sig_core.specs.declared.signal.Body.TheVariants.{Client}
use Rattle.sig_core.specs.declared.signal.client.ClientSignal.TheVariants.{DumpReq}
use Rattle.sig_core.specs.Place.{rows_of}
use Rattle.sig_core.specs.Step.{Step, stay, sending}
use Rattle.api_block.specs.declared.dump.Dump.{Dump}
use Rattle.api_block.specs.Gathered.{gathered}
use Rattle.api_block.specs.State.{ApiState, replied, with_dump}

-- a dump that has no rows yet
abbrev pub begun_dump : ℕ → Bool → Dump
begun_dump node digest = record { node = node; digest = digest; rows = [] }

-- a row as a line of text
abbrev pub line_of : List ℕ × List ℕ → List ℕ
line_of row = row.0 ++ 0x20 ∷ [] ++ row.1 ++ 0x0a ∷ []

abbrev pub row_reply : List ℕ × List ℕ → ApiReply
row_reply row = Row row.0 row.1

-- what a dump that is over replies: the digest of its rows, or the rows and how many there are
unfoldable pub dump_replies : ℕ → Bool → List (List ℕ × List ℕ) → List ApiReply
dump_replies node true rows = Digest node (sha256 (flat_map line_of rows)) ∷ []
dump_replies node false rows = map row_reply rows ++ Rows node (length rows) ∷ []

abbrev pub dumped_next : ApiState → Dump → List (List ℕ × List ℕ) → Option ℕ → Step ApiState
dumped_next s d rows (Some at) =
    sending
    (with_dump s (Some (record { node = d.node; digest = d.digest; rows = gathered d.rows rows })))
    (rows_of d.node) (Client (DumpReq at))
dumped_next s d rows None = stay (replied (with_dump s None) (dump_replies d.node d.digest (gathered d.rows rows)))

-- some rows of a node, and where the next ones begin
abbrev pub dumped_by : ApiState → List (List ℕ × List ℕ) → Option ℕ → Option Dump → Step ApiState
dumped_by s rows next None = stay s
dumped_by s rows next (Some d) = dumped_next s d rows next

unfoldable pub dumped_row : ApiState → List (List ℕ × List ℕ) → Option ℕ → Step ApiState
dumped_row s rows next = dumped_by s rows next s.dump
