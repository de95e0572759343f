-- The requests that open, end and look at transactions and rows.
use Rattle.std.specs.Prelude.{ℕ, ◌==◌, Bool, true, false, is_some, [], ◌∷◌, length, Option, None, Some}
use Rattle.sig_core.specs.declared.member.TxId.{TxId}
use Rattle.sig_core.specs.declared.op.Op.{Op}
use Rattle.sig_core.specs.declared.reply.ApiReply.TheVariants.{Ticked}
use Rattle.sig_core.specs.declared.reply.Refusal.TheVariants.{NotOpen, IsOpen, NoMember, Busy}
use Rattle.sig_core.specs.declared.signal.Body.TheVariants.{Client}
use Rattle.sig_core.specs.declared.signal.client.ClientSignal.TheVariants.{TcBeginReq, TcCommitReq, TcRollbackReq}
use Rattle.sig_core.specs.declared.signal.client.ClientSignal.TheVariants.{DumpReq}
use Rattle.sig_core.specs.declared.view.View.{View}
use Rattle.sig_core.specs.Place.{coordinator, coordinator_of, rows_of}
use Rattle.sig_core.specs.Step.{Step, stay, sending}
use Rattle.api_block.specs.declared.members.News.TheVariants as news
use Rattle.api_block.specs.declared.opened.Doing.{Doing}
use Rattle.api_block.specs.declared.opened.Doing.TheVariants.{Ready}
use Rattle.api_block.specs.declared.opened.OpenTransaction.{OpenTransaction}
use Rattle.api_block.specs.Dump.{begun_dump}
use Rattle.api_block.specs.Members.{everyone, is_full, least_node, telling_all}
use Rattle.api_block.specs.Opened.{asked_for, committing, place_named, where_at}
use Rattle.api_block.specs.State.{ApiState, about, changing, opening, refused, replied, with_dump}

-- the node that is named, else the least of a full member; 0, which is no node, where there is none
abbrev pub or_none : Option ℕ → ℕ
or_none None = 0
or_none (Some node) = node

abbrev pub node_for : View → Option ℕ → ℕ
node_for view None = or_none (least_node view.full)
node_for view (Some node) = node

-- a transaction is asked for at the coordinator of a node
abbrev pub beginning : ApiState → Option ℕ → ℕ → Option Op → Step ApiState
beginning s name node op = sending (about (opening s (asked_for name node op)) (Some (length s.opened)))
    (coordinator node) (Client (TcBeginReq name))

abbrev pub begin_at : ApiState → ℕ → ℕ → Bool → Step ApiState
begin_at s name node true = beginning s (Some name) node None
begin_at s name node false = refused s (Some name) (NoMember node)

abbrev pub begin_if : ApiState → ℕ → Option ℕ → Bool → Step ApiState
begin_if s name at true = refused s (Some name) IsOpen
begin_if s name at false = begin_at s name (node_for s.view at) (is_full s.view (node_for s.view at))

-- a transaction with a name is to begin
unfoldable pub begin_row : ApiState → ℕ → Option ℕ → Step ApiState
begin_row s name node = begin_if s name node (is_some (place_named s (Some name)))

-- the transaction is to commit
abbrev pub commit_by : ApiState → ℕ → ℕ → OpenTransaction → Doing → Option TxId → Step ApiState
commit_by s name at t Ready (Some tx) =
    sending (about (changing s at (committing t)) (Some at)) (coordinator_of tx) (Client (TcCommitReq tx))
commit_by s name at t _ _ = refused s (Some name) Busy

unfoldable pub commit_row : ApiState → ℕ → Step ApiState
commit_row s name = where_at s.opened (refused s (Some name) NotOpen) (λ at t. commit_by s name at t t.doing t.tx)
    (place_named s (Some name))

-- the transaction is to be aborted, whatever it does. The command isn't about it: what its operation waits for was told
abbrev pub abort_by : ApiState → ℕ → Option TxId → Step ApiState
abort_by s name None = refused s (Some name) Busy
abort_by s name (Some tx) = sending (about s None) (coordinator_of tx) (Client (TcRollbackReq tx))

unfoldable pub abort_row : ApiState → ℕ → Step ApiState
abort_row s name =
    where_at s.opened (refused s (Some name) NotOpen) (λ at t. abort_by s name t.tx) (place_named s (Some name))

-- a round of time: the last one of a command is replied
abbrev pub ticked_if : ApiState → ℕ → Bool → ApiState
ticked_if s of true = replied s (Ticked of ∷ [])
ticked_if s of false = s

unfoldable pub tick_row : ApiState → ℕ → ℕ → Step ApiState
tick_row s round of =
    record {
      state = about (ticked_if s of (round == of)) None;
      effects = record { sends = telling_all news.Round (everyone s.view); marks = [] };
    }

-- the rows of a node are asked for, from the first place on, unless others are
abbrev pub dump_if : ApiState → ℕ → Bool → Bool → Bool → Step ApiState
dump_if s node digest false under_way = refused s None (NoMember node)
dump_if s node digest true true = stay (about s None)
dump_if s node digest true false =
    sending (with_dump (about s None) (Some (begun_dump node digest))) (rows_of node) (Client (DumpReq 0))

unfoldable pub dump_row : ApiState → ℕ → Bool → Step ApiState
dump_row s node digest = dump_if s node digest (is_full s.view node) (is_some s.dump)
