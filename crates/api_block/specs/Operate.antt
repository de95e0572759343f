-- Operations, from the request to the answer.
use Rattle.std.specs.Prelude.{ℕ, Bool, true, false, nat_lt, [], ◌∷◌, position, Option, None, Some}
use Rattle.sig_core.specs.declared.member.TxId.{TxId}
use Rattle.sig_core.specs.declared.op.Answer.{Answer}
use Rattle.sig_core.specs.declared.op.Op.{Op}
use Rattle.sig_core.specs.declared.reply.ApiReply.TheVariants.{Answered, Begun}
use Rattle.sig_core.specs.declared.reply.Refusal.TheVariants.{NotOpen, NoMember, Busy, TooManyOperations}
use Rattle.sig_core.specs.declared.signal.Body.TheVariants.{Client}
use Rattle.sig_core.specs.declared.signal.client.ClientSignal.TheVariants.{TcKeyReq, TcCommitReq}
use Rattle.sig_core.specs.Place.{coordinator_of}
use Rattle.sig_core.specs.Step.{Step, stay, sending}
use Rattle.api_block.specs.declared.opened.Doing.{Doing}
use Rattle.api_block.specs.declared.opened.Doing.TheVariants.{Beginning, Ready, Operating, Committing}
use Rattle.api_block.specs.declared.opened.OpenTransaction.{OpenTransaction}
use Rattle.api_block.specs.declared.operate.TheConstants.{OPERATIONS}
use Rattle.api_block.specs.Members.{least_node}
use Rattle.api_block.specs.Opened.{answered, begins_at, begun, begun_operating, operating, place_named, place_of}
use Rattle.api_block.specs.Opened.{where_at}
use Rattle.api_block.specs.Commands.{beginning}
use Rattle.api_block.specs.State.{ApiState, about, changing, refused, replied}

-- an operation alone: a transaction without a name is asked for
abbrev pub lone_by : ApiState → Op → Option ℕ → Step ApiState
lone_by s op None = refused s None (NoMember 0)
lone_by s op (Some node) = beginning s None node (Some op)

unfoldable pub lone_row : ApiState → Op → Step ApiState
lone_row s op = lone_by s op (least_node s.view.full)

-- an operation goes to the coordinator of its transaction
abbrev pub key_request : ApiState → TxId → Op → Step ApiState
key_request s tx op = sending s (coordinator_of tx) (Client (TcKeyReq tx op))

-- a transaction with a name performs an operation, up to the 64th
abbrev pub operate_if : ApiState → ℕ → Op → ℕ → OpenTransaction → TxId → Bool → Step ApiState
operate_if s name op at t tx true = key_request (about (changing s at (operating t)) (Some at)) tx op
operate_if s name op at t tx false = refused s (Some name) TooManyOperations

abbrev pub operate_by : ApiState → ℕ → Op → ℕ → OpenTransaction → Doing → Option TxId → Step ApiState
operate_by s name op at t Ready (Some tx) = operate_if s name op at t tx (nat_lt t.operations OPERATIONS)
operate_by s name op at t _ _ = refused s (Some name) Busy

unfoldable pub operate_row : ApiState → ℕ → Op → Step ApiState
operate_row s name op =
    where_at s.opened (refused s (Some name) NotOpen) (λ at t. operate_by s name op at t t.doing t.tx)
    (place_named s (Some name))

-- a transaction has begun: the client is told of one with a name, and one without performs its operation
abbrev pub begun_by : ApiState → TxId → ℕ → OpenTransaction → Option ℕ → Doing → Step ApiState
begun_by s tx at t (Some name) doing = stay (replied (changing s at (begun t tx)) (Begun name tx.tc ∷ []))
begun_by s tx at t None (Beginning (Some op)) = key_request (changing s at (begun_operating t tx)) tx op
begun_by s tx at t None doing = stay (changing s at (begun t tx))

unfoldable pub begun_row : ApiState → Option ℕ → TxId → Step ApiState
begun_row s name tx =
    where_at s.opened (stay s) (λ at t. begun_by s tx at t t.name t.doing) (position (begins_at name tx.tc) s.opened)

-- an operation is answered: a transaction with a name takes commands again, and one without commits
abbrev pub answer_by : ApiState → TxId → Answer → ℕ → OpenTransaction → Doing → Option ℕ → Step ApiState
answer_by s tx answer at t Operating (Some name) =
    stay (replied (changing s at (answered t Ready)) (Answered (Some name) answer ∷ []))
answer_by s tx answer at t Operating None =
    sending (replied (changing s at (answered t Committing)) (Answered None answer ∷ [])) (coordinator_of tx)
    (Client (TcCommitReq tx))
answer_by s tx answer at t _ name = stay s

unfoldable pub answer_row : ApiState → TxId → Answer → Step ApiState
answer_row s tx answer = where_at s.opened (stay s) (λ at t. answer_by s tx answer at t t.doing t.name) (place_of s tx)
