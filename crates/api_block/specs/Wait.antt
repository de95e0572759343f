-- What the last command waits for.
use Rattle.std.specs.Prelude.{ℕ, Bool, true, [], ◌∷◌, Option, None, Some}
use Rattle.sig_core.specs.declared.member.TxId.{TxId}
use Rattle.sig_core.specs.declared.reply.ApiReply.TheVariants.{Pending}
use Rattle.sig_core.specs.declared.reply.Waiting.TheVariants.{HeldBy}
use Rattle.sig_core.specs.declared.signal.Body.TheVariants.{Client}
use Rattle.sig_core.specs.declared.signal.client.ClientSignal.TheVariants.{TcWaitReq, TcRollbackReq}
use Rattle.sig_core.specs.Place.{coordinator_of}
use Rattle.sig_core.specs.Step.{Step, stay, sending}
use Rattle.api_block.specs.declared.opened.OpenTransaction.{OpenTransaction}
use Rattle.api_block.specs.Opened.{behind, is_unanswered, own_place, place_of, where_at}
use Rattle.api_block.specs.State.{ApiState, changing, replied}

-- its coordinator is asked for whom the transaction waits
abbrev pub waits_if : ApiState → ℕ → OpenTransaction → Bool → Option TxId → Step ApiState
waits_if s at t true (Some tx) = sending (changing s at (behind t None)) (coordinator_of tx) (Client (TcWaitReq tx))
waits_if s at t _ _ = stay s

unfoldable pub waits_row : ApiState → Step ApiState
waits_row s = where_at s.opened (stay s) (λ at t. waits_if s at t (is_unanswered t.doing) t.tx) (own_place s)

-- the coordinator has told it
unfoldable pub behind_row : ApiState → TxId → TxId → ApiState
behind_row s tx ahead = where_at s.opened s (λ at t. changing s at (behind t (Some ahead))) (place_of s tx)

-- the name of a transaction; one that isn't known has none
abbrev pub name_of : ApiState → TxId → Option ℕ
name_of s tx = where_at s.opened None (λ at t. t.name) (place_of s tx)

-- the client is told. An operation alone isn't waited for any longer
abbrev pub pending_by : ApiState → Option ℕ → Option ℕ → Option TxId → Step ApiState
pending_by s holder None (Some tx) =
    sending (replied s (Pending None (HeldBy holder) ∷ [])) (coordinator_of tx) (Client (TcRollbackReq tx))
pending_by s holder name _ = stay (replied s (Pending name (HeldBy holder) ∷ []))

abbrev pub pending_if : ApiState → OpenTransaction → Bool → Option TxId → Step ApiState
pending_if s t true (Some ahead) = pending_by s (name_of s ahead) t.name t.tx
pending_if s t _ _ = stay s

unfoldable pub pending_row : ApiState → Step ApiState
pending_row s = where_at s.opened (stay s) (λ at t. pending_if s t (is_unanswered t.doing) t.ahead) (own_place s)
