-- What the API may say.
use Rattle.std.specs.Prelude.{Bool, true, false}
use Rattle.sig_core.specs.declared.mark.Mark.{Mark}
use Rattle.sig_core.specs.declared.mark.Mark.TheVariants.{Reported}
use Rattle.sig_core.specs.declared.outcome.Outcome.TheVariants.{Committed, Aborted}
use Rattle.sig_core.specs.declared.signal.Body.{Body}
use Rattle.sig_core.specs.declared.signal.Body.TheVariants.{Host, Client}
use Rattle.sig_core.specs.declared.signal.Signal.{Signal}
use Rattle.sig_core.specs.declared.signal.client.ClientSignal.TheVariants.{DumpReq, TcBeginReq, TcCommitAck}
use Rattle.sig_core.specs.declared.signal.client.ClientSignal.TheVariants.{TcCommitReq, TcKeyReq, TcRollbackReq}
use Rattle.sig_core.specs.declared.signal.client.ClientSignal.TheVariants.{TcWaitReq}
use Rattle.sig_core.specs.declared.signal.host.HostSignal.TheVariants.{Round}
use Rattle.step_forms.specs.Does.{Speaks}
use Rattle.api_block.specs.Api.{api_row}
use Rattle.api_block.specs.State.{ApiState}

-- it asks coordinators, and tells the rows of rounds and of what it knows of commits, or asks for them
abbrev pub is_api_word : Body → Bool
is_api_word (Host Round) = true
is_api_word (Client (TcBeginReq name)) = true
is_api_word (Client (TcKeyReq tx op)) = true
is_api_word (Client (TcCommitReq tx)) = true
is_api_word (Client (TcRollbackReq tx)) = true
is_api_word (Client (TcWaitReq tx)) = true
is_api_word (Client (TcCommitAck tx)) = true
is_api_word (Client (DumpReq at)) = true
is_api_word _ = false

-- it reports commits and aborts
abbrev pub is_api_mark : Mark → Bool
is_api_mark (Reported tx (Committed epoch)) = true
is_api_mark (Reported tx (Aborted why)) = true
is_api_mark _ = false

-- it says nothing else. Another view makes it say nothing
abbrev pub ApiKeepsToItsWords : Type 0
ApiKeepsToItsWords = (s : ApiState) (x : Signal) → Speaks is_api_word is_api_mark (api_row s x)
