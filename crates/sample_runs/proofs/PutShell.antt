-- What the shell's host does at each step of the put.
use Rattle.std.proofs.Common.{ℕ, List, [], ◌∷◌, refl}
use Rattle.std.specs.Prelude.{Option, None, Some}
use Rattle.sig_core.specs.declared.mark.Mark.{Mark}
use Rattle.sig_core.specs.declared.mark.Mark.TheVariants.{Reported}
use Rattle.sig_core.specs.declared.member.TxId.{TxId}
use Rattle.sig_core.specs.declared.op.Answer.TheVariants.{Done}
use Rattle.sig_core.specs.declared.outcome.Outcome.TheVariants.{Committed}
use Rattle.sig_core.specs.declared.outs.Outgoing.{Outgoing}
use Rattle.sig_core.specs.declared.reply.ApiReply.{ApiReply}
use Rattle.sig_core.specs.declared.reply.ApiReply.TheVariants.{Answered, Ended}
use Rattle.sig_core.specs.declared.request.ApiReq.TheVariants as request
use Rattle.sig_core.specs.declared.signal.Body.TheVariants.{Client}
use Rattle.sig_core.specs.declared.signal.client.ClientSignal.TheVariants.{TcBeginReq, TcCommitAck, TcCommitReq}
use Rattle.sig_core.specs.declared.signal.client.ClientSignal.TheVariants.{TcKeyReq}
use Rattle.sig_core.specs.Place.{coordinator, rows_of}
use Rattle.sig_core.specs.Step.{Step, to_place}
use Rattle.frag_map.specs.Layout.{first_view}
use Rattle.api_block.specs.Api.{request_row}
use Rattle.api_block.specs.declared.opened.Doing.{Doing}
use Rattle.api_block.specs.declared.opened.Doing.TheVariants.{Beginning, Committing, Operating}
use Rattle.api_block.specs.declared.opened.OpenTransaction.{OpenTransaction}
use Rattle.api_block.specs.Members.{everyone, least_node}
use Rattle.api_block.specs.Operate.{answer_row, begun_row, lone_row}
use Rattle.api_block.specs.Outcome.{commit_report_row}
use Rattle.node_core.specs.declared.host.Host.{Host}
use Rattle.node_core.specs.declared.host.Host.TheVariants.{Shell}
use Rattle.node_core.specs.Fresh.{fresh_shell}
use Rattle.node_core.specs.Row.{row, shell_row}
use Rattle.world_core.specs.Hosts.{started}
use Rattle.answer_laws.specs.Sample.{first_tx}
use Rattle.sample_runs.proofs.Traces.{Do}
use Rattle.sample_runs.specs.Put.{shell, two, write}

-- the API with these entries and replies, whose last command is about this place, which sends these signals
abbrev comes : List OpenTransaction → Option ℕ → List ApiReply → List Outgoing → List Mark → Step Host
comes opened own replies sends marks = record {
  state = Shell (record { view = first_view 2; opened = opened; own = own; dump = None; replies = replies });
  effects = record { sends = sends; marks = marks };
}

-- the put alone
abbrev lone : Option TxId → ℕ → Doing → List OpenTransaction
lone tx operations doing =
    record { name = None; node = 1; tx = tx; operations = operations; doing = doing; ahead = None } ∷ []

abbrev pub shell_steps : List (Step Host)
shell_steps =
    comes [] None (Answered None Done ∷ Ended None (Committed 1) ∷ [])
    (to_place (rows_of 1) (Client (TcCommitAck first_tx)) ∷ to_place (rows_of 2) (Client (TcCommitAck first_tx)) ∷ [])
    (Reported first_tx (Committed 1) ∷ [])
    ∷ comes (lone (Some first_tx) 1 Committing) (Some 0) (Answered None Done ∷ [])
    (to_place (coordinator 1) (Client (TcCommitReq first_tx)) ∷ []) []
    ∷ comes (lone (Some first_tx) 1 Operating) (Some 0) []
    (to_place (coordinator 1) (Client (TcKeyReq first_tx write)) ∷ []) []
    ∷ comes (lone None 0 (Beginning (Some write))) (Some 0) []
    (to_place (coordinator 1) (Client (TcBeginReq None)) ∷ []) []
    ∷ []

pub shell_do : Do two 0 shell shell_steps
unfolding started fresh_shell row shell_row request_row lone_row least_node begun_row answer_row commit_report_row
    everyone
shell_do = (
  record { at = refl; stamped = refl; does = refl; marks = refl; asked = tt },
  (
    record { at = refl; stamped = refl; does = refl; marks = refl; asked = tt },
    (
      record { at = refl; stamped = refl; does = refl; marks = refl; asked = tt },
      (
        record {
          at = refl;
          stamped = refl;
          does = refl;
          marks = refl;
          asked = record { request = request.Operate None write; shell = refl; is = refl };
        },
        tt,
      ),
    ),
  ),
)
