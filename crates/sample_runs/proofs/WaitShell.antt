-- What the shell's host does at each step of the wait.
use Rattle.std.proofs.Common.{ℕ, List, [], ◌∷◌, refl}
use Rattle.std.specs.Prelude.{Option, None, Some}
use Rattle.sig_core.specs.declared.mark.Mark.{Mark}
use Rattle.sig_core.specs.declared.mark.Mark.TheVariants.{Reported}
use Rattle.sig_core.specs.declared.member.TxId.{TxId}
use Rattle.sig_core.specs.declared.op.Answer.TheVariants.{Done}
use Rattle.sig_core.specs.declared.outcome.Outcome.TheVariants.{Committed}
use Rattle.sig_core.specs.declared.outs.Outgoing.{Outgoing}
use Rattle.sig_core.specs.declared.reply.ApiReply.{ApiReply}
use Rattle.sig_core.specs.declared.reply.ApiReply.TheVariants.{Answered, Begun, Ended}
use Rattle.sig_core.specs.declared.request.ApiReq.TheVariants as request
use Rattle.sig_core.specs.declared.signal.Body.TheVariants.{Client}
use Rattle.sig_core.specs.declared.signal.client.ClientSignal.TheVariants.{TcBeginReq, TcCommitAck, TcCommitReq}
use Rattle.sig_core.specs.declared.signal.client.ClientSignal.TheVariants.{TcKeyReq}
use Rattle.sig_core.specs.Place.{coordinator, rows_of}
use Rattle.sig_core.specs.Step.{Step, to_place}
use Rattle.frag_map.specs.Layout.{first_view}
use Rattle.api_block.specs.Api.{request_row}
use Rattle.api_block.specs.Commands as api
use Rattle.api_block.specs.declared.opened.Doing.{Doing}
use Rattle.api_block.specs.declared.opened.Doing.TheVariants.{Beginning, Committing, Operating, Ready}
use Rattle.api_block.specs.declared.opened.OpenTransaction.{OpenTransaction}
use Rattle.api_block.specs.Members.{everyone, least_node}
use Rattle.api_block.specs.Operate.{answer_row, begun_row, lone_row, operate_row}
use Rattle.api_block.specs.Outcome.{commit_report_row}
use Rattle.node_core.specs.declared.host.Host.{Host}
use Rattle.node_core.specs.declared.host.Host.TheVariants.{Shell}
use Rattle.node_core.specs.Fresh.{fresh_shell}
use Rattle.node_core.specs.Row.{row, shell_row}
use Rattle.world_core.specs.Hosts.{started}
use Rattle.answer_laws.specs.Sample.{first_tx, lone}
use Rattle.sample_runs.proofs.Traces.{Do}
use Rattle.sample_runs.specs.Wait.{asking, first_write, second_tx, second_write}

-- the API with these entries and replies, whose last command is about this place, which sends these signals
abbrev comes : List OpenTransaction → Option ℕ → List ApiReply → List Outgoing → List Mark → Step Host
comes opened own replies sends marks = record {
  state = Shell (record { view = first_view 1; opened = opened; own = own; dump = None; replies = replies });
  effects = record { sends = sends; marks = marks };
}

-- an entry of the node's coordinator
abbrev opened : Option ℕ → Option TxId → ℕ → Doing → OpenTransaction
opened name tx operations doing =
    record { name = name; node = 1; tx = tx; operations = operations; doing = doing; ahead = None }

-- transaction 1, and the put alone
abbrev first : ℕ → Doing → OpenTransaction
first operations doing = opened (Some 1) (Some first_tx) operations doing

abbrev second : Doing → OpenTransaction
second doing = opened None (Some second_tx) 1 doing

-- the replies by the answer of the first put
abbrev replied : List ApiReply
replied = Begun 1 1 ∷ Answered (Some 1) Done ∷ []

abbrev pub asking_steps : List (Step Host)
asking_steps =
    comes [] None
    (Begun 1 1 ∷ Answered (Some 1) Done ∷ Ended (Some 1) (Committed 1) ∷ Answered None Done ∷ Ended None (Committed 1) ∷
    [])
    (to_place (rows_of 1) (Client (TcCommitAck second_tx)) ∷ []) (Reported second_tx (Committed 1) ∷ [])
    ∷ comes (second Committing ∷ []) None
    (Begun 1 1 ∷ Answered (Some 1) Done ∷ Ended (Some 1) (Committed 1) ∷ Answered None Done ∷ [])
    (to_place (coordinator 1) (Client (TcCommitReq second_tx)) ∷ []) []
    ∷ comes (second Operating ∷ []) None (Begun 1 1 ∷ Answered (Some 1) Done ∷ Ended (Some 1) (Committed 1) ∷ [])
    (to_place (rows_of 1) (Client (TcCommitAck first_tx)) ∷ []) (Reported first_tx (Committed 1) ∷ [])
    ∷ comes (first 1 Committing ∷ second Operating ∷ []) (Some 0) replied
    (to_place (coordinator 1) (Client (TcCommitReq first_tx)) ∷ []) []
    ∷ comes (first 1 Ready ∷ second Operating ∷ []) (Some 1) replied
    (to_place (coordinator 1) (Client (TcKeyReq second_tx second_write)) ∷ []) []
    ∷ comes (first 1 Ready ∷ opened None None 0 (Beginning (Some second_write)) ∷ []) (Some 1) replied
    (to_place (coordinator 1) (Client (TcBeginReq None)) ∷ []) []
    ∷ comes (first 1 Ready ∷ []) (Some 0) replied [] []
    ∷ comes (first 1 Operating ∷ []) (Some 0) (Begun 1 1 ∷ [])
    (to_place (coordinator 1) (Client (TcKeyReq first_tx first_write)) ∷ []) []
    ∷ comes (first 0 Ready ∷ []) (Some 0) (Begun 1 1 ∷ []) [] []
    ∷ comes (opened (Some 1) None 0 (Beginning None) ∷ []) (Some 0) []
    (to_place (coordinator 1) (Client (TcBeginReq (Some 1))) ∷ []) []
    ∷ []

pub asking_do : Do lone 0 asking asking_steps
unfolding started fresh_shell row shell_row request_row api.begin_row api.commit_row lone_row operate_row least_node
    begun_row answer_row commit_report_row everyone
asking_do = (
  record { at = refl; stamped = refl; does = refl; marks = refl; asked = tt },
  (
    record { at = refl; stamped = refl; does = refl; marks = refl; asked = tt },
    (
      record { at = refl; stamped = refl; does = refl; marks = refl; asked = tt },
      (
        record {
          at = refl;
          stamped = refl;
          does = refl;
          marks = refl;
          asked = record {
            request = request.Commit 1;
            shell = refl;
            is = refl;
          };
        },
        (
          record { at = refl; stamped = refl; does = refl; marks = refl; asked = tt },
          (
            record {
              at = refl;
              stamped = refl;
              does = refl;
              marks = refl;
              asked = record {
                request = request.Operate None second_write;
                shell = refl;
                is = refl;
              };
            },
            (
              record { at = refl; stamped = refl; does = refl; marks = refl; asked = tt },
              (
                record {
                  at = refl;
                  stamped = refl;
                  does = refl;
                  marks = refl;
                  asked = record {
                    request = request.Operate (Some 1) first_write;
                    shell = refl;
                    is = refl;
                  };
                },
                (
                  record { at = refl; stamped = refl; does = refl; marks = refl; asked = tt },
                  (
                    record {
                      at = refl;
                      stamped = refl;
                      does = refl;
                      marks = refl;
                      asked = record {
                        request = request.Begin 1 (Some 1);
                        shell = refl;
                        is = refl;
                      };
                    },
                    tt,
                  ),
                ),
              ),
            ),
          ),
        ),
      ),
    ),
  ),
)
