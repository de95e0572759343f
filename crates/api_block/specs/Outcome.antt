-- How transactions end, as far as the client is told.
use Rattle.std.specs.Prelude.{ℕ, ◌==◌, ◌-◌, if◌then◌else◌, nat_lt, List, [], ◌∷◌, position, remove, Option, None, Some}
use Rattle.sig_core.specs.declared.mark.Mark.TheVariants.{Reported}
use Rattle.sig_core.specs.declared.member.TxId.{TxId}
use Rattle.sig_core.specs.declared.outcome.AbortCause.{AbortCause}
use Rattle.sig_core.specs.declared.outcome.Outcome.{Outcome}
use Rattle.sig_core.specs.declared.outcome.Outcome.TheVariants.{Committed, Aborted}
use Rattle.sig_core.specs.declared.outs.Outgoing.{Outgoing}
use Rattle.sig_core.specs.declared.reply.ApiReply.{ApiReply}
use Rattle.sig_core.specs.declared.reply.ApiReply.TheVariants.{Ended, Refused}
use Rattle.sig_core.specs.declared.reply.Refusal.TheVariants.{TooManyOpen}
use Rattle.sig_core.specs.Step.{Step, stay}
use Rattle.api_block.specs.declared.members.News.TheVariants as news
use Rattle.api_block.specs.Members.{everyone, telling_all}
use Rattle.api_block.specs.Opened.{begins, place_of, where_at}
use Rattle.api_block.specs.State.{ApiState, about, replied, with_opened}

-- where one stands once the one at another place is removed
abbrev pub without : ℕ → Option ℕ → Option ℕ
without at None = None
without at (Some own) = if own == at then None else (if nat_lt at own then Some (own - 1) else Some own)

-- the transaction at a place is over, and the client is told. A command about it is about none from then on
abbrev pub over : ApiState → ℕ → ApiReply → ApiState
over s at reply = replied (about (with_opened s (remove s.opened at)) (without at s.own)) (reply ∷ [])

-- the transaction doesn't begin
unfoldable pub refuse_row : ApiState → Option ℕ → ApiState
refuse_row s name = where_at s.opened s (λ at t. over s at (Refused name TooManyOpen)) (position (begins name) s.opened)

-- the transaction has this outcome, and these signals are sent
abbrev pub ending : ApiState → TxId → Outcome → List Outgoing → ℕ → Option ℕ → Step ApiState
ending s tx outcome sends at name =
    record {
      state = over s at (Ended name outcome);
      effects = record { sends = sends; marks = Reported tx outcome ∷ [] };
    }

abbrev pub unknown : ApiState → List Outgoing → Step ApiState
unknown s sends = record { state = s; effects = record { sends = sends; marks = [] } }

-- the rows of every member are told that the client knows of the commit
abbrev pub acknowledging : ApiState → TxId → List Outgoing
acknowledging s tx = telling_all (news.Committed tx) (everyone s.view)

unfoldable pub commit_report_row : ApiState → TxId → ℕ → Step ApiState
commit_report_row s tx epoch =
    where_at s.opened (unknown s (acknowledging s tx))
    (λ at t. ending s tx (Committed epoch) (acknowledging s tx) at t.name) (place_of s tx)

unfoldable pub abort_report_row : ApiState → TxId → AbortCause → Step ApiState
abort_report_row s tx cause =
    where_at s.opened (stay s) (λ at t. ending s tx (Aborted cause) [] at t.name) (place_of s tx)
