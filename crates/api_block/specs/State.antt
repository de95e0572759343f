-- The API's state.
use Rattle.std.specs.Prelude.{ℕ, List, [], ◌∷◌, ◌++◌, Option, None, slice_set}
use Rattle.sig_core.specs.declared.outs.Outgoing.{Outgoing}
use Rattle.sig_core.specs.declared.reply.ApiReply.{ApiReply}
use Rattle.sig_core.specs.declared.reply.ApiReply.TheVariants.{Refused}
use Rattle.sig_core.specs.declared.reply.Refusal.{Refusal}
use Rattle.sig_core.specs.declared.view.View.{View}
use Rattle.sig_core.specs.Step.{Effects, Step, stay}
use Rattle.api_block.specs.declared.dump.Dump.{Dump}
use Rattle.api_block.specs.declared.opened.OpenTransaction.{OpenTransaction}

-- an API: its view; the transactions that were asked for and whose end isn't reported, in the order of asking; the
-- place
-- of the one that the last command is about, if it is about one; the dump that is under way; the replies that weren't
-- given
pub record ApiState : Type 0 where
  pub view : View
  pub opened : List OpenTransaction
  pub own : Option ℕ
  pub dump : Option Dump
  pub replies : List ApiReply

-- an API that was asked for nothing
abbrev pub idle : View → ApiState
idle view = record { view = view; opened = []; own = None; dump = None; replies = [] }

-- another view is installed
abbrev pub in_view : ApiState → View → ApiState
in_view s view = record { view = view; opened = s.opened; own = s.own; dump = s.dump; replies = s.replies }

abbrev pub with_opened : ApiState → List OpenTransaction → ApiState
with_opened s opened = record { view = s.view; opened = opened; own = s.own; dump = s.dump; replies = s.replies }

-- the last command is about the transaction at this place, or about none
abbrev pub about : ApiState → Option ℕ → ApiState
about s own = record { view = s.view; opened = s.opened; own = own; dump = s.dump; replies = s.replies }

abbrev pub with_dump : ApiState → Option Dump → ApiState
with_dump s dump = record { view = s.view; opened = s.opened; own = s.own; dump = dump; replies = s.replies }

abbrev pub with_replies : ApiState → List ApiReply → ApiState
with_replies s replies = record { view = s.view; opened = s.opened; own = s.own; dump = s.dump; replies = replies }

-- replies, behind those that weren't given
abbrev pub replied : ApiState → List ApiReply → ApiState
replied s replies = with_replies s (s.replies ++ replies)

-- a transaction is asked for
abbrev pub opening : ApiState → OpenTransaction → ApiState
opening s t = with_opened s (s.opened ++ t ∷ [])

-- the transaction at a place becomes this one
abbrev pub changing : ApiState → ℕ → OpenTransaction → ApiState
changing s at t = with_opened s (slice_set s.opened at t)

-- a request is refused
abbrev pub refused : ApiState → Option ℕ → Refusal → Step ApiState
refused s name refusal = stay (replied (about s None) (Refused name refusal ∷ []))

-- signals and no marks
abbrev pub sends_only : List Outgoing → Effects
sends_only sends = record { sends = sends; marks = [] }
