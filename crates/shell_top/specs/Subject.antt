-- What a command is about, and which replies are its own.
use Rattle.std.specs.Prelude.{ℕ, ◌==◌, ◌&&◌, Bool, true, false, Option, None, Some}
use Rattle.script_lang.specs.declared.command.Command.{Command}
use Rattle.script_lang.specs.declared.command.Command.TheVariants as command
use Rattle.script_lang.specs.ReplyText.{name_of}
use Rattle.shell_top.specs.declared.subject.Subject.{Subject}
use Rattle.shell_top.specs.declared.subject.Subject.TheVariants.{Named, Alone, Stop, Closing, Other}
use Rattle.sig_core.specs.declared.outcome.StopCause.{StopCause}
use Rattle.sig_core.specs.declared.outcome.StopCause.TheVariants.{Killed}
use Rattle.sig_core.specs.declared.reply.ApiReply.{ApiReply}
use Rattle.sig_core.specs.declared.reply.ApiReply.TheVariants as reply
use Rattle.sig_core.specs.declared.request.ApiReq.{ApiReq}
use Rattle.sig_core.specs.declared.request.ApiReq.TheVariants as request

-- an operation without a name is a transaction of its own
abbrev pub named_or_alone : Option ℕ → Subject
named_or_alone (Some name) = Named name
named_or_alone None = Alone

-- what a command is about
abbrev pub subject_in : Command → Subject
subject_in (command.Begin name at) = Named name
subject_in (command.Operate name op) = named_or_alone name
subject_in (command.Commit name) = Named name
subject_in (command.Abort name) = Named name
subject_in (command.Kill node) = Stop node
subject_in command.Gcp = Closing
subject_in command.Micro = Closing
subject_in command.Lcp = Closing
subject_in _ = Other

-- and what the request is about that heads its requests
abbrev pub subject_of : ApiReq → Subject
subject_of (request.Begin name at) = Named name
subject_of (request.Operate name op) = named_or_alone name
subject_of (request.Commit name) = Named name
subject_of (request.Abort name) = Named name
subject_of (request.Kill node) = Stop node
subject_of request.Gcp = Closing
subject_of request.Micro = Closing
subject_of request.Lcp = Closing
subject_of _ = Other

-- a reply with this name may be a command's own: one with a name only where that is asked for
abbrev pub is_named : Subject → Option ℕ → Bool
is_named asked None = true
is_named (Named asked) (Some name) = asked == name
is_named _ (Some name) = false

abbrev pub is_alone : Subject → Bool
is_alone Alone = true
is_alone _ = false

abbrev pub is_closing : Subject → Bool
is_closing Closing = true
is_closing _ = false

abbrev pub is_stop_of : Subject → ℕ → Bool
is_stop_of (Stop asked) node = asked == node
is_stop_of _ node = false

abbrev pub is_killed : StopCause → Bool
is_killed Killed = true
is_killed _ = false

-- Of a command that is about this the reply is an own one: it tells what that asked for, and of no transaction of
-- another name, nor of a stop or closing that it didn't ask for.
abbrev pub is_own : Subject → ApiReply → Bool
is_own asked (reply.Stopped node cause) = is_killed cause && is_stop_of asked node
is_own asked (reply.Closed epoch) = is_closing asked
is_own asked (reply.Durable epoch) = is_closing asked
is_own asked (reply.Checkpoint epoch) = is_closing asked
is_own asked (reply.Answered None answer) = is_alone asked
is_own asked (reply.Ended None outcome) = is_alone asked
is_own asked told = is_named asked (name_of told)
