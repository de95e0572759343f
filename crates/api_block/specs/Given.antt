-- The API, and replies that it gave already.
use Rattle.std.specs.Prelude.{List, ◌++◌}
use Rattle.sig_core.specs.declared.reply.ApiReply.{ApiReply}
use Rattle.sig_core.specs.Step.{Step}
use Rattle.api_block.specs.State.{ApiState, with_replies}

-- the API where none of these replies was given yet, which stand in front of the others
abbrev pub in_given : List ApiReply → ApiState → ApiState
in_given given s = with_replies s (given ++ s.replies)

-- and so after a step
abbrev pub step_in_given : List ApiReply → Step ApiState → Step ApiState
step_in_given given step = record { state = in_given given step.state; effects = step.effects }
