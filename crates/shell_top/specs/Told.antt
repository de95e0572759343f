-- The text of a log of host 0.
use Rattle.std.specs.Prelude.{ℕ, Bool, ◌==◌, if◌then◌else◌, List, [], ◌∷◌, ◌++◌, length, drop, Option, None, Some}
use Rattle.world_core.specs.Steps.{HostStep}
use Rattle.sig_core.specs.declared.reply.ApiReply.{ApiReply}
use Rattle.sig_core.specs.declared.request.ApiReq.{ApiReq}
use Rattle.sig_core.specs.declared.request.ApiReq.TheVariants as request
use Rattle.shell_top.specs.Arranged.{arranged}
use Rattle.shell_top.specs.declared.subject.Subject.{Subject}
use Rattle.shell_top.specs.declared.subject.Subject.TheVariants.{Other}
use Rattle.shell_top.specs.Subject.{subject_of}
use Rattle.shell_top.specs.Text.{down_line, reply_lines}
use Rattle.world_core.specs.Start.{Start}
use Rattle.world_views.specs.Requests.{request_of}
use Rattle.world_views.specs.Right.{replies_in}
use Rattle.world_views.specs.Shell.{finds_down}

-- the request that heads a command; further rounds and questions go on with the one before
abbrev pub heads_by : ApiReq → Option ApiReq
heads_by request.Waits = None
heads_by request.Pending = None
heads_by (request.Tick round rounds) = if round == 1 then Some (request.Tick round rounds) else None
heads_by asked = Some asked

abbrev pub heads : Option ApiReq → Option ApiReq
heads None = None
heads (Some asked) = heads_by asked

-- How far the text of a log has come: the text before its last command, what this one is about, how many replies were
-- given before it, and whether the cluster was down before it.
pub record Telling : Type 0 where
  pub done : List ℕ
  pub asked : Subject
  pub before : ℕ
  pub was_down : Bool

-- the text before, then the lines of the last command's replies, and at last that the cluster went down in it
abbrev pub told : Telling → List ApiReply → Bool → List ℕ
told t replies down =
    t.done ++ (reply_lines (arranged t.asked (drop t.before replies)) ++ down_line t.was_down down)

-- a step goes on with the last command, or begins one
abbrev pub telling_by : Telling → List ApiReply → Bool → Option ApiReq → Telling
telling_by t replies down None = t
telling_by t replies down (Some asked) =
    record { done = told t replies down; asked = subject_of asked; before = length replies; was_down = down }

abbrev pub telling : Start → List HostStep → Telling
telling start [] = record { done = []; asked = Other; before = 0; was_down = finds_down start [] }
telling start (e ∷ log) =
    telling_by (telling start log) (replies_in start 0 log) (finds_down start log) (heads (request_of e))

-- the text of a log: command after command, the lines of the replies to it
abbrev pub text_of : Start → List HostStep → List ℕ
text_of start log = told (telling start log) (replies_in start 0 log) (finds_down start log)
