-- What the shell asks for: command after command, and about each that leaves something of its own unanswered.
use Rattle.std.specs.Prelude.{◌≡◌, ◌⊎◌, ℕ, zero, suc, ◌+◌, ◌-◌, Bool, true, false, List, [], ◌∷◌, ◌++◌, reverse, take}
use Rattle.std.specs.Prelude.{slice_get, is_some, Option, None, Some}
use Rattle.std.specs.List.{list_all}
use Rattle.run_theory.specs.Lists.{IsPast}
use Rattle.script_lang.specs.declared.command.Command.{Command}
use Rattle.script_lang.specs.declared.command.Command.TheVariants as command
use Rattle.script_lang.specs.Spelling.{IsOperation}
use Rattle.world_core.specs.Steps.{HostStep}
use Rattle.sig_core.specs.declared.request.ApiReq.{ApiReq}
use Rattle.sig_core.specs.declared.request.ApiReq.TheVariants as request
use Rattle.world_core.specs.Start.{Start}
use Rattle.world_views.specs.Requests.{request_of, requests}
use Rattle.world_views.specs.Shell.{finds_down, leaves_open}

-- n rounds more behind the first one, of so many
abbrev pub rounds_behind : ℕ → ℕ → List ApiReq
rounds_behind rounds zero = []
rounds_behind rounds (suc n) = rounds_behind rounds n ++ request.Tick (n + 2) rounds ∷ []

-- the requests of a command: one, or of a tick one for each round, as long as the cluster isn't down
abbrev pub requests_of : Command → List ApiReq
requests_of (command.Begin name at) = request.Begin name at ∷ []
requests_of (command.Operate name op) = request.Operate name op ∷ []
requests_of (command.Commit name) = request.Commit name ∷ []
requests_of (command.Abort name) = request.Abort name ∷ []
requests_of (command.Kill at) = request.Kill at ∷ []
requests_of (command.Cut one other) = request.Cut one other ∷ []
requests_of command.Micro = request.Micro ∷ []
requests_of command.Gcp = request.Gcp ∷ []
requests_of command.Lcp = request.Lcp ∷ []
requests_of command.View = request.View ∷ []
requests_of (command.Tick rounds) = request.Tick 1 rounds ∷ rounds_behind rounds (rounds - 1)
requests_of (command.Rows at) = request.Rows at ∷ []
requests_of (command.Digest at) = request.Digest at ∷ []
requests_of command.Restart = request.Restart ∷ []
requests_of _ = []

-- a life serves it
abbrev pub is_served : Command → Bool
is_served (command.Begin name at) = true
is_served (command.Operate name op) = true
is_served (command.Commit name) = true
is_served (command.Abort name) = true
is_served (command.Kill at) = true
is_served (command.Cut one other) = true
is_served (command.Tick rounds) = true
is_served command.Micro = true
is_served command.Gcp = true
is_served command.Lcp = true
is_served command.View = true
is_served (command.Rows at) = true
is_served (command.Digest at) = true
is_served command.Restart = true
is_served _ = false

-- the session does: a life, or what ends it
abbrev pub is_asked_for : Command → Bool
is_asked_for command.Crash = true
is_asked_for command = is_served command

-- the command stops nobody, cuts nobody off, asks for no local checkpoint, and is none of the cluster's lives
abbrev pub is_peaceful_command : Command → Bool
is_peaceful_command (command.Kill at) = false
is_peaceful_command (command.Cut one other) = false
is_peaceful_command command.Crash = false
is_peaceful_command command.Restart = false
is_peaceful_command command.Lcp = false
is_peaceful_command _ = true

abbrev pub are_peaceful : List Command → Bool
are_peaceful commands = list_all is_peaceful_command commands

-- what is asked about a command that left something of its own unanswered
abbrev pub questions : List ApiReq
questions = request.Waits ∷ request.Pending ∷ []

-- the step behind `served` is a request
pub record IsAskedNext (served log : List HostStep) : Type 0 where
  pub newer : List HostStep
  pub asking : HostStep
  pub is : log ≡ newer ++ asking ∷ served
  pub asks : is_some (request_of asking) ≡ true

-- The log went on from `served`, where a command's own requests were served, to its end: at once where nothing of its
-- own was unanswered, and else the shell asked what it waits for, and then for its replies.
abbrev pub AsksOn : List HostStep → List HostStep → Bool → Type 0
AsksOn served log false = log ≡ served
AsksOn served log true = IsAskedNext served log × (requests log ≡ requests served ++ questions)

-- a command may be asked of a cluster that is down, or not: one that is down is restarted by the session itself
abbrev pub MayAsk : Command → Bool → Type 0
MayAsk command.Restart down = down ≡ false
MayAsk command down = Unit {0}

-- a command for an operation is for one whose key and value are words
abbrev pub IsOfWords : Command → Type 0
IsOfWords (command.Operate name op) = IsOperation op
IsOfWords command = Unit {0}

-- The cluster isn't down behind `before`, and there this was asked for; behind that it goes on as told.
pub record IsAskedUp (start : Start) (request : ApiReq) (before : List HostStep) (GoesOn : List HostStep → Type 0)
    : Type 0
  where
    pub served : List HostStep
    pub up : finds_down start before ≡ false
    pub next : IsAskedNext before served
    pub own : requests served ≡ requests before ++ request ∷ []
    pub on : GoesOn served

-- These requests were asked for behind `before`, one after the other, each of a cluster that isn't down.
abbrev pub AreAskedUp : Start → List ApiReq → (log before : List HostStep) → Type 0
AreAskedUp start [] log before = log ≡ before
AreAskedUp start (request ∷ further) log before = IsAskedUp start request before (AreAskedUp start further log)

-- Of these requests the first ones were so asked for; others are left out only where the cluster is down behind those.
pub record AreAskedWhileUp (start : Start) (further : List ApiReq) (before log : List HostStep) : Type 0 where
  pub asked : List ApiReq
  pub left_out : List ApiReq
  pub are : further ≡ asked ++ left_out
  pub up : AreAskedUp start asked log before
  pub cause : (left_out ≡ []) ⊎ (finds_down start log ≡ true)

-- A command's own requests were asked for behind `before`: its first one, and the further ones while the cluster isn't
-- down.
pub record AsksOwn (start : Start) (command : Command) (before log : List HostStep) : Type 0 where
  pub first : ApiReq
  pub further : List ApiReq
  pub are : requests_of command ≡ first ∷ further
  pub begun : List HostStep
  pub next : IsAskedNext before begun
  pub own : requests begun ≡ requests before ++ first ∷ []
  pub on : AreAskedWhileUp start further begun log

-- A command was asked for behind `before`, in host 0's log.
pub record AsksCommand (start : Start) (command : Command) (before log : List HostStep) : Type 0 where
  pub served : List HostStep
  pub may : MayAsk command (finds_down start before)
  pub own : AsksOwn start command before served
  pub on : AsksOn served log (leaves_open start served)

-- the commands before were asked for, and then this one
pub record AsksAfter (start : Start) (command : Command) (log : List HostStep) (AreAskedBefore : List HostStep → Type 0)
    : Type 0 where
  pub before : List HostStep
  pub earlier : AreAskedBefore before
  pub asks : AsksCommand start command before log

-- The commands, the last one first, were asked for one after the other, in host 0's log.
abbrev pub AreAsked : Start → List Command → List HostStep → Type 0
AreAsked start [] log = requests log ≡ []
AreAsked start (command ∷ earlier) log = AsksAfter start command log (AreAsked start earlier)

-- a first part of these requests was asked for behind `before`
pub record AsksFirstOf (asked : List ApiReq) (before log : List HostStep) : Type 0 where
  pub part : ℕ
  pub begun : requests log ≡ requests before ++ take part asked

-- A command's own requests were served, and left something of its own unanswered; so a first part of the questions was
-- asked.
pub record AsksOnInPart (start : Start) (command : Command) (before log : List HostStep) : Type 0 where
  pub served : List HostStep
  pub past : IsPast served log
  pub own : AsksOwn start command before served
  pub left_open : leaves_open start served ≡ true
  pub on : AsksFirstOf questions served log

-- a first part of what is asked for a command, if there is one, was asked for
abbrev pub AsksInPart : Start → Option Command → List HostStep → List HostStep → Type 0
AsksInPart start None before log = requests log ≡ requests before
AsksInPart start (Some command) before log =
    AsksFirstOf (requests_of command) before log ⊎ AsksOnInPart start command before log

-- the first commands were asked for, in host 0's log, and nothing else
pub record AreAskedInFront (start : Start) (commands : List Command) (log : List HostStep) : Type 0 where
  pub count : ℕ
  pub asked : AreAsked start (reverse (take count commands)) log

-- The first commands were asked for, and of the next one a first part of what is asked for it, in host 0's log.
pub record AreAskedInPart (start : Start) (commands : List Command) (log : List HostStep) : Type 0 where
  pub count : ℕ
  pub before : List HostStep
  pub asked : AreAsked start (reverse (take count commands)) before
  pub past : IsPast before log
  pub begun : AsksInPart start (slice_get commands count) before log
