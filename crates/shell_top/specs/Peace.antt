-- What the logs of a life say of it where nothing stops or cuts anybody off in it.
use Rattle.std.specs.Prelude.{◌≡◌, ℕ, true, List, [], ◌∷◌, ◌++◌, Some}
use Rattle.run_theory.specs.Cuts.{IsCut, IsClosed}
use Rattle.run_theory.specs.Lists.{Each}
use Rattle.cause_laws.specs.TurnedAway.{IsReplyCaused}
use Rattle.command_laws.specs.Answers.{IsAnsweredIn}
use Rattle.command_laws.specs.Between.{IsAskedAgain}
use Rattle.command_laws.specs.Living.{is_of_living}
use Rattle.node_core.specs.Replies.{replies_of}
use Rattle.peace_laws.specs.Laws.{IsAnsweredBy}
use Rattle.peace_laws.specs.Parts.{levelled_replies, plain_parts}
use Rattle.peace_laws.specs.Peace.{ArePeaceful, is_closing_request}
use Rattle.shell_top.specs.declared.ended.Ending.{Ending}
use Rattle.shell_top.specs.declared.ended.Ending.TheVariants.{NoMemory}
use Rattle.sig_core.specs.declared.reply.ApiReply.{ApiReply}
use Rattle.sig_core.specs.declared.request.ApiReq.{ApiReq}
use Rattle.world_core.specs.Machine as plain
use Rattle.world_core.specs.Requests.{request_in}
use Rattle.world_core.specs.Start.{Start}
use Rattle.world_core.specs.Steps.{HostStep}
use Rattle.world_views.specs.Quiet.{IsQuiet}
use Rattle.world_views.specs.Requests.{requests}
use Rattle.world_views.specs.Right.{replies_in}

-- Each request in these logs of a cluster in which nothing can fail is served between two quiet moments and answered
-- there as it should be; but for the last one, where memory was wanting.
abbrev pub EachIsAnswered : Start → Ending → (ℕ → List HostStep) → Type 0
EachIsAnswered start ending logs =
    (newer : List HostStep) (e : HostStep) (before : List HostStep) (request : ApiReq) → logs 0 ≡ newer ++ e ∷ before
    → request_in e.step.taken.body ≡ Some request
    → (ending ≡ NoMemory → IsAskedAgain start newer)
    → IsAnsweredIn start logs request before

-- A closing was asked for behind these requests, and answered before the next one, between two quiet moments of these
-- logs.
pub record IsClosedIn (start : Start) (logs : ℕ → List HostStep) (earlier : List ApiReq) (request : ApiReq) : Type 0
  where
    pub was : ℕ → List HostStep
    pub now : ℕ → List HostStep
    pub before : IsCut was now
    pub within : IsCut now logs
    pub quiet_before : IsQuiet start was
    pub quiet : IsQuiet start now
    pub asked_before : requests (was 0) ≡ earlier
    pub asked : requests (now 0) ≡ earlier ++ request ∷ []
    pub answered : IsAnsweredBy start request was now

-- so it is of each, but for the last request, where memory was wanting
abbrev pub EachIsClosed : Start → Ending → (ℕ → List HostStep) → Type 0
EachIsClosed start ending logs =
    (earlier later : List ApiReq) (request : ApiReq) → requests (logs 0) ≡ earlier ++ request ∷ later
    → is_closing_request request ≡ true → (ending ≡ NoMemory → later ≡ [] → ⊥) → IsClosedIn start logs earlier request

-- What the shell was replied in a log of its host, by the cluster in which nothing can fail.
abbrev pub replied : Start → List HostStep → List ApiReply
replied start log = replies_of (plain.after start 0 log)

-- Peaceful logs, of a session that ended so. Their plain parts, which leave out what is done for closings and have all
-- epochs made one, are the logs of a cluster in which nothing can fail: its shell was replied the same, but for the
-- views that it was shown, the ends of closings, and epochs; each request is answered; each abort that is told has its
-- cause in every closed cut; and no reply tells of a host that stopped. And each closing is answered in its own
-- command.
pub record IsPeacefullyServed (start : Start) (ending : Ending) (logs : ℕ → List HostStep) : Type 0 where
  pub peaceful : ArePeaceful logs
  pub replies : levelled_replies start.epoch (replies_in start 0 (logs 0)) ≡ replied start (plain_parts start logs 0)
  pub answered : EachIsAnswered start ending (plain_parts start logs)
  pub closed : EachIsClosed start ending logs
  pub caused : (inside : ℕ → List HostStep) → IsCut inside (plain_parts start logs)
      → IsClosed (plain.machine start) inside
      → Each (IsReplyCaused start inside) (replied start (inside 0))
  pub living : Each (λ (reply : ApiReply). is_of_living reply ≡ true) (replied start (plain_parts start logs 0))
