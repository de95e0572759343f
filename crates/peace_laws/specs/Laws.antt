-- Peaceful logs: a cluster that closes epochs, and may fail but doesn't, serves as the plain machine does, and closes.
use Rattle.std.specs.Prelude.{◌<◌, ◌≡◌, ◌≤◌, ℕ, Bool, true, false, List, [], ◌∷◌, ◌++◌}
use Rattle.std.specs.List.{list_any}
use Rattle.frag_map.specs.Shape.{IsShape}
use Rattle.node_core.specs.Replies.{replies_of}
use Rattle.run_theory.specs.Lists.{Each, IsPast}
use Rattle.run_theory.specs.Runs.{AreLogs, IsWithin}
use Rattle.sig_core.specs.declared.mark.Mark.{Mark}
use Rattle.sig_core.specs.declared.mark.Mark.TheVariants.{Reported, Stopped}
use Rattle.sig_core.specs.declared.member.TxId.{TxId}
use Rattle.sig_core.specs.declared.outcome.Outcome.TheVariants.{Committed}
use Rattle.sig_core.specs.declared.outcome.StopCause.TheVariants.{Clock}
use Rattle.sig_core.specs.declared.reply.ApiReply.TheVariants.{Closed, Durable}
use Rattle.sig_core.specs.declared.request.ApiReq.{ApiReq}
use Rattle.sig_core.specs.declared.request.ApiReq.TheVariants.{Gcp, Micro}
use Rattle.outcome_laws.specs.Decided.{IsMarked}
use Rattle.world_core.specs.Hosts.{first_hosts, hosts}
use Rattle.world_core.specs.Machine as plain
use Rattle.world_core.specs.Quiet as plain_quiet
use Rattle.world_core.specs.Requests as plain_requests
use Rattle.world_core.specs.Start.{NobodyStarts, Start}
use Rattle.world_core.specs.Steps.{HostStep}
use Rattle.world_views.specs.Machine.{machine}
use Rattle.world_views.specs.Quiet.{IsQuiet}
use Rattle.world_views.specs.Requests.{requests}
use Rattle.world_views.specs.Right.{replies_in}
use Rattle.calm_laws.specs.Resting.{NoneGivesUp}
use Rattle.peace_laws.specs.Parts.{levelled_replies, plain_parts}
use Rattle.peace_laws.specs.Peace.{ArePeaceful, is_closing_request, is_peaceful_request}

-- a host stopped since its numbers are used up
abbrev pub is_spent : Mark → Bool
is_spent (Stopped Clock) = true
is_spent mark = false

-- The logs went on by one request, which stops nobody and cuts nobody off, and no host's numbers are used up.
pub record GoOnBy (start : Start) (request : ApiReq) (logs more : ℕ → List HostStep) : Type 0 where
  pub past : (h : ℕ) → IsPast (logs h) (more h)
  pub right : AreLogs (machine start) more
  pub within : IsWithin (hosts start) more
  pub asked : requests (more 0) ≡ requests (logs 0) ++ request ∷ []
  pub peaceful : is_peaceful_request request ≡ true
  pub none : NoneGivesUp more
  pub unspent : (h : ℕ) → Each (λ e. list_any is_spent e.step.marks ≡ false) (more h)

-- The logs came about by these requests, the newest first, each asked when nothing was under way.
abbrev pub AreServedBy : Start → List ApiReq → (ℕ → List HostStep) → Type 0
AreServedBy start [] logs = (h : ℕ) → logs h ≡ []
AreServedBy start (request ∷ earlier) logs =
    (was : ℕ → List HostStep) × (AreServedBy start earlier was × (IsQuiet start was × GoOnBy start request was logs))

-- logs of a life that begins without rows, in which nothing fails
pub record IsPeacefulLife (start : Start) (asked : List ApiReq) (logs : ℕ → List HostStep) : Type 0 where
  pub shape : IsShape start.shape
  pub rows : start.rows ≡ []
  pub begins : start.start_epoch < start.epoch
  pub served : AreServedBy start asked logs

-- They are peaceful. Their plain parts are logs of the plain machine, whose shell was replied the same, but for views,
-- ends of closings, and epochs. Both were asked for the same, each time when nothing was under way; and where nothing
-- is under way, nothing is in the plain machine.
pub record ArePlain (start : Start) (logs : ℕ → List HostStep) : Type 0 where
  pub peaceful : ArePeaceful logs
  pub right : AreLogs (plain.machine start) (plain_parts start logs)
  pub within : IsWithin (first_hosts start) (plain_parts start logs)
  pub replies : levelled_replies start.epoch (replies_in start 0 (logs 0))
      ≡ replies_of (plain.after start 0 (plain_parts start logs 0))
  pub asked : plain_requests.requests (plain_parts start logs 0) ≡ requests (logs 0)
  pub at_quiet : plain_requests.AreAskedAtQuiet start (plain_parts start logs)
  pub quiet : IsQuiet start logs
      → plain_quiet.IsQuiet (plain.machine start) (first_hosts start) (plain_parts start logs)

abbrev pub PeacefulLivesArePlain : Type 0
PeacefulLivesArePlain =
    (start : Start) → NobodyStarts start → (asked : List ApiReq) (logs : ℕ → List HostStep)
    → IsPeacefulLife start asked logs
    → ArePlain start logs

-- A closing of an epoch was answered since then: the client was told that an epoch is closed, or durable, and nothing
-- else; and that isn't below the epoch of any transaction that had been reported as committed.
abbrev pub IsTold : ApiReq → Start → (was now : ℕ → List HostStep) → ℕ → Type 0
IsTold Gcp start was now epoch = replies_in start 0 (now 0) ≡ replies_in start 0 (was 0) ++ Durable epoch ∷ []
IsTold Micro start was now epoch = replies_in start 0 (now 0) ≡ replies_in start 0 (was 0) ++ Closed epoch ∷ []
IsTold request start was now epoch = ⊥

pub record IsAnsweredBy (start : Start) (request : ApiReq) (was now : ℕ → List HostStep) : Type 0 where
  pub epoch : ℕ
  pub told : IsTold request start was now epoch
  pub covers : (tx : TxId) (other : ℕ) → IsMarked (Reported tx (Committed other)) (was 0) → other ≤ epoch

-- so it is where nothing is under way any more
abbrev pub ClosingsAreAnswered : Type 0
ClosingsAreAnswered =
    (start : Start) → NobodyStarts start → (earlier : List ApiReq) (request : ApiReq) (was now : ℕ → List HostStep)
    → IsPeacefulLife start earlier was → IsQuiet start was → is_closing_request request ≡ true
    → GoOnBy start request was now → IsQuiet start now → IsAnsweredBy start request was now
