-- What holds of closed cuts of a life, whatever stopped and was cut off in it.
use Rattle.std.specs.Prelude.{◌≡◌, ◌≤◌, ◌<◌, ◌⊎◌, ℕ, true, false, List, Some}
use Rattle.frag_map.specs.Groups.{is_viable}
use Rattle.run_theory.specs.Lists.{Each, IsIn, IsPast}
use Rattle.report_laws.specs.Answered.{answers_of}
use Rattle.report_laws.specs.Asked.{operations_of}
use Rattle.sig_core.specs.declared.entry.Entry.{Entry}
use Rattle.sig_core.specs.declared.mark.Mark.TheVariants.{Closed, Durable, Reported}
use Rattle.sig_core.specs.declared.member.Member.{Member}
use Rattle.sig_core.specs.declared.member.TxId.{TxId}
use Rattle.sig_core.specs.declared.outcome.AbortCause.{AbortCause}
use Rattle.sig_core.specs.declared.outcome.AbortCause.TheVariants.{Down}
use Rattle.sig_core.specs.declared.outcome.Outcome.TheVariants.{Aborted, Committed}
use Rattle.sig_core.specs.declared.rows.PendingRecord.{PendingRecord}
use Rattle.sig_core.specs.declared.view.View.{View}
use Rattle.sig_core.specs.Same.{same_tx}
use Rattle.world_core.specs.Entries.{entries}
use Rattle.world_core.specs.History.{history, writes}
use Rattle.world_core.specs.Hosts.{hosts}
use Rattle.world_core.specs.Start.{Start, made}
use Rattle.world_core.specs.Steps.{HostStep}
use Rattle.world_views.specs.Machine.{has_stopped}
use Rattle.world_views.specs.SerialLaw.{IsSerial}
use Rattle.world_views.specs.Shell.{finds_down}
use Rattle.view_laws.specs.Runs.{WasInstalled}
use Rattle.outcome_laws.specs.Decided.{IsMarked}
use Rattle.outcome_laws.specs.Outcomes.{AreOnce, HasEntry, reports_in}
use Rattle.talk_laws.specs.Talks.{asked_of, told_of}
use Rattle.closing_laws.specs.Closed.{WasClosed}
use Rattle.commit_laws.specs.Cuts.{IsAnsweredOn}
use Rattle.commit_laws.specs.Traces.{record_at}

-- Two views of one number that hosts stood in are the same, and each has a full member in each group. The history is a
-- serial one: each answer in it is right, what was reported before another transaction was asked for stands before it,
-- epochs never fall along it, and a live replica of a key at rest has the row that it leaves. A transaction is decided
-- once at most, as its client asked for it and was answered, and reported once at most: where it is reported committed
-- it is in the history, with that epoch, and where it is reported aborted it isn't; since the cluster is down only
-- where it wasn't decided. An epoch that is durable was closed. While no host has stopped, the shell's host has never
-- found the cluster down.
pub record IsSafe (start : Start) (inside : ℕ → List HostStep) : Type 0 where
  pub one_view : (one other : View) → WasInstalled start inside one → WasInstalled start inside other
      → one.number ≡ other.number → one ≡ other
  pub viable : (view : View) → WasInstalled start inside view → is_viable start.shape view ≡ true
  pub serial : IsSerial start inside
  pub decided_once : AreOnce (entries (hosts start) inside)
  pub reported_once : (tx : TxId) → reports_in tx (inside 0) ≤ 1
  pub answered : (entry : Entry) → IsIn entry (entries (hosts start) inside)
      → (asked_of start entry.tx (inside 0) ≡ operations_of entry)
      × (told_of start entry.tx (inside 0) ≡ answers_of entry)
  pub committed : (tx : TxId) (epoch : ℕ) → IsMarked (Reported tx (Committed epoch)) (inside 0)
      → HasEntry tx epoch (history (hosts start) inside)
  pub aborted : (tx : TxId) (cause : AbortCause) → IsMarked (Reported tx (Aborted cause)) (inside 0)
      → Each (λ (entry : Entry). same_tx entry.tx tx ≡ false) (history (hosts start) inside)
  pub down : (tx : TxId) → IsMarked (Reported tx (Aborted Down)) (inside 0)
      → Each (λ (entry : Entry). same_tx entry.tx tx ≡ false) (entries (hosts start) inside)
  pub durable : (h epoch : ℕ) → h < hosts start → IsMarked (Durable epoch) (inside h) → WasClosed start inside epoch
  pub up : ((h : ℕ) → h < hosts start → has_stopped (inside h) ≡ false) → (log : List HostStep)
      → IsPast log (inside 0) → finds_down start log ≡ false

-- Of a closed cut and a larger one. Once an epoch is closed, or durable, whoever writes, and has that epoch or one
-- before it in the larger one's history, is in that of the smaller one. Of a transaction that is in the larger one's
-- history, members have the same image of a key in the smaller one, as far as they have a record of it on that key and
-- no operation of it there is unanswered.
pub record AreSafe (start : Start) (small large : ℕ → List HostStep) : Type 0 where
  pub closed : (h epoch : ℕ) → h < hosts start
      → (IsMarked (Closed epoch) (small h)) ⊎ (IsMarked (Durable epoch) (small h))
      → (entry : Entry) → IsIn entry (history (hosts start) large) → writes entry ≡ true → entry.epoch ≤ epoch
      → IsIn entry (history (hosts start) small)
  pub agreed : (tx : TxId) (key : List ℕ) → IsAnsweredOn start small tx key → (entry : Entry)
      → IsIn entry (history (hosts start) large) → entry.tx ≡ tx
      → (one other : Member) → IsIn one (made start) → IsIn other (made start) → (r q : PendingRecord)
      → record_at start small one key tx ≡ Some r → record_at start small other key tx ≡ Some q → r.image ≡ q.image
