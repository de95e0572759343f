-- A commit is remembered until the client's side knows of it.
use Rattle.std.specs.Prelude.{◌≡◌, ◌||◌, ℕ, true, List, ◌∷◌}
use Rattle.run_theory.specs.Lists.{Each, IsIn}
use Rattle.sig_core.specs.declared.member.Member.{Member}
use Rattle.sig_core.specs.declared.member.TxId.{TxId}
use Rattle.sig_core.specs.declared.rows.PendingRecord.{PendingRecord}
use Rattle.world_core.specs.Start.{Start, made}
use Rattle.world_core.specs.Steps.{HostStep}
use Rattle.moment_laws.specs.Moments.{IsMoment, logs_of}
use Rattle.commit_laws.specs.Traces.{has_marker_at, is_known, leave_trace, rows_at}

module _ (start : Start) (logs : ℕ → List HostStep) where
  -- beside each committed record stands a marker of its commit
  abbrev pub IsRemembered : Member → PendingRecord → Type 0
  IsRemembered member r =
      r.committed ≡ true → (has_marker_at start logs member r.key r.tx || is_known start logs r.tx) ≡ true

  abbrev pub AreRemembered : Type 0
  AreRemembered =
      (member : Member) → IsIn member (made start)
      → Each (IsRemembered member) (rows_at start logs member).lqh.rows.pending

abbrev pub CommitsAreRemembered : Type 0
CommitsAreRemembered =
    (start : Start) (all : ℕ → List HostStep) (es : List HostStep) → IsMoment start all es
    → AreRemembered start (logs_of start es)

-- and so a trace stays
abbrev pub TracesStay : Type 0
TracesStay =
    (start : Start) (all : ℕ → List HostStep) (e : HostStep) (es : List HostStep) → IsMoment start all (e ∷ es)
    → (member : Member) → IsIn member (made start) → (tx : TxId)
    → leave_trace tx (rows_at start (logs_of start es) member) ≡ true
    → (leave_trace tx (rows_at start (logs_of start (e ∷ es)) member) || is_known start (logs_of start (e ∷ es)) tx)
    ≡ true
