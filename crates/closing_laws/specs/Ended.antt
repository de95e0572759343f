-- Transactions that have ended at their node.
use Rattle.std.specs.Prelude.{◌≡◌, ℕ, Bool, true, false, List, None}
use Rattle.std.specs.List.{list_any}
use Rattle.run_theory.specs.Lists.{IsIn}
use Rattle.dih_node.specs.declared.dih.Counted.{Counted}
use Rattle.sig_core.specs.declared.member.TxId.{TxId}
use Rattle.sig_core.specs.Same.{same_tx}
use Rattle.world_core.specs.Start.{Start, made}
use Rattle.world_core.specs.Steps.{HostStep}
use Rattle.moment_laws.specs.Moments.{IsMoment, logs_of}
use Rattle.outcome_laws.specs.Counts.{coordinator_member}
use Rattle.epoch_laws.specs.Members.{epochs_of}
use Rattle.commit_laws.specs.Commits.{IsDone}
use Rattle.commit_laws.specs.Going.{is_decided, is_forth, own_live}

-- its node counts the transaction among those that have an epoch and haven't ended
abbrev pub is_counted : Start → (ℕ → List HostStep) → TxId → Bool
is_counted start logs tx =
    list_any (λ (one : Counted). same_tx one.tx tx) (epochs_of start logs (coordinator_member tx)).counted

-- whoever was decided and isn't counted any more is forgotten by its coordinator
abbrev pub UncountedAreForgotten : Type 0
UncountedAreForgotten =
    (start : Start) (all : ℕ → List HostStep) (es : List HostStep) → IsMoment start all es → (tx : TxId)
    → IsIn (coordinator_member tx) (made start) → is_decided start (logs_of start es) tx ≡ true
    → is_counted start (logs_of start es) tx ≡ false → own_live start (logs_of start es) tx ≡ None

-- whoever was committed by its coordinator, and is forgotten, is done
abbrev pub ForgottenAreDone : Type 0
ForgottenAreDone =
    (start : Start) (all : ℕ → List HostStep) (es : List HostStep) → IsMoment start all es → (tx : TxId)
    → is_forth start (logs_of start es) tx ≡ true → own_live start (logs_of start es) tx ≡ None
    → IsDone start (logs_of start es) tx
