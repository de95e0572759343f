-- Whoever was lost at its coordinator is so for ever.
use Rattle.std.specs.Prelude.{◌≡◌, true, List, ◌∷◌, ℕ}
use Rattle.run_theory.specs.Lists.{IsIn}
use Rattle.sig_core.specs.declared.member.TxId.{TxId}
use Rattle.world_core.specs.Start.{Start, made}
use Rattle.world_core.specs.Steps.{HostStep}
use Rattle.moment_laws.specs.Moments.{IsMoment, logs_of}
use Rattle.outcome_laws.specs.Counts.{coordinator_member}
use Rattle.commit_laws.specs.Going.{is_lost}

abbrev pub LostStay : Type 0
LostStay =
    (start : Start) (all : ℕ → List HostStep) (e : HostStep) (es : List HostStep) → IsMoment start all (e ∷ es)
    → (tx : TxId) → IsIn (coordinator_member tx) (made start)
    → is_lost start (logs_of start es) tx ≡ true → is_lost start (logs_of start (e ∷ es)) tx ≡ true
